use Rattle.std.proofs.Common.{◌∙◌, Ok, ap, sym, subst}
use Rattle.coder_api.specs.Meaning.{Takes, IsConfigured, command_of}
use Rattle.raw_video.specs.declared.coder.Setting.{Setting}
use Rattle.raw_video.specs.Value.{RawValue, meaning_of, answer_in, after, GivesUnits}
use Rattle.raw_video.proofs.CoderLaws.{takes_ok}
use Rattle.raw_video.proofs.coder.RawVideoCoder.push.Goals as goal

pub returns-in-Ok-clause-takes : goal.returns-in-Ok-clause-takes
returns-in-Ok-clause-takes c =
    let s : Setting = c.self.inside.setting in
    let t : Setting = c.in-Ok.setting in
    let ready = subst (λ (v : RawValue). IsConfigured v.meaning) (sym c.self.view_is) c.requires.configured in
    let units = subst (λ (p : Setting). GivesUnits (answer_in p (command_of c.args.input.now)) (Ok t) c.args.out.now.items c.take.new.out.items) c.replace-setting.ensures.value c.in-Ok.ensures.units in
    let is = c.in-Ok.ensures.after ∙ ap (λ (p : Setting). after p (command_of c.args.input.now)) c.replace-setting.ensures.value in
    subst (λ (v : RawValue). Takes v.id v.meaning (command_of c.args.input.now) (Ok tt) c.args.out.now.items c.take.new.out.items (meaning_of t)) c.self.view_is
    (takes_ok c.self.inside.format s t c.args.input.now c.args.out.now.items c.take.new.out.items c.self.invariant c.in-Ok.ensures.bytes ready units is)
