use Rattle.std.proofs.Common.{◌∙◌, Ok, ap, sym, subst}
use Rattle.coder_api.specs.Meaning.{Takes, IsConfigured, command_of}
use Rattle.raw_video.specs.declared.encoder.Setting.{Setting}
use Rattle.raw_video.specs.Encoder.{EncoderValue, meaning_of, answer_in, after, GivesUnits}
use Rattle.raw_video.proofs.EncoderLaws.{encoder_takes}
use Rattle.raw_video.proofs.encoder.RawVideoEncoderCoder.push.Goals as goal

pub returns-in-Ok-clause-takes : goal.returns-in-Ok-clause-takes
returns-in-Ok-clause-takes c =
    let s : Setting = c.self.inside.setting in
    let t : Setting = c.in-Ok.setting in
    let ready = subst (λ (v : EncoderValue). IsConfigured v.meaning) (sym c.self.view_is) c.requires.configured in
    let units = subst (λ (p : Setting). GivesUnits (answer_in p (command_of c.args.input.now)) (Ok t) c.args.out.now.items c.take.new.out.items) c.replace-setting.ensures.value c.in-Ok.ensures.units in
    let is = c.in-Ok.ensures.after ∙ ap (λ (p : Setting). after p (command_of c.args.input.now)) c.replace-setting.ensures.value in
    subst (λ (v : EncoderValue). Takes v.id v.meaning (command_of c.args.input.now) (Ok tt) c.args.out.now.items c.take.new.out.items (meaning_of t)) c.self.view_is
    (encoder_takes c.self.inside.format s t c.args.input.now c.args.out.now.items c.take.new.out.items c.self.invariant ready units is)
