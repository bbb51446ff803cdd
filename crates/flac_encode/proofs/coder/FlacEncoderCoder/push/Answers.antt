use Rattle.std.proofs.Common.{rules, sym, subst}
use Rattle.coder_api.specs.Meaning.{IsConfigured, Takes, command_of}
use Rattle.flac_encode.specs.Value.{EncoderValue, encoder_id, meaning_of}
use Rattle.flac_encode.proofs.Meets.{takes_from}
use Rattle.flac_encode.proofs.coder.FlacEncoderCoder.push.Goals as goal

pub returns-else-is_err-clause-takes : goal.returns-else-is_err-clause-takes
returns-else-is_err-clause-takes c =
    let x = command_of c.args.input.now in
    let new = meaning_of c.take-result.new.setting in
    let ready = subst (λ (v : EncoderValue). IsConfigured v.meaning) (sym c.self.view_is) c.requires.configured in
    subst (λ (v : EncoderValue). Takes encoder_id v.meaning x c.take-result.result c.args.out.now.items c.take-result.new.out.items new) c.self.view_is
    (takes_from c.self.inside.setting x c.take-result.result c.args.out.now.items c.take-result.new.out.items new c.self.invariant ready c.take-result.ensures.answer c.take-result.ensures.after (search rules))
