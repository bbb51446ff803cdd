use Rattle.std.proofs.Common.{Ok, subst}
use Rattle.codec_definitions.specs.declared.command.Command.TheVariants as command
use Rattle.coder_api.specs.Meaning.{IsConfigured, Takes}
use Rattle.flac_decode.specs.Coder.{DecoderValue, decoder_id}
use Rattle.flac_decode.proofs.Drained.{drains}
use Rattle.flac_decode.proofs.coder.FlacDecoderCoder.drain.Goals as goal

pub returns-clause-drains : goal.returns-clause-drains
returns-clause-drains c =
    let out = c.args._out.now.items in
    subst (λ (v : DecoderValue). IsConfigured v.meaning → Takes decoder_id v.meaning command.Drain (Ok tt) out out v.meaning) c.self.view_is (drains c.self.inside.setting out) c.requires
