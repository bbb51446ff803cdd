use Rattle.std.proofs.Common.{◌<◌, ◌≤◌, subst, sym}
use Rattle.wc_config.specs.declared.config.{AudioDecoderConfig.AudioDecoderConfig, AudioEncoderConfig.AudioEncoderConfig}
use Rattle.sample_coder.specs.{Coding.id_of, Value.IsInRange, declared.coder.Setting.Setting}
use Rattle.sample_coder.proofs.Served.{decoder_range, encoder_range, sampled}
use Rattle.sample_coder.proofs.coder.setting_of.Goals as goal

pub returns-in_ok-copy-in-AudioDecoder-clause-range :
    goal.returns-in_ok-copy-in-AudioDecoder-clause-range
returns-in_ok-copy-in-AudioDecoder-clause-range c =
    subst (λ (x : AudioDecoderConfig). (0 < x.rate) × (0 < x.channels) × (x.channels ≤ 32)) (sym c.in_ok-copy-in-AudioDecoder.ensures) (decoder_range (record { role = c.args.role; codec = id_of c.args.coding }) c.in-AudioDecoder.c (sampled c.args.coding) (rw c.in-AudioDecoder.is at c.requires))

pub returns-in_ok-copy-in-AudioEncoder-clause-range :
    goal.returns-in_ok-copy-in-AudioEncoder-clause-range
returns-in_ok-copy-in-AudioEncoder-clause-range c =
    subst (λ (x : AudioEncoderConfig). IsInRange (Setting.Encoder x)) (sym c.in_ok-copy-in-AudioEncoder.ensures) (encoder_range (record { role = c.args.role; codec = id_of c.args.coding }) c.in-AudioEncoder.c (sampled c.args.coding) (rw c.in-AudioEncoder.is at c.requires))
