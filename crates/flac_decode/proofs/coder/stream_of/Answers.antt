use Rattle.std.proofs.Common.{Option, ap, sym, ◌∙◌, is_some}
use Rattle.wc_config.specs.declared.stream_info.StreamInfo.{StreamInfo}
use Rattle.wc_config.specs.Configs.{has_streaminfo}
use Rattle.wc_config.specs.Streams.{streaminfo_of}
use Rattle.flac_decode.proofs.Served.{has_description, no}
use Rattle.flac_decode.proofs.coder.stream_of.Goals as goal

pub unreachable-requires : goal.unreachable-requires
unreachable-requires c =
    let e = ap has_streaminfo c.in-Some.is ∙ ap (λ (o : Option StreamInfo). is_some o) (ap streaminfo_of (sym c.as_slice.ensures) ∙ sym c.read_streaminfo.ensures ∙ c.in-None-read_streaminfo.is) in
    no (sym e ∙ has_description c.args.c.now c.requires)
