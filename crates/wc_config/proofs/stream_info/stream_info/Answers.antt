use Rattle.std.proofs.Common.{arith}
use Rattle.std.proofs.lemmas.Grind.{common_steps}
use Rattle.wc_config.proofs.Numbers.{stream_fields}
use Rattle.wc_config.proofs.stream_info.stream_info.Goals as goal

pub returns : goal.returns
returns c =
    stream_fields c.args.block.now c.big_endian-blocks.result c.big_endian-frames.result c.big_endian-rest.result c.copy_from_slice.new.self c.requires c.copy_from_slice.ensures.after c.big_endian-blocks.ensures.value c.big_endian-frames.ensures.value c.big_endian-rest.ensures.value
    (grind (arith, common_steps, c.requires, c.big_endian-blocks.ensures.bound))
    (grind (arith, common_steps, c.requires, c.big_endian-frames.ensures.bound))
    c.big_endian-rest.type_inv
