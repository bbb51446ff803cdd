use Rattle.std.proofs.Common.{ℕ, ◌<◌, ◌*◌, ◌^◌}
use Rattle.codec_definitions.specs.Pcm.{format_size}
use Rattle.wc_audio.specs.Copies.{width_of, copy_size}
use Rattle.wc_audio.proofs.Plans.{if_product, product_is}
use Rattle.wc_audio.proofs.planning.copy_size.Goals as goal

pub returns-clause-some : goal.returns-clause-some
returns-clause-some c =
    let shape = c.args.shape.now in
    let p = c.args.p.now in
    let v : ℕ = c.width.result * p.count * c.format_size.result in
    if_product c.checked_mul.result (v < 2 ^ 64) v (copy_size shape p) c.checked_mul.ensures
    (product_is c.width.result (width_of shape p) c.format_size.result (format_size p.format) p.count c.width.ensures.value c.format_size.ensures.value)
