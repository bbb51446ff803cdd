use Rattle.std.proofs.Common.{ℕ, ℤ, ◌≡◌, ◌+◌, ◌-◌, ◌*◌, take, drop, ap, ◌∙◌, arith}
use mir.Syntax.{w32}
use mir.Val.{SFits}
use Rattle.std.proofs.lemmas.Int.{to_z-of_z}
use Rattle.codec_definitions.specs.Pcm.{sample_of, converted}
use Rattle.c_library.proofs.Filled.{in_four}
use Rattle.c_library.proofs.frames.sample_in.Goals as goal

pub returns-else-depth-le16 : goal.returns-else-depth-le16
returns-else-depth-le16 c =
    let value = c.narrowed-else-depth-le16.result in
    let fits : SFits w32 value = record { sfits = c.narrowed-else-depth-le16.type_inv } in
    let four = c.four_bytes.result in
    let four_fits : SFits w32 four = record { sfits = c.four_bytes.type_inv } in
    let count : 4 * c.args.i + 4 - 4 * c.args.i ≡ 4 = omega arith in
    to_z-of_z w32 value fits
    ∙ (c.narrowed-else-depth-le16.ensures
    ∙ (ap (λ (v : ℤ). converted 32 c.args.depth v) (to_z-of_z w32 four four_fits
    ∙ (c.four_bytes.ensures
    ∙ ap (λ (n : ℕ). sample_of 4 (take n (drop (4 * c.args.i) c.args.bytes.now))) count))
    ∙ in_four c.args.depth c.args.bytes.now c.args.i c.if-depth-le16.false))
