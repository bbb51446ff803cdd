use Rattle.std.proofs.Common.{ℕ, ◌≡◌, ◌∙◌, ◌%◌, List, length, IfOk, ap, subst}
use Rattle.g711.specs.Slices.{codes_of}
use Rattle.sample_coder.proofs.Coded.{are_bytes, codes_coded, even}
use Rattle.sample_coder.proofs.coding.codes.Goals as goal

pub codes_of-requires-else-is_same : goal.codes_of-requires-else-is_same
codes_of-requires-else-is_same c =
    ap (λ (xs : List ℕ). length xs % 2) (c.deref.ensures.value ∙ c.in_ok-interleaved.ensures) ∙ even c.args.shape.now c.args.bytes.now

pub returns-then-is_same : goal.returns-then-is_same
returns-then-is_same c =
    let bytes = c.args.bytes.now in
    let e = ap (codes_of c.args.law) c.interleaved_stays.ensures ∙ codes_coded c.args.law c.args.shape.now bytes (are_bytes bytes c.type_inv.bytes) c.sixteen_bits_come_back.ensures in
    subst (λ (x : List ℕ). IfOk c.codes_of.result (λ b. b ≡ x)) e c.codes_of.ensures

pub returns-in_ok-interleaved : goal.returns-in_ok-interleaved
returns-in_ok-interleaved c =
    let bytes = c.args.bytes.now in
    let e = ap (codes_of c.args.law) (c.deref.ensures.value ∙ c.in_ok-interleaved.ensures) ∙ codes_coded c.args.law c.args.shape.now bytes (are_bytes bytes c.type_inv.bytes) c.sixteen_bits_come_back.ensures in
    subst (λ (x : List ℕ). IfOk c.codes_of-else-is_same.result (λ b. b ≡ x)) e c.codes_of-else-is_same.ensures
