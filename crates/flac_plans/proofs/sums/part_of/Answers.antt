use Rattle.std.proofs.Common.{ℕ, List, ap, sym, ◌∙◌, ◌*◌, ◌+◌, ◌-◌, ◌≡◌, map, take, drop}
use Rattle.std.proofs.lemmas.List.{take-map, drop-map}
use Rattle.flac_definitions.specs.ResidualSpelling.{folded_value}
use Rattle.flac_plans.proofs.sums.part_of.Goals as goal

pub returns-clause-value : goal.returns-clause-value
returns-clause-value c =
    let xs = c.args.residual.now in
    let b = c.args.j * c.args.size - c.args.order in
    let n = (c.args.j + 1) * c.args.size - c.args.order - b in
    let same : take n (drop b (map folded_value xs)) ≡ map folded_value (take n (drop b xs)) = ap (λ (l : List ℕ). take n l) (drop-map folded_value b xs) ∙ take-map folded_value n (drop b xs) in
    ap (λ (k : ℕ). map folded_value (take ((c.args.j + 1) * c.args.size - c.args.order - k) (drop k xs))) c.saturating_sub-begin.ensures ∙ sym same
