-- From the finest plan to the coarsest.
use Rattle.std.proofs.Common.{ℕ, zero, suc, ◌≡◌, ◌<◌, ◌≤◌, ◌+◌, ◌-◌, ◌*◌, ◌/◌, ◌%◌, ◌^◌, true, List, length, map, sum_by, inl, inr, refl, ap, sym, subst, ◌∙◌, arith}
use Rattle.std.specs.List.{range_with_len}
use Rattle.std.proofs.Math.Nat.{mul-div_right, pow-suc}
use Rattle.std.proofs.lemmas.List.FromFn.{get_or-map-range_with_len, length-map-range_with_len}
use Rattle.std.proofs.Common.{get_or}
use Rattle.std.proofs.lemmas.Bool.{cases_lt}
use Rattle.std.proofs.lemmas.Nat.{pow_pos, one_shl}
use Rattle.flac_definitions.specs.declared.plan.RicePlan.{RicePlan}
use Rattle.flac_definitions.specs.Plans.{best_parameter, part_of, part_bits, fits, finest, plan_bits, best_partition, cost, IsPlan, IsUsable}
use Rattle.flac_plans.specs.Search.{IsFirstLeast}
pub use Rattle.flac_plans.specs.FitLaws.{fits_whole, fits_lower}
use Rattle.flac_plans.proofs.Windows.{one_first, takes_front, keeps_front, first_is, is_first}

pub one_shifted : (p : ℕ) → p ≤ 15 → 1 * 2 ^ p % 2 ^ 64 ≡ 2 ^ p
one_shifted p l = one_shl p 64 (omega (arith, l))

-- half as many parts, twice as large
pub halved_parts : (p parts : ℕ) → 0 < p → parts ≡ 2 ^ p → (parts / 2 ≡ 2 ^ (p - 1)) × (2 * (parts / 2) ≡ parts)
halved_parts zero parts some e = absurd (omega (arith, some))
halved_parts (suc p) parts some e =
    let power : 2 ^ (suc p - 1) ≡ 2 ^ p = ap (λ (x : ℕ). 2 ^ x) (omega arith) in
    (omega (arith, e, pow-suc 2 p, power), omega (arith, e, pow-suc 2 p))

pub doubled_size : (block p parts size : ℕ) → 0 < p → parts ≡ 2 ^ p → parts * size ≡ block → (size * 2 ≡ block / 2 ^ (p - 1)) × ((parts / 2) * (size * 2) ≡ block)
doubled_size block p parts size some e whole =
    let h = halved_parts p parts some e in
    let product : (parts / 2) * (size * 2) ≡ block = omega (arith, ap (λ (x : ℕ). x * size) h.1, whole) in
    let q = 2 ^ (p - 1) in
    let exact : q * (size * 2) ≡ block = ap (λ (x : ℕ). x * (size * 2)) (sym h.0) ∙ product in
    (sym (mul-div_right (size * 2) {m = q} (pow_pos (p - 1))) ∙ ap (λ (x : ℕ). x / q) exact, product)

pub plan_is : (block order : ℕ) (zs : List ℕ) (p size parts : ℕ) (plan : RicePlan) → size ≡ block / 2 ^ p → parts ≡ 2 ^ p → plan.partition ≡ p →
    plan.parameters.items ≡ map (λ j. best_parameter (part_of size order zs j)) (range_with_len 0 parts) → plan.bits ≡ 6 + sum_by (λ j. part_bits (part_of size order zs j)) (range_with_len 0 parts) → IsPlan block order zs p plan
plan_is block order zs p size parts plan s n a b c = record {
  partition = a;
  parameters = b ∙ (ap (λ (x : ℕ). map (λ (j : ℕ). best_parameter (part_of x order zs j)) (range_with_len 0 parts)) s ∙ ap (λ (x : ℕ). map (λ (j : ℕ). best_parameter (part_of (block / 2 ^ p) order zs j)) (range_with_len 0 x)) n);
  bits = c ∙ (ap (λ (x : ℕ). 6 + sum_by (λ (j : ℕ). part_bits (part_of x order zs j)) (range_with_len 0 parts)) s ∙ ap (λ (x : ℕ). 6 + sum_by (λ (j : ℕ). part_bits (part_of (block / 2 ^ p) order zs j)) (range_with_len 0 x)) n);
}

same_plan : (block order : ℕ) (zs : List ℕ) (p q : ℕ) (a b : RicePlan) → p ≡ q → a ≡ b → IsPlan block order zs p a → IsPlan block order zs q b
same_plan block order zs p q a b e f h = subst (λ (x : RicePlan). IsPlan block order zs q x) f (subst (λ (x : ℕ). IsPlan block order zs x a) e h)

pub first_plan : (block order : ℕ) (zs : List ℕ) (p : ℕ) (plan : RicePlan) → IsPlan block order zs p plan → IsFirstLeast (plan_bits block order zs) p p plan.partition × IsPlan block order zs plan.partition plan
first_plan block order zs p plan h = (subst (λ (x : ℕ). IsFirstLeast (plan_bits block order zs) p p x) (sym h.partition) (one_first (plan_bits block order zs) p), same_plan block order zs p plan.partition plan plan (sym h.partition) refl h)

pub better_plan : (block order : ℕ) (zs : List ℕ) (p finest : ℕ) (plan best result : RicePlan) → 0 < p → IsFirstLeast (plan_bits block order zs) p finest best.partition → IsPlan block order zs best.partition best → IsPlan block order zs (p - 1) plan →
    (plan.bits ≤ best.bits → result ≡ plan) → (best.bits < plan.bits → result ≡ best) → IsFirstLeast (plan_bits block order zs) (p - 1) finest result.partition × IsPlan block order zs result.partition result
better_plan block order zs p finest plan best result some least here next first second =
    let f = plan_bits block order zs in
    let behind : suc (p - 1) ≡ p = omega (arith, some) in
    let before : IsFirstLeast f (suc (p - 1)) finest best.partition = subst (λ (x : ℕ). IsFirstLeast f x finest best.partition) (sym behind) least in
    elim (cases_lt best.bits plan.bits) [
      | inl l ↦ (
          let is = second l in
          let front : IsFirstLeast f (p - 1) finest best.partition = keeps_front f (p - 1) finest best.partition before (omega (arith, here.bits, next.bits, l)) in
          (subst (λ (x : RicePlan). IsFirstLeast f (p - 1) finest x.partition) (sym is) front, subst (λ (x : RicePlan). IsPlan block order zs x.partition x) (sym is) here))
      | inr g ↦ (
          let is = first g in
          let front : IsFirstLeast f (p - 1) finest (p - 1) = takes_front f (p - 1) finest best.partition before (omega (arith, here.bits, next.bits, g)) in (
            subst (λ (x : RicePlan). IsFirstLeast f (p - 1) finest x.partition) (sym is) (subst (λ (x : ℕ). IsFirstLeast f (p - 1) finest x) (sym next.partition) front),
            subst (λ (x : RicePlan). IsPlan block order zs x.partition x) (sym is) (same_plan block order zs (p - 1) plan.partition plan plan (sym next.partition) refl next),
          ))
    ]

pub best_is : (block order most : ℕ) (zs : List ℕ) (p f : ℕ) (best : RicePlan) → p ≡ 0 → f ≡ finest block order most → IsFirstLeast (plan_bits block order zs) p f best.partition → IsPlan block order zs best.partition best → IsPlan block order zs (best_partition block order most zs) best
best_is block order most zs p f best none is least here =
    let g = plan_bits block order zs in
    let l : IsFirstLeast g 0 (finest block order most) best.partition = subst (λ (x : ℕ). IsFirstLeast g 0 x best.partition) is (subst (λ (x : ℕ). IsFirstLeast g x f best.partition) none least) in
    same_plan block order zs best.partition (best_partition block order most zs) best best (sym (first_is g (finest block order most) best.partition l)) refl here

small_at : (f : ℕ → ℕ) (n : ℕ) (xs : List ℕ) (j : ℕ) → ((k : ℕ) → f k ≤ 14) → xs ≡ map f (range_with_len 0 n) → j < n → get_or xs j 0 ≤ 14
small_at f n xs j s e l = (let is : get_or xs j 0 ≡ f j = ap (λ (ys : List ℕ). get_or ys j 0) e ∙ get_or-map-range_with_len f 0 n j j 0 l (omega arith) in omega (arith, is, s j))

pub usable : (block order : ℕ) (zs : List ℕ) (p f : ℕ) (plan : RicePlan) → IsPlan block order zs p plan → p ≤ f → f ≤ 15 → fits block order f ≡ true → IsUsable block order plan
usable block order zs p f plan h less most e =
    let best : ℕ → ℕ = λ (j : ℕ). best_parameter (part_of (block / 2 ^ p) order zs j) in
    let n : 2 ^ plan.partition ≡ 2 ^ p = ap (λ (x : ℕ). 2 ^ x) h.partition in
    record {
      partition = omega (arith, h.partition, less, most);
      fitting = subst (λ (x : ℕ). fits block order x ≡ true) (sym h.partition) (fits_lower block order f p less e);
      parameters = ap (λ (xs : List ℕ). length xs) h.parameters ∙ (length-map-range_with_len best 0 (2 ^ p) ∙ sym n);
      small = λ j l. small_at best (2 ^ p) plan.parameters.items j (λ k. (is_first (λ (i : ℕ). cost i (part_of (block / 2 ^ p) order zs k)) 14).to_ge) h.parameters (omega (arith, l, n));
    }
