use Rattle.std.proofs.Common.{◌≡◌, ◌+◌, ◌-◌, ◌*◌, ◌/◌, ◌%◌, ◌^◌, ℕ, ℤ, Ok, arith, ap, sym, subst, ◌∙◌}
use Rattle.flac_definitions.specs.Bits.{Place}
use mir.Val.{to_z, of_z}
use Rattle.std.proofs.lemmas.Int.{to_z-of_z}
use mir.Syntax.{w32}
use Rattle.flac_definitions.specs.Residual.{value_at}
use Rattle.flac_rice.specs.Reading.{IsAhead}
use Rattle.flac_rice.proofs.ValueLaws.{value_ahead, later_ahead, folded_small, folded_large}
use Rattle.flac_rice.proofs.value.next_value.Goals as goal

pub returns-then-folded-ge4294967295-clause-value : goal.returns-then-folded-ge4294967295-clause-value
returns-then-folded-ge4294967295-clause-value c =
    let code = c.in-Some.code in
    let end = code.ahead.end in let w = code.ahead.window.word in let v = code.ahead.window.valid in let q = code.zeros in let k = c.args.parameter in
    let here = c.place_of.result in
    let next : Place = record { bytes = c.args.bytes.now; at = end - (v - (q + 1 + k)) } in
    ap (λ n. value_at k (record { bytes = c.args.bytes.now; at = n })) (sym c.place_of.ensures)
    ∙ value_ahead c.args.bytes.now here end w v k q c.folded_at_front-folded.result c.in-Some.ensures.ahead (c.in-Some.ensures.place ∙ sym c.place_of.ensures) (omega arith) c.in-Some.ensures.zeros c.in-Some.ensures.whole c.folded_at_front-folded.ensures
    ∙ folded_large here c.folded_at_front-folded.result (w * 2 ^ q % 2 ^ 64 / 2 ^ (63 - k) - 2 ^ k, next) (omega arith)

pub returns-clause-value : goal.returns-clause-value
returns-clause-value c =
    let code = c.in-Some.code in
    let end = code.ahead.end in let w = code.ahead.window.word in let v = code.ahead.window.valid in let q = code.zeros in let k = c.args.parameter in
    let here = c.args.ahead.end - c.args.ahead.window.valid in
    let next : Place = record { bytes = c.args.bytes.now; at = end - (v - (q + 1 + k)) } in
    let stored : to_z w32 (of_z w32 c.unfold.result) ≡ c.unfold.result = grind (arith, to_z-of_z) in
    value_ahead c.args.bytes.now here end w v k q c.folded_at_front-folded.result c.in-Some.ensures.ahead c.in-Some.ensures.place (omega arith) c.in-Some.ensures.zeros c.in-Some.ensures.whole c.folded_at_front-folded.ensures
    ∙ folded_small here c.folded_at_front-folded.result (w * 2 ^ q % 2 ^ 64 / 2 ^ (63 - k) - 2 ^ k, next) (omega arith)
    ∙ ap (λ (x : ℤ). Ok (x, next)) (sym (stored ∙ c.unfold.ensures))

pub returns-clause-ahead : goal.returns-clause-ahead
returns-clause-ahead c =
    let code = c.in-Some.code in
    let w = code.ahead.window.word in let v = code.ahead.window.valid in let q = code.zeros in let k = c.args.parameter in
    let u = q + 1 + k in
    let up : w * 2 ^ u % 2 ^ 64 ≡ c.shift_twice.result = ap (λ n. w * 2 ^ n % 2 ^ 64) (let s : u ≡ q + (k + 1) = omega arith in s) ∙ sym c.shift_twice.ensures in
    subst (λ (n : ℕ). IsAhead c.args.bytes.now code.ahead.end n (v - u)) up (later_ahead c.args.bytes.now code.ahead.end w v u c.in-Some.ensures.ahead c.in-Some.ensures.whole)
