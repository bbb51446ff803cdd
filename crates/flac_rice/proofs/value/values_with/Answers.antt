use Rattle.std.proofs.Common.{◌≡◌, ◌-◌, ℤ, Ok, length, length-set, arith, refl, ap, sym, ◌∙◌}
use Rattle.flac_definitions.specs.Bits.{Place}
use mir.Val.{to_z, of_z}
use Rattle.std.proofs.lemmas.Int.{to_z-of_z}
use mir.Syntax.{w32}
use Rattle.flac_definitions.specs.Residual.{each_at, value_at}
use Rattle.flac_rice.proofs.ValueLaws.{front_none, each_next, each_fault, each_done, nothing_ahead}
use Rattle.flac_rice.proofs.value.values_with.Goals as goal

pub loop-i-init : goal.loop-i-init
loop-i-init c =
    let a = c.none_ahead-ahead.result in
    let n = nothing_ahead c.args.bytes.now c.args.at a c.none_ahead-ahead.ensures c.requires.there in
    record {
      size = refl;
      ahead = n.0;
      read = front_none (each_at (value_at c.args.parameter) (length c.args.out.now - 0) (record { bytes = c.args.bytes.now; at = a.end - a.window.valid }))
          ∙ ap (λ k. each_at (value_at c.args.parameter) k (record { bytes = c.args.bytes.now; at = a.end - a.window.valid })) (let z : length c.args.out.now - 0 ≡ length c.args.out.now = omega arith in z)
          ∙ ap (λ k. each_at (value_at c.args.parameter) (length c.args.out.now) (record { bytes = c.args.bytes.now; at = k })) n.1;
    }

pub returns-in-Err-clause-filled : goal.returns-in-Err-clause-filled
returns-in-Err-clause-filled c =
    let l = c.loop-i in
    let here : Place = record { bytes = c.args.bytes.now; at = l.ahead.end - l.ahead.window.valid } in
    sym l.invariant.read
    ∙ each_fault (value_at c.args.parameter) l.out l.i here c.in-Err.e (omega (arith, l.invariant.size))
    (ap (λ n. value_at c.args.parameter (record { bytes = c.args.bytes.now; at = n })) (sym c.filled_up-ahead.ensures.place) ∙ c.in-Err.ensures.value)

pub loop-i-preserved : goal.loop-i-preserved
loop-i-preserved c =
    let l = c.loop-i in let k = c.args.parameter in let x = c.in-Ok.x in
    let here : Place = record { bytes = c.args.bytes.now; at = l.ahead.end - l.ahead.window.valid } in
    let next : Place = record { bytes = c.args.bytes.now; at = x.1.end - x.1.window.valid } in
    let stored : to_z w32 (of_z w32 x.0) ≡ x.0 = grind (arith, to_z-of_z) in
    let one : value_at k here ≡ Ok (to_z w32 (of_z w32 x.0), next) =
    ap (λ n. value_at k (record { bytes = c.args.bytes.now; at = n })) (sym c.filled_up-ahead.ensures.place)
    ∙ c.in-Ok.ensures.value ∙ ap (λ (z : ℤ). Ok (z, next)) (sym stored) in
    record {
      size = length-set l.out l.i (to_z w32 (of_z w32 x.0)) ∙ l.invariant.size;
      ahead = c.in-Ok.ensures.ahead;
      read = rw length-set (each_next (value_at k) l.out l.i here next (to_z w32 (of_z w32 x.0)) (omega (arith, l.invariant.size)) one ∙ l.invariant.read);
    }

pub returns-clause-filled : goal.returns-clause-filled
returns-clause-filled c =
    let l = c.loop-i in
    sym l.invariant.read
    ∙ each_done (value_at c.args.parameter) l.out l.i (record { bytes = c.args.bytes.now; at = l.ahead.end - l.ahead.window.valid }) (omega (arith, l.invariant.size))
    ∙ ap (λ n. Ok (l.out, record { bytes = c.args.bytes.now; at = n })) (sym c.place_of.ensures)
