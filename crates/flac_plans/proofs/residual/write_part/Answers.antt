use Rattle.std.proofs.Common.{ℤ, List, Bool, ◌≡◌, ◌+◌, ◌++◌, ap, subst, ◌∙◌, map, take, drop, get_or, pos, refl, arith, rules, append-nil}
use Rattle.std.specs.List.{flat_map}
use Rattle.std.specs.Result.{OnOk}
use Rattle.std.proofs.lemmas.List.{take_all}
use Rattle.std.proofs.lemmas.Result.{on_err_weaker}
use Rattle.flac_definitions.specs.Bits.{bits_of}
use Rattle.flac_definitions.specs.ResidualSpelling.{folded_value}
use Rattle.flac_definitions.specs.ResidualWriting.{rice_bits}
use Rattle.flac_plans.specs.Held.{IsHeld}
use Rattle.flac_plans.proofs.Spelled.{on_err, values_more, values_split}
use Rattle.flac_plans.proofs.HeldLaws.{all_held, held_more, held_each, held_written, held_lost}
use Rattle.flac_plans.proofs.residual.write_part.Goals as goal

pub loop-value-init : goal.loop-value-init
loop-value-init c = record {
  word = record { short = omega arith; small = omega (arith, c.requires) };
  held = all_held c.args.w.now _ _ (append-nil (bits_of 4 c.args.k));
}

pub loop-value-preserved : goal.loop-value-preserved
loop-value-preserved c =
    let xs = c.args.values.now in
    let k = c.args.k in
    let i = c.loop-value.value-index in
    let v = c.loop-value.invariant in
    let is : c.folded_value.result ≡ folded_value (get_or xs i (pos 0)) = search rules in
    record {
      word = c.in_ok-held.ensures.word;
      held = held_more (rice_bits k) c.args.w.now (bits_of 4 k) c.loop-value.w c.with_value.new.w (rice_bits k c.folded_value.result) (map folded_value (take i xs)) (map folded_value (take (i + 1) xs)) (folded_value (get_or xs i (pos 0))) c.loop-value.held c.in_ok-held.held
          (values_more (rice_bits k) xs i c.loop-value-test.true) (ap (rice_bits k) is) v.held c.in_ok-held.ensures.ok;
    }

pub returns-in_err-held-clause-err : goal.returns-in_err-held-clause-err
returns-in_err-held-clause-err c =
    let xs = c.args.values.now in
    let k = c.args.k in
    let i = c.loop-value.value-index in
    let is : c.folded_value.result ≡ folded_value (get_or xs i (pos 0)) = search rules in
    on_err c.from_residual.result
    (held_each (rice_bits k) c.args.w.now (bits_of 4 k) c.loop-value.w c.with_value.new.w (rice_bits k c.folded_value.result) (map folded_value (take i xs)) (map folded_value xs) (folded_value (get_or xs i (pos 0))) (flat_map (rice_bits k) (map folded_value (drop (i + 1) xs))) c.loop-value.held
    (values_split (rice_bits k) xs i c.loop-value-test.true) (ap (rice_bits k) is) c.loop-value.invariant.held c.in_err-held.ensures.err)

pub returns-clause-ok : goal.returns-clause-ok
returns-clause-ok c =
    let xs = c.args.values.now in
    let k = c.args.k in
    let now = c.loop-value.w in
    let held = bits_of c.loop-value.held.count c.loop-value.held.word in
    let all : take c.loop-value.value-index xs ≡ xs = take_all c.loop-value.value-index xs c.loop-value-test.false in
    let whole : now ++ held ≡ c.args.w.now ++ (bits_of 4 k ++ flat_map (rice_bits k) (map folded_value xs)) =
    held_written c.args.w.now (bits_of 4 k ++ flat_map (rice_bits k) (map folded_value (take c.loop-value.value-index xs))) now (now ++ held) c.loop-value.held c.loop-value.invariant.held refl
    ∙ ap (λ (l : List ℤ). c.args.w.now ++ (bits_of 4 k ++ flat_map (rice_bits k) (map folded_value l))) all in
    subst (λ (l : List Bool). OnOk c.put.result (c.put.new.self ≡ l)) whole c.put.ensures.ok

pub returns-clause-err : goal.returns-clause-err
returns-clause-err c =
    let xs = c.args.values.now in
    let k = c.args.k in
    let all : take c.loop-value.value-index xs ≡ xs = take_all c.loop-value.value-index xs c.loop-value-test.false in
    let held : IsHeld c.args.w.now (bits_of 4 k ++ flat_map (rice_bits k) (map folded_value xs)) c.loop-value.w c.loop-value.held =
    subst (λ (l : List ℤ). IsHeld c.args.w.now (bits_of 4 k ++ flat_map (rice_bits k) (map folded_value l)) c.loop-value.w c.loop-value.held) all c.loop-value.invariant.held in
    on_err_weaker c.put.result (λ e. held_lost c.args.w.now (bits_of 4 k ++ flat_map (rice_bits k) (map folded_value xs)) c.loop-value.w c.put.new.self c.loop-value.held held e) c.put.ensures.err
