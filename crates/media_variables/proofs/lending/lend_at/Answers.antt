use Rattle.std.proofs.Common.{◌≡◌, ◌≤◌, ◌<◌, ◌∙◌, Option, None, Result, IfOk, length, refl, ap, sym, subst, arith}
use Rattle.wc_base.specs.declared.error.NoMemory.{NoMemory}
use Rattle.wc_base.specs.declared.who.By.{By}
use Rattle.codec_model.specs.declared.entry.HeldMedium.{HeldMedium}
use Rattle.wc_pool.specs.declared.entry.PoolEntry.{PoolEntry}
use Rattle.wc_pool.specs.declared.reference.MediaRef.{MediaRef}
use Rattle.media_variables.specs.declared.lending.MediumFound.TheVariants as found
use Rattle.media_variables.specs.Variables.{Lendable}
use Rattle.media_variables.specs.Held.{medium_found}
use Rattle.media_variables.specs.Given.{Lends}
use Rattle.media_variables.proofs.OfLaws.{kept_of, put_of, read_of}
use Rattle.media_variables.proofs.Places.{medium_past, medium_read, seen_there, lendable_read}
use Rattle.media_variables.proofs.StepLaws.{not_there}
use Rattle.media_variables.proofs.lending.lend_at.Goals as goal

-- of a variable that was read
lends_if : (adds : PoolEntry → Type 0) (cause : By) (v w : Option Lendable) (r : Result (HeldMedium × MediaRef) NoMemory) → v ≡ w → IfOk r (Lends adds cause v) → IfOk r (Lends adds cause w)
lends_if adds cause v w r is x = subst (λ (o : Option Lendable). IfOk r (Lends adds cause o)) is x

pub lend_variable-requires-clause-open : goal.lend_variable-requires-clause-open
lend_variable-requires-clause-open g c =
    let vs = c.args.variables.now in
    let there = c.in-Some.ensures in
    let lt : c.args.of < length vs.items = omega (arith, vs.ok.0, there.variant.0 refl) in
    subst (λ (m : Option Lendable). medium_found m ≡ found.Open) (lendable_read vs.items c.args.of _ (medium_read vs.items c.args.of _ lt there.value)) c.requires.open

pub lend_variable-requires-clause-held : goal.lend_variable-requires-clause-held
lend_variable-requires-clause-held g c =
    let vs = c.args.variables.now in
    let there = c.in-Some.ensures in
    let lt : c.args.of < length vs.items = omega (arith, vs.ok.0, there.variant.0 refl) in
    read_of _ vs.items c.args.of _ lt there.value c.requires.held

pub unreachable-requires : goal.unreachable-requires
unreachable-requires g c =
    let vs = c.args.variables.now in
    let past : length vs.items ≤ c.args.of = omega (arith, vs.ok.0, not_there _ _ c.in-None.ensures.variant.1) in
    let none = ap (λ (m : Option Lendable). medium_found m) (lendable_read vs.items c.args.of None (medium_past vs.items c.args.of past)) in
    let bad : found.Absent ≡ found.Open = sym none ∙ c.requires.open in absurd cc

pub returns-clause-same : goal.returns-clause-same
returns-clause-same g c =
    let vs = c.args.variables.now in
    let there = c.in-Some.ensures in
    let lt : c.args.of < length vs.items = omega (arith, vs.ok.0, there.variant.0 refl) in
    seen_there vs.items c.args.of _ _ lt there.value c.lend_variable.ensures.same

pub returns-clause-still : goal.returns-clause-still
returns-clause-still g c = put_of _ c.args.variables.now.items c.args.of _ (kept_of _ _ _ c.lend_variable.ensures.kept c.requires.held) c.lend_variable.ensures.still

pub returns-clause-lent : goal.returns-clause-lent
returns-clause-lent g c =
    let vs = c.args.variables.now in
    let there = c.in-Some.ensures in
    let lt : c.args.of < length vs.items = omega (arith, vs.ok.0, there.variant.0 refl) in
    lends_if _ c.args.by _ _ c.lend_variable.result (sym (lendable_read vs.items c.args.of _ (medium_read vs.items c.args.of _ lt there.value))) c.lend_variable.ensures.lent
