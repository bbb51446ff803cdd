-- What a take of a caller finds and makes, and the move of a step on media.
use Rattle.std.proofs.Common.{ℕ, zero, suc, ◌≡◌, ◌∙◌, ◌≤◌, true, false, eq-eqb, Option, Some, None, List, [], ◌∷◌, ◌++◌, length, refl, ap, sym, subst, arith}
use Rattle.std.specs.Prelude.{slice_get}
use Rattle.std.specs.List.{AllByRecursion}
use Rattle.std.proofs.lemmas.Bool.{ltb-false}
use Rattle.std.proofs.lemmas.Option.{slice_get_past}
use Rattle.wc_base.specs.{Options.some_same, declared.who.Who.Who}
use Rattle.report_text.specs.declared.result.StepResult.{StepResult}
use Rattle.codec_accounts.specs.Owed.{append_at}
use Rattle.codec_definitions.specs.declared.unit.Unit as media
use Rattle.codec_definitions.specs.declared.unit.Unit.TheVariants as unit
use Rattle.codec_model.specs.{declared.entry.Entry.Entry, declared.entry.Call.Call, Control.may_take, Shown.shown, Shown.outputs_of}
use Rattle.codec_core.specs.{Job.JobValue, Codec.Codec, Codec.state_at}
use Rattle.slot_registry.specs.Slots.{SlotsValue}
use Rattle.history_laws.specs.{Outputs.IsWholeUnit, CountLaws.shown_counted, WholeLaws.outputs_are_whole}
use Rattle.media_variables.specs.Held.{IsEnoughUnit}
use Rattle.wc_replay.specs.{declared.desk.Output.Output, Desk.IsDesk, Desk.IsNext}
use Rattle.wc_replay.proofs.{Desks.seen, Lent.media_same}
use Rattle.codec_accounts.specs.Codec.{CodecValue, codec_at, codecs_after, slots_by}
use Rattle.media_variables.specs.Variables as variables
use Rattle.media_variables.specs.Variables.{Media, Came, IsCome, next_numbers, media_came, taken_came, unit_came, after_came, variables_of}
use Rattle.run_model.specs.Follow.{Course, Answer, after_move, take_move, found_at}

-- ---- a codec's next output

at_each : {X : Type 0} (P : X → Type 0) (xs : List X) (n : ℕ) (x : X) → AllByRecursion P xs → slice_get xs n ≡ Some x → P x
at_each P [] n x all is = absurd cc
at_each P (y ∷ ys) zero x all is = subst P (some_same y x is) all.0
at_each P (y ∷ ys) (suc n) x all is = at_each P ys n x all.1 is

enough : (u : media.Unit) → IsWholeUnit u → IsEnoughUnit u
enough (unit.Coded chunk config) h = tt
enough u h = omega (arith, h)

-- where no output may be taken none is left
none_left : (old : Codec) (job : Option JobValue) (refusal : Option ℕ) → IsDesk old job refusal → false ≡ may_take (state_at old).control.taken (state_at old).control → slice_get (outputs_of (shown old.opening old.history)) (state_at old).control.taken ≡ None
none_left old job refusal d may =
    let c = (state_at old).control in
    let less : c.shown ≤ c.taken = ltb-false c.taken c.shown (sym (rw (eq-eqb c.taken c.taken refl) at may)) in
    let count = shown_counted old.opening old.history (state_at old) d.legal in
    slice_get_past (outputs_of (shown old.opening old.history)) c.taken (omega (arith, less, count))

-- the next output of a core, as contracts see it
pub none_next : (old : Codec) (job : Option JobValue) (refusal : Option ℕ) (v : CodecValue) → IsDesk old job refusal → seen old job refusal ≡ v → false ≡ may_take (state_at old).control.taken (state_at old).control → IsNext v None
none_next old job refusal v d is may = subst (λ (x : CodecValue). IsNext x None) is (none_left old job refusal d may)

pub some_next : (old : Codec) (job : Option JobValue) (refusal : Option ℕ) (v : CodecValue) (t : Output) → seen old job refusal ≡ v → slice_get (outputs_of (shown old.opening old.history)) (state_at old).control.taken ≡ Some t.unit → t.number ≡ (state_at old).control.taken → true ≡ may_take (state_at old).control.taken (state_at old).control → IsNext v (Some t)
some_next old job refusal v t is unit number may =
    subst (λ (x : CodecValue). IsNext x (Some t)) is (unit, number, enough t.unit (at_each IsWholeUnit (outputs_of (shown old.opening old.history)) (state_at old).control.taken t.unit (outputs_are_whole old.opening old.history) unit), rw number (sym may))

-- ---- the move of a take

-- what a take finds, where the next output is this one
found : (k place : ℕ) (d : CodecValue) (t : Output) → IsNext d (Some t) → place ≡ length d.history → found_at k d ≡ Some (record { unit = t.unit; answer = StepResult.Unit k place t.number })
found k place d t is at = rw (at, is.1, is.0) refl

-- a take that found an output is its move
pub took : (v : Course) (who : Who) (k place : ℕ) (t : Output) (callers : List (List StepResult)) (codecs : List CodecValue) (m after : Media) (slots : SlotsValue) (r : StepResult)
    → IsNext (codec_at k v.codecs) (Some t) → codecs ≡ codecs_after k (Entry.Call who (Call.Take t.number)) v.slots v.codecs → slots ≡ slots_by k (Entry.Call who (Call.Take t.number)) v.slots (codec_at k v.codecs)
    → m ≡ record v.media { pool = v.media.pool ++ [] } → place ≡ length (codec_at k v.codecs).history
    → IsCome m after who (taken_came (next_numbers m.pool) who.step (Some (record { unit = t.unit; answer = StepResult.Unit k place t.number })) (variables_of who.caller m.variables)) (Some r)
    → callers ≡ append_at who.caller r v.callers
    → ◌≡◌ {A = Course} (record { callers = callers; codecs = codecs; media = after; slots = slots; ports = v.ports }) (after_move (take_move who k (codec_at k v.codecs) (taken_came (next_numbers v.media.pool) who.step (found_at k (codec_at k v.codecs)) (variables_of who.caller v.media.variables))) v)
took v who k place t callers codecs m after slots r is set went left at come noted =
    let d = codec_at k v.codecs in
    let same : m ≡ v.media = left ∙ media_same v.media in
    let here = subst (λ (x : Media). IsCome x after who (taken_came (next_numbers x.pool) who.step (Some (record { unit = t.unit; answer = StepResult.Unit k place t.number })) (variables_of who.caller x.variables)) (Some r)) same come in
    let y : Came = unit_came (next_numbers v.media.pool) who.step (StepResult.Unit k place t.number) t.unit (variables_of who.caller v.media.variables) in
    let answer : r ≡ y.answer = some_same r y.answer here.0 in
    let results = noted ∙ ap (λ (x : StepResult). append_at who.caller x v.callers) answer in
    let codecs_are = set ∙ ap (λ (n : ℕ). codecs_after k (Entry.Call who (Call.Take n)) v.slots v.codecs) is.1 in
    let slots_are = went ∙ ap (λ (n : ℕ). slots_by k (Entry.Call who (Call.Take n)) v.slots d) is.1 in
    let media_is = here.1 ∙ ap (λ (z : Media). after_came who y z) (sym (media_same v.media)) in
    (λ i. record { callers = results i; codecs = codecs_are i; media = media_is i; slots = slots_are i; ports = v.ports })
    ∙ ap (λ (o : Option variables.Taken). after_move (take_move who k d (taken_came (next_numbers v.media.pool) who.step o (variables_of who.caller v.media.variables))) v) (sym (found k place d t is at))

-- a take that found none is a look
pub found_none : (v : Course) (who : Who) (k : ℕ) → IsNext (codec_at k v.codecs) None
    → take_move who k (codec_at k v.codecs) (taken_came (next_numbers v.media.pool) who.step (found_at k (codec_at k v.codecs)) (variables_of who.caller v.media.variables)) ≡ Answer who.caller (StepResult.NoUnit k (length (codec_at k v.codecs).history))
found_none v who k is = rw is refl
