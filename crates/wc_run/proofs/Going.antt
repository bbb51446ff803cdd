-- What a codec's history tells stays so as the history goes on.
use Rattle.std.proofs.Common.{ℕ, zero, suc, ◌≡◌, ◌<◌, List, [], ◌∷◌, ◌++◌, length, Option, Some, None, refl, ap, sym, ◌∙◌, arith, append_assoc}
use Rattle.std.specs.Prelude.{slice_get, option_and_then, ◌==◌, nat_lt, true}
use Rattle.std.proofs.lemmas.Bool.{and_parts, ltb-true}
use Rattle.wc_base.specs.Options.{cond_is}
use Rattle.wc_base.specs.declared.who.Who.{Who}
use Rattle.codec_definitions.specs.declared.unit.Unit as output
use Rattle.codec_model.specs.declared.entry.Opening.{Opening}
use Rattle.codec_model.specs.declared.entry.Call.{Call}
use Rattle.codec_model.specs.declared.entry.Entry.{Entry}
use Rattle.codec_model.specs.declared.entry.Shown.{Shown}
use Rattle.codec_model.specs.Control.{may_take}
use Rattle.codec_model.specs.Replay.{State, opening_state, step, replay, replay_from, call_step}
use Rattle.codec_model.specs.Shown.{shown, each_shown, each_shown_from, outputs_of}
use Rattle.codec_model.specs.ShownLaws.{replay_append, each_append, each_length}
use Rattle.codec_accounts.specs.ListLaws.{get_some, get_within}
use Rattle.history_laws.specs.CountLaws.{shown_counted, outputs_stay}
use Rattle.run_model.specs.Recorded.{output_at, take_entry}
use Rattle.run_model.specs.Fits.{exception_at, refusal_in}

-- a history can be replayed to this state
abbrev pub ReplaysTo : Opening → List Entry → State → Type 0
ReplaysTo o h t = replay o h ≡ Some t

front_rest : (es more : List Entry) (t : State) (o : Option State) → option_and_then (replay_from (es ++ more)) o ≡ Some t → ((u : State) → replay_from (es ++ more) u ≡ Some t → (v : State) × (replay_from es u ≡ Some v)) → (v : State) × (option_and_then (replay_from es) o ≡ Some v)
front_rest es more t None r f = absurd cc
front_rest es more t (Some u) r f = f u r

front_from : (h more : List Entry) (s t : State) → replay_from (h ++ more) s ≡ Some t → (u : State) × (replay_from h s ≡ Some u)
front_from [] more s t r = (s, refl)
front_from (e ∷ es) more s t r = front_rest es more t (step e s) r (λ u k. front_from es more u t k)

-- the front of a legal history is legal
pub front_legal : (o : Opening) (h more : List Entry) (t : State) → ReplaysTo o (h ++ more) t → (u : State) × ReplaysTo o h u
front_legal o h more t r = front_from h more (opening_state o) t r

-- the exception that an entry shows stays
pub exception_stays : (o : Opening) (h more : List Entry) (t : State) (p : ℕ) → ReplaysTo o (h ++ more) t → p < length h → exception_at o (h ++ more) p ≡ exception_at o h p
exception_stays o h more t p r lt =
    let front = front_legal o h more t r in
    let long = each_length o h front.0 front.1 in
    let same : slice_get (each_shown o (h ++ more)) p ≡ slice_get (each_shown o h) p =
    ap (λ (l : List Shown). slice_get l p) (each_append o h more front.0 front.1) ∙ get_within (each_shown o h) (each_shown_from more front.0) p (omega (arith, lt, long)) in
    ap (λ (x : Option Shown). option_and_then (λ (y : Shown). refusal_in y.events) x) same

-- ---- outputs

-- an output that was shown stays
pub output_stays : (o : Opening) (h more : List Entry) (n : ℕ) (u : output.Unit) → output_at o h n ≡ Some u → output_at o (h ++ more) n ≡ Some u
output_stays o h more n u is = outputs_stay o h more n u is

parted : (h : List Entry) (p : ℕ) (e : Entry) → slice_get h p ≡ Some e → (front : List Entry) × (back : List Entry) × (h ≡ front ++ e ∷ back)
parted [] p e is = absurd cc
parted (x ∷ xs) zero e is =
    let same : x ≡ e = cc in
    ([], xs, ap (λ (y : Entry). y ∷ xs) same)
parted (x ∷ xs) (suc p) e is =
    let rest = parted xs p e is in
    (x ∷ rest.0, rest.1, ap (λ (l : List Entry). x ∷ l) rest.2)

-- the output that an entry takes was shown before it
taken_before : (o : Opening) (front back : List Entry) (who : Who) (n : ℕ) (t : State) → ReplaysTo o (front ++ take_entry who n ∷ back) t → (u : output.Unit) × (output_at o (front ++ take_entry who n ∷ back) n ≡ Some u)
taken_before o front back who n t r =
    let e : Entry = take_entry who n in
    let before = front_legal o front (e ∷ back) t r in
    let s : State = before.0 in
    let upto = front_legal o (front ++ e ∷ []) back t (ap (replay o) (append_assoc front (e ∷ []) back) ∙ r) in
    let legal : step e s ≡ Some upto.0 = sym (replay_append o front e s before.1) ∙ upto.1 in
    let may : may_take n s.control ≡ true = (cond_is (may_take n s.control) (Some (call_step (Call.Take n) s)) upto.0 legal).0 in
    let less : n < s.control.shown = ltb-true n s.control.shown (and_parts (n == s.control.taken) (nat_lt n s.control.shown) may).1 in
    let count = shown_counted o front s before.1 in
    let there = get_some (outputs_of (shown o front)) n (omega (arith, less, count)) in
    (there.0, output_stays o front (e ∷ back) n there.0 there.1)

-- so a history has the output that an entry of it takes
pub output_taken : (o : Opening) (h : List Entry) (p n : ℕ) (who : Who) (t : State) → ReplaysTo o h t → slice_get h p ≡ Some (take_entry who n) → (u : output.Unit) × (output_at o h n ≡ Some u)
output_taken o h p n who t r is =
    let parts = parted h p (take_entry who n) is in
    let known = taken_before o parts.0 parts.1 who n t (ap (replay o) (sym parts.2) ∙ r) in
    (known.0, ap (λ (l : List Entry). output_at o l n) parts.2 ∙ known.1)
