-- A take's number is at most its place, since each take of a codec takes the next output; so the line of each call fits.
use Rattle.std.proofs.Common.{ℕ, zero, suc, ◌≡◌, ◌≤◌, ◌<◌, ◌+◌, ◌^◌, eqb, true, List, [], ◌∷◌, map, Option, Some, is_some, subst, arith}
use Rattle.std.specs.Prelude.{slice_get, nat_lt}
use Rattle.std.proofs.lemmas.Bool.{and_parts, eqb-true}
use Rattle.wc_base.specs.{Options.cond_is, Options.some_same, declared.who.Who.Who, declared.error.DomError.DomError}
use Rattle.codec_model.specs.{declared.entry.Call.Call, declared.entry.Entry.Entry, Control.Control}
use Rattle.codec_model.specs.Replay.{State, step, may_call, replay_from, opening_state}
use Rattle.history_laws.specs.{Numbers.IsUpTo, NumberLaws.step_up, NumberLaws.opening_up}
use Rattle.run_ranges.proofs.Cases.{comes_after}
use Rattle.codec_accounts.specs.Owed.{at}
use Rattle.script_types.specs.declared.script.{CodecItem.CodecItem, ScriptData.ScriptData}
use Rattle.report_lines.specs.Fits.{FitsWho, FitsEntryLine}
use Rattle.run_model.specs.declared.run.CodecTrace.{CodecTrace}
use Rattle.run_model.specs.Fits.{AreLegalTraces}
use Rattle.trace_text.specs.Report.{call_line_of}

-- a take's number is at most this; another call has none
abbrev pub IsTakeUpTo : ℕ → Call → Type 0
IsTakeUpTo n (Call.Take unit) = unit ≤ n
IsTakeUpTo n x = Unit {0}

-- a take's number is how many there were before it
take_up : (x : Call) (n : ℕ) (c : Control) → IsUpTo n c → may_call x c ≡ true → IsTakeUpTo n x
take_up (Call.Take unit) n c up may = omega (arith, up.taken, eqb-true unit c.taken (and_parts (eqb unit c.taken) (nat_lt unit c.shown) may).0)
take_up x n c up may = tt

takes_from : (h : List Entry) (s : State) (n p : ℕ) (who : Who) (x : Call) → IsUpTo n s.control → is_some (replay_from h s) ≡ true → slice_get h p ≡ Some (Entry.Call who x) → IsTakeUpTo (n + p) x
takes_from [] s n p who x up legal is = absurd cc
takes_from (e ∷ es) s n zero who x up legal is =
    let made = comes_after (replay_from es) (step e s) legal in
    let may = (cond_is (may_call x s.control) _ made.0 (subst (λ (f : Entry). step f s ≡ Some made.0) (some_same e (Entry.Call who x) is) made.1)).0 in
    subst (λ (m : ℕ). IsTakeUpTo m x) (omega arith) (take_up x n s.control up may)
takes_from (e ∷ es) s n (suc p) who x up legal is =
    let made = comes_after (replay_from es) (step e s) legal in
    subst (λ (m : ℕ). IsTakeUpTo m x) (omega arith) (takes_from es made.0 (n + 1) p who x (step_up n e s made.0 made.1 up) made.2 is)

-- the takes of codecs whose histories are legal
pub takes_small : (cs : List CodecItem) (ts : List CodecTrace) → AreLegalTraces cs ts → (k p : ℕ) (who : Who) (x : Call) → slice_get (at k (map (λ t. t.entries) ts)) p ≡ Some (Entry.Call who x) → IsTakeUpTo p x
takes_small cs [] legal k p who x is = absurd cc
takes_small [] (t ∷ ts) legal k p who x is = absurd legal
takes_small (c ∷ cs) (t ∷ ts) legal zero p who x is = subst (λ (m : ℕ). IsTakeUpTo m x) (omega arith) (takes_from t.entries (opening_state t.opening) 0 p who x (opening_up t.opening) legal.0.legal is)
takes_small (c ∷ cs) (t ∷ ts) legal (suc k) p who x is = takes_small cs ts legal.1 k p who x is

-- the line of a call at a place of 64 bits fits, where its caller is there
pub call_fits : (script : ScriptData) (who : Who) (x : Call) (o : Option DomError) (p : ℕ) → FitsWho script who → IsTakeUpTo p x → p < 2 ^ 64 → FitsEntryLine script (call_line_of who x o)
call_fits script who (Call.Take unit) o p own up few = (own, omega (arith, up, few))
call_fits script who x o p own up few = own
