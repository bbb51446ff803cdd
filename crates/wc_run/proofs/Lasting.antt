-- Histories that go on, and callers' deeds by them.
use Rattle.std.proofs.Common.{ℕ, zero, suc, ◌≡◌, ◌≤◌, List, [], ◌∷◌, ◌++◌, map, length, length-append, take, Option, refl, ap, subst, ◌+◌, ◌∙◌, append_assoc, arith}
use Rattle.atomic_table.specs.declared.shared.Seat.{Seat}
use Rattle.wc_base.specs.Views.{Log}
use Rattle.wc_base.specs.declared.seat.View.{View}
use Rattle.wc_chunk.specs.declared.chunk.Chunk.{Chunk}
use Rattle.codec_model.specs.declared.entry.Entry.{Entry}
use Rattle.codec_accounts.specs.CallsLaws.{climbs_on}
use Rattle.codec_accounts.specs.Owed.{at}
use Rattle.seat_lock.specs.ClaimLaws.{entries_both}
use Rattle.seat_lock.specs.Logs.{entries_of}
use Rattle.codec_logs.specs.declared.event.Event.{Event}
use Rattle.codec_logs.specs.Logs.{entry_of, history_of}
use Rattle.shared_codec.specs.Shared.{Shared}
use Rattle.codec_desk.specs.DeskLaws.{map_both}
use Rattle.codec_desk.specs.Desks.{SeesMore}
use Rattle.codec_desk.specs.Each.{Each}
use Rattle.desk_threads.specs.Parts.{IsJoin, EachOfThree}
use Rattle.script_types.specs.declared.script.ScriptData.{ScriptData}
use Rattle.report_text.specs.declared.result.StepResult.{StepResult}
use Rattle.run_model.specs.Fits.{mark_of}
use Rattle.run_model.specs.declared.run.CallerTrace.{CallerTrace}
use Rattle.desk_callers.specs.Acts.{histories_in}
use Rattle.desk_callers.specs.Deeds.{Deed, GoOn, IsDeedAfter, AreDeeds, results_of}
use Rattle.wc_run.specs.Acted.{HasActed, HaveActed}

history_both : (a b : Log Event) → history_of (a ++ b) ≡ history_of a ++ history_of b
history_both a b = ap (map entry_of) (entries_both a b) ∙ map_both entry_of (entries_of a) (entries_of b)

pub go_then : (a b c : List (List Entry)) → GoOn a b → GoOn b c → GoOn a c
go_then a b c x y k =
    let m = x k in
    let n = y k in
    (m.0 ++ n.0, n.1 ∙ (ap (λ (l : List Entry). l ++ n.0) m.1 ∙ append_assoc (at k a) m.0 n.0))

go_longer : (a b : List (List Entry)) → GoOn a b → (k : ℕ) → length (at k a) ≤ length (at k b)
go_longer a b x k =
    let m = x k in
    let l = length-append (at k a) m.0 in
    let e : length (at k b) ≡ length (at k a ++ m.0) = ap length m.1 in
    omega (arith, l, e)

module _ {S : Type 0} where
  -- where each seat has seen more
  pub go_seen : (xs : List Shared) (us vs : List (Seat (Option S) (View Event))) → Each SeesMore xs us vs → GoOn (histories_in us) (histories_in vs)
  go_seen [] [] [] e k = ([], refl)
  go_seen [] [] (v ∷ vs) e k = absurd e
  go_seen [] (u ∷ us) vs e k = absurd e
  go_seen (x ∷ xs) [] vs e k = absurd e
  go_seen (x ∷ xs) (u ∷ us) [] e k = absurd e
  go_seen (x ∷ xs) (u ∷ us) (v ∷ vs) e zero = (history_of e.0.more, ap history_of e.0.longer ∙ history_both u.me.0.log e.0.more)
  go_seen (x ∷ xs) (u ∷ us) (v ∷ vs) e (suc k) = go_seen xs us vs e.1 k

  -- seats that took in others have seen what they had seen, and what those had seen
  pub go_taken : (xs : List Shared) (us vs ws : List (Seat (Option S) (View Event))) → EachOfThree (λ s u v w. IsJoin u v w) xs us vs ws → GoOn (histories_in us) (histories_in ws)
  go_taken [] [] [] [] e k = ([], refl)
  go_taken (x ∷ xs) (u ∷ us) (v ∷ vs) (w ∷ ws) e zero = (let c = e.0.both.continues_one in (history_of c.more, ap history_of c.is ∙ history_both u.me.0.log c.more))
  go_taken (x ∷ xs) (u ∷ us) (v ∷ vs) (w ∷ ws) e (suc k) = go_taken xs us vs ws e.1 k
  go_taken [] [] [] (w ∷ ws) e k = absurd e
  go_taken [] [] (v ∷ vs) ws e k = absurd e
  go_taken [] (u ∷ us) vs ws e k = absurd e
  go_taken (x ∷ xs) [] vs ws e k = absurd e
  go_taken (x ∷ xs) (u ∷ us) [] ws e k = absurd e
  go_taken (x ∷ xs) (u ∷ us) (v ∷ vs) [] e k = absurd e

  pub go_other : (xs : List Shared) (us vs ws : List (Seat (Option S) (View Event))) → EachOfThree (λ s u v w. IsJoin u v w) xs us vs ws → GoOn (histories_in vs) (histories_in ws)
  go_other [] [] [] [] e k = ([], refl)
  go_other (x ∷ xs) (u ∷ us) (v ∷ vs) (w ∷ ws) e zero = (let c = e.0.both.continues_other in (history_of c.more, ap history_of c.is ∙ history_both v.me.0.log c.more))
  go_other (x ∷ xs) (u ∷ us) (v ∷ vs) (w ∷ ws) e (suc k) = go_other xs us vs ws e.1 k
  go_other [] [] [] (w ∷ ws) e k = absurd e
  go_other [] [] (v ∷ vs) ws e k = absurd e
  go_other [] (u ∷ us) vs ws e k = absurd e
  go_other (x ∷ xs) [] vs ws e k = absurd e
  go_other (x ∷ xs) (u ∷ us) [] ws e k = absurd e
  go_other (x ∷ xs) (u ∷ us) (v ∷ vs) [] e k = absurd e

-- ---- deeds stay deeds

module _ (s : ScriptData) (media : List (List Chunk)) where
  deed_later : (c : ℕ) (hs later : List (List Entry)) (before : List Deed) (d : Deed) → GoOn hs later → IsDeedAfter s media c hs before d → IsDeedAfter s media c later before d
  deed_later c hs later before d goes x = record { who = x.who; step = x.step; known = x.known; goes_on = go_then x.known hs later x.goes_on goes; sees = x.sees; is = x.is }

  deeds_later : (c : ℕ) (hs later : List (List Entry)) (ds : List Deed) → GoOn hs later → AreDeeds s media c hs ds → AreDeeds s media c later ds
  deeds_later c hs later ds goes x = record {
    each = λ j d there. deed_later c hs later (take j ds) d goes (x.each j d there);
    climbs = λ k. climbs_on k 0 (map mark_of (results_of ds)) (length (at k hs)) (length (at k later)) (go_longer hs later goes k) (x.climbs k);
    rise = x.rise;
  }

  pub acted_later : (c : ℕ) (hs later : List (List Entry)) (rs : List StepResult) (ds : List Deed) → GoOn hs later → HasActed s media hs c rs ds → HasActed s media later c rs ds
  acted_later c hs later rs ds goes x = record { results = x.results; are = deeds_later c hs later ds goes x.are; all = x.all }

  pub all_later : (c : ℕ) (hs later : List (List Entry)) (ts : List CallerTrace) (all : List (List Deed)) → GoOn hs later → HaveActed s media hs c ts all → HaveActed s media later c ts all
  all_later c hs later [] [] goes x = tt
  all_later c hs later [] (ds ∷ all) goes x = absurd x
  all_later c hs later (t ∷ ts) [] goes x = absurd x
  all_later c hs later (t ∷ ts) (ds ∷ all) goes x = (acted_later c hs later t.results ds goes x.0, all_later (suc c) hs later ts all goes x.1)

  -- one caller more
  pub acted_add : (c n : ℕ) (hs : List (List Entry)) (ts : List CallerTrace) (all : List (List Deed)) (t : CallerTrace) (ds : List Deed) → HaveActed s media hs c ts all → n ≡ c + length ts → HasActed s media hs n t.results ds → HaveActed s media hs c (ts ++ t ∷ []) (all ++ ds ∷ [])
  acted_add c n hs [] [] t ds x is y =
      let e : n ≡ c = omega (arith, is) in
      (subst (λ (m : ℕ). HasActed s media hs m t.results ds) e y, tt)
  acted_add c n hs [] (es ∷ all) t ds x is y = absurd x
  acted_add c n hs (u ∷ ts) [] t ds x is y = absurd x
  acted_add c n hs (u ∷ ts) (es ∷ all) t ds x is y = (x.0, acted_add (suc c) n hs ts all t ds x.1 (omega (arith, is)) y)
