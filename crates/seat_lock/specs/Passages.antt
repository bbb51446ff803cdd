-- What the calls of a lock owe and tell.
use Rattle.std.specs.Prelude.{◌≡◌, ℕ, ◌^◌, ◌<◌, List, [], ◌∷◌, ◌++◌, Option, None, Bool}
use Rattle.atomic_table.specs.declared.badge.Badge.{Badge}
use Rattle.atomic_table.specs.declared.shared.Seat.{Seat}
use Rattle.std.specs.declared.snapshot.Snapshot.{Snapshot}
use Rattle.wc_base.specs.Views.{Log, IsTokenWith}
use Rattle.wc_base.specs.declared.seat.Passage.{Passage}
use Rattle.wc_base.specs.declared.seat.Passage.TheVariants.{Made, Look}
use Rattle.wc_base.specs.declared.seat.Phase.TheVariants.{Idle, Holding}
use Rattle.wc_base.specs.declared.seat.View.{View}
use Rattle.seat_lock.specs.Claims.{HasClaim, spends_in, AreLive}
use Rattle.seat_lock.specs.Logs.{Has, AreApart, AreDistinct, NoneBy, Continues}
use Rattle.seat_lock.specs.Seats.{after_passage, with_phase, with_number, one_part, union_view, HasView}

-- the passage with the entry that was handed in
abbrev pub passage_of : {E : Type 0} → Passage (Snapshot E) → Passage E
passage_of (Made e) = Made e.value
passage_of Look = Look

module _ {S E : Type 0} where
  -- the seat, idle before, is in a passage, and the value stood for this log
  pub record GoesIn (log : Log E) (a b : Seat (Option S) (View E)) : Type 0 where
    pub ticket : ℕ
    pub early : ticket < 2 ^ 63
    pub me : b.me ≡ (with_phase a.me.0 (Holding ticket log), (0, None) ∷ [])

  -- the seat is in a passage, and the value stood for this log when it was taken
  pub record IsInside (log : Log E) (a : Seat (Option S) (View E)) : Type 0 where
    pub ticket : ℕ
    pub phase : a.me.0.phase ≡ Holding ticket log
    pub early : ticket < 2 ^ 63
    pub slot : a.me.1 ≡ (0, None) ∷ []

  -- the seat's number and one part, and what v has seen, in which no passage is the new seat's
  pub record IsNewSeat (v : View E) (a : Seat (Option S) (View E)) : Type 0 where
    pub number : ℕ
    pub view : HasView (with_number (one_part v) number) a
    pub made_none : NoneBy (number ∷ []) v.log

  -- v with the parts, numbers and claims of w, and the longer log. It has nothing of v's or w's own that the two had not
  -- seen, they had no number in common, and no claim stands twice
  pub record IsUnion (v w : View E) (a : Seat (Option S) (View E)) : Type 0 where
    pub view : HasView (with_phase (union_view v w) Idle) a
    pub continues_one : Continues v.numbers v.log a.me.0.log
    pub continues_other : Continues w.numbers w.log a.me.0.log
    pub apart : AreApart v.numbers w.numbers
    pub distinct : AreDistinct a.me.0.claims

  -- the seat took in the token
  abbrev pub TakesIn : Badge (View E) → Seat (Option S) (View E) → Seat (Option S) (View E) → Type 0
  TakesIn token a b = (v : View E) → IsTokenWith v token → IsUnion a.me.0 v b

  -- of a locked value: which entries mint a claim, which claim an entry spends, and for which log the value stands
  module _ (mints : E → Bool) (spends : List E → E → Option ℕ) where
    -- the value that a seat takes stands for a log that begins with what the seat had seen and goes on with passages of
    -- others, and in which the seat's claims are live; its number is one of its numbers
    pub record Enters (tells : S → Log E → Type 0) (value : S) (a b : Seat (Option S) (View E)) : Type 0 where
      pub log : Log E
      pub goes_in : GoesIn log a b
      pub stands : tells value log
      pub continues : Continues a.me.0.numbers a.me.0.log log
      pub has_number : Has a.me.0.number a.me.0.numbers
      pub live : AreLive mints spends log a.me.0.claims

    -- the value stands for the log of the seat's passage with this passage at its end, and the seat has the claim that
    -- is spent by it
    pub record MayLeave (tells : S → Log E → Type 0) (value : S) (p : Passage E) (a : Seat (Option S) (View E)) : Type 0 where
      pub log : Log E
      pub inside : IsInside log a
      pub stands : tells value (log ++ (a.me.0.number, p) ∷ [])
      pub has_claim : HasClaim (spends_in mints spends log p) a.me.0.claims

    -- the log that the seat's passage was given is longer by this passage
    abbrev pub Leaves : Passage E → Seat (Option S) (View E) → Seat (Option S) (View E) → Type 0
    Leaves p a b = (log : Log E) → IsInside log a → HasView (after_passage mints spends a.me.0 log p) b

    -- from idle to idle the seat made this passage, after a log that begins with what the seat had seen and goes on with
    -- passages of others, and in which the seat's claims were live
    pub record Passes (p : Passage E) (a b : Seat (Option S) (View E)) : Type 0 where
      pub log : Log E
      pub continues : Continues a.me.0.numbers a.me.0.log log
      pub has_number : Has a.me.0.number a.me.0.numbers
      pub live : AreLive mints spends log a.me.0.claims
      pub view : HasView (after_passage mints spends a.me.0 log p) b
