-- Laws of what a seat's entries call for.
use Rattle.std.proofs.Common.{ℕ, ◌≡◌, Bool, true, false, cond, eqb, List, [], ◌∷◌, ◌++◌, Option, refl, ap, sym, subst, ◌∙◌, append-nil, append_assoc, eq-eqb, ne_eqb, ⊎_elim}
use Rattle.std.proofs.lemmas.List.{append_cancel_left}
use Rattle.atomic_table.specs.declared.shared.Seat.{Seat}
use Rattle.wc_base.specs.Views.{Log}
use Rattle.wc_base.specs.declared.seat.Passage.{Passage}
use Rattle.wc_base.specs.declared.seat.View.{View}
use Rattle.codec_model.specs.declared.entry.Opening.{Opening}
use Rattle.seat_lock.specs.Logs.{Has, IsNotIn, NoneBy}
use Rattle.seat_lock.specs.Own.{is_in}
use Rattle.seat_lock.specs.Passages.{Passes}
use Rattle.seat_lock.specs.Seats.{Sitting}
use Rattle.codec_logs.specs.declared.event.Event.{Event}
use Rattle.codec_logs.specs.Logs.{Track, opening_track, track, track_by, track_from}
use Rattle.codec_logs.specs.LogLaws.{track_append}
use Rattle.shared_codec.specs.Dues.{dues_in, dues_by, OwedSince}

pub not_in : (n : ℕ) (l : List ℕ) → IsNotIn n l → is_in n l ≡ false
not_in n [] h = refl
not_in n (m ∷ ms) h = subst (λ b. cond b true (is_in n ms) ≡ false) (sym (ne_eqb n m h.0)) (not_in n ms h.1)

either_true : (b : Bool) → cond b true true ≡ true
either_true true = refl
either_true false = refl

pub has_in : (n : ℕ) (l : List ℕ) → Has n l → is_in n l ≡ true
has_in n [] h = absurd h
has_in n (m ∷ ms) h = ⊎_elim (λ e. ap (λ b. cond b true (is_in n ms)) (eq-eqb n m e)) (λ i. ap (λ b. cond (eqb n m) true b) (has_in n ms i) ∙ either_true (eqb n m)) h

module _ {D : Type 0} (due : ℕ → Event → Track → List D) where
  -- nothing was made since
  pub owed_none : (k : ℕ) (o : Opening) (v : View Event) → OwedSince due k o v v []
  owed_none k o v = record { number = refl; numbers = refl; parts = refl; more = []; longer = sym (append-nil v.log); owed = refl }

  pub none_due : (k : ℕ) (numbers : List ℕ) (x : Track) (l : Log Event) → NoneBy numbers l → dues_by due k numbers x l ≡ []
  none_due k numbers x [] h = refl
  none_due k numbers x (p ∷ ps) h = ap (λ (b : Bool). cond b (dues_in due k p.1 x) [] ++ dues_by due k numbers (track_by p.0 p.1 x) ps) (not_in p.0 numbers h.0) ∙ none_due k numbers (track_by p.0 p.1 x) ps h.1

  pub due_append : (k : ℕ) (numbers : List ℕ) (x : Track) (a b : Log Event) → dues_by due k numbers x (a ++ b) ≡ dues_by due k numbers x a ++ dues_by due k numbers (track_from x a) b
  due_append k numbers x [] b = refl
  due_append k numbers x (p ∷ ps) b =
      ap (λ (l : List D). cond (is_in p.0 numbers) (dues_in due k p.1 x) [] ++ l) (due_append k numbers (track_by p.0 p.1 x) ps b)
      ∙ sym (append_assoc (cond (is_in p.0 numbers) (dues_in due k p.1 x) []) (dues_by due k numbers (track_by p.0 p.1 x) ps) (dues_by due k numbers (track_from (track_by p.0 p.1 x) ps) b))

  pub owed_then : (k : ℕ) (o : Opening) (u v w : View Event) (es fs : List D) → OwedSince due k o u v es → OwedSince due k o v w fs → OwedSince due k o u w (es ++ fs)
  owed_then k o u v w es fs a b =
      let x : Track = track o u.log in
      let now : track o v.log ≡ track_from x a.more = ap (track o) a.longer ∙ track_append (opening_track o) u.log a.more in
      let second : dues_by due k u.numbers (track_from x a.more) b.more ≡ fs = (λ i. dues_by due k (sym a.numbers i) (sym now i) b.more) ∙ b.owed in
      record {
        number = b.number ∙ a.number;
        numbers = b.numbers ∙ a.numbers;
        parts = b.parts ∙ a.parts;
        more = a.more ++ b.more;
        longer = b.longer ∙ (ap (λ (l : Log Event). l ++ b.more) a.longer ∙ append_assoc u.log a.more b.more);
        owed = due_append k u.numbers x a.more b.more ∙ (λ i. a.owed i ++ second i);
      }

  -- it calls for nothing else
  pub owed_once : (k : ℕ) (o : Opening) (v w : View Event) (es fs : List D) → OwedSince due k o v w es → OwedSince due k o v w fs → es ≡ fs
  owed_once k o v w es fs a b =
      let same : a.more ≡ b.more = append_cancel_left v.log a.more b.more (sym a.longer ∙ b.longer) in
      sym a.owed ∙ (ap (dues_by due k v.numbers (track o v.log)) same ∙ b.owed)

  module _ {S : Type 0} where
    -- one passage
    pub owed_passage : (k : ℕ) (o : Opening) (mints : Event → Bool) (spends : List Event → Event → Option ℕ) (p : Passage Event) (a c : Seat (Option S) (View Event)) (m : Passes mints spends p a c) → OwedSince due k o a.me.0 c.me.0 (dues_in due k p (track o m.log))
    owed_passage k o mints spends p a c m =
        let v : View Event = a.me.0 in
        let x : Track = track o v.log in
        let goes = m.continues in
        let now : track_from x goes.more ≡ track o m.log = sym (ap (track o) goes.is ∙ track_append (opening_track o) v.log goes.more) in
        let last : dues_by due k v.numbers (track_from x goes.more) ((v.number, p) ∷ []) ≡ dues_in due k p (track o m.log) =
        ap (λ (b : Bool). cond b (dues_in due k p (track_from x goes.more)) [] ++ []) (has_in v.number v.numbers m.has_number) ∙ (append-nil (dues_in due k p (track_from x goes.more)) ∙ ap (dues_in due k p) now) in
        record {
          number = ap (λ (y : Sitting S Event). y.0.number) m.view;
          numbers = ap (λ (y : Sitting S Event). y.0.numbers) m.view;
          parts = ap (λ (y : Sitting S Event). y.0.parts) m.view;
          more = goes.more ++ (v.number, p) ∷ [];
          longer = ap (λ (y : Sitting S Event). y.0.log) m.view ∙ (ap (λ (l : Log Event). l ++ (v.number, p) ∷ []) goes.is ∙ append_assoc v.log goes.more ((v.number, p) ∷ []));
          owed = due_append k v.numbers x goes.more ((v.number, p) ∷ []) ∙ (λ i. none_due k v.numbers x goes.more goes.by_others i ++ last i);
        }
