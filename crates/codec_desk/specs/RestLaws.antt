-- Laws of what a thread finds where it finds nothing to do.
use Rattle.std.proofs.Common.{ℕ, ◌≡◌, Bool, true, false, cond, List, [], ◌∷◌, ◌++◌, Option, refl, ap, subst, ◌∙◌, append_assoc}
use Rattle.atomic_table.specs.declared.shared.Seat.{Seat}
use Rattle.wc_base.specs.Views.{Log}
use Rattle.wc_base.specs.declared.seat.Passage.{Passage}
use Rattle.wc_base.specs.declared.seat.Passage.TheVariants.{Made, Look}
use Rattle.wc_base.specs.declared.seat.View.{View}
use Rattle.seat_lock.specs.Logs.{NoneBy, entry_in}
use Rattle.seat_lock.specs.Own.{is_in}
use Rattle.seat_lock.specs.Seats.{Sitting}
use Rattle.seat_lock.specs.Since.{entries_by}
use Rattle.codec_logs.specs.declared.event.Event.{Event}
use Rattle.codec_logs.specs.Logs.{IsLog}
use Rattle.shared_codec.specs.DueLaws.{not_in}
use Rattle.shared_codec.specs.Keeps.{Keeps}
use Rattle.shared_codec.specs.Shared.{Shared, LookedIn}
use Rattle.codec_desk.specs.Desks.{SeesMore}
use Rattle.codec_desk.specs.Rests.{Looked, Rested, Still}

module _ {E : Type 0} where
  by_others : (numbers : List ℕ) (l : Log E) → NoneBy numbers l → entries_by numbers l ≡ []
  by_others numbers [] h = refl
  by_others numbers (p ∷ ps) h = ap (λ (b : Bool). cond b (entry_in p.1 (entries_by numbers ps)) (entries_by numbers ps)) (not_in p.0 numbers h.0) ∙ by_others numbers ps h.1

  step_both : (b : Bool) (p : Passage E) (l m : List E) → (l ≡ [] → m ≡ []) → cond b (entry_in p l) l ≡ [] → cond b (entry_in p m) m ≡ []
  step_both true (Made e) l m f h = absurd cc
  step_both true Look l m f h = f h
  step_both false p l m f h = f h

  pub none_both : (numbers : List ℕ) (a b : Log E) → entries_by numbers a ≡ [] → entries_by numbers b ≡ [] → entries_by numbers (a ++ b) ≡ []
  none_both numbers [] b h k = k
  none_both numbers (p ∷ ps) b h k = step_both (is_in p.0 numbers) p.1 (entries_by numbers ps) (entries_by numbers (ps ++ b)) (λ i. none_both numbers ps b i k) h

  own_look : (b : Bool) (l : List E) → l ≡ [] → cond b l l ≡ []
  own_look true l h = h
  own_look false l h = h

  look_then : (numbers : List ℕ) (n : ℕ) (l : Log E) → entries_by numbers l ≡ [] → entries_by numbers ((n, Look) ∷ l) ≡ []
  look_then numbers n l h = own_look (is_in n numbers) (entries_by numbers l) h

module _ {S : Type 0} (P : Shared → Log Event → Type 0) where
  -- a look by which this was so
  pub rested_look : (s : Shared) (a b : Seat (Option S) (View Event)) (x : LookedIn s a b) → P s x.passes.log → Rested P s a b
  rested_look s a b x so =
      let p = x.passes in
      let is : p.log ≡ a.me.0.log ++ p.continues.more = p.continues.is in
      record {
        looked = record {
          before = p.continues.more;
          legal = subst (λ (l : Log Event). IsLog s.codec s.opening l) is x.legal;
          so = subst (P s) is so;
          after = [];
          seen = ap (λ (m : Sitting S Event). m.0.log) p.view ∙ ap (λ (l : Log Event). l ++ (a.me.0.number, Look) ∷ []) is;
        };
        none_before = by_others a.me.0.numbers p.continues.more p.continues.by_others;
        none_after = refl;
      }

  -- no entry was made before
  pub rested_earlier : (s : Shared) (a b c : Seat (Option S) (View Event)) → Still s a b → Rested P s b c → Rested P s a c
  rested_earlier s a b c still r =
      let x = r.looked in
      let both : b.me.0.log ++ x.before ≡ a.me.0.log ++ (still.more ++ x.before) =
      ap (λ (l : Log Event). l ++ x.before) still.longer ∙ append_assoc a.me.0.log still.more x.before in
      record {
        looked = record {
          before = still.more ++ x.before;
          legal = subst (λ (l : Log Event). IsLog s.codec s.opening l) both x.legal;
          so = subst (P s) both x.so;
          after = x.after;
          seen = x.seen ∙ (λ i. both i ++ (still.number i, Look) ∷ x.after);
        };
        none_before = none_both a.me.0.numbers still.more x.before still.made (subst (λ (l : List ℕ). entries_by l x.before ≡ []) still.numbers r.none_before);
        none_after = subst (λ (l : List ℕ). entries_by l x.after ≡ []) still.numbers r.none_after;
      }

  -- no entry was made since
  pub rested_later : (s : Shared) (a b c : Seat (Option S) (View Event)) → b.me.0.numbers ≡ a.me.0.numbers → Rested P s a b → Still s b c → Rested P s a c
  rested_later s a b c numbers r still =
      let x = r.looked in
      record {
        looked = record {
          before = x.before;
          legal = x.legal;
          so = x.so;
          after = x.after ++ still.more;
          seen = still.longer ∙ (ap (λ (l : Log Event). l ++ still.more) x.seen ∙ append_assoc (a.me.0.log ++ x.before) ((a.me.0.number, Look) ∷ x.after) still.more);
        };
        none_before = r.none_before;
        none_after = none_both a.me.0.numbers x.after still.more r.none_after (subst (λ (l : List ℕ). entries_by l still.more ≡ []) numbers still.made);
      }

  -- who rested made no entry
  pub still_rested : (s : Shared) (a b : Seat (Option S) (View Event)) → Keeps s.id a b → Rested P s a b → Still s a b
  still_rested s a b kept r =
      let x = r.looked in
      record {
        number = kept.number;
        numbers = kept.numbers;
        parts = kept.parts;
        more = x.before ++ (a.me.0.number, Look) ∷ x.after;
        longer = x.seen ∙ append_assoc a.me.0.log x.before ((a.me.0.number, Look) ∷ x.after);
        made = none_both a.me.0.numbers x.before ((a.me.0.number, Look) ∷ x.after) r.none_before (look_then a.me.0.numbers a.me.0.number x.after r.none_after);
      }

  -- a look, as it was seen from before
  pub looked_earlier : (s : Shared) (a b c : Seat (Option S) (View Event)) → SeesMore s a b → Looked P s b c → Looked P s a c
  looked_earlier s a b c sees x =
      let both : b.me.0.log ++ x.before ≡ a.me.0.log ++ (sees.more ++ x.before) =
      ap (λ (l : Log Event). l ++ x.before) sees.longer ∙ append_assoc a.me.0.log sees.more x.before in
      record {
        before = sees.more ++ x.before;
        legal = subst (λ (l : Log Event). IsLog s.codec s.opening l) both x.legal;
        so = subst (P s) both x.so;
        after = x.after;
        seen = x.seen ∙ (λ i. both i ++ (sees.kept.number i, Look) ∷ x.after);
      }

  -- a look, once more was seen
  pub looked_later : (s : Shared) (a b c : Seat (Option S) (View Event)) → Looked P s a b → SeesMore s b c → Looked P s a c
  looked_later s a b c x sees = record {
    before = x.before;
    legal = x.legal;
    so = x.so;
    after = x.after ++ sees.more;
    seen = sees.longer ∙ (ap (λ (l : Log Event). l ++ sees.more) x.seen ∙ append_assoc (a.me.0.log ++ x.before) ((a.me.0.number, Look) ∷ x.after) sees.more);
  }
