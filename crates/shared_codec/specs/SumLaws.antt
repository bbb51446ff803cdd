-- That what seats' entries call for adds up, whatever it is.
use Rattle.std.proofs.Common.{ℕ, ◌≡◌, ◌+◌, Bool, true, false, cond, eqb, eqb-true, List, [], ◌∷◌, ◌++◌, refl, ap, sym, subst, ◌∙◌, arith, append-nil}
use Rattle.std.specs.List.{sum_by}
use Rattle.std.proofs.lemmas.List.Sums.{sum_by-append}
use Rattle.wc_base.specs.Views.{Log}
use Rattle.wc_base.specs.declared.seat.View.{View}
use Rattle.codec_model.specs.declared.entry.Opening.{Opening}
use Rattle.codec_accounts.specs.Bags.{SameBag}
use Rattle.seat_lock.specs.Logs.{AllBy, AreApart, Continues}
use Rattle.seat_lock.specs.Own.{is_in}
use Rattle.codec_logs.specs.declared.event.Event.{Event}
use Rattle.codec_logs.specs.Logs.{Track, opening_track, track_by, track_from}
use Rattle.shared_codec.specs.Dues.{dues_in, dues_by, OwedSince}
use Rattle.shared_codec.specs.Sums.{AreJoined, dues_of, all_dues, DuesAddUp}
use Rattle.shared_codec.specs.DueLaws.{not_in, has_in, none_due, due_append}

pub in_both : (n : ℕ) (a b : List ℕ) → is_in n a ≡ true → is_in n (a ++ b) ≡ true
in_both n [] b h = absurd cc
in_both n (m ∷ ms) b h = by (in_both n ms b) (eqb n m) h
  where
    by : (is_in n ms ≡ true → is_in n (ms ++ b) ≡ true) → (t : Bool) → cond t true (is_in n ms) ≡ true → cond t true (is_in n (ms ++ b)) ≡ true
    by rest true is = refl
    by rest false is = rest is

pub in_other : (n : ℕ) (a b : List ℕ) → is_in n a ≡ false → is_in n (a ++ b) ≡ is_in n b
in_other n [] b h = refl
in_other n (m ∷ ms) b h = by (in_other n ms b) (eqb n m) h
  where
    by : (is_in n ms ≡ false → is_in n (ms ++ b) ≡ is_in n b) → (t : Bool) → cond t true (is_in n ms) ≡ false → cond t true (is_in n (ms ++ b)) ≡ is_in n b
    by rest true is = absurd cc
    by rest false is = rest is

not_both : (n : ℕ) (a b : List ℕ) → AreApart a b → is_in n a ≡ true → is_in n b ≡ false
not_both n [] b apart h = absurd cc
not_both n (m ∷ ms) b apart h = by (not_both n ms b apart.1) (eqb n m) refl h
  where
    by : (is_in n ms ≡ true → is_in n b ≡ false) → (t : Bool) → eqb n m ≡ t → cond t true (is_in n ms) ≡ true → is_in n b ≡ false
    by rest true same is = subst (λ (x : ℕ). is_in x b ≡ false) (sym (eqb-true n m same)) (not_in m b apart.0)
    by rest false same is = rest is

module _ {D : Type 0} where
  one_more : (t : D → ℕ) (d a b ab : List D) (one other both : Bool) → (one ≡ true → other ≡ false) → (one ≡ true → both ≡ true) → (one ≡ false → both ≡ other)
      → sum_by t ab ≡ sum_by t a + sum_by t b → sum_by t (cond both d [] ++ ab) ≡ sum_by t (cond one d [] ++ a) + sum_by t (cond other d [] ++ b)
  one_more t d a b ab true other both apart up same e =
      let l = sum_by-append t d ab in
      let r = sum_by-append t d a in
      let core : sum_by t (d ++ ab) ≡ sum_by t (d ++ a) + sum_by t b = omega (arith, l, r, e) in
      (λ i. sum_by t (cond (up refl i) d [] ++ ab)) ∙ (core ∙ (λ i. sum_by t (d ++ a) + sum_by t (cond (sym (apart refl) i) d [] ++ b)))
  one_more t d a b ab false true both apart up same e =
      let l = sum_by-append t d ab in
      let r = sum_by-append t d b in
      let core : sum_by t (d ++ ab) ≡ sum_by t a + sum_by t (d ++ b) = omega (arith, l, r, e) in
      (λ i. sum_by t (cond (same refl i) d [] ++ ab)) ∙ core
  one_more t d a b ab false false both apart up same e = (λ i. sum_by t (cond (same refl i) d [] ++ ab)) ∙ e

module _ {D : Type 0} (due : ℕ → Event → Track → List D) where
  both_due : (k : ℕ) (one other : List ℕ) (x : Track) (l : Log Event) → AreApart one other → (t : D → ℕ)
      → sum_by t (dues_by due k (one ++ other) x l) ≡ sum_by t (dues_by due k one x l) + sum_by t (dues_by due k other x l)
  both_due k one other x [] apart t = refl
  both_due k one other x (p ∷ ps) apart t =
      one_more t (dues_in due k p.1 x) (dues_by due k one (track_by p.0 p.1 x) ps) (dues_by due k other (track_by p.0 p.1 x) ps) (dues_by due k (one ++ other) (track_by p.0 p.1 x) ps)
      (is_in p.0 one) (is_in p.0 other) (is_in p.0 (one ++ other)) (not_both p.0 one other apart) (in_both p.0 one other) (in_other p.0 one other) (both_due k one other (track_by p.0 p.1 x) ps apart t)

  -- passages of others call for nothing of a seat's
  pub goes_on_due : (k : ℕ) (numbers : List ℕ) (x : Track) (a b : Log Event) → Continues numbers a b → dues_by due k numbers x b ≡ dues_by due k numbers x a
  goes_on_due k numbers x a b goes =
      ap (λ (l : Log Event). dues_by due k numbers x l) goes.is
      ∙ (due_append due k numbers x a goes.more
      ∙ (ap (λ (l : List D). dues_by due k numbers x a ++ l) (none_due due k numbers (track_from x a) goes.more goes.by_others)
      ∙ append-nil (dues_by due k numbers x a)))

  grows : (k : ℕ) (o : Opening) (v w : View Event) (es : List D) → OwedSince due k o v w es → dues_of due k o w ≡ dues_of due k o v ++ es
  grows k o v w es since =
      (λ i. dues_by due k (since.numbers i) (opening_track o) (since.longer i))
      ∙ (due_append due k v.numbers (opening_track o) v.log since.more ∙ ap (λ (l : List D). dues_of due k o v ++ l) since.owed)

  joined : (k : ℕ) (o : Opening) (v w u : View Event) → AreJoined v w u → SameBag (dues_of due k o u) (dues_of due k o v ++ dues_of due k o w)
  joined k o v w u j t =
      let x : Track = opening_track o in
      let all = both_due k v.numbers w.numbers x u.log j.apart t in
      let split = sum_by-append t (dues_of due k o v) (dues_of due k o w) in
      ap (λ (numbers : List ℕ). sum_by t (dues_by due k numbers x u.log)) j.numbers
      ∙ (all
      ∙ ((λ i. sum_by t (goes_on_due k v.numbers x v.log u.log j.one i) + sum_by t (goes_on_due k w.numbers x w.log u.log j.other i))
      ∙ sym split))

  all_by : (k : ℕ) (numbers : List ℕ) (x : Track) (l : Log Event) → AllBy numbers l → dues_by due k numbers x l ≡ all_dues due k x l
  all_by k numbers x [] h = refl
  all_by k numbers x (p ∷ ps) h = (λ i. cond (has_in p.0 numbers h.0 i) (dues_in due k p.1 x) [] ++ all_by k numbers (track_by p.0 p.1 x) ps h.1 i)

  pub dues_add_up : DuesAddUp due
  dues_add_up = record { grow = grows; joined = joined; all = λ k o v h. all_by k v.numbers (opening_track o) v.log h }
