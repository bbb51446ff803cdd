-- What a thread made is in time.
use Rattle.std.proofs.Common.{ℕ, ◌+◌, ◌≡◌, Bool, true, cond, inl, inr, List, [], ◌∷◌, ◌++◌, Option, Some, None, refl, ap, sym, subst, ◌∙◌, arith}
use Rattle.std.specs.List.{sum_by}
use Rattle.std.proofs.lemmas.List.Sums.{sum_by-append}
use Rattle.atomic_table.specs.declared.shared.Seat.{Seat}
use Rattle.wc_base.specs.declared.seat.View.{View}
use Rattle.seat_lock.specs.Logs.{Has, entries_of}
use Rattle.seat_lock.specs.Since.{entries_by}
use Rattle.codec_logs.specs.declared.event.Event.{Event}
use Rattle.codec_logs.specs.Logs.{entry_of}
use Rattle.work_moments.specs.Moments.{Telling, may_give, AllMay}
use Rattle.shared_codec.specs.Order.{made_by}
use Rattle.shared_codec.specs.Shared.{Shared}
use Rattle.shared_codec.specs.Tallies.{moment_of, unfit_moment, reclaims, refusals, untimely}
use Rattle.codec_desk.specs.declared.desk.Desk.{Desk}
use Rattle.codec_desk.specs.declared.desk.Seats.{Seats}
use Rattle.codec_desk.specs.Clocks.{IfAmong, AllAt, EndsAt, tally, Clocked}
use Rattle.codec_desk.specs.Each.{Each, total_of}
use Rattle.codec_desk.specs.MadeLaws.{made_all}
use Rattle.codec_desk.specs.TallyLaws.{tally_same, few_rest}
use Rattle.desk_threads.specs.Accounts.{SawNone, EachByAll, AreAll}
use Rattle.desk_threads.specs.AccountLaws.{saw_none, left_made, new_made, seat_joined}
use Rattle.desk_threads.specs.Parts.{IsSplit, IsJoin, AreSplit, AreTakenIn}
use Rattle.desk_threads.specs.PartLaws.{total_second, total_third, total_both}
use Rattle.desk_threads.specs.Timely.{InTime, WholeInTime}

-- ---- moments that fit

module _ (fits : ℕ → Bool) (may : Option (List ℕ)) (fit : (m : ℕ) → may_give may m ≡ true → fits m ≡ true) where
  fits_one : (m : ℕ) (moments : List ℕ) → AllMay may moments → Has m moments → fits m ≡ true
  fits_one m [] all h = absurd h
  fits_one m (n ∷ rest) all (inl is) = subst (λ (x : ℕ). fits x ≡ true) (sym is) (fit n all.0)
  fits_one m (n ∷ rest) all (inr h) = fits_one m rest all.1 h

  none_unfit : (moments : List ℕ) → AllMay may moments → (o : Option ℕ) → IfAmong moments o → unfit_moment fits o ≡ 0
  none_unfit moments all None h = refl
  none_unfit moments all (Some m) h = ap (λ (b : Bool). cond b 0 1) (fits_one m moments all h)

  none_late : (moments : List ℕ) → AllMay may moments → (es : List Event) → AllAt moments es → sum_by (untimely fits) es ≡ 0
  none_late moments all [] h = refl
  none_late moments all (e ∷ es) h =
      let a = sum_by-append (untimely fits) (e ∷ []) es in
      let b = none_unfit moments all (moment_of (entry_of e)) h.0 in
      let c = none_late moments all es h.1 in
      omega (arith, a, b, c)

none_timeless : (fits : ℕ → Bool) (o : Option ℕ) → IfAmong [] o → unfit_moment fits o ≡ 0
none_timeless fits None h = refl
none_timeless fits (Some m) h = absurd h

none_at : (fits : ℕ → Bool) (es : List Event) → AllAt [] es → sum_by (untimely fits) es ≡ 0
none_at fits [] h = refl
none_at fits (e ∷ es) h =
    let a = sum_by-append (untimely fits) (e ∷ []) es in
    let b = none_timeless fits (moment_of (entry_of e)) h.0 in
    let c = none_at fits es h.1 in
    omega (arith, a, b, c)

-- ---- what is counted

module _ {C : Type 0} (count : Event → ℕ) (desk : Desk C) where
  tally_first : (a : Seats C) → SawNone a → tally count desk.codecs.items a.codecs.items ≡ 0
  tally_first a none = ap (sum_by count) (saw_none (λ s u. made_by u.me.0) (λ s u h. ap (entries_by u.me.0.numbers) h) desk.codecs.items a.codecs.items none.codecs)

  tally_left : (a b n : Seats C) → AreSplit desk a b n → tally count desk.codecs.items b.codecs.items ≡ tally count desk.codecs.items a.codecs.items
  tally_left a b n split = ap (sum_by count) (total_second (λ s u v w. IsSplit s.id u v w) (λ s u. made_by u.me.0) (λ s u v w h. left_made s.id u v w h) desk.codecs.items a.codecs.items b.codecs.items n.codecs.items split.codecs)

  tally_new : (a b n : Seats C) → AreSplit desk a b n → tally count desk.codecs.items n.codecs.items ≡ 0
  tally_new a b n split = ap (sum_by count) (total_third (λ s u v w. IsSplit s.id u v w) (λ s u. made_by u.me.0) (λ s u v w h. new_made s.id u v w h) desk.codecs.items a.codecs.items b.codecs.items n.codecs.items split.codecs)

  tally_joined : (a o b : Seats C) → AreTakenIn desk a o b → tally count desk.codecs.items b.codecs.items ≡ tally count desk.codecs.items a.codecs.items + tally count desk.codecs.items o.codecs.items
  tally_joined a o b join =
      let all = total_both (λ s u v w. IsJoin u v w) (λ s u. made_by u.me.0) (λ s u v w h. seat_joined u v w h) desk.codecs.items a.codecs.items o.codecs.items b.codecs.items join.codecs in
      all count ∙ sum_by-append count (total_of (λ s u. made_by u.me.0) desk.codecs.items a.codecs.items) (total_of (λ s u. made_by u.me.0) desk.codecs.items o.codecs.items)

-- all that was made is all that the logs have
all_made : {S : Type 0} (xs : List Shared) (us : List (Seat (Option S) (View Event))) → EachByAll us → total_of (λ s u. made_by u.me.0) xs us ≡ total_of (λ s u. entries_of u.me.0.log) xs us
all_made [] us h = refl
all_made (x ∷ xs) [] h = refl
all_made (x ∷ xs) (u ∷ us) h = (λ i. made_all u.me.0.numbers u.me.0.log h.0 i ++ all_made xs us h.1 i)

-- ---- threads

module _ {C : Type 0} (fits : ℕ → Bool) (desk : Desk C) where
  pub time_first : (a : Seats C) → SawNone a → InTime fits desk a
  time_first a none = record {
    timely = tally_first (untimely fits) desk a none;
    few = (let i = tally_first reclaims desk a none in omega (arith, i));
  }

  pub time_kept : (a b : Seats C) (old now : Telling) → Clocked desk a b old now → ((m : ℕ) → may_give old.may m ≡ true → fits m ≡ true) → InTime fits desk a → InTime fits desk b
  time_kept a b old now x fit was =
      let t = x.timed in
      let same = tally_same (untimely fits) t.moments (none_late fits old.may fit t.moments t.given.1) desk.codecs.items a.codecs.items b.codecs.items t.ends in
      let i = x.few in
      let j = was.few in
      record { timely = same ∙ was.timely; few = omega (arith, i, j) }

  pub time_rest : (a b : Seats C) → Each (EndsAt []) desk.codecs.items a.codecs.items b.codecs.items → InTime fits desk a → InTime fits desk b
  time_rest a b ends was =
      let same = tally_same (untimely fits) [] (none_at fits) desk.codecs.items a.codecs.items b.codecs.items ends in
      let i = few_rest desk.codecs.items a.codecs.items b.codecs.items ends in
      let j = was.few in
      record { timely = same ∙ was.timely; few = omega (arith, i, j) }

  pub time_left : (a b n : Seats C) → AreSplit desk a b n → InTime fits desk a → InTime fits desk b
  time_left a b n split was =
      let i = tally_left reclaims desk a b n split in
      let j = tally_left refusals desk a b n split in
      let k = was.few in
      record { timely = tally_left (untimely fits) desk a b n split ∙ was.timely; few = omega (arith, i, j, k) }

  pub time_new : (a b n : Seats C) → AreSplit desk a b n → InTime fits desk n
  time_new a b n split = record {
    timely = tally_new (untimely fits) desk a b n split;
    few = (let i = tally_new reclaims desk a b n split in omega (arith, i));
  }

  pub time_joined : (a o b : Seats C) → AreTakenIn desk a o b → InTime fits desk a → InTime fits desk o → InTime fits desk b
  time_joined a o b join x y =
      let t = tally_joined (untimely fits) desk a o b join in
      let i = tally_joined reclaims desk a o b join in
      let j = tally_joined refusals desk a o b join in
      let p = x.timely in
      let q = y.timely in
      let k = x.few in
      let l = y.few in
      record { timely = omega (arith, t, p, q); few = omega (arith, i, j, k, l) }

  pub time_all : (a : Seats C) → AreAll a → InTime fits desk a → WholeInTime fits desk a
  time_all a all x =
      let is = all_made desk.codecs.items a.codecs.items all.codecs in
      let t = ap (sum_by (untimely fits)) is in
      let i = ap (sum_by reclaims) is in
      let j = ap (sum_by refusals) is in
      let p = x.timely in
      let k = x.few in
      record { timely = omega (arith, t, p); few = omega (arith, i, j, k) }
