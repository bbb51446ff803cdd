-- One codec's seat is split, or takes in another one.
use Rattle.std.proofs.Common.{ℕ, ◌≡◌, ◌<◌, List, [], ◌∷◌, ◌++◌, Option, Some, length, length-append, refl, ap, sym, subst, arith, set}
use Rattle.std.specs.Prelude.{slice_get}
use Rattle.atomic_table.specs.Seated.{TableId}
use Rattle.atomic_table.specs.declared.shared.Seat.{Seat}
use Rattle.wc_base.specs.declared.seat.View.{View}
use Rattle.codec_logs.specs.declared.event.Event.{Event}
use Rattle.shared_codec.specs.Shared.{Shared}
use Rattle.codec_desk.specs.Desks.{SitsAt}
use Rattle.codec_desk.specs.Each.{Pairs}
use Rattle.codec_desk.specs.EachLaws.{pairs_get}
use Rattle.desk_threads.specs.Parts.{IsSplit, IsJoin}
use Rattle.desk_threads.proofs.Lists.{FirstSplit, LastJoined, split_there, split_more, join_length, join_there, join_less}

module _ {S : Type 0} where
  abbrev pub Split : Shared → Seat (Option S) (View Event) → Seat (Option S) (View Event) → Seat (Option S) (View Event) → Type 0
  Split s u v w = IsSplit s.id u v w

  abbrev pub Join : Shared → Seat (Option S) (View Event) → Seat (Option S) (View Event) → Seat (Option S) (View Event) → Type 0
  Join s u v w = IsJoin u v w

  module _ (pool slots : TableId) (k : ℕ) (xs : List Shared) (us vs ns : List (Seat (Option S) (View Event))) (x : Shared) (s : Seat (Option S) (View Event)) where
    -- the seat that is split next
    pub split_at : Pairs (SitsAt pool slots) 0 xs us → FirstSplit Split xs us vs ns → length ns ≡ k → slice_get xs k ≡ Some x → slice_get vs k ≡ Some s → SitsAt pool slots k x s × (slice_get us k ≡ Some s)
    split_at sits h is at there =
        let was : slice_get us k ≡ Some s = subst (λ (m : ℕ). slice_get us m ≡ Some s) is (split_there Split xs us vs ns s h (subst (λ (m : ℕ). slice_get vs m ≡ Some s) (sym is) there)) in
        (pairs_get (SitsAt pool slots) 0 k k xs us x s sits (omega arith) at was, was)

  module _ (k : ℕ) (xs : List Shared) (us vs ns : List (Seat (Option S) (View Event))) (x : Shared) (s : Seat (Option S) (View Event)) where
    pub split_step : (t n : Seat (Option S) (View Event)) → FirstSplit Split xs us vs ns → length ns ≡ k → slice_get xs k ≡ Some x → slice_get vs k ≡ Some s → IsSplit x.id s t n → FirstSplit Split xs us (set vs k t) (ns ++ n ∷ [])
    split_step t n h is at there split =
        subst (λ (m : ℕ). FirstSplit Split xs us (set vs m t) (ns ++ n ∷ [])) is
        (split_more Split xs us vs ns x s t n h (subst (λ (m : ℕ). slice_get xs m ≡ Some x) (sym is) at) (subst (λ (m : ℕ). slice_get vs m ≡ Some s) (sym is) there) split)

  module _ (xs : List Shared) (us ws vs all ns : List (Seat (Option S) (View Event))) (n : Seat (Option S) (View Event)) where
    -- there is a codec for the last one that is left, and a seat
    pub join_few : LastJoined Join xs us ws vs all → all ≡ ns ++ n ∷ [] → (length ns < length xs) × (length ns < length vs)
    join_few h last =
        let l = join_length Join xs us ws vs all h in
        let same = l.0 in
        let few = l.1 in
        let e = ap (λ (m : List (Seat (Option S) (View Event))). length m) last in
        let f = length-append ns (n ∷ []) in
        (omega (arith, few, e, f), omega (arith, few, e, f, same))

    module _ (k : ℕ) (x : Shared) (s : Seat (Option S) (View Event)) where
      -- the seat that takes in the next one, and that one
      pub join_at : (pool slots : TableId) → Pairs (SitsAt pool slots) 0 xs us → Pairs (SitsAt pool slots) 0 xs ws → LastJoined Join xs us ws vs all → all ≡ ns ++ n ∷ [] → length ns ≡ k → slice_get xs k ≡ Some x → slice_get vs k ≡ Some s → SitsAt pool slots k x s × SitsAt pool slots k x n
      join_at pool slots sits others h last is at there =
          let was = join_there Join xs us ws vs ns n s (subst (λ (l : List (Seat (Option S) (View Event))). LastJoined Join xs us ws vs l) last h) (subst (λ (m : ℕ). slice_get vs m ≡ Some s) (sym is) there) in (
            pairs_get (SitsAt pool slots) 0 k k xs us x s sits (omega arith) at (subst (λ (m : ℕ). slice_get us m ≡ Some s) is was.0),
            pairs_get (SitsAt pool slots) 0 k k xs ws x n others (omega arith) at (subst (λ (m : ℕ). slice_get ws m ≡ Some n) is was.1),
          )

      pub join_step : (t : Seat (Option S) (View Event)) → LastJoined Join xs us ws vs all → all ≡ ns ++ n ∷ [] → length ns ≡ k → slice_get xs k ≡ Some x → slice_get vs k ≡ Some s → IsJoin s n t → LastJoined Join xs us ws (set vs k t) ns
      join_step t h last is at there join =
          subst (λ (m : ℕ). LastJoined Join xs us ws (set vs m t) ns) is
          (join_less Join xs us ws vs ns n x s t (subst (λ (l : List (Seat (Option S) (View Event))). LastJoined Join xs us ws vs l) last h) (subst (λ (m : ℕ). slice_get xs m ≡ Some x) (sym is) at) (subst (λ (m : ℕ). slice_get vs m ≡ Some s) (sym is) there) join)

pub no_seats : {X : Type 0} (l : List X) → length l ≡ 0 → l ≡ []
no_seats [] h = refl
no_seats (x ∷ xs) h = absurd (omega (arith, h))
