-- Laws of the account of a thread.
use Rattle.std.proofs.Common.{ℕ, ◌≡◌, ◌+◌, Bool, true, false, cond, List, [], ◌∷◌, ◌++◌, map, Option, refl, ap, sym, ◌∙◌, arith}
use Rattle.std.specs.List.{sum_by, filter}
use Rattle.std.proofs.lemmas.List.Elements.{filter-append}
use Rattle.std.proofs.lemmas.List.Sums.{sum_by-cons, sum_by-append}
use Rattle.atomic_table.specs.Seated.{TableId}
use Rattle.atomic_table.specs.declared.shared.Seat.{Seat}
use Rattle.wc_base.specs.declared.seat.View.{View}
use Rattle.wc_pool.specs.declared.entry.{PoolEntry.PoolEntry, PoolOp.PoolOp}
use Rattle.codec_accounts.specs.Bags.{SameBag}
use Rattle.seat_lock.specs.Seats.{Sitting}
use Rattle.seat_lock.specs.Since.{entries_by}
use Rattle.codec_logs.specs.declared.event.Event.{Event}
use Rattle.codec_logs.specs.Logs.{Track, opening_track}
use Rattle.shared_codec.specs.Dues.{dues_by, slot_dues, media_dues}
use Rattle.shared_codec.specs.DueLaws.{none_due}
use Rattle.shared_codec.specs.Order.{made_by}
use Rattle.shared_codec.specs.Shared.{Shared}
use Rattle.shared_codec.specs.Sums.{AreJoined, dues_of, DuesAddUp}
use Rattle.codec_desk.specs.declared.desk.Desk.{Desk}
use Rattle.codec_desk.specs.declared.desk.Seats.{Seats}
use Rattle.codec_desk.specs.DeskLaws.{map_both}
use Rattle.codec_desk.specs.Desks.{told, entry_for, slot_calls, pool_calls, Settled}
use Rattle.codec_desk.specs.Each.{total_of}
use Rattle.desk_threads.specs.Accounts.{is_by_codec, for_codecs, Balanced, EachSawNone, SawNone, EachByAll, all_slot_calls, all_pool_calls, AreAll, AllBalanced}
use Rattle.codec_desk.specs.MadeLaws.{entries_none, made_more, made_joined, made_all}
use Rattle.desk_threads.specs.Parts.{IsSplit, IsJoin, AreSplit, AreTakenIn}
use Rattle.desk_threads.specs.PartLaws.{total_second, total_third, total_both}

-- ---- bags

pub weigh_map : {X Y : Type 0} (t : Y → ℕ) (f : X → Y) (xs : List X) → sum_by t (map f xs) ≡ sum_by (λ x. t (f x)) xs
weigh_map t f [] = refl
weigh_map t f (x ∷ xs) =
    let a = sum_by-cons t (f x) (map f xs) in
    let b = weigh_map t f xs in
    let c = sum_by-cons (λ y. t (f y)) x xs in
    omega (arith, a, b, c)

-- the same under a function, of what adds up
pub map_joined : {X Y : Type 0} (f : X → Y) (a b c : List X) → SameBag c (a ++ b) → SameBag (map f c) (map f a ++ map f b)
map_joined f a b c same t =
    let u = weigh_map t f c in
    let v = weigh_map t f a in
    let w = weigh_map t f b in
    let x = same (λ y. t (f y)) in
    let y = sum_by-append (λ y. t (f y)) a b in
    let z = sum_by-append t (map f a) (map f b) in
    omega (arith, u, v, w, x, y, z)

-- ---- the entries of a pool that were made for codecs

for_one : (e : PoolEntry) → Bool
for_one e = is_by_codec e.by

-- how much they weigh
weigh_for : (t : PoolEntry → ℕ) (b : Bool) (e : PoolEntry) (l : List PoolEntry) → sum_by t (map told (cond b (e ∷ l) l)) ≡ cond b (t (told e)) 0 + sum_by t (map told l)
weigh_for t true e l = sum_by-cons t (told e) (map told l)
weigh_for t false e l = omega arith

pub weigh_codecs : (t : PoolEntry → ℕ) (es : List PoolEntry) → sum_by t (for_codecs es) ≡ sum_by (λ e. cond (is_by_codec e.by) (t (told e)) 0) es
weigh_codecs t [] = refl
weigh_codecs t (e ∷ es) =
    let a = weigh_for t (is_by_codec e.by) e (filter (λ e. is_by_codec e.by) es) in
    let b = weigh_codecs t es in
    let c = sum_by-cons (λ (x : PoolEntry). cond (is_by_codec x.by) (t (told x)) 0) e es in
    omega (arith, a, b, c)

-- of entries that add up they add up
pub codecs_joined : (a b c : List PoolEntry) → SameBag c (a ++ b) → SameBag (for_codecs c) (for_codecs a ++ for_codecs b)
codecs_joined a b c same t =
    let w : PoolEntry → ℕ = λ e. cond (is_by_codec e.by) (t (told e)) 0 in
    let u = weigh_codecs t c in
    let v = weigh_codecs t a in
    let x = weigh_codecs t b in
    let y = same w in
    let z = sum_by-append w a b in
    let s = sum_by-append t (for_codecs a) (for_codecs b) in
    omega (arith, u, v, x, y, z, s)

-- ---- what codecs call for is made for codecs

abbrev outside : Bool → ℕ
outside true = 0
outside false = 1

-- whether a caller made the entry
abbrev by_caller : PoolEntry → ℕ
by_caller e = outside (is_by_codec e.by)

no_caller : (k : ℕ) (ps : List (ℕ × PoolOp)) → sum_by by_caller (map (entry_for k) ps) ≡ 0
no_caller k [] = refl
no_caller k (p ∷ ps) =
    let a = sum_by-cons by_caller (entry_for k p) (map (entry_for k) ps) in
    let b = no_caller k ps in
    let c : by_caller (entry_for k p) ≡ 0 = refl in
    omega (arith, a, b, c)

module _ {S : Type 0} where
  no_callers : (xs : List Shared) (us : List (Seat (Option S) (View Event))) → sum_by by_caller (pool_calls xs us) ≡ 0
  no_callers [] us = refl
  no_callers (x ∷ xs) [] = refl
  no_callers (x ∷ xs) (u ∷ us) =
      let a = no_caller x.codec (dues_of media_dues x.codec x.opening u.me.0) in
      let b = no_callers xs us in
      let c = sum_by-append by_caller (map (entry_for x.codec) (dues_of media_dues x.codec x.opening u.me.0)) (pool_calls xs us) in
      omega (arith, a, b, c)

for_each : (b : Bool) (e : PoolEntry) (l m : List PoolEntry) → outside b ≡ 0 → map told l ≡ map told m → map told (cond b (e ∷ l) l) ≡ map told (e ∷ m)
for_each true e l m none same = ap (λ (x : List PoolEntry). told e ∷ x) same
for_each false e l m none same = absurd (omega (arith, none))

-- entries of which none is of a caller
all_codecs : (es : List PoolEntry) → sum_by by_caller (map told es) ≡ 0 → for_codecs es ≡ map told es
all_codecs [] none = refl
all_codecs (e ∷ es) none =
    let a = sum_by-cons by_caller (told e) (map told es) in
    let one : outside (is_by_codec e.by) ≡ by_caller (told e) = refl in
    for_each (is_by_codec e.by) e (filter (λ e. is_by_codec e.by) es) es (omega (arith, a, none, one)) (all_codecs es (omega (arith, a, none)))

-- ---- seats

-- a seat that took in another one
pub joined_view : {S E : Type 0} (u v w : Seat (Option S) (View E)) → IsJoin u v w → AreJoined u.me.0 v.me.0 w.me.0
joined_view {S} {E} u v w join = record {
  numbers = ap (λ (m : Sitting S E). m.0.numbers) join.both.view;
  one = join.both.continues_one;
  other = join.both.continues_other;
  apart = join.both.apart;
}

module _ {S : Type 0} {D : Type 0} (due : ℕ → Event → Track → List D) where
  -- what is left of a seat calls for what it called for, and a new seat for nothing
  pub left_dues : (s : Shared) (u v w : Seat (Option S) (View Event)) → IsSplit s.id u v w → dues_of due s.codec s.opening v.me.0 ≡ dues_of due s.codec s.opening u.me.0
  left_dues s u v w split = ap (λ (m : Sitting S Event). dues_by due s.codec m.0.numbers (opening_track s.opening) m.0.log) split.left.1

  pub new_dues : (s : Shared) (u v w : Seat (Option S) (View Event)) → IsSplit s.id u v w → dues_of due s.codec s.opening w.me.0 ≡ []
  new_dues s u v w split =
      ap (λ (m : Sitting S Event). dues_by due s.codec m.0.numbers (opening_track s.opening) m.0.log) split.new.view
      ∙ none_due due s.codec (split.new.number ∷ []) (opening_track s.opening) u.me.0.log split.new.made_none

  pub both_dues : DuesAddUp due → (s : Shared) (u v w : Seat (Option S) (View Event)) → IsJoin u v w → SameBag (dues_of due s.codec s.opening w.me.0) (dues_of due s.codec s.opening u.me.0 ++ dues_of due s.codec s.opening v.me.0)
  both_dues add s u v w join =
      add.joined s.codec s.opening u.me.0 v.me.0 w.me.0 (joined_view u v w join)

module _ {S E : Type 0} where
  pub left_made : (id : TableId) (u v w : Seat (Option S) (View E)) → IsSplit id u v w → made_by v.me.0 ≡ made_by u.me.0
  left_made id u v w split = ap (λ (m : Sitting S E). made_by m.0) split.left.1

  pub new_made : (id : TableId) (u v w : Seat (Option S) (View E)) → IsSplit id u v w → made_by w.me.0 ≡ []
  new_made id u v w split = ap (λ (m : Sitting S E). made_by m.0) split.new.view ∙ entries_none (split.new.number ∷ []) u.me.0.log split.new.made_none

  pub seat_joined : (u v w : Seat (Option S) (View E)) → IsJoin u v w → SameBag (made_by w.me.0) (made_by u.me.0 ++ made_by v.me.0)
  seat_joined u v w join = made_joined u.me.0 v.me.0 w.me.0 (ap (λ (m : Sitting S E). m.0.numbers) join.both.view) join.both.continues_one join.both.continues_other join.both.apart

-- ---- a thread's account

-- both sides add up
added : {X : Type 0} (a b c p q r : List X) → SameBag c (a ++ b) → SameBag r (p ++ q) → SameBag a p → SameBag b q → SameBag c r
added a b c p q r x y one other t =
    let g = x t in
    let h = y t in
    let i = one t in
    let j = other t in
    let k = sum_by-append t a b in
    let l = sum_by-append t p q in
    omega (arith, g, h, i, j, k, l)

grows_to : {X : Type 0} (m n : List X) → m ≡ n → SameBag m n
grows_to m n is t = ap (sum_by t) is

module _ {S D : Type 0} (f : Shared → Seat (Option S) (View Event) → List D) where
  -- what all of them come to, where they have seen nothing
  pub saw_none : ((s : Shared) (u : Seat (Option S) (View Event)) → u.me.0.log ≡ [] → f s u ≡ []) → (xs : List Shared) (us : List (Seat (Option S) (View Event))) → EachSawNone us → total_of f xs us ≡ []
  saw_none none [] us h = refl
  saw_none none (x ∷ xs) [] h = refl
  saw_none none (x ∷ xs) (u ∷ us) h = (λ i. none x u h.0 i ++ saw_none none xs us h.1 i)

module _ {C : Type 0} where
  pub balanced_first : (desk : Desk C) (a : Seats C) → SawNone a → Balanced desk a
  balanced_first desk a none =
      let s : slot_calls desk.codecs.items a.codecs.items ≡ [] = saw_none (λ s u. dues_of slot_dues s.codec s.opening u.me.0) (λ s u h. ap (dues_by slot_dues s.codec u.me.0.numbers (opening_track s.opening)) h) desk.codecs.items a.codecs.items none.codecs in
      let p : pool_calls desk.codecs.items a.codecs.items ≡ [] =
      saw_none (λ s u. map (entry_for s.codec) (dues_of media_dues s.codec s.opening u.me.0)) (λ s u h. ap (λ l. map (entry_for s.codec) (dues_by media_dues s.codec u.me.0.numbers (opening_track s.opening) l)) h) desk.codecs.items a.codecs.items none.codecs in
      record {
        slots = λ t. ap (sum_by t) s ∙ sym (ap (λ l. sum_by t (entries_by a.slots.me.0.numbers l)) none.slots);
        pool = λ t. ap (sum_by t) p ∙ sym (ap (λ l. sum_by t (for_codecs (entries_by a.pool.me.0.numbers l))) none.pool);
      }

  pub balanced_left : (desk : Desk C) (a b n : Seats C) → AreSplit desk a b n → Balanced desk a → Balanced desk b
  balanced_left desk a b n split x =
      let s = total_second (λ s u v w. IsSplit s.id u v w) (λ s u. dues_of slot_dues s.codec s.opening u.me.0) (left_dues slot_dues) desk.codecs.items a.codecs.items b.codecs.items n.codecs.items split.codecs in
      let p =
      total_second (λ s u v w. IsSplit s.id u v w) (λ s u. map (entry_for s.codec) (dues_of media_dues s.codec s.opening u.me.0)) (λ s u v w h. ap (map (entry_for s.codec)) (left_dues media_dues s u v w h)) desk.codecs.items a.codecs.items b.codecs.items n.codecs.items split.codecs in
      record {
        slots = λ t. ap (sum_by t) s ∙ (x.slots t ∙ sym (ap (sum_by t) (left_made desk.slots.id a.slots b.slots n.slots split.slots)));
        pool = λ t. ap (sum_by t) p ∙ (x.pool t ∙ sym (ap (λ (l : List PoolEntry). sum_by t (for_codecs l)) (left_made desk.pool a.pool b.pool n.pool split.pool)));
      }

  -- new seats have an account with nothing in it
  pub balanced_new : (desk : Desk C) (a b n : Seats C) → AreSplit desk a b n → Balanced desk n
  balanced_new desk a b n split =
      let s = total_third (λ s u v w. IsSplit s.id u v w) (λ s u. dues_of slot_dues s.codec s.opening u.me.0) (new_dues slot_dues) desk.codecs.items a.codecs.items b.codecs.items n.codecs.items split.codecs in
      let p =
      total_third (λ s u v w. IsSplit s.id u v w) (λ s u. map (entry_for s.codec) (dues_of media_dues s.codec s.opening u.me.0)) (λ s u v w h. ap (map (entry_for s.codec)) (new_dues media_dues s u v w h)) desk.codecs.items a.codecs.items b.codecs.items n.codecs.items split.codecs in
      record {
        slots = λ t. ap (sum_by t) s ∙ sym (ap (sum_by t) (new_made desk.slots.id a.slots b.slots n.slots split.slots));
        pool = λ t. ap (sum_by t) p ∙ sym (ap (λ (l : List PoolEntry). sum_by t (for_codecs l)) (new_made desk.pool a.pool b.pool n.pool split.pool));
      }

  pub balanced_joined : (desk : Desk C) (a o b : Seats C) → DuesAddUp slot_dues → DuesAddUp media_dues → AreTakenIn desk a o b → Balanced desk a → Balanced desk o → Balanced desk b
  balanced_joined desk a o b slots_add media_add join x y =
      let s = total_both (λ s u v w. IsJoin u v w) (λ s u. dues_of slot_dues s.codec s.opening u.me.0) (both_dues slot_dues slots_add) desk.codecs.items a.codecs.items o.codecs.items b.codecs.items join.codecs in
      let p =
      total_both (λ s u v w. IsJoin u v w) (λ s u. map (entry_for s.codec) (dues_of media_dues s.codec s.opening u.me.0))
      (λ s u v w h. map_joined (entry_for s.codec) (dues_of media_dues s.codec s.opening u.me.0) (dues_of media_dues s.codec s.opening v.me.0) (dues_of media_dues s.codec s.opening w.me.0) (both_dues media_dues media_add s u v w h)) desk.codecs.items a.codecs.items o.codecs.items b.codecs.items join.codecs in
      let made = codecs_joined (made_by a.pool.me.0) (made_by o.pool.me.0) (made_by b.pool.me.0) (seat_joined a.pool o.pool b.pool join.pool) in
      record {
        slots =
            added (slot_calls desk.codecs.items a.codecs.items) (slot_calls desk.codecs.items o.codecs.items) (slot_calls desk.codecs.items b.codecs.items) (made_by a.slots.me.0) (made_by o.slots.me.0) (made_by b.slots.me.0)
            s (seat_joined a.slots o.slots b.slots join.slots) x.slots y.slots;
        pool =
            added (pool_calls desk.codecs.items a.codecs.items) (pool_calls desk.codecs.items o.codecs.items) (pool_calls desk.codecs.items b.codecs.items) (for_codecs (made_by a.pool.me.0)) (for_codecs (made_by o.pool.me.0)) (for_codecs (made_by b.pool.me.0))
            p made x.pool y.pool;
      }

  -- whatever a thread settles, its account is balanced
  pub balanced_after : (desk : Desk C) (a b : Seats C) → Settled desk a b → Balanced desk a → Balanced desk b
  balanced_after desk a b x was =
      let all : for_codecs x.does ≡ map told x.does =
      all_codecs x.does
      (let i = no_callers desk.codecs.items b.codecs.items in
      let j = x.lends by_caller in
      let k = sum_by-append by_caller (pool_calls desk.codecs.items a.codecs.items) (map told x.does) in
      omega (arith, i, j, k)) in
      let more : for_codecs (made_by b.pool.me.0) ≡ for_codecs (made_by a.pool.me.0) ++ map told x.does =
      ap for_codecs (made_more a.pool.me.0 b.pool.me.0 x.does x.pool)
      ∙ (ap (map told) (filter-append (λ (e : PoolEntry). is_by_codec e.by) (made_by a.pool.me.0) x.does)
      ∙ (map_both told (filter (λ e. is_by_codec e.by) (made_by a.pool.me.0)) (filter (λ e. is_by_codec e.by) x.does)
      ∙ ap (λ (l : List PoolEntry). for_codecs (made_by a.pool.me.0) ++ l) all)) in
      record {
        slots =
            added (slot_calls desk.codecs.items a.codecs.items) x.entries (slot_calls desk.codecs.items b.codecs.items) (made_by a.slots.me.0) x.entries (made_by b.slots.me.0)
            x.owed (grows_to (made_by b.slots.me.0) (made_by a.slots.me.0 ++ x.entries) (made_more a.slots.me.0 b.slots.me.0 x.entries x.made)) was.slots (λ t. refl);
        pool =
            added (pool_calls desk.codecs.items a.codecs.items) (map told x.does) (pool_calls desk.codecs.items b.codecs.items) (for_codecs (made_by a.pool.me.0)) (map told x.does) (for_codecs (made_by b.pool.me.0))
            x.lends (grows_to (for_codecs (made_by b.pool.me.0)) (for_codecs (made_by a.pool.me.0) ++ map told x.does) more) was.pool (λ t. refl);
      }

-- ---- all seats of a desk, joined

module _ {S : Type 0} where
  all_slots : DuesAddUp slot_dues → (xs : List Shared) (us : List (Seat (Option S) (View Event))) → EachByAll us → slot_calls xs us ≡ all_slot_calls xs us
  all_slots add [] us h = refl
  all_slots add (x ∷ xs) [] h = refl
  all_slots add (x ∷ xs) (u ∷ us) h = (λ i. add.all x.codec x.opening u.me.0 h.0 i ++ all_slots add xs us h.1 i)

  all_media : DuesAddUp media_dues → (xs : List Shared) (us : List (Seat (Option S) (View Event))) → EachByAll us → pool_calls xs us ≡ all_pool_calls xs us
  all_media add [] us h = refl
  all_media add (x ∷ xs) [] h = refl
  all_media add (x ∷ xs) (u ∷ us) h = (λ i. map (entry_for x.codec) (add.all x.codec x.opening u.me.0 h.0 i) ++ all_media add xs us h.1 i)

module _ {C : Type 0} where
  -- what all seats made together is the histories
  pub balanced_all : (desk : Desk C) (a : Seats C) → DuesAddUp slot_dues → DuesAddUp media_dues → AreAll a → Balanced desk a → AllBalanced desk a
  balanced_all desk a slots_add media_add all x = record {
    slots = λ t. sym (ap (sum_by t) (all_slots slots_add desk.codecs.items a.codecs.items all.codecs)) ∙ (x.slots t ∙ ap (sum_by t) (made_all a.slots.me.0.numbers a.slots.me.0.log all.slots));
    pool = λ t. sym (ap (sum_by t) (all_media media_add desk.codecs.items a.codecs.items all.codecs)) ∙ (x.pool t ∙ ap (λ (l : List PoolEntry). sum_by t (for_codecs l)) (made_all a.pool.me.0.numbers a.pool.me.0.log all.pool));
  }
