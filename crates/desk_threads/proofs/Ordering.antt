-- What a thread made elsewhere is in order.
use Rattle.std.proofs.Common.{ℕ, suc, ◌≡◌, List, [], ◌∷◌, ◌++◌, Option, refl, ap, sym, subst, ◌∙◌}
use Rattle.std.specs.List.{flat_map}
use Rattle.atomic_table.specs.Seated.{TableId}
use Rattle.atomic_table.specs.declared.shared.Seat.{Seat}
use Rattle.wc_base.specs.Views.{Log}
use Rattle.wc_base.specs.declared.seat.View.{View}
use Rattle.wc_pool.specs.declared.entry.PoolEntry.{PoolEntry}
use Rattle.coder_api.specs.declared.slot.SlotEntry.{SlotEntry}
use Rattle.codec_model.specs.declared.entry.Opening.{Opening}
use Rattle.seat_lock.specs.Logs.{AllBy, entries_of}
use Rattle.seat_lock.specs.Seats.{Sitting}
use Rattle.seat_lock.specs.Since.{MadeSince, entries_by}
use Rattle.codec_logs.specs.declared.event.Event.{Event}
use Rattle.codec_logs.specs.Logs.{Track, opening_track, track_by, Follows, IsLog}
use Rattle.shared_codec.specs.Dues.{dues_by, slot_dues, media_dues}
use Rattle.shared_codec.specs.Order.{made_by, IsInOrder, slot_at, asked_at, done_at, SlotOrderIsKept, MediaOrderIsKept}
use Rattle.shared_codec.specs.Shared.{Shared}
use Rattle.shared_codec.specs.Sums.{AreJoined, dues_of, DuesAddUp}
use Rattle.shared_codec.specs.SumLaws.{dues_add_up}
use Rattle.shared_codec.specs.Told.{Ending, end_dues, AreTold}
use Rattle.shared_codec.specs.ToldLaws.{told_later, told_both, told_joined}
use Rattle.codec_desk.specs.declared.desk.Desk.{Desk}
use Rattle.codec_desk.specs.declared.desk.Seats.{Seats}
use Rattle.codec_desk.specs.Desks.{SitsAt, InOrderSince, TellsSince, SitAt, Settled}
use Rattle.codec_desk.specs.Each.{Pairs, Each}
use Rattle.desk_threads.specs.Accounts.{EachSawNone, SawNone, EachByAll, AreAll}
use Rattle.desk_threads.specs.AccountLaws.{joined_view, left_dues, new_dues, left_made, new_made}
use Rattle.codec_desk.specs.MadeLaws.{made_more, made_all}
use Rattle.desk_threads.specs.Orders.{IsOrdered, IsWholeInOrder, InOrder, WholeInOrder}
use Rattle.desk_threads.specs.Parts.{IsSplit, IsJoin, EachOfThree, AreSplit, AreTakenIn}

-- the beginning of a log is one
follows_front : (k : ℕ) (x : Track) (a b : Log Event) → Follows k x (a ++ b) → Follows k x a
follows_front k x [] b f = tt
follows_front k x (p ∷ ps) b f = (f.0, follows_front k (track_by p.0 p.1 x) ps b f.1)

log_before : (k : ℕ) (o : Opening) (a more b : Log Event) → b ≡ a ++ more → IsLog k o b → IsLog k o a
log_before k o a more b is legal = follows_front k (opening_track o) a more (subst (λ (l : Log Event). IsLog k o l) is legal)

module _ {D X R : Type 0} (due : ℕ → Event → Track → List D) (asks : ℕ → ℕ → D → List R) (does : ℕ → ℕ → X → List R) where
  -- of the same entries, with the same made
  order_as : (k : ℕ) (o : Opening) (v w : View Event) (made now : List X) → dues_of due k o w ≡ dues_of due k o v → now ≡ made → IsInOrder due asks does k o v made → IsInOrder due asks does k o w now
  order_as k o v w made now e f h = λ place. ap (flat_map (asks k place)) e ∙ (h place ∙ sym (ap (flat_map (does k place)) f))

-- ---- at one codec

module _ {S : Type 0} (so : SlotOrderIsKept) (mo : MediaOrderIsKept) where
  empty_order : (n : ℕ) (s : Shared) (u : Seat (Option S) (View Event)) (c : View SlotEntry) (p : View PoolEntry) → dues_of slot_dues s.codec s.opening u.me.0 ≡ [] → dues_of media_dues s.codec s.opening u.me.0 ≡ [] → dues_of end_dues s.codec s.opening u.me.0 ≡ [] → made_by c ≡ [] → made_by p ≡ [] → IsOrdered c p n s u
  empty_order n s u c p d e z f g legal = (
    order_as slot_dues slot_at slot_at s.codec s.opening u.me.0 u.me.0 [] (made_by c) refl f (so.begins s.codec s.opening u.me.0 d),
    order_as media_dues asked_at done_at s.codec s.opening u.me.0 u.me.0 [] (made_by p) refl g (mo.begins s.codec s.opening u.me.0 e),
    subst (λ (l : List Ending). AreTold (entries_of c.log) l) (sym z) tt,
  )

  after_order : DuesAddUp slot_dues → DuesAddUp media_dues → (n : ℕ) (s : Shared) (u v : Seat (Option S) (View Event)) (c d : View SlotEntry) (p q : View PoolEntry) (es : List SlotEntry) (ds : List PoolEntry)
      → MadeSince c d es → MadeSince p q ds → InOrderSince es ds s u v → TellsSince d.log s u v → IsOrdered c p n s u → IsOrdered d q n s v
  after_order sa ma n s u v c d p q es ds made does x t was legal =
      let w = was (log_before s.codec s.opening u.me.0.log x.asked.more v.me.0.log x.asked.longer legal) in (
        order_as slot_dues slot_at slot_at s.codec s.opening v.me.0 v.me.0 (made_by c ++ es) (made_by d) refl (made_more c d es made) (so.more s.codec s.opening u.me.0 v.me.0 x.slots (made_by c) es sa x.asked x.slot_order w.0),
        order_as media_dues asked_at done_at s.codec s.opening v.me.0 v.me.0 (made_by p ++ ds) (made_by q) refl (made_more p q ds does) (mo.more s.codec s.opening u.me.0 v.me.0 x.media (made_by p) ds ma x.lent x.media_order w.1),
        subst (λ (l : List Ending). AreTold (entries_of d.log) l) (sym ((dues_add_up end_dues).grow s.codec s.opening u.me.0 v.me.0 t.ends t.owed))
            (told_both (entries_of d.log) (dues_of end_dues s.codec s.opening u.me.0) t.ends (told_later c.log made.more d.log (dues_of end_dues s.codec s.opening u.me.0) made.longer w.2) t.told),
      )

  left_order : (n : ℕ) (s : Shared) (u v w : Seat (Option S) (View Event)) (c d : View SlotEntry) (p q : View PoolEntry) → IsSplit s.id u v w → made_by d ≡ made_by c → d.log ≡ c.log → made_by q ≡ made_by p → IsOrdered c p n s u → IsOrdered d q n s v
  left_order n s u v w c d p q split f same g was legal =
      let log : v.me.0.log ≡ u.me.0.log = ap (λ (m : Sitting S Event). m.0.log) split.left.1 in
      let x = was (subst (λ (l : Log Event). IsLog s.codec s.opening l) log legal) in (
        order_as slot_dues slot_at slot_at s.codec s.opening u.me.0 v.me.0 (made_by c) (made_by d) (left_dues slot_dues s u v w split) f x.0,
        order_as media_dues asked_at done_at s.codec s.opening u.me.0 v.me.0 (made_by p) (made_by q) (left_dues media_dues s u v w split) g x.1,
        subst (λ (l : Log SlotEntry). AreTold (entries_of l) (dues_of end_dues s.codec s.opening v.me.0)) (sym same) (subst (λ (l : List Ending). AreTold (entries_of c.log) l) (sym (left_dues end_dues s u v w split)) x.2),
      )

  joined_order : (n : ℕ) (s : Shared) (u v w : Seat (Option S) (View Event)) (c e d : View SlotEntry) (p r q : View PoolEntry) → IsJoin u v w → AreJoined c e d → AreJoined p r q → IsOrdered c p n s u → IsOrdered e r n s v → IsOrdered d q n s w
  joined_order n s u v w c e d p r q join slots pool x y legal =
      let j = joined_view u v w join in
      let one = x (log_before s.codec s.opening u.me.0.log j.one.more w.me.0.log j.one.is legal) in
      let other = y (log_before s.codec s.opening v.me.0.log j.other.more w.me.0.log j.other.is legal) in (
        so.joined s.codec s.opening u.me.0 v.me.0 w.me.0 c e d j slots legal one.0 other.0,
        mo.joined s.codec s.opening u.me.0 v.me.0 w.me.0 p r q j pool legal one.1 other.1,
        told_joined (entries_of d.log) s.codec s.opening u.me.0 v.me.0 w.me.0 j (told_later c.log slots.one.more d.log (dues_of end_dues s.codec s.opening u.me.0) slots.one.is one.2) (told_later e.log slots.other.more d.log (dues_of end_dues s.codec s.opening v.me.0) slots.other.is other.2),
      )

  whole_order : DuesAddUp slot_dues → DuesAddUp media_dues → (n : ℕ) (s : Shared) (u : Seat (Option S) (View Event)) (c : View SlotEntry) (p : View PoolEntry) → AllBy u.me.0.numbers u.me.0.log → AllBy c.numbers c.log → AllBy p.numbers p.log → IsOrdered c p n s u → IsWholeInOrder c.log p.log n s u
  whole_order sa ma n s u c p own slots pool x legal =
      let w = x legal in (
        λ place. sym (ap (flat_map (slot_at s.codec place)) (sa.all s.codec s.opening u.me.0 own)) ∙ (w.0 place ∙ ap (flat_map (slot_at s.codec place)) (made_all c.numbers c.log slots)),
        λ place. sym (ap (flat_map (asked_at s.codec place)) (ma.all s.codec s.opening u.me.0 own)) ∙ (w.1 place ∙ ap (flat_map (done_at s.codec place)) (made_all p.numbers p.log pool)),
        subst (λ (l : List Ending). AreTold (entries_of c.log) l) ((dues_add_up end_dues).all s.codec s.opening u.me.0 own) w.2,
      )

  -- ---- at each codec

  each_first : (Q : ℕ → Shared → Seat (Option S) (View Event) → Type 0) (c : View SlotEntry) (p : View PoolEntry) → made_by c ≡ [] → made_by p ≡ [] → (n : ℕ) (xs : List Shared) (us : List (Seat (Option S) (View Event))) → Pairs Q n xs us → EachSawNone us → Pairs (IsOrdered c p) n xs us
  each_first Q c p f g n [] [] h none = tt
  each_first Q c p f g n [] (u ∷ us) h none = absurd h
  each_first Q c p f g n (x ∷ xs) [] h none = absurd h
  each_first Q c p f g n (x ∷ xs) (u ∷ us) h none = (
    empty_order n x u c p (ap (dues_by slot_dues x.codec u.me.0.numbers (opening_track x.opening)) none.0) (ap (dues_by media_dues x.codec u.me.0.numbers (opening_track x.opening)) none.0) (ap (dues_by end_dues x.codec u.me.0.numbers (opening_track x.opening)) none.0) f g,
    each_first Q c p f g (suc n) xs us h.1 none.1,
  )

  each_after : DuesAddUp slot_dues → DuesAddUp media_dues → (c d : View SlotEntry) (p q : View PoolEntry) (es : List SlotEntry) (ds : List PoolEntry) → MadeSince c d es → MadeSince p q ds
      → (n : ℕ) (xs : List Shared) (us vs : List (Seat (Option S) (View Event))) → Each (InOrderSince es ds) xs us vs → Each (TellsSince d.log) xs us vs → Pairs (IsOrdered c p) n xs us → Pairs (IsOrdered d q) n xs vs
  each_after sa ma c d p q es ds made does n [] [] [] e t h = tt
  each_after sa ma c d p q es ds made does n [] [] (v ∷ vs) e t h = absurd e
  each_after sa ma c d p q es ds made does n [] (u ∷ us) vs e t h = absurd h
  each_after sa ma c d p q es ds made does n (x ∷ xs) [] vs e t h = absurd h
  each_after sa ma c d p q es ds made does n (x ∷ xs) (u ∷ us) [] e t h = absurd e
  each_after sa ma c d p q es ds made does n (x ∷ xs) (u ∷ us) (v ∷ vs) e t h =
      (after_order sa ma n x u v c d p q es ds made does e.0 t.0 h.0, each_after sa ma c d p q es ds made does (suc n) xs us vs e.1 t.1 h.1)

  each_left : (c d : View SlotEntry) (p q : View PoolEntry) → made_by d ≡ made_by c → d.log ≡ c.log → made_by q ≡ made_by p
      → (n : ℕ) (xs : List Shared) (us vs ws : List (Seat (Option S) (View Event))) → EachOfThree (λ s u v w. IsSplit s.id u v w) xs us vs ws → Pairs (IsOrdered c p) n xs us → Pairs (IsOrdered d q) n xs vs
  each_left c d p q f same g n [] [] [] [] e h = tt
  each_left c d p q f same g n (x ∷ xs) (u ∷ us) (v ∷ vs) (w ∷ ws) e h = (left_order n x u v w c d p q e.0 f same g h.0, each_left c d p q f same g (suc n) xs us vs ws e.1 h.1)
  each_left c d p q f same g n [] [] [] (w ∷ ws) e h = absurd e
  each_left c d p q f same g n [] [] (v ∷ vs) ws e h = absurd e
  each_left c d p q f same g n [] (u ∷ us) vs ws e h = absurd e
  each_left c d p q f same g n (x ∷ xs) [] vs ws e h = absurd e
  each_left c d p q f same g n (x ∷ xs) (u ∷ us) [] ws e h = absurd e
  each_left c d p q f same g n (x ∷ xs) (u ∷ us) (v ∷ vs) [] e h = absurd e

  each_new : (d : View SlotEntry) (q : View PoolEntry) → made_by d ≡ [] → made_by q ≡ []
      → (n : ℕ) (xs : List Shared) (us vs ws : List (Seat (Option S) (View Event))) → EachOfThree (λ s u v w. IsSplit s.id u v w) xs us vs ws → Pairs (IsOrdered d q) n xs ws
  each_new d q f g n [] [] [] [] e = tt
  each_new d q f g n (x ∷ xs) (u ∷ us) (v ∷ vs) (w ∷ ws) e = (empty_order n x w d q (new_dues slot_dues x u v w e.0) (new_dues media_dues x u v w e.0) (new_dues end_dues x u v w e.0) f g, each_new d q f g (suc n) xs us vs ws e.1)
  each_new d q f g n [] [] [] (w ∷ ws) e = absurd e
  each_new d q f g n [] [] (v ∷ vs) ws e = absurd e
  each_new d q f g n [] (u ∷ us) vs ws e = absurd e
  each_new d q f g n (x ∷ xs) [] vs ws e = absurd e
  each_new d q f g n (x ∷ xs) (u ∷ us) [] ws e = absurd e
  each_new d q f g n (x ∷ xs) (u ∷ us) (v ∷ vs) [] e = absurd e

  each_joined : (c o d : View SlotEntry) (p r q : View PoolEntry) → AreJoined c o d → AreJoined p r q
      → (n : ℕ) (xs : List Shared) (us vs ws : List (Seat (Option S) (View Event))) → EachOfThree (λ s u v w. IsJoin u v w) xs us vs ws → Pairs (IsOrdered c p) n xs us → Pairs (IsOrdered o r) n xs vs → Pairs (IsOrdered d q) n xs ws
  each_joined c o d p r q f g n [] [] [] [] e h i = tt
  each_joined c o d p r q f g n (x ∷ xs) (u ∷ us) (v ∷ vs) (w ∷ ws) e h i = (joined_order n x u v w c o d p r q e.0 f g h.0 i.0, each_joined c o d p r q f g (suc n) xs us vs ws e.1 h.1 i.1)
  each_joined c o d p r q f g n [] [] [] (w ∷ ws) e h i = absurd e
  each_joined c o d p r q f g n [] [] (v ∷ vs) ws e h i = absurd e
  each_joined c o d p r q f g n [] (u ∷ us) vs ws e h i = absurd e
  each_joined c o d p r q f g n (x ∷ xs) [] vs ws e h i = absurd e
  each_joined c o d p r q f g n (x ∷ xs) (u ∷ us) [] ws e h i = absurd e
  each_joined c o d p r q f g n (x ∷ xs) (u ∷ us) (v ∷ vs) [] e h i = absurd e

  each_whole : DuesAddUp slot_dues → DuesAddUp media_dues → (c : View SlotEntry) (p : View PoolEntry) → AllBy c.numbers c.log → AllBy p.numbers p.log
      → (n : ℕ) (xs : List Shared) (us : List (Seat (Option S) (View Event))) → EachByAll us → Pairs (IsOrdered c p) n xs us → Pairs (IsWholeInOrder c.log p.log) n xs us
  each_whole sa ma c p slots pool n [] [] e h = tt
  each_whole sa ma c p slots pool n [] (u ∷ us) e h = absurd h
  each_whole sa ma c p slots pool n (x ∷ xs) [] e h = absurd h
  each_whole sa ma c p slots pool n (x ∷ xs) (u ∷ us) e h = (whole_order sa ma n x u c p e.0 slots pool h.0, each_whole sa ma c p slots pool (suc n) xs us e.1 h.1)

-- ---- at a desk

left_log : {S E : Type 0} (id : TableId) (u v w : Seat (Option S) (View E)) → IsSplit id u v w → v.me.0.log ≡ u.me.0.log
left_log {S} {E} id u v w split = ap (λ (m : Sitting S E). m.0.log) split.left.1

module _ {C : Type 0} (so : SlotOrderIsKept) (mo : MediaOrderIsKept) (sa : DuesAddUp slot_dues) (ma : DuesAddUp media_dues) where
  pub in_order_first : (desk : Desk C) (a : Seats C) → SitAt desk a → SawNone a → InOrder desk a
  in_order_first desk a sits none =
      each_first so mo (SitsAt desk.pool desk.slots.id) a.slots.me.0 a.pool.me.0 (ap (entries_by a.slots.me.0.numbers) none.slots) (ap (entries_by a.pool.me.0.numbers) none.pool) 0 desk.codecs.items a.codecs.items sits.codecs none.codecs

  pub in_order_after : (desk : Desk C) (a b : Seats C) → Settled desk a b → InOrder desk a → InOrder desk b
  in_order_after desk a b x was = each_after so mo sa ma a.slots.me.0 b.slots.me.0 a.pool.me.0 b.pool.me.0 x.entries x.does x.made x.pool 0 desk.codecs.items a.codecs.items b.codecs.items x.order x.told was

  pub in_order_left : (desk : Desk C) (a b n : Seats C) → AreSplit desk a b n → InOrder desk a → InOrder desk b
  in_order_left desk a b n split was =
      each_left so mo a.slots.me.0 b.slots.me.0 a.pool.me.0 b.pool.me.0 (left_made desk.slots.id a.slots b.slots n.slots split.slots) (left_log desk.slots.id a.slots b.slots n.slots split.slots) (left_made desk.pool a.pool b.pool n.pool split.pool) 0 desk.codecs.items a.codecs.items b.codecs.items n.codecs.items split.codecs was

  pub in_order_new : (desk : Desk C) (a b n : Seats C) → AreSplit desk a b n → InOrder desk n
  in_order_new desk a b n split =
      each_new so mo n.slots.me.0 n.pool.me.0 (new_made desk.slots.id a.slots b.slots n.slots split.slots) (new_made desk.pool a.pool b.pool n.pool split.pool) 0 desk.codecs.items a.codecs.items b.codecs.items n.codecs.items split.codecs

  pub in_order_joined : (desk : Desk C) (a o b : Seats C) → AreTakenIn desk a o b → InOrder desk a → InOrder desk o → InOrder desk b
  in_order_joined desk a o b join x y =
      each_joined so mo a.slots.me.0 o.slots.me.0 b.slots.me.0 a.pool.me.0 o.pool.me.0 b.pool.me.0 (joined_view a.slots o.slots b.slots join.slots) (joined_view a.pool o.pool b.pool join.pool) 0 desk.codecs.items a.codecs.items o.codecs.items b.codecs.items join.codecs x y

  pub in_order_all : (desk : Desk C) (a : Seats C) → AreAll a → InOrder desk a → WholeInOrder desk a
  in_order_all desk a all x = each_whole so mo sa ma a.slots.me.0 a.pool.me.0 all.slots all.pool 0 desk.codecs.items a.codecs.items all.codecs x
