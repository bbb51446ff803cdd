-- The account of a thread that also made entries of the pool by a caller's steps.
use Rattle.std.proofs.Common.{ℕ, suc, ◌≡◌, List, [], ◌∷◌, ◌++◌, map, Option, ap, sym, subst, ◌∙◌, arith}
use Rattle.std.specs.List.{sum_by, filter}
use Rattle.std.proofs.lemmas.List.Elements.{filter-append}
use Rattle.std.proofs.lemmas.List.Sums.{sum_by-append}
use Rattle.atomic_table.specs.declared.shared.Seat.{Seat}
use Rattle.wc_base.specs.Views.{Log}
use Rattle.wc_base.specs.declared.seat.View.{View}
use Rattle.wc_pool.specs.declared.entry.PoolEntry.{PoolEntry}
use Rattle.coder_api.specs.declared.slot.SlotEntry.{SlotEntry}
use Rattle.codec_model.specs.declared.entry.Opening.{Opening}
use Rattle.codec_accounts.specs.Bags.{SameBag}
use Rattle.seat_lock.specs.Logs.{entries_of}
use Rattle.seat_lock.specs.Since.{MadeSince}
use Rattle.codec_logs.specs.declared.event.Event.{Event}
use Rattle.codec_logs.specs.Logs.{Track, opening_track, track_by, Follows, IsLog}
use Rattle.shared_codec.specs.Dues.{slot_dues, media_dues}
use Rattle.shared_codec.specs.Order.{made_by, IsInOrder, slot_at, asked_at, done_at, SlotOrderIsKept, MediaOrderIsKept}
use Rattle.shared_codec.specs.Shared.{Shared}
use Rattle.shared_codec.specs.Sums.{DuesAddUp, dues_of}
use Rattle.shared_codec.specs.SumLaws.{dues_add_up}
use Rattle.shared_codec.specs.Told.{Ending, end_dues, AreTold}
use Rattle.shared_codec.specs.ToldLaws.{told_later, told_both}
use Rattle.codec_desk.specs.declared.desk.Desk.{Desk}
use Rattle.codec_desk.specs.declared.desk.Seats.{Seats}
use Rattle.codec_desk.specs.DeskLaws.{map_both}
use Rattle.codec_desk.specs.Desks.{told, InOrderSince, TellsSince, slot_calls, pool_calls}
use Rattle.codec_desk.specs.Each.{Pairs, Each}
use Rattle.desk_threads.specs.Accounts.{is_by_codec, for_codecs, Balanced}
use Rattle.codec_desk.specs.MadeLaws.{made_more}
use Rattle.desk_threads.specs.Orders.{IsOrdered}
use Rattle.media_accounts.specs.Accounts.{StepOp}
use Rattle.desk_callers.specs.Acts.{SettledBy}
use Rattle.wc_run.specs.Paid.{IsPaid}

-- both sides grew by the same
grown : {X : Type 0} (a b c p q : List X) → SameBag c (a ++ b) → q ≡ p ++ b → SameBag a p → SameBag c q
grown a b c p q x is one t =
    let g = x t in
    let h : sum_by t q ≡ sum_by t (p ++ b) = ap (sum_by t) is in
    let i = one t in
    let k = sum_by-append t a b in
    let l = sum_by-append t p b in
    omega (arith, g, h, i, k, l)

follows_front : (k : ℕ) (x : Track) (a b : Log Event) → Follows k x (a ++ b) → Follows k x a
follows_front k x [] b f = tt
follows_front k x (p ∷ ps) b f = (f.0, follows_front k (track_by p.0 p.1 x) ps b f.1)

log_before : (k : ℕ) (o : Opening) (a more b : Log Event) → b ≡ a ++ more → IsLog k o b → IsLog k o a
log_before k o a more b is legal = follows_front k (opening_track o) a more (subst (λ (l : Log Event). IsLog k o l) is legal)

module _ {S : Type 0} (so : SlotOrderIsKept) (mo : MediaOrderIsKept) (sa : DuesAddUp slot_dues) (ma : DuesAddUp media_dues) where
  order_by : (n : ℕ) (s : Shared) (u v : Seat (Option S) (View Event)) (c d : View SlotEntry) (p q : View PoolEntry) (es : List SlotEntry) (ds : List PoolEntry)
      → MadeSince c d es → MadeSince p q ds → InOrderSince es ds s u v → TellsSince d.log s u v → IsOrdered c p n s u → IsOrdered d q n s v
  order_by n s u v c d p q es ds made does x t was legal =
      let w = was (log_before s.codec s.opening u.me.0.log x.asked.more v.me.0.log x.asked.longer legal) in (
        subst (λ (l : List SlotEntry). IsInOrder slot_dues slot_at slot_at s.codec s.opening v.me.0 l) (sym (made_more c d es made)) (so.more s.codec s.opening u.me.0 v.me.0 x.slots (made_by c) es sa x.asked x.slot_order w.0),
        subst (λ (l : List PoolEntry). IsInOrder media_dues asked_at done_at s.codec s.opening v.me.0 l) (sym (made_more p q ds does)) (mo.more s.codec s.opening u.me.0 v.me.0 x.media (made_by p) ds ma x.lent x.media_order w.1),
        subst (λ (l : List Ending). AreTold (entries_of d.log) l) (sym ((dues_add_up end_dues).grow s.codec s.opening u.me.0 v.me.0 t.ends t.owed))
            (told_both (entries_of d.log) (dues_of end_dues s.codec s.opening u.me.0) t.ends (told_later c.log made.more d.log (dues_of end_dues s.codec s.opening u.me.0) made.longer w.2) t.told),
      )

  each_by : (c d : View SlotEntry) (p q : View PoolEntry) (es : List SlotEntry) (ds : List PoolEntry) → MadeSince c d es → MadeSince p q ds
      → (n : ℕ) (xs : List Shared) (us vs : List (Seat (Option S) (View Event))) → Each (InOrderSince es ds) xs us vs → Each (TellsSince d.log) xs us vs → Pairs (IsOrdered c p) n xs us → Pairs (IsOrdered d q) n xs vs
  each_by c d p q es ds made does n [] [] [] e t h = tt
  each_by c d p q es ds made does n [] [] (v ∷ vs) e t h = absurd e
  each_by c d p q es ds made does n [] (u ∷ us) vs e t h = absurd h
  each_by c d p q es ds made does n (x ∷ xs) [] vs e t h = absurd h
  each_by c d p q es ds made does n (x ∷ xs) (u ∷ us) [] e t h = absurd e
  each_by c d p q es ds made does n (x ∷ xs) (u ∷ us) (v ∷ vs) e t h =
      (order_by n x u v c d p q es ds made does e.0 t.0 h.0, each_by c d p q es ds made does (suc n) xs us vs e.1 t.1 h.1)

module _ {C : Type 0} (desk : Desk C) where
  balanced_by : (c : ℕ) (mine : List StepOp) (a b : Seats C) → SettledBy c mine desk a b → Balanced desk a → Balanced desk b
  balanced_by c mine a b x was =
      let more : for_codecs (made_by b.pool.me.0) ≡ for_codecs (made_by a.pool.me.0) ++ for_codecs x.does =
      ap for_codecs (made_more a.pool.me.0 b.pool.me.0 x.does x.pool)
      ∙ (ap (map told) (filter-append (λ (e : PoolEntry). is_by_codec e.by) (made_by a.pool.me.0) x.does)
      ∙ map_both told (filter (λ e. is_by_codec e.by) (made_by a.pool.me.0)) (filter (λ e. is_by_codec e.by) x.does)) in
      record {
        slots = grown (slot_calls desk.codecs.items a.codecs.items) x.entries (slot_calls desk.codecs.items b.codecs.items) (made_by a.slots.me.0) (made_by b.slots.me.0) x.owed (made_more a.slots.me.0 b.slots.me.0 x.entries x.made) was.slots;
        pool = grown (pool_calls desk.codecs.items a.codecs.items) (for_codecs x.does) (pool_calls desk.codecs.items b.codecs.items) (for_codecs (made_by a.pool.me.0)) (for_codecs (made_by b.pool.me.0)) x.lends more was.pool;
      }

  pub paid_by : SlotOrderIsKept → MediaOrderIsKept → DuesAddUp slot_dues → DuesAddUp media_dues → (c : ℕ) (mine : List StepOp) (a b : Seats C) → SettledBy c mine desk a b → IsPaid desk a → IsPaid desk b
  paid_by so mo sa ma c mine a b x was = record {
    balanced = balanced_by c mine a b x was.balanced;
    ordered = each_by so mo sa ma a.slots.me.0 b.slots.me.0 a.pool.me.0 b.pool.me.0 x.entries x.does x.made x.pool 0 desk.codecs.items a.codecs.items b.codecs.items x.order x.told was.ordered;
  }
