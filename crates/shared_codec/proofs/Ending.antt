-- References ended one after another.
use Rattle.std.proofs.Common.{ℕ, ◌≡◌, Bool, List, [], ◌∷◌, ◌++◌, map, false, refl, ap, subst}
use Rattle.wc_base.specs.declared.who.By.TheVariants as by
use Rattle.wc_base.specs.declared.seat.View.{View}
use Rattle.wc_pool.specs.declared.entry.{PoolEntry.PoolEntry, PoolOp.PoolOp}
use Rattle.wc_pool.specs.declared.reference.MediaRef.{MediaRef}
use Rattle.wc_pool.specs.Pools.{ended_by}
use Rattle.codec_media.specs.Holding.{pair_of}
use Rattle.seat_lock.specs.Since.{MadeSince}
use Rattle.seat_lock.specs.SinceLaws.{made_then, made_none}
use Rattle.shared_codec.specs.Dues.{DoFor, ends_at}
use Rattle.shared_codec.specs.Settles.{do_both}
use Rattle.shared_codec.specs.Workers.{EndsAll}

ends_more : (place : ℕ) (rs : List MediaRef) (r : MediaRef) → ends_at place (map pair_of rs) ++ ends_at place (pair_of r ∷ []) ≡ ends_at place (map pair_of (rs ++ r ∷ []))
ends_more place [] r = refl
ends_more place (q ∷ qs) r = ap (λ (l : List (ℕ × PoolOp)). (place, PoolOp.End q.resource q.number false) ∷ l) (ends_more place qs r)

pub ends_none : (k place : ℕ) (v : View PoolEntry) → EndsAll k place [] v v
ends_none k place v = record { entries = []; made = made_none v; are = tt }

pub ends_next : (k place : ℕ) (rs : List MediaRef) (r : MediaRef) (last : Bool) (u v w : View PoolEntry) → EndsAll k place rs u v → MadeSince v w (ended_by (by.Codec k place) r last ∷ []) → EndsAll k place (rs ++ r ∷ []) u w
ends_next k place rs r last u v w a b = record {
  entries = a.entries ++ ended_by (by.Codec k place) r last ∷ [];
  made = made_then u v w a.entries (ended_by (by.Codec k place) r last ∷ []) a.made b;
  are = subst (λ (l : List (ℕ × PoolOp)). DoFor k l (a.entries ++ ended_by (by.Codec k place) r last ∷ [])) (ends_more place rs r)
      (do_both k (ends_at place (map pair_of rs)) (ends_at place (pair_of r ∷ [])) a.entries (ended_by (by.Codec k place) r last ∷ []) a.are ((last, refl), tt));
}
