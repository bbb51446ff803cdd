-- Laws of what is called for by one entry of a codec.
use Rattle.std.proofs.Common.{ℕ, suc, ◌≡◌, ◌≢◌, ◌==◌, ◌&&◌, Bool, true, false, cond, List, [], ◌∷◌, ◌++◌, Option, refl, ap, ◌∙◌}
use Rattle.std.proofs.lemmas.Bool.{ne_eqb}
use Rattle.std.proofs.lemmas.List.Concat.{flat_map-append}
use Rattle.wc_base.specs.declared.who.By.TheVariants as by
use Rattle.wc_pool.specs.declared.entry.PoolOp.{PoolOp}
use Rattle.wc_pool.specs.declared.entry.PoolOp.TheVariants as op
use Rattle.codec_model.specs.declared.entry.Pair.{Pair}
use Rattle.codec_model.specs.Held.{adds_held, lets_go}
use Rattle.codec_accounts.specs.Boxes.{Act, Asks, Begins, Ends, Removes, Other, Holds, holds_by, holds_after_end, holds_removed}
use Rattle.codec_accounts.specs.Registry.{is_cause}
use Rattle.codec_logs.specs.declared.event.Event.{Event}
use Rattle.codec_logs.specs.Logs.{Track, entry_of}
use Rattle.shared_codec.specs.Dues.{clones_at, ends_at, media_dues}
use Rattle.shared_codec.specs.Order.{ops_at}

-- one entry more
pub place_by : {B : Type 0} (a : Act) (b : Option B) (h : Holds B) → (holds_by a b h).place ≡ suc h.place
place_by (Asks id) b h = refl
place_by Begins b h = refl
place_by Ends b h = by h.old
  where
    by : (old : Bool) → (holds_after_end old b h).place ≡ suc h.place
    by true = refl
    by false = refl
place_by Removes b h = by h.runs
  where
    by : (runs : Bool) → (holds_removed runs h).place ≡ suc h.place
    by true = refl
    by false = refl
place_by Other b h = refl

-- ---- causes

and_false : (a : Bool) → (a && false) ≡ false
and_false true = refl
and_false false = refl

pub other_place : (k p q : ℕ) → p ≢ q → is_cause (by.Codec k p) (by.Codec k q) ≡ false
other_place k p q other = ap (λ (b : Bool). (k == k) && b) (ne_eqb p q other) ∙ and_false (k == k)

-- ---- in the pool

pub ops_append : (p : ℕ) (a b : List (ℕ × PoolOp)) → ops_at p (a ++ b) ≡ ops_at p a ++ ops_at p b
ops_append p a b = flat_map-append (λ (d : ℕ × PoolOp). cond (d.0 == p) (d.1 ∷ []) []) a b

clones_other : (n p : ℕ) (ps : List Pair) → n ≢ p → ops_at p (clones_at n ps) ≡ []
clones_other n p [] other = refl
clones_other n p (q ∷ qs) other = ap (λ (b : Bool). cond b (op.Clone q.resource q.reference ∷ []) [] ++ ops_at p (clones_at n qs)) (ne_eqb n p other) ∙ clones_other n p qs other

ends_other : (n p : ℕ) (ps : List Pair) → n ≢ p → ops_at p (ends_at n ps) ≡ []
ends_other n p [] other = refl
ends_other n p (q ∷ qs) other = ap (λ (b : Bool). cond b (op.End q.resource q.reference false ∷ []) [] ++ ops_at p (ends_at n qs)) (ne_eqb n p other) ∙ ends_other n p qs other

pub event_other : (k p : ℕ) (e : Event) (x : Track) → x.holds.place ≢ p → ops_at p (media_dues k e x) ≡ []
event_other k p e x other =
    let n = x.holds.place in
    let a = clones_other n p (adds_held (entry_of e)) other in
    let b = ends_other n p (lets_go (entry_of e) x.state) other in
    ops_append p (clones_at n (adds_held (entry_of e))) (ends_at n (lets_go (entry_of e) x.state)) ∙ (λ i. a i ++ b i)
