-- What a thread carries of the order of its entries elsewhere: those by each entry of a codec are in the order in which that one's log
-- calls for them.
use Rattle.std.specs.Prelude.{ℕ, ◌≡◌, ◌==◌, ◌⊎◌, false, cond, List, [], ◌∷◌, ◌++◌}
use Rattle.std.specs.List.{flat_map}
use Rattle.wc_base.specs.Views.{Log}
use Rattle.wc_base.specs.declared.who.By.TheVariants as by
use Rattle.wc_base.specs.declared.seat.Passage.TheVariants.{Made, Look}
use Rattle.wc_base.specs.declared.seat.View.{View}
use Rattle.wc_pool.specs.declared.entry.PoolEntry.{PoolEntry}
use Rattle.wc_pool.specs.declared.entry.PoolOp.{PoolOp}
use Rattle.wc_pool.specs.declared.entry.PoolOp.TheVariants as op
use Rattle.coder_api.specs.declared.slot.SlotEntry.{SlotEntry}
use Rattle.codec_model.specs.declared.entry.Opening.{Opening}
use Rattle.codec_accounts.specs.Registry.{is_cause}
use Rattle.seat_lock.specs.Since.{entries_by}
use Rattle.codec_logs.specs.declared.event.Event.{Event}
use Rattle.codec_logs.specs.Logs.{Track, opening_track, track_made, IsLog}
use Rattle.shared_codec.specs.Dues.{slot_dues, media_dues, OwedSince}
use Rattle.shared_codec.specs.Sums.{AreJoined, DuesAddUp, dues_of}

-- the entries of the passages of a seat, and of those that it took in, in order
abbrev pub made_by : {E : Type 0} → View E → List E
made_by v = entries_by v.numbers v.log

-- `asks` is what is called for by a codec's entry at a place, and `does` what was made elsewhere by it.
module _ {D X R : Type 0} (due : ℕ → Event → Track → List D) (asks : ℕ → ℕ → D → List R) (does : ℕ → ℕ → X → List R) where
  -- what was made by each entry of the codec k is what the entries of its seat call for by it, in order
  abbrev pub IsInOrder : ℕ → Opening → View Event → List X → Type 0
  IsInOrder k o v made = (place : ℕ) → flat_map (asks k place) (dues_of due k o v) ≡ flat_map (does k place) made

  -- Only passages with this number call for something by the entry at this place.
  abbrev pub AuthorIs : ℕ → ℕ → ℕ → Track → Log Event → Type 0
  AuthorIs n k place x [] = Unit {0}
  AuthorIs n k place x ((m, Look) ∷ ps) = AuthorIs n k place x ps
  AuthorIs n k place x ((m, Made e) ∷ ps) = ((m ≡ n) ⊎ (flat_map (asks k place) (due k e x) ≡ [])) × AuthorIs n k place (track_made m e x) ps

  -- all that is called for by one entry of a codec is called for by passages of one seat
  abbrev pub HaveAuthors : Type 0
  HaveAuthors = (k : ℕ) (o : Opening) (log : Log Event) (place : ℕ) → IsLog k o log → (n : ℕ) × AuthorIs n k place (opening_track o) log

  -- The order is kept: by a seat that made nothing yet; as it makes more; as it makes more for another codec; and where one seat took in
  -- another.
  pub record OrderIsKept : Type 0 where
    pub begins : (k : ℕ) (o : Opening) (v : View Event) → dues_of due k o v ≡ [] → IsInOrder k o v []
    pub more : (k : ℕ) (o : Opening) (v w : View Event) (es : List D) (made new : List X) → DuesAddUp due → OwedSince due k o v w es → ((place : ℕ) → flat_map (asks k place) es ≡ flat_map (does k place) new)
        → IsInOrder k o v made → IsInOrder k o w (made ++ new)
    pub others : (k : ℕ) (o : Opening) (v : View Event) (made new : List X) → ((place : ℕ) → flat_map (does k place) new ≡ []) → IsInOrder k o v made → IsInOrder k o v (made ++ new)
    pub joined : (k : ℕ) (o : Opening) (v w u : View Event) (a b c : View X) → AreJoined v w u → AreJoined a b c → IsLog k o u.log → IsInOrder k o v (made_by a) → IsInOrder k o w (made_by b) → IsInOrder k o u (made_by c)

-- ---- in the registry, and in the pool

abbrev pub slot_at : ℕ → ℕ → SlotEntry → List SlotEntry
slot_at k place e = cond (is_cause (by.Codec k place) e.by) (e ∷ []) []

abbrev pub asked_at : ℕ → ℕ → ℕ × PoolOp → List PoolOp
asked_at k place d = cond (d.0 == place) (d.1 ∷ []) []

-- what is called for by the entry at a place, in order
abbrev pub ops_at : ℕ → List (ℕ × PoolOp) → List PoolOp
ops_at place dues = flat_map (λ d. cond (d.0 == place) (d.1 ∷ []) []) dues

-- what an entry of a pool does, without whether an end was the last of its resource
abbrev pub told_op : PoolOp → PoolOp
told_op (op.Make r f) = op.Make r f
told_op (op.Clone r f) = op.Clone r f
told_op (op.End r f last) = op.End r f false

abbrev pub done_at : ℕ → ℕ → PoolEntry → List PoolOp
done_at k place e = cond (is_cause (by.Codec k place) e.by) (told_op e.op ∷ []) []

abbrev pub SlotOrderIsKept : Type 0
SlotOrderIsKept = OrderIsKept slot_dues slot_at slot_at

abbrev pub MediaOrderIsKept : Type 0
MediaOrderIsKept = OrderIsKept media_dues asked_at done_at
