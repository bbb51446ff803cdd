-- What codecs' entries make of the callers' media.
use Rattle.std.proofs.Common.{ℕ, zero, suc, ◌+◌, ◌≡◌, ◌<◌, Bool, true, false, List, [], ◌∷◌, ◌++◌, length, Option, Some, refl, ap, ◌∙◌, append-nil, arith}
use Rattle.std.specs.Prelude.{slice_get, unwrap_or}
use Rattle.std.proofs.lemmas.Bool.{lt-ltb}
use Rattle.codec_model.specs.{Control.Control, Control.turn_closes, declared.entry.Entry.Entry, declared.entry.Pair.Pair, declared.entry.Task.Task, declared.entry.Call.Call}
use Rattle.wc_base.specs.declared.{who.By.By, who.Who.Who}
use Rattle.wc_pool.specs.declared.entry.PoolEntry.{PoolEntry}
use Rattle.codec_model.specs.Replay.{State}
use Rattle.codec_model.specs.Held.{held_in, running_pairs, waiting_held, adds_held, lets_go, closes_codec, is_removal}
use Rattle.codec_core.specs.Codec.{closes_now}
use Rattle.codec_accounts.specs.{Codec.CodecValue, Codec.state_of, Codec.codec_at, ListLaws.get_kept}
use Rattle.media_variables.specs.{Variables.Medium, Variables.Media, Held.AreApart}
use Rattle.media_accounts.specs.Accounts.{AreLent}
use Rattle.run_model.specs.Follow.{Course, media_by}
use Rattle.order_laws.specs.Course.{held_by_all}
use Rattle.wc_replay.specs.Desk.{media_without, waiting_if}

-- an entry that calls for nothing leaves the callers' media
pub media_same : (m : Media) → record m { pool = m.pool ++ [] } ≡ m
media_same m = ap (λ (l : List PoolEntry). record m { pool = l }) (append-nil m.pool)

-- ---- what is let go

-- what an entry lets go ends, where it adds nothing
pub ended_media : (k : ℕ) (e : Entry) (d : CodecValue) (place : ℕ) (ps : List Pair) (m : Media) → adds_held e ≡ [] → place ≡ length d.history → ps ≡ lets_go e (state_of d) → media_without (By.Codec k place) ps m ≡ media_by k e d m
ended_media k e d place ps m adds at is = rw (at, is, adds) refl

pub closes_same : (c : Control) → closes_now c ≡ closes_codec c.tasks
closes_same c = elim (c.tasks) as (λ (ts : List Task). unwrap_or (turn_closes ts) false ≡ closes_codec ts) [ [] ↦ refl | t ∷ ts ↦ refl ]

pub turn_lets : (s : State) → waiting_if (closes_now s.control) s ≡ lets_go Entry.Turn s
turn_lets s = ap (λ (b : Bool). waiting_if b s) (closes_same s.control)

-- ---- the references of a codec are live and apart, and so are those of a part of them

get_behind : {X : Type 0} (xs ys : List X) (i n : ℕ) → n ≡ length xs + i → slice_get (xs ++ ys) n ≡ slice_get ys i
get_behind [] ys i n h = let same : n ≡ i = omega (arith, h) in ap (slice_get ys) same
get_behind (x ∷ xs) ys i zero h = absurd (omega (arith, h))
get_behind (x ∷ xs) ys i (suc n) h = get_behind xs ys i n (omega (arith, h))

-- the references of a part, each of which stands somewhere in the whole
pub apart_part : (pool : List PoolEntry) (callers : List (List (Option Medium))) (whole part : List Pair) (at : ℕ → ℕ) → ((i j : ℕ) → at i ≡ at j → i ≡ j) → ((i : ℕ) (p : Pair) → slice_get part i ≡ Some p → slice_get whole (at i) ≡ Some p) → AreApart pool callers whole → AreApart pool callers part
apart_part pool callers whole part at once is h = record {
  lives = λ i p here. h.lives (at i) p (is i p here);
  once = λ i j p q here there same. once i j (h.once (at i) (at j) p q (is i p here) (is j q there) same);
  elsewhere = λ i k j p r here held. h.elsewhere (at i) k j p r (is i p here) held;
}

-- the running item's
pub apart_running : (m : Media) (v d : CodecValue) (ps : List Pair) → v ≡ d → ps ≡ running_pairs (state_of v) → AreApart m.pool m.variables (held_in (state_of d)) → AreApart m.pool m.variables ps
apart_running m v d ps same is h =
    rw (is, same) (apart_part m.pool m.variables (held_in (state_of d)) (running_pairs (state_of d)) (λ i. i) (λ i j e. e) (get_kept (running_pairs (state_of d)) (waiting_held (state_of d).control)) h)

-- those that wait, where they are let go
pub apart_waiting : (m : Media) (v d : CodecValue) (goes : Bool) (ps : List Pair) → v ≡ d → ps ≡ waiting_if goes (state_of v) → AreApart m.pool m.variables (held_in (state_of d)) → AreApart m.pool m.variables ps
apart_waiting m v d true ps same is h =
    let xs = running_pairs (state_of d) in
    let ys = waiting_held (state_of d).control in
    rw (is, same) (apart_part m.pool m.variables (xs ++ ys) ys (λ i. length xs + i) (λ i j e. omega (arith, e)) (λ i p at. get_behind xs ys i (length xs + i) refl ∙ at) h)
apart_waiting m v d false ps same is h = rw is (apart_part m.pool m.variables (held_in (state_of d)) [] (λ i. i) (λ i j e. e) (λ i p at. absurd cc) h)

-- what a call lets go is what waits, where it removes
pub apart_gone : (m : Media) (d : CodecValue) (who : Who) (x : Call) → AreApart m.pool m.variables (held_in (state_of d)) → AreApart m.pool m.variables (lets_go (Entry.Call who x) (state_of d))
apart_gone m d who x h = apart_waiting m d d (is_removal (Entry.Call who x) (state_of d)) (lets_go (Entry.Call who x) (state_of d)) refl refl h

-- the references of a codec are what the holder with its number holds
pub codec_apart : (v : Course) (k : ℕ) → k < length v.codecs → AreLent v.media.pool v.media.variables (held_by_all v) → AreApart v.media.pool v.media.variables (held_in (state_of (codec_at k v.codecs)))
codec_apart v k lt lent = rw (lt-ltb k (length v.codecs) lt) at (lent.apart k)

pub apart_none : (m : Media) → AreApart m.pool m.variables []
apart_none m = record { lives = λ i p here. absurd cc; once = λ i j p q here there same. absurd cc; elsewhere = λ i k j p r here held. absurd cc }
