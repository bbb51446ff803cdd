-- Desks as they are opened.
use Rattle.std.proofs.Common.{ℕ, zero, suc, ◌≡◌, ◌+◌, ◌^◌, List, [], ◌∷◌, Option, Some, length, ap, sym, subst, ◌∙◌, arith}
use Rattle.std.specs.Prelude.{slice_get}
use Rattle.atomic_table.specs.Seated.{TableId}
use Rattle.atomic_table.specs.declared.shared.Seat.{Seat}
use Rattle.wc_base.specs.Views.{Log}
use Rattle.wc_base.specs.declared.seat.View.{View}
use Rattle.wc_config.specs.declared.codec.CoderId.{CoderId}
use Rattle.codec_model.specs.declared.entry.Opening.{Opening}
use Rattle.seat_lock.specs.Seats.{Sitting, HasView, IsIdleAt, first_view}
use Rattle.codec_logs.specs.declared.event.Event.{Event}
use Rattle.codec_logs.specs.Logs.{track}
use Rattle.shared_slots.specs.Boxes.{Registry}
use Rattle.shared_codec.specs.Shared.{Shared}
use Rattle.codec_desk.specs.declared.desk.Desk.{Desk}
use Rattle.codec_desk.specs.declared.desk.Seats.{Seats}
use Rattle.codec_desk.specs.Desks.{SitsAt, SitAt}
use Rattle.codec_desk.specs.Each.{Pairs}
use Rattle.codec_desk.specs.Runs.{IsNoneOf, EachRunsNone}
use Rattle.desk_threads.specs.Accounts.{EachSawNone}
use Rattle.desk_threads.specs.Parts.{EachHas, HaveParts}
use Rattle.desk_run.specs.Opened.{IsOpenedAt, IsBare, IsOpened}

module _ {S E : Type 0} where
  -- a lock's first seat is in no passage, and has no claim
  pub first_free : (id : TableId) (a : Seat (Option S) (View E)) → a.table_id ≡ id → HasView first_view a → IsIdleAt id a × (a.me.0.claims ≡ [])
  first_free id a at is = (
    (at, (ap (λ (m : Sitting S E). m.0.phase) is, ap (λ (m : Sitting S E). m.1) is)),
    ap (λ (m : Sitting S E). m.0.claims) is,
  )

  pub first_parts : (a : Seat (Option S) (View E)) → HasView first_view a → a.me.0.parts ≡ 2 ^ 32
  first_parts a is = ap (λ (m : Sitting S E). m.0.parts) is

  pub first_none : (a : Seat (Option S) (View E)) → HasView first_view a → a.me.0.log ≡ []
  first_none a is = ap (λ (m : Sitting S E). m.0.log) is

module _ {S E : Type 0} where
  -- a lock's first seat that stayed as it was
  pub still_first : (id now : TableId) (a b : Seat (Option S) (View E)) → b ≡ a → now ≡ id → a.table_id ≡ id → HasView first_view a → (b.table_id ≡ now) × HasView first_view b
  still_first id now a b same is at first = (
    ap (λ (s : Seat (Option S) (View E)). s.table_id) same ∙ (at ∙ sym is),
    ap (λ (s : Seat (Option S) (View E)). s.me) same ∙ first,
  )

module _ {S : Type 0} (openings : List Opening) (calls : ℕ) (pool slots : TableId) where
  abbrev Q : ℕ → Shared → Seat (Option S) (View Event) → Type 0
  Q = IsOpenedAt openings calls pool slots

  -- the codec that was opened at this place
  pub opened_at : (place number : ℕ) (s : Shared) (a : Seat (Option S) (View Event)) (o : Opening) → s.codec ≡ number → number ≡ place → s.pool ≡ pool → s.slots ≡ slots → s.opening ≡ o → s.calls ≡ calls → slice_get openings place ≡ Some o → a.table_id ≡ s.id → HasView first_view a → IsOpenedAt openings calls pool slots place s a
  opened_at place number s a o codec is p q opening room there at first = record {
    sits = record { number = codec ∙ is; pool_is = sym p; slots_is = sym q; idle = (first_free s.id a at first).0 };
    first = first;
    opening = there ∙ ap (λ (x : Opening). Some x) (sym opening);
    calls_are = room;
  }

  pub opened_sits : (k : ℕ) (xs : List Shared) (us : List (Seat (Option S) (View Event))) → Pairs Q k xs us → Pairs (SitsAt pool slots) k xs us
  opened_sits k [] [] h = tt
  opened_sits k [] (u ∷ us) h = absurd h
  opened_sits k (x ∷ xs) [] h = absurd h
  opened_sits k (x ∷ xs) (u ∷ us) h = (h.0.sits, opened_sits (suc k) xs us h.1)

  pub opened_parts : (k : ℕ) (xs : List Shared) (us : List (Seat (Option S) (View Event))) → Pairs Q k xs us → EachHas (2 ^ 32) us
  opened_parts k [] [] h = tt
  opened_parts k [] (u ∷ us) h = absurd h
  opened_parts k (x ∷ xs) [] h = absurd h
  opened_parts k (x ∷ xs) (u ∷ us) h = (first_parts u h.0.first, opened_parts (suc k) xs us h.1)

  pub opened_none : (k : ℕ) (xs : List Shared) (us : List (Seat (Option S) (View Event))) → Pairs Q k xs us → EachSawNone us
  opened_none k [] [] h = tt
  opened_none k [] (u ∷ us) h = absurd h
  opened_none k (x ∷ xs) [] h = absurd h
  opened_none k (x ∷ xs) (u ∷ us) h = (first_none u h.0.first, opened_none (suc k) xs us h.1)

  pub opened_openings : (k n : ℕ) (xs : List Shared) (us : List (Seat (Option S) (View Event))) → Pairs Q k xs us → (i : ℕ) (s : Shared) → n ≡ k + i → slice_get xs i ≡ Some s → (slice_get openings n ≡ Some s.opening) × (s.calls ≡ calls)
  opened_openings k n [] us h i s is at = absurd cc
  opened_openings k n (x ∷ xs) [] h i s is at = absurd h
  opened_openings k n (x ∷ xs) (u ∷ us) h zero s is at =
      let e : x ≡ s = cc in
      let f : k ≡ n = omega (arith, is) in
      subst (λ (z : ℕ × Shared). (slice_get openings z.0 ≡ Some z.1.opening) × (z.1.calls ≡ calls)) (λ i. (f i, e i)) (h.0.opening, h.0.calls_are)
  opened_openings k n (x ∷ xs) (u ∷ us) h (suc i) s is at = opened_openings (suc k) n xs us h.1 i s (omega (arith, is)) at

module _ {S : Type 0} (Q : ℕ → Shared → Seat (Option S) (View Event) → Type 0) where
  -- none of the items of seats that have seen nothing is at work
  pub none_at_work : (k : ℕ) (xs : List Shared) (us : List (Seat (Option S) (View Event))) → Pairs Q k xs us → EachSawNone us → EachRunsNone xs us
  none_at_work k [] [] h none = tt
  none_at_work k [] (u ∷ us) h none = absurd h
  none_at_work k (x ∷ xs) [] h none = absurd h
  none_at_work k (x ∷ xs) (u ∷ us) h none =
      (subst (λ (l : Log Event). IsNoneOf (track x.opening l).runner u.me.0.numbers) (sym none.0) tt, none_at_work (suc k) xs us h.1 none.1)

-- a desk that was bare, and whose codecs were opened as far as there was memory
module _ {C : Type 0} (openings : List Opening) (calls : ℕ) (made : List CoderId) (count : ℕ) (bare desk : Desk C) (none seats : Seats C) where
  abbrev Opened : Type 0
  Opened = Pairs (IsOpenedAt openings calls bare.pool bare.slots.id) 0 desk.codecs.items seats.codecs.items

  pool_first : IsBare made count bare none → (desk.pool ≡ bare.pool) × (seats.pool ≡ none.pool) → (seats.pool.table_id ≡ desk.pool) × HasView first_view seats.pool
  pool_first b same = still_first bare.pool desk.pool none.pool seats.pool same.1 same.0 b.pool.0 b.pool.1

  slots_first : IsBare made count bare none → (desk.slots ≡ bare.slots) × (seats.slots ≡ none.slots) → (seats.slots.table_id ≡ desk.slots.id) × HasView first_view seats.slots
  slots_first b same = still_first bare.slots.id desk.slots.id none.slots seats.slots same.1 (ap (λ (r : Registry). r.id) same.0) b.slots.0 b.slots.1

  pub sits_opened : IsBare made count bare none → (desk.pool ≡ bare.pool) × (seats.pool ≡ none.pool) → (desk.slots ≡ bare.slots) × (seats.slots ≡ none.slots) → Opened → SitAt desk seats
  sits_opened b pools registries opened =
      let p = pool_first b pools in
      let q = slots_first b registries in
      let ids = ap (λ (r : Registry). r.id) registries.0 in
      record {
        codecs = subst (λ (z : TableId × TableId). Pairs (SitsAt z.0 z.1) 0 desk.codecs.items seats.codecs.items) (λ i. (sym pools.0 i, sym ids i)) (opened_sits openings calls bare.pool bare.slots.id 0 desk.codecs.items seats.codecs.items opened);
        pool = first_free desk.pool seats.pool p.0 p.1;
        slots = first_free desk.slots.id seats.slots q.0 q.1;
      }

  pub parts_opened : IsBare made count bare none → (desk.pool ≡ bare.pool) × (seats.pool ≡ none.pool) → (desk.slots ≡ bare.slots) × (seats.slots ≡ none.slots) → Opened → HaveParts (2 ^ 32) seats
  parts_opened b pools registries opened = record {
    codecs = opened_parts openings calls bare.pool bare.slots.id 0 desk.codecs.items seats.codecs.items opened;
    pool = first_parts seats.pool (pool_first b pools).1;
    slots = first_parts seats.slots (slots_first b registries).1;
  }

  pub all_opened : IsBare made count bare none → (desk.pool ≡ bare.pool) × (seats.pool ≡ none.pool) → (desk.slots ≡ bare.slots) × (seats.slots ≡ none.slots) → Opened → length desk.codecs.items ≡ length openings → IsOpened openings calls made desk seats
  all_opened b pools registries opened many = record {
    sits = sits_opened b pools registries opened;
    parts = parts_opened b pools registries opened;
    none = record {
      codecs = opened_none openings calls bare.pool bare.slots.id 0 desk.codecs.items seats.codecs.items opened;
      pool = first_none seats.pool (pool_first b pools).1;
      slots = first_none seats.slots (slots_first b registries).1;
    };
    codecs = (many, λ i s at. opened_openings openings calls bare.pool bare.slots.id 0 i desk.codecs.items seats.codecs.items opened i s (omega arith) at);
    made_is = ap (λ (r : Registry). r.made) registries.0 ∙ b.made_is;
  }
