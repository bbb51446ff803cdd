-- Laws of what a thread settles with its seats at a desk.
use Rattle.std.proofs.Common.{ℕ, ◌≡◌, ◌≢◌, ◌==◌, ◌⊎◌, inl, inr, Bool, true, false, cond, List, [], ◌∷◌, ◌++◌, map, Option, Some, refl, ap, sym, subst, ◌∙◌, append-nil, append_assoc, arith, set, eq-eqb}
use Rattle.std.specs.Prelude.{slice_get}
use Rattle.std.specs.List.{sum_by, flat_map}
use Rattle.std.proofs.lemmas.Bool.{cases_eq, ne_eqb}
use Rattle.std.proofs.lemmas.List.Concat.{flat_map-append}
use Rattle.atomic_table.specs.Seated.{TableId}
use Rattle.atomic_table.specs.declared.shared.Seat.{Seat}
use Rattle.wc_base.specs.Views.{Log}
use Rattle.wc_base.specs.declared.seat.View.{View}
use Rattle.wc_base.specs.declared.who.By.TheVariants as by
use Rattle.wc_base.specs.declared.seat.Passage.TheVariants.{Made, Look}
use Rattle.wc_pool.specs.declared.entry.{PoolEntry.PoolEntry, PoolOp.PoolOp}
use Rattle.wc_pool.specs.declared.entry.PoolOp.TheVariants as op
use Rattle.coder_api.specs.declared.slot.SlotEntry.{SlotEntry}
use Rattle.codec_model.specs.declared.entry.Pair.{Pair}
use Rattle.codec_model.specs.Held.{adds_held, lets_go}
use Rattle.codec_accounts.specs.Bags.{SameBag}
use Rattle.codec_accounts.specs.BagsLaws.{weigh_append}
use Rattle.codec_accounts.specs.Registry.{is_cause}
use Rattle.seat_lock.specs.Seats.{IsIdleAt}
use Rattle.seat_lock.specs.SinceLaws.{made_none, made_then}
use Rattle.seat_lock.specs.Own.{is_in}
use Rattle.codec_logs.specs.declared.event.Event.{Event}
use Rattle.codec_logs.specs.Logs.{Track, entry_of, track, track_made}
use Rattle.shared_pool.specs.Steps as pools
use Rattle.shared_slots.specs.Steps as registries
use Rattle.shared_codec.specs.declared.codec.Locked.{Locked}
use Rattle.shared_codec.specs.Dues.{slot_dues, media_dues, clones_at, ends_at, dues_by, DoesFor, DoFor}
use Rattle.shared_codec.specs.DueLaws.{owed_none, owed_then}
use Rattle.shared_codec.specs.Keeps.{Keeps, keeps_none, keeps_then}
use Rattle.shared_codec.specs.Order.{told_op, slot_at, asked_at, done_at}
use Rattle.shared_codec.specs.OrderLaws.{other_place}
use Rattle.shared_codec.specs.Owes.{Owes}
use Rattle.shared_codec.specs.Settles.{Settles, AreOfCodec}
use Rattle.shared_codec.specs.Shared.{Shared}
use Rattle.shared_codec.specs.Sums.{dues_of, DuesAddUp}
use Rattle.shared_codec.specs.Told.{Ending}
use Rattle.shared_codec.specs.ToldLaws.{ends_none, ends_then}
use Rattle.codec_desk.specs.declared.desk.Desk.{Desk}
use Rattle.codec_desk.specs.declared.desk.Seats.{Seats}
use Rattle.codec_desk.specs.Each.{Each}
use Rattle.codec_desk.specs.EachLaws.{pairs_after, pairs_get, each_same, each_one, each_other, each_then, total_one}
use Rattle.codec_desk.specs.Desks.{told, entry_for, SitsAt, SeesMore, InOrderSince, TellsSince, slot_calls, pool_calls, SitAt, Settled}

-- ---- what a pool's entries do for a codec

one_does : (k : ℕ) (p : ℕ × PoolOp) (e : PoolEntry) → DoFor k (p ∷ []) (e ∷ []) → told e ≡ entry_for k p
one_does k (place, op.Make r f) e h = absurd h.0
one_does k (place, op.Clone r f) e h = ap told h.0
one_does k (place, op.End r f last) e h = ap told h.0.1

-- entries that do what is called for are those that are called for
pub told_for : (k : ℕ) (ps : List (ℕ × PoolOp)) (es : List PoolEntry) → DoFor k ps es → map told es ≡ map (entry_for k) ps
told_for k [] [] h = refl
told_for k [] (e ∷ es) h = absurd h
told_for k (p ∷ ps) [] h = absurd h
told_for k (p ∷ ps) (e ∷ es) h =
    let one : told e ≡ entry_for k p = one_does k p e (h.0, tt) in
    let rest : map told es ≡ map (entry_for k) ps = told_for k ps es h.1 in
    (λ i. one i ∷ rest i)

pub map_both : {X Y : Type 0} (f : X → Y) (a b : List X) → map f (a ++ b) ≡ map f a ++ map f b
map_both f [] b = refl
map_both f (x ∷ xs) b = ap (λ l. f x ∷ l) (map_both f xs b)

-- ---- entry by entry

cause_is : (k p q : ℕ) → is_cause (by.Codec k p) (by.Codec k q) ≡ (q == p)
cause_is k p q = cases (cases_eq p q)
  where
    cases : (p ≡ q) ⊎ (p ≢ q) → is_cause (by.Codec k p) (by.Codec k q) ≡ (q == p)
    cases (inl same) =
        let own : is_cause (by.Codec k p) (by.Codec k p) ≡ true = rw (eq-eqb k k refl, eq-eqb p p refl) refl in
        ap (λ (r : ℕ). is_cause (by.Codec k p) (by.Codec k r)) (sym same) ∙ (own ∙ sym (eq-eqb q p (sym same)))
    cases (inr other) = other_place k p q other ∙ sym (ne_eqb q p (λ e. other (sym e)))

-- what is called for does not say whether an end is the last
abbrev AreTold : List (ℕ × PoolOp) → Type 0
AreTold [] = Unit {0}
AreTold (p ∷ ps) = (told_op p.1 ≡ p.1) × AreTold ps

told_both : (ps qs : List (ℕ × PoolOp)) → AreTold ps → AreTold qs → AreTold (ps ++ qs)
told_both [] qs x y = y
told_both (p ∷ ps) qs x y = (x.0, told_both ps qs x.1 y)

told_if : (b : Bool) (ps : List (ℕ × PoolOp)) → AreTold ps → AreTold (cond b ps [])
told_if true ps x = x
told_if false ps x = tt

told_clones : (place : ℕ) (pairs : List Pair) → AreTold (clones_at place pairs)
told_clones place [] = tt
told_clones place (p ∷ ps) = (refl, told_clones place ps)

told_ends : (place : ℕ) (pairs : List Pair) → AreTold (ends_at place pairs)
told_ends place [] = tt
told_ends place (p ∷ ps) = (refl, told_ends place ps)

told_event : (k : ℕ) (e : Event) (x : Track) → AreTold (media_dues k e x)
told_event k e x =
    told_both (clones_at x.holds.place (adds_held (entry_of e))) (ends_at x.holds.place (lets_go (entry_of e) x.state)) (told_clones x.holds.place (adds_held (entry_of e))) (told_ends x.holds.place (lets_go (entry_of e) x.state))

told_dues : (k : ℕ) (numbers : List ℕ) (x : Track) (log : Log Event) → AreTold (dues_by media_dues k numbers x log)
told_dues k numbers x [] = tt
told_dues k numbers x ((n, Made e) ∷ ps) =
    told_both (cond (is_in n numbers) (media_dues k e x) []) (dues_by media_dues k numbers (track_made n e x) ps) (told_if (is_in n numbers) (media_dues k e x) (told_event k e x)) (told_dues k numbers (track_made n e x) ps)
told_dues k numbers x ((n, Look) ∷ ps) =
    told_both (cond (is_in n numbers) [] []) (dues_by media_dues k numbers x ps) (told_if (is_in n numbers) [] tt) (told_dues k numbers x ps)

-- an entry that does what is called for
does_at : (k place : ℕ) (p : ℕ × PoolOp) (e : PoolEntry) → told_op p.1 ≡ p.1 → DoesFor k p.0 p.1 e → asked_at k place p ≡ done_at k place e
does_at k place (at, op.Make r f) e told h = absurd h
does_at k place (at, op.Clone r f) e told h =
    let made : done_at k place e ≡ cond (is_cause (by.Codec k place) (by.Codec k at)) (op.Clone r f ∷ []) [] = ap (done_at k place) h in
    let same : cond (is_cause (by.Codec k place) (by.Codec k at)) (op.Clone r f ∷ []) [] ≡ cond (at == place) (op.Clone r f ∷ []) [] = ap (λ (b : Bool). cond b (op.Clone r f ∷ []) []) (cause_is k place at) in
    sym (made ∙ same)
does_at k place (at, op.End r f last) e told h =
    let made : done_at k place e ≡ cond (is_cause (by.Codec k place) (by.Codec k at)) (op.End r f false ∷ []) [] = ap (done_at k place) h.1 in
    let same : cond (is_cause (by.Codec k place) (by.Codec k at)) (op.End r f false ∷ []) [] ≡ cond (at == place) (op.End r f false ∷ []) [] = ap (λ (b : Bool). cond b (op.End r f false ∷ []) []) (cause_is k place at) in
    let own : cond (at == place) (op.End r f false ∷ []) [] ≡ cond (at == place) (op.End r f last ∷ []) [] = ap (λ (o : PoolOp). cond (at == place) (o ∷ []) []) told in
    sym (made ∙ (same ∙ own))

do_at : (k place : ℕ) (ps : List (ℕ × PoolOp)) (es : List PoolEntry) → AreTold ps → DoFor k ps es → flat_map (asked_at k place) ps ≡ flat_map (done_at k place) es
do_at k place [] [] told h = refl
do_at k place [] (e ∷ es) told h = absurd h
do_at k place (p ∷ ps) [] told h = absurd h
do_at k place (p ∷ ps) (e ∷ es) told h =
    let one = does_at k place p e told.0 h.0 in
    let rest = do_at k place ps es told.1 h.1 in
    (λ i. one i ++ rest i)

other_codec : (n k p q : ℕ) → n ≢ k → is_cause (by.Codec n p) (by.Codec k q) ≡ false
other_codec n k p q other = rw (ne_eqb n k other) refl

-- another codec's entries made nothing of these
pub slots_apart : (n k place : ℕ) (es : List SlotEntry) → n ≢ k → AreOfCodec k es → flat_map (slot_at n place) es ≡ []
slots_apart n k place [] other h = refl
slots_apart n k place (e ∷ es) other h =
    let here : slot_at n place e ≡ [] = ap (λ (b : Bool). cond b (e ∷ []) []) (ap (is_cause (by.Codec n place)) h.0.1 ∙ other_codec n k place h.0.0 other) in
    let rest = slots_apart n k place es other h.1 in
    (λ i. here i ++ rest i)

does_apart : (n k place : ℕ) (p : ℕ × PoolOp) (e : PoolEntry) → n ≢ k → DoesFor k p.0 p.1 e → done_at n place e ≡ []
does_apart n k place (at, op.Make r f) e other h = absurd h
does_apart n k place (at, op.Clone r f) e other h = ap (done_at n place) h ∙ ap (λ (b : Bool). cond b (op.Clone r f ∷ []) []) (other_codec n k place at other)
does_apart n k place (at, op.End r f last) e other h = ap (done_at n place) h.1 ∙ ap (λ (b : Bool). cond b (op.End r f false ∷ []) []) (other_codec n k place at other)

pub do_apart : (n k place : ℕ) (ps : List (ℕ × PoolOp)) (es : List PoolEntry) → n ≢ k → DoFor k ps es → flat_map (done_at n place) es ≡ []
do_apart n k place [] [] other h = refl
do_apart n k place [] (e ∷ es) other h = absurd h
do_apart n k place (p ∷ ps) [] other h = absurd h
do_apart n k place (p ∷ ps) (e ∷ es) other h =
    let here = does_apart n k place p e other h.0 in
    let rest = do_apart n k place ps es other h.1 in
    (λ i. here i ++ rest i)

module _ {S : Type 0} where
  -- with a seat nothing was done, and nothing was made by entries of its codec
  pub order_apart : (es : List SlotEntry) (ds : List PoolEntry) (s : Shared) (a : Seat (Option S) (View Event)) → ((place : ℕ) → flat_map (slot_at s.codec place) es ≡ []) → ((place : ℕ) → flat_map (done_at s.codec place) ds ≡ []) → InOrderSince es ds s a a
  order_apart es ds s a none less = record {
    slots = [];
    asked = owed_none slot_dues s.codec s.opening a.me.0;
    slot_order = λ place. sym (none place);
    media = [];
    lent = owed_none media_dues s.codec s.opening a.me.0;
    media_order = λ place. sym (less place);
  }

  pub order_for : (s : Shared) (a b : Seat (Option S) (View Event)) (entries : List SlotEntry) (calls : List (ℕ × PoolOp)) (ends : List Ending) (does : List PoolEntry) → Owes s entries calls ends a.me.0 b.me.0 → DoFor s.codec calls does → InOrderSince entries does s a b
  order_for s a b entries calls ends does owes are = record {
    slots = entries;
    asked = owes.slots;
    slot_order = λ place. refl;
    media = calls;
    lent = owes.pool;
    media_order = λ place. do_at s.codec place calls does (subst AreTold owes.pool.owed (told_dues s.codec a.me.0.numbers (track s.opening a.me.0.log) owes.pool.more)) are;
  }

  order_one : (s : Shared) (a b : Seat (Option S) (View Event)) (c d : View SlotEntry) (p q : View PoolEntry) (x : Settles s a.me.0 b.me.0 c d p q) → InOrderSince x.entries x.does s a b
  order_one s a b c d p q x = order_for s a b x.entries x.calls x.ends x.does x.owes x.are

  pub order_then : (es fs : List SlotEntry) (ds gs : List PoolEntry) (s : Shared) (a b c : Seat (Option S) (View Event)) → InOrderSince es ds s a b → InOrderSince fs gs s b c → InOrderSince (es ++ fs) (ds ++ gs) s a c
  order_then es fs ds gs s a b c x y = record {
    slots = x.slots ++ y.slots;
    asked = owed_then slot_dues s.codec s.opening a.me.0 b.me.0 c.me.0 x.slots y.slots x.asked y.asked;
    slot_order = λ place.
        flat_map-append (slot_at s.codec place) x.slots y.slots ∙ ((λ i. x.slot_order place i ++ y.slot_order place i) ∙ sym (flat_map-append (slot_at s.codec place) es fs));
    media = x.media ++ y.media;
    lent = owed_then media_dues s.codec s.opening a.me.0 b.me.0 c.me.0 x.media y.media x.lent y.lent;
    media_order = λ place.
        flat_map-append (asked_at s.codec place) x.media y.media ∙ ((λ i. x.media_order place i ++ y.media_order place i) ∙ sym (flat_map-append (done_at s.codec place) ds gs));
  }

-- ---- bags that grow

pub bag_of : {X : Type 0} (a b : List X) → a ≡ b → SameBag a b
bag_of a b is t = ap (sum_by t) is

-- what grew, and grew again
pub grown : {X : Type 0} (u v w m n : List X) → SameBag v (u ++ m) → SameBag w (v ++ n) → SameBag w (u ++ (m ++ n))
grown u v w m n i j t =
    let a1 = i t in
    let a2 = j t in
    let a3 = weigh_append t v n in
    let a4 = weigh_append t u m in
    let a5 = weigh_append t u (m ++ n) in
    let a6 = weigh_append t m n in
    omega (arith, a1, a2, a3, a4, a5, a6)

-- ---- what one codec calls for

pub slots_grow : (s : Shared) (u v : View Event) (es : List SlotEntry) → dues_of slot_dues s.codec s.opening v ≡ dues_of slot_dues s.codec s.opening u ++ es → SameBag (dues_of slot_dues s.codec s.opening v) (dues_of slot_dues s.codec s.opening u ++ es)
slots_grow s u v es is = bag_of (dues_of slot_dues s.codec s.opening v) (dues_of slot_dues s.codec s.opening u ++ es) is

pub calls_grow : (s : Shared) (u v : View Event) (ps : List (ℕ × PoolOp)) (es : List PoolEntry) → dues_of media_dues s.codec s.opening v ≡ dues_of media_dues s.codec s.opening u ++ ps → DoFor s.codec ps es
    → SameBag (map (entry_for s.codec) (dues_of media_dues s.codec s.opening v)) (map (entry_for s.codec) (dues_of media_dues s.codec s.opening u) ++ map told es)
calls_grow s u v ps es is done =
    let k : ℕ = s.codec in
    let all : map (entry_for k) (dues_of media_dues k s.opening v) ≡ map (entry_for k) (dues_of media_dues k s.opening u) ++ map told es =
    ap (map (entry_for k)) is ∙ (map_both (entry_for k) (dues_of media_dues k s.opening u) ps ∙ ap (λ (l : List PoolEntry). map (entry_for k) (dues_of media_dues k s.opening u) ++ l) (sym (told_for k ps es done))) in
    bag_of (map (entry_for k) (dues_of media_dues k s.opening v)) (map (entry_for k) (dues_of media_dues k s.opening u) ++ map told es) all

-- ---- seats that see more

module _ {S : Type 0} where
  -- a seat with which nothing was done
  pub sees_same : (s : Shared) (a : Seat (Option S) (View Event)) → IsIdleAt s.id a → SeesMore s a a
  sees_same s a idle = record { kept = keeps_none s.id a idle; more = []; longer = sym (append-nil a.me.0.log) }

  pub sees_then : (s : Shared) (a b c : Seat (Option S) (View Event)) → SeesMore s a b → SeesMore s b c → SeesMore s a c
  sees_then s a b c x y = record {
    kept = keeps_then s.id a b c x.kept y.kept;
    more = x.more ++ y.more;
    longer = y.longer ∙ (ap (λ (l : Log Event). l ++ y.more) x.longer ∙ append_assoc a.me.0.log x.more y.more);
  }

  -- a seat of a desk stays one
  pub sits_more : (pool slots : TableId) (place : ℕ) (s : Shared) (a b : Seat (Option S) (View Event)) → SitsAt pool slots place s a → SeesMore s a b → SitsAt pool slots place s b
  sits_more pool slots place s a b at more = record { number = at.number; pool_is = at.pool_is; slots_is = at.slots_is; idle = more.kept.idle }

module _ {C : Type 0} where
  -- what was settled at one codec is settled at the desk
  pub settled_one : (desk : Desk C) (a b : Seats C) (place : ℕ) (s : Shared) (u v : Seat (Option (Locked C)) (View Event)) → DuesAddUp slot_dues → DuesAddUp media_dues → SitAt desk a → slice_get desk.codecs.items place ≡ Some s → slice_get a.codecs.items place ≡ Some u → b.codecs.items ≡ set a.codecs.items place v
      → Keeps s.id u v → Keeps desk.slots.id a.slots b.slots → Keeps desk.pool a.pool b.pool → Settles s u.me.0 v.me.0 a.slots.me.0 b.slots.me.0 a.pool.me.0 b.pool.me.0 → Settled desk a b
  settled_one desk a b place s u v slots_add media_add at codec seat is kept slot_kept pool_kept x =
      let Q : ℕ → Shared → Seat (Option (Locked C)) (View Event) → Type 0 = SitsAt desk.pool desk.slots.id in
      let here : SitsAt desk.pool desk.slots.id place s u = pairs_get Q 0 place place desk.codecs.items a.codecs.items s u at.codecs (omega arith) codec seat in
      let others : (j : ℕ) (t : Shared) (w : Seat (Option (Locked C)) (View Event)) → j ≢ place → Q j t w → InOrderSince x.entries x.does t w w =
      (λ j t w other h.
      let apart : t.codec ≢ s.codec = (λ e. other (sym h.number ∙ (e ∙ here.number))) in
      order_apart x.entries x.does t w (λ p. slots_apart t.codec s.codec p x.entries apart x.own) (λ p. do_apart t.codec s.codec p x.calls x.does apart x.are)) in
      let more : SeesMore s u v = record { kept = kept; more = x.owes.slots.more; longer = x.owes.slots.longer } in
      let set_is : List (Seat (Option (Locked C)) (View Event)) = set a.codecs.items place v in
      let calls : SameBag (slot_calls desk.codecs.items set_is) (slot_calls desk.codecs.items a.codecs.items ++ x.entries) =
      total_one (λ (t : Shared) (w : Seat (Option (Locked C)) (View Event)). dues_of slot_dues t.codec t.opening w.me.0) place desk.codecs.items a.codecs.items s u v x.entries codec seat
      (slots_grow s u.me.0 v.me.0 x.entries (slots_add.grow s.codec s.opening u.me.0 v.me.0 x.entries x.owes.slots)) in
      let lends : SameBag (pool_calls desk.codecs.items set_is) (pool_calls desk.codecs.items a.codecs.items ++ map told x.does) =
      total_one (λ (t : Shared) (w : Seat (Option (Locked C)) (View Event)). map (entry_for t.codec) (dues_of media_dues t.codec t.opening w.me.0)) place desk.codecs.items a.codecs.items s u v (map told x.does) codec seat
      (calls_grow s u.me.0 v.me.0 x.calls x.does (media_add.grow s.codec s.opening u.me.0 v.me.0 x.calls x.owes.pool) x.are) in
      record {
        seats = subst (λ (l : List (Seat (Option (Locked C)) (View Event))). Each SeesMore desk.codecs.items a.codecs.items l) (sym is)
            (each_one Q SeesMore (λ n t w h. sees_same t w h.idle) 0 place desk.codecs.items a.codecs.items s u v at.codecs codec seat more);
        slot_seat = slot_kept;
        pool_seat = pool_kept;
        entries = x.entries;
        made = x.made;
        owed = λ t. ap (λ (l : List (Seat (Option (Locked C)) (View Event))). sum_by t (slot_calls desk.codecs.items l)) is ∙ calls t;
        does = x.does;
        pool = x.pool;
        lends = λ t. ap (λ (l : List (Seat (Option (Locked C)) (View Event))). sum_by t (pool_calls desk.codecs.items l)) is ∙ lends t;
        order = subst (λ (l : List (Seat (Option (Locked C)) (View Event))). Each (InOrderSince x.entries x.does) desk.codecs.items a.codecs.items l) (sym is)
            (each_other Q (InOrderSince x.entries x.does) place others 0 place (omega arith) desk.codecs.items a.codecs.items s u v at.codecs codec seat
            (order_one s u v a.slots.me.0 b.slots.me.0 a.pool.me.0 b.pool.me.0 x));
        told = subst (λ (l : List (Seat (Option (Locked C)) (View Event))). Each (TellsSince b.slots.me.0.log) desk.codecs.items a.codecs.items l) (sym is)
            (each_one Q (TellsSince b.slots.me.0.log) (λ n t w h. ends_none b.slots.me.0.log t.codec t.opening w.me.0) 0 place desk.codecs.items a.codecs.items s u v at.codecs codec seat
            (record { ends = x.ends; owed = x.owes.ended; told = x.told }));
      }

  -- with no step nothing is called for and nothing made
  pub settled_none : (desk : Desk C) (a : Seats C) → SitAt desk a → Settled desk a a
  settled_none desk a at = record {
    seats = each_same (SitsAt desk.pool desk.slots.id) SeesMore (λ n t w h. sees_same t w h.idle) 0 desk.codecs.items a.codecs.items at.codecs;
    slot_seat = keeps_none desk.slots.id a.slots at.slots.0;
    pool_seat = keeps_none desk.pool a.pool at.pool.0;
    entries = [];
    made = made_none a.slots.me.0;
    owed = λ t. ap (sum_by t) (sym (append-nil (slot_calls desk.codecs.items a.codecs.items)));
    does = [];
    pool = made_none a.pool.me.0;
    lends = λ t. ap (sum_by t) (sym (append-nil (pool_calls desk.codecs.items a.codecs.items)));
    order = each_same (SitsAt desk.pool desk.slots.id) (InOrderSince [] []) (λ n t w h. order_apart [] [] t w (λ p. refl) (λ p. refl)) 0 desk.codecs.items a.codecs.items at.codecs;
    told = each_same (SitsAt desk.pool desk.slots.id) (TellsSince a.slots.me.0.log) (λ n t w h. ends_none a.slots.me.0.log t.codec t.opening w.me.0) 0 desk.codecs.items a.codecs.items at.codecs;
  }

  -- one step after another
  pub settled_then : (desk : Desk C) (a b c : Seats C) → Settled desk a b → Settled desk b c → Settled desk a c
  settled_then desk a b c x y =
      let calls = grown (pool_calls desk.codecs.items a.codecs.items) (pool_calls desk.codecs.items b.codecs.items) (pool_calls desk.codecs.items c.codecs.items) (map told x.does) (map told y.does) x.lends y.lends in
      record {
        seats = each_then SeesMore SeesMore SeesMore sees_then desk.codecs.items a.codecs.items b.codecs.items c.codecs.items x.seats y.seats;
        slot_seat = keeps_then desk.slots.id a.slots b.slots c.slots x.slot_seat y.slot_seat;
        pool_seat = keeps_then desk.pool a.pool b.pool c.pool x.pool_seat y.pool_seat;
        entries = x.entries ++ y.entries;
        made = made_then a.slots.me.0 b.slots.me.0 c.slots.me.0 x.entries y.entries x.made y.made;
        owed = grown (slot_calls desk.codecs.items a.codecs.items) (slot_calls desk.codecs.items b.codecs.items) (slot_calls desk.codecs.items c.codecs.items) x.entries y.entries x.owed y.owed;
        does = x.does ++ y.does;
        pool = made_then a.pool.me.0 b.pool.me.0 c.pool.me.0 x.does y.does x.pool y.pool;
        lends = λ t. calls t ∙ ap (λ (l : List PoolEntry). sum_by t (pool_calls desk.codecs.items a.codecs.items ++ l)) (sym (map_both told x.does y.does));
        order = each_then (InOrderSince x.entries x.does) (InOrderSince y.entries y.does) (InOrderSince (x.entries ++ y.entries) (x.does ++ y.does)) (order_then x.entries y.entries x.does y.does) desk.codecs.items a.codecs.items b.codecs.items c.codecs.items x.order y.order;
        told = each_then (TellsSince b.slots.me.0.log) (TellsSince c.slots.me.0.log) (TellsSince c.slots.me.0.log) (λ s u v w p q. ends_then b.slots.me.0.log y.made.more c.slots.me.0.log s.codec s.opening u.me.0 v.me.0 w.me.0 y.made.longer p q) desk.codecs.items a.codecs.items b.codecs.items c.codecs.items x.told y.told;
      }

  -- a thread's seats at a desk stay seats at it
  pub sit_after : (desk : Desk C) (a b : Seats C) → SitAt desk a → Settled desk a b → pools.IsFree desk.pool b.pool → registries.IsFree desk.slots.id b.slots → SitAt desk b
  sit_after desk a b at x pool slots = record {
    codecs = pairs_after (SitsAt desk.pool desk.slots.id) SeesMore (sits_more desk.pool desk.slots.id) 0 desk.codecs.items a.codecs.items b.codecs.items at.codecs x.seats;
    pool = pool;
    slots = slots;
  }
