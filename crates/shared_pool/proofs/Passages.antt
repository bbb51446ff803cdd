-- What a passage of a seat makes of a pool, of references and of the seat's claims.
use Rattle.std.proofs.Common.{ℕ, ◌≡◌, Bool, cond, eqb, List, [], ◌∷◌, ◌++◌, Option, refl, ap, sym, subst, ◌∙◌, append-nil, append_assoc, inl, ne_eqb, eq-eqb, true, Some}
use Rattle.std.specs.Prelude.{Result, Ok, Err, IfOk, OnErr}
use Rattle.std.proofs.lemmas.Bool.{and_parts, eqb-true}
use Rattle.atomic_table.specs.Seated.{TableId}
use Rattle.atomic_table.specs.declared.shared.Seat.{Seat}
use Rattle.wc_base.specs.declared.error.NoMemory.{NoMemory}
use Rattle.wc_base.specs.declared.who.By.{By}
use Rattle.wc_base.specs.Views.{Log}
use Rattle.wc_base.specs.declared.seat.Passage.{Passage}
use Rattle.wc_base.specs.declared.seat.Passage.TheVariants.{Made, Look}
use Rattle.wc_base.specs.declared.seat.View.{View}
use Rattle.wc_pool.specs.declared.entry.PoolEntry.{PoolEntry}
use Rattle.wc_pool.specs.declared.reference.MediaRef.{MediaRef}
use Rattle.wc_pool.specs.Bag.{resource_of, mints, references_made, resources_made, is_held, is_legal_next, is_legal_pool}
use Rattle.wc_pool.specs.Laws.{MadeAreNew}
use Rattle.wc_pool.specs.Pools.{IsLive as IsLiveRef, made_by, cloned_by, ended_by, Adds, IsCloneOf}
use Rattle.seat_lock.specs.Logs.{Has, Continues, entries_of, entry_in}
use Rattle.seat_lock.specs.Claims.{AreLive, HasClaim, spends_in, remove_claim, mint_count}
use Rattle.seat_lock.specs.Own.{entries_of-append}
use Rattle.seat_lock.specs.Passages.{IsUnion}
use Rattle.seat_lock.specs.Seats.{Sitting, HasView, after_passage}
use Rattle.seat_lock.specs.Since.{MadeSince}
use Rattle.seat_lock.specs.SinceLaws.{made_by_passage, idle_after, token_since, idle_union}
use Rattle.shared_pool.specs.declared.pool.LockedPool.{LockedPool}
use Rattle.shared_pool.specs.Refs.{ends, IsPoolLog, IsPoolRef, KnowsRef}
use Rattle.shared_pool.specs.Steps.{MakesIn, MakePassage, TakesRef, ClonePassage, ClonesIn, EndsIn}
use Rattle.shared_pool.proofs.Live.{live_ref, count_is}

abbrev Sits : Type 0
Sits = Seat (Option LockedPool) (View PoolEntry)

-- a token was joined
pub takes_ref : (pool : TableId) (r : MediaRef) (is : IsPoolRef pool r) (a b : Sits) → IsUnion a.me.0 is.view b → a.me.0.claims ≡ [] → TakesRef r a b
takes_ref pool r is a b u none = record {
  idle = idle_union is.view a b u;
  since = token_since is.view a b is.bare is.weightless u;
  claims = ap (λ (m : Sitting LockedPool PoolEntry). m.0.claims) u.view ∙ ((λ i. none i ++ is.view.claims) ∙ is.claims);
  known = record { before = is.view.log; rest = u.continues_other.more; is = u.continues_other.is; made = is.made };
}

pub knows_later : (r : MediaRef) (numbers : List ℕ) (seen log : Log PoolEntry) → Continues numbers seen log → KnowsRef r seen → KnowsRef r log
knows_later r numbers seen log goes k = record { before = k.before; rest = k.rest ++ goes.more; is = goes.is ∙ (ap (λ (l : Log PoolEntry). l ++ goes.more) k.is ∙ append_assoc k.before k.rest goes.more); made = k.made }

-- a reference whose claim the seat holds is live in the log that it enters
pub live_inside : MadeAreNew → (r : MediaRef) (numbers : List ℕ) (seen log : Log PoolEntry) (claims : List ℕ) (history : List PoolEntry) → claims ≡ r.number ∷ [] → Continues numbers seen log → KnowsRef r seen → AreLive mints ends log claims → IsPoolLog history log → IsLiveRef history r
live_inside apart r numbers seen log claims history one goes k live st =
    subst (λ (h : List PoolEntry). resource_of r.number h ≡ Some r.resource) (sym st.history_is)
    (live_ref apart r log (knows_later r numbers seen log goes k) st.legal (subst (λ (l : List ℕ). AreLive mints ends log l) one live).0)

pub pool_made : (old new : List PoolEntry) (log : Log PoolEntry) (n : ℕ) (e : PoolEntry) → Adds old new e → IsPoolLog old log → IsPoolLog new (log ++ (n, Made e) ∷ [])
pool_made old new log n e adds st =
    let is : new ≡ entries_of (log ++ (n, Made e) ∷ []) = adds.longer ∙ (ap (λ (h : List PoolEntry). h ++ e ∷ []) st.history_is ∙ sym (entries_of-append log n (Made e))) in
    record { history_is = is; legal = subst (λ (h : List PoolEntry). is_legal_pool h ≡ true) is adds.legal }

pool_same : (old new : List PoolEntry) (log : Log PoolEntry) (n : ℕ) → new ≡ old → IsPoolLog old log → IsPoolLog new (log ++ (n, Look) ∷ [])
pool_same old new log n same st =
    let is : entries_of log ≡ entries_of (log ++ (n, Look) ∷ []) = sym (entries_of-append log n Look ∙ append-nil (entries_of log)) in
    record { history_is = same ∙ (st.history_is ∙ is); legal = subst (λ (h : List PoolEntry). is_legal_pool h ≡ true) is st.legal }

pub pool_cloned : (cause : By) (result : Result MediaRef NoMemory) (old new : List PoolEntry) (log : Log PoolEntry) (n : ℕ) (p : Passage PoolEntry) → IfOk result (λ q. Adds old new (cloned_by cause q)) → OnErr result (new ≡ old) → ClonePassage cause result p → IsPoolLog old log → IsPoolLog new (log ++ (n, p) ∷ [])
pool_cloned cause (Ok q) old new log n p adds same is st = subst (λ (x : Passage PoolEntry). IsPoolLog new (log ++ (n, x) ∷ [])) (sym is) (pool_made old new log n (cloned_by cause q) adds st)
pool_cloned cause (Err e) old new log n p adds same is st = subst (λ (x : Passage PoolEntry). IsPoolLog new (log ++ (n, x) ∷ [])) (sym is) (pool_same old new log n same st)

pub clone_spends : (cause : By) (result : Result MediaRef NoMemory) (log : Log PoolEntry) (p : Passage PoolEntry) (claims : List ℕ) → ClonePassage cause result p → HasClaim (spends_in mints ends log p) claims
clone_spends cause (Ok q) log p claims is = subst (λ (x : Passage PoolEntry). HasClaim (spends_in mints ends log x) claims) (sym is) tt
clone_spends cause (Err e) log p claims is = subst (λ (x : Passage PoolEntry). HasClaim (spends_in mints ends log x) claims) (sym is) tt

-- one passage of the seat
abbrev pub After : Sits → Sits → Log PoolEntry → Passage PoolEntry → Type 0
After a c log p = HasView (after_passage mints ends a.me.0 log p) c

next_number : (before : List PoolEntry) (cause : By) (q : MediaRef) → is_legal_next before (cloned_by cause q) ≡ true → q.number ≡ references_made before
next_number before cause q next = eqb-true q.number (references_made before) (and_parts (is_held q.resource before) (eqb q.number (references_made before)) next).1

pub clones_in : (cause : By) (r : MediaRef) (result : Result MediaRef NoMemory) (old new : List PoolEntry) (a c : Sits) (log : Log PoolEntry) (p : Passage PoolEntry) → After a c log p → Continues a.me.0.numbers a.me.0.log log → Has a.me.0.number a.me.0.numbers → a.me.0.claims ≡ r.number ∷ []
    → IfOk result (λ q. Adds old new (cloned_by cause q)) → IfOk result (IsCloneOf r) → IfOk result (IsLiveRef new) → OnErr result (new ≡ old) → IsLiveRef new r → ClonePassage cause result p → IsPoolLog old log → IsPoolLog new (log ++ (a.me.0.number, p) ∷ []) → ClonesIn cause r result a c
clones_in cause r (Ok q) old new a c log p view goes has one adds clone live same still is st next =
    let at : new ≡ entries_of c.me.0.log = next.history_is ∙ ap (λ (m : Sitting LockedPool PoolEntry). entries_of m.0.log) (sym view) in
    let view' : After a c log (Made (cloned_by cause q)) = subst (λ (x : Passage PoolEntry). After a c log x) is view in
    let number : mint_count mints ends log ≡ q.number = count_is log ∙ (ap references_made (sym st.history_is) ∙ sym (next_number old cause q adds.next)) in
    record {
      idle = idle_after mints ends a c log p view;
      since = subst (λ (x : Passage PoolEntry). MadeSince a.me.0 c.me.0 (entry_in x [])) is (made_by_passage mints ends a c log p view goes has);
      claims = ap (λ (m : Sitting LockedPool PoolEntry). m.0.claims) view' ∙ (λ i. number i ∷ one i);
      live = subst (λ (h : List PoolEntry). resource_of r.number h ≡ Some r.resource) at still;
      clone = subst (λ (h : List PoolEntry). resource_of q.number h ≡ Some q.resource) at live;
      of = clone;
    }
clones_in cause r (Err e) old new a c log p view goes has one adds clone live same still is st next =
    let at : new ≡ entries_of c.me.0.log = next.history_is ∙ ap (λ (m : Sitting LockedPool PoolEntry). entries_of m.0.log) (sym view) in
    let view' : After a c log Look = subst (λ (x : Passage PoolEntry). After a c log x) is view in
    record {
      idle = idle_after mints ends a c log p view;
      since = subst (λ (x : Passage PoolEntry). MadeSince a.me.0 c.me.0 (entry_in x [])) is (made_by_passage mints ends a c log p view goes has);
      claims = ap (λ (m : Sitting LockedPool PoolEntry). m.0.claims) view' ∙ one;
      live = subst (λ (h : List PoolEntry). resource_of r.number h ≡ Some r.resource) at still;
    }

eqb_same : (n : ℕ) → eqb n n ≡ true
eqb_same n = eq-eqb n n refl

pub end_spends : (cause : By) (r : MediaRef) (last : Bool) (entry : PoolEntry) (log : Log PoolEntry) (claims : List ℕ) → entry ≡ ended_by cause r last → claims ≡ r.number ∷ [] → HasClaim (spends_in mints ends log (Made entry)) claims
end_spends cause r last entry log claims is one = subst (λ (x : PoolEntry). HasClaim (spends_in mints ends log (Made x)) claims) (sym is) (subst (λ (l : List ℕ). Has r.number l) (sym one) (inl refl))

pub ends_in : (cause : By) (r : MediaRef) (last : Bool) (entry : PoolEntry) (a c : Sits) (log : Log PoolEntry) → entry ≡ ended_by cause r last → After a c log (Made entry) → Continues a.me.0.numbers a.me.0.log log → Has a.me.0.number a.me.0.numbers → a.me.0.claims ≡ r.number ∷ [] → EndsIn cause r last a c
ends_in cause r last entry a c log is at goes has one =
    let view : After a c log (Made (ended_by cause r last)) = subst (λ (x : PoolEntry). After a c log (Made x)) is at in
    record {
      idle = idle_after mints ends a c log (Made (ended_by cause r last)) view;
      since = made_by_passage mints ends a c log (Made (ended_by cause r last)) view goes has;
      claims = ap (λ (m : Sitting LockedPool PoolEntry). m.0.claims) view ∙ (ap (remove_claim r.number) one ∙ ap (λ (b : Bool). cond b [] (r.number ∷ [])) (eqb_same r.number));
    }

-- the claims of both references go, one after the other
pub one_left : (q r : ℕ) → ¬ (q ≡ r) → remove_claim r (q ∷ r ∷ []) ≡ q ∷ []
one_left q r apart = ap (λ (b : Bool). cond b (r ∷ []) (q ∷ cond (eqb r r) [] (r ∷ []))) (ne_eqb r q (λ e. apart (sym e))) ∙ ap (λ (b : Bool). q ∷ cond b [] (r ∷ [])) (eqb_same r)

pub none_left : (r : ℕ) → remove_claim r (r ∷ []) ≡ []
none_left r = ap (λ (b : Bool). cond b [] (r ∷ [])) (eqb_same r)

-- ---- a make

pub pool_made_by : (cause : By) (result : Result MediaRef NoMemory) (old new : List PoolEntry) (log : Log PoolEntry) (n : ℕ) (p : Passage PoolEntry) → IfOk result (λ q. Adds old new (made_by cause q)) → OnErr result (new ≡ old) → MakePassage cause result p → IsPoolLog old log → IsPoolLog new (log ++ (n, p) ∷ [])
pool_made_by cause (Ok q) old new log n p adds same is st = subst (λ (x : Passage PoolEntry). IsPoolLog new (log ++ (n, x) ∷ [])) (sym is) (pool_made old new log n (made_by cause q) adds st)
pool_made_by cause (Err e) old new log n p adds same is st = subst (λ (x : Passage PoolEntry). IsPoolLog new (log ++ (n, x) ∷ [])) (sym is) (pool_same old new log n same st)

pub make_spends : (cause : By) (result : Result MediaRef NoMemory) (log : Log PoolEntry) (p : Passage PoolEntry) (claims : List ℕ) → MakePassage cause result p → HasClaim (spends_in mints ends log p) claims
make_spends cause (Ok q) log p claims is = subst (λ (x : Passage PoolEntry). HasClaim (spends_in mints ends log x) claims) (sym is) tt
make_spends cause (Err e) log p claims is = subst (λ (x : Passage PoolEntry). HasClaim (spends_in mints ends log x) claims) (sym is) tt

made_number : (before : List PoolEntry) (cause : By) (q : MediaRef) → is_legal_next before (made_by cause q) ≡ true → q.number ≡ references_made before
made_number before cause q next = eqb-true q.number (references_made before) (and_parts (eqb q.resource (resources_made before)) (eqb q.number (references_made before)) next).1

pub makes_in : (cause : By) (result : Result MediaRef NoMemory) (old new : List PoolEntry) (a c : Sits) (log : Log PoolEntry) (p : Passage PoolEntry) → After a c log p → Continues a.me.0.numbers a.me.0.log log → Has a.me.0.number a.me.0.numbers → a.me.0.claims ≡ []
    → IfOk result (λ q. Adds old new (made_by cause q)) → IfOk result (IsLiveRef new) → MakePassage cause result p → IsPoolLog old log → IsPoolLog new (log ++ (a.me.0.number, p) ∷ []) → MakesIn cause result a c
makes_in cause (Ok q) old new a c log p view goes has none adds live is st next =
    let at : new ≡ entries_of c.me.0.log = next.history_is ∙ ap (λ (m : Sitting LockedPool PoolEntry). entries_of m.0.log) (sym view) in
    let view' : After a c log (Made (made_by cause q)) = subst (λ (x : Passage PoolEntry). After a c log x) is view in
    let number : mint_count mints ends log ≡ q.number = count_is log ∙ (ap references_made (sym st.history_is) ∙ sym (made_number old cause q adds.next)) in
    record {
      idle = idle_after mints ends a c log p view;
      since = subst (λ (x : Passage PoolEntry). MadeSince a.me.0 c.me.0 (entry_in x [])) is (made_by_passage mints ends a c log p view goes has);
      claims = ap (λ (m : Sitting LockedPool PoolEntry). m.0.claims) view' ∙ (λ i. number i ∷ none i);
      live = subst (λ (h : List PoolEntry). resource_of q.number h ≡ Some q.resource) at live;
    }
makes_in cause (Err e) old new a c log p view goes has none adds live is st next =
    let view' : After a c log Look = subst (λ (x : Passage PoolEntry). After a c log x) is view in
    record {
      idle = idle_after mints ends a c log p view;
      since = subst (λ (x : Passage PoolEntry). MadeSince a.me.0 c.me.0 (entry_in x [])) is (made_by_passage mints ends a c log p view goes has);
      claims = ap (λ (m : Sitting LockedPool PoolEntry). m.0.claims) view' ∙ none;
    }
