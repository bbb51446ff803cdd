-- What threads did to the pool by the steps of callers, as they work and as their seats are joined.
use Rattle.std.proofs.Common.{ℕ, zero, suc, ◌≡◌, ◌≢◌, ◌⊎◌, inl, inr, Bool, true, false, cond, List, [], ◌∷◌, ◌++◌, map, length, Option, refl, ap, sym, ◌∙◌, arith, append-nil, append_assoc}
use Rattle.std.specs.List.{sum_by}
use Rattle.std.proofs.lemmas.Bool.{cases_eq}
use Rattle.std.proofs.lemmas.List.Sums.{sum_by-cons, sum_by-append}
use Rattle.atomic_table.specs.declared.shared.Seat.{Seat}
use Rattle.wc_base.specs.Views.{Log}
use Rattle.wc_base.specs.declared.seat.Passage.{Passage}
use Rattle.wc_base.specs.declared.seat.Passage.TheVariants.{Made, Look}
use Rattle.wc_base.specs.declared.seat.View.{View}
use Rattle.wc_base.specs.declared.who.By.{By}
use Rattle.wc_base.specs.declared.who.By.TheVariants as by
use Rattle.wc_chunk.specs.declared.chunk.Chunk.{Chunk}
use Rattle.wc_pool.specs.declared.entry.{PoolEntry.PoolEntry, PoolOp.PoolOp}
use Rattle.seat_lock.specs.Logs.{AllBy, entry_in, entries_of}
use Rattle.seat_lock.specs.Own.{is_in}
use Rattle.seat_lock.specs.Since.{entries_by, MadeSince}
use Rattle.codec_accounts.specs.Owed.{at}
use Rattle.codec_logs.specs.declared.event.Event.{Event}
use Rattle.shared_codec.specs.Dues.{media_dues}
use Rattle.shared_codec.specs.Order.{made_by}
use Rattle.shared_codec.specs.Shared.{Shared}
use Rattle.shared_codec.specs.Sums.{AreJoined, dues_of}
use Rattle.codec_desk.specs.declared.desk.Desk.{Desk}
use Rattle.codec_desk.specs.declared.desk.Seats.{Seats}
use Rattle.codec_desk.specs.Desks.{told, entry_for, pool_calls, Settled}
use Rattle.desk_threads.specs.AccountLaws.{joined_view, left_made, new_made}
use Rattle.codec_desk.specs.MadeLaws.{in_first, in_second, entries_continue, made_more, made_all}
use Rattle.desk_threads.specs.Parts.{AreSplit, AreTakenIn}
use Rattle.media_accounts.specs.Accounts.{StepOp, own_by, own_in}
use Rattle.desk_callers.specs.Acts.{SettledBy}
use Rattle.desk_callers.specs.Deeds.{Deed, owns_of}
use Rattle.script_types.specs.declared.script.ScriptData.{ScriptData}
use Rattle.wc_run.specs.Owned.{Owned, none_owned, owns_at}

own_both : (c : ℕ) (a b : List PoolEntry) → own_in c (a ++ b) ≡ own_in c a ++ own_in c b
own_both c [] b = refl
own_both c (e ∷ es) b = ap (λ (l : List StepOp). own_by c e.by e.op ++ l) (own_both c es b) ∙ sym (append_assoc (own_by c e.by e.op) (own_in c es) (own_in c b))

-- ---- what is settled for codecs is of no caller

abbrev by_caller : By → ℕ
by_caller (by.Caller who) = 1
by_caller (by.Codec k place) = 0

abbrev weight : PoolEntry → ℕ
weight e = by_caller e.by

no_caller : (k : ℕ) (ps : List (ℕ × PoolOp)) → sum_by weight (map (entry_for k) ps) ≡ 0
no_caller k [] = refl
no_caller k (p ∷ ps) =
    let a = sum_by-cons weight (entry_for k p) (map (entry_for k) ps) in
    let b = no_caller k ps in
    let c : weight (entry_for k p) ≡ 0 = refl in
    omega (arith, a, b, c)

no_callers : {S : Type 0} (xs : List Shared) (us : List (Seat (Option S) (View Event))) → sum_by weight (pool_calls xs us) ≡ 0
no_callers [] us = refl
no_callers (x ∷ xs) [] = refl
no_callers (x ∷ xs) (u ∷ us) =
    let a = no_caller x.codec (dues_of media_dues x.codec x.opening u.me.0) in
    let b = no_callers xs us in
    let c = sum_by-append weight (map (entry_for x.codec) (dues_of media_dues x.codec x.opening u.me.0)) (pool_calls xs us) in
    omega (arith, a, b, c)

own_one : (c : ℕ) (cause : By) (o : PoolOp) (rest : List StepOp) → by_caller cause ≡ 0 → own_by c cause o ++ rest ≡ rest
own_one c (by.Caller who) o rest none = absurd (omega (arith, none))
own_one c (by.Codec k place) o rest none = refl

none_own : (c : ℕ) (es : List PoolEntry) → sum_by weight (map told es) ≡ 0 → own_in c es ≡ []
none_own c [] none = refl
none_own c (e ∷ es) none =
    let a = sum_by-cons weight (told e) (map told es) in
    let one : weight (told e) ≡ by_caller e.by = refl in
    own_one c e.by e.op (own_in c es) (omega (arith, a, one, none)) ∙ none_own c es (omega (arith, a, none))

module _ {C : Type 0} where
  own_same : (c : ℕ) (a b : Seats C) (es : List PoolEntry) → MadeSince a.pool.me.0 b.pool.me.0 es → own_in c es ≡ [] → own_in c (made_by b.pool.me.0) ≡ own_in c (made_by a.pool.me.0)
  own_same c a b es made none =
      ap (own_in c) (made_more a.pool.me.0 b.pool.me.0 es made) ∙ (own_both c (made_by a.pool.me.0) es ∙ (ap (λ (l : List StepOp). own_in c (made_by a.pool.me.0) ++ l) none ∙ append-nil (own_in c (made_by a.pool.me.0))))

  -- nothing more, where all is settled for codecs
  pub owned_settled : (desk : Desk C) (mine : ℕ → List StepOp) (a b : Seats C) → Settled desk a b → Owned mine a → Owned mine b
  owned_settled desk mine a b x was c =
      let before = no_callers desk.codecs.items a.codecs.items in
      let after = no_callers desk.codecs.items b.codecs.items in
      let same = x.lends weight in
      let both = sum_by-append weight (pool_calls desk.codecs.items a.codecs.items) (map told x.does) in
      let none : sum_by weight (map told x.does) ≡ 0 = omega (arith, before, after, same, both) in
      own_same c a b x.does x.pool (none_own c x.does none) ∙ was c

  -- a caller's own, of seats that had made nothing of callers
  pub owned_mine : (desk : Desk C) (c : ℕ) (mine : List StepOp) (a b : Seats C) → SettledBy c mine desk a b → Owned none_owned a → own_in c (made_by b.pool.me.0) ≡ mine
  owned_mine desk c mine a b x none =
      ap (own_in c) (made_more a.pool.me.0 b.pool.me.0 x.does x.pool) ∙ (own_both c (made_by a.pool.me.0) x.does ∙ (λ i. none c i ++ x.own i))

  pub owned_others : (desk : Desk C) (c : ℕ) (mine : List StepOp) (a b : Seats C) → SettledBy c mine desk a b → Owned none_owned a → (d : ℕ) → d ≢ c → own_in d (made_by b.pool.me.0) ≡ []
  owned_others desk c mine a b x none d other = own_same d a b x.does x.pool (x.others d other) ∙ none d

  -- seats that have seen nothing made nothing
  pub owned_first : (a : Seats C) → a.pool.me.0.log ≡ [] → Owned none_owned a
  owned_first a none c = ap (λ (l : Log PoolEntry). own_in c (entries_by a.pool.me.0.numbers l)) none

  -- a part that is split off
  pub owned_left : (desk : Desk C) (mine : ℕ → List StepOp) (a b n : Seats C) → AreSplit desk a b n → Owned mine a → Owned mine b
  owned_left desk mine a b n split was c = ap (own_in c) (left_made desk.pool a.pool b.pool n.pool split.pool) ∙ was c

  pub owned_new : (desk : Desk C) (a b n : Seats C) → AreSplit desk a b n → Owned none_owned n
  owned_new desk a b n split c = ap (own_in c) (new_made desk.pool a.pool b.pool n.pool split.pool)

-- ---- seats that are joined, of which one made nothing of a caller

module _ (c : ℕ) where
  ends_none : (x y : List StepOp) → x ++ y ≡ [] → y ≡ []
  ends_none [] y h = h
  ends_none (a ∷ x) y h = absurd cc

  front_none : (x y : List StepOp) → x ++ y ≡ [] → x ≡ []
  front_none [] y h = refl
  front_none (a ∷ x) y h = absurd cc

  after_none : (b : Bool) (p : Passage PoolEntry) (l : List PoolEntry) → own_in c (cond b (entry_in p l) l) ≡ [] → own_in c l ≡ []
  after_none true (Made e) l h = ends_none (own_by c e.by e.op) (own_in c l) h
  after_none true Look l h = h
  after_none false p l h = h

  entry_first : (p : Passage PoolEntry) (l m : List PoolEntry) → own_in c l ≡ own_in c m → own_in c (entry_in p l) ≡ own_in c (entry_in p m)
  entry_first (Made e) l m h = ap (λ (x : List StepOp). own_by c e.by e.op ++ x) h
  entry_first Look l m h = h

  entry_none : (p : Passage PoolEntry) (l m n : List PoolEntry) → own_in c (entry_in p n) ≡ [] → own_in c l ≡ own_in c m → own_in c (entry_in p l) ≡ own_in c m
  entry_none (Made e) l m n none h = (λ i. front_none (own_by c e.by e.op) (own_in c n) none i ++ own_in c l) ∙ h
  entry_none Look l m n none h = h

  left_step : (p : Passage PoolEntry) (one other both : Bool) (la lb lc : List PoolEntry) → (one ≡ true → both ≡ true) → (one ≡ false → both ≡ other) → own_in c (cond other (entry_in p lb) lb) ≡ [] → own_in c lc ≡ own_in c la → own_in c (cond both (entry_in p lc) lc) ≡ own_in c (cond one (entry_in p la) la)
  left_step p true other both la lb lc up same none h = ap (λ (b : Bool). own_in c (cond b (entry_in p lc) lc)) (up refl) ∙ entry_first p lc la h
  left_step p false true both la lb lc up same none h = ap (λ (b : Bool). own_in c (cond b (entry_in p lc) lc)) (same refl) ∙ entry_none p lc la lb none h
  left_step p false false both la lb lc up same none h = ap (λ (b : Bool). own_in c (cond b (entry_in p lc) lc)) (same refl) ∙ h

  right_step : (p : Passage PoolEntry) (one other both : Bool) (la lb lc : List PoolEntry) → (one ≡ true → both ≡ true) → (one ≡ false → both ≡ other) → own_in c (cond one (entry_in p la) la) ≡ [] → own_in c lc ≡ own_in c lb → own_in c (cond both (entry_in p lc) lc) ≡ own_in c (cond other (entry_in p lb) lb)
  right_step p true true both la lb lc up same none h = ap (λ (b : Bool). own_in c (cond b (entry_in p lc) lc)) (up refl) ∙ entry_first p lc lb h
  right_step p true false both la lb lc up same none h = ap (λ (b : Bool). own_in c (cond b (entry_in p lc) lc)) (up refl) ∙ entry_none p lc lb la none h
  right_step p false true both la lb lc up same none h = ap (λ (b : Bool). own_in c (cond b (entry_in p lc) lc)) (same refl) ∙ entry_first p lc lb h
  right_step p false false both la lb lc up same none h = ap (λ (b : Bool). own_in c (cond b (entry_in p lc) lc)) (same refl) ∙ h

  own_left : (a b : List ℕ) (log : Log PoolEntry) → own_in c (entries_by b log) ≡ [] → own_in c (entries_by (a ++ b) log) ≡ own_in c (entries_by a log)
  own_left a b [] none = refl
  own_left a b (p ∷ ps) none =
      left_step p.1 (is_in p.0 a) (is_in p.0 b) (is_in p.0 (a ++ b)) (entries_by a ps) (entries_by b ps) (entries_by (a ++ b) ps) (in_first p.0 a b) (in_second p.0 a b) none
      (own_left a b ps (after_none (is_in p.0 b) p.1 (entries_by b ps) none))

  own_right : (a b : List ℕ) (log : Log PoolEntry) → own_in c (entries_by a log) ≡ [] → own_in c (entries_by (a ++ b) log) ≡ own_in c (entries_by b log)
  own_right a b [] none = refl
  own_right a b (p ∷ ps) none =
      right_step p.1 (is_in p.0 a) (is_in p.0 b) (is_in p.0 (a ++ b)) (entries_by a ps) (entries_by b ps) (entries_by (a ++ b) ps) (in_first p.0 a b) (in_second p.0 a b) none
      (own_right a b ps (after_none (is_in p.0 a) p.1 (entries_by a ps) none))

  first_owned : (v w u : View PoolEntry) → AreJoined v w u → own_in c (made_by w) ≡ [] → own_in c (made_by u) ≡ own_in c (made_by v)
  first_owned v w u j none =
      ap (λ (l : List ℕ). own_in c (entries_by l u.log)) j.numbers
      ∙ (own_left v.numbers w.numbers u.log (ap (own_in c) (entries_continue w.numbers w.log u.log j.other) ∙ none) ∙ ap (own_in c) (entries_continue v.numbers v.log u.log j.one))

  second_owned : (v w u : View PoolEntry) → AreJoined v w u → own_in c (made_by v) ≡ [] → own_in c (made_by u) ≡ own_in c (made_by w)
  second_owned v w u j none =
      ap (λ (l : List ℕ). own_in c (entries_by l u.log)) j.numbers
      ∙ (own_right v.numbers w.numbers u.log (ap (own_in c) (entries_continue v.numbers v.log u.log j.one) ∙ none) ∙ ap (own_in c) (entries_continue w.numbers w.log u.log j.other))

-- ---- lists of deeds, and one more

pub at_end : {X : Type 0} (ls : List (List X)) (l : List X) → at (length ls) (ls ++ l ∷ []) ≡ l
at_end [] l = refl
at_end (m ∷ ls) l = at_end ls l

pub at_other : {X : Type 0} (k : ℕ) (ls : List (List X)) (l : List X) → k ≢ length ls → at k (ls ++ l ∷ []) ≡ at k ls
at_other zero [] l other = absurd (other refl)
at_other (suc k) [] l other = refl
at_other zero (m ∷ ls) l other = refl
at_other (suc k) (m ∷ ls) l other = at_other k ls l (λ same. other (ap suc same))

at_past : {X : Type 0} (ls : List (List X)) → at (length ls) ls ≡ []
at_past [] = refl
at_past (l ∷ ls) = at_past ls

module _ {C : Type 0} where
  -- the other seats made nothing of callers
  pub owned_same : (desk : Desk C) (mine : ℕ → List StepOp) (a o b : Seats C) → AreTakenIn desk a o b → Owned mine a → Owned none_owned o → Owned mine b
  owned_same desk mine a o b join was none c = first_owned c a.pool.me.0 o.pool.me.0 b.pool.me.0 (joined_view a.pool o.pool b.pool join.pool) (none c) ∙ was c

  -- the other seats are those of the next caller
  pub owned_joined : (s : ScriptData) (media : List (List Chunk)) (desk : Desk C) (deeds : List (List Deed)) (ds : List Deed) (c : ℕ) (a o b : Seats C) → c ≡ length deeds → AreTakenIn desk a o b → Owned (owns_at s media deeds) a → own_in c (made_by o.pool.me.0) ≡ owns_of s media ds
      → ((d : ℕ) → d ≢ c → own_in d (made_by o.pool.me.0) ≡ []) → Owned (owns_at s media (deeds ++ ds ∷ [])) b
  owned_joined s media desk deeds ds c a o b number join was mine others d = cases (cases_eq d c)
    where
      view : AreJoined a.pool.me.0 o.pool.me.0 b.pool.me.0
      view = joined_view a.pool o.pool b.pool join.pool

      cases : (d ≡ c) ⊎ (d ≢ c) → own_in d (made_by b.pool.me.0) ≡ owns_at s media (deeds ++ ds ∷ []) d
      cases (inl same) =
          let place : d ≡ length deeds = same ∙ number in
          let none : own_in d (made_by a.pool.me.0) ≡ [] = was d ∙ ap (owns_of s media) (ap (λ (n : ℕ). at n deeds) place ∙ at_past deeds) in
          let there : at d (deeds ++ ds ∷ []) ≡ ds = ap (λ (n : ℕ). at n (deeds ++ ds ∷ [])) place ∙ at_end deeds ds in
          second_owned d a.pool.me.0 o.pool.me.0 b.pool.me.0 view none ∙ (ap (λ (n : ℕ). own_in n (made_by o.pool.me.0)) same ∙ (mine ∙ sym (ap (owns_of s media) there)))
      cases (inr other) =
          let there : at d (deeds ++ ds ∷ []) ≡ at d deeds = at_other d deeds ds (λ e. other (e ∙ sym number)) in
          first_owned d a.pool.me.0 o.pool.me.0 b.pool.me.0 view (others d other) ∙ (was d ∙ sym (ap (owns_of s media) there))

  -- of seats that have all passages it is so of the pool's history
  pub owned_all : (mine : ℕ → List StepOp) (a : Seats C) → AllBy a.pool.me.0.numbers a.pool.me.0.log → Owned mine a → (c : ℕ) → own_in c (entries_of a.pool.me.0.log) ≡ mine c
  owned_all mine a all was c = sym (ap (own_in c) (made_all a.pool.me.0.numbers a.pool.me.0.log all)) ∙ was c
