-- What a pool's history has by codecs, and that it has nothing by a codec that is not there.
use Rattle.std.proofs.Common.{ℕ, zero, suc, ◌≡◌, ◌+◌, ◌≤◌, ◌<◌, ◌==◌, ◌&&◌, inl, inr, Bool, true, false, cond, if◌then◌else◌, List, [], ◌∷◌, ◌++◌, length, map, Option, refl, ap, sym, ◌∙◌, arith, eq-eqb, ne_eqb}
use Rattle.std.specs.List.{flat_map, filter, sum_by}
use Rattle.std.proofs.lemmas.Bool.{cases_eq}
use Rattle.std.proofs.lemmas.List.Sums.{sum_by-cons}
use Rattle.atomic_table.specs.Seated.{TableId}
use Rattle.atomic_table.specs.declared.shared.Seat.{Seat}
use Rattle.wc_base.specs.Views.{Log}
use Rattle.wc_base.specs.declared.seat.View.{View}
use Rattle.wc_base.specs.declared.who.By.{By}
use Rattle.wc_base.specs.declared.who.By.TheVariants as by
use Rattle.wc_pool.specs.declared.entry.PoolEntry.{PoolEntry}
use Rattle.wc_pool.specs.declared.entry.PoolOp.{PoolOp}
use Rattle.wc_pool.specs.declared.entry.PoolOp.TheVariants as op
use Rattle.codec_accounts.specs.Bags.{SameBag}
use Rattle.codec_accounts.specs.BagsLaws.{weigh_append}
use Rattle.codec_accounts.specs.Owed.{at}
use Rattle.codec_accounts.specs.Registry.{is_cause}
use Rattle.codec_model.specs.declared.entry.Opening.{Opening}
use Rattle.codec_logs.specs.declared.event.Event.{Event}
use Rattle.codec_logs.specs.Logs.{opening_track}
use Rattle.codec_desk.specs.Desks.{told, entry_for, SitsAt}
use Rattle.codec_desk.specs.Each.{Pairs}
use Rattle.desk_threads.specs.Accounts.{is_by_codec, for_codecs, all_pool_calls}
use Rattle.shared_codec.specs.Dues.{media_dues}
use Rattle.run_laws.specs.PoolPaid.{media_of}
use Rattle.shared_codec.specs.Order.{told_op, done_at, ops_at}
use Rattle.shared_codec.specs.Shared.{Shared}
use Rattle.shared_codec.specs.Sums.{all_dues}
use Rattle.media_accounts.specs.Accounts.{is_by_entry, ops_where, ops_of_entry, without_last}

-- ---- by an entry of a codec

same_flag : (o : PoolOp) → told_op o ≡ without_last o
same_flag (op.Make r f) = refl
same_flag (op.Clone r f) = refl
same_flag (op.End r f last) = refl

eqb_turned : (a b : ℕ) → (a == b) ≡ (b == a)
eqb_turned a b = elim (cases_eq a b) [ inl same ↦ (eq-eqb a b same ∙ sym (eq-eqb b a (sym same))) | inr other ↦ (ne_eqb a b other ∙ sym (ne_eqb b a (λ same. other (sym same)))) ]

same_cause : (k place : ℕ) (cause : By) → is_cause (by.Codec k place) cause ≡ is_by_entry k place cause
same_cause k place (by.Caller who) = refl
same_cause k place (by.Codec j q) = (λ i. eqb_turned k j i && eqb_turned place q i)

one_done : (b : Bool) (o : PoolOp) (l : List PoolOp) (m : List PoolOp) → m ≡ map without_last l → cond b (told_op o ∷ []) [] ++ m ≡ map without_last (if b then o ∷ l else l)
one_done true o l m is = (λ i. same_flag o i ∷ is i)
one_done false o l m is = is

-- both words for what was done by an entry of a codec say the same
pub done_by_entry : (k place : ℕ) (es : List PoolEntry) → flat_map (done_at k place) es ≡ ops_of_entry k place es
done_by_entry k place [] = refl
done_by_entry k place (e ∷ es) =
    ap (λ (b : Bool). cond b (told_op e.op ∷ []) [] ++ flat_map (done_at k place) es) (same_cause k place e.by)
    ∙ one_done (is_by_entry k place e.by) e.op (ops_where (is_by_entry k place) es) (flat_map (done_at k place) es) (done_by_entry k place es)

-- ---- by no other codec

-- whether an entry of the codec with this number made it
abbrev of_codec : ℕ → By → ℕ
of_codec k (by.Caller who) = 0
of_codec k (by.Codec j q) = cond (j == k) 1 0

abbrev weight : ℕ → PoolEntry → ℕ
weight k e = of_codec k e.by

other_codec : (k n : ℕ) (ps : List (ℕ × PoolOp)) → n < k → sum_by (weight k) (map (entry_for n) ps) ≡ 0
other_codec k n [] lt = refl
other_codec k n (p ∷ ps) lt =
    let a = sum_by-cons (weight k) (entry_for n p) (map (entry_for n) ps) in
    let rest = other_codec k n ps lt in
    let one : weight k (entry_for n p) ≡ 0 = ap (λ (b : Bool). cond b 1 0) (ne_eqb n k (λ same. omega (arith, lt, same))) in
    omega (arith, a, rest, one)

none_called : {S : Type 0} (k n : ℕ) (pool slots : TableId) (xs : List Shared) (us : List (Seat (Option S) (View Event))) → Pairs (SitsAt pool slots) n xs us → n + length us ≤ k → sum_by (weight k) (all_pool_calls xs us) ≡ 0
none_called k n pool slots [] [] p le = refl
none_called k n pool slots [] (u ∷ us) p le = absurd p
none_called k n pool slots (x ∷ xs) [] p le = absurd p
none_called k n pool slots (x ∷ xs) (u ∷ us) p le =
    let number : x.codec ≡ n = p.0.number in
    let dues : List (ℕ × PoolOp) = all_dues media_dues x.codec (opening_track x.opening) u.me.0.log in
    let a = weigh_append (weight k) (map (entry_for x.codec) dues) (all_pool_calls xs us) in
    let one = other_codec k x.codec dues (omega (arith, number, le)) in
    let rest = none_called k (suc n) pool slots xs us p.1 (omega (arith, le)) in
    omega (arith, a, one, rest)

one_cause : (k place : ℕ) (cause : By) → of_codec k cause ≡ 0 → is_cause (by.Codec k place) cause ≡ false
one_cause k place (by.Caller who) none = refl
one_cause k place (by.Codec j q) none = elim (cases_eq j k) [
  | inl same ↦ absurd (let one : of_codec k (by.Codec j q) ≡ 1 = ap (λ (b : Bool). cond b 1 0) (eq-eqb j k same) in omega (arith, none, one))
  | inr other ↦ ap (λ (b : Bool). b && (place == q)) (ne_eqb k j (λ same. other (sym same)))
]

-- an entry in front of others, where all weigh nothing
first_light : (k : ℕ) (cause : By) (o : PoolOp) (es : List PoolEntry) → sum_by (weight k) (map told (cond (is_by_codec cause) (record { by = cause; op = o } ∷ es) es)) ≡ 0 → (of_codec k cause ≡ 0) × (sum_by (weight k) (map told es) ≡ 0)
first_light k (by.Caller who) o es none = (refl, none)
first_light k (by.Codec j q) o es none =
    let e : PoolEntry = record { by = by.Codec j q; op = o } in
    let a = sum_by-cons (weight k) (told e) (map told es) in
    let one : weight k (told e) ≡ cond (j == k) 1 0 = refl in
    (omega (arith, a, one, none), omega (arith, a, none))

none_done : (k place : ℕ) (es : List PoolEntry) → sum_by (weight k) (for_codecs es) ≡ 0 → flat_map (done_at k place) es ≡ []
none_done k place [] none = refl
none_done k place (e ∷ es) none =
    let light = first_light k e.by e.op (filter (λ x. is_by_codec x.by) es) none in
    ap (λ (b : Bool). cond b (told_op e.op ∷ []) [] ++ flat_map (done_at k place) es) (one_cause k place e.by light.0) ∙ none_done k place es light.1

-- nothing is by a codec beyond those that are there
pub none_beyond : {S : Type 0} (k place : ℕ) (pool slots : TableId) (xs : List Shared) (us : List (Seat (Option S) (View Event))) (es : List PoolEntry) → Pairs (SitsAt pool slots) 0 xs us → length us ≤ k → SameBag (all_pool_calls xs us) (for_codecs es) → flat_map (done_at k place) es ≡ []
none_beyond k place pool slots xs us es sits le same =
    let a = same (weight k) in
    let none = none_called k 0 pool slots xs us sits (omega (arith, le)) in
    none_done k place es (omega (arith, a, none))

-- no log beyond those that are there calls for anything
past_end : {X : Type 0} (k : ℕ) (ls : List (List X)) → length ls ≤ k → at k ls ≡ []
past_end k [] le = refl
past_end zero (l ∷ ls) le = absurd (omega (arith, le))
past_end (suc k) (l ∷ ls) le = past_end k ls (omega (arith, le))

pub media_past : (opening : ℕ → Opening) (k place : ℕ) (logs : List (Log Event)) → length logs ≤ k → ops_at place (media_of opening k (at k logs)) ≡ []
media_past opening k place logs le = ap (λ (l : Log Event). ops_at place (media_of opening k l)) (past_end k logs le)
