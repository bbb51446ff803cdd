-- The references that codecs hold stay live and apart in each step of a caller: they stand as those of one caller more do.
use Rattle.std.proofs.Common.{ℕ, zero, suc, ◌≡◌, ◌≢◌, ◌<◌, ◌+◌, ◌⊎◌, inl, inr, true, List, [], ◌∷◌, ◌++◌, length, get_or, map, Option, Some, None, refl, ap, sym, subst, ◌∙◌, arith}
use Rattle.std.specs.Prelude.{pos, slice_get, slice_set, option_map, IfSome}
use Rattle.std.proofs.lemmas.Bool.{cases_eq}
use Rattle.std.proofs.lemmas.List.{length-append, set-append_left}
use Rattle.wc_base.specs.declared.{media.SampleFormat.SampleFormat, who.Who.Who}
use Rattle.wc_pool.specs.{declared.entry.PoolEntry.PoolEntry, Bag.resource_of, Bag.is_legal_pool}
use Rattle.codec_model.specs.declared.entry.Pair.{Pair}
use Rattle.script_types.specs.declared.steps.MediaStep.{MediaStep}
use Rattle.media_variables.specs.Variables.{Reference, SoundOf, Medium, Came, Received, Brought, next_numbers, medium_at, variables_of, media_came, entries_of}
use Rattle.media_variables.specs.Held.{held_by, reference_at, IsLiveIn, AreHeld, AreApart, IsFree, MayReceive, StayHeld}
use Rattle.media_accounts.specs.Accounts.{IsNoneOf}

-- ---- lists of variables

pub variables_at : (k : ℕ) (all : List (List (Option Medium))) → variables_of k all ≡ get_or all k []
variables_at k [] = refl
variables_at zero (x ∷ xs) = refl
variables_at (suc k) (x ∷ xs) = variables_at k xs

variables_before : (k : ℕ) (vs : List (Option Medium)) (all : List (List (Option Medium))) → k ≢ length all → variables_of k (all ++ vs ∷ []) ≡ variables_of k all
variables_before zero vs [] other = absurd (other refl)
variables_before (suc k) vs [] other = refl
variables_before zero vs (x ∷ xs) other = refl
variables_before (suc k) vs (x ∷ xs) other = variables_before k vs xs (λ e. other (ap suc e))

-- ---- variables that hold these references

abbrev of_pair : Pair → Reference
of_pair p = record { resource = p.resource; number = p.reference; bytes = [] }

-- of what shape they are is nothing to it
abbrev holder : Pair → Option Medium
holder p = Some (record { shape = SoundOf (record { format = SampleFormat.U8; rate = 0; channels = 0; frames = 0; timestamp = pos 0 }); held = Some (of_pair p) })

abbrev holders : List Pair → List (Option Medium)
holders ps = map holder ps

holds_it : (ps : List Pair) (i : ℕ) → held_by (medium_at (holders ps) i) ≡ option_map of_pair (slice_get ps i)
holds_it [] i = refl
holds_it (p ∷ ps) zero = refl
holds_it (p ∷ ps) (suc i) = holds_it ps i

abbrev pub with_holders : List (List (Option Medium)) → List Pair → List (List (Option Medium))
with_holders all ps = all ++ holders ps ∷ []

at_last : (all : List (List (Option Medium))) (ps : List Pair) (i : ℕ) → reference_at (with_holders all ps) (length all) i ≡ option_map of_pair (slice_get ps i)
at_last [] ps i = holds_it ps i
at_last (x ∷ xs) ps i = at_last xs ps i

at_other : (all : List (List (Option Medium))) (ps : List Pair) (k j : ℕ) → k ≢ length all → reference_at (with_holders all ps) k j ≡ reference_at all k j
at_other all ps k j other = ap (λ (vs : List (Option Medium)). held_by (medium_at vs j)) (variables_before k (holders ps) all other)

-- a variable that holds something is one of a caller
within : (all : List (List (Option Medium))) (k j : ℕ) (r : Reference) → reference_at all k j ≡ Some r → k ≢ length all
within [] k j r is same = absurd cc
within (x ∷ xs) zero j r is same = absurd (omega (arith, same))
within (x ∷ xs) (suc k) j r is same = within xs k j r is (omega (arith, same))

-- which of the references such a variable holds
holds_some : (r : Reference) (o : Option Pair) → option_map of_pair o ≡ Some r → (p : Pair) × (o ≡ Some p) × (of_pair p ≡ r)
holds_some r None is = absurd cc
holds_some r (Some p) is = (p, refl, cc)

-- a reference is one of these, or a caller's
found : (all : List (List (Option Medium))) (ps : List Pair) (k i : ℕ) (r : Reference) → reference_at (with_holders all ps) k i ≡ Some r
    → ((k ≡ length all) × ((p : Pair) × (slice_get ps i ≡ Some p) × (of_pair p ≡ r))) ⊎ (reference_at all k i ≡ Some r)
found all ps k i r is = elim (cases_eq k (length all)) [
  | inl last ↦ inl (last, holds_some r (slice_get ps i) (sym (ap (λ (n : ℕ). reference_at (with_holders all ps) n i) last ∙ at_last all ps i) ∙ is))
  | inr other ↦ inr (sym (at_other all ps k i other) ∙ is)
]

-- ---- both ways

add_holders : (pool : List PoolEntry) (all : List (List (Option Medium))) (ps : List Pair) → AreHeld pool all → AreApart pool all ps → AreHeld pool (with_holders all ps)
add_holders pool all ps h a =
    let number : Reference → ℕ = λ r. r.number in
    record {
      live = λ k j r is. elim (found all ps k j r is) [
        | inl last ↦ subst (λ (x : Reference). resource_of x.number pool ≡ Some x.resource) last.1.2 (a.lives j last.1.0 last.1.1)
        | inr there ↦ h.live k j r there
      ];
      apart = λ k j l i r s one two same. elim (found all ps k j r one) [
        | inl last ↦ elim (found all ps l i s two) [
          | inl last_too ↦ (last.0 ∙ sym last_too.0, a.once j i last.1.0 last_too.1.0 last.1.1 last_too.1.1 (ap number last.1.2 ∙ (same ∙ sym (ap number last_too.1.2))))
          | inr there ↦ absurd (a.elsewhere j l i last.1.0 s last.1.1 there (ap number last.1.2 ∙ same))
        ]
        | inr there ↦ elim (found all ps l i s two) [
          | inl last ↦ absurd (a.elsewhere i k j last.1.0 r last.1.1 there (ap number last.1.2 ∙ sym same))
          | inr there_too ↦ h.apart k j l i r s there there_too same
        ]
      ];
    }

drop_holders : (pool : List PoolEntry) (all : List (List (Option Medium))) (ps : List Pair) → AreHeld pool (with_holders all ps) → AreApart pool all ps
drop_holders pool all ps h =
    let there : (i : ℕ) (p : Pair) → slice_get ps i ≡ Some p → reference_at (with_holders all ps) (length all) i ≡ Some (of_pair p) = λ i p at. at_last all ps i ∙ ap (option_map of_pair) at in
    record {
      lives = λ i p at. h.live (length all) i (of_pair p) (there i p at);
      once = λ i j p q one two same. (h.apart (length all) i (length all) j (of_pair p) (of_pair q) (there i p one) (there j q two) same).1;
      elsewhere = λ i k j p r at held same. (
          let other = within all k j r held in
          other (sym (h.apart (length all) i k j (of_pair p) r (there i p at) (at_other all ps k j other ∙ held) same).0)
          );
    }

-- what may be received stands apart from these references too
free_with : (all : List (List (Option Medium))) (ps : List Pair) (number : ℕ) → IsFree all number → ((i : ℕ) (p : Pair) → slice_get ps i ≡ Some p → p.reference ≢ number) → IsFree (with_holders all ps) number
free_with all ps number free none = record {
  none = λ k j r is same. elim (found all ps k j r is) [
    | inl last ↦ none j last.1.0 last.1.1 (ap (λ (x : Reference). x.number) last.1.2 ∙ same)
    | inr there ↦ free.none k j r there same
  ];
}

held_with : (pool : List PoolEntry) (all : List (List (Option Medium))) (holds : ℕ → List Pair) (k : ℕ) (o : Option Reference) → IfSome o (λ r. IsLiveIn pool r × IsFree all r.number) → IfSome o (λ r. IsNoneOf holds r.number) → IfSome o (λ r. IsLiveIn pool r × IsFree (with_holders all (holds k)) r.number)
held_with pool all holds k None may none = tt
held_with pool all holds k (Some r) may none = (may.0, free_with all (holds k) r.number may.1 (none k))

pub may_with : (pool : List PoolEntry) (all : List (List (Option Medium))) (holds : ℕ → List Pair) (k : ℕ) (o : Option Received) → MayReceive pool all o → IfSome o (λ p. IfSome p.medium.held (λ r. IsNoneOf holds r.number)) → MayReceive pool (with_holders all (holds k)) o
may_with pool all holds k None may none = tt
may_with pool all holds k (Some p) may none = held_with pool all holds k p.medium.held may none

-- references that are apart from all variables stay so, whatever a step on media comes to
pub stay_apart : StayHeld → (pool : List PoolEntry) (who : Who) (all : List (List (Option Medium))) (b : Brought) (x : MediaStep) (y : Came) (ps : List Pair)
    → is_legal_pool pool ≡ true → who.caller < length all → AreHeld pool all → AreApart pool all ps → MayReceive pool (with_holders all ps) b.received → media_came (next_numbers pool) who b x (variables_of who.caller all) ≡ Some y
    → AreApart (pool ++ entries_of pool who y.does) (slice_set all who.caller y.variables) ps
stay_apart stay pool who all b x y ps legal lt h a may comes =
    let more = with_holders all ps in
    let long : length more ≡ length all + 1 = length-append all (holders ps ∷ []) in
    let here : variables_of who.caller more ≡ variables_of who.caller all = variables_before who.caller (holders ps) all (λ e. omega (arith, lt, e)) in
    let comes_too : media_came (next_numbers pool) who b x (variables_of who.caller more) ≡ Some y = ap (media_came (next_numbers pool) who b x) here ∙ comes in
    let kept = stay pool who more b x y legal (omega (arith, lt, long)) (add_holders pool all ps h a) may comes_too in
    drop_holders (pool ++ entries_of pool who y.does) (slice_set all who.caller y.variables) ps
    (subst (λ (l : List (List (Option Medium))). AreHeld (pool ++ entries_of pool who y.does) l) (set-append_left all (holders ps ∷ []) who.caller y.variables lt) kept)
