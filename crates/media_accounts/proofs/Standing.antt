-- What stands of all callers' media.
use Rattle.std.proofs.Common.{ℕ, zero, suc, ◌≡◌, ◌≢◌, ◌<◌, true, List, [], ◌∷◌, ◌++◌, length, map, Option, Some, None, refl, ap, sym, ◌∙◌, arith}
use Rattle.std.specs.Prelude.{slice_get, slice_set, option_and_then}
use Rattle.std.proofs.lemmas.List.{append-nil, get_or-set_same, get_or-set_other, length-map, length-set}
use Rattle.script_types.specs.declared.{script.CallerItem.CallerItem, steps.MediaStep.MediaStep, steps.Step.Step}
use Rattle.wc_base.specs.declared.who.{Who.Who}
use Rattle.wc_pool.specs.{Bag.is_legal_from, declared.entry.PoolEntry.PoolEntry}
use Rattle.media_variables.specs.Variables.{Medium, Media, Numbers, Came, Brought, next_numbers, media_came, entries_of, variables_of}
use Rattle.media_variables.specs.Held.{AreHeld, StayHeld, DoLegally}
use Rattle.media_accounts.specs.Accounts.{step_by, ops_by, numbers_of, media_of, done_by, variables_by, came_on, came_in, variables_in, Lending, AreLent, OneMore, MediaStand, NothingStands, StepsStand, OthersStand, LaterStand}
use Rattle.media_accounts.proofs.{Pools.by_one, Pools.of_same, Lent.variables_at, Lent.stay_apart, Lent.may_with}
use Rattle.media_accounts.proofs.Steps.{ComesToo, variables_stay, came_stays, comes_there, came_before, came_now, variables_now, variables_others, grown}

-- ---- lists of variables

none_there : (callers : List CallerItem) (c : ℕ) → variables_of c (map (λ x. []) callers) ≡ []
none_there [] c = refl
none_there (x ∷ xs) zero = refl
none_there (x ∷ xs) (suc c) = none_there xs c

-- ---- before any step

pub nothing_stands : NothingStands
nothing_stands steps brought callers = record {
  accounted = record {
    legal = refl;
    own = λ c. refl;
    codecs = λ k place. refl;
  };
  variables = λ c. none_there callers c;
  held = record {
    live = λ k j r is. absurd (let bad : None ≡ Some r = rw (none_there callers k) at is in cc);
    apart = λ k j l i r q is its same. absurd (let bad : None ≡ Some r = rw (none_there callers k) at is in cc);
  };
  lent = record {
    apart = λ k. record {
      lives = λ i p at. absurd cc;
      once = λ i j p q at there same. absurd cc;
      elsewhere = λ i l j p r at there. absurd cc;
    };
    between = λ k l i j p q other at there. absurd cc;
  };
  there = length-map callers (λ x. []);
}

-- ---- a step

-- One step more, which comes to this, leaves the pool's history with its entry, and these variables.
module _ (steps : ℕ → List Step) (brought : ℕ → ℕ → MediaStep → Brought) (codecs : Lending) (made more : ℕ → ℕ) (callers : ℕ) (m : Media) (c : ℕ) (st : MediaStand steps brought codecs made callers m) (one : OneMore made more c) (o : Option Came) where
  abbrev longer : List PoolEntry
  longer = m.pool ++ entries_of m.pool (step_by c (made c)) (done_by o)

  stands_after : (us : List (List (Option Medium))) → came_on steps brought longer c (made c) (variables_in steps brought m.pool c (made c)) ≡ o
      → is_legal_from m.pool (entries_of m.pool (step_by c (made c)) (done_by o)) ≡ true
      → variables_of c us ≡ variables_by o (variables_of c m.variables) → ((d : ℕ) → d ≢ c → variables_of d us ≡ variables_of d m.variables)
      → AreHeld longer us → AreLent longer us codecs.holds → length us ≡ length m.variables → MediaStand steps brought codecs more callers (record { variables = us; pool = longer })
  stands_after us comes legal here others held lent long = record {
    accounted = grown steps brought codecs.lends made more m.pool c st.accounted one o comes legal;
    variables = by_one (λ d. variables_of d us ≡ variables_in steps brought longer d (more d)) c
        (here ∙ (ap (variables_by o) (st.variables c) ∙ sym (variables_now steps brought codecs.lends made more m.pool c st.accounted one o comes)))
        (λ d other. others d other ∙ (st.variables d ∙ sym (variables_others steps brought codecs.lends made more m.pool c st.accounted one o d other)));
    held = held;
    lent = lent;
    there = long ∙ st.there;
  }

pub step_stands : StayHeld → DoLegally → StepsStand
step_stands stay legally steps brought codecs made more callers m c x y st lt one is may comes =
    let who = step_by c (made c) in
    let vs = variables_in steps brought m.pool c (made c) in
    let there : c < length m.variables = (let n = st.there in omega (arith, lt, n)) in
    let same : media_came (next_numbers m.pool) who (brought c (made c) x) x vs ≡ Some y = ap (media_came (next_numbers m.pool) who (brought c (made c) x) x) (sym (st.variables c)) ∙ comes in
    let longer = m.pool ++ entries_of m.pool who y.does in
    let came : came_on steps brought longer c (made c) vs ≡ Some y =
    ap (λ (o : Option Step). option_and_then (λ (z : MediaStep). media_came (numbers_of (ops_by c (made c) longer)) who (brought c (made c) z) z vs) (option_and_then media_of o)) is
    ∙ comes_there steps brought codecs.lends made more m.pool c st.accounted one x y vs same in
    record {
      stands = stands_after steps brought codecs made more callers m c st one (Some y) (slice_set m.variables c y.variables) came
          (legally m.pool who m.variables (brought c (made c) x) x y st.accounted.legal there st.held comes)
          (variables_at c (slice_set m.variables c y.variables) ∙ get_or-set_same m.variables c y.variables [] there)
          (λ d other. variables_at d (slice_set m.variables c y.variables) ∙ (get_or-set_other m.variables c d y.variables [] other ∙ sym (variables_at d m.variables)))
          (stay m.pool who m.variables (brought c (made c) x) x y st.accounted.legal there st.held may.0 comes)
          (record {
            apart = λ k. stay_apart stay m.pool who m.variables (brought c (made c) x) x y (codecs.holds k) st.accounted.legal there st.held (st.lent.apart k) (may_with m.pool m.variables codecs.holds k (brought c (made c) x).received may.0 may.1) comes;
            between = st.lent.between;
          })
          (length-set m.variables c y.variables);
      here = came_now steps brought codecs.lends made more m.pool c st.accounted one (Some y) came;
      earlier = came_before steps brought codecs.lends made more m.pool c st.accounted one (Some y);
    }

-- what a step that comes to nothing comes to
came_none : (n : Numbers) (who : Who) (brings : MediaStep → Brought) (o : Option MediaStep) (vs : List (Option Medium)) → ((x : MediaStep) → o ≡ Some x → media_came n who (brings x) x vs ≡ None)
    → option_and_then (λ (x : MediaStep). media_came n who (brings x) x vs) o ≡ None
came_none n who brings None vs quiet = refl
came_none n who brings (Some x) vs quiet = quiet x refl

pub other_stands : OthersStand
other_stands steps brought codecs made more callers m c st one quiet =
    let vs = variables_in steps brought m.pool c (made c) in
    let n = numbers_of (ops_by c (made c) (m.pool ++ [])) in
    let held : AreHeld (m.pool ++ []) m.variables = rw append-nil st.held in
    let lent : AreLent (m.pool ++ []) m.variables codecs.holds = rw append-nil st.lent in
    rw append-nil at (stands_after steps brought codecs made more callers m c st one None m.variables
    (came_none n (step_by c (made c)) (brought c (made c)) (option_and_then media_of (slice_get (steps c) (made c))) vs (λ x is. quiet x n vs is)) refl refl (λ d other. refl) held lent refl)

-- ---- more is brought

-- what a step comes to is the same where the same is brought to it
came_too : (n : Numbers) (who : Who) (vs : List (Option Medium)) (later brings : MediaStep → Brought) (o : Option MediaStep) → ((x : MediaStep) → later x ≡ brings x)
    → option_and_then (λ (x : MediaStep). media_came n who (later x) x vs) o ≡ option_and_then (λ (x : MediaStep). media_came n who (brings x) x vs) o
came_too n who vs later brings None same = refl
came_too n who vs later brings (Some x) same = ap (λ (b : Brought). media_came n who b x vs) (same x)

pub later_stand : LaterStand
later_stand steps brought later codecs made callers m st too =
    let comes : (c j : ℕ) → j < made c → ComesToo steps brought later m.pool m.pool c j =
    λ c j lt vs. came_too (numbers_of (ops_by c j m.pool)) (step_by c j) vs (later c j) (brought c j) (option_and_then media_of (slice_get (steps c) j)) (λ x. too c j x lt) in
    let same : (c j : ℕ) → j < made c → came_in steps later m.pool c j ≡ came_in steps brought m.pool c j =
    λ c j lt. came_stays steps brought later m.pool m.pool c j (λ i le. comes c i (omega (arith, lt, le))) in
    record {
      stands = record {
        accounted = record {
          legal = st.accounted.legal;
          own = λ c. st.accounted.own c ∙ of_same (came_in steps brought m.pool c) (came_in steps later m.pool c) (made c) (λ j lt. sym (same c j lt));
          codecs = st.accounted.codecs;
        };
        variables = λ c. st.variables c ∙ sym (variables_stay steps brought later m.pool m.pool c (made c) (λ i lt. comes c i lt));
        held = st.held;
        lent = st.lent;
        there = st.there;
      };
      same = same;
    }
