-- Numbers in rising order, as some come and go.
use Rattle.std.proofs.Common.{ℕ, ◌≡◌, ◌+◌, ◌≤◌, ◌<◌, not, Bool, true, false, eqb, eq-eqb, cond, List, [], ◌∷◌, ◌++◌, filter, refl, ap, arith}
use Rattle.std.proofs.lemmas.Bool.Decides.{nat_tests}
use Rattle.codec_model.specs.declared.entry.{Work.Work}
use Rattle.codec_queues.specs.{Rising.RisesFrom, Rising.IsRising, Sent.promised}

rises_next : (low : ℕ) (ns : List ℕ) (high : ℕ) → RisesFrom low ns high → RisesFrom low ns (high + 1)
rises_next low [] high h = omega (arith, h)
rises_next low (n ∷ ns) high h = (h.0, rises_next (n + 1) ns high h.1)

rises_push : (low : ℕ) (ns : List ℕ) (high : ℕ) → RisesFrom low ns high → RisesFrom low (ns ++ high ∷ []) (high + 1)
rises_push low [] high h = (h, omega arith)
rises_push low (n ∷ ns) high h = (h.0, rises_push (n + 1) ns high h.1)

lower : (low least : ℕ) (ns : List ℕ) (high : ℕ) → low ≤ least → RisesFrom least ns high → RisesFrom low ns high
lower low least [] high less h = omega (arith, less, h)
lower low least (n ∷ ns) high less h = (omega (arith, less, h.0), h.1)

rises_filter : (keeps : ℕ → Bool) (low : ℕ) (ns : List ℕ) (high : ℕ) → RisesFrom low ns high → RisesFrom low (filter keeps ns) high
rises_filter keeps low [] high h = h
rises_filter keeps low (n ∷ ns) high h =
    let rest = rises_filter keeps (n + 1) ns high h.1 in
    elim (keeps n) as (λ b. RisesFrom low (cond b (n ∷ filter keeps ns) (filter keeps ns)) high) [
      | true ↦ (h.0, rest)
      | false ↦ lower low (n + 1) (filter keeps ns) high (omega (arith, h.0)) rest
    ]

-- a number below all others is not among them
not_there : (p low : ℕ) (ns : List ℕ) (high : ℕ) → p < low → RisesFrom low ns high → filter (λ n. not (eqb n p)) ns ≡ ns
not_there p low [] high less h = refl
not_there p low (n ∷ ns) high less h =
    let apart : eqb n p ≡ false = grind (arith, nat_tests, less, h.0) in
    let more : p < n + 1 = omega (arith, less, h.0) in
    rw apart (ap (λ (l : List ℕ). n ∷ l) (not_there p (n + 1) ns high more h.1))

-- the first one goes, and all others stay
first_gone : (p low : ℕ) (ns : List ℕ) (high : ℕ) → RisesFrom low (p ∷ ns) high → filter (λ n. not (eqb n p)) (p ∷ ns) ≡ ns
first_gone p low ns high h = rw (eq-eqb p p refl) (not_there p (p + 1) ns high (omega arith) h.1)

-- ---- what the queue of promises needs

pub none_rise : (high : ℕ) → IsRising [] high
none_rise high = record { rises = omega arith }

pub rising_next : (ns : List ℕ) (high : ℕ) → IsRising ns high → IsRising ns (high + 1)
rising_next ns high h = record { rises = rises_next 0 ns high h.rises }

pub rising_push : (ns : List ℕ) (high : ℕ) → IsRising ns high → IsRising (ns ++ high ∷ []) (high + 1)
rising_push ns high h = record { rises = rises_push 0 ns high h.rises }

-- a promise that a message adds is the last
pub rising_promised : (w : Work) (ns : List ℕ) (high : ℕ) → IsRising ns high → IsRising (promised w high ns) (high + 1)
rising_promised Work.Flush ns high h = rising_push ns high h
rising_promised w ns high h = rising_next ns high h

pub rising_filter : (p : ℕ) (ns : List ℕ) (high : ℕ) → IsRising ns high → IsRising (filter (λ n. not (eqb n p)) ns) high
rising_filter p ns high h = record { rises = rises_filter (λ n. not (eqb n p)) 0 ns high h.rises }

pub first_goes : (p : ℕ) (ns rest : List ℕ) (high : ℕ) → IsRising ns high → ns ≡ p ∷ rest → filter (λ n. not (eqb n p)) ns ≡ rest
first_goes p ns rest high h is = rw is (first_gone p 0 rest high (rw is at h.rises))
