-- Planes that do not meet, copied one after another.
use Rattle.std.proofs.Common.{ℕ, ◌≡◌, ◌≤◌, ◌<◌, ◌*◌, ◌^◌, true, false, cond, List, [], ◌∷◌, ◌++◌, length, get_or, refl, ap, sym, ◌∙◌, arith, max, min, inl, inr}
use Rattle.std.specs.Prelude.{◌&&◌, ◌||◌, not, nat_le, nat_lt}
use Rattle.std.specs.List.{list_any, list_all}
use Rattle.std.proofs.lemmas.Bool.{ltb-false, leb-true, not-true, and_parts, or_parts, cases_Bool, cond-true, cond-false, false_from_ne_true}
use Rattle.std.proofs.lemmas.List.FromFn.{length-map-range_with_len, get_or-map-range_with_len}
use Rattle.wc_video.specs.declared.layout.PlaneCopy.{PlaneCopy}
use Rattle.wc_video.specs.Layouts.{is_fit, end_of, meets, are_apart}
use Rattle.wc_video.specs.Copies.{is_written, source_of, byte_after, copy_of}
use Rattle.wc_video.proofs.PlanLaws.{meets_test}
use Rattle.wc_video.proofs.RowLaws.{by_bytes, reach_within}

-- no byte is written by both
pub record AreClear (c d : PlaneCopy) : Type 0 where
  pub clear : (j : ℕ) → is_written c j ≡ true → is_written d j ≡ true → ⊥

abbrev AllClear : List PlaneCopy → PlaneCopy → Type 0
AllClear [] d = Unit {0}
AllClear (c ∷ cs) d = AreClear c d × AllClear cs d

row_fits : (c : PlaneCopy) → is_fit c ≡ true → c.row ≤ c.layout.stride
row_fits c h = leb-true c.row c.layout.stride (and_parts (nat_le c.row c.layout.stride) (nat_lt (end_of c) (2 ^ 32)) h).0

pub apart_clear : (c d : PlaneCopy) → is_fit c ≡ true → is_fit d ≡ true → meets c d ≡ false → AreClear c d
apart_clear c d fit_c fit_d apart = record {
  clear = λ j in_c in_d.
      let a = reach_within c.layout.offset c.layout.stride c.rows c.row j (row_fits c fit_c) in_c in
      let b = reach_within d.layout.offset d.layout.stride d.rows d.row j (row_fits d fit_d) in_d in
      let none = ltb-false (max c.layout.offset d.layout.offset) (min (end_of c) (end_of d)) (meets_test c.layout.offset (c.layout.stride * c.rows) d.layout.offset (end_of d) ∙ apart) in
      let low_c = a.0 in
      let high_c = a.1 in
      let low_d = b.0 in
      let high_d = b.1 in
      omega (arith, low_c, high_c, low_d, high_d, none);
}

-- one plane more, of which no byte was written before
one_byte : (cs : List PlaneCopy) (d : PlaneCopy) (bytes old : List ℕ) (j : ℕ) → AllClear cs d → cond (is_written d j) (get_or bytes (source_of d j) 0) (byte_after cs bytes old j) ≡ byte_after (cs ++ d ∷ []) bytes old j
one_byte [] d bytes old j clear = refl
one_byte (c ∷ cs) d bytes old j clear = elim (cases_Bool (is_written c j)) [
  | inl first ↦
      let other : is_written d j ≡ false = false_from_ne_true (is_written d j) (λ h. clear.0.clear j first h) in
      cond-false (is_written d j) (get_or bytes (source_of d j) 0) (byte_after (c ∷ cs) bytes old j) other
      ∙ (cond-true (is_written c j) (get_or bytes (source_of c j) 0) (byte_after cs bytes old j) first
      ∙ sym (cond-true (is_written c j) (get_or bytes (source_of c j) 0) (byte_after (cs ++ d ∷ []) bytes old j) first))
  | inr not_first ↦
      ap (cond (is_written d j) (get_or bytes (source_of d j) 0)) (cond-false (is_written c j) (get_or bytes (source_of c j) 0) (byte_after cs bytes old j) not_first)
      ∙ (one_byte cs d bytes old j clear.1
      ∙ sym (cond-false (is_written c j) (get_or bytes (source_of c j) 0) (byte_after (cs ++ d ∷ []) bytes old j) not_first))
]

pub one_more : (cs : List PlaneCopy) (d : PlaneCopy) (bytes old : List ℕ) → AllClear cs d → copy_of (d ∷ []) bytes (copy_of cs bytes old) ≡ copy_of (cs ++ d ∷ []) bytes old
one_more cs d bytes old clear =
    let long = length-map-range_with_len (byte_after cs bytes old) 0 (length old) in
    let long_2 = length-map-range_with_len (byte_after (d ∷ []) bytes (copy_of cs bytes old)) 0 (length (copy_of cs bytes old)) in
    by_bytes (byte_after (cs ++ d ∷ []) bytes old) old (copy_of (d ∷ []) bytes (copy_of cs bytes old)) (long_2 ∙ long) (λ j below.
    let within : j < length old = omega (arith, below, long, long_2) in
    get_or-map-range_with_len (byte_after (d ∷ []) bytes (copy_of cs bytes old)) 0 (length (copy_of cs bytes old)) j j 0 (omega (arith, within, long)) (omega arith)
    ∙ (ap (cond (is_written d j) (get_or bytes (source_of d j) 0)) (get_or-map-range_with_len (byte_after cs bytes old) 0 (length old) j j 0 within (omega arith))
    ∙ one_byte cs d bytes old j clear))

two_apart : (c d : PlaneCopy) (cs : List PlaneCopy) → are_apart (c ∷ d ∷ cs) ≡ true → meets c d ≡ false
two_apart c d cs h = (or_parts (meets c d) (list_any (meets c) cs) (not-true (list_any (meets c) (d ∷ cs)) (and_parts (not (list_any (meets c) (d ∷ cs))) (are_apart (d ∷ cs)) h).0)).0

last_apart : (c d e : PlaneCopy) → are_apart (c ∷ d ∷ e ∷ []) ≡ true → (meets c e ≡ false) × (meets d e ≡ false)
last_apart c d e h =
    let parts = and_parts (not (list_any (meets c) (d ∷ e ∷ []))) (are_apart (d ∷ e ∷ [])) h in
    let first = or_parts (meets c d) (meets c e || false) (not-true (meets c d || (meets c e || false)) parts.0) in
    ((or_parts (meets c e) false first.1).0, two_apart d e [] parts.1)

two_fit : (c d : PlaneCopy) (cs : List PlaneCopy) → list_all is_fit (c ∷ d ∷ cs) ≡ true → (is_fit c ≡ true) × (is_fit d ≡ true) × (list_all is_fit cs ≡ true)
two_fit c d cs h =
    let one = and_parts (is_fit c) (is_fit d && list_all is_fit cs) h in
    let two = and_parts (is_fit d) (list_all is_fit cs) one.1 in
    (one.0, two.0, two.1)

pub two_planes : (c d : PlaneCopy) (cs : List PlaneCopy) (bytes old one two : List ℕ) → list_all is_fit (c ∷ d ∷ cs) ≡ true → are_apart (c ∷ d ∷ cs) ≡ true → one ≡ copy_of (c ∷ []) bytes old → two ≡ copy_of (d ∷ []) bytes one → two ≡ copy_of (c ∷ d ∷ []) bytes old
two_planes c d cs bytes old one two fits apart is_one is_two =
    let (fit_c, fit_d, rest) = two_fit c d cs fits in
    is_two ∙ (ap (copy_of (d ∷ []) bytes) is_one ∙ one_more (c ∷ []) d bytes old (apart_clear c d fit_c fit_d (two_apart c d cs apart), tt))

pub three_planes : (c d e : PlaneCopy) (bytes old one two three : List ℕ) → list_all is_fit (c ∷ d ∷ e ∷ []) ≡ true → are_apart (c ∷ d ∷ e ∷ []) ≡ true → one ≡ copy_of (c ∷ []) bytes old → two ≡ copy_of (d ∷ []) bytes one → three ≡ copy_of (e ∷ []) bytes two → three ≡ copy_of (c ∷ d ∷ e ∷ []) bytes old
three_planes c d e bytes old one two three fits apart is_one is_two is_three =
    let (fit_c, fit_d, rest) = two_fit c d (e ∷ []) fits in
    let fit_e = (and_parts (is_fit e) true rest).0 in
    let last = last_apart c d e apart in
    let before = two_planes c d (e ∷ []) bytes old one two fits apart is_one is_two in
    is_three ∙ (ap (copy_of (e ∷ []) bytes) before ∙ one_more (c ∷ d ∷ []) e bytes old (apart_clear c e fit_c fit_e last.0, (apart_clear d e fit_d fit_e last.1, tt)))
