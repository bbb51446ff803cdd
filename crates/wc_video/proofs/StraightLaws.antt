-- Planes one after another, copied in one piece.
use Rattle.std.proofs.Common.{ℕ, zero, suc, ◌≡◌, ◌≤◌, ◌<◌, ◌*◌, ◌+◌, ◌-◌, ◌/◌, ◌%◌, ◌==◌, true, false, List, [], ◌∷◌, length, take, drop, get_or, refl, ap, sym, ◌∙◌, arith, inl, inr}
use Rattle.std.specs.Prelude.{◌&&◌, Option, Some, None, IfSome}
use Rattle.std.proofs.lemmas.Bool.{eqb-true, and_parts, cases_lt, cond-true, cond-false, false_from_ne_true}
use Rattle.std.proofs.lemmas.List.{length-take-le}
use Rattle.std.proofs.lemmas.List.{get_or-take}
use Rattle.std.proofs.lemmas.Nat.{mod_below, div_below}
use Rattle.std.proofs.Math.Nat.{div-add-mod, mul_comm}
use borrow.Rule.Slice.PartMut.{put_mid}
use Rattle.picture_planes.specs.Planes.{maybe_one}
use Rattle.wc_video.specs.declared.layout.PlaneCopy.{PlaneCopy}
use Rattle.wc_video.specs.declared.layout.Plan.{Plan}
use Rattle.wc_video.specs.Layouts.{end_of, size_of, copies_in}
use Rattle.wc_video.specs.Copies.{is_written, source_of, byte_after, copy_of, follows, is_straight, IsThere, IsLaid}
use Rattle.wc_video.proofs.RowLaws.{by_bytes, in_part, beside_part, long_part, reach_from, reach_within, piece_there}

-- what a straight plane has
record Follows (c : PlaneCopy) (at : ℕ) : Type 0 where
  tight : c.row ≡ c.step
  whole : c.row ≡ c.layout.stride
  from : c.from ≡ at
  to : c.layout.offset ≡ at

follow_parts : (c : PlaneCopy) (at : ℕ) → follows c at ≡ true → Follows c at
follow_parts c at h =
    let three = and_parts ((c.row == c.step) && (c.row == c.layout.stride) && (c.from == at)) (c.layout.offset == at) h in
    let two = and_parts ((c.row == c.step) && (c.row == c.layout.stride)) (c.from == at) three.0 in
    let one = and_parts (c.row == c.step) (c.row == c.layout.stride) two.0 in
    record {
      tight = eqb-true c.row c.step one.0;
      whole = eqb-true c.row c.layout.stride one.1;
      from = eqb-true c.from at two.1;
      to = eqb-true c.layout.offset at three.1;
    }

abbrev ends : ℕ → List PlaneCopy → ℕ
ends at [] = at
ends at (c ∷ cs) = ends (end_of c) cs

grows : (at : ℕ) (cs : List PlaneCopy) → is_straight at cs ≡ true → at ≤ ends at cs
grows at [] h = omega arith
grows at (c ∷ cs) h =
    let parts = and_parts (follows c at) (is_straight (end_of c) cs) h in
    let f = follow_parts c at parts.0 in
    let begins = f.to in
    let rest = grows (end_of c) cs parts.1 in
    omega (arith, begins, rest)

-- each byte of a straight plane keeps its place
own_place : (c : PlaneCopy) (at j : ℕ) → Follows c at → c.layout.offset ≤ j → j < end_of c → (is_written c j ≡ true) × (source_of c j ≡ j)
own_place c at j f low high =
    let o : ℕ = c.layout.offset in
    let s : ℕ = c.layout.stride in
    let place : j - o < c.rows * s = omega (arith, low, high, mul_comm s c.rows) in
    let positive : 0 < s = some s c.rows (j - o) place in
    let whole = f.whole in
    let row : (j - o) / s < c.rows = div_below (j - o) s c.rows positive place in
    let column : (j - o) % s < c.row = omega (arith, mod_below (j - o) s positive, whole) in
    let steps : c.step * ((j - o) / s) ≡ s * ((j - o) / s) = ap (λ (k : ℕ). k * ((j - o) / s)) (sym f.tight ∙ whole) in
    let from = f.from in
    let to = f.to in
    (reach_from o s c.rows c.row j low row column, omega (arith, steps, div-add-mod (j - o) s, from, to, low))
  where
    some : (s n x : ℕ) → x < n * s → 0 < s
    some zero n x h = absurd (omega (arith, h))
    some (suc s) n x h = omega arith

not_its : (c : PlaneCopy) (at j : ℕ) → Follows c at → (c.layout.offset ≤ j → j < end_of c → ⊥) → is_written c j ≡ false
not_its c at j f out = false_from_ne_true (is_written c j) (λ h.
    let whole = f.whole in
    let (low, high) = reach_within c.layout.offset c.layout.stride c.rows c.row j (omega (arith, whole)) h in out low high)

-- the bytes of straight planes, and those beside them
inside : (at : ℕ) (cs : List PlaneCopy) (bytes old : List ℕ) (j : ℕ) → is_straight at cs ≡ true → at ≤ j → j < ends at cs → byte_after cs bytes old j ≡ get_or bytes j 0
inside at [] bytes old j h low high = absurd (omega (arith, low, high))
inside at (c ∷ cs) bytes old j h low high =
    let parts = and_parts (follows c at) (is_straight (end_of c) cs) h in
    let f = follow_parts c at parts.0 in
    let to = f.to in
    elim (cases_lt j (end_of c)) [
      | inl here ↦ let (written, place) = own_place c at j f (omega (arith, to, low)) here in
          cond-true (is_written c j) (get_or bytes (source_of c j) 0) (byte_after cs bytes old j) written ∙ ap (λ (k : ℕ). get_or bytes k 0) place
      | inr later ↦ cond-false (is_written c j) (get_or bytes (source_of c j) 0) (byte_after cs bytes old j) (not_its c at j f (λ a b. omega (arith, b, later))) ∙ inside (end_of c) cs bytes old j parts.1 later high
    ]

outside : (at : ℕ) (cs : List PlaneCopy) (bytes old : List ℕ) (j : ℕ) → is_straight at cs ≡ true → (at ≤ j → j < ends at cs → ⊥) → byte_after cs bytes old j ≡ get_or old j 0
outside at [] bytes old j h out = refl
outside at (c ∷ cs) bytes old j h out =
    let parts = and_parts (follows c at) (is_straight (end_of c) cs) h in
    let f = follow_parts c at parts.0 in
    let to = f.to in
    let more = grows (end_of c) cs parts.1 in
    cond-false (is_written c j) (get_or bytes (source_of c j) 0) (byte_after cs bytes old j) (not_its c at j f (λ a b. out (omega (arith, a, to)) (omega (arith, b, more))))
    ∙ outside (end_of c) cs bytes old j parts.1 (λ a b. out (omega (arith, a, to)) b)

-- they end where the last one does
last_end : (at : ℕ) (c : PlaneCopy) (cs : List PlaneCopy) → is_straight at (c ∷ cs) ≡ true → size_of (c ∷ cs) ≡ ends at (c ∷ cs)
last_end at c [] h = omega arith
last_end at c (d ∷ cs) h =
    let parts = and_parts (follows c at) (is_straight (end_of c) (d ∷ cs)) h in
    let rest = last_end (end_of c) d cs parts.1 in
    let more = grows (end_of c) (d ∷ cs) parts.1 in
    omega (arith, rest, more)

pub straight_piece : (p : Plan) (bytes to piece : List ℕ) (n len m : ℕ) → is_straight 0 (copies_in p) ≡ true → n ≡ size_of (copies_in p) → len ≡ n → m ≡ n → size_of (copies_in p) ≤ length bytes → size_of (copies_in p) ≤ length to → piece ≡ take m (drop 0 bytes) → put_mid 0 len to piece ≡ copy_of (copies_in p) bytes to
straight_piece p bytes to piece n len m h is_n is_len is_m there room is =
    let cs : List PlaneCopy = copies_in p in
    let last : size_of cs ≡ ends 0 cs = last_end 0 p.first (p.second ∷ maybe_one p.third) h in
    let long : length piece ≡ len = ap length is ∙ (length-take-le m bytes (omega (arith, there, is_m, is_n)) ∙ (is_m ∙ sym is_len)) in
    let fits : 0 + len ≤ length to = omega (arith, room, is_len, is_n) in
    by_bytes (byte_after cs bytes to) to (put_mid 0 len to piece) (long_part 0 len to piece long fits) (λ j below. elim (cases_lt j len) [
      | inl here ↦
          in_part 0 len to piece j long fits (omega arith) (omega (arith, here))
          ∙ (ap (λ (k : ℕ). get_or piece k 0) (let e : j - 0 ≡ j = omega arith in e) ∙ (ap (λ (l : List ℕ). get_or l j 0) is ∙ (get_or-take m bytes j 0 (omega (arith, here, is_m, is_len))
          ∙ sym (inside 0 cs bytes to j h (omega arith) (omega (arith, here, is_len, is_n, last))))))
      | inr later ↦
          beside_part 0 len to piece j long fits (λ a b. omega (arith, b, later)) ∙ sym (outside 0 cs bytes to j h (λ a b. omega (arith, b, later, is_len, is_n, last)))
    ])

-- straight planes that are there
end_there : (at count : ℕ) (c : PlaneCopy) → Follows c at → IsThere count c → end_of c ≤ count
end_there at count c f t =
    let whole = piece_there c count f.tight t in
    let size : c.row * c.rows ≡ c.layout.stride * c.rows = ap (λ (k : ℕ). k * c.rows) f.whole in
    let from = f.from in
    let to = f.to in
    omega (arith, whole, size, from, to)

third_there : (at count : ℕ) (third : Option PlaneCopy) → IfSome third (IsThere count) → is_straight at (maybe_one third) ≡ true → size_of (maybe_one third) ≤ count
third_there at count None t h = omega arith
third_there at count (Some c) t h =
    let parts = and_parts (follows c at) true h in
    let e = end_there at count c (follow_parts c at parts.0) t in
    omega (arith, e)

pub straight_there : (count : ℕ) (p : Plan) → IsLaid count p → is_straight 0 (copies_in p) ≡ true → size_of (copies_in p) ≤ count
straight_there count p laid h =
    let first = and_parts (follows p.first 0) (is_straight (end_of p.first) (p.second ∷ maybe_one p.third)) h in
    let second = and_parts (follows p.second (end_of p.first)) (is_straight (end_of p.second) (maybe_one p.third)) first.1 in
    let a = end_there 0 count p.first (follow_parts p.first 0 first.0) laid.first in
    let b = end_there (end_of p.first) count p.second (follow_parts p.second (end_of p.first) second.0) laid.second in
    let c = third_there (end_of p.second) count p.third laid.third second.1 in
    omega (arith, a, b, c)
