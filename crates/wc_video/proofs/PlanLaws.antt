-- What the planes of a copy have.
use Rattle.std.proofs.Common.{ℕ, zero, suc, ◌≡◌, ◌≤◌, ◌<◌, ◌*◌, ◌+◌, ◌-◌, ◌/◌, ◌%◌, ◌==◌, get_or, Bool, true, false, List, [], ◌∷◌, length, refl, ap, sym, ◌∙◌, arith, inl, inr, max, min}
use Rattle.std.specs.Prelude.{◌&&◌, ◌||◌, not, nat_le, nat_lt, Option, Some, None, unwrap_or}
use Rattle.std.specs.List.{range_with_len, list_any, list_all}
use Rattle.std.proofs.lemmas.Bool.{eqb-true, ltb-true, leb-true, cases_lt, lt-ltb, le-ltb, le-leb, and_parts, and_from, or_cases, or_left, or_right, false_from_ne_true}
use Rattle.std.proofs.lemmas.Nat.{mul-le}
use Rattle.std.proofs.Math.Nat.{mul-le-mul_left}
use Rattle.wc_base.specs.declared.media.PictureShape.{PictureShape}
use Rattle.picture_planes.specs.declared.plane.Plane.{Plane}
use Rattle.picture_planes.specs.declared.plane.Plane.TheVariants as plane
use Rattle.picture_planes.specs.declared.plane.Planes.{Planes}
use Rattle.picture_planes.specs.Planes.{across, down, sample_size, row_of, rows_of, plane_size, planes_of, planes_in, picture_size, sizes_of, maybe_one}
use Rattle.wc_video.specs.declared.layout.Rect.{Rect}
use Rattle.wc_video.specs.declared.layout.PlaneLayout.{PlaneLayout}
use Rattle.wc_video.specs.declared.layout.PlaneCopy.{PlaneCopy}
use Rattle.wc_video.specs.declared.layout.Placement.{Placement}
use Rattle.wc_video.specs.Layouts.{begins_on, is_rect_of, plane_copy, is_fit, tight_from, layout_of, third_at, layouts_at}
use Rattle.wc_video.specs.Copies.{IsThere}

same_tests : (a b : Bool) → (a ≡ true → b ≡ true) → (b ≡ true → a ≡ true) → a ≡ b
same_tests true b f g = sym (f refl)
same_tests false b f g = sym (false_from_ne_true b (λ e. let h : false ≡ true = g e in cc))

-- two ranges share a byte where the greater start lies before the lesser end
pub meets_test : (a n b e : ℕ) → nat_lt (max a b) (min (a + n) e) ≡ list_any (λ j. nat_le b j && nat_lt j e) (range_with_len a n)
meets_test a zero b e = le-ltb (max a b) (min (a + zero) e) (omega arith)
meets_test a (suc n) b e =
    let rest = meets_test (a + 1) n b e in
    same_tests (nat_lt (max a b) (min (a + suc n) e)) ((nat_le b a && nat_lt a e) || list_any (λ j. nat_le b j && nat_lt j e) (range_with_len (a + 1) n))
    (λ h. let below = ltb-true (max a b) (min (a + suc n) e) h in
    elim (cases_lt a b) [
      | inl later ↦ or_right (nat_le b a && nat_lt a e) (list_any (λ j. nat_le b j && nat_lt j e) (range_with_len (a + 1) n)) (sym rest ∙ lt-ltb (max (a + 1) b) (min (a + 1 + n) e) (omega (arith, below, later)))
      | inr here ↦ or_left (nat_le b a && nat_lt a e) (list_any (λ j. nat_le b j && nat_lt j e) (range_with_len (a + 1) n)) (and_from (nat_le b a) (nat_lt a e) (le-leb b a here) (lt-ltb a e (omega (arith, below))))
    ])
    (λ h. elim (or_cases (nat_le b a && nat_lt a e) (list_any (λ j. nat_le b j && nat_lt j e) (range_with_len (a + 1) n)) h) [
      | inl first ↦ let two = and_parts (nat_le b a) (nat_lt a e) first in
          let low = leb-true b a two.0 in
          let high = ltb-true a e two.1 in
          lt-ltb (max a b) (min (a + suc n) e) (omega (arith, low, high))
      | inr later ↦ let below = ltb-true (max (a + 1) b) (min (a + 1 + n) e) (rest ∙ later) in
          lt-ltb (max a b) (min (a + suc n) e) (omega (arith, below))
    ])

pub meets_so : (a n b e low high : ℕ) → low ≡ max a b → high ≡ min (a + n) e → nat_lt low high ≡ list_any (λ j. nat_le b j && nat_lt j e) (range_with_len a n)
meets_so a n b e low high is_low is_high = ap (λ (k : ℕ). nat_lt k high) is_low ∙ (ap (nat_lt (max a b)) is_high ∙ meets_test a n b e)

-- what is known of a rect
pub record IsInside (shape : PictureShape) (r : Rect) : Type 0 where
  pub wide : 1 ≤ r.width
  pub high : 1 ≤ r.height
  pub right : r.x + r.width ≤ shape.width
  pub below : r.y + r.height ≤ shape.height
  pub begins : list_all (begins_on r) (planes_of shape.format) ≡ true

some_of : (n : ℕ) → not (n == 0) ≡ true → 1 ≤ n
some_of zero h = let e : false ≡ true = h in absurd cc
some_of (suc n) h = omega arith

pub inside : (shape : PictureShape) (r : Rect) → is_rect_of shape r ≡ true → IsInside shape r
inside shape r h =
    let five = and_parts (not (r.width == 0) && not (r.height == 0) && nat_le (r.x + r.width) shape.width && nat_le (r.y + r.height) shape.height) (list_all (begins_on r) (planes_of shape.format)) h in
    let four = and_parts (not (r.width == 0) && not (r.height == 0) && nat_le (r.x + r.width) shape.width) (nat_le (r.y + r.height) shape.height) five.0 in
    let three = and_parts (not (r.width == 0) && not (r.height == 0)) (nat_le (r.x + r.width) shape.width) four.0 in
    let two = and_parts (not (r.width == 0)) (not (r.height == 0)) three.0 in
    record {
      wide = some_of r.width two.0;
      high = some_of r.height two.1;
      right = leb-true (r.x + r.width) shape.width three.1;
      below = leb-true (r.y + r.height) shape.height four.1;
      begins = five.1;
    }

-- rows and columns of a plane
pub rows_more : (p : Plane) (y h all : ℕ) → y % down p ≡ 0 → y + h ≤ all → y / down p + rows_of p h ≤ rows_of p all
rows_more plane.Whole y h all e room = omega (arith, e, room)
rows_more plane.HalfAcross y h all e room = omega (arith, e, room)
rows_more plane.Quarter y h all e room = omega (arith, e, room)
rows_more plane.Pairs y h all e room = omega (arith, e, room)

pub columns_more : (p : Plane) (x w all : ℕ) → x % across p ≡ 0 → x + w ≤ all → sample_size p * (x / across p) + row_of p w ≤ row_of p all
columns_more plane.Whole x w all e room = omega (arith, e, room)
columns_more plane.HalfAcross x w all e room = omega (arith, e, room)
columns_more plane.Quarter x w all e room = omega (arith, e, room)
columns_more plane.Pairs x w all e room = omega (arith, e, room)

pub row_some : (p : Plane) (w : ℕ) → 1 ≤ w → 1 ≤ row_of p w
row_some plane.Whole w some = omega (arith, some)
row_some plane.HalfAcross w some = omega (arith, some)
row_some plane.Quarter w some = omega (arith, some)
row_some plane.Pairs w some = omega (arith, some)

pub rows_some : (p : Plane) (h : ℕ) → 1 ≤ h → 1 ≤ rows_of p h
rows_some plane.Whole h some = omega (arith, some)
rows_some plane.HalfAcross h some = omega (arith, some)
rows_some plane.Quarter h some = omega (arith, some)
rows_some plane.Pairs h some = omega (arith, some)

row_there : (at all q k n s w : ℕ) → q + k + 1 ≤ n → s + w ≤ all → at + all * q + s + all * k + w ≤ at + all * n
row_there at all q k n s w rows columns =
    let more : all * (q + k + 1) ≤ all * n = mul-le-mul_left all rows in
    omega (arith, more, columns)

-- the rows of a plane are those of its picture
pub there_at : (at : ℕ) (shape : PictureShape) (r : Rect) (p : Plane) (l : PlaneLayout) → is_rect_of shape r ≡ true → begins_on r p ≡ true → IsThere (at + plane_size p shape.width shape.height) (plane_copy at shape r p l)
there_at at shape r p l h on =
    let i = inside shape r h in
    let two = and_parts (r.x % across p == 0) (r.y % down p == 0) on in
    let columns = columns_more p r.x r.width shape.width (eqb-true (r.x % across p) 0 two.0) i.right in
    let rows = rows_more p r.y r.height shape.height (eqb-true (r.y % down p) 0 two.1) i.below in
    record {
      some = row_some p r.width i.wide;
      any = rows_some p r.height i.high;
      each = λ k below. row_there at (row_of p shape.width) (r.y / down p) k (rows_of p shape.height) (sample_size p * (r.x / across p)) (row_of p r.width) (let b : k < rows_of p r.height = below in omega (arith, b, rows)) columns;
    }

pub there_more : (n m : ℕ) (c : PlaneCopy) → n ≤ m → IsThere n c → IsThere m c
there_more n m c h t = record { some = t.some; any = t.any; each = λ k below. let e = t.each k below in omega (arith, e, h) }

pub begins_there : (at : ℕ) (shape : PictureShape) (r : Rect) (p : Plane) (l : PlaneLayout) → is_rect_of shape r ≡ true → begins_on r p ≡ true → (plane_copy at shape r p l).from ≤ at + plane_size p shape.width shape.height
begins_there at shape r p l h on =
    let t = there_at at shape r p l h on in
    let first = t.each 0 (let a = t.any in omega (arith, a)) in
    omega (arith, first)

-- a rect's plane has no more bytes than the picture's
pub size_within : (p : Plane) (w h width height : ℕ) → w ≤ width → h ≤ height → plane_size p w h ≤ plane_size p width height
size_within p w h width height a b = mul-le (row_of p w) (rows_of p h) (row_of p width) (rows_of p height) (row_within p w width a) (rows_within p h height b)
  where
    row_within : (p : Plane) (w all : ℕ) → w ≤ all → row_of p w ≤ row_of p all
    row_within plane.Whole w all a = omega (arith, a)
    row_within plane.HalfAcross w all a = omega (arith, a)
    row_within plane.Quarter w all a = omega (arith, a)
    row_within plane.Pairs w all a = omega (arith, a)

    rows_within : (p : Plane) (h all : ℕ) → h ≤ all → rows_of p h ≤ rows_of p all
    rows_within plane.Whole h all a = omega (arith, a)
    rows_within plane.HalfAcross h all a = omega (arith, a)
    rows_within plane.Quarter h all a = omega (arith, a)
    rows_within plane.Pairs h all a = omega (arith, a)

pub sizes_within : (ps : List Plane) (w h width height : ℕ) → w ≤ width → h ≤ height → sizes_of ps w h ≤ sizes_of ps width height
sizes_within [] w h width height a b = omega arith
sizes_within (p ∷ ps) w h width height a b = omega (arith, size_within p w h width height a b, sizes_within ps w h width height a b)

-- a part of a place, from a call's answers
pub part_same : (a b y d e : ℕ) → a ≡ b → d ≡ e → a * (y / d) ≡ b * (y / e)
part_same a b y d e is same = ap (λ (k : ℕ). k * (y / d)) is ∙ ap (λ (k : ℕ). b * (y / k)) same

pub there_so : (n : ℕ) (c : PlaneCopy) (l : PlaneLayout) (from step row rows : ℕ) → IsThere n c → from ≡ c.from → step ≡ c.step → row ≡ c.row → rows ≡ c.rows → IsThere n (record { layout = l; from = from; step = step; row = row; rows = rows })
there_so n c l from step row rows t is_from is_step is_row is_rows = record {
  some = let s = t.some in omega (arith, s, is_row);
  any = let s = t.any in omega (arith, s, is_rows);
  each = λ k below.
      let b : k < rows = below in
      let e = t.each k (omega (arith, b, is_rows)) in
      let same : step * k ≡ c.step * k = ap (λ (m : ℕ). m * k) is_step in
      omega (arith, e, same, is_from, is_row);
}

-- a plane of a plan fits, and begins where it should
pub fits_so : (c d : PlaneCopy) → c ≡ d → true ≡ is_fit d → is_fit c ≡ true
fits_so c d same fit = ap is_fit same ∙ sym fit

-- bytes of the first planes of a picture
pub first_sizes : (planes : Planes) (shape : PictureShape) → planes_in planes ≡ planes_of shape.format → plane_size planes.first shape.width shape.height + plane_size planes.second shape.width shape.height ≤ picture_size shape
first_sizes planes shape is =
    let all : sizes_of (planes_in planes) shape.width shape.height ≡ picture_size shape = ap (λ (ps : List Plane). sizes_of ps shape.width shape.height) is in
    omega (arith, all)

pub last_sizes : (planes : Planes) (shape : PictureShape) (last : Plane) → planes_in planes ≡ planes_of shape.format → planes.third ≡ Some last → plane_size planes.first shape.width shape.height + plane_size planes.second shape.width shape.height + plane_size last shape.width shape.height ≤ picture_size shape
last_sizes planes shape last is third =
    let all : sizes_of (planes_in planes) shape.width shape.height ≡ picture_size shape = ap (λ (ps : List Plane). sizes_of ps shape.width shape.height) is in
    let three : sizes_of (planes_in planes) shape.width shape.height ≡ plane_size planes.first shape.width shape.height + (plane_size planes.second shape.width shape.height + (plane_size last shape.width shape.height + 0)) = ap (λ (o : Option Plane). plane_size planes.first shape.width shape.height + (plane_size planes.second shape.width shape.height + sizes_of (maybe_one o) shape.width shape.height)) third in
    omega (arith, all, three)

pub first_within : (planes : Planes) (shape : PictureShape) (r : Rect) → planes_in planes ≡ planes_of shape.format → is_rect_of shape r ≡ true → plane_size planes.first r.width r.height + plane_size planes.second r.width r.height ≤ picture_size shape
first_within planes shape r is h =
    let i = inside shape r h in
    let right = i.right in
    let below = i.below in
    let wide : r.width ≤ shape.width = omega (arith, right) in
    let high : r.height ≤ shape.height = omega (arith, below) in
    omega (arith, first_sizes planes shape is, size_within planes.first r.width r.height shape.width shape.height wide high, size_within planes.second r.width r.height shape.width shape.height wide high)

-- a given layout, item by item
abbrev none_at : PlaneLayout
none_at = record { offset = 0; stride = 0 }

two_items : (ls : List PlaneLayout) (a b : PlaneLayout) → length ls ≡ 2 → a ≡ get_or ls 0 none_at → b ≡ get_or ls 1 none_at → a ∷ b ∷ [] ≡ ls
two_items [] a b h is_a is_b = absurd (omega (arith, h))
two_items (x ∷ []) a b h is_a is_b = absurd (omega (arith, h))
two_items (x ∷ (y ∷ [])) a b h is_a is_b = cc
two_items (x ∷ (y ∷ (z ∷ ls))) a b h is_a is_b = absurd (omega (arith, h))

three_items : (ls : List PlaneLayout) (a b t : PlaneLayout) → length ls ≡ 3 → a ≡ get_or ls 0 none_at → b ≡ get_or ls 1 none_at → t ≡ get_or ls 2 none_at → a ∷ b ∷ t ∷ [] ≡ ls
three_items [] a b t h is_a is_b is_t = absurd (omega (arith, h))
three_items (x ∷ []) a b t h is_a is_b is_t = absurd (omega (arith, h))
three_items (x ∷ (y ∷ [])) a b t h is_a is_b is_t = absurd (omega (arith, h))
three_items (x ∷ (y ∷ (z ∷ []))) a b t h is_a is_b is_t = cc
three_items (x ∷ (y ∷ (z ∷ (w ∷ ls)))) a b t h is_a is_b is_t = absurd (omega (arith, h))

laid_third : (third : Option Plane) (ls : List PlaneLayout) (a b t : Placement) (n : ℕ) → n ≡ suc (suc (length (maybe_one third))) → length ls ≡ n → layout_of a ≡ get_or ls 0 none_at → layout_of b ≡ get_or ls 1 none_at → layout_of t ≡ get_or ls (n - 1) none_at → layout_of a ∷ layout_of b ∷ third_at third t ≡ ls
laid_third None ls a b t n count long is_a is_b is_t = two_items ls (layout_of a) (layout_of b) (long ∙ count) is_a is_b
laid_third (Some p) ls a b t n count long is_a is_b is_t =
    three_items ls (layout_of a) (layout_of b) (layout_of t) (long ∙ count) is_a is_b (is_t ∙ ap (λ (k : ℕ). get_or ls (k - 1) none_at) count)

pub laid_items : (planes : Planes) (ls : List PlaneLayout) (a b t : Placement) (n : ℕ) → n ≡ length (planes_in planes) → length ls ≡ n → layout_of a ≡ get_or ls 0 none_at → layout_of b ≡ get_or ls 1 none_at → layout_of t ≡ get_or ls (n - 1) none_at → layouts_at planes a b t ≡ ls
laid_items planes ls a b t n count long is_a is_b is_t = laid_third planes.third ls a b t n count long is_a is_b is_t

-- a tight layout, item by item
same_head : (a b : PlaneLayout) → ◌≡◌ {A = List PlaneLayout} (a ∷ []) (b ∷ []) → a ≡ b
same_head a b h = cc

tight_third : (third : Option Plane) (r : Rect) (p : Plane) (t : Placement) (m k : ℕ) → layout_of t ∷ [] ≡ tight_from m r (unwrap_or third p ∷ []) → m ≡ k → third_at third t ≡ tight_from k r (maybe_one third)
tight_third None r p t m k is at = refl
tight_third (Some q) r p t m k is at = is ∙ ap (λ (n : ℕ). tight_from n r (q ∷ [])) at

pub tight_items : (planes : Planes) (r : Rect) (a b t : Placement) (n m : ℕ) → layout_of a ∷ [] ≡ tight_from 0 r (planes.first ∷ []) → layout_of b ∷ [] ≡ tight_from n r (planes.second ∷ []) → n ≡ plane_size planes.first r.width r.height → layout_of t ∷ [] ≡ tight_from m r (unwrap_or planes.third planes.second ∷ []) → m ≡ n + plane_size planes.second r.width r.height → layouts_at planes a b t ≡ tight_from 0 r (planes_in planes)
tight_items planes r a b t n m is_a is_b at_b is_t at_t =
    let x : PlaneLayout = record { offset = 0; stride = row_of planes.first r.width } in
    let size : ℕ = plane_size planes.first r.width r.height in
    let next : ℕ = 0 + size + plane_size planes.second r.width r.height in
    let y : PlaneLayout = record { offset = 0 + size; stride = row_of planes.second r.width } in
    let begins : n ≡ 0 + size = omega (arith, at_b) in
    let one : layout_of a ≡ x = same_head (layout_of a) x is_a in
    let two : layout_of b ≡ y = same_head (layout_of b) y (is_b ∙ ap (λ (k : ℕ). tight_from k r (planes.second ∷ [])) begins) in
    let three : third_at planes.third t ≡ tight_from next r (maybe_one planes.third) = tight_third planes.third r planes.second t m next is_t (omega (arith, at_t, at_b)) in
    ap (λ (l : PlaneLayout). l ∷ layout_of b ∷ third_at planes.third t) one ∙ (ap (λ (l : PlaneLayout). x ∷ l ∷ third_at planes.third t) two ∙ ap (λ (ls : List PlaneLayout). x ∷ y ∷ ls) three)
