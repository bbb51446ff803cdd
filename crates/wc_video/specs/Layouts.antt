-- What a copy of a picture takes, or why it is refused (W3C WebCodecs, 'Parse VideoFrameCopyToOptions' and 'Compute Layout and
-- Allocation Size'; the order of the refusals is our choice, and all are of one kind).
use Rattle.std.specs.Prelude.{ℕ, ◌+◌, ◌-◌, ◌*◌, ◌/◌, ◌%◌, ◌^◌, ◌==◌, ◌&&◌, not, nat_lt, nat_le, max, Bool, true, List, [], ◌∷◌, length, Option, Some, None, unwrap_or, Result, Ok, Err, if◌then◌else◌}
use Rattle.std.specs.List.{list_all, list_any, range_with_len}
use Rattle.wc_base.specs.declared.error.DomError.{DomError}
use Rattle.wc_base.specs.declared.error.DomError.TheVariants as dom
use Rattle.wc_base.specs.declared.media.PictureShape.{PictureShape}
use Rattle.picture_planes.specs.declared.plane.Plane.{Plane}
use Rattle.picture_planes.specs.Planes.{maybe_one, across, down, sample_size, row_of, rows_of, plane_size, planes_of}
use Rattle.wc_video.specs.declared.layout.Rect.{Rect}
use Rattle.wc_video.specs.declared.layout.PlaneLayout.{PlaneLayout}
use Rattle.wc_video.specs.declared.layout.Layouts.{Layouts}
use Rattle.wc_video.specs.declared.layout.PlaneCopy.{PlaneCopy}
use Rattle.wc_video.specs.declared.layout.Plan.{Plan}
use Rattle.wc_video.specs.declared.layout.Placement.{Placement}
use Rattle.picture_planes.specs.declared.plane.Planes.{Planes}

-- without a rect it is the whole picture
abbrev pub rect_in : PictureShape → Option Rect → Rect
rect_in shape rect = unwrap_or rect (record { x = 0; y = 0; width = shape.width; height = shape.height })

-- the rect begins where a plane has a sample
abbrev pub begins_on : Rect → Plane → Bool
begins_on r p = (r.x % across p == 0) && (r.y % down p == 0)

-- a rect that is not empty, lies in the picture, and begins where each plane has a sample
abbrev pub is_rect_of : PictureShape → Rect → Bool
is_rect_of shape r =
    not (r.width == 0) && not (r.height == 0) && nat_le (r.x + r.width) shape.width && nat_le (r.y + r.height) shape.height && list_all (begins_on r) (planes_of shape.format)

-- rows without space between them, and planes one after another, the first at a place
abbrev pub tight_from : ℕ → Rect → List Plane → List PlaneLayout
tight_from at r [] = []
tight_from at r (p ∷ ps) = record { offset = at; stride = row_of p r.width } ∷ tight_from (at + plane_size p r.width r.height) r ps

-- without a layout it is the tight one
abbrev pub layouts_in : PictureShape → Rect → Option (List PlaneLayout) → List PlaneLayout
layouts_in shape r layout = unwrap_or layout (tight_from 0 r (planes_of shape.format))

-- a plane of a copy: the rect's bytes of the plane whose first byte stands at a place of the picture's
abbrev pub plane_copy : ℕ → PictureShape → Rect → Plane → PlaneLayout → PlaneCopy
plane_copy at shape r p l = record {
  layout = l;
  from = at + row_of p shape.width * (r.y / down p) + sample_size p * (r.x / across p);
  step = row_of p shape.width;
  row = row_of p r.width;
  rows = rows_of p r.height;
}

-- planes one after another, the first at a place of the picture's bytes
abbrev pub copies_from : ℕ → PictureShape → Rect → List Plane → List PlaneLayout → List PlaneCopy
copies_from at shape r (p ∷ ps) (l ∷ ls) = plane_copy at shape r p l ∷ copies_from (at + plane_size p shape.width shape.height) shape r ps ls
copies_from at shape r _ _ = []

-- behind the last byte of a plane's range
abbrev pub end_of : PlaneCopy → ℕ
end_of c = c.layout.offset + c.layout.stride * c.rows

-- its rows do not run into each other, and 32 bits count its end
abbrev pub is_fit : PlaneCopy → Bool
is_fit c = nat_le c.row c.layout.stride && nat_lt (end_of c) (2 ^ 32)

-- the bytes of a plane's range
abbrev pub range_of : PlaneCopy → List ℕ
range_of c = range_with_len c.layout.offset (c.layout.stride * c.rows)

abbrev pub is_within : PlaneCopy → ℕ → Bool
is_within c j = nat_le c.layout.offset j && nat_lt j (end_of c)

-- some byte lies in the ranges of both
abbrev pub meets : PlaneCopy → PlaneCopy → Bool
meets c d = list_any (is_within d) (range_of c)

-- no two meet
abbrev pub are_apart : List PlaneCopy → Bool
are_apart [] = true
are_apart (c ∷ cs) = not (list_any (meets c) cs) && are_apart cs

abbrev pub are_taken : List PlaneCopy → Bool
are_taken cs = list_all is_fit cs && are_apart cs

abbrev pub plan_in : PictureShape → Rect → List PlaneLayout → Result (List PlaneCopy) DomError
plan_in shape r ls =
    if not (is_rect_of shape r) then Err dom.TypeErr
    else if not (length ls == length (planes_of shape.format)) then Err dom.TypeErr
    else if not (are_taken (copies_from 0 shape r (planes_of shape.format) ls)) then Err dom.TypeErr
    else Ok (copies_from 0 shape r (planes_of shape.format) ls)

-- the planes of a copy of an open picture, or its refusal
abbrev pub plan_of : PictureShape → Option Rect → Option (List PlaneLayout) → Result (List PlaneCopy) DomError
plan_of shape rect layout = plan_in shape (rect_in shape rect) (layouts_in shape (rect_in shape rect) layout)

-- the same planes in a list
abbrev pub copies_in : Plan → List PlaneCopy
copies_in p = p.first ∷ p.second ∷ maybe_one p.third

-- the greatest end
abbrev pub size_of : List PlaneCopy → ℕ
size_of [] = 0
size_of (c ∷ cs) = max (end_of c) (size_of cs)

-- the layouts of planes; with two the third is all zero
abbrev pub layout_at : List PlaneCopy → ℕ → PlaneLayout
layout_at [] i = record { offset = 0; stride = 0 }
layout_at (c ∷ cs) i = if i == 0 then c.layout else layout_at cs (i - 1)

abbrev pub layouts_of : List PlaneCopy → Layouts
layouts_of cs = record { count = length cs; first = layout_at cs 0; second = layout_at cs 1; third = layout_at cs 2 }

-- placements of as many planes as there are
abbrev pub layout_of : Placement → PlaneLayout
layout_of p = record { offset = p.offset; stride = p.stride }

abbrev pub third_at : Option Plane → Placement → List PlaneLayout
third_at None p = []
third_at (Some _) p = layout_of p ∷ []

abbrev pub layouts_at : Planes → Placement → Placement → Placement → List PlaneLayout
layouts_at planes first second third = layout_of first ∷ layout_of second ∷ third_at planes.third third
