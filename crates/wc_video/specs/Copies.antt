-- What a copy of a video frame writes, and how many bytes that takes (W3C WebCodecs, VideoFrame, `allocationSize` and `copyTo`).
use Rattle.std.specs.Prelude.{ℕ, ◌≡◌, true, IfSome, ◌≤◌, ◌<◌, ◌+◌, ◌-◌, ◌*◌, ◌/◌, ◌%◌, ◌==◌, ◌&&◌, nat_lt, nat_le, Bool, List, [], ◌∷◌, length, map, slice_index, Option, is_none, unwrap_or, Result, Ok, Err, if◌then◌else◌}
use Rattle.std.specs.List.{range_with_len, list_all}
use Rattle.wc_base.specs.declared.error.DomError.{DomError}
use Rattle.wc_base.specs.declared.error.DomError.TheVariants as dom
use Rattle.wc_video.specs.declared.layout.Rect.{Rect}
use Rattle.wc_video.specs.declared.layout.PlaneLayout.{PlaneLayout}
use Rattle.wc_video.specs.declared.layout.Layouts.{Layouts}
use Rattle.wc_video.specs.declared.layout.PlaneCopy.{PlaneCopy}
use Rattle.wc_video.specs.Frames.{Frame, content_of}
use Rattle.wc_video.specs.declared.layout.Plan.{Plan}
use Rattle.wc_video.specs.Layouts.{plan_of, size_of, layouts_of, copies_in, is_fit, end_of}

-- the planes of a copy of a frame, or its first refusal
abbrev pub plan_for : Frame → Option Rect → Option (List PlaneLayout) → Result (List PlaneCopy) DomError
plan_for f rect layout = if is_none f.held then Err dom.InvalidState else plan_of f.shape rect layout

abbrev pub size_in : Result (List PlaneCopy) DomError → Result ℕ DomError
size_in (Err e) = Err e
size_in (Ok cs) = Ok (size_of cs)

-- how many bytes a copy needs, or its first refusal
abbrev pub allocation_size : Frame → Option Rect → Option (List PlaneLayout) → Result ℕ DomError
allocation_size f rect layout = size_in (plan_for f rect layout)

abbrev pub layouts_for : Result (List PlaneCopy) DomError → Result Layouts DomError
layouts_for (Err e) = Err e
layouts_for (Ok cs) = Ok (layouts_of cs)

-- the row and the column of a plane that a byte of a destination stands in
abbrev pub row_at : PlaneCopy → ℕ → ℕ
row_at c j = (j - c.layout.offset) / c.layout.stride

abbrev pub column_at : PlaneCopy → ℕ → ℕ
column_at c j = (j - c.layout.offset) % c.layout.stride

-- a byte of a plane's rows goes to this place
abbrev pub is_written : PlaneCopy → ℕ → Bool
is_written c j = nat_le c.layout.offset j && nat_lt (row_at c j) c.rows && nat_lt (column_at c j) c.row

-- where it comes from
abbrev pub source_of : PlaneCopy → ℕ → ℕ
source_of c j = c.from + c.step * row_at c j + column_at c j

-- a byte of a destination after a copy: the picture's of its plane, row and column, or the one that stood there
abbrev pub byte_after : List PlaneCopy → List ℕ → List ℕ → ℕ → ℕ
byte_after [] bytes old j = slice_index old j
byte_after (c ∷ cs) bytes old j = if is_written c j then slice_index bytes (source_of c j) else byte_after cs bytes old j

abbrev pub copy_of : List PlaneCopy → List ℕ → List ℕ → List ℕ
copy_of cs bytes old = map (byte_after cs bytes old) (range_with_len 0 (length old))

abbrev pub copy_into : List ℕ → List ℕ → Result (List PlaneCopy) DomError → Result (List ℕ) DomError
copy_into bytes old (Err e) = Err e
copy_into bytes old (Ok cs) = if nat_lt (length old) (size_of cs) then Err dom.TypeErr else Ok (copy_of cs bytes old)

-- a destination after a copy, or its first refusal
abbrev pub copied_frame : Frame → List ℕ → Option Rect → Option (List PlaneLayout) → Result (List ℕ) DomError
copied_frame f old rect layout = copy_into (unwrap_or (content_of f) []) old (plan_for f rect layout)

-- there are rows, none is empty, and each is there
pub record IsThere (count : ℕ) (c : PlaneCopy) : Type 0 where
  pub some : 1 ≤ c.row
  pub any : 1 ≤ c.rows
  pub each : (r : ℕ) → r < c.rows → c.from + c.step * r + c.row ≤ count

-- the planes of a plan are there, and fit
pub record IsLaid (count : ℕ) (p : Plan) : Type 0 where
  pub first : IsThere count p.first
  pub second : IsThere count p.second
  pub third : IfSome p.third (IsThere count)
  pub fit : list_all is_fit (copies_in p) ≡ true

-- a plane without space between its rows, which begins at the same place here and there
abbrev pub follows : PlaneCopy → ℕ → Bool
follows c at = (c.row == c.step) && (c.row == c.layout.stride) && (c.from == at) && (c.layout.offset == at)

-- planes without space between them, the first at a place
abbrev pub is_straight : ℕ → List PlaneCopy → Bool
is_straight at [] = true
is_straight at (c ∷ cs) = follows c at && is_straight (end_of c) cs
