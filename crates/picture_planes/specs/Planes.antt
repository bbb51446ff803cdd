-- The planes of pictures, and how many bytes they have (W3C WebCodecs, VideoPixelFormat).
use Rattle.std.specs.Prelude.{ℕ, ◌+◌, ◌-◌, ◌*◌, ◌/◌, List, [], ◌∷◌, Option, Some, None}
use Rattle.wc_base.specs.declared.media.PictureFormat.{PictureFormat}
use Rattle.wc_base.specs.declared.media.PictureFormat.TheVariants as format
use Rattle.wc_base.specs.declared.media.PictureShape.{PictureShape}
use Rattle.picture_planes.specs.declared.plane.Plane.{Plane}
use Rattle.picture_planes.specs.declared.plane.Plane.TheVariants as plane
use Rattle.picture_planes.specs.declared.plane.Planes.{Planes}

-- pixels of a row that have one sample
abbrev pub across : Plane → ℕ
across plane.Whole = 1
across plane.HalfAcross = 2
across plane.Quarter = 2
across plane.Pairs = 2

-- rows of pixels that have one row of samples
abbrev pub down : Plane → ℕ
down plane.Whole = 1
down plane.HalfAcross = 1
down plane.Quarter = 2
down plane.Pairs = 2

-- bytes of a sample
abbrev pub sample_size : Plane → ℕ
sample_size plane.Whole = 1
sample_size plane.HalfAcross = 1
sample_size plane.Quarter = 1
sample_size plane.Pairs = 2

-- samples of so many pixels, rounded up
abbrev pub samples_in : ℕ → ℕ → ℕ
samples_in pixels each = (pixels + each - 1) / each

-- bytes of a row of so many pixels, and rows of so many rows of pixels
abbrev pub row_of : Plane → ℕ → ℕ
row_of p width = sample_size p * samples_in width (across p)

abbrev pub rows_of : Plane → ℕ → ℕ
rows_of p height = samples_in height (down p)

abbrev pub plane_size : Plane → ℕ → ℕ → ℕ
plane_size p width height = row_of p width * rows_of p height

-- Y, U and V; of NV12 Y, and U and V in pairs
abbrev pub planes_of : PictureFormat → List Plane
planes_of format.I420 = plane.Whole ∷ plane.Quarter ∷ plane.Quarter ∷ []
planes_of format.I422 = plane.Whole ∷ plane.HalfAcross ∷ plane.HalfAcross ∷ []
planes_of format.I444 = plane.Whole ∷ plane.Whole ∷ plane.Whole ∷ []
planes_of format.Nv12 = plane.Whole ∷ plane.Pairs ∷ []

-- bytes of planes one after another
abbrev pub sizes_of : List Plane → ℕ → ℕ → ℕ
sizes_of [] width height = 0
sizes_of (p ∷ ps) width height = plane_size p width height + sizes_of ps width height

abbrev pub picture_size : PictureShape → ℕ
picture_size shape = sizes_of (planes_of shape.format) shape.width shape.height

-- what an option has, in a list
abbrev pub maybe_one : {X : Type 0} → Option X → List X
maybe_one None = []
maybe_one (Some x) = x ∷ []

-- the same planes in a list
abbrev pub planes_in : Planes → List Plane
planes_in ps = ps.first ∷ ps.second ∷ maybe_one ps.third
