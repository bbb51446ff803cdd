-- What an open medium at hand lends.
use Rattle.std.proofs.Common.{◌≡◌, refl}
use Rattle.std.specs.Prelude.{None}
use Rattle.atomic_table.specs.Seated.{TableId}
use Rattle.wc_pool.specs.declared.reference.MediaRef.{MediaRef}
use Rattle.wc_pool.specs.Pools.{with_token, IsCloneOf}
use Rattle.codec_model.specs.declared.entry.HeldMedium.{HeldMedium}
use Rattle.codec_media.specs.Holding.{pair_of}
use Rattle.shared_pool.specs.Refs.{IsPoolRef}
use Rattle.shared_codec.specs.declared.lender.OpenMedium.{OpenMedium}

-- its reference is of this pool
abbrev pub IsOpenOf : TableId → OpenMedium → Type 0
IsOpenOf pool m = IsPoolRef pool m.reference

-- its shape and its resource's bytes, with a clone of its reference
abbrev pub LendsOpen : OpenMedium → HeldMedium → MediaRef → Type 0
LendsOpen m held clone = IsCloneOf m.reference clone × (held ≡ record { shape = m.shape; bytes = m.reference.bytes; pair = pair_of clone })

-- all but the token of its reference
abbrev pub StaysOpen : OpenMedium → OpenMedium → Type 0
StaysOpen a b = (b.shape ≡ a.shape) × (with_token None b.reference ≡ with_token None a.reference)

abbrev pub open_rests : (m : OpenMedium) → StaysOpen m m
open_rests m = (refl, refl)
