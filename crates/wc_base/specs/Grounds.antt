-- Where codecs are at work (our choice).
use Rattle.std.proofs.Common.{◌≡◌, Bool, true, false, refl}
use Rattle.wc_base.specs.declared.ground.Ground.{Ground}
use Rattle.wc_base.specs.declared.ground.Ground.TheVariants.{Foreground, Background, BackgroundEncoding}

-- a page in the background that has no encoder at work
abbrev pub is_background : Ground → Bool
is_background Foreground = false
is_background Background = true
is_background BackgroundEncoding = false

abbrev pub same_ground : Ground → Ground → Bool
same_ground Foreground Foreground = true
same_ground Background Background = true
same_ground BackgroundEncoding BackgroundEncoding = true
same_ground _ _ = false

pub own_ground_same : (at : Ground) → same_ground at at ≡ true
own_ground_same Foreground = refl
own_ground_same Background = refl
own_ground_same BackgroundEncoding = refl
