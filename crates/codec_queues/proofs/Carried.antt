-- Outputs as they are shown, by the config that the first of them carries.
use Rattle.std.proofs.Common.{◌<◌, ◌≡◌, Bool, true, false, cond, List, [], ◌∷◌, length, set, get_or, Option, Some, None, refl, arith}
use Rattle.wc_base.specs.declared.media.{Picture.Picture, Samples.Samples}
use Rattle.wc_chunk.specs.declared.chunk.Chunk.{Chunk}
use Rattle.codec_definitions.specs.declared.unit.Unit as media
use Rattle.codec_definitions.specs.declared.unit.Unit.TheVariants as unit_of
use Rattle.wc_config.specs.declared.config.AudioDecoderConfig.{AudioDecoderConfig}
use Rattle.codec_model.specs.Control.{is_active, carried, active_after}
use Rattle.codec_queues.specs.Labels.{first_config, without_config}

pub first_without : (us : List media.Unit) (u : media.Unit) (chunk : Chunk) (config : Option AudioDecoderConfig) → 0 < length us → get_or us 0 u ≡ unit_of.Coded chunk config → set us 0 (unit_of.Coded chunk None) ≡ without_config us
first_without [] u chunk config h is = absurd (omega (arith, h))
first_without (x ∷ us) u chunk config h is = rw is refl

pub none_without : (us : List media.Unit) → length us ≡ 0 → us ≡ without_config us
none_without [] h = refl
none_without (x ∷ us) h = absurd (omega (arith, h))

pub sound_without : (us : List media.Unit) (u : media.Unit) (s : Samples) → get_or us 0 u ≡ unit_of.Sound s → us ≡ without_config us
sound_without [] u s is = refl
sound_without (x ∷ us) u s is = rw is refl

pub image_without : (us : List media.Unit) (u : media.Unit) (p : Picture) → get_or us 0 u ≡ unit_of.Image p → us ≡ without_config us
image_without [] u p is = refl
image_without (x ∷ us) u p is = rw is refl

-- outputs that carry no config are shown as they are
pub carried_none : (active : Option AudioDecoderConfig) (us : List media.Unit) → first_config us ≡ None → carried active us ≡ us
carried_none active (unit_of.Coded chunk (Some c) ∷ us) h = absurd cc
carried_none active us h = refl

pub active_none : (active : Option AudioDecoderConfig) (us : List media.Unit) → first_config us ≡ None → active_after active us ≡ active
active_none active (unit_of.Coded chunk (Some c) ∷ us) h = absurd cc
active_none active us h = refl

-- the config goes where it is the active one, and else stays and is active
pub carried_some : (active : Option AudioDecoderConfig) (us : List media.Unit) (c : AudioDecoderConfig) (b : Bool) → first_config us ≡ Some c → is_active active c ≡ b → carried active us ≡ cond b (without_config us) us
carried_some active (unit_of.Coded chunk (Some d) ∷ us) c b h is =
    let same : d ≡ c = cc in
    rw (same, is) (by b)
  where
    by : (b : Bool) → unit_of.Coded chunk (cond b None (Some c)) ∷ us ≡ cond b (unit_of.Coded chunk None ∷ us) (unit_of.Coded chunk (Some c) ∷ us)
    by true = refl
    by false = refl
carried_some active us c b h is = absurd cc

pub active_some : (active : Option AudioDecoderConfig) (us : List media.Unit) (c : AudioDecoderConfig) (b : Bool) → first_config us ≡ Some c → is_active active c ≡ b → active_after active us ≡ cond b active (Some c)
active_some active (unit_of.Coded chunk (Some d) ∷ us) c b h is =
    let same : d ≡ c = cc in
    rw (same, is) refl
active_some active us c b h is = absurd cc
