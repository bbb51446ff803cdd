-- The tests of units and of promises tell whether they are the same.
use Rattle.std.proofs.Common.{ℕ, ℤ, ◌≡◌, ◌&&◌, Bool, true, false, int_eq, eqb, pos, List, [], Option, Some, None, Decides, rules, refl, ap, sym, subst, ◌∙◌}
use Rattle.std.specs.Option.{option_eq}
use Rattle.std.specs.Cmp.Lexicographic.{pointwise, bytes_decides}
use Rattle.std.proofs.lemmas.Bool.{and_parts}
use Rattle.std.proofs.lemmas.Bool.Decides.{Decides-eqb, Decides-int_eq}
use mathlib.Core.Bool.{beq}
use denote.Enum.Bare.{sameb, same_true}
use Rattle.wc_base.specs.declared.error.DomError.{DomError}
use Rattle.wc_base.specs.declared.media.SampleFormat.{SampleFormat}
use Rattle.wc_base.specs.declared.media.PictureFormat.{PictureFormat}
use Rattle.wc_base.specs.declared.media.SoundShape.{SoundShape}
use Rattle.wc_base.specs.declared.media.PictureShape.{PictureShape}
use Rattle.wc_base.specs.declared.media.Samples.{Samples}
use Rattle.wc_base.specs.declared.media.Picture.{Picture}
use Rattle.wc_base.specs.contracts.error.DomError as errors
use Rattle.wc_base.specs.contracts.media.SampleFormat as formats
use Rattle.wc_base.specs.contracts.media.PictureFormat as pictures
use Rattle.wc_base.specs.{Options.some_same}
use Rattle.wc_config.specs.declared.config.AudioDecoderConfig.{AudioDecoderConfig}
use Rattle.codec_definitions.specs.declared.unit.Unit as media
use Rattle.codec_definitions.specs.declared.unit.Unit.TheVariants as unit
use Rattle.codec_definitions.specs.contracts.unit.UnitPartialEq.TheImpl as units
use Rattle.codec_model.specs.declared.entry.PromiseState.{PromiseState}
use Rattle.codec_model.specs.contracts.entry.PromiseStatePartialEq.TheImpl as states

-- ---- parts

pair_tells : {A B : Type 0} (x y : Bool) (a c : A) (b d : B) → Decides x (a ≡ c) → Decides y (b ≡ d) → Decides (x && y) (◌≡◌ {A = A × B} (a, b) (c, d))
pair_tells {A} {B} x y a c b d h k = (
  λ e. (let both = and_parts x y e in ap (λ (u : A). (u, b)) (h.0 both.0) ∙ ap (λ (v : B). (c, v)) (k.0 both.1)),
  λ e. rw (h.1 (ap (λ (q : A × B). q.0) e), k.1 (ap (λ (q : A × B). q.1) e)) refl,
)

made_tells : {A C : Type 0} (make : A → C) (part : C → A) (x : Bool) (a b : A) → ((u : A) → part (make u) ≡ u) → Decides x (a ≡ b) → Decides x (make a ≡ make b)
made_tells make part x a b is h = (λ e. ap make (h.0 e), λ e. h.1 (sym (is a) ∙ (ap part e ∙ is b)))

option_tells : {A : Type 0} (E : A → A → Bool) → ((a b : A) → Decides (E a b) (a ≡ b)) → (a b : Option A) → Decides (option_eq E a b) (a ≡ b)
option_tells E h None None = (λ e. refl, λ e. refl)
option_tells E h None (Some b) = (λ e. absurd cc, λ e. absurd cc)
option_tells E h (Some a) None = (λ e. absurd cc, λ e. absurd cc)
option_tells E h (Some a) (Some b) = (λ e. ap (λ u. Some u) ((h a b).0 e), λ e. (h a b).1 (some_same a b e))

errors_tell : (a b : DomError) → Decides (sameb errors.the_type a b) (a ≡ b)
errors_tell a b = (λ e. same_true errors.the_type (search rules) _ _ e, λ e. subst (λ (u : DomError). sameb errors.the_type a u ≡ true) e (self a))
  where
    self : (a : DomError) → sameb errors.the_type a a ≡ true
    self DomError.Abort = refl
    self a = refl

formats_tell : (a b : SampleFormat) → Decides (sameb formats.the_type a b) (a ≡ b)
formats_tell a b = (λ e. same_true formats.the_type (search rules) _ _ e, λ e. subst (λ (u : SampleFormat). sameb formats.the_type a u ≡ true) e (self a))
  where
    self : (a : SampleFormat) → sameb formats.the_type a a ≡ true
    self SampleFormat.U8 = refl
    self a = refl

pictures_tell : (a b : PictureFormat) → Decides (sameb pictures.the_type a b) (a ≡ b)
pictures_tell a b = (λ e. same_true pictures.the_type (search rules) _ _ e, λ e. subst (λ (u : PictureFormat). sameb pictures.the_type a u ≡ true) e (self a))
  where
    self : (a : PictureFormat) → sameb pictures.the_type a a ≡ true
    self PictureFormat.I420 = refl
    self a = refl

pub states_tell : (a b : PromiseState) → Decides (states.eq-value.it a b) (a ≡ b)
states_tell PromiseState.Pending PromiseState.Pending = (λ e. refl, λ e. refl)
states_tell PromiseState.Pending b = (λ e. absurd cc, λ e. absurd cc)
states_tell PromiseState.Resolved PromiseState.Resolved = (λ e. refl, λ e. refl)
states_tell PromiseState.Resolved b = (λ e. absurd cc, λ e. absurd cc)
states_tell (PromiseState.Rejected a) (PromiseState.Rejected b) = (λ e. ap (λ (u : DomError). PromiseState.Rejected u) ((errors_tell a b).0 e), λ e. (errors_tell a b).1 (let same : a ≡ b = cc in same))
states_tell (PromiseState.Rejected a) b = (λ e. absurd cc, λ e. absurd cc)

-- ---- units

abbrev sound_shape : SampleFormat × (ℕ × (ℕ × (ℕ × ℤ))) → SoundShape
sound_shape q = record { format = q.0; rate = q.1.0; channels = q.1.1.0; frames = q.1.1.1.0; timestamp = q.1.1.1.1 }

abbrev sound_parts : SoundShape → SampleFormat × (ℕ × (ℕ × (ℕ × ℤ)))
sound_parts s = (s.format, (s.rate, (s.channels, (s.frames, s.timestamp))))

shape_tells : (a b : SoundShape) → Decides (sameb formats.the_type a.format b.format && (eqb a.rate b.rate && (eqb a.channels b.channels && (eqb a.frames b.frames && int_eq a.timestamp b.timestamp)))) (a ≡ b)
shape_tells a b = made_tells sound_shape sound_parts _ (sound_parts a) (sound_parts b) (λ u. refl) (pair_tells _ _ a.format b.format _ _ (formats_tell a.format b.format) (pair_tells _ _ a.rate b.rate _ _ (Decides-eqb a.rate b.rate) (pair_tells _ _ a.channels b.channels _ _ (Decides-eqb a.channels b.channels) (pair_tells _ _ a.frames b.frames _ _ (Decides-eqb a.frames b.frames) (Decides-int_eq a.timestamp b.timestamp)))))

abbrev picture_shape : PictureFormat × (ℕ × (ℕ × (ℤ × Option ℕ))) → PictureShape
picture_shape q = record { format = q.0; width = q.1.0; height = q.1.1.0; timestamp = q.1.1.1.0; duration = q.1.1.1.1 }

abbrev picture_parts : PictureShape → PictureFormat × (ℕ × (ℕ × (ℤ × Option ℕ)))
picture_parts s = (s.format, (s.width, (s.height, (s.timestamp, s.duration))))

picture_tells : (a b : PictureShape) → Decides (sameb pictures.the_type a.format b.format && (eqb a.width b.width && (eqb a.height b.height && (int_eq a.timestamp b.timestamp && option_eq eqb a.duration b.duration)))) (a ≡ b)
picture_tells a b = made_tells picture_shape picture_parts _ (picture_parts a) (picture_parts b) (λ u. refl) (pair_tells _ _ a.format b.format _ _ (pictures_tell a.format b.format) (pair_tells _ _ a.width b.width _ _ (Decides-eqb a.width b.width) (pair_tells _ _ a.height b.height _ _ (Decides-eqb a.height b.height) (pair_tells _ _ a.timestamp b.timestamp _ _ (Decides-int_eq a.timestamp b.timestamp) (option_tells eqb Decides-eqb a.duration b.duration)))))

keys_tell : (a b : Bool) → Decides (beq a b) (a ≡ b)
keys_tell true true = (λ e. refl, λ e. refl)
keys_tell false false = (λ e. refl, λ e. refl)
keys_tell true false = (λ e. absurd cc, λ e. absurd cc)
keys_tell false true = (λ e. absurd cc, λ e. absurd cc)

abbrev config_of : List ℕ × (ℕ × (ℕ × Option (List ℕ))) → AudioDecoderConfig
config_of q = record { codec = q.0; rate = q.1.0; channels = q.1.1.0; description = q.1.1.1 }

abbrev config_parts : AudioDecoderConfig → List ℕ × (ℕ × (ℕ × Option (List ℕ)))
config_parts c = (c.codec, (c.rate, (c.channels, c.description)))

configs_tell : (a b : AudioDecoderConfig) → Decides (pointwise eqb a.codec b.codec && (eqb a.rate b.rate && (eqb a.channels b.channels && option_eq (pointwise eqb) a.description b.description))) (a ≡ b)
configs_tell a b = made_tells config_of config_parts _ (config_parts a) (config_parts b) (λ u. refl) (pair_tells _ _ a.codec b.codec _ _ (bytes_decides a.codec b.codec) (pair_tells _ _ a.rate b.rate _ _ (Decides-eqb a.rate b.rate) (pair_tells _ _ a.channels b.channels _ _ (Decides-eqb a.channels b.channels) (option_tells (pointwise eqb) bytes_decides a.description b.description))))

-- a chunk's fields, and its config
abbrev CodedParts : Type 0
CodedParts = (Bool × (ℤ × (Option ℕ × List ℕ))) × Option AudioDecoderConfig

abbrev coded_unit : CodedParts → media.Unit
coded_unit q = unit.Coded (record { key = q.0.0; timestamp = q.0.1.0; duration = q.0.1.1.0; bytes = q.0.1.1.1 }) q.1

abbrev coded_parts : media.Unit → CodedParts
coded_parts (unit.Coded chunk config) = ((chunk.key, (chunk.timestamp, (chunk.duration, chunk.bytes))), config)
coded_parts u = ((false, (pos 0, (None, []))), None)

pub units_tell : (a b : media.Unit) → Decides (units.eq-value.it a b) (a ≡ b)
units_tell (unit.Sound a) (unit.Sound b) = let parts = pair_tells _ _ a.shape b.shape a.bytes b.bytes (shape_tells a.shape b.shape) (bytes_decides a.bytes b.bytes) in (λ e. ap (λ (q : SoundShape × List ℕ). unit.Sound (record { shape = q.0; bytes = q.1 })) (parts.0 e), λ e. parts.1 (let same : a ≡ b = cc in ap (λ (s : Samples). (s.shape, s.bytes)) same))
units_tell (unit.Image a) (unit.Image b) = let parts = pair_tells _ _ a.shape b.shape a.bytes b.bytes (picture_tells a.shape b.shape) (bytes_decides a.bytes b.bytes) in (λ e. ap (λ (q : PictureShape × List ℕ). unit.Image (record { shape = q.0; bytes = q.1 })) (parts.0 e), λ e. parts.1 (let same : a ≡ b = cc in ap (λ (s : Picture). (s.shape, s.bytes)) same))
units_tell (unit.Coded a c) (unit.Coded b d) = made_tells coded_unit coded_parts _ (coded_parts (unit.Coded a c)) (coded_parts (unit.Coded b d)) (λ u. refl) (pair_tells _ _ _ _ c d (pair_tells _ _ a.key b.key _ _ (keys_tell a.key b.key) (pair_tells _ _ a.timestamp b.timestamp _ _ (Decides-int_eq a.timestamp b.timestamp) (pair_tells _ _ a.duration b.duration a.bytes b.bytes (option_tells eqb Decides-eqb a.duration b.duration) (bytes_decides a.bytes b.bytes)))) (option_tells _ configs_tell c d))
units_tell a b = (λ e. absurd cc, λ e. absurd cc)
