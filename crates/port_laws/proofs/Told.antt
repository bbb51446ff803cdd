-- What is received is told by weights: what is as heavy, however it is weighed, is the same.
use Rattle.std.proofs.Common.{ℕ, ℤ, ◌≤◌, ◌≡◌, int_eq, eqb, Bool, true, false, cond, List, Option, Some, None, Decides, rules, refl, ap, subst, arith}
use Rattle.std.specs.Prelude.{is_some}
use Rattle.std.specs.Cmp.Lexicographic.{pointwise, bytes_decides}
use Rattle.std.proofs.lemmas.Bool.Decides.{Decides-eqb, Decides-int_eq}
use denote.Enum.Bare.{sameb, same_true}
use Rattle.wc_base.specs.declared.media.SampleFormat.{SampleFormat}
use Rattle.wc_base.specs.declared.media.PictureFormat.{PictureFormat}
use Rattle.wc_base.specs.declared.media.SoundShape.{SoundShape}
use Rattle.wc_base.specs.declared.media.PictureShape.{PictureShape}
use Rattle.wc_base.specs.declared.who.Who.{Who}
use Rattle.wc_base.specs.contracts.media.SampleFormat as formats
use Rattle.wc_base.specs.contracts.media.PictureFormat as pictures
use Rattle.wc_chunk.specs.declared.chunk.Chunk.{Chunk}
use Rattle.codec_accounts.specs.PlaceLaws.{bit}
use Rattle.media_variables.specs.Variables.{Reference, Shape, SoundOf, PictureOf, ChunkOf, BufferOf, Medium, Received}
use Rattle.port_laws.proofs.Weights.{IsAsHeavy, weight}

abbrev AreTold : Type 0 → Type 0
AreTold X = (x y : X) → IsAsHeavy x y → x ≡ y

module _ {X : Type 0} where
  part : {Y : Type 0} (f : X → Y) (x y : X) → IsAsHeavy x y → IsAsHeavy (f x) (f y)
  part f x y h t = h (λ z. t (f z))

  decided : (test : X → X → Bool) → ((x y : X) → Decides (test x y) (x ≡ y)) → AreTold X
  decided test is x y h =
      let a = h (λ z. bit (test x z)) in
      let b : bit (test x x) ≡ 1 = ap bit ((is x x).1 refl) in
      (is x y).0 (holds (test x y) (omega (arith, a, b)))
    where
      holds : (b : Bool) → 1 ≤ bit b → b ≡ true
      holds true h = refl
      holds false h = absurd (omega (arith, h))

  options : AreTold X → AreTold (Option X)
  options told None None h = refl
  options told None (Some y) h = absurd (let a = h (λ o. cond (is_some o) 0 1) in omega (arith, a))
  options told (Some x) None h = absurd (let a = h (λ o. bit (is_some o)) in omega (arith, a))
  options told (Some x) (Some y) h = ap (λ z. Some z) (told x y (λ t. h (weight t)))

pub numbers : AreTold ℕ
numbers = decided eqb Decides-eqb

integers : AreTold ℤ
integers = decided int_eq Decides-int_eq

bytes : AreTold (List ℕ)
bytes = decided (pointwise eqb) bytes_decides

tests : AreTold Bool
tests true true h = refl
tests true false h = absurd (let a = h bit in omega (arith, a))
tests false true h = absurd (let a = h (λ b. cond b 0 1) in omega (arith, a))
tests false false h = refl

sample_formats : AreTold SampleFormat
sample_formats = decided (sameb formats.the_type) (λ a b. (λ e. same_true formats.the_type (search rules) _ _ e, λ e. subst (λ (u : SampleFormat). sameb formats.the_type a u ≡ true) e (self a)))
  where
    self : (a : SampleFormat) → sameb formats.the_type a a ≡ true
    self SampleFormat.U8 = refl
    self a = refl

picture_formats : AreTold PictureFormat
picture_formats = decided (sameb pictures.the_type) (λ a b. (λ e. same_true pictures.the_type (search rules) _ _ e, λ e. subst (λ (u : PictureFormat). sameb pictures.the_type a u ≡ true) e (self a)))
  where
    self : (a : PictureFormat) → sameb pictures.the_type a a ≡ true
    self PictureFormat.I420 = refl
    self a = refl

sounds : AreTold SoundShape
sounds x y h =
    let format = sample_formats x.format y.format (part (λ s. s.format) x y h) in
    let rate = numbers x.rate y.rate (part (λ s. s.rate) x y h) in
    let channels = numbers x.channels y.channels (part (λ s. s.channels) x y h) in
    let frames = numbers x.frames y.frames (part (λ s. s.frames) x y h) in
    let timestamp = integers x.timestamp y.timestamp (part (λ s. s.timestamp) x y h) in
    λ i. record { format = format i; rate = rate i; channels = channels i; frames = frames i; timestamp = timestamp i }

images : AreTold PictureShape
images x y h =
    let format = picture_formats x.format y.format (part (λ s. s.format) x y h) in
    let width = numbers x.width y.width (part (λ s. s.width) x y h) in
    let height = numbers x.height y.height (part (λ s. s.height) x y h) in
    let timestamp = integers x.timestamp y.timestamp (part (λ s. s.timestamp) x y h) in
    let duration = options numbers x.duration y.duration (part (λ s. s.duration) x y h) in
    λ i. record { format = format i; width = width i; height = height i; timestamp = timestamp i; duration = duration i }

chunks : AreTold Chunk
chunks x y h =
    let key = tests x.key y.key (part (λ c. c.key) x y h) in
    let timestamp = integers x.timestamp y.timestamp (part (λ c. c.timestamp) x y h) in
    let duration = options numbers x.duration y.duration (part (λ c. c.duration) x y h) in
    let content = bytes x.bytes y.bytes (part (λ c. c.bytes) x y h) in
    λ i. record { key = key i; timestamp = timestamp i; duration = duration i; bytes = content i }

-- the weight of a shape of one kind
abbrev sound_weight : (SoundShape → ℕ) → Shape → ℕ
sound_weight t (SoundOf s) = t s
sound_weight t _ = 0

abbrev picture_weight : (PictureShape → ℕ) → Shape → ℕ
picture_weight t (PictureOf s) = t s
picture_weight t _ = 0

abbrev chunk_weight : (Chunk → ℕ) → Shape → ℕ
chunk_weight t (ChunkOf c) = t c
chunk_weight t _ = 0

abbrev buffer_weight : Shape → ℕ
buffer_weight BufferOf = 1
buffer_weight _ = 0

shapes : AreTold Shape
shapes (SoundOf a) (SoundOf b) h = ap (λ s. SoundOf s) (sounds a b (λ t. h (sound_weight t)))
shapes (SoundOf a) s h = absurd (let e = h (sound_weight (λ _. 1)) in omega (arith, e))
shapes (PictureOf a) (PictureOf b) h = ap (λ s. PictureOf s) (images a b (λ t. h (picture_weight t)))
shapes (PictureOf a) s h = absurd (let e = h (picture_weight (λ _. 1)) in omega (arith, e))
shapes (ChunkOf a) (ChunkOf b) h = ap (λ c. ChunkOf c) (chunks a b (λ t. h (chunk_weight t)))
shapes (ChunkOf a) s h = absurd (let e = h (chunk_weight (λ _. 1)) in omega (arith, e))
shapes BufferOf BufferOf h = refl
shapes BufferOf s h = absurd (let e = h buffer_weight in omega (arith, e))

references : AreTold Reference
references x y h =
    let resource = numbers x.resource y.resource (part (λ r. r.resource) x y h) in
    let number = numbers x.number y.number (part (λ r. r.number) x y h) in
    let content = bytes x.bytes y.bytes (part (λ r. r.bytes) x y h) in
    λ i. record { resource = resource i; number = number i; bytes = content i }

media : AreTold Medium
media x y h =
    let shape = shapes x.shape y.shape (part (λ m. m.shape) x y h) in
    let held = options references x.held y.held (part (λ m. m.held) x y h) in
    λ i. record { shape = shape i; held = held i }

posters : AreTold Who
posters x y h =
    let caller = numbers x.caller y.caller (part (λ w. w.caller) x y h) in
    let step = numbers x.step y.step (part (λ w. w.step) x y h) in
    λ i. record { caller = caller i; step = step i }

pub told : (x y : Received) → IsAsHeavy x y → x ≡ y
told x y h =
    let poster = posters x.poster y.poster (part (λ p. p.poster) x y h) in
    let medium = media x.medium y.medium (part (λ p. p.medium) x y h) in
    λ i. record { poster = poster i; medium = medium i }
