-- The codes of data, by its samples in 16 bits.
use Rattle.std.proofs.Common.{ℕ, ℤ, ◌≡◌, ◌<◌, ◌*◌, ◌%◌, List, [], ◌∷◌, ◌++◌, length, take, drop, ap, ◌∙◌, refl, arith, append_assoc, append-nil, length-append, get_or, Fits, w8}
use Rattle.std.proofs.Math.Facts.{Fits-lt-pow}
use Rattle.std.proofs.lemmas.List.{length-take}
use Rattle.std.proofs.lemmas.List.Elements.{All-take, All-drop, All-from_get_or}
use Rattle.std.specs.List.{flat_map, range_with_len}
use Rattle.wc_base.specs.declared.media.SoundShape.{SoundShape}
use Rattle.codec_definitions.specs.Pcm.{spelled, sample_of, format_size, place_of, frame_of, interleaved, resized_at}
use Rattle.codec_definitions.specs.SampleCodecs.{coded, coded_frame}
use Rattle.sample_conversion.specs.Sizes.{AreBytes, in_sixteen, SixteenBitsComeBack}
use Rattle.g711.specs.declared.law.Law.{Law}
use Rattle.g711.specs.Slices.{code_in, codec_of, codes_of}

-- the codes of what stands one after another
codes_flat : (l : Law) (f g : ℕ → List ℕ) → ((i : ℕ) (rest : List ℕ) → codes_of l (f i ++ rest) ≡ g i ++ codes_of l rest) → (is rest : List ℕ) → codes_of l (flat_map f is ++ rest) ≡ flat_map g is ++ codes_of l rest
codes_flat l f g each [] rest = refl
codes_flat l f g each (i ∷ is) rest = rw (append_assoc (f i) (flat_map f is) rest, each i (flat_map f is ++ rest), codes_flat l f g each is rest, append_assoc (g i)) refl

-- the codes of data are those of its samples, interleaved in 16 bits
pub codes_coded : (l : Law) (shape : SoundShape) (bytes : List ℕ) → AreBytes bytes → SixteenBitsComeBack → codes_of l (interleaved 2 shape bytes) ≡ coded (codec_of l) shape bytes
codes_coded l shape bytes small back =
    let size = format_size shape.format in
    let in_frame : ℕ → ℕ → ℤ = λ frame channel. in_sixteen shape.format (take size (drop (size * place_of shape frame channel) bytes)) in
    let again : (frame channel : ℕ) → sample_of 2 (spelled 2 (in_frame frame channel)) ≡ in_frame frame channel = λ frame channel.
    let front = drop (size * place_of shape frame channel) bytes in
    back shape.format (take size front) (All-take (λ (x : ℕ). x < 256) size front (All-drop (λ (x : ℕ). x < 256) (size * place_of shape frame channel) bytes small)) (omega (arith, length-take size front)) in
    let frame_codes : (frame : ℕ) (rest : List ℕ) → codes_of l (frame_of 2 shape bytes frame ++ rest) ≡ coded_frame (codec_of l) shape bytes frame ++ codes_of l rest = λ frame.
    codes_flat l (λ channel. spelled 2 (in_frame frame channel)) (λ channel. code_in l (in_frame frame channel) ∷ []) (λ channel rest. ap (λ (v : ℤ). code_in l v ∷ codes_of l rest) (again frame channel)) (range_with_len 0 shape.channels) in
    simp append-nil at (codes_flat l (frame_of 2 shape bytes) (coded_frame (codec_of l) shape bytes) frame_codes (range_with_len 0 shape.frames) [])

evens : (f : ℕ → List ℕ) → ((i : ℕ) → length (f i) % 2 ≡ 0) → (is : List ℕ) → length (flat_map f is) % 2 ≡ 0
evens f each [] = refl
evens f each (i ∷ is) = omega (arith, each i, evens f each is, length-append (f i) (flat_map f is))

-- samples of 16 bits have a whole number of pairs of bytes
pub even : (shape : SoundShape) (bytes : List ℕ) → length (interleaved 2 shape bytes) % 2 ≡ 0
even shape bytes = evens (frame_of 2 shape bytes) (λ frame. evens (λ channel. resized_at (format_size shape.format) 2 bytes (place_of shape frame channel)) (λ channel. refl) (range_with_len 0 shape.channels)) (range_with_len 0 shape.frames)

pub are_bytes : (xs : List ℕ) → ((i : ℕ) → Fits w8 (get_or xs i 0)) → AreBytes xs
are_bytes xs fit = All-from_get_or (λ (b : ℕ). b < 256) xs 0 (λ i short. Fits-lt-pow (fit i))
