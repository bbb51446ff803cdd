-- What encoders give: samples that are coded by themselves make bytes, and the config that an output carries is within its type.
use Rattle.std.proofs.Common.{ℕ, zero, suc, ℤ, pos, negsuc, neg_ℤ, ◌≡◌, ◌<◌, ◌-◌, ◌*◌, ◌^◌, ◌*ℤ◌, ◌-ℤ◌, inl, inr, not, true, cond, List, [], ◌∷◌, take, drop, bytes_eq, codes, Option, Some, None, is_some, refl, ap, sym, subst, ◌∙◌, arith, lit<}
use Rattle.std.specs.Prelude.{◌==◌, unwrap_or}
use Rattle.std.specs.List.{list_all}
use Rattle.std.specs.Int.{int_div_euclid}
use Rattle.std.proofs.Math.IntN.{one, *ℤ-one, pos-*ℤ-pos, negsuc-*ℤ-pos}
use Rattle.std.proofs.Math.Nat.{pow-suc}
use Rattle.std.proofs.lemmas.Bool.{cases_lt, lt-ltb, le-ltb, cond_both}
use Rattle.std.proofs.lemmas.List.Folds.{list_all_at}
use Rattle.std.proofs.lemmas.Slice.Eq.{bytes_eq-Decides}
use Rattle.hex.specs.Hex.{IsBytes}
use Rattle.wc_base.specs.{Options.some_same, declared.media.SampleFormat.SampleFormat, declared.media.SoundShape.SoundShape}
use Rattle.wc_config.specs.declared.{codec.CodecId.CodecId, codec.Role.Role, config.AudioDecoderConfig.AudioDecoderConfig, config.Config.Config}
use Rattle.wc_config.specs.Configs.{audio_codec, id_with, coder_id_of}
use Rattle.codec_definitions.specs.G711.{alaw_magnitude}
use Rattle.codec_definitions.specs.Pcm.{little_endian, signed, sample_at, converted, format_size, place_of}
use Rattle.codec_definitions.specs.SampleCodecs.{SampleCodec, pcm, sample_codec, coded_at, coded_frame, coded}
use Rattle.codec_model.specs.Replay.{decoder_config}
use Rattle.g711.specs.Laws.{UlawEncodes, AlawEncodes}
use Rattle.report_lines.specs.{FieldLaws.Lacks, Fits.is_no_feed}
use Rattle.history_laws.specs.{Outputs.IsLabel, StreamLaws.stream_description_fits, StreamLaws.described_where}
use Rattle.run_ranges.specs.Ranges.{IsConfigWithin}
use Rattle.run_ranges.proofs.ByteRanges.{nothing_small, one_small, drop_small, bytes_small, flat_small}

-- the laws of G.711 that are needed: each value of 16 bits has a code, which is a byte
pub record CodesAreBytes : Type 0 where
  pub ulaw : UlawEncodes
  pub alaw : AlawEncodes

-- ---- samples as values of 16 bits

-- a value of 16 bits, in two's complement
abbrev Is16 : ℤ → Type 0
Is16 v = alaw_magnitude v < 2 ^ 15

little_small : (size : ℕ) (xs : List ℕ) → IsBytes xs → little_endian (take size xs) < 256 ^ size
little_small zero xs h = lit< tt
little_small (suc size) [] h = rw (pow-suc 256 size) (omega (arith, little_small size [] h))
little_small (suc size) (x ∷ xs) h = rw (pow-suc 256 size) (omega (arith, h 0, little_small size xs (λ i. h (suc i))))

negated : (k : ℕ) → 0 < k → neg_ℤ (pos k) ≡ negsuc (k - 1)
negated zero some = absurd (omega (arith, some))
negated (suc k) some = ap negsuc (omega arith)

raised_16 : (v : ℤ) → alaw_magnitude v < 128 → Is16 (v *ℤ pos 256)
raised_16 (pos n) small = subst Is16 (sym (pos-*ℤ-pos n 256)) (omega (arith, small))
raised_16 (negsuc n) small = subst Is16 (sym (negsuc-*ℤ-pos n 256 ∙ negated (suc n * 256) (omega arith))) (omega (arith, small))

middle_8 : (n : ℕ) → n < 256 → alaw_magnitude (pos n -ℤ pos 128) < 128
middle_8 n small = elim (cases_lt n 128) [ inl low ↦ rw (lt-ltb n 128 low) (omega (arith, low)) | inr high ↦ rw (le-ltb n 128 high) (omega (arith, small, high)) ]

kept_16 : (n : ℕ) → n < 2 ^ 16 → Is16 (signed 16 n *ℤ pos 1)
unfolding one
kept_16 n small = subst Is16 (sym (*ℤ-one (signed 16 n))) (elim (cases_lt n 32768) [
  | inl low ↦ rw (lt-ltb n 32768 low) (omega (arith, low))
  | inr high ↦ rw (le-ltb n 32768 high) (omega (arith, small, high))
])

lowered_16 : (n : ℕ) → n < 2 ^ 32 → Is16 (int_div_euclid (signed 32 n) (pos 65536))
lowered_16 n small = elim (cases_lt n 2147483648) [
  | inl low ↦ rw (lt-ltb n 2147483648 low) (omega (arith, low))
  | inr high ↦ rw (le-ltb n 2147483648 high) (omega (arith, small, high))
]

-- a sample in 16 bits
sample_16 : (f : SampleFormat) (bytes : List ℕ) (i : ℕ) → IsBytes bytes → Is16 (converted (8 * format_size f) 16 (sample_at (format_size f) bytes i))
sample_16 SampleFormat.U8 bytes i h = raised_16 (sample_at 1 bytes i) (middle_8 _ (little_small 1 (drop (1 * i) bytes) (drop_small (1 * i) bytes h)))
sample_16 _ bytes i h =
    let of = λ (size : ℕ). little_small size (drop (size * i) bytes) (drop_small (size * i) bytes h) in
    search (raised_16 (sample_at 1 bytes i) (middle_8 _ (of 1)), kept_16 _ (of 2), lowered_16 _ (of 4))

-- ---- coded samples

-- what a codec makes of each sample is bytes
abbrev pub CodesBytes : Option SampleCodec → Type 0
CodesBytes None = Unit {0}
CodesBytes (Some s) = (shape : SoundShape) (bytes : List ℕ) (frame channel : ℕ) → IsBytes bytes → IsBytes (coded_at s shape bytes frame channel)

pcm_bytes : (size : ℕ) (out : SampleFormat) → CodesBytes (Some (pcm size out))
pcm_bytes size out shape bytes frame channel h = bytes_small size _

pub codes_bytes : CodesAreBytes → (id : CodecId) → CodesBytes (sample_codec id)
codes_bytes laws CodecId.PcmU8 = pcm_bytes 1 SampleFormat.U8
codes_bytes laws CodecId.PcmS16 = pcm_bytes 2 SampleFormat.S16
codes_bytes laws CodecId.PcmS24 = pcm_bytes 3 SampleFormat.S32
codes_bytes laws CodecId.PcmS32 = pcm_bytes 4 SampleFormat.S32
codes_bytes laws CodecId.Alaw = λ shape bytes frame channel h. one_small _ [] (laws.alaw _ (sample_16 shape.format bytes (place_of shape frame channel) h)).byte nothing_small
codes_bytes laws CodecId.Ulaw = λ shape bytes frame channel h. one_small _ [] (laws.ulaw _).byte nothing_small
codes_bytes laws _ = tt

pub coded_small : (s : SampleCodec) (shape : SoundShape) (bytes : List ℕ) → CodesBytes (Some s) → IsBytes bytes → IsBytes (coded s shape bytes)
coded_small s shape bytes each h =
    flat_small (coded_frame s shape bytes) (λ frame. flat_small (coded_at s shape bytes frame) (λ channel. each shape bytes frame channel h) 0 shape.channels) 0 shape.frames

-- ---- the config that an output carries

-- no blank and no line feed
abbrev pub IsWord : List ℕ → Type 0
IsWord text = Lacks 32 text × (list_all is_no_feed text ≡ true)

no_blank : (text : List ℕ) → list_all (λ b. not (b == 32)) text ≡ true → Lacks 32 text
no_blank text h = λ i lt same. (let never = sym (list_all_at (λ (b : ℕ). not (b == 32)) text i 0 lt (ap (λ (b : ℕ). not (b == 32)) same)) ∙ h in absurd cc)

-- a codec string that is found among others is a word where each of them is
found_word : (text word : List ℕ) (k : CodecId) (rest : Option CodecId) → list_all (λ b. not (b == 32)) word ≡ true → list_all is_no_feed word ≡ true
    → (is_some rest ≡ true → IsWord text) → is_some (cond (bytes_eq text word) (Some k) rest) ≡ true → IsWord text
found_word text word k rest blank feed others =
    cond_both (bytes_eq text word) (Some k) rest (λ o. is_some o ≡ true → IsWord text) (λ same there. subst IsWord (sym ((bytes_eq-Decides text word).0 same)) (no_blank word blank, feed)) (λ same there. others there)

codec_word : (text : List ℕ) → is_some (audio_codec text) ≡ true → IsWord text
codec_word text =
    found_word text (codes "pcm-u8") _ _ refl refl (found_word text (codes "pcm-s16") _ _ refl refl (found_word text (codes "pcm-s24") _ _ refl refl (found_word text (codes "pcm-s32") _ _ refl refl
    (found_word text (codes "alaw") _ _ refl refl (found_word text (codes "ulaw") _ _ refl refl (found_word text (codes "flac") _ _ refl refl (λ there. absurd cc)))))))

pub record IsLabelWithin (d : AudioDecoderConfig) : Type 0 where
  pub word : IsWord d.codec
  pub rate : d.rate < 2 ^ 32
  pub channels : d.channels < 2 ^ 32
  pub description : IsBytes (unwrap_or d.description [])

pub label_within : (d : AudioDecoderConfig) → IsLabel IsConfigWithin d → IsLabelWithin d
label_within d label = by label.config label.passed label.has_coder label.decodes
  where
    by : (c : Config) → IsConfigWithin c → is_some (coder_id_of c) ≡ true → decoder_config c ≡ Some d → IsLabelWithin d
    by (Config.AudioEncoder c) own coder is =
        let described = described_where (λ (o : Option (List ℕ)). IsBytes (unwrap_or o [])) c nothing_small (stream_description_fits c) in
        let known = elim (audio_codec c.codec) as (λ o. is_some (id_with Role.Encode o) ≡ true → is_some o ≡ true) [ None ↦ λ h. absurd cc | Some i ↦ λ h. refl ] coder in
        subst IsLabelWithin (some_same _ d is) (record { word = codec_word c.codec known; rate = own.0; channels = own.1; description = described })
    by _ own coder is = absurd cc
