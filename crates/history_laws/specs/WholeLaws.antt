-- Every output of a legal history has as many bytes as its shape asks for.
use Rattle.std.proofs.Common.{ℕ, zero, suc, ℤ, ◌≡◌, ◌+◌, ◌-◌, ◌*◌, ◌/◌, ◌%◌, ◌^◌, ◌<◌, ◌&&◌, not, Bool, true, false, cond, List, [], ◌∷◌, ◌++◌, length, length-append, take, drop, Option, Some, None, Result, Ok, Err, refl, ap, sym, subst, ◌∙◌, mul_assoc, mul_comm, div-add-mod', arith}
use Rattle.std.specs.Prelude.{◌==◌, nat_le, nat_lt, pos, ◌*ℤ◌, slice_index_or as get_or}
use Rattle.std.specs.List.{AllByRecursion, flat_map, range_with_len, list_any}
use Rattle.std.proofs.lemmas.Bool.{and_parts, eqb-true}
use Rattle.std.proofs.lemmas.Nat.{div-mul-add}
use Rattle.std.proofs.lemmas.List.FromFn.{length-map-range_with_len}
use Rattle.wc_base.specs.Options.{cond_is, some_same}
use Rattle.wc_base.specs.declared.media.SampleFormat.TheVariants as format
use Rattle.wc_chunk.specs.declared.chunk.Chunk.{Chunk}
use Rattle.wc_config.specs.declared.codec.CodecId.{CodecId}
use Rattle.wc_config.specs.declared.codec.CodecId.TheVariants as codec
use Rattle.wc_config.specs.declared.config.AudioDecoderConfig.{AudioDecoderConfig}
use Rattle.wc_config.specs.declared.stream_info.StreamInfo.{StreamInfo}
use Rattle.flac_definitions.specs.declared.fault.HeaderFault.TheVariants as fault
use Rattle.flac_definitions.specs.declared.fault.HeaderField.TheVariants as field
use Rattle.flac_definitions.specs.declared.header.FrameHeader.{FrameHeader}
use Rattle.flac_definitions.specs.Bits.{Place, start_of}
use Rattle.flac_definitions.specs.Options.{◌>>=◌}
use Rattle.flac_definitions.specs.Results.{without_fault}
use Rattle.flac_definitions.specs.Results as result
use Rattle.flac_definitions.specs.Header.{block_size_at, codes_at, coded_number_at, sample_rate_at, header_sum_at, channels_of, is_stream_depth, if_described, header_at}
use Rattle.flac_definitions.specs.Subframe.{channels_at}
use Rattle.flac_definitions.specs.Frame.{footer_at, with_header, frame_at, if_all_bytes, frame_of}
use Rattle.picture_planes.specs.Planes.{picture_size}
use Rattle.codec_definitions.specs.declared.unit.Unit as media
use Rattle.codec_definitions.specs.declared.unit.Unit.TheVariants as unit
use Rattle.codec_definitions.specs.Pcm.{bytes_of, spelled, converted, format_size}
use Rattle.codec_definitions.specs.SampleCodecs.{SampleCodec, sample_codec, decoded_at, decoded}
use Rattle.codec_definitions.specs.Flac.{sample_size, sample_bytes, interchannel_bytes, bytes_of_frame, flac_format, flac_sound}
use Rattle.codec_definitions.specs.RawVideo.{is_key, chunks_since_drain, from_last_key, picture_byte, picture_of, last_picture}
use Rattle.codec_model.specs.declared.entry.Opening.{Opening}
use Rattle.codec_model.specs.declared.entry.Entry.{Entry}
use Rattle.codec_model.specs.Shown.{shown, outputs_of}
use Rattle.history_laws.specs.Outputs.{Judge, HoldsOwn, IsWholeUnit, all_own}
use Rattle.history_laws.specs.UnitLaws.{decoded_sound, are_frames, EachAnswer, by_answers}
use Rattle.history_laws.specs.BlockLaws.{answers_blocks, blocks_where}
use Rattle.history_laws.specs.OutputLaws.{outputs_are}
use Rattle.history_laws.specs.CountLaws.{outputs_each}

abbrev AllWhole : List media.Unit → Type 0
AllWhole us = AllByRecursion IsWholeUnit us

-- ---- bytes

length-bytes_of : (size n : ℕ) → length (bytes_of size n) ≡ size
length-bytes_of zero n = refl
length-bytes_of (suc size) n = ap suc (length-bytes_of size (n / 256))

length-spelled : (size : ℕ) (v : ℤ) → length (spelled size v) ≡ size
length-spelled size v = length-bytes_of size _

length_rows : (f : ℕ → List ℕ) (each a n : ℕ) → ((i : ℕ) → length (f i) ≡ each) → length (flat_map f (range_with_len a n)) ≡ n * each
length_rows f each a zero h = omega arith
length_rows f each a (suc n) h = length-append (f a) (flat_map f (range_with_len (a + 1) n)) ∙ omega (arith, h a, length_rows f each (a + 1) n h)

-- ---- codecs that code each sample by itself

length-decoded : (s : SampleCodec) (bytes : List ℕ) → length (decoded s bytes) ≡ length bytes / s.size * format_size s.format
length-decoded s bytes = length_rows (decoded_at s bytes) (format_size s.format) 0 (length bytes / s.size) (λ i. length-spelled (format_size s.format) (converted s.bits (8 * format_size s.format) (s.value (take s.size (drop (s.size * i) bytes)))))

-- as many coded samples as frames have
samples_in_frames : (n size channels : ℕ) → 0 < size → n % (size * channels) ≡ 0 → n / size ≡ n / (size * channels) * channels
samples_in_frames n size channels some whole =
    let frames = n / (size * channels) in
    let all : n ≡ frames * channels * size + 0 = omega (arith, div-add-mod' n (size * channels), whole, mul_comm size channels, ap (λ (m : ℕ). frames * m) (mul_comm size channels), mul_assoc frames channels size) in
    ap (λ (m : ℕ). m / size) all ∙ div-mul-add (frames * channels) size 0 some

abbrev HasSize : Option SampleCodec → Type 0
HasSize None = Unit {0}
HasSize (Some s) = 0 < s.size

has_size : (id : CodecId) → HasSize (sample_codec id)
has_size codec.PcmU8 = omega arith
has_size codec.PcmS16 = omega arith
has_size codec.PcmS24 = omega arith
has_size codec.PcmS32 = omega arith
has_size codec.Alaw = omega arith
has_size codec.Ulaw = omega arith
has_size codec.Flac = tt
has_size codec.RawI420 = tt
has_size codec.RawI422 = tt
has_size codec.RawI444 = tt
has_size codec.RawNv12 = tt

sound_whole : (id : CodecId) (s : SampleCodec) (c : AudioDecoderConfig) (chunk : Chunk) → sample_codec id ≡ Some s → are_frames s c chunk ≡ true → IsWholeUnit (unit.Sound (decoded_sound s c chunk))
sound_whole id s c chunk is fine =
    let frame = s.size * c.channels in
    let whole = (and_parts (length chunk.bytes % frame == 0) (nat_lt (length chunk.bytes / frame) (2 ^ 32)) fine).0 in
    length-decoded s chunk.bytes
    ∙ ap (λ (n : ℕ). n * format_size s.format) (samples_in_frames (length chunk.bytes) s.size c.channels (subst HasSize is (has_size id)) (eqb-true (length chunk.bytes % frame) 0 whole))

-- ---- FLAC: what readers gave, one after another

pub bind_some : {A B : Type 0} (o : Option A) (f : A → Option B) (y : B) → (o >>= f) ≡ Some y → (x : A) × (o ≡ Some x) × (f x ≡ Some y)
bind_some None f y h = absurd cc
bind_some (Some x) f y h = (x, refl, h)

pub bind_ok : {A B E : Type 0} (r : Result A E) (f : A → Result B E) (y : B) → result.◌>>=◌ r f ≡ Ok y → (x : A) × (r ≡ Ok x) × (f x ≡ Ok y)
bind_ok (Ok x) f y h = (x, refl, h)
bind_ok (Err e) f y h = absurd cc

pub fault_none : {A E : Type 0} (r : Result A E) (y : A) → without_fault r ≡ Some y → r ≡ Ok y
fault_none (Ok x) y h = cc
fault_none (Err e) y h = absurd cc

-- a header has the channels and the depth of its stream
abbrev Agrees : StreamInfo → FrameHeader → Type 0
Agrees info h = (channels_of h.assignment ≡ info.channels) × (h.depth ≡ info.depth)

agreed : {E : Type 0} (a b c : Bool) (d e f : E) (x y : FrameHeader × Place) → cond (not a) (Err d) (cond (not b) (Err e) (cond (not c) (Err f) (Ok x))) ≡ Ok y → (b ≡ true) × (c ≡ true) × (x ≡ y)
agreed false b c d e f x y h = absurd cc
agreed true false c d e f x y h = absurd cc
agreed true true false d e f x y h = absurd cc
agreed true true true d e f x y h = (refl, refl, cc)

described_agrees : (info : StreamInfo) (h y : FrameHeader × Place) → if_described info h ≡ Ok y → Agrees info y.0
described_agrees info h y is =
    let k = agreed (h.0.rate == info.rate) (channels_of h.0.assignment == info.channels) (is_stream_depth info.depth && (h.0.depth == info.depth)) (fault.Differs field.Rate) (fault.Differs field.Channels) (fault.Differs field.Depth) h y is in
    subst (λ (z : FrameHeader × Place). Agrees info z.0) k.2 (eqb-true (channels_of h.0.assignment) info.channels k.0, eqb-true h.0.depth info.depth (and_parts (is_stream_depth info.depth) (h.0.depth == info.depth) k.1).1)

header_agrees : (info : StreamInfo) (p : Place) (h : FrameHeader × Place) → header_at info p ≡ Ok h → Agrees info h.0
unfolding header_at
header_agrees info p h is =
    let codes = bind_ok (codes_at p) _ h is in
    let number = bind_ok (coded_number_at codes.0.1) _ h codes.2 in
    let block = bind_ok (block_size_at codes.0.0.block number.0.1) _ h number.2 in
    let rate = bind_ok (sample_rate_at info.rate codes.0.0.rate block.0.1) _ h block.2 in
    let sum = bind_ok (header_sum_at p.at rate.0.1) _ h rate.2 in
    described_agrees info _ h sum.2

pub given_header : (h : FrameHeader) (p : Place) (o : Option (List ℤ)) (g : (FrameHeader × List ℤ) × Place) → with_header h p o ≡ Some g → h ≡ g.0.0
given_header h p None g is = absurd cc
given_header h p (Some samples) g is = ap (λ (z : (FrameHeader × List ℤ) × Place). z.0.0) (some_same ((h, samples), p) g is)

read_agrees : (info : StreamInfo) (p : Place) (g : (FrameHeader × List ℤ) × Place) → frame_at info p ≡ Some g → Agrees info g.0.0
unfolding frame_at
read_agrees info p g is =
    let header = bind_some (without_fault (header_at info p)) _ g is in
    let h : FrameHeader = header.0.0 in
    let coded = bind_some (channels_at h.assignment h.depth h.block 0 (channels_of h.assignment) header.0.1) _ g header.2 in
    let end = bind_some (footer_at coded.0.1) _ g coded.2 in
    subst (Agrees info) (given_header header.0.0 end.0.1 _ g end.2) (header_agrees info p header.0 (fault_none (header_at info p) header.0 header.1))

frame_agrees : (info : StreamInfo) (bytes : List ℕ) (f : FrameHeader × List ℤ) → frame_of info bytes ≡ Some f → Agrees info f.0
frame_agrees info bytes f is =
    let read = (cond_is _ _ f is).1 in
    let frame = bind_some (frame_at info (start_of bytes)) (if_all_bytes bytes) f read in
    let whole = (cond_is _ (Some frame.0.0) f frame.2).1 in
    subst (λ (z : FrameHeader × List ℤ). Agrees info z.0) (some_same frame.0.0 f whole) (read_agrees info (start_of bytes) frame.0 frame.1)

length-frame : (h : FrameHeader) (samples : List ℤ) → length (bytes_of_frame h samples) ≡ h.block * (channels_of h.assignment * sample_size h.depth)
unfolding bytes_of_frame
length-frame h samples =
    let size = sample_size h.depth in
    let up = 8 * size - h.depth in
    length_rows (interchannel_bytes size up (channels_of h.assignment) h.block samples) (channels_of h.assignment * size) 0 h.block
    (λ i. length_rows (sample_bytes size up h.block samples i) size 0 (channels_of h.assignment) (λ c. length-spelled size (get_or samples (c * h.block + i) (pos 0) *ℤ pos (2 ^ up))))

flac_size : (depth : ℕ) → format_size (flac_format depth) ≡ sample_size depth
flac_size depth = by (nat_le depth 16)
  where
    by : (b : Bool) → format_size (cond b format.S16 format.S32) ≡ cond b 2 4
    by true = refl
    by false = refl

frame_whole : (info : StreamInfo) (chunk : Chunk) (f : FrameHeader × List ℤ) → frame_of info chunk.bytes ≡ Some f → IsWholeUnit (flac_sound info chunk f.0 f.1)
frame_whole info chunk f is =
    let same = frame_agrees info chunk.bytes f is in
    length-frame f.0 f.1
    ∙ (ap (λ (n : ℕ). f.0.block * (n * sample_size f.0.depth)) same.0
    ∙ (ap (λ (n : ℕ). f.0.block * (info.channels * sample_size n)) same.1
    ∙ (sym (mul_assoc f.0.block info.channels (sample_size info.depth))
    ∙ ap (λ (n : ℕ). f.0.block * info.channels * n) (sym (flac_size info.depth)))))

-- ---- raw video

length-picture : (size : ℕ) (chunks : List (List ℕ)) (bytes : List ℕ) → last_picture size chunks ≡ Some bytes → length bytes ≡ size
length-picture size chunks bytes h =
    let made = (cond_is (list_any is_key chunks) (Some (picture_of size (from_last_key chunks))) bytes h).1 in
    subst (λ (l : List ℕ). length l ≡ size) (some_same _ bytes made) (length-map-range_with_len (picture_byte (from_last_key chunks)) 0 size)

-- ---- codecs

each_whole : EachAnswer (λ c before x us. AllWhole us)
each_whole = record {
  nothing = λ c before x. tt;
  samples = λ id s c before chunk is fine. (sound_whole id s c chunk is fine, tt);
  frame = λ info c before chunk f says is. (frame_whole info chunk f is, tt);
  chunk = λ id s c before samples is. (tt, tt);
  blocks = λ c before x us h. blocks_where IsWholeUnit c (λ number values place few. tt) us (answers_blocks c before x us h);
  picture = λ id c shape before chunk bytes is last. (length-picture (picture_size shape) (chunks_since_drain before ++ chunk.bytes ∷ []) bytes last, tt);
  coded = λ id c shape before picture is taken. (tt, tt);
}

abbrev whole : Judge
whole = record {
  config = λ config. Unit {0};
  input = λ x. Unit {0};
  output = IsWholeUnit;
  nothing = tt;
  drained = tt;
  gives = λ id c before x us own input h. by_answers (λ d b y vs. AllWhole vs) each_whole id c before x us h;
  relabel = λ chunk old new may h. tt;
}

-- ---- histories

entries_own : (h : List Entry) → AllByRecursion (HoldsOwn whole) h
entries_own [] = tt
entries_own (e ∷ es) = (all_own whole.config whole.input (λ config. tt) (λ x. tt) e, entries_own es)

-- every output that a history shows is whole
pub outputs_are_whole : (o : Opening) (h : List Entry) → AllByRecursion IsWholeUnit (outputs_of (shown o h))
outputs_are_whole o h = outputs_each IsWholeUnit o h (outputs_are whole o h (entries_own h))
