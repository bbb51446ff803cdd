-- FLAC's encoder (W3C WebCodecs, registration for FLAC) codes blocks of frames: an input gives the blocks that are complete
-- with it and not without it, a drain gives the rest, and numbering begins anew after it.
use Rattle.std.specs.Prelude.{ℕ, ℤ, pos, ◌+ℤ◌, ◌-◌, ◌*◌, ◌/◌, ◌%◌, ◌^◌, ◌==◌, ◌&&◌, nat_lt, Bool, true, List, [], ◌∷◌, ◌++◌, length, take, drop, map, fold, Option, Some, None, if◌then◌else◌}
use Rattle.std.specs.List.{flat_map, range_with_len}
use Rattle.std.specs.Int.{w64, saturate_signed}
use Rattle.wc_base.specs.declared.media.Samples.{Samples}
use Rattle.wc_config.specs.declared.config.AudioEncoderConfig.{AudioEncoderConfig}
use Rattle.codec_definitions.specs.Pcm.{converted, sample_at, format_size, place_of, is_whole}
use Rattle.codec_definitions.specs.FlacCode.{block_frames, block_samples, flac_code}
use Rattle.codec_definitions.specs.declared.unit.Unit as unit
use Rattle.codec_definitions.specs.declared.unit.Unit.TheVariants as unit_of
use Rattle.codec_definitions.specs.declared.command.Command.{Command}
use Rattle.codec_definitions.specs.declared.command.Command.TheVariants as command

-- the inputs since the last drain
abbrev pub kept_with : List Samples → Command → List Samples
kept_with inputs (command.Sound s) = inputs ++ s ∷ []
kept_with inputs command.Drain = []
kept_with inputs x = inputs

abbrev pub inputs_since : List Command → List Samples
inputs_since commands = fold kept_with [] commands

-- their samples at the config's depth, frame by frame
abbrev pub value_at : AudioEncoderConfig → Samples → ℕ → ℕ → ℤ
value_at c s frame channel = converted (8 * format_size s.shape.format) c.depth (sample_at (format_size s.shape.format) s.bytes (place_of s.shape frame channel))

abbrev pub frame_values : AudioEncoderConfig → Samples → ℕ → List ℤ
frame_values c s frame = map (value_at c s frame) (range_with_len 0 c.channels)

abbrev pub values_in : AudioEncoderConfig → Samples → List ℤ
values_in c s = flat_map (frame_values c s) (range_with_len 0 s.shape.frames)

abbrev pub values_of : AudioEncoderConfig → List Samples → List ℤ
values_of c inputs = flat_map (values_in c) inputs

-- where a frame stands: the timestamp of the input that holds it, and its number there; (0, 0) past all inputs
abbrev pub place_in : List Samples → ℕ → ℤ × ℕ
place_in [] n = (pos 0, 0)
place_in (s ∷ rest) n = if nat_lt n s.shape.frames then (s.shape.timestamp, n) else place_in rest (n - s.shape.frames)

abbrev pub stamp_of : AudioEncoderConfig → ℤ × ℕ → ℤ
stamp_of c place = saturate_signed w64 (place.0 +ℤ pos (place.1 * 1000000 / c.rate))

-- the key chunk of a block with this number whose first frame stands there
abbrev pub block_unit : AudioEncoderConfig → ℕ → List ℤ → ℤ × ℕ → unit.Unit
block_unit c number values place = unit_of.Coded (record { key = true; timestamp = stamp_of c place; duration = Some (length values / c.channels * 1000000 / c.rate); bytes = flac_code c number values }) None

-- block `i` of `n` samples each; the last may be shorter
abbrev pub block_at : ℕ → List ℤ → ℕ → List ℤ
block_at n values i = take n (drop (n * i) values)

abbrev pub whole_blocks : AudioEncoderConfig → List Samples → ℕ
whole_blocks c inputs = length (values_of c inputs) / block_samples c

abbrev pub unit_at : AudioEncoderConfig → List Samples → ℕ → unit.Unit
unit_at c inputs i = block_unit c (i % 2 ^ 31) (block_at (block_samples c) (values_of c inputs) i) (place_in inputs (i * block_frames c))

-- the units of the blocks that are whole with the last input and not without it
abbrev pub units_with : AudioEncoderConfig → List Samples → Samples → List unit.Unit
units_with c inputs s =
    let all = inputs ++ s ∷ [] in
    map (unit_at c all) (range_with_len (whole_blocks c inputs) (whole_blocks c all - whole_blocks c inputs))

abbrev pub rest_of : AudioEncoderConfig → List Samples → List ℤ
rest_of c inputs = drop (block_samples c * whole_blocks c inputs) (values_of c inputs)

-- a block of the rest, where there is one
abbrev pub unit_of_rest : List ℤ → unit.Unit → List unit.Unit
unit_of_rest [] u = []
unit_of_rest (x ∷ xs) u = u ∷ []

-- samples of another rate or channel count, or with bytes that are not as many as their shape needs, are refused (our
-- choice)
abbrev pub is_taken : AudioEncoderConfig → Samples → Bool
is_taken c s = (s.shape.rate == c.rate) && (s.shape.channels == c.channels) && is_whole s.shape s.bytes

abbrev pub blocks_answer : AudioEncoderConfig → List Command → Command → Option (List unit.Unit)
blocks_answer c before (command.Sound s) = if is_taken c s then Some (units_with c (inputs_since before) s) else None
blocks_answer c before command.Drain = Some (unit_of_rest (rest_of c (inputs_since before)) (unit_at c (inputs_since before) (whole_blocks c (inputs_since before))))
blocks_answer c before x = None

-- What an encoder keeps between commands: the samples that no block has yet, frame by frame; the timestamp of the input that
-- holds the first of them, and its frame there; and the number of the next block.
pub record Kept : Type 0 where
  pub rest : List ℤ
  pub origin : ℤ
  pub offset : ℕ
  pub number : ℕ

-- nothing
abbrev pub nothing_kept : Kept
nothing_kept = record { rest = []; origin = pos 0; offset = 0; number = 0 }

-- what is kept after inputs since a drain
abbrev pub kept_after : AudioEncoderConfig → List Samples → Kept
kept_after c inputs =
    let place = place_in inputs (whole_blocks c inputs * block_frames c) in
    record { rest = rest_of c inputs; origin = place.0; offset = place.1; number = whole_blocks c inputs % 2 ^ 31 }

abbrev pub blocks_state : AudioEncoderConfig → List Command → Kept
blocks_state c commands = kept_after c (inputs_since commands)
