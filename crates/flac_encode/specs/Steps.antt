-- What a command gives and leaves, from what is kept before it.
use Rattle.std.specs.Prelude.{ℕ, ℤ, pos, ◌≡◌, ◌<◌, ◌≤◌, ◌+◌, ◌-◌, ◌*◌, ◌/◌, ◌%◌, ◌^◌, nat_lt, true, List, [], ◌∷◌, ◌++◌, length, drop, map, Option, Some, None, if◌then◌else◌}
use Rattle.std.specs.List.{range_with_len}
use Rattle.wc_base.specs.declared.media.Samples.{Samples}
use Rattle.wc_config.specs.declared.config.AudioEncoderConfig.{AudioEncoderConfig}
use Rattle.codec_definitions.specs.declared.unit.Unit as unit
use Rattle.codec_definitions.specs.declared.command.Command.{Command}
use Rattle.codec_definitions.specs.declared.command.Command.TheVariants as command
use Rattle.wc_config.specs.Configs.{audio_codec, is_depth, is_flac}
use Rattle.codec_definitions.specs.FlacCode.{block_frames, block_samples}
use Rattle.codec_definitions.specs.FlacEncoder.{Kept, nothing_kept, block_at, block_unit, values_in, is_taken, unit_of_rest}

-- where frame `n` of kept frames and of an input behind them stands: the first of the kept stands at `place`, and a block
-- begins at no other of them
abbrev pub place_after : ℕ → ℤ × ℕ → ℤ → ℕ → ℤ × ℕ
place_after kept place timestamp n = if nat_lt n kept then place else (timestamp, n - kept)

-- the same where no frame is left
abbrev pub place_left : List ℤ → ℤ × ℕ → ℤ × ℕ
place_left [] place = (pos 0, 0)
place_left (x ∷ xs) place = place

-- block `j` of the kept samples and those of an input behind them
abbrev pub step_unit : AudioEncoderConfig → ℕ → ℕ → ℤ × ℕ → ℤ → List ℤ → ℕ → unit.Unit
step_unit c number kept place timestamp joined j =
    block_unit c ((number + j) % 2 ^ 31) (block_at (block_samples c) joined j) (place_after kept place timestamp (j * block_frames c))

abbrev pub kept_frames : AudioEncoderConfig → Kept → ℕ
kept_frames c state = length state.rest / c.channels

abbrev pub joined : AudioEncoderConfig → Kept → Samples → List ℤ
joined c state s = state.rest ++ values_in c s

abbrev pub step_units : AudioEncoderConfig → Kept → Samples → List unit.Unit
step_units c state s =
    let all = joined c state s in
    map (step_unit c state.number (kept_frames c state) (state.origin, state.offset) s.shape.timestamp all) (range_with_len 0 (length all / block_samples c))

abbrev pub left_after : AudioEncoderConfig → ℕ → ℕ → ℤ × ℕ → ℤ → List ℤ → ℕ → Kept
left_after c number kept place timestamp joined blocks =
    let rest = drop (block_samples c * blocks) joined in
    let begin = place_left rest (place_after kept place timestamp (blocks * block_frames c)) in
    record { rest = rest; origin = begin.0; offset = begin.1; number = (number + blocks) % 2 ^ 31 }

abbrev pub step_state : AudioEncoderConfig → Kept → Samples → Kept
step_state c state s =
    let all = joined c state s in
    left_after c state.number (kept_frames c state) (state.origin, state.offset) s.shape.timestamp all (length all / block_samples c)

abbrev pub step_answer : AudioEncoderConfig → Kept → Command → Option (List unit.Unit)
step_answer c state (command.Sound s) = if is_taken c s then Some (step_units c state s) else None
step_answer c state command.Drain = Some (unit_of_rest state.rest (block_unit c state.number state.rest (state.origin, state.offset)))
step_answer c state x = None

abbrev pub step_after : AudioEncoderConfig → Kept → Command → Kept
step_after c state (command.Sound s) = step_state c state s
step_after c state command.Drain = nothing_kept
step_after c state x = state

-- what a config is that is served: FLAC's, with each number in its range
pub record IsRanged (c : AudioEncoderConfig) : Type 0 where
  pub flac : is_flac (audio_codec c.codec) ≡ true
  pub rate : 0 < c.rate
  pub most_rate : c.rate ≤ 1048575
  pub channels : 0 < c.channels
  pub most_channels : c.channels ≤ 8
  pub most_block : c.block_size ≤ 65535
  pub depth : is_depth c.depth ≡ true
  pub level : c.level ≤ 8
