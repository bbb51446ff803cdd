-- Samples that stand one after another.
use Rattle.std.specs.Prelude.{ℕ, ℤ, ◌*◌, List}
use Rattle.codec_definitions.specs.Pcm.{converted, sample_at}

-- one of samples of so many bytes, at a depth
abbrev pub run_value : ℕ → ℕ → List ℕ → ℕ → ℤ
run_value size depth bytes i = converted (8 * size) depth (sample_at size bytes i)
