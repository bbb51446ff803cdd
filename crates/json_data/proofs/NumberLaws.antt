-- The number of a text, by its sign.
use Rattle.std.proofs.Common.{◌≡◌, ℕ, List, true, false, drop, slice_index, ◌==◌, if◌then◌else◌, Some, None, option_and_then, arith}
use Rattle.fast_float.specs.Text.{minus, Parts, scan}
use Rattle.serde_json.specs.{Find.as_u64, Read.number_from, Read.number_of}

pub number_of-signed : (s rest : List ℕ) → Some rest ≡ (if slice_index s 0 == minus then Some (drop 1 s) else None) → number_of s ≡ number_from true (scan rest)
unfolding number_of
number_of-signed s rest e = grind arith

pub number_of-unsigned : (s : List ℕ) → None ≡ (if slice_index s 0 == minus then Some (drop 1 s) else None) → number_of s ≡ number_from false (scan s)
unfolding number_of
number_of-unsigned s e = grind arith

-- no number behind a minus is a natural
pub as_u64-negative : (p : Parts) → None ≡ option_and_then as_u64 (number_from true p)
as_u64-negative p = grind arith
