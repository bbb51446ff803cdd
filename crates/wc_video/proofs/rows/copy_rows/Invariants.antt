use Rattle.std.proofs.Common.{ℕ, ◌≡◌, [], ◌∷◌, get_or}
use Rattle.wc_video.specs.Copies.{byte_after}
use Rattle.wc_video.proofs.rows.copy_rows.Given as goal

abbrev pub invariant-loop-r : goal.invariant-loop-r
invariant-loop-r l = (j : ℕ) → get_or l.to j 0 ≡ byte_after (record l.c { rows = l.r } ∷ []) l.bytes l.fn.to j
