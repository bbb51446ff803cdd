-- Lines that end in hex.
use Rattle.std.proofs.Common.{◌≡◌, ℕ, List, ◌++◌, append_assoc, codes}
use Rattle.report_text.specs.{Words.◌<>◌, Text.hex_or_dash}

-- a line that was put together from its head (in two parts), its time and duration, and its hex
pub output_line : (s n old a b b2 ts ts2 dur dur2 bytes bytes2 l1 l2 line : List ℕ) → b2 ≡ b → bytes2 ≡ bytes → l1 ≡ old ++ a → l2 ≡ l1 ++ b2
    → line ≡ l2 ++ (s ++ ts2 ++ s ++ dur2 ++ s) ++ hex_or_dash bytes2 ++ n → ts2 ≡ ts → dur2 ≡ dur
    → line ≡ old ++ (((a <> b) <> s <> ts <> s <> dur <> s) ++ hex_or_dash bytes ++ n)
output_line s n old a b b2 ts ts2 dur dur2 bytes bytes2 l1 l2 line e f p q r g h = rw (r, q, p, e, g, h, f) (simp append_assoc)

-- a config's line, from its head and its hex
pub config_line : (old a codec rate channels bytes mid more line : List ℕ)
    → mid ≡ old ++ a ++ codec ++ codes " " ++ rate ++ codes " " ++ channels ++ codes " " → more ≡ mid ++ hex_or_dash bytes → line ≡ more ++ codes "\n"
    → line ≡ old ++ ((a <> codec <> codes " " <> rate <> codes " " <> channels <> codes " ") ++ hex_or_dash bytes ++ codes "\n")
config_line old a codec rate channels bytes mid more line p q r = rw (r, q, p) (simp append_assoc)
