-- Frames, part by part.
use Rattle.std.proofs.Common.{ℕ, ℤ, ◌≡◌, ◌+◌, ◌*◌, ◌%◌, Bool, List, [], ◌∷◌, ◌++◌, length, ap, sym, subst, ◌∙◌, arith, append-nil, append_assoc, length-append, zero-add}
use Rattle.std.specs.List.{flat_map, range_with_len}
use Rattle.std.proofs.lemmas.List.Concat.{flat_map-append}
use Rattle.flac_definitions.specs.Bits.{bits_of}
use Rattle.flac_definitions.specs.BitLaws.{length-bits_of}
use Rattle.flac_plans.specs.FitLaws.{range_more}
use Rattle.flac_definitions.specs.declared.mode.BlockFormat.{BlockFormat}
use Rattle.flac_definitions.specs.declared.mode.ChannelMode.{ChannelMode}
use Rattle.flac_definitions.specs.declared.mode.BlockChoice.{BlockChoice}
use Rattle.flac_definitions.specs.Modes.{coded_of, IsModeOf, IsFormat, IsBlock, IsBestBlock}
use Rattle.flac_blocks.specs.Search.{AreFitting}
use Rattle.flac_definitions.specs.FrameWriting.{mode_frame_bits, frame_bits}
use Rattle.flac_blocks.specs.CodedLaws.{best_is_mode, coded_fits, coded_count}

-- one more number behind, and its bits
pub part_more : (g : ℕ → List Bool) (before now next : List Bool) (n : ℕ) → now ≡ before ++ flat_map g (range_with_len 0 n) → next ≡ now ++ g n → next ≡ before ++ flat_map g (range_with_len 0 (n + 1))
part_more g before now next n so_far added =
    let front = flat_map g (range_with_len 0 n) in
    let more : flat_map g (range_with_len 0 (n + 1)) ≡ front ++ g n =
    ap (flat_map g) (range_more 0 n n (zero-add n)) ∙ (flat_map-append g (range_with_len 0 n) (n ∷ []) ∙ ap (λ (l : List Bool). front ++ l) (append-nil (g n))) in
    added ∙ (ap (λ (l : List Bool). l ++ g n) so_far ∙ (append_assoc before front (g n) ∙ ap (λ (l : List Bool). before ++ l) (sym more)))

pub whole_more : (before bits : List Bool) (v : ℕ) → bits ≡ before ++ bits_of 16 v → length before % 8 ≡ 0 → length bits % 8 ≡ 0
whole_more before bits v e h =
    let n : length bits ≡ length before + 16 = ap (λ (l : List Bool). length l) e ∙ (length-append before (bits_of 16 v) ∙ ap (λ (k : ℕ). length before + k) (length-bits_of 16 v)) in
    omega (arith, n, h)

-- ---- the best block

pub best_has_mode : (f : BlockFormat) (block : ℕ) (xs : List ℤ) (b : BlockChoice) → IsBestBlock f block xs b → IsModeOf f b.mode
best_has_mode f block xs b h = subst (IsModeOf f) (sym h.mode) (best_is_mode f block xs)

pub best_fits : (f : BlockFormat) (block : ℕ) (xs : List ℤ) (b : BlockChoice) → IsFormat f → IsBlock f block xs → IsBestBlock f block xs b → AreFitting f b.mode block b.coded.items
best_fits f block xs b hf hb h = subst (AreFitting f b.mode block) (sym h.coded) (coded_fits f b.mode block xs (best_has_mode f block xs b h) hf hb)

pub best_count : (f : BlockFormat) (block : ℕ) (xs : List ℤ) (b : BlockChoice) → IsBlock f block xs → IsBestBlock f block xs b → length b.coded.items ≡ f.channels * block
best_count f block xs b hb h = ap (λ (l : List ℤ). length l) h.coded ∙ coded_count f b.mode block xs (best_has_mode f block xs b h) hb

pub best_frame : (f : BlockFormat) (block number : ℕ) (xs : List ℤ) (b : BlockChoice) → IsBestBlock f block xs b → mode_frame_bits f b.mode block number b.coded.items ≡ frame_bits f block number xs
best_frame f block number xs b h = ap (mode_frame_bits f b.mode block number) h.coded ∙ ap (λ (m : ChannelMode). mode_frame_bits f m block number (coded_of m block xs)) h.mode
