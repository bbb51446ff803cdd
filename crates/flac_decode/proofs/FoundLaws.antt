-- Frames in front of bytes: at most one, of some bytes, with a block of fewer than 65,536 samples.
use Rattle.std.proofs.Common.{◌≡◌, ℕ, ℤ, ◌+◌, ◌<◌, ◌≤◌, ◌==◌, ltb, Bool, true, false, List, Option, Some, None, length, take, refl, sym, ap, ◌∙◌, arith, length-append}
use Rattle.wc_config.specs.declared.stream_info.StreamInfo.{StreamInfo}
use Rattle.flac_definitions.specs.Bits.{bits_of, start_of}
use Rattle.flac_definitions.specs.BitLaws.{length-bits_of}
use Rattle.flac_definitions.specs.Frame.{frame_at, frame_of}
use Rattle.flac_definitions.specs.FrameSpelling.{FramesAreSpelled}
use Rattle.flac_definitions.specs.Grammar.{IsNumber, IsGiven, IsNothing, InOrder, Either}
use Rattle.flac_definitions.specs.GrammarLaws.{same_some}
use Rattle.flac_definitions.specs.Header.{is_long_block_size, common_block_size}
use Rattle.flac_definitions.specs.HeaderSpelling.{IsTested, IsBlockSize, IsHeader}
use Rattle.flac_definitions.specs.Sums.{bits_sum}
use Rattle.flac_definitions.specs.declared.header.FrameHeader.{FrameHeader}
use Rattle.std.proofs.lemmas.Bool.{ltb-true}
use Rattle.flac_decode.specs.FrameEnd.{most, EndsAt, FramesAreFound, end_of}
use Rattle.flac_decode.proofs.FrameEndLaws.{ends_once, is_spelled}

once_by : (info : StreamInfo) (bytes : List ℕ) (o : Option ℕ) → EndsAt info bytes o → (m n : ℕ) (f g : FrameHeader × List ℤ) → m ≤ length bytes → n ≤ length bytes → frame_of info (take m bytes) ≡ Some f → frame_of info (take n bytes) ≡ Some g → m ≡ n
once_by info bytes None h m n f g lm ln p q = absurd (h m f lm p)
once_by info bytes (Some k) h m n f g lm ln p q = h.2 m f lm p ∙ sym (h.2 n g ln q)

-- ---- a block size

common_small : (code : ℕ) → common_block_size code < 65536
common_small code = grind arith

tested_small : (t : Bool) (v x : ℕ) (bits : List Bool) → ltb v 65535 ≡ t → Either t (IsGiven (Some v)) IsNothing x bits → x < 65535
tested_small true v x bits e h = omega (arith, ltb-true v 65535 e, same_some v x h.0)
tested_small false v x bits e h = absurd h

long_small : (t : Bool) (code block : ℕ) (bits : List Bool)
    → Either t (InOrder (IsTested is_long_block_size 16) (λ x. IsGiven (Some (x + 1)))) (IsGiven (Some (common_block_size code))) block bits → block < 65536
long_small true code block bits h = omega (arith, same_some (h.value + 1) block h.second.0, tested_small (ltb h.first.value 65535) h.first.value h.value h.first.back refl h.first.second)
long_small false code block bits h = omega (arith, same_some (common_block_size code) block h.0, common_small code)

short_small : (t : Bool) (code block : ℕ) (bits : List Bool)
    → Either t (InOrder (IsNumber 8) (λ x. IsGiven (Some (x + 1)))) (Either (code == 7) (InOrder (IsTested is_long_block_size 16) (λ x. IsGiven (Some (x + 1)))) (IsGiven (Some (common_block_size code)))) block bits
    → block < 65536
short_small true code block bits h = omega (arith, same_some (h.value + 1) block h.second.0, h.first.0)
short_small false code block bits h = long_small (code == 7) code block bits h

block_small : (code block : ℕ) (bits : List Bool) → IsBlockSize code block bits → block < 65536
block_small code block bits h = short_small (code == 6) code block bits h

header_small : (info : StreamInfo) (h : FrameHeader) (bits : List Bool) → IsHeader info h bits → h.block < 65536
header_small info h bits a =
    let codes = a.fields in
    let number = codes.second in
    let block = number.second in
    let rate = block.second in
    let small = block_small codes.value.block block.value block.front block.first in
    omega (arith, small, ap (λ (x : FrameHeader). x.block) (same_some _ h rate.second.0))

pub found : FramesAreSpelled → FramesAreFound
found laws = record {
  each = λ info bytes. (end_of (frame_at info (start_of (take most bytes))), ends_once laws info bytes);
  once = λ info bytes m n f g lm ln p q. once_by info bytes _ (ends_once laws info bytes) m n f g lm ln p q;
  some = λ info bytes f e.
      let s = is_spelled laws info bytes f e in
      let sum = bits_sum 16 0x8005 s.1.front in
      omega (arith, s.2, ap length s.1.summed, length-append s.1.front (bits_of 16 sum), length-bits_of 16 sum);
  block = λ info bytes f e. let s = is_spelled laws info bytes f e in header_small info f.0 s.1.head s.1.header;
}
