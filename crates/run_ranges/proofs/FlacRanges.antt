-- The samples of a FLAC frame are within their types.
use Rattle.std.proofs.Common.{ℕ, ℤ, ◌≡◌, ◌<◌, ◌+◌, ◌^◌, ◌&&◌, not, Bool, true, false, cond, List, Option, Some, None, Result, Ok, Err, subst, arith, lit<}
use Rattle.std.specs.Prelude.{◌==◌}
use Rattle.std.proofs.lemmas.Bool.{cond_both}
use Rattle.wc_base.specs.Options.{cond_is, some_same}
use Rattle.wc_config.specs.declared.stream_info.StreamInfo.{StreamInfo}
use Rattle.flac_definitions.specs.declared.{fault.HeaderFault.HeaderFault, fault.HeaderField.HeaderField, header.FrameHeader.FrameHeader}
use Rattle.flac_definitions.specs.Bits.{Place, number_at, start_of}
use Rattle.flac_definitions.specs.{Results.or_fault, Results.without_fault, GrammarLaws.number, Subframe.channels_at}
use Rattle.flac_definitions.specs.Results as result
use Rattle.flac_definitions.specs.Header.{field_at, tested_at, is_long_block_size, common_block_size, block_size_at, codes_at, coded_number_at, sample_rate_at, header_sum_at, channels_of, depth_of, is_stream_depth, header_at}
use Rattle.flac_definitions.specs.Frame.{footer_at, frame_at, if_all_bytes, frame_of}
use Rattle.history_laws.specs.WholeLaws.{bind_some, bind_ok, fault_none, given_header}

-- ---- what readers gave, one after another

ok_same : {A E : Type 0} (x y : A) → (let r : Result A E = Ok x in r) ≡ Ok y → x ≡ y
ok_same x y h = cc

fault_or : {A E : Type 0} (e : E) (o : Option A) (y : A) → or_fault e o ≡ Ok y → o ≡ Some y
fault_or e None y h = absurd cc
fault_or e (Some x) y h = cc

-- ---- the block size

field_small : (n : ℕ) (p : Place) (x : ℕ × Place) → field_at n p ≡ Ok x → x.0 < 2 ^ n
field_small n p x h = ((number n).sound p x.1 x.0 (fault_or _ (number_at n p) x h)).fine.0

tested_small : (good : ℕ → Bool) (bad : ℕ → HeaderFault) (n : ℕ) (p : Place) (x : ℕ × Place) → tested_at good bad n p ≡ Ok x → x.0 < 2 ^ n
tested_small good bad n p x h =
    let found = bind_ok (field_at n p) _ x h in
    cond_both (good found.0.0) _ _ (λ r. r ≡ Ok x → x.0 < 2 ^ n) (λ is e. subst (λ (z : ℕ × Place). z.0 < 2 ^ n) (ok_same found.0 x e) (field_small n p found.0 found.1)) (λ is e. absurd cc) found.2

either : (b : Bool) (m n k : ℕ) → m < k → n < k → cond b m n < k
either b m n k a c = cond_both b m n (λ x. x < k) (λ is. a) (λ is. c)

common_small : (code : ℕ) → common_block_size code < 2 ^ 32
common_small code = search (either, lit<) depth 30

block_small : (code : ℕ) (p : Place) (x : ℕ × Place) → block_size_at code p ≡ Ok x → x.0 < 2 ^ 32
unfolding block_size_at
block_small code p x h = by (code == 6) (code == 7) h
  where
    one_more : (n : ℕ) (r : Result (ℕ × Place) HeaderFault) → n < 2 ^ 32 → ((y : ℕ × Place) → r ≡ Ok y → y.0 < n) → result.◌>>=◌ r (λ y. Ok (y.0 + 1, y.1)) ≡ Ok x → x.0 < 2 ^ 32
    one_more n r few small e =
        let found = bind_ok r (λ y. Ok (y.0 + 1, y.1)) x e in
        subst (λ (z : ℕ × Place). z.0 < 2 ^ 32) (ok_same (found.0.0 + 1, found.0.1) x found.2) (omega (arith, small found.0 found.1, few))

    by : (a b : Bool) → cond a (result.◌>>=◌ (field_at 8 p) (λ y. Ok (y.0 + 1, y.1))) (cond b (result.◌>>=◌ (tested_at is_long_block_size HeaderFault.Reserved 16 p) (λ y. Ok (y.0 + 1, y.1))) (Ok (common_block_size code, p))) ≡ Ok x → x.0 < 2 ^ 32
    by true b e = one_more (2 ^ 8) (field_at 8 p) (lit< tt) (λ y is. field_small 8 p y is) e
    by false true e = one_more (2 ^ 16) (tested_at is_long_block_size HeaderFault.Reserved 16 p) (lit< tt) (λ y is. tested_small is_long_block_size HeaderFault.Reserved 16 p y is) e
    by false false e = subst (λ (z : ℕ × Place). z.0 < 2 ^ 32) (ok_same (common_block_size code, p) x e) (common_small code)

-- ---- headers and frames

third : {A E : Type 0} (a b c : Bool) (d e f : E) (x y : A) → cond a (Err d) (cond b (Err e) (cond c (Err f) (Ok x))) ≡ Ok y → x ≡ y
third false false false d e f x y h = cc
third _ _ _ d e f x y h = absurd cc

header_small : (info : StreamInfo) (p : Place) (h : FrameHeader × Place) → header_at info p ≡ Ok h → h.0.block < 2 ^ 32
unfolding header_at
header_small info p h is =
    let codes = bind_ok (codes_at p) _ h is in
    let number = bind_ok (coded_number_at codes.0.1) _ h codes.2 in
    let block = bind_ok (block_size_at codes.0.0.block number.0.1) _ h number.2 in
    let rate = bind_ok (sample_rate_at info.rate codes.0.0.rate block.0.1) _ h block.2 in
    let sum = bind_ok (header_sum_at p.at rate.0.1) _ h rate.2 in
    let made : FrameHeader × Place = (record { block = block.0.0; rate = rate.0.0; assignment = codes.0.0.assignment; depth = depth_of info.depth codes.0.0.depth; number = number.0.0 }, sum.0.1) in
    let same = third (not (made.0.rate == info.rate)) (not (channels_of made.0.assignment == info.channels)) (not (is_stream_depth info.depth && (made.0.depth == info.depth))) (HeaderFault.Differs HeaderField.Rate) (HeaderFault.Differs HeaderField.Channels) (HeaderFault.Differs HeaderField.Depth) made h sum.2 in
    subst (λ (z : FrameHeader × Place). z.0.block < 2 ^ 32) {x = made} same (block_small codes.0.0.block number.0.1 block.0 block.1)

frame_small : (info : StreamInfo) (p : Place) (g : (FrameHeader × List ℤ) × Place) → frame_at info p ≡ Some g → g.0.0.block < 2 ^ 32
unfolding frame_at
frame_small info p g is =
    let header = bind_some (without_fault (header_at info p)) _ g is in
    let h : FrameHeader = header.0.0 in
    let coded = bind_some (channels_at h.assignment h.depth h.block 0 (channels_of h.assignment) header.0.1) _ g header.2 in
    let end = bind_some (footer_at coded.0.1) _ g coded.2 in
    subst (λ (z : FrameHeader). z.block < 2 ^ 32) (given_header header.0.0 end.0.1 _ g end.2) (header_small info p header.0 (fault_none (header_at info p) header.0 header.1))

-- a frame has fewer samples of a channel than 2 ^ 32
pub frame_within : (info : StreamInfo) (bytes : List ℕ) (f : FrameHeader × List ℤ) → frame_of info bytes ≡ Some f → f.0.block < 2 ^ 32
frame_within info bytes f is =
    let read = (cond_is _ _ f is).1 in
    let frame = bind_some (frame_at info (start_of bytes)) (if_all_bytes bytes) f read in
    let whole = (cond_is _ (Some frame.0.0) f frame.2).1 in
    subst (λ (z : FrameHeader × List ℤ). z.0.block < 2 ^ 32) (some_same frame.0.0 f whole) (frame_small info (start_of bytes) frame.0 frame.1)
