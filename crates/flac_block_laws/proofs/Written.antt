-- Frames that are written spell their samples.
use Rattle.std.proofs.Common.{ℕ, zero, suc, ℤ, ◌≡◌, ◌<◌, ◌≤◌, ◌+◌, ◌-◌, ◌*◌, ◌^◌, ◌==◌, Bool, true, false, cond, List, [], ◌∷◌, ◌++◌, length, drop, Option, Some, None, inl, inr, refl, ap, sym, subst, ◌∙◌, arith, drop-drop, length-drop, length-take, append-nil}
use Rattle.std.specs.List.{flat_map, range_with_len, AllByRecursion}
use Rattle.std.proofs.Math.Nat.{mul-le-mul_right}
use Rattle.std.proofs.lemmas.Bool.{cases_lt, le-ltb, lt-ltb, eq-eqb}
use Rattle.std.proofs.lemmas.List.{take-append-drop, drop_all}
use Rattle.wc_config.specs.declared.stream_info.StreamInfo.{StreamInfo}
use Rattle.flac_definitions.specs.Bits.{bits_in, Begins, start_of}
use Rattle.flac_definitions.specs.BitLaws.{length-bits_in}
use Rattle.flac_definitions.specs.Options.{◌>>=◌}
use Rattle.flac_definitions.specs.Header.{channels_of}
use Rattle.flac_definitions.specs.Frame.{frame_of, frame_at, if_all_bytes}
use Rattle.flac_definitions.specs.FrameSpelling.{IsFrame, FramesAreSpelled}
use Rattle.flac_definitions.specs.Grammar.{InOrder, IsGiven}
use Rattle.flac_definitions.specs.HeaderSpelling.{IsDescribed}
use Rattle.flac_definitions.specs.SubframeSpelling.{IsSubframe, AreChannels}
use Rattle.flac_definitions.specs.declared.header.FrameHeader.{FrameHeader}
use Rattle.flac_definitions.specs.HeaderWriting.{header_bits}
use Rattle.flac_write.specs.HeaderLaws.{WrittenHeadersAreRead}
use Rattle.flac_write.specs.SpellingLaws.{in_order, in_order_given}
use Rattle.flac_subframe_laws.specs.Laws as subframe
use Rattle.flac_definitions.specs.Modes.{channel_of, coded_of, coded_depth, assignment_of, channel_candidate, best_mode, IsModeOf, IsFormat, mode_bits, other_modes}
use Rattle.flac_blocks.specs.Search.{AreFitting}
use Rattle.flac_definitions.specs.FrameWriting.{header_of, channel_spelled, channels_spelled, padded, mode_frame_bits, frame_bits}
use Rattle.flac_blocks.specs.CodedLaws.{coded_fits, coded_count, header_writable, depth_is, depth_some, shortest_at_most}
use Rattle.flac_definitions.specs.declared.mode.BlockFormat.{BlockFormat}
use Rattle.flac_definitions.specs.declared.mode.ChannelMode.{ChannelMode}
use Rattle.flac_definitions.specs.declared.mode.ChannelMode.TheVariants.{Independent, LeftSide, SideRight, MidSide}
use Rattle.flac_block_laws.specs.Laws.{Describes, CanBeWritten, WrittenFramesAreRead}
use Rattle.flac_block_laws.proofs.Restored.{samples_back}
use Rattle.flac_block_laws.proofs.Lengths.{subframe_length, channels_length}
use Rattle.flac_definitions.specs.Candidates.{shorter, first_shortest}

count_is : (f : BlockFormat) (m : ChannelMode) → IsFormat f → IsModeOf f m → channels_of (assignment_of f.channels m) ≡ f.channels
count_is f Independent h o =
    let few : f.channels - 1 < 8 = omega (arith, h.few) in
    ap (λ (t : Bool). cond t (f.channels - 1 + 1) 2) (lt-ltb (f.channels - 1) 8 few) ∙ omega (arith, h.some)
count_is f LeftSide h o = sym o
count_is f SideRight h o = sym o
count_is f MidSide h o = sym o

some_bit : (a b : ℕ) (t : Bool) → 1 ≤ a → 1 ≤ cond t (a + 1) a
some_bit a b true h = omega arith
some_bit a b false h = h

-- ---- channels, one after another

-- where all channels stand
pub record AreCoded (f : BlockFormat) (m : ChannelMode) (block : ℕ) (coded : List ℤ) : Type 0 where
  pub some : 0 < block
  pub depth : 1 ≤ f.depth
  pub count : length coded ≡ f.channels * block
  pub fit : AreFitting f m block coded

one_channel : subframe.WrittenSubframesAreRead → (f : BlockFormat) (m : ChannelMode) (block : ℕ) (coded : List ℤ) (c : ℕ) → AreCoded f m block coded → c < f.channels
    → IsSubframe (coded_depth f m c) block (channel_of block coded c) (channel_spelled f m block coded c)
one_channel law f m block coded c h less =
    let xs = channel_of block coded c in
    let d = coded_depth f m c in
    let room : (c + 1) * block ≤ f.channels * block = mul-le-mul_right block (omega (arith, less)) in
    let long : length xs ≡ block = omega (arith, length-take block (drop (c * block) coded), length-drop (c * block) coded, h.count, room) in
    let writable : subframe.IsWritable d xs (channel_candidate f m block coded c) = record {
      depth_some = some_bit f.depth 0 _ h.depth;
      samples_some = omega (arith, long, h.some);
      samples = h.fit c less;
      candidate = law.best d f.level xs;
    } in
    subst (λ (n : ℕ). IsSubframe d n xs (channel_spelled f m block coded c)) long (law.spelled d xs (channel_candidate f m block coded c) writable)

channels_from : subframe.WrittenSubframesAreRead → (f : BlockFormat) (m : ChannelMode) (block : ℕ) (coded : List ℤ) (c n : ℕ) → AreCoded f m block coded → c + n ≡ f.channels
    → AreChannels (assignment_of f.channels m) f.depth block c n (drop (c * block) coded) (flat_map (channel_spelled f m block coded) (range_with_len c n))
channels_from law f m block coded c zero h e =
    let end : length coded ≤ c * block = omega (arith, h.count, ap (λ (k : ℕ). k * block) (sym e)) in
    (ap (λ (v : List ℤ). Some v) (sym (drop_all (c * block) coded end)), refl)
channels_from law f m block coded c (suc n) h e =
    let xs = channel_of block coded c in
    let ys = drop ((c + 1) * block) coded in
    let g = channel_spelled f m block coded in
    let place : drop block (drop (c * block) coded) ≡ ys = drop-drop block (c * block) coded ∙ ap (λ (k : ℕ). drop k coded) (omega arith) in
    let whole : xs ++ ys ≡ drop (c * block) coded = ap (λ (v : List ℤ). xs ++ v) (sym place) ∙ take-append-drop block (drop (c * block) coded) in
    in_order (IsSubframe (coded_depth f m c) block) (λ v. InOrder (AreChannels (assignment_of f.channels m) f.depth block (c + 1) n) (λ w. IsGiven (Some (v ++ w)))) xs (drop (c * block) coded)
    (g c) (flat_map g (range_with_len (c + 1) n))
    (one_channel law f m block coded c h (omega (arith, e)))
    (in_order_given (AreChannels (assignment_of f.channels m) f.depth block (c + 1) n) (λ w. IsGiven (Some (xs ++ w))) ys (drop (c * block) coded) (flat_map g (range_with_len (c + 1) n))
    (channels_from law f m block coded (c + 1) n h (omega (arith, e)))
    (ap (λ (v : List ℤ). Some v) whole, refl))

-- ---- frames

described_is : (info : StreamInfo) (f : BlockFormat) (m : ChannelMode) (block number : ℕ) → IsFormat f → IsModeOf f m → Describes info f → IsDescribed info (header_of f m block number)
described_is info f m block number h o d =
    let few = depth_is f.depth h.depth in
    (d.rate, count_is f m h o ∙ d.channels, d.depth, omega (arith, few.0, d.depth), omega (arith, few.1, d.depth))

frame_spelled : subframe.WrittenSubframesAreRead → WrittenHeadersAreRead → (info : StreamInfo) (f : BlockFormat) (m : ChannelMode) (block number : ℕ) (xs : List ℤ) → CanBeWritten info f m block number xs
    → IsFrame info (header_of f m block number, xs) (mode_frame_bits f m block number (coded_of m block xs))
frame_spelled law heads info f m block number xs w =
    let h = header_of f m block number in
    let coded = coded_of m block xs in
    let b = w.samples in
    let stand : AreCoded f m block coded = record { some = b.some; depth = depth_some f w.format; count = coded_count f m block xs w.mode b; fit = coded_fits f m block xs w.mode w.format b } in
    let start : 0 * block ≡ 0 = omega arith in
    let none : drop (0 * block) coded ≡ coded = ap (λ (k : ℕ). drop k coded) start in
    let all = channels_from law f m block coded 0 f.channels stand (omega arith) in
    let counted : AreChannels h.assignment h.depth h.block 0 (channels_of h.assignment) coded (channels_spelled f m block coded f.channels) =
    subst (λ (n : ℕ). AreChannels h.assignment h.depth h.block 0 n coded (channels_spelled f m block coded f.channels)) (sym (count_is f m w.format w.mode))
    (subst (λ (v : List ℤ). AreChannels h.assignment h.depth h.block 0 f.channels v (channels_spelled f m block coded f.channels)) none all) in
    record {
      head = header_bits h;
      body = channels_spelled f m block coded f.channels;
      coded = coded;
      header = heads.spelled info h (header_writable f m block number w.format b.some b.few w.small) (described_is info f m block number w.format w.mode w.described);
      channels = counted;
      samples = samples_back f m block xs w.format w.mode b;
      front = padded (header_bits h ++ channels_spelled f m block coded f.channels);
      padded = refl;
      summed = refl;
    }

-- bytes with these bits are read
bytes_read : FramesAreSpelled → (info : StreamInfo) (x : FrameHeader × List ℤ) (bits : List Bool) (bytes : List ℕ) → IsFrame info x bits → length bytes < 2 ^ 61 → bits_in bytes ≡ bits → frame_of info bytes ≡ Some x
bytes_read law info x bits bytes h few e =
    let begins : Begins (start_of bytes) bits = record { rest = []; whole = e ∙ sym (append-nil bits) } in
    let read = law.whole info bytes x bits h begins in
    let end : (0 + length bits == 8 * length bytes) ≡ true = eq-eqb (0 + length bits) (8 * length bytes) (omega (arith, ap (λ (l : List Bool). length l) e, length-bits_in bytes)) in
    ap (λ (t : Bool). cond t (frame_at info (start_of bytes) >>= if_all_bytes bytes) None) (lt-ltb (length bytes) (2 ^ 61) few)
    ∙ (ap (λ (o : Option _). o >>= if_all_bytes bytes) read ∙ ap (λ (t : Bool). cond t (Some x) None) end)

-- the first of least length is no longer than any
shorter_second : {A : Type 0} (g : A → ℕ) (a b : A) → g (shorter g a b) ≤ g b
shorter_second {A} g a b = elim (cases_lt (g b) (g a)) [
  | inl l ↦ (let e : shorter g a b ≡ b = ap (λ (t : Bool). cond t b a) (lt-ltb (g b) (g a) l) in omega (arith, ap g e))
  | inr n ↦ (let e : shorter g a b ≡ a = ap (λ (t : Bool). cond t b a) (le-ltb (g b) (g a) n) in omega (arith, n, ap g e))
]

least_from : {A : Type 0} (g : A → ℕ) (best a : A) (bs : List A) → best ≡ first_shortest g a bs → AllByRecursion (λ x. g best ≤ g x) bs
unfolding first_shortest
least_from g best a [] e = tt
least_from g best a (b ∷ bs) e =
    let rest : g best ≤ g (shorter g a b) = omega (arith, ap g e, shortest_at_most g (shorter g a b) bs) in
    (omega (arith, rest, shorter_second g a b), least_from g best (shorter g a b) bs e)

least_of : {A : Type 0} (g : A → ℕ) (a : A) (bs : List A) → AllByRecursion (λ x. g (first_shortest g a bs) ≤ g x) (a ∷ bs)
least_of g a bs = (shortest_at_most g a bs, least_from g (first_shortest g a bs) a bs refl)

pub written_frames : subframe.WrittenSubframesAreRead → WrittenHeadersAreRead → FramesAreSpelled → WrittenFramesAreRead
written_frames law heads frames = record {
  restored = samples_back;
  candidate_lengths = subframe_length;
  mode_lengths = channels_length law.best;
  least = λ f block xs. least_of (mode_bits f block xs) Independent (other_modes f);
  spelled = frame_spelled law heads;
  best = λ info f block number xs w. frame_spelled law heads info f (best_mode f block xs) block number xs w;
  read = λ info f block number xs bytes w few e.
      bytes_read frames info (header_of f (best_mode f block xs) block number, xs) (frame_bits f block number xs) bytes (frame_spelled law heads info f (best_mode f block xs) block number xs w) few e;
}
