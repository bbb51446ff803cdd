-- What is read as a description spells it.
use Rattle.std.proofs.Common.{ℕ, ◌≡◌, ◌≤◌, ◌+◌, ◌-◌, ◌*◌, ◌/◌, ◌%◌, ◌^◌, Bool, true, false, cond, List, [], ◌∷◌, ◌++◌, length, take, drop, Some, None, refl, sym, ap, subst, ◌∙◌, arith, append_assoc, length-take, length-drop}
use Rattle.std.specs.Prelude.{◌&&◌, nat_le, bytes_eq, codes, ◌==◌}
use Rattle.std.proofs.lemmas.Bool.{leb-true, eqb-true}
use Rattle.std.proofs.lemmas.Slice.Eq.{bytes_eq-Decides}
use Rattle.flac_definitions.specs.Bits.{bits_of, number_of, bits_in}
use Rattle.flac_definitions.specs.BitLaws.{IsBytes, bits_of-number_of, length-bits_in}
use Rattle.flac_write.specs.WriterLaws.{bits_split, bits_mod}
use Rattle.wc_config.specs.Streams.{big_endian, stream_info_of, is_usable, streaminfo_of}
use Rattle.wc_config.specs.declared.stream_info.StreamInfo.{StreamInfo}
use Rattle.flac_definitions.specs.Descriptions.{CanBeWritten, field_bits, description_bits}
use Rattle.flac_description.specs.Laws.{Spells}
use Rattle.flac_description.proofs.Lists.{take_fits, drop_fits, spelled_number, parts, bits_of_parts, regroup}

same_some : (a b : StreamInfo) → Some a ≡ Some b → a ≡ b
same_some a b e = cc

none_is : (b : StreamInfo) → None ≡ Some b → ⊥
none_is b e = cc

tests_held : (p q r u : Bool) (a b : StreamInfo) → cond (p && q && r && u) (Some a) None ≡ Some b → (p ≡ true) × (q ≡ true) × (r ≡ true) × (u ≡ true) × (a ≡ b)
tests_held true true true true a b e = (refl, refl, refl, refl, same_some a b e)
tests_held true true true false a b e = absurd (none_is b e)
tests_held true true false u a b e = absurd (none_is b e)
tests_held true false r u a b e = absurd (none_is b e)
tests_held false q r u a b e = absurd (none_is b e)

front : (a b n : ℕ) → bits_of (a + b) n ≡ bits_of a (n / 2 ^ b % 2 ^ a) ++ bits_of b n
front a b n =
    bits_split a b n ∙ (ap (λ (l : List Bool). l ++ bits_of b (n % 2 ^ b)) (sym (bits_mod a (n / 2 ^ b)))
    ∙ ap (λ (l : List Bool). bits_of a (n / 2 ^ b % 2 ^ a) ++ l) (bits_mod b n))

behind : (a : List Bool) (b c d : List Bool) → a ≡ b ++ c → c ≡ d → a ≡ b ++ d
behind a b c d e f = e ∙ ap (λ (l : List Bool). b ++ l) f

eight : (a b c d e f g h : List Bool) → a ++ (b ++ (c ++ (d ++ (e ++ (f ++ (g ++ h)))))) ≡ a ++ b ++ c ++ d ++ e ++ f ++ g ++ h
eight a b c d e f g h = simp append_assoc refl

-- the bits of the fields' number, field by field
fields_spelled : (block : List ℕ) → bits_of 144 (big_endian (take 18 block)) ≡ field_bits (stream_info_of block)
fields_spelled block =
    let i = stream_info_of block in
    let n = big_endian (take 18 block) in
    let channels : n / 2 ^ 41 % 2 ^ 3 ≡ (n / 2 ^ 41 % 2 ^ 3 + 1) - 1 = omega arith in
    let depth : n / 2 ^ 36 % 2 ^ 5 ≡ (n / 2 ^ 36 % 2 ^ 5 + 1) - 1 = omega arith in
    let total : n % 2 ^ 36 ≡ n / 2 ^ 0 % 2 ^ 36 = omega arith in
    let last : bits_of 36 n ≡ bits_of 36 (n / 2 ^ 0 % 2 ^ 36) = sym (bits_mod 36 n) ∙ ap (bits_of 36) total in
    let five = behind _ _ _ _ (front 5 36 n ∙ ap (λ (k : ℕ). bits_of 5 k ++ bits_of 36 n) depth) last in
    let three = behind _ _ _ _ (front 3 41 n ∙ ap (λ (k : ℕ). bits_of 3 k ++ bits_of 41 n) channels) five in
    let rate = behind _ _ _ _ (front 20 44 n) three in
    let frame = behind _ _ _ _ (front 24 64 n) rate in
    let frames = behind _ _ _ _ (front 24 88 n) frame in
    let size = behind _ _ _ _ (front 16 112 n) frames in
    behind _ _ _ _ (front 16 128 n) size
    ∙ eight (bits_of 16 i.min_block) (bits_of 16 i.max_block) (bits_of 24 i.min_frame) (bits_of 24 i.max_frame) (bits_of 20 i.rate) (bits_of 3 (i.channels - 1)) (bits_of 5 (i.depth - 1)) (bits_of 36 i.total)

one_bit : (n : ℕ) → bits_of 1 n ≡ (n / 2 ^ 0 % 2 == 1) ∷ []
unfolding bits_of
one_bit n = refl

rest_of_header : bits_of 31 34 ≡ bits_of 7 0 ++ bits_of 24 34
unfolding bits_of
rest_of_header = refl

header_spelled : (h : ℕ) → h % 2 ^ 31 ≡ 34 → bits_of 32 h ≡ (h / 2 ^ 31 / 2 ^ 0 % 2 == 1) ∷ [] ++ bits_of 7 0 ++ bits_of 24 34
header_spelled h e =
    bits_split 1 31 h ∙ (ap (λ (l : List Bool). l ++ bits_of 31 (h % 2 ^ 31)) (one_bit (h / 2 ^ 31))
    ∙ ap (λ (l : List Bool). (h / 2 ^ 31 / 2 ^ 0 % 2 == 1) ∷ [] ++ l) (ap (bits_of 31) e ∙ rest_of_header))

-- bytes by the bits of their number
by_number : (xs : List ℕ) (k : ℕ) → IsBytes xs → 8 * length xs ≡ k → bits_in xs ≡ bits_of k (big_endian xs)
by_number xs k own e =
    sym (bits_of-number_of (bits_in xs)) ∙ (ap (λ (m : ℕ). bits_of m (number_of (bits_in xs))) (length-bits_in xs ∙ e)
    ∙ ap (bits_of k) (sym (spelled_number xs own)))

fields_fit : (block : List ℕ) → CanBeWritten (stream_info_of block)
fields_fit block = record {
  min_block = omega arith;
  max_block = omega arith;
  min_frame = omega arith;
  max_frame = omega arith;
  rate = omega arith;
  some_channels = omega arith;
  few_channels = omega arith;
  some_depth = omega arith;
  few_depth = omega arith;
  total = omega arith;
}

four_equal : (a b c d a' b' c' d' : List Bool) → a ≡ a' → b ≡ b' → c ≡ c' → d ≡ d' → a ++ (b ++ (c ++ d)) ≡ a' ++ (b' ++ (c' ++ d'))
four_equal a b c d a' b' c' d' p q r s = cc

pub read_is_spelled : (info : StreamInfo) (bytes : List ℕ) → IsBytes bytes → streaminfo_of bytes ≡ Some info → Spells bytes info
read_is_spelled info bytes own e =
    let m = take 4 bytes in let h = take 4 (drop 4 bytes) in
    let block = take 34 (drop 8 bytes) in
    let f = take 18 block in let t = drop 18 block in
    let held = tests_held (nat_le 42 (length bytes)) (bytes_eq m (codes "fLaC")) (big_endian h % 2 ^ 31 == 34) (is_usable (stream_info_of block)) (stream_info_of block) info e in
    let long : 42 ≤ length bytes = leb-true 42 (length bytes) held.0 in
    let mark : m ≡ codes "fLaC" = (bytes_eq-Decides m (codes "fLaC")).0 held.1 in
    let number : big_endian h % 2 ^ 31 ≡ 34 = eqb-true (big_endian h % 2 ^ 31) 34 held.2 in
    let own_h = take_fits 4 (drop 4 bytes) (drop_fits 4 bytes own) in
    let own_block = take_fits 34 (drop 8 bytes) (drop_fits 8 bytes own) in
    let block_long : length block ≡ 34 = omega (arith, length-take 34 (drop 8 bytes), length-drop 8 bytes) in
    let bit = big_endian h / 2 ^ 31 / 2 ^ 0 % 2 == 1 in
    let header : bits_in h ≡ bit ∷ [] ++ bits_of 7 0 ++ bits_of 24 34 = by_number h 32 own_h (omega (arith, length-take 4 (drop 4 bytes), length-drop 4 bytes)) ∙ header_spelled (big_endian h) number in
    let fields : bits_in f ≡ field_bits (stream_info_of block) = by_number f 144 (take_fits 18 block own_block) (omega (arith, length-take 18 block, block_long)) ∙ fields_spelled block in
    let whole : bits_in (take 42 bytes) ≡ description_bits bit (stream_info_of block) =
    ap bits_in (parts bytes) ∙ (bits_of_parts m h f t ∙ (four_equal _ _ _ _ _ _ _ _ (ap bits_in mark) header fields refl
    ∙ sym (regroup (bits_in (codes "fLaC")) (bit ∷ []) (bits_of 7 0) (bits_of 24 34) (field_bits (stream_info_of block)) (bits_in t)))) in
    let spells : Spells bytes (stream_info_of block) = record {
      fields = fields_fit block;
      usable = held.3;
      sum = omega (arith, length-drop 18 block, block_long);
      sum_bytes = drop_fits 18 block own_block;
      last = bit;
      bits = whole;
    } in
    subst (λ (i : StreamInfo). Spells bytes i) held.4 spells
