use Rattle.std.proofs.Common.{◌≡◌, ◌<◌, ℕ, [], ◌∷◌, refl, arith, ap, sym, ◌∙◌}
use Rattle.std.specs.Int.Bits.{bit_xor, xor_zero_r}
use Rattle.flac_bits.specs.ByteSums.{after_zeros, after_bytes}
use Rattle.flac_bits.proofs.ByteSumLaws.{four_bytes}
use Rattle.flac_bits.proofs.sums.next_four.Goals as goal

together : (p3 p2 p1 p0 sum a b c d : ℕ) → sum < 256 → a < 256 → b < 256 → c < 256 → d < 256
    → p3 ≡ after_zeros 8 0x07 32 (bit_xor sum a) → p2 ≡ after_zeros 8 0x07 24 b → p1 ≡ after_zeros 8 0x07 16 c → p0 ≡ after_zeros 8 0x07 8 d
    → bit_xor p3 (bit_xor p2 (bit_xor p1 p0)) ≡ after_bytes 8 0x07 sum (a ∷ b ∷ c ∷ d ∷ [])
together p3 p2 p1 p0 sum a b c d hs ha hb hc hd e3 e2 e1 e0 =
    let z = λ (n x : ℕ). after_zeros 8 0x07 n x in
    let s0 : p0 ≡ bit_xor (z 8 d) 0 = e0 ∙ sym (xor_zero_r (z 8 d)) in
    let s1 : bit_xor p1 p0 ≡ bit_xor (z 16 c) (bit_xor (z 8 d) 0) = ap (λ x. bit_xor x p0) e1 ∙ ap (λ x. bit_xor (z 16 c) x) s0 in
    let s2 : bit_xor p2 (bit_xor p1 p0) ≡ bit_xor (z 24 b) (bit_xor (z 16 c) (bit_xor (z 8 d) 0)) = ap (λ x. bit_xor x (bit_xor p1 p0)) e2 ∙ ap (λ x. bit_xor (z 24 b) x) s1 in
    ap (λ x. bit_xor x (bit_xor p2 (bit_xor p1 p0))) e3
    ∙ ap (λ x. bit_xor (z 32 (bit_xor sum a)) x) s2
    ∙ four_bytes sum a (b ∷ c ∷ d ∷ []) refl hs ha (hb, (hc, (hd, tt)))

pub returns : goal.returns
returns c =
    let a = c.args in
    together c.part_3.result c.part_2.result c.part_1.result c.part_0.result a.sum a.a a.b a.c a.d
    (omega arith) (omega arith) (omega arith) (omega arith) (omega arith) c.part_3.ensures c.part_2.ensures c.part_1.ensures c.part_0.ensures
