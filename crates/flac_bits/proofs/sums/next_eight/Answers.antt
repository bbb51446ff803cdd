use Rattle.std.proofs.Common.{◌≡◌, ◌/◌, ◌%◌, ◌<◌, ◌^◌, ℕ, [], ◌∷◌, refl, arith, ap, sym, ◌∙◌}
use Rattle.std.specs.Prelude.{bit_and}
use Rattle.std.specs.Int.Bits.{bit_xor, xor_zero_r}
use Rattle.std.proofs.lemmas.Nat.{and_mask}
use Rattle.flac_bits.specs.ByteSums.{after_zeros, after_bytes}
use Rattle.flac_bits.proofs.ByteSumLaws.{eight_bytes}
use Rattle.flac_bits.proofs.sums.next_eight.Goals as goal

assembled : (f7 f6 f5 f4 f3 f2 f1 f0 sum low a b c d e f g h : ℕ) → sum < 2 ^ 16 → a < 256 → b < 256 → c < 256 → d < 256 → e < 256 → f < 256 → g < 256 → h < 256
    → low ≡ sum % 256
    → f7 ≡ after_zeros 16 0x8005 72 (bit_xor (sum / 256) a) → f6 ≡ after_zeros 16 0x8005 64 (bit_xor low b) → f5 ≡ after_zeros 16 0x8005 56 c → f4 ≡ after_zeros 16 0x8005 48 d
    → f3 ≡ after_zeros 16 0x8005 40 e → f2 ≡ after_zeros 16 0x8005 32 f → f1 ≡ after_zeros 16 0x8005 24 g → f0 ≡ after_zeros 16 0x8005 16 h
    → bit_xor f7 (bit_xor f6 (bit_xor f5 (bit_xor f4 (bit_xor f3 (bit_xor f2 (bit_xor f1 f0)))))) ≡ after_bytes 16 0x8005 sum (a ∷ b ∷ c ∷ d ∷ e ∷ f ∷ g ∷ h ∷ [])
assembled f7 f6 f5 f4 f3 f2 f1 f0 sum low a b c d e f g h hs ha hb hc hd he hf hg hh el e7 e6 e5 e4 e3 e2 e1 e0 =
    let z = λ (n x : ℕ). after_zeros 16 0x8005 n x in
    let s0 : f0 ≡ bit_xor (z 16 h) 0 = e0 ∙ sym (xor_zero_r (z 16 h)) in
    let s1 : bit_xor f1 f0 ≡ bit_xor (z 24 g) (bit_xor (z 16 h) 0) = ap (λ x. bit_xor x f0) e1 ∙ ap (λ x. bit_xor (z 24 g) x) s0 in
    let s2 : bit_xor f2 (bit_xor f1 f0) ≡ bit_xor (z 32 f) (bit_xor (z 24 g) (bit_xor (z 16 h) 0)) = ap (λ x. bit_xor x (bit_xor f1 f0)) e2 ∙ ap (λ x. bit_xor (z 32 f) x) s1 in
    let s3 : bit_xor f3 (bit_xor f2 (bit_xor f1 f0)) ≡ bit_xor (z 40 e) (bit_xor (z 32 f) (bit_xor (z 24 g) (bit_xor (z 16 h) 0))) = ap (λ x. bit_xor x (bit_xor f2 (bit_xor f1 f0))) e3 ∙ ap (λ x. bit_xor (z 40 e) x) s2 in
    let s4 = ap (λ x. bit_xor x (bit_xor f3 (bit_xor f2 (bit_xor f1 f0)))) e4 ∙ ap (λ x. bit_xor (z 48 d) x) s3 in
    let s5 = ap (λ x. bit_xor x (bit_xor f4 (bit_xor f3 (bit_xor f2 (bit_xor f1 f0))))) e5 ∙ ap (λ x. bit_xor (z 56 c) x) s4 in
    ap (λ x. bit_xor x (bit_xor f6 (bit_xor f5 (bit_xor f4 (bit_xor f3 (bit_xor f2 (bit_xor f1 f0))))))) e7
    ∙ ap (λ x. bit_xor (z 72 (bit_xor (sum / 256) a)) (bit_xor x (bit_xor f5 (bit_xor f4 (bit_xor f3 (bit_xor f2 (bit_xor f1 f0))))))) (e6 ∙ ap (λ x. z 64 (bit_xor x b)) el)
    ∙ ap (λ x. bit_xor (z 72 (bit_xor (sum / 256) a)) (bit_xor (z 64 (bit_xor (sum % 256) b)) x)) s5
    ∙ eight_bytes sum a b (c ∷ d ∷ e ∷ f ∷ g ∷ h ∷ []) refl hs ha hb (hc, (hd, (he, (hf, (hg, (hh, tt))))))

pub returns : goal.returns
returns c =
    let a = c.args in
    assembled c.part_7.result c.part_6.result c.part_5.result c.part_4.result c.part_3.result c.part_2.result c.part_1.result c.part_0.result a.sum (bit_and a.sum 255) a.a a.b a.c a.d a.e a.f a.g a.h
    (omega arith) (omega arith) (omega arith) (omega arith) (omega arith) (omega arith) (omega arith) (omega arith) (omega arith)
    (and_mask a.sum 8) c.part_7.ensures c.part_6.ensures c.part_5.ensures c.part_4.ensures c.part_3.ensures c.part_2.ensures c.part_1.ensures c.part_0.ensures
