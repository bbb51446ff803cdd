-- Whole frames are read exactly where they are spelled.
use Rattle.std.proofs.Common.{◌≡◌, ℕ, ℤ, ◌+◌, ◌-◌, ◌/◌, ◌%◌, ◌^◌, ◌<◌, Bool, true, false, not, cond, eqb, ltb, List, [], ◌++◌, Option, Some, None, Result, Ok, Err, length, take, refl, sym, ap, subst, ◌∙◌, arith, length-append, append_assoc, append-nil}
use Rattle.std.proofs.lemmas.Bool.{eqb-true, eq-eqb}
use Rattle.std.proofs.lemmas.Nat.{pow_pos}
use Rattle.wc_config.specs.declared.stream_info.StreamInfo.{StreamInfo}
use Rattle.flac_definitions.specs.Bits.{Place, forward, number_at, bits_of, ahead, left, number_of}
use Rattle.flac_definitions.specs.Sums.{crc16_of}
use Rattle.flac_definitions.specs.BitLaws.{length-bits_of}
use Rattle.flac_definitions.specs.SumLaws.{sum-lt}
use Rattle.flac_definitions.specs.declared.fault.HeaderFault.{HeaderFault}
use Rattle.flac_definitions.specs.declared.header.FrameHeader.{FrameHeader}
use Rattle.flac_definitions.specs.Header.{channels_of, header_at}
use Rattle.flac_definitions.specs.Bits.{Begins}
use Rattle.flac_definitions.specs.PlaceLaws.{begins_first, begins_second, begins_both, forward_twice}
use Rattle.flac_definitions.specs.Stereo.{plain_channels}
use Rattle.flac_definitions.specs.Options.{◌>>=◌}
use Rattle.flac_definitions.specs.Subframe.{channels_at}
use Rattle.flac_definitions.specs.Bits.{start_of}
use Rattle.flac_definitions.specs.Frame.{footer_at, with_header, frame_at}
use Rattle.flac_definitions.specs.Results.{without_fault}
use Rattle.flac_definitions.specs.Grammar.{IsNumber, IsGiven, IsNothing, InOrder, Either, Found, Reads}
use Rattle.flac_definitions.specs.HeaderSpelling.{IsHeader}
use Rattle.flac_definitions.specs.SubframeSpelling.{AreChannels}
use Rattle.flac_definitions.specs.FrameSpelling.{IsFrame}
use Rattle.flac_definitions.specs.Sums.{bits_sum}
use Rattle.flac_definitions.specs.GrammarLaws.{same_some, then, given_at, given, fails, chosen, number}
use Rattle.flac_laws.proofs.SubframeLaws.{channels_read}
use Rattle.flac_frame.specs.WholeHeaderLaws.{header_sound, header_whole}
use Rattle.flac_definitions.specs.GrammarLaws.{nothing_behind}
use Rattle.flac_definitions.specs.SumLaws.{sum_16}

-- the end of a frame, where the padding and the sum are given
abbrev pub end_by : ℕ → ℕ → Place → Option (Unit {0} × Place)
end_by padding counted p =
    number_at padding p >>= λ zeros. cond (not (eqb zeros.0 0)) None (number_at 16 zeros.1 >>= λ kept. cond (eqb kept.0 counted) (Some (tt, kept.1)) None)

abbrev pub IsEnd : ℕ → ℕ → Unit {0} → List Bool → Type 0
IsEnd padding counted =
    InOrder (IsNumber padding) (λ z. Either (not (eqb z 0)) IsNothing (InOrder (IsNumber 16) (λ k. Either (eqb k counted) (IsGiven (Some tt)) IsNothing)))

end_reads : (padding counted : ℕ) → Reads (end_by padding counted) (IsEnd padding counted)
end_reads padding counted =
    then (number_at padding) (λ z p. cond (not (eqb z 0)) None (number_at 16 p >>= λ kept. cond (eqb kept.0 counted) (Some (tt, kept.1)) None)) (IsNumber padding)
    (λ z. Either (not (eqb z 0)) IsNothing (InOrder (IsNumber 16) (λ k. Either (eqb k counted) (IsGiven (Some tt)) IsNothing))) (number padding)
    (λ z. chosen (not (eqb z 0)) (λ p. None) (λ p. number_at 16 p >>= λ kept. cond (eqb kept.0 counted) (Some (tt, kept.1)) None) IsNothing (InOrder (IsNumber 16) (λ k. Either (eqb k counted) (IsGiven (Some tt)) IsNothing)) fails
    (then (number_at 16) (λ k p. cond (eqb k counted) (given_at (Some tt) p) None) (IsNumber 16) (λ k. Either (eqb k counted) (IsGiven (Some tt)) IsNothing) (number 16)
    (λ k. chosen (eqb k counted) (given_at (Some tt)) (λ p. None) (IsGiven (Some tt)) IsNothing (given (Some tt)) fails)))

abbrev pub padding_of : ℕ → ℕ
padding_of at = (8 - at % 8) % 8

-- what is counted does not depend on the bits of the padding
padded : (t : Bool) (n m : ℕ) (bytes : List ℕ) (at : ℕ) (q : Place) → q.bytes ≡ bytes → q.at ≡ at
    → (cond {A = Option (ℕ × Place)} t None (Some (n, q)) >>= λ zeros. cond (not (eqb zeros.0 0)) None (number_at 16 zeros.1 >>= λ kept. cond (eqb kept.0 (crc16_of (take (zeros.1.at / 8) bytes))) (let o : Option (Unit {0} × Place) = Some (tt, kept.1) in o) None))
    ≡ (cond {A = Option (ℕ × Place)} t None (Some (n, q)) >>= λ zeros. cond (not (eqb zeros.0 0)) None (number_at 16 zeros.1 >>= λ kept. cond (eqb kept.0 (crc16_of (take (at / 8) bytes))) (let o : Option (Unit {0} × Place) = Some (tt, kept.1) in o) None))
padded true n m bytes at q e h = refl
padded false n m bytes at q e h =
    ap (λ k. cond (not (eqb n 0)) None (number_at 16 q >>= λ kept. cond (eqb kept.0 (crc16_of (take (k / 8) bytes))) (let o : Option (Unit {0} × Place) = Some (tt, kept.1) in o) None)) h

end_is : (p : Place) → footer_at p ≡ end_by (padding_of p.at) (crc16_of (take ((p.at + padding_of p.at) / 8) p.bytes)) p
unfolding footer_at
end_is p =
    let n = padding_of p.at in
    padded (ltb (left p) n) (number_of (take n (ahead p))) n p.bytes (p.at + n) (forward n p) refl refl

end_cases : (a b : Bool) (z k padding counted : ℕ) (u : Unit {0}) (bits : List Bool) → eqb z 0 ≡ a → eqb k counted ≡ b → Either b (IsGiven (Some tt)) IsNothing u bits → (k ≡ counted) × (bits ≡ [])
end_cases a true z k padding counted u bits e f h = (eqb-true k counted f, h.1)
end_cases a false z k padding counted u bits e f h = absurd h

zero_cases : (a : Bool) (z counted : ℕ) (u : Unit {0}) (bits : List Bool) → eqb z 0 ≡ a → Either (not a) IsNothing (InOrder (IsNumber 16) (λ k. Either (eqb k counted) (IsGiven (Some tt)) IsNothing)) u bits → (z ≡ 0) × (bits ≡ bits_of 16 counted)
zero_cases false z counted u bits e h = absurd h
zero_cases true z counted u bits e h =
    let s = end_cases true (eqb h.value counted) z h.value 0 counted u h.back e refl h.second in
    (eqb-true z 0 e, nothing_behind h.front h.back bits h.whole s.1 ∙ h.first.1 ∙ ap (λ k. bits_of 16 k) s.0)

-- what an end spells
end_bits : (padding counted : ℕ) (u : Unit {0}) (bits : List Bool) → IsEnd padding counted u bits → bits ≡ bits_of padding 0 ++ bits_of 16 counted
end_bits padding counted u bits h =
    let z = zero_cases (eqb h.value 0) h.value counted u h.back refl h.second in
    h.whole ∙ ap (λ (x : List Bool). x ++ h.back) (h.first.1 ∙ ap (λ k. bits_of padding k) z.0) ∙ ap (λ (x : List Bool). bits_of padding 0 ++ x) z.1

end_some : (t : Bool) (u : Unit {0}) → t ≡ true → Either t (IsGiven (Some tt)) IsNothing u []
end_some true tt e = (refl, refl)
end_some false tt e = absurd (let n : ⊥ = cc in n)

end_back : (padding counted : ℕ) → 0 < 2 ^ padding → counted < 2 ^ 16 → IsEnd padding counted tt (bits_of padding 0 ++ bits_of 16 counted)
end_back padding counted some fits = record {
  value = 0;
  front = bits_of padding 0;
  back = bits_of 16 counted;
  first = (some, refl);
  second = record { value = counted; front = bits_of 16 counted; back = []; first = (fits, refl); second = end_some (eqb counted counted) tt (eq-eqb counted counted refl); whole = sym (append-nil (bits_of 16 counted)) };
  whole = refl;
}

header_ok : (r : Result (FrameHeader × Place) HeaderFault) (x : FrameHeader × Place) → without_fault r ≡ Some x → r ≡ Ok x
header_ok (Err e) x h = absurd (let n : ⊥ = cc in n)
header_ok (Ok y) x h = let s : y ≡ x = cc in ap Ok s

-- padded bits fill whole bytes
pub fills : (front more : List Bool) → front ≡ more ++ bits_of (padding_of (length more)) 0 → (length front ≡ length more + padding_of (length more)) × (length front % 8 ≡ 0)
fills front more e =
    let l : length front ≡ length more + padding_of (length more) = ap length e ∙ length-append more (bits_of (padding_of (length more)) 0) ∙ ap (λ n. length more + n) (length-bits_of (padding_of (length more)) 0) in
    (l, omega (arith, l))

samples_cases : (h : FrameHeader) (p q : Place) (f : FrameHeader × List ℤ) (o : Option (List ℤ)) → with_header h p o ≡ Some (f, q) → (h ≡ f.0) × (o ≡ Some f.1) × (p ≡ q)
samples_cases h p q f None e = absurd (let n : ⊥ = cc in n)
samples_cases h p q f (Some xs) e =
    let s = same_some ((h, xs), p) (f, q) e in
    (ap (λ (z : (FrameHeader × List ℤ) × Place). z.0.0) s, ap (λ (z : (FrameHeader × List ℤ) × Place). Some z.0.1) s, ap (λ (z : (FrameHeader × List ℤ) × Place). z.1) s)

abbrev pub coded_of : FrameHeader → Place → Option (List ℤ × Place)
coded_of h p = channels_at h.assignment h.depth h.block 0 (channels_of h.assignment) p

-- the last part: the end, behind a header and its channels
last_cases : (info : StreamInfo) (bytes : List ℕ) (q : Place) (f : FrameHeader × List ℤ) (h : FrameHeader) (head : List Bool) (coded : List ℤ) (body : List Bool) (m : Place) (o : Option (Unit {0} × Place))
    → IsHeader info h head → AreChannels h.assignment h.depth h.block 0 (channels_of h.assignment) coded body → Begins (start_of bytes) (head ++ body) → m ≡ forward (length (head ++ body)) (start_of bytes)
    → footer_at m ≡ o → (o >>= λ e. with_header h e.1 (plain_channels h.assignment h.depth h.block coded)) ≡ Some (f, q) → Found (IsFrame info) (start_of bytes) q f
last_cases info bytes q f h head coded body m None a b c d e k = absurd (let n : ⊥ = cc in n)
last_cases info bytes q f h head coded body m (Some u) a b c d e k =
    let p = start_of bytes in
    let more = head ++ body in
    let padding = padding_of (length more) in
    let s = samples_cases h u.1 q f (plain_channels h.assignment h.depth h.block coded) k in
    let n0 = forward (length more) p in
    let at0 : n0.at ≡ length more = omega arith in
    let counted = crc16_of (take ((n0.at + padding_of n0.at) / 8) bytes) in
    let ended : end_by (padding_of n0.at) counted n0 ≡ Some (u.0, u.1) = sym (end_is n0) ∙ ap footer_at (sym d) ∙ e in
    let t = (end_reads (padding_of n0.at) counted).sound n0 u.1 u.0 ended in
    let tb : t.bits ≡ bits_of (padding_of n0.at) 0 ++ bits_of 16 counted = end_bits (padding_of n0.at) counted u.0 t.bits t.fine in
    let tb2 : t.bits ≡ bits_of padding 0 ++ bits_of 16 counted = tb ∙ ap (λ k. bits_of (padding_of k) 0 ++ bits_of 16 counted) at0 in
    let front = more ++ bits_of padding 0 in
    let size = fills front more refl in
    let whole : Begins p (more ++ t.bits) = begins_both p more t.bits c t.next in
    let cut : more ++ t.bits ≡ front ++ bits_of 16 counted = ap (λ (x : List Bool). more ++ x) tb2 ∙ sym (append_assoc more (bits_of padding 0) (bits_of 16 counted)) in
    let first : Begins p front = begins_first p front (bits_of 16 counted) (subst (λ (x : List Bool). Begins p x) cut whole) in
    let sum : counted ≡ bits_sum 16 0x8005 front = sum_16 bytes front first.rest (n0.at + padding_of n0.at) first.whole size.1 (omega (arith, size.0, at0, ap padding_of at0)) in
    record {
      bits = more ++ t.bits;
      fine = record {
        head = head;
        body = body;
        coded = coded;
        header = subst (λ (y : FrameHeader). IsHeader info y head) s.0 a;
        channels = subst (λ (y : FrameHeader). AreChannels y.assignment y.depth y.block 0 (channels_of y.assignment) coded body) s.0 b;
        samples = subst (λ (y : FrameHeader). plain_channels y.assignment y.depth y.block coded ≡ Some f.1) s.0 s.1;
        front = front;
        padded = refl;
        summed = cut ∙ ap (λ k. front ++ bits_of 16 k) sum;
      };
      place = sym s.2 ∙ t.place ∙ forward_twice (length more) (length t.bits) p ∙ ap (λ k. forward k p) (sym (length-append more t.bits));
      next = whole;
    }

channels_cases : (info : StreamInfo) (bytes : List ℕ) (q : Place) (f : FrameHeader × List ℤ) (h : FrameHeader) (m : Place) (o : Option (List ℤ × Place)) → Found (IsHeader info) (start_of bytes) m h → coded_of h m ≡ o
    → (o >>= λ coded. footer_at coded.1 >>= λ e. with_header h e.1 (plain_channels h.assignment h.depth h.block coded.0)) ≡ Some (f, q) → Found (IsFrame info) (start_of bytes) q f
channels_cases info bytes q f h m None a e k = absurd (let n : ⊥ = cc in n)
channels_cases info bytes q f h m (Some x) a e k =
    let p = start_of bytes in
    let b = (channels_read h.assignment h.depth h.block 0 (channels_of h.assignment)).sound m x.1 x.0 e in
    let next = begins_both p a.bits b.bits a.next (subst (λ (z : Place). Begins z b.bits) a.place b.next) in
    let place : x.1 ≡ forward (length (a.bits ++ b.bits)) p = b.place ∙ ap (λ (z : Place). forward (length b.bits) z) a.place ∙ forward_twice (length a.bits) (length b.bits) p ∙ ap (λ n. forward n p) (sym (length-append a.bits b.bits)) in
    last_cases info bytes q f h a.bits x.0 b.bits x.1 (footer_at x.1) a.fine b.fine next place refl k

frame_cases : (info : StreamInfo) (bytes : List ℕ) (q : Place) (f : FrameHeader × List ℤ) (o : Option (FrameHeader × Place)) → without_fault (header_at info (start_of bytes)) ≡ o
    → (o >>= λ h. coded_of h.0 h.1 >>= λ coded. footer_at coded.1 >>= λ e. with_header h.0 e.1 (plain_channels h.0.assignment h.0.depth h.0.block coded.0)) ≡ Some (f, q) → Found (IsFrame info) (start_of bytes) q f
frame_cases info bytes q f None e k = absurd (let n : ⊥ = cc in n)
frame_cases info bytes q f (Some x) e k =
    let a = header_sound info bytes x.1 x.0 (header_ok (header_at info (start_of bytes)) (x.0, x.1) e) in
    channels_cases info bytes q f x.0 x.1 (coded_of x.0 x.1) a refl k

pub frame_sound : (info : StreamInfo) (bytes : List ℕ) (q : Place) (f : FrameHeader × List ℤ) → frame_at info (start_of bytes) ≡ Some (f, q) → Found (IsFrame info) (start_of bytes) q f
unfolding frame_at
frame_sound info bytes q f e = frame_cases info bytes q f (without_fault (header_at info (start_of bytes))) refl e

pub frame_whole : (info : StreamInfo) (bytes : List ℕ) (f : FrameHeader × List ℤ) (bits : List Bool) → IsFrame info f bits → Begins (start_of bytes) bits → frame_at info (start_of bytes) ≡ Some (f, forward (length bits) (start_of bytes))
unfolding frame_at
frame_whole info bytes f bits i b =
    let p = start_of bytes in
    let more = i.head ++ i.body in
    let padding = padding_of (length more) in
    let sum = bits_sum 16 0x8005 i.front in
    let size = fills i.front more i.padded in
    let c : Begins p (i.front ++ bits_of 16 sum) = subst (λ (z : List Bool). Begins p z) i.summed b in
    let first = begins_first p i.front (bits_of 16 sum) c in
    let shape : bits ≡ more ++ (bits_of padding 0 ++ bits_of 16 sum) = i.summed ∙ ap (λ (x : List Bool). x ++ bits_of 16 sum) i.padded ∙ append_assoc more (bits_of padding 0) (bits_of 16 sum) in
    let d : Begins p (more ++ (bits_of padding 0 ++ bits_of 16 sum)) = subst (λ (z : List Bool). Begins p z) shape b in
    let both = begins_first p more (bits_of padding 0 ++ bits_of 16 sum) d in
    let h = header_whole info bytes f.0 i.head i.header (begins_first p i.head i.body both) in
    let m = forward (length i.head) p in
    let k = (channels_read f.0.assignment f.0.depth f.0.block 0 (channels_of f.0.assignment)).whole m i.coded i.body i.channels (begins_second p i.head i.body both) in
    let n0 = forward (length i.body) m in
    let same : n0 ≡ forward (length more) p = forward_twice (length i.head) (length i.body) p ∙ ap (λ n. forward n p) (sym (length-append i.head i.body)) in
    let n1 = forward (length more) p in
    let at1 : n1.at ≡ length more = omega arith in
    let counted = crc16_of (take ((n1.at + padding_of n1.at) / 8) bytes) in
    let is : counted ≡ sum = sum_16 bytes i.front first.rest (n1.at + padding_of n1.at) first.whole size.1 (omega (arith, size.0, at1, ap padding_of at1)) in
    let fits : counted < 2 ^ 16 = sum-lt 16 0x8005 (take ((n1.at + padding_of n1.at) / 8) bytes) (omega arith) in
    let last : Begins n1 (bits_of (padding_of n1.at) 0 ++ bits_of 16 counted) =
    subst (λ (k : ℕ). Begins n1 (bits_of (padding_of k) 0 ++ bits_of 16 counted)) (sym at1) (subst (λ (k : ℕ). Begins n1 (bits_of padding 0 ++ bits_of 16 k)) (sym is) (begins_second p more (bits_of padding 0 ++ bits_of 16 sum) d)) in
    let e = (end_reads (padding_of n1.at) counted).whole n1 tt (bits_of (padding_of n1.at) 0 ++ bits_of 16 counted) (end_back (padding_of n1.at) counted (pow_pos (padding_of n1.at)) fits) last in
    let z = forward (length (bits_of (padding_of n1.at) 0 ++ bits_of 16 counted)) n1 in
    let lz : length more + length (bits_of (padding_of n1.at) 0 ++ bits_of 16 counted) ≡ length bits =
    sym (ap length shape ∙ length-append more (bits_of padding 0 ++ bits_of 16 sum) ∙ ap (λ k. length more + length (bits_of padding 0 ++ bits_of 16 k)) (sym is) ∙ ap (λ k. length more + length (bits_of (padding_of k) 0 ++ bits_of 16 counted)) (sym at1)) in
    ap (λ (o : Option (FrameHeader × Place)). o >>= λ h. coded_of h.0 h.1 >>= λ coded. footer_at coded.1 >>= λ e. with_header h.0 e.1 (plain_channels h.0.assignment h.0.depth h.0.block coded.0)) (ap without_fault h)
    ∙ ap (λ (o : Option (List ℤ × Place)). o >>= λ coded. footer_at coded.1 >>= λ e. with_header f.0 e.1 (plain_channels f.0.assignment f.0.depth f.0.block coded.0)) k
    ∙ ap (λ (y : Place). footer_at y >>= λ e. with_header f.0 e.1 (plain_channels f.0.assignment f.0.depth f.0.block i.coded)) same
    ∙ ap (λ (o : Option (Unit {0} × Place)). o >>= λ e. with_header f.0 e.1 (plain_channels f.0.assignment f.0.depth f.0.block i.coded)) (end_is n1 ∙ e)
    ∙ ap (λ (o : Option (List ℤ)). with_header f.0 z o) i.samples
    ∙ ap (λ (y : Place). Some (f, y)) (forward_twice (length more) (length (bits_of (padding_of n1.at) 0 ++ bits_of 16 counted)) p ∙ ap (λ n. forward n p) lz)

-- a frame fills whole bytes
pub frame_fills : (info : StreamInfo) (f : FrameHeader × List ℤ) (bits : List Bool) → IsFrame info f bits → length bits % 8 ≡ 0
frame_fills info f bits i =
    let l : length bits ≡ length i.front + length (bits_of 16 (bits_sum 16 0x8005 i.front)) = ap length i.summed ∙ length-append i.front (bits_of 16 (bits_sum 16 0x8005 i.front)) in
    omega (arith, l, length-bits_of 16 (bits_sum 16 0x8005 i.front), (fills i.front (i.head ++ i.body) i.padded).1)
