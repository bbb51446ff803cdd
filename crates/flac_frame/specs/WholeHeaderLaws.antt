-- Headers are read exactly where they are spelled, with their sum.
use Rattle.std.proofs.Common.{◌≡◌, ℕ, ◌+◌, ◌%◌, ◌<◌, ◌≤◌, ◌&&◌, nat_le, Bool, true, false, not, cond, eqb, List, [], ◌++◌, Some, Result, Ok, Err, length, refl, sym, ap, subst, ◌∙◌, arith, length-append, append-nil}
use Rattle.std.proofs.lemmas.Bool.{eqb-true, eq-eqb, leb-true, le-leb, and_parts}
use Rattle.wc_config.specs.declared.stream_info.StreamInfo.{StreamInfo}
use Rattle.flac_definitions.specs.Bits.{Place, forward, bits_of, Begins, start_of}
use Rattle.flac_definitions.specs.Sums.{crc8_of, bits_sum}
use Rattle.flac_definitions.specs.SumLaws.{sum-lt}
use Rattle.flac_definitions.specs.declared.fault.HeaderFault.{HeaderFault}
use Rattle.flac_definitions.specs.declared.fault.HeaderFault.TheVariants as fault
use Rattle.flac_definitions.specs.declared.fault.HeaderField.TheVariants as which
use Rattle.flac_definitions.specs.declared.header.FrameHeader.{FrameHeader}
use Rattle.flac_definitions.specs.Results.{◌>>=◌}
use Rattle.flac_definitions.specs.Header.{field_at, codes_at, coded_number_at, block_size_at, sample_rate_at, is_stream_depth, header_with, channels_of, bytes_between, header_sum_at, if_described, header_at}
use Rattle.flac_definitions.specs.PlaceLaws.{begins_first, begins_second, begins_both, forward_twice}
use Rattle.flac_definitions.specs.Grammar.{IsNumber, IsGiven, IsNothing, InOrder, Either, Found, ReadsOr}
use Rattle.flac_definitions.specs.HeaderSpelling.{AreCodes, IsCodedNumber, IsBlockSize, IsSampleRate, IsFront, IsDescribed, IsHeader}
use Rattle.flac_definitions.specs.ResultLaws.{or_then, given_or, or_fails, or_chosen}
use Rattle.flac_definitions.specs.GrammarLaws.{nothing_behind}
use Rattle.flac_frame.specs.HeaderLaws.{given, field, codes, coded_number, block, rate}
use Rattle.flac_frame.specs.HeaderSums.{sum_8, bytes_front}

-- a header up to its sum
abbrev pub front_at : StreamInfo → Place → Result (FrameHeader × Place) HeaderFault
front_at info p =
    codes_at p >>= λ codes. coded_number_at codes.1 >>= λ number. block_size_at codes.0.block number.1 >>= λ block. sample_rate_at info.rate codes.0.rate block.1 >>= λ rate.
    given_or (header_with info codes.0 number.0 block.0 rate.0) rate.1

front_reads : (info : StreamInfo) → ReadsOr (front_at info) (IsFront info)
front_reads info =
    or_then codes_at _ AreCodes _ codes (λ codes.
    or_then coded_number_at _ IsCodedNumber _ coded_number (λ number.
    or_then (block_size_at codes.block) _ (IsBlockSize codes.block) _ (block codes.block) (λ block.
    or_then (sample_rate_at info.rate codes.rate) (λ rate p. given_or (header_with info codes number block rate) p) (IsSampleRate info.rate codes.rate) (λ rate. IsGiven (Some (header_with info codes number block rate))) (rate info.rate codes.rate) (λ rate. given (header_with info codes number block rate)))))

-- the sum behind it, and what the description says
abbrev pub summed_at : ℕ → Place → Result (Unit {0} × Place) HeaderFault
summed_at counted p = field_at 8 p >>= λ kept. cond (eqb kept.0 counted) (Ok (tt, kept.1)) (Err (fault.HeaderSum kept.0 counted))

abbrev pub tail_at : StreamInfo → FrameHeader → ℕ → Place → Result (FrameHeader × Place) HeaderFault
tail_at info h counted p = summed_at counted p >>= λ s. if_described info (h, s.1)

abbrev pub IsSummed : ℕ → Unit {0} → List Bool → Type 0
IsSummed counted = InOrder (IsNumber 8) (λ k. Either (eqb k counted) (IsGiven (Some tt)) IsNothing)

abbrev pub IsAgreed : StreamInfo → FrameHeader → FrameHeader → List Bool → Type 0
IsAgreed info h =
    Either (not (eqb h.rate info.rate)) IsNothing (Either (not (eqb (channels_of h.assignment) info.channels)) IsNothing (Either (not (is_stream_depth info.depth && eqb h.depth info.depth)) IsNothing (IsGiven (Some h))))

summed_reads : (counted : ℕ) → ReadsOr (summed_at counted) (IsSummed counted)
summed_reads counted =
    or_then (field_at 8) (λ k p. cond (eqb k counted) (given_or tt p) (Err (fault.HeaderSum k counted))) (IsNumber 8) (λ k. Either (eqb k counted) (IsGiven (Some tt)) IsNothing) (field 8)
    (λ k. or_chosen (eqb k counted) (λ p. given_or tt p) (λ p. Err (fault.HeaderSum k counted)) (IsGiven (Some tt)) IsNothing (given tt) (or_fails (λ p. fault.HeaderSum k counted)))

agreed_reads : (info : StreamInfo) (h : FrameHeader) → ReadsOr (λ p. if_described info (h, p)) (IsAgreed info h)
agreed_reads info h =
    or_chosen (not (eqb h.rate info.rate)) (λ p. Err (fault.Differs which.Rate)) _ IsNothing _ (or_fails (λ p. fault.Differs which.Rate))
    (or_chosen (not (eqb (channels_of h.assignment) info.channels)) (λ p. Err (fault.Differs which.Channels)) _ IsNothing _ (or_fails (λ p. fault.Differs which.Channels))
    (or_chosen (not (is_stream_depth info.depth && eqb h.depth info.depth)) (λ p. Err (fault.Differs which.Depth)) (λ p. given_or h p) IsNothing (IsGiven (Some h)) (or_fails (λ p. fault.Differs which.Depth)) (given h)))

tail_reads : (info : StreamInfo) (h : FrameHeader) (counted : ℕ) → ReadsOr (tail_at info h counted) (InOrder (IsSummed counted) (λ _. IsAgreed info h))
tail_reads info h counted = or_then (summed_at counted) (λ _ p. if_described info (h, p)) (IsSummed counted) (λ _. IsAgreed info h) (summed_reads counted) (λ _. agreed_reads info h)

depth_parts : (n : ℕ) (t : Bool) → (is_stream_depth n && t) ≡ true → (1 ≤ n) × (n ≤ 32) × (t ≡ true)
depth_parts n t e =
    let both = and_parts (is_stream_depth n) t e in
    let range = and_parts (nat_le 1 n) (nat_le n 32) both.0 in
    (leb-true 1 n range.0, leb-true n 32 range.1, both.1)

depth_whole : (n : ℕ) (t : Bool) → t ≡ true → 1 ≤ n → n ≤ 32 → (is_stream_depth n && t) ≡ true
depth_whole n t e some few = rw (le-leb 1 n some, le-leb n 32 few, e) refl

-- the same in plain words
agreed_cases : (a b c : Bool) (h x : FrameHeader) (bits : List Bool) → Either (not a) IsNothing (Either (not b) IsNothing (Either (not c) IsNothing (IsGiven (Some h)))) x bits
    → (a ≡ true) × (b ≡ true) × (c ≡ true) × (h ≡ x) × (bits ≡ [])
agreed_cases false b c h x bits e = absurd e
agreed_cases true false c h x bits e = absurd e
agreed_cases true true false h x bits e = absurd e
agreed_cases true true true h x bits e = (refl, refl, refl, (let f : Some h ≡ Some x = e.0 in cc), e.1)

agreed_back : (a b c : Bool) (h : FrameHeader) → a ≡ true → b ≡ true → c ≡ true → Either (not a) IsNothing (Either (not b) IsNothing (Either (not c) IsNothing (IsGiven (Some h)))) h []
agreed_back true true true h e f g = (refl, refl)
agreed_back false b c h e f g = absurd (let n : ⊥ = cc in n)
agreed_back true false c h e f g = absurd (let n : ⊥ = cc in n)
agreed_back true true false h e f g = absurd (let n : ⊥ = cc in n)

summed_cases : (t : Bool) (k counted : ℕ) (u : Unit {0}) (bits : List Bool) → eqb k counted ≡ t → Either t (IsGiven (Some tt)) IsNothing u bits → (k ≡ counted) × (bits ≡ [])
summed_cases true k counted u bits e h = (eqb-true k counted e, h.1)
summed_cases false k counted u bits e h = absurd h

summed_back : (t : Bool) (u : Unit {0}) → t ≡ true → Either t (IsGiven (Some tt)) IsNothing u []
summed_back true tt e = (refl, refl)
summed_back false tt e = absurd (let n : ⊥ = cc in n)

tail_cases : (info : StreamInfo) (h x : FrameHeader) (counted : ℕ) (bits : List Bool) → InOrder (IsSummed counted) (λ _. IsAgreed info h) x bits → (bits ≡ bits_of 8 counted) × (h ≡ x) × IsDescribed info h
tail_cases info h x counted bits t =
    let a = agreed_cases (eqb h.rate info.rate) (eqb (channels_of h.assignment) info.channels) (is_stream_depth info.depth && eqb h.depth info.depth) h x t.back t.second in
    let d = depth_parts info.depth (eqb h.depth info.depth) a.2 in
    let s = summed_cases (eqb t.first.value counted) t.first.value counted t.value t.first.back refl t.first.second in
    let front : t.front ≡ bits_of 8 counted = nothing_behind t.first.front t.first.back t.front t.first.whole s.1 ∙ t.first.first.1 ∙ ap (λ k. bits_of 8 k) s.0 in
    (nothing_behind t.front t.back bits t.whole a.4 ∙ front, a.3, (eqb-true h.rate info.rate a.0, eqb-true (channels_of h.assignment) info.channels a.1, eqb-true h.depth info.depth d.2, d.0, d.1))

tail_back : (info : StreamInfo) (h : FrameHeader) (counted : ℕ) → counted < 256 → IsDescribed info h → InOrder (IsSummed counted) (λ _. IsAgreed info h) h (bits_of 8 counted)
tail_back info h counted fits d = record {
  value = tt;
  front = bits_of 8 counted;
  back = [];
  first = record { value = counted; front = bits_of 8 counted; back = []; first = (fits, refl); second = summed_back (eqb counted counted) tt (eq-eqb counted counted refl); whole = sym (append-nil (bits_of 8 counted)) };
  second = agreed_back (eqb h.rate info.rate) (eqb (channels_of h.assignment) info.channels) (is_stream_depth info.depth && eqb h.depth info.depth) h (eq-eqb h.rate info.rate d.0) (eq-eqb (channels_of h.assignment) info.channels d.1) (depth_whole info.depth (eqb h.depth info.depth) (eq-eqb h.depth info.depth d.2) d.3 d.4);
  whole = sym (append-nil (bits_of 8 counted));
}

step : {X Y Z : Type 0} (r : Result (X × Place) HeaderFault) (f : X × Place → Result (Y × Place) HeaderFault) (g : X × Place → Result (Z × Place) HeaderFault) (h : Y × Place → Result (Z × Place) HeaderFault)
    → ((x : X × Place) → g x ≡ (f x >>= h)) → (r >>= g) ≡ ((r >>= f) >>= h)
step (Ok x) f g h e = e x
step (Err e) f g h k = refl

header_is : (info : StreamInfo) (p : Place) → header_at info p ≡ (front_at info p >>= λ h. tail_at info h.0 (crc8_of (bytes_between h.1.bytes p.at h.1.at)) h.1)
unfolding header_at header_sum_at
header_is info p =
    step (codes_at p) _ _ (λ h. tail_at info h.0 (crc8_of (bytes_between h.1.bytes p.at h.1.at)) h.1) (λ codes.
    step (coded_number_at codes.1) _ _ (λ h. tail_at info h.0 (crc8_of (bytes_between h.1.bytes p.at h.1.at)) h.1) (λ number.
    step (block_size_at codes.0.block number.1) _ _ (λ h. tail_at info h.0 (crc8_of (bytes_between h.1.bytes p.at h.1.at)) h.1) (λ block.
    step (sample_rate_at info.rate codes.0.rate block.1) (λ rate. given_or (header_with info codes.0 number.0 block.0 rate.0) rate.1) _ (λ h. tail_at info h.0 (crc8_of (bytes_between h.1.bytes p.at h.1.at)) h.1) (λ rate. refl))))

counted_is : (bytes : List ℕ) (bits : List Bool) → Begins (start_of bytes) bits → length bits % 8 ≡ 0 → crc8_of (bytes_between bytes 0 (0 + length bits)) ≡ bits_sum 8 0x07 bits
counted_is bytes bits b h = sum_8 bytes bits b.rest (0 + length bits) b.whole h (omega arith)

header_cases : (info : StreamInfo) (bytes : List ℕ) (q : Place) (h : FrameHeader) (r : Result (FrameHeader × Place) HeaderFault) → ((m : Place) (x : FrameHeader) → r ≡ Ok (x, m) → Found (IsFront info) (start_of bytes) m x)
    → (r >>= λ h. tail_at info h.0 (crc8_of (bytes_between h.1.bytes 0 h.1.at)) h.1) ≡ Ok (h, q) → Found (IsHeader info) (start_of bytes) q h
header_cases info bytes q h (Err e) f k = absurd (let n : ⊥ = cc in n)
header_cases info bytes q h (Ok x) f k =
    let p = start_of bytes in
    let a = f x.1 x.0 refl in
    let counted = crc8_of (bytes_between x.1.bytes 0 x.1.at) in
    let t = (tail_reads info x.0 counted).sound x.1 q h k in
    let c = tail_cases info x.0 h counted t.bits t.fine in
    let is : counted ≡ bits_sum 8 0x07 a.bits = ap (λ (m : Place). crc8_of (bytes_between m.bytes 0 m.at)) a.place ∙ counted_is bytes a.bits a.next (bytes_front info x.0 a.bits a.fine) in
    record {
      bits = a.bits ++ t.bits;
      fine = record {
        front = a.bits;
        fields = subst (λ (y : FrameHeader). IsFront info y a.bits) c.1 a.fine;
        summed = ap (λ (y : List Bool). a.bits ++ y) (c.0 ∙ ap (λ n. bits_of 8 n) is);
        described = subst (λ (y : FrameHeader). IsDescribed info y) c.1 c.2;
      };
      place = t.place ∙ ap (λ (z : Place). forward (length t.bits) z) a.place ∙ forward_twice (length a.bits) (length t.bits) p ∙ ap (λ n. forward n p) (sym (length-append a.bits t.bits));
      next = begins_both p a.bits t.bits a.next (subst (λ (z : Place). Begins z t.bits) a.place t.next);
    }

pub header_sound : (info : StreamInfo) (bytes : List ℕ) (q : Place) (h : FrameHeader) → header_at info (start_of bytes) ≡ Ok (h, q) → Found (IsHeader info) (start_of bytes) q h
header_sound info bytes q h e =
    header_cases info bytes q h (front_at info (start_of bytes)) (λ m x k. (front_reads info).sound (start_of bytes) m x k) (sym (header_is info (start_of bytes)) ∙ e)

pub header_whole : (info : StreamInfo) (bytes : List ℕ) (h : FrameHeader) (bits : List Bool) → IsHeader info h bits → Begins (start_of bytes) bits → header_at info (start_of bytes) ≡ Ok (h, forward (length bits) (start_of bytes))
header_whole info bytes h bits i b =
    let p = start_of bytes in
    let m = forward (length i.front) p in
    let sum = bits_sum 8 0x07 i.front in
    let c : Begins p (i.front ++ bits_of 8 sum) = subst (λ (z : List Bool). Begins p z) i.summed b in
    let first = begins_first p i.front (bits_of 8 sum) c in
    let a = (front_reads info).whole p h i.front i.fields first in
    let counted = crc8_of (bytes_between m.bytes 0 m.at) in
    let is : counted ≡ sum = counted_is bytes i.front first (bytes_front info h i.front i.fields) in
    let fits : counted < 256 = sum-lt 8 0x07 (bytes_between m.bytes 0 m.at) (omega arith) in
    let second : Begins m (bits_of 8 counted) = subst (λ (n : ℕ). Begins m (bits_of 8 n)) (sym is) (begins_second p i.front (bits_of 8 sum) c) in
    let t = (tail_reads info h counted).whole m h (bits_of 8 counted) (tail_back info h counted fits i.described) second in
    header_is info p ∙ ap (λ (r : Result (FrameHeader × Place) HeaderFault). r >>= λ h. tail_at info h.0 (crc8_of (bytes_between h.1.bytes 0 h.1.at)) h.1) a ∙ t
    ∙ ap (λ (s : Place). Ok (h, s)) (forward_twice (length i.front) (length (bits_of 8 counted)) p
    ∙ ap (λ n. forward n p) (sym (ap length i.summed ∙ length-append i.front (bits_of 8 sum) ∙ ap (λ n. length i.front + length (bits_of 8 n)) (sym is))))
