-- Pieces of headers that fill whole bytes, and the sum of a header as that of its bits.
use Rattle.std.proofs.Common.{◌≡◌, ℕ, zero, suc, ◌+◌, ◌-◌, ◌*◌, ◌/◌, ◌%◌, Bool, true, false, eqb, ltb, List, ◌++◌, Option, Some, length, take, refl, ap, ◌∙◌, arith, length-append}
use Rattle.flac_definitions.specs.Bits.{bits_in}
use Rattle.flac_definitions.specs.Sums.{crc8_of, bits_sum}
use Rattle.flac_definitions.specs.BitLaws.{length-bits_of}
use Rattle.flac_definitions.specs.SumLaws.{front_bytes}
use Rattle.flac_definitions.specs.Header.{bytes_between, is_block_size_code, is_long_block_size, is_sample_rate_code, is_channel_code, is_depth_code}
use Rattle.flac_definitions.specs.declared.header.HeaderCodes.{HeaderCodes}
use Rattle.wc_config.specs.declared.stream_info.StreamInfo.{StreamInfo}
use Rattle.flac_definitions.specs.Grammar.{IsNumber, IsGiven, IsNothing, InOrder, Either}
use Rattle.flac_definitions.specs.HeaderSpelling.{IsTested, AreCodes, AreFurtherBytes, IsBehindFirstByte, IsCodedNumber, IsBlockSize, IsSampleRate, IsFront}

pub sum_8 : (bytes : List ℕ) (bits rest : List Bool) (at : ℕ) → bits_in bytes ≡ bits ++ rest → length bits % 8 ≡ 0 → at ≡ length bits → crc8_of (bytes_between bytes 0 at) ≡ bits_sum 8 0x07 bits
sum_8 bytes bits rest at e h l =
    ap (λ n. crc8_of (take n bytes)) (let q : at / 8 - 0 / 8 ≡ length bits / 8 = omega (arith, l) in q) ∙ ap (λ (xs : List Bool). bits_sum 8 0x07 xs) (front_bytes bytes bits rest e h)

-- pieces of so many bits, and pieces of whole bytes
abbrev pub Sized : {X : Type 0} → (X → List Bool → Type 0) → ℕ → Type 0
Sized {X} is n = (x : X) (b : List Bool) → is x b → length b ≡ n

abbrev pub InBytes : {X : Type 0} → (X → List Bool → Type 0) → Type 0
InBytes {X} is = (x : X) (b : List Bool) → is x b → length b % 8 ≡ 0

sized_number : (n : ℕ) → Sized (IsNumber n) n
sized_number n x b h = ap length h.1 ∙ length-bits_of n x

sized_given : {X : Type 0} (o : Option X) → Sized (IsGiven o) 0
sized_given o x b h = ap length h.1

sized_order : {X Y : Type 0} (one : X → List Bool → Type 0) (other : X → Y → List Bool → Type 0) (m n : ℕ) → Sized one m → ((x : X) → Sized (other x) n) → Sized (InOrder one other) (m + n)
sized_order one other m n f g y b h =
    let lf : length h.front ≡ m = f h.value h.front h.first in
    let lb : length h.back ≡ n = g h.value y h.back h.second in
    ap length h.whole ∙ length-append h.front h.back ∙ omega (arith, lf, lb)

sized_either : {X : Type 0} (t : Bool) (one other : X → List Bool → Type 0) (n : ℕ) → Sized one n → Sized other n → Sized (Either t one other) n
sized_either true one other n f g x b h = f x b h
sized_either false one other n f g x b h = g x b h

sized_nothing : {X : Type 0} (n : ℕ) → Sized (λ (x : X) b. IsNothing x b) n
sized_nothing n x b h = absurd h

sized_tested : (good : ℕ → Bool) (n : ℕ) → Sized (IsTested good n) (n + 0)
sized_tested good n = sized_order (IsNumber n) (λ x. Either (good x) (IsGiven (Some x)) IsNothing) n 0 (sized_number n) (λ x. sized_either (good x) (IsGiven (Some x)) IsNothing 0 (sized_given (Some x)) (sized_nothing 0))

sized_codes : Sized AreCodes 32
sized_codes =
    sized_order (IsTested (λ n. eqb n 0x7ffc) 15) _ 15 17 (sized_tested (λ n. eqb n 0x7ffc) 15) (λ _.
    sized_order (IsNumber 1) _ 1 16 (sized_number 1) (λ _.
    sized_order (IsTested is_block_size_code 4) _ 4 12 (sized_tested is_block_size_code 4) (λ block.
    sized_order (IsTested is_sample_rate_code 4) _ 4 8 (sized_tested is_sample_rate_code 4) (λ rate.
    sized_order (IsTested is_channel_code 4) _ 4 4 (sized_tested is_channel_code 4) (λ channel.
    sized_order (IsTested is_depth_code 3) _ 3 1 (sized_tested is_depth_code 3) (λ depth.
    sized_order (IsTested (λ n. eqb n 0) 1) (λ _. IsGiven (Some (let c : HeaderCodes = record { block = block; rate = rate; assignment = channel; depth = depth } in c))) 1 0 (sized_tested (λ n. eqb n 0) 1) (λ _. sized_given (Some (let c : HeaderCodes = record { block = block; rate = rate; assignment = channel; depth = depth } in c)))))))))

bytes_sized : {X : Type 0} (is : X → List Bool → Type 0) (n : ℕ) → n % 8 ≡ 0 → Sized is n → InBytes is
bytes_sized is n h f x b i = omega (arith, h, f x b i)

bytes_order : {X Y : Type 0} (one : X → List Bool → Type 0) (other : X → Y → List Bool → Type 0) → InBytes one → ((x : X) → InBytes (other x)) → InBytes (InOrder one other)
bytes_order one other f g y b h =
    let lf : length h.front % 8 ≡ 0 = f h.value h.front h.first in
    let lb : length h.back % 8 ≡ 0 = g h.value y h.back h.second in
    let l : length b ≡ length h.front + length h.back = ap length h.whole ∙ length-append h.front h.back in
    omega (arith, lf, lb, l)

bytes_either : {X : Type 0} (t : Bool) (one other : X → List Bool → Type 0) → InBytes one → InBytes other → InBytes (Either t one other)
bytes_either true one other f g x b h = f x b h
bytes_either false one other f g x b h = g x b h

bytes_given : {X : Type 0} (o : Option X) → InBytes (IsGiven o)
bytes_given o = bytes_sized (IsGiven o) 0 refl (sized_given o)

bytes_nothing : {X : Type 0} → InBytes (λ (x : X) b. IsNothing x b)
bytes_nothing x b h = absurd h

bytes_more : (n number : ℕ) → InBytes (AreFurtherBytes n number)
bytes_more zero number = bytes_given (Some number)
bytes_more (suc n) number =
    bytes_order (IsNumber 8) (λ b. Either (eqb (b / 64) 2) (AreFurtherBytes n (64 * number + b % 64)) IsNothing) (bytes_sized (IsNumber 8) 8 refl (sized_number 8))
    (λ b. bytes_either (eqb (b / 64) 2) (AreFurtherBytes n (64 * number + b % 64)) IsNothing (bytes_more n (64 * number + b % 64)) bytes_nothing)

bytes_behind : (b : ℕ) → InBytes (IsBehindFirstByte b)
bytes_behind b =
    bytes_either (ltb b 128) (IsGiven (Some b)) _ (bytes_given (Some b))
    (bytes_either (ltb b 192) IsNothing _ bytes_nothing
    (bytes_either (ltb b 224) (AreFurtherBytes 1 (b - 192)) _ (bytes_more 1 (b - 192))
    (bytes_either (ltb b 240) (AreFurtherBytes 2 (b - 224)) _ (bytes_more 2 (b - 224))
    (bytes_either (ltb b 248) (AreFurtherBytes 3 (b - 240)) _ (bytes_more 3 (b - 240))
    (bytes_either (ltb b 252) (AreFurtherBytes 4 (b - 248)) _ (bytes_more 4 (b - 248))
    (bytes_either (ltb b 254) (AreFurtherBytes 5 (b - 252)) _ (bytes_more 5 (b - 252))
    (bytes_either (ltb b 255) (AreFurtherBytes 6 (b - 254)) IsNothing (bytes_more 6 (b - 254)) bytes_nothing)))))))

bytes_number : (n : ℕ) → n % 8 ≡ 0 → InBytes (IsNumber n)
bytes_number n h = bytes_sized (IsNumber n) n h (sized_number n)

bytes_changed : (is : ℕ → List Bool → Type 0) (f : ℕ → ℕ) → InBytes is → InBytes (InOrder is (λ x. IsGiven (Some (f x))))
bytes_changed is f h = bytes_order is (λ x. IsGiven (Some (f x))) h (λ x. bytes_given (Some (f x)))

bytes_block : (code : ℕ) → InBytes (IsBlockSize code)
bytes_block code =
    bytes_either (eqb code 6) (InOrder (IsNumber 8) (λ x. IsGiven (Some (x + 1)))) _ (bytes_changed (IsNumber 8) (λ x. x + 1) (bytes_number 8 refl))
    (bytes_either (eqb code 7) (InOrder (IsTested is_long_block_size 16) (λ x. IsGiven (Some (x + 1)))) _ (bytes_changed (IsTested is_long_block_size 16) (λ x. x + 1) (bytes_sized (IsTested is_long_block_size 16) 16 refl (sized_tested is_long_block_size 16)))
    (bytes_given _))

bytes_rate : (described code : ℕ) → InBytes (IsSampleRate described code)
bytes_rate described code =
    bytes_either (eqb code 0) (IsGiven (Some described)) _ (bytes_given (Some described))
    (bytes_either (eqb code 12) (InOrder (IsNumber 8) (λ x. IsGiven (Some (1000 * x)))) _ (bytes_changed (IsNumber 8) (λ x. 1000 * x) (bytes_number 8 refl))
    (bytes_either (eqb code 13) (IsNumber 16) _ (bytes_number 16 refl)
    (bytes_either (eqb code 14) (InOrder (IsNumber 16) (λ x. IsGiven (Some (10 * x)))) _ (bytes_changed (IsNumber 16) (λ x. 10 * x) (bytes_number 16 refl))
    (bytes_given _))))

pub bytes_front : (info : StreamInfo) → InBytes (IsFront info)
bytes_front info =
    bytes_order AreCodes _ (bytes_sized AreCodes 32 refl sized_codes) (λ codes.
    bytes_order IsCodedNumber _ (bytes_order (IsNumber 8) IsBehindFirstByte (bytes_number 8 refl) bytes_behind) (λ number.
    bytes_order (IsBlockSize codes.block) _ (bytes_block codes.block) (λ block.
    bytes_order (IsSampleRate info.rate codes.rate) _ (bytes_rate info.rate codes.rate) (λ rate. bytes_given _))))
