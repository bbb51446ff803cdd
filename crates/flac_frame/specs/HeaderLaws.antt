-- Headers are read exactly where they are spelled.
use Rattle.std.proofs.Common.{ℕ, zero, suc, ◌+◌, ◌-◌, ◌*◌, ◌/◌, ◌%◌, Bool, cond, eqb, ltb, List, Some, Result, Ok, Err}
use Rattle.flac_definitions.specs.Bits.{Place, number_at}
use Rattle.flac_definitions.specs.declared.fault.HeaderFault.{HeaderFault}
use Rattle.flac_definitions.specs.declared.fault.HeaderFault.TheVariants as fault
use Rattle.flac_definitions.specs.declared.header.HeaderCodes.{HeaderCodes}
use Rattle.flac_definitions.specs.Results.{◌>>=◌}
use Rattle.flac_definitions.specs.Header.{part_at, field_at, tested_at, is_block_size_code, is_long_block_size, is_sample_rate_code, is_channel_code, is_depth_code, codes_at, further_bytes_at, behind_first_byte, coded_number_at, common_block_size, block_size_at, common_sample_rate, sample_rate_at}
use Rattle.flac_definitions.specs.Grammar.{IsNumber, IsGiven, IsNothing, InOrder, Either, ReadsOr}
use Rattle.flac_definitions.specs.HeaderSpelling.{IsTested, AreCodes, AreFurtherBytes, IsBehindFirstByte, IsCodedNumber, IsBlockSize, IsSampleRate}
use Rattle.flac_definitions.specs.GrammarLaws.{number}
use Rattle.flac_definitions.specs.ResultLaws.{or_reads, or_then_by, or_then, given_or, or_given, or_fails, or_chosen}

part : (start n : ℕ) → ReadsOr (part_at start n) (IsNumber n)
part start n = or_reads (λ p. fault.Short start) (number_at n) (IsNumber n) (number n)

pub field : (n : ℕ) → ReadsOr (field_at n) (IsNumber n)
field n = or_reads (λ p. fault.Short p.at) (number_at n) (IsNumber n) (number n)

pub given : {X : Type 0} (x : X) → ReadsOr (λ p. given_or {E = HeaderFault} x p) (IsGiven (Some x))
given x = or_given {E = HeaderFault} x

pub tested : (good : ℕ → Bool) (bad : ℕ → HeaderFault) (n : ℕ) → ReadsOr (tested_at good bad n) (IsTested good n)
tested good bad n =
    or_then_by (field_at n) (λ s x p. cond (good x) (given_or x p) (Err (bad s.at))) (IsNumber n) (λ x. Either (good x) (IsGiven (Some x)) IsNothing) (field n)
    (λ s x. or_chosen (good x) (λ p. given_or x p) (λ p. Err (bad s.at)) (IsGiven (Some x)) IsNothing (given x) (or_fails (λ p. bad s.at)))

codes_6 : (block rate channel depth : ℕ) → ReadsOr (λ p. tested_at (λ n. eqb n 0) fault.Reserved 1 p >>= λ z. given_or (let c : HeaderCodes = record { block = block; rate = rate; assignment = channel; depth = depth } in c) z.1)
    (InOrder (IsTested (λ n. eqb n 0) 1) (λ _. IsGiven (Some (let c : HeaderCodes = record { block = block; rate = rate; assignment = channel; depth = depth } in c))))
codes_6 block rate channel depth =
    or_then (tested_at (λ n. eqb n 0) fault.Reserved 1) (λ _ p. given_or (let c : HeaderCodes = record { block = block; rate = rate; assignment = channel; depth = depth } in c) p) (IsTested (λ n. eqb n 0) 1)
    (λ _. IsGiven (Some (let c : HeaderCodes = record { block = block; rate = rate; assignment = channel; depth = depth } in c))) (tested (λ n. eqb n 0) fault.Reserved 1)
    (λ _. given (let c : HeaderCodes = record { block = block; rate = rate; assignment = channel; depth = depth } in c))

pub codes : ReadsOr codes_at AreCodes
unfolding codes_at
codes =
    or_then (tested_at (λ n. eqb n 0x7ffc) (λ _. fault.Sync) 15) _ (IsTested (λ n. eqb n 0x7ffc) 15) _ (tested (λ n. eqb n 0x7ffc) (λ _. fault.Sync) 15) (λ _.
    or_then (field_at 1) _ (IsNumber 1) _ (field 1) (λ _.
    or_then (tested_at is_block_size_code fault.Reserved 4) _ (IsTested is_block_size_code 4) _ (tested is_block_size_code fault.Reserved 4) (λ block.
    or_then (tested_at is_sample_rate_code fault.Reserved 4) _ (IsTested is_sample_rate_code 4) _ (tested is_sample_rate_code fault.Reserved 4) (λ rate.
    or_then (tested_at is_channel_code fault.Reserved 4) _ (IsTested is_channel_code 4) _ (tested is_channel_code fault.Reserved 4) (λ channel.
    or_then (tested_at is_depth_code fault.Reserved 3) _ (IsTested is_depth_code 3) _ (tested is_depth_code fault.Reserved 3) (λ depth.
    codes_6 block rate channel depth))))))

more : (start n number : ℕ) → ReadsOr (further_bytes_at start n number) (AreFurtherBytes n number)
more start zero number = given number
more start (suc n) number =
    or_then (part_at start 8) (λ b p. cond (eqb (b / 64) 2) (further_bytes_at start n (64 * number + b % 64) p) (Err fault.Number)) (IsNumber 8) (λ b. Either (eqb (b / 64) 2) (AreFurtherBytes n (64 * number + b % 64)) IsNothing) (part start 8)
    (λ b. or_chosen (eqb (b / 64) 2) (further_bytes_at start n (64 * number + b % 64)) (λ p. Err fault.Number) (AreFurtherBytes n (64 * number + b % 64)) IsNothing (more start n (64 * number + b % 64)) (or_fails (λ p. fault.Number)))

behind_reads : (start b : ℕ) → ReadsOr (behind_first_byte start b) (IsBehindFirstByte b)
behind_reads start b =
    or_chosen (ltb b 128) (λ p. given_or b p) _ (IsGiven (Some b)) _ (given b)
    (or_chosen (ltb b 192) (λ p. Err fault.Number) _ IsNothing _ (or_fails (λ p. fault.Number))
    (or_chosen (ltb b 224) (further_bytes_at start 1 (b - 192)) _ (AreFurtherBytes 1 (b - 192)) _ (more start 1 (b - 192))
    (or_chosen (ltb b 240) (further_bytes_at start 2 (b - 224)) _ (AreFurtherBytes 2 (b - 224)) _ (more start 2 (b - 224))
    (or_chosen (ltb b 248) (further_bytes_at start 3 (b - 240)) _ (AreFurtherBytes 3 (b - 240)) _ (more start 3 (b - 240))
    (or_chosen (ltb b 252) (further_bytes_at start 4 (b - 248)) _ (AreFurtherBytes 4 (b - 248)) _ (more start 4 (b - 248))
    (or_chosen (ltb b 254) (further_bytes_at start 5 (b - 252)) _ (AreFurtherBytes 5 (b - 252)) _ (more start 5 (b - 252))
    (or_chosen (ltb b 255) (further_bytes_at start 6 (b - 254)) (λ p. Err fault.Number) (AreFurtherBytes 6 (b - 254)) IsNothing (more start 6 (b - 254)) (or_fails (λ p. fault.Number)))))))))

pub coded_number : ReadsOr coded_number_at IsCodedNumber
unfolding coded_number_at
coded_number = or_then_by (field_at 8) (λ s b p. behind_first_byte s.at b p) (IsNumber 8) IsBehindFirstByte (field 8) (λ s b. behind_reads s.at b)

changed : (read : Place → Result (ℕ × Place) HeaderFault) (is : ℕ → List Bool → Type 0) (f : ℕ → ℕ) → ReadsOr read is → ReadsOr (λ p. read p >>= λ x. Ok (f x.0, x.1)) (InOrder is (λ x. IsGiven (Some (f x))))
changed read is f h = or_then read (λ x p. given_or (f x) p) is (λ x. IsGiven (Some (f x))) h (λ x. given (f x))

pub block : (code : ℕ) → ReadsOr (block_size_at code) (IsBlockSize code)
unfolding block_size_at
block code =
    or_chosen (eqb code 6) (λ p. field_at 8 p >>= λ x. Ok (x.0 + 1, x.1)) (λ p. cond (eqb code 7) (tested_at is_long_block_size fault.Reserved 16 p >>= λ x. Ok (x.0 + 1, x.1)) (Ok (common_block_size code, p)))
    (InOrder (IsNumber 8) (λ x. IsGiven (Some (x + 1)))) (Either (eqb code 7) (InOrder (IsTested is_long_block_size 16) (λ x. IsGiven (Some (x + 1)))) (IsGiven (Some (common_block_size code)))) (changed (field_at 8) (IsNumber 8) (λ x. x + 1) (field 8))
    (or_chosen (eqb code 7) (λ p. tested_at is_long_block_size fault.Reserved 16 p >>= λ x. Ok (x.0 + 1, x.1)) (λ p. given_or (common_block_size code) p) (InOrder (IsTested is_long_block_size 16) (λ x. IsGiven (Some (x + 1)))) (IsGiven (Some (common_block_size code)))
    (changed (tested_at is_long_block_size fault.Reserved 16) (IsTested is_long_block_size 16) (λ x. x + 1) (tested is_long_block_size fault.Reserved 16)) (given (common_block_size code)))

pub rate : (described code : ℕ) → ReadsOr (sample_rate_at described code) (IsSampleRate described code)
unfolding sample_rate_at
rate described code =
    or_chosen (eqb code 0) (λ p. given_or described p) _ (IsGiven (Some described)) _ (given described)
    (or_chosen (eqb code 12) (λ p. field_at 8 p >>= λ x. Ok (1000 * x.0, x.1)) _ (InOrder (IsNumber 8) (λ x. IsGiven (Some (1000 * x)))) _ (changed (field_at 8) (IsNumber 8) (λ x. 1000 * x) (field 8))
    (or_chosen (eqb code 13) (field_at 16) _ (IsNumber 16) _ (field 16)
    (or_chosen (eqb code 14) (λ p. field_at 16 p >>= λ x. Ok (10 * x.0, x.1)) (λ p. given_or (common_sample_rate code) p) (InOrder (IsNumber 16) (λ x. IsGiven (Some (10 * x)))) (IsGiven (Some (common_sample_rate code))) (changed (field_at 16) (IsNumber 16) (λ x. 10 * x) (field 16)) (given (common_sample_rate code)))))
