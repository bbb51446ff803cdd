-- What FLAC's encoder gives is blocks, each with a whole number of frames or what is left at a drain.
use Rattle.std.proofs.Common.{ℕ, zero, suc, ℤ, ◌≡◌, ◌*◌, ◌+◌, ◌-◌, ◌%◌, ◌^◌, ◌<◌, ◌≤◌, map, List, [], ◌∷◌, ◌++◌, length, drop, Some, refl, sym, subst, arith}
use Rattle.std.specs.List.{AllByRecursion, range_with_len}
use Rattle.std.proofs.lemmas.List.{length-take}
use Rattle.wc_base.specs.Options.{cond_is, some_same}
use Rattle.wc_base.specs.declared.media.Samples.{Samples}
use Rattle.wc_config.specs.declared.config.AudioEncoderConfig.{AudioEncoderConfig}
use Rattle.codec_definitions.specs.declared.unit.Unit as media
use Rattle.codec_definitions.specs.declared.command.Command.{Command}
use Rattle.codec_definitions.specs.declared.command.Command.TheVariants as command
use Rattle.codec_definitions.specs.FlacCode.{block_frames, block_samples}
use Rattle.codec_definitions.specs.FlacEncoder.{inputs_since, values_of, place_in, block_unit, block_at, whole_blocks, unit_at, units_with, rest_of, unit_of_rest, is_taken, blocks_answer}

-- the key chunk of a block, with no config: at most as many samples as a block has, and a number of 31 bits
pub record IsBlock (c : AudioEncoderConfig) (u : media.Unit) : Type 0 where
  pub number : ℕ
  pub values : List ℤ
  pub place : ℤ × ℕ
  pub few : length values ≤ block_samples c
  pub small : number < 2 ^ 31
  pub is : u ≡ block_unit c number values place

-- what holds of what a function gives for each number holds of a list of them
pub each_number : {A : Type 0} (P : A → Type 0) (f : ℕ → A) → ((i : ℕ) → P (f i)) → (first n : ℕ) → AllByRecursion P (map f (range_with_len first n))
each_number P f each first zero = tt
each_number P f each first (suc n) = (each first, each_number P f each (first + 1) n)

at_is_block : (c : AudioEncoderConfig) (inputs : List Samples) (i : ℕ) → IsBlock c (unit_at c inputs i)
at_is_block c inputs i =
    let n = block_samples c in
    record {
      number = i % 2 ^ 31;
      values = block_at n (values_of c inputs) i;
      place = place_in inputs (i * block_frames c);
      few = omega (arith, length-take n (drop (n * i) (values_of c inputs)));
      small = omega arith;
      is = refl;
    }

rest_is_block : (c : AudioEncoderConfig) (rest : List ℤ) (u : media.Unit) → IsBlock c u → AllByRecursion (IsBlock c) (unit_of_rest rest u)
rest_is_block c [] u h = tt
rest_is_block c (x ∷ xs) u h = (h, tt)

-- each unit of an answer is a block's
pub answers_blocks : (c : AudioEncoderConfig) (before : List Command) (x : Command) (us : List media.Unit) → blocks_answer c before x ≡ Some us → AllByRecursion (IsBlock c) us
answers_blocks c before (command.Chunk chunk) us h = absurd cc
answers_blocks c before (command.Sound s) us h =
    let inputs = inputs_since before in
    let all = inputs ++ s ∷ [] in
    subst (AllByRecursion (IsBlock c)) (some_same (units_with c inputs s) us (cond_is (is_taken c s) (Some (units_with c inputs s)) us h).1)
    (each_number (IsBlock c) (unit_at c all) (at_is_block c all) (whole_blocks c inputs) (whole_blocks c all - whole_blocks c inputs))
answers_blocks c before (command.Image picture) us h = absurd cc
answers_blocks c before command.Drain us h =
    let inputs = inputs_since before in
    let last = unit_at c inputs (whole_blocks c inputs) in
    subst (AllByRecursion (IsBlock c)) (some_same (unit_of_rest (rest_of c inputs) last) us h)
    (rest_is_block c (rest_of c inputs) last (at_is_block c inputs (whole_blocks c inputs)))

-- what holds of each block's unit holds of all
pub blocks_where : (P : media.Unit → Type 0) (c : AudioEncoderConfig) → ((number : ℕ) (values : List ℤ) (place : ℤ × ℕ) → length values ≤ block_samples c → P (block_unit c number values place)) → (us : List media.Unit) → AllByRecursion (IsBlock c) us → AllByRecursion P us
blocks_where P c each [] blocks = tt
blocks_where P c each (u ∷ us) blocks = (subst P (sym blocks.0.is) (each blocks.0.number blocks.0.values blocks.0.place blocks.0.few), blocks_where P c each us blocks.1)
