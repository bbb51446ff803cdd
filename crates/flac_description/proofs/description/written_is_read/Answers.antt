use Rattle.std.proofs.Common.{List, ℕ, true, length, ap, subst, sym, ◌∙◌, arith}
use Rattle.std.proofs.lemmas.List.{take_all}
use Rattle.flac_definitions.specs.Bits.{bits_in}
use Rattle.flac_definitions.specs.BitLaws.{IsBytes}
use Rattle.flac_description.proofs.Reading.{spelled_is_read}
use Rattle.flac_description.proofs.description.written_is_read.Goals as goal

pub returns : goal.returns
returns c usable =
    let info = c.args.info.now in
    let sum_bytes : IsBytes info.md5 = subst (λ (l : List ℕ). IsBytes l) c.requires.sum (λ i. omega (arith, c.type_inv.sum i)) in
    spelled_is_read info c.args.bytes.now (λ i. omega (arith, c.type_inv.bytes i)) record {
      fields = c.requires.fields;
      usable = usable;
      sum = ap (λ (l : List ℕ). length l) (sym c.requires.sum) ∙ c.requires.sum_length;
      sum_bytes = sum_bytes;
      last = true;
      bits = ap bits_in (take_all 42 c.args.bytes.now (omega (arith, c.requires.length))) ∙ c.requires.bits;
    }
