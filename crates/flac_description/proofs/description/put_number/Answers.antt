use Rattle.std.proofs.Common.{◌≡◌, ◌+◌, ◌-◌, ◌++◌, ℕ, List, length, take, drop, ap, sym, ◌∙◌, arith, length-drop}
use Rattle.std.proofs.lemmas.List.{take_all}
use Rattle.flac_definitions.specs.Bits.{bits_in}
use Rattle.flac_description.proofs.Writing.{behind_bits, low_bytes}
use Rattle.flac_description.proofs.description.put_number.Goals as goal

pub returns : goal.returns
returns c =
    let bytes = drop (8 - c.args.size) c.to_be_bytes.result in
    let word : length c.to_be_bytes.result ≡ 8 = ap (λ (l : List ℕ). length l) c.to_be_bytes.ensures in
    let long : length bytes ≡ c.args.size = omega (arith, word, length-drop (8 - c.args.size) c.to_be_bytes.result, c.requires.size) in
    let whole : take (8 - (8 - c.args.size)) bytes ≡ bytes = take_all (8 - (8 - c.args.size)) bytes (omega (arith, long, c.requires.size)) in
    let put : take (c.args.at + c.args.size) c.put.new.room ≡ take c.args.at c.args.room.now ++ bytes =
    ap (λ (k : ℕ). take (c.args.at + k) c.put.new.room) (sym long) ∙ (rw whole at c.put.ensures) in
    behind_bits _ _ bytes _ put (ap (λ (l : List ℕ). bits_in (drop (8 - c.args.size) l)) c.to_be_bytes.ensures ∙ low_bytes c.args.size c.args.number c.requires.size)
