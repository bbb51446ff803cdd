use Rattle.std.proofs.Common.{◌≡◌, ◌<◌, ◌^◌, List, ℕ, take, length, length-take, ap, ◌∙◌, arith}
use Rattle.flac_definitions.specs.Bits.{start_of}
use Rattle.flac_decode.specs.FrameEnd.{most}
use Rattle.flac_stream.proofs.NextLaws.{told}
use Rattle.flac_stream.proofs.next.header_from.Goals as goal

few : (bytes front : List ℕ) → front ≡ take most bytes → length front < 2 ^ 61
few bytes front e = omega (arith, length-take most bytes, ap length e)

pub new-r-requires : goal.new-r-requires
new-r-requires c = few c.tail-rest.result.now c.front.result.now c.front.ensures

pub returns-clause-header : goal.returns-clause-header
returns-clause-header c =
    (told c.args.info.now _ c.read_header.new.r c.read_header.result c.args.bytes.now c.args.at (c.new-r.ensures ∙ ap (λ (xs : List ℕ). start_of xs) (c.front.ensures ∙ ap (take most) c.tail-rest.ensures)) c.read_header.ensures.read).0

pub returns-clause-cut : goal.returns-clause-cut
returns-clause-cut c =
    (told c.args.info.now _ c.read_header.new.r c.read_header.result c.args.bytes.now c.args.at (c.new-r.ensures ∙ ap (λ (xs : List ℕ). start_of xs) (c.front.ensures ∙ ap (take most) c.tail-rest.ensures)) c.read_header.ensures.read).1
