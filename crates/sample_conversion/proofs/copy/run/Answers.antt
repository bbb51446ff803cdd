use Rattle.std.proofs.Common.{ℕ, ◌∙◌, ◌≡◌, ◌≤◌, ◌*◌, ◌+◌, ◌-◌, List, length, take, drop, ap}
use Rattle.codec_definitions.specs.Pcm.{resized_at}
use Rattle.sample_conversion.proofs.Layouts.{one_piece, part_at, piece_is, part_len, minus}
use Rattle.sample_conversion.proofs.copy.run.Goals as goal

pub loop-i-preserved : goal.loop-i-preserved
loop-i-preserved g c =
    let s : ℕ = g.row.S in
    let d : ℕ = g.row.D in
    let i : ℕ = c.loop-i.i in
    let from : List ℕ = c.args.from.now in
    let to : List ℕ = c.loop-i.to in
    let n : ℕ = c.args.first + i * c.args.step in
    let there : s * n + s ≤ length from = c.requires.there i c.loop-i-test.true in
    let long : length to ≡ d * c.args.count = c.loop-i.auto.to ∙ c.requires.room in
    let from_len = part_len from (s * n) s there in
    let to_len = part_len to (d * i) d (part_at d i c.args.count (length to) c.loop-i-test.true long) in
    let is = piece_is from (take (s * n + s - s * n) (drop (s * n) from)) c.convert.new.to s d (length (take (d * i + d - d * i) (drop (d * i) to))) n (ap (λ (k : ℕ). take k (drop (s * n) from)) (minus (s * n) s)) from_len to_len c.convert.ensures in
    one_piece (λ k. resized_at s d from (c.args.first + k * c.args.step)) to c.convert.new.to d i c.args.count c.loop-i.invariant is c.loop-i-test.true long c.convert.auto.to
