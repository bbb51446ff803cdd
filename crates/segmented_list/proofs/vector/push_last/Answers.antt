use Rattle.std.proofs.Common.{ap, ◌≤◌, ◌++◌, ◌∷◌, [], ◌-◌, length, length-append, arith}
use Rattle.segmented_list.proofs.SegmentLaws.{full_then, then_full, joined_length, joined_more, last_at}
use Rattle.segmented_list.proofs.vector.push_last.Goals as goal

-- src/vector.rt:66:5
pub push-requires : goal.push-requires
push-requires g c =
    let last = last_at c.args.segments.now.items (c.len-last.result - 1) c.index_mut.result.now (omega (arith, c.len-last.ensures, c.requires.some)) c.index_mut.ensures.value in
    let old = then_full 0 last.0 c.index_mut.result.now (rw last.1 at c.requires.cut) in
    omega (arith, joined_length 0 last.0 c.index_mut.result.now old.0, old.1.2, rw last.1 at c.requires.room)

-- src/vector.rt:56:1
pub returns-clause-joined : goal.returns-clause-joined
returns-clause-joined g c = joined_more c.args.segments.now.items (c.len-last.result - 1) c.index_mut.result.now c.push.new.self c.args.item (omega (arith, c.len-last.ensures, c.requires.some)) c.index_mut.ensures.value (ap (λ z. z.items) c.push.ensures)

-- src/vector.rt:56:1
pub returns-clause-cut : goal.returns-clause-cut
returns-clause-cut g c =
    let last = last_at c.args.segments.now.items (c.len-last.result - 1) c.index_mut.result.now (omega (arith, c.len-last.ensures, c.requires.some)) c.index_mut.ensures.value in
    let old = then_full 0 last.0 c.index_mut.result.now (rw last.1 at c.requires.cut) in
    let more = length-append c.index_mut.result.now.items (c.args.item ∷ []) in
    let room : length (c.index_mut.result.now.items ++ c.args.item ∷ []) ≤ 1024 = omega (arith, more, joined_length 0 last.0 c.index_mut.result.now old.0, old.1.2, rw last.1 at c.requires.room) in
    rw (last.2 c.push.new.self, c.push.ensures)
    (full_then 0 _ _ old.0 (old.1.0, omega (arith, more), room))
