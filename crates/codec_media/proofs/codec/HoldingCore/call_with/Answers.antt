use Rattle.std.proofs.Common.{rules, arith, ◌+◌, ◌≤◌, ◌∙◌, vec_len, vec_capacity, deque_len}
use Rattle.codec_media.proofs.Holds.{more_holds}
use Rattle.codec_media.proofs.codec.HoldingCore.call_with.Goals as goal

pub invariant_of-self-in-Ok-call : goal.invariant_of-self-in-Ok-call
invariant_of-self-in-Ok-call g c =
    let i = c.self.inside in
    let holds = more_holds c.references_are_held.ensures.apart i.core c.call-in-Ok.new.self c.args.who c.args.call c.args.held i.working i.waiting.items c.in-Ok-call.ensures.replied.made c.requires.held c.self.invariant.0 in
    let places : vec_len c.room_for.new.freed + deque_len c.room_for.new.waiting + 1 ≤ vec_capacity c.room_for.new.freed = search rules in
    (rw (c.push_back_reserved.ensures.items, c.room_for.ensures.waiting) holds, c.room_for.ensures.freed ∙ c.self.invariant.1, omega (arith, c.room_for.ensures.freed_len, c.self.invariant.2), omega (arith, places, c.push_back_reserved.ensures.len))
