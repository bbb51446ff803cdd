use Rattle.std.proofs.Common.{ℕ, ◌≡◌, ◌∙◌, ap, sym, subst}
use Rattle.atomic_table.specs.Seated.{TableId}
use Rattle.seat_lock.specs.Own.{inside_of}
use Rattle.seat_lock.specs.Passages.{passage_of}
use Rattle.codec_logs.specs.Logs.{acquires_of}
use Rattle.codec_media.specs.Holding.{Holding}
use Rattle.shared_codec.specs.declared.codec.Locked.{Locked}
use Rattle.shared_codec.specs.Shared.{Shared}
use Rattle.shared_codec.specs.Gives.{EncodeGives}
use Rattle.shared_codec.proofs.Stands.{StandsAt, nothing_spent, passes_in, keeps_passage}
use Rattle.shared_codec.proofs.Encoded.{encode_some, stands_encode, tells_encode, encode_settles, wanted_owes}
use Rattle.shared_codec.proofs.codec.SharedCodec.encode.Goals as goal

pub passage_if-passage-requires-after_bounds : goal.passage_if-passage-requires-after_bounds
passage_if-passage-requires-after_bounds g c κs within = λ made.
    rw (c.core.ensures, c.deref.ensures, c.state-2.ensures.value)
    (encode_some c.self.inside.codec c.args.pool.now c.deref_mut.result.now c.encode_in-reply.new.core c.args.who (g.L.Lender.lends c.args.lender.now) c.encode_in-reply.result c.args.pool_seat.now.me.0 c.encode_in-reply.new.seat.me.0 c.encode_in-reply.ensures.encoded (sym c.has_replied-made.ensures ∙ made))

pub leave-requires-clause-log : goal.leave-requires-clause-log
leave-requires-clause-log g c =
    let s : Shared = record { id = c.self.inside.lock.id; codec = c.self.inside.lock.about.codec; opening = c.self.inside.lock.about.opening; calls = c.self.inside.lock.about.calls; pool = c.self.inside.lock.about.pool.value; slots = c.self.inside.lock.about.slots.value.id } in
    let e = c.enter-held.ensures.log in
    let st : StandsAt s c.deref_mut.result.now e.log = subst (λ (x : Holding). StandsAt s x e.log) (sym c.deref_mut.ensures.value) (subst (λ (x : Locked _). StandsAt s x.core.value e.log) (sym c.state.ensures.value) e.stands) in
    let same : c.self.inside.codec ≡ s.codec = c.self.invariant in
    let pool : c.args.pool.now ≡ s.pool = c.requires.pool ∙ ap (λ (x : Shared). x.pool) (sym c.self.view_is) in
    let gives : EncodeGives s.codec s.pool c.deref_mut.result.now c.encode_in-reply.new.core c.args.who (g.L.Lender.lends c.args.lender.now) c.encode_in-reply.result c.args.pool_seat.now.me.0 c.encode_in-reply.new.seat.me.0 =
    subst (λ (z : ℕ × TableId). EncodeGives z.0 z.1 c.deref_mut.result.now c.encode_in-reply.new.core c.args.who (g.L.Lender.lends c.args.lender.now) c.encode_in-reply.result c.args.pool_seat.now.me.0 c.encode_in-reply.new.seat.me.0) (λ i. (same i, pool i)) c.encode_in-reply.ensures.encoded in
    let is = rw (c.has_replied-made.ensures, c.core.ensures, c.deref.ensures, c.state-2.ensures.value) at c.passage_if-passage.ensures in
    let n = c.enter-held.new.seat.me.0.number in
    record {
      log = e.log;
      inside = inside_of e.log _ _ e.goes_in;
      stands = rw c.state-2.ensures.value (stands_encode s.codec s.opening s.calls s.pool s.slots n c.args.who (g.L.Lender.lends c.args.lender.now) c.encode_in-reply.result c.deref_mut.result.now c.encode_in-reply.new.core c.args.pool_seat.now.me.0 c.encode_in-reply.new.seat.me.0 e.log _ c.no_acquires.result (ap acquires_of c.no_acquires.ensures) gives is st);
      has_claim = nothing_spent e.log _ _;
    }

pub returns-clause-reply : goal.returns-clause-reply
returns-clause-reply g c =
    let s : Shared = record { id = c.self.inside.lock.id; codec = c.self.inside.lock.about.codec; opening = c.self.inside.lock.about.opening; calls = c.self.inside.lock.about.calls; pool = c.self.inside.lock.about.pool.value; slots = c.self.inside.lock.about.slots.value.id } in
    let e = c.enter-held.ensures.log in
    let st : StandsAt s c.deref_mut.result.now e.log = subst (λ (x : Holding). StandsAt s x e.log) (sym c.deref_mut.ensures.value) (subst (λ (x : Locked _). StandsAt s x.core.value e.log) (sym c.state.ensures.value) e.stands) in
    let same : c.self.inside.codec ≡ s.codec = c.self.invariant in
    let pool : c.args.pool.now ≡ s.pool = c.requires.pool ∙ ap (λ (x : Shared). x.pool) (sym c.self.view_is) in
    let gives : EncodeGives s.codec s.pool c.deref_mut.result.now c.encode_in-reply.new.core c.args.who (g.L.Lender.lends c.args.lender.now) c.encode_in-reply.result c.args.pool_seat.now.me.0 c.encode_in-reply.new.seat.me.0 =
    subst (λ (z : ℕ × TableId). EncodeGives z.0 z.1 c.deref_mut.result.now c.encode_in-reply.new.core c.args.who (g.L.Lender.lends c.args.lender.now) c.encode_in-reply.result c.args.pool_seat.now.me.0 c.encode_in-reply.new.seat.me.0) (λ i. (same i, pool i)) c.encode_in-reply.ensures.encoded in
    let is = rw (c.has_replied-made.ensures, c.core.ensures, c.deref.ensures, c.state-2.ensures.value) at c.passage_if-passage.ensures in
    let n = c.args.seat.now.me.0.number in
    let passes = passes_in _ _ (passage_of c.passage_if-passage.result) c.args.seat.now c.enter-held.new.seat c.leave.new.seat e c.leave.ensures.log in
    let next = stands_encode s.codec s.opening s.calls s.pool s.slots n c.args.who (g.L.Lender.lends c.args.lender.now) c.encode_in-reply.result c.deref_mut.result.now c.encode_in-reply.new.core c.args.pool_seat.now.me.0 c.encode_in-reply.new.seat.me.0 e.log _ c.no_acquires.result (ap acquires_of c.no_acquires.ensures) gives is st in
    rw (← c.self.view_is) (tells_encode s c.args.who (g.L.Lender.lends c.args.lender.now) c.encode_in-reply.result c.deref_mut.result.now c.encode_in-reply.new.core c.args.pool_seat.now.me.0 c.encode_in-reply.new.seat.me.0 _ c.no_acquires.result c.args.seat.now c.leave.new.seat passes (ap acquires_of c.no_acquires.ensures) gives is st next)

pub returns-clause-kept : goal.returns-clause-kept
returns-clause-kept g c =
    let e = c.enter-held.ensures.log in
    let passes = passes_in _ _ (passage_of c.passage_if-passage.result) c.args.seat.now c.enter-held.new.seat c.leave.new.seat e c.leave.ensures.log in
    keeps_passage c.args.self.now.id (passage_of c.passage_if-passage.result) c.args.seat.now c.leave.new.seat passes c.requires.seat (c.leave.ensures.same.0 ∙ c.enter-held.ensures.seat.0, c.leave.ensures.same.1 ∙ c.enter-held.ensures.seat.1)

pub returns-clause-settles : goal.returns-clause-settles
returns-clause-settles g c =
    encode_settles c.args.self.now c.args.who (g.L.Lender.lends c.args.lender.now) c.encode_in-reply.result c.args.seat.now c.leave.new.seat c.args.pool_seat.now.me.0 c.encode_in-reply.new.seat.me.0 (returns-clause-reply g c)

pub returns-clause-err : goal.returns-clause-err
returns-clause-err g c =
    wanted_owes c.args.self.now c.args.who (g.L.Lender.lends c.args.lender.now) c.encode_in-reply.result c.args.seat.now c.leave.new.seat c.args.pool_seat.now.me.0 c.encode_in-reply.new.seat.me.0 (returns-clause-reply g c)
