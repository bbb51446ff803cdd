use Rattle.std.proofs.Common.{ℕ, ◌∷◌, [], ◌++◌, ◌∙◌, sym, subst}
use Rattle.seat_lock.specs.Own.{inside_of, number_of}
use Rattle.seat_lock.specs.Passages.{passage_of}
use Rattle.codec_logs.specs.Logs.{acquires_of}
use Rattle.codec_media.specs.Holding.{Holding}
use Rattle.shared_codec.specs.declared.codec.Locked.{Locked}
use Rattle.shared_codec.specs.Shared.{Shared}
use Rattle.shared_codec.proofs.Stands.{StandsAt, nothing_spent, passes_in, ends_later, end_now, keeps_passage}
use Rattle.shared_codec.proofs.Jobs.{stands_ends, tells_done}
use Rattle.shared_codec.proofs.Owing.{done_owes}
use Rattle.shared_codec.proofs.codec.SharedCodec.done.Goals as goal

pub done-back-requires-clause-end : goal.done-back-requires-clause-end
done-back-requires-clause-end g c κs within =
    let s : Shared = record { id = c.self.inside.lock.id; codec = c.self.inside.lock.about.codec; opening = c.self.inside.lock.about.opening; calls = c.self.inside.lock.about.calls; pool = c.self.inside.lock.about.pool.value; slots = c.self.inside.lock.about.slots.value.id } in
    let e = c.enter-held.ensures.log in
    let st : StandsAt s c.deref_mut.result.now e.log = subst (λ (x : Holding). StandsAt s x e.log) (sym c.deref_mut.ensures.value) (subst (λ (x : Locked _). StandsAt s x.core.value e.log) (sym c.state.ensures.value) e.stands) in
    (end_now s.codec s.opening s.calls s.pool s.slots c.args.seat.now.me.0.number c.deref_mut.result.now e.log c.args.d (acquires_of c.args.acquires) st (ends_later s.codec s.opening s.slots c.args.seat.now.me.0.number c.args.seat.now.me.0.numbers c.args.seat.now.me.0.log e.log c.args.d (acquires_of c.args.acquires) e.has_number e.continues st.legal (rw (← c.self.view_is) at c.requires.own))).0

pub done-back-requires-clause-own : goal.done-back-requires-clause-own
done-back-requires-clause-own g c κs within =
    let s : Shared = record { id = c.self.inside.lock.id; codec = c.self.inside.lock.about.codec; opening = c.self.inside.lock.about.opening; calls = c.self.inside.lock.about.calls; pool = c.self.inside.lock.about.pool.value; slots = c.self.inside.lock.about.slots.value.id } in
    let e = c.enter-held.ensures.log in
    let st : StandsAt s c.deref_mut.result.now e.log = subst (λ (x : Holding). StandsAt s x e.log) (sym c.deref_mut.ensures.value) (subst (λ (x : Locked _). StandsAt s x.core.value e.log) (sym c.state.ensures.value) e.stands) in
    (end_now s.codec s.opening s.calls s.pool s.slots c.args.seat.now.me.0.number c.deref_mut.result.now e.log c.args.d (acquires_of c.args.acquires) st (ends_later s.codec s.opening s.slots c.args.seat.now.me.0.number c.args.seat.now.me.0.numbers c.args.seat.now.me.0.log e.log c.args.d (acquires_of c.args.acquires) e.has_number e.continues st.legal (rw (← c.self.view_is) at c.requires.own))).1

pub leave-requires-clause-log : goal.leave-requires-clause-log
leave-requires-clause-log g c =
    let s : Shared = record { id = c.self.inside.lock.id; codec = c.self.inside.lock.about.codec; opening = c.self.inside.lock.about.opening; calls = c.self.inside.lock.about.calls; pool = c.self.inside.lock.about.pool.value; slots = c.self.inside.lock.about.slots.value.id } in
    let e = c.enter-held.ensures.log in
    let st : StandsAt s c.deref_mut.result.now e.log = subst (λ (x : Holding). StandsAt s x e.log) (sym c.deref_mut.ensures.value) (subst (λ (x : Locked _). StandsAt s x.core.value e.log) (sym c.state.ensures.value) e.stands) in
    let n = c.enter-held.new.seat.me.0.number in
    let is = rw (c.core.ensures, c.deref.ensures, c.state-2.ensures.value) at c.passage_if-passage.ensures in
    record {
      log = e.log;
      inside = inside_of e.log _ _ e.goes_in;
      stands = rw c.state-2.ensures.value (subst (λ (m : ℕ). StandsAt s c.done-back.new.self (e.log ++ (m, passage_of c.passage_if-passage.result) ∷ [])) (sym (number_of e.log _ _ e.goes_in)) (stands_ends s.codec s.opening s.calls s.pool s.slots c.args.seat.now.me.0.number c.deref_mut.result.now c.done-back.new.self c.args.d c.args.acquires c.args.moment c.done-back.result e.log _ st (ends_later s.codec s.opening s.slots c.args.seat.now.me.0.number c.args.seat.now.me.0.numbers c.args.seat.now.me.0.log e.log c.args.d (acquires_of c.args.acquires) e.has_number e.continues st.legal (rw (← c.self.view_is) at c.requires.own)) (record { made = c.done-back.ensures.made; place = c.done-back.ensures.place; slot = c.done-back.ensures.slot; hands = c.done-back.ensures.back; lets = c.done-back.ensures.lets; spare = c.done-back.ensures.spare; media = c.done-back.ensures.media; working = c.done-back.ensures.working; waiting = c.done-back.ensures.waiting; gone = c.done-back.ensures.gone }) is));
      has_claim = nothing_spent e.log _ _;
    }

pub returns-clause-done : goal.returns-clause-done
returns-clause-done g c =
    let s : Shared = record { id = c.self.inside.lock.id; codec = c.self.inside.lock.about.codec; opening = c.self.inside.lock.about.opening; calls = c.self.inside.lock.about.calls; pool = c.self.inside.lock.about.pool.value; slots = c.self.inside.lock.about.slots.value.id } in
    let e = c.enter-held.ensures.log in
    let st : StandsAt s c.deref_mut.result.now e.log = subst (λ (x : Holding). StandsAt s x e.log) (sym c.deref_mut.ensures.value) (subst (λ (x : Locked _). StandsAt s x.core.value e.log) (sym c.state.ensures.value) e.stands) in
    let n = c.args.seat.now.me.0.number in
    let is = rw (c.core.ensures, c.deref.ensures, c.state-2.ensures.value) at c.passage_if-passage.ensures in
    let passes = passes_in _ _ (passage_of c.passage_if-passage.result) c.args.seat.now c.enter-held.new.seat c.leave.new.seat e c.leave.ensures.log in
    let next = stands_ends s.codec s.opening s.calls s.pool s.slots c.args.seat.now.me.0.number c.deref_mut.result.now c.done-back.new.self c.args.d c.args.acquires c.args.moment c.done-back.result e.log _ st (ends_later s.codec s.opening s.slots c.args.seat.now.me.0.number c.args.seat.now.me.0.numbers c.args.seat.now.me.0.log e.log c.args.d (acquires_of c.args.acquires) e.has_number e.continues st.legal (rw (← c.self.view_is) at c.requires.own)) (record { made = c.done-back.ensures.made; place = c.done-back.ensures.place; slot = c.done-back.ensures.slot; hands = c.done-back.ensures.back; lets = c.done-back.ensures.lets; spare = c.done-back.ensures.spare; media = c.done-back.ensures.media; working = c.done-back.ensures.working; waiting = c.done-back.ensures.waiting; gone = c.done-back.ensures.gone }) is in
    rw (← c.self.view_is) (tells_done s c.deref_mut.result.now c.done-back.new.self c.args.d c.args.acquires c.args.moment c.done-back.result _ c.args.seat.now c.leave.new.seat passes st (ends_later s.codec s.opening s.slots c.args.seat.now.me.0.number c.args.seat.now.me.0.numbers c.args.seat.now.me.0.log e.log c.args.d (acquires_of c.args.acquires) e.has_number e.continues st.legal (rw (← c.self.view_is) at c.requires.own)) (record { made = c.done-back.ensures.made; place = c.done-back.ensures.place; slot = c.done-back.ensures.slot; hands = c.done-back.ensures.back; lets = c.done-back.ensures.lets; spare = c.done-back.ensures.spare; media = c.done-back.ensures.media; working = c.done-back.ensures.working; waiting = c.done-back.ensures.waiting; gone = c.done-back.ensures.gone }) is next)

pub returns-clause-kept : goal.returns-clause-kept
returns-clause-kept g c =
    let e = c.enter-held.ensures.log in
    let passes = passes_in _ _ (passage_of c.passage_if-passage.result) c.args.seat.now c.enter-held.new.seat c.leave.new.seat e c.leave.ensures.log in
    keeps_passage c.args.self.now.id (passage_of c.passage_if-passage.result) c.args.seat.now c.leave.new.seat passes c.requires.seat (c.leave.ensures.same.0 ∙ c.enter-held.ensures.seat.0, c.leave.ensures.same.1 ∙ c.enter-held.ensures.seat.1)

pub returns-clause-owes : goal.returns-clause-owes
returns-clause-owes g c = done_owes c.args.self.now c.args.d (acquires_of c.args.acquires) c.args.moment c.done-back.result c.args.seat.now c.leave.new.seat c.requires.own (returns-clause-done g c)
