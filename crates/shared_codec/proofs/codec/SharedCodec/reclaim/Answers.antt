use Rattle.std.proofs.Common.{◌∙◌, ap, sym, subst}
use Rattle.seat_lock.specs.Own.{inside_of}
use Rattle.seat_lock.specs.Passages.{passage_of}
use Rattle.codec_logs.specs.Logs.{acquires_of}
use Rattle.codec_media.specs.Holding.{Holding}
use Rattle.shared_codec.specs.declared.codec.Locked.{Locked}
use Rattle.shared_codec.specs.Shared.{Shared}
use Rattle.shared_codec.proofs.Stands.{StandsAt, nothing_spent, passes_in, keeps_passage}
use Rattle.shared_codec.proofs.Gave.{reclaim_gives, stands_reclaim, tells_reclaim}
use Rattle.shared_codec.proofs.Owing.{reclaim_owes}
use Rattle.shared_codec.proofs.codec.SharedCodec.reclaim.Goals as goal

pub leave-requires-clause-log : goal.leave-requires-clause-log
leave-requires-clause-log g c =
    let s : Shared = record { id = c.self.inside.lock.id; codec = c.self.inside.lock.about.codec; opening = c.self.inside.lock.about.opening; calls = c.self.inside.lock.about.calls; pool = c.self.inside.lock.about.pool.value; slots = c.self.inside.lock.about.slots.value.id } in
    let e = c.enter-held.ensures.log in
    let st : StandsAt s c.deref_mut.result.now e.log = subst (λ (x : Holding). StandsAt s x e.log) (sym c.deref_mut.ensures.value) (subst (λ (x : Locked _). StandsAt s x.core.value e.log) (sym c.state.ensures.value) e.stands) in
    let n = c.enter-held.new.seat.me.0.number in
    let is = rw (c.is_some.ensures, c.core.ensures, c.deref.ensures, c.state-2.ensures.value) at c.passage_if-passage.ensures in
    record {
      log = e.log;
      inside = inside_of e.log _ _ e.goes_in;
      stands = rw c.state-2.ensures.value (stands_reclaim s.codec s.opening s.calls s.pool s.slots n c.args.now c.reclaim-removed.result c.deref_mut.result.now c.reclaim-removed.new.self e.log _ c.no_acquires.result (ap acquires_of c.no_acquires.ensures) (reclaim_gives c.deref_mut.result.now c.reclaim-removed.new.self c.args.now c.reclaim-removed.result c.reclaim-removed.ensures.none c.reclaim-removed.ensures.same c.reclaim-removed.ensures.made c.reclaim-removed.ensures.place c.reclaim-removed.ensures.coder c.reclaim-removed.ensures.lets c.reclaim-removed.ensures.slot c.reclaim-removed.ensures.out c.reclaim-removed.ensures.spare c.reclaim-removed.ensures.gone) is st);
      has_claim = nothing_spent e.log _ _;
    }

pub returns-clause-removed : goal.returns-clause-removed
returns-clause-removed g c =
    let s : Shared = record { id = c.self.inside.lock.id; codec = c.self.inside.lock.about.codec; opening = c.self.inside.lock.about.opening; calls = c.self.inside.lock.about.calls; pool = c.self.inside.lock.about.pool.value; slots = c.self.inside.lock.about.slots.value.id } in
    let e = c.enter-held.ensures.log in
    let st : StandsAt s c.deref_mut.result.now e.log = subst (λ (x : Holding). StandsAt s x e.log) (sym c.deref_mut.ensures.value) (subst (λ (x : Locked _). StandsAt s x.core.value e.log) (sym c.state.ensures.value) e.stands) in
    let n = c.args.seat.now.me.0.number in
    let is = rw (c.is_some.ensures, c.core.ensures, c.deref.ensures, c.state-2.ensures.value) at c.passage_if-passage.ensures in
    let passes = passes_in _ _ (passage_of c.passage_if-passage.result) c.args.seat.now c.enter-held.new.seat c.leave.new.seat e c.leave.ensures.log in
    let next = stands_reclaim s.codec s.opening s.calls s.pool s.slots n c.args.now c.reclaim-removed.result c.deref_mut.result.now c.reclaim-removed.new.self e.log _ c.no_acquires.result (ap acquires_of c.no_acquires.ensures) (reclaim_gives c.deref_mut.result.now c.reclaim-removed.new.self c.args.now c.reclaim-removed.result c.reclaim-removed.ensures.none c.reclaim-removed.ensures.same c.reclaim-removed.ensures.made c.reclaim-removed.ensures.place c.reclaim-removed.ensures.coder c.reclaim-removed.ensures.lets c.reclaim-removed.ensures.slot c.reclaim-removed.ensures.out c.reclaim-removed.ensures.spare c.reclaim-removed.ensures.gone) is st in
    rw (← c.self.view_is) (tells_reclaim s c.args.now c.reclaim-removed.result c.deref_mut.result.now c.reclaim-removed.new.self _ c.no_acquires.result c.args.seat.now c.leave.new.seat passes (ap acquires_of c.no_acquires.ensures) (reclaim_gives c.deref_mut.result.now c.reclaim-removed.new.self c.args.now c.reclaim-removed.result c.reclaim-removed.ensures.none c.reclaim-removed.ensures.same c.reclaim-removed.ensures.made c.reclaim-removed.ensures.place c.reclaim-removed.ensures.coder c.reclaim-removed.ensures.lets c.reclaim-removed.ensures.slot c.reclaim-removed.ensures.out c.reclaim-removed.ensures.spare c.reclaim-removed.ensures.gone) is st next)

pub returns-clause-kept : goal.returns-clause-kept
returns-clause-kept g c =
    let e = c.enter-held.ensures.log in
    let passes = passes_in _ _ (passage_of c.passage_if-passage.result) c.args.seat.now c.enter-held.new.seat c.leave.new.seat e c.leave.ensures.log in
    keeps_passage c.args.self.now.id (passage_of c.passage_if-passage.result) c.args.seat.now c.leave.new.seat passes c.requires (c.leave.ensures.same.0 ∙ c.enter-held.ensures.seat.0, c.leave.ensures.same.1 ∙ c.enter-held.ensures.seat.1)

pub returns-clause-owes : goal.returns-clause-owes
returns-clause-owes g c = reclaim_owes c.args.self.now c.args.now c.reclaim-removed.result c.args.seat.now c.leave.new.seat (returns-clause-removed g c)
