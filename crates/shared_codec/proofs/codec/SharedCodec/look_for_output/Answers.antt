use Rattle.std.proofs.Common.{◌≡◌, ◌∙◌, length, refl, ap, sym, subst}
use Rattle.seat_lock.specs.Own.{inside_of}
use Rattle.shared_codec.specs.declared.codec.Locked.{Locked}
use Rattle.codec_media.specs.Holding.{Holding}
use Rattle.shared_codec.specs.Shared.{Shared}
use Rattle.std.specs.Prelude.{IfOk}
use Rattle.wc_base.specs.declared.seat.Passage.TheVariants.{Look}
use Rattle.codec_logs.specs.Logs.{history_of}
use Rattle.shared_codec.specs.Shared.{state_in}
use Rattle.shared_codec.specs.Takes.{NextIs}
use Rattle.shared_codec.proofs.Stands.{StandsAt, passes_in, stands_look, keeps_passage}
use Rattle.shared_codec.proofs.Gave.{saw}
use Rattle.shared_codec.proofs.Taken.{output_at}
use Rattle.shared_codec.proofs.Owing.{look_owes}
use Rattle.shared_codec.proofs.codec.SharedCodec.look_for_output.Goals as goal

pub leave-requires-clause-log : goal.leave-requires-clause-log
leave-requires-clause-log g c =
    let s : Shared = record { id = c.self.inside.lock.id; codec = c.self.inside.lock.about.codec; opening = c.self.inside.lock.about.opening; calls = c.self.inside.lock.about.calls; pool = c.self.inside.lock.about.pool.value; slots = c.self.inside.lock.about.slots.value.id } in
    let e = c.enter-held.ensures.log in
    let st : StandsAt s c.state.result.now.core.value e.log = subst (λ (x : Locked _). StandsAt s x.core.value e.log) (sym c.state.ensures.value) e.stands in
    record {
      log = e.log;
      inside = inside_of e.log _ _ e.goes_in;
      stands = stands_look s.codec s.opening s.calls s.pool s.slots _ c.state.result.now.core.value c.state.result.now.core.value e.log st refl st.held;
      has_claim = tt;
    }

pub returns-clause-tells : goal.returns-clause-tells
returns-clause-tells g c =
    let s : Shared = record { id = c.self.inside.lock.id; codec = c.self.inside.lock.about.codec; opening = c.self.inside.lock.about.opening; calls = c.self.inside.lock.about.calls; pool = c.self.inside.lock.about.pool.value; slots = c.self.inside.lock.about.slots.value.id } in
    let e = c.enter-held.ensures.log in
    let st : StandsAt s c.state.result.now.core.value e.log = subst (λ (x : Locked _). StandsAt s x.core.value e.log) (sym c.state.ensures.value) e.stands in
    let passes = passes_in _ _ Look c.args.seat.now c.enter-held.new.seat c.leave.new.seat e c.leave.ensures.log in
    rw (← c.self.view_is) (saw s (λ log. IfOk c.output_in-seen.result (λ x. (x.0 ≡ length (history_of log)) × NextIs s.opening (history_of log) (state_in s log).control x.1)) Look c.args.seat.now c.leave.new.seat passes refl c.state.result.now.core.value st
    (output_at s c.state.result.now.core.value _ e.log c.output_in-seen.result st (c.core.ensures ∙ ap (λ (x : Holding). x.codec) c.deref.ensures) c.output_in-seen.ensures.length c.output_in-seen.ensures.next))

pub returns-clause-kept : goal.returns-clause-kept
returns-clause-kept g c =
    let e = c.enter-held.ensures.log in
    let passes = passes_in _ _ Look c.args.seat.now c.enter-held.new.seat c.leave.new.seat e c.leave.ensures.log in
    keeps_passage c.args.self.now.id Look c.args.seat.now c.leave.new.seat passes c.requires (c.leave.ensures.same.0 ∙ c.enter-held.ensures.seat.0, c.leave.ensures.same.1 ∙ c.enter-held.ensures.seat.1)

pub returns-clause-owes : goal.returns-clause-owes
returns-clause-owes g c = look_owes c.args.self.now c.args.seat.now c.leave.new.seat (returns-clause-tells g c).looked
