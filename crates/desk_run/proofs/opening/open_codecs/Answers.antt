use Rattle.std.proofs.Common.{◌∙◌, ◌∷◌, [], List, Option, length, length-append, sym, refl, ap, subst, arith}
use Rattle.atomic_table.specs.declared.shared.Seat.{Seat}
use Rattle.wc_base.specs.declared.seat.View.{View}
use Rattle.codec_logs.specs.declared.event.Event.{Event}
use Rattle.shared_codec.specs.declared.codec.Locked.{Locked}
use Rattle.shared_slots.specs.Boxes.{Registry}
use Rattle.shared_codec.specs.Shared.{Shared}
use Rattle.codec_desk.specs.Each.{Pairs}
use Rattle.desk_run.specs.Opened.{IsOpenedAt}
use Rattle.desk_run.proofs.Lists.{pairs_add}
use Rattle.desk_run.proofs.FirstSeats.{opened_at}
use Rattle.desk_run.proofs.opening.open_codecs.Goals as goal

pub loop-place-preserved : goal.loop-place-preserved
loop-place-preserved g c =
    let A = Seat (Option (Locked g.row.C.Denot)) (View Event) in
    let i = c.loop-place.invariant in
    let e = c.in_ok-codec.ensures in
    let p = c.push_reserved.ensures in
    let q = c.push_reserved-in-loop-place.ensures in
    let x = c.in_ok-codec.codec in
    let s = c.in_ok-codec.seat in
    let lt = c.loop-place-test.true in
    let end = i.end in
    let few = c.requires.few in
    let xs = c.loop-place.desk.codecs.items in
    let us = c.loop-place.seats.codecs.items in
    let many = ap (λ (l : List Shared). length l) p.items ∙ length-append xs (x ∷ []) in
    let seats = ap (λ (l : List A). length l) q.items ∙ length-append us (s ∷ []) in
    let one = opened_at c.args.openings.now c.args.calls c.args.desk.now.pool c.args.desk.now.slots.id c.loop-place.place _ x s c.opening_at-opening.result e.codec refl (e.pool ∙ i.pool.0) (e.slots ∙ ap (λ (r : Registry). r.id) i.slots.0) e.opening e.calls c.opening_at-opening.ensures.at e.seat.0 e.seat.1 in
    record {
      pool = i.pool;
      slots = i.slots;
      opened = subst (λ (z : List Shared × List A). Pairs (IsOpenedAt c.args.openings.now c.args.calls c.args.desk.now.pool c.args.desk.now.slots.id) 0 z.0 z.1) (λ n. (sym p.items n, sym q.items n))
          (pairs_add (IsOpenedAt c.args.openings.now c.args.calls c.args.desk.now.pool c.args.desk.now.slots.id) 0 c.loop-place.place xs us x s i.opened (omega (arith, i.many)) one);
      many = omega (arith, many, i.many);
      seats = omega (arith, seats, i.seats);
      end = end;
      below = omega (arith, lt);
      room = p.capacity ∙ i.room;
      places = q.capacity ∙ i.places;
    }

pub returns-in_err-codec-clause-pool : goal.returns-in_err-codec-clause-pool
returns-in_err-codec-clause-pool g c = c.loop-place.invariant.pool

pub returns-in_err-codec-clause-slots : goal.returns-in_err-codec-clause-slots
returns-in_err-codec-clause-slots g c = c.loop-place.invariant.slots

pub returns-in_err-codec-clause-opened : goal.returns-in_err-codec-clause-opened
returns-in_err-codec-clause-opened g c = c.loop-place.invariant.opened

pub returns-in_err-codec-clause-few : goal.returns-in_err-codec-clause-few
returns-in_err-codec-clause-few g c =
    let i = c.loop-place.invariant in
    let many = i.many in
    let below = i.below in
    let end = i.end in
    omega (arith, many, below, end)
