use Rattle.std.proofs.Common.{◌≡◌, ◌^◌, ◌∙◌, ◌∷◌, ◌++◌, [], ℕ, List, Option, length, length-append, reverse, append-nil, append_assoc, sym, refl, ap, subst, arith}
use Rattle.std.proofs.lemmas.List.{reverse-append}
use Rattle.atomic_table.specs.declared.shared.Seat.{Seat}
use Rattle.wc_base.specs.declared.seat.View.{View}
use Rattle.codec_media.specs.Holding.{Holding}
use Rattle.codec_logs.specs.declared.event.Event.{Event}
use Rattle.shared_codec.specs.declared.codec.Locked.{Locked}
use Rattle.shared_codec.specs.Shared.{Shared}
use Rattle.codec_desk.specs.Desks.{SitsAt}
use Rattle.codec_desk.specs.Each.{Pairs}
use Rattle.desk_threads.specs.Parts.{EachHas}
use Rattle.desk_run.specs.Finished.{AreFinished}
use Rattle.desk_run.proofs.Closing.{finished_all}
use Rattle.desk_run.proofs.Lists.{pairs_last, pairs_none, pairs_short, has_last, no_items}
use Rattle.desk_run.proofs.finishing.finish_desk.Goals as goal

pub loop-codec-init : goal.loop-codec-init
loop-codec-init g c = record {
  sits = c.requires.sits.codecs;
  parts = c.requires.parts.codecs;
  done = (
    [],
    [],
    append-nil c.args.desk.codecs.items,
    append-nil c.args.seats.codecs.items,
    subst (λ (l : List Holding). AreFinished {S = Locked g.row.C.Denot} [] [] (reverse l)) (sym c.requires.empty) tt,
  );
  room = refl;
  many =
      let none = ap (λ (l : List Holding). length l) c.requires.empty in
      omega (arith, none);
}

pub finish-requires-clause-seat : goal.finish-requires-clause-seat
finish-requires-clause-seat g c κs within =
    let A = Seat (Option (Locked g.row.C.Denot)) (View Event) in
    let Q : ℕ → Shared → A → Type 0 = SitsAt c.args.desk.pool c.args.desk.slots.id in
    let both = subst (λ (z : List Shared × List A). Pairs Q 0 z.0 z.1) (λ n. (c.in-Some.ensures.items n, c.in-Some-pop.ensures.items n)) c.loop-codec.invariant.sits in
    (pairs_last Q 0 c.pop.new.self.items c.pop-in-Some.new.self.items c.in-Some.codec c.in-Some-pop.seat both).1.1.idle

pub finish-requires-clause-parts : goal.finish-requires-clause-parts
finish-requires-clause-parts g c κs within =
    let A = Seat (Option (Locked g.row.C.Denot)) (View Event) in
    (has_last (2 ^ 32) c.pop-in-Some.new.self.items c.in-Some-pop.seat (subst (λ (l : List A). EachHas (2 ^ 32) l) c.in-Some-pop.ensures.items c.loop-codec.invariant.parts)).1

pub loop-codec-preserved : goal.loop-codec-preserved
loop-codec-preserved g c =
    let A = Seat (Option (Locked g.row.C.Denot)) (View Event) in
    let Q : ℕ → Shared → A → Type 0 = SitsAt c.args.desk.pool c.args.desk.slots.id in
    let i = c.loop-codec.invariant in
    let both = subst (λ (z : List Shared × List A). Pairs Q 0 z.0 z.1) (λ n. (c.in-Some.ensures.items n, c.in-Some-pop.ensures.items n)) i.sits in
    let xs = c.pop.new.self.items in
    let ns = c.pop-in-Some.new.self.items in
    let x = c.in-Some.codec in
    let s = c.in-Some-pop.seat in
    let core = c.finish.result in
    let p = c.push_reserved.ensures in
    let cores = c.loop-codec.cores.items in
    let turned : reverse c.push_reserved.new.self.items ≡ core ∷ reverse cores = ap (λ (l : List Holding). reverse l) p.items ∙ reverse-append cores (core ∷ []) in
    let many = ap (λ (l : List Holding). length l) p.items ∙ length-append cores (core ∷ []) in
    let fewer = ap (λ (l : List Shared). length l) c.in-Some.ensures.items ∙ length-append xs (x ∷ []) in
    record {
      sits = (pairs_last Q 0 xs ns x s both).0;
      parts = (has_last (2 ^ 32) ns s (subst (λ (l : List A). EachHas (2 ^ 32) l) c.in-Some-pop.ensures.items i.parts)).0;
      done = (
        x ∷ i.done.0,
        s ∷ i.done.1,
        sym (append_assoc xs (x ∷ []) i.done.0) ∙ (ap (λ (l : List Shared). l ++ i.done.0) (sym c.in-Some.ensures.items) ∙ i.done.2),
        sym (append_assoc ns (s ∷ []) i.done.1) ∙ (ap (λ (l : List A). l ++ i.done.1) (sym c.in-Some-pop.ensures.items) ∙ i.done.3),
        subst (λ (l : List Holding). AreFinished (x ∷ i.done.0) (s ∷ i.done.1) l) (sym turned) (c.finish.ensures, i.done.4),
      );
      room = p.capacity ∙ i.room;
      many = omega (arith, many, fewer, i.many);
    }

pub unreachable-requires : goal.unreachable-requires
unreachable-requires g c =
    let A = Seat (Option (Locked g.row.C.Denot)) (View Event) in
    let Q : ℕ → Shared → A → Type 0 = SitsAt c.args.desk.pool c.args.desk.slots.id in
    let seats = c.loop-codec.codec_seats in
    let none = no_items seats.items (sym seats.ok.0 ∙ c.in_default-pop.ensures.cases.0) in
    let both = subst (λ (z : List Shared × List A). Pairs Q 0 z.0 z.1) (λ n. (c.in-Some.ensures.items n, none n)) c.loop-codec.invariant.sits in
    pairs_short Q 0 c.pop.new.self.items c.in-Some.codec both

pub returns-clause-finished : goal.returns-clause-finished
returns-clause-finished g c =
    let A = Seat (Option (Locked g.row.C.Denot)) (View Event) in
    let Q : ℕ → Shared → A → Type 0 = SitsAt c.args.desk.pool c.args.desk.slots.id in
    let i = c.loop-codec.invariant in
    let codecs = c.loop-codec.codecs in
    let seats = c.loop-codec.codec_seats.items in
    let none = no_items codecs.items (sym codecs.ok.0 ∙ c.in_default.ensures.cases.0) in
    let no_seats = pairs_none Q 0 seats (subst (λ (l : List Shared). Pairs Q 0 l seats) none i.sits) in
    let xs = ap (λ (l : List Shared). l ++ i.done.0) (sym none) ∙ i.done.2 in
    let us = ap (λ (l : List A). l ++ i.done.1) (sym no_seats) ∙ i.done.3 in
    let turned = sym c.reverse.ensures.items in
    record {
      codecs = subst (λ (z : List Shared × (List A × List Holding)). AreFinished z.0 z.1.0 z.1.1) (λ n. (xs n, (us n, turned n))) i.done.4;
      made = c.finish-2.ensures.made;
      slots = c.finish-2.ensures.history;
      pool = c.finish-3.ensures.history;
    }

pub returns-clause-all : goal.returns-clause-all
returns-clause-all g c = record {
  codecs = finished_all c.args.desk.codecs.items c.args.seats.codecs.items _ (returns-clause-finished g c).codecs;
  pool = c.finish-3.ensures.all;
  slots = c.finish-2.ensures.all;
}
