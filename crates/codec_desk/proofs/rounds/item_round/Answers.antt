use Rattle.std.proofs.Common.{◌∙◌, [], ⊎_elim, arith}
use Rattle.codec_desk.specs.TallyLaws.{clocked_none, clocked_then}
use Rattle.codec_desk.specs.DeskLaws.{settled_none, settled_then}
use Rattle.codec_desk.specs.NamedLaws.{calls_none, calls_then}
use Rattle.codec_desk.specs.Rests.{NoItem}
use Rattle.codec_desk.proofs.Going.{round_none, round_more, round_all, serves_none, serves_more, serves_all, stir_then, stir_at}
use Rattle.codec_desk.proofs.rounds.item_round.Goals as goal

pub loop-codec-init : goal.loop-codec-init
loop-codec-init g c = record {
  sits = c.requires;
  settled = settled_none c.args.desk.now c.args.seats.now c.requires;
  calls = calls_none c.args.desk.now c.args.seats.now;
  runs = λ none. none;
  end = c.len-codec-end.ensures ∙ c.args.desk.now.codecs.ok.0;
  below = omega arith;
  rested = λ none. round_none NoItem c.args.desk.now.pool c.args.desk.now.slots.id c.args.desk.now.codecs.items c.args.seats.now.codecs.items c.requires.codecs;
  served = serves_none NoItem c.args.desk.now.pool c.args.desk.now.slots.id c.args.desk.now.codecs.items c.args.seats.now.codecs.items c.requires.codecs;
  stirred = λ yes. absurd cc;
  timed = clocked_none c.args.desk.now c.args.seats.now (g.K.Clock.told c.args.clock.now) c.requires;
}

pub work_item-worked-requires-clause-sits : goal.work_item-worked-requires-clause-sits
work_item-worked-requires-clause-sits g c κs within = c.loop-codec.invariant.sits

pub work_item-worked-requires-clause-codec : goal.work_item-worked-requires-clause-codec
work_item-worked-requires-clause-codec g c =
    let lt = c.loop-codec-test.true in
    let end = c.loop-codec.invariant.end in
    omega (arith, lt, end)

pub loop-codec-preserved : goal.loop-codec-preserved
loop-codec-preserved g c =
    let i = c.loop-codec.invariant in
    let e = c.work_item-worked.ensures in
    let lt = c.loop-codec-test.true in
    record {
      sits = e.sits;
      settled = settled_then c.args.desk.now c.args.seats.now c.loop-codec.seats c.work_item-worked.new.seats i.settled e.settled;
      calls = calls_then c.args.desk.now c.args.seats.now c.loop-codec.seats c.work_item-worked.new.seats [] [] i.calls e.calls;
      runs = λ none. e.runs (i.runs none);
      end = i.end;
      below = omega (arith, lt);
      rested = λ none. (let n = c.found_or-found.ensures.none none in
          round_more NoItem c.loop-codec.codec c.args.desk.now.codecs.items c.args.seats.now.codecs.items c.loop-codec.seats.codecs.items c.work_item-worked.new.seats.codecs.items (i.rested n.0) (e.rests n.1));
      served = serves_more NoItem c.loop-codec.codec c.args.desk.now.codecs.items c.args.seats.now.codecs.items c.loop-codec.seats.codecs.items c.work_item-worked.new.seats.codecs.items i.served e.settled.seats e.served;
      stirred = λ yes. ⊎_elim
          (λ was. stir_then c.args.desk.now.codecs.items c.args.seats.now.codecs.items c.loop-codec.seats.codecs.items c.work_item-worked.new.seats.codecs.items (i.stirred was) e.settled.seats)
          (λ is. stir_at c.loop-codec.codec c.args.desk.now.codecs.items c.args.seats.now.codecs.items c.loop-codec.seats.codecs.items c.work_item-worked.new.seats.codecs.items i.settled.seats (e.stirs is))
          (c.found_or-found.ensures.some yes);
      timed = clocked_then c.args.desk.now c.args.seats.now c.loop-codec.seats c.work_item-worked.new.seats (g.K.Clock.told c.args.clock.now) (g.K.Clock.told c.loop-codec.clock) (g.K.Clock.told c.work_item-worked.new.clock) i.timed e.timed;
    }

pub returns-clause-sits : goal.returns-clause-sits
returns-clause-sits g c = c.loop-codec.invariant.sits

pub returns-clause-settled : goal.returns-clause-settled
returns-clause-settled g c = c.loop-codec.invariant.settled

pub returns-clause-rested : goal.returns-clause-rested
returns-clause-rested g c =
    let i = c.loop-codec.invariant in
    let over = c.loop-codec-test.false in
    let end = i.end in
    let below = i.below in
    λ none. round_all NoItem c.loop-codec.codec c.args.desk.now.codecs.items c.args.seats.now.codecs.items c.loop-codec.seats.codecs.items (omega (arith, over, end, below)) (i.rested none)

pub returns-clause-runs : goal.returns-clause-runs
returns-clause-runs g c = c.loop-codec.invariant.runs

pub returns-clause-served : goal.returns-clause-served
returns-clause-served g c =
    let i = c.loop-codec.invariant in
    let over = c.loop-codec-test.false in
    let end = i.end in
    let below = i.below in
    serves_all NoItem c.loop-codec.codec c.args.desk.now.codecs.items c.args.seats.now.codecs.items c.loop-codec.seats.codecs.items (omega (arith, over, end, below)) i.served

pub returns-clause-stirred : goal.returns-clause-stirred
returns-clause-stirred g c = c.loop-codec.invariant.stirred

pub returns-clause-timed : goal.returns-clause-timed
returns-clause-timed g c = c.loop-codec.invariant.timed

pub returns-clause-calls : goal.returns-clause-calls
returns-clause-calls g c = c.loop-codec.invariant.calls
