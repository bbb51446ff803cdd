use Rattle.std.proofs.Common.{◌∙◌, [], ⊎_elim, arith}
use Rattle.shared_codec.specs.Settled.{TurnOnceTells}
use Rattle.codec_desk.specs.Clocks.{EndsAt}
use Rattle.codec_desk.specs.ClockLaws.{ends_none}
use Rattle.codec_desk.specs.Desks.{SitsAt}
use Rattle.codec_desk.specs.EachLaws.{one_so, each_same}
use Rattle.codec_desk.specs.StepLaws.{served_turned, stirred_turned}
use Rattle.codec_desk.specs.DeskLaws.{settled_none, settled_then}
use Rattle.codec_desk.specs.NamedLaws.{calls_none, calls_then}
use Rattle.codec_desk.specs.Rests.{Rested, Served, NoTask}
use Rattle.codec_desk.proofs.Going.{no_task, round_none, round_more, round_all, serve_none, serve_more, serve_all, stir_then, stir_one, ends_more, turn_ends}
use Rattle.codec_desk.proofs.rounds.turn_round.Goals as goal

pub loop-codec-init : goal.loop-codec-init
loop-codec-init g c = record {
  sits = c.requires;
  settled = settled_none c.args.desk.now c.args.seats.now c.requires;
  calls = calls_none c.args.desk.now c.args.seats.now;
  runs = λ none. none;
  end = c.len-codec-end.ensures ∙ c.args.desk.now.codecs.ok.0;
  below = omega arith;
  rested = λ none. round_none NoTask c.args.desk.now.pool c.args.desk.now.slots.id c.args.desk.now.codecs.items c.args.seats.now.codecs.items c.requires.codecs;
  served = serve_none NoTask c.args.desk.now.pool c.args.desk.now.slots.id c.args.desk.now.codecs.items c.args.seats.now.codecs.items c.requires.codecs;
  stirred = λ yes. absurd cc;
  ends = each_same (SitsAt c.args.desk.now.pool c.args.desk.now.slots.id) (EndsAt []) (λ n s u h. ends_none [] s u) 0 c.args.desk.now.codecs.items c.args.seats.now.codecs.items c.requires.codecs;
}

pub turn_once-turned-requires-clause-sits : goal.turn_once-turned-requires-clause-sits
turn_once-turned-requires-clause-sits g c κs within = c.loop-codec.invariant.sits

pub turn_once-turned-requires-clause-codec : goal.turn_once-turned-requires-clause-codec
turn_once-turned-requires-clause-codec g c =
    let lt = c.loop-codec-test.true in
    let end = c.loop-codec.invariant.end in
    omega (arith, lt, end)

pub loop-codec-preserved : goal.loop-codec-preserved
loop-codec-preserved g c =
    let i = c.loop-codec.invariant in
    let e = c.turn_once-turned.ensures in
    let lt = c.loop-codec-test.true in
    record {
      sits = e.sits;
      settled = settled_then c.args.desk.now c.args.seats.now c.loop-codec.seats c.turn_once-turned.new.seats i.settled e.settled;
      calls = calls_then c.args.desk.now c.args.seats.now c.loop-codec.seats c.turn_once-turned.new.seats [] [] i.calls e.calls;
      runs = λ none. e.runs (i.runs none);
      end = i.end;
      below = omega (arith, lt);
      rested = λ none. (let n = c.found_or-found.ensures.none none in
          round_more NoTask c.loop-codec.codec c.args.desk.now.codecs.items c.args.seats.now.codecs.items c.loop-codec.seats.codecs.items c.turn_once-turned.new.seats.codecs.items (i.rested n.0)
          (one_so (λ s a b. TurnOnceTells s c.turn_once-turned.result a b) (Rested NoTask) (no_task c.turn_once-turned.result n.1) c.loop-codec.codec c.args.desk.now.codecs.items c.loop-codec.seats.codecs.items c.turn_once-turned.new.seats.codecs.items e.turned));
      served = serve_more NoTask c.loop-codec.codec c.args.desk.now.codecs.items c.args.seats.now.codecs.items c.loop-codec.seats.codecs.items c.turn_once-turned.new.seats.codecs.items i.served
          (one_so (λ s a b. TurnOnceTells s c.turn_once-turned.result a b) (Served NoTask) (served_turned c.turn_once-turned.result) c.loop-codec.codec c.args.desk.now.codecs.items c.loop-codec.seats.codecs.items c.turn_once-turned.new.seats.codecs.items e.turned);
      stirred = λ yes. ⊎_elim
          (λ was. stir_then c.args.desk.now.codecs.items c.args.seats.now.codecs.items c.loop-codec.seats.codecs.items c.turn_once-turned.new.seats.codecs.items (i.stirred was) e.settled.seats)
          (λ is. stir_one (λ s a b. TurnOnceTells s c.turn_once-turned.result a b) (stirred_turned c.turn_once-turned.result is) c.loop-codec.codec c.args.desk.now.codecs.items c.args.seats.now.codecs.items c.loop-codec.seats.codecs.items c.turn_once-turned.new.seats.codecs.items i.settled.seats e.turned)
          (c.found_or-found.ensures.some yes);
      ends = ends_more c.args.desk.now.codecs.items c.args.seats.now.codecs.items c.loop-codec.seats.codecs.items c.turn_once-turned.new.seats.codecs.items i.ends
          (turn_ends c.args.desk.now.pool c.args.desk.now.slots.id c.loop-codec.codec c.turn_once-turned.result c.args.desk.now.codecs.items c.loop-codec.seats.codecs.items c.turn_once-turned.new.seats.codecs.items i.sits.codecs e.turned);
    }

pub returns-clause-sits : goal.returns-clause-sits
returns-clause-sits g c = c.loop-codec.invariant.sits

pub returns-clause-settled : goal.returns-clause-settled
returns-clause-settled g c = c.loop-codec.invariant.settled

pub returns-clause-rested : goal.returns-clause-rested
returns-clause-rested g c =
    let i = c.loop-codec.invariant in
    let over = c.loop-codec-test.false in
    let end = i.end in
    let below = i.below in
    λ none. round_all NoTask c.loop-codec.codec c.args.desk.now.codecs.items c.args.seats.now.codecs.items c.loop-codec.seats.codecs.items (omega (arith, over, end, below)) (i.rested none)

pub returns-clause-runs : goal.returns-clause-runs
returns-clause-runs g c = c.loop-codec.invariant.runs

pub returns-clause-served : goal.returns-clause-served
returns-clause-served g c =
    let i = c.loop-codec.invariant in
    let over = c.loop-codec-test.false in
    let end = i.end in
    let below = i.below in
    serve_all NoTask c.loop-codec.codec c.args.desk.now.codecs.items c.args.seats.now.codecs.items c.loop-codec.seats.codecs.items (omega (arith, over, end, below)) i.served

pub returns-clause-stirred : goal.returns-clause-stirred
returns-clause-stirred g c = c.loop-codec.invariant.stirred

pub returns-clause-ends : goal.returns-clause-ends
returns-clause-ends g c = c.loop-codec.invariant.ends

pub returns-clause-calls : goal.returns-clause-calls
returns-clause-calls g c = c.loop-codec.invariant.calls
