use Rattle.std.proofs.Common.{[], sym, subst}
use Rattle.codec_desk.specs.TallyLaws.{clocked_rest}
use Rattle.desk_threads.specs.PartLaws.{parts_after}
use Rattle.wc_run.specs.declared.jobs.Role.{Role}
use Rattle.wc_run.specs.Jobs.{HasDone}
use Rattle.wc_run.specs.Owned.{none_owned}
use Rattle.wc_run.proofs.Owning.{owned_settled}
use Rattle.wc_run.proofs.Together.{no_more}
use Rattle.wc_run.proofs.jobs.run_job.Goals as goal

pub item_loop-requires-after_bounds : goal.item_loop-requires-after_bounds
item_loop-requires-after_bounds g c κs within = c.requires.new.ready.sits

pub turn_loop-requires-after_bounds : goal.turn_loop-requires-after_bounds
turn_loop-requires-after_bounds g c κs within = c.requires.new.ready.sits

pub returns-in-Turner : goal.returns-in-Turner
returns-in-Turner g c =
    let e = c.turn_loop.ensures in
    let was = c.requires.new in
    let desk = c.args.desk.now in
    let a = c.args.job.now.seats in
    let b = c.turn_loop.new.seats in
    record {
      ready = record { sits = e.sits; passes = was.ready.passes; one = record { seats = parts_after desk 1 a b was.ready.one.seats e.settled; passes = was.ready.one.passes }; runs = e.runs was.ready.runs };
      done = λ none. subst (λ (r : Role). HasDone c.args.script.now c.args.media.now desk r (record c.args.job.now { seats = b })) (sym c.in-Turner.is) (record {
        paid = record { balanced = c.accounts_are_kept.ensures.kept desk a b e.settled was.paid.balanced; ordered = c.order_stands.ensures.kept desk a b e.settled was.paid.ordered };
        did = record { calls = no_more desk a b [] e.calls was.called; owned = owned_settled desk none_owned a b e.settled was.owned; unused = was.unused };
      });
      timed = clocked_rest desk a b (g.K.Clock.told c.args.job.now.watch.clock) e.ends;
    }

pub returns-in-Worker : goal.returns-in-Worker
returns-in-Worker g c =
    let e = c.item_loop.ensures in
    let was = c.requires.new in
    let desk = c.args.desk.now in
    let a = c.args.job.now.seats in
    let b = c.item_loop.new.seats in
    record {
      ready = record { sits = e.sits; passes = was.ready.passes; one = record { seats = parts_after desk 1 a b was.ready.one.seats e.settled; passes = was.ready.one.passes }; runs = e.runs was.ready.runs };
      done = λ none. subst (λ (r : Role). HasDone c.args.script.now c.args.media.now desk r (record c.args.job.now { seats = b; watch = record { clock = c.item_loop.new.clock; gate = c.item_loop.new.gate } })) (sym c.in-Worker.is) (record {
        paid = record { balanced = c.accounts_are_kept.ensures.kept desk a b e.settled was.paid.balanced; ordered = c.order_stands.ensures.kept desk a b e.settled was.paid.ordered };
        did = record { calls = no_more desk a b [] e.calls was.called; owned = owned_settled desk none_owned a b e.settled was.owned; unused = was.unused };
      });
      timed = e.timed;
    }

pub returns-in-Caller : goal.returns-in-Caller
returns-in-Caller g c =
    let e = c.make_steps.ensures in
    record {
      ready = e.ready;
      done = λ none. subst (λ (r : Role). HasDone c.args.script.now c.args.media.now c.args.desk.now r c.make_steps.new.job) (sym c.in-Caller.is) (record { paid = e.paid none; did = e.did none });
      timed = e.timed;
    }
