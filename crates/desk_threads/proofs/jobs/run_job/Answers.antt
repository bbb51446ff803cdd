use Rattle.std.proofs.Common.{refl, sym, subst}
use Rattle.codec_desk.specs.TallyLaws.{clocked_rest}
use Rattle.desk_threads.specs.declared.jobs.Role.{Role}
use Rattle.desk_threads.specs.AccountLaws.{balanced_after}
use Rattle.desk_threads.specs.Jobs.{Found}
use Rattle.desk_threads.specs.PartLaws.{parts_after}
use Rattle.desk_threads.proofs.jobs.run_job.Goals as goal

pub item_loop-requires-after_bounds : goal.item_loop-requires-after_bounds
item_loop-requires-after_bounds g c κs within = c.requires.sits

pub turn_loop-requires-after_bounds : goal.turn_loop-requires-after_bounds
turn_loop-requires-after_bounds g c κs within = c.requires.sits

pub returns-in-Worker-clause-ready : goal.returns-in-Worker-clause-ready
returns-in-Worker-clause-ready g c =
    let e = c.item_loop.ensures in
    let a = c.args.job.now.seats in
    record {
      sits = e.sits;
      one = parts_after c.args.desk.now 1 a c.item_loop.new.seats c.requires.one e.settled;
      balanced = balanced_after c.args.desk.now a c.item_loop.new.seats e.settled c.requires.balanced;
      runs = e.runs c.requires.runs;
    }

pub returns-in-Worker-clause-done : goal.returns-in-Worker-clause-done
returns-in-Worker-clause-done g c =
    let e = c.item_loop.ensures in
    record {
      role = refl {a = c.args.job.now.role};
      settled = e.settled;
      calls = e.calls;
      found = subst (λ (r : Role). Found c.args.desk.now r c.args.job.now.seats c.item_loop.new.seats) (sym c.in-Worker.is) e.looked;
      timed = e.timed;
    }

pub returns-in-Turner-clause-ready : goal.returns-in-Turner-clause-ready
returns-in-Turner-clause-ready g c =
    let e = c.turn_loop.ensures in
    let a = c.args.job.now.seats in
    record {
      sits = e.sits;
      one = parts_after c.args.desk.now 1 a c.turn_loop.new.seats c.requires.one e.settled;
      balanced = balanced_after c.args.desk.now a c.turn_loop.new.seats e.settled c.requires.balanced;
      runs = e.runs c.requires.runs;
    }

pub returns-in-Turner-clause-done : goal.returns-in-Turner-clause-done
returns-in-Turner-clause-done g c =
    let e = c.turn_loop.ensures in
    record {
      role = refl {a = c.args.job.now.role};
      settled = e.settled;
      calls = e.calls;
      found = subst (λ (r : Role). Found c.args.desk.now r c.args.job.now.seats c.turn_loop.new.seats) (sym c.in-Turner.is) e.looked;
      timed = clocked_rest c.args.desk.now c.args.job.now.seats c.turn_loop.new.seats (g.K.Clock.told c.args.job.now.watch.clock) e.ends;
    }
