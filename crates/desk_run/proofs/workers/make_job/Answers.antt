use Rattle.desk_threads.specs.LongerLaws.{saw_left}
use Rattle.desk_run.proofs.Goings.{goes_none}
use Rattle.desk_run.proofs.workers.make_job.Goals as goal

pub returns-in_err-codecs-clause-goes : goal.returns-in_err-codecs-clause-goes
returns-in_err-codecs-clause-goes g c = goes_none c.args.desk.now c.args.seats.now c.requires.sits

pub returns-clause-joins : goal.returns-clause-joins
returns-clause-joins g c =
    let e = c.split_seats.ensures in
    record {
      ready = record { sits = e.sits.1; one = e.parts.1; balanced = e.new; runs = e.new_runs };
      order = c.order_stands.ensures.new c.args.desk.now c.args.seats.now c.split_seats.new.seats c.split_seats.result e.split;
      uncalled = e.new_calls;
    }

pub returns-clause-goes : goal.returns-clause-goes
returns-clause-goes g c =
    let e = c.split_seats.ensures in
    record {
      sits = e.sits.0;
      seen = saw_left c.args.desk.now c.args.seats.now c.split_seats.new.seats c.split_seats.result e.split;
      balanced = λ x. e.balanced x;
      order = λ x. c.order_stands.ensures.left c.args.desk.now c.args.seats.now c.split_seats.new.seats c.split_seats.result e.split x;
      calls = λ calls x. e.calls calls x;
      runs = λ x. e.runs x;
    }

pub returns-clause-parts : goal.returns-clause-parts
returns-clause-parts g c = c.split_seats.ensures.parts.0
