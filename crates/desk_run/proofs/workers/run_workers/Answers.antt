use Rattle.desk_threads.specs.AccountLaws.{balanced_after}
use Rattle.desk_threads.specs.LongerLaws.{saw_settled}
use Rattle.desk_threads.specs.PartLaws.{parts_after}
use Rattle.desk_run.proofs.Goings.{no_more}
use Rattle.desk_run.proofs.workers.run_workers.Goals as goal

pub returns-clause-goes : goal.returns-clause-goes
returns-clause-goes g c =
    let desk = c.args.desk.now in
    let a = c.args.seats.now in
    let m = c.run_threads.new.seats in
    let b = c.settle_desk.new.seats in
    let x = c.run_threads.ensures.goes in
    let e = c.settle_desk.ensures in
    record {
      sits = e.sits;
      seen = saw_settled desk a m b x.seen e.settled;
      balanced = λ was. balanced_after desk m b e.settled (x.balanced was);
      order = λ was. c.order_stands.ensures.kept desk m b e.settled (x.order was);
      calls = λ calls was. no_more desk m b calls e.calls (x.calls calls was);
      runs = λ none. e.runs (x.runs none);
    }

pub returns-clause-parts : goal.returns-clause-parts
returns-clause-parts g c = parts_after c.args.desk.now c.args.seats.now.pool.me.0.parts c.run_threads.new.seats c.settle_desk.new.seats c.run_threads.ensures.parts c.settle_desk.ensures.settled

pub returns-clause-rested : goal.returns-clause-rested
returns-clause-rested g c = (c.run_threads.new.seats, c.settle_desk.ensures.rested)
