use Rattle.std.proofs.Common.{refl}
use Rattle.codec_desk.specs.Named.{calls_made}
use Rattle.desk_run.proofs.complete.complete_desk.Goals as goal

pub returns : goal.returns
returns g c =
    let desk = c.args.desk in
    let seats = c.run_workers.new.seats in
    let e = c.run_workers.ensures in
    let all = c.finish_desk.ensures.all in
    let calls = calls_made desk.codecs.items c.args.seats.codecs.items in
    record {
      seats = seats;
      seen = e.goes.seen;
      finished = c.finish_desk.ensures.finished;
      calls = c.calls_are_kept.ensures.all desk seats calls all (e.goes.calls calls (λ t. refl));
      balanced = c.accounts_are_kept.ensures.all desk seats all (e.goes.balanced c.requires.balanced);
      order = c.order_stands.ensures.all desk seats all (e.goes.order c.requires.order);
      quiet = c.rest_is_quiet.ensures desk e.rested.0 seats all (e.goes.runs c.requires.runs) e.rested.1;
    }
