use Rattle.std.proofs.Common.{[], sym, ◌∙◌}
use Rattle.desk_threads.specs.CallLaws.{named_after}
use Rattle.desk_callers.specs.Deeds.{calls_of, owns_of}
use Rattle.wc_run.proofs.Passes.{parts_kept}
use Rattle.wc_run.proofs.Together.{parts_stay}
use Rattle.wc_run.proofs.Owning.{owned_mine, owned_others}
use Rattle.wc_run.proofs.Paying.{paid_by}
use Rattle.wc_run.proofs.jobs.make_steps.Goals as goal

pub caller_steps-requires-clause-sits : goal.caller_steps-requires-clause-sits
caller_steps-requires-clause-sits g c κs within = c.requires.new.ready.sits

pub caller_steps-requires-clause-opened : goal.caller_steps-requires-clause-opened
caller_steps-requires-clause-opened g c κs within = c.requires.desk.opened

pub caller_steps-requires-clause-codecs : goal.caller_steps-requires-clause-codecs
caller_steps-requires-clause-codecs g c κs within = c.requires.desk.codecs

pub caller_steps-requires-clause-sound : goal.caller_steps-requires-clause-sound
caller_steps-requires-clause-sound g c κs within = c.requires.runnable.sound

pub caller_steps-requires-clause-few : goal.caller_steps-requires-clause-few
caller_steps-requires-clause-few g c κs within = c.requires.runnable.few c.args.caller

pub caller_steps-requires-clause-ports : goal.caller_steps-requires-clause-ports
caller_steps-requires-clause-ports g c κs within = c.requires.ports

pub caller_steps-requires-clause-passes : goal.caller_steps-requires-clause-passes
caller_steps-requires-clause-passes g c κs within = c.requires.new.ready.passes

pub caller_steps-requires-clause-unused : goal.caller_steps-requires-clause-unused
caller_steps-requires-clause-unused g c κs within = c.requires.new.unused

pub caller_steps-requires-clause-first : goal.caller_steps-requires-clause-first
caller_steps-requires-clause-first g c κs within = c.requires.new.first

pub returns-in-Ok-clause-ready : goal.returns-in-Ok-clause-ready
returns-in-Ok-clause-ready g c =
    let e = c.caller_steps.ensures in
    let r = c.requires.new.ready in
    record {
      sits = e.sits;
      passes = e.passes;
      one = record {
        seats = parts_stay c.args.desk.now 1 c.args.job.now.seats c.caller_steps.new.seats r.one.seats e.stay;
        passes = parts_kept 1 c.args.job.now.passes.items c.caller_steps.new.passes.items (r.passes.many ∙ sym e.passes.many) e.parts r.one.passes;
      };
      runs = e.runs r.runs;
    }

pub returns-in-Ok-clause-paid : goal.returns-in-Ok-clause-paid
returns-in-Ok-clause-paid g c none =
    let done = c.in-Ok.ensures.done in
    let so = c.order_is_kept.ensures in
    let add = c.dues_add_up.ensures in
    paid_by c.args.desk.now so.slots so.media add.slots add.media c.args.caller (owns_of c.args.script.now c.args.media.now done.deeds) c.args.job.now.seats c.caller_steps.new.seats done.settled c.requires.new.paid

pub returns-in-Ok-clause-did : goal.returns-in-Ok-clause-did
returns-in-Ok-clause-did g c none =
    let done = c.in-Ok.ensures.done in
    let ops = owns_of c.args.script.now c.args.media.now done.deeds in
    let a = c.args.job.now.seats in
    let b = c.caller_steps.new.seats in
    record {
      deeds = done.deeds;
      acted = record { results = done.results; are = done.are; all = c.in-Ok.ensures.all };
      calls = named_after c.args.desk.now c.args.job.now.seats c.caller_steps.new.seats [] (calls_of done.deeds) done.calls c.requires.new.called;
      own = owned_mine c.args.desk.now c.args.caller ops a b done.settled c.requires.new.owned;
      others = owned_others c.args.desk.now c.args.caller ops a b done.settled c.requires.new.owned;
      ports = done.ports;
    }

pub returns-in-Err-clause-ready : goal.returns-in-Err-clause-ready
returns-in-Err-clause-ready g c =
    let e = c.caller_steps.ensures in
    let r = c.requires.new.ready in
    record {
      sits = e.sits;
      passes = e.passes;
      one = record {
        seats = parts_stay c.args.desk.now 1 c.args.job.now.seats c.caller_steps.new.seats r.one.seats e.stay;
        passes = parts_kept 1 c.args.job.now.passes.items c.caller_steps.new.passes.items (r.passes.many ∙ sym e.passes.many) e.parts r.one.passes;
      };
      runs = e.runs r.runs;
    }

pub returns-in-Err-clause-paid : goal.returns-in-Err-clause-paid
returns-in-Err-clause-paid g c none = absurd cc

pub returns-in-Err-clause-did : goal.returns-in-Err-clause-did
returns-in-Err-clause-did g c none = absurd cc
