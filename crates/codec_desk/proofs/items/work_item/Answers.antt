use Rattle.std.proofs.Common.{inl, inr, [], ◌∷◌, Some, None}
use Rattle.codec_core.specs.Job.{missing_id}
use Rattle.codec_logs.specs.Logs.{acquires_of}
use Rattle.shared_codec.specs.NameLaws.{begin_names, finish_names, looked_names}
use Rattle.shared_codec.specs.Workers.{BeginTells}
use Rattle.codec_desk.specs.ClockLaws.{ends_one, timed_then, timed_rest, timed_by}
use Rattle.codec_desk.specs.Desks.{SeesMore}
use Rattle.codec_desk.specs.DeskLaws.{settled_then, sit_after}
use Rattle.codec_desk.specs.EachLaws.{one_so, one_at, at_so, at_then}
use Rattle.codec_desk.specs.Items.{Begun, EndsIn}
use Rattle.codec_desk.specs.ItemLaws.{but_ends, works_begun, begun_bare, may_end_at, runs_ended}
use Rattle.codec_desk.specs.NamedLaws.{named_one, calls_then}
use Rattle.codec_desk.specs.Rests.{Rested, Served, Stirred, NoItem}
use Rattle.codec_desk.specs.RestLaws.{rested_look}
use Rattle.codec_desk.specs.RunLaws.{none_at, none_looked}
use Rattle.codec_desk.specs.StepLaws.{stirred_then, stirred_begun, ends_begun, ends_finished}
use Rattle.codec_desk.specs.TallyLaws.{clocked_rest, few_item}
use Rattle.codec_desk.proofs.items.work_item.Goals as goal

-- ---- no item could start

pub returns-in_default-clause-rests : goal.returns-in_default-clause-rests
returns-in_default-clause-rests g c none =
    one_so (λ s a b. BeginTells s None a b) (Rested NoItem) (λ s a b told. rested_look NoItem s a b told.looked told.none) c.args.codec c.args.desk.now.codecs.items c.args.seats.now.codecs.items c.start_item.new.seats.codecs.items c.in_default.ensures.begins

pub returns-in_default-clause-served : goal.returns-in_default-clause-served
returns-in_default-clause-served g c =
    one_at (λ s a b. BeginTells s None a b) (Served NoItem) (λ s a b told. inl (rested_look NoItem s a b told.looked told.none)) c.args.codec c.args.desk.now.codecs.items c.args.seats.now.codecs.items c.start_item.new.seats.codecs.items c.in_default.ensures.begins

pub returns-in_default-clause-calls : goal.returns-in_default-clause-calls
returns-in_default-clause-calls g c =
    named_one [] (λ s a b. BeginTells s None a b) (λ s a b told. looked_names s a b told.looked) c.args.codec c.args.desk.now.codecs.items c.args.seats.now.codecs.items c.start_item.new.seats.codecs.items c.in_default.ensures.begins

pub returns-in_default-clause-runs : goal.returns-in_default-clause-runs
returns-in_default-clause-runs g c was =
    none_at (λ s a b. BeginTells s None a b) (λ s a b told n. none_looked s a b told.looked n) c.args.codec c.args.desk.now.codecs.items c.args.seats.now.codecs.items c.start_item.new.seats.codecs.items c.in_default.ensures.begins was

pub returns-in_default-clause-timed : goal.returns-in_default-clause-timed
returns-in_default-clause-timed g c =
    clocked_rest c.args.desk.now c.args.seats.now c.start_item.new.seats (g.K.Clock.told c.args.clock.now) (ends_one [] (λ s a b. BeginTells s None a b) (ends_begun None) c.args.desk.now.pool c.args.desk.now.slots.id c.args.codec c.args.desk.now.codecs.items c.args.seats.now.codecs.items c.start_item.new.seats.codecs.items c.requires.sits.codecs c.in_default.ensures.begins)

-- ---- an item from its start to its end

pub seek_box-tried-requires-clause-sits : goal.seek_box-tried-requires-clause-sits
seek_box-tried-requires-clause-sits g c κs within = c.start_item.ensures.sits

pub seek_box-tried-requires-clause-works : goal.seek_box-tried-requires-clause-works
seek_box-tried-requires-clause-works g c κs within = works_begun c.args.desk.now c.args.codec c.in-Some.job c.args.seats.now c.start_item.new.seats (one_so (λ s a b. BeginTells s (Some c.in-Some.job) a b) (Begun c.in-Some.job) (λ s a b told. told) c.args.codec c.args.desk.now.codecs.items c.args.seats.now.codecs.items c.start_item.new.seats.codecs.items c.in-Some.ensures.begins)

pub seek_box-tried-requires-clause-bare : goal.seek_box-tried-requires-clause-bare
seek_box-tried-requires-clause-bare g c κs within = begun_bare c.args.desk.now c.args.codec c.in-Some.job c.args.seats.now c.start_item.new.seats (one_so (λ s a b. BeginTells s (Some c.in-Some.job) a b) (Begun c.in-Some.job) (λ s a b told. told) c.args.codec c.args.desk.now.codecs.items c.args.seats.now.codecs.items c.start_item.new.seats.codecs.items c.in-Some.ensures.begins)

pub end_item-requires-clause-sits : goal.end_item-requires-clause-sits
end_item-requires-clause-sits g c κs within = c.seek_box-tried.ensures.sits

pub end_item-requires-clause-may : goal.end_item-requires-clause-may
end_item-requires-clause-may g c κs within =
    may_end_at c.args.desk.now c.args.codec (missing_id c.in-Some.job) c.seek_box-tried.new.job (acquires_of c.seek_box-tried.result.acquires) c.seek_box-tried.result.lack (g.K.Clock.told c.args.clock.now) (g.K.Clock.told c.seek_box-tried.new.clock) c.start_item.new.seats c.seek_box-tried.new.seats c.work_job-done.result c.seek_box-tried.ensures.sought c.work_job-done.ensures.end c.work_job-done.ensures.same c.work_job-done.ensures.ends

pub returns-clause-settled : goal.returns-clause-settled
returns-clause-settled g c = (settled_then c.args.desk.now c.args.seats.now c.start_item.new.seats c.end_item.new.seats c.start_item.ensures.settled (but_ends c.args.desk.now (acquires_of c.seek_box-tried.result.acquires) c.start_item.new.seats c.seek_box-tried.new.seats c.end_item.new.seats c.args.codec c.now-moment.result c.end_item.result c.work_job-done.result c.dues_add_up.ensures.slots c.dues_add_up.ensures.media c.seek_box-tried.ensures.sits c.seek_box-tried.ensures.sought.seeks.but c.end_item.ensures.kept_slots c.end_item.ensures.kept_pool c.end_item.ensures.ends))

pub returns-clause-sits : goal.returns-clause-sits
returns-clause-sits g c =
    sit_after c.args.desk.now c.args.seats.now c.end_item.new.seats c.requires.sits (settled_then c.args.desk.now c.args.seats.now c.start_item.new.seats c.end_item.new.seats c.start_item.ensures.settled (but_ends c.args.desk.now (acquires_of c.seek_box-tried.result.acquires) c.start_item.new.seats c.seek_box-tried.new.seats c.end_item.new.seats c.args.codec c.now-moment.result c.end_item.result c.work_job-done.result c.dues_add_up.ensures.slots c.dues_add_up.ensures.media c.seek_box-tried.ensures.sits c.seek_box-tried.ensures.sought.seeks.but c.end_item.ensures.kept_slots c.end_item.ensures.kept_pool c.end_item.ensures.ends)) c.end_item.ensures.free_pool c.end_item.ensures.free_slots

pub returns-clause-served : goal.returns-clause-served
returns-clause-served g c =
    at_so Stirred (Served NoItem) (λ s a b x. inr x) c.args.codec c.args.desk.now.codecs.items c.args.seats.now.codecs.items c.end_item.new.seats.codecs.items (at_then Stirred SeesMore Stirred stirred_then c.args.codec c.args.desk.now.codecs.items c.args.seats.now.codecs.items c.start_item.new.seats.codecs.items c.end_item.new.seats.codecs.items (one_at (Begun c.in-Some.job) Stirred (stirred_begun c.in-Some.job) c.args.codec c.args.desk.now.codecs.items c.args.seats.now.codecs.items c.start_item.new.seats.codecs.items (one_so (λ s a b. BeginTells s (Some c.in-Some.job) a b) (Begun c.in-Some.job) (λ s a b told. told) c.args.codec c.args.desk.now.codecs.items c.args.seats.now.codecs.items c.start_item.new.seats.codecs.items c.in-Some.ensures.begins)) (but_ends c.args.desk.now (acquires_of c.seek_box-tried.result.acquires) c.start_item.new.seats c.seek_box-tried.new.seats c.end_item.new.seats c.args.codec c.now-moment.result c.end_item.result c.work_job-done.result c.dues_add_up.ensures.slots c.dues_add_up.ensures.media c.seek_box-tried.ensures.sits c.seek_box-tried.ensures.sought.seeks.but c.end_item.ensures.kept_slots c.end_item.ensures.kept_pool c.end_item.ensures.ends).seats)

pub returns-clause-stirs : goal.returns-clause-stirs
returns-clause-stirs g c some = (at_then Stirred SeesMore Stirred stirred_then c.args.codec c.args.desk.now.codecs.items c.args.seats.now.codecs.items c.start_item.new.seats.codecs.items c.end_item.new.seats.codecs.items (one_at (Begun c.in-Some.job) Stirred (stirred_begun c.in-Some.job) c.args.codec c.args.desk.now.codecs.items c.args.seats.now.codecs.items c.start_item.new.seats.codecs.items (one_so (λ s a b. BeginTells s (Some c.in-Some.job) a b) (Begun c.in-Some.job) (λ s a b told. told) c.args.codec c.args.desk.now.codecs.items c.args.seats.now.codecs.items c.start_item.new.seats.codecs.items c.in-Some.ensures.begins)) (but_ends c.args.desk.now (acquires_of c.seek_box-tried.result.acquires) c.start_item.new.seats c.seek_box-tried.new.seats c.end_item.new.seats c.args.codec c.now-moment.result c.end_item.result c.work_job-done.result c.dues_add_up.ensures.slots c.dues_add_up.ensures.media c.seek_box-tried.ensures.sits c.seek_box-tried.ensures.sought.seeks.but c.end_item.ensures.kept_slots c.end_item.ensures.kept_pool c.end_item.ensures.ends).seats)

pub returns-clause-calls : goal.returns-clause-calls
returns-clause-calls g c =
    calls_then c.args.desk.now c.args.seats.now c.seek_box-tried.new.seats c.end_item.new.seats [] []
    (calls_then c.args.desk.now c.args.seats.now c.start_item.new.seats c.seek_box-tried.new.seats [] [] (named_one [] (Begun c.in-Some.job) (λ s a b told. begin_names s c.in-Some.job a b told) c.args.codec c.args.desk.now.codecs.items c.args.seats.now.codecs.items c.start_item.new.seats.codecs.items (one_so (λ s a b. BeginTells s (Some c.in-Some.job) a b) (Begun c.in-Some.job) (λ s a b told. told) c.args.codec c.args.desk.now.codecs.items c.args.seats.now.codecs.items c.start_item.new.seats.codecs.items c.in-Some.ensures.begins)) c.seek_box-tried.ensures.sought.seeks.calls)
    (named_one [] (EndsIn (acquires_of c.seek_box-tried.result.acquires) c.work_job-done.result c.now-moment.result c.end_item.result c.seek_box-tried.new.seats.slots.me.0 c.end_item.new.seats.slots.me.0 c.seek_box-tried.new.seats.pool.me.0 c.end_item.new.seats.pool.me.0) (λ s a b told. finish_names s c.work_job-done.result (acquires_of c.seek_box-tried.result.acquires) c.now-moment.result c.end_item.result a b told.finish) c.args.codec c.args.desk.now.codecs.items c.seek_box-tried.new.seats.codecs.items c.end_item.new.seats.codecs.items c.end_item.ensures.ends)

pub returns-clause-runs : goal.returns-clause-runs
returns-clause-runs g c was =
    runs_ended c.args.desk.now c.args.codec c.in-Some.job (acquires_of c.seek_box-tried.result.acquires) c.work_job-done.result c.now-moment.result c.end_item.result c.seek_box-tried.new.seats.slots.me.0 c.end_item.new.seats.slots.me.0 c.seek_box-tried.new.seats.pool.me.0 c.end_item.new.seats.pool.me.0 c.args.seats.now c.start_item.new.seats c.seek_box-tried.new.seats c.end_item.new.seats c.requires.sits c.seek_box-tried.ensures.sits (one_so (λ s a b. BeginTells s (Some c.in-Some.job) a b) (Begun c.in-Some.job) (λ s a b told. told) c.args.codec c.args.desk.now.codecs.items c.args.seats.now.codecs.items c.start_item.new.seats.codecs.items c.in-Some.ensures.begins) c.seek_box-tried.ensures.sought.seeks.leaves c.end_item.ensures.ends was

pub returns-clause-worked : goal.returns-clause-worked
returns-clause-worked g c = record {
  job = c.in-Some.job;
  begun = c.start_item.new.seats;
  begins = (one_so (λ s a b. BeginTells s (Some c.in-Some.job) a b) (Begun c.in-Some.job) (λ s a b told. told) c.args.codec c.args.desk.now.codecs.items c.args.seats.now.codecs.items c.start_item.new.seats.codecs.items c.in-Some.ensures.begins);
  new = c.seek_box-tried.new.job;
  acquires = acquires_of c.seek_box-tried.result.acquires;
  lacking = c.seek_box-tried.result.lack;
  sought = g.K.Clock.told c.seek_box-tried.new.clock;
  ready = c.seek_box-tried.new.seats;
  box = c.seek_box-tried.ensures.boxed;
  done = c.work_job-done.result;
  how = c.work_job-done.ensures.ends;
  moment = c.now-moment.result;
  given = c.now-moment.ensures;
  ends = c.end_item.ensures.ends;
}

pub returns-clause-timed : goal.returns-clause-timed
returns-clause-timed g c = record {
  timed =
      timed_then c.args.desk.now c.args.seats.now c.seek_box-tried.new.seats c.end_item.new.seats (g.K.Clock.told c.args.clock.now) (g.K.Clock.told c.seek_box-tried.new.clock) (g.K.Clock.told c.now-moment.new.self)
      (timed_then c.args.desk.now c.args.seats.now c.start_item.new.seats c.seek_box-tried.new.seats (g.K.Clock.told c.args.clock.now) (g.K.Clock.told c.args.clock.now) (g.K.Clock.told c.seek_box-tried.new.clock) (timed_rest c.args.desk.now c.args.seats.now c.start_item.new.seats (g.K.Clock.told c.args.clock.now) (ends_one [] (Begun c.in-Some.job) (ends_begun (Some c.in-Some.job)) c.args.desk.now.pool c.args.desk.now.slots.id c.args.codec c.args.desk.now.codecs.items c.args.seats.now.codecs.items c.start_item.new.seats.codecs.items c.requires.sits.codecs (one_so (λ s a b. BeginTells s (Some c.in-Some.job) a b) (Begun c.in-Some.job) (λ s a b told. told) c.args.codec c.args.desk.now.codecs.items c.args.seats.now.codecs.items c.start_item.new.seats.codecs.items c.in-Some.ensures.begins))) c.seek_box-tried.ensures.sought.seeks.timed)
      (timed_by c.args.desk.now c.seek_box-tried.new.seats c.end_item.new.seats (g.K.Clock.told c.seek_box-tried.new.clock) (g.K.Clock.told c.now-moment.new.self) c.now-moment.result c.now-moment.ensures (ends_one (c.now-moment.result ∷ []) (EndsIn (acquires_of c.seek_box-tried.result.acquires) c.work_job-done.result c.now-moment.result c.end_item.result c.seek_box-tried.new.seats.slots.me.0 c.end_item.new.seats.slots.me.0 c.seek_box-tried.new.seats.pool.me.0 c.end_item.new.seats.pool.me.0) (λ s a b told. ends_finished c.work_job-done.result (acquires_of c.seek_box-tried.result.acquires) c.now-moment.result c.end_item.result s a b told.finish) c.args.desk.now.pool c.args.desk.now.slots.id c.args.codec c.args.desk.now.codecs.items c.seek_box-tried.new.seats.codecs.items c.end_item.new.seats.codecs.items c.seek_box-tried.ensures.sits.codecs c.end_item.ensures.ends));
  few = few_item c.args.desk.now c.args.codec c.end_item.result (g.K.Clock.told c.args.clock.now) (g.K.Clock.told c.now-moment.new.self) c.args.seats.now c.end_item.new.seats (returns-clause-worked g c);
}

pub returns-in_default-clause-worked : goal.returns-in_default-clause-worked
returns-in_default-clause-worked g c = c.in_default.ensures.begins
