use Rattle.std.proofs.Common.{sym, subst}
use Rattle.run_laws.specs.Reclaims.{HasFewReclaims}
use Rattle.run_model.specs.Recorded.{Recorded, opening_at}
use Rattle.wc_run.specs.Made.{recorded_by}
use Rattle.wc_run.proofs.Fitting.{delivers, threads_made}
use Rattle.wc_run.proofs.laws.made_fits.Goals as goal

pub returns : goal.returns
returns c s media made clocks run x timely =
    let w : Recorded = recorded_by x.deeds run in
    let all = threads_made s media made run x in
    record {
      is_made = x;
      fits = c.threads_fit.ensures s media made x.logs w all;
      ports = c.ports_deliver.ensures s media w.codecs x.deeds w x.sound x.ports (delivers s media made run x);
      ranked = c.runs_are_ranked.ensures s media w.codecs x.deeds w x.sound x.ports (delivers s media made run x);
      few_reclaims = subst (HasFewReclaims run.slots) (sym x.codecs) (c.reclaims_are_few.ensures made (opening_at s) x.logs run.slots all.registry x.few);
      timely = timely;
    }
