use Rattle.std.proofs.Common.{IfOk, List, [], ◌∷◌, map, length, length-append, ap, sym, subst, ◌∙◌, arith}
use Rattle.work_moments.specs.Moments.{Telling}
use Rattle.script_types.specs.declared.script.CallerItem.{CallerItem}
use Rattle.script_types.specs.declared.script.ScriptData.{ScriptData}
use Rattle.wc_run.specs.Fits.{FitsByThreads}
use Rattle.wc_run.specs.InTime.{FitEach, some_may_give}
use Rattle.wc_run.proofs.JobLists.{fit_last, fit_first}
use Rattle.wc_run.proofs.Scripts.{few_callers}
use Rattle.wc_run.proofs.running.run.Goals as goal

pub watches_of-requires : goal.watches_of-requires
watches_of-requires g c =
    let callers = few_callers c.args.script.now c.data-data.ensures.sound in
    let seen = ap (λ (l : List CallerItem). length l) (c.as_slice.ensures ∙ ap (λ (d : ScriptData). d.callers) c.data-data.ensures.data) in
    let cut = c.truncate.ensures.len in
    let kept = c.truncate.new.self.ok.0 in
    let workers = c.requires.few in
    let gates = c.requires.gates in
    let fewer = ap (λ (l : List g.row.G.Denot). length l) c.in-Some-pop.ensures.items ∙ length-append c.pop-2.new.self.items (c.in-Some-pop.gate ∷ []) in
    omega (arith, callers, seen, cut, kept, workers, gates, fewer)

pub run_script-requires-clause-sound : goal.run_script-requires-clause-sound
run_script-requires-clause-sound g c κs within = rw c.data-data.ensures.data c.data-data.ensures.sound

pub run_script-requires-clause-few : goal.run_script-requires-clause-few
run_script-requires-clause-few g c κs within =
    let callers = few_callers c.args.script.now c.data-data.ensures.sound in
    let seen = ap (λ (l : List CallerItem). length l) (c.as_slice.ensures ∙ ap (λ (d : ScriptData). d.callers) c.data-data.ensures.data) in
    let cut = c.truncate.ensures.len in
    let kept = c.truncate.new.self.ok.0 in
    let workers = c.requires.few in
    let same = c.in_ok-watches.ensures in
    omega (arith, callers, seen, cut, kept, workers, same)

pub run_script-requires-clause-watches : goal.run_script-requires-clause-watches
run_script-requires-clause-watches g c κs within =
    let callers = few_callers c.args.script.now c.data-data.ensures.sound in
    let seen = ap (λ (l : List CallerItem). length l) (c.as_slice.ensures ∙ ap (λ (d : ScriptData). d.callers) c.data-data.ensures.data) in
    let here = ap (λ (d : ScriptData). length d.callers) c.data-data.ensures.data in
    let cut = c.truncate.ensures.len in
    let kept = c.truncate.new.self.ok.0 in
    let before = c.args.clocks.ok.0 in
    let popped = c.in-Some.ensures.cases in
    let workers = c.requires.few in
    let many = c.requires.clocks in
    let same = c.in_ok-watches.ensures in
    omega (arith, callers, seen, here, cut, kept, before, popped, workers, many, same)

pub returns-clause-fits : goal.returns-clause-fits
returns-clause-fits g c =
    let told = g.K.Clock.told in
    let all : List g.row.K.Denot = c.args.clocks.items in
    let tells = map told all in
    let last = fit_last told all c.pop.new.self.items c.in-Some.clock c.in-Some.ensures.items in
    let first = fit_first told all c.pop.new.self.items c.in-Some.clock _ c.in-Some.ensures.items in
    let each = subst (λ (l : List Telling). FitEach (some_may_give tells) l) (sym (c.in_ok-watches.ensures.same ∙ ap (map told) c.truncate.ensures.items)) first in
    subst (λ (s : ScriptData). IfOk c.run_script.result (FitsByThreads s c.args.media.now (map g.C.Coder.coder c.args.coders.items) tells)) c.data-data.ensures.data (c.run_script.ensures.fits tells last each)
