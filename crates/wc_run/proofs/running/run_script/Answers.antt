use Rattle.std.proofs.Common.{◌≡◌, ◌^◌, List, map, length, refl, sym, ap, subst, ◌∙◌, arith}
use Rattle.std.proofs.lemmas.List.{length-map}
use Rattle.std.proofs.lemmas.Result.{IfOk-weaker}
use Rattle.codec_model.specs.declared.entry.Opening.{Opening}
use Rattle.desk_run.specs.Opened.{MayOpen, HaveOpenings}
use Rattle.run_model.specs.Fits.{IsLegalRun}
use Rattle.run_model.specs.Recorded.{opening_of}
use Rattle.wc_run.specs.Acted.{calls_of_all}
use Rattle.wc_run.specs.Fits.{FitsByThreads}
use Rattle.wc_run.specs.InTime.{some_may_give}
use Rattle.wc_run.specs.Paid.{IsPaid}
use Rattle.wc_run.specs.Traces.{IsLeftBy}
use Rattle.wc_run.proofs.Finishing.{opens_of}
use Rattle.wc_run.proofs.Owning.{owned_first}
use Rattle.wc_run.proofs.Scripts.{may_open, few_codecs, runnable_of}
use Rattle.wc_run.proofs.Whole.{desk_of, is_legal, is_made, is_timely}
use Rattle.wc_run.proofs.running.run_script.Goals as goal

pub open_desk-requires-clause-may : goal.open_desk-requires-clause-may
open_desk-requires-clause-may g c κs within = subst (λ (l : List Opening). MayOpen l) (sym (c.as_slice-3.ensures.value ∙ (c.in_ok-openings.ensures ∙ ap (map opening_of) c.as_slice.ensures))) (may_open c.args.script.now c.requires.sound)

pub open_desk-requires-clause-few : goal.open_desk-requires-clause-few
open_desk-requires-clause-few g c κs within =
    let long = ap (λ (l : List Opening). length l) (c.as_slice-3.ensures.value ∙ (c.in_ok-openings.ensures ∙ ap (map opening_of) c.as_slice.ensures)) ∙ length-map c.args.script.now.codecs opening_of in
    let few = few_codecs c.args.script.now c.requires.sound in
    let limit : 2 ^ 32 ≡ 4294967296 = refl in
    omega (arith, long, few, limit)

pub run_desk-ran-requires-clause-runnable : goal.run_desk-ran-requires-clause-runnable
run_desk-ran-requires-clause-runnable g c κs within = runnable_of c.args.script.now c.requires.sound

pub run_desk-ran-requires-clause-desk : goal.run_desk-ran-requires-clause-desk
run_desk-ran-requires-clause-desk g c κs within =
    let opened = c.in_ok-desk.ensures in
    let desk = c.in_ok-desk.desk in
    desk_of c.args.script.now desk (opens_of c.count_steps-calls.result c.args.script.now.codecs desk.codecs.items (subst (λ (l : List Opening). HaveOpenings l c.count_steps-calls.result desk.codecs.items) (c.as_slice-3.ensures.value ∙ (c.in_ok-openings.ensures ∙ ap (map opening_of) c.as_slice.ensures)) opened.codecs))

pub run_desk-ran-requires-clause-sits : goal.run_desk-ran-requires-clause-sits
run_desk-ran-requires-clause-sits g c κs within = c.in_ok-desk.ensures.sits

pub run_desk-ran-requires-clause-parts : goal.run_desk-ran-requires-clause-parts
run_desk-ran-requires-clause-parts g c κs within = c.in_ok-desk.ensures.parts

pub finish_desk-left-requires-clause-sits : goal.finish_desk-left-requires-clause-sits
finish_desk-left-requires-clause-sits g c κs within = c.run_desk-ran.ensures.sits

pub finish_desk-left-requires-clause-parts : goal.finish_desk-left-requires-clause-parts
finish_desk-left-requires-clause-parts g c κs within = c.run_desk-ran.ensures.parts

pub finish_desk-left-requires-clause-room : goal.finish_desk-left-requires-clause-room
finish_desk-left-requires-clause-room g c κs within =
    let room = c.in_ok-cores.ensures.capacity in
    let long = c.len.ensures in
    let many = c.in_ok-desk.ensures.codecs.0 in
    omega (arith, room, long, many)

pub returns-in-Ok-clause-legal : goal.returns-in-Ok-clause-legal
returns-in-Ok-clause-legal g c =
    let s = c.args.script.now in
    let desk = c.in_ok-desk.desk in
    let b = c.run_desk-ran.new.seats in
    let left = c.finish_desk-left.result in
    let ts = c.in-Ok.callers.items in
    let opens = opens_of c.count_steps-calls.result s.codecs desk.codecs.items (subst (λ (l : List Opening). HaveOpenings l c.count_steps-calls.result desk.codecs.items) (c.as_slice-3.ensures.value ∙ (c.in_ok-openings.ensures ∙ ap (map opening_of) c.as_slice.ensures)) c.in_ok-desk.ensures.codecs) in
    IfOk-weaker c.run_of.result (IsLeftBy ts left) (IsLegalRun s) (λ run x. is_legal s desk b left ts run opens c.finish_desk-left.ensures.finished c.in-Ok.ensures.many x) c.run_of.ensures

pub returns-in-Ok-clause-fits : goal.returns-in-Ok-clause-fits
returns-in-Ok-clause-fits g c clocks fit each =
    let s = c.args.script.now in
    let media = c.args.media.now in
    let made = map g.C.Coder.coder c.args.coders.items in
    let desk = c.in_ok-desk.desk in
    let a = c.in_ok-desk.seats in
    let opened = c.in_ok-desk.ensures in
    let b = c.run_desk-ran.new.seats in
    let e = c.run_desk-ran.ensures in
    let left = c.finish_desk-left.result in
    let all = c.finish_desk-left.ensures.all in
    let ts = c.in-Ok.callers.items in
    let opens = opens_of c.count_steps-calls.result s.codecs desk.codecs.items (subst (λ (l : List Opening). HaveOpenings l c.count_steps-calls.result desk.codecs.items) (c.as_slice-3.ensures.value ∙ (c.in_ok-openings.ensures ∙ ap (map opening_of) c.as_slice.ensures)) opened.codecs) in
    let paid : IsPaid desk a = record { balanced = c.accounts_are_kept.ensures.first desk a opened.none; ordered = c.order_stands.ensures.first desk a opened.sits opened.none } in
    let x = c.in-Ok.ensures.ran paid (c.calls_are_kept.ensures.first desk a opened.none) (owned_first a opened.none.pool) in
    let balanced = c.accounts_are_kept.ensures.all desk b all x.paid.balanced in
    let whole = c.order_stands.ensures.all desk b all x.paid.ordered in
    let calls = c.calls_are_kept.ensures.all desk b (calls_of_all x.deeds) all x.calls in
    let quiet = c.rest_is_quiet.ensures desk e.rested.0 b all (e.runs (c.runs_begin.ensures desk a opened.sits opened.none)) e.rested.1 in
    let time = c.time_stands.ensures.all (some_may_give clocks) desk b all (e.timed (some_may_give clocks) fit each (c.time_stands.ensures.first (some_may_give clocks) desk a opened.none)) in
    IfOk-weaker c.run_of.result (IsLeftBy ts left) (FitsByThreads s media made clocks)
    (λ run y. c.made_fits.ensures s media made clocks run (is_made c.codecs_rest.ensures c.ends_are_told.ensures s media made desk b left ts run (runnable_of s c.requires.sound).sound opens e.sits opened.made_is c.finish_desk-left.ensures.finished balanced whole quiet x calls time.few all.pool y)
    (is_timely c.moments_fit.ensures (some_may_give clocks) x.deeds desk b left ts run e.sits c.finish_desk-left.ensures.finished y time)) c.run_of.ensures
