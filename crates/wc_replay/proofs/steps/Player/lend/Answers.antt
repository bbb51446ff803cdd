use Rattle.std.proofs.Common.{ℕ, ◌≡◌, ◌++◌, ◌∷◌, [], false, Option, None, ap, sym, subst, length, ◌∙◌}
use Rattle.std.specs.Prelude.{option_map}
use Rattle.std.proofs.lemmas.Result.{on_ok_weaker}
use Rattle.wc_base.specs.declared.who.By.{By}
use Rattle.codec_accounts.specs.{Codec.codec_at, Codec.state_of, Codec.next_by, Codec.IsGivable, Owed.append_at}
use Rattle.codec_model.specs.declared.entry.{Call.Call, Handed.Handed, HeldMedium.HeldMedium, Pair.Pair}
use Rattle.codec_model.specs.Replay.{encode_error}
use Rattle.media_variables.specs.{declared.lending.MediumFound.MediumFound, Variables.lendable_at, Variables.variables_of}
use Rattle.media_variables.specs.Held.{clones_of, pair_of, medium_found}
use Rattle.report_text.specs.declared.result.StepResult.{StepResult}
use Rattle.run_model.specs.Follow.{Course, after_move, call_move, encode_of}
use Rattle.wc_replay.proofs.{Calls.asked, Calls.hands_clone, Calls.may_clone, Lent.media_same}
use Rattle.wc_replay.proofs.steps.Player.lend.Goals as goal

pub call_at-requires-clause-may : goal.call_at-requires-clause-may
call_at-requires-clause-may g c κs within =
    may_clone (state_of (codec_at c.args.codec c.self.inside.desks.items)).control (subst (λ (u : Course). encode_error false (state_of (codec_at c.args.codec u.codecs)).control ≡ None) (sym c.self.view_is) c.requires.accepted)

pub call_at-requires-clause-givable : goal.call_at-requires-clause-givable
call_at-requires-clause-givable g c κs within =
    let k = c.args.codec in
    subst (λ (u : Course). IsGivable u.slots.history (next_by k (codec_at k u.codecs)) (codec_at k u.codecs).holding.box) (sym c.self.view_is) (c.requires.givable k)

pub returns : goal.returns
returns g c =
    let p = c.self.inside in
    let k = c.args.codec in
    let who = c.args.who in
    let v : Course = record { callers = p.callers.items; codecs = p.desks.items; media = p.media; slots = p.slots; ports = p.ports.items } in
    let d = codec_at k v.codecs in
    let x : HeldMedium = c.in_ok-medium.medium in
    let o = lendable_at (variables_of who.caller v.media.variables) c.args.content in
    let there = subst (λ (u : Course). medium_found (lendable_at (variables_of who.caller u.media.variables) c.args.content) ≡ MediumFound.Open) (sym c.self.view_is) c.requires.open in
    let accepted = subst (λ (u : Course). encode_error false (state_of (codec_at k u.codecs)).control ≡ None) (sym c.self.view_is) c.requires.accepted in
    let lent = c.in_ok-medium.ensures.lent in
    let history = lent.history ∙ (ap (λ (n : ℕ). v.media.pool ++ clones_of (By.Codec k n) (pair_of c.in_ok-medium.held ∷ [])) (rw c.deref.ensures.value at c.place_at-place.ensures) ∙ ap (λ (q : Pair). v.media.pool ++ clones_of (By.Codec k (length d.history)) (q ∷ [])) (sym lent.pair)) in
    let media_is = c.in_ok-answer.ensures.media ∙ (media_same c.lend.new.self ∙ (λ i. record { variables = c.in_ok-medium.ensures.same i; pool = history i })) in
    on_ok_weaker c.note.result
    (λ noted. asked v who k c.in_ok-answer.answer.place (Call.Encode (Handed.Cloned x)) c.in_ok-answer.answer.error c.note.new.callers.items c.call_at.new.desks.items c.call_at.new.media c.call_at.new.slots
    c.in_ok-answer.ensures.made c.in_ok-answer.ensures.slots media_is c.in_ok-answer.ensures.place c.in_ok-answer.ensures.error
    (noted ∙ ap (λ (a : StepResult). append_at who.caller a v.callers) c.call_result.ensures)
    ∙ (ap (λ (y : Option Call). after_move (call_move who k y) v) (sym (hands_clone v k o x there accepted lent.handed))
    ∙ ap (λ (u : Course). after_move (call_move who k (option_map (encode_of u.media.pool (codec_at k u.codecs)) (lendable_at (variables_of who.caller u.media.variables) c.args.content))) u) c.self.view_is))
    c.note.ensures
