use Rattle.std.proofs.Common.{◌≡◌, true, false, Option, is_some, ap, sym, subst, ◌∙◌}
use Rattle.std.proofs.lemmas.Result.{on_ok_weaker}
use Rattle.codec_accounts.specs.Codec.{codec_at, state_of}
use Rattle.codec_model.specs.{declared.entry.Call.Call, Replay.encode_error}
use Rattle.media_variables.specs.Variables.{lendable_at, variables_of}
use Rattle.run_model.specs.Follow.{Course, after_move, call_move}
use Rattle.wc_replay.proofs.Calls.{hands_kept}
use Rattle.wc_replay.proofs.steps.Player.hand.Goals as goal

pub returns-in-Some : goal.returns-in-Some
returns-in-Some g c =
    let v = c.args.self.now in
    let k = c.args.codec in
    let who = c.args.who in
    let o = lendable_at (variables_of who.caller v.media.variables) c.args.content in
    let refused = subst (λ (u : Course). is_some (encode_error false (state_of (codec_at k u.codecs)).control) ≡ true) c.self.view_is (ap is_some (sym (rw c.deref.ensures.value at c.refusal_at.ensures) ∙ c.in-Some.is)) in
    on_ok_weaker c.refuse.result (λ went. went ∙ ap (λ (x : Option Call). after_move (call_move who k x) v) (sym (hands_kept v k o c.requires.open refused))) c.refuse.ensures
