use Rattle.std.proofs.Common.{refl, ◌∙◌, ap, sym, option_map}
use Rattle.codec_model.specs.declared.entry.Entry.{Entry}
use Rattle.codec_core.specs.Codec.{Codec, state_at, closes_now}
use Rattle.media_variables.specs.Variables.{Media}
use Rattle.run_model.specs.Follow.{turn_entry}
use Rattle.codec_accounts.specs.{Codec.CodecValue, Boxes.removal_act}
use Rattle.wc_replay.specs.Desk.{box_out, box_in, pairs_in}
use Rattle.wc_replay.proofs.Desks.{seen, makes_seen, makes_some, parts_of, turn_there}
use Rattle.wc_replay.proofs.Lent.{apart_waiting, closes_same, ended_media, turn_lets}
use Rattle.wc_replay.proofs.desk.Desk.turn.Goals as goal
use Rattle.wc_replay.proofs.desk.Desk.turn.Goals.{in-Some, in_default}

pub let_go-requires-clause-lent : goal.let_go-requires-clause-lent
let_go-requires-clause-lent g c κs within =
    let d = c.self.inside in
    apart_waiting c.args.media.now (seen d.core.codec d.job d.refusal) c.args.self.now (closes_now (state_at d.core.codec).control) (pairs_in c.in-Some.removed) c.self.view_is c.in-Some.ensures.gone c.requires.lent

pub returns : goal.returns
returns g c =
    let d = c.self.inside in
    let t = state_at d.core.codec in
    let old : CodecValue = seen d.core.codec d.job d.refusal in
    let new : CodecValue = seen c.run_task.new.core.codec d.job d.refusal in
    let m : Media = c.args.media.now in
    makes_seen c.args.codec (λ v. turn_entry v) c.args.slots.now c.match-run_task.slots m c.match-run_task.media old c.args.self.now new c.self.view_is
    (elim c.match-run_task.branch [
      | in-Some w ↦ (
          let parts = parts_of c.args.codec Entry.Turn d.core.codec c.run_task.new.core.codec d.job d.refusal (closes_now t.control) c.args.slots.now w.in-Some.place (option_map box_out (box_in w.in-Some.removed)) c.self.invariant w.in-Some.ensures.made (ap removal_act (sym (closes_same t.control))) w.in-Some.ensures.slot w.in-Some.ensures.place (ap (option_map box_out) w.in-Some.ensures.handed) in
          makes_some c.args.codec (turn_entry old) Entry.Turn c.args.slots.now c.match-run_task.slots m c.match-run_task.media old new (turn_there t.control.tasks t (state_at c.run_task.new.core.codec) w.in-Some.ensures.made.steps) parts.0
          (w.slots-is ∙ (w.let_go.ensures.slots ∙ parts.1))
          (w.media-is ∙ (w.let_go.ensures.media ∙ ended_media c.args.codec Entry.Turn old w.in-Some.place (pairs_in w.in-Some.removed) m refl w.in-Some.ensures.place (w.in-Some.ensures.gone ∙ turn_lets t)))
          )
      | in_default w ↦ rw (w.media-is, w.slots-is, w.in_default.ensures.none) (record { codec = ap (λ (core : Codec). seen core d.job d.refusal) w.in_default.ensures.same; registry = refl; media = refl })
    ])
