use Rattle.std.proofs.Common.{◌≡◌, ap, ◌∙◌}
use Rattle.codec_logs.specs.Logs.{acquires_of}
use Rattle.shared_codec.specs.Shared.{Shared}
use Rattle.shared_codec.proofs.Working.{end_settles}
use Rattle.shared_codec.proofs.codec.SharedCodec.end_once.Goals as goal

pub returns-clause-settles : goal.returns-clause-settles
returns-clause-settles g c =
    let codec_is : c.self.inside.codec ≡ c.args.self.now.codec = c.self.invariant ∙ ap (λ (s : Shared). s.codec) c.self.view_is in
    end_settles c.args.self.now c.args.seat.now.me.0 c.done-ended.new.seat.me.0 c.args.slot_seat.now.me.0 c.give_if.new.seat.me.0 c.args.pool_seat.now.me.0 c.end_if.new.seat.me.0 c.self.inside.codec c.args.done (acquires_of c.args.acquires) c.done-ended.result c.ended.inside.place c.ended.inside.media c.ended.inside.coder _
    c.requires.own.asked codec_is c.ended.view_is c.requires.told c.done-ended.ensures.owes c.give_if.ensures.made c.end_if.ensures.ends
