use Rattle.std.proofs.Common.{IfOk, map, rules}
use Rattle.std.proofs.lemmas.Result.{IfOk-weaker}
use Rattle.run_model.specs.Fits.{IsLegalRun, FitsInOrder}
use Rattle.run_model.specs.Follow.{order_items}
use Rattle.wc_replay.specs.Player.{IsPlayed}
use Rattle.wc_replay.proofs.{Playable.playable_of, Playable.openable_of, Runs.played_follows, Runs.played_legal}
use Rattle.wc_replay.proofs.playing.replay.Goals as goal

pub play-requires : goal.play-requires
play-requires g c = (search rules, (rw c.data.ensures.data (openable_of c.args.script.now c.data.ensures.sound), rw c.data.ensures.data (playable_of c.args.script.now c.data.ensures.sound)))

pub returns : goal.returns
returns g c =
    let s = c.args.script.now in
    let media = c.args.media.now in
    let ids = map g.C.Coder.coder c.args.coders.items in
    let played : IfOk c.play.result (IsPlayed s media ids) = rw c.data.ensures.data at c.play.ensures in
    record {
      legal = IfOk-weaker c.play.result (IsPlayed s media ids) (IsLegalRun s) (λ run p. played_legal s media ids run p (c.following_stands.ensures s media ids (order_items s) p.course c.data.ensures.sound p.follows)) played;
      fits = IfOk-weaker c.play.result (IsPlayed s media ids) (FitsInOrder s media ids) (λ run p. record { fits = c.following_fits.ensures.fits s media ids run c.data.ensures.sound (played_follows s media ids run p); follows = played_follows s media ids run p }) played;
    }
