use Rattle.std.proofs.Common.{◌≡◌, IfOk, map, rules}
use Rattle.std.proofs.lemmas.Result.{IfOk-weaker}
use Rattle.run_model.specs.declared.run.Run.{Run}
use Rattle.run_model.specs.Fits.{IsLegalRun, FitsInOrder, recorded_of}
use Rattle.run_model.specs.Follow.{order_items, nothing_yet, record_of}
use Rattle.run_model.specs.Recorded.{none_received}
use Rattle.order_laws.specs.Ends.{course_with}
use Rattle.wc_replay.specs.Player.{IsRunOf, IsPlayed}
use Rattle.wc_replay.proofs.{Playable.playable_of, Playable.openable_of, Runs.played_follows, Runs.played_legal, Runs.played_recorded, Orders.with_follows}
use Rattle.wc_replay.proofs.playing.replay_with.Goals as goal

pub play_with-requires : goal.play_with-requires
play_with-requires g c = (search rules, (rw c.data.ensures.data (openable_of c.args.script.now c.data.ensures.sound), rw c.data.ensures.data (playable_of c.args.script.now c.data.ensures.sound)))

pub returns : goal.returns
returns g c =
    let s = c.args.script.now in
    let media = c.args.media.now in
    let listed = c.args.listed.now in
    let ids = map g.C.Coder.coder c.args.coders.items in
    let course = course_with listed s media (order_items s) (nothing_yet s ids) in
    let follows = with_follows listed s media (order_items s) (nothing_yet s ids) in
    let whole : (run : Run) → IsRunOf course run → IsPlayed s media ids run = λ run is. record { course = course; follows = follows; holds = is } in
    let made : IfOk c.play_with.result (IsRunOf course) = rw c.data.ensures.data at c.play_with.ensures in
    record {
      legal = IfOk-weaker c.play_with.result (IsRunOf course) (IsLegalRun s) (λ run is. played_legal s media ids run (whole run is) (c.following_stands.ensures s media ids (order_items s) course c.data.ensures.sound follows)) made;
      fits = IfOk-weaker c.play_with.result (IsRunOf course) (FitsInOrder s media ids) (λ run is. (let f = played_follows s media ids run (whole run is) in record { fits = c.following_fits.ensures.fits s media ids run c.data.ensures.sound f; follows = f })) made;
      made = IfOk-weaker c.play_with.result (IsRunOf course) (λ run. recorded_of none_received run ≡ record_of none_received course) (λ run is. played_recorded course run is) made;
    }
