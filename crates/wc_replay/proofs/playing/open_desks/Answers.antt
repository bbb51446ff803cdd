use Rattle.std.proofs.Common.{length, refl, sym}
use Rattle.std.proofs.lemmas.List.{map_more}
use Rattle.std.proofs.lemmas.Option.{slice_get_read}
use Rattle.wc_replay.specs.Player.{is_openable, new_desk}
use Rattle.script_types.specs.SoundLaws.{all_at}
use Rattle.wc_replay.proofs.playing.open_desks.Goals as goal

pub open_desk-requires-after_bounds : goal.open_desk-requires-after_bounds
open_desk-requires-after_bounds g c κs within =
    let xs = c.args.codecs.now in
    let x = c.codec-item.result in
    all_at is_openable xs c.loop-codec.codec-index x c.requires (slice_get_read xs (length xs) c.loop-codec.codec-index x refl c.loop-codec-test.true c.codec-item.is)

pub loop-codec-preserved : goal.loop-codec-preserved
loop-codec-preserved g c =
    let x = c.codec-item.result in
    rw (c.in_ok-try_push.ensures.ok, c.loop-codec.invariant, c.in_ok-desk.ensures, map_more new_desk c.args.codecs.now c.loop-codec.codec-index x c.loop-codec-test.true, sym c.codec-item.is) refl
