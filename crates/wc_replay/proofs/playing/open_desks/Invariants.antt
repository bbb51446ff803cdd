use Rattle.std.proofs.Common.{◌≡◌, map, take}
use Rattle.wc_replay.specs.Player.{new_desk}
use Rattle.wc_replay.proofs.playing.open_desks.Given as goal

abbrev pub invariant-loop-codec : goal.invariant-loop-codec
invariant-loop-codec g l = l.desks.items ≡ map new_desk (take l.codec-index l.codecs)
