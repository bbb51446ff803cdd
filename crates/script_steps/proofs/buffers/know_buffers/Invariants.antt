use Rattle.std.proofs.Common.{◌≡◌, [], drop}
use Rattle.script_steps.specs.Buffers.{known_buffers}
use Rattle.script_steps.proofs.buffers.know_buffers.Given as goal

abbrev pub invariant-loop-buffer : goal.invariant-loop-buffer
invariant-loop-buffer l = known_buffers [] l.words ≡ known_buffers l.known.items (drop l.buffer-index l.words)
