use Rattle.flac_laws.proofs.FrameLaws.{frame_sound, frame_whole, frame_fills}
use Rattle.flac_laws.proofs.frames_are_spelled.Goals as goal

pub returns : goal.returns
returns c = record {
  sound = λ info bytes q f e. frame_sound info bytes q f e;
  whole = λ info bytes f bits i b. frame_whole info bytes f bits i b;
  whole_bytes = λ info f bits i. frame_fills info f bits i;
}
