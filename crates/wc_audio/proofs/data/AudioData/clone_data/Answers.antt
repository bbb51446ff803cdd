use Rattle.wc_audio.proofs.Kept.{kept_enough}
use Rattle.wc_audio.proofs.data.AudioData.clone_data.Goals.{in-None, in-Some+in-Ok, in-Some+in-Err}
use Rattle.wc_audio.proofs.data.AudioData.clone_data.Goals as goal

pub invariant_of-self : goal.invariant_of-self
invariant_of-self g c = elim c.match-self.branch [
  | in-None w ↦ rw w.self-inside-is c.self.invariant
  | in-Some+in-Ok w ↦ rw w.self-inside-is (kept_enough c.self.inside.shape c.self.inside.held w.in-Some.r w.clone_ref.new.r w.in-Some.is (g.P.RefPool.lasts w.clone_ref.new.r w.in-Some.r w.clone_ref.ensures.same) c.self.invariant)
  | in-Some+in-Err w ↦ rw w.self-inside-is (kept_enough c.self.inside.shape c.self.inside.held w.in-Some.r w.clone_ref.new.r w.in-Some.is (g.P.RefPool.lasts w.clone_ref.new.r w.in-Some.r w.clone_ref.ensures.same) c.self.invariant)
]
