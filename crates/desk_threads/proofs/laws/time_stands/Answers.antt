use Rattle.desk_threads.proofs.Timing.{time_first, time_kept, time_rest, time_left, time_new, time_joined, time_all}
use Rattle.desk_threads.proofs.laws.time_stands.Goals as goal

pub returns : goal.returns
returns g c = record {
  first = λ fits. time_first fits;
  kept = λ fits. time_kept fits;
  rest = λ fits. time_rest fits;
  left = λ fits. time_left fits;
  new = λ fits. time_new fits;
  joined = λ fits. time_joined fits;
  all = λ fits. time_all fits;
}
