-- The seats of jobs, joined.
use Rattle.std.proofs.Common.{ℕ, suc, ◌≡◌, ◌+◌, List, [], ◌∷◌, refl, arith}
use Rattle.codec_desk.specs.declared.desk.Desk.{Desk}
use Rattle.desk_threads.specs.declared.jobs.Job.{Job}
use Rattle.desk_threads.specs.Accounts.{Named}
use Rattle.desk_threads.specs.Jobs.{IsReady, AreReady, NoneCalled}

module _ {C K G : Type 0} where
  abbrev pub AllReady : Desk C → List (Job C K G) → Type 0
  AllReady desk [] = Unit {0}
  AllReady desk (j ∷ js) = IsReady desk j × AllReady desk js

  pub all_ready : (desk : Desk C) (jobs : List (Job C K G)) → AreReady desk jobs → AllReady desk jobs
  all_ready desk [] h = tt
  all_ready desk (j ∷ js) h = (h 0 j refl, all_ready desk js (λ i k at. h (suc i) k at))

  abbrev pub AllUncalled : Desk C → List (Job C K G) → Type 0
  AllUncalled desk [] = Unit {0}
  AllUncalled desk (j ∷ js) = Named desk [] j.seats × AllUncalled desk js

  pub all_uncalled : (desk : Desk C) (jobs : List (Job C K G)) → NoneCalled desk jobs → AllUncalled desk jobs
  all_uncalled desk [] h = tt
  all_uncalled desk (j ∷ js) h = (h 0 j refl, all_uncalled desk js (λ i k at. h (suc i) k at))

-- so many are left, and one part came
pub parts_more : (m n l k r : ℕ) → m + k ≡ n + l → k ≡ suc r → (m + 1) + r ≡ n + l
parts_more m n l k r is short = omega (arith, is, short)
