-- What calls on audio data make over a shared pool at a seat.
use Rattle.std.proofs.Common.{◌≡◌, Bool, [], ◌∷◌, ◌++◌, Option, Some, None, sym, subst}
use Rattle.wc_base.specs.declared.who.By.{By}
use Rattle.wc_pool.specs.declared.entry.MediaFault.{MediaFault}
use Rattle.wc_pool.specs.declared.entry.MediaFault.TheVariants as fault
use Rattle.wc_pool.specs.declared.reference.MediaRef.{MediaRef}
use Rattle.wc_pool.specs.Pools.{ended_by}
use Rattle.wc_audio.specs.Sound.{Sound, IsCloneFault, Closes}
use Rattle.shared_pool.specs.declared.at.PoolAt.{PoolAt}
use Rattle.shared_pool.specs.At.{AddsAt, MadeAt, at_none, at_then}
use Rattle.shared_tests.specs.Resting.{IsLater}

module _ {R : Type 0} where
  pub later_same : (a b : PoolAt R) → b ≡ a → IsLater a b
  later_same a b h = subst (λ z. IsLater a z) (sym h) (record { entries = []; made = at_none a })

  pub later_then : (a b c : PoolAt R) → IsLater a b → IsLater b c → IsLater a c
  later_then a b c x y = record { entries = x.entries ++ y.entries; made = at_then a b c x.entries y.entries x.made y.made }

  pub later_faulted : (a b : PoolAt R) (s : Sound) (e : MediaFault) → IsCloneFault s (b ≡ a) (MadeAt [] a b) e → IsLater a b
  later_faulted a b s (fault.Dom e) h = later_same a b h.2
  later_faulted a b s fault.NoMemory h = record { entries = []; made = h.1 }

  pub later_closed : (a b : PoolAt R) (by : By) (held : Option MediaRef) (last : Bool) → Closes (AddsAt a b) (b ≡ a) by held last → IsLater a b
  later_closed a b by None last h = later_same a b h.0
  later_closed a b by (Some r) last h = record { entries = ended_by by r last ∷ []; made = h }
