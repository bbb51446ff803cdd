-- What a caller's deed did with its passes of the ports.
use Rattle.std.specs.Prelude.{ℕ, ◌≡◌, ◌<◌, List, length, slice_get, Option, Some, None, IfSome}
use Rattle.wc_base.specs.declared.who.Who.{Who}
use Rattle.script_types.specs.declared.steps.Step.{Step}
use Rattle.report_text.specs.declared.result.StepResult.TheVariants as result
use Rattle.media_variables.specs.Variables.{Medium, Received}
use Rattle.run_model.specs.Fits.{port_posted, port_received}
use Rattle.shared_port.specs.declared.port.PortPass.{PortPass}
use Rattle.shared_port.specs.declared.rule.PortView.{PortView}
use Rattle.shared_port.specs.Ports.{seen}
use Rattle.shared_port.specs.Steps.{Posts, Receives, FindsNone}
use Rattle.shared_variables.specs.Ports.{IsParcelOf, WholeParcel}
use Rattle.desk_callers.specs.Deeds.{Deed}
use Rattle.desk_callers.specs.PortDeeds.{carried, PostsInto, Gets, FindsNothing}

-- With these variables before it a deed did this at the port with this number, whose pass knew v before it and knows w: it posted a
-- medium at its time, it received one that was posted earlier, it found nothing there, or it did nothing there.
pub data ActsAt (q : ℕ) (d : Deed) (vs : List (Option Medium)) (v w : PortView WholeParcel) : Type 0 where
  PostedOne : (m : WholeParcel) → m.time ≡ d.time → PostsInto q d vs (carried (d.who, m)) → Posts (d.who, m) v w → ActsAt q d vs v w
  GotOne : (x : Who × WholeParcel) → Gets q d (carried x) → d.result ≡ result.From x.0 → x.1.time < d.time → Receives IsParcelOf x v w → ActsAt q d vs v w
  FoundNone : FindsNothing q d → d.received ≡ None → FindsNone v w → ActsAt q d vs v w
  UsedNot : ((p : Received) → PostsInto q d vs p → ⊥) → ((p : Received) → Gets q d p → ⊥) → (FindsNothing q d → ⊥) → w ≡ v → ActsAt q d vs v w

-- the same of all ports
pub record ActsAtPorts (d : Deed) (vs : List (Option Medium)) (ps rs : List (PortPass WholeParcel)) : Type 0 where
  pub many : length rs ≡ length ps
  pub each : (q : ℕ) (p r : PortPass WholeParcel) → slice_get ps q ≡ Some p → slice_get rs q ≡ Some r → ActsAt q d vs (seen p) (seen r)

-- where a step names a port, it is one of so many
pub record PortsWithin (n : ℕ) (x : Step) : Type 0 where
  pub posts : IfSome (port_posted x) (λ q. q < n)
  pub receives : IfSome (port_received x) (λ q. q < n)
