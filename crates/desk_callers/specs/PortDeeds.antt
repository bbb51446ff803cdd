-- What a caller's deeds say of a port, and what its pass of the port knows of them.
use Rattle.std.specs.Prelude.{ℕ, ◌≡◌, ◌<◌, List, take, slice_get, Option, Some, None, option_and_then}
use Rattle.wc_base.specs.declared.who.Who.{Who}
use Rattle.wc_chunk.specs.declared.chunk.Chunk.{Chunk}
use Rattle.codec_accounts.specs.Owed.{at}
use Rattle.script_types.specs.declared.script.ScriptData.{ScriptData}
use Rattle.report_text.specs.declared.result.StepResult.TheVariants as result
use Rattle.media_variables.specs.Held.{seen}
use Rattle.media_variables.specs.Variables.{Medium, Received}
use Rattle.run_model.specs.Fits.{port_received, port_posted, medium_posted}
use Rattle.shared_port.specs.declared.rule.PortView.{PortView}
use Rattle.shared_port.specs.Views.{Placed}
use Rattle.shared_variables.specs.Ports.{WholeParcel}
use Rattle.desk_callers.specs.Deeds.{Deed, variables_after}

-- a medium on its way through a port, and the step that posted it
abbrev pub carried : Who × WholeParcel → Received
carried x = record { poster = x.0; medium = seen x.1.medium }

-- the place in a port's line of what was posted there or received from there, among these
abbrev pub IsPlaced : ℕ → Received → List (Placed WholeParcel) → Type 0
IsPlaced n p xs = (i : ℕ) × ((x : Who × WholeParcel) × ((slice_get xs i ≡ Some (n, x)) × (carried x ≡ p)))

-- `q` is the number of the port
module _ (q : ℕ) where
  -- a deed posted this into the port, after these variables
  pub record PostsInto (d : Deed) (vs : List (Option Medium)) (p : Received) : Type 0 where
    pub port : port_posted d.step ≡ Some q
    pub result : d.result ≡ result.Local None
    pub poster : p.poster ≡ d.who
    pub medium : medium_posted d.step vs ≡ Some p.medium

  -- a deed received this from the port
  pub record Gets (d : Deed) (p : Received) : Type 0 where
    pub port : port_received d.step ≡ Some q
    pub received : d.received ≡ Some p

  -- a deed found nothing in the port
  pub record FindsNothing (d : Deed) : Type 0 where
    pub port : port_received d.step ≡ Some q
    pub result : d.result ≡ result.Nothing

-- a post of this deed has its time
pub record IsTimed (d : Deed) (x : Who × WholeParcel) : Type 0 where
  pub who : d.who ≡ x.0
  pub time : x.1.time ≡ d.time

-- a deed received it from the port with this number, and is behind its time
pub record GetsLater (q : ℕ) (d : Deed) (x : Who × WholeParcel) : Type 0 where
  pub gets : Gets q d (carried x)
  pub later : x.1.time < d.time

-- of each of these there is such a deed
abbrev pub EachHasDeed : (Deed → Who × WholeParcel → Type 0) → List Deed → List (Placed WholeParcel) → Type 0
EachHasDeed P ds xs = (i n : ℕ) (x : Who × WholeParcel) → slice_get xs i ≡ Some (n, x) → (j : ℕ) × ((d : Deed) × ((slice_get ds j ≡ Some d) × P d x))

-- `s` is the script, `media` has the chunks of its chunk files, and `ds` are the deeds of a caller
module _ (s : ScriptData) (media : List (List Chunk)) (q : ℕ) (ds : List Deed) where
  -- the deed with this number posted this, and received it
  abbrev pub PostedAt : ℕ → Received → Type 0
  PostedAt j p = (d : Deed) × ((slice_get ds j ≡ Some d) × PostsInto q d (variables_after s media (take j ds)) p)

  abbrev pub GotAt : ℕ → Received → Type 0
  GotAt j p = (d : Deed) × ((slice_get ds j ≡ Some d) × Gets q d p)

  abbrev pub FoundNothingAt : ℕ → Type 0
  FoundNothingAt j = (d : Deed) × ((slice_get ds j ≡ Some d) × FindsNothing q d)

  -- A pass has posted and received what the deeds say, each at its place in the port's line, in the order of the deeds. Where a deed
  -- found nothing, the pass knows that all was received which earlier deeds had posted. A post has its deed's time, and a deed that
  -- received is behind that of the post.
  pub record KnowsDeeds (v : PortView WholeParcel) : Type 0 where
    pub place : ℕ → ℕ
    pub posts : (j : ℕ) (p : Received) → PostedAt j p → IsPlaced (place j) p v.posted
    pub posted : (n : ℕ) (p : Received) → IsPlaced n p v.posted → (j : ℕ) × (PostedAt j p × (place j ≡ n))
    pub gets : (j : ℕ) (p : Received) → GotAt j p → IsPlaced (place j) p v.received
    pub got : (n : ℕ) (p : Received) → IsPlaced n p v.received → (j : ℕ) × (GotAt j p × (place j ≡ n))
    pub posts_rise : (i j : ℕ) (p r : Received) → i < j → PostedAt i p → PostedAt j r → place i < place j
    pub gets_rise : (i j : ℕ) (p r : Received) → i < j → GotAt i p → GotAt j r → place i < place j
    pub timed : EachHasDeed IsTimed ds v.posted
    pub later : EachHasDeed (GetsLater q) ds v.received
    pub nothing : (i j : ℕ) (p : Received) → i < j → PostedAt i p → FoundNothingAt j → place i < v.known

-- what the deeds of all callers received, by caller and step
abbrev pub received_in : List (List Deed) → ℕ → ℕ → Option Received
received_in deeds c j = option_and_then (λ d. d.received) (slice_get (at c deeds) j)
