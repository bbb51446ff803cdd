-- What a caller did, step by step.
use Rattle.std.proofs.Common.{ℕ, zero, suc, ◌≡◌, ◌<◌, List, [], ◌∷◌, ◌++◌, length, take, Option, Some, None, refl, ap, sym, subst, ◌∙◌, arith, rules}
use Rattle.std.specs.Prelude.{slice_get, option_map, IfSome}
use Rattle.std.proofs.lemmas.List.{length-map}
use Rattle.wc_base.specs.Options.{some_same}
use Rattle.wc_base.specs.declared.error.DomError.{DomError}
use Rattle.wc_base.specs.declared.who.Who.{Who}
use Rattle.wc_chunk.specs.declared.chunk.Chunk.{Chunk}
use Rattle.wc_pool.specs.declared.reference.MediaRef.{MediaRef}
use Rattle.codec_model.specs.declared.entry.Entry.{Entry}
use Rattle.codec_accounts.specs.ListLaws.{get_some}
use Rattle.codec_accounts.specs.OwedLaws.{owed_more}
use Rattle.script_types.specs.declared.script.ScriptData.{ScriptData}
use Rattle.script_types.specs.declared.steps.Step.{Step}
use Rattle.script_types.specs.declared.steps.Variable.{Variable}
use Rattle.script_types.specs.Names.{IsFlush, looked_at, names_codec}
use Rattle.shared_codec.specs.Dues.{Called}
use Rattle.codec_desk.specs.declared.desk.Desk.{Desk}
use Rattle.codec_desk.specs.declared.desk.Seats.{Seats}
use Rattle.codec_desk.specs.Desks.{SitAt}
use Rattle.codec_desk.specs.DeskLaws.{settled_none}
use Rattle.codec_desk.specs.Named.{Calls}
use Rattle.codec_desk.specs.NamedLaws.{calls_none, calls_then}
use Rattle.report_text.specs.declared.result.StepResult.{StepResult}
use Rattle.media_variables.specs.Held.{AreOf}
use Rattle.media_variables.specs.Variables.{Medium, Came}
use Rattle.media_accounts.specs.Accounts.{StepOp, step_by}
use Rattle.run_model.specs.Fits.{step_in, port_posted, port_received, IsResultOf, IsLocalAnswer}
use Rattle.run_model.specs.Recorded.{Recorded}
use Rattle.order_laws.specs.Sound.{IsSound}
use Rattle.desk_callers.specs.Deeds.{Deed, GoOn, IsDeed, AreDeeds, after_deed, calls_by, calls_of, came_of, known_by, own_due, owns_of, results_of, variables_after}
use Rattle.shared_port.specs.declared.port.PortPass.{PortPass}
use Rattle.shared_variables.specs.Ports.{WholeParcel}
use Rattle.desk_callers.specs.Passes.{AreUnused}
use Rattle.desk_callers.specs.PortActs.{PortsWithin}
use Rattle.desk_callers.proofs.PortSteps.{know_none, know_more}
use Rattle.desk_callers.specs.Acts.{histories_in, SettledBy, DidAtPorts, HasDone, HasFlushed, IsPromised, NamesWithin}
use Rattle.desk_callers.proofs.Growing.{AreUntil, until_more, deeds_more, settled_by_then, calls_more, variables_more, results_more}
use Rattle.desk_callers.proofs.Histories.{each_goes_on}
use Rattle.desk_callers.proofs.Own.{settled_by}

-- ---- promises of earlier flushes

-- a flush came to a call
flush_came : (s : ScriptData) (media : List (List Chunk)) (w : Recorded) (who : Who) (vs : List (Option Medium)) (o : Option Came) (c : ℕ) (y : Step) (r : StepResult) → IsFlush y → IsResultOf s w who y r → IsLocalAnswer s media vs o c y r
    → (k : ℕ) × (p : ℕ) × (error : Option DomError) × (r ≡ StepResult.Call k p error) × (names_codec y ≡ Some k)
flush_came s media w who vs o c (Step.Flush on bind) (StepResult.Call k p error) flush made answers = (k, p, error, refl, ap (λ (n : ℕ). Some n) (sym made.0))
flush_came s media w who vs o c x r flush made answers = absurd (search rules)

result_at : (ds : List Deed) (j : ℕ) (d : Deed) → slice_get ds j ≡ Some d → slice_get (results_of ds) j ≡ Some d.result
result_at [] j d is = absurd cc
result_at (x ∷ ds) zero d is = ap (λ (o : Option Deed). option_map (λ e. e.result) o) is
result_at (x ∷ ds) (suc j) d is = result_at ds j d is

-- An earlier step of the caller that is a flush was made, of one of so many codecs.
pub flush_made : (s : ScriptData) (media : List (List Chunk)) (c n : ℕ) (hs : List (List Entry)) (ds : List Deed) (j : ℕ) (y : Step) → AreDeeds s media c hs ds → j < length ds → step_in s c j ≡ Some y → IsFlush y → ((k : ℕ) → names_codec y ≡ Some k → k < n)
    → (k : ℕ) × (p : ℕ) × (k < n) × HasFlushed (results_of ds) j k p
flush_made s media c n hs ds j y are lt step flush named =
    let there = get_some ds j lt in
    let d : Deed = there.0 in
    let was = are.each j d there.1 in
    let same : d.step ≡ y = some_same d.step y (sym was.step ∙ (ap (λ (i : ℕ). step_in s c i) (front j ds lt) ∙ step)) in
    let w : Recorded = known_by d.who.caller (results_of (take j ds)) was.known in
    let vs : List (Option Medium) = variables_after s media (take j ds) in
    let made : IsResultOf s w d.who y d.result = subst (λ (x : Step). IsResultOf s w d.who x d.result) same was.is.result in
    let answers : IsLocalAnswer s media vs (came_of s media d vs) d.who.caller y d.result = subst (λ (x : Step). IsLocalAnswer s media vs (came_of s media d vs) d.who.caller x d.result) same was.is.answers in
    let came = flush_came s media w d.who vs (came_of s media d vs) d.who.caller y d.result flush made answers in
    (came.0, came.1, named came.0 came.4, (came.2, result_at ds j d there.1 ∙ ap (λ (r : StepResult). Some r) came.3))
  where
    front : (j : ℕ) (ds : List Deed) → j < length ds → length (take j ds) ≡ j
    front j [] lt = absurd (omega (arith, lt))
    front zero (d ∷ ds) lt = refl
    front (suc j) (d ∷ ds) lt = ap suc (front j ds (omega (arith, lt)))

-- ---- one step more

module _ {C : Type 0} where
  -- what a caller did until this time
  pub record HasDoneUntil (s : ScriptData) (media : List (List Chunk)) (desk : Desk C) (c : ℕ) (rs : List StepResult) (a b : Seats C) (vs : List (Option Medium)) (ps : List (PortPass WholeParcel)) (time : ℕ) : Type 0 where
    pub done : HasDone s media desk c rs a b vs ps
    pub until : AreUntil done.deeds time

  pub done_none : (s : ScriptData) (media : List (List Chunk)) (desk : Desk C) (c : ℕ) (a : Seats C) (ps : List (PortPass WholeParcel)) → SitAt desk a → AreUnused ps → HasDoneUntil s media desk c [] a a [] ps 0
  done_none s media desk c a ps sits unused = record {
    done = record {
      deeds = [];
      results = refl;
      variables = refl;
      are = record { each = λ j d there. absurd cc; climbs = λ k. omega arith; rise = λ i j d e lt there. absurd cc };
      settled = settled_by c desk a a (settled_none desk a sits);
      calls = calls_none desk a;
      ports = know_none s media ps unused;
    };
    until = λ j d there. absurd cc;
  }

  pub done_more : (s : ScriptData) (media : List (List Chunk)) (desk : Desk C) (c : ℕ) (rs : List StepResult) (a b e : Seats C) (vs after : List (Option Medium)) (ps qs : List (PortPass WholeParcel)) (x : Step) (r : StepResult) (time early late : ℕ) → HasDoneUntil s media desk c rs a b vs ps time → time < early → step_in s c (length rs) ≡ Some x
      → DidAtPorts s media desk (step_by c (length rs)) x rs b e vs after ps qs early late r → HasDoneUntil s media desk c (rs ++ r ∷ []) a e after qs late
  done_more s media desk c rs a b e vs after ps qs x r time early late was behind step made =
      let done = was.done in
      let did = made.did in
      let later = made.later in
      let time_is = made.time in
      let ds : List Deed = done.deeds in
      let d : Deed = did.deed in
      let acted = did.acted in
      let caller : d.who.caller ≡ c = ap (λ (w : Who). w.caller) did.who_is in
      let long : length rs ≡ length ds = ap length done.results ∙ length-map ds (λ y. y.result) in
      let who : d.who ≡ step_by c (length ds) = did.who_is ∙ ap (step_by c) long in
      let here : step_in s c (length ds) ≡ Some d.step = ap (step_in s c) (sym long) ∙ (step ∙ ap (λ (y : Step). Some y) (sym did.step_is)) in
      let goes : GoOn (histories_in b.codecs.items) (histories_in e.codecs.items) = each_goes_on desk.codecs.items b.codecs.items e.codecs.items acted.settled.seats.codecs in
      let is : IsDeed s media (histories_in e.codecs.items) (results_of ds) (variables_after s media ds) d = subst (λ (z : List StepResult × List (Option Medium)). IsDeed s media (histories_in e.codecs.items) z.0 z.1 d) (λ i. (done.results i, done.variables i)) acted.is in
      let own : List StepOp = own_due s media 0 d vs in
      let owned : SettledBy c (owns_of s media ds ++ own) desk a e = settled_by_then c (owns_of s media ds) own desk a b e done.settled (subst (λ (n : ℕ). SettledBy n own desk b e) caller acted.settled) in
      let owns : owns_of s media (ds ++ d ∷ []) ≡ owns_of s media ds ++ own = owed_more (after_deed s media) (own_due s media) [] ds d ∙ ap (λ (l : List (Option Medium)). owns_of s media ds ++ own_due s media 0 d l) (sym done.variables) in
      record {
        done = record {
          deeds = ds ++ d ∷ [];
          results = (λ i. done.results i ++ sym did.result_is i ∷ []) ∙ sym (results_more ds d);
          variables = acted.variables ∙ (ap (after_deed s media d) done.variables ∙ sym (variables_more s media ds d));
          are = deeds_more s media c (histories_in b.codecs.items) (histories_in e.codecs.items) ds d time done.are was.until (omega (arith, behind, later, time_is)) goes who here is acted.between;
          settled = subst (λ (l : List StepOp). SettledBy c l desk a e) (sym owns) owned;
          calls = subst (λ (l : List Called). Calls desk l a e) (sym (calls_more ds d)) (calls_then desk a b e (calls_of ds) (calls_by d) done.calls acted.calls);
          ports = know_more s media ds d vs ps qs done.ports done.variables made.ports;
        };
        until = until_more ds d time late was.until (omega (arith, behind, later)) time_is;
      }

-- ---- what the next step needs

within_by : (n : ℕ) (x : Step) → ((k : ℕ) → names_codec x ≡ Some k → k < n) → (o : Option ℕ) → names_codec x ≡ o → IfSome o (λ k. k < n)
within_by n x f None is = tt
within_by n x f (Some k) is = f k is

promised_by : (n : ℕ) (rs : List StepResult) (x : Step) → ((v : Variable) → looked_at x ≡ Some v → IsPromised n rs (Some v)) → (o : Option Variable) → looked_at x ≡ o → IsPromised n rs o
promised_by n rs x f None is = tt
promised_by n rs x f (Some v) is = f v is

-- a step of a sound script names a codec that is there
pub names_next : (s : ScriptData) (n c j : ℕ) (x : Step) → IsSound s → length s.codecs ≡ n → step_in s c j ≡ Some x → NamesWithin n x
names_next s n c j x sound same step = within_by n x (λ k named. subst (λ (m : ℕ). k < m) same (sound.names c j k x step named)) (names_codec x) refl

-- and a port that is there
port_within : (n : ℕ) (o : Option ℕ) → ((q : ℕ) → o ≡ Some q → q < n) → IfSome o (λ q. q < n)
port_within n None f = tt
port_within n (Some q) f = f q refl

pub ports_next : (s : ScriptData) (n c j : ℕ) (x : Step) → IsSound s → length s.ports ≡ n → step_in s c j ≡ Some x → PortsWithin n x
ports_next s n c j x sound same step = record {
  posts = port_within n (port_posted x) (λ q named. subst (λ (m : ℕ). q < m) same (sound.posts c j q x step named));
  receives = port_within n (port_received x) (λ q named. subst (λ (m : ℕ). q < m) same (sound.receives c j q x step named));
}

module _ {C : Type 0} where
  -- a flush that the next step looks at was made
  pub promised_next : (s : ScriptData) (media : List (List Chunk)) (desk : Desk C) (n c : ℕ) (rs : List StepResult) (a b : Seats C) (vs : List (Option Medium)) (ps : List (PortPass WholeParcel)) (x : Step) → IsSound s → length s.codecs ≡ n → HasDone s media desk c rs a b vs ps → step_in s c (length rs) ≡ Some x → IsPromised n rs (looked_at x)
  promised_next s media desk n c rs a b vs ps x sound same done step =
      let ds : List Deed = done.deeds in
      let long : length rs ≡ length ds = ap length done.results ∙ length-map ds (λ y. y.result) in
      promised_by n rs x
      (λ v is. (let y = sound.promised c (length rs) x v step is in
      let lt : v.step < length ds = subst (λ (m : ℕ). v.step < m) long (sound.earlier c (length rs) x v step is) in
      subst (λ (l : List StepResult). IsPromised n l (Some v)) (sym done.results)
      (flush_made s media c n (histories_in b.codecs.items) ds v.step y.0 done.are lt y.1 y.2 (λ k named. subst (λ (m : ℕ). k < m) same (sound.names c v.step k y.0 y.1 named)))))
      (looked_at x) refl

-- no variables hold references
pub holds_none : (is_of : MediaRef → Type 0) → AreOf is_of []
holds_none is_of = record { each = λ j. tt }
