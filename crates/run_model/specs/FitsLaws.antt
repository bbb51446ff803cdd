-- What fits, said of single results and entries, by their places.
use Rattle.std.proofs.Common.{ℕ, zero, suc, ◌≡◌, ◌≤◌, ◌<◌, List, [], ◌∷◌, length, map, Option, Some, None, refl, ap, sym, ◌∙◌, arith, subst, eq-eqb, cond, Bool}
use Rattle.std.specs.Prelude.{slice_get, option_map}
use Rattle.wc_base.specs.declared.error.DomError.{DomError}
use Rattle.wc_base.specs.declared.who.Who.{Who}
use Rattle.wc_base.specs.Options.{some_same}
use Rattle.codec_model.specs.declared.entry.Call.{Call}
use Rattle.codec_model.specs.declared.entry.Entry.{Entry}
use Rattle.codec_model.specs.declared.entry.Entry.TheVariants as entry
use Rattle.codec_accounts.specs.Owed.{at}
use Rattle.codec_accounts.specs.Calls.{who_of, Mark, reach}
use Rattle.codec_accounts.specs.Calls as mark
use Rattle.codec_accounts.specs.CallsLaws.{call_stands, names_call, climbs_between, climbs_within}
use Rattle.script_types.specs.declared.script.ScriptData.{ScriptData}
use Rattle.script_types.specs.Names.{called, taken_from}
use Rattle.report_text.specs.declared.result.StepResult.{StepResult}
use Rattle.report_text.specs.declared.result.StepResult.TheVariants as result
use Rattle.run_model.specs.Recorded.{Recorded, opening_at, take_entry}
use Rattle.run_model.specs.Fits.{result_in, entry_in, exception_at, mark_of, marks_of, IsResultBy, CallsAreIn, MarksClimb}

-- The entry at this place is a call of this step, and shows this exception.
pub record KeepsCall (s : ScriptData) (w : Recorded) (who : Who) (k p : ℕ) (error : Option DomError) : Type 0 where
  pub call : Call
  pub stands : entry_in w k p ≡ Some (entry.Call who call)
  pub shows : error ≡ exception_at (opening_at s k) (at k w.codecs) p

-- the codec of a call or of a take that found an output, and its entry's place, if the result is one
abbrev pub made_at : StepResult → Option (ℕ × ℕ)
made_at (result.Call k place error) = Some (k, place)
made_at (result.Unit k place n) = Some (k, place)
made_at _ = None

-- Calls by their places: the result of a call or a take names its entry, and each entry of a call is the one in the result of
-- its caller's step.
pub record CallsByPlaces (s : ScriptData) (w : Recorded) : Type 0 where
  pub kept : (c j k p : ℕ) (error : Option DomError) → result_in w c j ≡ Some (result.Call k p error) → KeepsCall s w (record { caller = c; step = j }) k p error
  pub taken : (c j k p n : ℕ) → result_in w c j ≡ Some (result.Unit k p n) → entry_in w k p ≡ Some (take_entry (record { caller = c; step = j }) n)
  pub only : (k p : ℕ) (who : Who) (x : Call) → entry_in w k p ≡ Some (entry.Call who x) → (r : StepResult) × (result_in w who.caller who.step ≡ Some r) × (made_at r ≡ Some (k, p))

-- a look at a codec after this many entries, if the result is one
abbrev pub look_of : StepResult → Option (ℕ × ℕ)
look_of (result.Look k length end) = Some (k, length)
look_of (result.State k length state size) = Some (k, length)
look_of (result.NoUnit k length) = Some (k, length)
look_of _ = None

-- A caller's calls and takes on a codec rise, and a look saw at most the whole history, all that its caller did on the codec
-- before, and nothing that it did afterwards.
pub record OrderByPlaces (w : Recorded) : Type 0 where
  pub stands : (c j k p : ℕ) (r : StepResult) → result_in w c j ≡ Some r → made_at r ≡ Some (k, p) → p < length (at k w.codecs)
  pub rising : (c i j k p q : ℕ) (d r : StepResult) → i < j → result_in w c i ≡ Some d → made_at d ≡ Some (k, p) → result_in w c j ≡ Some r → made_at r ≡ Some (k, q) → p < q
  pub within : (c j k n : ℕ) (r : StepResult) → result_in w c j ≡ Some r → look_of r ≡ Some (k, n) → n ≤ length (at k w.codecs)
  pub after_calls : (c i j k p n : ℕ) (d r : StepResult) → i < j → result_in w c i ≡ Some d → made_at d ≡ Some (k, p) → result_in w c j ≡ Some r → look_of r ≡ Some (k, n) → p < n
  pub before_calls : (c i j k p n : ℕ) (d r : StepResult) → i < j → result_in w c i ≡ Some d → look_of d ≡ Some (k, n) → result_in w c j ≡ Some r → made_at r ≡ Some (k, p) → n ≤ p
  pub looks_rise : (c i j k m n : ℕ) (q r : StepResult) → i < j → result_in w c i ≡ Some q → look_of q ≡ Some (k, m) → result_in w c j ≡ Some r → look_of r ≡ Some (k, n) → m ≤ n

-- ---- marks

get_map : {X Y : Type 0} (f : X → Y) (l : List X) (j : ℕ) → slice_get (map f l) j ≡ option_map f (slice_get l j)
get_map f [] j = refl
get_map f (x ∷ xs) zero = refl
get_map f (x ∷ xs) (suc j) = get_map f xs j

at_map : {X Y : Type 0} (f : X → Y) (ls : List (List X)) (c : ℕ) → at c (map (λ l. map f l) ls) ≡ map f (at c ls)
at_map f [] c = refl
at_map f (l ∷ ls) zero = refl
at_map f (l ∷ ls) (suc c) = at_map f ls c

pub mark_in : (w : Recorded) (c j : ℕ) → slice_get (at c (marks_of w)) j ≡ option_map mark_of (result_in w c j)
mark_in w c j = ap (λ (l : List Mark). slice_get l j) (at_map mark_of w.callers c) ∙ get_map mark_of (at c w.callers) j

mark_at : (w : Recorded) (c j : ℕ) (r : StepResult) → result_in w c j ≡ Some r → slice_get (map mark_of (at c w.callers)) j ≡ Some (mark_of r)
mark_at w c j r is = get_map mark_of (at c w.callers) j ∙ ap (option_map mark_of) is

-- ---- calls

-- only calls name a caller's step
named_is_call : (e : Entry) (who : Who) → who_of e ≡ Some who → (x : Call) × (e ≡ entry.Call who x)
named_is_call (entry.Call by x) who names = (x, ap (λ (w : Who). entry.Call w x) (some_same by who names))
named_is_call e who names = absurd cc

shows_of : (s : ScriptData) (w : Recorded) (who : Who) (t o : Option ℕ) (k p : ℕ) (error : Option DomError) → IsResultBy s w who t o (result.Call k p error) → error ≡ exception_at (opening_at s k) (at k w.codecs) p
shows_of s w who (Some n) o k p error h = absurd h
shows_of s w who None None k p error h = absurd h
shows_of s w who None (Some n) k p error h = subst (λ (m : ℕ). error ≡ exception_at (opening_at s m) (at m w.codecs) p) (sym h.0) h.1

takes_of : (s : ScriptData) (w : Recorded) (who : Who) (t o : Option ℕ) (k p n : ℕ) → IsResultBy s w who t o (result.Unit k p n) → entry_in w k p ≡ Some (take_entry who n)
takes_of s w who (Some m) o k p n h = subst (λ (i : ℕ). entry_in w i p ≡ Some (take_entry who n)) (sym h.0) h.1
takes_of s w who None None k p n h = absurd h
takes_of s w who None (Some m) k p n h = absurd h

made_mark : (r : StepResult) (k p : ℕ) → mark_of r ≡ mark.Call k p → made_at r ≡ Some (k, p)
made_mark (result.Call n q error) k p is = let a : n ≡ k = cc in let b : q ≡ p = cc in λ i. Some (a i, b i)
made_mark (result.Unit n q number) k p is = let a : n ≡ k = cc in let b : q ≡ p = cc in λ i. Some (a i, b i)
made_mark (result.Local error) k p is = absurd cc
made_mark (result.Look n q end) k p is = absurd cc
made_mark (result.NoUnit n q) k p is = absurd cc
made_mark (result.State n q state size) k p is = absurd cc
made_mark (result.Copied n bytes) k p is = absurd cc
made_mark (result.CopiedFrame n layouts bytes) k p is = absurd cc
made_mark (result.Size n) k p is = absurd cc
made_mark result.Absent k p is = absurd cc
made_mark (result.From who) k p is = absurd cc
made_mark result.Nothing k p is = absurd cc

call_there : (o : Option StepResult) (k p : ℕ) → option_map mark_of o ≡ Some (mark.Call k p) → (r : StepResult) × (o ≡ Some r) × (made_at r ≡ Some (k, p))
call_there None k p is = absurd cc
call_there (Some r) k p is = let m : mark_of r ≡ mark.Call k p = cc in (r, refl, made_mark r k p m)

-- Calls that stand once do so by their places.
pub calls_by_places : (s : ScriptData) (w : Recorded) → CallsAreIn s w → CallsByPlaces s w
calls_by_places s w calls = record {
  kept = λ c j k p error is. (
      let made = calls.made c j (result.Call k p error) is in
      let there = call_stands k (at k w.codecs) (marks_of w) c j p (calls.once k) (mark_in w c j ∙ ap (option_map mark_of) is) in
      let is_call = named_is_call there.entry (record { caller = c; step = j }) there.names in
      record { call = is_call.0; stands = there.stands ∙ ap (λ (e : Entry). Some e) is_call.1; shows = shows_of s w (record { caller = c; step = j }) (taken_from made.0) (called made.0) k p error made.2 }
      );
  taken = λ c j k p n is. (let made = calls.made c j (result.Unit k p n) is in takes_of s w (record { caller = c; step = j }) (taken_from made.0) (called made.0) k p n made.2);
  only = λ k p who x is. call_there (result_in w who.caller who.step) k p (sym (mark_in w who.caller who.step) ∙ names_call k (at k w.codecs) (marks_of w) p (entry.Call who x) who (calls.once k) is refl);
}

-- ---- the order

first_of : Option (ℕ × ℕ) → ℕ
first_of None = 0
first_of (Some x) = x.0

second_of : Option (ℕ × ℕ) → ℕ
second_of None = 0
second_of (Some x) = x.1

look_reach : (m q k n : ℕ) → ◌≡◌ {A = Option (ℕ × ℕ)} (Some (m, q)) (Some (k, n)) → reach k (mark.Look m q) ≡ Some (n, n)
unfolding first_of second_of
look_reach m q k n is =
    let codec : m ≡ k = ap first_of is in
    let long : q ≡ n = ap second_of is in
    ap (λ (b : Bool). cond b (Some (q, q)) None) (eq-eqb m k codec) ∙ ap (λ (x : ℕ). Some (x, x)) long

call_reach : (m q k p : ℕ) → ◌≡◌ {A = Option (ℕ × ℕ)} (Some (m, q)) (Some (k, p)) → reach k (mark.Call m q) ≡ Some (p, suc p)
unfolding first_of second_of
call_reach m q k p is =
    let codec : m ≡ k = ap first_of is in
    let place : q ≡ p = ap second_of is in
    ap (λ (b : Bool). cond b (Some (q, suc q)) None) (eq-eqb m k codec) ∙ ap (λ (x : ℕ). Some (x, suc x)) place

reach_made : (r : StepResult) (k p : ℕ) → made_at r ≡ Some (k, p) → reach k (mark_of r) ≡ Some (p, suc p)
reach_made (result.Call m q error) k p is = call_reach m q k p is
reach_made (result.Unit m q number) k p is = call_reach m q k p is
reach_made (result.Look m q end) k p is = absurd cc
reach_made (result.NoUnit m q) k p is = absurd cc
reach_made (result.State m q state size) k p is = absurd cc
reach_made (result.Local error) k p is = absurd cc
reach_made (result.Copied m bytes) k p is = absurd cc
reach_made (result.CopiedFrame m layouts bytes) k p is = absurd cc
reach_made (result.Size m) k p is = absurd cc
reach_made result.Absent k p is = absurd cc
reach_made (result.From who) k p is = absurd cc
reach_made result.Nothing k p is = absurd cc

reach_look : (r : StepResult) (k n : ℕ) → look_of r ≡ Some (k, n) → reach k (mark_of r) ≡ Some (n, n)
reach_look (result.Look m q end) k n is = look_reach m q k n is
reach_look (result.State m q state size) k n is = look_reach m q k n is
reach_look (result.NoUnit m q) k n is = look_reach m q k n is
reach_look (result.Call m q error) k n is = absurd cc
reach_look (result.Unit m q number) k n is = absurd cc
reach_look (result.Local error) k n is = absurd cc
reach_look (result.Copied m bytes) k n is = absurd cc
reach_look (result.CopiedFrame m layouts bytes) k n is = absurd cc
reach_look (result.Size m) k n is = absurd cc
reach_look result.Absent k n is = absurd cc
reach_look (result.From who) k n is = absurd cc
reach_look result.Nothing k n is = absurd cc

-- Marks that climb are in order by their places.
pub order_by_places : (w : Recorded) → MarksClimb w → OrderByPlaces w
order_by_places w climbs = record {
  stands = λ c j k p r is m. (let lt = (climbs_within k 0 (marks c) (top k) j (mark_of r) (p, suc p) (climbs c k) (mark_at w c j r is) (reach_made r k p m)).1 in omega (arith, lt));
  rising = λ c i j k p q d r lt a x b y. between c k i j lt d r (p, suc p) (q, suc q) a b (reach_made d k p x) (reach_made r k q y);
  within = λ c j k n r is l. (climbs_within k 0 (marks c) (top k) j (mark_of r) (n, n) (climbs c k) (mark_at w c j r is) (reach_look r k n l)).1;
  after_calls = λ c i j k p n d r lt a x b l. between c k i j lt d r (p, suc p) (n, n) a b (reach_made d k p x) (reach_look r k n l);
  before_calls = λ c i j k p n d r lt a l b x. between c k i j lt d r (n, n) (p, suc p) a b (reach_look d k n l) (reach_made r k p x);
  looks_rise = λ c i j k m n q r lt a l b y. between c k i j lt q r (m, m) (n, n) a b (reach_look q k m l) (reach_look r k n y);
}
  where
    marks : ℕ → List Mark
    marks c = map mark_of (at c w.callers)

    top : ℕ → ℕ
    top k = length (at k w.codecs)

    between : (c k i j : ℕ) → i < j → (q r : StepResult) (m n : ℕ × ℕ) → result_in w c i ≡ Some q → result_in w c j ≡ Some r → reach k (mark_of q) ≡ Some m → reach k (mark_of r) ≡ Some n → m.1 ≤ n.0
    between c k i j lt q r m n a b x y = climbs_between k 0 (marks c) (top k) i j (mark_of q) (mark_of r) m n (climbs c k) lt (mark_at w c i q a) (mark_at w c j r b) x y
