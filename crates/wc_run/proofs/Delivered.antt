-- What a pass knows of callers' deeds, as it takes in theirs, and the account of its port.
use Rattle.std.proofs.Common.{ℕ, ◌≡◌, ◌≤◌, max, inl, inr, List, [], ◌∷◌, ◌++◌, length, length-append, refl, ap, sym, subst, ◌∙◌, arith, append-nil}
use Rattle.std.specs.List.{flat_map}
use Rattle.std.proofs.lemmas.List.Concat.{flat_map-append}
use Rattle.std.proofs.lemmas.Option.{slice_get_within}
use Rattle.codec_accounts.specs.ListLaws.{get_more, get_some}
use Rattle.codec_accounts.specs.Owed.{at}
use Rattle.desk_callers.specs.Deeds.{Deed}
use Rattle.desk_callers.specs.Passes.{AreUnused, KnowPorts}
use Rattle.desk_callers.specs.PortDeeds.{KnowsDeeds}
use Rattle.shared_variables.specs.Ports.{WholeParcel}
use Rattle.port_laws.specs.PortAccounts.{AreJoined, PortsMade}
use Rattle.script_types.specs.declared.script.ScriptData.{ScriptData}
use Rattle.shared_port.specs.declared.port.PortPass.{PortPass}
use Rattle.shared_port.specs.declared.rule.PortView.{PortView}
use Rattle.shared_port.specs.Ports.{seen}
use Rattle.shared_port.specs.Views.{Placed, joined}
use Rattle.wc_chunk.specs.declared.chunk.Chunk.{Chunk}
use Rattle.wc_run.specs.Ports.{HaveAccounts, JoinedPasses, KnowAll, KnowsAll}
use Rattle.wc_run.proofs.Owning.{at_end, at_other}
use Rattle.wc_run.proofs.Passes.{partner}

abbrev View : Type 0
View = PortView WholeParcel

max_first : (a b : ℕ) → a ≤ max a b
max_first a b = omega arith

max_second : (a b : ℕ) → b ≤ max a b
max_second a b = omega arith

-- one view more
flat_more : (f : View → List (Placed WholeParcel)) (views : List View) (w : View) (l : List (Placed WholeParcel)) → l ≡ flat_map f views → l ++ f w ≡ flat_map f (views ++ w ∷ [])
flat_more f views w l is = (ap (λ (x : List (Placed WholeParcel)). x ++ f w) is ∙ ap (λ (x : List (Placed WholeParcel)). flat_map f views ++ x) (sym (append-nil (f w)))) ∙ sym (flat_map-append f views (w ∷ []))

joined_more : (views : List View) (v w : View) → AreJoined views v → AreJoined (views ++ w ∷ []) (joined v w)
joined_more views v w x = record {
  posted = flat_more (λ u. u.posted) views w v.posted x.posted;
  received = flat_more (λ u. u.received) views w v.received x.received;
  known = λ c u there. (elim (get_more views w c u there) [
    | inl before ↦ (let le = x.known c u before in let more = max_first v.known w.known in omega (arith, le, more))
    | inr end ↦ subst (λ (t : View). t.known ≤ max v.known w.known) (sym end.1) (max_second v.known w.known)
  ]);
}

-- a view that has nothing more, and knows as much
joined_same : (views : List View) (v w : View) → w.posted ≡ [] → w.received ≡ [] → AreJoined views v → AreJoined views (joined v w)
joined_same views v w none nothing x = record {
  posted = ap (λ (l : List (Placed WholeParcel)). v.posted ++ l) none ∙ (append-nil v.posted ∙ x.posted);
  received = ap (λ (l : List (Placed WholeParcel)). v.received ++ l) nothing ∙ (append-nil v.received ∙ x.received);
  known = λ c u there. (let le = x.known c u there in let more = max_first v.known w.known in omega (arith, le, more));
}

module _ (s : ScriptData) (media : List (List Chunk)) (q : ℕ) where
  knows_none : (v : View) → v.posted ≡ [] → v.received ≡ [] → KnowsAll s media q [] v
  knows_none v none nothing = record { views = []; many = refl; each = λ c u there. absurd cc; joined = record { posted = none; received = nothing; known = λ c u there. absurd cc } }

  knows_same : (deeds : List (List Deed)) (v w : View) → w.posted ≡ [] → w.received ≡ [] → KnowsAll s media q deeds v → KnowsAll s media q deeds (joined v w)
  knows_same deeds v w none nothing x = record { views = x.views; many = x.many; each = x.each; joined = joined_same x.views v w none nothing x.joined }

  -- one caller more
  knows_more : (deeds : List (List Deed)) (ds : List Deed) (v w : View) → KnowsDeeds s media q ds w → KnowsAll s media q deeds v → KnowsAll s media q (deeds ++ ds ∷ []) (joined v w)
  knows_more deeds ds v w new x = record {
    views = x.views ++ w ∷ [];
    many = (let a = length-append x.views (w ∷ []) in let b = length-append deeds (ds ∷ []) in let c = x.many in omega (arith, a, b, c));
    each = λ c u there. (elim (get_more x.views w c u there) [
      | inl before ↦ (
          let lt = slice_get_within x.views c u before in
          let many = x.many in
          subst (λ (l : List Deed). KnowsDeeds s media q l u) (sym (at_other c deeds ds (λ same. omega (arith, lt, many, same)))) (x.each c u before)
          )
      | inr end ↦ (
          let place : at c (deeds ++ ds ∷ []) ≡ ds = ap (λ (n : ℕ). at n (deeds ++ ds ∷ [])) (end.0 ∙ x.many) ∙ at_end deeds ds in
          subst (λ (z : List Deed × View). KnowsDeeds s media q z.0 z.1) (λ i. (sym place i, sym end.1 i)) new
          )
    ]);
    joined = joined_more x.views v w x.joined;
  }

module _ (s : ScriptData) (media : List (List Chunk)) where
  pub know_none : (passes : List (PortPass WholeParcel)) → AreUnused passes → KnowAll s media passes []
  know_none passes none q p at = (let e = none q p at in knows_none s media q (seen p) e.0 e.1)

  module _ (deeds : List (List Deed)) (a o b : List (PortPass WholeParcel)) (many : length a ≡ length b) (others : length o ≡ length b) (join : JoinedPasses a o b) where
    pub know_same : AreUnused o → KnowAll s media a deeds → KnowAll s media b deeds
    know_same none x q u at =
        let p = partner b a q u many at in
        let r = partner b o q u others at in
        let e = none q r.0 r.1 in
        subst (KnowsAll s media q deeds) (sym (join.both q p.0 r.0 u p.1 r.1 at)) (knows_same s media q deeds (seen p.0) (seen r.0) e.0 e.1 (x q p.0 p.1))

    pub know_more : (ds : List Deed) → KnowPorts s media ds o → KnowAll s media a deeds → KnowAll s media b (deeds ++ ds ∷ [])
    know_more ds new x q u at =
        let p = partner b a q u many at in
        let r = partner b o q u others at in
        subst (KnowsAll s media q (deeds ++ ds ∷ [])) (sym (join.both q p.0 r.0 u p.1 r.1 at)) (knows_more s media q deeds ds (seen p.0) (seen r.0) (new q r.0 r.1) (x q p.0 p.1))

  -- the accounts of all ports
  pub ports_made : (passes : List (PortPass WholeParcel)) (deeds : List (List Deed)) → length passes ≡ length s.ports → HaveAccounts passes → KnowAll s media passes deeds → PortsMade s media deeds
  ports_made passes deeds many accounts x q lt =
      let p = get_some passes q (omega (arith, lt, many)) in
      let y = x q p.0 p.1 in
      let z = accounts q p.0 p.1 in
      record { views = y.views; many = y.many; each = y.each; all = seen p.0; joined = y.joined; got = z.0; left = z.1.0; account = z.1.1 }
