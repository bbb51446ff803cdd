-- The mouth, as a receive takes it and gives it back.
use Rattle.std.proofs.Common.{◌≡◌, List, [], ◌∷◌, length, refl, ap, ◌∙◌, subst, append-nil, Option, Some, None}
use Rattle.std.specs.Prelude.{MatchOption}
use Rattle.atomic_blocks.specs.declared.web.Seat.{Seat}
use Rattle.atomic_table.specs.Seated.{TableId}
use Rattle.crossbeam_queue.specs.declared.seg_queue.Going.{Going}
use Rattle.std.specs.declared.alloc.Global.{Global}
use Rattle.shared_port.specs.declared.rule.PortView.{PortView}
use Rattle.shared_port.specs.Mouths.{view_of}
use Rattle.shared_port.specs.Steps.{Stood, HadLeft, Takes, ReceiveTells, Finishes}
use Rattle.shared_port.specs.Views.{Posted, AreBefore, mouth_view, with_mouth, without_mouth}

module _ (M : Type 0) where
  abbrev V : Type 0
  V = PortView M

  abbrev Line : Type 0
  Line = Seat (Option (Posted M)) (Going (Posted M) (PortView M)) Global

  pub mouth_is : (pass q : Line) (got : List (Posted M)) → Some q ≡ Some pass → view_of pass ≡ mouth_view got → view_of q ≡ mouth_view got
  mouth_is pass q got e v = let is : q ≡ pass = cc in ap (λ (p : Line). view_of p) is ∙ v

  -- how a port stood, whether or not the pass had the mouth
  stood_without : (v m : V) (got left : List (Posted M)) → Stood (with_mouth v m) got left → Stood v got left
  stood_without v m got left s = record { others_posted = s.others_posted; others_received = s.others_received; posts = s.posts; receipts = s.receipts; alone = s.alone; known = s.known }

  module _ (is_of : TableId → M → Type 0) where
    abbrev Tells : Option (Posted M) → V → V → Type 0 → Type 0
    Tells r u w P = MatchOption r ((w ≡ u) × HadLeft u []) (λ x. Takes is_of x u w × P)

    told : (P : Type 0) (r : Option (Posted M)) (v w z : V) (got : List (Posted M)) → Tells r (with_mouth v (mouth_view got)) w P → z ≡ without_mouth w → ReceiveTells is_of r v z
    told P None v w z got rule given =
        let h = rule.1 in
        let same : got ≡ h.got = h.mouth refl in
        record {
          got = h.got;
          stood = stood_without v (mouth_view got) h.got [] h.stood;
          all = subst (λ (l : List (Posted M)). AreBefore (length l) v.posted) (append-nil h.got) h.posted;
          view = given ∙ ap without_mouth (rule.0 ∙ ap (λ (l : List (Posted M)). with_mouth v (mouth_view l)) same);
        }
    told P (Some x) v w z got rule given =
        let t = rule.0 in
        record {
          got = got;
          left = t.left;
          stood = stood_without v (mouth_view got) got (x ∷ t.left) t.stood;
          later = t.later;
          carried = t.carried;
          view = given ∙ ap without_mouth t.view;
        }

    -- what a receive tells
    pub tells : (P : Type 0) (r : Option (Posted M)) (v u w z : V) (got : List (Posted M)) → u ≡ with_mouth v (mouth_view got) → Tells r u w P → z ≡ without_mouth w → ReceiveTells is_of r v z
    tells P r v u w z got taken rule given = told P r v w z got (subst (λ (x : V). Tells r x w P) taken rule) given

    -- and what stays
    pub stays : (r : Option (Posted M)) (v z : V) → ReceiveTells is_of r v z → (z.parts ≡ v.parts) × (z.pool ≡ v.pool) × (z.mouths ≡ 0)
    stays None v z t = (ap (λ (x : V). x.parts) t.view, ap (λ (x : V). x.pool) t.view, ap (λ (x : V). x.mouths) t.view)
    stays (Some x) v z t = (ap (λ (y : V). y.parts) t.view, ap (λ (y : V). y.pool) t.view, ap (λ (y : V). y.mouths) t.view)

  -- a pass that took the last mouth
  pub finishes : (v u : V) (got left : List (Posted M)) → u ≡ with_mouth v (mouth_view got) → HadLeft u left → Finishes v u
  finishes v u got left taken h =
      let k : HadLeft (with_mouth v (mouth_view got)) left = subst (λ (x : V). HadLeft x left) taken h in
      let same : got ≡ k.got = k.mouth refl in
      record { got = k.got; left = left; stood = stood_without v (mouth_view got) k.got left k.stood; view = taken ∙ ap (λ (l : List (Posted M)). with_mouth v (mouth_view l)) same }
