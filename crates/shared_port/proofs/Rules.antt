-- Each step keeps the rule of a port.
use Rattle.std.proofs.Common.{◌≡◌, ◌≢◌, ℕ, zero, suc, ◌+◌, ◌^◌, ◌<◌, ◌≤◌, max, List, [], ◌∷◌, ◌++◌, length, set, sym, refl, ap, ◌∙◌, subst, ⊎_elim, arith, append_assoc, length-append, Option, None}
use Rattle.std.specs.List.{sum_by, flat_map}
use mathlib.Core.Option.{some, some-injective, some-ne-none}
use lib.ListN.{get_elem?}
use Rattle.atomic_table.proofs.Lists.{at_set}
use Rattle.atomic_table.specs.Seated.{TableId}
use Rattle.codec_accounts.specs.BagsLaws.{weigh_append}
use Rattle.crossbeam_queue.specs.Fifo.{Pushes, Pops, Forks, Merges, Learns}
use Rattle.shared_port.proofs.Lines.{total_set, total_snoc, total_two, each_set, each_snoc, sum_flat, flat_none, weigh_snoc, weigh_line, before_more, before_both}
use Rattle.shared_port.specs.declared.rule.PortView.{PortView}
use Rattle.shared_port.specs.Rule.{parts_of, mouths_of, posted_weight, received_weight, IsView, IsCarried, AreCarried, PortRule}
use Rattle.shared_port.specs.Steps.{Stood, HadLeft, Posts, Takes}
use Rattle.shared_port.specs.Views.{Posted, placed_from, AreBefore, first_view, mouth_view, spent_view, opened, less_part, one_part, joined, with_mouth, without_mouth, with_post, with_receipt}

module _ (M : Type 0) where
  abbrev V : Type 0
  V = PortView M

  view_more : (pool : Option TableId) (a b : ℕ) (all : List (Posted M)) (v : V) → a ≤ b → IsView pool a all v → IsView pool b all v
  view_more pool a b all v h i = record { pool_is = i.pool_is; spent = i.spent; posted = before_more a b v.posted h i.posted; received = i.received; known = i.known; mouth = i.mouth }

  spent_is : (pool : Option TableId) (a : ℕ) (all : List (Posted M)) → IsView {M = M} pool a all spent_view
  spent_is pool a all = record { pool_is = λ h. absurd (omega arith); spent = λ _. (refl, refl); posted = tt; received = tt; known = omega arith; mouth = λ e. absurd (omega arith) }

  mouth_is : (pool : Option TableId) (a : ℕ) (got all : List (Posted M)) → got ≡ all → IsView {M = M} pool a all (mouth_view got)
  mouth_is pool a got all is = record { pool_is = λ h. absurd (omega arith); spent = λ _. (refl, refl); posted = tt; received = tt; known = omega arith; mouth = λ _. is }

  first_is : (j : ℕ) (v : V) → get_elem? (first_view ∷ []) j ≡ some v → IsView None 0 [] v
  first_is zero v e = subst (λ (u : V). IsView None 0 [] u) (some-injective first_view v e) (record { pool_is = λ _. refl; spent = λ _. (refl, refl); posted = tt; received = tt; known = omega arith; mouth = λ _. refl })
  first_is (suc j) v e = absurd (some-ne-none v (sym e))

  most : (a b n : ℕ) → a ≤ n → b ≤ n → max a b ≤ n
  most a b n h k = omega arith

  module _ (is_of : TableId → M → Type 0) where
    abbrev Rule : List (Posted M) → List V → Type 0
    Rule = PortRule is_of

    carried_none : (pool : Option TableId) (l : List (Posted M)) → AreCarried is_of None l → AreCarried is_of pool l
    carried_none pool [] h = tt
    carried_none pool (x ∷ xs) h = absurd h.0

    carried_snoc : (pool : Option TableId) (l : List (Posted M)) (x : Posted M) → AreCarried is_of pool l → IsCarried is_of pool x.1 → AreCarried is_of pool (l ++ x ∷ [])
    carried_snoc pool [] x h k = (k, tt)
    carried_snoc pool (y ∷ ys) x h k = (h.0, carried_snoc pool ys x h.1 k)

    pub begins : Rule [] (first_view ∷ [])
    begins = record { pool = None; got = []; parts_sum = refl; mouths_sum = refl; posts = λ t. refl; receipts = λ t. refl; carried = tt; each = first_is }

    -- the other passes have no parts where one has all, and no mouth where one has it
    none_else : (left : List (Posted M)) (views : List V) (r : Rule left views) (id j : ℕ) (v u : V) → get_elem? views id ≡ some v → v.parts ≡ 2 ^ 32 → j ≢ id → get_elem? views j ≡ some u → u.parts ≡ 0
    none_else left views r id j v u at all n e = let a = total_two parts_of views id j v u at e n in let b = r.parts_sum in omega arith

    no_mouth : (left : List (Posted M)) (views : List V) (r : Rule left views) (id j : ℕ) (v u : V) → get_elem? views id ≡ some v → v.mouths ≡ 1 → j ≢ id → get_elem? views j ≡ some u → u.mouths ≡ 0
    no_mouth left views r id j v u at all n e = let a = total_two mouths_of views id j v u at e n in let b = r.mouths_sum in omega arith

    stands : (left : List (Posted M)) (views : List V) (r : Rule left views) (id : ℕ) (v : V) → get_elem? views id ≡ some v → Stood v r.got left
    stands left views r id v at =
        let rest : List V = set views id spent_view in
        record {
          others_posted = flat_map (λ (u : V). u.posted) rest;
          others_received = flat_map (λ (u : V). u.received) rest;
          posts = λ t.
              let a = weigh_append t v.posted (flat_map (λ (u : V). u.posted) rest) in
              let b = sum_flat t (λ (u : V). u.posted) rest in
              let c = total_set (posted_weight t) views id v spent_view at in
              let d = r.posts t in
              let z : sum_by t [] ≡ 0 = refl in
              omega (arith, a, b, c, d, z);
          receipts = λ t.
              let a = weigh_append t v.received (flat_map (λ (u : V). u.received) rest) in
              let b = sum_flat t (λ (u : V). u.received) rest in
              let c = total_set (received_weight t) views id v spent_view at in
              let d = r.receipts t in
              let z : sum_by t [] ≡ 0 = refl in
              omega (arith, a, b, c, d, z);
          alone = λ all. (
            flat_none (λ (u : V). u.posted) rest (each_set (λ (u : V). u.posted ≡ []) views id spent_view refl (λ j u n e. ((r.each j u e).spent (none_else left views r id j v u at all n e)).0)),
            flat_none (λ (u : V). u.received) rest (each_set (λ (u : V). u.received ≡ []) views id spent_view refl (λ j u n e. ((r.each j u e).spent (none_else left views r id j v u at all n e)).1)),
          );
          known = (r.each id v at).known;
        }

    pub had_left : (id : ℕ) (v : V) → Learns Rule id v (λ items. HadLeft v items)
    had_left id v items views r at = let mine = r.each id v at in record { got = r.got; stood = stands items views r id v at; posted = mine.posted; mouth = mine.mouth }

    -- the first pass learns the pool, and gives the mouth away
    pub opens : (id : ℕ) (pool : Option TableId) → Forks Rule id first_view (opened pool first_view) (mouth_view [])
    opens id pool items views r at =
        let w : V = opened pool first_view in
        let one : V = mouth_view [] in
        let vs : List V = set views id w in
        let mine = r.each id first_view at in
        let was : r.pool ≡ None = sym (mine.pool_is (omega arith)) in
        record {
          pool = pool;
          got = r.got;
          parts_sum = let a = total_set parts_of views id first_view w at in let b = total_snoc parts_of vs one in let c = r.parts_sum in omega arith;
          mouths_sum = let a = total_set mouths_of views id first_view w at in let b = total_snoc mouths_of vs one in let c = r.mouths_sum in omega arith;
          posts = λ t. let a = total_set (posted_weight t) views id first_view w at in let b = total_snoc (posted_weight t) vs one in let c = r.posts t in let z : sum_by t [] ≡ 0 = refl in omega (arith, a, b, c, z);
          receipts = λ t. let a = total_set (received_weight t) views id first_view w at in let b = total_snoc (received_weight t) vs one in let c = r.receipts t in let z : sum_by t [] ≡ 0 = refl in omega (arith, a, b, c, z);
          carried = carried_none pool items (subst (λ (o : Option TableId). AreCarried is_of o items) was r.carried);
          each = each_snoc (λ u. IsView pool (length (r.got ++ items)) r.got u) vs one (mouth_is pool _ [] r.got (mine.mouth refl))
              (each_set (λ u. IsView pool (length (r.got ++ items)) r.got u) views id w (record { pool_is = λ _. refl; spent = λ _. (refl, refl); posted = tt; received = tt; known = omega arith; mouth = λ e. absurd (omega arith) })
              (λ j u n e. let i = r.each j u e in let no = none_else items views r id j first_view u at refl n e in record { pool_is = λ h. absurd (omega arith); spent = i.spent; posted = i.posted; received = i.received; known = i.known; mouth = i.mouth }));
        }

    pub splits : (id : ℕ) (v : V) → 2 ≤ v.parts → Forks Rule id v (less_part v) (one_part v)
    splits id v two items views r at =
        let w : V = less_part v in
        let one : V = one_part v in
        let vs : List V = set views id w in
        let mine = r.each id v at in
        let pool_is : v.pool ≡ r.pool = mine.pool_is (omega arith) in
        record {
          pool = r.pool;
          got = r.got;
          parts_sum = let a = total_set parts_of views id v w at in let b = total_snoc parts_of vs one in let c = r.parts_sum in omega arith;
          mouths_sum = let a = total_set mouths_of views id v w at in let b = total_snoc mouths_of vs one in let c = r.mouths_sum in omega arith;
          posts = λ t. let a = total_set (posted_weight t) views id v w at in let b = total_snoc (posted_weight t) vs one in let c = r.posts t in let z : sum_by t [] ≡ 0 = refl in omega (arith, a, b, c, z);
          receipts = λ t. let a = total_set (received_weight t) views id v w at in let b = total_snoc (received_weight t) vs one in let c = r.receipts t in let z : sum_by t [] ≡ 0 = refl in omega (arith, a, b, c, z);
          carried = r.carried;
          each = each_snoc (λ u. IsView r.pool (length (r.got ++ items)) r.got u) vs one (record { pool_is = λ _. pool_is; spent = λ _. (refl, refl); posted = tt; received = tt; known = omega arith; mouth = λ e. absurd (omega arith) })
              (each_set (λ u. IsView r.pool (length (r.got ++ items)) r.got u) views id w (record { pool_is = λ _. pool_is; spent = λ e. absurd (omega arith); posted = mine.posted; received = mine.received; known = mine.known; mouth = mine.mouth })
              (λ j u n e. r.each j u e));
        }

    pub gives : (id : ℕ) (v : V) → v.mouths ≡ 1 → Forks Rule id v (without_mouth v) (mouth_view v.got)
    gives id v has items views r at =
        let w : V = without_mouth v in
        let one : V = mouth_view v.got in
        let vs : List V = set views id w in
        let mine = r.each id v at in
        let here : v.got ≡ r.got = mine.mouth has in
        let long : length v.got ≡ length r.got = ap length here in
        record {
          pool = r.pool;
          got = r.got;
          parts_sum = let a = total_set parts_of views id v w at in let b = total_snoc parts_of vs one in let c = r.parts_sum in omega arith;
          mouths_sum = let a = total_set mouths_of views id v w at in let b = total_snoc mouths_of vs one in let c = r.mouths_sum in omega arith;
          posts = λ t. let a = total_set (posted_weight t) views id v w at in let b = total_snoc (posted_weight t) vs one in let c = r.posts t in let z : sum_by t [] ≡ 0 = refl in omega (arith, a, b, c, z);
          receipts = λ t. let a = total_set (received_weight t) views id v w at in let b = total_snoc (received_weight t) vs one in let c = r.receipts t in let z : sum_by t [] ≡ 0 = refl in omega (arith, a, b, c, z);
          carried = r.carried;
          each = each_snoc (λ u. IsView r.pool (length (r.got ++ items)) r.got u) vs one (mouth_is r.pool _ v.got r.got here)
              (each_set (λ u. IsView r.pool (length (r.got ++ items)) r.got u) views id w (record { pool_is = mine.pool_is; spent = mine.spent; posted = mine.posted; received = mine.received; known = omega arith; mouth = λ e. absurd (omega arith) })
              (λ j u n e. r.each j u e));
        }

    pub joins : (id other : ℕ) (v w : V) → 0 < v.parts → w.mouths ≡ 0 → Merges Rule id v other w (joined v w) spent_view
    joins id other v w some_parts bare items views r at apart at' =
        let both : V = joined v w in
        let vs : List V = set views id both in
        let there : get_elem? views other ≡ some w = ⊎_elim (λ (x : (other ≡ id) × (both ≡ w)). absurd (apart x.0)) (λ (x : (other ≢ id) × (get_elem? views other ≡ some w)). x.1) (at_set views id other both w at') in
        let mine = r.each id v at in
        let theirs = r.each other w there in
        record {
          pool = r.pool;
          got = r.got;
          parts_sum = let a = total_set parts_of views id v both at in let b = total_set parts_of vs other w spent_view at' in let c = r.parts_sum in omega arith;
          mouths_sum = let a = total_set mouths_of views id v both at in let b = total_set mouths_of vs other w spent_view at' in let c = r.mouths_sum in omega arith;
          posts = λ t. let a = total_set (posted_weight t) views id v both at in let b = total_set (posted_weight t) vs other w spent_view at' in let c = r.posts t in let d = weigh_append t v.posted w.posted in let z : sum_by t [] ≡ 0 = refl in omega (arith, a, b, c, d, z);
          receipts = λ t. let a = total_set (received_weight t) views id v both at in let b = total_set (received_weight t) vs other w spent_view at' in let c = r.receipts t in let d = weigh_append t v.received w.received in let z : sum_by t [] ≡ 0 = refl in omega (arith, a, b, c, d, z);
          carried = r.carried;
          each = each_set (λ u. IsView r.pool (length (r.got ++ items)) r.got u) vs other spent_view (spent_is r.pool _ _)
              (λ j u _ e. each_set (λ u. IsView r.pool (length (r.got ++ items)) r.got u) views id both
              (record { pool_is = λ _. mine.pool_is some_parts; spent = λ e. absurd (omega arith); posted = before_both _ v.posted w.posted mine.posted theirs.posted; received = before_both _ v.received w.received mine.received theirs.received; known = most v.known w.known _ mine.known theirs.known; mouth = λ e. mine.mouth (omega arith) })
              (λ j u _ e. r.each j u e) j u e);
        }

    -- a pass takes the mouth
    pub takes : (id other : ℕ) (v w : V) (got : List (Posted M)) → v.mouths ≡ 0 → w ≡ mouth_view got → Merges Rule id v other w (with_mouth v w) spent_view
    takes id other v w got bare is items views r at apart at' =
        let both : V = with_mouth v w in
        let vs : List V = set views id both in
        let there : get_elem? views other ≡ some w = ⊎_elim (λ (x : (other ≡ id) × (both ≡ w)). absurd (apart x.0)) (λ (x : (other ≢ id) × (get_elem? views other ≡ some w)). x.1) (at_set views id other both w at') in
        let mine = r.each id v at in
        let theirs = r.each other w there in
        let no_parts : w.parts ≡ 0 = ap (λ (u : V). u.parts) is in
        record {
          pool = r.pool;
          got = r.got;
          parts_sum = let a = total_set parts_of views id v both at in let b = total_set parts_of vs other w spent_view at' in let c = r.parts_sum in omega arith;
          mouths_sum = let a = total_set mouths_of views id v both at in let b = total_set mouths_of vs other w spent_view at' in let c = r.mouths_sum in omega arith;
          posts = λ t. let a = total_set (posted_weight t) views id v both at in let b = total_set (posted_weight t) vs other w spent_view at' in let c = r.posts t in let d = ap (posted_weight t) is in let z : sum_by t [] ≡ 0 = refl in omega (arith, a, b, c, d, z);
          receipts = λ t. let a = total_set (received_weight t) views id v both at in let b = total_set (received_weight t) vs other w spent_view at' in let c = r.receipts t in let d = ap (received_weight t) is in let z : sum_by t [] ≡ 0 = refl in omega (arith, a, b, c, d, z);
          carried = r.carried;
          each = each_set (λ u. IsView r.pool (length (r.got ++ items)) r.got u) vs other spent_view (spent_is r.pool _ _)
              (λ j u _ e. each_set (λ u. IsView r.pool (length (r.got ++ items)) r.got u) views id both
              (record { pool_is = mine.pool_is; spent = mine.spent; posted = mine.posted; received = mine.received; known = mine.known; mouth = theirs.mouth })
              (λ j u _ e. r.each j u e) j u e);
        }

    pub posts : (n id : ℕ) (v : V) (x : Posted M) → 0 < v.parts → IsCarried is_of v.pool x.1 → Pushes Rule n id v x (λ w. Posts x v w)
    posts n id v x some_parts of items views room r at =
        let line : List (Posted M) = r.got ++ items in
        let w : V = with_post (length line, x) v in
        let vs : List V = set views id w in
        let mine = r.each id v at in
        let same : line ++ x ∷ [] ≡ r.got ++ (items ++ x ∷ []) = append_assoc r.got items (x ∷ []) in
        let more : length (r.got ++ (items ++ x ∷ [])) ≡ length line + 1 = ap length (sym same) ∙ length-append line (x ∷ []) in (
          w,
          record {
            pool = r.pool;
            got = r.got;
            parts_sum = let a = total_set parts_of views id v w at in let c = r.parts_sum in omega arith;
            mouths_sum = let a = total_set mouths_of views id v w at in let c = r.mouths_sum in omega arith;
            posts = λ t.
                let a = total_set (posted_weight t) views id v w at in
                let b = weigh_snoc t v.posted (length line, x) in
                let c = r.posts t in
                let d = weigh_line t line x in
                let e : sum_by t (placed_from 0 (line ++ x ∷ [])) ≡ sum_by t (placed_from 0 (r.got ++ (items ++ x ∷ []))) = ap (λ (l : List (Posted M)). sum_by t (placed_from 0 l)) same in
                omega (arith, a, b, c, d, e);
            receipts = λ t. let a = total_set (received_weight t) views id v w at in let c = r.receipts t in omega (arith, a, c);
            carried = carried_snoc r.pool items x r.carried (subst (λ (o : Option TableId). IsCarried is_of o x.1) (mine.pool_is some_parts) of);
            each = each_set (λ u. IsView r.pool (length (r.got ++ (items ++ x ∷ []))) r.got u) views id w
                (record {
                  pool_is = mine.pool_is;
                  spent = λ e. absurd (omega arith);
                  posted = before_both _ v.posted ((length line, x) ∷ []) (before_more (length line) _ v.posted (omega arith) mine.posted) ((omega arith), tt);
                  received = mine.received;
                  known = mine.known;
                  mouth = mine.mouth;
                })
                (λ j u _ e. view_more r.pool (length line) _ r.got u (omega arith) (r.each j u e));
          },
          record { got = r.got; left = items; stood = stands items views r id v at; later = mine.posted; view = refl },
        )

    pub receives : (id : ℕ) (v : V) → 0 < v.parts → v.mouths ≡ 1 → Pops Rule id v (λ x w. Takes is_of x v w)
    receives id v some_parts has x items views r at =
        let w : V = with_receipt x v in
        let vs : List V = set views id w in
        let mine = r.each id v at in
        let here : v.got ≡ r.got = mine.mouth has in
        let place : length v.got ≡ length r.got = ap length here in
        let got : List (Posted M) = r.got ++ x ∷ [] in
        let same : got ++ items ≡ r.got ++ (x ∷ items) = append_assoc r.got (x ∷ []) items in
        let long : length (r.got ++ (x ∷ items)) ≡ length (got ++ items) = ap length (sym same) in
        let more : length got ≡ length r.got + 1 = length-append r.got (x ∷ []) in (
          w,
          record {
            pool = r.pool;
            got = got;
            parts_sum = let a = total_set parts_of views id v w at in let c = r.parts_sum in omega arith;
            mouths_sum = let a = total_set mouths_of views id v w at in let c = r.mouths_sum in omega arith;
            posts = λ t.
                let a = total_set (posted_weight t) views id v w at in
                let c = r.posts t in
                let e : sum_by t (placed_from 0 (got ++ items)) ≡ sum_by t (placed_from 0 (r.got ++ (x ∷ items))) = ap (λ (l : List (Posted M)). sum_by t (placed_from 0 l)) same in
                omega (arith, a, c, e);
            receipts = λ t.
                let a = total_set (received_weight t) views id v w at in
                let b = weigh_snoc t v.received (length v.got, x) in
                let c = r.receipts t in
                let d = weigh_line t r.got x in
                let e : t (length v.got, x) ≡ t (length r.got, x) = ap (λ (n : ℕ). t (n, x)) place in
                omega (arith, a, b, c, d, e);
            carried = r.carried.1;
            each = each_set (λ u. IsView r.pool (length (got ++ items)) got u) views id w
                (record {
                  pool_is = mine.pool_is;
                  spent = λ e. absurd (omega arith);
                  posted = before_more _ _ v.posted (omega arith) mine.posted;
                  received = before_both _ v.received ((length v.got, x) ∷ []) (before_more (length r.got) _ v.received (omega arith) mine.received) ((omega arith), tt);
                  known = let k = mine.known in omega arith;
                  mouth = λ _. ap (λ (l : List (Posted M)). l ++ x ∷ []) here;
                })
                (λ j u n e. let i = r.each j u e in let no = no_mouth (x ∷ items) views r id j v u at has n e in record {
                  pool_is = i.pool_is;
                  spent = i.spent;
                  posted = before_more _ _ u.posted (omega arith) i.posted;
                  received = before_more (length r.got) _ u.received (omega arith) i.received;
                  known = let k = i.known in omega arith;
                  mouth = λ h. absurd (omega arith);
                });
          },
          record {
            left = items;
            stood = subst (λ (l : List (Posted M)). Stood v l (x ∷ items)) (sym here) (stands (x ∷ items) views r id v at);
            later = subst (λ (n : ℕ). AreBefore n v.received) (sym place) mine.received;
            carried = subst (λ (o : Option TableId). IsCarried is_of o x.1) (sym (mine.pool_is some_parts)) r.carried.0;
            view = refl;
          },
        )
