-- What a pass of a port knows of its caller's deeds, and of one more.
use Rattle.std.proofs.Common.{ℕ, zero, suc, ◌≡◌, ◌<◌, ◌≤◌, ◌==◌, ◌⊎◌, Bool, cond, inl, inr, List, [], ◌∷◌, ◌++◌, length, take, Option, Some, None, refl, ap, sym, subst, ◌∙◌, arith, eq-eqb, ne_eqb, length-append}
use Rattle.std.specs.Prelude.{slice_get}
use Rattle.std.proofs.Math.Seq.{take-length}
use Rattle.std.proofs.lemmas.List.{take-append-le}
use Rattle.std.proofs.lemmas.Option.{slice_get_within}
use Rattle.wc_base.specs.Options.{some_same}
use Rattle.wc_base.specs.declared.who.Who.{Who}
use Rattle.wc_chunk.specs.declared.chunk.Chunk.{Chunk}
use Rattle.codec_accounts.specs.ListLaws.{get_end, get_kept, get_more}
use Rattle.script_types.specs.declared.script.ScriptData.{ScriptData}
use Rattle.script_types.specs.declared.steps.MediaStep.{MediaStep}
use Rattle.script_types.specs.declared.steps.Step.{Step}
use Rattle.report_text.specs.declared.result.StepResult.{StepResult}
use Rattle.media_variables.specs.Variables.{Medium, Received}
use Rattle.run_model.specs.Fits.{port_posted, port_received}
use Rattle.shared_port.specs.declared.rule.PortView.{PortView}
use Rattle.shared_port.specs.Steps.{Posts, Receives, FindsNone}
use Rattle.shared_port.specs.Views.{Placed, AreBefore, with_post, with_receipt, with_mouth, without_mouth, mouth_view}
use Rattle.shared_variables.specs.Ports.{IsParcelOf, WholeParcel}
use Rattle.desk_callers.specs.Deeds.{Deed, variables_after}
use Rattle.desk_callers.specs.PortDeeds.{carried, IsPlaced, PostsInto, Gets, FindsNothing, IsTimed, GetsLater, EachHasDeed, PostedAt, GotAt, FoundNothingAt, KnowsDeeds}
use Rattle.desk_callers.specs.PortActs.{ActsAt}

-- ---- places in a port's line

placed_kept : (n : ℕ) (p : Received) (xs : List (Placed WholeParcel)) (y : Placed WholeParcel) → IsPlaced n p xs → IsPlaced n p (xs ++ y ∷ [])
placed_kept n p xs y at = (at.0, (at.1.0, (get_kept xs (y ∷ []) at.0 (n, at.1.0) at.1.1.0, at.1.1.1)))

placed_new : (n : ℕ) (x : Who × WholeParcel) (xs : List (Placed WholeParcel)) → IsPlaced n (carried x) (xs ++ (n, x) ∷ [])
placed_new n x xs = (length xs, (x, (get_end xs (n, x), refl)))

placed_cases : (n : ℕ) (p : Received) (xs : List (Placed WholeParcel)) (m : ℕ) (y : Who × WholeParcel) → IsPlaced n p (xs ++ (m, y) ∷ []) → IsPlaced n p xs ⊎ ((n ≡ m) × (p ≡ carried y))
placed_cases n p xs m y at =
    elim (get_more xs (m, y) at.0 (n, at.1.0) at.1.1.0) [
      | inl old ↦ inl (at.0, (at.1.0, (old, at.1.1.1)))
      | inr new ↦ inr (ap (λ (z : Placed WholeParcel). z.0) new.1, sym at.1.1.1 ∙ ap (λ (z : Placed WholeParcel). carried z.1) new.1)
    ]

before_at : (b : ℕ) (xs : List (Placed WholeParcel)) (i : ℕ) (z : Placed WholeParcel) → AreBefore b xs → slice_get xs i ≡ Some z → z.0 < b
before_at b [] i z all there = absurd cc
before_at b (x ∷ xs) zero z all there = subst (λ (y : Placed WholeParcel). y.0 < b) (some_same x z there) all.0
before_at b (x ∷ xs) (suc i) z all there = before_at b xs i z all.1 there

placed_before : (b n : ℕ) (p : Received) (xs : List (Placed WholeParcel)) → AreBefore b xs → IsPlaced n p xs → n < b
placed_before b n p xs all at = before_at b xs at.0 (n, at.1.0) all at.1.1.0

-- ---- deeds of what stands in it

deed_kept : (P : Deed → Who × WholeParcel → Type 0) (ds : List Deed) (d : Deed) (xs : List (Placed WholeParcel)) → EachHasDeed P ds xs → EachHasDeed P (ds ++ d ∷ []) xs
deed_kept P ds d xs each i n x there = (let y = each i n x there in (y.0, (y.1.0, (get_kept ds (d ∷ []) y.0 y.1.0 y.1.1.0, y.1.1.1))))

deed_more : (P : Deed → Who × WholeParcel → Type 0) (ds : List Deed) (d : Deed) (xs : List (Placed WholeParcel)) (m : ℕ) (z : Who × WholeParcel) → EachHasDeed P ds xs → P d z → EachHasDeed P (ds ++ d ∷ []) (xs ++ (m, z) ∷ [])
deed_more P ds d xs m z each is i n x there =
    elim (get_more xs (m, z) i (n, x) there) [
      | inl old ↦ deed_kept P ds d xs each i n x old
      | inr new ↦ (length ds, (d, (get_end ds d, subst (λ (y : Placed WholeParcel). P d y.1) (sym new.1) is)))
    ]

-- ---- the place of one more

pub with_place : (ℕ → ℕ) → ℕ → ℕ → ℕ → ℕ
with_place place k n j = cond (j == k) n (place j)

place_old : (place : ℕ → ℕ) (k n j : ℕ) → j < k → with_place place k n j ≡ place j
unfolding with_place
place_old place k n j lt = ap (λ (b : Bool). cond b n (place j)) (ne_eqb j k (λ e. absurd (omega (arith, e, lt))))

place_new : (place : ℕ → ℕ) (k n j : ℕ) → j ≡ k → with_place place k n j ≡ n
unfolding with_place
place_new place k n j same = ap (λ (b : Bool). cond b n (place j)) (eq-eqb j k same)

-- ---- what some deeds did at a port, and one more

-- `A` is what so many deeds did, `B` what they and one more did, and `N` what that one did.
pub record IsMore (k : ℕ) (A B : ℕ → Received → Type 0) (N : Received → Type 0) : Type 0 where
  pub within : (j : ℕ) (p : Received) → A j p → j < k
  pub kept : (j : ℕ) (p : Received) → A j p → B j p
  pub cases : (j : ℕ) (p : Received) → B j p → A j p ⊎ ((j ≡ k) × N p)
  pub new : (p : Received) → N p → B k p

-- what was done has its places in a line, in the order of the deeds
pub record AreKnown (A : ℕ → Received → Type 0) (place : ℕ → ℕ) (xs : List (Placed WholeParcel)) : Type 0 where
  pub placed : (j : ℕ) (p : Received) → A j p → IsPlaced (place j) p xs
  pub made : (n : ℕ) (p : Received) → IsPlaced n p xs → (j : ℕ) × (A j p × (place j ≡ n))
  pub rise : (i j : ℕ) (p r : Received) → i < j → A i p → A j r → place i < place j

module _ (k : ℕ) (A B : ℕ → Received → Type 0) (N : Received → Type 0) (more : IsMore k A B N) (place : ℕ → ℕ) (xs : List (Placed WholeParcel)) (known : AreKnown A place xs) (n : ℕ) where
  -- the old ones rise as they did
  rise_old : (i j : ℕ) (p r : Received) → i < j → B i p → A j r → with_place place k n i < with_place place k n j
  rise_old i j p r lt b a =
      let below : j < k = more.within j r a in
      let here = place_old place k n j below in
      elim (more.cases i p b) [
        | inl old ↦ (let there = place_old place k n i (more.within i p old) in let up = known.rise i j p r lt old a in omega (arith, here, there, up))
        | inr new ↦ (let same = new.0 in absurd (omega (arith, same, below, lt)))
      ]

  -- the new one did nothing of the kind
  pub rests : ((p : Received) → N p → ⊥) → AreKnown B (with_place place k n) xs
  rests none = record {
    placed = λ j p b. elim (more.cases j p b) [
      | inl old ↦ subst (λ (h : ℕ). IsPlaced h p xs) (sym (place_old place k n j (more.within j p old))) (known.placed j p old)
      | inr new ↦ absurd (none p new.1)
    ];
    made = λ h p at. (let y = known.made h p at in (y.0, (more.kept y.0 p y.1.0, place_old place k n y.0 (more.within y.0 p y.1.0) ∙ y.1.1)));
    rise = λ i j p r lt b c. elim (more.cases j r c) [
      | inl old ↦ rise_old i j p r lt b old
      | inr new ↦ absurd (none r new.1)
    ];
  }

  -- the new one did this, behind all before it
  pub grows : (x : Who × WholeParcel) → N (carried x) → ((p : Received) → N p → p ≡ carried x) → AreBefore n xs → AreKnown B (with_place place k n) (xs ++ (n, x) ∷ [])
  grows x is one all = record {
    placed = λ j p b. elim (more.cases j p b) [
      | inl old ↦ subst (λ (h : ℕ). IsPlaced h p (xs ++ (n, x) ∷ [])) (sym (place_old place k n j (more.within j p old))) (placed_kept (place j) p xs (n, x) (known.placed j p old))
      | inr new ↦ subst (λ (z : ℕ × Received). IsPlaced z.0 z.1 (xs ++ (n, x) ∷ [])) (λ i. (sym (place_new place k n j new.0) i, sym (one p new.1) i)) (placed_new n x xs)
    ];
    made = λ h p at. elim (placed_cases h p xs n x at) [
      | inl old ↦ (let y = known.made h p old in (y.0, (more.kept y.0 p y.1.0, place_old place k n y.0 (more.within y.0 p y.1.0) ∙ y.1.1)))
      | inr new ↦ (k, (more.new p (subst N (sym new.1) is), place_new place k n k refl ∙ sym new.0))
    ];
    rise = λ i j p r lt b c. elim (more.cases j r c) [
      | inl old ↦ rise_old i j p r lt b old
      | inr last ↦
          (let here = place_new place k n j last.0 in
          let end = last.0 in
          elim (more.cases i p b) [
            | inl old ↦ (let there = place_old place k n i (more.within i p old) in let below = placed_before n (place i) p xs all (known.placed i p old) in omega (arith, here, there, below))
            | inr new ↦ (let same = new.0 in absurd (omega (arith, same, end, lt)))
          ])
    ];
  }

-- ---- deeds of a caller

posted_once : (q : ℕ) (d : Deed) (vs : List (Option Medium)) (p r : Received) → PostsInto q d vs p → PostsInto q d vs r → p ≡ r
posted_once q d vs p r x y = λ i. record { poster = (x.poster ∙ sym y.poster) i; medium = some_same p.medium r.medium (sym x.medium ∙ y.medium) i }

got_once : (q : ℕ) (d : Deed) (p r : Received) → Gets q d p → Gets q d r → p ≡ r
got_once q d p r x y = some_same p r (sym x.received ∙ y.received)

-- no step both posts and receives
one_way : (x : Step) (q r : ℕ) → port_posted x ≡ Some q → port_received x ≡ Some r → ⊥
one_way (Step.Media (MediaStep.Post to content)) q r posts receives = cc
one_way x q r posts receives = cc

module _ (s : ScriptData) (media : List (List Chunk)) (q : ℕ) (ds : List Deed) (d : Deed) where
  front_old : (j : ℕ) (e : Deed) → slice_get ds j ≡ Some e → take j (ds ++ d ∷ []) ≡ take j ds
  front_old j e there = (let lt = slice_get_within ds j e there in take-append-le j ds (d ∷ []) (omega (arith, lt)))

  front_new : take (length ds) (ds ++ d ∷ []) ≡ ds
  front_new = take-append-le (length ds) ds (d ∷ []) (omega arith) ∙ take-length ds

  more_posts : IsMore (length ds) (PostedAt s media q ds) (PostedAt s media q (ds ++ d ∷ [])) (PostsInto q d (variables_after s media ds))
  more_posts = record {
    within = λ j p at. slice_get_within ds j at.0 at.1.0;
    kept = λ j p at. (at.0, (get_kept ds (d ∷ []) j at.0 at.1.0, subst (λ (l : List Deed). PostsInto q at.0 (variables_after s media l) p) (sym (front_old j at.0 at.1.0)) at.1.1));
    cases = λ j p at. elim (get_more ds d j at.0 at.1.0) [
      | inl old ↦ inl (at.0, (old, subst (λ (l : List Deed). PostsInto q at.0 (variables_after s media l) p) (front_old j at.0 old) at.1.1))
      | inr new ↦ inr (
        new.0,
        subst (λ (l : List Deed). PostsInto q d (variables_after s media l) p) front_new
            (subst (λ (z : ℕ × Deed). PostsInto q z.1 (variables_after s media (take z.0 (ds ++ d ∷ []))) p) (λ i. (new.0 i, new.1 i)) at.1.1),
      )
    ];
    new = λ p into. (d, (get_end ds d, subst (λ (l : List Deed). PostsInto q d (variables_after s media l) p) (sym front_new) into));
  }

  more_gets : IsMore (length ds) (GotAt s media q ds) (GotAt s media q (ds ++ d ∷ [])) (Gets q d)
  more_gets = record {
    within = λ j p at. slice_get_within ds j at.0 at.1.0;
    kept = λ j p at. (at.0, (get_kept ds (d ∷ []) j at.0 at.1.0, at.1.1));
    cases = λ j p at. elim (get_more ds d j at.0 at.1.0) [
      | inl old ↦ inl (at.0, (old, at.1.1))
      | inr new ↦ inr (new.0, subst (λ (e : Deed). Gets q e p) new.1 at.1.1)
    ];
    new = λ p gets. (d, (get_end ds d, gets));
  }

  -- a deed that found nothing was there before, or is the new one
  nothing_cases : (j : ℕ) → FoundNothingAt s media q (ds ++ d ∷ []) j → FoundNothingAt s media q ds j ⊎ ((j ≡ length ds) × FindsNothing q d)
  nothing_cases j at = elim (get_more ds d j at.0 at.1.0) [
    | inl old ↦ inl (at.0, (old, at.1.1))
    | inr new ↦ inr (new.0, subst (FindsNothing q) new.1 at.1.1)
  ]

  posts_known : (v : PortView WholeParcel) (known : KnowsDeeds s media q ds v) → AreKnown (PostedAt s media q ds) known.place v.posted
  posts_known v known = record { placed = known.posts; made = known.posted; rise = known.posts_rise }

  gets_known : (v : PortView WholeParcel) (known : KnowsDeeds s media q ds v) → AreKnown (GotAt s media q ds) known.place v.received
  gets_known v known = record { placed = known.gets; made = known.got; rise = known.gets_rise }

  -- what earlier deeds posted stands before what the view knows then
  nothing_more : (v w : PortView WholeParcel) (known : KnowsDeeds s media q ds v) (n : ℕ) → v.known ≤ w.known → (FindsNothing q d → AreBefore w.known v.posted)
      → (i j : ℕ) (p : Received) → i < j → PostedAt s media q (ds ++ d ∷ []) i p → FoundNothingAt s media q (ds ++ d ∷ []) j → with_place known.place (length ds) n i < w.known
  nothing_more v w known n least found i j p lt posted none =
      elim (more_posts.cases i p posted) [
        | inl old ↦
            (let below : i < length ds = more_posts.within i p old in
            let here = place_old known.place (length ds) n i below in
            elim (nothing_cases j none) [
              | inl was ↦ (let up = known.nothing i j p lt old was in omega (arith, here, up, least))
              | inr new ↦ (let up = placed_before w.known (known.place i) p v.posted (found new.1) (known.posts i p old) in omega (arith, here, up))
            ])
        | inr new ↦
            (let same = new.0 in
            elim (nothing_cases j none) [
              | inl was ↦ (let below = slice_get_within ds j was.0 was.1.0 in absurd (omega (arith, same, below, lt)))
              | inr last ↦ (let end = last.0 in absurd (omega (arith, same, end, lt)))
            ])
      ]

  knows_by : (v w : PortView WholeParcel) (known : KnowsDeeds s media q ds v) (n : ℕ) → AreKnown (PostedAt s media q (ds ++ d ∷ [])) (with_place known.place (length ds) n) w.posted
      → AreKnown (GotAt s media q (ds ++ d ∷ [])) (with_place known.place (length ds) n) w.received → v.known ≤ w.known → EachHasDeed IsTimed (ds ++ d ∷ []) w.posted → EachHasDeed (GetsLater q) (ds ++ d ∷ []) w.received → (FindsNothing q d → AreBefore w.known v.posted) → KnowsDeeds s media q (ds ++ d ∷ []) w
  knows_by v w known n posts gets least timed later found = record {
    place = with_place known.place (length ds) n;
    posts = posts.placed;
    posted = posts.made;
    gets = gets.placed;
    got = gets.made;
    posts_rise = posts.rise;
    gets_rise = gets.rise;
    timed = timed;
    later = later;
    nothing = nothing_more v w known n least found;
  }

  posts_rest : (v : PortView WholeParcel) (known : KnowsDeeds s media q ds v) (n : ℕ) → ((p : Received) → PostsInto q d (variables_after s media ds) p → ⊥) → AreKnown (PostedAt s media q (ds ++ d ∷ [])) (with_place known.place (length ds) n) v.posted
  posts_rest v known n none = rests (length ds) (PostedAt s media q ds) (PostedAt s media q (ds ++ d ∷ [])) (PostsInto q d (variables_after s media ds)) more_posts known.place v.posted (posts_known v known) n none

  gets_rest : (v : PortView WholeParcel) (known : KnowsDeeds s media q ds v) (n : ℕ) → ((p : Received) → Gets q d p → ⊥) → AreKnown (GotAt s media q (ds ++ d ∷ [])) (with_place known.place (length ds) n) v.received
  gets_rest v known n none = rests (length ds) (GotAt s media q ds) (GotAt s media q (ds ++ d ∷ [])) (Gets q d) more_gets known.place v.received (gets_known v known) n none

  -- one more deed, which posted
  knows_post : (v w : PortView WholeParcel) (m : WholeParcel) → KnowsDeeds s media q ds v → m.time ≡ d.time → PostsInto q d (variables_after s media ds) (carried (d.who, m)) → Posts (d.who, m) v w → KnowsDeeds s media q (ds ++ d ∷ []) w
  knows_post v w m known time into posts =
      let n : ℕ = length (posts.got ++ posts.left) in
      let x : Who × WholeParcel = (d.who, m) in
      subst (KnowsDeeds s media q (ds ++ d ∷ [])) (sym posts.view)
      (knows_by v (with_post (n, x) v) known n
      (grows (length ds) (PostedAt s media q ds) (PostedAt s media q (ds ++ d ∷ [])) (PostsInto q d (variables_after s media ds)) more_posts known.place v.posted (posts_known v known) n x into (λ p also. posted_once q d (variables_after s media ds) p (carried x) also into) posts.later)
      (gets_rest v known n (λ p gets. one_way d.step q q into.port gets.port))
      (omega arith)
      (deed_more IsTimed ds d v.posted n x known.timed (record { who = refl; time = time }))
      (deed_kept (GetsLater q) ds d v.received known.later)
      (λ none. absurd (one_way d.step q q into.port none.port)))

  -- which received
  knows_got : (v w : PortView WholeParcel) (x : Who × WholeParcel) → KnowsDeeds s media q ds v → Gets q d (carried x) → d.result ≡ StepResult.From x.0 → x.1.time < d.time → Receives IsParcelOf x v w → KnowsDeeds s media q (ds ++ d ∷ []) w
  knows_got v w x known gets result later receives =
      let n : ℕ = length receives.got in
      let long = length-append receives.got (x ∷ []) in
      let least : v.known ≤ length (receives.got ++ x ∷ []) = omega (arith, receives.stood.known, long) in
      subst (KnowsDeeds s media q (ds ++ d ∷ [])) (sym receives.view)
      (knows_by v (without_mouth (with_receipt x (with_mouth v (mouth_view receives.got)))) known n
      (posts_rest v known n (λ p into. one_way d.step q q into.port gets.port))
      (grows (length ds) (GotAt s media q ds) (GotAt s media q (ds ++ d ∷ [])) (Gets q d) more_gets known.place v.received (gets_known v known) n x gets (λ p also. got_once q d p (carried x) also gets) receives.later)
      least
      (deed_kept IsTimed ds d v.posted known.timed)
      (deed_more (GetsLater q) ds d v.received n x known.later (record { gets = gets; later = later }))
      (λ none. absurd (other x.0 (sym result ∙ none.result))))
    where
      other : (who : Who) → StepResult.From who ≡ StepResult.Nothing → ⊥
      other who same = cc

  -- which found nothing
  knows_none : (v w : PortView WholeParcel) → KnowsDeeds s media q ds v → FindsNothing q d → d.received ≡ None → FindsNone v w → KnowsDeeds s media q (ds ++ d ∷ []) w
  knows_none v w known finds received none =
      let least = none.stood.known in
      subst (KnowsDeeds s media q (ds ++ d ∷ [])) (sym none.view)
      (knows_by v (without_mouth (with_mouth v (mouth_view none.got))) known 0
      (posts_rest v known 0 (λ p into. one_way d.step q q into.port finds.port))
      (gets_rest v known 0 (λ p gets. some_none p (sym gets.received ∙ received)))
      least
      (deed_kept IsTimed ds d v.posted known.timed)
      (deed_kept (GetsLater q) ds d v.received known.later)
      (λ again. none.all))
    where
      some_none : (p : Received) → ◌≡◌ {A = Option Received} (Some p) None → ⊥
      some_none p same = cc

  -- which did nothing there
  knows_rest : (v w : PortView WholeParcel) → KnowsDeeds s media q ds v → ((p : Received) → PostsInto q d (variables_after s media ds) p → ⊥) → ((p : Received) → Gets q d p → ⊥) → (FindsNothing q d → ⊥) → w ≡ v → KnowsDeeds s media q (ds ++ d ∷ []) w
  knows_rest v w known posts gets finds same =
      subst (KnowsDeeds s media q (ds ++ d ∷ [])) (sym same)
      (knows_by v v known 0 (posts_rest v known 0 posts) (gets_rest v known 0 gets) (omega arith) (deed_kept IsTimed ds d v.posted known.timed) (deed_kept (GetsLater q) ds d v.received known.later) (λ none. absurd (finds none)))

  pub knows_more : (v w : PortView WholeParcel) → KnowsDeeds s media q ds v → ActsAt q d (variables_after s media ds) v w → KnowsDeeds s media q (ds ++ d ∷ []) w
  knows_more v w known (ActsAt.PostedOne m time into posts) = knows_post v w m known time into posts
  knows_more v w known (ActsAt.GotOne x gets result later receives) = knows_got v w x known gets result later receives
  knows_more v w known (ActsAt.FoundNone finds received none) = knows_none v w known finds received none
  knows_more v w known (ActsAt.UsedNot posts gets finds same) = knows_rest v w known posts gets finds same

-- before any deed nothing is known
pub knows_no_deeds : (s : ScriptData) (media : List (List Chunk)) (q : ℕ) (v : PortView WholeParcel) → v.posted ≡ [] → v.received ≡ [] → KnowsDeeds s media q [] v
knows_no_deeds s media q v posted received = record {
  place = λ j. 0;
  posts = λ j p at. absurd (no_deed j at.0 at.1.0);
  posted = λ n p at. absurd (no_place n p (subst (IsPlaced n p) posted at));
  gets = λ j p at. absurd (no_deed j at.0 at.1.0);
  got = λ n p at. absurd (no_place n p (subst (IsPlaced n p) received at));
  posts_rise = λ i j p r lt at other. absurd (no_deed i at.0 at.1.0);
  gets_rise = λ i j p r lt at other. absurd (no_deed i at.0 at.1.0);
  timed = λ i n x there. absurd (none_there i (n, x) (subst (λ (l : List (Placed WholeParcel)). slice_get l i ≡ Some (n, x)) posted there));
  later = λ i n x there. absurd (none_there i (n, x) (subst (λ (l : List (Placed WholeParcel)). slice_get l i ≡ Some (n, x)) received there));
  nothing = λ i j p lt at none. absurd (no_deed i at.0 at.1.0);
}
  where
    no_deed : (j : ℕ) (d : Deed) → slice_get [] j ≡ Some d → ⊥
    no_deed j d there = cc

    none_there : (i : ℕ) (z : Placed WholeParcel) → slice_get [] i ≡ Some z → ⊥
    none_there i z there = cc

    no_place : (n : ℕ) (p : Received) → IsPlaced n p [] → ⊥
    no_place n p at = cc
