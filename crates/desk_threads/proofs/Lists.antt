-- Lists of which one element after the other is split or joined.
use Rattle.std.proofs.Common.{ℕ, suc, ◌≡◌, ◌≤◌, List, [], ◌∷◌, ◌++◌, Some, length, refl, ap, sym, subst, arith, set}
use Rattle.std.specs.Prelude.{slice_get}
use Rattle.codec_desk.specs.Each.{Pairs}
use Rattle.desk_threads.specs.Parts.{EachOfThree}

module _ {X A : Type 0} (R : X → A → A → A → Type 0) where
  -- ---- one after the other from the front: the first have a new element beside them, the others are as they were

  abbrev pub FirstSplit : List X → List A → List A → List A → Type 0
  FirstSplit xs us vs [] = vs ≡ us
  FirstSplit [] us vs (n ∷ ns) = ⊥
  FirstSplit (x ∷ xs) [] vs (n ∷ ns) = ⊥
  FirstSplit (x ∷ xs) (u ∷ us) [] (n ∷ ns) = ⊥
  FirstSplit (x ∷ xs) (u ∷ us) (v ∷ vs) (n ∷ ns) = R x u v n × FirstSplit xs us vs ns

  pub split_length : (xs : List X) (us vs ns : List A) → FirstSplit xs us vs ns → length vs ≡ length us
  split_length xs us vs [] h = ap (λ (l : List A). length l) h
  split_length [] us vs (n ∷ ns) h = absurd h
  split_length (x ∷ xs) [] vs (n ∷ ns) h = absurd h
  split_length (x ∷ xs) (u ∷ us) [] (n ∷ ns) h = absurd h
  split_length (x ∷ xs) (u ∷ us) (v ∷ vs) (n ∷ ns) h = ap suc (split_length xs us vs ns h.1)

  -- the next one is as it was
  pub split_there : (xs : List X) (us vs ns : List A) (w : A) → FirstSplit xs us vs ns → slice_get vs (length ns) ≡ Some w → slice_get us (length ns) ≡ Some w
  split_there xs us vs [] w h at = subst (λ (l : List A). slice_get l 0 ≡ Some w) h at
  split_there [] us vs (n ∷ ns) w h at = absurd h
  split_there (x ∷ xs) [] vs (n ∷ ns) w h at = absurd h
  split_there (x ∷ xs) (u ∷ us) [] (n ∷ ns) w h at = absurd h
  split_there (x ∷ xs) (u ∷ us) (v ∷ vs) (n ∷ ns) w h at = split_there xs us vs ns w h.1 at

  pub split_more : (xs : List X) (us vs ns : List A) (x : X) (u v n : A) → FirstSplit xs us vs ns → slice_get xs (length ns) ≡ Some x → slice_get vs (length ns) ≡ Some u → R x u v n → FirstSplit xs us (set vs (length ns) v) (ns ++ n ∷ [])
  split_more [] us vs [] x u v n h at there r = absurd cc
  split_more (y ∷ xs) us [] [] x u v n h at there r = absurd cc
  split_more (y ∷ xs) [] (w ∷ vs) [] x u v n h at there r = absurd cc
  split_more (y ∷ xs) (t ∷ us) (w ∷ vs) [] x u v n h at there r =
      let e : x ≡ y = cc in
      let f : u ≡ t = cc in
      let same : vs ≡ us = cc in
      (subst (λ (z : X × A). R z.0 z.1 v n) (λ i. (e i, f i)) r, same)
  split_more [] us vs (m ∷ ns) x u v n h at there r = absurd h
  split_more (y ∷ xs) [] vs (m ∷ ns) x u v n h at there r = absurd h
  split_more (y ∷ xs) (t ∷ us) [] (m ∷ ns) x u v n h at there r = absurd h
  split_more (y ∷ xs) (t ∷ us) (w ∷ vs) (m ∷ ns) x u v n h at there r = (h.0, split_more xs us vs ns x u v n h.1 at there r)

  pub split_all : (Q : ℕ → X → A → Type 0) (k : ℕ) (xs : List X) (us vs ns : List A) → Pairs Q k xs us → FirstSplit xs us vs ns → length xs ≤ length ns → EachOfThree R xs us vs ns
  split_all Q k [] [] [] [] p h long = tt
  split_all Q k [] [] (v ∷ vs) [] p h long = absurd cc
  split_all Q k [] (u ∷ us) vs [] p h long = absurd p
  split_all Q k (x ∷ xs) us vs [] p h long = absurd (omega (arith, long))
  split_all Q k [] us vs (n ∷ ns) p h long = absurd h
  split_all Q k (x ∷ xs) [] vs (n ∷ ns) p h long = absurd h
  split_all Q k (x ∷ xs) (u ∷ us) [] (n ∷ ns) p h long = absurd h
  split_all Q k (x ∷ xs) (u ∷ us) (v ∷ vs) (n ∷ ns) p h long = (h.0, split_all Q (suc k) xs us vs ns p.1 h.1 (omega (arith, long)))

  -- ---- one after the other from the end: these are left of the others, and the first elements are as they were

  abbrev pub LastJoined : List X → List A → List A → List A → List A → Type 0
  LastJoined xs us ws vs [] = EachOfThree R xs us ws vs
  LastJoined [] us ws vs (n ∷ ns) = ⊥
  LastJoined (x ∷ xs) [] ws vs (n ∷ ns) = ⊥
  LastJoined (x ∷ xs) (u ∷ us) [] vs (n ∷ ns) = ⊥
  LastJoined (x ∷ xs) (u ∷ us) (w ∷ ws) [] (n ∷ ns) = ⊥
  LastJoined (x ∷ xs) (u ∷ us) (w ∷ ws) (v ∷ vs) (n ∷ ns) = (v ≡ u) × (n ≡ w) × LastJoined xs us ws vs ns

  pub join_start : (Q : ℕ → X → A → Type 0) (k : ℕ) (xs : List X) (us ws : List A) → Pairs Q k xs us → Pairs Q k xs ws → LastJoined xs us ws us ws
  join_start Q k [] [] [] p q = tt
  join_start Q k [] [] (w ∷ ws) p q = absurd q
  join_start Q k [] (u ∷ us) ws p q = absurd p
  join_start Q k (x ∷ xs) [] ws p q = absurd p
  join_start Q k (x ∷ xs) (u ∷ us) [] p q = absurd q
  join_start Q k (x ∷ xs) (u ∷ us) (w ∷ ws) p q = (refl, refl, join_start Q (suc k) xs us ws p.1 q.1)

  three_length : (xs : List X) (us ws vs : List A) → EachOfThree R xs us ws vs → length xs ≡ length vs
  three_length [] [] [] [] h = refl
  three_length [] [] [] (v ∷ vs) h = absurd h
  three_length [] [] (w ∷ ws) vs h = absurd h
  three_length [] (u ∷ us) ws vs h = absurd h
  three_length (x ∷ xs) [] ws vs h = absurd h
  three_length (x ∷ xs) (u ∷ us) [] vs h = absurd h
  three_length (x ∷ xs) (u ∷ us) (w ∷ ws) [] h = absurd h
  three_length (x ∷ xs) (u ∷ us) (w ∷ ws) (v ∷ vs) h = ap suc (three_length xs us ws vs h.1)

  -- as many as partners, and no more are left
  pub join_length : (xs : List X) (us ws vs ns : List A) → LastJoined xs us ws vs ns → (length xs ≡ length vs) × (length ns ≤ length xs)
  join_length xs us ws vs [] h = (three_length xs us ws vs h, omega arith)
  join_length [] us ws vs (n ∷ ns) h = absurd h
  join_length (x ∷ xs) [] ws vs (n ∷ ns) h = absurd h
  join_length (x ∷ xs) (u ∷ us) [] vs (n ∷ ns) h = absurd h
  join_length (x ∷ xs) (u ∷ us) (w ∷ ws) [] (n ∷ ns) h = absurd h
  join_length (x ∷ xs) (u ∷ us) (w ∷ ws) (v ∷ vs) (n ∷ ns) h = let r = join_length xs us ws vs ns h.2 in (ap suc r.0, let few = r.1 in omega (arith, few))

  -- the last one that is left is that of the others, and the one that it is joined into is as it was
  pub join_there : (xs : List X) (us ws vs ns : List A) (n v : A) → LastJoined xs us ws vs (ns ++ n ∷ []) → slice_get vs (length ns) ≡ Some v → (slice_get us (length ns) ≡ Some v) × (slice_get ws (length ns) ≡ Some n)
  join_there [] us ws vs [] n v h at = absurd h
  join_there (x ∷ xs) [] ws vs [] n v h at = absurd h
  join_there (x ∷ xs) (u ∷ us) [] vs [] n v h at = absurd h
  join_there (x ∷ xs) (u ∷ us) (w ∷ ws) [] [] n v h at = absurd h
  join_there (x ∷ xs) (u ∷ us) (w ∷ ws) (t ∷ vs) [] n v h at = let e : t ≡ u = h.0 in let f : n ≡ w = h.1 in let g : u ≡ v = cc in (ap Some g, ap Some (sym f))
  join_there [] us ws vs (m ∷ ns) n v h at = absurd h
  join_there (x ∷ xs) [] ws vs (m ∷ ns) n v h at = absurd h
  join_there (x ∷ xs) (u ∷ us) [] vs (m ∷ ns) n v h at = absurd h
  join_there (x ∷ xs) (u ∷ us) (w ∷ ws) [] (m ∷ ns) n v h at = absurd h
  join_there (x ∷ xs) (u ∷ us) (w ∷ ws) (t ∷ vs) (m ∷ ns) n v h at = join_there xs us ws vs ns n v h.2 at

  -- it was joined
  pub join_less : (xs : List X) (us ws vs ns : List A) (n : A) (x : X) (v z : A) → LastJoined xs us ws vs (ns ++ n ∷ []) → slice_get xs (length ns) ≡ Some x → slice_get vs (length ns) ≡ Some v → R x v n z → LastJoined xs us ws (set vs (length ns) z) ns
  join_less [] us ws vs [] n x v z h at there r = absurd h
  join_less (y ∷ xs) [] ws vs [] n x v z h at there r = absurd h
  join_less (y ∷ xs) (u ∷ us) [] vs [] n x v z h at there r = absurd h
  join_less (y ∷ xs) (u ∷ us) (w ∷ ws) [] [] n x v z h at there r = absurd h
  join_less (y ∷ xs) (u ∷ us) (w ∷ ws) (t ∷ vs) [] n x v z h at there r =
      let d : t ≡ u = h.0 in
      let f : n ≡ w = h.1 in
      let e : x ≡ y = cc in
      let g : v ≡ u = cc in
      (subst (λ (q : X × A × A). R q.0 q.1 q.2 z) (λ i. (e i, g i, f i)) r, h.2)
  join_less [] us ws vs (m ∷ ns) n x v z h at there r = absurd h
  join_less (y ∷ xs) [] ws vs (m ∷ ns) n x v z h at there r = absurd h
  join_less (y ∷ xs) (u ∷ us) [] vs (m ∷ ns) n x v z h at there r = absurd h
  join_less (y ∷ xs) (u ∷ us) (w ∷ ws) [] (m ∷ ns) n x v z h at there r = absurd h
  join_less (y ∷ xs) (u ∷ us) (w ∷ ws) (t ∷ vs) (m ∷ ns) n x v z h at there r = (h.0, h.1, join_less xs us ws vs ns n x v z h.2 at there r)
