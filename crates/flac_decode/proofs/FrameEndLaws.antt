-- A frame ends at one place.
use Rattle.std.proofs.Common.{◌≡◌, ℕ, zero, suc, ℤ, ◌+◌, ◌*◌, ◌/◌, ◌^◌, ◌<◌, ◌≤◌, Bool, true, false, cond, eqb, ltb, List, [], ◌∷◌, ◌++◌, Option, Some, None, length, take, drop, refl, sym, ap, subst, ◌∙◌, arith, length-append, length-take, take-append-drop, append-nil}
use Rattle.std.proofs.lemmas.Bool.{eqb-true, eq-eqb, ltb-true, lt-ltb}
use Rattle.wc_config.specs.declared.stream_info.StreamInfo.{StreamInfo}
use Rattle.flac_definitions.specs.Bits.{Place, forward, bits_in}
use Rattle.flac_definitions.specs.BitLaws.{length-bits_in, bits_in-append}
use Rattle.flac_definitions.specs.declared.header.FrameHeader.{FrameHeader}
use Rattle.flac_definitions.specs.Bits.{Begins}
use Rattle.flac_definitions.specs.Options.{◌>>=◌}
use Rattle.flac_definitions.specs.Bits.{start_of}
use Rattle.flac_definitions.specs.Frame.{if_all_bytes, frame_at, frame_of}
use Rattle.flac_definitions.specs.FrameSpelling.{IsFrame, FramesAreSpelled}
use Rattle.flac_definitions.specs.GrammarLaws.{same_some}
use Rattle.flac_definitions.specs.SumLaws.{front_bytes}
use Rattle.flac_decode.specs.FrameEnd.{most, EndsAt, IsFront, end_of, front_of}
use Rattle.flac_definitions.specs.GrammarLaws.{same_some}
use Rattle.flac_definitions.specs.SumLaws.{front_bytes}

-- the frame that bytes are, from one that is read at their start
frame_of_all : (info : StreamInfo) (xs : List ℕ) (f : FrameHeader × List ℤ) (q : Place) → length xs < 2 ^ 61 → frame_at info (start_of xs) ≡ Some (f, q) → q.at ≡ 8 * length xs → frame_of info xs ≡ Some f
frame_of_all info xs f q h e a =
    ap (λ t. cond t (frame_at info (start_of xs) >>= if_all_bytes xs) None) (lt-ltb (length xs) (2 ^ 61) h)
    ∙ ap (λ (o : Option ((FrameHeader × List ℤ) × Place)). o >>= if_all_bytes xs) e ∙ ap (λ t. cond t (Some f) None) (eq-eqb q.at (8 * length xs) a)

all_cases : (xs : List ℕ) (f : FrameHeader × List ℤ) (x : (FrameHeader × List ℤ) × Place) (t : Bool) → eqb x.1.at (8 * length xs) ≡ t → cond t (Some x.0) None ≡ Some f → (x.1.at ≡ 8 * length xs) × (x.0 ≡ f)
all_cases xs f x false e h = absurd (let n : ⊥ = cc in n)
all_cases xs f x true e h = (eqb-true x.1.at (8 * length xs) e, same_some x.0 f h)

read_cases : (info : StreamInfo) (xs : List ℕ) (f : FrameHeader × List ℤ) (o : Option ((FrameHeader × List ℤ) × Place)) → frame_at info (start_of xs) ≡ o → (o >>= if_all_bytes xs) ≡ Some f
    → (q : Place) × (frame_at info (start_of xs) ≡ Some (f, q)) × (q.at ≡ 8 * length xs)
read_cases info xs f None e h = absurd (let n : ⊥ = cc in n)
read_cases info xs f (Some x) e h =
    let c = all_cases xs f x (eqb x.1.at (8 * length xs)) refl h in
    (x.1, e ∙ ap (λ (g : FrameHeader × List ℤ). Some (g, x.1)) c.1, c.0)

long_cases : (info : StreamInfo) (xs : List ℕ) (f : FrameHeader × List ℤ) (t : Bool) → ltb (length xs) (2 ^ 61) ≡ t → cond t (frame_at info (start_of xs) >>= if_all_bytes xs) None ≡ Some f
    → (length xs < 2 ^ 61) × (q : Place) × (frame_at info (start_of xs) ≡ Some (f, q)) × (q.at ≡ 8 * length xs)
long_cases info xs f false e h = absurd (let n : ⊥ = cc in n)
long_cases info xs f true e h = let r = read_cases info xs f (frame_at info (start_of xs)) refl h in (ltb-true (length xs) (2 ^ 61) e, r.0, r.1, r.2)

no_more : (xs ys rest : List Bool) → xs ≡ ys ++ rest → length xs ≡ length ys → rest ≡ []
no_more xs ys [] e l = refl
no_more xs ys (r ∷ rest) e l = absurd (omega (arith, l, ap length e, length-append ys (r ∷ rest)))

-- what is a frame is read where more follows
pub grows : (laws : FramesAreSpelled) (info : StreamInfo) (xs ys : List ℕ) (f : FrameHeader × List ℤ) → frame_of info xs ≡ Some f → (q : Place) × (frame_at info (start_of (xs ++ ys)) ≡ Some (f, q)) × (q.at ≡ 8 * length xs)
grows laws info xs ys f e =
    let c = long_cases info xs f (ltb (length xs) (2 ^ 61)) refl e in
    let a = laws.sound info xs c.1 f c.2 in
    let size : length a.bits ≡ 8 * length xs = omega (arith, ap (λ (p : Place). p.at) a.place, c.3) in
    let none : a.next.rest ≡ [] = no_more (bits_in xs) a.bits a.next.rest a.next.whole (omega (arith, length-bits_in xs, size)) in
    let same : bits_in xs ≡ a.bits = a.next.whole ∙ ap (λ (z : List Bool). a.bits ++ z) none ∙ append-nil a.bits in
    let next : Begins (start_of (xs ++ ys)) a.bits = record { rest = bits_in ys; whole = bits_in-append xs ys ∙ ap (λ (z : List Bool). z ++ bits_in ys) same } in
    (forward (length a.bits) (start_of (xs ++ ys)), laws.whole info (xs ++ ys) f a.bits a.fine next, omega (arith, size))

-- what is read at the start of bytes is a frame, cut off behind it
pub cuts : (laws : FramesAreSpelled) (info : StreamInfo) (xs : List ℕ) (f : FrameHeader × List ℤ) (q : Place) → length xs < 2 ^ 61 → frame_at info (start_of xs) ≡ Some (f, q) → (q.at / 8 ≤ length xs) × (frame_of info (take (q.at / 8) xs) ≡ Some f)
cuts laws info xs f q h e =
    let a = laws.sound info xs q f e in
    let w = laws.whole_bytes info f a.bits a.fine in
    let at : q.at ≡ length a.bits = omega (arith, ap (λ (p : Place). p.at) a.place) in
    let total : 8 * length xs ≡ length a.bits + length a.next.rest = sym (length-bits_in xs) ∙ ap length a.next.whole ∙ length-append a.bits a.next.rest in
    let n = q.at / 8 in
    let le : n ≤ length xs = omega (arith, at, total) in
    let same : bits_in (take n xs) ≡ a.bits = ap (λ k. bits_in (take k xs)) (let s : n ≡ length a.bits / 8 = omega (arith, at) in s) ∙ front_bytes xs a.bits a.next.rest a.next.whole w in
    let next : Begins (start_of (take n xs)) a.bits = record { rest = []; whole = same ∙ sym (append-nil a.bits) } in
    let lt : length (take n xs) ≡ n = omega (arith, length-take n xs, le) in
    (le, frame_of_all info (take n xs) f (forward (length a.bits) (start_of (take n xs))) (omega (arith, lt, le, h)) (laws.whole info (take n xs) f a.bits a.fine next) (omega (arith, lt, at, w)))

take_within : (n m : ℕ) (xs : List ℕ) → n ≤ m → take n (take m xs) ≡ take n xs
take_within zero m xs h = refl
take_within (suc n) zero xs h = absurd (omega arith)
take_within (suc n) (suc m) [] h = refl
take_within (suc n) (suc m) (x ∷ xs) h = ap (λ (ys : List ℕ). x ∷ ys) (take_within n m xs (omega arith))

-- a frame in front of bytes is read in front of the first of them
in_front : (laws : FramesAreSpelled) (info : StreamInfo) (bytes : List ℕ) (m : ℕ) (f : FrameHeader × List ℤ) → m ≤ length bytes → frame_of info (take m bytes) ≡ Some f → (q : Place) × (frame_at info (start_of (take most bytes)) ≡ Some (f, q)) × (q.at ≡ 8 * m)
in_front laws info bytes m f h e =
    let c = long_cases info (take m bytes) f (ltb (length (take m bytes)) (2 ^ 61)) refl e in
    let lm : length (take m bytes) ≡ m = omega (arith, length-take m bytes) in
    let few : m ≤ most = omega (arith, lm, c.0) in
    let xs = take most bytes in
    let same : take m xs ≡ take m bytes = take_within m most bytes few in
    let g = grows laws info (take m bytes) (drop m xs) f e in
    let whole : take m bytes ++ drop m xs ≡ xs = ap (λ (z : List ℕ). z ++ drop m xs) (sym same) ∙ take-append-drop m xs in
    (g.0, subst (λ (z : List ℕ). frame_at info (start_of z) ≡ Some (f, g.0)) whole g.1, omega (arith, g.2, lm))

ends_cases : (laws : FramesAreSpelled) (info : StreamInfo) (bytes : List ℕ) (o : Option ((FrameHeader × List ℤ) × Place)) → frame_at info (start_of (take most bytes)) ≡ o → EndsAt info bytes (end_of o)
ends_cases laws info bytes None e = λ m f h k. let g = in_front laws info bytes m f h k in absurd (let a : Some (f, g.0) ≡ None = sym g.1 ∙ e in let n : ⊥ = cc in n)
ends_cases laws info bytes (Some x) e =
    let xs = take most bytes in
    let c = cuts laws info xs x.0 x.1 (omega (arith, length-take most bytes)) e in
    let le : x.1.at / 8 ≤ length bytes = omega (arith, c.0, length-take most bytes) in
    let few : x.1.at / 8 ≤ most = omega (arith, c.0, length-take most bytes) in (
      le,
      (x.0, ap (λ (z : List ℕ). frame_of info z) (sym (take_within (x.1.at / 8) most bytes few)) ∙ c.1),
      (λ m f h k.
          let g = in_front laws info bytes m f h k in
          let s = same_some (f, g.0) x (sym g.1 ∙ e) in
          omega (arith, g.2, ap (λ (z : (FrameHeader × List ℤ) × Place). z.1.at) s)),
    )

pub ends_once : (laws : FramesAreSpelled) (info : StreamInfo) (bytes : List ℕ) → EndsAt info bytes (end_of (frame_at info (start_of (take most bytes))))
ends_once laws info bytes = ends_cases laws info bytes (frame_at info (start_of (take most bytes))) refl

front_eq : (laws : FramesAreSpelled) (info : StreamInfo) (bytes : List ℕ) (x : (FrameHeader × List ℤ) × Place) → frame_at info (start_of (take most bytes)) ≡ Some x → frame_of info (take (x.1.at / 8) bytes) ≡ Some x.0
front_eq laws info bytes x e =
    let xs = take most bytes in
    let c = cuts laws info xs x.0 x.1 (omega (arith, length-take most bytes)) e in
    let few : x.1.at / 8 ≤ most = omega (arith, c.0, length-take most bytes) in
    ap (λ (z : List ℕ). frame_of info z) (sym (take_within (x.1.at / 8) most bytes few)) ∙ c.1

front_cases : (laws : FramesAreSpelled) (info : StreamInfo) (bytes : List ℕ) (o : Option ((FrameHeader × List ℤ) × Place)) → frame_at info (start_of (take most bytes)) ≡ o → IsFront info bytes (front_of o)
front_cases laws info bytes None e = ends_cases laws info bytes None e
front_cases laws info bytes (Some x) e = (ends_cases laws info bytes (Some x) e, (x.0, front_eq laws info bytes x e, refl))

-- the frame that is read at the start is the one in front
pub front_is : (laws : FramesAreSpelled) (info : StreamInfo) (bytes : List ℕ) → IsFront info bytes (front_of (frame_at info (start_of (take most bytes))))
front_is laws info bytes = front_cases laws info bytes (frame_at info (start_of (take most bytes))) refl

-- a frame is spelled by the bits of its bytes
pub is_spelled : (laws : FramesAreSpelled) (info : StreamInfo) (bytes : List ℕ) (f : FrameHeader × List ℤ) → frame_of info bytes ≡ Some f → (bits : List Bool) × IsFrame info f bits × (length bits ≡ 8 * length bytes)
is_spelled laws info bytes f e =
    let c = long_cases info bytes f (ltb (length bytes) (2 ^ 61)) refl e in
    let a = laws.sound info bytes c.1 f c.2 in
    (a.bits, a.fine, omega (arith, ap (λ (p : Place). p.at) a.place, c.3))

-- what is read at the start is the frame in front; where nothing is read, there is none
pub front_read : (laws : FramesAreSpelled) (info : StreamInfo) (bytes : List ℕ) (f : FrameHeader × List ℤ) (q : Place) → frame_at info (start_of (take most bytes)) ≡ Some (f, q)
    → EndsAt info bytes (Some (q.at / 8)) × (frame_of info (take (q.at / 8) bytes) ≡ Some f)
front_read laws info bytes f q e = (ends_cases laws info bytes (Some (f, q)) e, front_eq laws info bytes (f, q) e)

pub front_none : (laws : FramesAreSpelled) (info : StreamInfo) (bytes : List ℕ) → frame_at info (start_of (take most bytes)) ≡ None → EndsAt info bytes None
front_none laws info bytes e = ends_cases laws info bytes None e
