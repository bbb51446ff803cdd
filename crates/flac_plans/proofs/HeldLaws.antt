-- Bits that are held before they are written.
use Rattle.std.proofs.Common.{ℕ, ◌≡◌, ◌<◌, ◌≤◌, ◌+◌, ◌*◌, ◌/◌, ◌%◌, ◌^◌, bit_or, Bool, List, [], ◌++◌, ap, sym, subst, ◌∙◌, append_assoc, append-nil, arith, lit<}
use Rattle.std.specs.List.{flat_map}
use Rattle.std.proofs.Math.Nat.{pow-le-pow_right, mul-le-mul_right}
use Rattle.std.proofs.lemmas.Nat.{pow-add, shl_whole, or_shifted}
use Rattle.flac_definitions.specs.Bits.{bits_of}
use Rattle.flac_write.specs.Writer.{IsBegun}
use Rattle.flac_write.specs.WriterLaws.{bits_cat, nothing_begun, begun_first, begun_then, begun_as}
use Rattle.flac_definitions.specs.ResidualWriting.{rice_bits}
use Rattle.flac_plans.proofs.Spelled.{rice_short}
use Rattle.flac_plans.specs.Held.{IsHeld, IsHeldWord}
use Rattle.flac_plans.specs.declared.residual.Held.{Held}

-- nothing written, all held
pub all_held : (before bits : List Bool) (held : Held) → bits ≡ bits_of held.count held.word → IsHeld before bits before held
all_held before bits held e = record { front = []; whole = e; kept = sym (append-nil before) }

-- written, and the rest held
pub held_behind : (before front bits after : List Bool) (held : Held) → after ≡ before ++ front → bits ≡ front ++ bits_of held.count held.word → IsHeld before bits after held
held_behind before front bits after held k w = record { front = front; whole = w; kept = k }

-- one behind another
pub held_then : (before a b middle after : List Bool) (held more : Held) → IsHeld before a middle held → IsHeld middle (bits_of held.count held.word ++ b) after more → IsHeld before (a ++ b) after more
held_then before a b middle after held more h k = record {
  front = h.front ++ k.front;
  whole = ap (λ (l : List Bool). l ++ b) h.whole ∙ (append_assoc h.front (bits_of held.count held.word) b ∙ (ap (λ (l : List Bool). h.front ++ l) k.whole ∙ sym (append_assoc h.front k.front (bits_of more.count more.word))));
  kept = k.kept ∙ (ap (λ (l : List Bool). l ++ k.front) h.kept ∙ append_assoc before h.front k.front);
}

-- all of them, where what is held is written at last
pub held_written : (before bits now after : List Bool) (held : Held) → IsHeld before bits now held → after ≡ now ++ bits_of held.count held.word → after ≡ before ++ bits
held_written before bits now after held h e =
    e ∙ (ap (λ (l : List Bool). l ++ bits_of held.count held.word) h.kept ∙ (append_assoc before h.front (bits_of held.count held.word) ∙ ap (λ (l : List Bool). before ++ l) (sym h.whole)))

-- a want of memory
pub held_begun : (before a b middle after : List Bool) (held : Held) → IsHeld before a middle held → IsBegun middle (bits_of held.count held.word ++ b) after → IsBegun before (a ++ b) after
held_begun before a b middle after held h k =
    let same : h.front ++ (bits_of held.count held.word ++ b) ≡ a ++ b = sym (append_assoc h.front (bits_of held.count held.word) b) ∙ ap (λ (l : List Bool). l ++ b) (sym h.whole) in
    begun_as before (h.front ++ (bits_of held.count held.word ++ b)) (a ++ b) after same (begun_then before h.front (bits_of held.count held.word ++ b) middle after h.kept k)

pub held_lost : (before bits middle after : List Bool) (held : Held) → IsHeld before bits middle held → after ≡ middle → IsBegun before bits after
held_lost before bits middle after held h e = record { front = h.front; back = bits_of held.count held.word; whole = h.whole; kept = e ∙ h.kept }

-- values so far, one more
pub held_more : {A : Type 0} (f : A → List Bool) (before head now next got : List Bool) (ys zs : List A) (x : A) (held more : Held) → flat_map f zs ≡ flat_map f ys ++ f x → got ≡ f x
    → IsHeld before (head ++ flat_map f ys) now held → IsHeld now (bits_of held.count held.word ++ got) next more → IsHeld before (head ++ flat_map f zs) next more
held_more f before head now next got ys zs x held more list is h k =
    let whole : (head ++ flat_map f ys) ++ got ≡ head ++ flat_map f zs = append_assoc head (flat_map f ys) got ∙ ap (λ (l : List Bool). head ++ l) (ap (λ (l : List Bool). flat_map f ys ++ l) is ∙ sym list) in
    subst (λ (l : List Bool). IsHeld before l next more) whole (held_then before (head ++ flat_map f ys) got now next held more h k)

-- a want of memory in one of them
pub held_each : {A : Type 0} (f : A → List Bool) (before head now after got : List Bool) (ys xs : List A) (x : A) (rest : List Bool) (held : Held) → flat_map f xs ≡ flat_map f ys ++ (f x ++ rest) → got ≡ f x
    → IsHeld before (head ++ flat_map f ys) now held → IsBegun now (bits_of held.count held.word ++ got) after → IsBegun before (head ++ flat_map f xs) after
held_each f before head now after got ys xs x rest held list is h k =
    let part : IsBegun before ((head ++ flat_map f ys) ++ got) after = held_begun before (head ++ flat_map f ys) got now after held h k in
    let whole : ((head ++ flat_map f ys) ++ got) ++ rest ≡ head ++ flat_map f xs =
    append_assoc (head ++ flat_map f ys) got rest ∙ (append_assoc head (flat_map f ys) (got ++ rest) ∙ ap (λ (l : List Bool). head ++ l) (ap (λ (l : List Bool). flat_map f ys ++ (l ++ rest)) is ∙ sym list)) in
    begun_as before (((head ++ flat_map f ys) ++ got) ++ rest) (head ++ flat_map f xs) after whole (begun_first before ((head ++ flat_map f ys) ++ got) rest after part)

-- ---- a number of some bits, and more bits behind it

joined_value : (last used n v : ℕ) → last < 2 ^ used → used + n ≤ 63 → v < 2 ^ n → bit_or (last * 2 ^ n % 2 ^ 64) v ≡ last * 2 ^ n + v
joined_value last used n v small room fits = ap (λ (x : ℕ). bit_or x v) (shl_whole last used n 64 small (omega (arith, room))) ∙ or_shifted last n v fits

pub joined_bits : (held : Held) (n v : ℕ) → IsHeldWord held → held.count + n ≤ 63 → v < 2 ^ n → bits_of (held.count + n) (bit_or (held.word * 2 ^ n % 2 ^ 64) v) ≡ bits_of held.count held.word ++ bits_of n v
joined_bits held n v h room fits = ap (bits_of (held.count + n)) (joined_value held.word held.count n v h.small room fits) ∙ bits_cat held.count n held.word v fits

pub joined_word : (held : Held) (n v : ℕ) → IsHeldWord held → held.count + n ≤ 63 → v < 2 ^ n → IsHeldWord (record { word = bit_or (held.word * 2 ^ n % 2 ^ 64) v; count = held.count + n })
joined_word held n v h room fits =
    let up : (held.word + 1) * 2 ^ n ≤ 2 ^ held.count * 2 ^ n = mul-le-mul_right (2 ^ n) (omega (arith, h.small)) in
    record {
      short = room;
      small = omega (arith, joined_value held.word held.count n v h.small room fits, up, fits, pow-add 2 held.count n);
    }

-- what was held is written, and more is held behind it
pub written_held : (before a b middle after : List Bool) (more : Held) → middle ≡ before ++ a → IsHeld middle b after more → IsHeld before (a ++ b) after more
written_held before a b middle after more e h = record {
  front = a ++ h.front;
  whole = ap (λ (l : List Bool). a ++ l) h.whole ∙ sym (append_assoc a h.front (bits_of more.count more.word));
  kept = h.kept ∙ (ap (λ (l : List Bool). l ++ h.front) e ∙ append_assoc before a h.front);
}

-- a want of memory before it is written, and behind it
pub not_written : (before a b after : List Bool) → after ≡ before → IsBegun before (a ++ b) after
not_written before a b after e = nothing_begun before (a ++ b) after e

pub written_begun : (before a b middle after : List Bool) → middle ≡ before ++ a → IsBegun middle b after → IsBegun before (a ++ b) after
written_begun = begun_then

pub rice_held : (k z count tail : ℕ) → count ≡ z / 2 ^ k + (k + 1) → tail ≡ 2 ^ k + z % 2 ^ k → bits_of count tail ≡ rice_bits k z
rice_held k z count tail e f =
    let n : count ≡ z / 2 ^ k + k + 1 = omega (arith, e) in
    ap (λ (m : ℕ). bits_of m tail) n ∙ (ap (bits_of (z / 2 ^ k + k + 1)) f ∙ rice_short k z)

pub rice_fits : (k z count tail : ℕ) → count ≡ z / 2 ^ k + (k + 1) → tail < 2 ^ (k + 1) → tail < 2 ^ count
rice_fits k z count tail e small = (let up : 2 ^ (k + 1) ≤ 2 ^ count = pow-le-pow_right (lit< tt) (omega (arith, e)) in omega (arith, up, small))
