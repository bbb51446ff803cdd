-- The bytes before a mark, a prefix, a word, a name (our choice: fields are read from the front, each up to one byte that
-- ends it).
use Rattle.std.specs.Prelude.{ℕ, Bool, List, [], ◌∷◌, Option, Some, None, nat_le, ◌==◌, if◌then◌else◌, ◌&&◌, ◌||◌}

-- the one, and then what the other makes of it
infixl 10 ◌>>=◌
abbrev pub ◌>>=◌ : {A B : Type 0} → Option A → (A → Option B) → Option B
None >>= f = None
(Some x) >>= f = f x

-- the bytes before the first mark, and those behind it
abbrev pub upto : ℕ → List ℕ → Option (List ℕ × List ℕ)
upto mark [] = None
upto mark (b ∷ bs) = if b == mark then Some ([], bs) else (upto mark bs >>= λ x. Some (b ∷ x.0, x.1))

-- the bytes behind a prefix
abbrev pub after : List ℕ → List ℕ → Option (List ℕ)
after [] bs = Some bs
after (p ∷ ps) [] = None
after (p ∷ ps) (b ∷ bs) = if b == p then after ps bs else None

-- a letter, a digit, `_` or `-`
abbrev pub is_word_byte : ℕ → Bool
is_word_byte b = (nat_le 97 b && nat_le b 122) || (nat_le 48 b && nat_le b 57) || (nat_le 65 b && nat_le b 90) || b == 95 || b == 45

-- the longest word in front, maybe empty, the byte that ends it, and the bytes behind that
abbrev pub word_at : List ℕ → Option (List ℕ × ℕ × List ℕ)
word_at [] = None
word_at (b ∷ bs) = if is_word_byte b then (word_at bs >>= λ x. Some (b ∷ x.0, x.1, x.2)) else Some ([], b, bs)
