-- A text that is written line by line.
use Rattle.std.proofs.Common.{◌≡◌, ℕ, List, [], ◌++◌, Option, Some, None, refl, sym, ap, subst, ◌∙◌, append_assoc, append-nil}
use Rattle.wc_base.specs.Told.{appended, AppendsPart}

-- nothing is appended
appended-nil : (told : Option (List ℕ)) → told ≡ appended told []
appended-nil None = refl
appended-nil (Some bytes) = ap Some (sym (append-nil bytes))

appended-append : (told : Option (List ℕ)) (a b : List ℕ) → appended (appended told a) b ≡ appended told (a ++ b)
appended-append None a b = refl
appended-append (Some bytes) a b = ap Some (append_assoc bytes a b)

-- the whole is a beginning
pub part_whole : (old : Option (List ℕ)) (text : List ℕ) (new : Option (List ℕ)) → new ≡ appended old text → AppendsPart old text new
part_whole old text new e = record { part = text; rest = []; whole = append-nil text; told = e }

-- some front of the text was appended, and this is left of it
pub record IsSoFar (old : Option (List ℕ)) (text left : List ℕ) (new : Option (List ℕ)) : Type 0 where
  pub front : List ℕ
  pub whole : front ++ left ≡ text
  pub told : new ≡ appended old front

-- nothing yet
pub so_far_start : (old : Option (List ℕ)) (text : List ℕ) → IsSoFar old text text old
so_far_start old text = record { front = []; whole = refl; told = appended-nil old }

-- the next line stands first in what is left
pub next_piece : (old new : Option (List ℕ)) (text left more : List ℕ) → left ≡ more → IsSoFar old text left new → IsSoFar old text more new
next_piece old new text left more e s = subst (λ rest. IsSoFar old text rest new) e s

-- one more line
pub so_far_more : (old mid new : Option (List ℕ)) (text piece left : List ℕ) → IsSoFar old text (piece ++ left) mid → new ≡ appended mid piece → IsSoFar old text left new
so_far_more old mid new text piece left s e = record {
  front = s.front ++ piece;
  whole = append_assoc s.front piece left ∙ s.whole;
  told = rw (e, s.told) (appended-append old s.front piece);
}

-- all
pub so_far_end : (old new : Option (List ℕ)) (text : List ℕ) → IsSoFar old text [] new → new ≡ appended old text
so_far_end old new text s = s.told ∙ ap (appended old) (sym (append-nil s.front) ∙ s.whole)

-- a beginning
pub so_far_is_part : (old new : Option (List ℕ)) (text left : List ℕ) → IsSoFar old text left new → AppendsPart old text new
so_far_is_part old new text left s = record { part = s.front; rest = left; whole = s.whole; told = s.told }

-- a beginning of the next line
pub so_far_part : (old mid new : Option (List ℕ)) (text piece left : List ℕ) → IsSoFar old text (piece ++ left) mid → AppendsPart mid piece new → AppendsPart old text new
so_far_part old mid new text piece left s p = record {
  part = s.front ++ p.part;
  rest = p.rest ++ left;
  whole = rw (append_assoc, sym (append_assoc p.part p.rest left), p.whole) s.whole;
  told = rw (p.told, s.told) (appended-append old s.front p.part);
}

pub ruleset so_far = (next_piece, so_far_start, so_far_end, so_far_more, so_far_is_part, so_far_part, part_whole)
