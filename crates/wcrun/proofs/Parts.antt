-- What a sink tells after one text and another.
use Rattle.std.proofs.Common.{◌≡◌, ℕ, List, [], ◌++◌, Option, Some, None, refl, sym, ap, ◌∙◌, append_assoc, append-nil}
use Rattle.wc_base.specs.Told.{appended, AppendsPart}

told_nothing : (told : Option (List ℕ)) → told ≡ appended told []
told_nothing None = refl
told_nothing (Some bytes) = ap Some (sym (append-nil bytes))

told_both : (told : Option (List ℕ)) (a b : List ℕ) → appended (appended told a) b ≡ appended told (a ++ b)
told_both None a b = refl
told_both (Some bytes) a b = ap Some (append_assoc bytes a b)

-- one text, and then another
pub one_after_another : (old mid new : Option (List ℕ)) (a b : List ℕ) → mid ≡ appended old a → new ≡ appended mid b → new ≡ appended old (a ++ b)
one_after_another old mid new a b p q = q ∙ (ap (λ (o : Option (List ℕ)). appended o b) p ∙ told_both old a b)

-- nothing yet is a beginning
pub nothing_yet : (old : Option (List ℕ)) (text : List ℕ) → AppendsPart old text old
nothing_yet old text = record { part = []; rest = text; whole = refl; told = told_nothing old }

-- a text, and then a beginning of another
pub then_a_part : (old mid : Option (List ℕ)) (a b : List ℕ) (new : Option (List ℕ)) → mid ≡ appended old a → AppendsPart mid b new → AppendsPart old (a ++ b) new
then_a_part old mid a b new e p = record {
  part = a ++ p.part;
  rest = p.rest;
  whole = append_assoc a p.part p.rest ∙ ap (λ x. a ++ x) p.whole;
  told = one_after_another old mid new a p.part e p.told;
}
