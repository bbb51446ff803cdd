-- What holds of the file that the words name.
use Rattle.std.proofs.Common.{◌≡◌, ◌≤◌, ℕ, List, Option, Some, None, IfSome, refl, subst, arith}
use Rattle.std.specs.Prelude.{IsSomeAnd, MatchOption}
use Rattle.wc_base.specs.Causes.{RoseBy}
use Rattle.wcrun.specs.Headline.{Reading, Holding, IfFile}
use Rattle.wcrun.specs.Words.{Command}

pub if_some : (T : Type 0) (P : T → Type 0) (o : Option T) → ((t : T) → o ≡ Some t → P t) → IfSome o P
if_some T P None h = tt
if_some T P (Some t) h = h t refl

pub of_told : {T : Type 0} (P : Type 0) (Q : T → Type 0) (o : Option T) (t : T) → MatchOption o P Q → o ≡ Some t → Q t
of_told P Q o t h is = subst (λ x. MatchOption x P Q) is h

pub of_there : {T : Type 0} (Q : T → Type 0) (o : Option T) (t : T) → IsSomeAnd o Q → o ≡ Some t → Q t
of_there Q o t h is = subst (λ x. IsSomeAnd x Q) is h

-- what follows where the files tell, and where a file is there
pub told_more : {T : Type 0} (P : Type 0) (Q R : T → Type 0) (o : Option T) → ((t : T) → Q t → R t) → MatchOption o P Q → MatchOption o P R
told_more P Q R None f h = h
told_more P Q R (Some t) f h = f t h

pub there_more : {T : Type 0} (Q R : T → Type 0) (o : Option T) → ((t : T) → Q t → R t) → IsSomeAnd o Q → IsSomeAnd o R
there_more Q R None f h = h
there_more Q R (Some t) f h = f t h

pub if_file : (r : Reading) (P : Command → Holding → List ℕ → Type 0) → ((c : Command) (files : Holding) (bytes : List ℕ) → r.command ≡ Some c → r.content ≡ Some files → files c.file ≡ Some bytes → P c files bytes) → IfFile r P
if_file r P h =
    if_some Command _ r.command (λ c is. if_some Holding _ r.content (λ files holds. if_some (List ℕ) (P c files) (files c.file) (λ bytes there. h c files bytes is holds there)))

pub of_file : (r : Reading) (N : Type 0) (P : Command → Holding → List ℕ → Type 0) (c : Command) (files : Holding) (bytes : List ℕ) → IsSomeAnd r.command (λ c. MatchOption r.content N (λ files. IsSomeAnd (files c.file) (P c files)))
    → r.command ≡ Some c → r.content ≡ Some files → files c.file ≡ Some bytes → P c files bytes
of_file r N P c files bytes h is holds there = of_there (P c files) (files c.file) bytes (of_told N _ r.content files (of_there _ r.command c h is) holds) there

-- counts that rose later rose since an earlier moment
pub rose_since : (more a b c : ℕ) → a ≤ b → RoseBy more b c → RoseBy more a c
rose_since more a b c le h = omega arith
