-- That each step of a load's caller is sound after those before it.
use Rattle.std.proofs.Common.{ℕ, zero, suc, ◌≡◌, ◌+◌, ◌<◌, ◌≤◌, Bool, true, false, not, List, [], ◌∷◌, ◌++◌, length, length-append, Some, refl, sym, ap, ◌∙◌, arith}
use Rattle.std.specs.List.{list_any, position, slice_get}
use Rattle.std.proofs.lemmas.Bool.{and_from, eq-eqb}
use Rattle.std.proofs.lemmas.Slice.Eq.{bytes_eq-Decides}
use Rattle.script_types.specs.declared.script.CodecItem.{CodecItem}
use Rattle.script_types.specs.declared.steps.Step.{Step}
use Rattle.script_types.specs.declared.steps.Step.TheVariants as step
use Rattle.script_types.specs.declared.steps.VariableKind.{VariableKind}
use Rattle.script_types.specs.declared.steps.VariableKind.TheVariants as holds
use Rattle.script_types.specs.Names.{decodes as decodes_kind, variable_named, defines, binds, is_bound_as, is_chunk, is_promise}
use Rattle.script_types.specs.Sound.{is_codec, any_kind, gives, is_found, is_variable, is_free, same_kind, are_sound_steps}
use Rattle.load_script.specs.Draws.{state_after}
use Rattle.load_script.specs.Script.{name_of, variable, maker, makes, decodes, chunk_steps, takes, take_steps, flush_steps}
use Rattle.load_script.proofs.Names.{is_name_of, AreFresh, fresh_next, nothing, own_name}

-- ---- a variable that the step just before defines

last_place : (p : Step → Bool) (before : List Step) (x : Step) → list_any p before ≡ false → p x ≡ true → position p (before ++ x ∷ []) ≡ Some (length before)
last_place p [] x none is = grind (arith, is)
last_place p (y ∷ ys) x none is = grind (arith, none, last_place p ys x)

last_step : (before : List Step) (x : Step) → slice_get (before ++ x ∷ []) (length before) ≡ Some x
last_step [] x = refl
last_step (y ∷ ys) x = last_step ys x

kind_same : (k : VariableKind) → same_kind k k ≡ true
kind_same holds.Chunk = refl
kind_same holds.Audio = refl
kind_same holds.Frame = refl
kind_same holds.Promise = refl
kind_same holds.Buffer = refl

found_last : (before : List Step) (x : Step) (kind : VariableKind) → AreFresh before → length before < 100000 → binds x ≡ Some (name_of (length before), kind)
    → variable_named (before ++ x ∷ []) (name_of (length before)) ≡ Some (record { step = length before; kind = kind })
found_last before x kind fresh few is =
    let own : defines (name_of (length before)) x ≡ true = ap (is_bound_as (name_of (length before))) is ∙ (bytes_eq-Decides (name_of (length before)) (name_of (length before))).1 refl in
    let there : position (λ s. defines (name_of (length before)) s) (before ++ x ∷ []) ≡ Some (length before) =
    last_place (λ s. defines (name_of (length before)) s) before x (fresh.later (length before) (omega arith) few) own in
    rw (there, last_step before x, is) refl

variable_there : (before : List Step) (x : Step) (kind : VariableKind) (right : VariableKind → Bool) → AreFresh before → length before < 100000
    → binds x ≡ Some (name_of (length before), kind) → right kind ≡ true → is_variable (before ++ x ∷ []) right (variable (length before) kind) ≡ true
variable_there before x kind right fresh few is good =
    and_from _ _ (ap (is_found (variable (length before) kind)) (found_last before x kind fresh few is) ∙ and_from _ _ (eq-eqb (length before) (length before) refl) (kind_same kind)) good

free_there : (before : List Step) → AreFresh before → length before < 100000 → is_free before (name_of (length before)) ≡ true
free_there before fresh few = and_from _ _ (is_name_of (length before) few) (ap not (fresh.later (length before) (omega arith) few))

longer : (before : List Step) (x : Step) → length (before ++ x ∷ []) ≡ length before + 1
longer before x = omega (arith, length-append before (x ∷ []))

-- ---- the steps of a caller, each behind those before it

-- all that may stand before, of this length, is followed by sound steps
abbrev pub Follow : List CodecItem → ℕ → List Step → Type 0
Follow codecs place rest = (before : List Step) → AreFresh before → length before ≡ place → are_sound_steps codecs before rest ≡ true

sound_chunk : (codecs : List CodecItem) (on chunk x place : ℕ) (rest before : List Step) → is_codec codecs decodes_kind on ≡ true → chunk ≤ 5000
    → Follow codecs (maker (suc chunk)) rest → AreFresh before → length before ≡ maker chunk → are_sound_steps codecs before (makes chunk x ∷ decodes on chunk ∷ rest) ≡ true
sound_chunk codecs on chunk x place rest before is few follow fresh len =
    let small : length before < 100000 = omega (arith, len, few) in
    let made : binds (makes chunk x) ≡ Some (name_of (length before), holds.Chunk) = ap (λ (k : ℕ). Some (name_of k, holds.Chunk)) (sym len) in
    let free : is_free before (name_of (maker chunk)) ≡ true = ap (λ k. is_free before (name_of k)) (sym len) ∙ free_there before fresh small in
    let there : is_variable (before ++ makes chunk x ∷ []) is_chunk (variable (maker chunk) holds.Chunk) ≡ true =
    ap (λ k. is_variable (before ++ makes chunk x ∷ []) is_chunk (variable k holds.Chunk)) (sym len) ∙ variable_there before (makes chunk x) holds.Chunk is_chunk fresh small made refl in
    let next : AreFresh (before ++ makes chunk x ∷ []) = fresh_next before (makes chunk x) fresh (own_name holds.Chunk made) in
    let most : AreFresh ((before ++ makes chunk x ∷ []) ++ decodes on chunk ∷ []) = fresh_next (before ++ makes chunk x ∷ []) (decodes on chunk) next (nothing refl) in
    and_from _ _ free (and_from _ _ (and_from _ _ is there)
    (follow _ most (longer (before ++ makes chunk x ∷ []) (decodes on chunk) ∙ (ap (λ k. k + 1) (longer before (makes chunk x)) ∙ omega (arith, len)))))

pub sound_chunks : (codecs : List CodecItem) (on n chunk x : ℕ) (rest : List Step) → is_codec codecs decodes_kind on ≡ true → chunk + n ≤ 5000
    → Follow codecs (maker (chunk + n)) rest → Follow codecs (maker chunk) (chunk_steps on n chunk x ++ rest)
unfolding chunk_steps
sound_chunks codecs on zero chunk x rest is few follow before fresh len = follow before fresh (len ∙ omega arith)
sound_chunks codecs on (suc n) chunk x rest is few follow before fresh len =
    sound_chunk codecs on chunk x 0 (chunk_steps on n (suc chunk) (state_after 160 x) ++ rest) before is (omega (arith, few))
    (sound_chunks codecs on n (suc chunk) (state_after 160 x) rest is (omega (arith, few)) (λ b f l. follow b f (l ∙ omega arith))) fresh len

pub sound_takes : (codecs : List CodecItem) (on n place : ℕ) → is_codec codecs (gives holds.Audio) on ≡ true → place + n ≤ 99999
    → Follow codecs place (take_steps on n place)
unfolding take_steps
sound_takes codecs on zero place is few before fresh len = refl
sound_takes codecs on (suc n) place is few before fresh len =
    let small : length before < 100000 = omega (arith, len, few) in
    let free : is_free before (name_of place) ≡ true = ap (λ k. is_free before (name_of k)) (sym len) ∙ free_there before fresh small in
    let made : binds (takes on place) ≡ Some (name_of (length before), holds.Audio) = ap (λ (k : ℕ). Some (name_of k, holds.Audio)) (sym len) in
    and_from _ _ (and_from _ _ is free)
    (sound_takes codecs on n (suc place) is (omega (arith, few)) (before ++ takes on place ∷ []) (fresh_next before (takes on place) fresh (own_name holds.Audio made)) (longer before (takes on place) ∙ omega (arith, len)))

pub sound_flush : (codecs : List CodecItem) (on place : ℕ) (rest : List Step) → is_codec codecs any_kind on ≡ true → place ≤ 99990
    → Follow codecs (place + 2) rest → Follow codecs place (flush_steps on place ++ rest)
sound_flush codecs on place rest is few follow before fresh len =
    let small : length before < 100000 = omega (arith, len, few) in
    let flush : Step = step.Flush on (name_of place) in
    let wait : Step = step.Await (variable place holds.Promise) in
    let made : binds flush ≡ Some (name_of (length before), holds.Promise) = ap (λ (k : ℕ). Some (name_of k, holds.Promise)) (sym len) in
    let free : is_free before (name_of place) ≡ true = ap (λ k. is_free before (name_of k)) (sym len) ∙ free_there before fresh small in
    let there : is_variable (before ++ flush ∷ []) is_promise (variable place holds.Promise) ≡ true =
    ap (λ k. is_variable (before ++ flush ∷ []) is_promise (variable k holds.Promise)) (sym len) ∙ variable_there before flush holds.Promise is_promise fresh small made refl in
    let next : AreFresh (before ++ flush ∷ []) = fresh_next before flush fresh (own_name holds.Promise made) in
    let most : AreFresh ((before ++ flush ∷ []) ++ wait ∷ []) = fresh_next (before ++ flush ∷ []) wait next (nothing refl) in
    and_from _ _ (and_from _ _ is free) (and_from _ _ there
    (follow _ most (longer (before ++ flush ∷ []) wait ∙ (ap (λ k. k + 1) (longer before flush) ∙ omega (arith, len)))))
