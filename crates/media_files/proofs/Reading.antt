-- The files that were read, and those that are left.
use Rattle.std.proofs.Common.{ℕ, ◌≡◌, ◌+◌, ◌-◌, ◌<◌, ◌≤◌, inl, inr, List, [], ◌∷◌, ◌++◌, length, drop, take, get_or, append-nil, Option, Some, None, IfSome, Result, Ok, Err, refl, sym, subst, ◌∙◌, ap, arith}
use Rattle.std.specs.Prelude.{MatchOption}
use Rattle.std.proofs.lemmas.List.{append_assoc, drop_more, take_more, take_all, take-append-drop}
use Rattle.std.proofs.lemmas.Option.{slice_get_read}
use Rattle.wc_base.specs.Causes.{RoseBy}
use Rattle.wc_chunk.specs.declared.chunk.Chunk.{Chunk}
use Rattle.script_types.specs.declared.{fault.Counted.Counted, fault.Fault.Fault, script.ScriptData.ScriptData}
use Rattle.chunk_files.specs.declared.fault.Stop.{Stop}
use Rattle.media_files.specs.Media.{Answers, media_of, FileGives, FilesGive, IsReached, MayFail, MayFailAt}

abbrev pub Told : Type 0
Told = Option (List ℕ → Option (List ℕ))

-- the chunks that were read, before those that the rest gives
abbrev pub onto : List (List Chunk) → Answers → Answers
onto made (Ok media) = Ok (made ++ media)
onto made (Err e) = Err e

-- what the rest of the names gives decides what all give
abbrev ContinuesOn : Told → ℕ → List (List ℕ) → ℕ → List (List ℕ) → List (List Chunk) → Type 0
ContinuesOn content room names left rest made =
    (files : List ℕ → Option (List ℕ)) → content ≡ Some files → (answer : Answers) → FilesGive files left rest answer
    → FilesGive files room names (onto made answer)

-- the same of these names, with any others behind them
abbrev ContinuesFor : Told → ℕ → List (List ℕ) → ℕ → List (List Chunk) → Type 0
ContinuesFor content room front left made = (rest : List (List ℕ)) → ContinuesOn content room (front ++ rest) left rest made

abbrev pub Continues : Told → ℕ → List (List ℕ) → ℕ → ℕ → List (List Chunk) → Type 0
Continues content room names left n made = ContinuesFor content room (take n names) left made

-- of the names that are left
on_rest : (content : Told) (room : ℕ) (names : List (List ℕ)) (left n : ℕ) (made : List (List Chunk)) → Continues content room names left n made → ContinuesOn content room names left (drop n names) made
on_rest content room names left n made k = subst (λ l. ContinuesOn content room l left (drop n names) made) (take-append-drop n names) (k (drop n names))

-- where the content is told
pub told_of : (P : (List ℕ → Option (List ℕ)) → Type 0) (content : Told) → IfSome content P → (files : List ℕ → Option (List ℕ)) → content ≡ Some files → P files
told_of P content h files told = subst (λ o. IfSome o P) told h

pub if_told : (P : (List ℕ → Option (List ℕ)) → Type 0) (content : Told) → ((files : List ℕ → Option (List ℕ)) → content ≡ Some files → P files) → IfSome content P
if_told P None h = tt
if_told P (Some files) h = h files refl

goes_on_list : (content : Told) (room : ℕ) (names : List (List ℕ)) (left : ℕ) (name : List ℕ) (rest : List (List ℕ)) (made : List (List Chunk)) (chunks : List Chunk) (next : ℕ)
    → next ≡ left - media_of chunks → IfSome content (λ files. FileGives left name (files name) (Ok chunks))
    → ContinuesOn content room names left (name ∷ rest) made → ContinuesOn content room names next rest (made ++ chunks ∷ [])
goes_on_list content room names left name rest made chunks next is one k files told (Ok media) g =
    let f = told_of _ content one files told in
    let g' : FilesGive files (left - media_of chunks) rest (Ok media) = subst (λ m. FilesGive files m rest (Ok media)) is g in
    subst (λ l. FilesGive files room names (Ok l)) (sym (append_assoc made (chunks ∷ []) media)) (k files told (Ok (chunks ∷ media)) (f, g'))
goes_on_list content room names left name rest made chunks next is one k files told (Err e) g =
    let f = told_of _ content one files told in
    let g' : FilesGive files (left - media_of chunks) rest (Err e) = subst (λ m. FilesGive files m rest (Err e)) is g in
    k files told (Err e) (inr (chunks, f, g'))

next_file : (content : Told) (room : ℕ) (names : List (List ℕ)) (left n : ℕ) (name : List ℕ) (made : List (List Chunk)) → n < length names → name ≡ get_or names n name
    → Continues content room names left n made → ContinuesOn content room names left (name ∷ drop (n + 1) names) made
next_file content room names left n name made few is k =
    subst (λ x. ContinuesOn content room names left (x ∷ drop (n + 1) names) made) (sym is) (subst (λ r. ContinuesOn content room names left r made) (drop_more names n name few) (on_rest content room names left n made k))

one_more : (front : List (List ℕ)) (name : List ℕ) (rest : List (List ℕ)) → front ++ name ∷ rest ≡ (front ++ name ∷ []) ++ rest
one_more front name rest = sym (append_assoc front (name ∷ []) rest)

front_more : (names : List (List ℕ)) (n : ℕ) (name : List ℕ) → n < length names → name ≡ get_or names n name → take n names ++ name ∷ [] ≡ take (n + 1) names
front_more names n name few is = ap (λ x. take n names ++ x ∷ []) is ∙ sym (take_more names n name few)

pub goes_on : (content : Told) (room : ℕ) (names : List (List ℕ)) (left n : ℕ) (name : List ℕ) (made : List (List Chunk)) (chunks : List Chunk) (next : ℕ) → n < length names → name ≡ get_or names n name
    → next ≡ left - media_of chunks → IfSome content (λ files. FileGives left name (files name) (Ok chunks))
    → Continues content room names left n made → Continues content room names next (n + 1) (made ++ chunks ∷ [])
goes_on content room names left n name made chunks next few is so one k =
    subst (λ front. ContinuesFor content room front next (made ++ chunks ∷ [])) (front_more names n name few is)
    (λ rest. subst (λ l. ContinuesOn content room l next rest (made ++ chunks ∷ [])) (one_more (take n names) name rest)
    (goes_on_list content room (take n names ++ name ∷ rest) left name rest made chunks next so one (k (name ∷ rest))))

-- the files up to here gave these chunks
given_so_far : (content : Told) (room : ℕ) (names : List (List ℕ)) (left n : ℕ) (made : List (List Chunk)) → Continues content room names left n made → IfSome content (λ files. FilesGive files room (take n names) (Ok made))
given_so_far content room names left n made k = if_told _ content (λ files told.
    subst (λ l. FilesGive files room l (Ok made)) (append-nil (take n names)) (subst (λ l. FilesGive files room (take n names ++ []) (Ok l)) (append-nil made) (k [] files told (Ok []) refl)))

pub ends : (content : Told) (room : ℕ) (names : List (List ℕ)) (left n : ℕ) (made : List (List Chunk)) → length names ≤ n
    → Continues content room names left n made → IfSome content (λ files. FilesGive files room names (Ok made))
ends content room names left n made all k = subst (λ l. IfSome content (λ files. FilesGive files room l (Ok made))) (take_all n names all) (given_so_far content room names left n made k)

rose_since : (more a b c : ℕ) → a ≤ b → RoseBy more b c → RoseBy more a c
rose_since more a b c le h = omega arith

-- the fault of a file, as that of all
gives : (content : Told) (room : ℕ) (names : List (List ℕ)) (left : ℕ) (name : List ℕ) (rest : List (List ℕ)) (made : List (List Chunk)) (e : Stop Fault)
    → IfSome content (λ files. FileGives left name (files name) (Err e)) → ContinuesOn content room names left (name ∷ rest) made → IfSome content (λ files. FilesGive files room names (Err e))
gives content room names left name rest made e one k = if_told _ content (λ files told. k files told (Err e) (inl (told_of _ content one files told)))

long : (content : Told) (room : ℕ) (names : List (List ℕ)) (left : ℕ) (name : List ℕ) (rest : List (List ℕ)) (made : List (List Chunk)) (a b c : ℕ) → a ≤ b
    → MatchOption content (RoseBy 268435457 b c) (λ files. FileGives left name (files name) (Err (Stop.Fault (Fault.TooMany Counted.File)))) → ContinuesOn content room names left (name ∷ rest) made
    → MatchOption content (RoseBy 268435457 a c) (λ files. FilesGive files room names (Err (Stop.Fault (Fault.TooMany Counted.File))))
long None room names left name rest made a b c le h k = rose_since 268435457 a b c le h
long (Some files) room names left name rest made a b c le h k = k files refl (Err (Stop.Fault (Fault.TooMany Counted.File))) (inl h)

fails_at : (content : Told) (s : ScriptData) (left : ℕ) (name : List ℕ) (rest : List (List ℕ)) (made : List (List Chunk)) (fa fb fc ba bb bc : ℕ) (e : Stop Fault)
    → IsReached content s name → fa ≤ fb → ba ≤ bb → MayFailAt content left name fb fc bb bc e
    → ContinuesOn content (268435456 - s.inline) s.chunk_files left (name ∷ rest) made → MayFail content s fa fc ba bc e
fails_at content s left name rest made fa fb fc ba bb bc Stop.NoMemory there le le' h k = tt
fails_at content s left name rest made fa fb fc ba bb bc (Stop.Fault (Fault.Unread x)) there le le' (is, rose) k =
    (subst (λ m. IsReached content s m) (sym is) there, rose_since 1 fa fb fc le rose)
fails_at content s left name rest made fa fb fc ba bb bc (Stop.Fault (Fault.TooMany Counted.File)) there le le' h k = long content _ s.chunk_files left name rest made ba bb bc le' h k
fails_at content s left name rest made fa fb fc ba bb bc (Stop.Fault (Fault.Chunks x e)) there le le' h k = gives content _ s.chunk_files left name rest made _ h k
fails_at content s left name rest made fa fb fc ba bb bc (Stop.Fault (Fault.TooMany Counted.Chunk)) there le le' h k = gives content _ s.chunk_files left name rest made _ h k
fails_at content s left name rest made fa fb fc ba bb bc (Stop.Fault (Fault.TooMany Counted.Media)) there le le' h k = gives content _ s.chunk_files left name rest made _ h k
fails_at content s left name rest made fa fb fc ba bb bc e there le le' h k = elim h [ ]

pub fails : (content : Told) (s : ScriptData) (left n : ℕ) (name : List ℕ) (made : List (List Chunk)) (fa fb fc ba bb bc : ℕ) (e : Stop Fault)
    → n < length s.chunk_files → name ≡ get_or s.chunk_files n name → fa ≤ fb → ba ≤ bb → MayFailAt content left name fb fc bb bc e
    → Continues content (268435456 - s.inline) s.chunk_files left n made → MayFail content s fa fc ba bc e
fails content s left n name made fa fb fc ba bb bc e few is le le' h k =
    fails_at content s left name (drop (n + 1) s.chunk_files) made fa fb fc ba bb bc e
    (record {
      number = n;
      is_name = slice_get_read s.chunk_files (length s.chunk_files) n name refl few is;
      before = (if_told _ content (λ files told. (made, told_of _ content (given_so_far content (268435456 - s.inline) s.chunk_files left n made k) files told)));
    })
    le le' h (next_file content (268435456 - s.inline) s.chunk_files left n name made few is k)
