-- The names of a script in which nothing is at fault are words, and all differ.
use Rattle.std.proofs.Common.{ℕ, zero, suc, ◌≡◌, ◌<◌, Bool, true, false, List, [], ◌∷◌, ◌++◌, take, length, append_assoc, append-nil, Some, refl, ap, sym, ◌∙◌, arith}
use Rattle.std.specs.List.{list_all, list_any, slice_get}
use Rattle.std.specs.Prelude.{unwrap_or, option_map}
use Rattle.std.specs.Str.{bytes_eq}
use Rattle.std.proofs.lemmas.Bool.{or_parts}
use Rattle.std.proofs.Math.Seq.{take-length}
use Rattle.std.proofs.lemmas.Slice.Eq.{bytes_eq-Decides}
use Rattle.script_types.specs.declared.script.{CodecItem.CodecItem, CallerItem.CallerItem, ScriptData.ScriptData}
use Rattle.script_types.specs.Names.{is_name_byte, is_codec_name}
use Rattle.script_types.specs.Sound.{is_sound, is_sound_codec, is_sound_caller, are_sound_callers}
use Rattle.script_types.specs.SoundLaws.{parts_of, codec_at}
use Rattle.report_lines.specs.{Words.is_word_byte, Fits.AreNames}

-- ---- lists

-- the item with a number that is there
pub there : {X : Type 0} (xs : List X) (i : ℕ) → i < length xs → (x : X) × (slice_get xs i ≡ Some x)
there [] i lt = absurd (omega arith)
there (x ∷ xs) zero lt = (x, refl)
there (x ∷ xs) (suc i) lt = there xs i (omega arith)

none_before : {X : Type 0} (p : X → Bool) (xs : List X) (i j : ℕ) (x : X) → i < j → list_any p (take j xs) ≡ false → slice_get xs i ≡ Some x → p x ≡ false
none_before p (y ∷ ys) (suc i) (suc j) x lt h is = none_before p ys i j x (omega arith) (or_parts (p y) (list_any p (take j ys)) h).1 is
none_before p (y ∷ ys) zero (suc j) x lt h is = let same : y ≡ x = cc in ap p (sym same) ∙ (or_parts (p y) (list_any p (take j ys)) h).0
none_before p [] i j x lt h is = absurd cc
none_before p _ i zero x lt h is = absurd (omega arith)

-- an item among some that do not have this name has another
named_apart : {X : Type 0} (name : X → List ℕ) (xs : List X) (i j : ℕ) (x : X) (w : List ℕ) → i < j → slice_get xs i ≡ Some x → list_any (λ z. bytes_eq (name z) w) (take j xs) ≡ false → name x ≡ w → ⊥
named_apart name xs i j x w lt is new e = cc ((bytes_eq-Decides (name x) w).1 e, none_before (λ z. bytes_eq (name z) w) xs i j x lt new is)

-- ---- words

word_byte : (b : ℕ) → is_name_byte b ≡ true → is_word_byte b ≡ true
word_byte b h = grind (arith, h)

word_bytes : (w : List ℕ) → list_all is_name_byte w ≡ true → list_all is_word_byte w ≡ true
word_bytes [] h = refl
word_bytes (b ∷ w) h = grind (arith, word_byte b, word_bytes w, h)

-- ---- names

-- the name of the item with a number
abbrev name_at : {X : Type 0} → (X → List ℕ) → List X → ℕ → List ℕ
name_at name xs i = unwrap_or (option_map name (slice_get xs i)) []

-- what is known of it: it is a word, and none before has it
record IsNamed (X : Type 0) (name : X → List ℕ) (xs : List X) (i : ℕ) : Type 0 where
  item : X
  at : slice_get xs i ≡ Some item
  word : list_all is_word_byte (name item) ≡ true
  new : list_any (λ z. bytes_eq (name z) (name item)) (take i xs) ≡ false

names_differ : {X : Type 0} (name : X → List ℕ) (xs : List X) → ((i : ℕ) → i < length xs → IsNamed X name xs i) → (i j : ℕ) → i < length xs → j < length xs → name_at name xs i ≡ name_at name xs j → i ≡ j
names_differ name xs known i j p q e =
    let a = known i p in
    let b = known j q in
    let same : name a.item ≡ name b.item = rw (a.at, b.at) at e in
    grind (arith, named_apart name xs i j a.item (name b.item), named_apart name xs j i b.item (name a.item), a.at, b.at, a.new, b.new, same)

codec_word : (before : List CodecItem) (c : CodecItem) → is_sound_codec before c ≡ true → list_all is_word_byte c.name ≡ true
codec_word before c sound = word_bytes c.name (grind (arith, sound))

codec_new : (before : List CodecItem) (c : CodecItem) → is_sound_codec before c ≡ true → list_any (λ z. bytes_eq z.name c.name) before ≡ false
codec_new before c sound = grind (arith, sound)

codec_named : (s : ScriptData) → is_sound s ≡ true → (i : ℕ) → i < length s.codecs → IsNamed CodecItem (λ x. x.name) s.codecs i
codec_named s h i lt =
    let c = there s.codecs i lt in
    let sound = codec_at s i c.0 h c.1 in
    record { item = c.0; at = c.1; word = codec_word (take i s.codecs) c.0 sound; new = codec_new (take i s.codecs) c.0 sound }

caller_from : (codecs : List CodecItem) (before cs : List CallerItem) (i : ℕ) (c : CallerItem) → are_sound_callers codecs before cs ≡ true → slice_get cs i ≡ Some c → is_sound_caller codecs (before ++ take i cs) c ≡ true
caller_from codecs before (y ∷ ys) (suc i) c h is = rw (sym (append_assoc before (y ∷ []) (take i ys))) (caller_from codecs (before ++ y ∷ []) ys i c (grind (arith, h)) is)
caller_from codecs before _ i c h is = grind (arith, append-nil, h, is)

-- a caller's name is none of a codec's either
record IsCallerNamed (s : ScriptData) (i : ℕ) : Type 0 where
  named : IsNamed CallerItem (λ x. x.name) s.callers i
  apart : is_codec_name s.codecs named.item.name ≡ false

caller_named : (s : ScriptData) → is_sound s ≡ true → (i : ℕ) → i < length s.callers → IsCallerNamed s i
caller_named s h i lt =
    let c = there s.callers i lt in
    let sound = caller_from s.codecs [] s.callers i c.0 (parts_of s h).callers c.1 in
    record { named = record { item = c.0; at = c.1; word = word_bytes c.0.name (grind (arith, sound)); new = grind (arith, sound) }; apart = grind (arith, sound) }

pub sound_names : (s : ScriptData) → is_sound s ≡ true → AreNames s
sound_names s h = record {
  callers_differ = names_differ (λ (x : CallerItem). x.name) s.callers (λ i p. (caller_named s h i p).named);
  codecs_differ = names_differ (λ (x : CodecItem). x.name) s.codecs (codec_named s h);
  apart = λ i j p q e. (
      let a = caller_named s h i p in
      let b = codec_named s h j q in
      named_apart (λ (x : CodecItem). x.name) s.codecs j (length s.codecs) b.item a.named.item.name q b.at (rw take-length a.apart) (sym (rw (a.named.at, b.at) at e))
      );
  callers_are_words = λ i p. rw (caller_named s h i p).named.at (caller_named s h i p).named.word;
  codecs_are_words = λ i p. rw (codec_named s h i p).at (codec_named s h i p).word;
}
