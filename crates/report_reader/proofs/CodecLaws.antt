-- Codec strings and the codecs that they name.
use Rattle.std.proofs.Common.{arith, ◌≡◌, Bool, true, false, cond, List, [], ◌∷◌, ℕ, Option, Some, None, is_some, refl, ap, sym, ◌∙◌}
use Rattle.std.specs.Str.{bytes_eq}
use Rattle.std.proofs.lemmas.Slice.Eq.{bytes_eq-Decides}
use Rattle.wc_config.specs.declared.codec.CodecId.{CodecId}
use Rattle.codec_follow.specs.Outputs.{is_codec_string}
use Rattle.report_text.specs.Words.{codec_text}
use Rattle.script_types.specs.Names.{first_named}
use Rattle.report_lines.specs.Vocabulary.{codec_id_of}

first_by : {X : Type 0} (text : X → List ℕ) (y : X) (w : List ℕ) (x : X) (rest : Option X) → (rest ≡ Some x → text x ≡ w)
    → (q : Bool) → bytes_eq w (text y) ≡ q → cond q (Some y) rest ≡ Some x → text x ≡ w
first_by text y w x rest later true e h = let same : y ≡ x = cc in ap text (sym same) ∙ sym ((bytes_eq-Decides w (text y)).0 e)
first_by text y w x rest later false e h = later h

-- what the first of some values with this word is written by
first_is : {X : Type 0} (text : X → List ℕ) (xs : List X) (w : List ℕ) (x : X) → first_named text xs w ≡ Some x → text x ≡ w
first_is text [] w x h = absurd cc
first_is text (y ∷ ys) w x h = first_by text y w x (first_named text ys w) (first_is text ys w x) (bytes_eq w (text y)) refl h

-- a string names a codec where it is that of one of either list
named : (w : List ℕ) → is_some (codec_id_of w) ≡ is_codec_string w
named w = grind arith

pub string_none : (w : List ℕ) → codec_id_of w ≡ None → is_codec_string w ≡ false
string_none w h = sym (named w) ∙ ap (λ (o : Option CodecId). is_some o) h

pub string_some : (w : List ℕ) (id : CodecId) → codec_id_of w ≡ Some id → (is_codec_string w ≡ true) × (codec_text id ≡ w)
string_some w id h = (sym (named w) ∙ ap (λ (o : Option CodecId). is_some o) h, search (first_is codec_text))
