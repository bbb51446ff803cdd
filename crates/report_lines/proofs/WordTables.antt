-- Each word of a report is a word, and tells what it was written for.
use Rattle.std.proofs.Common.{arith, ◌≡◌, true, List, ℕ, Option, Some, None, refl}
use Rattle.std.specs.List.{list_all}
use Rattle.wc_base.specs.declared.error.DomError.{DomError}
use Rattle.report_text.specs.Words.{error_name, answer_text, state_text, sample_format_text, picture_format_text, codec_text, role_text, chunk_type_text, call_word}
use Rattle.report_text.specs.Text.{last_text}
use Rattle.script_types.specs.Names.{ground_text, ground_named, kind_text, kind_named}
use Rattle.report_lines.specs.Words.{is_word_byte}
use Rattle.report_lines.specs.Vocabulary.{error_of, answer_of, state_of, call_of, sample_format_of, picture_format_of, codec_id_of, role_of, key_of, last_of}

pub record AreTold {X : Type 0} (text : X → List ℕ) (of : List ℕ → Option X) : Type 0 where
  pub word : (x : X) → list_all is_word_byte (text x) ≡ true
  pub again : (x : X) → of (text x) ≡ Some x

pub errors : AreTold error_name error_of
errors = record { word = λ x. grind arith; again = λ x. grind arith }

pub kinds : AreTold kind_text kind_named
kinds = record { word = λ x. grind arith; again = λ x. grind arith }

pub grounds : AreTold ground_text ground_named
grounds = record { word = λ x. grind arith; again = λ x. grind arith }

pub states : AreTold state_text state_of
states = record { word = λ x. grind arith; again = λ x. grind arith }

pub calls : AreTold call_word call_of
calls = record { word = λ x. grind arith; again = λ x. grind arith }

pub sample_formats : AreTold sample_format_text sample_format_of
sample_formats = record { word = λ x. grind arith; again = λ x. grind arith }

pub picture_formats : AreTold picture_format_text picture_format_of
picture_formats = record { word = λ x. grind arith; again = λ x. grind arith }

pub codec_ids : AreTold codec_text codec_id_of
codec_ids = record { word = λ x. grind arith; again = λ x. grind arith }

pub roles : AreTold role_text role_of
roles = record { word = λ x. grind arith; again = λ x. grind arith }

answer_is_word : (x : Option DomError) → list_all is_word_byte (answer_text x) ≡ true
answer_is_word None = refl
answer_is_word (Some e) = errors.word e

pub answers : AreTold answer_text answer_of
answers = record { word = answer_is_word; again = λ x. grind arith }

pub keys : AreTold chunk_type_text key_of
keys = record { word = λ x. grind arith; again = λ x. grind arith }

pub lasts : AreTold last_text last_of
lasts = record { word = λ x. grind arith; again = λ x. grind arith }
