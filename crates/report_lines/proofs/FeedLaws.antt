-- The text of a line ends with its only line feed.
use Rattle.std.proofs.Common.{◌≡◌, ℕ, suc, ◌<◌, ◌^◌, Bool, true, false, cond, eqb, List, [], ◌∷◌, ◌++◌, get_or, Option, Some, None, refl, sym, ap, ◌∙◌, arith, codes, decimal, append_assoc, ℤ, pos, negsuc}
use Rattle.std.specs.List.{list_all, AllPass}
use Rattle.std.specs.Fmt.{signed_decimal}
use Rattle.std.specs.Int.Signed.{mag}
use Rattle.std.proofs.lemmas.Bool.{false≢true, ne_eqb}
use Rattle.std.proofs.lemmas.List.Folds.{list_all-append}
use Rattle.std.proofs.lemmas.List.Sums.{AllPass-from_list_all, list_all-from_AllPass}
use Rattle.hex.specs.Hex.{IsBytes, encode_lower, is_hex_digit}
use Rattle.wc_base.specs.declared.{who.By.By, media.SoundShape.SoundShape}
use Rattle.wc_video.specs.declared.layout.Layouts.{Layouts}
use Rattle.wc_pool.specs.declared.entry.PoolOp.{PoolOp}
use Rattle.coder_api.specs.declared.slot.SlotOp.{SlotOp}
use Rattle.codec_model.specs.declared.entry.{PromiseState.PromiseState, Outcome.Outcome, TurnWord.TurnWord}
use Rattle.script_types.specs.declared.script.ScriptData.{ScriptData}
use Rattle.report_text.specs.{declared.result.StepResult.StepResult, Names.by_text, declared.line.EntryLine.EntryLine, declared.line.EventLine.EventLine, declared.line.Line.Line}
use Rattle.report_text.specs.Text.{promise_text, layout_text, third_text, outcome_text, turn_text, result_text, pool_text, slot_text, number_or_dash, hex_or_dash, sound_duration, entry_text, event_text, line_text}
use Rattle.report_lines.specs.{Words.is_word_byte, FieldLaws.FitsOrAbsent, Laws.IsOneLine}
use Rattle.report_lines.proofs.{FieldLaws.decimal_word, FieldLaws.hex_digits, LineLaws.duration_fits}
use Rattle.report_lines.specs.Fits.{is_no_feed, AreNames, FitsLayout, FitsResult, FitsOutcome, FitsEntryLine, FitsEventLine, FitsBy, FitsPoolOp, FitsOp, FitsLine}
use Rattle.report_lines.proofs.WordTables.{errors, answers, kinds, grounds, states, calls, sample_formats, picture_formats, codec_ids, roles, keys, lasts}

record Plain (w : List ℕ) : Type 0 where
  all : list_all is_no_feed w ≡ true

-- bytes that pass a test which a line feed fails
plain_from : (p : ℕ → Bool) (w : List ℕ) → p 10 ≡ false → AllPass p w → Plain w
plain_from p w fails all = record { all = list_all-from_AllPass is_no_feed w (λ i d lt. rw (ne_eqb (get_or w i d) 10 (λ same. false≢true (sym fails ∙ ap p (sym same) ∙ all i d lt))) refl) }

word_plain : (w : List ℕ) → list_all is_word_byte w ≡ true → Plain w
word_plain w h = plain_from is_word_byte w refl (AllPass-from_list_all is_word_byte w h)

none : Plain []
none = record { all = refl }

byte : (b : ℕ) (w : List ℕ) → is_no_feed b ≡ true → Plain w → Plain (b ∷ w)
byte b w own p = record { all = rw (own, p.all) refl }

both : (a b : List ℕ) → Plain a → Plain b → Plain (a ++ b)
both a b p q = record { all = list_all-append is_no_feed a b ∙ rw (p.all, q.all) refl }

-- ---- parts

number : (n : ℕ) → n < 2 ^ 64 → Plain (decimal n)
number n lt = word_plain (decimal n) (decimal_word n lt)

short_number : (n : ℕ) → n < 2 ^ 32 → Plain (decimal n)
short_number n lt = number n (omega (arith, lt))

signed : (z : ℤ) → mag z < 2 ^ 63 → Plain (signed_decimal z)
signed (pos n) lt = number n (omega arith)
signed (negsuc n) lt = byte 45 (decimal (suc n)) refl (number (suc n) (omega arith))

absent_or_number : (n : Option ℕ) → FitsOrAbsent n → Plain (number_or_dash n)
absent_or_number None fits = byte 45 [] refl none
absent_or_number (Some n) fits = number n (fits n refl)

duration : (shape : SoundShape) → shape.frames < 2 ^ 32 → Plain (number_or_dash (Some (sound_duration shape)))
duration shape lt = absent_or_number (Some (sound_duration shape)) (duration_fits shape lt)

hex : (bytes : List ℕ) → IsBytes bytes → Plain (hex_or_dash bytes)
hex [] fits = byte 45 [] refl none
hex (b ∷ bytes) fits = plain_from is_hex_digit (encode_lower (b ∷ bytes)) refl (hex_digits (b ∷ bytes) fits)

ruleset plain = (both, byte, none, number, short_number, signed, duration, absent_or_number, hex, word_plain)

promise_plain : (p : PromiseState) → Plain (promise_text p)
promise_plain (PromiseState.Rejected e) = search (errors.word, plain) depth 30
promise_plain _ = search plain depth 30

third_plain : (l : Layouts) → FitsLayout l.third → Plain (third_text l)
third_plain l fits = elim (eqb l.count 3) as (λ q. Plain (cond q (codes "," ++ layout_text l.third) [])) [
  | true ↦ search plain depth 30
  | false ↦ none
]

result_plain : (script : ScriptData) (r : StepResult) → AreNames script → FitsResult script r → Plain (result_text script.callers script.codecs r)
result_plain script StepResult.Absent names fits = search plain depth 30
result_plain script StepResult.Nothing names fits = search plain depth 30
result_plain script (StepResult.From who) names fits = search (names.callers_are_words, plain) depth 30
result_plain script _ names fits = search (answers.word, states.word, promise_plain, third_plain, names.codecs_are_words, plain) depth 60

outcome_plain : (o : Outcome) → FitsOutcome o → Plain (outcome_text o)
outcome_plain Outcome.Refused fits = search plain depth 30
outcome_plain _ fits = search plain depth 30

turn_plain : (t : Option TurnWord) → Plain (turn_text t)
turn_plain (Some TurnWord.Unblock) = search plain depth 30
turn_plain _ = search (errors.word, plain) depth 30

entry_line_plain : (script : ScriptData) (e : EntryLine) → AreNames script → FitsEntryLine script e → Plain (entry_text script.callers e)
entry_line_plain script (EntryLine.Turn word) names fits = search (turn_plain, plain) depth 30
entry_line_plain script _ names fits = search (calls.word, grounds.word, answers.word, outcome_plain, names.callers_are_words, plain) depth 60

by_plain : (script : ScriptData) (who : By) → AreNames script → FitsBy script who → Plain (by_text script who)
by_plain script (By.Caller who) names fits = search (names.callers_are_words, plain) depth 30
by_plain script (By.Codec n place) names fits = search (names.codecs_are_words, plain) depth 30

pool_plain : (op : PoolOp) → FitsPoolOp op → Plain (pool_text op)
pool_plain (PoolOp.Make resource reference) fits = search plain depth 40
pool_plain _ fits = search (lasts.word, plain) depth 40

slot_plain : (op : SlotOp) → FitsOp op → Plain (slot_text op)
slot_plain (SlotOp.Give id n) fits = search (roles.word, codec_ids.word, plain) depth 40
slot_plain _ fits = search (roles.word, codec_ids.word, plain) depth 40

-- ---- lines

feed : IsOneLine (codes "\n")
feed = record { front = []; whole = refl; only = refl }

behind : (a text : List ℕ) → Plain a → IsOneLine text → IsOneLine (a ++ text)
behind a text plain one = record {
  front = a ++ one.front;
  whole = simp append_assoc (ap (λ (t : List ℕ). a ++ t) one.whole);
  only = (both a one.front plain (record { all = one.only })).all;
}

behind_byte : (b : ℕ) (text : List ℕ) → is_no_feed b ≡ true → IsOneLine text → IsOneLine (b ∷ text)
behind_byte b text own one = behind (b ∷ []) text (byte b [] own none) one

config_plain : (codec : List ℕ) → list_all is_no_feed codec ≡ true → Plain codec
config_plain codec all = record { all = all }

event_one : (s : EventLine) → FitsEventLine s → IsOneLine (event_text s)
event_one EventLine.Dequeue fits = search (behind_byte, feed) depth 30
event_one _ fits = search (behind, behind_byte, feed, errors.word, sample_formats.word, picture_formats.word, keys.word, plain, config_plain) depth 60

pub line_one : (script : ScriptData) (l : Line) → AreNames script → FitsLine script l → IsOneLine (line_text script l)
line_one script (Line.Event s) names fits = event_one s fits
line_one script _ names fits = search (kinds.word, behind, behind_byte, feed, result_plain, entry_line_plain, by_plain, pool_plain, slot_plain, names.callers_are_words, names.codecs_are_words, plain) depth 60
