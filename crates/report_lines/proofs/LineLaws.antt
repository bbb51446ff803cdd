-- What is written as a line is read again.
use Rattle.wc_base.specs.Options.{some_same}
use Rattle.std.proofs.Common.{◌≡◌, ℕ, inl, inr, ◌*◌, ◌<◌, ◌≤◌, ◌^◌, true, false, cond, List, [], ◌∷◌, ◌++◌, length, Option, Some, None, refl, sym, ap, subst, ◌∙◌, arith, decimal, codes, append_assoc, position, ltb, eqb, eq-eqb}
use Rattle.std.specs.List.{list_all, slice_get}
use Rattle.std.specs.Prelude.{unwrap_or, option_map}
use Rattle.std.specs.Str.{bytes_eq}
use Rattle.std.specs.Char.{is_ascii_digit}
use Rattle.std.specs.Fmt.{signed_decimal}
use Rattle.std.proofs.Math.Nat.{div-le_self}
use Rattle.std.proofs.lemmas.Bool.{lt-ltb, le-ltb, false_from_ne_true, false≢true}
use Rattle.std.proofs.lemmas.List.Sums.{position_or_len_is}
use Rattle.std.proofs.lemmas.Option.{slice_get-get_or}
use Rattle.std.proofs.lemmas.Slice.Eq.{bytes_eq-Decides}
use Rattle.hex.specs.Hex.{IsBytes}
use Rattle.wc_base.specs.declared.{error.DomError.DomError, who.By.By, who.Who.Who, media.SoundShape.SoundShape}
use Rattle.wc_config.specs.declared.codec.CoderId.{CoderId}
use Rattle.wc_video.specs.declared.layout.{PlaneLayout.PlaneLayout, Layouts.Layouts}
use Rattle.wc_pool.specs.declared.entry.PoolOp.{PoolOp}
use Rattle.coder_api.specs.declared.slot.SlotOp.{SlotOp}
use Rattle.codec_model.specs.declared.entry.{CodecState.CodecState, PromiseState.PromiseState, Outcome.Outcome, TurnWord.TurnWord}
use Rattle.script_types.specs.declared.script.{ScriptData.ScriptData, CodecItem.CodecItem, CallerItem.CallerItem}
use Rattle.report_text.specs.{declared.result.StepResult.StepResult, Names.caller_name, Names.codec_name, declared.line.CallWord.CallWord, declared.line.EntryLine.EntryLine, declared.line.EventLine.EventLine, declared.line.Line.Line}
use Rattle.report_text.specs.Words.{error_name, answer_text, state_text, codec_text, role_text, chunk_type_text, call_word}
use Rattle.report_text.specs.Text.{promise_text, layout_text, third_text, layouts_text, outcome_text, turn_text, numbered_line, number_or_dash, hex_or_dash, sound_duration, entry_text, event_text, line_text}
use Rattle.report_lines.specs.Words.{◌>>=◌, after, is_word_byte, word_at}
use Rattle.report_lines.specs.{Fields.short, Fields.bytes_upto, FieldLaws.FitsOrAbsent}
use Rattle.report_lines.proofs.WordLaws.{upto_again, after_again, after_only, word_again}
use Rattle.report_lines.proofs.FieldLaws.{number_again, short_again, signed_again, number_or_dash_again, bytes_again, decimal_digits, decimal_word, decimal_not_nil, hex_word}
use Rattle.report_lines.specs.Reading.{caller_of, codec_of, error_at, answer_at, promise_at, look_at, look_line_at, call_result_at, unit_at, layout_at, two_layouts_at, three_layouts_at, layouts_at, copied_bytes_at, copied_frame_at, copied_at, copied_line_at, outcome_at, turn_at, start_at, done_at, call_at, take_at, ground_at, coder_at, refused_at, acquired_at, given_at, op_at, slot_at, made_at, cloned_at, ended_at, pool_op_at, reference_at, is_slot_word, is_pool_word, dotted_line_at, poster_at, worded_result_at, worded_line_at, numbered_line_at, sound_at, image_at, chunk_at, output_at, config_at, reject_at, event_at, event_line_at, codec_at, caller_at, headed_line_at, only_line_at, line_at}
use Rattle.report_lines.specs.Fits.{AreNames, IsCaller, IsCodec, FitsLayout, no_layout, FitsLayouts, FitsResult, FitsOutcome, FitsEntryLine, FitsEventLine, FitsBy, FitsPoolOp, FitsOp, FitsLine}
use Rattle.report_lines.proofs.WordTables.{errors, answers, kinds, grounds, states, calls, sample_formats, picture_formats, codec_ids, roles, keys, lasts}

-- ---- names

-- the name of the item with a number
abbrev name_at : {X : Type 0} → (X → List ℕ) → List X → ℕ → List ℕ
name_at name xs i = unwrap_or (option_map name (slice_get xs i)) []

-- a word that is no name of the first i items, and is that of the next one if there is one
place_is : {X : Type 0} (name : X → List ℕ) (xs : List X) (i : ℕ) (w : List ℕ) → i ≤ length xs → ((k : ℕ) → k < i → name_at name xs k ≡ w → ⊥) → (i < length xs → name_at name xs i ≡ w)
    → position (λ x. bytes_eq (name x) w) xs ≡ cond (ltb i (length xs)) (Some i) None
place_is name [] i w le before here = rw (le-ltb i 0 (omega arith)) refl
place_is name (x ∷ xs) i w le before here =
    let at = position_or_len_is (λ y. bytes_eq (name y) w) (x ∷ xs) i x le
    (λ k below. false_from_ne_true _ (λ y. before k below (rw (slice_get-get_or (x ∷ xs) k x (omega (arith, below, le))) ((bytes_eq-Decides _ w).0 y))))
    (λ below. (bytes_eq-Decides _ w).1 (rw (slice_get-get_or (x ∷ xs) i x below) at here below)) in
    rw at refl

short_is : (n : ℕ) → n < 2 ^ 32 → short n ≡ Some n
short_is n lt = rw (lt-ltb _ _ lt) refl

caller_again : (script : ScriptData) (n : ℕ) → AreNames script → IsCaller script n → caller_of script.callers (caller_name script.callers n) ≡ Some n
caller_again script n names fits =
    rw (place_is (λ (c : CallerItem). c.name) script.callers n _ (omega (arith, fits.0)) (λ k below same. absurd (omega (arith, names.callers_differ k n (omega (arith, fits.0)) fits.0 same))) (λ _. refl), lt-ltb _ _ fits.0) (short_is n fits.1)

codec_again : (script : ScriptData) (n : ℕ) → AreNames script → IsCodec script n → codec_of script.codecs (codec_name script.codecs n) ≡ Some n
codec_again script n names fits =
    rw (place_is (λ (c : CodecItem). c.name) script.codecs n _ (omega (arith, fits.0)) (λ k below same. absurd (omega (arith, names.codecs_differ k n (omega (arith, fits.0)) fits.0 same))) (λ _. refl), lt-ltb _ _ fits.0) (short_is n fits.1)

no_caller_of : (script : ScriptData) (n : ℕ) → AreNames script → IsCodec script n → caller_of script.callers (codec_name script.codecs n) ≡ None
no_caller_of script n names fits =
    rw (place_is (λ (c : CallerItem). c.name) script.callers (length script.callers) _ (omega arith) (λ k below. names.apart k n below fits.0) (λ below. absurd (omega arith)), le-ltb (length script.callers) (length script.callers) (omega arith)) refl

-- ---- fields and words

no_dash : (n : ℕ) → eqb 45 n ≡ false → ◌≡◌ {A = ℕ} 45 n → ⊥
no_dash n other same = false≢true (sym other ∙ eq-eqb 45 n same)

wide : (n : ℕ) → n < 2 ^ 32 → n < 2 ^ 64
wide n lt = omega (arith, lt)

pub duration_fits : (shape : SoundShape) → shape.frames < 2 ^ 32 → FitsOrAbsent (Some (sound_duration shape))
duration_fits shape lt k same = grind (arith, div-le_self (shape.frames * 1000000) shape.rate)

ruleset fields = (append_assoc, word_again, number_again, decimal_word, decimal_not_nil, decimal_digits)

ruleset contents = (append_assoc, word_again, short_again, signed_again, number_or_dash_again, bytes_again, no_dash)

-- ---- words at the end of a line

error_at_again : (e : DomError) (rest : List ℕ) → error_at (error_name e ++ 10 ∷ rest) ≡ Some e
unfolding error_at
error_at_again e rest = rw (word_again 10 (error_name e) rest (errors.word e) refl, errors.again e) refl

answer_at_again : (a : Option DomError) (rest : List ℕ) → answer_at (answer_text a ++ 10 ∷ rest) ≡ Some a
unfolding answer_at
answer_at_again a rest = rw (word_again 10 (answer_text a) rest (answers.word a) refl, answers.again a) refl

look_again : (n len : ℕ) (p : PromiseState) (rest : List ℕ) → look_at n len (promise_text p ++ 10 ∷ rest) ≡ Some (StepResult.Look n len p)
unfolding look_at promise_at
look_again n len (PromiseState.Rejected e) rest = rw (error_at_again e rest) refl
look_again n len _ rest = refl

-- a state's word is not that of a take without an output
state_alone : (s : CodecState) (x y : Option StepResult) → cond (bytes_eq (state_text s) (codes "none")) x y ≡ y
state_alone s x y = grind arith

outcome_again : (o : Outcome) (rest : List ℕ) → FitsOutcome o → outcome_at (outcome_text o ++ 10 ∷ rest) ≡ Some o
unfolding outcome_at
outcome_again Outcome.Refused rest fits = refl
outcome_again _ rest fits = search fields depth 12

turn_again : (t : Option TurnWord) (rest : List ℕ) → turn_at (turn_text t ++ 10 ∷ rest) ≡ Some t
unfolding turn_at
turn_again (Some TurnWord.Unblock) rest = refl
turn_again _ rest = search error_at_again

-- ---- copies

hex_read : (bytes rest : List ℕ) → IsBytes bytes → bytes_upto 10 (hex_or_dash bytes ++ 10 ∷ rest) ≡ Some (bytes, rest)
hex_read bytes rest fits = bytes_again 10 bytes rest fits (no_dash 10 refl) refl

abbrev two : PlaneLayout → PlaneLayout → Layouts
two first second = record { count = 2; first = first; second = second; third = no_layout }

abbrev three : PlaneLayout → PlaneLayout → PlaneLayout → Layouts
three first second third = record { count = 3; first = first; second = second; third = third }

-- a plane, a mark and what stands behind
abbrev plane : PlaneLayout → ℕ → List ℕ → List ℕ
plane l mark rest = decimal l.offset ++ 58 ∷ (decimal l.stride ++ mark ∷ rest)

short_word : (n : ℕ) → n < 2 ^ 32 → list_all is_word_byte (decimal n) ≡ true
short_word n lt = decimal_word n (omega (arith, lt))

layout_again : (mark : ℕ) (l : PlaneLayout) (rest : List ℕ) → FitsLayout l → is_ascii_digit mark ≡ false → layout_at mark (plane l mark rest) ≡ Some (l, rest)
unfolding layout_at
layout_again mark l rest fits other = rw (short_again 58 l.offset _ fits.0 refl, short_again mark l.stride rest fits.1 other) refl

two_again : (a b : PlaneLayout) (rest : List ℕ) → FitsLayout a → FitsLayout b → layouts_at (layouts_text (two a b) ++ 32 ∷ rest) ≡ Some (two a b, rest)
unfolding layouts_at two_layouts_at
two_again a b rest first second =
    let regrouped : layouts_text (two a b) ++ 32 ∷ rest ≡ plane a 44 (plane b 32 rest) = simp append_assoc in
    ap layouts_at regrouped
    ∙ search (layout_again, word_again, short_word) depth 12

three_again : (a b c : PlaneLayout) (rest : List ℕ) → FitsLayout a → FitsLayout b → FitsLayout c → layouts_at (layouts_text (three a b c) ++ 32 ∷ rest) ≡ Some (three a b c, rest)
unfolding layouts_at three_layouts_at
three_again a b c rest first second third =
    let regrouped : layouts_text (three a b c) ++ 32 ∷ rest ≡ plane a 44 (plane b 44 (plane c 32 rest)) = simp append_assoc in
    ap layouts_at regrouped
    ∙ search (layout_again, word_again, short_word) depth 12

abbrev AreRead : List ℕ → Layouts → Type 0
AreRead rest l = layouts_at (layouts_text l ++ 32 ∷ rest) ≡ Some (l, rest)

layouts_again : (l : Layouts) (rest : List ℕ) → FitsLayouts l → AreRead rest l
layouts_again l rest fits = elim fits.planes [
  | inl both ↦ let same : two l.first l.second ≡ l = rw (sym both.0, sym both.1) refl in subst (AreRead rest) same (two_again l.first l.second rest fits.first fits.second)
  | inr count ↦ let same : three l.first l.second l.third ≡ l = rw (sym count) refl in subst (AreRead rest) same (three_again l.first l.second l.third rest fits.first fits.second fits.third)
]

-- what stands behind the first number
abbrev behind_offset : Layouts → List ℕ → List ℕ
behind_offset l rest = decimal l.first.stride ++ 44 ∷ (layout_text l.second ++ (third_text l ++ rest))

layouts_begin : (l : Layouts) (rest : List ℕ) → FitsLayout l.first → word_at (layouts_text l ++ rest) ≡ Some (decimal l.first.offset, 58, behind_offset l rest)
layouts_begin l rest fits =
    let regrouped : layouts_text l ++ rest ≡ decimal l.first.offset ++ 58 ∷ behind_offset l rest = simp append_assoc in
    ap word_at regrouped ∙ word_again 58 (decimal l.first.offset) (behind_offset l rest) (short_word l.first.offset fits.0) refl

frame_again : (n : ℕ) (l : Layouts) (bytes rest : List ℕ) → n < 2 ^ 64 → FitsLayouts l → IsBytes bytes
    → copied_at (decimal n ++ 32 ∷ (layouts_text l ++ 32 ∷ (hex_or_dash bytes ++ 10 ∷ rest))) ≡ Some (StepResult.CopiedFrame n l bytes)
unfolding copied_at copied_frame_at
frame_again n l bytes rest lt fits are_bytes = search (number_again, layouts_begin, layouts_again, hex_read, fits.first) depth 12

copied_again : (n : ℕ) (bytes rest : List ℕ) → n < 2 ^ 64 → IsBytes bytes → copied_at (decimal n ++ 32 ∷ (hex_or_dash bytes ++ 10 ∷ rest)) ≡ Some (StepResult.Copied n bytes)
unfolding copied_at copied_bytes_at
copied_again n bytes rest lt are_bytes = search (number_again, word_again, hex_word, hex_read) depth 12

-- ---- lines with a number

-- a number comes first, and what follows is read by the mark behind its word
numbered_first : (script : ScriptData) (n : ℕ) (rest : List ℕ) → n < 2 ^ 64 → only_line_at script (decimal n ++ 32 ∷ rest) ≡ numbered_line_at script (decimal n ++ 32 ∷ rest)
unfolding only_line_at
numbered_first script n rest lt = rw (word_again 32 (decimal n) rest (decimal_word n lt) refl, decimal_not_nil n lt, decimal_digits n lt) refl

-- an answer is not the word of a copy, nor that of a result or an entry
answer_next : (script : ScriptData) (n : ℕ) (a : Option DomError) (x : Option Line) (rest : List ℕ) → cond (bytes_eq (answer_text a) (codes "copied")) x (worded_line_at script n (answer_text a) rest) ≡ Some (Line.Result n (StepResult.Local a))
unfolding worded_line_at worded_result_at
answer_next script n a x rest = grind arith

copied_next : (script : ScriptData) (n : ℕ) (r : StepResult) (text : List ℕ) → n < 2 ^ 64 → copied_at text ≡ Some r → only_line_at script (decimal n ++ 32 ∷ (codes "copied " ++ text)) ≡ Some (Line.Result n r)
unfolding numbered_line_at copied_line_at
copied_next script n r text lt found = numbered_first script n (codes "copied " ++ text) lt ∙ rw (number_again 32 n (codes "copied " ++ text) lt refl, found) refl

abbrev IsResultAgain : ScriptData → ℕ → StepResult → List ℕ → Type 0
IsResultAgain script step r rest = only_line_at script (line_text script (Line.Result step r) ++ rest) ≡ Some (Line.Result step r)

state_again : (script : ScriptData) (step n len : ℕ) (state : CodecState) (size : ℕ) (rest : List ℕ) → AreNames script → step < 2 ^ 64 → FitsResult script (StepResult.State n len state size)
    → IsResultAgain script step (StepResult.State n len state size) rest
unfolding only_line_at look_line_at numbered_line_at look_at
state_again script step n len state size rest names lt fits = search (fields, states.word, states.again, state_alone, codec_again script, names.codecs_are_words) depth 20

from_again : (script : ScriptData) (step : ℕ) (who : Who) (rest : List ℕ) → AreNames script → step < 2 ^ 64 → FitsResult script (StepResult.From who) → IsResultAgain script step (StepResult.From who) rest
unfolding only_line_at numbered_line_at worded_line_at worded_result_at poster_at
from_again script step who rest names lt fits = search (fields, short_again, caller_again script, names.callers_are_words) depth 20

result_again : (script : ScriptData) (step : ℕ) (r : StepResult) (rest : List ℕ) → AreNames script → step < 2 ^ 64 → FitsResult script r → IsResultAgain script step r rest
unfolding only_line_at dotted_line_at look_line_at numbered_line_at call_result_at unit_at worded_line_at worded_result_at copied_line_at look_at
result_again script step (StepResult.Local error) rest names lt fits = simp append_assoc (
    numbered_first script step (answer_text error ++ 10 ∷ rest) lt
    ∙ rw (number_again 32 step _ lt refl, word_again 10 (answer_text error) rest (answers.word error) refl) (answer_next script step error _ rest))
result_again script step (StepResult.CopiedFrame n layouts bytes) rest names lt fits =
    let regrouped : line_text script (Line.Result step (StepResult.CopiedFrame n layouts bytes)) ++ rest ≡ decimal step ++ 32 ∷ (codes "copied " ++ (decimal n ++ 32 ∷ (layouts_text layouts ++ 32 ∷ (hex_or_dash bytes ++ 10 ∷ rest)))) = simp append_assoc in
    ap (only_line_at script) regrouped ∙ copied_next script step (StepResult.CopiedFrame n layouts bytes) _ lt (frame_again n layouts bytes rest fits.0 fits.1 fits.2)
result_again script step (StepResult.From who) rest names lt fits = from_again script step who rest names lt fits
result_again script step (StepResult.State n len state size) rest names lt fits = state_again script step n len state size rest names lt fits
result_again script step _ rest names lt fits = search (fields, answers.word, answers.again, look_again, copied_again, codec_again script, names.codecs_are_words) depth 20

-- ---- entries of codecs

-- a call's word is none of the registry's, none of the pool's, and none of a take's or a ground's
call_alone : (c : CallWord) (u v w x y z : Option Line)
    → cond (is_slot_word (call_word c)) v (cond (is_pool_word (call_word c)) w (cond (bytes_eq (call_word c) (codes "unit")) x (cond (bytes_eq (call_word c) (codes "take")) y (cond (bytes_eq (call_word c) (codes "ground")) u z)))) ≡ z
call_alone c u v w x y z = grind arith

call_read : (script : ScriptData) (place step : ℕ) (name : List ℕ) (c : CallWord) (rest : List ℕ) → step < 2 ^ 64 → dotted_line_at script place name (decimal step ++ 32 ∷ (call_word c ++ 32 ∷ rest)) ≡ call_at script place name step (call_word c) rest
unfolding dotted_line_at
call_read script place step name c rest lt = rw (number_again 32 step (call_word c ++ 32 ∷ rest) lt refl, word_again 32 (call_word c) rest (calls.word c) refl) (call_alone c _ _ _ _ _ _)

call_again : (script : ScriptData) (place : ℕ) (who : Who) (c : CallWord) (e : Option DomError) (rest : List ℕ) → AreNames script → place < 2 ^ 64 → FitsEntryLine script (EntryLine.Call who c e)
    → only_line_at script (numbered_line place (entry_text script.callers (EntryLine.Call who c e)) ++ rest) ≡ Some (Line.Entry place (EntryLine.Call who c e))
unfolding only_line_at numbered_line_at call_at
call_again script place who c e rest names lt fits = search (fields, call_read, calls.again, answer_at_again, caller_again script, short_is, wide, names.callers_are_words) depth 20

entry_again : (script : ScriptData) (place : ℕ) (e : EntryLine) (rest : List ℕ) → AreNames script → place < 2 ^ 64 → FitsEntryLine script e → only_line_at script (numbered_line place (entry_text script.callers e) ++ rest) ≡ Some (Line.Entry place e)
unfolding only_line_at numbered_line_at dotted_line_at take_at ground_at worded_line_at start_at done_at
entry_again script place (EntryLine.Call who word error) rest names lt fits = call_again script place who word error rest names lt fits
entry_again script place (EntryLine.Reclaim moment) rest names lt fits = search fields depth 20
entry_again script place _ rest names lt fits = search (fields, grounds.word, grounds.again, outcome_again, turn_again, caller_again script, short_is, wide, names.callers_are_words) depth 20

-- ---- entries of the registry and of the pool of media

coder_again : (id : CoderId) (rest : List ℕ) → coder_at (role_text id.role ++ 58 ∷ (codec_text id.codec ++ 32 ∷ rest)) ≡ Some (id, rest)
unfolding coder_at
coder_again id rest = search (word_again, roles.word, roles.again, codec_ids.word, codec_ids.again) depth 12

slot_again : (script : ScriptData) (place : ℕ) (who : By) (op : SlotOp) (rest : List ℕ) → AreNames script → place < 2 ^ 64 → FitsBy script who → FitsOp op
    → only_line_at script (line_text script (Line.Slot place (record { by = who; op = op })) ++ rest) ≡ Some (Line.Slot place (record { by = who; op = op }))
unfolding only_line_at numbered_line_at dotted_line_at slot_at op_at acquired_at given_at refused_at
slot_again script place (By.Caller who) (SlotOp.Give id number) rest names lt fits fits_op = search (fields, coder_again, caller_again script, short_is, wide, names.callers_are_words) depth 20
slot_again script place (By.Codec n m) (SlotOp.Give id number) rest names lt fits fits_op = search (fields, coder_again, codec_again script, no_caller_of script, names.codecs_are_words) depth 20
slot_again script place _ _ rest names lt fits fits_op = search (fields, coder_again, caller_again script, codec_again script, no_caller_of script, short_is, wide, names.callers_are_words, names.codecs_are_words) depth 20

reference_again : (script : ScriptData) (place : ℕ) (who : By) (op : PoolOp) (rest : List ℕ) → AreNames script → place < 2 ^ 64 → FitsBy script who → FitsPoolOp op
    → only_line_at script (line_text script (Line.Reference place (record { by = who; op = op })) ++ rest) ≡ Some (Line.Reference place (record { by = who; op = op }))
unfolding only_line_at numbered_line_at dotted_line_at reference_at pool_op_at made_at cloned_at ended_at
reference_again script place (By.Caller who) (PoolOp.End resource reference last) rest names lt fits fits_op = search (fields, lasts.word, lasts.again, caller_again script, short_is, wide, names.callers_are_words) depth 20
reference_again script place (By.Codec n m) (PoolOp.End resource reference last) rest names lt fits fits_op = search (fields, lasts.word, lasts.again, codec_again script, no_caller_of script, names.codecs_are_words) depth 20
reference_again script place _ _ rest names lt fits fits_op = search (fields, caller_again script, codec_again script, no_caller_of script, short_is, wide, names.callers_are_words, names.codecs_are_words) depth 20

-- ---- what an entry showed

event_again : (script : ScriptData) (s : EventLine) (rest : List ℕ) → FitsEventLine s → only_line_at script (event_text s ++ rest) ≡ Some (Line.Event s)
unfolding only_line_at event_line_at event_at output_at reject_at sound_at image_at chunk_at config_at
event_again script (EventLine.Sound samples) rest fits = search (contents, sample_formats.word, sample_formats.again, duration_fits samples.shape fits.frames, fits.are_bytes) depth 20
event_again script (EventLine.Image picture) rest fits = search (contents, picture_formats.word, picture_formats.again, fits.duration, fits.are_bytes) depth 20
event_again script (EventLine.Chunk chunk) rest fits =
    let regrouped : event_text (EventLine.Chunk chunk) ++ rest ≡ codes "  output chunk " ++ (chunk_type_text chunk.key ++ 32 ∷ (signed_decimal chunk.timestamp ++ 32 ∷ (number_or_dash chunk.duration ++ 32 ∷ (hex_or_dash chunk.bytes ++ 10 ∷ rest)))) = simp append_assoc in
    ap (only_line_at script) regrouped ∙ search (contents, keys.word, keys.again, fits.1, fits.2) depth 20
event_again script (EventLine.Config codec rate channels description) rest fits = search (contents, upto_again, fits.0, fits.1, fits.4) depth 20
event_again script EventLine.Dequeue rest fits = refl
event_again script _ rest fits = search (append_assoc, number_again, error_at_again) depth 20

-- ---- every line

parsed_again : (script : ScriptData) (l : Line) (rest : List ℕ) → AreNames script → FitsLine script l → only_line_at script (line_text script l ++ rest) ≡ Some l
unfolding only_line_at headed_line_at caller_at codec_at
parsed_again script (Line.Result step found) rest names fits = result_again script step found rest names fits.0 fits.1
parsed_again script (Line.Entry place entry) rest names fits = entry_again script place entry rest names fits.0 fits.1
parsed_again script (Line.Event s) rest names fits = event_again script s rest fits
parsed_again script (Line.Reference place entry) rest names fits = reference_again script place entry.by entry.op rest names fits.0 fits.1 fits.2
parsed_again script (Line.Slot place entry) rest names fits = slot_again script place entry.by entry.op rest names fits.0 fits.1 fits.2
parsed_again script _ rest names fits = search (fields, short_again, kinds.word, kinds.again, caller_again script, codec_again script, names.callers_are_words, names.codecs_are_words) depth 20

pub line_again : (script : ScriptData) (l : Line) (rest : List ℕ) → AreNames script → FitsLine script l → line_at script (line_text script l ++ rest) ≡ Some (l, rest)
unfolding line_at
line_again script l rest names fits = rw (parsed_again script l rest names fits, after_again (line_text script l) rest) refl

bind_some : {A B : Type 0} (o : Option A) (f : A → Option B) (y : B) → (o >>= f) ≡ Some y → (x : A) × (o ≡ Some x) × (f x ≡ Some y)
bind_some None f y e = absurd cc
bind_some (Some x) f y e = (x, refl, e)

pub line_sound : (script : ScriptData) (bs : List ℕ) (read : Line × List ℕ) → line_at script bs ≡ Some read → bs ≡ line_text script read.0 ++ read.1
unfolding line_at
line_sound script bs read e =
    let l = bind_some (only_line_at script bs) (λ x. after (line_text script x) bs >>= λ rest. Some (x, rest)) read e in
    let r = bind_some (after (line_text script l.0) bs) (λ rest. Some (l.0, rest)) read l.2 in
    let made : Line × List ℕ = (l.0, r.0) in
    subst (λ (z : Line × List ℕ). bs ≡ line_text script z.0 ++ z.1) (some_same made read r.2) (after_only (line_text script l.0) bs r.0 r.1)
