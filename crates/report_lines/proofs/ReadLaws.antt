-- What is read as a line fits the script.
use Rattle.std.proofs.Common.{◌≡◌, ℕ, ℤ, ◌^◌, ◌<◌, inl, inr, refl, arith, Bool, true, ltb, List, length, Option, Some, None, position}
use Rattle.std.specs.Prelude.{IfSome}
use Rattle.std.specs.List.{list_all, position_or_len}
use Rattle.std.specs.Int.Signed.{mag}
use Rattle.std.proofs.lemmas.Bool.{ltb-true}
use Rattle.hex.specs.Hex.{IsBytes}
use Rattle.wc_video.specs.declared.layout.{PlaneLayout.PlaneLayout, Layouts.Layouts}
use Rattle.codec_model.specs.declared.entry.CodecState.{CodecState}
use Rattle.script_types.specs.declared.script.ScriptData.{ScriptData}
use Rattle.report_lines.specs.Words.{◌>>=◌, upto, after}
use Rattle.report_lines.specs.Fields.{short, number_upto, short_upto, signed_upto, number_or_dash_upto, bytes_upto}
use Rattle.report_lines.specs.FieldLaws.{Lacks, FitsOrAbsent}
use Rattle.report_lines.proofs.FieldFits.{bind_fits, bind_any, if_fits, upto_fits, number_fits, short_of_fits, short_fits, signed_fits, number_or_dash_fits, bytes_fits}
use Rattle.report_text.specs.Text.{line_text}
use Rattle.wc_base.specs.declared.who.{Who.Who, By.By}
use Rattle.report_lines.specs.Reading.{caller_of, look_as, look_at, look_line_at, call_result_at, unit_at, layout_at, two_layouts_at, three_layouts_at, layouts_at, copied_bytes_at, copied_frame_at, copied_at, copied_line_at, outcome_at, start_at, done_at, call_at, take_at, ground_at, by_as, by_of, refused_at, acquired_at, given_at, op_at, slot_at, made_at, cloned_at, ended_at, pool_op_at, reference_at, dotted_line_at, poster_at, worded_result_at, worded_line_at, numbered_line_at, sound_at, image_at, chunk_at, output_at, without_feed, config_at, reject_at, event_at, event_line_at, codec_at, caller_at, headed_line_at, only_line_at, line_at}
use Rattle.report_lines.specs.Fits.{is_no_feed, IsCaller, IsCodec, FitsLayout, no_layout, FitsLayouts, FitsResult, FitsOutcome, FitsWho, FitsEntryLine, FitsEventLine, FitsBy, FitsPoolOp, FitsOp, FitsLine}

-- ---- fields, and what is made of them

number_then : {B : Type 0} (P : B → Type 0) (mark : ℕ) (bs : List ℕ) (f : ℕ × List ℕ → Option B) → ((x : ℕ × List ℕ) → x.0 < 2 ^ 64 → IfSome (f x) P) → IfSome (number_upto mark bs >>= f) P
number_then P mark bs f = bind_fits (λ x. x.0 < 2 ^ 64) P (number_upto mark bs) f (number_fits mark bs)

short_then : {B : Type 0} (P : B → Type 0) (mark : ℕ) (bs : List ℕ) (f : ℕ × List ℕ → Option B) → ((x : ℕ × List ℕ) → x.0 < 2 ^ 32 → IfSome (f x) P) → IfSome (short_upto mark bs >>= f) P
short_then P mark bs f = bind_fits (λ x. x.0 < 2 ^ 32) P (short_upto mark bs) f (short_fits mark bs)

small_then : {B : Type 0} (P : B → Type 0) (n : ℕ) (f : ℕ → Option B) → ((k : ℕ) → k < 2 ^ 32 → IfSome (f k) P) → IfSome (short n >>= f) P
small_then P n f = bind_fits (λ k. k < 2 ^ 32) P (short n) f (short_of_fits n)

signed_then : {B : Type 0} (P : B → Type 0) (mark : ℕ) (bs : List ℕ) (f : ℤ × List ℕ → Option B) → ((x : ℤ × List ℕ) → mag x.0 < 2 ^ 63 → IfSome (f x) P) → IfSome (signed_upto mark bs >>= f) P
signed_then P mark bs f = bind_fits (λ x. mag x.0 < 2 ^ 63) P (signed_upto mark bs) f (signed_fits mark bs)

dash_then : {B : Type 0} (P : B → Type 0) (mark : ℕ) (bs : List ℕ) (f : Option ℕ × List ℕ → Option B) → ((x : Option ℕ × List ℕ) → FitsOrAbsent x.0 → IfSome (f x) P) → IfSome (number_or_dash_upto mark bs >>= f) P
dash_then P mark bs f = bind_fits (λ x. FitsOrAbsent x.0) P (number_or_dash_upto mark bs) f (number_or_dash_fits mark bs)

bytes_then : {B : Type 0} (P : B → Type 0) (mark : ℕ) (bs : List ℕ) (f : List ℕ × List ℕ → Option B) → ((x : List ℕ × List ℕ) → IsBytes x.0 → IfSome (f x) P) → IfSome (bytes_upto mark bs >>= f) P
bytes_then P mark bs f = bind_fits (λ x. IsBytes x.0) P (bytes_upto mark bs) f (bytes_fits mark bs)

-- the number of a caller's or a codec's name
named_fits : {X : Type 0} (p : X → Bool) (xs : List X) → IfSome (position p xs >>= short) (λ n. (n < length xs) × (n < 2 ^ 32))
named_fits p xs =
    bind_fits (λ i. i < length xs) (λ n. (n < length xs) × (n < 2 ^ 32)) (position p xs) short (if_fits (λ i. i < length xs) (ltb (position_or_len p xs) (length xs)) _ _ (λ is. ltb-true _ _ is) (λ is. tt))
    (λ i lt. if_fits (λ n. (n < length xs) × (n < 2 ^ 32)) (ltb i (2 ^ 32)) _ _ (λ is. (lt, ltb-true _ _ is)) (λ is. tt))

named_then : {X B : Type 0} (P : B → Type 0) (p : X → Bool) (xs : List X) (f : ℕ → Option B) → ((n : ℕ) → (n < length xs) × (n < 2 ^ 32) → IfSome (f n) P) → IfSome (position p xs >>= short >>= f) P
named_then P p xs f = bind_fits (λ n. (n < length xs) × (n < 2 ^ 32)) P (position p xs >>= short) f (named_fits p xs)

ruleset reading = (number_then, short_then, small_then, signed_then, dash_then, bytes_then, named_then, bind_any, if_fits)

-- ---- results of callers

look_as_fits : (script : ScriptData) (o : Option CodecState) (n len : ℕ) (bs rest : List ℕ) → IsCodec script n → len < 2 ^ 64 → IfSome (look_as o n len bs rest) (FitsResult script)
look_as_fits script None n len bs rest codec small = search reading depth 12
look_as_fits script (Some s) n len bs rest codec small = search reading depth 12

-- ---- copies

layout_then : {B : Type 0} (P : B → Type 0) (mark : ℕ) (bs : List ℕ) (f : PlaneLayout × List ℕ → Option B) → ((x : PlaneLayout × List ℕ) → FitsLayout x.0 → IfSome (f x) P) → IfSome (layout_at mark bs >>= f) P
layout_then P mark bs f = bind_fits (λ x. FitsLayout x.0) P (layout_at mark bs) f (unfold layout_at in search reading depth 12)

no_layout_fits : FitsLayout no_layout
no_layout_fits = (omega arith, omega arith)

abbrev HaveLayouts : Layouts × List ℕ → Type 0
HaveLayouts x = FitsLayouts x.0

copied_fits : (script : ScriptData) (bs : List ℕ) → IfSome (copied_at bs) (FitsResult script)
unfolding copied_at copied_frame_at copied_bytes_at layouts_at two_layouts_at three_layouts_at
copied_fits script bs = search (bind_fits HaveLayouts (FitsResult script), layout_then, no_layout_fits, inl, inr, reading) depth 30

-- ---- entries of the registry and of the pool of media

by_fits : (script : ScriptData) (o : Option ℕ) (name : List ℕ) (m : ℕ) → m < 2 ^ 64 → IfSome o (IsCaller script) → IfSome (by_as o script name m) (FitsBy script)
by_fits script None name m lt caller = search reading depth 12
by_fits script (Some k) name m lt caller = search reading depth 12

-- ---- lines with a number

by_then : {B : Type 0} (P : B → Type 0) (script : ScriptData) (name : List ℕ) (m : ℕ) (f : By → Option B) → m < 2 ^ 64 → ((x : By) → FitsBy script x → IfSome (f x) P) → IfSome (by_of script name m >>= f) P
by_then P script name m f lt = bind_fits (FitsBy script) P (by_of script name m) f (by_fits script (caller_of script.callers name) name m lt (named_fits _ script.callers))

dotted_fits : (script : ScriptData) (n : ℕ) (name bs : List ℕ) → n < 2 ^ 64 → IfSome (dotted_line_at script n name bs) (FitsLine script)
unfolding dotted_line_at call_result_at unit_at slot_at reference_at take_at ground_at call_at op_at acquired_at given_at refused_at pool_op_at made_at cloned_at ended_at
dotted_fits script n name bs lt = search (by_then, bind_fits FitsOp (FitsLine script), bind_fits FitsPoolOp (FitsLine script), reading) depth 40

looked_fits : (script : ScriptData) (step : ℕ) (name bs : List ℕ) → step < 2 ^ 64 → IfSome (look_line_at script step name bs) (FitsLine script)
unfolding look_line_at look_at
looked_fits script step name bs lt = search (bind_fits (FitsResult script) (FitsLine script), look_as_fits, reading) depth 16

poster_fits : (script : ScriptData) (bs : List ℕ) → IfSome (poster_at script bs) (FitsWho script)
unfolding poster_at
poster_fits script bs = search reading depth 16

poster_then : {B : Type 0} (P : B → Type 0) (script : ScriptData) (bs : List ℕ) (f : Who → Option B) → ((who : Who) → FitsWho script who → IfSome (f who) P) → IfSome (poster_at script bs >>= f) P
poster_then P script bs f = bind_fits (FitsWho script) P (poster_at script bs) f (poster_fits script bs)

worded_fits : (script : ScriptData) (n : ℕ) (w rest : List ℕ) → n < 2 ^ 64 → IfSome (worded_line_at script n w rest) (FitsLine script)
unfolding worded_line_at worded_result_at start_at done_at outcome_at
worded_fits script n w rest lt = search (poster_then, bind_fits (FitsEntryLine script) (FitsLine script), bind_fits FitsOutcome (FitsEntryLine script), reading) depth 24

numbered_fits : (script : ScriptData) (bs : List ℕ) → IfSome (numbered_line_at script bs) (FitsLine script)
unfolding numbered_line_at copied_line_at
numbered_fits script bs = search (dotted_fits, looked_fits, worded_fits, bind_fits (FitsResult script) (FitsLine script), copied_fits, reading) depth 20

-- ---- what an entry showed

upto_then : {B : Type 0} (P : B → Type 0) (mark : ℕ) (bs : List ℕ) (f : List ℕ × List ℕ → Option B) → ((x : List ℕ × List ℕ) → Lacks mark x.0 → IfSome (f x) P) → IfSome (upto mark bs >>= f) P
upto_then P mark bs f = bind_fits (λ x. Lacks mark x.0) P (upto mark bs) f (upto_fits mark bs)

without_feed_then : {B : Type 0} (P : B → Type 0) (text : List ℕ) (f : List ℕ → Option B) → (list_all is_no_feed text ≡ true → IfSome (f text) P) → IfSome (without_feed text >>= f) P
without_feed_then P text f h = bind_fits (λ w. (w ≡ text) × (list_all is_no_feed text ≡ true)) P (without_feed text) f (if_fits _ (list_all is_no_feed text) _ _ (λ is. (refl, is)) (λ is. tt)) (λ w own. rw own.0 (h own.1))

-- ---- every line

parsed_fits : (script : ScriptData) (bs : List ℕ) → IfSome (only_line_at script bs) (FitsLine script)
unfolding only_line_at event_line_at headed_line_at caller_at codec_at event_at output_at sound_at image_at chunk_at config_at reject_at
parsed_fits script bs = search (numbered_fits, bind_fits FitsEventLine (FitsLine script), upto_then, without_feed_then, reading) depth 50

pub line_fits : (script : ScriptData) (bs : List ℕ) → IfSome (line_at script bs) (λ read. FitsLine script read.0)
unfolding line_at
line_fits script bs =
    bind_fits (FitsLine script) (λ read. FitsLine script read.0) (only_line_at script bs) _ (parsed_fits script bs)
    (λ l fits. bind_any (λ read. FitsLine script read.0) (after (line_text script l) bs) _ (λ rest. fits))
