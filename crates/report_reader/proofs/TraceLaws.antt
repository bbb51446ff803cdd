-- A codec is followed, entry after entry.
use Rattle.std.proofs.Common.{ℕ, ◌≡◌, suc, ◌+◌, ◌-◌, ◌<◌, take, drop, get_or, List, [], ◌∷◌, ◌++◌, length, Option, Some, None, refl, sym, ap, subst, ◌∙◌, arith, append_assoc, append-nil, length-append}
use Rattle.std.specs.Prelude.{option_map, option_and_then}
use Rattle.std.proofs.Math.Seq.{take-length}
use Rattle.wc_chunk.specs.declared.chunk.Chunk.{Chunk}
use Rattle.codec_definitions.specs.declared.unit.Unit as media
use Rattle.codec_model.specs.declared.entry.{Opening.Opening, Entry.Entry, Event.Event, Shown.Shown}
use Rattle.wc_config.specs.declared.kind.Kind.{Kind}
use Rattle.codec_model.specs.{Replay.State, Replay.opening_state, Shown.shows, Shown.shown_at}
use Rattle.codec_follow.specs.Follow.{follow_step, filled, filled_at, each_filled_from, each_filled}
use Rattle.codec_follow.specs.Followed.{FollowerValue, follower_of, Follows}
use Rattle.script_types.specs.declared.script.ScriptData.{ScriptData}
use Rattle.run_model.specs.declared.run.CodecTrace.{CodecTrace}
use Rattle.report_text.specs.declared.line.EntryLine.{EntryLine}
use Rattle.report_reader.specs.{declared.known.Known.Known, Arguments.entry_of, Next.shown_next, Next.NextIs}
use Rattle.report_reader.specs.Read.{next_of, entry_then, entries_from, trace_of}

-- ---- the next entry

abbrev some : {A : Type 0} → A → Option A
some x = Some x

-- an entry with each of these
abbrev paired : Entry → Option State → Option (Entry × State)
paired e o = option_map {U = Entry × State} (λ u. (e, u)) o

abbrev noted : Entry → Option Shown → Option (Entry × Shown)
noted e found = option_map {U = Entry × Shown} (λ x. (e, x)) found

-- with what it shows after a state
abbrev showing_at : State → Option (Entry × State) → Option (Entry × Shown)
showing_at s o = option_map {U = Entry × Shown} (λ x. (x.0, shown_at x.0 s)) o

pub entry_follows : (script : ScriptData) (media_of : List (List Chunk)) (known : Known) (k place : ℕ) (t : EntryLine) (e : Entry) (old new : FollowerValue) (found : Option Shown) → entry_of script media_of known k place t ≡ Some e → Follows e old found new
    → NextIs script media_of known k place t old (noted e found) new
entry_follows script media_of known k place t e old new found is follows = record {
  answer = λ s same. grind (arith, is, follows.answer s same);
  after = λ s same d u next. grind (arith, is, follows.after s same, next);
}

-- ---- the loop

-- So far these entries and what they show were made, and the rest is told after the follower's state.
pub record IsTracing (script : ScriptData) (media_of : List (List Chunk)) (known : Known) (k : ℕ) (o : Opening) (told : List EntryLine) (units : List media.Unit) (follower : FollowerValue) (entries : List Entry) (shown : List Shown) (rest : List EntryLine) (left : List media.Unit) : Type 0 where
  pub state : State
  pub is : follower_of state ≡ follower
  pub entries_are : entries ++ entries_from script media_of known k (length entries) state rest ≡ entries_from script media_of known k 0 (opening_state o) told
  pub shown_are : shown ++ each_filled_from o.kind (entries_from script media_of known k (length entries) state rest) state left ≡ each_filled o (entries_from script media_of known k 0 (opening_state o) told) units

pub tracing_start : (script : ScriptData) (media_of : List (List Chunk)) (known : Known) (k : ℕ) (o : Opening) (told : List EntryLine) (units : List media.Unit) (follower : FollowerValue) → follower ≡ follower_of (opening_state o)
    → IsTracing script media_of known k o told units follower [] [] told units
tracing_start script media_of known k o told units follower is = record { state = opening_state o; is = sym is; entries_are = refl; shown_are = refl }

-- the entry is the next one, and this is the state after it
abbrev IsNext : ScriptData → List (List Chunk) → Known → ℕ → ℕ → EntryLine → State → Entry → Shown → Type 0
IsNext script media_of known k place t s e blank = (u : State) × (follow_step e s ≡ Some u) × (next_of script media_of known k place s t ≡ Some (e, u)) × (blank ≡ shown_at e s)

-- the next entry is the one that its line tells, and follows
bound : (s : State) (e : Entry) (u : State) (p : Option Entry) → option_and_then {U = Entry × State} (λ d. paired d (follow_step d s)) p ≡ Some (e, u) → (p ≡ Some e) × (follow_step e s ≡ Some u)
bound s e u p h = grind (arith, h)

-- what holds of no entries, and of the next one with those behind it, holds of the entries that lines tell
pub by_next : (script : ScriptData) (media_of : List (List Chunk)) (known : Known) (k place : ℕ) (t : EntryLine) (ts : List EntryLine) (s : State) (P : List Entry → Type 0) → P []
    → ((e : Entry) (u : State) → entry_of script media_of known k place t ≡ Some e → follow_step e s ≡ Some u → P (e ∷ entries_from script media_of known k (place + 1) u ts)) → P (entries_from script media_of known k place s (t ∷ ts))
by_next script media_of known k place t ts s P none more = by (next_of script media_of known k place s t) refl
  where
    by : (o : Option (Entry × State)) → next_of script media_of known k place s t ≡ o → P (entry_then (λ u. entries_from script media_of known k (place + 1) u ts) o)
    by None is = none
    by (Some (e, u)) is = let parts = bound s e u (entry_of script media_of known k place t) is in more e u parts.0 parts.1

next_in : (script : ScriptData) (media_of : List (List Chunk)) (known : Known) (k place : ℕ) (t : EntryLine) (s : State) (e : Entry) (blank : Shown) → shown_next script media_of known k place s t ≡ Some (e, blank) → IsNext script media_of known k place t s e blank
next_in script media_of known k place t s e blank h = by (next_of script media_of known k place s t) refl h
  where
    by : (o : Option (Entry × State)) → next_of script media_of known k place s t ≡ o → showing_at s o ≡ Some (e, blank) → IsNext script media_of known k place t s e blank
    by None is none = absurd cc
    by (Some (d, u)) is there =
        let same : (d ≡ e) × (shown_at d s ≡ blank) = grind (arith, there) in
        let next : next_of script media_of known k place s t ≡ Some (e, u) = is ∙ ap (λ (x : Entry). some (x, u)) same.0 in
        (u, (bound s e u (entry_of script media_of known k place t) next).1, next, sym same.1 ∙ ap (λ (x : Entry). shown_at x s) same.0)

none_next : (s : State) (o : Option (Entry × State)) → showing_at s o ≡ None → o ≡ None
none_next s o h = grind (arith, h)

rest_split : {X : Type 0} (rest : List X) (t : X) → 0 < length rest → t ≡ get_or rest 0 t → rest ≡ t ∷ take (length rest - 1) (drop 1 rest)
rest_split [] t lt is = absurd (omega arith)
rest_split (x ∷ xs) t lt is = let count : suc (length xs) - 1 ≡ length xs = omega arith in rw (count, take-length xs, is) refl

abbrev filled_with : Kind → Shown → List media.Unit → Shown
filled_with kind blank left = record { turn = blank.turn; events = (filled kind blank.events left).0 }

-- the loop goes on with what was pushed
pub tracing_more : (script : ScriptData) (media_of : List (List Chunk)) (known : Known) (k : ℕ) (o : Opening) (told : List EntryLine) (units : List media.Unit) (follower new : FollowerValue) (entries made : List Entry) (shown showing : List Shown) (t : EntryLine) (rest : List EntryLine) (left behind : List media.Unit) (e : Entry) (blank x : Shown) (events : List Event)
    → 0 < length rest → t ≡ get_or rest 0 t
    → IsTracing script media_of known k o told units follower entries shown rest left → NextIs script media_of known k (length entries) t follower (Some (e, blank)) new
    → events ≡ (filled o.kind blank.events left).0 → behind ≡ (filled o.kind blank.events left).1 → x ≡ record { turn = blank.turn; events = events } → made ≡ entries ++ (e ∷ []) → showing ≡ shown ++ (x ∷ [])
    → IsTracing script media_of known k o told units new made showing (take (length rest - 1) (drop 1 rest)) behind
tracing_more script media_of known k o told units follower new entries made shown showing t rest left behind e blank x events lt is tracing next events_are behind_is x_is made_is showing_is =
    let s = tracing.state in
    let n = next_in script media_of known k (length entries) t s e blank (next.answer s tracing.is) in
    let more = take (length rest - 1) (drop 1 rest) in
    let split = rest_split rest t lt is in
    let tail = entries_from script media_of known k (length entries + 1) n.0 more in
    record {
      state = n.0;
      is = next.after s tracing.is e n.0 n.2;
      entries_are = rw (made_is, length-append entries (e ∷ [])) (append_assoc entries (e ∷ []) tail ∙ rw (split, n.2) at tracing.entries_are);
      shown_are = rw (made_is, showing_is, x_is, events_are, behind_is, length-append entries (e ∷ []))
          (subst (λ (b : Shown). (shown ++ (filled_with o.kind b left ∷ [])) ++ each_filled_from o.kind tail n.0 (filled o.kind b.events left).1 ≡ each_filled o (entries_from script media_of known k 0 (opening_state o) told) units) (sym n.3)
          (append_assoc shown (filled_at o.kind e s left ∷ []) (each_filled_from o.kind tail n.0 (filled o.kind (shows e s) left).1) ∙ rw (split, n.2, n.1) at tracing.shown_are));
    }

-- the loop stops at an entry that is not to be had
pub tracing_stop : (script : ScriptData) (media_of : List (List Chunk)) (known : Known) (k : ℕ) (o : Opening) (told : List EntryLine) (units : List media.Unit) (follower new : FollowerValue) (entries : List Entry) (shown : List Shown) (t : EntryLine) (rest : List EntryLine) (left : List media.Unit) (trace : CodecTrace)
    → 0 < length rest → t ≡ get_or rest 0 t
    → IsTracing script media_of known k o told units follower entries shown rest left → NextIs script media_of known k (length entries) t follower None new → trace ≡ record { opening = o; entries = entries; shown = shown }
    → trace ≡ trace_of script media_of known k o told units
tracing_stop script media_of known k o told units follower new entries shown t rest left trace lt is tracing next made =
    grind (arith, append-nil, rest_split rest t lt is, none_next, next.answer tracing.state tracing.is, tracing.entries_are, tracing.shown_are, made)

-- the first item, whatever stands for one where there is none
pub head_is : {X : Type 0} (rest : List X) (d : X) → 0 < length rest → get_or rest 0 d ≡ get_or rest 0 (get_or rest 0 d)
head_is [] d lt = absurd (omega arith)
head_is (x ∷ xs) d lt = refl
