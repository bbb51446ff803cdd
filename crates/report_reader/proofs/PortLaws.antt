-- In which order callers made their steps: what was received was posted before.
use Rattle.std.proofs.Common.{ℕ, zero, suc, ◌≡◌, ◌<◌, ◌≤◌, ◌+◌, inl, inr, Bool, List, [], ◌∷◌, length, length-append, drop, Option, Some, None, refl, ap, sym, subst, ◌∙◌, arith}
use Rattle.std.specs.Prelude.{slice_get, slice_set, option_map}
use Rattle.std.proofs.lemmas.{Option.same_Some, List.length-map}
use Rattle.wc_base.specs.declared.who.Who.{Who}
use Rattle.wc_config.specs.declared.codec.CoderId.{CoderId}
use Rattle.wc_chunk.specs.declared.chunk.Chunk.{Chunk}
use Rattle.codec_model.specs.declared.entry.{Call.Call, Entry.Entry}
use Rattle.codec_accounts.specs.{Owed.at, Owed.append_at, Codec.CodecValue, Codec.codec_at}
use Rattle.codec_accounts.specs.ListLaws.{append_at_length, at_same, at_grows, get_some, result_kept, result_more, at_empty}
use Rattle.script_types.specs.declared.{script.ScriptData.ScriptData, script.OrderItem.OrderItem, script.CallerItem.CallerItem, steps.Step.Step, steps.MediaStep.MediaStep, steps.VariableKind.VariableKind}
use Rattle.report_text.specs.declared.result.StepResult.{StepResult}
use Rattle.media_variables.specs.Variables.{Medium, Came, Received, Brought, received_came, variables_of, posted_by, lendable_at, next_numbers, media_came}
use Rattle.run_model.specs.Recorded.{steps_of, chunk_for, copied_chunk}
use Rattle.run_model.specs.Follow.{Course, Move, Idle, Answer, Advance, Ask, Handle, Receive, Post, Get, front_of, waiting_at, found_at, encode_of, after_move, result_of, advance, call_move, handle_move, take_move, post_move, get_move, media_move, step_move, next_move, item_entry, follow_item, Follows, nothing_yet}
use Rattle.report_reader.proofs.{TableLaws.steps_past, StandingLaws.within}

-- how many results there are
abbrev pub total : List (List StepResult) → ℕ
total [] = 0
total (rs ∷ rest) = length rs + total rest

-- a step that receives from a port has this result
abbrev pub Receives : ScriptData → ℕ → ℕ → StepResult → Who → Type 0
Receives s c j r who = (port : ℕ) × ((bind : List ℕ) × ((kind : VariableKind) × ((slice_get (steps_of s c) j ≡ Some (Step.Media (MediaStep.Receive port bind kind))) × (r ≡ StepResult.From who))))

-- what a step received was posted by one of these
abbrev pub IsBehind : ScriptData → List (List StepResult) → ℕ → ℕ → StepResult → Type 0
IsBehind s rs c j r = (who : Who) → Receives s c j r who → who.step < length (at who.caller rs)

-- The results of callers' steps, one after another; each step that received something comes behind the one that posted it.
pub data Grown (s : ScriptData) : List (List StepResult) → Type 0 where
  Start : {rs : List (List StepResult)} → ((c : ℕ) → at c rs ≡ []) → Grown s rs
  More : {rs all : List (List StepResult)} (c : ℕ) (r : StepResult) → Grown s rs → c < length rs → IsBehind s rs c (length (at c rs)) r → all ≡ append_at c r rs → Grown s all

total_more : (c : ℕ) (r : StepResult) (rs : List (List StepResult)) → c < length rs → total (append_at c r rs) ≡ suc (total rs)
total_more c r [] lt = absurd (omega arith)
total_more zero r (l ∷ rs) lt = omega (arith, length-append l (r ∷ []))
total_more (suc c) r (l ∷ rs) lt = omega (arith, total_more c r rs (omega arith))

append_past : (c : ℕ) (r : StepResult) (rs : List (List StepResult)) → length rs ≤ c → append_at c r rs ≡ rs
append_past c r [] le = refl
append_past zero r (l ∷ rs) le = absurd (omega arith)
append_past (suc c) r (l ∷ rs) le = ap (λ (xs : List (List StepResult)). l ∷ xs) (append_past c r rs (omega arith))

pub empty_none : {X : Type 0} (xs : List X) (i : ℕ) (x : X) → xs ≡ [] → slice_get xs i ≡ Some x → ⊥
empty_none [] i x none is = absurd cc
empty_none (y ∷ ys) i x none is = absurd cc

-- a list that has all elements of another at their places is as long
longer : (xs ys : List StepResult) → ((j : ℕ) (r : StepResult) → slice_get xs j ≡ Some r → slice_get ys j ≡ Some r) → length xs ≤ length ys
longer [] ys h = omega arith
longer (x ∷ xs) [] h = (let bad = h 0 x refl in absurd cc)
longer (x ∷ xs) (y ∷ ys) h = (let rest = longer xs ys (λ j r is. h (suc j) r is) in omega (arith, rest))

at_least : (c d : ℕ) (r : StepResult) (rs : List (List StepResult)) → length (at c rs) ≤ length (at c (append_at d r rs))
at_least c d r rs = (let g = at_grows c d r rs in omega (arith, ap (λ (xs : List StepResult). length xs) g.1, length-append (at c rs) g.0))

-- what holds of the results of a caller's first n steps, where it holds of what was posted to them
module _ (s : ScriptData) (all : List (List StepResult)) (P : ℕ → ℕ → ℕ → Type 0) where
  -- it holds, with one receive fewer, of each step that posted what one of these received
  abbrev pub HoldsOfPosters : ℕ → ℕ → ℕ → Type 0
  HoldsOfPosters d c n = (j : ℕ) (r : StepResult) (who : Who) → j < n → slice_get (at c all) j ≡ Some r → Receives s c j r who → (e : ℕ) × ((d ≡ suc e) × P e who.caller who.step)

  abbrev pub Each : Type 0
  Each = (d c n : ℕ) → n ≤ length (at c all) → HoldsOfPosters d c n → P d c n

  module _ (each : Each) where
    -- the results so far are those of all steps
    abbrev Among : List (List StepResult) → Type 0
    Among rs = (c j : ℕ) (r : StepResult) → slice_get (at c rs) j ≡ Some r → slice_get (at c all) j ≡ Some r

    long : (rs : List (List StepResult)) → Among rs → (c : ℕ) → length (at c rs) ≤ length (at c all)
    long rs among c = longer (at c rs) (at c all) (λ j r is. among c j r is)

    -- each of these has its poster among those before
    abbrev Posted : List (List StepResult) → List (List StepResult) → Type 0
    Posted rs old = (c j : ℕ) (r : StepResult) (who : Who) → slice_get (at c rs) j ≡ Some r → Receives s c j r who → who.step < length (at who.caller old)

    moved : (d c k j : ℕ) (x r : StepResult) (who : Who) → c ≡ d → j ≡ k → r ≡ x → Receives s c j r who → Receives s d k x who
    moved d c k j x r who a b e got = subst (λ (y : StepResult). Receives s d k y who) e (subst (λ (i : ℕ). Receives s d i r who) b (subst (λ (i : ℕ). Receives s i j r who) a got))

    posted_more : (old : List (List StepResult)) (d : ℕ) (x : StepResult) → IsBehind s old d (length (at d old)) x → Posted old old → Posted (append_at d x old) old
    posted_more old d x behind was c j r who is got = elim (result_more c d j x r old is) [
      | inl before ↦ was c j r who before got
      | inr new ↦ behind who (moved d c (length (at d old)) j x r who new.number (new.place ∙ ap (λ (k : ℕ). length (at k old)) new.number) new.value got)
    ]

    posters : (rs : List (List StepResult)) → Grown s rs → Posted rs rs
    posters rs (Start none) c j r who is got = absurd (empty_none (at c rs) j r (none c) is)
    posters rs (More {rs = old} d x grown lt behind same) c j r who is got =
        let now : slice_get (at c (append_at d x old)) j ≡ Some r = subst (λ (xs : List (List StepResult)). slice_get (at c xs) j ≡ Some r) same is in
        let before = posted_more old d x behind (posters old grown) c j r who now got in
        let further = at_least who.caller d x old in
        subst (λ (xs : List (List StepResult)). who.step < length (at who.caller xs)) (sym same) (omega (arith, before, further))

    less_one : (d k : ℕ) → suc k ≤ d → (e : ℕ) × ((d ≡ suc e) × (k ≤ e))
    less_one zero k le = absurd (omega (arith, le))
    less_one (suc e) k le = (e, (refl, omega (arith, le)))

    by_grown : (rs : List (List StepResult)) → Grown s rs → Among rs → (d c n : ℕ) → total rs ≤ d → n ≤ length (at c rs) → P d c n
    by_grown rs (Start none) among d c n enough le =
        let no : length (at c rs) ≡ 0 = ap (λ (xs : List StepResult). length xs) (none c) in
        let here : n ≡ 0 = omega (arith, le, no) in
        subst (λ (m : ℕ). P d c m) (sym here) (each d c 0 (omega arith) (λ j r who lt. absurd (omega (arith, lt))))
    by_grown rs (More {rs = old} b x grown lt behind same) among d c n enough le =
        let count : total rs ≡ suc (total old) = ap total same ∙ total_more b x old lt in
        let less = less_one d (total old) (omega (arith, count, enough)) in
        each d c n (omega (arith, le, long rs among c)) (λ j r who lt there got.
        let here = get_some (at c rs) j (omega (arith, lt, le)) in
        let value : here.0 ≡ r = same_Some here.0 r (sym (among c j here.0 here.1) ∙ there) in
        let now : slice_get (at c (append_at b x old)) j ≡ Some r = subst (λ (xs : List (List StepResult)). slice_get (at c xs) j ≡ Some r) same (here.1 ∙ ap (λ (y : StepResult). Some y) value) in
        let before = posted_more old b x behind (posters old grown) c j r who now got in
        let older : Among old = λ k i y is. among k i y (subst (λ (xs : List (List StepResult)). slice_get (at k xs) i ≡ Some y) (sym same) (result_kept k b i x y old is)) in
        (less.0, (less.1.0, by_grown old grown older less.0 who.caller who.step less.1.1 (omega (arith, before)))))

    -- it holds of all steps that were made
    pub by_ports : Grown s all → (d c n : ℕ) → total all ≤ d → n ≤ length (at c all) → P d c n
    by_ports grown d c n enough le = by_grown all grown (λ k i y is. is) d c n enough le

-- ---- an order makes them so

-- a move of a caller's step gives a result to that caller alone, and posts as that step
abbrev IsMoveOf : Who → Move → Type 0
IsMoveOf who Idle = Unit {0}
IsMoveOf who (Answer c r) = c ≡ who.caller
IsMoveOf who (Advance k e) = Unit {0}
IsMoveOf who (Ask by k x) = by.caller ≡ who.caller
IsMoveOf who (Handle by y) = by.caller ≡ who.caller
IsMoveOf who (Receive by k n y) = by.caller ≡ who.caller
IsMoveOf who (Post by port m y) = by ≡ who
IsMoveOf who (Get by port y) = by.caller ≡ who.caller

-- the result that a move gives, if it gives one
abbrev result_by : Move → Course → Option StepResult
result_by Idle v = None
result_by (Answer c r) v = Some r
result_by (Advance k e) v = None
result_by (Ask who k x) v = Some (result_of k x (codec_at k v.codecs))
result_by (Handle who y) v = Some y.answer
result_by (Receive who k n y) v = Some y.answer
result_by (Post who port m y) v = Some y.answer
result_by (Get who port y) v = Some y.answer

-- the results behind it
abbrev results_behind : ℕ → Option StepResult → List (List StepResult) → List (List StepResult)
results_behind c None rs = rs
results_behind c (Some r) rs = append_at c r rs

behind_move : (who : Who) (m : Move) (v : Course) → IsMoveOf who m → (after_move m v).callers ≡ results_behind who.caller (result_by m v) v.callers
behind_move who Idle v by = refl
behind_move who (Answer c r) v by = ap (λ (k : ℕ). append_at k r v.callers) by
behind_move who (Advance k e) v by = refl
behind_move who (Ask w k x) v by = ap (λ (i : ℕ). append_at i (result_of k x (codec_at k v.codecs)) v.callers) by
behind_move who (Handle w y) v by = ap (λ (k : ℕ). append_at k y.answer v.callers) by
behind_move who (Receive w k n y) v by = ap (λ (i : ℕ). append_at i y.answer v.callers) by
behind_move who (Post w port None y) v by = ap (λ (x : Who). append_at x.caller y.answer v.callers) by
behind_move who (Post w port (Some m) y) v by = ap (λ (x : Who). append_at x.caller y.answer v.callers) by
behind_move who (Get w port y) v by = ap (λ (k : ℕ). append_at k y.answer v.callers) by

call_by : (who : Who) (k : ℕ) (o : Option Call) → IsMoveOf who (call_move who k o)
call_by who k None = refl
call_by who k (Some x) = refl

handle_by : (who : Who) (o : Option Came) → IsMoveOf who (handle_move who o)
handle_by who None = tt
handle_by who (Some y) = refl

take_by : (who : Who) (k : ℕ) (d : CodecValue) (o : Option Came) → IsMoveOf who (take_move who k d o)
take_by who k d None = refl
take_by who k d (Some y) = refl

post_by : (who : Who) (port : ℕ) (m : Option Medium) (o : Option Came) → IsMoveOf who (post_move who port m o)
post_by who port m None = tt
post_by who port m (Some y) = refl

get_by : (who : Who) (port : ℕ) (o : Option Came) → IsMoveOf who (get_move who port o)
get_by who port None = tt
get_by who port (Some y) = refl

media_by : (s : ScriptData) (files : List (List Chunk)) (who : Who) (x : MediaStep) (v : Course) → IsMoveOf who (media_move s files who x v)
media_by s files who (MediaStep.Take on bind kind) v =
    let d = codec_at on v.codecs in
    let b : Brought = record { chunk = None; taken = found_at on d; received = None } in
    take_by who on d (media_came (next_numbers v.media.pool) who b (MediaStep.Take on bind kind) (variables_of who.caller v.media.variables))
media_by s files who (MediaStep.Encode on content) v = call_by who on (option_map (encode_of v.media.pool (codec_at on v.codecs)) (lendable_at (variables_of who.caller v.media.variables) content.step))
media_by s files who (MediaStep.Post to content) v =
    let b : Brought = record { chunk = None; taken = None; received = None } in
    let vs = variables_of who.caller v.media.variables in
    post_by who to (posted_by (MediaStep.Post to content) vs) (media_came (next_numbers v.media.pool) who b (MediaStep.Post to content) vs)
media_by s files who (MediaStep.Receive from bind kind) v =
    let b : Brought = record { chunk = None; taken = None; received = waiting_at from v } in
    get_by who from (media_came (next_numbers v.media.pool) who b (MediaStep.Receive from bind kind) (variables_of who.caller v.media.variables))
media_by s files who x v =
    let b : Brought = record { chunk = copied_chunk files (steps_of s who.caller) x; taken = None; received = None } in
    handle_by who (media_came (next_numbers v.media.pool) who b x (variables_of who.caller v.media.variables))

step_by : (s : ScriptData) (files : List (List Chunk)) (who : Who) (x : Step) (v : Course) → IsMoveOf who (step_move s files who x v)
step_by s files who (Step.Decode on chunk) v = call_by who on (option_map (λ x. Call.Decode x) (chunk_for files (steps_of s who.caller) (variables_of who.caller v.media.variables) chunk.step))
step_by s files who (Step.Media x) v = media_by s files who x v
step_by s files who x v = refl

next_by : (s : ScriptData) (files : List (List Chunk)) (who : Who) (o : Option Step) (v : Course) → IsMoveOf who (next_move s files who o v)
next_by s files who None v = tt
next_by s files who (Some x) v = step_by s files who x v

-- what waits in ports was posted by steps that were made
abbrev Waits : List (List StepResult) → List (List Received) → Type 0
Waits rs ports = (port i : ℕ) (p : Received) → slice_get (at port ports) i ≡ Some p → p.poster.step < length (at p.poster.caller rs)

-- of a course: how its results have grown, and that what waits was posted
record IsOrdered (s : ScriptData) (v : Course) : Type 0 where
  grown : Grown s v.callers
  waits : Waits v.callers v.ports
  callers : length v.callers ≡ length s.callers

-- where one goes out of a port, what still waits there waited before
fewer : {X : Type 0} (ls : List (List X)) (k q i : ℕ) (p : X) → slice_get (at q (slice_set ls k (drop 1 (at k ls)))) i ≡ Some p → (n : ℕ) × (slice_get (at q ls) n ≡ Some p)
fewer [] k q i p is = absurd cc
fewer ([] ∷ ls) zero zero i p is = absurd cc
fewer ((x ∷ l) ∷ ls) zero zero i p is = (suc i, is)
fewer (l ∷ ls) zero (suc q) i p is = (i, is)
fewer (l ∷ ls) (suc k) zero i p is = (i, is)
fewer (l ∷ ls) (suc k) (suc q) i p is = fewer ls k q i p is

posted_waits : (who : Who) (port : ℕ) (m : Medium) (rs : List (List StepResult)) (ports : List (List Received)) → who.step < length (at who.caller rs) → Waits rs ports → Waits rs (append_at port (record { poster = who; medium = m }) ports)
posted_waits who port m rs ports new waits q i p is = elim (result_more q port i (record { poster = who; medium = m }) p ports is) [
  | inl was ↦ waits q i p was
  | inr here ↦ (let poster : p.poster ≡ who = ap (λ (x : Received). x.poster) here.value in subst (λ (w : Who). w.step < length (at w.caller rs)) (sym poster) new)
]

ports_after : (who : Who) (m : Move) (v : Course) (rs : List (List StepResult)) → IsMoveOf who m → ((r : StepResult) → result_by m v ≡ Some r → who.step < length (at who.caller rs)) → Waits rs v.ports → Waits rs (after_move m v).ports
ports_after who (Post w port (Some m) y) v rs by new waits = posted_waits w port m rs v.ports (subst (λ (x : Who). x.step < length (at x.caller rs)) (sym by) (new y.answer refl)) waits
ports_after who (Post w port None y) v rs by new waits = waits
ports_after who (Get w port y) v rs by new waits = λ q i p is. (let was = fewer v.ports port q i p is in waits q was.0 p was.1)
ports_after who Idle v rs by new waits = waits
ports_after who (Answer c r) v rs by new waits = waits
ports_after who (Advance k e) v rs by new waits = waits
ports_after who (Ask w k x) v rs by new waits = waits
ports_after who (Handle w y) v rs by new waits = waits
ports_after who (Receive w k n y) v rs by new waits = waits

-- what is received waited in the port
front_is : (ps : List Received) (p : Received) → front_of ps ≡ Some p → slice_get ps 0 ≡ Some p
front_is [] p is = absurd cc
front_is (x ∷ ps) p is = is

got_behind : (rs : List (List StepResult)) (ps : List Received) (o : Option Received) (j : ℕ) (vs : List (Option Medium)) (r : StepResult) (who : Who) → ((i : ℕ) (p : Received) → slice_get ps i ≡ Some p → p.poster.step < length (at p.poster.caller rs)) → front_of ps ≡ o
    → (received_came j o vs).answer ≡ r → r ≡ StepResult.From who → who.step < length (at who.caller rs)
got_behind rs ps None j vs r who waits is answer from = absurd (let bad : StepResult.Nothing ≡ StepResult.From who = answer ∙ from in cc)
got_behind rs ps (Some p) j vs r who waits is answer from =
    let both : StepResult.From p.poster ≡ StepResult.From who = answer ∙ from in
    let same : p.poster ≡ who = cc in
    subst (λ (w : Who). w.step < length (at w.caller rs)) same (waits 0 p (front_is ps p is))

module _ (s : ScriptData) (files : List (List Chunk)) where
  -- the next step of a caller
  caller_move : ℕ → Course → Move
  caller_move c v = let j = length (at c v.callers) in next_move s files (record { caller = c; step = j }) (slice_get (steps_of s c) j) v

  behind_next : (c : ℕ) (v : Course) (r : StepResult) → Waits v.callers v.ports → result_by (caller_move c v) v ≡ Some r → IsBehind s v.callers c (length (at c v.callers)) r
  unfolding caller_move
  behind_next c v r waits is who got =
      let j = length (at c v.callers) in
      let port = got.0 in
      let by : Who = record { caller = c; step = j } in
      let moves : result_by (next_move s files by (Some (Step.Media (MediaStep.Receive port got.1.0 got.1.1.0))) v) v ≡ Some r = ap (λ (o : Option Step). result_by (next_move s files by o v) v) (sym got.1.1.1.0) ∙ is in
      got_behind v.callers (at port v.ports) (waiting_at port v) j (variables_of c v.media.variables) r who (λ i p there. waits port i p there) refl (same_Some _ r moves) got.1.1.1.1

  grown_behind : (c : ℕ) (v : Course) (o : Option StepResult) → c < length v.callers → Grown s v.callers → ((r : StepResult) → o ≡ Some r → IsBehind s v.callers c (length (at c v.callers)) r) → Grown s (results_behind c o v.callers)
  grown_behind c v None lt grown behind = grown
  grown_behind c v (Some r) lt grown behind = More c r grown lt (behind r refl) refl

  result_long : (c : ℕ) (o : Option StepResult) (rs : List (List StepResult)) (r : StepResult) → c < length rs → o ≡ Some r → length (at c rs) < length (at c (results_behind c o rs))
  result_long c None rs r lt is = absurd cc
  result_long c (Some x) rs r lt is = (let same = at_same c x rs lt in omega (arith, ap (λ (xs : List StepResult). length xs) same, length-append (at c rs) (x ∷ [])))

  long_behind : (c d : ℕ) (o : Option StepResult) (rs : List (List StepResult)) → length (at d rs) ≤ length (at d (results_behind c o rs))
  long_behind c d None rs = omega arith
  long_behind c d (Some r) rs = at_least d c r rs

  count_behind : (c : ℕ) (o : Option StepResult) (rs : List (List StepResult)) → length (results_behind c o rs) ≡ length rs
  count_behind c None rs = refl
  count_behind c (Some r) rs = append_at_length c r rs

  moves_by : (c : ℕ) (v : Course) → IsMoveOf (record { caller = c; step = length (at c v.callers) }) (caller_move c v)
  unfolding caller_move
  moves_by c v = next_by s files (record { caller = c; step = length (at c v.callers) }) (slice_get (steps_of s c) (length (at c v.callers))) v

  ordered_step : (c : ℕ) (v : Course) → c < length v.callers → IsOrdered s v → IsOrdered s (after_move (caller_move c v) v)
  ordered_step c v lt h =
      let m = caller_move c v in
      let who : Who = record { caller = c; step = length (at c v.callers) } in
      let by = moves_by c v in
      let o = result_by m v in
      let now : (after_move m v).callers ≡ results_behind c o v.callers = behind_move who m v by in
      let grown = grown_behind c v o lt h.grown (λ r is. behind_next c v r h.waits is) in
      let older : Waits (results_behind c o v.callers) v.ports = λ q i p is. (let was = h.waits q i p is in omega (arith, was, long_behind c p.poster.caller o v.callers)) in
      let waits = ports_after who m v (results_behind c o v.callers) by (λ r is. result_long c o v.callers r lt is) older in
      record {
        grown = subst (Grown s) (sym now) grown;
        waits = subst (λ (rs : List (List StepResult)). Waits rs (after_move m v).ports) (sym now) waits;
        callers = ap (λ (rs : List (List StepResult)). length rs) now ∙ count_behind c o v.callers ∙ h.callers;
      }

  -- no caller has this number
  past_move : (c : ℕ) (v : Course) → length v.callers ≤ c → length v.callers ≡ length s.callers → caller_move c v ≡ Idle
  unfolding caller_move
  past_move c v le same = (let none : steps_of s c ≡ [] = steps_past c s.callers (omega (arith, le, same)) in rw none refl)

  ordered_caller : (c : ℕ) (v : Course) → IsOrdered s v → IsOrdered s (after_move (caller_move c v) v)
  ordered_caller c v h = elim (within c (length v.callers)) [
    | inl lt ↦ ordered_step c v lt h
    | inr le ↦ subst (λ (m : Move). IsOrdered s (after_move m v)) (sym (past_move c v le h.callers)) h
  ]

  ordered_advance : (k : ℕ) (o : Option Entry) (v : Course) → IsOrdered s v → IsOrdered s (after_move (advance k o) v)
  ordered_advance k None v h = h
  ordered_advance k (Some e) v h = record { grown = h.grown; waits = h.waits; callers = h.callers }

  ordered_item : (wants : Bool) (x : OrderItem) (v : Course) → IsOrdered s v → IsOrdered s (follow_item s files wants x v)
  unfolding caller_move
  ordered_item wants (OrderItem.Caller c) v h = ordered_caller c v h
  ordered_item wants (OrderItem.Start k) v h = ordered_advance k (item_entry wants (OrderItem.Start k) (codec_at k v.codecs)) v h
  ordered_item wants (OrderItem.Done k moment) v h = ordered_advance k (item_entry wants (OrderItem.Done k moment) (codec_at k v.codecs)) v h
  ordered_item wants (OrderItem.Turn k) v h = ordered_advance k (item_entry wants (OrderItem.Turn k) (codec_at k v.codecs)) v h
  ordered_item wants (OrderItem.Reclaim k moment) v h = ordered_advance k (item_entry wants (OrderItem.Reclaim k moment) (codec_at k v.codecs)) v h

  ordered_all : (items : List OrderItem) (v u : Course) → Follows s files items v u → IsOrdered s v → IsOrdered s u
  ordered_all [] v u follows h = subst (IsOrdered s) (sym follows) h
  ordered_all (x ∷ items) v u follows h = ordered_all items (follow_item s files follows.0 x v) u follows.1 (ordered_item follows.0 x v h)

  -- what an order makes has grown so
  pub order_grows : (made : List CoderId) (items : List OrderItem) (u : Course) → Follows s files items (nothing_yet s made) u → Grown s u.callers
  order_grows made items u follows =
      let empty : CallerItem → List StepResult = λ c. [] in
      let start : IsOrdered s (nothing_yet s made) = record {
        grown = Start (λ c. at_empty c s.callers);
        waits = λ port i p is. absurd (empty_none (at port (nothing_yet s made).ports) i p (at_empty port s.ports) is);
        callers = length-map s.callers empty;
      } in
      (ordered_all items (nothing_yet s made) u follows start).grown
