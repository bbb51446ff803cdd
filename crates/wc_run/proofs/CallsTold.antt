-- The calls in the codecs' logs are those that the callers' results tell.
use Rattle.std.proofs.Common.{ℕ, suc, ◌≡◌, ◌+◌, List, [], ◌∷◌, ◌++◌, map, Option, Some, None, refl, ap, sym, ◌∙◌, arith}
use Rattle.std.specs.Prelude.{slice_get, Bool, true, false}
use Rattle.std.specs.List.{sum_by}
use Rattle.std.proofs.lemmas.List.Sums.{sum_by-cons}
use Rattle.wc_base.specs.Views.{Log}
use Rattle.wc_base.specs.declared.seat.Passage.TheVariants.{Made, Look}
use Rattle.wc_base.specs.declared.who.Who.{Who}
use Rattle.codec_model.specs.declared.entry.Call.{Call}
use Rattle.codec_model.specs.declared.entry.Entry.{Entry}
use Rattle.codec_model.specs.declared.entry.Entry.TheVariants as entry
use Rattle.codec_model.specs.declared.entry.Opening.{Opening}
use Rattle.codec_accounts.specs.Bags.{SameBag}
use Rattle.codec_accounts.specs.Boxes.{Act, Asks, Begins, Ends, Removes, Other, Holds, holds_by, holds_after_end, holds_removed}
use Rattle.codec_accounts.specs.Calls.{who_of, named_at}
use Rattle.codec_accounts.specs.Owed.{owed}
use Rattle.codec_accounts.specs.Registry.{Box}
use Rattle.codec_logs.specs.declared.event.Event.{Event}
use Rattle.codec_logs.specs.Logs.{Track, entry_of, history_of, acquires_of, box_of, act_in, opening_track, track_made}
use Rattle.codec_desk.specs.DeskLaws.{map_both}
use Rattle.shared_codec.specs.Dues.{Called, call_in, call_dues}
use Rattle.shared_codec.specs.Sums.{all_dues}
use Rattle.report_text.specs.declared.result.StepResult.{StepResult}
use Rattle.report_text.specs.declared.result.StepResult.TheVariants as result
use Rattle.media_accounts.specs.Accounts.{step_by}
use Rattle.run_model.specs.Fits.{mark_of}
use Rattle.run_model.specs.FitsLaws.{made_at}
use Rattle.run_laws.specs.Paid.{histories_of}
use Rattle.call_laws.specs.Callers.{all_named, told_by, told_of, all_told}
use Rattle.desk_callers.specs.Deeds.{Deed, called_as, calls_by, calls_of, results_of}
use Rattle.wc_run.specs.Acted.{calls_of_all}
use Rattle.wc_run.specs.Made.{calls_in}

-- a call's codec and place, and the step that it names
abbrev pub name_of : Called → ℕ × (ℕ × Who)
name_of x = (x.codec, (x.place, x.who))

-- ---- in the codecs' logs

after_end : (old : Bool) (b : Option Box) (x : Holds Box) → (holds_after_end old b x).place ≡ suc x.place
after_end true b x = refl
after_end false b x = refl

after_removal : (runs : Bool) (x : Holds Box) → (holds_removed runs x).place ≡ suc x.place
after_removal true x = refl
after_removal false x = refl

next_place : (a : Act) (b : Option Box) (x : Holds Box) → (holds_by a b x).place ≡ suc x.place
next_place (Asks id) b x = refl
next_place Begins b x = refl
next_place Ends b x = after_end x.old b x
next_place Removes b x = after_removal x.runs x
next_place Other b x = refl

abbrev named_from : ℕ → List Entry → List (ℕ × Who)
named_from place h = owed (λ e (s : Unit {0}). s) (λ place e s. named_at place (who_of e)) place tt h

one_named : (k place : ℕ) (e : Entry) → map name_of (call_in k place e) ≡ map (λ x. (k, x)) (named_at place (who_of e))
one_named k place (entry.Call who x) = refl
one_named k place (entry.Start epoch item) = refl
one_named k place (entry.Done epoch item moment o) = refl
one_named k place entry.Turn = refl
one_named k place (entry.Reclaim moment) = refl

log_names : (k place : ℕ) (x : Track) (l : Log Event) → x.holds.place ≡ place → map name_of (all_dues call_dues k x l) ≡ map (λ y. (k, y)) (named_from place (history_of l))
log_names k place x [] is = refl
log_names k place x ((n, Look) ∷ ps) is = log_names k place x ps is
log_names k place x ((n, Made e) ∷ ps) is =
    let h : Entry = entry_of e in
    let next : (track_made n e x).holds.place ≡ suc place = next_place (act_in e x) (box_of (acquires_of e.acquires)) x.holds ∙ ap suc is in
    let rest = log_names k (suc place) (track_made n e x) ps next in
    let one : map name_of (call_in k x.holds.place h) ≡ map (λ y. (k, y)) (named_at place (who_of h)) = ap (λ (p : ℕ). map name_of (call_in k p h)) is ∙ one_named k place h in
    map_both name_of (call_in k x.holds.place h) (all_dues call_dues k (track_made n e x) ps)
    ∙ ((λ i. one i ++ rest i) ∙ sym (map_both (λ y. (k, y)) (named_at place (who_of h)) (named_from (suc place) (history_of ps))))

logs_name : (opening : ℕ → Opening) (k : ℕ) (logs : List (Log Event)) → map name_of (calls_in opening k logs) ≡ all_named k (histories_of logs)
logs_name opening k [] = refl
logs_name opening k (l ∷ logs) =
    map_both name_of (all_dues call_dues k (opening_track (opening k)) l) (calls_in opening (suc k) logs)
    ∙ (λ i. log_names k 0 (opening_track (opening k)) l refl i ++ logs_name opening (suc k) logs i)

-- ---- in the callers' results

-- the deeds of a caller from its step with this number on: a result that names an entry is that of a call
abbrev pub TellCalls : ℕ → ℕ → List Deed → Type 0
TellCalls c j ds = (i : ℕ) (d : Deed) → slice_get ds i ≡ Some d → (d.who ≡ step_by c (j + i)) × ((there : ℕ × ℕ) → made_at d.result ≡ Some there → (x : Call) × (d.call ≡ Some x))

abbrev names_made : Who → Option (ℕ × ℕ) → List (ℕ × (ℕ × Who))
names_made who None = []
names_made who (Some there) = (there.0, (there.1, who)) ∷ []

told_made : (who : Who) (r : StepResult) → told_by who (mark_of r) ≡ names_made who (made_at r)
told_made who (result.Call k place error) = refl
told_made who (result.Unit k place n) = refl
told_made who (result.Look k n end) = refl
told_made who (result.State k n state size) = refl
told_made who (result.NoUnit k n) = refl
told_made who r = refl

call_made : (who : Who) (o : Option Call) (made : Option (ℕ × ℕ)) → ((there : ℕ × ℕ) → made ≡ Some there → (x : Call) × (o ≡ Some x)) → map name_of (called_as who o made) ≡ names_made who made
call_made who None None f = refl
call_made who (Some x) None f = refl
call_made who None (Some there) f = (let is = (f there refl).1 in absurd cc)
call_made who (Some x) (Some there) f = refl

deeds_tell : (c j : ℕ) (ds : List Deed) → TellCalls c j ds → map name_of (calls_of ds) ≡ told_of c j (map mark_of (results_of ds))
deeds_tell c j [] f = refl
deeds_tell c j (d ∷ ds) f =
    let here = f 0 d refl in
    let zero_more : j + 0 ≡ j = omega arith in
    let who : d.who ≡ step_by c j = here.0 ∙ ap (step_by c) zero_more in
    let one : map name_of (calls_by d) ≡ told_by (step_by c j) (mark_of d.result) =
    call_made d.who d.call (made_at d.result) here.1 ∙ (ap (λ (y : Who). names_made y (made_at d.result)) who ∙ sym (told_made (step_by c j) d.result)) in
    let rest = deeds_tell c (suc j) ds (λ i e there. (let x = f (suc i) e there in (x.0 ∙ (let more : j + suc i ≡ suc j + i = omega arith in ap (step_by c) more), x.1))) in
    map_both name_of (calls_by d) (calls_of ds) ∙ (λ i. one i ++ rest i)

-- the same of all callers from the one with this number on, with these results
abbrev pub AllTell : ℕ → List (List StepResult) → List (List Deed) → Type 0
AllTell c [] [] = Unit {0}
AllTell c (rs ∷ rest) (ds ∷ all) = (rs ≡ results_of ds) × TellCalls c 0 ds × AllTell (suc c) rest all
AllTell c _ _ = ⊥

all_tell : (c : ℕ) (results : List (List StepResult)) (all : List (List Deed)) → AllTell c results all → map name_of (calls_of_all all) ≡ all_told c (map (λ rs. map mark_of rs) results)
all_tell c [] [] x = refl
all_tell c [] (ds ∷ all) x = absurd x
all_tell c (rs ∷ rest) [] x = absurd x
all_tell c (rs ∷ rest) (ds ∷ all) x =
    let one : map name_of (calls_of ds) ≡ told_of c 0 (map mark_of rs) = deeds_tell c 0 ds x.1 ∙ ap (λ (l : List StepResult). told_of c 0 (map mark_of l)) (sym x.0) in
    map_both name_of (calls_of ds) (calls_of_all all) ∙ (λ i. one i ++ all_tell (suc c) rest all x.2 i)

-- ---- both

mapped_weighs : (t : ℕ × (ℕ × Who) → ℕ) (l : List Called) → sum_by t (map name_of l) ≡ sum_by (λ x. t (name_of x)) l
mapped_weighs t [] = refl
mapped_weighs t (x ∷ xs) =
    let a = sum_by-cons t (name_of x) (map name_of xs) in
    let b = sum_by-cons (λ y. t (name_of y)) x xs in
    let rest = mapped_weighs t xs in
    omega (arith, a, b, rest)

pub calls_told : (opening : ℕ → Opening) (logs : List (Log Event)) (results : List (List StepResult)) (all : List (List Deed)) → AllTell 0 results all → SameBag (calls_in opening 0 logs) (calls_of_all all) → SameBag (all_named 0 (histories_of logs)) (all_told 0 (map (λ rs. map mark_of rs) results))
calls_told opening logs results all tell same t =
    sym (ap (sum_by t) (logs_name opening 0 logs))
    ∙ (mapped_weighs t (calls_in opening 0 logs)
    ∙ (same (λ x. t (name_of x)) ∙ (sym (mapped_weighs t (calls_of_all all)) ∙ ap (sum_by t) (all_tell 0 results all tell))))
