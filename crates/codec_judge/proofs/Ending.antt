-- What is known of a codec that is made again, after a call and after the end of an item.
use Rattle.std.proofs.Common.{ℕ, ◌≡◌, Bool, true, false, List, [], ◌∷◌, ◌++◌, length, Option, Some, None, is_some, refl, ap, sym, subst, ◌∙◌}
use Rattle.std.specs.Prelude.{IfSome, slice_get}
use Rattle.wc_base.specs.Options.{some_same}
use Rattle.wc_base.specs.declared.who.Who.{Who}
use Rattle.wc_config.specs.declared.codec.CoderId.{CoderId}
use Rattle.coder_api.specs.Lent.{Lent}
use Rattle.codec_definitions.specs.declared.unit.Unit as media
use Rattle.codec_model.specs.declared.entry.{Call.Call, Ended.Ended, Entry.Entry, Outcome.Outcome, Work.Work}
use Rattle.codec_model.specs.Control.{kind_of}
use Rattle.codec_model.specs.Replay.{Given, answer_to}
use Rattle.codec_core.specs.Codec.{Codec, KeepsRunning, Makes, Replied, ReplyValue, box_stays, handed_back, kept_box, state_at}
use Rattle.codec_core.specs.Job.{DoneValue, EndsBy, IsJobOf, JobValue, done_with, missing_id, outcome_of, stopped_box, wants}
use Rattle.codec_core.specs.Owning.{IsOwnJob}
use Rattle.codec_judge.specs.Judge.{IsFilled, IsJudged, IsSameJob, Judges, is_worked, outcome_in}
use Rattle.codec_judge.specs.Lawful.{box_allows, has_coder, lack_at}
use Rattle.codec_judge.specs.Lender.{LenderValue, id_in, settled}
use Rattle.codec_judge.proofs.Judging.{box_goes, illegal, left_judges, made_entry, no_entry, not_allowed, no_coder, other_end, other_entry, same_judges, same_stands, was_out, worked_allowed}

-- ---- calls

module _ (l : LenderValue) (old core new : Codec) (job : Option JobValue) (who : Who) (x : Call) (r : ReplyValue) (back : Option Lent) (h : IsJudged old job l) (is : core ≡ record old { spare = core.spare }) (replied : Replied core new who x r) (gave : back ≡ r.coder) where
  pub call_was_out : IfSome back (λ b. l.out ≡ Some b.id)
  call_was_out = was_out l core job (box_stays who x (state_at core)) back (same_stands old core job l is h) (gave ∙ replied.coder)

  pub called : (next : LenderValue) (call : Call) → KeepsRunning (state_at core) (state_at new) → next ≡ settled back l → x ≡ call → Judges l old (Entry.Call who call) true new job next
  called next call keeps after same =
      same_judges old core new (Entry.Call who call) true job l next is
      (subst (λ (y : Call). Judges l core (Entry.Call who y) true new job next) same
      (left_judges l next core new (Entry.Call who x) job (box_stays who x (state_at core)) back (same_stands old core job l is h) replied.made keeps replied.out replied.slot (gave ∙ replied.coder) after refl refl))

-- ---- the box of an item that ended

-- the box that goes back was out
pub ended_was_out : (b : Bool) (coder back : Option Lent) (l : LenderValue) → l.out ≡ id_in coder → back ≡ handed_back b coder → IfSome back (λ x. l.out ≡ Some x.id)
ended_was_out b coder back l out is = rw is (box_goes b coder None l (λ h. absurd cc) out).0

-- else it is the codec's
pub ended_out : (b : Bool) (coder back slot : Option Lent) (l next : LenderValue) → l.out ≡ id_in coder → back ≡ handed_back b coder → slot ≡ kept_box b coder → next ≡ settled back l → next.out ≡ id_in slot
ended_out b coder back slot l next out is kept after = rw (after, is, kept) (box_goes b coder None l (λ h. absurd cc) out).1

stopped_id : (coder : Option Lent) → id_in (stopped_box coder) ≡ id_in coder
stopped_id None = refl
stopped_id (Some b) = refl

-- a box stays the same as it works
pub same_id : (a b : Option Lent) → stopped_box a ≡ stopped_box b → id_in a ≡ id_in b
same_id a b is = sym (stopped_id a) ∙ (ap id_in is ∙ stopped_id b)

-- ---- the entry of an end

-- the entry of the end of a job with another box
pub end_entry : (job other : JobValue) (d : DoneValue) (e : Ended) (moment : ℕ) → IsSameJob job other → d ≡ done_with e other → Entry.Done d.epoch d.number moment (outcome_of d.ended) ≡ Entry.Done job.epoch job.number moment (outcome_of e)
end_entry job other d e moment same is =
    let epoch : other.epoch ≡ job.epoch = ap (λ (j : JobValue). j.epoch) same in
    let number : other.number ≡ job.number = ap (λ (j : JobValue). j.number) same in
    rw (is, epoch, number) refl

-- a job ended so
pub ended_judges : (l next : LenderValue) (old new : Codec) (job : JobValue) (e : Entry) (x : Outcome) (moment : ℕ) → IsJudged old (Some job) l → Makes old new e → e ≡ Entry.Done job.epoch job.number moment x
    → box_allows l.home (lack_at old.opening old.history) x ≡ true → (state_at new).control.running ≡ None → next.home ≡ l.home → next.out ≡ id_in new.slot → Judges l old (Entry.Done job.epoch job.number moment x) true new None next
ended_judges l next old new job e x moment h made same allows idle home out =
    made_entry l next old new (Entry.Done job.epoch job.number moment x) None h.legal (subst (λ (y : Entry). Makes old new y) same made) allows idle home out

pub refusal_allowed : (made : List CoderId) (lack : Option CoderId) (entry : ℕ) → is_some lack ≡ true → box_allows made lack (Outcome.NoSlot entry) ≡ true
refusal_allowed made None entry is = absurd cc
refusal_allowed made (Some id) entry is = refl

-- ---- work

pub filled_none : (made : List CoderId) (lack after : Option CoderId) (b : Bool) → IsFilled made lack b after → b ≡ true → after ≡ None
filled_none made None after b f is = f.1
filled_none made (Some id) after true f is = f.0
filled_none made (Some id) after false f is = absurd cc

pub filled_has : (made : List CoderId) (lack after : Option CoderId) (b : Bool) → IsFilled made lack b after → b ≡ true → (id : CoderId) → lack ≡ Some id → has_coder id made ≡ true
filled_has made None after b f is id at = absurd cc
filled_has made (Some id) after true f is other at = let same : id ≡ other = some_same id other at in subst (λ (i : CoderId). has_coder i made ≡ true) same f.1
filled_has made (Some id) after false f is other at = absurd cc

not_filled_lack : (made : List CoderId) (lack after : Option CoderId) → IsFilled made lack false after → (id : CoderId) × (lack ≡ Some id) × (after ≡ Some id) × (has_coder id made ≡ false)
not_filled_lack made None after f = absurd (let fails = f.0 in cc)
not_filled_lack made (Some id) after f = (id, refl, f.0, f.1)

-- there is no coder for the job
pub not_filled : (l next : LenderValue) (core : Codec) (job other : JobValue) (x : Outcome) (moment : ℕ) → IsJudged core (Some job) l → is_worked x ≡ true → IsFilled l.home (missing_id job) false (missing_id other)
    → IsJobOf (state_at core) other → IsOwnJob core.out other → next.home ≡ l.home → next.out ≡ id_in other.coder → Judges l core (Entry.Done job.epoch job.number moment x) false core (Some other) next
not_filled l next core job other x moment h worked f matches own home out =
    let lack = not_filled_lack l.home (missing_id job) (missing_id other) f in
    let lacks : lack_at core.opening core.history ≡ Some lack.0 = sym h.job_out.lacks ∙ lack.1 in
    no_entry l next core (Entry.Done job.epoch job.number moment x) (Some other)
    (record { legal = h.legal; job_out = record { matches = matches; own = own; lacks = lack.2 ∙ sym lacks; away = h.job_out.away }; box_out = out }) home
    (not_allowed l.home core h.legal (Entry.Done job.epoch job.number moment x) (no_coder l.home (lack_at core.opening core.history) lack.0 x lacks lack.3 worked))

pub work_ended : (answer : Option (List media.Unit)) (e : Ended) → EndsBy answer e → wants e ≡ false → is_worked (outcome_of e) ≡ true
work_ended answer (Ended.Ran us) ends fails = refl
work_ended answer Ended.Refused ends fails = refl
work_ended answer (Ended.NoSlot entry) ends fails = absurd ends
work_ended answer Ended.NoMemory ends fails = absurd cc

get_last : (h : List Entry) (e : Entry) → slice_get (h ++ e ∷ []) (length h) ≡ Some e
get_last [] e = refl
get_last (x ∷ xs) e = get_last xs e

-- what is known of work that was done
pub record IsWorked (l next : LenderValue) (old new : Codec) (job : JobValue) (d : DoneValue) (moment : ℕ) : Type 0 where
  pub stands : IsJudged old (Some job) l
  pub made : Makes old new (Entry.Done d.epoch d.number moment (outcome_of d.ended))
  pub epoch : d.epoch ≡ job.epoch
  pub number : d.number ≡ job.number
  pub answer : EndsBy (answer_to (kind_of job.work) (state_at old).running_given) d.ended
  pub wanted : wants d.ended ≡ false
  pub idle : (state_at new).control.running ≡ None
  pub home : next.home ≡ l.home
  pub out : next.out ≡ id_in new.slot
  pub has : (id : CoderId) → missing_id job ≡ Some id → has_coder id l.home ≡ true

module _ (l next : LenderValue) (old new : Codec) (job : JobValue) (d : DoneValue) (moment : ℕ) (w : IsWorked l next old new job d moment) (x : Outcome) (worked : is_worked x ≡ true) where
  worked_same : x ≡ outcome_of d.ended → Judges l old (Entry.Done job.epoch job.number moment x) true new None next
  worked_same same =
      ended_judges l next old new job (Entry.Done d.epoch d.number moment (outcome_of d.ended)) x moment w.stands w.made (rw (w.epoch, w.number, same) refl)
      (worked_allowed l.home (lack_at old.opening old.history) x worked (λ id lack. w.has id (w.stands.job_out.lacks ∙ lack))) w.idle w.home w.out

  worked_other : (x ≡ outcome_of d.ended → ⊥) → Judges l old (Entry.Done job.epoch job.number moment x) false new None next
  worked_other other =
      other_entry l next old new (Entry.Done job.epoch job.number moment x) (Entry.Done d.epoch d.number moment (outcome_of d.ended)) None w.made w.idle w.home w.out
      (illegal l.home old w.stands.legal (Entry.Done job.epoch job.number moment x)
      (other_end (state_at old) job d.ended x moment w.stands.job_out.matches w.answer (work_ended (answer_to (kind_of job.work) (state_at old).running_given) d.ended w.answer w.wanted) worked other))

  last_is : (place : ℕ) → place ≡ length old.history → outcome_in (slice_get new.history place) ≡ Some (outcome_of d.ended)
  last_is place at = rw (at, w.made.longer, get_last old.history (Entry.Done d.epoch d.number moment (outcome_of d.ended))) refl

  -- its end is this one, or another
  pub worked_judges : (b : Bool) (place : ℕ) → place ≡ length old.history → (b ≡ true → outcome_in (slice_get new.history place) ≡ Some x) → (b ≡ false → outcome_in (slice_get new.history place) ≡ Some x → ⊥) → Judges l old (Entry.Done job.epoch job.number moment x) b new None next
  worked_judges true place at holds fails = worked_same (sym (some_same (outcome_of d.ended) x (sym (last_is place at) ∙ holds refl)))
  worked_judges false place at holds fails = worked_other (λ same. fails refl (last_is place at ∙ ap (λ (y : Outcome). Some y) (sym same)))

-- the same job with another box does the same work
pub same_kind : (job other : JobValue) (g : Given) (e : Ended) → IsSameJob job other → EndsBy (answer_to (kind_of other.work) g) e → EndsBy (answer_to (kind_of job.work) g) e
same_kind job other g e same ends = subst (λ (w : Work). EndsBy (answer_to (kind_of w) g) e) (ap (λ (j : JobValue). j.work) same) ends
