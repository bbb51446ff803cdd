-- The end of an item is the last answer to the whole list of what was given.
use Rattle.std.proofs.Common.{◌≡◌, ◌&&◌, not, Bool, true, false, cond, List, [], ◌∷◌, ◌++◌, length, Option, Some, None, is_some, Result, Ok, Err, refl, ap, sym, subst, eq-eqb, ◌∙◌, append_assoc, append-nil}
use Rattle.std.proofs.lemmas.Bool.{and_parts}
use Rattle.wc_config.specs.declared.{codec.CoderId.CoderId, config.AudioDecoderConfig.AudioDecoderConfig, config.Config.Config}
use Rattle.wc_config.specs.Configs.{is_valid, is_within, is_supported, coder_id_of}
use Rattle.codec_definitions.specs.declared.unit.Unit as media
use Rattle.codec_definitions.specs.declared.command.Command.{Command}
use Rattle.coder_api.specs.{declared.coder.CoderFault.CoderFault, Lent.Lent, Lent.stopped_lent}
use Rattle.codec_definitions.specs.Answers.{answer_after, answers_from, until_refused, last_answer}
use Rattle.coder_api.specs.Meaning.{CoderState, Configured, Takes, IsAt, IsConfigured, serves, setup_of, asks_for}
use Rattle.slot_registry.specs.IdLaws.{id_is}
use Rattle.codec_model.specs.declared.entry.{Coded.Coded, Work.Work, WorkKind.WorkKind, Ended.Ended}
use Rattle.codec_model.specs.Control.{kind_of}
use Rattle.codec_model.specs.Replay.{Given, State, given_more, answer_to, answers_to, ended_of, command_of, decoder_config, labelled, labelled_answer}
use Rattle.codec_live.specs.Job.{JobValue, DoneValue, IsJob, IsJobOf, IsEndOf, none_refused_from, WasGiven, CoderAt, CoderFor, StillAt, EndsBy, EndsCommand, EndsWork, IsOrWants, IsReadyEnd, ReadyAfter, labelled_end, end_by, outcome_of}

asked_id : (id : CoderId) (wanted : Option CoderId) → asks_for id wanted ≡ true → wanted ≡ Some id
asked_id id None h = absurd cc
asked_id id (Some wanted) h = ap Some (sym (id_is id wanted h))

-- a box that serves a config is of the id that it asks for
pub serves_asked : (id : CoderId) (config : Config) → serves id config ≡ true → coder_id_of config ≡ Some id
serves_asked id config h = asked_id id (coder_id_of config) (and_parts (is_supported config) (asks_for id (coder_id_of config)) h).1

-- a supported config asks for some id, so a box that is not missing serves it
none_missing : (supported serving : Bool) (wanted : Option CoderId) → cond (supported && not serving) wanted None ≡ None → supported ≡ true → is_some wanted ≡ true → serving ≡ true
none_missing supported true wanted h s w = refl
none_missing true false wanted h s w = absurd (let some = rw h at w in cc)
none_missing false false wanted h s w = absurd cc

pub serves_there : (id : CoderId) (config : Config) → cond (is_supported config && not (serves id config)) (coder_id_of config) None ≡ None → is_supported config ≡ true → serves id config ≡ true
serves_there id config h s =
    let front = and_parts (is_valid config && is_some (coder_id_of config)) (is_within config) s in
    none_missing (is_supported config) (serves id config) (coder_id_of config) h s (and_parts (is_valid config) (is_some (coder_id_of config)) front.0).1

pub some_is : {X : Type 0} (o : Option X) → is_some o ≡ true → (x : X) × (o ≡ Some x)
some_is None h = absurd cc
some_is (Some x) h = (x, refl)

-- a list of answers that is not empty, and whose last is this one
abbrev HasLast : List (Option (List media.Unit)) → Option (List media.Unit) → Type 0
HasLast l a = (v : Option (List media.Unit)) × (vs : List (Option (List media.Unit))) × (l ≡ v ∷ vs) × (last_answer (v ∷ vs) ≡ a)

last_of_one : (o : Option (List media.Unit)) → HasLast (until_refused o []) o
last_of_one None = (None, [], refl, refl)
last_of_one (Some units) = (Some units, [], refl, refl)

-- the last answer is that of the last command after all before it, where none of those was refused
last_more : (id : CoderId) (c : Config) (before xs : List Command) (x : Command) → none_refused_from id c before xs ≡ true → HasLast (answers_from id c before (xs ++ x ∷ [])) (answer_after id c (before ++ xs) x)
last_more id c before [] x h = rw append-nil (last_of_one (answer_after id c before x))
last_more id c before (y ∷ ys) x h =
    let parts = and_parts (is_some (answer_after id c before y)) (none_refused_from id c (before ++ y ∷ []) ys) h in
    let u = some_is (answer_after id c before y) parts.0 in
    let rest = rw append_assoc at (last_more id c (before ++ y ∷ []) ys x parts.1) in
    let all = ap (λ o. until_refused o (answers_from id c (before ++ y ∷ []) (ys ++ x ∷ []))) u.1 ∙ ap (λ (l : List (Option (List media.Unit))). Some u.0 ∷ l) rest.2 in
    (Some u.0, rest.0 ∷ rest.1, all, rest.3)

none_refused_more : (id : CoderId) (c : Config) (before xs : List Command) (x : Command) → none_refused_from id c before xs ≡ true → is_some (answer_after id c (before ++ xs) x) ≡ true → none_refused_from id c before (xs ++ x ∷ []) ≡ true
none_refused_more id c before [] x h s = rw (rw append-nil at s) refl
none_refused_more id c before (y ∷ ys) x h s =
    let parts = and_parts (is_some (answer_after id c before y)) (none_refused_from id c (before ++ y ∷ []) ys) h in
    rw (parts.0, none_refused_more id c (before ++ y ∷ []) ys x parts.1 (rw append_assoc s)) refl

abbrev more : Command → Given → Given
more x g = record g { commands = g.commands ++ x ∷ [] }

answer_is : (old : Lent) (before : Given) (x : Command) → WasGiven old before → last_answer (answers_to (more x before)) ≡ answer_after old.id before.config before.commands x
answer_is old before x at =
    let last = last_more old.id before.config [] before.commands x at.accepted in rw (at.asked, last.2) last.3

-- an end by the answer is the legal one
pub legal_end : (k : WorkKind) (g : Given) (e : Ended) → EndsBy (answer_to k g) e → ended_of k g (outcome_of e) ≡ Some e
legal_end k g (Ended.Ran units) by = rw (by, eq-eqb (length units) (length units) refl) refl
legal_end k g Ended.Refused by = rw by refl
legal_end k g (Ended.NoSlot n) by = absurd by
legal_end k g Ended.NoMemory by = refl

-- after a command that ran, the coder was given it too
still : (c : Option AudioDecoderConfig) (end : Ended) (old new : Lent) (before : Given) (x : Command) → EndsCommand old x end new → WasGiven old before → StillAt (labelled_end c end) (Some new) (more x before)
still c (Ended.Ran units) old new before x ends at =
    let same : new.id ≡ old.id = ap (λ (l : Lent). l.id) ends.same in
    record {
      asked = rw same at.asked;
      supported = at.supported;
      meant = rw same (ends.goes before.config before.commands at.meant);
      accepted = rw same (none_refused_more old.id before.config [] before.commands x at.accepted (ap is_some (ends.answer before.config before.commands at.asked at.meant)));
    }
still c end old new before x ends at = tt

-- ---- the config that outputs carry

-- the end that was meant, or want of memory
by_wants : (P : Ended → Type 0) (end e : Ended) → IsOrWants end e → P end → P Ended.NoMemory → P e
by_wants P end Ended.NoMemory is p wants = wants
by_wants P end e is p wants = subst P (sym is) p

-- what a coder keeps tells nothing of its decoder's config
setup_is : (c : Config) (state : CoderState) → setup_of (Configured c state) ≡ decoder_config c
setup_is Config.Bad state = refl
setup_is c state = refl

answers_labelled : (c d : Option AudioDecoderConfig) (answer : Option (List media.Unit)) (end : Ended) → ((units : List media.Unit) → end ≡ Ended.Ran units → c ≡ d) → EndsBy answer end → EndsBy (labelled_answer d answer) (labelled_end c end)
answers_labelled c d answer (Ended.Ran units) same by = ap (labelled_answer d) by ∙ ap (λ (x : Option AudioDecoderConfig). Some (labelled x units)) (sym (same units refl))
answers_labelled c d answer Ended.Refused same by = ap (labelled_answer d) by
answers_labelled c d answer (Ended.NoSlot n) same by = absurd by
answers_labelled c d answer Ended.NoMemory same by = tt

-- after a command that ran, the coder's config is the one that was given last
setup_after : (end : Ended) (old new : Lent) (before : Given) (x : Command) → EndsCommand old x end new → WasGiven old before → (units : List media.Unit) → end ≡ Ended.Ran units → setup_of new.meaning ≡ decoder_config before.config
setup_after end old new before x ends at units ran = ap setup_of (rw ran at (ends.goes before.config before.commands at.meant)) ∙ setup_is before.config _

-- the items of commands: their kind, and what more is given
record Commands (w : Work) (x : Command) : Type 0 where
  more_is : (before : Given) → given_more w before ≡ more x before
  answer_by : (g : Given) → answer_to (kind_of w) g ≡ labelled_answer (decoder_config g.config) (last_answer (answers_to g))
  given_is : (coder : Option Lent) (before : Given) → CoderFor w coder before → CoderAt coder before

-- a config that an end's outputs carry tells nothing of its box
ready_labelled : (c : Option AudioDecoderConfig) (end : Ended) (new : Lent) → IsReadyEnd end new.meaning → ReadyAfter (labelled_end c end) (Some new)
ready_labelled c (Ended.Ran units) new ready = ready
ready_labelled c end new ready = tt

command_ends : (w : Work) (x : Command) → Commands w x → (old new : Lent) (end e : Ended) → EndsCommand old x end new → IsOrWants (labelled_end (setup_of new.meaning) end) e → EndsWork (Some old) w e (Some new)
command_ends w x is old new end e ends by =
    let c = setup_of new.meaning in
    record {
      answer = λ before for. (
          let at : WasGiven old before = is.given_is (Some old) before for in
          let d = decoder_config before.config in
          let answer = last_answer (answers_to (more x before)) in
          let told = answers_labelled c d answer end (setup_after end old new before x ends at) (rw (answer_is old before x at) (ends.answer before.config before.commands at.asked at.meant)) in
          rw (is.more_is before, is.answer_by (more x before)) (by_wants (EndsBy (labelled_answer d answer)) (labelled_end c end) e by told tt)
          );
      still = λ before for. (
          let at : WasGiven old before = is.given_is (Some old) before for in
          rw (is.more_is before) (by_wants (λ (y : Ended). StillAt y (Some new) (more x before)) (labelled_end c end) e by (still c end old new before x ends at) tt)
          );
      same = ap Some ends.same;
      ready = by_wants (λ (y : Ended). ReadyAfter y (Some new)) (labelled_end c end) e by (ready_labelled c end new ends.ready) tt;
    }

pub coded_ends : (old new : Lent) (end e : Ended) (input : Coded) → EndsCommand old (command_of input) end new → IsOrWants (labelled_end (setup_of new.meaning) end) e → EndsWork (Some old) (Work.Coded input) e (Some new)
coded_ends old new end e input ends by = command_ends (Work.Coded input) (command_of input) (record { more_is = λ before. refl; answer_by = λ g. refl; given_is = λ coder before at. at }) old new end e ends by

pub flush_ends : (old new : Lent) (end e : Ended) → EndsCommand old Command.Drain end new → IsOrWants (labelled_end (setup_of new.meaning) end) e → EndsWork (Some old) Work.Flush e (Some new)
flush_ends old new end e ends by = command_ends Work.Flush Command.Drain (record { more_is = λ before. refl; answer_by = λ g. refl; given_is = λ coder before at. at }) old new end e ends by

-- where memory is wanted for a copy of the config, the item ends so
pub ends_or_wants : (old new : Option Lent) (w : Work) (end e : Ended) → EndsWork old w end new → IsOrWants end e → EndsWork old w e new
ends_or_wants old new w end e ends by = record {
  answer = λ before at. by_wants (EndsBy (answer_to (kind_of w) (given_more w before))) end e by (ends.answer before at) tt;
  still = λ before at. by_wants (λ (x : Ended). StillAt x new (given_more w before)) end e by (ends.still before at) tt;
  same = ends.same;
  ready = by_wants (λ (x : Ended). ReadyAfter x new) end e by ends.ready tt;
}

pub configure_ends : (old new : Lent) (config : Config) (units : List media.Unit) → units ≡ [] → is_supported config ≡ true → serves old.id config ≡ true → IsAt old.id config [] new.meaning → stopped_lent new ≡ stopped_lent old → EndsWork (Some old) (Work.Configure config) (Ended.Ran units) (Some new)
configure_ends old new config units none supported serving meant same =
    let id : new.id ≡ old.id = ap (λ (l : Lent). l.id) same in
    record {
      answer = λ before at. rw (none, supported) refl;
      still = λ before at. record {
        asked = rw id (serves_asked old.id config serving);
        supported = supported;
        meant = rw id meant;
        accepted = refl;
      };
      same = ap Some same;
      ready = subst IsConfigured (sym meant) tt;
    }

-- what a coder takes ends the command so
pub taken : (old new : Lent) (x : Command) (r : Result (Unit {0}) CoderFault) (us : List media.Unit) → stopped_lent new ≡ stopped_lent old → Takes old.id old.meaning x r [] us new.meaning → EndsCommand old x (end_by r us) new
taken old new x (Ok t) us same takes = record {
  answer = λ c before asked meant. (let a = takes.answer c before meant in a.1 ∙ ap (λ (vs : List media.Unit). Some vs) (sym a.2));
  goes = takes.goes;
  ready = takes.ready;
  same = same;
}
taken old new x (Err CoderFault.Refused) us same takes = record { answer = λ c before asked meant. (takes.answer c before meant).0; goes = λ c before meant. tt; ready = tt; same = same }
taken old new x (Err CoderFault.NoMemory) us same takes = record { answer = λ c before asked meant. tt; goes = λ c before meant. tt; ready = tt; same = same }

-- the end of a job by its box is the end of the running item
pub job_ends : (s : State) (job : JobValue) (d : DoneValue) → IsJobOf s job → d.epoch ≡ job.epoch → d.number ≡ job.number → d.kind ≡ kind_of job.work → EndsWork job.coder job.work d.ended d.coder → IsEndOf s d
job_ends s job d is epoch number kind ends =
    record {
      running = is.running;
      is_running = is.is_running;
      same_epoch = is.same_epoch ∙ sym epoch;
      same_number = is.same_number ∙ sym number;
      same_kind = is.same_kind ∙ sym kind;
      end = rw (← is.given.more) (record {
        legal = rw kind (legal_end (kind_of job.work) (given_more job.work is.given.before) d.ended (ends.answer is.given.before is.given.box));
        box = ends.still is.given.before is.given.box;
      });
    }

pub job_answers : (g : Given) (job : JobValue) (e : Ended) (new : Option Lent) → IsJob g job → EndsWork job.coder job.work e new → EndsBy (answer_to (kind_of job.work) g) e
job_answers g job e new is ends = rw (← is.more) (ends.answer is.before is.box)
