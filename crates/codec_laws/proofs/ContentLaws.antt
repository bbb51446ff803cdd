-- What is shown is what the codec's definition gives.
use Rattle.std.proofs.Common.{ℕ, zero, suc, ◌≡◌, ◌+◌, map, List, [], ◌∷◌, ◌++◌, append_assoc, append-nil, length, length-append, take, slice_get, Option, Some, None, is_some, refl, ap, sym, subst, ◌∙◌, arith}
use Rattle.std.specs.Prelude.{option_map, unwrap_or}
use Rattle.std.proofs.lemmas.Option.{option_and_then_some}
use Rattle.wc_base.specs.{declared.error.DomError.DomError}
use Rattle.wc_config.specs.declared.codec.CoderId.{CoderId}
use Rattle.wc_config.specs.declared.config.{AudioDecoderConfig.AudioDecoderConfig, Config.Config}
use Rattle.wc_config.specs.Configs.{coder_id_of}
use Rattle.codec_definitions.specs.declared.unit.Unit as media
use Rattle.codec_definitions.specs.declared.unit.Unit.TheVariants as unit
use Rattle.codec_definitions.specs.declared.command.Command.{Command as command}
use Rattle.codec_definitions.specs.Answers.{answer_after, until_refused, answers_from, last_answer, units_of}
use Rattle.codec_model.specs.declared.entry.{Work.Work, Entry.Entry, Event.Event, Task.Task}
use Rattle.codec_model.specs.Control.{kind_of, carried, active_after}
use Rattle.codec_model.specs.Replay.{State, Given, nothing_given, given_more, answers_by, answers_to, decoder_config, labelled, labelled_answer, command_of, message_of, opening_state, step, replay_from}
use Rattle.codec_model.specs.Shown.{shows, shown_at, shown, shown_from, units_in, outputs_of, turn_word, turn_shows}
use Rattle.codec_model.specs.StepLaws.{closing_units, units_by_turns}
use Rattle.history_laws.specs.CountLaws.{outputs_tagged}
use Rattle.codec_laws.specs.declared.source.{Source.Source, Output.Output}
use Rattle.codec_laws.specs.declared.sight.Sight.{Sight}
use Rattle.codec_laws.specs.Sights.{asked_for, closed_by, rejects_with, sight_of, sights, sights_from}
use Rattle.codec_laws.specs.Sources.{Book, given_by, shown_by, outputs, outputs_from, book_after, kept, removed}
use Rattle.codec_laws.specs.Contents.{Configuration, no_configuration, work_seen, configuration_more, configuration_after, configuration_from, configuration_at, bare}
use Rattle.codec_laws.specs.Laws.{ContentsAreGiven}
use Rattle.codec_laws.proofs.Course.{Asked, waiting_asked, more_asked, Course, course_after, fresh}
use Rattle.codec_laws.proofs.FlowLaws.{Flow, step_flow}
use Rattle.codec_laws.proofs.OutLaws.{Outs, yields, parts, shows_all, task_parts, sources_of, configure_yields, carried_long, step_outs}
use Rattle.codec_laws.proofs.PlaceLaws.{step_phases, next_book}
use Rattle.codec_laws.proofs.OldLaws.{opening_course, opening_flow, opening_outs}
use Rattle.codec_laws.proofs.EndLaws.{legal_state}

-- ---- one command more

abbrev AnswerList : Type 0
AnswerList = List (Option (List media.Unit))

last_behind : (a : Option (List media.Unit)) (rs : AnswerList) → (rs ≡ [] → ⊥) → last_answer (a ∷ rs) ≡ last_answer rs
last_behind a [] h = absurd (h refl)
last_behind a (r ∷ rs) h = refl

some_answer : (o : Option (List media.Unit)) (rest : AnswerList) → until_refused o rest ≡ [] → ⊥
some_answer None rest h = absurd cc
some_answer (Some us) rest h = absurd cc

some_behind : (id : CoderId) (c : Config) (before xs : List command) (x : command) → answers_from id c before (xs ++ x ∷ []) ≡ [] → ⊥
some_behind id c before [] x h = some_answer (answer_after id c before x) [] h
some_behind id c before (y ∷ ys) x h = some_answer (answer_after id c before y) _ h

-- past a refusal nothing more is given
units_more : (id : CoderId) (c : Config) (before xs : List command) (x : command) → units_of (answers_from id c before (xs ++ x ∷ [])) ≡ units_of (answers_from id c before xs) ++ unwrap_or (last_answer (answers_from id c before (xs ++ x ∷ []))) []
units_more id c before [] x = by (answer_after id c before x)
  where
    by : (o : Option (List media.Unit)) → units_of (until_refused o []) ≡ unwrap_or (last_answer (until_refused o [])) []
    by None = refl
    by (Some us) = append-nil us
units_more id c before (y ∷ ys) x = by (answer_after id c before y) (answers_from id c (before ++ y ∷ []) (ys ++ x ∷ [])) (answers_from id c (before ++ y ∷ []) ys) (some_behind id c (before ++ y ∷ []) ys x) (units_more id c (before ++ y ∷ []) ys x)
  where
    by : (o : Option (List media.Unit)) (more less : AnswerList) → (more ≡ [] → ⊥) → units_of more ≡ units_of less ++ unwrap_or (last_answer more) [] → units_of (until_refused o more) ≡ units_of (until_refused o less) ++ unwrap_or (last_answer (until_refused o more)) []
    by None more less some h = refl
    by (Some us) more less some h = rw (last_behind (Some us) more some, h) (sym (append_assoc us (units_of less) _))

-- what an item's command gives, without metadata
abbrev gives : Work → Given → List media.Unit
gives w g = unwrap_or (last_answer (answers_to (given_more w g))) []

labelled_bare : (c : Option AudioDecoderConfig) (us : List media.Unit) → map bare (labelled c us) ≡ map bare us
labelled_bare None us = refl
labelled_bare (Some c) [] = refl
labelled_bare (Some c) (unit.Sound samples ∷ us) = refl
labelled_bare (Some c) (unit.Image picture ∷ us) = refl
labelled_bare (Some c) (unit.Coded chunk config ∷ us) = refl

carried_bare : (a : Option AudioDecoderConfig) (us : List media.Unit) → map bare (carried a us) ≡ map bare us
carried_bare a [] = refl
carried_bare a (unit.Sound samples ∷ us) = refl
carried_bare a (unit.Image picture ∷ us) = refl
carried_bare a (unit.Coded chunk None ∷ us) = refl
carried_bare a (unit.Coded chunk (Some c) ∷ us) = refl

length_bare : (us : List media.Unit) → length (map bare us) ≡ length us
length_bare [] = refl
length_bare (u ∷ us) = ap suc (length_bare us)

-- what an item adds to all that its configuration gave
record Adds (w : Work) (g : Given) : Type 0 where
  same : map bare (yields w g) ≡ map bare (gives w g)
  units : units_of (answers_to (given_more w g)) ≡ units_of (answers_to g) ++ gives w g

answered_bare : (c : Option AudioDecoderConfig) (o : Option (List media.Unit)) → map bare (unwrap_or (labelled_answer c o) []) ≡ map bare (unwrap_or o [])
answered_bare c None = refl
answered_bare c (Some us) = labelled_bare c us

coded_adds : (w : Work) (x : command) (g : Given) → given_more w g ≡ record g { commands = g.commands ++ x ∷ [] } → units_of (answers_to (given_more w g)) ≡ units_of (answers_to g) ++ gives w g
coded_adds w x g is = rw is (by (coder_id_of g.config))
  where
    by : (o : Option CoderId) → units_of (answers_by o (record g { commands = g.commands ++ x ∷ [] })) ≡ units_of (answers_by o g) ++ unwrap_or (last_answer (answers_by o (record g { commands = g.commands ++ x ∷ [] }))) []
    by None = refl
    by (Some id) = units_more id g.config [] g.commands x

none_given : (config : Config) → length (units_of (answers_to (record { config = config; commands = [] }))) ≡ 0
none_given config = by (coder_id_of config)
  where
    by : (o : Option CoderId) → length (units_of (answers_by o (record { config = config; commands = [] }))) ≡ 0
    by None = refl
    by (Some id) = refl

adds_long : (w : Work) (g : Given) (n : ℕ) → Adds w g → n ≡ length (units_of (answers_to g)) → n + length (yields w g) ≡ length (units_of (answers_to (given_more w g)))
adds_long w g n k long =
    let same : length (yields w g) ≡ length (gives w g) = sym (length_bare (yields w g)) ∙ (ap (λ (us : List media.Unit). length us) k.same ∙ length_bare (gives w g)) in
    rw (k.units, length-append (units_of (answers_to g)), long, same) refl

-- ---- a removal shows no outputs

removal_units : (e : Entry) (s : State) (error : DomError) → rejects_with e (shown_at e s) ≡ Some error → units_in (shows e s) ≡ []
removal_units Entry.Turn s error is = by s.control.tasks is
  where
    by : (ts : List Task) → closed_by (turn_word ts) ≡ Some error → units_in (turn_shows ts s.control) ≡ []
    by [] is = refl
    by (Task.Close x ∷ ts) is = closing_units x s.control.pending
    by (t ∷ ts) is = absurd cc
removal_units e s error is = units_by_turns e s

work_is_seen : (e : Entry) (xs : List Event) → work_seen e (option_map kind_of (asked_for e xs)) ≡ asked_for e xs
work_is_seen (Entry.Call who y) [] = by (message_of y) refl
  where
    by : (o : Option Work) → message_of y ≡ o → work_seen (Entry.Call who y) (option_map kind_of o) ≡ o
    by None is = refl
    by (Some w) is = is
work_is_seen (Entry.Call who y) (x ∷ xs) = refl
work_is_seen e xs = refl

get_behind : {X : Type 0} (xs ys : List X) (y : X) → slice_get (xs ++ y ∷ ys) (length xs) ≡ Some y
get_behind [] ys y = refl
get_behind (x ∷ xs) ys y = get_behind xs ys y

-- ---- where the calls of an epoch make these configurations

abbrev configured : List Asked → Configuration → Configuration
configured [] c = c
configured (a ∷ qs) c = configured qs (configuration_more a.0 (Some a.1) c)

configured_more : (qs : List Asked) (p : ℕ) (w : Work) (c : Configuration) → configured (qs ++ (p, w) ∷ []) c ≡ configuration_more p (Some w) (configured qs c)
configured_more [] p w c = refl
configured_more (a ∷ qs) p w c = configured_more qs p w (configuration_more a.0 (Some a.1) c)

module _ (at : ℕ → Configuration) where
  -- the unit of a source
  record IsHeld (u : media.Unit) (y : Source) : Type 0 where
    configure : (at y.call).place ≡ y.configure
    given : option_map bare (slice_get (units_of (answers_to (at y.call).given)) y.index) ≡ Some (bare u)

  abbrev AreHeld : List media.Unit → List Source → Type 0
  AreHeld [] [] = Unit {0}
  AreHeld [] (y ∷ ys) = ⊥
  AreHeld (u ∷ us) [] = ⊥
  AreHeld (u ∷ us) (y ∷ ys) = IsHeld u y × AreHeld us ys

  abbrev AreShown : List media.Unit → List Output → Type 0
  AreShown [] [] = Unit {0}
  AreShown [] (y ∷ ys) = ⊥
  AreShown (u ∷ us) [] = ⊥
  AreShown (u ∷ us) (y ∷ ys) = IsHeld u y.source × AreShown us ys

  held_both : (us vs : List media.Unit) (ss ts : List Source) → AreHeld us ss → AreHeld vs ts → AreHeld (us ++ vs) (ss ++ ts)
  held_both [] vs [] ts h k = k
  held_both [] vs (s ∷ ss) ts h k = absurd h
  held_both (u ∷ us) vs [] ts h k = absurd h
  held_both (u ∷ us) vs (s ∷ ss) ts h k = (h.0, held_both us vs ss ts h.1 k)

  held_front : (us vs : List media.Unit) (ss ts : List Source) → length ss ≡ length us → AreHeld (us ++ vs) (ss ++ ts) → AreHeld us ss
  held_front [] vs [] ts long h = tt
  held_front [] vs (s ∷ ss) ts long h = absurd (omega (arith, long))
  held_front (u ∷ us) vs [] ts long h = absurd (omega (arith, long))
  held_front (u ∷ us) vs (s ∷ ss) ts long h = (h.0, held_front us vs ss ts (omega (arith, long)) h.1)

  held_back : (us vs : List media.Unit) (ss ts : List Source) → length ss ≡ length us → AreHeld (us ++ vs) (ss ++ ts) → AreHeld vs ts
  held_back [] vs [] ts long h = h
  held_back [] vs (s ∷ ss) ts long h = absurd (omega (arith, long))
  held_back (u ∷ us) vs [] ts long h = absurd (omega (arith, long))
  held_back (u ∷ us) vs (s ∷ ss) ts long h = held_back us vs ss ts (omega (arith, long)) h.1

  shown_both : (turn : ℕ) (us vs : List media.Unit) (ss : List Source) (ys : List Output) → AreHeld us ss → AreShown vs ys → AreShown (us ++ vs) (shown_by turn ss ++ ys)
  shown_both turn [] vs [] ys h k = k
  shown_both turn [] vs (s ∷ ss) ys h k = absurd h
  shown_both turn (u ∷ us) vs [] ys h k = absurd h
  shown_both turn (u ∷ us) vs (s ∷ ss) ys h k = (h.0, shown_both turn us vs ss ys h.1 k)

  -- the units of one call behind those before
  held_given : (before last us : List media.Unit) (p f n : ℕ) → n ≡ length before → map bare us ≡ map bare last → units_of (answers_to (at p).given) ≡ before ++ last → (at p).place ≡ f → AreHeld us (given_by p f n (length us))
  held_given before last [] p f n long same units place = tt
  held_given before [] (u ∷ us) p f n long same units place = absurd cc
  held_given before (v ∷ last) (u ∷ us) p f n long same units place =
      let head : bare v ≡ bare u = cc in
      let rest : map bare us ≡ map bare last = cc in (
        record { configure = place; given = ap (λ (l : List media.Unit). option_map bare (slice_get l n)) units ∙ (ap (λ (m : ℕ). option_map bare (slice_get (before ++ v ∷ last) m)) long ∙ (ap (λ (o : Option media.Unit). option_map bare o) (get_behind before last v) ∙ ap (λ (b : media.Unit). Some b) head)) },
        held_given (before ++ v ∷ []) last us p f (n + 1) (omega (arith, long, length-append before (v ∷ []))) rest (units ∙ sym (append_assoc before (v ∷ []) last)) place,
      )

  held_one : (w : Work) (g : Given) (p f n : ℕ) (a : Option AudioDecoderConfig) → Adds w g → at p ≡ record { place = f; given = given_more w g } → n ≡ length (units_of (answers_to g)) → AreHeld (carried a (yields w g)) (given_by p f n (length (yields w g)))
  held_one w g p f n a k is long = subst (λ (m : ℕ). AreHeld (carried a (yields w g)) (given_by p f n m)) (carried_long a (yields w g)) (held_given (units_of (answers_to g)) (gives w g) (carried a (yields w g)) p f n long (carried_bare a (yields w g) ∙ k.same) (ap (λ (c : Configuration). units_of (answers_to c.given)) is ∙ k.units) (ap (λ (c : Configuration). c.place) is))

  -- each call's configuration is what those before it make, with it
  abbrev Stand : List Asked → Configuration → Type 0
  Stand [] c = Unit {0}
  Stand (a ∷ qs) c = (at a.0 ≡ configuration_more a.0 (Some a.1) c) × Stand qs (configuration_more a.0 (Some a.1) c)

  stand_front : (qs more : List Asked) (c : Configuration) → Stand (qs ++ more) c → Stand qs c
  stand_front [] more c h = tt
  stand_front (a ∷ qs) more c h = (h.0, stand_front qs more _ h.1)

  stand_more : (qs : List Asked) (p : ℕ) (w : Work) (c : Configuration) → at p ≡ configuration_more p (Some w) (configured qs c) → Stand qs c → Stand (qs ++ (p, w) ∷ []) c
  stand_more [] p w c is h = (is, tt)
  stand_more (a ∷ qs) p w c is h = (h.0, stand_more qs p w _ is h.1)

  held_all : (qs : List Asked) (c : Configuration) (a : Option AudioDecoderConfig) (n : ℕ) → Stand qs c → n ≡ length (units_of (answers_to c.given)) → AreHeld (shows_all (parts qs c.given) a) (sources_of qs c.given c.place n)
  held_all [] c a n h long = tt
  held_all ((p, Work.Configure config) ∷ qs) c a n h long = rw (configure_yields (Work.Configure config) c.given refl) (held_all qs (configuration_more p (Some (Work.Configure config)) c) a 0 h.1 (sym (none_given config)))
  held_all ((p, Work.Coded input) ∷ qs) c a n h long =
      let w = Work.Coded input in
      let k : Adds w c.given = record { same = answered_bare (decoder_config c.given.config) (last_answer (answers_to (given_more w c.given))); units = coded_adds w (command_of input) c.given refl } in
      held_both (carried a (yields w c.given)) _ (given_by p c.place n (length (yields w c.given))) _ (held_one w c.given p c.place n a k h.0 long) (held_all qs (configuration_more p (Some w) c) (active_after a (yields w c.given)) (n + length (yields w c.given)) h.1 (adds_long w c.given n k long))
  held_all ((p, Work.Flush) ∷ qs) c a n h long =
      let w = Work.Flush in
      let k : Adds w c.given = record { same = answered_bare (decoder_config c.given.config) (last_answer (answers_to (given_more w c.given))); units = coded_adds w command.Drain c.given refl } in
      held_both (carried a (yields w c.given)) _ (given_by p c.place n (length (yields w c.given))) _ (held_one w c.given p c.place n a k h.0 long) (held_all qs (configuration_more p (Some w) c) (active_after a (yields w c.given)) (n + length (yields w c.given)) h.1 (adds_long w c.given n k long))

  -- ---- the walk

  -- the calls of this epoch make this configuration
  record Makes (x : Course) (c : Configuration) : Type 0 where
    stand : Stand x.works no_configuration
    now : c ≡ configured x.works no_configuration

  -- what was shown in this epoch
  shown_held : (x : Course) (s : State) (c : Configuration) → Flow x s → Outs x s.control → Makes x c → AreHeld x.units x.sources
  shown_held x s c f o k =
      let more = x.mid ++ waiting_asked s.control in
      let past = stand_front x.past more no_configuration (subst (λ (qs : List Asked). Stand qs no_configuration) (f.works ∙ append_assoc x.past x.mid (waiting_asked s.control)) k.stand) in
      let all : AreHeld (shows_all (parts x.past nothing_given) None) (sources_of x.past nothing_given 0 0) = held_all x.past no_configuration None 0 past (sym (none_given nothing_given.config)) in
      held_front x.units (shows_all (task_parts s.control.tasks) s.control.active) x.sources x.book.waiting o.counted (subst (λ (l : List media.Unit). AreHeld l (x.sources ++ x.book.waiting)) (sym o.shown) (subst (λ (l : List Source). AreHeld (shows_all (parts x.past nothing_given) None) l) (sym o.sources) all))

  makes_more : (x y : Course) (place : ℕ) (w : Option Work) (c : Configuration) → y.works ≡ more_asked place w x.works → at place ≡ configuration_more place w c → Makes x c → Makes y (configuration_more place w c)
  makes_more x y place None c works is h = record { stand = rw works (h.stand); now = rw works (h.now) }
  makes_more x y place (Some w) c works is h = record {
    stand = rw works (stand_more x.works place w no_configuration (is ∙ ap (λ (d : Configuration). configuration_more place (Some w) d) h.now) h.stand);
    now = rw works (ap (λ (d : Configuration). configuration_more place (Some w) d) h.now ∙ sym (configured_more x.works place w no_configuration));
  }

  -- one entry more: what it shows is held
  record Goes (e : Entry) (s t : State) (x : Course) (c : Configuration) : Type 0 where
    makes : Makes (course_after e s x) (configuration_after s.control.place e (sight_of e (shown_at e s) t.control.size) c)
    held : AreHeld (units_in (shows e s)) (take (length (units_in (shows e s))) x.book.waiting)

  goes : (e : Entry) (s t : State) (x : Course) (c : Configuration) → step e s ≡ Some t → Flow x s → Outs x s.control → Makes x c → at s.control.place ≡ configuration_after s.control.place e (sight_of e (shown_at e s) t.control.size) c → Goes e s t x c
  goes e s t x c is f o k here = by (rejects_with e (shown_at e s)) refl
    where
      by : (r : Option DomError) → rejects_with e (shown_at e s) ≡ r → Goes e s t x c
      by (Some error) gone = record {
        makes = rw gone (record { stand = tt; now = refl });
        held = subst (λ (us : List media.Unit). AreHeld us (take (length us) x.book.waiting)) (sym (removal_units e s error gone)) tt;
      }
      by None stays =
          let y = course_after e s x in
          let us = units_in (shows e s) in
          let seen : configuration_after s.control.place e (sight_of e (shown_at e s) t.control.size) c ≡ configuration_more s.control.place (asked_for e (shows e s)) c = rw stays (ap (λ (w : Option Work). configuration_more s.control.place w c) (work_is_seen e (shows e s))) in
          let works : y.works ≡ more_asked s.control.place (asked_for e (shows e s)) x.works = rw stays (ap (λ (n : ℕ). more_asked n (asked_for e (shows e s)) x.works) f.place) in
          let makes : Makes y (configuration_more s.control.place (asked_for e (shows e s)) c) = makes_more x y s.control.place (asked_for e (shows e s)) c works (here ∙ seen) k in
          let units : y.units ≡ x.units ++ us = rw stays refl in
          let sources : y.sources ≡ x.sources ++ take (length us) x.book.waiting = rw stays refl in
          let all = shown_held y t _ (step_flow e s t is x f) (step_outs e s t is x f o) makes in
          let both : AreHeld (x.units ++ us) (x.sources ++ take (length us) x.book.waiting) = subst (λ (l : List media.Unit). AreHeld l (x.sources ++ take (length us) x.book.waiting)) units (subst (λ (l : List Source). AreHeld y.units l) sources all) in
          record { makes = subst (λ (d : Configuration). Makes y d) (sym seen) makes; held = held_back x.units us x.sources (take (length us) x.book.waiting) o.counted both }

  -- the configurations from this place on
  abbrev Here : ℕ → Configuration → List Entry → List Sight → Type 0
  Here place c es xs = (k : ℕ) → at (place + k) ≡ configuration_from place c es xs k

  here_first : (place : ℕ) (c : Configuration) (e : Entry) (es : List Entry) (v : Sight) (xs : List Sight) → Here place c (e ∷ es) (v ∷ xs) → at place ≡ configuration_after place e v c
  here_first place c e es v xs h = subst (λ (n : ℕ). at n ≡ configuration_after place e v c) (omega arith) (h 0)

  here_rest : (place next : ℕ) (c : Configuration) (e : Entry) (es : List Entry) (v : Sight) (xs : List Sight) → next ≡ place + 1 → Here place c (e ∷ es) (v ∷ xs) → Here next (configuration_after place e v c) es xs
  here_rest place next c e es v xs is h = λ k. subst (λ (n : ℕ). at n ≡ configuration_from next (configuration_after place e v c) es xs k) (omega (arith, is)) (subst (λ (n : ℕ). at (place + suc k) ≡ configuration_from n (configuration_after place e v c) es xs k) (sym is) (h (suc k)))

  held_from : (es : List Entry) (s t : State) (x : Course) (c : Configuration) → Flow x s → Outs x s.control → Makes x c → replay_from es s ≡ Some t → Here s.control.place c es (sights_from es s) → AreShown (outputs_of (shown_from es s)) (outputs_from (sights_from es s) x.book)
  held_from [] s t x c f o k legal here = tt
  held_from (e ∷ es) s t x c f o k legal here = option_and_then_some (replay_from es) (step e s) t legal (λ r is more.
      let v = sight_of e (shown_at e s) r.control.size in
      let us = units_in (shows e s) in
      let from : Here s.control.place c (e ∷ es) (v ∷ sights_from es r) = rw is at here in
      let g = goes e s r x c is f o k (here_first s.control.place c e es v (sights_from es r) from) in
      let place = (step_phases e s r is).place in
      let rest = held_from es r t (course_after e s x) (configuration_after s.control.place e v c) (step_flow e s r is x f) (step_outs e s r is x f o) g.makes more (here_rest s.control.place r.control.place c e es v (sights_from es r) place from) in
      let book : (course_after e s x).book ≡ book_after v x.book = next_book [] (is_some v.removes) (fresh x) _ (removed x.book) (kept v x.book) refl refl in
      let behind : AreShown (outputs_of (shown_from es r)) (outputs_from (sights_from es r) (book_after v x.book)) = subst (λ (b : Book). AreShown (outputs_of (shown_from es r)) (outputs_from (sights_from es r) b)) book rest in
      rw (is, outputs_tagged s.control.place (shows e s) (shown_from es r)) (shown_both x.book.place us (outputs_of (shown_from es r)) (take (length us) x.book.waiting) (outputs_from (sights_from es r) (book_after v x.book)) g.held behind))

  -- ---- by its number

  shown_long : (us : List media.Unit) (ys : List Output) → AreShown us ys → length ys ≡ length us
  shown_long [] [] h = refl
  shown_long [] (y ∷ ys) h = absurd h
  shown_long (u ∷ us) [] h = absurd h
  shown_long (u ∷ us) (y ∷ ys) h = ap suc (shown_long us ys h.1)

  record Found (ys : List Output) (n : ℕ) (u : media.Unit) : Type 0 where
    output : Output
    is : slice_get ys n ≡ Some output
    held : IsHeld u output.source

  shown_found : (us : List media.Unit) (ys : List Output) (n : ℕ) (u : media.Unit) → AreShown us ys → slice_get us n ≡ Some u → Found ys n u
  shown_found [] [] n u h is = absurd cc
  shown_found [] (y ∷ ys) n u h is = absurd h
  shown_found (v ∷ us) [] n u h is = absurd h
  shown_found (v ∷ us) (y ∷ ys) zero u h is = let same : v ≡ u = cc in record { output = y; is = refl; held = subst (λ (b : media.Unit). IsHeld b y.source) same h.0 }
  shown_found (v ∷ us) (y ∷ ys) (suc n) u h is = let k = shown_found us ys n u h.1 is in record { output = k.output; is = k.is; held = k.held }

pub contents_given : ContentsAreGiven
contents_given o h legal =
    let some = legal_state o h legal in
    let at = configuration_at o h in
    let all = held_from at h (opening_state o) some.0 opening_course no_configuration (opening_flow o) (opening_outs o) (record { stand = tt; now = refl }) some.1 (λ k. ap at (omega arith)) in
    record {
      as_many = shown_long at (outputs_of (shown o h)) (outputs (sights o h)) all;
      each = λ n u is. (let k = shown_found at (outputs_of (shown o h)) (outputs (sights o h)) n u all is in record { output = k.output; numbered = k.is; configure = k.held.configure; given = k.held.given });
    }
