-- What is kept beside a codec's state of the entries since its last removal.
use Rattle.std.proofs.Common.{ℕ, ◌≡◌, ◌+◌, true, eqb, cond, List, [], ◌∷◌, ◌++◌, length, append-nil, take, drop, Option, Some, None, is_some, refl, ap, ◌∙◌}
use Rattle.wc_base.specs.{declared.error.DomError.DomError, declared.who.Who.Who, declared.ground.Ground.Ground}
use Rattle.codec_definitions.specs.declared.unit.Unit as media
use Rattle.codec_model.specs.declared.entry.{WorkKind.WorkKind, Work.Work, Item.Item, Message.Message, Entry.Entry, Outcome.Outcome, Event.Event, Shown.Shown, Call.Call, Coded.Coded, Handed.Handed, Task.Task}
use Rattle.codec_model.specs.Control.{Control, kind_of}
use Rattle.codec_model.specs.Replay.{State, Given, given_more, message_of, removes, call_error}
use Rattle.codec_model.specs.Shown.{shown_at, units_in, call_shows, removal_shows, turn_shows, turn_word}
use Rattle.codec_model.specs.StepLaws.{by_removals}
use Rattle.codec_laws.specs.{declared.source.Source.Source, declared.sight.Sight.Sight}
use Rattle.codec_laws.specs.Sights.{asked_for, sight_of}
use Rattle.codec_laws.specs.Sources.{Book, removed, kept, after_ran}

-- a call, by its place, with what it asks for
abbrev pub Asked : Type 0
Asked = ℕ × Work

abbrev pub items_asked : List Item → List Asked
items_asked [] = []
items_asked (i ∷ is) = (i.place, i.work) ∷ items_asked is

abbrev pub messages_asked : List Message → List Asked
messages_asked [] = []
messages_asked (m ∷ ms) = (m.place, m.work) ∷ messages_asked ms

abbrev pub waiting_asked : Control → List Asked
waiting_asked c = items_asked c.work ++ messages_asked c.messages

abbrev pub kinds : List Asked → List (ℕ × WorkKind)
kinds [] = []
kinds (a ∷ qs) = (a.0, kind_of a.1) ∷ kinds qs

abbrev pub given_all : List Asked → Given → Given
given_all [] g = g
given_all (a ∷ qs) g = given_all qs (given_more a.1 g)

-- since the last removal: what was asked for; of that, what ran, and what is at work or did not run; where the outputs that
-- were shown come from, and these outputs
pub record Course : Type 0 where
  pub book : Book
  pub works : List Asked
  pub past : List Asked
  pub mid : List Asked
  pub sources : List Source
  pub units : List media.Unit

abbrev pub more_asked : ℕ → Option Work → List Asked → List Asked
more_asked place None ws = ws
more_asked place (Some w) ws = ws ++ (place, w) ∷ []

abbrev pub front_asked : List Item → List Asked
front_asked [] = []
front_asked (i ∷ is) = (i.place, i.work) ∷ []

abbrev pub mid_after : Entry → State → Course → List Asked
mid_after (Entry.Start epoch item) s x = front_asked s.control.work
mid_after (Entry.Done epoch item moment (Outcome.Ran units)) s x = cond (eqb epoch s.control.epoch) [] x.mid
mid_after e s x = x.mid

abbrev pub past_after : Entry → State → Course → List Asked
past_after (Entry.Done epoch item moment (Outcome.Ran units)) s x = cond (eqb epoch s.control.epoch) (x.past ++ x.mid) x.past
past_after e s x = x.past

abbrev pub fresh : Course → Course
fresh x = record { book = removed x.book; works = []; past = []; mid = []; sources = []; units = [] }

abbrev pub course_by : Sight → Entry → List Event → State → Course → Course
course_by v e xs s x = cond (is_some v.removes) (fresh x) (record {
  book = kept v x.book;
  works = more_asked x.book.place (asked_for e xs) x.works;
  past = past_after e s x;
  mid = mid_after e s x;
  sources = x.sources ++ take v.outputs x.book.waiting;
  units = x.units ++ units_in xs;
})

abbrev pub course_at : Entry → Shown → State → Course → Course
course_at e sh s x = course_by (sight_of e sh 0) e sh.events s x

abbrev pub course_after : Entry → State → Course → Course
course_after e s x = course_at e (shown_at e s) s x

abbrev pub more_kinds : ℕ → Option Work → List (ℕ × WorkKind) → List (ℕ × WorkKind)
more_kinds place None ks = ks
more_kinds place (Some v) ks = ks ++ (place, kind_of v) ∷ []

-- an entry that is no removal, start or end, and shows no outputs
abbrev pub plain : Option Work → Course → Course
plain w x = record x {
  book = record x.book { place = x.book.place + 1; calls = more_kinds x.book.place w x.book.calls };
  works = more_asked x.book.place w x.works;
}

-- a turn that does not close, which shows these units
abbrev pub turned : List media.Unit → Course → Course
turned us x = record x {
  book = record x.book { place = x.book.place + 1; waiting = drop (length us) x.book.waiting };
  sources = x.sources ++ take (length us) x.book.waiting;
  units = x.units ++ us;
}

-- the item at work ran, and gave so many units
abbrev pub settled : ℕ → ℕ → ℕ → State → Course → Course
settled epoch item units s x = record x {
  book = let b = after_ran (Some (record { epoch = epoch; item = item; units = units })) x.book in record b { place = b.place + 1 };
  past = cond (eqb epoch s.control.epoch) (x.past ++ x.mid) x.past;
  mid = cond (eqb epoch s.control.epoch) [] x.mid;
}

-- ---- which entries make which

settle : (x : Course) → record x { sources = x.sources ++ []; units = x.units ++ [] } ≡ x
settle x = rw (append-nil x.sources, append-nil x.units) refl

-- what a call with this error shows
abbrev pub call_shown : Call → Option DomError → State → Shown
call_shown y o s = record { turn = None; events = call_shows y s.control.place s.control.pending o }

pub refused_course : (who : Who) (y : Call) (error : DomError) (s : State) (x : Course) → call_error y s.control ≡ Some error → course_after (Entry.Call who y) s x ≡ plain None x
refused_course who y error s x e = ap (λ (o : Option DomError). course_at (Entry.Call who y) (call_shown y o s) s x) e ∙ by y
  where
    by : (y : Call) → course_at (Entry.Call who y) (call_shown y (Some error) s) s x ≡ plain None x
    by Call.Flush = settle (plain None x)
    by y = settle (plain None x)

pub sent_course : (who : Who) (y : Call) (w : Work) (s : State) (x : Course) → message_of y ≡ Some w → call_error y s.control ≡ None → course_after (Entry.Call who y) s x ≡ plain (Some w) x
sent_course who y w s x m e = ap (λ (o : Option DomError). course_at (Entry.Call who y) (call_shown y o s) s x) e ∙ (by y m ∙ ap (λ (v : Option Work). plain v x) m)
  where
    by : (y : Call) → message_of y ≡ Some w → course_at (Entry.Call who y) (call_shown y None s) s x ≡ plain (message_of y) x
    by (Call.Configure config) m = settle (plain (Some (Work.Configure config)) x)
    by (Call.Decode chunk) m = settle (plain (Some (Work.Coded (Coded.Chunk chunk))) x)
    by (Call.Encode (Handed.Cloned medium)) m = settle (plain (Some (Work.Coded (Coded.Medium medium))) x)
    by Call.Flush m = settle (plain (Some Work.Flush) x)
    by y m = absurd cc

pub take_course : (who : Who) (unit : ℕ) (s : State) (x : Course) → course_after (Entry.Call who (Call.Take unit)) s x ≡ plain None x
take_course who unit s x = settle (plain None x)

pub ground_course : (who : Who) (to : Ground) (s : State) (x : Course) → course_after (Entry.Call who (Call.Ground to)) s x ≡ plain None x
ground_course who to s x = settle (plain None x)

pub reclaim_course : (moment : ℕ) (s : State) (x : Course) → course_after (Entry.Reclaim moment) s x ≡ fresh x
reclaim_course moment s x = refl

pub removal_course : (who : Who) (y : Call) (s : State) (x : Course) → removes y ≡ true → call_error y s.control ≡ None → course_after (Entry.Call who y) s x ≡ fresh x
removal_course who y s x is e = ap (λ (o : Option DomError). course_at (Entry.Call who y) (call_shown y o s) s x) e ∙ by_removals (λ y. course_at (Entry.Call who y) (call_shown y None s) s x ≡ fresh x) (reset s.control.pending) (close s.control.pending) y is
  where
    reset : (ps : List ℕ) → course_at (Entry.Call who Call.Reset) (record { turn = None; events = removal_shows ps }) s x ≡ fresh x
    reset [] = refl
    reset (p ∷ ps) = refl

    close : (ps : List ℕ) → course_at (Entry.Call who Call.Close) (record { turn = None; events = removal_shows ps }) s x ≡ fresh x
    close [] = refl
    close (p ∷ ps) = refl

pub start_course : (epoch item : ℕ) (s : State) (x : Course) → course_after (Entry.Start epoch item) s x ≡ record (plain None x) { mid = front_asked s.control.work }
start_course epoch item s x = settle (record (plain None x) { mid = front_asked s.control.work })

abbrev pub done_course_is : ℕ → ℕ → Outcome → State → Course → Course
done_course_is epoch item (Outcome.Ran units) s x = settled epoch item units s x
done_course_is epoch item o s x = plain None x

pub done_course : (epoch item moment : ℕ) (o : Outcome) (s : State) (x : Course) → course_after (Entry.Done epoch item moment o) s x ≡ done_course_is epoch item o s x
done_course epoch item moment (Outcome.Ran units) s x = settle (settled epoch item units s x)
done_course epoch item moment o s x = settle (plain None x)

abbrev pub task_units : Task → Control → List media.Unit
task_units t c = units_in (turn_shows (t ∷ []) c)

abbrev pub turn_course_is : Task → State → Course → Course
turn_course_is (Task.Close error) s x = fresh x
turn_course_is t s x = turned (task_units t s.control) x

pub turn_course : (t : Task) (ts : List Task) (s : State) (x : Course) → s.control.tasks ≡ t ∷ ts → course_after Entry.Turn s x ≡ turn_course_is t s x
turn_course t ts s x first = ap (λ (l : List Task). course_at Entry.Turn (record { turn = turn_word l; events = turn_shows l s.control }) s x) first ∙ by t
  where
    by : (u : Task) → course_at Entry.Turn (record { turn = turn_word (u ∷ ts); events = turn_shows (u ∷ ts) s.control }) s x ≡ turn_course_is u s x
    by (Task.Close error) = refl
    by u = refl
