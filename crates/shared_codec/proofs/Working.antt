-- Items at work, their acquires and their ends.
use Rattle.std.proofs.Common.{ℕ, ◌≡◌, true, List, [], ◌∷◌, map, Option, Some, None, is_some, refl, ap, sym, subst, ◌∙◌}
use Rattle.std.specs.Prelude.{Ok}
use Rattle.atomic_table.specs.Seated.{TableId}
use Rattle.wc_base.specs.declared.who.By.{By}
use Rattle.wc_base.specs.declared.who.By.TheVariants as by
use Rattle.wc_base.specs.declared.seat.View.{View}
use Rattle.wc_config.specs.declared.codec.CoderId.{CoderId}
use Rattle.coder_api.specs.Lent.{Lent}
use Rattle.coder_api.specs.declared.slot.SlotEntry.{SlotEntry}
use Rattle.codec_model.specs.Replay.{State}
use Rattle.codec_accounts.specs.Boxes.{Holds}
use Rattle.codec_accounts.specs.Registry.{Box}
use Rattle.codec_core.specs.Codec.{IsBy}
use Rattle.codec_core.specs.Job.{JobValue, DoneValue, IsJobOf, missing_id, outcome_of, stopped_box, with_box}
use Rattle.seat_lock.specs.Logs.{entries_of}
use Rattle.seat_lock.specs.Since.{MadeSince}
use Rattle.codec_logs.specs.declared.event.Event.{Event}
use Rattle.codec_logs.specs.Logs.{track, AreAsked}
use Rattle.shared_slots.specs.Boxes.{Registry, IsOut, IfOut}
use Rattle.shared_slots.specs.Steps.{went_out, refused, AcquiredAfter, RefusedAfter}
use Rattle.shared_codec.specs.declared.workers.Acquired.TheVariants as acquired
use Rattle.shared_codec.specs.declared.workers.Lack.TheVariants as lack
use Rattle.shared_codec.specs.Dues.{DoFor, ends_at, gives_of, given_if, IsLater}
use Rattle.codec_model.specs.Held.{in_order}
use Rattle.wc_pool.specs.Pools.{ended_by}
use Rattle.wc_pool.specs.declared.entry.{PoolEntry.PoolEntry, PoolOp.PoolOp}
use Rattle.wc_pool.specs.declared.reference.MediaRef.{MediaRef}
use Rattle.wc_base.specs.declared.error.DomError.{DomError}
use Rattle.codec_media.specs.Holding.{EndedValue, ReplyValue, RemovedValue, TurnedValue, pair_of}
use Rattle.shared_codec.specs.Shared.{Shared, HasJob}
use Rattle.shared_codec.specs.Owes.{CallOwes, TurnOwes, ReclaimOwes, StartOwes, DoneOwes}
use Rattle.shared_codec.specs.Settles.{Settles, SettlesAfter, AreOfCodec, of_codec_both, gives_of_codec, given_of_codec, settles_rest, settles_back}
use Rattle.seat_lock.specs.SinceLaws.{made_none}
use Rattle.shared_codec.specs.Told.{ending_of, asked_in, AreOfAsked, IsTold}
use Rattle.shared_codec.specs.ToldLaws.{told_later}
use Rattle.shared_codec.specs.Workers.{EndsIf, EndsAll, IsBareOf, IsAtWork, AcquireGives}
use Rattle.shared_codec.specs.WorkLaws.{out_same}

-- ---- a start

no_lack : {X : Type 0} (o : Option CoderId) → o ≡ None → is_some o ≡ true → X
no_lack o none some = absurd (let bad = sym (ap is_some none) ∙ some in cc)

-- a job that lacks nothing, as it came
pub bare_none : (job : JobValue) → missing_id job ≡ None → IsBareOf job job
bare_none job none = record { lacks = refl; place = refl; epoch = refl; number = refl; none = λ some. no_lack (missing_id job) none some }

pub work_none : (s : Shared) (v : View Event) (job : JobValue) → HasJob s v job → missing_id job ≡ None → IsAtWork s v (missing_id job) job []
work_none s v job has none = record {
  runner = has.runner;
  runs = has.runs;
  job_is = has.job_is;
  asked_is = has.asked;
  asks = λ some. no_lack (missing_id job) none some;
  box = has.has none;
  out = has.out;
  caused = tt;
  ids = ids (missing_id job);
  none = λ e. refl;
  tries = tt;
}
  where
    ids : (o : Option CoderId) → AreOfAsked o []
    ids None = tt
    ids (Some id) = tt

-- a job that lacks a box, once it has none
pub bare_taken : (old new : JobValue) → new ≡ with_box None old → missing_id new ≡ missing_id old → IsBareOf old new
bare_taken old new left lacks = record {
  lacks = lacks;
  place = ap (λ (j : JobValue). j.place) left;
  epoch = ap (λ (j : JobValue). j.epoch) left;
  number = ap (λ (j : JobValue). j.number) left;
  none = λ some. ap (λ (j : JobValue). j.coder) left;
}

pub work_taken : (s : Shared) (v : View Event) (old new : JobValue) (id : CoderId) → HasJob s v old → missing_id old ≡ Some id → new ≡ with_box None old → ((t : State) → IsJobOf t old → IsJobOf t new) → IsAtWork s v (missing_id old) new []
work_taken s v old new id has lacks left stays =
    let asks = has.asks (ap is_some lacks) in
    let x : Holds Box = (track s.opening v.log).holds in
    let own : IsAtWork s v (missing_id old) (with_box None old) [] = record {
      runner = has.runner;
      runs = has.runs;
      job_is = subst (λ (z : JobValue). IsJobOf (track s.opening v.log).state z) left (stays (track s.opening v.log).state has.job_is);
      asked_is = has.asked;
      asks = λ some. asks_at x old.place asks;
      box = asks.2;
      out = tt;
      caused = tt;
      ids = ids (missing_id old);
      none = λ e. refl;
      tries = tt;
    } in
    subst (λ (z : JobValue). IsAtWork s v (missing_id old) z []) (sym left) own
  where
    ids : (o : Option CoderId) → AreOfAsked o []
    ids None = tt
    ids (Some id) = tt

    asks_at : (x : Holds Box) (place : ℕ) → (x.waits ≡ true) × (x.since ≡ Some place) × (x.box ≡ None) → (x.waits ≡ true) × (x.since ≡ Some place) × (x.box ≡ None)
    asks_at x place a = a

-- nothing goes back of a job that lacks nothing
pub given_none : (k place : ℕ) (coder : Option Lent) (m : Option CoderId) (v : View SlotEntry) → m ≡ None → MadeSince v v (given_if k m place coder)
given_none k place coder m v none = subst (λ (l : List SlotEntry). MadeSince v v l) (ap (λ (o : Option CoderId). given_if k o place coder) (sym none)) (made_none v)

pub by_place : (k place : ℕ) (b : By) → b ≡ by.Codec k place → IsBy b (Some place)
by_place k place b is = subst (λ (x : By). IsBy x (Some place)) (sym is) refl

pub later_stopped : (k at : ℕ) (a b : Option Lent) → b ≡ stopped_box a → IsLater k at a → IsLater k at b
later_stopped k at None b is h = subst (λ (z : Option Lent). IsLater k at z) (sym is) tt
later_stopped k at (Some l) b is h = subst (λ (z : Option Lent). IsLater k at z) (sym is) h

twice : (a : Option Lent) → stopped_box (stopped_box a) ≡ stopped_box a
twice None = refl
twice (Some l) = refl

pub out_taken : (slots : TableId) (a b : Option Lent) → b ≡ stopped_box a → IfOut slots a → IfOut slots b
out_taken slots a b is h = out_same slots a b (ap stopped_box is ∙ twice a) h

pub gives_taken : (k at : ℕ) (a b : Option Lent) → b ≡ stopped_box a → gives_of k at b ≡ gives_of k at a
gives_taken k at None b is = ap (gives_of k at) is
gives_taken k at (Some l) b is = ap (gives_of k at) is

pub lacks_some : (o : Option CoderId) (id : CoderId) → o ≡ Some id → is_some o ≡ true
lacks_some o id is = ap is_some is

-- the return of the box that a job came with
pub given_is : (k j : ℕ) (m : Option CoderId) (id : CoderId) (at place : ℕ) (coder old : Option Lent) → k ≡ j → m ≡ Some id → at ≡ place → old ≡ stopped_box coder → gives_of k at old ≡ given_if j m place coder
given_is k j m id at place coder old same lacks is taken =
    (λ i. gives_of (same i) (is i) old) ∙ (gives_taken j place coder old taken ∙ (λ i. given_if j (sym lacks i) place coder))

-- what was given back of a job that lacks another box is what its start calls for
pub made_given : (k j : ℕ) (m : Option CoderId) (id : CoderId) (at place : ℕ) (coder old : Option Lent) (v w : View SlotEntry) → k ≡ j → m ≡ Some id → at ≡ place → old ≡ stopped_box coder → MadeSince v w (gives_of k at old) → MadeSince v w (given_if j m place coder)
made_given k j m id at place coder old v w same lacks is taken made = subst (λ (l : List SlotEntry). MadeSince v w l) (given_is k j m id at place coder old same lacks is taken) made

-- a start, once its job's old box has gone back
pub start_settles : (s : Shared) (job : JobValue) (a b : View Event) (c d : View SlotEntry) (p : View PoolEntry) → StartOwes s (Some job) a b → MadeSince c d (given_if s.codec (missing_id job) job.place job.coder) → Settles s a b c d p p
start_settles s job a b c d p owes made = record {
  entries = given_if s.codec (missing_id job) job.place job.coder;
  calls = [];
  ends = [];
  owes = owes;
  made = made;
  own = given_of_codec s.codec (missing_id job) job.place job.coder;
  does = [];
  pool = made_none p;
  are = tt;
  told = tt;
}

-- ---- an acquire

pub acquire_granted : (r : Registry) (k j : ℕ) (id : CoderId) (lent : Lent) (old new : JobValue) (place number : ℕ) (v w : View SlotEntry) → k ≡ j → place ≡ old.place → number ≡ lent.number → AcquiredAfter r.made (by.Codec k place) id lent v w → IsOut r.id lent → new ≡ with_box (Some lent) old → missing_id new ≡ None → ((t : State) → IsJobOf t old → IsJobOf t new)
    → AcquireGives r j id (acquired.Granted (went_out (by.Codec k place) id number)) old new v w
acquire_granted r k j id lent old new place number v w same at is after out job serves stays = record {
  lent = lent;
  is = (λ i. went_out (by.Codec (same i) (at i)) id (is i));
  after = subst (λ (b : By). AcquiredAfter r.made b id lent v w) (λ i. by.Codec (same i) (at i)) after;
  out = out;
  job = job;
  serves = serves;
  stays = stays;
}

pub acquire_refused : (r : Registry) (k j : ℕ) (id : CoderId) (n out all : ℕ) (job : JobValue) (place : ℕ) (v w : View SlotEntry) → k ≡ j → place ≡ job.place → RefusedAfter r.made (by.Codec k place) id n out all v w → AcquireGives r j id (acquired.Refused (refused (by.Codec k place) id out all) n) job job v w
acquire_refused r k j id n out all job place v w same at after = record {
  out = out;
  all = all;
  is = (λ i. refused (by.Codec (same i) (at i)) id out all);
  after = subst (λ (b : By). RefusedAfter r.made b id n out all v w) (λ i. by.Codec (same i) (at i)) after;
  same = refl;
}

-- ---- an end

all_ended : (k place : ℕ) (medium : Option MediaRef) (p q : View PoolEntry) → EndsIf k place medium p q → (es : List PoolEntry) × MadeSince p q es × DoFor k (ends_at place (map pair_of (in_order medium))) es
all_ended k place None p q e = ([], e, tt)
all_ended k place (Some r) p q e = (ended_by (by.Codec k place) r e.0 ∷ [], e.1, ((e.0, refl), tt))

-- a turn by which the codec was closed, by what it hands back
closed_is : (t : TurnedValue) (place at : ℕ) (removed : Option RemovedValue) (r : RemovedValue) (media : List MediaRef) (coder : Option Lent) → record { place = place; removed = removed } ≡ t → removed ≡ Some r → record { place = at; media = media; coder = coder } ≡ r → t ≡ record { place = place; removed = Some (record { place = at; media = media; coder = coder }) }
closed_is t place at removed r media coder is some removed_is = sym is ∙ ((λ i. record { place = place; removed = some i }) ∙ (λ i. record { place = place; removed = Some (sym removed_is i) }))

-- what was asked for is by entries of the codec
of_asked : (k : ℕ) (es : List SlotEntry) (x : Holds Box) → AreAsked k es x → AreOfCodec k es
of_asked k [] x h = tt
of_asked k (a ∷ rest) x h = ((h.0.0, h.0.3), of_asked k rest x h.1)

-- its end, once what it let go went back
pub end_settles : (s : Shared) (a b : View Event) (c d : View SlotEntry) (p q : View PoolEntry) (k : ℕ) (done : DoneValue) (es : List SlotEntry) (back : EndedValue) (place : ℕ) (media : Option MediaRef) (coder : Option Lent) (x : Holds Box)
    → AreAsked s.codec es x → k ≡ s.codec → record { place = place; media = media; coder = coder } ≡ back → IsTold (entries_of c.log) (ending_of (asked_in (track s.opening a.log)) es (outcome_of done.ended)) → DoneOwes s done es back a b → MadeSince c d (gives_of k place coder) → EndsIf k place media p q
    → SettlesAfter es s a b c d p q
end_settles s a b c d p q k done es back place media coder x asked same is told owes last ends =
    let returned : List SlotEntry = gives_of s.codec back.place back.coder in
    let calls : List (ℕ × PoolOp) = ends_at back.place (map pair_of (in_order back.media)) in
    let closed = all_ended s.codec back.place back.media p q (subst (λ (n : ℕ). EndsIf n back.place back.media p q) same (subst (λ (z : EndedValue). EndsIf k z.place z.media p q) is ends)) in
    let back_is : gives_of k place coder ≡ returned = (λ i. gives_of (same i) (is i).place (is i).coder) in
    record {
      entries = returned;
      calls = calls;
      ends = ending_of (asked_in (track s.opening a.log)) es (outcome_of done.ended) ∷ [];
      owes = owes;
      made = subst (λ (l : List SlotEntry). MadeSince c d l) back_is last;
      own = of_codec_both s.codec es returned (of_asked s.codec es x asked) (gives_of_codec s.codec back.place back.coder);
      does = closed.0;
      pool = closed.1;
      are = closed.2;
      told = told_later c.log last.more d.log (ending_of (asked_in (track s.opening a.log)) es (outcome_of done.ended) ∷ []) last.longer (told, tt);
    }

-- a call of a caller, once what it let go went back
pub call_settles : (s : Shared) (r : ReplyValue) (place : ℕ) (exception : Option DomError) (promise : Option ℕ) (media : List MediaRef) (coder : Option Lent) (a b : View Event) (c d : View SlotEntry) (p q : View PoolEntry)
    → record { place = place; exception = exception; promise = promise; media = media; coder = coder } ≡ r → CallOwes s (Ok r) a b → MadeSince c d (gives_of s.codec place coder) → EndsAll s.codec place media p q → Settles s a b c d p q
call_settles s r place exception promise media coder a b c d p q is owes given ends =
    settles_back s place media coder a b c d p q (subst (λ (z : ReplyValue). CallOwes s (Ok z) a b) (sym is) owes) given ends

-- a turn that closes nothing
pub turn_settles : (s : Shared) (t : TurnedValue) (place : ℕ) (removed : Option RemovedValue) (a b : View Event) (c : View SlotEntry) (p : View PoolEntry) → record { place = place; removed = removed } ≡ t → removed ≡ None → TurnOwes s (Some t) a b → Settles s a b c c p p
turn_settles s t place removed a b c p is none owes =
    let t_is : t ≡ record { place = place; removed = None } = sym is ∙ (λ i. record { place = place; removed = none i }) in
    settles_rest s a b c p (subst (λ (z : TurnedValue). TurnOwes s (Some z) a b) t_is owes)

-- a turn that closes the codec, once what that let go went back
pub close_settles : (s : Shared) (t : TurnedValue) (place at : ℕ) (removed : Option RemovedValue) (r : RemovedValue) (media : List MediaRef) (coder : Option Lent) (a b : View Event) (c d : View SlotEntry) (p q : View PoolEntry) → record { place = place; removed = removed } ≡ t → removed ≡ Some r → record { place = at; media = media; coder = coder } ≡ r
    → TurnOwes s (Some t) a b → MadeSince c d (gives_of s.codec place coder) → EndsAll s.codec place media p q → Settles s a b c d p q
close_settles s t place at removed r media coder a b c d p q is some removed_is owes given ends =
    settles_back s place media coder a b c d p q (subst (λ (z : TurnedValue). TurnOwes s (Some z) a b) (closed_is t place at removed r media coder is some removed_is) owes) given ends

-- a reclaim, once what it let go went back
pub reclaim_settles : (s : Shared) (r : RemovedValue) (place : ℕ) (media : List MediaRef) (coder : Option Lent) (a b : View Event) (c d : View SlotEntry) (p q : View PoolEntry) → record { place = place; media = media; coder = coder } ≡ r → ReclaimOwes s (Some r) a b → MadeSince c d (gives_of s.codec place coder) → EndsAll s.codec place media p q → Settles s a b c d p q
reclaim_settles s r place media coder a b c d p q is owes given ends =
    settles_back s place media coder a b c d p q (subst (λ (z : RemovedValue). ReclaimOwes s (Some z) a b) (sym is) owes) given ends
