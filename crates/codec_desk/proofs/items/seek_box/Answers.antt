use Rattle.std.proofs.Common.{[], ◌∷◌, Some, None, Option, refl, ap, sym, subst, ◌∙◌}
use Rattle.wc_config.specs.declared.codec.CoderId.{CoderId}
use Rattle.std.specs.Prelude.{is_some}
use Rattle.codec_core.specs.Job.{JobValue, missing_id}
use Rattle.shared_codec.specs.declared.workers.Lack.TheVariants as lack
use Rattle.shared_codec.specs.declared.workers.Acquired.TheVariants as acquired
use Rattle.codec_logs.specs.Logs.{acquires_of}
use Rattle.codec_desk.specs.Items.{WorksAt, Sought}
use Rattle.codec_desk.specs.Rooms.{BoxSought}
use Rattle.codec_desk.specs.ItemLaws.{sits_only, sought_none, sought_first, first_stands}
use Rattle.codec_desk.proofs.items.seek_box.Goals as goal

pub returns-in_default-clause-sought : goal.returns-in_default-clause-sought
returns-in_default-clause-sought g c =
    let none = sym c.lacks.ensures ∙ c.in_default.is in
    sought_none c.args.desk.now c.args.codec (missing_id c.args.job.now) c.args.job.now (acquires_of c.no_acquires.result) (g.K.Clock.told c.args.clock.now) c.args.seats.now (ap acquires_of c.no_acquires.ensures) none none c.requires.sits c.requires.works

pub acquire_at-requires-clause-none : goal.acquire_at-requires-clause-none
acquire_at-requires-clause-none g c κs within =
    c.requires.bare (ap is_some (sym c.lacks.ensures ∙ c.in-Some.is))

pub returns-in-Granted-clause-sits : goal.returns-in-Granted-clause-sits
returns-in-Granted-clause-sits g c = sits_only c.args.desk.now c.args.seats.now c.acquire_at.new.seats c.requires.sits c.in-Granted.ensures.only

pub returns-in-Granted-clause-sought : goal.returns-in-Granted-clause-sought
returns-in-Granted-clause-sought g c =
    let lacks = sym c.lacks.ensures ∙ c.in-Some.is in
    sought_first c.args.desk.now c.args.codec (missing_id c.args.job.now) c.in-Some.id (acquired.Granted c.in-Granted.entry) c.args.job.now c.acquire_at.new.job (acquires_of c.one_acquire.result) (g.K.Clock.told c.args.clock.now) c.args.seats.now c.acquire_at.new.seats
    lacks c.one_acquire.ensures (c.requires.bare (ap is_some lacks)) lacks c.requires.sits c.requires.works c.in-Granted.ensures.only c.in-Granted.ensures.gives

pub returns-in-NoMemory-clause-sits : goal.returns-in-NoMemory-clause-sits
returns-in-NoMemory-clause-sits g c = sits_only c.args.desk.now c.args.seats.now c.acquire_at.new.seats c.requires.sits c.in-NoMemory.ensures.only

pub returns-in-NoMemory-clause-sought : goal.returns-in-NoMemory-clause-sought
returns-in-NoMemory-clause-sought g c =
    let lacks = sym c.lacks.ensures ∙ c.in-Some.is in
    sought_first c.args.desk.now c.args.codec (missing_id c.args.job.now) c.in-Some.id acquired.NoMemory c.args.job.now c.acquire_at.new.job (acquires_of c.no_acquires-in-NoMemory.result) (g.K.Clock.told c.args.clock.now) c.args.seats.now c.acquire_at.new.seats
    lacks (ap acquires_of c.no_acquires-in-NoMemory.ensures) (c.requires.bare (ap is_some lacks)) lacks c.requires.sits c.requires.works c.in-NoMemory.ensures.only c.in-NoMemory.ensures.gives

pub seek_again-requires-clause-sits : goal.seek_again-requires-clause-sits
seek_again-requires-clause-sits g c κs within = sits_only c.args.desk.now c.args.seats.now c.acquire_at.new.seats c.requires.sits c.in-Refused.ensures.only

pub seek_again-requires-clause-lacks : goal.seek_again-requires-clause-lacks
seek_again-requires-clause-lacks g c κs within =
    let w = c.requires.works in
    ap missing_id (c.in-Refused.ensures.gives w.codec w.codec_is).same ∙ (sym c.lacks.ensures ∙ c.in-Some.is)

pub seek_again-requires-clause-none : goal.seek_again-requires-clause-none
seek_again-requires-clause-none g c κs within =
    let w = c.requires.works in
    ap (λ (j : JobValue). j.coder) (c.in-Refused.ensures.gives w.codec w.codec_is).same ∙ c.requires.bare (ap is_some (sym c.lacks.ensures ∙ c.in-Some.is))

pub seek_again-requires-clause-stands : goal.seek_again-requires-clause-stands
seek_again-requires-clause-stands g c κs within =
    first_stands c.args.desk.now c.args.codec (missing_id c.args.job.now) c.in-Some.id c.in-Refused.entry c.in-Refused.place c.args.job.now c.acquire_at.new.job c.args.seats.now c.acquire_at.new.seats c.requires.works c.in-Refused.ensures.gives

pub returns-in-Refused-clause-sought : goal.returns-in-Refused-clause-sought
returns-in-Refused-clause-sought g c =
    let lacks = sym c.lacks.ensures ∙ c.in-Some.is in
    let works : WorksAt c.args.desk.now c.args.codec (Some c.in-Some.id) c.args.job.now [] c.args.seats.now = subst (λ (z : Option CoderId). WorksAt c.args.desk.now c.args.codec z c.args.job.now [] c.args.seats.now) lacks c.requires.works in
    let first = sought_first c.args.desk.now c.args.codec (Some c.in-Some.id) c.in-Some.id (acquired.Refused c.in-Refused.entry c.in-Refused.place) c.args.job.now c.acquire_at.new.job (c.in-Refused.entry ∷ []) (g.K.Clock.told c.args.clock.now) c.args.seats.now c.acquire_at.new.seats
    refl refl (c.requires.bare (ap is_some lacks)) lacks c.requires.sits works c.in-Refused.ensures.only c.in-Refused.ensures.gives in
    subst (λ (z : Option CoderId). Sought c.args.desk.now c.args.codec z c.seek_again.new.job (acquires_of c.seek_again.result.acquires) c.seek_again.result.lack (g.K.Clock.told c.args.clock.now) (g.K.Clock.told c.seek_again.new.clock) c.args.seats.now c.seek_again.new.seats) (sym lacks)
    (c.seek_again.ensures.sought (g.K.Clock.told c.args.clock.now) c.args.seats.now first)

pub returns-in-Refused-clause-sits : goal.returns-in-Refused-clause-sits
returns-in-Refused-clause-sits g c = (returns-in-Refused-clause-sought g c).seeks.sits

pub returns-in_default-clause-boxed : goal.returns-in_default-clause-boxed
returns-in_default-clause-boxed g c =
    let none = sym c.lacks.ensures ∙ c.in_default.is in
    subst (λ (z : Option CoderId). BoxSought z c.args.desk.now c.args.codec c.args.job.now c.args.job.now (acquires_of c.no_acquires.result) None (g.K.Clock.told c.args.clock.now) (g.K.Clock.told c.args.clock.now) c.args.seats.now c.args.seats.now) (sym none)
    (refl, refl, refl, ap acquires_of c.no_acquires.ensures, refl)

pub returns-in-Granted-clause-boxed : goal.returns-in-Granted-clause-boxed
returns-in-Granted-clause-boxed g c =
    let lacks = sym c.lacks.ensures ∙ c.in-Some.is in
    subst (λ (z : Option CoderId). BoxSought z c.args.desk.now c.args.codec c.args.job.now c.acquire_at.new.job (acquires_of c.one_acquire.result) None (g.K.Clock.told c.args.clock.now) (g.K.Clock.told c.args.clock.now) c.args.seats.now c.acquire_at.new.seats) (sym lacks)
    (acquired.Granted c.in-Granted.entry, c.acquire_at.new.job, c.acquire_at.new.seats, record { only = c.in-Granted.ensures.only; gives = c.in-Granted.ensures.gives }, (refl, refl, refl, c.one_acquire.ensures, refl))

pub returns-in-Refused-clause-boxed : goal.returns-in-Refused-clause-boxed
returns-in-Refused-clause-boxed g c =
    let lacks = sym c.lacks.ensures ∙ c.in-Some.is in
    subst (λ (z : Option CoderId). BoxSought z c.args.desk.now c.args.codec c.args.job.now c.seek_again.new.job (acquires_of c.seek_again.result.acquires) c.seek_again.result.lack (g.K.Clock.told c.args.clock.now) (g.K.Clock.told c.seek_again.new.clock) c.args.seats.now c.seek_again.new.seats) (sym lacks)
    (acquired.Refused c.in-Refused.entry c.in-Refused.place, c.acquire_at.new.job, c.acquire_at.new.seats, record { only = c.in-Refused.ensures.only; gives = c.in-Refused.ensures.gives }, c.seek_again.ensures.again)

pub returns-in-NoMemory-clause-boxed : goal.returns-in-NoMemory-clause-boxed
returns-in-NoMemory-clause-boxed g c =
    let lacks = sym c.lacks.ensures ∙ c.in-Some.is in
    subst (λ (z : Option CoderId). BoxSought z c.args.desk.now c.args.codec c.args.job.now c.acquire_at.new.job (acquires_of c.no_acquires-in-NoMemory.result) (Some lack.NoMemory) (g.K.Clock.told c.args.clock.now) (g.K.Clock.told c.args.clock.now) c.args.seats.now c.acquire_at.new.seats) (sym lacks)
    (acquired.NoMemory, c.acquire_at.new.job, c.acquire_at.new.seats, record { only = c.in-NoMemory.ensures.only; gives = c.in-NoMemory.ensures.gives }, (refl, refl, refl, ap acquires_of c.no_acquires-in-NoMemory.ensures, refl))
