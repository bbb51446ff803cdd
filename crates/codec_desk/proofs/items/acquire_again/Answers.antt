use Rattle.std.proofs.Common.{[], ◌∷◌, Some, List, refl, sym, subst}
use Rattle.coder_api.specs.declared.slot.SlotEntry.{SlotEntry}
use Rattle.shared_codec.specs.declared.workers.Acquired.TheVariants as acquired
use Rattle.codec_desk.specs.Items.{Sought, lack_of}
use Rattle.codec_desk.specs.ItemLaws.{sought_acquired}
use Rattle.codec_desk.proofs.items.acquire_again.Goals as goal

pub returns-in-Granted-clause-sought : goal.returns-in-Granted-clause-sought
returns-in-Granted-clause-sought g c t u a x =
    subst (λ (l : List SlotEntry). Sought c.args.desk.now c.args.codec (Some c.args.id) c.acquire_at.new.job l (lack_of (acquired.Granted c.in-Granted.entry)) t u a c.acquire_at.new.seats) (sym c.two_acquires.ensures)
    (sought_acquired c.args.desk.now c.args.codec c.args.id (acquired.Granted c.in-Granted.entry) c.args.job.now c.acquire_at.new.job (c.args.first ∷ []) t u a c.args.seats.now c.acquire_at.new.seats c.requires.none c.requires.lacks c.requires.stands x c.in-Granted.ensures.only c.in-Granted.ensures.gives)

pub returns-in-Refused-clause-sought : goal.returns-in-Refused-clause-sought
returns-in-Refused-clause-sought g c t u a x =
    subst (λ (l : List SlotEntry). Sought c.args.desk.now c.args.codec (Some c.args.id) c.acquire_at.new.job l (lack_of (acquired.Refused c.in-Refused.entry c.in-Refused.place)) t u a c.acquire_at.new.seats) (sym c.two_acquires-in-Refused.ensures)
    (sought_acquired c.args.desk.now c.args.codec c.args.id (acquired.Refused c.in-Refused.entry c.in-Refused.place) c.args.job.now c.acquire_at.new.job (c.args.first ∷ []) t u a c.args.seats.now c.acquire_at.new.seats c.requires.none c.requires.lacks c.requires.stands x c.in-Refused.ensures.only c.in-Refused.ensures.gives)

pub returns-in-NoMemory-clause-sought : goal.returns-in-NoMemory-clause-sought
returns-in-NoMemory-clause-sought g c t u a x =
    subst (λ (l : List SlotEntry). Sought c.args.desk.now c.args.codec (Some c.args.id) c.acquire_at.new.job l (lack_of acquired.NoMemory) t u a c.acquire_at.new.seats) (sym c.one_acquire.ensures)
    (sought_acquired c.args.desk.now c.args.codec c.args.id acquired.NoMemory c.args.job.now c.acquire_at.new.job (c.args.first ∷ []) t u a c.args.seats.now c.acquire_at.new.seats c.requires.none c.requires.lacks c.requires.stands x c.in-NoMemory.ensures.only c.in-NoMemory.ensures.gives)

pub returns-in-Granted-clause-acquires : goal.returns-in-Granted-clause-acquires
returns-in-Granted-clause-acquires g c = (acquired.Granted c.in-Granted.entry, record { only = c.in-Granted.ensures.only; gives = c.in-Granted.ensures.gives }, c.two_acquires.ensures, refl)

pub returns-in-Refused-clause-acquires : goal.returns-in-Refused-clause-acquires
returns-in-Refused-clause-acquires g c = (acquired.Refused c.in-Refused.entry c.in-Refused.place, record { only = c.in-Refused.ensures.only; gives = c.in-Refused.ensures.gives }, c.two_acquires-in-Refused.ensures, refl)

pub returns-in-NoMemory-clause-acquires : goal.returns-in-NoMemory-clause-acquires
returns-in-NoMemory-clause-acquires g c = (acquired.NoMemory, record { only = c.in-NoMemory.ensures.only; gives = c.in-NoMemory.ensures.gives }, c.one_acquire.ensures, refl)
