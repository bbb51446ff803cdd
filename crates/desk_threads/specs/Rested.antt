-- Seats of a thread that find nothing to do any more.
use Rattle.codec_desk.specs.declared.desk.Desk.{Desk}
use Rattle.codec_desk.specs.declared.desk.Seats.{Seats}
use Rattle.codec_desk.specs.Desks.{Settled}
use Rattle.codec_desk.specs.Each.{Each}
use Rattle.codec_desk.specs.Rests.{Rested, NoItem, NoTask}

module _ {C : Type 0} where
  -- From some state on the thread made no entry at any codec, and looked at each: once no item could start, and once no task was
  -- queued.
  pub record CameToRest (desk : Desk C) (a b : Seats C) : Type 0 where
    pub middle : Seats C
    pub before : Settled desk a middle
    pub after : Settled desk middle b
    pub items : Each (Rested NoItem) desk.codecs.items middle.codecs.items b.codecs.items
    pub tasks : Each (Rested NoTask) desk.codecs.items middle.codecs.items b.codecs.items
