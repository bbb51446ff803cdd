-- Rounds one after the other that find nothing.
use Rattle.std.proofs.Common.{List, [], ◌∷◌, Option}
use Rattle.atomic_table.specs.declared.shared.Seat.{Seat}
use Rattle.wc_base.specs.declared.seat.View.{View}
use Rattle.codec_logs.specs.declared.event.Event.{Event}
use Rattle.shared_codec.specs.Shared.{Shared}
use Rattle.codec_desk.specs.Desks.{SeesMore}
use Rattle.codec_desk.specs.Each.{Each}
use Rattle.codec_desk.specs.EachLaws.{each_then}
use Rattle.codec_desk.specs.Rests.{Rested, NoItem, NoTask}
use Rattle.codec_desk.specs.RestLaws.{rested_earlier, rested_later, still_rested}

each_both : {X A : Type 0} (R S : X → A → A → Type 0) (xs : List X) (us vs : List A) → Each R xs us vs → Each S xs us vs → Each (λ x u v. R x u v × S x u v) xs us vs
each_both R S [] [] [] h e = tt
each_both R S [] [] (v ∷ vs) h e = absurd h
each_both R S [] (u ∷ us) vs h e = absurd h
each_both R S (x ∷ xs) [] vs h e = absurd h
each_both R S (x ∷ xs) (u ∷ us) [] h e = absurd h
each_both R S (x ∷ xs) (u ∷ us) (v ∷ vs) h e = ((h.0, e.0), each_both R S xs us vs h.1 e.1)

module _ {S : Type 0} where
  abbrev Items : Shared → Seat (Option S) (View Event) → Seat (Option S) (View Event) → Type 0
  Items s u v = SeesMore s u v × Rested NoItem s u v

  abbrev Tasks : Shared → Seat (Option S) (View Event) → Seat (Option S) (View Event) → Type 0
  Tasks s u v = SeesMore s u v × Rested NoTask s u v

  module _ (xs : List Shared) (us vs ws : List (Seat (Option S) (View Event))) where
    -- a round of turns that found nothing, behind one of work that found nothing
    pub items_rested : Each SeesMore xs us vs → Each (Rested NoItem) xs us vs → Each SeesMore xs vs ws → Each (Rested NoTask) xs vs ws → Each (Rested NoItem) xs us ws
    items_rested a b c d =
        each_then Items Tasks (Rested NoItem) (λ s u v w p q. rested_later NoItem s u v w p.0.kept.numbers p.1 (still_rested NoTask s v w q.0.kept q.1)) xs us vs ws
        (each_both SeesMore (Rested NoItem) xs us vs a b) (each_both SeesMore (Rested NoTask) xs vs ws c d)

    pub tasks_rested : Each SeesMore xs us vs → Each (Rested NoItem) xs us vs → Each SeesMore xs vs ws → Each (Rested NoTask) xs vs ws → Each (Rested NoTask) xs us ws
    tasks_rested a b c d =
        each_then Items Tasks (Rested NoTask) (λ s u v w p q. rested_earlier NoTask s u v w (still_rested NoItem s u v p.0.kept p.1) q.1) xs us vs ws
        (each_both SeesMore (Rested NoItem) xs us vs a b) (each_both SeesMore (Rested NoTask) xs vs ws c d)
