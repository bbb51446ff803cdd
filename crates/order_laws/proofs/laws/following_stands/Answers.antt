use Rattle.order_laws.specs.SoundSteps.{sound_of}
use Rattle.order_laws.proofs.{Moves.MediaLaws, Orders.course_of}
use Rattle.order_laws.proofs.laws.following_stands.Goals as goal

pub returns : goal.returns
returns c =
    let laws : MediaLaws = record { nothing = c.media_stand.ensures.nothing; media = c.media_stand.ensures.media; others = c.media_stand.ensures.others; later = c.what_is_brought_may_grow.ensures; codecs = c.codecs_stand.ensures; held = c.references_are_held.ensures.all; numbered = c.references_are_apart.ensures.live } in
    λ s media made items v sound follows. course_of laws s media made items v (sound_of s sound) follows
