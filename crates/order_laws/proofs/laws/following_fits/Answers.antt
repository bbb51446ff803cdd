use Rattle.order_laws.specs.SoundSteps.{sound_of}
use Rattle.order_laws.proofs.{Moves.MediaLaws, Orders.fits_of, Orders.legal_of}
use Rattle.order_laws.proofs.laws.following_fits.Goals as goal

pub returns : goal.returns
returns c =
    let laws : MediaLaws = record { nothing = c.media_stand.ensures.nothing; media = c.media_stand.ensures.media; others = c.media_stand.ensures.others; later = c.what_is_brought_may_grow.ensures; codecs = c.codecs_stand.ensures; held = c.references_are_held.ensures.all; numbered = c.references_are_apart.ensures.live } in
    record {
      fits = λ s media made run sound follows. fits_of laws s media made run (sound_of s sound) follows;
      legal = λ s media made run k sound follows. legal_of laws s media made run k (sound_of s sound) follows;
    }
