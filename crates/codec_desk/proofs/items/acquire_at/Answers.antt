use Rattle.std.proofs.Common.{◌≡◌, Some, refl, sym, subst, ◌∙◌}
use Rattle.std.specs.Prelude.{slice_get}
use Rattle.std.proofs.lemmas.Option.{slice_get_read}
use Rattle.shared_codec.specs.Keeps.{keeps_since}
use Rattle.shared_codec.specs.Shared.{Shared}
use Rattle.shared_codec.specs.Workers.{AcquireGives}
use Rattle.codec_desk.specs.Items.{made_by}
use Rattle.codec_desk.specs.ItemLaws.{acquire_made, same_some}
use Rattle.codec_desk.proofs.items.acquire_at.Goals as goal

pub returns-clause-only : goal.returns-clause-only
returns-clause-only g c =
    let made = acquire_made c.args.desk.now c.index.result.now.codec c.args.id c.acquire_once.result c.args.job.now c.acquire_once.new.job c.args.seats.now.slots.me.0 c.acquire_once.new.slot_seat.me.0 c.acquire_once.ensures.acquired in
    record {
      codecs = refl;
      pool = refl;
      slots = keeps_since c.args.desk.now.slots.id c.args.seats.now.slots c.acquire_once.new.slot_seat (made_by c.acquire_once.result) c.acquire_once.ensures.same c.acquire_once.ensures.free.0 made;
      free = c.acquire_once.ensures.free;
    }

pub returns-clause-gives : goal.returns-clause-gives
returns-clause-gives g c s at =
    let codec_is : slice_get c.args.desk.now.codecs.items c.args.codec ≡ Some c.index.result.now = slice_get_read _ _ c.args.codec c.index.result.now refl c.requires.codec c.index.ensures in
    let same : c.index.result.now ≡ s = same_some c.index.result.now s (sym codec_is ∙ at) in
    subst (λ (z : Shared). AcquireGives c.args.desk.now.slots z.codec c.args.id c.acquire_once.result c.args.job.now c.acquire_once.new.job c.args.seats.now.slots.me.0 c.acquire_once.new.slot_seat.me.0) same c.acquire_once.ensures.acquired
