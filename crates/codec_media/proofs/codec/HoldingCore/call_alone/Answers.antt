use Rattle.std.proofs.Common.{◌≡◌, ap}
use Rattle.codec_model.specs.{declared.entry.Entry.Entry, Held.is_removal}
use Rattle.codec_core.specs.{Codec.state_at, Codec.ReplyValue, ReplyLaws.removes_by_exception}
use Rattle.codec_media.proofs.Holds.{call_holds, gone_pairs}
use Rattle.codec_media.proofs.codec.HoldingCore.call_alone.Given.{Over}
use Rattle.codec_media.proofs.codec.HoldingCore.call_alone.Goals as goal

removed_is : (g : Over) (c : goal.After-let_go_if-media g) → c.is_removed-removed.result ≡ is_removal (Entry.Call c.args.who c.args.call) (state_at c.self.inside.core)
removed_is g c =
    rw (c.is_removed-removed.ensures, c.removes-removes.ensures, ap (λ (r : ReplyValue). r.exception) c.reply.view_is, ← c.in_ok-reply.ensures.replied.exception) (removes_by_exception c.args.call _)

pub invariant_of-self-2 : goal.invariant_of-self-2
invariant_of-self-2 g c =
    let i = c.self.inside in (
      call_holds c.references_are_held.ensures.apart i.core c.call.new.self c.args.who c.args.call _ i.working i.waiting.items _ c.in_ok-reply.ensures.replied.made (removed_is g c) c.requires.alone c.let_go_if-media.ensures.waiting c.self.invariant.0,
      c.let_go_if-media.ensures.freed,
      c.let_go_if-media.ensures.freed_len,
      c.let_go_if-media.ensures.places,
    )

pub returns-clause-replied : goal.returns-clause-replied
returns-clause-replied g c = rw (← c.self.view_is, c.reply.view_is) c.in_ok-reply.ensures.replied

pub returns-clause-gone : goal.returns-clause-gone
returns-clause-gone g c = rw (← c.self.view_is, ← removed_is g c) c.let_go_if-media.ensures.items

pub returns-clause-pairs : goal.returns-clause-pairs
returns-clause-pairs g c =
    let i = c.self.inside in rw (← c.self.view_is) (gone_pairs i.core c.args.who c.args.call _ i.working i.waiting.items _ (removed_is g c) c.let_go_if-media.ensures.items c.self.invariant.0)

pub returns-clause-waiting : goal.returns-clause-waiting
returns-clause-waiting g c = rw (← c.self.view_is, ← removed_is g c) c.let_go_if-media.ensures.waiting
