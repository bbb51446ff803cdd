use Rattle.std.proofs.Common.{[], ◌∷◌, length, ap, sym, ◌∙◌}
use Rattle.std.specs.Prelude.{is_some}
use Rattle.codec_model.specs.declared.entry.Pair.{Pair}
use Rattle.codec_core.specs.Codec.{Codec}
use Rattle.shared_codec.proofs.Encoded.{not_kept}
use Rattle.shared_codec.proofs.encodes.encode_lent.Goals as goal

pub call-requires-clause-held : goal.call-requires-clause-held
call-requires-clause-held g c κs within = ap (λ (p : Pair). p ∷ []) (sym c.in_ok-held.ensures.pair)

pub returns-in-Err-Some-clause-encoded : goal.returns-in-Err-Some-clause-encoded
returns-in-Err-Some-clause-encoded g c =
    not_kept c.args.codec c.args.pool.now c.args.core.now c.call.new.self c.args.who (g.L.Lender.lends c.args.lender.now) c.in_ok-held.clone c.in-Err-Some.clone c.look-place.result.0 (is_some c.end.result) _ c.args.seat.now.me.0 c.lend.new.seat.me.0 c.end.new.seat.me.0
    c.requires.accepted (c.look-place.ensures.entries ∙ ap (λ (x : Codec). length x.history) c.core.ensures) c.in-Err-Some.ensures.err (sym c.in-Err-Some.field-0-is ∙ c.in-Err-Some.ensures.back) c.in_ok-held.ensures.made c.end.ensures.ended
