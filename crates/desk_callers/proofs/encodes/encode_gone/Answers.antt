use Rattle.std.proofs.Common.{refl}
use Rattle.codec_model.specs.declared.entry.{Call.Call, Handed.Handed}
use Rattle.media_variables.specs.Held.{seen_in}
use Rattle.media_variables.specs.Variables.{lendable_at}
use Rattle.desk_callers.proofs.Asked.{stay_called}
use Rattle.desk_callers.proofs.Encoding.{if_gone}
use Rattle.desk_callers.proofs.encodes.encode_gone.Goals as goal

pub call_codec-requires-clause-may : goal.call_codec-requires-clause-may
call_codec-requires-clause-may g c κs within d = refl

pub returns-clause-stay : goal.returns-clause-stay
returns-clause-stay g c = stay_called c.args.desk.now c.args.who c.args.codec (Call.Encode Handed.Gone) c.args.seats.now c.call_codec.new.seats c.call_codec.result c.call_codec.ensures.called c.call_codec.ensures.err

pub returns-clause-encoded : goal.returns-clause-encoded
returns-clause-encoded g c =
    if_gone c.args.desk.now c.args.who c.args.codec (lendable_at (seen_in c.args.variables.now) c.args.variable) c.args.seats.now c.call_codec.new.seats c.call_codec.result c.requires.gone c.call_codec.ensures.called
