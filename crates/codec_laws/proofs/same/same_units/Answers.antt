use Rattle.std.proofs.lemmas.Slice.Eq.{slice_eq-Decides}
use Rattle.codec_laws.proofs.EqualLaws.{units_tell}
use Rattle.codec_laws.proofs.same.same_units.Goals as goal

pub returns : goal.returns
returns c = slice_eq-Decides units_tell c.args.a.now c.args.b.now c.eq.result c.eq.ensures
