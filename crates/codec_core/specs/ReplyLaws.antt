-- What a reply says of its call.
use Rattle.std.proofs.Common.{◌≡◌, ◌&&◌, Option, is_none, refl}
use Rattle.wc_base.specs.declared.error.DomError.{DomError}
use Rattle.codec_model.specs.declared.entry.Call.{Call}
use Rattle.codec_model.specs.declared.entry.Call.TheVariants as call
use Rattle.codec_model.specs.Replay.{removes}
use Rattle.codec_model.specs.Shown.{exception_of}

-- a call that removes has its error as its exception
pub removes_by_exception : (x : Call) (o : Option DomError) → (removes x && is_none (exception_of x o)) ≡ (removes x && is_none o)
removes_by_exception call.Flush o = refl
removes_by_exception x o = refl
