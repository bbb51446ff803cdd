use Rattle.std.proofs.Common.{rules, ◌≡◌, None, refl}
use Rattle.media_variables.proofs.Made.{no_audio, bad_audio, good_audio}
use Rattle.media_variables.proofs.medium.make_audio.Goals as goal

pub returns-in_default-clause-ok : goal.returns-in_default-clause-ok
returns-in_default-clause-ok g c =
    let none : c.args.init.now ≡ None = search rules in
    no_audio _ _ c.args.who c.args.init.now c.gives_nothing.result none c.gives_nothing.ensures refl

pub returns-in-Ok-clause-ok : goal.returns-in-Ok-clause-ok
returns-in-Ok-clause-ok g c =
    good_audio _ _ c.args.who c.args.init.now c.in-Some.i c.as_slice.result.now c.in-Ok.audio c.gives.result c.in-Some.is c.as_slice.ensures c.gives.ensures c.in-Ok.ensures.ok c.in-Ok.ensures.valid

pub returns-in-Err-Dom-clause-ok : goal.returns-in-Err-Dom-clause-ok
returns-in-Err-Dom-clause-ok g c =
    let why = rw c.in-Err-Dom.field-0-is at c.in-Err-Dom.ensures.err in
    bad_audio _ _ c.args.who c.args.init.now c.in-Some.i c.as_slice.result.now c.in-Err-Dom.e c.gives_nothing-in-Err-Dom.result c.in-Some.is c.as_slice.ensures c.gives_nothing-in-Err-Dom.ensures why
