use Rattle.media_variables.specs.declared.medium.Kind.TheVariants as kind
use Rattle.media_variables.specs.Held.{whole_of}
use Rattle.media_variables.proofs.Made.{not_cloned, buffer_cloned_by}
use Rattle.media_variables.proofs.medium.clone_buffer.Goals as goal

pub returns-in-Ok-clause-ok : goal.returns-in-Ok-clause-ok
returns-in-Ok-clause-ok g c = buffer_cloned_by _ _ c.args.who c.args.buffer.now c.in-Ok.clone c.gives.result c.gives.ensures c.in-Ok.ensures.ok

pub returns-in-Err-Dom-clause-ok : goal.returns-in-Err-Dom-clause-ok
returns-in-Err-Dom-clause-ok g c =
    let why = rw c.in-Err-Dom.field-0-is at c.in-Err-Dom.ensures.err in
    not_cloned _ _ c.args.who (whole_of (kind.Buffer c.args.buffer.now)) c.in-Err-Dom.e c.gives_nothing.result why.1 why.0 c.gives_nothing.ensures why.2
