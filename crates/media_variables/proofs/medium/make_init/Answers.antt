use Rattle.std.proofs.Common.{◌≡◌, None, Some, refl, rules}
use Rattle.script_types.specs.declared.steps.InitShape.TheVariants as init_shape
use Rattle.report_text.specs.declared.result.StepResult.TheVariants as result
use Rattle.wc_chunk.specs.declared.chunk.Chunk.{Chunk}
use Rattle.media_variables.specs.declared.medium.Kind.TheVariants as kind
use Rattle.media_variables.specs.Held.{whole_of}
use Rattle.media_variables.proofs.Made.{chunk_init, given_of, init_as, picture_init, sound_init}
use Rattle.media_variables.proofs.medium.make_init.Goals as goal

pub returns-in_ok-copy_from_slice-in-Chunk-clause-ok :
    goal.returns-in_ok-copy_from_slice-in-Chunk-clause-ok
returns-in_ok-copy_from_slice-in-Chunk-clause-ok g c =
    let chunk : Chunk = record { key = c.in-Chunk.key; timestamp = c.in-Chunk.timestamp; duration = c.in-Chunk.duration; bytes = c.in_ok-copy_from_slice-in-Chunk.field-0 } in
    let there : c.gives.result ≡ given_of (result.Local None) (Some (whole_of (kind.Chunk chunk))) = search rules in
    chunk_init (g.P.RefPool.adds c.args.pool.now c.args.pool.now) _ c.args.who c.args.shape c.args.content.now chunk c.gives.result c.in-Chunk.is c.in_ok-copy_from_slice-in-Chunk.ensures there refl

pub returns-in-Ok-clause-ok : goal.returns-in-Ok-clause-ok
returns-in-Ok-clause-ok g c =
    init_as _ _ c.args.who c.args.shape (init_shape.Sound c.in-Sound.shape) c.args.content.now c.gives-in-Ok.result c.in-Sound.is (sound_init _ _ c.args.who c.in-Sound.shape c.args.content.now c.in-Ok.audio c.gives-in-Ok.result c.gives-in-Ok.ensures c.in-Ok.ensures.ok)

pub returns-in-Ok-new-clause-ok : goal.returns-in-Ok-new-clause-ok
returns-in-Ok-new-clause-ok g c =
    init_as _ _ c.args.who c.args.shape (init_shape.Picture c.in-Picture.shape) c.args.content.now c.gives-in-Ok-new.result c.in-Picture.is (picture_init _ _ c.args.who c.in-Picture.shape c.args.content.now c.in-Ok-new.frame c.gives-in-Ok-new.result c.gives-in-Ok-new.ensures c.in-Ok-new.ensures.ok)
