use Rattle.std.proofs.Common.{◌≡◌, ◌∙◌, true, false, arith, sym}
use Rattle.codec_definitions.specs.Pcm.{is_planar}
use Rattle.sample_conversion.specs.Sizes.{size_of}
use Rattle.sample_conversion.proofs.Layouts.{samples_few, planes_there, planes_copied, rows_there, rows_copied}
use Rattle.sample_conversion.proofs.copy.copy_frames.Goals as goal

pub copy_planes-requires-clause-there : goal.copy_planes-requires-clause-there
copy_planes-requires-clause-there c = λ k i below within.
    let planar : is_planar c.args.shape.now.format ≡ true = sym c.is_planar.ensures ∙ c.if-is_planar.true in
    rw c.format_size-s.ensures.value
    (planes_there c.args.shape.now c.args.bytes.now c.args.first k i planar c.requires.whole (omega (arith, below, c.requires.frames)) (omega (arith, within)))

pub returns-then-is_planar : goal.returns-then-is_planar
returns-then-is_planar c =
    let planar : is_planar c.args.shape.now.format ≡ true = sym c.is_planar.ensures ∙ c.if-is_planar.true in
    c.copy_planes.ensures ∙ rw c.format_size-s.ensures.value (planes_copied c.args.shape.now c.args.bytes.now (size_of c.args.size) c.args.first c.args.count planar)

pub overflow_mul-first : goal.overflow_mul-first
overflow_mul-first c = omega (arith, samples_few c.args.shape.now c.args.bytes.now c.args.first c.format_size-s.result c.requires.whole c.format_size-s.ensures.value c.format_size-s.ensures.size (omega (arith, c.requires.frames)))

pub overflow_mul-count : goal.overflow_mul-count
overflow_mul-count c = omega (arith, samples_few c.args.shape.now c.args.bytes.now c.args.count c.format_size-s.result c.requires.whole c.format_size-s.ensures.value c.format_size-s.ensures.size (omega (arith, c.requires.frames)))

pub copy_run-requires-clause-there : goal.copy_run-requires-clause-there
copy_run-requires-clause-there c = λ i below.
    rw c.format_size-s.ensures.value
    (rows_there c.args.shape.now c.args.bytes.now c.args.first c.args.count i c.requires.whole c.requires.frames below)

pub returns-else-is_planar : goal.returns-else-is_planar
returns-else-is_planar c =
    let rows : is_planar c.args.shape.now.format ≡ false = sym c.is_planar.ensures ∙ c.if-is_planar.false in
    c.copy_run.ensures ∙ rw c.format_size-s.ensures.value (rows_copied c.args.shape.now c.args.bytes.now (size_of c.args.size) c.args.first c.args.count rows)
