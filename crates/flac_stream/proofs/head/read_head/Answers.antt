use Rattle.std.proofs.Common.{sym, ◌∙◌, arith}
use Rattle.flac_stream.proofs.HeadLaws.{goes_on, begun_goes_on, never, never_later, no_head, blocks_cut}
use Rattle.flac_stream.proofs.head.read_head.Goals as goal

pub returns-then-may_begin : goal.returns-then-may_begin
returns-then-may_begin c =
    let bytes = c.args.bytes.now in
    let few = c.if-bytes-lt-DESCRIPTION_SIZE.true in
    (no_head bytes few, begun_goes_on bytes few (sym c.may_begin.ensures ∙ c.if-may_begin.true))

pub returns-else-may_begin : goal.returns-else-may_begin
returns-else-may_begin c =
    never c.args.bytes.now c.if-bytes-lt-DESCRIPTION_SIZE.true (λ i. omega (arith, c.type_inv.bytes i)) (sym c.may_begin.ensures ∙ c.if-may_begin.false)

pub returns-in-None-find_blocks : goal.returns-in-None-find_blocks
returns-in-None-find_blocks c =
    let bytes = c.args.bytes.now in
    (blocks_cut bytes c.in-Some.info (sym c.in-Some.ensures) c.in-None-find_blocks.ensures, goes_on bytes c.in-Some.info c.if-bytes-lt-DESCRIPTION_SIZE.false (sym c.in-Some.ensures))

pub returns-in-None : goal.returns-in-None
returns-in-None c = never_later c.args.bytes.now c.if-bytes-lt-DESCRIPTION_SIZE.false (sym c.in-None.ensures)
