use Rattle.std.proofs.Common.{◌≡◌, IfSome, subst, arith}
use Rattle.wc_base.proofs.Limited.{whole_below}
use Rattle.wc_base.proofs.files.read_to_limit.Goals as goal

pub returns-in-Ok-2-clause-whole : goal.returns-in-Ok-2-clause-whole
returns-in-Ok-2-clause-whole g c =
    subst (λ file. IfSome (g.F.Read.remaining file) (λ xs. c.read_to_end-result.new.buf.items ≡ xs)) c.take.ensures.inner
    (whole_below (g.F.Read.remaining c.take.result.inner) c.take.result.limit c.new-bytes.result.items c.read_to_end-result.new.buf.items
    c.new-bytes.ensures.items c.in-Ok-2.ensures.bytes (omega arith))
