use Rattle.std.proofs.Common.{◌≡◌, drop, map}
use Rattle.wc_base.specs.Held.{found, plain}
use Rattle.wc_base.proofs.files.find.Given as goal

abbrev pub invariant-loop-held : goal.invariant-loop-held
invariant-loop-held l = found (map plain l.entries) l.name ≡ found (map plain (drop l.held-index l.entries)) l.name
