use Rattle.std.proofs.Common.{◌≡◌, [], drop, length}
use Rattle.json_data.specs.View.{items_view}
use Rattle.wc_script.specs.Codecs.{codecs_of}
use Rattle.wc_script.proofs.codecs.read_codecs.Given as goal

abbrev pub invariant-loop-i : goal.invariant-loop-i
invariant-loop-i l =
    (codecs_of 0 [] (items_view l.items) ≡ codecs_of l.i l.codecs.items (items_view (drop l.i l.items)))
    × (length l.codecs.items ≡ l.i)
