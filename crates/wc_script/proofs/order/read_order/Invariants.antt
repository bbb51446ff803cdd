use Rattle.std.proofs.Common.{◌≡◌, [], drop}
use Rattle.json_data.specs.View.{items_view}
use Rattle.wc_script.specs.Order.{order_of}
use Rattle.wc_script.proofs.order.read_order.Given as goal

abbrev pub invariant-loop-i : goal.invariant-loop-i
invariant-loop-i l =
    order_of l.codecs l.callers 0 [] (items_view l.items) ≡ order_of l.codecs l.callers l.i l.order.items (items_view (drop l.i l.items))
