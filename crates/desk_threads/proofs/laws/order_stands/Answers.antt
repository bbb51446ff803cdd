use Rattle.desk_threads.proofs.Ordering.{in_order_first, in_order_after, in_order_left, in_order_new, in_order_joined, in_order_all}
use Rattle.desk_threads.proofs.laws.order_stands.Goals as goal

pub returns : goal.returns
returns g c =
    let so = c.order_is_kept.ensures.slots in
    let mo = c.order_is_kept.ensures.media in
    let sa = c.dues_add_up.ensures.slots in
    let ma = c.dues_add_up.ensures.media in
    record {
      first = in_order_first so mo sa ma;
      kept = in_order_after so mo sa ma;
      left = in_order_left so mo sa ma;
      new = in_order_new so mo sa ma;
      joined = in_order_joined so mo sa ma;
      all = in_order_all so mo sa ma;
    }
