use Rattle.std.proofs.Common.{ap, ◌∙◌}
use Rattle.seat_lock.specs.Seats.{Sitting}
use Rattle.lock_tests.specs.declared.marks.Mark.{Mark}
use Rattle.lock_tests.proofs.Steps.{own_in, apart_of, all_of_two}
use Rattle.lock_tests.proofs.marks.add_both.Goals as goal

pub returns : goal.returns
returns g c =
    let one = c.join-one.ensures.first in
    let other = c.join-one.ensures.second in
    let start = c.requires.1 in
    let left = c.split-second.ensures.old.1 in
    let new = c.split-second.ensures.new.1 in
    let union = c.join.ensures.1 in
    let numbers = ap (λ (m : Sitting _ Mark). m.0.numbers) left ∙ ap (λ (m : Sitting _ Mark). m.0.numbers) start in
    let numbers' = ap (λ (m : Sitting _ Mark). m.0.numbers) new.view in
    record {
      log = c.join.new.seat.me.0.log;
      is = c.close.ensures.stands;
      first = 0;
      second = new.number;
      answers = one.answers;
      others = other.answers;
      many = one.many;
      as_many = other.many;
      own_first = own_in 1 c.args.count 0 _ _ c.join.new.seat.me.0.log numbers (ap (λ (m : Sitting _ Mark). m.0.log) left ∙ ap (λ (m : Sitting _ Mark). m.0.log) start) one union.continues_one;
      own_second = own_in 2 c.args.count new.number _ _ c.join.new.seat.me.0.log numbers' (ap (λ (m : Sitting _ Mark). m.0.log) new.view ∙ ap (λ (m : Sitting _ Mark). m.0.log) start) other union.continues_other;
      apart = apart_of 0 new.number _ _ (one.same_numbers ∙ numbers) (other.same_numbers ∙ numbers') union.apart;
      all = all_of_two 0 new.number _ _ _ _ (one.same_numbers ∙ numbers) (other.same_numbers ∙ numbers') (ap (λ (m : Sitting _ Mark). m.0.numbers) union.view) c.close.ensures.all;
    }
