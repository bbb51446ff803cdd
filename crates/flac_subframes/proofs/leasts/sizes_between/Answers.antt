use Rattle.std.proofs.Common.{◌≡◌, ◌-◌, ◌*◌, arith, rules, to_z, of_z, w32}
use Rattle.flac_definitions.specs.FixedPredictors.{residual_at}
use Rattle.flac_subframes.proofs.LeastLaws.{no_sizes, size_more, size_fits}
use Rattle.flac_subframes.proofs.leasts.sizes_between.Goals as goal

pub loop-i-init : goal.loop-i-init
loop-i-init c =
    let xs = c.args.samples.now in
    let from = c.args.from in
    record {
      none = no_sizes 0 xs from c.args.most;
      one = no_sizes 1 xs from (2 * c.args.most);
      two = no_sizes 2 xs from (4 * c.args.most);
      three = no_sizes 3 xs from (8 * c.args.most);
      four = no_sizes 4 xs from (16 * c.args.most);
    }

pub overflow_add-none : goal.overflow_add-none
overflow_add-none c = omega (arith, size_fits (c.loop-i.i - c.args.from) (c.args.to - c.args.from) 1 c.args.most c.loop-i.none c.size_of-none.result (omega (arith, c.loop-i-test.true)) (omega arith) (omega (arith, c.loop-i.invariant.none.small)) (omega (arith, c.size_of-none.ensures.most)) c.requires.small)

pub overflow_add-one : goal.overflow_add-one
overflow_add-one c = omega (arith, size_fits (c.loop-i.i - c.args.from) (c.args.to - c.args.from) 2 c.args.most c.loop-i.one c.size_of-one.result (omega (arith, c.loop-i-test.true)) (omega arith) (omega (arith, c.loop-i.invariant.one.small)) (omega (arith, c.size_of-one.ensures.most)) c.requires.small)

pub overflow_add-two : goal.overflow_add-two
overflow_add-two c = omega (arith, size_fits (c.loop-i.i - c.args.from) (c.args.to - c.args.from) 4 c.args.most c.loop-i.two c.size_of-two.result (omega (arith, c.loop-i-test.true)) (omega arith) (omega (arith, c.loop-i.invariant.two.small)) (omega (arith, c.size_of-two.ensures.most)) c.requires.small)

pub overflow_add-three : goal.overflow_add-three
overflow_add-three c = omega (arith, size_fits (c.loop-i.i - c.args.from) (c.args.to - c.args.from) 8 c.args.most c.loop-i.three c.size_of-three.result (omega (arith, c.loop-i-test.true)) (omega arith) (omega (arith, c.loop-i.invariant.three.small)) (omega (arith, c.size_of-three.ensures.most)) c.requires.small)

pub overflow_add-four : goal.overflow_add-four
overflow_add-four c = omega (arith, size_fits (c.loop-i.i - c.args.from) (c.args.to - c.args.from) 16 c.args.most c.loop-i.four c.size_of-four.result (omega (arith, c.loop-i-test.true)) (omega arith) (omega (arith, c.loop-i.invariant.four.small)) (omega (arith, c.size_of-four.ensures.most)) c.requires.small)

pub loop-i-preserved : goal.loop-i-preserved
loop-i-preserved c =
    let a = c.args in
    let xs = a.samples.now in
    let v = c.loop-i.invariant in
    let i = c.loop-i.i in
    let none-is : to_z w32 (of_z w32 c.sample_at-sample.result) ≡ residual_at 0 xs i = search rules in
    let one-is : to_z w32 (of_z w32 c.first_at-first.result) ≡ residual_at 1 xs i = search rules in
    let two-is : to_z w32 (of_z w32 c.second_at-second.result) ≡ residual_at 2 xs i = search rules in
    let three-is : to_z w32 (of_z w32 c.third_at-third.result) ≡ residual_at 3 xs i = search rules in
    let four-is : to_z w32 (of_z w32 c.fourth_at-fourth.result) ≡ residual_at 4 xs i = search rules in
    record {
      none = size_more 0 xs a.from i a.most c.size_of-none.result c.loop-i.none (to_z w32 (of_z w32 c.sample_at-sample.result)) (omega arith) v.none none-is c.size_of-none.ensures.below c.size_of-none.ensures.most;
      one = size_more 1 xs a.from i (2 * a.most) c.size_of-one.result c.loop-i.one (to_z w32 (of_z w32 c.first_at-first.result)) (omega arith) v.one one-is c.size_of-one.ensures.below c.size_of-one.ensures.most;
      two = size_more 2 xs a.from i (4 * a.most) c.size_of-two.result c.loop-i.two (to_z w32 (of_z w32 c.second_at-second.result)) (omega arith) v.two two-is c.size_of-two.ensures.below c.size_of-two.ensures.most;
      three = size_more 3 xs a.from i (8 * a.most) c.size_of-three.result c.loop-i.three (to_z w32 (of_z w32 c.third_at-third.result)) (omega arith) v.three three-is c.size_of-three.ensures.below c.size_of-three.ensures.most;
      four = size_more 4 xs a.from i (16 * a.most) c.size_of-four.result c.loop-i.four (to_z w32 (of_z w32 c.fourth_at-fourth.result)) (omega arith) v.four four-is c.size_of-four.ensures.below c.size_of-four.ensures.most;
    }
