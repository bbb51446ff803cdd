use Rattle.std.proofs.Common.{ℕ, ◌<◌, ◌+◌, ◌^◌, subst, sym}
use Rattle.flac_subframes.proofs.Numbers.{joined_value, joined_bound}
use Rattle.flac_subframes.proofs.subframe.joined.Goals as goal

pub returns-clause-value : goal.returns-clause-value
returns-clause-value c = joined_value c.args.word c.args.count c.args.n c.args.value c.requires.word c.requires.room c.requires.value

pub returns-clause-bound : goal.returns-clause-bound
returns-clause-bound c =
    let a = c.args in
    subst (λ (x : ℕ). x < 2 ^ (a.count + a.n)) (sym (joined_value a.word a.count a.n a.value c.requires.word c.requires.room c.requires.value)) (joined_bound a.word a.count a.n a.value c.requires.word c.requires.value)
