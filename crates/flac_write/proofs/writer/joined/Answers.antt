use Rattle.std.proofs.Common.{subst, sym, ℕ, ◌<◌, ◌^◌, ◌+◌}
use Rattle.flac_write.proofs.Shifts.{joined_value, joined_bound}
use Rattle.flac_write.proofs.writer.joined.Goals as goal

pub returns-clause-value : goal.returns-clause-value
returns-clause-value c = joined_value c.args.last c.args.used c.args.n c.args.v c.requires.last c.requires.room c.requires.v

pub returns-clause-bound : goal.returns-clause-bound
returns-clause-bound c = subst (λ (x : ℕ). x < 2 ^ (c.args.used + c.args.n)) (sym (joined_value c.args.last c.args.used c.args.n c.args.v c.requires.last c.requires.room c.requires.v)) (joined_bound c.args.last c.args.used c.args.n c.args.v c.requires.last c.requires.v)
