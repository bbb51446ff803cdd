use Rattle.codec_judge.proofs.Judging.{not_started, started}
use Rattle.codec_judge.proofs.judge.Judge.start.Goals as goal

pub returns-in_default : goal.returns-in_default
returns-in_default g c = λ l h. rw c.in_default.ensures.same (not_started l c.args.self.now.core c.args.self.now.job c.args.epoch c.args.item h c.in_default.ensures.none)

pub returns : goal.returns
returns g c = λ l h.
    let said = c.in-Some.ensures in
    started c.args.self.now.core c.start.new.self c.args.self.now.job c.in-Some.job l h
    (record { made = said.some; matches = said.job; epoch = said.epoch; item = said.item; coder = said.coder; lacks = said.lacks; slot = said.slot; own = said.own })
    c.args.epoch c.args.item c.is_of-same.result c.is_of-same.ensures
