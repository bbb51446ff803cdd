use Rattle.report_reader.proofs.{LegalLaws.HistoryLaws, LegalLaws.legal_told, ReadLaws.report_tells, NameLaws.sound_names}
use Rattle.report_reader.proofs.laws.legal_runs_are_told.Goals as goal

pub returns : goal.returns
returns c =
    let laws : HistoryLaws = record {
      follow = c.legal_histories_follow.ensures.follows;
      fill = c.legal_histories_follow.ensures.fills;
      kinds = c.outputs_are_of_their_kind.ensures;
      lines = c.legal_runs_fit.ensures;
      kept = c.contents_are_kept.ensures.media;
      given = c.contents_are_kept.ensures.chunks;
    } in
    let told = legal_told laws in
    record {
      told = told;
      determine = λ script files made other a b sound here there la fa lb fb same.
          report_tells c.lines_are_read_again.ensures.again script files a b (sound_names script sound) (told script files made a sound here la fa) (told script files other b sound there lb fb) same;
    }
