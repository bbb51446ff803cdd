use Rattle.wcrun.proofs.OutcomeLaws.{MediaLaws, one_outcome, some_outcome}
use Rattle.wcrun.proofs.laws.files_have_one_outcome.Goals as goal

pub returns : goal.returns
returns c =
    let h = c.files_have_one_reading.ensures in
    let laws : MediaLaws = record { media = h.media; fault = h.fault; apart = h.apart; some = h.some } in
    record { one = one_outcome c.media_have_one_reading.ensures.one laws; some = some_outcome c.media_have_one_reading.ensures.some laws }
