use Rattle.shared_codec.proofs.codec.SharedCodec.end_of.Goals as goal

pub returns-clause-end : goal.returns-clause-end
returns-clause-end g c =
    let told = c.look_at_promise-end.ensures.tells in
    record { looked = told.looked; is = told.is.1 }
