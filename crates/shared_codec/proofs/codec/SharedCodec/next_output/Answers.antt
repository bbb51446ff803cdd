use Rattle.shared_codec.proofs.codec.SharedCodec.next_output.Goals as goal

pub returns-in-Ok-clause-next : goal.returns-in-Ok-clause-next
returns-in-Ok-clause-next g c =
    let told = c.in-Ok.ensures.tells in
    record { looked = told.looked; is = told.is.1 }

pub returns-in-Err-clause-next : goal.returns-in-Err-clause-next
returns-in-Err-clause-next g c =
    let told = c.in-Err.ensures.tells in
    record { looked = told.looked; is = tt }
