use Rattle.lock_tests.proofs.stock.hand_over.Goals as goal

pub returns-clause-to : goal.returns-clause-to
returns-clause-to c = c.join_token.ensures.union _ c.cut_token-token.ensures.token
