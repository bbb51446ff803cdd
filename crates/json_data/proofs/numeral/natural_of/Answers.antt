use Rattle.fast_float.specs.Text.{scan}
use Rattle.json_data.proofs.NumberLaws.{number_of-signed, number_of-unsigned, as_u64-negative}
use Rattle.json_data.proofs.numeral.natural_of.Goals as goal

pub returns-in-Some : goal.returns-in-Some
returns-in-Some c = cc (number_of-signed c.as_bytes-text.result.now c.in-Some.field-0.now c.in-Some.ensures, as_u64-negative (scan c.in-Some.field-0.now))

pub returns-in-None : goal.returns-in-None
returns-in-None c = cc (number_of-unsigned c.as_bytes-text.result.now c.in-None.ensures)
