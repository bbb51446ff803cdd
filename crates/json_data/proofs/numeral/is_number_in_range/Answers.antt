use Rattle.json_data.proofs.NumberLaws.{number_of-signed, number_of-unsigned}
use Rattle.json_data.proofs.numeral.is_number_in_range.Goals as goal

pub returns-in-Some : goal.returns-in-Some
returns-in-Some c = cc (number_of-signed c.as_bytes-text.result.now c.in-Some.digits.now c.in-Some.ensures)

pub returns-in-None : goal.returns-in-None
returns-in-None c = cc (number_of-unsigned c.as_bytes-text.result.now c.in-None.ensures)
