use Rattle.codec_model.proofs.FactLaws.{all_facts, quiet}
use Rattle.codec_model.proofs.facts.never_stuck.Goals as goal

pub returns : goal.returns
returns c = record { facts = all_facts; quiet = quiet }
