use Rattle.json_data.proofs.LookupLaws.{same_member}
use Rattle.json_data.proofs.lookup.member.Goals as goal

pub returns : goal.returns
returns c = same_member c.get.result c.args.key.now c.args.value.now c.get.ensures
