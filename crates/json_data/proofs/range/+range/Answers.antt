use Rattle.std.proofs.Common.{◌≡◌, true, is_some, ap, ◌∙◌, sym, arith, rules}
use Rattle.json.specs.Json as json
use Rattle.json.specs.{Value.value_view, Value.members_view, declared.value.Value.the_lemmas}
use Rattle.serde_json.specs.{Data.no_members, Read.of_json, Read.of_members}
use Rattle.json_data.proofs.RangeLaws.{one_more_member, is_some-object}
use Rattle.json_data.proofs.range.+range.Goals as goal

pub are_members_in_range-loop-member-preserved : goal.are_members_in_range-loop-member-preserved
are_members_in_range-loop-member-preserved t c =
    let taken : is_some (of_json (value_view c.member-item.result.1)) ≡ true = grind arith in
    one_more_member c.args.members.now c.loop-member.member-index c.member-item.result (omega arith) c.member-item.is taken ∙ c.loop-member.invariant

pub is_in_range-returns-in-Object : goal.is_in_range-returns-in-Object
is_in_range-returns-in-Object t c =
    let ms = members_view c.in-Object.members.items in
    let is : value_view c.args.value.now ≡ json.object ms = search (rules, the_lemmas) in
    c.are_members_in_range.ensures ∙ ap (λ xs. is_some (of_members (members_view xs) no_members)) c.deref-in-Object.ensures.value ∙ sym (is_some-object _ ms is)
