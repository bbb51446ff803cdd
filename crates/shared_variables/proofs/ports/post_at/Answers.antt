use Rattle.std.proofs.Common.{◌≡◌, ◌<◌, Option, List, Some, None, length, refl, ap, sym, subst, ◌∙◌}
use Rattle.shared_pool.specs.Refs.{IsPoolRef}
use Rattle.shared_port.specs.declared.rule.PortView.{PortView}
use Rattle.shared_port.specs.Ports.{seen}
use Rattle.media_variables.specs.Held.{AreOf, WholeMedium}
use Rattle.media_variables.specs.Variables.{with_medium}
use Rattle.shared_variables.specs.PortLaws.{posted_answer}
use Rattle.shared_variables.specs.Ports.{PostsIf, WholeParcel, whole_posted}
use Rattle.shared_variables.proofs.Posting.{posted_variables, given_there, given_of, there_within, back_again, without_of, none_given}
use Rattle.shared_variables.proofs.ports.post_at.Goals as goal

pub returns-in_default-clause-posted : goal.returns-in_default-clause-posted
returns-in_default-clause-posted g c =
    let vs = c.args.variables.now in
    let given = c.post-given.ensures in
    let none : whole_posted vs c.args.variable ≡ None = none_given vs c.args.variable c.post-given.result.1 given.medium c.in_default.not-Some in
    let v = seen c.args.pass.now in
    record {
      answer = given.answer ∙ posted_answer c.args.variable vs;
      variables = posted_variables c.args.variable vs _ given.detached;
      posted = subst (λ (o : Option WholeMedium). PostsIf c.args.who c.args.time o v v) (sym none) refl;
    }

pub returns-in_default-clause-held : goal.returns-in_default-clause-held
returns-in_default-clause-held g c = without_of (IsPoolRef c.args.port.now.pool) c.args.variable c.args.variables.now _ c.post-given.ensures.detached c.requires.held

pub post-requires-clause-of : goal.post-requires-clause-of
post-requires-clause-of g c = (given_of c.args.port.now.pool c.args.variables.now c.args.variable c.in-Some.medium c.requires.held (sym c.post-given.ensures.medium ∙ c.in-Some.is), c.requires.time)

pub put_back-requires : goal.put_back-requires
put_back-requires g c =
    let vs = c.args.variables.now in
    let there = given_there vs c.args.variable c.in-Some.medium (sym c.post-given.ensures.medium ∙ c.in-Some.is) in
    subst (λ (l : List (Option WholeMedium)). c.args.variable < length l) (sym c.post-given.ensures.detached) (there_within vs c.args.variable c.in-Some.medium there)

pub returns-in-Ok-clause-parts : goal.returns-in-Ok-clause-parts
returns-in-Ok-clause-parts g c = ap (λ (v : PortView WholeParcel). v.parts) c.in-Ok.ensures.posted.view

pub returns-in-Ok-clause-posted : goal.returns-in-Ok-clause-posted
returns-in-Ok-clause-posted g c =
    let vs = c.args.variables.now in
    let given = c.post-given.ensures in
    let gave : whole_posted vs c.args.variable ≡ Some c.in-Some.medium = sym given.medium ∙ c.in-Some.is in
    record {
      answer = given.answer ∙ posted_answer c.args.variable vs;
      variables = posted_variables c.args.variable vs _ given.detached;
      posted = subst (λ (o : Option WholeMedium). PostsIf c.args.who c.args.time o (seen c.args.pass.now) (seen c.post.new.pass)) (sym gave) c.in-Ok.ensures.posted;
    }

pub returns-in-Ok-clause-held : goal.returns-in-Ok-clause-held
returns-in-Ok-clause-held g c = without_of (IsPoolRef c.args.port.now.pool) c.args.variable c.args.variables.now _ c.post-given.ensures.detached c.requires.held

pub returns-in-Err-clause-parts : goal.returns-in-Err-clause-parts
returns-in-Err-clause-parts g c = ap (λ (v : PortView WholeParcel). v.parts) c.in-Err.ensures.back.1

pub returns-in-Err-clause-same : goal.returns-in-Err-clause-same
returns-in-Err-clause-same g c =
    let vs = c.args.variables.now in
    let there = given_there vs c.args.variable c.in-Some.medium (sym c.post-given.ensures.medium ∙ c.in-Some.is) in
    let parcel = ap (λ (p : WholeParcel). p.medium) (c.parcel.view_is ∙ c.in-Err.ensures.back.0) in
    c.put_back.ensures ∙ ((λ i. with_medium c.args.variable (parcel i) (c.post-given.ensures.detached i)) ∙ back_again vs c.args.variable c.in-Some.medium there)

pub returns-in-Err-clause-held : goal.returns-in-Err-clause-held
returns-in-Err-clause-held g c = subst (λ (l : List (Option WholeMedium)). AreOf (IsPoolRef c.args.port.now.pool) l) (sym (returns-in-Err-clause-same g c)) c.requires.held

pub returns-in-Err-clause-kept : goal.returns-in-Err-clause-kept
returns-in-Err-clause-kept g c = c.in-Err.ensures.back.1
