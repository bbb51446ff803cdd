use Rattle.std.proofs.Common.{ℕ, ◌≡◌, true, false, List, Option, length, ap, refl, rules, subst, sym, ◌∙◌}
use Rattle.array_buffers.specs.Transfers.{may_transfer}
use Rattle.script_types.specs.declared.steps.Variable.{Variable}
use Rattle.media_variables.specs.Variables.{adopted_in, all_but, bytes_in, is_invalid_init, is_open_buffer, steps_in}
use Rattle.media_variables.specs.Held.{AreOf, WholeMedium, seen_in}
use Rattle.media_variables.specs.Given.{DoesAll, Gives, MayMakeAndEnd, before_given, made_or_adopted}
use Rattle.media_variables.proofs.BufferLaws.{buffered_acts, invalid_acts, letting, may_end, may_not_acts}
use Rattle.media_variables.proofs.OfLaws.{given_of}
use Rattle.media_variables.proofs.StepLaws.{kept_seen}
use Rattle.media_variables.proofs.buffered.buffered_step.Goals as goal

pub returns-then-is_invalid_init-clause-ok : goal.returns-then-is_invalid_init-clause-ok
returns-then-is_invalid_init-clause-ok g c =
    let init = c.args.init.now in
    let vs = seen_in c.args.variables.now.items in
    let pool = c.args.pool.now in
    let invalid : is_invalid_init init.shape (length (bytes_in init.content vs)) ≡ true = search rules in
    invalid_acts (DoesAll g.P.RefPool.adds c.args.who pool pool) c.args.who init vs c.refused.result refl invalid c.refused.ensures

pub returns-then-not-may_transfer-clause-ok : goal.returns-then-not-may_transfer-clause-ok
returns-then-not-may_transfer-clause-ok g c =
    let init = c.args.init.now in
    let vs = seen_in c.args.variables.now.items in
    let pool = c.args.pool.now in
    let valid : is_invalid_init init.shape (length (bytes_in init.content vs)) ≡ false = search rules in
    let transfers : may_transfer (is_open_buffer vs) (steps_in init.transfer) ≡ false = search rules in
    may_not_acts (DoesAll g.P.RefPool.adds c.args.who pool pool) c.args.who init vs c.refused-then-not-may_transfer.result refl valid transfers c.refused-then-not-may_transfer.ensures

pub let_all_go-requires-clause-held : goal.let_all_go-requires-clause-held
let_all_go-requires-clause-held g c =
    let x = c.in_ok-given.given in
    given_of (g.P.RefPool.is_of c.give_init.new.pool) c.args.who.step x.medium _ _ c.keep-answer.ensures.variables c.in_ok-given.ensures.held c.in_ok-given.ensures.of

pub let_all_go-requires-clause-apart : goal.let_all_go-requires-clause-apart
let_all_go-requires-clause-apart g c =
    let x = c.in_ok-given.given in
    let old = c.args.pool.now in
    let room = c.make_room.new.variables.items in
    let same = c.make_room.ensures.same in
    let adds = g.P.RefPool.adds in
    let is_of = g.P.RefPool.is_of in
    let k = c.adopted_in-adopted.result in
    let put = kept_seen c.args.who.step x.medium _ _ (before_given k (seen_in room)) c.keep-answer.ensures.variables c.in_ok-given.ensures.variables in
    may_end adds is_of c.args.who old c.give_init.new.pool room c.args.init.now k x _ (subst (λ (l : List (Option WholeMedium)). MayMakeAndEnd adds is_of old (seen_in l)) (sym same) c.requires.apart) (subst (λ (l : List (Option WholeMedium)). AreOf (is_of old) l) (sym same) c.requires.held) c.in_ok-given.ensures.ok put

pub returns-clause-ok : goal.returns-clause-ok
returns-clause-ok g c =
    let init = c.args.init.now in
    let items = c.args.variables.now.items in
    let room = c.make_room.new.variables.items in
    let same = c.make_room.ensures.same in
    let vs = seen_in items in
    let who = c.args.who in
    let x = c.in_ok-given.given in
    let adds = g.P.RefPool.adds in
    let old = c.args.pool.now in
    let mid = c.give_init.new.pool in
    let new = c.let_all_go.new.pool in
    let between = seen_in c.keep-answer.new.variables.items in
    let k = c.adopted_in-adopted.result in
    let is_k = c.adopted_in-adopted.ensures in
    let slice = c.as_slice-2.result.now in
    let listed = c.as_slice-2.ensures in
    let valid : is_invalid_init init.shape (length (bytes_in init.content vs)) ≡ false = search rules in
    let transfers : may_transfer (is_open_buffer vs) (steps_in init.transfer) ≡ true = search rules in
    let gave = subst (λ (l : List (Option WholeMedium)). Gives (adds old mid) (mid ≡ old) who (made_or_adopted init (adopted_in init) (seen_in l)) x) same
    (subst (λ (o : Option ℕ). Gives (adds old mid) (mid ≡ old) who (made_or_adopted init o (seen_in room)) x) is_k c.in_ok-given.ensures.ok) in
    let before = c.in_ok-given.ensures.variables ∙ (ap (λ (o : Option ℕ). before_given o (seen_in room)) is_k ∙ ap (λ (l : List (Option WholeMedium)). before_given (adopted_in init) (seen_in l)) same) in
    let put = kept_seen who.step x.medium _ _ (before_given (adopted_in init) vs) c.keep-answer.ensures.variables before in
    let all = ap (λ (o : Option ℕ). all_but o (steps_in slice)) is_k ∙ ap (λ (l : List Variable). all_but (adopted_in init) (steps_in l)) listed in
    let went = c.let_all_go.ensures.variables ∙ ap (λ (js : List ℕ). (letting js between).variables) all in
    let does = subst (λ (js : List ℕ). DoesAll adds who mid new (letting js between).does) all c.let_all_go.ensures.does in
    buffered_acts adds who old mid new init vs between (seen_in c.let_all_go.new.variables.items) x c.keep-answer.result valid transfers gave c.keep-answer.ensures.answer put went does
