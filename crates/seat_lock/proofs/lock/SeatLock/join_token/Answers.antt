use Rattle.std.proofs.Common.{rules, ◌≡◌, sym, ◌∙◌, subst, inr}
use Rattle.seat_lock.proofs.Ends.{settles_union, phase_of_union}
use Rattle.seat_lock.proofs.Seats.{joins, settles}
use Rattle.seat_lock.proofs.lock.SeatLock.join_token.Goals as goal
use Rattle.seat_lock.specs.Passages.{IsUnion}
use Rattle.wc_base.specs.declared.seat.Phase.TheVariants.{Token}
use Rattle.wc_base.specs.declared.seat.View.{View}

pub join_seat-requires : goal.join_seat-requires
join_seat-requires g c =
    let t = c.requires.token in
    let same : t.0 ≡ c.into_seat-other.result.me.0 = (let e = sym t.1.0 ∙ c.into_seat-other.ensures.2 in cc) in
    (search rules, search rules, search rules, search rules, joins _ _ _ _ _ _ _ _ _ c.requires.seat.1.0 (inr (subst (λ (v : View g.row.S-Entry.Denot). v.phase ≡ Token) same t.1.1)))

pub load-requires : goal.load-requires
load-requires g c = (search rules, search rules, (let u = c.into_seat-other.result.me.0 in settles _ _ _ _ _ _ _ c.args.seat.now.me.0.numbers u.numbers c.args.seat.now.me.0.log u.log _ (phase_of_union c.args.seat.now.me.0 u _ _ c.join_seat.ensures.2)))

pub returns-clause-union : goal.returns-clause-union
returns-clause-union g c v e =
    let u = c.into_seat-other.result.me.0 in
    let same : u ≡ v = (let q = sym c.into_seat-other.ensures.2 ∙ e.0 in cc) in
    subst (λ (z : View g.row.S-Entry.Denot). IsUnion c.args.seat.now.me.0 z c.load.new.seat) same (settles_union c.args.seat.now u c.join_seat.new.seat.me c.load.new.seat c.requires.seat.1.1 c.join_seat.ensures.2 c.load.ensures.2)
