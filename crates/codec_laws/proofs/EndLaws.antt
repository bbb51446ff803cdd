-- Each promise ends once.
use Rattle.std.proofs.Common.{◌≡◌, true, List, Option, Some, None, is_some, refl, arith}
use Rattle.codec_model.specs.declared.entry.{Opening.Opening, Entry.Entry}
use Rattle.codec_model.specs.Replay.{State, opening_state, replay, IsLegal}
use Rattle.codec_laws.specs.Laws.{EndsOnce}
use Rattle.codec_laws.proofs.PromiseLaws.{Promises, EndedBy, ends_balance, few_flushes}
use Rattle.codec_laws.proofs.OldLaws.{opening_course, opening_flow}

pub opening_promises : (o : Opening) → Promises opening_course (opening_state o).control
opening_promises o = record { is = refl; rises = omega arith }

-- the state after a legal history
pub legal_state : (o : Opening) (h : List Entry) → IsLegal o h → (s : State) × (replay o h ≡ Some s)
legal_state o h legal = by (replay o h) legal
  where
    by : (u : Option State) → is_some u ≡ true → (s : State) × (u ≡ Some s)
    by None legal = absurd cc
    by (Some s) legal = (s, refl)

pub ends_once : EndsOnce
ends_once o h legal p =
    let some = legal_state o h legal in
    let k : EndedBy p h (opening_state o) some.0 = ends_balance p h (opening_state o) some.0 opening_course (opening_flow o) (opening_promises o) some.1 in
    let b = k.balance in
    omega (arith, b, few_flushes p h 0)
