-- Laws of seats that have seen all that a thread's seats had seen.
use Rattle.std.proofs.Common.{◌≡◌, List, [], ◌∷◌, ◌++◌, Option, ap, sym, ◌∙◌, append-nil, append_assoc}
use Rattle.atomic_table.specs.declared.shared.Seat.{Seat}
use Rattle.wc_base.specs.Views.{Log}
use Rattle.wc_base.specs.declared.seat.View.{View}
use Rattle.seat_lock.specs.Seats.{Sitting}
use Rattle.codec_logs.specs.declared.event.Event.{Event}
use Rattle.shared_codec.specs.Shared.{Shared}
use Rattle.codec_desk.specs.declared.desk.Desk.{Desk}
use Rattle.codec_desk.specs.declared.desk.Seats.{Seats}
use Rattle.codec_desk.specs.Desks.{SitsAt, SitAt, SeesMore, Settled}
use Rattle.codec_desk.specs.Each.{Each}
use Rattle.codec_desk.specs.EachLaws.{each_same, each_then}
use Rattle.desk_threads.specs.Longer.{SawAll, EachSawAll}
use Rattle.desk_threads.specs.Parts.{EachOfThree, IsSplit, IsJoin, AreSplit, AreTakenIn}

-- ---- lists

module _ {X A : Type 0} (R : X → A → A → A → Type 0) (T : X → A → A → Type 0) where
  -- what is so of the first element and the second, or of the first and the third
  each_second : ((x : X) (u v w : A) → R x u v w → T x u v) → (xs : List X) (us vs ws : List A) → EachOfThree R xs us vs ws → Each T xs us vs
  each_second step [] [] [] [] h = tt
  each_second step [] [] [] (w ∷ ws) h = absurd h
  each_second step [] [] (v ∷ vs) ws h = absurd h
  each_second step [] (u ∷ us) vs ws h = absurd h
  each_second step (x ∷ xs) [] vs ws h = absurd h
  each_second step (x ∷ xs) (u ∷ us) [] ws h = absurd h
  each_second step (x ∷ xs) (u ∷ us) (v ∷ vs) [] h = absurd h
  each_second step (x ∷ xs) (u ∷ us) (v ∷ vs) (w ∷ ws) h = (step x u v w h.0, each_second step xs us vs ws h.1)

  each_third : ((x : X) (u v w : A) → R x u v w → T x u w) → (xs : List X) (us vs ws : List A) → EachOfThree R xs us vs ws → Each T xs us ws
  each_third step [] [] [] [] h = tt
  each_third step [] [] [] (w ∷ ws) h = absurd h
  each_third step [] [] (v ∷ vs) ws h = absurd h
  each_third step [] (u ∷ us) vs ws h = absurd h
  each_third step (x ∷ xs) [] vs ws h = absurd h
  each_third step (x ∷ xs) (u ∷ us) [] ws h = absurd h
  each_third step (x ∷ xs) (u ∷ us) (v ∷ vs) [] h = absurd h
  each_third step (x ∷ xs) (u ∷ us) (v ∷ vs) (w ∷ ws) h = (step x u v w h.0, each_third step xs us vs ws h.1)

-- ---- one seat

module _ {S : Type 0} where
  same_log : (s : Shared) (a b : Seat (Option S) (View Event)) → b.me.0.log ≡ a.me.0.log → SawAll s a b
  same_log s a b is = record { more = []; longer = is ∙ sym (append-nil a.me.0.log) }

  log_then : (s : Shared) (a b c : Seat (Option S) (View Event)) → SawAll s a b → SawAll s b c → SawAll s a c
  log_then s a b c x y = record {
    more = x.more ++ y.more;
    longer = y.longer ∙ (ap (λ (l : Log Event). l ++ y.more) x.longer ∙ append_assoc a.me.0.log x.more y.more);
  }

  log_left : (s : Shared) (a b n : Seat (Option S) (View Event)) → IsSplit s.id a b n → SawAll s a b
  log_left s a b n split = same_log s a b (ap (λ (m : Sitting S Event). m.0.log) split.left.1)

  log_joined : (s : Shared) (a o b : Seat (Option S) (View Event)) → IsJoin a o b → SawAll s a b
  log_joined s a o b join = record { more = join.both.continues_one.more; longer = join.both.continues_one.is }

  log_more : (s : Shared) (a b c : Seat (Option S) (View Event)) → SawAll s a b → SeesMore s b c → SawAll s a c
  log_more s a b c x y = log_then s a b c x (record { more = y.more; longer = y.longer })

-- ---- a thread's seats

module _ {C : Type 0} where
  pub saw_same : (desk : Desk C) (a : Seats C) → SitAt desk a → EachSawAll desk a a
  saw_same desk a at = each_same (SitsAt desk.pool desk.slots.id) SawAll (λ n s u h. same_log s u u (λ i. u.me.0.log)) 0 desk.codecs.items a.codecs.items at.codecs

  pub saw_then : (desk : Desk C) (a b c : Seats C) → EachSawAll desk a b → EachSawAll desk b c → EachSawAll desk a c
  saw_then desk a b c = each_then SawAll SawAll SawAll log_then desk.codecs.items a.codecs.items b.codecs.items c.codecs.items

  pub saw_left : (desk : Desk C) (a b n : Seats C) → AreSplit desk a b n → EachSawAll desk a b
  saw_left desk a b n split = each_second (λ s u v w. IsSplit s.id u v w) SawAll log_left desk.codecs.items a.codecs.items b.codecs.items n.codecs.items split.codecs

  pub saw_joined : (desk : Desk C) (a o b : Seats C) → AreTakenIn desk a o b → EachSawAll desk a b
  saw_joined desk a o b join = each_third (λ s u v w. IsJoin u v w) SawAll log_joined desk.codecs.items a.codecs.items o.codecs.items b.codecs.items join.codecs

  pub saw_settled : (desk : Desk C) (a b c : Seats C) → EachSawAll desk a b → Settled desk b c → EachSawAll desk a c
  saw_settled desk a b c x settled = each_then SawAll SeesMore SawAll log_more desk.codecs.items a.codecs.items b.codecs.items c.codecs.items x settled.seats
