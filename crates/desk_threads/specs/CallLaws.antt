-- Laws of the calls that a thread's entries are.
use Rattle.std.proofs.Common.{◌≡◌, List, [], ◌∷◌, ◌++◌, Option, refl, ap, sym, ◌∙◌, arith}
use Rattle.std.specs.List.{sum_by}
use Rattle.std.proofs.lemmas.List.Sums.{sum_by-append}
use Rattle.atomic_table.specs.declared.shared.Seat.{Seat}
use Rattle.wc_base.specs.declared.seat.View.{View}
use Rattle.codec_accounts.specs.Bags.{SameBag}
use Rattle.codec_logs.specs.declared.event.Event.{Event}
use Rattle.codec_logs.specs.Logs.{opening_track}
use Rattle.shared_codec.specs.Dues.{Called, call_dues, dues_by}
use Rattle.shared_codec.specs.Shared.{Shared}
use Rattle.shared_codec.specs.SumLaws.{dues_add_up}
use Rattle.shared_codec.specs.Sums.{dues_of}
use Rattle.codec_desk.specs.declared.desk.Desk.{Desk}
use Rattle.codec_desk.specs.declared.desk.Seats.{Seats}
use Rattle.codec_desk.specs.Named.{calls_made, Calls}
use Rattle.desk_threads.specs.AccountLaws.{left_dues, new_dues, both_dues, saw_none}
use Rattle.desk_threads.specs.Accounts.{Named, SawNone, EachByAll, AreAll, all_calls}
use Rattle.desk_threads.specs.PartLaws.{total_second, total_third, total_both}
use Rattle.desk_threads.specs.Parts.{IsSplit, IsJoin, AreSplit, AreTakenIn}

-- what adds up, by the parts of it
added_calls : (u v w x y : List Called) → SameBag w (u ++ v) → SameBag u x → SameBag v y → SameBag w (x ++ y)
added_calls u v w x y both one other t =
    let a = both t in
    let b = one t in
    let c = other t in
    let d = sum_by-append t u v in
    let e = sum_by-append t x y in
    omega (arith, a, b, c, d, e)

module _ {S : Type 0} where
  all_named : (xs : List Shared) (us : List (Seat (Option S) (View Event))) → EachByAll us → calls_made xs us ≡ all_calls xs us
  all_named [] us h = refl
  all_named (x ∷ xs) [] h = refl
  all_named (x ∷ xs) (u ∷ us) h = (λ i. (dues_add_up call_dues).all x.codec x.opening u.me.0 h.0 i ++ all_named xs us h.1 i)

module _ {C : Type 0} where
  pub named_first : (desk : Desk C) (a : Seats C) → SawNone a → Named desk [] a
  named_first desk a none t =
      ap (sum_by t) (saw_none (λ s u. dues_of call_dues s.codec s.opening u.me.0) (λ s u h. ap (dues_by call_dues s.codec u.me.0.numbers (opening_track s.opening)) h) desk.codecs.items a.codecs.items none.codecs)

  pub named_after : (desk : Desk C) (a b : Seats C) (before since : List Called) → Calls desk since a b → Named desk before a → Named desk (before ++ since) b
  named_after desk a b before since calls was =
      added_calls (calls_made desk.codecs.items a.codecs.items) since (calls_made desk.codecs.items b.codecs.items) before since calls was (λ t. refl)

  pub named_left : (desk : Desk C) (a b n : Seats C) (calls : List Called) → AreSplit desk a b n → Named desk calls a → Named desk calls b
  named_left desk a b n calls split was t =
      ap (sum_by t) (total_second (λ s u v w. IsSplit s.id u v w) (λ s u. dues_of call_dues s.codec s.opening u.me.0) (left_dues call_dues) desk.codecs.items a.codecs.items b.codecs.items n.codecs.items split.codecs) ∙ was t

  pub named_new : (desk : Desk C) (a b n : Seats C) → AreSplit desk a b n → Named desk [] n
  named_new desk a b n split t =
      ap (sum_by t) (total_third (λ s u v w. IsSplit s.id u v w) (λ s u. dues_of call_dues s.codec s.opening u.me.0) (new_dues call_dues) desk.codecs.items a.codecs.items b.codecs.items n.codecs.items split.codecs)

  pub named_joined : (desk : Desk C) (a o b : Seats C) (xs ys : List Called) → AreTakenIn desk a o b → Named desk xs a → Named desk ys o → Named desk (xs ++ ys) b
  named_joined desk a o b xs ys join x y =
      added_calls (calls_made desk.codecs.items a.codecs.items) (calls_made desk.codecs.items o.codecs.items) (calls_made desk.codecs.items b.codecs.items) xs ys
      (total_both (λ s u v w. IsJoin u v w) (λ s u. dues_of call_dues s.codec s.opening u.me.0) (both_dues call_dues (dues_add_up call_dues)) desk.codecs.items a.codecs.items o.codecs.items b.codecs.items join.codecs) x y

  -- where the other seats made no calls
  pub named_same : (desk : Desk C) (a o b : Seats C) (xs : List Called) → AreTakenIn desk a o b → Named desk xs a → Named desk [] o → Named desk xs b
  named_same desk a o b xs join x y t =
      let n = named_joined desk a o b xs [] join x y t in
      let e = sum_by-append t xs [] in
      let none : List Called = [] in
      let z : sum_by t none ≡ 0 = refl in
      omega (arith, n, e, z)

  pub named_all : (desk : Desk C) (a : Seats C) (calls : List Called) → AreAll a → Named desk calls a → SameBag (all_calls desk.codecs.items a.codecs.items) calls
  named_all desk a calls all was t = sym (ap (sum_by t) (all_named desk.codecs.items a.codecs.items all.codecs)) ∙ was t
