-- Laws of what the ends of items tell.
use Rattle.std.proofs.Common.{ℕ, ◌≡◌, Bool, true, false, cond, List, [], ◌∷◌, ◌++◌, Option, Some, None, refl, ap, sym, subst, ◌∙◌, append_assoc}
use Rattle.wc_base.specs.Views.{Log}
use Rattle.wc_base.specs.declared.seat.View.{View}
use Rattle.wc_config.specs.declared.codec.CoderId.{CoderId}
use Rattle.coder_api.specs.declared.slot.SlotEntry.{SlotEntry}
use Rattle.codec_model.specs.declared.entry.{Opening.Opening, Outcome.Outcome}
use Rattle.codec_model.specs.declared.entry.Outcome.TheVariants as outcome
use Rattle.seat_lock.specs.ClaimLaws.{entries_both}
use Rattle.seat_lock.specs.Logs.{entries_of}
use Rattle.seat_lock.specs.Own.{is_in}
use Rattle.codec_logs.specs.declared.event.Event.{Event}
use Rattle.codec_logs.specs.Logs.{Track, opening_track, track_by}
use Rattle.shared_slots.specs.Steps.{refused}
use Rattle.shared_codec.specs.Dues.{dues_in, dues_by}
use Rattle.shared_codec.specs.DueLaws.{owed_none, owed_then}
use Rattle.shared_codec.specs.Sums.{AreJoined, dues_of}
use Rattle.shared_codec.specs.SumLaws.{in_both, in_other, goes_on_due}
use Rattle.shared_codec.specs.Told.{Ending, end_dues, IsRefusalAt, SaysSo, AreTold, EndsAreTold}

-- ---- a registry's history that goes on

pub refusal_later : (slots more : List SlotEntry) (n : ℕ) (id : CoderId) (es : List SlotEntry) → IsRefusalAt slots n id es → IsRefusalAt (slots ++ more) n id es
refusal_later slots more n id es r = record {
  cause = r.cause;
  out = r.out;
  all = r.all;
  earlier = r.earlier;
  before = r.before;
  behind = r.behind ++ more;
  told = r.told;
  is = ap (λ (l : List SlotEntry). l ++ more) r.is ∙ append_assoc r.before (refused r.cause id r.out r.all ∷ r.behind) more;
  place = r.place;
  stand = r.stand;
}

says_later : (slots more : List SlotEntry) (asked : Option CoderId) (es : List SlotEntry) (o : Outcome) → SaysSo slots asked es o → SaysSo (slots ++ more) asked es o
says_later slots more None es (outcome.NoSlot n) h = h
says_later slots more None es outcome.NoMemory h = h
says_later slots more None es outcome.Refused h = h
says_later slots more None es (outcome.Ran units) h = h
says_later slots more (Some id) es (outcome.NoSlot n) h = refusal_later slots more n id es h
says_later slots more (Some id) es outcome.NoMemory h = h
says_later slots more (Some id) es outcome.Refused h = h
says_later slots more (Some id) es (outcome.Ran units) h = h

are_told_more : (slots more : List SlotEntry) (ends : List Ending) → AreTold slots ends → AreTold (slots ++ more) ends
are_told_more slots more [] h = tt
are_told_more slots more (e ∷ es) h = (record { ids = h.0.ids; says = says_later slots more e.asked e.acquires e.outcome h.0.says }, are_told_more slots more es h.1)

pub told_later : (a more b : Log SlotEntry) (ends : List Ending) → b ≡ a ++ more → AreTold (entries_of a) ends → AreTold (entries_of b) ends
told_later a more b ends is h =
    subst (λ (l : List SlotEntry). AreTold l ends) (sym (ap (λ (l : Log SlotEntry). entries_of l) is ∙ entries_both a more)) (are_told_more (entries_of a) (entries_of more) ends h)

-- ---- ends, and more of them

pub told_both : (slots : List SlotEntry) (a b : List Ending) → AreTold slots a → AreTold slots b → AreTold slots (a ++ b)
told_both slots [] b x y = y
told_both slots (e ∷ es) b x y = (x.0, told_both slots es b x.1 y)

pub told_first : (slots : List SlotEntry) (a b : List Ending) → AreTold slots (a ++ b) → AreTold slots a
told_first slots [] b h = tt
told_first slots (e ∷ es) b h = (h.0, told_first slots es b h.1)

pub told_rest : (slots : List SlotEntry) (a b : List Ending) → AreTold slots (a ++ b) → AreTold slots b
told_rest slots [] b h = h
told_rest slots (e ∷ es) b h = told_rest slots es b h.1

pub ends_none : (slots : Log SlotEntry) (k : ℕ) (o : Opening) (v : View Event) → EndsAreTold slots k o v v
ends_none slots k o v = record { ends = []; owed = owed_none end_dues k o v; told = tt }

pub ends_then : (a more b : Log SlotEntry) (k : ℕ) (o : Opening) (u v w : View Event) → b ≡ a ++ more → EndsAreTold a k o u v → EndsAreTold b k o v w → EndsAreTold b k o u w
ends_then a more b k o u v w is x y = record {
  ends = x.ends ++ y.ends;
  owed = owed_then end_dues k o u v w x.ends y.ends x.owed y.owed;
  told = told_both (entries_of b) x.ends y.ends (told_later a more b x.ends is x.told) y.told;
}

-- ---- seats that are joined

told_if : (slots : List SlotEntry) (d : List Ending) (one other both : Bool) → (one ≡ true → both ≡ true) → (one ≡ false → both ≡ other) → AreTold slots (cond one d []) → AreTold slots (cond other d []) → AreTold slots (cond both d [])
told_if slots d true other both up same x y = subst (λ (c : Bool). AreTold slots (cond c d [])) (sym (up refl)) x
told_if slots d false other both up same x y = subst (λ (c : Bool). AreTold slots (cond c d [])) (sym (same refl)) y

told_by : (slots : List SlotEntry) (k : ℕ) (one other : List ℕ) (x : Track) (l : Log Event) → AreTold slots (dues_by end_dues k one x l) → AreTold slots (dues_by end_dues k other x l) → AreTold slots (dues_by end_dues k (one ++ other) x l)
told_by slots k one other x [] h i = tt
told_by slots k one other x (p ∷ ps) h i =
    let d : List Ending = dues_in end_dues k p.1 x in
    let first : List Ending = cond (is_in p.0 one) d [] in
    let second : List Ending = cond (is_in p.0 other) d [] in
    let next : Track = track_by p.0 p.1 x in
    told_both slots (cond (is_in p.0 (one ++ other)) d []) (dues_by end_dues k (one ++ other) next ps)
    (told_if slots d (is_in p.0 one) (is_in p.0 other) (is_in p.0 (one ++ other)) (in_both p.0 one other) (in_other p.0 one other) (told_first slots first (dues_by end_dues k one next ps) h) (told_first slots second (dues_by end_dues k other next ps) i))
    (told_by slots k one other next ps (told_rest slots first (dues_by end_dues k one next ps) h) (told_rest slots second (dues_by end_dues k other next ps) i))

pub told_joined : (slots : List SlotEntry) (k : ℕ) (o : Opening) (v w u : View Event) → AreJoined v w u → AreTold slots (dues_of end_dues k o v) → AreTold slots (dues_of end_dues k o w) → AreTold slots (dues_of end_dues k o u)
told_joined slots k o v w u j h i =
    let x : Track = opening_track o in
    subst (λ (numbers : List ℕ). AreTold slots (dues_by end_dues k numbers x u.log)) (sym j.numbers)
    (told_by slots k v.numbers w.numbers x u.log
    (subst (λ (l : List Ending). AreTold slots l) (sym (goes_on_due end_dues k v.numbers x v.log u.log j.one)) h)
    (subst (λ (l : List Ending). AreTold slots l) (sym (goes_on_due end_dues k w.numbers x w.log u.log j.other)) i))
