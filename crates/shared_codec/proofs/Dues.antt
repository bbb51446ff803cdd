-- What entries call for in the registry.
use Rattle.std.proofs.Common.{ℕ, suc, ◌≡◌, ◌<◌, ◌==◌, Bool, true, false, cond, not, List, [], ◌∷◌, map, Option, Some, None, refl, ap, sym, subst, ◌∙◌, arith, eq-eqb}
use Rattle.std.specs.Prelude.{nat_le, nat_lt}
use Rattle.std.proofs.lemmas.Bool.{and_from}
use Rattle.std.proofs.lemmas.Bool.Decides.{nat_tests}
use Rattle.wc_base.specs.declared.who.By.{By}
use Rattle.wc_base.specs.declared.who.By.TheVariants as by
use Rattle.wc_config.specs.declared.codec.CoderId.{CoderId}
use Rattle.coder_api.specs.Lent.{Lent}
use Rattle.slot_registry.specs.Slots.{is_later}
use Rattle.codec_model.specs.declared.entry.Opening.{Opening}
use Rattle.codec_model.specs.declared.entry.Entry.{Entry}
use Rattle.codec_accounts.specs.Boxes.{Act, Asks, Begins, Ends, Removes, Other, Stay, Kept, Leaving, Left, stay_at, stays, left_by, runs_after, lets, acts_of, start_act, Holds, box_with, lets_go_by}
use Rattle.codec_accounts.specs.Registry.{Box}
use Rattle.codec_core.specs.Codec.{Codec, IsBy, handed_back}
use Rattle.codec_core.specs.Owning.{GoesBack}
use Rattle.codec_core.specs.Job.{stopped_box}
use Rattle.codec_logs.specs.Logs.{BoxIs}
use Rattle.shared_codec.specs.Dues.{give_by, gives_of, given_if, IsLater}

-- ---- a box leaves after it was asked for

abbrev AfterP : ℕ → Stay → Type 0
AfterP p Kept = Unit {0}
AfterP p Leaving = Unit {0}
AfterP p (Left q) = p < q

stay_after : (p place : ℕ) → p < place → (a : Act) (runs : Bool) (s : Stay) → AfterP p s → AfterP p (stay_at a runs place s)
stay_after p place lt (Asks id) runs Kept h = lt
stay_after p place lt (Asks id) runs Leaving h = tt
stay_after p place lt (Asks id) runs (Left q) h = h
stay_after p place lt Begins runs Kept h = tt
stay_after p place lt Begins runs Leaving h = tt
stay_after p place lt Begins runs (Left q) h = h
stay_after p place lt Ends runs Kept h = tt
stay_after p place lt Ends runs Leaving h = lt
stay_after p place lt Ends runs (Left q) h = h
stay_after p place lt Removes true Kept h = tt
stay_after p place lt Removes false Kept h = lt
stay_after p place lt Removes runs Leaving h = tt
stay_after p place lt Removes runs (Left q) h = h
stay_after p place lt Other runs Kept h = tt
stay_after p place lt Other runs Leaving h = tt
stay_after p place lt Other runs (Left q) h = h

next_after : (p place : ℕ) (a : Act) (runs : Bool) (s : Stay) (b : Bool) → nat_le place p ≡ b → AfterP p s → AfterP p (cond b s (stay_at a runs place s))
next_after p place a runs s true is h = h
next_after p place a runs s false is h = (let lt : p < place = grind (arith, nat_tests) in stay_after p place lt a runs s h)

walk_after : (p place : ℕ) (runs : Bool) (acts : List Act) (s : Stay) → AfterP p s → AfterP p (stays p place runs acts s)
walk_after p place runs [] s h = h
walk_after p place runs (a ∷ rest) s h = walk_after p (suc place) (runs_after a runs) rest (cond (nat_le place p) s (stay_at a runs place s)) (next_after p place a runs s (nat_le place p) refl h)

left_after : (p at : ℕ) (s : Stay) → left_by s ≡ Some at → AfterP p s → p < at
left_after p at Kept is h = absurd cc
left_after p at Leaving is h = absurd cc
left_after p at (Left q) is h = (let e : q ≡ at = cc in omega (arith, h, e))

lets_after : (o : Opening) (h : List Entry) (p at : ℕ) → lets o h p ≡ Some at → p < at
lets_after o h p at is = left_after p at (stays p 0 false (acts_of o h) Kept) is (walk_after p 0 false (acts_of o h) Kept tt)

-- the box, if there is one, was acquired by an entry of the codec k
abbrev pub OfCodec : ℕ → Option Lent → Type 0
OfCodec k None = Unit {0}
OfCodec k (Some lent) = (p : ℕ) × (lent.by ≡ by.Codec k p)

pub of_box : (k : ℕ) (since : Option ℕ) (box : Option Box) (coder : Option Lent) → BoxIs k since box coder → OfCodec k coder
of_box k since box None h = tt
of_box k since box (Some lent) h = (h.place, h.cause)

pub of_back : (k : ℕ) (current : Bool) (coder : Option Lent) → OfCodec k coder → OfCodec k (handed_back current coder)
of_back k true coder h = tt
of_back k false None h = tt
of_back k false (Some lent) h = h

later_by : (k p at : ℕ) → p < at → is_later (by.Codec k p) (by.Codec k at) ≡ true
later_by k p at lt = and_from (k == k) (nat_lt p at) (eq-eqb k k refl) (grind (arith, nat_tests))

pub later_of : (k : ℕ) (c : Codec) (at : ℕ) (coder : Option Lent) → OfCodec k coder → GoesBack c at coder → IsLater k at coder
later_of k c at None o g = tt
later_of k c at (Some lent) o g =
    let e : Some g.0 ≡ Some o.0 = subst (λ (b : By). IsBy b (Some g.0)) o.1 g.1 in
    let same : g.0 ≡ o.0 = cc in
    let lt = lets_after c.opening c.history g.0 at g.2 in
    subst (λ (b : By). is_later b (by.Codec k at) ≡ true) (sym o.1) (later_by k o.0 at (omega (arith, lt, same)))

-- ---- the box that an entry lets go

pub due_box : (k : ℕ) (since : Option ℕ) (box : Option Box) (at place : ℕ) (coder : Option Lent) → BoxIs k since box coder → at ≡ place → map (give_by k at) (box_with since box) ≡ gives_of k place coder
due_box k None box at place None h e = refl
due_box k (Some p) box at place None h e = ap (λ (b : Option Box). map (give_by k at) (box_with (Some p) b)) h
due_box k since box at place (Some lent) h e = (λ i. map (give_by k (e i)) (box_with (h.asked i) (h.box_is i)))

pub due_start : (k : ℕ) (m : Option CoderId) (x : Holds Box) (place : ℕ) (coder : Option Lent) → BoxIs k x.since x.box coder → x.place ≡ place → map (give_by k x.place) (lets_go_by (start_act m) None x) ≡ given_if k m place coder
due_start k None x place coder h e = refl
due_start k (Some id) x place coder h e = due_box k x.since x.box x.place place coder h e

pub gives_stopped : (k place : ℕ) (coder : Option Lent) → gives_of k place coder ≡ gives_of k place (stopped_box coder)
gives_stopped k place None = refl
gives_stopped k place (Some lent) = refl

pub due_end : (k : ℕ) (since : Option ℕ) (box : Option Box) (at place : ℕ) (coder : Option Lent) (old current : Bool) → old ≡ not current → BoxIs k since box coder → at ≡ place → map (give_by k at) (cond old (box_with since box) []) ≡ gives_of k place (handed_back current coder)
due_end k since box at place coder old true is h e = ap (λ (b : Bool). map (give_by k at) (cond b (box_with since box) [])) is
due_end k since box at place coder old false is h e = ap (λ (b : Bool). map (give_by k at) (cond b (box_with since box) [])) is ∙ (due_box k since box at place coder h e ∙ gives_stopped k place coder)
