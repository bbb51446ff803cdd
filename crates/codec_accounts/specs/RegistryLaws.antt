-- The registry's history has the returns that the codecs' histories call for.
use Rattle.std.proofs.Common.{ℕ, suc, ◌≡◌, List, [], ◌∷◌, ◌++◌, map, Option, Some, None, refl, ap, sym, ◌∙◌}
use Rattle.std.specs.List.{flat_map, sum_by}
use Rattle.std.proofs.lemmas.List.Concat.{flat_map-append}
use Rattle.coder_api.specs.declared.slot.SlotEntry.{SlotEntry}
use Rattle.codec_accounts.specs.Bags.{SameBag}
use Rattle.codec_accounts.specs.Owed.{owed, owed_from}
use Rattle.codec_accounts.specs.Boxes.{Act, lets_in, Event, holds_nothing, holds_after, gets, lets_go, all_gets, goes_at, returns_of}
use Rattle.codec_accounts.specs.Registry.{Return, Box, outs, returns, return_of, BoxesAreBack, out_at, back_at, gets_due, lets_go_due, all_out, all_back, AreOf}
use Rattle.codec_accounts.specs.BagsLaws.{same_flat_map}
use Rattle.codec_accounts.specs.BoxesLaws.{boxes_return}

map_append : {X Y : Type 0} (f : X → Y) (a b : List X) → map f (a ++ b) ≡ map f a ++ map f b
map_append f [] b = refl
map_append {X} {Y} f (x ∷ xs) b = ap (λ (l : List Y). f x ∷ l) (map_append f xs b)

owed_map : {E S D F : Type 0} (after : E → S → S) (due : ℕ → E → S → List D) (f : D → F) (place : ℕ) (s : S) (es : List E) → owed after (λ p e x. map f (due p e x)) place s es ≡ map f (owed after due place s es)
owed_map after due f place s [] = refl
owed_map {E} {S} {D} {F} after due f place s (e ∷ es) =
    ap (λ (l : List F). map f (due place e s) ++ l) (owed_map after due f (suc place) (after e s) es)
    ∙ sym (map_append f (due place e s) (owed after due (suc place) (after e s) es))

return_there : (acts : ℕ → List Act) (k : ℕ) (b : ℕ × Box) → map (back_at k) (goes_at (lets_in (acts k) b.0) b) ≡ return_of acts (out_at k b)
return_there acts k b = by_place (lets_in (acts k) b.0) refl
  where
    by_place : (o : Option ℕ) → lets_in (acts k) b.0 ≡ o → map (back_at k) (goes_at (lets_in (acts k) b.0) b) ≡ return_of acts (out_at k b)
    by_place None is = rw is refl
    by_place (Some q) is = rw is refl

returns_there : (acts : ℕ → List Act) (k : ℕ) (bs : List (ℕ × Box)) → map (back_at k) (returns_of (acts k) bs) ≡ flat_map (return_of acts) (map (out_at k) bs)
returns_there acts k [] = refl
returns_there acts k (b ∷ bs) =
    map_append (back_at k) (goes_at (lets_in (acts k) b.0) b) (returns_of (acts k) bs)
    ∙ (ap (λ (l : List Return). l ++ map (back_at k) (returns_of (acts k) bs)) (return_there acts k b)
    ∙ ap (λ (l : List Return). return_of acts (out_at k b) ++ l) (returns_there acts k bs))

-- what the codecs' entries let go is what was asked for by them, each by the entry that lets it go
all_returns : (acts : ℕ → List Act) (k : ℕ) (hs : List (List (Event Box))) → AreOf acts k hs → owed_from holds_after lets_go_due (λ n. holds_nothing) k hs ≡ flat_map (return_of acts) (owed_from holds_after gets_due (λ n. holds_nothing) k hs)
all_returns acts k [] are = refl
all_returns acts k (h ∷ hs) are =
    let here : owed holds_after (lets_go_due k) 0 holds_nothing h ≡ flat_map (return_of acts) (owed holds_after (gets_due k) 0 holds_nothing h) =
    owed_map holds_after lets_go (back_at k) 0 holds_nothing h
    ∙ (ap (map (back_at k)) (boxes_return h are.1)
    ∙ (ap (λ (a : List Act). map (back_at k) (returns_of a (all_gets h))) (sym are.0)
    ∙ (returns_there acts k (all_gets h)
    ∙ ap (flat_map (return_of acts)) (sym (owed_map holds_after gets (out_at k) 0 holds_nothing h))))) in
    ap (λ (l : List Return). l ++ owed_from holds_after lets_go_due (λ n. holds_nothing) (suc k) hs) here
    ∙ (ap (λ (l : List Return). flat_map (return_of acts) (owed holds_after (gets_due k) 0 holds_nothing h) ++ l) (all_returns acts (suc k) hs are.2)
    ∙ sym (flat_map-append (return_of acts) (owed holds_after (gets_due k) 0 holds_nothing h) (owed_from holds_after gets_due (λ n. holds_nothing) (suc k) hs)))

-- Where the registry has what the codecs' entries call for, its boxes are back.
pub boxes_are_back : (acts : ℕ → List Act) (hs : List (List (Event Box))) (slots : List SlotEntry) → AreOf acts 0 hs → SameBag (outs slots) (all_out hs) → SameBag (returns slots) (all_back hs) → BoxesAreBack acts slots
boxes_are_back acts hs slots are out back t =
    back t
    ∙ (ap (sum_by t) (all_returns acts 0 hs are)
    ∙ sym (same_flat_map (return_of acts) (outs slots) (all_out hs) out t))
