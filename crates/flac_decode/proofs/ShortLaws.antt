-- Readings in a loop that end for want of bits.
use Rattle.std.proofs.Common.{◌≡◌, ◌+◌, ℕ, suc, ℤ, Bool, true, false, List, [], ◌∷◌, Option, Some, None, Result, Err, sym, ap, ◌∙◌}
use Rattle.flac_definitions.specs.Bits.{Place}
use Rattle.flac_definitions.specs.Options.{◌>>=◌}
use Rattle.flac_definitions.specs.Subframe.{signed_at, samples_at, in_front_of, subframe_at}
use Rattle.flac_definitions.specs.Stereo.{channel_depth}
use Rattle.flac_decode.specs.declared.fault.ReadFault.{ReadFault}
use Rattle.flac_decode.specs.declared.fault.ReadFault.TheVariants as end
use Rattle.flac_decode.specs.Reading.{Gives, Fills, TellsShort}
use Rattle.flac_decode.specs.Shortness.{in_order, is_missing, short_subframe, short_channels}

-- nothing is read of samples of which one is missing
none_of : (depth n m : ℕ) (front : List ℤ) (p : Place) → n ≡ suc m → signed_at depth p ≡ None → in_front_of front (samples_at depth n p) ≡ None
none_of depth n m front p h e =
    ap (λ k. in_front_of front (samples_at depth k p)) h
    ∙ ap (λ (r : Option (ℤ × Place)). in_front_of front (r >>= λ x. in_front_of (x.0 ∷ []) (samples_at depth m x.1))) e

pub missing_sample : (e : ReadFault) (depth n m : ℕ) (front : List ℤ) (p new : Place) (all : Option (List ℤ × Place)) → n ≡ suc m → in_front_of front (samples_at depth n p) ≡ all
    → Gives (signed_at depth p) (let r : Result ℤ ReadFault = Err e in r) new → TellsShort (let r : Result ℤ ReadFault = Err e in r) (is_missing (signed_at depth p))
    → TellsShort (let r : Result (Unit {0}) ReadFault = Err e in r) (is_missing all)
missing_sample end.Refused depth n m front p new all h i g t = absurd (let b : true ≡ false = sym (ap (λ (o : Option (ℤ × Place)). is_missing o) g) ∙ t in let z : ⊥ = cc in z)
missing_sample end.Short depth n m front p new all h i g t = ap (λ (o : Option (List ℤ × Place)). is_missing o) (sym i ∙ none_of depth n m front p h g)
missing_sample end.NoMemory depth n m front p new all h i g t = tt

-- behind a subframe that is read the channels are short where the others are
pub short_next : (a d block channel n m : ℕ) (values : List ℤ) (p next : Place) → n ≡ suc m → subframe_at (channel_depth a d channel) block p ≡ Some (values, next)
    → short_channels a d block (channel + 1) m next ≡ short_channels a d block channel n p
short_next a d block channel n m values p next h e =
    sym (ap (λ k. short_channels a d block channel k p) h
    ∙ ap (λ (r : Option (List ℤ × Place)). in_order r (λ x. short_channels a d block (channel + 1) m x.1) (short_subframe (channel_depth a d channel) block p)) e)

first_of : (a d block channel n m : ℕ) (p : Place) → n ≡ suc m → subframe_at (channel_depth a d channel) block p ≡ None
    → short_channels a d block channel n p ≡ short_subframe (channel_depth a d channel) block p
first_of a d block channel n m p h e =
    ap (λ k. short_channels a d block channel k p) h
    ∙ ap (λ (r : Option (List ℤ × Place)). in_order r (λ x. short_channels a d block (channel + 1) m x.1) (short_subframe (channel_depth a d channel) block p)) e

-- and at one that is not read where it is
pub short_here : (e : ReadFault) (a d block channel n m : ℕ) (p new : Place) (values : List ℤ) (all : Bool) → n ≡ suc m → short_channels a d block channel n p ≡ all
    → Fills (subframe_at (channel_depth a d channel) block p) (let r : Result (Unit {0}) ReadFault = Err e in r) new values
    → TellsShort (let r : Result (Unit {0}) ReadFault = Err e in r) (short_subframe (channel_depth a d channel) block p) → TellsShort (let r : Result (Unit {0}) ReadFault = Err e in r) all
short_here end.Refused a d block channel n m p new values all h i g t = sym i ∙ first_of a d block channel n m p h g ∙ t
short_here end.Short a d block channel n m p new values all h i g t = sym i ∙ first_of a d block channel n m p h g ∙ t
short_here end.NoMemory a d block channel n m p new values all h i g t = tt
