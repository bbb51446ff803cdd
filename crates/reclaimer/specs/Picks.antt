-- Which codec is reclaimed (our choice).
use Rattle.std.specs.Prelude.{ℕ, ◌≡◌, ◌+◌, ◌==◌, ◌&&◌, ◌||◌, ◌⊎◌, nat_le, nat_lt, Bool, true, false, List, slice_get, Option, Some, None, if◌then◌else◌}
use Rattle.std.specs.List.{AllByRecursion}
use Rattle.wc_base.specs.Grounds.{is_background}
use Rattle.reclaimer.specs.declared.holder.Holder.{Holder}
use Rattle.reclaimer.specs.declared.choice.Reason.{Reason}
use Rattle.reclaimer.specs.declared.choice.Reason.TheVariants as reason

-- Its last item ended ten seconds ago or earlier; moments are in microseconds.
abbrev pub is_inactive : ℕ → Holder → Bool
is_inactive now h = nat_le (h.progress + 10000000) now

abbrev pub is_background_decoder : Holder → Bool
is_background_decoder h = h.decoder && is_background h.ground

-- by progress, and by number where progress is the same
abbrev pub comes_before : Holder → Holder → Bool
comes_before a b = nat_lt a.progress b.progress || ((a.progress == b.progress) && nat_le a.codec b.codec)

-- none of them is wanted
abbrev pub NoneIs : (Holder → Bool) → List Holder → Type 0
NoneIs wanted list = AllByRecursion (λ h. wanted h ≡ false) list

-- it is one of them, it is wanted, and it comes before each that is wanted
pub record IsLeast (wanted : Holder → Bool) (list : List Holder) (h : Holder) : Type 0 where
  pub place : ℕ
  pub at : slice_get list place ≡ Some h
  pub is : wanted h ≡ true
  pub first : AllByRecursion (λ other. wanted other ≡ true → comes_before h other ≡ true) list

-- the codec of the least holder that is wanted
pub record IsLeastCodec (wanted : Holder → Bool) (list : List Holder) (codec : ℕ) : Type 0 where
  pub holder : Holder
  pub least : IsLeast wanted list holder
  pub own : holder.codec ≡ codec

-- none is inactive, and this is the least decoder in the background
pub record IsBackgroundPick (now : ℕ) (list : List Holder) (codec : ℕ) : Type 0 where
  pub none_inactive : NoneIs (is_inactive now) list
  pub background : IsLeastCodec is_background_decoder list codec

-- the least inactive holder, or else the least decoder in the background
abbrev pub IsPicked : ℕ → List Holder → ℕ → Type 0
IsPicked now list codec = IsLeastCodec (is_inactive now) list codec ⊎ IsBackgroundPick now list codec

-- none is inactive, and none is a decoder in the background
pub record IsUnpicked (now : ℕ) (list : List Holder) : Type 0 where
  pub none_inactive : NoneIs (is_inactive now) list
  pub none_in_background : NoneIs is_background_decoder list

-- ---- of the code

-- a holder is wanted for a reason
abbrev pub is_wanted : Reason → ℕ → Holder → Bool
is_wanted reason.Inactive now h = is_inactive now h
is_wanted reason.Background now h = is_background_decoder h

-- the one of the two that comes first
abbrev pub first_of : Option Holder → Holder → Holder
first_of None h = h
first_of (Some best) h = if comes_before best h then best else h
