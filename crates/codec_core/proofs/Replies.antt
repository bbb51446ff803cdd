-- What calls leave of a codec, and what they reply.
use Rattle.std.proofs.Common.{ℕ, ◌≡◌, ◌+◌, ◌-◌, ◌^◌, ◌<◌, ◌≤◌, ◌&&◌, not, Bool, true, false, [], ◌∷◌, ◌++◌, length, Option, Some, None, is_some, is_none, refl, ap, sym, ◌∙◌}
use Rattle.std.specs.Prelude.{option_map, IfSome}
use Rattle.wc_base.specs.declared.{error.DomError.DomError, who.Who.Who}
use Rattle.coder_api.specs.Lent.{Lent}
use Rattle.codec_model.specs.declared.entry.{Call.Call, Entry.Entry, Shown.Shown}
use Rattle.codec_model.specs.Control.{Control, left}
use Rattle.codec_model.specs.Replay.{with_control, call_error, removes, takes}
use Rattle.codec_model.specs.Shown.{exception_of, promise_of, shown_at, units_in}
use Rattle.codec_accounts.specs.Boxes.{removal_act}
use Rattle.codec_core.specs.declared.out.Out.{Out}
use Rattle.codec_core.specs.Codec.{Replied, IsCore, kept_box, handed_back, places_taken, reclaims}
use Rattle.codec_core.specs.Trace.{TraceValue}
use Rattle.codec_core.proofs.Steps.{Moved, makes_more}
use Rattle.codec_core.proofs.Recorded.{core_next}
use Rattle.codec_core.proofs.Owning.{seen, control_at}

pub twice : (b : Bool) → b ≡ not (not b)
twice true = refl
twice false = refl

module _ {t : TraceValue} {slot : Option Lent} {out : Out} {k : Control} {spare : ℕ} (is : IsCore t slot out k spare) {next : Option Lent} {k' : Control} (who : Who) (x : Call) (m : Moved next (Entry.Call who x) is.kept.state k') (spare' : ℕ) (box : next ≡ kept_box (not (removes x && is_none (call_error x k))) slot) where
  -- the codec after a call that takes no output
  pub core_called : (free : ℕ) (y : Shown) → y ≡ shown_at (Entry.Call who x) (with_control k is.kept.state) → takes x ≡ false → (left k' + spare' + reclaims k'.phase + 1 ≤ free) × (length t.entries + free < 2 ^ 63)
      → IsCore (record { entries = t.entries ++ Entry.Call who x ∷ []; shown = t.shown ++ y ∷ []; waiting = t.waiting ++ units_in y.events; free = free - 1 }) next out k' spare'
  core_called free y shows none place =
      core_next is free spare' y m shows none place (not (removes x && is_none (call_error x is.kept.state.control))) (ap removal_act (twice _)) (rw is.kept.is_control box)

  -- its reply
  pub replied : (place : ℕ) (exception : Option DomError) (promise : Option ℕ) (coder : Option Lent) → place ≡ k.place → exception ≡ exception_of x (call_error x k) → promise ≡ promise_of x k.place → coder ≡ handed_back (not (removes x && is_none (call_error x k))) slot → spare' + places_taken x ≡ spare
      → Replied (seen is) (record { opening = k'.opening; history = t.entries ++ Entry.Call who x ∷ []; spare = spare'; slot = next; out = out }) who x (record { place = place; exception = exception; promise = promise; coder = coder })
  replied place exception promise coder here error own back spares = record {
    made = makes_more is.kept m spare spare' out out;
    is_place = here ∙ is.kept.is_place;
    exception = ap (λ (c : Control). exception_of x (call_error x c)) (control_at is refl) ∙ sym error;
    promise = ap (promise_of x) here ∙ sym own;
    slot = box ∙ ap (λ (c : Control). kept_box (not (removes x && is_none (call_error x c))) slot) (sym (control_at is refl));
    coder = back ∙ ap (λ (c : Control). handed_back (not (removes x && is_none (call_error x c))) slot) (sym (control_at is refl));
    out = refl;
    spare = spares;
  }

-- ---- the next output

pub some_mapped : {X Y : Type 0} (f : X → Y) (o : Option X) → is_some o ≡ is_some (option_map f o)
some_mapped f None = refl
some_mapped f (Some x) = refl

pub if_mapped : {X Y : Type 0} (f : X → Y) (P : Y → Type 0) (o : Option X) (w : Option Y) → option_map f o ≡ w → IfSome w P → IfSome o (λ x. P (f x))
if_mapped f P None w is h = tt
if_mapped f P (Some x) w is h = rw (← is) at h
