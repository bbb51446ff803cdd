-- The order of a script. A text names a caller, and an object what is done to a codec.
use Rattle.std.specs.Prelude.{ℕ, ◌+◌, Bool, true, false, List, [], ◌∷◌, ◌++◌, codes, Option, Some, None, option_and_then, Result, Ok}
use Rattle.serde_json.specs.Data.{Data, Items, no_items, item}
use Rattle.serde_json.specs.Find.{get, as_str}
use Rattle.script_types.specs.declared.fault.Place.TheVariants as place
use Rattle.chunk_files.specs.declared.fault.Stop.{Stop}
use Rattle.script_types.specs.declared.fault.Fault.{Fault}
use Rattle.script_types.specs.declared.script.CodecItem.{CodecItem}
use Rattle.script_types.specs.declared.script.CallerItem.{CallerItem}
use Rattle.script_types.specs.declared.script.OrderItem.{OrderItem}
use Rattle.script_types.specs.declared.script.OrderItem.TheVariants as order
use Rattle.script_types.specs.Names.{codec_named, caller_named}
use Rattle.script_types.specs.declared.fault.Wrong.{Wrong}
use Rattle.script_steps.specs.Members.{and_then, needed, known, checked_name, name_in, natural_of}
use Rattle.script_steps.specs.Sources.{has}
use Rattle.wc_script.specs.declared.order.OrderWord.{OrderWord}
use Rattle.wc_script.specs.declared.order.OrderWord.TheVariants as word
use Rattle.wc_script.specs.Faults.{at, proceed}

-- just one of the four words is a member
abbrev pub order_word_from : Bool → Bool → Bool → Bool → Option OrderWord
order_word_from true false false false = Some word.Start
order_word_from false true false false = Some word.Done
order_word_from false false true false = Some word.Turn
order_word_from false false false true = Some word.Reclaim
order_word_from _ _ _ _ = None

abbrev pub order_word_of : Data → Option OrderWord
order_word_of d = order_word_from (has (codes "start") d) (has (codes "done") d) (has (codes "turn") d) (has (codes "reclaim") d)

-- the codec that an item names
abbrev pub codec_in : List ℕ → List CodecItem → Data → Result ℕ (Stop Wrong)
codec_in key codecs d = and_then (name_in key d) (λ on. and_then (known (codec_named codecs on)) (λ c. Ok c.number))

-- the codec that an item names, and the moment, in microseconds
abbrev pub codec_at : List ℕ → List CodecItem → Data → Result (ℕ × ℕ) (Stop Wrong)
codec_at key codecs d =
    and_then (name_in key d) (λ on. and_then (needed (option_and_then natural_of (get (codes "at") d))) (λ moment.
    and_then (known (codec_named codecs on)) (λ c. Ok (c.number, moment))))

abbrev pub order_by : List CodecItem → Data → OrderWord → Result OrderItem (Stop Wrong)
order_by codecs d word.Start = and_then (codec_in (codes "start") codecs d) (λ n. Ok (order.Start n))
order_by codecs d word.Done = and_then (codec_at (codes "done") codecs d) (λ c. Ok (order.Done c.0 c.1))
order_by codecs d word.Turn = and_then (codec_in (codes "turn") codecs d) (λ n. Ok (order.Turn n))
order_by codecs d word.Reclaim = and_then (codec_at (codes "reclaim") codecs d) (λ c. Ok (order.Reclaim c.0 c.1))

abbrev pub order_from : List CodecItem → List CallerItem → Data → Option (List ℕ) → Result OrderItem (Stop Wrong)
order_from codecs callers d (Some text) =
    and_then (needed (checked_name text)) (λ name. and_then (known (caller_named callers name)) (λ i. Ok (order.Caller i)))
order_from codecs callers d None = and_then (needed (order_word_of d)) (order_by codecs d)

unfoldable pub order_item_of : List CodecItem → List CallerItem → Data → Result OrderItem (Stop Wrong)
order_item_of codecs callers d = order_from codecs callers d (as_str d)

-- all items of the order, where those before number i are given
abbrev pub order_of : List CodecItem → List CallerItem → ℕ → List OrderItem → Items → Result (List OrderItem) (Stop Fault)
order_of codecs callers i before no_items = Ok before
order_of codecs callers i before (item d ds) =
    proceed (at (place.Order i) (order_item_of codecs callers d)) (λ x. order_of codecs callers (i + 1) (before ++ x ∷ []) ds)
