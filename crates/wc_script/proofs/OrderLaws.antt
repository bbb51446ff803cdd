-- The items of an order that was read name what is there.
use Rattle.std.proofs.Common.{◌≡◌, ℕ, nat_lt, true, List, [], ◌∷◌, length, codes, Option, Some, None, option_and_then, Ok, IfOk, refl, arith, zero, suc}
use Rattle.std.specs.List.{list_all}
use Rattle.std.proofs.lemmas.Result.{IfOk-at_ok, IfOk-weaker}
use Rattle.serde_json.specs.Data.{Data, Items}
use Rattle.serde_json.specs.Find.{get, as_str}
use Rattle.script_types.specs.declared.{fault.Place.Place, script.CodecItem.CodecItem, script.CallerItem.CallerItem, script.OrderItem.OrderItem}
use Rattle.script_types.specs.{declared.found.FoundCodec.FoundCodec, Names.codec_named, Names.caller_named}
use Rattle.script_types.specs.Sound.{any_kind, is_codec, is_sound_item}
use Rattle.script_steps.specs.Members.{needed, known, checked_name, name_in, natural_of}
use Rattle.script_steps.specs.NameLaws.{codec_is_there}
use Rattle.wc_script.specs.{declared.order.OrderWord.OrderWord}
use Rattle.wc_script.specs.Order.{order_word_of, codec_in, codec_at, order_by, order_from, order_item_of, order_of}
use Rattle.wc_script.proofs.Proceeds.{by_part, all_more, IsWalked, walked}

-- ---- codecs and callers

below : (codecs : List CodecItem) (n : ℕ) → is_codec codecs any_kind n ≡ true → nat_lt n (length codecs) ≡ true
below [] n h = absurd cc
below (c ∷ cs) zero h = grind arith
below (c ∷ cs) (suc n) h = grind (arith, below cs n h)

codec_below : (codecs : List CodecItem) (name : List ℕ) (c : FoundCodec) → known (codec_named codecs name) ≡ Ok c → nat_lt c.number (length codecs) ≡ true
codec_below codecs name c h = below codecs c.number (codec_is_there codecs any_kind name c h)

-- ---- one item

in_below : (key : List ℕ) (codecs : List CodecItem) (d : Data) → IfOk (codec_in key codecs d) (λ n. nat_lt n (length codecs) ≡ true)
in_below key codecs d = by_part (name_in key d) _ _ (λ name n. by_part (known (codec_named codecs name)) _ _ (codec_below codecs name))

at_below : (key : List ℕ) (codecs : List CodecItem) (d : Data) → IfOk (codec_at key codecs d) (λ r. nat_lt r.0 (length codecs) ≡ true)
at_below key codecs d =
    by_part (name_in key d) _ _ (λ name n. by_part (needed (option_and_then natural_of (get (codes "at") d))) _ _ (λ moment m.
    by_part (known (codec_named codecs name)) _ _ (codec_below codecs name)))

abbrev IsSoundItem : List CodecItem → List CallerItem → OrderItem → Type 0
IsSoundItem codecs callers x = is_sound_item (length codecs) (length callers) x ≡ true

by_word : (codecs : List CodecItem) (callers : List CallerItem) (d : Data) (w : OrderWord) → IfOk (order_by codecs d w) (IsSoundItem codecs callers)
by_word codecs callers d OrderWord.Start = by_part (codec_in (codes "start") codecs d) _ _ (λ n e. IfOk-at_ok (λ m. nat_lt m (length codecs) ≡ true) e (in_below (codes "start") codecs d))
by_word codecs callers d OrderWord.Done = by_part (codec_at (codes "done") codecs d) _ _ (λ c e. IfOk-at_ok (λ r. nat_lt r.0 (length codecs) ≡ true) e (at_below (codes "done") codecs d))
by_word codecs callers d OrderWord.Turn = by_part (codec_in (codes "turn") codecs d) _ _ (λ n e. IfOk-at_ok (λ m. nat_lt m (length codecs) ≡ true) e (in_below (codes "turn") codecs d))
by_word codecs callers d OrderWord.Reclaim = by_part (codec_at (codes "reclaim") codecs d) _ _ (λ c e. IfOk-at_ok (λ r. nat_lt r.0 (length codecs) ≡ true) e (at_below (codes "reclaim") codecs d))

item_sound : (codecs : List CodecItem) (callers : List CallerItem) (d : Data) → IfOk (order_item_of codecs callers d) (IsSoundItem codecs callers)
unfolding order_item_of
item_sound codecs callers d = by_text (as_str d)
  where
    by_text : (o : Option (List ℕ)) → IfOk (order_from codecs callers d o) (IsSoundItem codecs callers)
    by_text (Some text) = by_part (needed (checked_name text)) _ _ (λ name n. by_part (known (caller_named callers name)) _ _ (λ i e. grind (arith, e)))
    by_text None = by_part (needed (order_word_of d)) _ _ (λ w e. by_word codecs callers d w)

-- ---- all items

pub items_sound : (codecs : List CodecItem) (callers : List CallerItem) (i : ℕ) (before : List OrderItem) (ds : Items) → list_all (is_sound_item (length codecs) (length callers)) before ≡ true
    → IfOk (order_of codecs callers i before ds) (IsWalked (λ l. list_all (is_sound_item (length codecs) (length callers)) l ≡ true) before ds)
items_sound codecs callers =
    walked (λ l. list_all (is_sound_item (length codecs) (length callers)) l ≡ true) Place.Order (λ b. order_item_of codecs callers) (order_of codecs callers) (λ i b. refl) (λ i b d ds. refl)
    (λ b d s. IfOk-weaker (order_item_of codecs callers d) _ _ (λ x e. all_more (is_sound_item (length codecs) (length callers)) b x s e) (item_sound codecs callers d))
