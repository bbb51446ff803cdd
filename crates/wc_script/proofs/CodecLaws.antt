-- Nothing is at fault in codecs that were read.
use Rattle.std.proofs.Common.{◌≡◌, ℕ, not, true, List, [], codes, option_and_then, IfOk, refl, ap, arith}
use Rattle.std.proofs.lemmas.Result.{IfOk-weaker}
use Rattle.serde_json.specs.Data.{Data, Items}
use Rattle.serde_json.specs.Find.{get}
use Rattle.script_types.specs.{declared.fault.Place.Place, declared.script.CodecItem.CodecItem, Names.is_name, Names.is_codec_name, Names.kind_named}
use Rattle.script_types.specs.{Sound.is_sound_codec, Sound.are_sound_codecs}
use Rattle.script_steps.specs.Members.{needed, text_in, name_in}
use Rattle.script_steps.specs.Chains.{all_true}
use Rattle.script_steps.specs.NameLaws.{name_is_name}
use Rattle.wc_script.specs.Codecs.{saturation_of, codec_of, codecs_of}
use Rattle.wc_script.proofs.Proceeds.{by_part, unless, each_more, IsWalked, walked}

-- ---- one codec

codec_sound : (before : List CodecItem) (d : Data) → IfOk (codec_of before d) (λ c. is_sound_codec before c ≡ true)
unfolding codec_of
codec_sound before d =
    by_part (name_in (codes "name") d) _ _ (λ name n. by_part (needed (option_and_then kind_named (text_in (codes "kind") d))) _ _ (λ kind k.
    by_part (saturation_of (get (codes "saturation") d)) _ _ (λ saturation s. unless (is_codec_name before name) _ _ _ (λ new.
    all_true (is_name name) _ (name_is_name (codes "name") name d n) (all_true (not (is_codec_name before name)) _ (ap not new) (grind (arith, s)))))))

-- ---- all

pub codecs_sound : (i : ℕ) (before : List CodecItem) (ds : Items) → are_sound_codecs [] before ≡ true → IfOk (codecs_of i before ds) (IsWalked (λ l. are_sound_codecs [] l ≡ true) before ds)
codecs_sound =
    walked (λ l. are_sound_codecs [] l ≡ true) Place.Codec codec_of codecs_of (λ i b. refl) (λ i b d ds. refl)
    (λ b d s. IfOk-weaker (codec_of b d) _ _ (λ c k. each_more is_sound_codec are_sound_codecs (λ l. refl) (λ l x xs. refl) [] b c s k) (codec_sound b d))
