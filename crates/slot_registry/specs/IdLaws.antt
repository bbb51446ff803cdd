-- Ids, and how many of an id stand before a place.
use Rattle.std.proofs.Common.{ℕ, ◌+◌, ◌<◌, ◌≤◌, ◌≡◌, true, cond, List, take, get_or, slice_get, Some, refl, ap, sym, subst, ◌∙◌, arith, set}
use Rattle.std.proofs.lemmas.Bool.{and_parts, and_from}
use Rattle.std.proofs.lemmas.List.{take-take, map-set, set-get_or}
use Rattle.std.proofs.lemmas.Option.{get_or_from_slice_get, slice_get_within}
use Rattle.std.proofs.lemmas.List.Sums.{count_by_more_yes, sum_by-take-le}
use Rattle.wc_config.specs.declared.codec.CoderId.{CoderId}
use Rattle.wc_config.specs.declared.codec.CodecId.{CodecId}
use Rattle.wc_config.specs.declared.codec.CodecId.TheVariants as codec
use Rattle.wc_config.specs.declared.codec.Role.{Role}
use Rattle.wc_config.specs.declared.codec.Role.TheVariants as role
use Rattle.coder_api.specs.Meaning.{is_id, is_role, is_codec}
use Rattle.slot_registry.specs.Boxes.{made_of}
use Rattle.slot_registry.specs.Places.{Placed, ids_of}

-- an id is itself
role_same : (a : Role) → is_role a a ≡ true
role_same role.Decode = refl
role_same role.Encode = refl

codec_same : (a : CodecId) → is_codec a a ≡ true
codec_same codec.PcmU8 = refl
codec_same codec.PcmS16 = refl
codec_same codec.PcmS24 = refl
codec_same codec.PcmS32 = refl
codec_same codec.Alaw = refl
codec_same codec.Ulaw = refl
codec_same codec.Flac = refl
codec_same codec.RawI420 = refl
codec_same codec.RawI422 = refl
codec_same codec.RawI444 = refl
codec_same codec.RawNv12 = refl

pub id_same : (a : CoderId) → is_id a a ≡ true
id_same a = and_from (is_role a.role a.role) (is_codec a.codec a.codec) (role_same a.role) (codec_same a.codec)

-- ids that are the same are one
role_is : (a b : Role) → is_role a b ≡ true → a ≡ b
role_is role.Decode role.Decode h = refl
role_is role.Encode role.Encode h = refl
role_is role.Decode role.Encode h = absurd cc
role_is role.Encode role.Decode h = absurd cc

codec_is : (a b : CodecId) → is_codec a b ≡ true → a ≡ b
codec_is codec.PcmU8 codec.PcmU8 h = refl
codec_is codec.PcmS16 codec.PcmS16 h = refl
codec_is codec.PcmS24 codec.PcmS24 h = refl
codec_is codec.PcmS32 codec.PcmS32 h = refl
codec_is codec.Alaw codec.Alaw h = refl
codec_is codec.Ulaw codec.Ulaw h = refl
codec_is codec.Flac codec.Flac h = refl
codec_is codec.RawI420 codec.RawI420 h = refl
codec_is codec.RawI422 codec.RawI422 h = refl
codec_is codec.RawI444 codec.RawI444 h = refl
codec_is codec.RawNv12 codec.RawNv12 h = refl
codec_is _ _ h = absurd cc

pub id_is : (a b : CoderId) → is_id a b ≡ true → a ≡ b
id_is a b h =
    let parts = and_parts (is_role a.role b.role) (is_codec a.codec b.codec) h in
    let r = role_is a.role b.role parts.0 in
    let c = codec_is a.codec b.codec parts.1 in
    ap (λ (x : Role). record { role = x; codec = a.codec }) r ∙ ap (λ (x : CodecId). record { role = b.role; codec = x }) c

-- one more of an id after its place
pub made_of_more : (id : CoderId) (made : List CoderId) (k : ℕ) → slice_get made k ≡ Some id → made_of id (take (k + 1) made) ≡ made_of id (take k made) + 1
made_of_more id made k at =
    let here : is_id id (get_or made k id) ≡ true = ap (is_id id) (get_or_from_slice_get made k id id at) ∙ id_same id in
    count_by_more_yes (is_id id) made k id (slice_get_within made k id at) here

-- more places have no fewer of an id
made_of-take-le : (id : CoderId) (made : List CoderId) (j k : ℕ) → j ≤ k → made_of id (take j made) ≤ made_of id (take k made)
made_of-take-le id made j k low =
    let P : List CoderId → Type 0 = λ l. made_of id l ≤ made_of id (take k made) in
    subst P (take-take j k made low) (sum_by-take-le (λ x. cond (is_id id x) 1 0) (take k made) j)

-- the box of a place of an id is one of those that were made
pub number_made : (id : CoderId) (made : List CoderId) (k : ℕ) → slice_get made k ≡ Some id → made_of id (take k made) < made_of id made
number_made id made k at =
    let more = made_of_more id made k at in
    let most = sum_by-take-le (λ x. cond (is_id id x) 1 0) made (k + 1) in
    omega (arith, more, most)

-- a later place of an id has a greater number
pub number_rises : (id : CoderId) (made : List CoderId) (j k : ℕ) → j < k → slice_get made j ≡ Some id → made_of id (take j made) < made_of id (take k made)
number_rises id made j k low at =
    let more = made_of_more id made j at in
    let most = made_of-take-le id made (j + 1) k (omega arith) in
    omega (arith, more, most)

-- the ids stay where a place of the same id is written
pub ids_of-set : (places : List Placed) (k : ℕ) (p : Placed) → slice_get (ids_of places) k ≡ Some p.id → ids_of (set places k p) ≡ ids_of places
ids_of-set places k p at =
    let here = get_or_from_slice_get (ids_of places) k p.id p.id at in
    map-set (λ (q : Placed). q.id) places k p ∙ ap (λ (x : CoderId). set (ids_of places) k x) (sym here) ∙ set-get_or (ids_of places) k p.id
