-- One codec more is judged.
use Rattle.std.proofs.Common.{ℕ, zero, suc, ◌≡◌, ◌+◌, ◌<◌, ◌≤◌, true, List, [], ◌∷◌, length, take, get_or, Option, Some, None, refl, ap, subst, add-one}
use Rattle.std.specs.Prelude.{slice_get, slice_set, nat_le, ◌&&◌}
use Rattle.std.proofs.lemmas.Bool.{and_parts, leb-true}
use Rattle.std.proofs.lemmas.Option.{slice_get_read}
use Rattle.wc_config.specs.declared.codec.CoderId.{CoderId}
use Rattle.script_types.specs.declared.script.{CodecItem.CodecItem, ScriptData.ScriptData}
use Rattle.script_types.specs.{Names.is_name, Sound.is_sound, SoundLaws.codec_at}
use Rattle.run_model.specs.declared.run.CodecTrace.{CodecTrace}
use Rattle.lawful_part.specs.Lawful.{lawful_at, lawful_trace, lawful_traces}

at_behind : (made : List CoderId) (i : CodecItem) (q : ℕ) (x : CodecTrace) (xs : List CodecTrace) → lawful_at made i (suc q) (x ∷ xs) ≡ x ∷ lawful_at made i q xs
at_behind made i q x xs = by (slice_get xs q) where
  by : (o : Option CodecTrace) → (elim o [ None ↦ x ∷ xs | Some t ↦ slice_set (x ∷ xs) (suc q) (lawful_trace made i t) ]) ≡ x ∷ (elim o [ None ↦ xs | Some t ↦ slice_set xs q (lawful_trace made i t) ])
  by None = refl
  by (Some t) = refl

one_more : (made : List CoderId) (is : List CodecItem) (ts : List CodecTrace) (p : ℕ) (i : CodecItem) → slice_get is p ≡ Some i → lawful_traces made (take (suc p) is) ts ≡ lawful_at made i p (lawful_traces made (take p is) ts)
one_more made [] ts p i at = absurd cc
one_more made (j ∷ js) [] zero i at = refl
one_more made (j ∷ js) (t ∷ ts) zero i at = let same : j ≡ i = cc in ap (λ (x : CodecItem). lawful_trace made x t ∷ ts) same
one_more made (j ∷ js) [] (suc q) i at = refl
one_more made (j ∷ js) (t ∷ ts) (suc q) i at =
    rw (at_behind made i q (lawful_trace made j t) (lawful_traces made (take q js) ts)) (ap (λ (l : List CodecTrace). lawful_trace made j t ∷ l) (one_more made js ts q i at))

-- the codec that stands at a place
pub item_at : (codecs items : List CodecItem) (p : ℕ) (i : CodecItem) → items ≡ codecs → p < length items → i ≡ get_or items p i → slice_get codecs p ≡ Some i
item_at codecs items p i same within is = subst (λ (l : List CodecItem). slice_get l p ≡ Some i) same (slice_get_read items (length items) p i refl within is)

pub trace_more : (made home : List CoderId) (is : List CodecItem) (ts now next : List CodecTrace) (p : ℕ) (i : CodecItem) → slice_get is p ≡ Some i → home ≡ made → now ≡ lawful_traces made (take p is) ts → next ≡ lawful_at home i p now → next ≡ lawful_traces made (take (p + 1) is) ts
trace_more made home is ts now next p i at same so_far judged = rw (judged, same, so_far, add-one p, one_more made is ts p i at) refl

-- each codec of a script in which nothing is at fault can be opened
pub opens : (s : ScriptData) (k : ℕ) (c : CodecItem) → is_sound s ≡ true → slice_get s.codecs k ≡ Some c → (1 ≤ c.saturation) × (c.saturation ≤ 64)
opens s k c sound at =
    let named = and_parts (is_name c.name) _ (codec_at s k c sound at) in
    let apart = and_parts _ (nat_le 1 c.saturation && nat_le c.saturation 64) named.1 in
    let range = and_parts (nat_le 1 c.saturation) (nat_le c.saturation 64) apart.1 in
    (leb-true 1 c.saturation range.0, leb-true c.saturation 64 range.1)
