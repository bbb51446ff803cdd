-- The last picture, after one chunk more.
use Rattle.std.proofs.Common.{ℕ, ◌≡◌, ◌<◌, ◌+◌, ◌-◌, ◌%◌, ◌==◌, Bool, true, false, cond, List, [], ◌∷◌, ◌++◌, length, drop, map, get_or, refl, ap, sym, ◌∙◌, arith}
use Rattle.std.specs.Prelude.{◌||◌, Some, None, option_map, sum_by}
use Rattle.std.specs.List.{range_with_len, list_any}
use Rattle.std.proofs.lemmas.Bool.{eqb-true, and_parts}
use Rattle.std.proofs.lemmas.List.{ext_get_or, get_or-drop, length-drop}
use Rattle.std.proofs.lemmas.List.FromFn.{length-map-range_with_len, get_or-map-range_with_len}
use Rattle.std.proofs.lemmas.List.Sums.{fold-append, sum_by-append}
use Rattle.codec_definitions.specs.RawVideo.{is_key, with_chunk, from_last_key, picture_byte, picture_of, last_picture, is_whole_chunk}
use Rattle.codec_definitions.specs.RawVideoEncoder.{less_bytes}
use Rattle.raw_video.specs.Value.{added, picture_after}

abbrev AreBytes : List ℕ → Type 0
AreBytes bytes = (i : ℕ) → get_or bytes i 0 < 256

maps_same : (f g : ℕ → ℕ) (n m : ℕ) → n ≡ m → ((j : ℕ) → j < n → f j ≡ g j) → map f (range_with_len 0 n) ≡ map g (range_with_len 0 m)
maps_same f g n m same each =
    ext_get_or 0 (map f (range_with_len 0 n)) (map g (range_with_len 0 m)) (length-map-range_with_len f 0 n ∙ (same ∙ sym (length-map-range_with_len g 0 m)))
    (λ j below.
    let long = length-map-range_with_len f 0 n in
    let within : j < n = omega (arith, below, long) in
    get_or-map-range_with_len f 0 n j j 0 within (omega arith) ∙ (each j within ∙ sym (get_or-map-range_with_len g 0 m j j 0 (omega (arith, within, same)) (omega arith))))

whole_length : (size : ℕ) (bytes : List ℕ) → is_whole_chunk size bytes ≡ true → length bytes ≡ 1 + size
whole_length size bytes h = eqb-true (length bytes) (1 + size) (and_parts (length bytes == 1 + size) (is_key bytes || (get_or bytes 0 0 == 1)) h).0

-- a key picture alone
key_alone : (size : ℕ) (bytes : List ℕ) → AreBytes bytes → length bytes ≡ 1 + size → picture_of size (bytes ∷ []) ≡ drop 1 bytes
key_alone size bytes small long =
    let map_long = length-map-range_with_len (picture_byte (bytes ∷ [])) 0 size in
    ext_get_or 0 (picture_of size (bytes ∷ [])) (drop 1 bytes) (map_long ∙ (let d = length-drop 1 bytes in omega (arith, d, long)))
    (λ j below.
    let s : get_or bytes (1 + j) 0 < 256 = small (1 + j) in
    get_or-map-range_with_len (picture_byte (bytes ∷ [])) 0 size j j 0 (omega (arith, below, map_long)) (omega arith)
    ∙ (let e : (0 + get_or bytes (1 + j) 0) % 256 ≡ get_or bytes (1 + j) 0 = omega (arith, s) in e ∙ sym (get_or-drop 1 bytes j 0)))

-- one delta more
delta_more : (size : ℕ) (run : List (List ℕ)) (bytes : List ℕ) → picture_of size (run ++ bytes ∷ []) ≡ added (picture_of size run) (drop 1 bytes)
delta_more size run bytes =
    let long = length-map-range_with_len (picture_byte run) 0 size in
    maps_same (picture_byte (run ++ bytes ∷ [])) (λ j. (get_or (picture_of size run) j 0 + get_or (drop 1 bytes) j 0) % 256) size (length (picture_of size run)) (sym long)
    (λ j below.
    let f : List ℕ → ℕ = λ b. get_or b (1 + j) 0 in
    let all : sum_by f (run ++ bytes ∷ []) ≡ sum_by f run + (0 + f bytes) = sum_by-append f run (bytes ∷ []) in
    let old : get_or (picture_of size run) j 0 ≡ sum_by f run % 256 = get_or-map-range_with_len (picture_byte run) 0 size j j 0 below (omega arith) in
    let new : get_or (drop 1 bytes) j 0 ≡ f bytes = get_or-drop 1 bytes j 0 in
    let sums : (sum_by f run + (0 + f bytes)) % 256 ≡ (sum_by f run % 256 + f bytes) % 256 = omega arith in
    ap (λ (n : ℕ). n % 256) all ∙ (sums ∙ (ap (λ (n : ℕ). (n + f bytes) % 256) (sym old) ∙ ap (λ (n : ℕ). (get_or (picture_of size run) j 0 + n) % 256) (sym new))))

any_more : (chunks : List (List ℕ)) (bytes : List ℕ) → list_any is_key (chunks ++ bytes ∷ []) ≡ (list_any is_key chunks || is_key bytes)
any_more [] bytes = elim (is_key bytes) as (λ b. (b || false) ≡ (false || b)) [ true ↦ refl | false ↦ refl ]
any_more (c ∷ cs) bytes = ap (λ (b : Bool). is_key c || b) (any_more cs bytes) ∙ or_assoc (is_key c) (list_any is_key cs) (is_key bytes)
  where
    or_assoc : (a b c : Bool) → (a || (b || c)) ≡ (a || b || c)
    or_assoc true b c = refl
    or_assoc false b c = refl

or_true : (a : Bool) → (a || true) ≡ true
or_true true = refl
or_true false = refl

or_false : (a : Bool) → (a || false) ≡ a
or_false true = refl
or_false false = refl

delta_picture : (b : Bool) (size : ℕ) (run : List (List ℕ)) (bytes : List ℕ) → cond b (Some (picture_of size (run ++ bytes ∷ []))) None ≡ option_map (λ p. added p (drop 1 bytes)) (cond b (Some (picture_of size run)) None)
delta_picture true size run bytes = ap Some (delta_more size run bytes)
delta_picture false size run bytes = refl

-- the definition over all chunks, by the picture after those before
pub last_more : (size : ℕ) (chunks : List (List ℕ)) (bytes : List ℕ) → (is_key bytes ≡ true → (i : ℕ) → get_or bytes i 0 < 256) → is_whole_chunk size bytes ≡ true → last_picture size (chunks ++ bytes ∷ []) ≡ picture_after (last_picture size chunks) bytes
last_more size chunks bytes small whole =
    let run : List (List ℕ) = from_last_key chunks in
    let long = whole_length size bytes whole in
    let folds : from_last_key (chunks ++ bytes ∷ []) ≡ with_chunk run bytes = fold-append with_chunk [] chunks (bytes ∷ []) in
    let any = any_more chunks bytes in
    let all : last_picture size (chunks ++ bytes ∷ []) ≡ cond (list_any is_key chunks || is_key bytes) (Some (picture_of size (with_chunk run bytes))) None =
    ap (λ (b : Bool). cond b (Some (picture_of size (from_last_key (chunks ++ bytes ∷ [])))) None) any ∙ ap (λ (l : List (List ℕ)). cond (list_any is_key chunks || is_key bytes) (Some (picture_of size l)) None) folds in
    all ∙ by_kind (is_key bytes) (list_any is_key chunks) size run bytes small long
  where
    by_kind : (k b : Bool) (size : ℕ) (run : List (List ℕ)) (bytes : List ℕ) → (k ≡ true → AreBytes bytes) → length bytes ≡ 1 + size →
        cond (b || k) (Some (picture_of size (cond k (bytes ∷ []) (run ++ bytes ∷ [])))) None ≡ cond k (Some (drop 1 bytes)) (option_map (λ p. added p (drop 1 bytes)) (cond b (Some (picture_of size run)) None))
    by_kind true b size run bytes small long = ap (λ (c : Bool). cond c (Some (picture_of size (bytes ∷ []))) None) (or_true b) ∙ ap Some (key_alone size bytes (small refl) long)
    by_kind false b size run bytes small long = ap (λ (c : Bool). cond c (Some (picture_of size (run ++ bytes ∷ []))) None) (or_false b) ∙ delta_picture b size run bytes

-- a picture that a loop has added to
pub added_by : (old delta to : List ℕ) → length to ≡ length old → ((j : ℕ) → j < length old → get_or to j 0 ≡ (get_or old j 0 + get_or delta j 0) % 256) → to ≡ added old delta
added_by old delta to long each =
    let f : ℕ → ℕ = λ j. (get_or old j 0 + get_or delta j 0) % 256 in
    ext_get_or 0 to (map f (range_with_len 0 (length old))) (long ∙ sym (length-map-range_with_len f 0 (length old)))
    (λ j below. each j (omega (arith, below, long)) ∙ sym (get_or-map-range_with_len f 0 (length old) j j 0 (omega (arith, below, long)) (omega arith)))

-- and one that a loop has subtracted from
pub subtracted_by : (old last to : List ℕ) → length to ≡ length old → ((j : ℕ) → j < length old → get_or to j 0 ≡ (get_or old j 0 + 256 - get_or last j 0) % 256) → to ≡ less_bytes old last
subtracted_by old last to long each =
    let f : ℕ → ℕ = λ j. (get_or old j 0 + 256 - get_or last j 0) % 256 in
    ext_get_or 0 to (map f (range_with_len 0 (length old))) (long ∙ sym (length-map-range_with_len f 0 (length old)))
    (λ j below. each j (omega (arith, below, long)) ∙ sym (get_or-map-range_with_len f 0 (length old) j j 0 (omega (arith, below, long)) (omega arith)))
