-- Pictures that are coded come back.
use Rattle.std.proofs.Common.{ℕ, zero, suc, ◌≡◌, ◌<◌, ◌+◌, ◌-◌, ◌%◌, ◌==◌, ◌||◌, ◌&&◌, Bool, true, false, cond, List, [], ◌∷◌, ◌++◌, length, map, get_or, refl, ap, sym, subst, ◌∙◌, lit<, arith}
use Rattle.std.specs.Prelude.{not, Option, Some, None, IfSome, unwrap_or}
use Rattle.std.specs.List.{All, last_or}
use Rattle.std.proofs.lemmas.Bool.{eqb-true, eq-eqb}
use Rattle.std.proofs.lemmas.List.{ext_get_or}
use Rattle.std.proofs.lemmas.List.Elements.{All-head, All-tail}
use Rattle.std.proofs.lemmas.List.FromFn.{length-map-range_with_len, get_or-map-range_with_len}
use Rattle.wc_base.specs.declared.media.Picture.{Picture}
use Rattle.wc_base.specs.declared.media.PictureFormat.{PictureFormat}
use Rattle.wc_base.specs.declared.media.PictureFormat.TheVariants as format
use Rattle.wc_base.specs.declared.media.PictureShape.{PictureShape}
use Rattle.picture_planes.specs.Planes.{picture_size}
use Rattle.wc_config.specs.declared.codec.CoderId.{CoderId}
use Rattle.wc_config.specs.declared.codec.CodecId.{CodecId}
use Rattle.wc_config.specs.declared.config.VideoDecoderConfig.{VideoDecoderConfig}
use Rattle.wc_config.specs.declared.config.VideoEncoderConfig.{VideoEncoderConfig}
use Rattle.wc_config.specs.declared.config.Config.{Config}
use Rattle.wc_config.specs.declared.config.Config.TheVariants as config
use Rattle.wc_chunk.specs.declared.chunk.Chunk.{Chunk}
use Rattle.codec_definitions.specs.declared.unit.Unit as unit
use Rattle.codec_definitions.specs.declared.unit.Unit.TheVariants as unit_of
use Rattle.codec_definitions.specs.declared.command.Command.{Command}
use Rattle.codec_definitions.specs.declared.command.Command.TheVariants as command
use Rattle.codec_definitions.specs.Answers.{answer_after, answers_from, until_refused, is_refused_in}
use Rattle.codec_definitions.specs.RawVideo.{raw_shape, chunks_since_drain, is_key, is_whole_chunk, last_picture, picture_unit, raw_units}
use Rattle.codec_definitions.specs.RawVideoEncoder.{coded_shape, coded_bytes, is_format, is_key_due, is_picture_taken, less_bytes, picture_chunks, pictures_since_drain}
use Rattle.raw_video.specs.Value.{AreBytes, added, picture_after}
use Rattle.raw_video.specs.Back.{PicturesComeBack, IsOfBytes, all_passed_on, comes_back, decodes, encodes}
use Rattle.raw_video.proofs.CoderLaws.{chunks_more}
use Rattle.raw_video.proofs.EncoderLaws.{last_more, last_there, pictures_more}
use Rattle.raw_video.proofs.PictureLaws.{last_more as last_picture_more}

-- ---- bytes

-- what a delta was taken from, with the delta added again
added_back : (picture last : List ℕ) → AreBytes picture → AreBytes last → length last ≡ length picture → added last (less_bytes picture last) ≡ picture
added_back picture last p l same =
    let sum : ℕ → ℕ = λ j. (get_or last j 0 + get_or (less_bytes picture last) j 0) % 256 in
    let less : ℕ → ℕ = λ j. (get_or picture j 0 + 256 - get_or last j 0) % 256 in
    let long = length-map-range_with_len sum 0 (length last) in
    ext_get_or 0 (added last (less_bytes picture last)) picture (long ∙ same)
    (λ j below.
    let within : j < length last = omega (arith, below, long) in
    let delta : get_or (less_bytes picture last) j 0 ≡ less j = get_or-map-range_with_len less 0 (length picture) j j 0 (omega (arith, within, same)) (omega arith) in
    let a : get_or picture j 0 < 256 = p.each j in
    let b : get_or last j 0 < 256 = l.each j in
    let back : (get_or last j 0 + get_or (less_bytes picture last) j 0) % 256 ≡ get_or picture j 0 = omega (arith, delta, a, b) in
    get_or-map-range_with_len sum 0 (length last) j j 0 within (omega arith) ∙ back)

longer : (x : ℕ) (xs : List ℕ) → length (x ∷ xs) ≡ 1 + length xs
longer x xs = omega arith

coded_length : (key : Bool) (last picture : List ℕ) → length (coded_bytes key last picture) ≡ 1 + length picture
coded_length true last picture = longer 0 picture
coded_length false last picture =
    longer 1 (less_bytes picture last) ∙ ap (λ (n : ℕ). 1 + n) (length-map-range_with_len (λ j. (get_or picture j 0 + 256 - get_or last j 0) % 256) 0 (length picture))

coded_kind : (key : Bool) (last picture : List ℕ) → (is_key (coded_bytes key last picture) || (get_or (coded_bytes key last picture) 0 0 == 1)) ≡ true
coded_kind true last picture = refl
coded_kind false last picture = refl

both : (a b : Bool) → a ≡ true → b ≡ true → (a && b) ≡ true
both a b e f = rw (e, f) refl

coded_whole : (key : Bool) (size : ℕ) (last picture : List ℕ) → length picture ≡ size → is_whole_chunk size (coded_bytes key last picture) ≡ true
coded_whole key size last picture long =
    let bytes = coded_bytes key last picture in
    both (length bytes == 1 + size) (is_key bytes || (get_or bytes 0 0 == 1)) (eq-eqb (length bytes) (1 + size) (coded_length key last picture ∙ ap (λ (n : ℕ). 1 + n) long)) (coded_kind key last picture)

-- a key chunk is made of bytes
key_bytes : (key : Bool) (last picture : List ℕ) → AreBytes picture → is_key (coded_bytes key last picture) ≡ true → (i : ℕ) → get_or (coded_bytes key last picture) i 0 < 256
key_bytes true last picture p e zero = lit< tt
key_bytes true last picture p e (suc i) = p.each i
key_bytes false last picture p e i = cc

picture_back : (key : Bool) (last : Option (List ℕ)) (picture : List ℕ) → (last ≡ None → key ≡ true) → IfSome last (λ l. AreBytes l × (length l ≡ length picture)) → AreBytes picture →
    picture_after last (coded_bytes key (unwrap_or last []) picture) ≡ Some picture
picture_back true last picture first whole p = refl
picture_back false None picture first whole p = let f : false ≡ true = first refl in cc
picture_back false (Some l) picture first whole p = ap Some (added_back picture l p whole.0 whole.1)

-- ---- pictures that are taken

four : (a b c d : Bool) → (a && b && c && d) ≡ true → (a ≡ true) × (b ≡ true) × (c ≡ true) × (d ≡ true)
four true true true true h = (refl, refl, refl, refl)
four true true true false h = cc
four true true false d h = cc
four true false c d h = cc
four false b c d h = cc

format_same : (a b : PictureFormat) → is_format a b ≡ true → a ≡ b
format_same format.I420 format.I420 h = refl
format_same format.I422 format.I422 h = refl
format_same format.I444 format.I444 h = refl
format_same format.Nv12 format.Nv12 h = refl
format_same a b h = cc

same_unit : (p : Picture) (f : PictureFormat) (w h : ℕ) → f ≡ p.shape.format → w ≡ p.shape.width → h ≡ p.shape.height →
    unit_of.Image (record { shape = record { format = f; width = w; height = h; timestamp = p.shape.timestamp; duration = p.shape.duration }; bytes = p.bytes }) ≡ unit_of.Image p
same_unit p f w h a b c = rw (a, b, c) refl

first_key : (i : ℕ) (xs : List (List ℕ)) → last_or None xs ≡ None → is_key_due i (length xs) ≡ true
first_key i [] e = refl
first_key i (x ∷ xs) e = let f = last_there x xs in cc

-- the chunk of a picture after others
abbrev chunk_of : ℕ → List (List ℕ) → Picture → Chunk
chunk_of i xs p =
    let key = is_key_due i (length xs) in
    record { key = key; timestamp = p.shape.timestamp; duration = p.shape.duration; bytes = coded_bytes key (unwrap_or (last_or None xs) []) p.bytes }

-- after these pictures and these chunks both keep the same picture, which is whole
record AgreeOn (size : ℕ) (pictures chunks : List (List ℕ)) : Type 0 where
  same : last_picture size chunks ≡ last_or None pictures
  whole : IfSome (last_or None pictures) (λ l. AreBytes l × (length l ≡ size))

-- what a picture's chunk is decoded to, and that both agree then
record Decodes (shape : PictureShape) (i : ℕ) (pictures chunks : List (List ℕ)) (p : Picture) : Type 0 where
  units : raw_units (Some shape) chunks (chunk_of i pictures p) ≡ Some (unit_of.Image p ∷ [])
  agree : AgreeOn (picture_size shape) (pictures ++ p.bytes ∷ []) (chunks ++ (chunk_of i pictures p).bytes ∷ [])

whole_as : (o : Option (List ℕ)) (n m : ℕ) → n ≡ m → IfSome o (λ l. AreBytes l × (length l ≡ n)) → IfSome o (λ l. AreBytes l × (length l ≡ m))
whole_as o n m e h = subst (λ (k : ℕ). IfSome o (λ l. AreBytes l × (length l ≡ k))) e h

decoded : (shape : PictureShape) (i : ℕ) (pictures chunks : List (List ℕ)) (p : Picture) → is_picture_taken shape p ≡ true → AreBytes p.bytes → AgreeOn (picture_size shape) pictures chunks → Decodes shape i pictures chunks p
decoded shape i pictures chunks p taken small a =
    let size = picture_size shape in
    let ch : Chunk = chunk_of i pictures p in
    let key = is_key_due i (length pictures) in
    let last : List ℕ = unwrap_or (last_or None pictures) [] in
    let parts = four (is_format shape.format p.shape.format) (p.shape.width == shape.width) (p.shape.height == shape.height) (length p.bytes == size) taken in
    let long : length p.bytes ≡ size = eqb-true (length p.bytes) size parts.3 in
    let whole : is_whole_chunk size ch.bytes ≡ true = coded_whole key size last p.bytes long in
    let back : picture_after (last_or None pictures) ch.bytes ≡ Some p.bytes =
    picture_back key (last_or None pictures) p.bytes (first_key i pictures) (whole_as (last_or None pictures) size (length p.bytes) (sym long) a.whole) small in
    let picture : last_picture size (chunks ++ ch.bytes ∷ []) ≡ Some p.bytes =
    last_picture_more size chunks ch.bytes (key_bytes key last p.bytes small) whole ∙ (ap (λ (o : Option (List ℕ)). picture_after o ch.bytes) a.same ∙ back) in
    let unit : picture_unit shape ch (Some p.bytes) ≡ Some (unit_of.Image p ∷ []) =
    ap (λ (u : unit.Unit). Some (u ∷ []))
    (same_unit p shape.format shape.width shape.height (format_same shape.format p.shape.format parts.0) (sym (eqb-true p.shape.width shape.width parts.1)) (sym (eqb-true p.shape.height shape.height parts.2))) in
    record {
      units = ap (λ (b : Bool). cond (not b) None (picture_unit shape ch (last_picture size (chunks ++ ch.bytes ∷ [])))) whole ∙ (ap (picture_unit shape ch) picture ∙ unit);
      agree = record {
        same = picture ∙ sym (last_more None pictures p.bytes);
        whole = subst (λ (o : Option (List ℕ)). IfSome o (λ l. AreBytes l × (length l ≡ size))) (sym (last_more None pictures p.bytes)) (small, long);
      };
    }

-- ---- all commands

abbrev Agree : Option PictureShape → List Command → List Command → Type 0
Agree o before given = IfSome o (λ shape. AgreeOn (picture_size shape) (pictures_since_drain before) (chunks_since_drain given))

none_agree : (o : Option PictureShape) → Agree o [] []
none_agree None = tt
none_agree (Some shape) = record { same = refl; whole = tt }

drained_agree : (o : Option PictureShape) (before given : List Command) → Agree o (before ++ command.Drain ∷ []) (given ++ command.Drain ∷ [])
drained_agree None before given = tt
drained_agree (Some shape) before given =
    let size = picture_size shape in
    subst (λ (ps : List (List ℕ)). AgreeOn size ps (chunks_since_drain (given ++ command.Drain ∷ []))) (sym (pictures_more before command.Drain))
    (subst (λ (cs : List (List ℕ)). AgreeOn size [] cs) (sym (chunks_more given command.Drain)) (record { same = refl; whole = tt }))

-- what is taken where nothing is refused
record IsTaken (o : Option PictureShape) (p : Picture) : Type 0 where
  shape : PictureShape
  there : o ≡ Some shape
  taken : is_picture_taken shape p ≡ true

taken_test : (b : Bool) (units : List unit.Unit) (rest : List (Option (List unit.Unit))) → is_refused_in (until_refused (cond b (Some units) None) rest) ≡ false → b ≡ true
taken_test true units rest h = refl
taken_test false units rest h = cc

is_taken : (o : Option PictureShape) (i : ℕ) (xs : List (List ℕ)) (p : Picture) (rest : List (Option (List unit.Unit))) → is_refused_in (until_refused (picture_chunks o i xs p) rest) ≡ false → IsTaken o p
is_taken None i xs p rest h = cc
is_taken (Some shape) i xs p rest h = record { shape = shape; there = refl; taken = taken_test (is_picture_taken shape p) (unit_of.Coded (chunk_of i xs p) None ∷ []) rest h }

gives_chunk : (o : Option PictureShape) (i : ℕ) (xs : List (List ℕ)) (p : Picture) → IsTaken o p → picture_chunks o i xs p ≡ Some (unit_of.Coded (chunk_of i xs p) None ∷ [])
gives_chunk o i xs p t =
    ap (λ (q : Option PictureShape). picture_chunks q i xs p) t.there ∙ ap (λ (b : Bool). cond b (Some (unit_of.Coded (chunk_of i xs p) None ∷ [])) None) t.taken

-- one picture, of whose chunk the decoder gives the picture, and those behind it
one_more : (id : CoderId) (c : Config) (given : List Command) (p : Picture) (xs : List Command) (a : Option (List unit.Unit)) (rest : List (Option (List unit.Unit))) (ch : Chunk) →
    a ≡ Some (unit_of.Coded ch None ∷ []) → answer_after id c given (command.Chunk ch) ≡ Some (unit_of.Image p ∷ []) → answers_from id c (given ++ command.Chunk ch ∷ []) (all_passed_on xs rest) ≡ map comes_back xs →
    answers_from id c given (all_passed_on (command.Image p ∷ xs) (until_refused a rest)) ≡ map comes_back (command.Image p ∷ xs)
one_more id c given p xs a rest ch e f later =
    ap (λ (x : Option (List unit.Unit)). answers_from id c given (all_passed_on (command.Image p ∷ xs) (until_refused x rest))) e
    ∙ (ap (λ (x : Option (List unit.Unit)). until_refused x (answers_from id c (given ++ command.Chunk ch ∷ []) (all_passed_on xs rest))) f
    ∙ ap (λ (l : List (Option (List unit.Unit))). Some (unit_of.Image p ∷ []) ∷ l) later)

rest_taken : (a : Option (List unit.Unit)) (units : List unit.Unit) (rest : List (Option (List unit.Unit))) → a ≡ Some units → is_refused_in (until_refused a rest) ≡ false → is_refused_in rest ≡ false
rest_taken a units rest e h = subst (λ (x : Option (List unit.Unit)). is_refused_in (until_refused x rest) ≡ false) e h

-- a picture's chunk, decoded after what was given, where both agree
record GoesOn (o : Option PictureShape) (i : ℕ) (before given : List Command) (p : Picture) : Type 0 where
  units : raw_units o (chunks_since_drain given) (chunk_of i (pictures_since_drain before) p) ≡ Some (unit_of.Image p ∷ [])
  agree : Agree o (before ++ command.Image p ∷ []) (given ++ command.Chunk (chunk_of i (pictures_since_drain before) p) ∷ [])

goes_on : (o : Option PictureShape) (i : ℕ) (before given : List Command) (p : Picture) → IsTaken o p → AreBytes p.bytes → Agree o before given → GoesOn o i before given p
goes_on None i before given p t small a = let none : None ≡ Some t.shape = t.there in cc
goes_on (Some shape) i before given p t small a =
    let xs = pictures_since_drain before in
    let chunks = chunks_since_drain given in
    let ch : Chunk = chunk_of i xs p in
    let same : shape ≡ t.shape = let e = t.there in cc in
    let taken : is_picture_taken shape p ≡ true = ap (λ (s : PictureShape). is_picture_taken s p) same ∙ t.taken in
    let d : Decodes shape i xs chunks p = decoded shape i xs chunks p taken small a in
    record {
      units = d.units;
      agree = subst (λ (ps : List (List ℕ)). AgreeOn (picture_size shape) ps (chunks_since_drain (given ++ command.Chunk ch ∷ []))) (sym (pictures_more before (command.Image p)))
          (subst (λ (cs : List (List ℕ)). AgreeOn (picture_size shape) (xs ++ p.bytes ∷ []) cs) (sym (chunks_more given (command.Chunk ch))) d.agree);
    }

not_refused : true ≡ false → ⊥
not_refused e = cc

all_back : (k : CodecId) (c : VideoEncoderConfig) (d : VideoDecoderConfig) → raw_shape k d ≡ coded_shape k c → (commands before given : List Command) → Agree (coded_shape k c) before given → All IsOfBytes commands →
    is_refused_in (answers_from (encodes k) (config.VideoEncoder c) before commands) ≡ false →
    answers_from (decodes k) (config.VideoDecoder d) given (all_passed_on commands (answers_from (encodes k) (config.VideoEncoder c) before commands)) ≡ map comes_back commands
all_back k c d same [] before given agree small ok = refl
all_back k c d same (command.Image p ∷ xs) before given agree small ok =
    let ps = pictures_since_drain before in
    let i = c.key_interval in
    let ch : Chunk = chunk_of i ps p in
    let a : Option (List unit.Unit) = picture_chunks (coded_shape k c) i ps p in
    let rest : List (Option (List unit.Unit)) = answers_from (encodes k) (config.VideoEncoder c) (before ++ command.Image p ∷ []) xs in
    let t : IsTaken (coded_shape k c) p = is_taken (coded_shape k c) i ps p rest ok in
    let e : a ≡ Some (unit_of.Coded ch None ∷ []) = gives_chunk (coded_shape k c) i ps p t in
    let g : GoesOn (coded_shape k c) i before given p = goes_on (coded_shape k c) i before given p t (All-head IsOfBytes (command.Image p) xs small) agree in
    let f : raw_units (raw_shape k d) (chunks_since_drain given) ch ≡ Some (unit_of.Image p ∷ []) = ap (λ (o : Option PictureShape). raw_units o (chunks_since_drain given) ch) same ∙ g.units in
    one_more (decodes k) (config.VideoDecoder d) given p xs a rest ch e f
    (all_back k c d same xs (before ++ command.Image p ∷ []) (given ++ command.Chunk ch ∷ []) g.agree (All-tail IsOfBytes (command.Image p) xs small) (rest_taken a (unit_of.Coded ch None ∷ []) rest e ok))
all_back k c d same (command.Drain ∷ xs) before given agree small ok =
    ap (λ (l : List (Option (List unit.Unit))). Some [] ∷ l)
    (all_back k c d same xs (before ++ command.Drain ∷ []) (given ++ command.Drain ∷ []) (drained_agree (coded_shape k c) before given) (All-tail IsOfBytes command.Drain xs small) ok)
all_back k c d same (command.Chunk ch ∷ xs) before given agree small ok = absurd (not_refused ok)
all_back k c d same (command.Sound s ∷ xs) before given agree small ok = absurd (not_refused ok)

pub come_back : PicturesComeBack
come_back k c d commands width height small ok =
    let same : raw_shape k d ≡ coded_shape k c = rw (width, height) refl in
    all_back k c d same commands [] [] (none_agree (coded_shape k c)) small ok
