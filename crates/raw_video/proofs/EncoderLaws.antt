-- What the encoder's commands give by the codec's definition.
use Rattle.std.proofs.Common.{ℕ, ◌≡◌, ◌<◌, ◌+◌, ◌%◌, ◌==◌, ◌||◌, ◌&&◌, Bool, true, false, cond, List, [], ◌∷◌, ◌++◌, length, length-append, refl, ap, sym, subst, ◌∙◌, arith}
use Rattle.std.specs.Prelude.{not, is_none, Option, Some, None, IfNone, Ok}
use Rattle.std.specs.List.{last_or}
use Rattle.std.proofs.Math.Nat.{mod-add-mod, mod-mod, mod-lt, mod-eq_of_lt, mod_self, zero-mod}
use Rattle.std.proofs.lemmas.Bool.{eqb-true, ne_eqb}
use Rattle.std.proofs.lemmas.List.Sums.{fold-append}
use Rattle.wc_base.specs.declared.media.Picture.{Picture}
use Rattle.wc_base.specs.declared.media.PictureFormat.{PictureFormat}
use Rattle.wc_base.specs.declared.media.PictureShape.{PictureShape}
use Rattle.picture_planes.specs.Planes.{picture_size}
use Rattle.wc_config.specs.declared.config.Config.{Config}
use Rattle.wc_config.specs.declared.config.Config.TheVariants as config
use Rattle.codec_definitions.specs.declared.unit.Unit as unit
use Rattle.codec_definitions.specs.declared.command.Command.{Command}
use Rattle.codec_definitions.specs.declared.command.Command.TheVariants as command
use Rattle.codec_definitions.specs.Answers.{answer_after}
use Rattle.codec_definitions.specs.RawVideoEncoder as coding
use Rattle.codec_definitions.specs.RawVideoEncoder.{pictures_since_drain, is_key_due, is_picture_taken, number_in, picture_chunks}
use Rattle.coder_api.specs.declared.coder.Input.{Input}
use Rattle.coder_api.specs.declared.coder.Input.TheVariants as input
use Rattle.coder_api.specs.Meaning.{CoderState, NothingKept, Configured, IsConfigured, IsAt, Takes, command_of, emptied, renewed, coded_kept, state_after}
use Rattle.raw_video.specs.declared.encoder.Setting.{Setting}
use Rattle.raw_video.specs.declared.encoder.Setting.TheVariants as setting
use Rattle.raw_video.specs.declared.encoder.Encoding.{Encoding}
use Rattle.raw_video.specs.Encoder.{encoder_id, meaning_of, IsCoding, is_key_next, units_next, answer_in, after, GivesUnits}

pub last_more : (o : Option (List ℕ)) (xs : List (List ℕ)) (x : List ℕ) → last_or o (xs ++ x ∷ []) ≡ Some x
last_more o [] x = refl
last_more o (y ∷ ys) x = last_more (Some y) ys x

pub last_there : (x : List ℕ) (xs : List (List ℕ)) → is_none (last_or (Some x) xs) ≡ false
last_there x [] = refl
last_there x (y ∷ ys) = last_there y ys

-- numbers modulo the key interval
number_zero : (b : Bool) (i : ℕ) → cond b 0 (0 % i) ≡ 0
number_zero true i = refl
number_zero false i = zero-mod i

number_next : (b : Bool) (i n : ℕ) → cond b 0 ((n + 1) % i) ≡ cond b 0 ((cond b 0 (n % i) + 1) % i)
number_next true i n = refl
number_next false i n = sym (mod-add-mod n i 1)

pub number_more : (i n : ℕ) → number_in i (n + 1) ≡ number_in i (number_in i n + 1)
number_more i n = number_next (i == 0) i n

number_test : (b : Bool) (i n : ℕ) → (not b && (n % i == 0)) ≡ (not b && (cond b 0 (n % i) == 0))
number_test true i n = refl
number_test false i n = refl

-- a chunk is a key chunk by what is kept where it is one by its number
key_same : (i : ℕ) (xs : List (List ℕ)) → is_key_due i (length xs) ≡ (is_none (last_or None xs) || (not (i == 0) && (number_in i (length xs) == 0)))
key_same i [] = refl
key_same i (x ∷ xs) =
    let some : (length (x ∷ xs) == 0) ≡ false = ne_eqb (length (x ∷ xs)) 0 (λ e. omega (arith, e)) in
    ap (λ (b : Bool). b || (not (i == 0) && (length (x ∷ xs) % i == 0))) some ∙ number_test (i == 0) i (length (x ∷ xs)) ∙ ap (λ (b : Bool). b || (not (i == 0) && (number_in i (length (x ∷ xs)) == 0))) (sym (last_there x xs))

kept_last : (a b : Option (List ℕ)) (n m : ℕ) → coded_kept a n ≡ coded_kept b m → a ≡ b
kept_last None None n m e = refl
kept_last (Some x) (Some y) n m e = cc
kept_last None (Some y) n m e = cc
kept_last (Some x) None n m e = cc

kept_next : (a : Option (List ℕ)) (n m : ℕ) → (a ≡ None → n ≡ 0) → (a ≡ None → m ≡ 0) → coded_kept a n ≡ coded_kept a m → n ≡ m
kept_next None n m f g e = f refl ∙ sym (g refl)
kept_next (Some x) n m f g e = cc

none_given : (i : ℕ) (xs : List (List ℕ)) → last_or None xs ≡ None → number_in i (length xs) ≡ 0
none_given i [] e = number_zero (i == 0) i
none_given i (x ∷ xs) e = absurd (let f : is_none (last_or (Some x) xs) ≡ true = ap is_none e in let g = last_there x xs in cc)

same_config : (a b : Config) (s t : CoderState) → Configured a s ≡ Configured b t → (a ≡ b) × (s ≡ t)
same_config a b s t e = let p : a ≡ b = cc in let q : s ≡ t = cc in (p, q)

emptied_kept : (o : Option (List ℕ)) (n : ℕ) → emptied (coded_kept o n) ≡ NothingKept
emptied_kept None n = refl
emptied_kept (Some p) n = refl

-- where the encoder stands: its config, the last picture and the number of the next
pub record Stands (e : Encoding) (c : Config) (before : List Command) : Type 0 where
  pub config : config.VideoEncoder e.config ≡ c
  pub last : e.last ≡ last_or None (pictures_since_drain before)
  pub next : e.next ≡ number_in e.config.key_interval (length (pictures_since_drain before))

none_first : (o : Option (List ℕ)) (n : ℕ) → IfNone o (n ≡ 0) → o ≡ None → n ≡ 0
none_first None n f e = f
none_first (Some x) n f e = cc

stands : (f : PictureFormat) (e : Encoding) (c : Config) (before : List Command) → IsCoding f (setting.Encoder e) → IsAt (encoder_id f) c before (meaning_of (setting.Encoder e)) → Stands e c before
stands f e c before coding at =
    let xs = pictures_since_drain before in
    let parts = same_config (config.VideoEncoder e.config) c (coded_kept e.last e.next) (state_after (encoder_id f) c before) at in
    let state : coded_kept e.last e.next ≡ coded_kept (last_or None xs) (number_in e.config.key_interval (length xs)) = parts.1 ∙ ap (λ (x : Config). state_after (encoder_id f) x before) (sym parts.0) in
    let last : e.last ≡ last_or None xs = kept_last e.last (last_or None xs) e.next (number_in e.config.key_interval (length xs)) state in
    let same : coded_kept e.last e.next ≡ coded_kept e.last (number_in e.config.key_interval (length xs)) = state ∙ ap (λ (o : Option (List ℕ)). coded_kept o (number_in e.config.key_interval (length xs))) (sym last) in
    record {
      config = parts.0;
      last = last;
      next = kept_next e.last e.next (number_in e.config.key_interval (length xs)) (none_first e.last e.next coding.3)
          (λ none. none_given e.config.key_interval xs (sym last ∙ none)) same;
    }

pub pictures_more : (before : List Command) (x : Command) → pictures_since_drain (before ++ x ∷ []) ≡ coding.with_picture (pictures_since_drain before) x
pictures_more before x = fold-append coding.with_picture [] before (x ∷ [])

-- the chunk of a picture by its number, and by what is kept
chunk_same : (e : Encoding) (picture : Picture) (xs : List (List ℕ)) → e.last ≡ last_or None xs → e.next ≡ number_in e.config.key_interval (length xs) →
    picture_chunks (Some e.shape) e.config.key_interval xs picture ≡ units_next e picture
chunk_same e picture xs last next =
    let key : is_key_due e.config.key_interval (length xs) ≡ is_key_next e = rw (last, next) (key_same e.config.key_interval xs) in
    rw (key, ← last) refl

pub same_answer : (f : PictureFormat) (e : Encoding) (picture : Picture) (c : Config) (before : List Command) → IsCoding f (setting.Encoder e) → Stands e c before → answer_after (encoder_id f) c before (command.Image picture) ≡ units_next e picture
same_answer f e picture c before coding s =
    ap (λ (x : Config). answer_after (encoder_id f) x before (command.Image picture)) (sym s.config)
    ∙ (ap (λ (o : Option PictureShape). picture_chunks o e.config.key_interval (pictures_since_drain before) picture) coding.0
    ∙ chunk_same e picture (pictures_since_drain before) s.last s.next)

length_more : (xs : List (List ℕ)) (x : List ℕ) → length (xs ++ x ∷ []) ≡ length xs + 1
length_more xs x = length-append xs (x ∷ [])

pub same_state : (f : PictureFormat) (e : Encoding) (picture : Picture) (c : Config) (before : List Command) → Stands e c before → IsAt (encoder_id f) c (before ++ command.Image picture ∷ []) (meaning_of (after (setting.Encoder e) (command.Image picture)))
same_state f e picture c before s =
    let xs = pictures_since_drain before in
    let i = e.config.key_interval in
    let more : pictures_since_drain (before ++ command.Image picture ∷ []) ≡ xs ++ picture.bytes ∷ [] = pictures_more before (command.Image picture) in
    let next : number_in i (e.next + 1) ≡ number_in i (length (xs ++ picture.bytes ∷ [])) =
    ap (λ (n : ℕ). number_in i (n + 1)) s.next ∙ (sym (number_more i (length xs)) ∙ ap (number_in i) (sym (length_more xs picture.bytes))) in
    let kept : coded_kept (Some picture.bytes) (number_in i (e.next + 1)) ≡ state_after (encoder_id f) (config.VideoEncoder e.config) (before ++ command.Image picture ∷ []) =
    ap (coded_kept (Some picture.bytes)) next
    ∙ (ap (λ (o : Option (List ℕ)). coded_kept o (number_in i (length (xs ++ picture.bytes ∷ [])))) (sym (last_more None xs picture.bytes))
    ∙ ap (λ (l : List (List ℕ)). coded_kept (last_or None l) (number_in i (length l))) (sym more)) in
    ap (Configured (config.VideoEncoder e.config)) kept ∙ ap (λ (x : Config). Configured x (state_after (encoder_id f) x (before ++ command.Image picture ∷ []))) s.config

-- one input, taken
pub encoder_takes : (f : PictureFormat) (s t : Setting) (i : Input) (old new : List unit.Unit) → IsCoding f s → IsConfigured (meaning_of s) → GivesUnits (answer_in s (command_of i)) (Ok t) old new → t ≡ after s (command_of i) → Takes (encoder_id f) (meaning_of s) (command_of i) (Ok tt) old new (meaning_of t)
encoder_takes f setting.Stopped t i old new coding ready (units, given, out) is = elim ready [ ]
encoder_takes f (setting.Encoder e) t (input.Image shape bytes) old new coding ready (units, given, out) is =
    let picture : Picture = record { shape = shape.now; bytes = bytes.now } in record {
      answer = λ c before at. (units, same_answer f e picture c before coding (stands f e c before coding at) ∙ given, out);
      goes = λ c before at. ap meaning_of is ∙ same_state f e picture c before (stands f e c before coding at);
      ready = subst (λ (x : Setting). IsConfigured (meaning_of x)) (sym is) tt;
    }
encoder_takes f (setting.Encoder e) t (input.Sound shape bytes) old new coding ready (units, given, out) is = cc
encoder_takes f (setting.Encoder e) t (input.Chunk chunk) old new coding ready (units, given, out) is = cc

-- a drain leaves the config, with no picture
pub drained_renewed : (s : Setting) → meaning_of (after s command.Drain) ≡ renewed (meaning_of s)
drained_renewed setting.Stopped = refl
drained_renewed (setting.Encoder e) = ap (Configured (config.VideoEncoder e.config)) (sym (emptied_kept e.last e.next))

-- the number of the first, and of one that is a number already
again : (b : Bool) (i n : ℕ) → cond b 0 (cond b 0 (n % i) % i) ≡ cond b 0 (n % i)
again true i n = refl
again false i n = mod-mod n i

pub number_none : (i : ℕ) → number_in i 0 ≡ 0
number_none i = number_zero (i == 0) i

pub number_again : (i n : ℕ) → number_in i (number_in i n) ≡ number_in i n
number_again i n = again (i == 0) i n

number_where : (b : Bool) (i n : ℕ) → (i == 0) ≡ b → 0 < i → cond b 0 (n % i) ≡ n → n < i
number_where true i n e some h = let none : i ≡ 0 = eqb-true i 0 e in omega (arith, none, some)
number_where false i n e some h = let below : n % i < i = mod-lt n some in omega (arith, h, below)

pub number_below : (i n : ℕ) → 0 < i → number_in i n ≡ n → n < i
number_below i n some h = number_where (i == 0) i n refl some h

next_where : (b : Bool) (i n : ℕ) → n + 1 < i → (i == 0) ≡ b → cond b 0 ((n + 1) % i) ≡ n + 1
next_where true i n less e = absurd (let none : i ≡ 0 = eqb-true i 0 e in omega (arith, none, less))
next_where false i n less e = mod-eq_of_lt less

pub number_rises : (i n : ℕ) → n + 1 < i → number_in i (n + 1) ≡ n + 1
number_rises i n less = next_where (i == 0) i n less refl

last_where : (b : Bool) (i : ℕ) → cond b 0 (i % i) ≡ 0
last_where true i = refl
last_where false i = mod_self i

pub number_ends : (i n : ℕ) → n + 1 ≡ i → number_in i (n + 1) ≡ 0
number_ends i n e = subst (λ (m : ℕ). number_in i m ≡ 0) (sym e) (last_where (i == 0) i)

-- a picture that is taken has as many bytes as its shape needs
size_of_four : (a b c : Bool) (n m : ℕ) → (a && b && c && (n == m)) ≡ true → n ≡ m
size_of_four true true true n m h = eqb-true n m h
size_of_four true true false n m h = cc
size_of_four true false c n m h = cc
size_of_four false b c n m h = cc

pub taken_size : (s : PictureShape) (p : Picture) → is_picture_taken s p ≡ true → length p.bytes ≡ picture_size s
taken_size s p h =
    size_of_four (coding.is_format s.format p.shape.format) (p.shape.width == s.width) (p.shape.height == s.height) (length p.bytes) (picture_size s) h
