-- What the decoder's commands give by the codec's definition.
use Rattle.std.proofs.Common.{ℕ, ◌≡◌, Bool, true, false, cond, List, [], ◌∷◌, ◌++◌, refl, ap, sym, subst, ◌∙◌}
use Rattle.std.specs.Prelude.{not, Option, Some, None, Ok}
use Rattle.std.proofs.lemmas.List.Sums.{fold-append}
use Rattle.wc_base.specs.declared.media.PictureFormat.{PictureFormat}
use Rattle.wc_base.specs.declared.media.PictureShape.{PictureShape}
use Rattle.picture_planes.specs.Planes.{picture_size}
use Rattle.wc_config.specs.declared.config.Config.{Config}
use Rattle.wc_config.specs.declared.config.Config.TheVariants as config
use Rattle.wc_chunk.specs.declared.chunk.Chunk.{Chunk}
use Rattle.codec_definitions.specs.declared.unit.Unit as unit
use Rattle.codec_definitions.specs.declared.command.Command.{Command}
use Rattle.codec_definitions.specs.declared.command.Command.TheVariants as command
use Rattle.codec_definitions.specs.Answers.{answer_after}
use Rattle.codec_definitions.specs.RawVideo.{raw_shape, with_command, chunks_since_drain, last_picture, is_whole_chunk, picture_unit, raw_units}
use Rattle.coder_api.specs.declared.coder.Input.{Input}
use Rattle.coder_api.specs.declared.coder.Input.TheVariants as input
use Rattle.coder_api.specs.Meaning.{CoderState, NothingKept, Configured, IsConfigured, IsAt, Takes, command_of, emptied, renewed, picture_kept, raw_state, state_after}
use Rattle.raw_video.specs.declared.coder.Setting.{Setting}
use Rattle.raw_video.specs.declared.coder.Setting.TheVariants as setting
use Rattle.raw_video.specs.declared.coder.Decoding.{Decoding}
use Rattle.raw_video.specs.Value.{codec_of, id_of, meaning_of, IsServed, AreBytes, AreBytesOf, picture_after, next_picture, unit_after, answer_in, after, GivesUnits}
use Rattle.raw_video.proofs.PictureLaws.{last_more}

kept_same : (a b : Option (List ℕ)) → picture_kept a ≡ picture_kept b → a ≡ b
kept_same None None e = refl
kept_same (Some x) (Some y) e = cc
kept_same None (Some y) e = cc
kept_same (Some x) None e = cc

picture_emptied : (o : Option (List ℕ)) → emptied (picture_kept o) ≡ NothingKept
picture_emptied None = refl
picture_emptied (Some p) = refl

same_config : (a b : Config) (s t : CoderState) → Configured a s ≡ Configured b t → (a ≡ b) × (s ≡ t)
same_config a b s t e = let p : a ≡ b = cc in let q : s ≡ t = cc in (p, q)

-- where the decoder stands: its config, and the picture after the chunks since the last drain
pub record Stands (f : PictureFormat) (d : Decoding) (c : Config) (before : List Command) : Type 0 where
  pub config : config.VideoDecoder d.config ≡ c
  pub last : d.last ≡ last_picture (picture_size d.shape) (chunks_since_drain before)

stands : (f : PictureFormat) (d : Decoding) (c : Config) (before : List Command) → raw_shape (codec_of f) d.config ≡ Some d.shape → IsAt (id_of f) c before (meaning_of (setting.Decoder d)) → Stands f d c before
stands f d c before served at =
    let parts = same_config (config.VideoDecoder d.config) c (picture_kept d.last) (state_after (id_of f) c before) at in
    record {
      config = parts.0;
      last = kept_same d.last (last_picture (picture_size d.shape) (chunks_since_drain before))
          (parts.1 ∙ (ap (λ (x : Config). state_after (id_of f) x before) (sym parts.0) ∙ ap (λ (o : Option PictureShape). raw_state o (chunks_since_drain before)) served));
    }

pub chunks_more : (before : List Command) (x : Command) → chunks_since_drain (before ++ x ∷ []) ≡ with_command (chunks_since_drain before) x
chunks_more before x = fold-append with_command [] before (x ∷ [])

whole_answer : (b : Bool) (shape : PictureShape) (chunk : Chunk) (o p : Option (List ℕ)) → (b ≡ true → o ≡ p) → cond (not b) None (picture_unit shape chunk o) ≡ picture_unit shape chunk (cond b p None)
whole_answer true shape chunk o p same = ap (picture_unit shape chunk) (same refl)
whole_answer false shape chunk o p same = refl

pub same_answer : (f : PictureFormat) (d : Decoding) (chunk : Chunk) (c : Config) (before : List Command) → IsServed f (setting.Decoder d) → AreBytes chunk.bytes → Stands f d c before → answer_after (id_of f) c before (command.Chunk chunk) ≡ unit_after d chunk
same_answer f d chunk c before served small s =
    let size : ℕ = picture_size d.shape in
    let chunks : List (List ℕ) = chunks_since_drain before in
    ap (λ (x : Config). answer_after (id_of f) x before (command.Chunk chunk)) (sym s.config)
    ∙ (ap (λ (o : Option PictureShape). raw_units o chunks chunk) served.0
    ∙ (whole_answer (is_whole_chunk size chunk.bytes) d.shape chunk (last_picture size (chunks ++ chunk.bytes ∷ [])) (picture_after d.last chunk.bytes) (λ whole. last_more size chunks chunk.bytes (λ key. small.each) whole ∙ ap (λ (o : Option (List ℕ)). picture_after o chunk.bytes) (sym s.last))
    ∙ ap (λ (n : ℕ). picture_unit d.shape chunk (next_picture n d.last chunk.bytes)) (sym served.1)))

some_whole : (b : Bool) (shape : PictureShape) (chunk : Chunk) (p : Option (List ℕ)) (units : List unit.Unit) → picture_unit shape chunk (cond b p None) ≡ Some units → b ≡ true
some_whole true shape chunk p units h = refl
some_whole false shape chunk p units h = cc

whole_next : (b : Bool) (p : Option (List ℕ)) → b ≡ true → cond b p None ≡ p
whole_next true p h = refl
whole_next false p h = cc

pub same_state : (f : PictureFormat) (d : Decoding) (chunk : Chunk) (c : Config) (before : List Command) (units : List unit.Unit) → IsServed f (setting.Decoder d) → AreBytes chunk.bytes → Stands f d c before → unit_after d chunk ≡ Some units → IsAt (id_of f) c (before ++ command.Chunk chunk ∷ []) (meaning_of (after (setting.Decoder d) (command.Chunk chunk)))
same_state f d chunk c before units served small s given =
    let size : ℕ = picture_size d.shape in
    let chunks : List (List ℕ) = chunks_since_drain before in
    let whole_d : is_whole_chunk d.size chunk.bytes ≡ true = some_whole (is_whole_chunk d.size chunk.bytes) d.shape chunk (picture_after d.last chunk.bytes) units given in
    let whole : is_whole_chunk size chunk.bytes ≡ true = ap (λ (n : ℕ). is_whole_chunk n chunk.bytes) (sym served.1) ∙ whole_d in
    let picture : next_picture d.size d.last chunk.bytes ≡ last_picture size (chunks ++ chunk.bytes ∷ []) =
    whole_next (is_whole_chunk d.size chunk.bytes) (picture_after d.last chunk.bytes) whole_d
    ∙ (ap (λ (o : Option (List ℕ)). picture_after o chunk.bytes) s.last ∙ sym (last_more size chunks chunk.bytes (λ key. small.each) whole)) in
    let kept : picture_kept (next_picture d.size d.last chunk.bytes) ≡ state_after (id_of f) (config.VideoDecoder d.config) (before ++ command.Chunk chunk ∷ []) =
    ap picture_kept picture
    ∙ (sym (ap (λ (l : List (List ℕ)). raw_state (Some d.shape) l) (chunks_more before (command.Chunk chunk)))
    ∙ sym (ap (λ (o : Option PictureShape). raw_state o (chunks_since_drain (before ++ command.Chunk chunk ∷ []))) served.0)) in
    ap (Configured (config.VideoDecoder d.config)) kept ∙ ap (λ (x : Config). Configured x (state_after (id_of f) x (before ++ command.Chunk chunk ∷ []))) s.config

-- one input, taken
pub takes_ok : (f : PictureFormat) (s t : Setting) (i : Input) (old new : List unit.Unit) → IsServed f s → AreBytesOf (command_of i) → IsConfigured (meaning_of s) → GivesUnits (answer_in s (command_of i)) (Ok t) old new → t ≡ after s (command_of i) → Takes (id_of f) (meaning_of s) (command_of i) (Ok tt) old new (meaning_of t)
takes_ok f setting.Stopped t i old new served small ready units is = elim ready [ ]
takes_ok f (setting.Decoder d) t (input.Chunk chunk) old new served small ready (units, given, out) is = record {
  answer = λ c before at. (units, same_answer f d chunk.now c before served small (stands f d c before served.0 at) ∙ given, out);
  goes = λ c before at. ap meaning_of is ∙ same_state f d chunk.now c before units served small (stands f d c before served.0 at) given;
  ready = subst (λ (x : Setting). IsConfigured (meaning_of x)) (sym is) tt;
}
takes_ok f (setting.Decoder d) t (input.Sound shape bytes) old new served small ready (units, given, out) is = cc
takes_ok f (setting.Decoder d) t (input.Image shape bytes) old new served small ready (units, given, out) is = cc

-- a drain leaves the config, with no picture
pub drained_renewed : (s : Setting) → meaning_of (after s command.Drain) ≡ renewed (meaning_of s)
drained_renewed setting.Stopped = refl
drained_renewed (setting.Decoder d) = ap (Configured (config.VideoDecoder d.config)) (sym (picture_emptied d.last))
