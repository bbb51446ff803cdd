-- The outputs of a history are of its codec's kind, where its configs are.
use Rattle.std.proofs.Common.{ℕ, ◌≡◌, ◌<◌, true, List, [], ◌∷◌, length, Option, Some, None, is_some, arith}
use Rattle.std.proofs.lemmas.Bool.{leb-true}
use Rattle.std.specs.List.{AllByRecursion}
use Rattle.wc_base.specs.{declared.media.Samples.Samples}
use Rattle.wc_config.specs.declared.{codec.Role.Role, config.AudioDecoderConfig.AudioDecoderConfig, config.AudioEncoderConfig.AudioEncoderConfig}
use Rattle.wc_config.specs.declared.{config.Config.Config, stream_info.StreamInfo.StreamInfo, kind.Kind.Kind}
use Rattle.wc_config.specs.Configs.{is_valid, audio_codec, id_with, coder_id_of}
use Rattle.wc_chunk.specs.declared.chunk.Chunk.{Chunk}
use Rattle.codec_definitions.specs.declared.unit.Unit as media
use Rattle.codec_definitions.specs.declared.unit.Unit.TheVariants as unit
use Rattle.codec_definitions.specs.{Flac.described, FlacCode.stream_description}
use Rattle.codec_definitions.specs.RawVideoEncoder.{picture_chunk, pictures_since_drain}
use Rattle.coder_api.specs.Meaning.{description_for}
use Rattle.codec_model.specs.{declared.entry.Handed.Handed, declared.entry.Call.Call, declared.entry.Entry.Entry, declared.entry.Shown.Shown, Replay.decoder_config}
use Rattle.codec_model.specs.Shown.{units_in, each_shown, units_shown}
use Rattle.history_laws.specs.UnitLaws.{decoded_sound, coded_chunk, picture_given, EachAnswer, by_answers}
use Rattle.history_laws.specs.{BlockLaws.answers_blocks, BlockLaws.blocks_where, OutputLaws.all_append, OutputLaws.outputs_are}
use Rattle.history_laws.specs.Outputs.{MayCarry, Judge, HoldsOwn}
use Rattle.history_laws.specs.StreamLaws.{length-stream_description, described_where}
use Rattle.codec_follow.specs.Outputs.{is_codec_string, IsPlainDescription, IsPlainConfig, IsOutputOf, IsConfigOf, ConfiguresAs}
use Rattle.codec_follow.specs.Laws.{OutputsAreOfKind}

-- ---- what a codec's definition answers

abbrev AllOf : Kind → List media.Unit → Type 0
AllOf k us = AllByRecursion (IsOutputOf k) us

-- a config that a codec of this kind was given, if it was given one
abbrev IsOwn : Kind → Config → Type 0
IsOwn Kind.AudioDecoder (Config.AudioDecoder c) = 0 < c.rate
IsOwn k c = IsConfigOf k c

-- a stream that is described has a rate
described_rate : (d : Option (List ℕ)) (info : StreamInfo) → described d ≡ Some info → 0 < info.rate
described_rate d info h = grind (arith, leb-true, h)

-- what a codec gives is of its kind, where its config is
sound_own : (k : Kind) (c : AudioDecoderConfig) (samples : Samples) → IsOwn k (Config.AudioDecoder c) → (0 < c.rate → 0 < samples.shape.rate) → IsOutputOf k (unit.Sound samples)
sound_own k c samples own rate = grind (arith, own, rate)

chunk_own : (k : Kind) (c : AudioEncoderConfig) (chunk : Chunk) → IsOwn k (Config.AudioEncoder c) → IsOutputOf k (unit.Coded chunk None)
chunk_own k c chunk own = grind (arith, own)

each_own : (k : Kind) → EachAnswer (λ c before x us. IsOwn k c → AllOf k us)
each_own k = record {
  nothing = λ c before x own. tt;
  samples = λ id s c before chunk is fine own. (sound_own k c (decoded_sound s c chunk) own (λ rate. rate), tt);
  frame = λ info c before chunk f says is own. (sound_own k c _ own (λ rate. described_rate c.description info says), tt);
  chunk = λ id s c before samples is own. (chunk_own k c (coded_chunk s samples) own, tt);
  blocks = λ c before x us h own. blocks_where (IsOutputOf k) c (λ number values place few. chunk_own k c _ own) us (answers_blocks c before x us h);
  picture = λ id c shape before chunk bytes is last own. (elim k as (λ j. IsOwn j (Config.VideoDecoder c) → IsOutputOf j (unit.Image (picture_given shape chunk bytes))) [ Kind.VideoDecoder ↦ λ h. h | _ ↦ λ h. absurd h ] own, tt);
  coded = λ id c shape before picture is taken own. (elim k as (λ j. IsOwn j (Config.VideoEncoder c) → IsOutputOf j (picture_chunk c.key_interval (pictures_since_drain before) picture)) [ Kind.VideoEncoder ↦ λ h. h | _ ↦ λ h. absurd h ] own, tt);
}

-- ---- a config that is valid and of the codec's kind

own_config : (k : Kind) (c : Config) → IsConfigOf k c → is_valid c ≡ true → IsOwn k c
own_config k c own h = grind (arith, leb-true, own, h)

-- ---- the config that an encoded output carries

known_text : (text : List ℕ) → is_some (id_with Role.Encode (audio_codec text)) ≡ true → is_codec_string text ≡ true
known_text text h = grind (arith, h)

plain_description : (c : AudioEncoderConfig) → IsPlainDescription (description_for c)
plain_description c = described_where IsPlainDescription c tt (elim (stream_description c) as (λ l. length l ≡ 42 → IsPlainDescription (Some l)) [ [] ↦ λ long. absurd cc | b ∷ bs ↦ λ long. tt ] (length-stream_description c))

plain_label : (c : Config) (d : AudioDecoderConfig) → is_some (coder_id_of c) ≡ true → decoder_config c ≡ Some d → IsPlainConfig (Some d)
plain_label c d coder is = grind (arith, known_text, plain_description, coder, is)

-- what a video encoder codes by carries no config
no_label : (c : Config) (d : AudioDecoderConfig) → IsOwn Kind.VideoEncoder c → decoder_config c ≡ Some d → ⊥
no_label (Config.VideoEncoder c) d own is = cc
no_label Config.Bad d own is = cc
no_label (Config.AudioDecoder c) d own is = own
no_label (Config.AudioEncoder c) d own is = own
no_label (Config.VideoDecoder c) d own is = own

relabelled : (k : Kind) (c : Chunk) (old new : Option AudioDecoderConfig) → MayCarry (IsOwn k) new → IsOutputOf k (unit.Coded c old) → IsOutputOf k (unit.Coded c new)
relabelled Kind.AudioEncoder c old None may h = tt
relabelled Kind.AudioEncoder c old (Some d) may h = plain_label may.config d may.has_coder may.decodes
relabelled Kind.VideoEncoder c old None may h = tt
relabelled Kind.VideoEncoder c old (Some d) may h = no_label may.config d may.passed may.decodes
relabelled Kind.AudioDecoder c old new may h = h
relabelled Kind.VideoDecoder c old new may h = h

-- the outputs of a codec of this kind
abbrev judge_of : Kind → Judge
judge_of k = record {
  config = IsOwn k;
  input = λ x. Unit {0};
  output = IsOutputOf k;
  nothing = elim k as (λ j. IsOwn j Config.Bad) [ Kind.AudioDecoder ↦ tt | _ ↦ tt ];
  drained = tt;
  gives = λ id c before x us own input h. by_answers (λ d b y vs. IsOwn k d → AllOf k vs) (each_own k) id c before x us h own;
  relabel = relabelled k;
}

entries_own : (k : Kind) (es : List Entry) → AllByRecursion (ConfiguresAs k) es → AllByRecursion (HoldsOwn (judge_of k)) es
entries_own k [] own = tt
entries_own k (Entry.Call who (Call.Configure c) ∷ es) own = (own_config k c own.0, entries_own k es own.1)
entries_own k (Entry.Call who (Call.Encode (Handed.Cloned medium)) ∷ es) own = (tt, entries_own k es own.1)
entries_own k (e ∷ es) own = (tt, entries_own k es own.1)

units_own : (k : Kind) (xs : List Shown) → AllByRecursion (λ x. AllOf k (units_in x.events)) xs → AllOf k (units_shown xs)
units_own k [] h = tt
units_own k (x ∷ xs) h = all_append (IsOutputOf k) (units_in x.events) (units_shown xs) h.0 (units_own k xs h.1)

pub outputs_of_kind : OutputsAreOfKind
outputs_of_kind o h own = units_own o.kind (each_shown o h) (outputs_are (judge_of o.kind) o h (entries_own o.kind h own))
