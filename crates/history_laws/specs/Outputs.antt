-- What a judge says of configs, inputs and outputs, where a codec's definition gives outputs that pass for configs and inputs
-- that pass.
use Rattle.std.proofs.Common.{◌≡◌, ◌*◌, Bool, true, false, cond, List, length, Option, Some, None, is_some, refl, subst}
use Rattle.std.specs.Prelude.{unwrap_or}
use Rattle.wc_base.specs.Options.{some_same}
use Rattle.std.specs.List.{AllByRecursion}
use Rattle.wc_base.specs.declared.error.DomError.{DomError}
use Rattle.wc_base.specs.declared.error.DomError.TheVariants as dom
use Rattle.wc_base.specs.declared.who.Who.{Who}
use Rattle.wc_config.specs.declared.codec.CoderId.{CoderId}
use Rattle.wc_config.specs.declared.config.Config.{Config}
use Rattle.wc_config.specs.declared.config.Config.TheVariants.{Bad}
use Rattle.wc_config.specs.declared.config.AudioDecoderConfig.{AudioDecoderConfig}
use Rattle.wc_config.specs.Configs.{is_valid, coder_id_of}
use Rattle.picture_planes.specs.Planes.{picture_size}
use Rattle.wc_chunk.specs.declared.chunk.Chunk.{Chunk}
use Rattle.codec_definitions.specs.declared.unit.Unit as media
use Rattle.codec_definitions.specs.declared.unit.Unit.TheVariants as unit
use Rattle.codec_definitions.specs.declared.command.Command.{Command}
use Rattle.codec_definitions.specs.declared.command.Command.TheVariants as command
use Rattle.codec_definitions.specs.Answers.{answer_after}
use Rattle.codec_definitions.specs.Pcm.{format_size}
use Rattle.codec_model.specs.declared.entry.Handed.TheVariants as handed
use Rattle.codec_model.specs.declared.entry.Entry.{Entry}
use Rattle.codec_model.specs.declared.entry.Entry.TheVariants as entry
use Rattle.codec_model.specs.declared.entry.Call.{Call}
use Rattle.codec_model.specs.declared.entry.Call.TheVariants as call
use Rattle.codec_model.specs.declared.entry.Work.{Work}
use Rattle.codec_model.specs.declared.entry.Work.TheVariants as work
use Rattle.codec_model.specs.Control.{Control}
use Rattle.codec_model.specs.Replay.{command_of, medium_command, decoder_config, call_error, message_of}

-- the decoder's config of a config that passes and has a coder
pub record IsLabel (passes : Config → Type 0) (d : AudioDecoderConfig) : Type 0 where
  pub config : Config
  pub passed : passes config
  pub has_coder : is_some (coder_id_of config) ≡ true
  pub decodes : decoder_config config ≡ Some d

-- what an encoded output can carry: nothing, or such a decoder's config
abbrev pub MayCarry : (Config → Type 0) → Option AudioDecoderConfig → Type 0
MayCarry passes None = Unit {0}
MayCarry passes (Some d) = IsLabel passes d

pub record Judge : Type 1 where
  pub config : Config → Type 0
  pub input : Command → Type 0
  pub output : media.Unit → Type 0
  pub nothing : config Bad
  pub drained : input command.Drain
  pub gives : (id : CoderId) (c : Config) (before : List Command) (x : Command) (us : List media.Unit) → config c → input x → answer_after id c before x ≡ Some us → AllByRecursion output us
  -- an encoded output passes with each config that it can carry
  pub relabel : (c : Chunk) (old new : Option AudioDecoderConfig) → MayCarry config new → output (unit.Coded c old) → output (unit.Coded c new)

-- what a message or an item asks for passes
abbrev pub IsOwnWork : (Config → Type 0) → (Command → Type 0) → Work → Type 0
IsOwnWork config input (work.Configure c) = config c
IsOwnWork config input (work.Coded x) = input (command_of x)
IsOwnWork config input work.Flush = Unit {0}

-- the config or input of an entry passes, where it has one; a config that is not valid is not looked at
abbrev pub IsOwnEntry : (Config → Type 0) → (Command → Type 0) → Entry → Type 0
IsOwnEntry config input (entry.Call who (call.Configure c)) = is_valid c ≡ true → config c
IsOwnEntry config input (entry.Call who (call.Decode c)) = input (command.Chunk c)
IsOwnEntry config input (entry.Call who (call.Encode (handed.Cloned x))) = input (medium_command x.shape x.bytes)
IsOwnEntry config input e = Unit {0}

abbrev pub HoldsOwn : Judge → Entry → Type 0
HoldsOwn k e = IsOwnEntry k.config k.input e

module _ (config : Config → Type 0) (input : Command → Type 0) where
  -- where all pass, all entries do
  pub all_own : ((c : Config) → config c) → ((x : Command) → input x) → (e : Entry) → IsOwnEntry config input e
  all_own configs inputs (entry.Call who (call.Configure c)) = λ valid. configs c
  all_own configs inputs (entry.Call who (call.Decode c)) = inputs (command.Chunk c)
  all_own configs inputs (entry.Call who (call.Encode (handed.Cloned x))) = inputs (medium_command x.shape x.bytes)
  all_own configs inputs e = tt

  -- what a call that is not refused asks for passes where its entry does
  pub own_call : (who : Who) (x : Call) (w : Work) (c : Control) → IsOwnEntry config input (entry.Call who x) → message_of x ≡ Some w → call_error x c ≡ None → IsOwnWork config input w
  own_call who x w c own m taken = subst (λ (v : Work). IsOwnWork config input v) (some_same (unwrap_or (message_of x) w) w (is_there (message_of x) m)) (by x m own taken)
    where
      is_there : (o : Option Work) → o ≡ Some w → Some (unwrap_or o w) ≡ Some w
      is_there None h = absurd cc
      is_there (Some v) h = h

      accepted_valid : (b : Bool) (o : Option DomError) → cond b o (Some dom.TypeErr) ≡ None → b ≡ true
      accepted_valid true o h = refl
      accepted_valid false o h = absurd cc

      by : (x : Call) → message_of x ≡ Some w → IsOwnEntry config input (entry.Call who x) → call_error x c ≡ None → IsOwnWork config input (unwrap_or (message_of x) w)
      by (call.Configure given) m own taken = own (accepted_valid (is_valid given) _ taken)
      by (call.Decode given) m own taken = own
      by (call.Encode (handed.Cloned given)) m own taken = own
      by call.Flush m own taken = tt
      by x m own taken = absurd cc

-- samples or a picture with as many bytes as their shape asks for
abbrev pub IsWholeUnit : media.Unit → Type 0
IsWholeUnit (unit.Sound s) = length s.bytes ≡ s.shape.frames * s.shape.channels * format_size s.shape.format
IsWholeUnit (unit.Image p) = length p.bytes ≡ picture_size p.shape
IsWholeUnit (unit.Coded chunk config) = Unit {0}
