use Rattle.std.proofs.Common.{sym}
use Rattle.g711.proofs.{Codes.apart, Codes.cover, AlawCodes.alaw, AlawCodes.alaw_encodes, AlawCodes.alaw_encodes_once, AlawCodes.own_code}
use Rattle.codec_definitions.specs.G711.{alaw_value}
use Rattle.g711.proofs.laws.alaw_codes.Goals as goal

pub returns : goal.returns
returns c = record {
  apart = apart alaw;
  cover = cover alaw;
  encodes = alaw_encodes;
  encodes_once = alaw_encodes_once;
  decodes_within = λ code byte. (own_code code byte).interval;
  comes_back = λ code byte. sym (alaw_encodes_once (alaw_value code) code (own_code code byte));
}
