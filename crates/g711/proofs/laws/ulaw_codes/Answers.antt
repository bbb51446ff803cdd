use Rattle.std.proofs.Common.{arith}
use Rattle.g711.proofs.{Codes.apart, Codes.cover, UlawCodes.ulaw, UlawCodes.ulaw_encodes, UlawCodes.ulaw_encodes_once, UlawCodes.ulaw_decodes_within, UlawCodes.ulaw_comes_back}
use Rattle.g711.proofs.laws.ulaw_codes.Goals as goal

pub returns : goal.returns
returns c = record {
  apart = apart ulaw;
  cover = λ negative k clipped. cover ulaw negative k (omega (arith, clipped));
  encodes = ulaw_encodes;
  encodes_once = ulaw_encodes_once;
  decodes_within = ulaw_decodes_within;
  comes_back = ulaw_comes_back;
}
