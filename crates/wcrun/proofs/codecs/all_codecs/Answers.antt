use Rattle.std.proofs.Common.{rules, Contains, ◌≡◌, ℕ, ◌<◌, List, [], ◌∷◌}
use Rattle.wc_config.specs.declared.codec.CodecId.{CodecId}
use Rattle.wcrun.proofs.codecs.all_codecs.Goals as goal

-- where each codec stands
every : (c : CodecId) → Contains (CodecId.PcmU8 ∷ CodecId.PcmS16 ∷ CodecId.PcmS24 ∷ CodecId.PcmS32 ∷ CodecId.Alaw ∷ CodecId.Ulaw ∷ CodecId.Flac ∷ CodecId.RawI420 ∷ CodecId.RawI422 ∷ CodecId.RawI444 ∷ CodecId.RawNv12 ∷ []) c
every CodecId.PcmU8 = (0, search rules, search rules)
every CodecId.PcmS16 = (1, search rules, search rules)
every CodecId.PcmS24 = (2, search rules, search rules)
every CodecId.PcmS32 = (3, search rules, search rules)
every CodecId.Alaw = (4, search rules, search rules)
every CodecId.Ulaw = (5, search rules, search rules)
every CodecId.Flac = (6, search rules, search rules)
every CodecId.RawI420 = (7, search rules, search rules)
every CodecId.RawI422 = (8, search rules, search rules)
every CodecId.RawI444 = (9, search rules, search rules)
every CodecId.RawNv12 = (10, search rules, search rules)

-- src/codecs.rt
pub returns : goal.returns
returns c = record { every = every }
