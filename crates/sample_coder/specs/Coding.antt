-- The codecs that code each sample by itself, as their coder is told which of them it is.
use Rattle.wc_base.specs.declared.media.SampleFormat.{SampleFormat}
use Rattle.wc_base.specs.declared.media.SampleFormat.TheVariants as format
use Rattle.wc_config.specs.declared.codec.CodecId.{CodecId}
use Rattle.wc_config.specs.declared.codec.CodecId.TheVariants as codec
use Rattle.codec_definitions.specs.SampleCodecs.{SampleCodec, pcm}
use Rattle.sample_conversion.specs.declared.size.SampleSize.{SampleSize}
use Rattle.sample_conversion.specs.declared.size.SampleSize.TheVariants as size
use Rattle.sample_conversion.specs.Sizes.{size_of}
use Rattle.g711.specs.declared.law.Law.TheVariants as laws
use Rattle.g711.specs.Slices.{codec_of}
use Rattle.sample_coder.specs.declared.coding.Coding.{Coding}
use Rattle.sample_coder.specs.declared.coding.Coding.TheVariants as coding

-- the format in which linear PCM is decoded
abbrev pub format_of : SampleSize → SampleFormat
format_of size.One = format.U8
format_of size.Two = format.S16
format_of size.Three = format.S32
format_of size.Four = format.S32

-- its codec
abbrev pub id_of : Coding → CodecId
id_of (coding.Pcm size.One) = codec.PcmU8
id_of (coding.Pcm size.Two) = codec.PcmS16
id_of (coding.Pcm size.Three) = codec.PcmS24
id_of (coding.Pcm size.Four) = codec.PcmS32
id_of (coding.G711 laws.Alaw) = codec.Alaw
id_of (coding.G711 laws.Ulaw) = codec.Ulaw

-- that codec's definition
abbrev pub definition : Coding → SampleCodec
definition (coding.Pcm s) = pcm (size_of s) (format_of s)
definition (coding.G711 l) = codec_of l
