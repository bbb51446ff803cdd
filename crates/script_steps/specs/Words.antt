-- What the word of a step means, and the inline data that comes with it.
use Rattle.std.specs.Prelude.{ℕ, List, length, bytes_eq, codes, if◌then◌else◌, Option, Some, None, option_and_then, option_map}
use Rattle.serde_json.specs.Data.{Data}
use Rattle.script_steps.specs.Members.{text_in}
use Rattle.script_steps.specs.Media.{data_of_init, data_of_step}
use Rattle.script_steps.specs.declared.words.StepWord.{StepWord}
use Rattle.script_steps.specs.declared.words.StepWord.TheVariants as word
use Rattle.script_steps.specs.declared.words.MediaWord.{MediaWord}
use Rattle.script_steps.specs.declared.words.MediaWord.TheVariants as medium

abbrev pub media_word_of : List ℕ → Option MediaWord
media_word_of text =
    if bytes_eq text (codes "audio") then Some medium.Audio
    else if bytes_eq text (codes "frame") then Some medium.Frame
    else if bytes_eq text (codes "buffer") then Some medium.Buffer
    else if bytes_eq text (codes "encode") then Some medium.Encode
    else if bytes_eq text (codes "take") then Some medium.Take
    else if bytes_eq text (codes "clone") then Some medium.Clone
    else if bytes_eq text (codes "transfer") then Some medium.Transfer
    else if bytes_eq text (codes "close-data") then Some medium.CloseData
    else if bytes_eq text (codes "copy") then Some medium.Copy
    else if bytes_eq text (codes "size") then Some medium.Size
    else if bytes_eq text (codes "post") then Some medium.Post
    else if bytes_eq text (codes "receive") then Some medium.Receive
    else None

abbrev pub word_of : List ℕ → Option StepWord
word_of text =
    if bytes_eq text (codes "configure") then Some word.Configure
    else if bytes_eq text (codes "chunk") then Some word.Chunk
    else if bytes_eq text (codes "decode") then Some word.Decode
    else if bytes_eq text (codes "flush") then Some word.Flush
    else if bytes_eq text (codes "poll") then Some word.Poll
    else if bytes_eq text (codes "await") then Some word.Await
    else if bytes_eq text (codes "reset") then Some word.Reset
    else if bytes_eq text (codes "close") then Some word.Close
    else if bytes_eq text (codes "state") then Some word.State
    else if bytes_eq text (codes "ground") then Some word.Ground
    else option_map (λ m. word.Media m) (media_word_of text)

abbrev pub word_in : Data → Option StepWord
word_in d = option_and_then word_of (text_in (codes "do") d)

-- chunks, audio data and frames that are made bring data with them, and buffers have data of their own
abbrev pub data_of_word : Option StepWord → Data → Option (List ℕ)
data_of_word (Some word.Chunk) d = data_of_step d
data_of_word (Some (word.Media medium.Audio)) d = data_of_step d
data_of_word (Some (word.Media medium.Frame)) d = data_of_step d
data_of_word (Some (word.Media medium.Buffer)) d = data_of_init d
data_of_word _ d = None

-- the bytes of a step's inline data, where it is hex text
abbrev pub inline_data : Data → Option (List ℕ)
inline_data d = data_of_word (word_in d) d

abbrev pub byte_count : Option (List ℕ) → ℕ
byte_count None = 0
byte_count (Some bytes) = length bytes
