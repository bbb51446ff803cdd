-- The members of the objects in a script. What is wrong with one is a fault of shape, unless a rule of WebIDL covers it:
-- a required member of a dictionary that is missing, a number outside its type and an unknown word of an enumeration
-- give no value (W3C WebIDL, conversion to dictionaries), and are no fault of the script.
use Rattle.std.specs.Prelude.{ℕ, ℤ, pos, neg_ℤ, ◌-◌, ◌^◌, ◌&&◌, ◌||◌, nat_lt, int_le, Bool, true, false, List, if◌then◌else◌, Option, Some, None, option_and_then, option_map, is_some, Result, Ok, Err}
use Rattle.serde_json.specs.Data.{Data, Items}
use Rattle.serde_json.specs.Find.{get, as_str, as_number, as_u64, as_i64, as_array, as_object}
use Rattle.hex.specs.Hex.{decode_of}
use Rattle.hex.specs.declared.error.FromHexError.{FromHexError}
use Rattle.script_types.specs.Names.{is_name}
use Rattle.chunk_files.specs.declared.fault.Stop.{Stop}
use Rattle.script_types.specs.declared.fault.Wrong.{Wrong}
use Rattle.chunk_files.specs.declared.fault.Stop.TheVariants as stop
use Rattle.script_types.specs.declared.fault.Wrong.TheVariants as wrong

-- the first fault alone decides
abbrev pub and_then : {A B : Type 0} → Result A (Stop Wrong) → (A → Result B (Stop Wrong)) → Result B (Stop Wrong)
and_then (Err e) f = Err e
and_then (Ok a) f = f a

-- what has to be there
abbrev pub needed : {A : Type 0} → Option A → Result A (Stop Wrong)
needed None = Err (stop.Fault wrong.Shape)
needed (Some a) = Ok a

-- what a name has to name
abbrev pub known : {A : Type 0} → Option A → Result A (Stop Wrong)
known None = Err (stop.Fault wrong.UnknownName)
known (Some a) = Ok a

-- what is named is of the kind that is needed
abbrev pub expected : {A : Type 0} → (A → Bool) → Option A → Result (Option A) (Stop Wrong)
expected right None = Ok None
expected right (Some a) = if right a then Ok (Some a) else Err (stop.Fault wrong.Shape)

-- a text that has the form of a name
abbrev pub checked_name : List ℕ → Option (List ℕ)
checked_name text = if is_name text then Some text else None

abbrev pub text_in : List ℕ → Data → Option (List ℕ)
text_in key d = option_and_then as_str (get key d)

abbrev pub name_in : List ℕ → Data → Result (List ℕ) (Stop Wrong)
name_in key d = needed (option_and_then checked_name (text_in key d))

abbrev pub array_in : List ℕ → Data → Option Items
array_in key d = option_and_then as_array (get key d)

abbrev pub is_object : Data → Bool
is_object d = is_some (as_object d)

abbrev pub checked_object : Data → Option Data
checked_object d = if is_object d then Some d else None

abbrev pub object_in : List ℕ → Data → Result Data (Stop Wrong)
object_in key d = needed (option_and_then checked_object (get key d))

-- an object that may be absent
abbrev pub object_if_there : Option Data → Result (Option Data) (Stop Wrong)
object_if_there None = Ok None
object_if_there (Some d) = and_then (needed (checked_object d)) (λ o. Ok (Some o))

-- the numbers that a script may hold are those that serde_json gives as a u64 or an i64
abbrev pub natural_of : Data → Option ℕ
natural_of d = option_and_then as_u64 (as_number d)

abbrev pub signed_of : Data → Option ℤ
signed_of d = option_and_then as_i64 (as_number d)

abbrev pub is_integer : Data → Bool
is_integer d = is_some (natural_of d) || is_some (signed_of d)

-- an integer within its type, no value for another integer
abbrev pub within : {A : Type 0} → (A → Bool) → Bool → Option A → Result (Option A) (Stop Wrong)
within fits integer (Some n) = Ok (if fits n then Some n else None)
within fits true None = Ok None
within fits false None = Err (stop.Fault wrong.Shape)

abbrev pub is_u32 : ℕ → Bool
is_u32 n = nat_lt n (2 ^ 32)

abbrev pub is_duration : ℕ → Bool
is_duration n = nat_lt n (2 ^ 53)

abbrev pub is_timestamp : ℤ → Bool
is_timestamp z = int_le (neg_ℤ (pos (2 ^ 53 - 1))) z && int_le z (pos (2 ^ 53 - 1))

abbrev pub u32_of : Data → Result (Option ℕ) (Stop Wrong)
u32_of d = within is_u32 (is_integer d) (natural_of d)

abbrev pub duration_of : Data → Result (Option ℕ) (Stop Wrong)
duration_of d = within is_duration (is_integer d) (natural_of d)

abbrev pub timestamp_of : Data → Result (Option ℤ) (Stop Wrong)
timestamp_of d = within is_timestamp (is_integer d) (signed_of d)

-- a text, and the bytes that a hex text spells
abbrev pub text_of : Data → Result (Option (List ℕ)) (Stop Wrong)
text_of d = and_then (needed (as_str d)) (λ text. Ok (Some text))

-- the word of an enumeration, no value for a text that is none of them
abbrev pub word_of : {A : Type 0} → (List ℕ → Option A) → Data → Result (Option A) (Stop Wrong)
word_of known_word d = and_then (needed (as_str d)) (λ text. Ok (known_word text))

abbrev pub decoded : Result (List ℕ) FromHexError → Option (List ℕ)
decoded (Ok bytes) = Some bytes
decoded (Err e) = None

abbrev pub hex_of : Data → Option (List ℕ)
hex_of d = option_and_then (λ text. decoded (decode_of text)) (as_str d)

-- a dictionary's member that is required; one with a default; one that may be absent
abbrev pub required : {A : Type 0} → (Data → Result (Option A) (Stop Wrong)) → Option Data → Result (Option A) (Stop Wrong)
required read None = Ok None
required read (Some d) = read d

abbrev pub defaulted : {A : Type 0} → A → (Data → Result (Option A) (Stop Wrong)) → Option Data → Result (Option A) (Stop Wrong)
defaulted default read None = Ok (Some default)
defaulted default read (Some d) = read d

abbrev pub optional : {A : Type 0} → (Data → Result (Option A) (Stop Wrong)) → Option Data → Result (Option (Option A)) (Stop Wrong)
optional read None = Ok (Some None)
optional read (Some d) = and_then (read d) (λ a. Ok (option_map (λ n. Some n) a))

-- bytes that may be absent
abbrev pub hex_if_there : Option Data → Result (Option (List ℕ)) (Stop Wrong)
hex_if_there None = Ok None
hex_if_there (Some d) = and_then (needed (hex_of d)) (λ bytes. Ok (Some bytes))
