-- What the names of a step that was read name.
use Rattle.std.proofs.Common.{◌≡◌, ℕ, ◌==◌, not, Bool, true, false, if◌then◌else◌, ◌&&◌, List, Option, Some, None, option_and_then, Result, Ok, Err, refl, sym, ap, subst, ◌∙◌}
use Rattle.std.specs.List.{slice_get}
use Rattle.std.proofs.lemmas.Bool.{eq-eqb}
use Rattle.std.proofs.lemmas.Option.{same_Some}
use Rattle.serde_json.specs.Data.{Data}
use Rattle.wc_config.specs.declared.kind.Kind.{Kind}
use Rattle.script_types.specs.declared.script.CodecItem.{CodecItem}
use Rattle.script_types.specs.declared.found.FoundCodec.{FoundCodec}
use Rattle.script_types.specs.declared.found.FoundVariable.{FoundVariable}
use Rattle.script_types.specs.declared.steps.Step.{Step}
use Rattle.script_types.specs.declared.steps.VariableKind.{VariableKind}
use Rattle.script_types.specs.declared.steps.VariableKind.TheVariants as holds
use Rattle.script_types.specs.Names.{is_name, codec_at, codec_named, variable_named, is_variable_name}
use Rattle.script_types.specs.Sound.{is_free, is_codec, is_codec_kind, is_variable, is_found, same_kind}
use Rattle.chunk_files.specs.declared.fault.Stop.{Stop}
use Rattle.script_types.specs.declared.fault.Wrong.{Wrong}
use Rattle.chunk_files.specs.declared.fault.Stop.TheVariants as stop
use Rattle.script_types.specs.declared.fault.Wrong.TheVariants as wrong
use Rattle.script_steps.specs.Members.{checked_name, name_in, text_in, known}
use Rattle.script_steps.specs.declared.references.Needed.{Needed}
use Rattle.script_steps.specs.References.{is_right, unused, codec_if, variable_if, variable_of}
use Rattle.script_steps.specs.Chains.{same_Ok, needed_some, known_some, expected_right, all_true}

-- ---- new names

checked : (b : Bool) (text name : List ℕ) → (if b then Some text else None) ≡ Some name → (b ≡ true) × (text ≡ name)
checked true text name h = (refl, same_Some text name h)
checked false text name h = absurd cc

named : (o : Option (List ℕ)) (name : List ℕ) → option_and_then checked_name o ≡ Some name → is_name name ≡ true
named None name h = absurd cc
named (Some text) name h =
    let c = checked (is_name text) text name h in
    ap is_name (sym c.1) ∙ c.0

pub name_is_name : (key name : List ℕ) (d : Data) → name_in key d ≡ Ok name → is_name name ≡ true
name_is_name key name d h = named (text_in key d) name (needed_some _ name h)

free_if : (b : Bool) (name bind : List ℕ) → Path (Result (List ℕ) (Stop Wrong)) (if b then Err (stop.Fault wrong.Twice) else Ok name) (Ok bind) → (not b ≡ true) × (name ≡ bind)
free_if true name bind h = absurd cc
free_if false name bind h = (refl, same_Ok name bind h)

pub name_is_free : (before : List Step) (name bind : List ℕ) → is_name name ≡ true → unused before name ≡ Ok bind → is_free before bind ≡ true
name_is_free before name bind h k =
    let f = free_if (is_variable_name before name) name bind k in
    subst (λ n. is_free before n ≡ true) f.1 (all_true (is_name name) (not (is_variable_name before name)) h f.0)

-- ---- codecs

found_kind : (right : Kind → Bool) (n : ℕ) (o : Option CodecItem) (c : FoundCodec) → codec_at n o ≡ Some c
    → (c.number ≡ n) × (is_codec_kind right o ≡ right c.kind)
found_kind right n None c h = absurd cc
found_kind right n (Some item) c h =
    let e = same_Some _ c h in
    (ap (λ f. f.number) (sym e), ap (λ f. right f.kind) e)

codec_from : (codecs : List CodecItem) (right : Kind → Bool) (o : Option ℕ) (c : FoundCodec)
    → option_and_then (λ n. codec_at n (slice_get codecs n)) o ≡ Some c → is_codec codecs right c.number ≡ right c.kind
codec_from codecs right None c h = absurd cc
codec_from codecs right (Some n) c h =
    let f = found_kind right n (slice_get codecs n) c h in
    ap (λ k. is_codec codecs right k) f.0 ∙ f.1

pub codec_is_there : (codecs : List CodecItem) (right : Kind → Bool) (name : List ℕ) (c : FoundCodec)
    → known (codec_named codecs name) ≡ Ok c → is_codec codecs right c.number ≡ right c.kind
codec_is_there codecs right name c h = codec_from codecs right _ c (known_some (codec_named codecs name) c h)

pub codec_is_right : (codecs : List CodecItem) (right : Kind → Bool) (name : List ℕ) (m : Option FoundCodec) (c : FoundCodec)
    → codec_if right codecs name ≡ Ok m → known m ≡ Ok c → is_codec codecs right c.number ≡ true
codec_is_right codecs right name m c h k =
    let e = expected_right (λ f. right f.kind) (codec_named codecs name) m c h k in
    codec_from codecs right _ c e.0 ∙ e.1

-- a codec of the kind that is needed, by another test of its kind
pub codec_is_of : (codecs : List CodecItem) (right other : Kind → Bool) (name : List ℕ) (m : Option FoundCodec) (c : FoundCodec)
    → codec_if right codecs name ≡ Ok m → known m ≡ Ok c → (right c.kind ≡ true) × (is_codec codecs other c.number ≡ other c.kind)
codec_is_of codecs right other name m c h k =
    let e = expected_right (λ f. right f.kind) (codec_named codecs name) m c h k in
    (e.1, codec_from codecs other _ c e.0)

-- ---- variables

same : (k : VariableKind) → same_kind k k ≡ true
same holds.Chunk = refl
same holds.Audio = refl
same holds.Frame = refl
same holds.Promise = refl
same holds.Buffer = refl

there : (before : List Step) (right : VariableKind → Bool) (name : List ℕ) (f : FoundVariable) (o : Option FoundVariable) → o ≡ Some f
    → right f.kind ≡ true → (is_found (variable_of name f) o && right f.kind) ≡ true
there before right name f o h r =
    rw h (all_true _ _ (all_true (f.step == f.step) (same_kind f.kind f.kind) (eq-eqb f.step f.step refl) (same f.kind)) r)

-- a variable that was found, by another test of its kind
pub is_there : (before : List Step) (right : VariableKind → Bool) (name : List ℕ) (f : FoundVariable) → variable_named before name ≡ Some f → right f.kind ≡ true → is_variable before right (variable_of name f) ≡ true
is_there before right name f h r = there before right name f (variable_named before name) h r

pub record IsThere (before : List Step) (right : VariableKind → Bool) (name : List ℕ) (f : FoundVariable) : Type 0 where
  pub variable : is_variable before right (variable_of name f) ≡ true
  pub kind : right f.kind ≡ true
  pub found : variable_named before name ≡ Some f

pub variable_is_right : (before : List Step) (kind : Needed) (name : List ℕ) (m : Option FoundVariable) (f : FoundVariable)
    → variable_if kind before name ≡ Ok m → known m ≡ Ok f → IsThere before (is_right kind) name f
variable_is_right before kind name m f h k =
    let e = expected_right (λ v. is_right kind v.kind) (variable_named before name) m f h k in
    record { variable = there before (is_right kind) name f (variable_named before name) e.0 e.1; kind = e.1; found = e.0 }
