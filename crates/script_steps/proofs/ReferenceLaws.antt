-- What is known of the references of a step that was read.
use Rattle.std.proofs.Common.{◌≡◌, ℕ, codes, Bool, true, ◌&&◌, List, Option, Result, Ok, Err, IfOk, refl, subst, ◌∙◌, arith}
use Rattle.serde_json.specs.Data.{Data}
use Rattle.wc_config.specs.declared.kind.Kind.{Kind}
use Rattle.script_types.specs.declared.{script.CodecItem.CodecItem, steps.Step.Step, steps.VariableKind.VariableKind, found.FoundCodec.FoundCodec}
use Rattle.chunk_files.specs.declared.fault.Stop.{Stop}
use Rattle.script_types.specs.{declared.fault.Wrong.Wrong, Names.codec_named, Names.is_medium}
use Rattle.script_types.specs.Sound.{encodes, takes, is_codec, any_kind, is_variable, is_free}
use Rattle.script_steps.specs.Members.{and_then, needed as there, known, name_in}
use Rattle.script_steps.specs.{declared.references.Needed.Needed, Chains.all_true, Chains.known_some}
use Rattle.script_steps.specs.References.{is_right, unused, codec_if, variable_if, variable_in, on_of, ground_in, ground_on, bound_on, given_to, encoded_by, encoded_by_kind, encoded_data, bound_from}
use Rattle.script_steps.specs.NameLaws.{name_is_name, name_is_free, IsThere, codec_is_there, codec_is_right, codec_is_of, variable_is_right, is_there}

-- what holds of all that the rest may give, whatever the first part gives
pub by_part : {A B : Type 0} → (r : Result A (Stop Wrong)) (f : A → Result B (Stop Wrong)) (P : B → Type 0) → ((a : A) → r ≡ Ok a → IfOk (f a) P) → IfOk (and_then r f) P
by_part (Ok a) f P h = h a refl
by_part (Err e) f P h = tt

-- what is made of a part that was read
pub made : {A B : Type 0} → (r : Result A (Stop Wrong)) (make : A → B) (P : A → Type 0) (Q : B → Type 0) → IfOk r P → ((a : A) → P a → Q (make a)) → IfOk (and_then r (λ a. Ok (make a))) Q
made (Ok a) make P Q h k = k a h
made (Err e) make P Q h k = tt

pub new_name : (before : List Step) (d : Data) (name bind : List ℕ) → name_in (codes "as") d ≡ Ok name → unused before name ≡ Ok bind → is_free before bind ≡ true
new_name before d name bind n u = name_is_free before name bind (name_is_name (codes "as") name d n) u

pub variable_sound : (key : List ℕ) (kind : Needed) (before : List Step) (d : Data) → IfOk (variable_in key kind before d) (λ v. is_variable before (is_right kind) v ≡ true)
variable_sound key kind before d =
    by_part (name_in key d) _ _ (λ name n. by_part (variable_if kind before name) _ _ (λ maybe m. by_part (known maybe) _ _ (λ found k.
    (variable_is_right before kind name maybe found m k).variable)))

pub on_sound : (codecs : List CodecItem) (d : Data) → IfOk (on_of codecs d) (λ on. is_codec codecs any_kind on ≡ true)
on_sound codecs d = by_part (name_in (codes "on") d) _ _ (λ on n. by_part (known (codec_named codecs on)) _ _ (codec_is_there codecs any_kind on))

pub ground_on_sound : (codecs : List CodecItem) (d : Data) → IfOk (ground_on codecs d) (λ g. is_codec codecs any_kind g.0 ≡ true)
ground_on_sound codecs d =
    by_part (name_in (codes "on") d) _ _ (λ on n. by_part (there (ground_in d)) _ _ (λ to g.
    by_part (known (codec_named codecs on)) _ _ (codec_is_there codecs any_kind on)))

pub bound_on_sound : (codecs : List CodecItem) (before : List Step) (d : Data)
    → IfOk (bound_on codecs before d) (λ b. (right : Kind → Bool) → right b.0.kind ≡ true → (is_codec codecs right b.0.number && is_free before b.1) ≡ true)
bound_on_sound codecs before d =
    by_part (name_in (codes "on") d) _ _ (λ on n. by_part (name_in (codes "as") d) _ _ (λ name m. by_part (unused before name) _ _ (λ bind u.
    by_part (known (codec_named codecs on)) _ _ (λ codec c right e. all_true _ _ (codec_is_there codecs right on codec c ∙ e) (new_name before d name bind m u)))))

pub given_to_sound : (right : Kind → Bool) (key : List ℕ) (kind : Needed) (codecs : List CodecItem) (before : List Step) (d : Data)
    → IfOk (given_to right key kind codecs before d) (λ g. (is_codec codecs right g.0 && is_variable before (is_right kind) g.1) ≡ true)
given_to_sound right key kind codecs before d =
    by_part (name_in (codes "on") d) _ _ (λ on n. by_part (name_in key d) _ _ (λ name m. by_part (codec_if right codecs on) _ _ (λ maybe_codec c.
    by_part (variable_if kind before name) _ _ (λ maybe v. by_part (known maybe_codec) _ _ (λ codec k. by_part (known maybe) _ _ (λ found l.
    all_true _ _ (codec_is_right codecs right on maybe_codec codec c k) (variable_is_right before kind name maybe found v l).variable))))))

-- an encoder takes what it needs, and that is a medium
takes_its : (k : Kind) (v : VariableKind) → encodes k ≡ true → is_right (encoded_by_kind k) v ≡ true → takes v k ≡ true
takes_its k v e h = grind (arith, e, h)

its_medium : (k : Kind) (v : VariableKind) → is_right (encoded_by_kind k) v ≡ true → is_medium v ≡ true
its_medium k v h = grind (arith, h)

pub encoded_sound : (codecs : List CodecItem) (before : List Step) (d : Data)
    → IfOk (encoded_data codecs before d) (λ g. (is_codec codecs (takes g.1.kind) g.0 && is_variable before is_medium g.1) ≡ true)
encoded_sound codecs before d =
    by_part (name_in (codes "on") d) _ _ (λ on n. by_part (name_in (codes "data") d) _ _ (λ name m. by_part (codec_if encodes codecs on) _ _ (λ maybe_codec c.
    by_part (variable_if (encoded_by maybe_codec) before name) _ _ (λ maybe v. by_part (known maybe_codec) _ _ (λ codec k. by_part (known maybe) _ _ (λ found l.
    let there : IsThere before (is_right (encoded_by maybe_codec)) name found = variable_is_right before (encoded_by maybe_codec) name maybe found v l in
    let right : is_right (encoded_by_kind codec.kind) found.kind ≡ true = subst (λ (o : Option FoundCodec). is_right (encoded_by o) found.kind ≡ true) (known_some maybe_codec codec k) there.kind in
    let of = codec_is_of codecs encodes (takes found.kind) on maybe_codec codec c k in
    all_true _ _ (of.1 ∙ takes_its codec.kind found.kind of.0 right) (is_there before is_medium name found there.found (its_medium codec.kind found.kind right))))))))

pub bound_from_sound : (before : List Step) (d : Data) → IfOk (bound_from before d) (λ b. (is_variable before is_medium b.0 && is_free before b.1) ≡ true)
bound_from_sound before d =
    by_part (name_in (codes "of") d) _ _ (λ of n. by_part (name_in (codes "as") d) _ _ (λ name m. by_part (variable_if Needed.Medium before of) _ _ (λ maybe v.
    by_part (unused before name) _ _ (λ bind u. by_part (known maybe) _ _ (λ found k.
    all_true _ _ (variable_is_right before Needed.Medium of maybe found v k).variable (new_name before d name bind m u))))))
