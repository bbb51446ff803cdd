-- A step that was read and posts or receives does so at a port of its kind.
use Rattle.std.proofs.Common.{◌≡◌, ℕ, codes, true, List, Option, Some, None, Result, Ok, Err, IfOk, refl, ap, sym, subst, ◌∙◌, arith}
use Rattle.std.specs.Prelude.{slice_get, option_and_then}
use Rattle.std.proofs.lemmas.Option.{same_Some}
use Rattle.serde_json.specs.Data.{Data}
use Rattle.chunk_files.specs.declared.fault.Stop.{Stop}
use Rattle.script_types.specs.declared.{fault.Wrong.Wrong, script.CodecItem.CodecItem, script.PortItem.PortItem, script.PortKind.PortKind, steps.Step.Step, steps.MediaStep.MediaStep, steps.VariableKind.VariableKind, steps.BufferedInit.BufferedInit}
use Rattle.script_types.specs.Names.{posted_at}
use Rattle.script_types.specs.Sound.{same_kind, is_port_of}
use Rattle.script_steps.specs.Members.{and_then, needed as there, known, name_in, object_in}
use Rattle.script_steps.specs.{declared.ports.FoundPort.FoundPort, declared.references.Needed.Needed, declared.words.MediaWord.MediaWord}
use Rattle.script_steps.specs.References.{is_right, unused, variable_if, bound_on, encoded_data, bound_from, variable_in}
use Rattle.script_steps.specs.Media.{data_of_init, sound_of, picture_of}
use Rattle.script_steps.specs.Buffers.{has_buffers, buffered_of}
use Rattle.script_steps.specs.Ports.{found_of, found_at, port_named_in, posted_by, posted_by_kind, post_of, receive_of, joined, is_right_use}
use Rattle.script_steps.specs.MediaSteps.{made_with, size_in, options_in, media_by}
use Rattle.script_steps.specs.Chains.{known_some}
use Rattle.script_steps.specs.NameLaws.{variable_is_right}
use Rattle.script_steps.proofs.ReferenceLaws.{by_part}
use Rattle.script_steps.proofs.MediaLaws.{either}

-- ---- a port that was found

-- it stands at the place of its number
record Stands (ports : List (Option PortItem)) (f : FoundPort) : Type 0 where
  port : PortItem
  at : joined (slice_get ports f.number) ≡ Some port
  of : f.of ≡ port.of

stands_of : (ports : List (Option PortItem)) (n : ℕ) (p : Option PortItem) (f : FoundPort) → slice_get ports n ≡ Some p → found_of n p ≡ Some f → Stands ports f
stands_of ports n None f at is = absurd cc
stands_of ports n (Some p) f at is =
    let same : (record { number = n; of = p.of }) ≡ f = same_Some _ f is in
    record {
      port = p;
      at = ap (λ (x : FoundPort). joined (slice_get ports x.number)) (sym same) ∙ ap joined at;
      of = ap (λ (x : FoundPort). x.of) (sym same);
    }

stands_at : (ports : List (Option PortItem)) (n : ℕ) (o : Option (Option PortItem)) (f : FoundPort) → slice_get ports n ≡ o → found_at n o ≡ Some f → Stands ports f
stands_at ports n None f at is = absurd cc
stands_at ports n (Some p) f at is = stands_of ports n p f at is

stands_from : (ports : List (Option PortItem)) (o : Option ℕ) (f : FoundPort) → option_and_then (λ n. found_at n (slice_get ports n)) o ≡ Some f → Stands ports f
stands_from ports None f is = absurd cc
stands_from ports (Some n) f is = stands_at ports n (slice_get ports n) f refl is

stands : (ports : List (Option PortItem)) (name : List ℕ) (f : FoundPort) → known (port_named_in ports name) ≡ Ok f → Stands ports f
stands ports name f is = stands_from ports _ f (known_some (port_named_in ports name) f is)

-- so it is of its kind
its_kind : (k : PortKind) → same_kind (posted_at k) (posted_at k) ≡ true
its_kind PortKind.Audio = refl
its_kind PortKind.Frame = refl

posted_kind : (k : PortKind) (v : VariableKind) → is_right (posted_by_kind k) v ≡ true → same_kind (posted_at k) v ≡ true
posted_kind k v h = grind (arith, h)

of_kind : (ports : List (Option PortItem)) (f : FoundPort) (v : VariableKind) → Stands ports f → same_kind (posted_at f.of) v ≡ true → is_port_of v (joined (slice_get ports f.number)) ≡ true
of_kind ports f v s h = rw s.at (subst (λ (k : PortKind). same_kind (posted_at k) v ≡ true) s.of h)

-- ---- steps

abbrev Uses : List (Option PortItem) → MediaStep → Type 0
Uses ports x = is_right_use ports (Step.Media x) ≡ true

-- a step that names no port
none : {A : Type 0} (ports : List (Option PortItem)) (r : Result A (Stop Wrong)) (make : A → MediaStep) → ((a : A) → Uses ports (make a)) → IfOk (and_then r (λ a. Ok (make a))) (Uses ports)
none ports (Ok a) make h = h a
none ports (Err e) make h = tt

made_uses : (ports : List (Option PortItem)) (refused : List ℕ → MediaStep) (b : List ℕ × Option BufferedInit) → ((bind : List ℕ) → Uses ports (refused bind)) → Uses ports (made_with refused b)
made_uses ports refused (bind, None) h = h bind
made_uses ports refused (bind, Some i) h = refl

post_uses : (ports : List (Option PortItem)) (before : List Step) (d : Data) → IfOk (post_of ports before d) (Uses ports)
post_uses ports before d =
    by_part (name_in (codes "to") d) _ _ (λ to t. by_part (name_in (codes "data") d) _ _ (λ name n.
    by_part (variable_if (posted_by (port_named_in ports to)) before name) _ _ (λ maybe m. by_part (known (port_named_in ports to)) _ _ (λ p k. by_part (known maybe) _ _ (λ found l.
    let right = (variable_is_right before (posted_by (port_named_in ports to)) name maybe found m l).kind in
    let its = subst (λ (o : Option FoundPort). is_right (posted_by o) found.kind ≡ true) (known_some (port_named_in ports to) p k) right in
    of_kind ports p found.kind (stands ports to p k) (posted_kind p.of found.kind its))))))

receive_uses : (ports : List (Option PortItem)) (before : List Step) (d : Data) → IfOk (receive_of ports before d) (Uses ports)
receive_uses ports before d =
    by_part (name_in (codes "from") d) _ _ (λ from f. by_part (name_in (codes "as") d) _ _ (λ name n. by_part (unused before name) _ _ (λ bind u. by_part (known (port_named_in ports from)) _ _ (λ p k.
    of_kind ports p (posted_at p.of) (stands ports from p k) (its_kind p.of)))))

pub media_uses : (codecs : List CodecItem) (ports : List (Option PortItem)) (before : List Step) (d : Data) (w : MediaWord) → IfOk (media_by codecs ports before d w) (Uses ports)
media_uses codecs ports before d MediaWord.Audio = either (has_buffers d) _ _ _
    (none ports (buffered_of VariableKind.Audio before d) _ (λ b. made_uses ports (λ bind. MediaStep.Audio bind None) b (λ bind. refl)))
    (by_part (name_in (codes "as") d) _ _ (λ name n. by_part (object_in (codes "init") d) _ _ (λ object o. by_part (sound_of object) _ _ (λ init i. by_part (unused before name) _ _ (λ bind u. refl)))))
media_uses codecs ports before d MediaWord.Frame = either (has_buffers d) _ _ _
    (none ports (buffered_of VariableKind.Frame before d) _ (λ b. made_uses ports (λ bind. MediaStep.Frame bind None) b (λ bind. refl)))
    (by_part (name_in (codes "as") d) _ _ (λ name n. by_part (object_in (codes "init") d) _ _ (λ object o. by_part (picture_of object) _ _ (λ init i. by_part (unused before name) _ _ (λ bind u. refl)))))
media_uses codecs ports before d MediaWord.Buffer = by_part (name_in (codes "as") d) _ _ (λ name n. by_part (there (data_of_init d)) _ _ (λ content c. by_part (unused before name) _ _ (λ bind u. refl)))
media_uses codecs ports before d MediaWord.Encode = none ports (encoded_data codecs before d) _ (λ g. refl)
media_uses codecs ports before d MediaWord.Take = none ports (bound_on codecs before d) _ (λ b. refl)
media_uses codecs ports before d MediaWord.Clone = none ports (bound_from before d) _ (λ b. refl)
media_uses codecs ports before d MediaWord.Transfer = none ports (bound_from before d) _ (λ b. refl)
media_uses codecs ports before d MediaWord.CloseData = none ports (variable_in (codes "of") Needed.Medium before d) _ (λ v. refl)
media_uses codecs ports before d MediaWord.Copy =
    by_part (name_in (codes "of") d) _ _ (λ name n. by_part (size_in d) _ _ (λ size s. by_part (variable_if Needed.Copied before name) _ _ (λ maybe m. by_part (options_in maybe d) _ _ (λ options o.
    by_part (known maybe) _ _ (λ found k. refl)))))
media_uses codecs ports before d MediaWord.Size =
    by_part (name_in (codes "of") d) _ _ (λ name n. by_part (variable_if Needed.Sized before name) _ _ (λ maybe m. by_part (options_in maybe d) _ _ (λ options o. by_part (known maybe) _ _ (λ found k. refl))))
media_uses codecs ports before d MediaWord.Post = post_uses ports before d
media_uses codecs ports before d MediaWord.Receive = receive_uses ports before d
