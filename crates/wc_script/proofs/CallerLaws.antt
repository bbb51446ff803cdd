-- Nothing is at fault in callers that were read.
use Rattle.std.proofs.Common.{◌≡◌, ℕ, ◌+◌, ◌≤◌, ◌||◌, not, true, List, [], ◌∷◌, ◌++◌, length, codes, sum_by, Option, Some, IfOk, refl, ap, arith}
use Rattle.std.proofs.lemmas.Result.{IfOk-at_ok, IfOk-weaker}
use Rattle.std.specs.List.{list_all}
use Rattle.std.proofs.lemmas.List.{length_push}
use Rattle.std.proofs.lemmas.List.Sums.{sum_by_push}
use Rattle.serde_json.specs.Data.{Data, Items, no_items, item}
use Rattle.script_types.specs.declared.{fault.Place.Place, script.PortItem.PortItem, script.CodecItem.CodecItem, script.CallerItem.CallerItem}
use Rattle.script_types.specs.Names.{is_name, is_codec_name, is_caller_name}
use Rattle.script_types.specs.Sound.{most_steps, most_media, is_sound_caller, are_sound_callers, are_sound_steps, are_small, bytes_of_caller, files_after, files_in, are_apart}
use Rattle.script_steps.specs.Members.{needed, name_in, array_in}
use Rattle.script_steps.specs.Chains.{all_true}
use Rattle.script_steps.specs.{NameLaws.name_is_name, Ports.is_right_use, Soundness.StepsAreSound}
use Rattle.script_steps.specs.Counts.{count_of}
use Rattle.wc_script.specs.{declared.callers.Room.Room, declared.callers.Walked.Walked, declared.callers.Heard.Heard}
use Rattle.wc_script.specs.Callers.{heading_of, steps_of, caller_of, callers_of}
use Rattle.wc_script.proofs.Proceeds.{by_part, by_read, unless, each_more, all_more, fold_more}
use Rattle.wc_script.proofs.StepLaws.{SoundSteps, steps_sound}
use Rattle.wc_script.proofs.PortLaws.{AreRight}

-- ---- the name

abbrev IsNew : List CodecItem → List CallerItem → List ℕ → Type 0
IsNew codecs before name = (is_name name ≡ true) × (not (is_codec_name codecs name || is_caller_name before name) ≡ true)

new_name : (codecs : List CodecItem) (before : List CallerItem) (d : Data) → IfOk (heading_of codecs before d) (λ h. IsNew codecs before h.0)
unfolding heading_of
new_name codecs before d =
    by_part (name_in (codes "name") d) _ _ (λ name n. by_part (needed (array_in (codes "steps") d)) _ _ (λ ds s.
    unless (is_codec_name codecs name || is_caller_name before name) _ _ _ (λ new. (name_is_name (codes "name") name d n, ap not new))))

-- ---- one caller

-- a caller was read
record OneCaller (codecs : List CodecItem) (ports : List (Option PortItem)) (cs : List CallerItem) (fs : List (List ℕ)) (room : Room) (h : Heard) : Type 0 where
  pub sound : is_sound_caller codecs cs h.caller ≡ true
  pub steps : SoundSteps codecs ports fs room (record { steps = h.caller.steps; files = h.files; room = h.room })

no_steps : (codecs : List CodecItem) (ports : List (Option PortItem)) (fs : List (List ℕ)) (room : Room) → SoundSteps codecs ports fs room (record { steps = []; files = fs; room = room })
no_steps codecs ports fs room = record { steps = refl; count = omega arith; small = refl; media = omega arith; files = refl; apart = λ a. a; uses = refl }

one_caller : StepsAreSound → (codecs : List CodecItem) (ports : List (Option PortItem)) (cs : List CallerItem) (fs : List (List ℕ)) (room : Room) (d : Data) → IfOk (caller_of codecs ports cs fs room d) (OneCaller codecs ports cs fs room)
unfolding caller_of
one_caller law codecs ports cs fs room d =
    let start : Walked = record { steps = []; files = fs; room = room } in
    by_read (Place.Caller (length cs)) (heading_of codecs cs d) _ _ (λ h e. by_part (steps_of codecs ports (length cs) start h.1) _ _ (λ w f.
    let new = IfOk-at_ok (λ x. IsNew codecs cs x.0) e (new_name codecs cs d) in
    let t = IfOk-at_ok (SoundSteps codecs ports fs room) f (steps_sound law codecs ports (length cs) fs room start h.1 (no_steps codecs ports fs room)) in
    record { sound = all_true (is_name h.0) _ new.0 (all_true _ (are_sound_steps codecs [] w.steps) new.1 t.steps); steps = t }))

-- ---- all callers

-- the callers that were read, with the files that they mention, and the room that is left
pub record SoundCallers (codecs : List CodecItem) (ports : List (Option PortItem)) (cs : List CallerItem) (fs : List (List ℕ)) (room : Room) : Type 0 where
  pub callers : are_sound_callers codecs [] cs ≡ true
  pub steps : sum_by (λ c. length c.steps) cs + room.steps ≡ most_steps
  pub small : list_all are_small cs ≡ true
  pub media : sum_by bytes_of_caller cs + room.media ≤ most_media
  pub files : files_in 0 cs ≡ Some (length fs)
  pub apart : are_apart [] fs ≡ true
  pub uses : AreRight ports cs

caller_kept : (codecs : List CodecItem) (ports : List (Option PortItem)) (cs : List CallerItem) (fs : List (List ℕ)) (room : Room) (h : Heard) → SoundCallers codecs ports cs fs room → OneCaller codecs ports cs fs room h
    → SoundCallers codecs ports (cs ++ h.caller ∷ []) h.files h.room
caller_kept codecs ports cs fs room h t o =
    let steps = sum_by_push (λ c. length c.steps) cs h.caller in
    let media = sum_by_push bytes_of_caller cs h.caller in
    record {
      callers = each_more (is_sound_caller codecs) (are_sound_callers codecs) (λ b. refl) (λ b x xs. refl) [] cs h.caller t.callers o.sound;
      steps = omega (arith, steps, t.steps, o.steps.count);
      small = all_more are_small cs h.caller t.small o.steps.small;
      media = omega (arith, media, t.media, o.steps.media);
      files = fold_more (λ n c. files_after n c.steps) files_in (λ n. refl) (λ n x xs. refl) 0 cs h.caller (length fs) (length h.files) t.files o.steps.files;
      apart = o.steps.apart t.apart;
      uses = all_more (λ (c : CallerItem). list_all (is_right_use ports) c.steps) cs h.caller t.uses o.steps.uses;
    }

pub record CallersRead (codecs : List CodecItem) (ports : List (Option PortItem)) (cs : List CallerItem) (ds : Items) (r : List CallerItem × (List (List ℕ) × Room)) : Type 0 where
  pub sound : SoundCallers codecs ports r.0 r.1.0 r.1.1
  pub count : length r.0 ≡ length cs + count_of ds

pub callers_sound : StepsAreSound → (codecs : List CodecItem) (ports : List (Option PortItem)) (cs : List CallerItem) (fs : List (List ℕ)) (room : Room) (ds : Items) → SoundCallers codecs ports cs fs room → IfOk (callers_of codecs ports cs fs room ds) (CallersRead codecs ports cs ds)
callers_sound law codecs ports cs fs room no_items t = record { sound = t; count = omega arith }
callers_sound law codecs ports cs fs room (item d ds) t =
    by_part (caller_of codecs ports cs fs room d) _ _ (λ c e.
    let o = IfOk-at_ok (OneCaller codecs ports cs fs room) e (one_caller law codecs ports cs fs room d) in
    let rest = callers_sound law codecs ports (cs ++ c.caller ∷ []) c.files c.room ds (caller_kept codecs ports cs fs room c t o) in
    IfOk-weaker (callers_of codecs ports (cs ++ c.caller ∷ []) c.files c.room ds) _ _ (λ r u. record { sound = u.sound; count = omega (arith, length_push cs c.caller, u.count) }) rest)
