-- What is known of the steps of a caller that were read.
use Rattle.std.proofs.Common.{◌≡◌, ℕ, ◌+◌, ◌≤◌, nat_le, true, List, [], ◌∷◌, ◌++◌, length, sum_by, Option, Some, Ok, IfOk, refl, ap, ◌∙◌, arith}
use Rattle.std.specs.List.{list_all}
use Rattle.std.proofs.lemmas.Bool.{le-leb}
use Rattle.std.proofs.lemmas.List.{length_push}
use Rattle.std.proofs.lemmas.List.Sums.{sum_by_push}
use Rattle.std.proofs.lemmas.Result.{IfOk-at_ok}
use Rattle.std.proofs.lemmas.Bool.Decides.{nat_tests}
use Rattle.serde_json.specs.Data.{Data, Items, no_items, item}
use Rattle.script_types.specs.declared.{fault.Place.Place, script.CodecItem.CodecItem, script.PortItem.PortItem}
use Rattle.script_types.specs.declared.{steps.Step.Step}
use Rattle.script_types.specs.Sound.{most_chunk, is_sound_step, are_sound_steps, bytes_of_step, file_after, files_after, are_apart}
use Rattle.script_steps.specs.{Words.inline_data, Words.byte_count, Steps.step_of, Ports.is_right_use, Soundness.StepsAreSound}
use Rattle.wc_script.specs.{declared.callers.Room.Room, declared.callers.Walked.Walked}
use Rattle.wc_script.specs.Callers.{room_after, counted_step_of, steps_of}
use Rattle.wc_script.proofs.Proceeds.{by_part, by_read, each_more, all_more, fold_more}

-- ---- the room

-- a step with so many bytes was counted
record IsCounted (room : Room) (bytes : ℕ) (r : Room) : Type 0 where
  pub steps : r.steps + 1 ≡ room.steps
  pub small : bytes ≤ most_chunk
  pub media : bytes + r.media ≤ room.media

-- ---- steps

-- the steps that were read where these files were mentioned before, and there was so much room
pub record SoundSteps (codecs : List CodecItem) (ports : List (Option PortItem)) (fs : List (List ℕ)) (room : Room) (w : Walked) : Type 0 where
  pub steps : are_sound_steps codecs [] w.steps ≡ true
  pub count : length w.steps + w.room.steps ≡ room.steps
  pub small : list_all (λ s. nat_le (bytes_of_step s) most_chunk) w.steps ≡ true
  pub media : sum_by bytes_of_step w.steps + w.room.media ≤ room.media
  pub files : files_after (length fs) w.steps ≡ Some (length w.files)
  pub apart : are_apart [] fs ≡ true → are_apart [] w.files ≡ true
  pub uses : list_all (is_right_use ports) w.steps ≡ true

-- one step was read
record OneStep (codecs : List CodecItem) (ports : List (Option PortItem)) (w : Walked) (v : Walked) : Type 0 where
  pub step : Step
  pub steps : v.steps ≡ w.steps ++ step ∷ []
  pub sound : is_sound_step codecs w.steps step ≡ true
  pub bytes : ℕ
  pub fits : bytes_of_step step ≤ bytes
  pub room : IsCounted w.room bytes v.room
  pub files : file_after (length w.files) step ≡ Some (length v.files)
  pub apart : are_apart [] w.files ≡ true → are_apart [] v.files ≡ true
  pub uses : is_right_use ports step ≡ true

one_step : StepsAreSound → (codecs : List CodecItem) (ports : List (Option PortItem)) (i : ℕ) (w : Walked) (d : Data) → IfOk (counted_step_of codecs ports i w d) (OneStep codecs ports w)
unfolding counted_step_of
one_step law codecs ports i w d =
    let bytes = byte_count (inline_data d) in
    by_part (room_after w.room bytes) _ _ (λ room r. by_read (Place.Step i (length w.steps)) (step_of codecs ports w.files w.steps d) _ _ (λ s e.
    let t = law codecs ports w.files w.steps d s.0 s.1 e in
    record { step = s.0; steps = refl; sound = t.step; bytes = bytes; fits = t.bytes; room = grind (arith, nat_tests, r); files = t.count; apart = t.apart; uses = t.uses }))

step_kept : (codecs : List CodecItem) (ports : List (Option PortItem)) (fs : List (List ℕ)) (room : Room) (w v : Walked) → SoundSteps codecs ports fs room w → OneStep codecs ports w v → SoundSteps codecs ports fs room v
step_kept codecs ports fs room w v t o =
    let small : nat_le (bytes_of_step o.step) most_chunk ≡ true = le-leb _ _ (omega (arith, o.fits, o.room.small)) in
    let longer = length_push w.steps o.step in
    let more = sum_by_push bytes_of_step w.steps o.step in
    let same = o.steps in
    record {
      steps = rw same (each_more (is_sound_step codecs) (are_sound_steps codecs) (λ b. refl) (λ b x xs. refl) [] w.steps o.step t.steps o.sound);
      count = rw same (omega (arith, longer, t.count, o.room.steps));
      small = rw same (all_more (λ s. nat_le (bytes_of_step s) most_chunk) w.steps o.step t.small small);
      media = rw same (omega (arith, more, t.media, o.fits, o.room.media));
      files = rw same (fold_more file_after files_after (λ n. refl) (λ n x xs. refl) (length fs) w.steps o.step (length w.files) (length v.files) t.files o.files);
      apart = λ a. o.apart (t.apart a);
      uses = rw same (all_more (is_right_use ports) w.steps o.step t.uses o.uses);
    }

pub steps_sound : StepsAreSound → (codecs : List CodecItem) (ports : List (Option PortItem)) (i : ℕ) (fs : List (List ℕ)) (room : Room) (w : Walked) (ds : Items) → SoundSteps codecs ports fs room w → IfOk (steps_of codecs ports i w ds) (SoundSteps codecs ports fs room)
steps_sound law codecs ports i fs room w no_items t = t
steps_sound law codecs ports i fs room w (item d ds) t =
    by_part (counted_step_of codecs ports i w d) _ _ (λ u e. steps_sound law codecs ports i fs room u ds (step_kept codecs ports fs room w u t (IfOk-at_ok (OneStep codecs ports w) e (one_step law codecs ports i w d))))

-- ---- how many files and steps there are after one more step

file_grows : (n k : ℕ) (s : Step) → file_after n s ≡ Some k → k ≤ n + 1
file_grows n k s h = grind (arith, h)

pub files_grow : StepsAreSound → (codecs : List CodecItem) (ports : List (Option PortItem)) (i : ℕ) (w v : Walked) (d : Data) → counted_step_of codecs ports i w d ≡ Ok v → length w.files + w.room.steps ≤ 100000
    → length v.files + v.room.steps ≤ 100000
files_grow law codecs ports i w v d h le =
    let o = IfOk-at_ok (OneStep codecs ports w) h (one_step law codecs ports i w d) in
    omega (arith, o.room.steps, file_grows _ _ o.step o.files)

pub steps_grow : StepsAreSound → (codecs : List CodecItem) (ports : List (Option PortItem)) (i : ℕ) (w v : Walked) (d : Data) → counted_step_of codecs ports i w d ≡ Ok v → length w.steps + w.room.steps ≤ 100000
    → length v.steps + v.room.steps ≤ 100000
steps_grow law codecs ports i w v d h le =
    let o = IfOk-at_ok (OneStep codecs ports w) h (one_step law codecs ports i w d) in
    omega (arith, o.room.steps, ap length o.steps ∙ length_push w.steps o.step)
