-- A walk over a history, up to the first entry that is not lawful, and what the entries before it show.
use Rattle.std.proofs.Common.{ℕ, zero, suc, ◌+◌, ◌≤◌, ◌≡◌, Bool, true, false, List, [], ◌∷◌, ◌++◌, length, take, Option, Some, None, refl, ap, sym, ◌∙◌, arith, append_assoc, append-nil, length-append, length-take, option_map}
use Rattle.std.specs.Prelude.{IfOk, IfSome, OnOk, Result, Ok, Err, unwrap_or}
use Rattle.std.proofs.Math.Seq.{take-append_seam}
use Rattle.std.proofs.lemmas.List.{take-append-le}
use Rattle.wc_config.specs.declared.codec.CoderId.{CoderId}
use Rattle.codec_model.specs.declared.entry.{Entry.Entry, Opening.Opening, Shown.Shown}
use Rattle.codec_model.specs.Replay.{State, opening_state, replay, step}
use Rattle.codec_model.specs.Shown.{each_shown, each_shown_from, shown_at}
use Rattle.codec_core.specs.Codec.{Codec, Makes}
use Rattle.codec_core.specs.Job.{JobValue}
use Rattle.legal_fronts.specs.Fronts.{legal_after, legal_entries}
use Rattle.coder_api.specs.Lent.{Lent}
use Rattle.codec_judge.specs.Judge.{HasWalked, IsJudged, Judges, ShowsFront}
use Rattle.codec_judge.specs.Lawful.{is_lawful_next, lawful_shown}
use Rattle.codec_judge.specs.Lender.{LenderValue, id_in, settled}

-- ---- the walk

-- How far a walk has come over these entries, of which some are left.
pub record IsWalk (first : LenderValue) (begun : Codec) (entries left : List Entry) (count : ℕ) (core : Codec) (job : Option JobValue) (lender : LenderValue) : Type 0 where
  pub stands : IsJudged core job lender
  pub home : lender.home ≡ first.home
  pub opening : core.opening ≡ begun.opening
  pub rest : core.history ++ left ≡ entries
  pub counted : count ≡ length core.history
  pub so_far : count + legal_after (is_lawful_next first.home begun.opening) core.history left ≡ legal_entries (is_lawful_next first.home begun.opening) entries

after_lawful : (is_next : List Entry → Entry → Bool) (h left rest : List Entry) (e : Entry) → left ≡ e ∷ rest → is_next h e ≡ true → legal_after is_next h left ≡ legal_after is_next (h ++ e ∷ []) rest + 1
after_lawful is_next h left rest e is next = rw (is, next) refl

after_other : (is_next : List Entry → Entry → Bool) (h left rest : List Entry) (e : Entry) → left ≡ e ∷ rest → is_next h e ≡ false → legal_after is_next h left ≡ 0
after_other is_next h left rest e is next = rw (is, next) refl

module _ (first : LenderValue) (begun : Codec) (entries left : List Entry) (count : ℕ) (core : Codec) (job : Option JobValue) (lender : LenderValue) (w : IsWalk first begun entries left count core job lender) where
  -- the next entry is tried by the ids and the opening of the beginning
  next_here : (e : Entry) (b : Bool) → b ≡ is_lawful_next lender.home core.opening core.history e → is_lawful_next first.home begun.opening core.history e ≡ b
  next_here e b is = sym (is ∙ (ap (λ (made : List CoderId). is_lawful_next made core.opening core.history e) w.home ∙ ap (λ (o : Opening). is_lawful_next first.home o core.history e) w.opening))

  pub walk_more : (e : Entry) (rest : List Entry) (new : Codec) (job' : Option JobValue) (next : LenderValue) (n : ℕ) → left ≡ e ∷ rest → n ≡ count + 1 → Judges lender core e true new job' next → IsWalk first begun entries rest n new job' next
  walk_more e rest new job' next n is more j =
      let after = after_lawful (is_lawful_next first.home begun.opening) core.history left rest e is (next_here e true j.is_lawful) in
      let here : legal_after (is_lawful_next first.home begun.opening) core.history left ≡ legal_after (is_lawful_next first.home begun.opening) new.history rest + 1 = after ∙ ap (λ (h : List Entry). legal_after (is_lawful_next first.home begun.opening) h rest + 1) (sym j.grown) in
      let long = ap length j.grown ∙ length-append core.history (e ∷ []) in
      record {
        stands = j.stands;
        home = j.same_home ∙ w.home;
        opening = j.same_opening ∙ w.opening;
        rest = ap (λ (h : List Entry). h ++ rest) j.grown ∙ (append_assoc core.history (e ∷ []) rest ∙ (ap (λ (l : List Entry). core.history ++ l) (sym is) ∙ w.rest));
        counted = omega (arith, more, w.counted, long);
        so_far = omega (arith, more, w.so_far, here);
      }

  pub walk_stops : (e : Entry) (rest : List Entry) (new : Codec) (job' : Option JobValue) (next : LenderValue) → left ≡ e ∷ rest → Judges lender core e false new job' next → HasWalked first begun entries count new job' next
  walk_stops e rest new job' next is j =
      let none = after_other (is_lawful_next first.home begun.opening) core.history left rest e is (next_here e false j.is_lawful) in
      let long = sym (length-take (length core.history) new.history) ∙ ap length j.grown in
      record {
        stands = j.stands;
        home = j.same_home ∙ w.home;
        opening = j.same_opening ∙ w.opening;
        counted = omega (arith, w.so_far, none);
        within = omega (arith, w.counted, long);
        front = rw w.counted (j.grown ∙ sym (ap (take (length core.history)) (sym w.rest) ∙ take-append_seam core.history left));
      }

  pub walk_ends : left ≡ [] → HasWalked first begun entries count core job lender
  walk_ends is =
      let none : legal_after (is_lawful_next first.home begun.opening) core.history left ≡ 0 = rw is refl in
      record {
        stands = w.stands;
        home = w.home;
        opening = w.opening;
        counted = omega (arith, w.so_far, none);
        within = omega (arith, w.counted);
        front = ap (take count) (sym (append-nil core.history) ∙ (ap (λ (l : List Entry). core.history ++ l) (sym is) ∙ w.rest));
      }

-- ---- what a front shows

take_nil : (n : ℕ) (xs : List Shown) → xs ≡ [] → take n xs ≡ []
take_nil zero xs is = refl
take_nil (suc n) xs is = rw is refl

rest_taken : (n : ℕ) (es : List Entry) (o : Option State) → ((s : State) → take n (each_shown_from es s) ≡ each_shown_from (take n es) s) → take n (unwrap_or (option_map (each_shown_from es) o) []) ≡ unwrap_or (option_map (each_shown_from (take n es)) o) []
rest_taken n es None more = take_nil n [] refl
rest_taken n es (Some s) more = more s

taken_from : (n : ℕ) (h : List Entry) (s : State) → take n (each_shown_from h s) ≡ each_shown_from (take n h) s
taken_from zero h s = refl
taken_from (suc n) [] s = refl
taken_from (suc n) (e ∷ es) s = ap (λ (l : List Shown). shown_at e s ∷ l) (rest_taken n es (step e s) (taken_from n es))

-- the first entries show what the first of all entries show
pub front_shown : (o : Opening) (h : List Entry) (n : ℕ) → take n (each_shown o h) ≡ each_shown o (take n h)
front_shown o h n = taken_from n h (opening_state o)

-- so they do where one entry more was made
pub front_before : (old new : Codec) (e : Entry) → Makes old new e → ShowsFront old new
front_before old new e made = λ n le.
    front_shown new.opening new.history n ∙ (ap (λ (o : Opening). each_shown o (take n new.history)) made.same_opening
    ∙ ap (each_shown old.opening) (ap (take n) made.longer ∙ take-append-le n old.history (e ∷ []) le))

pub front_same : (old : Codec) → ShowsFront old old
front_same old = λ n le. front_shown old.opening old.history n

-- of what all entries showed
pub front_of_all : (old new : Codec) (shown : List Shown) → ShowsFront old new → shown ≡ each_shown new.opening new.history → (n : ℕ) → n ≤ length old.history → take n shown ≡ each_shown old.opening (take n old.history)
front_of_all old new shown front is n le = ap (take n) is ∙ front n le

-- ---- the box that is at home

pub home_was_out : (slot : Option Lent) (l : LenderValue) → l.out ≡ id_in slot → IfSome slot (λ b. l.out ≡ Some b.id)
home_was_out None l out = tt
home_was_out (Some b) l out = out

pub all_back : (slot : Option Lent) (l next : LenderValue) → l.out ≡ id_in slot → next ≡ settled slot l → next.out ≡ None
all_back None l next out is = ap (λ (x : LenderValue). x.out) is ∙ out
all_back (Some b) l next out is = ap (λ (x : LenderValue). x.out) is

-- what was shown is what the lawful entries show
pub lawfully_shown : (first : LenderValue) (begun : Codec) (o : Opening) (entries : List Entry) (count : ℕ) (core : Codec) (job : Option JobValue) (lender : LenderValue) (shown xs : List Shown) → HasWalked first begun entries count core job lender → begun.opening ≡ o
    → ((n : ℕ) → n ≤ length core.history → take n shown ≡ each_shown core.opening (take n core.history)) → xs ≡ take count shown → xs ≡ lawful_shown first.home o entries
lawfully_shown first begun o entries count core job lender shown xs w at shows is =
    let counted : count ≡ legal_entries (is_lawful_next first.home o) entries = w.counted ∙ ap (λ (p : Opening). legal_entries (is_lawful_next first.home p) entries) at in
    is ∙ (shows count w.within ∙ (ap (λ (p : Opening). each_shown p (take count core.history)) (w.opening ∙ at) ∙ ap (each_shown o) (w.front ∙ ap (λ (n : ℕ). take n entries) counted)))

pub same_lender : (old new : LenderValue) → new.home ≡ old.home → new.out ≡ None → old.out ≡ None → new ≡ old
same_lender old new home none was = let out = none ∙ sym was in λ i. record { home = home i; out = out i }

-- ---- so many of a list

pub take_again : {X : Type 0} (n : ℕ) (xs ys : List X) → take n (take n xs ++ ys) ≡ take n (xs ++ ys)
take_again zero xs ys = refl
take_again (suc n) [] ys = refl
take_again (suc n) (x ∷ xs) ys = ap (λ l. x ∷ l) (take_again n xs ys)

pub take_few : {X : Type 0} (n : ℕ) (xs : List X) → length xs ≤ n → take n xs ≡ xs
take_few zero [] le = refl
take_few (suc n) [] le = refl
take_few zero (x ∷ xs) le = absurd (omega (arith, le))
take_few (suc n) (x ∷ xs) le = ap (λ l. x ∷ l) (take_few n xs (omega (arith, le)))

-- what is behind so many is passed over
pub take_full : {X : Type 0} (n : ℕ) (xs ys zs : List X) → n ≤ length xs → take n (xs ++ ys) ≡ take n (xs ++ zs)
take_full n xs ys zs le = take-append-le n xs ys le ∙ sym (take-append-le n xs zs le)

pub few_taken : {X : Type 0} (n : ℕ) (xs : List X) → length (take n xs) ≤ n
few_taken n xs = let long = length-take n xs in omega (arith, long)

-- ---- answers

pub each_ok : {X E : Type 0} (P Q : X → Type 0) (r : Result X E) → ((x : X) → P x → Q x) → IfOk r P → IfOk r Q
each_ok P Q (Ok x) f h = f x h
each_ok P Q (Err e) f h = tt

pub always_ok : {X E : Type 0} (r : Result X E) (P : Type 0) → P → OnOk r P
always_ok (Ok x) P h = h
always_ok (Err e) P h = tt

-- ---- the beginning

-- a codec that was opened
pub opened : (core : Codec) (l : LenderValue) → core.history ≡ [] → core.slot ≡ None → l.out ≡ None → IsJudged core None l
opened core l empty slot none =
    let o = opening_state core.opening in
    let is : replay core.opening core.history ≡ Some o = ap (replay core.opening) empty in
    record {
      legal = is ∙ sym (ap (λ (x : Option State). Some (unwrap_or x o)) is);
      job_out = ap (λ (x : Option State). (unwrap_or x o).control.running) is;
      box_out = none ∙ sym (ap id_in slot);
    }

pub walk_begins : (l : LenderValue) (core : Codec) (job : Option JobValue) (entries left : List Entry) → IsJudged core job l → core.history ≡ [] → left ≡ entries → IsWalk l core entries left 0 core job l
walk_begins l core job entries left stands empty is =
    let is_next = is_lawful_next l.home core.opening in
    let so_far : legal_after is_next core.history left ≡ legal_entries is_next entries = ap (λ (h : List Entry). legal_after is_next h left) empty ∙ ap (legal_after is_next []) is in
    record {
      stands = stands;
      home = refl;
      opening = refl;
      rest = ap (λ (h : List Entry). h ++ left) empty ∙ is;
      counted = sym (ap length empty);
      so_far = omega (arith, so_far);
    }

-- ---- pieces, so many of them

pub taken_on : {X : Type 0} (n : ℕ) (xs ys zs new : List X) → new ≡ take n (xs ++ ys) → take n (new ++ zs) ≡ take n (xs ++ (ys ++ zs))
taken_on n xs ys zs new is = ap (λ l. take n (l ++ zs)) is ∙ (take_again n (xs ++ ys) zs ∙ ap (take n) (append_assoc xs ys zs))
