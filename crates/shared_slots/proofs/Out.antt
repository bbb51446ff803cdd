-- A live claim at the lock of a registry is a box that is out.
use Rattle.std.proofs.Common.{ℕ, ◌≡◌, ◌+◌, ◌≤◌, ◌==◌, ◌&&◌, Bool, true, false, cond, eqb, List, [], ◌∷◌, ◌++◌, length, length-append, Option, Some, None, is_some, refl, ap, sym, subst, ◌∙◌, append-nil, append_assoc, arith, eq-eqb}
use Rattle.std.proofs.lemmas.Bool.{and_parts, and_from, eqb-true}
use Rattle.wc_base.specs.Views.{Log}
use Rattle.wc_base.specs.declared.who.By.{By}
use Rattle.wc_base.specs.declared.seat.Passage.{Passage}
use Rattle.wc_base.specs.declared.seat.Passage.TheVariants.{Made, Look}
use Rattle.wc_config.specs.declared.codec.CoderId.{CoderId}
use Rattle.coder_api.specs.declared.slot.SlotEntry.{SlotEntry}
use Rattle.coder_api.specs.declared.slot.SlotOp.{SlotOp}
use Rattle.coder_api.specs.declared.slot.SlotOp.TheVariants as slot
use Rattle.coder_api.specs.{Lent.Lent, Meaning.is_id}
use Rattle.slot_registry.specs.Boxes.{is_box, holder_of, holder_after, is_out, least_free, made_of, out_of}
use Rattle.slot_registry.specs.declared.slots.AcquireFault.{AcquireFault}
use Rattle.slot_registry.specs.declared.slots.AcquireFault.TheVariants as fault
use Rattle.slot_registry.specs.Slots.{SlotsValue, acquired, acquire_op, acquire_entry, given_back, is_legal_next, is_legal_from, is_legal_slots, is_number, IsFaultOf}
use Rattle.slot_registry.specs.HistoryLaws.{holder_more, legal_more, box_same}
use Rattle.slot_registry.specs.NumberLaws.{find_fails}
use Rattle.slot_registry.specs.IdLaws.{id_is}
use Rattle.seat_lock.specs.Logs.{entries_of}
use Rattle.seat_lock.specs.Claims.{is_claim, is_unspent, mint_count, spends_in, IsLive}
use Rattle.seat_lock.specs.ClaimLaws.{unclaimed, entries_both, unspent_rest}
use Rattle.seat_lock.specs.Own.{entries_of-append}
use Rattle.shared_slots.specs.Boxes.{acquires, acquires_in, goes_out, is_of, last_of, gives, StandsOut}
use Rattle.shared_slots.specs.Steps.{KnowsOut}

legal_rest : (made : List CoderId) (before a b : List SlotEntry) → is_legal_from made before (a ++ b) ≡ true → is_legal_from made (before ++ a) b ≡ true
legal_rest made before [] b h = subst (λ (l : List SlotEntry). is_legal_from made l b ≡ true) (sym (append-nil before)) h
legal_rest made before (e ∷ es) b h = subst (λ (l : List SlotEntry). is_legal_from made l b ≡ true) (append_assoc before (e ∷ []) es) (legal_rest made (before ++ e ∷ []) es b (and_parts (is_legal_next made before e) (is_legal_from made (before ++ e ∷ []) (es ++ b)) h).1)

pub acquires_more : (h : List SlotEntry) (e : SlotEntry) → acquires_in (h ++ e ∷ []) ≡ acquires_in h + cond (acquires e) 1 0
acquires_more [] e = omega arith
acquires_more (x ∷ xs) e = (let r = acquires_more xs e in omega (arith, r))

count_by_op : (cause : By) (id : CoderId) (s : SlotsValue) (o : Option ℕ) → least_free id s.made s.history ≡ o → acquires_in (acquired cause id s).history ≡ acquires_in s.history + cond (goes_out (acquire_op id (out_of id s.made s.history) (made_of id s.made) o)) 1 0
count_by_op cause id s o free = acquires_more s.history (acquire_entry cause id s) ∙ ap (λ (f : Option ℕ). acquires_in s.history + cond (goes_out (acquire_op id (out_of id s.made s.history) (made_of id s.made) f)) 1 0) free

-- an acquire is one more
pub acquired_count : (cause : By) (id : CoderId) (old new : SlotsValue) (number : ℕ) → new ≡ acquired cause id old → least_free id old.made old.history ≡ Some number → acquires_in new.history ≡ acquires_in old.history + 1
acquired_count cause id old new number is free = ap (λ (s : SlotsValue). acquires_in s.history) is ∙ count_by_op cause id old (Some number) free

pub acquired_length : (cause : By) (id : CoderId) (old new : SlotsValue) → new ≡ acquired cause id old → length new.history ≡ length old.history + 1
acquired_length cause id old new is = ap (λ (s : SlotsValue). length s.history) is ∙ length-append old.history (acquire_entry cause id old ∷ [])

-- a refusal and a give are none
pub fault_count : (cause : By) (id : CoderId) (old new : SlotsValue) (f : AcquireFault) → IsFaultOf cause id old new f → acquires_in new.history ≡ acquires_in old.history
fault_count cause id old new (fault.NoSlot place out all) is = ap (λ (s : SlotsValue). acquires_in s.history) is.recorded ∙ (count_by_op cause id old None is.none_free ∙ (omega arith))
fault_count cause id old new fault.NoMemory is = ap (λ (s : SlotsValue). acquires_in s.history) is

pub give_count : (cause : By) (id : CoderId) (number : ℕ) (old new : SlotsValue) → new ≡ given_back cause id number old → acquires_in new.history ≡ acquires_in old.history
give_count cause id number old new is = ap (λ (s : SlotsValue). acquires_in s.history) is ∙ (acquires_more old.history (record { by = cause; op = slot.Give id number }) ∙ (omega arith))

-- the last acquire of a box, after one more entry
last_more : (id : CoderId) (number n : ℕ) (found : Option ℕ) (h : List SlotEntry) (e : SlotEntry) → last_of id number n found (h ++ e ∷ []) ≡ cond (is_of id number e.op) (Some (acquires_in h + n)) (last_of id number n found h)
last_more id number n found [] e = (let z : n ≡ 0 + n = omega arith in ap (λ (m : ℕ). cond (is_of id number e.op) (Some m) found) z)
last_more id number n found (x ∷ xs) e =
    let k : acquires_in xs + (cond (acquires x) 1 0 + n) ≡ (cond (acquires x) 1 0 + acquires_in xs) + n = omega arith in
    last_more id number (cond (acquires x) 1 0 + n) (cond (is_of id number x.op) (Some n) found) xs e
    ∙ ap (λ (m : ℕ). cond (is_of id number e.op) (Some m) (last_of id number (cond (acquires x) 1 0 + n) (cond (is_of id number x.op) (Some n) found) xs)) k

-- the claims of a log are numbered as its acquires are
pub count_is : (log : Log SlotEntry) → mint_count acquires gives log ≡ acquires_in (entries_of log)
count_is [] = refl
count_is ((n, Made e) ∷ ps) = ap (λ (m : ℕ). cond (acquires e) 1 0 + m) (count_is ps)
count_is ((n, Look) ∷ ps) = (let z : 0 + mint_count acquires gives ps ≡ mint_count acquires gives ps = omega arith in z) ∙ count_is ps

-- there are no more acquires than entries
pub acquires_low : (h : List SlotEntry) → acquires_in h ≤ length h
acquires_low [] = omega arith
acquires_low (e ∷ es) = (let r = acquires_low es in let one = low (acquires e) in omega (arith, r, one))
  where
    low : (b : Bool) → cond b 1 0 ≤ 1
    low true = omega arith
    low false = omega arith

-- a box that goes out has its number
pub went : (cause : By) (lent : Lent) (h : List SlotEntry) (e : SlotEntry) → e ≡ record { by = lent.by; op = slot.Acquire lent.id lent.number } → StandsOut (acquires_in h) lent (h ++ e ∷ [])
went cause lent h e is = record {
  holder = holder_more lent.id lent.number h e ∙ (ap (holder_after lent.id lent.number (holder_of lent.id lent.number h)) is ∙ ap (λ (b : Bool). cond b (Some lent.by) (holder_of lent.id lent.number h)) (box_same lent.id lent.number));
  last = last_more lent.id lent.number 0 None h e ∙ (ap (λ (x : SlotEntry). cond (is_of lent.id lent.number x.op) (Some (acquires_in h + 0)) (last_of lent.id lent.number 0 None h)) is
      ∙ (ap (λ (b : Bool). cond b (Some (acquires_in h + 0)) (last_of lent.id lent.number 0 None h)) (box_same lent.id lent.number) ∙ (let z : acquires_in h + 0 ≡ acquires_in h = omega arith in ap Some z)));
}

-- the id and the number of a box
box_is : (a b : CoderId) (m n : ℕ) → is_box a m b n ≡ true → (a ≡ b) × (m ≡ n)
box_is a b m n same = let parts = and_parts (is_id a b) (m == n) same in (id_is a b parts.0, eqb-true m n parts.1)

-- an entry that does not give the box back leaves it out
entry_keeps : (made : List CoderId) (claim : ℕ) (lent : Lent) (h : List SlotEntry) (e : SlotEntry) → StandsOut claim lent h → is_legal_next made h e ≡ true → is_claim (gives h e) claim ≡ false → StandsOut claim lent (h ++ e ∷ [])
entry_keeps made claim lent h e s next free = by_op e.op refl
  where
    H : Option By
    H = holder_of lent.id lent.number h

    L : Option ℕ
    L = last_of lent.id lent.number 0 None h

    stays : (o : SlotOp) → e.op ≡ o → is_of lent.id lent.number o ≡ false → holder_after lent.id lent.number H (record { by = e.by; op = o }) ≡ H → StandsOut claim lent (h ++ e ∷ [])
    stays o same other held = record {
      holder = holder_more lent.id lent.number h e ∙ (ap (λ (x : SlotOp). holder_after lent.id lent.number H (record { by = e.by; op = x })) same ∙ (held ∙ s.holder));
      last = last_more lent.id lent.number 0 None h e ∙ (ap (λ (x : SlotOp). cond (is_of lent.id lent.number x) (Some (acquires_in h + 0)) L) same ∙ (ap (λ (b : Bool). cond b (Some (acquires_in h + 0)) L) other ∙ s.last));
    }

    acquired_apart : (id : CoderId) (k : ℕ) (b : Bool) → e.op ≡ slot.Acquire id k → is_box lent.id lent.number id k ≡ b → StandsOut claim lent (h ++ e ∷ [])
    acquired_apart id k true same at =
        let parts = box_is lent.id id lent.number k at in
        let free_number : is_number (least_free id made h) k ≡ true = (λ i. is_legal_next made h (record { by = e.by; op = sym same i })) ∙ next in
        let out : is_out lent.id lent.number h ≡ true = ap is_some s.holder in
        let not_out : is_out id k h ≡ false = is_free id k (least_free id made h) refl free_number in
        let both : is_out lent.id lent.number h ≡ is_out id k h = (λ i. is_out (parts.0 i) (parts.1 i) h) in
        absurd cc
      where
        is_free : (id : CoderId) (k : ℕ) (o : Option ℕ) → least_free id made h ≡ o → is_number o k ≡ true → is_out id k h ≡ false
        is_free id k None is n = absurd cc
        is_free id k (Some f) is n = find_fails (λ m. is_out id m h) (made_of id made) k (is ∙ ap Some (eqb-true f k n))
    acquired_apart id k false same at = stays (slot.Acquire id k) same at (ap (λ (b : Bool). cond b (Some e.by) H) at)

    given_apart : (id : CoderId) (k : ℕ) (b : Bool) → e.op ≡ slot.Give id k → is_box lent.id lent.number id k ≡ b → StandsOut claim lent (h ++ e ∷ [])
    given_apart id k true same at =
        let parts = box_is lent.id id lent.number k at in
        let spent : gives h e ≡ Some claim = (λ i. gives h (record { by = e.by; op = same i })) ∙ ((λ i. last_of (sym parts.0 i) (sym parts.1 i) 0 None h) ∙ s.last) in
        let yes : is_claim (gives h e) claim ≡ true = ap (λ (o : Option ℕ). is_claim o claim) spent ∙ eq-eqb claim claim refl in
        absurd cc
    given_apart id k false same at = stays (slot.Give id k) same refl (ap (λ (b : Bool). cond b None H) at)

    by_op : (o : SlotOp) → e.op ≡ o → StandsOut claim lent (h ++ e ∷ [])
    by_op (slot.Acquire id k) same = acquired_apart id k (is_box lent.id lent.number id k) same refl
    by_op (slot.Refused id out all) same = stays (slot.Refused id out all) same refl refl
    by_op (slot.Give id k) same = given_apart id k (is_box lent.id lent.number id k) same refl

out_on : (made : List CoderId) (claim : ℕ) (lent : Lent) (acc rest : Log SlotEntry) → StandsOut claim lent (entries_of acc) → is_unspent acquires gives claim acc rest ≡ true → is_legal_from made (entries_of acc) (entries_of rest) ≡ true → StandsOut claim lent (entries_of (acc ++ rest))
out_on made claim lent acc [] s u next = subst (λ (l : Log SlotEntry). StandsOut claim lent (entries_of l)) (sym (append-nil acc)) s
out_on made claim lent acc ((n, Look) ∷ ps) s u next =
    let same : entries_of (acc ++ (n, Look) ∷ []) ≡ entries_of acc = entries_of-append acc n Look ∙ append-nil (entries_of acc) in
    subst (λ (l : Log SlotEntry). StandsOut claim lent (entries_of l)) (append_assoc acc ((n, Look) ∷ []) ps)
    (out_on made claim lent (acc ++ (n, Look) ∷ []) ps (subst (λ (h : List SlotEntry). StandsOut claim lent h) (sym same) s) u (subst (λ (h : List SlotEntry). is_legal_from made h (entries_of ps) ≡ true) (sym same) next))
out_on made claim lent acc ((n, Made e) ∷ ps) s u next =
    let h = entries_of acc in
    let grown : entries_of (acc ++ (n, Made e) ∷ []) ≡ h ++ e ∷ [] = entries_of-append acc n (Made e) in
    let both = and_parts (is_legal_next made h e) (is_legal_from made (h ++ e ∷ []) (entries_of ps)) next in
    let free = unclaimed (is_claim (gives h e) claim) (is_unspent acquires gives claim (acc ++ (n, Made e) ∷ []) ps) u in
    subst (λ (l : Log SlotEntry). StandsOut claim lent (entries_of l)) (append_assoc acc ((n, Made e) ∷ []) ps)
    (out_on made claim lent (acc ++ (n, Made e) ∷ []) ps (subst (λ (z : List SlotEntry). StandsOut claim lent z) (sym grown) (entry_keeps made claim lent h e s both.0 free.0)) free.1
    (subst (λ (z : List SlotEntry). is_legal_from made z (entries_of ps) ≡ true) (sym grown) both.1))

-- A box that was out, and whose claim is live, is out.
pub out_now : (made : List CoderId) (claim : ℕ) (lent : Lent) (log : Log SlotEntry) → KnowsOut claim lent log → is_legal_slots made (entries_of log) ≡ true → IsLive acquires gives claim log → StandsOut claim lent (entries_of log)
out_now made claim lent log knows legal live =
    let whole : entries_of log ≡ entries_of knows.before ++ entries_of knows.rest = ap entries_of knows.is ∙ entries_both knows.before knows.rest in
    let legal' = subst (λ (z : List SlotEntry). is_legal_slots made z ≡ true) whole legal in
    subst (λ (l : Log SlotEntry). StandsOut claim lent (entries_of l)) (sym knows.is)
    (out_on made claim lent knows.before knows.rest knows.out
    (unspent_rest acquires gives claim [] knows.before knows.rest (subst (λ (l : Log SlotEntry). is_unspent acquires gives claim [] l ≡ true) knows.is live.unspent))
    (legal_rest made [] (entries_of knows.before) (entries_of knows.rest) legal'))
