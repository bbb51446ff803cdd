-- The start whose item is at work, and how its acquire went.
use Rattle.std.proofs.Common.{ℕ, suc, ◌+◌, ◌≡◌, ◌<◌, inl, inr, Bool, true, cond, List, [], ◌∷◌, ◌++◌, length, Option, Some, None, is_some, refl, ap, sym, subst, ◌∙◌, arith}
use Rattle.std.specs.Prelude.{slice_get}
use Rattle.wc_base.specs.declared.who.By.{By}
use Rattle.wc_base.specs.declared.who.By.TheVariants as by
use Rattle.wc_config.specs.declared.codec.CoderId.{CoderId}
use Rattle.coder_api.specs.declared.slot.SlotEntry.{SlotEntry}
use Rattle.slot_registry.specs.Boxes.{least_free, out_of, made_of}
use Rattle.slot_registry.specs.Slots.{SlotsValue, acquire_op}
use Rattle.codec_model.specs.declared.entry.Outcome.{Outcome}
use Rattle.codec_model.specs.declared.entry.Outcome.TheVariants as outcome
use Rattle.codec_model.specs.declared.entry.Running.{Running}
use Rattle.codec_model.specs.Replay.{State}
use Rattle.codec_accounts.specs.Boxes.{Act, Asks, Begins, Ends, Removes, Other, start_after, start_from, start_in, Holds}
use Rattle.codec_accounts.specs.Registry.{BoxOut, Return, Box, IsRefusedAt, EndSays}
use Rattle.codec_accounts.specs.Codec.{Holding, BoxStep, Keep, Give, box_step, after_give, holding_by, slots_after, holding_after}
use Rattle.codec_accounts.specs.ActLaws.{ActMakes}
use Rattle.codec_accounts.specs.ListLaws.{get_end, get_more, get_kept}
use Rattle.codec_accounts.specs.SlotLaws.{Moves}
use Rattle.codec_accounts.specs.HoldingLaws.{Has}

-- a cause was refused by this entry of the registry, or by none
abbrev pub RefusalIs : List SlotEntry → By → Option ℕ → Type 0
RefusalIs slots cause None = (n : ℕ) → IsRefusedAt slots n cause → ⊥
RefusalIs slots cause (Some n) = IsRefusedAt slots n cause

-- the start of the item at work, and the refusal that its codec knows
pub record StartAt (k : ℕ) (acts : List Act) (n : ℕ) (refusal : Option ℕ) (slots : List SlotEntry) : Type 0 where
  pub place : ℕ
  pub starts : start_in acts ≡ Some place
  pub below : place < n
  pub refusal_is : RefusalIs slots (by.Codec k place) refusal

-- while an item is at work
abbrev pub Started : ℕ → List Act → ℕ → Option Running → Option ℕ → List SlotEntry → Type 0
Started k acts n running refusal slots = is_some running ≡ true → StartAt k acts n refusal slots

start_snoc : (place n : ℕ) (since : Option ℕ) (acts : List Act) (a : Act) → n ≡ place + length acts → start_from place since (acts ++ a ∷ []) ≡ start_after a n (start_from place since acts)
start_snoc place n since [] a h = let e : place ≡ n = omega (arith, h) in ap (λ (m : ℕ). start_after a m since) e
start_snoc place n since (x ∷ xs) a h = start_snoc (suc place) n (start_after x place since) xs a (omega (arith, h))

start_more : (acts : List Act) (a : Act) (n : ℕ) → length acts ≡ n → start_in (acts ++ a ∷ []) ≡ start_after a n (start_in acts)
start_more acts a n h = start_snoc 0 n None acts a (omega (arith, h))

-- a start stands before the entries that come
start_below : (place n : ℕ) (since : Option ℕ) (acts : List Act) (p : ℕ) → n ≡ place + length acts → ((q : ℕ) → since ≡ Some q → q < place) → start_from place since acts ≡ Some p → p < n
start_below place n since [] p h before is = let lt = before p is in omega (arith, lt, h)
start_below place n since (x ∷ xs) p h before is = start_below (suc place) n (start_after x place since) xs p (omega (arith, h)) (λ q at. by_act x q at) is
  where
    here : (q : ℕ) → Some place ≡ Some q → q < suc place
    here q e = let same : place ≡ q = cc in omega (arith, same)

    by_act : (a : Act) (q : ℕ) → start_after a place since ≡ Some q → q < suc place
    by_act (Asks id) q e = here q e
    by_act Begins q e = here q e
    by_act Ends q e = absurd cc
    by_act Removes q e = let lt = before q e in omega (arith, lt)
    by_act Other q e = let lt = before q e in omega (arith, lt)

pub start_within : (acts : List Act) (p : ℕ) → start_in acts ≡ Some p → p < length acts
start_within acts p is = start_below 0 (length acts) None acts p (omega arith) (λ q bad. absurd cc) is

ask_refusal : (cause : By) (id : CoderId) (out all : ℕ) (o : Option ℕ) (h : List SlotEntry) → ((n : ℕ) → IsRefusedAt h n cause → ⊥) → RefusalIs (h ++ record { by = cause; op = acquire_op id out all o } ∷ []) cause (holding_by cause id (length h) o).refusal
ask_refusal cause id out all None h fresh = record { id = id; out = out; made = all; stands = get_end h _ }
ask_refusal cause id out all (Some m) h fresh = λ n r. elim (get_more h _ n _ r.stands) [
  | inl k ↦ fresh n (record { id = r.id; out = r.out; made = r.made; stands = k })
  | inr k ↦ (let bad = ap (λ (x : SlotEntry). x.op) k.1 in absurd cc)
]

-- nothing was given or asked for
same_start : (k : ℕ) (acts : List Act) (a : Act) (n : ℕ) (refusal : Option ℕ) (slots : List SlotEntry) → length acts ≡ n → start_after a n (start_in acts) ≡ start_in acts → StartAt k acts n refusal slots → StartAt k (acts ++ a ∷ []) (suc n) refusal slots
same_start k acts a n refusal slots h same at = record {
  place = at.place;
  starts = start_more acts a n h ∙ (same ∙ at.starts);
  below = (let lt = at.below in omega (arith, lt));
  refusal_is = at.refusal_is;
}

-- How the start of the item at work stands after an entry. `fresh` says that the entry's cause was refused nothing before.
pub starts_more : (k : ℕ) (a : Act) (t u : State) (x : Holds Box) (h : Holding) (s : SlotsValue) (acts : List Act) → Has k t x h s.history → ActMakes a t u → length acts ≡ x.place
    → ((n : ℕ) → IsRefusedAt (after_give (by.Codec k x.place) h.box s).history n (by.Codec k x.place) → ⊥) → ((n : ℕ) → IsRefusedAt s.history n (by.Codec k x.place) → ⊥)
    → Started k acts x.place t.control.running h.refusal s.history
    → Started k (acts ++ a ∷ []) (suc x.place) u.control.running (holding_after (by.Codec k x.place) (box_step a t.control h.refusal) h s).refusal (slots_after (by.Codec k x.place) (box_step a t.control h.refusal) h.box s).history
starts_more k (Asks id) t u x h s acts has makes len given fresh was runs =
    let cause : By = by.Codec k x.place in
    let g = after_give cause h.box s in
    record {
      place = x.place;
      starts = start_more acts (Asks id) x.place len;
      below = omega arith;
      refusal_is = ask_refusal cause id (out_of id g.made g.history) (made_of id g.made) (least_free id g.made g.history) g.history given;
    }
starts_more k Begins t u x h s acts has makes len given fresh was runs = record {
  place = x.place;
  starts = start_more acts Begins x.place len;
  below = omega arith;
  refusal_is = subst (λ (o : Option ℕ). RefusalIs s.history (by.Codec k x.place) o) (sym (no_refusal h.refusal refl)) fresh;
}
  where
    no_refusal : (o : Option ℕ) → h.refusal ≡ o → h.refusal ≡ None
    no_refusal None is = is
    no_refusal (Some n) is = let needs = has.needs n is in absurd (let bad = sym needs.is_running ∙ makes.idle in cc)
starts_more k Ends t u x h s acts has makes len given fresh was runs = absurd (let bad = sym (ap is_some makes.1) ∙ runs in cc)
starts_more k Removes t u x h s acts has makes len given fresh was runs =
    let was_running : is_some t.control.running ≡ true = sym (ap is_some makes.0.running) ∙ runs in
    let at = same_start k acts Removes x.place h.refusal s.history len refl (was was_running) in
    subst (λ (b : BoxStep). StartAt k (acts ++ Removes ∷ []) (suc x.place) (holding_after (by.Codec k x.place) b h s).refusal (slots_after (by.Codec k x.place) b h.box s).history) (sym (ap (λ (c : Bool). cond c Keep Give) was_running)) at
starts_more k Other t u x h s acts has makes len given fresh was runs =
    same_start k acts Other x.place h.refusal s.history len refl (was (sym (ap is_some makes.0.running) ∙ runs))

-- ---- as the registry's history grows

-- what was refused by a cause that is not the new one stays
pub refusal_stays : (cause c : By) (asks : List CoderId) (out : List BoxOut) (back : List Return) (s u : SlotsValue) (o : Option ℕ) → Moves cause asks out back s u → (c ≡ cause → ⊥) → RefusalIs s.history c o → RefusalIs u.history c o
refusal_stays cause c asks out back s u None m other none = λ n r. elim (m.refusals_are n c r) [ inl k ↦ none n k | inr k ↦ other k ]
refusal_stays cause c asks out back s u (Some n) m other r = record {
  id = r.id;
  out = r.out;
  made = r.made;
  stands = ap (λ (l : List SlotEntry). slice_get l n) m.longer ∙ get_kept s.history m.more n _ r.stands;
}

pub says_more : (cause c : By) (asks : List CoderId) (out : List BoxOut) (back : List Return) (s u : SlotsValue) (o : Outcome) → Moves cause asks out back s u → (c ≡ cause → ⊥) → EndSays s.history c o → EndSays u.history c o
says_more cause c asks out back s u (outcome.NoSlot n) m other says = refusal_stays cause c asks out back s u (Some n) m other says
says_more cause c asks out back s u outcome.NoMemory m other says = tt
says_more cause c asks out back s u outcome.Refused m other says = refusal_stays cause c asks out back s u None m other says
says_more cause c asks out back s u (outcome.Ran units) m other says = refusal_stays cause c asks out back s u None m other says

-- an end says how the acquire went of which its codec knows
abbrev pub EndFits : Option ℕ → Outcome → Type 0
EndFits refusal (outcome.NoSlot n) = refusal ≡ Some n
EndFits refusal outcome.NoMemory = Unit {0}
EndFits refusal outcome.Refused = refusal ≡ None
EndFits refusal (outcome.Ran units) = refusal ≡ None

pub says_now : (slots : List SlotEntry) (cause : By) (refusal : Option ℕ) (o : Outcome) → RefusalIs slots cause refusal → EndFits refusal o → EndSays slots cause o
says_now slots cause refusal (outcome.NoSlot n) r fits = subst (λ (q : Option ℕ). RefusalIs slots cause q) fits r
says_now slots cause refusal outcome.NoMemory r fits = tt
says_now slots cause refusal outcome.Refused r fits = subst (λ (q : Option ℕ). RefusalIs slots cause q) fits r
says_now slots cause refusal (outcome.Ran units) r fits = subst (λ (q : Option ℕ). RefusalIs slots cause q) fits r
