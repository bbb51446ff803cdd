-- What ports deliver, from what the passes of each port know together.
use Rattle.std.proofs.Common.{ℕ, ◌<◌, ◌≡◌, inl, inr, List, Some, ap, sym, subst, ◌∙◌, arith}
use Rattle.std.proofs.lemmas.Bool.{cases_lt}
use Rattle.wc_base.specs.Options.{some_same}
use Rattle.wc_base.specs.declared.who.Who.{Who}
use Rattle.wc_chunk.specs.declared.chunk.Chunk.{Chunk}
use Rattle.codec_model.specs.declared.entry.Entry.{Entry}
use Rattle.script_types.specs.declared.script.ScriptData.{ScriptData}
use Rattle.media_variables.specs.Variables.{Received}
use Rattle.media_accounts.specs.Accounts.{step_by}
use Rattle.order_laws.specs.Sound.{IsSound}
use Rattle.report_text.specs.declared.result.StepResult.TheVariants as result
use Rattle.run_model.specs.Fits.{Posts, IsPosted, WasGot, PortsDeliver, posted_to, received_from, result_in}
use Rattle.run_model.specs.Recorded.{Recorded}
use Rattle.desk_callers.specs.Deeds.{Deed}
use Rattle.port_laws.specs.PortAccounts.{CallersMade, PortsMade}
use Rattle.port_laws.proofs.Deeds.{recorded, received_at, got_by, gets, posted_by, poster_of, is_posted, found_nothing}
use Rattle.port_laws.proofs.Matching.{GotBy, PostedBy, Matches, matches}

module _ (s : ScriptData) (media : List (List Chunk)) (hs : List (List Entry)) (deeds : List (List Deed)) (run : Recorded) (sound : IsSound s) (ports : PortsMade s media deeds) (made : CallersMade s media hs deeds run) where
  by_got : (q c j : ℕ) (p : Received) → GotBy s media q deeds c j p → Matches s media q deeds
  by_got q c j p h = matches s media q deeds (ports q (sound.receives c j q h.0.step (recorded s media hs deeds run made c j h.0 h.1.0).step h.1.1.port))

  were_got : (q c i : ℕ) (p : Received) (m : Matches s media q deeds) → PostedBy s media q deeds c i p → m.place c i < m.count → WasGot s run q c i
  were_got q c i p m h lt =
      let g = m.were c i p h lt in
      (g.0, (g.1.0, (p, (gets s media hs deeds run made q g.0 g.1.0 p g.1.1, poster_of s media hs deeds run made q c i p h))))

  gave : (q c j : ℕ) (p : Received) → GotBy s media q deeds c j p → IsPosted s media run q p
  gave q c j p h = let f = (by_got q c j p h).gave c j p h in is_posted s media hs deeds run made q f.0 f.1.0 p f.1.1.0

  -- receipts of one post, from one port
  once_of : (q c j d i : ℕ) (p r : Received) → GotBy s media q deeds c j p → GotBy s media q deeds d i r → p.poster ≡ r.poster → (c ≡ d) × (j ≡ i)
  once_of q c j d i p r g h same =
      let m = by_got q c j p g in
      let a = m.gave c j p g in
      let b = m.gave d i r h in
      let who : step_by a.0 a.1.0 ≡ step_by b.0 b.1.0 = sym (poster_of s media hs deeds run made q a.0 a.1.0 p a.1.1.0) ∙ (same ∙ poster_of s media hs deeds run made q b.0 b.1.0 r b.1.1.0) in
      let place : m.place a.0 a.1.0 ≡ m.place b.0 b.1.0 = ap (λ (w : Who). m.place w.caller w.step) who in
      m.once c j d i p r g h (sym a.1.1.1 ∙ (place ∙ b.1.1.1))

  -- a post goes into one port
  one_port : (q o : ℕ) (p r : Received) → IsPosted s media run q p → IsPosted s media run o r → p.poster ≡ r.poster → o ≡ q
  one_port q o p r a b same = some_same o q (sym b.0.1 ∙ (ap (λ (w : Who). posted_to s w.caller w.step) (sym same) ∙ a.0.1))

  pub once : (c j d i : ℕ) (p r : Received) → run.received c j ≡ Some p → run.received d i ≡ Some r → p.poster ≡ r.poster → (c ≡ d) × (j ≡ i)
  once c j d i p r a b same =
      let x = received_at s media hs deeds run made c j p a in
      let y = received_at s media hs deeds run made d i r b in
      let e = one_port x.0 y.0 p r (gave x.0 c j p x.1) (gave y.0 d i r y.1) same in
      once_of x.0 c j d i p r x.1 (subst (λ (q : ℕ). GotBy s media q deeds d i r) e y.1) same

  first : (q c j i : ℕ) (p : Received) → GotBy s media q deeds c j p → i < p.poster.step → Posts s run q p.poster.caller i → WasGot s run q p.poster.caller i
  first q c j i p g lt posts =
      let m = by_got q c j p g in
      let a = m.gave c j p g in
      let who = poster_of s media hs deeds run made q a.0 a.1.0 p a.1.1.0 in
      let caller : p.poster.caller ≡ a.0 = ap (λ (w : Who). w.caller) who in
      let step : p.poster.step ≡ a.1.0 = ap (λ (w : Who). w.step) who in
      let w = posted_by s media hs deeds run made q a.0 i (subst (λ (n : ℕ). Posts s run q n i) caller posts) in
      let before = m.posts_rise a.0 i a.1.0 w.0 p (omega (arith, lt, step)) w.1 a.1.1.0 in
      let within = m.within c j p g in
      let place = a.1.1.1 in
      subst (λ (n : ℕ). WasGot s run q n i) (sym caller) (were_got q a.0 i w.0 m w.1 (omega (arith, before, within, place)))

  rise : (q c j i : ℕ) (p r : Received) → j < i → GotBy s media q deeds c j p → GotBy s media q deeds c i r → p.poster.caller ≡ r.poster.caller → p.poster.step < r.poster.step
  rise q c j i p r lt g h same =
      let m = by_got q c j p g in
      let a = m.gave c j p g in
      let b = m.gave c i r h in
      let one = poster_of s media hs deeds run made q a.0 a.1.0 p a.1.1.0 in
      let two = poster_of s media hs deeds run made q b.0 b.1.0 r b.1.1.0 in
      let caller : a.0 ≡ b.0 = sym (ap (λ (w : Who). w.caller) one) ∙ (same ∙ ap (λ (w : Who). w.caller) two) in
      let step : p.poster.step ≡ a.1.0 = ap (λ (w : Who). w.step) one in
      let other : r.poster.step ≡ b.1.0 = ap (λ (w : Who). w.step) two in
      let posted = subst (λ (n : ℕ). PostedBy s media q deeds n a.1.0 p × (m.place n a.1.0 ≡ m.place c j)) caller a.1.1 in
      let rising = m.gets_rise c j i p r lt g h in
      let at_a = posted.1 in
      let at_b = b.1.1.1 in
      elim (cases_lt a.1.0 b.1.0) [
        | inl less ↦ omega (arith, less, step, other)
        | inr le ↦ elim (cases_lt b.1.0 a.1.0) [
          | inl more ↦ absurd (let back = m.posts_rise b.0 b.1.0 a.1.0 r p more b.1.1.0 posted.0 in omega (arith, back, rising, at_a, at_b))
          | inr ge ↦ absurd (let equal : a.1.0 ≡ b.1.0 = omega (arith, le, ge) in let place = ap (m.place b.0) equal in omega (arith, place, rising, at_a, at_b))
        ]
      ]

  none : (q c j i : ℕ) → result_in run c j ≡ Some result.Nothing → received_from s c j ≡ Some q → i < j → Posts s run q c i → WasGot s run q c i
  none q c j i nothing from lt posts =
      let h = found_nothing s media hs deeds run made q c j nothing from in
      let m = matches s media q deeds (ports q (sound.receives c j q h.0.step (recorded s media hs deeds run made c j h.0 h.1.0).step h.1.1.port)) in
      let w = posted_by s media hs deeds run made q c i posts in
      were_got q c i w.0 m w.1 (m.nothing c i j w.0 lt w.1 h)

  pub delivers : PortsDeliver s media run
  delivers = record {
    gave = λ q c j p g. gave q c j p (got_by s media hs deeds run made q c j p g);
    once = once;
    first = λ q c j i p g lt posts. first q c j i p (got_by s media hs deeds run made q c j p g) lt posts;
    rise = λ q c j i p r lt g h same. rise q c j i p r lt (got_by s media hs deeds run made q c j p g) (got_by s media hs deeds run made q c i r h) same;
    none = none;
  }
