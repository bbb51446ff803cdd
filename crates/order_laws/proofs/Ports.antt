-- What is posted and what is received, as an order is followed.
use Rattle.std.proofs.Common.{ℕ, zero, suc, ◌≡◌, ◌≢◌, ◌≤◌, ◌<◌, ◌+◌, ◌==◌, ◌⊎◌, inl, inr, if◌then◌else◌, eq-eqb, List, [], ◌∷◌, drop, length, map, Option, Some, None, refl, ap, sym, ◌∙◌, arith}
use Rattle.std.specs.Prelude.{slice_get, slice_set, option_and_then}
use Rattle.std.proofs.lemmas.Bool.{cases_eq, ne_eqb}
use Rattle.std.proofs.lemmas.List.{length-map}
use Rattle.std.proofs.lemmas.Option.{slice_get_within}
use Rattle.wc_base.specs.{Options.some_same, declared.who.Who.Who}
use Rattle.wc_chunk.specs.declared.chunk.Chunk.{Chunk}
use Rattle.codec_accounts.specs.{Owed.at, Owed.append_at}
use Rattle.codec_accounts.specs.ListLaws.{append_at_length, at_empty, result_kept, result_more, result_new}
use Rattle.script_types.specs.declared.{script.PortItem.PortItem, script.ScriptData.ScriptData, steps.Step.Step}
use Rattle.report_text.specs.declared.result.StepResult.{StepResult}
use Rattle.media_variables.specs.Variables.{Received}
use Rattle.run_model.specs.Recorded.{Recorded, none_received}
use Rattle.run_model.specs.Follow.{front_of}
use Rattle.run_model.specs.Fits.{result_in, step_in, made_steps, variables_at, port_posted, port_received, received_from, posted_to, Gets, Posts, IsPosted, WasGot, PortsDeliver}

-- what this step posted waits
abbrev pub Waits : List (List Received) → ℕ → ℕ → ℕ → Type 0
Waits ports port c j = (i : ℕ) × ((q : Received) × ((slice_get (at port ports) i ≡ Some q) × (q.poster ≡ record { caller = c; step = j })))

-- What stands of ports: what waits was posted, in order, behind all that was received; each post was received or waits; and what was
-- received is as it has to be in a run.
pub record PortsStand (s : ScriptData) (media : List (List Chunk)) (w : Recorded) (ports : List (List Received)) : Type 0 where
  pub count : length ports ≡ length s.ports
  pub waits : (port i : ℕ) (p : Received) → slice_get (at port ports) i ≡ Some p → IsPosted s media w port p
  pub found : (port c j : ℕ) → Posts s w port c j → WasGot s w port c j ⊎ Waits ports port c j
  pub later : (port c j i : ℕ) (p q : Received) → Gets s w port c j p → slice_get (at port ports) i ≡ Some q → p.poster.caller ≡ q.poster.caller → p.poster.step < q.poster.step
  pub order : (port i j : ℕ) (p q : Received) → i < j → slice_get (at port ports) i ≡ Some p → slice_get (at port ports) j ≡ Some q → p.poster.caller ≡ q.poster.caller → p.poster.step < q.poster.step
  pub gets : (c j : ℕ) (p : Received) → w.received c j ≡ Some p → (j < made_steps w c) × ((port : ℕ) × Gets s w port c j p)
  pub gave : (port c j : ℕ) (p : Received) → Gets s w port c j p → IsPosted s media w port p
  pub once : (c j d i : ℕ) (p q : Received) → w.received c j ≡ Some p → w.received d i ≡ Some q → p.poster ≡ q.poster → (c ≡ d) × (j ≡ i)
  pub rise : (port c j i : ℕ) (p q : Received) → j < i → Gets s w port c j p → Gets s w port c i q → p.poster.caller ≡ q.poster.caller → p.poster.step < q.poster.step
  pub none : (port c j i : ℕ) → result_in w c j ≡ Some StepResult.Nothing → received_from s c j ≡ Some port → i < j → Posts s w port c i → WasGot s w port c i

-- so the ports deliver what was posted
pub delivers : (s : ScriptData) (media : List (List Chunk)) (w : Recorded) (ports : List (List Received)) → PortsStand s media w ports → PortsDeliver s media w
delivers s media w ports st = record {
  gave = st.gave;
  once = st.once;
  first = λ port c j i p gets lt posts. elim (st.found port p.poster.caller i posts) [
    | inl was ↦ was
    | inr waits ↦ absurd (
        let by = ap (λ (x : Who). x.caller) waits.1.1.1 in
        let place = ap (λ (x : Who). x.step) waits.1.1.1 in
        let below = st.later port c j waits.0 p waits.1.0 gets waits.1.1.0 (sym by) in
        omega (arith, below, place, lt))
  ];
  rise = st.rise;
  none = st.none;
}

-- ---- entries of codecs alone

pub ports_stay : (s : ScriptData) (media : List (List Chunk)) (w v : Recorded) (ports : List (List Received)) → v.callers ≡ w.callers → v.received ≡ w.received
    → ((c j : ℕ) (r : StepResult) → result_in w c j ≡ Some r → variables_at s media v c j ≡ variables_at s media w c j) → PortsStand s media w ports → PortsStand s media v ports
ports_stay s media w v ports callers received same st = record {
  count = st.count;
  waits = λ port i p is. posted port p (st.waits port i p is);
  found = rw (callers, received) st.found;
  later = rw received st.later;
  order = st.order;
  gets = rw (callers, received) st.gets;
  gave = λ port c j p gets. posted port p (st.gave port c j p (rw received at gets));
  once = rw received st.once;
  rise = rw received st.rise;
  none = rw (callers, received) st.none;
}
  where
    posted : (port : ℕ) (p : Received) → IsPosted s media w port p → IsPosted s media v port p
    posted port p h = (rw callers h.0, rw (same p.poster.caller p.poster.step (StepResult.Local None) h.0.0) h.1)

-- ---- one step more of a caller

-- The caller's step with this number came to this, and received this; all else was so before.
pub record OneStep (s : ScriptData) (media : List (List Chunk)) (w v : Recorded) (c n : ℕ) (r : StepResult) (o : Option Received) : Type 0 where
  pub made : made_steps w c ≡ n
  pub more : (b : ℕ) → made_steps w b ≤ made_steps v b
  pub here : n < made_steps v c
  pub kept : (b j : ℕ) (q : StepResult) → result_in w b j ≡ Some q → result_in v b j ≡ Some q
  pub results : (b j : ℕ) (q : StepResult) → result_in v b j ≡ Some q → (result_in w b j ≡ Some q) ⊎ ((b ≡ c) × (j ≡ n) × (q ≡ r))
  pub still : (b j : ℕ) (p : Received) → w.received b j ≡ Some p → v.received b j ≡ Some p
  pub received : (b j : ℕ) (p : Received) → v.received b j ≡ Some p → (w.received b j ≡ Some p) ⊎ ((b ≡ c) × (j ≡ n) × (o ≡ Some p))
  pub variables : (b j : ℕ) (q : StepResult) → result_in w b j ≡ Some q → variables_at s media v b j ≡ variables_at s media w b j

-- What becomes of the ports: so many went out at the front of each, and what the step posted stands at the end.
pub record OneUse (s : ScriptData) (media : List (List Chunk)) (v : Recorded) (c n : ℕ) (r : StepResult) (o : Option Received) (ports after : List (List Received)) : Type 0 where
  pub gone : ℕ → ℕ
  pub count : length after ≡ length ports
  pub old : (port i : ℕ) (p : Received) → slice_get (at port after) i ≡ Some p
      → ((k : ℕ) × (slice_get (at port ports) k ≡ Some p) × (k ≡ i + gone port)) ⊎ ((i + gone port ≡ length (at port ports)) × (p.poster ≡ record { caller = c; step = n }) × IsPosted s media v port p)
  pub stays : (port k : ℕ) (p : Received) → slice_get (at port ports) k ≡ Some p → Gets s v port c n p ⊎ ((i : ℕ) × (slice_get (at port after) i ≡ Some p))
  pub puts : (port : ℕ) → r ≡ StepResult.Local None → (posted_to s c n ≡ Some port) → Waits after port c n
  pub receives : (p : Received) → o ≡ Some p → (port : ℕ) × (received_from s c n ≡ Some port)
  pub front : (port : ℕ) (p : Received) → o ≡ Some p → (received_from s c n ≡ Some port) → (slice_get (at port ports) 0 ≡ Some p) × (0 < gone port)
  pub empty : (port : ℕ) → r ≡ StepResult.Nothing → (received_from s c n ≡ Some port) → at port ports ≡ []

module _ (s : ScriptData) (media : List (List Chunk)) (w v : Recorded) (c n : ℕ) (r : StepResult) (o : Option Received) (ports after : List (List Received)) (st : PortsStand s media w ports) (one : OneStep s media w v c n r o) (uses : OneUse s media v c n r o ports after) where
  abbrev Here : ℕ → ℕ → Type 0
  Here b j = (b ≡ c) × (j ≡ n)

  posts_new : (port b j : ℕ) → Posts s v port b j → Posts s w port b j ⊎ ((b ≡ c) × (j ≡ n) × (r ≡ StepResult.Local None) × (posted_to s c n ≡ Some port))
  posts_new port b j posts = elim (one.results b j (StepResult.Local None) posts.0) [
    | inl was ↦ inl (was, posts.1)
    | inr new ↦ inr (new.0, new.1, sym new.2, rw (new.0, new.1) at posts.1)
  ]

  gets_new : (port b j : ℕ) (p : Received) → Gets s v port b j p → Gets s w port b j p ⊎ ((b ≡ c) × (j ≡ n) × (o ≡ Some p) × (received_from s c n ≡ Some port))
  gets_new port b j p gets = elim (one.received b j p gets.0) [
    | inl was ↦ inl (was, gets.1)
    | inr new ↦ inr (new.0, new.1, new.2, rw (new.0, new.1) at gets.1)
  ]

  posted_old : (port : ℕ) (p : Received) → IsPosted s media w port p → IsPosted s media v port p
  posted_old port p h = ((one.kept p.poster.caller p.poster.step (StepResult.Local None) h.0.0, h.0.1), rw (one.variables p.poster.caller p.poster.step (StepResult.Local None) h.0.0) h.1)

  got_old : (port b j : ℕ) → WasGot s w port b j → WasGot s v port b j
  got_old port b j h = (h.0, (h.1.0, (h.1.1.0, ((one.still h.0 h.1.0 h.1.1.0 h.1.1.1.0.0, h.1.1.1.0.1), h.1.1.1.1))))

  -- what was posted was posted before this step
  before : (port : ℕ) (p : Received) → IsPosted s media w port p → p.poster.step < made_steps w p.poster.caller
  before port p h = slice_get_within (at p.poster.caller w.callers) p.poster.step (StepResult.Local None) h.0.0

  before_new : (port : ℕ) (p q : Received) → IsPosted s media w port p → q.poster ≡ record { caller = c; step = n } → p.poster.caller ≡ q.poster.caller → p.poster.step < q.poster.step
  before_new port p q posted new same =
      let lt = before port p posted in
      let caller : p.poster.caller ≡ c = same ∙ ap (λ (x : Who). x.caller) new in
      let step = ap (λ (x : Who). x.step) new in
      let made = ap (made_steps w) caller ∙ one.made in
      omega (arith, lt, step, made)

  found_new : (port b j : ℕ) → Posts s v port b j → WasGot s v port b j ⊎ Waits after port b j
  found_new port b j posts = elim (posts_new port b j posts) [
    | inr new ↦ inr (rw (new.0, new.1) (uses.puts port new.2 new.3))
    | inl was ↦ elim (st.found port b j was) [
      | inl got ↦ inl (got_old port b j got)
      | inr waits ↦ elim (uses.stays port waits.0 waits.1.0 waits.1.1.0) [
        | inl gets ↦ inl (c, (n, (waits.1.0, (gets, waits.1.1.1))))
        | inr there ↦ inr (there.0, (waits.1.0, (there.1, waits.1.1.1)))
      ]
    ]
  ]

  later_new : (port b j i : ℕ) (p q : Received) → Gets s v port b j p → slice_get (at port after) i ≡ Some q → p.poster.caller ≡ q.poster.caller → p.poster.step < q.poster.step
  later_new port b j i p q gets is same = elim (gets_new port b j p gets) [
    | inl was ↦ elim (uses.old port i q is) [
      | inl k ↦ st.later port b j k.0 p q was k.1 same
      | inr new ↦ before_new port p q (st.gave port b j p was) new.1 same
    ]
    | inr now ↦ (
        let first = uses.front port p now.2 now.3 in
        elim (uses.old port i q is) [
          | inl k ↦ (let le = k.2 in let lt = first.1 in st.order port 0 k.0 p q (omega (arith, le, lt)) first.0 k.1 same)
          | inr new ↦ before_new port p q (st.waits port 0 p first.0) new.1 same
        ])
  ]

  order_new : (port i j : ℕ) (p q : Received) → i < j → slice_get (at port after) i ≡ Some p → slice_get (at port after) j ≡ Some q → p.poster.caller ≡ q.poster.caller → p.poster.step < q.poster.step
  order_new port i j p q lt is there same = elim (uses.old port i p is) [
    | inl k ↦ elim (uses.old port j q there) [
      | inl m ↦ (let a = k.2 in let b = m.2 in st.order port k.0 m.0 p q (omega (arith, a, b, lt)) k.1 m.1 same)
      | inr new ↦ before_new port p q (st.waits port k.0 p k.1) new.1 same
    ]
    | inr end ↦ elim (uses.old port j q there) [
      | inl m ↦ absurd (let a = m.2 in let b = end.0 in let within = slice_get_within (at port ports) m.0 q m.1 in omega (arith, a, b, within, lt))
      | inr new ↦ absurd (let a = new.0 in let b = end.0 in omega (arith, a, b, lt))
    ]
  ]

  gets_there : (b j : ℕ) (p : Received) → v.received b j ≡ Some p → (j < made_steps v b) × ((port : ℕ) × Gets s v port b j p)
  gets_there b j p is = elim (one.received b j p is) [
    | inl was ↦ (let g = st.gets b j p was in let lt = g.0 in let le = one.more b in (omega (arith, lt, le), (g.1.0, (is, g.1.1.1))))
    | inr new ↦ (
        let g = uses.receives p new.2 in
        let here : n < made_steps v b = rw new.0 one.here in
        let from : received_from s b j ≡ Some g.0 = rw (new.0, new.1) g.1 in
        (rw new.1 here, (g.0, (is, from))))
  ]

  -- what was received before is not what waits
  not_again : (b j : ℕ) (p q : Received) → w.received b j ≡ Some p → o ≡ Some q → p.poster ≡ q.poster → ⊥
  not_again b j p q was now same =
      let g = st.gets b j p was in
      let to = uses.receives q now in
      let first = uses.front to.0 q now to.1 in
      let one_is : g.1.0 ≡ to.0 = some_same g.1.0 to.0 (sym (st.gave g.1.0 b j p g.1.1).0.1 ∙ (ap (λ (x : Who). posted_to s x.caller x.step) same ∙ (st.waits to.0 0 q first.0).0.1)) in
      let below = st.later to.0 b j 0 p q (rw one_is at g.1.1) first.0 (ap (λ (x : Who). x.caller) same) in
      let step = ap (λ (x : Who). x.step) same in
      omega (arith, below, step)

  once_new : (b j d i : ℕ) (p q : Received) → v.received b j ≡ Some p → v.received d i ≡ Some q → p.poster ≡ q.poster → (b ≡ d) × (j ≡ i)
  once_new b j d i p q x y same = elim (one.received b j p x) [
    | inl was ↦ elim (one.received d i q y) [
      | inl too ↦ st.once b j d i p q was too same
      | inr new ↦ absurd (not_again b j p q was new.2 same)
    ]
    | inr now ↦ elim (one.received d i q y) [
      | inl too ↦ absurd (not_again d i q p too now.2 (sym same))
      | inr new ↦ (now.0 ∙ sym new.0, now.1 ∙ sym new.1)
    ]
  ]

  rise_new : (port b j i : ℕ) (p q : Received) → j < i → Gets s v port b j p → Gets s v port b i q → p.poster.caller ≡ q.poster.caller → p.poster.step < q.poster.step
  rise_new port b j i p q lt x y same = elim (gets_new port b j p x) [
    | inl was ↦ elim (gets_new port b i q y) [
      | inl too ↦ st.rise port b j i p q lt was too same
      | inr new ↦ st.later port b j 0 p q was (uses.front port q new.2 new.3).0 same
    ]
    | inr now ↦ elim (gets_new port b i q y) [
      | inl too ↦ absurd (let within = (st.gets b i q too.0).0 in let made = ap (made_steps w) now.0 ∙ one.made in let here = now.1 in omega (arith, within, made, here, lt))
      | inr new ↦ absurd (let a = now.1 in let b = new.1 in omega (arith, a, b, lt))
    ]
  ]

  none_new : (port b j i : ℕ) → result_in v b j ≡ Some StepResult.Nothing → received_from s b j ≡ Some port → i < j → Posts s v port b i → WasGot s v port b i
  none_new port b j i is gets lt posts = elim (posts_new port b i posts) [
    | inl old ↦ elim (one.results b j StepResult.Nothing is) [
      | inl was ↦ got_old port b i (st.none port b j i was gets lt old)
      | inr now ↦ elim (st.found port b i old) [
        | inl got ↦ got_old port b i got
        | inr waits ↦ absurd (
            let empty = uses.empty port (sym now.2) (rw (now.0, now.1) at gets) in
            let bad : None ≡ Some waits.1.0 = ap (λ (l : List Received). slice_get l waits.0) (sym empty) ∙ waits.1.1.0 in cc)
      ]
    ]
    | inr new ↦ absurd (elim (one.results b j StepResult.Nothing is) [
      | inl was ↦ (let within = slice_get_within (at b w.callers) j StepResult.Nothing was in let made = ap (made_steps w) new.0 ∙ one.made in let here = new.1 in omega (arith, within, made, here, lt))
      | inr now ↦ (let a = now.1 in let b = new.1 in omega (arith, a, b, lt))
    ])
  ]

  -- what stands after the step
  pub ports_next : PortsStand s media v after
  ports_next = record {
    count = uses.count ∙ st.count;
    waits = λ port i p is. elim (uses.old port i p is) [ inl k ↦ posted_old port p (st.waits port k.0 p k.1) | inr new ↦ new.2 ];
    found = found_new;
    later = later_new;
    order = order_new;
    gets = gets_there;
    gave = λ port b j p gets. elim (gets_new port b j p gets) [ inl was ↦ posted_old port p (st.gave port b j p was) | inr now ↦ posted_old port p (st.waits port 0 p (uses.front port p now.2 now.3).0) ];
    once = once_new;
    rise = rise_new;
    none = none_new;
  }

-- ---- what a step may do with ports

-- it uses none
pub record UsesNone (s : ScriptData) (c n : ℕ) (r : StepResult) : Type 0 where
  pub posts : (port : ℕ) → r ≡ StepResult.Local None → (posted_to s c n ≡ Some port) → ⊥
  pub receives : (port : ℕ) → r ≡ StepResult.Nothing → (received_from s c n ≡ Some port) → ⊥

no_port : (o : Option Step) (x : Step) (f : Step → Option ℕ) (port : ℕ) → o ≡ Some x → f x ≡ None → option_and_then f o ≡ Some port → ⊥
no_port o x f port is none h = (let bad : None ≡ Some port = sym none ∙ (ap (option_and_then f) (sym is) ∙ h) in cc)

-- a step that names no port
pub names_none : (s : ScriptData) (c n : ℕ) (x : Step) (r : StepResult) → step_in s c n ≡ Some x → port_posted x ≡ None → port_received x ≡ None → UsesNone s c n r
names_none s c n x r is posts receives = record { posts = λ port same h. no_port (step_in s c n) x port_posted port is posts h; receives = λ port same h. no_port (step_in s c n) x port_received port is receives h }

pub rests : (s : ScriptData) (media : List (List Chunk)) (v : Recorded) (c n : ℕ) (r : StepResult) (ports : List (List Received)) → UsesNone s c n r → OneUse s media v c n r None ports ports
rests s media v c n r ports none = record {
  gone = λ port. 0;
  count = refl;
  old = λ port i p is. inl (i, is, omega arith);
  stays = λ port k p is. inr (k, is);
  puts = λ port same h. absurd (none.posts port same h);
  receives = λ p is. absurd cc;
  front = λ port p is h. absurd cc;
  empty = λ port same h. absurd (none.receives port same h);
}

-- the step's port is the one that it names
its_port : (o : Option Step) (x : Step) (f : Step → Option ℕ) (m n : ℕ) → o ≡ Some x → f x ≡ Some m → option_and_then f o ≡ Some n → n ≡ m
its_port o x f m n is names h = some_same n m (sym h ∙ (ap (option_and_then f) is ∙ names))

-- it posts this
pub puts_in : (s : ScriptData) (media : List (List Chunk)) (v : Recorded) (c n to : ℕ) (x : Step) (p : Received) (ports : List (List Received)) → to < length ports → step_in s c n ≡ Some x → port_posted x ≡ Some to → port_received x ≡ None
    → p.poster ≡ record { caller = c; step = n } → IsPosted s media v to p → OneUse s media v c n (StepResult.Local None) None ports (append_at to p ports)
puts_in s media v c n to x p ports lt is posts receives poster posted = record {
  gone = λ port. 0;
  count = append_at_length to p ports;
  old = λ port i q there. elim (result_more port to i p q ports there) [
    | inl was ↦ inl (i, was, omega arith)
    | inr new ↦ (let place = new.place in inr (omega (arith, place), ap (λ (y : Received). y.poster) new.value ∙ poster, rw (new.number, new.value) posted))
  ];
  stays = λ port k q there. inr (k, result_kept port to k p q ports there);
  puts = λ port same h. (let here = its_port (step_in s c n) x port_posted to port is posts h in rw here (length (at to ports), (p, (result_new to p ports lt, poster))));
  receives = λ q some. absurd cc;
  front = λ port q some h. absurd cc;
  empty = λ port same h. absurd cc;
}

-- ---- what goes out

pub at_set : {X : Type 0} (k : ℕ) (l : List X) (ls : List (List X)) → k < length ls → at k (slice_set ls k l) ≡ l
at_set k l [] lt = absurd (omega (arith, lt))
at_set zero l (x ∷ ls) lt = refl
at_set (suc k) l (x ∷ ls) lt = at_set k l ls (omega (arith, lt))

pub at_unset : {X : Type 0} (j k : ℕ) (l : List X) (ls : List (List X)) → j ≢ k → at j (slice_set ls k l) ≡ at j ls
at_unset j k l [] other = refl
at_unset zero zero l (x ∷ ls) other = absurd (other refl)
at_unset zero (suc k) l (x ∷ ls) other = refl
at_unset (suc j) zero l (x ∷ ls) other = refl
at_unset (suc j) (suc k) l (x ∷ ls) other = at_unset j k l ls (λ e. other (ap suc e))

set_length : {X : Type 0} (k : ℕ) (l : X) (ls : List X) → length (slice_set ls k l) ≡ length ls
set_length k l [] = refl
set_length zero l (x ∷ ls) = refl
set_length (suc k) l (x ∷ ls) = ap suc (set_length k l ls)

front_at : (l : List Received) (p : Received) → front_of l ≡ Some p → slice_get l 0 ≡ Some p
front_at [] p is = absurd cc
front_at (q ∷ qs) p is = is

none_at : (l : List Received) → front_of l ≡ None → l ≡ []
none_at [] is = refl
none_at (q ∷ qs) is = absurd cc

rest_at : (l : List Received) (i : ℕ) → slice_get (drop 1 l) i ≡ slice_get l (suc i)
rest_at [] i = refl
rest_at (q ∷ qs) i = refl

front_or_rest : (l : List Received) (k : ℕ) (p : Received) → slice_get l k ≡ Some p → (front_of l ≡ Some p) ⊎ ((i : ℕ) × (slice_get (drop 1 l) i ≡ Some p))
front_or_rest [] k p is = absurd cc
front_or_rest (q ∷ qs) zero p is = inl is
front_or_rest (q ∷ qs) (suc k) p is = inr (k, is)

-- one goes out of this port
gone_at : ℕ → ℕ → ℕ
gone_at from port = if port == from then 1 else 0

gone_here : (from : ℕ) → gone_at from from ≡ 1
unfolding gone_at
gone_here from = rw (eq-eqb from from refl) refl

gone_else : (from port : ℕ) → port ≢ from → gone_at from port ≡ 0
unfolding gone_at
gone_else from port other = rw (ne_eqb port from other) refl

-- the step receives the oldest that waits in this port
pub takes_out : (s : ScriptData) (media : List (List Chunk)) (v : Recorded) (c n from : ℕ) (x : Step) (r : StepResult) (ports : List (List Received)) → from < length ports → step_in s c n ≡ Some x → port_received x ≡ Some from → port_posted x ≡ None
    → (r ≡ StepResult.Nothing → front_of (at from ports) ≡ None) → ((p : Received) → front_of (at from ports) ≡ Some p → v.received c n ≡ Some p)
    → OneUse s media v c n r (front_of (at from ports)) ports (slice_set ports from (drop 1 (at from ports)))
takes_out s media v c n from x r ports lt is receives posts nothing got = record {
  gone = gone_at from;
  count = set_length from (drop 1 (at from ports)) ports;
  old = λ port i p there. elim (cases_eq port from) [
    | inl same ↦ (
        let gone = ap (gone_at from) same ∙ gone_here from in
        let rest : slice_get (drop 1 (at from ports)) i ≡ Some p = ap (λ (l : List Received). slice_get l i) (sym (at_set from (drop 1 (at from ports)) ports lt)) ∙ (rw same at there) in
        inl (suc i, ap (λ (k : ℕ). slice_get (at k ports) (suc i)) same ∙ (sym (rest_at (at from ports) i) ∙ rest), omega (arith, gone)))
    | inr other ↦ (
        let gone = gone_else from port other in
        inl (i, ap (λ (l : List Received). slice_get l i) (sym (at_unset port from (drop 1 (at from ports)) ports other)) ∙ there, omega (arith, gone)))
  ];
  stays = λ port k p there. elim (cases_eq port from) [
    | inl same ↦ elim (front_or_rest (at from ports) k p (ap (λ (j : ℕ). slice_get (at j ports) k) (sym same) ∙ there)) [
      | inl first ↦ inl (got p first, ap (option_and_then port_received) is ∙ (receives ∙ ap (λ (j : ℕ). Some j) (sym same)))
      | inr rest ↦ inr (rest.0, ap (λ (j : ℕ). slice_get (at j (slice_set ports from (drop 1 (at from ports)))) rest.0) same ∙ (ap (λ (l : List Received). slice_get l rest.0) (at_set from (drop 1 (at from ports)) ports lt) ∙ rest.1))
    ]
    | inr other ↦ inr (k, ap (λ (l : List Received). slice_get l k) (at_unset port from (drop 1 (at from ports)) ports other) ∙ there)
  ];
  puts = λ port same h. absurd (no_port (step_in s c n) x port_posted port is posts h);
  receives = λ p some. (from, ap (option_and_then port_received) is ∙ receives);
  front = λ port p some h. (
      let here = its_port (step_in s c n) x port_received from port is receives h in
      let gone = ap (gone_at from) here ∙ gone_here from in
      (ap (λ (j : ℕ). slice_get (at j ports) 0) here ∙ front_at (at from ports) p some, omega (arith, gone)));
  empty = λ port same h. (let here = its_port (step_in s c n) x port_received from port is receives h in ap (λ (j : ℕ). at j ports) here ∙ none_at (at from ports) (nothing same));
}

-- nothing waits, and nothing was received, before the first step
pub nothing_in_ports : (s : ScriptData) (media : List (List Chunk)) (w : Recorded) → w.callers ≡ map (λ c. []) s.callers → w.received ≡ none_received → PortsStand s media w (map (λ p. []) s.ports)
nothing_in_ports s media w callers received = record {
  count = length-map s.ports _;
  waits = λ port i p is. absurd (empty port i p is);
  found = λ port c j posts. absurd (unmade c j (StepResult.Local None) posts.0);
  later = λ port c j i p q gets is same. absurd (empty port i q is);
  order = λ port i j p q lt is there same. absurd (empty port i p is);
  gets = λ c j p is. absurd (ungot c j p is);
  gave = λ port c j p gets. absurd (ungot c j p gets.0);
  once = λ c j d i p q is there same. absurd (ungot c j p is);
  rise = λ port c j i p q lt is there same. absurd (ungot c j p is.0);
  none = λ port c j i is gets lt posts. absurd (unmade c j StepResult.Nothing is);
}
  where
    empty : (port i : ℕ) (p : Received) → slice_get (at port (map (λ (x : PortItem). []) s.ports)) i ≡ Some p → ⊥
    empty port i p is = (let bad : None ≡ Some p = ap (λ (l : List Received). slice_get l i) (sym (at_empty port s.ports)) ∙ is in cc)

    unmade : (c j : ℕ) (r : StepResult) → result_in w c j ≡ Some r → ⊥
    unmade c j r is = (let bad : None ≡ Some r = ap (λ (l : List StepResult). slice_get l j) (sym (at_empty c s.callers)) ∙ (ap (λ (ls : List (List StepResult)). slice_get (at c ls) j) (sym callers) ∙ is) in cc)

    ungot : (c j : ℕ) (p : Received) → w.received c j ≡ Some p → ⊥
    ungot c j p is = (let bad : None ≡ Some p = ap (λ (f : ℕ → ℕ → Option Received). f c j) (sym received) ∙ is in cc)
