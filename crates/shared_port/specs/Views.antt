-- What a pass knows of its port, and what calls make of it.
use Rattle.std.specs.Prelude.{ℕ, suc, ◌+◌, ◌-◌, ◌^◌, ◌<◌, max, List, [], ◌∷◌, ◌++◌, length, Option, Some, None}
use Rattle.atomic_table.specs.Seated.{TableId}
use Rattle.wc_base.specs.declared.who.Who.{Who}
use Rattle.shared_port.specs.declared.rule.PortView.{PortView}

-- what was posted, with the step that posted it
abbrev pub Posted : Type 0 → Type 0
Posted M = Who × M

-- a post with its place in the port's line
abbrev pub Placed : Type 0 → Type 0
Placed M = ℕ × Posted M

-- posts with their places, of which the first is n
abbrev pub placed_from : {X : Type 0} → ℕ → List X → List (ℕ × X)
placed_from n [] = []
placed_from n (x ∷ xs) = (n, x) ∷ placed_from (suc n) xs

-- each place is before n
abbrev pub AreBefore : {X : Type 0} → ℕ → List (ℕ × X) → Type 0
AreBefore n [] = Unit {0}
AreBefore n (p ∷ ps) = (p.0 < n) × AreBefore n ps

module _ {M : Type 0} where
  -- the view of a line's first pass, which has all the parts and the mouth, before the port has a pool
  abbrev pub first_view : PortView M
  first_view = record { parts = 2 ^ 32; pool = None; posted = []; received = []; known = 0; mouths = 1; got = [] }

  -- the view of a pass that has the mouth of the line and nothing else
  abbrev pub mouth_view : List (Posted M) → PortView M
  mouth_view got = record { parts = 0; pool = None; posted = []; received = []; known = 0; mouths = 1; got = got }

  -- what is left of a view that was joined to another
  abbrev pub spent_view : PortView M
  spent_view = record { parts = 0; pool = None; posted = []; received = []; known = 0; mouths = 0; got = [] }

  -- a view of a port for this pool, with the parts of v and without the mouth
  abbrev pub opened : Option TableId → PortView M → PortView M
  opened pool v = record { parts = v.parts; pool = pool; posted = []; received = []; known = 0; mouths = 0; got = [] }

  -- the view of the first pass of a port for this pool
  abbrev pub first_in : TableId → PortView M
  first_in pool = opened (Some pool) first_view

  -- one part less
  abbrev pub less_part : PortView M → PortView M
  less_part v = record { parts = v.parts - 1; pool = v.pool; posted = v.posted; received = v.received; known = v.known; mouths = v.mouths; got = v.got }

  -- a view with one part, which has posted and received nothing
  abbrev pub one_part : PortView M → PortView M
  one_part v = record { parts = 1; pool = v.pool; posted = []; received = []; known = 0; mouths = 0; got = [] }

  -- v with the parts of w, and with what w posted, received and knows
  abbrev pub joined : PortView M → PortView M → PortView M
  joined v w = record { parts = v.parts + w.parts; pool = v.pool; posted = v.posted ++ w.posted; received = v.received ++ w.received; known = max v.known w.known; mouths = v.mouths + w.mouths; got = v.got }

  -- v with the mouth that w has
  abbrev pub with_mouth : PortView M → PortView M → PortView M
  with_mouth v w = record { parts = v.parts; pool = v.pool; posted = v.posted; received = v.received; known = v.known; mouths = w.mouths; got = w.got }

  -- v without the mouth, by which it knows how many were received
  abbrev pub without_mouth : PortView M → PortView M
  without_mouth v = record { parts = v.parts; pool = v.pool; posted = v.posted; received = v.received; known = length v.got; mouths = 0; got = [] }

  -- one more post
  abbrev pub with_post : Placed M → PortView M → PortView M
  with_post p v = record { parts = v.parts; pool = v.pool; posted = v.posted ++ p ∷ []; received = v.received; known = v.known; mouths = v.mouths; got = v.got }

  -- one more that was received, by the view that has the mouth
  abbrev pub with_receipt : Posted M → PortView M → PortView M
  with_receipt x v = record { parts = v.parts; pool = v.pool; posted = v.posted; received = v.received ++ (length v.got, x) ∷ []; known = v.known; mouths = v.mouths; got = v.got ++ x ∷ [] }
