-- What calls tell a pass.
use Rattle.std.specs.Prelude.{◌≡◌, ◌^◌, ◌≤◌, List, [], ◌∷◌, ◌++◌, length, Option, Some, None}
use Rattle.atomic_table.specs.Seated.{TableId}
use Rattle.codec_accounts.specs.Bags.{SameBag}
use Rattle.shared_port.specs.declared.rule.PortView.{PortView}
use Rattle.shared_port.specs.Rule.{IsCarried}
use Rattle.shared_port.specs.Views.{Posted, Placed, placed_from, AreBefore, with_post, with_receipt, with_mouth, without_mouth, mouth_view}

module _ {M : Type 0} where
  -- How the port stood at one moment, by a pass: `got` was received, and `left` was left behind it. What the pass posted, and
  -- what others had posted, is the whole line, and the same of what was received. A pass with all parts is the only one. What
  -- it knows of the number of receipts is so.
  pub record Stood (v : PortView M) (got left : List (Posted M)) : Type 0 where
    pub others_posted : List (Placed M)
    pub others_received : List (Placed M)
    pub posts : SameBag (v.posted ++ others_posted) (placed_from 0 (got ++ left))
    pub receipts : SameBag (v.received ++ others_received) (placed_from 0 got)
    pub alone : v.parts ≡ 2 ^ 32 → (others_posted ≡ []) × (others_received ≡ [])
    pub known : v.known ≤ length got

  -- this was left at one moment; each post of the pass was in the line, and with the mouth the pass knows what was received
  pub record HadLeft (v : PortView M) (left : List (Posted M)) : Type 0 where
    pub got : List (Posted M)
    pub stood : Stood v got left
    pub posted : AreBefore (length (got ++ left)) v.posted
    pub mouth : v.mouths ≡ 1 → v.got ≡ got

  -- a pass posted x, at the end of the line
  pub record Posts (x : Posted M) (v w : PortView M) : Type 0 where
    pub got : List (Posted M)
    pub left : List (Posted M)
    pub stood : Stood v got left
    pub later : AreBefore (length (got ++ left)) v.posted
    pub view : w ≡ with_post (length (got ++ left), x) v

  -- a pass that has the mouth received x, the first that was left, and it is of the port's pool
  pub record Takes (is_of : TableId → M → Type 0) (x : Posted M) (v w : PortView M) : Type 0 where
    pub left : List (Posted M)
    pub stood : Stood v v.got (x ∷ left)
    pub later : AreBefore (length v.got) v.received
    pub carried : IsCarried is_of v.pool x.1
    pub view : w ≡ with_receipt x v

  -- the same, from without the mouth to without it
  pub record Receives (is_of : TableId → M → Type 0) (x : Posted M) (v w : PortView M) : Type 0 where
    pub got : List (Posted M)
    pub left : List (Posted M)
    pub stood : Stood v got (x ∷ left)
    pub later : AreBefore (length got) v.received
    pub carried : IsCarried is_of v.pool x.1
    pub view : w ≡ without_mouth (with_receipt x (with_mouth v (mouth_view got)))

  -- a pass found nothing left: all that it had posted was received, and it knows from now on that so many were
  pub record FindsNone (v w : PortView M) : Type 0 where
    pub got : List (Posted M)
    pub stood : Stood v got []
    pub all : AreBefore (length got) v.posted
    pub view : w ≡ without_mouth (with_mouth v (mouth_view got))

  abbrev pub ReceiveTells : (TableId → M → Type 0) → Option (Posted M) → PortView M → PortView M → Type 0
  ReceiveTells is_of None v w = FindsNone v w
  ReceiveTells is_of (Some x) v w = Receives is_of x v w

  -- the last pass took the mouth
  pub record Finishes (v w : PortView M) : Type 0 where
    pub got : List (Posted M)
    pub left : List (Posted M)
    pub stood : Stood v got left
    pub view : w ≡ with_mouth v (mouth_view got)
