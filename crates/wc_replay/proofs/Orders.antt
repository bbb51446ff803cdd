-- Items of an order, followed one after another.
use Rattle.std.proofs.Common.{ℕ, ◌≡◌, ◌+◌, ◌<◌, Bool, List, [], ◌∷◌, ◌++◌, take, length, get_or, Some, ap, sym, refl}
use Rattle.std.specs.Prelude.{slice_get}
use Rattle.std.proofs.lemmas.List.{take_more}
use Rattle.std.proofs.lemmas.Option.{slice_get_within, slice_get-get_or, get_or_from_slice_get}
use Rattle.wc_chunk.specs.declared.chunk.Chunk.{Chunk}
use Rattle.script_types.specs.declared.script.{OrderItem.OrderItem, ScriptData.ScriptData}
use Rattle.run_model.specs.Follow.{order_items, Course, follow_item, Follows}
use Rattle.order_laws.specs.Ends.{is_listed_end, course_with}

-- the item that a slice of the order has at an index
pub item_at : (order items : List OrderItem) (i : ℕ) (d : OrderItem) → items ≡ order → i < length items → slice_get order i ≡ Some (get_or items i d)
item_at order items i d is lt = rw (sym is) (slice_get-get_or items i d lt)

-- one more item of an order
pub follows_more : (s : ScriptData) (media : List (List Chunk)) (xs : List OrderItem) (x : OrderItem) (wants : Bool) (v u : Course) → Follows s media xs v u → Follows s media (xs ++ x ∷ []) v (follow_item s media wants x u)
follows_more s media [] x wants v u follows = (wants, ap (follow_item s media wants x) follows)
follows_more s media (y ∷ ys) x wants v u follows = (follows.0, follows_more s media ys x wants (follow_item s media follows.0 y v) u follows.1)

-- what is followed before the item with this number, and after it
pub follows_to : (s : ScriptData) (media : List (List Chunk)) (i : ℕ) (x : OrderItem) (wants : Bool) (v u next : Course) → slice_get (order_items s) i ≡ Some x → Follows s media (take i (order_items s)) v u → next ≡ follow_item s media wants x u → Follows s media (take (i + 1) (order_items s)) v next
follows_to s media i x wants v u next h follows is =
    rw (is, take_more (order_items s) i x (slice_get_within (order_items s) i x h), get_or_from_slice_get (order_items s) i x x h) (follows_more s media (take i (order_items s)) x wants v u follows)

-- ---- where the listed ends want memory

-- what is made then follows
pub with_follows : (listed : List (ℕ × ℕ)) (s : ScriptData) (media : List (List Chunk)) (xs : List OrderItem) (v : Course) → Follows s media xs v (course_with listed s media xs v)
with_follows listed s media [] v = refl
with_follows listed s media (x ∷ xs) v = (is_listed_end listed x v, with_follows listed s media xs (follow_item s media (is_listed_end listed x v) x v))

course_more : (listed : List (ℕ × ℕ)) (s : ScriptData) (media : List (List Chunk)) (xs : List OrderItem) (x : OrderItem) (v : Course) → let u = course_with listed s media xs v in course_with listed s media (xs ++ x ∷ []) v ≡ follow_item s media (is_listed_end listed x u) x u
course_more listed s media [] x v = refl
course_more listed s media (y ∷ ys) x v = course_more listed s media ys x (follow_item s media (is_listed_end listed y v) y v)

-- what is made before the item with this number, and after it
pub course_to : (listed : List (ℕ × ℕ)) (s : ScriptData) (media : List (List Chunk)) (i : ℕ) (x : OrderItem) (v u next : Course) → slice_get (order_items s) i ≡ Some x → u ≡ course_with listed s media (take i (order_items s)) v
    → next ≡ follow_item s media (is_listed_end listed x u) x u → next ≡ course_with listed s media (take (i + 1) (order_items s)) v
course_to listed s media i x v u next h made is =
    rw (is, made, take_more (order_items s) i x (slice_get_within (order_items s) i x h), get_or_from_slice_get (order_items s) i x x h) (sym (course_more listed s media (take i (order_items s)) x v))
