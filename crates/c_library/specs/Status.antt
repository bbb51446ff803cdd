-- What calls answer.
use Rattle.std.specs.Prelude.{ℕ, nat_le, List, ◌++◌, drop, length, if◌then◌else◌}

-- all is done, and stands where it is to stand
abbrev pub done : ℕ
done = 0

-- what was handed in is no coded data of its kind
abbrev pub refused : ℕ
refused = 1

-- memory was wanted
abbrev pub no_memory : ℕ
no_memory = 2

-- what there is to write does not fit the room
abbrev pub too_small : ℕ
too_small = 3

-- an argument is out of its range
abbrev pub invalid : ℕ
invalid = 4

-- what was handed in ends before it is whole
abbrev pub need_more : ℕ
need_more = 8

-- what a call answers that puts values into some room
abbrev pub fill_status : {A : Type 0} → List A → List A → ℕ
fill_status values room = if nat_le (length values) (length room) then done else too_small

-- the room with the values at its front, where they fit
abbrev pub filled : {A : Type 0} → List A → List A → List A
filled values room = if nat_le (length values) (length room) then values ++ drop (length values) room else room
