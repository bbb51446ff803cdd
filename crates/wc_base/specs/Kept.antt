-- What contracts see of a sink in memory, and what a write leaves.
use Rattle.std.specs.Prelude.{ℕ, ◌-◌, ◌/◌, Bool, ◌||◌, nat_lt, nat_eq, List, [], ◌++◌, length, take, if◌then◌else◌}
use Rattle.std.specs.List.{list_any}
use Rattle.wc_base.specs.Up.{up}

-- the bytes, the room, the numbers of the writes that fail, and how many were made and failed
pub record Kept : Type 0 where
  pub bytes : List ℕ
  pub room : ℕ
  pub fails : List ℕ
  pub calls : ℕ
  pub faults : ℕ

-- the piece is longer than what is left of the room
abbrev pub is_beyond : Kept → List ℕ → Bool
is_beyond s piece = nat_lt (s.room - length s.bytes) (length piece)

-- the next call is a listed one
abbrev pub is_listed : Kept → Bool
is_listed s = list_any (λ k. nat_eq k s.calls) s.fails

-- the next write of the piece fails
abbrev pub fails_at : Kept → List ℕ → Bool
fails_at s piece = is_beyond s piece || is_listed s

-- what the next write appends
abbrev pub taken : Kept → List ℕ → List ℕ
taken s piece = if is_beyond s piece then [] else (if is_listed s then take (length piece / 2) piece else piece)

-- the sink after a write
abbrev pub after_write : Kept → List ℕ → Kept
after_write s piece = record {
  bytes = s.bytes ++ taken s piece;
  room = s.room;
  fails = s.fails;
  calls = up s.calls;
  faults = if fails_at s piece then up s.faults else s.faults;
}
