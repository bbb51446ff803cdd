-- What one thread did with its seats at a codec, at its registry and at its pool.
use Rattle.std.proofs.Common.{ℕ, ◌≡◌, List, [], ◌∷◌, ◌++◌, map, refl}
use Rattle.std.specs.Prelude.{Option, None, Some}
use Rattle.wc_base.specs.declared.who.By.TheVariants as by
use Rattle.wc_base.specs.declared.seat.View.{View}
use Rattle.wc_config.specs.declared.codec.CoderId.{CoderId}
use Rattle.wc_pool.specs.declared.entry.{PoolEntry.PoolEntry, PoolOp.PoolOp}
use Rattle.wc_pool.specs.declared.reference.MediaRef.{MediaRef}
use Rattle.coder_api.specs.Lent.{Lent}
use Rattle.coder_api.specs.declared.slot.SlotEntry.{SlotEntry}
use Rattle.codec_media.specs.Holding.{pair_of}
use Rattle.seat_lock.specs.Logs.{entries_of}
use Rattle.seat_lock.specs.Since.{MadeSince}
use Rattle.seat_lock.specs.SinceLaws.{made_none, made_then}
use Rattle.codec_logs.specs.declared.event.Event.{Event}
use Rattle.shared_codec.specs.Dues.{DoFor, ends_at, gives_of, given_if}
use Rattle.shared_codec.specs.Owes.{Owes, OwesBack, owes_none, owes_then}
use Rattle.shared_codec.specs.Shared.{Shared}
use Rattle.shared_codec.specs.Told.{Ending, AreTold}
use Rattle.shared_codec.specs.ToldLaws.{told_later, told_both}
use Rattle.shared_codec.specs.Workers.{EndsAll}

-- each of these is by an entry of the codec k
abbrev pub AreOfCodec : ℕ → List SlotEntry → Type 0
AreOfCodec k [] = Unit {0}
AreOfCodec k (e ∷ rest) = ((place : ℕ) × (e.by ≡ by.Codec k place)) × AreOfCodec k rest

-- What the entries that the codec's seat made since call for in the registry is what the registry's seat made since, as a list,
-- each by an entry of the codec; and what they call for in the pool is what the pool's seat did since, in order, each by its entry.
-- What the items that it ended since tell is so by all that the registry's seat has seen.
pub record Settles (s : Shared) (a b : View Event) (c d : View SlotEntry) (p q : View PoolEntry) : Type 0 where
  pub entries : List SlotEntry
  pub calls : List (ℕ × PoolOp)
  pub ends : List Ending
  pub owes : Owes s entries calls ends a b
  pub made : MadeSince c d entries
  pub own : AreOfCodec s.codec entries
  pub does : List PoolEntry
  pub pool : MadeSince p q does
  pub are : DoFor s.codec calls does
  pub told : AreTold (entries_of d.log) ends

-- The same, where these entries of the registry were made before: what the codec's entries call for there is these, and then what the
-- registry's seat made since.
pub record SettlesAfter (before : List SlotEntry) (s : Shared) (a b : View Event) (c d : View SlotEntry) (p q : View PoolEntry) : Type 0 where
  pub entries : List SlotEntry
  pub calls : List (ℕ × PoolOp)
  pub ends : List Ending
  pub owes : Owes s (before ++ entries) calls ends a b
  pub made : MadeSince c d entries
  pub own : AreOfCodec s.codec (before ++ entries)
  pub does : List PoolEntry
  pub pool : MadeSince p q does
  pub are : DoFor s.codec calls does
  pub told : AreTold (entries_of d.log) ends

-- the same, where nothing was called for in the registry
abbrev pub SettlesInPool : Shared → View Event → View Event → View PoolEntry → View PoolEntry → Type 0
SettlesInPool s a b p q = (c : View SlotEntry) → Settles s a b c c p q

pub do_both : (k : ℕ) (ps qs : List (ℕ × PoolOp)) (es fs : List PoolEntry) → DoFor k ps es → DoFor k qs fs → DoFor k (ps ++ qs) (es ++ fs)
do_both k [] qs [] fs x y = y
do_both k [] qs (e ∷ es) fs x y = absurd x
do_both k (p ∷ ps) qs [] fs x y = absurd x
do_both k (p ∷ ps) qs (e ∷ es) fs x y = (x.0, do_both k ps qs es fs x.1 y)

-- nothing was called for, and nothing was made elsewhere
pub settles_rest : (s : Shared) (a b : View Event) (c : View SlotEntry) (p : View PoolEntry) → Owes s [] [] [] a b → Settles s a b c c p p
settles_rest s a b c p owes = record { entries = []; calls = []; ends = []; owes = owes; made = made_none c; own = tt; does = []; pool = made_none p; are = tt; told = tt }

pub settles_none : (s : Shared) (a : View Event) (c : View SlotEntry) (p : View PoolEntry) → Settles s a a c c p p
settles_none s a c p = settles_rest s a a c p (owes_none s a)

-- ---- by entries of one codec

pub of_codec_both : (k : ℕ) (es fs : List SlotEntry) → AreOfCodec k es → AreOfCodec k fs → AreOfCodec k (es ++ fs)
of_codec_both k [] fs x y = y
of_codec_both k (e ∷ es) fs x y = (x.0, of_codec_both k es fs x.1 y)

pub gives_of_codec : (k place : ℕ) (coder : Option Lent) → AreOfCodec k (gives_of k place coder)
gives_of_codec k place None = tt
gives_of_codec k place (Some lent) = ((place, refl), tt)

pub given_of_codec : (k : ℕ) (m : Option CoderId) (place : ℕ) (coder : Option Lent) → AreOfCodec k (given_if k m place coder)
given_of_codec k None place coder = tt
given_of_codec k (Some id) place coder = gives_of_codec k place coder

-- what an entry let go has gone back
pub settles_back : (s : Shared) (place : ℕ) (media : List MediaRef) (coder : Option Lent) (a b : View Event) (c d : View SlotEntry) (p q : View PoolEntry) → OwesBack s place media coder a b → MadeSince c d (gives_of s.codec place coder) → EndsAll s.codec place media p q → Settles s a b c d p q
settles_back s place media coder a b c d p q owes given ends = record {
  entries = gives_of s.codec place coder;
  calls = ends_at place (map pair_of media);
  ends = [];
  owes = owes;
  made = given;
  own = gives_of_codec s.codec place coder;
  does = ends.entries;
  pool = ends.made;
  are = ends.are;
  told = tt;
}

pub settles_then : (s : Shared) (a b e : View Event) (c d f : View SlotEntry) (p q r : View PoolEntry) → Settles s a b c d p q → Settles s b e d f q r → Settles s a e c f p r
settles_then s a b e c d f p q r x y = record {
  entries = x.entries ++ y.entries;
  calls = x.calls ++ y.calls;
  ends = x.ends ++ y.ends;
  owes = owes_then s a b e x.entries y.entries x.calls y.calls x.ends y.ends x.owes y.owes;
  made = made_then c d f x.entries y.entries x.made y.made;
  own = of_codec_both s.codec x.entries y.entries x.own y.own;
  does = x.does ++ y.does;
  pool = made_then p q r x.does y.does x.pool y.pool;
  are = do_both s.codec x.calls y.calls x.does y.does x.are y.are;
  told = told_both (entries_of f.log) x.ends y.ends (told_later d.log y.made.more f.log x.ends y.made.longer x.told) y.told;
}

-- what was settled but for some acquires, which were made then, and what settles these
pub settles_work : (s : Shared) (a b e : View Event) (c d f g : View SlotEntry) (p q r : View PoolEntry) (es : List SlotEntry) → Settles s a b c d p q → MadeSince d f es → SettlesAfter es s b e f g q r → Settles s a e c g p r
settles_work s a b e c d f g p q r es x made y =
    let since : MadeSince d g (es ++ y.entries) = made_then d f g es y.entries made y.made in
    record {
      entries = x.entries ++ (es ++ y.entries);
      calls = x.calls ++ y.calls;
      ends = x.ends ++ y.ends;
      owes = owes_then s a b e x.entries (es ++ y.entries) x.calls y.calls x.ends y.ends x.owes y.owes;
      made = made_then c d g x.entries (es ++ y.entries) x.made since;
      own = of_codec_both s.codec x.entries (es ++ y.entries) x.own y.own;
      does = x.does ++ y.does;
      pool = made_then p q r x.does y.does x.pool y.pool;
      are = do_both s.codec x.calls y.calls x.does y.does x.are y.are;
      told = told_both (entries_of g.log) x.ends y.ends (told_later d.log since.more g.log x.ends since.longer x.told) y.told;
    }
