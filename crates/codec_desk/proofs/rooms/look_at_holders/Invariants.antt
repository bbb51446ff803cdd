use Rattle.std.proofs.Common.{ℕ, ◌≡◌, ◌≤◌, List, Option, length, vec_capacity}
use Rattle.wc_base.specs.declared.ground.Ground.{Ground}
use Rattle.wc_config.specs.declared.kind.Kind.{Kind}
use Rattle.work_moments.specs.Moments.{Telling}
use Rattle.codec_desk.specs.Items.{Meanwhile, SawFirst, holders_from}
use Rattle.codec_desk.proofs.rooms.look_at_holders.Given as goal

-- the first codecs were looked at
abbrev pub invariant-loop-codec : goal.invariant-loop-codec
invariant-loop-codec g l = record {
  meanwhile : (t : Telling) → Meanwhile l.fn.desk t t l.fn.seats l.seats;
  end : l.codec-end ≡ length l.fn.desk.codecs.items;
  below : l.codec ≤ l.codec-end;
  room : vec_capacity l.holders ≡ vec_capacity l.fn.holders;
  saw : (seen : List (Option ℕ × Ground × Kind)) × (length seen ≡ l.codec) × SawFirst seen l.fn.desk.codecs.items l.fn.seats.codecs.items l.seats.codecs.items × (l.holders.items ≡ holders_from 0 seen);
}
