-- What is known of a format that was read.
use Rattle.std.specs.Prelude.{◌≤◌, ◌<◌, ◌^◌}
use Rattle.wc_demux.specs.declared.format.Format.{Format}

-- there is a rate, and a frame has a byte at least and less than 2 ^ 16
pub record IsUsable (f : Format) : Type 0 where
  pub rate : 1 ≤ f.rate
  pub frame : 1 ≤ f.frame_size
  pub frame_fits : f.frame_size < 2 ^ 16
