use Rattle.std.proofs.Common.{◌≡◌, ◌+◌, ◌-◌, ◌*◌, ◌++◌, ℕ, suc, ℤ, Bool, List, Option, Some, Result, Err, length, take, arith, ap, sym, subst, ◌∙◌}
use Rattle.std.proofs.lemmas.Slice.{take-put_mid}
use borrow.Rule.Slice.PartMut.{put_mid, same_len_mid}
use Rattle.flac_definitions.specs.Bits.{Place}
use Rattle.flac_definitions.specs.Subframe.{subframe_at}
use Rattle.flac_definitions.specs.Stereo.{channel_depth}
use Rattle.flac_decode.proofs.RestoreLaws.{channels_next, part_length}
use Rattle.flac_decode.proofs.FrameLaws.{small_append, small_up}
use Rattle.flac_decode.specs.declared.fault.ReadFault.{ReadFault}
use Rattle.flac_decode.specs.Reading.{Fills, TellsShort}
use Rattle.flac_decode.specs.Shortness.{short_subframe, short_channels}
use Rattle.flac_decode.proofs.ShortLaws.{short_next, short_here}
use Rattle.flac_decode.proofs.frame.read_subframes.Goals as goal

same_subframe : (d e m n : ℕ) (p : Place) (r : Option (List ℤ × Place)) → d ≡ e → m ≡ n → subframe_at d m p ≡ r → subframe_at e n p ≡ r
same_subframe d e m n p r h k s = ap (λ x. subframe_at e x p) (sym k) ∙ ap (λ x. subframe_at x m p) (sym h) ∙ s

pub loop-channel-preserved : goal.loop-channel-preserved
loop-channel-preserved c =
    let i = c.loop-channel.channel in let block = c.args.block in let out = c.loop-channel.samples in let values = c.read_subframe.new.samples in
    let h = c.args.header.now in
    let part = part_length out i block c.args.channels (omega arith) c.loop-channel.invariant.size in
    let lv : length values ≡ block = c.read_subframe.auto.samples ∙ part.0 in
    let front : take ((i + 1) * block) (put_mid (i * block) (i * block + block - i * block) out values) ≡ take (i * block) out ++ values = take-put_mid (i * block) (i * block + block - i * block) out values ((i + 1) * block) (omega arith) (omega (arith, part.1)) in
    record {
      bytes = c.in_default.ensures.bytes ∙ c.loop-channel.invariant.bytes;
      small = rw front (small_append 32 (take (i * block) out) values c.loop-channel.invariant.small (small_up (c.channel_depth-depth.result - 1) 32 values (omega (arith, c.channel_depth-depth.ensures.fits)) c.in_default.ensures.narrow));
      size = same_len_mid (i * block) (i * block + block - i * block) out values c.read_subframe.auto.samples ∙ c.loop-channel.invariant.size;
      read = rw front (channels_next h.assignment h.depth block i (c.args.channels - i) (c.args.channels - (i + 1)) (take (i * block) out) values c.loop-channel.r c.read_subframe.new.r (omega arith)
          (same_subframe c.channel_depth-depth.result (channel_depth h.assignment h.depth i) _ block c.loop-channel.r (Some (values, c.read_subframe.new.r)) c.channel_depth-depth.ensures.depth part.0 c.in_default.ensures.read) ∙ c.loop-channel.invariant.read);
      short = short_next h.assignment h.depth block i (c.args.channels - i) (c.args.channels - (i + 1)) values c.loop-channel.r c.read_subframe.new.r (omega arith)
          (same_subframe c.channel_depth-depth.result (channel_depth h.assignment h.depth i) _ block c.loop-channel.r (Some (values, c.read_subframe.new.r)) c.channel_depth-depth.ensures.depth part.0 c.in_default.ensures.read) ∙ c.loop-channel.invariant.short;
    }

here : (e : ReadFault) (a d i size part block n m : ℕ) (p new : Place) (values : List ℤ) (all : Bool) → size ≡ channel_depth a d i → part ≡ block → n ≡ suc m → short_channels a d block i n p ≡ all
    → Fills (subframe_at size part p) (let r : Result (Unit {0}) ReadFault = Err e in r) new values → TellsShort (let r : Result (Unit {0}) ReadFault = Err e in r) (short_subframe size part p)
    → TellsShort (let r : Result (Unit {0}) ReadFault = Err e in r) all
here e a d i size part block n m p new values all s k h t f g =
    short_here e a d block i n m p new values all h t
    (subst (λ (x : ℕ). Fills (subframe_at x block p) (let r : Result (Unit {0}) ReadFault = Err e in r) new values) s (subst (λ (x : ℕ). Fills (subframe_at size x p) (let r : Result (Unit {0}) ReadFault = Err e in r) new values) k f))
    (subst (λ (x : ℕ). TellsShort (let r : Result (Unit {0}) ReadFault = Err e in r) (short_subframe x block p)) s (subst (λ (x : ℕ). TellsShort (let r : Result (Unit {0}) ReadFault = Err e in r) (short_subframe size x p)) k g))

pub returns-in-Err-clause-short : goal.returns-in-Err-clause-short
returns-in-Err-clause-short c =
    let i = c.loop-channel.channel in let block = c.args.block in let h = c.args.header.now in
    let part = part_length c.loop-channel.samples i block c.args.channels (omega arith) c.loop-channel.invariant.size in
    here c.in-Err.e h.assignment h.depth i c.channel_depth-depth.result _ block (c.args.channels - i) (c.args.channels - (i + 1)) c.loop-channel.r c.read_subframe.new.r c.read_subframe.new.samples _ c.channel_depth-depth.ensures.depth part.0 (omega arith) c.loop-channel.invariant.short c.in-Err.ensures.read c.in-Err.ensures.short
