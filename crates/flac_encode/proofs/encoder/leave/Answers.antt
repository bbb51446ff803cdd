use Rattle.std.proofs.Common.{rules, ◌≡◌, ◌+◌, ◌*◌, ◌/◌, drop, length, sym, subst}
use Rattle.flac_definitions.specs.SubframeWriting.{HaveDepth}
use Rattle.flac_blocks.specs.CodedLaws.{drop_fits}
use Rattle.codec_definitions.specs.FlacCode.{block_samples}
use Rattle.flac_encode.proofs.Counts.{left_ready}
use Rattle.flac_encode.proofs.encoder.leave.Goals as goal

pub returns-clause-ready : goal.returns-clause-ready
returns-clause-ready c =
    let e = c.args.e.now in
    let n = block_samples e.config in
    let left : c.drop_front.new.values.items ≡ drop (n * (length e.rest.items / n)) e.rest.items = search rules in
    let r = left_ready e.config e.rest.items c.drop_front.new.values.items (c.args.begin.now.kept + c.args.frames) c.requires.ranged c.requires.count left in
    record {
      ranged = c.requires.ranged;
      whole = r.0;
      short = r.1;
      fit = subst (HaveDepth e.config.depth) (sym left) (drop_fits e.config.depth (n * (length e.rest.items / n)) e.rest.items c.requires.fit);
      number = c.number-e.ensures.small;
    }
