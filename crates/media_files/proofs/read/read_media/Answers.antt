use Rattle.std.proofs.Common.{◌+◌, ◌-◌, ◌++◌, ◌∷◌, [], IfSome, Ok, List, length, sym, ap, subst, rules, arith}
use Rattle.wc_chunk.specs.declared.chunk.Chunk.{Chunk}
use Rattle.media_files.specs.Media.{FileGives, MayFailAt}
use Rattle.media_files.proofs.Reading.{Continues, goes_on, ends, fails}
use Rattle.media_files.proofs.read.read_media.Goals as goal

pub returns-in-Err-clause-err : goal.returns-in-Err-clause-err
returns-in-Err-clause-err g c =
    fails (g.F.Files.content c.args.files.now) c.args.script.now c.loop-n.room c.loop-n.n c.as_str.result.now c.loop-n.made.items _ (g.F.Files.faults c.loop-n.files) _ _ (g.F.Files.bytes_read c.loop-n.files) _ c.in-Err.stop
    (omega (arith, ap length c.files-name-items.ensures.files)) (search rules) c.loop-n.invariant.faults c.loop-n.invariant.bytes
    (subst (λ o. MayFailAt o c.loop-n.room c.as_str.result.now (g.F.Files.faults c.loop-n.files) (g.F.Files.faults c.read_file.new.files) (g.F.Files.bytes_read c.loop-n.files) (g.F.Files.bytes_read c.read_file.new.files) c.in-Err.stop) c.loop-n.invariant.kept c.in-Err.ensures.err)
    c.loop-n.invariant.continues

pub loop-n-preserved : goal.loop-n-preserved
loop-n-preserved g c =
    let went : Continues (g.F.Files.content c.args.files.now) (268435456 - c.args.script.now.inline) c.args.script.now.chunk_files c.in-Ok.left (c.loop-n.n + 1) (c.loop-n.made.items ++ c.in-Ok.chunks ∷ []) =
    goes_on (g.F.Files.content c.args.files.now) (268435456 - c.args.script.now.inline) c.args.script.now.chunk_files c.loop-n.room c.loop-n.n c.as_str.result.now c.loop-n.made.items c.in-Ok.chunks c.in-Ok.left (omega (arith, ap length c.files-name-items.ensures.files)) (search rules) c.in-Ok.ensures.left
    (subst (λ o. IfSome o (λ files. FileGives c.loop-n.room c.as_str.result.now (files c.as_str.result.now) (Ok c.in-Ok.chunks))) c.loop-n.invariant.kept c.in-Ok.ensures.ok)
    c.loop-n.invariant.continues in
    record {
      kept = search rules;
      faults = search rules;
      bytes = search rules;
      each = search rules;
      names = search rules;
      continues = subst (λ (l : List (List Chunk)). Continues (g.F.Files.content c.args.files.now) (268435456 - c.args.script.now.inline) c.args.script.now.chunk_files c.in-Ok.left (c.loop-n.n + 1) l) (sym c.in_ok-push-in-Ok.ensures.items) went;
    }

pub returns-clause-ok : goal.returns-clause-ok
returns-clause-ok g c = ends (g.F.Files.content c.args.files.now) _ c.args.script.now.chunk_files c.loop-n.room c.loop-n.n c.loop-n.made.items (omega (arith, ap length c.files-name-items.ensures.files)) c.loop-n.invariant.continues
