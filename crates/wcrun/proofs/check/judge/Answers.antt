use Rattle.std.proofs.Common.{rules, ◌≡◌, ◌<◌, ◌^◌, ℕ, List, length, map, Option, Some, IfSome, subst, sym, ◌∙◌, arith}
use Rattle.std.proofs.lemmas.List.{length-map}
use Rattle.wc_chunk.specs.declared.chunk.Chunk.{Chunk}
use Rattle.run_ranges.specs.Ranges.{AreWithin}
use Rattle.report_check.specs.declared.verdict.Verdict.{Verdict}
use Rattle.report_check.specs.Verdict.{IsRight, IsLineAtFault, IfWrong}
use Rattle.wcrun.specs.Headline.{Holding}
use Rattle.wcrun.proofs.Judging.{judged}
use Rattle.wcrun.proofs.check.judge.Goals as goal

pub returns-in-Ok-check-clause-ok : goal.returns-in-Ok-check-clause-ok
returns-in-Ok-check-clause-ok g c =
    let script = c.in-Ok.prepared.script in
    let media = c.in-Ok.prepared.media.items in
    let made = map g.C.Coder.coder c.args.coders.items in
    let v = c.in-Ok-check.verdict in
    let few : length made < 2 ^ 64 = omega (arith, length-map c.args.coders.items g.C.Coder.coder, c.len-boxes.ensures, c.len-boxes.type_inv) in
    judged c.spelled_is_within.ensures (g.F.Files.content c.args.files.now) c.args.script.now c.args.report.now c.in-Ok-read_report.bytes.items
    (record { script = script; media = media }) made v
    (g.F.Files.faults c.args.files.now) (g.F.Files.faults c.read_report.new.files) (g.F.Files.bytes_read c.args.files.now) (g.F.Files.bytes_read c.read_report.new.files) (g.F.Files.failed_names c.args.files.now) (g.F.Files.failed_names c.read_report.new.files)
    c.in-Ok.ensures.ok
    (subst (λ (x : Option Holding). IfSome x (λ held. held c.args.report.now ≡ Some c.in-Ok-read_report.bytes.items)) c.in-Ok.ensures.kept c.in-Ok-read_report.ensures.ok)
    c.in-Ok-read_report.ensures.few
    few
    (subst (λ (bs : List ℕ). v ≡ Verdict.Right → IsRight script media made bs) c.as_slice.ensures.value
    (subst (λ (m : List (List Chunk)). v ≡ Verdict.Right → IsRight script m made c.as_slice.result.now) c.deref.ensures.value c.in-Ok-check.ensures.right))
    (subst (λ (bs : List ℕ). AreWithin script media made → IsRight script media made bs → v ≡ Verdict.Right) c.as_slice.ensures.value
    (subst (λ (m : List (List Chunk)). AreWithin script m made → IsRight script m made c.as_slice.result.now → v ≡ Verdict.Right) c.deref.ensures.value c.in-Ok-check.ensures.only))
    (subst (λ (bs : List ℕ). IfWrong v (IsLineAtFault script media made bs)) c.as_slice.ensures.value
    (subst (λ (m : List (List Chunk)). IfWrong v (IsLineAtFault script m made c.as_slice.result.now)) c.deref.ensures.value c.in-Ok-check.ensures.line))
