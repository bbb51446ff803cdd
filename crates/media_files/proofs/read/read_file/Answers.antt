use Rattle.std.proofs.Common.{◌≡◌, ap, Err}
use Rattle.media_files.proofs.Long.{too_long}
use Rattle.wc_base.specs.declared.files.FileFault.{FileFault}
use Rattle.media_files.proofs.read.read_file.Goals as goal

pub returns-in-Err-TooLong-clause-err : goal.returns-in-Err-TooLong-clause-err
returns-in-Err-TooLong-clause-err g c =
    let h = c.in-Err-TooLong.field-0-is in
    let q : c.in-Err-TooLong.field-0 ≡ FileFault.TooLong = cc in
    too_long (g.F.Files.content c.args.files.now) c.args.room c.args.name.now (g.F.Files.bytes_read c.args.files.now) (g.F.Files.bytes_read c.read_all.new.self) (c.in-Err-TooLong.ensures.too_long (ap Err q))
