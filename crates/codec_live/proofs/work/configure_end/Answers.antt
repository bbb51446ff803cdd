use Rattle.std.proofs.Common.{◌≡◌, true}
use Rattle.wc_config.specs.Configs.{is_supported}
use Rattle.codec_live.proofs.Ends.{serves_there, configure_ends}
use Rattle.codec_live.proofs.work.configure_end.Goals as goal

pub configure-requires-after_bounds : goal.configure-requires-after_bounds
configure-requires-after_bounds g c κs within =
    serves_there c.in-Some.b.id c.args.config.now (rw c.in-Some.is at c.requires) cc

pub returns-in-Ok : goal.returns-in-Ok
returns-in-Ok g c =
    let supported : is_supported c.args.config.now ≡ true = cc in
    rw c.in-Some.is (configure_ends c.in-Some.b c.configure.new.self c.args.config.now c.empty.result c.empty.ensures supported (serves_there c.in-Some.b.id c.args.config.now (rw c.in-Some.is at c.requires) supported) c.in-Ok.ensures.ok c.configure.ensures.same)
