use Rattle.std.proofs.Common.{◌∙◌}
use Rattle.std.specs.Prelude.{string_bytes}
use Rattle.load_summary.specs.Summary.{load_text}
use Rattle.wcrun.proofs.Loads.{summed, if_summed}
use Rattle.wcrun.proofs.load.loaded.Goals as goal

pub returns : goal.returns
returns g c =
    if_summed string_bytes c.args.load _ c.load_text.result (load_text c.args.load.start c.args.load.chunks c.in_ok-run.run')
    (λ text is. summed c.args.load _ c.in_ok-script.script c.deref.result.now c.in_ok-run.run' text c.in_ok-script.ensures.script (c.deref.ensures.value ∙ c.new-media.ensures.items) c.in_ok-run.ensures.legal c.in_ok-run.ensures.fits is)
    c.load_text.ensures
