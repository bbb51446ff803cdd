use Rattle.std.proofs.Common.{◌≡◌, ◌∙◌, map, slice_get, Some, refl, sym, ap}
use Rattle.std.specs.Prelude.{option_map}
use Rattle.std.proofs.lemmas.List.{length-map}
use Rattle.std.proofs.lemmas.Option.{slice_get-map}
use Rattle.codec_model.specs.Shown.{shown_of}
use Rattle.codec_core.proofs.Outputs.{front_at, front_past, none_past}
use Rattle.codec_core.proofs.trace.output_at.Goals as goal

pub returns-in-Some : goal.returns-in-Some
returns-in-Some c =
    let xs = c.args.shown.now.items in
    let x = c.in-Some.showing.now in
    let here : slice_get xs c.args.entry ≡ Some x = sym c.in-Some.ensures in
    let there : slice_get (map shown_of xs) c.args.entry ≡ Some (shown_of x) = slice_get-map shown_of xs c.args.entry ∙ ap (option_map shown_of) here in
    rw (front_at c.args.entry c.args.unit (map shown_of xs) (shown_of x) there (rw here at c.requires), ← c.outputs_of.ensures) c.unit_at.ensures

pub returns-in-None : goal.returns-in-None
returns-in-None c =
    let xs = c.args.shown.now.items in
    rw (front_past c.args.entry c.args.unit (map shown_of xs) (rw (length-map xs shown_of) (none_past xs c.args.entry (sym c.in-None.ensures)))) refl
