-- What a reader asks of a history.
use Rattle.std.specs.Prelude.{ℕ, ◌≡◌, List, slice_get, Option, Some}
use Rattle.codec_model.specs.declared.entry.Opening.{Opening}
use Rattle.codec_model.specs.declared.entry.Entry.{Entry}
use Rattle.codec_model.specs.declared.entry.PromiseState.{PromiseState}
use Rattle.codec_laws.specs.declared.source.Output.{Output}
use Rattle.codec_laws.specs.Sights.{sights}
use Rattle.codec_laws.specs.Sources.{outputs, end_from}
use Rattle.codec_laws.specs.Laws.{IsOwn}

-- the output of this number, in the order in which outputs are shown
abbrev pub output_of : Opening → List Entry → ℕ → Option Output
output_of o h number = slice_get (outputs (sights o h)) number

abbrev pub call_and_turn : Output → ℕ × ℕ
call_and_turn y = (y.source.call, y.turn)

abbrev pub configure_and_index : Output → ℕ × ℕ
configure_and_index y = (y.source.configure, y.source.index)

-- the output of this number, if there is one, is of its configuration
abbrev pub IsOwnOutput : Opening → List Entry → ℕ → Type 0
IsOwnOutput o h number = (y : Output) → output_of o h number ≡ Some y → IsOwn (sights o h) y

-- where a promise ends, and how
abbrev pub end_of : Opening → List Entry → ℕ → Option (ℕ × PromiseState)
end_of o h promise = end_from promise 0 (sights o h)
