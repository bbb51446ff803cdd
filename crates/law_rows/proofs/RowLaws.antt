-- What a test builds is the row of its name.
use Rattle.std.proofs.Common.{◌≡◌, List, sym}
use Rattle.codec_definitions.specs.declared.unit.Unit as media
use Rattle.codec_model.specs.declared.entry.{Opening.Opening, Entry.Entry}
use Rattle.codec_model.specs.Replay.{IsLegal}
use Rattle.codec_model.specs.Shown.{shown, outputs_of}

pub legal_of : (o p : Opening) (h row : List Entry) → o ≡ p → h ≡ row → IsLegal p row → IsLegal o h
legal_of o p h row opens is legal = rw (opens, is) legal

pub shows_of : (o p : Opening) (h row : List Entry) (us vs : List media.Unit) → o ≡ p → h ≡ row → us ≡ vs → outputs_of (shown p row) ≡ vs → us ≡ outputs_of (shown o h)
shows_of o p h row us vs opens is units shows = rw (opens, is, units) (sym shows)
