-- What a call changes that sends a message.
use Rattle.std.specs.Prelude.{ℕ, ◌+◌, Bool, List, [], ◌∷◌, ◌++◌, cond}
use Rattle.codec_model.specs.declared.entry.CodecState.{CodecState}
use Rattle.codec_model.specs.declared.entry.Work.{Work}
use Rattle.codec_model.specs.declared.entry.Work.TheVariants as work
use Rattle.codec_model.specs.Control.{Control, is_coded, at_next_place, with_message}

-- the promises that are pending after this message, if it is a flush's
abbrev pub promised : Work → ℕ → List ℕ → List ℕ
promised (work.Configure config) place pending = pending
promised (work.Coded input) place pending = pending
promised work.Flush place pending = pending ++ place ∷ []

-- a message was sent, with these of the codec, and processed
abbrev pub sent : Work → CodecState → Bool → Control → Control
sent w phase key_required c = with_message c.place w (record (at_next_place c) { phase = phase; key_required = key_required; size = c.size + cond (is_coded w) 1 0; pending = promised w c.place c.pending })
