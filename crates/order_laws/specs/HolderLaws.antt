-- The holders behind all codecs are the ports.
use Rattle.std.proofs.Common.{ℕ, ◌≡◌, ◌+◌, ◌-◌, Bool, cond, List, length, ap, ◌∙◌, arith}
use Rattle.std.proofs.lemmas.Bool.{le-ltb}
use Rattle.codec_accounts.specs.{Owed.at, Codec.CodecValue}
use Rattle.media_variables.specs.Variables.{Received}
use Rattle.order_laws.specs.Course.{held_by_codecs, held_by_port, held_by_holders}

-- a port's number as a holder
pub holder_port : (codecs : List CodecValue) (ports : List (List Received)) (port : ℕ) → held_by_holders codecs ports (length codecs + port) ≡ held_by_port (at port ports)
holder_port codecs ports port =
    let back : (length codecs + port) - length codecs ≡ port = omega arith in
    ap (λ (b : Bool). cond b (held_by_codecs codecs (length codecs + port)) (held_by_port (at ((length codecs + port) - length codecs) ports))) (le-ltb (length codecs + port) (length codecs) (omega arith))
    ∙ ap (λ (m : ℕ). held_by_port (at m ports)) back
