use Rattle.std.proofs.Common.{ℕ, ◌≡◌, ◌∙◌, List, IfOk, ap, sym, subst}
use Rattle.codec_definitions.specs.SampleCodecs.{coded}
use Rattle.sample_coder.specs.{Coding.definition, declared.coding.Coding.Coding}
use Rattle.sample_coder.proofs.coding.Coding.coded.Goals as goal

pub returns-in_ok-interleaved-in-Pcm : goal.returns-in_ok-interleaved-in-Pcm
returns-in_ok-interleaved-in-Pcm c =
    subst (λ (x : List ℕ). IfOk c.shared.result (λ b. b ≡ x)) (c.in_ok-interleaved-in-Pcm.ensures ∙ ap (λ (k : Coding). coded (definition k) c.args.shape.now c.args.bytes.now) (sym c.in-Pcm.is)) c.shared.ensures
