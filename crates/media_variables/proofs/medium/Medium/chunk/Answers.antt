use Rattle.std.proofs.Common.{◌∙◌, ap, sym}
use Rattle.media_variables.specs.Variables.{chunk_in_medium}
use Rattle.media_variables.specs.Held.{WholeMedium, seen, whole_of}
use Rattle.media_variables.proofs.medium.Medium.chunk.Goals as goal

pub returns-in-Audio : goal.returns-in-Audio
returns-in-Audio c = ap (λ (m : WholeMedium). chunk_in_medium (seen m)) (ap whole_of (sym c.in-Audio.is) ∙ c.self.view_is)

pub returns-in-Frame : goal.returns-in-Frame
returns-in-Frame c = ap (λ (m : WholeMedium). chunk_in_medium (seen m)) (ap whole_of (sym c.in-Frame.is) ∙ c.self.view_is)

pub returns-in-Chunk : goal.returns-in-Chunk
returns-in-Chunk c = ap (λ (m : WholeMedium). chunk_in_medium (seen m)) (ap whole_of (sym c.in-Chunk.is) ∙ c.self.view_is)

pub returns-in-Buffer : goal.returns-in-Buffer
returns-in-Buffer c = ap (λ (m : WholeMedium). chunk_in_medium (seen m)) (ap whole_of (sym c.in-Buffer.is) ∙ c.self.view_is)
