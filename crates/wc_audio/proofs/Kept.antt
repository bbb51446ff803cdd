-- A reference that is cloned keeps its bytes.
use Rattle.std.proofs.Common.{ℕ, ◌≡◌, ◌≤◌, List, length, Option, Some, None, ap, sym, subst}
use Rattle.wc_base.specs.declared.media.SoundShape.{SoundShape}
use Rattle.wc_pool.specs.declared.reference.MediaRef.{MediaRef}
use Rattle.wc_pool.specs.Pools.{with_token}
use Rattle.wc_audio.specs.Sound.{needed, IsEnough}

pub kept_enough : (shape : SoundShape) (was : Option MediaRef) (r q : MediaRef) → was ≡ Some r → with_token None q ≡ with_token None r → IsEnough shape was → IsEnough shape (Some q)
kept_enough shape was r q is same h =
    subst (λ (bytes : List ℕ). needed shape ≤ length bytes) (ap (λ (m : MediaRef). m.bytes) (sym same)) (subst (λ (o : Option MediaRef). IsEnough shape o) is h)
