use Rattle.std.proofs.Common.{ℕ, zero, suc, ◌≡◌, ◌+◌, ◌-◌, List, [], ◌∷◌, length, Some, slice_get, sym, ap, arith}
use Rattle.codec_model.specs.declared.entry.Entry.{Entry}
use Rattle.shared_codec.specs.Shared.{IsLast}
use Rattle.shared_codec.proofs.passage.last_entry.Goals as goal

last_at : (h : List Entry) (n : ℕ) (e : Entry) → length h ≡ n + 1 → slice_get h n ≡ Some e → IsLast h e
last_at [] n e long is = absurd (omega (arith, long))
last_at (x ∷ []) zero e long is = ([], ap (λ y. y ∷ []) (grind (arith, is)))
last_at (x ∷ []) (suc n) e long is = absurd (omega (arith, long))
last_at (x ∷ y ∷ ys) zero e long is = absurd (omega (arith, long))
last_at (x ∷ y ∷ ys) (suc n) e long is =
    let more = last_at (y ∷ ys) n e (omega (arith, long)) is in
    (x ∷ more.0, ap (λ l. x ∷ l) more.1)

pub returns : goal.returns
returns g c = rw c.of.ensures (last_at c.args.core.now.history (c.look-length.result.0 - 1) c.in-Some.entry.now (omega (arith, c.requires, c.look-length.ensures.entries)) (sym c.in-Some.ensures))
