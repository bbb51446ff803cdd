use Rattle.std.proofs.Common.{rules, ◌≡◌, ◌∙◌, ap, sym, not, ◌==◌, ℕ, List, ◌∷◌, filter}
use Rattle.std.proofs.lemmas.Fn.{filter_same}
use Rattle.codec_queues.proofs.Rising.{first_goes}
use Rattle.codec_queues.proofs.queues.remove_promise.Goals as goal

pub returns-then-first-promise : goal.returns-then-first-promise
returns-then-first-promise c = record {
  items =
      filter_same _ (λ (p : ℕ). not (p == c.args.promise)) _ (λ x b f' r. search rules) _ _ c.retain.ensures.filtered
      ∙ ap (λ (l : List ℕ). filter (λ (p : ℕ). not (p == c.args.promise)) l) (c.push_front_reserved.ensures.items ∙ sym c.in-Some.ensures.items);
}

pub returns-else-first-promise : goal.returns-else-first-promise
returns-else-first-promise c =
    let same : c.in-Some.first ≡ c.args.promise = search rules in
    record {
      items = sym (first_goes c.args.promise c.args.pending.now.items c.pop_front.new.self.items c.requires.0 c.requires.1 (c.in-Some.ensures.items ∙ ap (λ (n : ℕ). n ∷ c.pop_front.new.self.items) same));
    }
