use Rattle.std.proofs.Common.{◌∙◌, ap₂, sym, arith, List, ℕ}
use Rattle.tam_sets.specs.Sets.{is_within}
use Rattle.tam_sets.proofs.SetBits.{bits-within, bits-not_within}
use Rattle.tam_sets.proofs.set.Set.within.Goals as goal

pub returns : goal.returns
returns c = record {
  value = sym (bits-within c.self.inside.words c.o.inside.words (λ k l. c.o.invariant.small k 0 (omega arith)) (λ k l. c.loop-k.invariant k (omega arith)))
      ∙ ap₂ (λ (xs ys : List ℕ). is_within xs ys) c.self.view_is c.o.view_is;
}

pub returns-then-self-k-ne0 : goal.returns-then-self-k-ne0
returns-then-self-k-ne0 c = record {
  value = sym (bits-not_within c.self.inside.words c.o.inside.words c.loop-k.k c.loop-k-test.true (c.self.invariant.small c.loop-k.k 0 (omega arith))
      (c.o.invariant.small c.loop-k.k 0 (omega arith)) (λ e. (c.if-self-k-ne0.true) e))
      ∙ ap₂ (λ (xs ys : List ℕ). is_within xs ys) c.self.view_is c.o.view_is;
}
