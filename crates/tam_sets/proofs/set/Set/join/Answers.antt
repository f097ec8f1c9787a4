use Rattle.std.proofs.Common.{◌^◌, ◌<◌, ◌∙◌, ap₂, subst, sym, arith, List, ℕ, get_or}
use Rattle.std.proofs.lemmas.Nat.{or_lt}
use Rattle.tam_sets.specs.Sets.{joined}
use Rattle.tam_sets.proofs.SetBits.{bits-joined, words-small}
use Rattle.tam_sets.proofs.set.Set.join.Goals as goal

pub invariant_of-result : goal.invariant_of-result
invariant_of-result c = record {
  count = c.loop-k.invariant.0;
  small = words-small c.loop-k.words c.loop-k.invariant.0 (λ k l.
      subst (λ w. w < 2 ^ 64) (sym (c.loop-k.invariant.1 k (omega arith)))
      (or_lt 64 (get_or c.self.inside.words k 0) (get_or c.o.inside.words k 0) (c.self.invariant.small k 0 (omega arith))
      (c.o.invariant.small k 0 (omega arith))));
}

pub returns : goal.returns
returns c = record {
  value = bits-joined c.self.inside.words c.o.inside.words c.loop-k.words (λ k l. c.loop-k.invariant.1 k (omega arith))
      ∙ ap₂ (λ (xs ys : List ℕ). joined xs ys) c.self.view_is c.o.view_is;
}
