use Rattle.std.proofs.Common.{◌^◌, ◌<◌, ◌∙◌, ap₂, subst, sym, arith, List, ℕ, get_or}
use Rattle.std.proofs.lemmas.Nat.{and_le_l}
use Rattle.tam_sets.specs.Sets.{met}
use Rattle.tam_sets.proofs.SetBits.{bits-met, words-small}
use Rattle.tam_sets.proofs.set.Set.meet.Goals as goal

pub invariant_of-result : goal.invariant_of-result
invariant_of-result c = record {
  count = c.loop-k.invariant.0;
  small = words-small c.loop-k.words c.loop-k.invariant.0 (λ k l.
      subst (λ w. w < 2 ^ 64) (sym (c.loop-k.invariant.1 k (omega arith)))
      (let s : get_or c.self.inside.words k 0 < 2 ^ 64 = c.self.invariant.small k 0 (omega arith) in
      let m = and_le_l (get_or c.self.inside.words k 0) (get_or c.o.inside.words k 0) in omega arith));
}

pub returns : goal.returns
returns c = record {
  value = bits-met c.self.inside.words c.o.inside.words c.loop-k.words (λ k l. c.loop-k.invariant.1 k (omega arith))
      ∙ ap₂ (λ (xs ys : List ℕ). met xs ys) c.self.view_is c.o.view_is;
}
