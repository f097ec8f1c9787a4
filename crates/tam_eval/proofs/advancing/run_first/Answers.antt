use Rattle.std.proofs.Common.{◌≡◌, ◌∙◌, ◌+◌, ◌==◌, ℕ, List, ◌∷◌, true, subst, ap, arith}
use Rattle.std.specs.Prelude.{slice_index_or}
use Rattle.std.proofs.lemmas.List.{length-set}
use Rattle.tam_word.specs.Lists.{all_of}
use Rattle.tam_graph.specs.Graphs.{Graph}
use Rattle.tam_world.specs.Kept.{pair_of, pairs_of}
use Rattle.tam_world.specs.declared.node_at.NodeAt.{NodeAt}
use Rattle.tam_eval.specs.GraphRuns.{is_enabled}
use Rattle.tam_eval.specs.Waiting.{IsCounted, vertices_left}
use Rattle.tam_eval.specs.declared.machine.Machine.{Machine}
use Rattle.tam_eval.proofs.Counting.{as_one, as_one-most}
use Rattle.tam_eval.proofs.CountedMachines.{popped-counts, popped-may, fired-some, fired-counts}
use Rattle.tam_eval.proofs.advancing.run_first.Goals as goal

module _ (g : Graph) (m : Machine) (h : IsCounted g m) (v : NodeAt) (rest : List NodeAt) (is : m.ready.items ≡ v ∷ rest) where
  -- so many are counted as were left before the vertex was taken
  before : (i : ℕ) → slice_index_or m.left i 0 ≡ vertices_left g m.world (pair_of v ∷ pairs_of rest) i
  before i = h.counts i ∙ ap (λ (l : List NodeAt). vertices_left g m.world (pairs_of l) i) is

  -- one more than are left then
  more : (i : ℕ) → slice_index_or m.left i 0 ≡ vertices_left g m.world (pairs_of rest) i + as_one (v.activation == i)
  more = popped-counts g m.world (pair_of v) (pairs_of rest) m.left before

  -- the rest may fire
  may : all_of (λ r. is_enabled g m.world r.0 r.1) (pairs_of rest) ≡ true
  may = popped-may g m.world (pair_of v) (pairs_of rest) m.left before
      (subst (λ (l : List NodeAt). all_of (λ r. is_enabled g m.world r.0 r.1) (pairs_of l) ≡ true) is h.ready)

pub apply-requires : goal.apply-requires
apply-requires c =
    let covers = more c.args.program.now c.args.machine.now c.requires.counted c.in-Some.at c.pop_front.new.self.items c.in-Some.ensures.items in
    record {
      covered = record {
        least = λ i. let e = covers i in omega arith;
        most = λ i. let e = covers i in let one = as_one-most (c.in-Some.at.activation == i) in omega arith;
        one_each = c.requires.counted.one_each;
      };
    }

pub less-requires : goal.less-requires
less-requires c = record {
  some = fired-some c.args.program.now c.args.machine.now.world (pair_of c.in-Some.at) (pairs_of c.pop_front.new.self.items) c.args.machine.now.left
      (before c.args.program.now c.args.machine.now c.requires.counted c.in-Some.at c.pop_front.new.self.items c.in-Some.ensures.items)
      c.apply.new.machine.world (pairs_of c.apply.new.machine.ready.items) c.apply.new.machine.left c.in_ok-apply.ensures.counts.counts;
}

pub returns-clause-counted : goal.returns-clause-counted
returns-clause-counted c =
    let g = c.args.program.now in
    let m = c.args.machine.now in
    let v = c.in-Some.at in
    let rest = c.pop_front.new.self.items in
    let kept = c.in_ok-apply.ensures.counts in
    record {
      counts = λ i. rw c.less.ensures.value (fired-counts g m.world (pair_of v) (pairs_of rest) m.left
          (before g m c.requires.counted v rest c.in-Some.ensures.items)
          c.apply.new.machine.world (pairs_of c.apply.new.machine.ready.items) c.apply.new.machine.left kept.counts i);
      one_each = rw c.less.ensures.value (length-set c.apply.new.machine.left v.activation _
          ∙ (let e = c.requires.counted.one_each in let k = kept.one_each in omega arith));
      ready = kept.ready (may g m c.requires.counted v rest c.in-Some.ensures.items);
    }
