use Rattle.std.proofs.Common.{◌≡◌, ◌∙◌, sym, ap, ℕ, ◌≤◌, true, [], length, drop, get_or, arith}
use Rattle.std.proofs.lemmas.List.{drop_all}
use Rattle.tam_word.specs.Lists.{first_of}
use Rattle.tam_graph.specs.Graphs.{code_of, kind_at, block_at}
use Rattle.tam_world.specs.Sought.{is_sought, key_of, inlets_of}
use Rattle.tam_world.proofs.FirstOf.{first-here, first-keyed}
use Rattle.tam_world.proofs.finding.find_node.Goals as goal

pub returns-then-is_sought_at : goal.returns-then-is_sought_at
returns-then-is_sought_at c =
    let code = code_of c.args.program.now c.args.code in
    let test = λ (x : ℕ). is_sought c.args.sought (block_at code x) (kind_at code x) in
    let inlets = c.inlets-inlets.result.now in
    let x = get_or inlets c.loop-x.x-index 0 in
    let passes : test x ≡ true = sym (rw (c.nodes_of-nodes.ensures.value, c.graph.ensures.value) at c.is_sought_at.ensures.value) ∙ c.if-is_sought_at.true in
    let all : inlets ≡ inlets_of code (key_of c.args.sought) = c.inlets-inlets.ensures.value ∙ ap (inlets_of code) c.key_of.ensures.value in
    record {
      value = sym (first-here test inlets c.loop-x.x-index 0 c.loop-x-test.true passes) ∙ c.loop-x.invariant ∙ ap (first_of test) all
          ∙ first-keyed code c.args.sought;
    }

pub returns : goal.returns
returns c =
    let code = code_of c.args.program.now c.args.code in
    let test = λ (x : ℕ). is_sought c.args.sought (block_at code x) (kind_at code x) in
    let inlets = c.inlets-inlets.result.now in
    let past : length inlets ≤ c.loop-x.x-index = omega arith in
    let none : drop c.loop-x.x-index inlets ≡ [] = drop_all c.loop-x.x-index inlets past in
    let all : inlets ≡ inlets_of code (key_of c.args.sought) = c.inlets-inlets.ensures.value ∙ ap (inlets_of code) c.key_of.ensures.value in
    record { value = ap (first_of test) (sym none) ∙ c.loop-x.invariant ∙ ap (first_of test) all ∙ first-keyed code c.args.sought }
