use Rattle.std.proofs.Common.{◌≡◌, ◌<◌, ◌≤◌, ◌∙◌, ℕ, suc, map, length, sym, ap, subst, arith, List}
use Rattle.std.specs.List.{sum_by}
use Rattle.tam_word.specs.Lists.{below}
use Rattle.tam_word.proofs.Tests.{below-test}
use Rattle.tam_graph.specs.Graphs.{Code, Graph, code_of, blocks_of}
use Rattle.tam_split.specs.Blocks.{BlockGraph, block_graph, places}
use Rattle.tam_split.specs.Partitions.{Parts, class_of}
use Rattle.tam_split.specs.PartitionLaws.{IsPartition}
use Rattle.tl0_keep.specs.Compiled.{parts_at}
use Rattle.tl0_emit.specs.CodeParts.{ArePartsOf}
use Rattle.tl0_emit.specs.BlockTables.{first_thread, graph_in}
use Rattle.tl0_emit.proofs.BlockSteps.{graph-in, graphs-long, vertices-few}
use Rattle.tl0_emit.proofs.code_blocks.CodeBlocks.of.Goals as goal

-- partitions of a code's blocks are those of the graphs in a list of these
parts-in : (c : Code) (ps : List Parts) (gs : List BlockGraph) → ArePartsOf c ps → gs ≡ map (block_graph c) (blocks_of c)
    → (b : ℕ) → b < length gs → IsPartition (graph_in gs b) (parts_at ps b)
parts-in c ps gs parts e = λ b l.
    let low : b < length c.owners = let m = graphs-long c gs e in omega (arith, l, m) in
    subst (λ g. IsPartition g (parts_at ps b)) (sym (graph-in c gs e b low)) (parts.parts b low)

pub class_numbers_of-requires-clause-each : goal.class_numbers_of-requires-clause-each
class_numbers_of-requires-clause-each c =
    c.requires.whole.blocks
    ∙ sym (graphs-long (code_of c.args.g.now c.args.code) c.deref.result.now (c.deref.ensures.value ∙ c.in_ok-graphs.ensures.value))

pub class_numbers_of-requires-clause-whole : goal.class_numbers_of-requires-clause-whole
class_numbers_of-requires-clause-whole c =
    parts-in (code_of c.args.g.now c.args.code) c.args.parts.now c.deref.result.now c.requires.whole
    (c.deref.ensures.value ∙ c.in_ok-graphs.ensures.value)

pub first_threads-requires-clause-each : goal.first_threads-requires-clause-each
first_threads-requires-clause-each c =
    c.requires.whole.blocks
    ∙ sym (graphs-long (code_of c.args.g.now c.args.code) c.deref-2.result.now (c.deref-2.ensures.value ∙ c.in_ok-graphs.ensures.value))

pub first_threads-requires-clause-whole : goal.first_threads-requires-clause-whole
first_threads-requires-clause-whole c =
    parts-in (code_of c.args.g.now c.args.code) c.args.parts.now c.deref-2.result.now c.requires.whole
    (c.deref-2.ensures.value ∙ c.in_ok-graphs.ensures.value)

pub first_threads-requires-clause-few : goal.first_threads-requires-clause-few
first_threads-requires-clause-few c =
    let g = c.args.g.now in
    let n = c.args.code in
    subst (λ (gs : List BlockGraph). sum_by (λ (b : BlockGraph). length b.vertices) gs ≤ 1024)
    (sym (c.deref-2.ensures.value ∙ c.in_ok-graphs.ensures.value))
    (vertices-few (length g.codes) (code_of g n) (c.graph.ensures.accepted.written n (below-test n (length g.codes) c.requires.in_range)))

pub invariant_of-result : goal.invariant_of-result
invariant_of-result c =
    let code = code_of c.args.g.now c.args.code in
    let ps = c.args.parts.now in
    let own : c.code-own.result.now ≡ code = c.code-own.ensures.value ∙ ap (λ (g : Graph). code_of g c.args.code) c.graph.ensures.value in
    let owners : length c.code-own.result.now.owners ≡ length code.owners = ap (λ (d : Code). length d.owners) own in
    let graphs = c.deref.ensures.value ∙ c.in_ok-graphs.ensures.value in
    let long = graphs-long code c.deref.result.now graphs in
    let many = c.requires.whole.blocks in
    record {
      parts = subst (λ (d : Code). ArePartsOf d ps) (sym own) c.requires.whole;
      kept = c.in_ok-starts.ensures.kept;
      graphs = c.in_ok-graphs.ensures.value ∙ ap (λ (d : Code). map (block_graph d) (blocks_of d)) (sym own);
      numbers = λ b l.
          let low : b < length code.owners = omega (arith, l, owners) in
          c.in_ok-numbers.ensures.value b (omega (arith, low, long))
          ∙ (ap (λ (g : BlockGraph). map (class_of (parts_at ps b)) (places g)) (graph-in code c.deref.result.now graphs b low)
          ∙ ap (λ (d : Code). map (class_of (parts_at ps b)) (places (block_graph d b))) (sym own));
      each_numbered = c.in_ok-numbers.ensures.each ∙ (long ∙ sym owners);
      starts = c.in_ok-starts.ensures.value ∙ ap (λ n. map (first_thread ps) (below (suc n))) (many ∙ sym owners);
      few = λ b l. c.in_ok-starts.ensures.few b (omega (arith, l, owners, many));
    }
