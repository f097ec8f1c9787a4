use Rattle.std.proofs.Common.{ℕ, ◌≡◌, ◌++◌, List, [], ◌∷◌, map, length, sym, ap, ap₂, subst, ◌∙◌, arith}
use Rattle.std.proofs.lemmas.List.{map-append}
use Rattle.std.specs.Result.{IfOk}
use Rattle.std.specs.declared.vec.Vec.{Vec}
use Rattle.std.specs.declared.alloc.Global.{Global}
use Rattle.tam_word.specs.Lists.{below}
use Rattle.tam_graph.specs.Graphs.{Graph}
use Rattle.tam_split.specs.Partitions.{Parts}
use Rattle.tam_split.specs.GraphPartitions.{Partitions, partitions}
use Rattle.tl0_code.specs.ThreadCode.{Program}
use Rattle.tl0_keep.specs.Compiled.{compiled, compiled_with}
use Rattle.tl0_emit.specs.CodeParts.{ArePartsOfAll}
use Rattle.tl0_emit.specs.Emitting.{partitions_of}
use Rattle.tl0_emit.proofs.ClassFlows.{map-more}
use Rattle.tam_run.proofs.GraphPartitions.{parts-at, partitions-made, partitions-whole}
use Rattle.tam_run.proofs.compiling.compile.Goals as goal

-- all partitions, where each code has its own
all-made : (g : Graph) (lists : List (Vec Parts Global)) (n : ℕ) → n ≡ length g.codes → partitions_of lists ≡ map (parts-at g) (below n)
    → partitions_of lists ≡ partitions g
all-made g lists n last e = e ∙ (ap (λ m. map (parts-at g) (below m)) last ∙ partitions-made g)

-- the thread code over the partitions by least pairs is that of the graph
over-least : (g : Graph) (all : Partitions) → all ≡ partitions g → compiled_with g all ≡ compiled g
unfolding compiled
over-least g all e = ap (compiled_with g) e

pub loop-code-preserved : goal.loop-code-preserved
loop-code-preserved c =
    ap partitions_of c.in_ok-push.ensures.items
    ∙ (map-append (λ (v : Vec Parts Global). v.items) c.loop-code.parts.items (c.in_ok-parts_of.field-0 ∷ [])
    ∙ (ap₂ (λ (ls : Partitions) (l : List Parts). ls ++ l ∷ []) c.loop-code.invariant c.in_ok-parts_of.ensures.value
    ∙ sym (map-more (parts-at c.args.g.now) c.loop-code.code)))

pub emit-requires : goal.emit-requires
emit-requires c =
    let g = c.args.g.now in
    let many = ap (λ (h : Graph). length h.codes) c.graph.ensures.value in
    let all = ap partitions_of c.deref.ensures.value
    ∙ all-made g c.loop-code.parts.items c.loop-code.code (omega (arith, many, c.codes-code-end.ensures.value)) c.loop-code.invariant in
    record { whole = subst (ArePartsOfAll g) (sym all) (partitions-whole g c.graph.ensures.accepted) }

pub returns : goal.returns
returns c =
    let g = c.args.g.now in
    let many = ap (λ (h : Graph). length h.codes) c.graph.ensures.value in
    let all = ap partitions_of c.deref.ensures.value
    ∙ all-made g c.loop-code.parts.items c.loop-code.code (omega (arith, many, c.codes-code-end.ensures.value)) c.loop-code.invariant in
    record {
      value = subst (λ (p : Program). IfOk c.emit.result (λ program. program ≡ p)) (over-least g (partitions_of c.deref.result.now) all) c.emit.ensures.value;
    }
