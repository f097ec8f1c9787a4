use Rattle.std.proofs.Common.{◌≡◌, ◌<◌, ◌∙◌, ◌+◌, None, length, get_or, slice_index, ap, subst, arith, List}
use Rattle.std.proofs.lemmas.List.{length-set}
use Rattle.tam_split.specs.declared.vertex.Vertex.{Vertex}
use Rattle.tam_split.specs.Blocks.{BlockGraph, or_vertex, block_graph}
use Rattle.tam_split.specs.Partitions.{class_of}
use Rattle.tam_order.proofs.ClassNumbers.{length-numbers, numbers-at}
use Rattle.tl0_keep.specs.Compiled.{parts_at, inlet_place}
use Rattle.tl0_keep.proofs.code.InletVertices.{IsInletOf, inlet-at, inlet-node}
use Rattle.tl0_emit.proofs.BlockSteps.{inlet-read, inlet-none, set-more, set-none, set-apart, thread-here}
use Rattle.tl0_emit.proofs.inlet_threads.set_threads.Goals as goal
use Rattle.tl0_emit.proofs.inlet_threads.set_threads.Goals.{then-vertex, else-vertex}

pub bounds-numbers-place : goal.bounds-numbers-place
bounds-numbers-place c =
    let code = c.args.blocks.now.code in
    let block = c.args.block in
    let vertices = c.vertices-vertices.ensures.value ∙ ap (λ (g : BlockGraph). g.vertices) c.graph.ensures.value in
    let many = ap (λ (vs : List Vertex). length vs) vertices in
    let long = ap length c.numbers-numbers.ensures.value ∙ length-numbers (class_of (parts_at c.args.blocks.now.parts block))
    (length (block_graph code block).vertices) in
    omega (arith, many, long, c.loop-place-test.true)

pub overflow_add-threads : goal.overflow_add-threads
overflow_add-threads c =
    let code = c.args.blocks.now.code in
    let ps = c.args.blocks.now.parts in
    let block = c.args.block in
    let place = c.loop-place.place in
    let vertices = c.vertices-vertices.ensures.value ∙ ap (λ (g : BlockGraph). g.vertices) c.graph.ensures.value in
    let many = ap (λ (vs : List Vertex). length vs) vertices in
    let there : place < length (block_graph code block).vertices = omega (arith, many, c.loop-place-test.true) in
    let number : slice_index c.numbers-numbers.result.now place ≡ class_of (parts_at ps block) place =
    ap (λ xs. slice_index xs place) c.numbers-numbers.ensures.value
    ∙ numbers-at (class_of (parts_at ps block)) (length (block_graph code block).vertices) place there in
    let one = c.numbers-numbers.ensures.whole.in_one place there in
    omega (arith, number, one, c.first_thread-first.ensures.few)

pub bounds-threads-vertex : goal.bounds-threads-vertex
bounds-threads-vertex c =
    let code = c.args.blocks.now.code in
    let vertices = c.vertices-vertices.ensures.value ∙ ap (λ (g : BlockGraph). g.vertices) c.graph.ensures.value in
    let inlet = inlet-read code c.args.block c.loop-place.place c.vertices-vertices.result.now vertices c.loop-place-test.true c.if-vertex.true in
    let node = inlet-node code c.args.block c.loop-place.place _ inlet in
    omega (arith, node.0, c.loop-place.invariant.0, c.requires.each)

pub loop-place-preserved : goal.loop-place-preserved
loop-place-preserved c =
    let code = c.args.blocks.now.code in
    let ps = c.args.blocks.now.parts in
    let block = c.args.block in
    let place = c.loop-place.place in
    let read = c.vertices-vertices.result.now in
    let vertices = c.vertices-vertices.ensures.value ∙ ap (λ (g : BlockGraph). g.vertices) c.graph.ensures.value in
    let many = ap (λ (vs : List Vertex). length vs) vertices in
    let there : place < length (block_graph code block).vertices = omega (arith, many, c.loop-place-test.true) in
    elim c.if-vertex.branch [
      | then-vertex w ↦ (
          let inlet = inlet-read code block place read vertices c.loop-place-test.true w.if-vertex.true in
          let node = (get_or read place (or_vertex None)).node in
          let inside : node < length c.loop-place.threads =
          let n = inlet-node code block place node inlet in omega (arith, n.0, c.loop-place.invariant.0, c.requires.each) in
          let number : slice_index c.numbers-numbers.result.now place ≡ class_of (parts_at ps block) place =
          ap (λ xs. slice_index xs place) c.numbers-numbers.ensures.value
          ∙ numbers-at (class_of (parts_at ps block)) (length (block_graph code block).vertices) place there in
          let value = c.first_thread-first.result + slice_index c.numbers-numbers.result.now place in
          let right = thread-here code ps block place node inlet c.first_thread-first.result (slice_index c.numbers-numbers.result.now place)
          c.first_thread-first.ensures.value number in
          rw w.threads-is (
            length-set c.loop-place.threads node value ∙ c.loop-place.invariant.0,
            set-more code ps block place c.loop-place.threads c.loop-place.invariant.1 node value inlet inside right,
            λ x d. set-apart code ps block place c.loop-place.threads c.loop-place.invariant.1 node value inlet inside x d ∙ c.loop-place.invariant.2 x d,
          ))
      | else-vertex w ↦ rw w.threads-is (
        c.loop-place.invariant.0,
        set-none code ps block place c.loop-place.threads c.loop-place.invariant.1
            (λ x i. inlet-none code block place read vertices c.loop-place-test.true x w.if-vertex.false i),
        c.loop-place.invariant.2,
      )
    ]

pub returns-clause-set : goal.returns-clause-set
returns-clause-set c = λ x l h e.
    let code = c.args.blocks.now.code in
    let vertices = c.vertices-vertices.ensures.value ∙ ap (λ (g : BlockGraph). g.vertices) c.graph.ensures.value in
    let many = ap (λ (vs : List Vertex). length vs) vertices in
    let inlet = subst (λ b. IsInletOf code b (inlet_place (block_graph code b) x) x) e (inlet-at code x l h) in
    c.loop-place.invariant.1 (inlet_place (block_graph code c.args.block) x) x (let i = inlet.inside in omega (arith, i, many, c.loop-place-test.false)) inlet
