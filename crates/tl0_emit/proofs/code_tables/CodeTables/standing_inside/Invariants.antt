use Rattle.std.proofs.Common.{◌≡◌, ◌+◌, drop, slice_index}
use Rattle.std.specs.List.{sum_by}
use Rattle.tl0_emit.specs.CodeParts.{its_code}
use Rattle.tl0_emit.specs.Branches.{at_vertex}
use Rattle.tl0_emit.proofs.code_tables.CodeTables.standing_inside.Given as goal

abbrev pub invariant-loop-vertex : goal.invariant-loop-vertex
invariant-loop-vertex l =
    l.count + sum_by (at_vertex (its_code l.self) (slice_index l.counts)) (drop l.vertex-index l.vertices)
    ≡ sum_by (at_vertex (its_code l.self) (slice_index l.counts)) l.vertices
