use Rattle.std.proofs.Common.{List, subst}
use Rattle.std.proofs.lemmas.List.{take_all}
use Rattle.tam_split.specs.declared.vertex.Vertex.{Vertex}
use Rattle.tam_split.specs.Takers.{TakeTheSame}
use Rattle.tam_split.proofs.Gathered.{step-taken}
use Rattle.tam_split.proofs.gathering.taken_by_each.Goals as goal

pub loop-vertex-init : goal.loop-vertex-init
loop-vertex-init c = rw c.new-taken.ensures.items tt

pub loop-vertex-preserved : goal.loop-vertex-preserved
loop-vertex-preserved c =
    step-taken c.args.code.now c.args.vertices.now c.loop-vertex.vertex-index _ c.loop-vertex.taken.items c.push.new.self.items c.taken_by.result
    c.loop-vertex-test.true
    c.loop-vertex.invariant c.in_ok-push.ensures.items c.taken_by.ensures.same

pub returns : goal.returns
returns c = record {
  same = subst (λ (vs : List Vertex). TakeTheSame c.args.code.now vs c.loop-vertex.taken.items)
      (take_all c.loop-vertex.vertex-index c.args.vertices.now c.loop-vertex-test.false) c.loop-vertex.invariant;
}
