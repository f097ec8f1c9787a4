use Rattle.std.proofs.Common.{◌≡◌, ◌∙◌, ap, refl, ℕ, List, ◌++◌, ◌∷◌, [], filter, Some, length, arith, add-one}
use Rattle.std.specs.Prelude.{slice_get}
use Rattle.std.proofs.lemmas.Option.{slice_get_read}
use Rattle.tam_graph.specs.declared.node.Node.{Node}
use Rattle.tam_graph.specs.Graphs.{code_of, kind_at, operands_of}
use Rattle.tam_world.specs.Takers.{is_none}
use Rattle.tam_world.specs.Tables.{listed}
use Rattle.tam_world.proofs.TableLists.{AreListsBelow, lists-next, firers-all, inlets-next, inlets-all}
use Rattle.tam_world.proofs.Needed.{needs-next, needs-all}
use Rattle.tam_world.proofs.table.Table.of.Goals as goal

pub loop-x-preserved : goal.loop-x-preserved
loop-x-preserved c =
    let code = code_of c.args.graph.now c.args.code in
    let read : slice_get code.nodes c.loop-x.x ≡ Some c.index-nodes-x.result =
    rw c.nodes_of-nodes.ensures.value at (slice_get_read c.nodes_of-nodes.result.now
    (length c.nodes_of-nodes.result.now) c.loop-x.x c.index-nodes-x.result refl c.loop-x-test.true c.index-nodes-x.is) in
    let needed : c.push.new.self.items ≡ c.loop-x.needs.items ++ c.of.result ∷ [] = c.in_ok-push.ensures.items in
    rw add-one (record {
      lists = lists-next code (listed c.loop-x.takers.items) (listed c.loop-x.firers.items) (listed c.loop-x.inlets.items)
          (listed c.add_node.new.takers.items) (listed c.add_node.new.firers.items) (listed c.add_inlet.new.inlets.items) c.loop-x.x c.index-nodes-x.result
          c.loop-x.invariant.lists read c.in_ok-add_node.ensures.takers c.in_ok-add_node.ensures.firers c.in_ok-add_inlet.ensures.ok;
      block_inlets = inlets-next code (listed c.loop-x.block_inlets.items) (listed c.add_block_inlet.new.lists.items) c.loop-x.x c.index-nodes-x.result
          c.loop-x.invariant.block_inlets read c.in_ok-add_block_inlet.ensures.ok;
      needs = rw needed (needs-next code c.loop-x.needs.items c.loop-x.x c.index-nodes-x.result c.of.result c.loop-x.invariant.needs read c.of.ensures.value);
    })

pub returns : goal.returns
returns c =
    let code = code_of c.args.graph.now c.args.code in
    let takers = listed c.loop-x.takers.items in
    let firers = listed c.loop-x.firers.items in
    let inlets = listed c.loop-x.inlets.items in
    let count : c.loop-x.x ≡ length c.nodes_of-nodes.result.now = omega arith in
    let all : c.loop-x.x ≡ length code.nodes = count ∙ ap (λ (l : List Node). length l) c.nodes_of-nodes.ensures.value in
    let lists : AreListsBelow code takers firers inlets (length code.nodes) = rw all at c.loop-x.invariant.lists in
    record {
      value = record {
        takers = lists.takers_below;
        firers = firers-all code takers firers inlets lists;
        inlets = lists.inlets_below;
        block_inlets = inlets-all code (listed c.loop-x.block_inlets.items) (rw all at c.loop-x.invariant.block_inlets);
        needs = needs-all code c.loop-x.needs.items (rw all at c.loop-x.invariant.needs);
        few = omega (arith, ap (λ (l : List Node). length l) c.nodes_of-nodes.ensures.value, c.nodes_of-nodes.ensures.few);
        starters = c.in_ok-starters.ensures.value ∙ ap (λ (l : List ℕ). filter (λ x. is_none (operands_of code (kind_at code x))) l) (c.list_at.ensures.value
            ∙ ap (λ (l : _). listed l 0) c.deref.ensures.value ∙ firers-all code takers firers inlets lists 0);
      };
    }
