use Rattle.std.proofs.Common.{◌≡◌, ◌∙◌, ◌++◌, ◌-◌, ◌<◌, ℕ, suc, List, Some, length, refl, sym, ap, arith, get_or, flat_map}
use Rattle.std.specs.Prelude.{slice_get}
use Rattle.std.proofs.lemmas.Option.{slice_get_read}
use Rattle.tam_graph.specs.declared.node.Node.{Node}
use Rattle.tam_print.specs.PrintedLines.{block_text}
use Rattle.tam_print.proofs.ListLemmas.{listed-there, grows-next, grows-end}
use Rattle.tam_print.proofs.Texts.{item_text, item-added, block-text}
use Rattle.tam_print.proofs.block.+blocks.Goals as goal

pub push_block-bounds-nodes-x : goal.push_block-bounds-nodes-x
push_block-bounds-nodes-x t c =
    let inside = listed-there c.args.code.now c.args.blocks.now c.requires.blocks c.args.block c.list_at-list.result.now c.list_at-list.ensures.value
    c.loop-x.x-index c.loop-x-test.true in omega (arith, inside, ap (λ (l : List Node). length l) c.nodes-nodes.ensures.value)

pub push_block-push_node-requires-clause-in_range : goal.push_block-push_node-requires-clause-in_range
push_block-push_node-requires-clause-in_range t c =
    listed-there c.args.code.now c.args.blocks.now c.requires.blocks c.args.block c.list_at-list.result.now c.list_at-list.ensures.value
    c.loop-x.x-index c.loop-x-test.true

pub push_block-loop-x-preserved : goal.push_block-loop-x-preserved
push_block-loop-x-preserved t c =
    let list = c.list_at-list.result.now in
    let nodes = c.nodes-nodes.result.now in
    let x = get_or list c.loop-x.x-index 0 in
    let nesting = c.args.nesting - 1 in
    let inside : x < length nodes =
    (let l = listed-there c.args.code.now c.args.blocks.now c.requires.blocks c.args.block list c.list_at-list.ensures.value
    c.loop-x.x-index c.loop-x-test.true in omega (arith, l, ap (λ (l : List Node). length l) c.nodes-nodes.ensures.value)) in
    let there : slice_get c.args.code.now.nodes x ≡ Some c.index-nodes-x.result =
    rw c.nodes-nodes.ensures.value at (slice_get_read nodes (length nodes) x c.index-nodes-x.result refl inside c.index-nodes-x.is) in
    let more = item-added c.args.g.now c.args.code.now nesting x c.index-nodes-x.result there c.loop-x.text.items c.push_node.new.text.items
    c.push_branches.new.text.items c.in_ok-push_node.ensures.ok c.in_ok-push_branches.ensures.ok in
    grows-next (item_text c.args.g.now c.args.code.now nesting) list c.loop-x.x-index
    (c.args.text.now.items ++ flat_map (item_text c.args.g.now c.args.code.now nesting) list) 0
    c.loop-x.text.items c.push_branches.new.text.items c.loop-x-test.true more c.loop-x.invariant

pub push_block-returns : goal.push_block-returns
push_block-returns t c =
    let list = c.list_at-list.result.now in
    let nesting = c.args.nesting - 1 in
    let item = item_text c.args.g.now c.args.code.now nesting in
    let all = grows-end item list c.loop-x.x-index (c.args.text.now.items ++ flat_map item list) c.loop-x.text.items c.loop-x-test.false c.loop-x.invariant in
    let deep : suc nesting ≡ c.args.nesting = omega arith in
    record {
      ok = all ∙ ap (λ (l : List ℕ). c.args.text.now.items ++ flat_map item l) (c.list_at-list.ensures.value ∙ c.requires.blocks c.args.block)
          ∙ ap (λ (l : List ℕ). c.args.text.now.items ++ l) (sym (block-text c.args.g.now c.args.code.now nesting c.args.block)
          ∙ ap (λ (n : ℕ). block_text c.args.g.now c.args.code.now n c.args.block) deep);
    }
