use Rattle.std.proofs.Common.{◌≡◌, ◌∙◌, length, ap, arith}
use Rattle.tam_split.specs.Blocks.{dependences, demands}
use Rattle.tam_list.specs.Listings.{sets_line}
use Rattle.tam_list.proofs.Inside.{one-each, at-place}
use Rattle.tam_list.proofs.Appending.{more-below}
use Rattle.tam_list.proofs.block_sets.push_sets.Goals as goal

pub index-requires : goal.index-requires
index-requires c =
    let as_many : length c.in_ok-inlets.inlets.items ≡ length c.args.block.now.vertices =
    one-each (dependences c.args.block.now) c.args.block.now c.in_ok-inlets.inlets.items c.in_ok-inlets.ensures.value in
    let same : length c.vertices.result.now ≡ length c.args.block.now.vertices = ap length c.vertices.ensures.value in
    omega arith

pub index-requires-in-loop-place : goal.index-requires-in-loop-place
index-requires-in-loop-place c =
    let as_many : length c.in_ok-outlets.outlets.items ≡ length c.args.block.now.vertices =
    one-each (demands c.args.block.now) c.args.block.now c.in_ok-outlets.outlets.items c.in_ok-outlets.ensures.value in
    let same : length c.vertices.result.now ≡ length c.args.block.now.vertices = ap length c.vertices.ensures.value in
    omega arith

pub push_sets_line-requires-clause-depends : goal.push_sets_line-requires-clause-depends
push_sets_line-requires-clause-depends c =
    let same : length c.vertices.result.now ≡ length c.args.block.now.vertices = ap length c.vertices.ensures.value in
    c.index.ensures
    ∙ at-place (dependences c.args.block.now) c.args.block.now c.in_ok-inlets.inlets.items c.loop-place.place _ c.in_ok-inlets.ensures.value (omega arith)

pub push_sets_line-requires-clause-demands : goal.push_sets_line-requires-clause-demands
push_sets_line-requires-clause-demands c =
    let same : length c.vertices.result.now ≡ length c.args.block.now.vertices = ap length c.vertices.ensures.value in
    c.index-in-loop-place.ensures
    ∙ at-place (demands c.args.block.now) c.args.block.now c.in_ok-outlets.outlets.items c.loop-place.place _ c.in_ok-outlets.ensures.value (omega arith)

pub loop-place-preserved : goal.loop-place-preserved
loop-place-preserved c =
    more-below (sets_line c.args.block.now) c.args.text.now.items c.loop-place.place _ _ c.loop-place.invariant c.in_ok-push_sets_line.ensures.ok
