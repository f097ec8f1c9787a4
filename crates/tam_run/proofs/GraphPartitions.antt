-- The partitions of a graph by least pairs, code by code, and that each code has its own.
use Rattle.std.proofs.Common.{◌≡◌, ℕ, ◌<◌, List, map, length, slice_get, sym, ap, ◌∙◌}
use Rattle.std.proofs.Common.{arith}
use Rattle.std.specs.Option.{option_map}
use Rattle.std.proofs.lemmas.Option.{slice_get-map}
use Rattle.std.proofs.lemmas.List.{length-map}
use Rattle.tam_word.specs.Lists.{below}
use Rattle.tam_graph.specs.Graphs.{Code, Graph, code_of, blocks_of}
use Rattle.tam_graph.specs.Accepted.{IsAccepted}
use Rattle.tam_graph.proofs.CodeNames.{code-there}
use Rattle.tam_graph.proofs.FewNodes.{length-below}
use Rattle.tam_split.specs.Blocks.{block_graph}
use Rattle.tam_split.specs.Partitions.{Parts, partition_of}
use Rattle.tam_split.specs.GraphPartitions.{partitions}
use Rattle.tl0_keep.proofs.code.FlatPlaces.{get-below}
use Rattle.tl0_keep.proofs.code.RisingClasses.{partitions-parts}
use Rattle.tl0_emit.specs.CodeParts.{ArePartsOfAll}
use Rattle.tl0_emit.proofs.CodesMade.{same-gets}

-- the partitions of code n
abbrev pub parts-at : Graph → ℕ → List Parts
parts-at g n = map (λ b. partition_of (block_graph (code_of g n) b)) (blocks_of (code_of g n))

-- the partitions of all codes, number by number
pub partitions-made : (g : Graph) → map (parts-at g) (below (length g.codes)) ≡ partitions g
partitions-made g = same-gets (map (parts-at g) (below (length g.codes))) (partitions g) long each
  where
    parts : Code → List Parts
    parts c = map (λ b. partition_of (block_graph c b)) (blocks_of c)

    long : length (map (parts-at g) (below (length g.codes))) ≡ length (partitions g)
    long =
        let a = length-map (below (length g.codes)) (parts-at g) in
        let b = length-below (length g.codes) in
        let d = length-map g.codes (λ (c : Code). map (λ b. partition_of (block_graph c b)) (blocks_of c)) in
        omega (arith, a, b, d)

    each : (k : ℕ) → k < length (map (parts-at g) (below (length g.codes)))
        → slice_get (map (parts-at g) (below (length g.codes))) k ≡ slice_get (partitions g) k
    each k l =
        let a = length-map (below (length g.codes)) (parts-at g) in
        let b = length-below (length g.codes) in
        let low : k < length g.codes = omega (arith, l, a, b) in
        slice_get-map (parts-at g) (below (length g.codes)) k
        ∙ (ap (option_map (parts-at g)) (get-below (length g.codes) k low)
        ∙ sym (slice_get-map (λ (c : Code). map (λ b. partition_of (block_graph c b)) (blocks_of c)) g.codes k
        ∙ ap (option_map (λ (c : Code). map (λ b. partition_of (block_graph c b)) (blocks_of c))) (code-there g.codes k low)))

-- they are a partition of each block of each code
pub partitions-whole : (g : Graph) → IsAccepted g → ArePartsOfAll g (partitions g)
partitions-whole g accepted =
    let p = partitions-parts g accepted in
    record { codes = p.codes; each = λ n l. record { blocks = (p.each n l).blocks; parts = (p.each n l).parts } }
