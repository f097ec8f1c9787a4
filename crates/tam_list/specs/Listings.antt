-- The texts that list an accepted graph: its size, what each vertex depends on and is demanded by, and the classes of its blocks.
-- The rule in words: docs/FORMATS.md, "Listings".
use Rattle.std.specs.Prelude.{ℕ, List, [], ◌∷◌, ◌++◌, flat_map, length, decimal, codes}
use Rattle.std.specs.List.{sum_by}
use Rattle.tam_word.specs.Lists.{below}
use Rattle.tam_graph.specs.Graphs.{Code, Graph, code_of, blocks_of}
use Rattle.tam_split.specs.declared.vertex.Half.{Half}
use Rattle.tam_split.specs.declared.vertex.Half.TheVariants.{Whole, Ask, Answer}
use Rattle.tam_split.specs.declared.vertex.Vertex.{Vertex}
use Rattle.tam_split.specs.Blocks.{BlockGraph, block_graph, vertex_at, places, dependences, demands}
use Rattle.tam_split.specs.Partitions.{partition_of}

-- with LF behind
abbrev pub line : List ℕ → List ℕ
line xs = xs ++ codes "\n"

-- the numbers of a graph's codes
abbrev pub codes_of : Graph → List ℕ
codes_of g = below (length g.codes)

-- ---- the size

-- how many vertices a code has in all its blocks
abbrev pub vertices_of_code : Code → ℕ
vertices_of_code c = sum_by (λ b. length (block_graph c b).vertices) (blocks_of c)

-- how many blocks a graph has in all its codes
abbrev pub blocks_of_graph : Graph → ℕ
blocks_of_graph g = sum_by (λ n. length (blocks_of (code_of g n))) (codes_of g)

-- and how many vertices
abbrev pub vertices_of_graph : Graph → ℕ
vertices_of_graph g = sum_by (λ n. vertices_of_code (code_of g n)) (codes_of g)

-- a line of a word and a number
abbrev pub count_line : List ℕ → ℕ → List ℕ
count_line word n = line (word ++ codes " " ++ decimal n)

-- that the graph is accepted, and its size
abbrev pub check_text : Graph → List ℕ
check_text g =
    line (codes "accepted") ++ count_line (codes "codes") (length g.codes) ++ count_line (codes "blocks") (blocks_of_graph g)
    ++ count_line (codes "vertices") (vertices_of_graph g)

-- ---- vertices

-- what stands behind the number of the node
abbrev pub half_text : Half → List ℕ
half_text Whole = []
half_text Ask = codes "a"
half_text Answer = codes "b"

-- a vertex
abbrev pub vertex_text : Vertex → List ℕ
vertex_text v = decimal v.node ++ half_text v.half

-- the vertex at a place
abbrev pub place_text : BlockGraph → ℕ → List ℕ
place_text b x = vertex_text (vertex_at b x)

-- the vertices at such places, each behind a mark
abbrev pub marked_text : List ℕ → BlockGraph → List ℕ → List ℕ
marked_text mark b xs = flat_map (λ x. mark ++ place_text b x) xs

-- the vertices at such places, joined by commas; `-` where there is none
abbrev pub places_text : BlockGraph → List ℕ → List ℕ
places_text b [] = codes "-"
places_text b (x ∷ xs) = place_text b x ++ marked_text (codes ",") b xs

-- ---- what is told of a block

-- a vertex, the inlets on which it depends and the outlets that demand it
abbrev pub sets_line : BlockGraph → ℕ → List ℕ
sets_line b x =
    line (codes "vertex " ++ place_text b x ++ codes " dep " ++ places_text b (dependences b x) ++ codes " dem " ++ places_text b (demands b x))

-- the same of each vertex
abbrev pub sets_of : BlockGraph → List ℕ
sets_of b = flat_map (sets_line b) (places b)

-- a class with all its vertices
abbrev pub class_line : BlockGraph → List ℕ → List ℕ
class_line b class = line (codes "thread" ++ marked_text (codes " ") b class)

-- the classes of the block's partition
abbrev pub classes_of : BlockGraph → List ℕ
classes_of b = flat_map (class_line b) (partition_of b)

-- ---- block by block

-- block b of a code, and what is told of it
abbrev pub block_text : (BlockGraph → List ℕ) → Code → ℕ → List ℕ
block_text told c b = count_line (codes "block") b ++ told (block_graph c b)

-- code n of a graph, and what is told of its blocks
abbrev pub code_text : (BlockGraph → List ℕ) → Graph → ℕ → List ℕ
code_text told g n =
    line (codes "code " ++ decimal n ++ codes " " ++ (code_of g n).name) ++ flat_map (block_text told (code_of g n)) (blocks_of (code_of g n))

-- all codes, and what is told of their blocks
abbrev pub blocks_text : (BlockGraph → List ℕ) → Graph → List ℕ
blocks_text told g = flat_map (code_text told g) (codes_of g)

-- what each vertex depends on, and what demands it
abbrev pub sets_text : Graph → List ℕ
sets_text g = blocks_text sets_of g

-- the classes of each block
abbrev pub parts_text : Graph → List ℕ
parts_text g = blocks_text classes_of g
