-- The laws of partitions: what is apart stays apart, a cond stands with its operand, and the partition of a block is valid and can't be merged further.
use Rattle.std.specs.Prelude.{ℕ, ◌≡◌, ◌≢◌, ◌<◌, ◌↔◌, true, false, ◌&&◌, not, nat_lt, List, Some, slice_get, length, IsTrue}
use Rattle.tam_word.specs.Lists.{all_of, has}
use Rattle.tam_graph.specs.declared.kind.Kind.TheVariants.{Cond}
use Rattle.tam_graph.specs.Graphs.{Graph, code_of, kind_at}
use Rattle.tam_graph.specs.Edges.{has_no_cycle}
use Rattle.tam_graph.specs.Accepted.{IsAccepted}
use Rattle.tam_split.specs.Blocks.{BlockGraph, block_graph, vertex_at, is_ask}
use Rattle.tam_split.specs.Partitions.{Parts, class_of, merged, is_valid, keeps_dependences, may_merge, are_apart, partition_of}

-- what the type of a block's graph keeps: both places of each edge are below the number of vertices, and no place reaches itself by edges
pub record IsBlockGraph (b : BlockGraph) : Type 0 where
  pub within : all_of (λ e. nat_lt e.0 (length b.vertices) && nat_lt e.1 (length b.vertices)) b.edges ≡ true
  pub no_cycle : IsTrue (has_no_cycle b.edges)

-- partitions that come from one another by merges that keep each outlet's dependences
pub data Merges (b : BlockGraph) : Parts → Parts → Type 0 where
  None_yet : {ps : Parts} → Merges b ps ps
  One_more : {ps qs : Parts} {k l : ℕ} → k < l → l < length qs → IsTrue (keeps_dependences b (merged qs k l)) → Merges b ps qs → Merges b ps (merged qs k l)

-- the places of a block's classes are the block's, each once
pub record IsPartition (b : BlockGraph) (ps : Parts) : Type 0 where
  pub in_one : (x : ℕ) → x < length b.vertices → class_of ps x < length ps
  pub only_one : (k l : ℕ) (p q : List ℕ) (x : ℕ) → slice_get ps k ≡ Some p → slice_get ps l ≡ Some q → IsTrue (has p x) → IsTrue (has q x) → k ≡ l
  pub inside : (k : ℕ) (p : List ℕ) (x : ℕ) → slice_get ps k ≡ Some p → IsTrue (has p x) → x < length b.vertices

-- merging two classes of a valid partition breaks an outlet's dependences exactly where they are apart,
-- and classes that are apart stay apart, in different classes, under further merges
pub record StayApart (b : BlockGraph) (ps : Parts) : Type 0 where
  pub exactly : (k l : ℕ) → k < l → l < length ps → IsTrue (are_apart b ps k l) ↔ (keeps_dependences b (merged ps k l) ≡ false)
  pub kept : (qs : Parts) → Merges b ps qs → (x y : ℕ) → x < length b.vertices → y < length b.vertices
      → IsTrue (are_apart b ps (class_of ps x) (class_of ps y))
      → (class_of qs x ≢ class_of qs y) × IsTrue (are_apart b qs (class_of qs x) (class_of qs y))

-- and so in each block
abbrev pub Separated : Type 0
Separated = (b : BlockGraph) (ps : Parts) → IsBlockGraph b → IsPartition b ps → IsTrue (is_valid b ps) → StayApart b ps

-- in the partition of a block each cond stands with the vertex that gives its operand
abbrev pub CondsStand : Type 0
CondsStand = (g : Graph) → IsAccepted g → (n b x y p t e : ℕ) → n < length g.codes
    → slice_get (block_graph (code_of g n) b).vertices y ≡ Some (vertex_at (block_graph (code_of g n) b) y)
    → IsTrue (not (is_ask (vertex_at (block_graph (code_of g n) b) y).half))
    → slice_get (block_graph (code_of g n) b).vertices x ≡ Some (vertex_at (block_graph (code_of g n) b) x)
    → kind_at (code_of g n) (vertex_at (block_graph (code_of g n) b) x).node ≡ Cond p t e
    → (vertex_at (block_graph (code_of g n) b) y).node ≡ p
    → class_of (partition_of (block_graph (code_of g n) b)) x ≡ class_of (partition_of (block_graph (code_of g n) b)) y

-- and so in each valid partition of a block in which no pair may be merged, whichever pairs were merged and in whichever order
abbrev pub CondsStandAnywhere : Type 0
CondsStandAnywhere = (g : Graph) → IsAccepted g → (n b : ℕ) (ps : Parts) → n < length g.codes
    → IsPartition (block_graph (code_of g n) b) ps → IsTrue (is_valid (block_graph (code_of g n) b) ps)
    → ((k l : ℕ) → k < l → l < length ps → may_merge (block_graph (code_of g n) b) ps (k, l) ≡ false)
    → (x y p t e : ℕ) → slice_get (block_graph (code_of g n) b).vertices y ≡ Some (vertex_at (block_graph (code_of g n) b) y)
    → IsTrue (not (is_ask (vertex_at (block_graph (code_of g n) b) y).half))
    → slice_get (block_graph (code_of g n) b).vertices x ≡ Some (vertex_at (block_graph (code_of g n) b) x)
    → kind_at (code_of g n) (vertex_at (block_graph (code_of g n) b) x).node ≡ Cond p t e
    → (vertex_at (block_graph (code_of g n) b) y).node ≡ p
    → class_of ps x ≡ class_of ps y

-- the partition of a block is valid, and no pair of it may be merged
abbrev pub Partitioned : Type 0
Partitioned = (b : BlockGraph) → IsBlockGraph b
    → IsPartition b (partition_of b) × IsTrue (is_valid b (partition_of b))
    × ((k l : ℕ) → k < l → l < length (partition_of b) → may_merge b (partition_of b) (k, l) ≡ false)
