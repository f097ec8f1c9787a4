-- What stands in the lists of takers and of the nodes of a block that fire, and how the lists grow node by node.
use Rattle.std.proofs.Common.{◌≡◌, ℕ, ◌+◌, ◌<◌, Bool, true, ◌==◌, ◌&&◌, ◌++◌, length, filter, refl, ap, ◌∙◌}
use Rattle.tam_word.specs.Lists.{below, has, where_so}
use Rattle.tam_word.proofs.Tests.{both-true, true-both, number-eq, eq-number}
use Rattle.tam_word.proofs.Members.{In, in-filter, filter-in, in-below, below-in}
use Rattle.tam_word.proofs.Sifted.{filter-twice, filter-below_more}
use Rattle.tam_graph.specs.Graphs.{Code, kind_at, block_at, operands_of, fires, nodes_in, node_numbers}
use Rattle.tam_world.specs.Takers.{takers_of, firers_in, starters_of, is_none}

-- the node fires and takes the word of node y
abbrev pub is_taker : Code → ℕ → ℕ → Bool
is_taker c y x = fires (kind_at c x) && has (operands_of c (kind_at c x)) y

-- the node fires and is one of block b
abbrev pub is_firer : Code → ℕ → ℕ → Bool
is_firer c b x = (block_at c x == b) && fires (kind_at c x)

-- the node fires, is one of the body and takes no word
abbrev pub is_starter : Code → ℕ → Bool
is_starter c x = is_firer c 0 x && is_none (operands_of c (kind_at c x))

-- ---- by one test of the nodes in order

-- the takers of a node
pub takers-sifted : (c : Code) (y : ℕ) → takers_of c y ≡ filter (is_taker c y) (below (length c.nodes))
takers-sifted c y = refl

-- the nodes of a block that fire
pub firers-sifted : (c : Code) (b : ℕ) → firers_in c b ≡ filter (is_firer c b) (below (length c.nodes))
firers-sifted c b = filter-twice (λ x. block_at c x == b) (λ x. fires (kind_at c x)) (node_numbers c)

-- the nodes of the body that fire and take no word
pub starters-sifted : (c : Code) → starters_of c ≡ filter (is_starter c) (below (length c.nodes))
starters-sifted c =
    ap (filter (λ x. is_none (operands_of c (kind_at c x)))) (firers-sifted c 0)
    ∙ filter-twice (is_firer c 0) (λ x. is_none (operands_of c (kind_at c x))) (node_numbers c)

-- ---- one node more

-- the takers among the first nodes
pub takers-more : (c : Code) (y n : ℕ) → filter (is_taker c y) (below (n + 1)) ≡ filter (is_taker c y) (below n) ++ where_so (is_taker c y n) n
takers-more c y n = filter-below_more (is_taker c y) n

-- the nodes of a block that fire among the first nodes
pub firers-more : (c : Code) (b n : ℕ) → filter (is_firer c b) (below (n + 1)) ≡ filter (is_firer c b) (below n) ++ where_so (is_firer c b n) n
firers-more c b n = filter-below_more (is_firer c b) n

-- the starters among the first nodes
pub starters-more : (c : Code) (n : ℕ) → filter (is_starter c) (below (n + 1)) ≡ filter (is_starter c) (below n) ++ where_so (is_starter c n) n
starters-more c n = filter-below_more (is_starter c) n

-- ---- elements

-- a taker is a node of the code that fires and takes the word
pub in-takers : (c : Code) (y x : ℕ) → In x (takers_of c y)
    → (x < length c.nodes) × (fires (kind_at c x) ≡ true) × (has (operands_of c (kind_at c x)) y ≡ true)
in-takers c y x h =
    let parts = in-filter (is_taker c y) x (below (length c.nodes)) h in
    let both = both-true (fires (kind_at c x)) (has (operands_of c (kind_at c x)) y) parts.1 in
    (in-below x (length c.nodes) parts.0, both.0, both.1)

-- and each such node is a taker
pub takers-in : (c : Code) (y x : ℕ) → x < length c.nodes → fires (kind_at c x) ≡ true → has (operands_of c (kind_at c x)) y ≡ true
    → In x (takers_of c y)
takers-in c y x l f h =
    filter-in (is_taker c y) x (below (length c.nodes)) (below-in x (length c.nodes) l)
    (true-both (fires (kind_at c x)) (has (operands_of c (kind_at c x)) y) f h)

-- a firer of a block is a node of it that fires
pub in-firers : (c : Code) (b x : ℕ) → In x (firers_in c b) → (x < length c.nodes) × (block_at c x ≡ b) × (fires (kind_at c x) ≡ true)
in-firers c b x h =
    let outer = in-filter (λ z. fires (kind_at c z)) x (nodes_in c b) h in
    let inner = in-filter (λ z. block_at c z == b) x (below (length c.nodes)) outer.0 in
    (in-below x (length c.nodes) inner.0, number-eq (block_at c x) b inner.1, outer.1)

-- and each such node is a firer
pub firers-in : (c : Code) (b x : ℕ) → x < length c.nodes → block_at c x ≡ b → fires (kind_at c x) ≡ true → In x (firers_in c b)
firers-in c b x l e f =
    filter-in (λ z. fires (kind_at c z)) x (nodes_in c b)
    (filter-in (λ z. block_at c z == b) x (below (length c.nodes)) (below-in x (length c.nodes) l) (eq-number (block_at c x) b e)) f
