-- Tables of a code: what its nodes hand over at each place of each interface, and the sizes of the interfaces.
use Rattle.std.specs.Prelude.{ℕ, ◌≡◌, ◌<◌, ◌≤◌, ◌+◌, ◌*◌, ◌%◌, Bool, true, false, ◌&&◌, ◌==◌, nat_lt, List, [], Option, Some, None}
use Rattle.std.specs.Prelude.{slice_get, slice_index_or, length, count_by}
use Rattle.tam_check.specs.declared.table.Table.{Table}
use Rattle.tam_word.specs.Lists.{below, all_of}
use Rattle.tam_graph.specs.Graphs.{Code, Graph, code_of, kind_at, block_at, node_numbers}
use Rattle.tam_check.specs.declared.interface.Interface.{Interface}
use Rattle.tam_check.specs.declared.interface.Interface.TheVariants.{Params, Results, Args, Rets, Switches, Merges, Ins, Outs}
use Rattle.tam_check.specs.declared.seen.Seen.{Seen}
use Rattle.tam_check.specs.declared.seen.Seen.TheVariants.{Nothing, Depth, Depths}
use Rattle.tam_check.specs.Interfaces.{interface_of, has_place_below, agrees}

-- ---- one place

-- a node has the place
abbrev pub is_something : Seen → Bool
is_something Nothing = false
is_something (Depth d) = true
is_something Depths = true

-- no other depth than this is handed over
abbrev pub is_only : Seen → ℕ → Bool
is_only Nothing d = true
is_only (Depth e) d = e == d
is_only Depths d = false

-- with one more node
abbrev pub with_depth : Seen → ℕ → Seen
with_depth Nothing d = Depth d
with_depth (Depth e) d = elim (e == d) [ true ↦ Depth e | false ↦ Depths ]
with_depth Depths d = Depths

-- ---- the entries of a table

-- which sort of interface it is
abbrev pub sort_of : Interface → ℕ
sort_of Params = 0
sort_of Results = 1
sort_of (Args f) = 2
sort_of (Rets f) = 3
sort_of (Switches d) = 4
sort_of (Merges d) = 5
sort_of (Ins b) = 6
sort_of (Outs b) = 7

-- which of its sort
abbrev pub owner_number : Interface → ℕ
owner_number Params = 0
owner_number Results = 0
owner_number (Args f) = f
owner_number (Rets f) = f
owner_number (Switches d) = d
owner_number (Merges d) = d
owner_number (Ins b) = b
owner_number (Outs b) = b

-- the number of an interface
abbrev pub number : Interface → ℕ
number i = 8 * owner_number i + sort_of i

-- the two interfaces are one
abbrev pub same_side : Interface → Interface → Bool
same_side j i = (sort_of j == sort_of i) && (owner_number j == owner_number i)

-- an entry that is there
abbrev pub or_nothing : Option Seen → Seen
or_nothing None = Nothing
or_nothing (Some s) = s

-- a row that is there
abbrev pub joined : Option (Option ℕ) → Option ℕ
joined None = None
joined (Some r) = r

-- the row of an interface, by its number
abbrev pub row_at : List (Option ℕ) → ℕ → Option ℕ
row_at rows m = joined (slice_get rows m)

-- what a row tells of a place below 64
abbrev pub row_entry : List Seen → Option ℕ → ℕ → Seen
row_entry seen None k = Nothing
row_entry seen (Some r) k = or_nothing (slice_get seen (64 * r + k))

-- what the table tells of a place
abbrev pub entry : List (Option ℕ) → List Seen → Interface → ℕ → Seen
entry rows seen i k = elim (nat_lt k 64) [ true ↦ row_entry seen (row_at rows (number i)) k | false ↦ Nothing ]

-- what is told of a place is so of the first n nodes
pub record Shows (c : Code) (n : ℕ) (i : Interface) (k : ℕ) (s : Seen) : Type 0 where
  pub place : is_something s ≡ has_place_below c i k n
  pub depths : (d : ℕ) → is_only s d ≡ all_of (agrees c i k d) (below n)

-- the table tells of the first n nodes at each place of the first interfaces; each interface with a node has a row of its own
pub record IsTable (c : Code) (n interfaces : ℕ) (rows : List (Option ℕ)) (seen : List Seen) : Type 0 where
  pub len : length rows ≡ interfaces
  pub whole : length seen % 64 ≡ 0
  pub fits : (m r : ℕ) → row_at rows m ≡ Some r → 64 * r + 64 ≤ length seen
  pub apart : (m l r : ℕ) → row_at rows m ≡ Some r → row_at rows l ≡ Some r → m ≡ l
  pub each : (i : Interface) (k : ℕ) → k < 64 → number i < interfaces → Shows c n i k (entry rows seen i k)

-- ---- sizes

-- a node of the one interface belongs to the other
abbrev pub belongs_to : Interface → Option (Interface × ℕ) → Bool
belongs_to i None = false
belongs_to i (Some q) = same_side q.0 i

-- node x belongs to the interface
abbrev pub belongs_at : Code → Interface → ℕ → Bool
belongs_at c i x = belongs_to i (interface_of (block_at c x) (kind_at c x))

-- how many of the first n nodes belong to the interface
abbrev pub size_below : Code → Interface → ℕ → ℕ
size_below c i n = count_by (belongs_at c i) (below n)

-- the size of an interface, by its number
abbrev pub size_in : List ℕ → ℕ → ℕ
size_in sizes m = slice_index_or sizes m 0

-- the sizes of the first interfaces, of the first n nodes
pub record AreSizes (c : Code) (n interfaces : ℕ) (sizes : List ℕ) : Type 0 where
  pub len : length sizes ≡ interfaces
  pub each : (i : Interface) → number i < interfaces → size_in sizes (number i) ≡ size_below c i n

-- how many nodes belong to the interface
abbrev pub size_of : Code → Interface → ℕ
size_of c i = count_by (belongs_at c i) (node_numbers c)

-- the tables tell of each place and each interface of the code
pub record AreTables (c : Code) (rows : List (Option ℕ)) (seen : List Seen) (sizes : List ℕ) : Type 0 where
  pub places : (i : Interface) (k : ℕ) → Shows c (length c.nodes) i k (entry rows seen i k)
  pub counts : (i : Interface) → size_in sizes (number i) ≡ size_of c i

-- ---- borders

-- the table tells of each param and each result of the code
pub record IsBorder (c : Code) (rows : List (Option ℕ)) (seen : List Seen) : Type 0 where
  pub params : (k : ℕ) → Shows c (length c.nodes) Params k (entry rows seen Params k)
  pub results : (k : ℕ) → Shows c (length c.nodes) Results k (entry rows seen Results k)

-- the rows of a table that is there
abbrev pub or_no_rows : Option Table → List (Option ℕ)
or_no_rows None = []
or_no_rows (Some t) = t.rows.items

-- what a table that is there tells in its rows
abbrev pub or_no_seen : Option Table → List Seen
or_no_seen None = []
or_no_seen (Some t) = t.seen.items

-- each of the first codes has its table
pub record AreBorders (g : Graph) (n : ℕ) (borders : List Table) : Type 0 where
  pub len : length borders ≡ n
  pub each : (m : ℕ) → m < n → IsBorder (code_of g m) (or_no_rows (slice_get borders m)) (or_no_seen (slice_get borders m))
