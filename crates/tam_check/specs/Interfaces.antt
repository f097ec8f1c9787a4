-- Interfaces: which nodes hand values over at a border, at which places and of which depths.
-- The rule in words: docs/FORMATS.md, "Which graphs are accepted".
use Rattle.std.specs.Prelude.{ℕ, Bool, ◌&&◌, ◌||◌, not, ◌==◌, Option, Some, None}
use Rattle.tam_word.specs.Lists.{below, any_of, all_of}
use Rattle.tam_graph.specs.declared.kind.Kind.{Kind}
use Rattle.tam_graph.specs.declared.kind.Kind.TheVariants.{Param, Arg, Ret, Give, Switch, Merge, Enter, Leave}
use Rattle.tam_graph.specs.Graphs.{Code, kind_at, block_at, depth_at, node_numbers, is_param, is_give, is_arg, is_ret, is_switch, is_merge, is_enter, is_leave}
use Rattle.tam_check.specs.declared.interface.Interface.{Interface}
use Rattle.tam_check.specs.declared.interface.Interface.TheVariants.{Params, Results, Args, Rets, Switches, Merges, Ins, Outs}

-- a node that stands in block b has place k of the interface
abbrev pub stands : Interface → ℕ → ℕ → Kind → Bool
stands Params k b n = is_param k n
stands Results k b n = is_give k n
stands (Args f) k b n = is_arg f k n
stands (Rets f) k b n = is_ret f k n
stands (Switches d) k b n = is_switch d k n
stands (Merges d) k b n = is_merge d k n
stands (Ins e) k b n = (b == e) && is_enter k n
stands (Outs e) k b n = (b == e) && is_leave k n

-- the interface of a node that stands in block b, and its place there
abbrev pub interface_of : ℕ → Kind → Option (Interface × ℕ)
interface_of b (Param k) = Some (Params, k)
interface_of b (Give k a) = Some (Results, k)
interface_of b (Arg f k a) = Some (Args f, k)
interface_of b (Ret f k) = Some (Rets f, k)
interface_of b (Switch d k a) = Some (Switches d, k)
interface_of b (Merge d k) = Some (Merges d, k)
interface_of b (Enter k) = Some (Ins b, k)
interface_of b (Leave k a) = Some (Outs b, k)
interface_of b _ = None

-- node x has place k of the interface
abbrev pub stands_at : Code → Interface → ℕ → ℕ → Bool
stands_at c i k x = stands i k (block_at c x) (kind_at c x)

-- one of the first n nodes has it
abbrev pub has_place_below : Code → Interface → ℕ → ℕ → Bool
has_place_below c i k n = any_of (stands_at c i k) (below n)

-- one of all nodes has it
abbrev pub has_place : Code → Interface → ℕ → Bool
has_place c i k = any_of (stands_at c i k) (node_numbers c)

-- the depth of the value that a node hands over: of the node, or of the operand of a result
abbrev pub depth_of_kind : Code → ℕ → Kind → ℕ
depth_of_kind c x (Give k a) = depth_at c a
depth_of_kind c x _ = depth_at c x

-- and by its number
abbrev pub handed_depth : Code → ℕ → ℕ
handed_depth c x = depth_of_kind c x (kind_at c x)

-- where node x has place k of the interface, what it hands over has depth d
abbrev pub agrees : Code → Interface → ℕ → ℕ → ℕ → Bool
agrees c i k d x = not (stands_at c i k x) || (handed_depth c x == d)

-- what is handed over at place k of the interface has depth d
abbrev pub all_agree : Code → Interface → ℕ → ℕ → Bool
all_agree c i k d = all_of (agrees c i k d) (node_numbers c)

-- the call lacks an arg for a param of this place, or a ret for a result
abbrev pub call_lacks_at : Code → ℕ → Code → ℕ → Bool
call_lacks_at c f callee k =
    (has_place callee Params k && not (has_place c (Args f) k)) || (has_place callee Results k && not (has_place c (Rets f) k))

-- a branch of the cond lacks an in for a switch of this place, or an out for a merge
abbrev pub branches_lack_at : Code → ℕ → ℕ → ℕ → ℕ → Bool
branches_lack_at c d y n k =
    (has_place c (Switches d) k && (not (has_place c (Ins y) k) || not (has_place c (Ins n) k)))
    || (has_place c (Merges d) k && (not (has_place c (Outs y) k) || not (has_place c (Outs n) k)))
