-- The nodes and blocks of a code, built line by line.
use Rattle.std.specs.Prelude.{ℕ, ◌-◌, true, false, List, [], ◌∷◌, ◌++◌, Option, Some, None, length, slice_index}
use Rattle.tam_word.specs.Lists.{changed_at}
use Rattle.tam_word.specs.Numbers.{some_if}
use Rattle.tam_graph.specs.declared.kind.Kind.{Kind}
use Rattle.tam_graph.specs.declared.kind.Kind.TheVariants as kind
use Rattle.tam_graph.specs.declared.node.Node.{Node}
use Rattle.tam_text.specs.Names.{is_name}
use Rattle.tam_read.specs.declared.form.Verb.{Verb}
use Rattle.tam_read.specs.declared.form.Verb.TheVariants as verb
use Rattle.tam_read.specs.declared.form.Role.TheVariants as role
use Rattle.tam_read.specs.declared.branch.Branch.{Branch}
use Rattle.tam_read.specs.Sentences.{Sentence, makes, roles_of, same_role, has_depth, names_made}
use Rattle.tam_read.specs.Naming.{Known, first_number, second_number, third_number}

-- ---- the node of a line

-- its kind by its verb and the numbers of its tokens; a cond's else block has no number yet, where `next` is the next block
abbrev pub kind_made : Verb → ℕ → ℕ → ℕ → ℕ → Kind
kind_made verb.Param x y z next = kind.Param x
kind_made verb.Const x y z next = kind.Const x
kind_made (verb.Operate o) x y z next = kind.Op o x y
kind_made verb.Seq x y z next = kind.Seq x y
kind_made verb.Call x y z next = kind.Call x
kind_made verb.Arg x y z next = kind.Arg x y z
kind_made verb.Ret x y z next = kind.Ret x y
kind_made verb.Give x y z next = kind.Give x y
kind_made verb.Alloc x y z next = kind.Alloc x
kind_made verb.Fetch x y z next = kind.Fetch x y
kind_made verb.Store x y z next = kind.Store x y z
kind_made verb.Cond x y z next = kind.Cond x next 0
kind_made verb.Switch x y z next = kind.Switch x y z
kind_made verb.Merge x y z next = kind.Merge x y
kind_made verb.Enter x y z next = kind.Enter x
kind_made verb.Leave x y z next = kind.Leave x y
kind_made v x y z next = kind.Enter 0

-- its depth by the token before `=`
abbrev pub depth_written : List ℕ → ℕ
depth_written t = elim (has_depth t) [ true ↦ slice_index t (length t - 1) - 48 | false ↦ 0 ]

-- its depth, where it gives a value
abbrev pub depth_made : Verb → List (List ℕ) → ℕ
depth_made v [] = 0
depth_made v (t ∷ ts) = elim (makes v) [ None ↦ 0 | Some r ↦ elim (same_role r role.Value) [ true ↦ depth_written t | false ↦ 0 ] ]

-- its name
abbrev pub name_given : List (List ℕ) → Option (List ℕ)
name_given [] = None
name_given (n ∷ ns) = some_if (is_name n) n

-- the kind that a line says
abbrev pub kind_said : Known → ℕ → Sentence → Kind
kind_said k next s = kind_made s.verb (first_number k (roles_of s.verb) s.rest) (second_number k (roles_of s.verb) s.rest)
    (third_number k (roles_of s.verb) s.rest) next

-- the node in a block
abbrev pub node_said : Known → ℕ → ℕ → Sentence → Node
node_said k block next s = record { name = name_given (names_made s); depth = depth_made s.verb s.name; block = block; kind = kind_said k next s }

-- ---- what is built

-- nodes, for each block its cond, and the blocks that are open, the innermost first, each with its cond
pub record Built : Type 0 where
  pub nodes : List Node
  pub owners : List (Option ℕ)
  pub within : List Branch

-- the number of the innermost block
abbrev pub block_within : List Branch → ℕ
block_within [] = 0
block_within (b ∷ bs) = b.block

-- the number of its cond
abbrev pub cond_within : List Branch → ℕ
cond_within [] = 0
cond_within (b ∷ bs) = b.cond

-- without the innermost block
abbrev pub outside : List Branch → List Branch
outside [] = []
outside (b ∷ bs) = bs

-- a block that is open
abbrev pub a_branch : ℕ → ℕ → Branch
a_branch block cond = record { block = block; cond = cond }

-- a cond with its else block
abbrev pub else_kind : ℕ → Kind → Kind
else_kind n (kind.Cond p y other) = kind.Cond p y n
else_kind n k = k

-- a node with its else block
abbrev pub with_else : ℕ → Node → Node
with_else n m = record { name = m.name; depth = m.depth; block = m.block; kind = else_kind n m.kind }

-- with a node more in the innermost block
abbrev pub with_node : Known → Built → Sentence → List Node
with_node k b s = b.nodes ++ node_said k (block_within b.within) (length b.owners) s ∷ []

-- behind an `else`
abbrev pub turned_else : Built → Built
turned_else b = record {
  nodes = changed_at (cond_within b.within) (with_else (length b.owners)) b.nodes;
  owners = b.owners ++ Some (cond_within b.within) ∷ [];
  within = a_branch (length b.owners) (cond_within b.within) ∷ outside b.within;
}

-- behind a line with a verb
abbrev pub built_by : Known → Built → Sentence → Verb → Built
built_by k b s verb.Code = b
built_by k b s verb.Cond = record {
  nodes = with_node k b s;
  owners = b.owners ++ Some (length b.nodes) ∷ [];
  within = a_branch (length b.owners) (length b.nodes) ∷ b.within;
}
built_by k b s verb.Else = turned_else b
built_by k b s verb.End = record { nodes = b.nodes; owners = b.owners; within = outside b.within }
built_by k b s v = record { nodes = with_node k b s; owners = b.owners; within = b.within }

-- behind a line
abbrev pub built_behind : Known → Built → Sentence → Built
built_behind k b s = built_by k b s s.verb

-- behind lines
abbrev pub built : Known → Built → List Sentence → Built
built k b [] = b
built k b (s ∷ ss) = built k (built_behind k b s) ss

-- before the first line of a code: its block 0 is open
abbrev pub nothing_built : Built
nothing_built = record { nodes = []; owners = None ∷ []; within = a_branch 0 0 ∷ [] }
