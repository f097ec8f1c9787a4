-- The text of a graph: its names, its lines as tokens, and the canonical text.
use Rattle.std.specs.Prelude.{ℕ, zero, suc, Bool, true, false, ◌==◌, List, [], ◌∷◌, ◌++◌, flat_map, map, Option, Some, None, slice_get, length, decimal, codes}
use Rattle.tam_word.specs.declared.op.Op.{Op}
use Rattle.tam_word.specs.declared.op.Op.TheVariants.{Add, Sub, Mul, Div, Divu, Rem, Remu, And, Or, Xor, Sll, Srl, Sra, Slt, Sltu, Eq}
use Rattle.tam_graph.specs.declared.node.Node.{Node}
use Rattle.tam_graph.specs.declared.kind.Kind.{Kind}
use Rattle.tam_graph.specs.declared.kind.Kind.TheVariants.{Param, Const, Op as Operate, Seq, Call, Arg, Ret, Give, Alloc, Fetch, Store, Cond, Switch, Merge}
use Rattle.tam_graph.specs.declared.kind.Kind.TheVariants.{Enter, Leave}
use Rattle.tam_graph.specs.Graphs.{Code, Graph, code_of, kind_at, depth_at}
use Rattle.tam_graph.specs.Written.{Visit, AtNode, AtElse, AtEnd, visits}
use Rattle.tam_word.specs.Words.{signed_text}
use Rattle.tam_word.specs.Numbers.{word_of}

-- ---- words

-- these bytes stand for the word w, in any of its spellings
abbrev pub spells : List ℕ → ℕ → Bool
spells bs w = elim (word_of bs) [ None ↦ false | Some v ↦ v == w ]

-- a token of a graph's text: bytes, or a word in any spelling
pub data Token : Type 0 where
  Bytes : (bytes : List ℕ) → Token
  Number : (word : ℕ) → Token

-- a line as its tokens
abbrev pub Line : Type 0
Line = List Token

-- ---- the lines of a graph

-- the name of an operator
abbrev pub op_name : Op → List ℕ
op_name Add = codes "add"
op_name Sub = codes "sub"
op_name Mul = codes "mul"
op_name Div = codes "div"
op_name Divu = codes "divu"
op_name Rem = codes "rem"
op_name Remu = codes "remu"
op_name And = codes "and"
op_name Or = codes "or"
op_name Xor = codes "xor"
op_name Sll = codes "sll"
op_name Srl = codes "srl"
op_name Sra = codes "sra"
op_name Slt = codes "slt"
op_name Sltu = codes "sltu"
op_name Eq = codes "eq"

-- no bytes where there is no name
abbrev pub or_bytes : Option (List ℕ) → List ℕ
or_bytes None = []
or_bytes (Some bs) = bs

-- a node's name, empty where it has none or there is no node
abbrev pub or_name : Option Node → List ℕ
or_name None = []
or_name (Some n) = or_bytes n.name

-- the name of node x of a code, empty where it has none
abbrev pub node_name : Code → ℕ → List ℕ
node_name c x = or_name (slice_get c.nodes x)

-- the tokens of a line behind its name, where it has one
abbrev pub tokens : Graph → Code → Kind → Line
tokens g c (Param k) = Bytes (codes "param") ∷ Bytes (decimal k) ∷ []
tokens g c (Const w) = Bytes (codes "const") ∷ Number w ∷ []
tokens g c (Operate o a b) = Bytes (op_name o) ∷ Bytes (node_name c a) ∷ Bytes (node_name c b) ∷ []
tokens g c (Seq a b) = Bytes (codes "seq") ∷ Bytes (node_name c a) ∷ Bytes (node_name c b) ∷ []
tokens g c (Call d) = Bytes (codes "call") ∷ Bytes (code_of g d).name ∷ []
tokens g c (Arg f k a) = Bytes (codes "arg") ∷ Bytes (node_name c f) ∷ Bytes (decimal k) ∷ Bytes (node_name c a) ∷ []
tokens g c (Ret f k) = Bytes (codes "ret") ∷ Bytes (node_name c f) ∷ Bytes (decimal k) ∷ []
tokens g c (Give k a) = Bytes (codes "result") ∷ Bytes (decimal k) ∷ Bytes (node_name c a) ∷ []
tokens g c (Alloc n) = Bytes (codes "alloc") ∷ Bytes (node_name c n) ∷ []
tokens g c (Fetch a i) = Bytes (codes "fetch") ∷ Bytes (node_name c a) ∷ Bytes (node_name c i) ∷ []
tokens g c (Store a i v) = Bytes (codes "store") ∷ Bytes (node_name c a) ∷ Bytes (node_name c i) ∷ Bytes (node_name c v) ∷ []
tokens g c (Cond p y n) = Bytes (codes "cond") ∷ Bytes (node_name c p) ∷ []
tokens g c (Switch d k a) = Bytes (codes "switch") ∷ Bytes (node_name c d) ∷ Bytes (decimal k) ∷ Bytes (node_name c a) ∷ []
tokens g c (Merge d k) = Bytes (codes "merge") ∷ Bytes (node_name c d) ∷ Bytes (decimal k) ∷ []
tokens g c (Enter k) = Bytes (codes "in") ∷ Bytes (decimal k) ∷ []
tokens g c (Leave k a) = Bytes (codes "out") ∷ Bytes (decimal k) ∷ Bytes (node_name c a) ∷ []

-- the lines of such nodes begin with a name
abbrev pub is_named : Kind → Bool
is_named (Arg f k a) = false
is_named (Give k a) = false
is_named (Store a i v) = false
is_named (Switch d k a) = false
is_named (Leave k a) = false
is_named _ = true

-- a depth above 0 stands behind the name
abbrev pub suffix : ℕ → List ℕ
suffix zero = []
suffix (suc d) = 58 ∷ decimal (suc d)

-- the line of node x of a code
abbrev pub node_line : Graph → Code → ℕ → Line
node_line g c x = elim (is_named (kind_at c x)) [
  | true ↦ Bytes (node_name c x ++ suffix (depth_at c x)) ∷ Bytes (codes "=") ∷ tokens g c (kind_at c x)
  | false ↦ tokens g c (kind_at c x)
]

-- the line that ends a code or a cond
abbrev pub end_line : Line
end_line = Bytes (codes "end") ∷ []

-- the line that a visit stands for
abbrev pub visit_line : Graph → Code → Visit → Line
visit_line g c (AtNode x) = node_line g c x
visit_line g c (AtElse x) = Bytes (codes "else") ∷ []
visit_line g c (AtEnd x) = end_line

-- the lines of a code
abbrev pub code_lines : Graph → Code → List Line
code_lines g c = (Bytes (codes "code") ∷ Bytes c.name ∷ []) ∷ map (visit_line g c) (visits (length c.owners) c 0) ++ end_line ∷ []

-- the lines of a graph
abbrev pub graph_lines : Graph → List Line
graph_lines g = (Bytes (codes "dg") ∷ Bytes (codes "1") ∷ []) ∷ flat_map (code_lines g) g.codes

-- a token in the canonical text
abbrev pub token_text : Token → List ℕ
token_text (Bytes bs) = bs
token_text (Number w) = signed_text w

-- the tokens with one blank between, and LF
abbrev pub line_text : Line → List ℕ
line_text [] = 10 ∷ []
line_text (t ∷ []) = token_text t ++ 10 ∷ []
line_text (t ∷ u ∷ ts) = token_text t ++ (32 ∷ line_text (u ∷ ts))

-- the canonical text
abbrev pub canonical : Graph → List ℕ
canonical g = flat_map line_text (graph_lines g)
