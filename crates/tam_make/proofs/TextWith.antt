-- The text of a code, with the decimals of its numbers, the texts of its words and the names of what it calls left open.
use Rattle.std.specs.Prelude.{ℕ, zero, suc, ◌-◌, ◌^◌, nat_lt, if◌then◌else◌, true, false, List, [], ◌∷◌, ◌++◌, flat_map, map, length, codes}
use Rattle.tam_graph.specs.declared.kind.Kind.{Kind}
use Rattle.tam_graph.specs.declared.kind.Kind.TheVariants.{Param, Const, Op as Operate, Seq, Call, Arg, Ret, Give, Alloc, Fetch, Store, Cond, Switch, Merge}
use Rattle.tam_graph.specs.declared.kind.Kind.TheVariants.{Enter, Leave}
use Rattle.tam_graph.specs.Graphs.{Code, kind_at, depth_at}
use Rattle.tam_graph.specs.Written.{Visit, AtNode, AtElse, AtEnd, visits}
use Rattle.tam_graph.specs.Texts.{Bytes, Line, op_name, node_name, is_named, end_line, line_text}

-- a word in signed decimal
abbrev pub signed_with : (ℕ → List ℕ) → ℕ → List ℕ
signed_with number w = if nat_lt w (2 ^ 31) then number w else 45 ∷ number (2 ^ 32 - w)

module _ (number word name : ℕ → List ℕ) (c : Code) where
  -- the tokens of a line behind its name
  abbrev pub tokens_with : Kind → Line
  tokens_with (Param k) = Bytes (codes "param") ∷ Bytes (number k) ∷ []
  tokens_with (Const w) = Bytes (codes "const") ∷ Bytes (word w) ∷ []
  tokens_with (Operate o a b) = Bytes (op_name o) ∷ Bytes (node_name c a) ∷ Bytes (node_name c b) ∷ []
  tokens_with (Seq a b) = Bytes (codes "seq") ∷ Bytes (node_name c a) ∷ Bytes (node_name c b) ∷ []
  tokens_with (Call d) = Bytes (codes "call") ∷ Bytes (name d) ∷ []
  tokens_with (Arg f k a) = Bytes (codes "arg") ∷ Bytes (node_name c f) ∷ Bytes (number k) ∷ Bytes (node_name c a) ∷ []
  tokens_with (Ret f k) = Bytes (codes "ret") ∷ Bytes (node_name c f) ∷ Bytes (number k) ∷ []
  tokens_with (Give k a) = Bytes (codes "result") ∷ Bytes (number k) ∷ Bytes (node_name c a) ∷ []
  tokens_with (Alloc n) = Bytes (codes "alloc") ∷ Bytes (node_name c n) ∷ []
  tokens_with (Fetch a i) = Bytes (codes "fetch") ∷ Bytes (node_name c a) ∷ Bytes (node_name c i) ∷ []
  tokens_with (Store a i v) = Bytes (codes "store") ∷ Bytes (node_name c a) ∷ Bytes (node_name c i) ∷ Bytes (node_name c v) ∷ []
  tokens_with (Cond p y n) = Bytes (codes "cond") ∷ Bytes (node_name c p) ∷ []
  tokens_with (Switch d k a) = Bytes (codes "switch") ∷ Bytes (node_name c d) ∷ Bytes (number k) ∷ Bytes (node_name c a) ∷ []
  tokens_with (Merge d k) = Bytes (codes "merge") ∷ Bytes (node_name c d) ∷ Bytes (number k) ∷ []
  tokens_with (Enter k) = Bytes (codes "in") ∷ Bytes (number k) ∷ []
  tokens_with (Leave k a) = Bytes (codes "out") ∷ Bytes (number k) ∷ Bytes (node_name c a) ∷ []

  -- a depth above 0
  abbrev pub suffix_with : ℕ → List ℕ
  suffix_with zero = []
  suffix_with (suc d) = 58 ∷ number (suc d)

  -- the line of a node
  abbrev pub node_line_with : ℕ → Line
  node_line_with x = elim (is_named (kind_at c x)) [
    | true ↦ Bytes (node_name c x ++ suffix_with (depth_at c x)) ∷ Bytes (codes "=") ∷ tokens_with (kind_at c x)
    | false ↦ tokens_with (kind_at c x)
  ]

  -- the line of a visit
  abbrev pub visit_line_with : Visit → Line
  visit_line_with (AtNode x) = node_line_with x
  visit_line_with (AtElse x) = Bytes (codes "else") ∷ []
  visit_line_with (AtEnd x) = end_line

  -- the code's lines
  abbrev pub code_lines_with : List Line
  code_lines_with = (Bytes (codes "code") ∷ Bytes c.name ∷ []) ∷ map visit_line_with (visits (length c.owners) c 0) ++ end_line ∷ []

  -- and its text
  abbrev pub text_with : List ℕ
  text_with = flat_map line_text code_lines_with
