-- Which bytes read as a graph: their lines with tokens are the graph's lines, token by token.
use Rattle.std.specs.Prelude.{ℕ, ◌≡◌, ◌<◌, ◌≤◌, Bool, true, false, ◌&&◌, nat_lt, List, [], ◌∷◌, map, Option, Some, None, is_none, length}
use Rattle.tam_word.specs.Lists.{all_of, all_differ, same_bytes}
use Rattle.tam_graph.specs.declared.node.Node.{Node}
use Rattle.tam_graph.specs.Graphs.{Code, Graph, code_of, main_among, blocks_of}
use Rattle.tam_text.specs.Names.{is_name}
use Rattle.tam_text.specs.Lines.{token_lines, are_good_bytes}
use Rattle.tam_graph.specs.Written.{IsWritten, number_of_vertices}
use Rattle.tam_graph.specs.Texts.{Token, Bytes, Number, Line, spells, is_named, or_bytes, graph_lines}

-- ---- reading

-- the bytes are a spelling of the token
abbrev pub is_token : List ℕ → Token → Bool
is_token bs (Bytes cs) = same_bytes bs cs
is_token bs (Number w) = spells bs w

-- the words are spellings of the line's tokens
abbrev pub same_line : List (List ℕ) → Line → Bool
same_line [] [] = true
same_line (w ∷ ws) (t ∷ ts) = is_token w t && same_line ws ts
same_line _ _ = false

-- and so line by line
abbrev pub same_lines : List (List (List ℕ)) → List Line → Bool
same_lines [] [] = true
same_lines (w ∷ ws) (l ∷ ls) = same_line w l && same_lines ws ls
same_lines _ _ = false

-- the names that are there
abbrev pub given_names : List (Option (List ℕ)) → List (List ℕ)
given_names [] = []
given_names (None ∷ ns) = given_names ns
given_names (Some n ∷ ns) = n ∷ given_names ns

-- the names of a code's nodes, in file order
abbrev pub names_in : Code → List (List ℕ)
names_in c = given_names (map (λ n. n.name) c.nodes)

-- a name stands where the node's line begins with one, and nothing elsewhere
abbrev pub is_named_right : Node → Bool
is_named_right n = elim (is_named n.kind) [ true ↦ is_name (or_bytes n.name) | false ↦ is_none n.name ]

-- the code is one of so many codes as a text writes them: it is written, and its names are names, where they belong, and differ
pub record IsCodeOfText (codes : ℕ) (c : Code) : Type 0 where
  pub written : IsWritten codes c
  pub named : is_name c.name ≡ true
  pub nodes_named : all_of is_named_right c.nodes ≡ true
  pub nodes_differ : all_differ same_bytes (names_in c) ≡ true

-- the code is one of a graph as a text writes it
abbrev pub IsCode : Code → Type 0
IsCode c = (codes : ℕ) × (codes ≤ 256) × IsCodeOfText codes c

-- the graph is as a text writes it, though its blocks may have more vertices than a text's
pub record IsOfText (g : Graph) : Type 0 where
  pub each_code : (n : ℕ) → n < length g.codes → IsCodeOfText (length g.codes) (code_of g n)
  pub few_codes : length g.codes ≤ 256
  pub codes_differ : all_differ same_bytes (map (λ c. c.name) g.codes) ≡ true
  pub main : g.main ≡ main_among g.codes

-- no block of the code has more than 128 vertices, which is the most in a text
abbrev pub has_short_blocks : Code → Bool
has_short_blocks c = all_of (λ b. nat_lt (number_of_vertices c b) 129) (blocks_of c)

-- and so in each code
abbrev pub is_short : Graph → Bool
is_short g = all_of has_short_blocks g.codes

-- the bytes read as the graph
pub record Reads (bytes : List ℕ) (g : Graph) : Type 0 where
  pub good : are_good_bytes bytes ≡ true
  pub text : IsOfText g
  pub short : is_short g ≡ true
  pub lines : same_lines (token_lines bytes) (graph_lines g) ≡ true
