-- Names and what each names, found by name; where a name is put in twice, the first stays.
use Rattle.std.specs.Prelude.{ℕ, ◌+◌, Bool, true, false, List, [], ◌∷◌, ◌++◌, map, Option, Some, None}
use Rattle.tam_word.specs.Lists.{same_bytes}
use Rattle.tam_read.specs.declared.form.Verb.{Verb}
use Rattle.tam_read.specs.declared.form.Verb.TheVariants as verb
use Rattle.tam_read.specs.declared.form.Role.TheVariants as role
use Rattle.tam_read.specs.declared.table.Made.{Made}
use Rattle.tam_read.specs.declared.table.Table.{Table as Fields}
use Rattle.tam_read.specs.Sentences.{Sentence, makes, names_made, code_begun}

-- names, each with what it names
abbrev pub Entries : Type 0
Entries = List (List ℕ × Made)

-- a table without its slices
abbrev pub table : Fields → Entries
table t = map (λ e. (e.0.now, e.1)) t.entries.entries

-- what the name names
abbrev pub found : List ℕ → Entries → Option Made
found name [] = None
found name (e ∷ es) = elim (same_bytes name e.0) [ true ↦ Some e.1 | false ↦ found name es ]

-- a name put in where nothing is found
abbrev pub with_entry : List ℕ → Made → Entries → Option Made → Entries
with_entry name m es (Some other) = es
with_entry name m es None = es ++ (name, m) ∷ []

-- a name put in
abbrev pub put_in : List ℕ → Made → Entries → Entries
put_in name m es = with_entry name m es (found name es)

-- names put in one by one
abbrev pub put_all : List (List ℕ × Made) → Entries → Entries
put_all [] es = es
put_all (e ∷ more) es = put_all more (put_in e.0 e.1 es)

-- ---- the nodes of a code

-- the line is a node's
abbrev pub is_node : Verb → Bool
is_node verb.Code = false
is_node verb.Else = false
is_node verb.End = false
is_node v = true

-- the number of the next node behind a line
abbrev pub number_behind : Verb → ℕ → ℕ
number_behind v x = elim (is_node v) [ true ↦ x + 1 | false ↦ x ]

-- the names of the node with number x, as a list of at most one
abbrev pub node_entries : ℕ → Sentence → List (List ℕ × Made)
node_entries x s = elim (makes s.verb) [ None ↦ [] | Some r ↦ map (λ n. (n, record { role = r; number = x })) (names_made s) ]

-- the names of the nodes of lines, where the first node has number x
abbrev pub nodes_from : ℕ → List Sentence → Entries → Entries
nodes_from x [] es = es
nodes_from x (s ∷ ss) es = nodes_from (number_behind s.verb x) ss (put_all (node_entries x s) es)

-- ---- the codes of a text

-- the name of the code with number n, as a list of at most one
abbrev pub code_entries : ℕ → Sentence → List (List ℕ × Made)
code_entries n s = map (λ c. (c, record { role = role.Callee; number = n })) (code_begun s)

-- the number of the next code behind a line
abbrev pub code_behind : Verb → ℕ → ℕ
code_behind verb.Code n = n + 1
code_behind v n = n

-- the names of the codes of lines, where the first code has number n
abbrev pub codes_from : ℕ → List Sentence → Entries → Entries
codes_from n [] es = es
codes_from n (s ∷ ss) es = codes_from (code_behind s.verb n) ss (put_all (code_entries n s) es)
