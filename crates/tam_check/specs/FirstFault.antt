-- The first fault of a graph, in file order.
-- The rule in words: docs/FORMATS.md, "Which graphs are accepted".
use Rattle.std.specs.Prelude.{ℕ, ◌≡◌, true, false, nat_lt, List, [], ◌∷◌, Option, Some, None, length, map, flat_map}
use Rattle.tam_graph.specs.declared.place.Place.{Place}
use Rattle.tam_graph.specs.declared.place.Place.TheVariants.{File, Node}
use Rattle.tam_graph.specs.declared.check_cause.CheckCause.{CheckCause}
use Rattle.tam_graph.specs.declared.check_cause.CheckCause.TheVariants.{NoMain}
use Rattle.tam_graph.specs.Graphs.{Graph, code_of, node_numbers}
use Rattle.tam_graph.specs.Accepted.{faults_at, faults_of}
use Rattle.tam_check.specs.declared.checker.CheckError.{CheckError}
use Rattle.tam_check.specs.declared.checker.CheckError.TheVariants.{At, NoMemory}

-- the faults of a node, with its code and its number
abbrev pub faults_on : Graph → ℕ → ℕ → List (ℕ × ℕ × CheckCause)
faults_on g n x = map (λ f. (n, x, f)) (faults_at g n x)

-- the faults of the nodes of a code, in file order
abbrev pub faults_in : Graph → ℕ → List (ℕ × ℕ × CheckCause)
faults_in g n = flat_map (faults_on g n) (node_numbers (code_of g n))

-- the first of the faults, by its place and its cause
abbrev pub first_among : List (ℕ × ℕ × CheckCause) → Option (Place × CheckCause)
first_among [] = None
first_among (f ∷ fs) = Some (Node f.0 f.1, f.2)

-- the first fault of a graph: that no code is named `main`, else the first of its nodes
abbrev pub first_fault : Graph → Option (Place × CheckCause)
first_fault g = elim (nat_lt g.main (length g.codes)) [ true ↦ first_among (faults_of g) | false ↦ Some (File, NoMain) ]

-- what is told of a refused graph is its first fault, but for want of memory
abbrev pub IsTold : Graph → CheckError → Type 0
IsTold g (At place cause) = first_fault g ≡ Some (place, cause)
IsTold g NoMemory = Unit {0}
