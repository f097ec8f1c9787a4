-- Tests over the ways to classes and from them.
use Rattle.std.specs.Prelude.{ℕ, Bool, ◌&&◌, not, List}
use Rattle.tam_split.specs.Blocks.{BlockGraph}
use Rattle.tam_split.specs.Partitions.{Parts}
use Rattle.tam_sets.specs.Sets.{met, joined, is_within}
use Rattle.tam_quotient.specs.Quotients.{ahead_of, behind_of, entering_of, allowed_of}
use Rattle.tam_quotient.specs.Tables.{set_at, column, entered, permitted}
use Rattle.tam_quotient.specs.declared.ways.Ways.{Ways}

-- the ways to class k and from it
abbrev pub ways_of : BlockGraph → Parts → ℕ → Ways
ways_of b ps k = record { ahead = ahead_of b ps k; behind = behind_of b ps k; entering = entering_of b ps k; allowed = allowed_of b ps k }

-- the same, by the inlets, the outlets, the class of each place, what each class leads to and the inlets on which each vertex depends
abbrev pub ways_to : List ℕ → List ℕ → List ℕ → List (List ℕ) → List (List ℕ) → ℕ → Ways
ways_to inlets outlets classes leads depends k = record {
  ahead = set_at leads k;
  behind = column leads k;
  entering = entered inlets classes (column leads k);
  allowed = permitted inlets outlets classes (set_at leads k) depends;
}

-- an outlet that one of two classes leads to doesn't depend on an inlet that leads to the other
abbrev pub tells_apart : Ways → Ways → Bool
tells_apart one other = not (is_within one.entering other.allowed && is_within other.entering one.allowed)

-- what stands on a way from one of two classes to the other is one of the two
abbrev pub tells_none_between : Ways → Ways → Bool
tells_none_between one other =
    is_within (joined (met one.ahead other.behind) (met other.ahead one.behind)) (joined (met one.ahead one.behind) (met other.ahead other.behind))
