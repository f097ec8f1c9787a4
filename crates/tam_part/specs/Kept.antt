-- What is kept of the classes while they are merged: by its least place the ways to each class and from it, and places whose classes are apart from it.
use Rattle.std.specs.Prelude.{ℕ, ◌≡◌, ◌<◌, ◌≤◌, Bool, true, false, ◌&&◌, ◌==◌, nat_lt, List, [], length, slice_index, slice_index_or, IsTrue}
use Rattle.tam_word.specs.Lists.{has}
use Rattle.tam_split.specs.Blocks.{BlockGraph}
use Rattle.tam_split.specs.Partitions.{Parts, class_of, class_at, leads_to, are_apart, may_merge}
use Rattle.tam_sets.specs.Sets.{places_where, met, joined}
use Rattle.tam_quotient.specs.declared.ways.Ways.{Ways}
use Rattle.tam_quotient.specs.Quotients.{entering_of, allowed_of}
use Rattle.tam_quotient.specs.Tables.{set_at}

-- the class of a place leads to that of another
abbrev pub place_leads : BlockGraph → Parts → ℕ → ℕ → Bool
place_leads b ps x y = leads_to b.edges ps (class_of ps x) (class_of ps y)

-- the ways to the class of a place and from it, with the places of the other classes
abbrev pub ways_at : BlockGraph → Parts → ℕ → Ways
ways_at b ps x = record {
  ahead = places_where (λ y. nat_lt y (length b.vertices) && place_leads b ps x y);
  behind = places_where (λ y. nat_lt y (length b.vertices) && place_leads b ps y x);
  entering = entering_of b ps (class_of ps x);
  allowed = allowed_of b ps (class_of ps x);
}

-- what stands for the ways of a place that isn't there
abbrev pub no_ways : Ways
no_ways = record { ahead = []; behind = []; entering = []; allowed = [] }

-- the ways that a table has for a place
abbrev pub way_in : List Ways → ℕ → Ways
way_in ways x = slice_index_or ways x no_ways

-- the first place of class k
abbrev pub first_in : Parts → ℕ → ℕ
first_in ps k = slice_index (class_at ps k) 0

-- no place of its class is below it
abbrev pub IsLeast : Parts → ℕ → Type 0
IsLeast ps x = (y : ℕ) → class_of ps y ≡ class_of ps x → x ≤ y

-- the table has the ways of the least place of each class
pub record AreWays (b : BlockGraph) (ps : Parts) (ways : List Ways) : Type 0 where
  pub count : length ways ≡ length b.vertices
  pub each : (x : ℕ) → x < length b.vertices → IsLeast ps x → way_in ways x ≡ ways_at b ps x

-- the table has for each place none but places whose classes are apart from its class
pub record AreSeparated (b : BlockGraph) (ps : Parts) (apart : List (List ℕ)) : Type 0 where
  pub count : length apart ≡ length b.vertices
  pub each : (x y : ℕ) → x < length b.vertices → y < length b.vertices → IsTrue (has (set_at apart x) y)
      → IsTrue (are_apart b ps (class_of ps x) (class_of ps y))

-- the ways of two classes as those of one
abbrev pub both_ways : Ways → Ways → Ways
both_ways one other = record {
  ahead = joined one.ahead other.ahead;
  behind = joined one.behind other.behind;
  entering = joined one.entering other.entering;
  allowed = met one.allowed other.allowed;
}

-- the ways of the class of place x, once two classes have become one, of these ways
abbrev pub ways_after : Ways → ℕ → Ways → Ways
ways_after both x way = record {
  ahead = elim (has both.behind x) [ true ↦ joined way.ahead both.ahead | false ↦ way.ahead ];
  behind = elim (has both.ahead x) [ true ↦ joined way.behind both.behind | false ↦ way.behind ];
  entering = elim (has both.ahead x) [ true ↦ joined way.entering both.entering | false ↦ way.entering ];
  allowed = elim (has both.behind x) [ true ↦ met way.allowed both.allowed | false ↦ way.allowed ];
}

-- the ways of the first place of each class are brought up to date, where two classes become one, of these ways
pub record AreAdded (ps : Parts) (both : Ways) (old news : List Ways) : Type 0 where
  pub count : length news ≡ length old
  pub each : (k : ℕ) → k < length ps → way_in news (first_in ps k) ≡ ways_after both (first_in ps k) (way_in old (first_in ps k))

-- the places noted for place x, once the class of place a has taken in another, and `both` are apart from one of the two
abbrev pub apart_after : ℕ → List ℕ → ℕ → List ℕ → List ℕ
apart_after a both x set = elim (x == a) [ true ↦ both | false ↦ set ]

-- no pair whose first class is before class k may be merged, unless its second class is k
abbrev pub AreDone : BlockGraph → Parts → ℕ → Type 0
AreDone b ps k = (a c : ℕ) → a < k → a < c → c < length ps → (c ≡ k → ⊥) → may_merge b ps (a, c) ≡ false
