-- Sets read from a table of what each class leads to, and from the number of each place's class.
use Rattle.std.specs.Prelude.{ℕ, Bool, true, false, ◌&&◌, nat_lt, List, [], length, slice_index, slice_index_or}
use Rattle.tam_word.specs.Lists.{all_of, has}
use Rattle.tam_sets.specs.Sets.{places_where}

-- the set at a place of a table
abbrev pub set_at : List (List ℕ) → ℕ → List ℕ
set_at sets k = slice_index_or sets k []

-- the places of the table whose sets have k
abbrev pub column : List (List ℕ) → ℕ → List ℕ
column leads k = places_where (λ c. nat_lt c (length leads) && has (set_at leads c) k)

-- the inlets whose classes are among these
abbrev pub entered : List ℕ → List ℕ → List ℕ → List ℕ
entered inlets classes behind = places_where (λ i. has inlets i && has behind (slice_index classes i))

-- the inlet is one of those on which an outlet depends, where the outlet's class is one of these
abbrev pub is_met : List ℕ → List ℕ → List (List ℕ) → ℕ → ℕ → Bool
is_met classes ahead depends i o = elim (has ahead (slice_index classes o)) [ true ↦ has (set_at depends o) i | false ↦ true ]

-- the inlets on which each outlet of these classes depends
abbrev pub permitted : List ℕ → List ℕ → List ℕ → List ℕ → List (List ℕ) → List ℕ
permitted inlets outlets classes ahead depends = places_where (λ i. has inlets i && all_of (is_met classes ahead depends i) outlets)
