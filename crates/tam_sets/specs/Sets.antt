-- Sets of places as rising lists of their members.
use Rattle.std.specs.Prelude.{ℕ, Bool, ◌&&◌, ◌||◌, ◌==◌, List, filter}
use Rattle.tam_word.specs.Lists.{below, all_of, has}

-- the numbers of all places
unfoldable pub place_numbers : List ℕ
place_numbers = below 512

-- the places that pass a test, rising
unfoldable pub places_where : (ℕ → Bool) → List ℕ
places_where test = filter test place_numbers

-- the members of a set and one place more
abbrev pub with_place : ℕ → List ℕ → List ℕ
with_place place xs = places_where (λ x. has xs x || (x == place))

-- the members of both
abbrev pub met : List ℕ → List ℕ → List ℕ
met xs ys = places_where (λ x. has xs x && has ys x)

-- the members of either
abbrev pub joined : List ℕ → List ℕ → List ℕ
joined xs ys = places_where (λ x. has xs x || has ys x)

-- each member of the first is one of the second
abbrev pub is_within : List ℕ → List ℕ → Bool
is_within xs ys = all_of (has ys) xs
