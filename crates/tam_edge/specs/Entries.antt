-- Lists of entries by name. Of two entries with one name the first counts.
use Rattle.std.specs.Prelude.{◌≡◌, ◌≢◌, ℕ, ◌<◌, if◌then◌else◌, List, [], ◌∷◌, length, map, take, String, slice_index_or}
use Rattle.std.specs.declared.alloc.Global.{Global}
use Rattle.std.specs.String.{string_bytes}
use Rattle.std.specs.Str.{bytes_eq}

-- an entry: a name, and what it holds
abbrev pub Entry : Type 0 → Type 0
Entry X = String Global × X

-- the entries as pairs: the bytes of the name, and what the view shows of the rest
abbrev pub pairs_by : {X Y : Type 0} → (X → Y) → List (Entry X) → List (List ℕ × Y)
pairs_by view entries = map (λ entry. (string_bytes entry.0, view entry.1)) entries

-- what the first pair of that name holds, or the default where there is none
abbrev pub value_of : {Y : Type 0} → Y → List (List ℕ × Y) → List ℕ → Y
value_of default [] name = default
value_of default (pair ∷ pairs) name = if bytes_eq pair.0 name then pair.1 else value_of default pairs name

-- what the first entry of that name shows to the view, or the default where there is none
abbrev pub value_by : {X Y : Type 0} → (X → Y) → Y → List (Entry X) → List ℕ → Y
value_by view default entries name = value_of default (pairs_by view entries) name

-- no pair has that name
abbrev pub IsMissing : {Y : Type 0} → List (List ℕ × Y) → List ℕ → Type 0
IsMissing [] name = Unit {0}
IsMissing (pair ∷ pairs) name = (pair.0 ≢ name) × IsMissing pairs name

-- no entry has that name
abbrev pub NoneNamed : {X : Type 0} → List (Entry X) → List ℕ → Type 0
NoneNamed [] name = Unit {0}
NoneNamed (entry ∷ entries) name = (string_bytes entry.0 ≢ name) × NoneNamed entries name

-- the first entry of that name stands at this place
pub record IsFirstNamed {X : Type 0} (entries : List (Entry X)) (name : List ℕ) (place : ℕ) : Type 0 where
  pub inside : place < length entries
  pub before : NoneNamed (take place entries) name
  pub here : (d : Entry X) → string_bytes (slice_index_or entries place d).0 ≡ name
