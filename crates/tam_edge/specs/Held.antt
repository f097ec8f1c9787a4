-- How the code holds files in memory and their counts of faults.
use Rattle.std.specs.Prelude.{ℕ, List, [], Vec, reverse}
use Rattle.std.specs.declared.alloc.Global.{Global}
use Rattle.tam_edge.specs.Entries.{Entry, value_by}

-- The bytes that are left stand in reverse: the next one is the last.
abbrev pub reversed_items : Vec ℕ Global → List ℕ
reversed_items bytes = reverse bytes.items

-- the bytes that are left of the first file of that name
abbrev pub bytes_of : List (Entry (Vec ℕ Global)) → List ℕ → List ℕ
bytes_of files name = value_by reversed_items [] files name

-- the count of faults of a name
abbrev pub count_of : List (Entry ℕ) → List ℕ → ℕ
count_of faults name = value_by (λ count. count) 0 faults name
