-- Lists of lines as the code has them.
use Rattle.std.specs.Prelude.{ℕ, List, Vec, map, flat_map}
use Rattle.std.specs.declared.alloc.Global.{Global}

-- the lines' bytes
abbrev pub texts_of : List (Vec ℕ Global) → List (List ℕ)
texts_of lines = map (λ l. l.items) lines

-- the same, one behind another
abbrev pub bytes_of : List (Vec ℕ Global) → List ℕ
bytes_of lines = flat_map (λ l. l.items) lines
