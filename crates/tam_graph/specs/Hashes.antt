-- An index of a code's nodes by the hashes of their names.
use Rattle.std.specs.Prelude.{ℕ, zero, suc, ◌≡◌, ◌<◌, ◌+◌, ◌*◌, ◌%◌, ◌==◌, Bool, true, false, List, [], ◌∷◌, Option, Some, None, slice_get, length}
use Rattle.tam_graph.specs.declared.node.Node.{Node}
use Rattle.tam_graph.specs.declared.index.Index.{Index}
use Rattle.tam_graph.specs.Finding.{name_of}

-- the hash of bytes that follow others whose hash is h
abbrev pub hash_from : ℕ → List ℕ → ℕ
hash_from h [] = h
hash_from h (b ∷ bs) = hash_from ((31 * h + b) % 256) bs

-- the hash of bytes
abbrev pub hash_of : List ℕ → ℕ
hash_of bytes = hash_from 0 bytes

-- there is a name, and it has this hash
abbrev pub has_hash : ℕ → Option (List ℕ) → Bool
has_hash h None = false
has_hash h (Some name) = hash_of name == h

-- the last node below n whose name has this hash
abbrev pub last_below : List Node → ℕ → ℕ → Option ℕ
last_below nodes h zero = None
last_below nodes h (suc n) = elim (has_hash h (name_of (slice_get nodes n))) [ true ↦ Some n | false ↦ last_below nodes h n ]

-- the index is that of these nodes
pub record IsIndexOf (nodes : List Node) (index : Index) : Type 0 where
  pub room : length index.before ≡ 1024
  pub last : (h : ℕ) → h < 256 → slice_get index.last h ≡ Some (last_below nodes h (length nodes))
  pub before : (x : ℕ) (name : List ℕ) → name_of (slice_get nodes x) ≡ Some name → slice_get index.before x ≡ Some (last_below nodes (hash_of name) x)
