-- A name gives its fields back.
use Rattle.std.specs.Prelude.{◌≡◌, ℕ, ◌-◌, List, ◌++◌, length, take, drop, replicate}
use Rattle.std.proofs.Common.{sym, ◌∙◌, ap}
use Rattle.std.proofs.lemmas.List.{take-append-drop}
use Rattle.tam_graph.specs.declared.name.Name.TheInside.{Inside}
use Rattle.tam_text.specs.Names.{IsName}

abbrev pub IsPadded : Inside → Type 0
IsPadded n = IsName (take n.len n.bytes) × (drop n.len n.bytes ≡ replicate (32 - n.len) 0) × (length (take n.len n.bytes) ≡ n.len)

abbrev pub unpadded : List ℕ → Inside
unpadded name = record { bytes = name ++ replicate (32 - length name) 0; len = length name }

pub padded_again : (n : Inside) → IsPadded n → unpadded (take n.len n.bytes) ≡ n
padded_again n h =
    let same_bytes : take n.len n.bytes ++ replicate (32 - n.len) 0 ≡ n.bytes = ap (λ (l : List ℕ). take n.len n.bytes ++ l) (sym h.1)
    ∙ take-append-drop n.len n.bytes in
    rw h.2 (ap (λ (l : List ℕ). let i : Inside = record { bytes = l; len = n.len } in i) same_bytes)
