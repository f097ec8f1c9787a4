-- Files in memory: when a read is to fail, and what a lent vector comes back as.
use Rattle.std.proofs.Common.{◌≡◌, ◌∙◌, ℕ, List, ◌++◌, length, take, true, Bool, inl, inr, ap, arith}
use Rattle.std.specs.Prelude.{◌↔◌, ◌⊎◌, Vec, Contains, Option}
use Rattle.std.specs.declared.alloc.Global.{Global}
use Rattle.std.specs.Vec.{with_items}
use Rattle.std.proofs.lemmas.List.{append-nil, take_all, drop_all}
use Rattle.tam_edge.specs.Entries.{Entry, pairs_by, IsMissing, NoneNamed}
use Rattle.tam_edge.specs.Held.{reversed_items}
use Rattle.tam_edge.specs.MemFiles.{FilesInMemory}
use Rattle.tam_edge.proofs.EntriesLemmas.{IsMissing-pairs_by, NoneNamed-pairs_by}

-- a vector whose slice was lent holds what the slice came back as
pub lent_back : {X : Type 0} (v : Vec X Global) (slice lent : List X) → slice ≡ v.items → length lent ≡ length slice → length slice ≡ v.len →
    (with_items v lent).items ≡ lent
lent_back {X} v slice lent is same_length whole =
    ap (λ (l : List X). take v.len (lent ++ l)) (drop_all (length lent) v.items (omega (arith, same_length, ap length is)))
    ∙ ap (take v.len) (append-nil lent)
    ∙ take_all v.len lent (omega (arith, same_length, whole))

-- What the code tests is whether the call is to fail.
module _ (fail : List ℕ) (call : ℕ) (fails : Bool) (tested : (fails ≡ true) ↔ Contains fail call)
    (entries : List (Entry (Vec ℕ Global))) (name : List ℕ) where
  -- the code found that the call is to fail
  pub is_to_fail : (fails ≡ true) ⊎ NoneNamed entries name → Contains fail call ⊎ IsMissing (pairs_by reversed_items entries) name
  is_to_fail (inl chosen) = inl (tested.0 chosen)
  is_to_fail (inr none) = inr (IsMissing-pairs_by reversed_items name entries none)

  -- or that it is not
  pub is_not_to_fail : ¬ (fails ≡ true) → ¬ NoneNamed entries name → ¬ (Contains fail call ⊎ IsMissing (pairs_by reversed_items entries) name)
  is_not_to_fail not_chosen held (inl chosen) = not_chosen (tested.1 chosen)
  is_not_to_fail not_chosen held (inr missing) = held (NoneNamed-pairs_by reversed_items name entries missing)

-- files in memory after so many calls
module _ (fail : List ℕ) (calls ends : ℕ) (most : Option ℕ) where
  abbrev memory : List (List ℕ × List ℕ) → List (List ℕ × ℕ) → FilesInMemory
  memory files faults = record { files = files; fail = fail; calls = calls; ends = ends; faults = faults; most = most }

  -- with the same files and the same faults they are the same
  pub same_memory : (a b : List (List ℕ × List ℕ)) (m n : List (List ℕ × ℕ)) → a ≡ b → m ≡ n → memory a m ≡ memory b n
  same_memory a b m n same_files same_faults = ap (λ (l : List (List ℕ × List ℕ)). memory l m) same_files ∙ ap (memory b) same_faults
