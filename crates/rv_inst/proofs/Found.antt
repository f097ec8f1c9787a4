-- A name that is found by function fields has those fields.
use Rattle.std.proofs.Common.{◌≡◌, ℕ, ◌==◌, ◌&&◌, Bool, true, false, List, [], ◌∷◌, Some, refl}
use Rattle.std.specs.List.{find}
use Rattle.tam_word.proofs.Tests.{number-eq}
use Rattle.rv_inst.specs.declared.r_name.RName.{RName}
use Rattle.rv_inst.specs.declared.shift_name.ShiftName.{ShiftName}
use Rattle.rv_inst.specs.declared.i_name.IName.{IName}
use Rattle.rv_inst.specs.declared.load_name.LoadName.{LoadName}
use Rattle.rv_inst.specs.declared.store_name.StoreName.{StoreName}
use Rattle.rv_inst.specs.declared.branch_name.BranchName.{BranchName}
use Rattle.rv_inst.specs.declared.opcode.Opcode.{Opcode}
use Rattle.rv_inst.specs.Rows.{funct, imm_funct, shift_funct, load_funct, store_funct, branch_funct, code}
use Rattle.rv_inst.specs.Lookup.{r_name_of, i_name_of, shift_name_of, load_name_of, store_name_of, branch_name_of, opcode_of, r_names, i_names, shift_names}
use Rattle.rv_inst.specs.Lookup.{load_names, store_names, branch_names, opcodes}

-- what is found passes the test
found-passes : {X : Type 0} (test : X → Bool) (xs : List X) (y : X) → find test xs ≡ Some y → test y ≡ true
found-passes test [] y h = absurd cc
found-passes test (x ∷ xs) y h = go (test x) refl (found-passes test xs y)
  where
    go : (t : Bool) → test x ≡ t → (find test xs ≡ Some y → test y ≡ true) → test y ≡ true
    go true p i = let e : Some x ≡ Some y = rw (find, p) at h in let q : x ≡ y = cc in rw (← q) p
    go false p i = i (rw (find, p) at h)

-- both of two tests that hold together hold
both-true : (a b : Bool) → (a && b) ≡ true → (a ≡ true) × (b ≡ true)
both-true true b h = (refl, h)
both-true false b h = absurd cc

-- of register instructions
pub funct-found : (g f : ℕ) (n : RName) → r_name_of g f ≡ Some n → ((funct n).0 ≡ g) × ((funct n).1 ≡ f)
funct-found g f n h =
    let b = both-true ((funct n).0 == g) ((funct n).1 == f) (found-passes (λ m. ((funct m).0 == g) && ((funct m).1 == f)) r_names n h) in
    (number-eq (funct n).0 g b.0, number-eq (funct n).1 f b.1)

-- of shifts
pub shift_funct-found : (g f : ℕ) (n : ShiftName) → shift_name_of g f ≡ Some n → ((shift_funct n).0 ≡ g) × ((shift_funct n).1 ≡ f)
shift_funct-found g f n h =
    let b = both-true ((shift_funct n).0 == g) ((shift_funct n).1 == f)
    (found-passes (λ m. ((shift_funct m).0 == g) && ((shift_funct m).1 == f)) shift_names n h) in
    (number-eq (shift_funct n).0 g b.0, number-eq (shift_funct n).1 f b.1)

-- of those with an immediate
pub imm_funct-found : (f : ℕ) (n : IName) → i_name_of f ≡ Some n → imm_funct n ≡ f
imm_funct-found f n h = number-eq (imm_funct n) f (found-passes (λ m. imm_funct m == f) i_names n h)

-- of loads
pub load_funct-found : (f : ℕ) (n : LoadName) → load_name_of f ≡ Some n → load_funct n ≡ f
load_funct-found f n h = number-eq (load_funct n) f (found-passes (λ m. load_funct m == f) load_names n h)

-- of stores
pub store_funct-found : (f : ℕ) (n : StoreName) → store_name_of f ≡ Some n → store_funct n ≡ f
store_funct-found f n h = number-eq (store_funct n) f (found-passes (λ m. store_funct m == f) store_names n h)

-- of branches
pub branch_funct-found : (f : ℕ) (n : BranchName) → branch_name_of f ≡ Some n → branch_funct n ≡ f
branch_funct-found f n h = number-eq (branch_funct n) f (found-passes (λ m. branch_funct m == f) branch_names n h)

-- of opcodes
pub code-found : (f : ℕ) (n : Opcode) → opcode_of f ≡ Some n → code n ≡ f
code-found f n h = number-eq (code n) f (found-passes (λ m. code m == f) opcodes n h)
