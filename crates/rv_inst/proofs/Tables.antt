-- The rows of the program's tables are the standard's: a search among them finds what the standard's numbers say.
use Rattle.std.proofs.Common.{◌≡◌, ℕ, ◌==◌, ◌&&◌, Bool, true, false, List, [], ◌∷◌, map, refl, sym, ap, ◌∙◌}
use Rattle.std.specs.Option.{option_map}
use Rattle.std.specs.List.{find}
use Rattle.std.proofs.lemmas.Iterator.Adapters.{option_map_id}
use Rattle.rv_inst.specs.declared.r_name.RName.{RName}
use Rattle.rv_inst.specs.declared.r_name.TheConstants.{R_ROWS}
use Rattle.rv_inst.specs.declared.shift_name.ShiftName.{ShiftName}
use Rattle.rv_inst.specs.declared.shift_name.TheConstants.{SHIFT_ROWS}
use Rattle.rv_inst.specs.declared.i_name.IName.{IName}
use Rattle.rv_inst.specs.declared.i_name.TheConstants.{I_ROWS}
use Rattle.rv_inst.specs.declared.load_name.LoadName.{LoadName}
use Rattle.rv_inst.specs.declared.load_name.TheConstants.{LOAD_ROWS}
use Rattle.rv_inst.specs.declared.store_name.StoreName.{StoreName}
use Rattle.rv_inst.specs.declared.store_name.TheConstants.{STORE_ROWS}
use Rattle.rv_inst.specs.declared.branch_name.BranchName.{BranchName}
use Rattle.rv_inst.specs.declared.branch_name.TheConstants.{BRANCH_ROWS}
use Rattle.rv_inst.specs.declared.opcode.Opcode.{Opcode}
use Rattle.rv_inst.specs.declared.opcode.TheConstants.{OPCODE_ROWS}
use Rattle.rv_inst.specs.Rows.{funct, imm_funct, shift_funct, load_funct, store_funct, branch_funct, code}
use Rattle.rv_inst.specs.Lookup.{r_name_of, i_name_of, shift_name_of, load_name_of, store_name_of, branch_name_of, opcode_of, r_names, i_names, shift_names}
use Rattle.rv_inst.specs.Lookup.{load_names, store_names, branch_names, opcodes}

-- what is found by what is told of each
found-told : {X Y N : Type 0} (told : X → Y) (name : Y → N) (test : Y → Bool) (xs : List X)
    → option_map (λ x. name (told x)) (find (λ x. test (told x)) xs) ≡ option_map name (find test (map told xs))
found-told told name test [] = refl
found-told told name test (x ∷ xs) = go (test (told x)) refl (found-told told name test xs)
  where
    go : (t : Bool) → test (told x) ≡ t → option_map (λ x. name (told x)) (find (λ x. test (told x)) xs) ≡ option_map name (find test (map told xs))
        → option_map (λ x. name (told x)) (find (λ x. test (told x)) (x ∷ xs)) ≡ option_map name (find test (map told (x ∷ xs)))
    go true p i = simp (find, p)
    go false p i = simp (find, p) i

-- a row with two fields
abbrev Two : Type 0 → Type 0
Two N = N × ℕ × ℕ

-- a row with one
abbrev One : Type 0 → Type 0
One N = N × ℕ

-- the rows of register instructions
r_told : map {B = Two RName} (λ row. (row.name, row.funct7, row.funct3)) R_ROWS ≡ map (λ n. (n, (funct n).0, (funct n).1)) r_names
r_told = refl

-- a search among them
pub r_rows : (g f : ℕ) → option_map (λ row. row.name) (find (λ row. (row.funct7 == g) && (row.funct3 == f)) R_ROWS) ≡ r_name_of g f
r_rows g f =
    let test : Two RName → Bool = λ t. (t.1 == g) && (t.2 == f) in
    found-told {Y = Two RName} (λ row. (row.name, row.funct7, row.funct3)) (λ t. t.0) test R_ROWS
    ∙ (ap (λ (x : List (Two RName)). option_map (λ t. t.0) (find test x)) r_told
    ∙ (sym (found-told {Y = Two RName} (λ n. (n, (funct n).0, (funct n).1)) (λ t. t.0) test r_names) ∙ option_map_id (r_name_of g f)))

-- the rows of shifts
shift_told : map {B = Two ShiftName} (λ row. (row.name, row.funct7, row.funct3)) SHIFT_ROWS ≡ map (λ n. (n, (shift_funct n).0, (shift_funct n).1)) shift_names
shift_told = refl

-- a search among them
pub shift_rows : (g f : ℕ) → option_map (λ row. row.name) (find (λ row. (row.funct7 == g) && (row.funct3 == f)) SHIFT_ROWS) ≡ shift_name_of g f
shift_rows g f =
    let test : Two ShiftName → Bool = λ t. (t.1 == g) && (t.2 == f) in
    found-told {Y = Two ShiftName} (λ row. (row.name, row.funct7, row.funct3)) (λ t. t.0) test SHIFT_ROWS
    ∙ (ap (λ (x : List (Two ShiftName)). option_map (λ t. t.0) (find test x)) shift_told
    ∙ (sym (found-told {Y = Two ShiftName} (λ n. (n, (shift_funct n).0, (shift_funct n).1)) (λ t. t.0) test shift_names) ∙ option_map_id (shift_name_of g f)))

-- the rows of those with an immediate
i_told : map {B = One IName} (λ row. (row.name, row.funct3)) I_ROWS ≡ map (λ n. (n, imm_funct n)) i_names
i_told = refl

-- a search among them
pub i_rows : (f : ℕ) → option_map (λ row. row.name) (find (λ row. row.funct3 == f) I_ROWS) ≡ i_name_of f
i_rows f =
    let test : One IName → Bool = λ t. t.1 == f in
    found-told {Y = One IName} (λ row. (row.name, row.funct3)) (λ t. t.0) test I_ROWS
    ∙ (ap (λ (x : List (One IName)). option_map (λ t. t.0) (find test x)) i_told
    ∙ (sym (found-told {Y = One IName} (λ n. (n, imm_funct n)) (λ t. t.0) test i_names) ∙ option_map_id (i_name_of f)))

-- the rows of loads
load_told : map {B = One LoadName} (λ row. (row.name, row.funct3)) LOAD_ROWS ≡ map (λ n. (n, load_funct n)) load_names
load_told = refl

-- a search among them
pub load_rows : (f : ℕ) → option_map (λ row. row.name) (find (λ row. row.funct3 == f) LOAD_ROWS) ≡ load_name_of f
load_rows f =
    let test : One LoadName → Bool = λ t. t.1 == f in
    found-told {Y = One LoadName} (λ row. (row.name, row.funct3)) (λ t. t.0) test LOAD_ROWS
    ∙ (ap (λ (x : List (One LoadName)). option_map (λ t. t.0) (find test x)) load_told
    ∙ (sym (found-told {Y = One LoadName} (λ n. (n, load_funct n)) (λ t. t.0) test load_names) ∙ option_map_id (load_name_of f)))

-- the rows of stores
store_told : map {B = One StoreName} (λ row. (row.name, row.funct3)) STORE_ROWS ≡ map (λ n. (n, store_funct n)) store_names
store_told = refl

-- a search among them
pub store_rows : (f : ℕ) → option_map (λ row. row.name) (find (λ row. row.funct3 == f) STORE_ROWS) ≡ store_name_of f
store_rows f =
    let test : One StoreName → Bool = λ t. t.1 == f in
    found-told {Y = One StoreName} (λ row. (row.name, row.funct3)) (λ t. t.0) test STORE_ROWS
    ∙ (ap (λ (x : List (One StoreName)). option_map (λ t. t.0) (find test x)) store_told
    ∙ (sym (found-told {Y = One StoreName} (λ n. (n, store_funct n)) (λ t. t.0) test store_names) ∙ option_map_id (store_name_of f)))

-- the rows of branches
branch_told : map {B = One BranchName} (λ row. (row.name, row.funct3)) BRANCH_ROWS ≡ map (λ n. (n, branch_funct n)) branch_names
branch_told = refl

-- a search among them
pub branch_rows : (f : ℕ) → option_map (λ row. row.name) (find (λ row. row.funct3 == f) BRANCH_ROWS) ≡ branch_name_of f
branch_rows f =
    let test : One BranchName → Bool = λ t. t.1 == f in
    found-told {Y = One BranchName} (λ row. (row.name, row.funct3)) (λ t. t.0) test BRANCH_ROWS
    ∙ (ap (λ (x : List (One BranchName)). option_map (λ t. t.0) (find test x)) branch_told
    ∙ (sym (found-told {Y = One BranchName} (λ n. (n, branch_funct n)) (λ t. t.0) test branch_names) ∙ option_map_id (branch_name_of f)))

-- the rows of opcodes
opcode_told : map {B = One Opcode} (λ row. (row.opcode, row.code)) OPCODE_ROWS ≡ map (λ o. (o, code o)) opcodes
opcode_told = refl

-- a search among them
pub opcode_rows : (bits : ℕ) → option_map (λ row. row.opcode) (find (λ row. row.code == bits) OPCODE_ROWS) ≡ opcode_of bits
opcode_rows bits =
    let test : One Opcode → Bool = λ t. t.1 == bits in
    found-told {Y = One Opcode} (λ row. (row.opcode, row.code)) (λ t. t.0) test OPCODE_ROWS
    ∙ (ap (λ (x : List (One Opcode)). option_map (λ t. t.0) (find test x)) opcode_told
    ∙ (sym (found-told {Y = One Opcode} (λ o. (o, code o)) (λ t. t.0) test opcodes) ∙ option_map_id (opcode_of bits)))
