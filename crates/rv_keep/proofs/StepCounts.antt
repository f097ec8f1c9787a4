-- Each step that doesn't trap is counted.
use Rattle.std.proofs.Common.{◌≡◌, ℕ, zero, suc, ◌+◌, ◌%◌, ◌==◌, nat_le, Bool, true, false, List, [], ◌∷◌, length, refl, ap}
use Rattle.tam_word.specs.Words.{wrapped}
use Rattle.rv_inst.specs.declared.inst.Inst.{Inst}
use Rattle.rv_inst.specs.declared.inst.Inst.TheVariants.{R, I, Shift, Load, Store, Branch, Lui, Auipc, Jal, Jalr, Fence, Ecall as Calls, Ebreak}
use Rattle.rv_inst.specs.declared.load_name.LoadName.{LoadName}
use Rattle.rv_inst.specs.declared.store_name.StoreName.{StoreName}
use Rattle.rv_inst.specs.Instructions.{decoded}
use Rattle.rv_inst.specs.Harts.{Hart, Step, Done, Called, Trapped, reg, read_at, with_reg, gone_to}
use Rattle.rv_inst.specs.Execution.{hart_step, carried_out, carried_out_if, jump, branched, load_from, store_to, load_size, loaded, store_size}

-- a step that doesn't trap is one more
abbrev pub Counts : Hart → Step → Type 0
Counts h (Done g) = g.steps ≡ h.steps + 1
Counts h (Called g) = g.steps ≡ h.steps + 1
Counts h (Trapped pc cause) = Unit {0}

-- a register is no step
steps-reg : (h : Hart) (r w : ℕ) → (with_reg h r w).steps ≡ h.steps
steps-reg h zero w = refl
steps-reg h (suc r) w = refl

-- behind a register one step is made
steps-given : (h : Hart) (r w pc : ℕ) → (gone_to (with_reg h r w) pc).steps ≡ h.steps + 1
steps-given h r w pc = ap (λ (n : ℕ). n + 1) (steps-reg h r w)

-- a jump
jump-counts : (h : Hart) (rd to : ℕ) → Counts h (jump h rd to)
jump-counts h rd to = go (to % 4 == 0) refl
  where
    go : (t : Bool) → (to % 4 == 0) ≡ t → Counts h (jump h rd to)
    go true e = rw (jump, e) (steps-given h rd (wrapped (h.pc + 4)) to)
    go false e = rw (jump, e) tt

-- a branch
branch-counts : (h : Hart) (taken : Bool) (off : ℕ) → Counts h (branched h taken off)
branch-counts h true off = jump-counts h 0 (wrapped (h.pc + off))
branch-counts h false off = refl

-- a load
load-counts : (h : Hart) (n : LoadName) (rd a : ℕ) → Counts h (load_from h n rd a)
load-counts h n rd a = go (a % load_size n == 0) refl (nat_le (a + load_size n) (length h.memory)) refl
  where
    go : (t : Bool) → (a % load_size n == 0) ≡ t → (u : Bool) → nat_le (a + load_size n) (length h.memory) ≡ u → Counts h (load_from h n rd a)
    go false e u f = rw (load_from, e) tt
    go true e true f =
        let w = loaded n (read_at h.memory a (load_size n)) in
        rw (load_from, e, f) (steps-given h rd w (wrapped ((with_reg h rd w).pc + 4)))
    go true e false f = rw (load_from, e, f) tt

-- a store
store-counts : (h : Hart) (n : StoreName) (a w : ℕ) → Counts h (store_to h n a w)
store-counts h n a w = go (a % store_size n == 0) refl (nat_le (a + store_size n) (length h.memory)) refl
  where
    go : (t : Bool) → (a % store_size n == 0) ≡ t → (u : Bool) → nat_le (a + store_size n) (length h.memory) ≡ u → Counts h (store_to h n a w)
    go false e u f = rw (store_to, e) tt
    go true e true f = rw (store_to, e, f) refl
    go true e false f = rw (store_to, e, f) tt

-- an instruction
instruction-counts : (h : Hart) (i : Inst) → Counts h (carried_out h i)
instruction-counts h (R n rd rs1 rs2) = ap (λ (k : ℕ). k + 1) (steps-reg h rd _)
instruction-counts h (I n rd rs1 imm) = ap (λ (k : ℕ). k + 1) (steps-reg h rd _)
instruction-counts h (Shift n rd rs1 s) = ap (λ (k : ℕ). k + 1) (steps-reg h rd _)
instruction-counts h (Load n rd rs1 imm) = load-counts h n rd (wrapped (reg h rs1 + imm))
instruction-counts h (Store n rs1 rs2 imm) = store-counts h n (wrapped (reg h rs1 + imm)) (reg h rs2)
instruction-counts h (Branch n rs1 rs2 off) = branch-counts h _ off
instruction-counts h (Lui rd imm) = ap (λ (k : ℕ). k + 1) (steps-reg h rd _)
instruction-counts h (Auipc rd imm) = ap (λ (k : ℕ). k + 1) (steps-reg h rd _)
instruction-counts h (Jal rd off) = jump-counts h rd (wrapped (h.pc + off))
instruction-counts h (Jalr rd rs1 imm) = jump-counts h rd _
instruction-counts h (Fence rd rs1 b) = refl
instruction-counts h Calls = refl
instruction-counts h Ebreak = tt

-- a step
pub step-counts : (h : Hart) → Counts h (hart_step h)
step-counts h = go (nat_le (h.pc + 4) (length h.memory)) refl
  where
    found : (is : List Inst) → Counts h (carried_out_if h is)
    found [] = tt
    found (i ∷ is) = instruction-counts h i

    go : (t : Bool) → nat_le (h.pc + 4) (length h.memory) ≡ t → Counts h (hart_step h)
    go true e = rw (hart_step, e) (found (decoded (read_at h.memory h.pc 4)))
    go false e = rw (hart_step, e) tt
