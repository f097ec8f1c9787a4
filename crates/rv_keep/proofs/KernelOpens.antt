-- The kernel's first part: its registers are set, and it comes to begin the first frame.
use Rattle.std.proofs.Common.{◌≡◌, ◌≢◌, ℕ, suc, ◌+◌, ◌-◌, ◌*◌, ◌^◌, ◌<◌, ◌==◌, List, [], ◌∷◌, refl, sym, ap, ◌∙◌, arith, true, false, Bool, true≢false}
use Rattle.std.specs.Prelude.{slice_index}
use Rattle.tam_word.specs.Lists.{has}
use Rattle.tam_word.specs.Words.{wrapped}
use Rattle.tam_word.proofs.Tests.{eq-number}
use Rattle.rv_inst.specs.declared.i_name.IName.TheVariants.{Addi}
use Rattle.rv_inst.specs.Harts.{Hart, reg}
use Rattle.rv_inst.specs.Steps.{Stands}
use Rattle.rv_inst.proofs.Moves.{lui-step}
use Rattle.rv_keep.specs.Expansions.{minus, high, low, addi, load_number}
use Rattle.rv_keep.specs.KernelPlaces.{begin_at}
use Rattle.rv_keep.specs.Kernel.{opening}
use Rattle.rv_keep.specs.Posting.{gone}
use Rattle.rv_keep.specs.KernelSteps.{AtKernel, HasRegs, Goes}
use Rattle.rv_keep.proofs.Numbers.{high-low}
use Rattle.rv_keep.proofs.Walks.{At, AtSet, at-start, at-set, at-imm, at-jal}

-- none of these registers is x
abbrev pub avoids : List (ℕ × ℕ) → ℕ → Bool
avoids [] x = true
avoids (s ∷ ss) x = elim (s.0 == x) [ true ↦ false | false ↦ avoids ss x ]

-- registers that have numbers have them where another is set
pub regs-on : (sets : List (ℕ × ℕ)) (was now : List ℕ) (x : ℕ) → ((r : ℕ) → r ≢ x → slice_index now r ≡ slice_index was r) → avoids sets x ≡ true
    → HasRegs was sets → HasRegs now sets
regs-on [] was now x o a h = tt
regs-on (s ∷ ss) was now x o a h = go (s.0 == x) refl a (λ q. regs-on ss was now x o q h.1)
  where
    go : (t : Bool) → (s.0 == x) ≡ t → elim t [ true ↦ false | false ↦ avoids ss x ] ≡ true → (avoids ss x ≡ true → HasRegs now ss) → HasRegs now (s ∷ ss)
    go true p q g = absurd (true≢false (sym q))
    go false p q g =
        let n : s.0 ≢ x = λ e. true≢false (sym (eq-number s.0 x e) ∙ p) in
        (o s.0 n ∙ h.0, g q)

-- the machine is at an address, and registers have numbers
record AtWith (n : ℕ) (h : Hart) (pc : ℕ) (xs : List ℕ) (sets : List (ℕ × ℕ)) : Type 0 where
  pub regs : List ℕ
  pub here : At n h pc xs regs h.memory
  pub set : HasRegs regs sets

-- one more does
with-set : (n : ℕ) (h : Hart) (pc : ℕ) (xs was : List ℕ) (x w : ℕ) (sets : List (ℕ × ℕ)) → AtSet n h pc xs was h.memory x w → avoids sets x ≡ true
    → HasRegs was sets → AtWith n h pc xs ((x, w) ∷ sets)
with-set n h pc xs was x w sets p a s = record { regs = p.regs; here = p.here; set = (p.gives, regs-on sets was p.regs x p.others a s) }

-- a number is loaded in two steps
at-number : (n : ℕ) (h : Hart) (pc : ℕ) (xs regs m : List ℕ) (x v : ℕ) → At n h pc xs regs m → Stands m pc (load_number (suc x) v) → v < 2 ^ 32
    → has xs (suc x) ≡ true → suc x < 32 → AtSet (n + 1 + 1) h (pc + 4 + 4) xs regs m (suc x) v
at-number n h pc xs regs m x v w s u k l =
    let w1 : AtSet (n + 1) h (pc + 4) xs regs m (suc x) (high v * 4096) =
    at-set n h pc xs regs m (suc x) (high v * 4096) w k l (lui-step (gone h n pc regs m) x (high v) s.0) in
    let e : wrapped (slice_index w1.regs (suc x) + low v) ≡ v = ap (λ (y : ℕ). wrapped (y + low v)) w1.gives ∙ high-low v u in
    let w2 : AtSet (n + 1 + 1) h (pc + 4 + 4) xs w1.regs m (suc x) v = at-imm (n + 1) h (pc + 4) xs w1.regs m Addi x (suc x) (low v) v w1.here s.1.0 e k l in
    record { regs = w2.regs; here = w2.here; gives = w2.gives; others = λ r q. w2.others r q ∙ w1.others r q }

-- the registers that the opening sets
abbrev pub open_used : List ℕ
open_used = 8 ∷ 9 ∷ 11 ∷ 12 ∷ 13 ∷ 14 ∷ 18 ∷ 19 ∷ 20 ∷ 21 ∷ []

-- a number added to register 0 is that number
from-zero : (x v : ℕ) → x ≡ 0 → v < 2 ^ 32 → wrapped (x + v) ≡ v
from-zero x v e u = omega arith

-- the three numbers are loaded in 6
loads : (h : Hart) (frames stride table main : ℕ) → AtKernel h 0 → Stands h.memory 0 (opening frames stride table main) → frames < 2 ^ 32 → stride < 2 ^ 32
    → table < 2 ^ 32
    → AtWith 6 h 24 open_used ((21, table) ∷ (20, stride) ∷ (19, frames) ∷ [])
loads h frames stride table main a s uf us ut =
    let m : List ℕ = h.memory in
    let w2 : AtSet 2 h 8 open_used h.regs m 19 frames =
    at-number 0 h 0 open_used h.regs m 18 frames (at-start h 0 open_used a.at a.registers) (s.0, (s.1.0, tt)) uf refl (omega arith) in
    let r2 : AtWith 2 h 8 open_used ((19, frames) ∷ []) = with-set 2 h 8 open_used h.regs 19 frames [] w2 refl tt in
    let w4 : AtSet 4 h 16 open_used r2.regs m 20 stride =
    at-number 2 h 8 open_used r2.regs m 19 stride r2.here (s.1.1.0, (s.1.1.1.0, tt)) us refl (omega arith) in
    let r4 : AtWith 4 h 16 open_used ((20, stride) ∷ (19, frames) ∷ []) = with-set 4 h 16 open_used r2.regs 20 stride ((19, frames) ∷ []) w4 refl r2.set in
    let w6 : AtSet 6 h 24 open_used r4.regs m 21 table =
    at-number 4 h 16 open_used r4.regs m 20 table r4.here (s.1.1.1.1.0, (s.1.1.1.1.1.0, tt)) ut refl (omega arith) in
    with-set 6 h 24 open_used r4.regs 21 table ((20, stride) ∷ (19, frames) ∷ []) w6 refl r4.set

-- a register gets a number from register 0
sets-number : (n : ℕ) (h : Hart) (pc x v : ℕ) (sets : List (ℕ × ℕ)) → reg h 0 ≡ 0 → (r : AtWith n h pc open_used sets)
    → Stands h.memory pc (addi (suc x) 0 v ∷ []) → v < 2 ^ 32
    → has open_used (suc x) ≡ true → suc x < 32 → avoids sets (suc x) ≡ true → AtWith (n + 1) h (pc + 4) open_used ((suc x, v) ∷ sets)
sets-number n h pc x v sets z r s u k l a =
    with-set (n + 1) h (pc + 4) open_used r.regs (suc x) v sets
    (at-imm n h pc open_used r.regs h.memory Addi x 0 v v r.here s.0 (from-zero (slice_index r.regs 0) v (r.here.same 0 refl ∙ z) u) k l) a r.set

-- the kernel's registers are set, and it comes to begin the first frame
pub opens-kernel : (h : Hart) (frames stride table main : ℕ) → AtKernel h 0 → Stands h.memory 0 (opening frames stride table main) → frames < 2 ^ 32
    → stride < 2 ^ 32
    → table < 2 ^ 32
    → main < 2 ^ 32
    → Goes 14 h begin_at open_used
    ((14, 0) ∷ (13, 2 ^ 32 - 1) ∷ (12, main) ∷ (11, 0) ∷ (18, 0) ∷ (9, 0) ∷ (8, 0) ∷ (21, table) ∷ (20, stride) ∷ (19, frames) ∷ []) h.memory
opens-kernel h frames stride table main a s uf us ut um =
    let z : reg h 0 ≡ 0 = a.zero_stays in
    let l0 : List (ℕ × ℕ) = (21, table) ∷ (20, stride) ∷ (19, frames) ∷ [] in
    let r6 = loads h frames stride table main a s uf us ut in
    let t = s.1.1.1.1.1.1 in
    let r7 = sets-number 6 h 24 7 0 l0 z r6 (t.0, tt) (omega arith) refl (omega arith) refl in
    let r8 = sets-number 7 h 28 8 0 ((8, 0) ∷ l0) z r7 (t.1.0, tt) (omega arith) refl (omega arith) refl in
    let r9 = sets-number 8 h 32 17 0 ((9, 0) ∷ (8, 0) ∷ l0) z r8 (t.1.1.0, tt) (omega arith) refl (omega arith) refl in
    let r10 = sets-number 9 h 36 10 0 ((18, 0) ∷ (9, 0) ∷ (8, 0) ∷ l0) z r9 (t.1.1.1.0, tt) (omega arith) refl (omega arith) refl in
    let r11 = sets-number 10 h 40 11 main ((11, 0) ∷ (18, 0) ∷ (9, 0) ∷ (8, 0) ∷ l0) z r10 (t.1.1.1.1.0, tt) um refl (omega arith) refl in
    let r12 = sets-number 11 h 44 12 (minus 1) ((12, main) ∷ (11, 0) ∷ (18, 0) ∷ (9, 0) ∷ (8, 0) ∷ l0) z r11 (t.1.1.1.1.1.0, tt) (omega arith) refl
    (omega arith)
    refl in
    let r13 = sets-number 12 h 48 13 0 ((13, minus 1) ∷ (12, main) ∷ (11, 0) ∷ (18, 0) ∷ (9, 0) ∷ (8, 0) ∷ l0) z r12 (t.1.1.1.1.1.1.0, tt) (omega arith) refl
    (omega arith) refl in
    let w : At 14 h begin_at open_used r13.regs h.memory = at-jal 13 h 52 open_used r13.regs h.memory 48 begin_at r13.here t.1.1.1.1.1.1.1.0 refl refl in
    record { regs = r13.regs; comes = w.comes; many = w.many; same = w.same; set = r13.set }
