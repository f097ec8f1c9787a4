-- Steps one after another through code that stands, whatever registers they change: each tells what it sets and what it leaves alone.
use Rattle.std.proofs.Common.{◌≡◌, ◌≢◌, ℕ, suc, ◌+◌, ◌%◌, ◌^◌, ◌<◌, ◌≤◌, List, length, refl, sym, ap, ◌∙◌, arith, true, false, true≢false}
use Rattle.std.specs.Prelude.{slice_index, slice_set}
use Rattle.tam_word.specs.Lists.{has}
use Rattle.tam_word.specs.Words.{wrapped}
use Rattle.rv_inst.specs.declared.r_name.RName.{RName}
use Rattle.rv_inst.specs.declared.i_name.IName.{IName}
use Rattle.rv_inst.specs.declared.shift_name.ShiftName.{ShiftName}
use Rattle.rv_inst.specs.declared.branch_name.BranchName.{BranchName}
use Rattle.rv_inst.specs.declared.inst.Inst.TheVariants.{R, I, Shift, Branch, Jal, Jalr, Ecall}
use Rattle.rv_inst.specs.Harts.{Hart, Done, Called, reg, read_at, written_at}
use Rattle.rv_inst.specs.Execution.{of_regs, of_imm, of_shift, is_taken, hart_step}
use Rattle.rv_inst.specs.Steps.{Comes, Calls, StandsAt}
use Rattle.rv_inst.proofs.Moves.{reg-step, imm-step, shift-step, lw-step, sw-step, taken-step, untaken-step, jal-step, jal-link-step, jalr-step, ecall-step}
use Rattle.rv_keep.specs.Expansions.{lw, sw}
use Rattle.rv_keep.specs.FrameBytes.{further}
use Rattle.rv_keep.specs.Posting.{gone}
use Rattle.rv_keep.proofs.Registers.{set-same, set-other, set-length}
use Rattle.rv_keep.proofs.Posted.{gone-step}

-- in n steps the machine is at an address, with these registers, of which all but xs are as they were, and this memory
pub record At (n : ℕ) (h : Hart) (pc : ℕ) (xs regs memory : List ℕ) : Type 0 where
  pub comes : Comes n h (gone h n pc regs memory)
  pub many : length regs ≡ 32
  pub same : (r : ℕ) → has xs r ≡ false → slice_index regs r ≡ reg h r

-- the same, where register x has got w and the others have what they had before
pub record AtSet (n : ℕ) (h : Hart) (pc : ℕ) (xs was memory : List ℕ) (x w : ℕ) : Type 0 where
  pub regs : List ℕ
  pub here : At n h pc xs regs memory
  pub gives : slice_index regs x ≡ w
  pub others : (r : ℕ) → r ≢ x → slice_index regs r ≡ slice_index was r

-- at the start
pub at-start : (h : Hart) (pc : ℕ) (xs : List ℕ) → h.pc ≡ pc → length h.regs ≡ 32 → At 0 h pc xs h.regs h.memory
at-start h pc xs e l =
    let s : h.steps ≡ h.steps + 0 = omega arith in
    record {
      comes = ap (λ (x : ℕ). record { regs = h.regs; pc = x; memory = h.memory; steps = h.steps }) e
          ∙ ap (λ (x : ℕ). record { regs = h.regs; pc = pc; memory = h.memory; steps = x }) s;
      many = l;
      same = λ r k. refl;
    }

-- a register that is among xs isn't one that isn't
in-apart : (xs : List ℕ) (r x : ℕ) → has xs r ≡ false → has xs x ≡ true → r ≢ x
in-apart xs r x h k e = true≢false (sym k ∙ (sym (ap (λ (y : ℕ). has xs y) e) ∙ h))

-- a step that sets a register
pub at-set : (n : ℕ) (h : Hart) (pc : ℕ) (xs regs memory : List ℕ) (x w : ℕ) → At n h pc xs regs memory → has xs x ≡ true → x < 32
    → hart_step (gone h n pc regs memory) ≡ Done (further (gone h n pc regs memory) 1 (slice_set regs x w) memory)
    → AtSet (n + 1) h (pc + 4) xs regs memory x w
at-set n h pc xs regs memory x w a k b s =
    let l : length regs ≡ 32 = a.many in
    record {
      regs = slice_set regs x w;
      here = record {
        comes = gone-step n h pc (pc + 4) regs (slice_set regs x w) memory memory a.comes s;
        many = set-length regs x w ∙ l;
        same = λ r q. set-other regs x r w (in-apart xs r x q k) ∙ a.same r q;
      };
      gives = set-same regs x w (omega arith);
      others = λ r q. set-other regs x r w q;
    }

-- a step that changes the memory
pub at-store : (n : ℕ) (h : Hart) (pc : ℕ) (xs regs m k : List ℕ) → At n h pc xs regs m
    → hart_step (gone h n pc regs m) ≡ Done (further (gone h n pc regs m) 1 regs k) → At (n + 1) h (pc + 4) xs regs k
at-store n h pc xs regs m k a s = record { comes = gone-step n h pc (pc + 4) regs regs m k a.comes s; many = a.many; same = a.same }

-- a step that jumps
pub at-jump : (n : ℕ) (h : Hart) (pc t : ℕ) (xs regs m : List ℕ) → At n h pc xs regs m
    → hart_step (gone h n pc regs m) ≡ Done (gone (gone h n pc regs m) 1 t regs m) → At (n + 1) h t xs regs m
at-jump n h pc t xs regs m a s = record { comes = gone-step n h pc t regs regs m m a.comes s; many = a.many; same = a.same }

-- a word is loaded
pub at-lw : (n : ℕ) (h : Hart) (pc : ℕ) (xs regs m : List ℕ) (x off b a v : ℕ) → At n h pc xs regs m → StandsAt m pc (lw (suc x) off b)
    → wrapped (slice_index regs b + off) ≡ a → a % 4 ≡ 0 → a + 4 ≤ length m → read_at m a 4 ≡ v → has xs (suc x) ≡ true → suc x < 32
    → AtSet (n + 1) h (pc + 4) xs regs m (suc x) v
at-lw n h pc xs regs m x off b a v w s e al i r k l =
    at-set n h pc xs regs m (suc x) v w k l
    (lw-step (gone h n pc regs m) x b off a s e al i ∙ ap (λ (y : ℕ). Done (further (gone h n pc regs m) 1 (slice_set regs (suc x) y) m)) r)

-- a word is stored
pub at-sw : (n : ℕ) (h : Hart) (pc : ℕ) (xs regs m : List ℕ) (x off b a v : ℕ) → At n h pc xs regs m → StandsAt m pc (sw x off b)
    → wrapped (slice_index regs b + off) ≡ a → a % 4 ≡ 0 → a + 4 ≤ length m → slice_index regs x ≡ v → At (n + 1) h (pc + 4) xs regs (written_at m a 4 v)
at-sw n h pc xs regs m x off b a v w s e al i r =
    at-store n h pc xs regs m (written_at m a 4 v) w
    (sw-step (gone h n pc regs m) b x off a s e al i ∙ ap (λ (y : ℕ). Done (further (gone h n pc regs m) 1 regs (written_at m a 4 y))) r)

-- an instruction with an immediate
pub at-imm : (n : ℕ) (h : Hart) (pc : ℕ) (xs regs m : List ℕ) (name : IName) (x b imm v : ℕ) → At n h pc xs regs m → StandsAt m pc (I name (suc x) b imm)
    → of_imm name (slice_index regs b) imm ≡ v → has xs (suc x) ≡ true → suc x < 32 → AtSet (n + 1) h (pc + 4) xs regs m (suc x) v
at-imm n h pc xs regs m name x b imm v w s e k l =
    at-set n h pc xs regs m (suc x) v w k l
    (imm-step (gone h n pc regs m) name x b imm s ∙ ap (λ (y : ℕ). Done (further (gone h n pc regs m) 1 (slice_set regs (suc x) y) m)) e)

-- an instruction of two registers
pub at-reg : (n : ℕ) (h : Hart) (pc : ℕ) (xs regs m : List ℕ) (name : RName) (x b c v : ℕ) → At n h pc xs regs m → StandsAt m pc (R name (suc x) b c)
    → of_regs name (slice_index regs b) (slice_index regs c) ≡ v → has xs (suc x) ≡ true → suc x < 32 → AtSet (n + 1) h (pc + 4) xs regs m (suc x) v
at-reg n h pc xs regs m name x b c v w s e k l =
    at-set n h pc xs regs m (suc x) v w k l
    (reg-step (gone h n pc regs m) name x b c s ∙ ap (λ (y : ℕ). Done (further (gone h n pc regs m) 1 (slice_set regs (suc x) y) m)) e)

-- a shift
pub at-shift : (n : ℕ) (h : Hart) (pc : ℕ) (xs regs m : List ℕ) (name : ShiftName) (x b by v : ℕ) → At n h pc xs regs m
    → StandsAt m pc (Shift name (suc x) b by)
    → of_shift name (slice_index regs b) by ≡ v → has xs (suc x) ≡ true → suc x < 32 → AtSet (n + 1) h (pc + 4) xs regs m (suc x) v
at-shift n h pc xs regs m name x b by v w s e k l =
    at-set n h pc xs regs m (suc x) v w k l
    (shift-step (gone h n pc regs m) name x b by s ∙ ap (λ (y : ℕ). Done (further (gone h n pc regs m) 1 (slice_set regs (suc x) y) m)) e)

-- a branch that is taken
pub at-taken : (n : ℕ) (h : Hart) (pc : ℕ) (xs regs m : List ℕ) (name : BranchName) (a b off t : ℕ) → At n h pc xs regs m → StandsAt m pc (Branch name a b off)
    → is_taken name (slice_index regs a) (slice_index regs b) ≡ true → wrapped (pc + off) ≡ t → t % 4 ≡ 0 → At (n + 1) h t xs regs m
at-taken n h pc xs regs m name a b off t w s k e al = at-jump n h pc t xs regs m w (taken-step (gone h n pc regs m) name a b off t s k e al)

-- one that isn't
pub at-untaken : (n : ℕ) (h : Hart) (pc : ℕ) (xs regs m : List ℕ) (name : BranchName) (a b off : ℕ) → At n h pc xs regs m → StandsAt m pc (Branch name a b off)
    → is_taken name (slice_index regs a) (slice_index regs b) ≡ false → At (n + 1) h (pc + 4) xs regs m
at-untaken n h pc xs regs m name a b off w s k = at-store n h pc xs regs m m w (untaken-step (gone h n pc regs m) name a b off s k)

-- a jump
pub at-jal : (n : ℕ) (h : Hart) (pc : ℕ) (xs regs m : List ℕ) (off t : ℕ) → At n h pc xs regs m → StandsAt m pc (Jal 0 off) → wrapped (pc + off) ≡ t → t % 4 ≡ 0
    → At (n + 1) h t xs regs m
at-jal n h pc xs regs m off t w s e al = at-jump n h pc t xs regs m w (jal-step (gone h n pc regs m) off t s e al)

-- a jump to the address in a register
pub at-jalr : (n : ℕ) (h : Hart) (pc : ℕ) (xs regs m : List ℕ) (a t : ℕ) → At n h pc xs regs m → StandsAt m pc (Jalr 0 a 0) → slice_index regs a ≡ t
    → t < 2 ^ 32
    → t % 4 ≡ 0 → At (n + 1) h t xs regs m
at-jalr n h pc xs regs m a t w s e u al =
    let k : wrapped (slice_index regs a + 0) ≡ t = omega arith in
    at-jump n h pc t xs regs m w (jalr-step (gone h n pc regs m) a 0 t s k al)

-- a jump that leaves the address behind it in a register
pub at-link : (n : ℕ) (h : Hart) (pc : ℕ) (xs regs m : List ℕ) (x off t : ℕ) → At n h pc xs regs m → StandsAt m pc (Jal (suc x) off) → wrapped (pc + off) ≡ t
    → t % 4 ≡ 0 → has xs (suc x) ≡ true → suc x < 32 → AtSet (n + 1) h t xs regs m (suc x) (pc + 4)
at-link n h pc xs regs m x off t w s e al k b =
    let l : length regs ≡ 32 = w.many in
    let q : List ℕ = slice_set regs (suc x) (pc + 4) in
    record {
      regs = q;
      here = record {
        comes = gone-step n h pc t regs q m m w.comes (jal-link-step (gone h n pc regs m) x off t s e al);
        many = set-length regs (suc x) (pc + 4) ∙ l;
        same = λ r p. set-other regs (suc x) r (pc + 4) (in-apart xs r (suc x) p k) ∙ w.same r p;
      };
      gives = set-same regs (suc x) (pc + 4) (omega arith);
      others = λ r p. set-other regs (suc x) r (pc + 4) p;
    }

-- a call of the host
pub at-call : (n : ℕ) (h : Hart) (pc : ℕ) (xs regs m : List ℕ) → At n h pc xs regs m → StandsAt m pc Ecall → Calls n h (gone h (n + 1) (pc + 4) regs m)
at-call n h pc xs regs m w s =
    let e : h.steps + n + 1 ≡ h.steps + (n + 1) = omega arith in (
      gone h n pc regs m,
      w.comes,
      ecall-step (gone h n pc regs m) s ∙ ap (λ (x : ℕ). Called (record { regs = regs; pc = pc + 4; memory = m; steps = x })) e,
    )
