-- The kernel's two loops where a frame is begun: its slots are set to 0, and its entry counts are copied.
use Rattle.std.proofs.Common.{◌≡◌, ◌≢◌, ℕ, zero, suc, ◌+◌, ◌*◌, ◌%◌, ◌^◌, ◌<◌, ◌≤◌, List, [], ◌∷◌, length, refl, ◌∙◌, arith, subst}
use Rattle.std.specs.Prelude.{slice_index}
use Rattle.tam_word.specs.Words.{wrapped}
use Rattle.rv_inst.specs.declared.i_name.IName.TheVariants.{Addi}
use Rattle.rv_inst.specs.declared.branch_name.BranchName.TheVariants.{Beq, Bne}
use Rattle.rv_inst.specs.Harts.{Hart, read_at, written_at}
use Rattle.rv_inst.proofs.Memory.{length-written, read-before}
use Rattle.rv_keep.specs.Expansions.{minus}
use Rattle.rv_keep.specs.KernelPlaces.{kernel_end}
use Rattle.rv_keep.specs.KernelSteps.{KernelStands}
use Rattle.rv_keep.specs.KernelFrames.{cleared, filled, NumbersStand}
use Rattle.rv_keep.proofs.Posted.{bne-taken, bne-untaken}
use Rattle.rv_keep.proofs.Linked.{beq-taken, beq-untaken}
use Rattle.rv_keep.proofs.Walks.{At, AtSet, at-lw, at-sw, at-imm, at-taken, at-untaken, at-jal}
use Rattle.rv_keep.proofs.KernelStands.{kernel-still}
use Rattle.rv_keep.proofs.KernelDelivers.{sum-is}

-- the registers that the beginning of a frame sets
abbrev pub begin_used : List ℕ
begin_used = 1 ∷ 5 ∷ 6 ∷ 7 ∷ 10 ∷ 11 ∷ 12 ∷ 28 ∷ []

-- ---- slots

-- behind the loop over slots: all registers but 28 are as they were
pub record Cleared (n : ℕ) (h : Hart) (was memory : List ℕ) : Type 0 where
  pub regs : List ℕ
  pub here : At n h 416 begin_used regs memory
  pub others : (r : ℕ) → r ≢ 28 → slice_index regs r ≡ slice_index was r

-- one slot, in 4 steps
record OneCleared (n : ℕ) (h : Hart) (was memory : List ℕ) (a : ℕ) : Type 0 where
  pub regs : List ℕ
  pub here : At (n + 4) h 400 begin_used regs memory
  pub next : slice_index regs 28 ≡ a + 4
  pub others : (r : ℕ) → r ≢ 28 → slice_index regs r ≡ slice_index was r

-- it is 0
one-cleared : (n : ℕ) (h : Hart) (regs m : List ℕ) (a end : ℕ) → At n h 400 begin_used regs m → KernelStands m → length m < 2 ^ 32 → slice_index regs 0 ≡ 0
    → slice_index regs 28 ≡ a → slice_index regs 6 ≡ end → end ≢ a → a % 4 ≡ 0 → kernel_end ≤ a → a + 4 ≤ length m
    → OneCleared n h regs (written_at m a 4 0) a
one-cleared n h regs m a end w k sm z e f d al be ins =
    let j : List ℕ = written_at m a 4 0 in
    let t : KernelStands j = kernel-still m a 0 k be ins in
    let sa : a < 2 ^ 32 = omega arith in
    let sb : a + 4 < 2 ^ 32 = omega arith in
    let w1 : At (n + 1) h 404 begin_used regs m =
    at-untaken n h 400 begin_used regs m Beq 28 6 16 w k.clears.1.1.1.0 (beq-untaken (slice_index regs 28) (slice_index regs 6) a end e f d) in
    let w2 : At (n + 1 + 1) h 408 begin_used regs j =
    at-sw (n + 1) h 404 begin_used regs m 0 0 28 a 0 w1 k.clears.1.1.1.1.0 (sum-is (slice_index regs 28) 0 a 0 a e refl (omega arith) sa) al ins z in
    let w3 : AtSet (n + 1 + 1 + 1) h 412 begin_used regs j 28 (a + 4) =
    at-imm (n + 1 + 1) h 408 begin_used regs j Addi 27 28 4 (a + 4) w2 t.clears.1.1.1.1.1.0
    (sum-is (slice_index regs 28) 4 a 4 (a + 4) e refl refl sb) refl (omega arith) in
    let w4 : At (n + 1 + 1 + 1 + 1) h 400 begin_used w3.regs j =
    at-jal (n + 1 + 1 + 1) h 412 begin_used w3.regs j (minus 12) 400 w3.here t.clears.1.1.1.1.1.1.0 refl refl in
    let q : n + 1 + 1 + 1 + 1 ≡ n + 4 = omega arith in
    record {
      regs = w3.regs;
      here = subst (λ (x : ℕ). At x h 400 begin_used w3.regs j) q w4;
      next = w3.gives;
      others = w3.others;
    }

-- all of them are
pub clears-slots : (k n : ℕ) (h : Hart) (regs m : List ℕ) (a : ℕ) → At n h 400 begin_used regs m → KernelStands m → length m < 2 ^ 32
    → slice_index regs 0 ≡ 0
    → slice_index regs 28 ≡ a → slice_index regs 6 ≡ a + 4 * k → a % 4 ≡ 0 → kernel_end ≤ a → a + 4 * k ≤ length m
    → Cleared (n + (4 * k + 1)) h regs (cleared m a k)
clears-slots zero n h regs m a w k sm z e f al be ins =
    let g : slice_index regs 6 ≡ a = omega arith in
    record {
      regs = regs;
      here = at-taken n h 400 begin_used regs m Beq 28 6 16 416 w k.clears.1.1.1.0 (beq-taken (slice_index regs 28) (slice_index regs 6) a e g) refl refl;
      others = λ r q. refl;
    }
clears-slots (suc j) n h regs m a w k sm z e f al be ins =
    let i : a + 4 ≤ length m = omega arith in
    let p : List ℕ = written_at m a 4 0 in
    let lp : length p ≡ length m = length-written m a 4 0 i in
    let o : OneCleared n h regs p a = one-cleared n h regs m a (a + 4 * suc j) w k sm z e f (omega arith) al be i in
    let f1 : slice_index o.regs 6 ≡ a + 4 + 4 * j = o.others 6 (omega arith) ∙ (f ∙ omega arith) in
    let r : Cleared (n + 4 + (4 * j + 1)) h o.regs (cleared p (a + 4) j) =
    clears-slots j (n + 4) h o.regs p (a + 4) o.here (kernel-still m a 0 k be i) (omega arith) (o.others 0 (omega arith) ∙ z) o.next f1 (omega arith)
    (omega arith)
    (omega arith) in
    let q : n + 4 + (4 * j + 1) ≡ n + (4 * suc j + 1) = omega arith in
    record {
      regs = r.regs;
      here = subst (λ (x : ℕ). At x h 416 begin_used r.regs (cleared p (a + 4) j)) q r.here;
      others = λ t u. r.others t u ∙ o.others t u;
    }

-- ---- entry counts

-- behind the loop over entry counts
pub record Filled (n : ℕ) (h : Hart) (was memory : List ℕ) : Type 0 where
  pub regs : List ℕ
  pub here : At n h 192 begin_used regs memory
  pub others : (r : ℕ) → r ≢ 5 → r ≢ 6 → r ≢ 7 → r ≢ 28 → slice_index regs r ≡ slice_index was r

-- one count is copied, in 5 steps to the test
record OneFilled (n : ℕ) (h : Hart) (was memory : List ℕ) (source target left : ℕ) : Type 0 where
  pub regs : List ℕ
  pub here : At (n + 5) h 188 begin_used regs memory
  pub next_source : slice_index regs 5 ≡ source + 4
  pub next_target : slice_index regs 6 ≡ target + 8
  pub left_is : slice_index regs 7 ≡ left
  pub others : (r : ℕ) → r ≢ 5 → r ≢ 6 → r ≢ 7 → r ≢ 28 → slice_index regs r ≡ slice_index was r

-- numbers still stand where a word is written behind them
numbers-still : (cs : List ℕ) (m : List ℕ) (a w b : ℕ) → b + 4 * length cs ≤ a → a ≤ length m → NumbersStand m b cs → NumbersStand (written_at m a 4 w) b cs
numbers-still [] m a w b l i s = tt
numbers-still (c ∷ cs) m a w b l i s = (read-before m a 4 w b 4 (omega arith) i ∙ s.0, numbers-still cs m a w (b + 4) (omega arith) i s.1)

-- one less
one-less : (x left : ℕ) → x ≡ suc left → suc left < 2 ^ 32 → wrapped (x + minus 1) ≡ left
one-less x left e u = omega arith

-- it is copied
one-filled : (n : ℕ) (h : Hart) (regs m : List ℕ) (source target left c : ℕ) → At n h 168 begin_used regs m → KernelStands m → length m < 2 ^ 32
    → slice_index regs 5 ≡ source → slice_index regs 6 ≡ target → slice_index regs 7 ≡ suc left → suc left < 2 ^ 32 → read_at m source 4 ≡ c
    → source % 4 ≡ 0 → source + 4 ≤ length m → target % 4 ≡ 0 → kernel_end ≤ target → target + 8 ≤ length m
    → OneFilled n h regs (written_at m target 4 c) source target left
one-filled n h regs m source target left c w k sm e f g gl r sal si tal tb ti =
    let i4 : target + 4 ≤ length m = omega arith in
    let j : List ℕ = written_at m target 4 c in
    let t : KernelStands j = kernel-still m target c k tb i4 in
    let ss : source < 2 ^ 32 = omega arith in
    let s4 : source + 4 < 2 ^ 32 = omega arith in
    let ts : target < 2 ^ 32 = omega arith in
    let t8 : target + 8 < 2 ^ 32 = omega arith in
    let w1 : AtSet (n + 1) h 172 begin_used regs m 28 c =
    at-lw n h 168 begin_used regs m 27 0 5 source c w k.fills.1.1.0 (sum-is (slice_index regs 5) 0 source 0 source e refl (omega arith) ss) sal si r refl
    (omega arith) in
    let f1 : slice_index w1.regs 6 ≡ target = w1.others 6 (omega arith) ∙ f in
    let w2 : At (n + 1 + 1) h 176 begin_used w1.regs j =
    at-sw (n + 1) h 172 begin_used w1.regs m 28 0 6 target c w1.here k.fills.1.1.1.0
    (sum-is (slice_index w1.regs 6) 0 target 0 target f1 refl (omega arith) ts) tal i4 w1.gives in
    let e2 : slice_index w1.regs 5 ≡ source = w1.others 5 (omega arith) ∙ e in
    let w3 : AtSet (n + 1 + 1 + 1) h 180 begin_used w1.regs j 5 (source + 4) =
    at-imm (n + 1 + 1) h 176 begin_used w1.regs j Addi 4 5 4 (source + 4) w2 t.fills.1.1.1.1.0
    (sum-is (slice_index w1.regs 5) 4 source 4 (source + 4) e2 refl refl s4) refl (omega arith) in
    let f3 : slice_index w3.regs 6 ≡ target = w3.others 6 (omega arith) ∙ f1 in
    let w4 : AtSet (n + 1 + 1 + 1 + 1) h 184 begin_used w3.regs j 6 (target + 8) =
    at-imm (n + 1 + 1 + 1) h 180 begin_used w3.regs j Addi 5 6 8 (target + 8) w3.here t.fills.1.1.1.1.1.0
    (sum-is (slice_index w3.regs 6) 8 target 8 (target + 8) f3 refl refl t8) refl (omega arith) in
    let g4 : slice_index w4.regs 7 ≡ suc left = w4.others 7 (omega arith) ∙ (w3.others 7 (omega arith) ∙ (w1.others 7 (omega arith) ∙ g)) in
    let w5 : AtSet (n + 1 + 1 + 1 + 1 + 1) h 188 begin_used w4.regs j 7 left =
    at-imm (n + 1 + 1 + 1 + 1) h 184 begin_used w4.regs j Addi 6 7 (minus 1) left w4.here t.fills.1.1.1.1.1.1.0 (one-less (slice_index w4.regs 7) left g4 gl)
    refl
    (omega arith) in
    let q : n + 1 + 1 + 1 + 1 + 1 ≡ n + 5 = omega arith in
    record {
      regs = w5.regs;
      here = subst (λ (x : ℕ). At x h 188 begin_used w5.regs j) q w5.here;
      next_source = w5.others 5 (omega arith) ∙ (w4.others 5 (omega arith) ∙ w3.gives);
      next_target = w5.others 6 (omega arith) ∙ w4.gives;
      left_is = w5.gives;
      others = λ x a b d y. w5.others x d ∙ (w4.others x b ∙ (w3.others x a ∙ w1.others x y));
    }

-- all of them are
pub fills-counts : (cs : List ℕ) (c n : ℕ) (h : Hart) (regs m : List ℕ) (source target : ℕ) → At n h 168 begin_used regs m → KernelStands m
    → length m < 2 ^ 32
    → slice_index regs 0 ≡ 0 → slice_index regs 5 ≡ source → slice_index regs 6 ≡ target → slice_index regs 7 ≡ suc (length cs)
    → NumbersStand m source (c ∷ cs) → source % 4 ≡ 0 → source + 4 * suc (length cs) ≤ target → target % 4 ≡ 0 → kernel_end ≤ target
    → target + 8 * suc (length cs) ≤ length m → Filled (n + 6 * suc (length cs)) h regs (filled m target (c ∷ cs))
fills-counts [] c n h regs m source target w k sm z e f g s sal before tal tb ti =
    let j : List ℕ = written_at m target 4 c in
    let o : OneFilled n h regs j source target 0 =
    one-filled n h regs m source target 0 c w k sm e f g (omega arith) s.0 sal (omega arith) tal tb (omega arith) in
    let t : KernelStands j = kernel-still m target c k tb (omega arith) in
    let z1 : slice_index o.regs 0 ≡ 0 = o.others 0 (omega arith) (omega arith) (omega arith) (omega arith) ∙ z in
    let w6 : At (n + 5 + 1) h 192 begin_used o.regs j =
    at-untaken (n + 5) h 188 begin_used o.regs j Bne 7 0 (minus 20) o.here t.fills.1.1.1.1.1.1.1.0
    (bne-untaken (slice_index o.regs 7) (slice_index o.regs 0) o.left_is z1) in
    let q : n + 5 + 1 ≡ n + 6 * 1 = omega arith in
    record { regs = o.regs; here = subst (λ (x : ℕ). At x h 192 begin_used o.regs j) q w6; others = o.others }
fills-counts (d ∷ cs) c n h regs m source target w k sm z e f g s sal before tal tb ti =
    let j : List ℕ = written_at m target 4 c in
    let lj : length j ≡ length m = length-written m target 4 c (omega arith) in
    let o : OneFilled n h regs j source target (suc (length cs)) =
    one-filled n h regs m source target (suc (length cs)) c w k sm e f g (omega arith) s.0 sal (omega arith) tal tb (omega arith) in
    let t : KernelStands j = kernel-still m target c k tb (omega arith) in
    let z1 : slice_index o.regs 0 ≡ 0 = o.others 0 (omega arith) (omega arith) (omega arith) (omega arith) ∙ z in
    let w6 : At (n + 5 + 1) h 168 begin_used o.regs j =
    at-taken (n + 5) h 188 begin_used o.regs j Bne 7 0 (minus 20) 168 o.here t.fills.1.1.1.1.1.1.1.0
    (bne-taken (slice_index o.regs 7) (slice_index o.regs 0) (length cs) o.left_is z1) refl refl in
    let u : NumbersStand j (source + 4) (d ∷ cs) = numbers-still (d ∷ cs) m target c (source + 4) (omega arith) (omega arith) s.1 in
    let r : Filled (n + 5 + 1 + 6 * suc (length cs)) h o.regs (filled j (target + 8) (d ∷ cs)) =
    fills-counts cs d (n + 5 + 1) h o.regs j (source + 4) (target + 8) w6 t (omega arith) z1 o.next_source o.next_target o.left_is u (omega arith) (omega arith)
    (omega arith) (omega arith) (omega arith) in
    let q : n + 5 + 1 + 6 * suc (length cs) ≡ n + 6 * suc (length (d ∷ cs)) = omega arith in
    record {
      regs = r.regs;
      here = subst (λ (x : ℕ). At x h 192 begin_used r.regs (filled j (target + 8) (d ∷ cs))) q r.here;
      others = λ x a b v y. r.others x a b v y ∙ o.others x a b v y;
    }

-- the kernel stands behind the loop over entry counts
pub filled-kernel : (cs : List ℕ) (m : List ℕ) (a : ℕ) → KernelStands m → kernel_end ≤ a → a + 8 * length cs ≤ length m → KernelStands (filled m a cs)
filled-kernel [] m a k b i = k
filled-kernel (c ∷ cs) m a k b i =
    let l : length (written_at m a 4 c) ≡ length m = length-written m a 4 c (omega arith) in
    filled-kernel cs (written_at m a 4 c) (a + 8) (kernel-still m a c k b (omega arith)) (omega arith) (omega arith)
