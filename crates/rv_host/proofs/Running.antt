-- What a run of the machine leads to, so long as its count has room.
use Rattle.std.proofs.Common.{◌≡◌, ◌∙◌, ℕ, zero, suc, ◌+◌, ◌-◌, ◌<◌, ◌≤◌, ◌^◌, refl, sym, ap, subst, arith}
use Rattle.rv_inst.specs.declared.trap_cause.TrapCause.{TrapCause}
use Rattle.rv_inst.specs.Harts.{Hart, Done, Called, Trapped}
use Rattle.rv_inst.specs.Execution.{hart_step}
use Rattle.rv_inst.specs.Steps.{Comes}
use Rattle.rv_machine.specs.declared.rv_step.RvStep.{RvStep}
use Rattle.rv_machine.specs.declared.rv_step.RvStep.TheVariants.{Done as Is_done, Ecall, Trap}
use Rattle.rv_machine.specs.Runs.{IsRun}
use Rattle.rv_machine.proofs.Made.{counted-is}
use Rattle.rv_keep.specs.Hosts.{Host, with_hart, to_poll}
use Rattle.rv_keep.proofs.StepCounts.{Counts, step-counts}
use Rattle.rv_host.specs.declared.host_state.HostState.{HostState}
use Rattle.rv_host.specs.HostStates.{host_of}
use Rattle.rv_host.proofs.Onward.{GoesOnward}
use Rattle.rv_host.proofs.Ways.{step-done}

-- steps that are done are counted
comes-counts : (k : ℕ) (h g : Hart) → Comes k h g → g.steps ≡ h.steps + k
comes-counts zero h g e = let n : h.steps ≡ g.steps = ap (λ (x : Hart). x.steps) e in omega (arith, n)
comes-counts (suc k) h g (m, e, rest) =
    let first : m.steps ≡ h.steps + 1 = subst (Counts h) e (step-counts h) in
    let others = comes-counts k m g rest in
    omega (arith, first, others)

-- steps that are done lead on
steps-done : (k n : ℕ) (s : Host) (g : Hart) → Comes k s.hart g → to_poll (k + n) s ≡ to_poll n (with_hart s g)
steps-done zero n s g e =
    let plain : 0 + n ≡ n = omega arith in
    ap (λ (i : ℕ). to_poll i s) plain ∙ ap (λ (h : Hart). to_poll n (with_hart s h)) e
steps-done (suc k) n s g (m, e, rest) =
    let one-more : suc k + n ≡ suc (k + n) = omega arith in
    ap (λ (i : ℕ). to_poll i s) one-more ∙ (step-done (k + n) s m e ∙ steps-done k n (with_hart s m) g rest)

-- so does the way to the poll, with those fewer left
pub onward-far : (most left : ℕ) (old state : HostState) (hart hart' : Hart) → GoesOnward most left old state hart hart' → (done : ℕ) (g : Hart)
    → done ≤ left → Comes done hart' g → GoesOnward most (left - done) old state hart g
onward-far most left old state hart hart' come done g within comes order printed live are =
    let c = come order printed live are in
    let u = host_of state hart' order printed c.live in
    let split : left ≡ done + (left - done) = omega (arith, within) in
    record {
      live = c.live;
      are_live = c.are_live;
      goes = c.goes ∙ (ap (λ (k : ℕ). to_poll k u) split ∙ steps-done done (left - done) u g comes);
      pending = c.pending;
    }

-- ---- the three ends of a run of at most so many steps

-- all were done
pub record AllDone (left done : ℕ) (hart new : Hart) : Type 0 where
  pub comes : Comes left hart new
  pub steps : new.steps ≡ hart.steps + left

-- so many were, and the next called the host
pub record HasCalled (left done : ℕ) (hart new : Hart) : Type 0 where
  pub less : done < left
  pub before : Hart
  pub comes : Comes done hart before
  pub called : hart_step before ≡ Called new
  pub steps : new.steps ≡ hart.steps + done + 1

-- so many were, and the next trapped
pub record HasTrapped (left done : ℕ) (hart new : Hart) (pc : ℕ) (cause : TrapCause) : Type 0 where
  pub less : done < left
  pub comes : Comes done hart new
  pub trapped : hart_step new ≡ Trapped pc cause
  pub steps : new.steps ≡ hart.steps + done

module _ (left done : ℕ) (hart new : Hart) (room : hart.steps + left < 2 ^ 64) where
  -- where the last was done
  run-done : IsRun left hart new done Is_done → AllDone left done hart new
  run-done (all, (g, comes, new_is)) =
      let far : Comes left hart g = subst (λ (n : ℕ). Comes n hart g) all comes in
      let count = comes-counts left hart g far in
      let is : new ≡ g = new_is ∙ counted-is g (omega (arith, count, room)) in
      record { comes = subst (Comes left hart) (sym is) far; steps = ap (λ (x : Hart). x.steps) is ∙ count }

  -- where it called
  run-calls : IsRun left hart new done Ecall → HasCalled left done hart new
  run-calls (less, (g, (m, comes, called), new_is)) =
      let count = comes-counts done hart m comes in
      let one : g.steps ≡ m.steps + 1 = subst (Counts m) called (step-counts m) in
      let is : new ≡ g = new_is ∙ counted-is g (omega (arith, count, one, less, room)) in
      let same : new.steps ≡ g.steps = ap (λ (x : Hart). x.steps) is in
      record {
        less = less;
        before = m;
        comes = comes;
        called = called ∙ ap Called (sym is);
        steps = omega (arith, same, one, count);
      }

  -- where it trapped
  run-traps : (pc : ℕ) (cause : TrapCause) → IsRun left hart new done (Trap pc cause) → HasTrapped left done hart new pc cause
  run-traps pc cause (less, (g, comes, trapped, new_is)) =
      let count = comes-counts done hart g comes in
      let is : new ≡ g = new_is ∙ counted-is g (omega (arith, count, less, room)) in
      record {
        less = less;
        comes = subst (Comes done hart) (sym is) comes;
        trapped = ap hart_step is ∙ trapped;
        steps = ap (λ (x : Hart). x.steps) is ∙ count;
      }

  -- by the last answer
  pub all-done : (last : RvStep) → IsRun left hart new done last → last ≡ Is_done → AllDone left done hart new
  all-done last run is = run-done (subst (IsRun left hart new done) is run)

  pub has-called : (last : RvStep) → IsRun left hart new done last → last ≡ Ecall → HasCalled left done hart new
  has-called last run is = run-calls (subst (IsRun left hart new done) is run)

  pub has-trapped : (last : RvStep) (pc : ℕ) (cause : TrapCause) → IsRun left hart new done last → last ≡ Trap pc cause
      → HasTrapped left done hart new pc cause
  has-trapped last pc cause run is = run-traps pc cause (subst (IsRun left hart new done) is run)
