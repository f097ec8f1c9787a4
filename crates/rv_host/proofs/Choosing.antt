-- What the event at a poll is, by what was chosen, and the answer of the way to the poll with it.
use Rattle.std.proofs.Common.{◌≡◌, ◌∙◌, ℕ, ◌+◌, ◌==◌, not, Bool, false, List, length, refl, sym, ap, None, Result, Ok, Err}
use Rattle.std.specs.Prelude.{slice_get}
use Rattle.tam_msgs.specs.declared.limits.Limits.{Limits}
use Rattle.tam_msgs.specs.declared.item.Item.{Item}
use Rattle.tam_msgs.specs.declared.step.Step.{Step as Made}
use Rattle.tam_msgs.specs.declared.step.Step.TheVariants.{Ran, Delivered, Printed, Quiet as Made_quiet}
use Rattle.tam_msgs.specs.declared.stop.Stop.TheVariants.{DoubleWrite, OutOfRange, FramesFull, CellsFull, BudgetSpent, NoMemory}
use Rattle.tam_msgs.specs.declared.choice.Choice.{Choice}
use Rattle.tam_msgs.specs.declared.choice.Choice.TheVariants.{Run as Choose_run, Deliver as Choose_delivery}
use Rattle.tam_msgs.specs.Runs.{choice, Outcome, Next, Ended}
use Rattle.tam_istr.specs.Cells.{Arrays}
use Rattle.rv_inst.specs.Images.{Image}
use Rattle.rv_inst.specs.Harts.{reg, with_reg}
use Rattle.rv_keep.specs.Hosts.{Host, At_poll, with_hart}
use Rattle.rv_keep.specs.HostRuns.{at_poll, chosen, counted, delivered_at}
use Rattle.rv_host.specs.declared.host_state.HostState.{HostState}
use Rattle.rv_host.specs.declared.stop_rv.StopRv.{StopRv}
use Rattle.rv_host.specs.declared.stop_rv.StopRv.TheVariants.{Stop as Stops, Wild as Goes_wild, Trap as Traps}
use Rattle.rv_host.specs.HostStates.{beside_of}
use Rattle.rv_host.specs.HostEvents.{MayWant, IsOutcome, IsCounted, ended_by}

module _ (image : Image) (limits : Limits) (s : Host) (rest : List Item) (unspent : (s.events == limits.budget) ≡ false) where
  -- a thread is to run
  pub event-run : choice s.order (not (reg s.hart 10 == 0)) (length s.pending) ≡ (Choose_run, rest)
      → at_poll image limits (At_poll s) ≡ Next (with_hart (counted s rest) (with_reg s.hart 10 1))
  event-run e = rw (e, chosen, unspent) refl

  -- a message is delivered
  pub event-deliver : (k : ℕ) → choice s.order (not (reg s.hart 10 == 0)) (length s.pending) ≡ (Choose_delivery k, rest)
      → at_poll image limits (At_poll s) ≡ delivered_at image limits (counted s rest) k (slice_get s.pending k)
  event-deliver k e = rw (e, chosen, unspent) refl

-- what was chosen is what the definition chooses
pub chosen-is : (s : Host) (ready : Bool) (count : ℕ) → ready ≡ not (reg s.hart 10 == 0) → count ≡ length s.pending → (chosen : Choice × List Item)
    → chosen ≡ choice s.order ready count → choice s.order (not (reg s.hart 10 == 0)) (length s.pending) ≡ chosen
chosen-is s ready count ready_is count_is chosen is =
    sym (is ∙ ap (λ (b : Bool). choice s.order b count) ready_is ∙ ap (choice s.order (not (reg s.hart 10 == 0))) count_is)

-- where memory isn't wanted for a message on the way, it may be wanted for one
may-want : (sends : Type 0) (o : Outcome Host) → MayWant ⊥ o → MayWant sends o
may-want sends (Next s) p = tt
may-want sends (Ended how s) p = absurd p

-- the answer at the poll is the answer of the way and the event
pub outcome-behind : (sends : Type 0) (o : Outcome Host) (t : Host) (r : Result Made StopRv) → IsOutcome ⊥ o t r → IsOutcome sends o t r
outcome-behind sends o t (Ok Ran) p = p
outcome-behind sends o t (Ok Delivered) p = p
outcome-behind sends o t (Ok (Printed k w)) p = p
outcome-behind sends o t (Ok Made_quiet) p = p
outcome-behind sends o t (Err (Stops (DoubleWrite x y))) p = p
outcome-behind sends o t (Err (Stops (OutOfRange x y n))) p = p
outcome-behind sends o t (Err (Stops (FramesFull n))) p = p
outcome-behind sends o t (Err (Stops (CellsFull x y))) p = p
outcome-behind sends o t (Err (Stops (BudgetSpent n))) p = p
outcome-behind sends o t (Err (Stops NoMemory)) p = may-want sends o p
outcome-behind sends o t (Err (Goes_wild what n)) p = p
outcome-behind sends o t (Err (Traps pc cause)) p = p

-- what the way leaves as it was
abbrev Beside : Type 0
Beside = ℕ × Arrays × ℕ × List Bool × ℕ

-- what was printed, with its marks
pub printed-beside : (old new : HostState) → beside_of new ≡ beside_of old → new.printed.items ≡ old.printed.items
printed-beside old new same = ap (λ (b : Beside). b.3) same

-- where the run goes on, an event more was made
pub counted-more : (old new : ℕ) (r : Result Made StopRv) → IsCounted old new r → ended_by r ≡ None → new ≡ old + 1
counted-more old new (Ok Ran) c e = c
counted-more old new (Ok Delivered) c e = c
counted-more old new (Ok (Printed k w)) c e = c
counted-more old new (Ok Made_quiet) c e = absurd cc
counted-more old new (Err stop) c e = absurd cc
