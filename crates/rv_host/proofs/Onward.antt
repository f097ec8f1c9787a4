-- The way to the poll so far, and what comes of it with what is left.
use Rattle.std.proofs.Common.{◌≡◌, ◌∙◌, ℕ, suc, ◌-◌, ◌<◌, ◌≤◌, true, false, List, length, Ok, Err, ap, arith}
use Rattle.tam_msgs.specs.declared.item.Item.{Item}
use Rattle.tam_msgs.specs.declared.stop.Stop.TheVariants.{DoubleWrite, OutOfRange, FramesFull, CellsFull, BudgetSpent, NoMemory}
use Rattle.rv_inst.specs.declared.trap_cause.TrapCause.TheVariants.{NoPoll}
use Rattle.rv_inst.specs.Harts.{Hart}
use Rattle.rv_keep.specs.Hosts.{Host, Reached, to_poll}
use Rattle.rv_host.specs.declared.host_state.HostState.{HostState}
use Rattle.rv_host.specs.declared.stop_rv.StopRv.{StopRv}
use Rattle.rv_host.specs.declared.stop_rv.StopRv.TheVariants.{Stop as Stops, Wild as Goes_wild, Trap as Traps}
use Rattle.rv_host.specs.LiveFrames.{AreLive}
use Rattle.rv_host.specs.HostStates.{host_of}
use Rattle.rv_host.specs.HostEvents.{Arrives, StepsOnce, Reaches}

-- the way leads to the same from where it has come, with what is left of the instructions
pub record HasCome (n left : ℕ) (s : Host) (state : HostState) (hart : Hart) : Type 0 where
  pub live : List ℕ
  pub are_live : AreLive state.numbers live
  pub goes : to_poll n s ≡ to_poll left (host_of state hart s.order s.printed live)
  pub pending : length s.pending ≤ length state.pending.messages

-- whatever the caller keeps
abbrev pub GoesOnward : ℕ → ℕ → HostState → HostState → Hart → Hart → Type 0
GoesOnward n left old state hart hart' =
    (order : List Item) (printed : List (ℕ × ℕ)) (live : List ℕ) → AreLive old.numbers live → HasCome n left (host_of old hart order printed live) state hart'

-- where memory is wanted, a message was sent on the whole way
arrives-behind : (r q : Reached) (s u t : Host) (stop : StopRv) → r ≡ q → length s.pending ≤ length u.pending → Arrives q u t (Err stop)
    → Arrives r s t (Err stop)
arrives-behind r q s u t (Goes_wild what k) e l a = e ∙ a
arrives-behind r q s u t (Traps pc cause) e l a = e ∙ a
arrives-behind r q s u t (Stops NoMemory) e l a = rw e (omega (arith, l, a))
arrives-behind r q s u t (Stops (DoubleWrite x y)) e l a = absurd a
arrives-behind r q s u t (Stops (OutOfRange x y k)) e l a = absurd a
arrives-behind r q s u t (Stops (FramesFull k)) e l a = absurd a
arrives-behind r q s u t (Stops (CellsFull x y)) e l a = absurd a
arrives-behind r q s u t (Stops (BudgetSpent k)) e l a = absurd a

module _ (n left : ℕ) (old state new : HostState) (hart hart' hart'' : Hart) (some : 0 < left) (come : GoesOnward n left old state hart hart') where
  -- of what is left one instruction is made
  one-less : left ≡ suc (left - 1)
  one-less = omega (arith, some)

  -- a step that goes on
  pub onward-step : StepsOnce state new hart' hart'' (Ok false) → length state.pending.messages ≤ length new.pending.messages
      → GoesOnward n (left - 1) old new hart hart''
  onward-step step more order printed live are =
      let s = host_of old hart order printed live in
      let c = come order printed live are in
      let u = host_of state hart' order printed c.live in
      let l = step (left - 1) order printed c.live c.are_live in
      record {
        live = l.live;
        are_live = l.are_live;
        goes = c.goes ∙ (ap (λ (k : ℕ). to_poll k u) one-less ∙ l.leads);
        pending = omega (arith, c.pending, more);
      }

  -- one that is at a poll
  pub onward-polls : StepsOnce state new hart' hart'' (Ok true) → Reaches n old new hart hart'' (Ok tt)
  onward-polls step order printed live are =
      let c = come order printed live are in
      let u = host_of state hart' order printed c.live in
      let l = step (left - 1) order printed c.live c.are_live in
      record { live = l.live; are_live = l.are_live; arrives = c.goes ∙ (ap (λ (k : ℕ). to_poll k u) one-less ∙ l.leads) }

  -- one that stops
  pub onward-stops : (stop : StopRv) → StepsOnce state new hart' hart'' (Err stop) → Reaches n old new hart hart'' (Err stop)
  onward-stops stop step order printed live are =
      let s = host_of old hart order printed live in
      let c = come order printed live are in
      let u = host_of state hart' order printed c.live in
      let l = step (left - 1) order printed c.live c.are_live in
      record {
        live = l.live;
        are_live = l.are_live;
        arrives =
            arrives-behind (to_poll n s) (to_poll (suc (left - 1)) u) s u (host_of new hart'' order printed l.live) stop
            (c.goes ∙ ap (λ (k : ℕ). to_poll k u) one-less) c.pending l.leads;
      }

-- where no instruction is left, no poll came in time
pub onward-ends : (n left : ℕ) (old state : HostState) (hart hart' : Hart) → left ≡ 0 → GoesOnward n left old state hart hart'
    → Reaches n old state hart hart' (Err (Traps hart'.pc NoPoll))
onward-ends n left old state hart hart' none come order printed live are =
    let c = come order printed live are in
    record { live = c.live; are_live = c.are_live; arrives = c.goes ∙ ap (λ (k : ℕ). to_poll k (host_of state hart' order printed c.live)) none }
