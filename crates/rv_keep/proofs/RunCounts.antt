-- The counts of the run of any image: the instructions of the way to a poll, and the events within the budget.
use Rattle.std.proofs.Common.{◌≡◌, ℕ, zero, suc, ◌+◌, ◌*◌, ◌^◌, ◌<◌, ◌≤◌, ◌==◌, Bool, true, false, nat_lt, not, List, [], ◌∷◌, ◌++◌, Option, Some, None}
use Rattle.std.proofs.Common.{slice_get, length, refl, sym, ap, subst, ◌∙◌, arith}
use Rattle.tam_word.specs.Lists.{has, any_of, without_place}
use Rattle.tam_word.proofs.Tests.{number-differs}
use Rattle.tam_msgs.specs.declared.message.Message.{Message}
use Rattle.tam_msgs.specs.declared.message.Message.TheVariants.{Word as Carry, Frame as Begin, Cells as Make, Fetch as Ask_cell, Store as Put_cell}
use Rattle.tam_msgs.specs.declared.limits.Limits.{Limits}
use Rattle.tam_msgs.specs.declared.item.Item.{Item}
use Rattle.tam_msgs.specs.declared.choice.Choice.{Choice}
use Rattle.tam_msgs.specs.declared.choice.Choice.TheVariants.{Quiet as Choose_quiet, Run as Choose_run, Deliver as Choose_delivery}
use Rattle.tam_msgs.specs.Messages.{outside}
use Rattle.tam_msgs.specs.Runs.{End, Budget_spent, Outcome, Next, Ended, choice, and_then, after_events, run_from}
use Rattle.tam_istr.specs.Cells.{Access, Now, Deferred, Stored, Twice, NotBelow, NoArray, cells_used, fetched_from, stored_into}
use Rattle.rv_inst.specs.Images.{Image}
use Rattle.rv_inst.specs.Harts.{Hart, Step, Done, Called, Trapped, reg}
use Rattle.rv_inst.specs.Execution.{hart_step}
use Rattle.rv_keep.specs.Hosts.{Host, Reached, At_poll, Stopped, with_hart, with_given, sent_by, silent, to_poll}
use Rattle.rv_keep.specs.HostRuns.{chosen, delivered, delivered_at, printed_outside, accessed, counted, at_poll, host_step, host_opening}
use Rattle.rv_keep.specs.MachineLaws.{poll_of}
use Rattle.rv_keep.specs.StepLaws.{image_after, poll_behind, host_at, host_left, HasCounted, PollsHaveCounted, RunsHaveCounted, CounterSuffices}
use Rattle.rv_keep.proofs.StepCounts.{Counts, step-counts}

-- ---- runs of any steps

-- the run goes on in a state as those before an event, or ends in one as those behind it
abbrev Leads : {S : Type 0} → (S → Type 0) → (S → Type 0) → Outcome S → Type 0
Leads before behind (Next t) = before t
Leads before behind (Ended how t) = behind t

module _ {S : Type 0} (step : S → Outcome S) (before behind : S → Type 0) (leads : (s : S) → before s → Leads before behind (step s)) where
  -- so do n events
  events-lead : (n : ℕ) (s : S) → before s → Leads before behind (after_events step n s)
  events-lead zero s b = b
  events-lead (suc n) s b = go (step s) (leads s b) (λ t c. events-lead n t c)
    where
      go : (o : Outcome S) → Leads before behind o → ((t : S) → before t → Leads before behind (after_events step n t))
          → Leads before behind (and_then o (after_events step n))
      go (Next t) h on = on t h
      go (Ended how t) h on = h

  -- a whole run leaves a state as those behind an event
  run-leads : ((s : S) → before s → behind s) → (n : ℕ) (s : S) → before s → behind (run_from step n s).1
  run-leads last zero s b = go (step s) refl (leads s b)
    where
      go : (o : Outcome S) → step s ≡ o → Leads before behind o → behind (run_from step zero s).1
      go (Next t) q h = let a : run_from step zero s ≡ (Budget_spent 0, t) = rw (run_from, q) refl in subst (λ (x : End × S). behind x.1) (sym a) (last t h)
      go (Ended how t) q h = let a : run_from step zero s ≡ (how, t) = rw (run_from, q) refl in subst (λ (x : End × S). behind x.1) (sym a) h
  run-leads last (suc n) s b = go (step s) refl (leads s b) (λ t c. run-leads last n t c)
    where
      go : (o : Outcome S) → step s ≡ o → Leads before behind o → ((t : S) → before t → behind (run_from step n t).1)
          → behind (run_from step (suc n) s).1
      go (Next t) q h on =
          let a : run_from step (suc n) s ≡ run_from step n t = rw (run_from, q) refl in subst (λ (x : End × S). behind x.1) (sym a) (on t h)
      go (Ended how t) q h on = let a : run_from step (suc n) s ≡ (how, t) = rw (run_from, q) refl in subst (λ (x : End × S). behind x.1) (sym a) h

-- ---- the way to a poll

-- no more instructions than are allowed were carried out on the way, and no event was made
record IsReached (most : ℕ) (s : Host) (r : Reached) : Type 0 where
  pub steps : (host_at r).hart.steps ≤ s.hart.steps + most
  pub events : (host_at r).events ≡ s.events

module _ (n : ℕ) (s : Host) (rest : (t : Host) → IsReached n t (to_poll n t)) where
  -- the way ends behind one step
  way-ends : (t : Host) (r : Reached) → host_at r ≡ t → t.hart.steps ≡ s.hart.steps + 1 → t.events ≡ s.events → IsReached (suc n) s r
  way-ends t r a c e =
      let b : (host_at r).hart.steps ≡ t.hart.steps = ap (λ (x : Host). x.hart.steps) a in
      record { steps = omega (arith, b, c); events = ap (λ (x : Host). x.events) a ∙ e }

  -- or goes on
  way-goes : (t : Host) → t.hart.steps ≡ s.hart.steps + 1 → t.events ≡ s.events → IsReached (suc n) s (to_poll n t)
  way-goes t c e = let w = rest t in let a = w.steps in record { steps = omega (arith, a, c); events = w.events ∙ e }

  -- behind a call that sends nothing
  silent-counts : (g : Hart) (call : ℕ) → hart_step s.hart ≡ Called g → g.steps ≡ s.hart.steps + 1 → reg g 17 ≡ suc call → sent_by (suc call) g ≡ []
      → IsReached (suc n) s (to_poll (suc n) s)
  silent-counts g call e c r m = go (suc call == 6) refl (has s.live (reg g 10)) refl
    where
      go : (t : Bool) → (suc call == 6) ≡ t → (b : Bool) → has s.live (reg g 10) ≡ b → IsReached (suc n) s (to_poll (suc n) s)
      go false q b l = rw (to_poll, e) (rw (r, m) (rw (silent, q) (way-ends (with_hart s g) _ refl c refl)))
      go true q false l = rw (to_poll, e) (rw (r, m) (rw (silent, q, l) (way-ends (with_hart s g) _ refl c refl)))
      go true q true l = rw (to_poll, e) (rw (r, m) (rw (silent, q, l) (way-goes (with_given s g (reg g 10)) c refl)))

  -- behind a call
  called-counts : (g : Hart) → hart_step s.hart ≡ Called g → g.steps ≡ s.hart.steps + 1 → (call : ℕ) → reg g 17 ≡ call → (ms : List Message)
      → sent_by call g ≡ ms → IsReached (suc n) s (to_poll (suc n) s)
  called-counts g e c zero r ms m = rw (to_poll, e) (rw (r) (way-ends (with_hart s g) _ refl c refl))
  called-counts g e c (suc call) r [] m = silent-counts g call e c r m
  called-counts g e c (suc call) r (x ∷ xs) m = rw (to_poll, e) (rw (r, m) (way-goes (record s { hart = g; pending = s.pending ++ x ∷ [] }) c refl))

  -- behind a step
  way-counts : (x : Step) → hart_step s.hart ≡ x → Counts s.hart x → IsReached (suc n) s (to_poll (suc n) s)
  way-counts (Done g) e c = rw (to_poll, e) (way-goes (with_hart s g) c refl)
  way-counts (Called g) e c = called-counts g e c (reg g 17) refl (sent_by (reg g 17) g) refl
  way-counts (Trapped pc cause) e c = rw (to_poll, e) (record { steps = omega arith; events = refl })

-- and so on the whole way
to_poll-counts : (n : ℕ) (s : Host) → IsReached n s (to_poll n s)
to_poll-counts zero s = record { steps = omega arith; events = refl }
to_poll-counts (suc n) s = way-counts n s (λ t. to_poll-counts n t) (hart_step s.hart) refl (step-counts s.hart)

-- ---- an event

-- so many instructions and events are counted
abbrev Keeps : ℕ → ℕ → Outcome Host → Type 0
Keeps n e (Next t) = (t.hart.steps ≡ n) × (t.events ≡ e)
Keeps n e (Ended how t) = (t.hart.steps ≡ n) × (t.events ≡ e)

-- whatever a test says
either : (n e : ℕ) (t : Bool) (a b : Outcome Host) → Keeps n e a → Keeps n e b → Keeps n e (elim t [ true ↦ a | false ↦ b ])
either n e true a b p q = p
either n e false a b p q = q

-- a word goes outside
printed-keeps : (image : Image) (s : Host) (k w : ℕ) → Keeps s.hart.steps s.events (printed_outside image s k w)
printed-keeps image s k w = either s.hart.steps s.events (nat_lt k image.results) _ _
    (either s.hart.steps s.events (any_of (λ kw. kw.0 == k) s.printed) _ _ (refl, refl) (refl, refl)) (refl, refl)

-- an access
accessed-keeps : (s : Host) (site a i w : ℕ) (reader : ℕ × ℕ) (x : Access) → Keeps s.hart.steps s.events (accessed s site a i reader w x)
accessed-keeps s site a i w reader (Now u) = (refl, refl)
accessed-keeps s site a i w reader (Deferred arrays) = (refl, refl)
accessed-keeps s site a i w reader (Stored arrays readers) = (refl, refl)
accessed-keeps s site a i w reader (Twice first) = (refl, refl)
accessed-keeps s site a i w reader (NotBelow n) = (refl, refl)
accessed-keeps s site a i w reader NoArray = (refl, refl)

-- a delivery
delivered-keeps : (image : Image) (limits : Limits) (s : Host) (m : Message) → Keeps s.hart.steps s.events (delivered image limits s m)
delivered-keeps image limits s (Carry f i w) = either s.hart.steps s.events (f == outside) _ _ (printed-keeps image s i w)
    (either s.hart.steps s.events (has s.live f) _ _ (refl, refl) (refl, refl))
delivered-keeps image limits s (Begin c f i) = either s.hart.steps s.events (length s.live == limits.frames) _ _ (refl, refl) (refl, refl)
delivered-keeps image limits s (Make n f i) =
    either s.hart.steps s.events (nat_lt limits.cells (cells_used s.arrays + n)) _ _ (refl, refl) (refl, refl)
delivered-keeps image limits s (Ask_cell a i f x site) = accessed-keeps s site a i 0 (f, x) (fetched_from s.arrays a i (f, x))
delivered-keeps image limits s (Put_cell a i w site) = accessed-keeps s site a i w (0, 0) (stored_into s.arrays a i w site)

-- at a place
delivered_at-keeps : (image : Image) (limits : Limits) (s : Host) (k : ℕ) (o : Option Message)
    → Keeps s.hart.steps s.events (delivered_at image limits s k o)
delivered_at-keeps image limits s k None = (refl, refl)
delivered_at-keeps image limits s k (Some m) = delivered-keeps image limits (record s { pending = without_place k s.pending }) m

-- ---- before an event and behind it

-- no more instructions than may be carried out without a poll, for each event; and no more events than the budget
record IsBefore (limits : Limits) (s : Host) : Type 0 where
  pub steps : s.hart.steps ≤ 16777216 * s.events
  pub events : s.events ≤ limits.budget

-- the run goes on so, or its end has counted
abbrev IsOnward : Limits → Outcome Host → Type 0
IsOnward limits o = Leads (IsBefore limits) (HasCounted limits) o

-- a number that isn't the budget is below it
below-budget : (n m : ℕ) → n ≤ m → (n == m) ≡ false → n + 1 ≤ m
below-budget n m l e = let d = number-differs n m e in omega (arith, l, d)

-- an event that was counted
made-onward : (limits : Limits) (s : Host) → HasCounted limits s → s.events + 1 ≤ limits.budget → (o : Outcome Host) → Keeps s.hart.steps (s.events + 1) o
    → IsOnward limits o
made-onward limits s h l (Next t) k =
    let a = k.0 in let b = k.1 in let c = h.steps in record { steps = omega (arith, a, b, c); events = omega (arith, b, l) }
made-onward limits s h l (Ended how t) k =
    let a = k.0 in let b = k.1 in let c = h.steps in record { steps = omega (arith, a, b, c); events = omega (arith, b, l) }

-- what is chosen
chosen-onward : (image : Image) (limits : Limits) (s : Host) (c : Choice × List Item) → HasCounted limits s → IsOnward limits (chosen image limits s c)
chosen-onward image limits s (Choose_quiet, rest) h = h
chosen-onward image limits s (Choose_run, rest) h = go (s.events == limits.budget) refl
  where
    go : (t : Bool) → (s.events == limits.budget) ≡ t → IsOnward limits (chosen image limits s (Choose_run, rest))
    go true e = rw (chosen, e) h
    go false e = rw (chosen, e) (let c = h.steps in let l = below-budget s.events limits.budget h.events e in record { steps = omega (arith, c); events = l })
chosen-onward image limits s (Choose_delivery k, rest) h = go (s.events == limits.budget) refl
  where
    go : (t : Bool) → (s.events == limits.budget) ≡ t → IsOnward limits (chosen image limits s (Choose_delivery k, rest))
    go true e = rw (chosen, e) h
    go false e = rw (chosen, e)
        (made-onward limits s h (below-budget s.events limits.budget h.events e) (delivered_at image limits (counted s rest) k (slice_get s.pending k))
        (delivered_at-keeps image limits (counted s rest) k (slice_get s.pending k)))

-- the host at a poll that is reached
reached-counted : (limits : Limits) (s t : Host) → IsBefore limits s → t.hart.steps ≤ s.hart.steps + 16777216 → t.events ≡ s.events → HasCounted limits t
reached-counted limits s t b l e = let y = b.steps in let z = b.events in record { steps = omega (arith, l, e, y); events = omega (arith, e, z) }

-- the poll that comes next
poll-counted : (limits : Limits) (s : Host) → IsBefore limits s → HasCounted limits (host_at (to_poll 16777216 s))
poll-counted limits s b =
    reached-counted limits s (host_at (to_poll 16777216 s)) b (to_poll-counts 16777216 s).steps (to_poll-counts 16777216 s).events

-- one event
step-onward : (image : Image) (limits : Limits) (s : Host) → IsBefore limits s → IsOnward limits (host_step image limits s)
step-onward image limits s b = go (to_poll 16777216 s) (poll-counted limits s b)
  where
    go : (r : Reached) → HasCounted limits (host_at r) → IsOnward limits (at_poll image limits r)
    go (At_poll t) h = chosen-onward image limits t (choice t.order (not (reg t.hart 10 == 0)) (length t.pending)) h
    go (Stopped how t) h = h

-- behind events the poll has counted
outcome-counted : (limits : Limits) (o : Outcome Host) → IsOnward limits o → HasCounted limits (host_at (poll_of o))
outcome-counted limits (Next t) b = poll-counted limits t b
outcome-counted limits (Ended how t) h = h

-- and so has the state before it
before-counted : (limits : Limits) (t : Host) → IsBefore limits t → HasCounted limits t
before-counted limits t b = let x = b.steps in record { steps = omega (arith, x); events = b.events }

-- ---- the laws

-- at the start nothing is counted
opening-before : (image : Image) (args : List ℕ) (order : List Item) (limits : Limits) → IsBefore limits (host_opening image args order limits)
opening-before image args order limits = record { steps = omega arith; events = omega arith }

-- at each poll, and as each end leaves it
pub polls-counted : PollsHaveCounted
polls-counted image args order limits n =
    outcome-counted limits (image_after image args order limits n)
    (events-lead (host_step image limits) (IsBefore limits) (HasCounted limits) (step-onward image limits) n (host_opening image args order limits)
    (opening-before image args order limits))

-- as the whole run leaves it
pub runs-counted : RunsHaveCounted
runs-counted image args order limits =
    run-leads (host_step image limits) (IsBefore limits) (HasCounted limits) (step-onward image limits) (before-counted limits) limits.budget
    (host_opening image args order limits) (opening-before image args order limits)

-- what has counted within a budget of a word
counter-suffices : (limits : Limits) (s : Host) → limits.budget < 2 ^ 32 → HasCounted limits s → s.hart.steps < 2 ^ 64
counter-suffices limits s l h = let a = h.steps in let b = h.events in omega (arith, a, b, l)

-- so the count never comes to where it would stay
pub steps-exact : CounterSuffices
steps-exact image args order limits n ranges = (
  counter-suffices limits (host_at (poll_behind image args order limits n)) ranges.budget (polls-counted image args order limits n),
  counter-suffices limits (host_left image args order limits) ranges.budget (runs-counted image args order limits),
)
