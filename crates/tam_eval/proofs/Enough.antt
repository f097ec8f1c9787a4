-- Where the live activations and the one asked for are within the stated count at each delivery of a wish, none is refused.
use Rattle.std.proofs.Common.{◌≡◌, ℕ, zero, suc, ◌+◌, Bool, true, false, ◌==◌, List, [], ◌∷◌, Option, Some, None, slice_get, length, nat_lt, refl, sym, ap}
use Rattle.std.proofs.Common.{◌∙◌, arith, inl, inr, ◌⊎◌}
use Rattle.tam_word.proofs.Tests.{number-eq}
use Rattle.tam_msgs.specs.declared.message.Message.{Message}
use Rattle.tam_msgs.specs.declared.message.Message.TheVariants.{Word as Carry, Frame as Begin, Cells as Make, Fetch as Ask_cell, Store as Put_cell}
use Rattle.tam_msgs.specs.declared.limits.Limits.{Limits}
use Rattle.tam_msgs.specs.declared.item.Item.{Item}
use Rattle.tam_msgs.specs.declared.choice.Choice.{Choice}
use Rattle.tam_msgs.specs.declared.choice.Choice.TheVariants.{Quiet as Choose_quiet, Run as Choose_run, Deliver as Choose_delivery}
use Rattle.tam_msgs.specs.Runs.{choice, End, Quiet, Budget_spent, Frames_full, Cells_full, Outcome, Next, Ended, run_from, after_events}
use Rattle.tam_istr.specs.Cells.{cells_used}
use Rattle.tam_graph.specs.Graphs.{Graph}
use Rattle.tam_world.specs.Worlds.{Delivery, Went, Printed, Faulted, Second_store, Outside_cells, delivered}
use Rattle.tam_eval.specs.GraphRuns.{GraphState, graph_step, graph_opening, chosen, fired_first, delivered_at, delivered_unless, after_delivery}
use Rattle.tam_eval.specs.GraphRuns.{counted, refusal, live_activations, some_ready}
use Rattle.tam_eval.specs.GraphLaws.{is_wish, delivers_wish, EnoughIsNotRefused}

-- ---- the end of a run

-- a run ends by a step from a state that it reaches, or its budget is 0
abbrev pub EndsAt : {S : Type 0} → (S → Outcome S) → S → End × S → Type 0
EndsAt {S} step s e = ((k : ℕ) × (t : S) × (after_events step k s ≡ Next t) × (step t ≡ Ended e.0 e.1)) ⊎ (e.0 ≡ Budget_spent 0)

-- each does
pub run-ends_at : {S : Type 0} (step : S → Outcome S) (n : ℕ) (s : S) → EndsAt step s (run_from step n s)
run-ends_at step zero s = go (step s) refl
  where
    go : (o : Outcome _) → step s ≡ o → EndsAt step s (run_from step zero s)
    go (Next d) e = inr (rw (run_from, e) refl)
    go (Ended how d) e = inl (0, s, refl, rw (run_from, e) refl)
run-ends_at step (suc n) s = go (step s) refl (run-ends_at step n)
  where
    go : (o : Outcome _) → step s ≡ o → ((d : _) → EndsAt step d (run_from step n d)) → EndsAt step s (run_from step (suc n) s)
    go (Ended how d) e rest = inl (0, s, refl, rw (run_from, e) refl)
    go (Next d) e rest = later (rest d)
      where
        later : EndsAt step d (run_from step n d) → EndsAt step s (run_from step (suc n) s)
        later (inl (k, t, there, ends)) = inl (suc k, t, rw (after_events, e) there, rw (run_from, e) ends)
        later (inr spent) = inr (rw (run_from, e) spent)

-- ---- the step that refuses an activation

module _ (g : Graph) (limits : Limits) (s : GraphState) (n : ℕ) (d : GraphState) where
  -- the event was the delivery of a wish, and as many are live as may be
  abbrev IsFull : Choice × List Item → Type 0
  IsFull c = (delivers_wish s c ≡ true) × (live_activations g s ≡ limits.frames)

  -- no other end
  not-full : {h : End} {t : GraphState} → Ended h t ≡ Ended (Frames_full n) d → h ≡ Frames_full n
  not-full e = cc

  -- nor going on
  not-ended : {t : GraphState} → Next t ≡ Ended (Frames_full n) d → ⊥
  not-ended e = cc

  -- by what is refused
  refused-full : (rest : List Item) (k : ℕ) (m : Message) (t : GraphState) → slice_get s.pending k ≡ Some m → (ends : List End)
      → refusal g limits (counted s rest) m ≡ ends → delivered_unless g t m ends ≡ Ended (Frames_full n) d → IsFull (Choose_delivery k, rest)
  refused-full rest k m t at [] is e = absurd (delivery (delivered t.world m) e)
    where
      delivery : (x : Delivery) → after_delivery g t x ≡ Ended (Frames_full n) d → ⊥
      delivery (Went f) q = not-ended q
      delivery (Printed p v) q = not-ended q
      delivery (Faulted (Second_store a b)) q = cc
      delivery (Faulted (Outside_cells a i l)) q = cc
  refused-full rest k (Begin c f x) t at (h ∷ more) is e = go (live_activations g s == limits.frames) refl
    where
      go : (b : Bool) → (live_activations g s == limits.frames) ≡ b → IsFull (Choose_delivery k, rest)
      go true p = (ap is_wish at, number-eq (live_activations g s) limits.frames p)
      go false p = absurd (none (rw (refusal, p) at is))
        where
          none : [] ≡ h ∷ more → ⊥
          none q = cc
  refused-full rest k (Make l f x) t at (h ∷ more) is e = go (nat_lt limits.cells (cells_used s.world.arrays + l)) refl
    where
      go : (b : Bool) → nat_lt limits.cells (cells_used s.world.arrays + l) ≡ b → IsFull (Choose_delivery k, rest)
      go true p = absurd (other (rw (refusal, p) at is) (not-full e))
        where
          other : {u v : ℕ} → Cells_full u v ∷ [] ≡ h ∷ more → h ≡ Frames_full n → ⊥
          other q r = cc
      go false p = absurd (none (rw (refusal, p) at is))
        where
          none : [] ≡ h ∷ more → ⊥
          none q = cc
  refused-full rest k (Carry f x v) t at (h ∷ more) is e = absurd (none is)
    where
      none : [] ≡ h ∷ more → ⊥
      none q = cc
  refused-full rest k (Ask_cell a j f x v) t at (h ∷ more) is e = absurd (none is)
    where
      none : [] ≡ h ∷ more → ⊥
      none q = cc
  refused-full rest k (Put_cell a j v x) t at (h ∷ more) is e = absurd (none is)
    where
      none : [] ≡ h ∷ more → ⊥
      none q = cc

  -- by what was chosen
  chosen-full : (c : Choice × List Item) → chosen g limits s c ≡ Ended (Frames_full n) d → IsFull c
  chosen-full (Choose_quiet, rest) e = absurd (other (not-full e))
    where
      other : Quiet ≡ Frames_full n → ⊥
      other q = cc
  chosen-full (Choose_run, rest) e = absurd (go (s.events == limits.budget) refl)
    where
      fires : (ready : List (ℕ × ℕ)) → fired_first g (counted s rest) ready ≡ Ended (Frames_full n) d → ⊥
      fires [] q = cc
      fires (v ∷ vs) q = not-ended q

      go : (b : Bool) → (s.events == limits.budget) ≡ b → ⊥
      go true p = spent (rw (chosen, p) at e)
        where
          spent : {m : ℕ} {t : GraphState} → Ended (Budget_spent m) t ≡ Ended (Frames_full n) d → ⊥
          spent q = cc
      go false p = fires s.ready (rw (chosen, p) at e)
  chosen-full (Choose_delivery k, rest) e = go (s.events == limits.budget) refl
    where
      message : (o : Option Message) → slice_get s.pending k ≡ o → delivered_at g limits (counted s rest) k o ≡ Ended (Frames_full n) d
          → IsFull (Choose_delivery k, rest)
      message None at q = absurd (other (not-full q))
        where
          other : Quiet ≡ Frames_full n → ⊥
          other r = cc
      message (Some m) at q = refused-full rest k m _ at (refusal g limits (counted s rest) m) refl q

      go : (b : Bool) → (s.events == limits.budget) ≡ b → IsFull (Choose_delivery k, rest)
      go true p = absurd (spent (rw (chosen, p) at e))
        where
          spent : {m : ℕ} {t : GraphState} → Ended (Budget_spent m) t ≡ Ended (Frames_full n) d → ⊥
          spent q = cc
      go false p = message (slice_get s.pending k) refl (rw (chosen, p) at e)

-- so where they suffice, none is refused
pub enough-is_not_refused : EnoughIsNotRefused
enough-is_not_refused g args order limits n suffice full = go (run-ends_at (graph_step g limits) limits.budget (graph_opening g args order))
  where
    go : EndsAt (graph_step g limits) (graph_opening g args order) (run_from (graph_step g limits) limits.budget (graph_opening g args order)) → ⊥
    go (inr spent) = other (sym spent ∙ full)
      where
        other : Budget_spent 0 ≡ Frames_full n → ⊥
        other e = cc
    go (inl (k, t, there, ends)) =
        let d = (run_from (graph_step g limits) limits.budget (graph_opening g args order)).1 in
        let h = chosen-full g limits t n d (choice t.order (some_ready t.ready) (length t.pending)) (ends ∙ ap (λ h. Ended h d) full) in
        let room = suffice k t there h.0 in
        absurd (let live = h.1 in omega arith)
