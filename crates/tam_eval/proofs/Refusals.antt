-- What the limits refuse.
use Rattle.std.proofs.Common.{◌≡◌, ◌≢◌, ℕ, ◌+◌, ◌≤◌, Bool, true, false, [], ◌∷◌, nat_lt, refl, arith, tests}
use Rattle.tam_word.proofs.Tests.{eq-number, differs-number}
use Rattle.tam_msgs.specs.declared.limits.Limits.{Limits}
use Rattle.tam_msgs.specs.declared.message.Message.{Message}
use Rattle.tam_msgs.specs.declared.message.Message.TheVariants.{Word as Carry, Frame as Begin, Cells as Make, Fetch as Ask_cell, Store as Put_cell}
use Rattle.tam_msgs.specs.Runs.{End, Frames_full}
use Rattle.tam_istr.specs.Cells.{cells_used}
use Rattle.tam_graph.specs.Graphs.{Graph}
use Rattle.tam_world.specs.Effects.{cells_wished}
use Rattle.tam_eval.specs.GraphRuns.{GraphState, live_activations, refusal}

module _ (g : Graph) (limits : Limits) (s : GraphState) (m : Message) (c f x : ℕ) (wish : m ≡ Begin c f x) where
  -- an activation where as many are live as may be
  pub refused-full : live_activations g s ≡ limits.frames → refusal g limits s m ≡ Frames_full limits.frames ∷ []
  refused-full full = rw (wish, refusal, eq-number (live_activations g s) limits.frames full) refl

  -- and none where others are
  pub refused-none : live_activations g s ≢ limits.frames → refusal g limits s m ≡ []
  refused-none room = rw (wish, refusal, differs-number (live_activations g s) limits.frames room) refl

module _ (g : Graph) (limits : Limits) (s : GraphState) where
  -- where cells aren't refused, there is room for them
  pub room-cells : (m : Message) → refusal g limits s m ≡ [] → cells_used s.world.arrays ≤ limits.cells
      → cells_used s.world.arrays + cells_wished m ≤ limits.cells
  room-cells (Make n f x) room within = go (nat_lt limits.cells (cells_used s.world.arrays + n)) refl
    where
      go : (t : Bool) → nat_lt limits.cells (cells_used s.world.arrays + n) ≡ t → cells_used s.world.arrays + n ≤ limits.cells
      go true p = absurd (some (rw (refusal, p) at room))
        where
          some : {e : End} → e ∷ [] ≡ [] → ⊥
          some q = cc
      go false p = grind (arith, tests)
  room-cells (Begin c f x) room within = omega arith
  room-cells (Carry f x v) room within = omega arith
  room-cells (Ask_cell a j f x t) room within = omega arith
  room-cells (Put_cell a j v t) room within = omega arith
