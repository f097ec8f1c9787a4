-- The machine with its host: what the host keeps, the calls, and the way to the next poll.
-- The rules in words: docs/MACHINE.md, "Machine code".
use Rattle.std.specs.Prelude.{filter, ℕ, zero, suc, true, false, not, ◌==◌, List, [], ◌∷◌, ◌++◌}
use Rattle.tam_word.specs.Lists.{has}
use Rattle.tam_msgs.specs.declared.message.Message.{Message}
use Rattle.tam_msgs.specs.declared.message.Message.TheVariants.{Word as Carry, Frame as Begin, Cells as Make, Fetch as Ask_cell, Store as Put_cell}
use Rattle.tam_istr.specs.Cells.{Arrays}
use Rattle.tam_msgs.specs.declared.item.Item.{Item}
use Rattle.tam_msgs.specs.Runs.{Wild_frame, Wild_ecall, End}
use Rattle.tam_msgs.specs.Runs.{Wild, Trap}
use Rattle.rv_inst.specs.Harts.{Hart, Step, Done, Called, Trapped, reg}
use Rattle.rv_inst.specs.declared.trap_cause.TrapCause.TheVariants.{NoPoll}
use Rattle.rv_inst.specs.Traps.{trap_text}
use Rattle.rv_inst.specs.Execution.{hart_step}

-- the machine with what the host keeps
pub record Host : Type 0 where
  pub hart : Hart
  pub pending : List Message
  pub arrays : Arrays
  pub live : List ℕ  -- the numbers of frames that are live
  pub free : List ℕ  -- those that were given back, the latest first
  pub activations : ℕ
  pub order : List Item
  pub printed : List (ℕ × ℕ)
  pub events : ℕ

-- what a call sends: 1 a word, 2 the wish for a frame, 3 for an array, 4 a fetch, 5 a store; no other sends
abbrev pub sent_by : ℕ → Hart → List Message
sent_by zero h = []
sent_by (suc zero) h = Carry (reg h 10) (reg h 11) (reg h 12) ∷ []
sent_by (suc (suc zero)) h = Begin (reg h 10) (reg h 11) (reg h 12) ∷ []
sent_by (suc (suc (suc zero))) h = Make (reg h 10) (reg h 11) (reg h 12) ∷ []
sent_by (suc (suc (suc (suc zero)))) h = Ask_cell (reg h 10) (reg h 11) (reg h 12) (reg h 13) (reg h 14) ∷ []
sent_by (suc (suc (suc (suc (suc zero))))) h = Put_cell (reg h 10) (reg h 11) (reg h 12) (reg h 13) ∷ []
sent_by _ h = []

-- the machine is changed
abbrev pub with_hart : Host → Hart → Host
with_hart s h = record s { hart = h }

-- the machine is changed, and a frame's number is no longer live but free
abbrev pub with_given : Host → Hart → ℕ → Host
with_given s h f = record s { hart = h; live = filter (λ n. not (n == f)) s.live; free = f ∷ s.free }

-- the host at the machine's next poll, or the end before it
pub data Reached : Type 0 where
  At_poll : (host : Host) → Reached
  Stopped : (how : End) (host : Host) → Reached

-- what a call that sends nothing does: 6 gives a frame's number back, and others are no calls
abbrev pub silent : ℕ → Hart → Host → (Host → Reached) → Reached
silent call h s go = elim (call == 6) [
  | false ↦ Stopped (Wild Wild_ecall call) (with_hart s h)
  | true ↦ elim (has s.live (reg h 10)) [
    | false ↦ Stopped (Wild Wild_frame (reg h 10)) (with_hart s h)
    | true ↦ go (with_given s h (reg h 10))
  ]
]

-- the machine runs to its next poll, within so many instructions
abbrev pub to_poll : ℕ → Host → Reached
to_poll zero s = Stopped (Trap s.hart.pc (trap_text NoPoll)) s
to_poll (suc n) s = after_step (hart_step s.hart) s (to_poll n)
  where
    served : ℕ → List Message → Hart → Host → (Host → Reached) → Reached
    served zero ms h t go = At_poll (with_hart t h)
    served (suc call) [] h t go = silent (suc call) h t go
    served (suc call) (m ∷ ms) h t go = go (record t { hart = h; pending = t.pending ++ m ∷ [] })

    after_step : Step → Host → (Host → Reached) → Reached
    after_step (Done h) t go = go (with_hart t h)
    after_step (Called h) t go = served (reg h 17) (sent_by (reg h 17) h) h t go
    after_step (Trapped pc cause) t go = Stopped (Trap pc (trap_text cause)) t
