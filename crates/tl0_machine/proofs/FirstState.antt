-- The state before the first event.
use Rattle.std.proofs.Common.{◌≡◌, ◌≢◌, ◌∙◌, ℕ, zero, suc, ◌+◌, ◌≤◌, Bool, false, List, [], ◌∷◌, length, map, replicate, Some, ap, sym}
use Rattle.std.specs.Prelude.{slice_get, zip}
use Rattle.tam_word.specs.Lists.{below}
use Rattle.tam_msgs.specs.Messages.{outside}
use Rattle.tam_msgs.specs.declared.message.Message.{Message}
use Rattle.tam_msgs.specs.declared.message.Message.TheVariants.{Frame as Begin}
use Rattle.tl0_code.specs.ThreadCode.{Program, code_text}
use Rattle.tl0_code.specs.Machines.{Machine, Fine}
use Rattle.tl0_code.specs.ThreadRuns.{begin, nothing_begun, or_machine, thread_opening}
use Rattle.tl0_machine.specs.declared.thread_state.ThreadState.{ThreadState}
use Rattle.tl0_machine.specs.ThreadStates.{SeenState, state_of, machine_of, HasFewBegun}
use Rattle.tl0_machine.specs.ThreadEvents.{opening_state}
use Rattle.tl0_machine.proofs.Arguments.{carried}

-- no argument is a wish for an activation
arguments-wish : (kws : List (ℕ × ℕ)) (k c f i : ℕ) → slice_get (map carried kws) k ≢ Some (Begin c f i)
arguments-wish [] k c f i e = absurd cc
arguments-wish (kw ∷ kws) zero c f i e = absurd cc
arguments-wish (kw ∷ kws) (suc k) c f i e = arguments-wish kws k c f i e

module _ (p : Program) (args : List ℕ) (old new : ThreadState) (before : machine_of old [] [] ≡ nothing_begun args [])
    (begun : begin p (machine_of old [] []) p.main outside 0 ≡ Fine (machine_of new [] [])) where
  -- it is the one that the definition opens
  opened : machine_of new [] [] ≡ thread_opening p args []
  opened = ap (or_machine (nothing_begun args [])) (sym begun ∙ ap (λ (m : Machine). begin p m p.main outside 0) before)

  -- with a mark for each result
  pub opening-is : new.printed.items ≡ replicate (code_text p p.main).results false → state_of new ≡ opening_state p args
  opening-is marks = ap (λ (m : Machine). seen m new.printed.items) opened ∙ ap (seen (thread_opening p args [])) marks
    where
      seen : Machine → List Bool → SeenState
      seen m marks = record {
        table = m.table;
        codes = m.codes;
        begun = m.begun;
        pending = m.pending;
        arrays = m.arrays;
        marks = marks;
        events = m.events;
      }

-- where the arguments alone are pending, none is a wish
pub opening-few : (args : List ℕ) (new : ThreadState) → new.pending.messages ≡ map carried (zip (below (length args)) args) → new.begun ≤ new.events + 1
    → HasFewBegun new
opening-few args new pending few = record {
  begun = few;
  wished = λ k c f i is.
      absurd (arguments-wish (zip (below (length args)) args) k c f i (ap (λ (l : List Message). slice_get l k) (sym pending) ∙ is));
}
