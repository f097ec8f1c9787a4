-- A run of thread code at its opening.
use Rattle.std.proofs.Common.{◌≡◌, ℕ, zero, suc, false, List, [], refl, sym, subst}
use Rattle.std.specs.Prelude.{Option, None, Some, slice_get, replicate}
use Rattle.tam_msgs.specs.declared.limits.Limits.{Limits}
use Rattle.tam_msgs.specs.declared.item.Item.{Item}
use Rattle.tam_msgs.specs.Messages.{outside}
use Rattle.frame_tables.specs.FrameTables.{frame_at}
use Rattle.tl0_code.specs.ThreadCode.{Program, code_text}
use Rattle.tl0_code.specs.Machines.{Machine, spend_of}
use Rattle.tl0_code.specs.ThreadRuns.{nothing_begun, with_frame, or_machine, thread_opening, thread_told}
use Rattle.tl0_machine.specs.ThreadStates.{machine_with, AreMarked}
use Rattle.tl0_machine.specs.ThreadEvents.{ThreadRun, opening_state}
use Rattle.tam_run.specs.Accounts.{plain_account}
use Rattle.tam_run.specs.Telling.{Tells}
use Rattle.tam_run.specs.ThreadTelling.{thread_run, ThreadTells}
use Rattle.tam_run.proofs.RunSteps.{tells-whole}

-- a run at its opening
abbrev pub opened : Program → List ℕ → Limits → ThreadRun
opened p args limits = record { program = p; limits = limits; state = opening_state p args; stopped = None }

-- with an order list
abbrev ordered : List Item → Machine → Machine
ordered order m = record m { order = order }

-- where nothing was printed nothing is marked
none-marked : (n : ℕ) → AreMarked (replicate n false) []
none-marked zero k b e = absurd (cc)
none-marked (suc n) zero b e = cc
none-marked (suc n) (suc k) b e = none-marked n k b e

module _ (p : Program) (args : List ℕ) where
  -- the order list is only kept there
  opening-ordered : (order : List Item) → machine_with (opening_state p args) order [] ≡ thread_opening p args order
  opening-ordered order = go (slice_get (frame_at taken.table 0).counts 0)
    where
      taken : Machine
      taken = with_frame p (nothing_begun args []) p.main outside 0

      go : (count : Option ℕ)
          → ordered order (record (or_machine (nothing_begun args []) (spend_of taken 0 0 count)) { printed = [] })
          ≡ or_machine (nothing_begun args order) (spend_of (ordered order taken) 0 0 count)
      go None = refl
      go (Some zero) = refl
      go (Some (suc n)) = refl

  -- no event is counted
  opening-events : (order : List Item) → (thread_opening p args order).events ≡ 0
  opening-events order = go (slice_get (frame_at taken.table 0).counts 0)
    where
      taken : Machine
      taken = with_frame p (nothing_begun args order) p.main outside 0

      go : (count : Option ℕ) → (or_machine (nothing_begun args order) (spend_of taken 0 0 count)).events ≡ 0
      go None = refl
      go (Some zero) = refl
      go (Some (suc n)) = refl

  -- there the whole run is told
  pub thread-opened : (order : List Item) (limits : Limits)
      → ThreadTells (opened p args limits) order [] (plain_account (thread_told p args order limits))
  thread-opened order limits = record {
    going = refl;
    marks = none-marked (code_text p p.main).results;
    tells = subst (λ m. Tells (thread_run p limits) m (plain_account (thread_told p args order limits))) (sym (opening-ordered order))
        (tells-whole Machine (thread_run p limits) (thread_opening p args order) (opening-events order));
  }
