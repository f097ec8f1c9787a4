-- Behind each journal over the partitions by least pairs the run of a class's thread is the run of the class.
use Rattle.std.proofs.Common.{ℕ, List, subst, sym, inl}
use Rattle.tam_word.proofs.Members.{In}
use Rattle.tam_graph.specs.Graphs.{Graph}
use Rattle.tam_graph.specs.Accepted.{IsAccepted}
use Rattle.tam_split.specs.GraphPartitions.{partitions}
use Rattle.tam_world.specs.Worlds.{its_code}
use Rattle.tam_flow.specs.Journals.{State, state_after}
use Rattle.tam_flow.specs.Reached.{IsReached}
use Rattle.tam_flow.proofs.DeliveredOnce.{once-journal}
use Rattle.tam_flow.proofs.JournalsReached.{journals-reached}
use Rattle.tam_flow.proofs.KeptJournals.{kept-journal}
use Rattle.tam_flow.proofs.KeptRuns.{IsKeptState}
use Rattle.tam_flow.proofs.SoundStates.{sound-journal}
use Rattle.tam_flow.proofs.WordsOnce.{words-journal, one-word-each}
use Rattle.tl0_keep.proofs.code.Facts.{code-facts}
use Rattle.tl0_keep.proofs.code.RisingClasses.{partitions-parts}
use Rattle.tl0_keep.proofs.code.ThreadKinds.{Class, number_of_thread}
use Rattle.tl0_keep.proofs.runs.Keeps.{parts_in}
use Rattle.tl0_keep.proofs.runs.ClassGoals.{ClassRuns}
use Rattle.tl0_keep.proofs.class_run.Goes.{class-goes}
use Rattle.tl0_keep.proofs.class_run.MayRun.{may-run}
use Rattle.tl0_keep.proofs.class_run.Stands.{switch-stands}

-- so it is behind each journal
pub class-runs : (g : Graph) → IsAccepted g → (args : List ℕ) → ClassRuns g (partitions g) args
class-runs g accepted args events journal m others rests takes b k there thread number =
    class-goes g args accepted (partitions g) journal.valid (partitions-parts g accepted) (code-facts g accepted) s
    (sound-journal g (partitions g) args events journal)
    state reached m others rests takes b k there thread number
    (may-run g args accepted (partitions g) (code-facts g accepted) (partitions-parts g accepted) s (once-journal g (partitions g) args events journal)
    (words-journal g (partitions g) args events journal) state reached
    (switch-stands g accepted journal.valid (code-facts g accepted) args s reached m others rests.keeps) m others rests.keeps takes.frame there b k thread
    (subst (λ (ts : List ℕ). In (number_of_thread (its_code g (state_after g (partitions g) args events).world takes.frame)
    (parts_in g (partitions g) (state_after g (partitions g) args events) others takes.frame) (Class b k)) ts) (sym takes.was) (inl (sym number))))
  where
    s : State
    s = state_after g (partitions g) args events

    reached : IsReached g (partitions g) args (state_after g (partitions g) args events)
    reached = journals-reached g (partitions g) args events journal

    state : IsKeptState g (partitions g) (state_after g (partitions g) args events)
    state = kept-journal g (partitions g) args events journal (one-word-each g (partitions g) args events journal)
