-- What the whole supposes of the run of a class's thread, and of what events are charged to.
use Rattle.std.proofs.Common.{◌≡◌, ℕ, true, List, ◌+◌, ◌⊎◌, length}
use Rattle.tam_word.proofs.Members.{In, Distinct}
use Rattle.tam_flow.specs.RunJournals.{IsCharged}
use Rattle.tam_graph.specs.Graphs.{Graph}
use Rattle.tam_split.specs.GraphPartitions.{Partitions}
use Rattle.tam_world.specs.Worlds.{its_code, activation_at}
use Rattle.tam_flow.specs.Journals.{State, Event, Run, state_after, may_run, may_arrive, after_event}
use Rattle.tam_flow.specs.JournalLaws.{IsJournal}
use Rattle.tam_flow.specs.Reached.{IsThere}
use Rattle.tl0_code.specs.Machines.{Machine, Plain, Fine, done_thread}
use Rattle.tl0_code.specs.ThreadCode.{code_text, plain, thread_at}
use Rattle.tl0_keep.specs.Compiled.{compiled_with}
use Rattle.tl0_keep.proofs.code.ThreadKinds.{ThreadKind, Class, number_of_thread, IsThread}
use Rattle.tl0_keep.proofs.runs.Keeps.{Rests, parts_in}
use Rattle.tl0_keep.proofs.code.CodeFacts.{IsOther}
use Rattle.tam_msgs.specs.declared.message.Message.{Message}
use Rattle.tam_msgs.specs.declared.message.Message.TheVariants.{Word as Carry}
use Rattle.std.proofs.Common.{Some, slice_get}
use Rattle.tl0_keep.proofs.runs.Taking.{Takes}

-- the thread's run with its stop is the run of class k of block b, which may run in the journal
pub record ClassGoes (g : Graph) (all : Partitions) (m : Machine) (s : State) (others : List (ℕ × ThreadKind)) (takes : Takes m.table) (b k : ℕ) : Type 0 where
  pub after : Machine
  pub may : may_run g all s takes.frame b k ≡ true
  pub runs : done_thread Plain (record m { table = takes.after }) takes.frame
      (thread_at (code_text (plain (compiled_with g all)) (activation_at s.world takes.frame).code) takes.thread).instrs ≡ Fine after
  pub rests : Rests g all after (after_event g all s (Run takes.frame b k)) others
  pub events : after.events ≡ m.events

-- so it is behind each journal
abbrev pub ClassRuns : Graph → Partitions → List ℕ → Type 0
ClassRuns g all args = (events : List Event) → IsJournal g all args events → (m : Machine) (others : List (ℕ × ThreadKind))
    → Rests g all m (state_after g all args events) others → (takes : Takes m.table) (b k : ℕ) → IsThere (state_after g all args events).world takes.frame
    → IsThread (its_code g (state_after g all args events).world takes.frame) (parts_in g all (state_after g all args events) others takes.frame) (Class b k)
    → number_of_thread (its_code g (state_after g all args events).world takes.frame) (parts_in g all (state_after g all args events) others takes.frame)
    (Class b k) ≡ takes.thread
    → ClassGoes g all m (state_after g all args events) others takes b k

-- the threads in the list are threads 0 and connectors of the codes of their activations
abbrev pub OthersAre : Graph → Partitions → State → List (ℕ × ThreadKind) → Type 0
OthersAre g all s others = (i : ℕ) (n : ThreadKind) → In (i, n) others → IsOther n × IsThread (its_code g s.world i) (parts_in g all s others i) n

-- the message asks or stores
abbrev pub IsAsking : Message → Type 0
IsAsking (Carry f x v) = ⊥
IsAsking m = Unit {0}

-- where a run rests, its runs of classes, of threads 0 and connectors, its deliveries, and one message besides that asks and is on its way, are at most three
-- for each instance that is told, and one
abbrev pub Charges : Graph → Partitions → List ℕ → Type 0
Charges g all args = (events : List Event) → IsJournal g all args events → (m : Machine) (others : List (ℕ × ThreadKind))
    → Rests g all m (state_after g all args events) others → Distinct others
    → OthersAre g all (state_after g all args events) others → (extra : ℕ)
    → (extra ≡ 0) ⊎ ((extra ≡ 1) × ((n : ℕ) × ((q : Message) × ((may_arrive (state_after g all args events) n ≡ true)
    × (slice_get (state_after g all args events).sent n ≡ Some q) × IsAsking q))))
    → IsCharged g all (state_after g all args events)
    (length (state_after g all args events).ran + length others + length (state_after g all args events).arrived + extra)
