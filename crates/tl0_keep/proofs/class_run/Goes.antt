-- The run of a class's thread with its stop is the run of the class, which may run: as the whole supposes it.
use Rattle.std.proofs.Common.{◌≡◌, ℕ, zero, suc, ◌<◌, true, List, [], ◌∷◌, ◌++◌, flat_map, filter, Option, Some, None, length, refl, sym, ap, ◌∙◌}
use Rattle.tam_word.specs.Lists.{below}
use Rattle.tam_graph.specs.Graphs.{Graph, code_of}
use Rattle.tam_graph.specs.Accepted.{IsAccepted}
use Rattle.tam_split.specs.Blocks.{block_graph, vertex_at}
use Rattle.tam_split.specs.Partitions.{class_at, directly_before}
use Rattle.tam_split.specs.GraphPartitions.{Partitions, firing_order}
use Rattle.tam_world.specs.Worlds.{activation_at, its_code}
use Rattle.tam_flow.specs.Journals.{State, Run, may_run, after_event}
use Rattle.tam_flow.specs.Reached.{IsThere, IsReached}
use Rattle.tam_flow.proofs.SoundStates.{IsSoundState, IsRunnable, runnable}
use Rattle.tam_flow.proofs.KeptRuns.{IsKeptState}
use Rattle.tl0_code.specs.declared.instr.Instr.{Instr}
use Rattle.tl0_code.specs.declared.instr.Instr.TheVariants.{Fork, Switch}
use Rattle.tl0_code.specs.Machines.{Machine, Plain, Progress, Fine, Broken, spend_of, slot, branch, done, then_do, done_all, done_thread, at_rest, stopped}
use Rattle.tl0_code.specs.ThreadCode.{code_text, plain, thread_at}
use Rattle.tl0_keep.specs.Compiled.{compiled_with, vertex_instrs, forks_to, parts_at}
use Rattle.tl0_keep.proofs.code.ThreadKinds.{ThreadKind, Class, number_of_thread, IsThread, parts_for, AreAllParts}
use Rattle.tl0_keep.proofs.code.ClassInstrs.{class-instrs}
use Rattle.tl0_keep.proofs.runs.Keeps.{Rests, parts_in}
use Rattle.tl0_keep.proofs.code.CodeFacts.{CodeFacts}
use Rattle.tl0_keep.proofs.runs.Taking.{Takes}
use Rattle.tl0_keep.proofs.runs.OtherRuns.{stop-rests}
use Rattle.tl0_keep.proofs.runs.ClassGoals.{ClassGoes}
use Rattle.tl0_keep.proofs.class_run.Step.{Does}
use Rattle.tl0_keep.proofs.class_run.Places.{can-spend}
use Rattle.tl0_keep.proofs.class_run.Start.{class-begins}
use Rattle.tl0_keep.proofs.class_run.ClassRun.{does-run}

-- ---- no event is counted in a thread

-- machines with one count of events
abbrev pub SameEvents : Machine → Progress → Type 0
SameEvents m (Fine k) = k.events ≡ m.events
SameEvents m (Broken what n) = Unit {0}

spend-events : (m : Machine) (f t : ℕ) (left : Option ℕ) → SameEvents m (spend_of m f t left)
spend-events m f t None = tt
spend-events m f t (Some zero) = tt
spend-events m f t (Some (suc n)) = refl

instr-events : (m : Machine) (f : ℕ) (i : Instr) → SameEvents m (done Plain m f i)
instr-events m f (Fork t) = spend-events m f t _
instr-events m f (Switch s t u) = spend-events m f (branch (slot m f s) t u) _
instr-events m f i = refl

then-events : (m k : Machine) (r : Progress) (go : Machine → Progress) → SameEvents m r → ((n : Machine) → go n ≡ Fine k → k.events ≡ n.events)
    → then_do r go ≡ Fine k → k.events ≡ m.events
then-events m k (Fine n) go h more e = more n e ∙ h
then-events m k (Broken what n) go h more e = absurd (broken e)
  where
    broken : Broken what n ≡ Fine k → ⊥
    broken q = cc

-- the instructions of a thread make no event
pub done-events : (m k : Machine) (f : ℕ) (is : List Instr) → done_all Plain m f is ≡ Fine k → k.events ≡ m.events
done-events m k f [] e = sym (fine e)
  where
    fine : Fine m ≡ Fine k → m.events ≡ k.events
    fine q = ap (λ (r : Progress). events_of r) q
      where
        events_of : Progress → ℕ
        events_of (Fine n) = n.events
        events_of (Broken what n) = 0
done-events m k f (i ∷ is) e = then-events m k (done Plain m f i) (λ n. done_all Plain n f is) (instr-events m f i) (λ n h. done-events n k f is h) e

-- ---- the whole

-- the instructions of the thread of class k of block b of code n
abbrev pub class_instrs : Graph → Partitions → ℕ → ℕ → ℕ → List Instr
class_instrs g all n b k =
    flat_map (λ x. vertex_instrs g (code_of g n) (parts_for all n) (vertex_at (block_graph (code_of g n) b) x))
    (firing_order (block_graph (code_of g n) b).edges (class_at (parts_at (parts_for all n) b) k))
    ++ forks_to (parts_for all n) b (filter (λ d. directly_before (block_graph (code_of g n) b).edges (parts_at (parts_for all n) b) k d)
    (below (length (parts_at (parts_for all n) b))))

module _ (g : Graph) (args : List ℕ) (accepted : IsAccepted g) (all : Partitions) (valid : Rattle.tam_split.specs.GraphPartitions.are_valid g all ≡ true)
    (parts : AreAllParts g all) (facts : CodeFacts g all) (s : State) (sound : IsSoundState g args s) (state : IsKeptState g all s)
    (reached : IsReached g all args s) where
  -- from rest to rest
  pub class-goes : (m : Machine) (others : List (ℕ × ThreadKind)) → Rests g all m s others → (takes : Takes m.table) (b k : ℕ) → IsThere s.world takes.frame
      → IsThread (its_code g s.world takes.frame) (parts_in g all s others takes.frame) (Class b k)
      → number_of_thread (its_code g s.world takes.frame) (parts_in g all s others takes.frame) (Class b k) ≡ takes.thread
      → may_run g all s takes.frame b k ≡ true → ClassGoes g all m s others takes b k
  class-goes m others rests takes b k there thread number may = record {
    after = at_rest does.machine;
    may = may;
    runs = ap (λ (is : List Instr). done_thread Plain (record m { table = takes.after }) takes.frame is) instrs
        ∙ ap (λ (r : Progress). then_do r (λ n. stopped Plain n takes.frame)) does.does;
    rests = stop-rests g all does.machine (after_event g all s (Run takes.frame b k)) others does.keeps;
    events = done-events (record m { table = takes.after }) does.machine takes.frame instructions does.does;
  }
    where
      known : (activation_at s.world takes.frame).code < length g.codes
      known = rests.keeps.frames.known takes.frame there

      run : IsRunnable g all s takes.frame b k
      run = runnable g all s takes.frame b k may

      -- its instructions
      instructions : List Instr
      instructions = class_instrs g all (activation_at s.world takes.frame).code b k

      does : Does g all others (record m { table = takes.after }) takes.frame instructions (after_event g all s (Run takes.frame b k)) []
      does = does-run g args accepted all valid s sound state takes.frame b k run reached others facts (can-spend g all others facts)
          (record m { table = takes.after }) (class-begins g all facts m s others rests.keeps takes b k there thread number)

      instrs : (thread_at (code_text (plain (compiled_with g all)) (activation_at s.world takes.frame).code) takes.thread).instrs ≡ instructions
      instrs = ap (λ t. (thread_at (code_text (plain (compiled_with g all)) (activation_at s.world takes.frame).code) t).instrs) (sym number)
          ∙ class-instrs g all parts (activation_at s.world takes.frame).code known b k thread
