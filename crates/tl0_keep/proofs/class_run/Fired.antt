-- A node of whatever kind fires: its instructions do what the journal's firing does.
use Rattle.std.proofs.Common.{◌≡◌, ℕ, true, List, [], ◌∷◌, refl, sym, ap, ◌∙◌, subst}
use Rattle.std.proofs.lemmas.List.{append-nil}
use Rattle.tam_msgs.specs.declared.message.Message.{Message}
use Rattle.tam_graph.specs.declared.kind.Kind.{Kind}
use Rattle.tam_graph.specs.declared.kind.Kind.TheVariants.{Param, Const, Op as Operator, Seq, Call as Invoke, Arg, Ret, Give as Yield, Alloc, Fetch}
use Rattle.tam_graph.specs.declared.kind.Kind.TheVariants.{Store, Cond, Switch as Choose}
use Rattle.tam_graph.specs.declared.kind.Kind.TheVariants.{Merge, Enter, Leave}
use Rattle.tam_graph.specs.Graphs.{Graph, operands_of}
use Rattle.tam_split.specs.GraphPartitions.{Partitions}
use Rattle.tam_split.proofs.Firers.{is_inner}
use Rattle.tam_world.specs.Worlds.{activation_at, its_code, firing_of}
use Rattle.tam_flow.specs.Journals.{State}
use Rattle.tam_flow.specs.Reached.{kind_of}
use Rattle.tam_flow.proofs.FiringReasons.{HaveThese}
use Rattle.tl0_code.specs.Machines.{Machine}
use Rattle.tl0_keep.specs.Compiled.{instrs_of}
use Rattle.tl0_keep.proofs.code.ThreadKinds.{ThreadKind}
use Rattle.tl0_keep.proofs.runs.Keeps.{Owed, Keeps, parts_in}
use Rattle.tl0_keep.proofs.code.CodeFacts.{CodeFacts}
use Rattle.tl0_keep.proofs.class_run.Step.{fired_state, HaveSlots, IsFiring, HasCalls, HasPlaces, Does}
use Rattle.tl0_keep.proofs.class_run.Inner.{does-inner}
use Rattle.tl0_keep.proofs.class_run.Sends.{does-call, does-alloc, does-fetch, does-store, does-arg, does-give}
use Rattle.tl0_keep.proofs.class_run.Branching.{CanSpend}
use Rattle.tl0_keep.proofs.class_run.Conds.{does-cond}
use Rattle.tl0_keep.proofs.class_run.Switches.{does-switch}
use Rattle.tl0_keep.proofs.class_run.Leaving.{does-leave}

module _ (g : Graph) (all : Partitions) (others : List (ℕ × ThreadKind)) (facts : CodeFacts g all) (can : CanSpend g all others) (m : Machine) (s : State)
    (due : List Owed) (keeps : Keeps g all m s others due) (i x : ℕ) (vs : List ℕ) (fires : IsFiring g s m i x vs) (calls : HasCalls g s)
    (places : HasPlaces g (its_code g s.world i)) where
  -- what the instructions of a kind are to do
  abbrev pub Goal : Kind → List ℕ → Type 0
  Goal k us = Does g all others m i (instrs_of g (its_code g s.world i) (parts_in g all s others i) x k)
      (fired_state s (firing_of g s.world i x k us).world (firing_of g s.world i x k us).sends) due

  -- nothing
  nothing : Does g all others m i [] (fired_state s s.world []) due
  nothing = record {
    machine = m;
    does = refl;
    keeps = subst (λ (l : List Message). Keeps g all m (record s { sent = l }) others due)
        (sym (append-nil s.sent)) keeps;
  }

  inner : (k : Kind) (us : List ℕ) → kind_of g s.world i x ≡ k → is_inner k ≡ true
      → HaveSlots m i (its_code g s.world i) (operands_of (its_code g s.world i) k) us → Goal k us
  inner k us e h slots = does-inner g all others facts m s due keeps i x vs fires k us (ap is_inner e ∙ h) h slots

  -- by the kind and the words
  does-kind : (k : Kind) (us : List ℕ) → kind_of g s.world i x ≡ k → vs ≡ us → HaveSlots m i (its_code g s.world i) (operands_of (its_code g s.world i) k) us
      → HaveThese s.world i (operands_of (its_code g s.world i) k) us → Goal k us
  does-kind (Const w) us e f slots have = inner (Const w) us e refl slots
  does-kind (Operator o a b) us e f slots have = inner (Operator o a b) us e refl slots
  does-kind (Seq a b) us e f slots have = inner (Seq a b) us e refl slots
  does-kind (Invoke d) [] e f slots have = does-call g all others facts m s due keeps i x vs fires calls places d e
  does-kind (Invoke d) (u ∷ us) e f slots have = absurd slots
  does-kind (Arg t k a) [] e f slots have = absurd slots
  does-kind (Arg t k a) (v ∷ []) e f slots have = absurd slots.1
  does-kind (Arg t k a) (v ∷ p ∷ []) e f slots have =
      does-arg g all others facts m s due keeps i x vs fires calls places t k a v p e have.1.0 slots.0 slots.1.0
  does-kind (Arg t k a) (v ∷ p ∷ u ∷ us) e f slots have = absurd slots.1.1
  does-kind (Yield k a) [] e f slots have = absurd slots
  does-kind (Yield k a) (v ∷ []) e f slots have = does-give g all others facts m s due keeps i x vs fires calls places k a v e slots.0
  does-kind (Yield k a) (v ∷ u ∷ us) e f slots have = absurd slots.1
  does-kind (Alloc n) [] e f slots have = absurd slots
  does-kind (Alloc n) (v ∷ []) e f slots have = does-alloc g all others facts m s due keeps i x vs fires calls places n v e slots.0
  does-kind (Alloc n) (v ∷ u ∷ us) e f slots have = absurd slots.1
  does-kind (Fetch a j) [] e f slots have = absurd slots
  does-kind (Fetch a j) (u ∷ []) e f slots have = absurd slots.1
  does-kind (Fetch a j) (u ∷ v ∷ []) e f slots have = does-fetch g all others facts m s due keeps i x vs fires calls places a j u v e slots.0 slots.1.0
  does-kind (Fetch a j) (u ∷ v ∷ t ∷ us) e f slots have = absurd slots.1.1
  does-kind (Store a j b) [] e f slots have = absurd slots
  does-kind (Store a j b) (t ∷ []) e f slots have = absurd slots.1
  does-kind (Store a j b) (t ∷ u ∷ []) e f slots have = absurd slots.1.1
  does-kind (Store a j b) (t ∷ u ∷ v ∷ []) e f slots have =
      does-store g all others facts m s due keeps i x vs fires calls places a j b t u v slots.0 slots.1.0 slots.1.1.0
  does-kind (Store a j b) (t ∷ u ∷ v ∷ w ∷ us) e f slots have = absurd slots.1.1.1
  does-kind (Cond p y n) [] e f slots have = absurd slots
  does-kind (Cond p y n) (v ∷ []) e f slots have = does-cond g all others facts can m s due keeps i x vs fires p y n v e f slots.0
  does-kind (Cond p y n) (v ∷ u ∷ us) e f slots have = absurd slots.1
  does-kind (Choose d k a) [] e f slots have = absurd slots
  does-kind (Choose d k a) (u ∷ []) e f slots have = absurd slots.1
  does-kind (Choose d k a) (u ∷ v ∷ []) e f slots have =
      let r = (facts.texts (activation_at s.world i).code (keeps.frames.known i fires.there)).switch_cond x d k a e in
      does-switch g all others facts can m s due keeps i x vs fires d k a u v e f r.0 r.1.0 r.1.1.0 r.1.1.1 slots.0
  does-kind (Choose d k a) (u ∷ v ∷ t ∷ us) e f slots have = absurd slots.1.1
  does-kind (Leave k a) [] e f slots have = absurd slots
  does-kind (Leave k a) (v ∷ []) e f slots have = does-leave g all others facts can m s due keeps i x vs fires k a v e f slots.0
  does-kind (Leave k a) (v ∷ u ∷ us) e f slots have = absurd slots.1
  does-kind (Param k) us e f slots have = nothing
  does-kind (Ret t k) us e f slots have = nothing
  does-kind (Merge d k) us e f slots have = nothing
  does-kind (Enter k) us e f slots have = nothing

  -- so the node does
  pub does-node : Goal (kind_of g s.world i x) vs
  does-node = does-kind (kind_of g s.world i x) vs refl refl fires.slots fires.have
