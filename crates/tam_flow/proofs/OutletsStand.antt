-- What each outlet that ran has done, by what it does and the words of its operands.
use Rattle.std.proofs.Common.{◌≡◌, ℕ, ◌<◌, true, false, ◌==◌, ◌&&◌, List, [], ◌∷◌, map, Some, length, slice_get, nat_lt, refl, sym, ap, ◌∙◌}
use Rattle.std.proofs.Common.{arith, subst, inl}
use Rattle.tam_msgs.specs.declared.message.Message.{Message}
use Rattle.tam_msgs.specs.declared.message.Message.TheVariants.{Word as Carry, Frame as Begin, Cells as Make, Fetch as Ask_cell, Store as Put_cell}
use Rattle.tam_msgs.specs.Messages.{outside, site}
use Rattle.tam_graph.specs.declared.kind.Kind.{Kind}
use Rattle.tam_graph.specs.declared.kind.Kind.TheVariants.{Param, Call, Arg, Ret, Give, Alloc, Fetch, Store, Cond, Switch, Merge, Enter, Leave}
use Rattle.tam_graph.specs.Graphs.{Graph, code_of, kind_at, block_at, callee_of, callee_of_kind, chosen_branch, test_of, owner_of, one_or_none, node_where}
use Rattle.tam_graph.specs.Graphs.{operands_of}
use Rattle.tam_graph.specs.Graphs.{node_in, is_param, is_ret, is_merge, is_enter}
use Rattle.tam_graph.specs.Written.{is_operand, is_call_node, is_cond_node}
use Rattle.tam_graph.proofs.AcceptedFacts.{node-there}
use Rattle.tam_graph.proofs.Branches.{block-there}
use Rattle.tam_split.specs.GraphPartitions.{Partitions}
use Rattle.tam_word.proofs.Tests.{and-left, below-test, eq-number}
use Rattle.tam_word.proofs.Members.{In, flat_map-in}
use Rattle.tam_world.specs.Worlds.{activation_at, its_code, result_message, firing_of}
use Rattle.tam_flow.specs.Journals.{State, Event, state_after}
use Rattle.tam_flow.specs.JournalLaws.{IsJournal}
use Rattle.tam_flow.specs.Reached.{IsThere, kind_of, Ran, Has, WasSent, ActivationsStand, OutletsDid}
use Rattle.tam_flow.proofs.BranchOwners.{chosen-owner}
use Rattle.tam_flow.proofs.Deliveries.{not-outside}
use Rattle.tam_flow.proofs.InterfacePlaces.{param-at, ret-at, merge-at, enter-at}
use Rattle.tam_flow.proofs.Nodes.{line, call-operand, cond-operand}
use Rattle.tam_flow.proofs.ReachedParts.{activations-stand}
use Rattle.tam_flow.proofs.Suiting.{words-there, words-suit}
use Rattle.tam_flow.proofs.SoundStates.{IsSoundState, sound-journal}
use Rattle.tam_flow.proofs.SentOnce.{IsOnceState}
use Rattle.tam_flow.proofs.DeliveredOnce.{once-journal}
use Rattle.tam_flow.proofs.KeptRuns.{IsKeptState}
use Rattle.tam_flow.proofs.KeptDeliveries.{OneWordSent}
use Rattle.tam_flow.proofs.KeptJournals.{kept-journal}
use Rattle.tam_flow.proofs.FiringReasons.{HaveThese}
use Rattle.tam_flow.proofs.FiredOutlets.{DoneWith, done-with, tagged-was_sent}

module _ (g : Graph) (all : Partitions) (args : List ℕ) (events : List Event) (journal : IsJournal g all args events)
    (once : OneWordSent (state_after g all args events)) where
  -- the state behind the journal
  abbrev s : State
  s = state_after g all args events

  -- it has its reasons
  sound : IsSoundState g args (state_after g all args events)
  sound = sound-journal g all args events journal

  -- each wish was sent once
  wishes : IsOnceState g args all (state_after g all args events)
  wishes = once-journal g all args events journal

  -- its activations stand
  activations : ActivationsStand g (state_after g all args events).world
  activations = activations-stand g args all s sound wishes

  -- it keeps firings, messages and words
  state : IsKeptState g all (state_after g all args events)
  state = kept-journal g all args events journal once

  -- an outlet that ran has done what it does
  did : (i x : ℕ) (k : Kind) (vs : List ℕ) → Ran g all s i x → kind_of g s.world i x ≡ k
      → HaveThese s.world i (operands_of (its_code g s.world i) k) vs → DoneWith g s state.tags i x k vs
  did = done-with g args all s journal.valid sound state

  -- and has sent its messages
  sent-by : (i x : ℕ) (k : Kind) (vs : List ℕ) → Ran g all s i x → kind_of g s.world i x ≡ k
      → HaveThese s.world i (operands_of (its_code g s.world i) k) vs → (m : Message) → In m (firing_of g s.world i x k vs).sends → WasSent s m
  sent-by i x k vs ran kind have m a = tagged-was_sent g args all s journal.valid sound state i x m ((did i x k vs ran kind have).tagged m a)

  -- an activation one of whose nodes has a word has a code that is there
  code-there : (i x u : ℕ) → Has s i x u → (activation_at s.world i).code < length g.codes
  code-there i x u h = sound.world.codes i (words-there g args journal.accepted all s sound wishes i x u h)

  -- a node whose kind isn't that of a node that isn't there is there
  there-by : (n x : ℕ) (k : Kind) → kind_at (code_of g n) x ≡ k → (k ≡ Enter 0 → ⊥) → x < length (code_of g n).nodes
  there-by n x k e d = node-there (code_of g n) x (λ r. d (sym e ∙ r))

  -- an argument goes to the param of the callee
  arg-sent : (i y f k a x v p : ℕ) → Ran g all s i y → kind_of g s.world i y ≡ Arg f k a → Has s i a v → Has s i f p
      → kind_of g s.world p x ≡ Param k → WasSent s (Carry p x v)
  arg-sent i y f k a x v p ran kind ha hf param =
      sent-by i y (Arg f k a) (v ∷ p ∷ []) ran kind (ha, (hf, tt)) (Carry p x v)
      (subst (λ l. In (Carry p x v) (map (λ z. Carry p z v) l)) (sym found) (inl refl))
    where
      here : (activation_at s.world i).code < length g.codes
      here = code-there i a v ha

      at_call : (d : ℕ) × (kind_of g s.world i f ≡ Call d)
      at_call = call-operand (its_code g s.world i) f (and-left (is_call_node (its_code g s.world i) f) (is_operand (its_code g s.world i) a && nat_lt k 64)
          (line g journal.accepted (activation_at s.world i).code here y (Arg f k a)
          (there-by (activation_at s.world i).code y (Arg f k a) kind (λ q. cc)) kind))

      called : (0 < p) × IsThere s.world p × ((activation_at s.world p).caller ≡ i) × ((activation_at s.world p).call ≡ f)
      called = (words-suit g args journal.accepted all s sound wishes i f p hf).by_call at_call.0 at_call.1

      callee : callee_of (its_code g s.world i) f ≡ (activation_at s.world p).code
      callee = ap callee_of_kind (subst (λ z. kind_of g s.world i z ≡ Call (activation_at s.world p).code) called.3
          (subst (λ z. kind_of g s.world z (activation_at s.world p).call ≡ Call (activation_at s.world p).code) called.2
          (activations.calls p called.0 called.1)))

      found : node_where (code_of g (callee_of (its_code g s.world i) f)) (is_param k) ≡ x ∷ []
      found = subst (λ n. node_where (code_of g n) (is_param k) ≡ x ∷ []) (sym callee)
          (param-at g journal.accepted (activation_at s.world p).code (activations.codes p called.1) x k
          (there-by (activation_at s.world p).code x (Param k) param (λ q. cc)) param)

  -- a result goes to the ret of the call
  result-sent : (j y k a x v : ℕ) → Ran g all s j y → kind_of g s.world j y ≡ Give k a → Has s j a v → 0 < j
      → kind_of g s.world (activation_at s.world j).caller x ≡ Ret (activation_at s.world j).call k → WasSent s (Carry (activation_at s.world j).caller x v)
  result-sent j y k a x v ran kind ha later ret =
      sent-by j y (Give k a) (v ∷ []) ran kind (ha, tt) (Carry (activation_at s.world j).caller x v)
      (rw (result_message, inner) (subst (λ l. In (Carry (activation_at s.world j).caller x v) (map (λ z. Carry (activation_at s.world j).caller z v) l))
      (sym found) (inl refl)))
    where
      there : IsThere s.world j
      there = words-there g args journal.accepted all s sound wishes j a v ha

      before : (activation_at s.world j).caller < j
      before = activations.callers j later there

      inner : ((activation_at s.world j).caller == outside) ≡ false
      inner = not-outside g args (activation_at s.world j).caller j before (let few = journal.few_activations in omega (arith, few, there))

      found : node_where (its_code g s.world (activation_at s.world j).caller) (is_ret (activation_at s.world j).call k) ≡ x ∷ []
      found = ret-at g journal.accepted (activation_at s.world (activation_at s.world j).caller).code
          (activations.codes (activation_at s.world j).caller (omega (arith, before, there))) x (activation_at s.world j).call k
          (there-by (activation_at s.world (activation_at s.world j).caller).code x (Ret (activation_at s.world j).call k) ret (λ q. cc)) ret

  -- the root's results go outside
  result-printed : (y k a v : ℕ) → Ran g all s 0 y → kind_of g s.world 0 y ≡ Give k a → Has s 0 a v → WasSent s (Carry outside k v)
  result-printed y k a v ran kind ha =
      sent-by 0 y (Give k a) (v ∷ []) ran kind (ha, tt) (Carry outside k v)
      (let e : ((activation_at s.world 0).caller == outside) ≡ true = eq-number _ _ activations.root_outside in rw (result_message, e) (inl refl))

  -- a switch gives its word to the `in` of the branch chosen
  switch-gave : (i y c k a x v u : ℕ) → Ran g all s i y → kind_of g s.world i y ≡ Switch c k a → Has s i (test_of (its_code g s.world i) c) v → Has s i a u
      → kind_of g s.world i x ≡ Enter k → block_at (its_code g s.world i) x ≡ chosen_branch (its_code g s.world i) c v → Has s i x u
  switch-gave i y c k a x v u ran kind hc ha enters block =
      (did i y (Switch c k a) (v ∷ u ∷ []) ran kind (hc, (ha, tt))).gave x (subst (λ l. In x l) (sym found) (inl refl))
    where
      here : (activation_at s.world i).code < length g.codes
      here = code-there i a u ha

      cond : (c < length (its_code g s.world i).nodes) × ((p m n : ℕ) × (kind_of g s.world i c ≡ Cond p m n))
      cond = cond-operand (its_code g s.world i) c (and-left (is_cond_node (its_code g s.world i) c) (is_operand (its_code g s.world i) a && nat_lt k 64)
          (line g journal.accepted (activation_at s.world i).code here y (Switch c k a)
          (there-by (activation_at s.world i).code y (Switch c k a) kind (λ q. cc)) kind))

      later : 0 < chosen_branch (its_code g s.world i) c v
      later = (chosen-owner (length g.codes) (its_code g s.world i) (journal.accepted.written (activation_at s.world i).code (below-test _ _ here))
          c cond.1.0 cond.1.1 cond.1.2 v cond.1.3).1

      found : node_in (its_code g s.world i) (chosen_branch (its_code g s.world i) c v) (is_enter k) ≡ x ∷ []
      found = subst (λ b. node_in (its_code g s.world i) b (is_enter k) ≡ x ∷ []) block
          (enter-at g journal.accepted (activation_at s.world i).code here x k
          (block-there (its_code g s.world i) x (subst (λ b. 0 < b) (sym block) later)) enters)

  -- an `out` gives its word to the merge of the branch's cond
  leave-gave : (i y c k a x u : ℕ) → Ran g all s i y → kind_of g s.world i y ≡ Leave k a → Has s i a u
      → slice_get (its_code g s.world i).owners (block_at (its_code g s.world i) y) ≡ Some (Some c) → kind_of g s.world i x ≡ Merge c k → Has s i x u
  leave-gave i y c k a x u ran kind ha owner merges =
      (did i y (Leave k a) (u ∷ []) ran kind (ha, tt)).gave x
      (flat_map-in (λ d. node_where (its_code g s.world i) (is_merge d k)) c x (owner_of (its_code g s.world i) (block_at (its_code g s.world i) y))
      (subst (λ o. In c (one_or_none o)) (sym owner) (inl refl)) (subst (λ l. In x l) (sym found) (inl refl)))
    where
      found : node_where (its_code g s.world i) (is_merge c k) ≡ x ∷ []
      found = merge-at g journal.accepted (activation_at s.world i).code (code-there i a u ha) x c k
          (there-by (activation_at s.world i).code x (Merge c k) merges (λ q. cc)) merges

  -- each outlet that ran has done what it does
  pub outlets-did : OutletsDid g all (state_after g all args events)
  outlets-did = record {
    call_sent = λ i f c ran kind. sent-by i f (Call c) [] ran kind tt (Begin c i f) (inl refl);
    arg_sent = arg-sent;
    result_sent = result-sent;
    result_printed = result-printed;
    alloc_sent = λ i x n v ran kind h. sent-by i x (Alloc n) (v ∷ []) ran kind (h, tt) (Make v i x) (inl refl);
    fetch_sent = λ i x a j u v ran kind h k.
        sent-by i x (Fetch a j) (u ∷ v ∷ []) ran kind (h, (k, tt)) (Ask_cell u v i x (site (activation_at s.world i).code x)) (inl refl);
    store_sent = λ i x a j b t u v ran kind h k l.
        sent-by i x (Store a j b) (t ∷ u ∷ v ∷ []) ran kind (h, (k, (l, tt))) (Put_cell t u v (site (activation_at s.world i).code x)) (inl refl);
    cond_entered = λ i c p y n v ran kind h. (did i c (Cond p y n) (v ∷ []) ran kind (h, tt)).entered (chosen_branch (its_code g s.world i) c v) (inl refl);
    switch_gave = switch-gave;
    leave_gave = leave-gave;
  }
