-- One firing in the middle of a run: the state behind it, and what is kept there once slots, tickets and messages are seen to.
use Rattle.std.proofs.Common.{◌≡◌, ℕ, ◌<◌, true, false, ◌==◌, List, [], ◌∷◌, ◌++◌, map, length, refl, sym, ap, ◌∙◌}
use Rattle.std.proofs.Common.{inl, inr, ◌⊎◌, ⊎_elim, arith}
use Rattle.std.proofs.lemmas.List.{length-append}
use Rattle.tam_word.proofs.Members.{In}
use Rattle.tam_msgs.specs.declared.message.Message.{Message}
use Rattle.tam_graph.specs.declared.kind.Kind.TheVariants.{Call as Invoke, Arg, Give as Yield}
use Rattle.tam_graph.specs.Graphs.{Code, Graph, code_of, kind_at, operands_of, has_value, params_of, results_of}
use Rattle.tam_msgs.specs.Messages.{outside}
use Rattle.tam_split.specs.GraphPartitions.{Partitions}
use Rattle.tam_world.specs.Worlds.{World, activation_at, its_code, word_of, has_word, has_entered}
use Rattle.tam_flow.specs.Journals.{State}
use Rattle.tam_flow.specs.Reached.{IsThere, Has, kind_of}
use Rattle.tam_flow.proofs.ActivationLists.{has-word, word-there}
use Rattle.tam_flow.proofs.Gifts.{Leaves, gift, opens}
use Rattle.tam_flow.proofs.FiringReasons.{HaveThese}
use Rattle.tam_flow.proofs.OnTheWay.{way-is, way-sent}
use Rattle.tl0_code.specs.Machines.{Machine, Plain, slot, Fine, done_all}
use Rattle.tl0_code.specs.declared.instr.Instr.{Instr}
use Rattle.tl0_keep.specs.Compiled.{slot_of}
use Rattle.tl0_keep.specs.ThreadNames.{thread_message}
use Rattle.tl0_keep.proofs.code.ThreadKinds.{ThreadKind}
use Rattle.tl0_keep.proofs.runs.Keeps.{Owed, MessagesKeep, Keeps, Fits}
use Rattle.tl0_keep.proofs.class_run.Later.{Follows}
use Rattle.tl0_keep.proofs.class_run.Whole.{messages-later}

-- the state behind a firing
abbrev pub fired_state : State → World → List Message → State
fired_state s w ms = record s { world = w; sent = s.sent ++ ms }

-- one of these, of activation i
abbrev pub OneOf : ℕ → List ℕ → ℕ → ℕ → Type 0
OneOf i ys j y = (j ≡ i) × In y ys

-- the slots of nodes have the words, in order
abbrev pub HaveSlots : Machine → ℕ → Code → List ℕ → List ℕ → Type 0
HaveSlots m i c [] [] = Unit {0}
HaveSlots m i c [] (v ∷ vs) = ⊥
HaveSlots m i c (a ∷ more) [] = ⊥
HaveSlots m i c (a ∷ more) (v ∷ vs) = (slot m i (slot_of c a) ≡ v) × HaveSlots m i c more vs

-- a node fires in the middle of a run: it is there, its operands have words, in their slots too; what it gives is given to nodes that have none
pub record IsFiring (g : Graph) (s : State) (m : Machine) (i x : ℕ) (vs : List ℕ) : Type 0 where
  pub there : IsThere s.world i
  pub inside : x < length (its_code g s.world i).nodes
  pub have : HaveThese s.world i (operands_of (its_code g s.world i) (kind_of g s.world i x)) vs
  pub slots : HaveSlots m i (its_code g s.world i) (operands_of (its_code g s.world i) (kind_of g s.world i x)) vs
  pub fresh : (y t : ℕ) → In y (gift (its_code g s.world i) x (kind_of g s.world i x) vs).0 → word_of s.world i y ≡ t ∷ [] → ⊥
  pub not_entered : (b : ℕ) → In b (opens (its_code g s.world i) x (kind_of g s.world i x) vs) → has_entered s.world i b ≡ true → ⊥
  pub worded : (j y u : ℕ) → Has s j y u → (y < length (its_code g s.world j).nodes) × (has_value (kind_at (its_code g s.world j) y) ≡ true)

-- the activations of a state stand as calls have begun them, and the word of a call is the activation that it began
pub record HasCalls (g : Graph) (s : State) : Type 0 where
  pub numbers : (j : ℕ) → IsThere s.world j → (j == outside) ≡ false
  pub root : (activation_at s.world 0).caller ≡ outside
  pub root_code : (activation_at s.world 0).code ≡ g.main
  pub callers : (j : ℕ) → 0 < j → IsThere s.world j → IsThere s.world (activation_at s.world j).caller
  pub calls : (j : ℕ) → 0 < j → IsThere s.world j
      → kind_of g s.world (activation_at s.world j).caller (activation_at s.world j).call ≡ Invoke (activation_at s.world j).code
  pub answers : (j f d p : ℕ) → kind_of g s.world j f ≡ Invoke d → word_of s.world j f ≡ p ∷ [] → IsThere s.world p × ((activation_at s.world p).code ≡ d)

-- places of a code are in range
pub record HasPlaces (g : Graph) (c : Code) : Type 0 where
  pub gives : (x k a : ℕ) → kind_at c x ≡ Yield k a → (k < results_of c) × (k < 1024)
  pub args : (x f k a : ℕ) → kind_at c x ≡ Arg f k a → (d : ℕ) × (kind_at c f ≡ Invoke d) × (d < length g.codes) × (k < params_of (code_of g d))

-- instructions lead to a machine that keeps what is to be kept
pub record Does (g : Graph) (all : Partitions) (others : List (ℕ × ThreadKind)) (m : Machine) (i : ℕ) (is : List Instr) (v : State) (due : List Owed) : Type
    0 where
  pub machine : Machine
  pub does : done_all Plain m i is ≡ Fine machine
  pub keeps : Keeps g all machine v others due

module _ (g : Graph) (all : Partitions) (others : List (ℕ × ThreadKind)) (s : State) (w : World) (ms : List Message) (i : ℕ) (gave : List ℕ × ℕ) (bs : List ℕ)
    (leaves : Leaves s.world w i gave bs) where
  -- a word is old or given
  pub words-before : (j x : ℕ) → has_word w j x ≡ true → (has_word s.world j x ≡ true) ⊎ OneOf i gave.0 j x
  words-before j x h =
      let u = has-word (activation_at w j).words x h in
      ⊎_elim (λ e. inl (word-there (activation_at s.world j).words x u.0 (sym e ∙ u.1))) (λ e. inr (e.0, e.1)) (leaves.words j x)

  -- what follows a firing
  pub follows : Follows g all others s (fired_state s w ms)
  follows = record {
    frames = leaves.frames;
    ran = refl;
    words = λ j x h. stays j x h;
    blocks = leaves.stay;
  }
    where
      stays : (j x : ℕ) → has_word s.world j x ≡ true → has_word w j x ≡ true
      stays j x h =
          let u = has-word (activation_at s.world j).words x h in
          ⊎_elim (λ e. word-there (activation_at w j).words x u.0 (e ∙ u.1)) (λ e. word-there (activation_at w j).words x gave.1 e.2) (leaves.words j x)

  -- the messages behind it
  pub messages-fired : (m k : Machine) → MessagesKeep g m s → w.arrays ≡ s.world.arrays → ((x : Message) → In x ms → Fits g w x)
      → k.pending ≡ m.pending ++ map (thread_message g w) ms → k.arrays ≡ m.arrays → k.printed ≡ m.printed → MessagesKeep g k (fired_state s w ms)
  messages-fired m k h arrays fit pending mine told =
      messages-later g m k s (fired_state s w ms) leaves.frames ms arrays refl
      (λ n a. let l = h.arrived_sent n a in omega (arith, length-append s.sent ms))
      (way-is (fired_state s w ms) ∙ (way-sent s.arrived s.sent ms h.arrived_sent ∙ ap (λ l. l ++ ms) (sym (way-is s)))) fit pending mine told h
