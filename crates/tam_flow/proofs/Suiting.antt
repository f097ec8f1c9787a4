-- Words suit their nodes, messages their receivers, and each wish is sent once: further parts that each state behind a legal journal has.
use Rattle.std.proofs.Common.{◌≡◌, ◌≢◌, ℕ, zero, suc, ◌<◌, true, List, [], ◌∷◌, Option, Some, None, length, slice_get, refl, sym, ap, ◌∙◌, arith, subst, inl}
use Rattle.std.proofs.Common.{inr}
use Rattle.tam_graph.specs.declared.kind.Kind.TheVariants.{Call}
use Rattle.tam_graph.specs.declared.node.Node.{Node}
use Rattle.tam_graph.specs.Graphs.{Graph, Code, code_of, kind_at, depth_at, or_kind}
use Rattle.tam_graph.specs.Accepted.{IsAccepted}
use Rattle.tam_msgs.specs.declared.message.Message.TheVariants.{Word as Carry, Cells as Make, Fetch as Ask_cell}
use Rattle.tam_msgs.specs.Messages.{outside}
use Rattle.tam_split.specs.GraphPartitions.{Partitions, are_valid}
use Rattle.tam_fire.specs.FiringRules.{Value, node_of}
use Rattle.tam_world.specs.Worlds.{ActivationState, or_activation, activation_at, its_code}
use Rattle.tam_flow.specs.Journals.{State}
use Rattle.tam_flow.specs.Told.{path_of}
use Rattle.tam_flow.specs.Reached.{IsThere, kind_of, depth_of, maker_of, IsTyped, Suits, Has}
use Rattle.tam_word.proofs.Each.{all-at_place}
use Rattle.tam_flow.proofs.ActivationLists.{word_among}
use Rattle.tam_flow.proofs.Justified.{StandsFor, Means, IsMessage, depth_in}
use Rattle.tam_flow.proofs.Deliveries.{some-below}
use Rattle.tam_flow.proofs.Nodes.{right-depth}
use Rattle.tam_flow.proofs.SoundStates.{IsSoundState}
use Rattle.tam_flow.proofs.SentOnce.{IsOnceState, nil-cons}
use Rattle.tam_flow.proofs.DeliveredOnce.{one-wish}
use Rattle.tam_flow.proofs.ReachedParts.{root-path, caller-path}
use Rattle.tam_word.proofs.Tests.{number-eq}

-- a call node is there
call-there : (c : Code) (x d : ℕ) → kind_at c x ≡ Call d → x < length c.nodes
call-there c x d e = go (slice_get c.nodes x) refl e
  where
    go : (o : Option Node) → slice_get c.nodes x ≡ o → or_kind o ≡ Call d → x < length c.nodes
    go None q k = absurd (enter-call k)
      where
        enter-call : or_kind None ≡ Call d → ⊥
        enter-call r = cc
    go (Some n) q k = some-below c.nodes x q

module _ (g : Graph) (args : List ℕ) (accepted : IsAccepted g) (all : Partitions) (s : State) (sound : IsSoundState g args s)
    (once : IsOnceState g args all s) where
  -- a node does what the node of its path does
  its-kind : (i x : ℕ) → IsThere s.world i → node_of g (path_of s.world i) x ≡ kind_of g s.world i x
  its-kind i x t = ap (λ n. kind_at (code_of g n) x) (sound.world.path_codes i t)

  -- and has its depth
  its-depth : (i x : ℕ) → IsThere s.world i → depth_in g (path_of s.world i) x ≡ depth_of g s.world i x
  its-depth i x t = ap (λ n. depth_at (code_of g n) x) (sound.world.path_codes i t)

  -- what stands for a value at a depth is typed by it
  stands-typed : (d u : ℕ) (v : Value) → StandsFor g s.world d u v → IsTyped g s.world d u
  stands-typed zero u v h e k = absurd (omega (arith, k))
  stands-typed (suc d) u v h e k = (
    h.2.below,
    sym (its-depth (maker_of s.world u).0 (maker_of s.world u).1 h.2.number.0)
        ∙ ap (λ q. depth_in g q (maker_of s.world u).1) h.2.number.1 ∙ ap (λ z. depth_in g h.0 z) h.2.alloc ∙ h.3,
  )

  -- a word that means a value suits its node
  means-suits : (i x u : ℕ) (v : Value) → IsThere s.world i → Means g s.world (path_of s.world i) x u v → Suits g s.world i x u
  means-suits i x u v t (inl h) = record {
    by_depth = λ e k. absurd (zero-suc (flat ∙ k));
    by_call = λ c k.
        let by = caller-path g args all s sound once u i x h.2.0 t h.2.1 in
        (positive u refl, h.2.0, by.0, by.1);
  }
    where
      kind : kind_of g s.world i x ≡ Call h.0
      kind = sym (its-kind i x t) ∙ h.1

      flat : 0 ≡ depth_of g s.world i x
      flat = sym (number-eq _ _ (right-depth g accepted (activation_at s.world i).code (sound.world.codes i t) x (Call h.0)
          (call-there (its_code g s.world i) x h.0 kind) kind))

      zero-suc : {n : ℕ} → 0 ≡ suc n → ⊥
      zero-suc r = absurd (omega (arith, r))

      positive : (n : ℕ) → u ≡ n → 0 < u
      positive zero e = absurd (nil-cons (sym (root-path g args all s sound once) ∙ ap (path_of s.world) (sym e) ∙ h.2.1))
      positive (suc n) e = omega (arith, e)
  means-suits i x u v t (inr h) = record {
    by_depth = subst (λ d. IsTyped g s.world d u) (its-depth i x t) (stands-typed (depth_in g (path_of s.world i) x) u v h.1);
    by_call = λ c k. absurd (h.0 c (its-kind i x t ∙ k));
  }

  -- a node that has a word is one of an activation that is there
  pub words-there : (i x u : ℕ) → Has s i x u → IsThere s.world i
  words-there i x u h = go (slice_get s.world.activations i) refl
    where
      go : (o : Option ActivationState) → slice_get s.world.activations i ≡ o → IsThere s.world i
      go None e = absurd (nil-word (subst (λ o. word_among (or_activation o).words x ≡ u ∷ []) e h))
        where
          nil-word : {l : List ℕ} → [] ≡ u ∷ l → ⊥
          nil-word r = cc
      go (Some a) e = some-below s.world.activations i e

  -- each word suits its node
  pub words-suit : (i x u : ℕ) → Has s i x u → Suits g s.world i x u
  words-suit i x u h =
      let t = words-there i x u h in
      let k = sound.world.words i x u t h in
      means-suits i x u k.value t k.means

  -- each word on its way suits its receiver
  pub receivers-suit : (n f x v : ℕ) → slice_get s.sent n ≡ Some (Carry f x v) → f ≢ outside → IsThere s.world f × Suits g s.world f x v
  receivers-suit n f x v e inside = go (all-at_place (IsMessage g args s.world) s.sent n (Carry f x v) sound.sent e)
    where
      go : IsMessage g args s.world (Carry f x v) → IsThere s.world f × Suits g s.world f x v
      go (inl h) = absurd (inside (number-eq f outside h))
      go (inr h) = (h.1.0, means-suits f x v h.2.value h.1.0 (subst (λ q. Means g s.world q x v h.2.value) (sym h.1.1) h.2.means))

  -- the makers of arrays are there, and there are as many arrays
  pub makers-there : (a : ℕ) → a < length s.world.makers → IsThere s.world (maker_of s.world a).0
  makers-there a l = (sound.world.made a l).array.number.0

  module _ (valid : are_valid g all ≡ true) where
    -- a wish for an array by one node was sent once
    pub one-make : (m n u v f x : ℕ) → slice_get s.sent m ≡ Some (Make u f x) → slice_get s.sent n ≡ Some (Make v f x) → m ≡ n
    one-make m n u v f x e h =
        one-wish g args accepted all valid s sound once m n (Make u f x) (Make v f x) e h refl refl (λ i y j z a b. (sym a.0 ∙ b.0, sym a.1 ∙ b.1))

    -- and so a wish for a cell
    pub one-fetch : (m n a b i j f x t e : ℕ) → slice_get s.sent m ≡ Some (Ask_cell a i f x t) → slice_get s.sent n ≡ Some (Ask_cell b j f x e) → m ≡ n
    one-fetch m n a b i j f x t e p q =
        one-wish g args accepted all valid s sound once m n (Ask_cell a i f x t) (Ask_cell b j f x e) p q refl refl
        (λ i y j z a b. (sym a.0 ∙ b.0, sym a.1 ∙ b.1))
