-- What a state at rest tells of each fact that holds, and the lemmas by which it does: numbers and paths, words and meanings, outlets that ran.
use Rattle.std.proofs.Common.{◌≡◌, ℕ, zero, suc, ◌<◌, List, [], ◌∷◌, true, false, refl, sym, subst, ap, inl, inr, ◌∙◌, true≢false, length, arith, ◌==◌}
use Rattle.std.specs.List.{AllByRecursion}
use Rattle.tam_word.proofs.Tests.{self-eq, true-both}
use Rattle.tam_word.proofs.Members.{In, in-any, filter-in, below-in}
use Rattle.tam_graph.specs.declared.kind.Kind.{Kind}
use Rattle.tam_graph.specs.declared.kind.Kind.TheVariants.{Call}
use Rattle.tam_split.specs.declared.vertex.Vertex.{Vertex}
use Rattle.tam_msgs.specs.Messages.{outside}
use Rattle.tam_msgs.specs.declared.message.Message.TheVariants.{Word as Carry}
use Rattle.tam_graph.specs.Edges.{reaches}
use Rattle.tam_graph.specs.Graphs.{Code, Graph, code_of, kind_at, block_at, operands_of, is_inlet, is_outlet}
use Rattle.tam_split.specs.Blocks.{block_graph, vertex_at, vertices_in}
use Rattle.tam_split.specs.Partitions.{class_of}
use Rattle.tam_split.specs.GraphPartitions.{Partitions, are_valid}
use Rattle.tam_split.proofs.BlockPaths.{IsAt}
use Rattle.tam_split.proofs.BlockVertices.{at-vertex, at-within, place-at, outlet-place}
use Rattle.tam_split.proofs.LeastClasses.{valid-at}
use Rattle.tam_split.proofs.Depends.{Depends, depends-inlet, depends-inner, depends-outlet}
use Rattle.tam_fire.specs.FiringRules.{Path, Value, Word, Fact, Begun, Entered, Val, Fired, code_at, the_code, node_of, values}
use Rattle.tam_world.specs.Worlds.{World, activation_at, its_code, has_word, has_entered}
use Rattle.tam_flow.specs.Journals.{State, has_run, block_of_act, parts_of_act}
use Rattle.tam_flow.specs.Told.{array_of, meant_at, HasWord, HaveWords, outlet_place, IsNumber, Tells}
use Rattle.tam_flow.specs.Reached.{kind_of, depth_of, IsThere, WasSent, Has, HasSome, HaveSome, Ran, IsReached}
use Rattle.tam_flow.proofs.ActivationLists.{word-there}
use Rattle.tam_flow.proofs.Quiet.{IsAtRest, sent-arrived, outlet-class-ran}

-- what the word u of node x of activation i means
abbrev pub Meant : Graph → World → ℕ → ℕ → ℕ → Value
Meant g w i x u = meant_at w (kind_of g w i x) (depth_of g w i x) u

-- node y of the activation of the path has some word
abbrev pub HasWordAt : State → Path → ℕ → Type 0
HasWordAt s q y = (i : ℕ) × IsNumber s.world q i × HasSome s i y

-- of a known value: an inlet has a word that means it, each word of the node means it, and each inlet that it depends on has a word
pub record ValueClaim (g : Graph) (s : State) (q : Path) (x : ℕ) (v : Value) : Type 0 where
  pub told : is_inlet (node_of g q x) ≡ true → (i : ℕ) × IsNumber s.world q i × HasWord g s.world i x v
  pub means : (i u : ℕ) → IsNumber s.world q i → Has s i x u → v ≡ Meant g s.world i x u
  pub depends : Depends (the_code g q) (HasWordAt s q) x

-- of each fact that holds
abbrev pub Claim : Graph → Partitions → State → Fact → Type 0
Claim g all s (Begun q) = Tells g all s (Begun q)
Claim g all s (Entered q b) = Tells g all s (Entered q b)
Claim g all s (Val q x v) = ValueClaim g s q x v
Claim g all s (Fired q x vs) = Tells g all s (Fired q x vs)

-- ---- meanings

-- a word of depth 0, or the array of the number
abbrev pub plain : World → ℕ → ℕ → Value
plain w zero u = Word u
plain w (suc d) u = array_of w u

-- what the word of a node that is no call means
pub meant-plain : (w : World) (k : Kind) (d u : ℕ) → ((c : ℕ) → k ≡ Call c → ⊥) → meant_at w k d u ≡ plain w d u
meant-plain w (Call c) d u n = absurd (n c refl)
meant-plain w k zero u n = refl
meant-plain w k (suc d) u n = refl

-- the same at two nodes of one depth
pub same-meaning : (w : World) (k l : Kind) (d e u : ℕ) → ((c : ℕ) → k ≡ Call c → ⊥) → ((c : ℕ) → l ≡ Call c → ⊥) → d ≡ e
    → meant_at w k d u ≡ meant_at w l e u
same-meaning w k l d e u n m p = meant-plain w k d u n ∙ (ap (λ z. plain w z u) p ∙ sym (meant-plain w l e u m))

-- at depth 0 it is the word
pub word-meaning : (w : World) (k : Kind) (d u : ℕ) → ((c : ℕ) → k ≡ Call c → ⊥) → d ≡ 0 → meant_at w k d u ≡ Word u
word-meaning w k d u n p = meant-plain w k d u n ∙ ap (λ z. plain w z u) p

-- above it is the array
pub array-meaning : (w : World) (k : Kind) (d e u : ℕ) → ((c : ℕ) → k ≡ Call c → ⊥) → d ≡ suc e → meant_at w k d u ≡ array_of w u
array-meaning w k d e u n p = meant-plain w k d u n ∙ ap (λ z. plain w z u) p

-- ---- words

-- a node has one word only
pub one-word : (s : State) (i x u t : ℕ) → Has s i x u → Has s i x t → u ≡ t
one-word s i x u t h k = head (sym h ∙ k)
  where
    head : u ∷ [] ≡ t ∷ [] → u ≡ t
    head e = cc

-- more inlets have what more implies
pub depends-more : (c : Code) (D E : ℕ → Type 0) (x : ℕ) → ((y : ℕ) → D y → E y) → Depends c D x → Depends c E x
depends-more c D E x more h b i j v w p n a q o r = more w.node (h b i j v w p n a q o r)

module _ (g : Graph) (all : Partitions) (args : List ℕ) (s : State) (reached : IsReached g all args s) where
  -- the code of the path is that of its activation
  pub the-code : (q : Path) (i : ℕ) → IsNumber s.world q i → the_code g q ≡ its_code g s.world i
  the-code q i num = ap (code_of g) (sym (ap (code_at g) num.1) ∙ reached.activations.path_codes i num.0)

  -- and so what its nodes do
  pub kind-here : (q : Path) (i x : ℕ) (k : Kind) → IsNumber s.world q i → node_of g q x ≡ k → kind_of g s.world i x ≡ k
  kind-here q i x k num e = ap (λ c. kind_at c x) (sym (the-code q i num)) ∙ e

  -- a path has one number
  pub same-number : (q : Path) (i j : ℕ) → IsNumber s.world q i → IsNumber s.world q j → i ≡ j
  same-number q i j m n = reached.activations.paths_differ i j m.0 n.0 (m.1 ∙ sym n.1)

  -- no activation has the outside's number
  pub not-outside : (i : ℕ) → IsThere s.world i → i ≡ outside → ⊥
  not-outside i l e = let few = reached.few_activations in omega arith

  -- a value with a word at an inlet
  pub claim-inlet : (q : Path) (x : ℕ) (v : Value) (i u : ℕ) → is_inlet (node_of g q x) ≡ true → IsNumber s.world q i → Has s i x u
      → v ≡ Meant g s.world i x u → ValueClaim g s q x v
  claim-inlet q x v i u inlet num h m = record {
    told = λ e. (i, num, (u, h, m));
    means = λ j t n k. other j t (same-number q i j num n) k;
    depends = depends-inlet (the_code g q) (HasWordAt s q) x inlet (i, num, (u, h));
  }
    where
      other : (j t : ℕ) → i ≡ j → Has s j x t → v ≡ Meant g s.world j x t
      other j t e k = subst (λ z. v ≡ Meant g s.world j x z) (one-word s j x u t (subst (λ z. Has s z x u) e h) k) (subst (λ z. v ≡ Meant g s.world z x u) e m)

  -- a value of what is no inlet
  pub claim-inner : (q : Path) (x : ℕ) (v : Value) → is_inlet (node_of g q x) ≡ false
      → ((i u : ℕ) → IsNumber s.world q i → Has s i x u → v ≡ Meant g s.world i x u)
      → ((a : ℕ) → In a (operands_of (the_code g q) (node_of g q x)) → Depends (the_code g q) (HasWordAt s q) a) → ValueClaim g s q x v
  claim-inner q x v inner means each = record {
    told = λ e. absurd (true≢false (sym e ∙ inner));
    means = means;
    depends = depends-inner (the_code g q) (HasWordAt s q) x inner each;
  }

  -- the operands of values that are known
  pub values-depend : (q : Path) (xs : List ℕ) (vs : List Value) → length vs ≡ length xs → AllByRecursion (Claim g all s) (values q xs vs)
      → (a : ℕ) → In a xs → Depends (the_code g q) (HasWordAt s q) a
  values-depend q [] vs l h a m = absurd m
  values-depend q (x ∷ xs) [] l h a m = absurd (grind arith)
  values-depend q (x ∷ xs) (v ∷ vs) l h a (inl e) = subst (Depends (the_code g q) (HasWordAt s q)) e h.0.depends
  values-depend q (x ∷ xs) (v ∷ vs) l h a (inr m) = values-depend q xs vs (omega arith) h.1 a m

  -- and their words
  pub values-have : (q : Path) (i : ℕ) (xs : List ℕ) (vs : List Value) → IsNumber s.world q i → length vs ≡ length xs → HaveSome s i xs
      → AllByRecursion (Claim g all s) (values q xs vs) → HaveWords g s.world i xs vs
  values-have q i [] [] num l w h = tt
  values-have q i [] (v ∷ vs) num l w h = absurd (grind arith)
  values-have q i (x ∷ xs) [] num l w h = absurd (grind arith)
  values-have q i (x ∷ xs) (v ∷ vs) num l w h = ((w.0.0, w.0.1, h.0.means i w.0.0 num w.0.1), values-have q i xs vs num (omega arith) w.1 h.1)

  module _ (rest : IsAtRest g all s) (valid : are_valid g all ≡ true) where
    -- a word that was sent to an activation has come
    pub carry-has : (f x v : ℕ) → IsThere s.world f → WasSent s (Carry f x v) → Has s f x v
    carry-has f x v there sent = reached.arrivals.carried f x v (sent-arrived g all s rest (Carry f x v) sent) (not-outside f there)

    -- an outlet of a block that was entered has run, where each inlet on which its operands depend has a word
    pub outlet-ran : (i x : ℕ) → IsThere s.world i → is_outlet (kind_of g s.world i x) ≡ true
        → has_entered s.world i (block_at (its_code g s.world i) x) ≡ true
        → ((a : ℕ) → In a (operands_of (its_code g s.world i) (kind_of g s.world i x)) → Depends (its_code g s.world i) (HasSome s i) a) → Ran g all s i x
    outlet-ran i x there out entered each = at (outlet-place (its_code g s.world i) x out)
      where
        at : (o : ℕ) × (v : Vertex) × IsAt (its_code g s.world i) (block_at (its_code g s.world i) x) o v × (v.outlet ≡ true) × (v.node ≡ x) → Ran g all s i x
        at (o, v, p, vo, vn) = in-any _ _ o found ran
          where
            within : o < length (vertices_in (its_code g s.world i) (block_at (its_code g s.world i) x))
            within = at-within (its_code g s.world i) (block_at (its_code g s.world i) x) o v p

            vertex : vertex_at (block_graph (its_code g s.world i) (block_at (its_code g s.world i) x)) o ≡ v
            vertex = at-vertex (its_code g s.world i) (block_at (its_code g s.world i) x) o v p

            is-out : (vertex_at (block_graph (its_code g s.world i) (block_at (its_code g s.world i) x)) o).outlet ≡ true
            is-out = ap (λ (u : Vertex). u.outlet) vertex ∙ vo

            has-node : ((vertex_at (block_graph (its_code g s.world i) (block_at (its_code g s.world i) x)) o).node == x) ≡ true
            has-node = subst (λ z. (z == x) ≡ true) (sym (ap (λ (u : Vertex). u.node) vertex ∙ vn)) (self-eq x)

            found : In o (outlet_place (block_of_act g s i (block_at (its_code g s.world i) x)) x)
            found = filter-in _ o _ (below-in o _ within) (true-both _ _ is-out has-node)

            words : (j : ℕ) → j < length (block_of_act g s i (block_at (its_code g s.world i) x)).vertices
                → (vertex_at (block_of_act g s i (block_at (its_code g s.world i) x)) j).inlet ≡ true
                → reaches (block_of_act g s i (block_at (its_code g s.world i) x)).edges j o ≡ true
                → has_word s.world i (vertex_at (block_of_act g s i (block_at (its_code g s.world i) x)) j).node ≡ true
            words j l inlet r =
                let w : HasSome s i (vertex_at (block_of_act g s i (block_at (its_code g s.world i) x)) j).node =
                depends-outlet (its_code g s.world i) (HasSome s i) (block_at (its_code g s.world i) x) o j v
                (vertex_at (block_of_act g s i (block_at (its_code g s.world i) x)) j) p vo
                (λ a m. each a (subst (λ y. In a (operands_of (its_code g s.world i) (kind_at (its_code g s.world i) y))) vn m))
                (place-at (its_code g s.world i) (block_at (its_code g s.world i) x) j l) inlet r in
                word-there (activation_at s.world i).words (vertex_at (block_of_act g s i (block_at (its_code g s.world i) x)) j).node w.0 w.1

            ran : has_run s i (block_at (its_code g s.world i) x) (class_of (parts_of_act g all s i (block_at (its_code g s.world i) x)) o) ≡ true
            ran = outlet-class-ran g all s rest i (block_at (its_code g s.world i) x)
                (valid-at g all (activation_at s.world i).code (block_at (its_code g s.world i) x) valid (reached.activations.codes i there)
                (reached.activations.blocks i (block_at (its_code g s.world i) x) there entered))
                there entered o within is-out words
