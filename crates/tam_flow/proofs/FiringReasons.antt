-- What a node that fires may use: the values of its operands, and what gives a reason to its word and to what it sends.
use Rattle.std.proofs.Common.{◌≡◌, ℕ, ◌<◌, Bool, true, false, List, [], ◌∷◌, ◌++◌, map, flat_map, length}
use Rattle.std.proofs.Common.{refl, sym, ap, ◌∙◌, subst, inr, ⊎_elim, true≢false}
use Rattle.std.specs.List.{AllByRecursion}
use Rattle.tam_graph.specs.Written.{is_line}
use Rattle.tam_graph.specs.declared.kind.Kind.{Kind}
use Rattle.tam_graph.specs.declared.kind.Kind.TheVariants.{Call}
use Rattle.tam_msgs.specs.declared.message.Message.{Message}
use Rattle.tam_graph.specs.Graphs.{Graph, code_of, kind_at, block_at, depth_at, operands_of, is_outlet}
use Rattle.tam_graph.specs.Accepted.{IsAccepted, has_right_depth}
use Rattle.tam_fire.specs.FiringRules.{Value, Word, Activation, Val, Fired, Entered, Holds, values, node_of, block_of, code_at, the_code}
use Rattle.tam_fire.specs.FiringRules.{outlet_fires}
use Rattle.tam_fire.proofs.Following.{holds-by}
use Rattle.tam_world.specs.Worlds.{World, changes, sends_only, got, all_got, activation_at, its_code, word_of, words_of}
use Rattle.tam_flow.specs.Told.{IsNumber, path_of}
use Rattle.tam_flow.specs.Reached.{IsThere}
use Rattle.tam_word.proofs.Each.{all-more}
use Rattle.tam_flow.proofs.ActivationLists.{word-shape}
use Rattle.tam_flow.proofs.Growing.{grows-same, grows-on, grows-got}
use Rattle.tam_flow.proofs.Justified.{StandsFor, IsNoCall, IsValue, IsMessage, IsSoundWorld, depth_in, value-later}
use Rattle.tam_flow.proofs.Changes.{sound-got}
use Rattle.tam_flow.proofs.Deliveries.{IsSoundEffect}
use Rattle.tam_flow.proofs.Nodes.{right-depth, line}

-- the nodes have the words, in order
abbrev pub HaveThese : World → ℕ → List ℕ → List ℕ → Type 0
HaveThese w i [] [] = Unit {0}
HaveThese w i (x ∷ xs) (v ∷ vs) = (word_of w i x ≡ v ∷ []) × HaveThese w i xs vs
HaveThese w i [] (v ∷ vs) = ⊥
HaveThese w i (x ∷ xs) [] = ⊥

-- an empty list has no head
cons-nil : {A : Type 0} {a : A} {l : List A} → [] ≡ a ∷ l → ⊥
cons-nil q = cc

-- equal lists have equal heads
head-is : {A : Type 0} {a b : A} {l m : List A} → a ∷ l ≡ b ∷ m → a ≡ b
head-is q = cc

-- the words of nodes, where there are any, are each node's word
pub words-are : (w : World) (i : ℕ) (xs vs : List ℕ) (more : List (List ℕ)) → words_of w i xs ≡ vs ∷ more → HaveThese w i xs vs
words-are w i [] vs more e = subst (λ l. HaveThese w i [] l) (head-is e) tt
words-are w i (x ∷ xs) vs more e = ⊎_elim none (some (λ us rest k. words-are w i xs us rest k)) (word-shape (activation_at w i).words x)
  where
    none : word_of w i x ≡ [] → HaveThese w i (x ∷ xs) vs
    none d = absurd (cons-nil (subst (λ l. flat_map (λ v. map (λ us. v ∷ us) (words_of w i xs)) l ≡ vs ∷ more) d e))

    some : ((us : List ℕ) (rest : List (List ℕ)) → words_of w i xs ≡ us ∷ rest → HaveThese w i xs us) → (v : ℕ) × (word_of w i x ≡ v ∷ [])
        → HaveThese w i (x ∷ xs) vs
    some ih d = go (words_of w i xs) refl (subst (λ l. flat_map (λ v. map (λ us. v ∷ us) (words_of w i xs)) l ≡ vs ∷ more) d.1 e)
      where
        go : (ws : List (List ℕ)) → words_of w i xs ≡ ws → map (λ us. d.0 ∷ us) (words_of w i xs) ++ [] ≡ vs ∷ more → HaveThese w i (x ∷ xs) vs
        go [] k h = absurd (cons-nil (subst (λ l. map (λ us. d.0 ∷ us) l ++ [] ≡ vs ∷ more) k h))
        go (us ∷ rest) k h = subst (λ l. HaveThese w i (x ∷ xs) l) (head-is (subst (λ l. map (λ us. d.0 ∷ us) l ++ [] ≡ vs ∷ more) k h)) (d.1, ih us rest k)

-- the test of a call
abbrev pub calls : Kind → Bool
calls (Call d) = true
calls _ = false

-- a node that fails the test of calls is no call
pub no-call : (d k : Kind) → d ≡ k → calls k ≡ false → IsNoCall d
no-call d k e h c f = true≢false (sym (ap calls f) ∙ ap calls e ∙ h)

-- where nodes may fire: in an activation of a world that has its reasons
pub record Stands (g : Graph) (args : List ℕ) (w : World) (i : ℕ) : Type 0 where
  pub accepted : IsAccepted g
  pub sound : IsSoundWorld g args w
  pub there : IsThere w i

-- a node may fire there: it is one of the code, and its block is entered
pub record MayFire (g : Graph) (args : List ℕ) (w : World) (i x : ℕ) : Type 0 where
  pub stands : Stands g args w i
  pub inside : x < length (its_code g w i).nodes
  pub open_block : Holds g args (Entered (path_of w i) (block_at (its_code g w i) x))

module _ {g : Graph} {args : List ℕ} where
  -- nodes get a word that has its reason at each
  pub sound-all_got : (w : World) (i : ℕ) (xs : List ℕ) (v : ℕ) → IsSoundWorld g args w → IsThere w i
      → AllByRecursion (λ y. IsValue g args w (path_of w i) y v) xs → IsSoundEffect g args w (changes (all_got w i xs v))
  sound-all_got w i [] v sound there h = record { world = sound; grows = grows-same w; sends = tt }
  sound-all_got w i (x ∷ xs) v sound there h =
      let grows = grows-got w i x v in
      let rest = sound-all_got (got w i x v) i xs v (sound-got g args w i x v sound h.0) (grows.there i there)
      (all-more (λ y. IsValue g args w (path_of w i) y v) (λ y. IsValue g args (got w i x v) (path_of (got w i x v) i) y v)
      (λ y k. subst (λ p. IsValue g args (got w i x v) p y v) (sym (grows.path i there))
      (value-later g args w (got w i x v) grows (path_of w i) y v k)) xs h.1) in
      record { world = rest.world; grows = grows-on w (got w i x v) (all_got (got w i x v) i xs v) grows rest.grows; sends = tt }

module _ {g : Graph} {args : List ℕ} {w : World} {i : ℕ} (place : Stands g args w i) where
  -- the code of its path is its code
  pub path-code : code_at g (path_of w i) ≡ (activation_at w i).code
  path-code = place.sound.path_codes i place.there

  -- a node of its path does what its node does
  pub node : (x : ℕ) → node_of g (path_of w i) x ≡ kind_at (its_code g w i) x
  node x = ap (λ m. kind_at (code_of g m) x) path-code

  -- and has its depth
  pub depth : (x : ℕ) → depth_in g (path_of w i) x ≡ depth_at (its_code g w i) x
  depth x = ap (λ m. depth_at (code_of g m) x) path-code

  -- which is right for what it does
  pub right : (x : ℕ) (k : Kind) → x < length (its_code g w i).nodes → kind_at (its_code g w i) x ≡ k → has_right_depth g (its_code g w i) x k ≡ true
  right x k l e = right-depth g place.accepted (activation_at w i).code (place.sound.codes i place.there) x k l e

  -- an operand that is no call has a value, which its word stands for
  pub any-operand : (a u : ℕ) → IsNoCall (kind_at (its_code g w i) a) → word_of w i a ≡ u ∷ []
      → (v : Value) × StandsFor g w (depth_at (its_code g w i) a) u v × Holds g args (Val (path_of w i) a v)
  any-operand a u none h = go (place.sound.words i a u place.there h)
    where
      go : IsValue g args w (path_of w i) a u → (v : Value) × StandsFor g w (depth_at (its_code g w i) a) u v × Holds g args (Val (path_of w i) a v)
      go k = (k.value, ⊎_elim (λ m. absurd (none m.0 (sym (node a) ∙ m.1))) (λ m. subst (λ d. StandsFor g w d u k.value) (depth a) m.1) k.means, k.holds)

  -- at depth 0 it is the word
  pub word-operand : (a u : ℕ) → IsNoCall (kind_at (its_code g w i) a) → depth_at (its_code g w i) a ≡ 0 → word_of w i a ≡ u ∷ []
      → Holds g args (Val (path_of w i) a (Word u))
  word-operand a u none flat h =
      let v = any-operand a u none h in
      let same : v.0 ≡ Word u = subst (λ d. StandsFor g w d u v.0) flat v.1 in
      subst (λ y. Holds g args (Val (path_of w i) a y)) same v.2

  -- of a call it is the activation
  pub call-is : (f u d : ℕ) → kind_at (its_code g w i) f ≡ Call d → word_of w i f ≡ u ∷ []
      → IsNumber w (f ∷ path_of w i) u × Holds g args (Val (path_of w i) f (Activation (f ∷ path_of w i)))
  call-is f u d e h = go (place.sound.words i f u place.there h)
    where
      go : IsValue g args w (path_of w i) f u → IsNumber w (f ∷ path_of w i) u × Holds g args (Val (path_of w i) f (Activation (f ∷ path_of w i)))
      go k = ⊎_elim (λ m. (m.2, subst (λ y. Holds g args (Val (path_of w i) f y)) m.3 k.holds)) (λ m. absurd (m.0 d (node f ∙ e))) k.means

  -- a node that is no call gets a word that stands for its value
  pub a-value : (x u : ℕ) (v : Value) (k : Kind) → kind_at (its_code g w i) x ≡ k → calls k ≡ false → StandsFor g w (depth_at (its_code g w i) x) u v
      → Holds g args (Val (path_of w i) x v)
      → IsValue g args w (path_of w i) x u
  a-value x u v k e none stands holds =
      record { value = v; means = inr (no-call _ k (node x ∙ e) none, subst (λ d. StandsFor g w d u v) (sym (depth x)) stands); holds = holds }

  -- at depth 0 a word stands for itself
  pub flat-word : (x u : ℕ) → depth_at (its_code g w i) x ≡ 0 → StandsFor g w (depth_at (its_code g w i) x) u (Word u)
  flat-word x u e = subst (λ d. StandsFor g w d u (Word u)) (sym e) refl

module _ {g : Graph} {args : List ℕ} {w : World} {i x : ℕ} (firer : MayFire g args w i x) where
  -- the block of the node is entered, by its path
  pub here : Holds g args (Entered (path_of w i) (block_of g (path_of w i) x))
  here = subst (λ b. Holds g args (Entered (path_of w i) b)) (sym (ap (λ m. block_at (code_of g m) x) (path-code firer.stands))) firer.open_block

  -- an outlet fires with values of its operands
  pub fires : (k : Kind) (vs : List Value) → kind_at (its_code g w i) x ≡ k → is_outlet k ≡ true → length vs ≡ length (operands_of (its_code g w i) k)
      → AllByRecursion (Holds g args) (values (path_of w i) (operands_of (its_code g w i) k) vs) → Holds g args (Fired (path_of w i) x vs)
  fires k vs e outlet long operands =
      holds-by g args (outlet_fires (subst (λ d. is_outlet d ≡ true) (sym (node firer.stands x ∙ e)) outlet) (long ∙ sym (ap length ops)))
      (here, subst (λ xs. AllByRecursion (Holds g args) (values (path_of w i) xs vs)) (sym ops) operands)
    where
      ops : operands_of (the_code g (path_of w i)) (node_of g (path_of w i) x) ≡ operands_of (its_code g w i) k
      ops = ap (λ m. operands_of (code_of g m) (kind_at (code_of g m) x)) (path-code firer.stands) ∙ ap (λ d. operands_of (its_code g w i) d) e

  -- the node's line names what it may name
  pub its_line : (k : Kind) → kind_at (its_code g w i) x ≡ k → is_line (length g.codes) (its_code g w i) k ≡ true
  its_line k e = line g firer.stands.accepted (activation_at w i).code (firer.stands.sound.codes i firer.stands.there) x k firer.inside e

  -- the changes of one word
  pub one-word : (u : ℕ) (v : Value) (k : Kind) → kind_at (its_code g w i) x ≡ k → calls k ≡ false → StandsFor g w (depth_at (its_code g w i) x) u v
      → Holds g args (Val (path_of w i) x v)
      → IsSoundEffect g args w (changes (got w i x u))
  one-word u v k e none stands holds = record {
    world = sound-got g args w i x u firer.stands.sound
        (a-value firer.stands x u v k e none stands holds);
    grows = grows-got w i x u;
    sends = tt;
  }

  -- and of messages alone
  pub some-sent : (ms : List Message) → AllByRecursion (IsMessage g args w) ms → IsSoundEffect g args w (sends_only w ms)
  some-sent ms h = record { world = firer.stands.sound; grows = grows-same w; sends = h }
