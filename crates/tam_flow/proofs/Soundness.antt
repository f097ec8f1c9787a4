-- Whatever a legal journal tells is given by the firing rules.
use Rattle.std.proofs.Common.{◌≡◌, ℕ, zero, suc, Bool, true, false, List, [], ◌∷◌, length, refl, sym, ap, ap₂, ◌∙◌, subst, ⊎_elim, true≢false}
use Rattle.std.specs.List.{AllByRecursion}
use Rattle.tam_word.specs.Lists.{any_of}
use Rattle.tam_graph.specs.declared.kind.Kind.{Kind}
use Rattle.tam_graph.specs.declared.kind.Kind.TheVariants.{Call}
use Rattle.tam_graph.specs.Graphs.{Graph, code_of, kind_at, block_at, depth_at, operands_of, is_outlet}
use Rattle.tam_split.specs.GraphPartitions.{Partitions}
use Rattle.tam_split.specs.Partitions.{class_of}
use Rattle.tam_fire.specs.FiringRules.{Value, Word, Activation, Array, Fact, Begun, Entered, Val, Fired, Holds, values, node_of, block_of, code_at, the_code}
use Rattle.tam_fire.specs.FiringRules.{outlet_fires}
use Rattle.tam_fire.proofs.Following.{holds-by}
use Rattle.tam_world.specs.Worlds.{World, activation_at, its_code}
use Rattle.tam_flow.specs.Journals.{State, has_run, state_after, block_of_act, parts_of_act}
use Rattle.tam_flow.specs.Told.{path_of, array_of, meant_at, HasWord, HaveWords, outlet_place, IsNumber, Tells}
use Rattle.tam_flow.specs.JournalLaws.{Sound}
use Rattle.tam_flow.specs.Reached.{IsThere}
use Rattle.tam_flow.proofs.Justified.{StandsFor, IsNoCall, Means, IsValue, IsSoundWorld, depth_in}
use Rattle.tam_flow.proofs.SoundStates.{IsSoundState, sound-journal}

-- where a test of any passes, one passes
pub any-one : {X : Type 0} (test : X → Bool) (xs : List X) → any_of test xs ≡ true → (x : X) × (test x ≡ true)
any-one test [] h = absurd (true≢false (sym h))
any-one test (x ∷ xs) h = go (test x) refl (any-one test xs)
  where
    go : (b : Bool) → test x ≡ b → (any_of test xs ≡ true → (y : _) × (test y ≡ true)) → (y : _) × (test y ≡ true)
    go true e ih = (x, e)
    go false e ih = ih (rw (any_of, e) at h)

-- what a word means by its depth
abbrev by_depth : World → ℕ → ℕ → Value
by_depth w zero u = Word u
by_depth w (suc d) u = array_of w u

-- the word of a node that is no call means what its depth says
meant-flat : (w : World) (k : Kind) (d u : ℕ) → IsNoCall k → meant_at w k d u ≡ by_depth w d u
meant-flat w (Call c) d u h = absurd (h c refl)
meant-flat w k zero u h = refl
meant-flat w k (suc d) u h = refl

-- what a word stands for is what its depth says
stands-meant : (g : Graph) (w : World) (d u : ℕ) (v : Value) → StandsFor g w d u v → by_depth w d u ≡ v
stands-meant g w zero u v h = sym h
stands-meant g w (suc d) u v h = ap₂ (λ p z. Array p z) h.2.number.1 h.2.alloc ∙ sym h.4

module _ (g : Graph) (args : List ℕ) where
  -- a word that stands for a value means it
  pub means-meant : (w : World) (sound : IsSoundWorld g args w) (i x u : ℕ) (v : Value) → IsThere w i → Means g w (path_of w i) x u v
      → meant_at w (kind_at (its_code g w i) x) (depth_at (its_code g w i) x) u ≡ v
  means-meant w sound i x u v t m =
      subst (λ n. meant_at w (kind_at (code_of g n) x) (depth_at (code_of g n) x) u ≡ v) (sound.path_codes i t) (⊎_elim call flat m)
    where
      call : (c : ℕ) × (node_of g (path_of w i) x ≡ Call c) × IsNumber w (x ∷ path_of w i) u × (v ≡ Activation (x ∷ path_of w i))
          → meant_at w (node_of g (path_of w i) x) (depth_in g (path_of w i) x) u ≡ v
      call h = rw (h.1) (ap Activation h.2.1 ∙ sym h.3)

      flat : IsNoCall (node_of g (path_of w i) x) × StandsFor g w (depth_in g (path_of w i) x) u v
          → meant_at w (node_of g (path_of w i) x) (depth_in g (path_of w i) x) u ≡ v
      flat h = meant-flat w (node_of g (path_of w i) x) (depth_in g (path_of w i) x) u h.0 ∙ stands-meant g w (depth_in g (path_of w i) x) u v h.1

  -- so each told value holds
  pub word-holds : (w : World) (sound : IsSoundWorld g args w) (i x : ℕ) (v : Value) → IsThere w i → HasWord g w i x v → Holds g args (Val (path_of w i) x v)
  word-holds w sound i x v t h = go (sound.words i x h.0 t h.1)
    where
      go : IsValue g args w (path_of w i) x h.0 → Holds g args (Val (path_of w i) x v)
      go k = subst (λ y. Holds g args (Val (path_of w i) x y)) (sym (h.2 ∙ means-meant w sound i x h.0 k.value t k.means)) k.holds

  -- the values that nodes have, by their words, hold
  words-hold : (w : World) (sound : IsSoundWorld g args w) (i : ℕ) (xs : List ℕ) (vs : List Value) → IsThere w i → HaveWords g w i xs vs
      → (length vs ≡ length xs) × AllByRecursion (Holds g args) (values (path_of w i) xs vs)
  words-hold w sound i [] [] t h = (refl, tt)
  words-hold w sound i [] (v ∷ vs) t h = absurd h
  words-hold w sound i (x ∷ xs) [] t h = absurd h
  words-hold w sound i (x ∷ xs) (v ∷ vs) t h = let rest = words-hold w sound i xs vs t h.1 in (ap suc rest.0, (word-holds w sound i x v t h.0, rest.1))

  -- what a state tells that has its reasons
  pub told-holds : (all : Partitions) (s : State) → IsSoundState g args s → (fact : Fact) → Tells g all s fact → Holds g args fact
  told-holds all s sound (Begun q) h = subst (λ p. Holds g args (Begun p)) h.1.1 (sound.world.began h.0 h.1.0)
  told-holds all s sound (Entered q b) h = subst (λ p. Holds g args (Entered p b)) h.1.1 (sound.world.blocks h.0 b h.1.0 h.2).0
  told-holds all s sound (Val q x v) h = subst (λ p. Holds g args (Val p x v)) h.1.1 (word-holds s.world sound.world h.0 x v h.1.0 h.2)
  told-holds all s sound (Fired q x vs) h =
      subst (λ p. Holds g args (Fired p x vs)) h.1.1
      (holds-by g args (outlet_fires (subst (λ n. is_outlet (kind_at (code_of g n) x) ≡ true) (sym code) h.2) (words.0 ∙ sym (ap length ops)))
      (entered, subst (λ xs. AllByRecursion (Holds g args) (values (path_of s.world h.0) xs vs)) (sym ops) words.1))
    where
      code : code_at g (path_of s.world h.0) ≡ (activation_at s.world h.0).code
      code = sound.world.path_codes h.0 h.1.0

      ops : operands_of (the_code g (path_of s.world h.0)) (node_of g (path_of s.world h.0) x) ≡ operands_of (its_code g s.world h.0)
          (kind_at (its_code g s.world h.0) x)
      ops = ap (λ n. operands_of (code_of g n) (kind_at (code_of g n) x)) code

      words : (length vs ≡ length (operands_of (its_code g s.world h.0) (kind_at (its_code g s.world h.0) x)))
          × AllByRecursion (Holds g args) (values (path_of s.world h.0) (operands_of (its_code g s.world h.0) (kind_at (its_code g s.world h.0) x)) vs)
      words = words-hold s.world sound.world h.0 (operands_of (its_code g s.world h.0) (kind_at (its_code g s.world h.0) x)) vs h.1.0 h.4

      ran : (y : ℕ)
          × (has_run s h.0 (block_at (its_code g s.world h.0) x) (class_of (parts_of_act g all s h.0 (block_at (its_code g s.world h.0) x)) y) ≡ true)
      ran = any-one (λ y. has_run s h.0 (block_at (its_code g s.world h.0) x) (class_of (parts_of_act g all s h.0 (block_at (its_code g s.world h.0) x)) y))
          (outlet_place (block_of_act g s h.0 (block_at (its_code g s.world h.0) x)) x) h.3

      entered : Holds g args (Entered (path_of s.world h.0) (block_of g (path_of s.world h.0) x))
      entered =
          subst (λ b. Holds g args (Entered (path_of s.world h.0) b)) (sym (ap (λ n. block_at (code_of g n) x) code))
          (sound.world.blocks h.0 (block_at (its_code g s.world h.0) x) h.1.0
          (sound.ran h.0 (block_at (its_code g s.world h.0) x) (class_of (parts_of_act g all s h.0 (block_at (its_code g s.world h.0) x)) ran.0) ran.1).1).0

-- a legal journal is sound
pub sound : Sound
sound g all args events journal = told-holds g args all (state_after g all args events) (sound-journal g all args events journal)
