-- What the words on a world say after a node got a word, a block was entered, or an activation began.
use Rattle.std.proofs.Common.{Option, true≢false, ◌≡◌, ◌≢◌, ℕ, zero, suc, ◌<◌, ◌≤◌, Bool, true, false, ◌==◌, ◌||◌, List, [], ◌∷◌, ◌++◌, nat_lt, subst, Some}
use Rattle.std.proofs.Common.{None, length, slice_get, refl, sym, ap, ◌∙◌, arith, tests, ◌⊎◌, inl, inr, ⊎_elim}
use Rattle.std.specs.Prelude.{is_some}
use Rattle.std.proofs.lemmas.Option.{slice_get_past}
use Rattle.tam_word.specs.Lists.{changed_at}
use Rattle.tam_word.proofs.Each.{get-left, get-last, length-changed_at}
use Rattle.tam_word.proofs.Tests.{number-eq, number-differs}
use Rattle.tam_word.proofs.ChangedAt.{changed_at-same, changed_at-other, changed_at-past}
use Rattle.tam_graph.specs.Graphs.{Graph, code_of}
use Rattle.tam_world.specs.Worlds.{World, ActivationState, begun, or_activation, activation_at, its_code, word_at, has_word, has_entered, with_word, with_block}
use Rattle.tam_world.specs.Worlds.{got, entered}
use Rattle.tam_world.specs.Effects.{with_begun}
use Rattle.tam_eval.proofs.Activations.{its_word, is_in, word-with_word, word-with_word_other, has-with_word, block-with_block, block-with_block_other}
use Rattle.tam_eval.proofs.Activations.{block-begun}

-- the activation is there
abbrev pub IsLive : World → ℕ → Type 0
IsLive w i = i < length w.activations

-- a world with an activation changed
abbrev pub with_changed : World → ℕ → (ActivationState → ActivationState) → World
with_changed w i f = record w { activations = changed_at i f w.activations }

-- a node that has no word has none
pub no_word : (w : World) (i y : ℕ) → has_word w i y ≡ false → word_at w i y ≡ None
no_word w i y h = go (word_at w i y) h
  where
    go : (o : Option ℕ) → is_some o ≡ false → o ≡ None
    go None k = refl
    go (Some u) k = absurd (true≢false k)

-- what stands at a place below the length is some element
there : {X : Type 0} (xs : List X) (n : ℕ) → n < length xs → (x : X) × (slice_get xs n ≡ Some x)
there [] n l = absurd (omega arith)
there (x ∷ xs) zero l = (x, refl)
there (x ∷ xs) (suc n) l = there xs n (omega arith)

module _ (w : World) (i : ℕ) (f : ActivationState → ActivationState) where
  -- there are as many activations
  pub length-with_changed : length (with_changed w i f).activations ≡ length w.activations
  length-with_changed = length-changed_at i f w.activations

  -- the activation that was changed
  pub changed-activation : IsLive w i → activation_at (with_changed w i f) i ≡ f (activation_at w i)
  changed-activation l =
      let t = there w.activations i l in
      ap or_activation (changed_at-same i f w.activations t.0 t.1) ∙ sym (ap (λ o. f (or_activation o)) t.1)

  -- each other activation
  pub other-activation : (j : ℕ) → i ≢ j → activation_at (with_changed w i f) j ≡ activation_at w j
  other-activation j h = ap or_activation (changed_at-other i j f w.activations h)

  -- each activation is what it was, or the changed one
  pub changed-cases : (j : ℕ) → (activation_at (with_changed w i f) j ≡ activation_at w j)
      ⊎ ((i ≡ j) × (activation_at (with_changed w i f) j ≡ f (activation_at w j)))
  changed-cases j = go (i == j) refl (nat_lt i (length w.activations)) refl
    where
      go : (b : Bool) → (i == j) ≡ b → (d : Bool) → nat_lt i (length w.activations) ≡ d
          → (activation_at (with_changed w i f) j ≡ activation_at w j) ⊎ ((i ≡ j) × (activation_at (with_changed w i f) j ≡ f (activation_at w j)))
      go false e d k = inl (other-activation j (number-differs i j e))
      go true e true k =
          let same : i ≡ j = number-eq i j e in
          inr (same, subst (λ m. activation_at (with_changed w i f) m ≡ f (activation_at w m)) same (changed-activation (grind (arith, tests))))
      go true e false k = inl (ap (λ l. or_activation (slice_get l j)) (changed_at-past i f w.activations (grind (arith, tests))))

  -- an activation that isn't there isn't changed
  pub nothing-changed : length w.activations ≤ i → with_changed w i f ≡ w
  nothing-changed l = ap (λ l. record w { activations = l }) (changed_at-past i f w.activations l)

-- ---- a node got a word

module _ (w : World) (i y v : ℕ) where
  -- each activation keeps its code
  pub code-got : (g : Graph) (j : ℕ) → its_code g (got w i y v) j ≡ its_code g w j
  code-got g j = ⊎_elim (λ e. ap (λ a. code_of g a.code) e) (λ e. ap (λ a. code_of g a.code) e.1) (changed-cases w i (with_word y v) j)

  -- and its caller
  pub caller-got : (j : ℕ) → (activation_at (got w i y v) j).caller ≡ (activation_at w j).caller
  caller-got j = ⊎_elim (λ e. ap (λ a. a.caller) e) (λ e. ap (λ a. a.caller) e.1) (changed-cases w i (with_word y v) j)

  -- and the call that began it
  pub call-got : (j : ℕ) → (activation_at (got w i y v) j).call ≡ (activation_at w j).call
  call-got j = ⊎_elim (λ e. ap (λ a. a.call) e) (λ e. ap (λ a. a.call) e.1) (changed-cases w i (with_word y v) j)

  -- the node has the word
  pub word-got : IsLive w i → word_at (got w i y v) i y ≡ Some v
  word-got l = ap (λ a. its_word a y) (changed-activation w i (with_word y v) l) ∙ word-with_word (activation_at w i) y v

  -- each other node has what it had
  pub word-got_other_node : (j x : ℕ) → y ≢ x → word_at (got w i y v) j x ≡ word_at w j x
  word-got_other_node j x h =
      ⊎_elim (λ e. ap (λ a. its_word a x) e) (λ e. ap (λ a. its_word a x) e.1 ∙ word-with_word_other (activation_at w j) y v x h)
      (changed-cases w i (with_word y v) j)

  -- and so has each node of another activation
  pub word-got_other_activation : (j x : ℕ) → i ≢ j → word_at (got w i y v) j x ≡ word_at w j x
  word-got_other_activation j x h = ap (λ a. its_word a x) (other-activation w i (with_word y v) j h)

  -- which nodes have words
  pub has_word-got : (x : ℕ) → IsLive w i → has_word (got w i y v) i x ≡ ((y == x) || has_word w i x)
  has_word-got x l = ap (λ a. is_some (its_word a x)) (changed-activation w i (with_word y v) l) ∙ has-with_word (activation_at w i) y v x

  -- no block was entered
  pub block-got : (j b : ℕ) → has_entered (got w i y v) j b ≡ has_entered w j b
  block-got j b = ⊎_elim (λ e. ap (λ a. is_in a b) e) (λ e. ap (λ a. is_in a b) e.1) (changed-cases w i (with_word y v) j)

-- ---- a block was entered

module _ (w : World) (i b : ℕ) where
  -- each activation keeps its code
  pub code-entered : (g : Graph) (j : ℕ) → its_code g (entered w i b) j ≡ its_code g w j
  code-entered g j = ⊎_elim (λ e. ap (λ a. code_of g a.code) e) (λ e. ap (λ a. code_of g a.code) e.1) (changed-cases w i (with_block b) j)

  -- and its caller
  pub caller-entered : (j : ℕ) → (activation_at (entered w i b) j).caller ≡ (activation_at w j).caller
  caller-entered j = ⊎_elim (λ e. ap (λ a. a.caller) e) (λ e. ap (λ a. a.caller) e.1) (changed-cases w i (with_block b) j)

  -- and the call that began it
  pub call-entered : (j : ℕ) → (activation_at (entered w i b) j).call ≡ (activation_at w j).call
  call-entered j = ⊎_elim (λ e. ap (λ a. a.call) e) (λ e. ap (λ a. a.call) e.1) (changed-cases w i (with_block b) j)

  -- each node has what it had
  pub word-entered : (j x : ℕ) → word_at (entered w i b) j x ≡ word_at w j x
  word-entered j x = ⊎_elim (λ e. ap (λ a. its_word a x) e) (λ e. ap (λ a. its_word a x) e.1) (changed-cases w i (with_block b) j)

  -- the block was entered
  pub block-entered : IsLive w i → has_entered (entered w i b) i b ≡ true
  block-entered l = ap (λ a. is_in a b) (changed-activation w i (with_block b) l) ∙ block-with_block (activation_at w i) b

  -- each other block is as it was
  pub block-entered_other_block : (j d : ℕ) → b ≢ d → has_entered (entered w i b) j d ≡ has_entered w j d
  block-entered_other_block j d h =
      ⊎_elim (λ e. ap (λ a. is_in a d) e) (λ e. ap (λ a. is_in a d) e.1 ∙ block-with_block_other (activation_at w j) b d h)
      (changed-cases w i (with_block b) j)

  -- and so is each block of another activation
  pub block-entered_other_activation : (j d : ℕ) → i ≢ j → has_entered (entered w i b) j d ≡ has_entered w j d
  block-entered_other_activation j d h = ap (λ a. is_in a d) (other-activation w i (with_block b) j h)

-- ---- an activation began

module _ (w : World) (k f x : ℕ) where
  -- there is one more
  pub length-begun : length (with_begun w k f x).activations ≡ suc (length w.activations)
  length-begun = longer w.activations
    where
      longer : (l : List ActivationState) → length (l ++ begun k f x ∷ []) ≡ suc (length l)
      longer [] = refl
      longer (a ∷ l) = ap suc (longer l)

  -- those before it are what they were
  pub activation-begun_before : (j : ℕ) → IsLive w j → activation_at (with_begun w k f x) j ≡ activation_at w j
  activation-begun_before j l = ap or_activation (get-left w.activations (begun k f x ∷ []) j l)

  -- it is the last
  pub activation-begun : activation_at (with_begun w k f x) (length w.activations) ≡ begun k f x
  activation-begun = ap or_activation (get-last w.activations (begun k f x))

  -- each other place is what it was
  pub activation-begun_other : (j : ℕ) → length w.activations ≢ j → activation_at (with_begun w k f x) j ≡ activation_at w j
  activation-begun_other j h = go (nat_lt j (length w.activations)) refl
    where
      go : (b : Bool) → nat_lt j (length w.activations) ≡ b → activation_at (with_begun w k f x) j ≡ activation_at w j
      go true e = activation-begun_before j (grind (arith, tests))
      go false e =
          let past : suc (length w.activations) ≤ j = grind (arith, tests) in
          ap or_activation (slice_get_past (with_begun w k f x).activations j (omega (arith, length-begun))
          ∙ sym (slice_get_past w.activations j (omega arith)))

  -- its code
  pub code-begun : (g : Graph) → its_code g (with_begun w k f x) (length w.activations) ≡ code_of g k
  code-begun g = ap (λ a. code_of g a.code) activation-begun

  -- the codes of those before it
  pub code-begun_before : (g : Graph) (j : ℕ) → IsLive w j → its_code g (with_begun w k f x) j ≡ its_code g w j
  code-begun_before g j l = ap (λ a. code_of g a.code) (activation-begun_before j l)

  -- it has no words
  pub word-begun : (z : ℕ) → word_at (with_begun w k f x) (length w.activations) z ≡ None
  word-begun z = ap (λ a. its_word a z) activation-begun

  -- the others have the words that they had
  pub word-begun_other : (j z : ℕ) → length w.activations ≢ j → word_at (with_begun w k f x) j z ≡ word_at w j z
  word-begun_other j z h = ap (λ a. its_word a z) (activation-begun_other j h)

  -- it has entered its body alone
  pub block-begun_new : (b : ℕ) → has_entered (with_begun w k f x) (length w.activations) b ≡ (b == 0)
  block-begun_new b = ap (λ a. is_in a b) activation-begun ∙ block-begun k f x b

  -- the others have entered what they had
  pub block-begun_other : (j b : ℕ) → length w.activations ≢ j → has_entered (with_begun w k f x) j b ≡ has_entered w j b
  block-begun_other j b h = ap (λ a. is_in a b) (activation-begun_other j h)

-- nothing is known of an activation that isn't there
pub activation-past : (w : World) (j : ℕ) → length w.activations ≤ j → activation_at w j ≡ or_activation None
activation-past w j l = ap or_activation (slice_get_past w.activations j l)
