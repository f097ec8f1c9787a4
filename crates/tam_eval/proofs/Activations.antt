-- One activation's words and blocks, and which of its nodes may fire, after it got a word, entered a block, or began.
use Rattle.std.proofs.Common.{◌≡◌, ◌≢◌, ℕ, zero, suc, Bool, true, false, not, ◌==◌, ◌||◌, ◌&&◌, List, [], ◌∷◌, Option, Some, None, slice_index_or, refl, sym}
use Rattle.std.proofs.Common.{ap, ◌∙◌, ⊎_elim, true≢false, arith}
use Rattle.std.specs.Prelude.{is_some}
use Rattle.tam_word.specs.Lists.{all_of, has}
use Rattle.tam_word.proofs.Tests.{number-eq, number-differs, differs-number}
use Rattle.tam_word.proofs.PutAt.{put_at-here, put_at-cases}
use Rattle.tam_word.proofs.AllOf.{all_of-alike, all_of-but, all_of-fails, all_of-more}
use Rattle.tam_graph.specs.Graphs.{Code, kind_at, block_at, operands_of, fires}
use Rattle.tam_world.specs.Worlds.{ActivationState, begun, with_word, with_block}
use Rattle.tam_world.specs.Takers.{is_none}

-- the word that node x of an activation has got
abbrev pub its_word : ActivationState → ℕ → Option ℕ
its_word a x = slice_index_or a.words x None

-- the activation has entered block b
abbrev pub is_in : ActivationState → ℕ → Bool
is_in a b = slice_index_or a.entered b false

-- all operands of a node have words
abbrev pub is_fed : Code → ActivationState → ℕ → Bool
is_fed c a x = all_of (λ y. is_some (its_word a y)) (operands_of c (kind_at c x))

-- three tests, the later ones looked at only where the earlier ones hold
abbrev pub gate : Bool → Bool → Bool → Bool
gate s t u = elim s [ false ↦ false | true ↦ elim t [ false ↦ false | true ↦ u ] ]

-- node x of an activation of a code may fire
abbrev pub may_fire : Code → ActivationState → ℕ → Bool
may_fire c a x = gate (fires (kind_at c x)) (is_in a (block_at c x)) (is_fed c a x)

-- it holds after an event and didn't before it
abbrev pub newly : Bool → Bool → Bool
newly after before = elim after [ false ↦ false | true ↦ not before ]

-- ---- words and blocks

-- the node that got a word has it
pub word-with_word : (a : ActivationState) (y v : ℕ) → its_word (with_word y v a) y ≡ Some v
word-with_word a y v = put_at-here None y (Some v) a.words

-- each other node has what it had
pub word-with_word_other : (a : ActivationState) (y v x : ℕ) → y ≢ x → its_word (with_word y v a) x ≡ its_word a x
word-with_word_other a y v x h = ⊎_elim (λ e. absurd (h e)) (λ k. k.1) (put_at-cases None y (Some v) a.words x)

-- which nodes have words
pub has-with_word : (a : ActivationState) (y v x : ℕ) → is_some (its_word (with_word y v a) x) ≡ ((y == x) || is_some (its_word a x))
has-with_word a y v x = go (y == x) refl
  where
    go : (b : Bool) → (y == x) ≡ b → is_some (its_word (with_word y v a) x) ≡ (b || is_some (its_word a x))
    go true e = rw (← number-eq y x e, word-with_word a y v) refl
    go false e = ap is_some (word-with_word_other a y v x (number-differs y x e))

-- a node that had a word has one still
pub had-with_word : (a : ActivationState) (y v x : ℕ) → is_some (its_word a x) ≡ true → is_some (its_word (with_word y v a) x) ≡ true
had-with_word a y v x h = has-with_word a y v x ∙ or_true (y == x) h
  where
    or_true : (b : Bool) {t : Bool} → t ≡ true → (b || t) ≡ true
    or_true true k = refl
    or_true false k = k

-- the block that was entered is
pub block-with_block : (a : ActivationState) (b : ℕ) → is_in (with_block b a) b ≡ true
block-with_block a b = put_at-here false b true a.entered

-- each other block is as it was
pub block-with_block_other : (a : ActivationState) (b d : ℕ) → b ≢ d → is_in (with_block b a) d ≡ is_in a d
block-with_block_other a b d h = ⊎_elim (λ e. absurd (h e)) (λ k. k.1) (put_at-cases false b true a.entered d)

-- a block that was entered is so still
pub was-with_block : (a : ActivationState) (b d : ℕ) → is_in a d ≡ true → is_in (with_block b a) d ≡ true
was-with_block a b d h = go (b == d) refl
  where
    go : (t : Bool) → (b == d) ≡ t → is_in (with_block b a) d ≡ true
    go true e = rw (← number-eq b d e) (block-with_block a b)
    go false e = block-with_block_other a b d (number-differs b d e) ∙ h

-- an activation that begins is in its body alone
pub block-begun : (k f x b : ℕ) → is_in (begun k f x) b ≡ (b == 0)
block-begun k f x zero = refl
block-begun k f x (suc b) = sym (differs-number (suc b) 0 (λ e. absurd (omega arith)))

-- ---- which nodes may fire

-- all three tests hold
pub gate-all : (s t u : Bool) → gate s t u ≡ (s && (t && u))
gate-all false t u = refl
gate-all true false u = refl
gate-all true true u = refl

-- where each holds, the gate is open
pub gate-open : (s t u : Bool) → s ≡ true → t ≡ true → u ≡ true → gate s t u ≡ true
gate-open true true true d e f = refl
gate-open true true false d e f = f
gate-open true false u d e f = e
gate-open false t u d e f = d

-- and where it is open, each holds
pub open-gate : (s t u : Bool) → gate s t u ≡ true → (s ≡ true) × (t ≡ true) × (u ≡ true)
open-gate true true u h = (refl, refl, h)
open-gate true false u h = absurd (true≢false (sym h))
open-gate false t u h = absurd (true≢false (sym h))

-- nothing is new that was so before
pub newly-same : (t : Bool) → newly t t ≡ false
newly-same true = refl
newly-same false = refl

-- where nothing was so before, all that is so is new
pub newly-all : (t : Bool) → newly t false ≡ t
newly-all true = refl
newly-all false = refl

-- where the last test alone may have changed, and only under a condition
newly-last : (s t u v h : Bool) → (h ≡ true → u ≡ false) → (h ≡ false → v ≡ u) → newly (gate s t v) (gate s t u) ≡ ((s && h) && gate s t v)
newly-last false t u v h d e = refl
newly-last true false u v true d e = refl
newly-last true false u v false d e = refl
newly-last true true u v true d e = rw (d refl) (newly-all v)
newly-last true true u v false d e = rw (e refl) (newly-same u)

-- where the test in the middle alone may have changed, and only under a condition
newly-middle : (s t r u h : Bool) → (h ≡ true → t ≡ false) → (h ≡ false → r ≡ t) → newly (gate s r u) (gate s t u) ≡ ((h && s) && gate s r u)
newly-middle false t r u true d e = refl
newly-middle false t r u false d e = refl
newly-middle true t r u true d e = rw (d refl) (newly-all (gate true r u))
newly-middle true t r u false d e = rw (e refl) (newly-same (gate true t u))

module _ (c : Code) (a : ActivationState) where
  -- after node y got its first word, those of its takers that may fire may newly fire
  pub newly-word : (y v x : ℕ) → its_word a y ≡ None
      → newly (may_fire c (with_word y v a) x) (may_fire c a x)
      ≡ ((fires (kind_at c x) && has (operands_of c (kind_at c x)) y) && may_fire c (with_word y v a) x)
  newly-word y v x h =
      newly-last (fires (kind_at c x)) (is_in a (block_at c x)) (is_fed c a x) (is_fed c (with_word y v a) x) (has (operands_of c (kind_at c x)) y)
      (λ k. all_of-fails (λ z. is_some (its_word a z)) y (ap is_some h) (operands_of c (kind_at c x)) k)
      (λ k. all_of-but (λ z. is_some (its_word (with_word y v a) z)) (λ z. is_some (its_word a z)) y
      (λ z e. ap is_some (word-with_word_other a y v z e)) (operands_of c (kind_at c x)) k)

  -- a word makes none able to fire that doesn't take it
  pub stays-word : (y v x : ℕ) → has (operands_of c (kind_at c x)) y ≡ false → may_fire c (with_word y v a) x ≡ may_fire c a x
  stays-word y v x h =
      ap (gate (fires (kind_at c x)) (is_in a (block_at c x)))
      (all_of-but (λ z. is_some (its_word (with_word y v a) z)) (λ z. is_some (its_word a z)) y (λ z e. ap is_some (word-with_word_other a y v z e))
      (operands_of c (kind_at c x)) h)

  -- a node that had a word makes none able to fire by another
  pub again-word : (y v x : ℕ) → is_some (its_word a y) ≡ true → may_fire c (with_word y v a) x ≡ may_fire c a x
  again-word y v x h = ap (λ u. gate (fires (kind_at c x)) (is_in a (block_at c x)) u)
      (all_of-alike (λ z. is_some (its_word (with_word y v a) z)) (λ z. is_some (its_word a z)) alike (operands_of c (kind_at c x)))
    where
      alike : (z : ℕ) → is_some (its_word (with_word y v a) z) ≡ is_some (its_word a z)
      alike z = has-with_word a y v z ∙ go (y == z) refl
        where
          go : (b : Bool) → (y == z) ≡ b → (b || is_some (its_word a z)) ≡ is_some (its_word a z)
          go true e = sym (ap (λ k. is_some (its_word a k)) (sym (number-eq y z e)) ∙ h)
          go false e = refl

  -- after a block was entered, those of its nodes that may fire may newly fire
  pub newly-block : (b x : ℕ) → is_in a b ≡ false
      → newly (may_fire c (with_block b a) x) (may_fire c a x) ≡ (((block_at c x == b) && fires (kind_at c x)) && may_fire c (with_block b a) x)
  newly-block b x h =
      newly-middle (fires (kind_at c x)) (is_in a (block_at c x)) (is_in (with_block b a) (block_at c x)) (is_fed c a x) (block_at c x == b)
      (λ k. ap (is_in a) (number-eq (block_at c x) b k) ∙ h)
      (λ k. block-with_block_other a b (block_at c x) (λ e. number-differs (block_at c x) b k (sym e)))

  -- a block that was entered makes none able to fire by being entered again
  pub again-block : (b x : ℕ) → is_in a b ≡ true → may_fire c (with_block b a) x ≡ may_fire c a x
  again-block b x h = ap (λ t. gate (fires (kind_at c x)) t (is_fed c a x)) (go (b == block_at c x) refl)
    where
      go : (t : Bool) → (b == block_at c x) ≡ t → is_in (with_block b a) (block_at c x) ≡ is_in a (block_at c x)
      go true e = rw (← number-eq b (block_at c x) e) (block-with_block a b ∙ sym h)
      go false e = block-with_block_other a b (block_at c x) (number-differs b (block_at c x) e)

  -- the nodes of a block that was entered may fire where their operands have words
  pub may_fire-with_block : (b x : ℕ) → block_at c x ≡ b → may_fire c (with_block b a) x ≡ (fires (kind_at c x) && is_fed c a x)
  may_fire-with_block b x h =
      ap (λ t. gate (fires (kind_at c x)) t (is_fed c a x)) (ap (is_in (with_block b a)) h ∙ block-with_block a b)
      ∙ gate-all (fires (kind_at c x)) true (is_fed c a x)

  -- what may fire may fire with one more word
  pub keeps-word : (y v x : ℕ) → may_fire c a x ≡ true → may_fire c (with_word y v a) x ≡ true
  keeps-word y v x h =
      let parts = open-gate (fires (kind_at c x)) (is_in a (block_at c x)) (is_fed c a x) h in
      gate-open (fires (kind_at c x)) (is_in a (block_at c x)) (is_fed c (with_word y v a) x) parts.0 parts.1
      (all_of-more (λ z. is_some (its_word a z)) (λ z. is_some (its_word (with_word y v a) z)) (λ z k. had-with_word a y v z k)
      (operands_of c (kind_at c x)) parts.2)

  -- and with one more block
  pub keeps-block : (b x : ℕ) → may_fire c a x ≡ true → may_fire c (with_block b a) x ≡ true
  keeps-block b x h =
      let parts = open-gate (fires (kind_at c x)) (is_in a (block_at c x)) (is_fed c a x) h in
      gate-open (fires (kind_at c x)) (is_in (with_block b a) (block_at c x)) (is_fed c a x) parts.0 (was-with_block a b (block_at c x) parts.1) parts.2

-- in an activation that begins, the nodes of the body without operands may fire
pub may_fire-begun : (c : Code) (k f z x : ℕ)
    → may_fire c (begun k f z) x ≡ (((block_at c x == 0) && fires (kind_at c x)) && is_none (operands_of c (kind_at c x)))
may_fire-begun c k f z x =
    ap (λ t. gate (fires (kind_at c x)) t (is_fed c (begun k f z) x)) (block-begun k f z (block_at c x))
    ∙ ap (gate (fires (kind_at c x)) (block_at c x == 0)) (fed (operands_of c (kind_at c x)))
    ∙ turned (fires (kind_at c x)) (block_at c x == 0) (is_none (operands_of c (kind_at c x)))
  where
    fed : (ys : List ℕ) → all_of (λ y. is_some (its_word (begun k f z) y)) ys ≡ is_none ys
    fed [] = refl
    fed (y ∷ ys) = refl

    turned : (s t u : Bool) → gate s t u ≡ ((t && s) && u)
    turned true true u = refl
    turned true false u = refl
    turned false true u = refl
    turned false false u = refl
