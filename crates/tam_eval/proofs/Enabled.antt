-- When a vertex may fire, in parts, and that it may still after any change.
use Rattle.std.proofs.Common.{None, ◌≡◌, ◌≢◌, ◌≤◌, ℕ, Bool, true, false, ◌==◌, ◌&&◌, List, [], ◌∷◌, length, refl, sym, ap, ◌∙◌, arith, true≢false, ⊎_elim}
use Rattle.tam_word.specs.Lists.{all_of, has}
use Rattle.tam_word.proofs.Tests.{number-eq, number-differs}
use Rattle.tam_graph.specs.Graphs.{Graph, code_of, kind_at, block_at, operands_of, fires}
use Rattle.tam_world.specs.Worlds.{World, or_activation, activation_at, its_code, has_word, has_entered, with_word, with_block, got, all_got, entered}
use Rattle.tam_eval.specs.GraphRuns.{is_enabled}
use Rattle.tam_world.specs.Takers.{is_none}
use Rattle.tam_eval.proofs.Activations.{may_fire, gate, is_fed, gate-all, gate-open, open-gate, may_fire-with_block, may_fire-begun, keeps-word, keeps-block}
use Rattle.tam_eval.proofs.Activations.{stays-word}
use Rattle.tam_world.specs.Effects.{with_begun}
use Rattle.tam_eval.proofs.Accessors.{IsLive, changed-activation, other-activation, changed-cases, activation-begun, activation-begun_other}
use Rattle.tam_eval.proofs.Accessors.{activation-past}

-- an activation that isn't there has no vertex that may fire
pub enabled-past : (g : Graph) (w : World) (j x : ℕ) → length w.activations ≤ j → is_enabled g w j x ≡ false
enabled-past g w j x l =
    ap (λ a. may_fire (code_of g a.code) a x) (activation-past w j l)
    ∙ shut (fires (kind_at (code_of g 0) x)) (is_fed (code_of g 0) (or_activation None) x)
  where
    shut : (s t : Bool) → gate s false t ≡ false
    shut true t = refl
    shut false t = refl

module _ (g : Graph) (w : World) (i x : ℕ) where
  -- a vertex may fire exactly where it is one that fires, its block was entered and its operands have words
  pub enabled-parts : is_enabled g w i x
      ≡ (fires (kind_at (its_code g w i) x)
      && (has_entered w i (block_at (its_code g w i) x) && all_of (has_word w i) (operands_of (its_code g w i) (kind_at (its_code g w i) x))))
  enabled-parts =
      gate-all (fires (kind_at (its_code g w i) x)) (has_entered w i (block_at (its_code g w i) x)) (is_fed (its_code g w i) (activation_at w i) x)

  -- where the three hold, it may
  pub parts-enabled : fires (kind_at (its_code g w i) x) ≡ true → has_entered w i (block_at (its_code g w i) x) ≡ true
      → all_of (has_word w i) (operands_of (its_code g w i) (kind_at (its_code g w i) x)) ≡ true → is_enabled g w i x ≡ true
  parts-enabled d e f =
      gate-open (fires (kind_at (its_code g w i) x)) (has_entered w i (block_at (its_code g w i) x)) (is_fed (its_code g w i) (activation_at w i) x) d e f

  -- where it may, it is one that fires
  pub enabled-fires : is_enabled g w i x ≡ true → fires (kind_at (its_code g w i) x) ≡ true
  enabled-fires h =
      (open-gate (fires (kind_at (its_code g w i) x)) (has_entered w i (block_at (its_code g w i) x)) (is_fed (its_code g w i) (activation_at w i) x) h).0

  -- its block was entered
  pub enabled-block : is_enabled g w i x ≡ true → has_entered w i (block_at (its_code g w i) x) ≡ true
  enabled-block h =
      (open-gate (fires (kind_at (its_code g w i) x)) (has_entered w i (block_at (its_code g w i) x)) (is_fed (its_code g w i) (activation_at w i) x) h).1

  -- and its operands have words
  pub enabled-words : is_enabled g w i x ≡ true → all_of (has_word w i) (operands_of (its_code g w i) (kind_at (its_code g w i) x)) ≡ true
  enabled-words h =
      (open-gate (fires (kind_at (its_code g w i) x)) (has_entered w i (block_at (its_code g w i) x)) (is_fed (its_code g w i) (activation_at w i) x) h).2

  -- after its block was entered it may fire where its operands have words
  pub enabled-entered : (b : ℕ) → IsLive w i → block_at (its_code g w i) x ≡ b
      → is_enabled g (entered w i b) i x
      ≡ (fires (kind_at (its_code g w i) x) && all_of (has_word w i) (operands_of (its_code g w i) (kind_at (its_code g w i) x)))
  enabled-entered b l h =
      ap (λ a. may_fire (code_of g a.code) a x) (changed-activation w i (with_block b) l)
      ∙ may_fire-with_block (its_code g w i) (activation_at w i) b x h

  -- where the activation is as before, it may fire as before
  pub enabled-alike : (v : World) → activation_at v i ≡ activation_at w i → is_enabled g v i x ≡ is_enabled g w i x
  enabled-alike v e = ap (λ a. may_fire (code_of g a.code) a x) e

  -- a word of another activation changes nothing
  pub enabled-got_other : (j y v : ℕ) → j ≢ i → is_enabled g (got w j y v) i x ≡ is_enabled g w i x
  enabled-got_other j y v h = enabled-alike (got w j y v) (other-activation w j (with_word y v) i h)

  -- nor does a block that another activation entered
  pub enabled-entered_other : (j b : ℕ) → j ≢ i → is_enabled g (entered w j b) i x ≡ is_enabled g w i x
  enabled-entered_other j b h = enabled-alike (entered w j b) (other-activation w j (with_block b) i h)

  -- nor does the word of a node that isn't among its operands
  pub enabled-got_no_operand : (j y v : ℕ) → has (operands_of (its_code g w i) (kind_at (its_code g w i) x)) y ≡ false
      → is_enabled g (got w j y v) i x ≡ is_enabled g w i x
  enabled-got_no_operand j y v h =
      ⊎_elim (λ e. ap (λ a. may_fire (code_of g a.code) a x) e)
      (λ e. ap (λ a. may_fire (code_of g a.code) a x) e.1 ∙ stays-word (its_code g w i) (activation_at w i) y v x h) (changed-cases w j (with_word y v) i)

  -- ---- what may fire may fire still

  -- after a node got a word
  pub enabled_stays-got : (j y v : ℕ) → is_enabled g w i x ≡ true → is_enabled g (got w j y v) i x ≡ true
  enabled_stays-got j y v h =
      ⊎_elim (λ e. ap (λ a. may_fire (code_of g a.code) a x) e ∙ h)
      (λ e. ap (λ a. may_fire (code_of g a.code) a x) e.1 ∙ keeps-word (its_code g w i) (activation_at w i) y v x h) (changed-cases w j (with_word y v) i)

  -- after a block was entered
  pub enabled_stays-entered : (j b : ℕ) → is_enabled g w i x ≡ true → is_enabled g (entered w j b) i x ≡ true
  enabled_stays-entered j b h =
      ⊎_elim (λ e. ap (λ a. may_fire (code_of g a.code) a x) e ∙ h)
      (λ e. ap (λ a. may_fire (code_of g a.code) a x) e.1 ∙ keeps-block (its_code g w i) (activation_at w i) b x h) (changed-cases w j (with_block b) i)

  -- after an activation began
  pub enabled_stays-begun : (k f z : ℕ) → is_enabled g w i x ≡ true → is_enabled g (with_begun w k f z) i x ≡ true
  enabled_stays-begun k f z h = go (length w.activations == i) refl
    where
      go : (b : Bool) → (length w.activations == i) ≡ b → is_enabled g (with_begun w k f z) i x ≡ true
      go true e =
          absurd (true≢false (sym h ∙ enabled-past g w i x (let same : length w.activations ≡ i = number-eq (length w.activations) i e in omega arith)))
      go false e = enabled-alike (with_begun w k f z) (activation-begun_other w k f z i (number-differs (length w.activations) i e)) ∙ h

-- after each of several nodes got a word
pub enabled_stays-all_got : (g : Graph) (w : World) (i x j : ℕ) (ys : List ℕ) (v : ℕ) → is_enabled g w i x ≡ true
    → is_enabled g (all_got w j ys v) i x ≡ true
enabled_stays-all_got g w i x j [] v h = h
enabled_stays-all_got g w i x j (y ∷ ys) v h = enabled_stays-all_got g (got w j y v) i x j ys v (enabled_stays-got g w i x j y v h)

-- in an activation that began, the nodes of the body that fire and take no word may fire
pub enabled-begun : (g : Graph) (w : World) (k f z x : ℕ)
    → is_enabled g (with_begun w k f z) (length w.activations) x
    ≡ (((block_at (code_of g k) x == 0) && fires (kind_at (code_of g k) x)) && is_none (operands_of (code_of g k) (kind_at (code_of g k) x)))
enabled-begun g w k f z x =
    ap (λ a. may_fire (code_of g a.code) a x) (activation-begun w k f z) ∙ may_fire-begun (code_of g k) k f z x

-- the others may fire as before
pub enabled-begun_other : (g : Graph) (w : World) (k f z j x : ℕ) → length w.activations ≢ j
    → is_enabled g (with_begun w k f z) j x ≡ is_enabled g w j x
enabled-begun_other g w k f z j x h = enabled-alike g w j x (with_begun w k f z) (activation-begun_other w k f z j h)
