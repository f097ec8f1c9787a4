-- Which vertices join the ready list after each kind of event, by lists of takers and of the nodes of a block.
use Rattle.std.proofs.Common.{nat_lt, tests, ◌≡◌, ◌≢◌, ℕ, ◌≤◌, Bool, true, false, ◌==◌, ◌&&◌, List, [], None, length, filter, map, refl, sym, ap, ◌∙◌}
use Rattle.std.proofs.Common.{subst, arith, ⊎_elim}
use Rattle.tam_word.specs.Lists.{has}
use Rattle.tam_word.proofs.Sifted.{filter-alike, filter-twice, filter-none, flat_map-below_none, flat_map-below_one}
use Rattle.tam_istr.specs.Cells.{Arrays}
use Rattle.tam_msgs.specs.Messages.{outside}
use Rattle.tam_graph.specs.Graphs.{Graph, Code, code_of, kind_at, block_at, operands_of, fires, node_numbers}
use Rattle.tam_world.specs.Worlds.{World, ActivationState, begun, activation_at, its_code, word_at, has_word, has_entered, with_word, with_block, got, entered}
use Rattle.tam_world.specs.Worlds.{opening}
use Rattle.tam_eval.specs.GraphRuns.{is_enabled, joins_at, joins, nothing_begun}
use Rattle.tam_world.specs.Takers.{takers_of, firers_in, starters_of, is_none, takers_now, firers_now}
use Rattle.tam_eval.proofs.Activations.{its_word, is_in, may_fire, newly, newly-same, newly-all, newly-word, newly-block, again-word, again-block}
use Rattle.tam_eval.proofs.Activations.{may_fire-begun}
use Rattle.tam_eval.proofs.Enabled.{enabled-past}
use Rattle.tam_world.specs.Effects.{with_begun}
use Rattle.tam_eval.proofs.Accessors.{no_word, changed-cases, IsLive, length-with_changed, changed-activation, other-activation, nothing-changed}
use Rattle.tam_eval.proofs.Accessors.{length-begun, activation-begun, activation-begun_other}

module _ (g : Graph) (w v : World) where
  -- an activation whose vertices may fire as before has none that join
  joins_at-none : (j : ℕ) → ((x : ℕ) → is_enabled g v j x ≡ is_enabled g w j x) → joins_at g w v j ≡ []
  joins_at-none j h =
      ap (map (λ x. (j, x))) (filter-none (λ x. newly (is_enabled g v j x) (is_enabled g w j x))
      (λ x. ap (λ t. newly t (is_enabled g w j x)) (h x) ∙ newly-same (is_enabled g w j x)) (node_numbers (its_code g v j)))

  -- where each vertex may fire as before, none joins
  pub joins-none : ((j x : ℕ) → is_enabled g v j x ≡ is_enabled g w j x) → joins g w v ≡ []
  joins-none h = flat_map-below_none (joins_at g w v) (length v.activations) (λ j l. joins_at-none j (h j))

  -- where those of one activation alone may fire otherwise than before, those that join are of that activation
  pub joins-one : (i : ℕ) → IsLive v i → ((j : ℕ) → i ≢ j → activation_at v j ≡ activation_at w j) → joins g w v ≡ joins_at g w v i
  joins-one i l h =
      flat_map-below_one (joins_at g w v) (length v.activations) i l
      (λ j d. joins_at-none j (λ x. ap (λ a. may_fire (code_of g a.code) a x) (h j d)))

-- the nodes of an activation that may fire, and might not before, are those among these that may fire
abbrev AreThese : Graph → (ℕ → Bool) → List ℕ → ActivationState → Type 0
AreThese g before xs a =
    filter (λ x. newly (may_fire (code_of g a.code) a x) (before x)) (node_numbers (code_of g a.code)) ≡ filter (may_fire (code_of g a.code) a) xs

-- where one activation alone changed, those that join are of these nodes of it
joins-changed : (g : Graph) (w v : World) (i : ℕ) (a : ActivationState) (xs : List ℕ) → IsLive v i
    → ((j : ℕ) → i ≢ j → activation_at v j ≡ activation_at w j) → activation_at v i ≡ a → AreThese g (is_enabled g w i) xs a
    → joins g w v ≡ map (λ x. (i, x)) (filter (is_enabled g v i) xs)
joins-changed g w v i a xs l others this these =
    joins-one g w v i l others ∙ ap (map (λ x. (i, x))) (subst (AreThese g (is_enabled g w i) xs) (sym this) these)

-- those that one more word makes able to fire are takers of its node
word-takers : (c : Code) (a : ActivationState) (y v : ℕ) → its_word a y ≡ None
    → filter (λ x. newly (may_fire c (with_word y v a) x) (may_fire c a x)) (node_numbers c) ≡ filter (may_fire c (with_word y v a)) (takers_of c y)
word-takers c a y v h =
    filter-alike (λ x. newly (may_fire c (with_word y v a) x) (may_fire c a x))
    (λ x. (fires (kind_at c x) && has (operands_of c (kind_at c x)) y) && may_fire c (with_word y v a) x)
    (λ x. newly-word c a y v x h) (node_numbers c)
    ∙ sym (filter-twice (λ x. fires (kind_at c x) && has (operands_of c (kind_at c x)) y) (may_fire c (with_word y v a)) (node_numbers c))

-- the nodes of a block that fire, sifted, by one test of all nodes
firers-sifted_further : (c : Code) (b : ℕ) (test : ℕ → Bool)
    → filter test (firers_in c b) ≡ filter (λ x. ((block_at c x == b) && fires (kind_at c x)) && test x) (node_numbers c)
firers-sifted_further c b test =
    ap (filter test) (filter-twice (λ x. block_at c x == b) (λ x. fires (kind_at c x)) (node_numbers c))
    ∙ filter-twice (λ x. (block_at c x == b) && fires (kind_at c x)) test (node_numbers c)

-- those that one more block makes able to fire are nodes of it
block-firers : (c : Code) (a : ActivationState) (b : ℕ) → is_in a b ≡ false
    → filter (λ x. newly (may_fire c (with_block b a) x) (may_fire c a x)) (node_numbers c) ≡ filter (may_fire c (with_block b a)) (firers_in c b)
block-firers c a b h =
    filter-alike (λ x. newly (may_fire c (with_block b a) x) (may_fire c a x))
    (λ x. ((block_at c x == b) && fires (kind_at c x)) && may_fire c (with_block b a) x) (λ x. newly-block c a b x h) (node_numbers c)
    ∙ sym (firers-sifted_further c b (may_fire c (with_block b a)))

-- ---- a node got a word

-- after a node got its first word, those of its takers that may fire join
pub joins-got : (g : Graph) (w : World) (i y v : ℕ) → IsLive w i → word_at w i y ≡ None
    → joins g w (got w i y v) ≡ map (λ x. (i, x)) (filter (is_enabled g (got w i y v) i) (takers_of (its_code g w i) y))
joins-got g w i y v l h =
    joins-changed g w (got w i y v) i (with_word y v (activation_at w i)) (takers_of (its_code g w i) y)
    (omega (arith, length-with_changed w i (with_word y v), l))
    (other-activation w i (with_word y v)) (changed-activation w i (with_word y v) l) (word-takers (its_code g w i) (activation_at w i) y v h)

-- after a node got a word that had one, none joins
pub joins-got_again : (g : Graph) (w : World) (i y v : ℕ) → has_word w i y ≡ true → joins g w (got w i y v) ≡ []
joins-got_again g w i y v h =
    joins-none g w (got w i y v) (λ j x. ⊎_elim (λ e. ap (λ a. may_fire (code_of g a.code) a x) e)
    (λ e. ap (λ a. may_fire (code_of g a.code) a x) e.1
    ∙ again-word (its_code g w j) (activation_at w j) y v x (subst (λ n. has_word w n y ≡ true) e.0 h)) (changed-cases w i (with_word y v) j))

-- in an activation that isn't there, none joins
pub joins-got_past : (g : Graph) (w : World) (i y v : ℕ) → length w.activations ≤ i → joins g w (got w i y v) ≡ []
joins-got_past g w i y v l = joins-none g w (got w i y v) (λ j x. ap (λ u. is_enabled g u j x) (nothing-changed w i (with_word y v) l))

-- in any case those of its takers that may fire join, if it had no word
pub joins-got_any : (g : Graph) (w : World) (i y v : ℕ)
    → joins g w (got w i y v) ≡ map (λ x. (i, x)) (filter (is_enabled g (got w i y v) i) (takers_now g w i y))
joins-got_any g w i y v = go (has_word w i y) refl (nat_lt i (length w.activations)) refl
  where
    go : (b : Bool) → has_word w i y ≡ b → (d : Bool) → nat_lt i (length w.activations) ≡ d
        → joins g w (got w i y v) ≡ map (λ x. (i, x)) (filter (is_enabled g (got w i y v) i) (takers_now g w i y))
    go true e d k = rw (takers_now, e) (joins-got_again g w i y v e)
    go false e true k = rw (takers_now, e) (joins-got g w i y v (grind (arith, tests)) (no_word w i y e))
    go false e false k =
        let past : length w.activations ≤ i = grind (arith, tests) in
        rw (takers_now, e)
        (joins-got_past g w i y v past
        ∙ sym (ap (map (λ x. (i, x))) (filter-none (is_enabled g (got w i y v) i)
        (λ x. enabled-past g (got w i y v) i x (omega (arith, length-with_changed w i (with_word y v)))) (takers_of (its_code g w i) y))))

-- ---- a block was entered

-- after a block was entered, those of its nodes that may fire join
pub joins-entered : (g : Graph) (w : World) (i b : ℕ) → IsLive w i → has_entered w i b ≡ false
    → joins g w (entered w i b) ≡ map (λ x. (i, x)) (filter (is_enabled g (entered w i b) i) (firers_in (its_code g w i) b))
joins-entered g w i b l h =
    joins-changed g w (entered w i b) i (with_block b (activation_at w i)) (firers_in (its_code g w i) b)
    (omega (arith, length-with_changed w i (with_block b), l))
    (other-activation w i (with_block b)) (changed-activation w i (with_block b) l) (block-firers (its_code g w i) (activation_at w i) b h)

-- after a block was entered that was so before, none joins
pub joins-entered_again : (g : Graph) (w : World) (i b : ℕ) → has_entered w i b ≡ true → joins g w (entered w i b) ≡ []
joins-entered_again g w i b h =
    joins-none g w (entered w i b) (λ j x. ⊎_elim (λ e. ap (λ a. may_fire (code_of g a.code) a x) e)
    (λ e. ap (λ a. may_fire (code_of g a.code) a x) e.1
    ∙ again-block (its_code g w j) (activation_at w j) b x (subst (λ n. has_entered w n b ≡ true) e.0 h)) (changed-cases w i (with_block b) j))

-- in an activation that isn't there, none joins
pub joins-entered_past : (g : Graph) (w : World) (i b : ℕ) → length w.activations ≤ i → joins g w (entered w i b) ≡ []
joins-entered_past g w i b l = joins-none g w (entered w i b) (λ j x. ap (λ u. is_enabled g u j x) (nothing-changed w i (with_block b) l))

-- in any case those of its nodes that may fire join, if it had not been entered
pub joins-entered_any : (g : Graph) (w : World) (i b : ℕ)
    → joins g w (entered w i b) ≡ map (λ x. (i, x)) (filter (is_enabled g (entered w i b) i) (firers_now g w i b))
joins-entered_any g w i b = go (has_entered w i b) refl (nat_lt i (length w.activations)) refl
  where
    go : (t : Bool) → has_entered w i b ≡ t → (d : Bool) → nat_lt i (length w.activations) ≡ d
        → joins g w (entered w i b) ≡ map (λ x. (i, x)) (filter (is_enabled g (entered w i b) i) (firers_now g w i b))
    go true e d k = rw (firers_now, e) (joins-entered_again g w i b e)
    go false e true k = rw (firers_now, e) (joins-entered g w i b (grind (arith, tests)) e)
    go false e false k =
        let past : length w.activations ≤ i = grind (arith, tests) in
        rw (firers_now, e)
        (joins-entered_past g w i b past
        ∙ sym (ap (map (λ x. (i, x))) (filter-none (is_enabled g (entered w i b) i)
        (λ x. enabled-past g (entered w i b) i x (omega (arith, length-with_changed w i (with_block b)))) (firers_in (its_code g w i) b))))

-- ---- an activation began

-- in an activation that begins, the nodes of the body without operands may fire, and no others
begun-starters : (c : Code) (k f z : ℕ) → filter (may_fire c (begun k f z)) (firers_in c 0) ≡ starters_of c
begun-starters c k f z =
    firers-sifted_further c 0 (may_fire c (begun k f z))
    ∙ filter-alike (λ x. ((block_at c x == 0) && fires (kind_at c x)) && may_fire c (begun k f z) x)
    (λ x. ((block_at c x == 0) && fires (kind_at c x)) && is_none (operands_of c (kind_at c x)))
    (λ x. ap (λ t. ((block_at c x == 0) && fires (kind_at c x)) && t) (may_fire-begun c k f z x)
    ∙ twice ((block_at c x == 0) && fires (kind_at c x)) (is_none (operands_of c (kind_at c x)))) (node_numbers c)
    ∙ sym (firers-sifted_further c 0 (λ x. is_none (operands_of c (kind_at c x))))
  where
    twice : (s t : Bool) → (s && (s && t)) ≡ (s && t)
    twice true t = refl
    twice false t = refl

-- none of its nodes might fire before
begun-new : (c : Code) (k f z : ℕ) (before : ℕ → Bool) → ((x : ℕ) → before x ≡ false)
    → filter (λ x. newly (may_fire c (begun k f z) x) (before x)) (node_numbers c) ≡ filter (may_fire c (begun k f z)) (firers_in c 0)
begun-new c k f z before h =
    filter-alike (λ x. newly (may_fire c (begun k f z) x) (before x)) (λ x. ((block_at c x == 0) && fires (kind_at c x)) && may_fire c (begun k f z) x)
    (λ x. ap (newly (may_fire c (begun k f z) x)) (h x) ∙ newly-all (may_fire c (begun k f z) x) ∙ again x) (node_numbers c)
    ∙ sym (firers-sifted_further c 0 (may_fire c (begun k f z)))
  where
    twice : (s t : Bool) → (s && t) ≡ (s && (s && t))
    twice true t = refl
    twice false t = refl

    again : (x : ℕ) → may_fire c (begun k f z) x ≡ (((block_at c x == 0) && fires (kind_at c x)) && may_fire c (begun k f z) x)
    again x =
        may_fire-begun c k f z x
        ∙ twice ((block_at c x == 0) && fires (kind_at c x)) (is_none (operands_of c (kind_at c x)))
        ∙ ap (λ t. ((block_at c x == 0) && fires (kind_at c x)) && t) (sym (may_fire-begun c k f z x))

-- after an activation began, those of its body that may fire join
pub joins-begun : (g : Graph) (w : World) (k f x : ℕ)
    → joins g w (with_begun w k f x)
    ≡ map (λ z. (length w.activations, z)) (filter (is_enabled g (with_begun w k f x) (length w.activations)) (firers_in (code_of g k) 0))
joins-begun g w k f x =
    joins-changed g w (with_begun w k f x) (length w.activations) (begun k f x) (firers_in (code_of g k) 0) (omega (arith, length-begun w k f x))
    (activation-begun_other w k f x) (activation-begun w k f x)
    (begun-new (code_of g k) k f x (is_enabled g w (length w.activations)) (λ z. enabled-past g w (length w.activations) z (omega arith)))

-- those are the nodes of the body without operands
pub joins-begun_starters : (g : Graph) (w : World) (k f x : ℕ)
    → joins g w (with_begun w k f x) ≡ map (λ z. (length w.activations, z)) (starters_of (code_of g k))
joins-begun_starters g w k f x =
    joins-begun g w k f x
    ∙ ap (map (λ z. (length w.activations, z))) (subst Starts (sym (activation-begun w k f x)) (begun-starters (code_of g k) k f x))
  where
    Starts : ActivationState → Type 0
    Starts a = filter (may_fire (code_of g a.code) a) (firers_in (code_of g k) 0) ≡ starters_of (code_of g k)

-- ---- the beginning

-- the root's vertices that may fire stand ready
pub joins-opening : (g : Graph)
    → joins g nothing_begun (opening g) ≡ map (λ z. (0, z)) (filter (is_enabled g (opening g) 0) (firers_in (code_of g g.main) 0))
joins-opening g = joins-begun g nothing_begun g.main outside 0

-- those are the nodes of its body without operands
pub joins-opening_starters : (g : Graph) → joins g nothing_begun (opening g) ≡ map (λ z. (0, z)) (starters_of (code_of g g.main))
joins-opening_starters g = joins-begun_starters g nothing_begun g.main outside 0

-- ---- events that change no activation

-- where no activation changed, none joins
pub joins-arrays : (g : Graph) (w : World) (arrays : Arrays) (makers : List (ℕ × ℕ)) → joins g w (record w { arrays = arrays; makers = makers }) ≡ []
joins-arrays g w arrays makers = joins-none g w (record w { arrays = arrays; makers = makers }) (λ j x. refl)

-- nor where arrays alone changed
pub joins-arrays_alone : (g : Graph) (w : World) (arrays : Arrays) → joins g w (record w { arrays = arrays }) ≡ []
joins-arrays_alone g w arrays = joins-none g w (record w { arrays = arrays }) (λ j x. refl)

-- nor where nothing changed
pub joins-unchanged : (g : Graph) (w : World) → joins g w w ≡ []
joins-unchanged g w = joins-none g w w (λ j x. refl)
