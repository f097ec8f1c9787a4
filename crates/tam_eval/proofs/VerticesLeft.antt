-- How many vertices each activation has left, after a node got a word, a block was entered, or an activation began, with those that join ready.
use Rattle.std.proofs.Common.{◌≡◌, ℕ, ◌+◌, ◌≤◌, Bool, true, false, not, ◌==◌, ◌&&◌, List, ◌++◌, None, length, filter, nat_lt, refl, sym}
use Rattle.std.proofs.Common.{subst, ap, ◌∙◌, arith, tests, ⊎_elim, true≢false}
use Rattle.std.specs.Prelude.{cond, count_by}
use Rattle.std.proofs.lemmas.List.Sums.{length-filter}
use Rattle.tam_word.specs.Lists.{all_of, below}
use Rattle.tam_word.proofs.Tests.{number-eq, number-differs}
use Rattle.tam_word.proofs.Members.{In, in-append, in-map, in-filter, in-flat_map, all-in, in-all}
use Rattle.tam_graph.specs.Graphs.{Graph, Code, code_of, kind_at, is_inlet, node_numbers}
use Rattle.tam_world.specs.Worlds.{World, ActivationState, begun, or_activation, activation_at, its_code, has_word, has_entered, with_word, with_block, got}
use Rattle.tam_world.specs.Worlds.{entered}
use Rattle.tam_world.specs.Effects.{with_begun}
use Rattle.tam_world.specs.Takers.{firers_in, inlets_in}
use Rattle.tam_eval.specs.GraphRuns.{is_enabled, joins, joins_at}
use Rattle.tam_eval.specs.Waiting.{is_awaited, vertices_left}
use Rattle.tam_eval.proofs.Counting.{as_one, count-none, count-alike, count-append, count-pairs_past, count-pairs_below}
use Rattle.tam_eval.proofs.Activations.{may_fire, newly, newly-same, newly-all}
use Rattle.tam_eval.proofs.Accessors.{no_word, IsLive, changed-activation, other-activation, changed-cases, nothing-changed, activation-begun}
use Rattle.tam_eval.proofs.Accessors.{activation-begun_other}
use Rattle.tam_eval.proofs.Accessors.{activation-past}
use Rattle.tam_eval.proofs.Enabled.{enabled-past}
use Rattle.tam_eval.proofs.ActivationLeft.{unfed, empty, awaited, unfed-word, empty-word, unfed-again, empty-again, unfed-block, empty-block}
use Rattle.tam_eval.proofs.ActivationLeft.{unfed-block_again, empty-block_again, unfed-begun, empty-begun}

-- how many of the pairs are of activation j
abbrev pub ready_of : List (ℕ × ℕ) → ℕ → ℕ
ready_of ready j = count_by (λ r. r.0 == j) ready

-- the vertices of an activation that newly may fire
abbrev pub new_ones : Graph → World → World → ℕ → ℕ
new_ones g w v j = count_by (λ x. newly (is_enabled g v j x) (is_enabled g w j x)) (node_numbers (its_code g v j))

-- those that an activation has left and that aren't ready
abbrev pub others_left : Graph → ActivationState → ℕ
others_left g a = count_by (unfed (code_of g a.code) a) (node_numbers (code_of g a.code)) + count_by (empty (code_of g a.code) a)
    (node_numbers (code_of g a.code))

-- ---- those that join

module _ (g : Graph) (w v : World) (j : ℕ) where
  -- of each activation those join that newly may fire
  pub joins-count : ready_of (joins g w v) j ≡ new_ones g w v j
  joins-count = go (nat_lt j (length v.activations)) refl
    where
      news : ℕ → List ℕ
      news i = filter (λ x. newly (is_enabled g v i x) (is_enabled g w i x)) (node_numbers (its_code g v i))

      go : (t : Bool) → nat_lt j (length v.activations) ≡ t → ready_of (joins g w v) j ≡ new_ones g w v j
      go true p =
          count-pairs_below news j (length v.activations) (grind (arith, tests))
          ∙ length-filter (λ x. newly (is_enabled g v j x) (is_enabled g w j x)) (node_numbers (its_code g v j))
      go false p =
          let past : length v.activations ≤ j = grind (arith, tests) in
          count-pairs_past news j (length v.activations) past
          ∙ sym (count-none (λ x. newly (is_enabled g v j x) (is_enabled g w j x)) (node_numbers (its_code g v j))
          (λ x i. ap (λ t. newly t (is_enabled g w j x)) (enabled-past g v j x past)))

  -- so with them ready it has left those that were ready, those that newly may fire, and the others
  pub left-joined : (ready : List (ℕ × ℕ))
      → vertices_left g v (ready ++ joins g w v) j ≡ ready_of ready j + (new_ones g w v j + others_left g (activation_at v j))
  left-joined ready = omega (arith, count-append (λ (r : ℕ × ℕ). r.0 == j) ready (joins g w v), joins-count)

  -- where an activation is as before, none of its vertices newly may fire
  new-none : activation_at v j ≡ activation_at w j → new_ones g w v j ≡ 0
  new-none same = count-none (λ x. newly (is_enabled g v j x) (is_enabled g w j x)) (node_numbers (its_code g v j))
      (λ x i. ap (λ (a : ActivationState). newly (may_fire (code_of g a.code) a x) (is_enabled g w j x)) same ∙ newly-same (is_enabled g w j x))

  -- and it has left what it had
  pub left-same : (ready : List (ℕ × ℕ)) → activation_at v j ≡ activation_at w j
      → vertices_left g v (ready ++ joins g w v) j ≡ vertices_left g w ready j
  left-same ready same = omega (arith, left-joined ready, new-none same, ap (others_left g) same)

-- an activation that isn't there has none but what is ready
pub others-past : (g : Graph) (w : World) (j : ℕ) → length w.activations ≤ j → others_left g (activation_at w j) ≡ 0
others-past g w j past = ap (others_left g) (activation-past w j past) ∙ none
  where
    none : others_left g (or_activation None) ≡ 0
    none = omega (
      arith,
      count-none (unfed (code_of g 0) (or_activation None)) (node_numbers (code_of g 0)) (λ x i. refl),
      count-none (empty (code_of g 0) (or_activation None)) (node_numbers (code_of g 0)) (λ x i. refl),
    )

-- ---- a node got a word

-- in an activation that isn't there no node is awaited
not-awaited : (g : Graph) (w : World) (i y : ℕ) → length w.activations ≤ i → is_awaited g w i y ≡ false
not-awaited g w i y past = ap (λ (a : ActivationState). awaited (code_of g a.code) a y) (activation-past w i past) ∙ go (nat_lt y (length (code_of g 0).nodes))
  where
    never : (s : Bool) → (s && false) ≡ false
    never true = refl
    never false = refl

    go : (t : Bool) → (elim t [ true ↦ is_inlet (kind_at (code_of g 0) y) && false | false ↦ false ]) ≡ false
    go true = never (is_inlet (kind_at (code_of g 0) y))
    go false = refl

module _ (g : Graph) (w : World) (i y u : ℕ) where
  -- whether it is awaited stays
  pub awaited-got : is_awaited g (got w i y u) i y ≡ is_awaited g w i y
  awaited-got = ⊎_elim (λ e. ap (λ (a : ActivationState). awaited (code_of g a.code) a y) e)
      (λ e. ap (λ (a : ActivationState). awaited (code_of g a.code) a y) e.1) (changed-cases w i (with_word y u) i)

  module _ (ready : List (ℕ × ℕ)) where
    -- a first word takes one away, where it was awaited
    pub left-got : has_word w i y ≡ false → (j : ℕ)
        → vertices_left g (got w i y u) (ready ++ joins g w (got w i y u)) j + as_one ((i == j) && is_awaited g w i y) ≡ vertices_left g w ready j
    left-got none j = go (nat_lt i (length w.activations)) refl (i == j) refl
      where
        go : (l : Bool) → nat_lt i (length w.activations) ≡ l → (t : Bool) → (i == j) ≡ t
            → vertices_left g (got w i y u) (ready ++ joins g w (got w i y u)) j + as_one (t && is_awaited g w i y) ≡ vertices_left g w ready j
        go l p false q = omega (arith, left-same g w (got w i y u) j ready (other-activation w i (with_word y u) j (number-differs i j q)))
        go false p true q =
            let past : length w.activations ≤ i = grind (arith, tests) in
            let same = ap (λ (z : World). activation_at z j) (nothing-changed w i (with_word y u) past) in
            let no : as_one (is_awaited g w i y) ≡ 0 = ap as_one (not-awaited g w i y past) in
            omega (arith, left-same g w (got w i y u) j ready same, no)
        go true p true q = subst (λ k. vertices_left g (got w i y u) (ready ++ joins g w (got w i y u)) k + as_one (is_awaited g w i y)
            ≡ vertices_left g w ready k) (number-eq i j q) here
          where
            c : Code
            c = its_code g w i

            a : ActivationState
            a = activation_at w i

            this : activation_at (got w i y u) i ≡ with_word y u a
            this = changed-activation w i (with_word y u) (grind (arith, tests))

            news : new_ones g w (got w i y u) i ≡ count_by (λ x. newly (may_fire c (with_word y u a) x) (may_fire c a x)) (node_numbers c)
            news = ap (λ (z : ActivationState). count_by (λ x. newly (may_fire (code_of g z.code) z x) (may_fire c a x)) (node_numbers (code_of g z.code))) this

            rest : others_left g (activation_at (got w i y u) i)
                ≡ count_by (unfed c (with_word y u a)) (node_numbers c) + count_by (empty c (with_word y u a)) (node_numbers c)
            rest = ap (others_left g) this

            here : vertices_left g (got w i y u) (ready ++ joins g w (got w i y u)) i + as_one (is_awaited g w i y) ≡ vertices_left g w ready i
            here = omega (
              arith,
              left-joined g w (got w i y u) i ready,
              news,
              rest,
              unfed-word c a y u (no_word w i y none),
              empty-word c a y u (no_word w i y none),
            )

    -- one word more changes nothing
    pub left-again : has_word w i y ≡ true → (j : ℕ) → vertices_left g (got w i y u) ready j ≡ vertices_left g w ready j
    left-again some j = ap (λ n. ready_of ready j + n) (⊎_elim (ap (others_left g))
        (λ e. ap (others_left g) e.1
        ∙ (let word = subst (λ k. has_word w k y ≡ true) e.0 some in
        omega (arith, unfed-again (its_code g w j) (activation_at w j) y u word, empty-again (its_code g w j) (activation_at w j) y u word)))
        (changed-cases w i (with_word y u) j))

-- ---- a block was entered

module _ (g : Graph) (w : World) (i b : ℕ) (ready : List (ℕ × ℕ)) where
  -- how many vertices a block has that come to be left
  abbrev pub comes_to_be : ℕ
  comes_to_be = length (firers_in (its_code g w i) b) + count_by (λ x. not (has_word w i x)) (inlets_in (its_code g w i) b)

  -- a block that wasn't entered brings its vertices
  pub left-entered : has_entered w i b ≡ false → IsLive w i → (j : ℕ)
      → vertices_left g (entered w i b) (ready ++ joins g w (entered w i b)) j ≡ vertices_left g w ready j + cond (i == j) comes_to_be 0
  left-entered out live j = go (i == j) refl
    where
      go : (t : Bool) → (i == j) ≡ t
          → vertices_left g (entered w i b) (ready ++ joins g w (entered w i b)) j ≡ vertices_left g w ready j + cond t comes_to_be 0
      go false q = omega (arith, left-same g w (entered w i b) j ready (other-activation w i (with_block b) j (number-differs i j q)))
      go true q = subst (λ k. vertices_left g (entered w i b) (ready ++ joins g w (entered w i b)) k ≡ vertices_left g w ready k + comes_to_be)
          (number-eq i j q) here
        where
          c : Code
          c = its_code g w i

          a : ActivationState
          a = activation_at w i

          this : activation_at (entered w i b) i ≡ with_block b a
          this = changed-activation w i (with_block b) live

          news : new_ones g w (entered w i b) i ≡ count_by (λ x. newly (may_fire c (with_block b a) x) (may_fire c a x)) (node_numbers c)
          news = ap (λ (z : ActivationState). count_by (λ x. newly (may_fire (code_of g z.code) z x) (may_fire c a x)) (node_numbers (code_of g z.code))) this

          rest : others_left g (activation_at (entered w i b) i)
              ≡ count_by (unfed c (with_block b a)) (node_numbers c) + count_by (empty c (with_block b a)) (node_numbers c)
          rest = ap (others_left g) this

          here : vertices_left g (entered w i b) (ready ++ joins g w (entered w i b)) i ≡ vertices_left g w ready i + comes_to_be
          here = omega (arith, left-joined g w (entered w i b) i ready, news, rest, unfed-block c a b out, empty-block c a b out)

  -- in an activation that isn't there nothing changes
  pub left-entered_past : length w.activations ≤ i → (j : ℕ)
      → vertices_left g (entered w i b) (ready ++ joins g w (entered w i b)) j ≡ vertices_left g w ready j
  left-entered_past past j =
      left-same g w (entered w i b) j ready (ap (λ (z : World). activation_at z j) (nothing-changed w i (with_block b) past))

  -- nor where it was entered before
  pub left-entered_again : has_entered w i b ≡ true → (j : ℕ) → vertices_left g (entered w i b) ready j ≡ vertices_left g w ready j
  left-entered_again was j = ap (λ n. ready_of ready j + n) (⊎_elim (ap (others_left g))
      (λ e. ap (others_left g) e.1
      ∙ (let before = subst (λ k. has_entered w k b ≡ true) e.0 was in
      omega (arith, unfed-block_again (its_code g w j) (activation_at w j) b before, empty-block_again (its_code g w j) (activation_at w j) b before)))
      (changed-cases w i (with_block b) j))

-- ---- an activation began

-- it has the vertices of its body
pub left-begun : (g : Graph) (w : World) (k f x : ℕ) (ready : List (ℕ × ℕ)) (j : ℕ)
    → vertices_left g (with_begun w k f x) (ready ++ joins g w (with_begun w k f x)) j
    ≡ vertices_left g w ready j + cond (length w.activations == j) (length (firers_in (code_of g k) 0) + length (inlets_in (code_of g k) 0)) 0
left-begun g w k f x ready j = go (length w.activations == j) refl
  where
    v : World
    v = with_begun w k f x

    go : (t : Bool) → (length w.activations == j) ≡ t → vertices_left g v (ready ++ joins g w v) j
        ≡ vertices_left g w ready j + cond t (length (firers_in (code_of g k) 0) + length (inlets_in (code_of g k) 0)) 0
    go false q = omega (arith, left-same g w v j ready (activation-begun_other w k f x j (number-differs (length w.activations) j q)))
    go true q = subst (λ n. vertices_left g v (ready ++ joins g w v) n
        ≡ vertices_left g w ready n + (length (firers_in (code_of g k) 0) + length (inlets_in (code_of g k) 0))) (number-eq (length w.activations) j q) here
      where
        n : ℕ
        n = length w.activations

        c : Code
        c = code_of g k

        this : activation_at v n ≡ begun k f x
        this = activation-begun w k f x

        news : new_ones g w v n ≡ count_by (may_fire c (begun k f x)) (node_numbers c)
        news =
            ap (λ (z : ActivationState). count_by (λ y. newly (may_fire (code_of g z.code) z y) (is_enabled g w n y)) (node_numbers (code_of g z.code))) this
            ∙ count-alike (λ y. newly (may_fire c (begun k f x) y) (is_enabled g w n y)) (may_fire c (begun k f x))
            (λ y. ap (newly (may_fire c (begun k f x) y)) (enabled-past g w n y (omega arith)) ∙ newly-all (may_fire c (begun k f x) y)) (node_numbers c)

        rest : others_left g (activation_at v n) ≡ count_by (unfed c (begun k f x)) (node_numbers c) + count_by (empty c (begun k f x)) (node_numbers c)
        rest = ap (others_left g) this

        here : vertices_left g v (ready ++ joins g w v) n ≡ vertices_left g w ready n + (length (firers_in c 0) + length (inlets_in c 0))
        here = omega (arith, left-joined g w v n ready, news, rest, unfed-begun c k f x, empty-begun c k f x, others-past g w n (omega arith))

-- ---- what is ready may fire

-- what joins may fire
joins-may : (g : Graph) (w v : World) (r : ℕ × ℕ) → In r (joins g w v) → is_enabled g v r.0 r.1 ≡ true
joins-may g w v r h =
    let a = in-flat_map (joins_at g w v) r (below (length v.activations)) h in
    let p = in-map (λ x. (a.0, x)) r (filter (λ x. newly (is_enabled g v a.0 x) (is_enabled g w a.0 x)) (node_numbers (its_code g v a.0))) a.2 in
    let q = in-filter (λ x. newly (is_enabled g v a.0 x) (is_enabled g w a.0 x)) p.0 (node_numbers (its_code g v a.0)) p.1 in
    subst (λ (z : ℕ × ℕ). is_enabled g v z.0 z.1 ≡ true) p.2 (newly-so (is_enabled g v a.0 p.0) (is_enabled g w a.0 p.0) q.1)
  where
    newly-so : (s t : Bool) → newly s t ≡ true → s ≡ true
    newly-so true t k = refl
    newly-so false t k = absurd (true≢false (sym k))

-- so where what may fire may fire after an event, what is ready may
pub ready-may : (g : Graph) (w v : World) (ready : List (ℕ × ℕ)) → ((i x : ℕ) → is_enabled g w i x ≡ true → is_enabled g v i x ≡ true)
    → all_of (λ r. is_enabled g w r.0 r.1) ready ≡ true → all_of (λ r. is_enabled g v r.0 r.1) (ready ++ joins g w v) ≡ true
ready-may g w v ready keep all =
    in-all (λ (r : ℕ × ℕ). is_enabled g v r.0 r.1) (ready ++ joins g w v)
    (λ r i. ⊎_elim (λ h. keep r.0 r.1 (all-in (λ (z : ℕ × ℕ). is_enabled g w z.0 z.1) ready all r h)) (joins-may g w v r) (in-append r ready (joins g w v) i))
