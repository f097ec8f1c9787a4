-- What an event changes of the vertices that are left is what the evaluator changes of its counts.
use Rattle.std.proofs.Common.{◌≡◌, ℕ, zero, suc, ◌+◌, ◌-◌, ◌*◌, ◌<◌, ◌≤◌, Bool, true, false, not, ◌==◌, ◌&&◌, List, [], ◌∷◌, ◌++◌, length, nat_lt}
use Rattle.std.proofs.Common.{refl, sym, subst, ap}
use Rattle.std.proofs.Common.{◌∙◌, arith, tests}
use Rattle.std.specs.Prelude.{cond, count_by, is_some, slice_set, slice_index_or}
use Rattle.std.proofs.lemmas.List.Sums.{count_by-le-length}
use Rattle.std.proofs.lemmas.List.{get_or-set_same, get_or-set_other, length-set, append-nil}
use Rattle.tam_word.specs.Lists.{all_of}
use Rattle.tam_word.proofs.Tests.{number-eq, number-differs, differs-number, self-eq}
use Rattle.tam_msgs.specs.declared.message.Message.{Message}
use Rattle.tam_graph.specs.Graphs.{Graph, code_of, node_numbers}
use Rattle.tam_world.specs.Worlds.{World, Effect, its_code, has_word, has_entered, with_word, with_block, got, entered, changes}
use Rattle.tam_world.specs.Worlds.{sends_only}
use Rattle.tam_world.specs.Effects.{with_begun}
use Rattle.tam_world.specs.Takers.{firers_in, inlets_in}
use Rattle.tam_eval.specs.GraphRuns.{is_enabled, joins}
use Rattle.tam_eval.specs.Machines.{EvalState}
use Rattle.tam_eval.specs.Effects.{effected}
use Rattle.tam_eval.specs.Waiting.{is_awaited, is_unfed, is_empty_inlet, vertices_left, Keeps}
use Rattle.tam_eval.proofs.Counting.{as_one, count-alike, length-below}
use Rattle.tam_eval.proofs.Accessors.{length-with_changed, length-begun, word-entered}
use Rattle.tam_eval.proofs.Enabled.{enabled_stays-got, enabled_stays-entered, enabled_stays-begun}
use Rattle.tam_eval.proofs.Joins.{joins-unchanged, joins-got_again, joins-entered_again}
use Rattle.tam_eval.proofs.VerticesLeft.{left-got, left-again, left-entered, left-entered_past, left-entered_again, left-begun, comes_to_be, ready-may}

-- ---- lists of counts

-- a count at a place where there is one
pub counted-inside : (l : List ℕ) (i : ℕ) → 0 < slice_index_or l i 0 → i < length l
counted-inside [] i some = absurd (omega arith)
counted-inside (n ∷ l) zero some = omega arith
counted-inside (n ∷ l) (suc i) some = let rest = counted-inside l i some in omega arith

-- a count that was set
pub index-set : (l : List ℕ) (i v j : ℕ) → i < length l → slice_index_or (slice_set l i v) j 0 ≡ cond (i == j) v (slice_index_or l j 0)
index-set l i v j inside = go (i == j) refl
  where
    go : (t : Bool) → (i == j) ≡ t → slice_index_or (slice_set l i v) j 0 ≡ cond t v (slice_index_or l j 0)
    go true e = rw (← number-eq i j e) (get_or-set_same l i v 0 inside)
    go false e = get_or-set_other l i j v 0 (λ k. number-differs i j e (sym k))

-- one behind the others
pub index-push : (l : List ℕ) (v j : ℕ) → slice_index_or (l ++ v ∷ []) j 0 ≡ slice_index_or l j 0 + cond (length l == j) v 0
index-push [] v zero = omega arith
index-push [] v (suc j) =
    let none : cond (0 == suc j) v 0 ≡ 0 = ap (λ t. cond t v 0) (differs-number 0 (suc j) (λ e. absurd (omega arith))) in omega arith
index-push (n ∷ l) v zero =
    let none : cond (suc (length l) == 0) v 0 ≡ 0 = ap (λ t. cond t v 0) (differs-number (suc (length l)) 0 (λ e. absurd (omega arith))) in omega arith
index-push (n ∷ l) v (suc j) = index-push l v j ∙ ap (λ t. slice_index_or l j 0 + cond t v 0) (same (length l == j) refl)
  where
    same : (t : Bool) → (length l == j) ≡ t → t ≡ (suc (length l) == suc j)
    same true e = sym (rw (number-eq (length l) j e) (self-eq (suc j)))
    same false e = sym (differs-number (suc (length l)) (suc j) (λ k. number-differs (length l) j e (omega arith)))

-- no more vertices are left than stand ready, and two for each node
pub left-most : (g : Graph) (w : World) (ready : List (ℕ × ℕ)) (i : ℕ) → vertices_left g w ready i ≤ length ready + 2 * length (its_code g w i).nodes
left-most g w ready i =
    omega (
      arith,
      count_by-le-length (λ (r : ℕ × ℕ). r.0 == i) ready,
      count_by-le-length (is_unfed g w i) (node_numbers (its_code g w i)),
      count_by-le-length (is_empty_inlet g w i) (node_numbers (its_code g w i)),
      length-below (length (its_code g w i).nodes),
    )

-- ---- any effect

module _ (g : Graph) (s t : EvalState) (e : Effect) (is : t ≡ effected g s e) (l m : List ℕ) where
  -- what it changes of the counts, by what it changes of what is left
  pub keeps-counts : ((i x : ℕ) → is_enabled g s.world i x ≡ true → is_enabled g e.world i x ≡ true)
      → length m + length s.world.activations ≡ length l + length e.world.activations
      → ((j : ℕ) → slice_index_or m j 0 + vertices_left g s.world s.ready j
      ≡ slice_index_or l j 0 + vertices_left g e.world (s.ready ++ joins g s.world e.world) j)
      → Keeps g s t l m
  keeps-counts keep one_each counts = record {
    counts = λ j. subst (λ (u : EvalState). slice_index_or m j 0 + vertices_left g s.world s.ready j
        ≡ slice_index_or l j 0 + vertices_left g u.world u.ready j) (sym is) (counts j);
    one_each = subst (λ (u : EvalState). length m + length s.world.activations ≡ length l + length u.world.activations) (sym is) one_each;
    ready = λ h. subst (λ (u : EvalState). all_of (λ v. is_enabled g u.world v.0 v.1) u.ready ≡ true) (sym is)
        (ready-may g s.world e.world s.ready keep h);
  }

-- an effect that changes no activation changes no count
pub keeps-same : (g : Graph) (s t : EvalState) (ms : List Message) → t ≡ effected g s (sends_only s.world ms) → (l : List ℕ) → Keeps g s t l l
keeps-same g s t ms is l = keeps-counts g s t (sends_only s.world ms) is l l (λ i x h. h) refl
    (λ j. ap (λ (r : List (ℕ × ℕ)). slice_index_or l j 0 + vertices_left g s.world r j)
    (sym (ap (λ (r : List (ℕ × ℕ)). s.ready ++ r) (joins-unchanged g s.world) ∙ append-nil s.ready)))

-- ---- a node got a word

module _ (g : Graph) (s t : EvalState) (i y v : ℕ) (is : t ≡ effected g s (changes (got s.world i y v))) (l : List ℕ) where
  -- one more word changes no count
  pub keeps-again : has_word s.world i y ≡ true → Keeps g s t l l
  keeps-again had = keeps-counts g s t (changes (got s.world i y v)) is l l (λ j x h. enabled_stays-got g s.world j x i y v h)
      (omega (arith, length-with_changed s.world i (with_word y v)))
      (λ j. ap (λ n. slice_index_or l j 0 + n) (sym (ap (λ (r : List (ℕ × ℕ)). vertices_left g (got s.world i y v) r j)
      (ap (λ (r : List (ℕ × ℕ)). s.ready ++ r) (joins-got_again g s.world i y v had) ∙ append-nil s.ready) ∙ left-again g s.world i y v s.ready had j)))

  module _ (none : has_word s.world i y ≡ false) where
    -- nor does a first word that isn't awaited
    pub keeps-got : is_awaited g s.world i y ≡ false → Keeps g s t l l
    keeps-got never_awaited = keeps-counts g s t (changes (got s.world i y v)) is l l (λ j x h. enabled_stays-got g s.world j x i y v h)
        (omega (arith, length-with_changed s.world i (with_word y v)))
        (λ j. let zero_here : as_one ((i == j) && is_awaited g s.world i y) ≡ 0 = ap (λ b. as_one ((i == j) && b)) never_awaited ∙ never (i == j) in
        omega (arith, left-got g s.world i y v s.ready none j, zero_here))
      where
        never : (b : Bool) → as_one (b && false) ≡ 0
        never true = refl
        never false = refl

    module _ (yes : is_awaited g s.world i y ≡ true) where
      -- one that is awaited takes one away
      one-less : (j : ℕ) → vertices_left g (got s.world i y v) (s.ready ++ joins g s.world (got s.world i y v)) j + as_one (i == j) ≡ vertices_left g
          s.world s.ready j
      one-less j = omega (arith, left-got g s.world i y v s.ready none j, ap (λ b. as_one ((i == j) && b)) yes ∙ always (i == j))
        where
          always : (b : Bool) → as_one (b && true) ≡ as_one b
          always true = refl
          always false = refl

      -- so some were left
      pub some-awaited : vertices_left g s.world s.ready i ≤ slice_index_or l i 0 → 0 < slice_index_or l i 0
      some-awaited least = let here : as_one (i == i) ≡ 1 = ap as_one (self-eq i) in omega (arith, one-less i)

      -- and one less is counted
      pub keeps-less : 0 < slice_index_or l i 0 → Keeps g s t l (slice_set l i (slice_index_or l i 0 - 1))
      keeps-less some = keeps-counts g s t (changes (got s.world i y v)) is l (slice_set l i (slice_index_or l i 0 - 1))
          (λ j x h. enabled_stays-got g s.world j x i y v h)
          (omega (arith, length-with_changed s.world i (with_word y v), length-set l i (slice_index_or l i 0 - 1)))
          (λ j. each j (i == j) refl)
        where
          each : (j : ℕ) (b : Bool) → (i == j) ≡ b
              → slice_index_or (slice_set l i (slice_index_or l i 0 - 1)) j 0 + vertices_left g s.world s.ready j
              ≡ slice_index_or l j 0 + vertices_left g (got s.world i y v) (s.ready ++ joins g s.world (got s.world i y v)) j
          each j true e =
              let same : slice_index_or l i 0 ≡ slice_index_or l j 0 = ap (λ k. slice_index_or l k 0) (number-eq i j e) in
              let one : as_one (i == j) ≡ 1 = ap as_one e in
              let set = index-set l i (slice_index_or l i 0 - 1) j (counted-inside l i some)
              ∙ ap (λ b. cond b (slice_index_or l i 0 - 1) (slice_index_or l j 0)) e in
              omega (arith, one-less j)
          each j false e =
              let no : as_one (i == j) ≡ 0 = ap as_one e in
              let set = index-set l i (slice_index_or l i 0 - 1) j (counted-inside l i some)
              ∙ ap (λ b. cond b (slice_index_or l i 0 - 1) (slice_index_or l j 0)) e in
              omega (arith, one-less j)

-- ---- a block was entered

module _ (g : Graph) (s t : EvalState) (i b : ℕ) (is : t ≡ effected g s (changes (entered s.world i b))) (l : List ℕ) where
  -- once more
  pub keeps-entered_again : has_entered s.world i b ≡ true → Keeps g s t l l
  keeps-entered_again had = keeps-counts g s t (changes (entered s.world i b)) is l l (λ j x h. enabled_stays-entered g s.world j x i b h)
      (omega (arith, length-with_changed s.world i (with_block b)))
      (λ j. ap (λ n. slice_index_or l j 0 + n) (sym (ap (λ (r : List (ℕ × ℕ)). vertices_left g (entered s.world i b) r j)
      (ap (λ (r : List (ℕ × ℕ)). s.ready ++ r) (joins-entered_again g s.world i b had) ∙ append-nil s.ready)
      ∙ left-entered_again g s.world i b s.ready had j)))

  -- its inlets without a value are as many then as before
  pub same-empty : count_by (λ x. not (has_word (entered s.world i b) i x)) (inlets_in (its_code g s.world i) b)
      ≡ count_by (λ x. not (has_word s.world i x)) (inlets_in (its_code g s.world i) b)
  same-empty = count-alike (λ x. not (has_word (entered s.world i b) i x)) (λ x. not (has_word s.world i x))
      (λ x. ap (λ w. not (is_some w)) (word-entered s.world i b i x)) (inlets_in (its_code g s.world i) b)

  -- for the first time: its vertices are counted
  pub keeps-more : has_entered s.world i b ≡ false → length l ≡ length s.world.activations → (n : ℕ) → n ≡ comes_to_be g s.world i b s.ready
      → Keeps g s t l (slice_set l i (slice_index_or l i 0 + n))
  keeps-more out one_each n brings = keeps-counts g s t (changes (entered s.world i b)) is l (slice_set l i (slice_index_or l i 0 + n))
      (λ j x h. enabled_stays-entered g s.world j x i b h)
      (omega (arith, length-with_changed s.world i (with_block b), length-set l i (slice_index_or l i 0 + n)))
      (λ j. each (nat_lt i (length s.world.activations)) refl j (i == j) refl)
    where
      set-past : (xs : List ℕ) (k v : ℕ) → length xs ≤ k → slice_set xs k v ≡ xs
      set-past [] k v past = refl
      set-past (x ∷ xs) zero v past = absurd (omega arith)
      set-past (x ∷ xs) (suc k) v past = ap (λ r. x ∷ r) (set-past xs k v (omega arith))

      each : (d : Bool) → nat_lt i (length s.world.activations) ≡ d → (j : ℕ) (c : Bool) → (i == j) ≡ c
          → slice_index_or (slice_set l i (slice_index_or l i 0 + n)) j 0 + vertices_left g s.world s.ready j
          ≡ slice_index_or l j 0 + vertices_left g (entered s.world i b) (s.ready ++ joins g s.world (entered s.world i b)) j
      each false p j c e =
          let past : length s.world.activations ≤ i = grind (arith, tests) in
          let set = ap (λ (r : List ℕ). slice_index_or r j 0) (set-past l i (slice_index_or l i 0 + n) (omega arith)) in
          omega (arith, left-entered_past g s.world i b s.ready past j, set)
      each true p j true e =
          let inside : i < length s.world.activations = grind (arith, tests) in
          let same : slice_index_or l i 0 ≡ slice_index_or l j 0 = ap (λ k. slice_index_or l k 0) (number-eq i j e) in
          let more = ap (λ c. cond c (comes_to_be g s.world i b s.ready) 0) e in
          let set = index-set l i (slice_index_or l i 0 + n) j (omega arith) ∙ ap (λ c. cond c (slice_index_or l i 0 + n) (slice_index_or l j 0)) e in
          omega (arith, left-entered g s.world i b s.ready out inside j, more, set)
      each true p j false e =
          let inside : i < length s.world.activations = grind (arith, tests) in
          let more = ap (λ c. cond c (comes_to_be g s.world i b s.ready) 0) e in
          let set = index-set l i (slice_index_or l i 0 + n) j (omega arith) ∙ ap (λ c. cond c (slice_index_or l i 0 + n) (slice_index_or l j 0)) e in
          omega (arith, left-entered g s.world i b s.ready out inside j, more, set)

-- ---- an activation began

-- the vertices of its body are counted
pub keeps-begun : (g : Graph) (s t : EvalState) (k f x : ℕ) (ms : List Message) → t ≡ effected g s (sends_only (with_begun s.world k f x) ms)
    → (l : List ℕ) → length l ≡ length s.world.activations → (n : ℕ) → n ≡ length (firers_in (code_of g k) 0) + length (inlets_in (code_of g k) 0)
    → Keeps g s t l (l ++ n ∷ [])
keeps-begun g s t k f x ms is l one_each n brings =
    keeps-counts g s t (sends_only (with_begun s.world k f x) ms) is l (l ++ n ∷ []) (λ j y h. enabled_stays-begun g s.world j y k f x h)
    (omega (arith, length-begun s.world k f x, longer l))
    (λ j. omega (arith, left-begun g s.world k f x s.ready j, index-push l n j, places j))
  where
    longer : (r : List ℕ) → length (r ++ n ∷ []) ≡ suc (length r)
    longer [] = refl
    longer (a ∷ r) = ap suc (longer r)

    places : (j : ℕ) → cond (length l == j) n 0
        ≡ cond (length s.world.activations == j) (length (firers_in (code_of g k) 0) + length (inlets_in (code_of g k) 0)) 0
    places j = ap (λ a. cond (a == j) n 0) one_each ∙ ap (λ a. cond (length s.world.activations == j) a 0) brings
