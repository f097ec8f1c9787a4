-- What an event leaves of a world: activations, words and entered blocks stay, and new words are of inlets or of the node that fired.
use Rattle.std.proofs.Common.{◌≡◌, ℕ, zero, suc, ◌<◌, Bool, true, false, List, [], ◌∷◌, ◌++◌, refl, sym, subst, ap, inl, inr, ◌⊎◌, ◌∙◌, true≢false}
use Rattle.std.proofs.Common.{◌==◌, length, slice_get, Some, None, arith}
use Rattle.tam_word.specs.Lists.{first_of, changed_at}
use Rattle.tam_word.proofs.Tests.{eq-number}
use Rattle.tam_word.proofs.Members.{In, in-flat_map}
use Rattle.tam_graph.specs.declared.kind.Kind.{Kind}
use Rattle.tam_graph.specs.declared.kind.Kind.TheVariants.{Param, Const, Op as Operate, Seq, Call, Arg, Ret, Give, Alloc}
use Rattle.tam_graph.specs.declared.kind.Kind.TheVariants.{Fetch, Store, Cond, Switch, Merge, Enter, Leave}
use Rattle.tam_graph.specs.Graphs.{Code, Graph, code_of, kind_at, block_at, chosen_branch, owner_of}
use Rattle.tam_graph.specs.Graphs.{node_where, node_in, node_numbers, nodes_in, is_inlet, operands_of}
use Rattle.tam_graph.specs.Graphs.{is_param, is_ret, is_merge, is_enter}
use Rattle.tam_split.proofs.Firers.{is_inner}
use Rattle.tam_msgs.specs.declared.message.Message.{Message}
use Rattle.tam_msgs.specs.declared.message.Message.TheVariants.{Word as Carry, Frame as Begin, Cells as Make, Fetch as Ask_cell, Store as Put_cell}
use Rattle.tam_msgs.specs.Messages.{outside}
use Rattle.tam_istr.specs.Cells.{Access, Now, Deferred, Stored, Twice, NotBelow, NoArray, fetched_from, stored_into}
use Rattle.tam_world.specs.Worlds.{World, ActivationState, Delivery, Went, Printed, Faulted, begun, or_activation, activation_at, its_code}
use Rattle.tam_world.specs.Worlds.{has_word, has_entered, with_word, with_block, got, all_got, entered, merges_of, firing_of, fired_with, fired, words_of}
use Rattle.tam_world.specs.Worlds.{accessed, delivered}
use Rattle.tam_flow.specs.Reached.{IsThere}
use Rattle.tam_flow.proofs.ActivationLists.{was_entered, entered-stays, has_among, has-stays, has-cases}
use Rattle.tam_word.proofs.Each.{length-changed_at}

-- what an event leaves; Just are the nodes that fired
pub record Moves (g : Graph) (Just : ℕ → ℕ → Type 0) (w v : World) : Type 0 where
  pub there : (j : ℕ) → IsThere w j → IsThere v j
  pub codes : (j : ℕ) → IsThere w j → (activation_at v j).code ≡ (activation_at w j).code
  pub words_stay : (j y : ℕ) → has_word w j y ≡ true → has_word v j y ≡ true
  pub entered_stay : (j b : ℕ) → has_entered w j b ≡ true → has_entered v j b ≡ true
  pub words_new : (j y : ℕ) → has_word v j y ≡ true → (has_word w j y ≡ true) ⊎ (IsThere w j
      × ((Just j y × (is_inner (kind_at (its_code g w j) y) ≡ true)) ⊎ (is_inlet (kind_at (its_code g w j) y) ≡ true)))

-- ---- lists with an element changed, and with one more

-- an element of a changed list is as it was, or it is the changed one
changed-cases : (i j : ℕ) (f : ActivationState → ActivationState) (xs : List ActivationState)
    → (slice_get (changed_at i f xs) j ≡ slice_get xs j)
    ⊎ ((i ≡ j) × ((a : ActivationState) × (slice_get xs j ≡ Some a) × (slice_get (changed_at i f xs) j ≡ Some (f a))))
changed-cases i j f [] = inl refl
changed-cases zero zero f (x ∷ xs) = inr (refl, (x, refl, refl))
changed-cases zero (suc j) f (x ∷ xs) = inl refl
changed-cases (suc i) zero f (x ∷ xs) = inl refl
changed-cases (suc i) (suc j) f (x ∷ xs) = elim (changed-cases i j f xs) [ inl e ↦ inl e | inr r ↦ inr (ap suc r.0, r.1) ]

-- an element of a list with one more is the list's, or it is that one, behind all others
pub push-cases : (xs : List ActivationState) (y : ActivationState) (j : ℕ)
    → (slice_get (xs ++ y ∷ []) j ≡ slice_get xs j) ⊎ ((slice_get xs j ≡ None) × (slice_get (xs ++ y ∷ []) j ≡ Some y) × (j ≡ length xs))
push-cases [] y zero = inr (refl, refl, refl)
push-cases [] y (suc j) = inl refl
push-cases (x ∷ xs) y zero = inl refl
push-cases (x ∷ xs) y (suc j) = elim (push-cases xs y j) [ inl e ↦ inl e | inr r ↦ inr (r.0, r.1, ap suc r.2) ]

-- one more element
pub length-push : (xs : List ActivationState) (y : ActivationState) → length (xs ++ y ∷ []) ≡ suc (length xs)
length-push [] y = refl
length-push (x ∷ xs) y = ap suc (length-push xs y)

-- ---- words and blocks of one activation

-- an activation has a word of a node
abbrev act_has : ActivationState → ℕ → Bool
act_has a y = has_among a.words y

-- what a change of an activation keeps
record Keeps (f : ActivationState → ActivationState) (New : ℕ → Type 0) : Type 0 where
  code : (a : ActivationState) → (f a).code ≡ a.code
  word : (a : ActivationState) (y : ℕ) → act_has a y ≡ true → act_has (f a) y ≡ true
  block : (a : ActivationState) (d : ℕ) → was_entered a.entered d ≡ true → was_entered (f a).entered d ≡ true
  fresh : (a : ActivationState) (y : ℕ) → act_has (f a) y ≡ true → (act_has a y ≡ true) ⊎ New y

-- a world with an activation changed
abbrev changed_world : World → ℕ → (ActivationState → ActivationState) → World
changed_world v i f = record v { activations = changed_at i f v.activations }

-- activation j is as it was, or it is the changed one
abbrev ChangedCases : World → ℕ → (ActivationState → ActivationState) → ℕ → Type 0
ChangedCases v i f j = (slice_get (changed_at i f v.activations) j ≡ slice_get v.activations j)
    ⊎ ((i ≡ j) × ((a : ActivationState) × (slice_get v.activations j ≡ Some a) × (slice_get (changed_at i f v.activations) j ≡ Some (f a))))

-- a world with an activation that began
abbrev begun_world : World → ℕ → ℕ → ℕ → World
begun_world w c f x = record w { activations = w.activations ++ begun c f x ∷ [] }

-- activation j is as it was, or it is the one that began
abbrev BegunCases : World → ℕ → ℕ → ℕ → ℕ → Type 0
BegunCases w c f x j = (slice_get (begun_world w c f x).activations j ≡ slice_get w.activations j)
    ⊎ ((slice_get w.activations j ≡ None) × (slice_get (begun_world w c f x).activations j ≡ Some (begun c f x)) × (j ≡ length w.activations))

module _ (g : Graph) (Just : ℕ → ℕ → Type 0) (w : World) where
  -- what may be new
  abbrev IsNew : ℕ → ℕ → Type 0
  IsNew j y = IsThere w j × ((Just j y × (is_inner (kind_at (its_code g w j) y) ≡ true)) ⊎ (is_inlet (kind_at (its_code g w j) y) ≡ true))

  -- nothing moves
  pub moves-none : Moves g Just w w
  moves-none = record {
    there = λ j h. h;
    codes = λ j h. refl;
    words_stay = λ j y h. h;
    entered_stay = λ j b h. h;
    words_new = λ j y h. inl h;
  }

  -- an activation changes besides
  moves-changed : (v : World) (i : ℕ) (f : ActivationState → ActivationState) → Keeps f (IsNew i) → Moves g Just w v
      → Moves g Just w (record v { activations = changed_at i f v.activations })
  moves-changed v i f k m = record {
    there = λ j h. let l : j < length v.activations = m.there j h in subst (λ n. j < n) (sym (length-changed_at i f v.activations)) l;
    codes = λ j h. code j (changed-cases i j f v.activations) ∙ m.codes j h;
    words_stay = λ j y h. stay j y (changed-cases i j f v.activations) (m.words_stay j y h);
    entered_stay = λ j b h. block j b (changed-cases i j f v.activations) (m.entered_stay j b h);
    words_new = λ j y h. new j y (changed-cases i j f v.activations) h;
  }
    where
      code : (j : ℕ) → ChangedCases v i f j → (activation_at (changed_world v i f) j).code ≡ (activation_at v j).code
      code j (inl e) = ap (λ o. (or_activation o).code) e
      code j (inr (q, (a, e, d))) = ap (λ o. (or_activation o).code) d ∙ (k.code a ∙ sym (ap (λ o. (or_activation o).code) e))

      stay : (j y : ℕ) → ChangedCases v i f j → has_word v j y ≡ true → has_word (changed_world v i f) j y ≡ true
      stay j y (inl e) h = ap (λ o. act_has (or_activation o) y) e ∙ h
      stay j y (inr (q, (a, e, d))) h = ap (λ o. act_has (or_activation o) y) d ∙ k.word a y (sym (ap (λ o. act_has (or_activation o) y) e) ∙ h)

      block : (j b : ℕ) → ChangedCases v i f j → has_entered v j b ≡ true → has_entered (changed_world v i f) j b ≡ true
      block j b (inl e) h = ap (λ o. was_entered (or_activation o).entered b) e ∙ h
      block j b (inr (q, (a, e, d))) h =
          ap (λ o. was_entered (or_activation o).entered b) d ∙ k.block a b (sym (ap (λ o. was_entered (or_activation o).entered b) e) ∙ h)

      new : (j y : ℕ) → ChangedCases v i f j → has_word (changed_world v i f) j y ≡ true → (has_word w j y ≡ true) ⊎ IsNew j y
      new j y (inl e) h = m.words_new j y (sym (ap (λ o. act_has (or_activation o) y) e) ∙ h)
      new j y (inr (q, (a, e, d))) h = elim (k.fresh a y (sym (ap (λ o. act_has (or_activation o) y) d) ∙ h)) [
        | inl r ↦ m.words_new j y (ap (λ o. act_has (or_activation o) y) e ∙ r)
        | inr r ↦ inr (subst (λ z. IsNew z y) q r)
      ]

  -- a node of an activation gets a word besides
  pub moves-got : (v : World) (i x u : ℕ) → IsNew i x → Moves g Just w v → Moves g Just w (got v i x u)
  moves-got v i x u n m = moves-changed v i (with_word x u) (record {
    code = λ a. refl;
    word = λ a y h. has-stays x u a.words y h;
    block = λ a d h. h;
    fresh = λ a y h. elim (has-cases x u a.words y h) [ inl e ↦ inr (subst (IsNew i) e n) | inr r ↦ inl r ];
  }) m

  -- several nodes get one
  pub moves-all_got : (v : World) (i : ℕ) (xs : List ℕ) (u : ℕ) → ((x : ℕ) → In x xs → IsNew i x) → Moves g Just w v → Moves g Just w (all_got v i xs u)
  moves-all_got v i [] u n m = m
  moves-all_got v i (x ∷ xs) u n m = moves-all_got (got v i x u) i xs u (λ y h. n y (inr h)) (moves-got v i x u (n x (inl refl)) m)

  -- a block is entered besides
  pub moves-entered : (v : World) (i b : ℕ) → Moves g Just w v → Moves g Just w (entered v i b)
  moves-entered v i b m = moves-changed v i (with_block b) (record {
    code = λ a. refl;
    word = λ a y h. h;
    block = λ a d h. entered-stays b a.entered d h;
    fresh = λ a y h. inl h;
  }) m

  -- an activation begins
  pub moves-begun : (c f x : ℕ) → Moves g Just w (record w { activations = w.activations ++ begun c f x ∷ [] })
  moves-begun c f x = record {
    there = λ j h. let l : j < length w.activations = h in let e = length-push w.activations (begun c f x) in omega arith;
    codes = λ j h. code j h (push-cases w.activations (begun c f x) j);
    words_stay = λ j y h. stay j y (push-cases w.activations (begun c f x) j) h;
    entered_stay = λ j b h. block j b (push-cases w.activations (begun c f x) j) h;
    words_new = λ j y h. inl (new j y (push-cases w.activations (begun c f x) j) h);
  }
    where
      code : (j : ℕ) → IsThere w j → BegunCases w c f x j → (activation_at (begun_world w c f x) j).code ≡ (activation_at w j).code
      code j h (inl e) = ap (λ o. (or_activation o).code) e
      code j h (inr (n, e, q)) = let l : j < length w.activations = h in absurd (omega arith)

      stay : (j y : ℕ) → BegunCases w c f x j → has_word w j y ≡ true → has_word (begun_world w c f x) j y ≡ true
      stay j y (inl e) h = ap (λ o. act_has (or_activation o) y) e ∙ h
      stay j y (inr (n, e, q)) h = absurd (true≢false (sym h ∙ ap (λ o. act_has (or_activation o) y) n))

      block : (j b : ℕ) → BegunCases w c f x j → has_entered w j b ≡ true → has_entered (begun_world w c f x) j b ≡ true
      block j b (inl e) h = ap (λ o. was_entered (or_activation o).entered b) e ∙ h
      block j b (inr (n, e, q)) h = absurd (true≢false (sym h ∙ ap (λ o. was_entered (or_activation o).entered b) n))

      new : (j y : ℕ) → BegunCases w c f x j → has_word (begun_world w c f x) j y ≡ true → has_word w j y ≡ true
      new j y (inl e) h = sym (ap (λ o. act_has (or_activation o) y) e) ∙ h
      new j y (inr (n, e, q)) h = absurd (true≢false (sym h ∙ ap (λ o. act_has (or_activation o) y) e))

-- ---- firings

-- the first that passes is an element that passes
pub in-first : {X : Type 0} (test : X → Bool) (xs : List X) (x : X) → In x (first_of test xs) → In x xs × (test x ≡ true)
in-first test [] x h = absurd h
in-first test (y ∷ ys) x h = go (test y) refl (in-first test ys x)
  where
    one : In x (y ∷ []) → test y ≡ true → In x (y ∷ ys) × (test x ≡ true)
    one (inl e) p = (inl e, subst (λ z. test z ≡ true) e p)
    one (inr e) p = absurd e

    go : (t : Bool) → test y ≡ t → (In x (first_of test ys) → In x ys × (test x ≡ true)) → In x (y ∷ ys) × (test x ≡ true)
    go true p f = one (rw (first_of, p) at h) p
    go false p f = let r = f (rw (first_of, p) at h) in (inr r.0, r.1)

-- these tests find inlets
param-inlet : (k : ℕ) (d : Kind) → is_param k d ≡ true → is_inlet d ≡ true
param-inlet k (Param j) h = refl
param-inlet k d h = absurd (true≢false (sym h))

-- so does the test of rets
ret-inlet : (f k : ℕ) (d : Kind) → is_ret f k d ≡ true → is_inlet d ≡ true
ret-inlet f k (Ret e j) h = refl
ret-inlet f k d h = absurd (true≢false (sym h))

-- that of merges
merge-inlet : (c k : ℕ) (d : Kind) → is_merge c k d ≡ true → is_inlet d ≡ true
merge-inlet c k (Merge e j) h = refl
merge-inlet c k d h = absurd (true≢false (sym h))

-- and that of enters
enter-inlet : (k : ℕ) (d : Kind) → is_enter k d ≡ true → is_inlet d ≡ true
enter-inlet k (Enter j) h = refl
enter-inlet k d h = absurd (true≢false (sym h))

-- a param of a code is an inlet
pub param-where : (c : Code) (k y : ℕ) → In y (node_where c (is_param k)) → is_inlet (kind_at c y) ≡ true
param-where c k y h = param-inlet k (kind_at c y) (in-first (λ x. is_param k (kind_at c x)) (node_numbers c) y h).1

-- so is a ret
pub ret-where : (c : Code) (f k y : ℕ) → In y (node_where c (is_ret f k)) → is_inlet (kind_at c y) ≡ true
ret-where c f k y h = ret-inlet f k (kind_at c y) (in-first (λ x. is_ret f k (kind_at c x)) (node_numbers c) y h).1

-- and an enter of a block
enter-where : (c : Code) (b k y : ℕ) → In y (node_in c b (is_enter k)) → is_inlet (kind_at c y) ≡ true
enter-where c b k y h = enter-inlet k (kind_at c y) (in-first (λ x. is_enter k (kind_at c x)) (nodes_in c b) y h).1

-- and a merge
merge-where : (c : Code) (k : ℕ) (owners : List ℕ) (y : ℕ) → In y (merges_of c k owners) → is_inlet (kind_at c y) ≡ true
merge-where c k owners y h =
    let r = in-flat_map (λ d. node_where c (is_merge d k)) y owners h in
    merge-inlet r.0 k (kind_at c y) (in-first (λ x. is_merge r.0 k (kind_at c x)) (node_numbers c) y r.2).1

-- the one node that fires
abbrev pub JustOne : ℕ → ℕ → ℕ → ℕ → Type 0
JustOne i x j y = (j ≡ i) × (y ≡ x)

module _ (g : Graph) (w : World) (i x : ℕ) (there : IsThere w i) where
  -- a node that fires may get its own word
  own : is_inner (kind_at (its_code g w i) x) ≡ true → IsNew g (JustOne i x) w i x
  own h = (there, inl ((refl, refl), h))

  -- an inlet may get one
  other : (y : ℕ) → is_inlet (kind_at (its_code g w i) y) ≡ true → IsNew g (JustOne i x) w i y
  other y h = (there, inr h)

  -- what a firing leaves, by what the node does
  moves-firing : (k : Kind) (vs : List ℕ) → kind_at (its_code g w i) x ≡ k → Moves g (JustOne i x) w (firing_of g w i x k vs).world
  moves-firing (Const v) [] e = moves-got g (JustOne i x) w w i x v (own (ap is_inner e)) (moves-none g (JustOne i x) w)
  moves-firing (Operate o a b) (u ∷ v ∷ []) e = moves-got g (JustOne i x) w w i x _ (own (ap is_inner e)) (moves-none g (JustOne i x) w)
  moves-firing (Seq a b) (u ∷ v ∷ []) e = moves-got g (JustOne i x) w w i x u (own (ap is_inner e)) (moves-none g (JustOne i x) w)
  moves-firing (Cond p y n) (v ∷ []) e = moves-entered g (JustOne i x) w w i _ (moves-none g (JustOne i x) w)
  moves-firing (Switch c k a) (u ∷ v ∷ []) e =
      moves-all_got g (JustOne i x) w w i (node_in (its_code g w i) (chosen_branch (its_code g w i) c u) (is_enter k)) v
      (λ y h. other y (enter-where (its_code g w i) (chosen_branch (its_code g w i) c u) k y h)) (moves-none g (JustOne i x) w)
  moves-firing (Leave k a) (v ∷ []) e =
      moves-all_got g (JustOne i x) w w i (merges_of (its_code g w i) k (owner_of (its_code g w i) (block_at (its_code g w i) x))) v
      (λ y h. other y (merge-where (its_code g w i) k (owner_of (its_code g w i) (block_at (its_code g w i) x)) y h)) (moves-none g (JustOne i x) w)
  moves-firing (Call c) [] e = moves-none g (JustOne i x) w
  moves-firing (Arg f k a) (v ∷ p ∷ []) e = moves-none g (JustOne i x) w
  moves-firing (Give k a) (v ∷ []) e = moves-none g (JustOne i x) w
  moves-firing (Alloc n) (v ∷ []) e = moves-none g (JustOne i x) w
  moves-firing (Fetch a j) (u ∷ v ∷ []) e = moves-none g (JustOne i x) w
  moves-firing (Store a j b) (t ∷ u ∷ v ∷ []) e = moves-none g (JustOne i x) w
  moves-firing k vs e = moves-none g (JustOne i x) w

  -- what a firing leaves
  pub moves-fired : Moves g (JustOne i x) w (fired g w i x).world
  moves-fired = go (words_of w i (operands_of (its_code g w i) (kind_at (its_code g w i) x)))
    where
      go : (l : List (List ℕ)) → Moves g (JustOne i x) w (fired_with g w i x l).world
      go [] = moves-none g (JustOne i x) w
      go (vs ∷ more) = moves-firing (kind_at (its_code g w i) x) vs refl

-- ---- deliveries

-- no node fires
abbrev pub JustNone : ℕ → ℕ → Type 0
JustNone j y = ⊥

-- node x of activation f may get a word from outside
abbrev pub IsForInlet : Graph → World → ℕ → ℕ → Type 0
IsForInlet g w f x = IsThere w f × (is_inlet (kind_at (its_code g w f) x) ≡ true)

-- a message is for an inlet, or asks for one
abbrev pub Fits : Graph → World → Message → Type 0
Fits g w (Carry f x v) = (f ≡ outside) ⊎ IsForInlet g w f x
Fits g w (Begin c f x) = IsForInlet g w f x
Fits g w (Make n f x) = IsForInlet g w f x
Fits g w (Ask_cell a j f x t) = IsForInlet g w f x
Fits g w (Put_cell a j v t) = Unit {0}

-- what a delivery leaves
abbrev pub Left : Graph → World → Delivery → Type 0
Left g w (Went e) = Moves g JustNone w e.world
Left g w (Printed k v) = Unit {0}
Left g w (Faulted f) = Unit {0}

-- a world with other arrays is one with the same activations
pub moves-arrays : (g : Graph) (w v : World) → v.activations ≡ w.activations → Moves g JustNone w v
moves-arrays g w v e = record {
  there = λ j h. subst (λ (l : List ActivationState). j < length l) (sym e) h;
  codes = λ j h. ap (λ (l : List ActivationState). (or_activation (slice_get l j)).code) e;
  words_stay = λ j y h. ap (λ (l : List ActivationState). act_has (or_activation (slice_get l j)) y) e ∙ h;
  entered_stay = λ j b h. ap (λ (l : List ActivationState). was_entered (or_activation (slice_get l j)).entered b) e ∙ h;
  words_new = λ j y h. inl (sym (ap (λ (l : List ActivationState). act_has (or_activation (slice_get l j)) y) e) ∙ h);
}

-- an access
left-accessed : (g : Graph) (w : World) (t j : ℕ) (r : ℕ × ℕ) (v : ℕ) (a : Access) → Left g w (accessed w t j r v a)
left-accessed g w t j r v (Now u) = moves-none g JustNone w
left-accessed g w t j r v (Deferred arrays) = moves-arrays g w (record w { arrays = arrays }) refl
left-accessed g w t j r v (Stored arrays readers) = moves-arrays g w (record w { arrays = arrays }) refl
left-accessed g w t j r v (Twice u) = tt
left-accessed g w t j r v (NotBelow n) = tt
left-accessed g w t j r v NoArray = tt

-- a delivery
pub left-delivered : (g : Graph) (w : World) (m : Message) → Fits g w m → Left g w (delivered w m)
left-delivered g w (Carry f x v) h = go (f == outside) refl h
  where
    go : (t : Bool) → (f == outside) ≡ t → (f ≡ outside) ⊎ IsForInlet g w f x → Left g w (delivered w (Carry f x v))
    go true p h = rw (delivered, p) tt
    go false p (inl e) = absurd (true≢false (sym (eq-number f outside e) ∙ p))
    go false p (inr h) = rw (delivered, p) (moves-got g JustNone w w f x v (h.0, inr h.1) (moves-none g JustNone w))
left-delivered g w (Begin c f x) h = moves-begun g JustNone w c f x
left-delivered g w (Make n f x) h = moves-arrays g w _ refl
left-delivered g w (Ask_cell a j f x t) h = left-accessed g w t j (f, x) 0 (fetched_from w.arrays a j (f, x))
left-delivered g w (Put_cell a j v t) h = left-accessed g w t j (0, 0) v (stored_into w.arrays a j v t)

-- what is for an inlet still is
pub for-later : (g : Graph) (Just : ℕ → ℕ → Type 0) (w v : World) → Moves g Just w v → (f x : ℕ) → IsForInlet g w f x → IsForInlet g v f x
for-later g Just w v m f x h = (m.there f h.0, subst (λ c. is_inlet (kind_at (code_of g c) x) ≡ true) (sym (m.codes f h.0)) h.1)

-- and so what fits
pub fits-later : (g : Graph) (Just : ℕ → ℕ → Type 0) (w v : World) → Moves g Just w v → (m : Message) → Fits g w m → Fits g v m
fits-later g Just w v k (Carry f x u) (inl e) = inl e
fits-later g Just w v k (Carry f x u) (inr h) = inr (for-later g Just w v k f x h)
fits-later g Just w v k (Begin c f x) h = for-later g Just w v k f x h
fits-later g Just w v k (Make n f x) h = for-later g Just w v k f x h
fits-later g Just w v k (Ask_cell a j f x t) h = for-later g Just w v k f x h
fits-later g Just w v k (Put_cell a j u t) h = tt
