-- A const, an operator or a seq that fires gives its node a word.
use Rattle.std.proofs.Common.{◌≡◌, ℕ, zero, suc, ◌<◌, true, List, [], ◌∷◌, ◌++◌, refl, sym, subst, ap, inl, inr, ◌∙◌, true≢false}
use Rattle.std.proofs.Common.{length, map, flat_map, slice_get, Some, arith}
use Rattle.tam_word.specs.Lists.{changed_at}
use Rattle.tam_word.proofs.Members.{In}
use Rattle.tam_graph.specs.declared.kind.Kind.{Kind}
use Rattle.tam_graph.specs.declared.kind.Kind.TheVariants.{Const, Op as Operate, Seq}
use Rattle.tam_graph.specs.Graphs.{Graph, kind_at, operands_of}
use Rattle.tam_split.proofs.Firers.{is_inner}
use Rattle.tam_world.specs.Worlds.{World, ActivationState, or_activation, activation_at, its_code, words_of, has_word, with_word, got}
use Rattle.tam_world.specs.Worlds.{firing_of, fired_with, fired}
use Rattle.tam_flow.specs.Reached.{IsThere}
use Rattle.tam_flow.proofs.ActivationLists.{has_among, has-word, has-here}

-- where each node has a word there are words of them, as many
pub some-words : (w : World) (i : ℕ) (xs : List ℕ) → ((a : ℕ) → In a xs → has_word w i a ≡ true)
    → (vs : List ℕ) × (words_of w i xs ≡ vs ∷ []) × (length vs ≡ length xs)
some-words w i [] h = ([], refl, refl)
some-words w i (x ∷ xs) h =
    let u = has-word (activation_at w i).words x (h x (inl refl)) in
    let r = some-words w i xs (λ a m. h a (inr m)) in
    (u.0 ∷ r.0, ap (λ l. flat_map (λ v. map (λ vs. v ∷ vs) (words_of w i xs)) l) u.1 ∙ ap (λ l. map (λ vs. u.0 ∷ vs) l ++ []) r.1, ap suc r.2)

-- a node that got a word has one
pub got-has : (w : World) (i x u : ℕ) → IsThere w i → has_word (got w i x u) i x ≡ true
got-has w i x u h =
    let r = changed-here i w.activations h in
    ap (λ o. has_among (or_activation o).words x) r.1 ∙ has-here x u r.0.words
  where
    changed-here : (j : ℕ) (xs : List ActivationState) → j < length xs → (a : ActivationState) ×
        (slice_get (changed_at j (with_word x u) xs) j ≡ Some (with_word x u a))
    changed-here j [] l = absurd (omega arith)
    changed-here zero (a ∷ xs) l = (a, refl)
    changed-here (suc j) (a ∷ xs) l = changed-here j xs (omega arith)

module _ (g : Graph) (w : World) (i x : ℕ) (there : IsThere w i) where
  -- by what the node does
  gives : (k : Kind) (vs : List ℕ) → is_inner k ≡ true → length vs ≡ length (operands_of (its_code g w i) k) → has_word
      (firing_of g w i x k vs).world i x ≡ true
  gives (Const v) [] n e = got-has w i x v there
  gives (Const v) (a ∷ vs) n e = absurd (omega arith)
  gives (Operate o a b) [] n e = absurd (omega arith)
  gives (Operate o a b) (u ∷ []) n e = absurd (omega arith)
  gives (Operate o a b) (u ∷ v ∷ []) n e = got-has w i x _ there
  gives (Operate o a b) (u ∷ v ∷ z ∷ vs) n e = absurd (omega arith)
  gives (Seq a b) [] n e = absurd (omega arith)
  gives (Seq a b) (u ∷ []) n e = absurd (omega arith)
  gives (Seq a b) (u ∷ v ∷ []) n e = got-has w i x u there
  gives (Seq a b) (u ∷ v ∷ z ∷ vs) n e = absurd (omega arith)
  gives k vs n e = absurd (true≢false (sym n))

  -- a firing of a node whose operands have words
  pub fired-gives : is_inner (kind_at (its_code g w i) x) ≡ true →
      ((a : ℕ) → In a (operands_of (its_code g w i) (kind_at (its_code g w i) x)) → has_word w i a ≡ true)
      → has_word (fired g w i x).world i x ≡ true
  fired-gives n h =
      let r = some-words w i (operands_of (its_code g w i) (kind_at (its_code g w i) x)) h in
      subst (λ l. has_word (fired_with g w i x l).world i x ≡ true) (sym r.1) (gives (kind_at (its_code g w i) x) r.0 n r.2)
