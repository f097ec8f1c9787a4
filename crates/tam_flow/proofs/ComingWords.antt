-- A node to which a message carries its word gets none from a run: no firing gives it one.
use Rattle.std.proofs.Common.{◌≡◌, ℕ, true, false, List, [], ◌∷◌, refl, sym, ap, ◌∙◌, subst, inl, inr, ◌⊎◌, ⊎_elim, true≢false}
use Rattle.tam_word.proofs.Members.{In}
use Rattle.tam_graph.specs.declared.kind.Kind.{Kind}
use Rattle.tam_graph.specs.declared.kind.Kind.TheVariants.{Param, Ret, Call, Alloc, Fetch}
use Rattle.tam_graph.specs.Graphs.{Graph, code_of, kind_at, operands_of, is_split}
use Rattle.tam_graph.specs.Accepted.{IsAccepted}
use Rattle.tam_split.specs.Blocks.{BlockGraph, vertex_at}
use Rattle.tam_world.specs.Worlds.{World, or_activation, its_code, word_of, words_of, got, fired_with, fired, begun}
use Rattle.tam_flow.specs.Reached.{IsThere, kind_of}
use Rattle.tam_flow.proofs.ActivationLists.{word_among}
use Rattle.tam_flow.proofs.Gifts.{gift, got-one, leaves-firing}
use Rattle.tam_flow.proofs.Givers.{is_received, given-to, given-no_message}
use Rattle.tam_flow.proofs.Growing.{with_begun}
use Rattle.tam_flow.proofs.Moves.{push-cases}
use Rattle.tam_flow.proofs.RunSteps.{KeptByFirings}

-- to a node that is cut a message carries its word
pub split-received : (k : Kind) → is_split k ≡ true → is_received k ≡ true
split-received (Param k) h = refl
split-received (Ret f k) h = refl
split-received (Call c) h = refl
split-received (Alloc n) h = refl
split-received (Fetch a j) h = refl
split-received k h = h

-- ---- one word more

-- where a node gets a word each has the word that it had, or it is this node
pub got-cases : (w : World) (i y v f x : ℕ) → (word_of (got w i y v) f x ≡ word_of w f x) ⊎ ((i ≡ f) × (y ≡ x))
got-cases w i y v f x = ⊎_elim inl (λ k. inr (sym k.0, this k.1)) ((got-one w i y v).words f x)
  where
    this : In x (y ∷ []) → y ≡ x
    this (inl e) = e
    this (inr e) = absurd e

-- this node has it
pub got-here : (w : World) (i y v : ℕ) → IsThere w i → word_of (got w i y v) i y ≡ v ∷ []
got-here w i y v t = (got-one w i y v).given y t (inl refl)

-- an activation that begins changes no word
pub begun-words : (w : World) (c e y f x : ℕ) → word_of (with_begun w c e y) f x ≡ word_of w f x
begun-words w c e y f x =
    ⊎_elim (λ k. ap (λ o. word_among (or_activation o).words x) k)
    (λ k. ap (λ o. word_among (or_activation o).words x) k.1 ∙ sym (ap (λ o. word_among (or_activation o).words x) k.0))
    (push-cases w.activations (begun c e y) f)

-- ---- a firing

-- a firing gives no word to a node to which a message carries one
pub fired-keeps : (g : Graph) (w : World) (i y f x : ℕ) → is_received (kind_of g w f x) ≡ true → word_of (fired g w i y).world f x ≡ word_of w f x
fired-keeps g w i y f x takes = go (words_of w i (operands_of (its_code g w i) (kind_at (its_code g w i) y)))
  where
    go : (ws : List (List ℕ)) → word_of (fired_with g w i y ws).world f x ≡ word_of w f x
    go [] = refl
    go (vs ∷ more) = ⊎_elim (λ e. e) (λ k. absurd (given k.0 k.1)) ((leaves-firing g w i y (kind_of g w i y) vs).words f x)
      where
        given : f ≡ i → In x (gift (its_code g w i) y (kind_of g w i y) vs).0 → ⊥
        given e m =
            let none = given-no_message (its_code g w i) y (kind_of g w i y) vs x refl (given-to (its_code g w i) y (kind_of g w i y) vs x m) in
            true≢false (sym takes ∙ subst (λ n. is_received (kind_of g w n x) ≡ false) (sym e) none)

-- ---- a run

-- nodes to which messages carry words have the words that they had
abbrev pub AreKept : Graph → World → World → Type 0
AreKept g w v = (f x : ℕ) → IsThere w f → is_received (kind_of g w f x) ≡ true → word_of v f x ≡ word_of w f x

-- each firing of a run keeps them
pub coming-kept : (g : Graph) (args : List ℕ) (accepted : IsAccepted g) (w : World) (i : ℕ) (there : IsThere w i) (b : BlockGraph)
    → KeptByFirings g args accepted w i there b (λ done e. AreKept g w e.world)
coming-kept g args accepted w i there b = record {
  skips = λ done e y h d. h;
  fires = λ done e y effect same h firer l none new f x t takes.
      fired-keeps g e.world i (vertex_at b y).node f x
      (subst (λ n. is_received (kind_at (code_of g n) x) ≡ true) (sym (effect.grows.code f t)) takes) ∙ h f x t takes;
}
