-- Before the first event: the arguments wish for no activation, and so many vertices are counted as are left.
use Rattle.std.proofs.Common.{◌≡◌, ℕ, ◌+◌, true, List, [], ◌∷◌, Some, length, slice_get, refl, sym, ap, ◌∙◌, arith, true≢false}
use Rattle.std.specs.Prelude.{cond, ◌==◌, flat_map, zip, slice_index_or}
use Rattle.tam_word.specs.Lists.{below, all_of}
use Rattle.tam_word.proofs.Members.{In, in-map, in-flat_map, get-in}
use Rattle.tam_msgs.specs.declared.message.Message.{Message}
use Rattle.tam_msgs.specs.declared.message.Message.TheVariants.{Word as Carry, Frame as Begin, Cells as Make, Fetch as Ask_cell, Store as Put_cell}
use Rattle.tam_msgs.specs.Messages.{outside}
use Rattle.tam_graph.specs.Graphs.{Graph, code_of, node_where, is_param}
use Rattle.tam_world.specs.Worlds.{argument_message, opening}
use Rattle.tam_world.specs.Takers.{firers_in, inlets_in}
use Rattle.tam_world.specs.Effects.{activations_wished}
use Rattle.tam_eval.specs.GraphRuns.{is_enabled, joins, nothing_begun}
use Rattle.tam_eval.specs.Waiting.{vertices_left}
use Rattle.tam_eval.proofs.Enabled.{enabled-past}
use Rattle.tam_eval.proofs.VerticesLeft.{left-begun, others-past, ready-may}
use Rattle.tam_eval.proofs.KeepingCounts.{index-push}

-- an argument on its way is no wish for an activation
pub argument-no_wish : (g : Graph) (kw : ℕ × ℕ) (c f x : ℕ) → ¬ In (Begin c f x) (argument_message g kw)
argument-no_wish g kw c f x i = let a = in-map (λ y. Carry 0 y kw.1) (Begin c f x) (node_where (code_of g g.main) (is_param kw.0)) i in other a.2
  where
    other : {a b d : ℕ} → Carry a b d ≡ Begin c f x → ⊥
    other e = cc

-- so of the arguments on their way each wishes for none
pub arguments-wish_none : (g : Graph) (args : List ℕ) (k : ℕ) (m : Message)
    → slice_get (flat_map (argument_message g) (zip (below (length args)) args)) k ≡ Some m → activations_wished m ≡ 0
arguments-wish_none g args k m at = go m (get-in (flat_map (argument_message g) (zip (below (length args)) args)) k m at)
  where
    go : (q : Message) → In q (flat_map (argument_message g) (zip (below (length args)) args)) → activations_wished q ≡ 0
    go (Carry f x v) i = refl
    go (Make l f x) i = refl
    go (Ask_cell a j f x t) i = refl
    go (Put_cell a j v t) i = refl
    go (Begin c f x) i =
        let p = in-flat_map (argument_message g) (Begin c f x) (zip (below (length args)) args) i in absurd (argument-no_wish g p.0 c f x p.2)

module _ (g : Graph) where
  -- the root has the vertices of its body left
  pub opening-counts : (n : ℕ) → n ≡ length (firers_in (code_of g g.main) 0) + length (inlets_in (code_of g g.main) 0) → (j : ℕ)
      → slice_index_or (n ∷ []) j 0 ≡ vertices_left g (opening g) (joins g nothing_begun (opening g)) j
  opening-counts n is j =
      omega (
        arith,
        index-push [] n j,
        left-begun g nothing_begun g.main outside 0 [] j,
        others-past g nothing_begun j (omega arith),
        ap (λ k. cond (0 == j) k 0) is,
      )

  -- and what is ready may fire
  pub opening-may : all_of (λ r. is_enabled g (opening g) r.0 r.1) (joins g nothing_begun (opening g)) ≡ true
  opening-may = ready-may g nothing_begun (opening g) [] (λ i x h. absurd (true≢false (sym h ∙ enabled-past g nothing_begun i x (omega arith)))) refl
