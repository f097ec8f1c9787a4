-- The arguments and limits of the runs of a large input.
use Rattle.std.proofs.Common.{◌≡◌, ℕ, zero, suc, ◌<◌, ◌^◌, [], ◌∷◌, sym, subst, slice_get, arith}
use Rattle.std.specs.Prelude.{Option, Some}
use Rattle.tam_graph.specs.Graphs.{Graph, AreArguments, code_of, params_of}
use Rattle.tam_make.specs.declared.shape.Shape.{Shape}
use Rattle.tam_make.specs.declared.shape.Shape.TheVariants.{Ladder, Wave}
use Rattle.tam_make.specs.MadeTexts.{IsCount}
use Rattle.tam_msgs.specs.Messages.{AreLimits}
use Rattle.tam_words.specs.Options.{usual_limits}
use Rattle.tam.specs.MadeRuns.{argument_of}

-- the argument is a word
argument-small : (shape : Shape) (n : ℕ) → IsCount shape n → argument_of shape n < 2 ^ 32
argument-small Ladder n count = omega arith
argument-small Wave n (some, few) = omega (arith, few)

-- there is one
pub made-arguments : (shape : Shape) (n : ℕ) → IsCount shape n → (g : Graph) → params_of (code_of g g.main) ≡ 1 → AreArguments g (argument_of shape n ∷ [])
made-arguments shape n count g one = record { one_each = sym one; words = words }
  where
    same : (a b : ℕ) → ◌≡◌ {A = Option ℕ} (Some a) (Some b) → a ≡ b
    same a b e = cc

    words : (k w : ℕ) → slice_get (argument_of shape n ∷ []) k ≡ Some w → w < 2 ^ 32
    words zero w e = subst (λ v. v < 2 ^ 32) (same (argument_of shape n) w e) (argument-small shape n count)
    words (suc k) w e = absurd (cc)

-- the limits are in their ranges
pub usual-in-range : AreLimits usual_limits
usual-in-range = record { some_frame = omega arith; few_frames = omega arith; few_cells = omega arith; budget = omega arith }
