-- a = param 0 / b = param 1 / s = add a b / result 0 s at the arguments 2 and 3: the result 5, and no other.
use Rattle.std.proofs.Common.{◌≡◌, ℕ, zero, suc, List, [], ◌∷◌, Some, slice_get, refl, inl, inr}
use Rattle.tam_graph.specs.declared.kind.Kind.TheVariants.{Param, Op as Operate, Arg, Give}
use Rattle.tam_word.specs.declared.op.Op.TheVariants.{Add}
use Rattle.tam_word.specs.Words.{meaning}
use Rattle.tam_graph.specs.ExampleGraphs.{sum_graph, sum_main}
use Rattle.tam_graph.specs.Graphs.{callee_of, kind_at}
use Rattle.tam_fire.specs.FiringRules.{Path, Word, Entered, Val, Fired, body_is_entered, op_gives, outlet_fires, node_of, code_at, root_has_begun, param_has}
use Rattle.tam_fire.specs.FiringRules.{Holds, Result}
use Rattle.tam_fire.proofs.Following.{holds-by}
use Rattle.tam_fire.proofs.Inversion.{Source, value-from, fired-from}

-- the arguments
abbrev args : List ℕ
args = 2 ∷ 3 ∷ []

-- the derivation, rule by rule
entered : Holds sum_graph args (Entered [] 0)
entered = holds-by sum_graph args body_is_entered ((0, root_has_begun), tt)

sum_has : Holds sum_graph args (Val [] 2 (Word 5))
sum_has = holds-by sum_graph args (op_gives {a = 2} {b = 3} {o = Add} refl) (entered, ((0, param_has refl refl), ((0, param_has refl refl), tt)))

sum_result : Holds sum_graph args (Fired [] 3 (Word 5 ∷ []))
sum_result = holds-by sum_graph args (outlet_fires {vs = Word 5 ∷ []} refl refl) (entered, (sum_has, tt))

-- each code of this graph is `main`, and none has an arg
code_is_main : (q : Path) → code_at sum_graph q ≡ 0
code_is_main [] = refl
code_is_main (f ∷ q) = rw (code_is_main q) (calls_none f)
  where
    calls_none : (f : ℕ) → callee_of sum_main f ≡ 0
    calls_none zero = refl
    calls_none (suc zero) = refl
    calls_none (suc (suc zero)) = refl
    calls_none (suc (suc (suc zero))) = refl
    calls_none (suc (suc (suc (suc f)))) = refl

no_arg : (q : Path) (y f k a : ℕ) → node_of sum_graph q y ≡ Arg f k a → ⊥
no_arg q y f k a e = go y (rw (code_is_main q) at e)
  where
    go : (y : ℕ) → kind_at sum_main y ≡ Arg f k a → ⊥
    go zero e = cc
    go (suc zero) e = cc
    go (suc (suc zero)) e = cc
    go (suc (suc (suc zero))) e = cc
    go (suc (suc (suc (suc y)))) e = cc

-- a param has only its argument
param_word : (x k w v : ℕ) → node_of sum_graph [] x ≡ Param k → slice_get args k ≡ Some v → Holds sum_graph args (Val [] x (Word w)) → w ≡ v
param_word x k w v e there h = go (rw e at (value-from sum_graph args [] x (Word w) h))
  where
    go : Source sum_graph args (Holds sum_graph args) [] x (Word w) (Param k) → w ≡ v
    go (inl given) = cc
    go (inr sent) = absurd (no_arg sent.0 sent.1 sent.2 k sent.3 sent.4)

-- so the sum has only one word
sum_word : (w : ℕ) → Holds sum_graph args (Val [] 2 (Word w)) → w ≡ 5
sum_word w h = go (value-from sum_graph args [] 2 (Word w) h)
  where
    go : Source sum_graph args (Holds sum_graph args) [] 2 (Word w) (Operate Add 0 1) → w ≡ 5
    go (a, b, e, entered, left, right) =
        let l : a ≡ 2 = param_word 0 0 a 2 refl refl left in
        let r : b ≡ 3 = param_word 1 1 b 3 refl refl right in
        let both : meaning Add a b ≡ 5 = rw (l, r) in
        cc

-- place 0 has the result 5
has_five : Result sum_graph args 0 5
has_five = record { node = 3; operand = 2; gives = refl; fired = sum_result }

result_node : (x a : ℕ) → kind_at sum_main x ≡ Give 0 a → (x ≡ 3) × (a ≡ 2)
result_node zero a e = cc
result_node (suc zero) a e = cc
result_node (suc (suc zero)) a e = cc
result_node (suc (suc (suc zero))) a e = (refl, cc)
result_node (suc (suc (suc (suc x)))) a e = cc

-- and no other
only_five : (w : ℕ) → Result sum_graph args 0 w → w ≡ 5
only_five w r = go (result_node r.node r.operand r.gives)
  where
    go : (r.node ≡ 3) × (r.operand ≡ 2) → w ≡ 5
    go at = let fired : Holds sum_graph args (Fired [] 3 (Word w ∷ [])) = rw at.0 at r.fired in
        sum_word w (fired-from sum_graph args [] 3 (Word w ∷ []) fired).operands.0
