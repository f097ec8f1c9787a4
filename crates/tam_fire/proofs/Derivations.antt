-- Results by explicit derivations, in which each rule is used: a call, a cond, a cell.
use Rattle.std.proofs.Common.{[], ◌∷◌, refl, arith, ◌<◌}
use Rattle.tam_word.specs.declared.op.Op.TheVariants.{Add}
use Rattle.tam_graph.specs.ExampleGraphs.{back_graph, loop_graph, seq_graph}
use Rattle.tam_fire.specs.FiringRules.{Word, Activation, Array, Begun, Entered, Val, Fired, body_is_entered, const_gives, op_gives, seq_gives, outlet_fires}
use Rattle.tam_fire.specs.FiringRules.{call_begins, call_answers, arg_comes, result_comes, alloc_answers, fetch_answers, cond_enters, switch_comes, out_comes}
use Rattle.tam_fire.specs.FiringRules.{root_has_begun, param_has, Holds, Result}
use Rattle.tam_fire.proofs.Following.{holds-by}

-- the callee's second param is its first result, which comes back through the caller
back-gives : Result back_graph (4 ∷ []) 0 10
back-gives =
    let root : Holds back_graph (4 ∷ []) (Entered [] 0) = holds-by _ _ body_is_entered ((0, root_has_begun), tt) in
    let four : Holds back_graph (4 ∷ []) (Val [] 0 (Word 4)) = (0, param_has refl refl) in
    let called : Holds back_graph (4 ∷ []) (Fired [] 1 []) = holds-by _ _ (outlet_fires refl refl) (root, tt) in
    let callee : Holds back_graph (4 ∷ []) (Val [] 1 (Activation (1 ∷ []))) = holds-by _ _ (call_answers refl) (called, tt) in
    let begun : Holds back_graph (4 ∷ []) (Begun (1 ∷ [])) = holds-by _ _ (call_begins refl) (called, tt) in
    let body : Holds back_graph (4 ∷ []) (Entered (1 ∷ []) 0) = holds-by _ _ body_is_entered (begun, tt) in
    let sent : Holds back_graph (4 ∷ []) (Fired [] 2 (Word 4 ∷ Activation (1 ∷ []) ∷ [])) = holds-by _ _ (outlet_fires refl refl) (
      root,
      (four, (callee, tt)),
    ) in
    let first : Holds back_graph (4 ∷ []) (Val (1 ∷ []) 0 (Word 4)) = holds-by _ _ (arg_comes refl refl) (sent, tt) in
    let one : Holds back_graph (4 ∷ []) (Val (1 ∷ []) 2 (Word 1)) = holds-by _ _ (const_gives refl) (body, tt) in
    let five : Holds back_graph (4 ∷ []) (Val (1 ∷ []) 3 (Word 5)) = holds-by _ _ (op_gives {a = 4} {b = 1} {o = Add} refl) (body, (first, (one, tt))) in
    let given : Holds back_graph (4 ∷ []) (Fired (1 ∷ []) 5 (Word 5 ∷ [])) = holds-by _ _ (outlet_fires refl refl) (body, (five, tt)) in
    let back : Holds back_graph (4 ∷ []) (Val [] 3 (Word 5)) = holds-by _ _ (result_comes refl refl) (given, tt) in
    let again : Holds back_graph (4 ∷ []) (Fired [] 4 (Word 5 ∷ Activation (1 ∷ []) ∷ [])) = holds-by _ _ (outlet_fires refl refl) (
      root,
      (back, (callee, tt)),
    ) in
    let second : Holds back_graph (4 ∷ []) (Val (1 ∷ []) 1 (Word 5)) = holds-by _ _ (arg_comes refl refl) (again, tt) in
    let ten : Holds back_graph (4 ∷ []) (Val (1 ∷ []) 4 (Word 10)) = holds-by _ _ (op_gives {a = 5} {b = 5} {o = Add} refl) (body, (second, (five, tt))) in
    let more : Holds back_graph (4 ∷ []) (Fired (1 ∷ []) 6 (Word 10 ∷ [])) = holds-by _ _ (outlet_fires refl refl) (body, (ten, tt)) in
    let last : Holds back_graph (4 ∷ []) (Val [] 5 (Word 10)) = holds-by _ _ (result_comes refl refl) (more, tt) in
    record { node = 6; operand = 5; gives = refl; fired = holds-by _ _ (outlet_fires refl refl) (root, (last, tt)) }

-- the else branch: a word goes in, comes out, and goes in at the other place
loop-gives : Result loop_graph (0 ∷ 4 ∷ []) 0 4
loop-gives =
    let root : Holds loop_graph (0 ∷ 4 ∷ []) (Entered [] 0) = holds-by _ _ body_is_entered ((0, root_has_begun), tt) in
    let zero : Holds loop_graph (0 ∷ 4 ∷ []) (Val [] 0 (Word 0)) = (0, param_has refl refl) in
    let four : Holds loop_graph (0 ∷ 4 ∷ []) (Val [] 1 (Word 4)) = (0, param_has refl refl) in
    let chosen : Holds loop_graph (0 ∷ 4 ∷ []) (Fired [] 2 (Word 0 ∷ [])) = holds-by _ _ (outlet_fires refl refl) (root, (zero, tt)) in
    let branch : Holds loop_graph (0 ∷ 4 ∷ []) (Entered [] 2) = holds-by _ _ (cond_enters refl) (chosen, tt) in
    let sent : Holds loop_graph (0 ∷ 4 ∷ []) (Fired [] 14 (Word 0 ∷ Word 4 ∷ [])) = holds-by _ _ (outlet_fires refl refl) (root, (zero, (four, tt))) in
    let inside : Holds loop_graph (0 ∷ 4 ∷ []) (Val [] 10 (Word 4)) = holds-by _ _ (switch_comes refl refl refl) (sent, tt) in
    let left : Holds loop_graph (0 ∷ 4 ∷ []) (Fired [] 12 (Word 4 ∷ [])) = holds-by _ _ (outlet_fires refl refl) (branch, (inside, tt)) in
    let merged : Holds loop_graph (0 ∷ 4 ∷ []) (Val [] 15 (Word 4)) = holds-by _ _ (out_comes refl refl refl) (left, tt) in
    let again : Holds loop_graph (0 ∷ 4 ∷ []) (Fired [] 16 (Word 0 ∷ Word 4 ∷ [])) = holds-by _ _ (outlet_fires refl refl) (root, (zero, (merged, tt))) in
    let second : Holds loop_graph (0 ∷ 4 ∷ []) (Val [] 11 (Word 4)) = holds-by _ _ (switch_comes refl refl refl) (again, tt) in
    let out : Holds loop_graph (0 ∷ 4 ∷ []) (Fired [] 13 (Word 4 ∷ [])) = holds-by _ _ (outlet_fires refl refl) (branch, (second, tt)) in
    let last : Holds loop_graph (0 ∷ 4 ∷ []) (Val [] 17 (Word 4)) = holds-by _ _ (out_comes refl refl refl) (out, tt) in
    record { node = 18; operand = 17; gives = refl; fired = holds-by _ _ (outlet_fires refl refl) (root, (last, tt)) }

-- a cell that is fetched and stored
seq-gives : Result seq_graph (9 ∷ []) 0 9
seq-gives =
    let root : Holds seq_graph (9 ∷ []) (Entered [] 0) = holds-by _ _ body_is_entered ((0, root_has_begun), tt) in
    let nine : Holds seq_graph (9 ∷ []) (Val [] 0 (Word 9)) = (0, param_has refl refl) in
    let one : Holds seq_graph (9 ∷ []) (Val [] 1 (Word 1)) = holds-by _ _ (const_gives refl) (root, tt) in
    let place : Holds seq_graph (9 ∷ []) (Val [] 3 (Word 0)) = holds-by _ _ (const_gives refl) (root, tt) in
    let asked : Holds seq_graph (9 ∷ []) (Fired [] 2 (Word 1 ∷ [])) = holds-by _ _ (outlet_fires refl refl) (root, (one, tt)) in
    let array : Holds seq_graph (9 ∷ []) (Val [] 2 (Array [] 2)) = holds-by _ _ (alloc_answers refl) (asked, tt) in
    let stored : Holds seq_graph (9 ∷ []) (Fired [] 5 (Array [] 2 ∷ Word 0 ∷ Word 9 ∷ [])) = holds-by _ _ (outlet_fires refl refl) (
      root,
      (array, (place, (nine, tt))),
    ) in
    let fetched : Holds seq_graph (9 ∷ []) (Fired [] 4 (Array [] 2 ∷ Word 0 ∷ [])) = holds-by _ _ (outlet_fires refl refl) (root, (array, (place, tt))) in
    let inside : 0 < 1 = omega arith in
    let answer : Holds seq_graph (9 ∷ []) (Val [] 4 (Word 9)) = holds-by _ _ (fetch_answers refl refl inside) (fetched, (stored, (asked, tt))) in
    let last : Holds seq_graph (9 ∷ []) (Val [] 6 (Word 9)) = holds-by _ _ (seq_gives refl) (root, (answer, (array, tt))) in
    record { node = 7; operand = 6; gives = refl; fired = holds-by _ _ (outlet_fires refl refl) (root, (last, tt)) }
