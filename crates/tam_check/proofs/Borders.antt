-- The borders of codes, code by code.
use Rattle.std.proofs.Common.{Option, ◌≡◌, ℕ, ◌+◌, ◌<◌, List, [], ◌∷◌, ◌++◌, Some, slice_get, sym, subst, arith, inl, inr}
use Rattle.std.proofs.lemmas.List.{length-append}
use Rattle.tam_word.proofs.Each.{last-or_before}
use Rattle.tam_graph.specs.Graphs.{Graph, code_of}
use Rattle.tam_check.specs.declared.table.Table.{Table}
use Rattle.tam_check.specs.Tables.{or_no_rows, or_no_seen, IsBorder, AreBorders}
use Rattle.tam_check.proofs.CycleTable.{get-last, get-before}

-- one more code
pub borders-next : (g : Graph) (n : ℕ) (borders : List Table) (border : Table) → AreBorders g n borders
    → IsBorder (code_of g n) border.rows.items border.seen.items
    → AreBorders g (n + 1) (borders ++ border ∷ [])
borders-next g n borders border p here = record {
  len = omega (arith, length-append borders (border ∷ []), p.len);
  each = each;
}
  where
    last : slice_get (borders ++ border ∷ []) n ≡ Some border
    last = subst (λ z. slice_get (borders ++ border ∷ []) z ≡ Some border) p.len (get-last borders border)

    own : (m : ℕ) → Option Table → Type 0
    own m o = IsBorder (code_of g m) (or_no_rows o) (or_no_seen o)

    each : (m : ℕ) → m < n + 1 → own m (slice_get (borders ++ border ∷ []) m)
    each m l = elim (last-or_before m n (omega arith)) [
      | inl k ↦ subst (own m) (sym (get-before borders (border ∷ []) m (omega (arith, k, p.len)))) (p.each m k)
      | inr e ↦ subst (λ z. own z (slice_get (borders ++ border ∷ []) z)) (sym e) (subst (own n) (sym last) here)
    ]
