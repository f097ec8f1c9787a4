use Rattle.std.proofs.Common.{◌≡◌, ℕ, ◌++◌, ◌∷◌, [], Bool, sym, ap, arith, ◌∙◌, length, filter}
use Rattle.tam_word.specs.Lists.{below}
use Rattle.tam_split.specs.Blocks.{vertex_at}
use Rattle.tam_quotient.proofs.Tabling.{filter-put, filter-skip}
use Rattle.tam_quotient.proofs.gather.inlets.Goals as goal
use Rattle.tam_quotient.proofs.gather.inlets.Goals.{then-is_inlet+in_ok-push, else-is_inlet}

pub loop-place-preserved : goal.loop-place-preserved
loop-place-preserved c =
    let test : ℕ → Bool = λ x. (vertex_at c.args.b.now x).inlet in
    elim c.if-is_inlet.branch [
      | then-is_inlet+in_ok-push w ↦ rw w.inlets-is (w.in_ok-push.ensures.items ∙ (ap (λ xs. xs ++ c.loop-place.place ∷ []) c.loop-place.invariant
          ∙ sym (filter-put test c.loop-place.place (sym c.is_inlet.ensures.value ∙ w.if-is_inlet.true))))
      | else-is_inlet w ↦ rw w.inlets-is (c.loop-place.invariant ∙ sym
          (filter-skip test c.loop-place.place (sym c.is_inlet.ensures.value ∙ w.if-is_inlet.false)))
    ]

pub returns : goal.returns
returns c =
    let all : c.loop-place.place ≡ length c.args.b.now.vertices = omega (
      arith,
      c.loop-place-test.false,
      c.loop-place.auto.place-end,
      ap length c.vertices.ensures.value,
    ) in
    record { value = c.loop-place.invariant ∙ ap (λ n. filter (λ x. (vertex_at c.args.b.now x).inlet) (below n)) all }
