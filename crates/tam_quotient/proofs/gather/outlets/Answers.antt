use Rattle.std.proofs.Common.{◌≡◌, ℕ, ◌++◌, ◌∷◌, [], Bool, sym, ap, arith, ◌∙◌, length, filter}
use Rattle.tam_word.specs.Lists.{below}
use Rattle.tam_split.specs.Blocks.{vertex_at}
use Rattle.tam_quotient.proofs.Tabling.{filter-put, filter-skip}
use Rattle.tam_quotient.proofs.gather.outlets.Goals as goal
use Rattle.tam_quotient.proofs.gather.outlets.Goals.{then-is_outlet+in_ok-push, else-is_outlet}

pub loop-place-preserved : goal.loop-place-preserved
loop-place-preserved c =
    let test : ℕ → Bool = λ x. (vertex_at c.args.b.now x).outlet in
    elim c.if-is_outlet.branch [
      | then-is_outlet+in_ok-push w ↦ rw w.outlets-is (w.in_ok-push.ensures.items ∙ (ap (λ xs. xs ++ c.loop-place.place ∷ []) c.loop-place.invariant
          ∙ sym (filter-put test c.loop-place.place (sym c.is_outlet.ensures.value ∙ w.if-is_outlet.true))))
      | else-is_outlet w ↦ rw w.outlets-is (c.loop-place.invariant ∙ sym
          (filter-skip test c.loop-place.place (sym c.is_outlet.ensures.value ∙ w.if-is_outlet.false)))
    ]

pub returns : goal.returns
returns c =
    let all : c.loop-place.place ≡ length c.args.b.now.vertices = omega (
      arith,
      c.loop-place-test.false,
      c.loop-place.auto.place-end,
      ap length c.vertices.ensures.value,
    ) in
    record { value = c.loop-place.invariant ∙ ap (λ n. filter (λ x. (vertex_at c.args.b.now x).outlet) (below n)) all }
