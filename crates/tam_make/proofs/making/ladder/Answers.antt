use Rattle.std.proofs.Common.{◌≡◌, ◌∙◌, ◌++◌, ◌+◌, ℕ, suc, List, ap, subst, arith, flat_map}
use Rattle.std.specs.Prelude.{codes}
use Rattle.std.proofs.lemmas.List.{flat_map_more}
use Rattle.tam_word.specs.Lists.{below}
use Rattle.tam_make.specs.MadeTexts.{ladder_main, step_text}
use Rattle.tam_make.proofs.making.ladder.Goals as goal

pub loop-i-preserved : goal.loop-i-preserved
loop-i-preserved c =
    let i = c.loop-i.i in
    let f = λ (i : ℕ). step_text c.args.n (i + 1) in
    let head = codes "dg 1\n" ++ ladder_main in
    let next : suc i ≡ i + 1 = omega arith in
    subst (λ k. c.push_step.new.text.items ≡ head ++ flat_map f (below k)) next
    (c.in_ok-push_step.ensures.ok ∙ ap (λ (l : List ℕ). l ++ f i) c.loop-i.invariant ∙ flat_map_more f head (below i) i)
