-- One inlet more.
use Rattle.std.proofs.Common.{◌≡◌, ◌-◌, true, List, ◌∷◌, length, map, flat_map, take, drop, get_or, sym, ap, ◌∙◌, arith, subst}
use Rattle.std.specs.Prelude.{option_to_list}
use Rattle.tl0_code.specs.declared.inlet.Inlet.{Inlet}
use Rattle.tl0_code.specs.CodeRules.{faults_of_inlet}
use Rattle.tl0_check.specs.FirstFault.{faults_from, are_words, numbers_of_inlet}
use Rattle.tl0_check.proofs.Answering.{first-or}
use Rattle.tl0_check.proofs.Lines.{line-clean}
use Rattle.tl0_check.proofs.Numbers.{words-both}
use Rattle.tl0_check.proofs.checker.check_inlets.Goals as goal

pub loop-rest-preserved : goal.loop-rest-preserved
loop-rest-preserved c =
    let rest = c.loop-rest.rest.now in
    let none : Inlet = record { slot = 0; thread = 0 } in
    let x : Inlet = get_or rest 0 none in
    let others : List Inlet = take (length rest - 1) (drop 1 rest) in
    let first : rest ≡ x ∷ others = first-or rest none c.in-len1-up.len_at_least in
    let rule = faults_of_inlet c.args.own.now in
    let one_more : length rest ≡ length (x ∷ others) = ap length first in
    record {
      same = c.loop-rest.invariant.same ∙ ap (λ (is : List Inlet). faults_from c.args.code c.loop-rest.place (map rule is)) first
          ∙ line-clean c.args.code c.loop-rest.place (rule x) (map rule others) (sym (ap option_to_list c.in_ok-check_line.ensures.ok)
          ∙ c.inlet_fault.ensures.value);
      words = λ w. c.loop-rest.invariant.words (subst (λ (is : List Inlet). are_words (flat_map numbers_of_inlet is) ≡ true) (sym first)
          (words-both (numbers_of_inlet x) (flat_map numbers_of_inlet others) c.inlet_fault.ensures.words w));
      few = omega (arith, one_more, c.loop-rest.invariant.few);
    }
