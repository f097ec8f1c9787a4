-- One instruction more, and the first that has a fault.
use Rattle.std.proofs.Common.{◌≡◌, ◌-◌, true, List, ◌∷◌, length, map, flat_map, take, drop, get_or, sym, ap, ◌∙◌, arith, subst}
use Rattle.std.specs.Prelude.{option_to_list}
use Rattle.tl0_code.specs.declared.instr.Instr.{Instr}
use Rattle.tl0_code.specs.declared.instr.Instr.TheVariants as instr
use Rattle.tl0_code.specs.ThreadCode.{numbers_of}
use Rattle.tl0_code.specs.CodeRules.{faults_of_instr}
use Rattle.tl0_check.specs.FirstFault.{fault_told, IsFirst, faults_from, are_words}
use Rattle.tl0_check.proofs.Answering.{handed-on, first-or}
use Rattle.tl0_check.proofs.Lines.{line-clean, line-told}
use Rattle.tl0_check.proofs.Numbers.{words-both}
use Rattle.tl0_check.proofs.checker.check_instrs.Goals as goal

pub loop-rest-preserved : goal.loop-rest-preserved
loop-rest-preserved c =
    let rest = c.loop-rest.rest.now in
    let x : Instr = get_or rest 0 (instr.Imm 0 0) in
    let others : List Instr = take (length rest - 1) (drop 1 rest) in
    let first : rest ≡ x ∷ others = first-or rest (instr.Imm 0 0) c.in-len1-up.len_at_least in
    let rule = faults_of_instr c.args.program.now c.args.own.now in
    let one_more : length rest ≡ length (x ∷ others) = ap length first in
    record {
      same = c.loop-rest.invariant.same ∙ ap (λ (is : List Instr). faults_from c.args.code c.loop-rest.place (map rule is)) first
          ∙ line-clean c.args.code c.loop-rest.place (rule x) (map rule others) (sym (ap option_to_list c.in_ok-check_line.ensures.ok)
          ∙ c.instr_fault.ensures.value);
      words = λ w. c.loop-rest.invariant.words (subst (λ (is : List Instr). are_words (flat_map numbers_of is) ≡ true) (sym first)
          (words-both (numbers_of x) (flat_map numbers_of others) c.instr_fault.ensures.words w));
      few = omega (arith, one_more, c.loop-rest.invariant.few);
    }

pub returns-in_err-check_line-clause-refused : goal.returns-in_err-check_line-clause-refused
returns-in_err-check_line-clause-refused c =
    let rest = c.loop-rest.rest.now in
    let x : Instr = get_or rest 0 (instr.Imm 0 0) in
    let others : List Instr = take (length rest - 1) (drop 1 rest) in
    let first : rest ≡ x ∷ others = first-or rest (instr.Imm 0 0) c.in-len1-up.len_at_least in
    let rule = faults_of_instr c.args.program.now c.args.own.now in
    let error = c.in_err-check_line.field-0.0 in
    handed-on (IsFirst (faults_from c.args.code c.args.place (map rule c.args.instrs.now))) c.from_residual.result error
    c.from_residual.ensures.1
    (ap (take 1) (c.loop-rest.invariant.same ∙ ap (λ (is : List Instr). faults_from c.args.code c.loop-rest.place (map rule is)) first)
    ∙ line-told c.args.code c.loop-rest.place (rule x) (map rule others) c.instr_fault.result (fault_told error) c.instr_fault.ensures.value
    c.in_err-check_line.ensures.refused)
