-- One code more, the first code that has a fault, and all codes.
use Rattle.std.proofs.Common.{◌≡◌, ◌<◌, ℕ, [], length, ap, arith}
use Rattle.tl0_code.specs.ThreadCode.{IsCodeText, code_text}
use Rattle.tl0_code.specs.CodeRules.{faults_in, faults_of}
use Rattle.tl0_check.specs.FirstFault.{fault_told, IsFirst}
use Rattle.tl0_check.proofs.Answering.{handed-on}
use Rattle.tl0_check.proofs.Programs.{below-next, first-given, program-checked}
use Rattle.tl0_check.proofs.checker.check_codes.Goals as goal

pub loop-code-preserved : goal.loop-code-preserved
loop-code-preserved c =
    let program = c.args.program.now in
    record {
      clean = below-next (λ n. faults_in program n ≡ []) c.loop-code.code c.loop-code.invariant.clean c.in_ok-check_code.ensures.ok;
      words = below-next (λ n. IsCodeText (code_text program n)) c.loop-code.code c.loop-code.invariant.words c.in_ok-check_code.ensures.words;
    }

pub returns-in_err-check_code-clause-refused : goal.returns-in_err-check_code-clause-refused
returns-in_err-check_code-clause-refused c =
    let program = c.args.program.now in
    let same : length c.codes.result.now ≡ length program.codes = ap length c.codes.ensures.value in
    let low : c.loop-code.code < length program.codes = omega (arith, c.loop-code-test.true, same) in
    handed-on (IsFirst (faults_of program)) c.from_residual.result c.in_err-check_code.field-0.0 c.from_residual.ensures.1
    (first-given (faults_in program) c.loop-code.code (fault_told c.in_err-check_code.field-0.0) c.loop-code.invariant.clean
    c.in_err-check_code.ensures.refused (length program.codes) low)

pub returns-clause-checked : goal.returns-clause-checked
returns-clause-checked c =
    let program = c.args.program.now in
    let same : length c.codes.result.now ≡ length program.codes = ap length c.codes.ensures.value in
    let all : (n : ℕ) → n < length program.codes → n < c.loop-code.code = λ n l. omega (arith, l, c.loop-code-test.false, same) in
    program-checked program c.codes.ensures.limits (λ n l. c.loop-code.invariant.clean n (all n l)) (λ n l. c.loop-code.invariant.words n (all n l))
