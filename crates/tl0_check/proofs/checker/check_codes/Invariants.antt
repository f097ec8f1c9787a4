-- The codes that were passed have no fault, and their numbers have 32 bits.
use Rattle.std.proofs.Common.{ℕ, ◌≡◌, ◌<◌, []}
use Rattle.tl0_code.specs.ThreadCode.{IsCodeText, code_text}
use Rattle.tl0_code.specs.CodeRules.{faults_in}
use Rattle.tl0_check.proofs.checker.check_codes.Given as goal

abbrev pub invariant-loop-code : goal.invariant-loop-code
invariant-loop-code l = record {
  clean : (n : ℕ) → n < l.code → faults_in l.program n ≡ [];
  words : (n : ℕ) → n < l.code → IsCodeText (code_text l.program n);
}
