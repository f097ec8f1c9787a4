-- One thread more, and the first that has a fault.
use Rattle.std.proofs.Common.{◌≡◌, ℕ, ◌+◌, ◌-◌, true, List, ◌∷◌, length, flat_map, take, drop, sym, ap, ◌∙◌, arith, subst, length-append}
use Rattle.tl0_code.specs.ThreadCode.{Thread}
use Rattle.tl0_code.specs.CodeRules.{faults_of_thread}
use Rattle.tl0_check.specs.FirstFault.{fault_told, IsFirst, faults_from, are_words, numbers_of_thread}
use Rattle.tl0_check.proofs.Answering.{handed-on, first-and-others}
use Rattle.tl0_check.proofs.Lines.{lines-clean, lines-told}
use Rattle.tl0_check.proofs.Numbers.{words-both}
use Rattle.tl0_check.proofs.CodeLines.{thread-lines}
use Rattle.tl0_check.proofs.checker.check_threads.Goals as goal

pub loop-rest-preserved : goal.loop-rest-preserved
loop-rest-preserved c =
    let rest = c.loop-rest.rest.now in
    let x : Thread = c.thread-item.result in
    let others : List Thread = take (length rest - 1) (drop 1 rest) in
    let first : rest ≡ x ∷ others = first-and-others rest x c.in-len1-up.len_at_least c.thread-item.is in
    let lines = faults_of_thread c.args.program.now c.args.own.now in
    let long : length (lines x) ≡ length x.instrs + 2 = thread-lines c.args.program.now c.args.own.now x in
    let taken : length c.instrs.result.now ≡ length x.instrs = ap length c.instrs.ensures.value in
    let place : c.loop-rest.place + length (lines x) ≡ c.loop-rest.place + (length c.instrs.result.now + 2) = omega (arith, long, taken) in
    let parts : length (flat_map lines rest) ≡ length (lines x) + length (flat_map lines others) =
    ap (λ (ts : List Thread). length (flat_map lines ts)) first
    ∙ length-append (lines x) (flat_map lines others) in
    record {
      same = c.loop-rest.invariant.same ∙ ap (λ (ts : List Thread). faults_from c.args.code c.loop-rest.place (flat_map lines ts)) first
          ∙ lines-clean c.args.code c.loop-rest.place (lines x) (flat_map lines others) c.in_ok-check_thread.ensures.ok
          ∙ ap (λ (k : ℕ). faults_from c.args.code k (flat_map lines others)) place;
      words = λ w. c.loop-rest.invariant.words (subst (λ (ts : List Thread). are_words (flat_map numbers_of_thread ts) ≡ true) (sym first)
          (words-both (numbers_of_thread x) (flat_map numbers_of_thread others) c.in_ok-check_thread.ensures.words w));
      few = omega (arith, parts, place, c.loop-rest.invariant.few);
    }

pub returns-in_err-check_thread-clause-refused : goal.returns-in_err-check_thread-clause-refused
returns-in_err-check_thread-clause-refused c =
    let rest = c.loop-rest.rest.now in
    let x : Thread = c.thread-item.result in
    let others : List Thread = take (length rest - 1) (drop 1 rest) in
    let first : rest ≡ x ∷ others = first-and-others rest x c.in-len1-up.len_at_least c.thread-item.is in
    let lines = faults_of_thread c.args.program.now c.args.own.now in
    let error = c.in_err-check_thread.field-0.0 in
    handed-on (IsFirst (faults_from c.args.code c.args.place (flat_map lines c.args.threads.now))) c.from_residual.result error
    c.from_residual.ensures.1
    (ap (take 1) (c.loop-rest.invariant.same ∙ ap (λ (ts : List Thread). faults_from c.args.code c.loop-rest.place (flat_map lines ts)) first)
    ∙ lines-told c.args.code c.loop-rest.place (lines x) (flat_map lines others) (fault_told error) c.in_err-check_thread.ensures.refused)
