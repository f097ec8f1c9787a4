-- The faults of a code are those of its head, of its inlets and of its threads.
use Rattle.std.proofs.Common.{◌≡◌, ◌+◌, ◌<◌, ◌≤◌, ◌∷◌, [], true, List, length, map, flat_map, take, get_or, sym, ap, ap₂, ◌∙◌, arith, subst}
use Rattle.std.specs.Prelude.{OnOk, IfErr, option_to_list}
use Rattle.tl0_code.specs.declared.inlet.Inlet.{Inlet}
use Rattle.tl0_code.specs.ThreadCode.{Thread, IsCodeText, code_text, instr_count}
use Rattle.tl0_code.specs.CodeRules.{faults_of_head, faults_of_inlet, faults_of_thread, faults_in}
use Rattle.tl0_check.specs.FirstFault.{fault_told, IsFirst, faults_from, are_words, numbers_of_inlet, numbers_of_thread}
use Rattle.tl0_check.proofs.Answering.{handed-on, ok-so}
use Rattle.tl0_check.proofs.Lines.{lines-told}
use Rattle.tl0_check.proofs.Numbers.{code-of_text}
use Rattle.tl0_check.proofs.CodeLines.{threads-lines, code-at, behind-head, behind-inlets, few-instrs}
use Rattle.tl0_check.proofs.Programs.{few-places}
use Rattle.tl0_check.proofs.checker.check_code.Goals as goal

pub returns-in_err-check_inlets-clause-refused : goal.returns-in_err-check_inlets-clause-refused
returns-in_err-check_inlets-clause-refused c =
    let program = c.args.program.now in
    let n = c.args.code in
    let own = c.index-codes-code.result in
    let low : n < length program.codes = c.requires.in_range in
    let is : own ≡ get_or program.codes n own = rw (← c.codes.ensures.value) c.index-codes-code.is in
    let head : [] ≡ take 1 (faults_of_head program n own) = sym (ap option_to_list c.in_ok-check_line.ensures.ok) ∙ c.head_fault.ensures.value in
    let error = c.in_err-check_inlets.field-0.0 in
    let refused : take 1 (faults_from n 1 (map (faults_of_inlet own) own.inlets)) ≡ fault_told error ∷ [] =
    rw (← c.inlets.ensures.value) c.in_err-check_inlets.ensures.refused in
    handed-on (IsFirst (faults_in program n)) c.from_residual-in_err-check_inlets.result error c.from_residual-in_err-check_inlets.ensures.1
    (ap (take 1) (behind-head program n own (code-at program n own low is) head)
    ∙ lines-told n 1 (map (faults_of_inlet own) own.inlets) (flat_map (faults_of_thread program own) own.threads) (fault_told error) refused)

pub check_threads-requires : goal.check_threads-requires
check_threads-requires c =
    let program = c.args.program.now in
    let n = c.args.code in
    let own = c.index-codes-code.result in
    let is : own ≡ get_or program.codes n own = rw (← c.codes.ensures.value) c.index-codes-code.is in
    let few : instr_count own ≤ 67108864 = few-instrs program n own c.requires.in_range is c.codes.ensures.limits in
    let lines = threads-lines program own own.threads in
    let limits = c.threads.ensures.limits in
    let inlets : length c.inlets-2.result.now ≡ length own.inlets = ap length c.inlets-2.ensures.value in
    let threads : length (flat_map (faults_of_thread program own) c.threads.result.now) ≡ length (flat_map (faults_of_thread program own) own.threads) =
    ap (λ (ts : List Thread). length (flat_map (faults_of_thread program own) ts)) c.threads.ensures.value in
    record { few = omega (arith, few, lines, limits.few_inlets, limits.few_threads, inlets, threads) }

-- the code that was looked at
own-is : (c : goal.After-check_threads) → code_text c.args.program.now c.args.code ≡ c.index-codes-code.result
own-is c =
    let program = c.args.program.now in
    let own = c.index-codes-code.result in
    let is : own ≡ get_or program.codes c.args.code own = rw (← c.codes.ensures.value) c.index-codes-code.is in
    code-at program c.args.code own c.requires.in_range is

-- its head has no fault
head-clean : (c : goal.After-check_threads) → [] ≡ take 1 (faults_of_head c.args.program.now c.args.code c.index-codes-code.result)
head-clean c = sym (ap option_to_list c.in_ok-check_line.ensures.ok) ∙ c.head_fault.ensures.value

-- its faults are those of its threads
faults-are : (c : goal.After-check_threads) → faults_in c.args.program.now c.args.code
    ≡ faults_from c.args.code (length c.inlets-2.result.now + 1)
    (flat_map (faults_of_thread c.args.program.now c.index-codes-code.result) c.threads.result.now)
faults-are c =
    let program = c.args.program.now in
    let n = c.args.code in
    let own = c.index-codes-code.result in
    let inlets : faults_from n 1 (map (faults_of_inlet own) own.inlets) ≡ [] = rw (← c.inlets.ensures.value) c.in_ok-check_inlets.ensures.ok in
    behind-inlets program n own (own-is c) (head-clean c) inlets
    ∙ ap₂ (λ (is : List Inlet) (ts : List Thread). faults_from n (length is + 1) (flat_map (faults_of_thread program own) ts))
    (sym c.inlets-2.ensures.value)
    (sym c.threads.ensures.value)

pub returns-clause-ok : goal.returns-clause-ok
returns-clause-ok c = subst (λ fs. OnOk c.check_threads.result (fs ≡ [])) (sym (faults-are c)) c.check_threads.ensures.ok

pub returns-clause-refused : goal.returns-clause-refused
returns-clause-refused c =
    subst (λ fs. IfErr c.check_threads.result (IsFirst fs)) (sym (faults-are c)) c.check_threads.ensures.refused

pub returns-clause-words : goal.returns-clause-words
returns-clause-words c =
    let own = c.index-codes-code.result in
    let few = few-places c.args.program.now c.args.code own (head-clean c) in
    let inlets : are_words (flat_map numbers_of_inlet own.inlets) ≡ true = rw (← c.inlets.ensures.value) c.in_ok-check_inlets.ensures.words in
    ok-so c.check_threads.result (λ (words : are_words (flat_map numbers_of_thread c.threads.result.now) ≡ true). subst IsCodeText (sym (own-is c))
    (code-of_text own c.threads.ensures.limits few inlets (rw (← c.threads.ensures.value) words))) c.check_threads.ensures.words
