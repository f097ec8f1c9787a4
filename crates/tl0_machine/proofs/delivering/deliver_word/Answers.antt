use Rattle.std.proofs.Common.{◌≡◌, ◌∙◌, ℕ, List, ap, sym, subst, rules}
use Rattle.std.specs.Prelude.{slice_get, slice_index}
use Rattle.tam_msgs.specs.declared.message.Message.TheVariants.{Word as Carry}
use Rattle.tam_msgs.specs.Runs.{Outcome}
use Rattle.tl0_code.specs.ThreadCode.{code_text}
use Rattle.tl0_code.specs.Machines.{Machine, Giving, code_at}
use Rattle.tl0_code.specs.ThreadRuns.{delivered, text_at, word_into}
use Rattle.tl0_machine.specs.ThreadStates.{machine_of, state_of}
use Rattle.tl0_machine.specs.ThreadEvents.{IsOutcome}
use Rattle.tl0_machine.proofs.Deliveries.{word-inside}
use Rattle.tl0_machine.proofs.delivering.deliver_word.Goals as goal

pub returns-then-frame-eq-OUTSIDE-clause-value : goal.returns-then-frame-eq-OUTSIDE-clause-value
returns-then-frame-eq-OUTSIDE-clause-value c = λ limits order printed are.
    subst (λ (f : ℕ). IsOutcome (delivered Giving c.args.table.now limits (machine_of c.args.state.now order printed) (Carry f c.args.inlet c.args.word))
    (state_of c.print.new.state) order printed c.print.result) (sym c.if-frame-eq-OUTSIDE.true) (c.print.ensures.value order printed are)

pub returns-clause-value : goal.returns-clause-value
returns-clause-value c = λ limits order printed are.
    let p = c.args.table.now in
    let m = machine_of c.args.state.now order printed in
    let f = c.args.frame in
    let code : c.code_at.result ≡ code_at m f = c.code_at.ensures.value ∙ ap (λ (codes : List ℕ). slice_index codes f) c.deref.ensures.value in
    let to : c.inlet-to.result ≡ slice_get (text_at p m f).inlets c.args.inlet =
    c.inlet-to.ensures.value ∙ ap (λ (k : ℕ). slice_get (code_text p k).inlets c.args.inlet) code in
    let is : delivered Giving p limits m (Carry f c.args.inlet c.args.word) ≡ word_into m f c.args.inlet c.args.word c.inlet-to.result =
    word-inside p limits m f c.args.inlet c.args.word c.if-frame-eq-OUTSIDE.false (sym c.live.ensures.value ∙ search rules)
    ∙ ap (word_into m f c.args.inlet c.args.word) (sym to) in
    subst (λ (o : Outcome Machine). IsOutcome o (state_of c.word_into.new.state) order printed c.word_into.result) (sym is)
    (c.word_into.ensures.value order printed are)
