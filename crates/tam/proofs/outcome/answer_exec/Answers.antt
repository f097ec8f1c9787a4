use Rattle.std.proofs.Common.{◌≡◌, ◌⊎◌, inl, inr, ⊎_elim, ℕ, List, ◌∙◌, sym, ap, subst}
use Rattle.std.specs.Prelude.{Option}
use Rattle.tam_run.specs.declared.exec.Exec.{Exec}
use Rattle.tam_run.specs.declared.exec.Exec.TheVariants as exec
use Rattle.tam_run.specs.Accounts.{Account}
use Rattle.tam_run.specs.HandedOut.{is_whole_exec}
use Rattle.tam_run.specs.Writing.{Executes, CountsExec}
use Rattle.tam_input.specs.declared.ending.Ending.TheVariants.{Broken}
use Rattle.tam.specs.SaidRuns.{SaysRun}
use Rattle.tam.specs.Headline.{IsDone}
use Rattle.tam.proofs.Running.{wild-done, trap-done}
use Rattle.tam.proofs.outcome.answer_exec.Goals as goal

-- a run of code that was wild, or that trapped, was told whole
broken-off : (a : Account) (ended : Exec) (old new : Option (List ℕ)) (faults faults_new : ℕ) → (ended ≡ exec.Wild) ⊎ (ended ≡ exec.Trap)
    → Executes a old new ended → CountsExec faults faults_new ended → IsDone (SaysRun a) Broken old new faults faults_new
broken-off a ended old new faults faults_new (inl e) wrote count =
    let w = subst (Executes a old new) e wrote in wild-done a old new faults faults_new w.0 w.1 (subst (CountsExec faults faults_new) e count)
broken-off a ended old new faults faults_new (inr e) wrote count =
    let w = subst (Executes a old new) e wrote in trap-done a old new faults faults_new w.0 w.1 (subst (CountsExec faults faults_new) e count)

pub returns-in-Run : goal.returns-in-Run
returns-in-Run g c = record {
  done = λ a before faults wrote count.
      c.answer_outcome.ensures.done a before faults (subst (Executes a before (g.K.Sink.taken c.args.out.now)) c.in-Run.is wrote)
      (subst (CountsExec faults (g.K.Sink.faults c.args.out.now)) c.in-Run.is count);
  answered = c.answer_outcome.ensures.answered ∙ ap is_whole_exec (sym c.in-Run.is);
}

pub returns-in-Wild : goal.returns-in-Wild
returns-in-Wild g c = record {
  done = λ a before faults wrote count. broken-off a c.args.exec before _ faults _ c.in-Wild.is wrote count;
  answered = ⊎_elim (λ e. ap is_whole_exec (sym e)) (λ e. ap is_whole_exec (sym e)) c.in-Wild.is;
}
