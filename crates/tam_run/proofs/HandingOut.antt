-- What is handed out of a machine, and what isn't.
use Rattle.std.proofs.Common.{◌≡◌, Bool, true, false, refl, sym, ◌∙◌, ap, subst}
use Rattle.std.specs.Prelude.{Option, None, Some}
use Rattle.tam_msgs.specs.declared.stop.Stop.{Stop}
use Rattle.tam_msgs.specs.declared.stop.Stop.TheVariants.{NoMemory}
use Rattle.rv_inst.specs.Harts.{Hart}
use Rattle.tam_run.specs.declared.outcome.Outcome.TheVariants as outcome
use Rattle.tam_run.specs.declared.exec.Exec.{Exec}
use Rattle.tam_run.specs.declared.exec.Exec.TheVariants as exec
use Rattle.tam_run.specs.HandedOut.{is_whole_exec, handed_out, HandsOutExec, Leaves}

-- where a run has no machine, what is there stays
pub nothing-handed : (old : Option Hart) (result : Exec) → HandsOutExec None old old result
nothing-handed old result = go (is_whole_exec result)
  where
    go : (whole : Bool) → old ≡ handed_out whole None old
    go true = refl
    go false = refl

-- so it does for want of memory
pub none-handed : (left old : Option Hart) (stop : Stop) → stop ≡ NoMemory → HandsOutExec left old old (exec.Run (outcome.Stopped stop))
none-handed left old stop e = subst (λ s. HandsOutExec left old old (exec.Run (outcome.Stopped s))) (sym e) refl

-- and where a run isn't whole
pub broken-handed : (left old : Option Hart) (result : Exec) → is_whole_exec result ≡ false → HandsOutExec left old old result
broken-handed left old result e = sym (ap (λ whole. handed_out whole left old) e)

-- the machine that a whole run leaves is handed out
pub whole-handed : (left old : Option Hart) (h : Hart) (result : Exec) → Leaves left (Some h) result → is_whole_exec result ≡ true
    → HandsOutExec left old (Some h) result
whole-handed left old h result leaves e =
    sym (ap (λ whole. handed_out whole left old) e ∙ ap (λ l. handed_out true l old) (sym (leaves e)))
