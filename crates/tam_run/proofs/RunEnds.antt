-- The end of a run: its text is that of what is told, and the machine is the one that is told.
use Rattle.std.proofs.Common.{◌≡◌, ℕ, List, sym, ◌∙◌, ap, subst, true≢false}
use Rattle.std.specs.Prelude.{Option}
use Rattle.std.specs.List.{flat_map}
use Rattle.std.specs.Io.KnownBytes.{Appends}
use Rattle.tam_msgs.specs.Runs.{End, result_line}
use Rattle.rv_inst.specs.Harts.{Hart}
use Rattle.tam_run.specs.declared.broken.Broken.{Broken}
use Rattle.tam_run.specs.declared.broken.Broken.TheVariants as broken
use Rattle.tam_run.specs.declared.outcome.Outcome.{Outcome}
use Rattle.tam_run.specs.declared.exec.Exec.{Exec}
use Rattle.tam_run.specs.declared.exec.Exec.TheVariants as exec
use Rattle.tam_run.specs.declared.tally.Tally.{Tally}
use Rattle.tam_run.specs.Accounts.{Account, told_of, account_of}
use Rattle.tam_run.specs.HandedOut.{Leaves}
use Rattle.tam_run.specs.Tallies.{tally_of}
use Rattle.tam_run.specs.Telling.{Stand, EndsSo}
use Rattle.tam_run.specs.Writing.{outcome_of, Writes, Executes, Finishes, FinishesSo}
use Rattle.tam_run.proofs.Texts.{finish-writes, finish-executes}

-- a run that tells an account ended so, where it stands so
module _ (a : Account) (printed : List (ℕ × ℕ)) (how : End) (s : Stand) (ends : EndsSo s printed a how) where
  -- the machine there is the one that is told
  pub ended-leaves : (result : Exec) → Leaves a.machine s.machine result
  ended-leaves result whole = sym (ap (λ (b : Account). b.machine) ends)

  -- it has this tally, and the lines of its results were taken
  module _ (results : ℕ) (tally : Tally) (many : a.report.results ≡ results) (counts : tally ≡ tally_of s) (old mid new : Option (List ℕ))
      (taken : Appends old mid (flat_map result_line printed)) where
    -- what is told, by its parts
    told-is : a ≡ account_of printed how results s.counts s.machine
    told-is = ends ∙ ap (λ n. account_of printed how n s.counts s.machine) many

    -- once its last lines are written, its text is
    pub ended-writes : (result : Outcome) → Finishes (told_of printed how results tally.counts) tally.instructions mid new result → Writes a old new result
    ended-writes result f = subst (λ b. Writes b old new result) (sym told-is)
        (finish-writes (account_of printed how results s.counts s.machine) old mid new taken result
        (subst (λ (t : Tally). Finishes (told_of printed how results t.counts) t.instructions mid new result) counts f))

    -- also where it is wild or traps
    pub ended-executes : (result : Exec) → FinishesSo (told_of printed how results tally.counts) tally.instructions mid new result
        → Executes a old new result
    ended-executes result f = subst (λ b. Executes b old new result) (sym told-is)
        (finish-executes (account_of printed how results s.counts s.machine) old mid new taken result
        (subst (λ (t : Tally). FinishesSo (told_of printed how results t.counts) t.instructions mid new result) counts f))

-- of a run that was broken off nothing is said of the machine
pub broken-leaves : (left machine : Option Hart) (b : Broken) → Leaves left machine (exec.Run (outcome_of b))
broken-leaves left machine broken.NoMemory whole = absurd (true≢false (sym whole))
broken-leaves left machine broken.WriteFault whole = absurd (true≢false (sym whole))
