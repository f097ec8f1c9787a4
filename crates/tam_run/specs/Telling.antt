-- Runs event by event, whatever their states: what a run from a state on tells, and what comes of one event.
-- The rule in words: docs/FORMATS.md, "The text of a run".
use Rattle.std.specs.Prelude.{ℕ, ◌-◌, ◌<◌, ◌≤◌, ◌≡◌, List, [], ◌∷◌, ◌++◌, Option, Some, Result, Ok, Err}
use Rattle.tam_msgs.specs.declared.counts.Counts.{Counts}
use Rattle.tam_msgs.specs.declared.step.Step.{Step}
use Rattle.tam_msgs.specs.declared.step.Step.TheVariants.{Ran, Delivered, Printed, Quiet as Step_quiet}
use Rattle.tam_msgs.specs.Runs.{End, Quiet, Wild, Trap, Outcome, run_from}
use Rattle.rv_inst.specs.Harts.{Hart}
use Rattle.rv_inst.specs.Traps.{trap_text}
use Rattle.tam_run.specs.declared.halt.Halt.{Halt}
use Rattle.tam_run.specs.declared.halt.Halt.TheVariants as halt
use Rattle.tam_run.specs.Accounts.{Account, account_of}
use Rattle.tam_run.specs.Ends.{end_of_stop, cause_of}

-- a run: its step, the budget of its events, how many results `main` has, what a state has printed and counted, and its machine, if it has one
pub record Run (S : Type 0) : Type 0 where
  pub step : S → Outcome S
  pub budget : ℕ
  pub results : ℕ
  pub printed : S → List (ℕ × ℕ)
  pub counts : S → Counts
  pub machine : S → Option Hart

-- for how many events the budget has room behind a state
abbrev pub room_of : {S : Type 0} → Run S → S → ℕ
room_of run s = run.budget - (run.counts s).events

-- what a run tells that ended so
abbrev pub end_account : {S : Type 0} → Run S → End × S → Account
end_account run e = account_of (run.printed e.1) e.0 run.results (run.counts e.1) (run.machine e.1)

-- what a run tells from a state on
abbrev pub account_from : {S : Type 0} → Run S → S → Account
account_from run s = end_account run (run_from run.step (room_of run s) s)

-- from a state on, which is within the budget, a run tells this account
pub record Tells {S : Type 0} (run : Run S) (s : S) (a : Account) : Type 0 where
  pub few : (run.counts s).events ≤ run.budget
  pub told : a ≡ account_from run s

-- where a run stands: for how many events there is room, what was counted, and the machine, if it has one
pub record Stand : Type 0 where
  pub room : ℕ
  pub counts : Counts
  pub machine : Option Hart

-- in a state
abbrev pub stand_in : {S : Type 0} → Run S → S → Stand
stand_in run s = record { room = room_of run s; counts = run.counts s; machine = run.machine s }

-- the run goes on behind an event: what it tells is told from there on, and there is room for fewer events
pub record GoesOn (tells : Type 0) (old new : Stand) : Type 0 where
  pub told : tells
  pub less : new.room < old.room

-- the run ended so, and tells it
abbrev pub EndsSo : Stand → List (ℕ × ℕ) → Account → End → Type 0
EndsSo s printed a how = a ≡ account_of printed how a.report.results s.counts s.machine

-- the answer is what comes of one event of a run that tells an account: that account is told behind it, by `tells` of what was printed, or it is that of the
-- end; of memory that is wanted nothing is said
abbrev pub Comes : (List (ℕ × ℕ) → Type 0) → Stand → Stand → List (ℕ × ℕ) → Account → Result Step Halt → Type 0
Comes tells old new printed a (Ok Ran) = GoesOn (tells printed) old new
Comes tells old new printed a (Ok Delivered) = GoesOn (tells printed) old new
Comes tells old new printed a (Ok (Printed k w)) = GoesOn (tells (printed ++ (k, w) ∷ [])) old new
Comes tells old new printed a (Ok Step_quiet) = EndsSo new printed a Quiet
Comes tells old new printed a (Err (halt.Stop stop)) = (how : End) → end_of_stop stop ≡ Some how → EndsSo new printed a how
Comes tells old new printed a (Err (halt.Wild what n)) = EndsSo new printed a (Wild (cause_of what) n)
Comes tells old new printed a (Err (halt.Trap pc cause)) = EndsSo new printed a (Trap pc (trap_text cause))

-- what was printed behind an answer
abbrev pub printed_behind : List (ℕ × ℕ) → Result Step Halt → List (ℕ × ℕ)
printed_behind printed (Ok Ran) = printed
printed_behind printed (Ok Delivered) = printed
printed_behind printed (Ok (Printed k w)) = printed ++ (k, w) ∷ []
printed_behind printed (Ok Step_quiet) = printed
printed_behind printed (Err stop) = printed

-- what was printed is a prefix of what is told
abbrev pub TellsMore : Account → List (ℕ × ℕ) → Type 0
TellsMore a printed = (more : List (ℕ × ℕ)) × (a.report.printed ≡ printed ++ more)
