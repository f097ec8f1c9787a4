-- What is due to a text of thread code, and which run of thread code is asked for.
-- The rule in words: docs/FORMATS.md, "Command line"; docs/THREADS.md, "Runs of threads".
use Rattle.std.specs.Prelude.{ℕ, ◌+◌, ◌≡◌, ◌≢◌, List, [], ◌∷◌, flat_map, length, take, Some}
use Rattle.tam_run.specs.Accounts.{Account, plain_account}
use Rattle.tam_words.specs.declared.mode.Mode.TheVariants as mode
use Rattle.tam_words.specs.declared.usage_cause.UsageCause.TheVariants.{ArgsCount}
use Rattle.tam_input.specs.declared.ending.Ending.{Ending}
use Rattle.tam_input.specs.declared.ending.Ending.TheVariants as ending
use Rattle.tam_input.specs.Refusing.{usage_line}
use Rattle.tam_input.specs.Inputs.{Request}
use Rattle.tl0_code.specs.declared.bad_cause.BadCause.{BadCause}
use Rattle.tl0_code.specs.ThreadCode.{Program, code_text}
use Rattle.tl0_code.specs.ThreadRuns.{thread_told}
use Rattle.tl0_code.specs.CodeRules.{IsChecked, first_fault as first_refused}
use Rattle.tl0_code.specs.CodeTexts.{text_lines}
use Rattle.tl0_text.specs.declared.cause.Cause0.{Cause0}
use Rattle.tl0_text.specs.Reading.{Reads0, first_fault}
use Rattle.tam.specs.AnswerLines.{refused_line, code_text_cause_name, code_cause_name}

-- the bytes are a text of thread code without a fault
pub record SpellsCode (bytes : List ℕ) (p : Program) : Type 0 where
  pub reads : Reads0 bytes p
  pub checked : IsChecked p

-- how many params `main` has
abbrev pub main_params : Program → ℕ
main_params p = (code_text p p.main).params

-- the number of a line of code n, by its place behind the code's head, in the text of the program: two lines stand before the first head
abbrev pub code_line : Program → ℕ → ℕ → ℕ
code_line p n place = 3 + (length (flat_map text_lines (take n p.codes)) + place)

-- the line of a fault: of its code, its place behind the code's head, and its cause
abbrev pub code_fault_line : Program → ℕ × ℕ × BadCause → List ℕ
code_fault_line p fault = refused_line (code_line p fault.0 fault.1) (code_cause_name fault.2)

-- what the run of thread code that is asked for tells
abbrev pub code_run_of : Request → Program → Account
code_run_of ask p = plain_account (thread_told p ask.args ask.order ask.limits)

-- a run of the thread code of the bytes is asked for, and each param of `main` has an argument
pub record AsksCode (ask : Request) (bytes : List ℕ) (p : Program) : Type 0 where
  pub mode : ask.mode ≡ mode.ExecTl0
  pub spelled : SpellsCode bytes p
  pub one_each : length ask.args ≡ main_params p

-- by what is asked of these bytes as thread code, the ending and the text that are due where no run is
pub data CodeDue (ask : Request) (bytes : List ℕ) : Ending → List ℕ → Type 0 where
  -- the bytes read as no thread code
  not_code : {n : ℕ} {cause : Cause0} → first_fault bytes ≡ (n, cause) ∷ [] → CodeDue ask bytes ending.Refused (refused_line n (code_text_cause_name cause))
  -- they read as thread code with a fault
  not_checked : {p : Program} {fault : ℕ × ℕ × BadCause} → Reads0 bytes p → first_refused p ≡ Some fault
      → CodeDue ask bytes ending.Refused (code_fault_line p fault)
  -- as thread code without one, which has another number of params than there are arguments
  wrong_count : {p : Program} → SpellsCode bytes p → length ask.args ≢ main_params p → CodeDue ask bytes ending.Usage (usage_line ArgsCount)
