-- What the top call makes sure of, by what is asked and by what is left of the files: its answer, that runs are right, that inputs are answered, and which
-- machine is handed out.
use Rattle.std.specs.Prelude.{ℕ, ◌≡◌, ◌≢◌, ◌⊎◌, true, false, List, ◌++◌, flat_map, length, Option}
use Rattle.std.specs.Io.KnownBytes.{Appends}
use Rattle.tam_edge.specs.Faults.{CountsFault}
use Rattle.tam_edge.specs.Whole.{AppendsPrefix}
use Rattle.tam_graph.specs.Graphs.{Graph, code_of as code_in, params_of}
use Rattle.tam_make.specs.declared.shape.Shape.{Shape}
use Rattle.tam_msgs.specs.Runs.{Quiet, result_line}
use Rattle.tam_flow.specs.Headline.{IsRight}
use Rattle.tam_run.specs.declared.level.Level.{Level}
use Rattle.tam_run.specs.declared.level.Level.TheVariants as level
use Rattle.tam_run.specs.Accounts.{Account, account_text}
use Rattle.tl0_keep.specs.ThreadLaws.{HasRoomAside}
use Rattle.tam_run.specs.RightRuns.{HasRoom, LiveSuffice}
use Rattle.tam_words.specs.declared.mode.Mode.TheVariants as mode
use Rattle.tam_words.specs.declared.usage_cause.UsageCause.TheVariants.{ArgsCount}
use Rattle.tam_words.specs.Names.{makes}
use Rattle.tam_words.specs.Jobs.{Asked}
use Rattle.tam_input.specs.declared.ending.Ending.{Ending}
use Rattle.tam_input.specs.declared.ending.Ending.TheVariants.{ReadFault, WriteFault, NoMemory, Usage}
use Rattle.tam_input.specs.Endings.{code_of}
use Rattle.tam_input.specs.Told.{Told, HasFailed, Contents, Agrees}
use Rattle.tam_input.specs.Refusing.{usage_line, read_fault_line, no_memory_line}
use Rattle.tam_input.specs.Inputs.{Request, IsReadOut, Names}
use Rattle.tam.specs.SaidRuns.{ending_of}
use Rattle.tam.specs.RightMade.{AsksMade, IsRightMade}
use Rattle.tl0_code.specs.ThreadCode.{Program}
use Rattle.rv_inst.specs.Harts.{Hart}
use Rattle.rv_inst.specs.Images.{Image}
use Rattle.tam.specs.GraphAnswers.{run_of}
use Rattle.tam.specs.CodeAnswers.{code_run_of}
use Rattle.tam.specs.ImageAnswers.{image_run_of}
use Rattle.tam.specs.Due.{IsDue, HasRun}
use Rattle.tam.specs.Answers.{Answer}
use Rattle.tam.specs.Asks.{AsksText, AsksRun, AsksCodeRun, AsksImageRun, AsksEmitted}
use Rattle.tam.specs.Machines.{has_answered, AsksMachine, HandsOver}

-- ---- an answer was written

-- a text was said under an ending; where a write failed, that is the ending, the count says so, and a prefix of the text was taken
pub record IsSaid (meant : Ending) (text : List ℕ) (end : Ending) (old new : Option (List ℕ)) (faults faults_new : ℕ) : Type 0 where
  pub said : end ≢ WriteFault → (end ≡ meant) × Appends old new text
  pub none : end ≢ WriteFault → faults_new ≡ faults
  pub broken : end ≡ WriteFault → AppendsPrefix old new text
  pub fault : end ≡ WriteFault → CountsFault faults faults_new

-- one of the texts was written whole under its ending, or a prefix of one before a write fault, whose count says so
pub record IsDone (Says : Ending → List ℕ → Type 0) (end : Ending) (old new : Option (List ℕ)) (faults faults_new : ℕ) : Type 0 where
  pub said : end ≢ WriteFault → (text : List ℕ) × Says end text × Appends old new text
  pub none : end ≢ WriteFault → faults_new ≡ faults
  pub broken : end ≡ WriteFault → (meant : Ending) × (text : List ℕ) × Says meant text × AppendsPrefix old new text
  pub fault : end ≡ WriteFault → CountsFault faults faults_new

-- ---- files

-- a read of a file that the words name failed: its count rose, or stands at its last value
abbrev pub ReadFailed : Asked → Told → Told → Type 0
ReadFailed ask before now = (file : List ℕ) × Names ask file × HasFailed before now file

-- Nothing changes of a file that the words don't name. A read fault is answered only where the count of one that they name rose, or stands at its
-- last value, and where a count changed it is answered, or a prefix of its line before a write fault. What is run or listed was read to its end.
pub record KeepsFiles (ask : Asked) (end : Ending) (before now : Told) (old new : Option (List ℕ)) : Type 0 where
  pub other_left : (file : List ℕ) → ¬ Names ask file → now.left file ≡ before.left file
  pub other_faults : (file : List ℕ) → ¬ Names ask file → now.faults file ≡ before.faults file
  pub read_fault : end ≡ ReadFault → ReadFailed ask before now
  pub fault_told : (file : List ℕ) → now.faults file ≢ before.faults file → (end ≡ ReadFault) ⊎ ((end ≡ WriteFault) × AppendsPrefix old new read_fault_line)
  pub read_out : (file : List ℕ) → Names ask file → has_answered end ≡ true → IsReadOut (before.left file) (now.left file)

-- ---- runs

-- the lines of first results of a run, and then that memory was wanted, were taken in some way
abbrev pub RanOut : (List ℕ → Type 0) → Account → Type 0
RanOut Taken a = (prefix rest : List (ℕ × ℕ)) × (a.report.printed ≡ prefix ++ rest) × Taken (flat_map result_line prefix ++ no_memory_line)

-- What the sink took of what a run tells. Under the ending of the run it took exactly its text. Else memory was wanted, behind the lines of its first
-- results, or a read failed, or a write, and then the sink took a prefix of one of these: that of a read fault only where a read failed.
pub record TookRun (a : Account) (Failed : Type 0) (end : Ending) (old new : Option (List ℕ)) : Type 0 where
  pub whole : end ≡ ending_of a.report → Appends old new (account_text a)
  pub first_lines : end ≡ NoMemory → RanOut (Appends old new) a
  pub fault : end ≡ ReadFault → Failed × Appends old new read_fault_line
  pub prefix : end ≡ WriteFault → AppendsPrefix old new (account_text a) ⊎ (RanOut (AppendsPrefix old new) a ⊎ (Failed × AppendsPrefix old new read_fault_line))
  pub no_other : (end ≡ ending_of a.report) ⊎ ((end ≡ ReadFault) ⊎ ((end ≡ WriteFault) ⊎ (end ≡ NoMemory)))

-- Of a run of a graph that is asked for: each line is a result of the firing rules, no place has two lines, a quiet run has exactly the results, a result is
-- missing exactly where no number of unfoldings gives it, and every other end has its cause in the rules. Where the limits leave room for what the rules
-- give, the run is quiet, also where they have room for the live activations alone. And the sink took its text.
pub record IsRightRun (level : Level) (g : Graph) (ask : Request) (Failed : Type 0) (end : Ending) (old new : Option (List ℕ)) : Type 0 where
  pub right : IsRight g ask.args ask.limits (run_of level ask g).report
  pub complete : HasRoom g ask.args ask.limits → (run_of level ask g).report.how ≡ Quiet
  pub complete_live : HasRoomAside g ask.args ask.limits → LiveSuffice level g ask.args ask.order ask.limits → (run_of level ask g).report.how ≡ Quiet
  pub took : TookRun (run_of level ask g) Failed end old new

-- this text was written under this ending, or a read failed, or a write, or memory was wanted
abbrev pub IsGiven : Ending → List ℕ → Ending → Option (List ℕ) → Option (List ℕ) → Type 0
IsGiven meant text end old new = ((end ≡ meant) × Appends old new text) ⊎ ((end ≡ ReadFault) ⊎ ((end ≡ WriteFault) ⊎ (end ≡ NoMemory)))

-- Of code that is what was written of a graph: its run is that of the graph at the level of this code, and a wrong count of arguments is told.
pub record IsRunOfGraph (level : Level) (g : Graph) (ask : Request) (Failed : Type 0) (end : Ending) (old new : Option (List ℕ)) : Type 0 where
  pub run : length ask.args ≡ params_of (code_in g g.main) → IsRightRun level g ask Failed end old new
  pub wrong_count : length ask.args ≢ params_of (code_in g g.main) → IsGiven Usage (usage_line ArgsCount) end old new

-- ---- inputs that are read

-- Of an input that is read: where something is due to it, its listing where it is accepted and its first fault where it isn't, that is given. Nothing is due
-- where a run of it is asked for.
pub record IsAnswered (ask : Request) (bytes : List ℕ) (end : Ending) (old new : Option (List ℕ)) : Type 0 where
  pub given : (meant : Ending) (text : List ℕ) → IsDue ask bytes meant text → IsGiven meant text end old new
  pub no_other : HasRun ask bytes ⊎ ((meant : Ending) × (text : List ℕ)
      × (((end ≡ meant) × IsDue ask bytes meant text) ⊎ ((end ≡ ReadFault) ⊎ ((end ≡ WriteFault) ⊎ (end ≡ NoMemory)))))

-- ---- the call

-- What the call makes sure of: for some bytes of each file, which agree with all that is told, the answer is theirs; whatever run is asked for of
-- whatever graph they spell is right, at whatever level; the sink took the text of whatever run is asked for of whatever thread code they spell, or image,
-- and where that is what is written of a graph, the run is the graph's at the level of threads, or of the machine; so are the runs of whatever large
-- input is asked for; to each input that is read what is due is given; and the machine of whatever run of one is asked for is handed out.
pub record IsRightCall (words : Asked) (before now : Told) (code : ℕ) (old new : Option (List ℕ)) (faults faults_new : ℕ) (left left_new : Option Hart)
    : Type 0 where
  pub contents : Contents
  pub agrees : Agrees before.left contents
  pub end : Ending
  pub code_is : code ≡ code_of end
  pub done : IsDone (Answer words contents before now) end old new faults faults_new
  pub run : (level : Level) (g : Graph) (ask : Request) → AsksRun words contents level g ask
      → IsRightRun level g ask (ReadFailed words before now) end old new
  pub code_run : (p : Program) (ask : Request) → AsksCodeRun words contents p ask → TookRun (code_run_of ask p) (ReadFailed words before now) end old new
  pub image_run : (image : Image) (ask : Request) → AsksImageRun words contents image ask
      → TookRun (image_run_of ask image) (ReadFailed words before now) end old new
  pub emitted : (g : Graph) (ask : Request) → AsksEmitted mode.EmitTl0 mode.ExecTl0 words contents g ask
      → IsRunOfGraph level.Tl0 g ask (ReadFailed words before now) end old new
  pub emitted_image : (g : Graph) (ask : Request) → AsksEmitted mode.EmitImage mode.ExecRv32 words contents g ask
      → IsRunOfGraph level.Rv32 g ask (ReadFailed words before now) end old new
  pub made : (shape : Shape) (n : ℕ) → AsksMade words shape n → IsRightMade shape n end old new
  pub answered : (ask : Request) (bytes : List ℕ) → AsksText words contents ask bytes → makes ask.mode ≡ false → IsAnswered ask bytes end old new
  pub files : KeepsFiles words end before now old new
  pub machine : HandsOver (AsksMachine words contents) end left left_new
