-- What the words ask for, of which text: an input, a run of a graph, of thread code or of an image.
-- The rule in words: docs/FORMATS.md, "Command line".
use Rattle.std.specs.Prelude.{ℕ, ◌≡◌, ◌≤◌, List, length, map, Some, String}
use Rattle.std.specs.declared.alloc.Global.{Global}
use Rattle.std.specs.String.{string_bytes}
use Rattle.tam_graph.specs.Graphs.{Graph}
use Rattle.tam_graph.specs.Accepted.{IsAccepted}
use Rattle.tam_msgs.specs.declared.item.Item.{Item}
use Rattle.tam_run.specs.declared.level.Level.{Level}
use Rattle.tam_words.specs.declared.mode.Mode.{Mode}
use Rattle.tam_words.specs.Jobs.{Asked, Job, JobParts, asked}
use Rattle.tam_input.specs.Told.{Contents}
use Rattle.tam_input.specs.Refusing.{IsOrder, text_of, most_bytes}
use Rattle.tam_input.specs.Inputs.{Request, request_of}
use Rattle.tl0_code.specs.ThreadCode.{Program}
use Rattle.rv_inst.specs.Images.{Image}
use Rattle.tam.specs.GraphAnswers.{AsksGraph, listing}
use Rattle.tam.specs.CodeAnswers.{AsksCode}
use Rattle.tam.specs.ImageAnswers.{AsksImage}

-- what the words ask for
abbrev pub ask_of : List (String Global) → Asked
ask_of words = asked (map string_bytes words)

-- an input is asked for: a job, with an order list and with these bytes as its text, neither of them too long
pub record AsksText (words : Asked) (contents : Contents) (ask : Request) (bytes : List ℕ) : Type 0 where
  pub job : JobParts
  pub order : List Item
  pub asked : words ≡ Job job
  pub same : ask ≡ request_of job order
  pub ordered : IsOrder job contents order
  pub text : text_of job contents ≡ bytes
  pub few : length bytes ≤ most_bytes job.mode

-- a run of the graph at a level is asked for: on these arguments, under this order list and within these limits
pub record AsksRun (words : Asked) (contents : Contents) (level : Level) (g : Graph) (ask : Request) : Type 0 where
  pub bytes : List ℕ
  pub input : AsksText words contents ask bytes
  pub graph : AsksGraph ask bytes level g

-- a run of thread code is asked for
pub record AsksCodeRun (words : Asked) (contents : Contents) (p : Program) (ask : Request) : Type 0 where
  pub bytes : List ℕ
  pub input : AsksText words contents ask bytes
  pub code : AsksCode ask bytes p

-- a run of an image is asked for
pub record AsksImageRun (words : Asked) (contents : Contents) (image : Image) (ask : Request) : Type 0 where
  pub bytes : List ℕ
  pub input : AsksText words contents ask bytes
  pub file : AsksImage ask bytes image

-- a mode is asked for on a text, and the text is the one that another mode writes of an accepted graph
pub record AsksEmitted (written mode : Mode) (words : Asked) (contents : Contents) (g : Graph) (ask : Request) : Type 0 where
  pub job : JobParts
  pub order : List Item
  pub asked : words ≡ Job job
  pub same : ask ≡ request_of job order
  pub ordered : IsOrder job contents order
  pub text : Some (text_of job contents) ≡ listing written g
  pub mode_is : job.mode ≡ mode
  pub accepted : IsAccepted g
