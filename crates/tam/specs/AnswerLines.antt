-- The lines of texts and image files that are refused, and the names of their faults.
-- The rule in words: docs/FORMATS.md, "Command line".
use Rattle.std.specs.Prelude.{ℕ, List, ◌++◌, decimal, codes}
use Rattle.tam_msgs.specs.Runs.{line}
use Rattle.tam_read.specs.declared.cause.Limit.{Limit}
use Rattle.tam_read.specs.declared.cause.Limit.TheVariants.{Codes, CodeVertices, BlockVertices, Nesting}
use Rattle.tam_read.specs.declared.cause.ReadCause.{ReadCause}
use Rattle.tam_read.specs.declared.cause.ReadCause.TheVariants.{BadByte, BadHead, BadLine, BadName, BadNumber, BadNesting, TwiceNamed, TooMany, Ended}
use Rattle.tam_read.specs.declared.cause.ReadCause.TheVariants.{UnknownName, UnknownCode}
use Rattle.tam_graph.specs.declared.check_cause.CheckCause.{CheckCause}
use Rattle.tam_graph.specs.declared.check_cause.CheckCause.TheVariants.{NoMain, WrongBlock, PlaceTwice, PlaceRange, PlaceMissing, DepthMismatch}
use Rattle.tam_graph.specs.declared.check_cause.CheckCause.TheVariants.{MainType, Cycle}
use Rattle.tl0_code.specs.declared.bad_cause.BadCause.{BadCause}
use Rattle.tl0_code.specs.declared.bad_cause.BadCause.TheVariants as bad
use Rattle.tl0_text.specs.declared.cause.Cause0.{Cause0}
use Rattle.tl0_text.specs.declared.cause.Cause0.TheVariants as cause
use Rattle.rv_asm.specs.declared.asm_error.AsmCause.{AsmCause}
use Rattle.rv_asm.specs.declared.asm_error.AsmCause.TheVariants as asm
use Rattle.rv_image.specs.declared.image_error.ImageCause.{ImageCause}
use Rattle.rv_image.specs.declared.image_error.ImageCause.TheVariants as image

-- the line of a text that is refused at a line of its own, for a cause with this name
abbrev pub refused_line : ℕ → List ℕ → List ℕ
refused_line n cause = line (codes "refused line " ++ decimal n ++ codes " " ++ cause)

-- the line of an image file that is refused at a byte, for a cause with this name
abbrev pub refused_byte_line : ℕ → List ℕ → List ℕ
refused_byte_line n cause = line (codes "refused byte " ++ decimal n ++ codes " " ++ cause)

-- a limit by its name
abbrev pub limit_name : Limit → List ℕ
limit_name Codes = codes "Codes"
limit_name CodeVertices = codes "CodeVertices"
limit_name BlockVertices = codes "BlockVertices"
limit_name Nesting = codes "Nesting"

-- a fault of a graph's text by its name
abbrev pub read_cause_name : ReadCause → List ℕ
read_cause_name BadByte = codes "BadByte"
read_cause_name BadHead = codes "BadHead"
read_cause_name BadLine = codes "BadLine"
read_cause_name BadName = codes "BadName"
read_cause_name BadNumber = codes "BadNumber"
read_cause_name BadNesting = codes "BadNesting"
read_cause_name TwiceNamed = codes "TwiceNamed"
read_cause_name (TooMany limit) = codes "TooMany " ++ limit_name limit
read_cause_name Ended = codes "Ended"
read_cause_name UnknownName = codes "UnknownName"
read_cause_name UnknownCode = codes "UnknownCode"

-- a fault of a graph by its name
abbrev pub check_cause_name : CheckCause → List ℕ
check_cause_name NoMain = codes "NoMain"
check_cause_name WrongBlock = codes "WrongBlock"
check_cause_name PlaceTwice = codes "PlaceTwice"
check_cause_name PlaceRange = codes "PlaceRange"
check_cause_name PlaceMissing = codes "PlaceMissing"
check_cause_name DepthMismatch = codes "DepthMismatch"
check_cause_name MainType = codes "MainType"
check_cause_name Cycle = codes "Cycle"

-- a fault of a text of thread code by its name
abbrev pub code_text_cause_name : Cause0 → List ℕ
code_text_cause_name cause.BadHead = codes "BadHead"
code_text_cause_name cause.BadLine = codes "BadLine"
code_text_cause_name cause.BadNumber = codes "BadNumber"
code_text_cause_name cause.TooMany = codes "TooMany"
code_text_cause_name cause.Ended = codes "Ended"

-- a fault of thread code by its name
abbrev pub code_cause_name : BadCause → List ℕ
code_cause_name bad.Frame = codes "Frame"
code_cause_name bad.Main = codes "Main"
code_cause_name bad.Slot = codes "Slot"
code_cause_name bad.Thread = codes "Thread"
code_cause_name bad.Inlet = codes "Inlet"
code_cause_name bad.Callee = codes "Callee"
code_cause_name bad.Place = codes "Place"

-- a fault of an assembly text by its name
abbrev pub asm_cause_name : AsmCause → List ℕ
asm_cause_name asm.BadHead = codes "BadHead"
asm_cause_name asm.BadLine = codes "BadLine"
asm_cause_name asm.BadNumber = codes "BadNumber"
asm_cause_name asm.Offset = codes "Offset"
asm_cause_name asm.TwiceNamed = codes "TwiceNamed"
asm_cause_name asm.UnknownName = codes "UnknownName"
asm_cause_name asm.Ended = codes "Ended"
asm_cause_name asm.TooMany = codes "TooMany"

-- a fault of an image file by its name
abbrev pub image_cause_name : ImageCause → List ℕ
image_cause_name image.Magic = codes "Magic"
image_cause_name image.Version = codes "Version"
image_cause_name image.Size = codes "Size"
image_cause_name image.Stride = codes "Stride"
image_cause_name image.Params = codes "Params"
image_cause_name image.Results = codes "Results"
