-- What the reader keeps, without where it lies.
use Rattle.tl0_code.specs.ThreadCode.{Thread, CodeText}
use Rattle.tl0_text.specs.declared.draft.CodeDraft.{CodeDraft}
use Rattle.tl0_text.specs.declared.draft.ThreadDraft.{ThreadDraft}
use Rattle.tl0_text.specs.declared.pass.Pass.{Pass}
use Rattle.tl0_text.specs.Reading.{Said}

-- the code that is open
abbrev pub code_seen : CodeDraft → CodeText
code_seen c = record { params = c.params; results = c.results; slots = c.slots; inlets = c.inlets.items; threads = c.threads.items }

-- the thread that is open
abbrev pub thread_seen : ThreadDraft → Thread
thread_seen t = record { count = t.count; instrs = t.instrs.items }

-- what was said
abbrev pub said : Pass → Said
said p = record { next = p.next; number = p.number; main = p.main; done = p.done.items; code = code_seen p.code; thread = thread_seen p.thread }
