-- The parts of an image over a list of the addresses of a code's threads.
-- The rules in words: docs/MACHINE.md, "Machine code".
use Rattle.std.specs.Prelude.{ℕ, ◌+◌, ◌*◌, List, [], ◌∷◌, ◌++◌, map, flat_map, length, slice_index}
use Rattle.tl0_code.specs.declared.inlet.Inlet.{Inlet}
use Rattle.tl0_code.specs.ThreadCode.{Thread, CodeText, Program, code_text}
use Rattle.rv_inst.specs.declared.inst.Inst.{Inst}
use Rattle.rv_inst.specs.Instructions.{encoded}
use Rattle.rv_keep.specs.FrameRecords.{slot_at, cell_at}
use Rattle.rv_keep.specs.Expansions.{expanded, stop}
use Rattle.rv_keep.specs.Image.{thread_words, start_of}

-- the word of an instruction, as a name: what is pushed doesn't turn on its bits
unfoldable pub word_of : Inst → ℕ
word_of i = encoded i

-- the words of instructions
abbrev pub words_of : List Inst → List ℕ
words_of insts = map word_of insts

-- the address of each thread, where the first begins at n; and of what stands behind the last
abbrev pub starts_from : ℕ → List Thread → List ℕ
starts_from n [] = n ∷ []
starts_from n (t ∷ ts) = n ∷ starts_from (n + 4 * thread_words t) ts

-- those of the threads of code number c
abbrev pub starts_in : Program → ℕ → List ℕ
starts_in p c = starts_from (start_of p c 0) (code_text p c).threads

-- the instructions of a thread of code number c
abbrev pub insts_at : ℕ → List ℕ → ℕ → Thread → List Inst
insts_at slots starts c t = flat_map (expanded slots (slice_index starts) c) t.instrs ++ stop

-- the words of an inlet
abbrev pub inlet_at : ℕ → List ℕ → Inlet → List ℕ
inlet_at slots starts i = slot_at i.slot ∷ cell_at slots i.thread ∷ slice_index starts i.thread ∷ 0 ∷ []

-- the record and the inlet table of a code
abbrev pub record_at : ℕ → List ℕ → CodeText → List ℕ
record_at table starts c =
    table ∷ cell_at c.slots 0 ∷ length c.threads ∷ slice_index starts 0 ∷ map (λ t. t.count) c.threads
    ++ flat_map (inlet_at c.slots starts) c.inlets
