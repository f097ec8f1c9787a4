-- The kernel: the words before all threads, by parts.
-- The rules in words: docs/MACHINE.md, "Machine code".
use Rattle.std.specs.Prelude.{ℕ, ◌+◌, ◌++◌, List, [], ◌∷◌}
use Rattle.rv_inst.specs.declared.r_name.RName.TheVariants.{Or as R_or, Mul as R_mul}
use Rattle.rv_inst.specs.declared.shift_name.ShiftName.TheVariants.{Slli}
use Rattle.rv_inst.specs.declared.branch_name.BranchName.TheVariants.{Beq, Bne}
use Rattle.rv_inst.specs.declared.inst.Inst.{Inst}
use Rattle.rv_inst.specs.declared.inst.Inst.TheVariants.{R, Shift, Branch, Jal, Jalr, Ecall}
use Rattle.rv_keep.specs.FrameRecords.{link_at, head_at, number_at, table_at, owed_at, slots_at, next_at}
use Rattle.rv_keep.specs.Expansions.{minus, addi, add, lw, sw, load_number, call_host}

-- where register 11 has a frame's number, register 10 gets its address: from the addresses of frames and the stride
abbrev pub addressed : List Inst
addressed = R R_mul 10 11 20 ∷ add 10 10 19 ∷ []

-- 0: the opening, with the addresses of the first frame and of the code table, the stride, and the number of `main`
abbrev pub opening : ℕ → ℕ → ℕ → ℕ → List Inst
opening frames stride table main =
    load_number 19 frames ++ load_number 20 stride ++ load_number 21 table
    ++ (addi 8 0 0 ∷ addi 9 0 0 ∷ addi 18 0 0 ∷ addi 11 0 0 ∷ addi 12 0 main ∷ addi 13 0 (minus 1) ∷ addi 14 0 0 ∷ Jal 0 48 ∷ [])

-- 56: a frame whose list is empty is no longer current
abbrev pub resting : List Inst
resting = lw 5 head_at 8 ∷ Branch Bne 5 0 8 ∷ addi 8 0 0 ∷ []

-- 68: the poll, and what it says is to be done; register 10 isn't 0 where something is ready
abbrev pub polling : List Inst
polling =
    R R_or 10 8 9 ∷ addi 17 0 0 ∷ Ecall ∷ Branch Beq 10 0 (minus 12)
    ∷ addi 5 0 1 ∷ Branch Beq 10 5 228 ∷ addi 5 0 2 ∷ Branch Beq 10 5 100 ∷ []

-- 100: a frame is begun: registers 11 to 14 have its number, its code, and its first two slots
abbrev pub beginning : List Inst
beginning =
    addressed ++ (Shift Slli 5 12 2 ∷ add 5 5 21 ∷ lw 5 0 5
    ∷ sw 0 head_at 10 ∷ sw 11 number_at 10 ∷ lw 6 0 5 ∷ sw 6 table_at 10 ∷ sw 13 slots_at 10 ∷ sw 14 (slots_at + 4) 10
    ∷ lw 6 4 5 ∷ add 6 6 10 ∷ addi 11 6 0 ∷ Jal 0 232 ∷ [])

-- 160: its entry counts are filled in from the code's record; then thread 0 is spent once, and the kernel polls
abbrev pub filling : List Inst
filling =
    lw 12 12 5 ∷ addi 5 5 16 ∷ lw 28 0 5 ∷ sw 28 0 6 ∷ addi 5 5 4 ∷ addi 6 6 8 ∷ addi 7 7 (minus 1) ∷ Branch Bne 7 0 (minus 20) ∷ Jal 0 48 ∷ []

-- 196: a word is delivered: registers 11 to 13 have the frame's number, the inlet, and the word
abbrev pub delivering : List Inst
delivering =
    addressed ++ (lw 5 table_at 10 ∷ Shift Slli 6 12 4 ∷ add 5 5 6 ∷ lw 6 0 5 ∷ add 6 6 10 ∷ sw 13 0 6
    ∷ lw 11 4 5 ∷ add 11 11 10 ∷ lw 12 8 5 ∷ Jal 1 8 ∷ Jal 0 (minus 176) ∷ [])

-- 248: one of a thread's entry count is spent: register 10 has the address of the frame's bytes, 11 that of the thread's cell, 12 that of its
-- code, and 1 the address to go back to
abbrev pub post : List Inst
post =
    lw 5 0 11 ∷ addi 5 5 (minus 1) ∷ sw 5 0 11 ∷ Branch Bne 5 0 52
    ∷ sw 12 0 11 ∷ lw 6 head_at 10 ∷ sw 6 next_at 11 ∷ sw 11 head_at 10 ∷ Branch Bne 6 0 32 ∷ Branch Beq 10 8 28
    ∷ sw 0 link_at 10 ∷ Branch Bne 18 0 12 ∷ addi 9 10 0 ∷ Jal 0 8 ∷ sw 10 link_at 18 ∷ addi 18 10 0 ∷ Jalr 0 1 0 ∷ []

-- 316: the latest ready thread of the current frame is run; where none is current, the front frame of the queue is from now on
abbrev pub running : List Inst
running =
    Branch Bne 8 0 20 ∷ addi 8 9 0 ∷ lw 9 link_at 8 ∷ Branch Bne 9 0 8 ∷ addi 18 0 0
    ∷ lw 11 head_at 8 ∷ lw 6 next_at 11 ∷ sw 6 head_at 8 ∷ lw 5 0 11 ∷ Jalr 0 5 0 ∷ []

-- 356: a thread stops: the frame owes one less, and is given back where it owes nothing
abbrev pub stopping : List Inst
stopping =
    lw 5 owed_at 8 ∷ addi 5 5 (minus 1) ∷ sw 5 owed_at 8 ∷ Branch Bne 5 0 (minus 312)
    ∷ lw 10 number_at 8 ∷ call_host 6 ++ (Jal 0 (minus 328) ∷ [])

-- 388: a frame that is begun owes its threads, and its slots but the first two are 0; then its entry counts are filled in
abbrev pub clearing : List Inst
clearing =
    lw 7 8 5 ∷ sw 7 owed_at 10 ∷ addi 28 10 (slots_at + 8) ∷ Branch Beq 28 6 16 ∷ sw 0 0 28 ∷ addi 28 28 4 ∷ Jal 0 (minus 12) ∷ Jal 0 (minus 256) ∷ []

-- the kernel
abbrev pub kernel : ℕ → ℕ → ℕ → ℕ → List Inst
kernel frames stride table main =
    opening frames stride table main
    ++ (resting ++ (polling ++ (beginning ++ (filling ++ (delivering ++ (post ++ (running ++ (stopping ++ clearing))))))))
