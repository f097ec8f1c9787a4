-- A frame's bytes: where each part of it stands, from the frame's address on.
-- The rules in words: docs/MACHINE.md, "Machine code".
use Rattle.std.specs.Prelude.{ℕ, ◌+◌, ◌*◌}

-- the link of the ready queue
abbrev pub link_at : ℕ
link_at = 0

-- the head of the ready list
abbrev pub head_at : ℕ
head_at = 4

-- the frame's number
abbrev pub number_at : ℕ
number_at = 8

-- the address of its inlet table
abbrev pub table_at : ℕ
table_at = 12

-- how many of its threads have neither run nor been skipped
abbrev pub owed_at : ℕ
owed_at = 16

-- its slots
abbrev pub slots_at : ℕ
slots_at = 20

-- slot s
abbrev pub slot_at : ℕ → ℕ
slot_at s = slots_at + 4 * s

-- the cell of thread t behind the slots: its entry count or, once enabled, the address of its code; then the link of the ready list
abbrev pub cell_at : ℕ → ℕ → ℕ
cell_at slots t = slot_at slots + 8 * t

-- the link in a cell
abbrev pub next_at : ℕ
next_at = 4
