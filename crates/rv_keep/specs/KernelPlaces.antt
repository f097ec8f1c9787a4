-- Where the parts of the kernel stand.
-- The rules in words: docs/MACHINE.md, "Machine code".
use Rattle.std.specs.Prelude.{ℕ}

-- a thread has stopped, and its frame may have another that is ready
abbrev pub rest_at : ℕ
rest_at = 56

-- the poll
abbrev pub poll_at : ℕ
poll_at = 68

-- a frame is begun
abbrev pub begin_at : ℕ
begin_at = 100

-- the entry counts of a frame that is begun are filled in
abbrev pub fill_at : ℕ
fill_at = 160

-- a word is delivered
abbrev pub deliver_at : ℕ
deliver_at = 196

-- the routine that spends one of a thread's entry count
abbrev pub post_at : ℕ
post_at = 248

-- where it ends
abbrev pub post_end : ℕ
post_end = 316

-- a thread is run
abbrev pub run_at : ℕ
run_at = 316

-- a thread stops
abbrev pub stop_at : ℕ
stop_at = 356

-- what a frame that is begun owes, and its slots, are filled in
abbrev pub clear_at : ℕ
clear_at = 388

-- how many words the kernel has
abbrev pub kernel_words : ℕ
kernel_words = 105

-- the first address behind it
abbrev pub kernel_end : ℕ
kernel_end = 420
