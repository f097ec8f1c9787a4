-- What is said keeps the limits of a program all along.
use Rattle.std.specs.Prelude.{ℕ, ◌+◌, ◌≡◌, ◌≤◌, ◌<◌, length, [], sum_by}
use Rattle.tl0_code.specs.ThreadCode.{instr_count}
use Rattle.tl0_text.specs.declared.next.Next.{Next}
use Rattle.tl0_text.specs.declared.next.Next.TheVariants as next
use Rattle.tl0_text.specs.Reading.{Said}

-- how many instructions were said
abbrev pub instrs_said : Said → ℕ
instrs_said s = sum_by instr_count s.done + (instr_count s.code + length s.thread.instrs)

-- what is known of the number of codes and of threads, by what comes next
abbrev pub IsStage : Next → Said → Type 0
IsStage next.Version s = s.done ≡ []
IsStage next.Counts s = s.done ≡ []
IsStage next.Head s = length s.done < s.number
IsStage next.Inlets s = (length s.done < s.number) × (s.code.threads ≡ [])
IsStage next.Threads s = (length s.done < s.number) × (0 < length s.code.threads)
IsStage next.Instrs s = (length s.done < s.number) × (length s.code.threads ≤ 3072)
IsStage next.Done s = (length s.done ≡ s.number) × (0 < s.number)

-- the code that is open keeps its limits, and there are few codes
pub record IsSound (s : Said) : Type 0 where
  pub few_slots : s.code.slots ≤ 1026
  pub few_inlets : length s.code.inlets ≤ 1024
  pub few_threads : length s.code.threads ≤ 3073
  pub few_codes : s.number ≤ 256
  pub stage : IsStage s.next s
