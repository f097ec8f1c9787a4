-- What the files of the system are to the code.
use Rattle.std.specs.Prelude.{ℕ, List}
use Rattle.tam_edge.specs.declared.host_files.Opened.{Opened}
use Rattle.tam_edge.specs.Entries.{Entry, value_by}

-- the count of faults of a name
abbrev pub faults_of : {O : Type 0} → List (Entry (Opened O)) → List ℕ → ℕ
faults_of opened name = value_by (λ entry. entry.faults) 0 opened name
