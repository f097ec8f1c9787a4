use Rattle.std.proofs.Common.{◌≡◌, ◌++◌, take, drop}
use Rattle.tam_edge.specs.Entries.{pairs_by}
use Rattle.tam_edge.specs.Held.{reversed_items}
use Rattle.tam_edge.proofs.mem_files.reverse_all.Given as goal

abbrev pub invariant-loop-file : goal.invariant-loop-file
invariant-loop-file l =
    pairs_by reversed_items (take l.file-index l.files) ++ pairs_by (λ bytes. bytes.items) (drop l.file-index l.files)
    ≡ pairs_by (λ bytes. bytes.items) l.fn.files
