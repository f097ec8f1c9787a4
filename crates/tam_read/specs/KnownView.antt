-- The names that are known, without where they lie.
use Rattle.tam_read.specs.declared.naming.Known.{Known as Fields}
use Rattle.tam_read.specs.Naming.{Known}
use Rattle.tam_read.specs.Tables.{table}

-- the names that are known
abbrev pub known : Fields → Known
known k = record { nodes = table k.nodes.now; codes = table k.codes.now }
