use Rattle.std.proofs.Common.{◌≡◌, None, sym, ◌∙◌, rules}
use Rattle.tam_read.specs.Tables.{table, found}
use Rattle.tam_read.proofs.Tabled.{put-new, none-there}
use Rattle.tam_read.proofs.table.put_in.Goals as goal

pub returns-in_ok-insert : goal.returns-in_ok-insert
returns-in_ok-insert c = record {
  ok = let none : found c.args.name.now (table c.args.names.now) ≡ None = sym c.find.ensures.value ∙ none-there c.find.result (search rules) in
      put-new c.args.name c.args.made c.args.names.now.entries.entries c.insert.new.self.entries none c.in_ok-insert.ensures.entries;
}
