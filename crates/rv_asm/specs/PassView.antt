-- What the first pass keeps, without where it lies.
use Rattle.std.specs.Prelude.{ℕ, List, map}
use Rattle.std.proofs.Common.{Bor}
use Rattle.rv_asm.specs.declared.pass.Pass.{Pass}
use Rattle.rv_asm.specs.declared.pass.Placed.{Placed as PlacedAt}
use Rattle.rv_asm.specs.declared.pass.Draft.{Draft}
use Rattle.rv_asm.specs.declared.pass.Draft.TheVariants as draft
use Rattle.rv_asm.specs.Statements.{Code, Word, Goto}
use Rattle.rv_asm.specs.Faults.{Labels, Said}

-- labels
abbrev pub labels_seen : List (Bor (List ℕ) × ℕ) → Labels
labels_seen ls = map (λ l. (l.0.now, l.1)) ls

-- a word, or what goes to a label
abbrev pub drafted : Draft → List ℕ → Code
drafted (draft.Word w) label = Word w
drafted (draft.Goto j) label = Goto j label

-- with its line
abbrev pub placed_seen : PlacedAt → ℕ × Code
placed_seen p = (p.line, drafted p.draft p.label.now)

-- what is said
abbrev pub said : Pass → Said
said p = record {
  next = p.next;
  stride = p.stride;
  params = p.params;
  results = p.results;
  labels = labels_seen p.labels.entries;
  words = map placed_seen p.words.items;
}
