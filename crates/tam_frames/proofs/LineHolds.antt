-- Lines of frames, where cells change and they stay.
use Rattle.std.proofs.Common.{◌≡◌, ◌∙◌, sym, ap, ap₂, subst, refl, ℕ, ◌<◌, ◌≤◌, List, [], ◌∷◌, length, map, arith}
use Rattle.std.specs.List.{AllByRecursion}
use Rattle.linked_cells.specs.declared.line.Line.{Line}
use Rattle.linked_cells.specs.Cells.{LinkedCell, cell_at}
use Rattle.linked_cells.specs.Lines.{items_of, numbers_of}
use Rattle.linked_cells.proofs.LineLemmas.{last-is, last_of}
use Rattle.tam_frames.specs.FrameCells.{Shape, HoldsLine, HoldLines, second_header}
use Rattle.tam_frames.proofs.CellLists.{AllByRecursion-weaker, AllByRecursion-map, behind-same}

-- the link of a cell stays
abbrev pub SameLink : List LinkedCell → List LinkedCell → ℕ → Type 0
SameLink old new j = (cell_at new j).link ≡ (cell_at old j).link

-- the links of roots and of second headers stay, and no cell goes
pub record KeepsLines (old new : List LinkedCell) (shape : Shape) : Type 0 where
  pub roots : (r : ℕ) → r < 2 → SameLink old new r
  pub headers : (f : ℕ) → f < shape.begun → SameLink old new (second_header shape.slots shape.threads f)
  pub no_fewer : length old ≤ length new

-- each second header has the number of its frame
abbrev pub AreNumbered : List LinkedCell → Shape → Type 0
AreNumbered cells shape = (f : ℕ) → f < shape.begun → (cell_at cells (second_header shape.slots shape.threads f)).second ≡ f

module _ {old new : List LinkedCell} {shape : Shape} {line : Line} {root : ℕ} {numbers : List ℕ} (holds : HoldsLine old shape line root numbers) where
  -- the cells of a line stay
  pub items-same : root < 2 → KeepsLines old new shape → items_of new line ≡ items_of old line
  items-same low keeps =
      behind-same {P = SameLink old new} (record { same = λ j same. same }) line.root line.count
      (subst (SameLink old new) (sym holds.root_is) (keeps.roots root low))
      (subst (λ (is : List ℕ). AllByRecursion (SameLink old new) is) (sym holds.is.linked)
      (AllByRecursion-map (λ f. f < shape.begun) (SameLink old new) (second_header shape.slots shape.threads) (λ f lt. keeps.headers f lt) numbers
      holds.begun))

  -- a line of the same cells is still one
  pub line-stays : (begun : ℕ) → shape.begun ≤ begun → length old ≤ length new → items_of new line ≡ items_of old line
      → HoldsLine new (record shape { begun = begun }) line root numbers
  line-stays begun more no_fewer same = record {
    root_is = holds.root_is;
    is = record {
      linked = same ∙ holds.is.linked;
      last_is = holds.is.last_is ∙ (last-is old line.root line.count ∙ (ap (last_of line.root) (sym same) ∙ sym (last-is new line.root line.count)));
      distinct = holds.is.distinct;
      there =
          AllByRecursion-weaker (λ i. i < length old) (λ i. i < length new) (λ i lt. omega (arith, lt, no_fewer))
          (line.root ∷ map (second_header shape.slots shape.threads) numbers) holds.is.there;
    };
    begun = AllByRecursion-weaker (λ f. f < shape.begun) (λ f. f < begun) (λ f lt. omega (arith, lt, more)) numbers holds.begun;
  }

-- the numbers that second headers have
seconds : (cells : List LinkedCell) (shape : Shape) → AreNumbered cells shape → (ns : List ℕ) → AllByRecursion (λ f. f < shape.begun) ns
    → map (λ i. (cell_at cells i).second) (map (second_header shape.slots shape.threads) ns) ≡ ns
seconds cells shape numbered [] all = refl
seconds cells shape numbered (n ∷ ns) all = ap₂ (λ (x : ℕ) (xs : List ℕ). x ∷ xs) (numbered n all.0) (seconds cells shape numbered ns all.1)

-- the numbers of a line are those of its frames
pub numbers-are : {cells : List LinkedCell} {shape : Shape} {line : Line} {root : ℕ} {numbers : List ℕ} → HoldsLine cells shape line root numbers
    → AreNumbered cells shape → numbers_of cells line ≡ numbers
numbers-are {cells} {shape} {numbers = numbers} holds numbered =
    ap (λ (is : List ℕ). map (λ i. (cell_at cells i).second) is) holds.is.linked ∙ seconds cells shape numbered numbers holds.begun

-- both lines stay
pub lines-stay : {old new : List LinkedCell} {shape : Shape} {queue free : Line} {waiting idle : List ℕ} → HoldLines old shape queue free waiting idle
    → KeepsLines old new shape → (begun : ℕ) → shape.begun ≤ begun → AreNumbered new (record shape { begun = begun })
    → HoldLines new (record shape { begun = begun }) queue free waiting idle
lines-stay lines keeps begun more numbered = record {
  queue_held = line-stays lines.queue_held begun more keeps.no_fewer (items-same lines.queue_held (omega arith) keeps);
  free_held = line-stays lines.free_held begun more keeps.no_fewer (items-same lines.free_held (omega arith) keeps);
  apart = lines.apart;
  numbered = numbered;
}

-- they are the lines of the numbers that are read off
pub lines-own : {cells : List LinkedCell} {shape : Shape} {queue free : Line} {waiting idle : List ℕ} → HoldLines cells shape queue free waiting idle
    → HoldLines cells shape queue free (numbers_of cells queue) (numbers_of cells free)
lines-own {cells} {shape} {queue} {free} {waiting} {idle} lines =
    subst (λ (w : List ℕ). HoldLines cells shape queue free w (numbers_of cells free)) (sym (numbers-are lines.queue_held lines.numbered))
    (subst (λ (i : List ℕ). HoldLines cells shape queue free waiting i) (sym (numbers-are lines.free_held lines.numbered)) lines)
