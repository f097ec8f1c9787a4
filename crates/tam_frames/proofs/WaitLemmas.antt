-- Lines of frames, where a frame joins one or leaves it.
use Rattle.std.proofs.Common.{◌≡◌, ◌≢◌, ◌∙◌, sym, ap, subst, refl, ℕ, zero, suc, ◌+◌, ◌<◌, ◌≤◌, ◌^◌, true, false, true≢false, ◌==◌, List, [], ◌∷◌}
use Rattle.std.proofs.Common.{◌++◌, length, map, drop, arith, tests}
use Rattle.std.proofs.Common.{inl, inr}
use Rattle.std.specs.List.{AllByRecursion, list_any, IsDistinct as IsDistinctBy}
use Rattle.std.proofs.lemmas.Bool.{cases_eq}
use Rattle.std.proofs.lemmas.List.{length-map, map-append, drop-map}
use Rattle.std.proofs.lemmas.Map.Steps.{length-le_from_distinct_below}
use Rattle.linked_cells.specs.declared.line.Line.{Line}
use Rattle.std.specs.Prelude.{slice_set}
use Rattle.linked_cells.specs.Cells.{LinkedCell, CellRow, cell_at, with_words}
use Rattle.linked_cells.specs.Lists.{behind, from, IsApart, IsDistinct, StaysApart, StaysApartFromBoth}
use Rattle.linked_cells.specs.Lines.{IsLine, KeepsWords, items_of, numbers_of}
use Rattle.linked_cells.proofs.LineLemmas.{all-appended}
use Rattle.frame_tables.specs.FrameTables.{Frame, no_frame, is_queued}
use Rattle.tam_frames.specs.HeldFrames.{HeldFrames, IsInNoLine}
use Rattle.tam_frames.specs.FrameCells.{CellFrames, AreHeld, HoldsLine, held_frames, is_set, shape_of, start_of, second_header}
use Rattle.tam_frames.proofs.CellLists.{AllByRecursion-weaker, AllByRecursion-map, is-written}
use Rattle.tam_frames.proofs.FrameCellLemmas.{IsIn, is-in, frame-fits, RewritesFrame, rewritten-held, rewritten-view}
use Rattle.tam_frames.proofs.HoldLemmas.{holds-still}
use Rattle.tam_frames.proofs.ListedLemmas.{listed-set}
use Rattle.tam_frames.proofs.LineHolds.{line-stays}
use Rattle.tam_frames.proofs.LineChanges.{IsBesideFrames, root-beside, header-beside, root-apart-line, header-apart-line, of-last}
use Rattle.tam_frames.proofs.LineChanges.{Relinks, apart-frame, frame_of, queued-apart}

-- ---- how many may be in a line

-- two numbers that differ fail the test
differ-test : (x y : ℕ) → x ≢ y → (x == y) ≡ false
differ-test x y h = grind (arith, tests)

-- a number differs from each of a list
each-differs : (i : ℕ) (is : List ℕ) → IsApart i is → AllByRecursion (λ j. (i == j) ≡ false) is
each-differs i [] apart = tt
each-differs i (j ∷ js) apart = (differ-test i j apart.0, each-differs i js apart.1)

-- numbers with no two equal
distinct-by : (is : List ℕ) → IsDistinct is → IsDistinctBy (λ i j. i == j) is
unfolding IsDistinctBy
distinct-by [] distinct = tt
distinct-by (i ∷ is) distinct = (each-differs i is distinct.0, distinct-by is distinct.1)

-- one of numbers below n is below n
below-listed : (q n : ℕ) (is : List ℕ) → AllByRecursion (λ i. i < n) is → list_any (λ j. q == j) is ≡ true → q < n
below-listed q n [] all any = absurd (true≢false (sym any))
below-listed q n (i ∷ is) all any = elim (cases_eq q i) [
  | inl same ↦ subst (λ (e : ℕ). e < n) (sym same) all.0
  | inr other ↦ below-listed q n is all.1 (rw (list_any, differ-test q i other) at any)
]

-- numbers below n with no two equal are at most n
pub distinct-few : (n : ℕ) (is : List ℕ) → IsDistinct is → AllByRecursion (λ i. i < n) is → length is ≤ n
distinct-few n is distinct below = length-le_from_distinct_below is n (distinct-by is distinct) (λ q any. below-listed q n is below any)

-- a line has as many cells as it says
behind-length : (cells : List LinkedCell) (at n : ℕ) → length (behind cells at n) ≡ n
behind-length cells at zero = refl
behind-length cells at (suc n) = ap suc (behind-length cells (cell_at cells at).link n)

-- numbers of which the second headers differ, differ
apart-numbers : (slots threads n : ℕ) (ns : List ℕ) → IsApart (second_header slots threads n) (map (second_header slots threads) ns) → IsApart n ns
apart-numbers slots threads n [] apart = tt
apart-numbers slots threads n (m ∷ ms) apart = (
  (λ same. apart.0 (ap (second_header slots threads) same)),
  apart-numbers slots threads n ms apart.1,
)

distinct-numbers : (slots threads : ℕ) (ns : List ℕ) → IsDistinct (map (second_header slots threads) ns) → IsDistinct ns
distinct-numbers slots threads [] distinct = tt
distinct-numbers slots threads (n ∷ ns) distinct = (apart-numbers slots threads n ns distinct.0, distinct-numbers slots threads ns distinct.1)

-- each differs from a number that is apart from them, and is apart from others
each-apart : (f : ℕ) (idle ns : List ℕ) → IsApart f ns → AllByRecursion (λ g. IsApart g idle) ns → AllByRecursion (λ g. IsApart g (f ∷ idle)) ns
each-apart f idle [] apart all = tt
each-apart f idle (n ∷ ns) apart all = (((λ same. apart.0 (sym same)), all.0), each-apart f idle ns apart.1 all.1)

-- without the first
all-dropped : (P : ℕ → Type 0) (ns : List ℕ) → AllByRecursion P ns → AllByRecursion P (drop 1 ns)
all-dropped P [] all = tt
all-dropped P (n ∷ ns) all = all.1

apart-dropped : (i : ℕ) (ns : List ℕ) → IsApart i ns → IsApart i (drop 1 ns)
apart-dropped i [] apart = tt
apart-dropped i (n ∷ ns) apart = apart.1

-- ---- a frame joins a line, or leaves it

module _ {k : CellFrames} (held : AreHeld k) where
  abbrev waiting : List ℕ
  waiting = numbers_of k.table.cells k.queue

  abbrev idle : List ℕ
  idle = numbers_of k.table.cells k.free

  abbrev header : ℕ → ℕ
  header f = second_header k.slots k.threads f

  -- a line as it is kept
  pub queue-line : IsLine k.table.cells k.queue (items_of k.table.cells k.queue)
  queue-line = subst (IsLine k.table.cells k.queue) (sym held.lines.queue_held.is.linked) held.lines.queue_held.is

  pub free-line : IsLine k.table.cells k.free (items_of k.table.cells k.free)
  free-line = subst (IsLine k.table.cells k.free) (sym held.lines.free_held.is.linked) held.lines.free_held.is

  -- behind a change that keeps the numbers, they are those
  numbered : {new : CellRow} → KeepsWords k.table new → (f : ℕ) → f < k.begun → (cell_at new.cells (header f)).second ≡ f
  numbered words f lt = words.second_same (header f) ∙ held.lines.numbered f lt

  -- the free line, where cells apart from it change
  free-kept : {new : CellRow} → KeepsWords k.table new → items_of new.cells k.free ≡ items_of k.table.cells k.free
      → HoldsLine new.cells (shape_of k) k.free 1 idle
  free-kept words same = line-stays held.lines.free_held k.begun (omega arith) (omega (arith, words.length_same)) same

  queue-kept : {new : CellRow} → KeepsWords k.table new → items_of new.cells k.queue ≡ items_of k.table.cells k.queue
      → HoldsLine new.cells (shape_of k) k.queue 0 waiting
  queue-kept words same = line-stays held.lines.queue_held k.begun (omega arith) (omega (arith, words.length_same)) same

  module _ (f : ℕ) (begun : f < k.begun) (not_waiting : IsApart f waiting) (not_free : IsApart f idle) where
    -- its second header is there
    pub header-there : header f < length k.table.cells
    header-there = let fits = frame-fits k.slots k.threads f k.begun begun in omega (arith, fits, held.there)

    -- it is apart from either line
    pub apart-queue : IsApart (header f) (from k.table.cells k.queue.root k.queue.count)
    apart-queue = header-apart-line held.lines.queue_held (omega arith) f not_waiting

    pub apart-free : IsApart (header f) (from k.table.cells k.free.root k.free.count)
    apart-free = header-apart-line held.lines.free_held (omega arith) f not_free

    -- there is a number for one more
    few : (line : Line) (root : ℕ) (numbers : List ℕ) → HoldsLine k.table.cells (shape_of k) line root numbers → IsApart f numbers → line.count + 1 < 2 ^ 32
    few line root numbers holds apart =
        let count : line.count ≡ length numbers =
        sym (behind-length k.table.cells line.root line.count) ∙ ap (λ (is : List ℕ). length is) holds.is.linked
        ∙ length-map numbers (second_header k.slots k.threads) in
        let most = distinct-few k.begun (f ∷ numbers) (apart, distinct-numbers k.slots k.threads numbers holds.is.distinct.1) (begun, holds.begun) in
        omega (arith, count, most, held.few, held.countable)

    pub queue-few : k.queue.count + 1 < 2 ^ 32
    queue-few = few k.queue 0 waiting held.lines.queue_held not_waiting

    pub free-few : k.free.count + 1 < 2 ^ 32
    free-few = few k.free 1 idle held.lines.free_held not_free

    -- it waits behind all others
    module _ {new : CellRow} {queue : Line} (root_is : queue.root ≡ k.queue.root)
        (line_is : IsLine new.cells queue (items_of k.table.cells k.queue ++ header f ∷ [])) (words : KeepsWords k.table new)
        (kept : StaysApartFromBoth k.table.cells new.cells k.queue.last (header f)) where
      -- the last cell is beside frames, and apart from the free line
      last_beside : IsBesideFrames k.slots k.threads k.queue.last
      last_beside =
          of-last held.lines.queue_held (IsBesideFrames k.slots k.threads) (root-beside k.slots k.threads 0 (omega arith))
          (AllByRecursion-map (λ g. g < k.begun) (IsBesideFrames k.slots k.threads) header (λ g lt. header-beside k.slots k.threads g) waiting
          held.lines.queue_held.begun)

      last_apart : IsApart k.queue.last (from k.table.cells k.free.root k.free.count)
      last_apart =
          of-last held.lines.queue_held (λ j. IsApart j (from k.table.cells k.free.root k.free.count))
          (root-apart-line held.lines.free_held 0 (omega arith) (omega arith))
          (AllByRecursion-map (λ g. IsApart g idle) (λ j. IsApart j (from k.table.cells k.free.root k.free.count)) header
          (λ g apart. header-apart-line held.lines.free_held (omega arith) g apart) waiting held.lines.apart)

      pub waits : Relinks k new queue k.free (waiting ++ f ∷ []) idle
      waits = record {
        words = words;
        lists =
            λ g lt. kept (start_of k.slots k.threads g) (length (frame_of k g).ready) (apart-frame held k.queue.last last_beside g lt)
            (apart-frame held (header f) (header-beside k.slots k.threads f) g lt);
        lines = record {
          queue_held = record {
            root_is = root_is ∙ held.lines.queue_held.root_is;
            is =
                subst (IsLine new.cells queue)
                (ap (λ (is : List ℕ). is ++ header f ∷ []) held.lines.queue_held.is.linked ∙ sym (map-append header waiting (f ∷ []))) line_is;
            begun = all-appended (λ g. g < k.begun) waiting f held.lines.queue_held.begun begun;
          };
          free_held = free-kept words (kept k.free.root k.free.count last_apart apart-free);
          apart = all-appended (λ g. IsApart g idle) waiting f held.lines.apart not_free;
          numbered = numbered words;
        };
      }

    -- its number is the first free one
    module _ {new : CellRow} {free : Line} (root_is : free.root ≡ k.free.root)
        (line_is : IsLine new.cells free (header f ∷ items_of k.table.cells k.free)) (words : KeepsWords k.table new)
        (kept : StaysApartFromBoth k.table.cells new.cells k.free.root (header f)) where
      root_beside : IsBesideFrames k.slots k.threads k.free.root
      root_beside = subst (IsBesideFrames k.slots k.threads) (sym held.lines.free_held.root_is) (root-beside k.slots k.threads 1 (omega arith))

      root_apart : IsApart k.free.root (from k.table.cells k.queue.root k.queue.count)
      root_apart =
          subst (λ (j : ℕ). IsApart j (from k.table.cells k.queue.root k.queue.count)) (sym held.lines.free_held.root_is)
          (root-apart-line held.lines.queue_held 1 (omega arith) (omega arith))

      pub frees : Relinks k new k.queue free waiting (f ∷ idle)
      frees = record {
        words = words;
        lists =
            λ g lt. kept (start_of k.slots k.threads g) (length (frame_of k g).ready) (apart-frame held k.free.root root_beside g lt)
            (apart-frame held (header f) (header-beside k.slots k.threads f) g lt);
        lines = record {
          queue_held = queue-kept words (kept k.queue.root k.queue.count root_apart apart-queue);
          free_held = record {
            root_is = root_is ∙ held.lines.free_held.root_is;
            is = subst (IsLine new.cells free) (ap (λ (is : List ℕ). header f ∷ is) held.lines.free_held.is.linked) line_is;
            begun = (begun, held.lines.free_held.begun);
          };
          apart = each-apart f idle waiting not_waiting held.lines.apart;
          numbered = numbered words;
        };
      }

  -- the first waits no more
  module _ {new : CellRow} {queue : Line} (root_is : queue.root ≡ k.queue.root)
      (line_is : IsLine new.cells queue (drop 1 (items_of k.table.cells k.queue))) (words : KeepsWords k.table new)
      (kept : StaysApart k.table.cells new.cells k.queue.root) where
    queue_beside : IsBesideFrames k.slots k.threads k.queue.root
    queue_beside = subst (IsBesideFrames k.slots k.threads) (sym held.lines.queue_held.root_is) (root-beside k.slots k.threads 0 (omega arith))

    queue_apart : IsApart k.queue.root (from k.table.cells k.free.root k.free.count)
    queue_apart =
        subst (λ (j : ℕ). IsApart j (from k.table.cells k.free.root k.free.count)) (sym held.lines.queue_held.root_is)
        (root-apart-line held.lines.free_held 0 (omega arith) (omega arith))

    pub waits-no-more : Relinks k new queue k.free (drop 1 waiting) idle
    waits-no-more = record {
      words = words;
      lists = λ g lt. kept (start_of k.slots k.threads g) (length (frame_of k g).ready) (apart-frame held k.queue.root queue_beside g lt);
      lines = record {
        queue_held = record {
          root_is = root_is ∙ held.lines.queue_held.root_is;
          is =
              subst (IsLine new.cells queue)
              (ap (λ (is : List ℕ). drop 1 is) held.lines.queue_held.is.linked ∙ drop-map header 1 waiting) line_is;
          begun = all-dropped (λ g. g < k.begun) waiting held.lines.queue_held.begun;
        };
        free_held = free-kept words (kept k.free.root k.free.count queue_apart);
        apart = all-dropped (λ g. IsApart g idle) waiting held.lines.apart;
        numbered = numbered words;
      };
    }

  -- the first free number is free no more
  module _ {new : CellRow} {free : Line} (root_is : free.root ≡ k.free.root)
      (line_is : IsLine new.cells free (drop 1 (items_of k.table.cells k.free))) (words : KeepsWords k.table new)
      (kept : StaysApart k.table.cells new.cells k.free.root) where
    free_beside : IsBesideFrames k.slots k.threads k.free.root
    free_beside = subst (IsBesideFrames k.slots k.threads) (sym held.lines.free_held.root_is) (root-beside k.slots k.threads 1 (omega arith))

    free_apart : IsApart k.free.root (from k.table.cells k.queue.root k.queue.count)
    free_apart =
        subst (λ (j : ℕ). IsApart j (from k.table.cells k.queue.root k.queue.count)) (sym held.lines.free_held.root_is)
        (root-apart-line held.lines.queue_held 1 (omega arith) (omega arith))

    pub free-no-more : Relinks k new k.queue free waiting (drop 1 idle)
    free-no-more = record {
      words = words;
      lists = λ g lt. kept (start_of k.slots k.threads g) (length (frame_of k g).ready) (apart-frame held k.free.root free_beside g lt);
      lines = record {
        queue_held = queue-kept words (kept k.queue.root k.queue.count free_apart);
        free_held = record {
          root_is = root_is ∙ held.lines.free_held.root_is;
          is =
              subst (IsLine new.cells free)
              (ap (λ (is : List ℕ). drop 1 is) held.lines.free_held.is.linked ∙ drop-map header 1 idle) line_is;
          begun = all-dropped (λ g. g < k.begun) idle held.lines.free_held.begun;
        };
        apart =
            AllByRecursion-weaker (λ g. IsApart g idle) (λ g. IsApart g (drop 1 idle)) (λ g apart. apart-dropped g idle apart) waiting held.lines.apart;
        numbered = numbered words;
      };
    }

-- where the second header of a frame is, and that the frame is in no line
pub record IsAlone (k : CellFrames) (f i : ℕ) : Type 0 where
  pub begun : f < k.begun
  pub header_is : i ≡ second_header k.slots k.threads f
  pub not_waiting : IsApart f (numbers_of k.table.cells k.queue)
  pub not_free : IsApart f (numbers_of k.table.cells k.free)

pub is-alone : {k : CellFrames} → AreHeld k → {view : HeldFrames} → held_frames k ≡ view → (f i : ℕ) → f < length view.frames → IsInNoLine view f
    → i ≡ start_of view.slots view.threads f + 1 → IsAlone k f i
is-alone {k} held {view} view_is f i there apart i_is =
    let is : IsIn k view f = is-in held view_is f there in
    record {
      begun = is.begun;
      header_is = i_is ∙ ap (λ (n : ℕ). n + 1) is.start_is;
      not_waiting = queued-apart f (numbers_of k.table.cells k.queue) (ap (λ (v : HeldFrames). is_queued v.queue f) view_is ∙ apart.not_waiting);
      not_free = queued-apart f (numbers_of k.table.cells k.free) (ap (λ (v : HeldFrames). is_queued v.free f) view_is ∙ apart.not_free);
    }

-- ---- the mark of a frame is taken away

module _ {k : CellFrames} (held : AreHeld k) (f : ℕ) (begun : f < k.begun) {new : CellRow}
    (is : new ≡ record k.table { cells = with_words k.table.cells (second_header k.slots k.threads f) 0 f }) where
  marked_off : RewritesFrame k new f (frame_of k f) false
  marked_off =
      let h : ℕ = second_header k.slots k.threads f in
      let there : h < length k.table.cells =
      let fits = frame-fits k.slots k.threads f k.begun begun in
      omega (arith, fits, held.there) in
      let written = is-written k.table.cells h there 0 f in
      record {
        cells = with_words k.table.cells h 0 f;
        table_is = is;
        length_same = written.length_same;
        before = λ j lt. written.others j (omega (arith, lt));
        after = λ j le. written.others j (omega (arith, le));
        link_same = written.links h;
        number_is = written.second_is;
        mark_is = ap is_set written.first_is;
        holds = holds-still (held.each f begun) (with_words k.table.cells h 0 f) (λ j inside. written.others j inside.2);
      }

  -- all frames are held
  pub marked-off-held : AreHeld (record k { table = new })
  marked-off-held = rewritten-held held refl begun marked_off

  -- and are the same but for that one, which isn't live
  pub marked-off-view : held_frames (record k { table = new }) ≡ record (held_frames k) { lives = slice_set (held_frames k).lives f false }
  marked-off-view =
      let same : slice_set (held_frames k).frames f (frame_of k f) ≡ (held_frames k).frames =
      listed-set {x = frame_of k} {y = frame_of k} (record { there = begun; same = λ g lt other. refl }) no_frame in
      rewritten-view held refl begun marked_off
      ∙ ap (λ (l : List Frame). record (held_frames k) { frames = l; lives = slice_set (held_frames k).lives f false }) same
