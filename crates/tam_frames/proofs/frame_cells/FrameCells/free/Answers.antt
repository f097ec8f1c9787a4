use Rattle.std.proofs.Common.{◌≡◌, ◌∙◌, sym, ap, subst, ℕ, ◌+◌, false, ◌∷◌, arith}
use Rattle.std.specs.Prelude.{slice_set}
use Rattle.linked_cells.specs.Cells.{with_words}
use Rattle.linked_cells.specs.Lists.{from, IsApart, StaysApartFromBoth}
use Rattle.linked_cells.specs.Lines.{IsLine, items_of, numbers_of}
use Rattle.tam_frames.specs.HeldFrames.{HeldFrames}
use Rattle.tam_frames.specs.FrameCells.{CellFrames, AreHeld, held_frames, second_header}
use Rattle.tam_frames.proofs.FrameCellLemmas.{kept, IsIn, is-in}
use Rattle.tam_frames.proofs.LineChanges.{Relinks, relinked-held, relinked-view}
use Rattle.tam_frames.proofs.WaitLemmas.{IsAlone, is-alone, header-there, apart-free, free-few, free-line, frees, marked-off-held, marked-off-view}
use Rattle.tam_frames.proofs.frame_cells.FrameCells.free.Goals as goal

pub start-header-requires : goal.start-header-requires
start-header-requires c =
    let s = c.self.inside in
    let is : IsIn (kept s) c.args.self.now c.args.f = is-in c.self.invariant c.self.view_is c.args.f c.requires.there in
    record { room = is.room }

pub set_words-requires : goal.set_words-requires
set_words-requires c =
    let a = is-alone c.self.invariant c.self.view_is c.args.f (c.start-header.result + 1) c.requires.there c.requires.apart
    (ap (λ (n : ℕ). n + 1) c.start-header.ensures.value) in
    let there = header-there c.self.invariant c.args.f a.begun a.not_waiting a.not_free in
    record { there = omega (arith, there, a.header_is) }

-- the frames without the mark
abbrev unmarked : goal.After-push_front-arg-2-1 → CellFrames
unmarked c = record (kept c.self.inside) { table = c.set_words.new.self }

-- they are held, and that frame is in no line
record IsUnmarked (c : goal.After-push_front-arg-2-1) : Type 0 where
  alone : IsAlone (unmarked c) c.args.f (c.start-header.result + 1)
  held : AreHeld (unmarked c)
  view : held_frames (unmarked c) ≡ record c.args.self.now { lives = slice_set c.args.self.now.lives c.args.f false }

is-unmarked : (c : goal.After-push_front-arg-2-1) → IsUnmarked c
is-unmarked c =
    let s = c.self.inside in
    let a = is-alone c.self.invariant c.self.view_is c.args.f (c.start-header.result + 1) c.requires.there c.requires.apart
    (ap (λ (n : ℕ). n + 1) c.start-header.ensures.value) in
    let table_is : c.set_words.new.self ≡ record s.table {
      cells = with_words s.table.cells (second_header s.shape.slots s.shape.threads c.args.f) 0
          c.args.f;
    } =
    c.set_words.ensures.value ∙ ap (λ (i : ℕ). record s.table { cells = with_words s.table.cells i 0 c.args.f }) a.header_is in
    let view = marked-off-view c.self.invariant c.args.f a.begun table_is in
    let queue_same : numbers_of s.table.cells s.queue ≡ numbers_of c.set_words.new.self.cells s.queue = ap (λ (v : HeldFrames). v.queue) (sym view) in
    let free_same : numbers_of s.table.cells s.free ≡ numbers_of c.set_words.new.self.cells s.free = ap (λ (v : HeldFrames). v.free) (sym view) in
    record {
      alone = record {
        begun = a.begun;
        header_is = a.header_is;
        not_waiting = subst (IsApart c.args.f) queue_same a.not_waiting;
        not_free = subst (IsApart c.args.f) free_same a.not_free;
      };
      held = marked-off-held c.self.invariant c.args.f a.begun table_is;
      view = view ∙ ap (λ (v : HeldFrames). record v { lives = slice_set v.lives c.args.f false }) c.self.view_is;
    }

pub push_front-requires-clause-line : goal.push_front-requires-clause-line
push_front-requires-clause-line c = let u = is-unmarked c in free-line u.held

pub push_front-requires-clause-there : goal.push_front-requires-clause-there
push_front-requires-clause-there c =
    let u = is-unmarked c in
    let there = header-there u.held c.args.f u.alone.begun u.alone.not_waiting u.alone.not_free in
    omega (arith, there, u.alone.header_is)

pub push_front-requires-clause-apart : goal.push_front-requires-clause-apart
push_front-requires-clause-apart c =
    let s = c.self.inside in
    let u = is-unmarked c in
    subst (λ (i : ℕ). IsApart i (from c.set_words.new.self.cells s.free.root s.free.count)) (sym u.alone.header_is)
    (apart-free u.held c.args.f u.alone.begun u.alone.not_waiting u.alone.not_free)

pub push_front-requires-clause-few : goal.push_front-requires-clause-few
push_front-requires-clause-few c = let u = is-unmarked c in free-few u.held c.args.f u.alone.begun u.alone.not_waiting u.alone.not_free

-- the line with its number
relinks : (c : goal.After-push_front) → Relinks (unmarked c.before) c.push_front.new.table c.self.inside.queue c.push_front.new.self
    (numbers_of c.set_words.new.self.cells c.self.inside.queue) (c.args.f ∷ numbers_of c.set_words.new.self.cells c.self.inside.free)
relinks c =
    let s = c.self.inside in
    let u = is-unmarked c.before in
    frees u.held c.args.f u.alone.begun u.alone.not_waiting u.alone.not_free c.push_front.ensures.root
    (subst (λ (i : ℕ). IsLine c.push_front.new.table.cells c.push_front.new.self (i ∷ items_of c.set_words.new.self.cells s.free)) u.alone.header_is
    c.push_front.ensures.line)
    c.push_front.ensures.words
    (subst (λ (i : ℕ). StaysApartFromBoth c.set_words.new.self.cells c.push_front.new.table.cells s.free.root i) u.alone.header_is
    c.push_front.ensures.kept)

pub invariant_of-self : goal.invariant_of-self
invariant_of-self c = let u = is-unmarked c.before in relinked-held u.held (relinks c)

pub returns : goal.returns
returns c =
    let u = is-unmarked c.before in
    record { value = relinked-view u.held (relinks c) ∙ ap (λ (v : HeldFrames). record v { free = c.args.f ∷ v.free }) u.view }
