use Rattle.std.proofs.Common.{◌∙◌, sym, ap, subst, ℕ, ◌+◌, [], ◌∷◌, ◌++◌, arith}
use Rattle.linked_cells.specs.Lists.{from, IsApart, StaysApartFromBoth}
use Rattle.linked_cells.specs.Lines.{IsLine, items_of, numbers_of}
use Rattle.tam_frames.specs.HeldFrames.{HeldFrames}
use Rattle.tam_frames.proofs.FrameCellLemmas.{kept, IsIn, is-in}
use Rattle.tam_frames.proofs.LineChanges.{Relinks, relinked-held, relinked-view}
use Rattle.tam_frames.proofs.WaitLemmas.{is-alone, header-there, apart-queue, queue-few, waits}
use Rattle.tam_frames.proofs.frame_cells.FrameCells.wait.Goals as goal

pub start-header-requires : goal.start-header-requires
start-header-requires c =
    let s = c.self.inside in
    let is : IsIn (kept s) c.args.self.now c.args.f = is-in c.self.invariant c.self.view_is c.args.f c.requires.there in
    record { room = is.room }

pub push_back-requires-clause-there : goal.push_back-requires-clause-there
push_back-requires-clause-there c =
    let a = is-alone c.self.invariant c.self.view_is c.args.f (c.start-header.result + 1) c.requires.there c.requires.apart
    (ap (λ (n : ℕ). n + 1) c.start-header.ensures.value) in
    let there = header-there c.self.invariant c.args.f a.begun a.not_waiting a.not_free in
    omega (arith, there, a.header_is)

pub push_back-requires-clause-apart : goal.push_back-requires-clause-apart
push_back-requires-clause-apart c =
    let s = c.self.inside in
    let a = is-alone c.self.invariant c.self.view_is c.args.f (c.start-header.result + 1) c.requires.there c.requires.apart
    (ap (λ (n : ℕ). n + 1) c.start-header.ensures.value) in
    subst (λ (i : ℕ). IsApart i (from s.table.cells s.queue.root s.queue.count)) (sym a.header_is)
    (apart-queue c.self.invariant c.args.f a.begun a.not_waiting a.not_free)

pub push_back-requires-clause-few : goal.push_back-requires-clause-few
push_back-requires-clause-few c =
    let a = is-alone c.self.invariant c.self.view_is c.args.f (c.start-header.result + 1) c.requires.there c.requires.apart
    (ap (λ (n : ℕ). n + 1) c.start-header.ensures.value) in
    queue-few c.self.invariant c.args.f a.begun a.not_waiting a.not_free

-- the line with it
relinks : (c : goal.After-push_back) → Relinks (kept c.self.inside) c.push_back.new.table c.push_back.new.self c.self.inside.free
    (numbers_of c.self.inside.table.cells c.self.inside.queue ++ c.args.f ∷ []) (numbers_of c.self.inside.table.cells c.self.inside.free)
relinks c =
    let s = c.self.inside in
    let a = is-alone c.self.invariant c.self.view_is c.args.f (c.start-header.result + 1) c.requires.there c.requires.apart
    (ap (λ (n : ℕ). n + 1) c.start-header.ensures.value) in
    waits c.self.invariant c.args.f a.begun a.not_waiting a.not_free c.push_back.ensures.root
    (subst (λ (i : ℕ). IsLine c.push_back.new.table.cells c.push_back.new.self (items_of s.table.cells s.queue ++ i ∷ [])) a.header_is
    c.push_back.ensures.line)
    c.push_back.ensures.words
    (subst (λ (i : ℕ). StaysApartFromBoth s.table.cells c.push_back.new.table.cells s.queue.last i) a.header_is c.push_back.ensures.kept)

pub invariant_of-self : goal.invariant_of-self
invariant_of-self c = relinked-held c.self.invariant (relinks c)

pub returns : goal.returns
returns c = record {
  value = relinked-view c.self.invariant (relinks c) ∙ ap (λ (v : HeldFrames). record v { queue = v.queue ++ c.args.f ∷ [] }) c.self.view_is;
}
