use Rattle.std.proofs.Common.{◌≡◌, ◌∙◌, sym, ap, ap₂, subst, ℕ, ◌+◌, ◌≤◌, List, length, arith}
use Rattle.linked_cells.specs.Cells.{CellRow, LinkedCell}
use Rattle.frame_tables.specs.FrameTables.{new_frame}
use Rattle.tam_frames.specs.HeldFrames.{HeldFrames, begun_with}
use Rattle.tam_frames.specs.FrameCells.{CellFrames, held_frames}
use Rattle.tam_frames.proofs.FrameCellLemmas.{kept, IsNext, is-next, count-is}
use Rattle.tam_frames.proofs.PutLemmas.{IsPut, is-put}
use Rattle.tam_frames.proofs.FrameBegins.{begins-by, again-held, again-view, more-held, more-view}
use Rattle.tam_frames.proofs.frame_cells.FrameCells.begin.Goals as goal

-- what is kept and what is seen have one size
sizes : (view : HeldFrames) (k : CellFrames) → held_frames k ≡ view → (f : ℕ) (counts : List ℕ)
    → begun_with view f (new_frame k.slots k.threads counts) ≡ begun_with view f (new_frame view.slots view.threads counts)
sizes view k view_is f counts =
    ap₂ (λ (m n : ℕ). begun_with view f (new_frame m n counts)) (ap (λ (v : HeldFrames). v.slots) view_is) (ap (λ (v : HeldFrames). v.threads) view_is)

pub put-requires-clause-there : goal.put-requires-clause-there
put-requires-clause-there c =
    let s = c.self.inside in
    let at : IsNext (kept s) c.args.self.now c.args.f = is-next c.self.invariant c.self.view_is c.args.f c.requires.there in
    omega (arith, c.start-start.ensures.value, at.start_is, at.next)

pub put-requires-2-clause-there : goal.put-requires-2-clause-there
put-requires-2-clause-there c =
    let s = c.self.inside in
    let at : IsNext (kept s) c.args.self.now c.args.f = is-next c.self.invariant c.self.view_is c.args.f c.requires.there in
    let next : c.start-start.result ≤ length s.table.cells = omega (arith, c.start-start.ensures.value, at.start_is, at.next) in
    let header : IsPut s.table.cells c.put.new.self.cells c.start-start.result (length c.args.counts.now) 0 =
    subst (λ (l : List LinkedCell). IsPut s.table.cells l c.start-start.result (length c.args.counts.now) 0)
    (sym (ap (λ (r : CellRow). r.cells) c.put.ensures.value)) (is-put s.table.cells c.start-start.result (length c.args.counts.now) 0 next) in
    omega (arith, header.length_is)

pub put_numbered-requires-clause-there : goal.put_numbered-requires-clause-there
put_numbered-requires-clause-there c =
    let s = c.self.inside in
    let at : IsNext (kept s) c.args.self.now c.args.f = is-next c.self.invariant c.self.view_is c.args.f c.requires.there in
    let next : c.start-start.result ≤ length s.table.cells = omega (arith, c.start-start.ensures.value, at.start_is, at.next) in
    let header : IsPut s.table.cells c.put.new.self.cells c.start-start.result (length c.args.counts.now) 0 =
    subst (λ (l : List LinkedCell). IsPut s.table.cells l c.start-start.result (length c.args.counts.now) 0)
    (sym (ap (λ (r : CellRow). r.cells) c.put.ensures.value)) (is-put s.table.cells c.start-start.result (length c.args.counts.now) 0 next) in
    let second : IsPut c.put.new.self.cells c.put-2.new.self.cells (c.start-start.result + 1) 1 c.args.f =
    subst (λ (l : List LinkedCell). IsPut c.put.new.self.cells l (c.start-start.result + 1) 1 c.args.f)
    (sym (ap (λ (r : CellRow). r.cells) c.put-2.ensures.value))
    (is-put c.put.new.self.cells (c.start-start.result + 1) 1 c.args.f (omega (arith, header.length_is))) in
    omega (arith, second.length_is)

pub invariant_of-self : goal.invariant_of-self
invariant_of-self c =
    more-held c.self.invariant c.self.view_is
    (begins-by c.self.invariant c.self.view_is c.args.f c.start-start.result c.args.counts.now c.requires.there c.requires.few
    c.start-start.ensures.value c.put.ensures.value c.put-2.ensures.value c.threads-threads.ensures.value c.slots.ensures.value
    c.put_numbered.ensures.put c.put_numbered.ensures.kept
    c.put_numbered-2.ensures.put c.put_numbered-2.ensures.kept)
    c.requires.room (omega (arith, c.if-f-self.true))

pub invariant_of-self-else-f-self : goal.invariant_of-self-else-f-self
invariant_of-self-else-f-self c =
    again-held c.self.invariant c.self.view_is
    (begins-by c.self.invariant c.self.view_is c.args.f c.start-start.result c.args.counts.now c.requires.there c.requires.few
    c.start-start.ensures.value c.put.ensures.value c.put-2.ensures.value c.threads-threads.ensures.value c.slots.ensures.value
    c.put_numbered.ensures.put c.put_numbered.ensures.kept
    c.put_numbered-2.ensures.put c.put_numbered-2.ensures.kept)
    (omega (arith, c.if-f-self.false, c.requires.there, count-is c.self.invariant c.self.view_is))

pub returns-then-f-self : goal.returns-then-f-self
returns-then-f-self c = record {
  value =
      more-view c.self.invariant c.self.view_is
      (begins-by c.self.invariant c.self.view_is c.args.f c.start-start.result c.args.counts.now c.requires.there c.requires.few
      c.start-start.ensures.value c.put.ensures.value c.put-2.ensures.value c.threads-threads.ensures.value c.slots.ensures.value
      c.put_numbered.ensures.put c.put_numbered.ensures.kept
      c.put_numbered-2.ensures.put c.put_numbered-2.ensures.kept)
      c.requires.room (omega (arith, c.if-f-self.true))
      ∙ sizes c.args.self.now (kept c.self.inside) c.self.view_is c.args.f c.args.counts.now;
}

pub returns-else-f-self : goal.returns-else-f-self
returns-else-f-self c = record {
  value =
      again-view c.self.invariant c.self.view_is
      (begins-by c.self.invariant c.self.view_is c.args.f c.start-start.result c.args.counts.now c.requires.there c.requires.few
      c.start-start.ensures.value c.put.ensures.value c.put-2.ensures.value c.threads-threads.ensures.value c.slots.ensures.value
      c.put_numbered.ensures.put c.put_numbered.ensures.kept
      c.put_numbered-2.ensures.put c.put_numbered-2.ensures.kept)
      (omega (arith, c.if-f-self.false, c.requires.there, count-is c.self.invariant c.self.view_is))
      ∙ sizes c.args.self.now (kept c.self.inside) c.self.view_is c.args.f c.args.counts.now;
}
