use Rattle.std.proofs.Common.{◌≡◌, ◌∙◌, sym, ap, ℕ, ◌+◌, ◌<◌, ◌≤◌, Bool, false, length, not, nat_eq, arith}
use Rattle.std.specs.Prelude.{get_or}
use Rattle.std.proofs.lemmas.Bool.{le-ltb}
use Rattle.std.proofs.lemmas.List.{get_or_past}
use Rattle.linked_cells.specs.Cells.{cell_at}
use Rattle.tam_frames.specs.HeldFrames.{HeldFrames}
use Rattle.tam_frames.specs.FrameCells.{CellFrames, is_set, second_header}
use Rattle.tam_frames.proofs.FrameCellLemmas.{kept, IsIn, is-in, count-is}
use Rattle.tam_frames.proofs.ListedLemmas.{length-listed, get_or-listed}
use Rattle.tam_frames.proofs.frame_cells.FrameCells.is_live.Goals as goal

-- whether frame g is marked live
abbrev mark : CellFrames → ℕ → Bool
mark k g = is_set (cell_at k.table.cells (second_header k.slots k.threads g)).first

pub returns-then-f-self : goal.returns-then-f-self
returns-then-f-self c =
    let s = c.self.inside in
    let begun : c.args.f < s.begun = omega (arith, c.if-f-self.true) in
    let there : c.args.f < length c.args.self.now.frames = omega (arith, begun, count-is c.self.invariant c.self.view_is) in
    let is : IsIn (kept s) c.args.self.now c.args.f = is-in c.self.invariant c.self.view_is c.args.f there in
    let cell_is : c.start.result + 1 ≡ second_header s.shape.slots s.shape.threads c.args.f = omega (arith, c.start.ensures.value, is.start_is) in
    record {
      value = ap (λ (n : ℕ). not (nat_eq n 0)) (c.words.ensures.first ∙ ap (λ (i : ℕ). (cell_at s.table.cells i).first) cell_is)
          ∙ sym (get_or-listed s.begun (mark (kept s)) c.args.f false begun) ∙ ap (λ (v : HeldFrames). get_or v.lives c.args.f false) c.self.view_is;
    }

pub returns-else-f-self : goal.returns-else-f-self
returns-else-f-self c =
    let s = c.self.inside in
    let past : s.begun ≤ c.args.f = omega (arith, c.if-f-self.false) in
    let long : length c.args.self.now.lives ≡ s.begun =
    ap (λ (v : HeldFrames). length v.lives) (sym c.self.view_is) ∙ length-listed s.begun (mark (kept s)) in
    record { value = le-ltb c.args.f s.begun past ∙ sym (get_or_past c.args.self.now.lives c.args.f false (omega (arith, long, past))) }
