use Rattle.std.proofs.Common.{◌∙◌, ◌-◌, sym, ap, subst, refl}
use Rattle.frame_tables.specs.FrameTables.{Frame}
use Rattle.tam_frames.specs.HeldFrames.{HeldFrames, held_at}
use Rattle.tam_frames.specs.Kept.{IsStored, stored}
use Rattle.tam_frames.proofs.SizeLemmas.{sized-lowered}
use Rattle.tam_frames.proofs.ChangeLemmas.{storage, row-within, sized, stored-with, view-with}
use Rattle.tam_frames.proofs.frame_store.FrameStore.lower.Goals as goal

pub lower-requires : goal.lower-requires
lower-requires c = record { there = row-within c.self.invariant c.self.view_is c.args.f c.requires.live }

pub invariant_of-self : goal.invariant_of-self
invariant_of-self c =
    let st = storage c.self.inside in
    let h : Frame = held_at st.held.frames c.args.f in
    subst (λ (now : HeldFrames). IsStored (record st { held = now })) (sym c.lower.ensures.value)
    (stored-with c.self.invariant c.self.view_is c.args.f c.requires.live (record h { owed = h.owed - c.args.n })
    (sized-lowered st.held.slots st.held.threads h (sized c.self.invariant c.self.view_is c.args.f c.requires.live) c.args.n))

pub returns : goal.returns
returns c =
    let st = storage c.self.inside in
    let h : Frame = held_at st.held.frames c.args.f in
    record {
      value = ap (λ (now : HeldFrames). stored (record st { held = now })) c.lower.ensures.value
          ∙ view-with c.self.invariant c.self.view_is c.args.f c.requires.live (record h { owed = h.owed - c.args.n })
          (λ (k : Frame). record k { owed = k.owed - c.args.n }) refl;
    }
