use Rattle.std.proofs.Common.{◌∙◌, sym, ap, subst, refl, arith}
use Rattle.std.specs.Prelude.{slice_set}
use Rattle.frame_tables.specs.FrameTables.{Frame}
use Rattle.tam_frames.specs.HeldFrames.{HeldFrames, held_at}
use Rattle.tam_frames.specs.Kept.{IsStored, stored}
use Rattle.tam_frames.specs.StoredFrames.{StoredFrames}
use Rattle.tam_frames.proofs.SizeLemmas.{sized-slot}
use Rattle.tam_frames.proofs.ChangeLemmas.{storage, row-within, sized, stored-with, view-with}
use Rattle.tam_frames.proofs.frame_store.FrameStore.set.Goals as goal

pub set-requires-clause-there : goal.set-requires-clause-there
set-requires-clause-there c = row-within c.self.invariant c.self.view_is c.args.f c.requires.live

pub set-requires-clause-slot : goal.set-requires-clause-slot
set-requires-clause-slot c = omega (arith, c.requires.slot, ap (λ (v : StoredFrames). v.slots) c.self.view_is)

pub invariant_of-self : goal.invariant_of-self
invariant_of-self c =
    let st = storage c.self.inside in
    let h : Frame = held_at st.held.frames c.args.f in
    subst (λ (now : HeldFrames). IsStored (record st { held = now })) (sym c.set.ensures.value)
    (stored-with c.self.invariant c.self.view_is c.args.f c.requires.live (record h { slots = slice_set h.slots c.args.slot c.args.word })
    (sized-slot st.held.slots st.held.threads h (sized c.self.invariant c.self.view_is c.args.f c.requires.live) c.args.slot c.args.word))

pub returns : goal.returns
returns c =
    let st = storage c.self.inside in
    let h : Frame = held_at st.held.frames c.args.f in
    record {
      value = ap (λ (now : HeldFrames). stored (record st { held = now })) c.set.ensures.value
          ∙ view-with c.self.invariant c.self.view_is c.args.f c.requires.live (record h { slots = slice_set h.slots c.args.slot c.args.word })
          (λ (k : Frame). record k { slots = slice_set k.slots c.args.slot c.args.word }) refl;
    }
