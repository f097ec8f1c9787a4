use Rattle.std.proofs.Common.{◌∙◌, ◌-◌, sym, ap, subst, List, Option, arith}
use Rattle.frame_tables.specs.FrameTables.{Frame, frame_at, given_back}
use Rattle.tam_frames.specs.HeldFrames.{HeldFrames}
use Rattle.tam_frames.specs.Kept.{IsStored, stored}
use Rattle.tam_frames.specs.StoredFrames.{StoredFrames, with_table}
use Rattle.tam_frames.proofs.ShownLemmas.{shown-free}
use Rattle.tam_frames.proofs.StoreLemmas.{some-used, stored-given}
use Rattle.tam_frames.proofs.ChangeLemmas.{storage, there, row-within, in-no-line}
use Rattle.tam_frames.proofs.frame_store.FrameStore.give.Goals as goal

pub overflow_sub-self : goal.overflow_sub-self
overflow_sub-self c =
    omega (
      arith,
      some-used c.self.invariant c.args.f (frame_at c.args.self.now.table c.args.f)
          (there c.self.invariant c.self.view_is c.args.f c.requires.live),
    )

pub free-requires : goal.free-requires
free-requires c = record {
  there = row-within c.self.invariant c.self.view_is c.args.f c.requires.live;
  apart = in-no-line c.self.invariant c.self.view_is c.args.f c.requires.live c.requires.apart;
}

pub invariant_of-self : goal.invariant_of-self
invariant_of-self c =
    let st = storage c.self.inside in
    subst (λ (now : HeldFrames). IsStored (record { held = now; used = st.used - 1; count = st.count })) (sym c.free.ensures.value)
    (stored-given c.self.invariant c.args.f (frame_at c.args.self.now.table c.args.f) (there c.self.invariant c.self.view_is c.args.f c.requires.live))

pub returns : goal.returns
returns c =
    let st = storage c.self.inside in
    record {
      value = ap (λ (now : HeldFrames). stored (record { held = now; used = st.used - 1; count = st.count })) c.free.ensures.value
          ∙ ap (λ (l : List (Option Frame)). with_table (stored st) (record (given_back (stored st).table c.args.f) { frames = l }))
          (shown-free st.held.lives st.held.frames c.args.f)
          ∙ ap (λ (v : StoredFrames). with_table v (given_back v.table c.args.f)) c.self.view_is;
    }
