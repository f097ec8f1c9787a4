use Rattle.std.proofs.Common.{◌≡◌, ◌∙◌, ◌<◌, sym, ap, subst, refl, Some, arith}
use Rattle.std.specs.Prelude.{slice_get, slice_index}
use Rattle.std.proofs.lemmas.Option.{slice_get-get_or}
use Rattle.frame_tables.specs.FrameTables.{Frame, spend_answer}
use Rattle.tam_frames.specs.HeldFrames.{HeldFrames, held_at, wakes}
use Rattle.tam_frames.specs.Kept.{IsStored, stored}
use Rattle.tam_frames.specs.StoredFrames.{StoredFrames, frame_spent}
use Rattle.tam_frames.proofs.SizeLemmas.{sized-spent}
use Rattle.tam_frames.proofs.ChangeLemmas.{storage, row-within, held, sized, stored-with, view-spent-with}
use Rattle.tam_frames.proofs.frame_store.FrameStore.spend.Goals as goal

pub spend-requires-clause-there : goal.spend-requires-clause-there
spend-requires-clause-there c = row-within c.self.invariant c.self.view_is c.args.f c.requires.live

pub spend-requires-clause-thread : goal.spend-requires-clause-thread
spend-requires-clause-thread c = omega (arith, c.requires.thread, ap (λ (v : StoredFrames). v.threads) c.self.view_is)

pub invariant_of-self : goal.invariant_of-self
invariant_of-self c =
    let st = storage c.self.inside in
    let h : Frame = held_at st.held.frames c.args.f in
    let known : c.args.thread < st.held.threads = omega (arith, c.requires.thread, ap (λ (v : StoredFrames). v.threads) c.self.view_is) in
    subst (λ (now : HeldFrames). IsStored (record st { held = now })) (sym c.spend.ensures.value)
    (stored-with c.self.invariant c.self.view_is c.args.f c.requires.live (frame_spent h c.args.thread)
    (sized-spent st.held.slots st.held.threads h (sized c.self.invariant c.self.view_is c.args.f c.requires.live) c.args.thread
    (slice_index h.counts c.args.thread) known))

pub returns-clause-answer : goal.returns-clause-answer
returns-clause-answer c =
    c.spend.ensures.answer
    ∙ ap (λ (h : Frame). spend_answer (slice_index h.counts c.args.thread)) (held c.self.invariant c.self.view_is c.args.f c.requires.live)

pub returns-clause-woken : goal.returns-clause-woken
returns-clause-woken c =
    c.spend.ensures.woken ∙ ap (λ (h : Frame). wakes h c.args.thread) (held c.self.invariant c.self.view_is c.args.f c.requires.live)

pub returns-clause-value : goal.returns-clause-value
returns-clause-value c =
    let st = storage c.self.inside in
    ap (λ (now : HeldFrames). stored (record st { held = now })) c.spend.ensures.value
    ∙ view-spent-with c.self.invariant c.self.view_is c.args.f c.requires.live (frame_spent (held_at st.held.frames c.args.f) c.args.thread)
    c.args.thread refl

pub returns-clause-counted : goal.returns-clause-counted
returns-clause-counted c =
    let st = storage c.self.inside in
    let size = sized c.self.invariant c.self.view_is c.args.f c.requires.live in
    let threads_are = ap (λ (v : StoredFrames). v.threads) c.self.view_is in
    subst (λ (h : Frame). slice_get h.counts c.args.thread ≡ Some (slice_index h.counts c.args.thread))
    (held c.self.invariant c.self.view_is c.args.f c.requires.live)
    (slice_get-get_or (held_at st.held.frames c.args.f).counts c.args.thread 0 (omega (arith, c.requires.thread, threads_are, size.threads_there)))
