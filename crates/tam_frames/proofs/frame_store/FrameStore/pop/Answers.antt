use Rattle.std.proofs.Common.{◌≡◌, ◌∙◌, ◌<◌, sym, ap, subst, refl, ℕ, List, [], ◌∷◌, Option, Some}
use Rattle.std.specs.Prelude.{slice_get, IfSome}
use Rattle.frame_tables.specs.FrameTables.{Frame}
use Rattle.tam_frames.specs.HeldFrames.{HeldFrames, held_at}
use Rattle.tam_frames.specs.Kept.{IsStored, stored}
use Rattle.tam_frames.specs.StoredFrames.{StoredFrames, frame_popped}
use Rattle.tam_frames.proofs.SizeLemmas.{sized-popped}
use Rattle.tam_frames.proofs.ChangeLemmas.{storage, row-within, held, sized, stored-with, view-with}
use Rattle.tam_frames.proofs.frame_store.FrameStore.pop.Goals as goal

pub pop-requires : goal.pop-requires
pop-requires c = record { there = row-within c.self.invariant c.self.view_is c.args.f c.requires.live }

pub invariant_of-self : goal.invariant_of-self
invariant_of-self c =
    let st = storage c.self.inside in
    let h : Frame = held_at st.held.frames c.args.f in
    subst (λ (now : HeldFrames). IsStored (record st { held = now })) (sym c.pop.ensures.rest)
    (stored-with c.self.invariant c.self.view_is c.args.f c.requires.live (frame_popped h)
    (sized-popped st.held.slots st.held.threads h (sized c.self.invariant c.self.view_is c.args.f c.requires.live)))

pub returns-clause-value : goal.returns-clause-value
returns-clause-value c =
    c.pop.ensures.value ∙ ap (λ (h : Frame). slice_get h.ready 0) (held c.self.invariant c.self.view_is c.args.f c.requires.live)

pub returns-clause-rest : goal.returns-clause-rest
returns-clause-rest c =
    let st = storage c.self.inside in
    ap (λ (now : HeldFrames). stored (record st { held = now })) c.pop.ensures.rest
    ∙ view-with c.self.invariant c.self.view_is c.args.f c.requires.live (frame_popped (held_at st.held.frames c.args.f)) frame_popped refl

-- the first of a list is below a number that all are below
first-below : (ready : List ℕ) (n : ℕ) → ((i t : ℕ) → slice_get ready i ≡ Some t → t < n) → IfSome (slice_get ready 0) (λ t. t < n)
first-below [] n each = tt
first-below (t ∷ ready) n each = each 0 t refl

pub returns-clause-known : goal.returns-clause-known
returns-clause-known c =
    let st = storage c.self.inside in
    let ready = (held_at st.held.frames c.args.f).ready in
    let size = sized c.self.invariant c.self.view_is c.args.f c.requires.live in
    subst (λ (n : ℕ). IfSome c.pop.result (λ t. t < n)) (ap (λ (v : StoredFrames). v.threads) c.self.view_is)
    (subst (λ (o : Option ℕ). IfSome o (λ t. t < st.held.threads)) (sym c.pop.ensures.value) (first-below ready st.held.threads size.ready_there))
