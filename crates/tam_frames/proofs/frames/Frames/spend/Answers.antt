use Rattle.std.proofs.Common.{◌≡◌, ◌∙◌, ap, sym, subst, refl, ℕ, zero, suc, Bool, true, false, not, eqb, List, ◌++◌, ◌∷◌, [], Option, Some, None, inl, inr}
use Rattle.std.specs.Option.{option_eq}
use Rattle.frame_tables.specs.FrameTables.{Frame, FrameTable, is_live, is_current, count_in, spent_of}
use Rattle.tam_frames.specs.StoredFrames.{StoredFrames, with_queue, with_current}
use Rattle.tam_frames.specs.Kept.{AreInTurn}
use Rattle.tam_frames.proofs.LiveLemmas.{live-spent}
use Rattle.tam_frames.proofs.TurnLemmas.{turns-spent, turns-woken}
use Rattle.tam_frames.proofs.frames.Frames.spend.Goals as goal

-- the test against the current frame
is-current : (current : Option ℕ) (f : ℕ) → option_eq eqb current (Some f) ≡ is_current current f
is-current None f = refl
is-current (Some c) f = refl

-- a frame that the test takes for another isn't current
not-true : (b : Bool) → not b ≡ true → b ≡ false
not-true true is = cc
not-true false is = refl

-- and one that it takes for the same is
not-false : (b : Bool) → not b ≡ false → b ≡ true
not-false true is = refl
not-false false is = cc

-- spending does the same to the frames whose turn it ever is
spent-frames : (s : FrameTable) (current : Option ℕ) (f t n : ℕ) → (spent_of (record s { current = current }) f t n).frames ≡ (spent_of s f t n).frames
spent-frames s current f t zero = refl
spent-frames s current f t (suc zero) = refl
spent-frames s current f t (suc (suc n)) = refl

pub wait-requires-clause-live : goal.wait-requires-clause-live
wait-requires-clause-live c =
    let store = c.self.inside.store in
    let f = c.args.f in
    ap (λ (v : StoredFrames). is_live v.table f) c.spend-answer.ensures.value
    ∙ live-spent store.table f f c.args.thread (count_in store.table f c.args.thread)
    ∙ ap (λ (v : StoredFrames). is_live v.table f) c.self.view_is ∙ c.requires.live

pub invariant_of-self : goal.invariant_of-self
invariant_of-self c =
    let s = c.self.inside in
    let f = c.args.f in
    let live : is_live s.store.table f ≡ true = ap (λ (v : StoredFrames). is_live v.table f) c.self.view_is ∙ c.requires.live in
    let other = not-true (is_current s.current f) (ap not (sym (is-current s.current f)) ∙ sym c.ne.ensures ∙ c.if-ne.true) in
    let woken = sym c.spend-answer.ensures.woken ∙ c.if-woken.true in
    subst (λ (store : StoredFrames). AreInTurn (with_current store s.current).table)
    (sym (c.wait.ensures.value ∙ ap (λ (v : StoredFrames). with_queue v (v.table.queue ++ f ∷ [])) c.spend-answer.ensures.value))
    (subst (λ (l : List (Option Frame)). AreInTurn (record (with_current s.store s.current).table { frames = l; queue = s.store.table.queue ++ f ∷ [] }))
    (spent-frames s.store.table s.current f c.args.thread (count_in s.store.table f c.args.thread))
    (turns-woken c.self.invariant f c.args.thread live other woken))

pub invariant_of-self-else-ne : goal.invariant_of-self-else-ne
invariant_of-self-else-ne c =
    let s = c.self.inside in
    let f = c.args.f in
    let live : is_live s.store.table f ≡ true = ap (λ (v : StoredFrames). is_live v.table f) c.self.view_is ∙ c.requires.live in
    let same = not-false (is_current s.current f) (ap not (sym (is-current s.current f)) ∙ sym c.ne.ensures ∙ c.if-ne.false) in
    subst (λ (store : StoredFrames). AreInTurn (with_current store s.current).table) (sym c.spend-answer.ensures.value)
    (subst (λ (l : List (Option Frame)). AreInTurn (record (with_current s.store s.current).table { frames = l }))
    (spent-frames s.store.table s.current f c.args.thread (count_in s.store.table f c.args.thread))
    (turns-spent c.self.invariant f c.args.thread live (inl same)))

pub invariant_of-self-else-woken : goal.invariant_of-self-else-woken
invariant_of-self-else-woken c =
    let s = c.self.inside in
    let f = c.args.f in
    let live : is_live s.store.table f ≡ true = ap (λ (v : StoredFrames). is_live v.table f) c.self.view_is ∙ c.requires.live in
    subst (λ (store : StoredFrames). AreInTurn (with_current store s.current).table) (sym c.spend-answer.ensures.value)
    (subst (λ (l : List (Option Frame)). AreInTurn (record (with_current s.store s.current).table { frames = l }))
    (spent-frames s.store.table s.current f c.args.thread (count_in s.store.table f c.args.thread))
    (turns-spent c.self.invariant f c.args.thread live (inr (sym c.spend-answer.ensures.woken ∙ c.if-woken.false))))
