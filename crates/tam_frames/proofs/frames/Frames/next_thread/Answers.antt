use Rattle.std.proofs.Common.{◌∙◌, sym, ap, subst, refl, ℕ, Option, arith}
use Rattle.frame_tables.specs.FrameTables.{FrameTable, is_live, is_current, current_of, next_thread}
use Rattle.tam_frames.specs.StoredFrames.{StoredFrames, with_table, with_current, frame_popped}
use Rattle.tam_frames.specs.Kept.{AreInTurn}
use Rattle.tam_frames.proofs.QueueLemmas.{eq-number}
use Rattle.tam_frames.proofs.LiveLemmas.{live-changed}
use Rattle.tam_frames.proofs.TurnLemmas.{turns-current}
use Rattle.tam_frames.proofs.NextLemmas.{next-current, idle-current, popped-none}
use Rattle.tam_frames.proofs.frames.Frames.next_thread.Goals as goal

pub invariant_of-self : goal.invariant_of-self
invariant_of-self c =
    let s = c.self.inside in
    let f = c.in-Some.f in
    let current = ap (λ (o : Option ℕ). is_current o f) c.in-Some.is ∙ eq-number f f refl in
    subst (λ (store : StoredFrames). AreInTurn (with_current store s.current).table) (sym c.pop.ensures.rest)
    (turns-current c.self.invariant f current frame_popped)

pub invariant_of-self-in-None : goal.invariant_of-self-in-None
invariant_of-self-in-None c =
    let s = c.self.inside in
    let none = popped-none s.store.table c.in-Some.f (sym c.pop.ensures.value ∙ c.in-None.is) in
    subst (λ (store : StoredFrames). AreInTurn (with_current store s.current).table)
    (sym (c.pop.ensures.rest ∙ ap (λ (t : FrameTable). with_table s.store t) none)) c.self.invariant

pub begin-requires-in-None : goal.begin-requires-in-None
begin-requires-in-None c =
    let s = c.self.inside in
    let f = c.in-Some.f in
    let none = sym c.pop.ensures.value ∙ c.in-None.is in
    let kept = c.pop.ensures.rest ∙ ap (λ (t : FrameTable). with_table s.store t) (popped-none s.store.table f none) in
    record {
      idle = ap (λ (store : StoredFrames). current_of (with_current store s.current).table s.current) kept
          ∙ idle-current (with_current s.store s.current).table f c.in-Some.is none;
    }

pub returns-in-Some-pop-clause-after : goal.returns-in-Some-pop-clause-after
returns-in-Some-pop-clause-after c =
    let s = c.self.inside in
    let v = with_current s.store s.current in
    let next = next-current v.table c.in-Some.f c.in-Some-pop.thread c.in-Some.is (sym c.pop.ensures.value ∙ c.in-Some-pop.is) in
    ap (λ (store : StoredFrames). with_current store s.current) c.pop.ensures.rest
    ∙ ap (λ (p : Option (ℕ × ℕ) × FrameTable). with_table v p.1) (sym next)
    ∙ ap (λ (now : StoredFrames). with_table now (next_thread now.table).1) c.self.view_is

pub returns-in-Some-pop-clause-known : goal.returns-in-Some-pop-clause-known
returns-in-Some-pop-clause-known c =
    let s = c.self.inside in
    let f = c.in-Some.f in
    let current = ap (λ (o : Option ℕ). is_current o f) c.in-Some.is ∙ eq-number f f refl in (
      ap (λ (store : StoredFrames). is_live store.table f) c.pop.ensures.rest ∙ live-changed s.store.table f f frame_popped
          ∙ c.self.invariant.live f current,
      omega (arith, c.in-Some-pop.ensures.known, ap (λ (v : StoredFrames). v.threads) c.self.view_is),
    )

pub returns-in-None-clause-value : goal.returns-in-None-clause-value
returns-in-None-clause-value c =
    let s = c.self.inside in
    let none = popped-none s.store.table c.in-Some.f (sym c.pop.ensures.value ∙ c.in-None.is) in
    let kept = c.pop.ensures.rest ∙ ap (λ (t : FrameTable). with_table s.store t) none in
    c.begin-in-None.ensures.value
    ∙ ap (λ (v : StoredFrames). (next_thread v.table).0) (ap (λ (store : StoredFrames). with_current store s.current) kept ∙ c.self.view_is)

pub returns-in-None-clause-after : goal.returns-in-None-clause-after
returns-in-None-clause-after c =
    let s = c.self.inside in
    let none = popped-none s.store.table c.in-Some.f (sym c.pop.ensures.value ∙ c.in-None.is) in
    let kept = c.pop.ensures.rest ∙ ap (λ (t : FrameTable). with_table s.store t) none in
    c.begin-in-None.ensures.after
    ∙ ap (λ (v : StoredFrames). with_table v (next_thread v.table).1)
    (ap (λ (store : StoredFrames). with_current store s.current) kept ∙ c.self.view_is)
