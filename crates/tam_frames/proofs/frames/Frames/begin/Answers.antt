use Rattle.std.proofs.Common.{◌≡◌, ◌∙◌, sym, ap, ap₂, subst, refl, ℕ, drop, Option, arith}
use Rattle.std.specs.Prelude.{slice_get}
use Rattle.frame_tables.specs.FrameTables.{FrameTable, is_live, is_current, frame_at, current_of, next_thread}
use Rattle.tam_frames.specs.StoredFrames.{StoredFrames, with_table, with_queue, with_current, popped, frame_popped}
use Rattle.tam_frames.specs.Kept.{AreInTurn}
use Rattle.tam_frames.proofs.QueueLemmas.{eq-number}
use Rattle.tam_frames.proofs.TableLemmas.{busy-live}
use Rattle.tam_frames.proofs.LiveLemmas.{live-changed}
use Rattle.tam_frames.proofs.TurnLemmas.{turns-current}
use Rattle.tam_frames.proofs.NextLemmas.{turned, next-turned, turned-busy, turns-turned}
use Rattle.tam_frames.proofs.frames.Frames.begin.Goals as goal

-- the turn of frame f has begun, and a thread of it is given
given-view : (store : StoredFrames) (old : Option ℕ) (f : ℕ) {mid new : StoredFrames} {turn : Option ℕ} → mid ≡ with_queue store (drop 1 store.table.queue)
    → turn ≡ slice_get store.table.queue 0 → new ≡ with_table mid (popped mid.table f)
    → with_current new turn ≡ with_table (with_current store old) (popped (turned (with_current store old).table) f)
given-view store old f {turn = turn} mid_is turn_is new_is =
    ap (λ (s : StoredFrames). with_current s turn) new_is
    ∙ ap (λ (v : StoredFrames). with_table v (popped v.table f)) (ap₂ (λ (s : StoredFrames) (o : Option ℕ). with_current s o) mid_is turn_is)

pub invariant_of-self-2 : goal.invariant_of-self-2
invariant_of-self-2 c =
    let s = c.self.inside in
    let f = c.in_ok-f.f in
    let next = c.next_waiting-self-inside in
    let idle = ap (λ (v : StoredFrames). current_of v.table v.table.current) c.self.view_is ∙ c.requires.idle in
    let first = sym next.ensures.value ∙ c.in_ok-f.was in
    let current = ap (λ (o : Option ℕ). is_current o f) first ∙ eq-number f f refl in
    subst (λ (v : StoredFrames). AreInTurn v.table) (sym (given-view s.store s.current f next.ensures.rest next.ensures.value c.pop.ensures.rest))
    (turns-current (turns-turned c.self.invariant idle) f current frame_popped)

pub returns-clause-after : goal.returns-clause-after
returns-clause-after c =
    let s = c.self.inside in
    let f = c.in_ok-f.f in
    let next = c.next_waiting-self-inside in
    let v = with_current s.store s.current in
    let idle = ap (λ (now : StoredFrames). current_of now.table now.table.current) c.self.view_is ∙ c.requires.idle in
    let first = sym next.ensures.value ∙ c.in_ok-f.was in
    let ready = ap (λ (store : StoredFrames). slice_get (frame_at store.table f).ready 0) (sym next.ensures.rest) ∙ sym c.pop.ensures.value ∙
    c.in_ok-thread.was in
    given-view s.store s.current f next.ensures.rest next.ensures.value c.pop.ensures.rest
    ∙ ap (λ (p : Option (ℕ × ℕ) × FrameTable). with_table v p.1) (sym (next-turned v.table idle f c.in_ok-thread.thread first ready))
    ∙ ap (λ (now : StoredFrames). with_table now (next_thread now.table).1) c.self.view_is

pub returns-clause-known : goal.returns-clause-known
returns-clause-known c =
    let s = c.self.inside in
    let f = c.in_ok-f.f in
    let next = c.next_waiting-self-inside in
    let t : FrameTable = (with_current s.store s.current).table in
    let idle = ap (λ (v : StoredFrames). current_of v.table v.table.current) c.self.view_is ∙ c.requires.idle in
    let first = sym next.ensures.value ∙ c.in_ok-f.was in
    let threads_are = ap (λ (store : StoredFrames). store.threads) next.ensures.rest ∙ ap (λ (v : StoredFrames). v.threads) c.self.view_is in (
      ap (λ (v : StoredFrames). is_live v.table f) (given-view s.store s.current f next.ensures.rest next.ensures.value c.pop.ensures.rest)
          ∙ live-changed (turned t) f f frame_popped ∙ busy-live t f (turned-busy c.self.invariant idle f first),
      omega (arith, c.in_ok-thread.ensures.known, threads_are),
    )
