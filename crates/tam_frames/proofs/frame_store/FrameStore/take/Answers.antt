use Rattle.std.proofs.Common.{◌≡◌, ◌≢◌, ◌∙◌, sym, ap, subst, ℕ, ◌+◌, List, drop, length, arith}
use Rattle.std.specs.Prelude.{slice_get}
use Rattle.frame_tables.specs.FrameTables.{Frame, FrameTable, is_live, is_some_frame, next_number, next_number_of, new_frame, taken}
use Rattle.tam_frames.specs.HeldFrames.{HeldFrames, begun_with}
use Rattle.tam_frames.specs.Kept.{Storage, IsStored, shown, stored}
use Rattle.tam_frames.specs.StoredFrames.{StoredFrames, with_table}
use Rattle.tam_frames.proofs.SizeLemmas.{sized-new}
use Rattle.tam_frames.proofs.StoreLemmas.{IsTaken, with_taken, is-taken, next-free, used-few, length-places}
use Rattle.tam_frames.proofs.ChangeLemmas.{storage}
use Rattle.tam_frames.proofs.frame_store.FrameStore.take.Goals as goal

-- a new frame of a storage
abbrev new_of : Storage → List ℕ → Frame
new_of s counts = new_frame s.held.slots s.held.threads counts

-- where not all are live, one is taken for the next number
next-taken : {s : Storage} → IsStored s → s.used ≢ s.count → (counts : List ℕ) (n : ℕ) → n ≡ next_number_of s.held.free (length s.held.frames)
    → IsTaken s (new_of s counts) n (drop 1 s.held.free)
next-taken {s} is room counts n next =
    subst (λ (k : ℕ). IsTaken s (new_of s counts) k (drop 1 s.held.free)) (sym next)
    (is-taken is (new_of s counts) (sized-new s.held.slots s.held.threads counts) (omega (arith, used-few is, room)))

-- what is kept then
held-taken : (s : Storage) (counts : List ℕ) (n : ℕ) {mid new : HeldFrames} → mid ≡ record s.held { free = drop 1 s.held.free }
    → new ≡ begun_with mid n (new_frame mid.slots mid.threads counts) → new ≡ (with_taken s (new_of s counts) n (drop 1 s.held.free)).held
held-taken s counts n mid_is new_is = new_is ∙ ap (λ (h : HeldFrames). begun_with h n (new_frame h.slots h.threads counts)) mid_is

pub begin-requires-clause-there : goal.begin-requires-clause-there
begin-requires-clause-there c =
    let at_next = next-taken c.self.invariant c.if-self.false c.args.counts.now c.next_number-number.result c.next_number-number.ensures.value in
    omega (arith, at_next.next, ap (λ (h : HeldFrames). length h.frames) c.next_number-number.ensures.rest)

pub begin-requires-clause-room : goal.begin-requires-clause-room
begin-requires-clause-room c =
    let at_next = next-taken c.self.invariant c.if-self.false c.args.counts.now c.next_number-number.result c.next_number-number.ensures.value in
    omega (arith, at_next.below, c.self.invariant.room_there, ap (λ (h : HeldFrames). h.room) c.next_number-number.ensures.rest)

pub invariant_of-self : goal.invariant_of-self
invariant_of-self c =
    let st = storage c.self.inside in
    let n = c.next_number-number.result in
    let at_next = next-taken c.self.invariant c.if-self.false c.args.counts.now n c.next_number-number.ensures.value in
    subst (λ (now : HeldFrames). IsStored (record st { held = now; used = st.used + 1 }))
    (sym (held-taken st c.args.counts.now n c.next_number-number.ensures.rest c.begin.ensures.value)) at_next.is

pub returns-clause-number : goal.returns-clause-number
returns-clause-number c =
    let st = storage c.self.inside in
    c.next_number-number.ensures.value ∙ ap (λ (k : ℕ). next_number_of st.held.free k) (sym (length-places c.self.invariant))
    ∙ ap (λ (v : StoredFrames). next_number v.table) c.self.view_is

pub returns-clause-numbered : goal.returns-clause-numbered
returns-clause-numbered c =
    let at_next = next-taken c.self.invariant c.if-self.false c.args.counts.now c.next_number-number.result c.next_number-number.ensures.value in
    omega (arith, at_next.below, ap (λ (v : StoredFrames). v.count) c.self.view_is)

pub returns-clause-live : goal.returns-clause-live
returns-clause-live c =
    let st = storage c.self.inside in
    let n = c.next_number-number.result in
    let at_next = next-taken c.self.invariant c.if-self.false c.args.counts.now n c.next_number-number.ensures.value in
    ap (λ (now : HeldFrames). is_some_frame (slice_get (shown now.lives now.frames) n))
    (held-taken st c.args.counts.now n c.next_number-number.ensures.rest c.begin.ensures.value)
    ∙ ap is_some_frame at_next.stands

pub returns-clause-fresh : goal.returns-clause-fresh
returns-clause-fresh c = ap (λ (v : StoredFrames). is_live v.table (next_number v.table)) (sym c.self.view_is) ∙ next-free c.self.invariant

pub returns-clause-ok : goal.returns-clause-ok
returns-clause-ok c =
    let st = storage c.self.inside in
    let n = c.next_number-number.result in
    let at_next = next-taken c.self.invariant c.if-self.false c.args.counts.now n c.next_number-number.ensures.value in
    ap (λ (now : HeldFrames). stored (record st { held = now; used = st.used + 1 }))
    (held-taken st c.args.counts.now n c.next_number-number.ensures.rest c.begin.ensures.value)
    ∙ ap (λ (table : FrameTable). with_table (stored st) table) at_next.table_is
    ∙ ap (λ (v : StoredFrames). with_table v (taken v.table v.slots v.threads c.args.counts.now)) c.self.view_is
