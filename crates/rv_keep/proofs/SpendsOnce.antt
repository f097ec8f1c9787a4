-- The routine that spends a count carries the relation on, on each of its five paths.
use Rattle.std.proofs.Common.{◌≡◌, ◌≢◌, ◌⊎◌, ℕ, zero, suc, ◌+◌, ◌%◌, ◌^◌, ◌<◌, ◌≤◌, inl, inr, List, [], ◌∷◌, ◌++◌, length, map, take, refl, sym, ap}
use Rattle.std.proofs.Common.{◌∙◌, arith, true, false, true≢false, subst, Option, Some, None, slice_get}
use Rattle.tam_word.specs.Lists.{has}
use Rattle.tam_word.proofs.Members.{in-has}
use Rattle.tam_word.proofs.Tests.{number-eq, number-differs}
use Rattle.tam_msgs.specs.declared.limits.Limits.{Limits}
use Rattle.frame_tables.specs.FrameTables.{Frame, FrameTable, or_frame, frame_at, is_current, queue_with, made_ready, with_count, spent_of}
use Rattle.tl0_code.specs.ThreadCode.{Program}
use Rattle.tl0_code.specs.Machines.{Machine, Fine, code_at, spend}
use Rattle.tl0_code.specs.ThreadRuns.{text_at}
use Rattle.rv_inst.specs.Harts.{reg, read_at, written_at}
use Rattle.rv_keep.specs.FrameRecords.{head_at, slots_at, cell_at, next_at}
use Rattle.rv_keep.specs.KernelPlaces.{post_at}
use Rattle.rv_keep.specs.Image.{stride_of, start_of}
use Rattle.rv_keep.specs.LinkedLists.{Chain, last_of}
use Rattle.rv_keep.specs.Posting.{Returns, Queues, linked, unlinked}
use Rattle.rv_keep.specs.Hosts.{Host}
use Rattle.rv_keep.specs.MachineLaws.{MayRun}
use Rattle.rv_keep.specs.PhaseLaws.{RelatedAt, ComesTo}
use Rattle.rv_keep.specs.Relation.{FrameHolds, current_address, frame_address, cell_address}
use Rattle.rv_keep.proofs.Linked.{post-lists, post-current}
use Rattle.rv_keep.proofs.Queued.{post-first, post-behind}
use Rattle.rv_keep.proofs.Touching.{own-slots}
use Rattle.rv_keep.proofs.Carrying.{LiveFrame}
use Rattle.rv_keep.proofs.Turns.{either-way, queue-current, queue-queued, queue-behind}
use Rattle.rv_keep.proofs.QueueGrows.{last_in, last-among, last-address, addresses-differ}
use Rattle.rv_keep.proofs.PostedPaths.{Spends, spends-there, Posting, posting-there, left-spends, listed, made-ready-is, more-carried}
use Rattle.rv_keep.proofs.PostedQueue.{queued_table, address-there, first-carried, LinkPlace, link-place, last-carried}

-- an element among the first n is that of the list
get-take : (n : ℕ) (xs : List ℕ) (t : ℕ) → t < n → slice_get (take n xs) t ≡ slice_get xs t
get-take zero xs t l = absurd (omega arith)
get-take (suc n) [] t l = refl
get-take (suc n) (x ∷ xs) zero l = refl
get-take (suc n) (x ∷ xs) (suc t) l = get-take n xs t (omega arith)

-- the count stands in the thread's cell
count-stands : (p : Program) (limits : Limits) (m : Machine) (s : Host) (f t back c : ℕ) (a : Posting p limits m s f t back)
    → slice_get a.live.frame.counts t ≡ Some (suc c) → read_at s.hart.memory (cell_address p f (code_at m f) t) 4 ≡ suc c
count-stands p limits m s f t back c a g =
    let o : FrameHolds p s.hart.memory f (code_at m f) a.live.frame = a.live.holds in
    let ls = own-slots p s.hart.memory f (code_at m f) a.live.frame o in
    let r = o.stands.counts t c (get-take (length (text_at p m f).threads) a.live.frame.counts t a.thread ∙ g) in
    subst (λ (x : ℕ). read_at s.hart.memory (frame_address p f + cell_at x t) 4 ≡ suc c) ls r

-- the frame of the table is the live one
pub live-frame-at : (p : Program) (m : Machine) (s : Host) (f : ℕ) (h : LiveFrame p m s f) → frame_at m.table f ≡ h.frame
live-frame-at p m s f h = ap or_frame h.there

-- the current frame's address, and what it is not
pub address-current : (p : Program) (c : Option ℕ) (f : ℕ) → is_current c f ≡ true → current_address p c ≡ frame_address p f
address-current p None f e = absurd (true≢false (sym e))
address-current p (Some g) f e = ap (λ (x : ℕ). frame_address p x) (number-eq g f e)

address-other : (p : Program) (c : Option ℕ) (f : ℕ) → slots_at ≤ stride_of p → is_current c f ≡ false → current_address p c ≢ frame_address p f
address-other p None f v e = λ z. address-there p f (sym z)
address-other p (Some g) f v e = addresses-differ p g f (number-differs g f e) v

-- a number that isn't 0 is one more than some
pub some-more : (x : ℕ) → x ≢ 0 → (y : ℕ) × (x ≡ suc y)
some-more zero n = absurd (n refl)
some-more (suc y) n = (y, refl)

-- where another thread of the frame is ready
listed-spends : (p : Program) (limits : Limits) (m : Machine) (s : Host) (f t back u : ℕ) (us : List ℕ) (a : Posting p limits m s f t back)
    → slice_get a.live.frame.counts t ≡ Some 1 → a.live.frame.ready ≡ u ∷ us
    → ComesTo 16 back p limits s (record m { table = made_ready (with_count m.table f t 0) f t })
listed-spends p limits m s f t back u us a g e =
    let mem : List ℕ = s.hart.memory in
    let at : ℕ = frame_address p f in
    let cell : ℕ = cell_address p f (code_at m f) t in
    let start : ℕ = start_of p (code_at m f) t in
    let c : Chain mem next_at (read_at mem (at + head_at) 4) (map (cell_address p f (code_at m f)) (u ∷ us)) =
    subst (λ (x : List ℕ). Chain mem next_at (read_at mem (at + head_at) 4) (map (cell_address p f (code_at m f)) x)) e a.live.holds.ready in
    let n : read_at mem (at + head_at) 4 ≢ 0 = λ z. c.1 (sym c.0 ∙ z) in
    let h = some-more (read_at mem (at + head_at) 4) n in
    let q : Returns 10 s.hart back (linked mem at cell start (suc h.0)) =
    post-lists s.hart at cell start back h.0 a.at a.apart (count-stands p limits m s f t back 0 a g) h.1 in
    let r : Returns 10 s.hart back (listed p m s f t) = subst (λ (x : ℕ). Returns 10 s.hart back (linked mem at cell start x)) (sym h.1) q in
    let some : (frame_at m.table f).ready ≢ [] = λ z. filled (sym e ∙ (ap (λ (x : Frame). x.ready) (sym (live-frame-at p m s f a.live)) ∙ z)) in
    let b : (has m.table.queue f ≡ true) ⊎ (is_current m.table.current f ≡ true) = a.related.turns.ready_queued f some in
    subst (λ (x : FrameTable). ComesTo 16 back p limits s (record m { table = x })) (made-ready-is m.table f t m.table.queue (stays b))
    (more-carried p limits m s f t back 10 a g b (omega arith) r)
  where
    filled : u ∷ us ≡ [] → ⊥
    filled z = cc

    stays : (has m.table.queue f ≡ true) ⊎ (is_current m.table.current f ≡ true) → queue_with m.table f ≡ m.table.queue
    stays (inl q) = queue-queued m.table f q
    stays (inr c) = queue-current m.table f c

-- where none is, and the frame is current
current-spends : (p : Program) (limits : Limits) (m : Machine) (s : Host) (f t back : ℕ) (a : Posting p limits m s f t back)
    → slice_get a.live.frame.counts t ≡ Some 1 → read_at s.hart.memory (frame_address p f + head_at) 4 ≡ 0 → is_current m.table.current f ≡ true
    → ComesTo 16 back p limits s (record m { table = made_ready (with_count m.table f t 0) f t })
current-spends p limits m s f t back a g z c =
    let mem : List ℕ = s.hart.memory in
    let at : ℕ = frame_address p f in
    let cell : ℕ = cell_address p f (code_at m f) t in
    let start : ℕ = start_of p (code_at m f) t in
    let e : reg s.hart 8 ≡ at = a.related.current ∙ address-current p m.table.current f c in
    let q : Returns 11 s.hart back (linked mem at cell start 0) =
    post-current s.hart at cell start back a.at a.apart (count-stands p limits m s f t back 0 a g) z e in
    let r : Returns 11 s.hart back (listed p m s f t) = subst (λ (x : ℕ). Returns 11 s.hart back (linked mem at cell start x)) (sym z) q in
    subst (λ (x : FrameTable). ComesTo 16 back p limits s (record m { table = x })) (made-ready-is m.table f t m.table.queue (queue-current m.table f c))
    (more-carried p limits m s f t back 11 a g (inr c) (omega arith) r)

-- and where it is neither current nor queued
queued-spends : (p : Program) (limits : Limits) (m : Machine) (s : Host) (f t back : ℕ) (a : Posting p limits m s f t back)
    → slice_get a.live.frame.counts t ≡ Some 1 → read_at s.hart.memory (frame_address p f + head_at) 4 ≡ 0 → is_current m.table.current f ≡ false
    → has m.table.queue f ≡ false
    → ComesTo 16 back p limits s (record m { table = made_ready (with_count m.table f t 0) f t })
queued-spends p limits m s f t back a g z nc nq =
    subst (λ (x : FrameTable). ComesTo 16 back p limits s (record m { table = x }))
    (made-ready-is m.table f t (m.table.queue ++ f ∷ []) (queue-behind m.table f nc nq)) (go m.table.queue refl)
  where
    other : reg s.hart 8 ≢ frame_address p f
    other = λ e. address-other p m.table.current f a.live.wide nc (sym a.related.current ∙ e)

    go : (q : List ℕ) → m.table.queue ≡ q → ComesTo 16 back p limits s (record m { table = queued_table m f t })
    go [] e =
        let mem : List ℕ = s.hart.memory in
        let at : ℕ = frame_address p f in
        let cell : ℕ = cell_address p f (code_at m f) t in
        let start : ℕ = start_of p (code_at m f) t in
        let l : reg s.hart 18 ≡ 0 = a.related.last ∙ ap (λ (x : List ℕ). last_of (map (frame_address p) x)) e in
        let q : Queues 16 s.hart back (unlinked mem at cell start) at at =
        post-first s.hart at cell start back a.at a.apart (count-stands p limits m s f t back 0 a g) z other l in
        first-carried p limits m s f t back a g nq nc e
        (subst (λ (x : ℕ). Queues 16 s.hart back (written_at (linked mem at cell start x) at 4 0) at at) (sym z) q)
    go (y ∷ ys) e =
        let mem : List ℕ = s.hart.memory in
        let at : ℕ = frame_address p f in
        let cell : ℕ = cell_address p f (code_at m f) t in
        let start : ℕ = start_of p (code_at m f) t in
        let w : ℕ = last_in y ys in
        let l : reg s.hart 18 ≡ frame_address p w =
        a.related.last ∙ (ap (λ (x : List ℕ). last_of (map (frame_address p) x)) e ∙ last-address p y ys) in
        let wq : has m.table.queue w ≡ true = subst (λ (x : List ℕ). has x w ≡ true) (sym e) (in-has (y ∷ ys) w (last-among y ys)) in
        let pl : LinkPlace p m s w = link-place p limits m s w a.related wq in
        let q : Queues 15 s.hart back (written_at (unlinked mem at cell start) (frame_address p w) 4 at) (reg s.hart 9) at =
        post-behind s.hart at cell start back (frame_address p w) a.at a.apart (count-stands p limits m s f t back 0 a g) z other l pl.aligned pl.behind
        pl.inside in
        last-carried p limits m s f t back y ys a g nq nc e
        (subst (λ (x : ℕ). Queues 15 s.hart back (written_at (written_at (linked mem at cell start x) at 4 0) (frame_address p w) 4 at) (reg s.hart 9) at)
        (sym z) q)

-- a thread whose count was 1
last-spends : (p : Program) (limits : Limits) (m : Machine) (s : Host) (f t back : ℕ) (a : Posting p limits m s f t back)
    → slice_get a.live.frame.counts t ≡ Some 1 → ComesTo 16 back p limits s (record m { table = made_ready (with_count m.table f t 0) f t })
last-spends p limits m s f t back a g = go a.live.frame.ready refl
  where
    go : (r : List ℕ) → a.live.frame.ready ≡ r → ComesTo 16 back p limits s (record m { table = made_ready (with_count m.table f t 0) f t })
    go (u ∷ us) e = listed-spends p limits m s f t back u us a g e
    go [] e = turns (either-way (is_current m.table.current f)) (either-way (has m.table.queue f))
      where
        z : read_at s.hart.memory (frame_address p f + head_at) 4 ≡ 0
        z = subst (λ (x : List ℕ). Chain s.hart.memory next_at (read_at s.hart.memory (frame_address p f + head_at) 4)
            (map (cell_address p f (code_at m f)) x)) e a.live.holds.ready

        none : (frame_at m.table f).ready ≡ []
        none = ap (λ (x : Frame). x.ready) (live-frame-at p m s f a.live) ∙ e

        turns : (is_current m.table.current f ≡ true) ⊎ (is_current m.table.current f ≡ false) → (has m.table.queue f ≡ true) ⊎ (has m.table.queue f ≡ false)
            → ComesTo 16 back p limits s (record m { table = made_ready (with_count m.table f t 0) f t })
        turns (inl c) q = current-spends p limits m s f t back a g z c
        turns (inr c) (inl q) = absurd (a.related.turns.queued_ready f q none)
        turns (inr c) (inr q) = queued-spends p limits m s f t back a g z c q

-- the routine
pub spends-one : (p : Program) (args : List ℕ) (limits : Limits) (m n : Machine) (s : Host) (f t back : ℕ) → MayRun p args limits
    → RelatedAt post_at p limits m s
    → reg s.hart 10 ≡ frame_address p f → reg s.hart 11 ≡ cell_address p f (code_at m f) t → reg s.hart 12 ≡ start_of p (code_at m f) t → reg s.hart 1 ≡ back
    → t < length (text_at p m f).threads → back % 4 ≡ 0 → back < 2 ^ 32 → spend m f t ≡ Fine n → ComesTo 16 back p limits s n
spends-one p args limits m n s f t back r e r10 r11 r12 r1 l al u fine =
    let w : Spends m n f t = spends-there m n f t fine in
    let a : Posting p limits m s f t back = posting-there p args limits m s f t back r e r10 r11 r12 r1 l al u w.live in
    let g : slice_get a.live.frame.counts t ≡ Some (suc w.left) = ap (λ (x : Frame). slice_get x.counts t) (sym (live-frame-at p m s f a.live)) ∙ w.count in
    subst (λ (x : Machine). ComesTo 16 back p limits s x) w.behind (go a w.left g)
  where
    go : (a : Posting p limits m s f t back) → (c : ℕ) → slice_get a.live.frame.counts t ≡ Some (suc c)
        → ComesTo 16 back p limits s (record m { table = spent_of m.table f t (suc c) })
    go a zero g = last-spends p limits m s f t back a g
    go a (suc c) g = left-spends p limits m s f t back c a g (count-stands p limits m s f t back (suc c) a g)
