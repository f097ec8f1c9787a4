-- How many instructions come between two polls, from what each event and the start come to.
use Rattle.std.proofs.Common.{◌≡◌, ℕ, zero, suc, ◌+◌, ◌*◌, ◌≤◌, List, [], ◌∷◌, length, map, slice_get, inl, inr, refl, sym, ap, ◌∙◌, arith, not, Bool}
use Rattle.std.proofs.Common.{◌==◌, subst, Option, Some, None}
use Rattle.std.specs.Prelude.{zip}
use Rattle.tam_msgs.specs.declared.limits.Limits.{Limits}
use Rattle.tam_msgs.specs.declared.item.Item.{Item}
use Rattle.tam_msgs.specs.Runs.{End, Outcome, Next, Ended, choice, and_then, after_events}
use Rattle.frame_tables.specs.FrameTables.{is_ready, frame_at, count_in}
use Rattle.tl0_code.specs.ThreadCode.{Program, code_text}
use Rattle.tl0_code.specs.Machines.{Machine, spend_of}
use Rattle.tl0_code.specs.ThreadRuns.{thread_step, thread_opening}
use Rattle.rv_inst.specs.Harts.{reg}
use Rattle.rv_keep.specs.KernelPlaces.{poll_at}
use Rattle.rv_keep.specs.Image.{image_of}
use Rattle.rv_keep.specs.Hosts.{Host, Reached, At_poll, Stopped, to_poll}
use Rattle.rv_keep.specs.HostRuns.{chosen, at_poll, host_step, host_opening}
use Rattle.rv_keep.specs.MachineLaws.{MayRun, SamePoint, IsTame, PollsInTime, RunsAgree, poll_of}
use Rattle.rv_keep.specs.Bounds.{event_bound, start_bound, StartBounded, PollsBounded}
use Rattle.rv_keep.specs.PhaseLaws.{RelatedAt, ComesTo}
use Rattle.rv_keep.proofs.Polls.{kernel-polls}
use Rattle.rv_keep.proofs.InTime.{in-time}
use Rattle.tam_msgs.specs.declared.message.Message.{Message}
use Rattle.tam_msgs.specs.declared.message.Message.TheVariants.{Word as Carry}
use Rattle.tam_msgs.specs.Messages.{outside}
use Rattle.tam_istr.specs.Cells.{Arrays}
use Rattle.tam_word.specs.Lists.{below}
use Rattle.tam_word.proofs.Members.{In, in-map, in-get}
use Rattle.tl0_code.specs.ThreadRuns.{nothing_begun, with_frame, or_machine}
use Rattle.rv_keep.proofs.Keeping.{spent-current}
use Rattle.tam_msgs.specs.declared.choice.Choice.{Choice}
use Rattle.rv_inst.specs.Images.{Image}
use Rattle.rv_keep.proofs.SpendsOnce.{spends-one}
use Rattle.rv_keep.proofs.Entering.{enters-next}
use Rattle.rv_keep.proofs.Doing.{instructs}
use Rattle.rv_keep.proofs.Ending.{stops}
use Rattle.rv_keep.proofs.Delivering.{words-come}
use Rattle.rv_keep.proofs.Asked.{frames-come}
use Rattle.rv_keep.proofs.Opening.{plain_image, image-is, starts-come}
use Rattle.rv_keep.proofs.Going.{Phases, Going}
use Rattle.rv_keep.proofs.Events.{AgreeOn, booked, booked-is, AtPoll, chosen-agrees, choice-ready}
use Rattle.rv_keep.proofs.Values.{IsWords, CellsAre, Valued}
use Rattle.rv_keep.proofs.Rests.{Rests, rests-rested}

-- all phases
pub phases : Phases
phases = record {
  starts = starts-come spends-one;
  enters = enters-next;
  instructs = instructs;
  stops = stops;
  words = words-come spends-one;
  frames = frames-come spends-one;
}

-- the event at a poll
abbrev pub event_at : Program → Limits → Host → Outcome Host
event_at p limits t = chosen (image_of p) limits t (choice t.order (not (reg t.hart 10 == 0)) (length t.pending))

-- the machine is at the poll, the two related, and the host is told whether something is ready
pub record Polled (p : Program) (limits : Limits) (m : Machine) (t : Host) : Type 0 where
  pub there : RelatedAt 80 p limits m t
  pub tells : not (reg t.hart 10 == 0) ≡ is_ready m.table
  pub valued : Valued p limits m
  pub rests : Rests m.table

-- the event is the same on both sides, within its bound
pub event-agrees : (p : Program) (args : List ℕ) (limits : Limits) (m : Machine) (t : Host) → MayRun p args limits → Polled p limits m t
    → IsTame (thread_step p limits m) → AgreeOn (t.hart.steps + event_bound p m) p limits (thread_step p limits m) (event_at p limits t)
event-agrees p args limits m t r d h =
    let c : Choice × List Item = choice m.order (is_ready m.table) (length m.pending) in
    let b : t ≡ booked m t = booked-is m t d.there.related.same in
    let e : AtPoll p args limits m t =
    record { may = r; related = subst (λ (x : Host). RelatedAt 80 p limits m x) b d.there; valued = d.valued; rests = d.rests } in
    let a : AgreeOn (t.hart.steps + event_bound p m) p limits (thread_step p limits m) (chosen (plain_image p) limits (booked m t) c) =
    chosen-agrees phases p args limits m t e c (choice-ready m.order (is_ready m.table) (length m.pending)) h in
    let i : chosen (plain_image p) limits (booked m t) c ≡ chosen (image_of p) limits (booked m t) c =
    ap (λ (x : Image). chosen x limits (booked m t) c) (sym (image-is p)) in
    let j : chosen (image_of p) limits (booked m t) c ≡ chosen (image_of p) limits t c = ap (λ (x : Host). chosen (image_of p) limits x c) (sym b) in
    let o : c ≡ choice t.order (not (reg t.hart 10 == 0)) (length t.pending) =
    ap (λ (x : List Item). choice x (is_ready m.table) (length m.pending)) (sym d.there.related.same.order)
    ∙ (ap (λ (x : Bool). choice t.order x (length m.pending)) (sym d.tells)
    ∙ ap (λ (x : List Message). choice t.order (not (reg t.hart 10 == 0)) (length x)) (sym d.there.related.same.pending)) in
    let k : chosen (image_of p) limits t c ≡ event_at p limits t = ap (λ (x : Choice × List Item). chosen (image_of p) limits t x) o in
    subst (λ (x : Outcome Host). AgreeOn (t.hart.steps + event_bound p m) p limits (thread_step p limits m) x) (i ∙ (j ∙ k)) a

-- ---- the poll that is reached

same-poll : (s t : Host) → At_poll s ≡ At_poll t → s ≡ t
same-poll s t e = cc

no-poll : (how : End) (s t : Host) → Stopped how s ≡ At_poll t → ⊥
no-poll how s t e = absurd cc

-- what the poll that is reached is
pub record ReachedIs (most : ℕ) (p : Program) (limits : Limits) (m : Machine) (t : Host) : Type 0 where
  pub poll : Polled p limits m t
  pub counted : t.hart.steps ≤ most

-- the poll behind an event is the one that the instructions of the event come to
pub reached-is : (most : ℕ) (p : Program) (args : List ℕ) (limits : Limits) (m : Machine) (s t : Host) → MayRun p args limits → Going most p limits m s
    → (n : ℕ) → to_poll n s ≡ At_poll t → ReachedIs most p limits m t
reached-is most p args limits m s t r w n e =
    let c : ComesTo w.steps poll_at p limits s m = w.comes in
    let k = kernel-polls p args limits m c.host r (rests-rested m.table w.rests) c.there in
    let a : to_poll (c.onward.took + (3 + n)) s ≡ At_poll k.0 = c.onward.goes (3 + n) ∙ k.1.reached n in
    let i : to_poll (n + (c.onward.took + 3)) s ≡ to_poll n s = in-time n (c.onward.took + 3) s (subst (λ (x : Reached). PollsInTime x) (sym e) tt) in
    let j : n + (c.onward.took + 3) ≡ c.onward.took + (3 + n) = omega arith in
    let q : At_poll t ≡ At_poll k.0 = sym e ∙ (sym i ∙ (ap (λ (x : ℕ). to_poll x s) j ∙ a)) in
    let v : t ≡ k.0 = same-poll t k.0 q in
    let d : k.0.hart.steps ≡ c.host.hart.steps + 3 = k.1.counted in
    let f : c.host.hart.steps ≡ s.hart.steps + c.onward.took = c.onward.counted in
    let g : c.onward.took ≤ w.steps = c.onward.few in
    let u : s.hart.steps + (w.steps + 3) ≤ most = w.few in
    let l : k.0.hart.steps ≤ most = omega arith in
    record {
      poll = record {
        there = subst (λ (x : Host). RelatedAt 80 p limits m x) (sym v) k.1.there;
        tells = subst (λ (x : Host). not (reg x.hart 10 == 0) ≡ is_ready m.table) (sym v) k.1.tells;
        valued = w.valued;
        rests = w.rests;
      };
      counted = subst (λ (x : Host). x.hart.steps ≤ most) (sym v) l;
    }

-- ---- between polls

next-same : (m n : Machine) → Next m ≡ Next n → m ≡ n
next-same m n e = cc

ended-next : (how : End) (m n : Machine) → Ended how m ≡ Next n → ⊥
ended-next how m n e = absurd cc

-- a run that goes on goes on at its first event
first-next : (step : Machine → Outcome Machine) (k : ℕ) (m n : Machine) → after_events step (suc k) m ≡ Next n
    → (u : Machine) × (step m ≡ Next u) × (after_events step k u ≡ Next n)
first-next step k m n e = go (step m) refl e
  where
    go : (o : Outcome Machine) → step m ≡ o → and_then o (after_events step k) ≡ Next n → (u : Machine) × (step m ≡ Next u) × (after_events step k u ≡ Next n)
    go (Next u) q x = (u, q, x)
    go (Ended how u) q x = absurd (ended-next how u n x)

-- a host's run that comes to a poll comes to one first
first-poll : (p : Program) (limits : Limits) (k : ℕ) (s t : Host) → poll_of (after_events (host_step (image_of p) limits) (suc k) s) ≡ At_poll t
    → (u : Host) × (to_poll 16777216 s ≡ At_poll u)
first-poll p limits k s t e = go (to_poll 16777216 s) refl e
  where
    go : (o : Reached) → to_poll 16777216 s ≡ o
        → poll_of (and_then (at_poll (image_of p) limits o) (after_events (host_step (image_of p) limits) k)) ≡ At_poll t
        → (u : Host) × (to_poll 16777216 s ≡ At_poll u)
    go (At_poll u) q x = (u, q)
    go (Stopped how u) q x = absurd (no-poll how u t x)

-- and then goes on from its event
after-poll : (p : Program) (limits : Limits) (k : ℕ) (s u : Host) → to_poll 16777216 s ≡ At_poll u
    → poll_of (after_events (host_step (image_of p) limits) (suc k) s) ≡ poll_of
    (and_then (event_at p limits u) (after_events (host_step (image_of p) limits) k))
after-poll p limits k s u e = ap (λ (x : Reached). poll_of (and_then (at_poll (image_of p) limits x) (after_events (host_step (image_of p) limits) k))) e

-- an event that goes on
pub record EventGoes (most : ℕ) (p : Program) (limits : Limits) (n : Machine) (o : Outcome Host) : Type 0 where
  pub host : Host
  pub is : o ≡ Next host
  pub way : Going most p limits n host

-- where the thread code's goes on, the host's does
event-goes : (p : Program) (args : List ℕ) (limits : Limits) (m n : Machine) (t : Host) → MayRun p args limits → Polled p limits m t
    → thread_step p limits m ≡ Next n
    → EventGoes (t.hart.steps + event_bound p m) p limits n (event_at p limits t)
event-goes p args limits m n t r d e =
    go (event_at p limits t) refl (subst (λ (x : Outcome Machine). AgreeOn (t.hart.steps + event_bound p m) p limits x (event_at p limits t)) e
    (event-agrees p args limits m t r d (subst (λ (x : Outcome Machine). IsTame x) (sym e) tt)))
  where
    go : (o : Outcome Host) → event_at p limits t ≡ o → AgreeOn (t.hart.steps + event_bound p m) p limits (Next n) o
        → EventGoes (t.hart.steps + event_bound p m) p limits n (event_at p limits t)
    go (Next u) q a = record { host = u; is = q; way = a }
    go (Ended how u) q a = absurd a

-- an event that isn't wild and behind which the host comes to a poll goes on
event-next : (p : Program) (args : List ℕ) (limits : Limits) (m : Machine) (s t : Host) → MayRun p args limits → Polled p limits m s
    → IsTame (and_then (thread_step p limits m) (after_events (thread_step p limits) 0))
    → poll_of (and_then (event_at p limits s) (after_events (host_step (image_of p) limits) 0)) ≡ At_poll t
    → (n : Machine) × (thread_step p limits m ≡ Next n)
event-next p args limits m s t r d h e = go (thread_step p limits m) refl h
  where
    ends : (how : End) (x : Machine) (o : Outcome Host) → AgreeOn (s.hart.steps + event_bound p m) p limits (Ended how x) o
        → poll_of (and_then o (after_events (host_step (image_of p) limits) 0)) ≡ At_poll t → ⊥
    ends how x (Next u) a k = a
    ends how x (Ended end u) a k = no-poll end u t k

    go : (o : Outcome Machine) → thread_step p limits m ≡ o → IsTame (and_then o (after_events (thread_step p limits) 0))
        → (n : Machine) × (thread_step p limits m ≡ Next n)
    go (Next n) q k = (n, q)
    go (Ended how x) q k =
        absurd (ends how x (event_at p limits s) (subst (λ (y : Outcome Machine). AgreeOn (s.hart.steps + event_bound p m) p limits y (event_at p limits s)) q
        (event-agrees p args limits m s r d (subst (λ (y : Outcome Machine). IsTame y) (sym q) k))) e)

-- behind n events
bounded-from : (p : Program) (args : List ℕ) (limits : Limits) → MayRun p args limits → (n most : ℕ) (m0 m : Machine) (s0 s t : Host)
    → Going most p limits m0 s0 → after_events (thread_step p limits) n m0 ≡ Next m
    → poll_of (after_events (host_step (image_of p) limits) n s0) ≡ At_poll s → poll_of (after_events (host_step (image_of p) limits) (suc n) s0) ≡ At_poll t
    → IsTame (after_events (thread_step p limits) (suc n) m0) → t.hart.steps ≤ s.hart.steps + event_bound p m
bounded-from p args limits r zero most m0 m s0 s t w e g h tame =
    let i : m0 ≡ m = next-same m0 m e in
    let a : ReachedIs most p limits m0 s = reached-is most p args limits m0 s0 s r w 16777216 g in
    let k : poll_of (and_then (event_at p limits s) (after_events (host_step (image_of p) limits) 0)) ≡ At_poll t = sym (after-poll p limits 0 s0 s g) ∙ h in
    let x = event-next p args limits m0 s t r a.poll tame k in
    let v : EventGoes (s.hart.steps + event_bound p m0) p limits x.0 (event_at p limits s) = event-goes p args limits m0 x.0 s r a.poll x.1 in
    let j : to_poll 16777216 v.host ≡ At_poll t =
    sym (ap (λ (y : Outcome Host). poll_of (and_then y (after_events (host_step (image_of p) limits) 0))) v.is) ∙ k in
    let c : ReachedIs (s.hart.steps + event_bound p m0) p limits x.0 t =
    reached-is (s.hart.steps + event_bound p m0) p args limits x.0 v.host t r v.way 16777216 j in
    subst (λ (y : Machine). t.hart.steps ≤ s.hart.steps + event_bound p y) i c.counted
bounded-from p args limits r (suc n) most m0 m s0 s t w e g h tame =
    let x = first-next (thread_step p limits) n m0 m e in
    let u = first-poll p limits n s0 s g in
    let a : ReachedIs most p limits m0 u.0 = reached-is most p args limits m0 s0 u.0 r w 16777216 u.1 in
    let v : EventGoes (u.0.hart.steps + event_bound p m0) p limits x.0 (event_at p limits u.0) = event-goes p args limits m0 x.0 u.0 r a.poll x.1 in
    bounded-from p args limits r n (u.0.hart.steps + event_bound p m0) x.0 m v.host s t v.way x.2
    (sym (after p limits n s0 u.0 v.host u.1 v.is) ∙ g) (sym (after p limits (suc n) s0 u.0 v.host u.1 v.is) ∙ h)
    (subst (λ (y : Outcome Machine). IsTame (and_then y (after_events (thread_step p limits) (suc n)))) x.1 tame)
  where
    after : (p : Program) (limits : Limits) (k : ℕ) (s u v : Host) → to_poll 16777216 s ≡ At_poll u → event_at p limits u ≡ Next v
        → poll_of (after_events (host_step (image_of p) limits) (suc k) s) ≡ poll_of (after_events (host_step (image_of p) limits) k v)
    after p limits k s u v e q =
        after-poll p limits k s u e ∙ ap (λ (x : Outcome Host). poll_of (and_then x (after_events (host_step (image_of p) limits) k))) q

-- ---- the start

-- what the start leaves but for the frames
record OpenedSo (m n : Machine) : Type 0 where
  pub pending : n.pending ≡ m.pending
  pub arrays : n.arrays ≡ m.arrays
  pub events : n.events ≡ m.events
  pub current : n.table.current ≡ None

opens-so : (m k : Machine) (f t : ℕ) (o : Option ℕ) → OpenedSo m m → OpenedSo m k → OpenedSo m (or_machine m (spend_of k f t o))
opens-so m k f t None a b = a
opens-so m k f t (Some zero) a b = a
opens-so m k f t (Some (suc n)) a b =
    record { pending = b.pending; arrays = b.arrays; events = b.events; current = spent-current k.table f t (count_in k.table f t) ∙ b.current }

-- the second of a pair of a list with another is in that
zip-second : (xs ys : List ℕ) (z : ℕ × ℕ) → In z (zip xs ys) → In z.1 ys
zip-second [] ys z i = absurd i
zip-second (x ∷ xs) [] z i = absurd i
zip-second (x ∷ xs) (y ∷ ys) z (inl e) = inl (ap (λ (p : ℕ × ℕ). p.1) e)
zip-second (x ∷ xs) (y ∷ ys) z (inr i) = inr (zip-second xs ys z i)

-- the machine is on its way from the start
pub opening-goes : (p : Program) (args : List ℕ) (order : List Item) (limits : Limits) → MayRun p args limits
    → Going (start_bound (code_text p p.main)) p limits (thread_opening p args order) (host_opening (image_of p) args order limits)
opening-goes p args order limits r =
    let m : Machine = nothing_begun args order in
    let k : Machine = with_frame p m p.main outside 0 in
    let o : OpenedSo m (thread_opening p args order) =
    opens-so m k 0 0 (slice_get (frame_at k.table 0).counts 0) (record { pending = refl; arrays = refl; events = refl; current = refl })
    (record { pending = refl; arrays = refl; events = refl; current = refl }) in
    let z : (host_opening (image_of p) args order limits).hart.steps ≡ 0 = refl in
    record {
      valued = record {
        sent = λ x i. words x (subst (λ (y : List Message). In x y) o.pending i);
        cells = subst (λ (y : Arrays). CellsAre y) (sym o.arrays) (λ xs i c j. absurd i);
        few_arrays = let a : length (thread_opening p args order).arrays ≡ 0 = ap (λ (y : Arrays). length y) o.arrays in omega arith;
        in_budget = let a : (thread_opening p args order).events ≡ 0 = o.events in omega arith;
      };
      rests = λ f e. absurd (none-is (sym o.current ∙ e));
      steps = 47 + 6 * length (code_text p p.main).threads + 4 * (code_text p p.main).slots;
      few = omega arith;
      comes = phases.starts p args order limits r;
    }
  where
    none-is : {f : ℕ} → None ≡ Some f → ⊥
    none-is e = absurd cc

    words : (x : Message) → In x (map (λ kw. Carry 0 kw.0 kw.1) (zip (below (length args)) args)) → IsWords p x
    words x i =
        let g = in-map (λ kw. Carry 0 kw.0 kw.1) x (zip (below (length args)) args) i in
        let h = in-get g.0.1 args (zip-second (below (length args)) args g.0 g.1) in
        subst (λ (y : Message). IsWords p y) g.2 (r.words h.0 g.0.1 h.1)

-- ---- the laws

-- up to the first poll there are no more instructions than the bound of the start
pub start-bounded : StartBounded
start-bounded p args order limits r s e =
    (reached-is (start_bound (code_text p p.main)) p args limits (thread_opening p args order) (host_opening (image_of p) args order limits) s r
    (opening-goes p args order limits r) 16777216 e).counted

-- nor from one poll to the next than the bound of the event between them
pub polls-bounded : PollsBounded
polls-bounded p args order limits r n m s t e g h tame =
    let i : n + 1 ≡ suc n = omega arith in
    bounded-from p args limits r n (start_bound (code_text p p.main)) (thread_opening p args order) m (host_opening (image_of p) args order limits) s t
    (opening-goes p args order limits r) e g
    (sym (ap (λ (x : ℕ). poll_of (after_events (host_step (image_of p) limits) x (host_opening (image_of p) args order limits))) i) ∙ h)
    (subst (λ (x : ℕ). IsTame (after_events (thread_step p limits) x (thread_opening p args order))) i tame)

-- ---- the runs agree

-- a way that doesn't come in time ends so
late : (p : Program) (limits : Limits) (k : ℕ) (s : Host) (o : Reached)
    → PollsInTime (poll_of (and_then (at_poll (image_of p) limits o) (after_events (host_step (image_of p) limits) k)))
    → PollsInTime o
late p limits k s (At_poll t) h = tt
late p limits k s (Stopped how t) h = h

-- where the poll comes in time, it comes
in-time-poll : (most : ℕ) (p : Program) (args : List ℕ) (limits : Limits) (m : Machine) (s : Host) → MayRun p args limits → Going most p limits m s
    → PollsInTime (to_poll 16777216 s) → (t : Host) × (to_poll 16777216 s ≡ At_poll t)
in-time-poll most p args limits m s r w h =
    let c : ComesTo w.steps poll_at p limits s m = w.comes in
    let k = kernel-polls p args limits m c.host r (rests-rested m.table w.rests) c.there in
    let a : to_poll (c.onward.took + (3 + 16777216)) s ≡ At_poll k.0 = c.onward.goes (3 + 16777216) ∙ k.1.reached 16777216 in
    let i : to_poll (16777216 + (c.onward.took + 3)) s ≡ to_poll 16777216 s = in-time 16777216 (c.onward.took + 3) s h in
    let j : 16777216 + (c.onward.took + 3) ≡ c.onward.took + (3 + 16777216) = omega arith in
    (k.0, sym i ∙ (ap (λ (x : ℕ). to_poll x s) j ∙ a))

-- from a point on the way
agree-from : (p : Program) (args : List ℕ) (limits : Limits) → MayRun p args limits → (n most : ℕ) (m : Machine) (s : Host) → Going most p limits m s
    → IsTame (after_events (thread_step p limits) n m) → PollsInTime (poll_of (after_events (host_step (image_of p) limits) n s))
    → SamePoint (after_events (thread_step p limits) n m) (poll_of (after_events (host_step (image_of p) limits) n s))
agree-from p args limits r zero most m s w tame h =
    let k = in-time-poll most p args limits m s r w h in
    let a : ReachedIs most p limits m k.0 = reached-is most p args limits m s k.0 r w 16777216 k.1 in
    subst (λ (x : Reached). SamePoint (Next m) x) (sym k.1) (a.poll.there.related.same, a.poll.tells)
agree-from p args limits r (suc n) most m s w tame h =
    let k = in-time-poll most p args limits m s r w (late p limits n s (to_poll 16777216 s) h) in
    let a : ReachedIs most p limits m k.0 = reached-is most p args limits m s k.0 r w 16777216 k.1 in
    let e : poll_of (after_events (host_step (image_of p) limits) (suc n) s)
    ≡ poll_of (and_then (event_at p limits k.0) (after_events (host_step (image_of p) limits) n)) = after-poll p limits n s k.0 k.1 in
    subst (λ (x : Reached). SamePoint (after_events (thread_step p limits) (suc n) m) x) (sym e)
    (go (k.0.hart.steps + event_bound p m) (thread_step p limits m) (event_at p limits k.0)
    (event-agrees p args limits m k.0 r a.poll (first-tame (thread_step p limits m) tame)) tame
    (subst (λ (x : Reached). PollsInTime x) e h) (λ b u v d t i. agree-from p args limits r n b u v d t i))
  where
    first-tame : (o : Outcome Machine) → IsTame (and_then o (after_events (thread_step p limits) n)) → IsTame o
    first-tame (Next u) t = tt
    first-tame (Ended how u) t = t

    go : (b : ℕ) (o : Outcome Machine) (q : Outcome Host) → AgreeOn b p limits o q → IsTame (and_then o (after_events (thread_step p limits) n))
        → PollsInTime (poll_of (and_then q (after_events (host_step (image_of p) limits) n)))
        → ((b : ℕ) (u : Machine) (v : Host) → Going b p limits u v → IsTame (after_events (thread_step p limits) n u)
        → PollsInTime (poll_of (after_events (host_step (image_of p) limits) n v))
        → SamePoint (after_events (thread_step p limits) n u) (poll_of (after_events (host_step (image_of p) limits) n v)))
        → SamePoint (and_then o (after_events (thread_step p limits) n)) (poll_of (and_then q (after_events (host_step (image_of p) limits) n)))
    go b (Next u) (Next v) d t i rec = rec b u v d t i
    go b (Next u) (Ended how v) d t i rec = absurd d
    go b (Ended how u) (Next v) d t i rec = absurd d
    go b (Ended how u) (Ended end v) d t i rec = d

-- as long as the thread run is tame and each poll comes in time, the two runs agree
pub runs-agree : RunsAgree
runs-agree p args order limits r n tame h =
    agree-from p args limits r n (start_bound (code_text p p.main)) (thread_opening p args order) (host_opening (image_of p) args order limits)
    (opening-goes p args order limits r) tame h
