-- The turns of frames where a frame is changed, where one of its threads becomes ready, and where one is taken to be run.
use Rattle.std.proofs.Common.{◌≡◌, ◌≢◌, ℕ, ◌⊎◌, inl, inr, List, [], ◌∷◌, ◌++◌, refl, sym, ap, ◌∙◌, true, false, Bool, ◌==◌, true≢false, subst, Some}
use Rattle.std.proofs.Common.{None, Option, slice_get}
use Rattle.tam_word.specs.Lists.{has, any_of, all_differ}
use Rattle.tam_word.proofs.Members.{In, has-in, in-has, any-in, in-any, in-append, left-in, right-in}
use Rattle.tam_word.proofs.Tests.{number-eq, number-differs, differs-number, self-eq}
use Rattle.frame_tables.specs.FrameTables.{Frame, FrameTable, changed_in, or_frame, frame_at, is_live, is_current, is_queued, queue_with}
use Rattle.rv_keep.specs.Relation.{TurnsHold}
use Rattle.rv_keep.proofs.TableChanges.{changed-same, changed-other, live-changed, ready-changed}

-- no number stands twice
abbrev pub Differ : List ℕ → Type 0
Differ xs = all_differ (λ x y. x == y) xs ≡ true

-- the first of a list whose numbers differ isn't among the others, which differ
pub differ-split : (x : ℕ) (xs : List ℕ) → Differ (x ∷ xs) → (In x xs → ⊥) × Differ xs
differ-split x xs e = go (any_of (λ y. x == y) xs) refl e
  where
    go : (t : Bool) → any_of (λ y. x == y) xs ≡ t → elim t [ true ↦ false | false ↦ all_differ (λ x y. x == y) xs ] ≡ true → (In x xs → ⊥) × Differ xs
    go true p q = absurd (true≢false (sym q))
    go false p q = (λ i. true≢false (sym (in-any (λ y. x == y) xs x i (self-eq x)) ∙ p), q)

-- and back
pub differ-joined : (x : ℕ) (xs : List ℕ) → (In x xs → ⊥) → Differ xs → Differ (x ∷ xs)
differ-joined x xs n d = go (any_of (λ y. x == y) xs) refl
  where
    go : (t : Bool) → any_of (λ y. x == y) xs ≡ t → elim t [ true ↦ false | false ↦ all_differ (λ x y. x == y) xs ] ≡ true
    go true p =
        let a = any-in (λ y. x == y) xs p in
        let e : x ≡ a.0 = number-eq x a.0 a.2 in
        absurd (n (subst (λ (y : ℕ). In y xs) (sym e) a.1))
    go false p = d

-- a number that isn't among them goes behind them
pub differ-behind : (xs : List ℕ) (f : ℕ) → Differ xs → (In f xs → ⊥) → Differ (xs ++ f ∷ [])
differ-behind [] f d n = refl
differ-behind (x ∷ xs) f d n =
    let s = differ-split x xs d in
    differ-joined x (xs ++ f ∷ []) (λ i. apart (in-append x xs (f ∷ []) i) s.0) (differ-behind xs f s.1 (λ i. n (inr i)))
  where
    apart : In x xs ⊎ In x (f ∷ []) → (In x xs → ⊥) → ⊥
    apart (inl i) k = k i
    apart (inr (inl e)) k = n (inl (sym e))
    apart (inr (inr i)) k = i

-- the frames' module tells of the queue by a test of its own
pub queued-has : (q : List ℕ) (f : ℕ) → is_queued q f ≡ has q f
queued-has [] f = refl
queued-has (x ∷ q) f = go (x == f) (queued-has q f)
  where
    go : (t : Bool) → is_queued q f ≡ has q f
        → ◌≡◌ {A = Bool} (elim t [ true ↦ true | false ↦ is_queued q f ]) (elim t [ true ↦ true | false ↦ has q f ])
    go true e = refl
    go false e = e

-- a test is true or false
pub either-way : (t : Bool) → (t ≡ true) ⊎ (t ≡ false)
either-way true = inl refl
either-way false = inr refl

-- where a frame is changed but its ready list, turns stay
pub turns-changed : (s : FrameTable) (f : ℕ) (change : Frame → Frame) → ((h : Frame) → (change h).ready ≡ h.ready) → TurnsHold s
    → TurnsHold (record s { frames = changed_in s.frames f change })
turns-changed s f change r t = record {
  differ = t.differ;
  queued_live = λ g q. live-changed s.frames f g change ∙ t.queued_live g q;
  queued_waits = t.queued_waits;
  queued_ready = λ g q z. t.queued_ready g q (sym (ready-changed s.frames f g change r) ∙ z);
  ready_queued = λ g n. t.ready_queued g (λ z. n (ready-changed s.frames f g change r ∙ z));
  current_live = λ g q. live-changed s.frames f g change ∙ t.current_live g q;
}

-- the ready list of the frame that is changed
pub ready-same : (s : FrameTable) (f : ℕ) (change : Frame → Frame) (h : Frame) → slice_get s.frames f ≡ Some (Some h)
    → (or_frame (slice_get (changed_in s.frames f change) f)).ready ≡ (change h).ready
ready-same s f change h e = ap (λ x. (or_frame x).ready) (changed-same s.frames f change h e)

-- and of another
pub ready-other : (s : FrameTable) (f g : ℕ) (change : Frame → Frame) → f ≢ g
    → (or_frame (slice_get (changed_in s.frames f change) g)).ready ≡ (frame_at s g).ready
ready-other s f g change n = ap (λ x. (or_frame x).ready) (changed-other s.frames f g change n)

-- the queue where a frame's thread becomes ready: as it was, where the frame is current or queued; else the frame goes behind it
pub queue-current : (s : FrameTable) (f : ℕ) → is_current s.current f ≡ true → queue_with s f ≡ s.queue
queue-current s f e = rw (queue_with, e) refl

-- a frame that is in the queue joins it no more
pub queue-queued : (s : FrameTable) (f : ℕ) → has s.queue f ≡ true → queue_with s f ≡ s.queue
queue-queued s f e = go (is_current s.current f)
  where
    inside : (t : Bool) → t ≡ true → elim t [ true ↦ s.queue | false ↦ s.queue ++ f ∷ [] ] ≡ s.queue
    inside true k = refl
    inside false k = absurd (true≢false (sym k))

    go : (t : Bool) → elim t [ true ↦ s.queue | false ↦ elim (is_queued s.queue f) [ true ↦ s.queue | false ↦ s.queue ++ f ∷ [] ] ] ≡ s.queue
    go true = refl
    go false = inside (is_queued s.queue f) (queued-has s.queue f ∙ e)

-- a frame that is neither current nor in the queue joins it at its end
pub queue-behind : (s : FrameTable) (f : ℕ) → is_current s.current f ≡ false → has s.queue f ≡ false → queue_with s f ≡ s.queue ++ f ∷ []
queue-behind s f c e = let q : is_queued s.queue f ≡ false = queued-has s.queue f ∙ e in rw (queue_with, c, q) refl

-- a frame of which a thread becomes ready: where it is queued or current already, the queue stays
pub turns-more : (s : FrameTable) (f : ℕ) (change : Frame → Frame) (h : Frame) → slice_get s.frames f ≡ Some (Some h) → (change h).ready ≢ []
    → ((has s.queue f ≡ true) ⊎ (is_current s.current f ≡ true)) → TurnsHold s
    → TurnsHold (record s { frames = changed_in s.frames f change })
turns-more s f change h e r b t = record {
  differ = t.differ;
  queued_live = λ g q. live-changed s.frames f g change ∙ t.queued_live g q;
  queued_waits = t.queued_waits;
  queued_ready = λ g q. ready (f == g) g refl q;
  ready_queued = λ g n. queued (f == g) g refl n;
  current_live = λ g q. live-changed s.frames f g change ∙ t.current_live g q;
}
  where
    ready : (d : Bool) (g : ℕ) → (f == g) ≡ d → has s.queue g ≡ true → (or_frame (slice_get (changed_in s.frames f change) g)).ready ≢ []
    ready true g y q =
        let i : f ≡ g = number-eq f g y in
        subst (λ (x : ℕ). (or_frame (slice_get (changed_in s.frames f change) x)).ready ≢ []) i (λ z. r (sym (ready-same s f change h e) ∙ z))
    ready false g y q = λ z. t.queued_ready g q (sym (ready-other s f g change (number-differs f g y)) ∙ z)

    queued : (d : Bool) (g : ℕ) → (f == g) ≡ d → (or_frame (slice_get (changed_in s.frames f change) g)).ready ≢ []
        → (has s.queue g ≡ true) ⊎ (is_current s.current g ≡ true)
    queued true g y n = let i : f ≡ g = number-eq f g y in subst (λ (x : ℕ). (has s.queue x ≡ true) ⊎ (is_current s.current x ≡ true)) i b
    queued false g y n = t.ready_queued g (λ z. n (ready-other s f g change (number-differs f g y) ∙ z))

-- a number stands in a list with another behind it where it stood, or is the other
pub has-behind : (xs : List ℕ) (f g : ℕ) → has (xs ++ f ∷ []) g ≡ true → (has xs g ≡ true) ⊎ (f ≡ g)
has-behind xs f g e = go (in-append g xs (f ∷ []) (has-in (xs ++ f ∷ []) g e))
  where
    go : In g xs ⊎ In g (f ∷ []) → (has xs g ≡ true) ⊎ (f ≡ g)
    go (inl i) = inl (in-has xs g i)
    go (inr (inl k)) = inr k
    go (inr (inr i)) = absurd i

-- where it is neither, it goes behind the queue
pub turns-queued : (s : FrameTable) (f : ℕ) (change : Frame → Frame) (h : Frame) → slice_get s.frames f ≡ Some (Some h) → is_live s f ≡ true
    → (change h).ready ≢ []
    → has s.queue f ≡ false → is_current s.current f ≡ false → TurnsHold s
    → TurnsHold (record s { frames = changed_in s.frames f change; queue = s.queue ++ f ∷ [] })
turns-queued s f change h e v r nq nc t = record {
  differ = differ-behind s.queue f t.differ (λ i. true≢false (sym (in-has s.queue f i) ∙ nq));
  queued_live = λ g q. live-changed s.frames f g change ∙ live g (has-behind s.queue f g q);
  queued_waits = λ g q. waits g (has-behind s.queue f g q);
  queued_ready = λ g q. ready (f == g) g refl (has-behind s.queue f g q);
  ready_queued = λ g n. queued (f == g) g refl n;
  current_live = λ g q. live-changed s.frames f g change ∙ t.current_live g q;
}
  where
    live : (g : ℕ) → (has s.queue g ≡ true) ⊎ (f ≡ g) → is_live s g ≡ true
    live g (inl q) = t.queued_live g q
    live g (inr i) = subst (λ (x : ℕ). is_live s x ≡ true) i v

    waits : (g : ℕ) → (has s.queue g ≡ true) ⊎ (f ≡ g) → is_current s.current g ≡ false
    waits g (inl q) = t.queued_waits g q
    waits g (inr i) = subst (λ (x : ℕ). is_current s.current x ≡ false) i nc

    ready : (d : Bool) (g : ℕ) → (f == g) ≡ d → (has s.queue g ≡ true) ⊎ (f ≡ g) → (or_frame (slice_get (changed_in s.frames f change) g)).ready ≢ []
    ready true g y q =
        let i : f ≡ g = number-eq f g y in
        subst (λ (x : ℕ). (or_frame (slice_get (changed_in s.frames f change) x)).ready ≢ []) i (λ z. r (sym (ready-same s f change h e) ∙ z))
    ready false g y (inl q) = λ z. t.queued_ready g q (sym (ready-other s f g change (number-differs f g y)) ∙ z)
    ready false g y (inr i) = absurd (number-differs f g y i)

    queued : (d : Bool) (g : ℕ) → (f == g) ≡ d → (or_frame (slice_get (changed_in s.frames f change) g)).ready ≢ []
        → (has (s.queue ++ f ∷ []) g ≡ true) ⊎ (is_current s.current g ≡ true)
    queued true g y n =
        let i : f ≡ g = number-eq f g y in
        inl (in-has (s.queue ++ f ∷ []) g (right-in g s.queue (f ∷ []) (inl i)))
    queued false g y n = old (t.ready_queued g (λ z. n (ready-other s f g change (number-differs f g y) ∙ z)))
      where
        old : (has s.queue g ≡ true) ⊎ (is_current s.current g ≡ true) → (has (s.queue ++ f ∷ []) g ≡ true) ⊎ (is_current s.current g ≡ true)
        old (inl q) = inl (in-has (s.queue ++ f ∷ []) g (left-in g s.queue (f ∷ []) (has-in s.queue g q)))
        old (inr c) = inr c

-- where the current frame's list is changed, turns stay
pub turns-current : (s : FrameTable) (f : ℕ) (change : Frame → Frame) → is_current s.current f ≡ true → TurnsHold s
    → TurnsHold (record s { frames = changed_in s.frames f change })
turns-current s f change c t = record {
  differ = t.differ;
  queued_live = λ g q. live-changed s.frames f g change ∙ t.queued_live g q;
  queued_waits = t.queued_waits;
  queued_ready = λ g q. ready (f == g) g refl q;
  ready_queued = λ g n. queued (f == g) g refl n;
  current_live = λ g q. live-changed s.frames f g change ∙ t.current_live g q;
}
  where
    ready : (d : Bool) (g : ℕ) → (f == g) ≡ d → has s.queue g ≡ true → (or_frame (slice_get (changed_in s.frames f change) g)).ready ≢ []
    ready true g y q =
        let i : f ≡ g = number-eq f g y in
        absurd (true≢false (sym c ∙ (ap (λ (x : ℕ). is_current s.current x) i ∙ t.queued_waits g q)))
    ready false g y q = λ z. t.queued_ready g q (sym (ready-other s f g change (number-differs f g y)) ∙ z)

    queued : (d : Bool) (g : ℕ) → (f == g) ≡ d → (or_frame (slice_get (changed_in s.frames f change) g)).ready ≢ []
        → (has s.queue g ≡ true) ⊎ (is_current s.current g ≡ true)
    queued true g y n = let i : f ≡ g = number-eq f g y in inr (subst (λ (x : ℕ). is_current s.current x ≡ true) i c)
    queued false g y n = t.ready_queued g (λ z. n (ready-other s f g change (number-differs f g y) ∙ z))

-- the front frame of the queue is current from now on
pub turns-front : (s : FrameTable) (f : ℕ) (q : List ℕ) (change : Frame → Frame) → s.current ≡ None → s.queue ≡ f ∷ q → TurnsHold s
    → TurnsHold (record { frames = changed_in s.frames f change; free = s.free; queue = q; current = Some f })
turns-front s f q change c e t =
    let d = differ-split f q (subst (λ (x : List ℕ). Differ x) e t.differ) in
    record {
      differ = d.1;
      queued_live = λ g i. live-changed s.frames f g change ∙ t.queued_live g (was g i);
      queued_waits = λ g i. differs-number f g (apart d.0 g i);
      queued_ready = λ g i. let n : f ≢ g = apart d.0 g i in λ z. t.queued_ready g (was g i) (sym (ready-other s f g change n) ∙ z);
      ready_queued = λ g n. queued (f == g) g refl n;
      current_live = λ g i. let v : f ≡ g = cc in
          live-changed s.frames f g change ∙ t.queued_live g (subst (λ (x : List ℕ). has x g ≡ true) (sym e) (in-has (f ∷ q) g (inl v)));
    }
  where
    was : (g : ℕ) → has q g ≡ true → has s.queue g ≡ true
    was g i = subst (λ (x : List ℕ). has x g ≡ true) (sym e) (in-has (f ∷ q) g (inr (has-in q g i)))

    apart : (In f q → ⊥) → (g : ℕ) → has q g ≡ true → f ≢ g
    apart n g i v = n (subst (λ (x : ℕ). In x q) (sym v) (has-in q g i))

    queued : (b : Bool) (g : ℕ) → (f == g) ≡ b → (or_frame (slice_get (changed_in s.frames f change) g)).ready ≢ []
        → (has q g ≡ true) ⊎ ((f == g) ≡ true)
    queued true g y n = inr y
    queued false g y n = old (t.ready_queued g (λ z. n (ready-other s f g change (number-differs f g y) ∙ z)))
      where
        inside : In g (f ∷ q) → has q g ≡ true
        inside (inl i) = absurd (number-differs f g y i)
        inside (inr i) = in-has q g i

        old : (has s.queue g ≡ true) ⊎ (is_current s.current g ≡ true) → (has q g ≡ true) ⊎ ((f == g) ≡ true)
        old (inl i) = inl (inside (has-in (f ∷ q) g (subst (λ (x : List ℕ). has x g ≡ true) e i)))
        old (inr i) = absurd (true≢false (sym i ∙ ap (λ (x : Option ℕ). is_current x g) c))

-- no frame is current any more, where the one that was has no ready thread
pub turns-rested : (s : FrameTable) (f : ℕ) → s.current ≡ Some f → (frame_at s f).ready ≡ [] → TurnsHold s → TurnsHold (record s { current = None })
turns-rested s f c e t = record {
  differ = t.differ;
  queued_live = t.queued_live;
  queued_waits = λ g i. refl;
  queued_ready = t.queued_ready;
  ready_queued = λ g n. old g n (t.ready_queued g n);
  current_live = λ g i. absurd cc;
}
  where
    old : (g : ℕ) → (frame_at s g).ready ≢ [] → (has s.queue g ≡ true) ⊎ (is_current s.current g ≡ true) → (has s.queue g ≡ true) ⊎ (false ≡ true)
    old g n (inl i) = inl i
    old g n (inr i) =
        let v : f ≡ g = number-eq f g (sym (ap (λ (x : Option ℕ). is_current x g) c) ∙ i) in
        absurd (n (subst (λ (x : ℕ). (frame_at s x).ready ≡ []) v e))
