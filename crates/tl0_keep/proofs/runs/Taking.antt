-- The next thread is taken from its ready list, and a turn ends.
use Rattle.std.proofs.Common.{◌≡◌, ℕ, ◌<◌, true, false, List, [], ◌∷◌, Option, Some, None, length}
use Rattle.std.proofs.Common.{refl, sym, ap, ap₂, subst, ◌∙◌, inl, inr, ◌⊎◌, true≢false}
use Rattle.std.proofs.lemmas.Option.{same_Some}
use Rattle.tam_word.proofs.Members.{In, Distinct}
use Rattle.frame_tables.specs.FrameTables.{Frame, FrameTable, frame_at, changed, rested, current_of, next_thread, next_of, given_of, is_ready, is_ready_of}
use Rattle.tl0_keep.proofs.giving.Places.{changed-length}
use Rattle.tl0_keep.proofs.runs.Keeps.{TurnsKeep, IsRested}
use Rattle.tl0_keep.proofs.runs.Frames.{same-or-other, IsHeld, frame-here, frame-other, held-changed}

-- no number
abbrev no_number : Option ℕ
no_number = None

-- a table with another current frame
abbrev pub with_current : FrameTable → Option ℕ → FrameTable
with_current s c = record s { current = c }

-- where the current frame has a ready thread, its turn goes on
pub rests-same : (s : FrameTable) → IsRested s → current_of s s.current ≡ s.current
rests-same s r = go s.current refl
  where
    ready : (f : ℕ) → s.current ≡ Some f → (ts : List ℕ) → (frame_at s f).ready ≡ ts → current_of s (Some f) ≡ Some f
    ready f e [] p = absurd (r f e p)
    ready f e (t ∷ ts) p = rw (current_of, p) refl

    go : (c : Option ℕ) → s.current ≡ c → current_of s c ≡ c
    go None e = refl
    go (Some f) e = ready f e (frame_at s f).ready refl

-- so the next thread is the current frame's or the front frame's
pub next-rested : (s : FrameTable) → IsRested s → next_thread s ≡ next_of s s.current s.queue
next-rested s r = ap (λ (c : Option ℕ). next_of (with_current s c) c s.queue) (rests-same s r)

-- and so is the test
pub ready-rested : (s : FrameTable) → IsRested s → is_ready s ≡ is_ready_of s.current s.queue
ready-rested s r = ap (λ (c : Option ℕ). is_ready_of c s.queue) (rests-same s r)

-- ---- where none is ready

-- no frame has a ready thread
pub none-ready : (s : FrameTable) → TurnsKeep s → IsRested s → is_ready s ≡ false → (i t : ℕ) → In t (frame_at s i).ready → ⊥
none-ready s k r e i t h = go s.current refl s.queue refl
  where
    nothing : no_number ≡ Some i → ⊥
    nothing z = cc

    go : (c : Option ℕ) → s.current ≡ c → (q : List ℕ) → s.queue ≡ q → ⊥
    go None p [] q = elim (k.ready i t h) [ inl a ↦ nothing (sym p ∙ a) | inr b ↦ subst (In i) q b ]
    go None p (f ∷ qs) q = true≢false (sym (ready-rested s r ∙ ap₂ is_ready_of p q) ∙ e)
    go (Some f) p qs q = true≢false (sym (ready-rested s r ∙ ap₂ is_ready_of p q) ∙ e)

-- ---- a thread is taken

-- what taking thread t of frame f leaves
pub record Takes (s : FrameTable) : Type 0 where
  pub frame : ℕ
  pub thread : ℕ
  pub rest : List ℕ
  pub after : FrameTable
  pub next : next_thread s ≡ (Some (frame, thread), after)
  pub inside : frame < length s.frames
  pub was : (frame_at s frame).ready ≡ thread ∷ rest
  pub here : frame_at after frame ≡ record (frame_at s frame) { ready = rest }
  pub other : (j : ℕ) → (frame ≡ j → ⊥) → frame_at after j ≡ frame_at s j
  pub frames : length after.frames ≡ length s.frames
  pub held : (j : ℕ) → IsHeld s j → IsHeld after j
  pub free : after.free ≡ s.free
  pub current : after.current ≡ Some frame
  pub turns : TurnsKeep after

module _ (s : FrameTable) (k : TurnsKeep s) (r : IsRested s) (held : (i : ℕ) → i < length s.frames → IsHeld s i) where
  -- of frame f
  from : (f : ℕ) → f < length s.frames → (queue : List ℕ) (t : ℕ) (ts : List ℕ) → (frame_at s f).ready ≡ t ∷ ts
      → next_thread s ≡ given_of (record s { queue = queue }) f (t ∷ ts)
      → Distinct queue → ((i : ℕ) → In i queue → In i s.queue × (f ≡ i → ⊥)) → ((i : ℕ) → (f ≡ i → ⊥) → (s.current ≡ Some i) ⊎ In i s.queue → In i queue)
      → Takes s
  from f l queue t ts was next once sub sup = record {
    frame = f;
    thread = t;
    rest = ts;
    after = record (changed s f (λ h. record h { ready = ts })) { queue = queue; current = Some f };
    next = next;
    inside = l;
    was = was;
    here = here;
    other = λ j d. frame-other s f j _ d;
    frames = size;
    held = λ j h. held-changed s f j _ h;
    free = refl;
    current = refl;
    turns = record {
      once = once;
      queued = λ i h. let q = sub i h in let o = k.queued i q.0 in
          (subst (λ n. i < n) (sym size) o.0, λ e. o.1 (sym (ap (λ (x : Frame). x.ready) (frame-other s f i _ q.1)) ∙ e), λ e. q.1 (same_Some f i e));
      current = λ i e. subst (λ n. i < n) (sym size) (subst (λ z. z < length s.frames) (same_Some f i e) l);
      ready = λ i y h. elim (same-or-other f i) [
        | inl e ↦ inl (ap Some e)
        | inr d ↦ inr (sup i d (k.ready i y (subst (λ (x : Frame). In y x.ready) (frame-other s f i _ d) h)))
      ];
    };
  }
    where
      here : frame_at (record (changed s f (λ h. record h { ready = ts })) { queue = queue; current = Some f }) f ≡ record (frame_at s f) { ready = ts }
      here = frame-here s f (λ h. record h { ready = ts }) (held f l)

      size : length (changed s f (λ h. record h { ready = ts })).frames ≡ length s.frames
      size = changed-length s.frames f _

  -- the next thread
  pub takes : is_ready s ≡ true → Takes s
  takes e = go s.current refl s.queue refl
    where
      nothing : {x : ℕ} → no_number ≡ Some x → ⊥
      nothing z = cc

      current : (f : ℕ) → s.current ≡ Some f → (ts : List ℕ) → (frame_at s f).ready ≡ ts → Takes s
      current f p [] q = absurd (r f p q)
      current f p (t ∷ ts) q = from f (k.current f p) s.queue t ts q (next-rested s r ∙ (ap (λ (c : Option ℕ). next_of s c s.queue) p ∙ ap (given_of s f) q))
          k.once
          (λ i h. (h, λ z. (k.queued i h).2 (p ∙ ap Some z)))
          (λ i d h. elim h [ inl a ↦ absurd (d (same_Some f i (sym p ∙ a))) | inr b ↦ b ])

      queued : (f : ℕ) (qs : List ℕ) → s.current ≡ None → s.queue ≡ f ∷ qs → (ts : List ℕ) → (frame_at s f).ready ≡ ts → Takes s
      queued f qs p q [] w = absurd ((k.queued f (subst (In f) (sym q) (inl refl))).1 w)
      queued f qs p q (t ∷ ts) w = from f (k.queued f (subst (In f) (sym q) (inl refl))).0 qs t ts w
          (next-rested s r ∙ (ap₂ (λ (c : Option ℕ) (l : List ℕ). next_of s c l) p q ∙ ap (given_of (record s { queue = qs }) f) w)) once.1
          (λ i h. (subst (In i) (sym q) (inr h), λ z. once.0 (subst (λ y. In y qs) (sym z) h)))
          (λ i d h. elim h [ inl a ↦ absurd (nothing (sym p ∙ a)) | inr b ↦ elim (subst (In i) q b) [ inl z ↦ absurd (d z) | inr y ↦ y ] ])
        where
          once : Distinct (f ∷ qs)
          once = subst (λ (l : List ℕ). Distinct l) q k.once

      go : (c : Option ℕ) → s.current ≡ c → (q : List ℕ) → s.queue ≡ q → Takes s
      go None p [] q = absurd (true≢false (sym e ∙ (ready-rested s r ∙ ap₂ is_ready_of p q)))
      go None p (f ∷ qs) q = queued f qs p q (frame_at s f).ready refl
      go (Some f) p qs q = current f p (frame_at s f).ready refl

-- ---- a turn ends

-- the current frame behind it was so before, and has a ready thread
pub current-before : (s : FrameTable) (i : ℕ) → (rested s).current ≡ Some i → (s.current ≡ Some i) × ((frame_at s i).ready ≡ [] → ⊥)
current-before s i e = go s.current refl e
  where
    nothing : no_number ≡ Some i → ⊥
    nothing z = cc

    here : (f : ℕ) → s.current ≡ Some f → (ts : List ℕ) → (frame_at s f).ready ≡ ts → current_of s (Some f) ≡ Some i
        → (s.current ≡ Some i) × ((frame_at s i).ready ≡ [] → ⊥)
    here f p [] q z = absurd (nothing (rw (current_of, q) at z))
    here f p (t ∷ ts) q z =
        let w : Some f ≡ Some i = rw (current_of, q) at z in
        let y : f ≡ i = same_Some f i w in
        (p ∙ w, λ o. (let v : t ∷ ts ≡ [] = sym q ∙ subst (λ x. (frame_at s x).ready ≡ []) (sym y) o in cc))

    go : (c : Option ℕ) → s.current ≡ c → current_of s c ≡ Some i → (s.current ≡ Some i) × ((frame_at s i).ready ≡ [] → ⊥)
    go None p z = absurd (nothing z)
    go (Some f) p z = here f p (frame_at s f).ready refl z

-- a current frame with a ready thread stays
pub current-stays : (s : FrameTable) (i t : ℕ) → s.current ≡ Some i → In t (frame_at s i).ready → (rested s).current ≡ Some i
current-stays s i t e h = ap (current_of s) e ∙ go (frame_at s i).ready refl
  where
    go : (ts : List ℕ) → (frame_at s i).ready ≡ ts → current_of s (Some i) ≡ Some i
    go [] p = absurd (subst (In t) p h)
    go (x ∷ xs) p = rw (current_of, p) refl

-- turns are kept
pub turns-rested : (s : FrameTable) → TurnsKeep s → TurnsKeep (rested s)
turns-rested s k = record {
  once = k.once;
  queued = λ i h. let o = k.queued i h in (o.0, o.1, λ e. o.2 (current-before s i e).0);
  current = λ i e. k.current i (current-before s i e).0;
  ready = λ i t h. elim (k.ready i t h) [ inl a ↦ inl (current-stays s i t a h) | inr b ↦ inr b ];
}

-- and the current frame has a ready thread
pub rested-rests : (s : FrameTable) → IsRested (rested s)
rested-rests s i e h = (current-before s i e).1 h
