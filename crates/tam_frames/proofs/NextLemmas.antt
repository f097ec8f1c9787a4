-- The next thread, and the turns where it is given.
use Rattle.std.proofs.Common.{◌≡◌, ◌∙◌, sym, ap, subst, refl, ℕ, zero, suc, Bool, true, false, true≢false, List, [], ◌∷◌, drop, Option, Some, None}
use Rattle.std.specs.Prelude.{slice_get}
use Rattle.frame_tables.specs.FrameTables.{Frame, FrameTable, or_frame, is_live, frame_at, changed_in, changed, is_current, is_queued}
use Rattle.frame_tables.specs.FrameTables.{current_of, given_of, next_of, next_thread}
use Rattle.tam_frames.specs.StoredFrames.{has_any, is_busy, frame_popped, popped}
use Rattle.tam_frames.specs.Kept.{AreInTurn, IsDistinctQueue}
use Rattle.tam_frames.proofs.TableLemmas.{busy-live}
use Rattle.tam_frames.proofs.QueueLemmas.{eq-number, number-equals, queued-first, queued-behind}

-- the turn of the frame that waits for the longest time has begun, and no turn is under way where none waits
abbrev pub turned : FrameTable → FrameTable
turned s = record s { queue = drop 1 s.queue; current = slice_get s.queue 0 }

-- ---- what is given

-- two changes that are the same of the frame at their number
changed_in-same : (frames : List (Option Frame)) (f : ℕ) (a b : Frame → Frame) → a (or_frame (slice_get frames f)) ≡ b (or_frame (slice_get frames f))
    → changed_in frames f a ≡ changed_in frames f b
changed_in-same [] f a b same = refl
changed_in-same (None ∷ frames) zero a b same = refl
changed_in-same (Some h ∷ frames) zero a b same = ap (λ (k : Frame). Some k ∷ frames) same
changed_in-same (None ∷ frames) (suc f) a b same = ap (λ (l : List (Option Frame)). None ∷ l) (changed_in-same frames f a b same)
changed_in-same (Some h ∷ frames) (suc f) a b same = ap (λ (l : List (Option Frame)). Some h ∷ l) (changed_in-same frames f a b same)

-- a change that leaves the frame at its number leaves all
changed_in-kept : (frames : List (Option Frame)) (f : ℕ) (change : Frame → Frame) → change (or_frame (slice_get frames f)) ≡ or_frame (slice_get frames f)
    → changed_in frames f change ≡ frames
changed_in-kept [] f change same = refl
changed_in-kept (None ∷ frames) zero change same = refl
changed_in-kept (Some h ∷ frames) zero change same = ap (λ (k : Frame). Some k ∷ frames) same
changed_in-kept (None ∷ frames) (suc f) change same = ap (λ (l : List (Option Frame)). None ∷ l) (changed_in-kept frames f change same)
changed_in-kept (Some h ∷ frames) (suc f) change same = ap (λ (l : List (Option Frame)). Some h ∷ l) (changed_in-kept frames f change same)

-- a list without a first element has none
none-first : (ready : List ℕ) → slice_get ready 0 ≡ None → ready ≡ []
none-first [] none = refl
none-first (t ∷ ready) none = cc

-- where no thread of a frame is ready, none leaves
pub popped-none : (s : FrameTable) (f : ℕ) → slice_get (frame_at s f).ready 0 ≡ None → popped s f ≡ s
popped-none s f none =
    let empty : (frame_at s f).ready ≡ [] = none-first (frame_at s f).ready none in
    ap (λ (l : List (Option Frame)). record s { frames = l }) (changed_in-kept s.frames f frame_popped
    (ap (λ (l : List ℕ). record (frame_at s f) { ready = l }) (ap (λ (l : List ℕ). drop 1 l) empty ∙ sym empty)))

-- a frame gives the thread that became ready last
given-is : (s : FrameTable) (f t : ℕ) → slice_get (frame_at s f).ready 0 ≡ Some t
    → given_of s f (frame_at s f).ready ≡ (Some (f, t), record (popped s f) { current = Some f })
given-is s f t first = go (frame_at s f).ready refl first
  where
    go : (ready : List ℕ) → (frame_at s f).ready ≡ ready → slice_get ready 0 ≡ Some t
        → given_of s f ready ≡ (Some (f, t), record (popped s f) { current = Some f })
    go [] same first = cc
    go (u ∷ us) same first =
        let here : u ≡ t = cc in
        let rest : us ≡ drop 1 (frame_at s f).ready = ap (λ (l : List ℕ). drop 1 l) (sym same) in
        let frames : changed_in s.frames f (λ h. record h { ready = us }) ≡ changed_in s.frames f frame_popped =
        changed_in-same s.frames f (λ h. record h { ready = us }) frame_popped (ap (λ (l : List ℕ). record (frame_at s f) { ready = l }) rest) in
        ap (λ (k : ℕ). (Some (f, k), record (changed s f (λ h. record h { ready = us })) { current = Some f })) here
        ∙ ap (λ (l : List (Option Frame)). (Some (f, t), record s { frames = l; current = Some f })) frames

-- where a thread of the current frame is ready, it gives that
pub next-current : (s : FrameTable) (f t : ℕ) → s.current ≡ Some f → slice_get (frame_at s f).ready 0 ≡ Some t → next_thread s ≡ (Some (f, t), popped s f)
next-current s f t current first =
    ap (λ (o : Option ℕ). next_of (record s { current = current_of s o }) (current_of s o) s.queue) current
    ∙ ap (λ (o : Option ℕ). next_of (record s { current = o }) o s.queue) (stays (frame_at s f).ready first)
    ∙ given-is (record s { current = Some f }) f t first
    ∙ ap (λ (o : Option ℕ). (Some (f, t), record (popped s f) { current = o })) (sym current)
  where
    stays : (ready : List ℕ) → slice_get ready 0 ≡ Some t → elim ready [ [] ↦ None | u ∷ us ↦ Some f ] ≡ Some f
    stays [] first = cc
    stays (u ∷ us) first = refl

-- where none of it is ready, it is idle
pub idle-current : (s : FrameTable) (f : ℕ) → s.current ≡ Some f → slice_get (frame_at s f).ready 0 ≡ None → current_of s s.current ≡ None
idle-current s f current none =
    ap (λ (o : Option ℕ). current_of s o) current
    ∙ ap (λ (ready : List ℕ). elim ready [ [] ↦ None | u ∷ us ↦ Some f ]) (none-first (frame_at s f).ready none)

module _ (s : FrameTable) (idle : current_of s s.current ≡ None) where
  -- with no ready thread of the current frame the one that waits for the longest time gives the next thread
  next-turn : next_thread s ≡ next_of (record s { current = None }) None s.queue
  next-turn = ap (λ (o : Option ℕ). next_of (record s { current = o }) o s.queue) idle

  -- its turn begins
  pub next-turned : (f t : ℕ) → slice_get s.queue 0 ≡ Some f → slice_get (frame_at s f).ready 0 ≡ Some t
      → next_thread s ≡ (Some (f, t), popped (turned s) f)
  next-turned f t first ready = next-turn ∙ go s.queue first
    where
      go : (queue : List ℕ) → slice_get queue 0 ≡ Some f
          → next_of (record s { current = None }) None queue ≡ (Some (f, t), popped (record s { queue = drop 1 queue; current = slice_get queue 0 }) f)
      go [] first = cc
      go (g ∷ queue) first =
          let same : g ≡ f = cc in
          ap (λ (k : ℕ). given_of (record s { queue = queue; current = None }) k (frame_at s k).ready) same
          ∙ given-is (record s { queue = queue; current = None }) f t ready
          ∙ ap (λ (k : ℕ). (Some (f, t), record (popped s f) { queue = queue; current = Some k })) (sym same)

-- ---- what is kept

-- where the current frame is idle, no thread of it is ready
idle-busy : (s : FrameTable) (f : ℕ) → current_of s s.current ≡ None → is_current s.current f ≡ true → is_busy s f ≡ false
idle-busy s f idle is = go s.current idle is
  where
    none-left : (c : ℕ) (ready : List ℕ) → ◌≡◌ {A = Option ℕ} (elim ready [ [] ↦ None | u ∷ us ↦ Some c ]) None → has_any ready ≡ false
    none-left c [] idle = refl
    none-left c (u ∷ us) idle = cc

    go : (current : Option ℕ) → current_of s current ≡ None → is_current current f ≡ true → is_busy s f ≡ false
    go None idle is = cc
    go (Some c) idle is = ap (λ (k : ℕ). is_busy s k) (sym (number-equals c f is)) ∙ none-left c (frame_at s c).ready idle

module _ {s : FrameTable} (old : AreInTurn s) (idle : current_of s s.current ≡ None) where
  -- then each frame waits where a thread of it is ready
  all-wait : (f : ℕ) → is_queued s.queue f ≡ is_busy s f
  all-wait f = go (is_current s.current f) refl
    where
      go : (b : Bool) → is_current s.current f ≡ b → is_queued s.queue f ≡ is_busy s f
      go true is = old.apart f is ∙ sym (idle-busy s f idle is)
      go false is = old.waits f is

  -- the one that waits for the longest time has a ready thread
  pub turned-busy : (f : ℕ) → slice_get s.queue 0 ≡ Some f → is_busy s f ≡ true
  turned-busy f first = sym (all-wait f) ∙ go s.queue first
    where
      go : (queue : List ℕ) → slice_get queue 0 ≡ Some f → is_queued queue f ≡ true
      go [] first = cc
      go (g ∷ queue) first = let same : g ≡ f = cc in ap (λ (k : ℕ). is_queued (k ∷ queue) f) same ∙ queued-first queue f

  -- its turn begins
  pub turns-turned : AreInTurn (turned s)
  turns-turned = go s.queue refl
    where
      go : (queue : List ℕ) → s.queue ≡ queue → AreInTurn (record s { queue = drop 1 queue; current = slice_get queue 0 })
      go [] is = record {
        live = λ g is. cc;
        apart = λ g is. refl;
        waits = λ g other. ap (λ (l : List ℕ). is_queued l g) (sym is) ∙ all-wait g;
        distinct = tt;
      }
      go (f ∷ queue) is =
          let distinct : IsDistinctQueue (f ∷ queue) = subst IsDistinctQueue is old.distinct in
          record {
            live = λ g here. ap (λ (k : ℕ). is_live s k) (sym (number-equals f g here))
                ∙ busy-live s f (turned-busy f (ap (λ (l : List ℕ). slice_get l 0) is));
            apart = λ g here. ap (λ (k : ℕ). is_queued queue k) (sym (number-equals f g here)) ∙ distinct.0;
            waits = λ g other. sym (queued-behind queue f g (λ same. true≢false (sym (eq-number f g same) ∙ other)))
                ∙ ap (λ (l : List ℕ). is_queued l g) (sym is) ∙ all-wait g;
            distinct = distinct.1;
          }
