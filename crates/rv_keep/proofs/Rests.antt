-- Turns between events: the current frame has a ready thread, and what is done to frames leaves it so.
use Rattle.std.proofs.Common.{◌≡◌, ◌≢◌, ℕ, zero, suc, List, [], ◌∷◌, refl, sym, ap, ◌∙◌, true, true≢false, subst, Option, Some, None, slice_get, inl}
use Rattle.std.specs.Prelude.{slice_set}
use Rattle.tam_word.specs.Lists.{has}
use Rattle.tam_word.proofs.Members.{in-has}
use Rattle.frame_tables.specs.FrameTables.{Frame, FrameTable, or_frame, frame_at, changed_in, spent_of, current_of, rested, is_ready_of, is_ready}
use Rattle.frame_tables.specs.FrameTables.{given_of, next_of, next_thread}
use Rattle.rv_keep.specs.Relation.{TurnsHold}
use Rattle.rv_keep.proofs.TableChanges.{ready-changed}
use Rattle.rv_keep.proofs.SlotRelated.{slotted_frame}

-- the current frame has a ready thread
abbrev pub Rests : FrameTable → Type 0
Rests s = (f : ℕ) → s.current ≡ Some f → (frame_at s f).ready ≢ []

-- what is there is one
same-some : (a b : ℕ) → Some a ≡ Some b → a ≡ b
same-some a b e = cc

-- none isn't one
none-is : {f : ℕ} → None ≡ Some f → ⊥
none-is e = absurd cc

-- a list that isn't empty
cons-some : (t : ℕ) (ts r : List ℕ) → r ≡ t ∷ ts → r ≢ []
cons-some t ts r e z = let k : [] ≡ t ∷ ts = sym z ∙ e in absurd cc

-- then its turn hasn't ended
pub rests-rested : (s : FrameTable) → Rests s → rested s ≡ s
rests-rested s h = ap (λ (c : Option ℕ). record s { current = c }) (go s.current refl)
  where
    listed : (f : ℕ) (r : List ℕ) → r ≢ [] → elim r [ [] ↦ None | t ∷ ts ↦ Some f ] ≡ Some f
    listed f [] n = absurd (n refl)
    listed f (t ∷ ts) n = refl

    go : (c : Option ℕ) → s.current ≡ c → current_of s c ≡ c
    go None e = refl
    go (Some f) e = listed f (frame_at s f).ready (h f e)

-- behind a rest it is so
pub rested-rests : (s : FrameTable) → Rests (rested s)
rested-rests s f e = go s.current e
  where
    listed : (g : ℕ) (r : List ℕ) → (frame_at s g).ready ≡ r → elim r [ [] ↦ None | t ∷ ts ↦ Some g ] ≡ Some f → (frame_at s f).ready ≢ []
    listed g [] q k = absurd (none-is k)
    listed g (t ∷ ts) q k = subst (λ (x : ℕ). (frame_at s x).ready ≢ []) (same-some g f k) (cons-some t ts (frame_at s g).ready q)

    go : (c : Option ℕ) → current_of s c ≡ Some f → (frame_at (rested s) f).ready ≢ []
    go None k = absurd (none-is k)
    go (Some g) k = listed g (frame_at s g).ready refl k

-- a thread more in a frame's list
pushed-ready : (hs : List (Option Frame)) (f g t : ℕ) → (or_frame (slice_get (changed_in hs f (λ h. record h { ready = t ∷ h.ready })) g)).ready ≡ []
    → (or_frame (slice_get hs g)).ready ≡ []
pushed-ready [] f g t e = refl
pushed-ready (None ∷ hs) zero g t e = e
pushed-ready (Some k ∷ hs) zero zero t e = absurd cc
pushed-ready (Some k ∷ hs) zero (suc g) t e = e
pushed-ready (None ∷ hs) (suc f) zero t e = e
pushed-ready (Some k ∷ hs) (suc f) zero t e = e
pushed-ready (None ∷ hs) (suc f) (suc g) t e = pushed-ready hs f g t e
pushed-ready (Some k ∷ hs) (suc f) (suc g) t e = pushed-ready hs f g t e

-- a count that is spent leaves it so
pub spent-rests : (s : FrameTable) (f t c : ℕ) → Rests s → Rests (spent_of s f t c)
spent-rests s f t zero h g e z = h g e z
spent-rests s f t (suc zero) h g e z =
    h g e (sym (ready-changed s.frames f g (λ x. record x { counts = slice_set x.counts t 0 }) (λ x. refl))
    ∙ pushed-ready (changed_in s.frames f (λ x. record x { counts = slice_set x.counts t 0 })) f g t z)
spent-rests s f t (suc (suc c)) h g e z =
    h g e (sym (ready-changed s.frames f g (λ x. record x { counts = slice_set x.counts t (suc c) }) (λ x. refl)) ∙ z)

-- so does a slot
pub slot-rests : (s : FrameTable) (f d w : ℕ) → Rests s → Rests (record s { frames = changed_in s.frames f (λ x. slotted_frame x d w) })
slot-rests s f d w h g e z = h g e (sym (ready-changed s.frames f g (λ x. slotted_frame x d w) (λ x. refl)) ∙ z)

-- ---- the next thread

-- where some thread is ready, one is next
pub record NextIs (s : FrameTable) : Type 0 where
  pub frame : ℕ
  pub thread : ℕ
  pub table : FrameTable
  pub is : next_thread s ≡ (Some (frame, thread), table)

-- a list that isn't empty gives its first
given-first : (s : FrameTable) (f : ℕ) (r : List ℕ) → r ≢ [] → (t : ℕ) × (table : FrameTable) × (given_of s f r ≡ (Some (f, t), table))
given-first s f [] n = absurd (n refl)
given-first s f (t ∷ ts) n = (t, (given_of s f (t ∷ ts)).1, refl)

-- one is
pub next-is : (s : FrameTable) → Rests s → TurnsHold s → is_ready s ≡ true → NextIs s
next-is s h k e =
    let r : rested s ≡ s = rests-rested s h in
    let a : is_ready_of s.current s.queue ≡ true = ap (λ (x : FrameTable). is_ready_of x.current s.queue) (sym r) ∙ e in
    let b : next_thread s ≡ next_of s s.current s.queue = ap (λ (x : FrameTable). next_of x x.current s.queue) r in
    go s.current refl s.queue refl a b
  where
    go : (c : Option ℕ) → s.current ≡ c → (q : List ℕ) → s.queue ≡ q → is_ready_of c q ≡ true → next_thread s ≡ next_of s c q → NextIs s
    go None ec [] eq a b = absurd (true≢false (sym a))
    go None ec (f ∷ q) eq a b =
        let i : has s.queue f ≡ true = ap (λ (x : List ℕ). has x f) eq ∙ in-has (f ∷ q) f (inl refl) in
        let g = given-first (record s { queue = q }) f (frame_at s f).ready (k.queued_ready f i) in
        record { frame = f; thread = g.0; table = g.1; is = b ∙ g.2 }
    go (Some f) ec q eq a b =
        let g = given-first s f (frame_at s f).ready (h f ec) in
        record { frame = f; thread = g.0; table = g.1; is = b ∙ g.2 }
