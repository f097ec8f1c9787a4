-- What a run leaves of a frame: what it owes, and which of its threads have run, told by entry counts and ready lists alone.
use Rattle.std.proofs.Common.{◌≡◌, ℕ, zero, suc, ◌<◌, true, List, [], ◌∷◌, Option, Some, None, slice_get, slice_set, length, refl, sym, ap, subst}
use Rattle.std.proofs.Common.{◌∙◌, arith, inl, inr, ◌⊎◌, true≢false}
use Rattle.std.proofs.lemmas.Option.{none-some, same_Some, slice_get_within}
use Rattle.tam_word.proofs.Members.{In, Distinct}
use Rattle.tam_msgs.specs.Runs.{WildCause, Wild_thread}
use Rattle.frame_tables.specs.FrameTables.{Frame, FrameTable, or_frame, no_frame, frame_at, changed_in, changed, spent, rested, given_of, next_of, next_thread}
use Rattle.tl0_code.specs.declared.instr.Instr.{Instr}
use Rattle.tl0_code.specs.declared.instr.Instr.TheVariants.{Imm, Mov, Op as Operate, Fork, Switch, Falloc, Send, Ret, Ialloc, Ifetch, Istore, Skip}
use Rattle.tl0_code.specs.ThreadCode.{is_plain}
use Rattle.tl0_code.specs.Machines.{Machine, Plain, Owing, put, slot, branch, Progress, Fine, Broken, spend_of, spend, done, then_do, done_all}
use Rattle.tl0_keep.proofs.giving.Places.{get-set-here, get-set-other, changed-length}
use Rattle.tl0_keep.proofs.runs.Frames.{same-or-other, IsHeld, frame-here, frame-other, ready_with, SpendLeaves, spent-leaves}
use Rattle.tl0_keep.proofs.runs.Spending.{index-get}

-- ---- what has run

-- thread t of frame i has run: nothing is left of its entry count, and it isn't ready
pub record IsRun (s : FrameTable) (i t : ℕ) : Type 0 where
  pub zero_left : slice_get (frame_at s i).counts t ≡ Some 0
  pub not_ready : In t (frame_at s i).ready → ⊥

-- a frame goes on: it owes as much, and the threads that have run are those that had
pub record Goes (h k : Frame) : Type 0 where
  pub owed : k.owed ≡ h.owed
  pub ran : (t : ℕ) → slice_get h.counts t ≡ Some 0 → (In t h.ready → ⊥) → (slice_get k.counts t ≡ Some 0) × (In t k.ready → ⊥)
  pub back : (t : ℕ) → slice_get k.counts t ≡ Some 0 → (In t k.ready → ⊥) → (slice_get h.counts t ≡ Some 0) × (In t h.ready → ⊥)

-- it stays
pub goes-same : (h : Frame) → Goes h h
goes-same h = record { owed = refl; ran = λ t z r. (z, r); back = λ t z r. (z, r) }

-- twice
pub goes-twice : (h k l : Frame) → Goes h k → Goes k l → Goes h l
goes-twice h k l a b = record {
  owed = b.owed ∙ a.owed;
  ran = λ t z r. let x = a.ran t z r in b.ran t x.0 x.1;
  back = λ t z r. let x = b.back t z r in a.back t x.0 x.1;
}

-- each frame goes on
pub record TableGoes (s u : FrameTable) : Type 0 where
  pub frames : length u.frames ≡ length s.frames
  pub goes : (i : ℕ) → Goes (frame_at s i) (frame_at u i)

-- those of a machine, with their codes
pub record MachineGoes (m k : Machine) : Type 0 where
  pub table : TableGoes m.table k.table
  pub codes : k.codes ≡ m.codes

-- nothing is done
pub machine-same : (m : Machine) → MachineGoes m m
machine-same m = record { table = record { frames = refl; goes = λ i. goes-same (frame_at m.table i) }; codes = refl }

-- one after the other
pub machine-twice : (m k n : Machine) → MachineGoes m k → MachineGoes k n → MachineGoes m n
machine-twice m k n a b = record {
  table = record {
    frames = b.table.frames ∙ a.table.frames;
    goes = λ i. goes-twice (frame_at m.table i) (frame_at k.table i) (frame_at n.table i) (a.table.goes i) (b.table.goes i);
  };
  codes = b.codes ∙ a.codes;
}

-- what has run has run
pub ran-on : (s u : FrameTable) (i : ℕ) → Goes (frame_at s i) (frame_at u i) → (t : ℕ) → IsRun s i t → IsRun u i t
ran-on s u i g t r = let x = g.ran t r.zero_left r.not_ready in record { zero_left = x.0; not_ready = x.1 }

-- and nothing else has
pub ran-back : (s u : FrameTable) (i : ℕ) → Goes (frame_at s i) (frame_at u i) → (t : ℕ) → IsRun u i t → IsRun s i t
ran-back s u i g t r = let x = g.back t r.zero_left r.not_ready in record { zero_left = x.0; not_ready = x.1 }

-- so it is where a frame counts and is ready as another
pub ran-as : (s u : FrameTable) (i : ℕ) → (frame_at u i).counts ≡ (frame_at s i).counts → (frame_at u i).ready ≡ (frame_at s i).ready → (t : ℕ) → IsRun s i t
    → IsRun u i t
ran-as s u i c e t r = record {
  zero_left = ap (λ (xs : List ℕ). slice_get xs t) c ∙ r.zero_left;
  not_ready = λ q. r.not_ready (subst (λ (xs : List ℕ). In t xs) e q);
}

-- ---- changes

-- of one frame
changed-at : (hs : List (Option Frame)) (f : ℕ) (change : Frame → Frame) → ((h : Frame) → Goes h (change h)) → (i : ℕ)
    → Goes (or_frame (slice_get hs i)) (or_frame (slice_get (changed_in hs f change) i))
changed-at [] f change g i = goes-same no_frame
changed-at (None ∷ hs) zero change g i = goes-same (or_frame (slice_get (None ∷ hs) i))
changed-at (Some h ∷ hs) zero change g zero = g h
changed-at (Some h ∷ hs) zero change g (suc i) = goes-same (or_frame (slice_get hs i))
changed-at (None ∷ hs) (suc f) change g zero = goes-same no_frame
changed-at (Some h ∷ hs) (suc f) change g zero = goes-same h
changed-at (None ∷ hs) (suc f) change g (suc i) = changed-at hs f change g i
changed-at (Some h ∷ hs) (suc f) change g (suc i) = changed-at hs f change g i

-- a table in which one frame goes on goes on
pub changed-goes : (s : FrameTable) (f : ℕ) (change : Frame → Frame) → ((h : Frame) → Goes h (change h)) → TableGoes s (changed s f change)
changed-goes s f change g = record { frames = changed-length s.frames f change; goes = λ i. changed-at s.frames f change g i }

-- a slot is set
pub put-goes : (m : Machine) (f a w : ℕ) → MachineGoes m (put m f a w)
put-goes m f a w = record {
  table = changed-goes m.table f (λ h. record h { slots = slice_set h.slots a w })
      (λ h. record { owed = refl; ran = λ t z r. (z, r); back = λ t z r. (z, r) });
  codes = refl;
}

-- a frame with an entry count is held
pub held-count : (s : FrameTable) (f t n : ℕ) → slice_get (frame_at s f).counts t ≡ Some n → IsHeld s f
held-count s f t n e = go (slice_get s.frames f) refl e
  where
    go : (o : Option (Option Frame)) → slice_get s.frames f ≡ o → slice_get (or_frame o).counts t ≡ Some n → IsHeld s f
    go None p q = absurd (none-some n q)
    go (Some None) p q = absurd (none-some n q)
    go (Some (Some h)) p q = (h, p)

-- and so is one with a ready thread
pub held-ready : (s : FrameTable) (f t : ℕ) → In t (frame_at s f).ready → IsHeld s f
held-ready s f t e = go (slice_get s.frames f) refl e
  where
    go : (o : Option (Option Frame)) → slice_get s.frames f ≡ o → In t (or_frame o).ready → IsHeld s f
    go None p q = absurd q
    go (Some None) p q = absurd q
    go (Some (Some h)) p q = (h, p)

-- who is held is there
pub held-there : (s : FrameTable) (f : ℕ) → IsHeld s f → f < length s.frames
held-there s f h = slice_get_within s.frames f (Some h.0) h.1

-- of a count that isn't 0
some-suc : (n : ℕ) → Some 0 ≡ Some (suc n) → ⊥
some-suc n e = let z = same_Some 0 (suc n) e in absurd (omega arith)

-- one of an entry count is spent
spent-goes : (s : FrameTable) (f t n : ℕ) → slice_get (frame_at s f).counts t ≡ Some (suc n) → TableGoes s (spent s f t)
spent-goes s f t n e = record {
  frames = leaves.frames;
  goes = λ i. elim (same-or-other f i) [
    | inl z ↦ subst (λ j. Goes (frame_at s j) (frame_at (spent s f t) j)) z (subst (Goes (frame_at s f)) (sym leaves.here) here)
    | inr d ↦ subst (Goes (frame_at s i)) (sym (leaves.other i d)) (goes-same (frame_at s i))
  ];
}
  where
    leaves : SpendLeaves s (spent s f t) f t n
    leaves = spent-leaves s f t n (held-count s f t (suc n) e) (index-get (frame_at s f).counts t (suc n) e)

    apart : (u : ℕ) → slice_get (frame_at s f).counts u ≡ Some 0 → t ≡ u → ⊥
    apart u z q = some-suc n (sym z ∙ subst (λ y. slice_get (frame_at s f).counts y ≡ Some (suc n)) q e)

    not_ready : (k u : ℕ) → (t ≡ u → ⊥) → (In u (frame_at s f).ready → ⊥) → In u (ready_with k t (frame_at s f).ready) → ⊥
    not_ready zero u d r (inl q) = d q
    not_ready zero u d r (inr q) = r q
    not_ready (suc k) u d r q = r q

    -- where nothing is left, the thread is ready
    spent-ready : (k u : ℕ) → t ≡ u → k ≡ 0 → (In u (ready_with k t (frame_at s f).ready) → ⊥) → ⊥
    spent-ready zero u q z r = r (inl q)
    spent-ready (suc k) u q z r = absurd (omega arith)

    ready_on : (k u : ℕ) → In u (frame_at s f).ready → In u (ready_with k t (frame_at s f).ready)
    ready_on zero u i = inr i
    ready_on (suc k) u i = i

    here : Goes (frame_at s f) (record (frame_at s f) { counts = slice_set (frame_at s f).counts t n; ready = ready_with n t (frame_at s f).ready })
    here = record {
      owed = refl;
      ran = λ u z r. (get-set-other (frame_at s f).counts t u n (apart u z) ∙ z, not_ready n u (apart u z) r);
      back = λ u z r. elim (same-or-other t u) [
        | inl q ↦ absurd (spent-ready n u q (same_Some n 0 (sym (get-set-here (frame_at s f).counts t n (slice_get_within (frame_at s f).counts t (suc n) e))
            ∙ (ap (slice_get (slice_set (frame_at s f).counts t n)) q ∙ z))) r)
        | inr d ↦ (sym (get-set-other (frame_at s f).counts t u n d) ∙ z, λ i. r (ready_on n u i))
      ];
    }

-- what ends well
pub fine-eq : {m k : Machine} → Fine m ≡ Fine k → m ≡ k
fine-eq e = cc

-- what broke off is not fine
pub broken-fine : {m : Machine} {what : WildCause} {n : ℕ} → Broken what n ≡ Fine m → ⊥
broken-fine e = cc

-- a table in which a count is spent goes on
pub spend-goes : (m k : Machine) (f t : ℕ) → spend m f t ≡ Fine k → MachineGoes m k
spend-goes m k f t e = go (slice_get (frame_at m.table f).counts t) refl e
  where
    go : (o : Option ℕ) → slice_get (frame_at m.table f).counts t ≡ o → spend_of m f t o ≡ Fine k → MachineGoes m k
    go None p q = absurd (broken-fine q)
    go (Some zero) p q = absurd (broken-fine q)
    go (Some (suc n)) p q = subst (MachineGoes m) (fine-eq q) (record { table = spent-goes m.table f t n p; codes = refl })

-- ---- instructions that aren't skips

-- one
done-goes : (m k : Machine) (f : ℕ) (i : Instr) → done Plain m f i ≡ Fine k → MachineGoes m k
done-goes m k f (Imm d w) e = subst (MachineGoes m) (fine-eq e) (put-goes m f d w)
done-goes m k f (Mov d a) e = subst (MachineGoes m) (fine-eq e) (put-goes m f d (slot m f a))
done-goes m k f (Operate o d a b) e = subst (MachineGoes m) (fine-eq e) (put-goes m f d _)
done-goes m k f (Fork t) e = spend-goes m k f t e
done-goes m k f (Switch s t u) e = spend-goes m k f (branch (slot m f s) t u) e
done-goes m k f (Falloc c i) e = subst (MachineGoes m) (fine-eq e) (record { table = (machine-same m).table; codes = refl })
done-goes m k f (Send r i a) e = subst (MachineGoes m) (fine-eq e) (record { table = (machine-same m).table; codes = refl })
done-goes m k f (Ret q a) e = subst (MachineGoes m) (fine-eq e) (record { table = (machine-same m).table; codes = refl })
done-goes m k f (Ialloc n i) e = subst (MachineGoes m) (fine-eq e) (record { table = (machine-same m).table; codes = refl })
done-goes m k f (Ifetch r x i n) e = subst (MachineGoes m) (fine-eq e) (record { table = (machine-same m).table; codes = refl })
done-goes m k f (Istore r x a n) e = subst (MachineGoes m) (fine-eq e) (record { table = (machine-same m).table; codes = refl })
done-goes m k f (Skip n) e = subst (MachineGoes m) (fine-eq e) (machine-same m)

-- several
pub all-goes : (m k : Machine) (f : ℕ) (is : List Instr) → done_all Plain m f is ≡ Fine k → MachineGoes m k
all-goes m k f [] e = subst (MachineGoes m) (fine-eq e) (machine-same m)
all-goes m k f (i ∷ is) e = go (done Plain m f i) refl e (λ n q. all-goes n k f is q)
  where
    go : (r : Progress) → done Plain m f i ≡ r → then_do r (λ n. done_all Plain n f is) ≡ Fine k
        → ((n : Machine) → done_all Plain n f is ≡ Fine k → MachineGoes n k) → MachineGoes m k
    go (Fine n) p q on = machine-twice m n k (done-goes m n f i p) (on n q)
    go (Broken what n) p q on = absurd (broken-fine q)

-- instructions without a skip
abbrev pub HaveNoSkip : List Instr → Type 0
HaveNoSkip is = (i : Instr) → In i is → is_plain i ≡ true

-- one does the same in both forms
done-plain : (m : Machine) (f : ℕ) (i : Instr) → is_plain i ≡ true → done Owing m f i ≡ done Plain m f i
done-plain m f (Skip n) plain = absurd (true≢false (sym plain))
done-plain m f i plain = refl

-- and several
pub all-plain : (m : Machine) (f : ℕ) (is : List Instr) → HaveNoSkip is → done_all Owing m f is ≡ done_all Plain m f is
all-plain m f [] h = refl
all-plain m f (i ∷ is) h =
    ap (λ (r : Progress). then_do r (λ n. done_all Owing n f is)) (done-plain m f i (h i (inl refl)))
    ∙ go (done Plain m f i) (λ n. all-plain n f is (λ j q. h j (inr q)))
  where
    go : (r : Progress) → ((n : Machine) → done_all Owing n f is ≡ done_all Plain n f is)
        → then_do r (λ n. done_all Owing n f is) ≡ then_do r (λ n. done_all Plain n f is)
    go (Fine n) on = on n
    go (Broken what n) on = refl

-- ---- the next thread

-- what taking thread t of frame f leaves
pub record Leaves (s after : FrameTable) (f t : ℕ) : Type 0 where
  pub rest : List ℕ
  pub was : (frame_at s f).ready ≡ t ∷ rest
  pub frames : after.frames ≡ (changed s f (λ h. record h { ready = rest })).frames

-- two answers
abbrev an-answer : Option (ℕ × ℕ) → FrameTable → Option (ℕ × ℕ) × FrameTable
an-answer o s = (o, s)

some-pair : {a b c d : ℕ} {s u : FrameTable} → an-answer (Some (a, b)) s ≡ an-answer (Some (c, d)) u → (a ≡ c) × (b ≡ d) × (s ≡ u)
some-pair {a} {b} {c} {d} {s} {u} e =
    let q : Some (a, b) ≡ Some (c, d) = ap (λ (z : Option (ℕ × ℕ) × FrameTable). z.0) e in
    let r : (a, b) ≡ (c, d) = same_Some (a, b) (c, d) q in
    (ap (λ (z : ℕ × ℕ). z.0) r, ap (λ (z : ℕ × ℕ). z.1) r, ap (λ (z : Option (ℕ × ℕ) × FrameTable). z.1) e)

-- no thread
none-pair : {c d : ℕ} {s u : FrameTable} → an-answer None s ≡ an-answer (Some (c, d)) u → ⊥
none-pair {c} {d} e = none-some (c, d) (ap (λ (z : Option (ℕ × ℕ) × FrameTable). z.0) e)

-- the next thread is the first of its frame's ready list
pub taken-leaves : (s after : FrameTable) (f t : ℕ) → next_thread s ≡ (Some (f, t), after) → Leaves s after f t
taken-leaves s after f t e = go (rested s).current s.queue e
  where
    given : (c : Option ℕ) (q : List ℕ) (d : ℕ) (ready : List ℕ) → (frame_at s d).ready ≡ ready
        → given_of (record s { queue = q; current = c }) d ready ≡ (Some (f, t), after) → Leaves s after f t
    given c q d [] r h = absurd (none-pair h)
    given c q d (x ∷ xs) r h =
        let z = some-pair h in
        record {
          rest = xs;
          was = subst (λ y. (frame_at s y).ready ≡ t ∷ xs) z.0 (r ∙ ap (λ y. y ∷ xs) z.1);
          frames = sym (ap (λ (u : FrameTable). u.frames) z.2) ∙ ap (λ y. (changed s y (λ h. record h { ready = xs })).frames) z.0;
        }

    go : (c : Option ℕ) (q : List ℕ) → next_of (rested s) c q ≡ (Some (f, t), after) → Leaves s after f t
    go (Some d) q h = given (rested s).current s.queue d (frame_at s d).ready refl h
    go None [] h = absurd (none-pair h)
    go None (d ∷ q) h = given (rested s).current q d (frame_at s d).ready refl h

-- the frame then
pub taken-here : (s after : FrameTable) (f t : ℕ) (l : Leaves s after f t) → frame_at after f ≡ record (frame_at s f) { ready = l.rest }
taken-here s after f t l = ap (λ (hs : List (Option Frame)). or_frame (slice_get hs f)) l.frames
    ∙ frame-here s f (λ h. record h { ready = l.rest }) (held-ready s f t (subst (In t) (sym l.was) (inl refl)))

-- so other frames go on, each owes as much, and only this thread has run besides
pub record TakenGoes (s after : FrameTable) (f t : ℕ) : Type 0 where
  pub frames : length after.frames ≡ length s.frames
  pub owed : (i : ℕ) → (frame_at after i).owed ≡ (frame_at s i).owed
  pub ran : (i u : ℕ) → IsRun s i u → IsRun after i u
  pub back : (u : ℕ) → IsRun after f u → (t ≡ u) ⊎ IsRun s f u
  pub others : (i : ℕ) → (f ≡ i → ⊥) → Goes (frame_at s i) (frame_at after i)

-- so does one from which a ready thread is taken
pub taken-goes : (s after : FrameTable) (f t : ℕ) → Leaves s after f t → TakenGoes s after f t
taken-goes s after f t l = record {
  frames = ap length l.frames ∙ changed-length s.frames f (λ h. record h { ready = l.rest });
  owed = λ i. elim (same-or-other f i) [
    | inl z ↦ subst (λ j. (frame_at after j).owed ≡ (frame_at s j).owed) z (ap (λ (h : Frame). h.owed) (taken-here s after f t l))
    | inr d ↦ ap (λ (h : Frame). h.owed) (other i d)
  ];
  ran = λ i u r. elim (same-or-other f i) [
    | inl z ↦ subst (λ j. IsRun s j u → IsRun after j u) z (here-ran u) r
    | inr d ↦ ran-as s after i (ap (λ (h : Frame). h.counts) (other i d)) (ap (λ (h : Frame). h.ready) (other i d)) u r
  ];
  back = λ u r. elim (same-or-other t u) [
    | inl q ↦ inl q
    | inr d ↦ inr (record {
      zero_left = ap (λ (h : Frame). slice_get h.counts u) (sym (taken-here s after f t l)) ∙ r.zero_left;
      not_ready = λ i. elim (subst (In u) l.was i) [
        | inl q ↦ d q
        | inr q ↦ r.not_ready (subst (λ (h : Frame). In u h.ready) (sym (taken-here s after f t l)) q)
      ];
    })
  ];
  others = λ i d. subst (Goes (frame_at s i)) (sym (other i d)) (goes-same (frame_at s i));
}
  where
    other : (i : ℕ) → (f ≡ i → ⊥) → frame_at after i ≡ frame_at s i
    other i d = ap (λ (hs : List (Option Frame)). or_frame (slice_get hs i)) l.frames ∙ frame-other s f i (λ h. record h { ready = l.rest }) d

    here-ran : (u : ℕ) → IsRun s f u → IsRun after f u
    here-ran u r = record {
      zero_left = ap (λ (h : Frame). slice_get h.counts u) (taken-here s after f t l) ∙ r.zero_left;
      not_ready = λ q. r.not_ready (subst (In u) (sym l.was) (inr (subst (λ (h : Frame). In u h.ready) (taken-here s after f t l) q)));
    }

-- and the thread has run, if nothing is left of its entry count and it was ready once
pub taken-run : (s after : FrameTable) (f t : ℕ) → Leaves s after f t → slice_get (frame_at s f).counts t ≡ Some 0 → Distinct (frame_at s f).ready
    → IsRun after f t
taken-run s after f t l z d = record {
  zero_left = ap (λ (h : Frame). slice_get h.counts t) (taken-here s after f t l) ∙ z;
  not_ready = λ q. (subst (λ (xs : List ℕ). Distinct xs) l.was d).0 (subst (λ (h : Frame). In t h.ready) (taken-here s after f t l) q);
}

-- ---- instructions that aren't skips break by a thread alone

-- where the instructions of a plain thread break off, so do those that owe
pub plain-broken : (m : Machine) (f : ℕ) (is : List Instr) (what : WildCause) (x : ℕ) → done_all Plain m f is ≡ Broken what x
    → what ≡ Wild_thread
plain-broken m f [] what x e = absurd (broken-fine (sym e))
plain-broken m f (i ∷ is) what x e = go (done Plain m f i) refl e (λ n q. plain-broken n f is what x q)
  where
    cause : {a b : WildCause} {n k : ℕ} → Broken a n ≡ Broken b k → a ≡ b
    cause q = cc

    spends : (t : ℕ) (o : Option ℕ) (a : WildCause) (n : ℕ) → spend_of m f t o ≡ Broken a n → a ≡ Wild_thread
    spends t None a n q = sym (cause q)
    spends t (Some zero) a n q = sym (cause q)
    spends t (Some (suc k)) a n q = absurd (broken-fine (sym q))

    one : (i : Instr) (a : WildCause) (n : ℕ) → done Plain m f i ≡ Broken a n → a ≡ Wild_thread
    one (Fork t) a n q = spends t (slice_get (frame_at m.table f).counts t) a n q
    one (Switch s t u) a n q = spends (branch (slot m f s) t u) (slice_get (frame_at m.table f).counts (branch (slot m f s) t u)) a n q
    one (Imm d w) a n q = absurd (broken-fine (sym q))
    one (Mov d w) a n q = absurd (broken-fine (sym q))
    one (Operate o d w y) a n q = absurd (broken-fine (sym q))
    one (Falloc d w) a n q = absurd (broken-fine (sym q))
    one (Send d w y) a n q = absurd (broken-fine (sym q))
    one (Ret d w) a n q = absurd (broken-fine (sym q))
    one (Ialloc d w) a n q = absurd (broken-fine (sym q))
    one (Ifetch d w y z) a n q = absurd (broken-fine (sym q))
    one (Istore d w y z) a n q = absurd (broken-fine (sym q))
    one (Skip d) a n q = absurd (broken-fine (sym q))

    go : (r : Progress) → done Plain m f i ≡ r → then_do r (λ n. done_all Plain n f is) ≡ Broken what x
        → ((n : Machine) → done_all Plain n f is ≡ Broken what x → what ≡ Wild_thread) → what ≡ Wild_thread
    go (Fine n) p q on = on n q
    go (Broken a n) p q on = sym (cause q) ∙ one i a n p
