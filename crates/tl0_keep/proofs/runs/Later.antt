-- What is kept of a thread and of slots where a machine or a journal's state changes elsewhere.
use Rattle.std.proofs.Common.{◌≡◌, ℕ, ◌+◌, ◌<◌, ◌≤◌, true, false, not, List, Some, slice_get, length}
use Rattle.std.proofs.Common.{refl, sym, ap, subst, ◌∙◌, inl, inr, ◌⊎◌, arith, true≢false}
use Rattle.tam_word.proofs.Members.{In, Distinct, in-below}
use Rattle.tam_graph.specs.Graphs.{Graph, code_of, kind_at, is_inlet, has_value}
use Rattle.tam_split.specs.GraphPartitions.{Partitions}
use Rattle.tam_split.proofs.Firers.{inlet-value, kind-there}
use Rattle.tam_world.specs.Worlds.{activation_at, its_code}
use Rattle.tam_flow.specs.Journals.{State}
use Rattle.tam_flow.specs.Reached.{IsThere, Has}
use Rattle.frame_tables.specs.FrameTables.{Frame, frame_at}
use Rattle.tl0_code.specs.Machines.{Machine, put, slot}
use Rattle.tl0_code.specs.ThreadCode.{code_text, plain}
use Rattle.tl0_keep.specs.Compiled.{slot_of, compiled_with}
use Rattle.tl0_keep.proofs.giving.Places.{changed-length}
use Rattle.tl0_keep.proofs.code.ThreadKinds.{ThreadKind, Source, Word_of, number_of_thread, sources_of, parts_for, inlet_thread}
use Rattle.tl0_keep.proofs.runs.Keeps.{Owed, ticket, parts_in, HasRun, Posted, Given, Keeps, ThreadKeeps, SlotsKeep}
use Rattle.tl0_keep.proofs.code.CodeFacts.{TextFacts, CodeFacts}
use Rattle.tl0_keep.proofs.runs.Frames.{same-or-other, IsHeld, frame-here, frame-other, held-changed, slot-here, slot-other, slots-set, length-set, turns-slot}

-- ---- a thread

module _ (g : Graph) (all : Partitions) (m u : Machine) (s r : State) (others more : List (ℕ × ThreadKind)) (due late : List Owed) (i : ℕ) (n : ThreadKind)
    (same : (activation_at r.world i).code ≡ (activation_at s.world i).code)
    (counts : (frame_at u.table i).counts ≡ (frame_at m.table i).counts)
    (ready-on : In (number_of_thread (its_code g s.world i) (parts_in g all s others i) n) (frame_at m.table i).ready
    → In (number_of_thread (its_code g s.world i) (parts_in g all s others i) n) (frame_at u.table i).ready)
    (ready-back : In (number_of_thread (its_code g s.world i) (parts_in g all s others i) n) (frame_at u.table i).ready
    → In (number_of_thread (its_code g s.world i) (parts_in g all s others i) n) (frame_at m.table i).ready)
    (on : HasRun g all s others i n → HasRun g all r more i n) (back : HasRun g all r more i n → HasRun g all s others i n)
    (given : (t : Source) → Given g all s others i n t → Given g all r more i n t)
    (old : (t : Source) → Given g all s others i n t → In (ticket i n t) late → In (ticket i n t) due)
    (new : (t : Source) → Given g all r more i n t
    → (Given g all s others i n t × (In (ticket i n t) due → In (ticket i n t) late)) ⊎ In (ticket i n t) late) where
  -- what is said of a number, of the other
  number-on : (P : ℕ → Type 0) → P (number_of_thread (its_code g s.world i) (parts_in g all s others i) n)
      → P (number_of_thread (its_code g r.world i) (parts_in g all r more i) n)
  number-on P h = subst (λ c. P (number_of_thread (code_of g c) (parts_for all c) n)) (sym same) h

  -- and back
  number-back : (P : ℕ → Type 0) → P (number_of_thread (its_code g r.world i) (parts_in g all r more i) n)
      → P (number_of_thread (its_code g s.world i) (parts_in g all s others i) n)
  number-back P h = subst (λ c. P (number_of_thread (code_of g c) (parts_for all c) n)) same h

  -- a thread that the event doesn't touch
  pub thread-later : ThreadKeeps g all m s others due i n → ThreadKeeps g all u r more late i n
  thread-later k = record {
    count = k.count;
    spent = k.spent;
    left = number-on (λ t. slice_get (frame_at u.table i).counts t ≡ Some k.count)
        (subst (λ (cs : List ℕ). slice_get cs (number_of_thread (its_code g s.world i) (parts_in g all s others i) n) ≡ Some k.count) (sym counts) k.left);
    sum = subst (λ c. k.count + length k.spent ≡ length (sources_of (code_of g c) (parts_for all c) n)) (sym same) k.sum;
    once = k.once;
    given = λ t h. given t (k.given t h);
    not_due = λ t h d. k.not_due t h (old t (k.given t h) d);
    spent_or_due = λ t h. elim (new t h) [
      | inr d ↦ inr d
      | inl q ↦ elim (k.spent_or_due t q.0) [ inl a ↦ inl a | inr b ↦ inr (q.1 b) ]
    ];
    ready = λ h. let p = k.ready (ready-back (number-back (λ t. In t (frame_at u.table i).ready) h)) in (p.0, λ q. p.1 (back q));
    ran_or_ready = λ e. elim (k.ran_or_ready e) [ inl a ↦ inl (on a) | inr b ↦ inr (number-on (λ t. In t (frame_at u.table i).ready) (ready-on b)) ];
    ran = λ q. k.ran (back q);
  }

-- where the machine alone changes
pub thread-machine : (g : Graph) (all : Partitions) (m u : Machine) (s : State) (others : List (ℕ × ThreadKind)) (due : List Owed) (i : ℕ) (n : ThreadKind)
    → (frame_at u.table i).counts ≡ (frame_at m.table i).counts → (frame_at u.table i).ready ≡ (frame_at m.table i).ready
    → ThreadKeeps g all m s others due i n → ThreadKeeps g all u s others due i n
thread-machine g all m u s others due i n c r k =
    thread-later g all m u s s others others due due i n refl c
    (λ h. subst (λ (ts : List ℕ). In (number_of_thread (its_code g s.world i) (parts_in g all s others i) n) ts) (sym r) h)
    (λ h. subst (λ (ts : List ℕ). In (number_of_thread (its_code g s.world i) (parts_in g all s others i) n) ts) r h) (λ h. h) (λ h. h) (λ t h. h)
    (λ t h d. d) (λ t h. inl (h, λ d. d)) k

-- ---- a slot is set

module _ (g : Graph) (all : Partitions) (facts : CodeFacts g all) (m : Machine) (s : State) (others : List (ℕ × ThreadKind)) (due : List Owed)
    (keeps : Keeps g all m s others due) (i : ℕ) (l : IsThere s.world i) (a w : ℕ) where
  -- the frame is held
  held : IsHeld m.table i
  held = keeps.frames.live i l

  -- what isn't a slot stays
  stays : {X : Type 0} (f : Frame → X) → ((h : Frame) (xs : List ℕ) → f (record h { slots = xs }) ≡ f h) → (j : ℕ)
      → f (frame_at (put m i a w).table j) ≡ f (frame_at m.table j)
  stays f e j = elim (same-or-other i j) [
    | inl q ↦ subst (λ z. f (frame_at (put m i a w).table z) ≡ f (frame_at m.table z)) q (ap f (frame-here m.table i _ held) ∙ e (frame_at m.table i) _)
    | inr d ↦ ap f (frame-other m.table i j _ d)
  ]

  -- there are as many slots
  sizes : (j : ℕ) → length (frame_at (put m i a w).table j).slots ≡ length (frame_at m.table j).slots
  sizes j = elim (same-or-other i j) [
    | inl q ↦ subst (λ z. length (frame_at (put m i a w).table z).slots ≡ length (frame_at m.table z).slots) q
        (ap length (slots-set m.table i a w held) ∙ length-set (frame_at m.table i).slots a w)
    | inr d ↦ ap (λ (h : Frame). length h.slots) (frame-other m.table i j _ d)
  ]

  -- it's no slot of the caller
  apart : (b : ℕ) → 2 ≤ a → b < 2 → (j : ℕ) → slot (put m i a w) j b ≡ slot m j b
  apart b p q j = slot-other m.table i a w j b held (λ e z. omega arith)

  -- with the slots of the state after it
  pub put-keeps : 2 ≤ a → SlotsKeep g all (put m i a w) s others due → Keeps g all (put m i a w) s others due
  put-keeps p slots = record {
    frames = record {
      frames = changed-length m.table.frames i _ ∙ keeps.frames.frames;
      begun = keeps.frames.begun;
      codes = keeps.frames.codes;
      known = keeps.frames.known;
      live = λ j k. held-changed m.table i j _ (keeps.frames.live j k);
      free = keeps.frames.free;
      caller = λ j k. apart 0 p (omega arith) j ∙ keeps.frames.caller j k;
      root_inlet = apart 1 p (omega arith) 0 ∙ keeps.frames.root_inlet;
      inlet = λ j z k. apart 1 p (omega arith) j ∙ keeps.frames.inlet j z k;
      width = λ j k. sizes j ∙ keeps.frames.width j k;
    };
    slots = slots;
    threads = λ j n k h. thread-machine g all m (put m i a w) s others due j n (stays (λ f. f.counts) (λ f xs. refl) j) (stays (λ f. f.ready) (λ f xs. refl) j)
        (keeps.threads j n k h);
    ready = record {
      once = λ j k. subst (λ (ts : List ℕ). Distinct ts) (sym (stays (λ f. f.ready) (λ f xs. refl) j)) (keeps.ready.once j k);
      threads = λ j t k h. keeps.ready.threads j t k (subst (λ (ts : List ℕ). In t ts) (stays (λ f. f.ready) (λ f xs. refl) j) h);
    };
    turns = turns-slot m.table i a w held keeps.turns;
    messages = record {
      pending = keeps.messages.pending;
      arrays = keeps.messages.arrays;
      printed = keeps.messages.printed;
      fit = keeps.messages.fit;
      readers = keeps.messages.readers;
      arrived_sent = keeps.messages.arrived_sent;
    };
    no_fault = keeps.no_fault;
    others_there = keeps.others_there;
    runs_there = keeps.runs_there;
    due_once = keeps.due_once;
    due_given = keeps.due_given;
  }

-- a slot of an inlet whose ticket is due may be set
module _ (g : Graph) (all : Partitions) (facts : CodeFacts g all) (m : Machine) (s : State) (others : List (ℕ × ThreadKind)) (due : List Owed)
    (keeps : Keeps g all m s others due) (i x w : ℕ) (l : IsThere s.world i) (lx : x < length (its_code g s.world i).nodes)
    (inlet : is_inlet (kind_at (its_code g s.world i) x) ≡ true)
    (owed : In (ticket i (inlet_thread (its_code g s.world i) (parts_in g all s others i) x) (Word_of x)) due) where
  -- the slot
  abbrev a : ℕ
  a = slot_of (its_code g s.world i) x

  -- the code's facts
  text : TextFacts g (its_code g s.world i) (parts_in g all s others i) (code_text (plain (compiled_with g all)) (activation_at s.world i).code)
  text = facts.texts (activation_at s.world i).code (keeps.frames.known i l)

  -- another node has another slot
  differs : (y : ℕ) → y < length (its_code g s.world i).nodes → has_value (kind_at (its_code g s.world i) y) ≡ true → (y ≡ x → ⊥)
      → a ≡ slot_of (its_code g s.world i) y → ⊥
  differs y ly v d e = d (sym (text.slot_one x y lx ly (inlet-value _ inlet) v e))

  -- the slots
  put-slots : SlotsKeep g all (put m i a w) s others due
  put-slots = record {
    own = λ j y v k q p h. elim (same-or-other i j) [
      | inr d ↦ slot-other m.table i a w j (slot_of (its_code g s.world j) y) (keeps.frames.live i l) (λ e z. d e) ∙ keeps.slots.own j y v k q p h
      | inl e ↦ own j e y v k q p h
    ];
    come = λ j y v k ly p h q f. elim (same-or-other i j) [
      | inr d ↦ slot-other m.table i a w j (slot_of (its_code g s.world j) y) (keeps.frames.live i l) (λ e z. d e) ∙ keeps.slots.come j y v k ly p h q f
      | inl e ↦ come j e y v k ly p h q f
    ];
  }
    where
      own : (j : ℕ) → i ≡ j → (y v : ℕ) → IsThere s.world j → has_value (kind_at (its_code g s.world j) y) ≡ true
          → is_inlet (kind_at (its_code g s.world j) y) ≡ false → Has s j y v
          → slot (put m i a w) j (slot_of (its_code g s.world j) y) ≡ v
      own j e = subst (λ j. (y v : ℕ) → IsThere s.world j → has_value (kind_at (its_code g s.world j) y) ≡ true
          → is_inlet (kind_at (its_code g s.world j) y) ≡ false → Has s j y v
          → slot (put m i a w) j (slot_of (its_code g s.world j) y) ≡ v) e
          (λ y v k q p h. slot-other m.table i a w i (slot_of (its_code g s.world i) y) (keeps.frames.live i l)
          (λ z. differs y (value-there y q p) q (λ o. true≢false (sym (subst (λ z. is_inlet (kind_at (its_code g s.world i) z) ≡ true) (sym o) inlet) ∙ p)))
          ∙ keeps.slots.own i y v k q p h)
        where
          value-there : (y : ℕ) → has_value (kind_at (its_code g s.world i) y) ≡ true → is_inlet (kind_at (its_code g s.world i) y) ≡ false
              → y < length (its_code g s.world i).nodes
          value-there y q p = in-below y (length (its_code g s.world i).nodes) (kind-there (its_code g s.world i) y (λ k. not (is_inlet k)) refl (ap not p))

      come : (j : ℕ) → i ≡ j → (y v : ℕ) → IsThere s.world j → y < length (its_code g s.world j).nodes
          → is_inlet (kind_at (its_code g s.world j) y) ≡ true → Has s j y v
          → Posted g all s others j y (kind_at (its_code g s.world j) y)
          → (In (ticket j (inlet_thread (its_code g s.world j) (parts_in g all s others j) y) (Word_of y)) due → ⊥)
          → slot (put m i a w) j (slot_of (its_code g s.world j) y) ≡ v
      come j e = subst (λ j. (y v : ℕ) → IsThere s.world j → y < length (its_code g s.world j).nodes
          → is_inlet (kind_at (its_code g s.world j) y) ≡ true → Has s j y v
          → Posted g all s others j y (kind_at (its_code g s.world j) y)
          → (In (ticket j (inlet_thread (its_code g s.world j) (parts_in g all s others j) y) (Word_of y)) due → ⊥)
          → slot (put m i a w) j (slot_of (its_code g s.world j) y) ≡ v) e
          (λ y v k ly p h q f. slot-other m.table i a w i (slot_of (its_code g s.world i) y) (keeps.frames.live i l)
          (λ z. differs y ly (inlet-value _ p) (λ o. f
          (subst (λ z. In (ticket i (inlet_thread (its_code g s.world i) (parts_in g all s others i) z) (Word_of z)) due)
          (sym o) owed)))
          ∙ keeps.slots.come i y v k ly p h q f)

  -- the whole
  pub put-due : Keeps g all (put m i a w) s others due
  put-due = put-keeps g all facts m s others due keeps i l a w (text.slot_high x lx (inlet-value _ inlet)) put-slots

  -- it has the word
  pub put-there : slot (put m i a w) i a ≡ w
  put-there = slot-here m.table i a w (keeps.frames.live i l)
      (let p = text.slot_below x lx (inlet-value _ inlet) in let q = facts.slots (activation_at s.world i).code (keeps.frames.known i l) in
      let e = keeps.frames.width i l in omega arith)
