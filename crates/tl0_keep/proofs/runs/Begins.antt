-- A thread begins to run: it is taken, counts as one that has run, and what it is to spend is due.
use Rattle.std.proofs.Common.{◌≡◌, ℕ, ◌<◌, true, List, [], Some, slice_get, slice_index, length}
use Rattle.std.proofs.Common.{refl, sym, ap, subst, ◌∙◌, inl, inr, ◌⊎◌}
use Rattle.tam_word.proofs.Members.{In, Distinct}
use Rattle.tam_graph.specs.Graphs.{Graph, kind_at, is_inlet}
use Rattle.tam_split.specs.GraphPartitions.{Partitions}
use Rattle.tam_world.specs.Worlds.{activation_at, its_code}
use Rattle.tam_flow.specs.Journals.{State, has_run}
use Rattle.tam_flow.specs.Reached.{IsThere, Has}
use Rattle.frame_tables.specs.FrameTables.{Frame, frame_at}
use Rattle.tl0_code.specs.Machines.{Machine, slot}
use Rattle.tl0_code.specs.ThreadCode.{code_text, plain}
use Rattle.tl0_keep.specs.Compiled.{slot_of, compiled_with}
use Rattle.tl0_keep.proofs.code.ThreadKinds.{ThreadKind, Source, Word_of, number_of_thread, IsThread, inlet_thread}
use Rattle.tl0_keep.proofs.runs.Keeps.{Owed, ticket, parts_in, HasRun, Posted, Given, Keeps, ThreadKeeps}
use Rattle.tl0_keep.proofs.code.CodeFacts.{TextFacts, CodeFacts}
use Rattle.tl0_keep.proofs.runs.Frames.{same-or-other}
use Rattle.tl0_keep.proofs.runs.Taking.{Takes}
use Rattle.tl0_keep.proofs.runs.Later.{thread-later}

-- the state with these runs
abbrev pub with_ran : State → List (ℕ × ℕ × ℕ) → State
with_ran s runs = record s { ran = runs }

module _ (g : Graph) (all : Partitions) (facts : CodeFacts g all) (m : Machine) (s : State) (others more : List (ℕ × ThreadKind)) (runs : List (ℕ × ℕ × ℕ))
    (due : List Owed) (keeps : Keeps g all m s others []) (takes : Takes m.table) (n : ThreadKind) (l : IsThere s.world takes.frame)
    (thread : IsThread (its_code g s.world takes.frame) (parts_in g all s others takes.frame) n)
    (number : number_of_thread (its_code g s.world takes.frame) (parts_in g all s others takes.frame) n ≡ takes.thread)
    (on : (j : ℕ) (o : ThreadKind) → HasRun g all s others j o → HasRun g all (with_ran s runs) more j o)
    (back : (j : ℕ) (o : ThreadKind) → HasRun g all (with_ran s runs) more j o → HasRun g all s others j o ⊎ ((takes.frame ≡ j) × (n ≡ o)))
    (now : HasRun g all (with_ran s runs) more takes.frame n)
    (given-on : (j : ℕ) (o : ThreadKind) (t : Source) → Given g all s others j o t → Given g all (with_ran s runs) more j o t)
    (given-back : (j : ℕ) (o : ThreadKind) (t : Source) → Given g all (with_ran s runs) more j o t → Given g all s others j o t ⊎ In (ticket j o t) due)
    (due-new : (j : ℕ) (o : ThreadKind) (t : Source) → In (ticket j o t) due → Given g all s others j o t → ⊥)
    (due-given : (j : ℕ) (o : ThreadKind) (t : Source) → In (ticket j o t) due → Given g all (with_ran s runs) more j o t) (once : Distinct due)
    (more-there : (j : ℕ) (o : ThreadKind) → In (j, o) more → IsThere s.world j)
    (runs-there : (j b k : ℕ) → has_run (with_ran s runs) j b k ≡ true → IsThere s.world j) where
  -- the machine
  abbrev pub begun-state : Machine
  begun-state = record m { table = takes.after }

  -- the number of a thread of activation j
  abbrev num : ℕ → ThreadKind → ℕ
  num j o = number_of_thread (its_code g s.world j) (parts_in g all s others j) o

  -- the code's facts
  text : (j : ℕ) → IsThere s.world j
      → TextFacts g (its_code g s.world j) (parts_in g all s others j) (code_text (plain (compiled_with g all)) (activation_at s.world j).code)
  text j k = facts.texts (activation_at s.world j).code (keeps.frames.known j k)

  -- the taken thread, before
  before : ThreadKeeps g all m s others [] takes.frame n
  before = keeps.threads takes.frame n l thread

  -- it stood first in its list
  was-ready : In (num takes.frame n) (frame_at m.table takes.frame).ready
  was-ready = subst (λ (ts : List ℕ). In (num takes.frame n) ts) (sym takes.was) (inl (sym number))

  -- and stands there once
  rest-once : (In takes.thread takes.rest → ⊥) × Distinct takes.rest
  rest-once = subst (λ (ts : List ℕ). Distinct ts) takes.was (keeps.ready.once takes.frame l)

  -- slots and counts stay
  same : {X : Type 0} (f : Frame → X) → ((h : Frame) (ts : List ℕ) → f (record h { ready = ts }) ≡ f h) → (j : ℕ)
      → f (frame_at takes.after j) ≡ f (frame_at m.table j)
  same f e j = elim (same-or-other takes.frame j) [
    | inl q ↦ subst (λ z. f (frame_at takes.after z) ≡ f (frame_at m.table z)) q (ap f takes.here ∙ e (frame_at m.table takes.frame) takes.rest)
    | inr d ↦ ap f (takes.other j d)
  ]

  -- each slot
  slot-same : (j a : ℕ) → slot begun-state j a ≡ slot m j a
  slot-same j a = ap (λ (xs : List ℕ). slice_index xs a) (same (λ h. h.slots) (λ h ts. refl) j)

  -- what is ready still was
  ready-before : (j t : ℕ) → In t (frame_at takes.after j).ready → In t (frame_at m.table j).ready
  ready-before j t h = elim (same-or-other takes.frame j) [
    | inr d ↦ subst (λ (f : Frame). In t f.ready) (takes.other j d) h
    | inl e ↦ subst (λ z. In t (frame_at takes.after z).ready → In t (frame_at m.table z).ready) e
        (λ q. subst (λ (ts : List ℕ). In t ts) (sym takes.was) (inr (subst (λ (f : Frame). In t f.ready) takes.here q))) h
  ]

  -- the taken thread
  own : ThreadKeeps g all begun-state (with_ran s runs) more due takes.frame n
  own = record {
    count = before.count;
    spent = before.spent;
    left = subst (λ (cs : List ℕ). slice_get cs (num takes.frame n) ≡ Some before.count) (sym (same (λ h. h.counts) (λ h ts. refl) takes.frame)) before.left;
    sum = before.sum;
    once = before.once;
    given = λ t h. given-on takes.frame n t (before.given t h);
    not_due = λ t h d. due-new takes.frame n t d (before.given t h);
    spent_or_due = λ t h. elim (given-back takes.frame n t h) [
      | inl a ↦ elim (before.spent_or_due t a) [ inl b ↦ inl b | inr b ↦ absurd b ]
      | inr d ↦ inr d
    ];
    ready = λ h. absurd (rest-once.0 (subst (λ z. In z takes.rest) number (subst (λ (f : Frame). In (num takes.frame n) f.ready) takes.here h)));
    ran_or_ready = λ e. inl now;
    ran = λ h. (before.ready was-ready).0;
  }

  -- another
  another : (j : ℕ) (o : ThreadKind) → (takes.frame ≡ j → n ≡ o → ⊥) → IsThere s.world j → IsThread (its_code g s.world j) (parts_in g all s others j) o
      → (In (num j o) (frame_at m.table j).ready → In (num j o) (frame_at takes.after j).ready)
      → ThreadKeeps g all begun-state (with_ran s runs) more due j o
  another j o d k h ready =
      thread-later g all m begun-state s (with_ran s runs) others more [] due j o refl (same (λ h. h.counts) (λ h ts. refl) j) ready (ready-before j (num j o))
      (on j o) (λ q. elim (back j o q) [ inl a ↦ a | inr b ↦ absurd (d b.0 b.1) ]) (λ t q. given-on j o t q)
      (λ t q z. absurd (due-new j o t z q)) (λ t q. elim (given-back j o t q) [ inl a ↦ inl (a, λ z. absurd z) | inr b ↦ inr b ]) (keeps.threads j o k h)

  -- each
  threads : (j : ℕ) (o : ThreadKind) → IsThere s.world j → IsThread (its_code g s.world j) (parts_in g all s others j) o
      → ThreadKeeps g all begun-state (with_ran s runs) more due j o
  threads j o k h = elim (same-or-other takes.frame j) [
    | inr d ↦ another j o (λ e z. d e) k h (λ q. subst (λ (f : Frame). In (num j o) f.ready) (sym (takes.other j d)) q)
    | inl e ↦ here j e o k h
  ]
    where
      mine : (o : ThreadKind) → IsThere s.world takes.frame → IsThread (its_code g s.world takes.frame) (parts_in g all s others takes.frame) o
          → ThreadKeeps g all begun-state (with_ran s runs) more due takes.frame o
      mine o k h = elim (same-or-other (num takes.frame n) (num takes.frame o)) [
        | inl e ↦ subst (ThreadKeeps g all begun-state (with_ran s runs) more due takes.frame) ((text takes.frame k).number_one n o thread h e) own
        | inr d ↦ another takes.frame o (λ e z. d (ap (num takes.frame) z)) k h (λ q. subst (λ (f : Frame). In (num takes.frame o) f.ready) (sym takes.here)
            (elim (subst (λ (ts : List ℕ). In (num takes.frame o) ts) takes.was q) [ inl e ↦ absurd (d (number ∙ e)) | inr b ↦ b ]))
      ]

      here : (j : ℕ) → takes.frame ≡ j → (o : ThreadKind) → IsThere s.world j → IsThread (its_code g s.world j) (parts_in g all s others j) o
          → ThreadKeeps g all begun-state (with_ran s runs) more due j o
      here j e = subst (λ j. (o : ThreadKind) → IsThere s.world j → IsThread (its_code g s.world j) (parts_in g all s others j) o
          → ThreadKeeps g all begun-state (with_ran s runs) more due j o) e mine

  -- the whole
  pub begins : Keeps g all begun-state (with_ran s runs) more due
  begins = record {
    frames = record {
      frames = takes.frames ∙ keeps.frames.frames;
      begun = keeps.frames.begun;
      codes = keeps.frames.codes;
      known = keeps.frames.known;
      live = λ j k. takes.held j (keeps.frames.live j k);
      free = takes.free ∙ keeps.frames.free;
      caller = λ j k. slot-same j 0 ∙ keeps.frames.caller j k;
      root_inlet = slot-same 0 1 ∙ keeps.frames.root_inlet;
      inlet = λ j p k. slot-same j 1 ∙ keeps.frames.inlet j p k;
      width = λ j k. ap length (same (λ h. h.slots) (λ h ts. refl) j) ∙ keeps.frames.width j k;
    };
    slots = record {
      own = λ j x v k w p h. slot-same j (slot_of (its_code g s.world j) x) ∙ keeps.slots.own j x v k w p h;
      come = λ j x v k lx p h q f. slot-same j (slot_of (its_code g s.world j) x) ∙ come j x v k lx p h q f;
    };
    threads = threads;
    ready = record {
      once = λ j k. elim (same-or-other takes.frame j) [
        | inl e ↦ subst (λ z. Distinct (frame_at takes.after z).ready) e (subst (λ (f : Frame). Distinct f.ready) (sym takes.here) rest-once.1)
        | inr d ↦ subst (λ (f : Frame). Distinct f.ready) (sym (takes.other j d)) (keeps.ready.once j k)
      ];
      threads = λ j t k h. keeps.ready.threads j t k (ready-before j t h);
    };
    turns = takes.turns;
    messages = record {
      pending = keeps.messages.pending;
      arrays = keeps.messages.arrays;
      printed = keeps.messages.printed;
      fit = keeps.messages.fit;
      readers = keeps.messages.readers;
      arrived_sent = keeps.messages.arrived_sent;
    };
    no_fault = keeps.no_fault;
    others_there = more-there;
    runs_there = runs-there;
    due_once = once;
    due_given = due-given;
  }
    where
      come : (j x v : ℕ) → IsThere s.world j → x < length (its_code g s.world j).nodes → is_inlet (kind_at (its_code g s.world j) x) ≡ true → Has s j x v
          → Posted g all (with_ran s runs) more j x (kind_at (its_code g s.world j) x)
          → (In (ticket j (inlet_thread (its_code g s.world j) (parts_in g all s others j) x) (Word_of x)) due → ⊥)
          → slot m j (slot_of (its_code g s.world j) x) ≡ v
      come j x v k lx p h q f =
          let i = (text j k).inlet_source x lx p in
          elim (given-back j (inlet_thread (its_code g s.world j) (parts_in g all s others j) x) (Word_of x)
          (record { there = k; thread = i.0; source = i.1; reason = q })) [
            | inl a ↦ keeps.slots.come j x v k lx p h a.reason (λ z. z)
            | inr d ↦ absurd (f d)
          ]
