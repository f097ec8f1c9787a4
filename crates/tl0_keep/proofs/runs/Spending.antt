-- The first ticket that is due is spent: by a fork, by a switch or by the delivery of a word.
use Rattle.std.proofs.Common.{◌≡◌, ℕ, zero, suc, ◌<◌, ◌≤◌, true, List, [], ◌∷◌, Some, slice_get, slice_index, length}
use Rattle.std.proofs.Common.{refl, sym, ap, subst, ◌∙◌, inl, inr, ◌⊎◌, arith}
use Rattle.std.proofs.lemmas.Option.{none-some, same_Some, slice_get_within}
use Rattle.tam_word.proofs.Members.{In, Distinct}
use Rattle.tam_graph.specs.Graphs.{Graph, kind_at, is_inlet}
use Rattle.tam_split.specs.GraphPartitions.{Partitions}
use Rattle.tam_world.specs.Worlds.{activation_at, its_code}
use Rattle.tam_flow.specs.Journals.{State}
use Rattle.tam_flow.specs.Reached.{IsThere, Has}
use Rattle.frame_tables.specs.FrameTables.{Frame, frame_at, spent}
use Rattle.tl0_code.specs.Machines.{Machine, Fine, slot, spend}
use Rattle.tl0_code.specs.ThreadCode.{code_text, plain}
use Rattle.tl0_keep.specs.Compiled.{slot_of, compiled_with}
use Rattle.tl0_keep.proofs.giving.Places.{get-set-here, get-set-other}
use Rattle.tl0_keep.proofs.code.ThreadKinds.{ThreadKind, Source, Word_of, number_of_thread, IsThread, sources_of, inlet_thread}
use Rattle.tl0_keep.proofs.runs.Keeps.{IsRested, Owed, ticket, parts_in, Posted, Given, Keeps, ThreadKeeps, FramesKeep, SlotsKeep, ReadyKeeps}
use Rattle.tl0_keep.proofs.code.CodeFacts.{TextFacts, CodeFacts}
use Rattle.tl0_keep.proofs.runs.Frames.{same-or-other, SpendLeaves, spent-leaves, ready_with}

-- ---- of lists

-- a list without an element
pub record Without {X : Type 0} (x : X) (ys : List X) : Type 0 where
  pub rest : List X
  pub size : length ys ≡ suc (length rest)
  pub cases : (y : X) → In y ys → (x ≡ y) ⊎ In y rest

-- each element can be left out
pub left-out : {X : Type 0} (x : X) (ys : List X) → In x ys → Without x ys
left-out x [] h = absurd h
left-out x (y ∷ ys) (inl e) = record { rest = ys; size = refl; cases = λ z i. elim i [ inl p ↦ inl (sym e ∙ p) | inr q ↦ inr q ] }
left-out x (y ∷ ys) (inr h) =
    let r = left-out x ys h in
    record {
      rest = y ∷ r.rest;
      size = ap suc r.size;
      cases = λ z i. elim i [ inl p ↦ inr (inl p) | inr q ↦ elim (r.cases z q) [ inl a ↦ inl a | inr b ↦ inr (inr b) ] ];
    }

-- different elements of a list are no more than it has
pub distinct-within : {X : Type 0} (xs ys : List X) → Distinct xs → ((x : X) → In x xs → In x ys) → length xs ≤ length ys
distinct-within [] ys d f = omega arith
distinct-within {X} (x ∷ xs) ys d f =
    let r = left-out x ys (f x (inl refl)) in
    let l = distinct-within xs r.rest d.1 (λ y i. elim (r.cases y (f y (inr i))) [ inl e ↦ absurd (d.0 (subst (λ z. In z xs) (sym e) i)) | inr b ↦ b ]) in
    let e = r.size in
    omega arith

-- what stands at a place is what is read there
pub index-get : (xs : List ℕ) (n x : ℕ) → slice_get xs n ≡ Some x → slice_index xs n ≡ x
index-get [] n x e = absurd (none-some x e)
index-get (y ∷ ys) zero x e = same_Some y x e
index-get (y ∷ ys) (suc n) x e = index-get ys n x e

-- no number is 0 that isn't
suc-not : {n k : ℕ} → n ≡ suc k → n ≡ 0 → ⊥
suc-not p q = omega arith

module _ (g : Graph) (all : Partitions) (facts : CodeFacts g all) (m : Machine) (s : State) (others : List (ℕ × ThreadKind)) where
  -- the number of a thread of activation i
  abbrev pub num : ℕ → ThreadKind → ℕ
  num i n = number_of_thread (its_code g s.world i) (parts_in g all s others i) n

  -- what is known of its code
  pub text-of : FramesKeep g (plain (compiled_with g all)) m s → (i : ℕ) → IsThere s.world i
      → TextFacts g (its_code g s.world i) (parts_in g all s others i) (code_text (plain (compiled_with g all)) (activation_at s.world i).code)
  text-of k i l = facts.texts (activation_at s.world i).code (k.known i l)

  module _ (due : List Owed) (i : ℕ) (n : ThreadKind) (t : Source) (keeps : Keeps g all m s others (ticket i n t ∷ due))
      (word : (x v : ℕ) → ticket i n t ≡ ticket i (inlet_thread (its_code g s.world i) (parts_in g all s others i) x) (Word_of x) → Has s i x v
      → slot m i (slot_of (its_code g s.world i) x) ≡ v) where
    -- it is given
    given : Given g all s others i n t
    given = keeps.due_given i n t (inl refl)

    -- its thread
    thread : ThreadKeeps g all m s others (ticket i n t ∷ due) i n
    thread = keeps.threads i n given.there given.thread

    -- it wasn't spent
    fresh : In t thread.spent → ⊥
    fresh h = thread.not_due t h (inl refl)

    -- so something is left of the count
    some-left : (k : ℕ) × (thread.count ≡ suc k)
    some-left = go thread.count refl
      where
        bound : suc (length thread.spent) ≤ length (sources_of (its_code g s.world i) (parts_in g all s others i) n)
        bound = distinct-within (t ∷ thread.spent) (sources_of (its_code g s.world i) (parts_in g all s others i) n) (fresh, thread.once)
            (λ x h. elim h [
              | inl e ↦ subst (λ z. In z (sources_of (its_code g s.world i) (parts_in g all s others i) n)) e given.source
              | inr q ↦ (thread.given x q).source
            ])

        go : (c : ℕ) → thread.count ≡ c → (k : ℕ) × (thread.count ≡ suc k)
        go zero e = let b = bound in let z = thread.sum in absurd (omega arith)
        go (suc k) e = (k, e)

    -- what is left then
    abbrev left : ℕ
    left = some-left.0

    -- the count before
    count-before : slice_get (frame_at m.table i).counts (num i n) ≡ Some (suc left)
    count-before = thread.left ∙ ap Some some-left.1

    -- the table after
    leaves : SpendLeaves m.table (spent m.table i (num i n)) i (num i n) left
    leaves = spent-leaves m.table i (num i n) left (keeps.frames.live i given.there) (index-get (frame_at m.table i).counts (num i n) (suc left) count-before)

    -- the state after
    abbrev pub spent-state : Machine
    spent-state = record m { table = spent m.table i (num i n) }

    -- it is spent
    pub spends : spend m i (num i n) ≡ Fine spent-state
    spends = rw (spend, count-before) refl

    -- where the current frame had a ready thread it has one
    pub rests-spent : IsRested m.table → IsRested (spent m.table i (num i n))
    rests-spent r j e h = elim (same-or-other i j) [
      | inl q ↦ r j (sym leaves.current ∙ e) (subst (λ z. (frame_at m.table z).ready ≡ []) q
          (none-left left (sym (ap (λ (f : Frame). f.ready) leaves.here) ∙ subst (λ z. (frame_at (spent m.table i (num i n)) z).ready ≡ []) (sym q) h)))
      | inr d ↦ r j (sym leaves.current ∙ e) (sym (ap (λ (f : Frame). f.ready) (leaves.other j d)) ∙ h)
    ]
      where
        none-left : (k : ℕ) → ready_with k (num i n) (frame_at m.table i).ready ≡ [] → (frame_at m.table i).ready ≡ []
        none-left zero z = absurd cc
        none-left (suc k) z = z

    -- slots are as they were
    slots-same : (j : ℕ) → (frame_at (spent m.table i (num i n)) j).slots ≡ (frame_at m.table j).slots
    slots-same j = elim (same-or-other i j) [
      | inl e ↦ subst (λ z. (frame_at (spent m.table i (num i n)) z).slots ≡ (frame_at m.table z).slots) e (ap (λ (h : Frame). h.slots) leaves.here)
      | inr d ↦ ap (λ (h : Frame). h.slots) (leaves.other j d)
    ]

    -- each of them
    slot-same : (j a : ℕ) → slot spent-state j a ≡ slot m j a
    slot-same j a = ap (λ (xs : List ℕ). slice_index xs a) (slots-same j)

    -- the frames
    frames-after : FramesKeep g (plain (compiled_with g all)) spent-state s
    frames-after = record {
      frames = leaves.frames ∙ keeps.frames.frames;
      begun = keeps.frames.begun;
      codes = keeps.frames.codes;
      known = keeps.frames.known;
      live = λ j l. leaves.held j (keeps.frames.live j l);
      free = leaves.free ∙ keeps.frames.free;
      caller = λ j l. slot-same j 0 ∙ keeps.frames.caller j l;
      root_inlet = slot-same 0 1 ∙ keeps.frames.root_inlet;
      inlet = λ j p l. slot-same j 1 ∙ keeps.frames.inlet j p l;
      width = λ j l. ap length (slots-same j) ∙ keeps.frames.width j l;
    }

    -- the slots
    slots-after : SlotsKeep g all spent-state s others due
    slots-after = record {
      own = λ j x v l w p h. slot-same j (slot_of (its_code g s.world j) x) ∙ keeps.slots.own j x v l w p h;
      come = come;
    }
      where
        come : (j x v : ℕ) → IsThere s.world j → x < length (its_code g s.world j).nodes → is_inlet (kind_at (its_code g s.world j) x) ≡ true → Has s j x v
            → Posted g all s others j x (kind_at (its_code g s.world j) x)
            → (In (ticket j (inlet_thread (its_code g s.world j) (parts_in g all s others j) x) (Word_of x)) due → ⊥)
            → slot spent-state j (slot_of (its_code g s.world j) x) ≡ v
        come j x v l lx p h q free =
            let f = (text-of keeps.frames j l).inlet_source x lx p in
            let e : Given g all s others j (inlet_thread (its_code g s.world j) (parts_in g all s others j) x) (Word_of x) =
            record { there = l; thread = f.0; source = f.1; reason = q } in
            let k = keeps.threads j (inlet_thread (its_code g s.world j) (parts_in g all s others j) x) l f.0 in
            slot-same j (slot_of (its_code g s.world j) x) ∙ elim (k.spent_or_due (Word_of x) e) [
              | inl a ↦ keeps.slots.come j x v l lx p h q (k.not_due (Word_of x) a)
              | inr (inr b) ↦ absurd (free b)
              | inr (inl c) ↦ (let ij : i ≡ j = ap (λ (z : Owed). z.0) c in here j ij c h)
            ]
          where
            here : (j : ℕ) → i ≡ j → ticket i n t ≡ ticket j (inlet_thread (its_code g s.world j) (parts_in g all s others j) x) (Word_of x) → Has s j x v
                → slot m j (slot_of (its_code g s.world j) x) ≡ v
            here j e = subst (λ j. ticket i n t ≡ ticket j (inlet_thread (its_code g s.world j) (parts_in g all s others j) x) (Word_of x) → Has s j x v
                → slot m j (slot_of (its_code g s.world j) x) ≡ v) e (word x v)

    -- the thread whose count was spent
    own-thread : ThreadKeeps g all spent-state s others due i n
    own-thread = record {
      count = left;
      spent = t ∷ thread.spent;
      left = ap (λ (h : Frame). slice_get h.counts (num i n)) leaves.here ∙ get-set-here (frame_at m.table i).counts (num i n) left
          (slice_get_within (frame_at m.table i).counts (num i n) (suc left) count-before);
      sum = let z = thread.sum in let e = some-left.1 in omega arith;
      once = (fresh, thread.once);
      given = λ u h. elim h [ inl e ↦ subst (Given g all s others i n) e given | inr q ↦ thread.given u q ];
      not_due = λ u h d. elim h [
        | inl e ↦ keeps.due_once.0 (subst (λ z. In (ticket i n z) due) (sym e) d)
        | inr q ↦ thread.not_due u q (inr d)
      ];
      spent_or_due = λ u h. elim (thread.spent_or_due u h) [
        | inl a ↦ inl (inr a)
        | inr (inl e) ↦ inl (inl (ap (λ (z : Owed). z.1.source) e))
        | inr (inr b) ↦ inr b
      ];
      ready = λ h. (now-ready left refl (subst (λ (f : Frame). In (num i n) f.ready) leaves.here h), λ r. suc-not some-left.1 (thread.ran r));
      ran_or_ready = λ e. inr (subst (λ (f : Frame). In (num i n) f.ready) (sym leaves.here)
          (subst (λ k. In (num i n) (ready_with k (num i n) (frame_at m.table i).ready)) (sym e) (inl refl)));
      ran = λ r. absurd (suc-not some-left.1 (thread.ran r));
    }
      where
        now-ready : (k : ℕ) → left ≡ k → In (num i n) (ready_with k (num i n) (frame_at m.table i).ready) → k ≡ 0
        now-ready zero e h = refl
        now-ready (suc k) e h = absurd (suc-not some-left.1 (thread.ready h).0)

    -- a ready thread that isn't it was ready
    was-ready : (k u : ℕ) → (num i n ≡ u → ⊥) → In u (ready_with k (num i n) (frame_at m.table i).ready) → In u (frame_at m.table i).ready
    was-ready zero u d (inl e) = absurd (d e)
    was-ready zero u d (inr h) = h
    was-ready (suc k) u d h = h

    -- and still is
    still-ready : (k u : ℕ) → In u (frame_at m.table i).ready → In u (ready_with k (num i n) (frame_at m.table i).ready)
    still-ready zero u h = inr h
    still-ready (suc k) u h = h

    -- another thread, whose count and place in the ready list stay
    other-thread : (j : ℕ) (o : ThreadKind) → (ticket i n t ≡ ticket j o t → ⊥) → ThreadKeeps g all m s others (ticket i n t ∷ due) j o
        → slice_get (frame_at (spent m.table i (num i n)) j).counts (num j o) ≡ slice_get (frame_at m.table j).counts (num j o)
        → (In (num j o) (frame_at (spent m.table i (num i n)) j).ready → In (num j o) (frame_at m.table j).ready)
        → (In (num j o) (frame_at m.table j).ready → In (num j o) (frame_at (spent m.table i (num i n)) j).ready)
        → ThreadKeeps g all spent-state s others due j o
    other-thread j o d k same back on = record {
      count = k.count;
      spent = k.spent;
      left = same ∙ k.left;
      sum = k.sum;
      once = k.once;
      given = k.given;
      not_due = λ u h q. k.not_due u h (inr q);
      spent_or_due = λ u h. elim (k.spent_or_due u h) [
        | inl a ↦ inl a
        | inr (inl e) ↦ absurd (d (e ∙ ap (λ z. ticket j o z) (sym (ap (λ (z : Owed). z.1.source) e))))
        | inr (inr b) ↦ inr b
      ];
      ready = λ h. k.ready (back h);
      ran_or_ready = λ e. elim (k.ran_or_ready e) [ inl a ↦ inl a | inr b ↦ inr (on b) ];
      ran = k.ran;
    }

    -- each thread
    threads-after : (j : ℕ) (o : ThreadKind) → IsThere s.world j → IsThread (its_code g s.world j) (parts_in g all s others j) o
        → ThreadKeeps g all spent-state s others due j o
    threads-after j o l h = elim (same-or-other i j) [
      | inr d ↦ other-thread j o (λ e. d (ap (λ (z : Owed). z.0) e)) (keeps.threads j o l h)
          (ap (λ (f : Frame). slice_get f.counts (num j o)) (leaves.other j d))
          (λ q. subst (λ (f : Frame). In (num j o) f.ready) (leaves.other j d) q)
          (λ q. subst (λ (f : Frame). In (num j o) f.ready) (sym (leaves.other j d)) q)
      | inl e ↦ here j e o l h
    ]
      where
        same : (o : ThreadKind) → IsThere s.world i → IsThread (its_code g s.world i) (parts_in g all s others i) o
            → ThreadKeeps g all spent-state s others due i o
        same o l h = elim (same-or-other (num i n) (num i o)) [
          | inl e ↦ subst (ThreadKeeps g all spent-state s others due i) ((text-of keeps.frames i l).number_one n o given.thread h e) own-thread
          | inr d ↦ other-thread i o (λ e. d (ap (λ (z : Owed). num i z.1.thread) e)) (keeps.threads i o l h)
              (ap (λ (f : Frame). slice_get f.counts (num i o)) leaves.here ∙ get-set-other (frame_at m.table i).counts (num i n) (num i o) left d)
              (λ q. was-ready left (num i o) d (subst (λ (f : Frame). In (num i o) f.ready) leaves.here q))
              (λ q. subst (λ (f : Frame). In (num i o) f.ready) (sym leaves.here) (still-ready left (num i o) q))
        ]

        here : (j : ℕ) → i ≡ j → (o : ThreadKind) → IsThere s.world j → IsThread (its_code g s.world j) (parts_in g all s others j) o
            → ThreadKeeps g all spent-state s others due j o
        here j e = subst (λ j. (o : ThreadKind) → IsThere s.world j → IsThread (its_code g s.world j) (parts_in g all s others j) o
            → ThreadKeeps g all spent-state s others due j o) e same

    -- the ready lists
    ready-after : ReadyKeeps g all spent-state s others
    ready-after = record {
      once = λ j l. elim (same-or-other i j) [
        | inl e ↦ subst (λ z. Distinct (frame_at (spent m.table i (num i n)) z).ready) e (subst (λ (f : Frame). Distinct f.ready) (sym leaves.here)
            (once left refl))
        | inr d ↦ subst (λ (f : Frame). Distinct f.ready) (sym (leaves.other j d)) (keeps.ready.once j l)
      ];
      threads = λ j u l h. elim (same-or-other i j) [
        | inl e ↦ here j e u l h
        | inr d ↦ keeps.ready.threads j u l (subst (λ (f : Frame). In u f.ready) (leaves.other j d) h)
      ];
    }
      where
        once : (k : ℕ) → left ≡ k → Distinct (ready_with k (num i n) (frame_at m.table i).ready)
        once zero e = (λ h. suc-not some-left.1 (thread.ready h).0, keeps.ready.once i given.there)
        once (suc k) e = keeps.ready.once i given.there

        same : (k u : ℕ) → In u (ready_with k (num i n) (frame_at m.table i).ready) → (o : ThreadKind)
            × IsThread (its_code g s.world i) (parts_in g all s others i) o
            × (num i o ≡ u)
        same zero u (inl e) = (n, given.thread, e)
        same zero u (inr h) = keeps.ready.threads i u given.there h
        same (suc k) u h = keeps.ready.threads i u given.there h

        here : (j : ℕ) → i ≡ j → (u : ℕ) → IsThere s.world j → In u (frame_at (spent m.table i (num i n)) j).ready
            → (o : ThreadKind) × IsThread (its_code g s.world j) (parts_in g all s others j) o × (num j o ≡ u)
        here j e = subst (λ j. (u : ℕ) → IsThere s.world j → In u (frame_at (spent m.table i (num i n)) j).ready
            → (o : ThreadKind) × IsThread (its_code g s.world j) (parts_in g all s others j) o × (num j o ≡ u)) e
            (λ u l h. same left u (subst (λ (f : Frame). In u f.ready) leaves.here h))

    -- the whole
    pub spend-due : Keeps g all spent-state s others due
    spend-due = record {
      frames = frames-after;
      slots = slots-after;
      threads = threads-after;
      ready = ready-after;
      turns = leaves.turns (slice_get_within m.table.frames i (Some (keeps.frames.live i given.there).0) (keeps.frames.live i given.there).1) keeps.turns;
      messages = record {
        pending = keeps.messages.pending;
        arrays = keeps.messages.arrays;
        printed = keeps.messages.printed;
        fit = keeps.messages.fit;
        readers = keeps.messages.readers;
        arrived_sent = keeps.messages.arrived_sent;
      };
      no_fault = keeps.no_fault;
      others_there = keeps.others_there;
      runs_there = keeps.runs_there;
      due_once = keeps.due_once.1;
      due_given = λ j o u h. keeps.due_given j o u (inr h);
    }
