-- The whole of what is kept, where the journal's state follows and the frames are alike: the rest are the slots and the messages.
use Rattle.std.proofs.Common.{◌≡◌, ℕ, suc, ◌+◌, ◌<◌, true, List, [], ◌∷◌, ◌++◌, map, None, slice_get, length, refl, sym, ap, ◌∙◌, subst}
use Rattle.std.proofs.Common.{inl, inr, ⊎_elim, arith}
use Rattle.std.proofs.lemmas.List.{map-append}
use Rattle.tam_word.specs.Lists.{has}
use Rattle.tam_word.proofs.Members.{In, Distinct, in-append}
use Rattle.tam_msgs.specs.declared.message.Message.{Message}
use Rattle.tam_istr.specs.Cells.{Arrays}
use Rattle.tam_graph.specs.Graphs.{Graph, code_of}
use Rattle.tam_split.specs.GraphPartitions.{Partitions}
use Rattle.tam_world.specs.Worlds.{World, ActivationState, activation_at, its_code}
use Rattle.tam_flow.specs.Journals.{State, has_run, on_their_way}
use Rattle.tam_flow.specs.Reached.{cell_at}
use Rattle.tam_flow.proofs.Gifts.{SameFrames}
use Rattle.tl0_code.specs.ThreadCode.{Program, plain}
use Rattle.tl0_code.specs.Machines.{Machine}
use Rattle.tl0_keep.specs.Compiled.{inlet_of, compiled_with}
use Rattle.tl0_keep.specs.ThreadNames.{thread_message, thread_arrays}
use Rattle.tl0_keep.proofs.code.ThreadKinds.{ThreadKind, Source, number_of_thread, IsThread, parts_for}
use Rattle.tl0_keep.proofs.runs.Keeps.{Owed, ticket, Given, FramesKeep, SlotsKeep, ReadyKeeps, TurnsKeep, MessagesKeep, Keeps, Fits}
use Rattle.tl0_keep.proofs.class_run.Later.{map-same, message-same, arrays-same, there-later, there-before, for-later, fits-later, Follows, Brings, given-later}
use Rattle.tl0_keep.proofs.class_run.Later.{thread-later}
use Rattle.tl0_keep.proofs.class_run.Frames.{AreAlike}

-- ---- the frames

-- the codes of activations, each with its own
codes-same : (w v : List ActivationState) → length v ≡ length w
    → ((j : ℕ) → (Rattle.tam_world.specs.Worlds.or_activation (slice_get v j)).code ≡ (Rattle.tam_world.specs.Worlds.or_activation (slice_get w j)).code)
    → map (λ (a : ActivationState). a.code) v ≡ map (λ (a : ActivationState). a.code) w
codes-same [] [] many same = refl
codes-same [] (y ∷ v) many same = absurd (omega arith)
codes-same (x ∷ w) [] many same = absurd (omega arith)
codes-same (x ∷ w) (y ∷ v) many same = ap (λ c. c ∷ map (λ (a : ActivationState). a.code) v) (same 0)
    ∙ ap (λ l. x.code ∷ l) (codes-same w v (omega arith) (λ j. same (suc j)))

module _ (m k : Machine) (alike : AreAlike m k) where
  -- the turns
  pub turns-later : TurnsKeep m.table → TurnsKeep k.table
  turns-later h = record {
    once = subst (λ l. Distinct l) (sym alike.queue) h.once;
    queued = λ i q. let r = h.queued i (subst (λ l. In i l) alike.queue q) in (
      subst (λ n. i < n) (sym alike.frames) r.0,
      (λ e. r.1 (sym (alike.ready i) ∙ e)),
      (λ e. r.2 (sym alike.current ∙ e)),
    );
    current = λ i e. subst (λ n. i < n) (sym alike.frames) (h.current i (sym alike.current ∙ e));
    ready = λ i t e. ⊎_elim (λ c. inl (alike.current ∙ c)) (λ q. inr (subst (λ l. In i l) (sym alike.queue) q))
        (h.ready i t (subst (λ l. In t l) (alike.ready i) e));
  }

  module _ (g : Graph) (s v : State) (same : SameFrames s.world v.world) where
    pub frames-later : (p : Program) → FramesKeep g p m s → FramesKeep g p k v
    frames-later p h = record {
      frames = alike.frames ∙ (h.frames ∙ sym same.as_many);
      begun = alike.begun ∙ (h.begun ∙ sym same.as_many);
      codes = alike.codes ∙ (h.codes ∙ sym (codes-same s.world.activations v.world.activations same.as_many same.code));
      known = λ i t. subst (λ q. q < length g.codes) (sym (same.code i)) (h.known i (there-before g s.world v.world same i t));
      live = λ i t. let r = h.live i (there-before g s.world v.world same i t) in alike.live i r.0 r.1;
      free = alike.free ∙ h.free;
      caller = λ i t. alike.low i 0 (omega arith) ∙ (h.caller i (there-before g s.world v.world same i t) ∙ sym (same.caller i));
      root_inlet = alike.low 0 1 (omega arith) ∙ h.root_inlet;
      inlet = λ i z t. alike.low i 1 (omega arith) ∙ (h.inlet i z (there-before g s.world v.world same i t)
          ∙ (ap (λ (q : ℕ). inlet_of g (code_of g (activation_at s.world q).code) (activation_at s.world i).call + 1) (sym (same.caller i))
          ∙ (ap (λ (q : ℕ). inlet_of g (code_of g q) (activation_at s.world i).call + 1) (sym (same.code (activation_at v.world i).caller))
          ∙ ap (λ (q : ℕ). inlet_of g (its_code g v.world (activation_at v.world i).caller) q + 1) (sym (same.call i)))));
      width = λ i t. alike.width i ∙ h.width i (there-before g s.world v.world same i t);
    }

    pub ready-later : (all : Partitions) (others : List (ℕ × ThreadKind)) → ReadyKeeps g all m s others → ReadyKeeps g all k v others
    ready-later all others h = record {
      once = λ i t. subst (λ l. Distinct l) (sym (alike.ready i)) (h.once i (there-before g s.world v.world same i t));
      threads = λ i t there r. let n = h.threads i t (there-before g s.world v.world same i there) (subst (λ l. In t l) (alike.ready i) r) in (
        n.0,
        subst (λ q. IsThread (code_of g q) (parts_for all q) n.0) (sym (same.code i)) n.1,
        subst (λ q. number_of_thread (code_of g q) (parts_for all q) n.0 ≡ t) (sym (same.code i)) n.2,
      );
    }

-- ---- the messages

-- more messages are sent, and no array changes
pub messages-later : (g : Graph) (m k : Machine) (s v : State) (same : SameFrames s.world v.world) (more : List Message)
    → v.world.arrays ≡ s.world.arrays → v.printed ≡ s.printed → ((n : ℕ) → has v.arrived n ≡ true → n < length v.sent)
    → on_their_way v ≡ on_their_way s ++ more → ((x : Message) → In x more → Fits g v.world x)
    → k.pending ≡ m.pending ++ map (thread_message g v.world) more → k.arrays ≡ m.arrays → k.printed ≡ m.printed
    → MessagesKeep g m s → MessagesKeep g k v
messages-later g m k s v same more arrays printed arrived way fit pending mine told h = record {
  pending = ap (map (thread_message g v.world)) way ∙ (map-append (thread_message g v.world) (on_their_way s) more
      ∙ (ap (λ l. l ++ map (thread_message g v.world) more)
      (map-same (thread_message g v.world) (thread_message g s.world) (on_their_way s) (message-same g s.world v.world same) ∙ h.pending) ∙ sym pending));
  arrays = arrays-same g s.world v.world same v.world.arrays ∙ (ap (thread_arrays g s.world) arrays ∙ (h.arrays ∙ sym mine));
  printed = printed ∙ (h.printed ∙ sym told);
  fit = λ x i. ⊎_elim (λ o. fits-later g s.world v.world same x (h.fit x o)) (fit x)
      (in-append x (on_their_way s) more (subst (λ l. In x l) way i));
  readers = λ a j rs r e i. for-later g s.world v.world same r.0 r.1
      (h.readers a j rs r (ap (λ (l : Arrays). cell_at (record s.world { arrays = l }) a j) (sym arrays) ∙ e) i);
  arrived_sent = arrived;
}

-- ---- the whole

module _ (g : Graph) (all : Partitions) (others : List (ℕ × ThreadKind)) (s v : State) (on : Follows g all others s v)
    (NewWord NewBlock : ℕ → ℕ → Type 0) (new : List Owed) (brings : Brings g all others s v on NewWord NewBlock new) (m k : Machine) (alike : AreAlike m k)
    (due : List Owed) where
  -- what new tickets are to be: none was given, each is given now, and they differ
  pub record AreNew : Type 0 where
    pub fresh : (j : ℕ) (n : ThreadKind) (t : Source) → In (ticket j n t) new → Given g all s others j n t → ⊥
    pub given : (j : ℕ) (n : ThreadKind) (t : Source) → In (ticket j n t) new → Given g all v others j n t
    pub once : Distinct new

  distinct-both : (xs : List Owed) → Distinct xs → ((x : Owed) → In x xs → In x due → ⊥) → Distinct due → Distinct (xs ++ due)
  distinct-both [] a apart b = b
  distinct-both (x ∷ xs) a apart b = (
    (λ i. ⊎_elim a.0 (apart x (inl refl)) (in-append {X = Owed} x xs due i)),
    distinct-both xs a.1 (λ y i. apart y (inr i)) b,
  )

  pub keeps-later : AreNew → v.fault ≡ None → SlotsKeep g all k v others (new ++ due) → MessagesKeep g k v
      → Keeps g all m s others due → Keeps g all k v others (new ++ due)
  keeps-later news fault slots messages h = record {
    frames = frames-later m k alike g s v on.frames (plain (compiled_with g all)) h.frames;
    slots = slots;
    threads = λ j n there thread. thread-later g all others s v on NewWord NewBlock new brings m k due news.fresh j n (alike.counts j) (alike.ready j)
        (h.threads j n (there-before g s.world v.world on.frames j there)
        (subst (λ q. IsThread (code_of g q) (parts_for all q) n) (on.frames.code j) thread));
    ready = ready-later m k alike g s v on.frames all others h.ready;
    turns = turns-later m k alike h.turns;
    messages = messages;
    no_fault = fault;
    others_there = λ j n i. there-later g s.world v.world on.frames j (h.others_there j n i);
    runs_there = λ j b c r. there-later g s.world v.world on.frames j
        (h.runs_there j b c (subst (λ (l : List (ℕ × ℕ × ℕ)). has_run (record s { ran = l }) j b c ≡ true) on.ran r));
    due_once = distinct-both new news.once (λ x i d. news.fresh x.0 x.1.thread x.1.source i (h.due_given x.0 x.1.thread x.1.source d)) h.due_once;
    due_given = λ j n t i. ⊎_elim (news.given j n t) (λ d. given-later g all others s v on j n t (h.due_given j n t d))
        (in-append {X = Owed} (ticket j n t) new due i);
  }
