-- What comes of a delivery that brings no activation, in the machine and in the journal.
use Rattle.std.proofs.Common.{◌≡◌, ℕ, zero, suc, ◌<◌, ◌^◌, Bool, true, false, ◌==◌, List, [], ◌∷◌, map, Some, None, slice_get, slice_index, length}
use Rattle.std.proofs.Common.{refl, sym, ap, subst, ◌∙◌, inl, inr, arith, tests}
use Rattle.tam_msgs.specs.declared.message.Message.TheVariants.{Word as Carry}
use Rattle.tam_msgs.specs.declared.limits.Limits.{Limits}
use Rattle.tam_msgs.specs.Messages.{outside}
use Rattle.tam_msgs.specs.Runs.{Outcome, Next, Ended, Wild, Wild_frame}
use Rattle.tam_graph.specs.Graphs.{Graph, code_of, kind_at}
use Rattle.tam_split.specs.GraphPartitions.{Partitions}
use Rattle.tam_world.specs.Worlds.{ActivationState, activation_at, its_code, word_of, got}
use Rattle.tam_world.specs.Worlds.{or_activation}
use Rattle.tam_flow.specs.Journals.{State}
use Rattle.tam_flow.specs.Reached.{IsThere, Has}
use Rattle.tam_flow.proofs.Gifts.{HaveGot, got-one}
use Rattle.frame_tables.specs.FrameTables.{Frame, FrameTable, frame_at, is_live}
use Rattle.tl0_code.specs.Machines.{Machine, Plain, slot, put, Progress, code_at}
use Rattle.tl0_code.specs.ThreadRuns.{delivered, word_into, printed_outside, as_outcome, text_at}
use Rattle.tl0_code.specs.ThreadCode.{code_text, plain}
use Rattle.tl0_keep.specs.Compiled.{slot_of, compiled_with, inlet_of}
use Rattle.tl0_keep.specs.ThreadNames.{inlet_at}
use Rattle.tl0_keep.proofs.code.ThreadKinds.{ThreadKind, Word_of, number_of_thread, parts_for, inlet_thread, takes_messages}
use Rattle.tl0_keep.proofs.runs.Keeps.{Owed, ticket, parts_in, Keeps, MessagesKeep, Rests, IsRested, IsForMessages}
use Rattle.tl0_keep.proofs.code.CodeFacts.{CodeFacts}
use Rattle.tl0_keep.proofs.runs.Frames.{same-or-other, held-live, frame-here, frame-other}
use Rattle.tl0_keep.proofs.runs.Spending.{spend-due, spends, spent-state, rests-spent}
use Rattle.tl0_keep.proofs.runs.Later.{put-due, put-there}
use Rattle.tl0_keep.proofs.runs.Arrives.{word-comes, node-there, takes-inlet}

-- the run goes on from this outcome, with this state of the journal
pub record Delivers (g : Graph) (all : Partitions) (v : State) (others : List (ℕ × ThreadKind)) (events : ℕ) (o : Outcome Machine) : Type 0 where
  pub after : Machine
  pub goes : o ≡ Next after
  pub rests : Rests g all after v others
  pub same_events : after.events ≡ events

-- an index of what is mapped
index-map : (xs : List ActivationState) (j : ℕ) → j < length xs → slice_index (map (λ (a : ActivationState). a.code) xs) j ≡
    (or_activation (slice_get xs j)).code
index-map [] j l = absurd (omega arith)
index-map (x ∷ xs) zero l = refl
index-map (x ∷ xs) (suc j) l = index-map xs j (omega arith)

-- no activation is the outside
pub not-outside : (f n : ℕ) → f < n → n < 2 ^ 32 → (f == outside) ≡ false
not-outside f n l few = go (f == outside) refl
  where
    go : (b : Bool) → (f == outside) ≡ b → (f == outside) ≡ false
    go true e = let same : f ≡ 4294967295 = grind (arith, tests) in absurd (omega arith)
    go false e = e

-- the code of a frame is its activation's
pub code-same : (g : Graph) (all : Partitions) (m : Machine) (s : State) (others : List (ℕ × ThreadKind)) (due : List Owed) → Keeps g all m s others due
    → (f : ℕ) → IsThere s.world f → code_at m f ≡ (activation_at s.world f).code
code-same g all m s others due k f l = ap (λ (xs : List ℕ). slice_index xs f) k.frames.codes ∙ index-map s.world.activations f l

module _ (g : Graph) (all : Partitions) (facts : CodeFacts g all) (m k : Machine) (s v : State) (others : List (ℕ × ThreadKind))
    (rests : Rests g all m s others) (f x u : ℕ) (for : IsForMessages g s.world f x) (none : word_of s.world f x ≡ [])
    (few : length s.world.activations < 2 ^ 32)
    (world : v.world ≡ got s.world f x u) (ran : v.ran ≡ s.ran) (fault : v.fault ≡ None)
    (table : k.table ≡ m.table) (begun : k.begun ≡ m.begun) (codes : k.codes ≡ m.codes) (messages : MessagesKeep g k v) (limits : Limits) where
  -- what is changed
  gave : HaveGot s.world v.world f (x ∷ []) u
  gave = subst (λ w. HaveGot s.world w f (x ∷ []) u) (sym world) (got-one s.world f x u)

  -- the activation is there
  there : IsThere v.world f
  there = subst (λ n. f < n) (sym gave.frames.as_many) for.0

  -- the slot and the thread of the inlet
  abbrev a : ℕ
  a = slot_of (its_code g v.world f) x

  -- its name
  abbrev n : ThreadKind
  n = inlet_thread (its_code g v.world f) (parts_in g all v others f) x

  -- the word has come
  come : Keeps g all k v others (ticket f n (Word_of x) ∷ [])
  come = subst (λ c. Keeps g all k v others (ticket f (inlet_thread (code_of g c) (parts_for all c) x) (Word_of x) ∷ [])) (sym (gave.frames.code f))
      (word-comes g all facts m s others rests.keeps f x u for none v k world ran fault table begun codes messages)

  -- the node of its code
  x-there : x < length (its_code g v.world f).nodes
  x-there = subst (λ c. x < length (code_of g c).nodes) (sym (gave.frames.code f))
      (node-there g all facts m s others rests.keeps f x u for none v k world ran fault table begun codes messages)

  -- takes messages
  x-takes : takes_messages (kind_at (its_code g v.world f) x) ≡ true
  x-takes = subst (λ c. takes_messages (kind_at (code_of g c) x) ≡ true) (sym (gave.frames.code f)) for.1

  -- with the slot
  placed : Keeps g all (put k f a u) v others (ticket f n (Word_of x) ∷ [])
  placed = put-due g all facts k v others (ticket f n (Word_of x) ∷ []) come f x u there x-there (takes-inlet _ x-takes) (inl refl)

  -- which has the word
  word : (y w : ℕ) → ticket f n (Word_of x) ≡ ticket f (inlet_thread (its_code g v.world f) (parts_in g all v others f) y) (Word_of y) → Has v f y w
      → slot (put k f a u) f (slot_of (its_code g v.world f) y) ≡ w
  word y w e h =
      let q : x ≡ y = same (ap (λ (z : Owed). z.1.source) e) in
      subst (λ z. slot (put k f a u) f (slot_of (its_code g v.world f) z) ≡ w) q
      (put-there g all facts k v others (ticket f n (Word_of x) ∷ []) come f x u there x-there (takes-inlet _ x-takes) (inl refl)
      ∙ one (sym (gave.given x for.0 (inl refl)) ∙ subst (λ z. Has v f z w) (sym q) h))
    where
      same : {i j : ℕ} → Word_of i ≡ Word_of j → i ≡ j
      same p = cc

      one : {i j : ℕ} → i ∷ [] ≡ j ∷ [] → i ≡ j
      one p = cc

  -- the current frame still has a ready thread
  rested : IsRested (put k f a u).table
  rested j e h = rests.rested j (sym (ap (λ (t : FrameTable). t.current) table) ∙ e) (sym (ap (λ (t : FrameTable). (frame_at t j).ready) table)
      ∙ (sym (ready j) ∙ h))
    where
      ready : (j : ℕ) → (frame_at (put k f a u).table j).ready ≡ (frame_at k.table j).ready
      ready j = elim (same-or-other f j) [
        | inl q ↦ subst (λ z. (frame_at (put k f a u).table z).ready ≡ (frame_at k.table z).ready) q
            (ap (λ (h : Frame). h.ready) (frame-here k.table f _ (come.frames.live f there)))
        | inr d ↦ ap (λ (h : Frame). h.ready) (frame-other k.table f j _ d)
      ]

  -- the state behind it
  abbrev end-state : Machine
  end-state = spent-state g all facts (put k f a u) v others [] f n (Word_of x) placed word

  -- the machine's outcome
  word-outcome : delivered Plain (plain (compiled_with g all)) limits k (Carry f (inlet_at g v.world f x) u) ≡ Next end-state
  word-outcome =
      ap (λ (z : Bool). elim z [
        | true ↦ printed_outside (plain (compiled_with g all)) k (inlet_at g v.world f x) u
        | false ↦ elim (is_live k.table f) [
          | true ↦ word_into k f (inlet_at g v.world f x) u
              (slice_get (text_at (plain (compiled_with g all)) k f).inlets (inlet_at g v.world f x))
          | false ↦ Ended (Wild Wild_frame f) k
        ]
      ]) out
      ∙ (ap (λ (z : Bool). elim z [
        | true ↦ word_into k f (inlet_at g v.world f x) u
            (slice_get (text_at (plain (compiled_with g all)) k f).inlets (inlet_at g v.world f x))
        | false ↦ Ended (Wild Wild_frame f) k
      ]) (held-live k.table f (come.frames.live f there))
      ∙ (ap (word_into k f (inlet_at g v.world f x) u) found-inlet
      ∙ ap (λ (p : Progress). as_outcome p k) (spends g all facts (put k f a u) v others [] f n (Word_of x) placed word)))
    where
      out : (f == outside) ≡ false
      out = not-outside f (length s.world.activations) for.0 few

      found-inlet : slice_get (text_at (plain (compiled_with g all)) k f).inlets (inlet_at g v.world f x) ≡ Some
          (record { slot = a; thread = number_of_thread (its_code g v.world f) (parts_in g all v others f) n })
      found-inlet =
          ap (λ (c : ℕ). slice_get (code_text (plain (compiled_with g all)) c).inlets (inlet_at g v.world f x))
          (code-same g all k v others (ticket f n (Word_of x) ∷ []) come f there)
          ∙ (ap (λ (z : Bool). slice_get (code_text (plain (compiled_with g all)) (activation_at v.world f).code).inlets
          (elim z [ true ↦ x | false ↦ inlet_of g (its_code g v.world f) x ])) out
          ∙ (facts.texts (activation_at v.world f).code (come.frames.known f there)).inlet_at x x-there x-takes)

  -- so the run goes on
  pub word-goes : Delivers g all v others k.events (delivered Plain (plain (compiled_with g all)) limits k (Carry f (inlet_at g v.world f x) u))
  word-goes = record {
    after = end-state;
    goes = word-outcome;
    rests = record {
      keeps = spend-due g all facts (put k f a u) v others [] f n (Word_of x) placed word;
      rested = rests-spent g all facts (put k f a u) v others [] f n (Word_of x) placed word rested;
    };
    same_events = refl;
  }
