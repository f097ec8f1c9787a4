-- What a change of the journal's state keeps that moves no frame: each activation has its code, its caller and its call, and no class runs.
use Rattle.std.proofs.Common.{◌≡◌, ℕ, ◌+◌, ◌<◌, true, false, ◌==◌, List, [], ◌∷◌, ◌++◌, map, Some, slice_get, length, refl, sym, ap, ◌∙◌, subst}
use Rattle.std.proofs.Common.{inl, inr, ◌⊎◌, ⊎_elim}
use Rattle.tam_word.proofs.Members.{In, in-append, left-in, right-in}
use Rattle.tam_msgs.specs.declared.message.Message.{Message}
use Rattle.tam_msgs.specs.declared.message.Message.TheVariants.{Word as Carry, Frame as Begin, Cells as Make, Fetch as Ask_cell, Store as Put_cell}
use Rattle.tam_msgs.specs.Messages.{outside}
use Rattle.tam_istr.specs.Cells.{Cell, Empty, Filled, Reader}
use Rattle.tam_graph.specs.declared.kind.Kind.{Kind}
use Rattle.tam_graph.specs.declared.kind.Kind.TheVariants.{Call as Invoke, Cond, Switch as Choose, Enter}
use Rattle.tam_graph.specs.Graphs.{Code, Graph, code_of, kind_at, node_in, is_enter}
use Rattle.tam_split.specs.GraphPartitions.{Partitions}
use Rattle.tam_world.specs.Worlds.{World, activation_at, its_code, has_word, has_entered}
use Rattle.tam_flow.specs.Journals.{State, has_run}
use Rattle.tam_flow.specs.Reached.{IsThere}
use Rattle.tam_flow.proofs.Gifts.{SameFrames}
use Rattle.frame_tables.specs.FrameTables.{frame_at}
use Rattle.tl0_code.specs.Machines.{Machine}
use Rattle.tl0_keep.specs.Compiled.{yes_of, no_of, inlet_of}
use Rattle.tl0_keep.specs.ThreadNames.{inlet_at, thread_message, thread_reader, thread_cell, thread_arrays}
use Rattle.tl0_keep.proofs.code.ThreadKinds.{ThreadKind, Entry, Class, Then_of, Else_of, Source, Word_of, Behind, Opened, Begun, number_of_thread}
use Rattle.tl0_keep.proofs.code.ThreadKinds.{IsThread, sources_of, parts_for}
use Rattle.tl0_keep.proofs.code.ThreadKinds.{takes_messages}
use Rattle.tl0_keep.proofs.runs.Keeps.{Owed, ticket, parts_in, HasRun, PostedAt, HasEntered, ChoseThen, ChoseElse, ReasonAt, Reason, Given}
use Rattle.tl0_keep.proofs.runs.Keeps.{ThreadKeeps, IsForMessages, Fits}

-- ---- lists

-- what is the same of each element
pub map-same : {X Y : Type 0} (f h : X → Y) (xs : List X) → ((x : X) → f x ≡ h x) → map f xs ≡ map h xs
map-same f h [] same = refl
map-same f h (x ∷ xs) same = ap (λ y. y ∷ map f xs) (same x) ∙ ap (λ l. h x ∷ l) (map-same f h xs same)

-- ---- names of inlets

module _ (g : Graph) (w v : World) (same : SameFrames w v) where
  -- the same inlets
  inlet-same : (f x : ℕ) → inlet_at g v f x ≡ inlet_at g w f x
  inlet-same f x = ap (λ (q : ℕ). elim (f == outside) [ true ↦ x | false ↦ inlet_of g (code_of g q) x ]) (same.code f)

  -- so the same messages
  pub message-same : (x : Message) → thread_message g v x ≡ thread_message g w x
  message-same (Carry f x u) = ap (λ (y : ℕ). Carry f y u) (inlet-same f x)
  message-same (Begin c f x) = ap (Begin c f) (inlet-same f x)
  message-same (Make n f x) = ap (Make n f) (inlet-same f x)
  message-same (Ask_cell a i f x s) = ap (λ (y : ℕ). Ask_cell a i f y s) (inlet-same f x)
  message-same (Put_cell a i u s) = refl

  reader-same : (r : Reader) → thread_reader g v r ≡ thread_reader g w r
  reader-same r = ap (λ (y : ℕ). (r.0, y)) (inlet-same r.0 r.1)

  cell-same : (c : Cell) → thread_cell g v c ≡ thread_cell g w c
  cell-same (Empty readers) = ap Empty (map-same (thread_reader g v) (thread_reader g w) readers reader-same)
  cell-same (Filled u s) = refl

  -- and the same arrays
  pub arrays-same : (arrays : List (List Cell)) → thread_arrays g v arrays ≡ thread_arrays g w arrays
  arrays-same arrays = map-same (map (thread_cell g v)) (map (thread_cell g w)) arrays
      (λ cells. map-same (thread_cell g v) (thread_cell g w) cells cell-same)

  -- who is there is there
  pub there-later : (i : ℕ) → IsThere w i → IsThere v i
  there-later i t = subst (λ n. i < n) (sym same.as_many) t

  pub there-before : (i : ℕ) → IsThere v i → IsThere w i
  there-before i t = subst (λ n. i < n) same.as_many t

  -- and takes messages
  pub for-later : (f x : ℕ) → IsForMessages g w f x → IsForMessages g v f x
  for-later f x h = (there-later f h.0, subst (λ q. takes_messages (kind_at (code_of g q) x) ≡ true) (sym (same.code f)) h.1)

  pub fits-later : (x : Message) → Fits g w x → Fits g v x
  fits-later (Carry f x u) (inl h) = inl h
  fits-later (Carry f x u) (inr h) = inr (for-later f x h)
  fits-later (Begin c f x) h = (for-later f x h.0, subst (λ q. kind_at (code_of g q) x ≡ Invoke c) (sym (same.code f)) h.1)
  fits-later (Make n f x) h = for-later f x h
  fits-later (Ask_cell a i f x s) h = for-later f x h
  fits-later (Put_cell a i u s) h = h

-- ---- tickets

module _ (g : Graph) (all : Partitions) (others : List (ℕ × ThreadKind)) where
  -- a state that follows: the same activations and runs; words and entered blocks stay
  pub record Follows (s v : State) : Type 0 where
    pub frames : SameFrames s.world v.world
    pub ran : v.ran ≡ s.ran
    pub words : (j x : ℕ) → has_word s.world j x ≡ true → has_word v.world j x ≡ true
    pub blocks : (j b : ℕ) → has_entered s.world j b ≡ true → has_entered v.world j b ≡ true

  module _ (s v : State) (on : Follows s v) where
    run-later : (j b k : ℕ) → has_run s j b k ≡ true → has_run v j b k ≡ true
    run-later j b k h = subst (λ (l : List (ℕ × ℕ × ℕ)). has_run (record s { ran = l }) j b k ≡ true) (sym on.ran) h

    run-before : (j b k : ℕ) → has_run v j b k ≡ true → has_run s j b k ≡ true
    run-before j b k h = subst (λ (l : List (ℕ × ℕ × ℕ)). has_run (record s { ran = l }) j b k ≡ true) on.ran h

    pub ran-later : (j : ℕ) (n : ThreadKind) → HasRun g all s others j n → HasRun g all v others j n
    ran-later j (Class b k) h = run-later j b k h
    ran-later j Entry h = h
    ran-later j (Then_of x) h = h
    ran-later j (Else_of x) h = h

    pub ran-before : (j : ℕ) (n : ThreadKind) → HasRun g all v others j n → HasRun g all s others j n
    ran-before j (Class b k) h = run-before j b k h
    ran-before j Entry h = h
    ran-before j (Then_of x) h = h
    ran-before j (Else_of x) h = h

    posted-of : (c : Code) (j x : ℕ) (K : Kind) → PostedAt g all s others c j x K → PostedAt g all v others c j x K
    posted-of c j x (Enter k) h = h
    posted-of c j x K h = on.words j x h

    entered-of : (c : Code) (j b k : ℕ) → HasEntered g all s others c j b k → HasEntered g all v others c j b k
    entered-of c j b k h = (h.0, h.1, on.words j h.0 h.2)

    then-of : (c : Code) (j : ℕ) (K : Kind) → ChoseThen g all s others c j K → ChoseThen g all v others c j K
    then-of c j (Cond p y n) h = on.blocks j y h
    then-of c j (Choose d k a) h = entered-of c j (yes_of (kind_at c d)) k h
    then-of c j K h = absurd h

    else-of : (c : Code) (j : ℕ) (K : Kind) → ChoseElse g all s others c j K → ChoseElse g all v others c j K
    else-of c j (Cond p y n) h = on.blocks j n h
    else-of c j (Choose d k a) h = entered-of c j (no_of (kind_at c d)) k h
    else-of c j K h = absurd h

    reason-of : (c : Code) (j : ℕ) (n : ThreadKind) (t : Source) → ReasonAt g all s others c j n t → ReasonAt g all v others c j n t
    reason-of c j (Class b k) (Word_of x) h = posted-of c j x (kind_at c x) h
    reason-of c j (Class b k) (Behind d) h = run-later j b d h
    reason-of c j (Class b k) Opened h = h
    reason-of c j (Class b k) Begun h = absurd h
    reason-of c j Entry t h = h
    reason-of c j (Then_of x) t h = then-of c j (kind_at c x) h
    reason-of c j (Else_of x) t h = else-of c j (kind_at c x) h

    -- a reason stays
    reason-later : (j : ℕ) (n : ThreadKind) (t : Source) → Reason g all s others j n t → Reason g all v others j n t
    reason-later j n t h = subst (λ q. ReasonAt g all v others (code_of g q) j n t) (sym (on.frames.code j)) (reason-of (its_code g s.world j) j n t h)

    -- what is given stays given
    pub given-later : (j : ℕ) (n : ThreadKind) (t : Source) → Given g all s others j n t → Given g all v others j n t
    given-later j n t h = record {
      there = there-later g s.world v.world on.frames j h.there;
      thread = subst (λ q. IsThread (code_of g q) (parts_for all q) n) (sym (on.frames.code j)) h.thread;
      source = subst (λ q. In t (sources_of (code_of g q) (parts_for all q) n)) (sym (on.frames.code j)) h.source;
      reason = reason-later j n t h.reason;
    }

    -- ---- and back

    -- what is new: nodes with a word, blocks that are entered, and the tickets that they give
    pub record Brings (NewWord NewBlock : ℕ → ℕ → Type 0) (new : List Owed) : Type 0 where
      pub words : (j x : ℕ) → has_word v.world j x ≡ true → (has_word s.world j x ≡ true) ⊎ NewWord j x
      pub blocks : (j b : ℕ) → has_entered v.world j b ≡ true → (has_entered s.world j b ≡ true) ⊎ NewBlock j b
      pub inlets : (j b k x : ℕ) → NewWord j x → ((e : ℕ) → kind_at (its_code g s.world j) x ≡ Enter e → ⊥)
          → IsThread (its_code g s.world j) (parts_in g all s others j) (Class b k)
          → In (Word_of x) (sources_of (its_code g s.world j) (parts_in g all s others j) (Class b k)) → In (ticket j (Class b k) (Word_of x)) new
      pub then_cond : (j x p y n : ℕ) → kind_at (its_code g s.world j) x ≡ Cond p y n → NewBlock j y → In (ticket j (Then_of x) Begun) new
      pub else_cond : (j x p y n : ℕ) → kind_at (its_code g s.world j) x ≡ Cond p y n → NewBlock j n → In (ticket j (Else_of x) Begun) new
      pub then_switch : (j x d k a e : ℕ) → kind_at (its_code g s.world j) x ≡ Choose d k a
          → In e (node_in (its_code g s.world j) (yes_of (kind_at (its_code g s.world j) d)) (is_enter k)) → NewWord j e
          → In (ticket j (Then_of x) Begun) new
      pub else_switch : (j x d k a e : ℕ) → kind_at (its_code g s.world j) x ≡ Choose d k a
          → In e (node_in (its_code g s.world j) (no_of (kind_at (its_code g s.world j) d)) (is_enter k)) → NewWord j e
          → In (ticket j (Else_of x) Begun) new

    module _ (NewWord NewBlock : ℕ → ℕ → Type 0) (new : List Owed) (brings : Brings NewWord NewBlock new) where
      inlet-before : (j b k x : ℕ) (K : Kind) → kind_at (its_code g s.world j) x ≡ K
          → IsThread (its_code g s.world j) (parts_in g all s others j) (Class b k)
          → In (Word_of x) (sources_of (its_code g s.world j) (parts_in g all s others j) (Class b k))
          → PostedAt g all v others (its_code g s.world j) j x K
          → PostedAt g all s others (its_code g s.world j) j x K ⊎ In (ticket j (Class b k) (Word_of x)) new
      inlet-before j b k x (Enter e) is thread source h = inl h
      inlet-before j b k x K is thread source h = ⊎_elim inl (λ n. inr (brings.inlets j b k x n (λ e p. other e (sym is ∙ p)) thread source))
          (brings.words j x h)
        where
          other : (e : ℕ) → K ≡ Enter e → ⊥
          other e p = cc

      entered-before : (j b k : ℕ) → HasEntered g all v others (its_code g s.world j) j b k
          → HasEntered g all s others (its_code g s.world j) j b k ⊎ ((e : ℕ) × In e (node_in (its_code g s.world j) b (is_enter k)) × NewWord j e)
      entered-before j b k h = ⊎_elim (λ w. inl (h.0, h.1, w)) (λ w. inr (h.0, h.1, w)) (brings.words j h.0 h.2)

      then-before : (j x : ℕ) (K : Kind) → kind_at (its_code g s.world j) x ≡ K → ChoseThen g all v others (its_code g s.world j) j K
          → ChoseThen g all s others (its_code g s.world j) j K ⊎ In (ticket j (Then_of x) Begun) new
      then-before j x (Cond p y n) is h = ⊎_elim inl (λ m. inr (brings.then_cond j x p y n is m)) (brings.blocks j y h)
      then-before j x (Choose d k a) is h =
          ⊎_elim inl (λ m. inr (brings.then_switch j x d k a m.0 is m.1 m.2)) (entered-before j (yes_of (kind_at (its_code g s.world j) d)) k h)
      then-before j x K is h = absurd h

      else-before : (j x : ℕ) (K : Kind) → kind_at (its_code g s.world j) x ≡ K → ChoseElse g all v others (its_code g s.world j) j K
          → ChoseElse g all s others (its_code g s.world j) j K ⊎ In (ticket j (Else_of x) Begun) new
      else-before j x (Cond p y n) is h = ⊎_elim inl (λ m. inr (brings.else_cond j x p y n is m)) (brings.blocks j n h)
      else-before j x (Choose d k a) is h =
          ⊎_elim inl (λ m. inr (brings.else_switch j x d k a m.0 is m.1 m.2)) (entered-before j (no_of (kind_at (its_code g s.world j) d)) k h)
      else-before j x K is h = absurd h

      begun-only : (n x : ℕ) (t : Source) (make : ℕ → ThreadKind) → In t (Begun ∷ []) → In (ticket n (make x) Begun) new → In (ticket n (make x) t) new
      begun-only n x t make (inl e) m = subst (λ (u : Source). In (ticket n (make x) u) new) e m
      begun-only n x t make (inr e) m = absurd e

      reason-before : (j : ℕ) (n : ThreadKind) (t : Source) → IsThread (its_code g s.world j) (parts_in g all s others j) n
          → In t (sources_of (its_code g s.world j) (parts_in g all s others j) n) → ReasonAt g all v others (its_code g s.world j) j n t
          → Reason g all s others j n t ⊎ In (ticket j n t) new
      reason-before j (Class b k) (Word_of x) thread source h = inlet-before j b k x (kind_at (its_code g s.world j) x) refl thread source h
      reason-before j (Class b k) (Behind d) thread source h = inl (run-before j b d h)
      reason-before j (Class b k) Opened thread source h = inl h
      reason-before j (Class b k) Begun thread source h = absurd h
      reason-before j Entry t thread source h = inl h
      reason-before j (Then_of x) t thread source h = ⊎_elim inl (λ m. inr (begun-only j x t Then_of source m))
          (then-before j x (kind_at (its_code g s.world j) x) refl h)
      reason-before j (Else_of x) t thread source h = ⊎_elim inl (λ m. inr (begun-only j x t Else_of source m))
          (else-before j x (kind_at (its_code g s.world j) x) refl h)

      -- what is given was given, or it is new
      pub given-before : (j : ℕ) (n : ThreadKind) (t : Source) → Given g all v others j n t → Given g all s others j n t ⊎ In (ticket j n t) new
      given-before j n t h =
          let thread = subst (λ q. IsThread (code_of g q) (parts_for all q) n) (on.frames.code j) h.thread in
          let source = subst (λ q. In t (sources_of (code_of g q) (parts_for all q) n)) (on.frames.code j) h.source in
          ⊎_elim (λ r. inl (record { there = there-before g s.world v.world on.frames j h.there; thread = thread; source = source; reason = r })) inr
          (reason-before j n t thread source (subst (λ q. ReasonAt g all v others (code_of g q) j n t) (on.frames.code j) h.reason))

      -- ---- a thread

      module _ (m k : Machine) (due : List Owed) (fresh : (j : ℕ) (n : ThreadKind) (t : Source) → In (ticket j n t) new → Given g all s others j n t → ⊥) where
        -- with the same entry counts and ready list
        pub thread-later : (j : ℕ) (n : ThreadKind) → (frame_at k.table j).counts ≡ (frame_at m.table j).counts
            → (frame_at k.table j).ready ≡ (frame_at m.table j).ready
            → ThreadKeeps g all m s others due j n → ThreadKeeps g all k v others (new ++ due) j n
        thread-later j n counts ready h = record {
          count = h.count;
          spent = h.spent;
          left = subst (λ q. slice_get (frame_at k.table j).counts (number_of_thread (code_of g q) (parts_for all q) n) ≡ Some h.count) (sym code)
              (subst (λ l. slice_get l (number_of_thread (its_code g s.world j) (parts_in g all s others j) n) ≡ Some h.count) (sym counts) h.left);
          sum = subst (λ q. h.count + length h.spent ≡ length (sources_of (code_of g q) (parts_for all q) n)) (sym code) h.sum;
          once = h.once;
          given = λ t i. given-later j n t (h.given t i);
          not_due = λ t i d. ⊎_elim (λ b. fresh j n t b (h.given t i)) (h.not_due t i) (in-append {X = Owed} (ticket j n t) new due d);
          spent_or_due = λ t i. ⊎_elim (λ b. ⊎_elim inl (λ d. inr (right-in {X = Owed} (ticket j n t) new due d)) (h.spent_or_due t b))
              (λ b. inr (left-in {X = Owed} (ticket j n t) new due b)) (given-before j n t i);
          ready = λ i. let r = h.ready (was-ready i) in (r.0, λ d. r.1 (ran-before j n d));
          ran_or_ready = λ z. ⊎_elim (λ d. inl (ran-later j n d)) (λ d. inr (is-ready d)) (h.ran_or_ready z);
          ran = λ d. h.ran (ran-before j n d);
        }
          where
            code : (activation_at v.world j).code ≡ (activation_at s.world j).code
            code = on.frames.code j

            was-ready : In (number_of_thread (its_code g v.world j) (parts_in g all v others j) n) (frame_at k.table j).ready
                → In (number_of_thread (its_code g s.world j) (parts_in g all s others j) n) (frame_at m.table j).ready
            was-ready i = subst (λ l. In (number_of_thread (its_code g s.world j) (parts_in g all s others j) n) l) ready
                (subst (λ q. In (number_of_thread (code_of g q) (parts_for all q) n) (frame_at k.table j).ready) code i)

            is-ready : In (number_of_thread (its_code g s.world j) (parts_in g all s others j) n) (frame_at m.table j).ready
                → In (number_of_thread (its_code g v.world j) (parts_in g all v others j) n) (frame_at k.table j).ready
            is-ready i = subst (λ q. In (number_of_thread (code_of g q) (parts_for all q) n) (frame_at k.table j).ready) (sym code)
                (subst (λ l. In (number_of_thread (its_code g s.world j) (parts_in g all s others j) n) l) (sym ready) i)
