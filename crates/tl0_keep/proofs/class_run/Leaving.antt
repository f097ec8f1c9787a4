-- An `out` fires: it puts its word into the merge's slot and spends the merge's ticket.
use Rattle.std.proofs.Common.{◌≡◌, ℕ, ◌<◌, Bool, true, false, List, [], ◌∷◌, flat_map, Option, Some, None, slice_get, length, refl, sym}
use Rattle.std.proofs.Common.{ap, ◌∙◌, subst, inl, inr, ◌⊎◌, ⊎_elim}
use Rattle.std.proofs.lemmas.List.{append-nil}
use Rattle.std.specs.List.{AllByRecursion}
use Rattle.tam_word.specs.Lists.{first_of}
use Rattle.tam_word.proofs.Members.{In}
use Rattle.tam_graph.specs.declared.kind.Kind.{Kind}
use Rattle.tam_graph.specs.declared.kind.Kind.TheVariants.{Leave, Enter, Merge}
use Rattle.tam_graph.specs.Graphs.{Code, Graph, code_of, kind_at, block_at, is_inlet, owner_of, one_or_none, node_where, node_in, node_numbers}
use Rattle.tam_graph.specs.Graphs.{is_enter, is_merge}
use Rattle.tam_split.specs.GraphPartitions.{Partitions}
use Rattle.tam_world.specs.Worlds.{activation_at, its_code, word_of, has_word, got, all_got, merges_of}
use Rattle.tam_flow.specs.Journals.{State}
use Rattle.tam_flow.specs.Reached.{IsThere, Has, kind_of}
use Rattle.tam_flow.proofs.ActivationLists.{has-word, word-there}
use Rattle.tam_flow.proofs.Nodes.{is-merge, where-each}
use Rattle.tam_flow.proofs.Onward.{word-one}
use Rattle.tam_flow.proofs.Gifts.{Leaves, leaves-firing, gift}
use Rattle.tl0_code.specs.declared.instr.Instr.{Instr}
use Rattle.tl0_code.specs.declared.instr.Instr.TheVariants.{Mov, Fork}
use Rattle.tl0_code.specs.Machines.{Machine, slot, put, spend, Progress, Fine, then_do}
use Rattle.tl0_code.specs.ThreadCode.{code_text, plain}
use Rattle.tl0_keep.specs.Compiled.{slot_of, leave_to, thread_of_inlet, compiled_with}
use Rattle.tl0_keep.proofs.code.ThreadKinds.{ThreadKind, Class, Word_of, number_of_thread, IsThread, sources_of, parts_for, inlet_thread}
use Rattle.tl0_keep.proofs.runs.Keeps.{Owed, ticket, parts_in, PostedAt, ReasonAt, Keeps}
use Rattle.tl0_keep.proofs.code.CodeFacts.{TextFacts, CodeFacts}
use Rattle.tl0_keep.proofs.class_run.Later.{there-later}
use Rattle.tl0_keep.proofs.class_run.Step.{OneOf, fired_state, IsFiring, Does, words-before}
use Rattle.tl0_keep.proofs.class_run.Branching.{CanSpend, GivesOne, keeps-due}
use Rattle.tl0_keep.proofs.class_run.Switches.{enter-in}

-- a first element, or none
first-shape : {X : Type 0} (test : X → Bool) (xs : List X) → (first_of test xs ≡ []) ⊎ ((y : X) × (first_of test xs ≡ y ∷ []))
first-shape test [] = inl refl
first-shape {X} test (x ∷ xs) = go (test x) (first-shape test xs)
  where
    go : (t : Bool) → (first_of test xs ≡ []) ⊎ ((y : X) × (first_of test xs ≡ y ∷ []))
        → (elim t [ true ↦ x ∷ [] | false ↦ first_of test xs ] ≡ []) ⊎ ((y : X) × (elim t [ true ↦ x ∷ [] | false ↦ first_of test xs ] ≡ y ∷ []))
    go true h = inr (x, refl)
    go false h = h

module _ (g : Graph) (all : Partitions) (others : List (ℕ × ThreadKind)) (facts : CodeFacts g all) (can : CanSpend g all others) (m : Machine) (s : State)
    (due : List Owed) (keeps : Keeps g all m s others due) (i x : ℕ) (vs : List ℕ) (fires : IsFiring g s m i x vs) (k a v : ℕ)
    (leave : kind_of g s.world i x ≡ Leave k a) (words : vs ≡ v ∷ []) where
  -- its code
  abbrev c : Code
  c = its_code g s.world i

  text : TextFacts g (its_code g s.world i) (parts_in g all s others i) (code_text (plain (compiled_with g all)) (activation_at s.world i).code)
  text = facts.texts (activation_at s.world i).code (keeps.frames.known i fires.there)

  -- where there is a merge
  module _ (y d : ℕ) (owner : owner_of (its_code g s.world i) (block_at (its_code g s.world i) x) ≡ d ∷ [])
      (found : node_where (its_code g s.world i) (is_merge d k) ≡ y ∷ []) where
    merges : merges_of c k (owner_of c (block_at c x)) ≡ y ∷ []
    merges = ap (merges_of c k) owner ∙ (append-nil (node_where c (is_merge d k)) ∙ found)

    leaves : Leaves s.world (got s.world i y v) i (y ∷ [], v) []
    leaves = subst (λ l. Leaves s.world (all_got s.world i l v) i (l, v) []) merges (leaves-firing g s.world i x (Leave k a) (v ∷ []))

    -- it is a merge, and had no word
    merge : (y < length c.nodes) × (kind_of g s.world i y ≡ Merge d k)
    merge =
        let each : AllByRecursion (λ z. (z < length c.nodes) × (is_merge d k (kind_at c z) ≡ true)) (y ∷ []) =
        subst (λ l. AllByRecursion (λ z. (z < length c.nodes) × (is_merge d k (kind_at c z) ≡ true)) l) found (where-each c (is_merge d k)) in
        (each.0.0, is-merge d k (kind_at c y) each.0.1)

    inlet : is_inlet (kind_of g s.world i y) ≡ true
    inlet = ap is_inlet merge.1

    new-word : has_word s.world i y ≡ true → ⊥
    new-word t =
        let r = has-word (activation_at s.world i).words y t in
        fires.fresh y r.0 (subst (λ z. In y (gift c x z vs).0) (sym leave) (subst (λ l. In y (gift c x (Leave k a) l).0) (sym words)
        (subst (λ l. In y l) (sym merges) (inl refl)))) r.1

    -- the thread of the merge
    abbrev its_thread : ThreadKind
    its_thread = inlet_thread (its_code g s.world i) (parts_in g all s others i) y

    is-y : (z : ℕ) → In z (y ∷ []) → y ≡ z
    is-y z (inl e) = e
    is-y z (inr e) = absurd e

    no-enter : (j b t e : ℕ) → In e (node_in (its_code g s.world j) b (is_enter t)) → OneOf i (y ∷ []) j e → ⊥
    no-enter j b t e among new = merge-enter (sym merge.1 ∙ (ap (kind_at c) (is-y e new.1)
        ∙ (ap (λ l. kind_of g s.world l e) (sym new.0) ∙ (enter-in (its_code g s.world j) b t e among).0)))
      where
        merge-enter : Merge d k ≡ Enter t → ⊥
        merge-enter q = cc

    posted-of : (w : State) (z : Kind) → z ≡ Merge d k → has_word w.world i y ≡ true → PostedAt g all w others c i y z
    posted-of w z e h = subst (λ t. PostedAt g all w others c i y t) (sym e) h

    posted-back : (w : State) (z : Kind) → z ≡ Merge d k → PostedAt g all w others c i y z → has_word w.world i y ≡ true
    posted-back w z e h = subst (λ t. PostedAt g all w others c i y t) e h

    gives-merge : GivesOne g all others facts can m s due keeps i x vs fires (got s.world i y v) (y ∷ [], v) [] leaves refl its_thread (Word_of y)
    gives-merge = record {
      brings = record {
        words = words-before g all others s (got s.world i y v) [] i (y ∷ [], v) [] leaves;
        blocks = leaves.new;
        inlets = λ j b t z new apart thread source. mine j b t z new thread source;
        then_cond = λ j z q b f e new. absurd new.1;
        else_cond = λ j z q b f e new. absurd new.1;
        then_switch = λ j z q l f e h among new. absurd (no-enter j _ l e among new);
        else_switch = λ j z q l f e h among new. absurd (no-enter j _ l e among new);
      };
      old = λ h. new-word (posted-back s (kind_at c y) merge.1 h.reason);
      now = record {
        there = there-later g s.world (got s.world i y v) leaves.frames i fires.there;
        thread = subst (λ q. IsThread (code_of g q) (parts_for all q) its_thread) (sym (leaves.frames.code i)) source.0;
        source = subst (λ q. In (Word_of y) (sources_of (code_of g q) (parts_for all q) its_thread)) (sym (leaves.frames.code i)) source.1;
        reason = subst (λ q. ReasonAt g all (fired_state s (got s.world i y v) []) others (code_of g q) i its_thread (Word_of y)) (sym (leaves.frames.code i))
            (posted-of (fired_state s (got s.world i y v) []) (kind_at c y) merge.1
            (word-there (activation_at (got s.world i y v) i).words y v (leaves.given y fires.there (inl refl))));
      };
      inlets = λ z h. subst (λ t. is_inlet (kind_of g s.world i t) ≡ true) (is-y z h) inlet;
      later = λ z h posted. inl (subst (λ q. ticket i its_thread (Word_of y) ≡ ticket i (inlet_thread (code_of g q) (parts_for all q) z) (Word_of z))
          (sym (leaves.frames.code i)) (ap (λ t. ticket i (inlet_thread c (parts_in g all s others i) t) (Word_of t)) (is-y z h)));
    }
      where
        source : IsThread c (parts_in g all s others i) its_thread × In (Word_of y) (sources_of c (parts_in g all s others i) its_thread)
        source = text.inlet_source y merge.0 inlet

        mine : (j b t z : ℕ) → OneOf i (y ∷ []) j z → IsThread (its_code g s.world j) (parts_in g all s others j) (Class b t)
            → In (Word_of z) (sources_of (its_code g s.world j) (parts_in g all s others j) (Class b t))
            → In (ticket j (Class b t) (Word_of z)) (ticket i its_thread (Word_of y) ∷ [])
        mine j b t z (at, h) thread source =
            let same : y ≡ z = is-y z h in
            let th : IsThread c (parts_in g all s others i) (Class b t) =
            subst (λ l. IsThread (its_code g s.world l) (parts_in g all s others l) (Class b t)) at thread in
            let so : In (Word_of z) (sources_of c (parts_in g all s others i) (Class b t)) =
            subst (λ l. In (Word_of z) (sources_of (its_code g s.world l) (parts_in g all s others l) (Class b t))) at source in
            let is : inlet_thread c (parts_in g all s others i) z ≡ Class b t = (text.source_inlet b t z th so).2 in
            inl (ap (λ l. ticket i (inlet_thread c (parts_in g all s others i) l) (Word_of l)) same
            ∙ (ap (λ (l : ThreadKind). ticket i l (Word_of z)) is ∙ ap (λ l. ticket l (Class b t) (Word_of z)) (sym at)))

    -- the word is put, and the ticket spent
    pub does-merge : slot m i (slot_of (its_code g s.world i) a) ≡ v
        → Does g all others m i (Mov (slot_of (its_code g s.world i) y) (slot_of (its_code g s.world i) a)
        ∷ Fork (thread_of_inlet (its_code g s.world i) (parts_in g all s others i) y) ∷ []) (fired_state s (got s.world i y v) []) due
    does-merge has =
        let r = spent in
        record {
          machine = r.0;
          does = ap (λ (z : ℕ). then_do (spend (put m i (slot_of c y) z) i (thread_of_inlet c (parts_in g all s others i) y)) (λ o. Fine o)) has
              ∙ ap (λ (o : Progress). then_do o (λ o. Fine o)) r.1;
          keeps = r.2;
        }
      where
        behind : State
        behind = fired_state s (got s.world i y v) []

        code : (activation_at (got s.world i y v) i).code ≡ (activation_at s.world i).code
        code = leaves.frames.code i

        there : IsThere (got s.world i y v) i
        there = there-later g s.world (got s.world i y v) leaves.frames i fires.there

        is_due : Keeps g all m (fired_state s (got s.world i y v) []) others (ticket i its_thread (Word_of y) ∷ due)
        is_due = keeps-due g all others facts can m s due keeps i x vs fires (got s.world i y v) (y ∷ [], v) [] leaves refl its_thread (Word_of y) gives-merge

        is_put : Keeps g all (put m i (slot_of c y) v) (fired_state s (got s.world i y v) []) others (ticket i its_thread (Word_of y) ∷ due)
            × (slot (put m i (slot_of c y) v) i (slot_of c y) ≡ v)
        is_put = subst (λ q. Keeps g all (put m i (slot_of (code_of g q) y) v) (fired_state s (got s.world i y v) []) others
            (ticket i its_thread (Word_of y) ∷ due)
            × (slot (put m i (slot_of (code_of g q) y) v) i (slot_of (code_of g q) y) ≡ v)) code
            (can.puts m (fired_state s (got s.world i y v) []) (ticket i its_thread (Word_of y) ∷ due) i y v there
            (subst (λ q. y < length (code_of g q).nodes) (sym code) merge.0)
            (subst (λ q. is_inlet (kind_at (code_of g q) y) ≡ true) (sym code) inlet)
            (inl (subst (λ q. ticket i its_thread (Word_of y) ≡ ticket i (inlet_thread (code_of g q) (parts_for all q) y) (Word_of y)) (sym code) refl)) is_due)

        same-node : {z : ℕ} → Word_of y ≡ Word_of z → y ≡ z
        same-node e = cc

        has-word-there : (z u : ℕ) → y ≡ z → Has (fired_state s (got s.world i y v) []) i z u
            → slot (put m i (slot_of c y) v) i (slot_of (its_code g (got s.world i y v) i) z) ≡ u
        has-word-there z u e h =
            let mine : v ≡ u = word-one (got s.world i y v) i z v u (subst (λ t. word_of (got s.world i y v) i t ≡ v ∷ []) e
            (leaves.given y fires.there (inl refl))) h in
            subst (λ q. slot (put m i (slot_of c y) v) i (slot_of (code_of g q) z) ≡ u) (sym code)
            (ap (λ t. slot (put m i (slot_of c y) v) i (slot_of c t)) (sym e) ∙ (is_put.1 ∙ mine))

        spent : (r : Machine) × (spend (put m i (slot_of c y) v) i (thread_of_inlet c (parts_in g all s others i) y) ≡ Fine r)
            × Keeps g all r (fired_state s (got s.world i y v) []) others due
        spent =
            let r = can.spends (put m i (slot_of c y) v) (fired_state s (got s.world i y v) []) due i its_thread (Word_of y) is_put.0
            (λ z u e h. has-word-there z u (same-node (ap (λ (t : Owed). t.1.source) e)) h) in
            (r.0, subst (λ q. spend (put m i (slot_of c y) v) i (number_of_thread (code_of g q) (parts_for all q) its_thread) ≡ Fine r.0) code r.1, r.2)

  -- nothing is given where there is no merge
  does-nothing : (ys : List ℕ) (is : List Instr) → ys ≡ [] → is ≡ [] → Does g all others m i is (fired_state s (all_got s.world i ys v) []) due
  does-nothing ys is e f = subst (λ l. Does g all others m i is (fired_state s (all_got s.world i l v) []) due) (sym e)
      (subst (λ (l : List Instr). Does g all others m i l (fired_state s s.world []) due) (sym f)
      (record {
        machine = m;
        does = refl;
        keeps = subst (λ (l : List Rattle.tam_msgs.specs.declared.message.Message.Message). Keeps g all m (record s { sent = l }) others due)
            (sym (append-nil s.sent)) keeps;
      }))

  -- an owner or none
  owner-shape : (o : Option (Option ℕ)) → (one_or_none o ≡ []) ⊎ ((d : ℕ) × (one_or_none o ≡ d ∷ []))
  owner-shape None = inl refl
  owner-shape (Some None) = inl refl
  owner-shape (Some (Some d)) = inr (d, refl)

  -- of one cond's merge
  one-instrs : ℕ → ℕ → List Instr
  one-instrs a m = Mov (slot_of (its_code g s.world i) m) (slot_of (its_code g s.world i) a)
      ∷ Fork (thread_of_inlet (its_code g s.world i) (parts_in g all s others i) m) ∷ []

  -- so the `out` does
  pub does-leave : slot m i (slot_of (its_code g s.world i) a) ≡ v
      → Does g all others m i (leave_to (its_code g s.world i) (parts_in g all s others i) k a
      (owner_of (its_code g s.world i) (block_at (its_code g s.world i) x)))
      (fired_state s (all_got s.world i (merges_of (its_code g s.world i) k (owner_of (its_code g s.world i) (block_at (its_code g s.world i) x))) v) []) due
  does-leave has = ⊎_elim none owned (owner-shape (slice_get c.owners (block_at c x)))
    where
      ps : List (List (List ℕ))
      ps = parts_in g all s others i

      Goal : List ℕ → Type 0
      Goal owners = Does g all others m i (leave_to c ps k a owners) (fired_state s (all_got s.world i (merges_of c k owners) v) []) due

      none : owner_of c (block_at c x) ≡ [] → Goal (owner_of c (block_at c x))
      none e = does-nothing (merges_of c k (owner_of c (block_at c x))) (leave_to c ps k a (owner_of c (block_at c x))) (ap (merges_of c k) e)
          (ap (leave_to c ps k a) e)

      owned : (d : ℕ) × (owner_of c (block_at c x) ≡ d ∷ []) → Goal (owner_of c (block_at c x))
      owned (d, e) = ⊎_elim empty found (first-shape (λ z. is_merge d k (kind_at c z)) (node_numbers c))
        where
          here : List ℕ → List Instr
          here ms = flat_map (λ z. Mov (slot_of c z) (slot_of c a) ∷ Fork (thread_of_inlet c ps z) ∷ []) ms

          empty : node_where c (is_merge d k) ≡ [] → Goal (owner_of c (block_at c x))
          empty f = does-nothing (merges_of c k (owner_of c (block_at c x))) (leave_to c ps k a (owner_of c (block_at c x)))
              (ap (merges_of c k) e ∙ (append-nil (node_where c (is_merge d k)) ∙ f))
              (ap (leave_to c ps k a) e ∙ (append-nil _ ∙ ap (flat_map (λ z. Mov (slot_of c z) (slot_of c a) ∷ Fork (thread_of_inlet c ps z) ∷ [])) f))

          found : (y : ℕ) × (node_where c (is_merge d k) ≡ y ∷ []) → Goal (owner_of c (block_at c x))
          found (y, f) =
              let instrs : leave_to c ps k a (owner_of c (block_at c x)) ≡ Mov (slot_of c y) (slot_of c a) ∷ Fork (thread_of_inlet c ps y) ∷ [] =
              ap (leave_to c ps k a) e ∙ (append-nil _ ∙ ap (flat_map (λ z. Mov (slot_of c z) (slot_of c a) ∷ Fork (thread_of_inlet c ps z) ∷ [])) f) in
              subst (λ (l : List Instr). Does g all others m i l (fired_state s (all_got s.world i (merges_of c k (owner_of c (block_at c x))) v) []) due)
              (sym instrs)
              (subst (λ l. Does g all others m i (Mov (slot_of c y) (slot_of c a) ∷ Fork (thread_of_inlet c ps y) ∷ [])
              (fired_state s (all_got s.world i l v) []) due)
              (sym (merges y d e f)) (does-merge y d e f has))
