-- When a class runs each of its vertices that fires has words of its operands, and fires for the first time; so the world keeps what it kept.
use Rattle.std.proofs.Common.{◌≡◌, ℕ, ◌<◌, Bool, true, false, ◌==◌, ◌&&◌, not, List, [], ◌∷◌, ◌++◌, length, map, refl, sym, ap, ap₂, ◌∙◌, subst}
use Rattle.std.proofs.Common.{inl, inr, ◌⊎◌, true≢false}
use Rattle.std.specs.List.{AllByRecursion}
use Rattle.tam_word.specs.Lists.{below}
use Rattle.tam_msgs.specs.declared.message.Message.{Message}
use Rattle.tam_graph.specs.Graphs.{Graph, Code, code_of, kind_at, block_at, operands_of, is_inlet, has_value}
use Rattle.tam_graph.specs.Accepted.{IsAccepted}
use Rattle.tam_graph.proofs.Walks.{is_edge}
use Rattle.tam_split.specs.Blocks.{BlockGraph, block_graph, vertex_at, or_vertex, vertices_in}
use Rattle.tam_split.specs.Partitions.{Parts, class_at, class_of, class_edges, directly_before}
use Rattle.tam_split.specs.GraphPartitions.{Partitions, parts_of, are_valid}
use Rattle.tam_split.proofs.BlockGraphs.{in-is_edge}
use Rattle.tam_split.proofs.BlockVertices.{place-at}
use Rattle.tam_split.proofs.Firers.{Giver, giver-at, giver-inlet, operand-edge, value-inner, is_inner}
use Rattle.tam_split.proofs.LeastClasses.{IsValidAt, valid-at, class-below, class-only}
use Rattle.std.proofs.lemmas.Option.{slice_get_within}
use Rattle.std.proofs.lemmas.List.{append_assoc}
use Rattle.tam_word.proofs.Tests.{number-eq, self-eq, true-both}
use Rattle.tam_word.proofs.Members.{In, in-any, all-in, in-has, map-in, filter-in, below-in, left-in, right-in}
use Rattle.tam_word.proofs.Each.{all-more, all-append, all-map, in-each}
use Rattle.tam_world.specs.Worlds.{World, Effect, activation_at, its_code, word_of, has_word, has_entered, fired}
use Rattle.tam_flow.specs.Journals.{State, has_run, block_of_act, parts_of_act}
use Rattle.tam_flow.specs.Reached.{kind_of, HasArrived, HasSome}
use Rattle.tam_flow.proofs.ActivationCounts.{then_one}
use Rattle.tam_flow.proofs.ActivationLists.{has-word}
use Rattle.tam_flow.proofs.ClassRuns.{vertex-each}
use Rattle.tam_flow.proofs.Pairs.{Pairs, pairs-append, fires-once}
use Rattle.tam_flow.proofs.SoundStates.{IsSoundState, IsRunnable, run-block}
use Rattle.tam_flow.proofs.Running.{in-own_class}
use Rattle.tam_flow.proofs.SentOnce.{HasFired, one-class}
use Rattle.tam_flow.proofs.Operands.{operand-taken}
use Rattle.tam_flow.proofs.Gifts.{gift}
use Rattle.tam_flow.proofs.Givers.{inner-gives}
use Rattle.tam_flow.proofs.Onward.{Onward, onward-on, have-all}
use Rattle.tam_flow.proofs.Kept.{HasDone, IsKept, IsWish, CallersThere, kept-same, wish-same, wish-later}
use Rattle.tam_flow.proofs.KeptFirings.{fired-onward, fired-keeps, fired-wishes}
use Rattle.tam_flow.proofs.Senders.{Tag, TagApart, asks, tagged_with, tagged-same, map-append}
use Rattle.tam_flow.proofs.WishesApart.{fired-apart}

-- the message with this tag is among those sent
abbrev pub IsTagged : List Tag → ℕ → ℕ → Message → Type 0
IsTagged tags i x m = In {X = Tag} (m, i, x) tags

-- a wish with a tag was sent by a node that fired
abbrev pub IsOfFiring : Graph → World → (ℕ → ℕ → Type 0) → Tag → Type 0
IsOfFiring g w F t = asks t.0 ≡ true → IsWish g w F t.0 t.1 t.2

-- each message has its sender, each wish one of its own; the world keeps firings and messages; what ran is there, and its inlets have words
pub record IsKeptState (g : Graph) (all : Partitions) (s : State) : Type 0 where
  pub tags : List Tag
  pub same : map (λ t. t.0) tags ≡ s.sent
  pub of_firings : AllByRecursion (IsOfFiring g s.world (HasFired g all s)) tags
  pub apart : Pairs TagApart tags
  pub kept : IsKept g s.world (HasFired g all s) (IsTagged tags) (HasArrived s)
  pub inlets : (i b c y : ℕ) → has_run s i b c ≡ true → In y (class_at (parts_of_act g all s i b) c) → (vertex_at (block_of_act g s i b) y).inlet ≡ true
      → HasSome s i (vertex_at (block_of_act g s i b) y).node
  pub classes : (i b c : ℕ) → has_run s i b c ≡ true → c < length (parts_of_act g all s i b)

-- an edge between places of different classes puts the one class directly before the other
pub directly-before : (es : List (ℕ × ℕ)) (parts : Parts) (d y c : ℕ) → In (d, y) es → class_of parts y ≡ c → (class_of parts d == c) ≡ false
    → directly_before es parts (class_of parts d) c ≡ true
directly-before es parts d y c m e differ =
    in-any (λ (p : ℕ × ℕ). (p.0 == class_of parts d) && (p.1 == c)) (class_edges parts es) (class_of parts d, c)
    (filter-in (λ (p : ℕ × ℕ). not (p.0 == p.1)) (class_of parts d, c) (map (λ p. (class_of parts p.0, class_of parts p.1)) es)
    (subst (λ k. In {X = ℕ × ℕ} (class_of parts d, k) (map (λ p. (class_of parts p.0, class_of parts p.1)) es)) e
    (map-in (λ (p : ℕ × ℕ). (class_of parts p.0, class_of parts p.1)) (d, y) es m)) (ap not differ))
    (true-both (class_of parts d == class_of parts d) (c == c) (self-eq (class_of parts d)) (self-eq c))

module _ (g : Graph) (args : List ℕ) (accepted : IsAccepted g) (all : Partitions) (valid : are_valid g all ≡ true) (s : State) (sound : IsSoundState g args s)
    (state : IsKeptState g all s) (i b c : ℕ) (run : IsRunnable g all s i b c) where
  -- the code of the activation
  abbrev pub the_code : Code
  the_code = its_code g s.world i

  -- the block that runs
  abbrev pub the_block : BlockGraph
  the_block = block_of_act g s i b

  -- its partition
  abbrev pub the_parts : Parts
  the_parts = parts_of_act g all s i b

  -- and the class
  abbrev pub the_class : List ℕ
  the_class = class_at (parts_of_act g all s i b) c

  -- what fired before, and what fires at the places done
  abbrev pub FiredWith : List ℕ → ℕ → ℕ → Type 0
  FiredWith done j z =
      HasFired g all s j z ⊎ ((j ≡ i) × ((y : ℕ) × In y done × ((vertex_at the_block y).inlet ≡ false) × ((vertex_at the_block y).node ≡ z)))

  -- the run so far keeps words, and what the state keeps; the messages of the state and of the run have their senders
  pub record IsKeptRun (done : List ℕ) (e : Effect) : Type 0 where
    pub on : Onward s.world e.world
    pub tags : List Tag
    pub same : map (λ t. t.0) tags ≡ s.sent ++ e.sends
    pub of_firings : AllByRecursion (IsOfFiring g e.world (FiredWith done)) tags
    pub apart : Pairs TagApart tags
    pub kept : IsKept g e.world (FiredWith done) (IsTagged tags) (HasArrived s)

  -- the code's number
  code-there : (activation_at s.world i).code < length g.codes
  code-there = sound.world.codes i run.there

  -- the partition of the block is valid
  parts-valid : IsValidAt the_block the_parts
  parts-valid = valid-at g all (activation_at s.world i).code b valid code-there (run-block g args accepted all s i b c valid sound run)

  module _ (done : List ℕ) (e : Effect) (so_far : IsKeptRun done e) where
    -- an inner node that fired has a word
    inner-has : (a : ℕ) → FiredWith done i a → has_value (kind_at the_code a) ≡ true → is_inlet (kind_at the_code a) ≡ false
        → (u : ℕ) × (word_of e.world i a ≡ u ∷ [])
    inner-has a fired value none = has (so_far.kept.done i a fired)
      where
        has : HasDone g e.world (IsTagged so_far.tags i a) i a → (u : ℕ) × (word_of e.world i a ≡ u ∷ [])
        has h = (
          (gift (its_code g e.world i) a (kind_of g e.world i a) h.words).1,
          h.gave a (inner-gives (its_code g e.world i) a (kind_of g e.world i a) e.world i h.words
              (subst (λ n. is_inner (kind_at (code_of g n) a) ≡ true) (sym (so_far.on.code i run.there)) (value-inner (kind_at the_code a) value none)) h.have),
        )

    module _ (y : ℕ) (inside : In y the_class) (within : y < length the_block.vertices)
        (before : (d : ℕ) → In d the_class → is_edge the_block.edges d y ≡ true → In d done) where
      -- the node of the place
      abbrev the_node : ℕ
      the_node = (vertex_at the_block y).node

      -- it stands in the block
      node-in_block : (the_node < length the_code.nodes) × (block_at the_code the_node ≡ b)
      node-in_block = vertex-each the_code b y within

      -- the place of an operand's value: it is done or its class has run, so the operand has a word
      giver-has : (a d : ℕ) → has_value (kind_at the_code a) ≡ true → Giver the_code b d a → In (d, y) the_block.edges
          → (u : ℕ) × (word_of e.world i a ≡ u ∷ [])
      giver-has a d value giver edge = go (class_of the_parts d == c) refl (is_inlet (kind_at the_code a)) refl
        where
          place : d < length the_block.vertices
          place = slice_get_within (vertices_in the_code b) d giver.vertex giver.stands

          vertex : vertex_at the_block d ≡ giver.vertex
          vertex = ap or_vertex giver.stands

          its-node : (vertex_at the_block d).node ≡ a
          its-node = ap (λ v. v.node) vertex ∙ giver.of_node

          its-inlet : (vertex_at the_block d).inlet ≡ is_inlet (kind_at the_code a)
          its-inlet = ap (λ v. v.inlet) vertex ∙ giver-inlet the_code b d a giver

          own : In d (class_at the_parts (class_of the_parts d))
          own = in-own_class g all (activation_at s.world i).code b d valid code-there (run-block g args accepted all s i b c valid sound run) place

          later : (u : ℕ) × (word_of s.world i (vertex_at the_block d).node ≡ u ∷ []) → (u : ℕ) × (word_of e.world i a ≡ u ∷ [])
          later h = (h.0, so_far.on.words i a h.0 (subst (λ z. word_of s.world i z ≡ h.0 ∷ []) its-node h.1))

          inlet-now : In d the_class → (vertex_at the_block d).inlet ≡ true → has_word s.world i (vertex_at the_block d).node ≡ true
          inlet-now m t = let h = all-in _ the_class run.inlets d m in rw t at h

          ran : (class_of the_parts d == c) ≡ false → has_run s i b (class_of the_parts d) ≡ true
          ran differ =
              let own_class = class-only the_parts c y (parts-valid.once y within) (in-has the_class y inside) in
              let h = all-in _ (below (length the_parts)) run.before (class_of the_parts d)
              (below-in (class_of the_parts d) (length the_parts) (class-below the_parts d (parts-valid.once d place))) in
              rw (directly-before the_block.edges the_parts d y c edge own_class differ) at h

          go : (t : Bool) → (class_of the_parts d == c) ≡ t → (k : Bool) → is_inlet (kind_at the_code a) ≡ k → (u : ℕ) × (word_of e.world i a ≡ u ∷ [])
          go true p true q =
              let m = subst (λ k. In d (class_at the_parts k)) (number-eq _ _ p) own in
              later (has-word (activation_at s.world i).words (vertex_at the_block d).node (inlet-now m (its-inlet ∙ q)))
          go true p false q =
              let m = subst (λ k. In d (class_at the_parts k)) (number-eq _ _ p) own in
              inner-has a (inr (refl, (d, before d m (in-is_edge the_block.edges d y edge), its-inlet ∙ q, its-node))) value q
          go false p true q = later (state.inlets i b (class_of the_parts d) d (ran p) own (its-inlet ∙ q))
          go false p false q = inner-has a (inl (record {
            there = run.there;
            code = (activation_at s.world i).code;
            block = b;
            class = class_of the_parts d;
            place = d;
            is_code = refl;
            ran = ran p;
            inside = own;
            within = place;
            no_inlet = its-inlet ∙ q;
            node = its-node;
          })) value q

      -- so each operand of a place that fires has a word
      pub operand-has : (vertex_at the_block y).inlet ≡ false → (a : ℕ) → In a (operands_of the_code (kind_at the_code the_node))
          → (u : ℕ) × (word_of e.world i a ≡ u ∷ [])
      operand-has none a m =
          let taken = operand-taken g accepted (activation_at s.world i).code code-there the_node a (kind_at the_code the_node) node-in_block.0 refl m in
          let giver = giver-at the_code a (below-in a (length the_code.nodes) taken.0.there) in
          let here = subst (λ k. Giver the_code k giver.0 a) (taken.1 ∙ node-in_block.1) giver.1 in
          giver-has a giver.0 taken.0.value here
          (operand-edge the_code b giver.0 y the_node a
          (record { vertex = vertex_at the_block y; stands = place-at the_code b y within; of_node = refl; no_inlet = none }) here m)

      -- and the place fires for the first time
      pub fires-first : (In y done → ⊥) → (vertex_at the_block y).inlet ≡ false → ((z : ℕ) → In z done → z < length the_block.vertices)
          → FiredWith done i the_node → ⊥
      fires-first fresh none places (inl f) =
          let both = one-class g args accepted all valid (activation_at s.world i).code b c f.block f.class f.place y code-there
          (run-block g args accepted all s i b c valid sound run)
          (subst (λ n. f.place < length (block_graph (code_of g n) f.block).vertices) f.is_code f.within) within
          (subst (λ n. (vertex_at (block_graph (code_of g n) f.block) f.place).inlet ≡ false) f.is_code f.no_inlet) none
          (subst (λ n. (vertex_at (block_graph (code_of g n) f.block) f.place).node ≡ the_node) f.is_code f.node)
          (subst (λ n. In f.place (class_at (parts_of all n f.block) f.class)) f.is_code f.inside) inside in
          true≢false (sym (subst (λ m. has_run s i m c ≡ true) both.0 (subst (λ m. has_run s i f.block m ≡ true) both.1 f.ran)) ∙ run.once)
      fires-first fresh none places (inr (q, (z, m, k, h))) =
          fresh (subst (λ x. In x done) (fires-once the_code b z y (places z m) within k none h) m)

      -- one more place is done
      pub kept-one : CallersThere e.world → (In y done → ⊥) → ((z : ℕ) → In z done → z < length the_block.vertices)
          → IsKeptRun (y ∷ done) (then_one g the_block i e y)
      kept-one callers fresh places = go (vertex_at the_block y).inlet refl
        where
          node-at : (vertex_at the_block y).inlet ≡ false → (j z : ℕ) → FiredWith (y ∷ done) j z → FiredWith done j z ⊎ ((j ≡ i) × (z ≡ the_node))
          node-at d j z (inl f) = inl (inl f)
          node-at d j z (inr (q, (x, inl p, k, h))) = inr (q, sym h ∙ ap (λ n. (vertex_at the_block n).node) (sym p))
          node-at d j z (inr (q, (x, inr m, k, h))) = inl (inr (q, (x, m, k, h)))

          at-node : (vertex_at the_block y).inlet ≡ false → (j z : ℕ) → FiredWith done j z ⊎ ((j ≡ i) × (z ≡ the_node)) → FiredWith (y ∷ done) j z
          at-node d j z (inl (inl f)) = inl f
          at-node d j z (inl (inr (q, (x, m, k, h)))) = inr (q, (x, inr m, k, h))
          at-node d j z (inr (q, p)) = inr (q, (y, inl refl, d, sym p))

          no-node : (vertex_at the_block y).inlet ≡ true → (j z : ℕ) → FiredWith (y ∷ done) j z → FiredWith done j z
          no-node d j z (inl f) = inl f
          no-node d j z (inr (q, (x, inl p, k, h))) = absurd (true≢false (sym d ∙ (ap (λ n. (vertex_at the_block n).inlet) p ∙ k)))
          no-node d j z (inr (q, (x, inr m, k, h))) = inr (q, (x, m, k, h))

          still : (j z : ℕ) → FiredWith done j z → FiredWith (y ∷ done) j z
          still j z (inl f) = inl f
          still j z (inr (q, (x, m, k, h))) = inr (q, (x, inr m, k, h))

          sent : (j z : ℕ) (m : Message) → IsTagged so_far.tags j z m ⊎ ((j ≡ i) × (z ≡ the_node) × In m (fired g e.world i the_node).sends)
              → IsTagged (so_far.tags ++ tagged_with i the_node (fired g e.world i the_node).sends) j z m
          sent j z m (inl h) = left-in {X = Tag} (m, j, z) so_far.tags (tagged_with i the_node (fired g e.world i the_node).sends) h
          sent j z m (inr (p, q, h)) =
              subst (λ l. IsTagged (so_far.tags ++ tagged_with i the_node (fired g e.world i the_node).sends) l z m) (sym p)
              (subst (λ l. IsTagged (so_far.tags ++ tagged_with i the_node (fired g e.world i the_node).sends) i l m) (sym q)
              (right-in {X = Tag} (m, i, the_node) so_far.tags (tagged_with i the_node (fired g e.world i the_node).sends)
              (map-in (λ (o : Message). (o, i, the_node)) m (fired g e.world i the_node).sends h)))

          go : (t : Bool) → (vertex_at the_block y).inlet ≡ t → IsKeptRun (y ∷ done) (then_one g the_block i e y)
          go true d = rw (then_one, d) (record {
            on = so_far.on;
            tags = so_far.tags;
            same = so_far.same;
            of_firings = all-more (IsOfFiring g e.world (FiredWith done)) (IsOfFiring g e.world (FiredWith (y ∷ done)))
                (λ t h k. wish-same g e.world (FiredWith done) (FiredWith (y ∷ done)) still t.0 t.1 t.2 (h k)) so_far.tags so_far.of_firings;
            apart = so_far.apart;
            kept = kept-same g e.world (FiredWith done) (FiredWith (y ∷ done)) (IsTagged so_far.tags) (IsTagged so_far.tags) (HasArrived s) (HasArrived s)
                still (no-node d) (λ j z m h. h) (λ m h. h) so_far.kept;
          })
          go false d =
              let same = so_far.on.code i run.there in
              let there = so_far.on.there i run.there in
              let code = subst (λ n. n < length g.codes) (sym same) code-there in
              let have = have-all e.world i (operands_of (its_code g e.world i) (kind_of g e.world i the_node))
              (λ a m. operand-has d a (subst (λ n. In a (operands_of (code_of g n) (kind_at (code_of g n) the_node))) same m)) in
              let opened = subst (λ n. has_entered e.world i (block_at (code_of g n) the_node) ≡ true) (sym same)
              (subst (λ k. has_entered e.world i k ≡ true) (sym node-in_block.1) (so_far.on.blocks i b run.open_block)) in
              let new = fires-first fresh d places in
              let on = fired-onward g accepted e.world (FiredWith done) (IsTagged so_far.tags) (HasArrived s) so_far.kept i there code the_node
              have.0 new opened callers have.1 in
              rw (then_one, d) (record {
                on = onward-on s.world e.world (fired g e.world i the_node).world so_far.on on;
                tags = so_far.tags ++ tagged_with i the_node (fired g e.world i the_node).sends;
                same = map-append so_far.tags (tagged_with i the_node (fired g e.world i the_node).sends)
                    ∙ (ap₂ (λ l k. l ++ k) so_far.same (tagged-same i the_node (fired g e.world i the_node).sends)
                    ∙ append_assoc s.sent e.sends (fired g e.world i the_node).sends);
                of_firings = all-append (IsOfFiring g (fired g e.world i the_node).world (FiredWith (y ∷ done))) so_far.tags
                    (tagged_with i the_node (fired g e.world i the_node).sends)
                    (all-more (IsOfFiring g e.world (FiredWith done)) (IsOfFiring g (fired g e.world i the_node).world (FiredWith (y ∷ done)))
                    (λ t h k. wish-later g e.world (fired g e.world i the_node).world on callers (FiredWith done) (FiredWith (y ∷ done)) still t.0 t.1 t.2
                    (so_far.kept.there t.1 t.2 (h k).fired) (h k)) so_far.tags so_far.of_firings)
                    (all-map (IsOfFiring g (fired g e.world i the_node).world (FiredWith (y ∷ done))) (λ o. (o, i, the_node)) (fired g e.world i the_node).sends
                    (in-each (λ o. asks o ≡ true → IsWish g (fired g e.world i the_node).world (FiredWith (y ∷ done)) o i the_node)
                    (fired g e.world i the_node).sends (λ o m k. wish-same g (fired g e.world i the_node).world
                    (λ j z. FiredWith done j z ⊎ ((j ≡ i) × (z ≡ the_node))) (FiredWith (y ∷ done)) (at-node d) o i the_node
                    (fired-wishes g accepted e.world (FiredWith done) (IsTagged so_far.tags) (HasArrived s) so_far.kept i there code the_node
                    have.0 new opened callers have.1 o m))));
                apart = pairs-append TagApart so_far.tags (tagged_with i the_node (fired g e.world i the_node).sends) so_far.apart
                    (fired-apart g e.world i the_node)
                    (all-more (IsOfFiring g e.world (FiredWith done))
                    (λ t. AllByRecursion (TagApart t) (tagged_with i the_node (fired g e.world i the_node).sends))
                    (λ t h. all-map (TagApart t) (λ o. (o, i, the_node)) (fired g e.world i the_node).sends
                    (in-each (λ o. TagApart t (o, i, the_node)) (fired g e.world i the_node).sends (λ o m p q r k. new (moved (h p).fired r k)))) so_far.tags
                    so_far.of_firings);
                kept = kept-same g (fired g e.world i the_node).world (λ j z. FiredWith done j z ⊎ ((j ≡ i) × (z ≡ the_node))) (FiredWith (y ∷ done))
                    (λ j z m. IsTagged so_far.tags j z m ⊎ ((j ≡ i) × (z ≡ the_node) × In m (fired g e.world i the_node).sends))
                    (IsTagged (so_far.tags ++ tagged_with i the_node (fired g e.world i the_node).sends)) (HasArrived s) (HasArrived s)
                    (at-node d) (node-at d) sent (λ m h. h)
                    (fired-keeps g accepted e.world (FiredWith done) (IsTagged so_far.tags) (HasArrived s) so_far.kept i there code the_node
                    have.0 new opened callers have.1);
              })
            where
              moved : {j z : ℕ} → FiredWith done j z → j ≡ i → z ≡ the_node → FiredWith done i the_node
              moved {j} {z} h p q = subst (λ k. FiredWith done k the_node) p (subst (λ k. FiredWith done j k) q h)
