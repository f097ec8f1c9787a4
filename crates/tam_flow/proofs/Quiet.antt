-- A state in which nothing may follow: what was sent has arrived, and an outlet whose dependences have words has had its class run.
use Rattle.std.proofs.Common.{◌≡◌, ℕ, ◌<◌, Bool, true, false, not, refl, sym, ◌∙◌, true≢false, length, Some, None, slice_get, ◌==◌, ◌&&◌, nat_lt, is_none}
use Rattle.std.proofs.lemmas.Option.{slice_get_within}
use Rattle.tam_word.specs.Lists.{has, below}
use Rattle.tam_word.proofs.Tests.{self-eq, below-test, true-both}
use Rattle.tam_word.proofs.Members.{In, in-any, in-all, filter-in, in-has, below-in, in-below, get-in}
use Rattle.tam_msgs.specs.declared.message.Message.{Message}
use Rattle.tam_graph.specs.Edges.{reaches}
use Rattle.tam_graph.specs.Graphs.{Graph}
use Rattle.tam_split.specs.Blocks.{vertex_at, places, outlets_of, vertices_in}
use Rattle.tam_split.specs.Partitions.{class_of, class_at, directly_before, leads_to}
use Rattle.tam_split.specs.GraphPartitions.{Partitions}
use Rattle.tam_split.proofs.BlockPaths.{edge-of}
use Rattle.tam_split.proofs.LeastClasses.{IsValidAt, class-below, class-only, first-unrun, leading-below}
use Rattle.tam_world.specs.Worlds.{has_word, has_entered, its_code}
use Rattle.tam_flow.specs.Journals.{State, Event, Run, Deliver, may_follow, may_run, may_arrive, has_run, inlets_have_words, those_before_ran, block_of_act}
use Rattle.tam_flow.specs.Journals.{parts_of_act}
use Rattle.tam_flow.specs.Reached.{IsThere, WasSent, HasArrived}

-- nothing has gone wrong, and nothing may follow
pub record IsAtRest (g : Graph) (all : Partitions) (s : State) : Type 0 where
  pub whole : s.fault ≡ None
  pub ended : (e : Event) → may_follow g all s e ≡ false

module _ (g : Graph) (all : Partitions) (s : State) (rest : IsAtRest g all s) where
  -- so the test for a fault finds none
  no-fault : is_none s.fault ≡ true
  no-fault = rw rest.whole refl

  -- a message that was sent has arrived, by its number
  pub number-arrived : (n : ℕ) (m : Message) → slice_get s.sent n ≡ Some m → has s.arrived n ≡ true
  number-arrived n m e = go (has s.arrived n) refl
    where
      go : (b : Bool) → has s.arrived n ≡ b → has s.arrived n ≡ true
      go true p = p
      go false p =
          let a : may_arrive s n ≡ true = true-both (nat_lt n (length s.sent)) (not (has s.arrived n))
          (below-test n (length s.sent) (slice_get_within s.sent n m e)) (rw p refl) in
          absurd (true≢false (sym (true-both (is_none s.fault) (may_arrive s n) no-fault a) ∙ rest.ended (Deliver n)))

  -- what was sent has arrived
  pub sent-arrived : (m : Message) → WasSent s m → HasArrived s m
  sent-arrived m (n, e) = (n, e, number-arrived n m e)

  -- a class that has all that it waits for has run
  pub ready-ran : (i b c : ℕ) → IsThere s.world i → c < length (parts_of_act g all s i b) → has_entered s.world i b ≡ true
      → inlets_have_words (block_of_act g s i b) s i (class_at (parts_of_act g all s i b) c) ≡ true
      → those_before_ran (block_of_act g s i b) (parts_of_act g all s i b) s i b c ≡ true → has_run s i b c ≡ true
  ready-ran i b c there l entered words before = go (has_run s i b c) refl
    where
      go : (t : Bool) → has_run s i b c ≡ t → has_run s i b c ≡ true
      go true p = p
      go false p =
          let r : may_run g all s i b c ≡ true =
          rw (below-test i (length s.world.activations) there, below-test c (length (parts_of_act g all s i b)) l, p, entered, words, before) refl in
          absurd (true≢false (sym (true-both (is_none s.fault) (may_run g all s i b c) no-fault r) ∙ rest.ended (Run i b c)))

  module _ (i b : ℕ) (valid : IsValidAt (block_of_act g s i b) (parts_of_act g all s i b)) where
    -- an edge starts at a place that has a class
    edge-starts : (e : ℕ × ℕ) → In e (block_of_act g s i b).edges → class_of (parts_of_act g all s i b) e.0 < length (parts_of_act g all s i b)
    edge-starts e a =
        let f = edge-of (its_code g s.world i) (vertices_in (its_code g s.world i) b) e.0 e.1
        (in-any (λ (d : ℕ × ℕ). (d.0 == e.0) && (d.1 == e.1)) (block_of_act g s i b).edges e a (true-both (e.0 == e.0) (e.1 == e.1) (self-eq e.0)
        (self-eq e.1))) in
        class-below (parts_of_act g all s i b) e.0 (valid.once e.0 (slice_get_within (vertices_in (its_code g s.world i) b) e.0 f.0 f.2))

    -- THE BLOCK LEMMA: at rest the class of an outlet has run where each inlet that reaches the outlet has a word
    pub outlet-class-ran : IsThere s.world i → has_entered s.world i b ≡ true → (o : ℕ) → o < length (block_of_act g s i b).vertices
        → (vertex_at (block_of_act g s i b) o).outlet ≡ true
        → ((j : ℕ) → j < length (block_of_act g s i b).vertices → (vertex_at (block_of_act g s i b) j).inlet ≡ true
        → reaches (block_of_act g s i b).edges j o ≡ true
        → has_word s.world i (vertex_at (block_of_act g s i b) j).node ≡ true)
        → has_run s i b (class_of (parts_of_act g all s i b) o) ≡ true
    outlet-class-ran there entered o within out words = go (has_run s i b (class_of (parts_of_act g all s i b) o)) refl
      where
        own : class_of (parts_of_act g all s i b) o < length (parts_of_act g all s i b)
        own = class-below (parts_of_act g all s i b) o (valid.once o within)

        outlet : In o (outlets_of (block_of_act g s i b))
        outlet = filter-in (λ x. (vertex_at (block_of_act g s i b) x).outlet) o (places (block_of_act g s i b))
            (below-in o (length (block_of_act g s i b).vertices) within) out

        stuck : (d : ℕ) × (has_run s i b d ≡ false) × (leads_to (block_of_act g s i b).edges (parts_of_act g all s i b) d
            (class_of (parts_of_act g all s i b) o) ≡ true)
            × ((e : ℕ) → e < length (parts_of_act g all s i b) → directly_before (block_of_act g s i b).edges (parts_of_act g all s i b) e d ≡ true
            → has_run s i b e ≡ true) → ⊥
        stuck (d, unrun, leads, before) = true≢false (sym ran ∙ unrun)
          where
            here : d < length (parts_of_act g all s i b)
            here = leading-below (block_of_act g s i b).edges (parts_of_act g all s i b) valid.acyclic edge-starts d
                (class_of (parts_of_act g all s i b) o) own leads

            in-class : (x : ℕ) → In x (class_at (parts_of_act g all s i b) d) → x < length (block_of_act g s i b).vertices
            in-class x m = at (slice_get (parts_of_act g all s i b) d) refl m
              where
                at : (p : _) → slice_get (parts_of_act g all s i b) d ≡ p → In x (class_at (parts_of_act g all s i b) d)
                    → x < length (block_of_act g s i b).vertices
                at None e a = absurd (rw e at a)
                at (Some p) e a = valid.inside p x (get-in (parts_of_act g all s i b) d p e) (rw e at a)

            word : (x : ℕ) → In x (class_at (parts_of_act g all s i b) d) → (vertex_at (block_of_act g s i b) x).inlet ≡ true
                → has_word s.world i (vertex_at (block_of_act g s i b) x).node ≡ true
            word x m inlet =
                let l = in-class x m in
                let same : class_of (parts_of_act g all s i b) x ≡ d = class-only (parts_of_act g all s i b) d x (valid.once x l)
                (in-has (class_at (parts_of_act g all s i b) d) x m) in
                let a = filter-in (λ y. (vertex_at (block_of_act g s i b) y).inlet) x (places (block_of_act g s i b))
                (below-in x (length (block_of_act g s i b).vertices) l) inlet in
                words x l inlet (valid.keeps x o a outlet (rw same leads))

            wait : (x : ℕ) → In x (class_at (parts_of_act g all s i b) d)
                → elim (vertex_at (block_of_act g s i b) x).inlet [ true ↦ has_word s.world i (vertex_at (block_of_act g s i b) x).node | false ↦ true ] ≡ true
            wait x m = test (vertex_at (block_of_act g s i b) x).inlet refl
              where
                test : (t : Bool) → (vertex_at (block_of_act g s i b) x).inlet ≡ t
                    → elim (vertex_at (block_of_act g s i b) x).inlet [
                      | true ↦ has_word s.world i
                          (vertex_at (block_of_act g s i b) x).node
                      | false ↦ true
                    ] ≡ true
                test true e = rw e (word x m e)
                test false e = rw e refl

            earlier : (e : ℕ) → In e (below (length (parts_of_act g all s i b)))
                → elim (directly_before (block_of_act g s i b).edges (parts_of_act g all s i b) e d) [ true ↦ has_run s i b e | false ↦ true ] ≡ true
            earlier e m = test (directly_before (block_of_act g s i b).edges (parts_of_act g all s i b) e d) refl
              where
                test : (t : Bool) → directly_before (block_of_act g s i b).edges (parts_of_act g all s i b) e d ≡ t
                    → elim (directly_before (block_of_act g s i b).edges (parts_of_act g all s i b) e d) [ true ↦ has_run s i b e | false ↦ true ] ≡ true
                test true p = rw p (before e (in-below e (length (parts_of_act g all s i b)) m) p)
                test false p = rw p refl

            ran : has_run s i b d ≡ true
            ran = ready-ran i b d there here entered (in-all _ (class_at (parts_of_act g all s i b) d) wait)
                (in-all _ (below (length (parts_of_act g all s i b))) earlier)

        go : (t : Bool) → has_run s i b (class_of (parts_of_act g all s i b) o) ≡ t → has_run s i b (class_of (parts_of_act g all s i b) o) ≡ true
        go true p = p
        go false p = absurd (stuck (first-unrun (block_of_act g s i b).edges (parts_of_act g all s i b) valid.acyclic (has_run s i b)
            (class_of (parts_of_act g all s i b) o) p))
