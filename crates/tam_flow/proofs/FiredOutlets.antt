-- An outlet that fired has run, and one that ran has done what it does with the words that its operands have.
use Rattle.std.proofs.Common.{◌≡◌, ℕ, ◌<◌, true, false, ◌==◌, ◌&&◌, List, length, sym, ap, ◌∙◌, subst, inl, inr, true≢false}
use Rattle.tam_msgs.specs.declared.message.Message.{Message}
use Rattle.tam_graph.specs.declared.kind.Kind.{Kind}
use Rattle.tam_graph.specs.Graphs.{Graph, code_of, kind_at, block_at, operands_of, is_outlet}
use Rattle.tam_word.specs.Lists.{any_of}
use Rattle.tam_split.specs.declared.vertex.Vertex.{Vertex}
use Rattle.tam_split.specs.Blocks.{block_graph, vertex_at, places}
use Rattle.tam_split.specs.Partitions.{class_of, class_at}
use Rattle.tam_split.specs.GraphPartitions.{Partitions, parts_of, are_valid}
use Rattle.tam_split.proofs.BlockVertices.{HasShape, at-shape, place-at}
use Rattle.tam_split.proofs.LeastClasses.{valid-at, class-only}
use Rattle.tam_word.proofs.Tests.{eq-number, true-both}
use Rattle.tam_word.proofs.Members.{In, in-any, in-has, in-get, map-in, filter-in, below-in}
use Rattle.tam_world.specs.Worlds.{activation_at, its_code, has_entered, firing_of}
use Rattle.tam_flow.specs.Journals.{State, has_run}
use Rattle.tam_flow.specs.Told.{outlet_place}
use Rattle.tam_flow.specs.Reached.{kind_of, Ran, Has, WasSent}
use Rattle.tam_flow.proofs.ClassRuns.{vertex-each}
use Rattle.tam_flow.proofs.FiringReasons.{HaveThese}
use Rattle.tam_flow.proofs.SoundStates.{IsSoundState}
use Rattle.tam_flow.proofs.SentOnce.{HasFired}
use Rattle.tam_flow.proofs.Running.{ran-fired}
use Rattle.tam_flow.proofs.Gifts.{gift, opens}
use Rattle.tam_flow.proofs.Onward.{have-one}
use Rattle.tam_flow.proofs.Kept.{HasDone}
use Rattle.tam_flow.proofs.KeptRuns.{IsTagged, IsKeptState}
use Rattle.tam_flow.proofs.Senders.{Tag}

-- a vertex that fires for an outlet is an outlet
fires-outlet : (x : ℕ) (k : Kind) (v : Vertex) → HasShape x k v → v.inlet ≡ false → is_outlet k ≡ true → v.outlet ≡ true
fires-outlet x k v (inl (e, inl p)) n o = ap (λ (w : Vertex). w.outlet) p
fires-outlet x k v (inl (e, inr p)) n o = absurd (true≢false (sym (ap (λ (w : Vertex). w.inlet) p) ∙ n))
fires-outlet x k v (inr (e, p)) n o = ap (λ (w : Vertex). w.outlet) p ∙ o

-- an outlet that fired has run
pub fired-ran : (g : Graph) (args : List ℕ) (all : Partitions) (s : State) → are_valid g all ≡ true → IsSoundState g args s → (i x : ℕ) → HasFired g all s i x
    → is_outlet (kind_of g s.world i x) ≡ true → Ran g all s i x
fired-ran g args all s valid sound i x h outlet =
    at h.block block (subst (λ n. h.place < length (block_graph (code_of g n) h.block).vertices) h.is_code h.within)
    (subst (λ n. (vertex_at (block_graph (code_of g n) h.block) h.place).inlet ≡ false) h.is_code h.no_inlet) node
    (subst (λ n. In h.place (class_at (parts_of all n h.block) h.class)) h.is_code h.inside) h.ran inside
  where
    node : (vertex_at (block_graph (its_code g s.world i) h.block) h.place).node ≡ x
    node = subst (λ n. (vertex_at (block_graph (code_of g n) h.block) h.place).node ≡ x) h.is_code h.node

    block : h.block ≡ block_at (its_code g s.world i) x
    block =
        sym (vertex-each (its_code g s.world i) h.block h.place
        (subst (λ n. h.place < length (block_graph (code_of g n) h.block).vertices) h.is_code h.within)).1
        ∙ ap (block_at (its_code g s.world i)) node

    inside : h.block < length (its_code g s.world i).owners
    inside = subst (λ n. h.block < length (code_of g n).owners) (sound.world.path_codes i h.there)
        (sound.world.blocks i h.block h.there (sound.ran i h.block h.class h.ran).1).1

    here : (b : ℕ) → h.place < length (block_graph (its_code g s.world i) b).vertices
        → (vertex_at (block_graph (its_code g s.world i) b) h.place).inlet ≡ false
        → (vertex_at (block_graph (its_code g s.world i) b) h.place).node ≡ x → In h.place (class_at (parts_of all (activation_at s.world i).code b) h.class)
        → has_run s i b h.class ≡ true → b < length (its_code g s.world i).owners
        → any_of (λ y. has_run s i b (class_of (parts_of all (activation_at s.world i).code b) y)) (outlet_place (block_graph (its_code g s.world i) b) x)
        ≡ true
    here b within none node m ran there =
        in-any (λ y. has_run s i b (class_of (parts_of all (activation_at s.world i).code b) y)) (outlet_place (block_graph (its_code g s.world i) b) x) h.place
        (filter-in (λ y. (vertex_at (block_graph (its_code g s.world i) b) y).outlet && ((vertex_at (block_graph (its_code g s.world i) b) y).node == x))
        h.place
        (places (block_graph (its_code g s.world i) b)) (below-in h.place (length (block_graph (its_code g s.world i) b).vertices) within)
        (true-both (vertex_at (block_graph (its_code g s.world i) b) h.place).outlet ((vertex_at (block_graph (its_code g s.world i) b) h.place).node == x)
        is_out (eq-number _ x node)))
        (subst (λ k. has_run s i b k ≡ true) (sym (class-only (parts_of all (activation_at s.world i).code b) h.class h.place
        ((valid-at g all (activation_at s.world i).code b valid (sound.world.codes i h.there) there).once h.place within)
        (in-has (class_at (parts_of all (activation_at s.world i).code b) h.class) h.place m))) ran)
      where
        is_out : (vertex_at (block_graph (its_code g s.world i) b) h.place).outlet ≡ true
        is_out =
            let v = vertex_at (block_graph (its_code g s.world i) b) h.place in
            fires-outlet (vertex_at (block_graph (its_code g s.world i) b) h.place).node
            (kind_at (its_code g s.world i) (vertex_at (block_graph (its_code g s.world i) b) h.place).node)
            (vertex_at (block_graph (its_code g s.world i) b) h.place)
            (at-shape (its_code g s.world i) b h.place (vertex_at (block_graph (its_code g s.world i) b) h.place)
            (place-at (its_code g s.world i) b h.place within)).0 none
            (subst (λ y. is_outlet (kind_of g s.world i y) ≡ true) (sym node) outlet)

    at : (b : ℕ) → b ≡ block_at (its_code g s.world i) x → h.place < length (block_graph (its_code g s.world i) b).vertices
        → (vertex_at (block_graph (its_code g s.world i) b) h.place).inlet ≡ false
        → (vertex_at (block_graph (its_code g s.world i) b) h.place).node ≡ x → In h.place (class_at (parts_of all (activation_at s.world i).code b) h.class)
        → has_run s i b h.class ≡ true → b < length (its_code g s.world i).owners → Ran g all s i x
    at b e within none node m ran there =
        subst (λ d. any_of (λ y. has_run s i d (class_of (parts_of all (activation_at s.world i).code d) y))
        (outlet_place (block_graph (its_code g s.world i) d) x) ≡ true) e
        (here b within none node m ran there)

-- what node x of activation i of kind k has done with the words vs, by the messages with their senders
pub record DoneWith (g : Graph) (s : State) (tags : List Tag) (i x : ℕ) (k : Kind) (vs : List ℕ) : Type 0 where
  pub tagged : (m : Message) → In m (firing_of g s.world i x k vs).sends → IsTagged tags i x m
  pub gave : (y : ℕ) → In y (gift (its_code g s.world i) x k vs).0 → Has s i y (gift (its_code g s.world i) x k vs).1
  pub entered : (b : ℕ) → In b (opens (its_code g s.world i) x k vs) → has_entered s.world i b ≡ true

module _ (g : Graph) (args : List ℕ) (all : Partitions) (s : State) (valid : are_valid g all ≡ true) (sound : IsSoundState g args s)
    (state : IsKeptState g all s) where
  -- an outlet that ran has done what it does with the words of its operands
  pub done-with : (i x : ℕ) (k : Kind) (vs : List ℕ) → Ran g all s i x → kind_of g s.world i x ≡ k
      → HaveThese s.world i (operands_of (its_code g s.world i) k) vs → DoneWith g s state.tags i x k vs
  done-with i x k vs ran kind have = with_words (state.kept.done i x (ran-fired g args all s valid sound i x ran))
    where
      with_words : HasDone g s.world (IsTagged state.tags i x) i x → DoneWith g s state.tags i x k vs
      with_words h = subst (λ d. DoneWith g s state.tags i x d vs) kind (subst (λ l. DoneWith g s state.tags i x (kind_of g s.world i x) l) same
          (record { tagged = h.sent; gave = h.gave; entered = h.entered }))
        where
          same : h.words ≡ vs
          same = have-one s.world i (operands_of (its_code g s.world i) (kind_of g s.world i x)) h.words vs h.have
              (subst (λ d. HaveThese s.world i (operands_of (its_code g s.world i) d) vs) (sym kind) have)

  -- a message with a tag was sent
  pub tagged-was_sent : (i x : ℕ) (m : Message) → IsTagged state.tags i x m → WasSent s m
  tagged-was_sent i x m h = in-get m s.sent (subst (λ l. In m l) state.same (map-in (λ (t : Tag). t.0) (m, i, x) state.tags h))
