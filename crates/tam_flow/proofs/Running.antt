-- An outlet that ran has fired: its place is in a class that ran. So a call that ran has sent its wish.
use Rattle.std.proofs.Common.{◌≡◌, ℕ, ◌<◌, Bool, true, false, ◌==◌, ◌&&◌, List, [], ◌∷◌, filter, Option, Some, None, length, slice_get, refl, sym, arith, subst}
use Rattle.std.proofs.Common.{true≢false}
use Rattle.std.specs.List.{AllByRecursion}
use Rattle.tam_word.specs.Lists.{any_of, has, below}
use Rattle.tam_graph.specs.declared.kind.Kind.{Kind}
use Rattle.tam_graph.specs.declared.kind.Kind.TheVariants.{Param, Call, Ret, Alloc, Fetch, Merge, Enter}
use Rattle.tam_graph.specs.Graphs.{Graph, Code, code_of, kind_at, block_at, blocks_of, nodes_in, is_split, is_inlet, is_outlet}
use Rattle.tam_msgs.specs.declared.message.Message.TheVariants.{Frame as Begin}
use Rattle.tam_split.specs.declared.vertex.Vertex.{Vertex}
use Rattle.tam_split.specs.Blocks.{block_graph, vertices_of, vertex_at, or_vertex, places}
use Rattle.tam_split.specs.Partitions.{Parts, class_of, class_at}
use Rattle.tam_split.specs.GraphPartitions.{Partitions, parts_of, are_valid}
use Rattle.tam_world.specs.Worlds.{activation_at, its_code}
use Rattle.tam_flow.specs.Journals.{State, Event, has_run, state_after, block_of_act, parts_of_act}
use Rattle.tam_flow.specs.Told.{outlet_place}
use Rattle.tam_flow.specs.JournalLaws.{IsJournal}
use Rattle.tam_flow.specs.Reached.{kind_of, Ran, WasSent}
use Rattle.tam_word.proofs.Tests.{and-left, and-right, number-eq}
use Rattle.tam_word.proofs.Each.{all-of_each, each-below, below-each, all-flat, all-filter, all-at_place}
use Rattle.tam_flow.proofs.Deliveries.{there-some}
use Rattle.tam_flow.proofs.SoundStates.{IsSoundState, sound-journal}
use Rattle.tam_flow.proofs.SentOnce.{HasFired}
use Rattle.tam_flow.proofs.Calling.{calls-sent}
use Rattle.tam_word.proofs.Members.{has-in, In}

-- what fires outside the block and isn't cut takes nothing from outside
outlet-no_inlet : (k : Kind) → is_split k ≡ false → is_outlet k ≡ true → is_inlet k ≡ false
outlet-no_inlet (Param k) s o = absurd (true≢false (sym o))
outlet-no_inlet (Ret f k) s o = absurd (true≢false (sym o))
outlet-no_inlet (Merge d k) s o = absurd (true≢false (sym o))
outlet-no_inlet (Enter k) s o = absurd (true≢false (sym o))
outlet-no_inlet (Call f) s o = s
outlet-no_inlet (Alloc n) s o = s
outlet-no_inlet (Fetch a i) s o = s
outlet-no_inlet k s o = refl

-- a vertex of a block that is an outlet is no inlet
outlets-fire : (c : Code) (b : ℕ) → AllByRecursion (λ v. v.outlet ≡ true → v.inlet ≡ false) (block_graph c b).vertices
outlets-fire c b = all-flat (λ v. v.outlet ≡ true → v.inlet ≡ false) (λ x. vertices_of x (kind_at c x)) (nodes_in c b) (each (nodes_in c b))
  where
    one : (x : ℕ) (k : Kind) → AllByRecursion (λ v. v.outlet ≡ true → v.inlet ≡ false) (vertices_of x k)
    one x k = go (is_split k) refl
      where
        go : (t : Bool) → is_split k ≡ t → AllByRecursion (λ v. v.outlet ≡ true → v.inlet ≡ false) (vertices_of x k)
        go true e = rw (vertices_of, e) ((λ o. refl), ((λ o. absurd (true≢false (sym o))), tt))
        go false e = rw (vertices_of, e) ((λ o. outlet-no_inlet k e o), tt)

    each : (xs : List ℕ) → AllByRecursion (λ x. AllByRecursion (λ v. v.outlet ≡ true → v.inlet ≡ false) (vertices_of x (kind_at c x))) xs
    each [] = tt
    each (x ∷ xs) = (one x (kind_at c x), each xs)

-- and so by its place
outlet-fires : (c : Code) (b y : ℕ) → y < length (block_graph c b).vertices → (vertex_at (block_graph c b) y).outlet ≡ true
    → (vertex_at (block_graph c b) y).inlet ≡ false
outlet-fires c b y l = go (slice_get (block_graph c b).vertices y) refl
  where
    go : (o : Option Vertex) → slice_get (block_graph c b).vertices y ≡ o → (or_vertex o).outlet ≡ true → (or_vertex o).inlet ≡ false
    go None e o = absurd (there-some (block_graph c b).vertices y l e)
    go (Some v) e o = all-at_place (λ v. v.outlet ≡ true → v.inlet ≡ false) (block_graph c b).vertices y v (outlets-fire c b) e o

-- one of a list passes, and has what each has
any-with : (P : ℕ → Type 0) (test : ℕ → Bool) (xs : List ℕ) → AllByRecursion P xs → any_of test xs ≡ true → (x : ℕ) × P x × (test x ≡ true)
any-with P test [] h k = absurd (true≢false (sym k))
any-with P test (x ∷ xs) h k = go (test x) refl (any-with P test xs h.1)
  where
    go : (b : Bool) → test x ≡ b → (any_of test xs ≡ true → (y : ℕ) × P y × (test y ≡ true)) → (y : ℕ) × P y × (test y ≡ true)
    go true e ih = (x, h.0, e)
    go false e ih = ih (rw (any_of, e) at k)

-- a place that some class has is in its class
own-class : (parts : Parts) (y : ℕ) → length (filter (λ p. has p y) parts) ≡ 1 → has (class_at parts (class_of parts y)) y ≡ true
own-class [] y l = absurd (omega (arith, l))
own-class (p ∷ ps) y l = go (has p y) refl (own-class ps y)
  where
    go : (b : Bool) → has p y ≡ b → (length (filter (λ q. has q y) ps) ≡ 1 → has (class_at ps (class_of ps y)) y ≡ true)
        → has (class_at (p ∷ ps) (class_of (p ∷ ps) y)) y ≡ true
    go true e ih = rw (class_of, e) e
    go false e ih = rw (class_of, e) (ih (rw e at l))

-- in a valid partition each place is in its class
pub in-own_class : (g : Graph) (all : Partitions) (n b y : ℕ) → are_valid g all ≡ true → n < length g.codes → b < length (code_of g n).owners
    → y < length (block_graph (code_of g n) b).vertices → In y (class_at (parts_of all n b) (class_of (parts_of all n b) y))
in-own_class g all n b y valid there inside l =
    let codes = all-of_each _ (below (length g.codes)) valid in
    let here = each-below _ (length g.codes) n codes there in
    let blocks = all-of_each _ (blocks_of (code_of g n)) here in
    let this = each-below _ (length (code_of g n).owners) b blocks inside in
    let each = all-of_each (λ x. length (filter (λ p. has p x) (parts_of all n b)) == 1) (below (length (block_graph (code_of g n) b).vertices))
    (and-left _ _ (and-left _ _ this)) in
    has-in (class_at (parts_of all n b) (class_of (parts_of all n b) y)) y
    (own-class (parts_of all n b) y (number-eq _ _ (each-below _ (length (block_graph (code_of g n) b).vertices) y each l)))

-- an outlet that ran has fired
pub ran-fired : (g : Graph) (args : List ℕ) (all : Partitions) (s : State) → are_valid g all ≡ true → IsSoundState g args s → (i x : ℕ) → Ran g all s i x
    → HasFired g all s i x
ran-fired g args all s valid sound i x ran = go (any-with (λ y. (y < length (block_graph (its_code g s.world i) (block_at (its_code g s.world i) x)).vertices)
    × (((vertex_at (block_of_act g s i (block_at (its_code g s.world i) x)) y).outlet &&
    ((vertex_at (block_of_act g s i (block_at (its_code g s.world i) x)) y).node == x)) ≡ true))
    (λ y. has_run s i (block_at (its_code g s.world i) x) (class_of (parts_of_act g all s i (block_at (its_code g s.world i) x)) y))
    (outlet_place (block_of_act g s i (block_at (its_code g s.world i) x)) x)
    (all-filter (λ y. y < length (block_graph (its_code g s.world i) (block_at (its_code g s.world i) x)).vertices)
    (λ y. (vertex_at (block_of_act g s i (block_at (its_code g s.world i) x)) y).outlet &&
    ((vertex_at (block_of_act g s i (block_at (its_code g s.world i) x)) y).node == x))
    (places (block_of_act g s i (block_at (its_code g s.world i) x)))
    (below-each (λ y. y < length (block_graph (its_code g s.world i) (block_at (its_code g s.world i) x)).vertices)
    (length (block_graph (its_code g s.world i) (block_at (its_code g s.world i) x)).vertices) (λ y l. l))) ran)
  where
    b : ℕ
    b = block_at (its_code g s.world i) x

    go : (y : ℕ) × ((y < length (block_graph (its_code g s.world i) b).vertices)
        × (((vertex_at (block_of_act g s i b) y).outlet && ((vertex_at (block_of_act g s i b) y).node == x)) ≡ true)) ×
        (has_run s i b (class_of (parts_of_act g all s i b) y) ≡ true)
        → HasFired g all s i x
    go h =
        let entered = sound.ran i b (class_of (parts_of_act g all s i b) h.0) h.2 in
        let inside = subst (λ n. b < length (code_of g n).owners) (sound.world.path_codes i entered.0) (sound.world.blocks i b entered.0 entered.1).1 in
        let outlet = and-left (vertex_at (block_of_act g s i b) h.0).outlet ((vertex_at (block_of_act g s i b) h.0).node == x) h.1.1 in
        record {
          there = entered.0;
          code = (activation_at s.world i).code;
          block = b;
          class = class_of (parts_of_act g all s i b) h.0;
          place = h.0;
          is_code = refl;
          ran = h.2;
          inside = in-own_class g all (activation_at s.world i).code b h.0 valid (sound.world.codes i entered.0) inside h.1.0;
          within = h.1.0;
          no_inlet = outlet-fires (its_code g s.world i) b h.0 h.1.0 outlet;
          node = number-eq _ _ (and-right (vertex_at (block_of_act g s i b) h.0).outlet ((vertex_at (block_of_act g s i b) h.0).node == x) h.1.1);
        }

-- a call that ran has sent its wish
pub call-sent : (g : Graph) (all : Partitions) (args : List ℕ) (events : List Event) → IsJournal g all args events → (i f c : ℕ)
    → Ran g all (state_after g all args events) i f
    → kind_of g (state_after g all args events).world i f ≡ Call c → WasSent (state_after g all args events) (Begin c i f)
call-sent g all args events journal i f c ran kind =
    calls-sent g all args events journal i f c
    (ran-fired g args all (state_after g all args events) journal.valid (sound-journal g all args events journal) i f ran) kind
