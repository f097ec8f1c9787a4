-- The fault of a legal journal is a double write or an outside access by the rules.
use Rattle.std.proofs.Common.{◌≡◌, ℕ, ◌<◌, List, [], ◌∷◌, Some, None, Option, length, slice_get, refl, sym, ap, ◌∙◌, arith, subst}
use Rattle.tam_graph.specs.declared.kind.Kind.{Kind}
use Rattle.tam_graph.specs.declared.kind.Kind.TheVariants.{Store}
use Rattle.tam_graph.specs.declared.node.Node.{Node}
use Rattle.tam_graph.specs.Graphs.{Graph, Code, kind_at, or_kind}
use Rattle.tam_graph.specs.Accepted.{IsAccepted}
use Rattle.tam_split.specs.GraphPartitions.{Partitions}
use Rattle.tam_fire.specs.FiringRules.{Path, Word, Array, Fired, Holds, IsStore, IsAccess, node_of, code_at, the_code, site_of, DoubleWrite, OutsideAccess}
use Rattle.tam_msgs.specs.Messages.{site, site_pair}
use Rattle.tam_world.specs.Worlds.{Outside_cells}
use Rattle.tam_flow.specs.Journals.{State, state_after}
use Rattle.tam_flow.specs.JournalLaws.{FaultsAreGiven}
use Rattle.tam_flow.proofs.Justified.{IsPutBy}
use Rattle.tam_flow.proofs.Deliveries.{IsOutside, array-path, array-alloc, some-below, code-there}
use Rattle.tam_flow.proofs.FewNodes.{few-nodes, site-is}
use Rattle.tam_flow.proofs.SoundStates.{IsSoundState, sound-journal}
use Rattle.tam_flow.proofs.SentOnce.{IsDouble, IsOnceState}
use Rattle.tam_flow.proofs.DeliveredOnce.{once-journal}
use Rattle.tam_word.proofs.Tests.{below-test}

-- a node that accesses cells is there
access-there : (c : Code) (x : ℕ) → IsAccess (kind_at c x) → x < length c.nodes
access-there c x h = go (slice_get c.nodes x) refl h
  where
    go : (o : Option Node) → slice_get c.nodes x ≡ o → IsAccess (or_kind o) → x < length c.nodes
    go None e k = absurd k
    go (Some n) e k = some-below c.nodes x e

-- a store is an access
store-access : (k : Kind) → IsStore k → IsAccess k
store-access (Store a i b) h = tt
store-access k h = absurd h

module _ (g : Graph) (args : List ℕ) (accepted : IsAccepted g) where
  -- the site of an access tells its code and its node
  site-of : (q : Path) (x t : ℕ) → code_at g q < length g.codes → IsAccess (node_of g q x) → t ≡ site (code_at g q) x → site_of g q x ≡ site_pair t
  site-of q x t there access e =
      let few = few-nodes (length g.codes) (the_code g q) (accepted.written (code_at g q) (below-test _ _ there)) in
      let inside = access-there (the_code g q) x access in
      let small : x < 1024 = omega (arith, few, inside) in
      sym (ap site_pair e ∙ site-is (code_at g q) x small)

  -- an access outside is one by the rules
  outside-given : (t j n : ℕ) → IsOutside g args t j n → OutsideAccess g args (site_pair t) j n
  outside-given t j n h = record {
    q = h.q;
    x = h.x;
    accesses = h.accesses;
    here = site-of h.q h.x t h.there h.accesses h.here;
    p = h.p;
    y = h.z;
    more = h.more;
    at_array = h.fired;
    made = h.made;
    outside = h.beyond;
  }

  -- two stores into one cell are a double write by the rules
  double-given : (all : Partitions) (s : State) → IsSoundState g args s → IsOnceState g args all s → (p t : ℕ) → IsDouble g args s.world p t
      → DoubleWrite g args (site_pair p) (site_pair t)
  double-given all s sound once p t h = record {
    p = one.q;
    x = h.y;
    q = two.q;
    y = h.z;
    different = λ e. h.different (once.paths_differ h.f h.e one.number.0 two.number.0 (one.number.1 ∙ ap (λ k. k.0) e ∙ sym two.number.1)) (ap (λ k. k.1) e);
    first_stores = rw one.stores tt;
    second_stores = rw two.stores tt;
    first_site = site-of one.q h.y p (code-there g args s.world sound.world h.f one.q one.number) (rw one.stores tt) one.here;
    second_site = site-of two.q h.z t (code-there g args s.world sound.world h.e two.q two.number) (rw two.stores tt) two.here;
    array = Array one.p one.z;
    index = Word h.j;
    v = one.value;
    w = two.value;
    first = one.fired;
    second = subst (λ r. Holds g args (Fired two.q h.z (Array r one.z ∷ Word h.j ∷ two.value ∷ [])))
        (array-path s.world two.p one.p two.z one.z h.a two.array one.array)
        (subst (λ r. Holds g args (Fired two.q h.z (Array two.p r ∷ Word h.j ∷ two.value ∷ [])))
        (array-alloc s.world two.p one.p two.z one.z h.a two.array one.array) two.fired);
  }
    where
      one : IsPutBy g args s.world h.f h.y h.a h.j h.u p
      one = h.first

      two : IsPutBy g args s.world h.e h.z h.a h.j h.v t
      two = h.second

-- the fault of a legal journal is one by the rules
pub faults_are-given : FaultsAreGiven
faults_are-given g all args events journal = record {
  double = λ s t e. double-given g args journal.accepted all (state_after g all args events) sound once s t (once.double s t e);
  outside = λ s i l e. outside-given g args journal.accepted s i l (sound.faulty (Outside_cells s i l) e);
}
  where
    sound : IsSoundState g args (state_after g all args events)
    sound = sound-journal g all args events journal

    once : IsOnceState g args all (state_after g all args events)
    once = once-journal g all args events journal
