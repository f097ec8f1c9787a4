-- One class leaks to another exactly where an inlet that enters the other isn't allowed by it.
use Rattle.std.proofs.Common.{◌≡◌, ℕ, ◌<◌, ◌≤◌, List, [], ◌∷◌, Bool, true, false, ◌&&◌, refl, sym, arith, ◌∙◌, true≢false, length}
use Rattle.std.proofs.Common.{zero, suc, slice_get}
use Rattle.tam_word.specs.Lists.{all_of, has}
use Rattle.tam_word.proofs.Tests.{both-true, true-both}
use Rattle.tam_word.proofs.Members.{In, all-in, in-all, in-filter, filter-in, in-below, below-in}
use Rattle.tam_graph.specs.Edges.{reaches}
use Rattle.tam_split.specs.declared.vertex.Vertex.{Vertex}
use Rattle.tam_split.specs.Blocks.{BlockGraph, vertex_at, or_vertex, places, inlets_of, outlets_of}
use Rattle.tam_split.specs.Partitions.{Parts, class_of, leads_to}
use Rattle.tam_split.specs.PartitionLaws.{IsBlockGraph}
use Rattle.tam_split.proofs.Classes.{IsParts}
use Rattle.tam_split.proofs.Validity.{ClassLeads, leads_to-leads, leads-leads_to}
use Rattle.tam_split.proofs.Separation.{Leak}
use Rattle.tam_sets.specs.Sets.{is_within}
use Rattle.tam_quotient.specs.Quotients.{leads_to_outlet, allows, entering_of, allowed_of}
use Rattle.tam_sets.proofs.PlacesWhere.{where-in, has-where}
use Rattle.tam_quotient.proofs.Places.{member-passes}

-- a block of at most 512 places, in classes of which each place has one
module _ (b : BlockGraph) (graph : IsBlockGraph b) (few : length b.vertices ≤ 512) (ps : Parts) (parts : IsParts (length b.vertices) ps) where
  -- inlets are places
  pub inlet-place : (i : ℕ) → In i (inlets_of b) → (i < length b.vertices) × ((vertex_at b i).inlet ≡ true)
  inlet-place i h = let r = in-filter (λ x. (vertex_at b x).inlet) i (places b) h in (in-below i (length b.vertices) r.0, r.1)

  -- and so are outlets
  pub outlet-place : (o : ℕ) → In o (outlets_of b) → (o < length b.vertices) × ((vertex_at b o).outlet ≡ true)
  outlet-place o h = let r = in-filter (λ x. (vertex_at b x).outlet) o (places b) h in (in-below o (length b.vertices) r.0, r.1)

  -- a vertex that isn't there is no inlet
  pub inlet-there : (i : ℕ) → (vertex_at b i).inlet ≡ true → i < length b.vertices
  inlet-there i h = go b.vertices i h
    where
      go : (vs : List Vertex) (j : ℕ) → (or_vertex (slice_get vs j)).inlet ≡ true → j < length vs
      go [] j h = absurd (true≢false (sym h))
      go (v ∷ vs) zero h = omega arith
      go (v ∷ vs) (suc j) h = let l : j < length vs = go vs j h in omega arith

  -- ---- leaks

  -- an inlet that a class allows reaches each outlet that the class leads to
  pub allows-reaches : (c i o : ℕ) → all_of (allows b ps c i) (places b) ≡ true → In o (outlets_of b) → ClassLeads b ps c (class_of ps o)
      → reaches b.edges i o ≡ true
  allows-reaches c i o h p l =
      let q = outlet-place o p in
      let e : allows b ps c i o ≡ true = all-in (allows b ps c i) (places b) h o (below-in o (length b.vertices) q.0) in
      let t : leads_to_outlet b ps c o ≡ true = true-both (vertex_at b o).outlet (leads_to b.edges ps c (class_of ps o)) q.1
      (leads-leads_to b ps c (class_of ps o) l) in
      rw (allows, t) at e

  -- where the inlets that enter d are allowed by c, c doesn't leak to d
  pub within-no_leak : (c d : ℕ) → is_within (entering_of b ps d) (allowed_of b ps c) ≡ true → Leak b ps c d → ⊥
  within-no_leak c d h w =
      let p = inlet-place w.inlet w.is_inlet in
      let low : w.inlet < 512 = omega (arith, few, p.0) in
      let enters : ((vertex_at b w.inlet).inlet && leads_to b.edges ps (class_of ps w.inlet) d) ≡ true =
      true-both (vertex_at b w.inlet).inlet (leads_to b.edges ps (class_of ps w.inlet) d) p.1 (leads-leads_to b ps (class_of ps w.inlet) d w.from_inlet) in
      let member = where-in (λ i. (vertex_at b i).inlet && leads_to b.edges ps (class_of ps i) d) w.inlet low enters in
      let allowed = all-in (has (allowed_of b ps c)) (entering_of b ps d) h w.inlet member in
      let test = sym (has-where (λ i. (vertex_at b i).inlet && all_of (allows b ps c i) (places b)) w.inlet low) ∙ allowed in
      let each = (both-true (vertex_at b w.inlet).inlet (all_of (allows b ps c w.inlet) (places b)) test).1 in
      true≢false (sym (allows-reaches c w.inlet w.outlet each w.is_outlet w.to_outlet) ∙ w.misses)

  -- and where c doesn't leak to d, they are
  pub no_leak-within : (c d : ℕ) → (Leak b ps c d → ⊥) → is_within (entering_of b ps d) (allowed_of b ps c) ≡ true
  no_leak-within c d n = in-all (has (allowed_of b ps c)) (entering_of b ps d) each
    where
      each : (i : ℕ) → In i (entering_of b ps d) → has (allowed_of b ps c) i ≡ true
      each i h =
          let r = member-passes (λ i. (vertex_at b i).inlet && leads_to b.edges ps (class_of ps i) d) i h in
          let s = both-true (vertex_at b i).inlet (leads_to b.edges ps (class_of ps i) d) r.1 in
          has-where (λ i. (vertex_at b i).inlet && all_of (allows b ps c i) (places b)) i r.0
          ∙ true-both (vertex_at b i).inlet (all_of (allows b ps c i) (places b)) s.0 (in-all (allows b ps c i) (places b) (passes i s.0 s.1))
        where
          passes : (i : ℕ) → (vertex_at b i).inlet ≡ true → leads_to b.edges ps (class_of ps i) d ≡ true → (o : ℕ) → In o (places b) → allows b ps c i o ≡ true
          passes i inlet leads o p = go (leads_to_outlet b ps c o) refl (reaches b.edges i o) refl
            where
              go : (s : Bool) → leads_to_outlet b ps c o ≡ s → (t : Bool) → reaches b.edges i o ≡ t → allows b ps c i o ≡ true
              go false q t e = rw (allows, q) refl
              go true q true e = rw (allows, q) e
              go true q false e =
                  let u = both-true (vertex_at b o).outlet (leads_to b.edges ps c (class_of ps o)) q in
                  absurd (n (record {
                    inlet = i;
                    outlet = o;
                    is_inlet = filter-in (λ x. (vertex_at b x).inlet) i (places b) (below-in i (length b.vertices) (inlet-there i inlet)) inlet;
                    is_outlet = filter-in (λ x. (vertex_at b x).outlet) o (places b) p u.0;
                    to_outlet = leads_to-leads b ps c (class_of ps o) u.1;
                    from_inlet = leads_to-leads b ps (class_of ps i) d leads;
                    misses = e;
                  }))
