-- Tests over what leads to the classes and from them decide whether a partition is valid.
use Rattle.std.proofs.Common.{◌≡◌, ℕ, ◌<◌, ◌≤◌, [], ◌∷◌, Bool, true, false, ◌&&◌, refl, sym, ap, arith, ◌∙◌, true≢false, ◌==◌, length, not}
use Rattle.tam_word.specs.Lists.{all_of, any_of, has}
use Rattle.tam_word.proofs.Tests.{both-true, true-both}
use Rattle.tam_word.proofs.Members.{In, all-in, in-all, in-has, has-in, in-filter, filter-in, below-in}
use Rattle.tam_graph.specs.Edges.{Edges, reaches, has_no_cycle}
use Rattle.tam_split.specs.Blocks.{BlockGraph, vertex_at, places, inlets_of, dependences}
use Rattle.tam_split.specs.Partitions.{Parts, class_of, class_edges, leads_to, is_valid}
use Rattle.tam_split.specs.PartitionLaws.{IsBlockGraph}
use Rattle.tam_split.proofs.Classes.{IsParts}
use Rattle.tam_split.proofs.Validity.{leads_to-leads, leads-leads_to, Keeps, keeps-kept, is_valid-valid}
use Rattle.tam_sets.specs.Sets.{is_within}
use Rattle.tam_quotient.specs.Quotients.{entering_of, closes_cycle, keeps_outlet}
use Rattle.tam_sets.proofs.PlacesWhere.{where-in}
use Rattle.tam_quotient.proofs.Places.{member-passes}
use Rattle.tam_quotient.proofs.Joining.{inlet-place, outlet-place, inlet-there}

-- no edge closes a cycle exactly where the edges between the classes have none
none-closes : (b : BlockGraph) (ps : Parts) → not (any_of (closes_cycle b ps) b.edges) ≡ has_no_cycle (class_edges ps b.edges)
none-closes b ps = ap not (same b.edges)
  where
    same : (es : Edges) → any_of (closes_cycle b ps) es ≡ any_of (λ e. reaches (class_edges ps b.edges) e.1 e.0) (class_edges ps es)
    same [] = refl
    same (e ∷ es) = go (class_of ps e.0 == class_of ps e.1) refl (same es)
      where
        go : (t : Bool) → (class_of ps e.0 == class_of ps e.1) ≡ t
            → any_of (closes_cycle b ps) es ≡ any_of (λ d. reaches (class_edges ps b.edges) d.1 d.0) (class_edges ps es)
            → any_of (closes_cycle b ps) (e ∷ es) ≡ any_of (λ d. reaches (class_edges ps b.edges) d.1 d.0) (class_edges ps (e ∷ es))
        go true p i = rw (any_of, closes_cycle, p) i
        go false p i = step (reaches (class_edges ps b.edges) (class_of ps e.1) (class_of ps e.0)) refl
          where
            step : (t : Bool) → reaches (class_edges ps b.edges) (class_of ps e.1) (class_of ps e.0) ≡ t
                → any_of (closes_cycle b ps) (e ∷ es) ≡ any_of (λ d. reaches (class_edges ps b.edges) d.1 d.0) (class_edges ps (e ∷ es))
            step true q = rw (any_of, closes_cycle, p, q) refl
            step false q = rw (any_of, closes_cycle, p, q) i

-- so an edge that closes a cycle makes the partition no valid one
pub closes-not_valid : (b : BlockGraph) (ps : Parts) → any_of (closes_cycle b ps) b.edges ≡ true → is_valid b ps ≡ false
closes-not_valid b ps h = rw (is_valid, sym (none-closes b ps) ∙ ap not h) refl

module _ (b : BlockGraph) (graph : IsBlockGraph b) (few : length b.vertices ≤ 512) (ps : Parts) (parts : IsParts (length b.vertices) ps) where
  -- the dependences are kept, where each outlet keeps its own
  outlets-keeps : all_of (keeps_outlet b ps) (places b) ≡ true → Keeps b ps
  outlets-keeps h i o p q l =
      let s = outlet-place b graph few ps parts o q in
      let r = inlet-place b graph few ps parts i p in
      let small : i < 512 = omega (arith, few, r.0) in
      let k : keeps_outlet b ps o ≡ true = all-in (keeps_outlet b ps) (places b) h o (below-in o (length b.vertices) s.0) in
      let t : is_within (entering_of b ps (class_of ps o)) (dependences b o) ≡ true = rw (keeps_outlet, s.1) at k in
      let enters = where-in (λ j. (vertex_at b j).inlet && leads_to b.edges ps (class_of ps j) (class_of ps o)) i small
      (true-both (vertex_at b i).inlet (leads_to b.edges ps (class_of ps i) (class_of ps o)) r.1 (leads-leads_to b ps (class_of ps i) (class_of ps o) l)) in
      (in-filter (λ j. reaches b.edges j o) i (inlets_of b)
      (has-in (dependences b o) i (all-in (has (dependences b o)) (entering_of b ps (class_of ps o)) t i enters))).1

  -- and the other way round
  keeps-outlets : Keeps b ps → all_of (keeps_outlet b ps) (places b) ≡ true
  keeps-outlets keeps = in-all (keeps_outlet b ps) (places b) (λ o h. go o h (vertex_at b o).outlet refl)
    where
      go : (o : ℕ) → In o (places b) → (t : Bool) → (vertex_at b o).outlet ≡ t → keeps_outlet b ps o ≡ true
      go o h false e = rw (keeps_outlet, e) refl
      go o h true e = rw (keeps_outlet, e) (in-all (has (dependences b o)) (entering_of b ps (class_of ps o)) each)
        where
          each : (i : ℕ) → In i (entering_of b ps (class_of ps o)) → has (dependences b o) i ≡ true
          each i p =
              let r = member-passes (λ j. (vertex_at b j).inlet && leads_to b.edges ps (class_of ps j) (class_of ps o)) i p in
              let s = both-true (vertex_at b i).inlet (leads_to b.edges ps (class_of ps i) (class_of ps o)) r.1 in
              let inlet = filter-in (λ x. (vertex_at b x).inlet) i (places b) (below-in i (length b.vertices) (inlet-there b graph few ps parts i s.0)) s.0 in
              let outlet = filter-in (λ x. (vertex_at b x).outlet) o (places b) h e in
              let k = keeps i o inlet outlet (leads_to-leads b ps (class_of ps i) (class_of ps o) s.1) in
              in-has (dependences b o) i (filter-in (λ j. reaches b.edges j o) i (inlets_of b) inlet k)

  -- and an outlet that doesn't keep its dependences makes it no valid one
  pub not_kept-not_valid : all_of (keeps_outlet b ps) (places b) ≡ false → is_valid b ps ≡ false
  not_kept-not_valid h = go (is_valid b ps) refl
    where
      go : (t : Bool) → is_valid b ps ≡ t → is_valid b ps ≡ false
      go false p = p
      go true p = absurd (true≢false (sym (keeps-outlets (is_valid-valid b ps p).keeps) ∙ h))

  -- and where there is neither, it is valid
  pub tests-valid : any_of (closes_cycle b ps) b.edges ≡ false → all_of (keeps_outlet b ps) (places b) ≡ true → is_valid b ps ≡ true
  tests-valid h k = rw (is_valid, sym (none-closes b ps) ∙ ap not h) (keeps-kept b ps (outlets-keeps k))
