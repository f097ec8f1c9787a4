-- Where each class is one place: the numbers of the classes are the places, and what leads to a place is what reaches it.
use Rattle.std.proofs.Common.{◌≡◌, ℕ, ◌<◌, ◌≤◌, ◌&&◌, [], ◌∷◌, List, refl, sym, ap, ap₂, inl, inr, arith, ◌∙◌, length, map, nat_lt}
use Rattle.std.specs.List.{All}
use Rattle.std.proofs.lemmas.List.{ext_get_or}
use Rattle.tam_word.specs.Lists.{below, has}
use Rattle.tam_word.proofs.Tests.{below-test}
use Rattle.tam_word.proofs.Members.{In}
use Rattle.tam_graph.specs.Edges.{Edges, reaches}
use Rattle.tam_split.specs.Blocks.{BlockGraph, places, inlets_of, outlets_of}
use Rattle.tam_split.specs.Partitions.{single, class_of}
use Rattle.tam_split.specs.PartitionLaws.{IsBlockGraph, IsPartition}
use Rattle.tam_split.proofs.Classes.{parts-partition}
use Rattle.tam_split.proofs.Partitioning.{single-parts, single-class, length-single, length-below, edge-within}
use Rattle.tam_sets.specs.Sets.{places_where}
use Rattle.tam_sets.proofs.PlacesWhere.{has-where}
use Rattle.tam_quotient.specs.Tables.{set_at, column}
use Rattle.tam_quotient.specs.Spreads.{renamed, AreBelow}
use Rattle.tam_quotient.specs.Joins.{ways_of, ways_to}
use Rattle.tam_quotient.proofs.Tabling.{get-number, get-table, length-table}
use Rattle.tam_quotient.proofs.Surroundings.{HaveInlets, inlet-low, are_below, are_leads, are_ways, inlets_there, outlets_there}

-- names that are the numbers themselves change no edge
numbers-renamed : (n : ℕ) (es : Edges) → ((e : ℕ × ℕ) → In e es → (e.0 < n) × (e.1 < n)) → renamed (below n) es ≡ es
numbers-renamed n [] h = refl
numbers-renamed n (e ∷ es) h =
    let r = h e (inl refl) in
    ap₂ (λ (d : ℕ × ℕ) ds. d ∷ ds) (ap₂ (λ (x y : ℕ). (x, y)) (get-number n e.0 r.0) (get-number n e.1 r.1)) (numbers-renamed n es (λ d i. h d (inr i)))

module _ (b : BlockGraph) (graph : IsBlockGraph b) (few : length b.vertices ≤ 512) where
  -- one class for each place is a partition
  pub alone-whole : IsPartition b (single (length b.vertices))
  alone-whole = parts-partition b (single (length b.vertices)) (single-parts (length b.vertices))

  -- of few classes
  pub alone-few : length (single (length b.vertices)) ≤ 512
  alone-few = let n = length-single (length b.vertices) in omega (arith, n, few)

  -- the numbers of the classes are the places
  pub numbers-classes : (names : List ℕ) → names ≡ below (length b.vertices) → names ≡ map (class_of (single (length b.vertices))) (places b)
  numbers-classes names e = e ∙ ext_get_or 0 (below (length b.vertices)) (map (class_of (single (length b.vertices))) (below (length b.vertices)))
      (length-below (length b.vertices) ∙ sym (length-table (class_of (single (length b.vertices))) (length b.vertices)))
      (λ k l. let m : k < length b.vertices = let n = length-below (length b.vertices) in omega (arith, l, n) in
      get-number (length b.vertices) k m ∙ sym (get-table (class_of (single (length b.vertices))) (length b.vertices) k 0 m
      ∙ single-class (length b.vertices) k m))

  -- the ends of the edges have classes
  pub alone-below : (n : ℕ) (es : Edges) (names : List ℕ) → n ≡ length b.vertices → es ≡ b.edges → names ≡ below (length b.vertices) → AreBelow n es names
  alone-below n es names p q r = are_below b graph (single (length b.vertices)) alone-whole alone-few n es names (p ∙ sym (length-single (length b.vertices))) q
      (numbers-classes names r)

  -- there are few names
  pub names-few : (names : List ℕ) → names ≡ below (length b.vertices) → length names ≤ 512
  names-few names e = let n = ap length e ∙ length-below (length b.vertices) in omega (arith, n, few)

  -- each inlet has one
  pub inlets-named : (ins names : List ℕ) → ins ≡ inlets_of b → names ≡ below (length b.vertices) → All (λ place. place < length names) ins
  inlets-named ins names p q = inlets_there b graph (single (length b.vertices)) alone-whole alone-few ins names p (numbers-classes names q)

  -- and each outlet
  pub outlets-named : (outs names : List ℕ) → outs ≡ outlets_of b → names ≡ below (length b.vertices) → All (λ place. place < length names) outs
  outlets-named outs names p q = outlets_there b graph (single (length b.vertices)) alone-whole alone-few outs names p (numbers-classes names q)

  module _ (es : Edges) (names : List ℕ) (sets : List (List ℕ)) (same : es ≡ b.edges) (numbered : names ≡ below (length b.vertices))
      (spread : sets ≡ map (λ k. places_where (reaches (renamed names es) k)) (below (length b.vertices))) where
    -- what is reached from each place
    reached : sets ≡ map (λ k. places_where (reaches b.edges k)) (below (length b.vertices))
    reached = spread
        ∙ (ap (λ ds. map (λ k. places_where (reaches (renamed names ds) k)) (below (length b.vertices))) same
        ∙ (ap (λ xs. map (λ k. places_where (reaches (renamed xs b.edges) k)) (below (length b.vertices))) numbered
        ∙ ap (λ ds. map (λ k. places_where (reaches ds k)) (below (length b.vertices))) (numbers-renamed (length b.vertices) b.edges (edge-within b graph))))

    -- there are as many sets as places
    pub sets-count : length sets ≡ length b.vertices
    sets-count = ap length spread ∙ length-table (λ k. places_where (reaches (renamed names es) k)) (length b.vertices)

    -- the columns of that table have the inlets that reach each vertex
    columns-inlets : (columns : List (List ℕ)) → columns ≡ map (column sets) (below (length sets)) → HaveInlets b columns
    columns-inlets columns f i o inlet low =
        let there : i < length b.vertices = inlet-low b graph (single (length b.vertices)) alone-whole alone-few i inlet in
        let own : has (set_at sets i) o ≡ reaches b.edges i o =
        ap (λ ss. has (set_at ss i) o) reached
        ∙ (ap (λ s. has s o) (get-table (λ k. places_where (reaches b.edges k)) (length b.vertices) i [] there)
        ∙ has-where (reaches b.edges i) o (omega (arith, low, few))) in
        ap (λ ss. has (set_at ss o) i) f
        ∙ (ap (λ s. has s i) (get-table (column sets) (length sets) o [] (omega (arith, low, sets-count)))
        ∙ (has-where (λ c. nat_lt c (length sets) && has (set_at sets c) o) i (omega (arith, there, few))
        ∙ (ap (λ t. t && has (set_at sets i) o) (below-test i (length sets) (omega (arith, there, sets-count))) ∙ own)))

    -- so the ways read from them are those of the places
    pub alone-ways : (ins outs : List ℕ) (columns : List (List ℕ)) → ins ≡ inlets_of b → outs ≡ outlets_of b → columns ≡ map (column sets) (below (length sets))
        → map (ways_to ins outs names sets columns) (below (length sets)) ≡ map (ways_of b (single (length b.vertices))) (below (length b.vertices))
    alone-ways ins outs columns p q f =
        are_ways b graph (single (length b.vertices)) alone-whole alone-few ins outs names sets columns p q (numbers-classes names numbered)
        (are_leads b graph (single (length b.vertices)) alone-whole alone-few (length b.vertices) es names sets (sym (length-single (length b.vertices))) same
        (numbers-classes names numbered) spread) (columns-inlets columns f)
        ∙ ap (λ m. map (ways_of b (single (length b.vertices))) (below m)) (length-single (length b.vertices))
