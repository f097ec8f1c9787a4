-- What is counted of each activation, from one machine to another, and when a vertex fires.
use Rattle.std.proofs.Common.{◌≡◌, ℕ, ◌+◌, ◌-◌, ◌<◌, Bool, true, false, ◌==◌, List, ◌∷◌, refl, sym, subst, ap, ◌∙◌, arith, true≢false}
use Rattle.std.specs.Prelude.{cond, slice_set, slice_index_or}
use Rattle.tam_word.specs.Lists.{all_of}
use Rattle.tam_word.proofs.Tests.{number-eq, self-eq}
use Rattle.tam_graph.specs.Graphs.{Graph}
use Rattle.tam_world.specs.Worlds.{World, ActivationState}
use Rattle.tam_eval.specs.GraphRuns.{is_enabled}
use Rattle.tam_eval.specs.Waiting.{vertices_left, IsCounted, IsCovered, KeepsCounts}
use Rattle.tam_eval.specs.declared.machine.Machine.{Machine}
use Rattle.tam_eval.proofs.Counting.{as_one, count-cons}
use Rattle.tam_eval.proofs.KeepingCounts.{counted-inside, index-set}

-- ---- from one machine to another

module _ (g : Graph) where
  -- where so many are counted as are left, at least as many are
  pub counted-covers : (m : Machine) → IsCounted g m → IsCovered g m
  counted-covers m h = record {
    least = λ i. let e = h.counts i in omega arith;
    most = λ i. let e = h.counts i in omega arith;
    one_each = h.one_each;
  }

  -- and so it is after a change that keeps it
  pub counted-then : (old new : Machine) → IsCounted g old → KeepsCounts g old new → IsCounted g new
  counted-then old new h k = record {
    counts = λ i. let e = h.counts i in let f = k.counts i in omega arith;
    one_each = let e = h.one_each in let f = k.one_each in omega arith;
    ready = k.ready h.ready;
  }

  -- and where arrays alone changed
  pub counted-world : (m : Machine) (w : World) → w.activations ≡ m.world.activations → IsCounted g m → IsCounted g (record m { world = w })
  counted-world m w same h = subst (λ (all : List ActivationState). IsCounted g (record m { world = record w { activations = all } })) (sym same)
      (record { counts = h.counts; one_each = h.one_each; ready = h.ready })

-- ---- a vertex fires

module _ (g : Graph) (w : World) (v : ℕ × ℕ) (rest : List (ℕ × ℕ)) (l : List ℕ)
    (counts : (i : ℕ) → slice_index_or l i 0 ≡ vertices_left g w (v ∷ rest) i) where
  -- taken from the ready list, it is counted and isn't left
  pub popped-counts : (i : ℕ) → slice_index_or l i 0 ≡ vertices_left g w rest i + as_one (v.0 == i)
  popped-counts i = omega (arith, counts i, count-cons (λ (r : ℕ × ℕ). r.0 == i) v rest)

  -- the others may fire
  pub popped-may : all_of (λ r. is_enabled g w r.0 r.1) (v ∷ rest) ≡ true → all_of (λ r. is_enabled g w r.0 r.1) rest ≡ true
  popped-may h = go (is_enabled g w v.0 v.1) refl
    where
      go : (t : Bool) → is_enabled g w v.0 v.1 ≡ t → all_of (λ r. is_enabled g w r.0 r.1) rest ≡ true
      go true p = rw (all_of, p) at h
      go false p = absurd (true≢false (sym (rw (all_of, p) at h)))

  module _ (u : World) (ready : List (ℕ × ℕ)) (m : List ℕ)
      (kept : (i : ℕ) → slice_index_or m i 0 + vertices_left g w rest i ≡ slice_index_or l i 0 + vertices_left g u ready i) where
    -- after its effect some are counted of its activation
    pub fired-some : 0 < slice_index_or m v.0 0
    fired-some = let one : as_one (v.0 == v.0) ≡ 1 = ap as_one (self-eq v.0) in omega (arith, kept v.0, popped-counts v.0)

    -- and without it so many are counted as are left
    pub fired-counts : (i : ℕ) → slice_index_or (slice_set m v.0 (slice_index_or m v.0 0 - 1)) i 0 ≡ vertices_left g u ready i
    fired-counts i = go (v.0 == i) refl
      where
        go : (b : Bool) → (v.0 == i) ≡ b → slice_index_or (slice_set m v.0 (slice_index_or m v.0 0 - 1)) i 0 ≡ vertices_left g u ready i
        go true e =
            let same : slice_index_or m v.0 0 ≡ slice_index_or m i 0 = ap (λ k. slice_index_or m k 0) (number-eq v.0 i e) in
            let one : as_one (v.0 == i) ≡ 1 = ap as_one e in
            let set = index-set m v.0 (slice_index_or m v.0 0 - 1) i (counted-inside m v.0 fired-some)
            ∙ ap (λ b. cond b (slice_index_or m v.0 0 - 1) (slice_index_or m i 0)) e in
            omega (arith, kept i, popped-counts i)
        go false e =
            let none : as_one (v.0 == i) ≡ 0 = ap as_one e in
            let set = index-set m v.0 (slice_index_or m v.0 0 - 1) i (counted-inside m v.0 fired-some)
            ∙ ap (λ b. cond b (slice_index_or m v.0 0 - 1) (slice_index_or m i 0)) e in
            omega (arith, kept i, popped-counts i)
