-- The thread code of an accepted graph has no fault on any line.
use Rattle.std.proofs.Common.{◌≡◌, ℕ, zero, suc, ◌+◌, ◌<◌, ◌≤◌, Bool, true, false, ◌==◌, ◌&&◌, nat_lt, List, [], ◌∷◌, map, flat_map, length, refl, sym}
use Rattle.std.proofs.Common.{ap, subst, ◌∙◌}
use Rattle.std.proofs.Common.{arith, tests, inl, inr, ◌⊎◌, true≢false, slice_get}
use Rattle.std.proofs.lemmas.List.{length-map}
use Rattle.std.proofs.lemmas.List.Sums.{count_by-le-length}
use Rattle.std.proofs.lemmas.Option.{same_Some, slice_get_within}
use Rattle.tam_word.specs.Lists.{below, placed_from, where_so, beyond}
use Rattle.tam_word.proofs.Tests.{test-below}
use Rattle.tam_word.proofs.Members.{In, in-append, in-map, in-flat_map, in-below, in-get}
use Rattle.tam_graph.specs.declared.kind.Kind.{Kind}
use Rattle.tam_graph.specs.declared.kind.Kind.TheVariants.{Cond, Switch as Choose}
use Rattle.tam_graph.specs.Graphs.{Code, Graph, code_of, kind_at, params_of, results_of}
use Rattle.tam_graph.specs.Accepted.{IsAccepted}
use Rattle.tam_graph.proofs.FewPlaces.{few-distinct, few-params, few-results}
use Rattle.tam_graph.proofs.FewNodes.{length-below}
use Rattle.tam_split.specs.Blocks.{block_graph, vertex_at}
use Rattle.tam_split.specs.Partitions.{Parts, class_at, directly_before}
use Rattle.tam_split.specs.GraphPartitions.{Partitions}
use Rattle.tam_split.proofs.Vertices.{few-vertices}
use Rattle.tl0_code.specs.declared.inlet.Inlet.{Inlet}
use Rattle.tl0_code.specs.declared.instr.Instr.{Instr}
use Rattle.tl0_code.specs.declared.bad_cause.BadCause.{BadCause}
use Rattle.tl0_code.specs.declared.bad_cause.BadCause.TheVariants as bad
use Rattle.tl0_code.specs.ThreadCode.{Thread, CodeText}
use Rattle.tl0_code.specs.CodeRules.{faults_of_instr, faults_of_head, faults_of_inlet, faults_of_thread, faults_of_code, faults_on, faults_in, faults_of}
use Rattle.tl0_keep.specs.Compiled.{compiled_with, compiled_code, threads_of, parts_at, slot_of}
use Rattle.tl0_keep.specs.Compiled.{thread_of_inlet, inlet_nodes, waits_for, is_choosing, entry_count}
use Rattle.tl0_keep.proofs.code.ThreadKinds.{AreAllParts, parts_for, ThreadKind, Entry, Class, Then_of, Else_of, IsThread, thread_for, then_thread, else_thread}
use Rattle.tl0_keep.proofs.code.ThreadPlaces.{threads-at}
use Rattle.tl0_keep.proofs.code.ThreadNumbers.{kind-of}
use Rattle.tl0_keep.proofs.code.CodePlaces.{compiled-at, compiled-many}
use Rattle.tl0_keep.proofs.code.Sources.{class-inside}
use Rattle.tl0_keep.proofs.code.InletNumbers.{inlet-low}
use Rattle.tl0_keep.proofs.code.InletCounts.{inlet-kind, params-within}
use Rattle.tl0_keep.proofs.code.SlotNumbers.{slot-low}
use Rattle.tl0_keep.proofs.code.CleanInstrs.{below-not_beyond, clean-faults, IsGood, inlet-slot, inlet-thread_below}
use Rattle.tl0_keep.proofs.code.CleanThreads.{thread-good}

-- ---- lists without faults

-- where each list is empty, all together are
pub flat-none : {X Y : Type 0} (f : X → List Y) (xs : List X) → ((x : X) → In x xs → f x ≡ []) → flat_map f xs ≡ []
flat-none f [] h = refl
flat-none f (x ∷ xs) h = let e = h x (inl refl) in rw e (flat-none f xs (λ y m. h y (inr m)))

-- lines without faults
lines-none : (n k : ℕ) (ls : List (List BadCause)) → ((l : List BadCause) → In l ls → l ≡ []) → flat_map (faults_on n) (placed_from k ls) ≡ []
lines-none n k [] h = refl
lines-none n k (l ∷ ls) h = let e = h l (inl refl) in rw e (lines-none n (k + 1) ls (λ m i. h m (inr i)))

-- no class has more places than its block
pub record AreFew (c : Code) (ps : List Parts) : Type 0 where
  pub few : (b : ℕ) → b < length c.owners → length (parts_at ps b) ≤ length (block_graph c b).vertices

module _ (g : Graph) (accepted : IsAccepted g) (all : Partitions) (parts : AreAllParts g all) (n : ℕ) (there : n < length g.codes) where
  -- the code
  abbrev its-code : Code
  its-code = code_of g n

  -- its partitions
  abbrev its-parts : List Parts
  its-parts = parts_for all n

  -- its threads
  abbrev its-text : CodeText
  its-text = compiled_code g (its-code, its-parts)

  -- an instruction of it has no fault
  abbrev Good : Instr → Type 0
  Good i = IsGood g accepted all parts n there i

  -- ---- entry counts

  module _ (few : AreFew its-code its-parts) where
    -- a class waits for few
    waits-few : (b k : ℕ) → b < length its-code.owners → waits_for (block_graph its-code b) (parts_at its-parts b) k ≤ 1024
    waits-few b k l =
        let i = count_by-le-length (λ x. (vertex_at (block_graph its-code b) x).inlet) (class_at (parts_at its-parts b) k) in
        let d = few-distinct (length (block_graph its-code b).vertices) (class_at (parts_at its-parts b) k) ((parts.each n there).once b k)
        (λ y m. class-inside its-code its-parts (parts.each n there) b k y l m) in
        let v = few-vertices g accepted n b there l in
        let q = count_by-le-length (λ d. directly_before (block_graph its-code b).edges (parts_at its-parts b) d k) (below (length (parts_at its-parts b))) in
        let w = length-below (length (parts_at its-parts b)) in
        let f = few.few b l in
        omega (arith, i, d, v, q, w, f)

    -- so an entry count is small and not 0
    pub count-small : (t : ThreadKind) → IsThread its-code its-parts t
        → (0 < (thread_for g its-code its-parts t).count) × ((thread_for g its-code its-parts t).count ≤ 1024)
    count-small Entry h = (omega arith, omega arith)
    count-small (Class b k) h = go (waits_for (block_graph its-code b) (parts_at its-parts b) k) (waits-few b k h.0)
      where
        go : (w : ℕ) → w ≤ 1024 → (0 < entry_count w) × (entry_count w ≤ 1024)
        go zero l = (omega arith, omega arith)
        go (suc w) l = (omega arith, l)
    count-small (Then_of x) h = go (kind_at its-code x) h.1
      where
        go : (k : Kind) → is_choosing k ≡ true → (0 < (then_thread its-code its-parts x k).count) × ((then_thread its-code its-parts x k).count ≤ 1024)
        go (Cond p y q) e = (omega arith, omega arith)
        go (Choose d k a) e = (omega arith, omega arith)
        go k e = absurd (true≢false (sym e))
    count-small (Else_of x) h = go (kind_at its-code x) h.1
      where
        go : (k : Kind) → is_choosing k ≡ true → (0 < (else_thread its-code its-parts x k).count) × ((else_thread its-code its-parts x k).count ≤ 1024)
        go (Cond p y q) e = (omega arith, omega arith)
        go (Choose d k a) e = (omega arith, omega arith)
        go k e = absurd (true≢false (sym e))

    -- ---- lines

    -- a thread of the code is one by its kind
    pub thread-kind : (t : Thread) → In t (threads_of g its-code its-parts)
        → (k : ThreadKind) × IsThread its-code its-parts k × (thread_for g its-code its-parts k ≡ t)
    thread-kind t m =
        let r = in-get t (threads_of g its-code its-parts) m in
        let l = slice_get_within (threads_of g its-code its-parts) r.0 t r.1 in
        let k = kind-of g its-code its-parts (parts.each n there).blocks r.0 l in
        let s = threads-at g its-code its-parts (parts.each n there).blocks k.0 k.1 in
        (k.0, k.1, same_Some _ _ (sym s ∙ (ap (slice_get (threads_of g its-code its-parts)) k.2 ∙ r.1)))

    -- the lines of a thread
    thread-lines : (t : Thread) → In t (threads_of g its-code its-parts) → (l : List BadCause) → In l (faults_of_thread (compiled_with g all) its-text t)
        → l ≡ []
    thread-lines t m l a =
        let k = thread-kind t m in
        let c = count-small k.0 k.1 in
        lines (subst (λ (s : Thread). 0 < s.count) k.2 c.0) (subst (λ (s : Thread). s.count ≤ 1024) k.2 c.1)
        (λ i s. thread-good g accepted all parts n there k.0 k.1 i (subst (λ (q : Thread). In i q.instrs) (sym k.2) s)) a
      where
        lines : 0 < t.count → t.count ≤ 1024 → ((i : Instr) → In i t.instrs → Good i) → In l (faults_of_thread (compiled_with g all) its-text t) → l ≡ []
        lines p q each (inl e) =
            let u : nat_lt t.count 1 ≡ false = grind (arith, tests) in
            let v : nat_lt 65535 t.count ≡ false = grind (arith, tests) in
            sym e ∙ rw (u, v) refl
        lines p q each (inr s) = rest (in-append l (map (faults_of_instr (compiled_with g all) its-text) t.instrs) ([] ∷ []) s)
          where
            rest : In l (map (faults_of_instr (compiled_with g all) its-text) t.instrs) ⊎ In l ([] ∷ []) → l ≡ []
            rest (inl w) =
                let r = in-map (faults_of_instr (compiled_with g all) its-text) l t.instrs w in
                sym r.2 ∙ clean-faults (compiled_with g all) its-text r.0 (each r.0 r.1)
            rest (inr (inl e)) = sym e
            rest (inr (inr e)) = absurd e

    -- the line of an inlet
    inlet-line : (i : Inlet) → In i its-text.inlets → faults_of_inlet its-text i ≡ []
    inlet-line i m =
        let r = in-map (λ x. record { slot = slot_of its-code x; thread = thread_of_inlet its-code its-parts x }) i (inlet_nodes g its-code) m in
        let low = inlet-low g accepted n there r.0 r.1 in
        let kind = inlet-kind g accepted n there r.0 r.1 in
        let s = below-not_beyond _ _ (inlet-slot g accepted all parts n there r.0 low kind) in
        let t = below-not_beyond _ _ (inlet-thread_below g accepted all parts n there r.0 low kind) in
        subst (λ (j : Inlet). faults_of_inlet its-text j ≡ []) r.2 (rw (s, t) refl)

    -- the head
    head-line : (main : ℕ) → main < length g.codes → g.main ≡ main → faults_of_head (compiled_with g all) n its-text ≡ []
    head-line main l e =
        let s : nat_lt its-text.slots 2 ≡ false = let k = slot-low its-code (length its-code.nodes) in grind (arith, tests) in
        let i : nat_lt (length its-text.inlets) its-text.params ≡ false =
        (let w = params-within g accepted n there in
        let q = length-map {B = Inlet} (inlet_nodes g its-code) (λ x. record { slot = slot_of its-code x; thread = thread_of_inlet its-code its-parts x }) in
        not-less (length its-text.inlets) (params_of its-code) (omega (arith, w, q))) in
        let p : nat_lt 64 its-text.params ≡ false = let f = few-params g accepted n there in not-less 64 (params_of its-code) f in
        let r : nat_lt 64 its-text.results ≡ false = let f = few-results g accepted n there in not-less 64 (results_of its-code) f in
        let m : beyond g.main (length (compiled_with g all).codes) ≡ false = below-not_beyond g.main _
        (let q = compiled-many g all parts in omega (arith, q, l, e)) in
        rw (s, i, p, r, m) (last (n == 0))
      where
        not-less : (a b : ℕ) → b ≤ a → nat_lt a b ≡ false
        not-less a b h = grind (arith, tests)

        last : (b : Bool) → where_so (b && false) bad.Main ≡ []
        last true = refl
        last false = refl

    -- each line of the code
    pub text-clean : g.main < length g.codes → (l : List BadCause) → In l (faults_of_code (compiled_with g all) n its-text) → l ≡ []
    text-clean main l (inl e) = sym e ∙ head-line g.main main refl
    text-clean main l (inr m) = go (in-append l (map (faults_of_inlet its-text) its-text.inlets)
        (flat_map (faults_of_thread (compiled_with g all) its-text) its-text.threads) m)
      where
        go : In l (map (faults_of_inlet its-text) its-text.inlets) ⊎ In l (flat_map (faults_of_thread (compiled_with g all) its-text) its-text.threads) → l ≡ []
        go (inl a) = let r = in-map (faults_of_inlet its-text) l its-text.inlets a in sym r.2 ∙ inlet-line r.0 r.1
        go (inr a) = let r = in-flat_map (faults_of_thread (compiled_with g all) its-text) l its-text.threads a in thread-lines r.0 r.1 l r.2

-- no line of a program made of an accepted graph has a fault
pub program-clean : (g : Graph) (all : Partitions) → IsAccepted g → AreAllParts g all → ((n : ℕ) → n < length g.codes → AreFew (code_of g n) (parts_for all n))
    → faults_of (compiled_with g all) ≡ []
program-clean g all accepted parts few = flat-none (faults_in (compiled_with g all)) (below (length (compiled_with g all).codes))
    (λ n m. code n (in-below n _ m))
  where
    code : (n : ℕ) → n < length (compiled_with g all).codes → faults_in (compiled_with g all) n ≡ []
    code n l =
        let low : n < length g.codes = let q = compiled-many g all parts in omega (arith, l, q) in
        let main : g.main < length g.codes = test-below g.main (length g.codes) accepted.has_main in
        subst (λ (t : CodeText). flat_map (faults_on n) (placed_from 0 (faults_of_code (compiled_with g all) n t)) ≡ []) (sym (compiled-at g all parts n low))
        (lines-none n 0 (faults_of_code (compiled_with g all) n (compiled_code g (code_of g n, parts_for all n)))
        (λ ls m. text-clean g accepted all parts n low (few n low) main ls m))
