-- What a frame owes, in the words of the law: its threads but for those that have run or were skipped.
use Rattle.std.proofs.Common.{◌≡◌, ℕ, ◌+◌, ◌<◌, List, [], ◌∷◌, length, slice_get, Contains, refl, sym, ap, subst, ◌∙◌, inl, inr, ◌⊎◌, arith}
use Rattle.tam_word.specs.Lists.{below}
use Rattle.tam_word.proofs.Members.{In, in-or-not, in-below, distinct-below}
use Rattle.tam_graph.specs.declared.kind.Kind.TheVariants.{Cond}
use Rattle.tam_graph.specs.Graphs.{Code, Graph, code_of}
use Rattle.tam_graph.specs.Accepted.{IsAccepted}
use Rattle.tam_graph.proofs.FewNodes.{length-below}
use Rattle.tam_split.specs.Partitions.{Parts}
use Rattle.tam_split.specs.GraphPartitions.{Partitions, partitions}
use Rattle.frame_tables.specs.FrameTables.{FrameTable, frame_at}
use Rattle.tl0_code.specs.ThreadCode.{Program, code_text}
use Rattle.tl0_keep.specs.Compiled.{compiled_with, is_choosing}
use Rattle.tl0_keep.specs.OwedThreads.{RunsFor, Opens, Is_class, Leads_then, Leads_else, HasRun, IsPassedOver, Then_ran, Else_ran, WasSkipped}
use Rattle.tl0_keep.specs.OwedThreads.{threads_in, IsGone}
use Rattle.tl0_keep.specs.OwedThreads.{Beneath, OwesTheRest, IsLeftToRun}
use Rattle.tl0_keep.proofs.code.ThreadKinds.{ThreadKind, Entry, Class, Then_of, Else_of, IsThread, number_of_thread, parts_for}
use Rattle.tl0_keep.proofs.runs.PlainRuns.{compiled-is}
use Rattle.tl0_keep.proofs.runs.Spending.{distinct-within}
use Rattle.tl0_keep.proofs.giving.Places.{contains-in, in-contains, once-place}
use Rattle.tl0_keep.proofs.owed.Skipped.{home, choosing-there}
use Rattle.tl0_keep.proofs.owed.Tables.{IsRun}
use Rattle.tl0_keep.proofs.owed.Owes.{Unchosen, IsDead, FrameOwes}

-- ---- what has run

-- in the words of the law
run-told : (s : FrameTable) (f t : ℕ) → IsRun s f t → HasRun s f t
run-told s f t r = record { zero_left = r.zero_left; not_ready = λ c. r.not_ready (contains-in (frame_at s f).ready t c) }

-- and back
told-run : (s : FrameTable) (f t : ℕ) → HasRun s f t → IsRun s f t
told-run s f t r = record { zero_left = r.zero_left; not_ready = λ i. r.not_ready (in-contains (frame_at s f).ready t i) }

-- ---- for which block a thread runs

-- a kind of thread
kind-runs : (c : Code) (ps : List Parts) (t : ℕ) (n : ThreadKind) → IsThread c ps n → number_of_thread c ps n ≡ t → RunsFor c ps t (home c n)
kind-runs c ps t Entry h e = Opens (sym e) refl
kind-runs c ps t (Class b k) h e = Is_class k h.0 h.1 (sym e)
kind-runs c ps t (Then_of x) h e = Leads_then x h.0 h.1 (sym e) refl
kind-runs c ps t (Else_of x) h e = Leads_else x h.0 h.1 (sym e) refl

-- the kind of a thread
record HasKind (c : Code) (ps : List Parts) (t b : ℕ) : Type 0 where
  kind : ThreadKind
  thread : IsThread c ps kind
  number : number_of_thread c ps kind ≡ t
  for : home c kind ≡ b

runs-kind : (c : Code) (ps : List Parts) (t b : ℕ) → RunsFor c ps t b → HasKind c ps t b
runs-kind c ps t b (Opens e z) = record { kind = Entry; thread = tt; number = sym e; for = sym z }
runs-kind c ps t b (Is_class k l m e) = record { kind = Class b k; thread = (l, m); number = sym e; for = refl }
runs-kind c ps t b (Leads_then x l h e z) = record { kind = Then_of x; thread = (l, h); number = sym e; for = sym z }
runs-kind c ps t b (Leads_else x l h e z) = record { kind = Else_of x; thread = (l, h); number = sym e; for = sym z }

module _ (g : Graph) (accepted : IsAccepted g) (n : ℕ) (there : n < length g.codes) (s : FrameTable) (f : ℕ) where
  -- the code and its partitions
  abbrev c : Code
  c = code_of g n

  abbrev ps : List Parts
  ps = parts_for (partitions g) n

  -- a thread that never runs was skipped
  dead-skipped : (t : ℕ) → IsDead g (partitions g) n s f t → WasSkipped c ps s f t
  dead-skipped t d = record {
    passed = d.block;
    block = home c d.kind;
    over = over d.chooser d.unchosen d.ran;
    beneath = d.beneath;
    runs = kind-runs c ps t d.kind d.thread d.number;
  }
    where
      over : (u : ThreadKind) → Unchosen c u d.block → IsRun s f (number_of_thread c ps u) → IsPassedOver c ps s f d.block
      over u (x, p, w, inl (e, k)) r =
          Then_ran x p w k (run-told s f _ (subst (λ z. IsRun s f (number_of_thread c ps z)) e r))
      over u (x, p, w, inr (e, k)) r =
          Else_ran x p w k (run-told s f _ (subst (λ z. IsRun s f (number_of_thread c ps z)) e r))

  -- and one that was skipped never runs
  skipped-dead : (t : ℕ) → WasSkipped c ps s f t → IsDead g (partitions g) n s f t
  skipped-dead t w = go w.over
    where
      its : HasKind c ps t w.block
      its = runs-kind c ps t w.block w.runs

      go : IsPassedOver c ps s f w.passed → IsDead g (partitions g) n s f t
      go (Then_ran x p y k r) = record {
        kind = its.kind;
        thread = its.thread;
        number = its.number;
        chooser = Then_of x;
        chooser_thread = (choosing-there g accepted n there ps x (Cond p y w.passed) k refl, ap is_choosing k);
        block = w.passed;
        unchosen = (x, p, y, inl (refl, k));
        ran = told-run s f _ r;
        beneath = subst (Beneath c w.passed) (sym its.for) w.beneath;
      }
      go (Else_ran x p y k r) = record {
        kind = its.kind;
        thread = its.thread;
        number = its.number;
        chooser = Else_of x;
        chooser_thread = (choosing-there g accepted n there ps x (Cond p w.passed y) k refl, ap is_choosing k);
        block = w.passed;
        unchosen = (x, p, y, inr (refl, k));
        ran = told-run s f _ r;
        beneath = subst (Beneath c w.passed) (sym its.for) w.beneath;
      }

  -- so what is owed is what the law says
  pub owes-told : FrameOwes g (partitions g) (compiled_with g (partitions g)) n s f → OwesTheRest g n s f
  owes-told o = record {
    gone = o.gone;
    once = λ i j t p q. once-place o.gone o.once i j t p q;
    are = λ t. (λ h. is t (contains-in o.gone t h), λ h. in-contains o.gone t (o.whole t (subst (λ x. t < x) (sym many) h.0) (back t h.1)));
    owed = o.sum ∙ many;
  }
    where
      many : length (code_text (compiled_with g (partitions g)) n).threads ≡ length (threads_in g n)
      many = ap (λ (p : Program). length (code_text p n).threads) (sym (compiled-is g))

      told : (t : ℕ) → IsRun s f t ⊎ IsDead g (partitions g) n s f t → IsGone g n s f t
      told t (inl r) = inl (run-told s f t r)
      told t (inr d) = inr (dead-skipped t d)

      back : (t : ℕ) → IsGone g n s f t → IsRun s f t ⊎ IsDead g (partitions g) n s f t
      back t (inl r) = inl (told-run s f t r)
      back t (inr w) = inr (skipped-dead t w)

      is : (t : ℕ) → In t o.gone → (t < length (threads_in g n)) × IsGone g n s f t
      is t i = (subst (λ x. t < x) many (o.low t i), told t (o.why t i))

-- where each thread has run or never runs, nothing is owed
pub none-owed : (g : Graph) (all : Partitions) (p : Program) (n : ℕ) (s : FrameTable) (f : ℕ) → FrameOwes g all p n s f
    → ((t : ℕ) → t < length (code_text p n).threads → IsRun s f t ⊎ IsDead g all n s f t) → (frame_at s f).owed ≡ 0
none-owed g all p n s f o each =
    let l = distinct-within (below (length (code_text p n).threads)) o.gone (distinct-below (length (code_text p n).threads))
    (λ t i. let b = in-below t (length (code_text p n).threads) i in o.whole t b (each t b)) in
    let b = length-below (length (code_text p n).threads) in
    let e = o.sum in
    omega (arith, l, b, e)

-- ---- another table

module _ (g : Graph) (n : ℕ) (s u : FrameTable) (i f : ℕ) (counts : (frame_at u f).counts ≡ (frame_at s i).counts)
    (ready : (frame_at u f).ready ≡ (frame_at s i).ready) where
  -- what has run there has run here
  run-as : (t : ℕ) → HasRun s i t → HasRun u f t
  run-as t r = record {
    zero_left = ap (λ (xs : List ℕ). slice_get xs t) counts ∙ r.zero_left;
    not_ready = λ q. r.not_ready (subst (λ (xs : List ℕ). Contains xs t) ready q);
  }

  -- and what was skipped was skipped
  skipped-as : (c : Code) (ps : List Parts) (t : ℕ) → WasSkipped c ps s i t → WasSkipped c ps u f t
  skipped-as c ps t w = record { passed = w.passed; block = w.block; over = over w.over; beneath = w.beneath; runs = w.runs }
    where
      over : IsPassedOver c ps s i w.passed → IsPassedOver c ps u f w.passed
      over (Then_ran x p y k r) = Then_ran x p y k (run-as _ r)
      over (Else_ran x p y k r) = Else_ran x p y k (run-as _ r)

  -- so what is gone is gone
  pub gone-as : (t : ℕ) → IsGone g n s i t → IsGone g n u f t
  gone-as t (inl r) = inl (run-as t r)
  gone-as t (inr w) = inr (skipped-as _ _ t w)

-- a frame that counts, is ready and owes as another owes the rest as that does
pub rest-as : (g : Graph) (n : ℕ) (s u : FrameTable) (i f : ℕ) → (frame_at u f).counts ≡ (frame_at s i).counts → (frame_at u f).ready ≡ (frame_at s i).ready
    → (frame_at u f).owed ≡ (frame_at s i).owed → OwesTheRest g n s i → OwesTheRest g n u f
rest-as g n s u i f counts ready owed o = record {
  gone = o.gone;
  once = o.once;
  are = λ t. (
    λ h. let r = (o.are t).0 h in (r.0, gone-as g n s u i f counts ready t r.1),
    λ h. (o.are t).1 (h.0, gone-as g n u s f i (sym counts) (sym ready) t h.1),
  );
  owed = ap (λ x. x + length o.gone) owed ∙ o.owed;
}

-- ---- a thread that is left

-- one of the first list isn't in the second, or all are
some-missing : (xs ts : List ℕ) → ((x : ℕ) × In x xs × (In x ts → ⊥)) ⊎ ((x : ℕ) → In x xs → In x ts)
some-missing [] ts = inr (λ x i. absurd i)
some-missing (y ∷ xs) ts = elim (in-or-not y ts) [
  | inr n ↦ inl (y, inl refl, n)
  | inl h ↦ elim (some-missing xs ts) [
    | inl r ↦ inl (r.0, inr r.1, r.2)
    | inr a ↦ inr (λ x i. elim i [ inl e ↦ subst (λ z. In z ts) e h | inr j ↦ a x j ])
  ]
]

-- a frame that owes something has a thread that is left
pub rest-left : (g : Graph) (n : ℕ) (s : FrameTable) (f : ℕ) → OwesTheRest g n s f → 0 < (frame_at s f).owed → IsLeftToRun g n s f
rest-left g n s f o some = elim (some-missing (below (length (threads_in g n))) o.gone) [
  | inl r ↦ (let l = in-below r.0 (length (threads_in g n)) r.1 in record {
    thread = r.0;
    there = l;
    left = λ h. r.2 (contains-in o.gone r.0 ((o.are r.0).1 (l, h)));
  })
  | inr a ↦ absurd (
      let l = distinct-within (below (length (threads_in g n))) o.gone (distinct-below (length (threads_in g n))) a in
      let b = length-below (length (threads_in g n)) in
      let e = o.owed in
      omega (arith, l, b, e, some))
]
