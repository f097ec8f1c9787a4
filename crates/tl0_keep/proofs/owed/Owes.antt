-- What a frame owes: the number of its threads that have neither run nor been skipped; and what is known of each state for that.
use Rattle.std.proofs.Common.{◌≡◌, ◌≢◌, ℕ, ◌+◌, ◌^◌, ◌<◌, ◌≤◌, true, List, [], ◌∷◌, Some, slice_get, length, refl, sym, ap, subst}
use Rattle.std.proofs.Common.{◌∙◌, arith, inl, inr, ◌⊎◌}
use Rattle.tam_word.specs.Lists.{below}
use Rattle.tam_word.proofs.Members.{In, Distinct, in-or-not, below-in}
use Rattle.tam_msgs.specs.Messages.{outside}
use Rattle.tam_graph.specs.declared.kind.Kind.TheVariants.{Cond}
use Rattle.tam_graph.specs.Graphs.{Code, Graph, code_of, kind_at, block_at, owner_of}
use Rattle.tam_graph.proofs.FewNodes.{length-below}
use Rattle.tam_split.specs.GraphPartitions.{Partitions}
use Rattle.tam_world.specs.Worlds.{has_entered}
use Rattle.tam_flow.specs.Journals.{State}
use Rattle.frame_tables.specs.FrameTables.{FrameTable, frame_at}
use Rattle.tl0_code.specs.ThreadCode.{Program, code_text, counts_of}
use Rattle.tl0_code.specs.Machines.{Machine, code_at}
use Rattle.tl0_keep.specs.ThreadNames.{names_of}
pub use Rattle.tl0_keep.specs.OwedThreads.{Beneath, The_same, Deeper}
use Rattle.tl0_keep.proofs.code.ThreadKinds.{ThreadKind, Then_of, Else_of, IsThread, number_of_thread, parts_for, then_block, else_block}
use Rattle.tl0_keep.proofs.runs.Spending.{distinct-within}
use Rattle.tl0_keep.proofs.owed.Skipped.{home}
use Rattle.tl0_keep.proofs.owed.Tables.{IsRun, Goes, ran-on, ran-back}

-- ---- blocks inside blocks

-- an owner alone
head-one : {i j : ℕ} → i ∷ [] ≡ j ∷ [] → i ≡ j
head-one e = cc

-- a block inside another is it, or its cond stands inside the other
pub beneath-cases : (c : Code) (u v d : ℕ) → owner_of c v ≡ d ∷ [] → Beneath c u v → (u ≡ v) ⊎ Beneath c u (block_at c d)
beneath-cases c u v d e The_same = inl refl
beneath-cases c u v d e (Deeper {d = f} q b) = inr (subst (λ z. Beneath c u (block_at c z)) (head-one (sym q ∙ e)) b)

-- of two blocks around one, one is around the other
pub beneath-chain : (c : Code) (u v w : ℕ) → Beneath c u w → Beneath c v w → Beneath c u v ⊎ Beneath c v u
beneath-chain c u v w The_same b = inr b
beneath-chain c u v w (Deeper e a) The_same = inl (Deeper e a)
beneath-chain c u v w (Deeper {d = d} e a) (Deeper {d = f} q b) =
    beneath-chain c u v (block_at c d) a (subst (λ z. Beneath c v (block_at c z)) (head-one (sym q ∙ e)) b)

-- ---- threads that never run

-- thread u is the connector of a cond into its other block than v
abbrev pub Unchosen : Code → ThreadKind → ℕ → Type 0
Unchosen c u v = (x : ℕ) × (p : ℕ) × (w : ℕ) × (((u ≡ Then_of x) × (kind_at c x ≡ Cond p w v)) ⊎ ((u ≡ Else_of x) × (kind_at c x ≡ Cond p v w)))

-- thread t of frame i, of code n, runs for a block that wasn't chosen
pub record IsDead (g : Graph) (all : Partitions) (n : ℕ) (s : FrameTable) (i t : ℕ) : Type 0 where
  pub kind : ThreadKind
  pub thread : IsThread (code_of g n) (parts_for all n) kind
  pub number : number_of_thread (code_of g n) (parts_for all n) kind ≡ t
  pub chooser : ThreadKind
  pub chooser_thread : IsThread (code_of g n) (parts_for all n) chooser
  pub block : ℕ
  pub unchosen : Unchosen (code_of g n) chooser block
  pub ran : IsRun s i (number_of_thread (code_of g n) (parts_for all n) chooser)
  pub beneath : Beneath (code_of g n) block (home (code_of g n) kind)

-- ---- what is owed

-- frame i, of code n, owes exactly those of its threads that have neither run nor been skipped
pub record FrameOwes (g : Graph) (all : Partitions) (p : Program) (n : ℕ) (s : FrameTable) (i : ℕ) : Type 0 where
  pub gone : List ℕ
  pub once : Distinct gone
  pub low : (t : ℕ) → In t gone → t < length (code_text p n).threads
  pub why : (t : ℕ) → In t gone → IsRun s i t ⊎ IsDead g all n s i t
  pub whole : (t : ℕ) → t < length (code_text p n).threads → IsRun s i t ⊎ IsDead g all n s i t → In t gone
  pub sum : (frame_at s i).owed + length gone ≡ length (code_text p n).threads

-- what is supposed of a program: each thread waits for something, and threads of a code that is there have numbers in it
pub record IsCounted (g : Graph) (all : Partitions) (p : Program) : Type 0 where
  pub some : (n t : ℕ) → slice_get (counts_of (code_text p n)) t ≡ Some 0 → ⊥
  pub low : (n : ℕ) (u : ThreadKind) → 0 < length (code_text p n).threads → IsThread (code_of g n) (parts_for all n) u
      → number_of_thread (code_of g n) (parts_for all n) u < length (code_text p n).threads

-- each frame does
abbrev pub AllOwe : Graph → Partitions → Program → Machine → Type 0
AllOwe g all p m = (i : ℕ) → i < length m.table.frames → FrameOwes g all p (code_at m i) m.table i

-- where what has run has run
pub dead-on : (g : Graph) (all : Partitions) (n : ℕ) (s u : FrameTable) (i : ℕ) → ((t : ℕ) → IsRun s i t → IsRun u i t) → (t : ℕ) → IsDead g all n s i t
    → IsDead g all n u i t
dead-on g all n s u i on t d = record {
  kind = d.kind;
  thread = d.thread;
  number = d.number;
  chooser = d.chooser;
  chooser_thread = d.chooser_thread;
  block = d.block;
  unchosen = d.unchosen;
  ran = on (number_of_thread (code_of g n) (parts_for all n) d.chooser) d.ran;
  beneath = d.beneath;
}

-- a thread that has run has run later
pub gone-on : (g : Graph) (all : Partitions) (n : ℕ) (s u : FrameTable) (i : ℕ) → ((t : ℕ) → IsRun s i t → IsRun u i t) → (t : ℕ) → IsRun s i t
    ⊎ IsDead g all n s i t
    → IsRun u i t ⊎ IsDead g all n u i t
gone-on g all n s u i on t (inl r) = inl (on t r)
gone-on g all n s u i on t (inr d) = inr (dead-on g all n s u i on t d)

-- a frame that goes on owes what is left of its threads
pub owes-on : (g : Graph) (all : Partitions) (p : Program) (n : ℕ) (s u : FrameTable) (i : ℕ) → Goes (frame_at s i) (frame_at u i) → FrameOwes g all p n s i
    → FrameOwes g all p n u i
owes-on g all p n s u i go o = record {
  gone = o.gone;
  once = o.once;
  low = o.low;
  why = λ t h. gone-on g all n s u i (ran-on s u i go) t (o.why t h);
  whole = λ t l h. o.whole t l (gone-on g all n u s i (ran-back s u i go) t h);
  sum = ap (λ x. x + length o.gone) go.owed ∙ o.sum;
}

-- threads apart are no more than there are
pub few-gone : (n : ℕ) (ts : List ℕ) → Distinct ts → ((t : ℕ) → In t ts → t < n) → length ts ≤ n
few-gone n ts d h = let l = distinct-within ts (below n) d (λ t i. below-in t n (h t i)) in let e = length-below n in omega (arith, l, e)

-- where all are gone, each is
pub all-gone : (n : ℕ) (ts : List ℕ) → Distinct ts → ((t : ℕ) → In t ts → t < n) → length ts ≡ n → (t : ℕ) → t < n → In t ts
all-gone n ts d h e t l = elim (in-or-not t ts) [
  | inl i ↦ i
  | inr o ↦ absurd (let q = few-gone n (t ∷ ts) (o, d) (λ u i. elim i [ inl z ↦ subst (λ y. y < n) z l | inr j ↦ h u j ]) in omega (arith, q, e))
]

-- ---- what is known of a state

-- which blocks the state of its journal has entered; threads with nothing left to wait for run for a block that is entered; and whom a state names,
-- has a thread that still waits, for a block that is entered
pub record IsFair (g : Graph) (all : Partitions) (m : Machine) : Type 0 where
  pub state : State
  pub few : length m.table.frames < 2 ^ 32
  pub codes : (i : ℕ) → i < length m.table.frames → code_at m i < length g.codes
  pub free : m.table.free ≡ []
  pub homes : (i : ℕ) (n : ThreadKind) → i < length m.table.frames → IsThread (code_of g (code_at m i)) (parts_for all (code_at m i)) n
      → slice_get (frame_at m.table i).counts (number_of_thread (code_of g (code_at m i)) (parts_for all (code_at m i)) n) ≡ Some 0
      → has_entered state.world i (home (code_of g (code_at m i)) n) ≡ true
  pub up : (i v d : ℕ) → i < length m.table.frames → owner_of (code_of g (code_at m i)) v ≡ d ∷ [] → has_entered state.world i v ≡ true
      → has_entered state.world i (block_at (code_of g (code_at m i)) d) ≡ true
  pub one : (i x p y z : ℕ) → i < length m.table.frames → kind_at (code_of g (code_at m i)) x ≡ Cond p y z → has_entered state.world i y ≡ true
      → has_entered state.world i z ≡ true → ⊥
  pub ready : (i t : ℕ) → In t (frame_at m.table i).ready → (slice_get (frame_at m.table i).counts t ≡ Some 0)
      × ((n : ThreadKind) × IsThread (code_of g (code_at m i)) (parts_for all (code_at m i)) n
      × (number_of_thread (code_of g (code_at m i)) (parts_for all (code_at m i)) n ≡ t))
  pub once : (i : ℕ) → Distinct (frame_at m.table i).ready
  pub waits : (f : ℕ) → In f (names_of m) → f ≢ outside → (f < length m.table.frames)
      × ((n : ThreadKind) × IsThread (code_of g (code_at m f)) (parts_for all (code_at m f)) n
      × (slice_get (frame_at m.table f).counts (number_of_thread (code_of g (code_at m f)) (parts_for all (code_at m f)) n) ≡ Some 0 → ⊥)
      × (has_entered state.world f (home (code_of g (code_at m f)) n) ≡ true))

module _ (g : Graph) (all : Partitions) (m : Machine) (fair : IsFair g all m) (i : ℕ) (there : i < length m.table.frames) where
  -- the code
  abbrev c : Code
  c = code_of g (code_at m i)

  -- what is around an entered block is entered
  pub around : (u v : ℕ) → Beneath (code_of g (code_at m i)) u v → has_entered fair.state.world i v ≡ true → has_entered fair.state.world i u ≡ true
  around u v The_same h = h
  around u v (Deeper {d = d} e b) h = around u (block_at (code_of g (code_at m i)) d) b (fair.up i v d there e h)

  -- a block that wasn't chosen isn't entered
  pub unchosen-out : (u : ThreadKind) (v : ℕ) → IsThread (code_of g (code_at m i)) (parts_for all (code_at m i)) u → Unchosen (code_of g (code_at m i)) u v
      → slice_get (frame_at m.table i).counts (number_of_thread (code_of g (code_at m i)) (parts_for all (code_at m i)) u) ≡ Some 0
      → has_entered fair.state.world i v ≡ true → ⊥
  unchosen-out u v t (x, p, w, inl (e, k)) z h = fair.one i x p w v there k
      (subst (λ y. has_entered fair.state.world i y ≡ true) (ap (home (code_of g (code_at m i))) e ∙ ap (then_block (code_of g (code_at m i))) k)
      (fair.homes i u there t z)) h
  unchosen-out u v t (x, p, w, inr (e, k)) z h = fair.one i x p v w there k h
      (subst (λ y. has_entered fair.state.world i y ≡ true) (ap (home (code_of g (code_at m i))) e ∙ ap (else_block (code_of g (code_at m i))) k)
      (fair.homes i u there t z))

  -- nor is any inside it
  pub dead-out : (t : ℕ) (d : IsDead g all (code_at m i) m.table i t) → has_entered fair.state.world i (home (code_of g (code_at m i)) d.kind) ≡ true → ⊥
  dead-out t d h = unchosen-out d.chooser d.block d.chooser_thread d.unchosen d.ran.zero_left (around d.block (home (code_of g (code_at m i)) d.kind)
      d.beneath h)

  -- so a thread with nothing left to wait for isn't dead
  pub zero-alive : (t : ℕ) → slice_get (frame_at m.table i).counts t ≡ Some 0 → IsDead g all (code_at m i) m.table i t → ⊥
  zero-alive t z d = dead-out t d (fair.homes i d.kind there d.thread (ap (slice_get (frame_at m.table i).counts) d.number ∙ z))
