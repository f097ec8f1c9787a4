-- What comes of one event of the plain run; and of what a thread does: the codes of frames stay.
use Rattle.std.proofs.Common.{◌≡◌, ℕ, zero, suc, ◌<◌, Bool, true, false, List, [], ◌∷◌, Option, Some, slice_get}
use Rattle.std.proofs.Common.{◌++◌, length, None}
use Rattle.std.proofs.Common.{refl, sym, ap, subst, ◌∙◌, ◌⊎◌, arith}
use Rattle.tam_msgs.specs.declared.item.Item.{Item}
use Rattle.tam_msgs.specs.declared.item.Item.TheVariants.{Ready, Place}
use Rattle.tam_msgs.specs.declared.choice.Choice.{Choice}
use Rattle.tam_msgs.specs.declared.choice.Choice.TheVariants.{Quiet as Choose_quiet, Run as Choose_run, Deliver as Choose_delivery}
use Rattle.tam_msgs.specs.declared.limits.Limits.{Limits}
use Rattle.tam_msgs.specs.Runs.{Outcome, Next, Ended, End, choice}
use Rattle.tam_graph.specs.declared.kind.Kind.TheVariants.{Switch as Choose}
use Rattle.tam_graph.specs.Graphs.{Graph, kind_at}
use Rattle.tam_split.specs.GraphPartitions.{Partitions}
use Rattle.tam_world.specs.Worlds.{its_code}
use Rattle.tam_flow.specs.Journals.{State, Event, state_after}
use Rattle.tam_flow.specs.JournalLaws.{IsJournal}
use Rattle.tam_flow.specs.Reached.{IsThere}
use Rattle.tam_flow.specs.RunJournals.{IsCharged}
use Rattle.tam_flow.specs.BorneOut.{BearsOut}
use Rattle.frame_tables.specs.FrameTables.{frame_at}
use Rattle.tl0_code.specs.declared.instr.Instr.{Instr}
use Rattle.tl0_code.specs.declared.instr.Instr.TheVariants.{Imm, Mov, Op as Operate, Fork, Switch as Jump, Falloc, Send, Ret, Ialloc, Ifetch, Istore, Skip}
use Rattle.tl0_code.specs.Machines.{spend_of, branch, slot, done, done_all, Fine, Broken, Machine, Plain, Progress, done_thread, then_do, stopped}
use Rattle.tl0_code.specs.ThreadRuns.{counted}
use Rattle.tl0_keep.specs.ThreadNames.{thread_arrays}
use Rattle.tl0_keep.specs.ThreadJournals.{is_last}
use Rattle.tl0_keep.specs.Compiled.{switch_into, yes_of, no_of}
use Rattle.tl0_keep.proofs.code.ThreadKinds.{ThreadKind, Then_of, Else_of, number_of_thread, IsThread}
use Rattle.tl0_keep.proofs.runs.Keeps.{Rests, parts_in}
use Rattle.tl0_keep.proofs.runs.Taking.{Takes}
use Rattle.tl0_keep.proofs.runs.OtherRuns.{RunsTo}
use Rattle.tl0_keep.proofs.runs.ClassGoals.{Charges}
use Rattle.tl0_keep.proofs.runs.Journey.{Here}

-- ---- the codes of frames stay

-- the codes behind it, or these
abbrev codes_of : Progress → List ℕ → List ℕ
codes_of (Fine m) d = m.codes
codes_of (Broken what n) d = d

-- spending changes none
spend-codes : (m : Machine) (f t : ℕ) (o : Option ℕ) → codes_of (spend_of m f t o) m.codes ≡ m.codes
spend-codes m f t None = refl
spend-codes m f t (Some zero) = refl
spend-codes m f t (Some (suc n)) = refl

-- no instruction changes one
one-codes : (m : Machine) (f : ℕ) (i : Instr) → codes_of (done Plain m f i) m.codes ≡ m.codes
one-codes m f (Imm d w) = refl
one-codes m f (Mov d a) = refl
one-codes m f (Operate o d a b) = refl
one-codes m f (Fork t) = spend-codes m f t (slice_get (frame_at m.table f).counts t)
one-codes m f (Jump s t u) = spend-codes m f (branch (slot m f s) t u) (slice_get (frame_at m.table f).counts (branch (slot m f s) t u))
one-codes m f (Falloc c i) = refl
one-codes m f (Send r i a) = refl
one-codes m f (Ret k a) = refl
one-codes m f (Ialloc n i) = refl
one-codes m f (Ifetch r x i n) = refl
one-codes m f (Istore r x a n) = refl
one-codes m f (Skip n) = refl

-- nor do several
all-codes : (m : Machine) (f : ℕ) (is : List Instr) → codes_of (done_all Plain m f is) m.codes ≡ m.codes
all-codes m f [] = refl
all-codes m f (i ∷ is) = go (done Plain m f i) (one-codes m f i) (λ n. all-codes n f is)
  where
    go : (p : Progress) → codes_of p m.codes ≡ m.codes → ((n : Machine) → codes_of (done_all Plain n f is) n.codes ≡ n.codes)
        → codes_of (then_do p (λ n. done_all Plain n f is)) m.codes ≡ m.codes
    go (Fine n) e h = subst (λ (l : List ℕ). codes_of (done_all Plain n f is) l ≡ l) e (h n)
    go (Broken what n) e h = refl

-- nor does a thread with its stop
pub thread-codes : (m u : Machine) (f : ℕ) (is : List Instr) → done_thread Plain m f is ≡ Fine u → u.codes ≡ m.codes
thread-codes m u f is e = ap (λ (p : Progress). codes_of p m.codes) (sym e) ∙ go (done_all Plain m f is) (all-codes m f is)
  where
    go : (p : Progress) → codes_of p m.codes ≡ m.codes → codes_of (then_do p (λ n. stopped Plain n f)) m.codes ≡ m.codes
    go (Fine n) h = h
    go (Broken what n) h = refl

-- ---- the choice

-- what a choice says
abbrev pub ChoiceIs : Bool → ℕ → Choice → Type 0
ChoiceIs r m Choose_quiet = (r ≡ false) × (m ≡ 0)
ChoiceIs r m Choose_run = r ≡ true
ChoiceIs r m (Choose_delivery k) = k < m

-- each is so
pub choice-is : (order : List Item) (r : Bool) (m : ℕ) → ChoiceIs r m (choice order r m).0
choice-is [] false zero = (refl, refl)
choice-is [] true zero = refl
choice-is [] true (suc m) = refl
choice-is [] false (suc m) = omega arith
choice-is (Ready ∷ rest) false zero = (refl, refl)
choice-is (Ready ∷ rest) true zero = refl
choice-is (Ready ∷ rest) true (suc m) = refl
choice-is (Ready ∷ rest) false (suc m) = omega arith
choice-is (Place k ∷ rest) false zero = (refl, refl)
choice-is (Place k ∷ rest) true zero = refl
choice-is (Place k ∷ rest) true (suc m) = omega arith
choice-is (Place k ∷ rest) false (suc m) = omega arith

-- a place below the length has an element
pub below-some : {X : Type 0} (xs : List X) (k : ℕ) → k < length xs → (x : X) × (slice_get xs k ≡ Some x)
below-some [] k h = absurd (omega arith)
below-some (x ∷ xs) zero h = (x, refl)
below-some (x ∷ xs) (suc k) h = below-some xs k (omega arith)

-- no elements
pub length-none : {X : Type 0} (xs : List X) → length xs ≡ 0 → xs ≡ []
length-none [] h = refl
length-none (x ∷ xs) h = absurd (omega arith)

-- an event is counted, and its item of the order used
pub rests-counted : (g : Graph) (all : Partitions) (m : Machine) (s : State) (others : List (ℕ × ThreadKind)) (rest : List Item) → Rests g all m s others
    → Rests g all (counted m rest) s others
rests-counted g all m s others rest r = let k = r.keeps in record {
  keeps = record {
    frames = record {
      frames = k.frames.frames;
      begun = k.frames.begun;
      codes = k.frames.codes;
      known = k.frames.known;
      live = k.frames.live;
      free = k.frames.free;
      caller = k.frames.caller;
      root_inlet = k.frames.root_inlet;
      inlet = k.frames.inlet;
      width = k.frames.width;
    };
    slots = record { own = k.slots.own; come = k.slots.come };
    threads = λ i n l h. let t = k.threads i n l h in record {
      count = t.count;
      spent = t.spent;
      left = t.left;
      sum = t.sum;
      once = t.once;
      given = t.given;
      not_due = t.not_due;
      spent_or_due = t.spent_or_due;
      ready = t.ready;
      ran_or_ready = t.ran_or_ready;
      ran = t.ran;
    };
    ready = record { once = k.ready.once; threads = k.ready.threads };
    turns = k.turns;
    messages = record {
      pending = k.messages.pending;
      arrays = k.messages.arrays;
      printed = k.messages.printed;
      fit = k.messages.fit;
      readers = k.messages.readers;
      arrived_sent = k.messages.arrived_sent;
    };
    no_fault = k.no_fault;
    others_there = k.others_there;
    runs_there = k.runs_there;
    due_once = k.due_once;
    due_given = k.due_given;
  };
  rested = r.rested;
}

-- ---- what comes of an event

-- an end that a journal bears out
pub record EndsHere (g : Graph) (all : Partitions) (args : List ℕ) (limits : Limits) (how : End) (m : Machine) : Type 0 where
  pub events : List Event
  pub journal : IsJournal g all args events
  pub printed : (state_after g all args events).printed ≡ m.printed
  pub activations : length (state_after g all args events).world.activations ≡ m.begun
  pub arrays : thread_arrays g (state_after g all args events).world (state_after g all args events).world.arrays ≡ m.arrays
  pub ends : BearsOut g all args limits events m.events how
  pub charged : Charges g all args → IsCharged g all (state_after g all args events) m.events

-- the journal goes on, or bears the end out
abbrev pub StepGoes : Graph → Partitions → List ℕ → Limits → Outcome Machine → Type 0
StepGoes g all args limits (Next u) = Here g all args limits u
StepGoes g all args limits (Ended how u) = EndsHere g all args limits how u

-- and its events are these with more behind, or where the end isn't the last event of the journal, these
abbrev pub GoesBy : Graph → Partitions → List ℕ → Limits → List Event → List Event → Outcome Machine → Type 0
GoesBy g all args limits es more (Next u) = (h : Here g all args limits u) × (h.events ≡ es ++ more)
GoesBy g all args limits es more (Ended how u) = (h : EndsHere g all args limits how u) × (h.events ≡ elim (is_last how) [ true ↦ es ++ more | false ↦ es ])

-- what is supposed of the connectors of switches: their instructions keep all, and spend what is due
abbrev pub SwitchRuns : Graph → Partitions → List ℕ → Type 0
SwitchRuns g all args = (events : List Event) → IsJournal g all args events → (m : Machine) (others : List (ℕ × ThreadKind))
    → Rests g all m (state_after g all args events) others → (takes : Takes m.table) (n : ThreadKind) (x d k a b : ℕ)
    → IsThere (state_after g all args events).world takes.frame
    → IsThread (its_code g (state_after g all args events).world takes.frame) (parts_in g all (state_after g all args events) others takes.frame) n
    → number_of_thread (its_code g (state_after g all args events).world takes.frame) (parts_in g all (state_after g all args events) others takes.frame) n ≡
    takes.thread
    → kind_at (its_code g (state_after g all args events).world takes.frame) x ≡ Choose d k a
    → ((n ≡ Then_of x) × (b ≡ yes_of (kind_at (its_code g (state_after g all args events).world takes.frame) d)))
    ⊎ ((n ≡ Else_of x) × (b ≡ no_of (kind_at (its_code g (state_after g all args events).world takes.frame) d)))
    → RunsTo g all (state_after g all args events) ((takes.frame, n) ∷ others) [] (record m { table = takes.after }) takes.frame
    (switch_into (its_code g (state_after g all args events).world takes.frame) (parts_in g all (state_after g all args events) others takes.frame) a k b)
