-- Thread 0 and the connectors of conds run: no event of the journal, and each ticket that was due is spent.
use Rattle.std.proofs.Common.{◌≡◌, ℕ, ◌<◌, List, [], ◌∷◌, ◌++◌, map, length}
use Rattle.std.proofs.Common.{refl, sym, ap, subst, ◌∙◌, inl, inr, ◌⊎◌}
use Rattle.tam_word.proofs.Members.{In, Distinct, in-map, map-in}
use Rattle.tam_graph.specs.Graphs.{Graph}
use Rattle.tam_split.specs.Blocks.{block_graph}
use Rattle.tam_split.specs.GraphPartitions.{Partitions}
use Rattle.tam_world.specs.Worlds.{activation_at, its_code}
use Rattle.tam_flow.specs.Journals.{State}
use Rattle.tam_flow.specs.Reached.{IsThere}
use Rattle.tl0_code.specs.declared.instr.Instr.{Instr}
use Rattle.tl0_code.specs.Machines.{Machine, Plain, Progress, Fine, done_all, then_do, at_rest}
use Rattle.tl0_keep.specs.Compiled.{forks_to, parts_at, entry_classes, block_entry}
use Rattle.tl0_keep.proofs.code.ThreadKinds.{ThreadKind, Entry, Class, Then_of, Else_of, Source, Word_of, Opened, Ticket, number_of_thread, IsThread}
use Rattle.tl0_keep.proofs.code.ThreadKinds.{fork_tickets}
use Rattle.tl0_keep.proofs.code.ThreadKinds.{entry_tickets, inlet_thread}
use Rattle.tl0_keep.proofs.runs.Keeps.{Owed, ticket, parts_in, HasRun, Given, Keeps}
use Rattle.tl0_keep.proofs.runs.Keeps.{Rests}
use Rattle.tl0_keep.proofs.code.CodeFacts.{CodeFacts, IsOther}
use Rattle.tl0_keep.proofs.runs.Spending.{spend-due, spends, spent-state}
use Rattle.tl0_keep.proofs.runs.Reasons.{IsForked, forked-given, forked-new, given-forked, given-still}
use Rattle.tl0_keep.proofs.runs.Taking.{Takes, turns-rested, rested-rests}
use Rattle.tl0_keep.proofs.runs.Begins.{begins}

-- ---- forks

-- a run of instructions ends well, and keeps
pub record RunsTo (g : Graph) (all : Partitions) (s : State) (others : List (ℕ × ThreadKind)) (due : List Owed) (m : Machine) (f : ℕ) (is : List Instr)
    : Type 0 where
  pub after : Machine
  pub runs : done_all Plain m f is ≡ Fine after
  pub keeps : Keeps g all after s others due
  pub events : after.events ≡ m.events

-- a fork's source isn't a word
word-apart : (i j x : ℕ) (n o : ThreadKind) (t : Source) → ((x : ℕ) → t ≡ Word_of x → ⊥) → ticket i n t ≡ ticket j o (Word_of x) → ⊥
word-apart i j x n o t d e = d x (ap (λ (z : Owed). z.1.source) e)

-- forks spend the tickets of classes of a block
pub forks-run : (g : Graph) (all : Partitions) (facts : CodeFacts g all) (s : State) (others : List (ℕ × ThreadKind)) (due : List Owed) (i b : ℕ) (t : Source)
    → ((x : ℕ) → t ≡ Word_of x → ⊥)
    → (ks : List ℕ) (m : Machine) → Keeps g all m s others (map (λ k. ticket i (Class b k) t) ks ++ due)
    → RunsTo g all s others due m i (forks_to (parts_in g all s others i) b ks)
forks-run g all facts s others due i b t d [] m keeps = record { after = m; runs = refl; keeps = keeps; events = refl }
forks-run g all facts s others due i b t d (k ∷ ks) m keeps =
    let late = map (λ k. ticket i (Class b k) t) ks ++ due in
    let word = λ (x v : ℕ) (e : _) (h : _). absurd (word-apart i i x (Class b k) (inlet_thread (its_code g s.world i) (parts_in g all s others i) x) t d e) in
    let r = forks-run g all facts s others due i b t d ks (spent-state g all facts m s others late i (Class b k) t keeps word)
    (spend-due g all facts m s others late i (Class b k) t keeps word) in
    record {
      after = r.after;
      runs = ap (λ (p : Progress). then_do p (λ n. done_all Plain n i (forks_to (parts_in g all s others i) b ks)))
          (spends g all facts m s others late i (Class b k) t keeps word) ∙ r.runs;
      keeps = r.keeps;
      events = r.events;
    }

-- ---- the stop

-- at rest between events
pub stop-rests : (g : Graph) (all : Partitions) (m : Machine) (s : State) (others : List (ℕ × ThreadKind)) → Keeps g all m s others []
    → Rests g all (at_rest m) s others
stop-rests g all m s others k = record {
  keeps = record {
    frames = record {
      frames = k.frames.frames;
      begun = k.frames.begun;
      codes = k.frames.codes;
      known = k.frames.known;
      live = k.frames.live;
      free = k.frames.free;
      caller = k.frames.caller;
      root_inlet = k.frames.root_inlet;
      inlet = k.frames.inlet;
      width = k.frames.width;
    };
    slots = record { own = k.slots.own; come = k.slots.come };
    threads = λ i n l h. let t = k.threads i n l h in record {
      count = t.count;
      spent = t.spent;
      left = t.left;
      sum = t.sum;
      once = t.once;
      given = t.given;
      not_due = t.not_due;
      spent_or_due = t.spent_or_due;
      ready = t.ready;
      ran_or_ready = t.ran_or_ready;
      ran = t.ran;
    };
    ready = record { once = k.ready.once; threads = k.ready.threads };
    turns = turns-rested m.table k.turns;
    messages = record {
      pending = k.messages.pending;
      arrays = k.messages.arrays;
      printed = k.messages.printed;
      fit = k.messages.fit;
      readers = k.messages.readers;
      arrived_sent = k.messages.arrived_sent;
    };
    no_fault = k.no_fault;
    others_there = k.others_there;
    runs_there = k.runs_there;
    due_once = k.due_once;
    due_given = k.due_given;
  };
  rested = rested-rests m.table;
}

-- ---- thread 0 or a connector begins

-- different tickets of one frame
distinct-owed : (i : ℕ) (ks : List Ticket) → Distinct ks → Distinct {X = Owed} (map (λ k. (i, k)) ks)
distinct-owed i [] d = tt
distinct-owed i (k ∷ ks) d = (
  λ h. let r = in-map (λ (z : Ticket). (i, z)) (i, k) ks h in d.0 (subst (λ z. In z ks) (ap (λ (z : Owed). z.1) r.2) r.1),
  distinct-owed i ks d.1,
)

-- of threads that are no classes the list says which have run
ran-other : (g : Graph) (all : Partitions) (s : State) (others : List (ℕ × ThreadKind)) (i : ℕ) (n : ThreadKind) → IsOther n → In (i, n) others
    → HasRun g all s others i n
ran-other g all s others i Entry o h = h
ran-other g all s others i (Class b k) o h = absurd o
ran-other g all s others i (Then_of x) o h = h
ran-other g all s others i (Else_of x) o h = h

module _ (g : Graph) (all : Partitions) (facts : CodeFacts g all) (m : Machine) (s : State) (others : List (ℕ × ThreadKind)) (keeps : Keeps g all m s others [])
    (takes : Takes m.table) (n : ThreadKind) (l : IsThere s.world takes.frame) (thread : IsThread (its_code g s.world takes.frame)
    (parts_in g all s others takes.frame) n)
    (number : number_of_thread (its_code g s.world takes.frame) (parts_in g all s others takes.frame) n ≡ takes.thread) (other : IsOther n) where
  -- with it
  abbrev pub more : List (ℕ × ThreadKind)
  more = (takes.frame, n) ∷ others

  -- what is due
  abbrev pub owed : List Owed
  owed = map (λ k. (takes.frame, k)) (fork_tickets (its_code g s.world takes.frame) (parts_in g all s others takes.frame) n)

  -- its code is there
  known : (activation_at s.world takes.frame).code < length g.codes
  known = keeps.frames.known takes.frame l

  -- it hasn't run
  pub fresh : In (takes.frame, n) others → ⊥
  fresh h = ((keeps.threads takes.frame n l thread).ready
      (subst (λ (ts : List ℕ). In (number_of_thread (its_code g s.world takes.frame) (parts_in g all s others takes.frame) n) ts)
      (sym takes.was) (inl (sym number)))).1
      (ran-other g all s others takes.frame n other h)

  -- what is due is one of the forks'
  is-forked : (j : ℕ) (o : ThreadKind) (t : Source) → In (ticket j o t) owed → IsForked g all facts s others takes.frame l known n thread other j o t
  is-forked j o t h =
      let r = in-map (λ (z : Ticket). (takes.frame, z)) (ticket j o t) (fork_tickets (its_code g s.world takes.frame) (parts_in g all s others takes.frame)
      n) h in (
        ap (λ (z : Owed). z.0) r.2,
        subst (λ z. In z (fork_tickets (its_code g s.world takes.frame) (parts_in g all s others takes.frame) n))
            (ap (λ (z : Owed). z.1) r.2) r.1,
      )

  -- and the other way round
  forked-owed : (j : ℕ) (o : ThreadKind) (t : Source) → IsForked g all facts s others takes.frame l known n thread other j o t → In (ticket j o t) owed
  forked-owed j o t (e, h) = subst (λ z. In (ticket z o t) owed) e (map-in (λ (z : Ticket). (takes.frame, z)) (record { thread = o; source = t })
      (fork_tickets (its_code g s.world takes.frame) (parts_in g all s others takes.frame) n) h)

  -- who has run
  ran-on : (j : ℕ) (o : ThreadKind) → HasRun g all s others j o → HasRun g all s more j o
  ran-on j Entry h = inr h
  ran-on j (Class b k) h = h
  ran-on j (Then_of x) h = inr h
  ran-on j (Else_of x) h = inr h

  -- by the list
  list-back : (j : ℕ) (o : ThreadKind) → In (j, o) more → In (j, o) others ⊎ ((takes.frame ≡ j) × (n ≡ o))
  list-back j o (inl e) = inr (ap (λ (z : ℕ × ThreadKind). z.0) e, ap (λ (z : ℕ × ThreadKind). z.1) e)
  list-back j o (inr h) = inl h

  -- those before and this one
  ran-back : (j : ℕ) (o : ThreadKind) → HasRun g all s more j o → HasRun g all s others j o ⊎ ((takes.frame ≡ j) × (n ≡ o))
  ran-back j Entry h = list-back j Entry h
  ran-back j (Class b k) h = inl h
  ran-back j (Then_of x) h = list-back j (Then_of x) h
  ran-back j (Else_of x) h = list-back j (Else_of x) h

  -- the beginning
  pub other-begins : Keeps g all (record m { table = takes.after }) s more owed
  other-begins = begins g all facts m s others more s.ran owed keeps takes n l thread number ran-on ran-back
      (ran-other g all s more takes.frame n other (inl refl))
      (given-still g all facts s others takes.frame l known n thread other)
      (λ j o t h. elim (given-forked g all facts s others takes.frame l known n thread other j o t h) [ inl a ↦ inl a | inr b ↦ inr (forked-owed j o t b) ])
      (λ j o t h q. let r = is-forked j o t h in
      forked-new g all facts s others takes.frame l known n thread other fresh (record { thread = o; source = t }) r.1
      (subst (λ z. Given g all s others z o t) (sym r.0) q))
      (λ j o t h. let r = is-forked j o t h in
      subst (λ z. Given g all s more z o t) r.0 (forked-given g all facts s others takes.frame l known n thread other (record { thread = o; source = t }) r.1))
      (distinct-owed takes.frame _ ((facts.texts (activation_at s.world takes.frame).code known).forks_once n thread))
      (λ j o h. elim (list-back j o h) [ inl a ↦ keeps.others_there j o a | inr b ↦ subst (IsThere s.world) b.0 l ])
      keeps.runs_there

  -- ---- it opens a block

  -- its tickets are of entry classes of a block, its instructions their forks
  pub opens : (b : ℕ) → fork_tickets (its_code g s.world takes.frame) (parts_in g all s others takes.frame) n
      ≡ entry_tickets (its_code g s.world takes.frame) (parts_in g all s others takes.frame) b
      → RunsTo g all s more [] (record m { table = takes.after }) takes.frame
      (block_entry (its_code g s.world takes.frame) (parts_in g all s others takes.frame) b)
  opens b e = forks-run g all facts s more [] takes.frame b Opened (λ x z. cc)
      (entry_classes _ (parts_at (parts_in g all s others takes.frame) b)) (record m { table = takes.after })
      (subst (Keeps g all (record m { table = takes.after }) s more) same other-begins)
    where
      flat : (ks : List ℕ) → map (λ (k : Ticket). (takes.frame, k)) (map (λ k. record { thread = Class b k; source = Opened }) ks)
          ≡ map (λ k. ticket takes.frame (Class b k) Opened) ks ++ []
      flat [] = refl
      flat (k ∷ ks) = ap (λ l. ticket takes.frame (Class b k) Opened ∷ l) (flat ks)

      same : map (λ (k : Ticket). (takes.frame, k)) (fork_tickets (its_code g s.world takes.frame) (parts_in g all s others takes.frame) n)
          ≡ map (λ k. ticket takes.frame (Class b k) Opened)
          (entry_classes (block_graph (its_code g s.world takes.frame) b) (parts_at (parts_in g all s others takes.frame) b)) ++ []
      same = ap (map (λ (k : Ticket). (takes.frame, k))) e ∙ flat _
