-- The plain run of an accepted graph's thread code is a legal journal: event by event, and at its end.
use Rattle.std.proofs.Common.{◌≡◌, ℕ, zero, suc, ◌+◌, ◌<◌, Bool, true, false, List, [], ◌++◌, length, refl, sym, ap, subst, ◌∙◌, inl, arith}
use Rattle.std.proofs.Common.{slice_get, Some, is_none, inr}
use Rattle.std.specs.Prelude.{IsTrue}
use Rattle.tam_msgs.specs.declared.item.Item.{Item}
use Rattle.tam_msgs.specs.declared.limits.Limits.{Limits}
use Rattle.tam_msgs.specs.Messages.{AreLimits}
use Rattle.tam_msgs.specs.Runs.{Outcome, Next, Ended, End, after_events, and_then}
use Rattle.tam_graph.specs.declared.kind.Kind.{Kind}
use Rattle.tam_graph.specs.declared.kind.Kind.TheVariants.{Cond, Switch as Choose}
use Rattle.tam_graph.specs.Graphs.{Graph, kind_at, AreArguments, code_of}
use Rattle.tam_graph.specs.Accepted.{IsAccepted}
use Rattle.tam_word.proofs.Tests.{test-below, both-true}
use Rattle.tam_split.specs.GraphPartitions.{Partitions, are_valid, partitions}
use Rattle.tam_flow.specs.Journals.{Event, is_legal, initial, state_from, state_after, State, may_arrive, on_their_way}
use Rattle.tam_flow.specs.JournalLaws.{IsJournal}
use Rattle.tam_word.proofs.Members.{Distinct, in-get}
use Rattle.tl0_keep.proofs.runs.Keeps.{Rests, Keeps}
use Rattle.tam_flow.specs.RunJournals.{IsCharged}
use Rattle.tl0_code.specs.Machines.{Machine, Plain}
use Rattle.tl0_code.specs.ThreadRuns.{step_of, thread_opening}
use Rattle.tl0_code.specs.ThreadCode.{Program, plain}
use Rattle.tl0_keep.specs.Compiled.{compiled, compiled_with, entry_count}
use Rattle.tl0_keep.specs.ThreadNames.{Shares, HasStateJournal}
use Rattle.tl0_keep.specs.ThreadLaws.{IsJob, IsAfter, EndsWithin, HasEndJournal, PlainStatesAreJournals, PlainEndsAreJournals, JournalsAreTheRuns}
use Rattle.tl0_keep.proofs.code.ThreadKinds.{ThreadKind, Entry, Class, Then_of, Else_of, IsThread, parts_for, thread_for, then_thread, else_thread}
use Rattle.tl0_keep.proofs.code.Sources.{length-sources}
use Rattle.tl0_keep.proofs.code.Facts.{code-facts}
use Rattle.tl0_keep.proofs.code.CodeFacts.{CodeFacts}
use Rattle.tl0_keep.proofs.runs.Beginning.{SomeSource}
use Rattle.tl0_keep.proofs.runs.OpeningRun.{opened, opening-is, opening-rests}
use Rattle.tl0_keep.proofs.runs.ClassGoals.{ClassRuns, Charges, OthersAre, IsAsking}
use Rattle.tl0_keep.proofs.runs.Journey.{Here, journal}
use Rattle.tl0_keep.specs.ThreadJournals.{next_events, and_behind, is_last, journal_from, journal_of}
use Rattle.tl0_keep.proofs.runs.OwnEvents.{append-none, append-three, state-append}
use Rattle.tl0_keep.proofs.runs.StepGoals.{SwitchRuns, EndsHere, StepGoes, GoesBy}
use Rattle.tl0_keep.proofs.class_run.Runs.{class-runs}
use Rattle.tl0_keep.proofs.runs.ValidParts.{partitions-valid}
use Rattle.tl0_keep.proofs.runs.Switching.{switch-runs}
use Rattle.tl0_keep.proofs.runs.StepsDelivered.{step-goes}
use Rattle.tam_flow.specs.BorneOut.{WantsActivation}
use Rattle.tam_msgs.specs.declared.message.Message.{Message}
use Rattle.tam_msgs.specs.declared.message.Message.TheVariants.{Frame as Begin}
use Rattle.tl0_keep.proofs.runs.Arrives.{found, may, was-sent}
use Rattle.tl0_keep.proofs.giving.Places.{contains-in}

-- each thread waits for something
pub some-source : (g : Graph) (all : Partitions) → SomeSource g all
some-source g all c l n h = subst (λ z. 0 < z) (sym (length-sources g (code_of g c) (parts_for all c) n h)) (go n h)
  where
    entry : (w : ℕ) → 0 < entry_count w
    entry zero = omega arith
    entry (suc w) = omega arith

    go : (n : ThreadKind) → IsThread (code_of g c) (parts_for all c) n → 0 < (thread_for g (code_of g c) (parts_for all c) n).count
    go Entry h = omega arith
    go (Class b k) h = entry _
    go (Then_of x) h = by-kind (kind_at (code_of g c) x)
      where
        by-kind : (k : Kind) → 0 < (then_thread (code_of g c) (parts_for all c) x k).count
        by-kind (Cond p y z) = omega arith
        by-kind (Choose d q a) = omega arith
        by-kind k = omega arith
    go (Else_of x) h = by-kind (kind_at (code_of g c) x)
      where
        by-kind : (k : Kind) → 0 < (else_thread (code_of g c) (parts_for all c) x k).count
        by-kind (Cond p y z) = omega arith
        by-kind (Choose d q a) = omega arith
        by-kind k = omega arith

-- what comes of events, with the events of the journal: these with those that the run makes behind
abbrev pub RunGoes : Graph → Partitions → List ℕ → Limits → List Event → List Event → Outcome Machine → Type 0
RunGoes g all args limits es more (Next u) = (h : Here g all args limits u) × (h.events ≡ es ++ more)
RunGoes g all args limits es more (Ended how u) = (h : EndsHere g all args limits how u) × (h.events ≡ es ++ more)

-- so the journal goes on, or bears the end out
run-so : (g : Graph) (all : Partitions) (args : List ℕ) (limits : Limits) (es more : List Event) (o : Outcome Machine) → RunGoes g all args limits es more o
    → StepGoes g all args limits o
run-so g all args limits es more (Next u) h = h.0
run-so g all args limits es more (Ended how u) h = h.0

module _ (g : Graph) (accepted : IsAccepted g) (all : Partitions) (valid : are_valid g all ≡ true) (args : List ℕ) (arguments : AreArguments g args)
    (limits : Limits) (ranges : AreLimits limits) (facts : CodeFacts g all) (some : SomeSource g all) (classes : ClassRuns g all args)
    (switches : SwitchRuns g all args) (order : List Item) where
  -- event by event, by the events that the run makes
  pub events-go : (n : ℕ) (m : Machine) (here : Here g all args limits m)
      → RunGoes g all args limits here.events
      (journal_from n g all (plain (compiled_with g all)) limits m (state_after g all args here.events))
      (after_events (step_of Plain (plain (compiled_with g all)) limits) n m)
  events-go zero m here = (here, sym (append-none here.events))
  events-go (suc n) m here = go (step_of Plain (plain (compiled_with g all)) limits m)
      (step-goes g accepted all valid args arguments limits ranges facts some classes switches m here) (events-go n)
    where
      go : (o : Outcome Machine) → GoesBy g all args limits here.events (next_events all m (state_after g all args here.events)) o
          → ((u : Machine) (h : Here g all args limits u) → RunGoes g all args limits h.events
          (journal_from n g all (plain (compiled_with g all)) limits u (state_after g all args h.events))
          (after_events (step_of Plain (plain (compiled_with g all)) limits) n u))
          → RunGoes g all args limits here.events
          (and_behind o (next_events all m (state_after g all args here.events)) (λ k. journal_from n g all (plain (compiled_with g all)) limits k
          (state_from g all (state_after g all args here.events) (next_events all m (state_after g all args here.events)))))
          (and_then o (after_events (step_of Plain (plain (compiled_with g all)) limits) n))
      go (Next u) (h, e) f = longer (after_events (step_of Plain (plain (compiled_with g all)) limits) n u) (f u h)
        where
          -- the events behind
          behind : State → List Event
          behind t = journal_from n g all (plain (compiled_with g all)) limits u t

          next : List Event
          next = next_events all m (state_after g all args here.events)

          same : h.events ++ journal_from n g all (plain (compiled_with g all)) limits u (state_after g all args h.events)
              ≡ here.events ++ (next_events all m (state_after g all args here.events)
              ++ journal_from n g all (plain (compiled_with g all)) limits u
              (state_from g all (state_after g all args here.events) (next_events all m (state_after g all args here.events))))
          same = ap (λ (es : List Event). es ++ journal_from n g all (plain (compiled_with g all)) limits u (state_after g all args es)) e
              ∙ (ap (λ (t : State). (here.events ++ next_events all m (state_after g all args here.events))
              ++ journal_from n g all (plain (compiled_with g all)) limits u t)
              (state-append g all (initial g args) here.events (next_events all m (state_after g all args here.events)))
              ∙ append-three here.events (next_events all m (state_after g all args here.events)) _)

          longer : (o : Outcome Machine) → RunGoes g all args limits h.events
              (journal_from n g all (plain (compiled_with g all)) limits u (state_after g all args h.events)) o
              → RunGoes g all args limits here.events (next_events all m (state_after g all args here.events)
              ++ journal_from n g all (plain (compiled_with g all)) limits u
              (state_from g all (state_after g all args here.events) (next_events all m (state_after g all args here.events)))) o
          longer (Next v) (k, q) = (k, q ∙ same)
          longer (Ended how v) (k, q) = (k, q ∙ same)
      go (Ended how u) (h, e) f = (h, e ∙ by (is_last how))
        where
          by : (t : Bool) → elim t [
            | true ↦ here.events ++ next_events all m (state_after g all args here.events)
            | false ↦ here.events
          ] ≡ here.events ++ elim t [ true ↦ next_events all m (state_after g all args here.events) | false ↦ [] ]
          by true = refl
          by false = sym (append-none here.events)

  -- main is there
  main : g.main < length g.codes
  main = test-below g.main (length g.codes) accepted.has_main

  -- the opening is here
  opening-here : Here g all args limits (opened g all facts some args order main arguments)
  opening-here = record {
    events = [];
    legal = refl;
    others = [];
    rests = opening-rests g all facts some args order main arguments;
    few = omega arith;
    sized = omega arith;
    arrays = omega arith;
    within = omega arith;
    counted = refl;
    others_once = tt;
    others_are = λ i n h. absurd h;
  }

  -- so after n events
  pub run-own : (n : ℕ) → RunGoes g all args limits []
      (journal_of n g all (plain (compiled_with g all)) args order limits)
      (after_events (step_of Plain (plain (compiled_with g all)) limits) n (thread_opening (plain (compiled_with g all)) args order))
  unfolding opening-here
  run-own n = subst (λ m. RunGoes g all args limits [] (journal_from n g all (plain (compiled_with g all)) limits m (initial g args))
      (after_events (step_of Plain (plain (compiled_with g all)) limits) n m))
      (sym (opening-is g all facts some args order main arguments)) (events-go n (opened g all facts some args order main arguments) opening-here)

  -- whatever its events
  pub run-goes : (n : ℕ) → StepGoes g all args limits
      (after_events (step_of Plain (plain (compiled_with g all)) limits) n (thread_opening (plain (compiled_with g all)) args order))
  run-goes n = run-so g all args limits [] (journal_of n g all (plain (compiled_with g all)) args order limits)
      (after_events (step_of Plain (plain (compiled_with g all)) limits) n (thread_opening (plain (compiled_with g all)) args order)) (run-own n)

-- ---- the laws, but for what events are charged to

-- the thread code of a graph, over the partitions by least pairs
pub compiled-is : (g : Graph) → compiled g ≡ compiled_with g (partitions g)
unfolding compiled
compiled-is g = refl

-- a state has a legal journal that shares it; its events are runs of classes, of threads 0 and connectors, and deliveries
pub record HasSharedJournal (g : Graph) (args : List ℕ) (m : Machine) : Type 0 where
  pub events : List Event
  pub legal : IsTrue (is_legal g (partitions g) args events)
  pub shares : Shares g m (state_after g (partitions g) args events)
  pub journal : IsJournal g (partitions g) args events
  pub others : List (ℕ × ThreadKind)
  pub rests : Rests g (partitions g) m (state_after g (partitions g) args events) others
  pub others_once : Distinct others
  pub others_are : OthersAre g (partitions g) (state_after g (partitions g) args events) others
  pub counted : m.events ≡ length (state_after g (partitions g) args events).ran + length others + length (state_after g (partitions g) args events).arrived

-- what comes of n events, with the events of the run
pub own-goes : (g : Graph) (args : List ℕ) (order : List Item) (limits : Limits) (n : ℕ) → IsJob g args limits → RunGoes g (partitions g) args limits []
    (journal_of n g (partitions g) (plain (compiled g)) args order limits)
    (after_events (step_of Plain (plain (compiled g)) limits) n (thread_opening (plain (compiled g)) args order))
own-goes g args order limits n job =
    subst (λ (p : Program). RunGoes g (partitions g) args limits [] (journal_of n g (partitions g) (plain p) args order limits)
    (after_events (step_of Plain (plain p) limits) n (thread_opening (plain p) args order))) (sym (compiled-is g))
    (run-own g job.accepted (partitions g) (partitions-valid g job.accepted) args job.arguments limits job.ranges (code-facts g job.accepted)
    (some-source g (partitions g))
    (class-runs g job.accepted args) (switch-runs g job.accepted (partitions g) (code-facts g job.accepted) args) order n)

-- the journal of a state, whose events are those here
pub shared-from : (g : Graph) (args : List ℕ) (limits : Limits) (m : Machine) → IsJob g args limits → (here : Here g (partitions g) args limits m)
    → (j : HasSharedJournal g args m) × (j.events ≡ here.events)
shared-from g args limits m job here = (
  record {
    events = here.events;
    legal = here.legal;
    shares = record {
      printed = here.rests.keeps.messages.printed;
      pending = here.rests.keeps.messages.pending;
      arrays = here.rests.keeps.messages.arrays;
      activations = sym here.rests.keeps.frames.begun;
      frames = here.rests.keeps.frames.frames ∙ sym here.rests.keeps.frames.begun;
      codes = here.rests.keeps.frames.codes;
      no_fault = here.rests.keeps.no_fault;
    };
    journal = journal g job.accepted (partitions g) (partitions-valid g job.accepted) args job.arguments limits job.ranges m here;
    others = here.others;
    rests = here.rests;
    others_once = here.others_once;
    others_are = here.others_are;
    counted = here.counted;
  },
  refl,
)

-- each state of the plain run has one, of the run's own events
pub plain-states : (g : Graph) (args : List ℕ) (order : List Item) (limits : Limits) (n : ℕ) (m : Machine) → IsJob g args limits
    → IsAfter Plain (plain (compiled g)) args order limits n m
    → (j : HasSharedJournal g args m) × (j.events ≡ journal_of n g (partitions g) (plain (compiled g)) args order limits)
plain-states g args order limits n m job h =
    let r = subst (RunGoes g (partitions g) args limits [] (journal_of n g (partitions g) (plain (compiled g)) args order limits)) h
    (own-goes g args order limits n job) in
    let j = shared-from g args limits m job r.0 in
    (j.0, j.1 ∙ r.1)

-- and each end has one that bears it out
pub plain-ends : (g : Graph) (args : List ℕ) (order : List Item) (limits : Limits) (n : ℕ) (how : End) (m : Machine) → IsJob g args limits
    → EndsWithin Plain (plain (compiled g)) args order limits n how m
    → (h : EndsHere g (partitions g) args limits how m) × (h.events ≡ journal_of n g (partitions g) (plain (compiled g)) args order limits)
plain-ends g args order limits n how m job h =
    subst (RunGoes g (partitions g) args limits [] (journal_of n g (partitions g) (plain (compiled g)) args order limits)) h
    (own-goes g args order limits n job)

-- ---- the law, over what events are charged to

-- what is shown of each graph by a count of the events (`Charging`)
abbrev pub ChargesHold : Type 0
ChargesHold = (g : Graph) (args : List ℕ) → Charges g (partitions g) args

-- a wish for an activation that is on its way asks, was sent and may arrive
wish-asks : (g : Graph) (all : Partitions) (facts : CodeFacts g all) (args : List ℕ) (m : Machine) (s : State) (others : List (ℕ × ThreadKind))
    → Keeps g all m s others [] → WantsActivation s
    → (n : ℕ) × ((q : Message) × ((may_arrive s n ≡ true) × (slice_get s.sent n ≡ Some q) × IsAsking q))
wish-asks g all facts args m s others keeps (c, f, x, w) =
    let i = in-get (Begin c f x) (on_their_way s) (contains-in (on_their_way s) (Begin c f x) w) in
    let n = (found g all facts args m s others keeps i.0 (Begin c f x) i.1).number in (
      n,
      (
        Begin c f x,
        (
          (both-true (is_none s.fault) (may_arrive s n) (may g all facts args m s others keeps i.0 (Begin c f x) i.1)).1,
          was-sent g all facts args m s others keeps i.0 (Begin c f x) i.1,
          tt,
        ),
      ),
    )

-- then the journal of the run's own events is as the laws say: of each state
pub own-states-law : ChargesHold → (g : Graph) (args : List ℕ) (order : List Item) (limits : Limits) (n : ℕ) (m : Machine) → IsJob g args limits
    → IsAfter Plain (plain (compiled g)) args order limits n m
    → (j : HasStateJournal g args m) × (j.events ≡ journal_of n g (partitions g) (plain (compiled g)) args order limits)
own-states-law charges g args order limits n m job h =
    let own = plain-states g args order limits n m job h in
    let r = own.0 in (
      record {
        events = r.events;
        journal = r.journal;
        shares = r.shares;
        charged = subst (IsCharged g (partitions g) (state_after g (partitions g) args r.events)) (let e = r.counted in omega arith)
            (charges g args r.events r.journal m r.others r.rests r.others_once r.others_are 0 (inl refl));
        charged_wish = λ w. subst (IsCharged g (partitions g) (state_after g (partitions g) args r.events)) (let e = r.counted in omega arith)
            (charges g args r.events r.journal m r.others r.rests r.others_once r.others_are 1
            (inr (refl, wish-asks g (partitions g) (code-facts g job.accepted) args m (state_after g (partitions g) args r.events) r.others r.rests.keeps w)));
      },
      own.1,
    )

-- and of each end
pub own-ends-law : ChargesHold → (g : Graph) (args : List ℕ) (order : List Item) (limits : Limits) (n : ℕ) (how : End) (m : Machine) → IsJob g args limits
    → EndsWithin Plain (plain (compiled g)) args order limits n how m
    → (j : HasEndJournal g args limits how m) × (j.events ≡ journal_of n g (partitions g) (plain (compiled g)) args order limits)
own-ends-law charges g args order limits n how m job h =
    let own = plain-ends g args order limits n how m job h in
    let r = own.0 in (
      record {
        events = r.events;
        journal = r.journal;
        printed = r.printed;
        activations = r.activations;
        arrays = r.arrays;
        ends = r.ends;
        charged = r.charged (charges g args);
      },
      own.1,
    )

-- so each state has some journal
pub plain-states-law : ChargesHold → PlainStatesAreJournals
plain-states-law charges g args order limits n m job h = (own-states-law charges g args order limits n m job h).0

-- and so has each end
pub plain-ends-law : ChargesHold → PlainEndsAreJournals
plain-ends-law charges g args order limits n how m job h = (own-ends-law charges g args order limits n how m job h).0

-- the run's own
pub own-journals-law : ChargesHold → JournalsAreTheRuns
own-journals-law charges g args order limits n job = (
  λ m h. own-states-law charges g args order limits n m job h,
  λ how m h. own-ends-law charges g args order limits n how m job h,
)
