-- One event of the plain run: the journal goes on, or the end is borne out.
use Rattle.std.proofs.Common.{◌≡◌, ℕ, ◌+◌, ◌<◌, ◌≤◌, ◌^◌, Bool, true, false, ◌==◌, List, [], ◌∷◌, Option, slice_index}
use Rattle.std.proofs.Common.{◌++◌, map, length, is_none}
use Rattle.std.proofs.Common.{refl, sym, ap, subst, ◌∙◌, inl, inr, arith, true≢false}
use Rattle.tam_word.proofs.Tests.{number-eq, number-differs, true-both}
use Rattle.tam_word.proofs.Members.{In}
use Rattle.tam_msgs.specs.declared.item.Item.{Item}
use Rattle.tam_msgs.specs.declared.choice.Choice.TheVariants.{Run as Choose_run}
use Rattle.tam_msgs.specs.declared.limits.Limits.{Limits}
use Rattle.tam_msgs.specs.Messages.{AreLimits}
use Rattle.tam_msgs.specs.Runs.{Outcome, Ended, Quiet, Budget_spent}
use Rattle.tam_graph.specs.declared.kind.Kind.{Kind}
use Rattle.tam_graph.specs.declared.kind.Kind.TheVariants.{Cond, Switch as Choose}
use Rattle.tam_graph.specs.Graphs.{Code, Graph, kind_at, AreArguments, code_of}
use Rattle.tam_graph.specs.Accepted.{IsAccepted}
use Rattle.tam_split.specs.GraphPartitions.{Partitions, are_valid}
use Rattle.tam_world.specs.Worlds.{Fault, activation_at, its_code}
use Rattle.tam_flow.specs.Journals.{State, Event, Run, state_after, after_event}
use Rattle.tam_flow.specs.Reached.{IsThere, IsReached}
use Rattle.tam_flow.specs.RunJournals.{IsCharged}
use Rattle.frame_tables.specs.FrameTables.{FrameTable, is_ready, next_thread}
use Rattle.tl0_code.specs.declared.instr.Instr.{Instr}
use Rattle.tl0_code.specs.Machines.{Machine, Plain, Progress, done_thread, then_do, stopped, at_rest}
use Rattle.tl0_code.specs.ThreadRuns.{chosen, counted, run_next, run_taken, as_outcome}
use Rattle.tl0_code.specs.ThreadCode.{code_text, plain, thread_at}
use Rattle.tl0_keep.specs.ThreadJournals.{class_of_thread, run_events}
use Rattle.tl0_keep.proofs.code.ThreadClasses.{kind_class, class-of-number}
use Rattle.tl0_keep.proofs.runs.OwnEvents.{append-none}
use Rattle.tl0_keep.specs.Compiled.{compiled_with, block_entry, switch_into, yes_of, no_of, is_choosing}
use Rattle.tl0_keep.proofs.code.ThreadKinds.{ThreadKind, Entry, Class, Then_of, Else_of, number_of_thread, IsThread, connector_tickets, then_block, else_block}
use Rattle.tl0_keep.proofs.runs.Keeps.{parts_in}
use Rattle.tl0_keep.proofs.code.CodeFacts.{CodeFacts, TextFacts}
use Rattle.tl0_keep.proofs.runs.Frames.{IsHeld}
use Rattle.tl0_keep.proofs.runs.Taking.{Takes, takes}
use Rattle.tl0_keep.proofs.runs.OtherRuns.{RunsTo, opens, stop-rests, fresh}
use Rattle.tl0_keep.proofs.runs.QuietRuns.{none-follows}
use Rattle.tl0_keep.proofs.runs.Delivering.{code-same}
use Rattle.tl0_keep.proofs.runs.Beginning.{SomeSource}
use Rattle.tl0_keep.proofs.runs.ClassGoals.{ClassRuns, Charges, OthersAre}
use Rattle.tl0_keep.proofs.code.CodeFacts.{IsOther}
use Rattle.tl0_keep.proofs.code.ThreadKinds.{parts_for}
use Rattle.tl0_keep.proofs.runs.Journey.{Here, reached, journal, goes-beside, goes-with, run-size}
use Rattle.tl0_keep.proofs.runs.StepGoals.{thread-codes, length-none, rests-counted, GoesBy, SwitchRuns}

module _ (g : Graph) (accepted : IsAccepted g) (all : Partitions) (valid : are_valid g all ≡ true) (args : List ℕ) (arguments : AreArguments g args)
    (limits : Limits) (ranges : AreLimits limits) (facts : CodeFacts g all) (some : SomeSource g all) (classes : ClassRuns g all args)
    (switches : SwitchRuns g all args) (m : Machine) (here : Here g all args limits m) where
  -- the journal's state
  abbrev s : State
  s = state_after g all args here.events

  -- and what has run
  abbrev others : List (ℕ × ThreadKind)
  others = here.others

  -- it is reached
  pub now-reached : IsReached g all args (state_after g all args here.events)
  now-reached = reached g accepted all valid args arguments limits ranges m here

  -- what events are charged to
  now-charged : Charges g all args → IsCharged g all (state_after g all args here.events) m.events
  now-charged charges = subst (IsCharged g all (state_after g all args here.events)) (let e = here.counted in omega arith)
      (charges here.events (journal g accepted all valid args arguments limits ranges m here) m here.others here.rests here.others_once here.others_are 0
      (inl refl))

  -- the budget is spent
  pub spent-goes : (more : List Event) → (m.events == limits.budget) ≡ true → GoesBy g all args limits here.events more (Ended (Budget_spent m.events) m)
  spent-goes more p = (
    record {
      events = here.events;
      journal = journal g accepted all valid args arguments limits ranges m here;
      printed = here.rests.keeps.messages.printed;
      activations = sym here.rests.keeps.frames.begun;
      arrays = here.rests.keeps.messages.arrays;
      ends = (number-eq m.events limits.budget p, refl, here.rests.keeps.no_fault);
      charged = now-charged;
    },
    refl,
  )

  -- there is room for an event
  pub room : (m.events == limits.budget) ≡ false → m.events + 1 ≤ limits.budget
  room p = let n = number-differs m.events limits.budget p in let w = here.within in omega arith

  -- nothing is ready or on its way
  pub quiet-goes : is_ready m.table ≡ false → length m.pending ≡ 0 → GoesBy g all args limits here.events [] (Ended Quiet m)
  quiet-goes r p = (
    record {
      events = here.events;
      journal = journal g accepted all valid args arguments limits ranges m here;
      printed = here.rests.keeps.messages.printed;
      activations = sym here.rests.keeps.frames.begun;
      arrays = here.rests.keeps.messages.arrays;
      ends = record {
        legal = here.legal;
        whole = here.rests.keeps.no_fault;
        ended = none-follows g all facts args m (state_after g all args here.events) here.others here.rests now-reached r (length-none m.pending p);
      };
      charged = now-charged;
    },
    refl,
  )

  -- ---- a thread runs

  module _ (rest : List Item) (fits : m.events + 1 ≤ limits.budget) (taken : Takes m.table) where
    -- the machine with the event counted
    abbrev m1 : Machine
    m1 = counted m rest

    -- the frame is an activation's
    there : IsThere (state_after g all args here.events).world taken.frame
    there = let a = taken.inside in let b = here.rests.keeps.frames.frames in omega arith

    -- what its code is
    abbrev c : Code
    c = its_code g (state_after g all args here.events).world taken.frame

    -- its facts
    text : TextFacts g (its_code g (state_after g all args here.events).world taken.frame) (parts_in g all (state_after g all args here.events) here.others
        taken.frame)
        (code_text (plain (compiled_with g all)) (activation_at (state_after g all args here.events).world taken.frame).code)
    text = facts.texts (activation_at (state_after g all args here.events).world taken.frame).code (here.rests.keeps.frames.known taken.frame there)

    -- the instructions of the thread
    abbrev its : List Instr
    its = (thread_at (code_text (plain (compiled_with g all)) (activation_at (state_after g all args here.events).world taken.frame).code) taken.thread).instrs

    -- the outcome
    abbrev outcome : Outcome Machine
    outcome = as_outcome (done_thread Plain (record m1 { table = taken.after }) taken.frame its) m1

    -- thread 0 or a connector, whose instructions end well
    other-goes : (n : ThreadKind) (is : List Instr) → its ≡ is → (In (taken.frame, n) here.others → ⊥) → IsOther n
        → IsThread c (parts_in g all (state_after g all args here.events) here.others taken.frame) n
        → RunsTo g all (state_after g all args here.events) ((taken.frame, n) ∷ here.others) [] (record m1 { table = taken.after }) taken.frame is
        → GoesBy g all args limits here.events [] outcome
    other-goes n is e new other th r = subst (GoesBy g all args limits here.events [])
        (sym (ap (λ (l : List Instr). as_outcome (done_thread Plain (record m1 { table = taken.after }) taken.frame l) m1) e
        ∙ ap (λ (p : Progress). as_outcome (then_do p (λ q. stopped Plain q taken.frame)) m1) r.runs))
        (beside (goes-beside g accepted all valid args arguments limits ranges m here (at_rest r.after) ((taken.frame, n) ∷ here.others)
        (stop-rests g all r.after (state_after g all args here.events) ((taken.frame, n) ∷ here.others) r.keeps) r.events fits refl (new, here.others_once)
        are))
      where
        beside : {u : Machine} → (h : Here g all args limits u) × (h.events ≡ here.events) → (h : Here g all args limits u) × (h.events ≡ here.events ++ [])
        beside (h, q) = (h, q ∙ sym (append-none here.events))

        are : OthersAre g all (state_after g all args here.events) ((taken.frame, n) ∷ here.others)
        are j o (inl q) = subst (λ (z : ℕ × ThreadKind). IsOther z.1 × IsThread (its_code g (state_after g all args here.events).world z.0)
            (parts_in g all (state_after g all args here.events) here.others z.0) z.1) q (other, th)
        are j o (inr q) = here.others_are j o q

    -- a class
    class-goes : (b k : ℕ) → IsThread c (parts_in g all (state_after g all args here.events) here.others taken.frame) (Class b k)
        → number_of_thread c (parts_in g all (state_after g all args here.events) here.others taken.frame) (Class b k) ≡ taken.thread
        → GoesBy g all args limits here.events (Run taken.frame b k ∷ []) outcome
    class-goes b k th e =
        let r = classes here.events (journal g accepted all valid args arguments limits ranges m here) m1 here.others
        (rests-counted g all m (state_after g all args here.events) here.others rest here.rests) taken b k there th e in
        subst (GoesBy g all args limits here.events (Run taken.frame b k ∷ [])) (sym (ap (λ (p : Progress). as_outcome p m1) r.runs))
        (goes-with g accepted all valid args arguments limits ranges m here (Run taken.frame b k)
        (true-both _ _ (ap (λ (o : Option Fault). is_none o) here.rests.keeps.no_fault) r.may)
        r.after here.others r.rests r.events fits
        (subst (λ n. n < 2 ^ 32) (sym (run-size g accepted all valid args arguments limits ranges m here taken.frame b k)) here.few)
        (let a = run-size g accepted all valid args arguments limits ranges m here taken.frame b k in let z = here.sized in let q = r.events in omega arith)
        (let a = here.counted in let q = r.events in omega arith) here.others_once
        (λ j o q. let l = here.rests.keeps.others_there j o q in
        let w = subst (λ z. j < z) (sym (run-size g accepted all valid args arguments limits ranges m here taken.frame b k)) l in
        let same = sym (code-same g all m (state_after g all args here.events) here.others [] here.rests.keeps j l)
        ∙ (ap (λ (xs : List ℕ). slice_index xs j) (sym (thread-codes (record m1 { table = taken.after }) r.after taken.frame its r.runs))
        ∙ code-same g all r.after (after_event g all (state_after g all args here.events) (Run taken.frame b k)) here.others [] r.rests.keeps j w) in
        let are = here.others_are j o q in
        (are.0, subst (λ d. IsThread (code_of g d) (parts_for all d) o) same are.1)))

    -- its events
    abbrev kind_events : ThreadKind → List Event
    kind_events n = map (λ (bk : ℕ × ℕ). Run taken.frame bk.0 bk.1) (kind_class n)

    -- by what the thread is
    thread-goes : (n : ThreadKind) → IsThread c (parts_in g all (state_after g all args here.events) here.others taken.frame) n
        → number_of_thread c (parts_in g all (state_after g all args here.events) here.others taken.frame) n ≡ taken.thread
        → GoesBy g all args limits here.events (kind_events n) outcome
    thread-goes Entry th e = other-goes Entry (block_entry c (parts_in g all (state_after g all args here.events) here.others taken.frame) 0)
        (ap (λ t. (thread_at (code_text (plain (compiled_with g all)) (activation_at (state_after g all args here.events).world taken.frame).code) t).instrs)
        (sym e)
        ∙ text.opening_instrs)
        (fresh g all facts m1 (state_after g all args here.events) here.others (rests-counted g all m (state_after g all args here.events) here.others rest
        here.rests).keeps taken Entry there th e tt) tt th
        (opens g all facts m1 (state_after g all args here.events) here.others (rests-counted g all m (state_after g all args here.events) here.others rest
        here.rests).keeps
        taken Entry there th e tt 0 refl)
    thread-goes (Class b k) th e = class-goes b k th e
    thread-goes (Then_of x) th e = go (kind_at c x) refl th.1
      where
        go : (k : Kind) → kind_at c x ≡ k → is_choosing (kind_at c x) ≡ true → GoesBy g all args limits here.events [] outcome
        go (Cond p y n) q h = other-goes (Then_of x) (block_entry c (parts_in g all (state_after g all args here.events) here.others taken.frame) y)
            (ap (λ t. (thread_at (code_text (plain (compiled_with g all)) (activation_at (state_after g all args here.events).world taken.frame).code)
            t).instrs) (sym e)
            ∙ text.then_cond x p y n th.0 q)
            (fresh g all facts m1 (state_after g all args here.events) here.others (rests-counted g all m (state_after g all args here.events) here.others
            rest here.rests).keeps taken (Then_of x) there th e tt) tt th
            (opens g all facts m1 (state_after g all args here.events) here.others (rests-counted g all m (state_after g all args here.events) here.others
            rest here.rests).keeps
            taken (Then_of x) there th e tt y
            (ap (λ z. connector_tickets c (parts_in g all (state_after g all args here.events) here.others taken.frame) (then_block c z) z) q))
        go (Choose d k a) q h = other-goes (Then_of x) (switch_into c (parts_in g all (state_after g all args here.events) here.others taken.frame) a k
            (yes_of (kind_at c d)))
            (ap (λ t. (thread_at (code_text (plain (compiled_with g all)) (activation_at (state_after g all args here.events).world taken.frame).code)
            t).instrs) (sym e)
            ∙ text.then_switch x d k a th.0 q)
            (fresh g all facts m1 (state_after g all args here.events) here.others (rests-counted g all m (state_after g all args here.events) here.others
            rest here.rests).keeps taken (Then_of x) there th e tt) tt th
            (switches here.events (journal g accepted all valid args arguments limits ranges m here) m1 here.others
            (rests-counted g all m (state_after g all args here.events) here.others rest here.rests) taken (Then_of x) x d k a (yes_of (kind_at c d)) there
            th e q (inl (refl, refl)))
        go z q h = absurd (true≢false (sym h ∙ ap is_choosing q))
    thread-goes (Else_of x) th e = go (kind_at c x) refl th.1
      where
        go : (k : Kind) → kind_at c x ≡ k → is_choosing (kind_at c x) ≡ true → GoesBy g all args limits here.events [] outcome
        go (Cond p y n) q h = other-goes (Else_of x) (block_entry c (parts_in g all (state_after g all args here.events) here.others taken.frame) n)
            (ap (λ t. (thread_at (code_text (plain (compiled_with g all)) (activation_at (state_after g all args here.events).world taken.frame).code)
            t).instrs) (sym e)
            ∙ text.else_cond x p y n th.0 q)
            (fresh g all facts m1 (state_after g all args here.events) here.others (rests-counted g all m (state_after g all args here.events) here.others
            rest here.rests).keeps taken (Else_of x) there th e tt) tt th
            (opens g all facts m1 (state_after g all args here.events) here.others (rests-counted g all m (state_after g all args here.events) here.others
            rest here.rests).keeps
            taken (Else_of x) there th e tt n
            (ap (λ z. connector_tickets c (parts_in g all (state_after g all args here.events) here.others taken.frame) (else_block c z) z) q))
        go (Choose d k a) q h = other-goes (Else_of x) (switch_into c (parts_in g all (state_after g all args here.events) here.others taken.frame) a k
            (no_of (kind_at c d)))
            (ap (λ t. (thread_at (code_text (plain (compiled_with g all)) (activation_at (state_after g all args here.events).world taken.frame).code)
            t).instrs) (sym e)
            ∙ text.else_switch x d k a th.0 q)
            (fresh g all facts m1 (state_after g all args here.events) here.others (rests-counted g all m (state_after g all args here.events) here.others
            rest here.rests).keeps taken (Else_of x) there th e tt) tt th
            (switches here.events (journal g accepted all valid args arguments limits ranges m here) m1 here.others
            (rests-counted g all m (state_after g all args here.events) here.others rest here.rests) taken (Else_of x) x d k a (no_of (kind_at c d)) there th
            e q (inr (refl, refl)))
        go z q h = absurd (true≢false (sym h ∙ ap is_choosing q))

    -- so the run of the next thread
    run-goes : GoesBy g all args limits here.events (run_events all m (next_thread m.table).0) (run_next Plain (plain (compiled_with g all)) m1)
    run-goes = subst (λ more. GoesBy g all args limits here.events more (run_next Plain (plain (compiled_with g all)) m1)) (sym its-events)
        (subst (GoesBy g all args limits here.events (kind_events name.0)) (sym (ap (run_taken Plain (plain (compiled_with g all)) m1) taken.next
        ∙ ap (λ (q : ℕ). as_outcome (done_thread Plain (record m1 { table = taken.after }) taken.frame (thread_at (code_text (plain (compiled_with g all)) q)
        taken.thread).instrs) m1)
        (code-same g all m (state_after g all args here.events) here.others [] here.rests.keeps taken.frame there)))
        (thread-goes name.0 name.1 name.2))
      where
        name : (n : ThreadKind) × IsThread c (parts_in g all (state_after g all args here.events) here.others taken.frame) n
            × (number_of_thread c (parts_in g all (state_after g all args here.events) here.others taken.frame) n ≡ taken.thread)
        name = here.rests.keeps.ready.threads taken.frame taken.thread there (subst (λ (ts : List ℕ). In taken.thread ts) (sym taken.was) (inl refl))

        its-events : run_events all m (next_thread m.table).0 ≡ kind_events name.0
        its-events = ap (λ (o : Option (ℕ × ℕ) × FrameTable). run_events all m o.0) taken.next
            ∙ ap (map (λ (bk : ℕ × ℕ). Run taken.frame bk.0 bk.1))
            (ap (λ (q : ℕ). class_of_thread (parts_for all q) taken.thread)
            (code-same g all m (state_after g all args here.events) here.others [] here.rests.keeps taken.frame there)
            ∙ (ap (class_of_thread (parts_in g all (state_after g all args here.events) here.others taken.frame)) (sym name.2)
            ∙ class-of-number c (parts_in g all (state_after g all args here.events) here.others taken.frame) name.0 name.1))

  -- a thread that is ready runs
  pub run-step : (rest : List Item) → is_ready m.table ≡ true
      → GoesBy g all args limits here.events (run_events all m (next_thread m.table).0)
      (chosen Plain (plain (compiled_with g all)) limits m (Choose_run, rest))
  run-step rest r = go (m.events == limits.budget) refl
    where
      held : (i : ℕ) → i < length m.table.frames → IsHeld m.table i
      held i l = here.rests.keeps.frames.live i (let e = here.rests.keeps.frames.frames in omega arith)

      go : (t : Bool) → (m.events == limits.budget) ≡ t → GoesBy g all args limits here.events (run_events all m (next_thread m.table).0)
          (chosen Plain (plain (compiled_with g all)) limits m (Choose_run, rest))
      go true p = rw (chosen, p) (spent-goes (run_events all m (next_thread m.table).0) p)
      go false p = rw (chosen, p) (run-goes rest (room p) (takes m.table here.rests.keeps.turns here.rests.rested held r))
