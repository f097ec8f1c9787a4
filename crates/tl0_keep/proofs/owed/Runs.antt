-- The run where frames owe: no skip is wild in it, and a frame that owes nothing is left alone, if each state of the plain run is fair.
use Rattle.std.proofs.Common.{◌≡◌, ◌≢◌, ℕ, zero, suc, ◌+◌, ◌<◌, Bool, true, false, ◌==◌, List, [], ◌∷◌, filter, Option, Some, None, slice_get, length}
use Rattle.std.proofs.Common.{refl, sym, ap, subst}
use Rattle.std.proofs.Common.{◌∙◌, arith, inl, inr}
use Rattle.std.proofs.lemmas.Option.{same_Some, slice_get_within}
use Rattle.tam_word.specs.Lists.{without_place}
use Rattle.tam_word.proofs.Members.{In}
use Rattle.tam_graph.specs.Graphs.{Graph, code_of}
use Rattle.tam_graph.specs.Accepted.{IsAccepted}
use Rattle.tam_split.specs.GraphPartitions.{Partitions, partitions}
use Rattle.tam_msgs.specs.declared.message.Message.{Message}
use Rattle.tam_msgs.specs.declared.item.Item.{Item}
use Rattle.tam_msgs.specs.declared.limits.Limits.{Limits}
use Rattle.tam_msgs.specs.declared.choice.Choice.{Choice}
use Rattle.tam_msgs.specs.declared.choice.Choice.TheVariants.{Quiet as Choose_quiet, Run as Choose_run, Deliver as Choose_delivery}
use Rattle.tam_msgs.specs.Messages.{outside}
use Rattle.tam_msgs.specs.Runs.{WildCause, Wild_skip, End, Wild, Budget_spent, Outcome, Next, Ended, choice, and_then, after_events}
use Rattle.tam_world.specs.Worlds.{has_entered}
use Rattle.frame_tables.specs.FrameTables.{FrameTable, frame_at, is_ready, next_thread}
use Rattle.tl0_code.specs.declared.instr.Instr.{Instr}
use Rattle.tl0_code.specs.ThreadCode.{Thread, CodeText, Program, or_text, code_text, counts_of, plain, is_plain, thread_at}
use Rattle.tl0_code.specs.Machines.{Machine, Plain, Owing, Progress, Fine, Broken, code_at, done_thread, put}
use Rattle.tl0_code.specs.ThreadRuns.{as_outcome, run_taken, run_next, delivered_at, counted, chosen, step_of, thread_opening, begin, or_machine, nothing_begun}
use Rattle.tl0_keep.specs.Compiled.{compiled, compiled_with}
use Rattle.tl0_keep.specs.ThreadNames.{names_of, IsLeftAlone}
use Rattle.tl0_keep.specs.ThreadLaws.{IsJob, IsAfter, EndsWithin, NoSkipIsWild, DoneIsDone}
use Rattle.tl0_keep.proofs.code.ThreadKinds.{AreAllParts, ThreadKind, IsThread, number_of_thread, parts_for, sources_of}
use Rattle.tl0_keep.proofs.code.CodeFacts.{CodeFacts}
use Rattle.tl0_keep.proofs.owing.Tables.{bare_next, next_thread-bare, is_ready-bare}
use Rattle.tl0_keep.proofs.owing.Threads.{unowed}
use Rattle.tl0_keep.proofs.owing.Programs.{instrs-plain, counts-plain}
use Rattle.tl0_keep.proofs.owing.Deliveries.{unowed_outcome}
use Rattle.tl0_keep.proofs.owing.Runs.{plain-step, owing-is-plain}
use Rattle.tl0_keep.proofs.code.RisingClasses.{partitions-parts}
use Rattle.tl0_keep.proofs.code.Facts.{code-facts}
use Rattle.tl0_keep.proofs.code.CodePlaces.{compiled-many}
use Rattle.tl0_keep.proofs.runs.PlainRuns.{compiled-is, some-source}
use Rattle.tl0_keep.proofs.giving.LiveFrames.{first-thread}
use Rattle.tl0_keep.proofs.giving.Places.{contains-in}
use Rattle.tl0_keep.proofs.owed.Skipped.{home, length-mapped}
use Rattle.tl0_keep.proofs.owed.Tables.{machine-twice, put-goes, spend-goes}
use Rattle.tl0_keep.proofs.owed.Owes.{FrameOwes, IsCounted, AllOwe, all-gone, IsFair, dead-out, zero-alive}
use Rattle.tl0_keep.proofs.owed.Stopping.{Finishes, plain-many}
use Rattle.tl0_keep.proofs.owed.Threads.{thread-finishes}
use Rattle.tl0_keep.proofs.owed.Steps.{fair-with, fair-unowed, fair-owed, StepOwes, message-owes, with_fresh, begun-owes, wild-eq}

-- ---- outcomes

next-eq : {m k : Machine} → Next m ≡ Next k → m ≡ k
next-eq e = cc

next-ended : {m k : Machine} {how : End} → Next m ≡ Ended how k → ⊥
next-ended e = cc

ended-how : {m k : Machine} {how what : End} → Ended how m ≡ Ended what k → how ≡ what
ended-how e = cc

-- what goes on but for what is owed, goes on
same-next : (o : Outcome Machine) (m : Machine) → unowed_outcome o ≡ Next m → (k : Machine) × (o ≡ Next k) × (unowed k ≡ m)
same-next (Next k) m e = (k, refl, next-eq e)
same-next (Ended how k) m e = absurd (next-ended (sym e))

-- ---- the threads of a graph's code

-- a code with a thread is there
code-there : (g : Graph) (all : Partitions) → AreAllParts g all → (n : ℕ) → 0 < length (code_text (compiled_with g all) n).threads → n < length g.codes
code-there g all parts n l = go (slice_get (compiled_with g all).codes n) refl l
  where
    go : (o : Option CodeText) → slice_get (compiled_with g all).codes n ≡ o → 0 < length (or_text o).threads → n < length g.codes
    go None e h = absurd (omega arith)
    go (Some c) e h = subst (λ x. n < x) (compiled-many g all parts) (slice_get_within (compiled_with g all).codes n c e)

-- each of its threads waits for something, and has its number in it
all-counted : (g : Graph) (all : Partitions) → AreAllParts g all → CodeFacts g all → IsCounted g all (compiled_with g all)
all-counted g all parts facts = record {
  some = λ n t e.
      let w = slice_get_within (counts_of (code_text (compiled_with g all) n)) t 0 e in
      let m = length-mapped (λ (x : Thread). x.count) (code_text (compiled_with g all) n).threads in
      let there = code-there g all parts n (omega (arith, w, m)) in
      let text = facts.texts n there in
      let q = plain-many (compiled_with g all) n in
      let o = text.number_onto t (omega (arith, w, m, q)) in
      let z : Some 0 ≡ Some (length (sources_of (code_of g n) (parts_for all n) o.0)) = sym e
      ∙ (ap (λ (xs : List ℕ). slice_get xs t) (sym (counts-plain (compiled_with g all) n))
      ∙ (ap (slice_get (counts_of (code_text (plain (compiled_with g all)) n))) (sym o.2) ∙ text.count o.0 o.1)) in
      let l = some-source g all n there o.0 o.1 in
      let y = same_Some 0 (length (sources_of (code_of g n) (parts_for all n) o.0)) z in
      absurd (omega (arith, l, y));
  low = λ n u l h.
      let there = code-there g all parts n l in
      let q = plain-many (compiled_with g all) n in
      let b = (facts.texts n there).number_below u h in
      omega (arith, b, q);
}

-- ---- one event

module _ (g : Graph) (accepted : IsAccepted g) (all : Partitions) (parts : AreAllParts g all) (facts : CodeFacts g all) (limits : Limits) (k m : Machine)
    (same : unowed k ≡ unowed m) (fair : IsFair g all m)
    (next : (n : Machine) → step_of Plain (plain (compiled_with g all)) limits m ≡ Next n → IsFair g all n) (owes : AllOwe g all (compiled_with g all) k) where
  -- it is fair here too
  pub fair-here : IsFair g all k
  fair-here = fair-owed g all k (subst (IsFair g all) (sym same) (fair-unowed g all m fair))

  -- and where an event of the plain run leads from here
  later : (n : Machine) → step_of Plain (plain (compiled_with g all)) limits (unowed k) ≡ Next n → IsFair g all n
  later n e =
      let a : unowed_outcome (step_of Plain (plain (compiled_with g all)) limits m) ≡ Next (unowed n) =
      plain-step (compiled_with g all) limits m ∙ (ap (λ (x : Machine). unowed_outcome (step_of Plain (plain (compiled_with g all)) limits x)) (sym same)
      ∙ ap unowed_outcome e) in
      let r = same-next (step_of Plain (plain (compiled_with g all)) limits m) (unowed n) a in
      fair-owed g all n (subst (IsFair g all) r.2 (fair-unowed g all r.0 (next r.0 r.1)))

  -- the state with the event counted
  fair-counted : (rest : List Item) → IsFair g all (counted k rest)
  fair-counted rest = fair-with g all k k.table rest (k.events + 1) refl refl (λ i. refl) (λ i. refl) fair-here

  -- a thread runs
  run-owes : (rest : List Item) → ((n : Machine) → run_next Plain (plain (compiled_with g all)) (counted (unowed k) rest) ≡ Next n → IsFair g all n)
      → StepOwes g all (compiled_with g all) k (run_next Owing (compiled_with g all) (counted k rest))
  run-owes rest goes = go (next_thread k.table) refl
    where
      go : (o : Option (ℕ × ℕ) × FrameTable) → next_thread k.table ≡ o → StepOwes g all (compiled_with g all) k
          (run_taken Owing (compiled_with g all) (counted k rest) o)
      go (None, table) e = λ x q. absurd cc
      go (Some (f, t), after) e = done (done_thread Owing (record (counted k rest) { table = after }) f its-instrs) refl
          (thread-finishes g accepted all parts facts (counted k rest) (fair-counted rest) owes f t after e after-fair)
        where
          its-instrs : List Instr
          its-instrs = (thread_at (code_text (compiled_with g all) (code_at k f)) t).instrs

          after-fair : (n : Machine) → done_thread Plain (unowed (record (counted k rest) { table = after })) f
              (filter is_plain (thread_at (code_text (compiled_with g all) (code_at k f)) t).instrs) ≡ Fine n → IsFair g all n
          after-fair n q = goes n (
              ap (run_taken Plain (plain (compiled_with g all)) (counted (unowed k) rest)) (next_thread-bare k.table ∙ ap bare_next e)
              ∙ (ap (λ (is : List Instr). as_outcome (done_thread Plain (unowed (record (counted k rest) { table = after })) f is) (counted (unowed k) rest))
              (instrs-plain (compiled_with g all) (code_at k f) t)
              ∙ ap (λ (r : Progress). as_outcome r (counted (unowed k) rest)) q))

          done : (r : Progress) → done_thread Owing (record (counted k rest) { table = after }) f
              (thread_at (code_text (compiled_with g all) (code_at k f)) t).instrs ≡ r
              → Finishes g all (compiled_with g all) (counted k rest) (done_thread Owing (record (counted k rest) { table = after }) f
              (thread_at (code_text (compiled_with g all) (code_at k f)) t).instrs)
              → StepOwes g all (compiled_with g all) k (as_outcome (done_thread Owing (record (counted k rest) { table = after }) f
              (thread_at (code_text (compiled_with g all) (code_at k f)) t).instrs) (counted k rest))
          done (Fine n) q h = subst (λ (r : Progress). StepOwes g all (compiled_with g all) k (as_outcome r (counted k rest))) (sym q)
              (h.owe n q, λ i l. (subst (λ x. i < x) (sym (h.frames n q)) l, h.less n q i))
          done (Broken what x) q h = subst (λ (r : Progress). StepOwes g all (compiled_with g all) k (as_outcome r (counted k rest))) (sym q)
              (λ y z. h.no_skip x (q ∙ ap (λ (w : WildCause). Broken w x) (wild-eq z)))

  -- any choice
  chosen-owes : (what : Choice × List Item)
      → ((n : Machine) → chosen Plain (plain (compiled_with g all)) limits (unowed k) what ≡ Next n → IsFair g all n)
      → StepOwes g all (compiled_with g all) k (chosen Owing (compiled_with g all) limits k what)
  chosen-owes (Choose_quiet, rest) goes = λ x q. absurd cc
  chosen-owes (Choose_run, rest) goes = go (k.events == limits.budget) refl
    where
      go : (t : Bool) → (k.events == limits.budget) ≡ t → StepOwes g all (compiled_with g all) k (elim t [
        | true ↦ Ended (Budget_spent k.events) k
        | false ↦ run_next Owing (compiled_with g all) (counted k rest)
      ])
      go true e = λ x q. absurd cc
      go false e = run-owes rest (λ n q. goes n (rw (chosen, e) q))
  chosen-owes (Choose_delivery i, rest) goes = go (k.events == limits.budget)
    where
      at : (o : Option Message) → StepOwes g all (compiled_with g all) k (delivered_at Owing (compiled_with g all) limits (counted k rest) i o)
      at None = λ x q. absurd cc
      at (Some x) = message-owes g all (compiled_with g all) k owes (record (counted k rest) { pending = without_place i k.pending }) refl refl limits
          (all-counted g all parts facts)
          fair-here.free x

      go : (t : Bool) → StepOwes g all (compiled_with g all) k (elim t [
        | true ↦ Ended (Budget_spent k.events) k
        | false ↦ delivered_at Owing (compiled_with g all) limits (counted k rest) i (slice_get k.pending i)
      ])
      go true = λ x q. absurd cc
      go false = at (slice_get k.pending i)

  -- one event
  pub step-owes : StepOwes g all (compiled_with g all) k (step_of Owing (compiled_with g all) limits k)
  step-owes = chosen-owes (choice k.order (is_ready k.table) (length k.pending)) (λ n q. later n
      (ap (λ (t : Bool). chosen Plain (plain (compiled_with g all)) limits (unowed k) (choice k.order t (length k.pending))) (is_ready-bare k.table) ∙ q))

-- ---- events one after the other

-- the last of several
after-last : (step : Machine → Outcome Machine) (n : ℕ) (s k : Machine) → after_events step (suc n) s ≡ Next k
    → (j : Machine) × (after_events step n s ≡ Next j) × (step j ≡ Next k)
after-last step zero s k e = go (step s) refl e
  where
    go : (o : Outcome Machine) → step s ≡ o → and_then o (after_events step zero) ≡ Next k → (j : Machine) × (after_events step zero s ≡ Next j)
        × (step j ≡ Next k)
    go (Next j) q h = (s, refl, q ∙ h)
    go (Ended how j) q h = absurd (next-ended (sym h))
after-last step (suc n) s k e = go (step s) refl e (λ j h. after-last step n j k h)
  where
    go : (o : Outcome Machine) → step s ≡ o → and_then o (after_events step (suc n)) ≡ Next k
        → ((j : Machine) → after_events step (suc n) j ≡ Next k → (i : Machine) × (after_events step n j ≡ Next i) × (step i ≡ Next k))
        → (j : Machine) × (after_events step (suc n) s ≡ Next j) × (step j ≡ Next k)
    go (Next j) q h on = let r = on j h in (r.0, ap (λ o. and_then o (after_events step n)) q ∙ r.1, r.2)
    go (Ended how j) q h on = absurd (next-ended (sym h))

-- one more
after-more : (step : Machine → Outcome Machine) (n : ℕ) (s k : Machine) (o : Outcome Machine) → after_events step n s ≡ Next k → step k ≡ o
    → after_events step (suc n) s ≡ o
after-more step zero s k o e h = one (step s) ∙ (ap step (next-eq e) ∙ h)
  where
    one : (o : Outcome Machine) → and_then o (after_events step zero) ≡ o
    one (Next j) = refl
    one (Ended how j) = refl
after-more step (suc n) s k o e h = go (step s) refl e (λ j q. after-more step n j k o q h)
  where
    go : (r : Outcome Machine) → step s ≡ r → and_then r (after_events step n) ≡ Next k → ((j : Machine) → after_events step n j ≡ Next k
        → after_events step (suc n) j ≡ o)
        → after_events step (suc (suc n)) s ≡ o
    go (Next j) q a on = ap (λ r. and_then r (after_events step (suc n))) q ∙ on j a
    go (Ended how j) q a on = absurd (next-ended (sym a))

-- the event that ends a run
end-last : (step : Machine → Outcome Machine) (n : ℕ) (s k : Machine) (how : End) → after_events step n s ≡ Ended how k
    → (i : ℕ) × (j : Machine) × (after_events step i s ≡ Next j) × (step j ≡ Ended how k)
end-last step zero s k how e = absurd (next-ended e)
end-last step (suc n) s k how e = go (step s) refl e (λ j h. end-last step n j k how h)
  where
    go : (o : Outcome Machine) → step s ≡ o → and_then o (after_events step n) ≡ Ended how k
        → ((j : Machine) → after_events step n j ≡ Ended how k → (i : ℕ) × (l : Machine) × (after_events step i j ≡ Next l) × (step l ≡ Ended how k))
        → (i : ℕ) × (j : Machine) × (after_events step i s ≡ Next j) × (step j ≡ Ended how k)
    go (Next j) q h on = let r = on j h in (suc r.0, r.1, ap (λ o. and_then o (after_events step r.0)) q ∙ r.2, r.3)
    go (Ended what j) q h on = (0, s, refl, q ∙ h)

-- ---- the opening

module _ (g : Graph) (all : Partitions) (p : Program) (args : List ℕ) (order : List Item) (limits : Limits) where
  -- where nothing has begun none owes
  none-owe : AllOwe g all p (nothing_begun args order)
  none-owe i l = absurd (omega arith)

  opening-owes : IsCounted g all p → AllOwe g all p (thread_opening p args order)
  opening-owes each = go (begin p (nothing_begun args order) p.main outside 0) refl
    where
      go : (r : Progress) → begin p (nothing_begun args order) p.main outside 0 ≡ r → AllOwe g all p (or_machine (nothing_begun args order) r)
      go (Broken what n) e = none-owe
      go (Fine n) e =
          let start : Machine = with_fresh g all p (nothing_begun args order) none-owe (nothing_begun args order) refl refl limits refl p.main outside 0 in
          let a = put start 0 0 outside in
          let b = put a 0 1 0 in
          let a1 = first-thread p (nothing_begun args order) p.main outside 0 n refl e in
          let a2 = length-mapped (λ (t : Thread). t.count) (code_text p p.main).threads in
          (begun-owes g all p (nothing_begun args order) none-owe (nothing_begun args order) refl refl limits refl p.main outside 0 each
          (omega (arith, a1, a2)) n
          (machine-twice start b n (machine-twice start a b (put-goes start 0 0 outside) (put-goes a 0 1 0)) (spend-goes b n 0 0 e))).0

-- ---- the run

-- each state of the plain run is fair
abbrev pub StatesAreFair : Graph → Partitions → List ℕ → List Item → Limits → Type 0
StatesAreFair g all args order limits = (n : ℕ) (m : Machine) → IsAfter Plain (plain (compiled_with g all)) args order limits n m → IsFair g all m

module _ (g : Graph) (accepted : IsAccepted g) (all : Partitions) (parts : AreAllParts g all) (facts : CodeFacts g all) (args : List ℕ) (order : List Item)
    (limits : Limits)
    (states : StatesAreFair g all args order limits) where
  -- an event from a state of the run
  event-owes : (n : ℕ) (k : Machine) → IsAfter Owing (compiled_with g all) args order limits n k → AllOwe g all (compiled_with g all) k
      → IsFair g all k × StepOwes g all (compiled_with g all) k (step_of Owing (compiled_with g all) limits k)
  event-owes n k there owes =
      let r = owing-is-plain (compiled_with g all) args order limits n k there in
      let next = λ (x : Machine) (e : step_of Plain (plain (compiled_with g all)) limits r.0 ≡ Next x). states (suc n) x
      (after-more (step_of Plain (plain (compiled_with g all)) limits) n (thread_opening (plain (compiled_with g all)) args order) r.0 (Next x) r.1 e) in (
        fair-here g accepted all parts facts limits k r.0 r.2 (states n r.0 r.1) next owes,
        step-owes g accepted all parts facts limits k r.0 r.2
            (states n r.0 r.1) next owes,
      )

  -- each state owes what it should
  pub states-owe : (n : ℕ) (k : Machine) → IsAfter Owing (compiled_with g all) args order limits n k → AllOwe g all (compiled_with g all) k
  states-owe zero k e = subst (AllOwe g all (compiled_with g all)) (next-eq e)
      (opening-owes g all (compiled_with g all) args order limits (all-counted g all parts facts))
  states-owe (suc n) k e =
      let r = after-last (step_of Owing (compiled_with g all) limits) n (thread_opening (compiled_with g all) args order) k e in
      let o = states-owe n r.0 r.1 in
      (subst (StepOwes g all (compiled_with g all) r.0) r.2 (event-owes n r.0 r.1 o).1).0

  -- and what is known of it
  pub state-fair : (n : ℕ) (k : Machine) → IsAfter Owing (compiled_with g all) args order limits n k → IsFair g all k
  state-fair n k e = (event-owes n k e (states-owe n k e)).0

  -- no skip is wild
  pub none-wild : (n : ℕ) (how : End) (k : Machine) → EndsWithin Owing (compiled_with g all) args order limits n how k → (x : ℕ) → how ≡ Wild Wild_skip x → ⊥
  none-wild n how k e =
      let r = end-last (step_of Owing (compiled_with g all) limits) n (thread_opening (compiled_with g all) args order) k how e in
      subst (StepOwes g all (compiled_with g all) r.1) r.3 (event-owes r.0 r.1 r.2 (states-owe r.0 r.1 r.2)).1

  -- a frame that owes nothing owes nothing later
  pub done-later : (n later : ℕ) (m k : Machine) (f : ℕ) → IsAfter Owing (compiled_with g all) args order limits n m → f < length m.table.frames
      → (frame_at m.table f).owed ≡ 0 → IsAfter Owing (compiled_with g all) args order limits (n + later) k
      → (f < length k.table.frames) × ((frame_at k.table f).owed ≡ 0)
  done-later n zero m k f a l z b =
      let e : m ≡ k = next-eq (sym a ∙ subst (λ x. IsAfter Owing (compiled_with g all) args order limits x k) (let q : n + 0 ≡ n = omega arith in q) b) in
      (subst (λ (y : Machine). f < length y.table.frames) e l, subst (λ (y : Machine). (frame_at y.table f).owed ≡ 0) e z)
  done-later n (suc later) m k f a l z b =
      let q : n + suc later ≡ suc (n + later) = omega arith in
      let r = after-last (step_of Owing (compiled_with g all) limits) (n + later) (thread_opening (compiled_with g all) args order) k
      (subst (λ x. IsAfter Owing (compiled_with g all) args order limits x k) q b) in
      let i = done-later n later m r.0 f a l z r.1 in
      let s = (subst (StepOwes g all (compiled_with g all) r.0) r.2 (event-owes (n + later) r.0 r.1 (states-owe (n + later) r.0 r.1)).1).1 f i.0 in
      (s.0, let w = s.1 in let y = i.1 in omega (arith, w, y))

  -- a frame that owes nothing is left alone
  pub left-alone : (n : ℕ) (k : Machine) (f : ℕ) → IsAfter Owing (compiled_with g all) args order limits n k → f < length k.table.frames
      → (frame_at k.table f).owed ≡ 0 → IsLeftAlone k f
  left-alone n k f a l z = record { unnamed = λ i. unnamed (contains-in (names_of k) f i); at_rest = none (frame_at k.table f).ready refl }
    where
      owes : FrameOwes g all (compiled_with g all) (code_at k f) k.table f
      owes = states-owe n k a f l

      fair : IsFair g all k
      fair = state-fair n k a

      -- each of its threads is gone
      gone : (t : ℕ) → t < length (code_text (compiled_with g all) (code_at k f)).threads → In t owes.gone
      gone = all-gone (length (code_text (compiled_with g all) (code_at k f)).threads) owes.gone owes.once owes.low (let s = owes.sum in omega (arith, s, z))

      kind-low : (u : ThreadKind) → IsThread (code_of g (code_at k f)) (parts_for all (code_at k f)) u
          → number_of_thread (code_of g (code_at k f)) (parts_for all (code_at k f)) u < length (code_text (compiled_with g all) (code_at k f)).threads
      kind-low u h = subst (λ x. number_of_thread (code_of g (code_at k f)) (parts_for all (code_at k f)) u < x)
          (plain-many (compiled_with g all) (code_at k f))
          ((facts.texts (code_at k f) (fair.codes f l)).number_below u h)

      none : (ts : List ℕ) → (frame_at k.table f).ready ≡ ts → (frame_at k.table f).ready ≡ []
      none [] e = e
      none (t ∷ ts) e =
          let was : In t (frame_at k.table f).ready = subst (In t) (sym e) (inl refl) in
          let r = fair.ready f t was in
          absurd (elim (owes.why t (gone t (subst (λ x. x < length (code_text (compiled_with g all) (code_at k f)).threads) r.1.2 (kind-low r.1.0 r.1.1)))) [
            | inl x ↦ x.not_ready was
            | inr d ↦ zero-alive g all k fair f l t r.0 d
          ])

      inside : f ≢ outside
      inside e = let w = fair.few in absurd (omega (arith, w, l, e))

      unnamed : In f (names_of k) → ⊥
      unnamed i =
          let w = fair.waits f i inside in
          let t = number_of_thread (code_of g (code_at k f)) (parts_for all (code_at k f)) w.1.0 in
          elim (owes.why t (gone t (kind-low w.1.0 w.1.1))) [
            | inl x ↦ w.1.2 x.zero_left
            | inr d ↦ dead-out g all k fair f l t d (subst (λ u. has_entered fair.state.world f (home (code_of g (code_at k f)) u) ≡ true)
                (sym ((facts.texts (code_at k f) (fair.codes f l)).number_one d.kind w.1.0 d.thread w.1.1 d.number)) w.1.3)
          ]

-- ---- the laws

-- what is supposed of plain runs, and shown of them in `Fair`
abbrev pub PlainRunsAreFair : Type 0
PlainRunsAreFair = (g : Graph) (args : List ℕ) (order : List Item) (limits : Limits) → IsJob g args limits → StatesAreFair g (partitions g) args order limits

-- in the run of an accepted graph's code no skip is wild
pub none-wild-if_fair : PlainRunsAreFair → NoSkipIsWild
none-wild-if_fair fair g args order limits n how m job e x q =
    none-wild g job.accepted (partitions g) (partitions-parts g job.accepted) (code-facts g job.accepted) args order limits (fair g args order limits job) n
    how m
    (subst (λ (p : Program). EndsWithin Owing p args order limits n how m) (compiled-is g) e) x q

-- and a frame that owes nothing is left alone
pub done-if_fair : PlainRunsAreFair → DoneIsDone
done-if_fair fair g args order limits n later m k f job a l z b =
    let on = λ (i : ℕ) (y : Machine) (h : IsAfter Owing (compiled g) args order limits i y).
    subst (λ (p : Program). IsAfter Owing p args order limits i y) (compiled-is g) h in
    let r = done-later g job.accepted (partitions g) (partitions-parts g job.accepted) (code-facts g job.accepted) args order limits
    (fair g args order limits job)
    n later m k f (on n m a) l z (on (n + later) k b) in (
      r.1,
      left-alone g job.accepted (partitions g) (partitions-parts g job.accepted) (code-facts g job.accepted) args order limits (fair g args order limits job)
          (n + later) k f (on (n + later) k b) r.0 r.1,
    )
