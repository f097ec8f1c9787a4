-- What the events of a plain run are charged to: at most three to one instance that the state tells of, and one to the root's thread 0. So the laws on
-- the states and on the ends of plain runs hold.
use Rattle.std.proofs.Common.{◌≡◌, ℕ, zero, suc, ◌+◌, ◌≤◌, Bool, true, false, not, List, [], ◌∷◌, ◌++◌, filter, Some, slice_get, length}
use Rattle.std.proofs.Common.{refl, sym, subst, ◌∙◌, inl, inr, ◌⊎◌, arith, true≢false}
use Rattle.tam_word.specs.Lists.{has}
use Rattle.tam_word.proofs.Tests.{both-true, not-true}
use Rattle.tam_word.proofs.Members.{In, Distinct, in-append, in-filter, distinct-filter, in-any, in-has}
use Rattle.tam_word.proofs.Tests.{true-both, self-eq}
use Rattle.tam_msgs.specs.declared.message.Message.{Message}
use Rattle.tam_graph.specs.Graphs.{Graph}
use Rattle.tam_graph.specs.declared.kind.Kind.TheVariants.{Switch as Choose}
use Rattle.tam_split.specs.GraphPartitions.{partitions}
use Rattle.tam_fire.specs.FiringRules.{Instance}
use Rattle.tam_flow.specs.Journals.{State, Event, state_after, has_run, may_arrive}
use Rattle.tam_flow.specs.JournalLaws.{IsJournal}
use Rattle.tam_flow.specs.Reached.{IsReached, kind_of}
use Rattle.tam_flow.specs.RunJournals.{IsCharged}
use Rattle.tam_flow.proofs.DeliveredOnce.{once-journal}
use Rattle.tam_flow.proofs.JournalsReached.{journals-reached}
use Rattle.tam_flow.proofs.KeptJournals.{kept-journal}
use Rattle.tam_flow.proofs.KeptRuns.{IsKeptState}
use Rattle.tam_flow.proofs.OutsideWords.{IsOutState, out-journal}
use Rattle.tam_flow.proofs.SentOnce.{HasFired, IsOnceState}
use Rattle.tam_flow.proofs.SoundStates.{IsSoundState, sound-journal}
use Rattle.tam_flow.proofs.WordSources.{IsWordState}
use Rattle.tam_flow.proofs.WordsOnce.{words-journal, one-word-each}
use Rattle.tl0_code.specs.Machines.{Machine}
use Rattle.tl0_keep.specs.ThreadLaws.{PlainStatesAreJournals, PlainEndsAreJournals, JournalsAreTheRuns}
use Rattle.tl0_keep.proofs.code.DistinctLists.{distinct-append}
use Rattle.tl0_keep.proofs.code.Facts.{code-facts}
use Rattle.tl0_keep.proofs.code.RisingClasses.{partitions-parts}
use Rattle.tl0_keep.proofs.code.ThreadKinds.{ThreadKind, Entry, Class, Then_of, Else_of}
use Rattle.tl0_keep.proofs.class_run.Stands.{switch-stands}
use Rattle.tl0_keep.proofs.runs.Keeps.{Rests}
use Rattle.tl0_keep.proofs.runs.ClassGoals.{OthersAre, IsAsking}
use Rattle.tl0_keep.proofs.runs.Spending.{distinct-within}
use Rattle.tl0_keep.proofs.runs.Tallies.{halves, Picked, pick, three-to-one}
use Rattle.tl0_keep.proofs.runs.EventsOnce.{AreOnce, once-all}
use Rattle.tl0_keep.proofs.runs.ChargedClasses.{OfClass, class-charged, classes-apart}
use Rattle.tl0_keep.proofs.runs.ChargedOthers.{OfMessage, message-charged, asking-charged, messages-apart, message-told, message-else, ThenFrom, ElseFrom}
use Rattle.tl0_keep.proofs.runs.ChargedOthers.{entry-charged, then-charged, else-charged, thens-apart, elses-apart, then-told, else-told}
use Rattle.tl0_keep.proofs.runs.PlainRuns.{ChargesHold, plain-states-law, plain-ends-law, own-journals-law}

-- the root's thread 0
abbrev is_root : ℕ × ThreadKind → Bool
is_root (zero, Entry) = true
is_root _ = false

-- an else connector
abbrev is_else : ℕ × ThreadKind → Bool
is_else (i, Else_of x) = true
is_else _ = false

-- the root's thread 0 is one
root-is : (p : ℕ × ThreadKind) → is_root p ≡ true → p ≡ (0, Entry)
root-is (zero, Entry) h = refl
root-is (suc i, Entry) h = absurd (true≢false (sym h))
root-is (zero, Class b k) h = absurd (true≢false (sym h))
root-is (suc i, Class b k) h = absurd (true≢false (sym h))
root-is (zero, Then_of x) h = absurd (true≢false (sym h))
root-is (suc i, Then_of x) h = absurd (true≢false (sym h))
root-is (zero, Else_of x) h = absurd (true≢false (sym h))
root-is (suc i, Else_of x) h = absurd (true≢false (sym h))

-- so of different threads it is one at most
one-root : (ps : List (ℕ × ThreadKind)) → Distinct ps → length (filter is_root ps) ≤ 1
one-root ps d = distinct-within (filter is_root ps) ((0, Entry) ∷ []) (distinct-filter is_root ps d)
    (λ p i. inl (sym (root-is p (in-filter is_root p ps i).1)))

module _ (g : Graph) (args : List ℕ) (events : List Event) (journal : IsJournal g (partitions g) args events) (m : Machine) (others : List (ℕ × ThreadKind))
    (rests : Rests g (partitions g) m (state_after g (partitions g) args events) others) (others_once : Distinct others)
    (others_are : OthersAre g (partitions g) (state_after g (partitions g) args events) others) where
  -- the journal's state, and what it is known to be
  abbrev s : State
  s = state_after g (partitions g) args events

  sound : IsSoundState g args (state_after g (partitions g) args events)
  sound = sound-journal g (partitions g) args events journal

  once : IsOnceState g args (partitions g) (state_after g (partitions g) args events)
  once = once-journal g (partitions g) args events journal

  words : IsWordState g (partitions g) (state_after g (partitions g) args events)
  words = words-journal g (partitions g) args events journal

  state : IsKeptState g (partitions g) (state_after g (partitions g) args events)
  state = kept-journal g (partitions g) args events journal (one-word-each g (partitions g) args events journal)

  reached : IsReached g (partitions g) args (state_after g (partitions g) args events)
  reached = journals-reached g (partitions g) args events journal

  out : IsOutState g args (partitions g) (state_after g (partitions g) args events)
  out = out-journal g (partitions g) args events journal

  stands : (i y d k a : ℕ) → HasFired g (partitions g) s i y → kind_of g s.world i y ≡ Choose d k a → HasFired g (partitions g) s i d
  stands = switch-stands g journal.accepted journal.valid (code-facts g journal.accepted) args s reached m others rests.keeps

  events-once : AreOnce (state_after g (partitions g) args events)
  events-once = once-all g (partitions g) args events journal.legal

  -- what is charged to what
  abbrev ByClass : ℕ × ℕ × ℕ → Instance → Type 0
  ByClass r y = OfClass g args journal.accepted journal.valid s sound state reached r y

  abbrev ByMessage : ℕ → Instance → Type 0
  ByMessage n y = OfMessage g args journal.accepted journal.valid (code-facts g journal.accepted) (partitions-parts g journal.accepted) s sound once words
      state reached
      out stands m others rests.keeps others_are n y

  abbrev ByThen : ℕ × ThreadKind → Instance → Type 0
  ByThen p y = ThenFrom g args journal.accepted journal.valid (code-facts g journal.accepted) (partitions-parts g journal.accepted) s sound once words state
      reached
      out stands m others rests.keeps others_are p.0 p.1 y

  abbrev ByElse : ℕ × ThreadKind → Instance → Type 0
  ByElse p y = ElseFrom g args journal.accepted journal.valid (code-facts g journal.accepted) (partitions-parts g journal.accepted) s sound once words state
      reached
      out stands m others rests.keeps others_are p.0 p.1 y

  -- the else connectors, and the others but the root's thread 0
  abbrev elses : List (ℕ × ThreadKind)
  elses = filter is_else others

  abbrev no_elses : List (ℕ × ThreadKind)
  no_elses = filter (λ p. not (is_else p)) others

  abbrev thens : List (ℕ × ThreadKind)
  thens = filter (λ p. not (is_root p)) no_elses

  others-many : length others ≤ length elses + length thens + 1
  others-many =
      let a = halves is_else others in
      let b = halves is_root no_elses in
      let c = one-root no_elses (distinct-filter (λ p. not (is_else p)) others others_once) in
      omega arith

  -- what they pick
  classes : Picked ByClass s.ran
  classes = pick ByClass s.ran events-once.runs
      (λ r i. class-charged g args journal.accepted journal.valid s sound state reached r.0 r.1 r.2 (been r i))
      (λ r t y. classes-apart g args journal.accepted journal.valid s sound state reached r t y)
    where
      been : (r : ℕ × ℕ × ℕ) → In r s.ran → has_run s r.0 r.1 r.2 ≡ true
      been r i = in-any _ s.ran r i (true-both _ _ (self-eq r.0) (true-both _ _ (self-eq r.1) (self-eq r.2)))

  messages : (ns : List ℕ) → Distinct ns → ((n : ℕ) → In n ns → (y : Instance) × ByMessage n y) → Picked ByMessage ns
  messages ns d f = pick ByMessage ns d f
      (messages-apart g args journal.accepted journal.valid (code-facts g journal.accepted) (partitions-parts g journal.accepted) s sound once words state
      reached
      out stands m others rests.keeps others_are)

  then-picks : Picked ByThen thens
  then-picks = pick ByThen thens
      (distinct-filter (λ p. not (is_root p)) no_elses (distinct-filter (λ p. not (is_else p)) others others_once))
      (λ p i.
      let a = in-filter (λ p. not (is_root p)) p no_elses i in
      let b = in-filter (λ p. not (is_else p)) p others a.0 in
      each p.0 p.1 b.0 (not-true (is_else p) b.1) (not-true (is_root p) a.1))
      (λ p q y. thens-apart g args journal.accepted journal.valid (code-facts g journal.accepted) (partitions-parts g journal.accepted) s sound once words state
      reached out stands m others rests.keeps others_are p.0 q.0 p.1 q.1 y)
    where
      each : (i : ℕ) (n : ThreadKind) → In (i, n) others → is_else (i, n) ≡ false → is_root (i, n) ≡ false → (y : Instance) × ByThen (i, n) y
      each zero Entry h a b = absurd (true≢false b)
      each (suc i) Entry h a b = entry-charged g args journal.accepted journal.valid (code-facts g journal.accepted) (partitions-parts g journal.accepted) s
          sound
          once words state reached out stands m others rests.keeps others_are (suc i) (omega arith) h
      each i (Class c k) h a b = absurd (others_are i (Class c k) h).0
      each i (Then_of x) h a b = then-charged g args journal.accepted journal.valid (code-facts g journal.accepted) (partitions-parts g journal.accepted) s
          sound
          once words state reached out stands m others rests.keeps others_are i x h
      each i (Else_of x) h a b = absurd (true≢false a)

  else-picks : Picked ByElse elses
  else-picks = pick ByElse elses (distinct-filter is_else others others_once)
      (λ p i. let a = in-filter is_else p others i in each p.0 p.1 a.0 a.1)
      (λ p q y. elses-apart g args journal.accepted journal.valid (code-facts g journal.accepted) (partitions-parts g journal.accepted) s sound once words state
      reached out stands m others rests.keeps others_are p.0 q.0 p.1 q.1 y)
    where
      each : (i : ℕ) (n : ThreadKind) → In (i, n) others → is_else (i, n) ≡ true → (y : Instance) × ByElse (i, n) y
      each i (Else_of x) h a = else-charged g args journal.accepted journal.valid (code-facts g journal.accepted) (partitions-parts g journal.accepted) s sound
          once words state reached out stands m others rests.keeps others_are i x h
      each i Entry h a = absurd (true≢false (sym a))
      each i (Class c k) h a = absurd (true≢false (sym a))
      each i (Then_of x) h a = absurd (true≢false (sym a))

  -- with these messages
  charged-with : (ns : List ℕ) → Distinct ns → ((n : ℕ) → In n ns → (y : Instance) × ByMessage n y)
      → IsCharged g (partitions g) s (length s.ran + length others + length ns)
  charged-with ns d f = go (messages ns d f) classes then-picks else-picks
    where
      go : Picked ByMessage ns → Picked ByClass s.ran → Picked ByThen thens → Picked ByElse elses
          → IsCharged g (partitions g) s (length s.ran + length others + length ns)
      go ms cs ts es = three-to-one g (partitions g) s (length s.ran + length others + length ns) cs.picks (ms.picks ++ es.picks) ts.picks cs.once
          (distinct-append ms.picks es.picks ms.once es.once (λ y a b.
          let p = ms.from y a in
          let q = es.from y b in
          message-else g args journal.accepted journal.valid (code-facts g journal.accepted) (partitions-parts g journal.accepted) s sound once words state
          reached out stands m others rests.keeps others_are p.0 q.0.0 q.0.1 y p.2 q.2))
          ts.once
          (λ y i. (cs.from y i).2.active)
          (λ y i. elim (in-append y ms.picks es.picks i) [
            | inl a ↦ (let p = ms.from y a in message-told g args journal.accepted journal.valid (code-facts g journal.accepted)
                (partitions-parts g journal.accepted) s sound once words state reached out stands m others rests.keeps others_are p.0 y p.2)
            | inr b ↦ (let q = es.from y b in else-told g args journal.accepted journal.valid (code-facts g journal.accepted)
                (partitions-parts g journal.accepted) s sound once words state reached out stands m others rests.keeps others_are q.0.0 q.0.1 y q.2)
          ])
          (λ y i. let q = ts.from y i in then-told g args journal.accepted journal.valid (code-facts g journal.accepted)
          (partitions-parts g journal.accepted) s sound once words state reached out stands m others rests.keeps others_are q.0.0 q.0.1 y q.2)
          (let a = ms.size in let b = cs.size in let c = ts.size in let e = es.size in let o = others-many in
          let l = both ms.picks es.picks in omega arith)
        where
          both : (xs ys : List Instance) → length (xs ++ ys) ≡ length xs + length ys
          both [] ys = omega arith
          both (x ∷ xs) ys = let e = both xs ys in omega arith

  -- a message that arrived
  arrived-charged : (n : ℕ) → In n s.arrived → (y : Instance) × ByMessage n y
  arrived-charged n i = message-charged g args journal.accepted journal.valid (code-facts g journal.accepted) (partitions-parts g journal.accepted) s sound
      once words
      state reached out stands m others rests.keeps others_are n (in-has s.arrived n i)

  -- so all events are charged, with a message on its way that asks
  all-charged : (extra : ℕ)
      → (extra ≡ 0) ⊎ ((extra ≡ 1) × ((n : ℕ) × ((q : Message) × ((may_arrive s n ≡ true) × (slice_get s.sent n ≡ Some q) × IsAsking q))))
      → IsCharged g (partitions g) s (length s.ran + length others + length s.arrived + extra)
  all-charged extra (inl e) = subst (IsCharged g (partitions g) s) (omega arith) (charged-with s.arrived events-once.deliveries arrived-charged)
  all-charged extra (inr (e, (n, (q, (may, sent, asks))))) = subst (IsCharged g (partitions g) s) size
      (charged-with (n ∷ s.arrived) (new, events-once.deliveries) each)
    where
      new : In n s.arrived → ⊥
      new i = true≢false (sym (in-has s.arrived n i) ∙ not-true (has s.arrived n) (both-true _ (not (has s.arrived n)) may).1)

      size : length s.ran + length others + suc (length s.arrived) ≡ length s.ran + length others + length s.arrived + extra
      size = omega arith

      each : (k : ℕ) → In k (n ∷ s.arrived) → (y : Instance) × ByMessage k y
      each k (inl p) = subst (λ z. (y : Instance) × ByMessage z y) p (asking-charged g args journal.accepted journal.valid (code-facts g journal.accepted)
          (partitions-parts g journal.accepted) s sound once words state reached out stands m others rests.keeps others_are n q sent asks)
      each k (inr i) = arrived-charged k i

-- events are charged
pub charges-hold : ChargesHold
charges-hold g args events journal m others rests once are extra h = all-charged g args events journal m others rests once are extra h

-- each state of the plain run has a journal
pub plain-states-are-journals : PlainStatesAreJournals
plain-states-are-journals = plain-states-law charges-hold

-- and so has each end
pub plain-ends-are-journals : PlainEndsAreJournals
plain-ends-are-journals = plain-ends-law charges-hold

-- by the events of the run
pub journals-are-the-runs : JournalsAreTheRuns
journals-are-the-runs = own-journals-law charges-hold
