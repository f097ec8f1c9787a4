-- The words that a thread sends are values, where its run extends the journal by runs of classes: the answer to each call that began was sent before.
use Rattle.std.proofs.Common.{◌≡◌, ◌≢◌, ℕ, zero, suc, ◌+◌, ◌≤◌, Bool, true, false, List, [], ◌∷◌, ◌++◌, map, length, Option, Some, None, slice_get, slice_index}
use Rattle.std.proofs.Common.{refl, ap, ap₂, sym, ◌∙◌, subst, arith, inl, inr}
use Rattle.std.proofs.lemmas.Option.{slice_get_within}
use Rattle.std.proofs.lemmas.List.{length-map}
use Rattle.tam_word.specs.Lists.{has}
use Rattle.tam_word.proofs.Members.{get-append}
use Rattle.tam_graph.specs.declared.kind.Kind.TheVariants.{Call}
use Rattle.tam_graph.specs.Graphs.{Graph, code_of, kind_at}
use Rattle.tam_split.specs.GraphPartitions.{partitions}
use Rattle.tam_msgs.specs.declared.item.Item.{Item}
use Rattle.tam_msgs.specs.declared.message.Message.{Message}
use Rattle.tam_msgs.specs.declared.message.Message.TheVariants.{Word as Carry, Frame as Begin, Cells as Make, Fetch as Ask_cell, Store as Put_cell}
use Rattle.tam_msgs.specs.Messages.{outside}
use Rattle.tam_msgs.specs.Runs.{End, Outcome, Next, Ended, choice, and_then, after_events}
use Rattle.tam_world.specs.Worlds.{World, activation_at, its_code}
use Rattle.tam_flow.specs.Journals.{State, state_after, initial, on_their_way}
use Rattle.tam_flow.specs.Reached.{IsThere}
use Rattle.tam_flow.proofs.JournalsReached.{journals-reached}
use Rattle.tam_flow.proofs.Arriving.{arrived-journal}
use Rattle.tam_flow.proofs.OnTheWay.{way_from, way-is, way-sent}
use Rattle.frame_tables.specs.FrameTables.{Frame, FrameTable, or_frame, frame_at, current_of, is_ready, is_ready_of}
use Rattle.tl0_code.specs.ThreadCode.{plain}
use Rattle.tl0_code.specs.Machines.{Machine, Plain, Owing}
use Rattle.tl0_code.specs.ThreadRuns.{step_of, thread_opening}
use Rattle.tl0_keep.specs.Compiled.{compiled}
use Rattle.tl0_keep.specs.Renamed.{number_inlets}
use Rattle.tl0_keep.specs.ThreadNames.{thread_message, inlet_at}
use Rattle.tl0_keep.specs.ThreadLaws.{IsAfter, OwingIsPlain, RunExtends, PlainRunsExtend, without_owed, table_without_owed}
use Rattle.tl0_keep.proofs.giving.Places.{get-before, in-contains}
use Rattle.tl0_keep.proofs.giving.Beside.{code_in}
use Rattle.tl0_keep.proofs.giving.Parts.{IsValue}
use Rattle.tl0_keep.proofs.giving.NamedTexts.{map-get}
use Rattle.tl0_keep.proofs.giving.NamesHold.{ThreadsSendValues}
use Rattle.tl0_keep.proofs.giving.Said.{code-listed, inlet-call, by-inlet, code-there}
use Rattle.tl0_keep.proofs.giving.Answered.{RunsOn, runs-on, answered, state-append}

-- what stands behind the first list stands at its place in the second
get-shifted : (xs ys : List Message) (j : ℕ) → slice_get (xs ++ ys) (length xs + j) ≡ slice_get ys j
get-shifted [] ys j = let e : 0 + j ≡ j = omega arith in rw e refl
get-shifted (x ∷ xs) ys j = let e : suc (length xs) + j ≡ suc (length xs + j) = omega arith in ap (slice_get (x ∷ xs ++ ys)) e ∙ get-shifted xs ys j

-- a message that threads send as a word is one
word-told : (g : Graph) (w : World) (m : Message) (f i v : ℕ) → thread_message g w m ≡ Carry f i v → (x : ℕ) × (m ≡ Carry f x v) × (inlet_at g w f x ≡ i)
word-told g w (Carry j x u) f i v e =
    let a : j ≡ f = cc in
    let b : u ≡ v = cc in
    let c : inlet_at g w j x ≡ i = cc in
    (x, ap₂ (λ y z. Carry y x z) a b, subst (λ y. inlet_at g w y x ≡ i) a c)
word-told g w (Begin c j x) f i v e = absurd cc
word-told g w (Make n j x) f i v e = absurd cc
word-told g w (Ask_cell a l j x t) f i v e = absurd cc
word-told g w (Put_cell a l u t) f i v e = absurd cc

module _ (g : Graph) (args : List ℕ) (k k2 : Machine) (h : RunExtends g args k k2) where
  -- the states behind the journals
  abbrev s : State
  s = state_after g (partitions g) args h.events

  abbrev t : State
  t = state_after g (partitions g) args (h.events ++ h.runs)

  -- what the runs leave
  on : RunsOn s t
  on = subst (RunsOn s) (sym (state-append g (partitions g) h.events h.runs (initial g args)))
      (runs-on g (partitions g) h.runs (λ e i. h.all_runs e (in-contains h.runs e i)) s)

  -- messages come behind those on their way
  way-more : on_their_way t ≡ on_their_way s ++ on.more
  way-more = way-is t ∙ (ap₂ (λ a l. way_from a 0 l) on.arrived on.sent
      ∙ (way-sent s.arrived s.sent on.more (λ n q. (arrived-journal g (partitions g) args h.events h.journal).sent_before n q)
      ∙ ap (λ (l : List Message). l ++ on.more) (sym (way-is s))))

  -- a place behind the messages before is one of those that were sent since
  sent-since : (i : ℕ) (m : Message) → length k.pending ≤ i → slice_get (on_their_way t) i ≡ Some m
      → (j : ℕ) × (slice_get t.sent (length s.sent + j) ≡ Some m)
  sent-since i m l e = elim (get-append (on_their_way s) on.more i m (ap (λ (x : List Message). slice_get x i) (sym way-more) ∙ e)) [
    | inl q ↦ absurd (
        let a = slice_get_within (on_their_way s) i m q in
        let b : length k.pending ≡ length (on_their_way s) = ap (λ (x : List Message). length x) (sym h.shares.pending) ∙ length-map (on_their_way s)
        (thread_message g s.world) in
        omega arith)
    | inr q ↦ (q.0, ap (λ (x : List Message). slice_get x (length s.sent + q.0)) on.sent ∙ (get-shifted s.sent on.more q.0 ∙ q.2))
  ]

  -- such a message is no answer to a call
  no-answer : (f x v j : ℕ) → slice_get t.sent (length s.sent + j) ≡ Some (Carry f x v) → f ≢ outside → (c : ℕ) → kind_at (its_code g t.world f) x ≡ Call c → ⊥
  no-answer f x v j e d c kind =
      let reached = journals-reached g (partitions g) args (h.events ++ h.runs) h.longer in
      let suits = (reached.messages.receivers (length s.sent + j) f x v e d).1.by_call c kind in
      let there : IsThere s.world v = let a = suits.1 in let b = on.calls.size in omega arith in
      let a = answered g (partitions g) args h.events v suits.0 there in
      let keys = on.calls.keys v in
      let caller : (activation_at s.world v).caller ≡ f = ap (λ (q : ℕ × ℕ). q.0) (sym keys) ∙ suits.2 in
      let call : (activation_at s.world v).call ≡ x = ap (λ (q : ℕ × ℕ). q.1) (sym keys) ∙ suits.3 in
      let before = slice_get_within s.sent a.0 _ a.1 in
      let still : slice_get t.sent a.0 ≡ Some (Carry f x v) =
      ap (λ (l : List Message). slice_get l a.0) on.sent ∙ (get-before s.sent on.more a.0 before
      ∙ (a.1 ∙ ap₂ (λ y z. Some (Carry y z v)) caller call)) in
      let same = reached.once.one_word a.0 (length s.sent + j) f x v v d still e in
      omega arith

  -- so each word behind is a value
  value-behind : (codes : List ℕ) → ((f : ℕ) → code_in g codes f ≡ its_code g t.world f) → (i : ℕ) (x : Message) → length k.pending ≤ i
      → slice_get k2.pending i ≡ Some x → IsValue g codes x
  value-behind codes listed i x l e =
      let r = map-get (thread_message g t.world) (on_their_way t) i x (ap (λ (y : List Message). slice_get y i) h.shares_then.pending ∙ e) in
      go x r.0 (sent-since i r.0 l r.1) r.2
    where
      go : (y m : Message) → (j : ℕ) × (slice_get t.sent (length s.sent + j) ≡ Some m) → thread_message g t.world m ≡ y → IsValue g codes y
      go (Carry f p v) m q z = λ d.
          let w = word-told g t.world m f p v z in
          let at : slice_get t.sent (length s.sent + q.0) ≡ Some (Carry f w.0 v) = q.1 ∙ ap Some w.1 in
          let reached = journals-reached g (partitions g) args (h.events ++ h.runs) h.longer in
          let there = (reached.messages.receivers (length s.sent + q.0) f w.0 v at d).0 in
          by (has (number_inlets g (code_in g codes f)) p) refl f p v q.0 w.0 w.2 at d there
        where
          by : (b : Bool) → has (number_inlets g (code_in g codes f)) p ≡ b → (f2 p2 v2 j x2 : ℕ) → inlet_at g t.world f x2 ≡ p
              → slice_get t.sent (length s.sent + j) ≡ Some (Carry f x2 v) → f ≢ outside → IsThere t.world f → has
              (number_inlets g (code_in g codes f)) p ≡ false
          by false b f2 p2 v2 j x2 inlet at d there = b
          by true b f2 p2 v2 j x2 inlet at d there =
              let c = inlet-call g h.longer.accepted (activation_at t.world f).code (code-there g args (h.events ++ h.runs) h.longer f there) x2
              (by-inlet g args (h.events ++ h.runs) h.longer codes listed f x2 true there
              (subst (λ y. has (number_inlets g (code_in g codes f)) y ≡ true) (sym inlet) b)) in
              absurd (no-answer f x2 v j at d c.0 c.1)
      go (Begin c f p) m q z = tt
      go (Make n f p) m q z = tt
      go (Ask_cell a l2 f p u) m q z = tt
      go (Put_cell a l2 v u) m q z = tt

-- ---- the run in which frames owe

-- what goes on after no event is that
then-none : (step : Machine → Outcome Machine) (o : Outcome Machine) → and_then o (after_events step 0) ≡ o
then-none step (Next k) = refl
then-none step (Ended how k) = refl

next-eq : {k m : Machine} → Next k ≡ Next m → k ≡ m
next-eq e = cc

ended-next : {how : End} {k m : Machine} → Ended how k ≡ Next m → ⊥
ended-next e = cc

-- one event more is one step more
after-step : (step : Machine → Outcome Machine) (n : ℕ) (s k : Machine) → after_events step n s ≡ Next k → after_events step (suc n) s ≡ step k
after-step step zero s k e = then-none step (step s) ∙ ap step (next-eq e)
after-step step (suc n) s k e = go (step s) refl e (λ d q. after-step step n d k q)
  where
    go : (o : Outcome Machine) → step s ≡ o → and_then o (after_events step n) ≡ Next k
        → ((d : Machine) → after_events step n d ≡ Next k → after_events step (suc n) d ≡ step k) → after_events step (suc (suc n)) s ≡ step k
    go (Ended how d) q r on = absurd (ended-next r)
    go (Next d) q r on = ap (λ o. and_then o (after_events step (suc n))) q ∙ on d r

-- the ready threads don't depend on what is owed
ready-frame : (hs : List (Option Frame)) (f : ℕ) → (or_frame (slice_get (map without_owed hs) f)).ready ≡ (or_frame (slice_get hs f)).ready
ready-frame [] f = refl
ready-frame (None ∷ hs) zero = refl
ready-frame (Some h ∷ hs) zero = refl
ready-frame (None ∷ hs) (suc f) = ready-frame hs f
ready-frame (Some h ∷ hs) (suc f) = ready-frame hs f

current-frame : (s : FrameTable) (c : Option ℕ) → current_of (table_without_owed s) c ≡ current_of s c
current-frame s None = refl
current-frame s (Some f) = by (or_frame (slice_get (map without_owed s.frames) f)).ready (frame_at s f).ready (ready-frame s.frames f)
  where
    by : (a b : List ℕ) → a ≡ b → ◌≡◌ {A = Option ℕ} (elim a [ [] ↦ None | t ∷ ts ↦ Some f ]) (elim b [ [] ↦ None | t ∷ ts ↦ Some f ])
    by a b e = ap (λ (l : List ℕ). elim l [ [] ↦ None | t ∷ ts ↦ Some f ]) e

ready-same : (s : FrameTable) → is_ready (table_without_owed s) ≡ is_ready s
ready-same s = ap (λ c. is_ready_of c s.queue) (current-frame s s.current)

-- so the words that a thread sends are values
pub threads-send-values : OwingIsPlain → PlainRunsExtend → ThreadsSendValues
threads-send-values owing extend g args order limits n k k2 job after step run =
    let a = owing (compiled g) args order limits n k after in
    let next : IsAfter Owing (compiled g) args order limits (suc n) k2 =
    after-step (step_of Owing (compiled g) limits) n (thread_opening (compiled g) args order) k after ∙ step in
    let b = owing (compiled g) args order limits (suc n) k2 next in
    let plain_step : step_of Plain (plain (compiled g)) limits a.0 ≡ Next b.0 =
    sym (after-step (step_of Plain (plain (compiled g)) limits) n (thread_opening (plain (compiled g)) args order) a.0 a.1) ∙ b.1 in
    let ready : is_ready k.table ≡ is_ready a.0.table =
    sym (ready-same k.table) ∙ (ap (λ (y : Machine). is_ready y.table) a.2 ∙ ready-same a.0.table) in
    let pending : k.pending ≡ a.0.pending = ap (λ (y : Machine). y.pending) a.2 in
    let same : choice k.order (is_ready k.table) (length k.pending) ≡ choice a.0.order (is_ready a.0.table) (length a.0.pending) =
    ap (λ (l : List Item). choice l (is_ready k.table) (length k.pending)) (ap (λ (y : Machine). y.order) a.2)
    ∙ ap₂ (choice a.0.order) ready (ap (λ (l : List Message). length l) pending) in
    let h = extend g args order limits n a.0 b.0 job a.1 plain_step (ap (λ c. c.0) (sym same) ∙ run) in
    let t : State = state_after g (partitions g) args (h.events ++ h.runs) in
    let listed : (f : ℕ) → code_in g k2.codes f ≡ its_code g t.world f = λ f.
    ap (λ (l : List ℕ). code_of g (slice_index l f)) (ap (λ (y : Machine). y.codes) b.2 ∙ h.shares_then.codes)
    ∙ ap (code_of g) (code-listed t.world.activations f) in
    record {
      each = λ i x l e. value-behind g args a.0 b.0 h k2.codes listed i x (subst (λ (y : List Message). length y ≤ i) pending l)
          (ap (λ (y : Machine). slice_get y.pending i) (sym b.2) ∙ e);
    }
