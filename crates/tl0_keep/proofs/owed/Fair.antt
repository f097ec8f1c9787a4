-- Each state of the plain run is fair: which blocks its journal has entered, and who waits.
use Rattle.std.proofs.Common.{◌≡◌, ◌≢◌, ℕ, zero, suc, ◌<◌, ◌^◌, true, false, List, [], ◌∷◌, map, flat_map, Option, Some, None, slice_get, length, refl, sym, ap}
use Rattle.std.proofs.Common.{◌∙◌, subst, inl, inr, ◌⊎◌, ⊎_elim, arith, true≢false}
use Rattle.std.proofs.lemmas.Option.{same_Some}
use Rattle.tam_word.specs.Lists.{has}
use Rattle.tam_word.proofs.Each.{each-in}
use Rattle.tam_word.proofs.Members.{In, Distinct, in-append, in-flat_map, in-map, in-get, get-in, in-filter, in-below, one-first}
use Rattle.tam_msgs.specs.declared.message.Message.{Message}
use Rattle.tam_msgs.specs.declared.message.Message.TheVariants.{Word as Carry, Frame as Begin, Cells as Make, Fetch as Ask_cell, Store as Put_cell}
use Rattle.tam_msgs.specs.declared.item.Item.{Item}
use Rattle.tam_msgs.specs.declared.limits.Limits.{Limits}
use Rattle.tam_msgs.specs.Messages.{outside, AreLimits}
use Rattle.tam_istr.specs.Cells.{Cell, Empty, Filled, Reader}
use Rattle.tam_graph.specs.declared.kind.Kind.{Kind}
use Rattle.tam_graph.specs.declared.kind.Kind.TheVariants.{Cond, Switch as Choose, Enter}
use Rattle.tam_graph.specs.Graphs.{Code, Graph, code_of, kind_at, block_at, owner_of, node_in, nodes_in, node_numbers, is_enter, is_inlet}
use Rattle.tam_graph.specs.Graphs.{operands_of, chosen_branch, branch_of_kind, results_of, AreArguments}
use Rattle.tam_graph.specs.Accepted.{IsAccepted}
use Rattle.tam_graph.proofs.AcceptedFacts.{node-there}
use Rattle.tam_split.specs.GraphPartitions.{partitions, are_valid}
use Rattle.tam_split.proofs.Firers.{node-block}
use Rattle.tam_world.specs.Worlds.{activation_at, its_code, word_of, has_word, has_entered}
use Rattle.tam_flow.specs.Journals.{State, state_after, on_their_way}
use Rattle.tam_flow.specs.JournalLaws.{IsJournal}
use Rattle.tam_flow.specs.Reached.{IsThere, IsReached, kind_of, cells_at, cell_at}
use Rattle.tam_flow.proofs.ActivationLists.{has-word}
use Rattle.tam_flow.proofs.DeliveredOnce.{once-journal}
use Rattle.tam_flow.proofs.FiringReasons.{HaveThese}
use Rattle.tam_flow.proofs.Gifts.{opens}
use Rattle.tam_flow.proofs.Kept.{IsEntered}
use Rattle.tam_flow.proofs.KeptJournals.{kept-journal}
use Rattle.tam_flow.proofs.KeptRuns.{IsKeptState}
use Rattle.tam_flow.proofs.Onward.{word-one}
use Rattle.tam_flow.proofs.SentOnce.{HasFired, IsOnceState}
use Rattle.tam_flow.proofs.WordSenders.{IsFor}
use Rattle.tam_flow.proofs.WordSources.{IsWordState, IsWaiting, IsAskOf}
use Rattle.tam_flow.proofs.WordsOnce.{words-journal, one-word-each}
use Rattle.frame_tables.specs.FrameTables.{Frame, frame_at, or_frame}
use Rattle.tl0_code.specs.ThreadCode.{code_text, plain}
use Rattle.tl0_code.specs.Machines.{Machine, Plain, code_at}
use Rattle.tl0_keep.specs.Compiled.{compiled_with, yes_of, no_of}
use Rattle.tl0_keep.specs.ThreadNames.{thread_message, thread_reader, thread_cell, named_in, waiting_at, names_of}
use Rattle.tl0_keep.specs.ThreadLaws.{IsJob, IsAfter, NoSkipIsWild, DoneIsDone}
use Rattle.tl0_keep.proofs.code.Facts.{code-facts}
use Rattle.tl0_keep.proofs.code.RisingClasses.{partitions-parts}
use Rattle.tl0_keep.proofs.code.ThreadKinds.{ThreadKind, Entry, Class, Then_of, Else_of, Source, Word_of, Begun, IsThread, number_of_thread}
use Rattle.tl0_keep.proofs.code.ThreadKinds.{sources_of, parts_for, then_block, else_block}
use Rattle.tl0_keep.proofs.code.ThreadKinds.{inlet_thread, takes_messages}
use Rattle.tl0_keep.proofs.runs.Keeps.{Keeps, Given, PostedAt, ChoseThen, ChoseElse, HasEntered, parts_in, IsForMessages, Fits}
use Rattle.tl0_keep.proofs.code.CodeFacts.{CodeFacts, TextFacts}
use Rattle.tl0_keep.proofs.runs.Journey.{Here, journal, reached}
use Rattle.tl0_keep.proofs.runs.Arrives.{found, was-sent}
use Rattle.tl0_keep.proofs.runs.Delivering.{code-same}
use Rattle.tl0_keep.proofs.runs.PlainRuns.{some-source}
use Rattle.tl0_keep.proofs.class_run.Entered.{fired-entered, owner-fired, inlet-entered}
use Rattle.tl0_keep.proofs.class_run.MayRun.{zero-spent, class-entered}
use Rattle.tl0_keep.proofs.class_run.Stands.{switch-stands}
use Rattle.tl0_keep.proofs.owed.Skipped.{home}
use Rattle.tl0_keep.proofs.owed.Tables.{held-ready, held-there}
use Rattle.tl0_keep.proofs.owed.Owes.{IsFair}
use Rattle.tl0_keep.proofs.owed.Runs.{PlainRunsAreFair, none-wild-if_fair, done-if_fair}
use Rattle.tl0_keep.proofs.owed.Waits.{takes-received, ran-entered, asked-ran, sent-cause, unanswered, cause-entered}

-- an `in` is an inlet
enter-inlet : (k : ℕ) (kind : Kind) → is_enter k kind ≡ true → is_inlet kind ≡ true
enter-inlet k (Enter j) h = refl
enter-inlet k kind h = absurd (true≢false (sym h))

head-one : {i j : ℕ} → i ∷ [] ≡ j ∷ [] → i ≡ j
head-one e = cc

-- not 0
above-zero : (x : ℕ) → x ≡ 0 → 0 < x → ⊥
above-zero x e l = omega arith

module _ (g : Graph) (accepted : IsAccepted g) (args : List ℕ) (arguments : AreArguments g args) (limits : Limits) (ranges : AreLimits limits)
    (valid : are_valid g (partitions g) ≡ true) (m : Machine) (here : Here g (partitions g) args limits m) where
  -- the state of its journal
  abbrev s : State
  s = state_after g (partitions g) args here.events

  pub facts : CodeFacts g (partitions g)
  facts = code-facts g accepted

  pub keeps : Keeps g (partitions g) m (state_after g (partitions g) args here.events) here.others []
  keeps = here.rests.keeps

  its-journal : IsJournal g (partitions g) args here.events
  its-journal = journal g accepted (partitions g) valid args arguments limits ranges m here

  pub is-reached : IsReached g (partitions g) args (state_after g (partitions g) args here.events)
  is-reached = reached g accepted (partitions g) valid args arguments limits ranges m here

  once : IsOnceState g args (partitions g) (state_after g (partitions g) args here.events)
  once = once-journal g (partitions g) args here.events its-journal

  words : IsWordState g (partitions g) (state_after g (partitions g) args here.events)
  words = words-journal g (partitions g) args here.events its-journal

  pub state : IsKeptState g (partitions g) (state_after g (partitions g) args here.events)
  state = kept-journal g (partitions g) args here.events its-journal (one-word-each g (partitions g) args here.events its-journal)

  stands : (i y d k a : ℕ) → HasFired g (partitions g) s i y → kind_of g s.world i y ≡ Choose d k a → HasFired g (partitions g) s i d
  stands = switch-stands g accepted valid facts args s is-reached m here.others keeps

  -- ---- one activation

  module _ (i : ℕ) (there : IsThere (state_after g (partitions g) args here.events).world i) where
    -- its code
    abbrev c : Code
    c = its_code g (state_after g (partitions g) args here.events).world i

    pub known : (activation_at (state_after g (partitions g) args here.events).world i).code < length g.codes
    known = keeps.frames.known i there

    pub text : TextFacts g (its_code g s.world i) (parts_in g (partitions g) s here.others i) (code_text (plain (compiled_with g (partitions g)))
        (activation_at s.world i).code)
    text = facts.texts (activation_at s.world i).code known

    -- block b of it is entered
    abbrev Open : ℕ → Type 0
    Open b = has_entered (state_after g (partitions g) args here.events).world i b ≡ true

    -- the block of an `in` that has a word
    enter-open : (b k : ℕ) → ((e : ℕ) × (node_in c b (is_enter k) ≡ e ∷ [])) → HasEntered g (partitions g) s here.others c i b k → Open b
    enter-open b k (e, eq) (x, among, word) =
        let f = one-first (λ y. is_enter k (kind_at c y)) (nodes_in c b) e [] eq in
        let same : e ≡ x = one (subst (λ l. In x l) eq among) in
        let low = in-below e (length c.nodes) (in-filter _ e (node_numbers c) f.0).0 in
        let w : has_word s.world i e ≡ true = subst (λ y. has_word s.world i y ≡ true) (sym same) word in
        let u = has-word (activation_at s.world i).words e w in
        subst Open (node-block c b e f.0) (inlet-entered g args accepted (partitions g) facts s once words state is-reached stands i there e u.0 low
        (enter-inlet k (kind_at c e) f.1) u.1)
      where
        one : In x (e ∷ []) → e ≡ x
        one (inl q) = q
        one (inr q) = absurd q

    -- a thread with nothing left to wait for runs for a block that is entered
    pub home-open : (n : ThreadKind) → IsThread c (parts_in g (partitions g) s here.others i) n
        → slice_get (frame_at m.table i).counts (number_of_thread c (parts_in g (partitions g) s here.others i) n) ≡ Some 0 → Open (home c n)
    home-open n h z = by n h (given n h z)
      where
        given : (n : ThreadKind) (h : IsThread c (parts_in g (partitions g) s here.others i) n)
            → slice_get (frame_at m.table i).counts (number_of_thread c (parts_in g (partitions g) s here.others i) n) ≡ Some 0
            → (t : Source) → In t (sources_of c (parts_in g (partitions g) s here.others i) n) → Given g (partitions g) s here.others i n t
        given n h z = let k = keeps.threads i n there h in
            zero-spent g (partitions g) here.others m s [] i n k (sym (same_Some 0 k.count (sym z ∙ k.left)))

        class : (b k : ℕ) (ts : List Source) → 0 < length ts → ((t : Source) → In t ts → Given g (partitions g) s here.others i (Class b k) t) → Open b
        class b k [] l f = absurd (omega arith)
        class b k (t ∷ ts) l f = class-entered g args accepted (partitions g) facts (partitions-parts g accepted) s once words state
            is-reached stands m here.others keeps i there b k t (f t (inl refl))

        then-open : (x : ℕ) (k : Kind) → kind_at c x ≡ k → ChoseThen g (partitions g) s here.others c i k → Open (then_block c k)
        then-open x (Cond p y w) e q = q
        then-open x (Choose d k a) e q =
            let r = text.switch_cond x d k a e in
            let w = text.enters x d k a r.0 r.1.0 r.1.1.0 e r.1.1.1 in
            enter-open (yes_of (kind_at c d)) k (subst (λ y. (e : ℕ) × (node_in c y (is_enter k) ≡ e ∷ [])) (sym (ap yes_of r.1.1.1)) w.0) q
        then-open x k e q = absurd q

        else-open : (x : ℕ) (k : Kind) → kind_at c x ≡ k → ChoseElse g (partitions g) s here.others c i k → Open (else_block c k)
        else-open x (Cond p y w) e q = q
        else-open x (Choose d k a) e q =
            let r = text.switch_cond x d k a e in
            let w = text.enters x d k a r.0 r.1.0 r.1.1.0 e r.1.1.1 in
            enter-open (no_of (kind_at c d)) k (subst (λ y. (e : ℕ) × (node_in c y (is_enter k) ≡ e ∷ [])) (sym (ap no_of r.1.1.1)) w.1) q
        else-open x k e q = absurd q

        by : (n : ThreadKind) → IsThread c (parts_in g (partitions g) s here.others i) n
            → ((t : Source) → In t (sources_of c (parts_in g (partitions g) s here.others i) n) → Given g (partitions g) s here.others i n t) → Open (home c n)
        by Entry h f = is-reached.activations.bodies i there
        by (Class b k) h f = class b k (sources_of c (parts_in g (partitions g) s here.others i) (Class b k))
            (some-source g (partitions g) (activation_at s.world i).code known (Class b k) h) f
        by (Then_of x) h f = then-open x (kind_at c x) refl (f Begun (inl refl)).reason
        by (Else_of x) h f = else-open x (kind_at c x) refl (f Begun (inl refl)).reason

    -- the block of the cond of an entered block is entered
    pub up-open : (v d : ℕ) → owner_of c v ≡ d ∷ [] → Open v → Open (block_at c d)
    up-open v d o h = fired-entered g args accepted (partitions g) facts s once words state is-reached stands i d
        (owner-fired g args accepted (partitions g) facts s once words state is-reached stands i there v d o h)

    -- an entered branch is the one that the cond's word chose
    pub branch-chosen : (b x p y z : ℕ) → kind_at c x ≡ Cond p y z → owner_of c b ≡ x ∷ [] → 0 < b → Open b
        → (v : ℕ) × (word_of s.world i p ≡ v ∷ []) × (chosen_branch c x v ≡ b)
    branch-chosen b x p y z e o high h = ⊎_elim (λ q. absurd (above-zero b q high)) branch (state.kept.blocks i b there h)
      where
        side : (u p y n v : ℕ) → kind_at c u ≡ Cond p y n → owner_of c (chosen_branch c u v) ≡ u ∷ []
        side u p y n zero e = subst (λ t. owner_of c t ≡ u ∷ []) (sym (ap (λ t. branch_of_kind t 0) e)) (text.branches u p y n e).1
        side u p y n (suc v) e = subst (λ t. owner_of c t ≡ u ∷ []) (sym (ap (λ t. branch_of_kind t (suc v)) e)) (text.branches u p y n e).0

        branch : IsEntered g s.world (HasFired g (partitions g) s) i b → (v : ℕ) × (word_of s.world i p ≡ v ∷ []) × (chosen_branch c x v ≡ b)
        branch a = of a.node (kind_of g s.world i a.node) a.words refl a.among a.have
          where
            of : (u : ℕ) (k : Kind) (vs : List ℕ) → kind_at c u ≡ k → In b (opens c u k vs) → HaveThese s.world i (operands_of c k) vs
                → (v : ℕ) × (word_of s.world i p ≡ v ∷ []) × (chosen_branch c x v ≡ b)
            of u (Cond q r t) (v ∷ []) f (inl w) have =
                let same : u ≡ x = head-one (sym (side u q r t v f) ∙ (ap (owner_of c) w ∙ o)) in
                let test : q ≡ p = first (sym f ∙ (ap (kind_at c) same ∙ e)) in
                (v, subst (λ l. word_of s.world i l ≡ v ∷ []) test have.0, subst (λ l. chosen_branch c l v ≡ b) same w)
              where
                first : Cond q r t ≡ Cond p y z → q ≡ p
                first l = cc
            of u (Cond q r t) (v ∷ []) f (inr w) have = absurd w
            of u k vs f w have = absurd w

    -- one branch at most is entered
    pub one-open : (x p y z : ℕ) → kind_at c x ≡ Cond p y z → Open y → Open z → ⊥
    one-open x p y z e h j =
        let b = text.branches x p y z e in
        let q = branch-chosen y x p y z e b.0 b.3 h in
        let r = branch-chosen z x p y z e b.1 b.4 j in
        b.2 (sym q.2 ∙ (ap (chosen_branch c x) (word-one s.world i p q.0 r.0 q.1 r.1) ∙ r.2))

  -- ---- whom a state names

  -- node x of activation f waits for its word, in a block that is entered
  record WaitsAt (f : ℕ) : Type 0 where
    node : ℕ
    for : IsForMessages g (state_after g (partitions g) args here.events).world f node
    none : (u : ℕ) → word_of (state_after g (partitions g) args here.events).world f node ≡ u ∷ [] → ⊥
    opened : has_entered (state_after g (partitions g) args here.events).world f
        (block_at (its_code g (state_after g (partitions g) args here.events).world f) node) ≡ true

  -- a node that takes messages is there
  node-low : (f x : ℕ) → takes_messages (kind_at (its_code g s.world f) x) ≡ true → x < length (its_code g s.world f).nodes
  node-low f x h = node-there (its_code g s.world f) x (λ q. true≢false (sym h ∙ ap takes_messages q))

  -- no word, where there is none
  no-word : (f x u : ℕ) → word_of s.world f x ≡ [] → word_of s.world f x ≡ u ∷ [] → ⊥
  no-word f x u e q = differ (sym e ∙ q)
    where
      differ : [] ≡ u ∷ [] → ⊥
      differ z = cc

  -- who asks with a message on its way
  asks-wait : (f x n : ℕ) (y : Message) → IsForMessages g s.world f x → slice_get s.sent n ≡ Some y → has s.arrived n ≡ false
      → IsAskOf f x y → WaitsAt f
  asks-wait f x n y for sent none ask = record {
    node = x;
    for = for;
    none = unanswered g args accepted (partitions g) s once words is-reached f for.0 x n y for.1 sent none ask;
    opened = ran-entered g args accepted (partitions g) s once words is-reached f x
        (asked-ran g args accepted (partitions g) s once words is-reached f x n y sent ask);
  }

  -- whom a message on its way names
  message-waits : (f n : ℕ) (y : Message) → slice_get s.sent n ≡ Some y → has s.arrived n ≡ false → Fits g s.world y
      → In f (named_in (thread_message g s.world y)) → f ≢ outside → WaitsAt f
  message-waits f n (Carry d x v) sent none fits (inl e) o = subst WaitsAt e (by fits)
    where
      by : ((d ≡ outside) × (x < results_of (code_of g g.main))) ⊎ IsForMessages g s.world d x → WaitsAt d
      by (inl q) = absurd (o (sym e ∙ q.0))
      by (inr for) = record {
        node = x;
        for = for;
        none = λ u q. no-word d x u (is-reached.once.not_yet n d x v (λ z. o (sym e ∙ z)) sent none) q;
        opened = cause-entered g args accepted (partitions g) s once words is-reached d for.0 x (node-low d x for.1) for.1
            (sent-cause g args accepted (partitions g) s once words is-reached d for.0 x v n sent);
      }
  message-waits f n (Begin a d x) sent none fits (inl e) o = subst WaitsAt e (asks-wait d x n (Begin a d x) fits.0 sent none (refl, refl))
  message-waits f n (Make a d x) sent none fits (inl e) o = subst WaitsAt e (asks-wait d x n (Make a d x) fits sent none (refl, refl))
  message-waits f n (Ask_cell a j d x t) sent none fits (inl e) o = subst WaitsAt e (asks-wait d x n (Ask_cell a j d x t) fits sent none (refl, refl))
  message-waits f n (Carry d x v) sent none fits (inr e) o = absurd e
  message-waits f n (Begin a d x) sent none fits (inr e) o = absurd e
  message-waits f n (Make a d x) sent none fits (inr e) o = absurd e
  message-waits f n (Ask_cell a j d x t) sent none fits (inr e) o = absurd e
  message-waits f n (Put_cell a j v t) sent none fits e o = absurd e

  -- of those pending
  pending-waits : (f : ℕ) → In f (flat_map named_in m.pending) → f ≢ outside → WaitsAt f
  pending-waits f i o =
      let r = in-flat_map named_in f m.pending i in
      let q = in-map (thread_message g s.world) r.0 (on_their_way s) (subst (In r.0) (sym keeps.messages.pending) r.1) in
      let k = in-get q.0 (on_their_way s) q.1 in
      let a = found g (partitions g) facts args m s here.others keeps k.0 q.0 k.1 in
      message-waits f a.number q.0 (was-sent g (partitions g) facts args m s here.others keeps k.0 q.0 k.1) a.not_yet (keeps.messages.fit q.0 q.1)
      (subst (λ y. In f (named_in y)) (sym q.2) r.2) o

  -- a reader that waits at a cell
  reader-waits : (a j : ℕ) (rs : List Reader) (r : Reader) → cell_at s.world a j ≡ Some (Empty rs) → In {X = Reader} r rs → WaitsAt r.0
  reader-waits a j rs r e i =
      let for = keeps.messages.readers a j rs r e i in
      let w = each-in (IsWaiting s a j) rs r (words.waits a j rs e).1 i in
      record {
        node = r.1;
        for = for;
        none = λ u q. (let came = words.words r.0 r.1 u q (takes-received (kind_at (its_code g s.world r.0) r.1) for.1).0 in
            each-in (λ y. IsFor r.0 r.1 y → ⊥) s.sent (Carry r.0 r.1 u) w.4 (get-in s.sent came.0 (Carry r.0 r.1 u) came.1) (u, refl));
        opened = ran-entered g args accepted (partitions g) s once words is-reached r.0 r.1
            (asked-ran g args accepted (partitions g) s once words is-reached r.0 r.1 w.0 (Ask_cell a j r.0 r.1 w.1) w.2 (refl, refl));
      }

  -- a cell of an array
  cell-there : (a j : ℕ) (cells : List Cell) (x : Cell) → slice_get s.world.arrays a ≡ Some cells → slice_get cells j ≡ Some x → cell_at s.world a j ≡ Some x
  cell-there a j cells x p q = rw (cell_at, cells_at, p) q

  cells-wait : (f : ℕ) → In f (flat_map (flat_map waiting_at) m.arrays) → WaitsAt f
  cells-wait f i =
      let r = in-flat_map (flat_map waiting_at) f m.arrays i in
      let q = in-map (map (thread_cell g s.world)) r.0 s.world.arrays (subst (In r.0) (sym keeps.messages.arrays) r.1) in
      let w = in-flat_map waiting_at f r.0 r.2 in
      let z = in-map (thread_cell g s.world) w.0 q.0 (subst (In w.0) (sym q.2) w.1) in
      let a = in-get q.0 s.world.arrays q.1 in
      let j = in-get z.0 q.0 z.1 in
      by a.0 j.0 z.0 (cell-there a.0 j.0 q.0 z.0 a.1 j.1) (subst (λ y. In f (waiting_at y)) (sym z.2) w.2)
    where
      by : (a j : ℕ) (x : Cell) → cell_at s.world a j ≡ Some x → In f (waiting_at (thread_cell g s.world x)) → WaitsAt f
      by a j (Empty rs) e h =
          let r = in-map (λ (y : Reader). y.0) f (map (thread_reader g s.world) rs) h in
          let q = in-map (thread_reader g s.world) r.0 rs r.1 in
          subst WaitsAt (ap (λ (y : Reader). y.0) q.2 ∙ r.2) (reader-waits a j rs q.0 e q.1)
      by a j (Filled v t) e h = absurd h

  -- whom the state names
  named-waits : (f : ℕ) → In f (names_of m) → f ≢ outside → WaitsAt f
  named-waits f i o = elim (in-append f (flat_map named_in m.pending) (flat_map (flat_map waiting_at) m.arrays) i) [
    | inl a ↦ pending-waits f a o
    | inr b ↦ cells-wait f b
  ]

  -- its thread waits
  thread-waits : (f : ℕ) → WaitsAt f → (n : ThreadKind) × IsThread (its_code g s.world f) (parts_in g (partitions g) s here.others f) n
      × (slice_get (frame_at m.table f).counts (number_of_thread (its_code g s.world f) (parts_in g (partitions g) s here.others f) n) ≡ Some 0 → ⊥)
      × (has_entered s.world f (home (its_code g s.world f) n) ≡ true)
  thread-waits f w = (inlet_thread (its_code g s.world f) (parts_in g (partitions g) s here.others f) w.node, source.0, waits, w.opened)
    where
      f-there : IsThere s.world f
      f-there = w.for.0

      source : IsThread (its_code g s.world f) (parts_in g (partitions g) s here.others f)
          (inlet_thread (its_code g s.world f) (parts_in g (partitions g) s here.others f) w.node)
          × In (Word_of w.node) (sources_of (its_code g s.world f) (parts_in g (partitions g) s here.others f)
          (inlet_thread (its_code g s.world f) (parts_in g (partitions g) s here.others f) w.node))
      source = (text f f-there).inlet_source w.node (node-low f w.node w.for.1) (takes-received (kind_at (its_code g s.world f) w.node) w.for.1).1

      posted : (k : Kind) → takes_messages k ≡ true → PostedAt g (partitions g) s here.others (its_code g s.world f) f w.node k
          → has_word s.world f w.node ≡ true
      posted (Enter k) t h = absurd (true≢false (sym t))
      posted k t h = h

      waits : slice_get (frame_at m.table f).counts (number_of_thread (its_code g s.world f) (parts_in g (partitions g) s here.others f)
          (inlet_thread (its_code g s.world f) (parts_in g (partitions g) s here.others f) w.node)) ≡ Some 0 → ⊥
      waits z =
          let n = inlet_thread (its_code g s.world f) (parts_in g (partitions g) s here.others f) w.node in
          let k = keeps.threads f n f-there source.0 in
          let r = zero-spent g (partitions g) here.others m s [] f n k (sym (same_Some 0 k.count (sym z ∙ k.left))) (Word_of w.node) source.1 in
          let h = posted (kind_at (its_code g s.world f) w.node) w.for.1 r.reason in
          let u = has-word (activation_at s.world f).words w.node h in
          w.none u.0 u.1

  -- ---- the whole

  -- a frame that is there is an activation's
  act-there : (i : ℕ) → i < length m.table.frames → IsThere s.world i
  act-there i l = subst (λ n. i < n) keeps.frames.frames l

  -- its code
  code-is : (i : ℕ) (l : IsThere s.world i) → (activation_at s.world i).code ≡ code_at m i
  code-is i l = sym (code-same g (partitions g) m s here.others [] keeps i l)

  -- a ready thread
  ready-is : (i t : ℕ) → In t (frame_at m.table i).ready → IsThere s.world i × (slice_get (frame_at m.table i).counts t ≡ Some 0)
      × ((n : ThreadKind) × IsThread (its_code g s.world i) (parts_in g (partitions g) s here.others i) n
      × (number_of_thread (its_code g s.world i) (parts_in g (partitions g) s here.others i) n ≡ t))
  ready-is i t q =
      let l = act-there i (held-there m.table i (held-ready m.table i t q)) in
      let r = keeps.ready.threads i t l q in
      let k = keeps.threads i r.0 l r.1 in
      let z = (k.ready (subst (λ y. In y (frame_at m.table i).ready) (sym r.2) q)).0 in
      (l, ap (slice_get (frame_at m.table i).counts) (sym r.2) ∙ (k.left ∙ ap Some z), r)

  -- it is fair
  pub fair : IsFair g (partitions g) m
  fair = record {
    state = s;
    few = subst (λ n. n < 2 ^ 32) (sym keeps.frames.frames) here.few;
    codes = λ i l. subst (λ n. n < length g.codes) (code-is i (act-there i l)) (keeps.frames.known i (act-there i l));
    free = keeps.frames.free;
    homes = λ i n l. subst (λ (x : ℕ). IsThread (code_of g x) (parts_for (partitions g) x) n
        → slice_get (frame_at m.table i).counts (number_of_thread (code_of g x) (parts_for (partitions g) x) n) ≡ Some 0
        → has_entered s.world i (home (code_of g x) n) ≡ true) (code-is i (act-there i l)) (home-open i (act-there i l) n);
    up = λ i v d l. subst (λ (x : ℕ). owner_of (code_of g x) v ≡ d ∷ [] → has_entered s.world i v ≡ true → has_entered s.world i (block_at (code_of g x) d) ≡
        true)
        (code-is i (act-there i l)) (up-open i (act-there i l) v d);
    one = λ i x p y z l. subst (λ (n : ℕ). kind_at (code_of g n) x ≡ Cond p y z → has_entered s.world i y ≡ true → has_entered s.world i z ≡ true → ⊥)
        (code-is i (act-there i l)) (one-open i (act-there i l) x p y z);
    ready = λ i t q. (let r = ready-is i t q in (
      r.1,
      subst (λ (x : ℕ). (n : ThreadKind) × IsThread (code_of g x) (parts_for (partitions g) x) n
          × (number_of_thread (code_of g x) (parts_for (partitions g) x) n ≡ t)) (code-is i r.0) r.2,
    ));
    once = λ i. past-or i (slice_get m.table.frames i) refl;
    waits = λ f i o. (let w = named-waits f i o in (
      subst (λ n. f < n) (sym keeps.frames.frames) w.for.0,
      subst (λ (x : ℕ). (n : ThreadKind) × IsThread (code_of g x) (parts_for (partitions g) x) n
          × (slice_get (frame_at m.table f).counts (number_of_thread (code_of g x) (parts_for (partitions g) x) n) ≡ Some 0 → ⊥)
          × (has_entered s.world f (home (code_of g x) n) ≡ true)) (code-is f w.for.0) (thread-waits f w),
    ));
  }
    where
      past-or : (i : ℕ) (o : Option (Option Frame)) → slice_get m.table.frames i ≡ o → Distinct (frame_at m.table i).ready
      past-or i None e = subst (λ (x : Option (Option Frame)). Distinct (or_frame x).ready) (sym e) tt
      past-or i (Some None) e = subst (λ (x : Option (Option Frame)). Distinct (or_frame x).ready) (sym e) tt
      past-or i (Some (Some h)) e = keeps.ready.once i (act-there i (held-there m.table i (h, e)))

-- ---- the laws

-- each state of the plain run has a journal that it keeps
abbrev pub PlainRunsKeep : Type 0
PlainRunsKeep = (g : Graph) (args : List ℕ) (order : List Item) (limits : Limits) → IsJob g args limits
    → (are_valid g (partitions g) ≡ true) × ((n : ℕ) (m : Machine) → IsAfter Plain (plain (compiled_with g (partitions g))) args order limits n m
    → Here g (partitions g) args limits m)

-- so it is fair
pub plain-fair : PlainRunsKeep → PlainRunsAreFair
plain-fair keep g args order limits job n m h =
    let k = keep g args order limits job in
    fair g job.accepted args job.arguments limits job.ranges k.0 m (k.1 n m h)

-- in the run of an accepted graph's code no skip is wild
pub no-skip-is_wild : PlainRunsKeep → NoSkipIsWild
no-skip-is_wild keep = none-wild-if_fair (plain-fair keep)

-- and a frame that owes nothing is left alone
pub done-is_done : PlainRunsKeep → DoneIsDone
done-is_done keep = done-if_fair (plain-fair keep)
