-- What the journal of a state says of its messages and readers.
use Rattle.std.proofs.Common.{◌≡◌, ◌≢◌, ℕ, zero, suc, ◌<◌, Bool, true, false, ◌==◌, List, [], ◌∷◌, map, flat_map, length, Option, Some, slice_get}
use Rattle.std.proofs.Common.{slice_index, unwrap_or, refl, ap, ap₂, sym, ◌∙◌, subst, arith, inl, inr}
use Rattle.std.proofs.lemmas.Option.{none-some, same_Some}
use Rattle.std.proofs.lemmas.List.{length-map}
use Rattle.tam_word.specs.Lists.{has}
use Rattle.tam_word.proofs.Tests.{number-eq, differs-number}
use Rattle.tam_word.proofs.Members.{In, in-append, in-map, map-in, in-filter, filter-in, in-flat_map, below-in, in-below, in-has, has-in, in-get}
use Rattle.tam_graph.specs.declared.kind.Kind.{Kind}
use Rattle.tam_graph.specs.declared.kind.Kind.TheVariants.{Call, Alloc, Fetch, Enter}
use Rattle.tam_graph.specs.Graphs.{Graph, code_of, kind_at, node_numbers}
use Rattle.tam_graph.specs.Accepted.{IsAccepted}
use Rattle.tam_graph.proofs.AcceptedFacts.{node-there}
use Rattle.tam_split.specs.GraphPartitions.{partitions}
use Rattle.tam_msgs.specs.declared.message.Message.{Message}
use Rattle.tam_msgs.specs.declared.message.Message.TheVariants.{Word as Carry, Frame as Begin, Cells as Make, Fetch as Ask_cell, Store as Put_cell}
use Rattle.tam_msgs.specs.Messages.{outside}
use Rattle.tam_istr.specs.Cells.{Cell, Empty, Filled, Reader}
use Rattle.tam_world.specs.Worlds.{World, ActivationState, or_activation, activation_at, its_code}
use Rattle.tam_flow.specs.Journals.{State, Event, state_after, on_their_way}
use Rattle.tam_flow.specs.JournalLaws.{IsJournal}
use Rattle.tam_flow.specs.Reached.{IsThere, WasSent, IsReached, cell_at}
use Rattle.tam_flow.proofs.JournalsReached.{journals-reached}
use Rattle.tam_flow.proofs.OnTheWay.{way-is, at-place}
use Rattle.tl0_code.specs.Machines.{Machine}
use Rattle.tl0_keep.specs.Compiled.{place_in, inlet_nodes, inlet_of, compiled}
use Rattle.tl0_keep.specs.Renamed.{is_call, calls_of, number_inlets}
use Rattle.tl0_keep.specs.ThreadNames.{HasStateJournal, named_in, waiting_at, names_of, thread_message, thread_reader, thread_cell, thread_arrays, inlet_at}
use Rattle.tl0_keep.specs.ThreadLaws.{PlainStatesAreJournals, OwingIsPlain, SameButOwed, without_owed}
use Rattle.tl0_keep.proofs.giving.Places.{in-contains}
use Rattle.tl0_keep.proofs.giving.Beside.{code_in}
use Rattle.tl0_keep.proofs.giving.Names.{IsFit}
use Rattle.tl0_keep.proofs.giving.Apart.{call-is}
use Rattle.tl0_keep.proofs.giving.NamedTexts.{call-at}
use Rattle.tl0_keep.proofs.giving.NamesHold.{IsSaid, StatesAreSaid}

-- ---- inlets of calls

-- what stands at the place of an element is the element
place-found : (xs : List ℕ) (x z : ℕ) → slice_get xs (place_in xs x) ≡ Some z → z ≡ x
place-found [] x z e = absurd (none-some z e)
place-found (y ∷ ys) x z e = go (y == x) refl (place-found ys x z)
  where
    go : (t : Bool) → (y == x) ≡ t → (slice_get ys (place_in ys x) ≡ Some z → z ≡ x) → z ≡ x
    go true p on = sym (same_Some y z (rw (place_in, p) at e)) ∙ number-eq y x p
    go false p on = on (rw (place_in, p) at e)

module _ (g : Graph) (accepted : IsAccepted g) (n : ℕ) (there : n < length g.codes) where
  -- an inlet among those of calls is a call's
  pub inlet-call : (x : ℕ) → has (number_inlets g (code_of g n)) (inlet_of g (code_of g n) x) ≡ true → (d : ℕ) × (kind_at (code_of g n) x ≡ Call d)
  inlet-call x h =
      let r = in-map (inlet_of g (code_of g n)) (inlet_of g (code_of g n) x) (calls_of (code_of g n))
      (has-in (number_inlets g (code_of g n)) (inlet_of g (code_of g n) x) h) in
      let f = in-filter (λ z. is_call (kind_at (code_of g n) z)) r.0 (node_numbers (code_of g n)) r.1 in
      let c = call-is (kind_at (code_of g n) r.0) f.1 in
      let at = call-at g accepted n there r.0 c.0 (in-below r.0 (length (code_of g n).nodes) f.0) c.1 in
      let same : r.0 ≡ x = place-found (inlet_nodes g (code_of g n)) x r.0 (ap (slice_get (inlet_nodes g (code_of g n))) (sym r.2) ∙ at) in
      (c.0, ap (kind_at (code_of g n)) (sym same) ∙ c.1)

  -- that of another node isn't
  inlet-other : (x : ℕ) (k : Kind) → kind_at (code_of g n) x ≡ k → ((d : ℕ) → k ≡ Call d → ⊥)
      → has (number_inlets g (code_of g n)) (inlet_of g (code_of g n) x) ≡ false
  inlet-other x k e differs = go (has (number_inlets g (code_of g n)) (inlet_of g (code_of g n) x)) refl
    where
      go : (t : Bool) → has (number_inlets g (code_of g n)) (inlet_of g (code_of g n) x) ≡ t
          → has (number_inlets g (code_of g n)) (inlet_of g (code_of g n) x) ≡ false
      go true p = let r = inlet-call x p in absurd (differs r.0 (sym e ∙ r.1))
      go false p = p

  -- that of a call is
  inlet-own : (x d : ℕ) → kind_at (code_of g n) x ≡ Call d → has (number_inlets g (code_of g n)) (inlet_of g (code_of g n) x) ≡ true
  inlet-own x d e =
      let low = node-there (code_of g n) x (λ q. let z : Call d ≡ Enter 0 = sym e ∙ q in absurd cc) in
      in-has (number_inlets g (code_of g n)) (inlet_of g (code_of g n) x) (map-in (inlet_of g (code_of g n)) x (calls_of (code_of g n))
      (filter-in (λ z. is_call (kind_at (code_of g n) z)) x (node_numbers (code_of g n)) (below-in x (length (code_of g n).nodes) low) (ap is_call e)))

-- a message on its way was sent
way-was_sent : (s : State) (m : Message) → In m (on_their_way s) → WasSent s m
way-was_sent s m i =
    let r = in-get m (on_their_way s) i in
    let p = at-place s.arrived 0 s.sent r.0 m (subst (λ l. slice_get l r.0 ≡ Some m) (way-is s) r.1) in
    (p.number, p.was_sent p.number (omega arith))

-- the code of an activation in a list of codes
pub code-listed : (xs : List ActivationState) (f : ℕ) → slice_index (map (λ a. a.code) xs) f ≡ (or_activation (slice_get xs f)).code
code-listed [] f = refl
code-listed (x ∷ xs) zero = refl
code-listed (x ∷ xs) (suc f) = code-listed xs f

module _ (g : Graph) (args : List ℕ) (events : List Event) (journal : IsJournal g (partitions g) args events) where
  -- the state behind the journal
  abbrev s : State
  s = state_after g (partitions g) args events

  -- is reached
  reached : IsReached g (partitions g) args (state_after g (partitions g) args events)
  reached = journals-reached g (partitions g) args events journal

  -- who is there isn't the outside
  there-inside : (f : ℕ) → IsThere s.world f → f ≢ outside
  there-inside f l e = let b = reached.few_activations in absurd (omega arith)

  -- the inlet of a node of who is there
  pub inlet-there : (f x : ℕ) → IsThere s.world f → inlet_at g s.world f x ≡ inlet_of g (its_code g s.world f) x
  inlet-there f x l = rw (inlet_at, differs-number f outside (there-inside f l)) refl

  -- its code is one of the graph's
  pub code-there : (f : ℕ) → IsThere s.world f → (activation_at s.world f).code < length g.codes
  code-there f l = reached.activations.codes f l

  -- whom a message on its way names is there
  named-there : (m : Message) → In m (on_their_way s) → (f : ℕ) → In f (named_in m) → f ≢ outside → IsThere s.world f
  named-there (Carry j x v) i f (inl e) d =
      let w = way-was_sent s (Carry j x v) i in
      subst (IsThere s.world) e (reached.messages.receivers w.0 j x v w.1 (λ z. d (sym e ∙ z))).0
  named-there (Carry j x v) i f (inr h) d = absurd h
  named-there (Begin c j x) i f (inl e) d = let w = way-was_sent s (Begin c j x) i in subst (IsThere s.world) e (reached.once.begin_sender w.0 c j x w.1).0
  named-there (Begin c j x) i f (inr h) d = absurd h
  named-there (Make v j x) i f (inl e) d = let w = way-was_sent s (Make v j x) i in subst (IsThere s.world) e (reached.once.make_sender w.0 v j x w.1).1
  named-there (Make v j x) i f (inr h) d = absurd h
  named-there (Ask_cell a l j x t) i f (inl e) d =
      let w = way-was_sent s (Ask_cell a l j x t) i in subst (IsThere s.world) e (reached.once.fetch_sender w.0 a l j x t w.1).2
  named-there (Ask_cell a l j x t) i f (inr h) d = absurd h
  named-there (Put_cell a l v t) i f h d = absurd h

  module _ (codes : List ℕ) (listed : (f : ℕ) → code_in g codes f ≡ its_code g s.world f) where
    -- an inlet of who is there, by the codes
    inlet-by : (f x : ℕ) (t : Bool) → IsThere s.world f → has (number_inlets g (its_code g s.world f)) (inlet_of g (its_code g s.world f) x) ≡ t
        → has (number_inlets g (code_in g codes f)) (inlet_at g s.world f x) ≡ t
    inlet-by f x t l e = ap₂ (λ c i. has (number_inlets g c) i) (listed f) (inlet-there f x l) ∙ e

    -- and the other way round
    pub by-inlet : (f x : ℕ) (t : Bool) → IsThere s.world f → has (number_inlets g (code_in g codes f)) (inlet_at g s.world f x) ≡ t
        → has (number_inlets g (its_code g s.world f)) (inlet_of g (its_code g s.world f) x) ≡ t
    by-inlet f x t l e = sym (ap₂ (λ c i. has (number_inlets g c) i) (listed f) (inlet-there f x l)) ∙ e

    -- a message on its way fits
    message-fits : (m : Message) → In m (on_their_way s) → IsFit g codes (length s.world.activations) (thread_message g s.world m)
    message-fits (Carry f x v) i = λ d h.
        let w = way-was_sent s (Carry f x v) i in
        let r = reached.messages.receivers w.0 f x v w.1 d in
        let c = inlet-call g journal.accepted (activation_at s.world f).code (code-there f r.0) x (by-inlet f x true r.0 h) in
        (r.1.by_call c.0 c.1).1
    message-fits (Begin c f x) i =
        let w = way-was_sent s (Begin c f x) i in
        let r = reached.once.begin_sender w.0 c f x w.1 in
        (there-inside f r.0, inlet-by f x true r.0 (inlet-own g journal.accepted (activation_at s.world f).code (code-there f r.0) x c r.1))
    message-fits (Make v f x) i = λ d.
        let w = way-was_sent s (Make v f x) i in
        let r = reached.once.make_sender w.0 v f x w.1 in
        inlet-by f x false r.1 (inlet-other g journal.accepted (activation_at s.world f).code (code-there f r.1) x (Alloc r.0) r.2 (λ z q. absurd cc))
    message-fits (Ask_cell a l f x t) i = λ d.
        let w = way-was_sent s (Ask_cell a l f x t) i in
        let r = reached.once.fetch_sender w.0 a l f x t w.1 in
        inlet-by f x false r.2 (inlet-other g journal.accepted (activation_at s.world f).code (code-there f r.2) x (Fetch r.0 r.1) r.3 (λ z q. absurd cc))
    message-fits (Put_cell a l v t) i = tt

    -- a reader that waits is there, at a fetch
    reader-fits : (cells : List Cell) → In cells s.world.arrays → (readers : List Reader) → In (Empty readers) cells → (r : Reader) → In {X = Reader} r readers
        → IsThere s.world r.0 × (has (number_inlets g (code_in g codes r.0)) (inlet_at g s.world r.0 r.1) ≡ false)
    reader-fits cells ic readers ir r h =
        let a = in-get cells s.world.arrays ic in
        let j = in-get (Empty readers) cells ir in
        let at : cell_at s.world a.0 j.0 ≡ Some (Empty readers) =
        ap (λ (o : Option (List Cell)). slice_get (unwrap_or o []) j.0) a.1 ∙ j.1 in
        let w = reached.once.waiting a.0 j.0 readers r.0 r.1 at (in-contains readers r h) in
        let f = reached.once.fetch_sender w.1.0 a.0 j.0 r.0 r.1 w.0 w.1.1 in (
          f.2,
          inlet-by r.0 r.1 false f.2 (inlet-other g journal.accepted (activation_at s.world r.0).code (code-there r.0 f.2) r.1 (Fetch f.0 f.1) f.3
              (λ z q. absurd cc)),
        )

-- whom a message names threads name too
same-named : (g : Graph) (w : World) (m : Message) (f : ℕ) → In f (named_in (thread_message g w m)) → In f (named_in m)
same-named g w (Carry j x v) f h = h
same-named g w (Begin c j x) f h = h
same-named g w (Make n j x) f h = h
same-named g w (Ask_cell a i j x t) f h = h
same-named g w (Put_cell a i v t) f h = h

-- a cell with readers is one of a journal's cells with readers
same-readers : (g : Graph) (w : World) (c : Cell) (readers : List Reader) → thread_cell g w c ≡ Empty readers
    → (rs : List Reader) × (c ≡ Empty rs) × (map (thread_reader g w) rs ≡ readers)
same-readers g w (Empty rs) readers e = (rs, refl, cc)
same-readers g w (Filled v t) readers e = absurd cc

module _ (g : Graph) (args : List ℕ) (k m : Machine) (same : SameButOwed k m) (j : HasStateJournal g args m) where
  -- the state behind the journal
  abbrev t : State
  t = state_after g (partitions g) args j.events

  pending-same : k.pending ≡ map (thread_message g t.world) (on_their_way t)
  pending-same = ap (λ (y : Machine). y.pending) same ∙ sym j.shares.pending

  arrays-same : k.arrays ≡ thread_arrays g t.world t.world.arrays
  arrays-same = ap (λ (y : Machine). y.arrays) same ∙ sym j.shares.arrays

  begun-same : length t.world.activations ≡ k.begun
  begun-same = j.shares.activations ∙ sym (ap (λ (y : Machine). y.begun) same)

  frames-same : length k.table.frames ≡ length t.world.activations
  frames-same =
      let a = ap (λ (y : Machine). length y.table.frames) same in
      let b = length-map k.table.frames without_owed in
      let c = length-map m.table.frames without_owed in
      let d = j.shares.frames in
      let e = j.shares.activations in
      omega arith

  listed : (f : ℕ) → code_in g k.codes f ≡ its_code g t.world f
  listed f = ap (λ (l : List ℕ). code_of g (slice_index l f)) (ap (λ (y : Machine). y.codes) same ∙ j.shares.codes)
      ∙ ap (code_of g) (code-listed t.world.activations f)

  -- a reader that waits is one of the journal's
  waits : (cells : List Cell) → In cells k.arrays → (readers : List Reader) → In (Empty readers) cells → (r : Reader) → In {X = Reader} r readers
      → IsThere t.world r.0 × (has (number_inlets g (code_in g k.codes r.0)) r.1 ≡ false)
  waits cells ic readers ir r h =
      let a = in-map (map (thread_cell g t.world)) cells t.world.arrays (subst (In cells) arrays-same ic) in
      let b = in-map (thread_cell g t.world) (Empty readers) a.0 (subst (In (Empty readers)) (sym a.2) ir) in
      let c = same-readers g t.world b.0 readers b.2 in
      let d = in-map (thread_reader g t.world) r c.0 (subst (In r) (sym c.2) h) in
      let f = reader-fits g args j.events j.journal k.codes listed a.0 a.1 c.0 (subst (λ y. In y a.0) c.1 b.1) d.0 d.1 in
      subst (λ (y : Reader). IsThere t.world y.0 × (has (number_inlets g (code_in g k.codes y.0)) y.1 ≡ false)) d.2 f

  -- whom the state names is there
  there : (f : ℕ) → In f (names_of k) → f ≢ outside → IsThere t.world f
  there f i d = elim (in-append f (flat_map named_in k.pending) (flat_map (flat_map waiting_at) k.arrays) i) [
    | inl a ↦
        let r = in-flat_map named_in f k.pending a in
        let q = in-map (thread_message g t.world) r.0 (on_their_way t) (subst (In r.0) pending-same r.1) in
        named-there g args j.events j.journal q.0 q.1 f (same-named g t.world q.0 f (subst (λ y. In f (named_in y)) (sym q.2) r.2)) d
    | inr a ↦
        let r = in-flat_map (flat_map waiting_at) f k.arrays a in
        let q = in-flat_map waiting_at f r.0 r.2 in
        waiter r.0 r.1 q.0 q.1 q.2
  ]
    where
      waiter : (cells : List Cell) → In cells k.arrays → (c : Cell) → In c cells → In f (waiting_at c) → IsThere t.world f
      waiter cells ic (Empty readers) ir h =
          let r = in-map (λ (q : Reader). q.0) f readers h in
          subst (IsThere t.world) r.2 (waits cells ic readers ir r.0 r.1).0
      waiter cells ic (Filled v e) ir h = absurd h

  -- so the state is said
  pub state-said : IsSaid g k
  state-said = record {
    begun = λ f i d. let l = there f i d in let e = frames-same in omega arith;
    fit = λ x i.
        let q = in-map (thread_message g t.world) x (on_their_way t) (subst (In x) pending-same i) in
        subst (IsFit g k.codes k.begun) q.2 (subst (λ n. IsFit g k.codes n (thread_message g t.world q.0)) begun-same
        (message-fits g args j.events j.journal k.codes listed q.0 q.1));
    waiting = λ cells ic readers ir r h d. (waits cells ic readers ir r h).1;
  }

-- each state of the run in which frames owe is
pub states-said : PlainStatesAreJournals → OwingIsPlain → StatesAreSaid
states-said states owing g args order limits n k job after =
    let plain = owing (compiled g) args order limits n k after in
    state-said g args k plain.0 plain.2 (states g args order limits n plain.0 job plain.1)
