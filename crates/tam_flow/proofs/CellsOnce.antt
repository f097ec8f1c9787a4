-- Stores and fetches that arrived, behind each legal journal: what a cell has came by one store, and who waits for it has asked.
use Rattle.std.proofs.Common.{◌≡◌, ℕ, true, false, ◌==◌, Bool, List, [], ◌∷◌, replicate, Some, None, length, slice_get, unwrap_or, refl, sym, subst}
use Rattle.std.proofs.Common.{inl, inr, ◌⊎◌, true≢false, Contains}
use Rattle.std.specs.List.{AllByRecursion}
use Rattle.std.proofs.lemmas.Option.{get_or_from_slice_get, slice_get_read}
use Rattle.tam_word.specs.Lists.{has}
use Rattle.tam_word.proofs.Each.{get-left, all-at_place}
use Rattle.tam_word.proofs.Members.{In, in-get}
use Rattle.tam_graph.specs.Graphs.{Graph}
use Rattle.tam_graph.specs.Accepted.{IsAccepted}
use Rattle.tam_split.specs.GraphPartitions.{Partitions, are_valid}
use Rattle.tam_msgs.specs.declared.message.Message.{Message}
use Rattle.tam_msgs.specs.declared.message.Message.TheVariants.{Word as Carry, Frame as Begin, Cells as Make, Fetch as Ask_cell, Store as Put_cell}
use Rattle.tam_msgs.specs.Messages.{outside}
use Rattle.tam_istr.specs.Cells.{Cell, Reader, Empty, Filled, with_array}
use Rattle.tam_world.specs.Worlds.{Delivery, Went, Printed, Faulted, changes, got, delivered}
use Rattle.tam_flow.specs.Journals.{State, Event, Run, after_delivery, after_event, state_after}
use Rattle.tam_flow.specs.JournalLaws.{IsJournal}
use Rattle.tam_flow.specs.Reached.{cell_at, WasSent, HasArrived}
use Rattle.tam_flow.proofs.CellChanges.{cell-array}
use Rattle.tam_flow.proofs.Deliveries.{some-below}
use Rattle.tam_flow.proofs.DeliveryChanges.{arrays-run}
use Rattle.tam_flow.proofs.DeliveredOnce.{once-journal}
use Rattle.tam_flow.proofs.Accesses.{FetchCases, StoreCases, fetch-cases, store-cases}
use Rattle.tam_flow.proofs.WordSources.{IsWaiting}
use Rattle.tam_flow.proofs.WordsOnce.{words-journal}
use Rattle.tam_flow.proofs.WordSteps.{Continues, NoneNew, ThisNew, continues-run, continues-delivery, IsWordedState, events-keep}
use Rattle.tam_flow.proofs.FilledCells.{IsServed, IsFilledState, filled-same, filled-fault, filled-now, filled-deferred, filled-stored}

-- a word is no store
carry-put : {f x u a j v t : ℕ} → Carry f x u ≡ Put_cell a j v t → ⊥
carry-put q = cc

-- and no fetch
carry-ask : {f x u a j e y t : ℕ} → Carry f x u ≡ Ask_cell a j e y t → ⊥
carry-ask q = cc

-- a wish for an activation is no store
begin-put : {c f x a j v t : ℕ} → Begin c f x ≡ Put_cell a j v t → ⊥
begin-put q = cc

-- and no fetch
begin-ask : {c f x a j e y t : ℕ} → Begin c f x ≡ Ask_cell a j e y t → ⊥
begin-ask q = cc

-- nor is a wish for an array a store
make-put : {n f x a j v t : ℕ} → Make n f x ≡ Put_cell a j v t → ⊥
make-put q = cc

-- and no fetch
make-ask : {n f x a j e y t : ℕ} → Make n f x ≡ Ask_cell a j e y t → ⊥
make-ask q = cc

-- an element that is found is contained
in-contains : {X : Type 0} (x : X) (xs : List X) → In x xs → Contains xs x
in-contains x xs h = let r = in-get x xs h in (r.0, some-below xs r.0 r.1, get_or_from_slice_get xs r.0 x x r.1)

-- what each element has, what is contained has
each-contained : {X : Type 0} (P : X → Type 0) (xs : List X) (x : X) → AllByRecursion P xs → Contains xs x → P x
each-contained P xs x h k = all-at_place P xs k.0 x h (slice_get_read xs (length xs) k.0 x refl k.1 (sym k.2))

module _ (g : Graph) (args : List ℕ) (accepted : IsAccepted g) (all : Partitions) (valid : are_valid g all ≡ true) (s : State)
    (worded : IsWordedState g args accepted all valid s) (whole : s.fault ≡ None) (h : IsFilledState s) where
  -- a run changes no cell
  filled-run : (i b c : ℕ) → IsFilledState (after_event g all s (Run i b c))
  filled-run i b c =
      filled-same s (after_event g all s (Run i b c)) NoneNew (continues-run g all s worded.words.before i b c) (λ n a j u t r. r) (λ n a j f x t r. r)
      (λ a j d e. subst (λ rows. slice_get (unwrap_or (slice_get rows a) []) j ≡ Some d) (sym (arrays-run g all s i b c)) e) whole h

  -- what a delivery does
  filled-delivered : (m : ℕ) (x : Message) → slice_get s.sent m ≡ Some x → IsFilledState (after_delivery s m (delivered s.world x))
  filled-delivered m (Carry f y u) is_sent = go (f == outside) refl (continues-delivery s worded.words.before m (Carry f y u) is_sent)
    where
      go : (t : Bool) → (f == outside) ≡ t → ((d : Delivery) → Continues s (after_delivery s m d) (ThisNew m (Carry f y u)))
          → IsFilledState (after_delivery s m (delivered s.world (Carry f y u)))
      go true p on =
          rw (delivered, p) (filled-same s (after_delivery s m (Printed y u)) (ThisNew m (Carry f y u)) (on (Printed y u)) (λ n a j v t r. carry-put r.1)
          (λ n a j e z t r. carry-ask r.1) (λ a j c e. e) whole h)
      go false p on =
          rw (delivered, p) (filled-same s (after_delivery s m (Went (changes (got s.world f y u)))) (ThisNew m (Carry f y u))
          (on (Went (changes (got s.world f y u))))
          (λ n a j v t r. carry-put r.1) (λ n a j e z t r. carry-ask r.1) (λ a j c e. e) whole h)
  filled-delivered m (Begin c f y) is_sent =
      filled-same s (after_delivery s m (delivered s.world (Begin c f y))) (ThisNew m (Begin c f y))
      (continues-delivery s worded.words.before m (Begin c f y) is_sent (delivered s.world (Begin c f y))) (λ n a j v t r. begin-put r.1)
      (λ n a j e z t r. begin-ask r.1) (λ a j c e. e) whole h
  filled-delivered m (Make n f y) is_sent =
      filled-same s (after_delivery s m (delivered s.world (Make n f y))) (ThisNew m (Make n f y))
      (continues-delivery s worded.words.before m (Make n f y) is_sent (delivered s.world (Make n f y))) (λ k a j v t r. make-put r.1)
      (λ k a j e z t r. make-ask r.1) cells whole h
    where
      cells : (a j : ℕ) (c : Cell) → cell_at s.world a j ≡ Some c → slice_get (unwrap_or (slice_get (with_array s.world.arrays n) a) []) j ≡ Some c
      cells a j c e =
          let r = cell-array s.world.arrays a j c e in
          subst (λ o. slice_get (unwrap_or o []) j ≡ Some c) (sym (get-left s.world.arrays (replicate n (Empty []) ∷ []) a (some-below s.world.arrays a r.1))) e
  filled-delivered m (Ask_cell a j f y t) is_sent = go (fetch-cases s.world a j f y t)
    where
      go : FetchCases s.world a j f y (delivered s.world (Ask_cell a j f y t)) → IsFilledState (after_delivery s m (delivered s.world (Ask_cell a j f y t)))
      go (inl k) = subst (λ d. IsFilledState (after_delivery s m d)) (sym k.1) (filled-fault (after_delivery s m (Faulted k.0)) k.0 refl)
      go (inr (inl k)) = subst (λ d. IsFilledState (after_delivery s m d)) (sym k.3) (filled-now s worded.words.before whole h m a j f y t k.0 k.1 is_sent k.2)
      go (inr (inr k)) = subst (λ d. IsFilledState (after_delivery s m d)) (sym k.2) (filled-deferred s worded.words.before whole h m a j f y t k.0 is_sent k.1)
  filled-delivered m (Put_cell a j v t) is_sent = go (store-cases s.world a j v t)
    where
      go : StoreCases s.world a j v t (delivered s.world (Put_cell a j v t)) → IsFilledState (after_delivery s m (delivered s.world (Put_cell a j v t)))
      go (inl k) = subst (λ d. IsFilledState (after_delivery s m d)) (sym k.1) (filled-fault (after_delivery s m (Faulted k.0)) k.0 refl)
      go (inr k) = subst (λ d. IsFilledState (after_delivery s m d)) (sym k.2) (filled-stored s worded.words.before whole h m a j v t k.0 is_sent k.1)

-- the state behind a journal
pub filled-journal : (g : Graph) (all : Partitions) (args : List ℕ) (events : List Event) → IsJournal g all args events
    → IsFilledState (state_after g all args events)
filled-journal g all args events journal =
    events-keep g all args events journal IsFilledState (record {
      stored = λ w n a j u t e q. absurd (true≢false (sym q));
      fetched = λ w n a j f x t e q. absurd (true≢false (sym q));
      once = λ w m n a j u y t e p q k l. absurd (true≢false (sym k));
    }) (record {
      runs = λ s state whole h i b c run. filled-run g args journal.accepted all journal.valid s state whole h i b c;
      arrives = λ s state whole h m x is_sent new. filled-delivered g args journal.accepted all journal.valid s state whole h m x is_sent;
    })

module _ (g : Graph) (all : Partitions) (args : List ℕ) (events : List Event) (journal : IsJournal g all args events) where
  -- a cell for which a store arrived has its word
  pub stored-each : (state_after g all args events).fault ≡ None → (a j v t : ℕ) → HasArrived (state_after g all args events) (Put_cell a j v t)
      → cell_at (state_after g all args events).world a j ≡ Some (Filled v t)
  stored-each whole a j v t h = (filled-journal g all args events journal).stored whole h.0 a j v t h.1 h.2

  -- one store at most has arrived for it
  pub one-stored : (state_after g all args events).fault ≡ None → (m n a j u v t e : ℕ)
      → slice_get (state_after g all args events).sent m ≡ Some (Put_cell a j u t)
      → slice_get (state_after g all args events).sent n ≡ Some (Put_cell a j v e) → has (state_after g all args events).arrived m ≡ true
      → has (state_after g all args events).arrived n ≡ true → m ≡ n
  one-stored whole m n a j u v t e p q k l = (filled-journal g all args events journal).once whole m n a j u v t e p q k l

  -- who fetched waits, or was sent the word
  pub fetched-each : (state_after g all args events).fault ≡ None → (a j f x t : ℕ) → HasArrived (state_after g all args events) (Ask_cell a j f x t)
      → ((rs : List Reader) × (cell_at (state_after g all args events).world a j ≡ Some (Empty rs)) × Contains rs (f, x))
      ⊎ ((v e : ℕ) × (cell_at (state_after g all args events).world a j ≡ Some (Filled v e)) × WasSent (state_after g all args events) (Carry f x v))
  fetched-each whole a j f x t h = go ((filled-journal g all args events journal).fetched whole h.0 a j f x t h.1 h.2)
    where
      go : IsServed (state_after g all args events) a j f x
          → ((rs : List Reader) × (cell_at (state_after g all args events).world a j ≡ Some (Empty rs)) × Contains rs (f, x))
          ⊎ ((v e : ℕ) × (cell_at (state_after g all args events).world a j ≡ Some (Filled v e)) × WasSent (state_after g all args events) (Carry f x v))
      go (inl r) = inl (r.0, r.1, in-contains (f, x) r.0 r.2)
      go (inr r) = inr r

  -- what a cell has came by a store that arrived
  pub filled-by : (a j v t : ℕ) → cell_at (state_after g all args events).world a j ≡ Some (Filled v t)
      → HasArrived (state_after g all args events) (Put_cell a j v t)
  filled-by a j v t h = (once-journal g all args events journal).filled_by a j v t h

  -- who waits for a cell has asked for it
  pub waiting-asked : (a j : ℕ) (rs : List Reader) (f x : ℕ) → cell_at (state_after g all args events).world a j ≡ Some (Empty rs) → Contains rs (f, x)
      → (t : ℕ) × HasArrived (state_after g all args events) (Ask_cell a j f x t)
  waiting-asked a j rs f x e k =
      let r = each-contained (IsWaiting (state_after g all args events) a j) rs (f, x) ((words-journal g all args events journal).waits a j rs e).1 k in
      (r.1, (r.0, r.2, r.3))
