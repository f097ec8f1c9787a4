-- One word at most is ever sent to a node, and before it arrives the node has none; a word that arrived is the node's word. So it is behind each legal journal.
use Rattle.std.proofs.Common.{◌≡◌, ◌≢◌, ℕ, ◌<◌, Bool, true, false, ◌==◌, List, [], ◌∷◌, ◌++◌, replicate, Option, Some, length, slice_get, unwrap_or, refl, sym}
use Rattle.std.proofs.Common.{◌∙◌, ◌^◌, subst, inl, inr, ◌⊎◌, ⊎_elim, true≢false}
use Rattle.std.specs.List.{AllByRecursion}
use Rattle.tam_word.specs.Lists.{has}
use Rattle.tam_word.proofs.Each.{all-more, all-map, all-at_place}
use Rattle.tam_word.proofs.Tests.{differs-number}
use Rattle.tam_graph.specs.Graphs.{Graph, is_split}
use Rattle.tam_graph.specs.Accepted.{IsAccepted}
use Rattle.tam_split.specs.GraphPartitions.{Partitions, are_valid}
use Rattle.tam_msgs.specs.declared.message.Message.{Message}
use Rattle.tam_msgs.specs.declared.message.Message.TheVariants.{Word as Carry, Frame as Begin, Cells as Make, Fetch as Ask_cell, Store as Put_cell}
use Rattle.tam_msgs.specs.Messages.{outside, answers}
use Rattle.tam_istr.specs.Cells.{Cell, Reader, Empty, Filled, with_array}
use Rattle.tam_world.specs.Worlds.{World, Effect, Went, Fault, sends_only, delivered, word_of}
use Rattle.tam_flow.specs.Journals.{State, Event, after_delivery, state_after}
use Rattle.tam_flow.specs.JournalLaws.{IsJournal}
use Rattle.tam_flow.specs.Reached.{IsThere, kind_of, Has, HasArrived, cell_at}
use Rattle.tam_flow.proofs.ActivationLists.{word-shape}
use Rattle.tam_flow.proofs.Arriving.{arrived-cases}
use Rattle.tam_flow.proofs.CellChanges.{some-eq, push-cases, all-same, cell-array}
use Rattle.tam_flow.proofs.DeliveryChanges.{changed-cell}
use Rattle.tam_flow.proofs.Deliveries.{some-below}
use Rattle.tam_flow.proofs.Growing.{with_begun, grows-same, grows-begun, grows-made, grows-arrays}
use Rattle.tam_flow.proofs.Justified.{IsMessage}
use Rattle.tam_flow.proofs.Pairs.{Pairs}
use Rattle.tam_flow.proofs.SoundStates.{IsSoundState, sound-journal}
use Rattle.tam_flow.proofs.SentOnce.{IsOnceState, arrived-more}
use Rattle.tam_flow.proofs.DeliveredOnce.{once-journal}
use Rattle.tam_flow.proofs.WordSenders.{IsFor, WordsApart, for-eq}
use Rattle.tam_flow.proofs.ComingWords.{begun-words}
use Rattle.tam_flow.proofs.WordSources.{WordCause, IsCaused, ReadersApart, IsWaiting, WaitHere, IsWordState, ask-kind, one-ask}
use Rattle.tam_flow.proofs.WordSources.{cause-takes, caused-later, words-initial, words-run}
use Rattle.tam_flow.proofs.Accesses.{with_new_cell, FetchCases, StoreCases, fetch-cases, store-cases, cell-here}
use Rattle.tam_flow.proofs.WordDeliveries.{filled-empty, one-word, word-cause, IsFresh, sent, words-went, words-same, carried-same, wait-later}
use Rattle.tam_flow.proofs.WordDeliveries.{answers-it, words-carry, words-deferred}
use Rattle.tam_flow.proofs.JournalSteps.{journal-keeps}

module _ (g : Graph) (args : List ℕ) (accepted : IsAccepted g) (all : Partitions) where
  module _ (valid : are_valid g all ≡ true) (s : State) (sound : IsSoundState g args s) (once : IsOnceState g args all s) (done : IsWordState g all s)
      (few : length s.world.activations < 2 ^ 32) (m : ℕ) (x : Message) (is_sent : slice_get s.sent m ≡ Some x) (new : has s.arrived m ≡ false) where
    -- answers to readers of whom no two are one are no two for one node
    answers-apart : (v : ℕ) (rs : List Reader) → Pairs ReadersApart rs → Pairs WordsApart (answers v rs)
    answers-apart v [] h = tt
    answers-apart v (r ∷ rs) h = (
      all-map (WordsApart (Carry r.0 r.1 v)) (λ q. Carry q.0 q.1 v) rs (all-more (ReadersApart r) (λ q. WordsApart (Carry r.0 r.1 v) (Carry q.0 q.1 v))
          (λ q k f y inside a b.
          let c = for-eq a.1 in let d = for-eq b.1 in k (c.0 ∙ sym d.0) (c.1 ∙ sym d.1)) rs h.0),
      answers-apart v rs h.1,
    )

    -- a store into an empty cell
    words-stored : (a j v t : ℕ) (rs : List Reader) → x ≡ Put_cell a j v t → cell_at s.world a j ≡ Some (Empty rs)
        → IsWordState g all (after_delivery s m (Went (sends_only (with_new_cell s.world a j (Filled v t)) (answers v rs))))
    words-stored a j v t rs this was =
        words-went g args accepted all valid s sound once done few m x is_sent new e (grows-arrays s.world e.world refl refl) fresh
        (answers-apart v rs old.0)
        (words-same g args accepted all valid s sound once done few m x is_sent new e (grows-arrays s.world e.world refl refl) (λ k z. refl) no_word)
        (carried-same g args accepted all valid s sound once done few m x is_sent new e (grows-arrays s.world e.world refl refl) (λ k z. refl) no_word)
        waits
      where
        e : Effect
        e = sends_only (with_new_cell s.world a j (Filled v t)) (answers v rs)

        old : Pairs ReadersApart rs × AllByRecursion (IsWaiting s a j) rs
        old = done.waits a j rs was

        no_word : (k z u : ℕ) → x ≡ Carry k z u → (k == outside) ≡ false → ⊥
        no_word k z u q inside = put-word (sym this ∙ q)
          where
            put-word : Put_cell a j v t ≡ Carry k z u → ⊥
            put-word d = cc

        -- who waits for the cell
        waiting : (r : Reader) → IsWaiting s a j r → IsThere s.world r.0 × (is_split (kind_of g s.world r.0 r.1) ≡ true)
        waiting r k =
            ask-kind g args s.world sound.world r.0 r.1 (Ask_cell a j r.0 r.1 k.1) (refl, refl)
            (all-at_place (IsMessage g args s.world) s.sent k.0 (Ask_cell a j r.0 r.1 k.1) sound.sent k.2)

        fresh : AllByRecursion (IsFresh g args accepted all valid s sound once done few m x is_sent new
            (after_delivery s m (Went (sends_only (with_new_cell s.world a j (Filled v t)) (answers v rs))))) (answers v rs)
        fresh =
            all-map (IsFresh g args accepted all valid s sound once done few m x is_sent new (after_delivery s m (Went e))) (λ r. Carry r.0 r.1 v) rs
            (all-more (IsWaiting s a j) (λ r. IsFresh g args accepted all valid s sound once done few m x is_sent new (after_delivery s m (Went e))
            (Carry r.0 r.1 v))
            one rs old.1)
          where
            one : (r : Reader) → IsWaiting s a j r → IsFresh g args accepted all valid s sound once done few m x is_sent new
                (after_delivery s m (Went (sends_only (with_new_cell s.world a j (Filled v t)) (answers v rs)))) (Carry r.0 r.1 v)
            one r k f y inside q =
                let kind = waiting r k in
                let c = for-eq q.1 in
                subst (λ n. IsThere s.world f × WordCause g all (after_delivery s m (Went e)) f n × AllByRecursion (λ p. IsFor f n p → ⊥) s.sent) c.1
                (subst (λ n. IsThere s.world n × WordCause g all (after_delivery s m (Went e)) n r.1 × AllByRecursion (λ p. IsFor n r.1 p → ⊥) s.sent) c.0 (
                  kind.0,
                  inr (inr (
                    kind.1,
                    (
                      k.0,
                      Ask_cell a j r.0 r.1 k.1,
                      sent g args accepted all valid s sound once done few m x is_sent new (answers v rs) k.0 (Ask_cell a j r.0 r.1 k.1) k.2,
                      arrived-more m s.arrived k.0 k.3,
                      (refl, refl),
                    ),
                  )),
                  k.4,
                ))

        -- one who waits for another cell isn't answered
        silent : (b i : ℕ) (qs : List Reader) → cell_at (with_new_cell s.world a j (Filled v t)) b i ≡ Some (Empty qs) → (r : Reader) → IsWaiting s b i r
            → AllByRecursion (λ o. IsFor r.0 r.1 o → ⊥) (answers v rs)
        silent b i qs h r k =
            all-map (λ o. IsFor r.0 r.1 o → ⊥) (λ q. Carry q.0 q.1 v) rs (all-more (IsWaiting s a j) (λ q. IsFor r.0 r.1 (Carry q.0 q.1 v) → ⊥) apart rs old.1)
          where
            ask-cells : {c d f y u p q z w l : ℕ} → Ask_cell c d f y u ≡ Ask_cell p q z w l → (c ≡ p) × (d ≡ q)
            ask-cells d = (cc, cc)

            apart : (q : Reader) → IsWaiting s a j q → IsFor r.0 r.1 (Carry q.0 q.1 v) → ⊥
            apart q l d =
                let c = for-eq d.1 in
                let same = one-ask g args accepted all s sound once valid r.0 r.1 l.0 k.0 (Ask_cell a j q.0 q.1 l.1) (Ask_cell b i r.0 r.1 k.1) l.2 k.2 c
                (refl, refl) in
                let cells = ask-cells (some-eq (sym (subst (λ n. slice_get s.sent n ≡ Some (Ask_cell a j q.0 q.1 l.1)) same l.2) ∙ k.2)) in
                filled-empty (some-eq (sym (cell-here s.world a j (Filled v t) (Empty rs) was)
                ∙ subst (λ n. cell_at (with_new_cell s.world a j (Filled v t)) n j ≡ Some (Empty qs)) (sym cells.0)
                (subst (λ n. cell_at (with_new_cell s.world a j (Filled v t)) b n ≡ Some (Empty qs)) (sym cells.1) h)))

        waits : WaitHere (after_delivery s m (Went (sends_only (with_new_cell s.world a j (Filled v t)) (answers v rs))))
        waits b i qs h = ⊎_elim stay (λ q. absurd (filled-empty q.2)) (changed-cell s.world a j (Filled v t) b i (Empty qs) h)
          where
            stay : cell_at s.world b i ≡ Some (Empty qs) → Pairs ReadersApart qs × AllByRecursion
                (IsWaiting (after_delivery s m (Went (sends_only (with_new_cell s.world a j (Filled v t)) (answers v rs)))) b i) qs
            stay q =
                let w = done.waits b i qs q in (
                  w.0,
                  all-more (IsWaiting s b i) (IsWaiting (after_delivery s m (Went e)) b i)
                      (λ r k. wait-later g args accepted all valid s sound once done few m x is_sent new e b i r k (silent b i qs h r k)) qs w.1,
                )

    -- where the world and the messages stay
    words-stay : (out : List (ℕ × ℕ)) (q : Option Fault) → ((f y u : ℕ) → x ≡ Carry f y u → (f == outside) ≡ false → ⊥)
        → IsWordState g all (record s { printed = out; fault = q; arrived = m ∷ s.arrived })
    words-stay out q no_word = record {
      before = λ n h. ⊎_elim (λ k. subst (λ i. i < length s.sent) k (some-below s.sent m is_sent)) (λ k. done.before n k) (arrived-cases m s.arrived n h);
      apart = done.apart;
      causes = all-more (IsCaused g all s) (IsCaused g all v)
          (caused-later g args accepted all s sound once v (grows-same s.world) (λ n o h. h) (arrived-more m s.arrived) (λ i b c h. h)) s.sent done.causes;
      words = λ f y u h takes. let r = done.words f y u h takes in (r.0, r.1, arrived-more m s.arrived r.0 r.2);
      carried = λ f y u h inside.
          ⊎_elim (λ k. absurd (no_word f y u (some-eq (sym is_sent ∙ subst (λ i. slice_get s.sent i ≡ Some (Carry f y u)) (sym k) h.1)) inside))
          (λ k. done.carried f y u (h.0, h.1, k) inside) (arrived-cases m s.arrived h.0 h.2);
      waits = λ a j rs h.
          let w = done.waits a j rs h in
          (w.0, all-more (IsWaiting s a j) (IsWaiting v a j) (λ r k. (k.0, k.1, k.2, arrived-more m s.arrived k.0 k.3, k.4)) rs w.1);
    }
      where
        v : State
        v = record s { printed = out; fault = q; arrived = m ∷ s.arrived }

  -- so each delivery keeps it
  pub words-delivered : (valid : are_valid g all ≡ true) (s : State) (sound : IsSoundState g args s) (once : IsOnceState g args all s) → IsWordState g all s
      → length s.world.activations < 2 ^ 32 → (m : ℕ) (x : Message) → slice_get s.sent m ≡ Some x → has s.arrived m ≡ false
      → IsWordState g all (after_delivery s m (delivered s.world x))
  words-delivered valid s sound once done few m (Carry f y u) is_sent new = go (f == outside) refl
    where
      go : (t : Bool) → (f == outside) ≡ t → IsWordState g all (after_delivery s m (delivered s.world (Carry f y u)))
      go true p =
          rw (delivered, p) (words-stay valid s sound once done few m (Carry f y u) is_sent new (s.printed ++ (y, u) ∷ []) s.fault
          (λ e z t q inside. true≢false (sym (subst (λ n. (n == outside) ≡ true) (for-eq q).0 p) ∙ inside)))
      go false p = rw (delivered, p) (words-carry g args accepted all valid s sound once done few m (Carry f y u) is_sent new f y u refl p)
  words-delivered valid s sound once done few m (Begin c f y) is_sent new =
      answers-it g args accepted all valid s sound once done few m (Begin c f y) is_sent new (with_begun s.world c f y) f y (length s.world.activations)
      (refl, refl) (grows-begun s.world c f y) (λ e z. begun-words s.world c f y e z) (λ a j rs h. inr h)
  words-delivered valid s sound once done few m (Make n f y) is_sent new =
      answers-it g args accepted all valid s sound once done few m (Make n f y) is_sent new w f y (length s.world.arrays)
      (refl, refl) (grows-made s.world w (f, y) refl refl) (λ e z. refl) cells
    where
      w : World
      w = record s.world { arrays = with_array s.world.arrays n; makers = s.world.makers ++ (f, y) ∷ [] }

      cells : (a j : ℕ) (rs : List Reader) → cell_at (record s.world { arrays = with_array s.world.arrays n; makers = s.world.makers ++ (f, y) ∷ [] }) a
          j ≡ Some (Empty rs)
          → (rs ≡ []) ⊎ (cell_at s.world a j ≡ Some (Empty rs))
      cells a j rs h = go (cell-array (with_array s.world.arrays n) a j (Empty rs) h)
        where
          empty-eq : {ps qs : List Reader} → Empty ps ≡ Empty qs → qs ≡ ps
          empty-eq d = cc

          go : (cs : List Cell) × (slice_get (with_array s.world.arrays n) a ≡ Some cs) × (slice_get cs j ≡ Some (Empty rs))
              → (rs ≡ []) ⊎ (cell_at s.world a j ≡ Some (Empty rs))
          go k =
              ⊎_elim (λ o. inr (subst (λ p. slice_get (unwrap_or p []) j ≡ Some (Empty rs)) (sym o) k.2))
              (λ r. inl (empty-eq (all-same n (Empty []) (Empty rs) j (subst (λ cs. slice_get cs j ≡ Some (Empty rs)) (sym r.1) k.2))))
              (push-cases s.world.arrays (replicate n (Empty [])) k.0 a k.1)
  words-delivered valid s sound once done few m (Ask_cell a j f y t) is_sent new = go (fetch-cases s.world a j f y t)
    where
      ask-word : {e z u : ℕ} → Ask_cell a j f y t ≡ Carry e z u → ⊥
      ask-word d = cc

      go : FetchCases s.world a j f y (delivered s.world (Ask_cell a j f y t)) → IsWordState g all (after_delivery s m (delivered s.world (Ask_cell a j f y t)))
      go (inl h) =
          subst (λ d. IsWordState g all (after_delivery s m d)) (sym h.1)
          (words-stay valid s sound once done few m (Ask_cell a j f y t) is_sent new s.printed (Some h.0) (λ e z u q inside. ask-word q))
      go (inr (inl h)) =
          subst (λ d. IsWordState g all (after_delivery s m d)) (sym h.3)
          (answers-it g args accepted all valid s sound once done few m (Ask_cell a j f y t) is_sent new s.world f y h.0 (refl, refl) (grows-same s.world)
          (λ e z. refl) (λ b i rs k. inr k))
      go (inr (inr h)) =
          subst (λ d. IsWordState g all (after_delivery s m d)) (sym h.2)
          (words-deferred g args accepted all valid s sound once done few m (Ask_cell a j f y t) is_sent new a j f y t h.0 refl h.1)
  words-delivered valid s sound once done few m (Put_cell a j v t) is_sent new = go (store-cases s.world a j v t)
    where
      put-word : {e z u : ℕ} → Put_cell a j v t ≡ Carry e z u → ⊥
      put-word d = cc

      go : StoreCases s.world a j v t (delivered s.world (Put_cell a j v t)) → IsWordState g all (after_delivery s m (delivered s.world (Put_cell a j v t)))
      go (inl h) =
          subst (λ d. IsWordState g all (after_delivery s m d)) (sym h.1)
          (words-stay valid s sound once done few m (Put_cell a j v t) is_sent new s.printed (Some h.0) (λ e z u q inside. put-word q))
      go (inr h) =
          subst (λ d. IsWordState g all (after_delivery s m d)) (sym h.2)
          (words-stored valid s sound once done few m (Put_cell a j v t) is_sent new a j v t h.0 refl h.1)

-- the state behind a journal
pub words-journal : (g : Graph) (all : Partitions) (args : List ℕ) (events : List Event) → IsJournal g all args events
    → IsWordState g all (state_after g all args events)
words-journal g all args events journal =
    journal-keeps g all args events journal (IsWordState g all) (words-initial g args all) (record {
      runs = λ s state whole done i b c run. words-run g args journal.accepted all journal.valid s state.sound state.once done state.few i b c run;
      arrives = λ s state whole done m x is_sent new. words-delivered g args journal.accepted all journal.valid s state.sound state.once done state.few m x
          is_sent new;
    })

module _ (g : Graph) (all : Partitions) (args : List ℕ) (events : List Event) (journal : IsJournal g all args events) where
  -- one word at most was ever sent to a node
  pub one-word-each : (m n f x u v : ℕ) → f ≢ outside → slice_get (state_after g all args events).sent m ≡ Some (Carry f x u)
      → slice_get (state_after g all args events).sent n ≡ Some (Carry f x v) → m ≡ n
  one-word-each m n f x u v out e d =
      one-word g args journal.accepted all journal.valid (state_after g all args events) (sound-journal g all args events journal)
      (once-journal g all args events journal) (words-journal g all args events journal) journal.few_activations m n f x u v (differs-number f outside out) e d

  -- a word that arrived is the node's word
  pub word-carried : (f x v : ℕ) → HasArrived (state_after g all args events) (Carry f x v) → f ≢ outside → Has (state_after g all args events) f x v
  word-carried f x v h out = (words-journal g all args events journal).carried f x v h (differs-number f outside out)

  -- before it arrives the node has no word
  pub no-word-yet : (m f x u : ℕ) → f ≢ outside → slice_get (state_after g all args events).sent m ≡ Some (Carry f x u)
      → has (state_after g all args events).arrived m ≡ false → word_of (state_after g all args events).world f x ≡ []
  no-word-yet m f x u out e new = ⊎_elim (λ h. h) (λ h. absurd (twice h.0 h.1)) (word-shape _ x)
    where
      done : IsWordState g all (state_after g all args events)
      done = words-journal g all args events journal

      inside : (f == outside) ≡ false
      inside = differs-number f outside out

      twice : (v : ℕ) → word_of (state_after g all args events).world f x ≡ v ∷ [] → ⊥
      twice v h =
          let c = word-cause g args journal.accepted all journal.valid (state_after g all args events) (sound-journal g all args events journal)
          (once-journal g all args events journal) done journal.few_activations m f x u inside e in
          let takes = cause-takes g args journal.accepted all (state_after g all args events) (sound-journal g all args events journal)
          (once-journal g all args events journal) f x c.1 in
          let k = done.words f x v h takes in
          true≢false (sym (subst (λ n. has (state_after g all args events).arrived n ≡ true) (one-word-each k.0 m f x v u out k.1 e) k.2) ∙ new)
