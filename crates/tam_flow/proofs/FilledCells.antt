-- While there is no fault: a cell for which a store arrived has its word, one store at most arrives for a cell, and who fetched waits or was sent the word.
use Rattle.std.proofs.Common.{◌≡◌, ℕ, ◌<◌, true, List, [], ◌∷◌, ◌++◌, Some, None, length, slice_get, refl, sym, ◌∙◌}
use Rattle.std.proofs.Common.{subst, inl, inr, ◌⊎◌, ⊎_elim}
use Rattle.tam_word.specs.Lists.{has}
use Rattle.tam_word.proofs.Each.{get-last}
use Rattle.tam_word.proofs.Members.{In, left-in, right-in, map-in, in-get}
use Rattle.tam_msgs.specs.declared.message.Message.{Message}
use Rattle.tam_msgs.specs.declared.message.Message.TheVariants.{Word as Carry, Fetch as Ask_cell, Store as Put_cell}
use Rattle.tam_msgs.specs.Messages.{answers}
use Rattle.tam_istr.specs.Cells.{Cell, Reader, Empty, Filled}
use Rattle.tam_world.specs.Worlds.{Went, Fault, changes, sends_only}
use Rattle.tam_flow.specs.Journals.{State, after_delivery}
use Rattle.tam_flow.specs.Reached.{cell_at, WasSent}
use Rattle.tam_flow.proofs.CellChanges.{none-some, some-eq}
use Rattle.tam_flow.proofs.Accesses.{with_new_cell, cell-here, cell-other}
use Rattle.tam_flow.proofs.WordDeliveries.{filled-empty, empty-eq}
use Rattle.tam_flow.proofs.WordSteps.{Continues, ThisNew, continues-delivery}

-- node x of activation f waits for cell j of array a, or was sent its word
abbrev pub IsServed : State → ℕ → ℕ → ℕ → ℕ → Type 0
IsServed s a j f x =
    ((rs : List Reader) × (cell_at s.world a j ≡ Some (Empty rs)) × In {X = ℕ × ℕ} (f, x) rs)
    ⊎ ((v e : ℕ) × (cell_at s.world a j ≡ Some (Filled v e)) × WasSent s (Carry f x v))

-- stores and fetches that arrived
pub record IsFilledState (s : State) : Type 0 where
  pub stored : s.fault ≡ None → (n a j v t : ℕ) → slice_get s.sent n ≡ Some (Put_cell a j v t) → has s.arrived n ≡ true
      → cell_at s.world a j ≡ Some (Filled v t)
  pub fetched : s.fault ≡ None → (n a j f x t : ℕ) → slice_get s.sent n ≡ Some (Ask_cell a j f x t) → has s.arrived n ≡ true → IsServed s a j f x
  pub once : s.fault ≡ None → (m n a j u v t e : ℕ) → slice_get s.sent m ≡ Some (Put_cell a j u t) → slice_get s.sent n ≡ Some (Put_cell a j v e)
      → has s.arrived m ≡ true → has s.arrived n ≡ true → m ≡ n

-- where cells stay and no access is new
pub filled-same : (s v : State) (New : ℕ → Message → Type 0) → Continues s v New → ((n a j u t : ℕ) → New n (Put_cell a j u t) → ⊥)
    → ((n a j f x t : ℕ) → New n (Ask_cell a j f x t) → ⊥) → ((a j : ℕ) (c : Cell) → cell_at s.world a j ≡ Some c → cell_at v.world a j ≡ Some c)
    → s.fault ≡ None → IsFilledState s → IsFilledState v
filled-same s v New on no_put no_ask cells whole h = record {
  stored = λ w n a j u t e q.
      ⊎_elim (λ r. cells a j (Filled u t) (h.stored whole n a j u t r.0 r.1)) (λ r. absurd (no_put n a j u t r)) (on.back n (Put_cell a j u t) e q);
  fetched = λ w n a j f x t e q. ⊎_elim (λ r. later a j f x (h.fetched whole n a j f x t r.0 r.1)) (λ r. absurd (no_ask n a j f x t r))
      (on.back n (Ask_cell a j f x t) e q);
  once = λ w m n a j u y t e p q k l.
      ⊎_elim (λ r. ⊎_elim (λ z. h.once whole m n a j u y t e r.0 z.0 r.1 z.1) (λ z. absurd (no_put n a j y e z)) (on.back n (Put_cell a j y e) q l))
      (λ r. absurd (no_put m a j u t r)) (on.back m (Put_cell a j u t) p k);
}
  where
    later : (a j f x : ℕ) → IsServed s a j f x → IsServed v a j f x
    later a j f x (inl r) = inl (r.0, cells a j (Empty r.0) r.1, r.2)
    later a j f x (inr r) = inr (r.0, r.1, cells a j (Filled r.0 r.1) r.2, (r.3.0, on.sent r.3.0 (Carry f x r.0) r.3.1))

-- behind a fault nothing is asked
pub filled-fault : (v : State) (q : Fault) → v.fault ≡ Some q → IsFilledState v
filled-fault v q e = record {
  stored = λ w n a j u t k r. absurd (none-some (sym w ∙ e));
  fetched = λ w n a j f x t k r. absurd (none-some (sym w ∙ e));
  once = λ w m n a j u y t d k l p r. absurd (none-some (sym w ∙ e));
}

-- a fetch is one of its array, its index and its reader
ask-eq : {a j f x t b i e y u : ℕ} → Ask_cell a j f x t ≡ Ask_cell b i e y u → (a ≡ b) × (j ≡ i) × (f ≡ e) × (x ≡ y)
ask-eq q = (cc, cc, cc, cc)

-- a store is one of its array, its index, its word and its site
put-eq : {a j u t b i v e : ℕ} → Put_cell a j u t ≡ Put_cell b i v e → (a ≡ b) × (j ≡ i) × (u ≡ v) × (t ≡ e)
put-eq q = (cc, cc, cc, cc)

-- a fetch is no store
ask-put : {a j f x t b i u e : ℕ} → Ask_cell a j f x t ≡ Put_cell b i u e → ⊥
ask-put q = cc

module _ (s : State) (before : (n : ℕ) → has s.arrived n ≡ true → n < length s.sent) (whole : s.fault ≡ None) (h : IsFilledState s) (m : ℕ) where
  -- of a cell that is empty no store has arrived
  none-stored : (n a j u t : ℕ) (rs : List Reader) → cell_at s.world a j ≡ Some (Empty rs) → slice_get s.sent n ≡ Some (Put_cell a j u t)
      → has s.arrived n ≡ true → ⊥
  none-stored n a j u t rs was e q = filled-empty (some-eq (sym (h.stored whole n a j u t e q) ∙ was))

  -- a fetch of a cell that has a word
  pub filled-now : (a j f x t u e : ℕ) → slice_get s.sent m ≡ Some (Ask_cell a j f x t) → cell_at s.world a j ≡ Some (Filled u e)
      → IsFilledState (after_delivery s m (Went (sends_only s.world (Carry f x u ∷ []))))
  filled-now a j f x t u e is_sent was = record {
    stored = λ w n b i y d p q. ⊎_elim (λ r. h.stored whole n b i y d r.0 r.1) (λ r. absurd (ask-put r.1)) (on.back n (Put_cell b i y d) p q);
    fetched = λ w n b i k z d p q. ⊎_elim (λ r. later b i k z (h.fetched whole n b i k z d r.0 r.1)) (λ r. this b i k z (ask-eq r.1))
        (on.back n (Ask_cell b i k z d) p q);
    once = λ w l n b i y z d k p q r o.
        ⊎_elim (λ c. ⊎_elim (λ v. h.once whole l n b i y z d k c.0 v.0 c.1 v.1) (λ v. absurd (ask-put v.1)) (on.back n (Put_cell b i z k) q o))
        (λ c. absurd (ask-put c.1)) (on.back l (Put_cell b i y d) p r);
  }
    where
      v : State
      v = after_delivery s m (Went (sends_only s.world (Carry f x u ∷ [])))

      on : Continues s (after_delivery s m (Went (sends_only s.world (Carry f x u ∷ [])))) (ThisNew m (Ask_cell a j f x t))
      on = continues-delivery s before m (Ask_cell a j f x t) is_sent (Went (sends_only s.world (Carry f x u ∷ [])))

      later : (b i k z : ℕ) → IsServed s b i k z → IsServed (after_delivery s m (Went (sends_only s.world (Carry f x u ∷ [])))) b i k z
      later b i k z (inl r) = inl r
      later b i k z (inr r) = inr (r.0, r.1, r.2, (r.3.0, on.sent r.3.0 (Carry k z r.0) r.3.1))

      here : IsServed (after_delivery s m (Went (sends_only s.world (Carry f x u ∷ [])))) a j f x
      here = inr (u, e, was, (length s.sent, get-last s.sent (Carry f x u)))

      this : (b i k z : ℕ) → (a ≡ b) × (j ≡ i) × (f ≡ k) × (x ≡ z) → IsServed (after_delivery s m (Went (sends_only s.world (Carry f x u ∷ [])))) b i k z
      this b i k z r = subst (λ n. IsServed v n i k z) r.0 (subst (λ n. IsServed v a n k z) r.1
          (subst (λ n. IsServed v a j n z) r.2 (subst (λ n. IsServed v a j f n) r.3 here)))

  module _ (a j : ℕ) (rs : List Reader) (was : cell_at s.world a j ≡ Some (Empty rs)) (c : Cell) (ms : List Message) where
    -- the state with the cell changed, and these messages sent
    abbrev after_change : State
    after_change = after_delivery s m (Went (sends_only (with_new_cell s.world a j c) ms))

    -- a cell that had a word has it
    word-stays : (b i v t : ℕ) → cell_at s.world b i ≡ Some (Filled v t) → cell_at after_change.world b i ≡ Some (Filled v t)
    word-stays b i v t e = ⊎_elim (λ q. absurd (same q)) (λ q. q) (cell-other s.world a j c (Empty rs) was b i (Filled v t) e)
      where
        same : (a ≡ b) × (j ≡ i) → ⊥
        same q = filled-empty (some-eq (sym e ∙ subst (λ n. cell_at s.world n i ≡ Some (Empty rs)) q.0
            (subst (λ n. cell_at s.world a n ≡ Some (Empty rs)) q.1 was)))

    module _ (x : Message) (is_sent : slice_get s.sent m ≡ Some x) where
      -- the state goes on
      on : Continues s after_change (ThisNew m x)
      on = continues-delivery s before m x is_sent (Went (sends_only (with_new_cell s.world a j c) ms))

      -- who was served still is, where those who wait for this cell are
      served-later : ((f y : ℕ) → In {X = ℕ × ℕ} (f, y) rs → IsServed after_change a j f y) → (b i f y : ℕ) → IsServed s b i f y → IsServed after_change b i f y
      served-later here b i f y (inl r) = ⊎_elim same (λ q. inl (r.0, q, r.2)) (cell-other s.world a j c (Empty rs) was b i (Empty r.0) r.1)
        where
          same : (a ≡ b) × (j ≡ i) → IsServed after_change b i f y
          same q =
              let e = empty-eq (some-eq (sym r.1 ∙ subst (λ n. cell_at s.world n i ≡ Some (Empty rs)) q.0
              (subst (λ n. cell_at s.world a n ≡ Some (Empty rs)) q.1 was))) in
              subst (λ n. IsServed after_change n i f y) q.0 (subst (λ n. IsServed after_change a n f y) q.1
              (here f y (subst (λ l. In {X = ℕ × ℕ} (f, y) l) e r.2)))
      served-later here b i f y (inr r) = inr (r.0, r.1, word-stays b i r.0 r.1 r.2, (r.3.0, on.sent r.3.0 (Carry f y r.0) r.3.1))

  -- a fetch of an empty cell
  pub filled-deferred : (a j f x t : ℕ) (rs : List Reader) → slice_get s.sent m ≡ Some (Ask_cell a j f x t) → cell_at s.world a j ≡ Some (Empty rs)
      → IsFilledState (after_delivery s m (Went (changes (with_new_cell s.world a j (Empty (rs ++ (f, x) ∷ []))))))
  filled-deferred a j f x t rs is_sent was = record {
    stored = λ w n b i y d p q. ⊎_elim (λ r. word-stays a j rs was c [] b i y d (h.stored whole n b i y d r.0 r.1)) (λ r. absurd (ask-put r.1))
        (go.back n (Put_cell b i y d) p q);
    fetched = λ w n b i k z d p q.
        ⊎_elim (λ r. served-later a j rs was c [] (Ask_cell a j f x t) is_sent
        (λ e y o. inl (rs ++ (f, x) ∷ [], here, left-in (e, y) rs ((f, x) ∷ []) o)) b i k z
        (h.fetched whole n b i k z d r.0 r.1)) (λ r. this b i k z (ask-eq r.1)) (go.back n (Ask_cell b i k z d) p q);
    once = λ w l n b i y z d k p q r o.
        ⊎_elim (λ e. ⊎_elim (λ v. h.once whole l n b i y z d k e.0 v.0 e.1 v.1) (λ v. absurd (ask-put v.1)) (go.back n (Put_cell b i z k) q o))
        (λ e. absurd (ask-put e.1)) (go.back l (Put_cell b i y d) p r);
  }
    where
      c : Cell
      c = Empty (rs ++ (f, x) ∷ [])

      v : State
      v = after_delivery s m (Went (changes (with_new_cell s.world a j (Empty (rs ++ (f, x) ∷ [])))))

      go : Continues s (after_delivery s m (Went (changes (with_new_cell s.world a j (Empty (rs ++ (f, x) ∷ [])))))) (ThisNew m (Ask_cell a j f x t))
      go = on a j rs was (Empty (rs ++ (f, x) ∷ [])) [] (Ask_cell a j f x t) is_sent

      here : cell_at (with_new_cell s.world a j (Empty (rs ++ (f, x) ∷ []))) a j ≡ Some (Empty (rs ++ (f, x) ∷ []))
      here = cell-here s.world a j (Empty (rs ++ (f, x) ∷ [])) (Empty rs) was

      new : IsServed (after_delivery s m (Went (changes (with_new_cell s.world a j (Empty (rs ++ (f, x) ∷ [])))))) a j f x
      new = inl (rs ++ (f, x) ∷ [], here, right-in (f, x) rs ((f, x) ∷ []) (inl refl))

      this : (b i k z : ℕ) → (a ≡ b) × (j ≡ i) × (f ≡ k) × (x ≡ z)
          → IsServed (after_delivery s m (Went (changes (with_new_cell s.world a j (Empty (rs ++ (f, x) ∷ [])))))) b i k z
      this b i k z r = subst (λ n. IsServed v n i k z) r.0 (subst (λ n. IsServed v a n k z) r.1
          (subst (λ n. IsServed v a j n z) r.2 (subst (λ n. IsServed v a j f n) r.3 new)))

  -- a store into an empty cell
  pub filled-stored : (a j u t : ℕ) (rs : List Reader) → slice_get s.sent m ≡ Some (Put_cell a j u t) → cell_at s.world a j ≡ Some (Empty rs)
      → IsFilledState (after_delivery s m (Went (sends_only (with_new_cell s.world a j (Filled u t)) (answers u rs))))
  filled-stored a j u t rs is_sent was = record {
    stored = λ w n b i y d p q. ⊎_elim (λ r. word-stays a j rs was (Filled u t) (answers u rs) b i y d (h.stored whole n b i y d r.0 r.1))
        (λ r. this b i y d (put-eq r.1)) (go.back n (Put_cell b i y d) p q);
    fetched = λ w n b i k z d p q.
        ⊎_elim (λ r. served-later a j rs was (Filled u t) (answers u rs) (Put_cell a j u t) is_sent waiting b i k z (h.fetched whole n b i k z d r.0 r.1))
        (λ r. absurd (ask-put (sym r.1))) (go.back n (Ask_cell b i k z d) p q);
    once = λ w l n b i y z d k p q r o.
        ⊎_elim (λ e. ⊎_elim (λ v. h.once whole l n b i y z d k e.0 v.0 e.1 v.1) (λ v. absurd (twice l b i y d (put-eq v.1) e.0 e.1))
        (go.back n (Put_cell b i z k) q o))
        (λ e. ⊎_elim (λ v. absurd (twice n b i z k (put-eq e.1) v.0 v.1)) (λ v. sym e.0 ∙ v.0) (go.back n (Put_cell b i z k) q o))
        (go.back l (Put_cell b i y d) p r);
  }
    where
      v : State
      v = after_delivery s m (Went (sends_only (with_new_cell s.world a j (Filled u t)) (answers u rs)))

      go : Continues s (after_delivery s m (Went (sends_only (with_new_cell s.world a j (Filled u t)) (answers u rs)))) (ThisNew m (Put_cell a j u t))
      go = on a j rs was (Filled u t) (answers u rs) (Put_cell a j u t) is_sent

      here : cell_at (with_new_cell s.world a j (Filled u t)) a j ≡ Some (Filled u t)
      here = cell-here s.world a j (Filled u t) (Empty rs) was

      this : (b i y d : ℕ) → (a ≡ b) × (j ≡ i) × (u ≡ y) × (t ≡ d) → cell_at (with_new_cell s.world a j (Filled u t)) b i ≡ Some (Filled y d)
      this b i y d r =
          subst (λ n. cell_at v.world n i ≡ Some (Filled y d)) r.0 (subst (λ n. cell_at v.world a n ≡ Some (Filled y d)) r.1
          (subst (λ n. cell_at v.world a j ≡ Some (Filled n d)) r.2 (subst (λ n. cell_at v.world a j ≡ Some (Filled u n)) r.3 here)))

      waiting : (f y : ℕ) → In {X = ℕ × ℕ} (f, y) rs → IsServed (after_delivery s m
          (Went (sends_only (with_new_cell s.world a j (Filled u t)) (answers u rs)))) a j f y
      waiting f y o = inr (
        u,
        t,
        here,
        in-get (Carry f y u) (s.sent ++ answers u rs)
            (right-in (Carry f y u) s.sent (answers u rs) (map-in (λ r. Carry r.0 r.1 u) (f, y) rs o)),
      )

      twice : (n b i y d : ℕ) {w e : ℕ} → (a ≡ b) × (j ≡ i) × (u ≡ w) × (t ≡ e) → slice_get s.sent n ≡ Some (Put_cell b i y d) → has s.arrived n ≡ true → ⊥
      twice n b i y d r e q =
          none-stored n a j y d rs was (subst (λ z. slice_get s.sent n ≡ Some (Put_cell z j y d)) (sym r.0)
          (subst (λ z. slice_get s.sent n ≡ Some (Put_cell b z y d)) (sym r.1) e)) q
