-- Where words come from, after a delivery: so it is behind each journal. One word at most is sent to each node, and before it arrives the node has none.
use Rattle.std.proofs.Common.{◌≡◌, ℕ, ◌^◌, ◌<◌, true, false, ◌==◌, List, [], ◌∷◌, ◌++◌, Some, length, slice_get}
use Rattle.std.proofs.Common.{refl, sym, ap, ◌∙◌, arith, subst, inl, inr, ◌⊎◌, ⊎_elim, true≢false}
use Rattle.std.proofs.lemmas.List.{length-append}
use Rattle.std.specs.List.{AllByRecursion}
use Rattle.tam_word.specs.Lists.{has}
use Rattle.tam_word.proofs.Each.{all-more, all-append, all-at_place, get-left}
use Rattle.tam_graph.specs.Graphs.{Graph, code_of, kind_at, is_split}
use Rattle.tam_graph.specs.Accepted.{IsAccepted}
use Rattle.tam_split.specs.GraphPartitions.{Partitions, are_valid}
use Rattle.tam_msgs.specs.declared.message.Message.{Message}
use Rattle.tam_msgs.specs.declared.message.Message.TheVariants.{Word as Carry, Fetch as Ask_cell}
use Rattle.tam_msgs.specs.Messages.{outside}
use Rattle.tam_istr.specs.Cells.{Reader, Empty, Filled}
use Rattle.tam_world.specs.Worlds.{World, Effect, Went, sends_only, changes, got, word_of}
use Rattle.tam_flow.specs.Journals.{State, after_delivery}
use Rattle.tam_flow.specs.Reached.{IsThere, kind_of, HasArrived, cell_at}
use Rattle.tam_flow.proofs.Arriving.{arrived-cases}
use Rattle.tam_flow.proofs.CellChanges.{some-eq}
use Rattle.tam_flow.proofs.DeliveryChanges.{changed-cell}
use Rattle.tam_flow.proofs.Deliveries.{not-outside, some-below}
use Rattle.tam_flow.proofs.Growing.{Grows, grows-got, grows-arrays}
use Rattle.tam_flow.proofs.Justified.{IsMessage}
use Rattle.tam_flow.proofs.Pairs.{Pairs, pairs-append, pairs-at}
use Rattle.tam_flow.proofs.SoundStates.{IsSoundState}
use Rattle.tam_flow.proofs.SentOnce.{IsOnceState, arrived-more, arrived-now}
use Rattle.tam_flow.proofs.WordSenders.{IsFor, WordsApart, for-eq}
use Rattle.tam_flow.proofs.Givers.{is_received}
use Rattle.tam_flow.proofs.Kept.{word-act}
use Rattle.tam_flow.proofs.ComingWords.{got-cases, got-here}
use Rattle.tam_flow.proofs.WordSources.{IsAskOf, WordCause, IsCaused, ReadersApart, IsWaiting, WaitHere, IsWordState, ask-kind, sends-uncut, one-ask}
use Rattle.tam_flow.proofs.WordSources.{caused-later}
use Rattle.tam_flow.proofs.Accesses.{with_new_cell}

-- a word is one of its receiver and its word
carry-eq : {f x u e y v : ℕ} → Carry f x u ≡ Carry e y v → (f ≡ e) × (x ≡ y) × (u ≡ v)
carry-eq q = (cc, cc, cc)

-- lists of one word
one-eq : {u v : ℕ} → u ∷ [] ≡ v ∷ [] → u ≡ v
one-eq q = cc

-- readers of one cell
pub empty-eq : {rs qs : List Reader} → Empty rs ≡ Empty qs → rs ≡ qs
empty-eq q = cc

-- a filled cell has no readers
pub filled-empty : {rs : List Reader} {u t : ℕ} → Filled u t ≡ Empty rs → ⊥
filled-empty q = cc

module _ (g : Graph) (args : List ℕ) (accepted : IsAccepted g) (all : Partitions) where
  module _ (valid : are_valid g all ≡ true) (s : State) (sound : IsSoundState g args s) (once : IsOnceState g args all s) (done : IsWordState g all s)
      (few : length s.world.activations < 2 ^ 32) where
    -- one word at most is sent to a node
    pub one-word : (m n f x u v : ℕ) → (f == outside) ≡ false → slice_get s.sent m ≡ Some (Carry f x u) → slice_get s.sent n ≡ Some (Carry f x v) → m ≡ n
    one-word m n f x u v inside e d =
        ⊎_elim (λ h. h) (λ h. absurd (⊎_elim (λ k. k f x inside (u, refl) (v, refl)) (λ k. k f x inside (v, refl) (u, refl)) h))
        (pairs-at WordsApart s.sent m n (Carry f x u) (Carry f x v) done.apart e d)

    -- where a word comes from that was sent
    pub word-cause : (n f x u : ℕ) → (f == outside) ≡ false → slice_get s.sent n ≡ Some (Carry f x u) → IsThere s.world f × WordCause g all s f x
    word-cause n f x u inside e = all-at_place (IsCaused g all s) s.sent n (Carry f x u) done.causes e f x inside (u, refl)

    module _ (m : ℕ) (x : Message) (is_sent : slice_get s.sent m ≡ Some x) (new : has s.arrived m ≡ false) where
      -- what arrives now hadn't arrived
      pub not-old : (n : ℕ) → has s.arrived n ≡ true → n ≡ m → ⊥
      not-old n h e = true≢false (sym (subst (λ k. has s.arrived k ≡ true) e h) ∙ new)

      -- what has its reason
      pub reason : IsMessage g args s.world x
      reason = all-at_place (IsMessage g args s.world) s.sent m x sound.sent is_sent

      -- what was sent stays sent
      pub sent : (more : List Message) (n : ℕ) (o : Message) → slice_get s.sent n ≡ Some o → slice_get (s.sent ++ more) n ≡ Some o
      sent more n o h = get-left s.sent more n (some-below s.sent n h) ∙ h

      -- what has arrived is this message, or had arrived
      pub arrives : (more : List Message) (n : ℕ) (o : Message) → slice_get (s.sent ++ more) n ≡ Some o → has (m ∷ s.arrived) n ≡ true → (x ≡ o)
          ⊎ HasArrived s o
      arrives more n o e h = ⊎_elim this old (arrived-cases m s.arrived n h)
        where
          this : m ≡ n → (x ≡ o) ⊎ HasArrived s o
          this k = inl (some-eq (sym (subst (λ i. slice_get (s.sent ++ more) i ≡ Some x) k (sent more m x is_sent)) ∙ e))

          old : has s.arrived n ≡ true → (x ≡ o) ⊎ HasArrived s o
          old k = inr (n, sym (get-left s.sent more n (done.before n k)) ∙ e, k)

      -- what has arrived was sent
      pub before : (more : List Message) (n : ℕ) → has (m ∷ s.arrived) n ≡ true → n < length (s.sent ++ more)
      before more n h =
          let e = length-append s.sent more in
          ⊎_elim (λ k. let l : n < length s.sent = subst (λ i. i < length s.sent) k (some-below s.sent m is_sent) in omega (arith, l, e))
          (λ k. let l = done.before n k in omega (arith, l, e)) (arrived-cases m s.arrived n h)

      -- a node of which this is the ask was sent no word
      pub unsent : (f y : ℕ) → IsAskOf f y x → AllByRecursion (λ o. IsFor f y o → ⊥) s.sent
      unsent f y ask = all-more (IsCaused g all s) (λ o. IsFor f y o → ⊥) (λ o k q. meet (k f y inside q)) s.sent done.causes
        where
          kind : IsThere s.world f × (is_split (kind_of g s.world f y) ≡ true)
          kind = ask-kind g args s.world sound.world f y x ask reason

          inside : (f == outside) ≡ false
          inside = not-outside g args f (length s.world.activations) kind.0 few

          meet : IsThere s.world f × WordCause g all s f y → ⊥
          meet (t, inl h) = true≢false (sym kind.1 ∙ ap is_split h.1)
          meet (t, inr (inl h)) = sends-uncut g s.world h.0 h.1 f y h.3 kind.1
          meet (t, inr (inr h)) =
              not-old h.1.0 h.1.3 (one-ask g args accepted all s sound once valid f y h.1.0 m h.1.1 x h.1.2 is_sent h.1.4 ask)

      -- who waits isn't answered where the answer is to this ask
      pub waits-on : (f y u a j : ℕ) (r : ℕ × ℕ) → IsAskOf f y x → IsWaiting s a j r → AllByRecursion (λ o. IsFor r.0 r.1 o → ⊥) (Carry f y u ∷ [])
      waits-on f y u a j r ask k = ((λ q. meet (for-eq q.1)), tt)
        where
          meet : (f ≡ r.0) × (y ≡ r.1) → ⊥
          meet e =
              not-old k.0 k.3 (one-ask g args accepted all s sound once valid r.0 r.1 k.0 m (Ask_cell a j r.0 r.1 k.1) x k.2 is_sent (refl, refl)
              (subst (λ z. IsAskOf r.0 z x) e.1 (subst (λ z. IsAskOf z y x) e.0 ask)))

      -- what is sent comes from somewhere, to a node to which none was sent
      abbrev pub IsFresh : State → Message → Type 0
      IsFresh v o = (f y : ℕ) → (f == outside) ≡ false → IsFor f y o
          → IsThere v.world f × WordCause g all v f y × AllByRecursion (λ p. IsFor f y p → ⊥) s.sent

      -- a delivery that goes well
      pub words-went : (e : Effect) → Grows s.world e.world → AllByRecursion (IsFresh (after_delivery s m (Went e))) e.sends → Pairs WordsApart e.sends
          → ((f y u : ℕ) → word_of e.world f y ≡ u ∷ [] → is_received (kind_of g e.world f y) ≡ true → HasArrived (after_delivery s m (Went e)) (Carry f y u))
          → ((f y u : ℕ) → HasArrived (after_delivery s m (Went e)) (Carry f y u) → (f == outside) ≡ false → word_of e.world f y ≡ u ∷ [])
          → WaitHere (after_delivery s m (Went e)) → IsWordState g all (after_delivery s m (Went e))
      words-went e grows fresh apart words carried waits = record {
        before = before e.sends;
        apart = pairs-append WordsApart s.sent e.sends done.apart apart
            (swap s.sent e.sends (all-more (IsFresh (after_delivery s m (Went e))) (λ o. AllByRecursion (λ p. WordsApart p o) s.sent)
            (λ o k. far s.sent o (λ f y inside q. (k f y inside q).2)) e.sends fresh));
        causes = all-append (IsCaused g all (after_delivery s m (Went e))) s.sent e.sends
            (all-more (IsCaused g all s) (IsCaused g all (after_delivery s m (Went e)))
            (caused-later g args accepted all s sound once (after_delivery s m (Went e)) grows (sent e.sends) (arrived-more m s.arrived) (λ i b c h. h))
            s.sent done.causes)
            (all-more (IsFresh (after_delivery s m (Went e))) (IsCaused g all (after_delivery s m (Went e)))
            (λ o k f y inside q. let r = k f y inside q in (r.0, r.1)) e.sends fresh);
        words = words;
        carried = carried;
        waits = waits;
      }
        where
          far : (ps : List Message) (o : Message) → ((f y : ℕ) → (f == outside) ≡ false → IsFor f y o → AllByRecursion (λ p. IsFor f y p → ⊥) ps)
              → AllByRecursion (λ p. WordsApart p o) ps
          far [] o h = tt
          far (p ∷ ps) o h = ((λ f y inside a b. (h f y inside b).0 a), far ps o (λ f y inside b. (h f y inside b).1))

          swap : (ps os : List Message) → AllByRecursion (λ o. AllByRecursion (λ p. WordsApart p o) ps) os
              → AllByRecursion (λ p. AllByRecursion (WordsApart p) os) ps
          swap [] os h = tt
          swap (p ∷ ps) os h = (
            all-more (λ o. AllByRecursion (λ q. WordsApart q o) (p ∷ ps)) (WordsApart p) (λ o k. k.0) os h,
            swap ps os (all-more (λ o. AllByRecursion (λ q. WordsApart q o) (p ∷ ps)) (λ o. AllByRecursion (λ q. WordsApart q o) ps) (λ o k. k.1) os h),
          )

      -- where no word changes
      module _ (e : Effect) (grows : Grows s.world e.world) (same : (f y : ℕ) → word_of e.world f y ≡ word_of s.world f y)
          (no_word : (f y u : ℕ) → x ≡ Carry f y u → (f == outside) ≡ false → ⊥) where
        -- each word is one that arrived
        pub words-same : (f y u : ℕ) → word_of e.world f y ≡ u ∷ [] → is_received (kind_of g e.world f y) ≡ true
            → HasArrived (after_delivery s m (Went e)) (Carry f y u)
        words-same f y u h takes =
            let old : word_of s.world f y ≡ u ∷ [] = sym (same f y) ∙ h in
            let t = word-act s.world f y u old in
            let r = done.words f y u old (subst (λ n. is_received (kind_at (code_of g n) y) ≡ true) (grows.code f t) takes) in
            (r.0, sent e.sends r.0 (Carry f y u) r.1, arrived-more m s.arrived r.0 r.2)

        -- and the other way round
        pub carried-same : (f y u : ℕ) → HasArrived (after_delivery s m (Went e)) (Carry f y u) → (f == outside) ≡ false → word_of e.world f y ≡ u ∷ []
        carried-same f y u h inside =
            ⊎_elim (λ k. absurd (no_word f y u k inside)) (λ k. same f y ∙ done.carried f y u k inside) (arrives e.sends h.0 (Carry f y u) h.1 h.2)

      -- one who waits still does where nothing is sent to it
      pub wait-later : (e : Effect) (a j : ℕ) (r : ℕ × ℕ) → IsWaiting s a j r → AllByRecursion (λ o. IsFor r.0 r.1 o → ⊥) e.sends
          → IsWaiting (after_delivery s m (Went e)) a j r
      wait-later e a j r p silent = (
        p.0,
        p.1,
        sent e.sends p.0 (Ask_cell a j r.0 r.1 p.1) p.2,
        arrived-more m s.arrived p.0 p.3,
        all-append (λ o. IsFor r.0 r.1 o → ⊥) s.sent e.sends p.4 silent,
      )

      -- who waits still does where the cells are the same or new, and nothing is sent to those who wait
      pub waits-same : (e : Effect) → ((a j : ℕ) (rs : List Reader) → cell_at e.world a j ≡ Some (Empty rs) → (rs ≡ [])
          ⊎ (cell_at s.world a j ≡ Some (Empty rs)))
          → ((a j : ℕ) (r : ℕ × ℕ) → IsWaiting s a j r → AllByRecursion (λ o. IsFor r.0 r.1 o → ⊥) e.sends) → WaitHere (after_delivery s m (Went e))
      waits-same e cells silent a j rs h = ⊎_elim (none rs) old (cells a j rs h)
        where
          none : (qs : List Reader) → qs ≡ [] → Pairs ReadersApart qs × AllByRecursion (IsWaiting (after_delivery s m (Went e)) a j) qs
          none [] q = (tt, tt)
          none (r ∷ qs) q = absurd (cons-nil q)
            where
              cons-nil : r ∷ qs ≡ [] → ⊥
              cons-nil d = cc

          old : cell_at s.world a j ≡ Some (Empty rs) → Pairs ReadersApart rs × AllByRecursion (IsWaiting (after_delivery s m (Went e)) a j) rs
          old q =
              let k = done.waits a j rs q in
              (k.0, all-more (IsWaiting s a j) (IsWaiting (after_delivery s m (Went e)) a j) (λ r p. wait-later e a j r p (silent a j r p)) rs k.1)

      -- an answer to this ask
      pub answers-it : (w : World) (f y u : ℕ) → IsAskOf f y x → Grows s.world w → ((e z : ℕ) → word_of w e z ≡ word_of s.world e z)
          → ((a j : ℕ) (rs : List Reader) → cell_at w a j ≡ Some (Empty rs) → (rs ≡ []) ⊎ (cell_at s.world a j ≡ Some (Empty rs)))
          → IsWordState g all (after_delivery s m (Went (sends_only w (Carry f y u ∷ []))))
      answers-it w f y u ask grows same cells =
          words-went (sends_only w (Carry f y u ∷ [])) grows (fresh, tt) (tt, tt) (words-same (sends_only w (Carry f y u ∷ [])) grows same no_word)
          (carried-same (sends_only w (Carry f y u ∷ [])) grows same no_word)
          (waits-same (sends_only w (Carry f y u ∷ [])) cells (λ a j r k. waits-on f y u a j r ask k))
        where
          v : State
          v = after_delivery s m (Went (sends_only w (Carry f y u ∷ [])))

          no_word : (e z t : ℕ) → x ≡ Carry e z t → (e == outside) ≡ false → ⊥
          no_word e z t q inside = subst (λ o. IsAskOf f y o) q ask

          kind : IsThere s.world f × (is_split (kind_of g s.world f y) ≡ true)
          kind = ask-kind g args s.world sound.world f y x ask reason

          base : IsThere w f × WordCause g all (after_delivery s m (Went (sends_only w (Carry f y u ∷ [])))) f y × AllByRecursion (λ p. IsFor f y p → ⊥) s.sent
          base = (
            grows.there f kind.0,
            inr (inr (
              ap (λ n. is_split (kind_at (code_of g n) y)) (grows.code f kind.0) ∙ kind.1,
              (m, x, sent (Carry f y u ∷ []) m x is_sent, arrived-now m s.arrived, ask),
            )),
            unsent f y ask,
          )

          fresh : IsFresh (after_delivery s m (Went (sends_only w (Carry f y u ∷ [])))) (Carry f y u)
          fresh e z inside q =
              let r = for-eq q.1 in
              subst (λ k. IsThere w e × WordCause g all (after_delivery s m (Went (sends_only w (Carry f y u ∷ [])))) e k
              × AllByRecursion (λ p. IsFor e k p → ⊥) s.sent) r.1
              (subst (λ k. IsThere w k × WordCause g all (after_delivery s m (Went (sends_only w (Carry f y u ∷ [])))) k y
              × AllByRecursion (λ p. IsFor k y p → ⊥) s.sent) r.0
              base)

      -- a word
      pub words-carry : (f y u : ℕ) → x ≡ Carry f y u → (f == outside) ≡ false → IsWordState g all (after_delivery s m (Went (changes (got s.world f y u))))
      words-carry f y u this inside =
          words-went (changes (got s.world f y u)) (grows-got s.world f y u) tt tt words carried
          (waits-same (changes (got s.world f y u)) (λ a j rs h. inr h) (λ a j r k. tt))
        where
          v : State
          v = after_delivery s m (Went (changes (got s.world f y u)))

          is_sent_here : slice_get s.sent m ≡ Some (Carry f y u)
          is_sent_here = is_sent ∙ ap Some this

          there : IsThere s.world f
          there = (word-cause m f y u inside is_sent_here).0

          words : (e z t : ℕ) → word_of (got s.world f y u) e z ≡ t ∷ [] → is_received (kind_of g (got s.world f y u) e z) ≡ true
              → HasArrived (after_delivery s m (Went (changes (got s.world f y u)))) (Carry e z t)
          words e z t h takes = ⊎_elim old now (got-cases s.world f y u e z)
            where
              old : word_of (got s.world f y u) e z ≡ word_of s.world e z → HasArrived (after_delivery s m (Went (changes (got s.world f y u)))) (Carry e z t)
              old q =
                  let w : word_of s.world e z ≡ t ∷ [] = sym q ∙ h in
                  let code = (grows-got s.world f y u).code e (word-act s.world e z t w) in
                  let r = done.words e z t w (subst (λ n. is_received (kind_at (code_of g n) z) ≡ true) code takes) in
                  (r.0, sent [] r.0 (Carry e z t) r.1, arrived-more m s.arrived r.0 r.2)

              now : (f ≡ e) × (y ≡ z) → HasArrived (after_delivery s m (Went (changes (got s.world f y u)))) (Carry e z t)
              now q =
                  let here : word_of (got s.world f y u) e z ≡ u ∷ [] =
                  subst (λ n. word_of (got s.world f y u) n z ≡ u ∷ []) q.0 (subst (λ n. word_of (got s.world f y u) f n ≡ u ∷ []) q.1
                  (got-here s.world f y u there)) in
                  let value : u ≡ t = one-eq (sym here ∙ h) in (
                    m,
                    sent [] m (Carry e z t) (subst (λ n. slice_get s.sent m ≡ Some (Carry e z n)) value
                        (subst (λ n. slice_get s.sent m ≡ Some (Carry e n u)) q.1 (subst (λ n. slice_get s.sent m ≡ Some (Carry n y u)) q.0 is_sent_here))),
                    arrived-now m s.arrived,
                  )

          carried : (e z t : ℕ) → HasArrived (after_delivery s m (Went (changes (got s.world f y u)))) (Carry e z t) → (e == outside) ≡ false
              → word_of (got s.world f y u) e z ≡ t ∷ []
          carried e z t h out = ⊎_elim now old (arrives [] h.0 (Carry e z t) h.1 h.2)
            where
              now : x ≡ Carry e z t → word_of (got s.world f y u) e z ≡ t ∷ []
              now q =
                  let r = carry-eq (sym this ∙ q) in
                  subst (λ n. word_of (got s.world f y u) n z ≡ t ∷ []) r.0
                  (subst (λ n. word_of (got s.world f y u) f n ≡ t ∷ []) r.1
                  (subst (λ n. word_of (got s.world f y u) f y ≡ n ∷ []) r.2 (got-here s.world f y u there)))

              old : HasArrived s (Carry e z t) → word_of (got s.world f y u) e z ≡ t ∷ []
              old k = ⊎_elim (λ q. q ∙ done.carried e z t k out) (λ q. absurd (twice q)) (got-cases s.world f y u e z)
                where
                  twice : (f ≡ e) × (y ≡ z) → ⊥
                  twice q =
                      not-old k.0 k.2 (one-word k.0 m f y t u inside
                      (subst (λ n. slice_get s.sent k.0 ≡ Some (Carry n y t)) (sym q.0) (subst (λ n. slice_get s.sent k.0 ≡ Some (Carry e n t)) (sym q.1) k.1))
                      is_sent_here)

      -- a fetch of an empty cell
      pub words-deferred : (a j f y t : ℕ) (rs : List Reader) → x ≡ Ask_cell a j f y t → cell_at s.world a j ≡ Some (Empty rs)
          → IsWordState g all (after_delivery s m (Went (changes (with_new_cell s.world a j (Empty (rs ++ (f, y) ∷ []))))))
      words-deferred a j f y t rs this was =
          words-went e (grows-arrays s.world e.world refl refl) tt tt
          (words-same e (grows-arrays s.world e.world refl refl) (λ k z. refl) no_word)
          (carried-same e (grows-arrays s.world e.world refl refl) (λ k z. refl) no_word) waits
        where
          e : Effect
          e = changes (with_new_cell s.world a j (Empty (rs ++ (f, y) ∷ [])))

          ask : IsAskOf f y x
          ask = subst (λ o. IsAskOf f y o) (sym this) (refl, refl)

          no_word : (k z u : ℕ) → x ≡ Carry k z u → (k == outside) ≡ false → ⊥
          no_word k z u q inside = subst (λ o. IsAskOf f y o) q ask

          stay : (b i : ℕ) (qs : List Reader) → AllByRecursion (IsWaiting s b i) qs
              → AllByRecursion (IsWaiting (after_delivery s m (Went (changes (with_new_cell s.world a j (Empty (rs ++ (f, y) ∷ [])))))) b i) qs
          stay b i qs h = all-more (IsWaiting s b i) (IsWaiting (after_delivery s m
              (Went (changes (with_new_cell s.world a j (Empty (rs ++ (f, y) ∷ [])))))) b i)
              (λ r k. wait-later e b i r k tt) qs h

          here : Pairs ReadersApart (rs ++ (f, y) ∷ []) × AllByRecursion
              (IsWaiting (after_delivery s m (Went (changes (with_new_cell s.world a j (Empty (rs ++ (f, y) ∷ [])))))) a j) (rs ++ (f, y) ∷ [])
          here =
              let old = done.waits a j rs was in (
                pairs-append ReadersApart rs ((f, y) ∷ []) old.0 (tt, tt)
                    (all-more (IsWaiting s a j) (λ r. AllByRecursion (ReadersApart r) ((f, y) ∷ []))
                    (λ r k. ((λ p q. (waits-on f y 0 a j r ask k).0 (0, same r p q)), tt)) rs old.1),
                all-append (IsWaiting (after_delivery s m (Went e)) a j) rs ((f, y) ∷ []) (stay a j rs old.1) (
                  (
                    m,
                    t,
                    sent [] m (Ask_cell a j f y t) (is_sent ∙ ap Some this),
                    arrived-now m s.arrived,
                    all-append (λ o. IsFor f y o → ⊥) s.sent [] (unsent f y ask) tt,
                  ),
                  tt,
                ),
              )
            where
              same : (r : ℕ × ℕ) → r.0 ≡ f → r.1 ≡ y → Carry f y 0 ≡ Carry r.0 r.1 0
              same r p q = ap (λ n. Carry n y 0) (sym p) ∙ ap (λ n. Carry r.0 n 0) (sym q)

          waits : WaitHere (after_delivery s m (Went (changes (with_new_cell s.world a j (Empty (rs ++ (f, y) ∷ []))))))
          waits b i qs h = ⊎_elim (λ q. let old = done.waits b i qs q in (old.0, stay b i qs old.1)) now
              (changed-cell s.world a j (Empty (rs ++ (f, y) ∷ [])) b i (Empty qs) h)
            where
              now : (a ≡ b) × (j ≡ i) × (Empty (rs ++ (f, y) ∷ []) ≡ Empty qs)
                  → Pairs ReadersApart qs × AllByRecursion (IsWaiting (after_delivery s m
                  (Went (changes (with_new_cell s.world a j (Empty (rs ++ (f, y) ∷ [])))))) b i) qs
              now q =
                  subst (λ l. Pairs ReadersApart l × AllByRecursion (IsWaiting (after_delivery s m (Went e)) b i) l) (empty-eq q.2)
                  (subst (λ n. Pairs ReadersApart (rs ++ (f, y) ∷ []) × AllByRecursion (IsWaiting (after_delivery s m (Went e)) n i) (rs ++ (f, y) ∷ [])) q.0
                  (subst (λ n. Pairs ReadersApart (rs ++ (f, y) ∷ []) × AllByRecursion (IsWaiting (after_delivery s m (Went e)) a n) (rs ++ (f, y) ∷ []))
                  q.1 here))
