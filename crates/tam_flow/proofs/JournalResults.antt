-- What a journal printed: each word is a result of the rules, of a place one at most, and behind a quiet journal the words are exactly the results.
use Rattle.std.proofs.Common.{◌≡◌, ◌↔◌, ℕ, zero, suc, ◌<◌, Bool, true, false, not, ◌==◌, List, [], ◌∷◌, length, filter, Some, slice_get, slice_index_or}
use Rattle.std.proofs.Common.{Contains, refl, sym, ap, ◌∙◌, arith, subst, inl, inr, true≢false}
use Rattle.tam_word.specs.Lists.{below, any_of}
use Rattle.tam_word.proofs.Each.{all-at_place}
use Rattle.tam_word.proofs.Tests.{number-eq, self-eq, not-true}
use Rattle.tam_word.proofs.Members.{In, in-get, in-any, any-in, in-below, below-in, in-filter, filter-in}
use Rattle.tam_graph.specs.declared.kind.Kind.{Kind}
use Rattle.tam_graph.specs.declared.kind.Kind.TheVariants.{Call, Give}
use Rattle.tam_graph.specs.Graphs.{Graph, code_of, kind_at, depth_at, operands_of}
use Rattle.tam_split.specs.GraphPartitions.{Partitions}
use Rattle.tam_fire.specs.FiringRules.{Word, Fired, Result}
use Rattle.tam_msgs.specs.declared.message.Message.TheVariants.{Word as Carry}
use Rattle.tam_msgs.specs.Messages.{outside}
use Rattle.tam_msgs.specs.Runs.{is_without}
use Rattle.tam_world.specs.Worlds.{World, its_code}
use Rattle.tam_flow.specs.Journals.{State, Event, state_after, IsQuiet}
use Rattle.tam_flow.specs.Told.{meant_at, HaveWords, HasWord, Tells}
use Rattle.tam_flow.specs.JournalLaws.{IsJournal}
use Rattle.tam_flow.specs.Reached.{IsReached, kind_of, Ran, WasSent}
use Rattle.tam_flow.proofs.Claims.{kind-here}
use Rattle.tam_flow.proofs.Completeness.{complete}
use Rattle.tam_flow.proofs.JournalsReached.{journals-reached}
use Rattle.tam_flow.proofs.Quiet.{sent-arrived}
use Rattle.tam_flow.proofs.OutsideWords.{IsOutCaused, IsOutState, out-journal}

-- ---- lists

-- an element by its place
pub contains-in : {X : Type 0} (xs : List X) (x : X) → Contains xs x → In x xs
contains-in {X} xs x h = go xs h.0 h.1 h.2
  where
    go : (ys : List X) (k : ℕ) → k < length ys → slice_index_or ys k x ≡ x → In x ys
    go [] k l e = absurd (omega arith)
    go (y ∷ ys) zero l e = inl e
    go (y ∷ ys) (suc k) l e = inr (go ys k (omega arith) e)

-- and the place of an element
pub in-contains : {X : Type 0} (x : X) (xs : List X) → In x xs → Contains xs x
in-contains x [] i = absurd i
in-contains x (y ∷ ys) (inl e) = (0, omega arith, e)
in-contains x (y ∷ ys) (inr i) = let r = in-contains x ys i in (suc r.0, omega (arith, r.1), r.2)

-- ---- words

-- a word that means a word is it
meant-word : (w : World) (k : Kind) (d u v : ℕ) → Word v ≡ meant_at w k d u → v ≡ u
meant-word w (Call c) d u v e = absurd (cc)
meant-word w k zero u v e = cc
meant-word w k (suc d) u v e = absurd (cc)

-- the operand of a result has its word
give-has : (g : Graph) (w : World) (k a v : ℕ) (d : Kind) → d ≡ Give k a → HaveWords g w 0 (operands_of (its_code g w 0) d) (Word v ∷ [])
    → HasWord g w 0 a (Word v)
give-has g w k a v d e h = (subst (λ c. HaveWords g w 0 (operands_of (its_code g w 0) c) (Word v ∷ [])) e h).0

module _ (g : Graph) (all : Partitions) (args : List ℕ) (events : List Event) (journal : IsJournal g all args events) where
  -- the state behind the journal
  abbrev s : State
  s = state_after g all args events

  -- it is reached
  reached : IsReached g all args (state_after g all args events)
  reached = journals-reached g all args events journal

  -- what it sent outside
  out : IsOutState g args all (state_after g all args events)
  out = out-journal g all args events journal

  -- each printed word is a result
  pub printed-result : (k u : ℕ) → Contains (state_after g all args events).printed (k, u) → Result g args k u
  printed-result k u h = go (in-get {X = ℕ × ℕ} (k, u) s.printed (contains-in {X = ℕ × ℕ} s.printed (k, u) h))
    where
      go : (n : ℕ) × (slice_get (state_after g all args events).printed n ≡ Some (k, u)) → Result g args k u
      go r =
          let a = out.printed r.0 k u r.1 in
          let c = all-at_place (IsOutCaused g args all s) s.sent a.0 (Carry outside k u) out.causes a.1 k u refl in
          record {
            node = c.0;
            operand = c.2.operand;
            gives = subst (λ n. kind_at (code_of g n) c.0 ≡ Give k c.2.operand) reached.activations.root_code c.2.is_give;
            fired = c.2.fired;
          }

  -- no place has two
  pub printed-once : (i j k v w : ℕ) → slice_get (state_after g all args events).printed i ≡ Some (k, v)
      → slice_get (state_after g all args events).printed j ≡ Some (k, w) → i ≡ j
  printed-once i j k v w p q = out.once i j k v w p q

  module _ (quiet : IsQuiet g all args events) where
    -- what the root's result has done
    root-ran : (y k a w : ℕ) → kind_of g s.world 0 y ≡ Give k a → Ran g all s 0 y
        → HaveWords g s.world 0 (operands_of (its_code g s.world 0) (kind_of g s.world 0 y)) (Word w ∷ []) → Contains s.printed (k, w)
    root-ran y k a w kind ran have =
        let h = give-has g s.world k a w (kind_of g s.world 0 y) kind have in
        let same = meant-word s.world (kind_of g s.world 0 a) (depth_at (its_code g s.world 0) a) h.0 w h.2 in
        let sent : WasSent s (Carry outside k w) = reached.outlets.result_printed y k a w ran kind (h.1 ∙ ap (λ z. z ∷ []) (sym same)) in
        reached.arrivals.printed k w
        (sent-arrived g all s (record { whole = quiet.whole; ended = quiet.ended }) (Carry outside k w) sent)

    -- each result is printed
    pub result-printed : (k w : ℕ) → Result g args k w → Contains (state_after g all args events).printed (k, w)
    result-printed k w r = go ((complete journals-reached g all args events journal quiet).firings [] r.node (Word w ∷ []) r.fired)
      where
        go : Tells g all (state_after g all args events) (Fired [] r.node (Word w ∷ [])) → Contains (state_after g all args events).printed (k, w)
        go t =
            let root : t.0 ≡ 0 = reached.activations.paths_differ t.0 0 t.1.0 reached.activations.root (t.1.1 ∙ sym reached.activations.root_path) in
            root-ran r.node k r.operand w
            (kind-here g all args s reached [] 0 r.node (Give k r.operand) (reached.activations.root, reached.activations.root_path) r.gives)
            (subst (λ n. Ran g all s n r.node) root t.3)
            (subst (λ n. HaveWords g s.world n (operands_of (its_code g s.world n) (kind_of g s.world n r.node)) (Word w ∷ [])) root t.4)

    -- a place without a printed word has no result, and the other way round
    pub without-result : (k : ℕ) → is_without (state_after g all args events).printed k ≡ true → (w : ℕ) → ¬ Result g args k w
    without-result k h w r =
        true≢false (sym (in-any (λ (kw : ℕ × ℕ). kw.0 == k) s.printed (k, w) (contains-in {X = ℕ × ℕ} s.printed (k, w) (result-printed k w r)) (self-eq k))
        ∙ not-true (any_of (λ (kw : ℕ × ℕ). kw.0 == k) s.printed) h)

    -- a place of which the rules give nothing has no printed word
    pub resultless : (k : ℕ) → ((w : ℕ) → ¬ Result g args k w) → is_without (state_after g all args events).printed k ≡ true
    resultless k h = go (any_of (λ (kw : ℕ × ℕ). kw.0 == k) s.printed) refl
      where
        go : (t : Bool) → any_of (λ (kw : ℕ × ℕ). kw.0 == k) (state_after g all args events).printed ≡ t
            → not (any_of (λ (kw : ℕ × ℕ). kw.0 == k) (state_after g all args events).printed) ≡ true
        go false e = ap not e
        go true e =
            let r = any-in (λ (kw : ℕ × ℕ). kw.0 == k) s.printed e in
            absurd (h r.0.1 (printed-result k r.0.1
            (subst (λ z. Contains s.printed (z, r.0.1)) (number-eq r.0.0 k r.2) (in-contains {X = ℕ × ℕ} r.0 s.printed r.1))))

    -- what is missing is what the rules give nothing of
    pub missing-is : (n k : ℕ) → Contains (filter (is_without (state_after g all args events).printed) (below n)) k
        ↔ ((k < n) × ((w : ℕ) → ¬ Result g args k w))
    missing-is n k = (there, back)
      where
        there : Contains (filter (is_without (state_after g all args events).printed) (below n)) k → (k < n) × ((w : ℕ) → ¬ Result g args k w)
        there h =
            let r = in-filter (is_without s.printed) k (below n) (contains-in (filter (is_without s.printed) (below n)) k h) in
            (in-below k n r.0, without-result k r.1)

        back : (k < n) × ((w : ℕ) → ¬ Result g args k w) → Contains (filter (is_without (state_after g all args events).printed) (below n)) k
        back h = in-contains k (filter (is_without s.printed) (below n)) (filter-in (is_without s.printed) k (below n) (below-in k n h.0) (resultless k h.1))
