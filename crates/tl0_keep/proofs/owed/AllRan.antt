-- Where each class of an activation's entered blocks has run and none of its threads is ready, each of its threads has run, or runs for a block that
-- wasn't chosen.
use Rattle.std.proofs.Common.{◌≡◌, ℕ, zero, suc, ◌+◌, ◌<◌, ◌≤◌, Bool, true, false, List, [], ◌∷◌, Some, None, slice_get, length, refl, sym, ap, subst, ◌∙◌}
use Rattle.std.proofs.Common.{Option, inl, inr, ◌⊎◌, arith, true≢false}
use Rattle.std.specs.Prelude.{option_to_list, is_some}
use Rattle.tam_word.proofs.Members.{In}
use Rattle.tam_msgs.specs.declared.limits.Limits.{Limits}
use Rattle.tam_msgs.specs.Messages.{AreLimits}
use Rattle.tam_graph.specs.declared.kind.Kind.{Kind}
use Rattle.tam_graph.specs.declared.kind.Kind.TheVariants.{Cond, Switch as Choose}
use Rattle.tam_graph.specs.Graphs.{Code, Graph, AreArguments, kind_at, block_at, owner_of, node_in, is_enter, is_outlet, operands_of}
use Rattle.tam_graph.specs.Graphs.{chosen_branch, branch_of_kind, test_of_kind}
use Rattle.tam_graph.specs.Accepted.{IsAccepted}
use Rattle.tam_graph.proofs.BranchBlocks.{has-body, branches-below}
use Rattle.tam_graph.proofs.FewNodes.{block-below}
use Rattle.tam_split.specs.declared.vertex.Vertex.{Vertex}
use Rattle.tam_split.specs.Blocks.{block_graph}
use Rattle.tam_split.specs.Partitions.{Parts, class_of}
use Rattle.tam_split.specs.GraphPartitions.{partitions, are_valid}
use Rattle.tam_split.proofs.BlockVertices.{outlet-place, at-shape, at-vertex, at-within, outlet-no_inlet}
use Rattle.tam_split.proofs.Classes.{class-stands, stands-in}
use Rattle.tam_world.specs.Worlds.{activation_at, its_code, word_at, word_of, has_entered}
use Rattle.tam_flow.specs.Journals.{State, state_after, parts_of_act}
use Rattle.tam_flow.specs.Reached.{IsThere}
use Rattle.tam_flow.proofs.FiringReasons.{HaveThese}
use Rattle.tam_flow.proofs.Gifts.{gift, opens}
use Rattle.tam_flow.proofs.Onward.{word-one}
use Rattle.tam_flow.proofs.Operands.{named-block}
use Rattle.tam_flow.proofs.SentOnce.{HasFired}
use Rattle.frame_tables.specs.FrameTables.{frame_at}
use Rattle.tl0_code.specs.Machines.{Machine}
use Rattle.tl0_keep.specs.Compiled.{is_choosing, yes_of, no_of, then_block, else_block}
use Rattle.tl0_keep.specs.OwedThreads.{AllHaveRun}
use Rattle.tl0_keep.proofs.code.RisingClasses.{partitions-parts}
use Rattle.tl0_keep.proofs.code.ThreadKinds.{ThreadKind, Entry, Class, Then_of, Else_of, Begun, Source, IsThread, number_of_thread, sources_of}
use Rattle.tl0_keep.proofs.code.BlockTree.{owner-before}
use Rattle.tl0_keep.proofs.runs.Keeps.{parts_in, Reason, HasEntered, ChoseThen, ChoseElse, ThreadKeeps}
use Rattle.tl0_keep.proofs.runs.Journey.{Here}
use Rattle.tl0_keep.proofs.owed.Skipped.{home, its-text, choosing-there}
use Rattle.tl0_keep.proofs.owed.Owes.{Beneath, The_same, Deeper, Unchosen}
use Rattle.tl0_keep.proofs.owed.Fair.{keeps, is-reached, state, known, text, up-open, branch-chosen}

-- a word that is there
word-has : (o : Option ℕ) (v : ℕ) → option_to_list o ≡ v ∷ [] → is_some o ≡ true
word-has None v k = absurd (differ k)
  where
    differ : [] ≡ v ∷ [] → ⊥
    differ q = cc
word-has (Some u) v k = refl

-- a number that is 1 at most where one of a list is there
one-less : (n : ℕ) (t : Source) (ts : List Source) → In t ts → n + length ts ≡ 1 → n ≡ 0
one-less n t [] i e = absurd i
one-less n t (x ∷ ts) i e = omega (arith, e)

module _ (g : Graph) (accepted : IsAccepted g) (args : List ℕ) (arguments : AreArguments g args) (limits : Limits) (ranges : AreLimits limits)
    (valid : are_valid g (partitions g) ≡ true) (m : Machine) (here : Here g (partitions g) args limits m) (i : ℕ)
    (there : IsThere (state_after g (partitions g) args here.events).world i) (all : AllHaveRun g (state_after g (partitions g) args here.events) i) where
  -- the state of its journal
  abbrev s : State
  s = state_after g (partitions g) args here.events

  -- its code, and its partitions
  abbrev c : Code
  c = its_code g (state_after g (partitions g) args here.events).world i

  abbrev ps : List Parts
  ps = parts_in g (partitions g) (state_after g (partitions g) args here.events) here.others i

  -- block b of it is entered
  abbrev Open : ℕ → Type 0
  Open b = has_entered (state_after g (partitions g) args here.events).world i b ≡ true

  code-low : (activation_at (state_after g (partitions g) args here.events).world i).code < length g.codes
  code-low = known g accepted args arguments limits ranges valid m here i there

  -- a node that chooses is there
  choosing-low : (x : ℕ) (k : Kind) → kind_at c x ≡ k → is_choosing k ≡ true → x < length c.nodes
  choosing-low x k e h = choosing-there g accepted (activation_at s.world i).code code-low ps x k e h

  -- so is its block
  block-low : (x : ℕ) → x < length c.nodes → block_at c x < length c.owners
  block-low x l = block-below (length g.codes) c (its-text g accepted (activation_at s.world i).code code-low ps) x l

  -- what chooses in an entered block has fired
  fires : (x : ℕ) (k : Kind) → kind_at c x ≡ k → is_choosing k ≡ true → is_outlet k ≡ true → Open (block_at c x) → HasFired g (partitions g) s i x
  fires x k e h o opened = go (outlet-place c x (ap is_outlet e ∙ o))
    where
      go : (y : ℕ) × (v : Vertex) × (slice_get (block_graph c (block_at c x)).vertices y ≡ Some v) × (v.outlet ≡ true) × (v.node ≡ x)
          → HasFired g (partitions g) s i x
      go (y, v, at, out, node) =
          let low = block-low x (choosing-low x k e h) in
          let within = at-within c (block_at c x) y v at in
          let is = at-vertex c (block_at c x) y v at in
          let one = ((partitions-parts g accepted).each (activation_at s.world i).code code-low).parts (block_at c x) low in
          let class = one.in_one y within in
          record {
            there = there;
            code = (activation_at s.world i).code;
            block = block_at c x;
            class = class_of (parts_of_act g (partitions g) s i (block_at c x)) y;
            place = y;
            is_code = refl;
            ran = all (block_at c x) (class_of (parts_of_act g (partitions g) s i (block_at c x)) y) opened class;
            inside = stands-in (parts_of_act g (partitions g) s i (block_at c x)) (class_of (parts_of_act g (partitions g) s i (block_at c x)) y) y
                (class-stands (parts_of_act g (partitions g) s i (block_at c x)) y class);
            within = within;
            no_inlet = ap (λ (w : Vertex). w.inlet) is
                ∙ not-inlet v.inlet refl (outlet-no_inlet v.node (kind_at c v.node) v (at-shape c (block_at c x) y v at).0 out);
            node = ap (λ (w : Vertex). w.node) is ∙ node;
          }
        where
          not-inlet : (t : Bool) → v.inlet ≡ t → (v.inlet ≡ true → ⊥) → v.inlet ≡ false
          not-inlet true q f = absurd (f q)
          not-inlet false q f = q

  -- a cond that fired entered one of its blocks
  enters : (d p y n : ℕ) → kind_at c d ≡ Cond p y n → HasFired g (partitions g) s i d → Open y ⊎ Open n
  enters d p y n e f =
      let done = (state g accepted args arguments limits ranges valid m here).kept.done i d f in
      go (kind_at c d) done.words e done.have done.entered
    where
      side : (v : ℕ) → Open (chosen_branch c d v) → Open y ⊎ Open n
      side zero q = inr (subst Open (ap (λ k. branch_of_kind k 0) e) q)
      side (suc v) q = inl (subst Open (ap (λ k. branch_of_kind k (suc v)) e) q)

      go : (k : Kind) (vs : List ℕ) → k ≡ Cond p y n → HaveThese s.world i (operands_of c k) vs → ((b : ℕ) → In b (opens c d k vs) → Open b) → Open y ⊎ Open n
      go (Cond q v w) (u ∷ []) r have entered = side u (entered (chosen_branch c d u) (inl refl))
      go (Cond q v w) [] r have entered = absurd have
      go (Cond q v w) (u ∷ t ∷ vs) r have entered = absurd have.1
      go k vs r have entered = absurd cc

  -- a switch that fired gave its word into the block that its cond entered
  gives : (x d k a p y n b e : ℕ) → kind_at c x ≡ Choose d k a → kind_at c d ≡ Cond p y n → HasFired g (partitions g) s i x → owner_of c b ≡ d ∷ [] → 0 < b
      → Open b → node_in c b (is_enter k) ≡ e ∷ [] → HasEntered g (partitions g) s here.others c i b k
  gives x d k a p y n b e is cond f owner pos opened at =
      let done = (state g accepted args arguments limits ranges valid m here).kept.done i x f in
      go (kind_at c x) done.words is done.have done.gave
    where
      chosen : (v : ℕ) × (word_of s.world i p ≡ v ∷ []) × (chosen_branch c d v ≡ b)
      chosen = branch-chosen g accepted args arguments limits ranges valid m here i there b d p y n cond owner pos opened

      test : test_of_kind (kind_at c d) ≡ p
      test = ap test_of_kind cond

      go : (q : Kind) (vs : List ℕ) → q ≡ Choose d k a → HaveThese s.world i (operands_of c q) vs
          → ((z : ℕ) → In z (gift c x q vs).0 → word_of s.world i z ≡ (gift c x q vs).1 ∷ []) → HasEntered g (partitions g) s here.others c i b k
      go (Choose f j z) (u ∷ v ∷ []) r have gave = given f j r have.0 gave
        where
          given : (f j : ℕ) → Choose f j z ≡ Choose d k a → word_of s.world i (test_of_kind (kind_at c f)) ≡ u ∷ []
              → ((w : ℕ) → In w (node_in c (chosen_branch c f u) (is_enter j)) → word_of s.world i w ≡ v ∷ [])
              → HasEntered g (partitions g) s here.others c i b k
          given f j r have gave =
              let one : f ≡ d = cc in
              let two : j ≡ k = cc in
              let word : word_of s.world i p ≡ u ∷ [] =
              subst (λ w. word_of s.world i w ≡ u ∷ []) (ap (λ w. test_of_kind (kind_at c w)) one ∙ test) have in
              let same : u ≡ chosen.0 = word-one s.world i p u chosen.0 word chosen.1 in
              let block : chosen_branch c f u ≡ b = ap (λ w. chosen_branch c w u) one ∙ (ap (chosen_branch c d) same ∙ chosen.2) in
              let among : In e (node_in c b (is_enter k)) = subst (In e) (sym at) (inl refl) in
              let from : In e (node_in c (chosen_branch c f u) (is_enter j)) =
              subst (λ w. In e (node_in c (chosen_branch c f u) (is_enter w))) (sym two)
              (subst (λ w. In e (node_in c w (is_enter k))) (sym block) among) in
              (e, among, word-has (word_at s.world i e) v (gave e from))
      go (Choose f j z) [] r have gave = absurd have
      go (Choose f j z) (u ∷ []) r have gave = absurd have.1
      go (Choose f j z) (u ∷ v ∷ w ∷ vs) r have gave = absurd have.1.1
      go q vs r have gave = absurd cc

  -- ---- threads

  -- a thread of a block that is entered has nothing left to wait for
  open-zero : (n : ThreadKind) → IsThread c ps n → Open (home c n) → slice_get (frame_at m.table i).counts (number_of_thread c ps n) ≡ Some 0
  open-zero n h opened = (keep n h).left ∙ ap Some (by n h opened (keep n h))
    where
      keep : (n : ThreadKind) → IsThread c ps n → ThreadKeeps g (partitions g) m s here.others [] i n
      keep n h = (keeps g accepted args arguments limits ranges valid m here).threads i n there h

      -- one that waits for its start alone
      started : (n : ThreadKind) (h : IsThread c ps n) (k : ThreadKeeps g (partitions g) m s here.others [] i n) → sources_of c ps n ≡ Begun ∷ []
          → Reason g (partitions g) s here.others i n Begun → k.count ≡ 0
      started n h k e r = elim (k.spent_or_due Begun (record { there = there; thread = h; source = subst (In Begun) (sym e) (inl refl); reason = r })) [
        | inl a ↦ one-less k.count Begun k.spent a (k.sum ∙ ap (λ (l : List Source). length l) e)
        | inr a ↦ absurd a
      ]

      chooses-then : (x : ℕ) (k : Kind) → kind_at c x ≡ k → is_choosing k ≡ true → Open (then_block c k) → ChoseThen g (partitions g) s here.others c i k
      chooses-then x (Cond p y z) e q o = o
      chooses-then x (Choose d k a) e q o =
          let t = text g accepted args arguments limits ranges valid m here i there in
          let r = t.switch_cond x d k a e in
          let b = t.branches d r.0 r.1.0 r.1.1.0 r.1.1.1 in
          let w = t.enters x d k a r.0 r.1.0 r.1.1.0 e r.1.1.1 in
          let is : yes_of (kind_at c d) ≡ r.1.0 = ap yes_of r.1.1.1 in
          let opened : Open r.1.0 = subst Open is o in
          let at : Open (block_at c d) = up-open g accepted args arguments limits ranges valid m here i there r.1.0 d b.0 opened in
          let beside = named-block g accepted (activation_at s.world i).code code-low x d (Choose d k a) (choosing-low x (Choose d k a) e refl) e (inl refl) in
          let f = fires x (Choose d k a) e refl refl (subst Open beside at) in
          subst (λ z. HasEntered g (partitions g) s here.others c i z k) (sym is)
          (gives x d k a r.0 r.1.0 r.1.1.0 r.1.0 w.0.0 e r.1.1.1 f b.0 b.3 opened w.0.1)
      chooses-then x k e q o = absurd (true≢false (sym q))

      chooses-else : (x : ℕ) (k : Kind) → kind_at c x ≡ k → is_choosing k ≡ true → Open (else_block c k) → ChoseElse g (partitions g) s here.others c i k
      chooses-else x (Cond p y z) e q o = o
      chooses-else x (Choose d k a) e q o =
          let t = text g accepted args arguments limits ranges valid m here i there in
          let r = t.switch_cond x d k a e in
          let b = t.branches d r.0 r.1.0 r.1.1.0 r.1.1.1 in
          let w = t.enters x d k a r.0 r.1.0 r.1.1.0 e r.1.1.1 in
          let is : no_of (kind_at c d) ≡ r.1.1.0 = ap no_of r.1.1.1 in
          let opened : Open r.1.1.0 = subst Open is o in
          let at : Open (block_at c d) = up-open g accepted args arguments limits ranges valid m here i there r.1.1.0 d b.1 opened in
          let beside = named-block g accepted (activation_at s.world i).code code-low x d (Choose d k a) (choosing-low x (Choose d k a) e refl) e (inl refl) in
          let f = fires x (Choose d k a) e refl refl (subst Open beside at) in
          subst (λ z. HasEntered g (partitions g) s here.others c i z k) (sym is)
          (gives x d k a r.0 r.1.0 r.1.1.0 r.1.1.0 w.1.0 e r.1.1.1 f b.1 b.4 opened w.1.1)
      chooses-else x k e q o = absurd (true≢false (sym q))

      by : (n : ThreadKind) (h : IsThread c ps n) → Open (home c n) → (k : ThreadKeeps g (partitions g) m s here.others [] i n) → k.count ≡ 0
      by Entry h o k = started Entry h k refl tt
      by (Class b x) h o k = k.ran (all b x o h.1)
      by (Then_of x) h o k = started (Then_of x) h k refl (chooses-then x (kind_at c x) refl h.1 o)
      by (Else_of x) h o k = started (Else_of x) h k refl (chooses-else x (kind_at c x) refl h.1 o)

  -- why a block isn't entered: a connector has nothing left to wait for that leads into the other block, at some depth
  pub record IsClosed (v : ℕ) : Type 0 where
    pub passed : ℕ
    pub beneath : Beneath c passed v
    pub chooser : ThreadKind
    pub thread : IsThread c ps chooser
    pub unchosen : Unchosen c chooser passed
    pub zero_left : slice_get (frame_at m.table i).counts (number_of_thread c ps chooser) ≡ Some 0

  -- so it is of each block that isn't
  closed : (fuel v : ℕ) → v ≤ fuel → v < length c.owners → (Open v → ⊥) → IsClosed v
  closed fuel zero l low n = absurd (n ((is-reached g accepted args arguments limits ranges valid m here).activations.bodies i there))
  closed zero (suc v) l low n = absurd (omega (arith, l))
  closed (suc fuel) (suc v) l low n =
      let t = text g accepted args arguments limits ranges valid m here i there in
      let o = t.owned (suc v) low (omega arith) in
      go o.0 o.1 (t.owner_cond (suc v) o.0 o.1) (has_entered s.world i (block_at c o.0)) refl
      (closed fuel (block_at c o.0) (let w = before (suc v) o.0 o.1 in omega (arith, w, l)))
    where
      before : (v d : ℕ) → owner_of c v ≡ d ∷ [] → block_at c d < v
      before v d e = owner-before (length g.codes) c (its-text g accepted (activation_at s.world i).code code-low ps) v d e

      go : (d : ℕ) → owner_of c (suc v) ≡ d ∷ [] → (p : ℕ) × ((y : ℕ) × ((z : ℕ) × ((kind_at c d ≡ Cond p y z) × ((suc v ≡ y) ⊎ (suc v ≡ z)))))
          → (t : Bool) → has_entered s.world i (block_at c d) ≡ t
          → (block_at c d < length c.owners → (Open (block_at c d) → ⊥) → IsClosed (block_at c d)) → IsClosed (suc v)
      go d o (p, (y, (z, (k, side)))) false e on =
          let r = on (block-low d (choosing-low d (Cond p y z) k refl)) (λ q. true≢false (sym q ∙ e)) in
          record {
            passed = r.passed;
            beneath = Deeper o r.beneath;
            chooser = r.chooser;
            thread = r.thread;
            unchosen = r.unchosen;
            zero_left = r.zero_left;
          }
      go d o (p, (y, (z, (k, side)))) true e on = by side (enters d p y z k (fires d (Cond p y z) k refl refl e))
        where
          low-d : d < length c.nodes
          low-d = choosing-low d (Cond p y z) k refl

          by : (suc v ≡ y) ⊎ (suc v ≡ z) → Open y ⊎ Open z → IsClosed (suc v)
          by (inl a) (inl b) = absurd (n (subst Open (sym a) b))
          by (inl a) (inr b) = record {
            passed = suc v;
            beneath = The_same;
            chooser = Else_of d;
            thread = (low-d, ap is_choosing k);
            unchosen = (d, p, z, inr (refl, k ∙ ap (λ w. Cond p w z) (sym a)));
            zero_left = open-zero (Else_of d) (low-d, ap is_choosing k) (subst Open (sym (ap (else_block c) k)) b);
          }
          by (inr a) (inl b) = record {
            passed = suc v;
            beneath = The_same;
            chooser = Then_of d;
            thread = (low-d, ap is_choosing k);
            unchosen = (d, p, y, inl (refl, k ∙ ap (λ w. Cond p y w) (sym a)));
            zero_left = open-zero (Then_of d) (low-d, ap is_choosing k) (subst Open (sym (ap (then_block c) k)) b);
          }
          by (inr a) (inr b) = absurd (n (subst Open (sym a) b))

  -- the blocks into which connectors lead are there
  lows : (x : ℕ) (k : Kind) → kind_at c x ≡ k → x < length c.nodes → is_choosing k ≡ true
      → (then_block c k < length c.owners) × (else_block c k < length c.owners)
  lows x (Cond p y z) e l h = branches-below (length g.codes) c (its-text g accepted (activation_at s.world i).code code-low ps) x p y z l e
  lows x (Choose d k a) e l h =
      let t = text g accepted args arguments limits ranges valid m here i there in
      let r = t.switch_cond x d k a e in
      let w = branches-below (length g.codes) c (its-text g accepted (activation_at s.world i).code code-low ps) d r.0 r.1.0 r.1.1.0
      (choosing-low d (Cond r.0 r.1.0 r.1.1.0) r.1.1.1 refl) r.1.1.1 in
      (subst (λ b. b < length c.owners) (sym (ap yes_of r.1.1.1)) w.0, subst (λ b. b < length c.owners) (sym (ap no_of r.1.1.1)) w.1)
  lows x k e l h = absurd (true≢false (sym h))

  -- the block for which a thread runs is there
  home-low : (n : ThreadKind) → IsThread c ps n → home c n < length c.owners
  home-low Entry h = has-body (length g.codes) c (its-text g accepted (activation_at s.world i).code code-low ps)
  home-low (Class b k) h = h.0
  home-low (Then_of x) h = (lows x (kind_at c x) refl h.0 h.1).0
  home-low (Else_of x) h = (lows x (kind_at c x) refl h.0 h.1).1

  -- each thread of the activation has nothing left to wait for, or runs for a block that isn't entered
  pub thread-cases : (n : ThreadKind) → IsThread c ps n → (slice_get (frame_at m.table i).counts (number_of_thread c ps n) ≡ Some 0) ⊎ IsClosed (home c n)
  thread-cases n h = go (has_entered s.world i (home c n)) refl
    where
      go : (t : Bool) → has_entered s.world i (home c n) ≡ t
          → (slice_get (frame_at m.table i).counts (number_of_thread c ps n) ≡ Some 0) ⊎ IsClosed (home c n)
      go true e = inl (open-zero n h e)
      go false e = inr (closed (home c n) (home c n) (omega arith) (home-low n h) (λ q. true≢false (sym q ∙ e)))
