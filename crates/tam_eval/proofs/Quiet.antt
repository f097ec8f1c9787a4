-- Where nothing is ready and nothing is on its way, no event may follow in the journal.
use Rattle.std.proofs.Common.{◌≡◌, ℕ, ◌<◌, Bool, true, false, ◌||◌, not, nat_lt, List, [], refl, sym, subst, ap, inl, inr, ◌∙◌}
use Rattle.std.proofs.Common.{◌==◌, true≢false, length, slice_get, Some, is_none}
use Rattle.tam_word.specs.Lists.{all_of, where_so}
use Rattle.tam_word.proofs.Tests.{number-eq, both-true}
use Rattle.tam_word.proofs.Members.{In, all-in, in-any, none-left, below-in}
use Rattle.tam_graph.specs.declared.kind.Kind.{Kind}
use Rattle.tam_graph.specs.declared.kind.Kind.TheVariants.{Op as Operate, Seq, Call, Arg, Give, Alloc, Fetch, Store, Cond, Switch, Leave}
use Rattle.tam_graph.specs.Edges.{reaches}
use Rattle.tam_graph.specs.Graphs.{Code, Graph, code_of, kind_at, block_at, operands_of, node_numbers, has_value, fires, test_of, test_of_kind}
use Rattle.tam_graph.specs.Written.{named_by, is_operand, is_call_node, is_cond_node, is_line}
use Rattle.tam_graph.specs.declared.check_cause.CheckCause.TheVariants.{WrongBlock as Wrong_block}
use Rattle.tam_graph.specs.Accepted.{IsAccepted, in_wrong_block, is_wrong_block}
use Rattle.tam_graph.proofs.Reaching.{reaches-self}
use Rattle.tam_graph.proofs.Uncycled.{no-fault}
use Rattle.tam_split.specs.declared.vertex.Vertex.{Vertex}
use Rattle.tam_split.specs.GraphPartitions.{singles}
use Rattle.tam_split.specs.Blocks.{vertices_in, edges_among, block_graph}
use Rattle.tam_split.proofs.BlockGraphs.{accepted-block}
use Rattle.tam_split.proofs.Firers.{Firer, Giver, value-inner, firer-block, firer-fires, kind-there, giver-at, giver-inlet, operand-edge}
use Rattle.tam_world.specs.Worlds.{activation_at, its_code, has_word, has_entered}
use Rattle.tam_flow.specs.Journals.{State, Event, Run, Deliver, has_run, on_their_way, may_follow, may_run, may_arrive}
use Rattle.tam_flow.specs.Reached.{IsReached}
use Rattle.tam_flow.proofs.SingleRuns.{BlockThere, MayRun, may_run-parts, classes, may_run-word, ran-before}
use Rattle.tam_flow.proofs.OnTheWay.{none-on_way}
use Rattle.tam_eval.specs.GraphRuns.{is_enabled}
use Rattle.tam_eval.proofs.Follows.{parts-is_enabled, Follows}
use Rattle.tam_eval.proofs.StepsCaughtUp.{reached-placed}
use Rattle.tam_eval.proofs.FiringSends.{line-at}
use Rattle.tam_eval.proofs.Running.{below-some}
use Rattle.tam_word.proofs.Tests.{test-below}

-- ---- operands

-- a node that may be an operand of x: it is there, has a value and stands in x's block
pub record IsOperand (c : Code) (x a : ℕ) : Type 0 where
  pub there : In a (node_numbers c)
  pub value : has_value (kind_at c a) ≡ true
  pub block : block_at c a ≡ block_at c x

-- a call has a value
call-value : (c : Code) (f : ℕ) → is_call_node c f ≡ true → has_value (kind_at c f) ≡ true
call-value c f h = go (kind_at c f) refl
  where
    go : (k : Kind) → kind_at c f ≡ k → has_value (kind_at c f) ≡ true
    go (Call d) e = ap has_value e
    go k e = let t = rw e at (both-true (nat_lt f (length c.nodes)) _ h).1 in absurd (true≢false (sym t))

-- a cond node is a cond
cond-node : (c : Code) (d : ℕ) → is_cond_node c d ≡ true → (p : ℕ) × ((y : ℕ) × ((n : ℕ) × (kind_at c d ≡ Cond p y n)))
cond-node c d h = go (kind_at c d) refl
  where
    go : (k : Kind) → kind_at c d ≡ k → (p : ℕ) × ((y : ℕ) × ((n : ℕ) × (kind_at c d ≡ Cond p y n)))
    go (Cond p y n) e = (p, (y, (n, e)))
    go k e = let t = rw e at (both-true (nat_lt d (length c.nodes)) _ h).1 in absurd (true≢false (sym t))

-- it is a cond by this test
abbrev is_cond_kind : Kind → Bool
is_cond_kind (Cond p y n) = true
is_cond_kind _ = false

module _ (g : Graph) (acc : IsAccepted g) (n : ℕ) (l : n < length g.codes) where
  -- the code of the activation
  abbrev c : Code
  c = code_of g n

  -- what a node's line names stands in its block
  named-block : (x y : ℕ) → In x (node_numbers c) → In y (named_by (kind_at c x)) → block_at c y ≡ block_at c x
  named-block x y m h = go (is_wrong_block c x) refl (block_at c y == block_at c x) refl
    where
      first : where_so (is_wrong_block c x) Wrong_block ≡ []
      first = none-left (where_so (is_wrong_block c x) Wrong_block) _ (no-fault g acc n x l m)

      right : is_wrong_block c x ≡ true → ⊥
      right p = let q = rw p at first in cc

      go : (t : Bool) → is_wrong_block c x ≡ t → (u : Bool) → (block_at c y == block_at c x) ≡ u → block_at c y ≡ block_at c x
      go t p true q = number-eq (block_at c y) (block_at c x) q
      go true p false q = absurd (right p)
      go false p false q =
          let e = in-any (λ z. not (block_at c z == block_at c x)) (named_by (kind_at c x)) y h (rw q refl) in
          absurd (true≢false (sym (or-right (in_wrong_block (block_at c x) (kind_at c x)) _ e) ∙ p))
        where
          or-right : (a b : Bool) → b ≡ true → (a || b) ≡ true
          or-right true b e = refl
          or-right false b e = e

  -- what a line may name as an operand
  operand-ok : (x a : ℕ) → In x (node_numbers c) → is_operand c a ≡ true → In a (named_by (kind_at c x)) → IsOperand c x a
  operand-ok x a m h i =
      let p = both-true (nat_lt a (length c.nodes)) _ h in
      let q = both-true (has_value (kind_at c a)) _ p.1 in
      record { there = below-in a (length c.nodes) (test-below a (length c.nodes) p.0); value = q.0; block = named-block x a m i }

  -- of a line that names operands alone
  plain : (x a : ℕ) (k : Kind) → In x (node_numbers c) → kind_at c x ≡ k → all_of (is_operand c) (named_by k) ≡ true → In a (named_by k) → IsOperand c x a
  plain x a k m e h i = operand-ok x a m (all-in (is_operand c) (named_by k) h a i) (subst (λ z. In a (named_by z)) (sym e) i)

  -- the operands of a node, by what it does
  operands-ok : (x a : ℕ) (k : Kind) → In x (node_numbers c) → kind_at c x ≡ k → is_line (length g.codes) c k ≡ true → In a (operands_of c k)
      → IsOperand c x a
  operands-ok x a (Operate o u v) m e h i = plain x a (Operate o u v) m e h i
  operands-ok x a (Seq u v) m e h i = plain x a (Seq u v) m e h i
  operands-ok x a (Alloc u) m e h i = plain x a (Alloc u) m e h i
  operands-ok x a (Fetch u v) m e h i = plain x a (Fetch u v) m e h i
  operands-ok x a (Store u v w) m e h i = plain x a (Store u v w) m e h i
  operands-ok x a (Cond p y z) m e h i = plain x a (Cond p y z) m e h i
  operands-ok x a (Give k u) m e h (inl q) = operand-ok x a m (subst (λ z. is_operand c z ≡ true) q (both-true (is_operand c u) (nat_lt k 64) h).0)
      (subst (λ z. In a (named_by z)) (sym e) (inl q))
  operands-ok x a (Give k u) m e h (inr q) = absurd q
  operands-ok x a (Leave k u) m e h (inl q) = operand-ok x a m (subst (λ z. is_operand c z ≡ true) q (both-true (is_operand c u) (nat_lt k 64) h).0)
      (subst (λ z. In a (named_by z)) (sym e) (inl q))
  operands-ok x a (Leave k u) m e h (inr q) = absurd q
  operands-ok x a (Arg f k u) m e h (inl q) =
      let p = both-true (is_call_node c f) _ h in
      operand-ok x a m (subst (λ z. is_operand c z ≡ true) q (both-true (is_operand c u) (nat_lt k 64) p.1).0)
      (subst (λ z. In a (named_by z)) (sym e) (inr (inl q)))
  operands-ok x a (Arg f k u) m e h (inr (inl q)) =
      let p = both-true (is_call_node c f) _ h in
      let b = both-true (nat_lt f (length c.nodes)) _ p.0 in
      subst (IsOperand c x) q (record {
        there = below-in f (length c.nodes) (test-below f (length c.nodes) b.0);
        value = call-value c f p.0;
        block = named-block x f m (subst (λ z. In f (named_by z)) (sym e) (inl refl));
      })
  operands-ok x a (Arg f k u) m e h (inr (inr q)) = absurd q
  operands-ok x a (Switch d k u) m e h (inr (inl q)) =
      let p = both-true (is_cond_node c d) _ h in
      operand-ok x a m (subst (λ z. is_operand c z ≡ true) q (both-true (is_operand c u) (nat_lt k 64) p.1).0)
      (subst (λ z. In a (named_by z)) (sym e) (inr (inl q)))
  operands-ok x a (Switch d k u) m e h (inr (inr q)) = absurd q
  operands-ok x a (Switch d k u) m e h (inl q) =
      let p = both-true (is_cond_node c d) _ h in
      let r = cond-node c d p.0 in
      let t = kind-there c d is_cond_kind refl (ap is_cond_kind r.1.1.1) in
      let line = line-at g acc n d l t in
      let b : test_of c d ≡ r.0 = ap test_of_kind r.1.1.1 in
      let o = plain d r.0 (Cond r.0 r.1.0 r.1.1.0) t r.1.1.1 (rw r.1.1.1 at line) (inl refl) in
      subst (IsOperand c x) (sym b ∙ q) (record {
        there = o.there;
        value = o.value;
        block = o.block ∙ named-block x d m (subst (λ z. In d (named_by z)) (sym e) (inl refl));
      })
  operands-ok x a k m e h i = absurd i

-- no place has an edge to itself
no-loop : (g : Graph) → IsAccepted g → (n b k : ℕ) → n < length g.codes → In (k, k) (edges_among (code_of g n) (vertices_in (code_of g n) b)) → ⊥
no-loop g acc n b k l h =
    let e = in-any (λ (e : ℕ × ℕ). reaches (block_graph (code_of g n) b).edges e.1 e.0) (block_graph (code_of g n) b).edges (k, k) h
    (reaches-self (block_graph (code_of g n) b).edges k) in
    true≢false (sym (accepted-block g acc n b l).no_cycle ∙ ap not e)

module _ (g : Graph) (acc : IsAccepted g) (args : List ℕ) (s : State) (reached : IsReached g (singles g) args s) (follows : Follows g [] s)
    (none : on_their_way s ≡ []) where
  -- no message may arrive
  none-arrives : (n : ℕ) → may_arrive s n ≡ true → ⊥
  none-arrives n h =
      let p = both-true (nat_lt n (length s.sent)) _ h in
      let q = none-on_way s none n (test-below n (length s.sent) p.0) in
      true≢false (sym p.1 ∙ ap not q)

  -- no inlet may run
  no-inlet : (i b k : ℕ) (v : Vertex) → BlockThere g s.world i b → MayRun g (singles g) s i b k → slice_get (vertices_in (its_code g s.world i) b) k ≡ Some v
      → v.inlet ≡ true → ⊥
  no-inlet i b k v there may at p =
      let w = may_run-word g s i b there k v at p may.words in
      let r = follows.runs.inlet_word i b k v.node may.act (record { vertex = v; stands = at; of_node = refl; inlet = p }) may.entered w in
      true≢false (sym r ∙ may.not_ran)

  -- nor may what fires
  no-firer : (i b k x : ℕ) → BlockThere g s.world i b → MayRun g (singles g) s i b k → Firer (its_code g s.world i) b k x → ⊥
  no-firer i b k x there may f = follows.stands.enabled_ready i x b k may.act enabled f may.not_ran
    where
      at : block_at (its_code g s.world i) x ≡ b
      at = firer-block (its_code g s.world i) b k x f

      node : In x (node_numbers (its_code g s.world i))
      node = kind-there (its_code g s.world i) x fires refl (firer-fires (its_code g s.world i) b k x f)

      word-of : (d a : ℕ) → has_value (kind_at (its_code g s.world i) a) ≡ true → (e : Giver (its_code g s.world i) b d a) → has_run s i b d ≡ true
          → (t : Bool) → e.vertex.inlet ≡ t → has_word s.world i a ≡ true
      word-of d a h e r true p = (follows.runs.inlet_ran i b d a may.act
          (record { vertex = e.vertex; stands = e.stands; of_node = e.of_node; inlet = p }) r).1
      word-of d a h e r false p = follows.runs.inner_ran i b d a may.act (record { vertex = e.vertex; stands = e.stands; of_node = e.of_node; no_inlet = p })
          (value-inner (kind_at (its_code g s.world i) a) h (sym (giver-inlet (its_code g s.world i) b d a e) ∙ p)) r

      word : (a : ℕ) → In a (operands_of (its_code g s.world i) (kind_at (its_code g s.world i) x)) → has_word s.world i a ≡ true
      word a m =
          let o = operands-ok g acc (activation_at s.world i).code there.code x a (kind_at (its_code g s.world i) x) node refl
          (line-at g acc (activation_at s.world i).code x there.code node) m in
          let r = giver-at (its_code g s.world i) a o.there in
          let e : Giver (its_code g s.world i) b r.0 a = subst (λ z. Giver (its_code g s.world i) z r.0 a) (o.block ∙ at) r.1 in
          let edge = operand-edge (its_code g s.world i) b r.0 k x a f e m in
          let apart : r.0 ≡ k → ⊥ = λ q. no-loop g acc (activation_at s.world i).code b k there.code
          (subst (λ z. In (z, k) (edges_among (its_code g s.world i) (vertices_in (its_code g s.world i) b))) q edge) in
          word-of r.0 a o.value e (ran-before g s i b there k r.0 may.before edge apart) e.vertex.inlet refl

      enabled : is_enabled g s.world i x ≡ true
      enabled = parts-is_enabled g s.world i x (record {
        fires = firer-fires (its_code g s.world i) b k x f;
        entered = subst (λ z. has_entered s.world i z ≡ true) (sym at) may.entered;
        words = word;
      })

  -- no class may run
  none-runs : (i b k : ℕ) → may_run g (singles g) s i b k ≡ true → ⊥
  none-runs i b k h =
      let may = may_run-parts g (singles g) s i b k h in
      let p = reached-placed g args s reached in
      let there : BlockThere g s.world i b = record { act = may.act; code = p.codes i may.act; block = p.blocks i b may.act may.entered } in
      let r = below-some (vertices_in (its_code g s.world i) b) k (subst (λ m. k < m) (classes g s i b there) may.class) in
      go there may r.0 r.1 r.0.inlet refl
    where
      go : BlockThere g s.world i b → MayRun g (singles g) s i b k → (v : Vertex) → slice_get (vertices_in (its_code g s.world i) b) k ≡ Some v
          → (t : Bool) → v.inlet ≡ t → ⊥
      go there may v at true p = no-inlet i b k v there may at p
      go there may v at false p = no-firer i b k v.node there may (record { vertex = v; stands = at; of_node = refl; no_inlet = p })

  -- so no event may follow
  pub none-follows : (e : Event) → may_follow g (singles g) s e ≡ false
  none-follows e = go (may_follow g (singles g) s e) refl e
    where
      wrong : (d : Event) → may_follow g (singles g) s d ≡ true → ⊥
      wrong (Run i b k) p = none-runs i b k (both-true (is_none s.fault) (may_run g (singles g) s i b k) p).1
      wrong (Deliver n) p = none-arrives n (both-true (is_none s.fault) (may_arrive s n) p).1

      go : (t : Bool) → may_follow g (singles g) s e ≡ t → Event → may_follow g (singles g) s e ≡ false
      go true p d = absurd (wrong e p)
      go false p d = p
