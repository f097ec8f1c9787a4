-- The operands of a node of an accepted graph: each is a node of its block, with a value.
use Rattle.std.proofs.Common.{◌≡◌, ℕ, ◌<◌, Bool, true, false, ◌==◌, ◌||◌, not, [], ◌∷◌, length, nat_lt, refl, sym, ap, ◌∙◌, subst, inl, inr, true≢false}
use Rattle.tam_word.specs.Lists.{any_of, where_so}
use Rattle.tam_graph.specs.declared.kind.Kind.{Kind}
use Rattle.tam_graph.specs.declared.kind.Kind.TheVariants.{Op as Operate, Seq, Arg, Give, Alloc, Fetch, Store, Cond, Switch}
use Rattle.tam_graph.specs.declared.kind.Kind.TheVariants.{Leave}
use Rattle.tam_graph.specs.Graphs.{Graph, Code, code_of, kind_at, block_at, operands_of, test_of_kind, has_value}
use Rattle.tam_graph.specs.declared.check_cause.CheckCause.TheVariants.{WrongBlock as Wrong_block}
use Rattle.tam_graph.specs.Accepted.{IsAccepted, in_wrong_block, is_wrong_block}
use Rattle.tam_graph.specs.Written.{named_by, is_operand, is_call_node, is_cond_node, is_line}
use Rattle.tam_word.proofs.Tests.{number-eq, and-left, and-right, test-below}
use Rattle.tam_word.proofs.Each.{append-nil, where_so-nil}
use Rattle.tam_word.proofs.Members.{In, in-any, all-in}
use Rattle.tam_flow.proofs.Nodes.{no-faults, line, call-operand, cond-operand}

-- a node has a value and stands in the code
pub record HasValue (c : Code) (a : ℕ) : Type 0 where
  pub there : a < length c.nodes
  pub value : has_value (kind_at c a) ≡ true

-- what a line may name as an operand has a value
operand-value : (c : Code) (a : ℕ) → is_operand c a ≡ true → HasValue c a
operand-value c a h = record {
  there = test-below a (length c.nodes) (and-left (nat_lt a (length c.nodes)) _ h);
  value = and-left (has_value (kind_at c a)) _ (and-right (nat_lt a (length c.nodes)) _ h);
}

-- so has a call
call-value : (c : Code) (f : ℕ) → is_call_node c f ≡ true → HasValue c f
call-value c f h = record {
  there = test-below f (length c.nodes) (and-left (nat_lt f (length c.nodes)) _ h);
  value = let r = call-operand c f h in ap has_value r.1;
}

module _ (g : Graph) (accepted : IsAccepted g) (n : ℕ) (there : n < length g.codes) where
  -- a node stands in a block in which it may
  pub right-block : (x : ℕ) → x < length (code_of g n).nodes → is_wrong_block (code_of g n) x ≡ false
  right-block x l = where_so-nil (is_wrong_block (code_of g n) x) Wrong_block
      (append-nil (where_so (is_wrong_block (code_of g n) x) Wrong_block) _ (no-faults g accepted n there x l)).0

  -- what a line names stands in its block
  pub named-block : (x y : ℕ) (k : Kind) → x < length (code_of g n).nodes → kind_at (code_of g n) x ≡ k → In y (named_by k)
      → block_at (code_of g n) y ≡ block_at (code_of g n) x
  named-block x y k l e m = go (block_at (code_of g n) y == block_at (code_of g n) x) refl
    where
      right : is_wrong_block (code_of g n) x ≡ false
      right = where_so-nil (is_wrong_block (code_of g n) x) Wrong_block
          (append-nil (where_so (is_wrong_block (code_of g n) x) Wrong_block) _ (no-faults g accepted n there x l)).0

      second : (s t : Bool) → (s || t) ≡ false → t ≡ true → ⊥
      second true t h k = true≢false h
      second false t h k = true≢false (sym k ∙ h)

      go : (b : Bool) → (block_at (code_of g n) y == block_at (code_of g n) x) ≡ b → block_at (code_of g n) y ≡ block_at (code_of g n) x
      go true p = number-eq _ _ p
      go false p =
          absurd (second (in_wrong_block (block_at (code_of g n) x) (kind_at (code_of g n) x))
          (any_of (λ z. not (block_at (code_of g n) z == block_at (code_of g n) x)) (named_by (kind_at (code_of g n) x))) right
          (in-any (λ z. not (block_at (code_of g n) z == block_at (code_of g n) x)) (named_by (kind_at (code_of g n) x)) y
          (subst (λ d. In y (named_by d)) (sym e) m) (ap not p)))

  -- an operand has a value, in the block of what takes it
  abbrev pub IsTaken : ℕ → ℕ → Type 0
  IsTaken x a = HasValue (code_of g n) a × (block_at (code_of g n) a ≡ block_at (code_of g n) x)

  -- each operand is so
  pub operand-taken : (x a : ℕ) (k : Kind) → x < length (code_of g n).nodes → kind_at (code_of g n) x ≡ k → In a (operands_of (code_of g n) k) → IsTaken x a
  operand-taken x a k l e m = at k e (line g accepted n there x k l e) m
    where
      -- one that a line names
      one : (k : Kind) → kind_at (code_of g n) x ≡ k → In a (named_by k) → is_operand (code_of g n) a ≡ true → IsTaken x a
      one k e i o = (operand-value (code_of g n) a o, named-block x a k l e i)

      at : (k : Kind) → kind_at (code_of g n) x ≡ k → is_line (length g.codes) (code_of g n) k ≡ true → In a (operands_of (code_of g n) k) → IsTaken x a
      at (Operate o p q) e h m = one (Operate o p q) e m (all-in (is_operand (code_of g n)) (p ∷ q ∷ []) h a m)
      at (Seq p q) e h m = one (Seq p q) e m (all-in (is_operand (code_of g n)) (p ∷ q ∷ []) h a m)
      at (Alloc p) e h m = one (Alloc p) e m (all-in (is_operand (code_of g n)) (p ∷ []) h a m)
      at (Fetch p q) e h m = one (Fetch p q) e m (all-in (is_operand (code_of g n)) (p ∷ q ∷ []) h a m)
      at (Store p q r) e h m = one (Store p q r) e m (all-in (is_operand (code_of g n)) (p ∷ q ∷ r ∷ []) h a m)
      at (Cond p y z) e h m = one (Cond p y z) e m (all-in (is_operand (code_of g n)) (p ∷ []) h a m)
      at (Give j p) e h (inl q) = one (Give j p) e (inl q) (subst (λ z. is_operand (code_of g n) z ≡ true) q (and-left (is_operand (code_of g n) p) _ h))
      at (Give j p) e h (inr q) = absurd q
      at (Leave j p) e h (inl q) = one (Leave j p) e (inl q) (subst (λ z. is_operand (code_of g n) z ≡ true) q (and-left (is_operand (code_of g n) p) _ h))
      at (Leave j p) e h (inr q) = absurd q
      at (Arg f j p) e h (inl q) = one (Arg f j p) e (inr (inl q))
          (subst (λ z. is_operand (code_of g n) z ≡ true) q (and-left (is_operand (code_of g n) p) _ (and-right (is_call_node (code_of g n) f) _ h)))
      at (Arg f j p) e h (inr (inl q)) = (
        call-value (code_of g n) a (subst (λ z. is_call_node (code_of g n) z ≡ true) q (and-left (is_call_node (code_of g n) f) _ h)),
        named-block x a (Arg f j p) l e (inl q),
      )
      at (Arg f j p) e h (inr (inr q)) = absurd q
      at (Switch d j p) e h (inl q) = tested (cond-operand (code_of g n) d (and-left (is_cond_node (code_of g n) d) _ h))
        where
          tested : (d < length (code_of g n).nodes) × ((p y z : ℕ) × (kind_at (code_of g n) d ≡ Cond p y z)) → IsTaken x a
          tested r =
              let same : r.1.0 ≡ a = sym (ap test_of_kind r.1.3) ∙ q in
              let ok = all-in (is_operand (code_of g n)) (r.1.0 ∷ []) (line g accepted n there d (Cond r.1.0 r.1.1 r.1.2) r.0 r.1.3) a (inl same) in
              (operand-value (code_of g n) a ok, named-block d a (Cond r.1.0 r.1.1 r.1.2) r.0 r.1.3 (inl same) ∙ named-block x d (Switch d j p) l e (inl refl))
      at (Switch d j p) e h (inr (inl q)) = one (Switch d j p) e (inr (inl q))
          (subst (λ z. is_operand (code_of g n) z ≡ true) q (and-left (is_operand (code_of g n) p) _ (and-right (is_cond_node (code_of g n) d) _ h)))
      at (Switch d j p) e h (inr (inr q)) = absurd q
      at k e h m = absurd m
