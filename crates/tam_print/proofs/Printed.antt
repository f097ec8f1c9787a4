-- The tokens of a node's line: their texts are words, and spellings of the tokens.
use Rattle.std.proofs.Common.{◌≡◌, ℕ, zero, suc, ◌^◌, ◌<◌, ◌≤◌, List, [], ◌∷◌, ◌++◌, Bool, true, false, refl, sym, ap, arith, true≢false, ◌&&◌, nat_lt}
use Rattle.std.proofs.Common.{nat_le, length}
use Rattle.std.proofs.Common.{slice_get, Some, inl, inr}
use Rattle.std.specs.Prelude.{codes, decimal}
use Rattle.std.proofs.lemmas.Bool.{leb-true}
use Rattle.std.proofs.lemmas.Option.{slice_get_cases}
use Rattle.tam_word.specs.declared.op.Op.{Op}
use Rattle.tam_word.specs.declared.op.Op.TheVariants.{Add, Sub, Mul, Div, Divu, Rem, Remu, And, Or, Xor, Sll, Srl, Sra, Slt, Sltu, Eq}
use Rattle.tam_word.specs.Lists.{all_of}
use Rattle.tam_word.proofs.Tests.{both-true, test-below, below-test, self-eq}
use Rattle.tam_word.proofs.Members.{In, all-in, get-in, below-in}
use Rattle.tam_word.proofs.SignedText.{word_of-signed_text}
use Rattle.tam_graph.specs.declared.kind.Kind.{Kind}
use Rattle.tam_graph.specs.declared.kind.Kind.TheVariants.{Param, Const, Op as Operate, Seq, Call, Arg, Ret, Give, Alloc, Fetch, Store, Cond, Switch, Merge}
use Rattle.tam_graph.specs.declared.kind.Kind.TheVariants.{Enter, Leave}
use Rattle.tam_graph.specs.declared.node.Node.{Node}
use Rattle.tam_graph.specs.Graphs.{Code, Graph, code_of, kind_at, depth_at, has_value, node_numbers}
use Rattle.tam_graph.specs.Written.{is_operand, is_call_node, is_cond_node, is_line, named_by, greatest_depth}
use Rattle.tam_graph.specs.Texts.{Token, Bytes, Number, Line, token_text, spells, op_name, node_name, or_bytes, is_named, suffix, tokens, node_line}
use Rattle.tam_graph.specs.Reading.{is_token, is_named_right, IsCodeOfText, IsOfText}
use Rattle.tam_text.proofs.SameBytes.{same_self}
use Rattle.tam_graph.proofs.AcceptedFacts.{call-node, cond-node}
use Rattle.tam_text.proofs.PlainWords.{is_plain, is_word, all-parts, all-more, decimal-word, decimal-plain, signed-word, name-word}

-- bytes of a token, or a word that fits
abbrev pub is_right : Token → Bool
is_right (Bytes bs) = is_word bs
is_right (Number w) = nat_lt w (2 ^ 32)

-- its text is a word
pub right-printed : (t : Token) → is_right t ≡ true → is_word (token_text t) ≡ true
right-printed (Bytes bs) h = h
right-printed (Number w) h = signed-word w (test-below w (2 ^ 32) h)

-- and a spelling of it
pub right-token : (t : Token) → is_right t ≡ true → is_token (token_text t) t ≡ true
right-token (Bytes bs) h = same_self bs
right-token (Number w) h = rw (is_token, spells, word_of-signed_text w (test-below w (2 ^ 32) h)) (self-eq w)

-- each token of the line is right
record AreRight (ts : Line) : Type 0 where
  all : all_of is_right ts ≡ true

-- of none
none : AreRight []
none = record { all = refl }

-- a token before others
more : (t : Token) {ts : Line} → is_right t ≡ true → AreRight ts → AreRight (t ∷ ts)
more t {ts} p q = record { all = all-more is_right t ts p q.all }

-- where all of both lists pass, all of the joined one do
all-both : {X : Type 0} (test : X → Bool) (xs ys : List X) → all_of test xs ≡ true → all_of test ys ≡ true → all_of test (xs ++ ys) ≡ true
all-both test [] ys h k = k
all-both test (x ∷ xs) ys h k = let p = all-parts test x xs h in all-more test x (xs ++ ys) p.0 (all-both test xs ys p.1 k)

-- an operator's name is a word
op-word : (o : Op) → is_word (op_name o) ≡ true
op-word Add = refl
op-word Sub = refl
op-word Mul = refl
op-word Div = refl
op-word Divu = refl
op-word Rem = refl
op-word Remu = refl
op-word And = refl
op-word Or = refl
op-word Xor = refl
op-word Sll = refl
op-word Srl = refl
op-word Sra = refl
op-word Slt = refl
op-word Sltu = refl
op-word Eq = refl

-- a place is a word
place-word : (k : ℕ) → nat_lt k 64 ≡ true → is_word (decimal k) ≡ true
place-word k h = let small : k < 64 = test-below k 64 h in decimal-word k (omega arith)

-- a node with a value has a name
value-named : (k : Kind) → has_value k ≡ true → is_named k ≡ true
value-named (Arg f k a) h = absurd (true≢false (sym h))
value-named (Give k a) h = absurd (true≢false (sym h))
value-named (Store a i v) h = absurd (true≢false (sym h))
value-named (Switch d k a) h = absurd (true≢false (sym h))
value-named (Leave k a) h = absurd (true≢false (sym h))
value-named k h = refl

-- where a node is to have a name, it has one
right-name : (n : Node) → is_named_right n ≡ true → is_named n.kind ≡ true → is_word (or_bytes n.name) ≡ true
right-name n h e = name-word (or_bytes n.name) (rw (is_named_right, e) at h)

-- a number within the list has its element
there : {X : Type 0} (xs : List X) (x : ℕ) → x < length xs → (y : X) × (slice_get xs x ≡ Some y)
there xs x l = elim (slice_get_cases xs x).1 [ inl a ↦ (a.0, a.2) | inr b ↦ absurd (let h = b.0 in omega (arith, h)) ]

module _ (g : Graph) (text : IsOfText g) (c : Code) (code : IsCodeOfText (length g.codes) c) where
  -- a node that is to have a name has a word for one
  named-word : (x : ℕ) → nat_lt x (length c.nodes) ≡ true → is_named (kind_at c x) ≡ true → is_word (node_name c x) ≡ true
  named-word x l h =
      let n = there c.nodes x (test-below x (length c.nodes) l) in
      rw n.1 (right-name n.0 (all-in is_named_right c.nodes code.nodes_named n.0 (get-in c.nodes x n.0 n.1)) (rw n.1 at h))

  -- an operand has
  operand-word : (a : ℕ) → is_operand c a ≡ true → is_word (node_name c a) ≡ true
  operand-word a h =
      let p = both-true (nat_lt a (length c.nodes)) _ h in
      let q = both-true (has_value (kind_at c a)) _ p.1 in named-word a p.0 (value-named (kind_at c a) q.0)

  -- so has a call
  call-word : (f : ℕ) → is_call_node c f ≡ true → is_word (node_name c f) ≡ true
  call-word f h = let p = both-true (nat_lt f (length c.nodes)) _ h in let e = call-node c f h in named-word f p.0 (ap is_named e.1)

  -- and a cond
  cond-word : (d : ℕ) → is_cond_node c d ≡ true → is_word (node_name c d) ≡ true
  cond-word d h = let p = both-true (nat_lt d (length c.nodes)) _ h in let (q, y, n, e) = cond-node c d h in named-word d p.0 (ap is_named e)

  -- and a code
  code-word : (d : ℕ) → nat_lt d (length g.codes) ≡ true → is_word (code_of g d).name ≡ true
  code-word d h = name-word (code_of g d).name (text.each_code d (test-below d (length g.codes) h)).named

  -- each of these operands has
  one-word : (k : Kind) → all_of (is_operand c) (named_by k) ≡ true → (a : ℕ) → In a (named_by k) → is_word (node_name c a) ≡ true
  one-word k h a i = operand-word a (all-in (is_operand c) (named_by k) h a i)

  -- the tokens of a line
  tokens-right : (k : Kind) → is_line (length g.codes) c k ≡ true → AreRight (tokens g c k)
  tokens-right (Param k) h = more (Bytes (codes "param")) refl (more (Bytes (decimal k)) (place-word k h) none)
  tokens-right (Const w) h = more (Bytes (codes "const")) refl (more (Number w) h none)
  tokens-right (Operate o a b) h =
      more (Bytes (op_name o)) (op-word o)
      (more (Bytes (node_name c a)) (one-word (Operate o a b) h a (inl refl))
      (more (Bytes (node_name c b)) (one-word (Operate o a b) h b (inr (inl refl))) none))
  tokens-right (Seq a b) h =
      more (Bytes (codes "seq")) refl
      (more (Bytes (node_name c a)) (one-word (Seq a b) h a (inl refl)) (more (Bytes (node_name c b)) (one-word (Seq a b) h b (inr (inl refl))) none))
  tokens-right (Call d) h = more (Bytes (codes "call")) refl (more (Bytes (code_of g d).name) (code-word d h) none)
  tokens-right (Arg f k a) h =
      let p = both-true (is_call_node c f) (is_operand c a && nat_lt k 64) h in
      let q = both-true (is_operand c a) (nat_lt k 64) p.1 in
      more (Bytes (codes "arg")) refl
      (more (Bytes (node_name c f)) (call-word f p.0)
      (more (Bytes (decimal k)) (place-word k q.1) (more (Bytes (node_name c a)) (operand-word a q.0) none)))
  tokens-right (Ret f k) h =
      let p = both-true (is_call_node c f) (nat_lt k 64) h in
      more (Bytes (codes "ret")) refl (more (Bytes (node_name c f)) (call-word f p.0) (more (Bytes (decimal k)) (place-word k p.1) none))
  tokens-right (Give k a) h =
      let p = both-true (is_operand c a) (nat_lt k 64) h in
      more (Bytes (codes "result")) refl (more (Bytes (decimal k)) (place-word k p.1) (more (Bytes (node_name c a)) (operand-word a p.0) none))
  tokens-right (Alloc n) h = more (Bytes (codes "alloc")) refl (more (Bytes (node_name c n)) (one-word (Alloc n) h n (inl refl)) none)
  tokens-right (Fetch a i) h =
      more (Bytes (codes "fetch")) refl
      (more (Bytes (node_name c a)) (one-word (Fetch a i) h a (inl refl)) (more (Bytes (node_name c i)) (one-word (Fetch a i) h i (inr (inl refl))) none))
  tokens-right (Store a i v) h =
      more (Bytes (codes "store")) refl
      (more (Bytes (node_name c a)) (one-word (Store a i v) h a (inl refl))
      (more (Bytes (node_name c i)) (one-word (Store a i v) h i (inr (inl refl)))
      (more (Bytes (node_name c v)) (one-word (Store a i v) h v (inr (inr (inl refl)))) none)))
  tokens-right (Cond p y n) h = more (Bytes (codes "cond")) refl (more (Bytes (node_name c p)) (one-word (Cond p y n) h p (inl refl)) none)
  tokens-right (Switch d k a) h =
      let p = both-true (is_cond_node c d) (is_operand c a && nat_lt k 64) h in
      let q = both-true (is_operand c a) (nat_lt k 64) p.1 in
      more (Bytes (codes "switch")) refl
      (more (Bytes (node_name c d)) (cond-word d p.0)
      (more (Bytes (decimal k)) (place-word k q.1) (more (Bytes (node_name c a)) (operand-word a q.0) none)))
  tokens-right (Merge d k) h =
      let p = both-true (is_cond_node c d) (nat_lt k 64) h in
      more (Bytes (codes "merge")) refl (more (Bytes (node_name c d)) (cond-word d p.0) (more (Bytes (decimal k)) (place-word k p.1) none))
  tokens-right (Enter k) h = more (Bytes (codes "in")) refl (more (Bytes (decimal k)) (place-word k h) none)
  tokens-right (Leave k a) h =
      let p = both-true (is_operand c a) (nat_lt k 64) h in
      more (Bytes (codes "out")) refl (more (Bytes (decimal k)) (place-word k p.1) (more (Bytes (node_name c a)) (operand-word a p.0) none))

  -- a name and its depth
  suffixed-word : (bs : List ℕ) (d : ℕ) → d ≤ 3 → is_word bs ≡ true → is_word (bs ++ suffix d) ≡ true
  suffixed-word [] d l h = absurd (true≢false (sym h))
  suffixed-word (b ∷ bs) d l h = all-both is_plain (b ∷ bs) (suffix d) h (at d l)
    where
      at : (d : ℕ) → d ≤ 3 → all_of is_plain (suffix d) ≡ true
      at zero l = refl
      at (suc d) l = all-more is_plain 58 (decimal (suc d)) refl (decimal-plain (suc d) (omega arith))

  -- a depth is at most 3
  shallow : (x : ℕ) → x < length c.nodes → depth_at c x ≤ 3
  shallow x l =
      let h = all-in (λ x. nat_le (depth_at c x) (greatest_depth c x)) (node_numbers c) code.written.depths x (below-in x (length c.nodes) l) in
      let most : depth_at c x ≤ greatest_depth c x = leb-true (depth_at c x) (greatest_depth c x) h in
      let three = greatest-three (is_operand c x) in omega (arith, most, three)
    where
      greatest-three : (t : Bool) → (elim t as (λ _. ℕ) [ true ↦ 3 | false ↦ 0 ]) ≤ 3
      greatest-three true = omega arith
      greatest-three false = omega arith

  -- the line of a node
  pub node-right : (x : ℕ) → x < length c.nodes → all_of is_right (node_line g c x) ≡ true
  node-right x l = go (is_named (kind_at c x)) refl
    where
      rest : AreRight (tokens g c (kind_at c x))
      rest =
          tokens-right (kind_at c x)
          (all-in (λ x. is_line (length g.codes) c (kind_at c x)) (node_numbers c) code.written.lines x (below-in x (length c.nodes) l))

      go : (t : Bool) → is_named (kind_at c x) ≡ t → all_of is_right (node_line g c x) ≡ true
      go false e = rw (node_line, e) rest.all
      go true e =
          let name = named-word x (below-test x (length c.nodes) l) e in
          rw (node_line, e) (more (Bytes (node_name c x ++ suffix (depth_at c x))) (suffixed-word (node_name c x) (depth_at c x) (shallow x l) name)
          (more (Bytes (codes "=")) refl rest)).all
