-- The verb of a node's line and the numbers behind it, by what the node does.
use Rattle.std.proofs.Common.{◌≡◌, ℕ, ◌^◌, Bool, true, false, ◌&&◌, ◌==◌, nat_lt, List, [], ◌∷◌, ◌++◌, length, refl, sym, ap, ◌∙◌, true≢false}
use Rattle.std.specs.Prelude.{is_some}
use Rattle.tam_word.specs.Lists.{all_of, same_bytes}
use Rattle.tam_word.specs.declared.op.Op.{Op}
use Rattle.tam_word.specs.declared.op.Op.TheVariants as op
use Rattle.tam_word.proofs.Tests.{both-true}
use Rattle.tam_graph.specs.declared.kind.Kind.{Kind}
use Rattle.tam_graph.specs.declared.kind.Kind.TheVariants as kind
use Rattle.tam_graph.specs.Graphs.{Code, Graph}
use Rattle.tam_graph.specs.Texts.{Bytes, tokens, is_named}
use Rattle.tam_graph.specs.Written.{is_operand, is_line}
use Rattle.tam_read.specs.declared.form.Verb.{Verb}
use Rattle.tam_read.specs.declared.form.Verb.TheVariants as verb
use Rattle.tam_read.specs.Sentences.{Sentence, verb_text, verb_called, makes, roles_of, has_form, said_by}
use Rattle.tam_read.specs.Tables.{is_node}
use Rattle.tam_read.specs.Building.{kind_made, else_kind}
use Rattle.tam_read.proofs.Spelling.{three_tokens}
use Rattle.tam_read.proofs.LinesRight.{AreRight}

-- the verb
abbrev pub verb_of : Kind → Verb
verb_of (kind.Param k) = verb.Param
verb_of (kind.Const w) = verb.Const
verb_of (kind.Op o a b) = verb.Operate o
verb_of (kind.Seq a b) = verb.Seq
verb_of (kind.Call d) = verb.Call
verb_of (kind.Arg f k a) = verb.Arg
verb_of (kind.Ret f k) = verb.Ret
verb_of (kind.Give k a) = verb.Give
verb_of (kind.Alloc n) = verb.Alloc
verb_of (kind.Fetch a i) = verb.Fetch
verb_of (kind.Store a i v) = verb.Store
verb_of (kind.Cond p y n) = verb.Cond
verb_of (kind.Switch d k a) = verb.Switch
verb_of (kind.Merge d k) = verb.Merge
verb_of (kind.Enter k) = verb.Enter
verb_of (kind.Leave k a) = verb.Leave

-- the first number
abbrev pub first_of_kind : Kind → ℕ
first_of_kind (kind.Param k) = k
first_of_kind (kind.Const w) = w
first_of_kind (kind.Op o a b) = a
first_of_kind (kind.Seq a b) = a
first_of_kind (kind.Call d) = d
first_of_kind (kind.Arg f k a) = f
first_of_kind (kind.Ret f k) = f
first_of_kind (kind.Give k a) = k
first_of_kind (kind.Alloc n) = n
first_of_kind (kind.Fetch a i) = a
first_of_kind (kind.Store a i v) = a
first_of_kind (kind.Cond p y n) = p
first_of_kind (kind.Switch d k a) = d
first_of_kind (kind.Merge d k) = d
first_of_kind (kind.Enter k) = k
first_of_kind (kind.Leave k a) = k

-- the second, or 0
abbrev pub second_of_kind : Kind → ℕ
second_of_kind (kind.Op o a b) = b
second_of_kind (kind.Seq a b) = b
second_of_kind (kind.Arg f k a) = k
second_of_kind (kind.Ret f k) = k
second_of_kind (kind.Give k a) = a
second_of_kind (kind.Fetch a i) = i
second_of_kind (kind.Store a i v) = i
second_of_kind (kind.Switch d k a) = k
second_of_kind (kind.Merge d k) = k
second_of_kind (kind.Leave k a) = a
second_of_kind k = 0

-- the third, or 0
abbrev pub third_of_kind : Kind → ℕ
third_of_kind (kind.Arg f k a) = a
third_of_kind (kind.Store a i v) = v
third_of_kind (kind.Switch d k a) = a
third_of_kind k = 0

-- the blocks of a cond, or 0
abbrev pub then_of_kind : Kind → ℕ
then_of_kind (kind.Cond p y n) = y
then_of_kind k = 0

-- the else block of a cond, or 0
abbrev pub else_of_kind : Kind → ℕ
else_of_kind (kind.Cond p y n) = n
else_of_kind k = 0

-- a kind is made of its verb and its numbers
pub kind-again : (k : Kind) → else_kind (else_of_kind k) (kind_made (verb_of k) (first_of_kind k) (second_of_kind k) (third_of_kind k) (then_of_kind k)) ≡ k
kind-again (kind.Param k) = refl
kind-again (kind.Const w) = refl
kind-again (kind.Op o a b) = refl
kind-again (kind.Seq a b) = refl
kind-again (kind.Call d) = refl
kind-again (kind.Arg f k a) = refl
kind-again (kind.Ret f k) = refl
kind-again (kind.Give k a) = refl
kind-again (kind.Alloc n) = refl
kind-again (kind.Fetch a i) = refl
kind-again (kind.Store a i v) = refl
kind-again (kind.Cond p y n) = refl
kind-again (kind.Switch d k a) = refl
kind-again (kind.Merge d k) = refl
kind-again (kind.Enter k) = refl
kind-again (kind.Leave k a) = refl

-- its verb is that of a node
pub verb-is-node : (k : Kind) → is_node (verb_of k) ≡ true
verb-is-node (kind.Param k) = refl
verb-is-node (kind.Const w) = refl
verb-is-node (kind.Op o a b) = refl
verb-is-node (kind.Seq a b) = refl
verb-is-node (kind.Call d) = refl
verb-is-node (kind.Arg f k a) = refl
verb-is-node (kind.Ret f k) = refl
verb-is-node (kind.Give k a) = refl
verb-is-node (kind.Alloc n) = refl
verb-is-node (kind.Fetch a i) = refl
verb-is-node (kind.Store a i v) = refl
verb-is-node (kind.Cond p y n) = refl
verb-is-node (kind.Switch d k a) = refl
verb-is-node (kind.Merge d k) = refl
verb-is-node (kind.Enter k) = refl
verb-is-node (kind.Leave k a) = refl

-- the tokens of its line
pub tokens-of-kind : (g : Graph) (c : Code) (k : Kind)
    → tokens g c k ≡ Bytes (verb_text (verb_of k)) ∷ three_tokens g c (roles_of (verb_of k)) (first_of_kind k) (second_of_kind k) (third_of_kind k)
tokens-of-kind g c (kind.Param k) = refl
tokens-of-kind g c (kind.Const w) = refl
tokens-of-kind g c (kind.Op o a b) = refl
tokens-of-kind g c (kind.Seq a b) = refl
tokens-of-kind g c (kind.Call d) = refl
tokens-of-kind g c (kind.Arg f k a) = refl
tokens-of-kind g c (kind.Ret f k) = refl
tokens-of-kind g c (kind.Give k a) = refl
tokens-of-kind g c (kind.Alloc n) = refl
tokens-of-kind g c (kind.Fetch a i) = refl
tokens-of-kind g c (kind.Store a i v) = refl
tokens-of-kind g c (kind.Cond p y n) = refl
tokens-of-kind g c (kind.Switch d k a) = refl
tokens-of-kind g c (kind.Merge d k) = refl
tokens-of-kind g c (kind.Enter k) = refl
tokens-of-kind g c (kind.Leave k a) = refl

-- its line begins with a name where its verb makes a node that can be named
pub named-by-verb : (k : Kind) → is_named k ≡ is_some (makes (verb_of k))
named-by-verb (kind.Param k) = refl
named-by-verb (kind.Const w) = refl
named-by-verb (kind.Op o a b) = refl
named-by-verb (kind.Seq a b) = refl
named-by-verb (kind.Call d) = refl
named-by-verb (kind.Arg f k a) = refl
named-by-verb (kind.Ret f k) = refl
named-by-verb (kind.Give k a) = refl
named-by-verb (kind.Alloc n) = refl
named-by-verb (kind.Fetch a i) = refl
named-by-verb (kind.Store a i v) = refl
named-by-verb (kind.Cond p y n) = refl
named-by-verb (kind.Switch d k a) = refl
named-by-verb (kind.Merge d k) = refl
named-by-verb (kind.Enter k) = refl
named-by-verb (kind.Leave k a) = refl

-- where all of two pass, both do
both-pass : (f : ℕ → Bool) (a b : ℕ) → all_of f (a ∷ b ∷ []) ≡ true → (f a ≡ true) × (f b ≡ true)
both-pass f a b e = go (f a) refl
  where
    last : (t : Bool) → f b ≡ t → all_of f (b ∷ []) ≡ true → f b ≡ true
    last true p h = p
    last false p h = absurd (true≢false (sym (rw (all_of, p) at h)))

    go : (t : Bool) → f a ≡ t → (f a ≡ true) × (f b ≡ true)
    go true p = (p, last (f b) refl (rw (all_of, p) at e))
    go false p = absurd (true≢false (sym (rw (all_of, p) at e)))

-- where all of one pass, it does
one-passes : (f : ℕ → Bool) (a : ℕ) → all_of f (a ∷ []) ≡ true → f a ≡ true
one-passes f a e = go (f a) refl
  where
    go : (t : Bool) → f a ≡ t → f a ≡ true
    go true p = p
    go false p = absurd (true≢false (sym (rw (all_of, p) at e)))

-- where all pass, the first does, and those behind it
rest-passes : (f : ℕ → Bool) (a : ℕ) (bs : List ℕ) → all_of f (a ∷ bs) ≡ true → (f a ≡ true) × (all_of f bs ≡ true)
rest-passes f a bs e = go (f a) refl
  where
    go : (t : Bool) → f a ≡ t → (f a ≡ true) × (all_of f bs ≡ true)
    go true p = (p, rw (all_of, p) at e)
    go false p = absurd (true≢false (sym (rw (all_of, p) at e)))

-- where its line is right, so are its numbers
pub numbers-right : (codes : ℕ) (c : Code) (k : Kind) → is_line codes c k ≡ true
    → AreRight codes c (roles_of (verb_of k)) (first_of_kind k) (second_of_kind k) (third_of_kind k)
numbers-right codes c (kind.Param k) h = h
numbers-right codes c (kind.Const w) h = h
numbers-right codes c (kind.Op o a b) h = both-pass (is_operand c) a b h
numbers-right codes c (kind.Seq a b) h = both-pass (is_operand c) a b h
numbers-right codes c (kind.Call d) h = h
numbers-right codes c (kind.Arg f k a) h = let p = both-true _ _ h in let q = both-true (is_operand c a) (nat_lt k 64) p.1 in (p.0, q.1, q.0)
numbers-right codes c (kind.Ret f k) h = let p = both-true _ (nat_lt k 64) h in (p.0, p.1)
numbers-right codes c (kind.Give k a) h = let p = both-true (is_operand c a) (nat_lt k 64) h in (p.1, p.0)
numbers-right codes c (kind.Alloc n) h = one-passes (is_operand c) n h
numbers-right codes c (kind.Fetch a i) h = both-pass (is_operand c) a i h
numbers-right codes c (kind.Store a i v) h = let p = rest-passes (is_operand c) a (i ∷ v ∷ []) h in let q = both-pass (is_operand c) i v p.1 in (p.0, q.0, q.1)
numbers-right codes c (kind.Cond p y n) h = one-passes (is_operand c) p h
numbers-right codes c (kind.Switch d k a) h = let p = both-true _ _ h in let q = both-true (is_operand c a) (nat_lt k 64) p.1 in (p.0, q.1, q.0)
numbers-right codes c (kind.Merge d k) h = let p = both-true _ (nat_lt k 64) h in (p.0, p.1)
numbers-right codes c (kind.Enter k) h = h
numbers-right codes c (kind.Leave k a) h = let p = both-true (is_operand c a) (nat_lt k 64) h in (p.1, p.0)

-- ---- a verb is called by its own text

-- an operator is called by its own name
called-op : (o : Op) → verb_called (verb_text (verb.Operate o)) ≡ verb.Operate o ∷ []
called-op op.Add = refl
called-op op.Sub = refl
called-op op.Mul = refl
called-op op.Div = refl
called-op op.Divu = refl
called-op op.Rem = refl
called-op op.Remu = refl
called-op op.And = refl
called-op op.Or = refl
called-op op.Xor = refl
called-op op.Sll = refl
called-op op.Srl = refl
called-op op.Sra = refl
called-op op.Slt = refl
called-op op.Sltu = refl
called-op op.Eq = refl

-- each verb is called by its own text
pub called-itself : (v : Verb) → verb_called (verb_text v) ≡ v ∷ []
called-itself verb.Param = refl
called-itself verb.Const = refl
called-itself (verb.Operate o) = called-op o
called-itself verb.Seq = refl
called-itself verb.Call = refl
called-itself verb.Arg = refl
called-itself verb.Ret = refl
called-itself verb.Give = refl
called-itself verb.Alloc = refl
called-itself verb.Fetch = refl
called-itself verb.Store = refl
called-itself verb.Cond = refl
called-itself verb.Switch = refl
called-itself verb.Merge = refl
called-itself verb.Enter = refl
called-itself verb.Leave = refl
called-itself verb.Code = refl
called-itself verb.Else = refl
called-itself verb.End = refl

-- so a verb's form says the sentence
pub said-again : (name : List (List ℕ)) (v : Verb) (rest : List (List ℕ)) → has_form name rest v ≡ true
    → said_by name (verb_text v) rest ≡ record { name = name; verb = v; rest = rest } ∷ []
said-again name v rest f = rw (said_by, called-itself v, f) refl
