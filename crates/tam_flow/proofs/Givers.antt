-- Which nodes give words to a node: an inner node to itself, a switch to an `in` of the branch chosen, an `out` to a merge of the branch's cond.
use Rattle.std.proofs.Common.{◌≡◌, ℕ, Bool, true, false, ◌==◌, List, [], ◌∷◌, Option, Some, None, slice_get, refl, sym, ap, ◌∙◌, subst, inl, inr, true≢false}
use Rattle.tam_graph.specs.declared.kind.Kind.{Kind}
use Rattle.tam_graph.specs.declared.kind.Kind.TheVariants.{Param, Const, Op as Operate, Seq, Call, Ret, Alloc, Fetch, Cond, Switch}
use Rattle.tam_graph.specs.declared.kind.Kind.TheVariants.{Merge, Enter, Leave}
use Rattle.tam_graph.specs.Graphs.{Code, kind_at, block_at, nodes_in, node_numbers, node_where, operands_of, chosen_branch, owner_of, one_or_none}
use Rattle.tam_graph.specs.Graphs.{is_merge, is_enter}
use Rattle.tam_split.proofs.Firers.{is_inner}
use Rattle.tam_word.proofs.Tests.{number-eq}
use Rattle.tam_word.proofs.Members.{In, in-flat_map, in-filter}
use Rattle.tam_world.specs.Worlds.{World}
use Rattle.tam_flow.proofs.Nodes.{is-merge, is-enter}
use Rattle.tam_flow.proofs.Moves.{in-first}
use Rattle.tam_flow.proofs.Gifts.{gift, opens}
use Rattle.tam_flow.proofs.FiringReasons.{HaveThese}

-- a message carries the node's word to it
abbrev pub is_received : Kind → Bool
is_received (Param k) = true
is_received (Ret f k) = true
is_received (Call c) = true
is_received (Alloc n) = true
is_received (Fetch a j) = true
is_received k = false

-- what is inner isn't received
pub inner-no_message : (k : Kind) → is_inner k ≡ true → is_received k ≡ false
inner-no_message (Const v) h = refl
inner-no_message (Operate o a b) h = refl
inner-no_message (Seq a b) h = refl
inner-no_message k h = absurd (true≢false (sym h))

-- how node x, which fires with the words vs, gives a word to node y
pub data GivenTo (c : Code) (x : ℕ) (k : Kind) (vs : List ℕ) (y : ℕ) : Type 0 where
  Itself : x ≡ y → is_inner k ≡ true → GivenTo c x k vs y
  Inwards : (d j a u v : ℕ) → k ≡ Switch d j a → vs ≡ u ∷ v ∷ [] → kind_at c y ≡ Enter j → block_at c y ≡ chosen_branch c d u → GivenTo c x k vs y
  Outwards : (j a v d : ℕ) → k ≡ Leave j a → vs ≡ v ∷ [] → slice_get c.owners (block_at c x) ≡ Some (Some d) → kind_at c y ≡ Merge d j → GivenTo c x k vs y

-- an owner of a block
owned : (o : Option (Option ℕ)) (d : ℕ) → In d (one_or_none o) → o ≡ Some (Some d)
owned None d m = absurd m
owned (Some None) d m = absurd m
owned (Some (Some e)) d (inl q) = ap (λ z. Some (Some z)) q
owned (Some (Some e)) d (inr q) = absurd q

-- each node that gets a word by a firing gets it so
pub given-to : (c : Code) (x : ℕ) (k : Kind) (vs : List ℕ) (y : ℕ) → In y (gift c x k vs).0 → GivenTo c x k vs y
given-to c x (Const v) [] y (inl e) = Itself e refl
given-to c x (Const v) [] y (inr e) = absurd e
given-to c x (Operate o a b) (u ∷ v ∷ []) y (inl e) = Itself e refl
given-to c x (Operate o a b) (u ∷ v ∷ []) y (inr e) = absurd e
given-to c x (Seq a b) (u ∷ v ∷ []) y (inl e) = Itself e refl
given-to c x (Seq a b) (u ∷ v ∷ []) y (inr e) = absurd e
given-to c x (Switch d k a) (u ∷ v ∷ []) y m =
    let r = in-first (λ z. is_enter k (kind_at c z)) (nodes_in c (chosen_branch c d u)) y m in
    Inwards d k a u v refl refl (is-enter k (kind_at c y) r.1)
    (number-eq (block_at c y) (chosen_branch c d u) (in-filter (λ z. block_at c z == chosen_branch c d u) y (node_numbers c) r.0).1)
given-to c x (Leave k a) (v ∷ []) y m =
    let r = in-flat_map (λ d. node_where c (is_merge d k)) y (owner_of c (block_at c x)) m in
    Outwards k a v r.0 refl refl (owned (slice_get c.owners (block_at c x)) r.0 r.1)
    (is-merge r.0 k (kind_at c y) (in-first (λ z. is_merge r.0 k (kind_at c z)) (node_numbers c) y r.2).1)
given-to c x k vs y m = absurd m

-- what gets a word by a firing gets it by no message
pub given-no_message : (c : Code) (x : ℕ) (k : Kind) (vs : List ℕ) (y : ℕ) → kind_at c x ≡ k → GivenTo c x k vs y → is_received (kind_at c y) ≡ false
given-no_message c x k vs y e (Itself q h) = subst (λ z. is_received (kind_at c z) ≡ false) q (ap is_received e ∙ inner-no_message k h)
given-no_message c x k vs y e (Inwards d j a u v p q h b) = ap is_received h
given-no_message c x k vs y e (Outwards j a v d p q b h) = ap is_received h

-- an inner node gives itself a word
pub inner-gives : (c : Code) (x : ℕ) (k : Kind) (w : World) (i : ℕ) (vs : List ℕ) → is_inner k ≡ true → HaveThese w i (operands_of c k) vs
    → In x (gift c x k vs).0
inner-gives c x (Const v) w i [] h have = inl refl
inner-gives c x (Const v) w i (u ∷ us) h have = absurd have
inner-gives c x (Operate o a b) w i [] h have = absurd have
inner-gives c x (Operate o a b) w i (u ∷ []) h have = absurd have.1
inner-gives c x (Operate o a b) w i (u ∷ v ∷ []) h have = inl refl
inner-gives c x (Operate o a b) w i (u ∷ v ∷ t ∷ ts) h have = absurd have.1.1
inner-gives c x (Seq a b) w i [] h have = absurd have
inner-gives c x (Seq a b) w i (u ∷ []) h have = absurd have.1
inner-gives c x (Seq a b) w i (u ∷ v ∷ []) h have = inl refl
inner-gives c x (Seq a b) w i (u ∷ v ∷ t ∷ ts) h have = absurd have.1.1
inner-gives c x k w i vs h have = absurd (true≢false (sym h))

-- only a cond enters a block, the branch that its word chooses
pub record IsChosen (c : Code) (x : ℕ) (k : Kind) (vs : List ℕ) (b : ℕ) : Type 0 where
  pub test : ℕ
  pub yes_block : ℕ
  pub no_block : ℕ
  pub word : ℕ
  pub cond : k ≡ Cond test yes_block no_block
  pub words : vs ≡ word ∷ []
  pub block : b ≡ chosen_branch c x word

-- so it is with each block that is entered
pub opens-chosen : (c : Code) (x : ℕ) (k : Kind) (vs : List ℕ) (b : ℕ) → In b (opens c x k vs) → IsChosen c x k vs b
opens-chosen c x (Cond p y n) (v ∷ []) b (inl e) = record {
  test = p;
  yes_block = y;
  no_block = n;
  word = v;
  cond = refl;
  words = refl;
  block = sym e;
}
opens-chosen c x (Cond p y n) (v ∷ []) b (inr e) = absurd e
opens-chosen c x k vs b m = absurd m
