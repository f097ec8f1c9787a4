-- What a table doesn't tell of, no node has.
use Rattle.std.proofs.Common.{◌≡◌, ℕ, ◌+◌, ◌*◌, ◌<◌, ◌≤◌, Bool, true, false, ◌&&◌, ◌==◌, nat_lt, List, [], ◌∷◌, Option, Some, None, length, refl, sym}
use Rattle.std.proofs.Common.{ap, ◌∙◌, subst, arith, true≢false, cond, inl, inr, tests}
use Rattle.std.specs.List.{count_by}
use Rattle.std.proofs.lemmas.Option.{slice_get_past}
use Rattle.std.proofs.lemmas.List.{get_or_past}
use Rattle.std.proofs.lemmas.List.Sums.{sum_by-cons}
use Rattle.tam_word.proofs.Tests.{number-eq, eq-number, self-eq, both-true, true-both, below-test, test-below}
use Rattle.tam_word.proofs.Members.{In, all-in, in-all, any-in, below-in, in-below}
use Rattle.tam_graph.specs.declared.kind.Kind.{Kind}
use Rattle.tam_graph.specs.declared.kind.Kind.TheVariants.{Param, Arg, Ret, Give, Switch, Merge, Enter, Leave}
use Rattle.tam_graph.specs.Graphs.{Code, kind_at, block_at, node_numbers}
use Rattle.tam_graph.specs.Written.{is_line, is_call_node, is_cond_node, is_operand}
use Rattle.tam_graph.specs.Reading.{IsCode}
use Rattle.tam_graph.proofs.FewNodes.{block-below}
use Rattle.tam_check.specs.declared.interface.Interface.{Interface}
use Rattle.tam_check.specs.declared.seen.Seen.{Seen}
use Rattle.tam_check.specs.declared.seen.Seen.TheVariants.{Nothing}
use Rattle.tam_check.specs.Interfaces.{interface_of, stands_at, has_place, agrees}
use Rattle.tam_check.specs.Tables.{sort_of, owner_number, number, joined, row_entry, entry, same_side, belongs_to, belongs_at, size_of, size_in, Shows}
use Rattle.tam_check.specs.Tables.{IsTable, AreSizes}
use Rattle.tam_check.proofs.Keys.{own_stands, stands-own, sort-below}

-- a node has its own place
pub own-place : (c : Code) (x : ℕ) (j : Interface) (p : ℕ) → interface_of (block_at c x) (kind_at c x) ≡ Some (j, p) → stands_at c j p x ≡ true
own-place c x j p own =
    stands-own j p (block_at c x) (kind_at c x) ∙ (ap (own_stands j p) own
    ∙ true-both (same_side j j) (p == p) (true-both (sort_of j == sort_of j) (owner_number j == owner_number j) (self-eq (sort_of j))
    (self-eq (owner_number j))) (self-eq p))

-- a node of an interface has a place of it
belongs-stands : (c : Code) (i : Interface) (x : ℕ) → belongs_at c i x ≡ true → (p : ℕ) × (stands_at c i p x ≡ true)
belongs-stands c i x h = go (interface_of (block_at c x) (kind_at c x)) refl
  where
    go : (o : Option (Interface × ℕ)) → interface_of (block_at c x) (kind_at c x) ≡ o → (p : ℕ) × (stands_at c i p x ≡ true)
    go None e = absurd (true≢false (sym h ∙ ap (belongs_to i) e))
    go (Some q) e =
        let side : same_side q.0 i ≡ true = sym (ap (belongs_to i) e) ∙ h in (
          q.1,
          stands-own i q.1 (block_at c x) (kind_at c x)
              ∙ (ap (own_stands i q.1) e ∙ true-both (same_side q.0 i) (q.1 == q.1) side (eq-number q.1 q.1 refl)),
        )

-- where none passes, the count is 0
count-none : (test : ℕ → Bool) (xs : List ℕ) → ((x : ℕ) → In x xs → test x ≡ false) → count_by test xs ≡ 0
count-none test [] f = refl
count-none test (x ∷ xs) f = sum_by-cons (λ y. cond (test y) 1 0) x xs ∙ rw (f x (inl refl), count-none test xs (λ y m. f y (inr m))) refl

module _ (c : Code) (code : IsCode c) where
  -- an interface that a node may have, and a place
  Near : Option (Interface × ℕ) → Type 0
  Near None = Unit {0}
  Near (Some q) = (q.1 < 64) × (owner_number q.0 < length c.nodes + length c.owners)

  -- the last of three tests
  third : (s t u : Bool) → (s && (t && u)) ≡ true → u ≡ true
  third s t u h = (both-true t u (both-true s (t && u) h).1).1

  -- a node's own is near
  near : (x : ℕ) → x < length c.nodes → (m : Kind) → is_line code.0 c m ≡ true → Near (interface_of (block_at c x) m)
  unfolding Near
  near x l (Param k) h = (test-below k 64 h, omega (arith, l))
  near x l (Give k a) h = (test-below k 64 (both-true (is_operand c a) (nat_lt k 64) h).1, omega (arith, l))
  near x l (Arg f k a) h =
      let s = both-true (is_call_node c f) (is_operand c a && nat_lt k 64) h in
      let low = test-below f (length c.nodes) (both-true (nat_lt f (length c.nodes)) _ s.0).0 in
      (test-below k 64 (third (is_call_node c f) (is_operand c a) (nat_lt k 64) h), omega (arith, low))
  near x l (Ret f k) h =
      let s = both-true (is_call_node c f) (nat_lt k 64) h in
      let low = test-below f (length c.nodes) (both-true (nat_lt f (length c.nodes)) _ s.0).0 in
      (test-below k 64 s.1, omega (arith, low))
  near x l (Switch d k a) h =
      let s = both-true (is_cond_node c d) (is_operand c a && nat_lt k 64) h in
      let low = test-below d (length c.nodes) (both-true (nat_lt d (length c.nodes)) _ s.0).0 in
      (test-below k 64 (third (is_cond_node c d) (is_operand c a) (nat_lt k 64) h), omega (arith, low))
  near x l (Merge d k) h =
      let s = both-true (is_cond_node c d) (nat_lt k 64) h in
      let low = test-below d (length c.nodes) (both-true (nat_lt d (length c.nodes)) _ s.0).0 in
      (test-below k 64 s.1, omega (arith, low))
  near x l (Enter k) h = let low = block-below code.0 c code.2.written x l in (test-below k 64 h, omega (arith, low))
  near x l (Leave k a) h = let low = block-below code.0 c code.2.written x l in
      (test-below k 64 (both-true (is_operand c a) (nat_lt k 64) h).1, omega (arith, low))
  near x l other h = tt

  -- and so is each that it has a place of
  pub near-place : (x : ℕ) → x < length c.nodes → (i : Interface) (k : ℕ) → stands_at c i k x ≡ true
      → (k < 64) × (number i < 8 * (length c.nodes + length c.owners))
  unfolding Near
  near-place x l i k h =
      let line = all-in (λ y. is_line code.0 c (kind_at c y)) (node_numbers c) code.2.written.lines x (below-in x (length c.nodes) l) in
      go (interface_of (block_at c x) (kind_at c x)) (near x l (kind_at c x) line) (sym (stands-own i k (block_at c x) (kind_at c x)) ∙ h)
    where
      go : (o : Option (Interface × ℕ)) → Near o → own_stands i k o ≡ true → (k < 64) × (number i < 8 * (length c.nodes + length c.owners))
      go None n e = absurd (true≢false (sym e))
      go (Some q) n e =
          let s = both-true (same_side q.0 i) (q.1 == k) e in
          let place = number-eq q.1 k s.1 in
          let side = both-true (sort_of q.0 == sort_of i) (owner_number q.0 == owner_number i) s.0 in
          let owner = number-eq (owner_number q.0) (owner_number i) side.1 in
          (let low = n.0 in omega (arith, low, place), let low = n.1 in let sort = sort-below i in omega (arith, low, owner, sort))

  -- where no node has the place, nothing is told rightly
  shows-nothing : (i : Interface) (k : ℕ) → ((x : ℕ) → x < length c.nodes → stands_at c i k x ≡ true → ⊥) → Shows c (length c.nodes) i k Nothing
  shows-nothing i k none = record {
    place = sym (no-place (has_place c i k) refl);
    depths = λ d. sym (in-all (agrees c i k d) (node_numbers c) (λ x m. no-node d x (in-below x (length c.nodes) m) (stands_at c i k x) refl));
  }
    where
      no-place : (b : Bool) → has_place c i k ≡ b → has_place c i k ≡ false
      no-place false e = e
      no-place true e = let r = any-in (stands_at c i k) (node_numbers c) e in absurd (none r.0 (in-below r.0 (length c.nodes) r.1) r.2)

      no-node : (d x : ℕ) → x < length c.nodes → (b : Bool) → stands_at c i k x ≡ b → agrees c i k d x ≡ true
      no-node d x l true e = absurd (none x l e)
      no-node d x l false e = rw e refl

  -- a table that has all interfaces of this sort tells of each place
  pub shows-all : (interfaces : ℕ) (rows : List (Option ℕ)) (seen : List Seen) → IsTable c (length c.nodes) interfaces rows seen → (i : Interface)
      → ((x k : ℕ) → x < length c.nodes → stands_at c i k x ≡ true → number i < interfaces) → (k : ℕ) → Shows c (length c.nodes) i k (entry rows seen i k)
  shows-all interfaces rows seen is i within k = go (nat_lt k 64) refl (nat_lt (number i) interfaces) refl
    where
      go : (s : Bool) → nat_lt k 64 ≡ s → (t : Bool) → nat_lt (number i) interfaces ≡ t → Shows c (length c.nodes) i k (entry rows seen i k)
      go false e t f =
          let told : entry rows seen i k ≡ Nothing = rw (entry, e) refl in
          subst (Shows c (length c.nodes) i k) (sym told) (shows-nothing i k (λ x l h. true≢false (sym (below-test k 64 (near-place x l i k h).0) ∙ e)))
      go true e true f = is.each i k (test-below k 64 e) (test-below (number i) interfaces f)
      go true e false f =
          let past : length rows ≤ number i = let long = is.len in grind (arith, tests) in
          let told : entry rows seen i k ≡ Nothing = rw (entry, e) (ap (λ o. row_entry seen (joined o) k) (slice_get_past rows (number i) past)) in
          subst (Shows c (length c.nodes) i k) (sym told) (shows-nothing i k
          (λ x l h. true≢false (sym (below-test (number i) interfaces (within x k l h)) ∙ f)))

  -- each interface of the code has its size, or none
  pub sizes-all : (sizes : List ℕ) → AreSizes c (length c.nodes) (8 * (length c.nodes + length c.owners)) sizes → (i : Interface)
      → size_in sizes (number i) ≡ size_of c i
  sizes-all sizes is i = go (nat_lt (number i) (8 * (length c.nodes + length c.owners))) refl
    where
      none : nat_lt (number i) (8 * (length c.nodes + length c.owners)) ≡ false → (x : ℕ) → x < length c.nodes → (b : Bool) → belongs_at c i x ≡ b
          → belongs_at c i x ≡ false
      none e x l false h = h
      none e x l true h =
          let p = belongs-stands c i x h in
          absurd (true≢false (sym (below-test (number i) (8 * (length c.nodes + length c.owners)) (near-place x l i p.0 p.1).1) ∙ e))

      go : (b : Bool) → nat_lt (number i) (8 * (length c.nodes + length c.owners)) ≡ b → size_in sizes (number i) ≡ size_of c i
      go true e = is.each i (test-below (number i) (8 * (length c.nodes + length c.owners)) e)
      go false e =
          let past : length sizes ≤ number i = let long = is.len in grind (arith, tests) in
          get_or_past sizes (number i) 0 past ∙ sym (count-none (belongs_at c i) (node_numbers c)
          (λ x m. none e x (in-below x (length c.nodes) m) (belongs_at c i x) refl))
