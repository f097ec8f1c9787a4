-- The sizes of interfaces, node by node.
use Rattle.std.proofs.Common.{◌≡◌, ◌≢◌, ℕ, suc, ◌+◌, ◌<◌, ◌≤◌, Bool, true, false, ◌==◌, cond, List, Some, length, slice_index_or, slice_set, refl}
use Rattle.std.proofs.Common.{sym, ap, ◌∙◌, arith, get_or-set_same, get_or-set_other}
use Rattle.std.proofs.lemmas.List.{length-set}
use Rattle.std.proofs.lemmas.List.Sums.{sum_by_push, count_by-le-length}
use Rattle.tam_word.specs.Lists.{below}
use Rattle.tam_word.proofs.Tests.{number-eq, number-differs}
use Rattle.tam_graph.specs.Graphs.{Code, block_at, kind_at}
use Rattle.tam_graph.proofs.FewNodes.{length-below}
use Rattle.tam_check.specs.declared.interface.Interface.{Interface}
use Rattle.tam_check.specs.Interfaces.{interface_of}
use Rattle.tam_check.specs.Tables.{number, belongs_to, belongs_at, size_below, size_in, AreSizes}
use Rattle.tam_check.proofs.Keys.{same-side}

-- one more node
size-next : (c : Code) (i : Interface) (n : ℕ) → size_below c i (n + 1) ≡ size_below c i n + cond (belongs_at c i n) 1 0
size-next c i n = let next : n + 1 ≡ suc n = omega arith in rw next (sum_by_push (λ x. cond (belongs_at c i x) 1 0) (below n) n)

-- no more than there are nodes
pub size-small : (c : Code) (i : Interface) (n : ℕ) → size_below c i n ≤ n
size-small c i n = omega (arith, count_by-le-length (belongs_at c i) (below n), length-below n)

module _ (c : Code) (n interfaces : ℕ) (sizes : List ℕ) (is : AreSizes c n interfaces sizes) where
  -- a node that belongs to no interface of the table
  pub sizes-same : ((i : Interface) → number i < interfaces → belongs_at c i n ≡ false) → AreSizes c (n + 1) interfaces sizes
  sizes-same none = record {
    len = is.len;
    each = λ i l. is.each i l ∙ sym (size-next c i n ∙ rw (none i l) (omega arith));
  }

  module _ (j : Interface) (p : ℕ) (own : interface_of (block_at c n) (kind_at c n) ≡ Some (j, p)) where
    belongs : (i : Interface) → belongs_at c i n ≡ (number j == number i)
    belongs i = ap (belongs_to i) own ∙ same-side j i

    -- a node of an interface that the table lacks
    pub sizes-untold : interfaces ≤ number j → AreSizes c (n + 1) interfaces sizes
    sizes-untold l = sizes-same (λ i m. differs i m (number j == number i) refl)
      where
        differs : (i : Interface) → number i < interfaces → (b : Bool) → (number j == number i) ≡ b → belongs_at c i n ≡ false
        differs i m false e = belongs i ∙ e
        differs i m true e = absurd (let f = number-eq (number j) (number i) e in omega (arith, l, m, f))

    -- a node of an interface of the table
    pub sizes-added : number j < interfaces → AreSizes c (n + 1) interfaces (slice_set sizes (number j) (slice_index_or sizes (number j) 0 + 1))
    sizes-added l = record {
      len = length-set sizes (number j) (slice_index_or sizes (number j) 0 + 1) ∙ is.len;
      each = λ i m. go i m (number j == number i) refl;
    }
      where
        within : number j < length sizes
        within = omega (arith, l, is.len)

        go : (i : Interface) → number i < interfaces → (b : Bool) → (number j == number i) ≡ b
            → size_in (slice_set sizes (number j) (slice_index_or sizes (number j) 0 + 1)) (number i) ≡ size_below c i (n + 1)
        go i m true e =
            let same = number-eq (number j) (number i) e in
            let more = size-next c i n ∙ ap (λ b. size_below c i n + cond b 1 0) (belongs i ∙ e) in
            ap (size_in (slice_set sizes (number j) (slice_index_or sizes (number j) 0 + 1))) (sym same)
            ∙ (get_or-set_same sizes (number j) (slice_index_or sizes (number j) 0 + 1) 0 within
            ∙ (ap (λ z. slice_index_or sizes z 0 + 1) same ∙ (ap (λ z. z + 1) (is.each i m) ∙ sym more)))
        go i m false e =
            let more = size-next c i n ∙ ap (λ b. size_below c i n + cond b 1 0) (belongs i ∙ e) in
            let other : number i ≢ number j = λ q. number-differs (number j) (number i) e (sym q) in
            let none : size_below c i n + 0 ≡ size_below c i n = omega arith in
            get_or-set_other sizes (number j) (number i) (slice_index_or sizes (number j) 0 + 1) 0 other ∙ (is.each i m ∙ sym (more ∙ none))
