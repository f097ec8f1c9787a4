-- An interface lacks a place where it lacks one of those below 64.
use Rattle.std.proofs.Common.{◌≡◌, ℕ, ◌<◌, Bool, true, false, not, ◌&&◌, ◌||◌, ◌==◌, nat_lt, List, Option, refl, sym, ap, ◌∙◌, subst, inl, inr, ◌⊎◌, true≢false}
use Rattle.tam_word.specs.Lists.{below, any_of}
use Rattle.tam_word.proofs.Tests.{number-eq, self-eq, both-true, true-both, test-below}
use Rattle.tam_word.proofs.Members.{In, any-in, in-any, below-in}
use Rattle.tam_graph.specs.declared.kind.Kind.{Kind}
use Rattle.tam_graph.specs.declared.kind.Kind.TheVariants.{Param, Give, Switch, Merge}
use Rattle.tam_graph.specs.Graphs.{Code, kind_at, node_numbers, is_param, is_give, is_switch, is_merge, is_enter, is_leave}
use Rattle.tam_graph.specs.Accepted.{lacks_for_call, lacks_in_branches, has_node_in}
use Rattle.tam_check.specs.declared.interface.Interface.{Interface}
use Rattle.tam_check.specs.declared.interface.Interface.TheVariants.{Params, Results, Args, Rets, Switches, Merges, Ins, Outs}
use Rattle.tam_check.specs.declared.seen.Seen.{Seen}
use Rattle.tam_check.specs.Interfaces.{stands_at, has_place, call_lacks_at, branches_lack_at}
use Rattle.tam_check.specs.Tables.{is_something, entry}
use Rattle.tam_check.proofs.InterfaceTests.{enters-place, leaves-place}

-- what a table tells of has a place below 64
pub low-place : (c : Code) (rows : List (Option ℕ)) (seen : List Seen) (i : Interface) (k : ℕ) → is_something (entry rows seen i k) ≡ has_place c i k
    → has_place c i k ≡ true → k < 64
low-place c rows seen i k shows h = go (nat_lt k 64) refl
  where
    go : (b : Bool) → nat_lt k 64 ≡ b → k < 64
    go true e = test-below k 64 e
    go false e = let told : is_something (entry rows seen i k) ≡ false = rw (entry, e) refl in absurd (true≢false (sym h ∙ (sym shows ∙ told)))

-- tests that hold together are one
both-ways : (s t : Bool) → (s ≡ true → t ≡ true) → (t ≡ true → s ≡ true) → s ≡ t
both-ways true t f g = sym (f refl)
both-ways false true f g = g refl
both-ways false false f g = refl

or-first : (s t : Bool) → s ≡ true → (s || t) ≡ true
or-first true t h = refl
or-first false t h = absurd (true≢false (sym h))

or-second : (s t : Bool) → t ≡ true → (s || t) ≡ true
or-second true t h = refl
or-second false t h = h

or-cases : (s t : Bool) → (s || t) ≡ true → (s ≡ true) ⊎ (t ≡ true)
or-cases true t h = inl refl
or-cases false t h = inr h

-- ---- calls

module _ (c : Code) (f : ℕ) (callee : Code) (low : (k : ℕ) → has_place callee Params k ≡ true → k < 64)
    (low_too : (k : ℕ) → has_place callee Results k ≡ true → k < 64) where
  -- a node of the callee that the call lacks a place for
  lacks-node : (y : ℕ) → In y (node_numbers callee) → (m : Kind) → kind_at callee y ≡ m → lacks_for_call c f m ≡ true
      → any_of (call_lacks_at c f callee) (below 64) ≡ true
  lacks-node y i (Param k) e h =
      let has = in-any (stands_at callee Params k) (node_numbers callee) y i (ap (is_param k) e ∙ self-eq k) in
      in-any (call_lacks_at c f callee) (below 64) k (below-in k 64 (low k has))
      (or-first (has_place callee Params k && not (has_place c (Args f) k)) _ (true-both (has_place callee Params k) (not (has_place c (Args f) k)) has h))
  lacks-node y i (Give k a) e h =
      let has = in-any (stands_at callee Results k) (node_numbers callee) y i (ap (is_give k) e ∙ self-eq k) in
      in-any (call_lacks_at c f callee) (below 64) k (below-in k 64 (low_too k has))
      (or-second _ (has_place callee Results k && not (has_place c (Rets f) k)) (true-both (has_place callee Results k) (not (has_place c (Rets f) k)) has h))
  lacks-node y i other e h = absurd (true≢false (sym h))

  -- a param of a place that the call lacks
  param-lacks : (k : ℕ) (m : Kind) → is_param k m ≡ true → not (has_place c (Args f) k) ≡ true → lacks_for_call c f m ≡ true
  param-lacks k (Param j) e h = subst (λ z. not (has_place c (Args f) z) ≡ true) (sym (number-eq j k e)) h
  param-lacks k other e h = absurd (true≢false (sym e))

  -- a result
  give-lacks : (k : ℕ) (m : Kind) → is_give k m ≡ true → not (has_place c (Rets f) k) ≡ true → lacks_for_call c f m ≡ true
  give-lacks k (Give j a) e h = subst (λ z. not (has_place c (Rets f) z) ≡ true) (sym (number-eq j k e)) h
  give-lacks k other e h = absurd (true≢false (sym e))

  -- a place that the call lacks is that of a node
  lacks-place : (k : ℕ) → call_lacks_at c f callee k ≡ true → any_of (λ y. lacks_for_call c f (kind_at callee y)) (node_numbers callee) ≡ true
  lacks-place k h = elim (or-cases (has_place callee Params k && not (has_place c (Args f) k)) _ h) [
    | inl p ↦
        let s = both-true (has_place callee Params k) (not (has_place c (Args f) k)) p in
        let r = any-in (stands_at callee Params k) (node_numbers callee) s.0 in
        in-any (λ y. lacks_for_call c f (kind_at callee y)) (node_numbers callee) r.0 r.1 (param-lacks k (kind_at callee r.0) r.2 s.1)
    | inr p ↦
        let s = both-true (has_place callee Results k) (not (has_place c (Rets f) k)) p in
        let r = any-in (stands_at callee Results k) (node_numbers callee) s.0 in
        in-any (λ y. lacks_for_call c f (kind_at callee y)) (node_numbers callee) r.0 r.1 (give-lacks k (kind_at callee r.0) r.2 s.1)
  ]

  -- a call lacks a place of some node where it lacks some place
  pub call-lacks : any_of (λ y. lacks_for_call c f (kind_at callee y)) (node_numbers callee) ≡ any_of (call_lacks_at c f callee) (below 64)
  call-lacks = both-ways _ _
      (λ h. let r = any-in (λ y. lacks_for_call c f (kind_at callee y)) (node_numbers callee) h in lacks-node r.0 r.1 (kind_at callee r.0) refl r.2)
      (λ h. let r = any-in (call_lacks_at c f callee) (below 64) h in lacks-place r.0 r.2)

-- ---- conds

module _ (c : Code) (d y n : ℕ) (low : (i : Interface) (k : ℕ) → has_place c i k ≡ true → k < 64) where
  -- a branch lacks an `in`, by the places of branches
  lacks-ins : (k : ℕ) → (not (has_node_in c y (is_enter k)) || not (has_node_in c n (is_enter k))) ≡
      (not (has_place c (Ins y) k) || not (has_place c (Ins n) k))
  lacks-ins k = ap (λ b. not b || not (has_node_in c n (is_enter k))) (enters-place c y k)
      ∙ ap (λ b. not (has_place c (Ins y) k) || not b) (enters-place c n k)

  -- or an `out`
  lacks-outs : (k : ℕ) → (not (has_node_in c y (is_leave k)) || not (has_node_in c n (is_leave k))) ≡
      (not (has_place c (Outs y) k) || not (has_place c (Outs n) k))
  lacks-outs k = ap (λ b. not b || not (has_node_in c n (is_leave k))) (leaves-place c y k)
      ∙ ap (λ b. not (has_place c (Outs y) k) || not b) (leaves-place c n k)

  -- a node that a branch lacks a place for
  lacks-side : (z : ℕ) → In z (node_numbers c) → (m : Kind) → kind_at c z ≡ m → lacks_in_branches c d y n m ≡ true
      → any_of (branches_lack_at c d y n) (below 64) ≡ true
  lacks-side z i (Switch e k a) q h =
      let s = both-true (e == d) _ h in
      let has = in-any (stands_at c (Switches d) k) (node_numbers c) z i (ap (is_switch d k) q ∙ true-both (e == d) (k == k) s.0 (self-eq k)) in
      in-any (branches_lack_at c d y n) (below 64) k (below-in k 64 (low (Switches d) k has))
      (or-first (has_place c (Switches d) k && (not (has_place c (Ins y) k) || not (has_place c (Ins n) k))) _
      (true-both (has_place c (Switches d) k) (not (has_place c (Ins y) k) || not (has_place c (Ins n) k)) has (sym (lacks-ins k) ∙ s.1)))
  lacks-side z i (Merge e k) q h =
      let s = both-true (e == d) _ h in
      let has = in-any (stands_at c (Merges d) k) (node_numbers c) z i (ap (is_merge d k) q ∙ true-both (e == d) (k == k) s.0 (self-eq k)) in
      in-any (branches_lack_at c d y n) (below 64) k (below-in k 64 (low (Merges d) k has))
      (or-second _ (has_place c (Merges d) k && (not (has_place c (Outs y) k) || not (has_place c (Outs n) k)))
      (true-both (has_place c (Merges d) k) (not (has_place c (Outs y) k) || not (has_place c (Outs n) k)) has (sym (lacks-outs k) ∙ s.1)))
  lacks-side z i other q h = absurd (true≢false (sym h))

  -- a switch of a place that a branch lacks
  switch-lacks : (k : ℕ) (m : Kind) → is_switch d k m ≡ true → (not (has_place c (Ins y) k) || not (has_place c (Ins n) k)) ≡ true
      → lacks_in_branches c d y n m ≡ true
  switch-lacks k (Switch e j a) q h =
      let s = both-true (e == d) (j == k) q in
      true-both (e == d) _ s.0 (subst (λ z. (not (has_node_in c y (is_enter z)) || not (has_node_in c n (is_enter z))) ≡ true) (sym (number-eq j k s.1))
      (lacks-ins k ∙ h))
  switch-lacks k other q h = absurd (true≢false (sym q))

  -- a merge
  merge-lacks : (k : ℕ) (m : Kind) → is_merge d k m ≡ true → (not (has_place c (Outs y) k) || not (has_place c (Outs n) k)) ≡ true
      → lacks_in_branches c d y n m ≡ true
  merge-lacks k (Merge e j) q h =
      let s = both-true (e == d) (j == k) q in
      true-both (e == d) _ s.0 (subst (λ z. (not (has_node_in c y (is_leave z)) || not (has_node_in c n (is_leave z))) ≡ true) (sym (number-eq j k s.1))
      (lacks-outs k ∙ h))
  merge-lacks k other q h = absurd (true≢false (sym q))

  -- a place that a branch lacks is that of a node
  side-lacks : (k : ℕ) → branches_lack_at c d y n k ≡ true → any_of (λ z. lacks_in_branches c d y n (kind_at c z)) (node_numbers c) ≡ true
  side-lacks k h = elim (or-cases (has_place c (Switches d) k && (not (has_place c (Ins y) k) || not (has_place c (Ins n) k))) _ h) [
    | inl p ↦
        let s = both-true (has_place c (Switches d) k) _ p in
        let r = any-in (stands_at c (Switches d) k) (node_numbers c) s.0 in
        in-any (λ z. lacks_in_branches c d y n (kind_at c z)) (node_numbers c) r.0 r.1 (switch-lacks k (kind_at c r.0) r.2 s.1)
    | inr p ↦
        let s = both-true (has_place c (Merges d) k) _ p in
        let r = any-in (stands_at c (Merges d) k) (node_numbers c) s.0 in
        in-any (λ z. lacks_in_branches c d y n (kind_at c z)) (node_numbers c) r.0 r.1 (merge-lacks k (kind_at c r.0) r.2 s.1)
  ]

  -- a cond lacks a place of some node where it lacks some place
  pub branches-lack : any_of (λ z. lacks_in_branches c d y n (kind_at c z)) (node_numbers c) ≡ any_of (branches_lack_at c d y n) (below 64)
  branches-lack = both-ways _ _
      (λ h. let r = any-in (λ z. lacks_in_branches c d y n (kind_at c z)) (node_numbers c) h in lacks-side r.0 r.1 (kind_at c r.0) refl r.2)
      (λ h. let r = any-in (branches_lack_at c d y n) (below 64) h in side-lacks r.0 r.2)
