-- Which blocks were entered in a state that a journal reaches: that of an outlet that ran, of a node that fired, and of an inlet with a word.
use Rattle.std.proofs.Common.{◌≡◌, ℕ, zero, suc, ◌<◌, Bool, true, false, not, ◌==◌, ◌||◌, List, [], ◌∷◌}
use Rattle.std.proofs.Common.{length, Some, slice_get}
use Rattle.std.proofs.Common.{refl, sym, ap, ◌∙◌, subst, inl, inr, ⊎_elim, arith, true≢false}
use Rattle.tam_word.specs.Lists.{has}
use Rattle.tam_word.proofs.Members.{In, any-in, get-in}
use Rattle.tam_word.proofs.Each.{each-in}
use Rattle.tam_word.proofs.Tests.{number-eq, differs-number}
use Rattle.tam_msgs.specs.declared.message.Message.{Message}
use Rattle.tam_msgs.specs.declared.message.Message.TheVariants.{Word as Carry, Frame as Begin, Cells as Make, Fetch as Ask_cell, Store as Put_cell}
use Rattle.tam_msgs.specs.Messages.{outside}
use Rattle.tam_graph.specs.declared.kind.Kind.{Kind}
use Rattle.tam_graph.specs.declared.kind.Kind.TheVariants.{Param, Call, Ret, Alloc, Fetch, Cond, Switch, Merge, Enter}
use Rattle.tam_graph.specs.Graphs.{Code, Graph, kind_at, block_at, is_inlet, is_split, owner_of, operands_of, chosen_branch, branch_of_kind, test_of}
use Rattle.tam_graph.specs.Graphs.{test_of_kind, one_or_none}
use Rattle.tam_graph.specs.Accepted.{IsAccepted, in_wrong_block}
use Rattle.tam_split.specs.Partitions.{class_of}
use Rattle.tam_split.specs.GraphPartitions.{Partitions}
use Rattle.tam_world.specs.Worlds.{activation_at, its_code, word_of, has_entered}
use Rattle.tam_flow.specs.Journals.{State, has_run, block_of_act, parts_of_act}
use Rattle.tam_flow.specs.Told.{path_of, outlet_place}
use Rattle.tam_flow.specs.Reached.{IsThere, IsReached, HasArrived, Ran, kind_of}
use Rattle.tam_flow.proofs.Givers.{is_received, GivenTo, given-to, Itself, Inwards, Outwards}
use Rattle.tam_flow.proofs.Kept.{IsGift, IsEntered, HasDone}
use Rattle.tam_flow.proofs.KeptRuns.{IsKeptState, IsTagged}
use Rattle.tam_flow.proofs.FiringReasons.{HaveThese}
use Rattle.tam_flow.proofs.Gifts.{opens}
use Rattle.tam_flow.proofs.Onward.{word-one}
use Rattle.tam_split.proofs.Firers.{is_inner}
use Rattle.tam_flow.proofs.Operands.{right-block, named-block}
use Rattle.tam_flow.proofs.SentOnce.{HasFired, IsOnceState, cons-tail, nil-cons}
use Rattle.tam_flow.proofs.WordSources.{IsWordState, WordCause, IsAskOf, IsCaused}
use Rattle.tl0_code.specs.ThreadCode.{code_text, plain}
use Rattle.tl0_keep.specs.Compiled.{compiled_with}
use Rattle.tl0_keep.proofs.runs.Keeps.{parts_in}
use Rattle.tl0_keep.proofs.code.CodeFacts.{TextFacts, CodeFacts}

module _ (g : Graph) (args : List ℕ) (accepted : IsAccepted g) (all : Partitions) (facts : CodeFacts g all) (s : State) (once : IsOnceState g args all s)
    (words : IsWordState g all s) (state : IsKeptState g all s) (reached : IsReached g all args s)
    (stands : (i y d k a : ℕ) → HasFired g all s i y → kind_of g s.world i y ≡ Switch d k a → HasFired g all s i d) where
  -- the block of an outlet that ran was entered
  ran-entered : (i x : ℕ) → Ran g all s i x → has_entered s.world i (block_at (its_code g s.world i) x) ≡ true
  ran-entered i x h =
      let r = any-in (λ y. has_run s i (block_at (its_code g s.world i) x) (class_of (parts_of_act g all s i (block_at (its_code g s.world i) x)) y))
      (outlet_place (block_of_act g s i (block_at (its_code g s.world i) x)) x) h in
      (reached.words.runs_there i (block_at (its_code g s.world i) x) (class_of (parts_of_act g all s i (block_at (its_code g s.world i) x)) r.0) r.2).1

  -- and so is that of a node that fired
  pub fired-entered : (i x : ℕ) → HasFired g all s i x → has_entered s.world i (block_at (its_code g s.world i) x) ≡ true
  fired-entered i x f = state.kept.open_block i x f

  -- who has asked has run
  asked-ran : (i x n : ℕ) (m : Message) → slice_get s.sent n ≡ Some m → IsAskOf i x m → Ran g all s i x
  asked-ran i x n (Begin c f y) e (p, q) = subst (λ z. Ran g all s z x) p (subst (λ z. Ran g all s f z) q (reached.once.begin_sender n c f y e).2)
  asked-ran i x n (Make v f y) e (p, q) = subst (λ z. Ran g all s z x) p (subst (λ z. Ran g all s f z) q (reached.once.make_sender n v f y e).3)
  asked-ran i x n (Ask_cell a j f y t) e (p, q) = subst (λ z. Ran g all s z x) p (subst (λ z. Ran g all s f z) q (reached.once.fetch_sender n a j f y t e).4)
  asked-ran i x n (Carry f y u) e h = absurd h
  asked-ran i x n (Put_cell a j u t) e h = absurd h

  module _ (i : ℕ) (there : IsThere s.world i) where
    -- its code
    abbrev c : Code
    c = its_code g s.world i

    known : (activation_at s.world i).code < length g.codes
    known = reached.activations.codes i there

    text : TextFacts g (its_code g s.world i) (parts_in g all s [] i) (code_text (plain (compiled_with g all)) (activation_at s.world i).code)
    text = facts.texts (activation_at s.world i).code known

    numbered : (i == outside) ≡ false
    numbered = let few = reached.few_activations in differs-number i outside (λ e. absurd (omega arith))

    -- the cause of a word that came
    came : (x u : ℕ) → HasArrived s (Carry i x u) → WordCause g all s i x
    came x u (n, e, a) = (each-in (IsCaused g all s) s.sent (Carry i x u) words.causes (get-in s.sent n (Carry i x u) e) i x numbered (u, refl)).1

    -- what a node names stands in its block
    named : (x y : ℕ) (k : Kind) → x < length c.nodes → kind_at c x ≡ k → In y (Rattle.tam_graph.specs.Written.named_by k) → block_at c y ≡ block_at c x
    named x y k l e m = named-block g accepted (activation_at s.world i).code known x y k l e m

    -- the cond of a branch that is entered has fired
    pub owner-fired : (b d : ℕ) → owner_of c b ≡ d ∷ [] → has_entered s.world i b ≡ true → HasFired g all s i d
    owner-fired b d owner h = ⊎_elim body branch (state.kept.blocks i b there h)
      where
        one : {x y : ℕ} → x ∷ [] ≡ y ∷ [] → x ≡ y
        one e = cc

        body : b ≡ 0 → HasFired g all s i d
        body e =
            let r = text.owner_cond b d owner in
            let w = text.branches d r.0 r.1.0 r.1.1.0 r.1.1.1.0 in
            ⊎_elim (λ q. absurd (positive r.1.0 (sym q ∙ e) w.3)) (λ q. absurd (positive r.1.1.0 (sym q ∙ e) w.4)) r.1.1.1.1
          where
            positive : (x : ℕ) → x ≡ 0 → 0 < x → ⊥
            positive x e l = omega arith

        branch : IsEntered g s.world (HasFired g all s) i b → HasFired g all s i d
        branch a = subst (λ z. HasFired g all s i z) (of a.node (kind_of g s.world i a.node) a.words refl a.among) a.fired
          where
            side : (z p y n v : ℕ) → kind_at c z ≡ Cond p y n → owner_of c (chosen_branch c z v) ≡ z ∷ []
            side z p y n zero e = subst (λ t. owner_of c t ≡ z ∷ []) (sym (ap (λ t. branch_of_kind t 0) e)) (text.branches z p y n e).1
            side z p y n (suc v) e = subst (λ t. owner_of c t ≡ z ∷ []) (sym (ap (λ t. branch_of_kind t (suc v)) e)) (text.branches z p y n e).0

            of : (z : ℕ) (k : Kind) (vs : List ℕ) → kind_at c z ≡ k → In b (opens c z k vs) → z ≡ d
            of z (Cond p y n) (v ∷ []) e (inl q) = one (sym (side z p y n v e) ∙ (ap (owner_of c) q ∙ owner))
            of z (Cond p y n) (v ∷ []) e (inr q) = absurd q
            of z k vs e q = absurd q

    -- a cond that fired has entered the branch that its word chooses
    chosen-entered : (d p y n v : ℕ) → kind_at c d ≡ Cond p y n → HasFired g all s i d → word_of s.world i p ≡ v ∷ []
        → has_entered s.world i (chosen_branch c d v) ≡ true
    chosen-entered d p y n v e f w = by (state.kept.done i d f)
      where
        by : HasDone g s.world (IsTagged state.tags i d) i d → has_entered s.world i (chosen_branch c d v) ≡ true
        by h = at h.words refl (subst (λ k. HaveThese s.world i (operands_of c k) h.words) e h.have)
          where
            at : (ws : List ℕ) → h.words ≡ ws → HaveThese s.world i (p ∷ []) ws → has_entered s.world i (chosen_branch c d v) ≡ true
            at [] q k = absurd k
            at (u ∷ us) q k = rest us q k
              where
                rest : (us : List ℕ) → h.words ≡ u ∷ us → (word_of s.world i p ≡ u ∷ []) × HaveThese s.world i [] us
                    → has_entered s.world i (chosen_branch c d v) ≡ true
                rest [] q k =
                    let same : u ≡ v = word-one s.world i p u v k.0 w in
                    subst (λ t. has_entered s.world i (chosen_branch c d t) ≡ true) same
                    (h.entered (chosen_branch c d u) (subst (λ k. In (chosen_branch c d u) (opens c d k h.words)) (sym e)
                    (subst (λ ws. In (chosen_branch c d u) (opens c d (Cond p y n) ws)) (sym q) (inl refl))))
                rest (t ∷ ts) q k = absurd k.1

    -- an inlet with a word stands in a block that is entered
    pub inlet-entered : (x u : ℕ) → x < length c.nodes → is_inlet (kind_at c x) ≡ true → word_of s.world i x ≡ u ∷ []
        → has_entered s.world i (block_at c x) ≡ true
    inlet-entered x u l t h = go (kind_at c x) refl t
      where
        Goal : Type 0
        Goal = has_entered s.world i (block_at (its_code g s.world i) x) ≡ true

        received : (k : Kind) → kind_at c x ≡ k → is_received k ≡ true → WordCause g all s i x
        received k e r = came x u (words.words i x u h (ap is_received e ∙ r))

        or-left : (p q : Bool) → (p || q) ≡ false → p ≡ false
        or-left true q e = e
        or-left false q e = refl

        not-false : (p : Bool) → not p ≡ false → p ≡ true
        not-false true e = refl
        not-false false e = sym e

        -- who asked
        asked : (k : Kind) → kind_at c x ≡ k → is_received k ≡ true → ((j : ℕ) → k ≡ Param j → ⊥) → ((f j : ℕ) → k ≡ Ret f j → ⊥)
            → has_entered s.world i (block_at c x) ≡ true
        asked k e r param ret = ⊎_elim (λ q. absurd (param q.0 (sym e ∙ q.1)))
            (λ q. ⊎_elim (λ z. ⊎_elim (λ a. absurd (param a.place (sym e ∙ a.is_param))) (λ a. absurd (ret a.call a.place (sym e ∙ a.is_ret))) z.3)
            (λ z. ran-entered i x (asked-ran i x z.1.0 z.1.1 z.1.2 z.1.4)) q) (received k e r)

        go : (k : Kind) → kind_at c x ≡ k → is_inlet k ≡ true → has_entered s.world i (block_at c x) ≡ true
        go (Param k) e z =
            let r = or-left (in_wrong_block (block_at c x) (kind_at c x)) _ (right-block g accepted (activation_at s.world i).code known x l) in
            let r : not (block_at c x == 0) ≡ false = subst (λ k. in_wrong_block (block_at c x) k ≡ false) e r in
            subst (λ b. has_entered s.world i b ≡ true) (sym (number-eq (block_at c x) 0 (not-false (block_at c x == 0) r)))
            (reached.activations.bodies i there)
        go (Ret f k) e z = ⊎_elim (λ q. absurd (ret-param (sym e ∙ q.1)))
            (λ q. ⊎_elim (λ y. ⊎_elim (λ a. absurd (ret-param (sym e ∙ a.is_param))) (λ a. by_result y.0 a.call a.place a.from a.path (sym e ∙ a.is_ret)) y.3)
            (λ y. absurd (true≢false (sym y.0 ∙ ap is_split e))) q) (received (Ret f k) e refl)
          where
            ret-param : {j : ℕ} → Ret f k ≡ Param j → ⊥
            ret-param q = cc

            by_result : (j call place : ℕ) → IsThere s.world j → path_of s.world j ≡ call ∷ path_of s.world i → Ret f k ≡ Ret call place
                → has_entered s.world i (block_at c x) ≡ true
            by_result j call place t path is = ⊎_elim none began (once.begun_by j t)
              where
                calls : {a b c d : ℕ} → Ret a b ≡ Ret c d → a ≡ c
                calls q = cc

                none : path_of s.world j ≡ [] → has_entered s.world i (block_at c x) ≡ true
                none q = absurd (nil-cons (sym q ∙ path))

                began : (n d o y : ℕ) × (slice_get s.sent n ≡ Some (Begin d o y)) × (has s.arrived n ≡ true) × (o < j)
                    × (path_of s.world j ≡ y ∷ path_of s.world o)
                    → has_entered s.world i (block_at c x) ≡ true
                began (n, d, o, y, sent, arrived, low, q) =
                    let r = reached.once.begin_sender n d o y sent in
                    let tail = cons-tail (sym path ∙ q) in
                    let same : i ≡ o = once.paths_differ i o there r.0 tail.1 in
                    let call_is : f ≡ call = calls is in
                    let mine : Ran g all s i f = subst (λ a. Ran g all s a f) (sym same) (subst (λ a. Ran g all s o a) (sym tail.0 ∙ sym call_is) r.2) in
                    subst (λ a. has_entered s.world i a ≡ true) (named x f (Ret f k) l e (inl refl)) (ran-entered i f mine)
        go (Call f) e z = asked (Call f) e refl (λ j q. no1 q) (λ a j q. no2 q)
          where
            no1 : {j : ℕ} → Call f ≡ Param j → ⊥
            no1 q = cc

            no2 : {a j : ℕ} → Call f ≡ Ret a j → ⊥
            no2 q = cc
        go (Alloc f) e z = asked (Alloc f) e refl (λ j q. no1 q) (λ a j q. no2 q)
          where
            no1 : {j : ℕ} → Alloc f ≡ Param j → ⊥
            no1 q = cc

            no2 : {a j : ℕ} → Alloc f ≡ Ret a j → ⊥
            no2 q = cc
        go (Fetch a b) e z = asked (Fetch a b) e refl (λ j q. no1 q) (λ o j q. no2 q)
          where
            no1 : {j : ℕ} → Fetch a b ≡ Param j → ⊥
            no1 q = cc

            no2 : {o j : ℕ} → Fetch a b ≡ Ret o j → ⊥
            no2 q = cc
        go (Merge d k) e z = ⊎_elim given (λ q. absurd (true≢false (sym q.1 ∙ ap is_received e))) (state.kept.sources i x u h)
          where
            given : IsGift g s.world (HasFired g all s) i x u → has_entered s.world i (block_at c x) ≡ true
            given q = by (given-to c q.node (kind_of g s.world i q.node) q.words x q.among)
              where
                by : GivenTo c q.node (kind_of g s.world i q.node) q.words x → has_entered s.world i (block_at c x) ≡ true
                by (Itself p r) = absurd (true≢false (sym r ∙ (ap (λ y. is_inner (kind_at c y)) p ∙ ap is_inner e)))
                by (Inwards o j a y v p r f b) = absurd (enter-merge (sym f ∙ e))
                  where
                    enter-merge : Enter j ≡ Merge d k → ⊥
                    enter-merge y = cc
                by (Outwards j a v o p r b f) =
                    let owner : owner_of c (block_at c q.node) ≡ o ∷ [] = ap one_or_none b in
                    let fired = owner-fired (block_at c q.node) o owner (state.kept.open_block i q.node q.fired) in
                    let same : o ≡ d = conds (sym f ∙ e) in
                    subst (λ y. has_entered s.world i y ≡ true) (named x d (Merge d k) l e (inl refl))
                    (fired-entered i d (subst (λ y. HasFired g all s i y) same fired))
                  where
                    conds : {a b c d : ℕ} → Merge a b ≡ Merge c d → a ≡ c
                    conds y = cc
        go (Enter k) e z = ⊎_elim given (λ q. absurd (true≢false (sym q.1 ∙ ap is_received e))) (state.kept.sources i x u h)
          where
            given : IsGift g s.world (HasFired g all s) i x u → has_entered s.world i (block_at c x) ≡ true
            given q = by (given-to c q.node (kind_of g s.world i q.node) q.words x q.among)
              where
                by : GivenTo c q.node (kind_of g s.world i q.node) q.words x → has_entered s.world i (block_at c x) ≡ true
                by (Itself p r) = absurd (true≢false (sym r ∙ (ap (λ y. is_inner (kind_at c y)) p ∙ ap is_inner e)))
                by (Outwards j a v o p r b f) = absurd (merge-enter (sym f ∙ e))
                  where
                    merge-enter : Merge o j ≡ Enter k → ⊥
                    merge-enter y = cc
                by (Inwards o j a y v p r f b) =
                    let fired = stands i q.node o j a q.fired p in
                    let cond = text.switch_cond q.node o j a p in
                    let have : HaveThese s.world i (test_of c o ∷ a ∷ []) (y ∷ v ∷ []) = subst (λ ws. HaveThese s.world i (test_of c o ∷ a ∷ []) ws) r
                    (subst (λ t. HaveThese s.world i (operands_of c t) q.words) p q.have) in
                    let test : word_of s.world i cond.0 ≡ y ∷ [] = subst (λ t. word_of s.world i t ≡ y ∷ []) (ap test_of_kind cond.1.1.1) have.0 in
                    subst (λ t. has_entered s.world i t ≡ true) (sym b) (chosen-entered o cond.0 cond.1.0 cond.1.1.0 y cond.1.1.1 fired test)
        go k e z = absurd (true≢false (sym z))
