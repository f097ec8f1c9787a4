-- Whom a state of a journal names, waits: a word that was sent or asked for and hasn't come is for an inlet of a block that is entered.
use Rattle.std.proofs.Common.{◌≡◌, ℕ, ◌<◌, Bool, true, false, not, ◌==◌, ◌||◌, List, [], ◌∷◌, Some, slice_get, length, refl, sym, ap, ◌∙◌, subst}
use Rattle.std.proofs.Common.{inl, ⊎_elim, arith, true≢false}
use Rattle.tam_word.specs.Lists.{has}
use Rattle.tam_word.proofs.Members.{In, any-in, get-in}
use Rattle.tam_word.proofs.Each.{each-in}
use Rattle.tam_word.proofs.Tests.{number-eq, differs-number}
use Rattle.tam_msgs.specs.declared.message.Message.{Message}
use Rattle.tam_msgs.specs.declared.message.Message.TheVariants.{Word as Carry, Frame as Begin, Cells as Make, Fetch as Ask_cell, Store as Put_cell}
use Rattle.tam_msgs.specs.Messages.{outside}
use Rattle.tam_graph.specs.declared.kind.Kind.{Kind}
use Rattle.tam_graph.specs.declared.kind.Kind.TheVariants.{Param, Call, Ret, Alloc, Fetch}
use Rattle.tam_graph.specs.Graphs.{Code, Graph, kind_at, block_at, is_split, is_inlet}
use Rattle.tam_graph.specs.Written.{named_by}
use Rattle.tam_graph.specs.Accepted.{IsAccepted, in_wrong_block}
use Rattle.tam_split.specs.Partitions.{class_of}
use Rattle.tam_split.specs.GraphPartitions.{Partitions}
use Rattle.tam_world.specs.Worlds.{activation_at, its_code, word_of, has_entered}
use Rattle.tam_flow.specs.Journals.{State, has_run, block_of_act, parts_of_act}
use Rattle.tam_flow.specs.Told.{path_of, outlet_place}
use Rattle.tam_flow.specs.Reached.{IsThere, IsReached, Ran, kind_of}
use Rattle.tam_flow.proofs.Givers.{is_received}
use Rattle.tam_flow.proofs.Operands.{right-block, named-block}
use Rattle.tam_flow.proofs.SentOnce.{IsOnceState, cons-tail, nil-cons}
use Rattle.tam_flow.proofs.WordSources.{IsWordState, WordCause, IsAskOf, IsCaused}
use Rattle.tl0_keep.proofs.code.ThreadKinds.{takes_messages}

-- kinds differ
param-ret : {j f k : ℕ} → Param j ≡ Ret f k → ⊥
param-ret q = cc

call-param : {f j : ℕ} → Call f ≡ Param j → ⊥
call-param q = cc

call-ret : {f a j : ℕ} → Call f ≡ Ret a j → ⊥
call-ret q = cc

alloc-param : {f j : ℕ} → Alloc f ≡ Param j → ⊥
alloc-param q = cc

alloc-ret : {f a j : ℕ} → Alloc f ≡ Ret a j → ⊥
alloc-ret q = cc

fetch-param : {a b j : ℕ} → Fetch a b ≡ Param j → ⊥
fetch-param q = cc

fetch-ret : {a b f j : ℕ} → Fetch a b ≡ Ret f j → ⊥
fetch-ret q = cc

call-alloc : {f n : ℕ} → Call f ≡ Alloc n → ⊥
call-alloc q = cc

call-fetch : {f a b : ℕ} → Call f ≡ Fetch a b → ⊥
call-fetch q = cc

alloc-fetch : {n a b : ℕ} → Alloc n ≡ Fetch a b → ⊥
alloc-fetch q = cc

-- what takes messages is an inlet whose word comes by a message
pub takes-received : (k : Kind) → takes_messages k ≡ true → (is_received k ≡ true) × (is_inlet k ≡ true)
takes-received (Param k) h = (refl, refl)
takes-received (Call f) h = (refl, refl)
takes-received (Ret f k) h = (refl, refl)
takes-received (Alloc n) h = (refl, refl)
takes-received (Fetch a i) h = (refl, refl)
takes-received k h = absurd (true≢false (sym h))

or-left : (p q : Bool) → (p || q) ≡ false → p ≡ false
or-left true q e = e
or-left false q e = refl

not-false : (p : Bool) → not p ≡ false → p ≡ true
not-false true e = refl
not-false false e = sym e

module _ (g : Graph) (args : List ℕ) (accepted : IsAccepted g) (all : Partitions) (s : State) (once : IsOnceState g args all s) (words : IsWordState g all s)
    (reached : IsReached g all args s) where
  -- the block of an outlet that ran was entered
  pub ran-entered : (i x : ℕ) → Ran g all s i x → has_entered s.world i (block_at (its_code g s.world i) x) ≡ true
  ran-entered i x h =
      let r = any-in (λ y. has_run s i (block_at (its_code g s.world i) x) (class_of (parts_of_act g all s i (block_at (its_code g s.world i) x)) y))
      (outlet_place (block_of_act g s i (block_at (its_code g s.world i) x)) x) h in
      (reached.words.runs_there i (block_at (its_code g s.world i) x) (class_of (parts_of_act g all s i (block_at (its_code g s.world i) x)) r.0) r.2).1

  -- who has asked has run
  pub asked-ran : (i x n : ℕ) (m : Message) → slice_get s.sent n ≡ Some m → IsAskOf i x m → Ran g all s i x
  asked-ran i x n (Begin c f y) e (p, q) = subst (λ z. Ran g all s z x) p (subst (λ z. Ran g all s f z) q (reached.once.begin_sender n c f y e).2)
  asked-ran i x n (Make v f y) e (p, q) = subst (λ z. Ran g all s z x) p (subst (λ z. Ran g all s f z) q (reached.once.make_sender n v f y e).3)
  asked-ran i x n (Ask_cell a j f y t) e (p, q) = subst (λ z. Ran g all s z x) p (subst (λ z. Ran g all s f z) q (reached.once.fetch_sender n a j f y t e).4)
  asked-ran i x n (Carry f y u) e h = absurd h
  asked-ran i x n (Put_cell a j u t) e h = absurd h

  is-call : (n c d y f x : ℕ) → slice_get s.sent n ≡ Some (Begin c d y) → IsAskOf f x (Begin c d y) → kind_of g s.world f x ≡ Call c
  is-call n c d y f x p (i, j) = subst (λ w. kind_of g s.world w x ≡ Call c) i
      (subst (λ w. kind_of g s.world d w ≡ Call c) j (reached.once.begin_sender n c d y p).1)

  is-alloc : (n v d y f x : ℕ) → slice_get s.sent n ≡ Some (Make v d y) → IsAskOf f x (Make v d y) → (a : ℕ) × (kind_of g s.world f x ≡ Alloc a)
  is-alloc n v d y f x p (i, j) = let r = reached.once.make_sender n v d y p in
      (r.0, subst (λ w. kind_of g s.world w x ≡ Alloc r.0) i (subst (λ w. kind_of g s.world d w ≡ Alloc r.0) j r.2))

  is-fetch : (n a b d y t f x : ℕ) → slice_get s.sent n ≡ Some (Ask_cell a b d y t) → IsAskOf f x (Ask_cell a b d y t)
      → (u : ℕ) × (v : ℕ) × (kind_of g s.world f x ≡ Fetch u v)
  is-fetch n a b d y t f x p (i, j) = let r = reached.once.fetch_sender n a b d y t p in
      (r.0, r.1, subst (λ w. kind_of g s.world w x ≡ Fetch r.0 r.1) i (subst (λ w. kind_of g s.world d w ≡ Fetch r.0 r.1) j r.3))

  -- two asks for one word are one
  pub ask-one : (f x n k : ℕ) (a b : Message) → slice_get s.sent n ≡ Some a → slice_get s.sent k ≡ Some b → IsAskOf f x a → IsAskOf f x b → n ≡ k
  ask-one f x n k (Begin c d y) (Begin e h z) p q (i, j) (l, m) = reached.once.one_begin n k c e f x
      (subst (λ w. slice_get s.sent n ≡ Some (Begin c w x)) i (subst (λ w. slice_get s.sent n ≡ Some (Begin c d w)) j p))
      (subst (λ w. slice_get s.sent k ≡ Some (Begin e w x)) l (subst (λ w. slice_get s.sent k ≡ Some (Begin e h w)) m q))
  ask-one f x n k (Make c d y) (Make e h z) p q (i, j) (l, m) = reached.once.one_make n k c e f x
      (subst (λ w. slice_get s.sent n ≡ Some (Make c w x)) i (subst (λ w. slice_get s.sent n ≡ Some (Make c d w)) j p))
      (subst (λ w. slice_get s.sent k ≡ Some (Make e w x)) l (subst (λ w. slice_get s.sent k ≡ Some (Make e h w)) m q))
  ask-one f x n k (Ask_cell a b d y t) (Ask_cell c e h z u) p q (i, j) (l, m) = reached.once.one_fetch n k a c b e f x t u
      (subst (λ w. slice_get s.sent n ≡ Some (Ask_cell a b w x t)) i (subst (λ w. slice_get s.sent n ≡ Some (Ask_cell a b d w t)) j p))
      (subst (λ w. slice_get s.sent k ≡ Some (Ask_cell c e w x u)) l (subst (λ w. slice_get s.sent k ≡ Some (Ask_cell c e h w u)) m q))
  ask-one f x n k (Begin c d y) (Make e h z) p q i l = absurd (call-alloc (sym (is-call n c d y f x p i) ∙ (is-alloc k e h z f x q l).1))
  ask-one f x n k (Begin c d y) (Ask_cell e b h z t) p q i l = absurd (call-fetch (sym (is-call n c d y f x p i) ∙ (is-fetch k e b h z t f x q l).2))
  ask-one f x n k (Make c d y) (Begin e h z) p q i l = absurd (call-alloc (sym (is-call k e h z f x q l) ∙ (is-alloc n c d y f x p i).1))
  ask-one f x n k (Make c d y) (Ask_cell e b h z t) p q i l = absurd (alloc-fetch (sym (is-alloc n c d y f x p i).1 ∙ (is-fetch k e b h z t f x q l).2))
  ask-one f x n k (Ask_cell a b d y t) (Begin e h z) p q i l = absurd (call-fetch (sym (is-call k e h z f x q l) ∙ (is-fetch n a b d y t f x p i).2))
  ask-one f x n k (Ask_cell a b d y t) (Make e h z) p q i l = absurd (alloc-fetch (sym (is-alloc k e h z f x q l).1 ∙ (is-fetch n a b d y t f x p i).2))
  ask-one f x n k (Carry c d y) b p q i l = absurd i
  ask-one f x n k (Put_cell a j u t) b p q i l = absurd i
  ask-one f x n k a (Carry c d y) p q i l = absurd l
  ask-one f x n k a (Put_cell c j u t) p q i l = absurd l

  module _ (i : ℕ) (there : IsThere s.world i) where
    -- its code
    abbrev c : Code
    c = its_code g s.world i

    known : (activation_at s.world i).code < length g.codes
    known = reached.activations.codes i there

    numbered : (i == outside) ≡ false
    numbered = let few = reached.few_activations in differs-number i outside (λ e. absurd (omega arith))

    -- the cause of a word that was sent
    pub sent-cause : (x u n : ℕ) → slice_get s.sent n ≡ Some (Carry i x u) → WordCause g all s i x
    sent-cause x u n e = (each-in (IsCaused g all s) s.sent (Carry i x u) words.causes (get-in s.sent n (Carry i x u) e) i x numbered (u, refl)).1

    named : (x y : ℕ) (k : Kind) → x < length c.nodes → kind_at c x ≡ k → In y (named_by k) → block_at c y ≡ block_at c x
    named x y k l e m = named-block g accepted (activation_at s.world i).code known x y k l e m

    -- who asks is no param and no ret
    ask-kind : (x n : ℕ) (m : Message) → slice_get s.sent n ≡ Some m → IsAskOf i x m
        → ((j : ℕ) → kind_at c x ≡ Param j → ⊥) × ((f j : ℕ) → kind_at c x ≡ Ret f j → ⊥)
    ask-kind x n (Begin e d y) p h = let q = is-call n e d y i x p h in (λ j z. call-param (sym q ∙ z), λ f j z. call-ret (sym q ∙ z))
    ask-kind x n (Make v d y) p h = let q = is-alloc n v d y i x p h in (λ j z. alloc-param (sym q.1 ∙ z), λ f j z. alloc-ret (sym q.1 ∙ z))
    ask-kind x n (Ask_cell a b d y t) p h = let q = is-fetch n a b d y t i x p h in (λ j z. fetch-param (sym q.2 ∙ z), λ f j z. fetch-ret (sym q.2 ∙ z))
    ask-kind x n (Carry d y u) p h = absurd h
    ask-kind x n (Put_cell a j u t) p h = absurd h

    -- a word that was asked for, where the ask hasn't arrived, hasn't come
    pub unanswered : (x n : ℕ) (m : Message) → takes_messages (kind_at c x) ≡ true → slice_get s.sent n ≡ Some m → has s.arrived n ≡ false → IsAskOf i x m
        → (u : ℕ) → word_of s.world i x ≡ u ∷ [] → ⊥
    unanswered x n m takes e none ask u w =
        let r = words.words i x u w (takes-received (kind_at c x) takes).0 in
        let k = ask-kind x n m e ask in
        ⊎_elim (λ q. k.0 q.0 q.1)
        (λ q. ⊎_elim (λ z. ⊎_elim (λ a. k.0 a.place a.is_param) (λ a. k.1 a.call a.place a.is_ret) z.3)
        (λ z. true≢false (sym (subst (λ y. has s.arrived y ≡ true) (ask-one i x z.1.0 n z.1.1 m z.1.2 e z.1.4 ask) z.1.3) ∙ none)) q)
        (sent-cause x u r.0 r.1)

    -- where a word is sent to, is in a block that is entered
    pub cause-entered : (x : ℕ) → x < length c.nodes → takes_messages (kind_at c x) ≡ true → WordCause g all s i x → has_entered s.world i (block_at c x) ≡ true
    cause-entered x l takes cause = go (kind_at c x) refl takes
      where
        -- who asked
        asked : (k : Kind) → kind_at c x ≡ k → ((j : ℕ) → k ≡ Param j → ⊥) → ((f j : ℕ) → k ≡ Ret f j → ⊥) → has_entered s.world i (block_at c x) ≡ true
        asked k e param ret = ⊎_elim (λ q. absurd (param q.0 (sym e ∙ q.1)))
            (λ q. ⊎_elim (λ z. ⊎_elim (λ a. absurd (param a.place (sym e ∙ a.is_param))) (λ a. absurd (ret a.call a.place (sym e ∙ a.is_ret))) z.3)
            (λ z. ran-entered i x (asked-ran i x z.1.0 z.1.1 z.1.2 z.1.4)) q) cause

        go : (k : Kind) → kind_at c x ≡ k → takes_messages k ≡ true → has_entered s.world i (block_at c x) ≡ true
        go (Param k) e z =
            let r = or-left (in_wrong_block (block_at c x) (kind_at c x)) _ (right-block g accepted (activation_at s.world i).code known x l) in
            let r : not (block_at c x == 0) ≡ false = subst (λ k. in_wrong_block (block_at c x) k ≡ false) e r in
            subst (λ b. has_entered s.world i b ≡ true) (sym (number-eq (block_at c x) 0 (not-false (block_at c x == 0) r)))
            (reached.activations.bodies i there)
        go (Ret f k) e z = ⊎_elim (λ q. absurd (param-ret (sym q.1 ∙ e)))
            (λ q. ⊎_elim (λ y. ⊎_elim (λ a. absurd (param-ret (sym a.is_param ∙ e))) (λ a. by_result y.0 a.call a.place a.from a.path (sym e ∙ a.is_ret)) y.3)
            (λ y. absurd (true≢false (sym y.0 ∙ ap is_split e))) q) cause
          where
            by_result : (j call place : ℕ) → IsThere s.world j → path_of s.world j ≡ call ∷ path_of s.world i → Ret f k ≡ Ret call place
                → has_entered s.world i (block_at c x) ≡ true
            by_result j call place t path is = ⊎_elim none began (once.begun_by j t)
              where
                calls : {a b c d : ℕ} → Ret a b ≡ Ret c d → a ≡ c
                calls q = cc

                none : path_of s.world j ≡ [] → has_entered s.world i (block_at c x) ≡ true
                none q = absurd (nil-cons (sym q ∙ path))

                began : (n d o y : ℕ) × (slice_get s.sent n ≡ Some (Begin d o y)) × (has s.arrived n ≡ true) × (o < j)
                    × (path_of s.world j ≡ y ∷ path_of s.world o)
                    → has_entered s.world i (block_at c x) ≡ true
                began (n, d, o, y, sent, arrived, low, q) =
                    let r = reached.once.begin_sender n d o y sent in
                    let tail = cons-tail (sym path ∙ q) in
                    let same : i ≡ o = once.paths_differ i o there r.0 tail.1 in
                    let call_is : f ≡ call = calls is in
                    let mine : Ran g all s i f = subst (λ a. Ran g all s a f) (sym same) (subst (λ a. Ran g all s o a) (sym tail.0 ∙ sym call_is) r.2) in
                    subst (λ a. has_entered s.world i a ≡ true) (named x f (Ret f k) l e (inl refl)) (ran-entered i f mine)
        go (Call f) e z = asked (Call f) e (λ j q. call-param q) (λ a j q. call-ret q)
        go (Alloc f) e z = asked (Alloc f) e (λ j q. alloc-param q) (λ a j q. alloc-ret q)
        go (Fetch a b) e z = asked (Fetch a b) e (λ j q. fetch-param q) (λ o j q. fetch-ret q)
        go k e z = absurd (true≢false (sym z))
