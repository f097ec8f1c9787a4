-- A switch fires: it gives its word to the `in` of the branch chosen, and spends the ticket of the connector that will put it there.
use Rattle.std.proofs.Common.{◌≡◌, ℕ, zero, suc, ◌<◌, true, ◌==◌, List, [], ◌∷◌, map, refl, sym, ap, ◌∙◌, subst, inl, inr}
use Rattle.tam_word.proofs.Members.{In, in-filter, in-flat_map}
use Rattle.tam_word.proofs.Tests.{number-eq, self-eq, differs-number}
use Rattle.tam_graph.specs.declared.kind.Kind.TheVariants.{Cond, Switch as Choose, Enter}
use Rattle.tam_graph.specs.Graphs.{Code, Graph, code_of, kind_at, block_at, is_inlet, owner_of, node_where, node_in, nodes_in, node_numbers, is_enter}
use Rattle.tam_graph.specs.Graphs.{is_switch}
use Rattle.tam_graph.specs.Graphs.{chosen_branch, branch_of_kind, test_of}
use Rattle.tam_split.specs.GraphPartitions.{Partitions}
use Rattle.tam_world.specs.Worlds.{World, activation_at, its_code, has_word, all_got}
use Rattle.tam_flow.specs.Journals.{State}
use Rattle.tam_flow.specs.Reached.{kind_of}
use Rattle.tam_flow.proofs.ActivationLists.{has-word, word-there}
use Rattle.tam_flow.proofs.Moves.{in-first}
use Rattle.tam_flow.proofs.Nodes.{is-enter}
use Rattle.tam_flow.proofs.Gifts.{Leaves, leaves-firing, gift}
use Rattle.tl0_code.specs.declared.instr.Instr.TheVariants.{Switch}
use Rattle.tl0_code.specs.Machines.{Machine, Plain, slot, spend, branch, Progress, Fine, then_do, done_all}
use Rattle.tl0_code.specs.ThreadCode.{code_text, plain}
use Rattle.tl0_keep.specs.Compiled.{slot_of, then_connector, else_connector, is_choosing, yes_of, no_of, compiled_with}
use Rattle.tl0_keep.proofs.code.ThreadKinds.{ThreadKind, Then_of, Else_of, Begun, IsThread, sources_of, parts_for}
use Rattle.tl0_keep.proofs.code.ThreadKinds.{inlet_thread, connector_into, poster_of}
use Rattle.tl0_keep.proofs.runs.Keeps.{Owed, ticket, parts_in, OneRan, PostedAt, Posted, HasEntered, ChoseThen, ChoseElse, ReasonAt, Given, Keeps}
use Rattle.tl0_keep.proofs.code.CodeFacts.{TextFacts, CodeFacts}
use Rattle.tl0_keep.proofs.class_run.Later.{there-later}
use Rattle.tl0_keep.proofs.class_run.Slots.{spent-all}
use Rattle.tl0_keep.proofs.class_run.Step.{OneOf, fired_state, IsFiring, Does, words-before}
use Rattle.tl0_keep.proofs.class_run.Branching.{CanSpend, GivesOne, does-connector, got-arrays}
use Rattle.tl0_keep.proofs.class_run.Conds.{then-class, else-class, branch-kind}

-- an owner alone
same-owner : {a b : ℕ} → a ∷ [] ≡ b ∷ [] → a ≡ b
same-owner e = cc

-- the place of an `in`
places : {a b : ℕ} → Enter a ≡ Enter b → a ≡ b
places e = cc

conds : {p q y a n b : ℕ} → Cond p y n ≡ Cond q a b → (y ≡ a) × (n ≡ b)
conds e = (cc, cc)

-- an `in` of a block
pub enter-in : (c : Code) (b k e : ℕ) → In e (node_in c b (is_enter k)) → (kind_at c e ≡ Enter k) × (block_at c e ≡ b)
enter-in c b k e m =
    let r = in-first (λ z. is_enter k (kind_at c z)) (nodes_in c b) e m in
    (is-enter k (kind_at c e) r.1, number-eq (block_at c e) b (in-filter (λ z. block_at c z == b) e (node_numbers c) r.0).1)

module _ (g : Graph) (all : Partitions) (others : List (ℕ × ThreadKind)) (facts : CodeFacts g all) (can : CanSpend g all others) (m : Machine) (s : State)
    (due : List Owed) (keeps : Keeps g all m s others due) (i x : ℕ) (vs : List ℕ) (fires : IsFiring g s m i x vs) (d k a u v : ℕ)
    (switch : kind_of g s.world i x ≡ Choose d k a) (words : vs ≡ u ∷ v ∷ []) (p y n : ℕ) (cond : kind_of g s.world i d ≡ Cond p y n) where
  -- its code
  abbrev c : Code
  c = its_code g s.world i

  text : TextFacts g (its_code g s.world i) (parts_in g all s others i) (code_text (plain (compiled_with g all)) (activation_at s.world i).code)
  text = facts.texts (activation_at s.world i).code (keeps.frames.known i fires.there)

  -- the branch, and its `in`
  abbrev chosen : ℕ
  chosen = chosen_branch (its_code g s.world i) d u

  abbrev into : List ℕ
  into = node_in (its_code g s.world i) (chosen_branch (its_code g s.world i) d u) (is_enter k)

  -- the world behind it
  abbrev given_world : World
  given_world = all_got s.world i (node_in (its_code g s.world i) (chosen_branch (its_code g s.world i) d u) (is_enter k)) v

  leaves : Leaves s.world (all_got s.world i (node_in (its_code g s.world i) (chosen_branch (its_code g s.world i) d u) (is_enter k)) v) i
      (node_in (its_code g s.world i) (chosen_branch (its_code g s.world i) d u) (is_enter k), v) []
  leaves = leaves-firing g s.world i x (Choose d k a) (u ∷ v ∷ [])

  own : (owner_of c y ≡ d ∷ []) × (owner_of c n ≡ d ∷ []) × (y ≡ n → ⊥) × (0 < y) × (0 < n)
  own = text.branches d p y n cond

  -- the `in` had no word
  new-word : (e : ℕ) → In e into → has_word s.world i e ≡ true → ⊥
  new-word e h t =
      let r = has-word (activation_at s.world i).words e t in
      fires.fresh e r.0 (subst (λ z. In e (gift c x z vs).0) (sym switch) (subst (λ l. In e (gift c x (Choose d k a) l).0) (sym words) h)) r.1

  -- another switch whose branch this is
  pub record IsOther (z q l f b : ℕ) : Type 0 where
    pub test : ℕ
    pub yes_block : ℕ
    pub no_block : ℕ
    pub cond_too : kind_of g s.world i q ≡ Cond test yes_block no_block
    pub place : k ≡ l
    pub block : chosen ≡ b

  other-switch : (z q l f e b : ℕ) → kind_of g s.world i z ≡ Choose q l f → In e (node_in (its_code g s.world i) b (is_enter l)) → In e into → IsOther z q l f b
  other-switch z q l f e b is among mine =
      let r = text.switch_cond z q l f is in
      let h = enter-in c b l e among in
      let o = enter-in c chosen k e mine in
      record { test = r.0; yes_block = r.1.0; no_block = r.1.1.0; cond_too = r.1.1.1; place = places (sym o.0 ∙ h.0); block = sym o.1 ∙ h.1 }

  -- a switch of the same cond and place is this one
  this-switch : (z q l f : ℕ) → kind_of g s.world i z ≡ Choose q l f → d ≡ q → k ≡ l → x ≡ z
  this-switch z q l f is e h = same-owner (sym (text.switch_at x d k a switch) ∙ (ap (λ t. node_where c (is_switch t k)) e
      ∙ (ap (λ t. node_where c (is_switch q t)) h ∙ text.switch_at z q l f is)))

  -- only the `in` is new, and waits for its connector
  enters-inlet : (e : ℕ) → In e into → is_inlet (kind_of g s.world i e) ≡ true
  enters-inlet e h = ap is_inlet (enter-in c chosen k e h).0

  no-inlet : (j e : ℕ) → OneOf i into j e → ((t : ℕ) → kind_of g s.world j e ≡ Enter t → ⊥) → ⊥
  no-inlet j e (q, h) apart = apart k (ap (λ l. kind_of g s.world l e) q ∙ (enter-in c chosen k e h).0)

  -- its connector is the one that will give its word
  poster-is : (e : ℕ) (o : ThreadKind) → In e into → owner_of c chosen ≡ d ∷ [] → In o (poster_of c e k) → connector_into c x d chosen ≡ o
  poster-is e o h own m =
      let block = (enter-in c chosen k e h).1 in
      let r = in-flat_map (λ q. map (λ z. connector_into c z q (block_at c e)) (node_where c (is_switch q k))) o (owner_of c (block_at c e)) m in
      go r.0 (subst (λ l. In r.0 l) (ap (owner_of c) block ∙ own) r.1) r.2
    where
      go : (q : ℕ) → In q (d ∷ []) → In o (map (λ z. connector_into c z q (block_at c e)) (node_where c (is_switch q k))) → connector_into c x d chosen ≡ o
      go q (inl f) i = inner (subst (λ t. In o (map (λ z. connector_into c z t (block_at c e)) (node_where c (is_switch t k)))) (sym f) i)
        where
          inner : In o (map (λ z. connector_into c z d (block_at c e)) (node_where c (is_switch d k))) → connector_into c x d chosen ≡ o
          inner j = last (subst (λ l. In o (map (λ z. connector_into c z d (block_at c e)) l)) (text.switch_at x d k a switch) j)
            where
              last : In o (connector_into c x d (block_at c e) ∷ []) → connector_into c x d chosen ≡ o
              last (inl f) = ap (connector_into c x d) (sym (enter-in c chosen k e h).1) ∙ f
              last (inr f) = absurd f
      go q (inr f) i = absurd f

  module _ (o : ThreadKind) (thread : IsThread (its_code g s.world i) (parts_in g all s others i) o)
      (sources : sources_of (its_code g s.world i) (parts_in g all s others i) o ≡ Begun ∷ [])
      (runs : In (i, o) others → Rattle.tl0_keep.proofs.runs.Keeps.HasRun g all s others i o)
      (connector : connector_into (its_code g s.world i) x d (chosen_branch (its_code g s.world i) d u) ≡ o)
      (owner : owner_of (its_code g s.world i) (chosen_branch (its_code g s.world i) d u) ≡ d ∷ [])
      (old : Given g all s others i o Begun → ⊥) where
    not-posted : (e : ℕ) → In e into → Posted g all (fired_state s given_world []) others i e (kind_at (its_code g given_world i) e) → ⊥
    not-posted e h posted =
        let here : PostedAt g all (fired_state s given_world []) others c i e (kind_at c e) =
        subst (λ q. PostedAt g all (fired_state s given_world []) others (code_of g q) i e (kind_at (code_of g q) e)) (leaves.frames.code i) posted in
        let one : PostedAt g all (fired_state s given_world []) others c i e (Enter k) =
        subst (λ z. PostedAt g all (fired_state s given_world []) others c i e z) (enter-in c chosen k e h).0 here in
        let same = sym connector ∙ poster-is e one.0 h owner one.1 in
        old (spent-all g all others facts m s due keeps i o fires.there thread (runs (subst (λ z. In (i, z) others) (sym same) one.2)) Begun
        (subst (λ l. In Begun l) (sym sources) (inl refl))).0

  -- the word isn't 0
  module _ (is : chosen_branch (its_code g s.world i) d u ≡ y) where
    then-connector : connector_into c x d chosen ≡ Then_of x
    then-connector = rw (connector_into, is, ap yes_of cond, self-eq y) refl

    then-old : Given g all s others i (Then_of x) Begun → ⊥
    then-old h = go (subst (λ z. ChoseThen g all s others c i z) switch h.reason)
      where
        go : HasEntered g all s others c i (yes_of (kind_at c d)) k → ⊥
        go (e, among, word) = new-word e (subst (λ b. In e (node_in c b (is_enter k))) (ap yes_of cond ∙ sym is) among) word

    gives-then : GivesOne g all others facts can m s due keeps i x vs fires given_world (into, v) [] leaves (got-arrays s.world i into v) (Then_of x) Begun
    gives-then = record {
      brings = record {
        words = words-before g all others s given_world [] i (into, v) [] leaves;
        blocks = leaves.new;
        inlets = λ j b t z new apart thread source. absurd (no-inlet j z new apart);
        then_cond = λ j z q b f e new. absurd new.1;
        else_cond = λ j z q b f e new. absurd new.1;
        then_switch = λ j z q l f e h among new. is-then j z q l f e new.0 h among new.1;
        else_switch = λ j z q l f e h among new. absurd (not-else j z q l f e new.0 h among new.1);
      };
      old = then-old;
      now = record {
        there = there-later g s.world given_world leaves.frames i fires.there;
        thread = subst (λ q. IsThread (code_of g q) (parts_for all q) (Then_of x)) (sym (leaves.frames.code i)) (fires.inside, ap is_choosing switch);
        source = inl refl;
        reason = subst (λ q. ReasonAt g all (fired_state s given_world []) others (code_of g q) i (Then_of x) Begun) (sym (leaves.frames.code i))
            (subst (λ z. ChoseThen g all (fired_state s given_world []) others c i z) (sym switch) has-entered);
      };
      inlets = enters-inlet;
      later = λ e h posted. absurd (not-posted (Then_of x) (fires.inside, ap is_choosing switch) refl (λ r. r) then-connector (ap (owner_of c) is ∙ own.0)
          then-old e h posted);
    }
      where
        has-entered : HasEntered g all (fired_state s given_world []) others c i (yes_of (kind_at c d)) k
        has-entered =
            let e = (text.enters x d k a p y n switch cond).0 in
            let here : In e.0 (node_in c y (is_enter k)) = subst (λ l. In e.0 l) (sym e.1) (inl refl) in (
              e.0,
              subst (λ b. In e.0 (node_in c b (is_enter k))) (sym (ap yes_of cond)) here,
              word-there (activation_at given_world i).words e.0 v
                  (leaves.given e.0 fires.there (subst (λ b. In e.0 (node_in c b (is_enter k))) (sym is) here)),
            )

        -- in this activation
        then-here : (z q l f e : ℕ) → kind_of g s.world i z ≡ Choose q l f → In e (node_in c (yes_of (kind_at c q)) (is_enter l)) → In e into → x ≡ z
        then-here z q l f e h among mine =
            let r = other-switch z q l f e (yes_of (kind_at c q)) h among mine in
            let block : y ≡ r.yes_block = sym is ∙ (r.block ∙ ap yes_of r.cond_too) in
            let same : d ≡ q = same-owner (sym own.0 ∙ (ap (owner_of c) block ∙ (text.branches q r.test r.yes_block r.no_block r.cond_too).0)) in
            this-switch z q l f h same r.place

        else-here : (z q l f e : ℕ) → kind_of g s.world i z ≡ Choose q l f → In e (node_in c (no_of (kind_at c q)) (is_enter l)) → In e into → ⊥
        else-here z q l f e h among mine =
            let r = other-switch z q l f e (no_of (kind_at c q)) h among mine in
            let block : y ≡ r.no_block = sym is ∙ (r.block ∙ ap no_of r.cond_too) in
            let same : d ≡ q = same-owner (sym own.0 ∙ (ap (owner_of c) block ∙ (text.branches q r.test r.yes_block r.no_block r.cond_too).1)) in
            own.2 (block ∙ sym (conds (sym cond ∙ (ap (kind_at c) same ∙ r.cond_too))).1)

        is-then : (j z q l f e : ℕ) → j ≡ i → kind_of g s.world j z ≡ Choose q l f
            → In e (node_in (its_code g s.world j) (yes_of (kind_at (its_code g s.world j) q)) (is_enter l)) → In e into
            → In (ticket j (Then_of z) Begun) (ticket i (Then_of x) Begun ∷ [])
        is-then j z q l f e at h among mine =
            let same = then-here z q l f e (subst (λ t. kind_of g s.world t z ≡ Choose q l f) at h)
            (subst (λ t. In e (node_in (its_code g s.world t) (yes_of (kind_at (its_code g s.world t) q)) (is_enter l))) at among) mine in
            inl (ap (λ t. ticket t (Then_of x) Begun) (sym at) ∙ ap (λ t. ticket j (Then_of t) Begun) same)

        not-else : (j z q l f e : ℕ) → j ≡ i → kind_of g s.world j z ≡ Choose q l f
            → In e (node_in (its_code g s.world j) (no_of (kind_at (its_code g s.world j) q)) (is_enter l)) → In e into → ⊥
        not-else j z q l f e at h among mine = else-here z q l f e (subst (λ t. kind_of g s.world t z ≡ Choose q l f) at h)
            (subst (λ t. In e (node_in (its_code g s.world t) (no_of (kind_at (its_code g s.world t) q)) (is_enter l))) at among) mine

  -- the word is 0
  module _ (is : chosen_branch (its_code g s.world i) d u ≡ n) where
    else-connector : connector_into c x d chosen ≡ Else_of x
    else-connector = rw (connector_into, is, ap yes_of cond, differs-number y n own.2) refl

    else-old : Given g all s others i (Else_of x) Begun → ⊥
    else-old h = go (subst (λ z. ChoseElse g all s others c i z) switch h.reason)
      where
        go : HasEntered g all s others c i (no_of (kind_at c d)) k → ⊥
        go (e, among, word) = new-word e (subst (λ b. In e (node_in c b (is_enter k))) (ap no_of cond ∙ sym is) among) word

    gives-else : GivesOne g all others facts can m s due keeps i x vs fires given_world (into, v) [] leaves (got-arrays s.world i into v) (Else_of x) Begun
    gives-else = record {
      brings = record {
        words = words-before g all others s given_world [] i (into, v) [] leaves;
        blocks = leaves.new;
        inlets = λ j b t z new apart thread source. absurd (no-inlet j z new apart);
        then_cond = λ j z q b f e new. absurd new.1;
        else_cond = λ j z q b f e new. absurd new.1;
        then_switch = λ j z q l f e h among new. absurd (not-then j z q l f e new.0 h among new.1);
        else_switch = λ j z q l f e h among new. is-else j z q l f e new.0 h among new.1;
      };
      old = else-old;
      now = record {
        there = there-later g s.world given_world leaves.frames i fires.there;
        thread = subst (λ q. IsThread (code_of g q) (parts_for all q) (Else_of x)) (sym (leaves.frames.code i)) (fires.inside, ap is_choosing switch);
        source = inl refl;
        reason = subst (λ q. ReasonAt g all (fired_state s given_world []) others (code_of g q) i (Else_of x) Begun) (sym (leaves.frames.code i))
            (subst (λ z. ChoseElse g all (fired_state s given_world []) others c i z) (sym switch) has-entered);
      };
      inlets = enters-inlet;
      later = λ e h posted. absurd (not-posted (Else_of x) (fires.inside, ap is_choosing switch) refl (λ r. r) else-connector (ap (owner_of c) is ∙ own.1)
          else-old e h posted);
    }
      where
        has-entered : HasEntered g all (fired_state s given_world []) others c i (no_of (kind_at c d)) k
        has-entered =
            let e = (text.enters x d k a p y n switch cond).1 in
            let here : In e.0 (node_in c n (is_enter k)) = subst (λ l. In e.0 l) (sym e.1) (inl refl) in (
              e.0,
              subst (λ b. In e.0 (node_in c b (is_enter k))) (sym (ap no_of cond)) here,
              word-there (activation_at given_world i).words e.0 v
                  (leaves.given e.0 fires.there (subst (λ b. In e.0 (node_in c b (is_enter k))) (sym is) here)),
            )

        -- in this activation
        else-here : (z q l f e : ℕ) → kind_of g s.world i z ≡ Choose q l f → In e (node_in c (no_of (kind_at c q)) (is_enter l)) → In e into → x ≡ z
        else-here z q l f e h among mine =
            let r = other-switch z q l f e (no_of (kind_at c q)) h among mine in
            let block : n ≡ r.no_block = sym is ∙ (r.block ∙ ap no_of r.cond_too) in
            let same : d ≡ q = same-owner (sym own.1 ∙ (ap (owner_of c) block ∙ (text.branches q r.test r.yes_block r.no_block r.cond_too).1)) in
            this-switch z q l f h same r.place

        then-here : (z q l f e : ℕ) → kind_of g s.world i z ≡ Choose q l f → In e (node_in c (yes_of (kind_at c q)) (is_enter l)) → In e into → ⊥
        then-here z q l f e h among mine =
            let r = other-switch z q l f e (yes_of (kind_at c q)) h among mine in
            let block : n ≡ r.yes_block = sym is ∙ (r.block ∙ ap yes_of r.cond_too) in
            let same : d ≡ q = same-owner (sym own.1 ∙ (ap (owner_of c) block ∙ (text.branches q r.test r.yes_block r.no_block r.cond_too).0)) in
            own.2 ((conds (sym cond ∙ (ap (kind_at c) same ∙ r.cond_too))).0 ∙ sym block)

        is-else : (j z q l f e : ℕ) → j ≡ i → kind_of g s.world j z ≡ Choose q l f
            → In e (node_in (its_code g s.world j) (no_of (kind_at (its_code g s.world j) q)) (is_enter l)) → In e into
            → In (ticket j (Else_of z) Begun) (ticket i (Else_of x) Begun ∷ [])
        is-else j z q l f e at h among mine =
            let same = else-here z q l f e (subst (λ t. kind_of g s.world t z ≡ Choose q l f) at h)
            (subst (λ t. In e (node_in (its_code g s.world t) (no_of (kind_at (its_code g s.world t) q)) (is_enter l))) at among) mine in
            inl (ap (λ t. ticket t (Else_of x) Begun) (sym at) ∙ ap (λ t. ticket j (Else_of t) Begun) same)

        not-then : (j z q l f e : ℕ) → j ≡ i → kind_of g s.world j z ≡ Choose q l f
            → In e (node_in (its_code g s.world j) (yes_of (kind_at (its_code g s.world j) q)) (is_enter l)) → In e into → ⊥
        not-then j z q l f e at h among mine = then-here z q l f e (subst (λ t. kind_of g s.world t z ≡ Choose q l f) at h)
            (subst (λ t. In e (node_in (its_code g s.world t) (yes_of (kind_at (its_code g s.world t) q)) (is_enter l))) at among) mine

  -- the switch instruction spends its connector
  pub does-switch : slot m i (slot_of (its_code g s.world i) (test_of (its_code g s.world i) d)) ≡ u
      → Does g all others m i (Switch (slot_of (its_code g s.world i) (test_of (its_code g s.world i) d))
      (then_connector (its_code g s.world i) (parts_in g all s others i) x) (else_connector (its_code g s.world i) (parts_in g all s others i) x) ∷ [])
      (fired_state s (all_got s.world i (node_in (its_code g s.world i) (chosen_branch (its_code g s.world i) d u) (is_enter k)) v) []) due
  does-switch has = go u refl
    where
      ps : List (List (List ℕ))
      ps = parts_in g all s others i

      spends : (w t : ℕ) (r : Machine) → u ≡ w → branch w (then_connector c ps x) (else_connector c ps x) ≡ t → spend m i t ≡ Fine r
          → done_all Plain m i (Switch (slot_of c (test_of c d)) (then_connector c ps x) (else_connector c ps x) ∷ []) ≡ Fine r
      spends w t r e b h = ap (λ (z : ℕ). then_do (spend m i (branch z (then_connector c ps x) (else_connector c ps x))) (λ o. Fine o)) (has ∙ e)
          ∙ (ap (λ (z : ℕ). then_do (spend m i z) (λ o. Fine o)) b ∙ ap (λ (o : Progress). then_do o (λ o. Fine o)) h)

      go : (w : ℕ) → u ≡ w → Does g all others m i (Switch (slot_of c (test_of c d)) (then_connector c ps x) (else_connector c ps x) ∷ [])
          (fired_state s given_world []) due
      go zero e =
          let is = branch-kind c d u p y n cond ∙ ap (branch_of_kind (Cond p y n)) e in
          let r = does-connector g all others facts can m s due keeps i x vs fires given_world (into, v) [] leaves (got-arrays s.world i into v) (Else_of x)
          Begun
          (gives-else is) (λ q l z h. else-class x (inlet_thread q l z) _ _ h refl) in
          record { machine = r.0; does = spends 0 (else_connector c ps x) r.0 e refl r.1; keeps = r.2 }
      go (suc w) e =
          let is = branch-kind c d u p y n cond ∙ ap (branch_of_kind (Cond p y n)) e in
          let r = does-connector g all others facts can m s due keeps i x vs fires given_world (into, v) [] leaves (got-arrays s.world i into v) (Then_of x)
          Begun
          (gives-then is) (λ q l z h. then-class x (inlet_thread q l z) _ _ h refl) in
          record { machine = r.0; does = spends (suc w) (then_connector c ps x) r.0 e refl r.1; keeps = r.2 }
