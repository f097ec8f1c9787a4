-- A cond fires: it enters the branch chosen, and spends the ticket of the connector into it.
use Rattle.std.proofs.Common.{◌≡◌, ℕ, zero, suc, ◌<◌, true, List, [], ◌∷◌, refl, sym, ap, ◌∙◌, subst, inl, inr}
use Rattle.tam_word.proofs.Members.{In}
use Rattle.tam_graph.specs.declared.kind.Kind.{Kind}
use Rattle.tam_graph.specs.declared.kind.Kind.TheVariants.{Cond}
use Rattle.tam_graph.specs.Graphs.{Code, Graph, code_of, kind_at, owner_of, chosen_branch, branch_of_kind}
use Rattle.tam_split.specs.GraphPartitions.{Partitions}
use Rattle.tam_world.specs.Worlds.{activation_at, its_code, has_entered, entered}
use Rattle.tam_flow.specs.Journals.{State}
use Rattle.tam_flow.specs.Reached.{kind_of}
use Rattle.tam_flow.proofs.Gifts.{Leaves, leaves-firing, opens}
use Rattle.tl0_code.specs.declared.instr.Instr.TheVariants.{Switch}
use Rattle.tl0_code.specs.Machines.{Machine, Plain, slot, spend, branch, Progress, Fine, then_do, done_all}
use Rattle.tl0_code.specs.ThreadCode.{code_text, plain}
use Rattle.tl0_keep.specs.Compiled.{slot_of, then_connector, else_connector, is_choosing, compiled_with}
use Rattle.tl0_keep.proofs.code.ThreadKinds.{ThreadKind, Class, Then_of, Else_of, Begun, IsThread, parts_for, inlet_thread}
use Rattle.tl0_keep.proofs.runs.Keeps.{Owed, ticket, parts_in, ChoseThen, ChoseElse, ReasonAt, Keeps}
use Rattle.tl0_keep.proofs.code.CodeFacts.{TextFacts, CodeFacts}
use Rattle.tl0_keep.proofs.class_run.Later.{there-later}
use Rattle.tl0_keep.proofs.class_run.Step.{OneOf, fired_state, IsFiring, Does, words-before}
use Rattle.tl0_keep.proofs.class_run.Branching.{CanSpend, GivesOne, does-connector}

-- an owner alone
same-owner : {a b : ℕ} → a ∷ [] ≡ b ∷ [] → a ≡ b
same-owner e = cc

-- a connector is no class
pub then-class : (x : ℕ) (n : ThreadKind) (b k : ℕ) → Then_of x ≡ n → n ≡ Class b k → ⊥
then-class x n b k e f = cc

-- a thread that stands for an else branch is none of a class
pub else-class : (x : ℕ) (n : ThreadKind) (b k : ℕ) → Else_of x ≡ n → n ≡ Class b k → ⊥
else-class x n b k e f = cc

-- what the branch of a cond is
pub branch-kind : (c : Code) (x v p y n : ℕ) → kind_at c x ≡ Cond p y n → chosen_branch c x v ≡ branch_of_kind (Cond p y n) v
branch-kind c x v p y n e = ap (λ (k : Kind). branch_of_kind k v) e

module _ (g : Graph) (all : Partitions) (others : List (ℕ × ThreadKind)) (facts : CodeFacts g all) (can : CanSpend g all others) (m : Machine) (s : State)
    (due : List Owed) (keeps : Keeps g all m s others due) (i x : ℕ) (vs : List ℕ) (fires : IsFiring g s m i x vs) (p y n v : ℕ)
    (cond : kind_of g s.world i x ≡ Cond p y n) (words : vs ≡ v ∷ []) where
  -- its code
  abbrev c : Code
  c = its_code g s.world i

  text : TextFacts g (its_code g s.world i) (parts_in g all s others i) (code_text (plain (compiled_with g all)) (activation_at s.world i).code)
  text = facts.texts (activation_at s.world i).code (keeps.frames.known i fires.there)

  -- the branch
  abbrev chosen : ℕ
  chosen = chosen_branch (its_code g s.world i) x v

  leaves : Leaves s.world (entered s.world i (chosen_branch (its_code g s.world i) x v)) i ([], 0) (chosen_branch (its_code g s.world i) x v ∷ [])
  leaves = leaves-firing g s.world i x (Cond p y n) (v ∷ [])

  -- its branches are its own
  own : (owner_of c y ≡ x ∷ []) × (owner_of c n ≡ x ∷ []) × (y ≡ n → ⊥) × (0 < y) × (0 < n)
  own = text.branches x p y n cond

  -- it was entered by no one
  not_entered : has_entered s.world i (chosen_branch (its_code g s.world i) x v) ≡ true → ⊥
  not_entered = fires.not_entered chosen (subst (λ k. In (chosen_branch (its_code g s.world i) x v) (opens (its_code g s.world i) x k vs)) (sym cond)
      (subst (λ l. In (chosen_branch (its_code g s.world i) x v) (opens (its_code g s.world i) x (Cond p y n) l)) (sym words) (inl refl)))

  now-entered : has_entered (entered s.world i (chosen_branch (its_code g s.world i) x v)) i (chosen_branch (its_code g s.world i) x v) ≡ true
  now-entered = leaves.opened chosen fires.there (inl refl)

  -- another cond with this branch is this one
  pub record Whose (j z q a b : ℕ) : Type 0 where
    pub here : j ≡ i
    pub cond_too : kind_of g s.world i z ≡ Cond q a b

  whose : (j z q a b d : ℕ) → kind_of g s.world j z ≡ Cond q a b → OneOf i (chosen_branch (its_code g s.world i) x v ∷ []) j d
      → Whose j z q a b × (chosen_branch (its_code g s.world i) x v ≡ d)
  whose j z q a b d e (h, inl r) = (record { here = h; cond_too = subst (λ l. kind_of g s.world l z ≡ Cond q a b) h e }, r)
  whose j z q a b d e (h, inr r) = absurd r

  conds : {p q y a n b : ℕ} → Cond p y n ≡ Cond q a b → (y ≡ a) × (n ≡ b)
  conds e = (cc, cc)

  -- the word isn't 0
  gives-then : chosen_branch (its_code g s.world i) x v ≡ y
      → GivesOne g all others facts can m s due keeps i x vs fires (entered s.world i (chosen_branch (its_code g s.world i) x v)) ([], 0)
      (chosen_branch (its_code g s.world i) x v ∷ []) leaves refl (Then_of x) Begun
  gives-then is = record {
    brings = record {
      words = words-before g all others s (entered s.world i chosen) [] i ([], 0) (chosen ∷ []) leaves;
      blocks = leaves.new;
      inlets = λ j b k z new apart thread source. absurd new.1;
      then_cond = λ j z q a b e new. is-then j z q a b (whose j z q a b a e new);
      else_cond = λ j z q a b e new. absurd (not-else j z q a b (whose j z q a b b e new));
      then_switch = λ j z d k a e h among new. absurd new.1;
      else_switch = λ j z d k a e h among new. absurd new.1;
    };
    old = λ h. not_entered (subst (λ l. has_entered s.world i l ≡ true) (sym is)
        (subst (λ k. ChoseThen g all s others c i k) cond h.reason));
    now = record {
      there = there-later g s.world (entered s.world i chosen) leaves.frames i fires.there;
      thread = subst (λ q. IsThread (code_of g q) (parts_for all q) (Then_of x)) (sym (leaves.frames.code i)) (fires.inside, ap is_choosing cond);
      source = inl refl;
      reason = subst (λ q. ReasonAt g all (fired_state s (entered s.world i chosen) []) others (code_of g q) i (Then_of x) Begun) (sym (leaves.frames.code i))
          (subst (λ k. ChoseThen g all (fired_state s (entered s.world i chosen) []) others c i k) (sym cond)
          (subst (λ l. has_entered (entered s.world i chosen) i l ≡ true) is now-entered));
    };
    inlets = λ z h. absurd h;
    later = λ z h. absurd h;
  }
    where
      is-then : (j z q a b : ℕ) → Whose j z q a b × (chosen_branch (its_code g s.world i) x v ≡ a)
          → In (ticket j (Then_of z) Begun) (ticket i (Then_of x) Begun ∷ [])
      is-then j z q a b (w, h) =
          let o : owner_of c a ≡ z ∷ [] = (text.branches z q a b w.cond_too).0 in
          let same : x ≡ z = same-owner (sym own.0 ∙ (ap (owner_of c) (sym is ∙ h) ∙ o)) in
          inl (ap (λ l. ticket l (Then_of x) Begun) (sym w.here) ∙ ap (λ l. ticket j (Then_of l) Begun) same)

      not-else : (j z q a b : ℕ) → Whose j z q a b × (chosen_branch (its_code g s.world i) x v ≡ b) → ⊥
      not-else j z q a b (w, h) =
          let o : owner_of c b ≡ z ∷ [] = (text.branches z q a b w.cond_too).1 in
          let same : x ≡ z = same-owner (sym own.0 ∙ (ap (owner_of c) (sym is ∙ h) ∙ o)) in
          own.2 (sym is ∙ (h ∙ sym (conds (sym cond ∙ (ap (kind_at c) same ∙ w.cond_too))).1))

  -- the word is 0
  gives-else : chosen_branch (its_code g s.world i) x v ≡ n
      → GivesOne g all others facts can m s due keeps i x vs fires (entered s.world i (chosen_branch (its_code g s.world i) x v)) ([], 0)
      (chosen_branch (its_code g s.world i) x v ∷ []) leaves refl (Else_of x) Begun
  gives-else is = record {
    brings = record {
      words = words-before g all others s (entered s.world i chosen) [] i ([], 0) (chosen ∷ []) leaves;
      blocks = leaves.new;
      inlets = λ j b k z new apart thread source. absurd new.1;
      then_cond = λ j z q a b e new. absurd (not-then j z q a b (whose j z q a b a e new));
      else_cond = λ j z q a b e new. is-else j z q a b (whose j z q a b b e new);
      then_switch = λ j z d k a e h among new. absurd new.1;
      else_switch = λ j z d k a e h among new. absurd new.1;
    };
    old = λ h. not_entered (subst (λ l. has_entered s.world i l ≡ true) (sym is)
        (subst (λ k. ChoseElse g all s others c i k) cond h.reason));
    now = record {
      there = there-later g s.world (entered s.world i chosen) leaves.frames i fires.there;
      thread = subst (λ q. IsThread (code_of g q) (parts_for all q) (Else_of x)) (sym (leaves.frames.code i)) (fires.inside, ap is_choosing cond);
      source = inl refl;
      reason = subst (λ q. ReasonAt g all (fired_state s (entered s.world i chosen) []) others (code_of g q) i (Else_of x) Begun) (sym (leaves.frames.code i))
          (subst (λ k. ChoseElse g all (fired_state s (entered s.world i chosen) []) others c i k) (sym cond)
          (subst (λ l. has_entered (entered s.world i chosen) i l ≡ true) is now-entered));
    };
    inlets = λ z h. absurd h;
    later = λ z h. absurd h;
  }
    where
      is-else : (j z q a b : ℕ) → Whose j z q a b × (chosen_branch (its_code g s.world i) x v ≡ b)
          → In (ticket j (Else_of z) Begun) (ticket i (Else_of x) Begun ∷ [])
      is-else j z q a b (w, h) =
          let o : owner_of c b ≡ z ∷ [] = (text.branches z q a b w.cond_too).1 in
          let same : x ≡ z = same-owner (sym own.1 ∙ (ap (owner_of c) (sym is ∙ h) ∙ o)) in
          inl (ap (λ l. ticket l (Else_of x) Begun) (sym w.here) ∙ ap (λ l. ticket j (Else_of l) Begun) same)

      not-then : (j z q a b : ℕ) → Whose j z q a b × (chosen_branch (its_code g s.world i) x v ≡ a) → ⊥
      not-then j z q a b (w, h) =
          let o : owner_of c a ≡ z ∷ [] = (text.branches z q a b w.cond_too).0 in
          let same : x ≡ z = same-owner (sym own.1 ∙ (ap (owner_of c) (sym is ∙ h) ∙ o)) in
          own.2 ((conds (sym cond ∙ (ap (kind_at c) same ∙ w.cond_too))).0 ∙ (sym h ∙ is))

  -- the switch instruction spends its connector
  pub does-cond : slot m i (slot_of (its_code g s.world i) p) ≡ v
      → Does g all others m i (Switch (slot_of (its_code g s.world i) p) (then_connector (its_code g s.world i) (parts_in g all s others i) x)
      (else_connector (its_code g s.world i) (parts_in g all s others i) x) ∷ [])
      (fired_state s (entered s.world i (chosen_branch (its_code g s.world i) x v)) []) due
  does-cond has = go v refl
    where
      ps : List (List (List ℕ))
      ps = parts_in g all s others i

      spends : (u t : ℕ) (k : Machine) → v ≡ u → branch u (then_connector c ps x) (else_connector c ps x) ≡ t → spend m i t ≡ Fine k
          → done_all Plain m i (Switch (slot_of c p) (then_connector c ps x) (else_connector c ps x) ∷ []) ≡ Fine k
      spends u t k e b h = ap (λ (z : ℕ). then_do (spend m i (branch z (then_connector c ps x) (else_connector c ps x))) (λ r. Fine r)) (has ∙ e)
          ∙ (ap (λ (z : ℕ). then_do (spend m i z) (λ r. Fine r)) b ∙ ap (λ (r : Progress). then_do r (λ r. Fine r)) h)

      go : (u : ℕ) → v ≡ u → Does g all others m i (Switch (slot_of c p) (then_connector c ps x) (else_connector c ps x) ∷ [])
          (fired_state s (entered s.world i (chosen_branch (its_code g s.world i) x v)) []) due
      go zero e =
          let is = branch-kind c x v p y n cond ∙ ap (branch_of_kind (Cond p y n)) e in
          let r = does-connector g all others facts can m s due keeps i x vs fires (entered s.world i chosen) ([], 0) (chosen ∷ []) leaves refl (Else_of x)
          Begun
          (gives-else is) (λ d ps z h. else-class x (inlet_thread d ps z) _ _ h refl) in
          record { machine = r.0; does = spends 0 (else_connector c ps x) r.0 e refl r.1; keeps = r.2 }
      go (suc u) e =
          let is = branch-kind c x v p y n cond ∙ ap (branch_of_kind (Cond p y n)) e in
          let r = does-connector g all others facts can m s due keeps i x vs fires (entered s.world i chosen) ([], 0) (chosen ∷ []) leaves refl (Then_of x)
          Begun
          (gives-then is) (λ d ps z h. then-class x (inlet_thread d ps z) _ _ h refl) in
          record { machine = r.0; does = spends (suc u) (then_connector c ps x) r.0 e refl r.1; keeps = r.2 }
