-- A constant, an operator or a seq fires: one instruction puts its word into its slot.
use Rattle.std.proofs.Common.{◌≡◌, ℕ, ◌≤◌, true, false, List, [], ◌∷◌, refl, sym, ap, ◌∙◌, subst}
use Rattle.std.proofs.Common.{inl, inr, true≢false}
use Rattle.std.proofs.lemmas.List.{append-nil}
use Rattle.tam_word.specs.Words.{meaning}
use Rattle.tam_word.proofs.Members.{In}
use Rattle.tam_graph.specs.declared.kind.Kind.{Kind}
use Rattle.tam_graph.specs.declared.kind.Kind.TheVariants.{Const, Op as Operator, Seq, Enter}
use Rattle.tam_graph.specs.Graphs.{Code, Graph, kind_at, operands_of, has_value, is_inlet, nodes_in, node_in, is_enter}
use Rattle.tam_split.specs.GraphPartitions.{Partitions}
use Rattle.tam_split.proofs.Firers.{is_inner}
use Rattle.tam_world.specs.Worlds.{World, activation_at, its_code, got, firing_of}
use Rattle.tam_flow.specs.Journals.{State}
use Rattle.tam_flow.specs.Reached.{IsThere, kind_of}
use Rattle.tam_flow.proofs.Moves.{in-first}
use Rattle.tam_flow.proofs.Nodes.{is-enter}
use Rattle.tam_flow.proofs.Gifts.{Leaves, leaves-firing}
use Rattle.tl0_code.specs.declared.instr.Instr.{Instr}
use Rattle.tl0_code.specs.declared.instr.Instr.TheVariants.{Imm, Mov, Op as Operate}
use Rattle.tl0_code.specs.Machines.{Machine, Plain, slot, put, Fine, done_all}
use Rattle.tl0_keep.specs.Compiled.{slot_of, instrs_of, yes_of, no_of}
use Rattle.tl0_keep.proofs.code.ThreadKinds.{ThreadKind, Class, Word_of, IsThread, sources_of}
use Rattle.tl0_keep.proofs.runs.Keeps.{Owed, Keeps, parts_in}
use Rattle.tl0_keep.proofs.code.CodeFacts.{CodeFacts}
use Rattle.tl0_keep.proofs.class_run.Later.{Follows, Brings}
use Rattle.tl0_keep.proofs.class_run.Frames.{alike-put}
use Rattle.tl0_keep.proofs.class_run.Whole.{AreNew, keeps-later}
use Rattle.tl0_keep.proofs.class_run.Slots.{slots-put}
use Rattle.tl0_keep.proofs.class_run.Step.{OneOf, fired_state, HaveSlots, IsFiring, Does, words-before, follows, messages-fired}

-- what is inner has a value and is no inlet
inner-value : (k : Kind) → is_inner k ≡ true → (has_value k ≡ true) × (is_inlet k ≡ false)
inner-value (Const w) h = (refl, refl)
inner-value (Operator o a b) h = (refl, refl)
inner-value (Seq a b) h = (refl, refl)
inner-value k h = absurd (true≢false (sym h))

-- and no `in`
inner-enter : (k : Kind) (e : ℕ) → is_inner k ≡ true → k ≡ Enter e → ⊥
inner-enter k e h p = true≢false (sym h ∙ ap is_inner p)

module _ (g : Graph) (all : Partitions) (others : List (ℕ × ThreadKind)) (facts : CodeFacts g all) (m : Machine) (s : State) (due : List Owed)
    (keeps : Keeps g all m s others due) (i x : ℕ) (vs : List ℕ) (fires : IsFiring g s m i x vs) where
  abbrev c : Code
  c = its_code g s.world i

  -- the world and the machine behind it
  abbrev with_word : ℕ → World
  with_word v = got s.world i x v

  abbrev put_word : ℕ → Machine
  put_word v = put m i (slot_of (its_code g s.world i) x) v

  module _ (v : ℕ) (inner : is_inner (kind_of g s.world i x) ≡ true) where
    high : 2 ≤ slot_of (its_code g s.world i) x
    high = (facts.texts (activation_at s.world i).code (keeps.frames.known i fires.there)).slot_high x fires.inside
        (inner-value (kind_of g s.world i x) inner).0

    leaves : Leaves s.world (with_word v) i (x ∷ [], v) []
    leaves = leaves-firing g s.world i x (Const v) []

    -- only x is new
    is-x : (j y : ℕ) → (j ≡ i) × In y (x ∷ []) → kind_of g s.world j y ≡ kind_of g s.world i x
    is-x j y (p, inl e) = ap (λ l. kind_of g s.world l y) p ∙ ap (λ l. kind_of g s.world i l) (sym e)
    is-x j y (p, inr e) = absurd e

    -- which is no `in`
    no-enter : (j b k e : ℕ) → In e (node_in (its_code g s.world j) b (is_enter k)) → (j ≡ i) × In e (x ∷ []) → ⊥
    no-enter j b k e among new =
        let is = is-enter k (kind_of g s.world j e) (in-first (λ z. is_enter k (kind_at (its_code g s.world j) z)) (nodes_in (its_code g s.world j) b) e
        among).1 in
        inner-enter (kind_of g s.world i x) k inner (sym (is-x j e new) ∙ is)

    after : State
    after = fired_state s (with_word v) []

    on : Follows g all others s (fired_state s (with_word v) [])
    on = follows g all others s (with_word v) [] i (x ∷ [], v) [] leaves

    brings : Brings g all others s (fired_state s (with_word v) []) on (OneOf i (x ∷ [])) (OneOf i []) []
    brings = record {
      words = words-before g all others s (with_word v) [] i (x ∷ [], v) [] leaves;
      blocks = leaves.new;
      inlets = λ j b k y new apart thread source. absurd (no-inlet j b k y new thread source);
      then_cond = λ j y p a b e new. absurd new.1;
      else_cond = λ j y p a b e new. absurd new.1;
      then_switch = λ j y d k a e is among new. absurd (no-enter j (yes_of (kind_at (its_code g s.world j) d)) k e among new);
      else_switch = λ j y d k a e is among new. absurd (no-enter j (no_of (kind_at (its_code g s.world j) d)) k e among new);
    }
      where
        no-inlet : (j b k y : ℕ) → OneOf i (x ∷ []) j y → IsThread (its_code g s.world j) (parts_in g all s others j) (Class b k)
            → In (Word_of y) (sources_of (its_code g s.world j) (parts_in g all s others j) (Class b k)) → ⊥
        no-inlet j b k y new thread source =
            let there : IsThere s.world j = subst (λ l. IsThere s.world l) (sym new.0) fires.there in
            let is = (facts.texts (activation_at s.world j).code (keeps.frames.known j there)).source_inlet b k y thread source in
            true≢false (sym is.1 ∙ (ap is_inlet (is-x j y new) ∙ (inner-value (kind_of g s.world i x) inner).1))

    news : AreNew g all others s (fired_state s (with_word v) []) on (OneOf i (x ∷ [])) (OneOf i []) [] brings m (put_word v)
        (alike-put m i (slot_of c x) v high) due
    news = record { fresh = λ j n t h. absurd h; given = λ j n t h. absurd h; once = tt }

    -- the word is put
    pub keeps-inner : Keeps g all (put_word v) (fired_state s (with_word v) []) others due
    keeps-inner =
        let value = inner-value (kind_of g s.world i x) inner in
        keeps-later g all others s (fired_state s (with_word v) []) on (OneOf i (x ∷ [])) (OneOf i []) [] brings m (put_word v)
        (alike-put m i (slot_of c x) v high) due
        news keeps.no_fault
        (slots-put g all others facts m (put_word v) s (fired_state s (with_word v) []) on i (x ∷ [], v) [] leaves [] due brings keeps keeps.frames.known
        fires.worded
        x fires.there refl fires.inside value.0 value.1 (λ j y. refl))
        (messages-fired g all others s (with_word v) [] i (x ∷ [], v) [] leaves m (put_word v) keeps.messages refl (λ o h. absurd h)
        (sym (append-nil m.pending)) refl refl)
        keeps

  does-put : (v : ℕ) (ins : Instr) → is_inner (kind_of g s.world i x) ≡ true → done_all Plain m i (ins ∷ []) ≡ Fine (put_word v)
      → Does g all others m i (ins ∷ []) (fired_state s (with_word v) []) due
  does-put v ins inner does = record { machine = put_word v; does = does; keeps = keeps-inner v inner }

  -- so each inner node does
  pub does-inner : (k : Kind) (us : List ℕ) → is_inner (kind_of g s.world i x) ≡ true → is_inner k ≡ true → HaveSlots m i c (operands_of c k) us
      → Does g all others m i (instrs_of g c (parts_in g all s others i) x k)
      (fired_state s (firing_of g s.world i x k us).world (firing_of g s.world i x k us).sends) due
  does-inner (Const w) [] h inner slots = does-put w (Imm (slot_of c x) w) h refl
  does-inner (Const w) (u ∷ us) h inner slots = absurd slots
  does-inner (Operator o a b) [] h inner slots = absurd slots
  does-inner (Operator o a b) (u ∷ []) h inner slots = absurd slots.1
  does-inner (Operator o a b) (u ∷ v ∷ []) h inner slots = does-put (meaning o u v) (Operate o (slot_of c x) (slot_of c a) (slot_of c b)) h
      (ap (λ (w : ℕ). Fine (put_word (meaning o w (slot m i (slot_of c b))))) slots.0 ∙ ap (λ (w : ℕ). Fine (put_word (meaning o u w))) slots.1.0)
  does-inner (Operator o a b) (u ∷ v ∷ t ∷ us) h inner slots = absurd slots.1.1
  does-inner (Seq a b) [] h inner slots = absurd slots
  does-inner (Seq a b) (u ∷ []) h inner slots = absurd slots.1
  does-inner (Seq a b) (u ∷ v ∷ []) h inner slots = does-put u (Mov (slot_of c x) (slot_of c a)) h (ap (λ (w : ℕ). Fine (put_word w)) slots.0)
  does-inner (Seq a b) (u ∷ v ∷ t ∷ us) h inner slots = absurd slots.1.1
  does-inner k us h inner slots = absurd (true≢false (sym inner))
