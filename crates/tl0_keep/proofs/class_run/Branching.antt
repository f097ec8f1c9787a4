-- A cond, a switch or an `out` fires: it spends a ticket that it gives itself, of its connector or of the merge.
use Rattle.std.proofs.Common.{◌≡◌, ℕ, ◌<◌, true, List, [], ◌∷◌, length, refl, sym}
use Rattle.std.proofs.Common.{ap, subst, inl, inr}
use Rattle.std.proofs.lemmas.List.{append-nil}
use Rattle.tam_word.proofs.Members.{In}
use Rattle.tam_graph.specs.Graphs.{Code, Graph, code_of, kind_at, is_inlet}
use Rattle.tam_split.specs.GraphPartitions.{Partitions}
use Rattle.tam_world.specs.Worlds.{World, its_code, got, all_got}
use Rattle.tam_flow.specs.Journals.{State}
use Rattle.tam_flow.specs.Reached.{IsThere, Has, kind_of}
use Rattle.tam_flow.proofs.Gifts.{Leaves}
use Rattle.tl0_code.specs.Machines.{Machine, slot, put, spend, Fine}
use Rattle.tl0_keep.specs.Compiled.{slot_of}
use Rattle.tl0_keep.proofs.code.ThreadKinds.{ThreadKind, Source, Word_of, number_of_thread, parts_for, inlet_thread}
use Rattle.tl0_keep.proofs.runs.Keeps.{Owed, ticket, parts_in, Posted}
use Rattle.tl0_keep.proofs.runs.Keeps.{Given, Keeps}
use Rattle.tl0_keep.proofs.code.CodeFacts.{CodeFacts}
use Rattle.tl0_keep.proofs.class_run.Later.{Follows, Brings}
use Rattle.tl0_keep.proofs.class_run.Frames.{alike-same}
use Rattle.tl0_keep.proofs.class_run.Whole.{AreNew, keeps-later}
use Rattle.tl0_keep.proofs.class_run.Slots.{slots-same}
use Rattle.tl0_keep.proofs.class_run.Step.{OneOf, fired_state, IsFiring, follows, messages-fired}

-- what is kept is kept where the ticket in front is spent, and where a slot is set while its ticket is due
pub record CanSpend (g : Graph) (all : Partitions) (others : List (ℕ × ThreadKind)) : Type 0 where
  pub spends : (m : Machine) (s : State) (due : List Owed) (i : ℕ) (n : ThreadKind) (t : Source) → Keeps g all m s others (ticket i n t ∷ due)
      → ((x v : ℕ) → ticket i n t ≡ ticket i (inlet_thread (its_code g s.world i) (parts_in g all s others i) x) (Word_of x) → Has s i x v
      → slot m i (slot_of (its_code g s.world i) x) ≡ v)
      → (k : Machine) × (spend m i (number_of_thread (its_code g s.world i) (parts_in g all s others i) n) ≡ Fine k) × Keeps g all k s others due
  pub puts : (m : Machine) (s : State) (due : List Owed) (i x w : ℕ) → IsThere s.world i → x < length (its_code g s.world i).nodes
      → is_inlet (kind_of g s.world i x) ≡ true → In (ticket i (inlet_thread (its_code g s.world i) (parts_in g all s others i) x) (Word_of x)) due
      → Keeps g all m s others due
      → Keeps g all (put m i (slot_of (its_code g s.world i) x) w) s others due
      × (slot (put m i (slot_of (its_code g s.world i) x) w) i (slot_of (its_code g s.world i) x) ≡ w)

-- nodes that get words change no array
pub got-arrays : (w : World) (i : ℕ) (xs : List ℕ) (v : ℕ) → (all_got w i xs v).arrays ≡ w.arrays
got-arrays w i [] v = refl
got-arrays w i (x ∷ xs) v = got-arrays (got w i x v) i xs v

-- ---- one ticket is given

module _ (g : Graph) (all : Partitions) (others : List (ℕ × ThreadKind)) (facts : CodeFacts g all) (can : CanSpend g all others) (m : Machine) (s : State)
    (due : List Owed) (keeps : Keeps g all m s others due) (i x : ℕ) (vs : List ℕ) (fires : IsFiring g s m i x vs) (w : World) (gave : List ℕ × ℕ)
    (bs : List ℕ) (leaves : Leaves s.world w i gave bs) (arrays : w.arrays ≡ s.world.arrays) where
  -- the state behind the firing
  abbrev after : State
  after = fired_state s w []

  abbrev pub on : Follows g all others s (fired_state s w [])
  on = follows g all others s w [] i gave bs leaves

  -- what is to be shown of a firing that gives one ticket
  pub record GivesOne (n : ThreadKind) (t : Source) : Type 0 where
    pub brings : Brings g all others s (fired_state s w []) on (OneOf i gave.0) (OneOf i bs) (ticket i n t ∷ [])
    pub old : Given g all s others i n t → ⊥
    pub now : Given g all (fired_state s w []) others i n t
    pub inlets : (y : ℕ) → In y gave.0 → is_inlet (kind_of g s.world i y) ≡ true
    pub later : (y : ℕ) → In y gave.0 → Posted g all (fired_state s w []) others i y (kind_at (its_code g w i) y)
        → In (ticket i (inlet_thread (its_code g w i) (parts_in g all (fired_state s w []) others i) y) (Word_of y)) (ticket i n t ∷ [])

  module _ (n : ThreadKind) (t : Source) (one : GivesOne n t) where
    -- two tickets that are one
    this : (j : ℕ) (o : ThreadKind) (u : Source) → In (ticket j o u) (ticket i n t ∷ []) → ticket i n t ≡ ticket j o u
    this j o u (inl e) = e
    this j o u (inr e) = absurd e

    news : AreNew g all others s (fired_state s w []) on (OneOf i gave.0) (OneOf i bs) (ticket i n t ∷ []) one.brings m m (alike-same m m refl refl refl) due
    news = record {
      fresh = λ j o u h k. one.old (subst (λ (z : Owed). Given g all s others z.0 z.1.thread z.1.source) (sym (this j o u h)) k);
      given = λ j o u h. subst (λ (z : Owed). Given g all (fired_state s w []) others z.0 z.1.thread z.1.source) (this j o u h) one.now;
      once = ((λ h. h), tt);
    }

    -- it is due
    pub keeps-due : Keeps g all m (fired_state s w []) others (ticket i n t ∷ due)
    keeps-due =
        keeps-later g all others s (fired_state s w []) on (OneOf i gave.0) (OneOf i bs) (ticket i n t ∷ []) one.brings m m (alike-same m m refl refl refl)
        due news
        keeps.no_fault
        (slots-same g all others facts m m s (fired_state s w []) on i gave bs leaves (ticket i n t ∷ []) due one.brings keeps keeps.frames.known fires.worded
        (λ j a. refl) one.inlets one.later)
        (messages-fired g all others s w [] i gave bs leaves m m keeps.messages arrays (λ o h. absurd h) (sym (append-nil m.pending)) refl refl)
        keeps

    -- and is spent, where it is a connector's
    pub does-connector : ((c : Code) (ps : List (List (List ℕ))) (y : ℕ) → n ≡ inlet_thread c ps y → ⊥)
        → (k : Machine) × (spend m i (number_of_thread (its_code g s.world i) (parts_in g all s others i) n) ≡ Fine k)
        × Keeps g all k (fired_state s w []) others due
    does-connector connects =
        let r = can.spends m (fired_state s w []) due i n t keeps-due
        (λ y v e h. absurd (connects (its_code g w i) (parts_in g all (fired_state s w []) others i) y (ap (λ (z : Owed). z.1.thread) e))) in
        (r.0, subst (λ q. spend m i (number_of_thread (code_of g q) (parts_for all q) n) ≡ Fine r.0) (leaves.frames.code i) r.1, r.2)
