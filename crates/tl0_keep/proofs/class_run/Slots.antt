-- The slots of a frame in the middle of a run: those of operands have their words; the words that come, where an instruction puts one and where none does.
use Rattle.std.proofs.Common.{◌≡◌, ℕ, ◌<◌, ◌≤◌, Bool, true, false, List, [], ◌∷◌, ◌++◌, length, refl, sym, ◌∙◌, subst}
use Rattle.std.proofs.Common.{inl, inr, ◌⊎◌, ⊎_elim, arith, true≢false}
use Rattle.std.proofs.lemmas.Bool.{cases_eq}
use Rattle.tam_word.proofs.Members.{In, left-in, right-in}
use Rattle.tam_graph.specs.Graphs.{Code, Graph, code_of, kind_at, is_inlet, has_value}
use Rattle.tam_split.specs.GraphPartitions.{Partitions}
use Rattle.tam_world.specs.Worlds.{activation_at, its_code}
use Rattle.tam_flow.specs.Journals.{State}
use Rattle.tam_flow.specs.Reached.{IsThere, Has}
use Rattle.tam_flow.proofs.Onward.{word-one}
use Rattle.tam_flow.proofs.Gifts.{Leaves}
use Rattle.frame_tables.specs.FrameTables.{frame_at}
use Rattle.tl0_code.specs.ThreadCode.{code_text, plain}
use Rattle.tl0_code.specs.Machines.{Machine, slot, put}
use Rattle.tl0_keep.specs.Compiled.{slot_of, compiled_with}
use Rattle.tl0_keep.proofs.code.ThreadKinds.{ThreadKind, Source, Word_of, IsThread, sources_of, parts_for, inlet_thread}
use Rattle.tl0_keep.proofs.runs.Keeps.{Owed, ticket, parts_in, HasRun, Posted, Given, SlotsKeep, ThreadKeeps, Keeps}
use Rattle.tl0_keep.proofs.code.CodeFacts.{TextFacts, CodeFacts}
use Rattle.tl0_keep.proofs.class_run.Spent.{all-of}
use Rattle.tl0_keep.proofs.class_run.Frames.{slot-other, slot-this}
use Rattle.tl0_keep.proofs.class_run.Later.{there-later, there-before, Follows, Brings, given-before}

module _ (g : Graph) (all : Partitions) (others : List (ℕ × ThreadKind)) (facts : CodeFacts g all) (m : Machine) (s : State) (due : List Owed)
    (keeps : Keeps g all m s others due) where
  -- a thread that runs has spent all its sources
  pub spent-all : (j : ℕ) (n : ThreadKind) → IsThere s.world j → IsThread (its_code g s.world j) (parts_in g all s others j) n → HasRun g all s others j n
      → (t : Source) → In t (sources_of (its_code g s.world j) (parts_in g all s others j) n)
      → Given g all s others j n t × (In (ticket j n t) due → ⊥)
  spent-all j n there thread runs t i = go (keeps.threads j n there thread)
    where
      go : ThreadKeeps g all m s others due j n → Given g all s others j n t × (In (ticket j n t) due → ⊥)
      go h =
          let zero-left : h.count ≡ 0 = h.ran runs in
          let enough : length (sources_of (its_code g s.world j) (parts_in g all s others j) n) ≤ length h.spent = omega (arith, h.sum, zero-left) in
          let spent = all-of h.spent (sources_of (its_code g s.world j) (parts_in g all s others j) n) h.once (λ u k. (h.given u k).source) enough t i in
          (h.given t spent, h.not_due t spent)

  module _ (i : ℕ) (there : IsThere s.world i) (code : (activation_at s.world i).code < length g.codes) where
    abbrev c : Code
    c = its_code g s.world i

    -- the facts of its code
    abbrev text : TextFacts g (its_code g s.world i) (parts_in g all s others i) (code_text (plain (compiled_with g all)) (activation_at s.world i).code)
    text = facts.texts (activation_at s.world i).code code

    -- the slot of a node with a word has it: of an inlet, if its class has run or runs
    pub operand-slot : (a u : ℕ) → a < length c.nodes → has_value (kind_at c a) ≡ true → Has s i a u
        → (is_inlet (kind_at c a) ≡ true → HasRun g all s others i (inlet_thread c (parts_in g all s others i) a)) → slot m i (slot_of c a) ≡ u
    operand-slot a u inside value has runs = go (is_inlet (kind_at c a)) refl
      where
        go : (t : Bool) → is_inlet (kind_at c a) ≡ t → slot m i (slot_of c a) ≡ u
        go false e = keeps.slots.own i a u there value e has
        go true e =
            let source = text.inlet_source a inside e in
            let given = spent-all i (inlet_thread c (parts_in g all s others i) a) there source.0 (runs e) (Word_of a) source.1 in
            keeps.slots.come i a u there inside e has given.0.reason given.1

    -- slots of nodes are in range
    pub slot-within : (x : ℕ) → x < length c.nodes → has_value (kind_at c x) ≡ true → slot_of c x < length (frame_at m.table i).slots
    slot-within x inside value =
        let low = text.slot_below x inside value in
        let wide = facts.slots (activation_at s.world i).code code in
        let width = keeps.frames.width i there in
        omega (arith, low, wide, width)

-- ---- the slots behind a change

module _ (g : Graph) (all : Partitions) (others : List (ℕ × ThreadKind)) (facts : CodeFacts g all) (m k : Machine) (s v : State)
    (on : Follows g all others s v) (i : ℕ) (gave : List ℕ × ℕ) (bs : List ℕ) (leaves : Leaves s.world v.world i gave bs) where
  -- nodes and blocks that are new
  abbrev pub NewWord : ℕ → ℕ → Type 0
  NewWord j x = (j ≡ i) × In x gave.0

  abbrev pub NewBlock : ℕ → ℕ → Type 0
  NewBlock j b = (j ≡ i) × In b bs

  -- a word is old or given now
  pub word-before : (j x u : ℕ) → Has v j x u → Has s j x u ⊎ (NewWord j x × (u ≡ gave.1))
  word-before j x u h = ⊎_elim (λ e. inl (sym e ∙ h)) (λ e. inr ((e.0, e.1), word-one v.world j x u gave.1 h e.2)) (leaves.words j x)

  module _ (new due : List Owed) (brings : Brings g all others s v on NewWord NewBlock new) (keeps : Keeps g all m s others due)
      (codes : (j : ℕ) → IsThere s.world j → (activation_at s.world j).code < length g.codes)
      (worded : (j y u : ℕ) → Has s j y u → (y < length (its_code g s.world j).nodes) × (has_value (kind_at (its_code g s.world j) y) ≡ true)) where
    -- an old word of an inlet stands in its slot
    old-come : (j x u : ℕ) → IsThere s.world j → is_inlet (kind_at (its_code g s.world j) x) ≡ true → Has s j x u
        → Posted g all v others j x (kind_at (its_code g v.world j) x)
        → (In (ticket j (inlet_thread (its_code g v.world j) (parts_in g all v others j) x) (Word_of x)) (new ++ due) → ⊥)
        → slot m j (slot_of (its_code g s.world j) x) ≡ u
    old-come j x u there inlet h posted apart =
        let source = (facts.texts (activation_at s.world j).code (codes j there)).inlet_source x (worded j x u h).0 inlet in
        let same = on.frames.code j in
        let name = inlet_thread (its_code g s.world j) (parts_in g all s others j) x in
        let not_due : In (ticket j name (Word_of x)) (new ++ due) → ⊥ =
        subst (λ q. In (ticket j (inlet_thread (code_of g q) (parts_for all q) x) (Word_of x)) (new ++ due) → ⊥) same apart in
        let given : Given g all v others j name (Word_of x) = record {
          there = there-later g s.world v.world on.frames j there;
          thread = subst (λ q. IsThread (code_of g q) (parts_for all q) name) (sym same) source.0;
          source = subst (λ q. In (Word_of x) (sources_of (code_of g q) (parts_for all q) name)) (sym same) source.1;
          reason = posted;
        } in
        ⊎_elim (λ r. keeps.slots.come j x u there (worded j x u h).0 inlet h r.reason
        (λ d. not_due (right-in {X = Owed} (ticket j name (Word_of x)) new due d)))
        (λ n. absurd (not_due (left-in {X = Owed} (ticket j name (Word_of x)) new due n)))
        (given-before g all others s v on NewWord NewBlock new brings j name (Word_of x) given)

    -- no slot is set: then each word that is given is an inlet's, and is posted later
    pub slots-same : ((j a : ℕ) → slot k j a ≡ slot m j a) → ((x : ℕ) → In x gave.0 → is_inlet (kind_at (its_code g s.world i) x) ≡ true)
        → ((x : ℕ) → In x gave.0 → Posted g all v others i x (kind_at (its_code g v.world i) x)
        → In (ticket i (inlet_thread (its_code g v.world i) (parts_in g all v others i) x) (Word_of x)) new)
        → SlotsKeep g all k v others (new ++ due)
    slots-same stay inlets later = record { own = own; come = come }
      where
        own : (j x u : ℕ) → IsThere v.world j → has_value (kind_at (its_code g v.world j) x) ≡ true → is_inlet (kind_at (its_code g v.world j) x) ≡ false
            → Has v j x u
            → slot k j (slot_of (its_code g v.world j) x) ≡ u
        own j x u there valued none h =
            let none : is_inlet (kind_at (its_code g s.world j) x) ≡ false = subst (λ q. is_inlet (kind_at (code_of g q) x) ≡ false) (on.frames.code j) none in
            subst (λ q. slot k j (slot_of (code_of g q) x) ≡ u) (sym (on.frames.code j)) (stay j (slot_of (its_code g s.world j) x) ∙
            ⊎_elim (λ o. keeps.slots.own j x u (there-before g s.world v.world on.frames j there) (worded j x u o).1 none o)
            (λ n. absurd (true≢false (sym (inlets x n.0.1) ∙ subst (λ l. is_inlet (kind_at (its_code g s.world l) x) ≡ false) n.0.0 none)))
            (word-before j x u h))

        come : (j x u : ℕ) → IsThere v.world j → x < length (its_code g v.world j).nodes → is_inlet (kind_at (its_code g v.world j) x) ≡ true → Has v j x u
            → Posted g all v others j x (kind_at (its_code g v.world j) x)
            → (In (ticket j (inlet_thread (its_code g v.world j) (parts_in g all v others j) x) (Word_of x)) (new ++ due) → ⊥)
            → slot k j (slot_of (its_code g v.world j) x) ≡ u
        come j x u there inside inlet h posted apart = ⊎_elim old given (word-before j x u h)
          where
            old : Has s j x u → slot k j (slot_of (its_code g v.world j) x) ≡ u
            old o = subst (λ q. slot k j (slot_of (code_of g q) x) ≡ u) (sym (on.frames.code j)) (stay j (slot_of (its_code g s.world j) x)
                ∙ old-come j x u (there-before g s.world v.world on.frames j there)
                (subst (λ q. is_inlet (kind_at (code_of g q) x) ≡ true) (on.frames.code j) inlet) o posted apart)

            given : NewWord j x × (u ≡ gave.1) → slot k j (slot_of (its_code g v.world j) x) ≡ u
            given n = absurd (apart (left-in {X = Owed} (ticket j (inlet_thread (its_code g v.world j) (parts_in g all v others j) x) (Word_of x)) new due
                (subst (λ l. In (ticket l (inlet_thread (its_code g v.world l) (parts_in g all v others l) x) (Word_of x)) new) (sym n.0.0)
                (later x n.0.1 (subst (λ l. Posted g all v others l x (kind_at (its_code g v.world l) x)) n.0.0 posted)))))

    -- the slot of the one node that is given a word, no inlet, is set to it
    module _ (x : ℕ) (there : IsThere s.world i) (only : gave.0 ≡ x ∷ []) (inside : x < length (its_code g s.world i).nodes)
        (value : has_value (kind_at (its_code g s.world i) x) ≡ true) (none : is_inlet (kind_at (its_code g s.world i) x) ≡ false) where
      -- another node's slot
      apart-slot : (j y u : ℕ) → IsThere s.world j → Has s j y u → (NewWord j y → ⊥) → (j ≡ i) → slot_of (its_code g s.world j) y ≡ slot_of
          (its_code g s.world i) x → ⊥
      apart-slot j y u t h old p e =
          let here = subst (λ l. (y < length (its_code g s.world l).nodes) × (has_value (kind_at (its_code g s.world l) y) ≡ true)) p (worded j y u h) in
          let same : slot_of (its_code g s.world i) y ≡ slot_of (its_code g s.world i) x =
          subst (λ l. slot_of (its_code g s.world l) y ≡ slot_of (its_code g s.world i) x) p e in
          let one : y ≡ x = (facts.texts (activation_at s.world i).code (codes i there)).slot_one y x here.0 inside here.1 value same in
          old (p, subst (λ l. In y l) (sym only) (inl (sym one)))

      pub slots-put : ((j y : ℕ) → slot k j y ≡ slot (put m i (slot_of (its_code g s.world i) x) gave.1) j y) → SlotsKeep g all k v others (new ++ due)
      slots-put is = record { own = own; come = come }
        where
          own : (j y u : ℕ) → IsThere v.world j → has_value (kind_at (its_code g v.world j) y) ≡ true → is_inlet (kind_at (its_code g v.world j) y) ≡ false
              → Has v j y u
              → slot k j (slot_of (its_code g v.world j) y) ≡ u
          own j y u t valued inner h = subst (λ q. slot k j (slot_of (code_of g q) y) ≡ u) (sym (on.frames.code j)) (is j (slot_of (its_code g s.world j) y)
              ∙ go (cases_eq j i) (cases_eq y x))
            where
              now : (j ≡ i) → (y ≡ x) → slot (put m i (slot_of (its_code g s.world i) x) gave.1) j (slot_of (its_code g s.world j) y) ≡ u
              now p q =
                  let live = keeps.frames.live i there in
                  let has : Has v i x u = subst (λ l. Has v i l u) q (subst (λ l. Has v l y u) p h) in
                  let mine : u ≡ gave.1 = word-one v.world i x u gave.1 has (leaves.given x there (subst (λ l. In x l) (sym only) (inl refl))) in
                  subst (λ l. slot (put m i (slot_of (its_code g s.world i) x) gave.1) l (slot_of (its_code g s.world l) y) ≡ u) (sym p)
                  (subst (λ l. slot (put m i (slot_of (its_code g s.world i) x) gave.1) i (slot_of (its_code g s.world i) l) ≡ u) (sym q)
                  (slot-this m i (slot_of (its_code g s.world i) x) gave.1 live.0 live.1
                  (slot-within g all others facts m s due keeps i there (codes i there) x inside value) ∙ sym mine))

              old : (NewWord j y → ⊥) → slot (put m i (slot_of (its_code g s.world i) x) gave.1) j (slot_of (its_code g s.world j) y) ≡ u
              old isnt = ⊎_elim (λ o. slot-other m i (slot_of (its_code g s.world i) x) gave.1 j (slot_of (its_code g s.world j) y)
                  (λ p e. apart-slot j y u (there-before g s.world v.world on.frames j t) o isnt p e)
                  ∙ keeps.slots.own j y u (there-before g s.world v.world on.frames j t) (worded j y u o).1
                  (subst (λ q. is_inlet (kind_at (code_of g q) y) ≡ false) (on.frames.code j) inner) o)
                  (λ n. absurd (isnt n.0)) (word-before j y u h)

              go : (j ≡ i) ⊎ (j ≡ i → ⊥) → (y ≡ x) ⊎ (y ≡ x → ⊥)
                  → slot (put m i (slot_of (its_code g s.world i) x) gave.1) j (slot_of (its_code g s.world j) y) ≡ u
              go (inl p) (inl q) = now p q
              go (inr p) q = old (λ n. p n.0)
              go (inl p) (inr q) = old (λ n. ⊎_elim (λ e. q (sym e)) (λ e. e) (subst (λ l. In y l) only n.1))

          come : (j y u : ℕ) → IsThere v.world j → y < length (its_code g v.world j).nodes → is_inlet (kind_at (its_code g v.world j) y) ≡ true → Has v j y u
              → Posted g all v others j y (kind_at (its_code g v.world j) y)
              → (In (ticket j (inlet_thread (its_code g v.world j) (parts_in g all v others j) y) (Word_of y)) (new ++ due) → ⊥)
              → slot k j (slot_of (its_code g v.world j) y) ≡ u
          come j y u t inside inlet h posted apart =
              let t : IsThere s.world j = there-before g s.world v.world on.frames j t in
              let inlet : is_inlet (kind_at (its_code g s.world j) y) ≡ true = subst (λ q. is_inlet (kind_at (code_of g q) y) ≡ true) (on.frames.code j)
              inlet in
              let isnt : NewWord j y → ⊥ = λ n. true≢false (sym (subst (λ l. is_inlet (kind_at (its_code g s.world l) y) ≡ true) n.0 inlet)
              ∙ subst (λ l. is_inlet (kind_at (its_code g s.world i) l) ≡ false) (⊎_elim (λ e. e) (λ e. absurd e) (subst (λ l. In y l) only n.1)) none) in
              subst (λ q. slot k j (slot_of (code_of g q) y) ≡ u) (sym (on.frames.code j)) (is j (slot_of (its_code g s.world j) y)
              ∙ ⊎_elim (λ o. slot-other m i (slot_of (its_code g s.world i) x) gave.1 j (slot_of (its_code g s.world j) y)
              (λ p e. apart-slot j y u t o isnt p e)
              ∙ old-come j y u t inlet o posted apart) (λ n. absurd (isnt n.0)) (word-before j y u h))
