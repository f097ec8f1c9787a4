-- The delivery of the message at a place is the delivery of its number, followed by the runs of the inlets that are due.
use Rattle.std.proofs.Common.{◌≡◌, ℕ, zero, suc, ◌+◌, ◌<◌, Bool, true, false, not, nat_lt, List, [], ◌∷◌, ◌++◌, refl, sym, subst, ap, inl, inr, ◌⊎◌}
use Rattle.std.proofs.Common.{◌∙◌, ◌==◌, true≢false, length, slice_get, Some, Option, is_none, arith}
use Rattle.std.proofs.lemmas.Option.{slice_get_within}
use Rattle.tam_word.specs.Lists.{any_of, has, without_place}
use Rattle.tam_word.proofs.Tests.{true-both, number-eq, eq-number}
use Rattle.tam_word.proofs.Members.{In, in-append}
use Rattle.tam_graph.specs.Graphs.{Graph}
use Rattle.tam_split.specs.GraphPartitions.{singles}
use Rattle.tam_msgs.specs.declared.message.Message.{Message}
use Rattle.tam_msgs.specs.declared.message.Message.TheVariants.{Word as Carry, Frame as Begin, Cells as Make, Fetch as Ask_cell, Store as Put_cell}
use Rattle.tam_msgs.specs.Messages.{outside}
use Rattle.tam_msgs.specs.declared.item.Item.{Item}
use Rattle.tam_world.specs.Worlds.{World, Effect, Delivery, Went, Printed, Faulted, Fault, activation_at, has_word, delivered, changes, got}
use Rattle.tam_flow.specs.Journals.{State, Event, Deliver, has_run, on_their_way, is_legal_from, may_follow, may_arrive, after_delivery}
use Rattle.tam_flow.specs.Journals.{deliver_all, or_message}
use Rattle.tam_word.proofs.Tests.{below-test}
use Rattle.tam_flow.proofs.OnTheWay.{way_from, way-is, way-sent, AtPlace, at-place}
use Rattle.tam_flow.proofs.CatchUp.{all-caught}
use Rattle.tam_flow.proofs.Moves.{Moves, JustNone, Left, left-delivered, Fits, fits-later, for-later, moves-none, IsForInlet}
use Rattle.tam_eval.specs.GraphRuns.{GraphState, joins, after_effect}
use Rattle.tam_eval.proofs.Follows.{MessagesFit, Follows}
use Rattle.tam_eval.proofs.KeptBySteps.{runs-later, ready-later}
use Rattle.tam_eval.proofs.StepsCaughtUp.{GoesOn, AllReached, reached-placed, goes-then, reached-on, reached-now, steps-then, caught-way, caught-messages}
use Rattle.tam_eval.proofs.FiringSteps.{GoesTo, same-state, longer}
use Rattle.tam_eval.proofs.DeliverySends.{FitsAfter, delivery-fits, answered-fits}
use Rattle.tam_eval.proofs.WorldSizes.{Few}
use Rattle.tam_flow.proofs.ActivationLists.{has-word}
use Rattle.tam_eval.proofs.FiringGives.{got-has}
use Rattle.tam_eval.proofs.Charges.{Charge, HasReceived, is_asking, asks-none, charge-word, charge-ask}
use Rattle.tam_word.proofs.Members.{get-in}

-- what is left of a list was in it
pub in-without : {X : Type 0} (k : ℕ) (xs : List X) (x : X) → In x (without_place k xs) → In x xs
in-without k [] x h = h
in-without zero (y ∷ ys) x h = inr h
in-without (suc k) (y ∷ ys) x (inl e) = inl e
in-without (suc k) (y ∷ ys) x (inr h) = inr (in-without k ys x h)

-- what has arrived once one more has
arrived-cases : (arrived : List ℕ) (n k : ℕ) → has (n ∷ arrived) k ≡ true → (n ≡ k) ⊎ (has arrived k ≡ true)
arrived-cases arrived n k h = go (n == k) refl
  where
    go : (t : Bool) → (n == k) ≡ t → (n ≡ k) ⊎ (has arrived k ≡ true)
    go true p = inl (number-eq n k p)
    go false p = inr (rw (has, any_of, p) at h)

-- a list with nothing behind
none-behind : (xs : List Message) → xs ++ [] ≡ xs
none-behind [] = refl
none-behind (x ∷ xs) = ap (λ l. x ∷ l) (none-behind xs)

-- one effect
went-one : {a b : Effect} → Went a ≡ Went b → a ≡ b
went-one e = cc

-- a word for an activation goes there
carry-went : (w : World) (f x v : ℕ) → (f == outside) ≡ false → delivered w (Carry f x v) ≡ Went (changes (got w f x v))
carry-went w f x v d = rw (delivered, d) refl

-- it is for an inlet
carry-for : (g : Graph) (w : World) (f x : ℕ) → (f ≡ outside → ⊥) → (f ≡ outside) ⊎ IsForInlet g w f x → IsForInlet g w f x
carry-for g w f x n (inl e) = absurd (n e)
carry-for g w f x n (inr h) = h

-- what is printed, a firing pays for
printed-asks : (w : World) (m : Message) (p v : ℕ) → delivered w m ≡ Printed p v → is_asking m ≡ true
printed-asks w (Carry f x u) p v e = go (f == outside) refl
  where
    wrong : {d : Effect} → Went d ≡ Printed p v → ⊥
    wrong h = cc

    go : (t : Bool) → (f == outside) ≡ t → (f == outside) ≡ true
    go true q = q
    go false q = absurd (wrong (sym (carry-went w f x u q) ∙ e))
printed-asks w (Begin c f x) p v e = refl
printed-asks w (Make n f x) p v e = refl
printed-asks w (Ask_cell a j f x t) p v e = refl
printed-asks w (Put_cell a j u t) p v e = refl

-- the graph's state once the message is taken out
abbrev pub taken : State → List (ℕ × ℕ) → List Item → ℕ → ℕ → GraphState
taken s ready order events k =
    record { world = s.world; ready = ready; pending = without_place k (on_their_way s); order = order; printed = s.printed; events = events }

-- few activations and arrays after a delivery
abbrev pub FewAfter : Delivery → Type 0
FewAfter (Went e) = Few e.world
FewAfter (Printed k v) = Unit {0}
FewAfter (Faulted f) = Unit {0}

-- what comes of a delivery: the journal goes on, or its last event is the fault
abbrev pub DeliveryGoes : Graph → State → List (ℕ × ℕ) → List Item → ℕ → ℕ → Delivery → Type 0
DeliveryGoes g s ready order events k (Went e) = GoesTo g s (after_effect g (taken s ready order events k) e)
DeliveryGoes g s ready order events k (Printed p v) = GoesTo g s (record (taken s ready order events k) { printed = s.printed ++ (p, v) ∷ [] })
DeliveryGoes g s ready order events k (Faulted f) = (n : ℕ) × GoesOn g s (record s { fault = Some f; arrived = n ∷ s.arrived }) (Deliver n ∷ [])

module _ (g : Graph) (args : List ℕ) (s : State) (all : AllReached g args s) (now : Few s.world) (ready : List (ℕ × ℕ)) (follows : Follows g ready s)
    (k : ℕ) (m : Message)
    (at : slice_get (on_their_way s) k ≡ Some m) where
  -- its number
  pub found : AtPlace s.arrived 0 s.sent k m
  found = at-place s.arrived 0 s.sent k m (subst (λ l. slice_get l k ≡ Some m) (way-is s) at)

  -- it was sent
  was-sent : slice_get s.sent found.number ≡ Some m
  was-sent = found.was_sent found.number (omega arith)

  -- so it is one of those sent
  number-within : found.number < length s.sent
  number-within = slice_get_within s.sent found.number m was-sent

  -- its delivery may follow
  pub may : may_follow g (singles g) s (Deliver found.number) ≡ true
  may = true-both (is_none s.fault) (may_arrive s found.number) (ap (λ (o : Option Fault). is_none o) follows.whole)
      (true-both (nat_lt found.number (length s.sent)) (not (has s.arrived found.number)) (below-test found.number (length s.sent) number-within)
      (ap not found.not_yet))

  -- so some event may
  pub some-may : (e : Event) × (may_follow g (singles g) s e ≡ true)
  some-may = (Deliver found.number, may)

  -- and leads there
  goes : (d : Delivery) → delivered s.world m ≡ d → GoesOn g s (after_delivery s found.number d) (Deliver found.number ∷ [])
  goes d e = record {
    legal = rw (is_legal_from, may) refl;
    ends = ap (λ o. deliver_all s found.number (or_message o)) was-sent ∙ ap (after_delivery s found.number) e;
  }

  -- what arrived was sent
  arrived-sent : (n : ℕ) → has (found.number ∷ s.arrived) n ≡ true → n < length s.sent
  arrived-sent n h = elim (arrived-cases s.arrived found.number n h) [
    | inl e ↦ subst (λ z. z < length s.sent) e number-within
    | inr r ↦ follows.messages.arrived_sent n r
  ]

  -- it is no longer on its way
  way-left : way_from (found.number ∷ s.arrived) 0 s.sent ≡ without_place k (on_their_way s)
  way-left = found.taken_out ∙ ap (without_place k) (sym (way-is s))

  -- it fits
  message-fits : Fits g s.world m
  message-fits = follows.messages.fit m (get-in (on_their_way s) k m at)

  -- ---- something goes on

  module _ (e : Effect) (is : delivered s.world m ≡ Went e) (few : Few e.world) where
    -- the state after it
    abbrev after : State
    after = record s { world = e.world; sent = s.sent ++ e.sends; arrived = found.number ∷ s.arrived }

    -- what it leaves
    moves : Moves g JustNone s.world e.world
    moves = subst (Left g s.world) is (left-delivered g s.world m message-fits)

    -- fits
    fits-after : FitsAfter g (Went e)
    fits-after = subst (FitsAfter g) is (delivery-fits g s.world follows.messages.readers m message-fits)

    -- the messages after it
    after-way : on_their_way after ≡ without_place k (on_their_way s) ++ e.sends
    after-way = way-is after ∙ (way-sent (found.number ∷ s.arrived) s.sent e.sends arrived-sent ∙ ap (λ l. l ++ e.sends) way-left)

    -- fit
    after-messages : MessagesFit g after
    after-messages = record {
      fit = λ q h. fits q (in-append q (without_place k (on_their_way s)) e.sends (subst (In q) after-way h));
      readers = fits-after.1;
      arrived_sent = λ n h. let l : n < length s.sent = arrived-sent n h in let p = longer s.sent e.sends in omega arith;
    }
      where
        fits : (q : Message) → In q (without_place k (on_their_way s)) ⊎ In q e.sends → Fits g e.world q
        fits q (inl h) = fits-later g JustNone s.world e.world moves q (follows.messages.fit q (in-without k (on_their_way s) q h))
        fits q (inr h) = answered-fits g e.world q (fits-after.0 q h)

    -- the word of an inlet is new
    word-fresh : (f x v : ℕ) → m ≡ Carry f x v → (f ≡ outside → ⊥) → HasReceived g s f x → ⊥
    word-fresh f x v p n h =
        let q = (reached-now g args s all now).once.not_yet found.number f x v n (was-sent ∙ ap Some p) found.not_yet in
        let r = has-word (activation_at s.world f).words x h.word in
        let z : [] ≡ r.0 ∷ [] = sym q ∙ r.1 in absurd cc

    -- its charge, in a state with this world
    charge-went : (t : State) → Moves g JustNone s.world t.world → ((i b l : ℕ) → has_run s i b l ≡ true → has_run t i b l ≡ true) → t.world ≡ e.world
        → on_their_way t ≡ without_place k (on_their_way s) ++ e.sends → (n : ℕ) → Charge g s n → Charge g t (n + 1)
    charge-went t mv old w way n q = go m refl
      where
        paid : is_asking m ≡ true → Charge g t (n + 1)
        paid p = charge-ask g JustNone s t mv old n k m e.sends way (asks-none g e.world few e.sends fits-after.0) at p q

        word : (f x v : ℕ) → m ≡ Carry f x v → (f == outside) ≡ false → Charge g t (n + 1)
        word f x v p d =
            let out : f ≡ outside → ⊥ = λ z. true≢false (sym (eq-number f outside z) ∙ d) in
            let fit = carry-for g s.world f x out (subst (Fits g s.world) p message-fits) in
            let is_e : e ≡ changes (got s.world f x v) = went-one (sym is ∙ (ap (delivered s.world) p ∙ carry-went s.world f x v d)) in
            let none : e.sends ≡ [] = ap (λ (z : Effect). z.sends) is_e in
            let wd : t.world ≡ got s.world f x v = w ∙ ap (λ (z : Effect). z.world) is_e in
            charge-word g JustNone s t mv old n k f x
            (way ∙ (ap (λ l. without_place k (on_their_way s) ++ l) none ∙ none-behind (without_place k (on_their_way s))))
            (record {
              inlet = for-later g JustNone s.world t.world mv f x fit;
              word = subst (λ (z : World). has_word z f x ≡ true) (sym wd)
                  (got-has s.world f x v fit.0);
            })
            (word-fresh f x v p out) q

        carry : (f x v : ℕ) → m ≡ Carry f x v → (b : Bool) → (f == outside) ≡ b → Charge g t (n + 1)
        carry f x v p true d = paid (ap is_asking p ∙ d)
        carry f x v p false d = word f x v p d

        go : (z : Message) → m ≡ z → Charge g t (n + 1)
        go (Carry f x v) p = carry f x v p (f == outside) refl
        go (Begin c f x) p = paid (ap is_asking p)
        go (Make l f x) p = paid (ap is_asking p)
        go (Ask_cell a j f x y) p = paid (ap is_asking p)
        go (Put_cell a j v y) p = paid (ap is_asking p)

    -- the graph's state after it follows a state to which the journal goes on
    went-goes : (order : List Item) (events : ℕ) → GoesTo g s (after_effect g (taken s ready order events k) e)
    went-goes order events =
        let u = all-caught g after follows.whole (reached-placed g args after (reached-now g args after
        (reached-on g args s after (Deliver found.number ∷ []) (goes (Went e) is) all) few)) in
        let st = steps-then g JustNone s after u.0 _ follows.runs moves u.1 u.2 (λ j b l h. h) (λ j b l h. inl h) (λ j b l y f h. absurd h)
        (λ j y h. absurd h) (λ j y h. absurd h) in
        record {
          state = u.0;
          events = Deliver found.number ∷ u.1.events;
          goes = goes-then g s after u.0 (Deliver found.number ∷ []) u.1.events (goes (Went e) is) (record { legal = u.1.legal; ends = u.1.ends });
          ready = ready ++ joins g s.world u.0.world;
          same = ap (λ (w : World). after_joins w) (sym u.1.world)
              ∙ same-state (ready ++ joins g s.world u.0.world) order events u.0.world u.0.world _ (on_their_way u.0) s.printed u.0.printed refl
              (sym (caught-way g after u.0 _ u.1 ∙ after-way)) (sym u.1.printed);
          charge = λ n q. charge-went u.0 st.moves st.old u.1.world (caught-way g after u.0 _ u.1 ∙ after-way) n q;
          follows = record {
            whole = u.1.fault ∙ follows.whole;
            runs = runs-later g JustNone s u.0 follows.runs st;
            stands = ready-later g JustNone s u.0 follows.runs st ready ready follows.stands (λ j y h. inr h) (λ j y h. (h, λ z. z)) follows.stands.once;
            messages = caught-messages g after u.0 _ u.1 after-messages;
          };
        }
      where
        after_joins : World → GraphState
        after_joins w = record {
          world = w;
          ready = ready ++ joins g s.world w;
          pending = without_place k (on_their_way s) ++ e.sends;
          order = order;
          printed = s.printed;
          events = events;
        }

  -- ---- a word is printed

  -- the graph's state after it follows the journal's
  printed-goes : (p v : ℕ) → delivered s.world m ≡ Printed p v → (order : List Item) (events : ℕ)
      → GoesTo g s (record (taken s ready order events k) { printed = s.printed ++ (p, v) ∷ [] })
  printed-goes p v is order events = record {
    state = record s { printed = s.printed ++ (p, v) ∷ []; arrived = found.number ∷ s.arrived };
    events = Deliver found.number ∷ [];
    goes = goes (Printed p v) is;
    ready = ready;
    charge = λ n q. charge-ask g JustNone s (record s { printed = s.printed ++ (p, v) ∷ []; arrived = found.number ∷ s.arrived })
        (moves-none g JustNone s.world) (λ i b l h. h) n k m []
        (way-is (record s { printed = s.printed ++ (p, v) ∷ []; arrived = found.number ∷ s.arrived }) ∙
        (way-left ∙ sym (none-behind (without_place k (on_their_way s)))))
        refl at (printed-asks s.world m p v is) q;
    same = same-state ready order events s.world s.world (without_place k (on_their_way s)) _ (s.printed ++ (p, v) ∷ []) (s.printed ++ (p, v) ∷ []) refl
        (sym (way-is (record s { printed = s.printed ++ (p, v) ∷ []; arrived = found.number ∷ s.arrived }) ∙ way-left)) refl;
    follows = record {
      whole = follows.whole;
      runs = record {
        ran_there = follows.runs.ran_there;
        firer_ran = follows.runs.firer_ran;
        inner_ran = follows.runs.inner_ran;
        inner_word = follows.runs.inner_word;
        inlet_ran = follows.runs.inlet_ran;
        inlet_word = follows.runs.inlet_word;
        words_there = follows.runs.words_there;
        words_values = follows.runs.words_values;
      };
      stands = record {
        ready_enabled = follows.stands.ready_enabled;
        ready_unrun = follows.stands.ready_unrun;
        enabled_ready = follows.stands.enabled_ready;
        once = follows.stands.once;
      };
      messages = record {
        fit = λ q h. follows.messages.fit q (in-without k (on_their_way s) q
            (subst (In q) (way-is (record s { printed = s.printed ++ (p, v) ∷ []; arrived = found.number ∷ s.arrived }) ∙ way-left) h));
        readers = follows.messages.readers;
        arrived_sent = arrived-sent;
      };
    };
  }

  -- ---- whatever comes of it

  -- the journal goes on so
  pub delivery-goes : FewAfter (delivered s.world m) → (order : List Item) (events : ℕ) → DeliveryGoes g s ready order events k (delivered s.world m)
  delivery-goes few order events = go (delivered s.world m) refl few
    where
      go : (d : Delivery) → delivered s.world m ≡ d → FewAfter d → DeliveryGoes g s ready order events k d
      go (Went e) is h = went-goes e is h order events
      go (Printed p v) is h = printed-goes p v is order events
      go (Faulted f) is h = (found.number, goes (Faulted f) is)
