-- The words to the outside behind a journal: each is of a result of the root that has fired with it, one at most of a place, and printed once.
use Rattle.std.proofs.Common.{◌≡◌, ℕ, ◌<◌, Bool, true, false, ◌==◌, List, [], ◌∷◌, ◌++◌, map, zip, Some, length, slice_get}
use Rattle.std.proofs.Common.{refl, sym, ap, ◌∙◌, subst, inl, inr, ⊎_elim, true≢false}
use Rattle.std.specs.List.{AllByRecursion}
use Rattle.tam_word.specs.Lists.{below, has}
use Rattle.tam_word.proofs.Each.{all-more, all-append, all-map, all-flat, all-at_place, get-left}
use Rattle.tam_word.proofs.Members.{In}
use Rattle.tam_word.proofs.Tests.{number-eq}
use Rattle.tam_graph.specs.Graphs.{Graph, code_of, node_where, is_param}
use Rattle.tam_graph.specs.Accepted.{IsAccepted}
use Rattle.tam_split.specs.Blocks.{BlockGraph, vertex_at}
use Rattle.tam_split.specs.GraphPartitions.{Partitions, are_valid}
use Rattle.tam_msgs.specs.declared.message.Message.{Message}
use Rattle.tam_msgs.specs.declared.message.Message.TheVariants.{Word as Carry, Frame as Begin, Cells as Make, Fetch as Ask_cell, Store as Put_cell}
use Rattle.tam_msgs.specs.Messages.{outside, answers}
use Rattle.tam_istr.specs.Cells.{Reader, Empty, Filled, with_array}
use Rattle.tam_world.specs.Worlds.{World, Effect, Went, Printed, Faulted, Fault, delivered, changes, sends_only, got, its_code, argument_message}
use Rattle.tam_flow.specs.Journals.{State, Event, Run, initial, has_run, class_fired, block_of_act, after_delivery, after_event, state_after}
use Rattle.tam_flow.specs.JournalLaws.{IsJournal}
use Rattle.tam_flow.specs.Told.{path_of}
use Rattle.tam_flow.specs.Reached.{IsThere, HasArrived}
use Rattle.tam_flow.proofs.Accesses.{with_new_cell, FetchCases, StoreCases, fetch-cases, store-cases}
use Rattle.tam_flow.proofs.CellChanges.{none-some, push-cases}
use Rattle.tam_flow.proofs.Deliveries.{IsSoundEffect, not-outside, some-below}
use Rattle.tam_flow.proofs.Growing.{Grows, grows-same, grows-got, grows-begun, grows-made, grows-arrays, with_begun}
use Rattle.tam_flow.proofs.Justified.{IsMessage, IsAsked}
use Rattle.tam_flow.proofs.Pairs.{Pairs, pairs-append, pairs-at, fires-once}
use Rattle.tam_flow.proofs.ReachedParts.{root-path}
use Rattle.tam_flow.proofs.SoundStates.{IsRunnable, run-effect}
use Rattle.tam_flow.proofs.SentOnce.{HasFired, fired-later, arrived-more, arrived-now}
use Rattle.tam_flow.proofs.RunSteps.{run-kept, run-more, run_done, fires-now, fires-first}
use Rattle.tam_flow.proofs.JournalSteps.{IsLegalState, journal-keeps}
use Rattle.tam_flow.proofs.OutsideFirings.{IsInside, OutApart, GivesOut, word-inside, gives-later, one-give, IsOutIn, IsOutRun, out-kept}

-- a word to the outside is that of a node of the root that has fired
abbrev pub IsOutCaused : Graph → List ℕ → Partitions → State → Message → Type 0
IsOutCaused g args all s m = (k u : ℕ) → m ≡ Carry outside k u → (y : ℕ) × HasFired g all s 0 y × GivesOut g args s.world y k u

-- the words to the outside, and what was printed
pub record IsOutState (g : Graph) (args : List ℕ) (all : Partitions) (s : State) : Type 0 where
  pub apart : Pairs OutApart s.sent
  pub causes : AllByRecursion (IsOutCaused g args all s) s.sent
  pub printed : (n k u : ℕ) → slice_get s.printed n ≡ Some (k, u) → HasArrived s (Carry outside k u)
  pub once : (m n k u v : ℕ) → slice_get s.printed m ≡ Some (k, u) → slice_get s.printed n ≡ Some (k, v) → m ≡ n

-- equal pairs
pair-eq : {a b c d : ℕ} → ◌≡◌ {A = ℕ × ℕ} (a, b) (c, d) → (a ≡ c) × (b ≡ d)
pair-eq p = (ap (λ (z : ℕ × ℕ). z.0) p, ap (λ (z : ℕ × ℕ). z.1) p)

-- messages of which none goes outside don't meet there
inside-apart : (ms : List Message) → AllByRecursion IsInside ms → Pairs OutApart ms
inside-apart [] h = tt
inside-apart (m ∷ ms) h =
    (all-more IsInside (OutApart m) (λ n p k u v c d. p k v d) ms h.1, inside-apart ms h.1)

-- nor do they meet others there
inside-across : (ms ns : List Message) → AllByRecursion IsInside ns → AllByRecursion (λ m. AllByRecursion (OutApart m) ns) ms
inside-across [] ns h = tt
inside-across (m ∷ ms) ns h = (all-more IsInside (OutApart m) (λ n p k u v c d. p k v d) ns h, inside-across ms ns h)

-- ---- the beginning

module _ (g : Graph) (args : List ℕ) (all : Partitions) where
  -- the arguments go inside
  arguments-inside : AllByRecursion IsInside (initial g args).sent
  arguments-inside = all-flat IsInside (argument_message g) (zip (below (length args)) args) (each (zip (below (length args)) args))
    where
      one : (u : ℕ) (xs : List ℕ) → AllByRecursion IsInside (map (λ x. Carry 0 x u) xs)
      one u [] = tt
      one u (x ∷ xs) = (word-inside 0 x u refl, one u xs)

      each : (es : List (ℕ × ℕ)) → AllByRecursion (λ e. AllByRecursion IsInside (argument_message g e)) es
      each [] = tt
      each (e ∷ es) = (one e.1 (node_where (code_of g g.main) (is_param e.0)), each es)

  -- nothing is printed yet
  pub out-initial : IsOutState g args all (initial g args)
  out-initial = record {
    apart = inside-apart (initial g args).sent arguments-inside;
    causes = all-more IsInside (IsOutCaused g args all (initial g args)) (λ m h k u e. absurd (h k u e)) (initial g args).sent arguments-inside;
    printed = λ n k u e. absurd (none-some e);
    once = λ m n k u v e d. absurd (none-some e);
  }

-- ---- events

module _ (g : Graph) (args : List ℕ) (accepted : IsAccepted g) (all : Partitions) (valid : are_valid g all ≡ true) (s : State)
    (state : IsLegalState g args accepted all valid s) (done : IsOutState g args all s) where
  -- what went outside goes on to be caused
  caused-later : (v : State) → Grows s.world v.world → ((i b c : ℕ) → has_run s i b c ≡ true → has_run v i b c ≡ true)
      → AllByRecursion (IsOutCaused g args all v) s.sent
  caused-later v grows more =
      all-more (IsOutCaused g args all s) (IsOutCaused g args all v)
      (λ m h k u e. let r = h k u e in
      (r.0, fired-later state.once v grows more 0 r.0 r.1, gives-later g args s.world v.world grows state.once.some r.0 k u r.2)) s.sent done.causes

  -- the root alone has its path
  one-root : (i : ℕ) → IsThere s.world i → path_of s.world i ≡ [] → i ≡ 0
  one-root i t e = state.once.paths_differ i 0 t state.once.some (e ∙ sym (root-path g args all s state.sound state.once))

  module _ (i b c : ℕ) (run : IsRunnable g all s i b c) where
    -- what a run does to the words that go outside
    out-run : IsOutState g args all (after_event g all s (Run i b c))
    out-run = record {
      apart = pairs-append OutApart s.sent new.sends done.apart ran.apart
          (all-more (IsOutCaused g args all s) (λ m. AllByRecursion (OutApart m) new.sends)
          (λ m h. all-more (IsOutIn g args block new.world i places) (OutApart m) (λ n f k u w c d. meet k u w (h k u c) (f k w d)) new.sends ran.by)
          s.sent done.causes);
      causes = all-append (IsOutCaused g args all v) s.sent new.sends
          (caused-later v effect.grows (run-more g args accepted all valid s state.sound state.once i b c run))
          (all-more (IsOutIn g args block new.world i places) (IsOutCaused g args all v) (λ n f k u c. now k u (f k u c)) new.sends ran.by);
      printed = λ n k u e. let r = done.printed n k u e in (r.0, get-left s.sent new.sends r.0 (some-below s.sent r.0 r.1) ∙ r.1, r.2);
      once = done.once;
    }
      where
        v : State
        v = after_event g all s (Run i b c)

        block : BlockGraph
        block = block_of_act g s i b

        new : Effect
        new = class_fired g all s i b c

        places : List ℕ
        places = run_done g all s i b c

        effect : IsSoundEffect g args s.world (class_fired g all s i b c)
        effect = run-effect g args accepted all s i b c valid state.sound run

        ran : IsOutRun g args (block_of_act g s i b) i (run_done g all s i b c) (class_fired g all s i b c)
        ran = run-kept g args accepted all valid s state.sound state.once i b c run (IsOutRun g args (block_of_act g s i b) i)
            (out-kept g args accepted s.world state.few i run.there (one-root i run.there) (block_of_act g s i b) (fires-once (its_code g s.world i) b))
            (record { apart = tt; by = tt })

        now : (k u : ℕ) → (i ≡ 0) × ((y : ℕ) × In y (run_done g all s i b c) × (y < length (block_of_act g s i b).vertices)
            × ((vertex_at (block_of_act g s i b) y).inlet ≡ false)
            × GivesOut g args (class_fired g all s i b c).world (vertex_at (block_of_act g s i b) y).node k u)
            → (y : ℕ) × HasFired g all (after_event g all s (Run i b c)) 0 y × GivesOut g args (class_fired g all s i b c).world y k u
        now k u h = (
          (vertex_at (block_of_act g s i b) h.1.0).node,
          subst (λ n. HasFired g all (after_event g all s (Run i b c)) n (vertex_at (block_of_act g s i b) h.1.0).node) h.0
              (fires-now g args accepted all valid s state.sound state.once i b c run h.1.0 h.1.1 h.1.2 h.1.3),
          h.1.4,
        )

        meet : (k u w : ℕ) → (y : ℕ) × HasFired g all s 0 y × GivesOut g args s.world y k u
            → (i ≡ 0) × ((y : ℕ) × In y (run_done g all s i b c) × (y < length (block_of_act g s i b).vertices)
            × ((vertex_at (block_of_act g s i b) y).inlet ≡ false)
            × GivesOut g args (class_fired g all s i b c).world (vertex_at (block_of_act g s i b) y).node k w) → ⊥
        meet k u w p q =
            let same = one-give g args accepted (class_fired g all s i b c).world (effect.world.codes 0 (effect.grows.there 0 state.once.some)) p.0
            (vertex_at (block_of_act g s i b) q.1.0).node k u w
            (gives-later g args s.world (class_fired g all s i b c).world effect.grows state.once.some p.0 k u p.2) q.1.4 in
            fires-first g args accepted all valid s state.sound state.once i b c run q.1.0 q.1.1 q.1.2 q.1.3
            (subst (λ n. HasFired g all s n (vertex_at (block_of_act g s i b) q.1.0).node) (sym q.0) (subst (λ n. HasFired g all s 0 n) same p.1))

  module _ (m : ℕ) (x : Message) (is_sent : slice_get s.sent m ≡ Some x) (new : has s.arrived m ≡ false) where
    -- the reason of the message
    reason : IsMessage g args s.world x
    reason = all-at_place (IsMessage g args s.world) s.sent m x state.sound.sent is_sent

    -- a word for an activation that is there goes inside
    there-inside : (f y u : ℕ) → IsThere s.world f → IsInside (Carry f y u)
    there-inside f y u t = word-inside f y u (not-outside g args f (length s.world.activations) t state.few)

    -- where the delivery changes the world and sends words inside
    out-went : (e : Effect) → Grows s.world e.world → AllByRecursion IsInside e.sends → IsOutState g args all (after_delivery s m (Went e))
    out-went e grows inside = record {
      apart = pairs-append OutApart s.sent e.sends done.apart (inside-apart e.sends inside) (inside-across s.sent e.sends inside);
      causes = all-append (IsOutCaused g args all v) s.sent e.sends (caused-later v grows (λ i b c h. h))
          (all-more IsInside (IsOutCaused g args all v) (λ n h k u d. absurd (h k u d)) e.sends inside);
      printed = λ n k u d. let r = done.printed n k u d in
          (r.0, get-left s.sent e.sends r.0 (some-below s.sent r.0 r.1) ∙ r.1, arrived-more m s.arrived r.0 r.2);
      once = done.once;
    }
      where
        v : State
        v = after_delivery s m (Went e)

    -- where it is a fault
    out-faulted : (f : Fault) → IsOutState g args all (after_delivery s m (Faulted f))
    out-faulted f = record {
      apart = done.apart;
      causes = caused-later (after_delivery s m (Faulted f)) (grows-same s.world) (λ i b c h. h);
      printed = λ n k u d. let r = done.printed n k u d in (r.0, r.1, arrived-more m s.arrived r.0 r.2);
      once = done.once;
    }

    -- where it is printed
    out-printed : (k u : ℕ) → x ≡ Carry outside k u → IsOutState g args all (after_delivery s m (Printed k u))
    out-printed k u this = record {
      apart = done.apart;
      causes = caused-later (after_delivery s m (Printed k u)) (grows-same s.world) (λ i b c h. h);
      printed = λ n j v d. ⊎_elim (λ e. let r = done.printed n j v e in (r.0, r.1, arrived-more m s.arrived r.0 r.2))
          (λ e. let p = pair-eq e.1 in subst (λ z. HasArrived after (Carry outside z v)) p.0 (subst (λ z. HasArrived after (Carry outside k z)) p.1 here))
          (push-cases {X = ℕ × ℕ} s.printed (k, u) (j, v) n d);
      once = λ a b j v w d e. ⊎_elim
          (λ p. ⊎_elim (λ q. done.once a b j v w p q) (λ q. absurd (fresh a v (subst (λ z. slice_get s.printed a ≡ Some (z, v)) (sym (pair-eq q.1).0) p)))
          (push-cases {X = ℕ × ℕ} s.printed (k, u) (j, w) b e))
          (λ p. ⊎_elim (λ q. absurd (fresh b w (subst (λ z. slice_get s.printed b ≡ Some (z, w)) (sym (pair-eq p.1).0) q))) (λ q. p.0 ∙ sym q.0)
          (push-cases {X = ℕ × ℕ} s.printed (k, u) (j, w) b e)) (push-cases {X = ℕ × ℕ} s.printed (k, u) (j, v) a d);
    }
      where
        after : State
        after = after_delivery s m (Printed k u)

        here : HasArrived (after_delivery s m (Printed k u)) (Carry outside k u)
        here = (m, subst (λ z. slice_get s.sent m ≡ Some z) this is_sent, arrived-now m s.arrived)

        fresh : (n v : ℕ) → slice_get s.printed n ≡ Some (k, v) → ⊥
        fresh n v e =
            let r = done.printed n k v e in
            ⊎_elim (λ same. true≢false (sym (subst (λ z. has s.arrived z ≡ true) same r.2) ∙ new))
            (λ h. ⊎_elim (λ f. f k v u refl this) (λ f. f k u v this refl) h)
            (pairs-at OutApart s.sent r.0 m (Carry outside k v) x done.apart r.1 is_sent)

  -- a delivery
  out-delivered : (m : ℕ) (x : Message) → slice_get s.sent m ≡ Some x → has s.arrived m ≡ false
      → IsOutState g args all (after_delivery s m (delivered s.world x))
  out-delivered m (Carry f y u) is_sent new = go (f == outside) refl
    where
      go : (t : Bool) → (f == outside) ≡ t → IsOutState g args all (after_delivery s m (delivered s.world (Carry f y u)))
      go true p = rw (delivered, p) (out-printed m (Carry f y u) is_sent new y u (ap (λ z. Carry z y u) (number-eq f outside p)))
      go false p = rw (delivered, p) (out-went m (Carry f y u) is_sent new (changes (got s.world f y u)) (grows-got s.world f y u) tt)
  out-delivered m (Begin c f y) is_sent new =
      out-went m (Begin c f y) is_sent new (sends_only (with_begun s.world c f y) (Carry f y (length s.world.activations) ∷ [])) (grows-begun s.world c f y)
      (there-inside m (Begin c f y) is_sent new f y (length s.world.activations) (reason m (Begin c f y) is_sent new).1.0, tt)
  out-delivered m (Make n f y) is_sent new =
      out-went m (Make n f y) is_sent new (sends_only w (Carry f y (length s.world.arrays) ∷ [])) (grows-made s.world w (f, y) refl refl)
      (there-inside m (Make n f y) is_sent new f y (length s.world.arrays) (reason m (Make n f y) is_sent new).3.0, tt)
    where
      w : World
      w = record s.world { arrays = with_array s.world.arrays n; makers = s.world.makers ++ (f, y) ∷ [] }
  out-delivered m (Ask_cell a j f y t) is_sent new = go (fetch-cases s.world a j f y t)
    where
      went : (e : Effect) → Grows s.world e.world → AllByRecursion IsInside e.sends → IsOutState g args all (after_delivery s m (Went e))
      went = out-went m (Ask_cell a j f y t) is_sent new

      go : FetchCases s.world a j f y (delivered s.world (Ask_cell a j f y t)) → IsOutState g args all
          (after_delivery s m (delivered s.world (Ask_cell a j f y t)))
      go (inl h) = subst (λ d. IsOutState g args all (after_delivery s m d)) (sym h.1) (out-faulted m (Ask_cell a j f y t) is_sent new h.0)
      go (inr (inl h)) = subst (λ d. IsOutState g args all (after_delivery s m d)) (sym h.3)
          (went (sends_only s.world (Carry f y h.0 ∷ [])) (grows-same s.world)
          (there-inside m (Ask_cell a j f y t) is_sent new f y h.0 (reason m (Ask_cell a j f y t) is_sent new).0.number.0, tt))
      go (inr (inr h)) = subst (λ d. IsOutState g args all (after_delivery s m d)) (sym h.2)
          (went (changes (with_new_cell s.world a j (Empty (h.0 ++ (f, y) ∷ []))))
          (grows-arrays s.world (with_new_cell s.world a j (Empty (h.0 ++ (f, y) ∷ []))) refl refl) tt)
  out-delivered m (Put_cell a j v t) is_sent new = go (store-cases s.world a j v t)
    where
      go : StoreCases s.world a j v t (delivered s.world (Put_cell a j v t)) → IsOutState g args all
          (after_delivery s m (delivered s.world (Put_cell a j v t)))
      go (inl h) = subst (λ d. IsOutState g args all (after_delivery s m d)) (sym h.1) (out-faulted m (Put_cell a j v t) is_sent new h.0)
      go (inr h) = subst (λ d. IsOutState g args all (after_delivery s m d)) (sym h.2)
          (out-went m (Put_cell a j v t) is_sent new (sends_only (with_new_cell s.world a j (Filled v t)) (answers v h.0))
          (grows-arrays s.world (with_new_cell s.world a j (Filled v t)) refl refl)
          (all-map IsInside (λ (r : Reader). Carry r.0 r.1 v) h.0
          (all-more (λ (r : Reader). IsAsked g args s.world a j r.0 r.1) (λ (r : Reader). IsInside (Carry r.0 r.1 v))
          (λ r k. there-inside m (Put_cell a j v t) is_sent new r.0 r.1 v k.number.0) h.0 (state.sound.world.cells a j (Empty h.0) h.1))))

-- the state behind a journal
pub out-journal : (g : Graph) (all : Partitions) (args : List ℕ) (events : List Event) → IsJournal g all args events
    → IsOutState g args all (state_after g all args events)
out-journal g all args events journal =
    journal-keeps g all args events journal (IsOutState g args all) (out-initial g args all) (record {
      runs = λ s state whole done i b c run. out-run g args journal.accepted all journal.valid s state done i b c run;
      arrives = λ s state whole done m x is_sent new. out-delivered g args journal.accepted all journal.valid s state done m x is_sent new;
    })
