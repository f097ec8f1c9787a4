-- A wish for an array that arrived has made one, of its length, and was answered; no two arrays were made by one alloc.
use Rattle.std.proofs.Common.{◌≡◌, ℕ, ◌<◌, true, false, ◌==◌, Bool, List, [], ◌∷◌, ◌++◌, replicate, Some, length, slice_get, slice_set, unwrap_or}
use Rattle.std.proofs.Common.{refl, sym, ap, ◌∙◌}
use Rattle.std.proofs.Common.{arith, subst, inl, inr, ◌⊎◌, ⊎_elim, true≢false}
use Rattle.std.proofs.lemmas.List.{length-append, length-replicate, length-set}
use Rattle.tam_word.specs.Lists.{has}
use Rattle.tam_word.proofs.Each.{get-left, get-last, last-or_before}
use Rattle.tam_graph.specs.declared.kind.Kind.{Kind}
use Rattle.tam_graph.specs.declared.kind.Kind.TheVariants.{Const, Op as Operate, Seq, Call, Arg, Give, Alloc, Fetch, Store, Cond, Switch, Leave}
use Rattle.tam_graph.specs.Graphs.{Graph, kind_at, block_at, operands_of, chosen_branch, owner_of, node_in, is_enter}
use Rattle.tam_graph.specs.Accepted.{IsAccepted}
use Rattle.tam_split.specs.Blocks.{BlockGraph, vertex_at}
use Rattle.tam_split.specs.GraphPartitions.{Partitions, are_valid}
use Rattle.tam_msgs.specs.declared.message.Message.{Message}
use Rattle.tam_msgs.specs.declared.message.Message.TheVariants.{Word as Carry, Frame as Begin, Cells as Make, Fetch as Ask_cell, Store as Put_cell}
use Rattle.tam_msgs.specs.Messages.{outside, answers}
use Rattle.tam_istr.specs.Cells.{Cell, Empty, Filled, with_array}
use Rattle.tam_world.specs.Worlds.{World, Delivery, Went, Printed, Faulted, changes, sends_only, its_code, words_of, got, all_got, merges_of}
use Rattle.tam_world.specs.Worlds.{firing_of, fired_with, fired, delivered}
use Rattle.tam_flow.specs.Journals.{State, Event, Run, after_delivery, after_event, block_of_act, state_after}
use Rattle.tam_flow.specs.JournalLaws.{IsJournal}
use Rattle.tam_flow.specs.Told.{or_maker}
use Rattle.tam_flow.specs.Reached.{IsThere, maker_of, cells_at, WasSent, HasArrived}
use Rattle.tam_flow.proofs.Growing.{Grows, grows-made}
use Rattle.tam_flow.proofs.Changes.{set-cases}
use Rattle.tam_flow.proofs.DeliveryChanges.{arrays-run}
use Rattle.tam_flow.proofs.SentOnce.{arrived-now}
use Rattle.tam_flow.proofs.Suiting.{one-make}
use Rattle.tam_flow.proofs.SoundStates.{IsRunnable}
use Rattle.tam_flow.proofs.RunSteps.{KeptByFirings, run-kept}
use Rattle.tam_flow.proofs.Accesses.{with_new_cell, FetchCases, StoreCases, fetch-cases, store-cases}
use Rattle.tam_flow.proofs.WordSteps.{Continues, NoneNew, ThisNew, continues-run, continues-delivery, IsWordedState, events-keep}

-- ---- a run makes no array

-- words make no array
makers-all_got : (w : World) (i : ℕ) (xs : List ℕ) (v : ℕ) → (all_got w i xs v).makers ≡ w.makers
makers-all_got w i [] v = refl
makers-all_got w i (x ∷ xs) v = makers-all_got (got w i x v) i xs v

-- nor does a firing, by what the node does
makers-firing : (g : Graph) (w : World) (i x : ℕ) (k : Kind) (vs : List ℕ) → (firing_of g w i x k vs).world.makers ≡ w.makers
makers-firing g w i x (Const v) [] = refl
makers-firing g w i x (Operate o l r) (u ∷ v ∷ []) = refl
makers-firing g w i x (Seq l r) (u ∷ v ∷ []) = refl
makers-firing g w i x (Call c) [] = refl
makers-firing g w i x (Arg f k a) (v ∷ p ∷ []) = refl
makers-firing g w i x (Give k a) (v ∷ []) = refl
makers-firing g w i x (Alloc a) (n ∷ []) = refl
makers-firing g w i x (Fetch a j) (u ∷ v ∷ []) = refl
makers-firing g w i x (Store a j b) (t ∷ u ∷ v ∷ []) = refl
makers-firing g w i x (Cond p y n) (v ∷ []) = refl
makers-firing g w i x (Switch d k a) (u ∷ v ∷ []) = makers-all_got w i (node_in (its_code g w i) (chosen_branch (its_code g w i) d u) (is_enter k)) v
makers-firing g w i x (Leave k a) (v ∷ []) = makers-all_got w i (merges_of (its_code g w i) k (owner_of (its_code g w i) (block_at (its_code g w i) x))) v
makers-firing g w i x k vs = refl

-- whatever the node does
makers-fired : (g : Graph) (w : World) (i x : ℕ) → (fired g w i x).world.makers ≡ w.makers
makers-fired g w i x = go (words_of w i (operands_of (its_code g w i) (kind_at (its_code g w i) x)))
  where
    go : (ws : List (List ℕ)) → (fired_with g w i x ws).world.makers ≡ w.makers
    go [] = refl
    go (vs ∷ more) = makers-firing g w i x (kind_at (its_code g w i) x) vs

-- so each firing of a run keeps the makers
makers-kept : (g : Graph) (args : List ℕ) (accepted : IsAccepted g) (w : World) (i : ℕ) (there : IsThere w i) (b : BlockGraph)
    → KeptByFirings g args accepted w i there b (λ done e. e.world.makers ≡ w.makers)
makers-kept g args accepted w i there b = record {
  skips = λ done e y h d. h;
  fires = λ done e y effect same h firer l none new. makers-fired g e.world i (vertex_at b y).node ∙ h;
}

-- ---- the arrays that were made

-- an array was made for a wish, and the wish was answered
abbrev pub IsMadeFor : State → ℕ → ℕ → ℕ → Type 0
IsMadeFor s k f x = (a : ℕ) × (a < length s.world.makers) × (maker_of s.world a ≡ (f, x)) × (length (cells_at s.world a) ≡ k) × WasSent s (Carry f x a)

-- wishes that arrived and arrays
pub record IsMakerState (s : State) : Type 0 where
  pub made : (n k f x : ℕ) → slice_get s.sent n ≡ Some (Make k f x) → has s.arrived n ≡ true → IsMadeFor s k f x
  pub makers : (a : ℕ) → a < length s.world.makers
      → (n k : ℕ) × (slice_get s.sent n ≡ Some (Make k (maker_of s.world a).0 (maker_of s.world a).1)) × (has s.arrived n ≡ true)
  pub differ : (a b : ℕ) → a < length s.world.makers → b < length s.world.makers → maker_of s.world a ≡ maker_of s.world b → a ≡ b

-- a cell that changes changes no length
pub cell-length : (w : World) (a j : ℕ) (c : Cell) (b : ℕ) → length (cells_at (with_new_cell w a j c) b) ≡ length (cells_at w b)
cell-length w a j c b =
    ⊎_elim (λ e. ap (λ o. length (unwrap_or o [])) e)
    (λ e. ap (λ o. length (unwrap_or o [])) e.1 ∙ length-set (cells_at w a) j c ∙ ap (λ k. length (cells_at w k)) e.0)
    (set-cases w.arrays a b (slice_set (cells_at w a) j c))

-- where no array is made
makers-same : (s v : State) (New : ℕ → Message → Type 0) → Continues s v New → ((n k f x : ℕ) → New n (Make k f x) → ⊥) → v.world.makers ≡ s.world.makers
    → ((a : ℕ) → length (cells_at v.world a) ≡ length (cells_at s.world a)) → IsMakerState s → IsMakerState v
makers-same s v New on none same as_long h = record {
  made = λ n k f x e q. ⊎_elim (λ r. later k f x (h.made n k f x r.0 r.1)) (λ r. absurd (none n k f x r)) (on.back n (Make k f x) e q);
  makers = λ a l.
      let r = h.makers a (subst (λ ms. a < length ms) same l) in (
        r.0,
        r.1,
        subst (λ ms. slice_get v.sent r.0 ≡ Some (Make r.1 (or_maker (slice_get ms a)).0 (or_maker (slice_get ms a)).1)) (sym same)
            (on.sent r.0 (Make r.1 (maker_of s.world a).0 (maker_of s.world a).1) r.2),
        on.arrived r.0 r.3,
      );
  differ = λ a b l m e. h.differ a b (subst (λ ms. a < length ms) same l) (subst (λ ms. b < length ms) same m)
      (subst (λ ms. or_maker (slice_get ms a) ≡ or_maker (slice_get ms b)) same e);
}
  where
    later : (k f x : ℕ) → IsMadeFor s k f x → IsMadeFor v k f x
    later k f x r = (
      r.0,
      subst (λ ms. r.0 < length ms) (sym same) r.1,
      subst (λ ms. or_maker (slice_get ms r.0) ≡ (f, x)) (sym same) r.2,
      as_long r.0 ∙ r.3,
      (r.4.0, on.sent r.4.0 (Carry f x r.0) r.4.1),
    )

-- a wish is one of its length, its activation and its node
make-eq : {n f x k e y : ℕ} → Make n f x ≡ Make k e y → (n ≡ k) × (f ≡ e) × (x ≡ y)
make-eq q = (cc, cc, cc)

-- a word makes no array
carry-make : {f x u k e y : ℕ} → Carry f x u ≡ Make k e y → ⊥
carry-make q = cc

-- nor does a wish for an activation
begin-make : {c f x k e y : ℕ} → Begin c f x ≡ Make k e y → ⊥
begin-make q = cc

-- nor a fetch
ask-make : {a j f x t k e y : ℕ} → Ask_cell a j f x t ≡ Make k e y → ⊥
ask-make q = cc

-- nor a store
put-make : {a j u t k e y : ℕ} → Put_cell a j u t ≡ Make k e y → ⊥
put-make q = cc

module _ (g : Graph) (args : List ℕ) (accepted : IsAccepted g) (all : Partitions) (valid : are_valid g all ≡ true) (s : State)
    (worded : IsWordedState g args accepted all valid s) (h : IsMakerState s) where
  module _ (m : ℕ) (n f x : ℕ) (is_sent : slice_get s.sent m ≡ Some (Make n f x)) (new : has s.arrived m ≡ false) where
    -- the world with the new array
    abbrev with_one : World
    with_one = record s.world { arrays = with_array s.world.arrays n; makers = s.world.makers ++ (f, x) ∷ [] }

    -- the state with it
    abbrev after_make : State
    after_make = after_delivery s m (Went (sends_only with_one (Carry f x (length s.world.arrays) ∷ [])))

    -- what a wish for an array does
    makers-make : IsMakerState after_make
    makers-make = record {
      made = λ k l e y q r. ⊎_elim (λ p. old l e y (h.made k l e y p.0 p.1)) (λ p. now l e y (make-eq p.1)) (on.back k (Make l e y) q r);
      makers = λ a l. ⊎_elim (of_old a) (of_new a) (before a l);
      differ = λ a b l k e. ⊎_elim
          (λ p. ⊎_elim (λ q. h.differ a b p q (sym (grows.maker a p) ∙ e ∙ grows.maker b q))
          (λ q. absurd (fresh a p (sym (grows.maker a p) ∙ e ∙ of_last b q))) (before b k))
          (λ p. ⊎_elim (λ q. absurd (fresh b q (sym (grows.maker b q) ∙ sym e ∙ of_last a p))) (λ q. p ∙ sym q) (before b k)) (before a l);
    }
      where
        on : Continues s after_make (ThisNew m (Make n f x))
        on = continues-delivery s worded.words.before m (Make n f x) is_sent (Went (sends_only with_one (Carry f x (length s.world.arrays) ∷ [])))

        grows : Grows s.world with_one
        grows = grows-made s.world with_one (f, x) refl refl

        before : (a : ℕ) → a < length (s.world.makers ++ (f, x) ∷ []) → (a < length s.world.makers) ⊎ (a ≡ length s.world.makers)
        before a l = last-or_before a (length s.world.makers) (omega (arith, length-append s.world.makers ((f, x) ∷ []), l))

        of_last : (a : ℕ) → a ≡ length s.world.makers → maker_of with_one a ≡ (f, x)
        of_last a e = subst (λ k. maker_of with_one k ≡ (f, x)) (sym e) (ap or_maker (get-last s.world.makers (f, x)))

        as_many : length s.world.arrays ≡ length s.world.makers
        as_many = worded.state.sound.world.as_many

        cells-old : (a : ℕ) → a < length s.world.makers → cells_at with_one a ≡ cells_at s.world a
        cells-old a l = ap (λ o. unwrap_or o []) (get-left s.world.arrays (replicate n (Empty []) ∷ []) a (omega (arith, as_many, l)))

        old : (l e y : ℕ) → IsMadeFor s l e y → IsMadeFor after_make l e y
        old l e y r = (
          r.0,
          grows.numbers r.0 r.1,
          grows.maker r.0 r.1 ∙ r.2,
          ap length (cells-old r.0 r.1) ∙ r.3,
          (r.4.0, on.sent r.4.0 (Carry e y r.0) r.4.1),
        )

        here : IsMadeFor after_make n f x
        here = (
          length s.world.makers,
          omega (arith, length-append s.world.makers ((f, x) ∷ [])),
          of_last (length s.world.makers) refl,
          ap (λ k. length (cells_at with_one k)) (sym as_many)
              ∙ ap (λ o. length (unwrap_or o [])) (get-last s.world.arrays (replicate n (Empty []))) ∙ length-replicate n (Empty []),
          (
            length s.sent,
            subst (λ k. slice_get (s.sent ++ Carry f x (length s.world.arrays) ∷ []) (length s.sent) ≡ Some (Carry f x k)) as_many
                (get-last s.sent (Carry f x (length s.world.arrays))),
          ),
        )

        now : (l e y : ℕ) → (n ≡ l) × (f ≡ e) × (x ≡ y) → IsMadeFor after_make l e y
        now l e y p = subst (λ k. IsMadeFor after_make k e y) p.0 (subst (λ k. IsMadeFor after_make n k y) p.1
            (subst (λ k. IsMadeFor after_make n f k) p.2 here))

        of_old : (a : ℕ) → a < length s.world.makers
            → (k l : ℕ) × (slice_get after_make.sent k ≡ Some (Make l (maker_of with_one a).0 (maker_of with_one a).1)) × (has after_make.arrived k ≡ true)
        of_old a p =
            let r = h.makers a p in (
              r.0,
              r.1,
              subst (λ o. slice_get after_make.sent r.0 ≡ Some (Make r.1 o.0 o.1)) (sym (grows.maker a p))
                  (on.sent r.0 (Make r.1 (maker_of s.world a).0 (maker_of s.world a).1) r.2),
              on.arrived r.0 r.3,
            )

        of_new : (a : ℕ) → a ≡ length s.world.makers
            → (k l : ℕ) × (slice_get after_make.sent k ≡ Some (Make l (maker_of with_one a).0 (maker_of with_one a).1)) × (has after_make.arrived k ≡ true)
        of_new a e = (
          m,
          n,
          subst (λ o. slice_get after_make.sent m ≡ Some (Make n o.0 o.1)) (sym (of_last a e)) (on.sent m (Make n f x) is_sent),
          arrived-now m
              s.arrived,
        )

        fresh : (a : ℕ) → a < length s.world.makers → maker_of s.world a ≡ (f, x) → ⊥
        fresh a l e =
            let r = h.makers a l in
            let same = one-make g args accepted all s worded.state.sound worded.state.once valid r.0 m r.1 n f x
            (subst (λ o. slice_get s.sent r.0 ≡ Some (Make r.1 o.0 o.1)) e r.2) is_sent in
            true≢false (sym (subst (λ k. has s.arrived k ≡ true) same r.3) ∙ new)

  -- a run makes none
  makers-run : (i b c : ℕ) → IsRunnable g all s i b c → IsMakerState (after_event g all s (Run i b c))
  makers-run i b c run =
      makers-same s (after_event g all s (Run i b c)) NoneNew (continues-run g all s worded.words.before i b c) (λ n k f x r. r)
      (run-kept g args accepted all valid s worded.state.sound worded.state.once i b c run (λ done e. e.world.makers ≡ s.world.makers)
      (makers-kept g args accepted s.world i run.there (block_of_act g s i b)) refl)
      (λ a. ap (λ rows. length (unwrap_or (slice_get rows a) [])) (arrays-run g all s i b c)) h

  -- what a delivery does
  makers-delivered : (m : ℕ) (x : Message) → slice_get s.sent m ≡ Some x → has s.arrived m ≡ false → IsMakerState (after_delivery s m (delivered s.world x))
  makers-delivered m (Carry f y u) is_sent new = go (f == outside) refl (continues-delivery s worded.words.before m (Carry f y u) is_sent)
    where
      go : (t : Bool) → (f == outside) ≡ t → ((d : Delivery) → Continues s (after_delivery s m d) (ThisNew m (Carry f y u)))
          → IsMakerState (after_delivery s m (delivered s.world (Carry f y u)))
      go true p on = rw (delivered, p) (makers-same s (after_delivery s m (Printed y u)) (ThisNew m (Carry f y u)) (on (Printed y u))
          (λ n k e z r. carry-make r.1) refl (λ a. refl) h)
      go false p on = rw (delivered, p) (makers-same s (after_delivery s m (Went (changes (got s.world f y u)))) (ThisNew m (Carry f y u))
          (on (Went (changes (got s.world f y u))))
          (λ n k e z r. carry-make r.1) refl (λ a. refl) h)
  makers-delivered m (Begin c f y) is_sent new =
      makers-same s (after_delivery s m (delivered s.world (Begin c f y))) (ThisNew m (Begin c f y))
      (continues-delivery s worded.words.before m (Begin c f y) is_sent (delivered s.world (Begin c f y))) (λ n k e z r. begin-make r.1) refl (λ a. refl) h
  makers-delivered m (Make n f y) is_sent new = makers-make m n f y is_sent new
  makers-delivered m (Ask_cell a j f y t) is_sent new = go (fetch-cases s.world a j f y t)
    where
      same : (d : Delivery) → (after_delivery s m d).world.makers ≡ s.world.makers
          → ((b : ℕ) → length (cells_at (after_delivery s m d).world b) ≡ length (cells_at s.world b)) → IsMakerState (after_delivery s m d)
      same d k l = makers-same s (after_delivery s m d) (ThisNew m (Ask_cell a j f y t))
          (continues-delivery s worded.words.before m (Ask_cell a j f y t) is_sent d)
          (λ n k e z r. ask-make r.1) k l h

      go : FetchCases s.world a j f y (delivered s.world (Ask_cell a j f y t)) → IsMakerState (after_delivery s m (delivered s.world (Ask_cell a j f y t)))
      go (inl k) = subst (λ d. IsMakerState (after_delivery s m d)) (sym k.1) (same (Faulted k.0) refl (λ b. refl))
      go (inr (inl k)) = subst (λ d. IsMakerState (after_delivery s m d)) (sym k.3) (same (Went (sends_only s.world (Carry f y k.0 ∷ []))) refl (λ b. refl))
      go (inr (inr k)) = subst (λ d. IsMakerState (after_delivery s m d)) (sym k.2)
          (same (Went (changes (with_new_cell s.world a j (Empty (k.0 ++ (f, y) ∷ []))))) refl (cell-length s.world a j (Empty (k.0 ++ (f, y) ∷ []))))
  makers-delivered m (Put_cell a j v t) is_sent new = go (store-cases s.world a j v t)
    where
      same : (d : Delivery) → (after_delivery s m d).world.makers ≡ s.world.makers
          → ((b : ℕ) → length (cells_at (after_delivery s m d).world b) ≡ length (cells_at s.world b)) → IsMakerState (after_delivery s m d)
      same d k l = makers-same s (after_delivery s m d) (ThisNew m (Put_cell a j v t)) (continues-delivery s worded.words.before m (Put_cell a j v t) is_sent d)
          (λ n k e z r. put-make r.1) k l h

      go : StoreCases s.world a j v t (delivered s.world (Put_cell a j v t)) → IsMakerState (after_delivery s m (delivered s.world (Put_cell a j v t)))
      go (inl k) = subst (λ d. IsMakerState (after_delivery s m d)) (sym k.1) (same (Faulted k.0) refl (λ b. refl))
      go (inr k) = subst (λ d. IsMakerState (after_delivery s m d)) (sym k.2)
          (same (Went (sends_only (with_new_cell s.world a j (Filled v t)) (answers v k.0))) refl (cell-length s.world a j (Filled v t)))

-- the state behind a journal
pub makers-journal : (g : Graph) (all : Partitions) (args : List ℕ) (events : List Event) → IsJournal g all args events
    → IsMakerState (state_after g all args events)
makers-journal g all args events journal =
    events-keep g all args events journal IsMakerState (record {
      made = λ n k f x e h. absurd (true≢false (sym h));
      makers = λ a l. absurd (omega (arith, l));
      differ = λ a b l k e. absurd (omega (arith, l));
    }) (record {
      runs = λ s state whole h i b c run. makers-run g args journal.accepted all journal.valid s state h i b c run;
      arrives = λ s state whole h m x is_sent new. makers-delivered g args journal.accepted all journal.valid s state h m x is_sent new;
    })

-- a wish for an array that arrived has made it, of its length, and was answered
pub made-each : (g : Graph) (all : Partitions) (args : List ℕ) (events : List Event) → IsJournal g all args events → (n f x : ℕ)
    → HasArrived (state_after g all args events) (Make n f x) → IsMadeFor (state_after g all args events) n f x
made-each g all args events journal n f x h = (makers-journal g all args events journal).made h.0 n f x h.1 h.2
