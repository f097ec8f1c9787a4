-- The charge of events: firings, words that arrived, and messages of firings that arrived, of which there are no more than firings.
use Rattle.std.proofs.Common.{◌≡◌, ℕ, zero, suc, ◌+◌, ◌*◌, ◌<◌, ◌≤◌, Bool, true, false, List, [], ◌∷◌, ◌++◌, refl, sym, subst, ap, inl, inr, ◌∙◌}
use Rattle.std.proofs.Common.{◌==◌, ◌&&◌, length, map, slice_get, Some, None, arith}
use Rattle.tam_word.specs.Lists.{any_of, first_of, without_place}
use Rattle.tam_word.proofs.Tests.{number-eq}
use Rattle.tam_word.proofs.Members.{In, Distinct}
use Rattle.tam_graph.specs.declared.kind.Kind.{Kind}
use Rattle.tam_graph.specs.declared.kind.Kind.TheVariants.{Const, Op as Operate, Seq, Call, Arg, Give, Alloc, Fetch, Store, Cond, Switch, Leave}
use Rattle.tam_graph.specs.Graphs.{Graph, code_of, kind_at, operands_of, callee_of, node_numbers, is_param, is_ret, is_inlet}
use Rattle.tam_split.proofs.Firers.{Firer, is_inner}
use Rattle.tam_msgs.specs.declared.message.Message.{Message}
use Rattle.tam_msgs.specs.declared.message.Message.TheVariants.{Word as Carry, Frame as Begin, Cells as Make, Fetch as Ask_cell, Store as Put_cell}
use Rattle.tam_msgs.specs.Messages.{outside}
use Rattle.tam_world.specs.Worlds.{World, activation_at, its_code, has_word, words_of, result_message, firing_of, fired_with, fired}
use Rattle.tam_flow.specs.Journals.{State, has_run, on_their_way}
use Rattle.tam_flow.specs.Reached.{IsThere}
use Rattle.tam_flow.proofs.Moves.{Moves, IsForInlet}
use Rattle.tam_eval.proofs.WorldSizes.{Few}
use Rattle.tam_eval.proofs.DeliverySends.{Answered}
use Rattle.std.proofs.lemmas.List.{length-map}

-- ---- messages that a firing pays for

-- any but a word for an activation
abbrev pub is_asking : Message → Bool
is_asking (Carry f x v) = f == outside
is_asking (Begin c f x) = true
is_asking (Make n f x) = true
is_asking (Ask_cell a j f x t) = true
is_asking (Put_cell a j v t) = true

-- how many of them
abbrev pub asks : List Message → ℕ
asks [] = 0
asks (m ∷ ms) = elim (is_asking m) [ true ↦ suc (asks ms) | false ↦ asks ms ]

-- of two lists
asks-append : (xs ys : List Message) → asks (xs ++ ys) ≡ asks xs + asks ys
asks-append [] ys = omega arith
asks-append (m ∷ xs) ys = go (is_asking m) refl (asks-append xs ys)
  where
    go : (t : Bool) → is_asking m ≡ t → asks (xs ++ ys) ≡ asks xs + asks ys → asks (m ∷ (xs ++ ys)) ≡ asks (m ∷ xs) + asks ys
    go true p e = rw (asks, p) (omega arith)
    go false p e = rw (asks, p) e

-- no more than messages
asks-length : (xs : List Message) → asks xs ≤ length xs
asks-length [] = omega arith
asks-length (m ∷ xs) = go (is_asking m) refl (asks-length xs)
  where
    go : (t : Bool) → is_asking m ≡ t → asks xs ≤ length xs → asks (m ∷ xs) ≤ suc (length xs)
    go true p e = rw (asks, p) (omega arith)
    go false p e = rw (asks, p) (omega arith)

-- without one that is paid for there is one less
asks-without : (k : ℕ) (xs : List Message) (m : Message) → slice_get xs k ≡ Some m → is_asking m ≡ true → asks (without_place k xs) + 1 ≡ asks xs
asks-without k [] m e h = absurd (none e)
  where
    none : {a : Message} → None ≡ Some a → ⊥
    none q = cc
asks-without zero (x ∷ xs) m e h = let p : is_asking x ≡ true = subst (λ z. is_asking z ≡ true) (sym (some e)) h in rw (asks, p) (omega arith)
  where
    some : {a b : Message} → Some a ≡ Some b → a ≡ b
    some q = cc
asks-without (suc k) (x ∷ xs) m e h = go (is_asking x) refl (asks-without k xs m e h)
  where
    go : (t : Bool) → is_asking x ≡ t → asks (without_place k xs) + 1 ≡ asks xs → asks (x ∷ without_place k xs) + 1 ≡ asks (x ∷ xs)
    go true p i = rw (asks, p) (omega arith)
    go false p i = rw (asks, p) i

-- without any there are no more
asks-fewer : (k : ℕ) (xs : List Message) → asks (without_place k xs) ≤ asks xs
asks-fewer k [] = omega arith
asks-fewer zero (x ∷ xs) = go (is_asking x) refl
  where
    go : (t : Bool) → is_asking x ≡ t → asks xs ≤ asks (x ∷ xs)
    go true p = rw (asks, p) (omega arith)
    go false p = rw (asks, p) (omega arith)
asks-fewer (suc k) (x ∷ xs) = go (is_asking x) refl (asks-fewer k xs)
  where
    go : (t : Bool) → is_asking x ≡ t → asks (without_place k xs) ≤ asks xs → asks (x ∷ without_place k xs) ≤ asks (x ∷ xs)
    go true p i = rw (asks, p) (omega arith)
    go false p i = rw (asks, p) i

-- answers are none
pub asks-none : (g : Graph) (w : World) → Few w → (xs : List Message) → ((m : Message) → In m xs → Answered g w m) → asks xs ≡ 0
asks-none g w few [] h = refl
asks-none g w few (m ∷ xs) h = rw (asks, one m (h m (inl refl))) (asks-none g w few xs (λ q i. h q (inr i)))
  where
    one : (q : Message) → Answered g w q → is_asking q ≡ false
    one (Carry f x v) a = go (f == outside) refl
      where
        go : (t : Bool) → (f == outside) ≡ t → (f == outside) ≡ false
        go true p = let l : f < length w.activations = a.0 in let k = few.activations in let e = number-eq f outside p in absurd (omega arith)
        go false p = p
    one (Begin c f x) a = absurd a
    one (Make n f x) a = absurd a
    one (Ask_cell b j f x t) a = absurd a
    one (Put_cell b j v t) a = absurd a

-- ---- a firing sends one message at most

-- the first that passes is one at most
first-one : {X : Type 0} (test : X → Bool) (xs : List X) → length (first_of test xs) ≤ 1
first-one test [] = omega arith
first-one test (x ∷ xs) = go (test x) refl (first-one test xs)
  where
    go : (t : Bool) → test x ≡ t → length (first_of test xs) ≤ 1 → length (first_of test (x ∷ xs)) ≤ 1
    go true p h = rw (first_of, p) (omega arith)
    go false p h = rw (first_of, p) h

-- one for each found
map-one : {X Y : Type 0} (f : X → Y) (test : X → Bool) (xs : List X) → length (map f (first_of test xs)) ≤ 1
map-one f test xs = let e = length-map (first_of test xs) f in let l = first-one test xs in omega arith

module _ (g : Graph) (w : World) (i x : ℕ) where
  -- a result
  result-one : (k v : ℕ) → length (result_message g w i k v) ≤ 1
  result-one k v = go ((activation_at w i).caller == outside) refl
    where
      go : (t : Bool) → ((activation_at w i).caller == outside) ≡ t → length (result_message g w i k v) ≤ 1
      go true p = rw (result_message, p) (omega arith)
      go false p = rw (result_message, p) (map-one (λ y. Carry (activation_at w i).caller y v)
          (λ z. is_ret (activation_at w i).call k (kind_at (its_code g w (activation_at w i).caller) z))
          (node_numbers (its_code g w (activation_at w i).caller)))

  -- by what the node does
  firing-one : (k : Kind) (vs : List ℕ) → length (firing_of g w i x k vs).sends ≤ 1
  firing-one (Call c) [] = omega arith
  firing-one (Arg f k a) (v ∷ p ∷ []) = map-one (λ y. Carry p y v) (λ z. is_param k (kind_at (code_of g (callee_of (its_code g w i) f)) z))
      (node_numbers (code_of g (callee_of (its_code g w i) f)))
  firing-one (Give k a) (v ∷ []) = result-one k v
  firing-one (Alloc a) (v ∷ []) = omega arith
  firing-one (Fetch a j) (u ∷ v ∷ []) = omega arith
  firing-one (Store a j b) (t ∷ u ∷ v ∷ []) = omega arith
  firing-one (Const v) [] = omega arith
  firing-one (Operate o a b) (u ∷ v ∷ []) = omega arith
  firing-one (Seq a b) (u ∷ v ∷ []) = omega arith
  firing-one (Cond p y z) (v ∷ []) = omega arith
  firing-one (Switch c k a) (u ∷ v ∷ []) = omega arith
  firing-one (Leave k a) (v ∷ []) = omega arith
  firing-one k vs = omega arith

  -- whatever the node is
  pub fired-one : length (fired g w i x).sends ≤ 1
  fired-one = go (words_of w i (operands_of (its_code g w i) (kind_at (its_code g w i) x)))
    where
      go : (l : List (List ℕ)) → length (fired_with g w i x l).sends ≤ 1
      go [] = omega arith
      go (vs ∷ more) = firing-one (kind_at (its_code g w i) x) vs

-- ---- the charge

-- node x of activation i has fired
pub record HasFired (g : Graph) (s : State) (i x : ℕ) : Type 0 where
  pub block : ℕ
  pub place : ℕ
  pub act : IsThere s.world i
  pub firer : Firer (its_code g s.world i) block place x
  pub ran : has_run s i block place ≡ true
  pub gave : is_inner (kind_at (its_code g s.world i) x) ≡ true → has_word s.world i x ≡ true

-- inlet x of activation i has its word
pub record HasReceived (g : Graph) (s : State) (i x : ℕ) : Type 0 where
  pub inlet : IsForInlet g s.world i x
  pub word : has_word s.world i x ≡ true

-- the events made: nodes that fired, inlets that got words, and messages paid for by firings
pub record Charge (g : Graph) (s : State) (made : ℕ) : Type 0 where
  pub fired : List (ℕ × ℕ)
  pub received : List (ℕ × ℕ)
  pub asked : ℕ
  pub count : made ≡ length fired + (length received + asked)
  pub paid : asked + asks (on_their_way s) ≤ length fired
  pub fired_once : Distinct fired
  pub all_fired : (i x : ℕ) → In (i, x) fired → HasFired g s i x
  pub received_once : Distinct received
  pub all_received : (i x : ℕ) → In (i, x) received → HasReceived g s i x

-- at most three events to each, and one
pub record Charged (g : Graph) (s : State) (made : ℕ) : Type 0 where
  pub fired : List (ℕ × ℕ)
  pub received : List (ℕ × ℕ)
  pub bound : made ≤ 3 * (length fired + length received) + 1
  pub fired_once : Distinct fired
  pub all_fired : (i x : ℕ) → In (i, x) fired → HasFired g s i x
  pub received_once : Distinct received
  pub all_received : (i x : ℕ) → In (i, x) received → HasReceived g s i x

-- so it is, with one event more too
pub charge-charged : (g : Graph) (s : State) (made n : ℕ) → n ≤ made + 1 → Charge g s made → Charged g s n
charge-charged g s made n l c = let a = c.count in let b = c.paid in record {
  fired = c.fired;
  received = c.received;
  bound = omega arith;
  fired_once = c.fired_once;
  all_fired = c.all_fired;
  received_once = c.received_once;
  all_received = c.all_received;
}

-- a state with the same world and runs has it too
pub charged-same : (g : Graph) (s t : State) (n : ℕ) → t.world ≡ s.world → t.ran ≡ s.ran → Charged g s n → Charged g t n
charged-same g s t n e f c = record {
  fired = c.fired;
  received = c.received;
  bound = c.bound;
  fired_once = c.fired_once;
  all_fired = λ i x m. let h = c.all_fired i x m in record {
    block = h.block;
    place = h.place;
    act = subst (λ (w : World). IsThere w i) (sym e) h.act;
    firer = subst (λ w. Firer (its_code g w i) h.block h.place x) (sym e) h.firer;
    ran = ap (λ (rs : List (ℕ × ℕ × ℕ)). any_of (λ r. (r.0 == i) && ((r.1 == h.block) && (r.2 == h.place))) rs) f ∙ h.ran;
    gave = subst (λ w. is_inner (kind_at (its_code g w i) x) ≡ true → has_word w i x ≡ true) (sym e) h.gave;
  };
  received_once = c.received_once;
  all_received = λ i x m. let h = c.all_received i x m in record {
    inlet = subst (λ w. IsForInlet g w i x) (sym e) h.inlet;
    word = subst (λ w. has_word w i x ≡ true) (sym e) h.word;
  };
}

module _ (g : Graph) (Just : ℕ → ℕ → Type 0) (s t : State) (moves : Moves g Just s.world t.world)
    (old : (i b k : ℕ) → has_run s i b k ≡ true → has_run t i b k ≡ true) where
  -- what fired has fired
  fired-later : (i x : ℕ) → HasFired g s i x → HasFired g t i x
  fired-later i x h = record {
    block = h.block;
    place = h.place;
    act = moves.there i h.act;
    firer = subst (λ c. Firer c h.block h.place x) (sym (ap (code_of g) (moves.codes i h.act))) h.firer;
    ran = old i h.block h.place h.ran;
    gave = λ n. moves.words_stay i x (h.gave (subst (λ c. is_inner (kind_at c x) ≡ true) (ap (code_of g) (moves.codes i h.act)) n));
  }

  -- and what was received was received
  received-later : (i x : ℕ) → HasReceived g s i x → HasReceived g t i x
  received-later i x h = record {
    inlet = (moves.there i h.inlet.0, subst (λ c. is_inlet (kind_at (code_of g c) x) ≡ true) (sym (moves.codes i h.inlet.0)) h.inlet.1);
    word = moves.words_stay i x h.word;
  }

  -- a firing
  pub charge-fired : (made i x : ℕ) (sends : List Message) → on_their_way t ≡ on_their_way s ++ sends → length sends ≤ 1 → HasFired g t i x
      → (HasFired g s i x → ⊥) → Charge g s made → Charge g t (made + 1)
  charge-fired made i x sends way one h fresh c =
      let a = c.count in let b = c.paid in let e = ap asks way ∙ asks-append (on_their_way s) sends in let l = asks-length sends in record {
        fired = (i, x) ∷ c.fired;
        received = c.received;
        asked = c.asked;
        count = omega arith;
        paid = omega arith;
        fired_once = (λ m. fresh (c.all_fired i x m), c.fired_once);
        all_fired = go;
        received_once = c.received_once;
        all_received = λ j y m. received-later j y (c.all_received j y m);
      }
    where
      go : (j y : ℕ) → In (j, y) ((i, x) ∷ c.fired) → HasFired g t j y
      go j y (inl q) = subst (λ (p : ℕ × ℕ). HasFired g t p.0 p.1) q h
      go j y (inr m) = fired-later j y (c.all_fired j y m)

  -- a word arrives
  pub charge-word : (made k i x : ℕ) → on_their_way t ≡ without_place k (on_their_way s) → HasReceived g t i x → (HasReceived g s i x → ⊥)
      → Charge g s made → Charge g t (made + 1)
  charge-word made k i x way h fresh c =
      let a = c.count in let b = c.paid in let e = ap asks way in let l = asks-fewer k (on_their_way s) in record {
        fired = c.fired;
        received = (i, x) ∷ c.received;
        asked = c.asked;
        count = omega arith;
        paid = omega arith;
        fired_once = c.fired_once;
        all_fired = λ j y m. fired-later j y (c.all_fired j y m);
        received_once = (λ m. fresh (c.all_received i x m), c.received_once);
        all_received = go;
      }
    where
      go : (j y : ℕ) → In (j, y) ((i, x) ∷ c.received) → HasReceived g t j y
      go j y (inl q) = subst (λ (p : ℕ × ℕ). HasReceived g t p.0 p.1) q h
      go j y (inr m) = received-later j y (c.all_received j y m)

  -- a message that a firing pays for arrives
  pub charge-ask : (made k : ℕ) (m : Message) (sends : List Message) → on_their_way t ≡ without_place k (on_their_way s) ++ sends → asks sends ≡ 0
      → slice_get (on_their_way s) k ≡ Some m → is_asking m ≡ true → Charge g s made → Charge g t (made + 1)
  charge-ask made k m sends way none at h c =
      let a = c.count in let b = c.paid in let e = ap asks way ∙ asks-append (without_place k (on_their_way s)) sends in
      let l = asks-without k (on_their_way s) m at h in record {
        fired = c.fired;
        received = c.received;
        asked = c.asked + 1;
        count = omega arith;
        paid = omega arith;
        fired_once = c.fired_once;
        all_fired = λ j y q. fired-later j y (c.all_fired j y q);
        received_once = c.received_once;
        all_received = λ j y q. received-later j y (c.all_received j y q);
      }
