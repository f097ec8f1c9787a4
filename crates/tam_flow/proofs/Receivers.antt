-- Words on their way are for nodes to which messages carry words: params, rets, calls, allocs and fetches.
use Rattle.std.proofs.Common.{◌≡◌, ℕ, ◌<◌, Bool, true, false, ◌==◌, ◌&&◌, List, [], ◌∷◌, map, Option, Some, None, length, slice_get, nat_lt, refl, sym, ap}
use Rattle.std.proofs.Common.{◌∙◌, subst, inl, inr, ◌⊎◌}
use Rattle.std.specs.List.{AllByRecursion}
use Rattle.tam_graph.specs.declared.kind.Kind.{Kind}
use Rattle.tam_graph.specs.declared.kind.Kind.TheVariants.{Const, Op as Operate, Seq, Call, Arg, Give, Alloc, Fetch, Store, Cond, Switch}
use Rattle.tam_graph.specs.declared.kind.Kind.TheVariants.{Leave}
use Rattle.tam_msgs.specs.declared.message.Message.{Message}
use Rattle.tam_msgs.specs.declared.message.Message.TheVariants.{Word as Carry, Frame as Begin, Cells as Make, Fetch as Ask_cell, Store as Put_cell}
use Rattle.tam_msgs.specs.Messages.{outside, answers}
use Rattle.tam_istr.specs.Cells.{Cell, Empty, Filled, in_array, fetch_of, store_of}
use Rattle.tam_graph.specs.Graphs.{Graph, code_of, kind_at, block_at, operands_of, callee_of, node_where, is_param, is_ret}
use Rattle.tam_graph.specs.Accepted.{IsAccepted}
use Rattle.tam_graph.specs.Written.{is_operand, is_call_node}
use Rattle.tam_split.specs.Blocks.{BlockGraph, vertex_at}
use Rattle.tam_fire.specs.FiringRules.{Path, Activation, Entered, Val, Holds, code_at, node_of}
use Rattle.tam_word.proofs.Tests.{and-left}
use Rattle.tam_word.proofs.Each.{all-append, all-more, all-map}
use Rattle.tam_world.specs.Worlds.{World, Effect, Delivery, Went, Printed, Faulted, activation_at, its_code, words_of, result_message, firing_of, fired_with}
use Rattle.tam_world.specs.Worlds.{fired}
use Rattle.tam_world.specs.Worlds.{accessed, delivered}
use Rattle.tam_flow.specs.Told.{IsNumber, path_of}
use Rattle.tam_flow.specs.Journals.{fire_each}
use Rattle.tam_flow.specs.Reached.{IsThere, kind_of}
use Rattle.tam_flow.proofs.ActivationCounts.{then_one}
use Rattle.tam_flow.proofs.ClassRuns.{IsReady, sound-one}
use Rattle.tam_flow.proofs.Deliveries.{IsSoundEffect}
use Rattle.tam_flow.proofs.FiringReasons.{HaveThese, words-are, MayFire, path-code, call-is, its_line}
use Rattle.tam_flow.proofs.Firings.{fired-sound}
use Rattle.tam_flow.proofs.Givers.{is_received}
use Rattle.tam_flow.proofs.Growing.{Grows, grows-begun, with_begun}
use Rattle.tam_flow.proofs.Justified.{IsAsked, IsMessage, IsSoundWorld}
use Rattle.tam_flow.proofs.Nodes.{call-operand, where-each, is-param, is-ret}

-- a word goes outside, or to a node to which messages carry words
abbrev pub IsForReceiver : Graph → World → Message → Type 0
IsForReceiver g w (Carry f x u) = ((f == outside) ≡ true) ⊎ (IsThere w f × (is_received (kind_of g w f x) ≡ true))
IsForReceiver g w (Begin c f x) = Unit {0}
IsForReceiver g w (Make n f x) = Unit {0}
IsForReceiver g w (Ask_cell a j f x t) = Unit {0}
IsForReceiver g w (Put_cell a j u t) = Unit {0}

-- and does so later
receiver-later : (g : Graph) (w v : World) → Grows w v → (m : Message) → IsForReceiver g w m → IsForReceiver g v m
receiver-later g w v grows (Carry f x u) (inl h) = inl h
receiver-later g w v grows (Carry f x u) (inr h) =
    inr (grows.there f h.0, subst (λ n. is_received (kind_at (code_of g n) x) ≡ true) (sym (grows.code f h.0)) h.1)
receiver-later g w v grows (Begin c f x) h = h
receiver-later g w v grows (Make n f x) h = h
receiver-later g w v grows (Ask_cell a j f x t) h = h
receiver-later g w v grows (Put_cell a j u t) h = h

-- and so do all
pub receivers-later : (g : Graph) (w v : World) → Grows w v → (ms : List Message) → AllByRecursion (IsForReceiver g w) ms
    → AllByRecursion (IsForReceiver g v) ms
receivers-later g w v grows ms h = all-more (IsForReceiver g w) (IsForReceiver g v) (receiver-later g w v grows) ms h

-- ---- a firing

module _ {g : Graph} {args : List ℕ} {w : World} {i x : ℕ} (firer : MayFire g args w i x) where
  -- an arg sends to a param
  arg-receivers : (f k a v p : ℕ) → kind_at (its_code g w i) x ≡ Arg f k a → HaveThese w i (a ∷ f ∷ []) (v ∷ p ∷ [])
      → AllByRecursion (IsForReceiver g w) (map (λ y. Carry p y v) (node_where (code_of g (callee_of (its_code g w i) f)) (is_param k)))
  arg-receivers f k a v p e h =
      all-map (IsForReceiver g w) (λ y. Carry p y v) (node_where (code_of g (callee_of (its_code g w i) f)) (is_param k))
      (all-more (λ y. (y < length (code_of g (callee_of (its_code g w i) f)).nodes) ×
      (is_param k (kind_at (code_of g (callee_of (its_code g w i) f)) y) ≡ true))
      (λ y. IsForReceiver g w (Carry p y v)) (λ y m. inr (called.0.0, param y m.1)) (node_where (code_of g (callee_of (its_code g w i) f)) (is_param k))
      (where-each (code_of g (callee_of (its_code g w i) f)) (is_param k)))
    where
      at_call : (d : ℕ) × (kind_at (its_code g w i) f ≡ Call d)
      at_call = call-operand (its_code g w i) f
          (and-left (is_call_node (its_code g w i) f) (is_operand (its_code g w i) a && nat_lt k 64) (its_line firer (Arg f k a) e))

      called : IsNumber w (f ∷ path_of w i) p × Holds g args (Val (path_of w i) f (Activation (f ∷ path_of w i)))
      called = call-is firer.stands f p at_call.0 at_call.1 h.1.0

      code : (activation_at w p).code ≡ callee_of (its_code g w i) f
      code =
          sym (firer.stands.sound.path_codes p called.0.0)
          ∙ (ap (code_at g) called.0.1 ∙ ap (λ m. callee_of (code_of g m) f) (path-code firer.stands))

      param : (y : ℕ) → is_param k (kind_at (code_of g (callee_of (its_code g w i) f)) y) ≡ true → is_received (kind_of g w p y) ≡ true
      param y m = ap is_received (ap (λ n. kind_at (code_of g n) y) code ∙ is-param k _ m)

  -- a give sends to a ret, or outside
  give-receivers : (k v : ℕ) → AllByRecursion (IsForReceiver g w) (result_message g w i k v)
  give-receivers k v = go ((activation_at w i).caller == outside) refl
    where
      go : (b : Bool) → ((activation_at w i).caller == outside) ≡ b → AllByRecursion (IsForReceiver g w) (result_message g w i k v)
      go true c = rw (result_message, c) (inl refl, tt)
      go false c =
          let there = (firer.stands.sound.callers i firer.stands.there c).0 in
          rw (result_message, c)
          (all-map (IsForReceiver g w) (λ y. Carry (activation_at w i).caller y v)
          (node_where (its_code g w (activation_at w i).caller) (is_ret (activation_at w i).call k))
          (all-more (λ y. (y < length (its_code g w (activation_at w i).caller).nodes) ×
          (is_ret (activation_at w i).call k (kind_at (its_code g w (activation_at w i).caller) y) ≡ true))
          (λ y. IsForReceiver g w (Carry (activation_at w i).caller y v)) (λ y m. inr (there, ap is_received (is-ret (activation_at w i).call k _ m.1)))
          (node_where (its_code g w (activation_at w i).caller) (is_ret (activation_at w i).call k))
          (where-each (its_code g w (activation_at w i).caller) (is_ret (activation_at w i).call k))))

  -- by what the node does
  firing-receivers : (k : Kind) (vs : List ℕ) → kind_at (its_code g w i) x ≡ k → HaveThese w i (operands_of (its_code g w i) k) vs
      → AllByRecursion (IsForReceiver g w) (firing_of g w i x k vs).sends
  firing-receivers (Const v) [] e h = tt
  firing-receivers (Operate o l r) (u ∷ v ∷ []) e h = tt
  firing-receivers (Seq l r) (u ∷ v ∷ []) e h = tt
  firing-receivers (Call c) [] e h = (tt, tt)
  firing-receivers (Arg f k a) (v ∷ p ∷ []) e h = arg-receivers f k a v p e h
  firing-receivers (Give k a) (v ∷ []) e h = give-receivers k v
  firing-receivers (Alloc a) (n ∷ []) e h = (tt, tt)
  firing-receivers (Fetch a j) (u ∷ v ∷ []) e h = (tt, tt)
  firing-receivers (Store a j b) (t ∷ u ∷ v ∷ []) e h = (tt, tt)
  firing-receivers (Cond p y n) (v ∷ []) e h = tt
  firing-receivers (Switch d k a) (u ∷ v ∷ []) e h = tt
  firing-receivers (Leave k a) (v ∷ []) e h = tt
  firing-receivers k vs e h = tt

  -- whatever the node is
  fired-receivers : AllByRecursion (IsForReceiver g w) (fired g w i x).sends
  fired-receivers = go (words_of w i (operands_of (its_code g w i) (kind_at (its_code g w i) x)))
      (words-are w i (operands_of (its_code g w i) (kind_at (its_code g w i) x)))
    where
      go : (ws : List (List ℕ)) → ((vs : List ℕ) (more : List (List ℕ)) → ws ≡ vs ∷ more
          → HaveThese w i (operands_of (its_code g w i) (kind_at (its_code g w i) x)) vs)
          → AllByRecursion (IsForReceiver g w) (fired_with g w i x ws).sends
      go [] f = tt
      go (vs ∷ more) f = firing-receivers (kind_at (its_code g w i) x) vs refl (f vs more refl)

-- ---- a run

module _ (g : Graph) (args : List ℕ) (accepted : IsAccepted g) (w : World) (i : ℕ) (there : IsThere w i) (b : BlockGraph) where
  -- one more vertex
  receivers-one : (e : Effect) (y : ℕ) → IsSoundEffect g args w e → AllByRecursion (IsForReceiver g e.world) e.sends → IsReady g args accepted w i there b y
      → AllByRecursion (IsForReceiver g (then_one g b i e y).world) (then_one g b i e y).sends
  receivers-one e y sound all ready = go (vertex_at b y).inlet refl
    where
      go : (t : Bool) → (vertex_at b y).inlet ≡ t → AllByRecursion (IsForReceiver g (then_one g b i e y).world) (then_one g b i e y).sends
      go true d = rw (then_one, d) all
      go false d =
          let code : (activation_at e.world i).code ≡ (activation_at w i).code = sound.grows.code i there in
          let inside = subst (λ n. (vertex_at b y).node < length (code_of g n).nodes) (sym code) (ready d).0 in
          let opened = subst (λ n. Holds g args (Entered (path_of e.world i) (block_at (code_of g n) (vertex_at b y).node))) (sym code)
          (subst (λ q. Holds g args (Entered q (block_at (its_code g w i) (vertex_at b y).node))) (sym (sound.grows.path i there)) (ready d).1) in
          let firer : MayFire g args e.world i (vertex_at b y).node = record {
            stands = record { accepted = accepted; sound = sound.world; there = sound.grows.there i there };
            inside = inside;
            open_block = opened;
          } in
          let f = fired-sound firer in
          rw (then_one, d) (all-append (IsForReceiver g (fired g e.world i (vertex_at b y).node).world) e.sends (fired g e.world i (vertex_at b y).node).sends
          (receivers-later g e.world (fired g e.world i (vertex_at b y).node).world f.grows e.sends all)
          (receivers-later g e.world (fired g e.world i (vertex_at b y).node).world f.grows (fired g e.world i (vertex_at b y).node).sends
          (fired-receivers firer)))

  -- and several
  pub receivers-each : (ys : List ℕ) (e : Effect) → IsSoundEffect g args w e → AllByRecursion (IsForReceiver g e.world) e.sends
      → AllByRecursion (IsReady g args accepted w i there b) ys
      → AllByRecursion (IsForReceiver g (fire_each g b i e ys).world) (fire_each g b i e ys).sends
  receivers-each [] e sound all ready = all
  receivers-each (y ∷ ys) e sound all ready =
      receivers-each ys (then_one g b i e y) (sound-one g args accepted w i there b e y sound ready.0) (receivers-one e y sound all ready.0) ready.1

-- ---- a delivery

-- what a delivery sends goes to receivers
abbrev pub SendsToReceivers : Graph → Delivery → Type 0
SendsToReceivers g (Went e) = AllByRecursion (IsForReceiver g e.world) e.sends
SendsToReceivers g (Printed k v) = Unit {0}
SendsToReceivers g (Faulted f) = Unit {0}

module _ (g : Graph) (args : List ℕ) (w : World) (sound : IsSoundWorld g args w) where
  -- a node of a path does what its activation's node does
  number-kind : (q : Path) (f x : ℕ) (k : Kind) → IsNumber w q f → node_of g q x ≡ k → kind_of g w f x ≡ k
  number-kind q f x k num e = ap (λ n. kind_at (code_of g n) x) (sym (sound.path_codes f num.0) ∙ ap (code_at g) num.1) ∙ e

  -- a reader is a receiver
  reader-receives : (a j f x : ℕ) → IsAsked g args w a j f x → IsThere w f × (is_received (kind_of g w f x) ≡ true)
  reader-receives a j f x h = (h.number.0, ap is_received (number-kind h.q f x (Fetch h.b h.c) h.number h.fetches))

  -- readers are
  answers-receivers : (a j v : ℕ) (rs : List (ℕ × ℕ)) → AllByRecursion (λ r. IsAsked g args w a j r.0 r.1) rs
      → AllByRecursion (IsForReceiver g w) (answers v rs)
  answers-receivers a j v [] h = tt
  answers-receivers a j v (r ∷ rs) h = (inr (reader-receives a j r.0 r.1 h.0), answers-receivers a j v rs h.1)

  -- a fetch
  ask-receivers : (a j f x t : ℕ) → IsAsked g args w a j f x → SendsToReceivers g (delivered w (Ask_cell a j f x t))
  ask-receivers a j f x t asked = array (slice_get w.arrays a) refl
    where
      cell : (cells : List Cell) (o : Option Cell) → slice_get cells j ≡ o
          → SendsToReceivers g (accessed w t j (f, x) 0 (in_array j (fetch_of w.arrays a j (f, x)) (Some cells)))
      cell cells None d = rw (in_array, d) tt
      cell cells (Some (Empty rs)) d = rw (in_array, d) tt
      cell cells (Some (Filled u s)) d = rw (in_array, d) (inr (reader-receives a j f x asked), tt)

      array : (o : Option (List Cell)) → slice_get w.arrays a ≡ o
          → SendsToReceivers g (accessed w t j (f, x) 0 (in_array j (fetch_of w.arrays a j (f, x)) o))
      array None e = tt
      array (Some cells) e = cell cells (slice_get cells j) refl

  -- a store
  put-receivers : (a j u t : ℕ) → SendsToReceivers g (delivered w (Put_cell a j u t))
  put-receivers a j u t = array (slice_get w.arrays a) refl
    where
      cell : (cells : List Cell) → slice_get w.arrays a ≡ Some cells → (o : Option Cell) → slice_get cells j ≡ o
          → SendsToReceivers g (accessed w t j (0, 0) u (in_array j (store_of w.arrays a j u t) (Some cells)))
      cell cells r None d = rw (in_array, d) tt
      cell cells r (Some (Empty rs)) d = rw (in_array, d) (answers-receivers a j u rs (sound.cells a j (Empty rs) (rw r d)))
      cell cells r (Some (Filled v s)) d = rw (in_array, d) tt

      array : (o : Option (List Cell)) → slice_get w.arrays a ≡ o
          → SendsToReceivers g (accessed w t j (0, 0) u (in_array j (store_of w.arrays a j u t) o))
      array None e = tt
      array (Some cells) e = cell cells e (slice_get cells j) refl

  -- any message
  pub delivered-receivers : (m : Message) → IsMessage g args w m → SendsToReceivers g (delivered w m)
  delivered-receivers (Carry f x v) h = go (f == outside) refl
    where
      go : (b : Bool) → (f == outside) ≡ b → SendsToReceivers g (delivered w (Carry f x v))
      go true e = rw (delivered, e) tt
      go false e = rw (delivered, e) tt
  delivered-receivers (Begin c f x) h =
      let there = h.1.0 in
      let kind = number-kind h.0 f x (Call c) h.1 h.2 in
      (receiver-later g w (with_begun w c f x) (grows-begun w c f x) (Carry f x (length w.activations)) (inr (there, ap is_received kind)), tt)
  delivered-receivers (Make n f x) h =
      let kind = number-kind h.0 f x (Alloc h.1) h.3 h.4 in
      (inr (h.3.0, ap is_received kind), tt)
  delivered-receivers (Ask_cell a j f x t) h = ask-receivers a j f x t h.0
  delivered-receivers (Put_cell a j u t) h = put-receivers a j u t
