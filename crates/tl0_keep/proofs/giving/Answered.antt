-- Behind a journal the answer to each call that began an activation was sent; and runs of classes begin none.
use Rattle.std.proofs.Common.{◌≡◌, ℕ, zero, suc, ◌<◌, Bool, true, false, ◌==◌, List, [], ◌∷◌, ◌++◌, length, Option, Some, None, slice_get}
use Rattle.std.proofs.Common.{refl, ap, sym, ◌∙◌, arith, inl, inr, ◌⊎◌, append_assoc}
use Rattle.std.proofs.lemmas.Option.{slice_get_within}
use Rattle.tam_word.specs.Lists.{changed_at}
use Rattle.tam_word.proofs.Members.{In}
use Rattle.tam_graph.specs.declared.kind.Kind.{Kind}
use Rattle.tam_graph.specs.declared.kind.Kind.TheVariants.{Const, Op as Operate, Seq, Call, Arg, Give, Alloc, Fetch, Store, Cond, Switch, Leave}
use Rattle.tam_graph.specs.Graphs.{Graph, kind_at, operands_of, block_at, node_in, chosen_branch, is_enter, owner_of}
use Rattle.tam_msgs.specs.declared.message.Message.{Message}
use Rattle.tam_msgs.specs.declared.message.Message.TheVariants.{Word as Carry, Frame as Begin, Cells as Make, Fetch as Ask_cell, Store as Put_cell}
use Rattle.tam_msgs.specs.Messages.{outside}
use Rattle.tam_istr.specs.Cells.{Access, Now, Deferred, Stored, Twice, NotBelow, NoArray, fetched_from, stored_into}
use Rattle.tam_split.specs.Blocks.{BlockGraph, vertex_at}
use Rattle.tam_split.specs.Partitions.{class_at}
use Rattle.tam_split.specs.GraphPartitions.{Partitions, firing_order}
use Rattle.tam_world.specs.Worlds.{World, ActivationState, or_activation, activation_at, Effect, Delivery, Went, Printed, Faulted, got, all_got}
use Rattle.tam_world.specs.Worlds.{entered, with_word, with_block, its_code, words_of, merges_of}
use Rattle.tam_world.specs.Worlds.{firing_of, fired_with, fired, accessed, delivered, begun}
use Rattle.tam_flow.specs.Journals.{State, Event, Run, Deliver, fire_each, class_fired, block_of_act, parts_of_act, or_message, after_delivery}
use Rattle.tam_flow.specs.Journals.{deliver_all, after_event, state_from}
use Rattle.tam_flow.specs.Journals.{state_after, initial}
use Rattle.tam_flow.specs.Reached.{IsThere, WasSent}
use Rattle.tam_flow.proofs.ActivationCounts.{then_one}
use Rattle.tl0_keep.proofs.giving.Places.{get-behind, get-before}
use Rattle.tl0_keep.specs.ThreadLaws.{IsClassRun}

-- who began an activation
abbrev pub key : ActivationState → ℕ × ℕ
key a = (a.caller, a.call)

-- the same activations have begun, by the same calls
pub record SameCalls (w v : World) : Type 0 where
  pub size : length v.activations ≡ length w.activations
  pub keys : (i : ℕ) → key (activation_at v i) ≡ key (activation_at w i)

same-calls : (w v : World) → v.activations ≡ w.activations → SameCalls w v
same-calls w v e = record {
  size = ap (λ (l : List ActivationState). length l) e;
  keys = λ i. ap
      (λ (l : List ActivationState). key (or_activation (slice_get l i))) e;
}

then-same : (u v w : World) → SameCalls u v → SameCalls v w → SameCalls u w
then-same u v w a b = record { size = b.size ∙ a.size; keys = λ i. b.keys i ∙ a.keys i }

-- one activation changed
changed-size : (n : ℕ) (f : ActivationState → ActivationState) (xs : List ActivationState) → length (changed_at n f xs) ≡ length xs
changed-size n f [] = refl
changed-size zero f (x ∷ xs) = refl
changed-size (suc n) f (x ∷ xs) = ap suc (changed-size n f xs)

changed-key : (n : ℕ) (f : ActivationState → ActivationState) → ((a : ActivationState) → key (f a) ≡ key a) → (xs : List ActivationState) (i : ℕ)
    → key (or_activation (slice_get (changed_at n f xs) i)) ≡ key (or_activation (slice_get xs i))
changed-key n f k [] i = refl
changed-key zero f k (x ∷ xs) zero = k x
changed-key zero f k (x ∷ xs) (suc i) = refl
changed-key (suc n) f k (x ∷ xs) zero = refl
changed-key (suc n) f k (x ∷ xs) (suc i) = changed-key n f k xs i

same-got : (w : World) (i x v : ℕ) → SameCalls w (got w i x v)
same-got w i x v = record { size = changed-size i (with_word x v) w.activations; keys = changed-key i (with_word x v) (λ a. refl) w.activations }

same-entered : (w : World) (i b : ℕ) → SameCalls w (entered w i b)
same-entered w i b = record { size = changed-size i (with_block b) w.activations; keys = changed-key i (with_block b) (λ a. refl) w.activations }

same-all_got : (w : World) (i : ℕ) (xs : List ℕ) (v : ℕ) → SameCalls w (all_got w i xs v)
same-all_got w i [] v = same-calls w w refl
same-all_got w i (x ∷ xs) v = then-same w (got w i x v) (all_got (got w i x v) i xs v) (same-got w i x v) (same-all_got (got w i x v) i xs v)

-- ---- runs of classes

same-firing : (g : Graph) (w : World) (i x : ℕ) (k : Kind) (vs : List ℕ) → SameCalls w (firing_of g w i x k vs).world
same-firing g w i x (Const v) [] = same-got w i x v
same-firing g w i x (Operate o l r) (u ∷ v ∷ []) = same-got w i x _
same-firing g w i x (Seq l r) (u ∷ v ∷ []) = same-got w i x u
same-firing g w i x (Call c) [] = same-calls w w refl
same-firing g w i x (Arg f k a) (v ∷ p ∷ []) = same-calls w w refl
same-firing g w i x (Give k a) (v ∷ []) = same-calls w w refl
same-firing g w i x (Alloc a) (n ∷ []) = same-calls w w refl
same-firing g w i x (Fetch a j) (u ∷ v ∷ []) = same-calls w w refl
same-firing g w i x (Store a j b) (t ∷ u ∷ v ∷ []) = same-calls w w refl
same-firing g w i x (Cond p y n) (v ∷ []) = same-entered w i _
same-firing g w i x (Switch d k a) (u ∷ v ∷ []) = same-all_got w i (node_in (its_code g w i) (chosen_branch (its_code g w i) d u) (is_enter k)) v
same-firing g w i x (Leave k a) (v ∷ []) = same-all_got w i (merges_of (its_code g w i) k (owner_of (its_code g w i) (block_at (its_code g w i) x))) v
same-firing g w i x k vs = same-calls w w refl

same-fired : (g : Graph) (w : World) (i x : ℕ) → SameCalls w (fired g w i x).world
same-fired g w i x = go (words_of w i (operands_of (its_code g w i) (kind_at (its_code g w i) x)))
  where
    go : (ws : List (List ℕ)) → SameCalls w (fired_with g w i x ws).world
    go [] = same-calls w w refl
    go (vs ∷ more) = same-firing g w i x (kind_at (its_code g w i) x) vs

same-one : (g : Graph) (b : BlockGraph) (i : ℕ) (e : Effect) (x : ℕ) → SameCalls e.world (then_one g b i e x).world
same-one g b i e x = go (vertex_at b x).inlet refl
  where
    go : (t : Bool) → (vertex_at b x).inlet ≡ t → SameCalls e.world (then_one g b i e x).world
    go true d = rw (then_one, d) (same-calls e.world e.world refl)
    go false d = rw (then_one, d) (same-fired g e.world i (vertex_at b x).node)

same-each : (g : Graph) (b : BlockGraph) (i : ℕ) (e : Effect) (xs : List ℕ) → SameCalls e.world (fire_each g b i e xs).world
same-each g b i e [] = same-calls e.world e.world refl
same-each g b i e (x ∷ xs) = then-same e.world (then_one g b i e x).world (fire_each g b i e (x ∷ xs)).world (same-one g b i e x)
    (same-each g b i (then_one g b i e x) xs)

same-class : (g : Graph) (all : Partitions) (s : State) (i b c : ℕ) → SameCalls s.world (class_fired g all s i b c).world
same-class g all s i b c = same-each g (block_of_act g s i b) i (record { world = s.world; sends = [] })
    (firing_order (block_of_act g s i b).edges (class_at (parts_of_act g all s i b) c))

-- what runs of classes leave: the same activations, the same arrivals, and more that is sent
pub record RunsOn (s t : State) : Type 0 where
  pub calls : SameCalls s.world t.world
  pub arrived : t.arrived ≡ s.arrived
  pub more : List Message
  pub sent : t.sent ≡ s.sent ++ more

-- a list with nothing behind
append-none : (xs : List Message) → xs ++ [] ≡ xs
append-none [] = refl
append-none (x ∷ xs) = ap (λ l. x ∷ l) (append-none xs)

-- runs of classes only add to a state
pub runs-on : (g : Graph) (all : Partitions) (es : List Event) → ((e : Event) → In e es → IsClassRun e) → (s : State) → RunsOn s (state_from g all s es)
runs-on g all [] h s = record { calls = same-calls s.world s.world refl; arrived = refl; more = []; sent = sym (append-none s.sent) }
runs-on g all (Run i b c ∷ es) h s =
    let t = after_event g all s (Run i b c) in
    let r = runs-on g all es (λ e k. h e (inr k)) t in
    record {
      calls = then-same s.world t.world (state_from g all s (Run i b c ∷ es)).world (same-class g all s i b c) r.calls;
      arrived = r.arrived;
      more = (class_fired g all s i b c).sends ++ r.more;
      sent = r.sent ∙ append_assoc s.sent (class_fired g all s i b c).sends r.more;
    }
runs-on g all (Deliver m ∷ es) h s = absurd (h (Deliver m) (inl refl))

-- ---- answers

-- each activation but the first has its answer sent
abbrev pub AreAnswered : State → Type 0
AreAnswered s = (j : ℕ) → 0 < j → IsThere s.world j → WasSent s (Carry (activation_at s.world j).caller (activation_at s.world j).call j)

answered-same : (s t : State) → SameCalls s.world t.world → (more : List Message) → t.sent ≡ s.sent ++ more → AreAnswered s → AreAnswered t
answered-same s t same more e h j l there =
    let q : j < length s.world.activations = let z = same.size in omega arith in
    let r = h j l q in (
      r.0,
      ap (λ (x : List Message). slice_get x r.0) e
          ∙ (get-before s.sent more r.0 (slice_get_within s.sent r.0 _ r.1)
          ∙ (r.1 ∙ ap (λ (k : ℕ × ℕ). Some (Carry k.0 k.1 j)) (sym (same.keys j)))),
    )

-- an activation behind the others
behind-activation : (xs : List ActivationState) (a : ActivationState) (j : ℕ) → j < length (xs ++ a ∷ [])
    → ((j < length xs) × (or_activation (slice_get (xs ++ a ∷ []) j) ≡ or_activation (slice_get xs j))) ⊎
    ((j ≡ length xs) × (or_activation (slice_get (xs ++ a ∷ []) j) ≡ a))
behind-activation [] a zero l = inr (refl, refl)
behind-activation [] a (suc j) l = absurd (omega arith)
behind-activation (x ∷ xs) a zero l = inl (omega arith, refl)
behind-activation (x ∷ xs) a (suc j) l = elim (behind-activation xs a j (omega arith)) [
  | inl h ↦ inl (let q = h.0 in omega arith, h.1)
  | inr h ↦ inr (ap suc h.0, h.1)
]

answered-begun : (s : State) (m c f x : ℕ) → AreAnswered s → AreAnswered (after_delivery s m (delivered s.world (Begin c f x)))
answered-begun s m c f x h j l there = elim (behind-activation s.world.activations (begun c f x) j there) [
  | inl r ↦
      let q = h j l r.0 in (
        q.0,
        get-before s.sent (Carry f x (length s.world.activations) ∷ []) q.0 (slice_get_within s.sent q.0 _ q.1)
            ∙ (q.1 ∙ ap (λ (a : ActivationState). Some (Carry a.caller a.call j)) (sym r.1)),
      )
  | inr r ↦ (
    length s.sent,
    get-behind s.sent (Carry f x (length s.world.activations))
        ∙ (ap (λ n. Some (Carry f x n)) (sym r.0) ∙ ap (λ (a : ActivationState). Some (Carry a.caller a.call j)) (sym r.1)),
  )
]

-- what comes of a delivery but that of a wish
abbrev Keeps : World → Delivery → Type 0
Keeps w (Went e) = SameCalls w e.world
Keeps w (Printed k v) = Unit {0}
Keeps w (Faulted f) = Unit {0}

answered-kept : (s : State) (m : ℕ) (d : Delivery) → Keeps s.world d → AreAnswered s → AreAnswered (after_delivery s m d)
answered-kept s m (Went e) k h = answered-same s (after_delivery s m (Went e)) k e.sends refl h
answered-kept s m (Printed p v) k h = h
answered-kept s m (Faulted f) k h = h

kept-access : (w : World) (t i : ℕ) (r : ℕ × ℕ) (v : ℕ) (a : Access) → Keeps w (accessed w t i r v a)
kept-access w t i r v (Now u) = same-calls w w refl
kept-access w t i r v (Deferred arrays) = same-calls w _ refl
kept-access w t i r v (Stored arrays readers) = same-calls w _ refl
kept-access w t i r v (Twice first) = tt
kept-access w t i r v (NotBelow n) = tt
kept-access w t i r v NoArray = tt

kept-carry : (w : World) (f x v : ℕ) → Keeps w (delivered w (Carry f x v))
kept-carry w f x v = go (f == outside) refl
  where
    go : (t : Bool) → (f == outside) ≡ t → Keeps w (delivered w (Carry f x v))
    go true e = rw (delivered, e) tt
    go false e = rw (delivered, e) (same-got w f x v)

answered-message : (s : State) (m : ℕ) (x : Message) → AreAnswered s → AreAnswered (after_delivery s m (delivered s.world x))
answered-message s m (Carry f x v) h = answered-kept s m (delivered s.world (Carry f x v)) (kept-carry s.world f x v) h
answered-message s m (Begin c f x) h = answered-begun s m c f x h
answered-message s m (Make n f x) h = answered-kept s m (delivered s.world (Make n f x)) (same-calls s.world _ refl) h
answered-message s m (Ask_cell a i f x t) h =
    answered-kept s m (delivered s.world (Ask_cell a i f x t)) (kept-access s.world t i (f, x) 0 (fetched_from s.world.arrays a i (f, x))) h
answered-message s m (Put_cell a i v t) h =
    answered-kept s m (delivered s.world (Put_cell a i v t)) (kept-access s.world t i (0, 0) v (stored_into s.world.arrays a i v t)) h

answered-event : (g : Graph) (all : Partitions) (s : State) (e : Event) → AreAnswered s → AreAnswered (after_event g all s e)
answered-event g all s (Run i b c) h = answered-same s (after_event g all s (Run i b c)) (same-class g all s i b c) (class_fired g all s i b c).sends refl h
answered-event g all s (Deliver m) h = go (slice_get s.sent m)
  where
    go : (o : Option Message) → AreAnswered (deliver_all s m (or_message o))
    go None = h
    go (Some x) = answered-message s m x h

answered-from : (g : Graph) (all : Partitions) (es : List Event) (s : State) → AreAnswered s → AreAnswered (state_from g all s es)
answered-from g all [] s h = h
answered-from g all (e ∷ es) s h = answered-from g all es (after_event g all s e) (answered-event g all s e h)

-- so behind each list of events
pub answered : (g : Graph) (all : Partitions) (args : List ℕ) (events : List Event) → AreAnswered (state_after g all args events)
answered g all args events = answered-from g all events (initial g args) (λ j l there. absurd (one j l there))
  where
    one : (j : ℕ) → 0 < j → j < 1 → ⊥
    one j l q = absurd (omega arith)

-- events behind events
pub state-append : (g : Graph) (all : Partitions) (es more : List Event) (s : State)
    → state_from g all s (es ++ more) ≡ state_from g all (state_from g all s es) more
state-append g all [] more s = refl
state-append g all (e ∷ es) more s = state-append g all es more (after_event g all s e)
