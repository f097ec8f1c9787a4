-- Accesses to arrays whose readers are named by inlets.
use Rattle.std.proofs.Common.{◌≡◌, ℕ, zero, suc, true, false, ◌==◌, List, [], ◌∷◌, ◌++◌, length, Option, Some, None, slice_get, slice_set, map}
use Rattle.std.proofs.Common.{refl, ap, ap₂, sym, ◌∙◌, subst, inl, inr, replicate, unwrap_or, sum}
use Rattle.std.proofs.lemmas.List.{length-map, map-set, map-append}
use Rattle.std.proofs.lemmas.List.Sums.{sum-map}
use Rattle.tam_word.proofs.Tests.{eq-number}
use Rattle.tam_word.proofs.Members.{In}
use Rattle.tam_msgs.specs.declared.message.Message.{Message}
use Rattle.tam_msgs.specs.declared.message.Message.TheVariants.{Word as Carry, Frame as Begin, Cells as Make, Fetch as Ask_cell, Store as Put_cell}
use Rattle.tam_msgs.specs.Messages.{outside, answers}
use Rattle.tam_istr.specs.Cells.{Cell, Empty, Filled, Reader, Arrays, Access, Now, Deferred, Stored, Twice, NotBelow, NoArray, cells_used, with_array}
use Rattle.tam_istr.specs.Cells.{with_cell}
use Rattle.tam_istr.specs.Cells.{fetched_from, stored_into, in_array, fetch_of, store_of}
use Rattle.tam_graph.specs.Graphs.{Graph, code_of, kind_at}
use Rattle.tam_graph.specs.declared.kind.Kind.TheVariants.{Call as Invoke}
use Rattle.tam_world.specs.Worlds.{World, activation_at}
use Rattle.tam_flow.specs.Reached.{IsThere}
use Rattle.tl0_keep.specs.Compiled.{inlet_of}
use Rattle.tl0_keep.specs.ThreadNames.{inlet_at, thread_message, thread_reader, thread_cell, thread_arrays}
use Rattle.tl0_keep.proofs.runs.Keeps.{IsForMessages, Fits}
use Rattle.tl0_keep.proofs.code.ThreadKinds.{takes_messages}

-- what stands at a place of a mapped list
pub get-map : {X Y : Type 0} (f : X → Y) (xs : List X) (n : ℕ) (x : X) → slice_get xs n ≡ Some x → slice_get (map f xs) n ≡ Some (f x)
get-map f [] n x e = absurd cc
get-map f (y ∷ ys) zero x e = let q : y ≡ x = cc in ap (λ z. Some (f z)) q
get-map f (y ∷ ys) (suc n) x e = get-map f ys n x e

-- nothing stands there
pub get-map-none : {X Y : Type 0} (f : X → Y) (xs : List X) (n : ℕ) → slice_get xs n ≡ None → slice_get (map f xs) n ≡ None
get-map-none f [] n e = refl
get-map-none f (y ∷ ys) zero e = absurd cc
get-map-none f (y ∷ ys) (suc n) e = get-map-none f ys n e

-- and what stands there came from somewhere
pub map-get : {X Y : Type 0} (f : X → Y) (xs : List X) (n : ℕ) (y : Y) → slice_get (map f xs) n ≡ Some y → (x : X) × (slice_get xs n ≡ Some x) × (f x ≡ y)
map-get f [] n y e = absurd cc
map-get f (x ∷ xs) zero y e = (x, refl, cc)
map-get f (x ∷ xs) (suc n) y e = map-get f xs n y e

-- as many cells
pub cells-told : (g : Graph) (w : World) (arrays : Arrays) → map length (map (map (thread_cell g w)) arrays) ≡ map length arrays
cells-told g w [] = refl
cells-told g w (cells ∷ arrays) = ap₂ (λ (n : ℕ) (l : List ℕ). n ∷ l) (length-map cells (thread_cell g w)) (cells-told g w arrays)

-- empty cells stay
empty-told : (g : Graph) (w : World) (n : ℕ) → map (thread_cell g w) (replicate n (Empty [])) ≡ replicate n (Empty [])
empty-told g w zero = refl
empty-told g w (suc n) = ap (λ (l : List Cell). Empty [] ∷ l) (empty-told g w n)

-- a new array
pub array-told : (g : Graph) (w : World) (arrays : Arrays) (n : ℕ)
    → with_array (map (map (thread_cell g w)) arrays) n ≡ map (map (thread_cell g w)) (with_array arrays n)
array-told g w arrays n =
    ap (λ (l : List Cell). map (map (thread_cell g w)) arrays ++ l ∷ []) (sym (empty-told g w n))
    ∙ sym (map-append (map (thread_cell g w)) arrays (replicate n (Empty []) ∷ []))

-- a cell that changes
pub cell-told : (g : Graph) (w : World) (arrays : Arrays) (a i : ℕ) (cells : List Cell) (c : Cell) → slice_get arrays a ≡ Some cells
    → with_cell (map (map (thread_cell g w)) arrays) a i (thread_cell g w c) ≡ map (map (thread_cell g w)) (with_cell arrays a i c)
cell-told g w arrays a i cells c e =
    let named = get-map (map (thread_cell g w)) arrays a cells e in
    ap (λ (o : Option (List Cell)). slice_set (map (map (thread_cell g w)) arrays) a (slice_set (unwrap_or o []) i (thread_cell g w c))) named
    ∙ (ap (slice_set (map (map (thread_cell g w)) arrays) a) (sym (map-set (thread_cell g w) cells i c))
    ∙ (sym (map-set (map (thread_cell g w)) arrays a (slice_set cells i c))
    ∙ ap (λ (o : Option (List Cell)). map (map (thread_cell g w)) (slice_set arrays a (slice_set (unwrap_or o []) i c))) (sym e)))

-- an access, told of threads
abbrev pub thread_access : Graph → World → Access → Access
thread_access g w (Now u) = Now u
thread_access g w (Deferred arrays) = Deferred (map (map (thread_cell g w)) arrays)
thread_access g w (Stored arrays readers) = Stored (map (map (thread_cell g w)) arrays) (map (thread_reader g w) readers)
thread_access g w (Twice first) = Twice first
thread_access g w (NotBelow n) = NotBelow n
thread_access g w NoArray = NoArray

-- of arrays told of threads
access-told : (g : Graph) (w : World) (arrays : Arrays) (a i : ℕ) (go then : Option Cell → Access)
    → ((cells : List Cell) → slice_get arrays a ≡ Some cells → (c : Cell) → then (Some (thread_cell g w c)) ≡ thread_access g w (go (Some c)))
    → in_array i then (slice_get (map (map (thread_cell g w)) arrays) a) ≡ thread_access g w (in_array i go (slice_get arrays a))
access-told g w arrays a i go then each = by (slice_get arrays a) refl
  where
    within : (cells : List Cell) → slice_get arrays a ≡ Some cells → (o : Option Cell) → slice_get cells i ≡ o
        → in_array i then (Some (map (thread_cell g w) cells)) ≡ thread_access g w (in_array i go (Some cells))
    within cells e None q = rw (in_array, get-map-none (thread_cell g w) cells i q, q) (ap NotBelow (length-map cells (thread_cell g w)))
    within cells e (Some c) q = rw (in_array, get-map (thread_cell g w) cells i c q, q) (each cells e c)

    by : (o : Option (List Cell)) → slice_get arrays a ≡ o
        → in_array i then (slice_get (map (map (thread_cell g w)) arrays) a) ≡ thread_access g w (in_array i go (slice_get arrays a))
    by None e = rw (get-map-none (map (thread_cell g w)) arrays a e, e) refl
    by (Some cells) e = rw (get-map (map (thread_cell g w)) arrays a cells e, e) (within cells e (slice_get cells i) refl)

-- a fetch
pub fetch-told : (g : Graph) (w : World) (arrays : Arrays) (a i : ℕ) (r : Reader)
    → fetched_from (map (map (thread_cell g w)) arrays) a i (thread_reader g w r) ≡ thread_access g w (fetched_from arrays a i r)
fetch-told g w arrays a i r = access-told g w arrays a i (fetch_of arrays a i r)
    (fetch_of (map (map (thread_cell g w)) arrays) a i (thread_reader g w r)) each
  where
    each : (cells : List Cell) → slice_get arrays a ≡ Some cells → (c : Cell)
        → fetch_of (map (map (thread_cell g w)) arrays) a i (thread_reader g w r) (Some (thread_cell g w c))
        ≡ thread_access g w (fetch_of arrays a i r (Some c))
    each cells e (Empty readers) = ap Deferred
        (ap (λ (l : List Reader). with_cell (map (map (thread_cell g w)) arrays) a i (Empty l)) (sym (map-append (thread_reader g w) readers (r ∷ [])))
        ∙ cell-told g w arrays a i cells (Empty (readers ++ r ∷ [])) e)
    each cells e (Filled u s) = refl

-- a store
pub store-told : (g : Graph) (w : World) (arrays : Arrays) (a i u t : ℕ)
    → stored_into (map (map (thread_cell g w)) arrays) a i u t ≡ thread_access g w (stored_into arrays a i u t)
store-told g w arrays a i u t = access-told g w arrays a i (store_of arrays a i u t)
    (store_of (map (map (thread_cell g w)) arrays) a i u t) each
  where
    each : (cells : List Cell) → slice_get arrays a ≡ Some cells → (c : Cell)
        → store_of (map (map (thread_cell g w)) arrays) a i u t (Some (thread_cell g w c)) ≡ thread_access g w (store_of arrays a i u t (Some c))
    each cells e (Empty readers) = ap (λ (l : Arrays). Stored l (map (thread_reader g w) readers)) (cell-told g w arrays a i cells (Filled u t) e)
    each cells e (Filled v first) = refl

-- as many cells are used
pub used-told : (g : Graph) (w : World) (arrays : Arrays) → cells_used (thread_arrays g w arrays) ≡ cells_used arrays
used-told g w arrays = sym (sum-map length (map (map (thread_cell g w)) arrays)) ∙ (ap (λ (l : List ℕ). sum l) (cells-told g w arrays) ∙ sum-map length arrays)

-- the answers to readers, told
pub answers-told : (g : Graph) (w : World) (v : ℕ) (readers : List Reader) → map (thread_message g w) (answers v readers) ≡ answers v
    (map (thread_reader g w) readers)
answers-told g w v [] = refl
answers-told g w v (r ∷ rs) = ap (λ (l : List Message). Carry r.0 (inlet_at g w r.0 r.1) v ∷ l) (answers-told g w v rs)

-- ---- in a world that goes on

-- activations that are there stay, with their codes
pub record Stays (w v : World) : Type 0 where
  pub there : (f : ℕ) → IsThere w f → IsThere v f
  pub code : (f : ℕ) → IsThere w f → (activation_at v f).code ≡ (activation_at w f).code

module _ (g : Graph) (w v : World) (stays : Stays w v) where
  -- the same inlets
  inlet-stays : (f x : ℕ) → IsThere w f → inlet_at g v f x ≡ inlet_at g w f x
  inlet-stays f x l = ap (λ (q : ℕ). elim (f == outside) [ true ↦ x | false ↦ inlet_of g (code_of g q) x ]) (stays.code f l)

  -- the same of the outside
  inlet-outside : (f x : ℕ) → f ≡ outside → inlet_at g v f x ≡ inlet_at g w f x
  inlet-outside f x e = rw (inlet_at, eq-number f outside e) refl

  -- the same message
  pub message-stays : (q : Message) → Fits g w q → thread_message g v q ≡ thread_message g w q
  message-stays (Carry f x u) (inl h) = ap (λ (y : ℕ). Carry f y u) (inlet-outside f x h.0)
  message-stays (Carry f x u) (inr h) = ap (λ (y : ℕ). Carry f y u) (inlet-stays f x h.0)
  message-stays (Begin c f x) h = ap (Begin c f) (inlet-stays f x h.0.0)
  message-stays (Make n f x) h = ap (Make n f) (inlet-stays f x h.0)
  message-stays (Ask_cell a i f x s) h = ap (λ (y : ℕ). Ask_cell a i f y s) (inlet-stays f x h.0)
  message-stays (Put_cell a i u s) h = refl

  -- the same messages
  pub messages-stay : (qs : List Message) → ((q : Message) → In q qs → Fits g w q) → map (thread_message g v) qs ≡ map (thread_message g w) qs
  messages-stay [] h = refl
  messages-stay (q ∷ qs) h = ap₂ (λ (m : Message) (l : List Message). m ∷ l) (message-stays q (h q (inl refl))) (messages-stay qs (λ z i. h z (inr i)))

  -- who takes messages does so
  pub for-stays : (f x : ℕ) → IsForMessages g w f x → IsForMessages g v f x
  for-stays f x h = (stays.there f h.0, subst (λ q. takes_messages (kind_at (code_of g q) x) ≡ true) (sym (stays.code f h.0)) h.1)

  -- what fits does so
  pub fits-stays : (q : Message) → Fits g w q → Fits g v q
  fits-stays (Carry f x u) (inl h) = inl h
  fits-stays (Carry f x u) (inr h) = inr (for-stays f x h)
  fits-stays (Begin c f x) h = (for-stays f x h.0, subst (λ q. kind_at (code_of g q) x ≡ Invoke c) (sym (stays.code f h.0.0)) h.1)
  fits-stays (Make n f x) h = for-stays f x h
  fits-stays (Ask_cell a i f x s) h = for-stays f x h
  fits-stays (Put_cell a i u s) h = tt

  -- the same readers
  readers-stay : (rs : List Reader) → ((r : Reader) → In r rs → IsThere w r.0) → map (thread_reader g v) rs ≡ map (thread_reader g w) rs
  readers-stay [] h = refl
  readers-stay (r ∷ rs) h = ap₂ (λ (x : Reader) (l : List Reader). x ∷ l) (ap (λ (y : ℕ). (r.0, y)) (inlet-stays r.0 r.1 (h r (inl refl))))
      (readers-stay rs (λ z i. h z (inr i)))

  -- the same cell
  cell-stays : (c : Cell) → ((rs : List Reader) (r : Reader) → c ≡ Empty rs → In r rs → IsThere w r.0) → thread_cell g v c ≡ thread_cell g w c
  cell-stays (Empty rs) h = ap Empty (readers-stay rs (λ r i. h rs r refl i))
  cell-stays (Filled u s) h = refl

  -- the same cells
  cells-stay : (cs : List Cell) → ((j : ℕ) (rs : List Reader) (r : Reader) → slice_get cs j ≡ Some (Empty rs) → In r rs → IsThere w r.0)
      → map (thread_cell g v) cs ≡ map (thread_cell g w) cs
  cells-stay [] h = refl
  cells-stay (c ∷ cs) h = ap₂ (λ (x : Cell) (l : List Cell). x ∷ l) (cell-stays c (λ rs r e i. h 0 rs r (ap Some e) i)) (cells-stay cs (λ j. h (suc j)))

  -- the same arrays
  pub arrays-stay : (rows : Arrays)
      → ((a j : ℕ) (rs : List Reader) (r : Reader) → slice_get (unwrap_or (slice_get rows a) []) j ≡ Some (Empty rs) → In r rs → IsThere w r.0)
      → thread_arrays g v rows ≡ thread_arrays g w rows
  arrays-stay [] h = refl
  arrays-stay (row ∷ rows) h = ap₂ (λ (x : List Cell) (l : Arrays). x ∷ l) (cells-stay row (λ j. h 0 j)) (arrays-stay rows (λ a. h (suc a)))
