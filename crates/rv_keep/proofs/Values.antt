-- The words of a run are words: what is on its way, and what cells have; and there are no more arrays than events.
use Rattle.std.proofs.Common.{◌≡◌, ℕ, zero, suc, ◌+◌, ◌^◌, ◌<◌, ◌≤◌, ◌⊎◌, List, [], ◌∷◌, ◌++◌, length, refl, sym, arith, subst, Option, Some, None}
use Rattle.std.proofs.Common.{slice_get, inl, inr}
use Rattle.std.specs.Prelude.{slice_set, replicate, unwrap_or, ⊤}
use Rattle.std.proofs.lemmas.List.{length-append}
use Rattle.tam_word.specs.Lists.{without_place}
use Rattle.tam_word.proofs.Members.{In, in-append, get-in}
use Rattle.tam_msgs.specs.declared.limits.Limits.{Limits}
use Rattle.tam_msgs.specs.declared.message.Message.{Message}
use Rattle.tam_msgs.specs.declared.message.Message.TheVariants.{Word as Carry, Frame as Begin, Cells as Make, Fetch as Ask_cell, Store as Put_cell}
use Rattle.tam_msgs.specs.Messages.{answers}
use Rattle.tam_istr.specs.Cells.{Reader, Cell, Empty, Filled, Arrays, with_array, with_cell, Access, Now, Deferred, Stored, Twice, NotBelow, NoArray}
use Rattle.tam_istr.specs.Cells.{fetch_of, store_of, in_array, fetched_from, stored_into}
use Rattle.tl0_code.specs.ThreadCode.{Program}
use Rattle.tl0_code.specs.Machines.{Machine}

-- ---- messages

-- the words of a message are words, and the code of one that asks for a frame is there
abbrev pub IsWords : Program → Message → Type 0
IsWords p (Carry f i w) = w < 2 ^ 32
IsWords p (Begin c f i) = (c < length p.codes) × (f < 2 ^ 32) × (i < 2 ^ 32)
IsWords p (Make n f i) = ⊤
IsWords p (Ask_cell a i f x s) = ⊤
IsWords p (Put_cell a i w s) = w < 2 ^ 32

-- ---- cells

-- a cell's word is a word
abbrev pub CellIs : Cell → Type 0
CellIs (Empty readers) = ⊤
CellIs (Filled w s) = w < 2 ^ 32

-- of all arrays
abbrev pub CellsAre : Arrays → Type 0
CellsAre arrays = (xs : List Cell) → In xs arrays → (c : Cell) → In c xs → CellIs c

-- an element of a list in which one is set is that, or one of the list
in-set : {X : Type 0} (xs : List X) (k : ℕ) (y x : X) → In x (slice_set xs k y) → In x xs ⊎ (y ≡ x)
in-set [] k y x h = absurd h
in-set (z ∷ xs) zero y x (inl p) = inr p
in-set (z ∷ xs) zero y x (inr h) = inl (inr h)
in-set (z ∷ xs) (suc k) y x (inl p) = inl (inl p)
in-set (z ∷ xs) (suc k) y x (inr h) = elim (in-set xs k y x h) [ inl a ↦ inl (inr a) | inr b ↦ inr b ]

-- an element of a list of the same
in-same : (n : ℕ) (c x : Cell) → In x (replicate n c) → c ≡ x
in-same zero c x h = absurd h
in-same (suc n) c x (inl p) = p
in-same (suc n) c x (inr h) = in-same n c x h

-- one that is left was there
in-without : {X : Type 0} (k : ℕ) (xs : List X) (x : X) → In x (without_place k xs) → In x xs
in-without zero [] x h = h
in-without (suc k) [] x h = h
in-without zero (z ∷ xs) x h = inr h
in-without (suc k) (z ∷ xs) x (inl p) = inl p
in-without (suc k) (z ∷ xs) x (inr h) = inr (in-without k xs x h)

-- a new array has no words
cells-more : (arrays : Arrays) (n : ℕ) → CellsAre arrays → CellsAre (with_array arrays n)
cells-more arrays n a xs i c j = elim (in-append xs arrays (replicate n (Empty []) ∷ []) i) [
  | inl k ↦ a xs k c j
  | inr k ↦ elim k [
    | inl q ↦ subst CellIs (in-same n (Empty []) c (subst (λ (y : List Cell). In c y) (sym q) j)) tt
    | inr q ↦ absurd q
  ]
]

-- what stands at a place of the arrays, or nothing
cells-at : (arrays : Arrays) (o : Option (List Cell)) (a : ℕ) → slice_get arrays a ≡ o → CellsAre arrays → (c : Cell) → In c (unwrap_or o []) → CellIs c
cells-at arrays None a e h c i = absurd i
cells-at arrays (Some xs) a e h c i = h xs (get-in arrays a xs e) c i

-- a cell that is changed
cells-changed : (arrays : Arrays) (a i : ℕ) (cell : Cell) → CellsAre arrays → CellIs cell → CellsAre (with_cell arrays a i cell)
cells-changed arrays a i cell h k xs j c l = elim (in-set arrays a (slice_set (unwrap_or (slice_get arrays a) []) i cell) xs j) [
  | inl q ↦ h xs q c l
  | inr q ↦ elim (in-set (unwrap_or (slice_get arrays a) []) i cell c (subst (λ (y : List Cell). In c y) (sym q) l)) [
    | inl u ↦ cells-at arrays (slice_get arrays a) a refl h c u
    | inr u ↦ subst CellIs u k
  ]
]

-- as many arrays
set-as-many : (xs : Arrays) (k : ℕ) (y : List Cell) → length (slice_set xs k y) ≡ length xs
set-as-many [] k y = refl
set-as-many (x ∷ xs) zero y = refl
set-as-many (x ∷ xs) (suc k) y = let e : length (slice_set xs k y) ≡ length xs = set-as-many xs k y in omega arith

-- ---- accesses

-- what comes of an access has words, and leaves as many arrays
abbrev pub AccessIs : ℕ → Access → Type 0
AccessIs n (Now u) = u < 2 ^ 32
AccessIs n (Deferred arrays) = CellsAre arrays × (length arrays ≡ n)
AccessIs n (Stored arrays readers) = CellsAre arrays × (length arrays ≡ n)
AccessIs n (Twice first) = ⊤
AccessIs n (NotBelow len) = ⊤
AccessIs n NoArray = ⊤

-- of an access to the cell that is there
abbrev CellAccess : ℕ → Arrays → ℕ → ℕ → (Option Cell → Access) → Type 0
CellAccess n arrays a i go = (xs : List Cell) (c : Cell) → slice_get arrays a ≡ Some xs → slice_get xs i ≡ Some c → AccessIs n (go (Some c))

-- so of an access
access-is : (n : ℕ) (arrays : Arrays) (a i : ℕ) (go : Option Cell → Access) (o : Option (List Cell)) → slice_get arrays a ≡ o → CellAccess n arrays a i go
    → AccessIs n (in_array i go o)
access-is n arrays a i go None e k = tt
access-is n arrays a i go (Some xs) e k = cell (slice_get xs i) refl
  where
    cell : (c : Option Cell) → slice_get xs i ≡ c → AccessIs n (in_array i go (Some xs))
    cell None q = rw (in_array, q) tt
    cell (Some c) q = rw (in_array, q) (k xs c e q)

-- a fetch
pub fetch-is : (arrays : Arrays) (a i : ℕ) (reader : Reader) → CellsAre arrays → AccessIs (length arrays) (fetched_from arrays a i reader)
fetch-is arrays a i reader h = access-is (length arrays) arrays a i (fetch_of arrays a i reader) (slice_get arrays a) refl (λ xs c e q. one xs c e q)
  where
    one : (xs : List Cell) (c : Cell) → slice_get arrays a ≡ Some xs → slice_get xs i ≡ Some c → AccessIs (length arrays) (fetch_of arrays a i reader (Some c))
    one xs (Empty readers) e q = (
      cells-changed arrays a i (Empty (readers ++ reader ∷ [])) h tt,
      set-as-many arrays a (slice_set (unwrap_or (slice_get arrays a) []) i (Empty (readers ++ reader ∷ []))),
    )
    one xs (Filled w s) e q = h xs (get-in arrays a xs e) (Filled w s) (get-in xs i (Filled w s) q)

-- a store
pub store-is : (arrays : Arrays) (a i w site : ℕ) → CellsAre arrays → w < 2 ^ 32 → AccessIs (length arrays) (stored_into arrays a i w site)
store-is arrays a i w site h l = access-is (length arrays) arrays a i (store_of arrays a i w site) (slice_get arrays a) refl (λ xs c e q. one c)
  where
    one : (c : Cell) → AccessIs (length arrays) (store_of arrays a i w site (Some c))
    one (Empty readers) = (
      cells-changed arrays a i (Filled w site) h l,
      set-as-many arrays a (slice_set (unwrap_or (slice_get arrays a) []) i (Filled w site)),
    )
    one (Filled v first) = tt

-- ---- the state

-- messages on their way have words
abbrev pub SentAre : Program → List Message → Type 0
SentAre p ms = (x : Message) → In x ms → IsWords p x

-- one more
pub sent-more : (p : Program) (ms : List Message) (x : Message) → SentAre p ms → IsWords p x → SentAre p (ms ++ x ∷ [])
sent-more p ms x a b y i = elim (in-append y ms (x ∷ []) i) [ inl k ↦ a y k | inr k ↦ elim k [ inl q ↦ subst (λ z. IsWords p z) q b | inr q ↦ absurd q ] ]

-- one fewer
pub sent-fewer : (p : Program) (k : ℕ) (ms : List Message) → SentAre p ms → SentAre p (without_place k ms)
sent-fewer p k ms a y i = a y (in-without k ms y i)

-- the answers to those who waited
pub answers-are : (p : Program) (w : ℕ) (rs : List Reader) (ms : List Message) → SentAre p ms → w < 2 ^ 32 → SentAre p (ms ++ answers w rs)
answers-are p w rs ms a l y i = elim (in-append y ms (answers w rs) i) [ inl k ↦ a y k | inr k ↦ each rs k ]
  where
    each : (qs : List Reader) → In y (answers w qs) → IsWords p y
    each [] h = absurd h
    each (q ∷ qs) (inl e) = subst (λ z. IsWords p z) e l
    each (q ∷ qs) (inr h) = each qs h

-- the values of a state
pub record Valued (p : Program) (limits : Limits) (m : Machine) : Type 0 where
  pub sent : SentAre p m.pending
  pub cells : CellsAre m.arrays
  pub few_arrays : length m.arrays ≤ m.events
  pub in_budget : m.events ≤ limits.budget

-- a new array has none
pub with-array-cells : (arrays : Arrays) (n : ℕ) → CellsAre arrays → CellsAre (with_array arrays n)
with-array-cells = cells-more

-- and is one more
pub with-array-many : (arrays : Arrays) (n : ℕ) → length (with_array arrays n) ≡ length arrays + 1
with-array-many arrays n = length-append arrays (replicate n (Empty []) ∷ [])
