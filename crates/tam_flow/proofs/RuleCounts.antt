-- How much the rules give at least: activations and arrays by their numbers, and one more.
use Rattle.std.proofs.Common.{◌≡◌, ◌≢◌, ℕ, zero, suc, ◌+◌, ◌<◌, ◌≤◌, List, [], ◌∷◌, length, map, All, AllPairs, slice_get, refl, sym, ap, ap₂, ◌∙◌, arith}
use Rattle.std.proofs.Common.{sum_by, unwrap_or}
use Rattle.std.proofs.lemmas.List.{length-map}
use Rattle.std.proofs.lemmas.List.Sums.{sum_by-cons}
use Rattle.std.specs.List.{AllByRecursion}
use Rattle.tam_word.proofs.Each.{all-map}
use Rattle.tam_graph.specs.Graphs.{Graph}
use Rattle.tam_fire.specs.FiringRules.{Path, Word, Fact, Begun, Fired, Known, Holds, node_of, IsAlloc, Asked, cells_of}
use Rattle.tam_fire.proofs.Following.{known-together}
use Rattle.tam_istr.specs.Cells.{Arrays, cells_used}
use Rattle.tam_flow.proofs.Pairs.{Pairs}
use Rattle.tam_flow.specs.Headline.{TooManyActivations, TooManyCells}

-- ---- lists

-- what holds of each element, by recursion, holds at each place
all-places : {X : Type 0} (P : X → Type 0) (xs : List X) → AllByRecursion P xs → All P xs
all-places P [] h k d l = absurd (omega arith)
all-places P (x ∷ xs) h zero d l = h.0
all-places P (x ∷ xs) h (suc k) d l = all-places P xs h.1 k d (omega arith)

-- and so what holds of each two
pairs-places : {X : Type 0} (R : X → X → Type 0) (xs : List X) → Pairs R xs → AllPairs R xs
pairs-places R [] h i j d l m = absurd (omega arith)
pairs-places R (x ∷ xs) h i zero d l m = absurd (omega arith)
pairs-places R (x ∷ xs) h zero (suc j) d l m = all-places (R x) xs h.0 j d (omega arith)
pairs-places R (x ∷ xs) h (suc i) (suc j) d l m = pairs-places R xs h.1 i j d (omega arith) (omega arith)

-- the numbers from k on, n of them
abbrev pub from_on : ℕ → ℕ → List ℕ
from_on k zero = []
from_on k (suc n) = k ∷ from_on (suc k) n

-- what holds of the numbers there holds of each of them
from-each : (P : ℕ → Type 0) (k n : ℕ) → ((j : ℕ) → k ≤ j → j < k + n → P j) → AllByRecursion P (from_on k n)
from-each P k zero f = tt
from-each P k (suc n) f = (f k (omega arith) (omega arith), from-each P (suc k) n (λ j l m. f j (omega (arith, l)) (omega (arith, m))))

-- f of any two of them meets where it does at any two numbers there
from-pairs : {X : Type 0} (f : ℕ → X) (R : X → X → Type 0) (k n : ℕ) → ((i j : ℕ) → i < j → j < k + n → R (f i) (f j)) → Pairs R (map f (from_on k n))
from-pairs f R k zero h = tt
from-pairs f R k (suc n) h = (
  all-map (R (f k)) f (from_on (suc k) n) (from-each (λ j. R (f k) (f j)) (suc k) n (λ j l m. h k j (omega (arith, l)) (omega (arith, m)))),
  from-pairs f R (suc k) n (λ i j l m. h i j l (omega (arith, m))),
)

-- there are n
from-length : (k n : ℕ) → length (from_on k n) ≡ n
from-length k zero = refl
from-length k (suc n) = ap suc (from-length (suc k) n)

-- the sizes of the rows, summed by their numbers
rows-sum : {Y : Type 0} (f : Y → ℕ) (h : ℕ → Y) (all rows : Arrays) (k : ℕ) → ((j : ℕ) → slice_get rows j ≡ slice_get all (k + j))
    → ((j : ℕ) → f (h j) ≡ length (unwrap_or (slice_get all j) [])) → sum_by f (map h (from_on k (length rows))) ≡ sum_by length rows
rows-sum f h all [] k same long = refl
rows-sum f h all (r ∷ rows) k same long =
    sum_by-cons f (h k) (map h (from_on (suc k) (length rows))) ∙ (ap₂ (λ (a b : ℕ). a + b) here
    (rows-sum f h all rows (suc k) (λ j. let e : k + suc j ≡ suc k + j = omega arith in same (suc j) ∙ ap (slice_get all) e) long)
    ∙ sym (sum_by-cons length r rows))
  where
    here : f (h k) ≡ length r
    here = let e : k + 0 ≡ k = omega arith in long k ∙ ap (λ o. length (unwrap_or o [])) (sym (same 0 ∙ ap (slice_get all) e))

module _ (g : Graph) (args : List ℕ) where
  -- ---- activations

  -- paths that have begun are known to after one number of unfoldings
  begun-each : (n : ℕ) (qs : List Path) → AllByRecursion (Known g args n) (map Begun qs) → AllByRecursion (λ q. Known g args n (Begun q)) qs
  begun-each n [] h = tt
  begun-each n (q ∷ qs) h = (h.0, begun-each n qs h.1)

  -- n activations by their numbers and one more are more than n
  pub one-more_activation : (q : Path) (f : ℕ → Path) (n : ℕ) → Holds g args (Begun q) → ((j : ℕ) → j < n → Holds g args (Begun (f j)))
      → ((j : ℕ) → j < n → q ≢ f j) → ((i j : ℕ) → i < j → j < n → f i ≢ f j) → TooManyActivations g args n
  one-more_activation q f n new old apart differ = (
    known.0,
    q ∷ map f (from_on 0 n),
    record {
      different = pairs-places (λ p r. p ≢ r) (q ∷ map f (from_on 0 n)) (
        all-map (λ r. q ≢ r) f (from_on 0 n) (from-each (λ j. q ≢ f j) 0 n (λ j l m. apart j (omega (arith, m)))),
        from-pairs f (λ p r. p ≢ r) 0 n (λ i j l m. differ i j l (omega (arith, m))),
      );
      begun = all-places (λ r. Known g args known.0 (Begun r)) (q ∷ map f (from_on 0 n)) (begun-each known.0 (q ∷ map f (from_on 0 n)) known.1);
    },
    omega (arith, length-map (from_on 0 n) f, from-length 0 n),
  )
    where
      known : (k : ℕ) × AllByRecursion (Known g args k) (map Begun (q ∷ map f (from_on 0 n)))
      known = known-together g args (map Begun (q ∷ map f (from_on 0 n))) (
        new,
        all-map (Holds g args) Begun (map f (from_on 0 n)) (all-map (λ r. Holds g args (Begun r)) f (from_on 0 n)
            (from-each (λ j. Holds g args (Begun (f j))) 0 n (λ j l m. old j (omega (arith, m))))),
      )

  -- ---- arrays

  -- the ask of an alloc has fired with its length
  abbrev pub HasAsked : Asked → Type 0
  HasAsked a = IsAlloc (node_of g a.path a.node) × Holds g args (Fired a.path a.node (Word a.len ∷ []))

  -- two allocs differ
  abbrev pub AsksDiffer : Asked → Asked → Type 0
  AsksDiffer a b = ◌≢◌ {A = Path × ℕ} (a.path, a.node) (b.path, b.node)

  -- the fact that an ask has fired
  abbrev asked : Asked → Fact
  asked a = Fired a.path a.node (Word a.len ∷ [])

  -- asks that have fired are known to after one number of unfoldings
  asked-each : (n : ℕ) (asks : List Asked) → AllByRecursion (Known g args n) (map asked asks) → AllByRecursion (λ a. Known g args n (asked a)) asks
  asked-each n [] h = tt
  asked-each n (a ∷ asks) h = (h.0, asked-each n asks h.1)

  -- the arrays by their numbers and one more have the cells of all of them
  pub one-more_array : (a : Asked) (h : ℕ → Asked) (arrays : Arrays) (limit : ℕ) → HasAsked a → ((j : ℕ) → j < length arrays → HasAsked (h j))
      → ((j : ℕ) → j < length arrays → AsksDiffer a (h j)) → ((i j : ℕ) → i < j → j < length arrays → AsksDiffer (h i) (h j))
      → ((j : ℕ) → (h j).len ≡ length (unwrap_or (slice_get arrays j) [])) → limit < cells_used arrays + a.len → TooManyCells g args limit
  one-more_array a h arrays limit new old apart differ long beyond = (
    known.0,
    a ∷ map h (from_on 0 (length arrays)),
    record {
      different = pairs-places AsksDiffer (a ∷ map h (from_on 0 (length arrays))) (
        all-map (AsksDiffer a) h (from_on 0 (length arrays))
            (from-each (λ j. AsksDiffer a (h j)) 0 (length arrays) (λ j l m. apart j (omega (arith, m)))),
        from-pairs h AsksDiffer 0 (length arrays) (λ i j l m. differ i j l (omega (arith, m))),
      );
      allocs = all-places (λ b. IsAlloc (node_of g b.path b.node)) (a ∷ map h (from_on 0 (length arrays))) (
        new.0,
        all-map (λ b. IsAlloc (node_of g b.path b.node)) h (from_on 0 (length arrays))
            (from-each (λ j. IsAlloc (node_of g (h j).path (h j).node)) 0 (length arrays) (λ j l m. (old j (omega (arith, m))).0)),
      );
      fired = all-places (λ b. Known g args known.0 (asked b)) (a ∷ map h (from_on 0 (length arrays)))
          (asked-each known.0 (a ∷ map h (from_on 0 (length arrays))) known.1);
    },
    omega (arith, beyond, sum),
  )
    where
      known : (k : ℕ) × AllByRecursion (Known g args k) (map asked (a ∷ map h (from_on 0 (length arrays))))
      known = known-together g args (map asked (a ∷ map h (from_on 0 (length arrays)))) (
        new.1,
        all-map (Holds g args) asked (map h (from_on 0 (length arrays))) (all-map (λ b. Holds g args (asked b)) h (from_on 0 (length arrays))
            (from-each (λ j. Holds g args (asked (h j))) 0 (length arrays) (λ j l m. (old j (omega (arith, m))).1))),
      )

      sum : cells_of (a ∷ map h (from_on 0 (length arrays))) ≡ a.len + cells_used arrays
      sum = sum_by-cons (λ (b : Asked). b.len) a (map h (from_on 0 (length arrays)))
          ∙ ap (λ n. a.len + n) (rows-sum (λ (b : Asked). b.len) h arrays arrays 0 (λ j. let e : j ≡ 0 + j = omega arith in ap (slice_get arrays) e) long)
