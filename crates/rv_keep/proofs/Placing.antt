-- Where parts of joined lists stand in the memory: words and instructions at the sum of the lengths before them.
use Rattle.std.proofs.Common.{◌≡◌, ◌≢◌, ℕ, zero, suc, ◌+◌, ◌*◌, ◌^◌, ◌<◌, List, [], ◌∷◌, ◌++◌, length, take, drop, flat_map, refl, sym, ap, ◌∙◌}
use Rattle.std.proofs.Common.{arith, subst, true, false, Bool, ◌==◌, slice_get, Some, inl, inr}
use Rattle.std.proofs.lemmas.List.{take-take, take_at, drop_at, drop-take, drop-drop, length-append}
use Rattle.std.proofs.lemmas.Grind.{flat_map-append}
use Rattle.tam_word.specs.Lists.{below}
use Rattle.tam_word.proofs.Members.{In}
use Rattle.tam_word.proofs.Tests.{number-eq, number-differs}
use Rattle.rv_inst.specs.declared.inst.Inst.{Inst}
use Rattle.rv_inst.specs.Harts.{read_at}
use Rattle.rv_inst.specs.Images.{bytes_of_words}
use Rattle.rv_inst.specs.Steps.{HoldsWords}
use Rattle.rv_inst.proofs.Bytes.{length-bytes_of_words}
use Rattle.rv_inst.proofs.Fetching.{holds-read}
use Rattle.rv_keep.specs.KernelFrames.{NumbersStand}
use Rattle.rv_keep.proofs.ImageLengths.{total, length-flat}
use Rattle.rv_keep.proofs.Standing.{AllInRange}
use Rattle.rv_keep.proofs.InRange.{all-joined}

-- words joined stand one behind the other
pub holds-split : (m : List ℕ) (a : ℕ) (xs ys : List ℕ) → HoldsWords m a (xs ++ ys) → HoldsWords m a xs × HoldsWords m (a + 4 * length xs) ys
holds-split m a xs ys h =
    let n : ℕ = 4 * length xs in
    let k : ℕ = 4 * length ys in
    let l : length (xs ++ ys) ≡ length xs + length ys = length-append xs ys in
    let e : 4 * length (xs ++ ys) ≡ n + k = omega arith in
    let b : bytes_of_words (xs ++ ys) ≡ bytes_of_words xs ++ bytes_of_words ys = flat_map-append (λ (w : ℕ). bytes_of_words (w ∷ [])) xs ys in
    let g : take (n + k) (drop a m) ≡ bytes_of_words xs ++ bytes_of_words ys = ap (λ (x : ℕ). take x (drop a m)) (sym e) ∙ (h ∙ b) in
    let u : length (bytes_of_words xs) ≡ n = length-bytes_of_words xs in (
      sym (take-take n (n + k) (drop a m) (omega arith)) ∙ (ap (λ (x : List ℕ). take n x) g ∙ take_at (bytes_of_words xs) (bytes_of_words ys) n u),
      ap (λ (x : List ℕ). take k x) (sym (drop-drop n a m))
          ∙ (sym (drop-take n k (drop a m)) ∙ (ap (λ (x : List ℕ). drop n x) g ∙ drop_at (bytes_of_words xs) (bytes_of_words ys) n u)),
    )

-- the first of them is read
pub holds-first : (m : List ℕ) (a w : ℕ) (ws : List ℕ) → HoldsWords m a (w ∷ ws) → w < 2 ^ 32 → read_at m a 4 ≡ w
holds-first m a w ws h u =
    let e : a + 4 * 0 ≡ a = omega arith in
    ap (λ (x : ℕ). read_at m x 4) (sym e) ∙ holds-read m a (w ∷ ws) 0 h (omega arith) u

-- the others stand behind it
pub holds-behind : (m : List ℕ) (a w : ℕ) (ws : List ℕ) → HoldsWords m a (w ∷ ws) → HoldsWords m (a + 4) ws
holds-behind m a w ws h = (holds-split m a (w ∷ []) ws h).1

-- words that are words stand as numbers
pub holds-numbers : (m : List ℕ) (a : ℕ) (ws : List ℕ) → ((w : ℕ) → In w ws → w < 2 ^ 32) → HoldsWords m a ws → NumbersStand m a ws
holds-numbers m a [] u h = tt
holds-numbers m a (w ∷ ws) u h = (holds-first m a w ws h (u w (inl refl)), holds-numbers m (a + 4) ws (λ x i. u x (inr i)) (holds-behind m a w ws h))

-- ---- parts of many

-- what splits: standing somewhere
abbrev pub Splits : {Y : Type 0} → (ℕ → List Y → Type 0) → Type 0
Splits {Y} At = (a : ℕ) (xs ys : List Y) → At a (xs ++ ys) → At a xs × At (a + 4 * length xs) ys

-- the list of element k stands behind those of the elements before it
pub stands-among : {X Y : Type 0} (At : ℕ → List Y → Type 0) → Splits At → (g : X → List Y) (xs : List X) (a k : ℕ) (x : X) → slice_get xs k ≡ Some x
    → At a (flat_map g xs) → At (a + 4 * total (λ y. length (g y)) (take k xs)) (g x)
stands-among At split g [] a k x e h = absurd cc
stands-among At split g (z ∷ xs) a zero x e h =
    let q : z ≡ x = cc in
    let o : a ≡ a + 4 * 0 = omega arith in
    subst (λ (n : ℕ). At n (g x)) o (subst (λ y. At a (g y)) q (split a (g z) (flat_map g xs) h).0)
stands-among At split g (z ∷ xs) a (suc k) x e h =
    let r = stands-among At split g xs (a + 4 * length (g z)) k x e (split a (g z) (flat_map g xs) h).1 in
    let o : a + 4 * length (g z) + 4 * total (λ y. length (g y)) (take k xs) ≡ a + 4 * (length (g z) + total (λ y. length (g y)) (take k xs)) = omega arith in
    subst (λ (n : ℕ). At n (g x)) o r

-- the same of the numbers below n
pub stands-below : {Y : Type 0} (At : ℕ → List Y → Type 0) → Splits At → (g : ℕ → List Y) (n a k : ℕ) → k < n
    → At a (flat_map g (below n)) → At (a + 4 * total (λ y. length (g y)) (below k)) (g k)
stands-below At split g zero a k l h = absurd (omega arith)
stands-below {Y} At split g (suc n) a k l h = go (k == n) refl (λ b q. stands-below At split g n a k b q)
  where
    joined : flat_map g (below n ++ n ∷ []) ≡ flat_map g (below n) ++ (g n ++ [])
    joined = flat_map-append g (below n) (n ∷ [])

    both : At a (flat_map g (below n)) × At (a + 4 * length (flat_map g (below n))) (g n ++ [])
    both = split a (flat_map g (below n)) (g n ++ []) (subst (λ (x : List Y). At a x) joined h)

    go : (t : Bool) → (k == n) ≡ t → (k < n → At a (flat_map g (below n)) → At (a + 4 * total (λ y. length (g y)) (below k)) (g k))
        → At (a + 4 * total (λ y. length (g y)) (below k)) (g k)
    go true q rest =
        let e : n ≡ k = sym (number-eq k n q) in
        let r : At (a + 4 * length (flat_map g (below n))) (g n) = (split (a + 4 * length (flat_map g (below n))) (g n) [] both.1).0 in
        let s : At (a + 4 * total (λ y. length (g y)) (below n)) (g n) = subst (λ (x : ℕ). At (a + 4 * x) (g n)) (length-flat g (below n)) r in
        subst (λ (x : ℕ). At (a + 4 * total (λ y. length (g y)) (below x)) (g x)) e s
    go false q rest =
        let d : k ≢ n = number-differs k n q in
        rest (omega arith) both.0

-- where all are in range, they are joined
pub all-flat : {X : Type 0} (g : X → List Inst) (xs : List X) → ((x : X) → In x xs → AllInRange (g x)) → AllInRange (flat_map g xs)
all-flat g [] r = tt
all-flat g (x ∷ xs) r = all-joined (g x) (flat_map g xs) (r x (inl refl)) (all-flat g xs (λ y i. r y (inr i)))
