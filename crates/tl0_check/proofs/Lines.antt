-- The faults of lines, told line by line.
use Rattle.std.proofs.Common.{◌≡◌, ℕ, ◌+◌, List, [], ◌∷◌, ◌++◌, map, length, take, refl, sym, ap, ◌∙◌, arith, append_assoc}
use Rattle.std.specs.Prelude.{Option, option_to_list}
use Rattle.tl0_code.specs.declared.bad_cause.BadCause.{BadCause}
use Rattle.tl0_code.specs.CodeRules.{faults_on}
use Rattle.tl0_check.specs.FirstFault.{faults_from}

-- where the first is none, there is none
pub none-taken : {X : Type 0} (xs : List X) → [] ≡ take 1 xs → xs ≡ []
none-taken [] h = refl
none-taken (x ∷ xs) h = absurd cc

-- the first of a list is the first of what begins with it
pub first-left : {X : Type 0} (xs ys : List X) (x : X) → take 1 xs ≡ x ∷ [] → take 1 (xs ++ ys) ≡ x ∷ []
first-left [] ys x h = absurd cc
first-left (z ∷ xs) ys x h = h

-- the first of what all become
first-map : {X Y : Type 0} (f : X → Y) (xs : List X) → take 1 (map f xs) ≡ map f (take 1 xs)
first-map f [] = refl
first-map f (x ∷ xs) = refl

-- lines, and further lines behind them
faults-append : (n k : ℕ) (xs ys : List (List BadCause)) → faults_from n k (xs ++ ys) ≡ faults_from n k xs ++ faults_from n (k + length xs) ys
faults-append n k [] ys = let none : k ≡ k + 0 = omega arith in ap (λ (m : ℕ). faults_from n m ys) none
faults-append n k (x ∷ xs) ys =
    let places : (k + 1) + length xs ≡ k + length (x ∷ xs) = omega arith in
    ap (λ (zs : List (ℕ × ℕ × BadCause)). faults_on n (k, x) ++ zs)
    (faults-append n (k + 1) xs ys ∙ ap (λ (m : ℕ). faults_from n (k + 1) xs ++ faults_from n m ys) places)
    ∙ sym (append_assoc (faults_on n (k, x)) (faults_from n (k + 1) xs) (faults_from n (k + length (x ∷ xs)) ys))

module _ (n k : ℕ) (line : List BadCause) (lines : List (List BadCause)) where
  -- a line without a fault
  pub line-clean : [] ≡ take 1 line → faults_from n k (line ∷ lines) ≡ faults_from n (k + 1) lines
  line-clean h = ap (λ (causes : List BadCause). faults_from n k (causes ∷ lines)) (none-taken line h)

  -- the first fault of a line
  pub line-told : (o : Option BadCause) (x : ℕ × ℕ × BadCause) → option_to_list o ≡ take 1 line
      → map (λ cause. (n, k, cause)) (option_to_list o) ≡ x ∷ [] → take 1 (faults_from n k (line ∷ lines)) ≡ x ∷ []
  line-told o x h e =
      first-left (faults_on n (k, line)) (faults_from n (k + 1) lines) x
      (first-map (λ (cause : BadCause). (n, k, cause)) line ∙ ap (map (λ (cause : BadCause). (n, k, cause))) (sym h) ∙ e)

module _ (n k : ℕ) (xs ys : List (List BadCause)) where
  -- lines without a fault
  pub lines-clean : faults_from n k xs ≡ [] → faults_from n k (xs ++ ys) ≡ faults_from n (k + length xs) ys
  lines-clean h = faults-append n k xs ys ∙ ap (λ (zs : List (ℕ × ℕ × BadCause)). zs ++ faults_from n (k + length xs) ys) h

  -- the first fault of lines
  pub lines-told : (x : ℕ × ℕ × BadCause) → take 1 (faults_from n k xs) ≡ x ∷ [] → take 1 (faults_from n k (xs ++ ys)) ≡ x ∷ []
  lines-told x h = ap (take 1) (faults-append n k xs ys) ∙ first-left (faults_from n k xs) (faults_from n (k + length xs) ys) x h

-- a line without a rule behind lines
pub line-behind : (n k : ℕ) (xs : List (List BadCause)) → faults_from n k (xs ++ [] ∷ []) ≡ faults_from n k xs
line-behind n k [] = refl
line-behind n k (x ∷ xs) = ap (λ (zs : List (ℕ × ℕ × BadCause)). faults_on n (k, x) ++ zs) (line-behind n (k + 1) xs)
