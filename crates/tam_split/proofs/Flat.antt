-- Classes one behind the other in one list: where each begins and ends, and what is cut out again.
use Rattle.std.proofs.Common.{◌≡◌, ℕ, zero, suc, ◌+◌, ◌-◌, ◌<◌, List, [], ◌∷◌, ◌++◌, refl, sym, ap, ap₂, subst, ◌∙◌, arith, length, map, take}
use Rattle.std.proofs.Common.{drop, get_or}
use Rattle.std.proofs.Common.{append_assoc, length-append}
use Rattle.std.specs.List.{concat}
use Rattle.std.specs.Prelude.{slice_range}
use Rattle.std.proofs.lemmas.List.{take_at, drop_at}
use Rattle.tam_split.specs.Partitions.{Parts}
use Rattle.tam_split.specs.KeptParts.{cut_from, ends_from}

-- ---- pieces of a list

-- the piece that stands behind xs
pub range-behind : (xs ys zs : List ℕ) (i j : ℕ) → i ≡ length xs → j ≡ i + length ys → slice_range (xs ++ (ys ++ zs)) i j ≡ ys
range-behind xs ys zs i j p q =
    let d : drop i (xs ++ (ys ++ zs)) ≡ ys ++ zs = drop_at xs (ys ++ zs) i (sym p) in
    let n : length ys ≡ j - i = omega arith in
    ap (λ ws. take (j - i) ws) d ∙ take_at ys zs (j - i) n

-- ---- cutting

-- the classes behind a list are cut out of it again
pub cut-flat : (xs : List ℕ) (ps : Parts) (n : ℕ) → n ≡ length xs → cut_from n (xs ++ concat ps) (ends_from n ps) ≡ ps
cut-flat xs [] n e = refl
cut-flat xs (p ∷ ps) n e =
    let here : slice_range (xs ++ (p ++ concat ps)) n (n + length p) ≡ p = range-behind xs p (concat ps) n (n + length p) e refl in
    let long : n + length p ≡ length (xs ++ p) = omega (arith, length-append xs p) in
    let rest : cut_from (n + length p) ((xs ++ p) ++ concat ps) (ends_from (n + length p) ps) ≡ ps = cut-flat (xs ++ p) ps (n + length p) long in
    let same : (xs ++ p) ++ concat ps ≡ xs ++ (p ++ concat ps) = append_assoc xs p (concat ps) in
    ap₂ (λ a b. a ∷ b) here (subst (λ ws. cut_from (n + length p) ws (ends_from (n + length p) ps) ≡ ps) same rest)

-- all of them, from the beginning
pub cut-all : (ps : Parts) → cut_from 0 (concat ps) (ends_from 0 ps) ≡ ps
cut-all ps = cut-flat [] ps 0 refl

-- ---- ends

-- there is one for each class
pub length-ends : (n : ℕ) (ps : Parts) → length (ends_from n ps) ≡ length ps
length-ends n [] = refl
length-ends n (p ∷ ps) = ap suc (length-ends (n + length p) ps)

-- the classes of a cut are as many as its ends
pub length-cut : (n : ℕ) (places ends : List ℕ) → length (cut_from n places ends) ≡ length ends
length-cut n places [] = refl
length-cut n places (e ∷ ends) = ap suc (length-cut e places ends)

-- of classes in front of others
pub ends-append : (n : ℕ) (ps qs : Parts) → ends_from n (ps ++ qs) ≡ ends_from n ps ++ ends_from (n + length (concat ps)) qs
ends-append n [] qs = ap (λ m. ends_from m qs) (let e : n ≡ n + 0 = omega arith in e)
ends-append n (p ∷ ps) qs =
    let i : ends_from (n + length p) (ps ++ qs) ≡ ends_from (n + length p) ps ++ ends_from (n + length p + length (concat ps)) qs = ends-append
    (n + length p) ps qs in
    let m : n + length p + length (concat ps) ≡ n + length (p ++ concat ps) = omega (arith, length-append p (concat ps)) in
    ap (λ es. (n + length p) ∷ es) (i ∙ ap (λ k. ends_from (n + length p) ps ++ ends_from k qs) m)

-- where the class behind others begins
pub start-behind : (n : ℕ) (ps qs : Parts) → get_or (n ∷ ends_from n (ps ++ qs)) (length ps) 0 ≡ n + length (concat ps)
start-behind n [] qs = let e : n ≡ n + 0 = omega arith in e
start-behind n (p ∷ ps) qs =
    let i : get_or ((n + length p) ∷ ends_from (n + length p) (ps ++ qs)) (length ps) 0 ≡ n + length p + length (concat ps) = start-behind
    (n + length p) ps qs in
    let m : n + length p + length (concat ps) ≡ n + length (p ++ concat ps) = omega (arith, length-append p (concat ps)) in i ∙ m

-- where it ends
pub end-behind : (n : ℕ) (ps : Parts) (q : List ℕ) (qs : Parts) → get_or (ends_from n (ps ++ q ∷ qs)) (length ps) 0 ≡ n + length (concat ps) + length q
end-behind n [] q qs = let e : n + length q ≡ n + 0 + length q = omega arith in e
end-behind n (p ∷ ps) q qs =
    let i : get_or (ends_from (n + length p) (ps ++ q ∷ qs)) (length ps) 0 ≡ n + length p + length (concat ps) + length q = end-behind (n + length p) ps q qs in
    let m : n + length p + length (concat ps) + length q ≡ n + length (p ++ concat ps) + length q = omega (arith, length-append p (concat ps)) in i ∙ m

-- classes that are moved on end later by as much
pub ends-moved : (n m : ℕ) (ps : Parts) → map (λ e. e + m) (ends_from n ps) ≡ ends_from (n + m) ps
ends-moved n m [] = refl
ends-moved n m (p ∷ ps) =
    let e : n + length p + m ≡ n + m + length p = omega arith in
    ap₂ (λ x es. x ∷ es) e (ends-moved (n + length p) m ps ∙ ap (λ k. ends_from k ps) e)

-- ---- classes side by side

-- lists of two lists of classes
pub concat-append : (ps qs : Parts) → concat (ps ++ qs) ≡ concat ps ++ concat qs
concat-append [] qs = refl
concat-append (p ∷ ps) qs = ap (λ xs. p ++ xs) (concat-append ps qs) ∙ sym (append_assoc p (concat ps) (concat qs))

-- a class, and those before and behind it
pub record Around (ps : Parts) (k : ℕ) : Type 0 where
  pub before : Parts
  pub here : List ℕ
  pub behind : Parts
  pub all : ps ≡ before ++ here ∷ behind
  pub number : length before ≡ k

-- each class has such neighbours
pub around : (ps : Parts) (k : ℕ) → k < length ps → Around ps k
around [] k h = absurd (omega arith)
around (p ∷ ps) zero h = record { before = []; here = p; behind = ps; all = refl; number = refl }
around (p ∷ ps) (suc k) h =
    let r = around ps k (omega arith) in
    record { before = p ∷ r.before; here = r.here; behind = r.behind; all = ap (λ qs. p ∷ qs) r.all; number = ap suc r.number }
