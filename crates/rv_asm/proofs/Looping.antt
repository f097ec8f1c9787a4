-- The first pass as a loop goes: the faults from a line on are all faults, as long as there was none.
use Rattle.std.proofs.Common.{◌≡◌, ℕ, ◌+◌, List, [], ◌∷◌, ◌++◌, map, take, Option, Some, None, refl, sym, ap, ◌∙◌}
use Rattle.std.specs.Prelude.{option_to_list, IfNone}
use Rattle.rv_asm.specs.declared.asm_error.AsmCause.{AsmCause}
use Rattle.rv_asm.specs.Tokens.{tokens_of}
use Rattle.rv_asm.specs.Faults.{Said, with_tokens, faults_of_line, faults_at_end, first_pass, said_from}

-- the first of causes is the first of the faults
by_fault : {X : Type 0} (f : X → ℕ × X) (xs : List X) (rest total : List (ℕ × X)) (x : X) → x ∷ [] ≡ take 1 xs → map f xs ++ rest ≡ total
    → take 1 total ≡ f x ∷ []
by_fault f [] rest total x e t = absurd cc
by_fault f (y ∷ ys) rest total x e t = let same : x ≡ y = cc in ap (take 1) (sym t) ∙ ap (λ z. f z ∷ []) (sym same)

-- where there is none, the rest is all
by_none : {X : Type 0} (f : X → ℕ × X) (xs : List X) (rest total : List (ℕ × X)) → [] ≡ take 1 xs → map f xs ++ rest ≡ total → rest ≡ total
by_none f [] rest total e t = t
by_none f (y ∷ ys) rest total e t = absurd cc

-- with nothing behind
with_nothing : {X : Type 0} (xs : List X) → xs ++ [] ≡ xs
with_nothing [] = refl
with_nothing (x ∷ xs) = ap (λ ys. x ∷ ys) (with_nothing xs)

module _ (last : ℕ) (s : Said) (n : ℕ) (lines : List (List ℕ)) (total : List (ℕ × AsmCause)) (so_far : first_pass last s n lines ≡ total) where
  -- where the line is one of several
  lines_at : (line : List ℕ) (after : List (List ℕ)) → lines ≡ line ∷ after
      → map (λ c. (n, c)) (faults_of_line s line) ++ first_pass last (with_tokens n (tokens_of line) s) (n + 1) after ≡ total
  lines_at line after e = ap (first_pass last s n) (sym e) ∙ so_far

  -- the fault of a line
  pub found_here : (line : List ℕ) (after : List (List ℕ)) → lines ≡ line ∷ after → (o : Option AsmCause) (c : AsmCause)
      → option_to_list o ≡ take 1 (faults_of_line s line) → o ≡ Some c → take 1 total ≡ (n, c) ∷ []
  found_here line after e o c f is =
      by_fault (λ d. (n, d)) (faults_of_line s line) _ total c (ap option_to_list (sym is) ∙ f) (lines_at line after e)

  -- a line without a fault
  pub goes_on : (line : List ℕ) (after : List (List ℕ)) → lines ≡ line ∷ after → (o : Option AsmCause) (t : Said)
      → option_to_list o ≡ take 1 (faults_of_line s line) → o ≡ None → IfNone o (t ≡ with_tokens n (tokens_of line) s)
      → first_pass last t (n + 1) after ≡ total
  goes_on line after e o t f is new =
      let here : t ≡ with_tokens n (tokens_of line) s = rw is at new in
      ap (λ q. first_pass last q (n + 1) after) here ∙ by_none (λ d. (n, d)) (faults_of_line s line) _ total (ap option_to_list (sym is) ∙ f)
      (lines_at line after e)

  -- at the end of the lines
  at_end : lines ≡ [] → map (λ c. (last, c)) (faults_at_end s) ++ [] ≡ total
  at_end e = with_nothing _ ∙ ap (first_pass last s n) (sym e) ∙ so_far

  -- the fault at the end
  pub found_at_end : lines ≡ [] → (o : Option AsmCause) (c : AsmCause) → option_to_list o ≡ take 1 (faults_at_end s) → o ≡ Some c
      → take 1 total ≡ (last, c) ∷ []
  found_at_end e o c f is = by_fault (λ d. (last, d)) (faults_at_end s) [] total c (ap option_to_list (sym is) ∙ f) (at_end e)

  -- or none
  pub none_at_end : lines ≡ [] → (o : Option AsmCause) → option_to_list o ≡ take 1 (faults_at_end s) → o ≡ None → total ≡ []
  none_at_end e o f is = sym (by_none (λ d. (last, d)) (faults_at_end s) [] total (ap option_to_list (sym is) ∙ f) (at_end e))

-- a line adds what it says
pub said_on : (s : Said) (n : ℕ) (lines : List (List ℕ)) (total : Said) → said_from s n lines ≡ total
    → (line : List ℕ) (after : List (List ℕ)) → lines ≡ line ∷ after → (o : Option AsmCause) (t : Said) → o ≡ None
    → IfNone o (t ≡ with_tokens n (tokens_of line) s) → said_from t (n + 1) after ≡ total
said_on s n lines total so_far line after e o t is new =
    let here : t ≡ with_tokens n (tokens_of line) s = rw is at new in
    ap (λ q. said_from q (n + 1) after) here ∙ ap (said_from s n) (sym e) ∙ so_far

-- at the end all is said
pub said_at_end : (s : Said) (n : ℕ) (lines : List (List ℕ)) (total : Said) → said_from s n lines ≡ total → lines ≡ [] → s ≡ total
said_at_end s n lines total so_far e = ap (said_from s n) (sym e) ∙ so_far
