-- The ladder's text is its graph's canonical text.
use Rattle.std.proofs.Common.{◌≡◌, ◌∙◌, ℕ, ◌+◌, ◌-◌, ◌<◌, ◌≤◌, ◌^◌, nat_lt, Bool, true, false, List, [], ◌∷◌, ◌++◌, refl, sym, ap, arith, tests}
use Rattle.std.proofs.Common.{map, flat_map, append_assoc}
use Rattle.std.specs.Prelude.{codes, decimal, if◌then◌else◌}
use Rattle.std.proofs.lemmas.List.Folds.{flat_map-map}
use Rattle.tam_word.specs.Lists.{below}
use Rattle.tam_word.specs.Words.{signed_text}
use Rattle.tam_word.proofs.Tests.{below-test}
use Rattle.tam_word.proofs.Members.{in-below}
use Rattle.tam_graph.specs.Graphs.{Code, Graph, code_of}
use Rattle.tam_graph.specs.Texts.{canonical}
use Rattle.tam_print.specs.PrintedLines.{code_text}
use Rattle.tam_print.proofs.Texts.{canonical-is}
use Rattle.tam_make.specs.MadeTexts.{ladder_main, ladder_text, step_text}
use Rattle.tam_make.proofs.Digits.{digits, each-digits, decimal-digits}
use Rattle.tam_make.proofs.TextWith.{text_with}
use Rattle.tam_make.proofs.Numbered.{flat_map-alike}
use Rattle.tam_make.proofs.LadderGraph.{step, step_called, step_of, step_name, main_code, ladder_graph}
use Rattle.tam_make.proofs.LadderFine.{step-there}

-- the lines that add once more, with the decimals left open
abbrev rungs_with : (ℕ → List ℕ) → List ℕ
rungs_with number = flat_map (λ i. codes "a" ++ (number (i + 2) ++ (codes " = add a" ++ (number (i + 1) ++ codes " k\n")))) (below 99)

-- a code's text, with its own number and the next one left open too
abbrev step_with : (ℕ → List ℕ) → List ℕ → List ℕ → Bool → List ℕ
step_with number own next more =
    codes "code s" ++ (own ++ (codes "\nx = param 0\nk = const " ++ (own ++ (codes "\na1 = add x k\n" ++ (rungs_with number ++ end_with next more)))))
  where
    end_with : List ℕ → Bool → List ℕ
    end_with next more =
        if more then codes "f = call s" ++ (next ++ codes "\narg f 0 a100\nr = ret f 0\nresult 0 r\nend\n") else codes "result 0 a100\nend\n"

-- how it ends, line by line
abbrev end_lines : List ℕ → Bool → List ℕ
end_lines next true = (codes "f = call s" ++ (next ++ codes "\n")) ++ codes "arg f 0 a100\nr = ret f 0\nresult 0 r\nend\n"
end_lines next false = codes "result 0 a100\nend\n"

-- behind its first rung, line by line
abbrev rest_lines : List ℕ → Bool → List ℕ
rest_lines next more = codes "a1 = add x k\n" ++ (rungs_with digits ++ end_lines next more)

-- behind its head, line by line
abbrev body_lines : List ℕ → List ℕ → Bool → List ℕ
body_lines own next more = codes "x = param 0\n" ++ ((codes "k = const " ++ (own ++ codes "\n")) ++ rest_lines next more)

-- the text of the code's nodes, line by line
closed_lines : (own next : List ℕ) (more : Bool) (k : ℕ)
    → text_with digits (λ w. own) (λ d. codes "s" ++ next) (step_called (codes "s" ++ own) more k)
    ≡ (codes "code s" ++ (own ++ codes "\n")) ++ body_lines own next more
closed_lines own next true k = refl
closed_lines own next false k = refl

-- is the text in one
closed : (own next : List ℕ) (more : Bool) (k : ℕ)
    → text_with digits (λ w. own) (λ d. codes "s" ++ next) (step_called (codes "s" ++ own) more k) ≡ step_with digits own next more
closed own next more k =
    closed_lines own next more k ∙ ap (λ l. codes "code s" ++ l) (append_assoc own (codes "\n") (body_lines own next more))
    ∙ ap (λ l. codes "code s" ++ (own ++ (codes "\nx = param 0\nk = const " ++ l))) (append_assoc own (codes "\n") (rest_lines next more))
    ∙ ends more
  where
    ends : (m : Bool) → codes "code s" ++ (own ++ (codes "\nx = param 0\nk = const " ++ (own ++ (codes "\n" ++ rest_lines next m)))) ≡ step_with
        digits own next m
    ends true =
        ap (λ l. codes "code s" ++ (own ++ (codes "\nx = param 0\nk = const " ++ (own ++ (codes "\na1 = add x k\n" ++ (rungs_with digits
        ++ (codes "f = call s" ++ l))))))) (append_assoc next (codes "\n") (codes "arg f 0 a100\nr = ret f 0\nresult 0 r\nend\n"))
    ends false = refl

-- a small word's text is its digits
small-word : (k : ℕ) → k < 2 ^ 31 → signed_text k ≡ digits k
small-word k l = ap (λ (t : Bool). if t then decimal k else 45 ∷ decimal (2 ^ 32 - k)) (below-test k (2 ^ 31) l) ∙ each-digits k

-- the canonical text of a code
open_text : (g : Graph) (more : Bool) (k : ℕ)
    → code_text g (step more k) ≡ text_with decimal (λ w. signed_text k) (λ d. (code_of g (k + 1)).name) (step more k)
open_text g true k = refl
open_text g false k = refl

-- where its call names the next one
canonical-step : (g : Graph) (more : Bool) (k : ℕ) → k < 2 ^ 31 → (more ≡ true → (code_of g (k + 1)).name ≡ step_name (k + 1))
    → code_text g (step more k) ≡ step_with digits (digits k) (digits (k + 1)) more
canonical-step g more k l name =
    open_text g more k ∙ ap (λ f. text_with f (λ w. signed_text k) (λ d. (code_of g (k + 1)).name) (step more k)) decimal-digits
    ∙ ap (λ t. text_with digits (λ w. t) (λ d. (code_of g (k + 1)).name) (step more k)) (small-word k l)
    ∙ named_call more name ∙ closed (digits k) (digits (k + 1)) more k
  where
    named_call : (m : Bool) → (m ≡ true → (code_of g (k + 1)).name ≡ step_name (k + 1))
        → text_with digits (λ w. digits k) (λ d. (code_of g (k + 1)).name) (step m k) ≡ text_with digits (λ w. digits k) (λ d. step_name (k + 1)) (step m k)
    named_call true e = ap (λ t. text_with digits (λ w. digits k) (λ d. t) (step true k)) (e refl)
    named_call false e = refl

-- the text that is made of a code
made-step : (n k : ℕ) → step_with digits (digits k) (digits (k + 1)) (nat_lt k n) ≡ step_text n k
made-step n k = ap (λ f. step_with f (f k) (f (k + 1)) (nat_lt k n)) (sym decimal-digits)

-- the canonical text of `main`
canonical-main : (g : Graph) → (code_of g 1).name ≡ step_name 1 → code_text g main_code ≡ ladder_main
canonical-main g name =
    let open_text : code_text g main_code ≡ text_with decimal (λ w. []) (λ d. (code_of g 1).name) main_code = refl in
    let closed : text_with digits (λ w. []) (λ d. step_name 1) main_code ≡ ladder_main = refl in
    open_text ∙ ap (λ f. text_with f (λ w. []) (λ d. (code_of g 1).name) main_code) decimal-digits
    ∙ ap (λ t. text_with digits (λ w. []) (λ d. t) main_code) name ∙ closed

module _ (n : ℕ) (some : 0 < n) (few : n ≤ 200) where
  -- the name of code i + 1
  name-there : (i : ℕ) → i < n → (code_of (ladder_graph n) (i + 1)).name ≡ step_name (i + 1)
  name-there i l = ap (λ (c : Code). c.name) (step-there n some few i l)

  -- the text of code i + 1
  step-is : (i : ℕ) → i < n → code_text (ladder_graph n) (step_of n i) ≡ step_text n (i + 1)
  step-is i l =
      canonical-step (ladder_graph n) (nat_lt (i + 1) n) (i + 1) (omega arith)
      (λ e. let less : i + 1 < n = grind (arith, tests) in name-there (i + 1) less) ∙ made-step n (i + 1)

  -- the whole text
  pub ladder-text : canonical (ladder_graph n) ≡ ladder_text n
  ladder-text =
      canonical-is (ladder_graph n)
      ∙ ap (λ l. codes "dg 1\n" ++ (l ++ flat_map (code_text (ladder_graph n)) (map (step_of n) (below n))))
      (canonical-main (ladder_graph n) (name-there 0 some))
      ∙ ap (λ l. codes "dg 1\n" ++ (ladder_main ++ l))
      (flat_map-map (code_text (ladder_graph n)) (step_of n) (below n)
      ∙ flat_map-alike (λ i. code_text (ladder_graph n) (step_of n i)) (λ i. step_text n (i + 1)) (below n) (λ i m. step-is i (in-below i n m)))
