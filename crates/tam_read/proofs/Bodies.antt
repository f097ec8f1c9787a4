-- The lines of a code one by one, as the loop over them goes.
use Rattle.std.proofs.Common.{◌≡◌, ℕ, suc, ◌+◌, ◌-◌, ◌≤◌, List, [], ◌∷◌, ◌++◌, length, map, take, drop, get_or, Some, Option, refl, sym, ap, subst, ◌∙◌, arith}
use Rattle.std.specs.Prelude.{option_to_list}
use Rattle.std.proofs.Math.Seq.{take-length}
use Rattle.tam_read.specs.declared.line.Line.{Line}
use Rattle.tam_read.specs.declared.cause.ReadCause.{ReadCause}
use Rattle.tam_read.specs.declared.refused.Refused.{Refused}
use Rattle.tam_read.specs.LineView.{saying, sayings_of, numbered}
use Rattle.tam_read.specs.Naming.{Known, faults_known, faults_within}
use Rattle.tam_read.specs.Building.{Built, built, built_behind}
use Rattle.tam_read.specs.Refusals.{IsFirst}
use Rattle.tam_read.proofs.Growing.{few-nodes, few-owners, first-before}

-- a list is its first element and the others
pub first-and-others : {X : Type 0} (xs : List X) (x : X) → 1 ≤ length xs → x ≡ get_or xs 0 x → xs ≡ x ∷ take (length xs - 1) (drop 1 xs)
first-and-others [] x l e = absurd (omega arith)
first-and-others (y ∷ ys) x l e =
    let one_less : suc (length ys) - 1 ≡ length ys = omega arith in
    ap (λ z. z ∷ ys) (sym e) ∙ ap (λ zs. x ∷ zs) (sym (ap (λ n. take n ys) one_less ∙ take-length ys))

-- the first of causes is the first of a line's faults
pub first-cause : (f : ReadCause → ℕ × ReadCause) (c : ReadCause) (cs : List ReadCause) → c ∷ [] ≡ take 1 cs → take 1 (map f cs) ≡ f c ∷ []
first-cause f c [] e = absurd cc
first-cause f c (d ∷ cs) e = let same : c ≡ d = cc in ap (λ z. f z ∷ []) (sym same)

module _ (k : Known) (line : Line) (rest others : List Line) (parts : rest ≡ line ∷ others) where
  -- what is built goes on
  pub built-on : (old new total : Built) → built k old (sayings_of rest) ≡ total → new ≡ built_behind k old (saying line)
      → built k new (sayings_of others) ≡ total
  built-on old new total h e = ap (λ b. built k b (sayings_of others)) e ∙ (ap (λ r. built k old (sayings_of r)) (sym parts) ∙ h)

  -- and so do the faults, where the line has none
  pub faults-on : (total : List (ℕ × ReadCause)) → faults_within k (map numbered rest) ≡ total → faults_known k (saying line) ≡ []
      → faults_within k (map numbered others) ≡ total
  faults-on total h e = sym (ap (λ r. faults_within k (map numbered r)) parts
      ∙ ap (λ cs. map (λ c. (line.number, c)) cs ++ faults_within k (map numbered others)) e) ∙ h

  -- a line's refusal is that of the lines
  pub refused-here : (total : List (ℕ × ReadCause)) (e : Refused) → faults_within k (map numbered rest) ≡ total
      → IsFirst (map (λ c. (line.number, c)) (faults_known k (saying line))) e → IsFirst total e
  refused-here total e h first =
      subst (λ fs. IsFirst fs e) (ap (λ r. faults_within k (map numbered r)) (sym parts) ∙ h)
      (first-before (map (λ c. (line.number, c)) (faults_known k (saying line))) (faults_within k (map numbered others)) e first)

  -- at most one node and one block were built
  pub nodes-on : (old new : Built) (most : ℕ) → length old.nodes + length rest ≤ most → new ≡ built_behind k old (saying line)
      → length new.nodes + length others ≤ most
  nodes-on old new most h e = omega (arith, ap (λ b. length b.nodes) e, few-nodes k old (saying line) line.verb, ap length parts)

  pub owners-on : (old new : Built) (most : ℕ) → length old.owners + length rest ≤ most → new ≡ built_behind k old (saying line)
      → length new.owners + length others ≤ most
  owners-on old new most h e = omega (arith, ap (λ b. length b.owners) e, few-owners k old (saying line) line.verb, ap length parts)
