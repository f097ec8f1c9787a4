-- What the two passes find is the first fault of the text.
use Rattle.std.proofs.Common.{◌≡◌, ℕ, ◌+◌, List, [], ◌∷◌, map, take, sym, ap, subst, ◌∙◌}
use Rattle.std.specs.Prelude.{Result, Ok, Err, IfErr}
use Rattle.std.specs.Result.{IsErrAnd}
use Rattle.tam_text.specs.Lines.{lines_of}
use Rattle.tam_read.specs.declared.cause.ReadCause.{ReadCause}
use Rattle.tam_read.specs.declared.line.Line.{Line}
use Rattle.tam_read.specs.declared.refused.Refused.{Refused}
use Rattle.tam_read.specs.declared.refused.Refused.TheVariants.{At, NoMemory}
use Rattle.tam_read.specs.Faults.{first_pass, last_line, said_from, faults_of_second, faults, sayings}
use Rattle.tam_read.specs.LineView.{sayings_of, numbered}
use Rattle.tam_read.specs.Tables.{Entries, codes_from}
use Rattle.tam_read.specs.Parts.{Numbered, codes_in, pieces, faults_of_pieces}
use Rattle.tam_read.specs.Refusals.{IsFirst}
use Rattle.tam_read.proofs.CodeByCode.{faults-by-codes}
use Rattle.tam_read.proofs.Pieces.{sayings-numbered}

-- the table of codes is that of the lines
pub codes-known : (es : Entries) (ls : List Line) → es ≡ codes_from 0 (sayings_of ls) [] → es ≡ codes_in (map numbered ls)
codes-known es ls e = e ∙ ap (λ ss. codes_from 0 ss []) (sym (sayings-numbered ls))

module _ (bytes : List ℕ) (ns : Numbered) (first : first_pass (last_line bytes) [] 1 (lines_of bytes) ≡ []) (is : ns ≡ said_from 1 (lines_of bytes)) where
  whole : faults_of_pieces (codes_in ns) (pieces ns) ≡ faults bytes
  whole = ap (λ ms. faults_of_pieces (codes_in ms) (pieces ms)) is ∙ sym (faults-by-codes bytes first)

  -- no fault of either pass
  pub no-fault : faults_of_pieces (codes_in ns) (pieces ns) ≡ [] → faults bytes ≡ []
  no-fault e = sym whole ∙ e

  -- the first of the second
  pub first-of-second : (e : Refused) → IsFirst (faults_of_pieces (codes_in ns) (pieces ns)) e → IsFirst (faults bytes) e
  first-of-second e h = subst (λ fs. IsFirst fs e) whole h

-- where the first pass has a fault, its first is the first of the text
by-first : (fs second : List (ℕ × ReadCause)) (line : ℕ) (cause : ReadCause) → take 1 fs ≡ (line, cause) ∷ []
    → take 1 (elim fs as (λ _. List (ℕ × ReadCause)) [ [] ↦ second | g ∷ gs ↦ g ∷ gs ]) ≡ (line, cause) ∷ []
by-first [] second line cause e = absurd cc
by-first (g ∷ gs) second line cause e = e

-- a refusal by the first pass is one of the text
pub first-of-first : (bytes : List ℕ) (e : Refused) → IsFirst (first_pass (last_line bytes) [] 1 (lines_of bytes)) e → IsFirst (faults bytes) e
first-of-first bytes (At line cause) h = by-first (first_pass (last_line bytes) [] 1 (lines_of bytes)) (faults_of_second (said_from 1 (lines_of bytes)))
    line cause h
first-of-first bytes NoMemory h = tt

-- what holds of an error holds where it is handed on
pub handed-on : {T E : Type 0} (P : E → Type 0) (r : Result T E) (e : E) → IsErrAnd r (λ f. f ≡ e) → P e → IfErr r P
handed-on P (Ok x) e same p = tt
handed-on P (Err f) e same p = subst P (sym same) p
