-- What is read of a code is what its lines make.
use Rattle.std.proofs.Common.{◌≡◌, ℕ, suc, ◌≤◌, Bool, true, false, List, [], ◌∷◌, ◌++◌, length, map, take, refl, sym, ap, subst, ◌∙◌}
use Rattle.tam_read.specs.declared.line.Line.{Line}
use Rattle.tam_read.specs.declared.cause.ReadCause.{ReadCause}
use Rattle.tam_read.specs.declared.refused.Refused.{Refused}
use Rattle.tam_read.specs.Sentences.{Sentence, is_code, code_begun}
use Rattle.tam_read.specs.Faults.{sayings}
use Rattle.tam_read.specs.LineView.{saying, sayings_of, numbered}
use Rattle.tam_read.specs.Tables.{Entries, nodes_from}
use Rattle.tam_read.specs.Naming.{Known, faults_within}
use Rattle.tam_read.specs.Building.{Built, built, nothing_built}
use Rattle.tam_read.specs.Parts.{Numbered, Part, Piece, body_of, pieces, known_in, faults_of_pieces, node_lines, code_built, or_nameless, part_made}
use Rattle.tam_read.specs.PartView.{piece}
use Rattle.tam_read.specs.Refusals.{IsFirst}
use Rattle.tam_read.proofs.Growing.{first-before}

-- what numbered lines say
pub sayings-numbered : (ls : List Line) → sayings (map numbered ls) ≡ sayings_of ls
sayings-numbered [] = refl
sayings-numbered (l ∷ ls) = ap (λ ss. saying l ∷ ss) (sayings-numbered ls)

-- the names that are known
pub known-is : (codes nodes : Entries) (body : List Line) (k : Known) → k ≡ record { nodes = nodes; codes = codes }
    → nodes ≡ nodes_from 0 (sayings_of body) [] → k ≡ known_in codes (map numbered body)
known-is codes nodes body k is e =
    let make : Entries → Known = λ ns. record { nodes = ns; codes = codes } in
    is ∙ ap make (e ∙ ap (λ ss. nodes_from 0 ss []) (sym (sayings-numbered body)))

-- a code's parts
pub part-is : (codes : Entries) (line : Line) (body : List Line) (k : Known) (name : List ℕ) (b : Built) (ls : List ℕ) → k ≡ known_in codes (map numbered body)
    → name ≡ or_nameless (code_begun (saying line)) → b ≡ built k nothing_built (sayings_of body) → ls ≡ node_lines (map numbered body)
    → record { code = code_built name b; line = line.number; lines = ls } ≡ part_made codes (piece line body)
part-is codes line body k name b ls known named is lines =
    let make : List ℕ → Built → List ℕ → Part = λ n c l. record { code = code_built n c; line = line.number; lines = l } in
    let whole : b ≡ built (known_in codes (map numbered body)) nothing_built (sayings (map numbered body)) =
    is ∙ ap (λ q. built q nothing_built (sayings_of body)) known ∙ ap (built (known_in codes (map numbered body)) nothing_built)
    (sym (sayings-numbered body)) in
    ap (λ n. make n b ls) named ∙ ap (λ c. make (or_nameless (code_begun (saying line))) c ls) whole
    ∙ ap (make (or_nameless (code_begun (saying line))) (built (known_in codes (map numbered body)) nothing_built (sayings (map numbered body)))) lines

-- the lines up to the next code are a prefix of the lines
pub prefix-is : (ls : List Line) → map numbered (take (length (body_of (map numbered ls))) ls) ≡ body_of (map numbered ls)
prefix-is [] = refl
prefix-is (l ∷ ls) = go (is_code l.verb) refl (prefix-is ls)
  where
    go : (t : Bool) → is_code l.verb ≡ t → map numbered (take (length (body_of (map numbered ls))) ls) ≡ body_of (map numbered ls)
        → map numbered (take (length (body_of (map numbered (l ∷ ls)))) (l ∷ ls)) ≡ body_of (map numbered (l ∷ ls))
    go true p e = rw (body_of, p) refl
    go false p e = rw (body_of, p) (ap (λ ps. numbered l ∷ ps) e)

module _ (codes : Entries) (line : Line) (rest others body : List Line) (parts : rest ≡ line ∷ others) where
  -- a line that begins no code begins no piece
  pub no-piece : is_code line.verb ≡ false → pieces (map numbered rest) ≡ pieces (map numbered others)
  no-piece other = ap (λ ls. pieces (map numbered ls)) parts ∙ rw (pieces, other) refl

  -- and one that does begins one
  pub one-piece : is_code line.verb ≡ true → map numbered body ≡ body_of (map numbered others)
      → pieces (map numbered rest) ≡ piece line body ∷ pieces (map numbered others)
  one-piece so e =
      let make : List Line → List Piece = λ ls. pieces (map numbered ls) in
      ap make parts ∙ rw (pieces, so, e) refl
