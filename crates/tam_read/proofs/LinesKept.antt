-- The first pass keeps what the lines say: as the loop goes, what is kept and what is left to say make the whole.
use Rattle.std.proofs.Common.{◌≡◌, ℕ, true, ◌+◌, ◌≤◌, List, [], ◌∷◌, ◌++◌, length, map, sym, ap, ◌∙◌, append_assoc, arith}
use Rattle.std.proofs.lemmas.List.{append-nil, length-append, length-map}
use Rattle.tam_text.specs.Lines.{words_of}
use Rattle.tam_read.specs.declared.line.Line.{Line}
use Rattle.tam_read.specs.Sentences.{Sentence, sentence_of}
use Rattle.tam_read.specs.Faults.{is_head, said_from}
use Rattle.tam_read.specs.LineView.{numbered, said_at}
use Rattle.tam_read.specs.Parts.{Numbered}
use Rattle.tam_read.proofs.Passed.{one_sentence, head_says_nothing}

-- a head says nothing
pub kept-head : (old : Numbered) (n : ℕ) (ws : List (List ℕ)) → is_head ws ≡ true → old ≡ old ++ said_at n ws
kept-head old n ws e = sym (ap (λ ss. old ++ map (λ s. (n, s)) ss) (head_says_nothing ws e) ∙ append-nil old)

-- what a line without a fault is kept as
module _ (old new : List Line) (n : ℕ) (line : List ℕ) (more : map numbered new ≡ map numbered old ++ said_at n (words_of line)) where
  -- with what is left to say it makes the whole
  pub said-on : (lines after : List (List ℕ)) (total : Numbered) → lines ≡ line ∷ after → map numbered old ++ said_from n lines ≡ total
      → map numbered new ++ said_from (n + 1) after ≡ total
  said-on lines after total is e =
      ap (λ z. z ++ said_from (n + 1) after) more ∙ append_assoc (map numbered old) (said_at n (words_of line)) (said_from (n + 1) after)
      ∙ ap (λ ls. map numbered old ++ said_from n ls) (sym is) ∙ e

  -- it is one line at most
  pub one-more : length new ≤ length old + 1
  one-more =
      let news : length (map numbered new) ≡ length new = length-map new numbered in
      let olds : length (map numbered old) ≡ length old = length-map old numbered in
      let said : length (said_at n (words_of line)) ≡ length (sentence_of (words_of line)) = length-map (sentence_of (words_of line)) (λ s. (n, s)) in
      let both : length (map numbered new) ≡ length (map numbered old) + length (said_at n (words_of line)) = ap length more
      ∙ length-append (map numbered old) (said_at n (words_of line)) in
      let one : length (sentence_of (words_of line)) ≤ 1 = one_sentence (words_of line) in
      omega arith

-- at the end of the lines nothing is left to say
pub all-said : (kept : Numbered) (n : ℕ) (lines : List (List ℕ)) (total : Numbered) → lines ≡ [] → kept ++ said_from n lines ≡ total → kept ≡ total
all-said kept n lines total is e = sym (append-nil kept) ∙ ap (λ ls. kept ++ said_from n ls) (sym is) ∙ e
