-- The lines that are printed: their tokens, that each is one line, and that its bytes are good.
use Rattle.std.proofs.Common.{◌≡◌, ℕ, ◌^◌, ◌<◌, List, [], ◌∷◌, ◌++◌, true, refl, sym, ap, ◌∙◌, arith, map, flat_map, append_assoc}
use Rattle.std.specs.Prelude.{codes, decimal}
use Rattle.tam_word.specs.Lists.{all_of}
use Rattle.tam_text.specs.Lines.{lines_of, is_some_of, are_good_bytes}
use Rattle.rv_inst.specs.declared.inst.Inst.{Inst}
use Rattle.rv_inst.specs.Instructions.{decoded}
use Rattle.rv_inst.proofs.Candidates.{decodes-truly}
use Rattle.rv_asm.specs.declared.operand.Operand.{Operand}
use Rattle.rv_asm.specs.InstNames.{name_text, verb_of}
use Rattle.rv_asm.specs.AsmText.{operand_text, operands, further_operands, operands_text, word_text, word_line, head_line}
use Rattle.rv_asm.specs.Tokens.{tokens_of}
use Rattle.rv_asm.proofs.Worded.{operand_tokens, word_tokens}
use Rattle.tam_text.proofs.PlainWords.{is_word, all-more, decimal-word}
use Rattle.rv_asm.proofs.TokenBytes.{operands-words, verb-word}
use Rattle.rv_asm.proofs.LinesCut.{line_text, line_tokens, further_line, behind_comma, line-cut-again, line-first, line-good}

-- a line that is one, with these tokens
pub record IsPrinted (line : List ℕ) (tokens : List (List ℕ)) : Type 0 where
  pub name : List ℕ
  pub texts : List (List ℕ)
  pub is : line ≡ line_text name texts
  pub tokens_are : tokens ≡ line_tokens name texts
  pub name_word : is_word name ≡ true
  pub texts_words : all_of is_word texts ≡ true

module _ (line : List ℕ) (tokens : List (List ℕ)) (p : IsPrinted line tokens) where
  -- it has the tokens
  pub printed-tokens : tokens_of line ≡ tokens
  printed-tokens = ap tokens_of p.is ∙ line-cut-again p.name p.texts p.name_word p.texts_words ∙ sym p.tokens_are

  -- there is one
  pub printed-some : is_some_of tokens ≡ true
  printed-some = ap (λ (ts : List (List ℕ)). is_some_of ts) p.tokens_are ∙ go p.texts
    where
      go : (ts : List (List ℕ)) → is_some_of (line_tokens p.name ts) ≡ true
      go [] = refl
      go (t ∷ ts) = refl

  -- it is the first line of its text and what follows
  pub printed-first : (rest : List ℕ) → lines_of (line ++ rest) ≡ line ∷ lines_of rest
  printed-first rest =
      ap (λ l. lines_of (l ++ rest)) p.is ∙ line-first p.name p.texts rest p.name_word p.texts_words ∙ ap (λ (l : List ℕ). l ∷ lines_of rest) (sym p.is)

  -- its bytes are good
  pub printed-good : are_good_bytes line ≡ true
  printed-good = ap are_good_bytes p.is ∙ line-good p.name p.texts p.name_word p.texts_words

-- ---- head lines

-- the first
pub image-printed : (n : ℕ) → n < 2 ^ 31 → IsPrinted (head_line (codes ".image ") n) (codes ".image" ∷ decimal n ∷ [])
image-printed n l = record {
  name = codes ".image";
  texts = decimal n ∷ [];
  is = refl;
  tokens_are = refl;
  name_word = refl;
  texts_words = all-more is_word (decimal n) [] (decimal-word n (omega arith)) refl;
}

-- the second
pub stride-printed : (n : ℕ) → n < 2 ^ 31 → IsPrinted (head_line (codes ".stride ") n) (codes ".stride" ∷ decimal n ∷ [])
stride-printed n l = record {
  name = codes ".stride";
  texts = decimal n ∷ [];
  is = refl;
  tokens_are = refl;
  name_word = refl;
  texts_words = all-more is_word (decimal n) [] (decimal-word n (omega arith)) refl;
}

-- the third
pub params-printed : (n : ℕ) → n < 2 ^ 31 → IsPrinted (head_line (codes ".params ") n) (codes ".params" ∷ decimal n ∷ [])
params-printed n l = record {
  name = codes ".params";
  texts = decimal n ∷ [];
  is = refl;
  tokens_are = refl;
  name_word = refl;
  texts_words = all-more is_word (decimal n) [] (decimal-word n (omega arith)) refl;
}

-- the fourth
pub results-printed : (n : ℕ) → n < 2 ^ 31 → IsPrinted (head_line (codes ".results ") n) (codes ".results" ∷ decimal n ∷ [])
results-printed n l = record {
  name = codes ".results";
  texts = decimal n ∷ [];
  is = refl;
  tokens_are = refl;
  name_word = refl;
  texts_words = all-more is_word (decimal n) [] (decimal-word n (omega arith)) refl;
}

-- ---- the lines of words

-- operands behind the first, and the end of the line
further-ended : (os : List Operand) → further_operands os ++ codes "\n" ≡ further_line (map operand_text os)
further-ended [] = refl
further-ended (o ∷ os) =
    ap (λ l. 44 ∷ 32 ∷ l) (append_assoc (operand_text o) (further_operands os) (codes "\n") ∙ ap (λ l. operand_text o ++ l) (further-ended os))

-- a name and its operands are a line
inst-line : (name : List ℕ) (os : List Operand) → (name ++ operands_text os) ++ codes "\n" ≡ line_text name (map operand_text os)
inst-line name [] = append_assoc name [] (codes "\n")
inst-line name (o ∷ os) =
    append_assoc name (32 ∷ (operand_text o ++ further_operands os)) (codes "\n")
    ∙ ap (λ l. name ++ (32 ∷ l)) (append_assoc (operand_text o) (further_operands os) (codes "\n") ∙ ap (λ l. operand_text o ++ l) (further-ended os))

-- commas and operands
further-same : (os : List Operand) → flat_map (λ p. codes "," ∷ operand_text p ∷ []) os ≡ flat_map behind_comma (map operand_text os)
further-same [] = refl
further-same (o ∷ os) = ap (λ (ts : List (List ℕ)). codes "," ∷ operand_text o ∷ ts) (further-same os)

-- a name and the tokens of its operands are the line's
inst-same : (name : List ℕ) (os : List Operand) → name ∷ operand_tokens os ≡ line_tokens name (map operand_text os)
inst-same name [] = refl
inst-same name (o ∷ os) = ap (λ (ts : List (List ℕ)). name ∷ operand_text o ∷ ts) (further-same os)

-- a word's line
pub word-printed : (w : ℕ) → w < 2 ^ 32 → IsPrinted (word_line w) (word_tokens w (decoded w))
word-printed w l = go (decoded w) refl
  where
    go : (is : List Inst) → decoded w ≡ is → IsPrinted (word_text w is ++ codes "\n") (word_tokens w is)
    go [] e = record {
      name = codes ".word";
      texts = decimal w ∷ [];
      is = refl;
      tokens_are = refl;
      name_word = refl;
      texts_words = all-more is_word (decimal w) [] (decimal-word w (omega arith)) refl;
    }
    go (i ∷ is) e =
        let truly = decodes-truly w i is e in
        record {
          name = name_text i;
          texts = map operand_text (operands i);
          is = inst-line (name_text i) (operands i);
          tokens_are = inst-same (name_text i) (operands i);
          name_word = verb-word (verb_of i);
          texts_words = operands-words i truly.0;
        }

-- its tokens are those of the word
pub tokens_again : (w : ℕ) → w < 2 ^ 32 → tokens_of (word_line w) ≡ word_tokens w (decoded w)
tokens_again w l = printed-tokens (word_line w) (word_tokens w (decoded w)) (word-printed w l)
