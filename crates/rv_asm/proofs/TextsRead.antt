-- A text reads as one image or has a fault.
use Rattle.std.proofs.Common.{◌≡◌, ℕ, ◌+◌, List, [], ◌∷◌, ◌++◌, length, map, Some, Result, Ok, Err}
use Rattle.std.proofs.Common.{refl, sym, ap, ap₂, ◌∙◌, arith}
use Rattle.std.proofs.lemmas.List.{length-map}
use Rattle.tam_word.specs.Lists.{all_differ, same_bytes}
use Rattle.tam_text.specs.Lines.{lines_of}
use Rattle.rv_inst.specs.Images.{Image}
use Rattle.rv_image.specs.ImageFiles.{IsImage}
use Rattle.rv_asm.specs.declared.asm_error.AsmCause.{AsmCause}
use Rattle.rv_asm.specs.declared.asm_error.AsmError.{AsmError}
use Rattle.rv_asm.specs.declared.asm_error.AsmError.TheVariants.{At, NoMemory}
use Rattle.rv_asm.specs.declared.head.Next.{Next}
use Rattle.rv_asm.specs.declared.head.Next.TheVariants as next
use Rattle.rv_asm.specs.Statements.{Code, Statement}
use Rattle.rv_asm.specs.Faults.{Said, Labels, Placed, nothing_said, said_in, last_line, first_faults, second_faults, second_pass, word_at, causes}
use Rattle.rv_asm.specs.Faults.{faults_or, asm_faults, IsFirst}
use Rattle.rv_asm.specs.Reading.{labels_from, codes_in, words_at, number_in, AreLines, AsmReads}
use Rattle.rv_asm.specs.Sound.{codes_of, all_there}
use Rattle.rv_asm.proofs.Differ.{names}
use Rattle.rv_asm.proofs.Numbers.{said_number}
use Rattle.rv_asm.proofs.Rows.{rows}
use Rattle.rv_asm.proofs.LinesRead.{Agrees, SomeReads, reads_on}
use Rattle.rv_asm.proofs.LinesBack.{lines_back}

-- the image of what is said and of words
abbrev pub image_of : Said → List ℕ → Image
image_of z ws = record { stride = z.stride; params = z.params; results = z.results; words = ws }

-- it has the numbers of what is said
agrees_of : (z : Said) (ws : List ℕ) → Agrees (image_of z ws) z
agrees_of z ws = record { same = go }
  where
    go : (k : Next) → said_number k z ≡ number_in k (image_of z ws)
    go next.Image = refl
    go next.Stride = refl
    go next.Params = refl
    go next.Results = refl
    go next.Body = refl

-- what the lines of a text without a fault say
said_by_lines : (text : List ℕ) (ws : List ℕ) → first_faults text ≡ [] → SomeReads (image_of (said_in text) ws) nothing_said (lines_of text) (said_in text)
said_by_lines text ws e = reads_on (last_line text) (image_of (said_in text) ws) nothing_said 1 (lines_of text) e (agrees_of (said_in text) ws)

-- a text without a fault of the first pass reads as the image of its words
pub reads : (text : List ℕ) (ws : List ℕ) → first_faults text ≡ [] → all_there ws ≡ words_at (said_in text).labels 0 (codes_of (said_in text).words)
    → IsImage (image_of (said_in text) ws) → AsmReads text (image_of (said_in text) ws)
reads text ws e is image =
    let r = said_by_lines text ws e in
    record {
      statements = r.0;
      good = r.1.good;
      lines = r.1.lines;
      labels_differ = sym (ap (λ (ls : Labels). all_differ same_bytes (names ls)) r.1.labels) ∙ r.1.differ refl;
      words = sym (ap₂ (λ (ls : Labels) (cs : List Code). words_at ls 0 cs) r.1.labels r.1.codes) ∙ sym is;
      in_range = image;
    }

-- ---- one image

-- something that is there
abbrev there : {X : Type 0} → X → Result X AsmCause
there x = Ok x

-- what is there is the same
there_same : {X : Type 0} (xs ys : List X) → map there xs ≡ map there ys → xs ≡ ys
there_same [] [] e = refl
there_same [] (y ∷ ys) e = absurd cc
there_same (x ∷ xs) [] e = absurd cc
there_same {X} (x ∷ xs) (y ∷ ys) e =
    let first : x ≡ y = cc in
    let others : map there xs ≡ map there ys = cc in
    ap₂ (λ (z : X) (zs : List X). z ∷ zs) first (there_same xs ys others)

-- images and statements with the same numbers and the same statements
pub record Same (i j : Image) (ss ts : List Statement) : Type 0 where
  pub stride : i.stride ≡ j.stride
  pub params : i.params ≡ j.params
  pub results : i.results ≡ j.results
  pub statements : ss ≡ ts

-- lines have one head and one list of statements
one_head : (i j : Image) (ss ts : List Statement) (rs : List (List (List ℕ))) → AreLines i ss next.Image rs → AreLines j ts next.Image rs → Same i j ss ts
one_head i j ss ts [] g h = absurd g
one_head i j ss ts (a ∷ []) g h = absurd g.1
one_head i j ss ts (a ∷ b ∷ []) g h = absurd g.1.1
one_head i j ss ts (a ∷ b ∷ c ∷ []) g h = absurd g.1.1.1
one_head i j ss ts (a ∷ b ∷ c ∷ d ∷ rs) g h =
    let p : Some i.stride ≡ Some j.stride = sym g.1.0 ∙ h.1.0 in
    let q : Some i.params ≡ Some j.params = sym g.1.1.0 ∙ h.1.1.0 in
    let r : Some i.results ≡ Some j.results = sym g.1.1.1.0 ∙ h.1.1.1.0 in
    record { stride = cc; params = cc; results = cc; statements = there_same ss ts (sym g.1.1.1.1 ∙ h.1.1.1.1) }

-- images with equal parts are equal
same_image : (i j : Image) → i.stride ≡ j.stride → i.params ≡ j.params → i.results ≡ j.results → i.words ≡ j.words → i ≡ j
same_image i j a b c d =
    ap (λ (x : ℕ). let k : Image = record i { stride = x } in k) a
    ∙ ap (λ (x : ℕ). let k : Image = record i { stride = j.stride; params = x } in k) b
    ∙ ap (λ (x : ℕ). let k : Image = record i { stride = j.stride; params = j.params; results = x } in k) c
    ∙ ap (λ (x : List ℕ). let k : Image = record j { words = x } in k) d

-- a text reads as one image
pub one_image : (text : List ℕ) (i j : Image) → AsmReads text i → AsmReads text j → i ≡ j
one_image text i j g h =
    let s = one_head i j g.statements h.statements (rows (lines_of text)) g.lines h.lines in
    let words = ap (λ (ss : List Statement). words_at (labels_from 0 ss) 0 (codes_in ss)) s.statements in
    same_image i j s.stride s.params s.results (there_same i.words j.words (sym g.words ∙ words ∙ h.words))

-- ---- no fault

-- as many words as there are
length_words : (labels : Labels) (at : ℕ) (cs : List Code) → length (words_at labels at cs) ≡ length cs
length_words labels at [] = refl
length_words labels at (c ∷ cs) = let i = length_words labels (at + 1) cs in omega arith

-- words that are there have no cause
none_caused : (r : Result ℕ AsmCause) (w : ℕ) → r ≡ Ok w → causes r ≡ []
none_caused (Ok x) w e = refl
none_caused (Err c) w e = absurd cc

-- so the second pass has no fault
second_none : (labels : Labels) (at : ℕ) (ps : Placed) (ws : List ℕ) → words_at labels at (codes_of ps) ≡ all_there ws → second_pass labels at ps ≡ []
second_none labels at [] ws e = refl
second_none labels at (p ∷ ps) [] e = absurd cc
second_none labels at (p ∷ ps) (w ∷ ws) e =
    let first : word_at labels at p.1 ≡ Ok w = cc in
    let others : words_at labels (at + 1) (codes_of ps) ≡ all_there ws = cc in
    ap (λ (cs : List AsmCause). map {B = ℕ × AsmCause} (λ c. (p.0, c)) cs ++ second_pass labels (at + 1) ps) (none_caused (word_at labels at p.1) w first)
    ∙ second_none labels (at + 1) ps ws others

-- a text that reads has no fault of the first pass
first_none : (text : List ℕ) (i : Image) → AsmReads text i → first_faults text ≡ []
first_none text i g =
    let codes = codes_in g.statements in
    let len : length codes ≡ length i.words =
    sym (length_words (labels_from 0 g.statements) 0 codes) ∙ ap (λ (rs : List (Result ℕ AsmCause)). length rs) g.words
    ∙ length-map i.words (λ (w : ℕ). there w) in
    let some = g.in_range.some_word in
    let few = g.in_range.words in
    lines_back (last_line text) i nothing_said 1 (lines_of text) g.statements g.good g.lines
    (record { differ = g.labels_differ; few = omega arith; some = omega arith })

-- nor of the second
pub no_fault_where_reads : (text : List ℕ) (i : Image) → AsmReads text i → asm_faults text ≡ []
no_fault_where_reads text i g =
    let first = first_none text i g in
    let r = said_by_lines text i.words first in
    let s = one_head (image_of (said_in text) i.words) i r.0 g.statements (rows (lines_of text)) r.1.lines g.lines in
    let words : words_at (said_in text).labels 0 (codes_of (said_in text).words) ≡ all_there i.words =
    ap₂ (λ (ls : Labels) (cs : List Code). words_at ls 0 cs) r.1.labels r.1.codes
    ∙ ap (λ (ss : List Statement). words_at (labels_from 0 ss) 0 (codes_in ss)) s.statements ∙ g.words in
    ap (λ (fs : List (ℕ × AsmCause)). faults_or fs (second_faults text)) first ∙ second_none (said_in text).labels 0 (said_in text).words i.words words

-- only want of memory refuses a text without a fault
only_memory : (fs : List (ℕ × AsmCause)) (e : AsmError) → fs ≡ [] → IsFirst fs e → e ≡ NoMemory
only_memory [] (At line cause) none h = absurd cc
only_memory (f ∷ fs) (At line cause) none h = absurd cc
only_memory fs NoMemory none h = refl

-- so a text that reads is refused for that alone
pub refused_by_memory : (text : List ℕ) (i : Image) (e : AsmError) → AsmReads text i → IsFirst (asm_faults text) e → e ≡ NoMemory
refused_by_memory text i e g h = only_memory (asm_faults text) e (no_fault_where_reads text i g) h
