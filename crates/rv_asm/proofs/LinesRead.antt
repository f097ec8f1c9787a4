-- Lines without a fault say the head lines and the statements of what they add.
use Rattle.std.proofs.Common.{◌≡◌, ℕ, ◌+◌, Bool, true, false, List, [], ◌∷◌, ◌++◌, length, Some, is_some, refl, sym, ap, ap₂}
use Rattle.std.proofs.Common.{subst, ◌∙◌, true≢false}
use Rattle.std.proofs.Common.{Result, Ok, Err, append_assoc}
use Rattle.std.proofs.lemmas.List.{append-nil, map-append, length-append}
use Rattle.tam_word.specs.Lists.{all_of, all_differ, same_bytes}
use Rattle.tam_text.specs.Lines.{are_good_bytes}
use Rattle.rv_inst.specs.Images.{Image}
use Rattle.rv_asm.specs.declared.asm_error.AsmCause.{AsmCause}
use Rattle.rv_asm.specs.declared.asm_error.AsmCause.TheVariants.{TwiceNamed}
use Rattle.rv_asm.specs.declared.head.Next.{Next}
use Rattle.rv_asm.specs.declared.head.Next.TheVariants as next
use Rattle.rv_asm.specs.Head.{head_number, behind, is_body}
use Rattle.rv_asm.specs.Tokens.{tokens_of}
use Rattle.rv_asm.specs.Statements.{Code, Statement, Label, Coded, statement_of}
use Rattle.rv_asm.specs.Faults.{Said, Labels, Placed, found, with_number, with_head, with_statement, with_tokens, said_from, faults_of_statement}
use Rattle.rv_asm.specs.Faults.{faults_of_line}
use Rattle.rv_asm.specs.Faults.{faults_at_end, first_pass}
use Rattle.rv_asm.specs.Reading.{labels_from, codes_in, number_in, AreLines}
use Rattle.rv_asm.specs.Sound.{codes_of}
use Rattle.rv_asm.proofs.Soundness.{none_before, none_behind, where_none}
use Rattle.rv_asm.proofs.Assembled.{none_mapped, at_end}
use Rattle.rv_asm.proofs.Differ.{names, found-among, differ_with}
use Rattle.rv_asm.proofs.Numbers.{said_number, behind_later, lines_keep, number_put}
use Rattle.rv_asm.proofs.Rows.{rows, rows_skip, rows_take, body_next, adds_nothing, adds_statement, adds_head, same_labels, same_words, line_good}
use Rattle.rv_asm.proofs.Rows.{statement_faultless, head_there}

-- behind a state, lines say statements, which make another state
pub record ReadsOn (image : Image) (s : Said) (ls : List (List ℕ)) (z : Said) (ss : List Statement) : Type 0 where
  pub good : all_of are_good_bytes ls ≡ true
  pub lines : AreLines image ss s.next (rows ls)
  pub labels : z.labels ≡ s.labels ++ labels_from (length s.words) ss
  pub codes : codes_of z.words ≡ codes_of s.words ++ codes_in ss
  pub differ : all_differ same_bytes (names s.labels) ≡ true → all_differ same_bytes (names z.labels) ≡ true

-- a good line before good lines
pub good_with : (t u : Bool) → t ≡ true → u ≡ true → (elim t [ true ↦ u | false ↦ false ]) ≡ true
good_with true u e f = f
good_with false u e f = absurd (true≢false (sym e))

module _ (image : Image) (z : Said) where
  -- no line at all
  no_more : (s : Said) → z ≡ s → is_body s.next ≡ true → ReadsOn image s [] z []
  no_more s is b = record {
    good = refl;
    lines = subst (λ (k : Next). AreLines image [] k []) (sym (body_next s.next b)) refl;
    labels = ap (λ (q : Said). q.labels) is ∙ sym (append-nil s.labels);
    codes = ap (λ (q : Said). codes_of q.words) is ∙ sym (append-nil (codes_of s.words));
    differ = λ d. ap (λ (q : Said). all_differ same_bytes (names q.labels)) is ∙ d;
  }

  -- a line without tokens before others
  skipped : (s : Said) (line : List ℕ) (ls : List (List ℕ)) (ss : List Statement) → tokens_of line ≡ [] → are_good_bytes line ≡ true
      → ReadsOn image s ls z ss → ReadsOn image s (line ∷ ls) z ss
  skipped s line ls ss e g h = record {
    good = good_with (are_good_bytes line) (all_of are_good_bytes ls) g h.good;
    lines = subst (λ (rs : List (List (List ℕ))). AreLines image ss s.next rs) (sym (rows_skip line ls e)) h.lines;
    labels = h.labels;
    codes = h.codes;
    differ = h.differ;
  }

  -- a statement's line before others, as lines
  lines_with : (k : Next) (a : List (List ℕ)) (rs : List (List (List ℕ))) (st : Statement) (ss : List Statement) → is_body k ≡ true → statement_of a ≡ Ok st
      → AreLines image ss k rs → AreLines image (st ∷ ss) k (a ∷ rs)
  lines_with k a rs st ss b e h =
      let body = body_next k b in
      let old : AreLines image ss next.Body rs = subst (λ (j : Next). AreLines image ss j rs) body h in
      let new : AreLines image (st ∷ ss) next.Body (a ∷ rs) = ap₂ (λ (x : Result Statement AsmCause) xs. x ∷ xs) e old in
      subst (λ (j : Next). AreLines image (st ∷ ss) j (a ∷ rs)) (sym body) new

  -- a label before others
  label_first : (s : Said) (n : ℕ) (line t : List ℕ) (ts : List (List ℕ)) (ls : List (List ℕ)) (ss : List Statement) (name : List ℕ) → tokens_of line ≡ t ∷ ts
      → is_body s.next ≡ true → statement_of (t ∷ ts) ≡ Ok (Label name) → are_good_bytes line ≡ true → is_some (found name s.labels) ≡ false
      → ReadsOn image (with_statement n (Ok (Label name)) s) ls z ss → ReadsOn image s (line ∷ ls) z (Label name ∷ ss)
  label_first s n line t ts ls ss name e b is g new h = record {
    good = good_with (are_good_bytes line) (all_of are_good_bytes ls) g h.good;
    lines = subst (λ (rs : List (List (List ℕ))). AreLines image (Label name ∷ ss) s.next rs) (sym (rows_take line ls t ts e))
        (lines_with s.next (t ∷ ts) (rows ls) (Label name) ss b is h.lines);
    labels = h.labels ∙ append_assoc s.labels ((name, length s.words) ∷ []) (labels_from (length s.words) ss);
    codes = h.codes;
    differ = λ d. h.differ (ap (all_differ same_bytes) (map-append (λ (l : List ℕ × ℕ). l.0) s.labels ((name, length s.words) ∷ []))
        ∙ differ_with (names s.labels) name d (sym (found-among name s.labels) ∙ new));
  }

  -- what has a word before others
  code_first : (s : Said) (n : ℕ) (line t : List ℕ) (ts : List (List ℕ)) (ls : List (List ℕ)) (ss : List Statement) (c : Code) → tokens_of line ≡ t ∷ ts
      → is_body s.next ≡ true → statement_of (t ∷ ts) ≡ Ok (Coded c) → are_good_bytes line ≡ true
      → ReadsOn image (with_statement n (Ok (Coded c)) s) ls z ss → ReadsOn image s (line ∷ ls) z (Coded c ∷ ss)
  code_first s n line t ts ls ss c e b is g h = record {
    good = good_with (are_good_bytes line) (all_of are_good_bytes ls) g h.good;
    lines = subst (λ (rs : List (List (List ℕ))). AreLines image (Coded c ∷ ss) s.next rs) (sym (rows_take line ls t ts e))
        (lines_with s.next (t ∷ ts) (rows ls) (Coded c) ss b is h.lines);
    labels = h.labels ∙ ap (λ (k : ℕ). s.labels ++ labels_from k ss) (length-append s.words ((n, c) ∷ []));
    codes = h.codes ∙ ap (λ (cs : List Code). cs ++ codes_in ss) (map-append (λ (p : ℕ × Code). p.1) s.words ((n, c) ∷ []))
        ∙ append_assoc (codes_of s.words) (c ∷ []) (codes_in ss);
    differ = h.differ;
  }

  -- a head line before others, as lines
  head_with : (k : Next) (a : List (List ℕ)) (rs : List (List (List ℕ))) (ss : List Statement) → is_body k ≡ false
      → head_number k a ≡ Some (number_in k image) → AreLines image ss (behind k) rs → AreLines image ss k (a ∷ rs)
  head_with next.Image a rs ss b e h = (e, h)
  head_with next.Stride a rs ss b e h = (e, h)
  head_with next.Params a rs ss b e h = (e, h)
  head_with next.Results a rs ss b e h = (e, h)
  head_with next.Body a rs ss b e h = absurd (true≢false b)

  -- a head line before others
  head_first : (s : Said) (line t : List ℕ) (ts : List (List ℕ)) (ls : List (List ℕ)) (ss : List Statement) (m : ℕ) → tokens_of line ≡ t ∷ ts
      → is_body s.next ≡ false → head_number s.next (t ∷ ts) ≡ Some m → m ≡ number_in s.next image → are_good_bytes line ≡ true
      → ReadsOn image (with_head (Some m) s) ls z ss → ReadsOn image s (line ∷ ls) z ss
  head_first s line t ts ls ss m e b is same g h =
      let ls' : (with_number s.next m s).labels ≡ s.labels = same_labels s.next m s in
      let ws' : (with_number s.next m s).words ≡ s.words = same_words s.next m s in
      record {
        good = good_with (are_good_bytes line) (all_of are_good_bytes ls) g h.good;
        lines = subst (λ (rs : List (List (List ℕ))). AreLines image ss s.next rs) (sym (rows_take line ls t ts e))
            (head_with s.next (t ∷ ts) (rows ls) ss b (is ∙ ap (λ (k : ℕ). Some k) same) h.lines);
        labels = h.labels ∙ ap₂ (λ (xs : Labels) (k : Placed). xs ++ labels_from (length k) ss) ls' ws';
        codes = h.codes ∙ ap (λ (k : Placed). codes_of k ++ codes_in ss) ws';
        differ = λ d. h.differ (ap (λ (xs : Labels). all_differ same_bytes (names xs)) ls' ∙ d);
      }

-- the image has the numbers of what is said
pub record Agrees (image : Image) (z : Said) : Type 0 where
  pub same : (k : Next) → said_number k z ≡ number_in k image

-- what is read behind one line, as a pair
abbrev pub SomeReads : Image → Said → List (List ℕ) → Said → Type 0
SomeReads image s ls z = (ss : List Statement) × ReadsOn image s ls z ss

-- a statement's line before what is read behind it
by_statement : (image : Image) (z s : Said) (n : ℕ) (line t : List ℕ) (ts : List (List ℕ)) (ls : List (List ℕ)) (r : Result Statement AsmCause)
    → tokens_of line ≡ t ∷ ts → is_body s.next ≡ true → statement_of (t ∷ ts) ≡ r → are_good_bytes line ≡ true → faults_of_statement s r ≡ []
    → SomeReads image (with_statement n r s) ls z → SomeReads image s (line ∷ ls) z
by_statement image z s n line t ts ls (Err c) e b is g f h = absurd cc
by_statement image z s n line t ts ls (Ok (Label name)) e b is g f h =
    (Label name ∷ h.0, label_first image z s n line t ts ls h.0 name e b is g (where_none (is_some (found name s.labels)) TwiceNamed f) h.1)
by_statement image z s n line t ts ls (Ok (Coded c)) e b is g f h = (Coded c ∷ h.0, code_first image z s n line t ts ls h.0 c e b is g h.1)

-- one line without a fault before what is read behind it, by its tokens
by_tokens : (image : Image) (z s : Said) (n : ℕ) (line : List ℕ) (ls : List (List ℕ)) (ts : List (List ℕ)) (b : Bool) → tokens_of line ≡ ts → is_body s.next ≡ b
    → faults_of_line s line ≡ [] → z ≡ said_from (with_tokens n (tokens_of line) s) (n + 1) ls → Agrees image z
    → SomeReads image (with_tokens n (tokens_of line) s) ls z → SomeReads image s (line ∷ ls) z
by_tokens image z s n line ls [] b p q f is agrees h =
    let old : SomeReads image s ls z = subst (λ (w : Said). SomeReads image w ls z) (adds_nothing n s line p) h in
    (old.0, skipped image z s line ls old.0 p (line_good s line f) old.1)
by_tokens image z s n line ls (t ∷ ts) true p q f is agrees h =
    let r = statement_of (t ∷ ts) in
    let old : SomeReads image (with_statement n r s) ls z = subst (λ (w : Said). SomeReads image w ls z) (adds_statement n s line t ts r p q refl) h in
    by_statement image z s n line t ts ls r p q refl (line_good s line f) (statement_faultless s line t ts q p f) old
by_tokens image z s n line ls (t ∷ ts) false p q f is agrees h =
    let there = head_there s line t ts q p f in
    let new = adds_head n s line t ts (Some there.0) p q there.1 in
    let old : SomeReads image (with_head (Some there.0) s) ls z = subst (λ (w : Said). SomeReads image w ls z) new h in
    let end : z ≡ said_from (with_head (Some there.0) s) (n + 1) ls = is ∙ ap (λ (w : Said). said_from w (n + 1) ls) new in
    let same : there.0 ≡ number_in s.next image =
    sym (number_put s.next there.0 s (t ∷ ts) there.1 q)
    ∙ sym (lines_keep s.next (with_head (Some there.0) s) (n + 1) ls (behind_later s.next q))
    ∙ sym (ap (said_number s.next) end) ∙ agrees.same s.next in
    (old.0, head_first image z s line t ts ls old.0 there.0 p q there.1 same (line_good s line f) old.1)

-- lines without a fault read on
pub reads_on : (last : ℕ) (image : Image) (s : Said) (n : ℕ) (ls : List (List ℕ)) → first_pass last s n ls ≡ [] → Agrees image (said_from s n ls)
    → SomeReads image s ls (said_from s n ls)
reads_on last image s n [] e agrees = ([], no_more image s s refl (at_end s (none_mapped (λ c. (last, c)) (faults_at_end s) e)).0)
reads_on last image s n (line ∷ ls) e agrees =
    let here : faults_of_line s line ≡ [] = none_mapped (λ c. (n, c)) (faults_of_line s line) (none_before _ _ e) in
    by_tokens image (said_from s n (line ∷ ls)) s n line ls (tokens_of line) (is_body s.next) refl refl here refl agrees
    (reads_on last image (with_tokens n (tokens_of line) s) (n + 1) ls (none_behind _ _ e) agrees)
