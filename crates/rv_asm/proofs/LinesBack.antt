-- Lines that say head lines and statements have no fault.
use Rattle.std.proofs.Common.{◌≡◌, ℕ, ◌+◌, ◌≤◌, ◌<◌, Bool, true, false, leb, not, ◌&&◌, ◌||◌, List, [], ◌∷◌, ◌++◌, length, map, Some}
use Rattle.std.proofs.Common.{is_some}
use Rattle.std.proofs.Common.{Ok, refl, sym, ap, subst, ◌∙◌, arith, true≢false, append_assoc}
use Rattle.std.specs.Prelude.{◌==◌}
use Rattle.std.proofs.lemmas.Bool.{leb-true, eqb-true}
use Rattle.std.proofs.lemmas.List.{map-append, length-append}
use Rattle.tam_word.specs.Lists.{all_of, all_differ, same_bytes, where_so}
use Rattle.tam_text.specs.Lines.{without_comment, is_at_end, is_good_byte, are_good_bytes, is_some_of}
use Rattle.rv_inst.specs.Images.{Image}
use Rattle.rv_image.specs.ImageFiles.{max_words}
use Rattle.rv_asm.specs.declared.asm_error.AsmCause.{AsmCause}
use Rattle.rv_asm.specs.declared.asm_error.AsmCause.TheVariants.{BadHead, BadLine, TwiceNamed, TooMany, Ended}
use Rattle.rv_asm.specs.declared.head.Next.{Next}
use Rattle.rv_asm.specs.declared.head.Next.TheVariants as next
use Rattle.rv_asm.specs.Head.{head_number, behind, is_body}
use Rattle.rv_asm.specs.Tokens.{tokens_of}
use Rattle.rv_asm.specs.Statements.{Statement, Label, Coded, statement_of}
use Rattle.rv_asm.specs.Faults.{Said, Labels, Placed, with_number, with_head, with_statement, with_tokens, faults_of_statement, faults_of_tokens}
use Rattle.rv_asm.specs.Faults.{is_head, faults_in_head, faults_in_body, faults_of_line, faults_at_end, first_pass}
use Rattle.rv_asm.specs.Reading.{labels_from, codes_in, number_in, AreLines}
use Rattle.rv_asm.proofs.Differ.{names, found-among, new_within}
use Rattle.rv_asm.proofs.LinesRead.{good_with}
use Rattle.rv_asm.proofs.Rows.{rows, rows_skip, rows_take, body_next, way_true, way_false, adds_nothing, adds_statement, adds_head, same_labels, same_words}

-- ---- good bytes before a comment

-- an LF comes next, before a comment or not
end_same : (bs : List ℕ) → is_at_end (without_comment bs) ≡ is_at_end bs
end_same [] = refl
end_same (b ∷ bs) = go (b == 35) refl
  where
    go : (t : Bool) → (b == 35) ≡ t → is_at_end (without_comment (b ∷ bs)) ≡ (b == 10)
    go false p = ap is_at_end (way_false (b == 35) [] (b ∷ without_comment bs) p)
    go true p = ap is_at_end (way_true (b == 35) [] (b ∷ without_comment bs) p) ∙ sym (ap (λ (x : ℕ). x == 10) (eqb-true b 35 p))

-- good parts
good_parts : (t u : Bool) → (elim t [ true ↦ u | false ↦ false ]) ≡ true → (t ≡ true) × (u ≡ true)
good_parts true u e = (refl, e)
good_parts false u e = absurd (true≢false (sym e))

-- what stands before the comment of a good line is good
pub comment_good : (bs : List ℕ) → are_good_bytes bs ≡ true → are_good_bytes (without_comment bs) ≡ true
comment_good [] e = refl
comment_good (b ∷ bs) e =
    let parts = good_parts (is_good_byte b bs) (are_good_bytes bs) e in go parts.0 (comment_good bs parts.1) (b == 35) refl
  where
    go : is_good_byte b bs ≡ true → are_good_bytes (without_comment bs) ≡ true → (t : Bool) → (b == 35) ≡ t
        → are_good_bytes (without_comment (b ∷ bs)) ≡ true
    go here others true p = ap are_good_bytes (way_true (b == 35) [] (b ∷ without_comment bs) p)
    go here others false p =
        let same : is_good_byte b (without_comment bs) ≡ is_good_byte b bs =
        ap (λ (t : Bool). (b == 10) || ((b == 9) || ((leb 32 b && leb b 126) || ((b == 13) && t)))) (end_same bs) in
        ap are_good_bytes (way_false (b == 35) [] (b ∷ without_comment bs) p)
        ∙ good_with (is_good_byte b (without_comment bs)) (are_good_bytes (without_comment bs)) (same ∙ here) others

-- ---- lines without a fault

-- behind the head
body_faultless : (s : Said) (line : List ℕ) → is_body s.next ≡ true → are_good_bytes line ≡ true → faults_of_tokens s (tokens_of line) ≡ []
    → faults_of_line s line ≡ []
body_faultless s line b g f =
    way_true (is_body s.next) (faults_in_body s line) (faults_in_head s.next line) b
    ∙ ap (λ (t : Bool). where_so (not t) BadLine ++ faults_of_tokens s (tokens_of line)) g ∙ f

-- in the head
head_faultless : (s : Said) (line : List ℕ) → is_body s.next ≡ false → are_good_bytes line ≡ true → is_head s.next (tokens_of line) ≡ true
    → faults_of_line s line ≡ []
head_faultless s line b g h =
    way_false (is_body s.next) (faults_in_body s line) (faults_in_head s.next line) b
    ∙ ap (λ (t : Bool). where_so (not (t && is_head s.next (tokens_of line))) BadHead ++ where_so (not (are_good_bytes line)) BadLine) (comment_good line g)
    ∙ ap (λ (t : Bool). where_so (not t) BadHead ++ where_so (not (are_good_bytes line)) BadLine) h
    ∙ ap (λ (t : Bool). where_so (not t) BadLine) g

-- a line without tokens
skip_faultless : (s : Said) (line : List ℕ) → tokens_of line ≡ [] → are_good_bytes line ≡ true → faults_of_line s line ≡ []
skip_faultless s line e g = go (is_body s.next) refl
  where
    go : (b : Bool) → is_body s.next ≡ b → faults_of_line s line ≡ []
    go true p = body_faultless s line p g (ap (faults_of_tokens s) e)
    go false p = head_faultless s line p g (ap (is_head s.next) e)

-- no faults here and none behind
both_none : {X Y : Type 0} (f : X → Y) (xs : List X) (ys : List Y) → xs ≡ [] → ys ≡ [] → map f xs ++ ys ≡ []
both_none f xs ys e h = ap (λ zs. map f zs ++ ys) e ∙ h

-- ---- what statements need

-- statements may stand behind what is said
pub record Fits (s : Said) (ss : List Statement) : Type 0 where
  pub differ : all_differ same_bytes (names (s.labels ++ labels_from (length s.words) ss)) ≡ true
  pub few : length s.words + length (codes_in ss) ≤ max_words
  pub some : 0 < length s.words + length (codes_in ss)

-- fewer words than the most
not_many : (n : ℕ) → n < max_words → leb max_words n ≡ false
not_many n h = go (leb max_words n) refl
  where
    go : (t : Bool) → leb max_words n ≡ t → leb max_words n ≡ false
    go false p = p
    go true p = let le = leb-true max_words n p in absurd (omega arith)

-- the first has no fault
statement_none : (s : Said) (st : Statement) (ss : List Statement) → Fits s (st ∷ ss) → faults_of_statement s (Ok st) ≡ []
statement_none s (Label name) ss f =
    let more = labels_from (length s.words) ss in
    let all : all_differ same_bytes (names s.labels ++ name ∷ names more) ≡ true =
    sym (ap (all_differ same_bytes) (map-append (λ (l : List ℕ × ℕ). l.0) s.labels ((name, length s.words) ∷ more))) ∙ f.differ in
    ap (λ (t : Bool). where_so t TwiceNamed) (found-among name s.labels ∙ new_within (names s.labels) name (names more) all)
statement_none s (Coded c) ss f = let few = f.few in ap (λ (t : Bool). where_so t TooMany) (not_many (length s.words) (omega arith))

-- and the others stand behind it
statement_fits : (s : Said) (n : ℕ) (st : Statement) (ss : List Statement) → Fits s (st ∷ ss) → Fits (with_statement n (Ok st) s) ss
statement_fits s n (Label name) ss f = record {
  differ = ap (λ (ls : Labels). all_differ same_bytes (names ls)) (append_assoc s.labels ((name, length s.words) ∷ []) (labels_from
      (length s.words) ss)) ∙ f.differ;
  few = f.few;
  some = f.some;
}
statement_fits s n (Coded c) ss f =
    let len = length-append s.words ((n, c) ∷ []) in
    let few = f.few in
    record {
      differ = ap (λ (k : ℕ). all_differ same_bytes (names (s.labels ++ labels_from k ss))) len ∙ f.differ;
      few = omega arith;
      some = omega arith;
    }

-- a head line leaves them
head_fits : (s : Said) (m : ℕ) (ss : List Statement) → Fits s ss → Fits (with_head (Some m) s) ss
head_fits s m ss f =
    let ls = same_labels s.next m s in
    let ws = same_words s.next m s in
    record {
      differ = ap (λ (xs : Labels). all_differ same_bytes (names (xs ++ labels_from (length (with_number s.next m s).words) ss))) ls
          ∙ ap (λ (k : Placed). all_differ same_bytes (names (s.labels ++ labels_from (length k) ss))) ws ∙ f.differ;
      few = subst (λ (k : Placed). length k + length (codes_in ss) ≤ max_words) (sym ws) f.few;
      some = subst (λ (k : Placed). 0 < length k + length (codes_in ss)) (sym ws) f.some;
    }

-- ---- rows

-- no rows: the head is read and no statement is left
no_rows : (image : Image) (k : Next) (ss : List Statement) → AreLines image ss k [] → (is_body k ≡ true) × (ss ≡ [])
no_rows image next.Image ss h = absurd h
no_rows image next.Stride ss h = absurd h
no_rows image next.Params ss h = absurd h
no_rows image next.Results ss h = absurd h
no_rows image next.Body [] h = (refl, refl)
no_rows image next.Body (st ∷ ss) h = absurd cc

-- a head line and what stands behind it
head_row : (image : Image) (k : Next) (ss : List Statement) (a : List (List ℕ)) (rs : List (List (List ℕ))) → is_body k ≡ false → AreLines image ss k (a ∷ rs)
    → (head_number k a ≡ Some (number_in k image)) × AreLines image ss (behind k) rs
head_row image next.Image ss a rs b h = h
head_row image next.Stride ss a rs b h = h
head_row image next.Params ss a rs b h = h
head_row image next.Results ss a rs b h = h
head_row image next.Body ss a rs b h = absurd (true≢false b)

-- some are there
there_some : {X : Type 0} (xs : List X) → 0 < length xs → is_some_of xs ≡ true
there_some [] h = absurd (omega arith)
there_some (x ∷ xs) h = refl

-- the end of lines
end_none : (last : ℕ) (image : Image) (s : Said) (ss : List Statement) → AreLines image ss s.next [] → Fits s ss
    → map {B = ℕ × AsmCause} (λ c. (last, c)) (faults_at_end s) ≡ []
end_none last image s ss h f =
    let p = no_rows image s.next ss h in
    let some : 0 < length s.words + length (codes_in []) = subst (λ (xs : List Statement). 0 < length s.words + length (codes_in xs)) p.1 f.some in
    ap (λ (t : Bool). map {B = ℕ × AsmCause} (λ c. (last, c)) (where_so (not (t && is_some_of s.words)) Ended)) p.0
    ∙ ap (λ (t : Bool). map {B = ℕ × AsmCause} (λ c. (last, c)) (where_so (not t) Ended)) (there_some s.words (omega arith))

-- the lines behind a state, whatever statements they say
abbrev pub NoneBehind : ℕ → Image → ℕ → List (List ℕ) → Said → Type 0
NoneBehind last image n ls t = (ss : List Statement) → AreLines image ss t.next (rows ls) → Fits t ss → first_pass last t n ls ≡ []

-- a line that says a statement
body_back : (last : ℕ) (image : Image) (s : Said) (n : ℕ) (line t : List ℕ) (ts : List (List ℕ)) (ls : List (List ℕ)) (ss : List Statement)
    → tokens_of line ≡ t ∷ ts
    → is_body s.next ≡ true → are_good_bytes line ≡ true → map statement_of ((t ∷ ts) ∷ rows ls) ≡ map Ok ss → Fits s ss
    → NoneBehind last image (n + 1) ls (with_tokens n (tokens_of line) s)
    → first_pass last s n (line ∷ ls) ≡ []
body_back last image s n line t ts ls [] e b g h f more = absurd cc
body_back last image s n line t ts ls (st ∷ ss) e b g h f more =
    let is : statement_of (t ∷ ts) ≡ Ok st = cc in
    let others : map statement_of (rows ls) ≡ map Ok ss = cc in
    let new : with_tokens n (tokens_of line) s ≡ with_statement n (Ok st) s = adds_statement n s line t ts (Ok st) e b is in
    let rest : NoneBehind last image (n + 1) ls (with_statement n (Ok st) s) = subst (NoneBehind last image (n + 1) ls) new more in
    let lines : AreLines image ss (with_statement n (Ok st) s).next (rows ls) =
    subst (λ (k : Next). AreLines image ss k (rows ls)) (sym (stays st)) others in
    both_none {Y = ℕ × AsmCause} (λ c. (n, c)) (faults_of_line s line) _
    (body_faultless s line b g (ap (faults_of_tokens s) e ∙ ap (faults_of_statement s) is ∙ statement_none s st ss f))
    (ap (λ (w : Said). first_pass last w (n + 1) ls) new ∙ rest ss lines (statement_fits s n st ss f))
  where
    stays : (x : Statement) → (with_statement n (Ok x) s).next ≡ next.Body
    stays (Label name) = body_next s.next b
    stays (Coded c) = body_next s.next b

-- a head line
head_back : (last : ℕ) (image : Image) (s : Said) (n : ℕ) (line t : List ℕ) (ts : List (List ℕ)) (ls : List (List ℕ)) (ss : List Statement)
    → tokens_of line ≡ t ∷ ts
    → is_body s.next ≡ false → are_good_bytes line ≡ true → AreLines image ss s.next ((t ∷ ts) ∷ rows ls) → Fits s ss
    → NoneBehind last image (n + 1) ls (with_tokens n (tokens_of line) s)
    → first_pass last s n (line ∷ ls) ≡ []
head_back last image s n line t ts ls ss e b g h f more =
    let row = head_row image s.next ss (t ∷ ts) (rows ls) b h in
    let m = number_in s.next image in
    let new : with_tokens n (tokens_of line) s ≡ with_head (Some m) s = adds_head n s line t ts (Some m) e b row.0 in
    let rest : NoneBehind last image (n + 1) ls (with_head (Some m) s) = subst (NoneBehind last image (n + 1) ls) new more in
    both_none {Y = ℕ × AsmCause} (λ c. (n, c)) (faults_of_line s line) _
    (head_faultless s line b g (ap (is_head s.next) e ∙ ap is_some row.0))
    (ap (λ (w : Said). first_pass last w (n + 1) ls) new ∙ rest ss row.1 (head_fits s m ss f))

-- a line without tokens
skip_back : (last : ℕ) (image : Image) (s : Said) (n : ℕ) (line : List ℕ) (ls : List (List ℕ)) (ss : List Statement) → tokens_of line ≡ []
    → are_good_bytes line ≡ true
    → AreLines image ss s.next (rows ls) → Fits s ss → NoneBehind last image (n + 1) ls (with_tokens n (tokens_of line) s)
    → first_pass last s n (line ∷ ls) ≡ []
skip_back last image s n line ls ss e g h f more =
    let new : with_tokens n (tokens_of line) s ≡ s = adds_nothing n s line e in
    let rest : NoneBehind last image (n + 1) ls s = subst (NoneBehind last image (n + 1) ls) new more in
    both_none {Y = ℕ × AsmCause} (λ c. (n, c)) (faults_of_line s line) _ (skip_faultless s line e g) (ap (λ (w : Said). first_pass last w
    (n + 1) ls) new ∙ rest ss h f)

-- one line, by its tokens
line_back : (last : ℕ) (image : Image) (s : Said) (n : ℕ) (line : List ℕ) (ls : List (List ℕ)) (ss : List Statement) (ts : List (List ℕ))
    (b : Bool) → tokens_of line ≡ ts
    → is_body s.next ≡ b → are_good_bytes line ≡ true → AreLines image ss s.next (rows (line ∷ ls)) → Fits s ss
    → NoneBehind last image (n + 1) ls (with_tokens n (tokens_of line) s) → first_pass last s n (line ∷ ls) ≡ []
line_back last image s n line ls ss [] b e q g h f more =
    skip_back last image s n line ls ss e g (subst (λ (rs : List (List (List ℕ))). AreLines image ss s.next rs) (rows_skip line ls e) h) f more
line_back last image s n line ls ss (t ∷ ts) true e q g h f more =
    let rs : AreLines image ss s.next ((t ∷ ts) ∷ rows ls) = subst (λ (rs : List (List (List ℕ))). AreLines image ss s.next rs) (rows_take line ls t ts e) h in
    body_back last image s n line t ts ls ss e q g (subst (λ (k : Next). AreLines image ss k ((t ∷ ts) ∷ rows ls)) (body_next s.next q) rs) f more
line_back last image s n line ls ss (t ∷ ts) false e q g h f more =
    let rs : AreLines image ss s.next ((t ∷ ts) ∷ rows ls) = subst (λ (rs : List (List (List ℕ))). AreLines image ss s.next rs) (rows_take line ls t ts e) h in
    head_back last image s n line t ts ls ss e q g rs f more

-- all lines
pub lines_back : (last : ℕ) (image : Image) (s : Said) (n : ℕ) (ls : List (List ℕ)) (ss : List Statement) → all_of are_good_bytes ls ≡ true
    → AreLines image ss s.next (rows ls) → Fits s ss → first_pass last s n ls ≡ []
lines_back last image s n [] ss g h f = end_none last image s ss h f
lines_back last image s n (line ∷ ls) ss g h f =
    let parts = good_parts (are_good_bytes line) (all_of are_good_bytes ls) g in
    line_back last image s n line ls ss (tokens_of line) (is_body s.next) refl refl parts.0 h f
    (λ rest lines fits. lines_back last image (with_tokens n (tokens_of line) s) (n + 1) ls rest parts.1 lines fits)
