-- Printed lines are read one behind the other, without a fault.
use Rattle.std.proofs.Common.{◌≡◌, ℕ, ◌+◌, ◌^◌, ◌<◌, Bool, true, false, not, List, [], ◌∷◌, ◌++◌, map, flat_map, Option, Some, refl}
use Rattle.std.proofs.Common.{sym, ap, ap₂, ◌∙◌, arith}
use Rattle.std.proofs.Common.{true≢false, ◌==◌, ◌||◌, length, append_assoc}
use Rattle.std.specs.Prelude.{decimal, codes, is_some}
use Rattle.std.proofs.lemmas.Bool.{ltb-true}
use Rattle.std.proofs.lemmas.Grind.{flat_map-append}
use Rattle.std.proofs.lemmas.List.{map-append}
use Rattle.tam_word.specs.declared.op.Op.{Op}
use Rattle.tam_word.specs.declared.op.Op.TheVariants as op
use Rattle.tam_word.specs.OpNames.{op_name}
use Rattle.tam_word.specs.Lists.{all_of, where_so}
use Rattle.tam_text.specs.Lines.{lines_of}
use Rattle.tl0_code.specs.declared.code_line.CodeLine.{CodeLine}
use Rattle.tl0_code.specs.declared.code_line.CodeLine.TheVariants.{Version, Counts, Head, Into, Begins, Does, Stops, Ends}
use Rattle.tl0_code.specs.declared.instr.Instr.{Instr}
use Rattle.tl0_code.specs.declared.instr.Instr.TheVariants as instr
use Rattle.tl0_code.specs.ThreadCode.{numbers_of}
use Rattle.tl0_code.specs.CodeTexts.{line_tokens, spaced}
use Rattle.tl0_text.specs.declared.cause.Cause0.{Cause0}
use Rattle.tl0_text.specs.declared.cause.Cause0.TheVariants.{BadHead, BadLine, BadNumber, TooMany}
use Rattle.tl0_text.specs.declared.next.Next.{Next}
use Rattle.tl0_text.specs.declared.next.Next.TheVariants as next
use Rattle.tl0_text.specs.declared.verb.Verb.TheVariants as verb
use Rattle.tl0_text.specs.declared.verb.Form.{Form}
use Rattle.tl0_text.specs.declared.verb.Form.TheVariants as form
use Rattle.tl0_text.specs.CodeSayings.{tokens_of, is_whole, has_empty, form_text, form_of, size_of, line_said}
use Rattle.tl0_text.specs.Reading.{Said, with_line, is_head, head_of, line_at, passes, faults_by, faults_of_tokens}
use Rattle.tl0_text.specs.Reading.{faults_of_line, said_by, faults_from, said_from}
use Rattle.tl0_text.proofs.Cutting.{is_token, all-parts, all-first, decimal-token, signed-token, tokens-again, whole-again, none-empty, line-first}
use Rattle.tl0_text.proofs.Cutting.{with-nothing}
use Rattle.tl0_text.proofs.Forms.{line_form, line_numbers, second_text, number_tokens, verb_of, IsBehindHead, line-tokens}
use Rattle.tl0_text.specs.Printing.{is_word}
use Rattle.tl0_text.proofs.Comes.{Comes, said-again, body-again, counts-again}
use Rattle.tl0_text.proofs.Sayings.{line_text, some-tokens}

-- ---- the tokens of a line are tokens

-- a number
number-token : (n : ℕ) → is_word n ≡ true → is_token (decimal n) ≡ true
number-token n h = let l : n < 2 ^ 32 = ltb-true n (2 ^ 32) h in decimal-token n (omega arith)

-- numbers
numbers-token : (ns : List ℕ) → all_of is_word ns ≡ true → all_of is_token (map decimal ns) ≡ true
numbers-token [] h = refl
numbers-token (n ∷ ns) h =
    let p = all-parts is_word n ns h in all-first is_token (decimal n) (map decimal ns) (number-token n p.0) (numbers-token ns p.1)

-- the second of a line of two
second-token : (f : Form) (n : ℕ) → is_word n ≡ true → is_token (second_text f n) ≡ true
second-token form.Code n h = number-token n h
second-token form.Inlet n h = number-token n h
second-token form.Thread n h = number-token n h
second-token form.Stop n h = number-token n h
second-token form.End n h = number-token n h
second-token (form.Instr (verb.Operator o)) n h = number-token n h
second-token (form.Instr verb.Imm) n h = signed-token n (ltb-true n (2 ^ 32) h)
second-token (form.Instr verb.Mov) n h = number-token n h
second-token (form.Instr verb.Fork) n h = number-token n h
second-token (form.Instr verb.Switch) n h = number-token n h
second-token (form.Instr verb.Falloc) n h = number-token n h
second-token (form.Instr verb.Send) n h = number-token n h
second-token (form.Instr verb.Ret) n h = number-token n h
second-token (form.Instr verb.Ialloc) n h = number-token n h
second-token (form.Instr verb.Ifetch) n h = number-token n h
second-token (form.Instr verb.Istore) n h = number-token n h
second-token (form.Instr verb.Skip) n h = number-token n h

-- the numbers of a line
line-number-tokens : (f : Form) (ns : List ℕ) → all_of is_word ns ≡ true → all_of is_token (number_tokens f ns) ≡ true
line-number-tokens f [] h = refl
line-number-tokens f (a ∷ []) h = numbers-token (a ∷ []) h
line-number-tokens f (a ∷ b ∷ []) h =
    let p = all-parts is_word a (b ∷ []) h in
    let q = all-parts is_word b [] p.1 in
    all-first is_token (decimal a) (second_text f b ∷ []) (number-token a p.0) (all-first is_token (second_text f b) [] (second-token f b q.0) refl)
line-number-tokens f (a ∷ b ∷ c ∷ ns) h = numbers-token (a ∷ b ∷ c ∷ ns) h

-- the name of an operator
op-token : (o : Op) → is_token (op_name o) ≡ true
op-token op.Add = refl
op-token op.Sub = refl
op-token op.Mul = refl
op-token op.Div = refl
op-token op.Divu = refl
op-token op.Rem = refl
op-token op.Remu = refl
op-token op.And = refl
op-token op.Or = refl
op-token op.Xor = refl
op-token op.Sll = refl
op-token op.Srl = refl
op-token op.Sra = refl
op-token op.Slt = refl
op-token op.Sltu = refl
op-token op.Eq = refl

-- the word of a line
form-token : (f : Form) → is_token (form_text f) ≡ true
form-token form.Code = refl
form-token form.Inlet = refl
form-token form.Thread = refl
form-token form.Stop = refl
form-token form.End = refl
form-token (form.Instr (verb.Operator o)) = op-token o
form-token (form.Instr verb.Imm) = refl
form-token (form.Instr verb.Mov) = refl
form-token (form.Instr verb.Fork) = refl
form-token (form.Instr verb.Switch) = refl
form-token (form.Instr verb.Falloc) = refl
form-token (form.Instr verb.Send) = refl
form-token (form.Instr verb.Ret) = refl
form-token (form.Instr verb.Ialloc) = refl
form-token (form.Instr verb.Ifetch) = refl
form-token (form.Instr verb.Istore) = refl
form-token (form.Instr verb.Skip) = refl

-- a line behind the head
behind-tokens : (l : CodeLine) → IsBehindHead l → all_of is_word (line_numbers l) ≡ true → all_of is_token (line_tokens l) ≡ true
behind-tokens l b w =
    ap (all_of is_token) (line-tokens l b)
    ∙ all-first is_token (form_text (line_form l)) (number_tokens (line_form l) (line_numbers l)) (form-token (line_form l))
    (line-number-tokens (line_form l) (line_numbers l) w)

-- any line
pub tokens-tokens : (l : CodeLine) → all_of is_word (line_numbers l) ≡ true → all_of is_token (line_tokens l) ≡ true
tokens-tokens Version w = refl
tokens-tokens (Counts k m) w =
    let p = all-parts is_word k (m ∷ []) w in
    let q = all-parts is_word m [] p.1 in
    all-first is_token (codes "codes") (decimal k ∷ codes "main" ∷ decimal m ∷ []) refl
    (all-first is_token (decimal k) (codes "main" ∷ decimal m ∷ []) (number-token k p.0)
    (all-first is_token (codes "main") (decimal m ∷ []) refl (all-first is_token (decimal m) [] (number-token m q.0) refl)))
tokens-tokens (Head p r k) w = behind-tokens (Head p r k) tt w
tokens-tokens (Into i) w = behind-tokens (Into i) tt w
tokens-tokens (Begins k) w = behind-tokens (Begins k) tt w
tokens-tokens (Does i) w = behind-tokens (Does i) tt w
tokens-tokens Stops w = refl
tokens-tokens Ends w = refl

-- ---- one line

-- an instruction has as many tokens as its verb wants
instr-size : (i : Instr) → (length (number_tokens (form.Instr (verb_of i)) (numbers_of i)) == size_of (form.Instr (verb_of i))) ≡ true
instr-size (instr.Imm d w) = refl
instr-size (instr.Mov d a) = refl
instr-size (instr.Op o d a b) = refl
instr-size (instr.Fork t) = refl
instr-size (instr.Switch s t u) = refl
instr-size (instr.Falloc c i) = refl
instr-size (instr.Send f p a) = refl
instr-size (instr.Ret k a) = refl
instr-size (instr.Ialloc n i) = refl
instr-size (instr.Ifetch r x i n) = refl
instr-size (instr.Istore r x a n) = refl
instr-size (instr.Skip n) = refl

-- a line as many as its form
line-size : (l : CodeLine) → IsBehindHead l → (length (number_tokens (line_form l) (line_numbers l)) == size_of (line_form l)) ≡ true
line-size Version b = absurd b
line-size (Counts k m) b = absurd b
line-size (Head p r k) b = refl
line-size (Into i) b = refl
line-size (Begins k) b = refl
line-size (Does i) b = instr-size i
line-size Stops b = refl
line-size Ends b = refl

-- a line of the head is read
head-again : (n : Next) (l : CodeLine) → is_head n ≡ true → Comes n l → all_of is_word (line_numbers l) ≡ true → head_of n (line_tokens l) ≡ Some l
head-again next.Version Version b c w = refl
head-again next.Version (Counts k m) b c w = absurd c
head-again next.Version (Head p r k) b c w = absurd c
head-again next.Version (Into i) b c w = absurd c
head-again next.Version (Begins k) b c w = absurd c
head-again next.Version (Does i) b c w = absurd c
head-again next.Version Stops b c w = absurd c
head-again next.Version Ends b c w = absurd c
head-again next.Counts Version b c w = absurd c
head-again next.Counts (Counts k m) b c w =
    let p = all-parts is_word k (m ∷ []) w in counts-again k m c.0 c.1 p.0 (all-parts is_word m [] p.1).0
head-again next.Counts (Head p r k) b c w = absurd c
head-again next.Counts (Into i) b c w = absurd c
head-again next.Counts (Begins k) b c w = absurd c
head-again next.Counts (Does i) b c w = absurd c
head-again next.Counts Stops b c w = absurd c
head-again next.Counts Ends b c w = absurd c
head-again next.Head l b c w = absurd (true≢false (sym b))
head-again next.Inlets l b c w = absurd (true≢false (sym b))
head-again next.Threads l b c w = absurd (true≢false (sym b))
head-again next.Instrs l b c w = absurd (true≢false (sym b))
head-again next.Done l b c w = absurd (true≢false (sym b))

-- a line elsewhere stands behind the head
behind-head : (n : Next) (l : CodeLine) → is_head n ≡ false → Comes n l → IsBehindHead l
behind-head next.Version l b c = absurd (true≢false b)
behind-head next.Counts l b c = absurd (true≢false b)
behind-head next.Head Version b c = absurd c
behind-head next.Head (Counts k m) b c = absurd c
behind-head next.Head (Head p r k) b c = tt
behind-head next.Head (Into i) b c = absurd c
behind-head next.Head (Begins k) b c = absurd c
behind-head next.Head (Does i) b c = absurd c
behind-head next.Head Stops b c = absurd c
behind-head next.Head Ends b c = absurd c
behind-head next.Inlets Version b c = absurd c
behind-head next.Inlets (Counts k m) b c = absurd c
behind-head next.Inlets (Head p r k) b c = absurd c
behind-head next.Inlets (Into i) b c = tt
behind-head next.Inlets (Begins k) b c = tt
behind-head next.Inlets (Does i) b c = absurd c
behind-head next.Inlets Stops b c = absurd c
behind-head next.Inlets Ends b c = absurd c
behind-head next.Threads Version b c = absurd c
behind-head next.Threads (Counts k m) b c = absurd c
behind-head next.Threads (Head p r k) b c = absurd c
behind-head next.Threads (Into i) b c = absurd c
behind-head next.Threads (Begins k) b c = tt
behind-head next.Threads (Does i) b c = absurd c
behind-head next.Threads Stops b c = absurd c
behind-head next.Threads Ends b c = tt
behind-head next.Instrs Version b c = absurd c
behind-head next.Instrs (Counts k m) b c = absurd c
behind-head next.Instrs (Head p r k) b c = absurd c
behind-head next.Instrs (Into i) b c = absurd c
behind-head next.Instrs (Begins k) b c = absurd c
behind-head next.Instrs (Does i) b c = tt
behind-head next.Instrs Stops b c = tt
behind-head next.Instrs Ends b c = absurd c
behind-head next.Done Version b c = absurd c
behind-head next.Done (Counts k m) b c = absurd c
behind-head next.Done (Head p r k) b c = absurd c
behind-head next.Done (Into i) b c = absurd c
behind-head next.Done (Begins k) b c = absurd c
behind-head next.Done (Does i) b c = absurd c
behind-head next.Done Stops b c = absurd c
behind-head next.Done Ends b c = absurd c

module _ (s : Said) (l : CodeLine) (c : Comes s.next l) (w : all_of is_word (line_numbers l) ≡ true) (none : passes s (Some l) ≡ false) where
  -- its tokens are read as they are printed
  kept : tokens_of (line_text l) ≡ line_tokens l
  kept =
      let some = some-tokens l in
      let tokens : all_of is_token (some.0 ∷ some.1) ≡ true = ap (all_of is_token) (sym some.2) ∙ tokens-tokens l w in
      ap (λ (ts : List (List ℕ)). tokens_of (spaced ts)) some.2 ∙ tokens-again some.0 some.1 tokens ∙ sym some.2

  -- it is whole
  whole : is_whole (line_text l) ≡ true
  whole =
      let some = some-tokens l in
      let tokens : all_of is_token (some.0 ∷ some.1) ≡ true = ap (all_of is_token) (sym some.2) ∙ tokens-tokens l w in
      ap (λ (ts : List (List ℕ)). is_whole (spaced ts)) some.2 ∙ whole-again some.0 some.1 tokens

  -- it is the first line of its text and what follows
  pub first : (rest : List ℕ) → lines_of (line_text l ++ rest) ≡ line_text l ∷ lines_of rest
  first rest =
      let some = some-tokens l in
      let tokens : all_of is_token (some.0 ∷ some.1) ≡ true = ap (all_of is_token) (sym some.2) ∙ tokens-tokens l w in
      ap (λ (ts : List (List ℕ)). lines_of (spaced ts ++ rest)) some.2 ∙ line-first some.0 some.1 rest tokens
      ∙ ap (λ (ts : List (List ℕ)). spaced ts ∷ lines_of rest) (sym some.2)

  -- it is read
  pub at-again : line_at s.next (tokens_of (line_text l)) ≡ Some l
  at-again = ap (line_at s.next) kept ∙ go (is_head s.next) refl
    where
      go : (b : Bool) → is_head s.next ≡ b → line_at s.next (line_tokens l) ≡ Some l
      go true p = rw (line_at, p) (head-again s.next l p c w)
      go false p = rw (line_at, p) (body-again s.next l (behind-head s.next l p c) c w).1

  -- behind the head without a fault
  clean-behind : IsBehindHead l → faults_of_tokens s (line_text l) (line_tokens l) ≡ []
  clean-behind b =
      let f = line_form l in
      let t = form_text f in
      let ts = number_tokens f (line_numbers l) in
      let is : line_tokens l ≡ t ∷ ts = line-tokens l b in
      let known : form_of s.next t ≡ Some f = (body-again s.next l b c w).0 in
      let said : line_said f ts ≡ Some l = said-again l b w in
      let size : (length ts == size_of f) ≡ true = line-size l b in
      let empty : has_empty (t ∷ ts) ≡ false = none-empty (t ∷ ts) (ap (all_of is_token) (sym is) ∙ tokens-tokens l w) in
      let tests : (not (length ts == size_of f) || (has_empty (t ∷ ts) || not (is_whole (line_text l)))) ≡ false = rw (size, empty, whole) refl in
      let by_form : faults_by s (line_text l) (t ∷ ts) (Some f) ts ≡ [] =
      ap₂ (λ (x : Bool) (o : Option CodeLine). (where_so x BadLine ++ where_so (not (is_some o)) BadNumber) ++ where_so (passes s o) TooMany) tests said
      ∙ ap (λ (x : Bool). where_so x TooMany) none in
      ap (faults_of_tokens s (line_text l)) is ∙ ap (λ (o : Option Form). faults_by s (line_text l) (t ∷ ts) o ts) known ∙ by_form

  -- without a fault
  pub clean-again : faults_of_line s (line_text l) ≡ []
  clean-again = go (is_head s.next) refl
    where
      go : (b : Bool) → is_head s.next ≡ b → faults_of_line s (line_text l) ≡ []
      go true p =
          let there : head_of s.next (tokens_of (line_text l)) ≡ Some l = ap (head_of s.next) kept ∙ head-again s.next l p c w in
          rw (faults_of_line, p)
          (ap₂ (λ (o : Option CodeLine) (x : Bool). where_so (not (is_some o)) BadHead ++ where_so (not x) BadLine) there whole)
      go false p = rw (faults_of_line, p) (ap (faults_of_tokens s (line_text l)) kept ∙ clean-behind (behind-head s.next l p c))

-- ---- lines

-- no line has a fault, from whichever number on
abbrev pub NoFaults : Said → List (List ℕ) → Type 0
NoFaults s lines = (n : ℕ) → faults_from s n lines ≡ []

-- lines lead from what was said to what was said behind them
pub record Leads (s : Said) (ls : List CodeLine) (t : Said) : Type 0 where
  pub clean : (rest : List (List ℕ)) → NoFaults t rest → NoFaults s (map line_text ls ++ rest)
  pub said : (rest : List (List ℕ)) → said_from s (map line_text ls ++ rest) ≡ said_from t rest
  pub lines : (rest : List ℕ) → lines_of (flat_map line_text ls ++ rest) ≡ map line_text ls ++ lines_of rest

-- no lines lead nowhere
pub leads-none : (s : Said) → Leads s [] s
leads-none s = record { clean = λ rest h. h; said = λ rest. refl; lines = λ rest. refl }

-- a line leads behind it
pub leads-one : (s : Said) (l : CodeLine) → Comes s.next l → all_of is_word (line_numbers l) ≡ true → passes s (Some l) ≡ false
    → Leads s (l ∷ []) (with_line s l)
leads-one s l c w none =
    let at = at-again s l c w none in
    record {
      clean = λ rest h n.
          ap₂ (λ (cs : List Cause0) (o : Option CodeLine). map (λ x. (n, x)) cs ++ faults_from (said_by s o) (n + 1) rest)
          (clean-again s l c w none) at ∙ h (n + 1);
      said = λ rest. ap (λ (o : Option CodeLine). said_from (said_by s o) rest) at;
      lines = λ rest. ap (λ (bs : List ℕ). lines_of (bs ++ rest)) (with-nothing (line_text l)) ∙ first s l c w none rest;
    }

-- lines behind lines
pub leads-then : (s t u : Said) (xs ys : List CodeLine) → Leads s xs t → Leads t ys u → Leads s (xs ++ ys) u
leads-then s t u xs ys p q =
    let cut : (rest : List (List ℕ)) → map line_text (xs ++ ys) ++ rest ≡ map line_text xs ++ (map line_text ys ++ rest) =
    λ rest. ap (λ (ls : List (List ℕ)). ls ++ rest) (map-append line_text xs ys) ∙ append_assoc (map line_text xs) (map line_text ys) rest in
    record {
      clean = λ rest h n. ap (faults_from s n) (cut rest) ∙ p.clean (map line_text ys ++ rest) (q.clean rest h) n;
      said = λ rest. ap (said_from s) (cut rest) ∙ p.said (map line_text ys ++ rest) ∙ q.said rest;
      lines = λ rest.
          ap (λ (bs : List ℕ). lines_of (bs ++ rest)) (flat_map-append line_text xs ys)
          ∙ ap lines_of (append_assoc (flat_map line_text xs) (flat_map line_text ys) rest)
          ∙ p.lines (flat_map line_text ys ++ rest) ∙ ap (λ (ls : List (List ℕ)). map line_text xs ++ ls) (q.lines rest) ∙ sym (cut (lines_of rest));
    }
