-- Clean lines keep the limits: the vertices of each block, and how deep conds stand in one another.
use Rattle.std.proofs.Common.{◌≡◌, ℕ, zero, suc, ◌+◌, ◌<◌, ◌≤◌, Bool, true, false, not, ◌&&◌, nat_lt, List, [], ◌∷◌, ◌++◌, length, map, flat_map, refl, sym}
use Rattle.std.proofs.Common.{ap, ap₂, subst, ◌∙◌, true≢false, append_assoc, arith, inl, inr, ◌⊎◌, ⊎_elim}
use Rattle.std.specs.List.{filter}
use Rattle.std.proofs.lemmas.Bool.{ltb-false}
use Rattle.tam_word.proofs.Members.{In, filter-in, map-none, left-in, right-in}
use Rattle.tam_read.specs.declared.cause.ReadCause.TheVariants.{TooMany}
use Rattle.tam_read.specs.declared.cause.Limit.{Limit}
use Rattle.tam_read.specs.declared.cause.Limit.TheVariants.{Codes, CodeVertices, BlockVertices, Nesting}
use Rattle.tam_read.specs.declared.form.Verb.{Verb}
use Rattle.tam_read.specs.declared.form.Verb.TheVariants as verb
use Rattle.tam_read.specs.declared.block.Opening.TheVariants.{ByCode, ByCond, ByElse}
use Rattle.tam_read.specs.Sentences.{Sentence, vertices_of, is_code, is_cond}
use Rattle.tam_read.specs.Faults.{Open, opened, with_own, closed, open_behind, open_after, until_code, vertices, passes, faults_of_sentence}
use Rattle.tam_read.proofs.Nested.{Tree, Done, Plain, Branch, flat, Fits, is_plain_verb}
use Rattle.tam_read.proofs.Codes.{CodeLines, lines_of_code, lines_of_codes}
use Rattle.tam_read.proofs.Clean.{AreClean, clean-parts, NoCode}
use Rattle.tam_read.proofs.Contexts.{put_before, until-here}
use Rattle.tam_read.proofs.CodeByCode.{clean-prefix, clean-back}
use Rattle.tam_read.proofs.TreeBuilt.{flat-branch}
use Rattle.tam_read.proofs.ReadCodes.{body_lines, body-no-code}

-- ---- a limit isn't passed

-- where none passes, this one doesn't
none-passes : (f : Limit → Bool) (ls : List Limit) (l : Limit) → filter f ls ≡ [] → In l ls → f l ≡ false
none-passes f ls l e i = go (f l) refl
  where
    go : (b : Bool) → f l ≡ b → f l ≡ false
    go false p = p
    go true p = absurd (subst (λ ms. In l ms) e (filter-in f l ls i p))

-- each limit is looked at
in-limits : (l : Limit) → In l (Codes ∷ CodeVertices ∷ BlockVertices ∷ Nesting ∷ [])
in-limits Codes = inl refl
in-limits CodeVertices = inr (inl refl)
in-limits BlockVertices = inr (inr (inl refl))
in-limits Nesting = inr (inr (inr (inl refl)))

-- a line without a fault passes no limit
pub limit-kept : (before : List Sentence) (s : Sentence) (l : Limit) → faults_of_sentence before s ≡ [] → passes before s l ≡ false
limit-kept before s l e = none-passes (passes before s) (Codes ∷ CodeVertices ∷ BlockVertices ∷ Nesting ∷ []) l
    (map-none TooMany _ (clean-parts before s e).within) (in-limits l)

-- where the first holds, the second fails
second-fails : (t u : Bool) → t ≡ true → (t && u) ≡ false → u ≡ false
second-fails true u p e = e
second-fails false u p e = absurd cc

-- a node's line has a vertex
plain-some : (v : Verb) → is_plain_verb v ≡ true → nat_lt 0 (vertices_of v) ≡ true
plain-some verb.Code e = absurd cc
plain-some verb.Cond e = absurd cc
plain-some verb.Else e = absurd cc
plain-some verb.End e = absurd cc
plain-some v e = refl

-- ---- trees within the limits

-- the tree's block stands in h others, and has v vertices before the tree: each block has at most 128, and each cond stands in at most 16 blocks
abbrev pub Bounded : Tree → ℕ → ℕ → Type 0
Bounded Done h v = Unit {0}
Bounded (Plain s r) h v = (vertices_of s.verb + v ≤ 128) × Bounded r h (vertices_of s.verb + v)
Bounded (Branch s y t n e r) h v = (1 + v ≤ 128) × (suc h ≤ 16) × Bounded y (suc h) 0 × Bounded n (suc h) 0 × Bounded r h (1 + v)

-- the vertices of the block behind the tree
abbrev pub own_after : Tree → ℕ → ℕ
own_after Done v = v
own_after (Plain s r) v = own_after r (vertices_of s.verb + v)
own_after (Branch s y t n e r) v = own_after r (1 + v)

-- lines put before others, in two parts
pub put-both : (before xs ys : List Sentence) → put_before before (xs ++ ys) ≡ put_before (put_before before xs) ys
put-both before [] ys = refl
put-both before (x ∷ xs) ys = put-both (x ∷ before) xs ys

-- what is known behind a tree
pub record IsBounded (t : Tree) (before : List Sentence) (o : Open) (os : List Open) (rest : List Sentence) : Type 0 where
  pub last : Open
  pub opens : open_after (put_before before (flat t)) ≡ last ∷ os
  pub own : vertices last.own ≡ own_after t (vertices o.own)
  pub bounded : Bounded t (length os) (vertices o.own)
  pub clean : AreClean (put_before before (flat t)) rest

-- a plain line stands in the innermost block
plain-open : (s : Sentence) (v : Verb) (o : Open) (os : List Open) → is_plain_verb v ≡ true
    → open_behind s v (o ∷ os) ≡ record { opening = o.opening; own = s ∷ o.own } ∷ os
plain-open s verb.Code o os e = absurd cc
plain-open s verb.Cond o os e = absurd cc
plain-open s verb.Else o os e = absurd cc
plain-open s verb.End o os e = absurd cc
plain-open s v o os e = refl

-- what a line adds to its block
abbrev owned : Sentence → Open → Open
owned s o = record { opening = o.opening; own = s ∷ o.own }

-- a line with a vertex leaves its block at most 128
within-block : (before : List Sentence) (s : Sentence) (o : Open) (os : List Open) → faults_of_sentence before s ≡ [] → open_after before ≡ o ∷ os
    → nat_lt 0 (vertices_of s.verb) ≡ true → vertices_of s.verb + vertices o.own ≤ 128
within-block before s o os c e some =
    let h : nat_lt 128 (vertices_of s.verb + vertices o.own) ≡ false =
    second-fails (nat_lt 0 (vertices_of s.verb)) (nat_lt 128 (vertices_of s.verb + vertices o.own)) some (rw e at (limit-kept before s BlockVertices c)) in
    ltb-false 128 (vertices_of s.verb + vertices o.own) h

-- a cond stands in at most 16 blocks
within-nesting : (before : List Sentence) (s : Sentence) (o : Open) (os : List Open) → faults_of_sentence before s ≡ [] → open_after before ≡ o ∷ os
    → s.verb ≡ verb.Cond → suc (length os) ≤ 16
within-nesting before s o os c e is =
    let h : nat_lt 16 (suc (length os)) ≡ false = second-fails (is_cond s.verb) (nat_lt 16 (suc (length os))) (ap is_cond is)
    (rw e at (limit-kept before s Nesting c)) in
    ltb-false 16 (suc (length os)) h

-- clean lines of a tree keep it within the limits
pub tree-bounded : (t : Tree) → Fits t → (before : List Sentence) (o : Open) (os : List Open) (rest : List Sentence) → open_after before ≡ o ∷ os
    → AreClean before (flat t ++ rest) → IsBounded t before o os rest
tree-bounded Done f before o os rest e c = record { last = o; opens = e; own = refl; bounded = tt; clean = c }
tree-bounded (Plain s r) f before o os rest e c =
    let next : open_after (s ∷ before) ≡ owned s o ∷ os = ap (open_behind s s.verb) e ∙ plain-open s s.verb o os f.0 in
    let i = tree-bounded r f.1 (s ∷ before) (owned s o) os rest next c.1 in
    record { last = i.last; opens = i.opens; own = i.own; bounded = (within-block before s o os c.0 e (plain-some s.verb f.0), i.bounded); clean = i.clean }
tree-bounded (Branch s y t n e r) f before o os rest is c =
    let parts : AreClean before (s ∷ (flat y ++ (t ∷ (flat n ++ (e ∷ (flat r ++ rest)))))) = subst (λ ss. AreClean before ss)
    (flat-branch s y t n e r rest) c in
    let one : vertices_of s.verb ≡ 1 = ap vertices_of f.0 in
    let some : nat_lt 0 (vertices_of s.verb) ≡ true = ap (λ v. nat_lt 0 v) one in
    let here = within-block before s o os parts.0 is some in
    let own_next : vertices (owned s o).own ≡ 1 + vertices o.own = ap (λ v. v + vertices o.own) one in
    let b1 = s ∷ before in
    let open1 : open_after b1 ≡ opened ByCond ∷ owned s o ∷ os = ap (open_behind s s.verb) is ∙ ap (λ v. open_behind s v (o ∷ os)) f.0 in
    let iy = tree-bounded y f.1 b1 (opened ByCond) (owned s o ∷ os) (t ∷ (flat n ++ (e ∷ (flat r ++ rest)))) open1 parts.1 in
    let b2 = put_before b1 (flat y) in
    let b3 = t ∷ b2 in
    let open3 : open_after b3 ≡ opened ByElse ∷ owned s o ∷ os = ap (open_behind t t.verb) iy.opens
    ∙ ap (λ v. open_behind t v (iy.last ∷ owned s o ∷ os)) f.2 in
    let jn = tree-bounded n f.3 b3 (opened ByElse) (owned s o ∷ os) (e ∷ (flat r ++ rest)) open3 iy.clean.1 in
    let b4 = put_before b3 (flat n) in
    let b5 = e ∷ b4 in
    let open5 : open_after b5 ≡ owned s o ∷ os = ap (open_behind e e.verb) jn.opens ∙ ap (λ v. open_behind e v (jn.last ∷ owned s o ∷ os)) f.4 in
    let kr = tree-bounded r f.5 b5 (owned s o) os rest open5 jn.clean.1 in
    let whole : put_before before (flat (Branch s y t n e r)) ≡ put_before b5 (flat r) = put-both b1 (flat y) (t ∷ (flat n ++ (e ∷ flat r)))
    ∙ put-both b3 (flat n) (e ∷ flat r) in
    record {
      last = kr.last;
      opens = ap open_after whole ∙ kr.opens;
      own = kr.own ∙ ap (own_after r) own_next;
      bounded = (
        omega (arith, here, one),
        within-nesting before s o os parts.0 is f.0,
        iy.bounded,
        jn.bounded,
        subst
            (λ v. Bounded r (length os) v) own_next kr.bounded,
      );
      clean = subst (λ b. AreClean b rest) (sym whole) kr.clean;
    }

-- ---- codes

-- the lines of a code are clean behind lines that leave no code open
pub record IsCleanCode (d : CodeLines) : Type 0 where
  pub before : List Sentence
  pub closed : open_after before ≡ []
  pub rest : List Sentence
  pub clean : AreClean before (lines_of_code d ++ rest)

-- the first line of a code opens its block
head-opens : (d : CodeLines) (before : List Sentence) → open_after before ≡ [] → open_after (d.head ∷ before) ≡ opened ByCode ∷ []
head-opens d before e = ap (λ v. open_behind d.head v (open_after before)) d.begins ∙ ap (λ os. opened ByCode ∷ os) e

-- a code's tree is within the limits
pub code-bounded : (d : CodeLines) (k : IsCleanCode d) → IsBounded d.body (d.head ∷ k.before) (opened ByCode) [] (d.close ∷ k.rest)
code-bounded d k =
    let parts = append_assoc (flat d.body) (d.close ∷ []) k.rest in
    tree-bounded d.body d.fits (d.head ∷ k.before) (opened ByCode) [] (d.close ∷ k.rest) (head-opens d k.before k.closed)
    (subst (λ ss. AreClean (d.head ∷ k.before) ss) parts k.clean.1)

-- each code of clean lines is such a one
pub codes-clean : (before : List Sentence) (ds : List CodeLines) → open_after before ≡ [] → AreClean before (lines_of_codes ds) → (d : CodeLines) → In d ds
    → IsCleanCode d
codes-clean before [] e c d i = absurd i
codes-clean before (a ∷ ds) e c d i =
    let k : IsCleanCode a = record { before = before; closed = e; rest = lines_of_codes ds; clean = c } in
    let b = code-bounded a k in
    let ends : open_after (a.close ∷ put_before (a.head ∷ before) (flat a.body)) ≡ [] =
    ap (open_behind a.close a.close.verb) b.opens ∙ ap (λ v. open_behind a.close v (b.last ∷ [])) a.closes in
    let whole : put_before before (lines_of_code a) ≡ a.close ∷ put_before (a.head ∷ before) (flat a.body) = put-both (a.head ∷ before) (flat a.body)
    (a.close ∷ []) in
    ⊎_elim (λ same. subst (λ z. IsCleanCode z) same k)
    (λ later. codes-clean (put_before before (lines_of_code a)) ds (ap open_after whole ∙ ends)
    (clean-back before (lines_of_code a) (lines_of_codes ds) c) d later)
    i

-- ---- the vertices of a code

-- the vertices behind lines of a code
few-vertices : (before ss : List Sentence) → AreClean before ss → NoCode ss → vertices (until_code before) ≤ 1024
    → vertices ss + vertices (until_code before) ≤ 1024
few-vertices before [] c none h = omega arith
few-vertices before (s ∷ ss) c none h =
    let next : until_code (s ∷ before) ≡ s ∷ until_code before = rw (until_code, none.0) refl in
    let here : vertices_of s.verb + vertices (until_code before) ≤ 1024 = go (nat_lt 0 (vertices_of s.verb)) refl in
    let i = few-vertices (s ∷ before) ss c.1 none.1 (rw next here) in
    omega (arith, i, ap vertices next)
  where
    go : (b : Bool) → nat_lt 0 (vertices_of s.verb) ≡ b → vertices_of s.verb + vertices (until_code before) ≤ 1024
    go false p = let zero_v : vertices_of s.verb ≤ 0 = ltb-false 0 (vertices_of s.verb) p in omega arith
    go true p = ltb-false 1024 (vertices_of s.verb + vertices (until_code before))
        (second-fails (nat_lt 0 (vertices_of s.verb)) (nat_lt 1024 (vertices_of s.verb + vertices (until_code before))) p
        (limit-kept before s CodeVertices c.0))

-- a code has at most 1,024
pub code-vertices : (d : CodeLines) → IsCleanCode d → vertices (body_lines d) ≤ 1024
code-vertices d k =
    let none : until_code (d.head ∷ k.before) ≡ [] = until-here d.head k.before (ap is_code d.begins) in
    let body = clean-prefix (d.head ∷ k.before) (body_lines d) k.rest k.clean.1 in
    let zero_v : vertices (until_code (d.head ∷ k.before)) ≡ 0 = ap vertices none in
    let h = few-vertices (d.head ∷ k.before) (body_lines d) body (body-no-code d) (omega (arith, zero_v)) in
    omega (arith, h, zero_v)
