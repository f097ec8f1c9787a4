-- Codes whose lines have no fault by themselves, keep the limits and have names that differ are clean.
use Rattle.std.proofs.Common.{◌≡◌, ℕ, zero, suc, ◌+◌, ◌<◌, ◌≤◌, Bool, true, false, not, ◌&&◌, ◌||◌, nat_lt, List, [], ◌∷◌, ◌++◌, length, map}
use Rattle.std.proofs.Common.{flat_map, refl, sym, ap, ap₂, subst, ◌∙◌, true≢false, append_assoc, arith, inl, inr, ◌⊎◌, ⊎_elim}
use Rattle.std.proofs.lemmas.Bool.{le-ltb}
use Rattle.std.proofs.lemmas.List.{length-append}
use Rattle.std.proofs.lemmas.List.Concat.{flat_map-cons, flat_map-append}
use Rattle.tam_word.specs.Lists.{any_of, all_differ, same_bytes}
use Rattle.tam_word.proofs.Members.{In, left-in, right-in, in-append, in-any}
use Rattle.tam_text.proofs.SameBytes.{same_self}
use Rattle.tam_graph.proofs.NodeNames.{differ-behind}
use Rattle.tam_read.specs.declared.form.Verb.{Verb}
use Rattle.tam_read.specs.declared.form.Verb.TheVariants as verb
use Rattle.tam_read.specs.declared.block.Opening.{Opening}
use Rattle.tam_read.specs.declared.block.Opening.TheVariants.{ByCode, ByCond, ByElse}
use Rattle.tam_read.specs.Sentences.{Sentence, vertices_of, is_code, is_cond, names_made, code_begun}
use Rattle.tam_read.specs.Faults.{Open, opened as just_opened, open_behind, open_after, until_code, vertices, has_bad_name}
use Rattle.tam_read.specs.Faults.{has_bad_number, is_out_of_place, is_named_again, some_shared, faults_of_sentence}
use Rattle.tam_read.proofs.Nested.{Tree, Done, Plain, Branch, flat, Fits, is_plain_verb}
use Rattle.tam_read.proofs.Codes.{CodeLines, lines_of_code, lines_of_codes}
use Rattle.tam_read.proofs.Clean.{AreClean, Apart, DifferBehind, NoCode}
use Rattle.tam_read.proofs.Contexts.{put_before, until-here}
use Rattle.tam_read.proofs.TreeBuilt.{flat-branch}
use Rattle.tam_read.proofs.ReadCodes.{body_lines, body-no-code}
use Rattle.tam_read.proofs.Bounded.{Bounded, put-both}
use Rattle.tam_read.proofs.CleanBack.{apart-unshared, sentence-clean, first-false, both-false, line-clean}
use Rattle.tam_read.proofs.CleanBack.{plain-code, plain-place, plain-open, owned, tree-opens}

-- a line by itself has no fault
abbrev pub AreRight : List Sentence → Type 0
AreRight ss = (s : Sentence) → In s ss → (has_bad_name s ≡ false) × (has_bad_number s ≡ false)

-- each line's name is new in its code, and leaves it small
abbrev pub AreNew : List Sentence → List Sentence → Type 0
AreNew before [] = Unit {0}
AreNew before (s ∷ ss) =
    Apart (names_made s) (flat_map names_made (until_code before)) × (vertices_of s.verb + vertices (until_code before) ≤ 1024) × AreNew (s ∷ before) ss

-- lines of a code with names that differ, and few vertices
pub lines-new : (before ss : List Sentence) → NoCode ss → DifferBehind ss → Apart (flat_map names_made ss) (flat_map names_made (until_code before))
    → vertices ss + vertices (until_code before) ≤ 1024 → AreNew before ss
lines-new before [] none d apart few = tt
lines-new before (s ∷ ss) none d apart few =
    let next : until_code (s ∷ before) ≡ s ∷ until_code before = rw (until_code, none.0) refl in
    let sum : vertices (until_code (s ∷ before)) ≡ vertices_of s.verb + vertices (until_code before) = ap vertices next in
    let names : flat_map names_made (until_code (s ∷ before)) ≡ names_made s ++ flat_map names_made (until_code before) =
    ap (flat_map names_made) next ∙ flat_map-cons names_made s (until_code before) in
    let all : flat_map names_made (s ∷ ss) ≡ names_made s ++ flat_map names_made ss = flat_map-cons names_made s ss in (
      λ n p q. apart n (subst (λ ns. In n ns) (sym all) (left-in n (names_made s) (flat_map names_made ss) p)) q,
      omega (arith, few),
      lines-new (s ∷ before) ss none.1 d.1
          (λ n p q. ⊎_elim (λ h. d.0 n h p) (λ h. apart n (subst (λ ns. In n ns) (sym all) (right-in n (names_made s) (flat_map names_made ss) p)) h)
          (in-append n (names_made s) (flat_map names_made (until_code before)) (subst (λ ns. In n ns) names q)))
          (omega (arith, few, sum)),
    )

-- lines behind others are new behind them
new-behind : (b xs ys : List Sentence) → AreNew b (xs ++ ys) → AreNew (put_before b xs) ys
new-behind b [] ys h = h
new-behind b (x ∷ xs) ys h = new-behind (x ∷ b) xs ys h.2

-- and those in front
new-prefix : (b xs ys : List Sentence) → AreNew b (xs ++ ys) → AreNew b xs
new-prefix b [] ys h = tt
new-prefix b (x ∷ xs) ys h = (h.0, h.1, new-prefix (x ∷ b) xs ys h.2)

-- ---- a tree

-- a line that opens or closes nothing but its own block
cond-place : (o : Opening) (os : List Opening) → is_out_of_place verb.Cond (o ∷ os) ≡ false
cond-place o os = refl

pub tree-clean : (t : Tree) → Fits t → (before : List Sentence) (o : Open) (os : List Open) (rest : List Sentence) → open_after before ≡ o ∷ os
    → Bounded t (length os) (vertices o.own) → AreNew before (flat t)
    → AreRight (flat t) → AreClean (put_before before (flat t)) rest → AreClean before (flat t ++ rest)
tree-clean Done f before o os rest e bound new right clean = clean
tree-clean (Plain s r) f before o os rest e bound new right clean =
    let here = right s (inl refl) in
    let v = plain-code s.verb f.0 in
    let next : open_after (s ∷ before) ≡ owned s o ∷ os = ap (open_behind s s.verb) e ∙ plain-open s s.verb o os f.0 in (
      line-clean before o os s e here.0 here.1 v.0 (plain-place s.verb o.opening (map (λ p. p.opening) os) f.0) new.0 new.1 (inr bound.0) (inl v.1),
      tree-clean r f.1 (s ∷ before) (owned s o) os rest next bound.1 new.2 (λ z i. right z (inr i)) clean,
    )
tree-clean (Branch s y t n e r) f before o os rest is bound new right clean =
    let behind_y = t ∷ (flat n ++ (e ∷ flat r)) in
    let parts = flat-branch s y t n e r rest in
    let new1 : AreNew before (s ∷ (flat y ++ (t ∷ (flat n ++ (e ∷ flat r))))) = new in
    let in_y : (z : Sentence) → In z (flat y) → In z (flat (Branch s y t n e r)) = λ z i. inr (left-in z (flat y) behind_y i) in
    let in_rest : (z : Sentence) → In z behind_y → In z (flat (Branch s y t n e r)) = λ z i. inr (right-in z (flat y) behind_y i) in
    let in_n : (z : Sentence) → In z (flat n) → In z (flat (Branch s y t n e r)) = λ z i. in_rest z (inr (left-in z (flat n) (e ∷ flat r) i)) in
    let in_e : (z : Sentence) → In z (e ∷ flat r) → In z (flat (Branch s y t n e r)) = λ z i. in_rest z (inr (right-in z (flat n) (e ∷ flat r) i)) in
    let b1 = s ∷ before in
    let open1 : open_after b1 ≡ just_opened ByCond ∷ owned s o ∷ os = ap (open_behind s s.verb) is ∙ ap (λ v. open_behind s v (o ∷ os)) f.0 in
    let iy = tree-opens y f.1 b1 (just_opened ByCond) (owned s o ∷ os) open1 in
    let b2 = put_before b1 (flat y) in
    let b3 = t ∷ b2 in
    let last_y : Open = record { opening = ByCond; own = iy.own } in
    let open3 : open_after b3 ≡ just_opened ByElse ∷ owned s o ∷ os =
    ap (open_behind t t.verb) iy.opens ∙ ap (λ v. open_behind t v (last_y ∷ owned s o ∷ os)) f.2 in
    let jn = tree-opens n f.3 b3 (just_opened ByElse) (owned s o ∷ os) open3 in
    let b4 = put_before b3 (flat n) in
    let b5 = e ∷ b4 in
    let last_n : Open = record { opening = ByElse; own = jn.own } in
    let open5 : open_after b5 ≡ owned s o ∷ os = ap (open_behind e e.verb) jn.opens ∙ ap (λ v. open_behind e v (last_n ∷ owned s o ∷ os)) f.4 in
    let one : vertices_of s.verb ≡ 1 = ap vertices_of f.0 in
    let none_t : vertices_of t.verb ≡ 0 = ap vertices_of f.2 in
    let none_e : vertices_of e.verb ≡ 0 = ap vertices_of f.4 in
    let own_next : vertices (owned s o).own ≡ 1 + vertices o.own = ap (λ v. v + vertices o.own) one in
    let whole : put_before before (flat (Branch s y t n e r)) ≡ put_before b5 (flat r) =
    put-both b1 (flat y) (t ∷ (flat n ++ (e ∷ flat r))) ∙ put-both b3 (flat n) (e ∷ flat r) in
    let new_y = new-prefix b1 (flat y) (t ∷ (flat n ++ (e ∷ flat r))) new1.2 in
    let new_t = new-behind b1 (flat y) (t ∷ (flat n ++ (e ∷ flat r))) new1.2 in
    let new_n = new-prefix b3 (flat n) (e ∷ flat r) new_t.2 in
    let new_e = new-behind b3 (flat n) (e ∷ flat r) new_t.2 in
    let clean_r = tree-clean r f.5 b5 (owned s o) os rest open5 (subst (λ v. Bounded r (length os) v) (sym own_next) bound.4) new_e.2
    (λ z i. right z (in_e z (inr i))) (subst (λ b. AreClean b rest) whole clean) in
    let right_e = right e (in_e e (inl refl)) in
    let clean_e : AreClean b4 (e ∷ (flat r ++ rest)) = (
      line-clean b4 last_n (owned s o ∷ os) e jn.opens right_e.0 right_e.1 (ap is_code f.4)
          (ap (λ v. is_out_of_place v (ByElse ∷ map (λ p. p.opening) (owned s o ∷ os))) f.4) new_e.0 new_e.1 (inl none_e) (inl (ap is_cond f.4)),
      clean_r,
    ) in
    let clean_n = tree-clean n f.3 b3 (just_opened ByElse) (owned s o ∷ os) (e ∷ (flat r ++ rest)) open3 bound.3 new_n (λ z i. right z (in_n z i)) clean_e in
    let right_t = right t (in_rest t (inl refl)) in
    let clean_t : AreClean b2 (t ∷ (flat n ++ (e ∷ (flat r ++ rest)))) = (
      line-clean b2 last_y (owned s o ∷ os) t iy.opens right_t.0 right_t.1 (ap is_code f.2)
          (ap (λ v. is_out_of_place v (ByCond ∷ map (λ p. p.opening) (owned s o ∷ os))) f.2) new_t.0 new_t.1 (inl none_t) (inl (ap is_cond f.2)),
      clean_n,
    ) in
    let clean_y = tree-clean y f.1 b1 (just_opened ByCond) (owned s o ∷ os) (t ∷ (flat n ++ (e ∷ (flat r ++ rest)))) open1 bound.2 new_y
    (λ z i. right z (in_y z i)) clean_t in
    let here = right s (inl refl) in
    subst (λ ss. AreClean before ss) (sym parts) (
      line-clean before o os s is here.0 here.1 (ap is_code f.0) (ap (λ v. is_out_of_place v (o.opening ∷ map (λ p. p.opening) os)) f.0) new1.0 new1.1
          (inr (omega (arith, bound.0, one))) (inr bound.1),
      clean_y,
    )

-- ---- codes

-- what is known of a code's lines
pub record IsCleanable (d : CodeLines) : Type 0 where
  pub bounded : Bounded d.body 0 0
  pub differ : DifferBehind (body_lines d)
  pub few : vertices (body_lines d) ≤ 1024
  pub right : AreRight (lines_of_code d)
  pub nameless : names_made d.head ≡ []

-- each code's name is new, and there are few
abbrev pub AreNewCodes : List Sentence → List CodeLines → Type 0
AreNewCodes before [] = Unit {0}
AreNewCodes before (d ∷ ds) =
    Apart (code_begun d.head) (flat_map code_begun before) × (length (flat_map code_begun before) ≤ 255) × AreNewCodes (put_before before (lines_of_code d)) ds

-- the first line of a code
head-clean : (before : List Sentence) (d : CodeLines) → open_after before ≡ [] → IsCleanable d → Apart (code_begun d.head) (flat_map code_begun before)
    → length (flat_map code_begun before) ≤ 255 → faults_of_sentence before d.head ≡ []
head-clean before d e k apart few =
    let right = k.right d.head (inl refl) in
    let place : is_out_of_place d.head.verb (map (λ o. o.opening) (open_after before)) ≡ false =
    ap₂ (λ v os. is_out_of_place v (map (λ o. o.opening) os)) d.begins e in
    let again : is_named_again before d.head ≡ false =
    rw (is_named_again, apart-unshared (code_begun d.head) (flat_map code_begun before) apart, k.nameless) refl in
    let none : nat_lt 0 (vertices_of d.head.verb) ≡ false = ap (λ v. nat_lt 0 (vertices_of v)) d.begins in
    sentence-clean before d.head right.0 right.1 place again
    (both-false (is_code d.head.verb) (nat_lt 255 (length (flat_map code_begun before))) (le-ltb 255 (length (flat_map code_begun before)) few))
    (first-false (nat_lt 0 (vertices_of d.head.verb)) _ none) (first-false (nat_lt 0 (vertices_of d.head.verb)) _ none)
    (first-false (is_cond d.head.verb) _ (ap is_cond d.begins))

-- codes one behind the other
pub codes-clean-back : (before : List Sentence) (ds : List CodeLines) → open_after before ≡ []
    → ((d : CodeLines) → In d ds → IsCleanable d) → AreNewCodes before ds
    → AreClean before (lines_of_codes ds) × (open_after (put_before before (lines_of_codes ds)) ≡ [])
codes-clean-back before [] e k new = (tt, e)
codes-clean-back before (d ∷ ds) e k new =
    let here = k d (inl refl) in
    let b1 = d.head ∷ before in
    let open1 : open_after b1 ≡ just_opened ByCode ∷ [] = ap (λ v. open_behind d.head v (open_after before)) d.begins ∙ ap (λ os. just_opened ByCode ∷ os) e in
    let i = tree-opens d.body d.fits b1 (just_opened ByCode) [] open1 in
    let last : Open = record { opening = ByCode; own = i.own } in
    let b2 = put_before b1 (flat d.body) in
    let b3 = d.close ∷ b2 in
    let open3 : open_after b3 ≡ [] = ap (open_behind d.close d.close.verb) i.opens ∙ ap (λ v. open_behind d.close v (last ∷ [])) d.closes in
    let whole : put_before before (lines_of_code d) ≡ b3 = put-both b1 (flat d.body) (d.close ∷ []) in
    let later = codes-clean-back b3 ds open3 (λ z j. k z (inr j)) (subst (λ b. AreNewCodes b ds) whole new.2) in
    let none : until_code b1 ≡ [] = until-here d.head before (ap is_code d.begins) in
    let zero_v : vertices (until_code b1) ≡ 0 = ap vertices none in
    let fresh : AreNew b1 (body_lines d) =
    lines-new b1 (body_lines d) (body-no-code d) here.differ (λ n p q. subst (λ ss. In n (flat_map names_made ss)) none q) (omega (arith, here.few, zero_v)) in
    let fresh_close = new-behind b1 (flat d.body) (d.close ∷ []) fresh in
    let right_close = here.right d.close (inr (right-in d.close (flat d.body) (d.close ∷ []) (inl refl))) in
    let no_vertex : vertices_of d.close.verb ≡ 0 = ap vertices_of d.closes in
    let clean_close : AreClean b2 (d.close ∷ lines_of_codes ds) = (
      line-clean b2 last [] d.close i.opens right_close.0 right_close.1 (ap is_code d.closes)
          (ap (λ v. is_out_of_place v (ByCode ∷ [])) d.closes) fresh_close.0 fresh_close.1
          (inl no_vertex) (inl (ap is_cond d.closes)),
      later.0,
    ) in
    let body = tree-clean d.body d.fits b1 (just_opened ByCode) [] (d.close ∷ lines_of_codes ds) open1 here.bounded
    (new-prefix b1 (flat d.body) (d.close ∷ []) fresh)
    (λ z j. here.right z (inr (left-in z (flat d.body) (d.close ∷ []) j))) clean_close in
    let parts : body_lines d ++ lines_of_codes ds ≡ flat d.body ++ (d.close ∷ lines_of_codes ds) =
    append_assoc (flat d.body) (d.close ∷ []) (lines_of_codes ds) in
    let split : put_before before (lines_of_codes (d ∷ ds)) ≡ put_before b3 (lines_of_codes ds) =
    put-both before (lines_of_code d) (lines_of_codes ds) ∙ ap (λ b. put_before b (lines_of_codes ds)) whole in
    ((head-clean before d e here new.0 new.1, subst (λ ss. AreClean b1 ss) (sym parts) body), ap open_after split ∙ later.1)
