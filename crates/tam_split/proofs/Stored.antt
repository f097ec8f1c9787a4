-- The classes as they are stored: where a class stands, and what a merge leaves.
use Rattle.std.proofs.Common.{◌≡◌, ℕ, suc, ◌+◌, ◌-◌, ◌^◌, ◌<◌, ◌≤◌, true, nat_lt, inl, inr, List, [], ◌∷◌, ◌++◌, refl, sym, ap, ap₂, subst, ◌∙◌}
use Rattle.std.proofs.Common.{arith, length, map, take, drop, get_or, append_assoc, length-append, length-drop, length-take-le}
use Rattle.std.specs.Prelude.{slice_range}
use Rattle.std.specs.List.{concat, remove, All}
use Rattle.std.proofs.lemmas.List.Elements.{All-from_recursion}
use Rattle.std.proofs.lemmas.List.{take_at, drop_at, drop-drop, length-map}
use Rattle.tam_word.specs.Lists.{all_of, merge_rising}
use Rattle.tam_word.proofs.Tests.{test-below}
use Rattle.tam_word.proofs.Members.{In, has-in, all-in, in-all}
use Rattle.tam_split.specs.Partitions.{Parts, class_at, merged}
use Rattle.tam_split.specs.KeptParts.{AreFlat, AreClasses, AreApart, cut_from, ends_from, with_joined}
use Rattle.tam_word.proofs.Each.{in-each}
use Rattle.tam_split.proofs.Rising.{length-merge}
use Rattle.tam_split.proofs.Flat.{ends-append, start-behind, end-behind, ends-moved, length-ends, length-cut, cut-all, range-behind, concat-append}
use Rattle.tam_split.proofs.Flat.{around}
use Rattle.tam_split.proofs.Merged.{class_at-behind, apart, united, later, merged-is, concat-apart, concat-united, first-rising, second-rising}
use Rattle.tam_split.proofs.Merged.{none-in_both, united-kept}

-- ---- where a class stands

-- from where to where a class goes in the list of places
pub record Stands_from (ps : Parts) (places : List ℕ) (k start end : ℕ) : Type 0 where
  pub ordered : start ≤ end
  pub inside : end ≤ length places
  pub few : length places ≤ 512
  pub class : slice_range places start end ≡ class_at ps k

-- behind others
behind-stands : (ps : Parts) (q : List ℕ) (qs : Parts) (n : ℕ) → length (concat (ps ++ q ∷ qs)) ≤ 512 → n ≡ length ps
    → Stands_from (ps ++ q ∷ qs) (concat (ps ++ q ∷ qs)) n (get_or (0 ∷ ends_from 0 (ps ++ q ∷ qs)) n 0) (get_or (ends_from 0 (ps ++ q ∷ qs)) n 0)
behind-stands ps q qs n few e =
    let es = ends_from 0 (ps ++ q ∷ qs) in
    let s : get_or (0 ∷ es) n 0 ≡ 0 + length (concat ps) = ap (λ m. get_or (0 ∷ es) m 0) e ∙ start-behind 0 ps (q ∷ qs) in
    let t : get_or es n 0 ≡ 0 + length (concat ps) + length q = ap (λ m. get_or es m 0) e ∙ end-behind 0 ps q qs in
    let all : concat (ps ++ q ∷ qs) ≡ concat ps ++ (q ++ concat qs) = concat-append ps (q ∷ qs) in
    let long : length (concat (ps ++ q ∷ qs)) ≡ length (concat ps) + (length q + length (concat qs)) =
    ap length all ∙ (length-append (concat ps) (q ++ concat qs) ∙ ap (λ m. length (concat ps) + m) (length-append q (concat qs))) in
    record {
      ordered = omega arith;
      inside = omega arith;
      few = few;
      class = ap (λ l. slice_range l (get_or (0 ∷ es) n 0) (get_or es n 0)) all
          ∙ (range-behind (concat ps) q (concat qs) (get_or (0 ∷ es) n 0) (get_or es n 0) (omega arith) (omega arith)
          ∙ (sym (class_at-behind ps q qs) ∙ ap (λ m. class_at (ps ++ q ∷ qs) m) (sym e)));
    }

-- each class
pub class-stands_from : (ps : Parts) (places ends : List ℕ) → AreFlat ps places ends → (k : ℕ) → k < length ps → (start end : ℕ)
    → start ≡ get_or (0 ∷ ends) k 0 → end ≡ get_or ends k 0 → Stands_from ps places k start end
class-stands_from ps places ends flat k h start end a b =
    let r = around ps k h in
    let whole : ps ≡ r.before ++ r.here ∷ r.behind = r.all in
    let few : length (concat (r.before ++ r.here ∷ r.behind)) ≤ 512 = subst (λ rs. length (concat rs) ≤ 512) whole flat.classes.few in
    let there = behind-stands r.before r.here r.behind k few (sym r.number) in
    let back : Stands_from ps (concat ps) k (get_or (0 ∷ ends_from 0 ps) k 0) (get_or (ends_from 0 ps) k 0) =
    subst (λ rs. Stands_from rs (concat rs) k (get_or (0 ∷ ends_from 0 rs) k 0) (get_or (ends_from 0 rs) k 0)) (sym whole) there in
    let es = flat.ends_of in
    let at : Stands_from ps places k (get_or (0 ∷ ends_from 0 ps) k 0) (get_or (ends_from 0 ps) k 0) =
    subst (λ l. Stands_from ps l k (get_or (0 ∷ ends_from 0 ps) k 0) (get_or (ends_from 0 ps) k 0)) (sym flat.places_of) back in
    let c : start ≡ get_or (0 ∷ ends_from 0 ps) k 0 = a ∙ ap (λ l. get_or (0 ∷ l) k 0) es in
    let d : end ≡ get_or (ends_from 0 ps) k 0 = b ∙ ap (λ l. get_or l k 0) es in
    subst (λ n. Stands_from ps places k n end) (sym c) (subst (λ n. Stands_from ps places k (get_or (0 ∷ ends_from 0 ps) k 0) n) (sym d) at)

-- where the code reads the bounds off the ends
pub class-bounds : (places ends : List ℕ) (k : ℕ) → AreFlat (cut_from 0 places ends) places ends → k < length (cut_from 0 places ends) → (ds : List ℕ)
    → ds ≡ ends
    → (start end : ℕ) → start ≡ get_or (0 ∷ ds) k 0 → end ≡ get_or ds k 0 → Stands_from (cut_from 0 places ends) places k start end
class-bounds places ends k flat h ds e start end a b =
    class-stands_from (cut_from 0 places ends) places ends flat k h start end (a ∙ ap (λ l. get_or (0 ∷ l) k 0) e) (b ∙ ap (λ l. get_or l k 0) e)

-- there are no more classes than places
pub few-classes : (ps : Parts) → AreClasses ps → length ps ≤ 512
few-classes ps kept = let l : length ps ≤ length (concat ps) = go ps kept.none_empty in let f = kept.few in omega arith
  where
    go : (qs : Parts) → all_of (λ q. nat_lt 0 (length q)) qs ≡ true → length qs ≤ length (concat qs)
    go [] h = omega arith
    go (q ∷ qs) h =
        let first : 0 < length q = test-below 0 (length q) (all-in (λ (r : List ℕ). nat_lt 0 (length r)) (q ∷ qs) h q (inl refl)) in
        let rest : length qs ≤ length (concat qs) = go qs (in-all (λ (r : List ℕ). nat_lt 0 (length r)) qs
        (λ r i. all-in (λ (s : List ℕ). nat_lt 0 (length s)) (q ∷ qs) h r (inr i))) in
        omega (arith, length-append q (concat qs))

-- each end is at most the number of places
pub ends-few : (ps : Parts) (places ends : List ℕ) → AreFlat ps places ends → (e : ℕ) → In e ends → e ≤ 512
ends-few ps places ends flat e i =
    let f = flat.classes.few in let l : e ≤ 0 + length (concat ps) = go 0 ps (subst (λ es. In e es) flat.ends_of i) in omega arith
  where
    go : (n : ℕ) (qs : Parts) → In e (ends_from n qs) → e ≤ n + length (concat qs)
    go n [] j = absurd j
    go n (q ∷ qs) (inl x) = omega (arith, length-append q (concat qs))
    go n (q ∷ qs) (inr j) = let l : e ≤ n + length q + length (concat qs) = go (n + length q) qs j in omega (arith, length-append q (concat qs))

-- ---- two classes

-- what a merge is told of two classes
pub record Runs (ps : Parts) (places : List ℕ) (a b from middle start end : ℕ) : Type 0 where
  pub first : from ≤ middle
  pub between : middle ≤ start
  pub second : start ≤ end
  pub inside : end ≤ length places
  pub few : length places ≤ 512
  pub apart : AreApart (slice_range places from middle) (slice_range places start end)

-- ---- the ends behind a merge

-- the ends of the classes in front of the later one are moved on, and the later one's is taken out
abbrev pub moved_ends : List ℕ → ℕ → ℕ → ℕ → List ℕ
moved_ends es a b by = remove (take a es ++ (map (λ e. e + by) (take (b - a) (drop a es)) ++ drop b es)) b

module _ (ps : Parts) (p : List ℕ) (ms : Parts) (q : List ℕ) (qs : Parts) where
  -- in three pieces
  ends-cut : (xs ms ys : List ℕ) (y by a b : ℕ) → length xs ≡ a → a + length ms ≡ b
      → moved_ends (xs ++ (ms ++ y ∷ ys)) a b by ≡ xs ++ (map (λ e. e + by) ms ++ ys)
  ends-cut xs ms ys y by a b e f =
      let w = xs ++ (ms ++ y ∷ ys) in
      let moved = map (λ n. n + by) ms in
      let one : take a w ≡ xs = take_at xs (ms ++ y ∷ ys) a e in
      let two : take (b - a) (drop a w) ≡ ms = ap (take (b - a)) (drop_at xs (ms ++ y ∷ ys) a e) ∙ take_at ms (y ∷ ys) (b - a) (omega arith) in
      let long : length (xs ++ ms) ≡ b = omega (arith, length-append xs ms) in
      let three : drop b w ≡ y ∷ ys = ap (drop b) (sym (append_assoc xs ms (y ∷ ys))) ∙ drop_at (xs ++ ms) (y ∷ ys) b long in
      let now : take a w ++ (map (λ n. n + by) (take (b - a) (drop a w)) ++ drop b w) ≡ (xs ++ moved) ++ y ∷ ys =
      ap₂ (λ l r. l ++ r) one (ap₂ (λ l r. map (λ n. n + by) l ++ r) two three) ∙ sym (append_assoc xs moved (y ∷ ys)) in
      let far : length (xs ++ moved) ≡ b = omega (arith, length-append xs moved, length-map ms (λ n. n + by)) in
      let prefix : take b ((xs ++ moved) ++ y ∷ ys) ≡ xs ++ moved = take_at (xs ++ moved) (y ∷ ys) b far in
      let farther : length ((xs ++ moved) ++ y ∷ []) ≡ suc b = omega (arith, length-append (xs ++ moved) (y ∷ [])) in
      let last : drop (suc b) ((xs ++ moved) ++ y ∷ ys) ≡ ys =
      ap (drop (suc b)) (sym (append_assoc (xs ++ moved) (y ∷ []) ys)) ∙ drop_at ((xs ++ moved) ++ y ∷ []) ys (suc b) farther in
      ap (λ l. take b l ++ drop (suc b) l) now ∙ (ap₂ (λ l r. l ++ r) prefix last ∙ append_assoc xs moved ys)

  -- of the classes
  ends-united : moved_ends (ends_from 0 (apart ps p ms q qs)) (length ps) (later ps p ms q qs) (length q) ≡ ends_from 0 (united ps p ms q qs)
  ends-united =
      let n = length (concat ps) in
      let e = 0 + n + length p in
      let f = e + length (concat ms) + length q in
      let cut : ends_from 0 (apart ps p ms q qs) ≡ ends_from 0 ps ++ ((e ∷ ends_from e ms) ++ f ∷ ends_from f qs) =
      ends-append 0 ps (p ∷ (ms ++ q ∷ qs)) ∙ ap (λ es. ends_from 0 ps ++ e ∷ es) (ends-append e ms (q ∷ qs)) in
      let u = 0 + n + length (merge_rising p q) in
      let v = u + length (concat ms) in
      let cut2 : ends_from 0 (united ps p ms q qs) ≡ ends_from 0 ps ++ (u ∷ (ends_from u ms ++ ends_from v qs)) =
      ends-append 0 ps (merge_rising p q ∷ (ms ++ qs)) ∙ ap (λ es. ends_from 0 ps ++ u ∷ es) (ends-append u ms qs) in
      let eu : e + length q ≡ u = omega (arith, length-merge p q) in
      let fv : f ≡ v = omega (arith, length-merge p q) in
      let moved : map (λ x. x + length q) (e ∷ ends_from e ms) ≡ u ∷ ends_from u ms =
      ap₂ (λ x es. x ∷ es) eu (ends-moved e (length q) ms ∙ ap (λ x. ends_from x ms) eu) in
      let three : moved_ends (ends_from 0 ps ++ ((e ∷ ends_from e ms) ++ f ∷ ends_from f qs)) (length ps) (later ps p ms q qs) (length q)
      ≡ ends_from 0 ps ++ (map (λ x. x + length q) (e ∷ ends_from e ms) ++ ends_from f qs) =
      ends-cut (ends_from 0 ps) (e ∷ ends_from e ms) (ends_from f qs) f (length q) (length ps) (later ps p ms q qs) (length-ends 0 ps)
      (omega (arith, length-ends e ms)) in
      ap (λ es. moved_ends es (length ps) (later ps p ms q qs) (length q)) cut
      ∙ (three ∙ (ap₂ (λ l x. ends_from 0 ps ++ (l ++ ends_from x qs)) moved fv ∙ sym cut2))

  -- the four bounds, where they are read off the ends
  abbrev bound_of : ℕ → ℕ → ℕ
  bound_of n x = get_or (x ∷ ends_from 0 (apart ps p ms q qs)) n 0

  -- the classes in front of the later one
  prefix : apart ps p ms q qs ≡ (ps ++ p ∷ ms) ++ q ∷ qs
  prefix = sym (append_assoc ps (p ∷ ms) (q ∷ qs))

  length-prefix : length (ps ++ p ∷ ms) ≡ later ps p ms q qs
  length-prefix = length-append ps (p ∷ ms)

  -- how long they are
  concat-prefix : length (concat (ps ++ p ∷ ms)) ≡ length (concat ps) + (length p + length (concat ms))
  concat-prefix = ap length (concat-append ps (p ∷ ms)) ∙ (length-append (concat ps) (p ++ concat ms) ∙ ap (λ n. length (concat ps) + n)
      (length-append p (concat ms)))

  module _ (from middle start end : ℕ) (f : from ≡ get_or (0 ∷ ends_from 0 (apart ps p ms q qs)) (length ps) 0)
      (m : middle ≡ get_or (ends_from 0 (apart ps p ms q qs)) (length ps) 0) (s : start ≡ get_or (0 ∷ ends_from 0 (apart ps p ms q qs)) (later ps p ms q qs) 0)
      (e : end ≡ get_or (ends_from 0 (apart ps p ms q qs)) (later ps p ms q qs) 0) where
    from-is : from ≡ length (concat ps)
    from-is = let x = f ∙ start-behind 0 ps (p ∷ (ms ++ q ∷ qs)) in omega arith

    middle-is : middle ≡ length (concat ps) + length p
    middle-is = let x = m ∙ end-behind 0 ps p (ms ++ q ∷ qs) in omega arith

    start-is : start ≡ length (concat ps) + (length p + length (concat ms))
    start-is =
        let x = s ∙ (ap (λ n. get_or (0 ∷ ends_from 0 (apart ps p ms q qs)) n 0) (sym length-prefix)
        ∙ (ap (λ rs. get_or (0 ∷ ends_from 0 rs) (length (ps ++ p ∷ ms)) 0) prefix ∙ start-behind 0 (ps ++ p ∷ ms) (q ∷ qs))) in
        let y = concat-prefix in omega arith

    end-is : end ≡ length (concat ps) + (length p + length (concat ms)) + length q
    end-is =
        let x = e ∙ (ap (λ n. get_or (ends_from 0 (apart ps p ms q qs)) n 0) (sym length-prefix)
        ∙ (ap (λ rs. get_or (ends_from 0 rs) (length (ps ++ p ∷ ms)) 0) prefix ∙ end-behind 0 (ps ++ p ∷ ms) q qs)) in
        let y = concat-prefix in omega arith

    -- the list in which all are stored
    abbrev w : List ℕ
    w = concat (apart ps p ms q qs)

    -- in two groups
    grouped : w ≡ (concat ps ++ p) ++ (concat ms ++ (q ++ concat qs))
    grouped = concat-apart ps p ms q qs ∙ sym (append_assoc (concat ps) p (concat ms ++ (q ++ concat qs)))

    grouped-later : w ≡ ((concat ps ++ p) ++ concat ms) ++ (q ++ concat qs)
    grouped-later = grouped ∙ sym (append_assoc (concat ps ++ p) (concat ms) (q ++ concat qs))

    -- the pieces
    first-is : slice_range w from middle ≡ p
    first-is =
        let x = from-is in let y = middle-is in
        ap (λ l. slice_range l from middle) (concat-apart ps p ms q qs) ∙ range-behind (concat ps) p (concat ms ++ (q ++ concat qs)) from middle
        (omega arith) (omega arith)

    between-is : slice_range w middle start ≡ concat ms
    between-is =
        let x = middle-is in let y = start-is in
        ap (λ l. slice_range l middle start) grouped
        ∙ range-behind (concat ps ++ p) (concat ms) (q ++ concat qs) middle start (omega (arith, length-append (concat ps) p)) (omega arith)

    second-is : slice_range w start end ≡ q
    second-is =
        let x = start-is in let y = end-is in
        ap (λ l. slice_range l start end) grouped-later
        ∙ range-behind ((concat ps ++ p) ++ concat ms) q (concat qs) start end (omega (
          arith,
          length-append (concat ps ++ p) (concat ms),
          length-append
              (concat ps) p,
        )) (omega arith)

    rest-is : drop end w ≡ concat qs
    rest-is =
        let x = end-is in
        let all : w ≡ (((concat ps ++ p) ++ concat ms) ++ q) ++ concat qs = grouped-later ∙ sym (append_assoc ((concat ps ++ p) ++ concat ms) q (concat qs)) in
        ap (drop end) all
        ∙ drop_at (((concat ps ++ p) ++ concat ms) ++ q) (concat qs) end
        (omega (arith, length-append ((concat ps ++ p) ++ concat ms) q, length-append (concat ps ++ p) (concat ms), length-append (concat ps) p))

    -- joined, they are stored as the merged classes
    joined-is : with_joined w from middle start end ≡ concat (united ps p ms q qs)
    joined-is =
        let x = from-is in
        let t : take from w ≡ concat ps = ap (take from) (concat-apart ps p ms q qs) ∙ take_at (concat ps) (p ++ (concat ms ++ (q ++ concat qs))) from
        (omega arith) in
        ap₂ (λ l r. l ++ r) t (ap₂ (λ l r. l ++ r) (ap₂ merge_rising first-is second-is) (ap₂ (λ l r. l ++ r) between-is rest-is)) ∙ sym
        (concat-united ps p ms q qs)

    module _ (kept : AreClasses (apart ps p ms q qs)) where
      -- what the code that joins them is to be told
      pub runs-are : Runs (apart ps p ms q qs) w (length ps) (later ps p ms q qs) from middle start end
      runs-are =
          let x = from-is in let y = middle-is in let z = start-is in let v = end-is in
          let all : length w ≡ length (concat ps) + (length p + (length (concat ms) + (length q + length (concat qs)))) = ap length (concat-apart ps p ms q qs)
          ∙ (length-append (concat ps) (p ++ (concat ms ++ (q ++ concat qs)))
          ∙ ap (λ n. length (concat ps) + n) (length-append p (concat ms ++ (q ++ concat qs)) ∙ ap (λ n. length p + n)
          (length-append (concat ms) (q ++ concat qs) ∙ ap (λ n. length (concat ms) + n) (length-append q (concat qs))))) in
          record {
            first = omega arith;
            between = omega arith;
            second = omega arith;
            inside = omega arith;
            few = kept.few;
            apart = subst (λ l. AreApart l (slice_range w start end)) (sym first-is) (subst (λ l. AreApart p l) (sym second-is) (record {
              first = first-rising ps p ms q qs kept;
              second = second-rising ps p ms q qs kept;
              none_in_both = λ x i j. none-in_both ps p ms q qs kept x (has-in p x i) (has-in q x j);
            }));
          }

      -- and what is stored then
      pub flat-united : AreFlat (merged (apart ps p ms q qs) (length ps) (later ps p ms q qs)) (with_joined w from middle start end)
          (moved_ends (ends_from 0 (apart ps p ms q qs)) (length ps) (later ps p ms q qs) (end - start))
      flat-united =
          let z = start-is in let v = end-is in
          let n : end - start ≡ length q = omega arith in
          let flat : AreFlat (united ps p ms q qs) (with_joined w from middle start end) (moved_ends (ends_from 0 (apart ps p ms q qs)) (length ps)
          (later ps p ms q qs) (end - start)) =
          record {
            places_of = joined-is;
            ends_of = ap (λ k. moved_ends (ends_from 0 (apart ps p ms q qs)) (length ps) (later ps p ms q qs) k) n ∙ ends-united;
            classes = united-kept ps p ms q qs kept;
          } in
          subst (λ rs. AreFlat rs (with_joined w from middle start end) (moved_ends (ends_from 0 (apart ps p ms q qs)) (length ps) (later ps p ms q qs)
          (end - start)))
          (sym (merged-is ps p ms q qs)) flat

-- ---- of any two classes

-- what the code is told, and what is stored then
pub record Unites (ps : Parts) (places ends : List ℕ) (a b from middle start end : ℕ) : Type 0 where
  pub runs : Runs ps places a b from middle start end
  pub flat : AreFlat (merged ps a b) (with_joined places from middle start end) (moved_ends ends a b (end - start))

-- two classes, and those around them
pub record Around_two (ps : Parts) (a b : ℕ) : Type 0 where
  pub before : Parts
  pub first : List ℕ
  pub between : Parts
  pub second : List ℕ
  pub behind : Parts
  pub all : ps ≡ apart before first between second behind
  pub first_number : length before ≡ a
  pub second_number : later before first between second behind ≡ b

-- any two have such neighbours
around-two : (ps : Parts) (a b : ℕ) → a < b → b < length ps → Around_two ps a b
around-two ps a b l h =
    let r = around ps b h in
    let k : a < length r.before = let n = r.number in omega arith in
    let s = around r.before a k in
    let n = r.number in
    let m = s.number in
    let long : length r.before ≡ length s.before + suc (length s.behind) = ap length s.all ∙ length-append s.before (s.here ∷ s.behind) in record {
      before = s.before;
      first = s.here;
      between = s.behind;
      second = r.here;
      behind = r.behind;
      all = r.all ∙ (ap (λ rs. rs ++ r.here ∷ r.behind) s.all ∙ append_assoc s.before (s.here ∷ s.behind) (r.here ∷ r.behind));
      first_number = s.number;
      second_number = omega arith;
    }

-- uniting two classes where they are stored merges them
pub unites : (ps : Parts) (places ends : List ℕ) → AreFlat ps places ends → (a b : ℕ) → a < b → b < length ps → (from middle start end : ℕ)
    → from ≡ get_or (0 ∷ ends) a 0 → middle ≡ get_or ends a 0 → start ≡ get_or (0 ∷ ends) b 0 → end ≡ get_or ends b 0
    → Unites ps places ends a b from middle start end
unites ps places ends flat a b l h from middle start end f m s e =
    let r = around-two ps a b l h in
    let es : ends ≡ ends_from 0 (apart r.before r.first r.between r.second r.behind) = flat.ends_of ∙ ap (ends_from 0) r.all in
    let ws : places ≡ concat (apart r.before r.first r.between r.second r.behind) = flat.places_of ∙ ap concat r.all in
    let kept : AreClasses (apart r.before r.first r.between r.second r.behind) = subst AreClasses r.all flat.classes in
    go r.before r.first r.between r.second r.behind kept ps places ends a b r.all ws es r.first_number r.second_number f m s e
  where
    go : (before : Parts) (first : List ℕ) (between : Parts) (second : List ℕ) (behind : Parts) → AreClasses (apart before first between second behind)
        → (qs : Parts) (ws es : List ℕ) (c d : ℕ) → qs ≡ apart before first between second behind → ws ≡ concat (apart before first between second behind)
        → es ≡ ends_from 0 (apart before first between second behind) → length before ≡ c → later before first between second behind ≡ d
        → from ≡ get_or (0 ∷ es) c 0 → middle ≡ get_or es c 0 → start ≡ get_or (0 ∷ es) d 0 → end ≡ get_or es d 0 → Unites qs ws es c d from middle start end
    go before first between second behind kept qs ws es c d i j k n o f m s e =
        let all = apart before first between second behind in
        let ff : from ≡ get_or (0 ∷ ends_from 0 all) (length before) 0 = f ∙ ap₂ (λ l x. get_or (0 ∷ l) x 0) k (sym n) in
        let mm : middle ≡ get_or (ends_from 0 all) (length before) 0 = m ∙ ap₂ (λ l x. get_or l x 0) k (sym n) in
        let ss : start ≡ get_or (0 ∷ ends_from 0 all) (later before first between second behind) 0 = s ∙ ap₂ (λ l x. get_or (0 ∷ l) x 0) k (sym o) in
        let ee : end ≡ get_or (ends_from 0 all) (later before first between second behind) 0 = e ∙ ap₂ (λ l x. get_or l x 0) k (sym o) in
        let plain : Unites all (concat all) (ends_from 0 all) (length before) (later before first between second behind) from middle start end = record {
          runs = runs-are before first between second behind from middle start end ff mm ss ee kept;
          flat = flat-united before first between second behind from middle start end ff mm ss ee kept;
        } in
        subst (λ x. Unites qs ws es x d from middle start end) n (subst (λ x. Unites qs ws es (length before) x from middle start end) o
        (subst (λ x. Unites qs ws x (length before) (later before first between second behind) from middle start end) (sym k)
        (subst (λ x. Unites qs x (ends_from 0 all) (length before) (later before first between second behind) from middle start end) (sym j)
        (subst (λ x. Unites x (concat all) (ends_from 0 all) (length before) (later before first between second behind) from middle start end) (sym i) plain))))

-- where the code reads the bounds off the ends
pub unites-read : (places ends : List ℕ) (a b : ℕ) → AreFlat (cut_from 0 places ends) places ends → a < b → b < length ends → (ds es : List ℕ) → ds ≡ ends
    → es ≡ ends
    → (from middle start end : ℕ) → from ≡ get_or (0 ∷ ds) a 0 → middle ≡ get_or ds a 0 → start ≡ get_or (0 ∷ es) b 0 → end ≡ get_or es b 0
    → Unites (cut_from 0 places ends) places ends a b from middle start end
unites-read places ends a b flat l h ds es i j from middle start end f m s e =
    unites (cut_from 0 places ends) places ends flat a b l (let n = length-cut 0 places ends in omega arith) from middle start end
    (f ∙ ap (λ x. get_or (0 ∷ x) a 0) i) (m ∙ ap (λ x. get_or x a 0) i)
    (s ∙ ap (λ x. get_or (0 ∷ x) b 0) j) (e ∙ ap (λ x. get_or x b 0) j)

-- what is stored is cut out again
pub flat-cut : (ps : Parts) (places ends : List ℕ) → AreFlat ps places ends → cut_from 0 places ends ≡ ps
flat-cut ps places ends flat = ap₂ (λ x y. cut_from 0 x y) flat.places_of flat.ends_of ∙ cut-all ps

-- so it is stored as what is cut out of it
pub flat-again : (ps : Parts) (places ends : List ℕ) → AreFlat ps places ends → AreFlat (cut_from 0 places ends) places ends
flat-again ps places ends flat = subst (λ qs. AreFlat qs places ends) (sym (flat-cut ps places ends flat)) flat

-- no end is so late that moving it on overflows
pub ends-fit : (ps : Parts) (places ends : List ℕ) → AreFlat ps places ends → (by : ℕ) → by ≤ 512 → All (λ e. e + by < 2 ^ 32) ends
ends-fit ps places ends flat by h =
    All-from_recursion (λ e. e + by < 2 ^ 32) ends (in-each (λ e. e + by < 2 ^ 32) ends (λ e i. let l : e ≤ 512 = ends-few ps places ends flat e i in fits e l))
  where
    fits : (e : ℕ) → e ≤ 512 → e + by < 2 ^ 32
    fits e l = omega arith

-- what the code leaves of the ends
pub removed-is : (ds ends moved es : List ℕ) (n a b by : ℕ) → ds ≡ ends → n ≡ length ends → a < b → b < length ends → moved ≡ map (λ e. e + by)
    (take (b - a) (drop a ds))
    → es ≡ remove (take n ((take a ds ++ (moved ++ drop (b - a) (drop a ds))) ++ drop (length (take a ds ++ (moved ++ drop (b - a) (drop a ds)))) ends)) b
    → es ≡ moved_ends ends a b by
removed-is ds ends moved es n a b by i k l h m r =
    let far : drop (b - a) (drop a ds) ≡ drop b ends =
    drop-drop (b - a) a ds ∙ ap₂ (λ x y. drop x y) (let e : a + (b - a) ≡ b = omega arith in e) i in
    let here : moved ≡ map (λ e. e + by) (take (b - a) (drop a ends)) = m ∙ ap (λ x. map (λ e. e + by) (take (b - a) (drop a x))) i in
    let whole : take a ds ++ (moved ++ drop (b - a) (drop a ds)) ≡ take a ends ++ (map (λ e. e + by) (take (b - a) (drop a ends)) ++ drop b ends) =
    ap₂ (λ x y. x ++ y) (ap (take a) i) (ap₂ (λ x y. x ++ y) here far) in
    let w = take a ends ++ (map (λ e. e + by) (take (b - a) (drop a ends)) ++ drop b ends) in
    let prefix : length (take a ends) ≡ a = length-take-le a ends (omega arith) in
    let part : length (take (b - a) (drop a ends)) ≡ b - a = length-take-le (b - a) (drop a ends) (omega (arith, length-drop a ends)) in
    let long : length w ≡ n =
    omega (
      arith,
      length-append (take a ends) (map (λ e. e + by) (take (b - a) (drop a ends)) ++ drop b ends),
      length-append (map (λ e. e + by) (take (b - a) (drop a ends))) (drop b ends),
      length-map (take (b - a) (drop a ends)) (λ e. e + by),
      length-drop b ends,
    ) in
    let back : take n (w ++ drop (length w) ends) ≡ w = take_at w (drop (length w) ends) n long in
    r ∙ (ap (λ x. remove (take n (x ++ drop (length x) ends)) b) whole ∙ ap (λ x. remove x b) back)
