-- A frame that is taken: it stands at its number, all others as they were, one more is live, and one number fewer is free.
use Rattle.std.proofs.Common.{◌≡◌, ◌≢◌, ℕ, zero, suc, ◌+◌, ◌<◌, ◌≤◌, List, [], ◌∷◌, ◌++◌, length, refl, sym, ap, ◌∙◌, arith, true, false, Bool}
use Rattle.std.proofs.Common.{true≢false, ◌==◌, Option, Some, None, slice_get, inl, inr}
use Rattle.std.specs.Prelude.{slice_index, slice_set, count_by, fold, if◌then◌else◌}
use Rattle.std.proofs.lemmas.List.{length-append}
use Rattle.tam_word.specs.Lists.{has, any_of, all_differ, put_at}
use Rattle.tam_word.proofs.Members.{has-in, in-has, in-any, right-in}
use Rattle.tam_word.proofs.Tests.{eq-number, differs-number}
use Rattle.frame_tables.specs.FrameTables.{Frame, FrameTable, is_held, is_live, is_some_frame, live_count, changed_in, with_new, next_number_of}
use Rattle.rv_keep.specs.Relation.{NumbersHold}
use Rattle.rv_keep.proofs.TableChanges.{changed-same, changed-other, count-changed}

-- how many are held, from the front
abbrev pub held : List (Option Frame) → ℕ
held [] = 0
held (None ∷ hs) = held hs
held (Some h ∷ hs) = suc (held hs)

-- the count is it
count-from : (hs : List (Option Frame)) (n : ℕ) → fold (λ a x. a + (if is_held x then 1 else 0)) n hs ≡ n + held hs
count-from [] n = omega arith
count-from (None ∷ hs) n = count-from hs (n + 0) ∙ omega arith
count-from (Some h ∷ hs) n = count-from hs (n + 1) ∙ omega arith

-- from none on
pub count-held : (hs : List (Option Frame)) → count_by is_held hs ≡ held hs
count-held hs = count-from hs 0 ∙ omega arith

-- at most all are held
pub held-most : (hs : List (Option Frame)) → held hs ≤ length hs
held-most [] = omega arith
held-most (None ∷ hs) = let e : held hs ≤ length hs = held-most hs in omega arith
held-most (Some h ∷ hs) = let e : held hs ≤ length hs = held-most hs in omega arith

-- one more behind them
held-end : (hs : List (Option Frame)) (h : Frame) → held (hs ++ Some h ∷ []) ≡ held hs + 1
held-end [] h = refl
held-end (None ∷ hs) h = held-end hs h
held-end (Some k ∷ hs) h = let e : held (hs ++ Some h ∷ []) ≡ held hs + 1 = held-end hs h in omega arith

-- or at a number where none was
held-set : (hs : List (Option Frame)) (f : ℕ) (h : Frame) → f < length hs → is_some_frame (slice_get hs f) ≡ false → held (slice_set hs f (Some h)) ≡ held hs
    + 1
held-set [] f h l d = absurd (omega arith)
held-set (None ∷ hs) zero h l d = omega arith
held-set (Some k ∷ hs) zero h l d = absurd (true≢false d)
held-set (None ∷ hs) (suc f) h l d = held-set hs f h (omega arith) d
held-set (Some k ∷ hs) (suc f) h l d = let e : held (slice_set hs f (Some h)) ≡ held hs + 1 = held-set hs f h (omega arith) d in omega arith

-- ---- elements at places

-- behind the last there is none
get-end : (hs : List (Option Frame)) → slice_get hs (length hs) ≡ None
get-end [] = refl
get-end (h ∷ hs) = get-end hs

-- the one that is put there is
get-pushed : (hs : List (Option Frame)) (x : Option Frame) → slice_get (hs ++ x ∷ []) (length hs) ≡ Some x
get-pushed [] x = refl
get-pushed (h ∷ hs) x = get-pushed hs x

-- the others are as they were
get-before : (hs : List (Option Frame)) (x : Option Frame) (g : ℕ) → length hs ≢ g → slice_get (hs ++ x ∷ []) g ≡ slice_get hs g
get-before [] x zero n = absurd (n refl)
get-before [] x (suc g) n = refl
get-before (h ∷ hs) x zero n = refl
get-before (h ∷ hs) x (suc g) n = get-before hs x g (λ e. n (ap suc e))

-- one that is set is there
get-set : (hs : List (Option Frame)) (f : ℕ) (x : Option Frame) → f < length hs → slice_get (slice_set hs f x) f ≡ Some x
get-set [] f x l = absurd (omega arith)
get-set (h ∷ hs) zero x l = refl
get-set (h ∷ hs) (suc f) x l = get-set hs f x (omega arith)

-- and the others are as they were
get-other : (hs : List (Option Frame)) (f g : ℕ) (x : Option Frame) → f ≢ g → slice_get (slice_set hs f x) g ≡ slice_get hs g
get-other [] f g x n = refl
get-other (h ∷ hs) zero zero x n = absurd (n refl)
get-other (h ∷ hs) zero (suc g) x n = refl
get-other (h ∷ hs) (suc f) zero x n = refl
get-other (h ∷ hs) (suc f) (suc g) x n = get-other hs f g x (λ e. n (ap suc e))

-- as many
set-many : (hs : List (Option Frame)) (f : ℕ) (x : Option Frame) → length (slice_set hs f x) ≡ length hs
set-many [] f x = refl
set-many (h ∷ hs) zero x = refl
set-many (h ∷ hs) (suc f) x = let e : length (slice_set hs f x) ≡ length hs = set-many hs f x in omega arith

-- a code that is put at a number is there
pub code-put : (xs : List ℕ) (f c : ℕ) → slice_index (put_at 0 f c xs) f ≡ c
code-put [] zero c = refl
code-put (x ∷ xs) zero c = refl
code-put [] (suc f) c = code-put [] f c
code-put (x ∷ xs) (suc f) c = code-put xs f c

-- the others are as they were
pub code-other : (xs : List ℕ) (f g c : ℕ) → f ≢ g → slice_index (put_at 0 f c xs) g ≡ slice_index xs g
code-other [] zero zero c n = absurd (n refl)
code-other [] zero (suc g) c n = refl
code-other (x ∷ xs) zero zero c n = absurd (n refl)
code-other (x ∷ xs) zero (suc g) c n = refl
code-other [] (suc f) zero c n = refl
code-other [] (suc f) (suc g) c n = code-other [] f g c (λ e. n (ap suc e))
code-other (x ∷ xs) (suc f) zero c n = refl
code-other (x ∷ xs) (suc f) (suc g) c n = code-other xs f g c (λ e. n (ap suc e))

-- ---- frames taken

-- the frame stands at the number, the others are as they were, and one more is held
pub record Took (old new : List (Option Frame)) (f : ℕ) (h : Frame) : Type 0 where
  pub there : slice_get new f ≡ Some (Some h)
  pub others : (g : ℕ) → f ≢ g → slice_get new g ≡ slice_get old g
  pub more : count_by is_held new ≡ count_by is_held old + 1

-- so too where the frame is changed behind that
pub took-changed : (old new : List (Option Frame)) (f : ℕ) (h : Frame) (change : Frame → Frame) → Took old new f h
    → Took old (changed_in new f change) f (change h)
took-changed old new f h change t = record {
  there = changed-same new f change h t.there;
  others = λ g n. changed-other new f g change n ∙ t.others g n;
  more = count-changed new f change ∙ t.more;
}

-- ---- lists whose numbers differ

-- the first differs from the others, and those differ
differ-parts : (x : ℕ) (xs : List ℕ) → all_differ (λ a b. a == b) (x ∷ xs) ≡ true → (any_of (λ b. x == b) xs ≡ false) × (all_differ (λ a b. a == b) xs ≡ true)
differ-parts x xs e = go (any_of (λ b. x == b) xs) refl e
  where
    go : (t : Bool) → any_of (λ b. x == b) xs ≡ t → elim t [ true ↦ false | false ↦ all_differ (λ a b. a == b) xs ] ≡ true
        → (any_of (λ b. x == b) xs ≡ false) × (all_differ (λ a b. a == b) xs ≡ true)
    go true p q = absurd (true≢false (sym q))
    go false p q = (p, q)

-- and the other way round
parts-differ : (x : ℕ) (xs : List ℕ) → any_of (λ b. x == b) xs ≡ false → all_differ (λ a b. a == b) xs ≡ true → all_differ (λ a b. a == b) (x ∷ xs) ≡ true
parts-differ x xs p q = rw (all_differ, p) q

-- where none passes and one more doesn't, none passes
none-passes : (test : ℕ → Bool) (xs : List ℕ) (n : ℕ) → any_of test xs ≡ false → test n ≡ false → any_of test (xs ++ n ∷ []) ≡ false
none-passes test [] n p q = rw (q) refl
none-passes test (x ∷ xs) n p q = go (test x) refl p (λ b. none-passes test xs n b q)
  where
    go : (t : Bool) → test x ≡ t → elim t [ true ↦ true | false ↦ any_of test xs ] ≡ false
        → (any_of test xs ≡ false → any_of test (xs ++ n ∷ []) ≡ false) → elim (test x) [ true ↦ true | false ↦ any_of test (xs ++ n ∷ []) ] ≡ false
    go true a b more = absurd (true≢false b)
    go false a b more = rw (a) (more b)

-- a number that isn't in the list isn't the first, nor in the rest
not-first : (x : ℕ) (xs : List ℕ) (n : ℕ) → has (x ∷ xs) n ≡ false → ((x == n) ≡ false) × (has xs n ≡ false)
not-first x xs n h = go (x == n) refl h
  where
    go : (t : Bool) → (x == n) ≡ t → elim t [ true ↦ true | false ↦ has xs n ] ≡ false → ((x == n) ≡ false) × (has xs n ≡ false)
    go true a b = absurd (true≢false b)
    go false a b = (a, b)

-- a number that none is equal to may stand behind them
pub differ-push : (xs : List ℕ) (n : ℕ) → all_differ (λ a b. a == b) xs ≡ true → has xs n ≡ false → all_differ (λ a b. a == b) (xs ++ n ∷ []) ≡ true
differ-push [] n e h = refl
differ-push (x ∷ xs) n e h =
    let d = differ-parts x xs e in
    let k = not-first x xs n h in
    parts-differ x (xs ++ n ∷ []) (none-passes (λ b. x == b) xs n d.0 k.0) (differ-push xs n d.1 k.1)

-- a test that fails
fails : (t : Bool) → t ≡ false → elim t [ true ↦ true | false ↦ false ] ≡ false
fails true e = e
fails false e = refl

-- whether a number stands in the list with one more
pub has-push : (xs : List ℕ) (n g : ℕ) → n ≢ g → has (xs ++ n ∷ []) g ≡ has xs g
has-push [] n g d = fails (n == g) (differs-number n g d)
has-push (x ∷ xs) n g d = let f : Bool → Bool = λ y. elim (x == g) [ true ↦ true | false ↦ y ] in ap f (has-push xs n g d)

-- the one more does
pub has-pushed : (xs : List ℕ) (n : ℕ) → has (xs ++ n ∷ []) n ≡ true
has-pushed xs n = in-has (xs ++ n ∷ []) n (right-in n xs (n ∷ []) (inl refl))

-- ---- the numbers

-- what a table has once its next number is taken, with the numbers that are live
pub record TookBy (s : FrameTable) (live : List ℕ) (limit : ℕ) (free : List ℕ) (h : Frame) : Type 0 where
  pub took : Took s.frames (with_new s free h).frames (next_number_of free (length s.frames)) h
  pub few : length (with_new s free h).frames ≤ limit
  pub below : next_number_of free (length s.frames) < limit
  pub dead : is_live s (next_number_of free (length s.frames)) ≡ false
  pub left_differ : all_differ (λ a b. a == b) (with_new s free h).free ≡ true
  pub left_used : (g : ℕ) → has (with_new s free h).free g ≡ true → g < length (with_new s free h).frames
  pub left_apart : (g : ℕ) → has (with_new s free h).free g ≡ true → next_number_of free (length s.frames) ≢ g
  pub left_dead : (g : ℕ) → has (with_new s free h).free g ≡ true → is_live s g ≡ false
  pub sum : length live + 1 + length (with_new s free h).free ≡ length (with_new s free h).frames

-- it has that
pub took-by : (s : FrameTable) (live : List ℕ) (limit : ℕ) (free : List ℕ) (h : Frame) → s.free ≡ free → NumbersHold s live → length s.frames ≤ limit
    → length live ≡ live_count s → live_count s < limit → TookBy s live limit free h
took-by s live limit [] h e n l a b =
    let u : length live + length s.free ≡ length s.frames = n.all_used in
    let z : length s.free ≡ 0 = ap (λ (x : List ℕ). length x) e in
    let k : length (s.frames ++ Some h ∷ []) ≡ length s.frames + 1 = length-append s.frames (Some h ∷ []) in
    let w : held (s.frames ++ Some h ∷ []) ≡ held s.frames + 1 = held-end s.frames h in
    record {
      took = record {
        there = get-pushed s.frames (Some h);
        others = λ g d. get-before s.frames (Some h) g d;
        more = count-held (s.frames ++ Some h ∷ []) ∙ (w ∙ ap (λ (x : ℕ). x + 1) (sym (count-held s.frames)));
      };
      few = omega arith;
      below = omega arith;
      dead = ap is_some_frame (get-end s.frames);
      left_differ = n.free_differ;
      left_used = λ g q. let i : g < length s.frames = n.free_used g q in omega arith;
      left_apart = λ g q. absurd (true≢false (sym q ∙ ap (λ (x : List ℕ). has x g) e));
      left_dead = n.free_dead;
      sum = omega arith;
    }
took-by s live limit (f ∷ free) h e n l a b =
    let u : length live + length s.free ≡ length s.frames = n.all_used in
    let z : length s.free ≡ suc (length free) = ap (λ (x : List ℕ). length x) e in
    let i : f < length s.frames = n.free_used f (ap (λ (x : List ℕ). has x f) e ∙ in-has (f ∷ free) f (inl refl)) in
    let dd : is_live s f ≡ false = n.free_dead f (ap (λ (x : List ℕ). has x f) e ∙ in-has (f ∷ free) f (inl refl)) in
    let k : length (slice_set s.frames f (Some h)) ≡ length s.frames = set-many s.frames f (Some h) in
    let w : held (slice_set s.frames f (Some h)) ≡ held s.frames + 1 = held-set s.frames f h i dd in
    let d = differ-parts f free (ap (λ (x : List ℕ). all_differ (λ a b. a == b) x) (sym e) ∙ n.free_differ) in
    record {
      took = record {
        there = get-set s.frames f (Some h) i;
        others = λ g q. get-other s.frames f g (Some h) q;
        more = count-held (slice_set s.frames f (Some h)) ∙ (w ∙ ap (λ (x : ℕ). x + 1) (sym (count-held s.frames)));
      };
      few = omega arith;
      below = omega arith;
      dead = dd;
      left_differ = d.1;
      left_used = λ g q. let j : g < length s.frames = n.free_used g (among g q) in omega arith;
      left_apart = λ g q y. true≢false (sym (in-any (λ b. f == b) free g (has-in free g q) (eq-number f g y)) ∙ d.0);
      left_dead = λ g q. n.free_dead g (among g q);
      sum = omega arith;
    }
  where
    among : (g : ℕ) → has free g ≡ true → has s.free g ≡ true
    among g q = ap (λ (x : List ℕ). has x g) e ∙ in-has (f ∷ free) g (inr (has-in free g q))
