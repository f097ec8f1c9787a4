-- What a job that words ask for is like: its limits are in their ranges, its arguments are words, and what it is to make may be made.
use Rattle.std.proofs.Common.{◌≡◌, ◌<◌, ◌≤◌, ◌^◌, ℕ, zero, suc, Bool, true, false, not, ◌&&◌, ◌==◌, List, [], ◌∷◌, refl, ap, subst, length}
use Rattle.std.proofs.Common.{slice_get, nat_lt, nat_le, ◌-◌, ◌%◌, arith, leb-true, true≢false, sym, ◌∙◌}
use Rattle.std.specs.Prelude.{Option, None, Some, Result, Ok, Err, unwrap_or, codes}
use Rattle.std.specs.List.{slice_split}
use Rattle.tam_word.specs.Numbers.{word_of, decimal_up_to, negative_of, hexadecimal_of, some_if, are_digits, number_behind}
use Rattle.tam_word.proofs.Tests.{both-true, test-below}
use Rattle.tam_word.proofs.NumberLemmas.{eight_digits}
use Rattle.tam_word.proofs.Spelled.{decimal_up_to-is}
use Rattle.tam_make.specs.declared.shape.Shape.{Shape}
use Rattle.tam_make.specs.declared.shape.Shape.TheVariants.{Ladder, Wave}
use Rattle.tam_make.specs.MadeTexts.{IsCount, largest}
use Rattle.tam_msgs.specs.declared.limits.Limits.{Limits}
use Rattle.tam_msgs.specs.Messages.{AreLimits}
use Rattle.tam_words.specs.declared.mode.Mode.{Mode}
use Rattle.tam_words.specs.declared.usage_cause.UsageCause.{UsageCause}
use Rattle.tam_words.specs.declared.usage_cause.UsageCause.TheVariants.{Words, Mode as Unknown_mode, Extra, Shape as Unknown_shape, Count}
use Rattle.tam_words.specs.declared.usage_cause.UsageCause.TheVariants.{Args, Order, Budget, Frames, Cells}
use Rattle.tam_words.specs.Names.{mode_of, shape_of, makes}
use Rattle.clap.specs.Words.{Row}
use Rattle.tam_words.specs.Command.{given, is_matched, matches}
use Rattle.tam_words.specs.Options.{all_words, args_of, is_comma, short_order_of, at_least, limit_of, usual_limits, count_of}
use Rattle.tam_words.specs.Jobs.{JobParts, job_parts, IsMakeable, Asked, Job, asks_with, some_or, holds_or, is_extra, limits_of, job_of, made_job_of}
use Rattle.tam_words.specs.Jobs.{mode_job_of, asked}

-- ---- words

-- some number is one number
some-is : (a b : ℕ) → ◌≡◌ {A = Option ℕ} (Some a) (Some b) → a ≡ b
some-is a b e = cc

-- a negative number is a word
negative-below : (o : Option ℕ) (w : ℕ) → negative_of o ≡ Some w → w < 2 ^ 32
negative-below None w e = absurd (cc)
negative-below (Some n) w e = let s = some-is ((2 ^ 32 - n) % 2 ^ 32) w e in omega (arith, s)

-- a hexadecimal one is a word
hexadecimal-below : (bs : List ℕ) (w : ℕ) → hexadecimal_of bs ≡ Some w → w < 2 ^ 32
hexadecimal-below bs w e = go (nat_lt 0 (length bs) && (nat_lt (length bs) 9 && are_digits 16 bs)) refl e
  where
    go : (t : Bool) → (nat_lt 0 (length bs) && (nat_lt (length bs) 9 && are_digits 16 bs)) ≡ t
        → some_if t (number_behind 16 0 bs) ≡ Some w → w < 2 ^ 32
    go false t e = absurd (cc)
    go true t e =
        let a = both-true (nat_lt 0 (length bs)) _ t in
        let b = both-true (nat_lt (length bs) 9) (are_digits 16 bs) a.1 in
        subst (λ n. n < 2 ^ 32) (some-is (number_behind 16 0 bs) w e) (eight_digits bs b.1 (test-below (length bs) 9 b.0))

-- a decimal one is a word
decimal-below : (bs : List ℕ) (w : ℕ) → decimal_up_to (2 ^ 32 - 1) bs ≡ Some w → w < 2 ^ 32
decimal-below bs w e = let l = (decimal_up_to-is (2 ^ 32 - 1) bs w (omega arith) e).1 in omega (arith, l)

-- what a text spells as a word is one
word-below : (bs : List ℕ) (w : ℕ) → word_of bs ≡ Some w → w < 2 ^ 32
word-below [] w e = absurd (cc)
word-below (b ∷ []) w e = decimal-below (b ∷ []) w e
word-below (b ∷ c ∷ bs) w e = signed (b == 45) refl
  where
    positive : (t : Bool) → (elim t [ true ↦ hexadecimal_of bs | false ↦ decimal_up_to (2 ^ 32 - 1) (b ∷ c ∷ bs) ]) ≡ Some w → w < 2 ^ 32
    positive true h = hexadecimal-below bs w h
    positive false h = decimal-below (b ∷ c ∷ bs) w h

    signed : (t : Bool) → (b == 45) ≡ t → w < 2 ^ 32
    signed true t = negative-below (decimal_up_to (2 ^ 31) (c ∷ bs)) w (rw (word_of, t) at e)
    signed false t = positive ((b == 48) && (c == 120)) (rw (word_of, t) at e)

-- each word of the list is one
abbrev AreWords : List ℕ → Type 0
AreWords ws = (k w : ℕ) → slice_get ws k ≡ Some w → w < 2 ^ 32

-- the empty list has words alone
none-there : AreWords []
none-there k w e = absurd (cc)

-- one word more
one-there : (v : ℕ) (ws : List ℕ) → v < 2 ^ 32 → AreWords ws → AreWords (v ∷ ws)
one-there v ws l h zero w e = subst (λ n. n < 2 ^ 32) (some-is v w e) l
one-there v ws l h (suc k) w e = h k w e

-- some list is one list
some-list : (a b : List ℕ) → ◌≡◌ {A = Option (List ℕ)} (Some a) (Some b) → a ≡ b
some-list a b e = cc

-- the words of texts are words
all-below : (texts : List (List ℕ)) (ws : List ℕ) → all_words texts ≡ Some ws → AreWords ws
all-below [] ws e = subst AreWords (some-list [] ws e) none-there
all-below (t ∷ ts) ws e = first (word_of t) refl (all-below ts)
  where
    rest : (v : ℕ) → word_of t ≡ Some v → (o : Option (List ℕ)) → all_words ts ≡ o → ((vs : List ℕ) → all_words ts ≡ Some vs → AreWords vs)
        → (elim o [ None ↦ None | Some vs ↦ Some (v ∷ vs) ]) ≡ Some ws → AreWords ws
    rest v f None g more h = absurd (cc)
    rest v f (Some vs) g more h = subst AreWords (some-list (v ∷ vs) ws h) (one-there v vs (word-below t v f) (more vs g))

    first : (o : Option ℕ) → word_of t ≡ o → ((vs : List ℕ) → all_words ts ≡ Some vs → AreWords vs) → AreWords ws
    first None f more = let z : None ≡ Some ws = rw (all_words, f) at e in absurd (cc)
    first (Some v) f more = rest v f (all_words ts) refl more (rw (all_words, f) at e)

-- the words of a list of arguments are words
args-below : (text ws : List ℕ) → args_of text ≡ Some ws → AreWords ws
args-below [] ws e = subst AreWords (some-list [] ws e) none-there
args-below (b ∷ bytes) ws e = all-below (slice_split is_comma (b ∷ bytes)) ws e

-- ---- limits

-- a number that isn't below the least one
least-there : (least n m : ℕ) → at_least least (Some m) ≡ Some n → (least ≤ n) × (m ≡ n)
least-there least n m e = go (nat_le least m) refl e
  where
    go : (t : Bool) → nat_le least m ≡ t → some_if t m ≡ Some n → (least ≤ n) × (m ≡ n)
    go false t h = absurd (cc)
    go true t h = let same = some-is m n h in let l = leb-true least m t in (omega (arith, l, same), same)

-- the number of an option is in its range
limit-in-range : (usual least most : ℕ) (text : Option (List ℕ)) (n : ℕ) → least ≤ usual → usual ≤ most → most < 2 ^ 64
    → limit_of usual least most text ≡ Some n → (least ≤ n) × (n ≤ most)
limit-in-range usual least most None n low high small e = let same = some-is usual n e in (omega (arith, same), omega (arith, same))
limit-in-range usual least most (Some text) n low high small e = go (decimal_up_to most text) refl e
  where
    go : (o : Option ℕ) → decimal_up_to most text ≡ o → at_least least o ≡ Some n → (least ≤ n) × (n ≤ most)
    go None f h = absurd (cc)
    go (Some m) f h =
        let p = least-there least n m h in
        let l = (decimal_up_to-is most text m small f).1 in
        (p.0, omega (arith, l, p.1))

-- ---- counts

-- the largest number of a shape is small
small-largest : (shape : Shape) → largest shape < 2 ^ 64
small-largest Ladder = omega arith
small-largest Wave = omega arith

-- a count that a text gives a shape is one that it may have
count-in-range : (shape : Shape) (text : Option (List ℕ)) (n : ℕ) → count_of shape text ≡ Some n → IsCount shape n
count-in-range shape None n e = absurd (cc)
count-in-range shape (Some text) n e = go (decimal_up_to (largest shape) text) refl e
  where
    go : (o : Option ℕ) → decimal_up_to (largest shape) text ≡ o → at_least 1 o ≡ Some n → IsCount shape n
    go None f h = absurd (cc)
    go (Some m) f h =
        let p = least-there 1 n m h in
        let l = (decimal_up_to-is (largest shape) text m (small-largest shape) f).1 in
        (omega (arith, p.0), omega (arith, l, p.1))

-- ---- jobs

-- where a job is asked for, there is the value that it is asked with
with-value : {X : Type 0} (r : Result X UsageCause) (ask : X → Asked) (job : JobParts) → asks_with r ask ≡ Job job
    → (x : X) × (r ≡ Ok x) × (ask x ≡ Job job)
with-value (Ok x) ask job e = (x, refl, e)
with-value (Err cause) ask job e = absurd (cc)

-- a value is that of its option
some-there : {X : Type 0} (cause : UsageCause) (o : Option X) (x : X) → some_or cause o ≡ Ok x → o ≡ Some x
some-there cause None x e = absurd (cc)
some-there cause (Some y) x e = ap Some (ok-is y x e)
  where
    ok-is : {X : Type 0} (a b : X) → ◌≡◌ {A = Result X UsageCause} (Ok a) (Ok b) → a ≡ b
    ok-is a b e = cc

-- some limits are the same limits
limits-is : (a b : Limits) → ◌≡◌ {A = Result Limits UsageCause} (Ok a) (Ok b) → a ≡ b
limits-is a b e = cc

-- limits that rows set are in their ranges
limits-in-range : (rows : List Row) (limits : Limits) → limits_of rows ≡ Ok limits → AreLimits limits
limits-in-range rows limits e =
    go (limit_of 1000000 0 4294967295 (given (codes "budget") rows)) (limit_of 4096 1 16384 (given (codes "frames") rows))
    (limit_of 1048576 0 4194304 (given (codes "cells") rows)) refl refl refl e
  where
    go : (b f c : Option ℕ) → limit_of 1000000 0 4294967295 (given (codes "budget") rows) ≡ b → limit_of 4096 1 16384 (given (codes "frames") rows) ≡ f
        → limit_of 1048576 0 4194304 (given (codes "cells") rows) ≡ c
        → ◌≡◌ {A = Result Limits UsageCause} (elim b [
          | None ↦ Err Budget
          | Some m ↦ elim f [
            | None ↦ Err Frames
            | Some n ↦ elim c [
              | None ↦ Err Cells
              | Some k ↦ Ok (record { budget = m; frames = n; cells = k })
            ]
          ]
        ]) (Ok limits) → AreLimits limits
    go None f c p q r h = absurd (cc)
    go (Some b) None c p q r h = absurd (cc)
    go (Some b) (Some f) None p q r h = absurd (cc)
    go (Some b) (Some f) (Some c) p q r h =
        let x = limit-in-range 1000000 0 4294967295 (given (codes "budget") rows) b (omega arith) (omega arith) (omega arith) p in
        let y = limit-in-range 4096 1 16384 (given (codes "frames") rows) f (omega arith) (omega arith) (omega arith) q in
        let z = limit-in-range 1048576 0 4194304 (given (codes "cells") rows) c (omega arith) (omega arith) (omega arith) r in
        let set : Limits = record { budget = b; frames = f; cells = c } in
        subst AreLimits (limits-is set limits h)
        (record { some_frame = omega (arith, y.0); few_frames = y.1; few_cells = z.1; budget = omega (arith, x.1) })

-- what is known of a job
pub record IsRightJob (job : JobParts) : Type 0 where
  pub limits_in_range : AreLimits job.limits
  pub args_are_words : (k w : ℕ) → slice_get job.args k ≡ Some w → w < 2 ^ 32
  pub makeable : makes job.mode ≡ true → IsMakeable (shape_of job.name) job.count
  pub no_order_file : makes job.mode ≡ true → job.order_file ≡ None

-- a job has one record of parts
parts-are : (a b : JobParts) → Job a ≡ Job b → a ≡ b
parts-are a b e = cc

-- a job of rows is right
job-right : (mode : Mode) (name : List ℕ) (rows : List Row) (job : JobParts) → makes mode ≡ false → job_of mode name rows ≡ Job job → IsRightJob job
job-right mode name rows job reads e =
    let a = with-value (some_or Args (args_of (unwrap_or (given (codes "args") rows) []))) _ job e in
    let o = with-value (some_or Order (short_order_of (unwrap_or (given (codes "order") rows) []))) _ job a.2 in
    let l = with-value (limits_of rows) _ job o.2 in
    let made = job_parts mode name 0 a.0 o.0 (given (codes "order-file") rows) l.0 in
    subst IsRightJob (parts-are made job l.2)
    (record {
      limits_in_range = limits-in-range rows l.0 l.1;
      args_are_words = args-below (unwrap_or (given (codes "args") rows) []) a.0 (some-there Args _ a.0 a.1);
      makeable = λ m. absurd (true≢false (sym m ∙ reads));
      no_order_file = λ m. absurd (true≢false (sym m ∙ reads));
    })

-- and so is one that makes its input
made-right : (mode : Mode) (name : List ℕ) (rows : List Row) (job : JobParts) → made_job_of mode name rows ≡ Job job → IsRightJob job
made-right mode name rows job e =
    let s = with-value (some_or Unknown_shape (shape_of name)) _ job e in
    let c = with-value (some_or Count (count_of s.0 (given (codes "count") rows))) _ job s.2 in
    let made = job_parts mode name c.0 [] [] None usual_limits in
    let shape = some-there Unknown_shape (shape_of name) s.0 s.1 in
    subst IsRightJob (parts-are made job c.2)
    (record {
      limits_in_range = record { some_frame = omega arith; few_frames = omega arith; few_cells = omega arith; budget = omega arith };
      args_are_words = none-there;
      makeable = λ m. subst (λ o. IsMakeable o c.0) (sym shape) (count-in-range s.0 (given (codes "count") rows) c.0 (some-there Count _ c.0 c.1));
      no_order_file = λ m. refl;
    })

-- and a mode's
mode-right : (mode : Mode) (name : List ℕ) (rows : List Row) (job : JobParts) → mode_job_of mode name rows ≡ Job job → IsRightJob job
mode-right mode name rows job e =
    let x = with-value (holds_or Extra (not (is_extra mode rows))) _ job e in
    go (makes mode) refl x.2
  where
    go : (t : Bool) → makes mode ≡ t → (elim t [ true ↦ made_job_of mode name rows | false ↦ job_of mode name rows ]) ≡ Job job → IsRightJob job
    go true t h = made-right mode name rows job h
    go false t h = job-right mode name rows job t h

-- a job that words ask for is right
pub asked-right : (words : List (List ℕ)) (job : JobParts) → asked words ≡ Job job → IsRightJob job
unfolding asked
asked-right words job e =
    let all = with-value (holds_or Words (is_matched words)) _ job e in
    let rows = matches words in
    let word = with-value (some_or Words (given (codes "mode") rows)) _ job all.2 in
    let name = with-value (some_or Words (given (codes "name") rows)) _ job word.2 in
    let mode = with-value (some_or Unknown_mode (mode_of word.0)) _ job name.2 in
    mode-right mode.0 name.0 rows job mode.2
