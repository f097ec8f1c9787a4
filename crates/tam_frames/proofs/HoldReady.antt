-- A frame that cells hold, where a thread becomes ready and where it leaves the ready list.
use Rattle.std.proofs.Common.{◌≡◌, ◌≢◌, ◌∙◌, sym, ap, subst, refl, ℕ, suc, ◌+◌, ◌<◌, ◌≤◌, List, [], ◌∷◌, length, map, drop, arith, inl, inr}
use Rattle.std.specs.Prelude.{slice_index, slice_set}
use Rattle.std.specs.List.{AllByRecursion}
use Rattle.std.proofs.lemmas.Bool.{cases_eq}
use Rattle.std.proofs.lemmas.List.{length-set, get_or-set_same, get_or-set_other}
use Rattle.linked_cells.specs.Cells.{LinkedCell, cell_at, with_words, linked, unlinked}
use Rattle.linked_cells.specs.Lists.{behind, IsApart}
use Rattle.linked_cells.proofs.ListLemmas.{pushed, popped}
use Rattle.frame_tables.specs.FrameTables.{Frame}
use Rattle.tam_frames.specs.FrameCells.{HoldsFrame, IsReady, frame_width, thread_cell, slot_cell}
use Rattle.tam_frames.proofs.CellLists.{IsWritten, is-written, KeepsWords, keeps-linked, keeps-link, behind-written, BothThere, IsOneOf, AllByRecursion-weaker}
use Rattle.tam_frames.proofs.CellLists.{ChangesFrame, changes-written, changes-linked, changes-link, changes-both}
use Rattle.tam_frames.proofs.HoldLemmas.{head-apart, apart-from-ready}
use Rattle.tam_frames.proofs.ReadyLemmas.{left-last}

-- a list that is not empty is its first element and the rest
pub first-and-rest : (ts : List ℕ) → 0 < length ts → ts ≡ slice_index ts 0 ∷ drop 1 ts
first-and-rest [] some = absurd (omega (arith, some))
first-and-rest (t ∷ ts) some = refl

-- the last of thread t's count is spent, and the header's words are those of one more ready thread
pub record Enables (h : Frame) (threads t o u : ℕ) : Type 0 where
  pub there : t < threads
  pub one_left : slice_index h.counts t ≡ 1
  pub owed_is : o ≡ h.owed
  pub count_is : u ≡ length h.ready + 1

-- thread t leaves the ready list, and the header's words are those of the others
pub record Pops (h : Frame) (t : ℕ) (ts : List ℕ) (o u : ℕ) : Type 0 where
  pub ready_is : h.ready ≡ t ∷ ts
  pub owed_is : o ≡ h.owed
  pub count_is : u ≡ length ts

module _ {cells : List LinkedCell} {slots threads a : ℕ} {h : Frame} (holds : HoldsFrame cells slots threads a h)
    (inside : a + frame_width slots threads ≤ length cells) where
  a_there : a < length cells
  a_there = omega (arith, inside)

  module _ {t o u : ℕ} (enables : Enables h threads t o u) where
    -- the thread's cell with its count used up, then behind the header, and then the header with its new words
    abbrev pub used_up : List LinkedCell
    used_up = with_words cells (thread_cell a t) 0 t

    abbrev pub put_behind : List LinkedCell
    put_behind = linked used_up a (thread_cell a t)

    abbrev pub enabled : List LinkedCell
    enabled = with_words put_behind a o u

    one : IsWritten cells used_up (thread_cell a t) 0 t
    one = is-written cells (thread_cell a t) (omega (arith, inside, enables.there)) 0 t

    both : BothThere used_up a (thread_cell a t)
    both = record { at_there = omega (arith, a_there, one.length_same); there = omega (arith, inside, enables.there, one.length_same) }

    two : KeepsWords used_up put_behind
    two = keeps-linked both

    three : IsWritten put_behind enabled a o u
    three = is-written put_behind a (omega (arith, a_there, one.length_same, two.length_same)) o u

    -- words of further cells stay
    first_other : (j : ℕ) → j ≢ a → j ≢ thread_cell a t → (cell_at enabled j).first ≡ (cell_at cells j).first
    first_other j other_a other =
        ap (λ (c : LinkedCell). c.first) (three.others j other_a) ∙ two.first_same j ∙ ap (λ (c : LinkedCell). c.first) (one.others j other)

    second_other : (j : ℕ) → j ≢ a → j ≢ thread_cell a t → (cell_at enabled j).second ≡ (cell_at cells j).second
    second_other j other_a other =
        ap (λ (c : LinkedCell). c.second) (three.others j other_a) ∙ two.second_same j ∙ ap (λ (c : LinkedCell). c.second) (one.others j other)

    -- other frames stay
    pub changes-enabled : ChangesFrame cells enabled a (frame_width slots threads)
    changes-enabled =
        let w : ℕ = frame_width slots threads in let head : IsOneOf a w a = record { from_a = omega arith; below = omega arith; beside = omega arith } in
        let cell : IsOneOf a w (thread_cell a t) = record { from_a = omega arith; below = omega (arith, enables.there); beside = omega arith } in
        changes-both (changes-both (changes-written cell one) (changes-linked head cell both)) (changes-written head three)

    known : t < length h.counts
    known = omega (arith, enables.there, holds.threads_there)

    -- the list before is apart from the thread's cell
    cell_apart : IsApart (thread_cell a t) (behind cells a (length h.ready))
    cell_apart =
        subst (IsApart (thread_cell a t)) (sym holds.linked)
        (apart-from-ready a (thread_cell a t) (IsReady h.counts threads) other h.ready holds.ready)
      where
        other : (r : ℕ) → IsReady h.counts threads r → thread_cell a t ≢ thread_cell a r
        other r ready same =
            let r_is : r ≡ t = omega (arith, same) in let count : slice_index h.counts r ≡ 1 = ap (slice_index h.counts) r_is ∙ enables.one_left in
            omega (arith, count, ready.1)

    -- the list
    list_is : behind enabled a (suc (length h.ready)) ≡ map (thread_cell a) (t ∷ h.ready)
    list_is =
        let n : ℕ = length h.ready in let i : ℕ = thread_cell a t in
        let same : behind used_up a n ≡ behind cells a n = behind-written one a n in
        behind-written three a (suc n)
        ∙ pushed used_up a i both.at_there both.there n
        (subst (IsApart a) (sym same) (head-apart holds)) (omega arith, subst (IsApart i) (sym same) cell_apart)
        ∙ ap (λ (l : List ℕ). i ∷ l) (same ∙ holds.linked)

    -- the thread is ready
    pub holds-enabled : HoldsFrame enabled slots threads a (record h { counts = slice_set h.counts t 0; ready = t ∷ h.ready })
    holds-enabled = record {
      slots_there = holds.slots_there;
      threads_there = length-set h.counts t 0 ∙ holds.threads_there;
      slot = λ s lt. first_other (slot_cell threads a s) (omega arith) (omega (arith, enables.there)) ∙ holds.slot s lt;
      count = counts;
      number = numbers;
      owed = three.first_is ∙ enables.owed_is;
      ready_count = three.second_is ∙ enables.count_is ∙ omega arith;
      linked = list_is;
      ready = (
        (enables.there, get_or-set_same h.counts t 0 0 known),
        AllByRecursion-weaker (IsReady h.counts threads) (IsReady (slice_set h.counts t 0) threads) still h.ready holds.ready,
      );
      fit = omega (arith, holds.fit, left-last h.counts t known enables.one_left);
    }
      where
        counts : (r : ℕ) → r < threads → (cell_at enabled (thread_cell a r)).first ≡ slice_index (slice_set h.counts t 0) r
        counts r lt = elim (cases_eq r t) [
          | inl same ↦ ap (λ (e : ℕ). (cell_at enabled (thread_cell a e)).first) same
              ∙ ap (λ (c : LinkedCell). c.first) (three.others (thread_cell a t) (omega arith)) ∙ two.first_same (thread_cell a t) ∙ one.first_is
              ∙ sym (get_or-set_same h.counts t 0 0 known) ∙ ap (slice_index (slice_set h.counts t 0)) (sym same)
          | inr other ↦ first_other (thread_cell a r) (omega arith) (omega (arith, other)) ∙ holds.count r lt ∙ sym (get_or-set_other h.counts t r 0 0 other)
        ]

        numbers : (r : ℕ) → r < threads → (cell_at enabled (thread_cell a r)).second ≡ r
        numbers r lt = elim (cases_eq r t) [
          | inl same ↦ ap (λ (e : ℕ). (cell_at enabled (thread_cell a e)).second) same
              ∙ ap (λ (c : LinkedCell). c.second) (three.others (thread_cell a t) (omega arith)) ∙ two.second_same (thread_cell a t) ∙ one.second_is
              ∙ sym same
          | inr other ↦ second_other (thread_cell a r) (omega arith) (omega (arith, other)) ∙ holds.number r lt
        ]

        still : (r : ℕ) → IsReady h.counts threads r → IsReady (slice_set h.counts t 0) threads r
        still r ready = elim (cases_eq r t) [
          | inl same ↦ (ready.0, ap (slice_index (slice_set h.counts t 0)) same ∙ get_or-set_same h.counts t 0 0 known)
          | inr other ↦ (ready.0, get_or-set_other h.counts t r 0 0 other ∙ ready.1)
        ]

  module _ {t : ℕ} {ts : List ℕ} {o u : ℕ} (pops : Pops h t ts o u) where
    -- the list before: its first cell is the thread's
    linked_before : (cell_at cells a).link ∷ behind (unlinked cells a) a (length ts) ≡ thread_cell a t ∷ map (thread_cell a) ts
    linked_before =
        let long : length h.ready ≡ suc (length ts) = ap (λ (l : List ℕ). length l) pops.ready_is in
        let apart : IsApart a (behind cells a (suc (length ts))) =
        subst (λ (n : ℕ). IsApart a (behind cells a n)) long (head-apart holds) in
        sym (popped cells a a_there (length ts) apart) ∙ ap (λ (n : ℕ). behind cells a n) (sym long) ∙ holds.linked
        ∙ ap (λ (l : List ℕ). map (thread_cell a) l) pops.ready_is

    first_cell : (cell_at cells a).link ≡ thread_cell a t
    first_cell = cc linked_before

    rest_cells : behind (unlinked cells a) a (length ts) ≡ map (thread_cell a) ts
    rest_cells = cc linked_before

    is_thread : t < threads
    is_thread = (subst (λ (l : List ℕ). AllByRecursion (IsReady h.counts threads) l) pops.ready_is holds.ready).0.0

    -- the second word of the first cell is the thread
    pub popped-is : (cell_at cells (cell_at cells a).link).second ≡ t
    popped-is = ap (λ (i : ℕ). (cell_at cells i).second) first_cell ∙ holds.number t is_thread

    abbrev pub left_ready : List LinkedCell
    left_ready = with_words (unlinked cells a) a o u

    words_kept : KeepsWords cells (unlinked cells a)
    words_kept = keeps-link cells a a_there (cell_at cells (cell_at cells a).link).link

    rewritten : IsWritten (unlinked cells a) left_ready a o u
    rewritten = is-written (unlinked cells a) a (omega (arith, a_there, words_kept.length_same)) o u

    -- other frames stay
    pub changes-popped : ChangesFrame cells left_ready a (frame_width slots threads)
    changes-popped =
        let head : IsOneOf a (frame_width slots threads) a = record { from_a = omega arith; below = omega arith; beside = omega arith } in
        changes-both (changes-link cells head a_there (cell_at cells (cell_at cells a).link).link) (changes-written head rewritten)

    -- the thread is ready no more
    pub holds-popped : HoldsFrame left_ready slots threads a (record h { ready = ts })
    holds-popped = record {
      slots_there = holds.slots_there;
      threads_there = holds.threads_there;
      slot = λ s lt. ap (λ (c : LinkedCell). c.first) (rewritten.others (slot_cell threads a s) (omega arith)) ∙ words_kept.first_same (slot_cell threads a s)
          ∙ holds.slot s lt;
      count = λ r lt. ap (λ (c : LinkedCell). c.first) (rewritten.others (thread_cell a r) (omega arith)) ∙ words_kept.first_same (thread_cell a r)
          ∙ holds.count r lt;
      number = λ r lt. ap (λ (c : LinkedCell). c.second) (rewritten.others (thread_cell a r) (omega arith)) ∙ words_kept.second_same (thread_cell a r)
          ∙ holds.number r lt;
      owed = rewritten.first_is ∙ pops.owed_is;
      ready_count = rewritten.second_is ∙ pops.count_is;
      linked = behind-written rewritten a (length ts) ∙ rest_cells;
      ready = (subst (λ (l : List ℕ). AllByRecursion (IsReady h.counts threads) l) pops.ready_is holds.ready).1;
      fit = let long : length h.ready ≡ suc (length ts) = ap (λ (l : List ℕ). length l) pops.ready_is in omega (arith, long, holds.fit);
    }
