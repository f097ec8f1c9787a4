-- The storage of frames where a frame is changed, taken or given back.
use Rattle.std.proofs.Common.{◌≡◌, ◌∙◌, sym, ap, ap₂, subst, refl, ℕ, ◌+◌, ◌-◌, ◌<◌, ◌≤◌, Bool, true, false, List, [], ◌∷◌, ◌++◌, length, drop, cond, get_or}
use Rattle.std.proofs.Common.{Option, Some, None, inl, inr, arith}
use Rattle.std.specs.Prelude.{slice_get, slice_set, count_by}
use Rattle.std.proofs.lemmas.Bool.{cases_eq}
use Rattle.std.proofs.lemmas.List.{length-set, length_push, get_or-set_same}
use Rattle.std.proofs.lemmas.Option.{slice_get_past, slice_get_within, get_or_from_slice_get}
use Rattle.std.proofs.lemmas.List.Sums.{sum_by_push}
use Rattle.frame_tables.specs.FrameTables.{Frame, no_frame, is_held, is_queued, is_live, is_some_frame, with_new, next_number, next_number_of}
use Rattle.tam_frames.specs.StoredFrames.{IsSized}
use Rattle.tam_frames.specs.HeldFrames.{HeldFrames, AreSized, held_with, begun_with, freed}
use Rattle.tam_frames.specs.Kept.{AreFree, Storage, IsStored, shown, shown_of, stored}
use Rattle.tam_frames.proofs.TableLemmas.{get-set_same, get-set_other, get-pushed, get-last, held-set}
use Rattle.tam_frames.proofs.ShownLemmas.{with-there, with-more, length-shown, shown-live, shown-set, shown-free, shown-take, shown-push}
use Rattle.tam_frames.proofs.QueueLemmas.{not-first, not-behind, queued-behind}

-- a frame of that size is put among frames of that size
sized-set : (slots threads : ℕ) (rows : List Frame) (f : ℕ) (new : Frame) → IsSized slots threads new → AreSized slots threads rows
    → AreSized slots threads (slice_set rows f new)
sized-set slots threads rows f new fits sized g h is = elim (cases_eq g f) [
  | inl same ↦
      let within : f < length rows =
      omega (arith, same, slice_get_within (slice_set rows f new) g h is, length-set rows f new) in
      let found : new ≡ h =
      sym (get_or-set_same rows f new no_frame within) ∙ ap (λ (k : ℕ). get_or (slice_set rows f new) k no_frame) (sym same)
      ∙ get_or_from_slice_get (slice_set rows f new) g h no_frame is in
      subst (IsSized slots threads) found fits
  | inr differ ↦ sized g h (sym (get-set_other rows f g new differ) ∙ is)
]

-- and behind them
sized-push : (slots threads : ℕ) (rows : List Frame) (new : Frame) → IsSized slots threads new → AreSized slots threads rows
    → AreSized slots threads (rows ++ new ∷ [])
sized-push slots threads rows new fits sized g h is = elim (get-pushed rows g new h is) [
  | inl there ↦ sized g h there
  | inr same ↦ subst (IsSized slots threads) same fits
]

-- where none of the free numbers is f, they stay free whatever f has
free-beside : (frames : List (Option Frame)) (f : ℕ) (x : Option Frame) (free : List ℕ) → is_queued free f ≡ false → AreFree frames free
    → AreFree (slice_set frames f x) free
free-beside frames f x [] absent are = tt
free-beside frames f x (g ∷ free) absent are = (
  get-set_other frames f g x (not-first free g f absent) ∙ are.0,
  (are.1.0, free-beside frames f x free (not-behind free g f absent) are.1.1),
)

-- a number with a frame is no free one
live-absent : (frames : List (Option Frame)) (f : ℕ) (h : Frame) (free : List ℕ) → slice_get frames f ≡ Some (Some h) → AreFree frames free
    → is_queued free f ≡ false
live-absent frames f h [] there are = refl
live-absent frames f h (g ∷ free) there are =
    queued-behind free g f (λ same. some-not-none (sym there ∙ ap (λ (k : ℕ). slice_get frames k) (sym same) ∙ are.0))
    ∙ live-absent frames f h free there are.1.1
  where
    some-not-none : Some (Some h) ≡ Some None → ⊥
    some-not-none is = cc

module _ {s : Storage} (is : IsStored s) where
  -- the next number isn't live
  pub next-free : is_live (stored s).table (next_number (stored s).table) ≡ false
  next-free = go s.held.free is.are_free
    where
      go : (free : List ℕ) → AreFree (shown_of s) free → is_some_frame (slice_get (shown_of s) (next_number_of free (length (shown_of s)))) ≡ false
      go [] are = ap is_some_frame (slice_get_past (shown_of s) (length (shown_of s)) (omega arith))
      go (f ∷ free) are = ap is_some_frame are.0

  -- each number has a place
  pub length-places : length (shown_of s) ≡ length s.held.frames
  length-places = length-shown s.held.lives s.held.frames (omega (arith, is.lives_there)) ∙ is.lives_there

  -- no more frames are live than there are
  pub used-few : s.used ≤ s.count
  used-few = omega (arith, is.used_counted, is.free_counted, is.few)

-- storage with another queue
pub stored-queued : {s : Storage} → IsStored s → (queue : List ℕ) → IsStored (record s { held = record s.held { queue = queue } })
stored-queued is queue = record {
  sized = is.sized;
  lives_there = is.lives_there;
  room_there = is.room_there;
  are_free = is.are_free;
  free_counted = is.free_counted;
  used_counted = is.used_counted;
  few = is.few;
}

module _ {s : Storage} (is : IsStored s) (f : ℕ) (h : Frame) (there : slice_get (shown_of s) f ≡ Some (Some h)) where
  -- the number of a live frame is no free one
  pub absent : is_queued s.held.free f ≡ false
  absent = live-absent (shown_of s) f h s.held.free there is.are_free

  -- storage in which frame f is changed
  pub stored-kept : (new : Frame) → IsSized s.held.slots s.held.threads new → IsStored (record s { held = held_with s.held f new })
  stored-kept new fits = record {
    sized = sized-set s.held.slots s.held.threads s.held.frames f new fits is.sized;
    lives_there = omega (arith, is.lives_there, same);
    room_there = is.room_there;
    are_free = subst (λ (l : List (Option Frame)). AreFree l s.held.free) (sym shows)
        (free-beside (shown_of s) f (Some new) s.held.free absent is.are_free);
    free_counted = omega (arith, is.free_counted, count, ap (λ (l : List (Option Frame)). count_by is_held l) shows, same);
    used_counted = omega (arith, is.used_counted, count, ap (λ (l : List (Option Frame)). count_by is_held l) shows);
    few = omega (arith, is.few, same);
  }
    where
      same : length (slice_set s.held.frames f new) ≡ length s.held.frames
      same = length-set s.held.frames f new

      shows : shown s.held.lives (slice_set s.held.frames f new) ≡ slice_set (shown_of s) f (Some new)
      shows = shown-set s.held.lives s.held.frames f new (shown-live s.held.lives s.held.frames f h there)

      count : count_by is_held (slice_set (shown_of s) f (Some new)) + 1 ≡ count_by is_held (shown_of s) + 1
      count = held-set (shown_of s) f (Some h) (Some new) there

  -- one frame less is live without it
  less : count_by is_held (slice_set (shown_of s) f None) + 1 ≡ count_by is_held (shown_of s) + 0
  less = held-set (shown_of s) f (Some h) None there

  -- so some frame is live
  pub some-used : 0 < s.used
  some-used = omega (arith, less, is.used_counted)

  -- storage to which frame f was given back
  pub stored-given : IsStored (record s { held = freed s.held f; used = s.used - 1 })
  stored-given = record {
    sized = is.sized;
    lives_there = omega (arith, is.lives_there, length-set s.held.lives f false);
    room_there = is.room_there;
    are_free = subst (λ (l : List (Option Frame)). AreFree l (f ∷ s.held.free)) (sym shows)
        (get-set_same (shown_of s) f None (Some h) there, (absent, free-beside (shown_of s) f None s.held.free absent is.are_free));
    free_counted = omega (arith, is.free_counted, less, count);
    used_counted = omega (arith, is.used_counted, less, count);
    few = is.few;
  }
    where
      shows : shown (slice_set s.held.lives f false) s.held.frames ≡ slice_set (shown_of s) f None
      shows = shown-free s.held.lives s.held.frames f

      count : count_by is_held (shown (slice_set s.held.lives f false) s.held.frames) ≡ count_by is_held (slice_set (shown_of s) f None)
      count = ap (λ (l : List (Option Frame)). count_by is_held l) shows

-- the storage where a frame has begun at number n, and those numbers are still free
abbrev pub with_taken : Storage → Frame → ℕ → List ℕ → Storage
with_taken s new n free = record s { held = begun_with (record s.held { free = free }) n new; used = s.used + 1 }

-- what holds of it
pub record IsTaken (s : Storage) (new : Frame) (n : ℕ) (free : List ℕ) : Type 0 where
  pub below : n < s.count
  pub next : n ≤ length s.held.frames
  pub is : IsStored (with_taken s new n free)
  pub stands : slice_get (shown_of (with_taken s new n free)) n ≡ Some (Some new)
  pub table_is : (stored (with_taken s new n free)).table ≡ with_new (stored s).table s.held.free new

module _ {s : Storage} (is : IsStored s) (new : Frame) (fits : IsSized s.held.slots s.held.threads new) where
  -- a frame is taken for the first of the free numbers
  module _ (f : ℕ) (free : List ℕ) (free_is : s.held.free ≡ f ∷ free) where
    are : AreFree (shown_of s) (f ∷ free)
    are = subst (AreFree (shown_of s)) free_is is.are_free

    -- it stands among the frames
    within : f < length s.held.frames
    within = omega (arith, slice_get_within (shown_of s) f None are.0, length-places is)

    -- the storage then
    abbrev after_first : HeldFrames
    after_first = record s.held { frames = slice_set s.held.frames f new; lives = slice_set s.held.lives f true; free = free }

    first-is : with_taken s new f free ≡ record s { held = after_first; used = s.used + 1 }
    first-is =
        ap₂ (λ (frames : List Frame) (lives : List Bool). record s {
          held = record s.held { frames = frames; lives = lives; free = free };
          used = s.used + 1;
        }) (with-there s.held.frames f new within) (with-there s.held.lives f true (omega (arith, within, is.lives_there)))

    shows : shown after_first.lives after_first.frames ≡ slice_set (shown_of s) f (Some new)
    shows = shown-take s.held.lives s.held.frames f new

    one_more : count_by is_held (shown after_first.lives after_first.frames) + 0 ≡ count_by is_held (shown_of s) + 1
    one_more = ap (λ (l : List (Option Frame)). count_by is_held l + 0) shows ∙ held-set (shown_of s) f None (Some new) are.0

    rows : length after_first.frames ≡ length s.held.frames
    rows = length-set s.held.frames f new

    stored-first : IsStored (record s { held = after_first; used = s.used + 1 })
    stored-first = record {
      sized = sized-set s.held.slots s.held.threads s.held.frames f new fits is.sized;
      lives_there = omega (arith, is.lives_there, rows, length-set s.held.lives f true);
      room_there = is.room_there;
      are_free = subst (λ (l : List (Option Frame)). AreFree l free) (sym shows) (free-beside (shown_of s) f (Some new) free are.1.0 are.1.1);
      free_counted = omega (arith, is.free_counted, one_more, rows, ap (λ (l : List ℕ). length l) free_is);
      used_counted = omega (arith, is.used_counted, one_more);
      few = omega (arith, is.few, rows);
    }

    taken-first : IsTaken s new f free
    taken-first = record {
      below = omega (arith, within, is.few);
      next = omega (arith, within);
      is = subst IsStored (sym first-is) stored-first;
      stands = ap (λ (t : Storage). slice_get (shown_of t) f) first-is ∙ ap (λ (l : List (Option Frame)). slice_get l f) shows
          ∙ get-set_same (shown_of s) f (Some new) None are.0;
      table_is = ap (λ (t : Storage). (stored t).table) first-is
          ∙ ap (λ (l : List (Option Frame)). record (stored s).table { frames = l; free = free }) shows
          ∙ ap (λ (l : List ℕ). with_new (stored s).table l new) (sym free_is);
    }

  -- a frame is taken for the least number that was never used, where fewer are live than may be
  module _ (room : s.used < s.count) (free_is : s.held.free ≡ []) where
    none_free : length s.held.free ≡ 0
    none_free = ap (λ (l : List ℕ). length l) free_is

    -- one number more is left
    grown : length s.held.frames < s.count
    grown = omega (arith, is.free_counted, is.used_counted, none_free, room)

    -- the storage then
    abbrev after_next : HeldFrames
    after_next = record s.held { frames = s.held.frames ++ new ∷ []; lives = s.held.lives ++ true ∷ []; free = [] }

    next-is : with_taken s new (length s.held.frames) [] ≡ record s { held = after_next; used = s.used + 1 }
    next-is =
        ap₂ (λ (frames : List Frame) (lives : List Bool). record s {
          held = record s.held { frames = frames; lives = lives; free = [] };
          used = s.used + 1;
        }) (with-more s.held.frames (length s.held.frames) new refl) (with-more s.held.lives (length s.held.frames) true (sym is.lives_there))

    shows_more : shown after_next.lives after_next.frames ≡ shown_of s ++ Some new ∷ []
    shows_more = shown-push s.held.lives s.held.frames new (sym is.lives_there)

    more : count_by is_held (shown after_next.lives after_next.frames) ≡ count_by is_held (shown_of s) + 1
    more = ap (λ (l : List (Option Frame)). count_by is_held l) shows_more
        ∙ sum_by_push (λ (o : Option Frame). cond {A = ℕ} (is_held o) 1 0) (shown_of s) (Some new)

    stored-next : IsStored (record s { held = after_next; used = s.used + 1 })
    stored-next = record {
      sized = sized-push s.held.slots s.held.threads s.held.frames new fits is.sized;
      lives_there = omega (arith, is.lives_there, length_push s.held.frames new, length_push s.held.lives true);
      room_there = is.room_there;
      are_free = tt;
      free_counted = omega (arith, is.free_counted, more, length_push s.held.frames new, none_free);
      used_counted = omega (arith, is.used_counted, more);
      few = omega (arith, grown, length_push s.held.frames new);
    }

    taken-next : IsTaken s new (length s.held.frames) []
    taken-next = record {
      below = grown;
      next = omega arith;
      is = subst IsStored (sym next-is) stored-next;
      stands = ap (λ (t : Storage). slice_get (shown_of t) (length s.held.frames)) next-is
          ∙ ap₂ (λ (l : List (Option Frame)) (n : ℕ). slice_get l n) shows_more (sym (length-places is)) ∙ get-last (shown_of s) (Some new);
      table_is = ap (λ (t : Storage). (stored t).table) next-is
          ∙ ap₂ (λ (l : List (Option Frame)) (free : List ℕ). record (stored s).table { frames = l; free = free }) shows_more (sym free_is)
          ∙ ap (λ (l : List ℕ). with_new (stored s).table l new) (sym free_is);
    }

  -- a frame is taken for the next number
  pub is-taken : s.used < s.count → IsTaken s new (next_number_of s.held.free (length s.held.frames)) (drop 1 s.held.free)
  is-taken room = go s.held.free refl
    where
      go : (free : List ℕ) → s.held.free ≡ free → IsTaken s new (next_number_of free (length s.held.frames)) (drop 1 free)
      go [] free_is = taken-next room free_is
      go (f ∷ free) free_is = taken-first f free free_is
