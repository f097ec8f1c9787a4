-- One live frame of the storage: what is read of it, and what contracts see where it is changed.
use Rattle.std.proofs.Common.{◌≡◌, ◌∙◌, sym, ap, subst, ℕ, ◌<◌, true, false, List, length, Option, Some}
use Rattle.std.specs.Prelude.{slice_get, slice_set, slice_index}
use Rattle.std.proofs.lemmas.Option.{slice_get_within, get_or_from_slice_get}
use Rattle.frame_tables.specs.FrameTables.{Frame, no_frame, frame_at, is_live, is_queued, changed, spent, spent_of}
use Rattle.tam_frames.specs.declared.frame_store.FrameStore.TheInside.{Inside}
use Rattle.tam_frames.specs.StoredFrames.{StoredFrames, IsSized, with_table, with_frames, frame_spent}
use Rattle.tam_frames.specs.HeldFrames.{IsInNoLine, held_at, held_with}
use Rattle.tam_frames.specs.Kept.{Storage, IsStored, shown_of, stored}
use Rattle.tam_frames.proofs.TableLemmas.{live-there, changed_in-there}
use Rattle.tam_frames.proofs.ShownLemmas.{shown-row, shown-live, shown-set}
use Rattle.tam_frames.proofs.StoreLemmas.{absent, stored-kept}
use Rattle.tam_frames.proofs.SpentLemmas.{frames-spent}

-- what the code keeps
abbrev pub storage : Inside → Storage
storage s = record { held = s.frames; used = s.used; count = s.count }

module _ {st : Storage} (is : IsStored st) {s : StoredFrames} (view_is : stored st ≡ s) (f : ℕ) (live : is_live s.table f ≡ true) where
  -- it stands at its number
  pub there : slice_get (shown_of st) f ≡ Some (Some (frame_at s.table f))
  there = ap (λ (v : StoredFrames). slice_get v.table.frames f) view_is ∙ live-there s.table f live

  -- it is marked
  marked : slice_get st.held.lives f ≡ Some true
  marked = shown-live st.held.lives st.held.frames f (frame_at s.table f) there

  -- and it has begun
  row : slice_get st.held.frames f ≡ Some (frame_at s.table f)
  row = shown-row st.held.lives st.held.frames f (frame_at s.table f) there

  pub row-within : f < length st.held.frames
  row-within = slice_get_within st.held.frames f (frame_at s.table f) row

  -- it is what is read
  pub held : held_at st.held.frames f ≡ frame_at s.table f
  held = get_or_from_slice_get st.held.frames f (frame_at s.table f) no_frame row

  -- of the size of all
  pub sized : IsSized st.held.slots st.held.threads (held_at st.held.frames f)
  sized = subst (IsSized st.held.slots st.held.threads) (sym held) (is.sized f (frame_at s.table f) row)

  -- where it doesn't wait, it is in no line
  pub in-no-line : is_queued s.table.queue f ≡ false → IsInNoLine st.held f
  in-no-line apart = record {
    not_waiting = ap (λ (v : StoredFrames). is_queued v.table.queue f) view_is ∙ apart;
    not_free = absent is f (frame_at s.table f) there;
  }

  module _ (new : Frame) where
    -- the frame is another one
    abbrev after : Storage
    after = record st { held = held_with st.held f new }

    -- the storage then
    pub stored-with : IsSized st.held.slots st.held.threads new → IsStored after
    stored-with fits = stored-kept is f (frame_at s.table f) there new fits

    -- the live frames then
    shows : shown_of after ≡ slice_set (shown_of st) f (Some new)
    shows = shown-set st.held.lives st.held.frames f new marked

    -- what contracts see where it was changed
    pub view-with : (change : Frame → Frame) → new ≡ change (held_at st.held.frames f) → stored after ≡ with_table s (changed s.table f change)
    view-with change new_is =
        ap (λ (l : List (Option Frame)). with_table (stored st) (record (stored st).table { frames = l }))
        (shows ∙ ap (λ (h : Frame). slice_set (shown_of st) f (Some h)) (new_is ∙ ap change held)
        ∙ sym (changed_in-there (shown_of st) f (frame_at s.table f) change there))
        ∙ ap (λ (v : StoredFrames). with_table v (changed v.table f change)) view_is

    -- and where one of an entry count was spent
    pub view-spent-with : (t : ℕ) → new ≡ frame_spent (held_at st.held.frames f) t → stored after ≡ with_frames s (spent s.table f t)
    view-spent-with t new_is =
        let h : Frame = frame_at s.table f in
        ap (λ (l : List (Option Frame)). with_table (stored st) (record (stored st).table { frames = l }))
        (shows ∙ ap (λ (k : Frame). slice_set (shown_of st) f (Some k)) (new_is ∙ ap (λ (k : Frame). frame_spent k t) held)
        ∙ frames-spent (stored st).table f t (slice_index h.counts t) h there)
        ∙ ap (λ (v : StoredFrames). with_frames v (spent_of v.table f t (slice_index h.counts t))) view_is
