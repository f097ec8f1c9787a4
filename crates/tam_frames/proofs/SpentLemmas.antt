-- A table of frames where one of an entry count is spent.
use Rattle.std.proofs.Common.{◌≡◌, ◌∙◌, sym, ap, ℕ, zero, suc, List, ◌∷◌, Option, Some}
use Rattle.std.specs.Prelude.{slice_get, slice_set}
use Rattle.std.proofs.lemmas.List.{set-get_or, set-set}
use Rattle.std.proofs.lemmas.Option.{get_or_from_slice_get}
use Rattle.frame_tables.specs.FrameTables.{Frame, FrameTable, changed, spent_of}
use Rattle.tam_frames.specs.StoredFrames.{frame_spent_of}
use Rattle.tam_frames.proofs.TableLemmas.{changed_in-there, get-set_same}

-- a list with its own element put where it stands
set-there : (frames : List (Option Frame)) (f : ℕ) (x : Option Frame) → slice_get frames f ≡ Some x → slice_set frames f x ≡ frames
set-there frames f x there =
    ap (λ (y : Option Frame). slice_set frames f y) (sym (get_or_from_slice_get frames f x x there)) ∙ set-get_or frames f x

-- the frames of a table where one of an entry count is spent, by that count
pub frames-spent : (s : FrameTable) (f t n : ℕ) (h : Frame) → slice_get s.frames f ≡ Some (Some h)
    → slice_set s.frames f (Some (frame_spent_of h t n)) ≡ (spent_of s f t n).frames
frames-spent s f t zero h there = set-there s.frames f (Some h) there
frames-spent s f t (suc zero) h there =
    let none_left : Frame → Frame = λ k. record k { counts = slice_set k.counts t 0 } in
    let one_ready : Frame → Frame = λ k. record k { ready = t ∷ k.ready } in
    let spent_frames : List (Option Frame) = slice_set s.frames f (Some (none_left h)) in
    sym (ap (λ (l : List (Option Frame)). (changed (record s { frames = l }) f one_ready).frames) (changed_in-there s.frames f h none_left there)
    ∙ changed_in-there spent_frames f (none_left h) one_ready (get-set_same s.frames f (Some (none_left h)) (Some h) there)
    ∙ set-set s.frames f (Some (none_left h)) (Some (one_ready (none_left h))))
frames-spent s f t (suc (suc n)) h there = sym (changed_in-there s.frames f h (λ k. record k { counts = slice_set k.counts t (suc n) }) there)
