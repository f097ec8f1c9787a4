-- What is live in the run of an image is what is live in the run of its threads.
use Rattle.std.proofs.Common.{◌≡◌, ℕ, suc, ◌+◌, ◌≤◌, ◌==◌, Bool, false, not, List, slice_get, length, refl, sym, ap, subst, ◌∙◌, arith, inl, inr}
use Rattle.std.specs.Prelude.{IsTrue, Contains}
use Rattle.tam_msgs.specs.declared.message.Message.{Message}
use Rattle.tam_msgs.specs.declared.limits.Limits.{Limits}
use Rattle.tam_msgs.specs.declared.item.Item.{Item}
use Rattle.tam_msgs.specs.declared.choice.Choice.{Choice}
use Rattle.tam_msgs.specs.declared.choice.Choice.TheVariants.{Quiet as Choose_quiet, Run as Choose_run, Deliver as Choose_delivery}
use Rattle.tam_msgs.specs.Runs.{End, Outcome, Next, Ended, choice, Report}
use Rattle.frame_tables.specs.FrameTables.{FrameTable, is_live, is_some_frame, is_ready, live_count}
use Rattle.tam_graph.specs.Graphs.{Graph}
use Rattle.tl0_code.specs.ThreadCode.{Program}
use Rattle.tl0_code.specs.Machines.{Machine, Giving}
use Rattle.tl0_code.specs.ThreadRuns.{step_of, thread_opening}
use Rattle.tl0_keep.specs.Compiled.{compiled}
use Rattle.tl0_keep.specs.ThreadNames.{names_of, NamesAreLive}
use Rattle.tl0_keep.specs.ThreadLaws.{IsJob, IsAfter, ComesTo, GivingIsRenaming, is_wish}
use Rattle.tl0_keep.specs.ThreadLaws.{delivers_wish, takes_frame, FramesSuffice, GivenBackIsUnnamed, RoomIsQuiet}
use Rattle.tl0_keep.proofs.giving.EndsLeave.{last-event, step-leaves}
use Rattle.rv_inst.specs.Harts.{reg}
use Rattle.rv_keep.specs.Image.{image_of}
use Rattle.rv_keep.specs.Hosts.{Host, Reached, At_poll, Stopped}
use Rattle.rv_keep.specs.HostRuns.{host_step, host_opening}
use Rattle.rv_keep.specs.MachineLaws.{Same, SamePoint, poll_of, poll_after, thread_after}
use Rattle.rv_keep.specs.StepLaws.{image_after, poll_behind, host_at, host_left}
use Rattle.tam_fits.specs.Fits.{RunsAreTame}
use Rattle.tam_fits.specs.LiveFrames.{names_in, NamesLive, ImagesNameLive, FreeNotLive, ImagesFreeNotLive, ImagesLeaveLive}
use Rattle.tam_fits.specs.LiveFrames.{chooses_wish, grants_frame, ImageFramesSuffice, FramesSufficeAlike, ImageRoomIsQuiet}
use Rattle.tam_fits.proofs.RunEnds.{end_of, run-is}
use Rattle.tam_fits.proofs.Reporting.{host-ends, all-agree, graph-reports}

-- ---- the same states

module _ (m : Machine) (s : Host) (same : Same m s) where
  -- name the same frames
  names-same : names_in s ≡ names_of m
  names-same = rw (same.pending, same.arrays) refl

  -- so where those are live in the one they are in the other
  names-live : NamesAreLive m → NamesLive s
  names-live h f c d = subst IsTrue (sym (same.live f)) (h f (subst (λ (xs : List ℕ). Contains xs f) names-same c) d)

  -- and what is free isn't live in the one where it isn't in the other
  free-rests : ((f : ℕ) → Contains m.table.free f → is_live m.table f ≡ false) → FreeNotLive s
  free-rests h f c = same.live f ∙ h f (subst (λ (xs : List ℕ). Contains xs f) same.free c)

  -- a choice delivers a wish in both
  wish-same : (c : Choice × List Item) → chooses_wish s c ≡ delivers_wish m c
  wish-same (Choose_delivery k, rest) = ap (λ (xs : List Message). is_wish (slice_get xs k)) same.pending
  wish-same (Choose_quiet, rest) = refl
  wish-same (Choose_run, rest) = refl

  -- and where the host is told whether something is ready, so does the event that comes next
  grants-same : not (reg s.hart 10 == 0) ≡ is_ready m.table → grants_frame s ≡ takes_frame m
  grants-same tells =
      wish-same (choice s.order (not (reg s.hart 10 == 0)) (length s.pending))
      ∙ (ap (λ (x : List Item). delivers_wish m (choice x (not (reg s.hart 10 == 0)) (length s.pending))) same.order
      ∙ (ap (λ (x : Bool). delivers_wish m (choice m.order x (length s.pending))) tells
      ∙ ap (λ (x : List Message). delivers_wish m (choice m.order (is_ready m.table) (length x))) same.pending))

-- ---- free numbers

-- in the run of threads a free number isn't live
threads-free : GivingIsRenaming → (g : Graph) (args : List ℕ) (order : List Item) (limits : Limits) (n : ℕ) (m : Machine) → IsJob g args limits
    → ComesTo Giving (compiled g) args order limits n m → (f : ℕ) → Contains m.table.free f → is_live m.table f ≡ false
threads-free renaming g args order limits n m job comes f c = elim comes [
  | inl e ↦ after n m e c
  | inr (how, e) ↦
      let r = last-event (step_of Giving (compiled g) limits) n (thread_opening (compiled g) args order) how m e in
      let t = (step-leaves Giving (compiled g) limits r.1.0 how m r.1.1.1).table in
      ap (λ (x : FrameTable). is_live x f) t ∙ after r.0 r.1.0 r.1.1.0 (subst (λ (x : FrameTable). Contains x.free f) t c)
]
  where
    after : (x : ℕ) (b : Machine) → IsAfter Giving (compiled g) args order limits x b → Contains b.table.free f → is_live b.table f ≡ false
    after x b e d = ap is_some_frame ((renaming g args order limits x b job e).renamed.frames.free_only f d)

-- ---- where the two agree

module _ (p : Program) (args : List ℕ) (order : List Item) (limits : Limits)
    (agrees : (n : ℕ) → SamePoint (thread_after p args order limits n) (poll_after p args order limits n)) where
  -- what the whole run leaves is what the events within the budget and one more do
  left-at : host_left (image_of p) args order limits ≡ host_at (poll_behind (image_of p) args order limits (suc limits.budget))
  left-at =
      ap (λ (x : End × Host). x.1) (run-is (host_step (image_of p) limits) limits.budget (host_opening (image_of p) args order limits))
      ∙ go (image_after (image_of p) args order limits (suc limits.budget)) refl
    where
      go : (o : Outcome Host) → image_after (image_of p) args order limits (suc limits.budget) ≡ o → (end_of o).1 ≡ host_at (poll_of o)
      go (Next s) e = absurd (host-ends p args order limits agrees s e)
      go (Ended how s) e = refl

-- ---- the laws

module _ (tame : RunsAreTame) where
  -- whom the host names is live
  pub images-name : GivenBackIsUnnamed → ImagesNameLive
  images-name unnamed g args order limits n job =
      go (thread_after (compiled g) args order limits n) refl (poll_after (compiled g) args order limits n) (all-agree tame g args order limits job n)
    where
      go : (o : Outcome Machine) → thread_after (compiled g) args order limits n ≡ o → (r : Reached) → SamePoint o r → NamesLive (host_at r)
      go (Next m) e (At_poll s) a = names-live m s a.0 (unnamed g args order limits n m job (inl e)).live
      go (Next m) e (Stopped how s) a = absurd a
      go (Ended how m) e (At_poll s) a = absurd a
      go (Ended how m) e (Stopped end s) a = names-live m s a.1 (unnamed g args order limits n m job (inr (how, e))).live

  -- what is free isn't
  pub images-free : GivingIsRenaming → ImagesFreeNotLive
  images-free renaming g args order limits n job =
      go (thread_after (compiled g) args order limits n) refl (poll_after (compiled g) args order limits n) (all-agree tame g args order limits job n)
    where
      go : (o : Outcome Machine) → thread_after (compiled g) args order limits n ≡ o → (r : Reached) → SamePoint o r → FreeNotLive (host_at r)
      go (Next m) e (At_poll s) a = free-rests m s a.0 (threads-free renaming g args order limits n m job (inl e))
      go (Next m) e (Stopped how s) a = absurd a
      go (Ended how m) e (At_poll s) a = absurd a
      go (Ended how m) e (Stopped end s) a = free-rests m s a.1 (threads-free renaming g args order limits n m job (inr (how, e)))

  -- whom the host names is live also as the whole run leaves it
  pub images-leave : GivenBackIsUnnamed → ImagesLeaveLive
  images-leave unnamed g args order limits job =
      subst NamesLive (sym (left-at (compiled g) args order limits (all-agree tame g args order limits job)))
      (images-name unnamed g args order limits (suc limits.budget) job)

  -- where frames suffice in the run of the image they do in that of the threads
  threads-suffice : (g : Graph) (args : List ℕ) (order : List Item) (limits : Limits) → IsJob g args limits
      → ImageFramesSuffice (image_of (compiled g)) args order limits → FramesSuffice g args order limits
  threads-suffice g args order limits job h n m e w =
      go (poll_after (compiled g) args order limits n) refl
      (subst (λ (o : Outcome Machine). SamePoint o (poll_after (compiled g) args order limits n)) e (all-agree tame g args order limits job n))
    where
      go : (r : Reached) → poll_after (compiled g) args order limits n ≡ r → SamePoint (Next m) r → live_count m.table + 1 ≤ limits.frames
      go (Stopped how s) q a = absurd a
      go (At_poll s) q a = let l = h n s q (grants-same m s a.0 a.1 ∙ w) in let c = a.0.as_many in omega (arith, l, c)

  -- and where they do in that of the threads they do in the run of the image
  images-suffice : (g : Graph) (args : List ℕ) (order : List Item) (limits : Limits) → IsJob g args limits
      → FramesSuffice g args order limits → ImageFramesSuffice (image_of (compiled g)) args order limits
  images-suffice g args order limits job h n s q w =
      go (thread_after (compiled g) args order limits n) refl
      (subst (λ (r : Reached). SamePoint (thread_after (compiled g) args order limits n) r) q (all-agree tame g args order limits job n))
    where
      go : (o : Outcome Machine) → thread_after (compiled g) args order limits n ≡ o → SamePoint o (At_poll s) → length s.live + 1 ≤ limits.frames
      go (Ended how m) e a = absurd a
      go (Next m) e a = let l = h n m e (sym (grants-same m s a.0 a.1) ∙ w) in let c = a.0.as_many in omega (arith, l, c)

  -- so they do in both or in none
  pub suffice-alike : FramesSufficeAlike
  suffice-alike g args order limits job = (images-suffice g args order limits job, threads-suffice g args order limits job)

  -- then, with room for all else, the run is quiet
  pub images-quiet : RoomIsQuiet → ImageRoomIsQuiet
  images-quiet quiet g args order limits job room h =
      ap (λ (r : Report). r.how) (graph-reports tame g args order limits job)
      ∙ quiet g args order limits job room (threads-suffice g args order limits job h)
