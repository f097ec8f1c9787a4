-- Each frame owes exactly those of its threads that have neither run nor been skipped, in each state and in what an end leaves.
use Rattle.std.proofs.Common.{◌≡◌, ℕ, ◌<◌, List, [], length, Some, slice_get, slice_index, refl, sym, ap, subst, ◌∙◌, inl, inr, ◌⊎◌, arith}
use Rattle.tam_graph.specs.Graphs.{Graph, code_of}
use Rattle.tam_split.specs.GraphPartitions.{partitions}
use Rattle.tam_msgs.specs.declared.item.Item.{Item}
use Rattle.tam_msgs.specs.declared.limits.Limits.{Limits}
use Rattle.frame_tables.specs.FrameTables.{Frame, FrameTable, or_frame, frame_at}
use Rattle.tl0_code.specs.ThreadCode.{Program, plain}
use Rattle.tl0_code.specs.Machines.{Machine, Plain, Owing, Giving, code_at}
use Rattle.tl0_code.specs.ThreadRuns.{step_of, thread_opening}
use Rattle.tl0_keep.specs.Compiled.{compiled, compiled_with}
use Rattle.tl0_keep.specs.ThreadLaws.{SameButOwed, without_owed, IsJob, IsAfter}
use Rattle.tl0_keep.specs.OwedThreads.{OwesTheRest, OwesExactly, LiveOweExactly, LiveHaveMore, AllHaveRun, journal_state, OwesNoMore}
use Rattle.tl0_keep.proofs.code.Facts.{code-facts}
use Rattle.tl0_keep.proofs.code.RisingClasses.{partitions-parts}
use Rattle.tl0_keep.proofs.runs.PlainRuns.{compiled-is, own-goes, RunGoes}
use Rattle.tl0_keep.proofs.giving.EndsLeave.{step-leaves, last-event}
use Rattle.tl0_keep.proofs.giving.All.{renaming}
use Rattle.tl0_keep.proofs.owed.Fair.{plain-fair}
use Rattle.tl0_keep.proofs.owed.Runs.{states-owe, state-fair}
use Rattle.tl0_keep.proofs.owed.Exactly.{owes-told, none-owed, rest-as, rest-left}
use Rattle.tl0_keep.proofs.owed.AllRan.{thread-cases}
use Rattle.tl0_keep.proofs.owed.Owes.{IsDead}
use Rattle.tl0_keep.proofs.owed.Tables.{IsRun}
use Rattle.tl0_keep.proofs.owed.Stopping.{plain-many}
use Rattle.tl0_keep.proofs.owed.Skipped.{length-mapped}
use Rattle.tl0_keep.proofs.owing.Runs.{owing-is-plain}
use Rattle.tl0_keep.proofs.owing.Tables.{frame_at-bare}
use Rattle.tl0_keep.proofs.runs.Journey.{Here}
use Rattle.tl0_keep.proofs.runs.Delivering.{code-same}
use Rattle.tl0_keep.proofs.runs.ValidParts.{partitions-valid}
use Rattle.tl0_keep.proofs.code.ThreadKinds.{ThreadKind, IsThread, number_of_thread, parts_for}
use Rattle.tl0_keep.specs.ThreadJournals.{journal_of}
use Rattle.tam_word.proofs.Members.{In}
use Rattle.tam_flow.specs.Journals.{Event, state_after}
use Rattle.tam_flow.specs.Reached.{IsThere}
use Rattle.tam_world.specs.Worlds.{activation_at}
use Rattle.tl0_keep.proofs.whole.Laws.{plain-runs-keep, kept}
use Rattle.tl0_keep.proofs.whole.Live.{live-frames-owe}

module _ (g : Graph) (args : List ℕ) (order : List Item) (limits : Limits) (job : IsJob g args limits) where
  -- in each state in which none was given back
  after-owing : (n : ℕ) (k : Machine) → IsAfter Owing (compiled g) args order limits n k → (f : ℕ) → f < length k.table.frames
      → OwesTheRest g (code_at k f) k.table f
  after-owing n k e f l =
      let there = subst (λ (p : Program). IsAfter Owing p args order limits n k) (compiled-is g) e in
      let parts = partitions-parts g job.accepted in
      let facts = code-facts g job.accepted in
      let states = plain-fair plain-runs-keep g args order limits job in
      let fair = state-fair g job.accepted (partitions g) parts facts args order limits states n k there in
      owes-told g job.accepted (code_at k f) (fair.codes f l) k.table f
      (states-owe g job.accepted (partitions g) parts facts args order limits states n k there f l)

  -- and of each live frame where frames are given back
  after-giving : (n : ℕ) (m : Machine) → IsAfter Giving (compiled g) args order limits n m → (f : ℕ) (h : Frame)
      → slice_get m.table.frames f ≡ Some (Some h) → OwesTheRest g (code_at m f) m.table f
  after-giving n m e f h at =
      let r = renaming kept g args order limits n m job e in
      let j = r.renamed.frames.only_live f h at in
      let live = r.renamed.frames.live j.0 j.1 in
      let same : frame_at m.table f ≡ or_frame (slice_get m.table.frames (slice_index r.numbers j.0)) =
      ap (frame_at m.table) (sym j.2) in
      let code : code_at m f ≡ code_at r.other j.0 = ap (code_at m) (sym j.2) ∙ r.renamed.frames.code j.0 j.1 in
      subst (λ x. OwesTheRest g x m.table f) (sym code)
      (rest-as g (code_at r.other j.0) r.other.table m.table j.0 f
      (ap (λ (x : Frame). x.counts) same ∙ ap (λ x. (or_frame x).counts) live)
      (ap (λ (x : Frame). x.ready) same ∙ ap (λ x. (or_frame x).ready) live)
      (ap (λ (x : Frame). x.owed) same ∙ ap (λ x. (or_frame x).owed) live)
      (after-owing n r.other r.there j.0 j.1.begun))

-- where none is given back
pub owes-exactly : OwesExactly
owes-exactly g args order limits n m job (inl e) f l = after-owing g args order limits job n m e f l
owes-exactly g args order limits n m job (inr (how, e)) f l =
    let r = last-event (step_of Owing (compiled g) limits) n (thread_opening (compiled g) args order) how m e in
    let left = step-leaves Owing (compiled g) limits r.1.0 how m r.1.1.1 in
    subst (λ (s : FrameTable). OwesTheRest g (code_at m f) s f) (sym left.table)
    (subst (λ (cs : List ℕ). OwesTheRest g (slice_index cs f) r.1.0.table f) (sym left.codes)
    (after-owing g args order limits job r.0 r.1.0 r.1.1.0 f (subst (λ (s : FrameTable). f < length s.frames) left.table l)))

-- and of live frames where frames are given back
pub live-owe-exactly : LiveOweExactly
live-owe-exactly g args order limits n m job (inl e) f h at = after-giving g args order limits job n m e f h at
live-owe-exactly g args order limits n m job (inr (how, e)) f h at =
    let r = last-event (step_of Giving (compiled g) limits) n (thread_opening (compiled g) args order) how m e in
    let left = step-leaves Giving (compiled g) limits r.1.0 how m r.1.1.1 in
    subst (λ (s : FrameTable). OwesTheRest g (code_at m f) s f) (sym left.table)
    (subst (λ (cs : List ℕ). OwesTheRest g (slice_index cs f) r.1.0.table f) (sym left.codes)
    (after-giving g args order limits job r.0 r.1.0 r.1.1.0 f h (ap (λ (s : FrameTable). slice_get s.frames f) (sym left.table) ∙ at)))

-- so each live frame has a thread that is left
pub live-have-more : LiveHaveMore
live-have-more g args order limits n m job comes f h at =
    rest-left g (code_at m f) m.table f (live-owe-exactly g args order limits n m job comes f h at)
    (subst (λ (x : Frame). 0 < x.owed) (sym (ap or_frame at)) (live-frames-owe (compiled g) args order limits n m comes f h at))

-- ---- by the classes that have run

module _ (g : Graph) (args : List ℕ) (order : List Item) (limits : Limits) (n : ℕ) (m : Machine) (job : IsJob g args limits)
    (after : IsAfter Owing (compiled g) args order limits n m) (j : ℕ) (begun : j < m.begun) (rests : (frame_at m.table j).ready ≡ [])
    (ran : AllHaveRun g (journal_state g args order limits n) j) where
  -- the plain run's state
  abbrev Plainly : Type 0
  Plainly = (k : Machine) × IsAfter Plain (plain (compiled g)) args order limits n k × SameButOwed m k

  plainly : Plainly
  plainly = owing-is-plain (compiled g) args order limits n m after

  -- and what is kept beside its journal
  abbrev Kept : Type 0
  Kept = (h : Here g (partitions g) args limits plainly.0)
      × (h.events ≡ journal_of n g (partitions g) (plain (compiled g)) args order limits)

  here : Kept
  here = subst (RunGoes g (partitions g) args limits [] (journal_of n g (partitions g) (plain (compiled g)) args order limits)) plainly.1
      (own-goes g args order limits n job)

  -- its frame counts and is ready as this one
  same-frame : (frame_at plainly.0.table j).counts ≡ (frame_at m.table j).counts
  same-frame = ap (λ (h : Frame). h.counts) (sym (frame_at-bare plainly.0.table j))
      ∙ (ap (λ (y : Machine). (frame_at y.table j).counts) (sym plainly.2) ∙ ap (λ (h : Frame). h.counts) (frame_at-bare m.table j))

  same-code : code_at plainly.0 j ≡ code_at m j
  same-code = ap (λ (y : Machine). slice_index y.codes j) (sym plainly.2)

  there : IsThere (state_after g (partitions g) args here.0.events).world j
  there =
      let a = ap (λ (y : Machine). y.begun) plainly.2 in
      let b = here.0.rests.keeps.frames.begun in
      omega (arith, a, b, begun)

  -- its code there
  abbrev x : ℕ
  x = (activation_at (state_after g (partitions g) args here.0.events).world j).code

  -- is its code here
  code-is : (activation_at (state_after g (partitions g) args here.0.events).world j).code ≡ code_at m j
  code-is = sym (code-same g (partitions g) plainly.0 (state_after g (partitions g) args here.0.events) here.0.others [] here.0.rests.keeps j there) ∙ same-code

  -- all have run in that state
  all-ran : AllHaveRun g (state_after g (partitions g) args here.0.events) j
  all-ran = subst (λ (es : List Event). AllHaveRun g (state_after g (partitions g) args es) j) (sym here.1) ran

  -- so each of its threads has run, or runs for a block that wasn't chosen
  each : (n : ThreadKind) → IsThread (code_of g (code_at m j)) (parts_for (partitions g) (code_at m j)) n
      → IsRun m.table j (number_of_thread (code_of g (code_at m j)) (parts_for (partitions g) (code_at m j)) n)
      ⊎ IsDead g (partitions g) (code_at m j) m.table j (number_of_thread (code_of g (code_at m j)) (parts_for (partitions g) (code_at m j)) n)
  each = subst (λ (x : ℕ). (n : ThreadKind) → IsThread (code_of g x) (parts_for (partitions g) x) n
      → IsRun m.table j (number_of_thread (code_of g x) (parts_for (partitions g) x) n)
      ⊎ IsDead g (partitions g) x m.table j (number_of_thread (code_of g x) (parts_for (partitions g) x) n)) code-is by
    where
      run : (t : ℕ) → slice_get (frame_at plainly.0.table j).counts t ≡ Some 0 → IsRun m.table j t
      run t z = record {
        zero_left = ap (λ (xs : List ℕ). slice_get xs t) (sym same-frame) ∙ z;
        not_ready = λ i. subst (λ (xs : List ℕ). In t xs) rests i;
      }

      by : (n : ThreadKind) → IsThread (code_of g x) (parts_for (partitions g) x) n
          → IsRun m.table j (number_of_thread (code_of g x) (parts_for (partitions g) x) n)
          ⊎ IsDead g (partitions g) x m.table j (number_of_thread (code_of g x) (parts_for (partitions g) x) n)
      by n h = elim (thread-cases g job.accepted args job.arguments limits job.ranges (partitions-valid g job.accepted) plainly.0 here.0 j there all-ran n h) [
        | inl z ↦ inl (run (number_of_thread (code_of g x) (parts_for (partitions g) x) n) z)
        | inr d ↦ inr (record {
          kind = n;
          thread = h;
          number = refl;
          chooser = d.chooser;
          chooser_thread = d.thread;
          block = d.passed;
          unchosen = d.unchosen;
          ran = run (number_of_thread (code_of g x) (parts_for (partitions g) x) d.chooser) d.zero_left;
          beneath = d.beneath;
        })
      ]

  -- it owes nothing
  owed-none : (frame_at m.table j).owed ≡ 0
  owed-none =
      let p = subst (λ (p : Program). IsAfter Owing p args order limits n m) (compiled-is g) after in
      let parts = partitions-parts g job.accepted in
      let facts = code-facts g job.accepted in
      let states = plain-fair plain-runs-keep g args order limits job in
      let fair = state-fair g job.accepted (partitions g) parts facts args order limits states n m p in
      let within : j < length m.table.frames = is-within in
      let text = facts.texts (code_at m j) (fair.codes j within) in
      let many = plain-many (compiled_with g (partitions g)) (code_at m j) in
      none-owed g (partitions g) (compiled_with g (partitions g)) (code_at m j) m.table j
      (states-owe g job.accepted (partitions g) parts facts args order limits states n m p j within)
      (λ t l. let o = text.number_onto t (subst (λ x. t < x) (sym many) l) in
      subst (λ x. IsRun m.table j x ⊎ IsDead g (partitions g) (code_at m j) m.table j x) o.2 (each o.0 o.1))
    where
      is-within : j < length m.table.frames
      is-within =
          let a = ap (λ (y : Machine). length y.table.frames) plainly.2 in
          let b = length-mapped without_owed m.table.frames in
          let c = length-mapped without_owed plainly.0.table.frames in
          let d = here.0.rests.keeps.frames.frames in
          let e = there in
          omega (arith, a, b, c, d, e)

-- an activation of which all classes of entered blocks have run, and of which no thread is ready
pub owes-no-more : OwesNoMore
owes-no-more g args order limits n m job after j begun rests ran = owed-none g args order limits n m job after j begun rests ran
