-- The report of a run of threads is borne out, from the laws on each form of the run.
use Rattle.std.proofs.Common.{◌≡◌, ℕ, zero, suc, ◌+◌, ◌≤◌, List, length, Option, Some, None}
use Rattle.std.proofs.Common.{refl, ap, sym, ◌∙◌, subst, arith, inl, inr}
use Rattle.std.specs.Prelude.{count_by, map, sum}
use Rattle.std.proofs.lemmas.List.Sums.{count_by-le-length, sum-map}
use Rattle.tam_word.proofs.Members.{In, in-map, get-in}
use Rattle.tam_graph.specs.Graphs.{Graph}
use Rattle.tam_split.specs.GraphPartitions.{partitions}
use Rattle.tam_msgs.specs.declared.message.Message.{Message}
use Rattle.tam_msgs.specs.declared.message.Message.TheVariants.{Word as Carry, Frame as Begin, Cells as Make, Fetch as Ask_cell, Store as Put_cell}
use Rattle.tam_msgs.specs.declared.item.Item.{Item}
use Rattle.tam_msgs.specs.declared.limits.Limits.{Limits}
use Rattle.tam_msgs.specs.Messages.{outside}
use Rattle.tam_msgs.specs.Runs.{End, Frames_full, run_from}
use Rattle.tam_istr.specs.Cells.{Arrays, cells_used}
use Rattle.tam_world.specs.Worlds.{World}
use Rattle.tam_flow.specs.Journals.{state_after, on_their_way}
use Rattle.tam_flow.specs.BorneOut.{BearsOut, IsBorneOut, WantsActivation}
use Rattle.tam_flow.specs.RunJournals.{IsCharged}
use Rattle.tam_flow.proofs.RightJournals.{borne-right}
use Rattle.frame_tables.specs.FrameTables.{Frame, is_held}
use Rattle.tl0_code.specs.ThreadCode.{Program}
use Rattle.tl0_code.specs.Machines.{Machine, Giving, spend_of}
use Rattle.tl0_code.specs.ThreadRuns.{step_of, thread_opening, nothing_begun, with_frame, or_machine, thread_report, thread_told}
use Rattle.tl0_keep.specs.Compiled.{compiled}
use Rattle.tl0_keep.specs.Renamed.{renamed_cell, renamed_message}
use Rattle.tl0_keep.specs.ThreadNames.{thread_message, thread_arrays}
use Rattle.tl0_keep.specs.ThreadLaws.{IsJob, EndsWithin, PlainStatesAreJournals, PlainEndsAreJournals, OwingIsPlain, OwingEndsPlainly, NoSkipIsWild}
use Rattle.tl0_keep.specs.ThreadLaws.{GivingIsRenaming, EndsRenamed, IsRefused, GivingEndsSo, ThreadRunsAreBorneOut, ThreadRunsAreRight}
use Rattle.tl0_keep.proofs.runs.Told.{used-told}
use Rattle.tl0_keep.proofs.giving.Places.{in-contains}
use Rattle.tl0_keep.proofs.giving.CellsRenamed.{cells-renamed}
use Rattle.tl0_keep.proofs.giving.Counted.{events-within, run-after}
use Rattle.tl0_keep.proofs.giving.Texts.{results-same}
use Rattle.tl0_keep.proofs.giving.Refusals.{step-wished}

-- the laws on which the whole rests
pub record AreLaws : Type 0 where
  pub states : PlainStatesAreJournals
  pub ends : PlainEndsAreJournals
  pub owing : OwingIsPlain
  pub owing_ends : OwingEndsPlainly
  pub no_skip : NoSkipIsWild
  pub giving : GivingIsRenaming
  pub giving_ends : GivingEndsSo

-- ---- wishes

-- a message that is renamed to a wish is one
renamed-wish : (g : Graph) (k : Machine) (numbers : List ℕ) (y : Message) (c f i : ℕ) → renamed_message g k numbers y ≡ Begin c f i
    → (j : ℕ) × (y ≡ Begin c j i)
renamed-wish g k numbers (Carry j x w) c f i e = absurd cc
renamed-wish g k numbers (Begin d j x) c f i e = let p : d ≡ c = cc in let q : x ≡ i = cc in (j, rw (p, q) refl)
renamed-wish g k numbers (Make n j x) c f i e = absurd cc
renamed-wish g k numbers (Ask_cell a l j x s) c f i e = absurd cc
renamed-wish g k numbers (Put_cell a l w s) c f i e = absurd cc

-- and so is a message of a journal that threads send as one
journal-wish : (g : Graph) (w : World) (y : Message) (c f i : ℕ) → thread_message g w y ≡ Begin c f i → (x : ℕ) × (y ≡ Begin c f x)
journal-wish g w (Carry j x v) c f i e = absurd cc
journal-wish g w (Begin d j x) c f i e = let p : d ≡ c = cc in let q : j ≡ f = cc in (x, rw (p, q) refl)
journal-wish g w (Make n j x) c f i e = absurd cc
journal-wish g w (Ask_cell a l j x s) c f i e = absurd cc
journal-wish g w (Put_cell a l v s) c f i e = absurd cc

-- as many frames are live as there are at most
live-few : (hs : List (Option Frame)) → count_by is_held hs ≤ length hs
live-few hs = count_by-le-length is_held hs

-- ---- cells

-- as many cells where readers are renamed
renamed-used : (numbers : List ℕ) (arrays : Arrays) → cells_used (map (map (renamed_cell numbers)) arrays) ≡ cells_used arrays
renamed-used numbers arrays = sym (sum-map length (map (map (renamed_cell numbers)) arrays))
    ∙ (ap sum (cells-renamed numbers arrays) ∙ sum-map length arrays)

-- ---- the opening

spend-events : (k : Machine) (f t : ℕ) (c : Option ℕ) (before : Machine) → before.events ≡ k.events → (or_machine before (spend_of k f t c)).events ≡ k.events
spend-events k f t None before e = e
spend-events k f t (Some zero) before e = e
spend-events k f t (Some (suc n)) before e = refl

-- no event is made at first
pub opening-events : (p : Program) (args : List ℕ) (order : List Item) → (thread_opening p args order).events ≡ 0
opening-events p args order = spend-events (with_frame p (nothing_begun args order) p.main outside 0) 0 0 _ (nothing_begun args order) refl

module _ (laws : AreLaws) (g : Graph) (args : List ℕ) (order : List Item) (limits : Limits) (job : IsJob g args limits) where
  -- as many cells as the journal's
  same-used : (w : World) (m : Machine) (numbers : List ℕ) (other k : Machine) → thread_arrays g w w.arrays ≡ k.arrays → other.arrays ≡ k.arrays
      → m.arrays ≡ map (map (renamed_cell numbers)) other.arrays → cells_used w.arrays ≡ cells_used m.arrays
  same-used w m numbers other k told same renamed = sym (used-told g w w.arrays)
      ∙ (ap cells_used (told ∙ sym same) ∙ (sym (renamed-used numbers other.arrays) ∙ ap cells_used (sym renamed)))

  -- an end that isn't a refusal
  ends-renamed : (n : ℕ) (how : End) (m : Machine) → EndsRenamed g args order limits n how m
      → IsBorneOut g (partitions g) args limits (thread_report (compiled g) (how, m))
  ends-renamed n how m r =
      let plain = laws.owing_ends (compiled g) args order limits n how r.other (laws.no_skip g args order limits n how r.other job r.there) r.there in
      let j = laws.ends g args order limits n how plain.0 job plain.1 in
      let printed : m.printed ≡ plain.0.printed = r.renamed.printed ∙ ap (λ (y : Machine). y.printed) plain.2 in
      let events : m.events ≡ plain.0.events = r.renamed.events ∙ ap (λ (y : Machine). y.events) plain.2 in
      let begun : m.begun ≡ plain.0.begun = r.renamed.begun ∙ ap (λ (y : Machine). y.begun) plain.2 in
      let w = (state_after g (partitions g) args j.events).world in
      record {
        events = j.events;
        journal = j.journal;
        printed = j.printed ∙ sym printed;
        activations = j.activations ∙ sym begun;
        cells = same-used w m r.numbers r.other plain.0 j.arrays (ap (λ (y : Machine). y.arrays) plain.2) r.renamed.arrays;
        results = results-same g job.accepted;
        ends = subst (λ e. BearsOut g (partitions g) args limits j.events e how) (sym events) j.ends;
        charged = subst (IsCharged g (partitions g) (state_after g (partitions g) args j.events)) (sym events) j.charged;
      }

  -- a refusal
  ends-refused : (m : Machine) → IsRefused g args order limits m
      → IsBorneOut g (partitions g) args limits (thread_report (compiled g) (Frames_full limits.frames, m))
  ends-refused m f =
      let r = laws.giving g args order limits f.events f.before job f.there in
      let plain = laws.owing (compiled g) args order limits f.events r.other r.there in
      let j = laws.states g args order limits f.events plain.0 job plain.1 in
      let w = step-wished (compiled g) limits f.before m limits.frames f.now in
      let printed : m.printed ≡ plain.0.printed = w.printed ∙ (r.renamed.printed ∙ ap (λ (y : Machine). y.printed) plain.2) in
      let events : m.events ≡ plain.0.events + 1 = w.events ∙ ap (λ (n : ℕ). n + 1) (r.renamed.events ∙ ap (λ (y : Machine). y.events) plain.2) in
      let begun : f.before.begun ≡ plain.0.begun = r.renamed.begun ∙ ap (λ (y : Machine). y.begun) plain.2 in
      let same : r.other.pending ≡ plain.0.pending = ap (λ (y : Machine). y.pending) plain.2 in
      let a = in-map (renamed_message g r.other r.numbers) (Begin w.code w.who w.inlet) r.other.pending
      (subst (In (Begin w.code w.who w.inlet)) r.renamed.pending (get-in f.before.pending w.place (Begin w.code w.who w.inlet) w.there)) in
      let b = renamed-wish g r.other r.numbers a.0 w.code w.who w.inlet a.2 in
      let s = state_after g (partitions g) args j.events in
      let c = in-map (thread_message g s.world) a.0 (on_their_way s) (subst (In a.0) (same ∙ sym j.shares.pending) a.1) in
      let d = journal-wish g s.world c.0 w.code b.0 w.inlet (c.2 ∙ b.1) in
      let wants : WantsActivation s = (w.code, b.0, d.0, in-contains (on_their_way s) (Begin w.code b.0 d.0) (subst (λ y. In y (on_their_way s)) d.1 c.1)) in
      let live = live-few f.before.table.frames in
      let few = r.renamed.few in
      let all_live = f.all_live in
      let activations = j.shares.activations in
      record {
        events = j.events;
        journal = j.journal;
        printed = j.shares.printed ∙ sym printed;
        activations = activations ∙ sym (w.begun ∙ begun);
        cells = same-used s.world f.before r.numbers r.other plain.0 j.shares.arrays (ap (λ (y : Machine). y.arrays) plain.2) r.renamed.arrays
            ∙ ap cells_used (sym w.arrays);
        results = results-same g job.accepted;
        ends = (refl, omega arith, wants, j.shares.no_fault);
        charged = subst (IsCharged g (partitions g) s) (sym events) (j.charged_wish wants);
      }

  -- any end
  ends-borne : (n : ℕ) (how : End) (m : Machine) → EndsWithin Giving (compiled g) args order limits n how m
      → IsBorneOut g (partitions g) args limits (thread_report (compiled g) (how, m))
  ends-borne n how m e = elim (laws.giving_ends g args order limits n how m job e) [
    | inl r ↦ ends-renamed n how m r
    | inr r ↦ subst (λ x. IsBorneOut g (partitions g) args limits (thread_report (compiled g) (x, m))) (sym r.0) (ends-refused m r.1)
  ]

  -- so the whole run
  run-borne : IsBorneOut g (partitions g) args limits (thread_told (compiled g) args order limits)
  run-borne = go (run_from (step_of Giving (compiled g) limits) limits.budget (thread_opening (compiled g) args order)) refl
    where
      go : (r : End × Machine) → run_from (step_of Giving (compiled g) limits) limits.budget (thread_opening (compiled g) args order) ≡ r
          → IsBorneOut g (partitions g) args limits (thread_report (compiled g) r)
      go r e = elim (run-after (step_of Giving (compiled g) limits) limits.budget (thread_opening (compiled g) args order) r.0 r.1 e) [
        | inl a ↦ ends-borne (suc limits.budget) r.0 r.1 a
        | inr a ↦ absurd (
            let z = opening-events (compiled g) args order in
            let w = events-within Giving (compiled g) limits (suc limits.budget) (thread_opening (compiled g) args order) r.1 (omega arith) a in
            let p = w.0 in let q = w.1 in omega arith)
      ]

-- the report of each run of an accepted graph's code is borne out
pub runs-borne-out : AreLaws → ThreadRunsAreBorneOut
runs-borne-out laws g args order limits job = run-borne laws g args order limits job

-- and so it is right
pub runs-right : AreLaws → ThreadRunsAreRight
runs-right laws g args order limits job = borne-right g (partitions g) args limits (thread_told (compiled g) args order limits)
    (run-borne laws g args order limits job)
