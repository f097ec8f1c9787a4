-- One event where frames owe: it isn't wild by what is owed, and behind it each frame owes what it should, and no frame more than before.
use Rattle.std.proofs.Common.{◌≡◌, ℕ, ◌+◌, ◌%◌, ◌^◌, ◌<◌, ◌≤◌, Bool, true, false, ◌==◌, nat_lt, List, [], ◌∷◌, ◌++◌, Option, Some, None, slice_get, slice_index}
use Rattle.std.proofs.Common.{zero, suc, length, take, replicate, refl, sym, ap, subst, ◌∙◌, arith, inl, inr, ◌⊎◌}
use Rattle.std.proofs.lemmas.List.{length-append}
use Rattle.std.proofs.lemmas.Option.{none-some}
use Rattle.tam_word.specs.Lists.{any_of, put_at}
use Rattle.tam_word.proofs.PutAt.{put_at-here, put_at-cases}
use Rattle.tam_word.proofs.Members.{In, Distinct}
use Rattle.tam_graph.specs.Graphs.{Graph, code_of}
use Rattle.tam_split.specs.GraphPartitions.{Partitions}
use Rattle.tam_msgs.specs.declared.message.Message.{Message}
use Rattle.tam_msgs.specs.declared.message.Message.TheVariants.{Word as Carry, Frame as Begin, Cells as Make, Fetch as Ask_cell, Store as Put_cell}
use Rattle.tam_msgs.specs.declared.item.Item.{Item}
use Rattle.tam_msgs.specs.declared.limits.Limits.{Limits}
use Rattle.tam_msgs.specs.Messages.{outside, answers}
use Rattle.tam_msgs.specs.Runs.{WildCause, Wild_frame, Wild_thread, Wild_place, Wild_skip, Wild, Cells_full, Outcome, Next, Ended}
use Rattle.tam_istr.specs.Cells.{Access, Now, Deferred, Stored, Twice, NotBelow, NoArray, with_array, cells_used, fetched_from, stored_into}
use Rattle.frame_tables.specs.FrameTables.{Frame, FrameTable, or_frame, frame_at, is_live, new_frame, with_new, taken, next_number, next_number_of}
use Rattle.tl0_code.specs.declared.inlet.Inlet.{Inlet}
use Rattle.tl0_code.specs.declared.instr.Instr.TheVariants.{Fork}
use Rattle.tl0_code.specs.ThreadCode.{Program, Thread, code_text, counts_of, widest_slots, widest_threads}
use Rattle.tl0_code.specs.Machines.{Machine, Plain, Owing, Progress, Fine, Broken, code_at, put, with_message, spend, then_do, done_all}
use Rattle.tl0_code.specs.ThreadRuns.{text_at, as_outcome, printed_outside, word_into, with_frame, begin, accessed, delivered}
use Rattle.tl0_keep.specs.ThreadLaws.{table_without_owed}
use Rattle.tl0_keep.proofs.code.ThreadKinds.{number_of_thread, parts_for}
use Rattle.tl0_keep.proofs.runs.Frames.{same-or-other}
use Rattle.tl0_keep.proofs.giving.Places.{get-before, get-behind}
use Rattle.tl0_keep.proofs.giving.LiveFrames.{first-thread}
use Rattle.tl0_keep.proofs.owing.Tables.{frame_at-bare}
use Rattle.tl0_keep.proofs.owing.Threads.{unowed}
use Rattle.tl0_keep.proofs.owed.Skipped.{length-mapped}
use Rattle.tl0_keep.proofs.owed.Tables.{IsRun, Goes, TableGoes, MachineGoes, machine-same, machine-twice, put-goes, spend-goes, plain-broken}
use Rattle.tl0_keep.proofs.owed.Owes.{FrameOwes, IsCounted, AllOwe, owes-on, IsFair}

-- ---- what is known of a state doesn't rest on what is owed

-- with another table, in which frames count and are ready as before
pub fair-with : (g : Graph) (all : Partitions) (m : Machine) (u : FrameTable) (order : List Item) (events : ℕ) → length u.frames ≡ length m.table.frames
    → u.free ≡ m.table.free
    → ((i : ℕ) → (frame_at u i).counts ≡ (frame_at m.table i).counts) → ((i : ℕ) → (frame_at u i).ready ≡ (frame_at m.table i).ready) → IsFair g all m
    → IsFair g all (record m { table = u; order = order; events = events })
fair-with g all m u order events size free counts ready h = record {
  state = h.state;
  few = subst (λ n. n < 2 ^ 32) (sym size) h.few;
  codes = λ i l. h.codes i (on i l);
  free = free ∙ h.free;
  homes = λ i n l t z. h.homes i n (on i l) t
      (ap (λ (xs : List ℕ). slice_get xs (number_of_thread (code_of g (code_at m i)) (parts_for all (code_at m i)) n)) (sym (counts i)) ∙ z);
  up = λ i v d l. h.up i v d (on i l);
  one = λ i x p y z l. h.one i x p y z (on i l);
  ready = λ i t q. let r = h.ready i t (subst (λ (xs : List ℕ). In t xs) (ready i) q) in (ap (λ (xs : List ℕ). slice_get xs t) (counts i) ∙ r.0, r.1);
  once = λ i. subst (λ (xs : List ℕ). Distinct xs) (sym (ready i)) (h.once i);
  waits = λ f i o. let r = h.waits f i o in (
    subst (λ n. f < n) (sym size) r.0,
    (
      r.1.0,
      r.1.1,
      λ z. r.1.2 (ap (λ (xs : List ℕ). slice_get xs (number_of_thread (code_of g (code_at m f)) (parts_for all (code_at m f)) r.1.0))
          (sym (counts f)) ∙ z),
      r.1.3,
    ),
  );
}
  where
    on : (i : ℕ) → i < length u.frames → i < length m.table.frames
    on i l = subst (λ n. i < n) size l

-- where nothing is owed
pub fair-unowed : (g : Graph) (all : Partitions) (m : Machine) → IsFair g all m → IsFair g all (unowed m)
fair-unowed g all m h = fair-with g all m (table_without_owed m.table) m.order m.events (length-mapped _ m.table.frames) refl
    (λ i. ap (λ (x : Frame). x.counts) (frame_at-bare m.table i)) (λ i. ap (λ (x : Frame). x.ready) (frame_at-bare m.table i)) h

-- and back
pub fair-owed : (g : Graph) (all : Partitions) (m : Machine) → IsFair g all (unowed m) → IsFair g all m
fair-owed g all m h = fair-with g all (unowed m) m.table m.order m.events (sym (length-mapped _ m.table.frames)) refl
    (λ i. sym (ap (λ (x : Frame). x.counts) (frame_at-bare m.table i))) (λ i. sym (ap (λ (x : Frame). x.ready) (frame_at-bare m.table i))) h

-- ---- what an event leaves

-- behind it each frame owes what it should, and none more; it isn't wild by a skip
abbrev pub StepOwes : Graph → Partitions → Program → Machine → Outcome Machine → Type 0
StepOwes g all p k (Next m) = AllOwe g all p m × ((i : ℕ) → i < length k.table.frames → (i < length m.table.frames)
    × ((frame_at m.table i).owed ≤ (frame_at k.table i).owed))
StepOwes g all p k (Ended how m) = (x : ℕ) → how ≡ Wild Wild_skip x → ⊥

-- equal wild ends have equal causes
pub wild-eq : {a b : WildCause} {n k : ℕ} → Wild a n ≡ Wild b k → a ≡ b
wild-eq e = cc

thread-skip : Wild_thread ≡ Wild_skip → ⊥
thread-skip e = cc

-- what is taken of a list stands there
get-take : (w : ℕ) (xs : List ℕ) (t v : ℕ) → slice_get (take w xs) t ≡ Some v → slice_get xs t ≡ Some v
get-take zero xs t v e = absurd (none-some v e)
get-take (suc w) [] t v e = absurd (none-some v e)
get-take (suc w) (x ∷ xs) zero v e = e
get-take (suc w) (x ∷ xs) (suc t) v e = get-take w xs t v e

-- a frame that begins
new-cases : (s : FrameTable) (h : Frame) (i : ℕ) → i < length (s.frames ++ Some h ∷ []) → (i < length s.frames) ⊎ (i ≡ length s.frames)
new-cases s h i l = elim (same-or-other i (length s.frames)) [
  | inl e ↦ inr e
  | inr d ↦ inl (let a = length-append s.frames (Some h ∷ []) in apart i (length s.frames) d (omega (arith, a, l)))
]
  where
    apart : (i n : ℕ) → (i ≡ n → ⊥) → i < n + 1 → i < n
    apart i n d l = grind (arith, d, l)

module _ (g : Graph) (all : Partitions) (p : Program) (k : Machine) (owes : AllOwe g all p k) where
  -- frames that go on
  goes-owe : (m : Machine) → MachineGoes k m → StepOwes g all p k (Next m)
  goes-owe m h = (
    λ i l. subst (λ (cs : List ℕ). FrameOwes g all p (slice_index cs i) m.table i) (sym h.codes)
        (owes-on g all p (code_at k i) k.table m.table i (h.table.goes i) (owes i (subst (λ n. i < n) h.table.frames l))),
    λ i l. (subst (λ n. i < n) (sym h.table.frames) l, let e = (h.table.goes i).owed in omega (arith, e)),
  )

  -- the outcome of what is spent
  spend-owe : (m before : Machine) (f t : ℕ) → MachineGoes k m → StepOwes g all p k (as_outcome (spend m f t) before)
  spend-owe m before f t h = go (spend m f t) refl
    where
      go : (r : Progress) → spend m f t ≡ r → StepOwes g all p k (as_outcome r before)
      go (Fine n) e = goes-owe n (machine-twice k m n h (spend-goes m n f t e))
      go (Broken what x) e = λ y q. thread-skip
          (sym (plain-broken m f (Fork t ∷ []) what x (ap (λ (r : Progress). then_do r (λ n. done_all Plain n f [])) e)) ∙ wild-eq q)

  -- the same frames
  beside : (m : Machine) → m.table ≡ k.table → m.codes ≡ k.codes → MachineGoes k m
  beside m e c = record { table = subst (λ (u : FrameTable). TableGoes k.table u) (sym e) (machine-same k).table; codes = c }

  module _ (m : Machine) (e : m.table ≡ k.table) (c : m.codes ≡ k.codes) (limits : Limits) where
    -- an access
    access-owes : (s a i : ℕ) (reader : ℕ × ℕ) (w : ℕ) (x : Access) → StepOwes g all p k (accessed m s a i reader w x)
    access-owes s a i reader w (Now u) = goes-owe (with_message m (Carry reader.0 reader.1 u)) (beside (with_message m (Carry reader.0 reader.1 u)) e c)
    access-owes s a i reader w (Deferred arrays) = goes-owe (record m { arrays = arrays }) (beside (record m { arrays = arrays }) e c)
    access-owes s a i reader w (Stored arrays readers) =
        goes-owe (record m { arrays = arrays; pending = m.pending ++ answers w readers })
        (beside (record m { arrays = arrays; pending = m.pending ++ answers w readers }) e c)
    access-owes s a i reader w (Twice first) = λ x q. absurd cc
    access-owes s a i reader w (NotBelow n) = λ x q. absurd cc
    access-owes s a i reader w NoArray = λ x q. absurd cc

    -- a word
    word-owes : (f i w : ℕ) → StepOwes g all p k (delivered Owing p limits m (Carry f i w))
    word-owes f i w = go (f == outside)
      where
        printed : (t u : Bool) → StepOwes g all p k (elim t [
          | false ↦ Ended (Wild Wild_place i) m
          | true ↦ elim u [ true ↦ Ended (Wild Wild_place i) m | false ↦ Next (record m { printed = m.printed ++ (i, w) ∷ [] }) ]
        ])
        printed false u = λ x q. absurd cc
        printed true true = λ x q. absurd cc
        printed true false = goes-owe (record m { printed = m.printed ++ (i, w) ∷ [] }) (beside (record m { printed = m.printed ++ (i, w) ∷ [] }) e c)

        into : (o : Option Inlet) → StepOwes g all p k (word_into m f i w o)
        into None = λ x q. absurd cc
        into (Some inlet) = spend-owe (put m f inlet.slot w) m f inlet.thread (machine-twice k m (put m f inlet.slot w) (beside m e c)
            (put-goes m f inlet.slot w))

        live : (t : Bool) → StepOwes g all p k (elim t [ true ↦ word_into m f i w (slice_get (text_at p m f).inlets i) | false ↦ Ended (Wild Wild_frame f) m ])
        live true = into (slice_get (text_at p m f).inlets i)
        live false = λ x q. absurd cc

        go : (t : Bool) → StepOwes g all p k (elim t [
          | true ↦ printed_outside p m i w
          | false ↦ elim (is_live m.table f) [ true ↦ word_into m f i w (slice_get (text_at p m f).inlets i) | false ↦ Ended (Wild Wild_frame f) m ]
        ])
        go true = printed (nat_lt i (code_text p p.main).results) (any_of (λ kw. kw.0 == i) m.printed)
        go false = live (is_live m.table f)

    -- cells
    cells-owe : (n f i : ℕ) → StepOwes g all p k (delivered Owing p limits m (Make n f i))
    cells-owe n f i = go (nat_lt limits.cells (cells_used m.arrays + n))
      where
        go : (t : Bool) → StepOwes g all p k (elim t [
          | true ↦ Ended (Cells_full (cells_used m.arrays) n) m
          | false ↦ Next (with_message (record m { arrays = with_array m.arrays n }) (Carry f i (length m.arrays)))
        ])
        go true = λ x q. absurd cc
        go false = goes-owe (with_message (record m { arrays = with_array m.arrays n }) (Carry f i (length m.arrays)))
            (beside (with_message (record m { arrays = with_array m.arrays n }) (Carry f i (length m.arrays))) e c)

    -- ---- a frame begins

    module _ (free : m.table.free ≡ []) (code f i : ℕ) where
      -- its frame
      abbrev fresh : Frame
      fresh = new_frame (widest_slots p) (widest_threads p) (counts_of (code_text p code))

      -- its number
      number-is : next_number m.table ≡ length m.table.frames
      number-is = ap (λ (xs : List ℕ). next_number_of xs (length m.table.frames)) free

      -- the table with it
      abbrev longer : FrameTable
      longer = record m.table { frames = m.table.frames ++ Some fresh ∷ [] }

      longer-is : taken m.table (widest_slots p) (widest_threads p) (counts_of (code_text p code)) ≡ longer
      longer-is = ap (λ (xs : List ℕ). with_new m.table xs fresh) free

      -- the state with it
      abbrev pub with_fresh : Machine
      with_fresh = record m {
        table = taken m.table (widest_slots p) (widest_threads p) (counts_of (code_text p code));
        codes = put_at 0 (next_number m.table) code m.codes;
        begun = m.begun + 1;
      }

      -- with its first two slots
      abbrev framed : Machine
      framed = with_frame p m code f ((i + 1) % 2 ^ 32)

      framed-goes : MachineGoes with_fresh framed
      framed-goes =
          let a = put with_fresh (next_number m.table) 0 f in
          machine-twice with_fresh a framed (put-goes with_fresh (next_number m.table) 0 f) (put-goes a (next_number m.table) 1 ((i + 1) % 2 ^ 32))

      -- it owes all its threads
      new-owes : IsCounted g all p → 0 < length (code_text p code).threads → (j : ℕ) → j ≡ length m.table.frames → (u : FrameTable)
          → Goes (frame_at longer j) (frame_at u j) → FrameOwes g all p code u j
      new-owes counted some j at u go = record {
        gone = [];
        once = tt;
        low = λ t x. absurd x;
        why = λ t x. absurd x;
        whole = λ t l h. absurd (elim h [
          | inl q ↦ none-ran t l q
          | inr d ↦ none-ran (number_of_thread (code_of g code) (parts_for all code) d.chooser) (counted.low code d.chooser some d.chooser_thread) d.ran
        ]);
        sum =
            let e = go.owed in
            let s = ap (λ (h : Frame). h.owed) is-fresh in
            let l = length-mapped (λ (t : Thread). t.count) (code_text p code).threads in
            omega (arith, e, s, l);
      }
        where
          is-fresh : frame_at longer j ≡ fresh
          is-fresh = ap (λ (n : ℕ). or_frame (slice_get (m.table.frames ++ Some fresh ∷ []) n)) at
              ∙ ap or_frame (get-behind m.table.frames (Some fresh))

          -- none has run
          none-ran : (t : ℕ) → t < length (code_text p code).threads → IsRun u j t → ⊥
          none-ran t l q =
              let z = (go.back t q.zero_left q.not_ready).0 in
              let n = length-mapped (λ (t : Thread). t.count) (code_text p code).threads in
              counted.some code t (sym (get-before (counts_of (code_text p code)) (replicate (widest_threads p) 0) t (omega (arith, n, l)))
              ∙ get-take (widest_threads p) (counts_of (code_text p code) ++ replicate (widest_threads p) 0) t 0
              (sym (ap (λ (h : Frame). slice_get h.counts t) is-fresh) ∙ z))

      code-there : slice_index (put_at 0 (next_number m.table) code m.codes) (next_number m.table) ≡ code
      code-there = put_at-here 0 (next_number m.table) code m.codes

      code-other : (j : ℕ) → (next_number m.table ≡ j → ⊥) → slice_index (put_at 0 (next_number m.table) code m.codes) j ≡ slice_index m.codes j
      code-other j d = elim (put_at-cases 0 (next_number m.table) code m.codes j) [ inl q ↦ absurd (d q) | inr h ↦ h.1 ]

      -- the others are as they were
      old-frame : (j : ℕ) → j < length m.table.frames → frame_at longer j ≡ frame_at k.table j
      old-frame j l = ap or_frame (get-before m.table.frames (Some fresh ∷ []) j l) ∙ ap (λ (u : FrameTable). frame_at u j) e

      -- behind it
      pub begun-owes : IsCounted g all p → 0 < length (code_text p code).threads → (n : Machine) → MachineGoes with_fresh n → StepOwes g all p k (Next n)
      begun-owes counted some n h = (
        λ j l. elim (new-cases m.table fresh j (subst (λ x. j < x) size l)) [
          | inl q ↦ subst (λ (x : ℕ). FrameOwes g all p x n.table j)
              (sym (ap (λ (cs : List ℕ). slice_index cs j) h.codes ∙ (code-other j (λ z. not-below j (length m.table.frames) q (sym z ∙ number-is))
              ∙ ap (λ (cs : List ℕ). slice_index cs j) c)))
              (owes-on g all p (code_at k j) k.table n.table j (old-goes j q) (owes j (subst (λ x. j < x) (ap (λ (u : FrameTable). length u.frames) e) q)))
          | inr q ↦ subst (λ (x : ℕ). FrameOwes g all p x n.table j)
              (sym (ap (λ (cs : List ℕ). slice_index cs j) h.codes
              ∙ (ap (slice_index (put_at 0 (next_number m.table) code m.codes)) (q ∙ sym number-is) ∙ code-there)))
              (new-owes counted some j q n.table (goes j))
        ],
        λ j l. (let q = subst (λ x. j < x) (ap (λ (u : FrameTable). length u.frames) (sym e)) l in (
          subst (λ x. j < x) (sym size) (let a = length-append m.table.frames (Some fresh ∷ []) in omega (arith, a, q)),
          let z = (old-goes j q).owed in omega (arith, z),
        )),
      )
        where
          not-below : (j x : ℕ) → j < x → j ≡ x → ⊥
          not-below j x l q = omega (arith, l, q)

          size : length n.table.frames ≡ length (m.table.frames ++ Some fresh ∷ [])
          size = h.table.frames ∙ ap (λ (u : FrameTable). length u.frames) longer-is

          goes : (j : ℕ) → Goes (frame_at longer j) (frame_at n.table j)
          goes j = subst (λ (u : FrameTable). Goes (frame_at u j) (frame_at n.table j)) longer-is (h.table.goes j)

          old-goes : (j : ℕ) → j < length m.table.frames → Goes (frame_at k.table j) (frame_at n.table j)
          old-goes j q = subst (λ (x : Frame). Goes x (frame_at n.table j)) (old-frame j q) (goes j)

      -- the whole
      begin-owes : IsCounted g all p → StepOwes g all p k (delivered Owing p limits m (Begin code f i))
      begin-owes counted = go (begin p m code f ((i + 1) % 2 ^ 32)) refl
        where
          go : (r : Progress) → begin p m code f ((i + 1) % 2 ^ 32) ≡ r
              → StepOwes g all p k (as_outcome (then_do r (λ n. Fine (with_message n (Carry f i (next_number m.table))))) m)
          go (Fine n) q = begun-owes counted some (with_message n (Carry f i (next_number m.table)))
              (let h = machine-twice with_fresh framed n framed-goes (spend-goes framed n (next_number m.table) 0 q) in
              record { table = h.table; codes = h.codes })
            where
              some : 0 < length (code_text p code).threads
              some =
                  let a = first-thread p m code f ((i + 1) % 2 ^ 32) n free q in
                  let b = length-mapped (λ (t : Thread). t.count) (code_text p code).threads in
                  omega (arith, a, b)
          go (Broken what x) q = λ y z. thread-skip (sym (plain-broken framed (next_number m.table) (Fork 0 ∷ []) what x
              (ap (λ (r : Progress). then_do r (λ n. done_all Plain n (next_number m.table) [])) q)) ∙ wild-eq z)

    -- any message
    pub message-owes : IsCounted g all p → m.table.free ≡ [] → (x : Message) → StepOwes g all p k (delivered Owing p limits m x)
    message-owes counted free (Carry f i w) = word-owes f i w
    message-owes counted free (Begin code f i) = begin-owes free code f i counted
    message-owes counted free (Make n f i) = cells-owe n f i
    message-owes counted free (Ask_cell a i f x s) = access-owes s a i (f, x) 0 (fetched_from m.arrays a i (f, x))
    message-owes counted free (Put_cell a i w s) = access-owes s a i (0, 0) w (stored_into m.arrays a i w s)
