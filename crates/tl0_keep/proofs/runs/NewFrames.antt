-- An activation begins: a frame is taken for it, and the ticket of its thread 0 is due.
use Rattle.std.proofs.Common.{◌≡◌, ℕ, zero, suc, ◌+◌, ◌<◌, ◌≤◌, true, false, List, [], ◌∷◌, ◌++◌, map, Some, None, slice_get, slice_index, length, take}
use Rattle.std.proofs.Common.{refl, sym, ap, subst, ◌∙◌, inl, inr, ◌⊎◌, arith, true≢false}
use Rattle.std.proofs.lemmas.Option.{slice_get_past}
use Rattle.std.proofs.lemmas.List.{length-append, length-map, map-append, length-replicate}
use Rattle.tam_word.specs.Lists.{put_at}
use Rattle.tam_word.proofs.Members.{In, Distinct}
use Rattle.tam_graph.specs.declared.kind.Kind.{Kind}
use Rattle.tam_graph.specs.declared.kind.Kind.TheVariants.{Param, Const, Op as Operate, Seq, Call, Arg, Ret, Give, Alloc, Fetch, Store, Cond}
use Rattle.tam_graph.specs.declared.kind.Kind.TheVariants.{Switch as Choose, Merge}
use Rattle.tam_graph.specs.declared.kind.Kind.TheVariants.{Enter, Leave}
use Rattle.tam_graph.specs.Graphs.{Graph, code_of, kind_at, is_inlet, has_value}
use Rattle.tam_split.specs.GraphPartitions.{Partitions}
use Rattle.tam_world.specs.Worlds.{ActivationState, or_activation, activation_at, its_code, has_word, has_entered, begun}
use Rattle.tam_flow.specs.Journals.{State, has_run}
use Rattle.tam_flow.specs.Reached.{IsThere, Has}
use Rattle.tam_flow.proofs.ActivationLists.{has_among, was_entered, word-there, word_among}
use Rattle.tam_flow.proofs.Moves.{length-push}
use Rattle.frame_tables.specs.FrameTables.{Frame, FrameTable, frame_at, or_frame, with_slot, slot_in, new_frame}
use Rattle.tl0_code.specs.Machines.{Machine, slot}
use Rattle.tl0_code.specs.ThreadCode.{code_text, plain, counts_of, widest_slots, widest_threads}
use Rattle.tl0_keep.specs.Compiled.{slot_of, compiled_with, inlet_of}
use Rattle.tl0_keep.proofs.giving.Places.{changed-length, get-behind}
use Rattle.tl0_keep.proofs.code.ThreadKinds.{ThreadKind, Entry, Class, Then_of, Else_of, Source, Word_of, Behind, Opened, Begun, number_of_thread}
use Rattle.tl0_keep.proofs.code.ThreadKinds.{IsThread, sources_of, parts_for}
use Rattle.tl0_keep.proofs.code.ThreadKinds.{inlet_thread}
use Rattle.tl0_keep.proofs.runs.Keeps.{IsRested, Owed, ticket, parts_in, HasRun, PostedAt, ChoseThen, ChoseElse, ReasonAt, Posted, Given, Keeps}
use Rattle.tl0_keep.proofs.runs.Keeps.{ThreadKeeps, MessagesKeep}
use Rattle.tl0_keep.proofs.code.CodeFacts.{TextFacts, CodeFacts}
use Rattle.tl0_keep.proofs.runs.Frames.{same-or-other, IsHeld, frame-here, frame-other, held-changed, slot-here, slot-other, slots-set, length-set}
use Rattle.tl0_keep.proofs.runs.Reasons.{Goes, given-later, posted-later}
use Rattle.tl0_keep.proofs.runs.Later.{thread-later}

-- a place of a list with one more is the list's, or it is behind all, or there is none
behind-cases : {X : Type 0} (xs : List X) (y : X) (j : ℕ) → (length xs ≡ j → ⊥) → slice_get (xs ++ y ∷ []) j ≡ slice_get xs j
behind-cases [] y zero d = absurd (d refl)
behind-cases [] y (suc j) d = refl
behind-cases (x ∷ xs) y zero d = refl
behind-cases (x ∷ xs) y (suc j) d = behind-cases xs y j (λ e. d (ap suc e))

-- what is put behind all
put-behind : (xs : List ℕ) (y : ℕ) → put_at 0 (length xs) y xs ≡ xs ++ y ∷ []
put-behind [] y = refl
put-behind (x ∷ xs) y = ap (λ l. x ∷ l) (put-behind xs y)

-- the first of a list and what stands behind it
take-get : (n : ℕ) (xs ys : List ℕ) (i : ℕ) → length xs ≤ n → i < length xs → slice_get (take n (xs ++ ys)) i ≡ slice_get xs i
take-get n [] ys i h l = absurd (omega arith)
take-get zero (x ∷ xs) ys i h l = absurd (omega arith)
take-get (suc n) (x ∷ xs) ys zero h l = refl
take-get (suc n) (x ∷ xs) ys (suc i) h l = take-get n xs ys i (omega arith) (omega arith)

module _ (g : Graph) (all : Partitions) (facts : CodeFacts g all) (some : (c : ℕ) → c < length g.codes → (n : ThreadKind)
    → IsThread (code_of g c) (parts_for all c) n → 0 < length (sources_of (code_of g c) (parts_for all c) n))
    (m : Machine) (s : State) (others : List (ℕ × ThreadKind)) (keeps : Keeps g all m s others []) (c f x s1 : ℕ) (there_c : c < length g.codes)
    (v : State) (k : Machine) (acts : v.world.activations ≡ s.world.activations ++ begun c f x ∷ []) (ran : v.ran ≡ s.ran) (fault : v.fault ≡ None)
    (table : k.table ≡ with_slot (with_slot (record m.table {
      frames = m.table.frames
          ++ Some (new_frame (widest_slots (plain (compiled_with g all))) (widest_threads (plain (compiled_with g all)))
          (counts_of (code_text (plain (compiled_with g all)) c))) ∷ [];
    })
    (length m.table.frames) 0 f) (length m.table.frames) 1 s1)
    (codes : k.codes ≡ put_at 0 (length m.table.frames) c m.codes) (begun_more : k.begun ≡ m.begun + 1)
    (inlet : 0 < length m.table.frames → s1 ≡ inlet_of g (its_code g v.world f) x + 1) (root : length m.table.frames ≡ 0 → s1 ≡ 0)
    (callers : (j : ℕ) → 0 < j → IsThere s.world j → IsThere s.world (activation_at s.world j).caller) (messages : MessagesKeep g k v) where
  -- its number
  abbrev pub N : ℕ
  N = length m.table.frames

  -- the new frame
  abbrev new : Frame
  new = new_frame (widest_slots (plain (compiled_with g all))) (widest_threads (plain (compiled_with g all)))
      (counts_of (code_text (plain (compiled_with g all)) c))

  -- the table with it
  abbrev longer : FrameTable
  longer = record m.table { frames = m.table.frames ++ Some new ∷ [] }

  -- with the caller
  abbrev called : FrameTable
  called = with_slot longer N 0 f

  -- as many as activations
  size : length m.table.frames ≡ length s.world.activations
  size = keeps.frames.frames

  -- who is there is an old one or the new one
  there-cases : (j : ℕ) → IsThere v.world j → IsThere s.world j ⊎ (N ≡ j)
  there-cases j l = elim (same-or-other N j) [
    | inl e ↦ inr e
    | inr d ↦ inl (let a = ap (λ (l : List ActivationState). length l) acts in let b = length-push s.world.activations (begun c f x) in let z = size in
        omega arith)
  ]

  -- an old one is another
  apart : (j : ℕ) → IsThere s.world j → N ≡ j → ⊥
  apart j l e = let z = size in omega arith

  -- an old activation is as it was
  old : (j : ℕ) → IsThere s.world j → activation_at v.world j ≡ activation_at s.world j
  old j l = ap (λ (l : List ActivationState). or_activation (slice_get l j)) acts
      ∙ ap or_activation (behind-cases s.world.activations (begun c f x) j (λ e. omega arith))

  -- the new one has begun
  fresh : activation_at v.world N ≡ begun c f x
  fresh = ap (λ (l : List ActivationState). or_activation (slice_get l N)) acts
      ∙ (ap (λ j. or_activation (slice_get (s.world.activations ++ begun c f x ∷ []) j)) size ∙ ap or_activation (get-behind s.world.activations (begun c f x)))

  -- its code
  code-fresh : (activation_at v.world N).code ≡ c
  code-fresh = ap (λ (a : ActivationState). a.code) fresh

  -- it is there
  there-new : IsThere v.world N
  there-new = let a = ap (λ (l : List ActivationState). length l) acts in let b = length-push s.world.activations (begun c f x) in let z = size in omega arith

  -- who was there is there
  there-old : (j : ℕ) → IsThere s.world j → IsThere v.world j
  there-old j l = let a = ap (λ (l : List ActivationState). length l) acts in let b = length-push s.world.activations (begun c f x) in omega arith

  -- ---- the frames

  -- the new frame is held
  held-new : IsHeld longer N
  held-new = (new, get-behind m.table.frames (Some new))

  -- and with its caller
  held-called : IsHeld called N
  held-called = held-changed longer N N _ held-new

  -- another frame is as it was
  frame-old : (j : ℕ) → (N ≡ j → ⊥) → frame_at k.table j ≡ frame_at m.table j
  frame-old j d = ap (λ (t : FrameTable). frame_at t j) table ∙ (frame-other called N j _ d ∙ (frame-other longer N j _ d
      ∙ ap or_frame (behind-cases m.table.frames (Some new) j d)))

  -- of the new one, what isn't a slot
  frame-new : {X : Type 0} (q : Frame → X) → ((h : Frame) (xs : List ℕ) → q (record h { slots = xs }) ≡ q h) → q (frame_at k.table N) ≡ q new
  frame-new q e = ap (λ (t : FrameTable). q (frame_at t N)) table ∙ (ap q (frame-here called N _ held-called) ∙ (e (frame_at called N) _
      ∙ (ap q (frame-here longer N _ held-new) ∙ (e (frame_at longer N) _ ∙ ap (λ o. q (or_frame o)) (get-behind m.table.frames (Some new))))))

  -- there are as many slots
  width-new : length (frame_at k.table N).slots ≡ widest_slots (plain (compiled_with g all))
  width-new = ap (λ (t : FrameTable). length (frame_at t N).slots) table ∙ (ap length (slots-set called N 1 s1 held-called)
      ∙ (length-set (frame_at called N).slots 1 s1
      ∙ (ap length (slots-set longer N 0 f held-new) ∙ (length-set (frame_at longer N).slots 0 f
      ∙ (ap (λ o. length (or_frame o).slots) (get-behind m.table.frames (Some new)) ∙ length-replicate (widest_slots (plain (compiled_with g all))) 0)))))

  -- two at least
  wide : 2 ≤ widest_slots (plain (compiled_with g all))
  wide = let a = (facts.texts c there_c).two_slots in let b = facts.slots c there_c in omega arith

  -- the sizes before the slots are set
  width-longer : length (frame_at longer N).slots ≡ widest_slots (plain (compiled_with g all))
  width-longer = ap (λ o. length (or_frame o).slots) (get-behind m.table.frames (Some new)) ∙ length-replicate (widest_slots (plain (compiled_with g all))) 0

  -- its first slot
  slot-caller : slot k N 0 ≡ f
  slot-caller = ap (λ (t : FrameTable). slot_in t N 0) table ∙ (slot-other called N 1 s1 N 0 held-called (λ e z. omega arith)
      ∙ slot-here longer N 0 f held-new (let a = width-longer in let b = wide in omega arith))

  -- and its second
  slot-inlet : slot k N 1 ≡ s1
  slot-inlet = ap (λ (t : FrameTable). slot_in t N 1) table ∙ slot-here called N 1 s1 held-called
      (let a = width-longer in let b = wide in let e = ap length (slots-set longer N 0 f held-new) in let z = length-set (frame_at longer N).slots 0 f in
      omega arith)

  -- slots of others
  slot-old : (j a : ℕ) → (N ≡ j → ⊥) → slot k j a ≡ slot m j a
  slot-old j a d = ap (λ (h : Frame). slice_index h.slots a) (frame-old j d)

  -- no frame stood there
  none-before : frame_at m.table N ≡ or_frame None
  none-before = ap or_frame (slice_get_past m.table.frames N (omega arith))

  -- the ready lists are as they were
  ready-same : (j : ℕ) → (frame_at k.table j).ready ≡ (frame_at m.table j).ready
  ready-same j = elim (same-or-other N j) [
    | inl e ↦ subst (λ z. (frame_at k.table z).ready ≡ (frame_at m.table z).ready) e
        (frame-new (λ h. h.ready) (λ h xs. refl) ∙ sym (ap (λ (h : Frame). h.ready) none-before))
    | inr d ↦ ap (λ (h : Frame). h.ready) (frame-old j d)
  ]

  -- what stands in the table beside frames
  beside : (k.table.free ≡ m.table.free) × (k.table.queue ≡ m.table.queue) × (k.table.current ≡ m.table.current)
  beside = (ap (λ (t : FrameTable). t.free) table, ap (λ (t : FrameTable). t.queue) table, ap (λ (t : FrameTable). t.current) table)

  -- the current frame has a ready thread still
  pub frame-rests : IsRested m.table → IsRested k.table
  frame-rests r j e h = r j (sym beside.2 ∙ e) (sym (ready-same j) ∙ h)

  -- one frame more
  frames-more : length k.table.frames ≡ suc N
  frames-more = ap (λ (t : FrameTable). length t.frames) table ∙ (changed-length called.frames N _ ∙ (changed-length longer.frames N _
      ∙ (length-append m.table.frames (Some new ∷ []) ∙ omega arith)))

  -- ---- runs and tickets

  -- the same runs
  run-same : (j b q : ℕ) → has_run v j b q ≡ has_run s j b q
  run-same j b q = ap (λ (l : List (ℕ × ℕ × ℕ)). has_run (record s { ran = l }) j b q) ran

  -- of each thread
  ran-on : (j : ℕ) (n : ThreadKind) → HasRun g all s others j n → HasRun g all v others j n
  ran-on j Entry h = h
  ran-on j (Class b q) h = run-same j b q ∙ h
  ran-on j (Then_of y) h = h
  ran-on j (Else_of y) h = h

  -- back
  ran-back : (j : ℕ) (n : ThreadKind) → HasRun g all v others j n → HasRun g all s others j n
  ran-back j Entry h = h
  ran-back j (Class b q) h = sym (run-same j b q) ∙ h
  ran-back j (Then_of y) h = h
  ran-back j (Else_of y) h = h

  -- of old activations
  goes-on : (j : ℕ) → IsThere s.world j → Goes g all s v others others j
  goes-on j l = record {
    there = there-old j;
    code = λ l. ap (λ (a : ActivationState). a.code) (old j l);
    words = λ y h. ap (λ (a : ActivationState). has_among a.words y) (old j l) ∙ h;
    entered = λ b h. ap (λ (a : ActivationState). was_entered a.entered b) (old j l) ∙ h;
    runs = λ b q h. run-same j b q ∙ h;
    others_stay = λ n h. h;
  }

  -- and back
  goes-back : (j : ℕ) → IsThere s.world j → Goes g all v s others others j
  goes-back j l = record {
    there = λ h. l;
    code = λ h. sym (ap (λ (a : ActivationState). a.code) (old j l));
    words = λ y h. sym (ap (λ (a : ActivationState). has_among a.words y) (old j l)) ∙ h;
    entered = λ b h. sym (ap (λ (a : ActivationState). was_entered a.entered b) (old j l)) ∙ h;
    runs = λ b q h. sym (run-same j b q) ∙ h;
    others_stay = λ n h. h;
  }

  -- nothing has run in the new one
  no-other : (n : ThreadKind) → In (N, n) others → ⊥
  no-other n h = apart N (keeps.others_there N n h) refl

  -- no class either
  no-run : (b q : ℕ) → has_run v N b q ≡ true → ⊥
  no-run b q h = apart N (keeps.runs_there N b q (sym (run-same N b q) ∙ h)) refl

  -- no thread
  none-ran : (n : ThreadKind) → HasRun g all v others N n → ⊥
  none-ran Entry h = no-other Entry h
  none-ran (Class b q) h = no-run b q h
  none-ran (Then_of y) h = no-other (Then_of y) h
  none-ran (Else_of y) h = no-other (Else_of y) h

  -- no node has a word
  no-word : (y : ℕ) → has_word v.world N y ≡ true → ⊥
  no-word y h = true≢false (sym h ∙ ap (λ (a : ActivationState). has_among a.words y) fresh)

  -- nor as a list
  no-has : (y w : ℕ) → Has v N y w → ⊥
  no-has y w h = no-word y (word-there (activation_at v.world N).words y w h)

  -- only the body is entered
  only-body : (b : ℕ) → 0 < b → has_entered v.world N b ≡ true → ⊥
  only-body zero l h = omega arith
  only-body (suc b) l h = true≢false (sym h ∙ ap (λ (a : ActivationState). was_entered a.entered (suc b)) fresh)

  -- the facts of its code
  text : TextFacts g (its_code g v.world N) (parts_in g all v others N) (code_text (plain (compiled_with g all)) c)
  text = subst (λ d. TextFacts g (code_of g d) (parts_for all d) (code_text (plain (compiled_with g all)) c)) (sym code-fresh) (facts.texts c there_c)

  -- nothing is posted in it
  no-posted : (y : ℕ) (z : Kind) → PostedAt g all v others (its_code g v.world N) N y z → ⊥
  no-posted y (Enter q) (n, i, h) = no-other n h
  no-posted y (Param e) h = no-word y h
  no-posted y (Const e) h = no-word y h
  no-posted y (Operate o p z) h = no-word y h
  no-posted y (Seq p z) h = no-word y h
  no-posted y (Call e) h = no-word y h
  no-posted y (Arg f p z) h = no-word y h
  no-posted y (Ret f e) h = no-word y h
  no-posted y (Give e p) h = no-word y h
  no-posted y (Alloc e) h = no-word y h
  no-posted y (Fetch p z) h = no-word y h
  no-posted y (Store p z q) h = no-word y h
  no-posted y (Cond p z q) h = no-word y h
  no-posted y (Choose p z q) h = no-word y h
  no-posted y (Merge p z) h = no-word y h
  no-posted y (Leave p z) h = no-word y h

  -- nothing is chosen
  no-then : (y : ℕ) (z : Kind) → kind_at (its_code g v.world N) y ≡ z → ChoseThen g all v others (its_code g v.world N) N z → ⊥
  no-then y (Cond p t e) is h = only-body t (text.branches y p t e is).3 h
  no-then y (Choose d q a) is (e, i, h) = no-word e h
  no-then y z is h = h

  -- on the other side
  no-else : (y : ℕ) (z : Kind) → kind_at (its_code g v.world N) y ≡ z → ChoseElse g all v others (its_code g v.world N) N z → ⊥
  no-else y (Cond p t e) is h = only-body e (text.branches y p t e is).4 h
  no-else y (Choose d q a) is (e, i, h) = no-word e h
  no-else y z is h = h

  -- the one ticket of the new activation
  entry-only : (n : ThreadKind) (t : Source) → In t (sources_of (its_code g v.world N) (parts_in g all v others N) n)
      → ReasonAt g all v others (its_code g v.world N) N n t → ticket N Entry Begun ≡ ticket N n t
  entry-only Entry t (inl e) h = ap (ticket N Entry) e
  entry-only Entry t (inr e) h = absurd e
  entry-only (Class b q) (Word_of y) i h = absurd (no-posted y (kind_at (its_code g v.world N) y) h)
  entry-only (Class b q) (Behind d) i h = absurd (no-run b d h)
  entry-only (Class b q) Opened i h = absurd (no-other h.0 h.2)
  entry-only (Class b q) Begun i h = absurd h
  entry-only (Then_of y) t i h = absurd (no-then y (kind_at (its_code g v.world N) y) refl h)
  entry-only (Else_of y) t i h = absurd (no-else y (kind_at (its_code g v.world N) y) refl h)

  -- ---- the threads

  -- of the new activation
  thread-new : (n : ThreadKind) → IsThread (its_code g v.world N) (parts_in g all v others N) n → ThreadKeeps g all k v others (ticket N Entry Begun ∷ []) N n
  thread-new n h = record {
    count = length (sources_of (its_code g v.world N) (parts_in g all v others N) n);
    spent = [];
    left = subst (λ (cs : List ℕ). slice_get cs (number_of_thread (its_code g v.world N) (parts_in g all v others N) n)
        ≡ Some (length (sources_of (its_code g v.world N) (parts_in g all v others N) n))) (sym (frame-new (λ h. h.counts) (λ h xs. refl)))
        (take-get (widest_threads (plain (compiled_with g all))) (counts_of (code_text (plain (compiled_with g all)) c)) _ _ few below ∙ text.count n h);
    sum = omega arith;
    once = tt;
    given = λ t i. absurd i;
    not_due = λ t i d. i;
    spent_or_due = λ t q. inr (inl (entry-only n t q.source q.reason));
    ready = λ i. absurd (subst (λ (ts : List ℕ). In (number_of_thread (its_code g v.world N) (parts_in g all v others N) n) ts)
        (frame-new (λ h. h.ready) (λ h xs. refl)) i);
    ran_or_ready = λ e. absurd (none-left e);
    ran = λ q. absurd (none-ran n q);
  }
    where
      few : length (counts_of (code_text (plain (compiled_with g all)) c)) ≤ widest_threads (plain (compiled_with g all))
      few = let a = facts.threads c there_c in let b = length-map (code_text (plain (compiled_with g all)) c).threads (λ t. t.count) in omega arith

      below : number_of_thread (its_code g v.world N) (parts_in g all v others N) n < length (counts_of (code_text (plain (compiled_with g all)) c))
      below = let a = text.number_below n h in let b = length-map (code_text (plain (compiled_with g all)) c).threads (λ t. t.count) in omega arith

      none-left : length (sources_of (its_code g v.world N) (parts_in g all v others N) n) ≡ 0 → ⊥
      none-left e = let z : 0 < length (sources_of (its_code g v.world N) (parts_in g all v others N) n) =
          some (activation_at v.world N).code (subst (λ d. d < length g.codes) (sym code-fresh) there_c) n h in omega arith

  -- of an old one
  thread-old : (j : ℕ) (n : ThreadKind) → IsThere s.world j → IsThread (its_code g s.world j) (parts_in g all s others j) n
      → ThreadKeeps g all k v others (ticket N Entry Begun ∷ []) j n
  thread-old j n l h =
      thread-later g all m k s v others others [] (ticket N Entry Begun ∷ []) j n (ap (λ (a : ActivationState). a.code) (old j l))
      (ap (λ (h : Frame). h.counts) (frame-old j (apart j l)))
      (λ q. subst (λ (ts : List ℕ). In (number_of_thread (its_code g s.world j) (parts_in g all s others j) n) ts) (sym (ready-same j)) q)
      (λ q. subst (λ (ts : List ℕ). In (number_of_thread (its_code g s.world j) (parts_in g all s others j) n) ts) (ready-same j) q)
      (ran-on j n) (ran-back j n) (given-later g all s v others others j (goes-on j l) n)
      (λ t q d. absurd (other-ticket t d)) (λ t q. inl (given-later g all v s others others j (goes-back j l) n t q, λ d. absurd d)) (keeps.threads j n l h)
    where
      other-ticket : (t : Source) → In (ticket j n t) (ticket N Entry Begun ∷ []) → ⊥
      other-ticket t (inl e) = apart j l (ap (λ (z : Owed). z.0) e)
      other-ticket t (inr e) = e

  -- the code of an old one
  thread-then : (j : ℕ) (n : ThreadKind) → IsThere s.world j → IsThread (its_code g v.world j) (parts_in g all v others j) n
      → IsThread (its_code g s.world j) (parts_in g all s others j) n
  thread-then j n l h = subst (λ d. IsThread (code_of g d) (parts_for all d) n) (ap (λ (a : ActivationState). a.code) (old j l)) h

  -- ---- the whole

  -- the activation has begun, and its thread 0's ticket is due
  pub frame-begins : Keeps g all k v others (ticket N Entry Begun ∷ [])
  frame-begins = record {
    frames = record {
      frames = frames-more ∙ (ap suc size ∙ sym (ap (λ (l : List ActivationState). length l) acts ∙ length-push s.world.activations (begun c f x)));
      begun = begun_more ∙ (let a = keeps.frames.begun in let b = ap (λ (l : List ActivationState). length l) acts in
          let e = length-push s.world.activations (begun c f x) in omega arith);
      codes = codes ∙ (ap (λ j. put_at 0 j c m.codes) (size ∙ (sym (length-map s.world.activations (λ a. a.code)) ∙ ap length (sym keeps.frames.codes)))
          ∙ (put-behind m.codes c ∙ (ap (λ (l : List ℕ). l ++ c ∷ []) keeps.frames.codes
          ∙ sym (ap (map (λ (a : ActivationState). a.code)) acts ∙ map-append (λ (a : ActivationState). a.code) s.world.activations (begun c f x ∷ [])))));
      known = λ j l. elim (there-cases j l) [
        | inl o ↦ subst (λ d. d < length g.codes) (sym (ap (λ (a : ActivationState). a.code) (old j o))) (keeps.frames.known j o)
        | inr e ↦ subst (λ z. (activation_at v.world z).code < length g.codes) e (subst (λ d. d < length g.codes) (sym code-fresh) there_c)
      ];
      live = λ j l. subst (λ (t : FrameTable). IsHeld t j) (sym table) (held-changed called N j _ (held-changed longer N j _ (held j (there-cases j l))));
      free = beside.0 ∙ keeps.frames.free;
      caller = λ j l. elim (there-cases j l) [
        | inl o ↦ slot-old j 0 (apart j o) ∙ (keeps.frames.caller j o ∙ sym (ap (λ (a : ActivationState). a.caller) (old j o)))
        | inr e ↦ subst (λ z. slot k z 0 ≡ (activation_at v.world z).caller) e (slot-caller ∙ sym (ap (λ (a : ActivationState). a.caller) fresh))
      ];
      root_inlet = elim (same-or-other N 0) [
        | inl e ↦ subst (λ z. slot k z 1 ≡ 0) e (slot-inlet ∙ root e)
        | inr d ↦ slot-old 0 1 d ∙ keeps.frames.root_inlet
      ];
      inlet = λ j p l. elim (there-cases j l) [
        | inl o ↦ slot-old j 1 (apart j o) ∙ (keeps.frames.inlet j p o
            ∙ (ap (λ (a : ActivationState). inlet_of g (code_of g a.code) (activation_at s.world j).call + 1)
            (sym (old (activation_at s.world j).caller (callers j p o)))
            ∙ ap (λ (a : ActivationState). inlet_of g (its_code g v.world a.caller) a.call + 1) (sym (old j o))))
        | inr e ↦ subst (λ z. slot k z 1 ≡ inlet_of g (its_code g v.world (activation_at v.world z).caller) (activation_at v.world z).call + 1) e
            (slot-inlet ∙ (inlet (subst (λ z. 0 < z) (sym e) p) ∙ ap (λ (a : ActivationState). inlet_of g (its_code g v.world a.caller) a.call + 1)
            (sym fresh)))
      ];
      width = λ j l. elim (there-cases j l) [
        | inl o ↦ ap (λ (h : Frame). length h.slots) (frame-old j (apart j o)) ∙ keeps.frames.width j o
        | inr e ↦ subst (λ z. length (frame_at k.table z).slots ≡ widest_slots (plain (compiled_with g all))) e width-new
      ];
    };
    slots = record {
      own = λ j y w l a b h. elim (there-cases j l) [
        | inr e ↦ absurd (no-has y w (subst (λ z. Has v z y w) (sym e) h))
        | inl o ↦ own j o y w a b h
      ];
      come = λ j y w l ly b h p q. elim (there-cases j l) [
        | inr e ↦ absurd (no-has y w (subst (λ z. Has v z y w) (sym e) h))
        | inl o ↦ come j o y w ly b h p
      ];
    };
    threads = λ j n l h. elim (there-cases j l) [
      | inl o ↦ thread-old j n o (thread-then j n o h)
      | inr e ↦ subst (λ z. IsThread (its_code g v.world z) (parts_in g all v others z) n → ThreadKeeps g all k v others (ticket N Entry Begun ∷ []) z n) e
          (thread-new n) h
    ];
    ready = record {
      once = λ j l. subst (λ (ts : List ℕ). Distinct ts) (sym (ready-same j)) (elim (there-cases j l) [
        | inl o ↦ keeps.ready.once j o
        | inr e ↦ subst (λ z. Distinct (frame_at m.table z).ready) e (subst (λ (h : Frame). Distinct h.ready) (sym none-before) tt)
      ]);
      threads = λ j t l h. let h : In t (frame_at m.table j).ready = subst (λ (ts : List ℕ). In t ts) (ready-same j) h in elim (there-cases j l) [
        | inl o ↦ subst (λ d. (n : ThreadKind) × IsThread (code_of g d) (parts_for all d) n × (number_of_thread (code_of g d) (parts_for all d) n ≡ t))
            (sym (ap (λ (a : ActivationState). a.code) (old j o))) (keeps.ready.threads j t o h)
        | inr e ↦ absurd (subst (λ (h : Frame). In t h.ready) none-before (subst (λ z. In t (frame_at m.table z).ready) (sym e) h))
      ];
    };
    turns = record {
      once = subst (λ (l : List ℕ). Distinct l) (sym beside.1) keeps.turns.once;
      queued = λ j h. let r = keeps.turns.queued j (subst (In j) beside.1 h) in
          (let a = frames-more in let b = r.0 in omega arith, λ e. r.1 (sym (ready-same j) ∙ e), λ e. r.2 (sym beside.2 ∙ e));
      current = λ j e. let a = frames-more in let b = keeps.turns.current j (sym beside.2 ∙ e) in omega arith;
      ready = λ j t h. elim (keeps.turns.ready j t (subst (λ (ts : List ℕ). In t ts) (ready-same j) h)) [
        | inl a ↦ inl (beside.2 ∙ a)
        | inr b ↦ inr (subst (In j) (sym beside.1) b)
      ];
    };
    messages = messages;
    no_fault = fault;
    others_there = λ j n h. there-old j (keeps.others_there j n h);
    runs_there = λ j b q h. there-old j (keeps.runs_there j b q (sym (run-same j b q) ∙ h));
    due_once = (λ z. z, tt);
    due_given = λ j n t h. elim h [
      | inl e ↦ subst (λ (z : Owed). Given g all v others z.0 z.1.thread z.1.source) e (record {
        there = there-new;
        thread = tt;
        source = inl refl;
        reason =
            tt;
      })
      | inr z ↦ absurd z
    ];
  }
    where
      held : (j : ℕ) → IsThere s.world j ⊎ (N ≡ j) → IsHeld longer j
      held j (inl o) = let h = keeps.frames.live j o in (h.0, behind-cases m.table.frames (Some new) j (apart j o) ∙ h.1)
      held j (inr e) = subst (IsHeld longer) e held-new

      own : (j : ℕ) → IsThere s.world j → (y w : ℕ) → has_value (kind_at (its_code g v.world j) y) ≡ true → is_inlet (kind_at (its_code g v.world j) y) ≡ false
          → Has v j y w → slot k j (slot_of (its_code g v.world j) y) ≡ w
      own j o y w a b h = slot-old j _ (apart j o) ∙ subst (λ (z : ActivationState). has_value (kind_at (code_of g z.code) y) ≡ true
          → is_inlet (kind_at (code_of g z.code) y) ≡ false
          → word_among z.words y ≡ w ∷ [] → slot m j (slot_of (code_of g z.code) y) ≡ w) (sym (old j o)) (keeps.slots.own j y w o) a b h

      come : (j : ℕ) → IsThere s.world j → (y w : ℕ) → y < length (its_code g v.world j).nodes → is_inlet (kind_at (its_code g v.world j) y) ≡ true
          → Has v j y w
          → Posted g all v others j y (kind_at (its_code g v.world j) y) → slot k j (slot_of (its_code g v.world j) y) ≡ w
      come j o y w ly b h p =
          let e = ap (λ (a : ActivationState). a.code) (old j o) in
          let ly : y < length (its_code g s.world j).nodes = subst (λ d. y < length (code_of g d).nodes) e ly in
          let b : is_inlet (kind_at (its_code g s.world j) y) ≡ true = subst (λ d. is_inlet (kind_at (code_of g d) y) ≡ true) e b in
          let h : Has s j y w = subst (λ (z : ActivationState). word_among z.words y ≡ w ∷ []) (old j o) h in
          let i = (facts.texts (activation_at s.world j).code (keeps.frames.known j o)).inlet_source y ly b in
          let n = inlet_thread (its_code g s.world j) (parts_in g all s others j) y in
          let p : PostedAt g all v others (its_code g s.world j) j y (kind_at (its_code g s.world j) y) =
          subst (λ d. PostedAt g all v others (code_of g d) j y (kind_at (code_of g d) y)) e p in
          let q = posted-later g all v s others others j (goes-back j o) (its_code g s.world j) y (kind_at (its_code g s.world j) y) p in
          slot-old j _ (apart j o) ∙ subst (λ d. slot m j (slot_of (code_of g d) y) ≡ w) (sym e) (keeps.slots.come j y w o ly b h q (λ z. z))
