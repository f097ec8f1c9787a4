-- A ready thread runs where frames owe: its skip skips threads that have neither run nor been skipped, so neither it nor the stop is wild.
use Rattle.std.proofs.Common.{◌≡◌, ℕ, ◌+◌, ◌-◌, ◌<◌, ◌≤◌, true, List, [], ◌∷◌, ◌++◌, filter, Some, slice_get, length, refl, sym, ap, subst}
use Rattle.std.proofs.Common.{◌∙◌, arith, inl, inr, ◌⊎◌}
use Rattle.std.proofs.lemmas.List.{length-append}
use Rattle.tam_word.proofs.Tests.{below-test}
use Rattle.tam_word.proofs.Members.{In, Distinct, in-append, left-in, right-in}
use Rattle.tam_graph.specs.declared.kind.Kind.TheVariants.{Cond}
use Rattle.tam_graph.specs.Graphs.{Code, Graph, code_of, kind_at, block_at, owner_of}
use Rattle.tam_graph.specs.Accepted.{IsAccepted}
use Rattle.tam_split.specs.GraphPartitions.{Partitions}
use Rattle.tam_world.specs.Worlds.{has_entered}
use Rattle.frame_tables.specs.FrameTables.{Frame, FrameTable, frame_at, lowered, next_thread}
use Rattle.tl0_code.specs.declared.instr.Instr.{Instr}
use Rattle.tl0_code.specs.declared.instr.Instr.TheVariants.{Skip}
use Rattle.tl0_code.specs.ThreadCode.{Program, Thread, code_text, plain, is_plain, thread_at}
use Rattle.tl0_code.specs.Machines.{Machine, Plain, Owing, Progress, Fine, code_at, then_do, done_all, done_thread, owing_less, skip, stopped}
use Rattle.tl0_keep.specs.Compiled.{compiled_with}
use Rattle.tl0_keep.proofs.code.ThreadKinds.{ThreadKind, Then_of, Else_of, IsThread, number_of_thread, parts_for, AreAllParts, then_block, else_block}
use Rattle.tl0_keep.proofs.code.DistinctLists.{distinct-append}
use Rattle.tl0_keep.proofs.code.CodePlaces.{thread-at}
use Rattle.tl0_keep.proofs.code.CodeFacts.{CodeFacts, TextFacts}
use Rattle.tl0_keep.proofs.runs.Frames.{same-or-other, frame-here, frame-other}
use Rattle.tl0_keep.proofs.giving.Places.{changed-length}
use Rattle.tl0_keep.proofs.owing.Threads.{unowed, owing_less-same}
use Rattle.tl0_keep.proofs.owed.Skipped.{home}
use Rattle.tl0_keep.proofs.owed.Tables.{IsRun, Goes, TakenGoes, HaveNoSkip, ran-as, held-count, held-ready, held-there, Leaves, taken-leaves, taken-goes}
use Rattle.tl0_keep.proofs.owed.Tables.{taken-run}
use Rattle.tl0_keep.proofs.owed.Owes.{Beneath, beneath-cases, beneath-chain, Unchosen, IsDead, FrameOwes, AllOwe, dead-on, gone-on, owes-on, few-gone}
use Rattle.tl0_keep.proofs.owed.Owes.{IsFair, around}
use Rattle.tl0_keep.proofs.owed.Owes.{unchosen-out, zero-alive}
use Rattle.tl0_keep.proofs.owed.Shapes.{IsSkipped, Shape, No_skip, One_skip, shape}
use Rattle.tl0_keep.proofs.owed.Stopping.{Finishes, finishes, plain-many}

-- what is left by a run from a state that is as this one, but for what is owed, which is no more
finishes-from : (g : Graph) (all : Partitions) (p : Program) (m k : Machine) (r : Progress) → length k.table.frames ≡ length m.table.frames → k.codes ≡ m.codes
    → ((i : ℕ) → (frame_at k.table i).owed ≤ (frame_at m.table i).owed) → Finishes g all p k r → Finishes g all p m r
finishes-from g all p m k r frames codes less h = record {
  no_skip = h.no_skip;
  owe = h.owe;
  frames = λ n e. h.frames n e ∙ frames;
  codes = λ n e. h.codes n e ∙ codes;
  less = λ n e i. let a = h.less n e i in let b = less i in omega (arith, a, b);
}

-- ---- choosers

cond-first : {a b c d e f : ℕ} → Cond a b c ≡ Cond d e f → b ≡ e
cond-first q = cc

cond-second : {a b c d e f : ℕ} → Cond a b c ≡ Cond d e f → c ≡ f
cond-second q = cc

head-one : {i j : ℕ} → i ∷ [] ≡ j ∷ [] → i ≡ j
head-one e = cc

module _ (g : Graph) (c : Code) (branches : (d p y n : ℕ) → kind_at c d ≡ Cond p y n → (owner_of c y ≡ d ∷ []) × (owner_of c n ≡ d ∷ []) × (y ≡ n → ⊥)
    × (0 < y) × (0 < n)) where
  -- the block that wasn't chosen and the one that was are of one cond
  owners : (u : ThreadKind) (v : ℕ) (h : Unchosen c u v) → (owner_of c v ≡ h.0 ∷ []) × (owner_of c (home c u) ≡ h.0 ∷ [])
  owners u v (x, p, w, inl (e, k)) = let b = branches x p w v k in
      (b.1, ap (λ z. owner_of c (home c z)) e ∙ (ap (λ z. owner_of c (then_block c z)) k ∙ b.0))
  owners u v (x, p, w, inr (e, k)) = let b = branches x p v w k in
      (b.0, ap (λ z. owner_of c (home c z)) e ∙ (ap (λ z. owner_of c (else_block c z)) k ∙ b.1))

  -- one connector doesn't choose a block
  chooser-same : (u o : ThreadKind) (v : ℕ) → Unchosen c u v → Unchosen c o v → u ≡ o
  chooser-same u o v (x, p, w, a) (y, q, r, b) = by a b
    where
      same : x ≡ y
      same = head-one (sym (owners u v (x, p, w, a)).0 ∙ (owners o v (y, q, r, b)).0)

      by : ((u ≡ Then_of x) × (kind_at c x ≡ Cond p w v)) ⊎ ((u ≡ Else_of x) × (kind_at c x ≡ Cond p v w))
          → ((o ≡ Then_of y) × (kind_at c y ≡ Cond q r v)) ⊎ ((o ≡ Else_of y) × (kind_at c y ≡ Cond q v r)) → u ≡ o
      by (inl (e, k)) (inl (f, l)) = e ∙ (ap Then_of same ∙ sym f)
      by (inl (e, k)) (inr (f, l)) = absurd ((branches x p w v k).2 (cond-first (sym k ∙ (ap (kind_at c) same ∙ l))))
      by (inr (e, k)) (inl (f, l)) = absurd ((branches x p v w k).2 (sym (cond-second (sym k ∙ (ap (kind_at c) same ∙ l)))))
      by (inr (e, k)) (inr (f, l)) = e ∙ (ap Else_of same ∙ sym f)

module _ (g : Graph) (accepted : IsAccepted g) (all : Partitions) (parts : AreAllParts g all) (facts : CodeFacts g all) (k : Machine) (fair : IsFair g all k)
    (owes : AllOwe g all (compiled_with g all) k) (f t : ℕ) (after : FrameTable) (next : next_thread k.table ≡ (Some (f, t), after)) where
  -- what taking the thread leaves
  leaves : Leaves k.table after f t
  leaves = taken-leaves k.table after f t next

  -- it was ready
  was-ready : In t (frame_at k.table f).ready
  was-ready = subst (In t) (sym leaves.was) (inl refl)

  pub there : f < length k.table.frames
  there = held-there k.table f (held-ready k.table f t was-ready)

  -- its code
  abbrev n : ℕ
  n = code_at k f

  code_there : code_at k f < length g.codes
  code_there = fair.codes f there

  text : TextFacts g (code_of g (code_at k f)) (parts_for all (code_at k f)) (code_text (plain (compiled_with g all)) (code_at k f))
  text = facts.texts (code_at k f) (fair.codes f there)

  -- nothing is left of its entry count
  zero_left : slice_get (frame_at k.table f).counts t ≡ Some 0
  zero_left = (fair.ready f t was-ready).0

  -- what it is for
  abbrev kind : ThreadKind
  kind = (fair.ready f t was-ready).1.0

  thread : IsThread (code_of g (code_at k f)) (parts_for all (code_at k f)) kind
  thread = (fair.ready f t was-ready).1.1

  number : number_of_thread (code_of g (code_at k f)) (parts_for all (code_at k f)) kind ≡ t
  number = (fair.ready f t was-ready).1.2

  kind_zero : slice_get (frame_at k.table f).counts (number_of_thread (code_of g (code_at k f)) (parts_for all (code_at k f)) kind) ≡ Some 0
  kind_zero = ap (slice_get (frame_at k.table f).counts) number ∙ zero_left

  -- its instructions
  abbrev pub instrs : List Instr
  instrs = (thread_at (code_text (compiled_with g all) (code_at k f)) t).instrs

  instrs-shape : Shape (code_of g (code_at k f)) (parts_for all (code_at k f)) kind instrs
  instrs-shape = subst (Shape (code_of g (code_at k f)) (parts_for all (code_at k f)) kind)
      (ap (λ (x : Thread). x.instrs) (sym (thread-at g all parts (code_at k f) code_there kind thread))
      ∙ ap (λ u. (thread_at (code_text (compiled_with g all) (code_at k f)) u).instrs) number)
      (shape g accepted (code_at k f) code_there (parts_for all (code_at k f)) (parts.each (code_at k f) code_there) kind thread)

  -- how many threads there are
  abbrev many : ℕ
  many = length (code_text (compiled_with g all) (code_at k f)).threads

  own : FrameOwes g all (compiled_with g all) (code_at k f) k.table f
  own = owes f there

  -- it isn't gone
  fresh : In t own.gone → ⊥
  fresh i = elim (own.why t i) [ inl r ↦ r.not_ready was-ready | inr d ↦ zero-alive g all k fair f there t zero_left d ]

  low : t < many
  low = subst (λ x. t < x) (plain-many (compiled_with g all) (code_at k f))
      (subst (λ x. x < length (code_text (plain (compiled_with g all)) (code_at k f)).threads) number (text.number_below kind thread))

  -- the state with the thread taken
  abbrev pub taken_state : Machine
  taken_state = record k { table = after }

  goes : TakenGoes k.table after f t
  goes = taken-goes k.table after f t leaves

  run : IsRun after f t
  run = taken-run k.table after f t leaves zero_left (fair.once f)

  ran : (i u : ℕ) → IsRun k.table i u → IsRun after i u
  ran i u r = goes.ran i u r

  -- where a chooser has run, it is this thread, or it had run
  chose : (s : FrameTable) → ((u : ℕ) → IsRun s f u → IsRun after f u) → (u : ℕ) (d : IsDead g all (code_at k f) s f u)
      → (kind ≡ d.chooser) ⊎ IsDead g all (code_at k f) k.table f u
  chose s back u d = elim (goes.back (number_of_thread (code_of g (code_at k f)) (parts_for all (code_at k f)) d.chooser)
      (back (number_of_thread (code_of g (code_at k f)) (parts_for all (code_at k f)) d.chooser) d.ran)) [
        | inl e ↦ inl (text.number_one kind d.chooser thread d.chooser_thread (number ∙ e))
        | inr q ↦ inr (record {
          kind = d.kind;
          thread = d.thread;
          number = d.number;
          chooser = d.chooser;
          chooser_thread = d.chooser_thread;
          block = d.block;
          unchosen = d.unchosen;
          ran = q;
          beneath = d.beneath;
        })
      ]

  module _ (later : (m : Machine) → done_thread Plain (unowed taken_state) f (filter is_plain instrs) ≡ Fine m → IsFair g all m) where
    -- without a skip
    plainly : HaveNoSkip instrs → ((v : ℕ) → Unchosen (code_of g (code_at k f)) kind v → ⊥)
        → Finishes g all (compiled_with g all) k (done_thread Owing taken_state f instrs)
    plainly none chooses = finishes-from g all (compiled_with g all) k taken_state (done_thread Owing taken_state f instrs) goes.frames refl
        (λ i. let e = goes.owed i in omega (arith, e))
        (finishes g all facts taken_state f t (subst (λ x. f < x) (sym goes.frames) there) instrs none run (record {
          gone = own.gone;
          once = (fresh, own.once);
          low = λ u i. elim i [ inl e ↦ subst (λ x. x < many) e low | inr q ↦ own.low u q ];
          why = λ u i. elim i [ inl e ↦ inl (subst (IsRun after f) e run) | inr q ↦ gone-on g all (code_at k f) k.table after f (ran f) u (own.why u q) ];
          whole = whole;
          sum = ap (λ x. x + length own.gone) (goes.owed f) ∙ own.sum;
        }) (λ i d l. owes-on g all (compiled_with g all) (code_at k i) k.table after i (goes.others i d) (owes i (subst (λ x. i < x) goes.frames l))) later)
      where
        whole : (u : ℕ) → u < many → IsRun after f u ⊎ IsDead g all (code_at k f) after f u → In u (t ∷ own.gone)
        whole u l (inl q) = elim (goes.back u q) [ inl e ↦ inl e | inr w ↦ inr (own.whole u l (inl w)) ]
        whole u l (inr d) = elim (chose after (λ y x. x) u d) [
          | inl e ↦ absurd (chooses d.block (subst (λ y. Unchosen (code_of g (code_at k f)) y d.block) (sym e) d.unchosen))
          | inr w ↦ inr (own.whole u l (inr w))
        ]

    -- with a skip
    module _ (b : ℕ) (skips : List ℕ) (rest : List Instr) (is : instrs ≡ Skip (length skips) ∷ rest) (none : HaveNoSkip rest)
        (unchosen : Unchosen (code_of g (code_at k f)) kind b) (alone : (v : ℕ) → Unchosen (code_of g (code_at k f)) kind v → v ≡ b)
        (once : Distinct skips) (each : (u : ℕ) → In u skips → IsSkipped (code_of g (code_at k f)) (parts_for all (code_at k f)) b u)
        (each_one : (u : ℕ) → IsSkipped (code_of g (code_at k f)) (parts_for all (code_at k f)) b u → In u skips) where
      -- the block isn't entered
      not_entered : has_entered fair.state.world f b ≡ true → ⊥
      not_entered h = unchosen-out g all k fair f there kind b thread unchosen kind_zero h

      -- so a thread that is skipped still waits for something
      waits : (u : ℕ) → In u skips → slice_get (frame_at k.table f).counts u ≡ Some 0 → ⊥
      waits u i z = let s = each u i in
          not_entered (around g all k fair f there b (home (code_of g (code_at k f)) s.kind) s.beneath
          (fair.homes f s.kind there s.thread (ap (slice_get (frame_at k.table f).counts) s.number ∙ z)))

      -- a block that wasn't chosen by one that ran is neither this one, nor around it, nor inside it
      apart : (d v : ℕ) (u : ThreadKind) → IsThread (code_of g (code_at k f)) (parts_for all (code_at k f)) u → Unchosen (code_of g (code_at k f)) u v
          → IsRun k.table f (number_of_thread (code_of g (code_at k f)) (parts_for all (code_at k f)) u)
          → Beneath (code_of g (code_at k f)) b d → Beneath (code_of g (code_at k f)) v d → ⊥
      apart d v u h w r x y = elim (beneath-chain (code_of g (code_at k f)) b v d x y) [
        | inl q ↦ elim (beneath-cases (code_of g (code_at k f)) b v w.0 (owners g (code_of g (code_at k f)) text.branches u v w).0 q) [
          | inl e ↦ same e
          | inr z ↦ not_entered (around g all k fair f there b (block_at (code_of g (code_at k f)) w.0) z
              (fair.up f (home (code_of g (code_at k f)) u) w.0 there (owners g (code_of g (code_at k f)) text.branches u v w).1
              (fair.homes f u there h r.zero_left)))
        ]
        | inr q ↦ elim (beneath-cases (code_of g (code_at k f)) v b unchosen.0 (owners g (code_of g (code_at k f)) text.branches kind b unchosen).0 q) [
          | inl e ↦ same (sym e)
          | inr z ↦ unchosen-out g all k fair f there u v h w r.zero_left (around g all k fair f there v (block_at (code_of g (code_at k f)) unchosen.0) z
              (fair.up f (home (code_of g (code_at k f)) kind) unchosen.0 there (owners g (code_of g (code_at k f)) text.branches kind b unchosen).1
              (fair.homes f kind there thread kind_zero)))
        ]
      ]
        where
          same : b ≡ v → ⊥
          same e =
              let s : u ≡ kind = chooser-same g (code_of g (code_at k f)) text.branches u kind b (subst (Unchosen (code_of g (code_at k f)) u) (sym e) w)
              unchosen in
              r.not_ready (subst (λ y. In y (frame_at k.table f).ready)
              (sym (ap (number_of_thread (code_of g (code_at k f)) (parts_for all (code_at k f))) s ∙ number)) was-ready)

      -- none of those skipped was gone
      not_gone : (u : ℕ) → In u skips → In u own.gone → ⊥
      not_gone u i j = elim (own.why u j) [
        | inl r ↦ waits u i r.zero_left
        | inr d ↦ (let s = each u i in
            let e : d.kind ≡ s.kind = text.number_one d.kind s.kind d.thread s.thread (d.number ∙ sym s.number) in
            apart (home (code_of g (code_at k f)) s.kind) d.block d.chooser d.chooser_thread d.unchosen d.ran s.beneath
            (subst (λ z. Beneath (code_of g (code_at k f)) d.block (home (code_of g (code_at k f)) z)) e d.beneath))
      ]

      -- nor is the thread itself skipped
      not_this : In t skips → ⊥
      not_this i = waits t i zero_left

      -- all that are gone then
      abbrev all_gone : List ℕ
      all_gone = skips ++ own.gone

      all-once : Distinct (t ∷ (skips ++ own.gone))
      all-once = (λ i. elim (in-append t skips own.gone i) [ inl a ↦ not_this a | inr q ↦ fresh q ], distinct-append skips own.gone once own.once not_gone)

      skip-low : (u : ℕ) → In u skips → u < many
      skip-low u i = let s = each u i in subst (λ x. u < x) (plain-many (compiled_with g all) (code_at k f))
          (subst (λ x. x < length (code_text (plain (compiled_with g all)) (code_at k f)).threads) s.number (text.number_below s.kind s.thread))

      all-low : (u : ℕ) → In u (t ∷ (skips ++ own.gone)) → u < many
      all-low u (inl e) = subst (λ x. x < many) e low
      all-low u (inr i) = elim (in-append u skips own.gone i) [ inl a ↦ skip-low u a | inr q ↦ own.low u q ]

      -- so fewer are skipped than are owed
      fewer : length skips < (frame_at after f).owed
      fewer =
          let s = few-gone many (t ∷ (skips ++ own.gone)) all-once all-low in
          let a = length-append skips own.gone in let o = own.sum in let e = goes.owed f in
          omega (arith, s, a, o, e)

      -- the state behind the skip
      abbrev skipped_state : Machine
      skipped_state = owing_less taken_state f (length skips)

      skips-well : skip taken_state f (length skips) ≡ Fine skipped_state
      skips-well = rw (skip, below-test (length skips) (frame_at after f).owed fewer) refl

      here : frame_at (lowered after f (length skips)) f ≡ record (frame_at after f) { owed = (frame_at after f).owed - length skips }
      here = frame-here after f (λ h. record h { owed = h.owed - length skips }) (held-count after f t 0 run.zero_left)

      other : (i : ℕ) → (f ≡ i → ⊥) → frame_at (lowered after f (length skips)) i ≡ frame_at after i
      other i d = frame-other after f i (λ h. record h { owed = h.owed - length skips }) d

      size : length (lowered after f (length skips)).frames ≡ length k.table.frames
      size = changed-length after.frames f (λ h. record h { owed = h.owed - length skips }) ∙ goes.frames

      ran-there : (u : ℕ) → IsRun after f u → IsRun (lowered after f (length skips)) f u
      ran-there u r = record {
        zero_left = ap (λ (h : Frame). slice_get h.counts u) here ∙ r.zero_left;
        not_ready = λ i. r.not_ready (subst (λ (h : Frame). In u h.ready) here i);
      }

      ran-back : (u : ℕ) → IsRun (lowered after f (length skips)) f u → IsRun after f u
      ran-back u r = ran-as (lowered after f (length skips)) after f (sym (ap (λ (h : Frame). h.counts) here)) (sym (ap (λ (h : Frame). h.ready) here)) u r

      run-there : IsRun (lowered after f (length skips)) f t
      run-there = ran-there t run

      -- those skipped are dead then
      dead : (u : ℕ) → In u skips → IsDead g all (code_at k f) (lowered after f (length skips)) f u
      dead u i = let s = each u i in record {
        kind = s.kind;
        thread = s.thread;
        number = s.number;
        chooser = kind;
        chooser_thread = thread;
        block = b;
        unchosen = unchosen;
        ran = subst (IsRun (lowered after f (length skips)) f) (sym number) run-there;
        beneath = s.beneath;
      }

      all-why : (u : ℕ) → In u (t ∷ (skips ++ own.gone)) → IsRun (lowered after f (length skips)) f u
          ⊎ IsDead g all (code_at k f) (lowered after f (length skips)) f u
      all-why u (inl e) = inl (subst (IsRun (lowered after f (length skips)) f) e run-there)
      all-why u (inr i) = elim (in-append u skips own.gone i) [
        | inl a ↦ inr (dead u a)
        | inr q ↦ elim (own.why u q) [
          | inl r ↦ inl (ran-there u (ran f u r))
          | inr d ↦ inr (dead-on g all (code_at k f) k.table (lowered after f (length skips)) f (λ y r. ran-there y (ran f y r)) u d)
        ]
      ]

      -- and no other thread has run, or runs for a block that wasn't chosen
      all-whole : (u : ℕ) → u < many → IsRun (lowered after f (length skips)) f u ⊎ IsDead g all (code_at k f) (lowered after f (length skips)) f u
          → In u (t ∷ (skips ++ own.gone))
      all-whole u l (inl q) = elim (goes.back u (ran-back u q)) [
        | inl e ↦ inl e
        | inr w ↦ inr (right-in u skips own.gone (own.whole u l (inl w)))
      ]
      all-whole u l (inr d) = elim (chose (lowered after f (length skips)) ran-back u d) [
        | inl e ↦ inr (left-in u skips own.gone (each_one u (record {
          kind = d.kind;
          thread = d.thread;
          number = d.number;
          beneath = subst (λ y. Beneath (code_of g (code_at k f)) y (home (code_of g (code_at k f)) d.kind))
              (alone d.block (subst (λ y. Unchosen (code_of g (code_at k f)) y d.block) (sym e) d.unchosen)) d.beneath;
        })))
        | inr w ↦ inr (right-in u skips own.gone (own.whole u l (inr w)))
      ]

      skipping : Finishes g all (compiled_with g all) k (done_thread Owing skipped_state f rest)
      skipping = finishes-from g all (compiled_with g all) k skipped_state (done_thread Owing skipped_state f rest) size refl
          (λ i. elim (same-or-other f i) [
            | inl e ↦ subst (λ j. (frame_at (lowered after f (length skips)) j).owed ≤ (frame_at k.table j).owed) e
                (let a = ap (λ (h : Frame). h.owed) here in let s = goes.owed f in omega (arith, a, s))
            | inr d ↦ (let a = ap (λ (h : Frame). h.owed) (other i d) in let s = goes.owed i in omega (arith, a, s))
          ])
          (finishes g all facts skipped_state f t (subst (λ x. f < x) (sym size) there) rest none run-there (record {
            gone = skips ++ own.gone;
            once = all-once;
            low = all-low;
            why = all-why;
            whole = all-whole;
            sum = let a = ap (λ (h : Frame). h.owed) here in let s = goes.owed f in let l = length-append skips own.gone in
                let o = own.sum in let w = fewer in omega (arith, a, s, l, o, w);
          })
          (λ i d l. owes-on g all (compiled_with g all) (code_at k i) k.table (lowered after f (length skips)) i
          (subst (Goes (frame_at k.table i)) (sym (other i d)) (goes.others i d)) (owes i (subst (λ x. i < x) size l)))
          (λ m e. later m (ap (λ (x : List Instr). done_thread Plain (unowed taken_state) f (filter is_plain x)) is
          ∙ (ap (λ (x : Machine). done_thread Plain x f (filter is_plain rest)) (sym (owing_less-same taken_state f (length skips))) ∙ e))))

      skipped : Finishes g all (compiled_with g all) k (done_thread Owing taken_state f instrs)
      skipped = subst (Finishes g all (compiled_with g all) k) (sym (ap (done_thread Owing taken_state f) is
          ∙ ap (λ (r : Progress). then_do (then_do r (λ x. done_all Owing x f rest)) (λ x. stopped Owing x f)) skips-well)) skipping

    -- either way
    pub thread-finishes : Finishes g all (compiled_with g all) k (done_thread Owing taken_state f instrs)
    thread-finishes = go instrs-shape
      where
        go : Shape (code_of g (code_at k f)) (parts_for all (code_at k f)) kind instrs → Finishes g all (compiled_with g all) k
            (done_thread Owing taken_state f instrs)
        go (No_skip none chooses) = plainly none chooses
        go (One_skip s) = skipped s.block s.skips s.rest s.begins s.none s.unchosen s.alone s.once s.each s.all
