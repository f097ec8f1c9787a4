-- A thread without a skip runs to its stop where frames owe: it isn't wild by what is owed, and behind it each frame owes what it should.
use Rattle.std.proofs.Common.{◌≡◌, ℕ, zero, suc, ◌+◌, ◌-◌, ◌<◌, ◌≤◌, false, List, [], ◌∷◌, filter, Some, slice_get, slice_index, length, refl, sym, ap, subst}
use Rattle.std.proofs.Common.{◌∙◌, arith, inl, inr, ◌⊎◌, true≢false}
use Rattle.tam_word.proofs.Members.{In, Distinct}
use Rattle.tam_graph.specs.Graphs.{Graph, code_of}
use Rattle.tam_split.specs.GraphPartitions.{Partitions}
use Rattle.tam_msgs.specs.Runs.{WildCause, Wild_thread, Wild_skip}
use Rattle.frame_tables.specs.FrameTables.{Frame, FrameTable, frame_at, lowered, rested}
use Rattle.tl0_code.specs.declared.instr.Instr.{Instr}
use Rattle.tl0_code.specs.ThreadCode.{Program, CodeText, code_text, plain, is_plain}
use Rattle.tl0_code.specs.Machines.{Machine, Plain, Owing, Progress, Fine, Broken, code_at, then_do, done_all, done_thread, owing_less, at_rest}
use Rattle.tl0_code.specs.Machines.{all_done, stopped, stopped_kept}
use Rattle.tl0_keep.specs.Compiled.{compiled_with}
use Rattle.tl0_keep.specs.ThreadLaws.{table_without_owed}
use Rattle.tl0_keep.proofs.code.ThreadKinds.{ThreadKind, IsThread, number_of_thread, parts_for}
use Rattle.tl0_keep.proofs.code.CodeFacts.{CodeFacts}
use Rattle.tl0_keep.proofs.runs.Frames.{same-or-other, IsHeld, frame-here, frame-other}
use Rattle.tl0_keep.proofs.giving.Places.{changed-length}
use Rattle.tl0_keep.proofs.owing.Tables.{frame_at-bare}
use Rattle.tl0_keep.proofs.owing.Threads.{unowed, unowed_progress, OrBroken, all-same}
use Rattle.tl0_keep.proofs.owing.Programs.{code_text-plain}
use Rattle.tl0_keep.proofs.owed.Skipped.{length-mapped}
use Rattle.tl0_keep.proofs.owed.Tables.{IsRun, Goes, goes-same, MachineGoes, ran-as, ran-back, held-count, HaveNoSkip, all-goes, all-plain}
use Rattle.tl0_keep.proofs.owed.Tables.{plain-broken, fine-eq, broken-fine}
use Rattle.tl0_keep.proofs.owed.Owes.{IsDead, FrameOwes, AllOwe, dead-on, gone-on, owes-on, few-gone, all-gone, IsFair, zero-alive}

-- a code has as many threads without skips
pub plain-many : (p : Program) (n : ℕ) → length (code_text (plain p) n).threads ≡ length (code_text p n).threads
plain-many p n = ap (λ (c : CodeText). length c.threads) (code_text-plain p n) ∙ length-mapped _ (code_text p n).threads

-- causes differ
skip-thread : Wild_skip ≡ Wild_thread → ⊥
skip-thread e = cc

cause-eq : {a b : WildCause} {n k : ℕ} → Broken a n ≡ Broken b k → a ≡ b
cause-eq e = cc

-- what a thread's run leaves, where it begins in k, and frames did owe in m
pub record Finishes (g : Graph) (all : Partitions) (p : Program) (m : Machine) (r : Progress) : Type 0 where
  pub no_skip : (x : ℕ) → r ≡ Broken Wild_skip x → ⊥
  pub owe : (k : Machine) → r ≡ Fine k → AllOwe g all p k
  pub frames : (k : Machine) → r ≡ Fine k → length k.table.frames ≡ length m.table.frames
  pub codes : (k : Machine) → r ≡ Fine k → k.codes ≡ m.codes
  pub less : (k : Machine) → r ≡ Fine k → (i : ℕ) → (frame_at k.table i).owed ≤ (frame_at m.table i).owed

-- thread t of frame f is gone with those that were
pub record GoneWith (g : Graph) (all : Partitions) (p : Program) (m : Machine) (f t : ℕ) : Type 0 where
  pub gone : List ℕ
  pub once : Distinct (t ∷ gone)
  pub low : (u : ℕ) → In u (t ∷ gone) → u < length (code_text p (code_at m f)).threads
  pub why : (u : ℕ) → In u (t ∷ gone) → IsRun m.table f u ⊎ IsDead g all (code_at m f) m.table f u
  pub whole : (u : ℕ) → u < length (code_text p (code_at m f)).threads → IsRun m.table f u ⊎ IsDead g all (code_at m f) m.table f u → In u (t ∷ gone)
  pub sum : (frame_at m.table f).owed + length gone ≡ length (code_text p (code_at m f)).threads

module _ (g : Graph) (all : Partitions) (facts : CodeFacts g all) (m : Machine) (f t : ℕ) (there : f < length m.table.frames) (is : List Instr)
    (plain_is : HaveNoSkip is)
    (run : IsRun m.table f t) (gone_with : GoneWith g all (compiled_with g all) m f t)
    (others : (i : ℕ) → (f ≡ i → ⊥) → i < length m.table.frames → FrameOwes g all (compiled_with g all) (code_at m i) m.table i)
    (later : (k : Machine) → done_thread Plain (unowed m) f (filter is_plain is) ≡ Fine k → IsFair g all k) where
  -- the program
  abbrev p : Program
  p = compiled_with g all

  -- how many threads the code has
  abbrev many : ℕ
  many = length (code_text (compiled_with g all) (code_at m f)).threads

  -- those gone are no more
  few : suc (length gone_with.gone) ≤ length (code_text (compiled_with g all) (code_at m f)).threads
  few = few-gone (length (code_text (compiled_with g all) (code_at m f)).threads) (t ∷ gone_with.gone) gone_with.once gone_with.low

  module _ (k : Machine) (goes : MachineGoes m k) where
    -- what has run, then
    ran : (u : ℕ) → IsRun m.table f u → IsRun k.table f u
    ran u r = let x = (goes.table.goes f).ran u r.zero_left r.not_ready in record { zero_left = x.0; not_ready = x.1 }

    -- the frame is held
    held : IsHeld k.table f
    held = held-count k.table f t 0 (ran t run).zero_left

    -- as much is owed
    same : (frame_at k.table f).owed ≡ (frame_at m.table f).owed
    same = (goes.table.goes f).owed

    -- the table with one less
    abbrev less_table : FrameTable
    less_table = lowered k.table f 1

    here : frame_at (lowered k.table f 1) f ≡ record (frame_at k.table f) { owed = (frame_at k.table f).owed - 1 }
    here = frame-here k.table f (λ h. record h { owed = h.owed - 1 }) held

    other : (i : ℕ) → (f ≡ i → ⊥) → frame_at (lowered k.table f 1) i ≡ frame_at k.table i
    other i d = frame-other k.table f i (λ h. record h { owed = h.owed - 1 }) d

    -- what has run there
    ran-less : (u : ℕ) → IsRun m.table f u → IsRun (lowered k.table f 1) f u
    ran-less u r = record {
      zero_left = ap (λ (h : Frame). slice_get h.counts u) here ∙ (ran u r).zero_left;
      not_ready = λ i. (ran u r).not_ready (subst (λ (h : Frame). In u h.ready) here i);
    }

    -- nothing else has
    back-less : (u : ℕ) → IsRun (lowered k.table f 1) f u → IsRun m.table f u
    back-less u r = ran-back m.table k.table f (goes.table.goes f) u
        (ran-as (lowered k.table f 1) k.table f (sym (ap (λ (h : Frame). h.counts) here)) (sym (ap (λ (h : Frame). h.ready) here)) u r)

    -- the frame owes what it should
    this-owes : FrameOwes g all (compiled_with g all) (code_at m f) (lowered k.table f 1) f
    this-owes = record {
      gone = t ∷ gone_with.gone;
      once = gone_with.once;
      low = gone_with.low;
      why = λ u i. by u (gone_with.why u i);
      whole = λ u l h. gone_with.whole u l (gone-on g all (code_at m f) (lowered k.table f 1) m.table f back-less u h);
      sum = let a = ap (λ (h : Frame). h.owed) here in let s = gone_with.sum in let e = same in let l = few in omega (arith, a, s, e, l);
    }
      where
        by : (u : ℕ) → IsRun m.table f u ⊎ IsDead g all (code_at m f) m.table f u
            → IsRun (lowered k.table f 1) f u ⊎ IsDead g all (code_at m f) (lowered k.table f 1) f u
        by u (inl r) = inl (ran-less u r)
        by u (inr d) = inr (dead-on g all (code_at m f) m.table (lowered k.table f 1) f ran-less u d)

    -- and each other
    all-owe : (i : ℕ) → i < length (lowered k.table f 1).frames → FrameOwes g all (compiled_with g all) (slice_index k.codes i) (lowered k.table f 1) i
    all-owe i l = subst (λ (cs : List ℕ). FrameOwes g all (compiled_with g all) (slice_index cs i) (lowered k.table f 1) i) (sym goes.codes)
        (elim (same-or-other f i) [
          | inl e ↦ subst (λ j. FrameOwes g all (compiled_with g all) (code_at m j) (lowered k.table f 1) j) e this-owes
          | inr d ↦ owes-on g all (compiled_with g all) (code_at m i) m.table (lowered k.table f 1) i
              (subst (Goes (frame_at m.table i)) (sym (other i d)) (goes.table.goes i))
              (others i d (subst (λ n. i < n) (changed-length k.table.frames f (λ h. record h { owed = h.owed - 1 }) ∙ goes.table.frames) l))
        ])

    all-less : (i : ℕ) → (frame_at (lowered k.table f 1) i).owed ≤ (frame_at m.table i).owed
    all-less i = elim (same-or-other f i) [
      | inl e ↦ subst (λ j. (frame_at (lowered k.table f 1) j).owed ≤ (frame_at m.table j).owed) e
          (let a = ap (λ (h : Frame). h.owed) here in let s = same in omega (arith, a, s))
      | inr d ↦ (let a = ap (λ (h : Frame). h.owed) (other i d) in let s = (goes.table.goes i).owed in omega (arith, a, s))
    ]

    -- also where the turn ends
    rest-owe : AllOwe g all (compiled_with g all) (at_rest (owing_less k f 1))
    rest-owe i l = owes-on g all (compiled_with g all) (slice_index k.codes i) (lowered k.table f 1) (rested (lowered k.table f 1)) i
        (goes-same (frame_at (lowered k.table f 1) i)) (all-owe i l)

    -- the state behind the stop
    finished : Finishes g all (compiled_with g all) m (Fine (at_rest (owing_less k f 1)))
    finished = record {
      no_skip = λ x e. broken-fine (sym e);
      owe = λ n e. subst (λ (y : Machine). AllOwe g all (compiled_with g all) y) (fine-eq e) rest-owe;
      frames = λ n e. subst (λ (y : Machine). length y.table.frames ≡ length m.table.frames) (fine-eq e)
          (changed-length k.table.frames f (λ h. record h { owed = h.owed - 1 }) ∙ goes.table.frames);
      codes = λ n e. subst (λ (y : Machine). y.codes ≡ m.codes) (fine-eq e) goes.codes;
      less = λ n e. subst (λ (y : Machine). (i : ℕ) → (frame_at y.table i).owed ≤ (frame_at m.table i).owed) (fine-eq e) all-less;
    }

    -- where all are gone, none is ready
    none-ready : IsFair g all (at_rest (unowed k)) → (frame_at k.table f).owed ≡ 1 → (u : ℕ) → In u (frame_at k.table f).ready → ⊥
    none-ready fair e u i = elim (gone_with.why u now) [
      | inl r ↦ (ran u r).not_ready i
      | inr d ↦ zero-alive g all (at_rest (unowed k)) fair f there_now u ready.0
          (subst (λ (cs : List ℕ). IsDead g all (slice_index cs f) (rested (table_without_owed k.table)) f u) (sym goes.codes)
          (dead-on g all (code_at m f) m.table (rested (table_without_owed k.table)) f ran-bare u d))
    ]
      where
        ready : (slice_get (frame_at (table_without_owed k.table) f).counts u ≡ Some 0)
            × ((n : ThreadKind) × IsThread (code_of g (code_at k f)) (parts_for all (code_at k f)) n
            × (number_of_thread (code_of g (code_at k f)) (parts_for all (code_at k f)) n ≡ u))
        ready = fair.ready f u (subst (λ (h : Frame). In u h.ready) (sym (frame_at-bare k.table f)) i)

        there_now : f < length (table_without_owed k.table).frames
        there_now = subst (λ n. f < n) (sym (length-mapped _ k.table.frames ∙ goes.table.frames)) there

        low : u < length (code_text (compiled_with g all) (code_at m f)).threads
        low = subst (λ (cs : List ℕ). u < length (code_text (compiled_with g all) (slice_index cs f)).threads) goes.codes
            (subst (λ n. u < n) (plain-many (compiled_with g all) (code_at k f))
            (subst (λ y. y < length (code_text (plain (compiled_with g all)) (code_at k f)).threads)
            ready.1.2 ((facts.texts (code_at k f) (fair.codes f there_now)).number_below ready.1.0 ready.1.1)))

        now : In u (t ∷ gone_with.gone)
        now = all-gone (length (code_text (compiled_with g all) (code_at m f)).threads) (t ∷ gone_with.gone) gone_with.once gone_with.low
            (let s = gone_with.sum in let q = same in omega (arith, s, q, e)) u low

        ran-bare : (y : ℕ) → IsRun m.table f y → IsRun (rested (table_without_owed k.table)) f y
        ran-bare y r = record {
          zero_left = ap (λ (h : Frame). slice_get h.counts y) (frame_at-bare k.table f) ∙ (ran y r).zero_left;
          not_ready = λ j. (ran y r).not_ready (subst (λ (h : Frame). In y h.ready) (frame_at-bare k.table f) j);
        }

    -- the stop
    stops : IsFair g all (at_rest (unowed k)) → (n : ℕ) → (frame_at k.table f).owed ≡ n → Finishes g all (compiled_with g all) m (stopped_kept k f n)
    stops fair zero e = absurd (let s = gone_with.sum in let q = same in let l = few in omega (arith, s, q, l, e))
    stops fair (suc zero) e = done (frame_at (lowered k.table f 1) f).ready refl
      where
        done : (us : List ℕ) → (frame_at (lowered k.table f 1) f).ready ≡ us → Finishes g all (compiled_with g all) m (all_done at_rest (owing_less k f 1) us)
        done [] q = finished
        done (u ∷ us) q = absurd (none-ready fair e u (subst (λ (h : Frame). In u h.ready) here (subst (In u) (sym q) (inl refl))))
    stops fair (suc (suc n)) e = finished

  -- the whole
  pub finishes : Finishes g all (compiled_with g all) m (done_thread Owing m f is)
  finishes = go (done_all Plain m f is) refl (all-plain m f is plain_is)
    where
      go : (r : Progress) → done_all Plain m f is ≡ r → done_all Owing m f is ≡ done_all Plain m f is → Finishes g all (compiled_with g all) m
          (done_thread Owing m f is)
      go (Broken what x) e same = subst (λ (r : Progress). Finishes g all (compiled_with g all) m (then_do r (λ n. stopped Owing n f))) (sym (same ∙ e))
          (record {
            no_skip = λ y q. skip-thread (sym (cause-eq q) ∙ plain-broken m f is what x e);
            owe = λ k q. absurd (broken-fine q);
            frames = λ k q. absurd (broken-fine q);
            codes = λ k q. absurd (broken-fine q);
            less = λ k q. absurd (broken-fine q);
          })
      go (Fine k) e same = subst (λ (r : Progress). Finishes g all (compiled_with g all) m (then_do r (λ n. stopped Owing n f))) (sym (same ∙ e))
          (stops k (all-goes m k f is e) (later (at_rest (unowed k)) there_too) (frame_at k.table f).owed refl)
        where
          bare-too : done_all Plain (unowed m) f (filter is_plain is) ≡ Fine (unowed k)
          bare-too = by (all-same false m f is)
            where
              by : OrBroken false (done_all Plain m f is) (done_all Plain (unowed m) f (filter is_plain is))
                  → done_all Plain (unowed m) f (filter is_plain is) ≡ Fine (unowed k)
              by (inl q) = sym q ∙ ap unowed_progress e
              by (inr b) = absurd (true≢false (sym b.owing))

          there_too : done_thread Plain (unowed m) f (filter is_plain is) ≡ Fine (at_rest (unowed k))
          there_too = ap (λ (r : Progress). then_do r (λ n. stopped Plain n f)) bare-too
