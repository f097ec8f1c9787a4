-- Between events: the machine is on its way to a poll, related to the state; and a thread that is run, with its stop.
use Rattle.std.proofs.Common.{◌≡◌, ℕ, zero, suc, ◌+◌, ◌-◌, ◌*◌, ◌%◌, ◌^◌, ◌<◌, ◌≤◌, List, [], ◌∷◌, ◌++◌, length, map, flat_map, refl, sym, ap, ◌∙◌}
use Rattle.std.proofs.Common.{arith, true, false, Bool, subst, Option, Some, None, slice_get, nat_lt}
use Rattle.std.specs.Prelude.{slice_set}
use Rattle.tam_word.specs.Lists.{any_of, beyond, has}
use Rattle.tam_msgs.specs.declared.limits.Limits.{Limits}
use Rattle.tam_msgs.specs.declared.message.Message.{Message}
use Rattle.tam_msgs.specs.declared.message.Message.TheVariants.{Word as Carry, Frame as Begin, Cells as Make, Fetch as Ask_cell, Store as Put_cell}
use Rattle.tam_msgs.specs.declared.item.Item.{Item}
use Rattle.tam_msgs.specs.Messages.{site}
use Rattle.tam_msgs.specs.Runs.{Wild_skip}
use Rattle.tam_word.specs.Words.{meaning}
use Rattle.tam_word.proofs.Tests.{self-eq}
use Rattle.tam_istr.specs.Cells.{Arrays}
use Rattle.frame_tables.specs.FrameTables.{Frame, FrameTable, or_frame, frame_at, is_live, is_current, spent, next_thread}
use Rattle.frame_tables.specs.FrameTables.{with_slot, lowered, given_back, rested}
use Rattle.tl0_code.specs.declared.instr.Instr.TheVariants.{Imm, Mov, Op as Operate, Fork, Switch, Falloc, Send, Ret, Ialloc, Ifetch, Istore, Skip}
use Rattle.tl0_code.specs.declared.bad_cause.BadCause.TheVariants as bad
use Rattle.tl0_code.specs.ThreadCode.{Thread, CodeText, Program, code_text, or_thread, thread_at}
use Rattle.tl0_code.specs.Machines.{Machine, Giving, Fine, Broken, code_at, slot, put, branch, done_thread, stopped, stopped_owing, all_done}
use Rattle.tl0_code.specs.Machines.{owing_less, at_rest, with_given, with_message, spend, spend_of}
use Rattle.tl0_code.specs.ThreadRuns.{text_at}
use Rattle.rv_inst.specs.Harts.{reg}
use Rattle.rv_inst.specs.Steps.{Stands}
use Rattle.rv_inst.proofs.Memory.{stands-split}
use Rattle.rv_keep.specs.KernelPlaces.{poll_at}
use Rattle.rv_keep.specs.Expansions.{expanded, stop}
use Rattle.rv_keep.specs.Image.{start_of}
use Rattle.rv_keep.specs.FrameRecords.{link_at}
use Rattle.rv_keep.specs.LinkedLists.{Chain}
use Rattle.rv_keep.specs.FrameBytes.{BaseKept}
use Rattle.rv_keep.specs.Hosts.{Host}
use Rattle.rv_keep.specs.MachineLaws.{MayRun}
use Rattle.rv_keep.specs.Relation.{FrameHolds, Related, frame_address}
use Rattle.rv_keep.specs.PhaseLaws.{RelatedAt, ComesTo, Starts, Enters, Instructs, Stops, Words, Frames}
use Rattle.rv_keep.proofs.Registers.{set-same, base-set}
use Rattle.rv_keep.proofs.Phases.{hosts-alone}
use Rattle.rv_keep.proofs.TableChanges.{live-frame}
use Rattle.rv_keep.proofs.Slotting.{Current, current-there, own-slot, no-cause, first-below, other_faults}
use Rattle.rv_keep.proofs.CheckedCode.{asked-inlet, callee-there}
use Rattle.rv_keep.proofs.RecordsStand.{SmallCode, small-code, below-length}
use Rattle.rv_keep.proofs.ThreadsStand.{thread-stands}
use Rattle.rv_keep.proofs.Keeping.{fine-same, next-current, next-ready, ready-live}
use Rattle.rv_keep.proofs.Delivering.{comes-on}
use Rattle.rv_keep.proofs.ThreadFolds.{InThread, part_end, CarriedOn, ComesToStop, folds}
use Rattle.rv_keep.proofs.Values.{IsWords, sent-more, Valued}
use Rattle.rv_keep.proofs.Rests.{Rests, rests-rested, rested-rests}
use Rattle.rv_keep.specs.Bounds.{run_bound}

-- what is proved of the phases of a run
pub record Phases : Type 0 where
  pub starts : Starts
  pub enters : Enters
  pub instructs : Instructs
  pub stops : Stops
  pub words : Words
  pub frames : Frames

-- the machine is on its way to a poll, where it is related to the state, and which comes before so many instructions in all
pub record Going (most : ℕ) (p : Program) (limits : Limits) (m : Machine) (s : Host) : Type 0 where
  pub valued : Valued p limits m
  pub rests : Rests m.table
  pub steps : ℕ
  pub few : s.hart.steps + (steps + 3) ≤ most
  pub comes : ComesTo steps poll_at p limits s m

-- ---- what else changes beside the frames

-- the state with other things on its way, and so on
abbrev pub with_books : Machine → List Message → Arrays → List Item → List (ℕ × ℕ) → ℕ → Machine
with_books m x a o r n = record m { pending = x; arrays = a; order = o; printed = r; events = n }

-- the host with the same
abbrev pub host_books : Host → List ℕ → List Message → Arrays → List Item → List (ℕ × ℕ) → ℕ → Host
host_books s regs x a o r n = record s { hart = record s.hart { regs = regs }; pending = x; arrays = a; order = o; printed = r; events = n }

-- they are related
pub related-books : (p : Program) (limits : Limits) (m : Machine) (s : Host) (regs : List ℕ) (x : List Message) (a : Arrays) (o : List Item) (r : List (ℕ × ℕ))
    (n : ℕ) → Related p limits m s → BaseKept s.hart.regs regs → Related p limits (with_books m x a o r n) (host_books s regs x a o r n)
related-books p limits m s regs x a o r n e k = record {
  same = record {
    pending = refl;
    arrays = refl;
    printed = refl;
    events = refl;
    order = refl;
    activations = e.same.activations;
    free = e.same.free;
    live = e.same.live;
    as_many = e.same.as_many;
  };
  image = e.image;
  long = e.long;
  small = e.small;
  few = e.few;
  frames = e.frames;
  turns = e.turns;
  numbers = e.numbers;
  registers = k.as_many ∙ e.registers;
  zero_stays = k.same 0 refl ∙ e.zero_stays;
  base = k.same 19 refl ∙ e.base;
  stride = k.same 20 refl ∙ e.stride;
  codes = k.same 21 refl ∙ e.codes;
  current = k.same 8 refl ∙ e.current;
  queue = subst (λ (y : ℕ). Chain s.hart.memory link_at y (map (frame_address p) m.table.queue)) (sym (k.same 9 refl)) e.queue;
  last = k.same 18 refl ∙ e.last;
}

-- an event that the host makes by itself
pub here-goes : (p : Program) (args : List ℕ) (limits : Limits) (m : Machine) (s : Host) (x : List Message) (a : Arrays) (o : List Item) (r : List (ℕ × ℕ))
    (n : ℕ)
    → MayRun p args limits → RelatedAt 80 p limits m s → Valued p limits (with_books m x a o r n) → Rests m.table
    → Going (s.hart.steps + 4) p limits (with_books m x a o r n) (host_books s (slice_set s.hart.regs 10 0) x a o r n)
here-goes p args limits m s x a o r n may e v q =
    let l : length s.hart.regs ≡ 32 = e.related.registers in
    record {
      valued = v;
      rests = q;
      steps = 1;
      few = omega arith;
      comes = hosts-alone p args limits (with_books m x a o r n) (host_books s (slice_set s.hart.regs 10 0) x a o r n) may
          (record { related = related-books p limits m s (slice_set s.hart.regs 10 0) x a o r n e.related (base-set s.hart.regs 10 0 refl); at = e.at })
          (set-same s.hart.regs 10 0 (omega arith));
    }

-- ---- the values of a thread's instructions

-- a table more doesn't matter
pub valued-table : (p : Program) (limits : Limits) (m : Machine) (t : FrameTable) → Valued p limits m → Valued p limits (record m { table = t })
valued-table p limits m t v = record { sent = v.sent; cells = v.cells; few_arrays = v.few_arrays; in_budget = v.in_budget }

-- nor a message whose words are words
pub valued-more : (p : Program) (limits : Limits) (m : Machine) (x : Message) → Valued p limits m → IsWords p x → Valued p limits (with_message m x)
valued-more p limits m x v w =
    record { sent = sent-more p m.pending x v.sent w; cells = v.cells; few_arrays = v.few_arrays; in_budget = v.in_budget }

-- a state that is left
valued-fine : (p : Program) (limits : Limits) (m n : Machine) → Valued p limits m → Fine m ≡ Fine n → Valued p limits n
valued-fine p limits m n v e = subst (λ (x : Machine). Valued p limits x) (fine-same m n e) v

-- what is left where a count was spent
pub spend-machine : (m n : Machine) (f t : ℕ) (o : Option ℕ) → spend_of m f t o ≡ Fine n → record m { table = spent m.table f t } ≡ n
spend-machine m n f t None e = absurd cc
spend-machine m n f t (Some zero) e = absurd cc
spend-machine m n f t (Some (suc k)) e = fine-same (record m { table = spent m.table f t }) n e

-- a count that is spent
pub spend-valued : (p : Program) (limits : Limits) (m n : Machine) (f t : ℕ) → Valued p limits m → spend m f t ≡ Fine n → Valued p limits n
spend-valued p limits m n f t v e =
    subst (λ (x : Machine). Valued p limits x) (spend-machine m n f t (slice_get (frame_at m.table f).counts t) e)
    (valued-table p limits m (spent m.table f t) v)

-- a slot of the current frame has a word
slot-word : (p : Program) (limits : Limits) (m : Machine) (s : Host) (f a : ℕ) → Related p limits m s → m.table.current ≡ Some f → a < (text_at p m f).slots
    → slot m f a < 2 ^ 32
slot-word p limits m s f a e q l =
    let k : Current p m s f = current-there p limits m s f e q in
    subst (λ (x : ℕ). x < 2 ^ 32) (own-slot p m s f a k l) (k.holds.stands.words a)

-- each instruction
pub done-valued : (p : Program) (args : List ℕ) (limits : Limits) (f : ℕ) → MayRun p args limits → CarriedOn p limits f (Valued p limits)
done-valued p args limits f r m n s (Imm d w) pc e cu may dn v =
    valued-fine p limits (put m f d w) n (valued-table p limits m (with_slot m.table f d w) v) dn
done-valued p args limits f r m n s (Mov d a) pc e cu may dn v =
    valued-fine p limits (put m f d (slot m f a)) n (valued-table p limits m (with_slot m.table f d (slot m f a)) v) dn
done-valued p args limits f r m n s (Operate o d a b) pc e cu may dn v =
    valued-fine p limits (put m f d (meaning o (slot m f a) (slot m f b))) n
    (valued-table p limits m (with_slot m.table f d (meaning o (slot m f a) (slot m f b))) v) dn
done-valued p args limits f r m n s (Fork t) pc e cu may dn v = spend-valued p limits m n f t v dn
done-valued p args limits f r m n s (Switch a t u) pc e cu may dn v = spend-valued p limits m n f (branch (slot m f a) t u) v dn
done-valued p args limits f r m n s (Falloc c i) pc e cu may dn v =
    let k : Current p m s f = current-there p limits m s f e.related cu in
    let sc : SmallCode p (code_at m f) = small-code p args limits (code_at m f) r k.holds.code_there in
    let fi : length (text_at p m f).inlets ≤ 1024 = sc.few_inlets in
    let li : i < length (text_at p m f).inlets = asked-inlet p (text_at p m f) c i may.0 in
    let lc : c < length p.codes = callee-there p (text_at p m f) c i may.0 in
    let lf : f < length m.table.frames = below-length m.table.frames f (Some k.frame) k.there in
    let fw : length m.table.frames ≤ limits.frames = e.related.few in
    let lim : limits.frames ≤ 16384 = r.in_range.few_frames in
    valued-fine p limits (with_message m (Begin c f i)) n (valued-more p limits m (Begin c f i) v (lc, omega arith, omega arith)) dn
done-valued p args limits f r m n s (Send t i a) pc e cu may dn v =
    let x : CodeText = text_at p m f in
    let l = first-below t x.slots (a ∷ []) (no-cause (any_of (λ k. beyond k x.slots) (t ∷ a ∷ [])) bad.Slot (other_faults p x (Send t i a)) may.0) in
    let la = first-below a x.slots [] l.1 in
    valued-fine p limits (with_message m (Carry (slot m f t) i (slot m f a))) n
    (valued-more p limits m (Carry (slot m f t) i (slot m f a)) v (slot-word p limits m s f a e.related cu la.0)) dn
done-valued p args limits f r m n s (Ret k a) pc e cu may dn v =
    let x : CodeText = text_at p m f in
    let la = first-below a x.slots [] (no-cause (any_of (λ z. beyond z x.slots) (a ∷ [])) bad.Slot (other_faults p x (Ret k a)) may.0) in
    valued-fine p limits (with_message m (Carry (slot m f 0) ((slot m f 1 + k) % 2 ^ 32) (slot m f a))) n
    (valued-more p limits m (Carry (slot m f 0) ((slot m f 1 + k) % 2 ^ 32) (slot m f a)) v (slot-word p limits m s f a e.related cu la.0)) dn
done-valued p args limits f r m n s (Ialloc a i) pc e cu may dn v =
    valued-fine p limits (with_message m (Make (slot m f a) f i)) n (valued-more p limits m (Make (slot m f a) f i) v tt) dn
done-valued p args limits f r m n s (Ifetch t y i z) pc e cu may dn v =
    valued-fine p limits (with_message m (Ask_cell (slot m f t) (slot m f y) f i (site (code_at m f) z))) n
    (valued-more p limits m (Ask_cell (slot m f t) (slot m f y) f i (site (code_at m f) z)) v tt) dn
done-valued p args limits f r m n s (Istore t y a z) pc e cu may dn v =
    let x : CodeText = text_at p m f in
    let l = first-below t x.slots (y ∷ a ∷ []) (no-cause (any_of (λ k. beyond k x.slots) (t ∷ y ∷ a ∷ [])) bad.Slot (other_faults p x (Istore t y a z))
    may.0) in
    let k = first-below y x.slots (a ∷ []) l.1 in
    let la = first-below a x.slots [] k.1 in
    valued-fine p limits (with_message m (Put_cell (slot m f t) (slot m f y) (slot m f a) (site (code_at m f) z))) n
    (valued-more p limits m (Put_cell (slot m f t) (slot m f y) (slot m f a) (site (code_at m f) z)) v (slot-word p limits m s f a e.related cu la.0)) dn
done-valued p args limits f r m n s (Skip k) pc e cu may dn v = go (nat_lt k (frame_at m.table f).owed) dn
  where
    go : (t : Bool) → elim t [ true ↦ Fine (owing_less m f k) | false ↦ Broken Wild_skip k ] ≡ Fine n → Valued p limits n
    go true q = valued-fine p limits (owing_less m f k) n (valued-table p limits m (lowered m.table f k) v) q
    go false q = absurd cc

-- ---- a stop

-- what a stop leaves
pub record Stopped_so (p : Program) (limits : Limits) (n : Machine) : Type 0 where
  pub valued : Valued p limits n
  pub rests : Rests n.table

-- a state whose current frame is given back
given-rests : (m : Machine) (f : ℕ) → m.table.current ≡ Some f → Rests (with_given m f).table
given-rests m f e g q = absurd (none-some (is_current m.table.current f) (ap (λ (c : Option ℕ). is_current c f) e ∙ self-eq f) q)
  where
    none-some : (t : Bool) → t ≡ true → elim t [ true ↦ None | false ↦ m.table.current ] ≡ Some g → ⊥
    none-some true a b = absurd cc
    none-some false a b = absurd cc

-- it leaves that
stop-leaves : (p : Program) (limits : Limits) (m n : Machine) (f : ℕ) → Valued p limits m → m.table.current ≡ Some f → stopped Giving m f ≡ Fine n
    → Stopped_so p limits n
stop-leaves p limits m n f v e q = go ((frame_at m.table f).owed - 1) q
  where
    all : (ts : List ℕ) → all_done (λ k. with_given k f) (owing_less m f 1) ts ≡ Fine n → Stopped_so p limits n
    all [] k =
        let i : with_given (owing_less m f 1) f ≡ n = fine-same (with_given (owing_less m f 1) f) n k in
        record {
          valued = subst (λ (x : Machine). Valued p limits x) i
              (valued-table p limits m (given_back (owing_less m f 1).table f) v);
          rests = subst (λ (x : Machine). Rests x.table) i (given-rests (owing_less m f 1) f e);
        }
    all (t ∷ ts) k = absurd cc

    go : (o : ℕ) → stopped_owing (λ k. with_given k f) (owing_less m f 1) f o ≡ Fine n → Stopped_so p limits n
    go zero k = all (frame_at (owing_less m f 1).table f).ready k
    go (suc o) k =
        let i : at_rest (owing_less m f 1) ≡ n = fine-same (at_rest (owing_less m f 1)) n k in
        record {
          valued = subst (λ (x : Machine). Valued p limits x) i (valued-table p limits m (rested (owing_less m f 1).table) v);
          rests = subst (λ (x : Machine). Rests x.table) i (rested-rests (owing_less m f 1).table);
        }

-- ---- a thread that is run

-- a thread that is there
get-thread : (ts : List Thread) (t : ℕ) → t < length ts → slice_get ts t ≡ Some (or_thread (slice_get ts t))
get-thread [] t l = absurd (omega arith)
get-thread (x ∷ ts) zero l = refl
get-thread (x ∷ ts) (suc t) l = get-thread ts t (omega arith)

-- from the poll that runs it to the next
pub run-goes : Phases → (p : Program) (args : List ℕ) (limits : Limits) (m n : Machine) (s : Host) (f t : ℕ) (table : FrameTable) → MayRun p args limits
    → RelatedAt 80 p limits m s → reg s.hart 10 ≡ 1 → next_thread m.table ≡ (Some (f, t), table) → Valued p limits m → Rests m.table
    → done_thread Giving (record m { table = table }) f (thread_at (text_at p m f) t).instrs ≡ Fine n
    → Going (s.hart.steps + run_bound (length (thread_at (text_at p m f) t).instrs)) p limits n s
run-goes ph p args limits m n s f t table r e z nt v q dn =
    let c : ℕ = code_at m f in
    let x : Thread = thread_at (text_at p m f) t in
    let rd : has (frame_at m.table f).ready t ≡ true = next-ready m.table f t table nt in
    let lv : is_live m.table f ≡ true = ready-live (slice_get m.table.frames f) t rd in
    let fr = live-frame m.table.frames f lv in
    let fh : FrameHolds p s.hart.memory f c fr.0 = e.related.frames f fr.0 fr.1 in
    let rh : has fr.0.ready t ≡ true = ap (λ (y : Option (Option Frame)). has (or_frame y).ready t) (sym fr.1) ∙ rd in
    let lt : t < length (code_text p c).threads = fh.ready_there t rh in
    let k : InThread p args limits c t x = record { may = r; code_there = fh.code_there; is_thread = get-thread (code_text p c).threads t lt } in
    let m1 : Machine = record m { table = table } in
    let c1 : ComesTo 13 (start_of p c t) p limits s m1 = ph.enters p args limits m s f t table r (rests-rested m.table q) e z nt in
    let o : start_of p c t ≡ part_end p c t [] = omega arith in
    let e1 : RelatedAt (part_end p c t []) p limits m1 c1.host = subst (λ (y : ℕ). RelatedAt y p limits m1 c1.host) o c1.there in
    let fd : ComesToStop (28 * length x.instrs) p limits c1.host f c t x n (Valued p limits) =
    folds ph.instructs p args limits f c t x (Valued p limits) k (done-valued p args limits f r) x.instrs [] m1 n c1.host refl e1
    (next-current m.table f t table nt) refl (valued-table p limits m table v) dn in
    let h2 : Host = fd.comes.host in
    let th : Stands h2.hart.memory (start_of p c t) (flat_map (expanded (code_text p c).slots (start_of p c) c) x.instrs ++ stop) =
    thread-stands p args limits h2.hart.memory c t x r fd.comes.there.related.image fh.code_there k.is_thread in
    let st : Stands h2.hart.memory (part_end p c t x.instrs) stop =
    (stands-split h2.hart.memory (start_of p c t) (flat_map (expanded (code_text p c).slots (start_of p c) c) x.instrs) stop th).1 in
    let c3 : ComesTo 12 poll_at p limits h2 n =
    ph.stops p args limits fd.machine n h2 f (part_end p c t x.instrs) r fd.comes.there fd.current st fd.stops in
    let c2 : ComesTo (28 * length x.instrs + 12) poll_at p limits c1.host n =
    comes-on (28 * length x.instrs) 12 (part_end p c t x.instrs) poll_at p limits c1.host fd.machine n fd.comes c3 in
    let c0 : ComesTo (13 + (28 * length x.instrs + 12)) poll_at p limits s n =
    comes-on 13 (28 * length x.instrs + 12) (start_of p c t) poll_at p limits s m1 n c1 c2 in
    let sl : Stopped_so p limits n = stop-leaves p limits fd.machine n f fd.carried fd.current fd.stops in
    record { valued = sl.valued; rests = sl.rests; steps = 13 + (28 * length x.instrs + 12); few = omega arith; comes = c0 }
