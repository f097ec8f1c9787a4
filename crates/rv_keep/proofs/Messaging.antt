-- The instructions that send a message carry the relation on.
use Rattle.std.proofs.Common.{◌≡◌, ℕ, suc, ◌+◌, ◌*◌, ◌%◌, ◌^◌, ◌<◌, ◌≤◌, List, [], ◌∷◌, ◌++◌, length, refl, sym, ap, ◌∙◌, arith, subst, Some}
use Rattle.std.specs.Prelude.{slice_index}
use Rattle.std.proofs.lemmas.List.{length-take-le}
use Rattle.tam_word.specs.Lists.{any_of, beyond}
use Rattle.tam_msgs.specs.declared.limits.Limits.{Limits}
use Rattle.tam_msgs.specs.declared.message.Message.{Message}
use Rattle.tam_msgs.specs.declared.message.Message.TheVariants.{Word as Carry, Frame as Begin, Cells as Make, Fetch as Ask_cell, Store as Put_cell}
use Rattle.tam_msgs.specs.Messages.{site}
use Rattle.frame_tables.specs.FrameTables.{Frame}
use Rattle.tl0_code.specs.declared.instr.Instr.{Instr}
use Rattle.tl0_code.specs.declared.instr.Instr.TheVariants.{Falloc, Send, Ret, Ialloc, Ifetch, Istore}
use Rattle.tl0_code.specs.declared.bad_cause.BadCause.TheVariants as bad
use Rattle.tl0_code.specs.ThreadCode.{CodeText, Program}
use Rattle.tl0_code.specs.Machines.{Machine, code_at, slot, with_message}
use Rattle.tl0_code.specs.ThreadRuns.{text_at}
use Rattle.rv_inst.specs.Steps.{Stands}
use Rattle.rv_keep.specs.Expansions.{expanded}
use Rattle.rv_keep.specs.Image.{start_of}
use Rattle.rv_keep.specs.FrameBytes.{Begins, BaseKept, Sends, further}
use Rattle.rv_keep.specs.Posting.{gone}
use Rattle.rv_keep.specs.Hosts.{Host, with_hart, to_poll}
use Rattle.rv_keep.specs.MachineLaws.{MayRun}
use Rattle.rv_keep.specs.Relation.{Related, own_part}
use Rattle.rv_keep.specs.PhaseLaws.{RelatedAt, ComesTo, MayDo}
use Rattle.rv_keep.proofs.Polling.{with_sent, sends-poll}
use Rattle.rv_keep.proofs.Phases.{related-still}
use Rattle.rv_keep.proofs.Sending.{falloc-expands, send-expands, ret-expands, ialloc-expands, ifetch-expands, istore-expands}
use Rattle.rv_keep.proofs.CheckedCode.{head-is, asked-inlet, callee-there, sent-place, array-inlet, fetch-inlet, fetch-node, store-node}
use Rattle.rv_keep.proofs.RecordsStand.{SmallCode, small-code}
use Rattle.rv_keep.proofs.Slotting.{Current, current-there, begins-there, own-slot, no-cause, first-below, other_faults}

-- a message more is on its way on both sides
pub related-sent : (p : Program) (limits : Limits) (m : Machine) (s : Host) (n pc : ℕ) (regs : List ℕ) (x : Message) → Related p limits m s
    → BaseKept s.hart.regs regs → Related p limits (with_message m x) (with_sent s (gone s.hart n pc regs s.hart.memory) x)
related-sent p limits m s n pc regs x e k =
    let r : Related p limits m (with_hart s (gone s.hart n pc regs s.hart.memory)) = related-still p limits m s n pc regs e k in
    record {
      same = record {
        pending = ap (λ (y : List Message). y ++ x ∷ []) e.same.pending;
        arrays = e.same.arrays;
        printed = e.same.printed;
        events = e.same.events;
        order = e.same.order;
        activations = e.same.activations;
        free = e.same.free;
        live = e.same.live;
        as_many = e.same.as_many;
      };
      image = r.image;
      long = r.long;
      small = r.small;
      few = r.few;
      frames = r.frames;
      turns = r.turns;
      numbers = r.numbers;
      registers = r.registers;
      zero_stays = r.zero_stays;
      base = r.base;
      stride = r.stride;
      codes = r.codes;
      current = r.current;
      queue = r.queue;
      last = r.last;
    }

-- an expansion that sends a message carries the relation on
pub sends-related : (p : Program) (limits : Limits) (m : Machine) (s : Host) (n pc : ℕ) (x y : Message) → RelatedAt pc p limits m s → n + 1 ≤ 28
    → Sends n s.hart x → x ≡ y → ComesTo 28 (pc + 4 * (n + 1)) p limits s (with_message m y)
sends-related p limits m s n pc x y e l g q =
    let r : Sends n s.hart y = subst (λ (z : Message). Sends n s.hart z) q g in
    record {
      host = with_sent s (further s.hart (n + 1) r.regs s.hart.memory) y;
      onward = record {
        took = n + 1;
        few = l;
        counted = refl;
        goes = λ j. let o : n + 1 + j ≡ n + suc j = omega arith in ap (λ (z : ℕ). to_poll z s) o ∙ sends-poll n j s y r;
      };
      there = record {
        related = related-sent p limits m s (n + 1) (s.hart.pc + 4 * (n + 1)) r.regs y e.related r.kept;
        at = ap (λ (z : ℕ). z + 4 * (n + 1)) e.at;
      };
    }

-- the machine at an expansion of the current frame, and how many slots its part has
record AtInstr (p : Program) (m : Machine) (s : Host) (f : ℕ) (i : Instr) : Type 0 where
  pub current : Current p m s f
  pub begins : Begins s.hart (start_of p (code_at m f)) (code_at m f) f (own_part (text_at p m f) current.frame) i
  pub as_many : length (own_part (text_at p m f) current.frame).slots ≡ (text_at p m f).slots
  pub code_there : code_at m f < length p.codes

-- it is there
at-instr : (p : Program) (limits : Limits) (m : Machine) (s : Host) (f pc : ℕ) (i : Instr) → RelatedAt pc p limits m s → m.table.current ≡ Some f
    → Stands s.hart.memory pc (expanded (text_at p m f).slots (start_of p (code_at m f)) (code_at m f) i) → AtInstr p m s f i
at-instr p limits m s f pc i e q st =
    let k : Current p m s f = current-there p limits m s f e.related q in
    let own : Frame = own_part (text_at p m f) k.frame in
    let ls : length own.slots ≡ (text_at p m f).slots = length-take-le (text_at p m f).slots k.frame.slots k.holds.slots_there in
    let a : Stands s.hart.memory s.hart.pc (expanded (text_at p m f).slots (start_of p (code_at m f)) (code_at m f) i) =
    subst (λ (x : ℕ). Stands s.hart.memory x (expanded (text_at p m f).slots (start_of p (code_at m f)) (code_at m f) i)) (sym e.at) st in
    record {
      current = k;
      begins = begins-there p limits m s f i e.related k
          (subst (λ (x : ℕ). Stands s.hart.memory s.hart.pc (expanded x (start_of p (code_at m f)) (code_at m f) i)) (sym ls) a);
      as_many = ls;
      code_there = k.holds.code_there;
    }

-- a wish for a frame
pub falloc-instructs : (p : Program) (args : List ℕ) (limits : Limits) (m : Machine) (s : Host) (f pc d i : ℕ) → MayRun p args limits
    → RelatedAt pc p limits m s
    → m.table.current ≡ Some f → MayDo p (text_at p m f) (Falloc d i)
    → Stands s.hart.memory pc (expanded (text_at p m f).slots (start_of p (code_at m f)) (code_at m f) (Falloc d i))
    → ComesTo 28 (pc + 24) p limits s (with_message m (Begin d f i))
falloc-instructs p args limits m s f pc d i r e q may st =
    let b : AtInstr p m s f (Falloc d i) = at-instr p limits m s f pc (Falloc d i) e q st in
    let sc : SmallCode p (code_at m f) = small-code p args limits (code_at m f) r b.code_there in
    let fi : length (text_at p m f).inlets ≤ 1024 = sc.few_inlets in
    let fc : length p.codes ≤ 256 = r.checked.within.few_codes in
    let li : i < length (text_at p m f).inlets = asked-inlet p (text_at p m f) d i may.0 in
    let ld : d < length p.codes = callee-there p (text_at p m f) d i may.0 in
    let own : Frame = own_part (text_at p m f) b.current.frame in
    let g : Sends 5 s.hart (Begin d f i) = falloc-expands s.hart (start_of p (code_at m f)) (code_at m f) f own d i b.begins (omega arith) (omega arith) in
    sends-related p limits m s 5 pc (Begin d f i) (Begin d f i) e (omega arith) g refl

-- a word
pub send-instructs : (p : Program) (args : List ℕ) (limits : Limits) (m : Machine) (s : Host) (f pc t i a : ℕ) → MayRun p args limits
    → RelatedAt pc p limits m s
    → m.table.current ≡ Some f → MayDo p (text_at p m f) (Send t i a)
    → Stands s.hart.memory pc (expanded (text_at p m f).slots (start_of p (code_at m f)) (code_at m f) (Send t i a))
    → ComesTo 28 (pc + 40) p limits s (with_message m (Carry (slot m f t) i (slot m f a)))
send-instructs p args limits m s f pc t i a r e q may st =
    let x : CodeText = text_at p m f in
    let b : AtInstr p m s f (Send t i a) = at-instr p limits m s f pc (Send t i a) e q st in
    let own : Frame = own_part x b.current.frame in
    let ls : length own.slots ≡ x.slots = b.as_many in
    let l = first-below t x.slots (a ∷ []) (no-cause (any_of (λ k. beyond k x.slots) (t ∷ a ∷ [])) bad.Slot (other_faults p x (Send t i a)) may.0) in
    let lt : t < x.slots = l.0 in
    let la : a < x.slots = (first-below a x.slots [] l.1).0 in
    let li : i ≤ 63 = sent-place p x t i a may.0 in
    let g : Sends 9 s.hart (Carry (slice_index own.slots t) i (slice_index own.slots a)) =
    send-expands s.hart (start_of p (code_at m f)) (code_at m f) f own t i a b.begins (omega arith) (omega arith) (omega arith) in
    let vt : slice_index own.slots t ≡ slot m f t = own-slot p m s f t b.current lt in
    let va : slice_index own.slots a ≡ slot m f a = own-slot p m s f a b.current la in
    sends-related p limits m s 9 pc (Carry (slice_index own.slots t) i (slice_index own.slots a)) (Carry (slot m f t) i (slot m f a)) e (omega arith) g
    (ap (λ (z : ℕ). Carry z i (slice_index own.slots a)) vt ∙ ap (λ (z : ℕ). Carry (slot m f t) i z) va)

-- a result
pub ret-instructs : (p : Program) (args : List ℕ) (limits : Limits) (m : Machine) (s : Host) (f pc k a : ℕ) → MayRun p args limits → RelatedAt pc p limits m s
    → m.table.current ≡ Some f → MayDo p (text_at p m f) (Ret k a)
    → Stands s.hart.memory pc (expanded (text_at p m f).slots (start_of p (code_at m f)) (code_at m f) (Ret k a))
    → ComesTo 28 (pc + 32) p limits s (with_message m (Carry (slot m f 0) ((slot m f 1 + k) % 2 ^ 32) (slot m f a)))
ret-instructs p args limits m s f pc k a r e q may st =
    let x : CodeText = text_at p m f in
    let b : AtInstr p m s f (Ret k a) = at-instr p limits m s f pc (Ret k a) e q st in
    let own : Frame = own_part x b.current.frame in
    let ls : length own.slots ≡ x.slots = b.as_many in
    let l = first-below a x.slots [] (no-cause (any_of (λ z. beyond z x.slots) (a ∷ [])) bad.Slot (other_faults p x (Ret k a)) may.0) in
    let la : a < x.slots = l.0 in
    let two : 2 ≤ x.slots = (head-is p (code_at m f) r.checked b.code_there).two_slots in
    let g : Sends 7 s.hart (Carry (slice_index own.slots 0) ((slice_index own.slots 1 + k) % 2 ^ 32) (slice_index own.slots a)) =
    ret-expands s.hart (start_of p (code_at m f)) (code_at m f) f own k a b.begins (omega arith) (omega arith) in
    let v0 : slice_index own.slots 0 ≡ slot m f 0 = own-slot p m s f 0 b.current (omega arith) in
    let v1 : slice_index own.slots 1 ≡ slot m f 1 = own-slot p m s f 1 b.current (omega arith) in
    let va : slice_index own.slots a ≡ slot m f a = own-slot p m s f a b.current la in
    sends-related p limits m s 7 pc (Carry (slice_index own.slots 0) ((slice_index own.slots 1 + k) % 2 ^ 32) (slice_index own.slots a))
    (Carry (slot m f 0) ((slot m f 1 + k) % 2 ^ 32) (slot m f a)) e (omega arith) g
    (ap (λ (z : ℕ). Carry z ((slice_index own.slots 1 + k) % 2 ^ 32) (slice_index own.slots a)) v0
    ∙ (ap (λ (z : ℕ). Carry (slot m f 0) ((z + k) % 2 ^ 32) (slice_index own.slots a)) v1 ∙ ap (λ (z : ℕ). Carry (slot m f 0) ((slot m f 1 + k) % 2 ^ 32) z)
    va))

-- a wish for an array
pub ialloc-instructs : (p : Program) (args : List ℕ) (limits : Limits) (m : Machine) (s : Host) (f pc n i : ℕ) → MayRun p args limits
    → RelatedAt pc p limits m s
    → m.table.current ≡ Some f → MayDo p (text_at p m f) (Ialloc n i)
    → Stands s.hart.memory pc (expanded (text_at p m f).slots (start_of p (code_at m f)) (code_at m f) (Ialloc n i))
    → ComesTo 28 (pc + 32) p limits s (with_message m (Make (slot m f n) f i))
ialloc-instructs p args limits m s f pc n i r e q may st =
    let x : CodeText = text_at p m f in
    let b : AtInstr p m s f (Ialloc n i) = at-instr p limits m s f pc (Ialloc n i) e q st in
    let own : Frame = own_part x b.current.frame in
    let ls : length own.slots ≡ x.slots = b.as_many in
    let l = first-below n x.slots [] (no-cause (any_of (λ z. beyond z x.slots) (n ∷ [])) bad.Slot (other_faults p x (Ialloc n i)) may.0) in
    let ln : n < x.slots = l.0 in
    let sc : SmallCode p (code_at m f) = small-code p args limits (code_at m f) r b.code_there in
    let fi : length x.inlets ≤ 1024 = sc.few_inlets in
    let li : i < length x.inlets = array-inlet p x n i may.0 in
    let g : Sends 7 s.hart (Make (slice_index own.slots n) f i) =
    ialloc-expands s.hart (start_of p (code_at m f)) (code_at m f) f own n i b.begins (omega arith) (omega arith) in
    let v : slice_index own.slots n ≡ slot m f n = own-slot p m s f n b.current ln in
    sends-related p limits m s 7 pc (Make (slice_index own.slots n) f i) (Make (slot m f n) f i) e (omega arith) g (ap (λ (z : ℕ). Make z f i) v)

-- a fetch
pub ifetch-instructs : (p : Program) (args : List ℕ) (limits : Limits) (m : Machine) (s : Host) (f pc t y i n : ℕ) → MayRun p args limits
    → RelatedAt pc p limits m s
    → m.table.current ≡ Some f → MayDo p (text_at p m f) (Ifetch t y i n)
    → Stands s.hart.memory pc (expanded (text_at p m f).slots (start_of p (code_at m f)) (code_at m f) (Ifetch t y i n))
    → ComesTo 28 (pc + 52) p limits s (with_message m (Ask_cell (slot m f t) (slot m f y) f i (site (code_at m f) n)))
ifetch-instructs p args limits m s f pc t y i n r e q may st =
    let x : CodeText = text_at p m f in
    let c : ℕ = code_at m f in
    let b : AtInstr p m s f (Ifetch t y i n) = at-instr p limits m s f pc (Ifetch t y i n) e q st in
    let own : Frame = own_part x b.current.frame in
    let ls : length own.slots ≡ x.slots = b.as_many in
    let l = first-below t x.slots (y ∷ []) (no-cause (any_of (λ z. beyond z x.slots) (t ∷ y ∷ [])) bad.Slot (other_faults p x (Ifetch t y i n)) may.0) in
    let lt : t < x.slots = l.0 in
    let ly : y < x.slots = (first-below y x.slots [] l.1).0 in
    let sc : SmallCode p c = small-code p args limits c r b.code_there in
    let fi : length x.inlets ≤ 1024 = sc.few_inlets in
    let fc : length p.codes ≤ 256 = r.checked.within.few_codes in
    let ct : c < length p.codes = b.code_there in
    let li : i < length x.inlets = fetch-inlet p x t y i n may.0 in
    let ln : n ≤ 1023 = fetch-node p x t y i n may.0 in
    let g : Sends 12 s.hart (Ask_cell (slice_index own.slots t) (slice_index own.slots y) f i (site c n)) =
    ifetch-expands s.hart (start_of p c) c f own t y i n b.begins (omega arith) (omega arith) (omega arith) (omega arith) in
    let vt : slice_index own.slots t ≡ slot m f t = own-slot p m s f t b.current lt in
    let vy : slice_index own.slots y ≡ slot m f y = own-slot p m s f y b.current ly in
    sends-related p limits m s 12 pc (Ask_cell (slice_index own.slots t) (slice_index own.slots y) f i (site c n))
    (Ask_cell (slot m f t) (slot m f y) f i (site c n)) e
    (omega arith) g
    (ap (λ (z : ℕ). Ask_cell z (slice_index own.slots y) f i (site c n)) vt ∙ ap (λ (z : ℕ). Ask_cell (slot m f t) z f i (site c n)) vy)

-- a store
pub istore-instructs : (p : Program) (args : List ℕ) (limits : Limits) (m : Machine) (s : Host) (f pc t y a n : ℕ) → MayRun p args limits
    → RelatedAt pc p limits m s
    → m.table.current ≡ Some f → MayDo p (text_at p m f) (Istore t y a n)
    → Stands s.hart.memory pc (expanded (text_at p m f).slots (start_of p (code_at m f)) (code_at m f) (Istore t y a n))
    → ComesTo 28 (pc + 52) p limits s (with_message m (Put_cell (slot m f t) (slot m f y) (slot m f a) (site (code_at m f) n)))
istore-instructs p args limits m s f pc t y a n r e q may st =
    let x : CodeText = text_at p m f in
    let c : ℕ = code_at m f in
    let b : AtInstr p m s f (Istore t y a n) = at-instr p limits m s f pc (Istore t y a n) e q st in
    let own : Frame = own_part x b.current.frame in
    let ls : length own.slots ≡ x.slots = b.as_many in
    let l = first-below t x.slots (y ∷ a ∷ []) (no-cause (any_of (λ z. beyond z x.slots) (t ∷ y ∷ a ∷ [])) bad.Slot (other_faults p x (Istore t y a n))
    may.0) in
    let k = first-below y x.slots (a ∷ []) l.1 in
    let lt : t < x.slots = l.0 in
    let ly : y < x.slots = k.0 in
    let la : a < x.slots = (first-below a x.slots [] k.1).0 in
    let fc : length p.codes ≤ 256 = r.checked.within.few_codes in
    let ct : c < length p.codes = b.code_there in
    let ln : n ≤ 1023 = store-node p x t y a n may.0 in
    let g : Sends 12 s.hart (Put_cell (slice_index own.slots t) (slice_index own.slots y) (slice_index own.slots a) (site c n)) =
    istore-expands s.hart (start_of p c) c f own t y a n b.begins (omega arith) (omega arith) (omega arith) (omega arith) in
    let vt : slice_index own.slots t ≡ slot m f t = own-slot p m s f t b.current lt in
    let vy : slice_index own.slots y ≡ slot m f y = own-slot p m s f y b.current ly in
    let va : slice_index own.slots a ≡ slot m f a = own-slot p m s f a b.current la in
    sends-related p limits m s 12 pc (Put_cell (slice_index own.slots t) (slice_index own.slots y) (slice_index own.slots a) (site c n))
    (Put_cell (slot m f t) (slot m f y) (slot m f a) (site c n)) e (omega arith) g
    (ap (λ (z : ℕ). Put_cell z (slice_index own.slots y) (slice_index own.slots a) (site c n)) vt
    ∙ (ap (λ (z : ℕ). Put_cell (slot m f t) z (slice_index own.slots a) (site c n)) vy ∙ ap (λ (z : ℕ). Put_cell (slot m f t) (slot m f y) z (site c n)) va))
