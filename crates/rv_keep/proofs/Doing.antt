-- Each instruction of a thread carries the relation on.
use Rattle.std.proofs.Common.{◌≡◌, ◌≢◌, ℕ, zero, suc, ◌+◌, ◌-◌, ◌*◌, ◌%◌, ◌^◌, ◌<◌, ◌≤◌, inl, inr, List, [], ◌∷◌, length, refl, sym, ap, ◌∙◌, arith}
use Rattle.std.proofs.Common.{true, false, Bool, subst, Some, nat_lt}
use Rattle.std.specs.Prelude.{slice_index}
use Rattle.std.proofs.lemmas.List.{length-take-le}
use Rattle.tam_word.proofs.Tests.{test-below}
use Rattle.tam_word.specs.Words.{meaning}
use Rattle.tam_word.specs.declared.op.Op.{Op}
use Rattle.tam_word.specs.declared.op.Op.TheVariants.{Add, Sub, Mul, Div, Divu, Rem, Remu, And, Or, Xor, Sll, Srl, Sra, Slt, Sltu, Eq}
use Rattle.tam_msgs.specs.Messages.{site}
use Rattle.tam_msgs.specs.Runs.{Wild_skip}
use Rattle.tam_msgs.specs.declared.limits.Limits.{Limits}
use Rattle.tam_msgs.specs.declared.message.Message.TheVariants.{Word as Carry, Frame as Begin, Cells as Make, Fetch as Ask_cell, Store as Put_cell}
use Rattle.frame_tables.specs.FrameTables.{Frame, or_frame, frame_at, lowered}
use Rattle.tl0_code.specs.declared.instr.Instr.{Instr}
use Rattle.tl0_code.specs.declared.instr.Instr.TheVariants.{Imm, Mov, Op as Operate, Fork, Switch, Falloc, Send, Ret, Ialloc, Ifetch, Istore, Skip}
use Rattle.tl0_code.specs.ThreadCode.{CodeText, Program, code_text}
use Rattle.tl0_code.specs.ThreadRuns.{text_at}
use Rattle.tl0_code.specs.Machines.{Machine, Giving, Fine, Broken, code_at, put, slot, spend, branch, skip, done, owing_less, with_message}
use Rattle.rv_inst.specs.declared.inst.Inst.TheVariants.{Jal}
use Rattle.rv_inst.specs.Harts.{Hart, reg, written_at}
use Rattle.rv_inst.specs.Steps.{Comes, Stands}
use Rattle.rv_keep.specs.FrameRecords.{owed_at, cell_at}
use Rattle.rv_keep.specs.KernelPlaces.{post_at}
use Rattle.rv_keep.specs.Expansions.{expanded}
use Rattle.rv_keep.specs.Image.{words_in_all, stride_of, start_of, frame_bytes}
use Rattle.rv_keep.specs.FrameBytes.{Begins, Puts, Owes, Leaves}
use Rattle.rv_keep.specs.Posting.{Posts, gone}
use Rattle.rv_keep.specs.Hosts.{Host, with_hart}
use Rattle.rv_keep.specs.MachineLaws.{MayRun}
use Rattle.rv_keep.specs.PhaseLaws.{RelatedAt, ComesTo, MayDo}
use Rattle.rv_keep.specs.Relation.{Related, frame_address, cell_address, own_part}
use Rattle.rv_keep.proofs.Meanings.{meaning-below}
use Rattle.rv_keep.proofs.Expanding.{op-expands, equal-expands}
use Rattle.rv_keep.proofs.Forking.{fork-expands}
use Rattle.rv_keep.proofs.Switching.{switch-first, switch-second}
use Rattle.rv_keep.proofs.Skipping.{skip-expands}
use Rattle.rv_keep.proofs.Messaging.{falloc-instructs, send-instructs, ret-instructs, ialloc-instructs, ifetch-instructs, istore-instructs}
use Rattle.rv_keep.proofs.Walks.{At, at-start, at-jal}
use Rattle.rv_keep.proofs.ImageLengths.{start-inside}
use Rattle.rv_keep.proofs.Polling.{comes-poll}
use Rattle.rv_keep.proofs.Phases.{related-still, onward-joined}
use Rattle.rv_keep.proofs.Registers.{base-kept}
use Rattle.rv_keep.proofs.Putting.{leaves-related}
use Rattle.rv_keep.proofs.Slotting.{Current, current-there, begins-there, own-slot, imm-instructs, mov-instructs}
use Rattle.rv_keep.proofs.Carrying.{LiveFrame, live-there, comes-carried}
use Rattle.rv_keep.proofs.SpendsOnce.{spends-one, live-frame-at}
use Rattle.rv_keep.proofs.Resting.{owed-carried}
use Rattle.rv_keep.proofs.Keeping.{fine-same}
use Rattle.rv_keep.proofs.Joined.{comes-on, comes-within, image-stands}
use Rattle.rv_keep.proofs.Faultless.{Faultless, faultless, each-below}

-- the machine is at an instruction of the current frame
record Starting (p : Program) (m : Machine) (s : Host) (f : ℕ) (i : Instr) : Type 0 where
  pub now : Current p m s f
  pub begins : Begins s.hart (start_of p (code_at m f)) (code_at m f) f (own_part (text_at p m f) now.frame) i
  pub clean : Faultless p (text_at p m f) i
  pub many_slots : length (own_part (text_at p m f) now.frame).slots ≡ (text_at p m f).slots
  pub many_counts : length (own_part (text_at p m f) now.frame).counts ≡ length (text_at p m f).threads

starting : (p : Program) (limits : Limits) (m : Machine) (s : Host) (f pc : ℕ) (i : Instr) → RelatedAt pc p limits m s → m.table.current ≡ Some f
    → MayDo p (text_at p m f) i → Stands s.hart.memory pc (expanded (text_at p m f).slots (start_of p (code_at m f)) (code_at m f) i) → Starting p m s f i
starting p limits m s f pc i e c may st =
    let k : Current p m s f = current-there p limits m s f e.related c in
    let t : CodeText = text_at p m f in
    let ls : length (own_part t k.frame).slots ≡ t.slots = length-take-le t.slots k.frame.slots k.holds.slots_there in
    let lc : length (own_part t k.frame).counts ≡ length t.threads = length-take-le (length t.threads) k.frame.counts k.holds.counts_there in
    let a : Stands s.hart.memory s.hart.pc (expanded t.slots (start_of p (code_at m f)) (code_at m f) i) =
    subst (λ (x : ℕ). Stands s.hart.memory x (expanded t.slots (start_of p (code_at m f)) (code_at m f) i)) (sym e.at) st in
    let b : Stands s.hart.memory s.hart.pc (expanded (length (own_part t k.frame).slots) (start_of p (code_at m f)) (code_at m f) i) =
    subst (λ (x : ℕ). Stands s.hart.memory s.hart.pc (expanded x (start_of p (code_at m f)) (code_at m f) i)) (sym ls) a in
    record { now = k; begins = begins-there p limits m s f i e.related k b; clean = faultless p t i may.0; many_slots = ls; many_counts = lc }

-- a slot of the own part is the frame's, and a word
slot-word : (p : Program) (m : Machine) (s : Host) (f a : ℕ) (k : Current p m s f) → a < (text_at p m f).slots → slot m f a < 2 ^ 32
slot-word p m s f a k l = subst (λ (x : ℕ). x < 2 ^ 32) (own-slot p m s f a k l) (k.holds.stands.words a)

-- ---- operators

-- an operator that isn't `eq`
operates : (p : Program) (limits : Limits) (m : Machine) (s : Host) (f pc : ℕ) (o : Op) (d a b : ℕ) → RelatedAt pc p limits m s
    → Starting p m s f (Operate o d a b)
    → o ≢ Eq → ComesTo 28 (pc + 40) p limits s (put m f d (meaning o (slot m f a) (slot m f b)))
operates p limits m s f pc o d a b e w n =
    let k : Current p m s f = w.now in
    let t : CodeText = text_at p m f in
    let own : Frame = own_part t k.frame in
    let ls : length own.slots ≡ t.slots = w.many_slots in
    let ld : d < t.slots = each-below t.slots (d ∷ a ∷ b ∷ []) d w.clean.slots (inl refl) in
    let la : a < t.slots = each-below t.slots (d ∷ a ∷ b ∷ []) a w.clean.slots (inr (inl refl)) in
    let lb : b < t.slots = each-below t.slots (d ∷ a ∷ b ∷ []) b w.clean.slots (inr (inr (inl refl))) in
    let va : slice_index own.slots a ≡ slot m f a = own-slot p m s f a k la in
    let vb : slice_index own.slots b ≡ slot m f b = own-slot p m s f b k lb in
    let q : Puts 10 s.hart f own d (meaning o (slice_index own.slots a) (slice_index own.slots b)) =
    op-expands s.hart (start_of p (code_at m f)) (code_at m f) f own o d a b w.begins n (omega arith) (omega arith) (omega arith) in
    let v : meaning o (slice_index own.slots a) (slice_index own.slots b) ≡ meaning o (slot m f a) (slot m f b) =
    ap (λ (x : ℕ). meaning o x (slice_index own.slots b)) va ∙ ap (λ (x : ℕ). meaning o (slot m f a) x) vb in
    let r : Puts 10 s.hart f own d (meaning o (slot m f a) (slot m f b)) = subst (λ (x : ℕ). Puts 10 s.hart f own d x) v q in
    leaves-related p limits m s f d (meaning o (slot m f a) (slot m f b)) 10 pc e k.live ld
    (meaning-below o (slot m f a) (slot m f b) (slot-word p m s f a k la) (slot-word p m s f b k lb)) (omega arith) k.address r.leaves

-- `eq`
equals : (p : Program) (limits : Limits) (m : Machine) (s : Host) (f pc : ℕ) (d a b : ℕ) → RelatedAt pc p limits m s → Starting p m s f (Operate Eq d a b)
    → ComesTo 28 (pc + 44) p limits s (put m f d (meaning Eq (slot m f a) (slot m f b)))
equals p limits m s f pc d a b e w =
    let k : Current p m s f = w.now in
    let t : CodeText = text_at p m f in
    let own : Frame = own_part t k.frame in
    let ls : length own.slots ≡ t.slots = w.many_slots in
    let ld : d < t.slots = each-below t.slots (d ∷ a ∷ b ∷ []) d w.clean.slots (inl refl) in
    let la : a < t.slots = each-below t.slots (d ∷ a ∷ b ∷ []) a w.clean.slots (inr (inl refl)) in
    let lb : b < t.slots = each-below t.slots (d ∷ a ∷ b ∷ []) b w.clean.slots (inr (inr (inl refl))) in
    let va : slice_index own.slots a ≡ slot m f a = own-slot p m s f a k la in
    let vb : slice_index own.slots b ≡ slot m f b = own-slot p m s f b k lb in
    let q : Puts 11 s.hart f own d (meaning Eq (slice_index own.slots a) (slice_index own.slots b)) =
    equal-expands s.hart (start_of p (code_at m f)) (code_at m f) f own d a b w.begins (omega arith) (omega arith) (omega arith) in
    let v : meaning Eq (slice_index own.slots a) (slice_index own.slots b) ≡ meaning Eq (slot m f a) (slot m f b) =
    ap (λ (x : ℕ). meaning Eq x (slice_index own.slots b)) va ∙ ap (λ (x : ℕ). meaning Eq (slot m f a) x) vb in
    let r : Puts 11 s.hart f own d (meaning Eq (slot m f a) (slot m f b)) = subst (λ (x : ℕ). Puts 11 s.hart f own d x) v q in
    leaves-related p limits m s f d (meaning Eq (slot m f a) (slot m f b)) 11 pc e k.live ld
    (meaning-below Eq (slot m f a) (slot m f b) (slot-word p m s f a k la) (slot-word p m s f b k lb)) (omega arith) k.address r.leaves

-- each
operator : (p : Program) (limits : Limits) (m : Machine) (s : Host) (f pc : ℕ) (o : Op) (d a b : ℕ) → RelatedAt pc p limits m s
    → Starting p m s f (Operate o d a b)
    → ComesTo 28 (pc + 4 * length (expanded (text_at p m f).slots (start_of p (code_at m f)) (code_at m f) (Operate o d a b))) p limits s
    (put m f d (meaning o (slot m f a) (slot m f b)))
operator p limits m s f pc Add d a b e w = operates p limits m s f pc Add d a b e w (λ x. absurd cc)
operator p limits m s f pc Sub d a b e w = operates p limits m s f pc Sub d a b e w (λ x. absurd cc)
operator p limits m s f pc Mul d a b e w = operates p limits m s f pc Mul d a b e w (λ x. absurd cc)
operator p limits m s f pc Div d a b e w = operates p limits m s f pc Div d a b e w (λ x. absurd cc)
operator p limits m s f pc Divu d a b e w = operates p limits m s f pc Divu d a b e w (λ x. absurd cc)
operator p limits m s f pc Rem d a b e w = operates p limits m s f pc Rem d a b e w (λ x. absurd cc)
operator p limits m s f pc Remu d a b e w = operates p limits m s f pc Remu d a b e w (λ x. absurd cc)
operator p limits m s f pc And d a b e w = operates p limits m s f pc And d a b e w (λ x. absurd cc)
operator p limits m s f pc Or d a b e w = operates p limits m s f pc Or d a b e w (λ x. absurd cc)
operator p limits m s f pc Xor d a b e w = operates p limits m s f pc Xor d a b e w (λ x. absurd cc)
operator p limits m s f pc Sll d a b e w = operates p limits m s f pc Sll d a b e w (λ x. absurd cc)
operator p limits m s f pc Srl d a b e w = operates p limits m s f pc Srl d a b e w (λ x. absurd cc)
operator p limits m s f pc Sra d a b e w = operates p limits m s f pc Sra d a b e w (λ x. absurd cc)
operator p limits m s f pc Slt d a b e w = operates p limits m s f pc Slt d a b e w (λ x. absurd cc)
operator p limits m s f pc Sltu d a b e w = operates p limits m s f pc Sltu d a b e w (λ x. absurd cc)
operator p limits m s f pc Eq d a b e w = equals p limits m s f pc d a b e w

-- ---- skips

-- a skip that isn't wild
skip-fine : (m n : Machine) (f k : ℕ) → skip m f k ≡ Fine n → (k < (frame_at m.table f).owed) × (owing_less m f k ≡ n)
skip-fine m n f k e = go (nat_lt k (frame_at m.table f).owed) refl e
  where
    go : (t : Bool) → nat_lt k (frame_at m.table f).owed ≡ t → elim t [ true ↦ Fine (owing_less m f k) | false ↦ Broken Wild_skip k ] ≡ Fine n
        → (k < (frame_at m.table f).owed) × (owing_less m f k ≡ n)
    go true q x = (test-below k (frame_at m.table f).owed q, fine-same (owing_less m f k) n x)
    go false q x = absurd (broken x)
      where
        broken : Broken Wild_skip k ≡ Fine n → ⊥
        broken y = cc

skips : (p : Program) (limits : Limits) (m : Machine) (s : Host) (f pc k : ℕ) → RelatedAt pc p limits m s → m.table.current ≡ Some f → Starting p m s f (Skip k)
    → k < (frame_at m.table f).owed → ComesTo 28 (pc + 20) p limits s (owing_less m f k)
skips p limits m s f pc k e c w l =
    let h : LiveFrame p m s f = live-there p limits m s f e.related w.now.live in
    let own : Frame = own_part (text_at p m f) w.now.frame in
    let fo : (frame_at m.table f).owed ≡ w.now.frame.owed = ap (λ x. (or_frame x).owed) w.now.there in
    let ho : (frame_at m.table f).owed ≡ h.frame.owed = ap (λ (x : Frame). x.owed) (live-frame-at p m s f h) in
    let os : h.frame.owed ≤ length (code_text p (code_at m f)).threads = h.holds.owed_small in
    let i : frame_address p f + frame_bytes (code_text p (code_at m f)) ≤ length s.hart.memory = h.inside in
    let sm : length s.hart.memory < 2 ^ 32 = e.related.small in
    let q : Owes 5 s.hart f own (own.owed - k) = skip-expands s.hart (start_of p (code_at m f)) (code_at m f) f own k w.begins (omega arith) (omega arith) in
    let oe : own.owed - k ≡ h.frame.owed - k = omega arith in
    let a : Leaves 5 s.hart (written_at s.hart.memory (reg s.hart 8 + owed_at) 4 (h.frame.owed - k)) =
    subst (λ (x : ℕ). Leaves 5 s.hart (written_at s.hart.memory (reg s.hart 8 + owed_at) 4 x)) oe q.leaves in
    let b : Leaves 5 s.hart (written_at s.hart.memory (frame_address p f + owed_at) 4 (h.frame.owed - k)) =
    subst (λ (x : ℕ). Leaves 5 s.hart (written_at s.hart.memory (x + owed_at) 4 (h.frame.owed - k))) w.now.address a in
    let now : List ℕ = written_at s.hart.memory (frame_address p f + owed_at) 4 (h.frame.owed - k) in
    let d : Comes 5 s.hart (gone s.hart 5 (pc + 20) b.regs now) = subst (λ (x : ℕ). Comes 5 s.hart (gone s.hart 5 (x + 20) b.regs now)) e.at b.comes in
    comes-carried 5 28 (pc + 20) p limits m s (lowered m.table f k) b.regs now (omega arith) d e.related
    (owed-carried p limits m s f k b.regs e.related h (omega arith) b.kept)

-- ---- forks and switches

-- where an instruction came to the routine, it is carried on to where the routine goes back
posted : (p : Program) (args : List ℕ) (limits : Limits) (m n : Machine) (s : Host) (f t back k : ℕ) → MayRun p args limits → Related p limits m s
    → (h : Current p m s f) → length (own_part (text_at p m f) h.frame).slots ≡ (text_at p m f).slots
    → Posts k s.hart back (reg s.hart 8 + cell_at (length (own_part (text_at p m f) h.frame).slots) t) (start_of p (code_at m f) t)
    → t < length (text_at p m f).threads → back % 4 ≡ 0 → back < 2 ^ 32 → spend m f t ≡ Fine n → ComesTo (k + 16) back p limits s n
posted p args limits m n s f t back k r e h ls q l al u fine =
    let g : Hart = gone s.hart k post_at q.regs s.hart.memory in
    let c : ComesTo k post_at p limits s m = record {
      host = with_hart s g;
      onward = record { took = k; few = omega arith; counted = refl; goes = λ j. comes-poll k j s g q.comes };
      there = record { related = related-still p limits m s k post_at q.regs e q.kept; at = refl };
    } in
    let cell : reg s.hart 8 + cell_at (length (own_part (text_at p m f) h.frame).slots) t ≡ cell_address p f (code_at m f) t =
    ap (λ (x : ℕ). x + cell_at (length (own_part (text_at p m f) h.frame).slots) t) h.address ∙ ap (λ (x : ℕ). frame_address p f + cell_at x t) ls in
    let d : ComesTo 16 back p limits c.host n =
    spends-one p args limits m n c.host f t back r c.there (q.frame ∙ h.address) (q.cell_is ∙ cell) q.start_is q.back_is l al u fine in
    record { host = d.host; onward = onward-joined k 16 s c.host d.host c.onward d.onward; there = d.there }

-- where threads begin is a word
start-word : (p : Program) (limits : Limits) (m : Machine) (s : Host) (f t : ℕ) → Related p limits m s → (k : Current p m s f)
    → start_of p (code_at m f) t < 2 ^ 32
start-word p limits m s f t e k =
    let a : start_of p (code_at m f) t ≤ 4 * words_in_all p = start-inside p (code_at m f) t k.holds.code_there in
    let l : length s.hart.memory ≡ 4 * words_in_all p + limits.frames * stride_of p = e.long in
    let sm : length s.hart.memory < 2 ^ 32 = e.small in
    omega arith

-- and so is what is within the image
image-word : (p : Program) (limits : Limits) (m : Machine) (s : Host) (a : ℕ) → Related p limits m s → a ≤ 4 * words_in_all p → a < 2 ^ 32
image-word p limits m s a e u =
    let l : length s.hart.memory ≡ 4 * words_in_all p + limits.frames * stride_of p = e.long in
    let sm : length s.hart.memory < 2 ^ 32 = e.small in
    omega arith

-- a fork
forked : (p : Program) (args : List ℕ) (limits : Limits) (m n : Machine) (s : Host) (f pc t : ℕ) → MayRun p args limits → RelatedAt pc p limits m s
    → Starting p m s f (Fork t) → pc % 4 ≡ 0 → pc + 28 ≤ 4 * words_in_all p → spend m f t ≡ Fine n → ComesTo 28 (pc + 28) p limits s n
forked p args limits m n s f pc t r e w al u fine =
    let k : Current p m s f = w.now in
    let own : Frame = own_part (text_at p m f) k.frame in
    let lc : length own.counts ≡ length (text_at p m f).threads = w.many_counts in
    let lt : t < length (text_at p m f).threads = each-below (length (text_at p m f).threads) (t ∷ []) t w.clean.threads (inl refl) in
    let q : Posts 7 s.hart (s.hart.pc + 28) (reg s.hart 8 + cell_at (length own.slots) t) (start_of p (code_at m f) t) =
    fork-expands s.hart (start_of p (code_at m f)) (code_at m f) f own t w.begins (omega arith) (start-word p limits m s f t e.related k) in
    let q2 : Posts 7 s.hart (pc + 28) (reg s.hart 8 + cell_at (length own.slots) t) (start_of p (code_at m f) t) =
    subst (λ (x : ℕ). Posts 7 s.hart (x + 28) (reg s.hart 8 + cell_at (length own.slots) t) (start_of p (code_at m f) t)) e.at q in
    comes-within 23 28 (pc + 28) p limits s n (omega arith)
    (posted p args limits m n s f t (pc + 28) 7 r e.related k w.many_slots q2 lt (omega arith) (image-word p limits m s (pc + 28) e.related u) fine)

-- a switch whose word is 0
switched-second : (p : Program) (args : List ℕ) (limits : Limits) (m n : Machine) (s : Host) (f pc a t u : ℕ) → MayRun p args limits → RelatedAt pc p limits m s
    → Starting p m s f (Switch a t u) → pc % 4 ≡ 0 → pc + 76 ≤ 4 * words_in_all p → slot m f a ≡ 0 → spend m f u ≡ Fine n → ComesTo 28 (pc + 76) p limits s n
switched-second p args limits m n s f pc a t u r e w al i z fine =
    let k : Current p m s f = w.now in
    let own : Frame = own_part (text_at p m f) k.frame in
    let ls : length own.slots ≡ (text_at p m f).slots = w.many_slots in
    let lc : length own.counts ≡ length (text_at p m f).threads = w.many_counts in
    let la : a < (text_at p m f).slots = each-below (text_at p m f).slots (a ∷ []) a w.clean.slots (inl refl) in
    let lu : u < length (text_at p m f).threads = each-below (length (text_at p m f).threads) (t ∷ u ∷ []) u w.clean.threads (inr (inl refl)) in
    let hp : s.hart.pc ≡ pc = e.at in
    let q : Posts 11 s.hart (s.hart.pc + 76) (reg s.hart 8 + cell_at (length own.slots) u) (start_of p (code_at m f) u) =
    switch-second s.hart (start_of p (code_at m f)) (code_at m f) f own a t u w.begins (omega arith) (omega arith) (start-word p limits m s f u e.related k)
    (omega arith) (own-slot p m s f a k la ∙ z) in
    let q2 : Posts 11 s.hart (pc + 76) (reg s.hart 8 + cell_at (length own.slots) u) (start_of p (code_at m f) u) =
    subst (λ (x : ℕ). Posts 11 s.hart (x + 76) (reg s.hart 8 + cell_at (length own.slots) u) (start_of p (code_at m f) u)) e.at q in
    comes-within 27 28 (pc + 76) p limits s n (omega arith)
    (posted p args limits m n s f u (pc + 76) 11 r e.related k w.many_slots q2 lu (omega arith) (image-word p limits m s (pc + 76) e.related i) fine)

-- one step that jumps
jumps : (p : Program) (limits : Limits) (m : Machine) (s : Host) (pc : ℕ) → RelatedAt pc p limits m s → Stands s.hart.memory pc (Jal 0 32 ∷ []) → pc % 4 ≡ 0
    → pc + 32 < 2 ^ 32 → ComesTo 1 (pc + 32) p limits s m
jumps p limits m s pc e st al u =
    let w : At 1 s.hart (pc + 32) [] s.hart.regs s.hart.memory =
    at-jal 0 s.hart pc [] s.hart.regs s.hart.memory 32 (pc + 32) (at-start s.hart pc [] e.at e.related.registers) st.0 (omega arith) (omega arith) in
    record {
      host = with_hart s (gone s.hart 1 (pc + 32) s.hart.regs s.hart.memory);
      onward = record { took = 1; few = omega arith; counted = refl; goes = λ j. comes-poll 1 j s (gone s.hart 1 (pc + 32) s.hart.regs s.hart.memory) w.comes };
      there = record { related = related-still p limits m s 1 (pc + 32) s.hart.regs e.related (base-kept s.hart.regs); at = refl };
    }

-- a switch whose word isn't 0
switched-first : (p : Program) (args : List ℕ) (limits : Limits) (m n : Machine) (s : Host) (f pc a t u v : ℕ) → MayRun p args limits
    → RelatedAt pc p limits m s
    → Starting p m s f (Switch a t u) → Stands s.hart.memory (pc + 44) (Jal 0 32 ∷ []) → pc % 4 ≡ 0 → pc + 76 ≤ 4 * words_in_all p → slot m f a ≡ suc v
    → spend m f t ≡ Fine n → ComesTo 28 (pc + 76) p limits s n
switched-first p args limits m n s f pc a t u v r e w st al i z fine =
    let k : Current p m s f = w.now in
    let own : Frame = own_part (text_at p m f) k.frame in
    let ls : length own.slots ≡ (text_at p m f).slots = w.many_slots in
    let lc : length own.counts ≡ length (text_at p m f).threads = w.many_counts in
    let la : a < (text_at p m f).slots = each-below (text_at p m f).slots (a ∷ []) a w.clean.slots (inl refl) in
    let lt : t < length (text_at p m f).threads = each-below (length (text_at p m f).threads) (t ∷ u ∷ []) t w.clean.threads (inl refl) in
    let q : Posts 11 s.hart (s.hart.pc + 44) (reg s.hart 8 + cell_at (length own.slots) t) (start_of p (code_at m f) t) =
    switch-first s.hart (start_of p (code_at m f)) (code_at m f) f own a t u v w.begins (omega arith) (omega arith) (start-word p limits m s f t e.related k)
    (own-slot p m s f a k la ∙ z) in
    let q2 : Posts 11 s.hart (pc + 44) (reg s.hart 8 + cell_at (length own.slots) t) (start_of p (code_at m f) t) =
    subst (λ (x : ℕ). Posts 11 s.hart (x + 44) (reg s.hart 8 + cell_at (length own.slots) t) (start_of p (code_at m f) t)) e.at q in
    let b : pc + 76 < 2 ^ 32 = image-word p limits m s (pc + 76) e.related i in
    let c : ComesTo 27 (pc + 44) p limits s n =
    posted p args limits m n s f t (pc + 44) 11 r e.related k w.many_slots q2 lt (omega arith) (omega arith) fine in
    let x : pc + 44 + 32 ≡ pc + 76 = omega arith in
    subst (λ (y : ℕ). ComesTo 28 y p limits s n) x
    (comes-on 27 1 (pc + 44) (pc + 44 + 32) p limits s n n c
    (λ h g. jumps p limits n h (pc + 44) g (image-stands p limits m n s h (pc + 44) (Jal 0 32 ∷ []) e.related g.related (omega arith) st) (omega arith)
    (omega arith)))

-- each
switched : (p : Program) (args : List ℕ) (limits : Limits) (m n : Machine) (s : Host) (f pc a t u : ℕ) → MayRun p args limits → RelatedAt pc p limits m s
    → Starting p m s f (Switch a t u) → Stands s.hart.memory (pc + 44) (Jal 0 32 ∷ []) → pc % 4 ≡ 0 → pc + 76 ≤ 4 * words_in_all p
    → spend m f (branch (slot m f a) t u) ≡ Fine n → ComesTo 28 (pc + 76) p limits s n
switched p args limits m n s f pc a t u r e w st al i fine = go (slot m f a) refl
  where
    go : (x : ℕ) → slot m f a ≡ x → ComesTo 28 (pc + 76) p limits s n
    go zero z = switched-second p args limits m n s f pc a t u r e w al i z (sym (ap (λ (x : ℕ). spend m f (branch x t u)) z) ∙ fine)
    go (suc v) z = switched-first p args limits m n s f pc a t u v r e w st al i z (sym (ap (λ (x : ℕ). spend m f (branch x t u)) z) ∙ fine)

-- ---- all of them

-- each instruction of a thread leaves the two related, within its number of instructions
pub instructs : (p : Program) (args : List ℕ) (limits : Limits) (m n : Machine) (s : Host) (f pc : ℕ) (i : Instr) → MayRun p args limits
    → RelatedAt pc p limits m s → m.table.current ≡ Some f → MayDo p (text_at p m f) i → pc % 4 ≡ 0
    → Stands s.hart.memory pc (expanded (text_at p m f).slots (start_of p (code_at m f)) (code_at m f) i)
    → pc + 4 * length (expanded (text_at p m f).slots (start_of p (code_at m f)) (code_at m f) i) ≤ 4 * words_in_all p
    → done Giving m f i ≡ Fine n
    → ComesTo 28 (pc + 4 * length (expanded (text_at p m f).slots (start_of p (code_at m f)) (code_at m f) i)) p limits s n
instructs p args limits m n s f pc (Imm d w) r e c may al st u fine =
    subst (λ (x : Machine). ComesTo 28 (pc + 20) p limits s x) (fine-same (put m f d w) n fine) (imm-instructs p limits m s f pc d w e c may st)
instructs p args limits m n s f pc (Mov d a) r e c may al st u fine =
    subst (λ (x : Machine). ComesTo 28 (pc + 24) p limits s x) (fine-same (put m f d (slot m f a)) n fine) (mov-instructs p limits m s f pc d a e c may st)
instructs p args limits m n s f pc (Operate o d a b) r e c may al st u fine =
    subst (λ (x : Machine). ComesTo 28 (pc + 4 * length (expanded (text_at p m f).slots (start_of p (code_at m f)) (code_at m f) (Operate o d a b))) p limits
    s x)
    (fine-same (put m f d (meaning o (slot m f a) (slot m f b))) n fine)
    (operator p limits m s f pc o d a b e (starting p limits m s f pc (Operate o d a b) e c may st))
instructs p args limits m n s f pc (Fork t) r e c may al st u fine =
    forked p args limits m n s f pc t r e (starting p limits m s f pc (Fork t) e c may st) al u fine
instructs p args limits m n s f pc (Switch a t v) r e c may al st u fine =
    let j : Stands s.hart.memory (pc + 44) (Jal 0 32 ∷ []) = jump-stands st in
    switched p args limits m n s f pc a t v r e (starting p limits m s f pc (Switch a t v) e c may st) j al u fine
  where
    jump-stands : Stands s.hart.memory pc (expanded (text_at p m f).slots (start_of p (code_at m f)) (code_at m f) (Switch a t v))
        → Stands s.hart.memory (pc + 44) (Jal 0 32 ∷ [])
    jump-stands st =
        let b : pc + 4 + 4 + 4 + 4 + 4 + 4 + 4 + 4 + 4 + 4 + 4 ≡ pc + 44 = omega arith in
        subst (λ (x : ℕ). Stands s.hart.memory x (Jal 0 32 ∷ [])) b (st.1.1.1.1.1.1.1.1.1.1.1.0, tt)
instructs p args limits m n s f pc (Falloc d i) r e c may al st u fine =
    subst (λ (x : Machine). ComesTo 28 (pc + 24) p limits s x) (fine-same (with_message m (Begin d f i)) n fine)
    (falloc-instructs p args limits m s f pc d i r e c may st)
instructs p args limits m n s f pc (Send a k b) r e c may al st u fine =
    subst (λ (x : Machine). ComesTo 28 (pc + 40) p limits s x) (fine-same (with_message m (Carry (slot m f a) k (slot m f b))) n fine)
    (send-instructs p args limits m s f pc a k b r e c may st)
instructs p args limits m n s f pc (Ret k a) r e c may al st u fine =
    subst (λ (x : Machine). ComesTo 28 (pc + 32) p limits s x)
    (fine-same (with_message m (Carry (slot m f 0) ((slot m f 1 + k) % 2 ^ 32) (slot m f a))) n fine)
    (ret-instructs p args limits m s f pc k a r e c may st)
instructs p args limits m n s f pc (Ialloc a i) r e c may al st u fine =
    subst (λ (x : Machine). ComesTo 28 (pc + 32) p limits s x) (fine-same (with_message m (Make (slot m f a) f i)) n fine)
    (ialloc-instructs p args limits m s f pc a i r e c may st)
instructs p args limits m n s f pc (Ifetch a b i k) r e c may al st u fine =
    subst (λ (x : Machine). ComesTo 28 (pc + 52) p limits s x)
    (fine-same (with_message m (Ask_cell (slot m f a) (slot m f b) f i (site (code_at m f) k))) n fine)
    (ifetch-instructs p args limits m s f pc a b i k r e c may st)
instructs p args limits m n s f pc (Istore a b g k) r e c may al st u fine =
    subst (λ (x : Machine). ComesTo 28 (pc + 52) p limits s x)
    (fine-same (with_message m (Put_cell (slot m f a) (slot m f b) (slot m f g) (site (code_at m f) k))) n fine)
    (istore-instructs p args limits m s f pc a b g k r e c may st)
instructs p args limits m n s f pc (Skip k) r e c may al st u fine =
    let w : Starting p m s f (Skip k) = starting p limits m s f pc (Skip k) e c may st in
    let q = skip-fine m n f k fine in
    subst (λ (x : Machine). ComesTo 28 (pc + 20) p limits s x) q.1 (skips p limits m s f pc k e c w q.0)
