-- The instructions that put a word into a slot carry the relation on: a number, another slot.
use Rattle.std.proofs.Common.{◌≡◌, ℕ, ◌+◌, ◌^◌, ◌<◌, List, [], ◌∷◌, ◌++◌, length, refl, sym, ap, ◌∙◌, arith, true, false, Bool, true≢false, subst}
use Rattle.std.proofs.Common.{Some, slice_get}
use Rattle.std.specs.Prelude.{slice_index, nat_lt}
use Rattle.std.proofs.lemmas.List.{get_or-take, length-take-le}
use Rattle.tam_word.specs.Lists.{any_of, beyond, where_so}
use Rattle.tam_word.proofs.Tests.{test-below}
use Rattle.tam_msgs.specs.declared.limits.Limits.{Limits}
use Rattle.frame_tables.specs.FrameTables.{Frame, is_live, or_frame, frame_at}
use Rattle.tl0_code.specs.declared.bad_cause.BadCause.{BadCause}
use Rattle.tl0_code.specs.declared.instr.Instr.{Instr}
use Rattle.tl0_code.specs.declared.instr.Instr.TheVariants.{Imm, Mov}
use Rattle.tl0_code.specs.declared.bad_cause.BadCause.TheVariants as bad
use Rattle.tl0_code.specs.CodeRules.{threads_in, has_bad_inlet, has_bad_callee, has_bad_place}
use Rattle.tl0_code.specs.ThreadCode.{CodeText, Program}
use Rattle.tl0_code.specs.Machines.{Machine, code_at, put, slot}
use Rattle.tl0_code.specs.ThreadRuns.{text_at}
use Rattle.rv_inst.specs.Harts.{reg}
use Rattle.rv_inst.specs.Steps.{Stands}
use Rattle.rv_keep.specs.Expansions.{load_number, get, put as put_slot, expanded}
use Rattle.rv_keep.specs.Image.{start_of}
use Rattle.rv_keep.specs.FrameBytes.{FrameStands, Begins, Puts}
use Rattle.rv_keep.specs.Hosts.{Host}
use Rattle.rv_keep.specs.Relation.{FrameHolds, Related, current_address, frame_address, own_part}
use Rattle.rv_keep.specs.PhaseLaws.{RelatedAt, ComesTo, MayDo}
use Rattle.rv_keep.proofs.TableChanges.{live-frame}
use Rattle.rv_keep.proofs.Expanding.{imm-expands, mov-expands}
use Rattle.rv_keep.proofs.Putting.{leaves-related}

-- a cause that isn't told isn't there
pub no-cause : (t : Bool) (x : BadCause) (ys : List BadCause) → where_so t x ++ ys ≡ [] → t ≡ false
no-cause false x ys e = refl
no-cause true x ys e = absurd cc

-- a number that isn't beyond n is below it
pub not-beyond : (k n : ℕ) → beyond k n ≡ false → k < n
not-beyond k n e = test-below k n (go (nat_lt k n) e)
  where
    go : (t : Bool) → elim t [ true ↦ false | false ↦ true ] ≡ false → t ≡ true
    go true q = refl
    go false q = absurd (true≢false q)

-- none of two numbers is beyond n
pub first-below : (a n : ℕ) (ks : List ℕ) → any_of (λ s. beyond s n) (a ∷ ks) ≡ false → (a < n) × (any_of (λ s. beyond s n) ks ≡ false)
first-below a n ks e = go (beyond a n) refl e
  where
    go : (t : Bool) → beyond a n ≡ t → elim t [ true ↦ true | false ↦ any_of (λ s. beyond s n) ks ] ≡ false → (a < n) × (any_of (λ s. beyond s n) ks ≡ false)
    go true p q = absurd (true≢false q)
    go false p q = (not-beyond a n p, q)

-- the faults of an instruction behind those of its slots
abbrev pub other_faults : Program → CodeText → Instr → List BadCause
other_faults p c i =
    where_so (any_of (λ t. beyond t (length c.threads)) (threads_in i)) bad.Thread
    ++ (where_so (has_bad_inlet p c i) bad.Inlet ++ (where_so (has_bad_callee p i) bad.Callee ++ where_so (has_bad_place c i) bad.Place))

-- the current frame: it is there, and register 8 has its address
pub record Current (p : Program) (m : Machine) (s : Host) (f : ℕ) : Type 0 where
  pub frame : Frame
  pub there : slice_get m.table.frames f ≡ Some (Some frame)
  pub live : is_live m.table f ≡ true
  pub holds : FrameHolds p s.hart.memory f (code_at m f) frame
  pub address : reg s.hart 8 ≡ frame_address p f

-- it is
pub current-there : (p : Program) (limits : Limits) (m : Machine) (s : Host) (f : ℕ) → Related p limits m s → m.table.current ≡ Some f → Current p m s f
current-there p limits m s f e q =
    let v : is_live m.table f ≡ true = e.turns.current_live f q in
    let h = live-frame m.table.frames f v in
    record {
      frame = h.0;
      there = h.1;
      live = v;
      holds = e.frames f h.0 h.1;
      address = e.current ∙ address-of q;
    }
  where
    address-of : m.table.current ≡ Some f → current_address p m.table.current ≡ frame_address p f
    address-of c = ap (λ x. current_address p x) c

-- the machine is at an expansion of an instruction of the current frame
pub begins-there : (p : Program) (limits : Limits) (m : Machine) (s : Host) (f : ℕ) (i : Instr) → Related p limits m s → (k : Current p m s f)
    → Stands s.hart.memory s.hart.pc (expanded (length (own_part (text_at p m f) k.frame).slots) (start_of p (code_at m f)) (code_at m f) i)
    → Begins s.hart (start_of p (code_at m f)) (code_at m f) f (own_part (text_at p m f) k.frame) i
begins-there p limits m s f i e k st = record {
  stands = st;
  frame = subst (λ (x : ℕ). FrameStands s.hart.memory x f (own_part (text_at p m f) k.frame)) (sym k.address) k.holds.stands;
  zero_stays = e.zero_stays;
  registers = e.registers;
}

-- a slot of the frame's own part is the frame's
pub own-slot : (p : Program) (m : Machine) (s : Host) (f a : ℕ) (k : Current p m s f) → a < (text_at p m f).slots
    → slice_index (own_part (text_at p m f) k.frame).slots a ≡ slot m f a
own-slot p m s f a k l =
    let h : frame_at m.table f ≡ k.frame = ap or_frame k.there in
    get_or-take (text_at p m f).slots k.frame.slots a 0 l ∙ ap (λ (x : Frame). slice_index x.slots a) (sym h)

-- a number goes into a slot
pub imm-instructs : (p : Program) (limits : Limits) (m : Machine) (s : Host) (f pc d w : ℕ) → RelatedAt pc p limits m s → m.table.current ≡ Some f
    → MayDo p (text_at p m f) (Imm d w)
    → Stands s.hart.memory pc (load_number 5 w ++ put_slot 5 d) → ComesTo 28 (pc + 20) p limits s (put m f d w)
imm-instructs p limits m s f pc d w e q may st =
    let k : Current p m s f = current-there p limits m s f e.related q in
    let l = first-below d (text_at p m f).slots [] (no-cause (any_of (λ x. beyond x (text_at p m f).slots) (d ∷ [])) bad.Slot
    (other_faults p (text_at p m f) (Imm d w)) may.0) in
    let u : w < 2 ^ 32 = may.1 d w refl in
    let own : Frame = own_part (text_at p m f) k.frame in
    let ls : length own.slots ≡ (text_at p m f).slots = length-take-le (text_at p m f).slots k.frame.slots k.holds.slots_there in
    let lo : d < length own.slots = subst (λ (x : ℕ). d < x) (sym ls) l.0 in
    let b : Begins s.hart (start_of p (code_at m f)) (code_at m f) f own (Imm d w) =
    begins-there p limits m s f (Imm d w) e.related k (subst (λ (x : ℕ). Stands s.hart.memory x (load_number 5 w ++ put_slot 5 d)) (sym e.at) st) in
    let r : Puts 5 s.hart f own d w = imm-expands s.hart (start_of p (code_at m f)) (code_at m f) f own d w b lo u in
    leaves-related p limits m s f d w 5 pc e k.live l.0 u (omega arith) k.address r.leaves

-- a slot goes into a slot
pub mov-instructs : (p : Program) (limits : Limits) (m : Machine) (s : Host) (f pc d a : ℕ) → RelatedAt pc p limits m s → m.table.current ≡ Some f
    → MayDo p (text_at p m f) (Mov d a)
    → Stands s.hart.memory pc (get 5 a ++ put_slot 5 d) → ComesTo 28 (pc + 24) p limits s (put m f d (slot m f a))
mov-instructs p limits m s f pc d a e q may st =
    let k : Current p m s f = current-there p limits m s f e.related q in
    let l = first-below d (text_at p m f).slots (a ∷ [])
    (no-cause (any_of (λ x. beyond x (text_at p m f).slots) (d ∷ a ∷ [])) bad.Slot (other_faults p (text_at p m f) (Mov d a)) may.0) in
    let la = first-below a (text_at p m f).slots [] l.1 in
    let own : Frame = own_part (text_at p m f) k.frame in
    let ls : length own.slots ≡ (text_at p m f).slots = length-take-le (text_at p m f).slots k.frame.slots k.holds.slots_there in
    let lo : d < length own.slots = subst (λ (x : ℕ). d < x) (sym ls) l.0 in
    let lb : a < length own.slots = subst (λ (x : ℕ). a < x) (sym ls) la.0 in
    let b : Begins s.hart (start_of p (code_at m f)) (code_at m f) f own (Mov d a) =
    begins-there p limits m s f (Mov d a) e.related k (subst (λ (x : ℕ). Stands s.hart.memory x (get 5 a ++ put_slot 5 d)) (sym e.at) st) in
    let v : slice_index own.slots a ≡ slot m f a = own-slot p m s f a k la.0 in
    let u : slot m f a < 2 ^ 32 = subst (λ (x : ℕ). x < 2 ^ 32) v (k.holds.stands.words a) in
    let r : Puts 6 s.hart f own d (slice_index own.slots a) = mov-expands s.hart (start_of p (code_at m f)) (code_at m f) f own d a b lo lb in
    let t : Puts 6 s.hart f own d (slot m f a) = subst (λ (x : ℕ). Puts 6 s.hart f own d x) v r in
    leaves-related p limits m s f d (slot m f a) 6 pc e k.live l.0 u (omega arith) k.address t.leaves
