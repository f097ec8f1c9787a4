-- A frame that is asked for: from where the host has given its number the machine begins it, spends its thread 0 once, and polls, the two runs related.
use Rattle.std.proofs.Common.{◌≡◌, ℕ, zero, suc, ◌+◌, ◌*◌, ◌^◌, ◌<◌, ◌≤◌, List, [], ◌∷◌, length, refl, sym, ap, ◌∙◌, arith, false, subst, Option}
use Rattle.std.proofs.Common.{Some, None, slice_get, inl, inr}
use Rattle.std.specs.Prelude.{slice_index, slice_set}
use Rattle.tam_word.specs.Lists.{has}
use Rattle.tam_word.specs.Words.{wrapped}
use Rattle.tam_word.proofs.Members.{In}
use Rattle.tam_msgs.specs.declared.limits.Limits.{Limits}
use Rattle.tam_msgs.specs.declared.message.Message.{Message}
use Rattle.tam_msgs.specs.declared.message.Message.TheVariants.{Word as Carry}
use Rattle.frame_tables.specs.FrameTables.{frame_at, live_count, next_number, next_number_of}
use Rattle.tl0_code.specs.ThreadCode.{CodeText, Program, code_text, counts_of}
use Rattle.tl0_code.specs.Machines.{Machine, Fine, code_at, with_message, spend, spend_of, then_do}
use Rattle.tl0_code.specs.ThreadRuns.{with_frame as thread_frame, begin_for}
use Rattle.rv_inst.specs.Harts.{Hart, reg}
use Rattle.rv_keep.specs.FrameRecords.{slots_at, cell_at}
use Rattle.rv_keep.specs.KernelPlaces.{poll_at, begin_at, post_at}
use Rattle.rv_keep.specs.KernelSteps.{AtKernel, Goes}
use Rattle.rv_keep.specs.KernelFrames.{WordIs, RecordIs, Beginning, begun}
use Rattle.rv_keep.specs.Image.{words_in_all, stride_of, code_table, start_of, record_of, inlets_of_code, frame_bytes}
use Rattle.rv_keep.specs.FrameBytes.{base_regs, BaseKept}
use Rattle.rv_keep.specs.Posting.{gone}
use Rattle.rv_keep.specs.Hosts.{Host, with_hart}
use Rattle.rv_keep.specs.HostRuns.{with_frame}
use Rattle.rv_keep.specs.MachineLaws.{MayRun}
use Rattle.rv_keep.specs.Relation.{Related, frame_address, cell_address}
use Rattle.rv_keep.specs.PhaseLaws.{RelatedAt, ComesTo, SpendsOne, Frames}
use Rattle.rv_keep.proofs.Registers.{set-same, set-other, set-length, base-joined, base-set}
use Rattle.rv_keep.proofs.KernelWalks.{turns-to-begin}
use Rattle.rv_keep.proofs.KernelBegun.{begins-frame}
use Rattle.rv_keep.proofs.KernelLoops.{begin_used}
use Rattle.rv_keep.proofs.Phases.{related-kernel, onward-comes, base-goes}
use Rattle.rv_keep.proofs.ImageLengths.{length-mapped}
use Rattle.rv_keep.proofs.OtherFrames.{stride-wide}
use Rattle.rv_keep.proofs.CheckedCode.{head-is}
use Rattle.rv_keep.proofs.RecordsStand.{HoldsImage, code-word, record-stands, record-ends}
use Rattle.rv_keep.proofs.Delivering.{comes-behind, comes-on, comes-within, base-apart, polls-after, address-is, image-held}
use Rattle.rv_keep.proofs.Taking.{code-put}
use Rattle.rv_keep.proofs.NewHolds.{RoomFor, more_slots, begun_for, address-aligned}
use Rattle.rv_keep.proofs.BegunRelated.{NewIn, new-in, took_host, related-begun, related-message}

-- the machine at the kernel's beginning of a frame of code c, with these first slots
pub record AtBegin (p : Program) (h : Hart) (f c w0 w1 : ℕ) : Type 0 where
  pub kernel : AtKernel h begin_at
  pub number_is : reg h 11 ≡ f
  pub code_is : reg h 12 ≡ c
  pub first_is : reg h 13 ≡ w0
  pub second_is : reg h 14 ≡ w1
  pub base_is : reg h 19 ≡ 4 * words_in_all p
  pub stride_is : reg h 20 ≡ stride_of p
  pub table_is : reg h 21 ≡ code_table p

-- the registers that are set when it comes to post thread 0
abbrev pub posting_sets : Program → ℕ → ℕ → List (ℕ × ℕ)
posting_sets p f c =
    (1, 244) ∷ (10, frame_address p f) ∷ (11, frame_address p f + (slots_at + 8 + 4 * more_slots p c)) ∷ (12, start_of p c 0) ∷ []

-- how many steps it takes
abbrev pub begin_steps : Program → ℕ → ℕ
begin_steps p c = 24 + 4 * more_slots p c + 6 * length (counts_of (code_text p c))

-- where the frame's words are read
beginning : (p : Program) (args : List ℕ) (limits : Limits) (h : Hart) (f c w0 w1 : ℕ) → MayRun p args limits → HoldsImage p h.memory
    → RoomFor p h.memory f c w0 w1 → AtBegin p h f c w0 w1
    → Beginning h (frame_address p f) (record_of p c) (inlets_of_code p c) (start_of p c 0) (more_slots p c) (counts_of (code_text p c))
beginning p args limits h f c w0 w1 r im room a =
    let x : CodeText = code_text p c in
    let cl : c < length p.codes = room.code_there in
    let few : length p.codes ≤ 256 = r.checked.within.few_codes in
    let two : 2 ≤ x.slots = (head-is p c r.checked cl).two_slots in
    let wide : frame_bytes x ≤ stride_of p = stride-wide p c cl in
    let cs : length (counts_of x) ≡ length x.threads = length-mapped (λ t. t.count) x.threads in
    let rm : frame_address p f + stride_of p ≤ length h.memory = room.room in
    let re : record_of p c + 4 * (4 + length x.threads + 4 * length x.inlets) ≤ 4 * words_in_all p = record-ends p c cl in
    let cd : reg h 12 ≡ c = a.code_is in
    let w : WordIs h.memory (4 * c + code_table p) (record_of p c) = code-word p args limits h.memory c r im cl in
    let o : 4 * c + code_table p ≡ 4 * reg h 12 + reg h 21 =
    ap (λ (y : ℕ). 4 * y + code_table p) (sym a.code_is) ∙ ap (λ (y : ℕ). 4 * reg h 12 + y) (sym a.table_is) in
    let rs : RecordIs h.memory (record_of p c) (inlets_of_code p c) (cell_at x.slots 0) (start_of p c 0) (counts_of x) =
    record-stands p args limits h.memory c r im cl in
    let ce : cell_at x.slots 0 ≡ slots_at + 8 + 4 * more_slots p c = omega arith in
    record {
      frame_is = address-is p f (reg h 11) (reg h 20) (reg h 19) a.number_is a.stride_is a.base_is;
      code_small = omega arith;
      code_word = subst (λ (y : ℕ). WordIs h.memory y (record_of p c)) o w;
      frame_in = record { aligned = address-aligned p f; behind = omega arith; inside = omega arith };
      record_is = subst (λ (y : ℕ). RecordIs h.memory (record_of p c) (inlets_of_code p c) y (start_of p c 0) (counts_of x)) ce rs;
      record_before = omega arith;
      room = omega arith;
    }

-- it comes to post thread 0, the frame's bytes written
pub begins : (p : Program) (args : List ℕ) (limits : Limits) (h : Hart) (f c w0 w1 : ℕ) → MayRun p args limits → HoldsImage p h.memory
    → RoomFor p h.memory f c w0 w1 → AtBegin p h f c w0 w1 → Goes (begin_steps p c) h post_at begin_used (posting_sets p f c) (begun_for p h.memory f c w0 w1)
begins p args limits h f c w0 w1 r im room a =
    let x : CodeText = code_text p c in
    let at : ℕ = frame_address p f in
    let g : Goes (begin_steps p c) h post_at begin_used (posting_sets p f c)
    (begun h.memory at (reg h 11) (inlets_of_code p c) (reg h 13) (reg h 14) (more_slots p c) (counts_of x)) =
    begins-frame h at (record_of p c) (inlets_of_code p c) (start_of p c 0) (more_slots p c) (counts_of x) a.kernel
    (beginning p args limits h f c w0 w1 r im room a) in
    let e : begun h.memory at (reg h 11) (inlets_of_code p c) (reg h 13) (reg h 14) (more_slots p c) (counts_of x) ≡ begun_for p h.memory f c w0 w1 =
    ap (λ (y : ℕ). begun h.memory at y (inlets_of_code p c) (reg h 13) (reg h 14) (more_slots p c) (counts_of x)) a.number_is
    ∙ (ap (λ (y : ℕ). begun h.memory at f (inlets_of_code p c) y (reg h 14) (more_slots p c) (counts_of x)) a.first_is
    ∙ ap (λ (y : ℕ). begun h.memory at f (inlets_of_code p c) w0 y (more_slots p c) (counts_of x)) a.second_is) in
    subst (λ (y : List ℕ). Goes (begin_steps p c) h post_at begin_used (posting_sets p f c) y) e g

-- the registers that it sets aren't base registers
pub begin-apart : (y : ℕ) → In y begin_used → has base_regs y ≡ false
begin-apart y (inl q) = ap (λ (a : ℕ). has base_regs a) (sym q)
begin-apart y (inr (inl q)) = ap (λ (a : ℕ). has base_regs a) (sym q)
begin-apart y (inr (inr (inl q))) = ap (λ (a : ℕ). has base_regs a) (sym q)
begin-apart y (inr (inr (inr (inl q)))) = ap (λ (a : ℕ). has base_regs a) (sym q)
begin-apart y (inr (inr (inr (inr (inl q))))) = ap (λ (a : ℕ). has base_regs a) (sym q)
begin-apart y (inr (inr (inr (inr (inr (inl q)))))) = ap (λ (a : ℕ). has base_regs a) (sym q)
begin-apart y (inr (inr (inr (inr (inr (inr (inl q))))))) = ap (λ (a : ℕ). has base_regs a) (sym q)
begin-apart y (inr (inr (inr (inr (inr (inr (inr (inl q)))))))) = ap (λ (a : ℕ). has base_regs a) (sym q)
begin-apart y (inr (inr (inr (inr (inr (inr (inr (inr q)))))))) = absurd q

-- from the post of thread 0 of the new frame to the poll
pub posts-first : SpendsOne → (p : Program) (args : List ℕ) (limits : Limits) (m n : Machine) (s : Host) (f c : ℕ) → MayRun p args limits
    → c < length p.codes → RelatedAt post_at p limits m s
    → reg s.hart 10 ≡ frame_address p f → reg s.hart 11 ≡ frame_address p f + (slots_at + 8 + 4 * more_slots p c) → reg s.hart 12 ≡ start_of p c 0
    → reg s.hart 1 ≡ 244 → code_at m f ≡ c → spend m f 0 ≡ Fine n → ComesTo (16 + 1) poll_at p limits s n
posts-first spends p args limits m n s f c r cl e r10 r11 r12 r1 co sp =
    let two : 2 ≤ (code_text p c).slots = (head-is p c r.checked cl).two_slots in
    let o : frame_address p f + (slots_at + 8 + 4 * more_slots p c) ≡ cell_address p f c 0 = omega arith in
    let c1 : ComesTo 16 244 p limits s n =
    spends p args limits m n s f 0 244 r e r10 (r11 ∙ (o ∙ ap (λ (y : ℕ). cell_address p f y 0) (sym co)))
    (r12 ∙ ap (λ (y : ℕ). start_of p y 0) (sym co)) r1
    (subst (λ (y : ℕ). 0 < length (code_text p y).threads) (sym co) (r.checked.within.each_code c cl).some_thread) refl (omega arith) sp in
    comes-on 16 1 244 poll_at p limits s n n c1 (polls-after p args limits n c1.host r c1.there)

-- a message that is sent behind a count that is spent may be sent before
message-first : (m n : Machine) (f t : ℕ) (x : Message) (o : Option ℕ) → then_do (spend_of m f t o) (λ k. Fine (with_message k x)) ≡ Fine n
    → spend_of (with_message m x) f t o ≡ Fine n
message-first m n f t x None e = absurd cc
message-first m n f t x (Some zero) e = absurd cc
message-first m n f t x (Some (suc k)) e = e

-- the registers as the host sets them
abbrev told : List ℕ → ℕ → ℕ → ℕ → ℕ → List ℕ
told regs number c f w = slice_set (slice_set (slice_set (slice_set (slice_set regs 10 3) 11 number) 12 c) 13 f) 14 w

-- what they are
record Told (regs : List ℕ) (number c f w : ℕ) : Type 0 where
  pub kept : BaseKept regs (told regs number c f w)
  pub begins : slice_index (told regs number c f w) 10 ≡ 3
  pub number_is : slice_index (told regs number c f w) 11 ≡ number
  pub code_is : slice_index (told regs number c f w) 12 ≡ c
  pub first_is : slice_index (told regs number c f w) 13 ≡ f
  pub second_is : slice_index (told regs number c f w) 14 ≡ w

-- they are
told-is : (regs : List ℕ) (number c f w : ℕ) → length regs ≡ 32 → Told regs number c f w
told-is regs number c f w l =
    let a : List ℕ = slice_set regs 10 3 in
    let b : List ℕ = slice_set a 11 number in
    let d : List ℕ = slice_set b 12 c in
    let g : List ℕ = slice_set d 13 f in
    let la : length a ≡ length regs = set-length regs 10 3 in
    let lb : length b ≡ length a = set-length a 11 number in
    let ld : length d ≡ length b = set-length b 12 c in
    let lg : length g ≡ length d = set-length d 13 f in
    record {
      kept = base-joined regs a (slice_set g 14 w) (base-set regs 10 3 refl)
          (base-joined a b (slice_set g 14 w) (base-set a 11 number refl)
          (base-joined b d (slice_set g 14 w) (base-set b 12 c refl) (base-joined d g (slice_set g 14 w) (base-set d 13 f refl) (base-set g 14 w refl))));
      begins = set-other g 14 10 w (omega arith) ∙ (set-other d 13 10 f (omega arith)
          ∙ (set-other b 12 10 c (omega arith) ∙ (set-other a 11 10 number (omega arith) ∙ set-same regs 10 3 (omega arith))));
      number_is = set-other g 14 11 w (omega arith) ∙ (set-other d 13 11 f (omega arith)
          ∙ (set-other b 12 11 c (omega arith) ∙ set-same a 11 number (omega arith)));
      code_is = set-other g 14 12 w (omega arith) ∙ (set-other d 13 12 f (omega arith) ∙ set-same b 12 c (omega arith));
      first_is = set-other g 14 13 w (omega arith) ∙ set-same d 13 f (omega arith);
      second_is = set-same g 14 w (omega arith);
    }

-- with the number that the table gives
asked : SpendsOne → (p : Program) (args : List ℕ) (limits : Limits) (m n : Machine) (s : Host) (c f i : ℕ) → MayRun p args limits → RelatedAt 80 p limits m s
    → c < length p.codes → f < 2 ^ 32 → live_count m.table < limits.frames → begin_for p m c f i ≡ Fine n
    → ComesTo (38 + 6 * length (code_text p c).threads + 4 * (code_text p c).slots) poll_at p limits (with_frame s (next_number m.table) c f i) n
asked spends p args limits m n s c f i r e lc lf lv bf =
    let x : CodeText = code_text p c in
    let num : ℕ = next_number m.table in
    let w : ℕ = wrapped (i + 1) in
    let mem : List ℕ = s.hart.memory in
    let s0 : Host = with_frame s num c f i in
    let t : Told s.hart.regs num c f w = told-is s.hart.regs num c f w e.related.registers in
    let wl : w < 2 ^ 32 = omega arith in
    let ni : NewIn p limits m s c f w = new-in p args limits m s c f w r e.related lc lf wl lv in
    let k0 : AtKernel s0.hart 80 = record {
      at = e.at;
      kernel = related-kernel p args limits m s r e.related;
      registers = t.kept.as_many ∙ e.related.registers;
      zero_stays = t.kept.same 0 refl ∙ e.related.zero_stays;
      small = e.related.small;
    } in
    let g1 : Goes 5 s0.hart begin_at (5 ∷ []) [] mem = turns-to-begin s0.hart k0 t.begins in
    let h1 : Hart = gone s0.hart 5 begin_at g1.regs mem in
    let s1 : Host = with_hart s0 h1 in
    let b1 : BaseKept s0.hart.regs g1.regs =
    base-goes 5 s0.hart begin_at (5 ∷ []) [] mem g1 k0.registers
    (base-apart (5 ∷ []) (λ y k. elim k [ inl q ↦ ap (λ (a : ℕ). has base_regs a) (sym q) | inr q ↦ absurd q ])) in
    let b01 : BaseKept s.hart.regs g1.regs = base-joined s.hart.regs s0.hart.regs g1.regs t.kept b1 in
    let ab : AtBegin p h1 num c f w = record {
      kernel = record {
        at = refl;
        kernel = k0.kernel;
        registers = g1.many;
        zero_stays = b01.same 0 refl ∙ e.related.zero_stays;
        small = e.related.small;
      };
      number_is = g1.same 11 refl ∙ t.number_is;
      code_is = g1.same 12 refl ∙ t.code_is;
      first_is = g1.same 13 refl ∙ t.first_is;
      second_is = g1.same 14 refl ∙ t.second_is;
      base_is = b01.same 19 refl ∙ e.related.base;
      stride_is = b01.same 20 refl ∙ e.related.stride;
      table_is = b01.same 21 refl ∙ e.related.codes;
    } in
    let g2 : Goes (begin_steps p c) h1 post_at begin_used (posting_sets p num c) (begun_for p mem num c f w) =
    begins p args limits h1 num c f w r (image-held p limits m s e.related) ni.room ab in
    let b2 : BaseKept g1.regs g2.regs = base-goes (begin_steps p c) h1 post_at begin_used (posting_sets p num c) (begun_for p mem num c f w) g2 g1.many
    (base-apart begin_used begin-apart) in
    let now : List ℕ = begun_for p mem num c f w in
    let s2 : Host = with_hart s1 (gone h1 (begin_steps p c) post_at g2.regs now) in
    let km : Machine = with_message (thread_frame p m c f w) (Carry f i num) in
    let rel : Related p limits km s2 =
    related-message p limits (thread_frame p m c f w) (took_host s num (gone h1 (begin_steps p c) post_at g2.regs now)) (Carry f i num)
    (related-begun p args limits m s c f w post_at (h1.steps + begin_steps p c) g2.regs r e.related ni (base-joined s.hart.regs g1.regs g2.regs b01 b2)) in
    let sp : spend km num 0 ≡ Fine n =
    message-first (thread_frame p m c f w) n num 0 (Carry f i num) (slice_get (frame_at (thread_frame p m c f w).table num).counts 0) bf in
    let c3 : ComesTo (16 + 1) poll_at p limits s2 n =
    posts-first spends p args limits km n s2 num c r lc (record { related = rel; at = refl }) g2.set.1.0 g2.set.1.1.0 g2.set.1.1.1.0 g2.set.0
    (code-put m.codes num c) sp in
    let c2 : ComesTo (begin_steps p c + (16 + 1)) poll_at p limits s1 n =
    comes-behind (begin_steps p c) (16 + 1) poll_at p limits s1 s2 n (onward-comes (begin_steps p c) s1 post_at begin_used (posting_sets p num c) now g2) c3 in
    let c1 : ComesTo (5 + (begin_steps p c + (16 + 1))) poll_at p limits s0 n =
    comes-behind 5 (begin_steps p c + (16 + 1)) poll_at p limits s0 s1 n (onward-comes 5 s0 begin_at (5 ∷ []) [] mem g1) c2 in
    let two : 2 ≤ x.slots = (head-is p c r.checked lc).two_slots in
    let cs : length (counts_of x) ≡ length x.threads = length-mapped (λ y. y.count) x.threads in
    comes-within (5 + (begin_steps p c + (16 + 1))) (38 + 6 * length x.threads + 4 * x.slots) poll_at p limits s0 n c1 (omega arith)

-- a frame that is asked for, up to the poll
pub frames-come : SpendsOne → Frames
frames-come spends p args limits m n s c f i r e lc lf li lv bf =
    let a : length s.live + length m.table.free ≡ length m.table.frames = e.related.numbers.all_used in
    let b : length s.free ≡ length m.table.free = ap (λ (x : List ℕ). length x) e.related.same.free in
    let d : length s.live + length s.free ≡ length m.table.frames = omega arith in
    let q : next_number m.table ≡ next_number_of s.free (length s.live + length s.free) =
    ap (λ (x : ℕ). next_number_of m.table.free x) (sym d)
    ∙ ap (λ (x : List ℕ). next_number_of x (length s.live + length s.free)) (sym e.related.same.free) in
    subst (λ (x : ℕ). ComesTo (38 + 6 * length (code_text p c).threads + 4 * (code_text p c).slots) poll_at p limits (with_frame s x c f i) n) q
    (asked spends p args limits m n s c f i r e lc lf lv bf)
