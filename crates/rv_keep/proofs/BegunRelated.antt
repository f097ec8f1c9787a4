-- A frame that is taken keeps the two runs related, where its bytes are written and the host has its number as live.
use Rattle.std.proofs.Common.{◌≡◌, ◌≢◌, ℕ, ◌+◌, ◌*◌, ◌^◌, ◌<◌, ◌≤◌, ◌⊎◌, List, [], ◌∷◌, ◌++◌, length, map, refl, sym, ap, ◌∙◌, arith, true, false}
use Rattle.std.proofs.Common.{Bool, true≢false, ◌==◌, subst, Option, Some, slice_get, inl, inr}
use Rattle.std.specs.Prelude.{slice_index}
use Rattle.std.proofs.lemmas.List.{length-append}
use Rattle.tam_word.specs.Lists.{has, all_differ, put_at}
use Rattle.tam_word.proofs.Members.{In, in-has, in-map}
use Rattle.tam_word.proofs.Tests.{number-eq, number-differs}
use Rattle.tam_msgs.specs.declared.limits.Limits.{Limits}
use Rattle.tam_msgs.specs.declared.message.Message.{Message}
use Rattle.frame_tables.specs.FrameTables.{Frame, FrameTable, or_frame, frame_at, is_live, is_some_frame, is_current, live_count, next_number}
use Rattle.frame_tables.specs.FrameTables.{new_frame, with_new, changed_in}
use Rattle.tl0_code.specs.ThreadCode.{CodeText, Program, code_text, counts_of, widest_slots, widest_threads}
use Rattle.tl0_code.specs.Machines.{Machine, code_at, with_message}
use Rattle.tl0_code.specs.ThreadRuns.{with_frame}
use Rattle.rv_inst.specs.Harts.{Hart, reg, read_at}
use Rattle.rv_keep.specs.FrameRecords.{slots_at, link_at}
use Rattle.rv_keep.specs.Image.{words_in_all, stride_of, image_words, frame_bytes, inlets_of_code}
use Rattle.rv_keep.specs.FrameBytes.{BaseKept}
use Rattle.rv_keep.specs.LinkedLists.{Chain, last_of}
use Rattle.rv_keep.specs.Hosts.{Host}
use Rattle.rv_keep.specs.HostRuns.{left_free}
use Rattle.rv_keep.specs.MachineLaws.{MayRun}
use Rattle.rv_keep.specs.Relation.{FrameHolds, TurnsHold, NumbersHold, Related, frame_address, current_address}
use Rattle.rv_keep.proofs.ImageLengths.{image-long, length-mapped}
use Rattle.rv_keep.proofs.FramesApart.{strides-apart}
use Rattle.rv_keep.proofs.OtherFrames.{stride-wide}
use Rattle.rv_keep.proofs.TableChanges.{length-changed}
use Rattle.rv_keep.proofs.SlotRelated.{slotted_frame}
use Rattle.rv_keep.proofs.Touching.{chain-reads}
use Rattle.rv_keep.proofs.CheckedCode.{head-is}
use Rattle.rv_keep.proofs.Regions.{Outside, Kept, kept-begun, frame-reads}
use Rattle.rv_keep.proofs.Taking.{Took, TookBy, took-by, took-changed, code-put, code-other, differ-push, has-push, has-pushed}
use Rattle.rv_keep.proofs.NewHolds.{RoomFor, taken_frame, more_slots, begun_for, new-frame, new-holds}
use Rattle.rv_inst.proofs.Signed.{below-or-not}

-- the table with the frame
abbrev pub new_table : Program → Machine → ℕ → ℕ → ℕ → FrameTable
new_table p m c w0 w1 = (with_frame p m c w0 w1).table

-- the host has a number as live, which isn't free any more
abbrev pub took_host : Host → ℕ → Hart → Host
took_host s f h = record s { hart = h; live = s.live ++ f ∷ []; free = left_free s.free; activations = s.activations + 1 }

-- what the new frame comes with
pub record NewIn (p : Program) (limits : Limits) (m : Machine) (s : Host) (c w0 w1 : ℕ) : Type 0 where
  pub took : Took m.table.frames (new_table p m c w0 w1).frames (next_number m.table) (taken_frame p c w0 w1)
  pub dead : is_live m.table (next_number m.table) ≡ false
  pub below : next_number m.table < limits.frames
  pub few : length (new_table p m c w0 w1).frames ≤ limits.frames
  pub queue_is : (new_table p m c w0 w1).queue ≡ m.table.queue
  pub current_is : (new_table p m c w0 w1).current ≡ m.table.current
  pub free_is : left_free s.free ≡ (new_table p m c w0 w1).free
  pub numbers : NumbersHold (new_table p m c w0 w1) (s.live ++ next_number m.table ∷ [])
  pub room : RoomFor p s.hart.memory (next_number m.table) c w0 w1
  pub kept : Kept s.hart.memory (begun_for p s.hart.memory (next_number m.table) c w0 w1) (frame_address p (next_number m.table))
      (frame_address p (next_number m.table) + stride_of p)

-- a table with a new frame has the queue, and the current frame
new-queue : (s : FrameTable) (free : List ℕ) (h : Frame) → ((with_new s free h).queue ≡ s.queue) × ((with_new s free h).current ≡ s.current)
new-queue s [] h = (refl, refl)
new-queue s (f ∷ free) h = (refl, refl)

-- the free numbers that are left
left-is : (s : FrameTable) (free : List ℕ) (h : Frame) → s.free ≡ free → left_free free ≡ (with_new s free h).free
left-is s [] h e = sym e
left-is s (f ∷ free) h e = refl

-- memory that is as it was outside a region is so outside a wider one
kept-wider : (m k : List ℕ) (from to end : ℕ) → Kept m k from to → to ≤ end → Kept m k from end
kept-wider m k from to end e l = record {
  as_long = e.as_long;
  apart = λ b o. elim o [ inl x ↦ e.apart b (inl x) | inr x ↦ e.apart b (inr (omega arith)) ];
  before = e.before;
}

-- it comes with that
pub new-in : (p : Program) (args : List ℕ) (limits : Limits) (m : Machine) (s : Host) (c w0 w1 : ℕ) → MayRun p args limits → Related p limits m s
    → c < length p.codes → w0 < 2 ^ 32 → w1 < 2 ^ 32 → live_count m.table < limits.frames → NewIn p limits m s c w0 w1
new-in p args limits m s c w0 w1 r e lc l0 l1 lv =
    let x : CodeText = code_text p c in
    let h : Frame = new_frame (widest_slots p) (widest_threads p) (counts_of x) in
    let f : ℕ = next_number m.table in
    let free : List ℕ = m.table.free in
    let tb : TookBy m.table s.live limits.frames free h = took-by m.table s.live limits.frames free h refl e.numbers e.few e.same.as_many lv in
    let news = (with_new m.table free h).frames in
    let n0 : length (changed_in news f (λ y. slotted_frame y 0 w0)) ≡ length news = length-changed news f (λ y. slotted_frame y 0 w0) in
    let n1 : length (new_table p m c w0 w1).frames ≡ length (changed_in news f (λ y. slotted_frame y 0 w0)) =
    length-changed (changed_in news f (λ y. slotted_frame y 0 w0)) f (λ y. slotted_frame y 1 w1) in
    let nn : length (new_table p m c w0 w1).frames ≡ length news = n1 ∙ n0 in
    let tk : Took m.table.frames (new_table p m c w0 w1).frames f (taken_frame p c w0 w1) =
    took-changed m.table.frames (changed_in news f (λ y. slotted_frame y 0 w0)) f (slotted_frame h 0 w0) (λ y. slotted_frame y 1 w1)
    (took-changed m.table.frames news f h (λ y. slotted_frame y 0 w0) tb.took) in
    let few0 : length news ≤ limits.frames = tb.few in
    let fl : f < limits.frames = tb.below in
    let lim : limits.frames ≤ 16384 = r.in_range.few_frames in
    let stride : f * stride_of p + stride_of p ≤ limits.frames * stride_of p = strides-apart (stride_of p) f limits.frames fl in
    let long : length s.hart.memory ≡ 4 * words_in_all p + limits.frames * stride_of p = e.long in
    let room : RoomFor p s.hart.memory f c w0 w1 = record {
      code_there = lc;
      first_small = l0;
      second_small = l1;
      number_small = omega arith;
      room = omega arith;
      small = e.small;
    } in
    let nf = new-frame p args limits s.hart.memory f c w0 w1 r room in
    let two : 2 ≤ x.slots = (head-is p c r.checked lc).two_slots in
    let wide : frame_bytes x ≤ stride_of p = stride-wide p c lc in
    let cs : length (counts_of x) ≡ length x.threads = length-mapped (λ t. t.count) x.threads in
    let hd : has s.live f ≡ false = e.same.live f ∙ tb.dead in
    let la : length (s.live ++ f ∷ []) ≡ length s.live + 1 = length-append s.live (f ∷ []) in
    let sum : length s.live + 1 + length (with_new m.table free h).free ≡ length news = tb.sum in
    record {
      took = tk;
      dead = tb.dead;
      below = fl;
      few = omega arith;
      queue_is = (new-queue m.table free h).0;
      current_is = (new-queue m.table free h).1;
      free_is = ap left_free e.same.free ∙ left-is m.table free h refl;
      numbers = record {
        free_differ = tb.left_differ;
        free_used = λ g q. let u : g < length news = tb.left_used g q in omega arith;
        free_dead = λ g q. ap is_some_frame (tk.others g (tb.left_apart g q)) ∙ tb.left_dead g q;
        live_differ = differ-push s.live f e.numbers.live_differ hd;
        all_used = omega arith;
      };
      room = room;
      kept = kept-wider s.hart.memory (begun_for p s.hart.memory f c w0 w1) (frame_address p f)
          (frame_address p f + (slots_at + 8 + 4 * more_slots p c) + 8 * length (counts_of x)) (frame_address p f + stride_of p)
          (kept-begun s.hart.memory (frame_address p f) f (inlets_of_code p c) w0 w1 (more_slots p c) (counts_of x) nf.room) (omega arith);
    }

-- a place in another frame is outside the frame
outside-frame : (p : Program) (f g b size : ℕ) → f ≢ g → size ≤ stride_of p → frame_address p g ≤ b → b + 4 ≤ frame_address p g + size
    → Outside b (frame_address p f) (frame_address p f + stride_of p)
outside-frame p f g b size n w l u = elim (below-or-not f g) [
  | inl k ↦ let e : f * stride_of p + stride_of p ≤ g * stride_of p = strides-apart (stride_of p) f g k in inr (omega arith)
  | inr k ↦ let e : g * stride_of p + stride_of p ≤ f * stride_of p = strides-apart (stride_of p) g f (omega arith) in inl (omega arith)
]

-- a live number isn't the new one
live-apart : (p : Program) (limits : Limits) (m : Machine) (s : Host) (c w0 w1 g : ℕ) → NewIn p limits m s c w0 w1 → is_live m.table g ≡ true
    → next_number m.table ≢ g
live-apart p limits m s c w0 w1 g k v y = true≢false (sym v ∙ (sym (ap (λ (x : ℕ). is_live m.table x) y) ∙ k.dead))

-- a frame that is there is one
there-is : (x y : Frame) → Some (Some x) ≡ Some (Some y) → x ≡ y
there-is x y z = cc

-- each live frame holds
frames-new : (p : Program) (args : List ℕ) (limits : Limits) (m : Machine) (s : Host) (c w0 w1 : ℕ) → MayRun p args limits → Related p limits m s
    → NewIn p limits m s c w0 w1 → (g : ℕ) (h : Frame) → slice_get (new_table p m c w0 w1).frames g ≡ Some (Some h)
    → FrameHolds p (begun_for p s.hart.memory (next_number m.table) c w0 w1) g (code_at (with_frame p m c w0 w1) g) h
frames-new p args limits m s c w0 w1 r e k g h q = go (next_number m.table == g) refl
  where
    go : (t : Bool) → (next_number m.table == g) ≡ t
        → FrameHolds p (begun_for p s.hart.memory (next_number m.table) c w0 w1) g (code_at (with_frame p m c w0 w1) g) h
    go true d =
        let f : ℕ = next_number m.table in
        let i : f ≡ g = number-eq f g d in
        let now : List ℕ = begun_for p s.hart.memory f c w0 w1 in
        let a : taken_frame p c w0 w1 ≡ h = there-is (taken_frame p c w0 w1) h (sym k.took.there
        ∙ (ap (λ (x : ℕ). slice_get (new_table p m c w0 w1).frames x) i ∙ q)) in
        let o : FrameHolds p now f c (taken_frame p c w0 w1) = new-holds p args limits s.hart.memory f c w0 w1 r k.room in
        let b : FrameHolds p now f c h = subst (λ (x : Frame). FrameHolds p now f c x) a o in
        let z : FrameHolds p now g c h = subst (λ (x : ℕ). FrameHolds p now x c h) i b in
        let y : code_at (with_frame p m c w0 w1) g ≡ c = ap (λ (x : ℕ). slice_index (put_at 0 f c m.codes) x) (sym i) ∙ code-put m.codes f c in
        subst (λ (x : ℕ). FrameHolds p now g x h) (sym y) z
    go false d =
        let f : ℕ = next_number m.table in
        let n : f ≢ g = number-differs f g d in
        let now : List ℕ = begun_for p s.hart.memory f c w0 w1 in
        let b : FrameHolds p s.hart.memory g (code_at m g) h = e.frames g h (sym (k.took.others g n) ∙ q) in
        let w : frame_bytes (code_text p (code_at m g)) ≤ stride_of p = stride-wide p (code_at m g) b.code_there in
        let o : FrameHolds p now g (code_at m g) h =
        frame-reads p s.hart.memory now g (code_at m g) h b k.kept.as_long
        (λ x l u. k.kept.apart x (outside-frame p f g x (frame_bytes (code_text p (code_at m g))) n w l u)) in
        subst (λ (x : ℕ). FrameHolds p now g x h) (sym (code-other m.codes f g c n)) o

-- the turns are as they were
turns-new : (p : Program) (limits : Limits) (m : Machine) (s : Host) (c w0 w1 : ℕ) → TurnsHold m.table → NewIn p limits m s c w0 w1
    → TurnsHold (new_table p m c w0 w1)
turns-new p limits m s c w0 w1 e k = record {
  differ = ap (λ (x : List ℕ). all_differ (λ a b. a == b) x) k.queue_is ∙ e.differ;
  queued_live = λ g q. live g (e.queued_live g (queued g q));
  queued_waits = λ g q. ap (λ (x : Option ℕ). is_current x g) k.current_is ∙ e.queued_waits g (queued g q);
  queued_ready = λ g q z. e.queued_ready g (queued g q) (sym (same g (e.queued_live g (queued g q))) ∙ z);
  ready_queued = λ g n. waits g n (next_number m.table == g) refl;
  current_live = λ g q. live g (e.current_live g (sym k.current_is ∙ q));
}
  where
    queued : (g : ℕ) → has (new_table p m c w0 w1).queue g ≡ true → has m.table.queue g ≡ true
    queued g q = ap (λ (x : List ℕ). has x g) (sym k.queue_is) ∙ q

    live : (g : ℕ) → is_live m.table g ≡ true → is_live (new_table p m c w0 w1) g ≡ true
    live g v = ap is_some_frame (k.took.others g (live-apart p limits m s c w0 w1 g k v)) ∙ v

    same : (g : ℕ) → is_live m.table g ≡ true → (frame_at (new_table p m c w0 w1) g).ready ≡ (frame_at m.table g).ready
    same g v = ap (λ (x : Option (Option Frame)). (or_frame x).ready) (k.took.others g (live-apart p limits m s c w0 w1 g k v))

    waits : (g : ℕ) → (frame_at (new_table p m c w0 w1) g).ready ≢ [] → (d : Bool) → (next_number m.table == g) ≡ d
        → (has (new_table p m c w0 w1).queue g ≡ true) ⊎ (is_current (new_table p m c w0 w1).current g ≡ true)
    waits g n true d =
        let i : next_number m.table ≡ g = number-eq (next_number m.table) g d in
        let a : slice_get (new_table p m c w0 w1).frames g ≡ Some (Some (taken_frame p c w0 w1)) =
        ap (λ (x : ℕ). slice_get (new_table p m c w0 w1).frames x) (sym i) ∙ k.took.there in
        absurd (n (ap (λ (x : Option (Option Frame)). (or_frame x).ready) a))
    waits g n false d =
        let a : (frame_at (new_table p m c w0 w1) g).ready ≡ (frame_at m.table g).ready =
        ap (λ (x : Option (Option Frame)). (or_frame x).ready) (k.took.others g (number-differs (next_number m.table) g d)) in
        elim (e.ready_queued g (λ z. n (a ∙ z))) [
          | inl x ↦ inl (ap (λ (y : List ℕ). has y g) k.queue_is ∙ x)
          | inr x ↦ inr (ap (λ (y : Option ℕ). is_current y g) k.current_is ∙ x)
        ]

-- the two stay related
pub related-begun : (p : Program) (args : List ℕ) (limits : Limits) (m : Machine) (s : Host) (c w0 w1 pc steps : ℕ) (regs : List ℕ) → MayRun p args limits
    → Related p limits m s → NewIn p limits m s c w0 w1 → BaseKept s.hart.regs regs
    → Related p limits (with_frame p m c w0 w1)
    (took_host s (next_number m.table) (record { regs = regs; pc = pc; memory = begun_for p s.hart.memory (next_number m.table) c w0 w1; steps = steps }))
related-begun p args limits m s c w0 w1 pc steps regs r e k b =
    let f : ℕ = next_number m.table in
    let now : List ℕ = begun_for p s.hart.memory f c w0 w1 in
    let il : length (image_words p) ≡ words_in_all p = image-long p in
    let lm : length s.hart.memory < 2 ^ 32 = e.small in
    let ln : length now ≡ length s.hart.memory = k.kept.as_long in
    let la : length (s.live ++ f ∷ []) ≡ length s.live + 1 = length-append s.live (f ∷ []) in
    record {
      same = record {
        pending = e.same.pending;
        arrays = e.same.arrays;
        printed = e.same.printed;
        events = e.same.events;
        order = e.same.order;
        activations = ap (λ (x : ℕ). x + 1) e.same.activations;
        free = k.free_is;
        live = λ g. lives g (f == g) refl;
        as_many = la ∙ (ap (λ (x : ℕ). x + 1) e.same.as_many ∙ sym k.took.more);
      };
      image = k.kept.before (image_words p) (omega arith) e.image;
      long = ln ∙ e.long;
      small = omega arith;
      few = k.few;
      frames = frames-new p args limits m s c w0 w1 r e k;
      turns = turns-new p limits m s c w0 w1 e.turns k;
      numbers = k.numbers;
      registers = b.as_many ∙ e.registers;
      zero_stays = b.same 0 refl ∙ e.zero_stays;
      base = b.same 19 refl ∙ e.base;
      stride = b.same 20 refl ∙ e.stride;
      codes = b.same 21 refl ∙ e.codes;
      current = b.same 8 refl ∙ (e.current ∙ ap (λ (x : Option ℕ). current_address p x) (sym k.current_is));
      queue = subst (λ (x : List ℕ). Chain now link_at (slice_index regs 9) (map (frame_address p) x)) (sym k.queue_is)
          (subst (λ (x : ℕ). Chain now link_at x (map (frame_address p) m.table.queue)) (sym (b.same 9 refl))
          (chain-reads (map (frame_address p) m.table.queue) s.hart.memory now link_at (reg s.hart 9) links e.queue));
      last = b.same 18 refl ∙ (e.last ∙ ap (λ (x : List ℕ). last_of (map (frame_address p) x)) (sym k.queue_is));
    }
  where
    lives : (g : ℕ) (d : Bool) → (next_number m.table == g) ≡ d → has (s.live ++ next_number m.table ∷ []) g ≡ is_live (new_table p m c w0 w1) g
    lives g true d =
        let f : ℕ = next_number m.table in
        let i : f ≡ g = number-eq f g d in
        let a : has (s.live ++ f ∷ []) g ≡ true = ap (λ (x : ℕ). has (s.live ++ f ∷ []) x) (sym i) ∙ has-pushed s.live f in
        let v : is_live (new_table p m c w0 w1) g ≡ true =
        ap (λ (x : ℕ). is_live (new_table p m c w0 w1) x) (sym i) ∙ ap is_some_frame k.took.there in
        a ∙ sym v
    lives g false d =
        let n : next_number m.table ≢ g = number-differs (next_number m.table) g d in
        has-push s.live (next_number m.table) g n ∙ (e.same.live g ∙ sym (ap is_some_frame (k.took.others g n)))

    links : (x : ℕ) → In x (map (frame_address p) m.table.queue)
        → read_at (begun_for p s.hart.memory (next_number m.table) c w0 w1) (x + link_at) 4 ≡ read_at s.hart.memory (x + link_at) 4
    links x i =
        let g = in-map (frame_address p) x m.table.queue i in
        let v : is_live m.table g.0 ≡ true = e.turns.queued_live g.0 (in-has m.table.queue g.0 g.1) in
        let n : next_number m.table ≢ g.0 = live-apart p limits m s c w0 w1 g.0 k v in
        let q : frame_address p g.0 ≡ x = g.2 in
        let w : frame_bytes (code_text p c) ≤ stride_of p = stride-wide p c k.room.code_there in
        k.kept.apart (x + link_at) (outside-frame p (next_number m.table) g.0 (x + link_at) 4 n (omega arith) (omega arith) (omega arith))

-- a message more is on its way on both sides
pub related-message : (p : Program) (limits : Limits) (m : Machine) (s : Host) (x : Message) → Related p limits m s
    → Related p limits (with_message m x) (record s { pending = s.pending ++ x ∷ [] })
related-message p limits m s x e = record {
  same = record {
    pending = ap (λ (y : List Message). y ++ x ∷ []) e.same.pending;
    arrays = e.same.arrays;
    printed = e.same.printed;
    events = e.same.events;
    order = e.same.order;
    activations = e.same.activations;
    free = e.same.free;
    live = e.same.live;
    as_many = e.same.as_many;
  };
  image = e.image;
  long = e.long;
  small = e.small;
  few = e.few;
  frames = e.frames;
  turns = e.turns;
  numbers = e.numbers;
  registers = e.registers;
  zero_stays = e.zero_stays;
  base = e.base;
  stride = e.stride;
  codes = e.codes;
  current = e.current;
  queue = e.queue;
  last = e.last;
}
