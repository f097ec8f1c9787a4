-- The relation is carried on where one frame is changed, the writes leave the image alone, and frames, turns and registers are so.
use Rattle.std.proofs.Common.{◌≡◌, ◌≢◌, true≢false, zero, suc, ℕ, ◌+◌, ◌*◌, ◌^◌, ◌<◌, ◌≤◌, inl, inr, List, [], ◌∷◌, length, map, take, drop, refl}
use Rattle.std.proofs.Common.{sym, ap, ◌∙◌, arith, true, false, Bool, ◌==◌, subst, Option, Some, slice_get}
use Rattle.std.specs.Prelude.{slice_index, count_by, ◌⊎◌}
use Rattle.tam_word.specs.Lists.{has, all_differ}
use Rattle.tam_word.proofs.Members.{In, has-in, in-map}
use Rattle.tam_word.proofs.Tests.{number-eq, number-differs}
use Rattle.tam_msgs.specs.declared.limits.Limits.{Limits}
use Rattle.frame_tables.specs.FrameTables.{Frame, FrameTable, changed_in, is_some_frame, is_held, is_live}
use Rattle.tl0_code.specs.ThreadCode.{Program, code_text}
use Rattle.tl0_code.specs.Machines.{Machine, code_at}
use Rattle.rv_inst.specs.Harts.{reg, read_at, written_at}
use Rattle.rv_keep.specs.FrameRecords.{link_at, head_at, slots_at, cell_at}
use Rattle.rv_keep.specs.Image.{words_in_all, stride_of, image_words, frame_bytes}
use Rattle.rv_keep.specs.FrameBytes.{BaseKept, base_regs}
use Rattle.rv_keep.specs.LinkedLists.{Chain, last_of}
use Rattle.rv_keep.specs.Posting.{gone}
use Rattle.rv_keep.specs.Hosts.{Host, with_hart}
use Rattle.rv_inst.specs.Steps.{Comes}
use Rattle.rv_keep.specs.PhaseLaws.{ComesTo}
use Rattle.rv_keep.proofs.Polling.{comes-poll}
use Rattle.rv_keep.specs.Relation.{FrameHolds, TurnsHold, Related, current_address, frame_address, own_part}
use Rattle.rv_keep.proofs.ImageLengths.{image-long}
use Rattle.rv_keep.proofs.FramesApart.{IsApart, strides-apart}
use Rattle.rv_keep.proofs.OtherFrames.{stride-wide}
use Rattle.rv_keep.proofs.TableChanges.{length-changed, changed-same, changed-other, live-changed, live-frame, count-changed}
use Rattle.rv_inst.proofs.Memory.{length-written}
use Rattle.rv_inst.proofs.Signed.{below-or-not}
use Rattle.rv_keep.proofs.Frames.{word-apart}
use Rattle.rv_keep.proofs.Touching.{Touches, touches-wider, frame-kept, chain-reads, own-slots, own-counts}

-- registers that all of the kernel leaves alone: 0, the addresses of frames, the stride and the code table
abbrev pub fixed_regs : List ℕ
fixed_regs = 0 ∷ 19 ∷ 20 ∷ 21 ∷ []

-- they are base registers
pub fixed-base : (r : ℕ) → has fixed_regs r ≡ true → has base_regs r ≡ true
fixed-base r q = go (has-in fixed_regs r q)
  where
    go : In r fixed_regs → has base_regs r ≡ true
    go (inl i) = subst (λ (x : ℕ). has base_regs x ≡ true) i refl
    go (inr (inl i)) = subst (λ (x : ℕ). has base_regs x ≡ true) i refl
    go (inr (inr (inl i))) = subst (λ (x : ℕ). has base_regs x ≡ true) i refl
    go (inr (inr (inr (inl i)))) = subst (λ (x : ℕ). has base_regs x ≡ true) i refl
    go (inr (inr (inr (inr i)))) = absurd i

-- a live number is below the count of numbers
pub live-below : (hs : List (Option Frame)) (f : ℕ) → is_some_frame (slice_get hs f) ≡ true → f < length hs
live-below [] f e = absurd (true≢false (sym e))
live-below (h ∷ hs) zero e = omega arith
live-below (h ∷ hs) (suc f) e = let r : f < length hs = live-below hs f e in omega arith

-- what a table, registers and a memory have to be, so that a state of the two runs is carried on to them
pub record Carried (p : Program) (m : Machine) (s : Host) (t : FrameTable) (regs k : List ℕ) : Type 0 where
  pub place : ℕ
  pub change : Frame → Frame
  pub frames_are : t.frames ≡ changed_in m.table.frames place change
  pub free_are : t.free ≡ m.table.free
  pub long : length k ≡ length s.hart.memory
  pub image : (b n : ℕ) → b + n ≤ 4 * words_in_all p → take n (drop b k) ≡ take n (drop b s.hart.memory)
  pub frames : (g : ℕ) (h : Frame) → slice_get t.frames g ≡ Some (Some h) → FrameHolds p k g (code_at m g) h
  pub turns : TurnsHold t
  pub many : length regs ≡ length s.hart.regs
  pub fixed : (r : ℕ) → has fixed_regs r ≡ true → slice_index regs r ≡ reg s.hart r
  pub current : slice_index regs 8 ≡ current_address p t.current
  pub queue : Chain k link_at (slice_index regs 9) (map (frame_address p) t.queue)
  pub last : slice_index regs 18 ≡ last_of (map (frame_address p) t.queue)

-- the two stay related
pub related-carried : (p : Program) (limits : Limits) (m : Machine) (s : Host) (t : FrameTable) (n pc : ℕ) (regs k : List ℕ) → Related p limits m s
    → Carried p m s t regs k
    → Related p limits (record m { table = t }) (with_hart s (gone s.hart n pc regs k))
related-carried p limits m s t n pc regs k e c =
    let hs : List (Option Frame) = m.table.frames in
    let il : length (image_words p) ≡ words_in_all p = image-long p in
    let lm : length s.hart.memory < 2 ^ 32 = e.small in
    let j : length k ≡ length s.hart.memory = c.long in
    let lc : length t.frames ≡ length hs = ap length c.frames_are ∙ length-changed hs c.place c.change in
    let fw : length hs ≤ limits.frames = e.few in
    record {
      same = record {
        pending = e.same.pending;
        arrays = e.same.arrays;
        printed = e.same.printed;
        events = e.same.events;
        order = e.same.order;
        activations = e.same.activations;
        free = e.same.free ∙ sym c.free_are;
        live = λ g. e.same.live g ∙ sym (live-still g);
        as_many = e.same.as_many ∙ sym (ap (λ x. count_of x) c.frames_are ∙ count-changed hs c.place c.change);
      };
      image = c.image 0 (4 * length (image_words p)) (omega arith) ∙ e.image;
      long = j ∙ e.long;
      small = omega arith;
      few = omega arith;
      frames = c.frames;
      turns = c.turns;
      numbers = record {
        free_differ = subst (λ (x : List ℕ). all_apart x ≡ true) (sym c.free_are) e.numbers.free_differ;
        free_used = λ g q. subst (λ (x : ℕ). g < x) (sym lc) (e.numbers.free_used g (subst (λ (x : List ℕ). has x g ≡ true) c.free_are q));
        free_dead = λ g q. live-still g ∙ e.numbers.free_dead g (subst (λ (x : List ℕ). has x g ≡ true) c.free_are q);
        live_differ = e.numbers.live_differ;
        all_used = ap (λ (x : List ℕ). length s.live + length x) c.free_are ∙ (e.numbers.all_used ∙ sym lc);
      };
      registers = c.many ∙ e.registers;
      zero_stays = c.fixed 0 refl ∙ e.zero_stays;
      base = c.fixed 19 refl ∙ e.base;
      stride = c.fixed 20 refl ∙ e.stride;
      codes = c.fixed 21 refl ∙ e.codes;
      current = c.current;
      queue = c.queue;
      last = c.last;
    }
  where
    count_of : List (Option Frame) → ℕ
    count_of hs = count_by is_held hs

    all_apart : List ℕ → Bool
    all_apart xs = all_differ (λ x y. x == y) xs

    live-still : (g : ℕ) → is_some_frame (slice_get t.frames g) ≡ is_some_frame (slice_get m.table.frames g)
    live-still g = ap (λ x. is_some_frame (slice_get x g)) c.frames_are ∙ live-changed m.table.frames c.place g c.change

-- a frame that is there is one
pub inner : (x y : Frame) → Some (Some x) ≡ Some (Some y) → x ≡ y
inner x y z = cc

-- a frame holds as before where the writes were within another
pub frame-other : (p : Program) (m k : List ℕ) (f g c : ℕ) (h : Frame) → FrameHolds p m g c h → f ≢ g
    → Touches (frame_address p f) (frame_address p f + stride_of p) m k → FrameHolds p k g c h
frame-other p m k f g c h o n t =
    let v : frame_bytes (code_text p c) ≤ stride_of p = stride-wide p c o.code_there in
    frame-kept p m k g c h o t.long (λ b l u. t.still b (place v b l u))
  where
    place : frame_bytes (code_text p c) ≤ stride_of p → (b : ℕ) → frame_address p g + head_at ≤ b → b + 4 ≤ frame_address p g + frame_bytes (code_text p c)
        → IsApart b (frame_address p f) (frame_address p f + stride_of p)
    place v b l u = elim (below-or-not f g) [
      | inl x ↦ let z : f * stride_of p + stride_of p ≤ g * stride_of p = strides-apart (stride_of p) f g x in inr (omega arith)
      | inr x ↦ let z : g * stride_of p + stride_of p ≤ f * stride_of p = strides-apart (stride_of p) g f (omega arith) in inl (omega arith)
    ]

-- each live frame holds where frame f holds as it is changed and the writes were within its bytes
pub frames-changed : (p : Program) (limits : Limits) (m : Machine) (s : Host) (f : ℕ) (change : Frame → Frame) (h0 : Frame) (k : List ℕ) → Related p limits m s
    → slice_get m.table.frames f ≡ Some (Some h0) → FrameHolds p k f (code_at m f) (change h0)
    → Touches (frame_address p f) (frame_address p f + stride_of p) s.hart.memory k
    → (g : ℕ) (h : Frame) → slice_get (changed_in m.table.frames f change) g ≡ Some (Some h) → FrameHolds p k g (code_at m g) h
frames-changed p limits m s f change h0 k e q u t g h r = go (f == g) refl
  where
    go : (b : Bool) → (f == g) ≡ b → FrameHolds p k g (code_at m g) h
    go true y =
        let i : f ≡ g = number-eq f g y in
        let a : slice_get (changed_in m.table.frames f change) f ≡ Some (Some (change h0)) = changed-same m.table.frames f change h0 q in
        let b : slice_get (changed_in m.table.frames f change) f ≡ Some (Some h) =
        ap (λ (x : ℕ). slice_get (changed_in m.table.frames f change) x) i ∙ r in
        let c : change h0 ≡ h = inner (change h0) h (sym a ∙ b) in
        subst (λ (x : ℕ). FrameHolds p k x (code_at m x) h) i (subst (λ (x : Frame). FrameHolds p k f (code_at m f) x) c u)
    go false y =
        let n : f ≢ g = number-differs f g y in
        frame-other p s.hart.memory k f g (code_at m g) h (e.frames g h (sym (changed-other m.table.frames f g change n) ∙ r)) n t

-- a write to the link of a frame leaves each frame that holds so
pub frame-linking : (p : Program) (k : List ℕ) (f g c w : ℕ) (h : Frame) → FrameHolds p k g c h → slots_at ≤ stride_of p → frame_address p f + 4 ≤ length k
    → FrameHolds p (written_at k (frame_address p f) 4 w) g c h
frame-linking p k f g c w h e v i =
    let wide : frame_bytes (code_text p c) ≤ stride_of p = stride-wide p c e.code_there in
    frame-kept p k (written_at k (frame_address p f) 4 w) g c h e (length-written k (frame_address p f) 4 w i)
    (λ b l u. word-apart k (frame_address p f) w b (place wide b l u) (omega arith))
  where
    place : frame_bytes (code_text p c) ≤ stride_of p → (b : ℕ) → frame_address p g + head_at ≤ b → b + 4 ≤ frame_address p g + frame_bytes (code_text p c)
        → (b + 4 ≤ frame_address p f) ⊎ (frame_address p f + 4 ≤ b)
    place wide b l u = elim (below-or-not f g) [
      | inl x ↦ let z : f * stride_of p + stride_of p ≤ g * stride_of p = strides-apart (stride_of p) f g x in inr (omega arith)
      | inr x ↦ elim (below-or-not g f) [
        | inl y ↦ let z : g * stride_of p + stride_of p ≤ f * stride_of p = strides-apart (stride_of p) g f y in inl (omega arith)
        | inr y ↦ let z : f ≡ g = omega arith in
            let a : frame_address p f ≡ frame_address p g = ap (λ (x : ℕ). frame_address p x) z in
            inr (omega arith)
      ]
    ]

-- where the writes were behind the link of a frame, and within it, the link of each is as it was
pub link-inside : (p : Program) (m k : List ℕ) (f g : ℕ) → Touches (frame_address p f + head_at) (frame_address p f + stride_of p) m k → slots_at ≤ stride_of p
    → read_at k (frame_address p g + link_at) 4 ≡ read_at m (frame_address p g + link_at) 4
link-inside p m k f g t v = t.still (frame_address p g + link_at) place
  where
    place : IsApart (frame_address p g + link_at) (frame_address p f + head_at) (frame_address p f + stride_of p)
    place = elim (below-or-not f g) [
      | inl x ↦ let z : f * stride_of p + stride_of p ≤ g * stride_of p = strides-apart (stride_of p) f g x in inr (omega arith)
      | inr x ↦ elim (below-or-not g f) [
        | inl y ↦ let z : g * stride_of p + stride_of p ≤ f * stride_of p = strides-apart (stride_of p) g f y in inl (omega arith)
        | inr y ↦ let z : f ≡ g = omega arith in
            let a : frame_address p f ≡ frame_address p g = ap (λ (x : ℕ). frame_address p x) z in
            inl (omega arith)
      ]
    ]

-- a live frame of the two runs, and where it stands
pub record LiveFrame (p : Program) (m : Machine) (s : Host) (f : ℕ) : Type 0 where
  pub frame : Frame
  pub there : slice_get m.table.frames f ≡ Some (Some frame)
  pub holds : FrameHolds p s.hart.memory f (code_at m f) frame
  pub wide : slots_at ≤ stride_of p
  pub ends : frame_bytes (code_text p (code_at m f)) ≤ stride_of p
  pub inside : frame_address p f + frame_bytes (code_text p (code_at m f)) ≤ length s.hart.memory
  pub room : frame_address p f + stride_of p ≤ length s.hart.memory

-- a live frame has its record, its number and its bytes
pub live-there : (p : Program) (limits : Limits) (m : Machine) (s : Host) (f : ℕ) → Related p limits m s → is_live m.table f ≡ true → LiveFrame p m s f
live-there p limits m s f e v =
    let h = live-frame m.table.frames f v in
    let o : FrameHolds p s.hart.memory f (code_at m f) h.0 = e.frames f h.0 h.1 in
    let own : Frame = own_part (code_text p (code_at m f)) h.0 in
    let ls : length own.slots ≡ (code_text p (code_at m f)).slots = own-slots p s.hart.memory f (code_at m f) h.0 o in
    let lc : length own.counts ≡ length (code_text p (code_at m f)).threads = own-counts p s.hart.memory f (code_at m f) h.0 o in
    let ins : frame_address p f + cell_at (length own.slots) (length own.counts) ≤ length s.hart.memory = o.stands.inside in
    let w : frame_bytes (code_text p (code_at m f)) ≤ stride_of p = stride-wide p (code_at m f) o.code_there in
    let b : f < length m.table.frames = live-below m.table.frames f v in
    let few : length m.table.frames ≤ limits.frames = e.few in
    let lg : length s.hart.memory ≡ 4 * words_in_all p + limits.frames * stride_of p = e.long in
    let z : f * stride_of p + stride_of p ≤ limits.frames * stride_of p = strides-apart (stride_of p) f limits.frames (omega arith) in
    record { frame = h.0; there = h.1; holds = o; wide = omega arith; ends = w; inside = omega arith; room = omega arith }

-- where the writes were within a live frame but its link, which holds as it is changed, and the base registers are kept, all is carried on
pub carried-inside : (p : Program) (limits : Limits) (m : Machine) (s : Host) (f : ℕ) (change : Frame → Frame) (regs k : List ℕ) → Related p limits m s
    → (h : LiveFrame p m s f) → FrameHolds p k f (code_at m f) (change h.frame)
    → Touches (frame_address p f + head_at) (frame_address p f + stride_of p) s.hart.memory k
    → TurnsHold (record m.table { frames = changed_in m.table.frames f change }) → BaseKept s.hart.regs regs
    → Carried p m s (record m.table { frames = changed_in m.table.frames f change }) regs k
carried-inside p limits m s f change regs k e h u t o b = record {
  place = f;
  change = change;
  frames_are = refl;
  free_are = refl;
  long = t.long;
  image = λ a n l. t.before a n (omega arith);
  frames = frames-changed p limits m s f change h.frame k e h.there u
      (touches-wider (frame_address p f + head_at) (frame_address p f) (frame_address p f + stride_of p) s.hart.memory k (omega arith) t);
  turns = o;
  many = b.as_many;
  fixed = λ r q. b.same r (fixed-base r q);
  current = b.same 8 refl ∙ e.current;
  queue = subst (λ (x : ℕ). Chain k link_at x (map (frame_address p) m.table.queue)) (sym (b.same 9 refl))
      (chain-reads (map (frame_address p) m.table.queue) s.hart.memory k link_at (reg s.hart 9) links e.queue);
  last = b.same 18 refl ∙ e.last;
}
  where
    links : (c : ℕ) → In c (map (frame_address p) m.table.queue) → read_at k (c + link_at) 4 ≡ read_at s.hart.memory (c + link_at) 4
    links c q =
        let g = in-map (frame_address p) c m.table.queue q in
        subst (λ (x : ℕ). read_at k (x + link_at) 4 ≡ read_at s.hart.memory (x + link_at) 4) g.2 (link-inside p s.hart.memory k f g.0 t h.wide)

-- steps without a call, to where the two stay related
pub comes-carried : (n bound pc : ℕ) (p : Program) (limits : Limits) (m : Machine) (s : Host) (t : FrameTable) (regs k : List ℕ) → n ≤ bound
    → Comes n s.hart (gone s.hart n pc regs k) → Related p limits m s → Carried p m s t regs k → ComesTo bound pc p limits s (record m { table = t })
comes-carried n bound pc p limits m s t regs k l c e w = record {
  host = with_hart s (gone s.hart n pc regs k);
  onward = record { took = n; few = l; counted = refl; goes = λ j. comes-poll n j s (gone s.hart n pc regs k) c };
  there = record { related = related-carried p limits m s t n pc regs k e w; at = refl };
}
