-- The start: the kernel's registers are set, frame 0 of `main` is begun for the outside, and the kernel polls, the two runs related.
use Rattle.std.proofs.Common.{◌≡◌, ℕ, zero, suc, ◌+◌, ◌-◌, ◌*◌, ◌^◌, ◌<◌, ◌≤◌, List, [], ◌∷◌, ◌++◌, length, map, flat_map, refl, sym, ap, ◌∙◌, arith}
use Rattle.std.proofs.Common.{true≢false, subst, Option, Some, slice_get, inl}
use Rattle.std.specs.Prelude.{take, replicate, zip}
use Rattle.std.proofs.lemmas.List.{take_at, length-append, length-replicate}
use Rattle.tam_word.specs.Lists.{below}
use Rattle.tam_word.proofs.Members.{In, in-map}
use Rattle.tam_msgs.specs.declared.limits.Limits.{Limits}
use Rattle.tam_msgs.specs.declared.message.Message.TheVariants.{Word as Carry}
use Rattle.tam_msgs.specs.declared.item.Item.{Item}
use Rattle.tam_msgs.specs.Messages.{outside}
use Rattle.frame_tables.specs.FrameTables.{Frame, or_frame, frame_at, spent}
use Rattle.tl0_code.specs.ThreadCode.{CodeText, Program, code_text, counts_of, widest_threads}
use Rattle.tl0_code.specs.Machines.{Machine, Fine, spend, spend_of}
use Rattle.tl0_code.specs.ThreadRuns.{with_frame as thread_frame, nothing_begun, or_machine, thread_opening}
use Rattle.rv_inst.specs.Harts.{Hart, reg}
use Rattle.rv_inst.specs.Images.{Image, bytes_of_words}
use Rattle.rv_inst.specs.Steps.{HoldsWords, Stands}
use Rattle.rv_inst.proofs.Bytes.{length-bytes_of_words}
use Rattle.rv_inst.proofs.Memory.{stands-split}
use Rattle.rv_keep.specs.KernelPlaces.{poll_at, begin_at, post_at}
use Rattle.rv_keep.specs.Kernel.{opening, kernel}
use Rattle.rv_keep.specs.KernelSteps.{KernelStands, AtKernel, Goes}
use Rattle.rv_keep.specs.Image.{words_in_all, stride_of, code_table, code_insts, record_of, record_and_inlets, image_words, image_of}
use Rattle.rv_keep.specs.FrameBytes.{BaseKept}
use Rattle.rv_keep.specs.Posting.{gone}
use Rattle.rv_keep.specs.Hosts.{Host, with_hart}
use Rattle.rv_keep.specs.HostRuns.{host_opening}
use Rattle.rv_keep.specs.MachineLaws.{MayRun}
use Rattle.rv_keep.specs.Relation.{Related}
use Rattle.rv_keep.specs.PhaseLaws.{ComesTo, SpendsOne, Starts}
use Rattle.rv_keep.proofs.KernelStands.{kernel-stands, parts-stand, from_resting}
use Rattle.rv_keep.proofs.KernelLoops.{begin_used}
use Rattle.rv_keep.proofs.KernelOpens.{open_used, opens-kernel}
use Rattle.rv_keep.proofs.Phases.{onward-comes, base-goes}
use Rattle.rv_keep.proofs.FramesApart.{strides-apart}
use Rattle.rv_keep.proofs.ImageLengths.{image-long, length-mapped}
use Rattle.rv_keep.proofs.CheckedCode.{head-is, count-there}
use Rattle.rv_keep.proofs.RecordsStand.{small-code}
use Rattle.rv_keep.proofs.Delivering.{comes-behind, comes-within, base-apart, image-held}
use Rattle.rv_keep.proofs.Taking.{code-put}
use Rattle.rv_keep.proofs.NewHolds.{begun_for, taken_frame, greatest-each}
use Rattle.rv_keep.proofs.BegunRelated.{NewIn, new-in, related-begun}
use Rattle.rv_keep.proofs.Asked.{AtBegin, posting_sets, begin_steps, begins, begin-apart, posts-first}

-- the image, written out
abbrev pub plain_image : Program → Image
plain_image p = record { stride = stride_of p; params = (code_text p p.main).params; results = (code_text p p.main).results; words = image_words p }

-- it is the image
pub image-is : (p : Program) → image_of p ≡ plain_image p
unfolding image_of
image-is p = refl

-- the memory at the start
abbrev first_memory : Program → Limits → List ℕ
first_memory p limits = bytes_of_words (image_words p) ++ replicate (limits.frames * stride_of p) 0

-- it has the image, and room for the frames
record FirstMemory (p : Program) (limits : Limits) : Type 0 where
  pub image : HoldsWords (first_memory p limits) 0 (image_words p)
  pub long : length (first_memory p limits) ≡ 4 * words_in_all p + limits.frames * stride_of p

-- it has
first-memory : (p : Program) (limits : Limits) → FirstMemory p limits
first-memory p limits =
    let b : List ℕ = bytes_of_words (image_words p) in
    let zs : List ℕ = replicate (limits.frames * stride_of p) 0 in
    let lb : length b ≡ 4 * length (image_words p) = length-bytes_of_words (image_words p) in
    let il : length (image_words p) ≡ words_in_all p = image-long p in
    let lz : length zs ≡ limits.frames * stride_of p = length-replicate (limits.frames * stride_of p) 0 in
    let la : length (b ++ zs) ≡ length b + length zs = length-append b zs in
    record { image = take_at b zs (4 * length (image_words p)) lb; long = omega arith }

-- the kernel and its opening stand there
record OpeningStands (p : Program) (m : List ℕ) : Type 0 where
  pub opens : Stands m 0 (opening (4 * words_in_all p) (stride_of p) (code_table p) p.main)
  pub parts : KernelStands m

-- they do
opening-stands : (p : Program) (args : List ℕ) (limits : Limits) (m : List ℕ) → MayRun p args limits → HoldsWords m 0 (image_words p) → OpeningStands p m
opening-stands p args limits m r h =
    let codes : List ℕ = below (length p.codes) in
    let few : length p.codes ≤ 256 = r.checked.within.few_codes in
    let main : p.main < length p.codes = r.checked.main in
    let k : Stands m 0 (kernel (4 * words_in_all p) (stride_of p) (code_table p) p.main) =
    kernel-stands m (4 * words_in_all p) (stride_of p) (code_table p) p.main (flat_map (code_insts p) codes)
    (map (record_of p) codes ++ flat_map (record_and_inlets p) codes) (omega arith) h in
    record {
      opens = (stands-split m 0 (opening (4 * words_in_all p) (stride_of p) (code_table p) p.main) from_resting k).0;
      parts = parts-stand m (4 * words_in_all p) (stride_of p) (code_table p) p.main k;
    }

-- the host before the frame of `main`
abbrev before_main : List ℕ → List Item → Hart → Host
before_main args order h = record {
  hart = h;
  pending = map (λ kw. Carry 0 kw.0 kw.1) (zip (below (length args)) args);
  arrays = [];
  live = [];
  free = [];
  activations = 0;
  order = order;
  printed = [];
  events = 0;
}

-- the numbers that the opening leaves in registers
record Opened (p : Program) (limits : Limits) (h : Hart) : Type 0 where
  pub image : HoldsWords h.memory 0 (image_words p)
  pub long : length h.memory ≡ 4 * words_in_all p + limits.frames * stride_of p
  pub small : length h.memory < 2 ^ 32
  pub registers : length h.regs ≡ 32
  pub zero_stays : reg h 0 ≡ 0
  pub base : reg h 19 ≡ 4 * words_in_all p
  pub stride : reg h 20 ≡ stride_of p
  pub codes : reg h 21 ≡ code_table p
  pub current : reg h 8 ≡ 0
  pub front : reg h 9 ≡ 0
  pub last : reg h 18 ≡ 0

-- before the first frame the two are related
none-related : (p : Program) (limits : Limits) (args : List ℕ) (order : List Item) (h : Hart) → Opened p limits h
    → Related p limits (nothing_begun args order) (before_main args order h)
none-related p limits args order h o = record {
  same = record {
    pending = refl;
    arrays = refl;
    printed = refl;
    events = refl;
    order = refl;
    activations = refl;
    free = refl;
    live = λ f. refl;
    as_many = refl;
  };
  image = o.image;
  long = o.long;
  small = o.small;
  few = omega arith;
  frames = λ f k e. absurd cc;
  turns = record {
    differ = refl;
    queued_live = λ f q. absurd (true≢false (sym q));
    queued_waits = λ f q. absurd (true≢false (sym q));
    queued_ready = λ f q. absurd (true≢false (sym q));
    ready_queued = λ f n. absurd (n refl);
    current_live = λ f q. absurd cc;
  };
  numbers = record {
    free_differ = refl;
    free_used = λ f q. absurd (true≢false (sym q));
    free_dead = λ f q. absurd (true≢false (sym q));
    live_differ = refl;
    all_used = refl;
  };
  registers = o.registers;
  zero_stays = o.zero_stays;
  base = o.base;
  stride = o.stride;
  codes = o.codes;
  current = o.current;
  queue = o.front;
  last = o.last;
}

-- the first of a frame's counts isn't 0 where none of the code's is
first-count : (counts : List ℕ) (wide : ℕ) → 0 < length counts → 0 < wide → ((w : ℕ) → In w counts → 1 ≤ w)
    → (k : ℕ) × (slice_get (take wide (counts ++ replicate wide 0)) 0 ≡ Some (suc k))
first-count [] wide l w u = absurd (omega arith)
first-count (c ∷ cs) zero l w u = absurd (omega arith)
first-count (c ∷ cs) (suc wide) l w u = let a : 1 ≤ c = u c (inl refl) in let e : c ≡ suc (c - 1) = omega arith in (c - 1, ap Some e)

-- a count that isn't 0 is spent
spend-fine : (m : Machine) (f t k : ℕ) (h : Frame) → slice_get m.table.frames f ≡ Some (Some h) → slice_get h.counts t ≡ Some (suc k)
    → spend m f t ≡ Fine (record m { table = spent m.table f t })
spend-fine m f t k h e q =
    let a : slice_get (frame_at m.table f).counts t ≡ Some (suc k) = ap (λ (x : Option (Option Frame)). slice_get (or_frame x).counts t) e ∙ q in
    ap (λ (x : Option ℕ). spend_of m f t x) a

-- the start of the image that is written out
starts-plain : SpendsOne → (p : Program) (args : List ℕ) (order : List Item) (limits : Limits) → MayRun p args limits
    → ComesTo (47 + 6 * length (code_text p p.main).threads + 4 * (code_text p p.main).slots) poll_at p limits (host_opening (plain_image p) args order limits)
    (thread_opening p args order)
starts-plain spends p args order limits r =
    let c : ℕ = p.main in
    let x : CodeText = code_text p c in
    let lc : c < length p.codes = r.checked.main in
    let few : length p.codes ≤ 256 = r.checked.within.few_codes in
    let mem : List ℕ = first_memory p limits in
    let fm : FirstMemory p limits = first-memory p limits in
    let lm : length mem ≡ 4 * words_in_all p + limits.frames * stride_of p = fm.long in
    let room : 4 * words_in_all p + limits.frames * stride_of p < 2 ^ 32 = r.has_room in
    let some : 0 < limits.frames = r.in_range.some_frame in
    let st : 0 * stride_of p + stride_of p ≤ limits.frames * stride_of p = strides-apart (stride_of p) 0 limits.frames some in
    let os : OpeningStands p mem = opening-stands p args limits mem r fm.image in
    let s : Host = host_opening (plain_image p) args order limits in
    let h0 : Hart = s.hart in
    let k0 : AtKernel h0 0 = record { at = refl; kernel = os.parts; registers = refl; zero_stays = refl; small = omega arith } in
    let sets : List (ℕ × ℕ) =
    (14, 0) ∷ (13, 2 ^ 32 - 1) ∷ (12, c) ∷ (11, 0) ∷ (18, 0) ∷ (9, 0) ∷ (8, 0) ∷ (21, code_table p) ∷ (20, stride_of p) ∷ (19, 4 * words_in_all p) ∷ [] in
    let g0 : Goes 14 h0 begin_at open_used sets mem =
    opens-kernel h0 (4 * words_in_all p) (stride_of p) (code_table p) c k0 os.opens (omega arith) (omega arith) (omega arith) (omega arith) in
    let h1 : Hart = gone h0 14 begin_at g0.regs mem in
    let z1 : reg h1 0 ≡ 0 = g0.same 0 refl in
    let op : Opened p limits h1 = record {
      image = fm.image;
      long = fm.long;
      small = omega arith;
      registers = g0.many;
      zero_stays = z1;
      base = g0.set.1.1.1.1.1.1.1.1.1.0;
      stride = g0.set.1.1.1.1.1.1.1.1.0;
      codes = g0.set.1.1.1.1.1.1.1.0;
      current = g0.set.1.1.1.1.1.1.0;
      front = g0.set.1.1.1.1.1.0;
      last = g0.set.1.1.1.1.0;
    } in
    let m : Machine = nothing_begun args order in
    let sp : Host = before_main args order h1 in
    let e : Related p limits m sp = none-related p limits args order h1 op in
    let ni : NewIn p limits m sp c outside 0 = new-in p args limits m sp c outside 0 r e lc (omega arith) (omega arith) some in
    let ab : AtBegin p h1 0 c outside 0 = record {
      kernel = record { at = refl; kernel = os.parts; registers = g0.many; zero_stays = z1; small = omega arith };
      number_is = g0.set.1.1.1.0;
      code_is = g0.set.1.1.0;
      first_is = g0.set.1.0;
      second_is = g0.set.0;
      base_is = op.base;
      stride_is = op.stride;
      table_is = op.codes;
    } in
    let now : List ℕ = begun_for p mem 0 c outside 0 in
    let g2 : Goes (begin_steps p c) h1 post_at begin_used (posting_sets p 0 c) now = begins p args limits h1 0 c outside 0 r (image-held p limits m sp e)
    ni.room ab in
    let b2 : BaseKept g0.regs g2.regs = base-goes (begin_steps p c) h1 post_at begin_used (posting_sets p 0 c) now g2 g0.many
    (base-apart begin_used begin-apart) in
    let km : Machine = thread_frame p m c outside 0 in
    let s1 : Host = with_hart s h1 in
    let s2 : Host = with_hart s1 (gone h1 (begin_steps p c) post_at g2.regs now) in
    let rel : Related p limits km s2 =
    related-begun p args limits m sp c outside 0 post_at (h1.steps + begin_steps p c) g2.regs r e ni b2 in
    let wt : length x.threads ≤ widest_threads p = greatest-each (λ y. length y.threads) p.codes c lc in
    let cs : length (counts_of x) ≡ length x.threads = length-mapped (λ y. y.count) x.threads in
    let some_thread : 0 < length x.threads = (small-code p args limits c r lc).some_thread in
    let fc = first-count (counts_of x) (widest_threads p) (omega arith) (omega arith) counts-some in
    let n : Machine = record km { table = spent km.table 0 0 } in
    let sf : spend km 0 0 ≡ Fine n = spend-fine km 0 0 fc.0 (taken_frame p c outside 0) ni.took.there fc.1 in
    let c3 : ComesTo (16 + 1) poll_at p limits s2 n =
    posts-first spends p args limits km n s2 0 c r lc (record { related = rel; at = refl }) g2.set.1.0 g2.set.1.1.0 g2.set.1.1.1.0 g2.set.0
    (code-put m.codes 0 c) sf in
    let c2 : ComesTo (begin_steps p c + (16 + 1)) poll_at p limits s1 n =
    comes-behind (begin_steps p c) (16 + 1) poll_at p limits s1 s2 n (onward-comes (begin_steps p c) s1 post_at begin_used (posting_sets p 0 c) now g2) c3 in
    let c1 : ComesTo (14 + (begin_steps p c + (16 + 1))) poll_at p limits s n =
    comes-behind 14 (begin_steps p c + (16 + 1)) poll_at p limits s s1 n (onward-comes 14 s begin_at open_used sets mem g0) c2 in
    let two : 2 ≤ x.slots = (head-is p c r.checked lc).two_slots in
    let c0 : ComesTo (47 + 6 * length x.threads + 4 * x.slots) poll_at p limits s n =
    comes-within (14 + (begin_steps p c + (16 + 1))) (47 + 6 * length x.threads + 4 * x.slots) poll_at p limits s n c1 (omega arith) in
    let o : n ≡ thread_opening p args order = sym (ap (or_machine m) sf) in
    subst (λ (y : Machine). ComesTo (47 + 6 * length x.threads + 4 * x.slots) poll_at p limits s y) o c0
  where
    counts-some : (w : ℕ) → In w (counts_of (code_text p p.main)) → 1 ≤ w
    counts-some w i =
        let g = in-map (λ t. t.count) w (code_text p p.main).threads i in
        let b = count-there p p.main g.0 r.checked r.checked.main g.1 in
        let u : 1 ≤ g.0.count = b.0 in
        let e : g.0.count ≡ w = g.2 in
        omega arith

-- the start, up to the poll
pub starts-come : SpendsOne → Starts
starts-come spends p args order limits r =
    subst (λ (y : Image). ComesTo (47 + 6 * length (code_text p p.main).threads + 4 * (code_text p p.main).slots) poll_at p limits
    (host_opening y args order limits)
    (thread_opening p args order)) (sym (image-is p)) (starts-plain spends p args order limits r)
