-- The routine that spends a count, where a frame goes behind the queue: all is carried on.
use Rattle.std.proofs.Common.{◌≡◌, ◌≢◌, ◌⊎◌, ℕ, ◌+◌, ◌*◌, ◌%◌, ◌^◌, ◌<◌, ◌≤◌, inl, inr, List, [], ◌∷◌, ◌++◌, length, map, take, drop, refl, sym, ap}
use Rattle.std.proofs.Common.{◌∙◌, arith, true, false, true≢false, subst, Some, slice_get}
use Rattle.std.proofs.Math.Nat.{mod-eq_of_lt}
use Rattle.tam_word.specs.Lists.{has}
use Rattle.tam_word.proofs.Members.{In, in-has}
use Rattle.tam_msgs.specs.declared.limits.Limits.{Limits}
use Rattle.frame_tables.specs.FrameTables.{Frame, FrameTable, changed_in, is_current}
use Rattle.tl0_code.specs.ThreadCode.{Program}
use Rattle.tl0_code.specs.Machines.{Machine, code_at}
use Rattle.rv_inst.specs.Harts.{reg, read_at, written_at}
use Rattle.rv_inst.proofs.Memory.{length-written, read-written, before-written}
use Rattle.rv_keep.specs.FrameRecords.{link_at, head_at, slots_at}
use Rattle.rv_keep.specs.KernelPlaces.{post_end, kernel_words}
use Rattle.rv_keep.specs.Image.{words_in_all, stride_of}
use Rattle.rv_keep.specs.LinkedLists.{Chain}
use Rattle.rv_keep.specs.Posting.{Queues}
use Rattle.rv_keep.specs.Hosts.{Host}
use Rattle.rv_keep.specs.PhaseLaws.{ComesTo}
use Rattle.rv_keep.specs.Relation.{FrameHolds, Related, frame_address, cell_address}
use Rattle.rv_keep.proofs.Frames.{word-apart}
use Rattle.rv_keep.proofs.Touching.{Touches, touches-wider}
use Rattle.rv_keep.proofs.Carrying.{fixed_regs, LiveFrame, live-there, comes-carried, frames-changed, frame-linking, link-inside}
use Rattle.rv_keep.proofs.Turns.{Differ, turns-queued}
use Rattle.rv_keep.proofs.FrameChanges.{linked_frame}
use Rattle.rv_keep.proofs.QueueGrows.{last_in, last-among, last-behind, addresses-far, queue-grown}
use Rattle.rv_keep.proofs.PostedPaths.{Posting, base-apart, listed, listed-touches, listed-holds}

-- ---- the frame goes behind the queue

-- the table behind
abbrev pub queued_table : Machine → ℕ → ℕ → FrameTable
queued_table m f t = record m.table { frames = changed_in m.table.frames f (λ x. linked_frame x t); queue = m.table.queue ++ f ∷ [] }

-- a memory in which the frames are so
pub record FramesQueued (p : Program) (m : Machine) (s : Host) (f t : ℕ) (k : List ℕ) : Type 0 where
  pub long : length k ≡ length s.hart.memory
  pub image : (b n : ℕ) → b + n ≤ 4 * words_in_all p → take n (drop b k) ≡ take n (drop b s.hart.memory)
  pub frames : (g : ℕ) (h : Frame) → slice_get (changed_in m.table.frames f (λ x. linked_frame x t)) g ≡ Some (Some h) → FrameHolds p k g (code_at m g) h

-- the links of all others are as they were, and its own is 0
pub record LinksQueued (p : Program) (s : Host) (f : ℕ) (k : List ℕ) : Type 0 where
  pub links : (x : ℕ) → x ≢ f → read_at k (frame_address p x + link_at) 4 ≡ read_at s.hart.memory (frame_address p x + link_at) 4
  pub own : read_at k (frame_address p f + link_at) 4 ≡ 0

-- so is the routine's memory with 0 in the frame's link
pub frames-queued : (p : Program) (limits : Limits) (m : Machine) (s : Host) (f t back : ℕ) (a : Posting p limits m s f t back)
    → slice_get a.live.frame.counts t ≡ Some 1
    → FramesQueued p m s f t (written_at (listed p m s f t) (frame_address p f) 4 0)
frames-queued p limits m s f t back a g =
    let mem : List ℕ = s.hart.memory in
    let k : List ℕ = listed p m s f t in
    let at : ℕ = frame_address p f in
    let to : Touches (at + head_at) (at + stride_of p) mem k = listed-touches p limits m s f t back a in
    let wt : Touches at (at + stride_of p) mem k = touches-wider (at + head_at) at (at + stride_of p) mem k (omega arith) to in
    let lk : length k ≡ length mem = to.long in
    let rm : at + stride_of p ≤ length mem = a.live.room in
    let wd : slots_at ≤ stride_of p = a.live.wide in
    record {
      long = length-written k at 4 0 (omega arith) ∙ lk;
      image = λ b n l. before-written k at 4 0 b n (omega arith) (omega arith) ∙ to.before b n (omega arith);
      frames = λ x h q. frame-linking p k f x (code_at m x) 0 h
          (frames-changed p limits m s f (λ y. linked_frame y t) a.live.frame k a.related a.live.there (listed-holds p limits m s f t back a g) wt x h q) wd
          (omega arith);
    }

-- where a frame joins the queue, the links lead through the queue with it at the end
pub links-queued : (p : Program) (limits : Limits) (m : Machine) (s : Host) (f t back : ℕ) (a : Posting p limits m s f t back)
    → LinksQueued p s f (written_at (listed p m s f t) (frame_address p f) 4 0)
links-queued p limits m s f t back a =
    let mem : List ℕ = s.hart.memory in
    let k : List ℕ = listed p m s f t in
    let at : ℕ = frame_address p f in
    let to : Touches (at + head_at) (at + stride_of p) mem k = listed-touches p limits m s f t back a in
    let lk : length k ≡ length mem = to.long in
    let rm : at + stride_of p ≤ length mem = a.live.room in
    let wd : slots_at ≤ stride_of p = a.live.wide in
    let zero_link : at + link_at ≡ at = omega arith in
    record {
      links = λ x n. word-apart k at 0 (frame_address p x + link_at) (far x (addresses-far p f x (λ i. n (sym i)) wd)) (omega arith)
          ∙ link-inside p mem k f x to wd;
      own = ap (λ (x : ℕ). read_at (written_at k at 4 0) x 4) zero_link ∙ read-written k at 0 (omega arith);
    }
  where
    far : (x : ℕ) → (frame_address p f + slots_at ≤ frame_address p x) ⊎ (frame_address p x + slots_at ≤ frame_address p f)
        → (frame_address p x + link_at + 4 ≤ frame_address p f) ⊎ (frame_address p f + 4 ≤ frame_address p x + link_at)
    far x (inl o) = inr (omega arith)
    far x (inr o) = inl (omega arith)

-- where the routine comes back with the frame behind the queue, all is carried on
pub behind-carried : (p : Program) (limits : Limits) (m : Machine) (s : Host) (f t back n front : ℕ) (k : List ℕ) → Posting p limits m s f t back
    → has m.table.queue f ≡ false → is_current m.table.current f ≡ false → n ≤ 16 → FramesQueued p m s f t k → Queues n s.hart back k front (frame_address p f)
    → Chain k link_at front (map (frame_address p) (m.table.queue ++ f ∷ []))
    → ComesTo 16 back p limits s (record m { table = queued_table m f t })
behind-carried p limits m s f t back n front k a nq nc l w q c =
    comes-carried n 16 back p limits m s (queued_table m f t) q.regs k l q.comes a.related (record {
      place = f;
      change = λ x. linked_frame x t;
      frames_are = refl;
      free_are = refl;
      long = w.long;
      image = w.image;
      frames = w.frames;
      turns = turns-queued m.table f (λ x. linked_frame x t) a.live.frame a.live.there a.is_live_frame (λ z. absurd cc) nq nc a.related.turns;
      many = q.many;
      fixed = λ r x. q.others r (base-apart fixed_regs r 5 x refl) (base-apart fixed_regs r 6 x refl) (base-apart fixed_regs r 9 x refl)
          (base-apart fixed_regs r 18 x refl);
      current = q.others 8 (omega arith) (omega arith) (omega arith) (omega arith) ∙ a.related.current;
      queue = subst (λ (x : ℕ). Chain k link_at x (map (frame_address p) (m.table.queue ++ f ∷ []))) (sym q.front_is) c;
      last = q.last_is ∙ sym (last-behind p m.table.queue f);
    })

-- a frame's address isn't 0
pub address-there : (p : Program) (f : ℕ) → frame_address p f ≢ 0
address-there p f = let l : kernel_words ≤ words_in_all p = omega arith in omega arith

-- the queue was empty
pub first-carried : (p : Program) (limits : Limits) (m : Machine) (s : Host) (f t back : ℕ) (a : Posting p limits m s f t back)
    → slice_get a.live.frame.counts t ≡ Some 1 → has m.table.queue f ≡ false → is_current m.table.current f ≡ false → m.table.queue ≡ []
    → Queues 16 s.hart back (written_at (listed p m s f t) (frame_address p f) 4 0) (frame_address p f) (frame_address p f)
    → ComesTo 16 back p limits s (record m { table = queued_table m f t })
first-carried p limits m s f t back a g nq nc e q =
    let k : List ℕ = written_at (listed p m s f t) (frame_address p f) 4 0 in
    let w : FramesQueued p m s f t k = frames-queued p limits m s f t back a g in
    let c : Chain k link_at (frame_address p f) (map (frame_address p) ([] ++ f ∷ [])) =
    (refl, address-there p f, (links-queued p limits m s f t back a).own) in
    behind-carried p limits m s f t back 16 (frame_address p f) k a nq nc (omega arith) w q
    (subst (λ (x : List ℕ). Chain k link_at (frame_address p f) (map (frame_address p) (x ++ f ∷ []))) (sym e) c)

-- the link of a queued frame, where it isn't f: within the memory, behind the kernel, aligned
pub record LinkPlace (p : Program) (m : Machine) (s : Host) (g : ℕ) : Type 0 where
  pub aligned : frame_address p g % 4 ≡ 0
  pub behind : post_end ≤ frame_address p g
  pub inside : frame_address p g + 4 ≤ length s.hart.memory

-- a frame in the queue has a place for its link
pub link-place : (p : Program) (limits : Limits) (m : Machine) (s : Host) (g : ℕ) → Related p limits m s → has m.table.queue g ≡ true → LinkPlace p m s g
link-place p limits m s g e q =
    let h : LiveFrame p m s g = live-there p limits m s g e (e.turns.queued_live g q) in
    let kw : kernel_words ≤ words_in_all p = omega arith in
    let i : frame_address p g + stride_of p ≤ length s.hart.memory = h.room in
    let v : slots_at ≤ stride_of p = h.wide in
    record { aligned = h.holds.stands.aligned; behind = omega arith; inside = omega arith }

-- the queue wasn't empty: the link of its last is the frame
pub last-carried : (p : Program) (limits : Limits) (m : Machine) (s : Host) (f t back g : ℕ) (rest : List ℕ) (a : Posting p limits m s f t back)
    → slice_get a.live.frame.counts t ≡ Some 1 → has m.table.queue f ≡ false → is_current m.table.current f ≡ false → m.table.queue ≡ g ∷ rest
    → Queues 15 s.hart back (written_at (written_at (listed p m s f t) (frame_address p f) 4 0) (frame_address p (last_in g rest)) 4 (frame_address p f))
    (reg s.hart 9) (frame_address p f)
    → ComesTo 16 back p limits s (record m { table = queued_table m f t })
last-carried p limits m s f t back g rest a gc nq nc e q =
    let mem : List ℕ = s.hart.memory in
    let at : ℕ = frame_address p f in
    let z : ℕ = last_in g rest in
    let k : List ℕ = written_at (listed p m s f t) at 4 0 in
    let n : List ℕ = written_at k (frame_address p z) 4 at in
    let w : FramesQueued p m s f t k = frames-queued p limits m s f t back a gc in
    let lk : length k ≡ length mem = w.long in
    let zq : has m.table.queue z ≡ true = subst (λ (x : List ℕ). has x z ≡ true) (sym e) (in-has (g ∷ rest) z (last-among g rest)) in
    let pl : LinkPlace p m s z = link-place p limits m s z a.related zq in
    let zi : frame_address p z + 4 ≤ length mem = pl.inside in
    let sm : length mem < 2 ^ 32 = a.at.small in
    let cl : cell_address p f (code_at m f) t + 8 ≤ length mem = a.at.cell_inside in
    let be : at + slots_at ≤ cell_address p f (code_at m f) t = a.apart.before in
    let wd : slots_at ≤ stride_of p = a.live.wide in
    let d : z ≢ f = λ i. true≢false (sym zq ∙ (ap (λ (x : ℕ). has m.table.queue x) i ∙ nq)) in
    let zl : frame_address p z + link_at ≡ frame_address p z = omega arith in
    let y : LinksQueued p s f k = links-queued p limits m s f t back a in
    let own : read_at n (at + link_at) 4 ≡ 0 =
    word-apart k (frame_address p z) at (at + link_at) (far z f (addresses-far p z f d wd)) (omega arith) ∙ y.own in
    let lastly : read_at n (frame_address p z + link_at) 4 ≡ at =
    ap (λ (x : ℕ). read_at n x 4) zl ∙ (read-written k (frame_address p z) at (omega arith) ∙ mod-eq_of_lt (omega arith)) in
    let others : (x : ℕ) → In x (g ∷ rest) → x ≢ z → read_at n (frame_address p x + link_at) 4 ≡ read_at mem (frame_address p x + link_at) 4 =
    λ x i u. word-apart k (frame_address p z) at (frame_address p x + link_at) (far z x (addresses-far p z x (λ j. u (sym j)) wd)) (omega arith)
    ∙ y.links x (λ j. true≢false (sym (subst (λ (r : List ℕ). has r x ≡ true) (sym e) (in-has (g ∷ rest) x i))
    ∙ (ap (λ (r : ℕ). has m.table.queue r) j ∙ nq))) in
    let was : Chain mem link_at (reg s.hart 9) (map (frame_address p) (g ∷ rest)) =
    subst (λ (x : List ℕ). Chain mem link_at (reg s.hart 9) (map (frame_address p) x)) e a.related.queue in
    let df : Differ (g ∷ rest) = subst (λ (x : List ℕ). Differ x) e a.related.turns.differ in
    let c : Chain n link_at (reg s.hart 9) (map (frame_address p) ((g ∷ rest) ++ f ∷ [])) =
    queue-grown p mem n (reg s.hart 9) f g rest df was others lastly (address-there p f) own in
    behind-carried p limits m s f t back 15 (reg s.hart 9) n a nq nc (omega arith)
    (record {
      long = length-written k (frame_address p z) 4 at (omega arith) ∙ lk;
      image = λ b j l. before-written k (frame_address p z) 4 at b j (omega arith) (omega arith) ∙ w.image b j l;
      frames = λ x h u. frame-linking p k z x (code_at m x) at h (w.frames x h u) wd (omega arith);
    })
    q (subst (λ (x : List ℕ). Chain n link_at (reg s.hart 9) (map (frame_address p) (x ++ f ∷ []))) (sym e) c)
  where
    far : (z x : ℕ) → (frame_address p z + slots_at ≤ frame_address p x) ⊎ (frame_address p x + slots_at ≤ frame_address p z)
        → (frame_address p x + link_at + 4 ≤ frame_address p z) ⊎ (frame_address p z + 4 ≤ frame_address p x + link_at)
    far z x (inl o) = inr (omega arith)
    far z x (inr o) = inl (omega arith)
