-- The kernel runs a thread: of the current frame, or of the front frame of the queue, and the two stay related.
use Rattle.std.proofs.Common.{◌≡◌, ◌≢◌, ℕ, suc, ◌+◌, ◌*◌, ◌%◌, ◌^◌, ◌<◌, ◌≤◌, inl, inr, List, [], ◌∷◌, length, map, refl, sym, ap, ◌∙◌, arith, true}
use Rattle.std.proofs.Common.{false, true≢false, subst, Option, Some, None}
use Rattle.std.specs.Prelude.{slice_index}
use Rattle.tam_word.specs.Lists.{has}
use Rattle.tam_word.proofs.Members.{In, in-has, in-map, not-has}
use Rattle.tam_word.proofs.Tests.{self-eq}
use Rattle.tam_msgs.specs.declared.limits.Limits.{Limits}
use Rattle.frame_tables.specs.FrameTables.{Frame, FrameTable, changed, changed_in, frame_at, is_current, given_of, next_of, next_thread, rested}
use Rattle.tl0_code.specs.ThreadCode.{Program, code_text}
use Rattle.tl0_code.specs.Machines.{Machine, code_at}
use Rattle.rv_inst.specs.Harts.{reg, read_at, written_at}
use Rattle.rv_keep.specs.FrameRecords.{link_at, head_at, slots_at, next_at}
use Rattle.rv_keep.specs.KernelPlaces.{run_at, kernel_words}
use Rattle.rv_keep.specs.Image.{words_in_all, stride_of, start_of, frame_bytes}
use Rattle.rv_keep.specs.FrameBytes.{BaseKept, base_regs}
use Rattle.rv_keep.specs.LinkedLists.{Chain, last_of}
use Rattle.rv_keep.specs.Hosts.{Host}
use Rattle.rv_keep.specs.MachineLaws.{MayRun}
use Rattle.rv_keep.specs.KernelSteps.{Goes, FrontIs}
use Rattle.rv_keep.specs.PhaseLaws.{RelatedAt, ComesTo}
use Rattle.rv_keep.specs.Relation.{FrameHolds, TurnsHold, Related, current_address, frame_address, cell_address}
use Rattle.rv_keep.proofs.ImageLengths.{start-inside}
use Rattle.rv_keep.proofs.KernelWalks.{turns-to-run}
use Rattle.rv_keep.proofs.KernelRuns.{runs-current, runs-front, runs-last}
use Rattle.rv_keep.proofs.Phases.{related-at, base-goes}
use Rattle.rv_keep.proofs.Touching.{Touches, touches-none, touches-more, touches-wider, chain-reads}
use Rattle.rv_keep.proofs.Carrying.{fixed_regs, Carried, LiveFrame, live-there, comes-carried, carried-inside, frames-changed, link-inside}
use Rattle.rv_keep.proofs.Turns.{turns-current, turns-front}
use Rattle.rv_keep.proofs.FrameChanges.{frame-unlisted, unlisted_frame}
use Rattle.rv_keep.proofs.SpendsOnce.{some-more, live-frame-at}
use Rattle.rv_keep.proofs.Joined.{comes-on, comes-still}

-- the front cell of a live frame whose list has a first thread
front-is : (p : Program) (limits : Limits) (m : Machine) (s : Host) (f t : ℕ) (ts : List ℕ) (h : LiveFrame p m s f) → Related p limits m s
    → h.frame.ready ≡ t ∷ ts
    → FrontIs s.hart.memory (frame_address p f) (cell_address p f (code_at m f) t) (read_at s.hart.memory (cell_address p f (code_at m f) t + next_at) 4)
    (start_of p (code_at m f) t)
front-is p limits m s f t ts h e r =
    let mem : List ℕ = s.hart.memory in
    let o : FrameHolds p mem f (code_at m f) h.frame = h.holds in
    let al : frame_address p f % 4 ≡ 0 = o.stands.aligned in
    let kw : kernel_words ≤ words_in_all p = omega arith in
    let first : has h.frame.ready t ≡ true = subst (λ (x : List ℕ). has x t ≡ true) (sym r) (in-has (t ∷ ts) t (inl refl)) in
    let l : t < length (code_text p (code_at m f)).threads = o.ready_there t first in
    let ins : frame_address p f + frame_bytes (code_text p (code_at m f)) ≤ length mem = h.inside in
    let st : start_of p (code_at m f) t ≤ 4 * words_in_all p = start-inside p (code_at m f) t o.code_there in
    let sm : length mem < 2 ^ 32 = e.small in
    let c : Chain mem next_at (read_at mem (frame_address p f + head_at) 4) (map (cell_address p f (code_at m f)) (t ∷ ts)) =
    subst (λ (x : List ℕ). Chain mem next_at (read_at mem (frame_address p f + head_at) 4) (map (cell_address p f (code_at m f)) x)) r o.ready in
    record {
      frame_in = record { aligned = al; behind = omega arith; inside = omega arith };
      head = c.0;
      start_word = record { aligned = omega arith; behind = omega arith; inside = omega arith; is = o.ready_starts t first };
      next_word = record { aligned = omega arith; behind = omega arith; inside = omega arith; is = refl };
      apart = omega arith;
      start_aligned = omega arith;
      start_small = omega arith;
    }

-- the memory with the frame's first cell out of its list
abbrev unlisted_memory : Program → Machine → Host → ℕ → ℕ → List ℕ
unlisted_memory p m s f t = written_at s.hart.memory (frame_address p f + head_at) 4 (read_at s.hart.memory (cell_address p f (code_at m f) t + next_at) 4)

-- it differs within the frame but its link
unlisted-touches : (p : Program) (m : Machine) (s : Host) (f t : ℕ) → LiveFrame p m s f
    → Touches (frame_address p f + head_at) (frame_address p f + stride_of p) s.hart.memory (unlisted_memory p m s f t)
unlisted-touches p m s f t h =
    let rm : frame_address p f + stride_of p ≤ length s.hart.memory = h.room in
    let wd : slots_at ≤ stride_of p = h.wide in
    touches-more (frame_address p f + head_at) (frame_address p f + stride_of p) (frame_address p f + head_at)
    (read_at s.hart.memory (cell_address p f (code_at m f) t + next_at) 4) s.hart.memory s.hart.memory
    (touches-none (frame_address p f + head_at) (frame_address p f + stride_of p) s.hart.memory) (omega arith) (omega arith) (omega arith)

-- a thread of the current frame is run
enters-current : (p : Program) (args : List ℕ) (limits : Limits) (m : Machine) (s : Host) (f t : ℕ) (ts : List ℕ) → MayRun p args limits
    → RelatedAt run_at p limits m s → m.table.current ≡ Some f → (frame_at m.table f).ready ≡ t ∷ ts
    → ComesTo 10 (start_of p (code_at m f) t) p limits s
    (record m { table = record (changed m.table f (λ x. unlisted_frame x ts)) { current = Some f } })
enters-current p args limits m s f t ts r e c rd =
    let h : LiveFrame p m s f = live-there p limits m s f e.related (e.related.turns.current_live f c) in
    let rh : h.frame.ready ≡ t ∷ ts = ap (λ (x : Frame). x.ready) (sym (live-frame-at p m s f h)) ∙ rd in
    let mem : List ℕ = s.hart.memory in
    let start : ℕ = start_of p (code_at m f) t in
    let k : List ℕ = unlisted_memory p m s f t in
    let r8 : reg s.hart 8 ≡ frame_address p f = e.related.current ∙ ap (λ (x : Option ℕ). current_address p x) c in
    let g : Goes 6 s.hart start (5 ∷ 6 ∷ 11 ∷ []) [] k =
    runs-current s.hart (frame_address p f) (cell_address p f (code_at m f) t) (read_at mem (cell_address p f (code_at m f) t + next_at) 4) start
    (related-at run_at p args limits m s r e) r8 (front-is p limits m s f t ts h e.related rh) in
    let u : FrameHolds p k f (code_at m f) (unlisted_frame h.frame ts) = frame-unlisted p mem f (code_at m f) t ts h.frame h.holds rh in
    let ic : is_current m.table.current f ≡ true = ap (λ (x : Option ℕ). is_current x f) c ∙ self-eq f in
    let o : TurnsHold (record m.table { frames = changed_in m.table.frames f (λ x. unlisted_frame x ts) }) =
    turns-current m.table f (λ x. unlisted_frame x ts) ic e.related.turns in
    let b : BaseKept s.hart.regs g.regs = base-goes 6 s.hart start (5 ∷ 6 ∷ 11 ∷ []) [] k g e.related.registers (others-base (5 ∷ 6 ∷ 11 ∷ []) away) in
    let w : ComesTo 10 start p limits s (record m { table = record m.table { frames = changed_in m.table.frames f (λ x. unlisted_frame x ts) } }) =
    comes-carried 6 10 start p limits m s (record m.table { frames = changed_in m.table.frames f (λ x. unlisted_frame x ts) }) g.regs k (omega arith) g.comes
    e.related
    (carried-inside p limits m s f (λ x. unlisted_frame x ts) g.regs k e.related h u (unlisted-touches p m s f t h) o b) in
    subst (λ (x : Option ℕ). ComesTo 10 start p limits s
    (record m { table = record m.table { frames = changed_in m.table.frames f (λ y. unlisted_frame y ts); current = x } })) c w
  where
    away : (x : ℕ) → In x (5 ∷ 6 ∷ 11 ∷ []) → has base_regs x ≡ false
    away x (inl i) = subst (λ (y : ℕ). has base_regs y ≡ false) i refl
    away x (inr (inl i)) = subst (λ (y : ℕ). has base_regs y ≡ false) i refl
    away x (inr (inr (inl i))) = subst (λ (y : ℕ). has base_regs y ≡ false) i refl
    away x (inr (inr (inr i))) = absurd i

    others-base : (xs : List ℕ) → ((x : ℕ) → In x xs → has base_regs x ≡ false) → (x : ℕ) → has base_regs x ≡ true → has xs x ≡ false
    others-base xs w x q = not-has xs x (λ i. true≢false (sym q ∙ w x i))

-- the table where the front frame of the queue is current from now on, without its first ready thread
abbrev front_table : Machine → ℕ → List ℕ → List ℕ → FrameTable
front_table m f ts q = record { frames = changed_in m.table.frames f (λ x. unlisted_frame x ts); free = m.table.free; queue = q; current = Some f }

-- where the registers are so, all is carried on
front-carried : (p : Program) (limits : Limits) (m : Machine) (s : Host) (f t : ℕ) (ts q regs : List ℕ) → Related p limits m s → m.table.current ≡ None
    → m.table.queue ≡ f ∷ q → (h : LiveFrame p m s f) → h.frame.ready ≡ t ∷ ts → length regs ≡ 32
    → ((r : ℕ) → has fixed_regs r ≡ true → slice_index regs r ≡ reg s.hart r)
    → slice_index regs 8 ≡ frame_address p f → slice_index regs 9 ≡ read_at s.hart.memory (frame_address p f + link_at) 4
    → slice_index regs 18 ≡ last_of (map (frame_address p) q)
    → Carried p m s (front_table m f ts q) regs (unlisted_memory p m s f t)
front-carried p limits m s f t ts q regs e c d h rh n x r8 r9 r18 =
    let mem : List ℕ = s.hart.memory in
    let k : List ℕ = unlisted_memory p m s f t in
    let to : Touches (frame_address p f + head_at) (frame_address p f + stride_of p) mem k = unlisted-touches p m s f t h in
    let u : FrameHolds p k f (code_at m f) (unlisted_frame h.frame ts) = frame-unlisted p mem f (code_at m f) t ts h.frame h.holds rh in
    let was : Chain mem link_at (reg s.hart 9) (map (frame_address p) (f ∷ q)) =
    subst (λ (y : List ℕ). Chain mem link_at (reg s.hart 9) (map (frame_address p) y)) d e.queue in
    let rest : Chain mem link_at (read_at mem (frame_address p f + link_at) 4) (map (frame_address p) q) = was.2 in
    record {
      place = f;
      change = λ y. unlisted_frame y ts;
      frames_are = refl;
      free_are = refl;
      long = to.long;
      image = λ b j l. to.before b j (omega arith);
      frames = frames-changed p limits m s f (λ y. unlisted_frame y ts) h.frame k e h.there u
          (touches-wider (frame_address p f + head_at) (frame_address p f) (frame_address p f + stride_of p) mem k (omega arith) to);
      turns = turns-front m.table f q (λ y. unlisted_frame y ts) c d e.turns;
      many = n ∙ sym e.registers;
      fixed = x;
      current = r8;
      queue = subst (λ (y : ℕ). Chain k link_at y (map (frame_address p) q)) (sym r9)
          (chain-reads (map (frame_address p) q) mem k link_at (read_at mem (frame_address p f + link_at) 4) (links k to) rest);
      last = r18;
    }
  where
    links : (k : List ℕ) → Touches (frame_address p f + head_at) (frame_address p f + stride_of p) s.hart.memory k → (y : ℕ) → In y (map (frame_address p) q)
        → read_at k (y + link_at) 4 ≡ read_at s.hart.memory (y + link_at) 4
    links k to y i =
        let g = in-map (frame_address p) y q i in
        subst (λ (z : ℕ). read_at k (z + link_at) 4 ≡ read_at s.hart.memory (z + link_at) 4) g.2 (link-inside p s.hart.memory k f g.0 to h.wide)

-- a thread of the front frame is run
enters-front : (p : Program) (args : List ℕ) (limits : Limits) (m : Machine) (s : Host) (f t : ℕ) (ts q : List ℕ) → MayRun p args limits
    → RelatedAt run_at p limits m s → m.table.current ≡ None → m.table.queue ≡ f ∷ q → (frame_at m.table f).ready ≡ t ∷ ts
    → ComesTo 10 (start_of p (code_at m f) t) p limits s (record m { table = front_table m f ts q })
enters-front p args limits m s f t ts q r e c d rd = go q d
  where
    queued : has m.table.queue f ≡ true
    queued = subst (λ (x : List ℕ). has x f ≡ true) (sym d) (in-has (f ∷ q) f (inl refl))

    h : LiveFrame p m s f
    h = live-there p limits m s f e.related (e.related.turns.queued_live f queued)

    rh : h.frame.ready ≡ t ∷ ts
    rh = ap (λ (x : Frame). x.ready) (sym (live-frame-at p m s f h)) ∙ rd

    r8 : reg s.hart 8 ≡ 0
    r8 = e.related.current ∙ ap (λ (x : Option ℕ). current_address p x) c

    was : (q : List ℕ) → m.table.queue ≡ f ∷ q → Chain s.hart.memory link_at (reg s.hart 9) (map (frame_address p) (f ∷ q))
    was q d = subst (λ (y : List ℕ). Chain s.hart.memory link_at (reg s.hart 9) (map (frame_address p) y)) d e.related.queue

    go : (q : List ℕ) → m.table.queue ≡ f ∷ q → ComesTo 10 (start_of p (code_at m f) t) p limits s (record m { table = front_table m f ts q })
    go [] d =
        let mem : List ℕ = s.hart.memory in
        let at : ℕ = frame_address p f in
        let cell : ℕ = cell_address p f (code_at m f) t in
        let start : ℕ = start_of p (code_at m f) t in
        let k : List ℕ = unlisted_memory p m s f t in
        let w : Chain mem link_at (reg s.hart 9) (map (frame_address p) (f ∷ [])) = was [] d in
        let g : Goes 10 s.hart start (5 ∷ 6 ∷ 8 ∷ 9 ∷ 11 ∷ 18 ∷ []) ((8, at) ∷ (9, 0) ∷ (18, 0) ∷ []) k =
        runs-last s.hart at cell (read_at mem (cell + next_at) 4) start (related-at run_at p args limits m s r e) r8 w.0
        (front-is p limits m s f t ts h e.related rh) w.2 in
        comes-carried 10 10 start p limits m s (front_table m f ts []) g.regs k (omega arith) g.comes e.related
        (front-carried p limits m s f t ts [] g.regs e.related c d h rh g.many (λ x i. g.same x (away (5 ∷ 6 ∷ 8 ∷ 9 ∷ 11 ∷ 18 ∷ []) x i)) g.set.0
        (g.set.1.0 ∙ sym w.2) g.set.1.1.0)
      where
        away : (xs : List ℕ) (x : ℕ) → has fixed_regs x ≡ true → has (5 ∷ 6 ∷ 8 ∷ 9 ∷ 11 ∷ 18 ∷ []) x ≡ false
        away xs x i = not-has (5 ∷ 6 ∷ 8 ∷ 9 ∷ 11 ∷ 18 ∷ []) x (λ j. true≢false (sym i ∙ apart j))
          where
            apart : In x (5 ∷ 6 ∷ 8 ∷ 9 ∷ 11 ∷ 18 ∷ []) → has fixed_regs x ≡ false
            apart (inl i) = subst (λ (y : ℕ). has fixed_regs y ≡ false) i refl
            apart (inr (inl i)) = subst (λ (y : ℕ). has fixed_regs y ≡ false) i refl
            apart (inr (inr (inl i))) = subst (λ (y : ℕ). has fixed_regs y ≡ false) i refl
            apart (inr (inr (inr (inl i)))) = subst (λ (y : ℕ). has fixed_regs y ≡ false) i refl
            apart (inr (inr (inr (inr (inl i))))) = subst (λ (y : ℕ). has fixed_regs y ≡ false) i refl
            apart (inr (inr (inr (inr (inr (inl i)))))) = subst (λ (y : ℕ). has fixed_regs y ≡ false) i refl
            apart (inr (inr (inr (inr (inr (inr i)))))) = absurd i
    go (y ∷ ys) d =
        let mem : List ℕ = s.hart.memory in
        let at : ℕ = frame_address p f in
        let cell : ℕ = cell_address p f (code_at m f) t in
        let start : ℕ = start_of p (code_at m f) t in
        let k : List ℕ = unlisted_memory p m s f t in
        let w : Chain mem link_at (reg s.hart 9) (map (frame_address p) (f ∷ y ∷ ys)) = was (y ∷ ys) d in
        let n : read_at mem (at + link_at) 4 ≢ 0 = λ z. w.2.1 (sym w.2.0 ∙ z) in
        let o = some-more (read_at mem (at + link_at) 4) n in
        let g : Goes 9 s.hart start (5 ∷ 6 ∷ 8 ∷ 9 ∷ 11 ∷ []) ((8, at) ∷ (9, suc o.0) ∷ []) k =
        runs-front s.hart at o.0 cell (read_at mem (cell + next_at) 4) start (related-at run_at p args limits m s r e) r8 w.0
        (front-is p limits m s f t ts h e.related rh) o.1 in
        let l : reg s.hart 18 ≡ last_of (map (frame_address p) (y ∷ ys)) = e.related.last ∙ ap (λ (x : List ℕ). last_of (map (frame_address p) x)) d in
        comes-carried 9 10 start p limits m s (front_table m f ts (y ∷ ys)) g.regs k (omega arith) g.comes e.related
        (front-carried p limits m s f t ts (y ∷ ys) g.regs e.related c d h rh g.many (λ x i. g.same x (away x i)) g.set.0
        (g.set.1.0 ∙ sym o.1) (g.same 18 refl ∙ l))
      where
        away : (x : ℕ) → has fixed_regs x ≡ true → has (5 ∷ 6 ∷ 8 ∷ 9 ∷ 11 ∷ []) x ≡ false
        away x i = not-has (5 ∷ 6 ∷ 8 ∷ 9 ∷ 11 ∷ []) x (λ j. true≢false (sym i ∙ apart j))
          where
            apart : In x (5 ∷ 6 ∷ 8 ∷ 9 ∷ 11 ∷ []) → has fixed_regs x ≡ false
            apart (inl i) = subst (λ (y : ℕ). has fixed_regs y ≡ false) i refl
            apart (inr (inl i)) = subst (λ (y : ℕ). has fixed_regs y ≡ false) i refl
            apart (inr (inr (inl i))) = subst (λ (y : ℕ). has fixed_regs y ≡ false) i refl
            apart (inr (inr (inr (inl i)))) = subst (λ (y : ℕ). has fixed_regs y ≡ false) i refl
            apart (inr (inr (inr (inr (inl i))))) = subst (λ (y : ℕ). has fixed_regs y ≡ false) i refl
            apart (inr (inr (inr (inr (inr i))))) = absurd i

-- ---- both

-- no thread isn't some thread
none-given : (s u : FrameTable) (x : ℕ × ℕ) → ◌≡◌ {A = Option (ℕ × ℕ) × FrameTable} (None, s) (Some x, u) → ⊥
none-given s u x e = apart (ap (λ y. y.0) e)
  where
    apart : ◌≡◌ {A = Option (ℕ × ℕ)} None (Some x) → ⊥
    apart k = absurd cc

-- a thread that is given: its frame has it first
given-front : (s u : FrameTable) (g f t : ℕ) (r : List ℕ) → given_of s g r ≡ (Some (f, t), u)
    → (ts : List ℕ) × (r ≡ t ∷ ts) × (g ≡ f) × (record (changed s f (λ x. unlisted_frame x ts)) { current = Some f } ≡ u)
given-front s u g f t [] e = absurd (none-given s u (f, t) e)
given-front s u g f t (v ∷ vs) e =
    let a : given_of s g (v ∷ vs) ≡ (Some (f, t), u) = e in
    let b : Some (g, v) ≡ Some (f, t) = ap (λ x. x.0) a in
    let c : record (changed s g (λ x. unlisted_frame x vs)) { current = Some g } ≡ u = ap (λ x. x.1) a in
    let i : (g, v) ≡ (f, t) = cc in
    let j : g ≡ f = ap (λ (x : ℕ × ℕ). x.0) i in
    let k : v ≡ t = ap (λ (x : ℕ × ℕ). x.1) i in
    (vs, ap (λ (x : ℕ). x ∷ vs) k, j, subst (λ (x : ℕ). record (changed s x (λ y. unlisted_frame y vs)) { current = Some x } ≡ u) j c)

-- from the kernel's part for it
runs-next : (p : Program) (args : List ℕ) (limits : Limits) (m : Machine) (s : Host) (f t : ℕ) (u : FrameTable) → MayRun p args limits
    → RelatedAt run_at p limits m s → (c : Option ℕ) (q : List ℕ) → m.table.current ≡ c → m.table.queue ≡ q → next_of m.table c q ≡ (Some (f, t), u)
    → ComesTo 10 (start_of p (code_at m f) t) p limits s (record m { table = u })
runs-next p args limits m s f t u r e (Some g) q c d n =
    let w = given-front m.table u g f t (frame_at m.table g).ready n in
    let rd : (frame_at m.table f).ready ≡ t ∷ w.0 = subst (λ (x : ℕ). (frame_at m.table x).ready ≡ t ∷ w.0) w.2 w.1 in
    subst (λ (x : FrameTable). ComesTo 10 (start_of p (code_at m f) t) p limits s (record m { table = x })) w.3
    (enters-current p args limits m s f t w.0 r e (c ∙ ap (λ (x : ℕ). Some x) w.2) rd)
runs-next p args limits m s f t u r e None [] c d n = absurd (none-given m.table u (f, t) n)
runs-next p args limits m s f t u r e None (g ∷ q) c d n =
    let w = given-front (record m.table { queue = q }) u g f t (frame_at m.table g).ready n in
    let rd : (frame_at m.table f).ready ≡ t ∷ w.0 = subst (λ (x : ℕ). (frame_at m.table x).ready ≡ t ∷ w.0) w.2 w.1 in
    subst (λ (x : FrameTable). ComesTo 10 (start_of p (code_at m f) t) p limits s (record m { table = x })) w.3
    (enters-front p args limits m s f t w.0 q r e c (d ∙ ap (λ (x : ℕ). x ∷ q) w.2) rd)

-- from the poll on
pub enters-next : (p : Program) (args : List ℕ) (limits : Limits) (m : Machine) (s : Host) (f t : ℕ) (table : FrameTable) → MayRun p args limits
    → rested m.table ≡ m.table → RelatedAt 80 p limits m s → reg s.hart 10 ≡ 1 → next_thread m.table ≡ (Some (f, t), table)
    → ComesTo 13 (start_of p (code_at m f) t) p limits s (record m { table = table })
enters-next p args limits m s f t u r q e g n =
    let w : next_of m.table m.table.current m.table.queue ≡ (Some (f, t), u) =
    sym (ap (λ (x : FrameTable). next_of x x.current m.table.queue) q) ∙ n in
    comes-on 3 10 run_at (start_of p (code_at m f) t) p limits s m (record m { table = u })
    (comes-still 3 run_at (5 ∷ []) [] p limits m s e.related (turns-to-run s.hart (related-at 80 p args limits m s r e) g) away)
    (λ h i. runs-next p args limits m h f t u r i m.table.current m.table.queue refl refl w)
  where
    away : (x : ℕ) → has base_regs x ≡ true → has (5 ∷ []) x ≡ false
    away x i = not-has (5 ∷ []) x (λ j. true≢false (sym i ∙ apart j))
      where
        apart : In x (5 ∷ []) → has base_regs x ≡ false
        apart (inl j) = subst (λ (y : ℕ). has base_regs y ≡ false) j refl
        apart (inr j) = absurd j
