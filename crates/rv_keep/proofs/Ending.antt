-- A thread stops: its frame owes one less, or is given back, and the two stay related up to the poll.
use Rattle.std.proofs.Common.{◌≡◌, ◌≢◌, ◌⊎◌, ℕ, zero, suc, ◌+◌, ◌-◌, ◌*◌, ◌^◌, ◌<◌, ◌≤◌, inl, inr, List, [], ◌∷◌, length, map, refl, sym, ap, ◌∙◌}
use Rattle.std.proofs.Common.{arith, true, false, Bool, ◌==◌, true≢false, subst, Option, Some, None, slice_get}
use Rattle.std.specs.Prelude.{slice_index, slice_set, count_by}
use Rattle.tam_word.specs.Lists.{has}
use Rattle.tam_word.proofs.Members.{In, in-has, has-in, in-map, not-has}
use Rattle.tam_word.proofs.Tests.{self-eq, number-eq, number-differs}
use Rattle.tam_msgs.specs.declared.limits.Limits.{Limits}
use Rattle.frame_tables.specs.FrameTables.{Frame, FrameTable, changed_in, frame_at, is_live, is_some_frame, is_held, is_current, lowered, given_back}
use Rattle.tl0_code.specs.ThreadCode.{Program}
use Rattle.tl0_code.specs.Machines.{Machine, Giving, Fine, code_at, at_rest, owing_less, with_given as with_number_given, all_done, stopped_owing, stopped}
use Rattle.rv_inst.specs.Harts.{Hart, Called, reg, read_at, written_at}
use Rattle.rv_inst.specs.Execution.{hart_step}
use Rattle.rv_inst.specs.Steps.{Stands}
use Rattle.rv_keep.specs.FrameRecords.{link_at, head_at, owed_at, slots_at, next_at}
use Rattle.rv_keep.specs.KernelPlaces.{rest_at, poll_at, stop_at, kernel_end}
use Rattle.rv_keep.specs.Expansions.{stop}
use Rattle.rv_keep.specs.Image.{words_in_all, stride_of, image_words}
use Rattle.rv_keep.specs.LinkedLists.{Chain}
use Rattle.rv_keep.specs.Posting.{gone}
use Rattle.rv_keep.specs.Hosts.{Host, Reached, with_hart, with_given, silent, to_poll}
use Rattle.rv_keep.specs.MachineLaws.{MayRun}
use Rattle.rv_keep.specs.KernelSteps.{KernelStands, AtKernel, Goes, GoesCalling, FrameIn}
use Rattle.rv_keep.specs.PhaseLaws.{RelatedAt, ComesTo}
use Rattle.rv_keep.specs.Relation.{FrameHolds, Related, current_address, frame_address, cell_address}
use Rattle.rv_keep.proofs.KernelStands.{kernel-still}
use Rattle.rv_keep.proofs.KernelWalks.{stop-gives, given-rests, rests-none}
use Rattle.rv_keep.proofs.Polling.{comes-poll}
use Rattle.rv_keep.proofs.Phases.{related-at}
use Rattle.rv_keep.proofs.Touching.{Touches, touches-wider, chain-reads}
use Rattle.rv_keep.proofs.Carrying.{fixed_regs, LiveFrame, live-there, link-inside, live-below, frame-other}
use Rattle.rv_keep.proofs.Turns.{differ-joined, either-way}
use Rattle.rv_keep.proofs.TableChanges.{ready-changed}
use Rattle.rv_keep.proofs.Frames.{word-apart}
use Rattle.rv_keep.proofs.ImageLengths.{image-long}
use Rattle.rv_keep.proofs.FrameChanges.{has-first}
use Rattle.rv_keep.proofs.SpendsOnce.{live-frame-at}
use Rattle.rv_keep.proofs.PostedPaths.{base-apart}
use Rattle.rv_keep.proofs.Joined.{comes-on, comes-within}
use Rattle.rv_keep.proofs.GivenBack.{without, without-none, without-other, without-differ, without-one, gone-long, gone-same, gone-other, gone-count}
use Rattle.rv_keep.proofs.GivenBack.{turns-gone}
use Rattle.rv_keep.proofs.Keeping.{fine-same}
use Rattle.rv_keep.proofs.Resting.{broken-fine, comes-stop, frame-in, rest-away, rests-on, owed-touches, stops-owing}

-- ---- it owes nothing more

-- a live number is given back
silent-six : (h : Hart) (s : Host) (go : Host → Reached) (f : ℕ) → reg h 10 ≡ f → has s.live f ≡ true → silent 6 h s go ≡ go (with_given s h f)
silent-six h s go f t v =
    let q : has s.live (reg h 10) ≡ true = ap (λ (x : ℕ). has s.live x) t ∙ v in
    rw (silent, q) (ap (λ (x : ℕ). go (with_given s h x)) t)

-- a call that gives a live number back
given-poll : (n : ℕ) (s : Host) (g : Hart) (f : ℕ) → hart_step s.hart ≡ Called g → reg g 17 ≡ 6 → reg g 10 ≡ f → has s.live f ≡ true
    → to_poll (suc n) s ≡ to_poll n (with_given s g f)
given-poll n s g f e r t v = rw (to_poll, e) (rw r (silent-six g s (λ x. to_poll n x) f t v))

-- the table behind
abbrev gone_table : Machine → ℕ → FrameTable
gone_table m f = record { frames = slice_set m.table.frames f None; free = f ∷ m.table.free; queue = m.table.queue; current = None }

-- a frame that is changed and then gone is gone
gone-changed : (hs : List (Option Frame)) (f : ℕ) (change : Frame → Frame) → slice_set (changed_in hs f change) f None ≡ slice_set hs f None
gone-changed [] f change = refl
gone-changed (None ∷ hs) zero change = refl
gone-changed (Some h ∷ hs) zero change = refl
gone-changed (None ∷ hs) (suc f) change = ap (λ (x : List (Option Frame)). None ∷ x) (gone-changed hs f change)
gone-changed (Some h ∷ hs) (suc f) change = ap (λ (x : List (Option Frame)). Some h ∷ x) (gone-changed hs f change)

-- it is what the run makes of it
gone-is : (m : Machine) (f : ℕ) → m.table.current ≡ Some f → gone_table m f ≡ given_back (lowered m.table f 1) f
gone-is m f c =
    let q : is_current m.table.current f ≡ true = ap (λ (x : Option ℕ). is_current x f) c ∙ self-eq f in
    ap (λ (x : List (Option Frame)). record { frames = x; free = f ∷ m.table.free; queue = m.table.queue; current = None })
    (sym (gone-changed m.table.frames f (λ h. record h { owed = h.owed - 1 })))
    ∙ ap (λ (x : Option ℕ). record {
      frames = slice_set (changed_in m.table.frames f (λ h. record h { owed = h.owed - 1 })) f None;
      free = f ∷ m.table.free;
      queue = m.table.queue;
      current = x;
    }) (sym (nobody (is_current m.table.current f) q))
  where
    nobody : (b : Bool) → b ≡ true → ◌≡◌ {A = Option ℕ} (elim b [ true ↦ None | false ↦ m.table.current ]) None
    nobody true i = refl
    nobody false i = absurd (true≢false (sym i))

-- registers and memory where the frame is gone
record GoneRegs (p : Program) (m : Machine) (s : Host) (f : ℕ) (regs : List ℕ) : Type 0 where
  pub many : length regs ≡ 32
  pub fixed : (r : ℕ) → has fixed_regs r ≡ true → slice_index regs r ≡ reg s.hart r
  pub current : slice_index regs 8 ≡ 0
  pub queue : slice_index regs 9 ≡ reg s.hart 9
  pub last : slice_index regs 18 ≡ reg s.hart 18

-- the host's state behind it
abbrev gone_host : Host → Hart → ℕ → Host
gone_host s h f = with_given s h f

-- the two stay related
related-gone : (p : Program) (limits : Limits) (m : Machine) (s : Host) (f : ℕ) (h : Hart) → Related p limits m s → m.table.current ≡ Some f
    → (frame_at m.table f).ready ≡ [] → GoneRegs p m s f h.regs
    → Touches (frame_address p f + head_at) (frame_address p f + stride_of p) s.hart.memory h.memory
    → Related p limits (record m { table = gone_table m f }) (gone_host s h f)
related-gone p limits m s f h e c rd w to =
    let hs : List (Option Frame) = m.table.frames in
    let mem : List ℕ = s.hart.memory in
    let k : List ℕ = h.memory in
    let v : is_live m.table f ≡ true = e.turns.current_live f c in
    let lf : LiveFrame p m s f = live-there p limits m s f e v in
    let wd : slots_at ≤ stride_of p = lf.wide in
    let hl : has s.live f ≡ true = e.same.live f ∙ v in
    let lo : length (without f s.live) + 1 ≡ length s.live = without-one f s.live e.numbers.live_differ (has-in s.live f hl) in
    let gc : count_by is_held (slice_set hs f None) + 1 ≡ count_by is_held hs = gone-count hs f v in
    let am : length s.live ≡ count_by is_held hs = e.same.as_many in
    let gl : length (slice_set hs f None) ≡ length hs = gone-long hs f in
    let fw : length hs ≤ limits.frames = e.few in
    let sm : length mem < 2 ^ 32 = e.small in
    let lk : length k ≡ length mem = to.long in
    let il : length (image_words p) ≡ words_in_all p = image-long p in
    let au : length s.live + length m.table.free ≡ length hs = e.numbers.all_used in
    record {
      same = record {
        pending = e.same.pending;
        arrays = e.same.arrays;
        printed = e.same.printed;
        events = e.same.events;
        order = e.same.order;
        activations = e.same.activations;
        free = ap (λ (x : List ℕ). f ∷ x) e.same.free;
        live = λ g. alive g (either-way (f == g));
        as_many = omega arith;
      };
      image = to.before 0 (4 * length (image_words p)) (omega arith) ∙ e.image;
      long = lk ∙ e.long;
      small = omega arith;
      few = omega arith;
      frames = λ g x q. holds g x q wd (either-way (f == g));
      turns = turns-gone m.table f c rd e.turns;
      numbers = record {
        free_differ = differ-joined f m.table.free (λ i. true≢false (sym v ∙ e.numbers.free_dead f (in-has m.table.free f i))) e.numbers.free_differ;
        free_used = λ g q. let l : g < length hs = used g (has-first f g m.table.free q) in omega arith;
        free_dead = λ g q. dead g (has-first f g m.table.free q) (either-way (f == g));
        live_differ = without-differ f s.live e.numbers.live_differ;
        all_used = omega arith;
      };
      registers = w.many;
      zero_stays = w.fixed 0 refl ∙ e.zero_stays;
      base = w.fixed 19 refl ∙ e.base;
      stride = w.fixed 20 refl ∙ e.stride;
      codes = w.fixed 21 refl ∙ e.codes;
      current = w.current;
      queue = subst (λ (x : ℕ). Chain k link_at x (map (frame_address p) m.table.queue)) (sym w.queue)
          (chain-reads (map (frame_address p) m.table.queue) mem k link_at (reg s.hart 9) (links wd) e.queue);
      last = w.last ∙ e.last;
    }
  where
    alive : (g : ℕ) → ((f == g) ≡ true) ⊎ ((f == g) ≡ false) → has (without f s.live) g ≡ is_some_frame (slice_get (slice_set m.table.frames f None) g)
    alive g (inl q) =
        let i : f ≡ g = number-eq f g q in
        subst (λ (x : ℕ). has (without f s.live) x ≡ is_some_frame (slice_get (slice_set m.table.frames f None) x)) i
        (without-none f s.live ∙ sym (gone-same m.table.frames f))
    alive g (inr q) =
        let n : f ≢ g = number-differs f g q in
        without-other f g s.live n ∙ (e.same.live g ∙ sym (ap is_some_frame (gone-other m.table.frames f g n)))

    used : (g : ℕ) → (f ≡ g) ⊎ (has m.table.free g ≡ true) → g < length m.table.frames
    used g (inl i) = subst (λ (x : ℕ). x < length m.table.frames) i (live-below m.table.frames f (e.turns.current_live f c))
    used g (inr q) = e.numbers.free_used g q

    dead : (g : ℕ) → (f ≡ g) ⊎ (has m.table.free g ≡ true) → ((f == g) ≡ true) ⊎ ((f == g) ≡ false)
        → is_some_frame (slice_get (slice_set m.table.frames f None) g) ≡ false
    dead g o (inl q) = subst (λ (x : ℕ). is_some_frame (slice_get (slice_set m.table.frames f None) x) ≡ false) (number-eq f g q) (gone-same m.table.frames f)
    dead g (inl i) (inr q) = absurd (number-differs f g q i)
    dead g (inr i) (inr q) = ap is_some_frame (gone-other m.table.frames f g (number-differs f g q)) ∙ e.numbers.free_dead g i

    links : slots_at ≤ stride_of p → (y : ℕ) → In y (map (frame_address p) m.table.queue)
        → read_at h.memory (y + link_at) 4 ≡ read_at s.hart.memory (y + link_at) 4
    links wd y i =
        let g = in-map (frame_address p) y m.table.queue i in
        subst (λ (z : ℕ). read_at h.memory (z + link_at) 4 ≡ read_at s.hart.memory (z + link_at) 4) g.2 (link-inside p s.hart.memory h.memory f g.0 to wd)

    nobody : (g : ℕ) (x : Frame) → f ≡ g → slice_get (slice_set m.table.frames f None) g ≡ Some (Some x) → ⊥
    nobody g x i q =
        true≢false (sym (ap is_some_frame q) ∙ subst (λ (y : ℕ). is_some_frame (slice_get (slice_set m.table.frames f None) y) ≡ false) i
        (gone-same m.table.frames f))

    holds : (g : ℕ) (x : Frame) → slice_get (slice_set m.table.frames f None) g ≡ Some (Some x) → slots_at ≤ stride_of p
        → ((f == g) ≡ true) ⊎ ((f == g) ≡ false) → FrameHolds p h.memory g (code_at m g) x
    holds g x q wd (inl i) = absurd (nobody g x (number-eq f g i) q)
    holds g x q wd (inr i) =
        let n : f ≢ g = number-differs f g i in
        let o : FrameHolds p s.hart.memory g (code_at m g) x = e.frames g x (sym (gone-other m.table.frames f g n) ∙ q) in
        frame-other p s.hart.memory h.memory f g (code_at m g) x o n
        (touches-wider (frame_address p f + head_at) (frame_address p f) (frame_address p f + stride_of p) s.hart.memory h.memory (omega arith) to)

-- from the kernel's part for a stop to the poll
stops-giving : (p : Program) (args : List ℕ) (limits : Limits) (m : Machine) (s : Host) (f : ℕ) → MayRun p args limits
    → RelatedAt stop_at p limits m s → m.table.current ≡ Some f → (frame_at m.table f).owed ≡ 1 → (frame_at m.table f).ready ≡ []
    → ComesTo 11 poll_at p limits s (record m { table = gone_table m f })
stops-giving p args limits m s f r e c o rd =
    let lf : LiveFrame p m s f = live-there p limits m s f e.related (e.related.turns.current_live f c) in
    let oh : lf.frame.owed ≡ 1 = ap (λ (x : Frame). x.owed) (sym (live-frame-at p m s f lf)) ∙ o in
    let rh : lf.frame.ready ≡ [] = ap (λ (x : Frame). x.ready) (sym (live-frame-at p m s f lf)) ∙ rd in
    let mem : List ℕ = s.hart.memory in
    let at : ℕ = frame_address p f in
    let k : List ℕ = written_at mem (at + owed_at) 4 0 in
    let z : read_at mem (at + head_at) 4 ≡ 0 =
    subst (λ (x : List ℕ). Chain mem next_at (read_at mem (at + head_at) 4) (map (cell_address p f (code_at m f)) x)) rh lf.holds.ready in
    let fi : FrameIn mem at = frame-in p m s f lf in
    let fb : kernel_end ≤ at = fi.behind in
    let fe : at + slots_at ≤ length mem = fi.inside in
    let sm : length mem < 2 ^ 32 = e.related.small in
    let r8 : reg s.hart 8 ≡ at = e.related.current ∙ ap (λ (x : Option ℕ). current_address p x) c in
    let ak : AtKernel s.hart stop_at = related-at stop_at p args limits m s r e in
    let g6 : GoesCalling 6 s.hart 384 (5 ∷ 10 ∷ 17 ∷ []) ((10, f) ∷ (17, 6) ∷ []) k =
    stop-gives s.hart at f ak r8 fi (lf.holds.stands.owes ∙ oh) lf.holds.stands.numbered in
    let to : Touches (at + head_at) (at + stride_of p) mem k = owed-touches p m s f 0 lf in
    let lk : length k ≡ length mem = to.long in
    let ks : KernelStands k = kernel-still mem (at + owed_at) 0 ak.kernel (omega arith) (omega arith) in
    let h7 : Hart = gone s.hart 7 384 g6.regs k in
    let a7 : AtKernel h7 384 =
    record { at = refl; kernel = ks; registers = g6.many; zero_stays = g6.same 0 refl ∙ e.related.zero_stays; small = omega arith } in
    let g1 : Goes 1 h7 rest_at [] [] k = given-rests h7 a7 in
    let h8 : Hart = gone h7 1 rest_at g1.regs k in
    let a8 : AtKernel h8 rest_at = record { at = refl; kernel = ks; registers = g1.many; zero_stays = g1.same 0 refl ∙ a7.zero_stays; small = omega arith } in
    let z8 : read_at k (at + head_at) 4 ≡ 0 = word-apart mem (at + owed_at) 0 (at + head_at) (inl (omega arith)) (omega arith) ∙ z in
    let e8 : reg h8 8 ≡ at = g1.same 8 refl ∙ (g6.same 8 refl ∙ r8) in
    let f8 : FrameIn k at = record { aligned = fi.aligned; behind = fb; inside = omega arith } in
    let g3 : Goes 3 h8 poll_at (5 ∷ 8 ∷ []) ((8, 0) ∷ []) k = rests-none h8 at a8 e8 f8 z8 in
    let h11 : Hart = gone h8 3 poll_at g3.regs k in
    let w : GoneRegs p m s f g3.regs = record {
      many = g3.many;
      fixed = λ x i. g3.same x (rest-away x (base-apart fixed_regs x 5 i refl) (base-apart fixed_regs x 8 i refl))
          ∙ (g1.same x refl ∙ g6.same x (call-away x (base-apart fixed_regs x 5 i refl) (base-apart fixed_regs x 10 i refl)
          (base-apart fixed_regs x 17 i refl)));
      current = g3.set.0;
      queue = g3.same 9 refl ∙ (g1.same 9 refl ∙ g6.same 9 refl);
      last = g3.same 18 refl ∙ (g1.same 18 refl ∙ g6.same 18 refl);
    } in
    let hl : has s.live f ≡ true = e.related.same.live f ∙ e.related.turns.current_live f c in
    record {
      host = gone_host s h11 f;
      onward = record {
        took = 11;
        few = omega arith;
        counted = omega arith;
        goes = λ j. let n : 11 + j ≡ 6 + suc (1 + (3 + j)) = omega arith in
            ap (λ (x : ℕ). to_poll x s) n
            ∙ (comes-poll 6 (suc (1 + (3 + j))) s g6.calls.0 g6.calls.1
            ∙ (given-poll (1 + (3 + j)) (with_hart s g6.calls.0) h7 f g6.calls.2 g6.set.1.0 g6.set.0 hl
            ∙ (comes-poll 1 (3 + j) (with_given s h7 f) h8 g1.comes ∙ comes-poll 3 j (with_given s h8 f) h11 g3.comes)));
      };
      there = record { related = related-gone p limits m s f h11 e.related c rd w to; at = refl };
    }
  where
    call-away : (x : ℕ) → x ≢ 5 → x ≢ 10 → x ≢ 17 → has (5 ∷ 10 ∷ 17 ∷ []) x ≡ false
    call-away x a b d = not-has (5 ∷ 10 ∷ 17 ∷ []) x apart
      where
        apart : In x (5 ∷ 10 ∷ 17 ∷ []) → ⊥
        apart (inl j) = a (sym j)
        apart (inr (inl j)) = b (sym j)
        apart (inr (inr (inl j))) = d (sym j)
        apart (inr (inr (inr j))) = j

-- ---- both

-- what a stop does, by what the frame owes before
pub stops : (p : Program) (args : List ℕ) (limits : Limits) (m n : Machine) (s : Host) (f pc : ℕ) → MayRun p args limits → RelatedAt pc p limits m s
    → m.table.current ≡ Some f → Stands s.hart.memory pc stop → stopped Giving m f ≡ Fine n → ComesTo 12 poll_at p limits s n
stops p args limits m n s f pc r e c st fine =
    comes-on 1 11 stop_at poll_at p limits s m n (comes-stop p limits m s pc e st) (λ t u. from-kernel t u (frame_at m.table f).owed refl fine)
  where
    some-owed : (t : Host) → RelatedAt stop_at p limits m t → 0 < (frame_at m.table f).owed
    some-owed t u =
        let lf : LiveFrame p m t f = live-there p limits m t f u.related (u.related.turns.current_live f c) in
        let o : frame_at m.table f ≡ lf.frame = live-frame-at p m t f lf in
        subst (λ (x : Frame). 0 < x.owed) (sym o) lf.holds.some_owed

    from-kernel : (t : Host) → RelatedAt stop_at p limits m t → (k : ℕ) → (frame_at m.table f).owed ≡ k
        → stopped_owing (λ x. with_number_given x f) (owing_less m f 1) f ((frame_at m.table f).owed - 1) ≡ Fine n → ComesTo 11 poll_at p limits t n
    from-kernel t u zero q x = let l : 0 < (frame_at m.table f).owed = some-owed t u in absurd (omega arith)
    from-kernel t u (suc (suc k)) q x =
        let d : (frame_at m.table f).owed - 1 ≡ suc k = omega arith in
        let y : Fine (at_rest (owing_less m f 1)) ≡ Fine n =
        sym (ap (λ (z : ℕ). stopped_owing (λ v. with_number_given v f) (owing_less m f 1) f z) d) ∙ x in
        let i : at_rest (owing_less m f 1) ≡ n = fine-same (at_rest (owing_less m f 1)) n y in
        subst (λ (z : Machine). ComesTo 11 poll_at p limits t z) i
        (comes-within 7 11 poll_at p limits t (at_rest (owing_less m f 1)) (omega arith)
        (comes-on 4 3 rest_at poll_at p limits t (owing_less m f 1) (at_rest (owing_less m f 1)) (stops-owing p args limits m t f k r u c q)
        (λ v w. rests-on p args limits (owing_less m f 1) v f r w c)))
    from-kernel t u (suc zero) q x =
        let d : (frame_at m.table f).owed - 1 ≡ 0 = omega arith in
        let y : all_done (λ v. with_number_given v f) (owing_less m f 1) (frame_at (lowered m.table f 1) f).ready ≡ Fine n =
        sym (ap (λ (z : ℕ). stopped_owing (λ v. with_number_given v f) (owing_less m f 1) f z) d) ∙ x in
        let a = none-ready (frame_at (lowered m.table f 1) f).ready refl y in
        let rd : (frame_at m.table f).ready ≡ [] = sym (ready-changed m.table.frames f f (λ h. record h { owed = h.owed - 1 }) (λ h. refl)) ∙ a.0 in
        subst (λ (z : Machine). ComesTo 11 poll_at p limits t z) a.1
        (subst (λ (z : FrameTable). ComesTo 11 poll_at p limits t (record m { table = z })) (gone-is m f c) (stops-giving p args limits m t f r u c q rd))
      where
        none-ready : (l : List ℕ) → (frame_at (lowered m.table f 1) f).ready ≡ l → all_done (λ v. with_number_given v f) (owing_less m f 1) l ≡ Fine n
            → ((frame_at (lowered m.table f 1) f).ready ≡ []) × (with_number_given (owing_less m f 1) f ≡ n)
        none-ready [] i j = (i, fine-same (with_number_given (owing_less m f 1) f) n j)
        none-ready (b ∷ bs) i j = absurd (broken-fine n j)
