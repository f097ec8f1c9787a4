-- A thread stops whose frame owes more: it owes one less, and its turn ends where none of its threads is ready.
use Rattle.std.proofs.Common.{◌≡◌, ◌≢◌, ℕ, zero, suc, ◌+◌, ◌-◌, ◌^◌, ◌<◌, ◌≤◌, inl, inr, List, [], ◌∷◌, length, map, refl, sym, ap, ◌∙◌, arith, true}
use Rattle.std.proofs.Common.{false, true≢false, subst, Option, Some, None}
use Rattle.tam_word.specs.Lists.{has}
use Rattle.tam_word.proofs.Members.{In, not-has}
use Rattle.tam_msgs.specs.declared.limits.Limits.{Limits}
use Rattle.frame_tables.specs.FrameTables.{Frame, FrameTable, changed_in, frame_at, current_of, lowered}
use Rattle.tl0_code.specs.ThreadCode.{Program, code_text}
use Rattle.tl0_code.specs.Machines.{Machine, Fine, Broken, code_at, at_rest, owing_less}
use Rattle.rv_inst.specs.Harts.{Hart, reg, read_at, written_at}
use Rattle.rv_inst.specs.Steps.{Comes, Stands}
use Rattle.tam_msgs.specs.Runs.{Wild_skip}
use Rattle.rv_keep.specs.FrameRecords.{link_at, head_at, owed_at, slots_at, next_at}
use Rattle.rv_keep.specs.KernelPlaces.{rest_at, poll_at, stop_at, kernel_words}
use Rattle.rv_keep.specs.Expansions.{stop}
use Rattle.rv_keep.specs.Image.{words_in_all, stride_of, frame_bytes}
use Rattle.rv_keep.specs.FrameBytes.{BaseKept, base_regs, owed_is}
use Rattle.rv_keep.specs.LinkedLists.{Chain}
use Rattle.rv_keep.specs.Posting.{gone}
use Rattle.rv_keep.specs.Hosts.{Host, with_hart}
use Rattle.rv_keep.specs.MachineLaws.{MayRun}
use Rattle.rv_keep.specs.KernelSteps.{Goes, FrameIn}
use Rattle.rv_keep.specs.PhaseLaws.{RelatedAt, ComesTo}
use Rattle.rv_keep.specs.Relation.{FrameHolds, Related, current_address, frame_address, cell_address}
use Rattle.rv_keep.proofs.Registers.{base-kept}
use Rattle.rv_keep.proofs.Stopping.{stop-comes}
use Rattle.rv_keep.proofs.KernelWalks.{stop-owes, rests-ready, rests-none}
use Rattle.rv_keep.proofs.Polling.{comes-poll}
use Rattle.rv_keep.proofs.Phases.{related-at, related-still, base-goes}
use Rattle.rv_keep.proofs.Touching.{Touches, touches-none, touches-more}
use Rattle.rv_keep.proofs.Carrying.{fixed_regs, Carried, LiveFrame, live-there, comes-carried, carried-inside}
use Rattle.rv_keep.proofs.Turns.{turns-changed, turns-rested}
use Rattle.rv_keep.proofs.FrameChanges.{frame-owing}
use Rattle.rv_keep.proofs.SpendsOnce.{some-more, live-frame-at}
use Rattle.rv_keep.proofs.PostedPaths.{base-apart}
use Rattle.rv_keep.proofs.Joined.{comes-within, comes-still}

-- a stop that is wild doesn't go on
pub broken-fine : (n : Machine) → Broken Wild_skip 0 ≡ Fine n → ⊥
broken-fine n e = absurd cc

-- the end of a thread comes to the kernel
pub comes-stop : (p : Program) (limits : Limits) (m : Machine) (s : Host) (pc : ℕ) → RelatedAt pc p limits m s → Stands s.hart.memory pc stop
    → ComesTo 1 stop_at p limits s m
comes-stop p limits m s pc e st =
    let c : Comes 1 s.hart (gone s.hart 1 stop_at s.hart.regs s.hart.memory) =
    stop-comes s.hart (subst (λ (x : ℕ). Stands s.hart.memory x stop) (sym e.at) st) e.related.zero_stays in
    record {
      host = with_hart s (gone s.hart 1 stop_at s.hart.regs s.hart.memory);
      onward = record { took = 1; few = omega arith; counted = refl; goes = λ j. comes-poll 1 j s (gone s.hart 1 stop_at s.hart.regs s.hart.memory) c };
      there = record { related = related-still p limits m s 1 stop_at s.hart.regs e.related (base-kept s.hart.regs); at = refl };
    }

-- where a live frame's bytes stand
pub frame-in : (p : Program) (m : Machine) (s : Host) (f : ℕ) → LiveFrame p m s f → FrameIn s.hart.memory (frame_address p f)
frame-in p m s f h =
    let kw : kernel_words ≤ words_in_all p = omega arith in
    let i : frame_address p f + frame_bytes (code_text p (code_at m f)) ≤ length s.hart.memory = h.inside in
    record { aligned = h.holds.stands.aligned; behind = omega arith; inside = omega arith }

-- ---- the frame's turn ends or doesn't

-- a frame that is changed to what it is
pub changed-none : (hs : List (Option Frame)) (f : ℕ) → changed_in hs f (λ h. h) ≡ hs
changed-none [] f = refl
changed-none (None ∷ hs) zero = refl
changed-none (Some h ∷ hs) zero = refl
changed-none (None ∷ hs) (suc f) = ap (λ (x : List (Option Frame)). None ∷ x) (changed-none hs f)
changed-none (Some h ∷ hs) (suc f) = ap (λ (x : List (Option Frame)). Some h ∷ x) (changed-none hs f)

-- the current frame behind a stop, by what is ready of it
pub rested-more : (s : FrameTable) (f t : ℕ) (ts : List ℕ) → s.current ≡ Some f → (frame_at s f).ready ≡ t ∷ ts → current_of s s.current ≡ s.current
rested-more s f t ts c e = ap (λ (x : Option ℕ). current_of s x) c ∙ (go (frame_at s f).ready e ∙ sym c)
  where
    go : (r : List ℕ) → r ≡ t ∷ ts → elim r [ [] ↦ None | u ∷ us ↦ Some f ] ≡ Some f
    go [] i = absurd cc
    go (u ∷ us) i = refl

-- where the current frame has no ready thread, none is current any more
pub rested-none : (s : FrameTable) (f : ℕ) → s.current ≡ Some f → (frame_at s f).ready ≡ [] → current_of s s.current ≡ None
rested-none s f c e = ap (λ (x : Option ℕ). current_of s x) c ∙ go (frame_at s f).ready e
  where
    go : (r : List ℕ) → r ≡ [] → ◌≡◌ {A = Option ℕ} (elim r [ [] ↦ None | u ∷ us ↦ Some f ]) None
    go [] i = refl
    go (u ∷ us) i = absurd cc

-- another thread of the frame is ready
pub rests-more : (p : Program) (args : List ℕ) (limits : Limits) (m : Machine) (s : Host) (f t : ℕ) (ts : List ℕ) → MayRun p args limits
    → RelatedAt rest_at p limits m s → m.table.current ≡ Some f → (frame_at m.table f).ready ≡ t ∷ ts → ComesTo 3 poll_at p limits s (at_rest m)
rests-more p args limits m s f t ts r e c rd =
    let h : LiveFrame p m s f = live-there p limits m s f e.related (e.related.turns.current_live f c) in
    let rh : h.frame.ready ≡ t ∷ ts = ap (λ (x : Frame). x.ready) (sym (live-frame-at p m s f h)) ∙ rd in
    let mem : List ℕ = s.hart.memory in
    let ch : Chain mem next_at (read_at mem (frame_address p f + head_at) 4) (map (cell_address p f (code_at m f)) (t ∷ ts)) =
    subst (λ (x : List ℕ). Chain mem next_at (read_at mem (frame_address p f + head_at) 4) (map (cell_address p f (code_at m f)) x)) rh h.holds.ready in
    let n = some-more (read_at mem (frame_address p f + head_at) 4) (λ z. ch.1 (sym ch.0 ∙ z)) in
    let r8 : reg s.hart 8 ≡ frame_address p f = e.related.current ∙ ap (λ (x : Option ℕ). current_address p x) c in
    let g : Goes 2 s.hart poll_at (5 ∷ []) [] mem =
    rests-ready s.hart (frame_address p f) n.0 (related-at rest_at p args limits m s r e) r8 (frame-in p m s f h) n.1 in
    let w : ComesTo 3 poll_at p limits s m =
    comes-within 2 3 poll_at p limits s m (omega arith) (comes-still 2 poll_at (5 ∷ []) [] p limits m s e.related g away) in
    subst (λ (x : Option ℕ). ComesTo 3 poll_at p limits s (record m { table = record m.table { current = x } })) (sym (rested-more m.table f t ts c rd)) w
  where
    away : (x : ℕ) → has base_regs x ≡ true → has (5 ∷ []) x ≡ false
    away x i = not-has (5 ∷ []) x (λ j. true≢false (sym i ∙ apart j))
      where
        apart : In x (5 ∷ []) → has base_regs x ≡ false
        apart (inl j) = subst (λ (y : ℕ). has base_regs y ≡ false) j refl
        apart (inr j) = absurd j

-- the registers that the kernel sets where none is
pub rest-away : (x : ℕ) → x ≢ 5 → x ≢ 8 → has (5 ∷ 8 ∷ []) x ≡ false
rest-away x a b = not-has (5 ∷ 8 ∷ []) x apart
  where
    apart : In x (5 ∷ 8 ∷ []) → ⊥
    apart (inl j) = a (sym j)
    apart (inr (inl j)) = b (sym j)
    apart (inr (inr j)) = j

-- none is
pub rests-no-more : (p : Program) (args : List ℕ) (limits : Limits) (m : Machine) (s : Host) (f : ℕ) → MayRun p args limits
    → RelatedAt rest_at p limits m s → m.table.current ≡ Some f → (frame_at m.table f).ready ≡ [] → ComesTo 3 poll_at p limits s (at_rest m)
rests-no-more p args limits m s f r e c rd =
    let h : LiveFrame p m s f = live-there p limits m s f e.related (e.related.turns.current_live f c) in
    let rh : h.frame.ready ≡ [] = ap (λ (x : Frame). x.ready) (sym (live-frame-at p m s f h)) ∙ rd in
    let mem : List ℕ = s.hart.memory in
    let z : read_at mem (frame_address p f + head_at) 4 ≡ 0 =
    subst (λ (x : List ℕ). Chain mem next_at (read_at mem (frame_address p f + head_at) 4) (map (cell_address p f (code_at m f)) x)) rh h.holds.ready in
    let r8 : reg s.hart 8 ≡ frame_address p f = e.related.current ∙ ap (λ (x : Option ℕ). current_address p x) c in
    let g : Goes 3 s.hart poll_at (5 ∷ 8 ∷ []) ((8, 0) ∷ []) mem =
    rests-none s.hart (frame_address p f) (related-at rest_at p args limits m s r e) r8 (frame-in p m s f h) z in
    let w : ComesTo 3 poll_at p limits s (record m { table = record m.table { current = None } }) =
    comes-carried 3 3 poll_at p limits m s (record m.table { current = None }) g.regs mem (omega arith) g.comes e.related (record {
      place = f;
      change = λ x. x;
      frames_are = sym (changed-none m.table.frames f);
      free_are = refl;
      long = refl;
      image = λ b j l. refl;
      frames = e.related.frames;
      turns = turns-rested m.table f c rd e.related.turns;
      many = g.many ∙ sym e.related.registers;
      fixed = λ x i. g.same x (rest-away x (base-apart fixed_regs x 5 i refl) (base-apart fixed_regs x 8 i refl));
      current = g.set.0;
      queue = subst (λ (x : ℕ). Chain mem link_at x (map (frame_address p) m.table.queue)) (sym (g.same 9 refl)) e.related.queue;
      last = g.same 18 refl ∙ e.related.last;
    }) in
    subst (λ (x : Option ℕ). ComesTo 3 poll_at p limits s (record m { table = record m.table { current = x } })) (sym (rested-none m.table f c rd)) w

-- both
pub rests-on : (p : Program) (args : List ℕ) (limits : Limits) (m : Machine) (s : Host) (f : ℕ) → MayRun p args limits
    → RelatedAt rest_at p limits m s → m.table.current ≡ Some f → ComesTo 3 poll_at p limits s (at_rest m)
rests-on p args limits m s f r e c = go (frame_at m.table f).ready refl
  where
    go : (q : List ℕ) → (frame_at m.table f).ready ≡ q → ComesTo 3 poll_at p limits s (at_rest m)
    go [] q = rests-no-more p args limits m s f r e c q
    go (t ∷ ts) q = rests-more p args limits m s f t ts r e c q

-- ---- the frame owes more

-- the memory where frame f owes n
pub owed-touches : (p : Program) (m : Machine) (s : Host) (f n : ℕ) → LiveFrame p m s f
    → Touches (frame_address p f + head_at) (frame_address p f + stride_of p) s.hart.memory (written_at s.hart.memory (frame_address p f + owed_at) 4 n)
owed-touches p m s f n h =
    let rm : frame_address p f + stride_of p ≤ length s.hart.memory = h.room in
    let wd : slots_at ≤ stride_of p = h.wide in
    touches-more (frame_address p f + head_at) (frame_address p f + stride_of p) (frame_address p f + owed_at) n s.hart.memory s.hart.memory
    (touches-none (frame_address p f + head_at) (frame_address p f + stride_of p) s.hart.memory) (omega arith) (omega arith) (omega arith)

-- all is carried on to it
pub owed-carried : (p : Program) (limits : Limits) (m : Machine) (s : Host) (f n : ℕ) (regs : List ℕ) → Related p limits m s → (h : LiveFrame p m s f)
    → 0 < h.frame.owed - n → BaseKept s.hart.regs regs
    → Carried p m s (lowered m.table f n) regs (written_at s.hart.memory (frame_address p f + owed_at) 4 (h.frame.owed - n))
owed-carried p limits m s f n regs e h l b =
    let k : List ℕ = written_at s.hart.memory (frame_address p f + owed_at) 4 (h.frame.owed - n) in
    let os : h.frame.owed ≤ length (code_text p (code_at m f)).threads = h.holds.owed_small in
    let i : frame_address p f + frame_bytes (code_text p (code_at m f)) ≤ length s.hart.memory = h.inside in
    let sm : length s.hart.memory < 2 ^ 32 = e.small in
    let u : FrameHolds p k f (code_at m f) (owed_is h.frame (h.frame.owed - n)) =
    frame-owing p s.hart.memory f (code_at m f) (h.frame.owed - n) h.frame h.holds l (omega arith) (omega arith) in
    carried-inside p limits m s f (λ x. record x { owed = x.owed - n }) regs k e h u (owed-touches p m s f (h.frame.owed - n) h)
    (turns-changed m.table f (λ x. record x { owed = x.owed - n }) (λ x. refl) e.turns) b

-- registers but 5 are kept
pub five-kept : (n : ℕ) (h : Hart) (pc : ℕ) (memory : List ℕ) (g : Goes n h pc (5 ∷ []) [] memory) → length h.regs ≡ 32 → BaseKept h.regs g.regs
five-kept n h pc memory g l = base-goes n h pc (5 ∷ []) [] memory g l away
  where
    away : (x : ℕ) → has base_regs x ≡ true → has (5 ∷ []) x ≡ false
    away x i = not-has (5 ∷ []) x (λ j. true≢false (sym i ∙ apart j))
      where
        apart : In x (5 ∷ []) → has base_regs x ≡ false
        apart (inl j) = subst (λ (y : ℕ). has base_regs y ≡ false) j refl
        apart (inr j) = absurd j

-- a thread that stops in a frame that owes more leaves the two related
pub stops-owing : (p : Program) (args : List ℕ) (limits : Limits) (m : Machine) (s : Host) (f n : ℕ) → MayRun p args limits
    → RelatedAt stop_at p limits m s → m.table.current ≡ Some f → (frame_at m.table f).owed ≡ suc (suc n) → ComesTo 4 rest_at p limits s (owing_less m f 1)
stops-owing p args limits m s f n r e c o =
    let h : LiveFrame p m s f = live-there p limits m s f e.related (e.related.turns.current_live f c) in
    let oh : h.frame.owed ≡ suc (suc n) = ap (λ (x : Frame). x.owed) (sym (live-frame-at p m s f h)) ∙ o in
    let mem : List ℕ = s.hart.memory in
    let os : h.frame.owed ≤ length (code_text p (code_at m f)).threads = h.holds.owed_small in
    let i : frame_address p f + frame_bytes (code_text p (code_at m f)) ≤ length mem = h.inside in
    let sm : length mem < 2 ^ 32 = e.related.small in
    let rd : read_at mem (frame_address p f + owed_at) 4 ≡ suc (suc n) = h.holds.stands.owes ∙ oh in
    let r8 : reg s.hart 8 ≡ frame_address p f = e.related.current ∙ ap (λ (x : Option ℕ). current_address p x) c in
    let g : Goes 4 s.hart rest_at (5 ∷ []) [] (written_at mem (frame_address p f + owed_at) 4 (suc n)) =
    stop-owes s.hart (frame_address p f) n (related-at stop_at p args limits m s r e) r8 (frame-in p m s f h) rd (omega arith) in
    let le : suc n ≡ h.frame.owed - 1 = omega arith in
    let k : Goes 4 s.hart rest_at (5 ∷ []) [] (written_at mem (frame_address p f + owed_at) 4 (h.frame.owed - 1)) =
    subst (λ (x : ℕ). Goes 4 s.hart rest_at (5 ∷ []) [] (written_at mem (frame_address p f + owed_at) 4 x)) le g in
    comes-carried 4 4 rest_at p limits m s (lowered m.table f 1) k.regs (written_at mem (frame_address p f + owed_at) 4 (h.frame.owed - 1)) (omega arith)
    k.comes e.related
    (owed-carried p limits m s f 1 k.regs e.related h (omega arith)
    (five-kept 4 s.hart rest_at (written_at mem (frame_address p f + owed_at) 4 (h.frame.owed - 1)) k e.related.registers))
