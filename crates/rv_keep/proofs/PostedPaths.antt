-- The routine that spends a count, where the queue stays as it is: all is carried on.
use Rattle.std.proofs.Common.{◌≡◌, ◌≢◌, ◌⊎◌, ℕ, zero, suc, ◌+◌, ◌*◌, ◌%◌, ◌^◌, ◌<◌, ◌≤◌, List, ◌∷◌, length, refl, sym, ap, ◌∙◌, arith, true, false}
use Rattle.std.proofs.Common.{true≢false, Option, Some, None, slice_get}
use Rattle.std.proofs.lemmas.Option.{get_or_from_slice_get}
use Rattle.tam_word.specs.Lists.{has}
use Rattle.tam_msgs.specs.declared.limits.Limits.{Limits}
use Rattle.frame_tables.specs.FrameTables.{Frame, FrameTable, changed_in, or_frame, frame_at, is_live, is_some_frame, is_current, queue_with}
use Rattle.frame_tables.specs.FrameTables.{made_ready, with_count, spent_of, spent, count_in}
use Rattle.tl0_code.specs.ThreadCode.{Program, code_text}
use Rattle.tl0_code.specs.Machines.{Machine, Fine, code_at, spend, spend_of}
use Rattle.tl0_code.specs.ThreadRuns.{text_at}
use Rattle.rv_inst.specs.Harts.{Hart, reg, read_at, written_at}
use Rattle.rv_keep.specs.FrameRecords.{head_at, slots_at}
use Rattle.rv_keep.specs.KernelPlaces.{post_at, kernel_words}
use Rattle.rv_keep.specs.Image.{words_in_all, stride_of, start_of, frame_bytes}
use Rattle.rv_keep.specs.FrameBytes.{BaseKept, base_regs}
use Rattle.rv_keep.specs.Posting.{Returns, AtPost, FrameApart, started, linked, count_is}
use Rattle.rv_keep.specs.Hosts.{Host}
use Rattle.rv_keep.specs.MachineLaws.{MayRun}
use Rattle.rv_keep.specs.KernelSteps.{KernelStands}
use Rattle.rv_keep.specs.PhaseLaws.{RelatedAt, ComesTo}
use Rattle.rv_keep.specs.Relation.{FrameHolds, TurnsHold, Related, frame_address, cell_address}
use Rattle.rv_keep.proofs.ImageLengths.{start-inside}
use Rattle.rv_keep.proofs.Posted.{post-spends}
use Rattle.rv_keep.proofs.Phases.{related-kernel}
use Rattle.rv_keep.proofs.TableChanges.{changed-twice}
use Rattle.rv_keep.proofs.Touching.{Touches, touches-none, touches-more}
use Rattle.rv_keep.proofs.Carrying.{LiveFrame, live-there, comes-carried, carried-inside}
use Rattle.rv_keep.proofs.Turns.{turns-changed, turns-more}
use Rattle.rv_keep.proofs.FrameChanges.{frame-counted, frame-linked, linked_frame}

-- ---- what is spent

-- the count is there, and the state behind
pub record Spends (m n : Machine) (f t : ℕ) : Type 0 where
  pub left : ℕ
  pub count : slice_get (frame_at m.table f).counts t ≡ Some (suc left)
  pub behind : record m { table = spent_of m.table f t (suc left) } ≡ n
  pub live : is_live m.table f ≡ true

-- where the spending goes on, it is so
pub spends-there : (m n : Machine) (f t : ℕ) → spend m f t ≡ Fine n → Spends m n f t
spends-there m n f t e = go (slice_get (frame_at m.table f).counts t) refl e
  where
    alive : (o : Option (Option Frame)) (c : ℕ) → slice_get (or_frame o).counts t ≡ Some c → is_some_frame o ≡ true
    alive None c q = absurd cc
    alive (Some None) c q = absurd cc
    alive (Some (Some h)) c q = refl

    go : (o : Option ℕ) → slice_get (frame_at m.table f).counts t ≡ o → spend_of m f t o ≡ Fine n → Spends m n f t
    go None q x = absurd cc
    go (Some zero) q x = absurd cc
    go (Some (suc c)) q x =
        let i : count_in m.table f t ≡ suc c = get_or_from_slice_get (frame_at m.table f).counts t (suc c) 0 q in
        let a : record m { table = spent_of m.table f t (suc c) } ≡ record m { table = spent m.table f t } =
        ap (λ (y : ℕ). record m { table = spent_of m.table f t y }) (sym i) in
        let b : record m { table = spent m.table f t } ≡ n = cc in
        record { left = c; count = q; behind = a ∙ b; live = alive (slice_get m.table.frames f) (suc c) q }

-- ---- at the routine

-- the machine is at the routine for a thread of a live frame
pub record Posting (p : Program) (limits : Limits) (m : Machine) (s : Host) (f t back : ℕ) : Type 0 where
  pub related : Related p limits m s
  pub live : LiveFrame p m s f
  pub is_live_frame : is_live m.table f ≡ true
  pub thread : t < length (text_at p m f).threads
  pub at : AtPost s.hart (frame_address p f) (cell_address p f (code_at m f) t) (start_of p (code_at m f) t) back
  pub apart : FrameApart (frame_address p f) (cell_address p f (code_at m f) t)
  pub start_small : start_of p (code_at m f) t < 2 ^ 32
  pub cell_in : cell_address p f (code_at m f) t + 8 ≤ frame_address p f + stride_of p
  pub back_aligned : back % 4 ≡ 0

-- where a thread is spent, all that the routine needs stands in the registers and in the memory
pub posting-there : (p : Program) (args : List ℕ) (limits : Limits) (m : Machine) (s : Host) (f t back : ℕ) → MayRun p args limits
    → RelatedAt post_at p limits m s → reg s.hart 10 ≡ frame_address p f → reg s.hart 11 ≡ cell_address p f (code_at m f) t
    → reg s.hart 12 ≡ start_of p (code_at m f) t → reg s.hart 1 ≡ back → t < length (text_at p m f).threads → back % 4 ≡ 0 → back < 2 ^ 32
    → is_live m.table f ≡ true → Posting p limits m s f t back
posting-there p args limits m s f t back r e r10 r11 r12 r1 l al u v =
    let k : KernelStands s.hart.memory = related-kernel p args limits m s r e.related in
    let h : LiveFrame p m s f = live-there p limits m s f e.related v in
    let o : FrameHolds p s.hart.memory f (code_at m f) h.frame = h.holds in
    let fa : frame_address p f % 4 ≡ 0 = o.stands.aligned in
    let sm : length s.hart.memory < 2 ^ 32 = o.stands.small in
    let ins : frame_address p f + frame_bytes (code_text p (code_at m f)) ≤ length s.hart.memory = h.inside in
    let en : frame_bytes (code_text p (code_at m f)) ≤ stride_of p = h.ends in
    let kw : kernel_words ≤ words_in_all p = omega arith in
    let st : start_of p (code_at m f) t ≤ 4 * words_in_all p = start-inside p (code_at m f) t o.code_there in
    record {
      related = e.related;
      live = h;
      is_live_frame = v;
      thread = l;
      at = record {
        at = e.at;
        stands = k.posts;
        registers = e.related.registers;
        zero_stays = e.related.zero_stays;
        frame_is = r10;
        cell_is = r11;
        start_is = r12;
        back_is = r1;
        back_aligned = al;
        back_small = u;
        cell_aligned = omega arith;
        cell_inside = omega arith;
        cell_behind = omega arith;
        small = sm;
      };
      apart = record { aligned = fa; behind = omega arith; before = omega arith };
      start_small = omega arith;
      cell_in = omega arith;
      back_aligned = al;
    }

-- registers of which threads leave one alone and not the other differ
pub base-apart : (xs : List ℕ) (r x : ℕ) → has xs r ≡ true → has xs x ≡ false → r ≢ x
base-apart xs r x h k e = true≢false (sym h ∙ (ap (λ (y : ℕ). has xs y) e ∙ k))

-- where the routine returns, the base registers are as they were
pub returns-base : (n : ℕ) (h : Hart) (pc : ℕ) (m : List ℕ) (q : Returns n h pc m) → BaseKept h.regs q.regs
returns-base n h pc m q = record { as_many = q.many; same = λ r k. q.others r (base-apart base_regs r 5 k refl) (base-apart base_regs r 6 k refl) }

-- ---- the count was 2 or more

-- where some of the count is left, the routine comes back with the count one less
pub left-spends : (p : Program) (limits : Limits) (m : Machine) (s : Host) (f t back c : ℕ) (a : Posting p limits m s f t back)
    → slice_get a.live.frame.counts t ≡ Some (suc (suc c)) → read_at s.hart.memory (cell_address p f (code_at m f) t) 4 ≡ suc (suc c)
    → ComesTo 16 back p limits s (record m { table = with_count m.table f t (suc c) })
left-spends p limits m s f t back c a g r =
    let h : LiveFrame p m s f = a.live in
    let cell : ℕ = cell_address p f (code_at m f) t in
    let mem : List ℕ = s.hart.memory in
    let k : List ℕ = written_at mem cell 4 (suc c) in
    let cs : suc (suc c) ≤ 65535 = h.holds.counts_small t (suc (suc c)) g in
    let q : Returns 5 s.hart back k = post-spends s.hart (frame_address p f) cell (start_of p (code_at m f) t) back c a.at r (omega arith) in
    let be : frame_address p f + slots_at ≤ cell = a.apart.before in
    let ci : cell + 8 ≤ frame_address p f + stride_of p = a.cell_in in
    let cl : cell + 8 ≤ length mem = a.at.cell_inside in
    let to : Touches (frame_address p f + head_at) (frame_address p f + stride_of p) mem k =
    touches-more (frame_address p f + head_at) (frame_address p f + stride_of p) cell (suc c) mem mem
    (touches-none (frame_address p f + head_at) (frame_address p f + stride_of p) mem) (omega arith) (omega arith) (omega arith) in
    let u : FrameHolds p k f (code_at m f) (count_is h.frame t (suc c)) = frame-counted p mem f (code_at m f) t c h.frame h.holds a.thread g in
    let o : TurnsHold (record m.table { frames = changed_in m.table.frames f (λ x. count_is x t (suc c)) }) =
    turns-changed m.table f (λ x. count_is x t (suc c)) (λ x. refl) a.related.turns in
    comes-carried 5 16 back p limits m s (with_count m.table f t (suc c)) q.regs k (omega arith) q.comes a.related
    (carried-inside p limits m s f (λ x. count_is x t (suc c)) q.regs k a.related h u to o (returns-base 5 s.hart back k q))

-- ---- the count was 1

-- the routine's memory with the thread in its frame's list
abbrev pub listed : Program → Machine → Host → ℕ → ℕ → List ℕ
listed p m s f t =
    linked s.hart.memory (frame_address p f) (cell_address p f (code_at m f) t) (start_of p (code_at m f) t)
    (read_at s.hart.memory (frame_address p f + head_at) 4)

-- it differs within the frame but its link
pub listed-touches : (p : Program) (limits : Limits) (m : Machine) (s : Host) (f t back : ℕ) → Posting p limits m s f t back
    → Touches (frame_address p f + head_at) (frame_address p f + stride_of p) s.hart.memory (listed p m s f t)
listed-touches p limits m s f t back a =
    let from : ℕ = frame_address p f + head_at in
    let to : ℕ = frame_address p f + stride_of p in
    let mem : List ℕ = s.hart.memory in
    let cell : ℕ = cell_address p f (code_at m f) t in
    let start : ℕ = start_of p (code_at m f) t in
    let head : ℕ = read_at mem (frame_address p f + head_at) 4 in
    let be : frame_address p f + slots_at ≤ cell = a.apart.before in
    let ci : cell + 8 ≤ frame_address p f + stride_of p = a.cell_in in
    let cl : cell + 8 ≤ length mem = a.at.cell_inside in
    let m1 : List ℕ = written_at mem cell 4 0 in
    let m2 : List ℕ = started mem cell start in
    let m3 : List ℕ = written_at m2 (cell + 4) 4 head in
    let t1 : Touches from to mem m1 = touches-more from to cell 0 mem mem (touches-none from to mem) (omega arith) (omega arith) (omega arith) in
    let t2 : Touches from to mem m2 = touches-more from to cell start mem m1 t1 (omega arith) (omega arith) (omega arith) in
    let t3 : Touches from to mem m3 = touches-more from to (cell + 4) head mem m2 t2 (omega arith) (omega arith) (omega arith) in
    touches-more from to (frame_address p f + head_at) cell mem m3 t3 (omega arith) (omega arith) (omega arith)

-- the table behind
pub made-ready-is : (s : FrameTable) (f t : ℕ) (q : List ℕ) → queue_with s f ≡ q
    → record s { frames = changed_in s.frames f (λ x. linked_frame x t); queue = q } ≡ made_ready (with_count s f t 0) f t
made-ready-is s f t q e =
    let w : changed_in (changed_in s.frames f (λ x. count_is x t 0)) f (λ x. record x { ready = t ∷ x.ready }) ≡ changed_in s.frames f (λ x. linked_frame x t) =
    changed-twice s.frames f (λ x. count_is x t 0) (λ x. record x { ready = t ∷ x.ready }) in
    ap (λ (x : List (Option Frame)). record s { frames = x; queue = q }) (sym w)
    ∙ ap (λ (x : List ℕ). record s {
      frames = changed_in (changed_in s.frames f (λ y. count_is y t 0)) f (λ y. record y { ready = t ∷ y.ready });
      queue =
          x;
    }) (sym e)

-- the frame holds with the thread in its list
pub listed-holds : (p : Program) (limits : Limits) (m : Machine) (s : Host) (f t back : ℕ) (a : Posting p limits m s f t back)
    → slice_get a.live.frame.counts t ≡ Some 1 → FrameHolds p (listed p m s f t) f (code_at m f) (linked_frame a.live.frame t)
listed-holds p limits m s f t back a g = frame-linked p s.hart.memory f (code_at m f) t a.live.frame a.live.holds a.thread g a.start_small

-- where the frame is current or queued already and the routine returns, all is carried on
pub more-carried : (p : Program) (limits : Limits) (m : Machine) (s : Host) (f t back n : ℕ) (a : Posting p limits m s f t back)
    → slice_get a.live.frame.counts t ≡ Some 1 → (has m.table.queue f ≡ true) ⊎ (is_current m.table.current f ≡ true) → n ≤ 16
    → Returns n s.hart back (listed p m s f t)
    → ComesTo 16 back p limits s (record m { table = record m.table { frames = changed_in m.table.frames f (λ x. linked_frame x t) } })
more-carried p limits m s f t back n a g b l q =
    let o : TurnsHold (record m.table { frames = changed_in m.table.frames f (λ x. linked_frame x t) }) =
    turns-more m.table f (λ x. linked_frame x t) a.live.frame a.live.there (λ z. absurd cc) b a.related.turns in
    comes-carried n 16 back p limits m s (record m.table { frames = changed_in m.table.frames f (λ x. linked_frame x t) }) q.regs (listed p m s f t) l
    q.comes a.related
    (carried-inside p limits m s f (λ x. linked_frame x t) q.regs (listed p m s f t) a.related a.live (listed-holds p limits m s f t back a g)
    (listed-touches p limits m s f t back a) o (returns-base n s.hart back (listed p m s f t) q))
