-- A live frame where a count of it is one less, where a thread becomes ready or is taken to be run, and where it owes less.
use Rattle.std.proofs.Common.{◌≡◌, ◌≢◌, ℕ, zero, suc, ◌+◌, ◌^◌, ◌<◌, ◌≤◌, ◌⊎◌, inl, inr, List, [], ◌∷◌, length, map, take, refl, sym, ap, ◌∙◌, arith}
use Rattle.std.proofs.Common.{true, false, Bool, ◌==◌, subst, Some, slice_get}
use Rattle.std.specs.Prelude.{slice_set}
use Rattle.std.proofs.Math.Nat.{mod-eq_of_lt}
use Rattle.tam_word.specs.Lists.{has}
use Rattle.tam_word.proofs.Tests.{number-eq, number-differs}
use Rattle.tam_word.proofs.Members.{In, in-has, has-in}
use Rattle.frame_tables.specs.FrameTables.{Frame}
use Rattle.tl0_code.specs.ThreadCode.{Program, code_text}
use Rattle.rv_inst.specs.Harts.{read_at, written_at}
use Rattle.rv_inst.proofs.Memory.{read-written}
use Rattle.rv_inst.proofs.Signed.{below-or-not}
use Rattle.rv_keep.proofs.Registers.{set-length}
use Rattle.rv_keep.specs.FrameRecords.{head_at, table_at, owed_at, slots_at, cell_at, next_at}
use Rattle.rv_keep.specs.FrameBytes.{FrameStands, owed_is}
use Rattle.rv_keep.specs.Image.{start_of}
use Rattle.rv_keep.specs.LinkedLists.{Chain}
use Rattle.rv_keep.specs.Posting.{count_is, started, linked}
use Rattle.rv_keep.specs.Relation.{FrameHolds, frame_address, cell_address, own_part}
use Rattle.rv_keep.proofs.Frames.{word-apart, cell-written, owed-written, get-set-other}
use Rattle.rv_keep.proofs.LinkedFrames.{head-written, linked-frame}
use Rattle.rv_keep.proofs.FramesApart.{IsApart}
use Rattle.rv_keep.proofs.SlotRelated.{take-set}
use Rattle.rv_keep.proofs.Touching.{Touches, touches-none, touches-more, chain-reads, ReadyCell, ready-cell, own-slots, own-counts}

-- an element that is set is there
pub get-set-same : (xs : List ℕ) (t c : ℕ) → t < length xs → slice_get (slice_set xs t c) t ≡ Some c
get-set-same [] t c l = absurd (omega arith)
get-set-same (x ∷ xs) zero c l = refl
get-set-same (x ∷ xs) (suc t) c l = get-set-same xs t c (omega arith)

-- numbers stay small where a small one is set
small-after : (xs : List ℕ) (t c k d : ℕ) → ((d : ℕ) → slice_get xs k ≡ Some d → d ≤ 65535) → t < length xs → c ≤ 65535
    → slice_get (slice_set xs t c) k ≡ Some d → d ≤ 65535
small-after xs t c k d s l u g = go (t == k) refl
  where
    go : (b : Bool) → (t == k) ≡ b → d ≤ 65535
    go true q =
        let e : t ≡ k = number-eq t k q in
        let h : Some c ≡ Some d = sym (get-set-same xs t c l) ∙ (ap (λ (x : ℕ). slice_get (slice_set xs t c) x) e ∙ g) in
        let v : c ≡ d = cc in
        omega arith
    go false q = s d (sym (get-set-other xs k t c (λ z. number-differs t k q (sym z))) ∙ g)

-- where a ready thread's count is 0, a thread whose count isn't is another
spent-apart : (xs : List ℕ) (t u n : ℕ) → slice_get xs u ≡ Some 0 → slice_get xs t ≡ Some (suc n) → u ≢ t
spent-apart xs t u n z g e =
    let h : Some 0 ≡ Some (suc n) = sym z ∙ (ap (λ (x : ℕ). slice_get xs x) e ∙ g) in
    absurd cc

-- cells of two threads are apart
pub cells-far : (p : Program) (f c u v : ℕ) → u ≢ v
    → (cell_address p f c u + 8 ≤ cell_address p f c v) ⊎ (cell_address p f c v + 8 ≤ cell_address p f c u)
cells-far p f c u v d = elim (below-or-not u v) [ inl b ↦ inl (omega arith) | inr b ↦ inr (omega arith) ]

-- and so are their first words
cells-four : (p : Program) (f c u v : ℕ) → u ≢ v
    → (cell_address p f c u + 4 ≤ cell_address p f c v) ⊎ (cell_address p f c v + 4 ≤ cell_address p f c u)
cells-four p f c u v d = elim (below-or-not u v) [ inl b ↦ inl (omega arith) | inr b ↦ inr (omega arith) ]

-- the second word of a cell is apart from the first of each
next-apart : (p : Program) (f c u v : ℕ)
    → (cell_address p f c u + next_at + 4 ≤ cell_address p f c v) ⊎ (cell_address p f c v + 4 ≤ cell_address p f c u + next_at)
next-apart p f c u v = elim (below-or-not u v) [ inl b ↦ inl (omega arith) | inr b ↦ inr (omega arith) ]

-- what stands of a frame doesn't turn on its ready list
pub stands-ready : (m : List ℕ) (at number : ℕ) (f : Frame) (ts : List ℕ) → FrameStands m at number f → FrameStands m at number (record f { ready = ts })
stands-ready m at number f ts e = record {
  aligned = e.aligned;
  inside = e.inside;
  small = e.small;
  numbered = e.numbered;
  owes = e.owes;
  slots = e.slots;
  words = e.words;
  counts = e.counts;
}

-- ---- a count is one less

-- a frame with another entry count has the bytes with that count
pub frame-counted : (p : Program) (m : List ℕ) (f c t n : ℕ) (h : Frame) → FrameHolds p m f c h → t < length (code_text p c).threads
    → slice_get h.counts t ≡ Some (suc (suc n)) → FrameHolds p (written_at m (cell_address p f c t) 4 (suc n)) f c (count_is h t (suc n))
frame-counted p m f c t n h e l g =
    let at : ℕ = frame_address p f in
    let a : ℕ = cell_address p f c t in
    let own : Frame = own_part (code_text p c) h in
    let ls : length own.slots ≡ (code_text p c).slots = own-slots p m f c h e in
    let lc : length own.counts ≡ length (code_text p c).threads = own-counts p m f c h e in
    let ct : length (code_text p c).threads ≤ length h.counts = e.counts_there in
    let ins : at + cell_at (length own.slots) (length own.counts) ≤ length m = e.stands.inside in
    let cs : suc (suc n) ≤ 65535 = e.counts_small t (suc (suc n)) g in
    let i : a ≤ length m = omega arith in
    let w : FrameStands (written_at m (at + cell_at (length own.slots) t) 4 (suc n)) at f (count_is own t (suc n)) =
    cell-written m at f own t (suc n) (suc n) e.stands (omega arith) (omega arith) (λ d x. refl) in
    let v : FrameStands (written_at m a 4 (suc n)) at f (count_is own t (suc n)) =
    subst (λ (x : ℕ). FrameStands (written_at m (at + cell_at x t) 4 (suc n)) at f (count_is own t (suc n))) ls w in
    let tk : take (length (code_text p c).threads) (slice_set h.counts t (suc n)) ≡ slice_set (take (length (code_text p c).threads) h.counts) t (suc n) =
    take-set (length (code_text p c).threads) h.counts t (suc n) in
    let head : read_at (written_at m a 4 (suc n)) (at + head_at) 4 ≡ read_at m (at + head_at) 4 = word-apart m a (suc n) (at + head_at) (inl (omega arith)) i in
    let sl : length (slice_set h.counts t (suc n)) ≡ length h.counts = set-length h.counts t (suc n) in
    record {
      code_there = e.code_there;
      slots_there = e.slots_there;
      counts_there = omega arith;
      stands = subst (λ (x : List ℕ). FrameStands (written_at m a 4 (suc n)) at f (record own { counts = x })) (sym tk) v;
      owed_small = e.owed_small;
      some_owed = e.some_owed;
      table = word-apart m a (suc n) (at + table_at) (inl (omega arith)) i ∙ e.table;
      ready = subst (λ (x : ℕ). Chain (written_at m a 4 (suc n)) next_at x (map (cell_address p f c) h.ready)) (sym head)
          (chain-reads (map (cell_address p f c) h.ready) m (written_at m a 4 (suc n)) next_at (read_at m (at + head_at) 4) (cells i) e.ready);
      ready_there = e.ready_there;
      ready_spent = λ u q. get-set-other h.counts u t (suc n) (spent-apart h.counts t u (suc n) (e.ready_spent u q) g) ∙ e.ready_spent u q;
      ready_starts = λ u q. let d : u ≢ t = spent-apart h.counts t u (suc n) (e.ready_spent u q) g in
          word-apart m a (suc n) (cell_address p f c u) (cells-four p f c u t d) i ∙ e.ready_starts u q;
      counts_small = λ u d q. small-after h.counts t (suc n) u d (e.counts_small u) (omega arith) (omega arith) q;
    }
  where
    cells : cell_address p f c t ≤ length m → (x : ℕ) → In x (map (cell_address p f c) h.ready)
        → read_at (written_at m (cell_address p f c t) 4 (suc n)) (x + next_at) 4 ≡ read_at m (x + next_at) 4
    cells i x q =
        let r : ReadyCell p f c h.ready x = ready-cell p f c h.ready x q in
        subst (λ (y : ℕ). read_at (written_at m (cell_address p f c t) 4 (suc n)) (y + next_at) 4 ≡ read_at m (y + next_at) 4) r.is_cell
        (word-apart m (cell_address p f c t) (suc n) (cell_address p f c r.thread + next_at) (next-apart p f c r.thread t) i)

-- ---- what it owes is less

-- a frame that owes another number has the bytes with that number
pub frame-owing : (p : Program) (m : List ℕ) (f c n : ℕ) (h : Frame) → FrameHolds p m f c h → 0 < n → n ≤ length (code_text p c).threads → n < 2 ^ 32
    → FrameHolds p (written_at m (frame_address p f + owed_at) 4 n) f c (owed_is h n)
frame-owing p m f c n h e z l u =
    let at : ℕ = frame_address p f in
    let a : ℕ = at + owed_at in
    let own : Frame = own_part (code_text p c) h in
    let ls : length own.slots ≡ (code_text p c).slots = own-slots p m f c h e in
    let lc : length own.counts ≡ length (code_text p c).threads = own-counts p m f c h e in
    let ins : at + cell_at (length own.slots) (length own.counts) ≤ length m = e.stands.inside in
    let i : a ≤ length m = omega arith in
    let head : read_at (written_at m a 4 n) (at + head_at) 4 ≡ read_at m (at + head_at) 4 = word-apart m a n (at + head_at) (inl (omega arith)) i in
    record {
      code_there = e.code_there;
      slots_there = e.slots_there;
      counts_there = e.counts_there;
      stands = owed-written m at f own n e.stands u;
      owed_small = l;
      some_owed = z;
      table = word-apart m a n (at + table_at) (inl (omega arith)) i ∙ e.table;
      ready = subst (λ (x : ℕ). Chain (written_at m a 4 n) next_at x (map (cell_address p f c) h.ready)) (sym head)
          (chain-reads (map (cell_address p f c) h.ready) m (written_at m a 4 n) next_at (read_at m (at + head_at) 4) (cells i) e.ready);
      ready_there = e.ready_there;
      ready_spent = e.ready_spent;
      ready_starts = λ t q. word-apart m a n (cell_address p f c t) (inr (omega arith)) i ∙ e.ready_starts t q;
      counts_small = e.counts_small;
    }
  where
    cells : frame_address p f + owed_at ≤ length m → (x : ℕ) → In x (map (cell_address p f c) h.ready)
        → read_at (written_at m (frame_address p f + owed_at) 4 n) (x + next_at) 4 ≡ read_at m (x + next_at) 4
    cells i x q =
        let r : ReadyCell p f c h.ready x = ready-cell p f c h.ready x q in
        let v : cell_address p f c r.thread ≡ x = r.is_cell in
        word-apart m (frame_address p f + owed_at) n (x + next_at) (inr (omega arith)) i

-- ---- a thread is taken to be run

-- the first of a chain of addresses below a bound is below it
chain-small : (cells : List ℕ) (m : List ℕ) (off first bound : ℕ) → ((x : ℕ) → In x cells → x < bound) → 0 < bound → Chain m off first cells → first < bound
chain-small [] m off first bound b z c = let e : first ≡ 0 = c in omega arith
chain-small (x ∷ xs) m off first bound b z c = let e : first ≡ x = c.0 in let l : x < bound = b x (inl refl) in omega arith

-- the addresses of a frame's ready cells are words
ready-small : (p : Program) (m : List ℕ) (f c : ℕ) (h : Frame) → FrameHolds p m f c h → (x : ℕ) → In x (map (cell_address p f c) h.ready) → x < 2 ^ 32
ready-small p m f c h e x q =
    let own : Frame = own_part (code_text p c) h in
    let ls : length own.slots ≡ (code_text p c).slots = own-slots p m f c h e in
    let lc : length own.counts ≡ length (code_text p c).threads = own-counts p m f c h e in
    let ins : frame_address p f + cell_at (length own.slots) (length own.counts) ≤ length m = e.stands.inside in
    let sm : length m < 2 ^ 32 = e.stands.small in
    let r : ReadyCell p f c h.ready x = ready-cell p f c h.ready x q in
    let v : cell_address p f c r.thread ≡ x = r.is_cell in
    let b : r.thread < length (code_text p c).threads = e.ready_there r.thread r.is_ready in
    omega arith

-- the head of its list is a word
pub head-small : (p : Program) (m : List ℕ) (f c : ℕ) (h : Frame) → FrameHolds p m f c h → read_at m (frame_address p f + head_at) 4 < 2 ^ 32
head-small p m f c h e =
    chain-small (map (cell_address p f c) h.ready) m next_at (read_at m (frame_address p f + head_at) 4) (2 ^ 32) (ready-small p m f c h e) (omega arith)
    e.ready

-- the list without its first thread
abbrev pub unlisted_frame : Frame → List ℕ → Frame
unlisted_frame h ts = record h { ready = ts }

-- a frame whose first ready thread is gone has the bytes with the next one at the head
pub frame-unlisted : (p : Program) (m : List ℕ) (f c t : ℕ) (ts : List ℕ) (h : Frame) → FrameHolds p m f c h → h.ready ≡ t ∷ ts
    → FrameHolds p (written_at m (frame_address p f + head_at) 4 (read_at m (cell_address p f c t + next_at) 4)) f c (unlisted_frame h ts)
frame-unlisted p m f c t ts h e q =
    let at : ℕ = frame_address p f in
    let a : ℕ = at + head_at in
    let n : ℕ = read_at m (cell_address p f c t + next_at) 4 in
    let own : Frame = own_part (code_text p c) h in
    let ls : length own.slots ≡ (code_text p c).slots = own-slots p m f c h e in
    let lc : length own.counts ≡ length (code_text p c).threads = own-counts p m f c h e in
    let ins : at + cell_at (length own.slots) (length own.counts) ≤ length m = e.stands.inside in
    let i : a ≤ length m = omega arith in
    let was : Chain m next_at (read_at m a 4) (map (cell_address p f c) (t ∷ ts)) =
    subst (λ (x : List ℕ). Chain m next_at (read_at m a 4) (map (cell_address p f c) x)) q e.ready in
    let rest : Chain m next_at n (map (cell_address p f c) ts) = was.2 in
    let small : (x : ℕ) → In x (map (cell_address p f c) ts) → x < 2 ^ 32 =
    λ x j. ready-small p m f c h e x (subst (λ (y : List ℕ). In x (map (cell_address p f c) y)) (sym q) (inr j)) in
    let u : n < 2 ^ 32 = chain-small (map (cell_address p f c) ts) m next_at n (2 ^ 32) small (omega arith) rest in
    let head : read_at (written_at m a 4 n) a 4 ≡ n = read-written m a n i ∙ mod-eq_of_lt u in
    record {
      code_there = e.code_there;
      slots_there = e.slots_there;
      counts_there = e.counts_there;
      stands = stands-ready (written_at m a 4 n) at f own ts (head-written m at f own a n e.stands (omega arith));
      owed_small = e.owed_small;
      some_owed = e.some_owed;
      table = word-apart m a n (at + table_at) (inr (omega arith)) i ∙ e.table;
      ready = subst (λ (x : ℕ). Chain (written_at m a 4 n) next_at x (map (cell_address p f c) ts)) (sym head)
          (chain-reads (map (cell_address p f c) ts) m (written_at m a 4 n) next_at n (cells n i) rest);
      ready_there = λ v j. e.ready_there v (before v j);
      ready_spent = λ v j. e.ready_spent v (before v j);
      ready_starts = λ v j. word-apart m a n (cell_address p f c v) (inr (omega arith)) i ∙ e.ready_starts v (before v j);
      counts_small = e.counts_small;
    }
  where
    before : (v : ℕ) → has ts v ≡ true → has h.ready v ≡ true
    before v j = subst (λ (x : List ℕ). has x v ≡ true) (sym q) (in-has (t ∷ ts) v (inr (has-in ts v j)))

    cells : (n : ℕ) → frame_address p f + head_at ≤ length m → (x : ℕ) → In x (map (cell_address p f c) ts)
        → read_at (written_at m (frame_address p f + head_at) 4 n) (x + next_at) 4 ≡ read_at m (x + next_at) 4
    cells n i x j =
        let r : ReadyCell p f c ts x = ready-cell p f c ts x j in
        let v : cell_address p f c r.thread ≡ x = r.is_cell in
        word-apart m (frame_address p f + head_at) n (x + next_at) (inr (omega arith)) i

-- ---- a thread becomes ready

-- its count is spent, and it is the first of the list
abbrev pub linked_frame : Frame → ℕ → Frame
linked_frame h t = record h { counts = slice_set h.counts t 0; ready = t ∷ h.ready }

-- the routine's memory: length, words apart, and the three words
pub record LinkedWords (m : List ℕ) (frame cell start head : ℕ) (k : List ℕ) : Type 0 where
  pub long : length k ≡ length m
  pub still : (b : ℕ) → IsApart b cell (cell + 8) → IsApart b (frame + head_at) (frame + head_at + 4) → read_at k b 4 ≡ read_at m b 4
  pub first : read_at k (frame + head_at) 4 ≡ cell
  pub next : read_at k (cell + next_at) 4 ≡ head
  pub starts : read_at k cell 4 ≡ start

-- the words of a cell that goes to the head of a list lie in the memory
pub linked-words : (m : List ℕ) (frame cell start head : ℕ) → frame + slots_at ≤ cell → cell + 8 ≤ length m → length m < 2 ^ 32 → start < 2 ^ 32 → head < 2 ^ 32
    → LinkedWords m frame cell start head (linked m frame cell start head)
linked-words m frame cell start head l i sm us uh =
    let m1 : List ℕ = written_at m cell 4 0 in
    let m2 : List ℕ = started m cell start in
    let m3 : List ℕ = written_at m2 (cell + 4) 4 head in
    let t1 : Touches cell (cell + 8) m m1 =
    touches-more cell (cell + 8) cell 0 m m (touches-none cell (cell + 8) m) (omega arith) (omega arith) (omega arith) in
    let t2 : Touches cell (cell + 8) m m2 = touches-more cell (cell + 8) cell start m m1 t1 (omega arith) (omega arith) (omega arith) in
    let t3 : Touches cell (cell + 8) m m3 = touches-more cell (cell + 8) (cell + 4) head m m2 t2 (omega arith) (omega arith) (omega arith) in
    let e1 : length m1 ≡ length m = t1.long in
    let e2 : length m2 ≡ length m = t2.long in
    let e3 : length m3 ≡ length m = t3.long in
    let t4 : Touches (frame + head_at) (frame + head_at + 4) m3 (linked m frame cell start head) =
    touches-more (frame + head_at) (frame + head_at + 4) (frame + head_at) cell m3 m3 (touches-none (frame + head_at) (frame + head_at + 4) m3)
    (omega arith) (omega arith) (omega arith) in
    record {
      long = t4.long ∙ t3.long;
      still = λ b x y. t4.still b y ∙ t3.still b x;
      first = read-written m3 (frame + head_at) cell (omega arith) ∙ mod-eq_of_lt (omega arith);
      next = t4.still (cell + next_at) (inr (omega arith)) ∙ (read-written m2 (cell + 4) head (omega arith) ∙ mod-eq_of_lt uh);
      starts = t4.still cell (inr (omega arith)) ∙ (word-apart m2 (cell + 4) head cell (inl (omega arith)) (omega arith)
          ∙ (read-written m1 cell start (omega arith) ∙ mod-eq_of_lt us));
    }

-- a thread of a list with one more in front is that, or one of the list
pub has-first : (t u : ℕ) (ts : List ℕ) → has (t ∷ ts) u ≡ true → (t ≡ u) ⊎ (has ts u ≡ true)
has-first t u ts e = go (has-in (t ∷ ts) u e)
  where
    go : In u (t ∷ ts) → (t ≡ u) ⊎ (has ts u ≡ true)
    go (inl i) = inl i
    go (inr i) = inr (in-has ts u i)

-- a frame with one more ready thread has the bytes with its cell at the head
pub frame-linked : (p : Program) (m : List ℕ) (f c t : ℕ) (h : Frame) → FrameHolds p m f c h → t < length (code_text p c).threads
    → slice_get h.counts t ≡ Some 1 → start_of p c t < 2 ^ 32
    → FrameHolds p (linked m (frame_address p f) (cell_address p f c t) (start_of p c t) (read_at m (frame_address p f + head_at) 4)) f c (linked_frame h t)
frame-linked p m f c t h e l g us =
    let at : ℕ = frame_address p f in
    let a : ℕ = cell_address p f c t in
    let start : ℕ = start_of p c t in
    let n : ℕ = read_at m (at + head_at) 4 in
    let k : List ℕ = linked m at a start n in
    let own : Frame = own_part (code_text p c) h in
    let ls : length own.slots ≡ (code_text p c).slots = own-slots p m f c h e in
    let lc : length own.counts ≡ length (code_text p c).threads = own-counts p m f c h e in
    let ct : length (code_text p c).threads ≤ length h.counts = e.counts_there in
    let ins : at + cell_at (length own.slots) (length own.counts) ≤ length m = e.stands.inside in
    let sm : length m < 2 ^ 32 = e.stands.small in
    let un : n < 2 ^ 32 = head-small p m f c h e in
    let w : LinkedWords m at a start n k = linked-words m at a start n (omega arith) (omega arith) sm us un in
    let v : FrameStands (linked m at (at + cell_at (length own.slots) t) start n) at f (count_is own t 0) =
    linked-frame m at f own t start n e.stands (omega arith) us in
    let x : FrameStands k at f (count_is own t 0) = subst (λ (y : ℕ). FrameStands (linked m at (at + cell_at y t) start n) at f (count_is own t 0)) ls v in
    let tk : take (length (code_text p c).threads) (slice_set h.counts t 0) ≡ slice_set (take (length (code_text p c).threads) h.counts) t 0 =
    take-set (length (code_text p c).threads) h.counts t 0 in
    let y : FrameStands k at f (record own { counts = take (length (code_text p c).threads) (slice_set h.counts t 0) }) =
    subst (λ (z : List ℕ). FrameStands k at f (record own { counts = z })) (sym tk) x in
    let sl : length (slice_set h.counts t 0) ≡ length h.counts = set-length h.counts t 0 in
    let next : read_at k (a + next_at) 4 ≡ n = w.next in
    record {
      code_there = e.code_there;
      slots_there = e.slots_there;
      counts_there = omega arith;
      stands = stands-ready k at f (record own { counts = take (length (code_text p c).threads) (slice_set h.counts t 0) }) (t ∷ h.ready) y;
      owed_small = e.owed_small;
      some_owed = e.some_owed;
      table = w.still (at + table_at) (inl (omega arith)) (inr (omega arith)) ∙ e.table;
      ready = (
        w.first,
        omega arith,
        subst (λ (z : ℕ). Chain k next_at z (map (cell_address p f c) h.ready)) (sym next)
            (chain-reads (map (cell_address p f c) h.ready) m k next_at n (cells k start n w) e.ready),
      );
      ready_there = λ u q. there u (has-first t u h.ready q);
      ready_spent = λ u q. spent u (omega arith) (has-first t u h.ready q);
      ready_starts = λ u q. starts k start n w u (has-first t u h.ready q);
      counts_small = λ u d q. small-after h.counts t 0 u d (e.counts_small u) (omega arith) (omega arith) q;
    }
  where
    apart : (u : ℕ) → has h.ready u ≡ true → u ≢ t
    apart u q = spent-apart h.counts t u 0 (e.ready_spent u q) g

    there : (u : ℕ) → (t ≡ u) ⊎ (has h.ready u ≡ true) → u < length (code_text p c).threads
    there u (inl i) = subst (λ (z : ℕ). z < length (code_text p c).threads) i l
    there u (inr q) = e.ready_there u q

    spent : (u : ℕ) → t < length h.counts → (t ≡ u) ⊎ (has h.ready u ≡ true) → slice_get (slice_set h.counts t 0) u ≡ Some 0
    spent u b (inl i) = subst (λ (z : ℕ). slice_get (slice_set h.counts t 0) z ≡ Some 0) i (get-set-same h.counts t 0 b)
    spent u b (inr q) = get-set-other h.counts u t 0 (apart u q) ∙ e.ready_spent u q

    starts : (k : List ℕ) (start n : ℕ) → LinkedWords m (frame_address p f) (cell_address p f c t) (start_of p c t) n k → (u : ℕ)
        → (t ≡ u) ⊎ (has h.ready u ≡ true)
        → read_at k (cell_address p f c u) 4 ≡ start_of p c u
    starts k start n w u (inl i) = subst (λ (z : ℕ). read_at k (cell_address p f c z) 4 ≡ start_of p c z) i w.starts
    starts k start n w u (inr q) =
        w.still (cell_address p f c u) (first-apart (cells-far p f c u t (apart u q))) (inr (omega arith)) ∙ e.ready_starts u q
      where
        first-apart : (cell_address p f c u + 8 ≤ cell_address p f c t) ⊎ (cell_address p f c t + 8 ≤ cell_address p f c u)
            → IsApart (cell_address p f c u) (cell_address p f c t) (cell_address p f c t + 8)
        first-apart (inl o) = inl (omega arith)
        first-apart (inr o) = inr o

    cells : (k : List ℕ) (start n : ℕ) → LinkedWords m (frame_address p f) (cell_address p f c t) (start_of p c t) n k → (x : ℕ)
        → In x (map (cell_address p f c) h.ready) → read_at k (x + next_at) 4 ≡ read_at m (x + next_at) 4
    cells k start n w x q =
        let r : ReadyCell p f c h.ready x = ready-cell p f c h.ready x q in
        subst (λ (y : ℕ). read_at k (y + next_at) 4 ≡ read_at m (y + next_at) 4) r.is_cell
        (w.still (cell_address p f c r.thread + next_at) (second-apart r.thread (cells-far p f c r.thread t (apart r.thread r.is_ready))) (inr (omega arith)))
      where
        second-apart : (u : ℕ) → (cell_address p f c u + 8 ≤ cell_address p f c t) ⊎ (cell_address p f c t + 8 ≤ cell_address p f c u)
            → IsApart (cell_address p f c u + next_at) (cell_address p f c t) (cell_address p f c t + 8)
        second-apart u (inl o) = inl (omega arith)
        second-apart u (inr o) = inr (omega arith)
