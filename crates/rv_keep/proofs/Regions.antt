-- Writes within a region of the memory: what stands elsewhere is as it was, the image and other frames too; and what the writes of a new frame leave.
use Rattle.std.proofs.Common.{◌≡◌, ℕ, zero, suc, ◌+◌, ◌*◌, ◌%◌, ◌^◌, ◌<◌, ◌≤◌, ◌⊎◌, inl, inr, List, [], ◌∷◌, length, map, refl, sym, ap, ◌∙◌, arith}
use Rattle.std.proofs.Common.{true, subst, Some, slice_get}
use Rattle.std.specs.Prelude.{slice_index}
use Rattle.std.proofs.lemmas.List.{length-take-le}
use Rattle.tam_word.specs.Lists.{has}
use Rattle.tam_word.proofs.Members.{In, in-has, in-map}
use Rattle.frame_tables.specs.FrameTables.{Frame}
use Rattle.tl0_code.specs.ThreadCode.{Program, code_text}
use Rattle.rv_inst.specs.Harts.{read_at, written_at}
use Rattle.rv_inst.specs.Steps.{HoldsWords}
use Rattle.rv_inst.proofs.Memory.{length-written, read-written, holds-written}
use Rattle.rv_keep.specs.FrameRecords.{head_at, number_at, table_at, owed_at, slots_at, slot_at, cell_at, next_at}
use Rattle.rv_keep.specs.FrameBytes.{FrameStands}
use Rattle.rv_keep.specs.KernelFrames.{cleared, filled, headed, begun}
use Rattle.rv_keep.specs.LinkedLists.{Chain}
use Rattle.rv_keep.specs.Relation.{FrameHolds, frame_address, cell_address, own_part}
use Rattle.rv_keep.proofs.Frames.{word-apart}
use Rattle.rv_keep.proofs.Touching.{chain-reads}
use Rattle.rv_keep.proofs.RecordsStand.{below-length}

-- a read before the region or behind it
abbrev pub Outside : ℕ → ℕ → ℕ → Type 0
Outside b from to = (b + 4 ≤ from) ⊎ (to ≤ b)

-- memory that is as it was outside a region
pub record Kept (m k : List ℕ) (from to : ℕ) : Type 0 where
  pub as_long : length k ≡ length m
  pub apart : (b : ℕ) → Outside b from to → read_at k b 4 ≡ read_at m b 4
  pub before : (ws : List ℕ) → 4 * length ws ≤ from → HoldsWords m 0 ws → HoldsWords k 0 ws

-- the memory itself is
pub kept-same : (m : List ℕ) (from to : ℕ) → Kept m m from to
kept-same m from to = record { as_long = refl; apart = λ b o. refl; before = λ ws l h. h }

-- and after a write within the region
pub kept-write : (m k : List ℕ) (from to a w : ℕ) → Kept m k from to → from ≤ a → a + 4 ≤ to → to ≤ length m → Kept m (written_at k a 4 w) from to
kept-write m k from to a w e l u i =
    let n : length k ≡ length m = e.as_long in
    record {
      as_long = length-written k a 4 w (omega arith) ∙ e.as_long;
      apart = λ b o. elim o [
        | inl x ↦ word-apart k a w b (inl (omega arith)) (omega arith) ∙ e.apart b (inl x)
        | inr x ↦ word-apart k a w b (inr (omega arith)) (omega arith) ∙ e.apart b (inr x)
      ];
      before = λ ws x h. holds-written k a 4 w 0 ws (omega arith) (omega arith) (e.before ws x h);
    }

-- after words 0
pub kept-cleared : (n : ℕ) (m k : List ℕ) (from to a : ℕ) → Kept m k from to → from ≤ a → a + 4 * n ≤ to → to ≤ length m → Kept m (cleared k a n) from to
kept-cleared zero m k from to a e l u i = e
kept-cleared (suc n) m k from to a e l u i =
    kept-cleared n m (written_at k a 4 0) from to (a + 4) (kept-write m k from to a 0 e l (omega arith) i) (omega arith) (omega arith) i

-- after numbers in every other word
pub kept-filled : (cs : List ℕ) (m k : List ℕ) (from to a : ℕ) → Kept m k from to → from ≤ a → a + 8 * length cs ≤ to → to ≤ length m
    → Kept m (filled k a cs) from to
kept-filled [] m k from to a e l u i = e
kept-filled (c ∷ cs) m k from to a e l u i =
    kept-filled cs m (written_at k a 4 c) from to (a + 8) (kept-write m k from to a c e l (omega arith) i) (omega arith) (omega arith) i

-- ---- words within

-- a word that is written is read
word-back : (m : List ℕ) (a w : ℕ) → a ≤ length m → w < 2 ^ 32 → read_at (written_at m a 4 w) a 4 ≡ w
word-back m a w i u = let e : w % 2 ^ 32 ≡ w = omega arith in read-written m a w i ∙ e

-- a word that was cleared is 0
cleared-at : (n : ℕ) (m : List ℕ) (a j : ℕ) → j < n → a + 4 * n ≤ length m → read_at (cleared m a n) (a + 4 * j) 4 ≡ 0
cleared-at zero m a j l i = absurd (omega arith)
cleared-at (suc n) m a zero l i =
    let k : length (written_at m a 4 0) ≡ length m = length-written m a 4 0 (omega arith) in
    let q : Kept (written_at m a 4 0) (cleared (written_at m a 4 0) (a + 4) n) (a + 4) (a + 4 + 4 * n) =
    kept-cleared n (written_at m a 4 0) (written_at m a 4 0) (a + 4) (a + 4 + 4 * n) (a + 4) (kept-same (written_at m a 4 0) (a + 4) (a + 4 + 4 * n))
    (omega arith) (omega arith) (omega arith) in
    let o : a + 4 * 0 ≡ a = omega arith in
    ap (λ (x : ℕ). read_at (cleared (written_at m a 4 0) (a + 4) n) x 4) o ∙ (q.apart a (inl (omega arith)) ∙ word-back m a 0 (omega arith) (omega arith))
cleared-at (suc n) m a (suc j) l i =
    let k : length (written_at m a 4 0) ≡ length m = length-written m a 4 0 (omega arith) in
    let o : a + 4 * suc j ≡ a + 4 + 4 * j = omega arith in
    ap (λ (x : ℕ). read_at (cleared (written_at m a 4 0) (a + 4) n) x 4) o ∙ cleared-at n (written_at m a 4 0) (a + 4) j (omega arith) (omega arith)

-- a number that was filled in is there
filled-at : (cs : List ℕ) (m : List ℕ) (a j c : ℕ) → slice_get cs j ≡ Some c → ((w : ℕ) → In w cs → w < 2 ^ 32) → a + 8 * length cs ≤ length m
    → read_at (filled m a cs) (a + 8 * j) 4 ≡ c
filled-at [] m a j c e u i = absurd cc
filled-at (x ∷ cs) m a zero c e u i =
    let k : length (written_at m a 4 x) ≡ length m = length-written m a 4 x (omega arith) in
    let q : Kept (written_at m a 4 x) (filled (written_at m a 4 x) (a + 8) cs) (a + 8) (a + 8 + 8 * length cs) =
    kept-filled cs (written_at m a 4 x) (written_at m a 4 x) (a + 8) (a + 8 + 8 * length cs) (a + 8)
    (kept-same (written_at m a 4 x) (a + 8) (a + 8 + 8 * length cs)) (omega arith) (omega arith) (omega arith) in
    let o : a + 8 * 0 ≡ a = omega arith in
    let g : x ≡ c = cc in
    ap (λ (y : ℕ). read_at (filled (written_at m a 4 x) (a + 8) cs) y 4) o
    ∙ (q.apart a (inl (omega arith)) ∙ (word-back m a x (omega arith) (u x (inl refl)) ∙ g))
filled-at (x ∷ cs) m a (suc j) c e u i =
    let k : length (written_at m a 4 x) ≡ length m = length-written m a 4 x (omega arith) in
    let o : a + 8 * suc j ≡ a + 8 + 8 * j = omega arith in
    ap (λ (y : ℕ). read_at (filled (written_at m a 4 x) (a + 8) cs) y 4) o
    ∙ filled-at cs (written_at m a 4 x) (a + 8) j c e (λ w k. u w (inr k)) (omega arith)

-- ---- a new frame

-- what the slots of a new frame have: its first two are given, and the others 0
abbrev pub fresh_slot : ℕ → ℕ → ℕ → ℕ
fresh_slot s0 s1 zero = s0
fresh_slot s0 s1 (suc zero) = s1
fresh_slot s0 s1 (suc (suc k)) = 0

-- a frame with these numbers, and room for its bytes
pub record NewFrame (m : List ℕ) (frame number table s0 s1 n : ℕ) (counts : List ℕ) (f : Frame) : Type 0 where
  pub aligned : frame % 4 ≡ 0
  pub room : frame + (slots_at + 8 + 4 * n) + 8 * length counts ≤ length m
  pub small : length m < 2 ^ 32
  pub number_small : number < 2 ^ 32
  pub table_small : table < 2 ^ 32
  pub first_small : s0 < 2 ^ 32
  pub second_small : s1 < 2 ^ 32
  pub counts_small : (w : ℕ) → In w counts → w < 2 ^ 32
  pub slots_many : length f.slots ≡ 2 + n
  pub slots_are : (s : ℕ) → slice_index f.slots s ≡ fresh_slot s0 s1 s
  pub counts_are : f.counts ≡ counts
  pub owed_is : f.owed ≡ length counts

-- the memory behind the head of the frame
abbrev pub owing : List ℕ → ℕ → ℕ → ℕ → ℕ → ℕ → List ℕ → List ℕ
owing m frame number table s0 s1 counts = written_at (headed m frame number table s0 s1) (frame + owed_at) 4 (length counts)

-- what is written is within the frame
pub kept-begun : (m : List ℕ) (frame number table s0 s1 n : ℕ) (counts : List ℕ) → frame + (slots_at + 8 + 4 * n) + 8 * length counts ≤ length m
    → Kept m (begun m frame number table s0 s1 n counts) frame (frame + (slots_at + 8 + 4 * n) + 8 * length counts)
kept-begun m frame number table s0 s1 n counts r =
    let to : ℕ = frame + (slots_at + 8 + 4 * n) + 8 * length counts in
    let m1 : List ℕ = written_at m (frame + head_at) 4 0 in
    let m2 : List ℕ = written_at m1 (frame + number_at) 4 number in
    let m3 : List ℕ = written_at m2 (frame + table_at) 4 table in
    let m4 : List ℕ = written_at m3 (frame + slots_at) 4 s0 in
    let m5 : List ℕ = written_at m4 (frame + (slots_at + 4)) 4 s1 in
    let m6 : List ℕ = written_at m5 (frame + owed_at) 4 (length counts) in
    let m7 : List ℕ = cleared m6 (frame + (slots_at + 8)) n in
    let k1 : Kept m m1 frame to = kept-write m m frame to (frame + head_at) 0 (kept-same m frame to) (omega arith) (omega arith) r in
    let k2 : Kept m m2 frame to = kept-write m m1 frame to (frame + number_at) number k1 (omega arith) (omega arith) r in
    let k3 : Kept m m3 frame to = kept-write m m2 frame to (frame + table_at) table k2 (omega arith) (omega arith) r in
    let k4 : Kept m m4 frame to = kept-write m m3 frame to (frame + slots_at) s0 k3 (omega arith) (omega arith) r in
    let k5 : Kept m m5 frame to = kept-write m m4 frame to (frame + (slots_at + 4)) s1 k4 (omega arith) (omega arith) r in
    let k6 : Kept m m6 frame to = kept-write m m5 frame to (frame + owed_at) (length counts) k5 (omega arith) (omega arith) r in
    let k7 : Kept m m7 frame to = kept-cleared n m m6 frame to (frame + (slots_at + 8)) k6 (omega arith) (omega arith) r in
    kept-filled counts m m7 frame to (frame + (slots_at + 8 + 4 * n)) k7 (omega arith) (omega arith) r

-- the writes of the head leave the memory as long
owing-as-long : (m : List ℕ) (frame number table s0 s1 : ℕ) (counts : List ℕ) → frame + (slots_at + 8) ≤ length m
    → length (owing m frame number table s0 s1 counts) ≡ length m
owing-as-long m frame number table s0 s1 counts r =
    let m1 : List ℕ = written_at m (frame + head_at) 4 0 in
    let m2 : List ℕ = written_at m1 (frame + number_at) 4 number in
    let m3 : List ℕ = written_at m2 (frame + table_at) 4 table in
    let m4 : List ℕ = written_at m3 (frame + slots_at) 4 s0 in
    let m5 : List ℕ = written_at m4 (frame + (slots_at + 4)) 4 s1 in
    let n1 : length m1 ≡ length m = length-written m (frame + head_at) 4 0 (omega arith) in
    let n2 : length m2 ≡ length m1 = length-written m1 (frame + number_at) 4 number (omega arith) in
    let n3 : length m3 ≡ length m2 = length-written m2 (frame + table_at) 4 table (omega arith) in
    let n4 : length m4 ≡ length m3 = length-written m3 (frame + slots_at) 4 s0 (omega arith) in
    let n5 : length m5 ≡ length m4 = length-written m4 (frame + (slots_at + 4)) 4 s1 (omega arith) in
    let n6 : length (written_at m5 (frame + owed_at) 4 (length counts)) ≡ length m5 = length-written m5 (frame + owed_at) 4 (length counts) (omega arith) in
    n6 ∙ (n5 ∙ (n4 ∙ (n3 ∙ (n2 ∙ n1))))

-- and so do those of its slots
cleared-as-long : (m : List ℕ) (frame number table s0 s1 n : ℕ) (counts : List ℕ) → frame + (slots_at + 8 + 4 * n) + 8 * length counts ≤ length m
    → length (cleared (owing m frame number table s0 s1 counts) (frame + (slots_at + 8)) n) ≡ length m
cleared-as-long m frame number table s0 s1 n counts r =
    let k : List ℕ = owing m frame number table s0 s1 counts in
    let lk : length k ≡ length m = owing-as-long m frame number table s0 s1 counts (omega arith) in
    let from : ℕ = frame + (slots_at + 8) in
    let q : Kept k (cleared k from n) from (from + 4 * n) =
    kept-cleared n k k from (from + 4 * n) from (kept-same k from (from + 4 * n)) (omega arith) (omega arith) (omega arith) in
    q.as_long ∙ lk

-- the words of its head
pub record HeadWords (k : List ℕ) (frame number table s0 s1 owed : ℕ) : Type 0 where
  pub list : read_at k (frame + head_at) 4 ≡ 0
  pub numbered : read_at k (frame + number_at) 4 ≡ number
  pub tabled : read_at k (frame + table_at) 4 ≡ table
  pub owes : read_at k (frame + owed_at) 4 ≡ owed
  pub first : read_at k (frame + slots_at) 4 ≡ s0
  pub second : read_at k (frame + (slots_at + 4)) 4 ≡ s1

-- they are there once they are written
head-words : (m : List ℕ) (frame number table s0 s1 : ℕ) (counts : List ℕ) → frame + (slots_at + 8) ≤ length m → length counts < 2 ^ 32 → number < 2 ^ 32
    → table < 2 ^ 32 → s0 < 2 ^ 32 → s1 < 2 ^ 32 → HeadWords (owing m frame number table s0 s1 counts) frame number table s0 s1 (length counts)
head-words m frame number table s0 s1 counts r lc ln lt l0 l1 =
    let a1 : ℕ = frame + head_at in
    let a2 : ℕ = frame + number_at in
    let a3 : ℕ = frame + table_at in
    let a4 : ℕ = frame + slots_at in
    let a5 : ℕ = frame + (slots_at + 4) in
    let a6 : ℕ = frame + owed_at in
    let c : ℕ = length counts in
    let m1 : List ℕ = written_at m a1 4 0 in
    let m2 : List ℕ = written_at m1 a2 4 number in
    let m3 : List ℕ = written_at m2 a3 4 table in
    let m4 : List ℕ = written_at m3 a4 4 s0 in
    let m5 : List ℕ = written_at m4 a5 4 s1 in
    let n1 : length m1 ≡ length m = length-written m a1 4 0 (omega arith) in
    let n2 : length m2 ≡ length m1 = length-written m1 a2 4 number (omega arith) in
    let n3 : length m3 ≡ length m2 = length-written m2 a3 4 table (omega arith) in
    let n4 : length m4 ≡ length m3 = length-written m3 a4 4 s0 (omega arith) in
    let n5 : length m5 ≡ length m4 = length-written m4 a5 4 s1 (omega arith) in
    record {
      list = word-apart m5 a6 c a1 (inl (omega arith)) (omega arith) ∙ (word-apart m4 a5 s1 a1 (inl (omega arith)) (omega arith)
          ∙ (word-apart m3 a4 s0 a1 (inl (omega arith)) (omega arith) ∙ (word-apart m2 a3 table a1 (inl (omega arith)) (omega arith)
          ∙ (word-apart m1 a2 number a1 (inl (omega arith)) (omega arith) ∙ word-back m a1 0 (omega arith) (omega arith)))));
      numbered = word-apart m5 a6 c a2 (inl (omega arith)) (omega arith) ∙ (word-apart m4 a5 s1 a2 (inl (omega arith)) (omega arith)
          ∙ (word-apart m3 a4 s0 a2 (inl (omega arith)) (omega arith) ∙ (word-apart m2 a3 table a2 (inl (omega arith)) (omega arith)
          ∙ word-back m1 a2 number (omega arith) ln)));
      tabled = word-apart m5 a6 c a3 (inl (omega arith)) (omega arith) ∙ (word-apart m4 a5 s1 a3 (inl (omega arith)) (omega arith)
          ∙ (word-apart m3 a4 s0 a3 (inl (omega arith)) (omega arith) ∙ word-back m2 a3 table (omega arith) lt));
      owes = word-back m5 a6 c (omega arith) lc;
      first = word-apart m5 a6 c a4 (inr (omega arith)) (omega arith) ∙ (word-apart m4 a5 s1 a4 (inl (omega arith)) (omega arith)
          ∙ word-back m3 a4 s0 (omega arith) l0);
      second = word-apart m5 a6 c a5 (inr (omega arith)) (omega arith) ∙ word-back m4 a5 s1 (omega arith) l1;
    }

-- what stands before the cleared slots stays
pub head-begun : (m : List ℕ) (frame number table s0 s1 n : ℕ) (counts : List ℕ) (f : Frame) → NewFrame m frame number table s0 s1 n counts f
    → HeadWords (begun m frame number table s0 s1 n counts) frame number table s0 s1 (length counts)
head-begun m frame number table s0 s1 n counts f w =
    let r : frame + (slots_at + 8 + 4 * n) + 8 * length counts ≤ length m = w.room in
    let sm : length m < 2 ^ 32 = w.small in
    let k : List ℕ = owing m frame number table s0 s1 counts in
    let z : List ℕ = begun m frame number table s0 s1 n counts in
    let from : ℕ = frame + (slots_at + 8) in
    let to : ℕ = frame + (slots_at + 8 + 4 * n) + 8 * length counts in
    let h : HeadWords k frame number table s0 s1 (length counts) =
    head-words m frame number table s0 s1 counts (omega arith) (omega arith) w.number_small w.table_small w.first_small w.second_small in
    let lk : length k ≡ length m = owing-as-long m frame number table s0 s1 counts (omega arith) in
    let k7 : Kept k (cleared k from n) from to = kept-cleared n k k from to from (kept-same k from to) (omega arith) (omega arith) (omega arith) in
    let q : Kept k z from to = kept-filled counts k (cleared k from n) from to (frame + (slots_at + 8 + 4 * n)) k7 (omega arith) (omega arith) (omega arith) in
    record {
      list = q.apart (frame + head_at) (inl (omega arith)) ∙ h.list;
      numbered = q.apart (frame + number_at) (inl (omega arith)) ∙ h.numbered;
      tabled = q.apart (frame + table_at) (inl (omega arith)) ∙ h.tabled;
      owes = q.apart (frame + owed_at) (inl (omega arith)) ∙ h.owes;
      first = q.apart (frame + slots_at) (inl (omega arith)) ∙ h.first;
      second = q.apart (frame + (slots_at + 4)) (inl (omega arith)) ∙ h.second;
    }

-- the frame's bytes are there
pub new-stands : (m : List ℕ) (frame number table s0 s1 n : ℕ) (counts : List ℕ) (f : Frame) → NewFrame m frame number table s0 s1 n counts f
    → FrameStands (begun m frame number table s0 s1 n counts) frame number f
new-stands m frame number table s0 s1 n counts f w =
    let r : frame + (slots_at + 8 + 4 * n) + 8 * length counts ≤ length m = w.room in
    let sm : length m < 2 ^ 32 = w.small in
    let z : List ℕ = begun m frame number table s0 s1 n counts in
    let q : Kept m z frame (frame + (slots_at + 8 + 4 * n) + 8 * length counts) = kept-begun m frame number table s0 s1 n counts r in
    let lz : length z ≡ length m = q.as_long in
    let h : HeadWords z frame number table s0 s1 (length counts) = head-begun m frame number table s0 s1 n counts f w in
    let ls : length f.slots ≡ 2 + n = w.slots_many in
    let lc : length f.counts ≡ length counts = ap (λ (x : List ℕ). length x) w.counts_are in
    record {
      aligned = w.aligned;
      inside = omega arith;
      small = omega arith;
      numbered = h.numbered;
      owes = h.owes ∙ sym w.owed_is;
      slots = λ s l. slot-there s (omega arith) h ∙ sym (w.slots_are s);
      words = λ s. subst (λ (x : ℕ). x < 2 ^ 32) (sym (w.slots_are s)) (fresh-small s);
      counts = λ t c e.
          let o : frame + cell_at (length f.slots) t ≡ frame + (slots_at + 8 + 4 * n) + 8 * t = omega arith in
          ap (λ (x : ℕ). read_at z x 4) o ∙ count-there t (suc c) (ap (λ (x : List ℕ). slice_get x t) (sym w.counts_are) ∙ e);
    }
  where
    fresh-small : (s : ℕ) → fresh_slot s0 s1 s < 2 ^ 32
    fresh-small zero = w.first_small
    fresh-small (suc zero) = w.second_small
    fresh-small (suc (suc k)) = omega arith

    slot-there : (s : ℕ) → s < 2 + n → HeadWords (begun m frame number table s0 s1 n counts) frame number table s0 s1 (length counts)
        → read_at (begun m frame number table s0 s1 n counts) (frame + slot_at s) 4 ≡ fresh_slot s0 s1 s
    slot-there zero l h = h.first
    slot-there (suc zero) l h = h.second
    slot-there (suc (suc j)) l h =
        let r : frame + (slots_at + 8 + 4 * n) + 8 * length counts ≤ length m = w.room in
        let k : List ℕ = owing m frame number table s0 s1 counts in
        let lk : length k ≡ length m = owing-as-long m frame number table s0 s1 counts (omega arith) in
        let c : List ℕ = cleared k (frame + (slots_at + 8)) n in
        let lc : length c ≡ length m = cleared-as-long m frame number table s0 s1 n counts r in
        let from : ℕ = frame + (slots_at + 8 + 4 * n) in
        let q : Kept c (filled c from counts) from (from + 8 * length counts) =
        kept-filled counts c c from (from + 8 * length counts) from (kept-same c from (from + 8 * length counts)) (omega arith) (omega arith) (omega arith) in
        let o : frame + slot_at (suc (suc j)) ≡ frame + (slots_at + 8) + 4 * j = omega arith in
        ap (λ (x : ℕ). read_at (filled c from counts) x 4) o
        ∙ (q.apart (frame + (slots_at + 8) + 4 * j) (inl (omega arith)) ∙ cleared-at n k (frame + (slots_at + 8)) j (omega arith) (omega arith))

    count-there : (t c : ℕ) → slice_get counts t ≡ Some c
        → read_at (begun m frame number table s0 s1 n counts) (frame + (slots_at + 8 + 4 * n) + 8 * t) 4 ≡ c
    count-there t c e =
        let r : frame + (slots_at + 8 + 4 * n) + 8 * length counts ≤ length m = w.room in
        let k : List ℕ = cleared (owing m frame number table s0 s1 counts) (frame + (slots_at + 8)) n in
        let lk : length k ≡ length m = cleared-as-long m frame number table s0 s1 n counts r in
        filled-at counts k (frame + (slots_at + 8 + 4 * n)) t c e w.counts_small (omega arith)

-- ---- other frames

-- a live frame whose bytes are as they were is as it was
pub frame-reads : (p : Program) (m k : List ℕ) (f c : ℕ) (h : Frame) → FrameHolds p m f c h → length k ≡ length m
    → ((b : ℕ) → frame_address p f ≤ b → b + 4 ≤ frame_address p f + cell_at (code_text p c).slots (length (code_text p c).threads)
    → read_at k b 4 ≡ read_at m b 4) → FrameHolds p k f c h
frame-reads p m k f c h e l same =
    let at : ℕ = frame_address p f in
    let own : Frame = own_part (code_text p c) h in
    let ls : length own.slots ≡ (code_text p c).slots = length-take-le (code_text p c).slots h.slots e.slots_there in
    let lc : length own.counts ≡ length (code_text p c).threads = length-take-le (length (code_text p c).threads) h.counts e.counts_there in
    let ins : at + cell_at (length own.slots) (length own.counts) ≤ length m = e.stands.inside in
    let sm : length m < 2 ^ 32 = e.stands.small in
    let head : read_at k (at + head_at) 4 ≡ read_at m (at + head_at) 4 = same (at + head_at) (omega arith) (omega arith) in
    record {
      code_there = e.code_there;
      slots_there = e.slots_there;
      counts_there = e.counts_there;
      stands = record {
        aligned = e.stands.aligned;
        inside = omega arith;
        small = omega arith;
        numbered = same (at + number_at) (omega arith) (omega arith) ∙ e.stands.numbered;
        owes = same (at + owed_at) (omega arith) (omega arith) ∙ e.stands.owes;
        slots = λ s b. same (at + slot_at s) (omega arith) (omega arith) ∙ e.stands.slots s b;
        words = e.stands.words;
        counts = λ t d q. let b : t < length own.counts = below-length own.counts t (suc d) q in
            same (at + cell_at (length own.slots) t) (omega arith) (omega arith) ∙ e.stands.counts t d q;
      };
      owed_small = e.owed_small;
      some_owed = e.some_owed;
      table = same (at + table_at) (omega arith) (omega arith) ∙ e.table;
      ready = subst (λ (x : ℕ). Chain k next_at x (map (cell_address p f c) h.ready)) (sym head)
          (chain-reads (map (cell_address p f c) h.ready) m k next_at (read_at m (at + head_at) 4) (links h.ready e.ready_there) e.ready);
      ready_there = e.ready_there;
      ready_spent = e.ready_spent;
      ready_starts = λ t q. let b : t < length (code_text p c).threads = e.ready_there t q in
          same (cell_address p f c t) (omega arith) (omega arith) ∙ e.ready_starts t q;
      counts_small = e.counts_small;
    }
  where
    links : (ts : List ℕ) → ((t : ℕ) → has ts t ≡ true → t < length (code_text p c).threads) → (d : ℕ) → In d (map (cell_address p f c) ts)
        → read_at k (d + next_at) 4 ≡ read_at m (d + next_at) 4
    links ts b d q =
        let g = in-map (cell_address p f c) d ts q in
        let u : g.0 < length (code_text p c).threads = b g.0 (in-has ts g.0 g.1) in
        let v : cell_address p f c g.0 ≡ d = g.2 in
        same (d + next_at) (omega arith) (omega arith)
