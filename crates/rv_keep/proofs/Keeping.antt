-- What an instruction leaves alone: which frame is current, and the codes of frames; and what the next thread is.
use Rattle.std.proofs.Common.{◌≡◌, ℕ, zero, suc, List, [], ◌∷◌, refl, sym, ap, ◌∙◌, true, false, Bool, subst, Option, Some, None, slice_get, nat_lt, inl}
use Rattle.tam_word.specs.Lists.{has}
use Rattle.tam_word.proofs.Members.{in-has}
use Rattle.frame_tables.specs.FrameTables.{Frame, FrameTable, or_frame, frame_at, is_some_frame, spent_of, spent, count_in, next_of, given_of}
use Rattle.frame_tables.specs.FrameTables.{next_thread, rested}
use Rattle.tam_msgs.specs.Runs.{Wild_skip}
use Rattle.tl0_code.specs.declared.instr.Instr.{Instr}
use Rattle.tl0_code.specs.declared.instr.Instr.TheVariants.{Imm, Mov, Op as Operate, Fork, Switch, Falloc, Send, Ret, Ialloc, Ifetch, Istore, Skip}
use Rattle.tl0_code.specs.Machines.{Machine, Giving, Progress, Fine, Broken, done, spend_of, owing_less, slot, branch}

-- what is left is one
pub fine-same : (m n : Machine) → Fine m ≡ Fine n → m ≡ n
fine-same m n e = cc

-- the same frame is current, and the codes are the same
pub record Keeps (m n : Machine) : Type 0 where
  pub current : n.table.current ≡ m.table.current
  pub codes : n.codes ≡ m.codes

-- where what is left does
keeps-fine : (m k n : Machine) → Keeps m k → Fine k ≡ Fine n → Keeps m n
keeps-fine m k n a e = subst (λ (x : Machine). Keeps m x) (fine-same k n e) a

-- a count that is spent leaves the current frame
pub spent-current : (s : FrameTable) (f t c : ℕ) → (spent_of s f t c).current ≡ s.current
spent-current s f t zero = refl
spent-current s f t (suc zero) = refl
spent-current s f t (suc (suc c)) = refl

-- so does spending
pub spend-keeps : (m n : Machine) (f t : ℕ) (o : Option ℕ) → spend_of m f t o ≡ Fine n → Keeps m n
spend-keeps m n f t None e = absurd cc
spend-keeps m n f t (Some zero) e = absurd cc
spend-keeps m n f t (Some (suc k)) e =
    keeps-fine m (record m { table = spent m.table f t }) n (record { current = spent-current m.table f t (count_in m.table f t); codes = refl }) e

-- what is left, or the state before
abbrev or-fine : Machine → Progress → Machine
or-fine m (Fine n) = n
or-fine m (Broken what k) = m

-- an instruction
pub done-keeps : (m n : Machine) (f : ℕ) (i : Instr) → done Giving m f i ≡ Fine n → Keeps m n
done-keeps m n f (Imm d w) e = keeps-fine m (or-fine m (done Giving m f (Imm d w))) n (record { current = refl; codes = refl }) e
done-keeps m n f (Mov d a) e = keeps-fine m (or-fine m (done Giving m f (Mov d a))) n (record { current = refl; codes = refl }) e
done-keeps m n f (Operate o d a b) e = keeps-fine m (or-fine m (done Giving m f (Operate o d a b))) n (record { current = refl; codes = refl }) e
done-keeps m n f (Fork t) e = spend-keeps m n f t (slice_get (frame_at m.table f).counts t) e
done-keeps m n f (Switch s t u) e =
    spend-keeps m n f (branch (slot m f s) t u) (slice_get (frame_at m.table f).counts (branch (slot m f s) t u)) e
done-keeps m n f (Falloc c i) e = keeps-fine m (or-fine m (done Giving m f (Falloc c i))) n (record { current = refl; codes = refl }) e
done-keeps m n f (Send r i a) e = keeps-fine m (or-fine m (done Giving m f (Send r i a))) n (record { current = refl; codes = refl }) e
done-keeps m n f (Ret k a) e = keeps-fine m (or-fine m (done Giving m f (Ret k a))) n (record { current = refl; codes = refl }) e
done-keeps m n f (Ialloc s i) e = keeps-fine m (or-fine m (done Giving m f (Ialloc s i))) n (record { current = refl; codes = refl }) e
done-keeps m n f (Ifetch r x i s) e = keeps-fine m (or-fine m (done Giving m f (Ifetch r x i s))) n (record { current = refl; codes = refl }) e
done-keeps m n f (Istore r x a s) e = keeps-fine m (or-fine m (done Giving m f (Istore r x a s))) n (record { current = refl; codes = refl }) e
done-keeps m n f (Skip k) e = go (nat_lt k (frame_at m.table f).owed) e
  where
    go : (t : Bool) → elim t [ true ↦ Fine (owing_less m f k) | false ↦ Broken Wild_skip k ] ≡ Fine n → Keeps m n
    go true q = keeps-fine m (owing_less m f k) n (record { current = refl; codes = refl }) q
    go false q = absurd cc

-- ---- the next thread

-- where none is given, none is
none-given : (a b : Option (ℕ × ℕ) × FrameTable) (y : ℕ × ℕ) → a ≡ b → a.0 ≡ None → b.0 ≡ Some y → ⊥
none-given a b y e p q = let k : None ≡ Some y = sym p ∙ (ap (λ (x : Option (ℕ × ℕ) × FrameTable). x.0) e ∙ q) in absurd cc

-- what is there is one
some-same : (a b : ℕ × ℕ) → Some a ≡ Some b → a ≡ b
some-same a b e = cc

-- the frame that gives it is current then
given-current : (s : FrameTable) (g : ℕ) (l : List ℕ) (f t : ℕ) (table : FrameTable) → given_of s g l ≡ (Some (f, t), table) → table.current ≡ Some f
given-current s g [] f t table e = absurd (none-given (None, s) (Some (f, t), table) (f, t) e refl refl)
given-current s g (u ∷ us) f t table e =
    let a : (given_of s g (u ∷ us)).1 ≡ table = ap (λ (x : Option (ℕ × ℕ) × FrameTable). x.1) e in
    let d : g ≡ f = ap (λ (x : ℕ × ℕ). x.0) (some-same (g, u) (f, t) (ap (λ (x : Option (ℕ × ℕ) × FrameTable). x.0) e)) in
    ap (λ (x : FrameTable). x.current) (sym a) ∙ ap Some d

-- and has it in its list
given-ready : (s : FrameTable) (g : ℕ) (l : List ℕ) (f t : ℕ) (table : FrameTable) → given_of s g l ≡ (Some (f, t), table) → l ≡ (frame_at s g).ready
    → has (frame_at s f).ready t ≡ true
given-ready s g [] f t table e q = absurd (none-given (None, s) (Some (f, t), table) (f, t) e refl refl)
given-ready s g (u ∷ us) f t table e q =
    let b = some-same (g, u) (f, t) (ap (λ (x : Option (ℕ × ℕ) × FrameTable). x.0) e) in
    let d : g ≡ f = ap (λ (x : ℕ × ℕ). x.0) b in
    let k : u ≡ t = ap (λ (x : ℕ × ℕ). x.1) b in
    let l : has (u ∷ us) t ≡ true = in-has (u ∷ us) t (inl k) in
    let r : u ∷ us ≡ (frame_at s f).ready = q ∙ ap (λ (x : ℕ). (frame_at s x).ready) d in
    subst (λ (x : List ℕ). has x t ≡ true) r l

-- the next thread's frame is current
pub next-current : (s : FrameTable) (f t : ℕ) (table : FrameTable) → next_thread s ≡ (Some (f, t), table) → table.current ≡ Some f
next-current s f t table e = go (rested s).current s.queue e
  where
    go : (c : Option ℕ) (q : List ℕ) → next_of (rested s) c q ≡ (Some (f, t), table) → table.current ≡ Some f
    go (Some g) q k = given-current (rested s) g (frame_at (rested s) g).ready f t table k
    go None [] k = absurd (none-given (None, rested s) (Some (f, t), table) (f, t) k refl refl)
    go None (g ∷ q) k = given-current (record (rested s) { queue = q }) g (frame_at (rested s) g).ready f t table k

-- and has the thread in its list
pub next-ready : (s : FrameTable) (f t : ℕ) (table : FrameTable) → next_thread s ≡ (Some (f, t), table) → has (frame_at s f).ready t ≡ true
next-ready s f t table e = go (rested s).current s.queue e
  where
    go : (c : Option ℕ) (q : List ℕ) → next_of (rested s) c q ≡ (Some (f, t), table) → has (frame_at s f).ready t ≡ true
    go (Some g) q k = given-ready (rested s) g (frame_at (rested s) g).ready f t table k refl
    go None [] k = absurd (none-given (None, rested s) (Some (f, t), table) (f, t) k refl refl)
    go None (g ∷ q) k = given-ready (record (rested s) { queue = q }) g (frame_at (rested s) g).ready f t table k refl

-- a frame that has a ready thread is live
pub ready-live : (h : Option (Option Frame)) (t : ℕ) → has (or_frame h).ready t ≡ true → is_some_frame h ≡ true
ready-live None t e = absurd cc
ready-live (Some None) t e = absurd cc
ready-live (Some (Some h)) t e = refl
