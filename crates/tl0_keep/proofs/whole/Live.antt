-- In each state of the run in which frames are given back each live frame owes something, and no more are live than the stated count.
use Rattle.std.proofs.Common.{◌≡◌, ℕ, ◌≤◌, List, refl, sym, subst, arith, inl, inr}
use Rattle.std.proofs.lemmas.Option.{none-some}
use Rattle.tam_msgs.specs.declared.item.Item.{Item}
use Rattle.tam_msgs.specs.declared.limits.Limits.{Limits}
use Rattle.tam_msgs.specs.Messages.{outside}
use Rattle.tam_msgs.specs.Runs.{Next}
use Rattle.frame_tables.specs.FrameTables.{FrameTable, live_count}
use Rattle.tl0_code.specs.ThreadCode.{Program}
use Rattle.tl0_code.specs.Machines.{Machine, Giving, Progress, Fine, Broken}
use Rattle.tl0_code.specs.ThreadRuns.{step_of, begin, or_machine, nothing_begun, thread_opening}
use Rattle.tl0_keep.specs.ThreadLaws.{ComesTo, LiveFramesOwe, LiveAreFew}
use Rattle.tl0_keep.proofs.giving.LiveLists.{LiveOwe}
use Rattle.tl0_keep.proofs.giving.LiveFrames.{Stays, begin-stays, step-goes}
use Rattle.tl0_keep.proofs.giving.EndsLeave.{step-leaves, last-event, kept-after}

module _ (p : Program) (args : List ℕ) (order : List Item) where
  -- nothing is live before, so each live frame of the opening owes something, and one is live at most
  opening-live : LiveOwe (thread_opening p args order).table.frames × (live_count (thread_opening p args order).table ≤ 1)
  opening-live = go (begin p (nothing_begun args order) p.main outside 0) refl
    where
      go : (r : Progress) → begin p (nothing_begun args order) p.main outside 0 ≡ r
          → LiveOwe (or_machine (nothing_begun args order) r).table.frames × (live_count (or_machine (nothing_begun args order) r).table ≤ 1)
      go (Fine k) e =
          let s : Stays 1 (nothing_begun args order) k = begin-stays p (nothing_begun args order) p.main outside 0 k e in
          (s.owe (λ f h q. absurd (none-some _ q)), let l = s.few in omega arith)
      go (Broken what n) e = (λ f h q. absurd (none-some _ q), omega arith)

  -- what each event keeps of the frames holds in each state and at each end
  comes-keeping : (limits : Limits) (P : FrameTable → Type 0) → P (thread_opening p args order).table
      → ((k m : Machine) → step_of Giving p limits k ≡ Next m → P k.table → P m.table) → (n : ℕ) (m : Machine)
      → ComesTo Giving p args order limits n m → P m.table
  comes-keeping limits P first keep n m (inl e) =
      kept-after (step_of Giving p limits) (λ k. P k.table) keep n (thread_opening p args order) m e first
  comes-keeping limits P first keep n m (inr (how, e)) =
      let r = last-event (step_of Giving p limits) n (thread_opening p args order) how m e in
      let l = step-leaves Giving p limits r.1.0 how m r.1.1.1 in
      subst P (sym l.table) (kept-after (step_of Giving p limits) (λ k. P k.table) keep r.0 (thread_opening p args order) r.1.0 r.1.1.0 first)

-- each live frame owes something
pub live-frames-owe : LiveFramesOwe
live-frames-owe p args order limits n m comes = comes-keeping p args order limits (λ s. LiveOwe s.frames) (opening-live p args order).0
    (λ k l e o. (step-goes p limits k l e).owe o) n m comes

-- and few are live
pub live-are-few : LiveAreFew
live-are-few p args order limits n m ranges comes = comes-keeping p args order limits (λ s. live_count s ≤ limits.frames)
    (let a = (opening-live p args order).1 in let b = ranges.some_frame in omega arith) (λ k l e o. (step-goes p limits k l e).few o) n m comes
