-- What the spending of an entry count answers, and which frames are live behind it.
use Rattle.std.proofs.Common.{◌≡◌, ◌≢◌, ℕ, zero, suc, refl, Some}
use Rattle.std.specs.Prelude.{slice_get}
use Rattle.tam_msgs.specs.Runs.{Wild_thread}
use Rattle.frame_tables.specs.declared.answers.Spend.TheVariants.{Spent}
use Rattle.frame_tables.specs.FrameTables.{frame_at, count_in, spent, spend_answer}
use Rattle.tl0_code.specs.Machines.{Machine, Fine, Broken, branch, spend, spend_of}

-- a word that isn't 0 chooses the first thread
pub branch-yes : (w t u : ℕ) → w ≢ 0 → branch w t u ≡ t
branch-yes zero t u some = absurd (some refl)
branch-yes (suc w) t u some = refl

module _ (m : Machine) (f t : ℕ) (there : slice_get (frame_at m.table f).counts t ≡ Some (count_in m.table f t)) where
  -- where one was left, it is spent
  pub spend-fine : spend_answer (count_in m.table f t) ≢ Spent → spend m f t ≡ Fine (record m { table = spent m.table f t })
  spend-fine left = rw there (go (count_in m.table f t) left)
    where
      go : (n : ℕ) → spend_answer n ≢ Spent → spend_of m f t (Some n) ≡ Fine (record m { table = spent m.table f t })
      go zero differs = absurd (differs refl)
      go (suc n) differs = refl

  -- where none was left, the run is wild
  pub spend-wild : Spent ≡ spend_answer (count_in m.table f t) → spend m f t ≡ Broken Wild_thread t
  spend-wild none = rw there (go (count_in m.table f t) none)
    where
      go : (n : ℕ) → Spent ≡ spend_answer n → spend_of m f t (Some n) ≡ Broken Wild_thread t
      go zero is = refl
      go (suc zero) is = absurd cc
      go (suc (suc n)) is = absurd cc
