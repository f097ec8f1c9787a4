-- The delivery of a word for a frame.
use Rattle.std.proofs.Common.{◌≡◌, ◌≢◌, ℕ, true, false, [], ◌∷◌, refl}
use Rattle.tam_word.specs.Lists.{has}
use Rattle.tam_word.proofs.Tests.{differs-number}
use Rattle.tam_msgs.specs.Messages.{outside}
use Rattle.tam_msgs.specs.declared.limits.Limits.{Limits}
use Rattle.tam_msgs.specs.declared.message.Message.TheVariants.{Word as Carry}
use Rattle.tam_msgs.specs.Runs.{Next, Ended, Wild, Wild_frame}
use Rattle.rv_inst.specs.Images.{Image}
use Rattle.rv_keep.specs.Hosts.{Host, with_hart}
use Rattle.rv_keep.specs.HostRuns.{with_regs, delivered}

module _ (image : Image) (limits : Limits) (s : Host) (f i w : ℕ) (inside : f ≢ outside) where
  -- the machine is to take it
  pub word-taken : has s.live f ≡ true
      → delivered image limits s (Carry f i w) ≡ Next (with_hart s (with_regs s.hart ((10, 2) ∷ (11, f) ∷ (12, i) ∷ (13, w) ∷ [])))
  word-taken live = rw (delivered, differs-number f outside inside, live) refl

  -- the frame isn't live
  pub word-wild : has s.live f ≡ false → delivered image limits s (Carry f i w) ≡ Ended (Wild Wild_frame f) s
  word-wild live = rw (delivered, differs-number f outside inside, live) refl
