-- A poll of the host is an event of the run of its image.
use Rattle.std.proofs.Common.{◌≡◌, ℕ, List, [], ◌∷◌, ◌++◌, length, refl, sym, ◌∙◌, ap, ap₂, subst}
use Rattle.std.specs.Prelude.{Option, None, Some, Result, Ok, Err}
use Rattle.tam_msgs.specs.declared.item.Item.{Item}
use Rattle.tam_msgs.specs.declared.limits.Limits.{Limits}
use Rattle.tam_msgs.specs.declared.step.Step.{Step}
use Rattle.tam_msgs.specs.declared.step.Step.TheVariants.{Ran, Delivered, Printed, Quiet as Step_quiet}
use Rattle.tam_msgs.specs.declared.stop.Stop.{Stop}
use Rattle.tam_msgs.specs.declared.stop.Stop.TheVariants.{DoubleWrite, OutOfRange, FramesFull, CellsFull, BudgetSpent, NoMemory}
use Rattle.tam_msgs.specs.Runs.{End, Quiet, Double_write, Out_of_range, Frames_full, Cells_full, Budget_spent, Wild, Trap, Outcome, Next, Ended}
use Rattle.rv_inst.specs.Harts.{Hart}
use Rattle.rv_inst.specs.Images.{Image, hart_opening}
use Rattle.rv_inst.specs.Traps.{trap_text}
use Rattle.rv_keep.specs.Hosts.{Host}
use Rattle.rv_keep.specs.HostRuns.{host_step, host_opening}
use Rattle.rv_host.specs.declared.stop_rv.HostWild.{HostWild}
use Rattle.rv_host.specs.declared.stop_rv.HostWild.TheVariants as wild
use Rattle.rv_host.specs.declared.stop_rv.StopRv.{StopRv}
use Rattle.rv_host.specs.declared.stop_rv.StopRv.TheVariants.{Stop as Stops, Wild as Goes_wild, Trap as Traps}
use Rattle.rv_host.specs.LiveFrames.{AreLive}
use Rattle.rv_host.specs.HostStates.{SeenHost, host_with, AreMarked}
use Rattle.rv_host.specs.HostEvents.{HostRun, IsPoll, IsStep, IsOutcome, IsOpening, cause_of, ended_by}
use Rattle.tam_run.specs.declared.halt.Halt.{Halt}
use Rattle.tam_run.specs.Accounts.{Account, image_account}
use Rattle.tam_run.specs.Ends.{end_of_stop}
use Rattle.tam_run.specs.Ends as Ends
use Rattle.tam_run.specs.Halts.{host_cause, host_halt}
use Rattle.tam_run.specs.Telling.{Run, Tells, GoesOn, EndsSo, Comes, TellsMore, printed_behind}
use Rattle.tam_run.specs.ImageTelling.{image_run, image_stand, MachineRun, ImageTells}
use Rattle.tam_run.proofs.RunSteps.{tells-more, goes-on, ends-so, tells-whole}
use Rattle.tam_run.proofs.HostSteps.{host-follows}

-- what the host ensures of a poll
pub record IsHostEvent (old new : MachineRun) (order order' : List Item) (result : Result Step StopRv) : Type 0 where
  pub poll : IsPoll old.host new.host old.hart new.hart order order' result old.host.ended
  pub image : new.image ≡ old.image
  pub limits : new.host.limits ≡ old.host.limits
  pub results : length new.host.state.marks ≡ length old.host.state.marks

-- the answer of the host, as every level answers
abbrev pub widened : Result Step StopRv → Result Step Halt
widened (Ok step) = Ok step
widened (Err stop) = Err (host_halt stop)

-- what comes of it is told, and what was printed behind it is a prefix of that
abbrev pub ImageCame : MachineRun → MachineRun → List Item → List (ℕ × ℕ) → Account → Result Step StopRv → Type 0
ImageCame old new r printed a result =
    Comes (λ behind. ImageTells new r behind a) (image_stand old) (image_stand new) printed a (widened result)
    × TellsMore a (printed_behind printed (widened result))

-- the cause is named alike
cause-same : (what : HostWild) → Ends.cause_of (host_cause what) ≡ cause_of what
cause-same wild.Frame = refl
cause-same wild.Array = refl
cause-same wild.Place = refl
cause-same wild.Ecall = refl

module _ (sends : Type 0) (o : Outcome Host) (t : Host) where
  -- a stop is told so
  stop-comes : (stop : Stop) (how : End) → end_of_stop stop ≡ Some how → IsOutcome sends o t (Err (Stops stop)) → o ≡ Ended how t
  stop-comes (DoubleWrite a b) how e h = let p : Double_write a b ≡ how = cc in h ∙ ap (λ k. Ended k t) p
  stop-comes (OutOfRange a i l) how e h = let p : Out_of_range a i l ≡ how = cc in h ∙ ap (λ k. Ended k t) p
  stop-comes (FramesFull n) how e h = let p : Frames_full n ≡ how = cc in h ∙ ap (λ k. Ended k t) p
  stop-comes (CellsFull u l) how e h = let p : Cells_full u l ≡ how = cc in h ∙ ap (λ k. Ended k t) p
  stop-comes (BudgetSpent n) how e h = let p : Budget_spent n ≡ how = cc in h ∙ ap (λ k. Ended k t) p
  stop-comes NoMemory how e h = absurd cc

-- the run with the host in another state, and another machine
abbrev in_state : MachineRun → SeenHost → ℕ → Option (Result Step StopRv) → Hart → MachineRun
in_state run s instructions ended hart =
    record { image = run.image; host = record { limits = run.host.limits; state = s; instructions = instructions; ended = ended }; hart = hart }

module _ (old : MachineRun) (s : SeenHost) (instructions : ℕ) (ended : Option (Result Step StopRv)) (hart : Hart) (q r : List Item)
    (printed : List (ℕ × ℕ)) (a : Account) (tells : ImageTells old q printed a) (results : length s.marks ≡ length old.host.state.marks) where
  -- the run
  abbrev its-run : Run Host
  its-run = image_run old.image old.host.limits

  -- its state before the event
  abbrev before : Host
  before = host_with old.host.state old.hart q printed tells.live

  -- what contracts see of the run behind it
  abbrev new : MachineRun
  new = in_state old s instructions ended hart

  -- a step goes on
  next-comes : (more : List (ℕ × ℕ)) (live : List ℕ) → host_step old.image old.host.limits before ≡ Next (host_with s hart r more live)
      → ended ≡ None → AreMarked s.marks more → AreLive s.numbers live
      → GoesOn (ImageTells new r more a) (image_stand old) (image_stand new) × TellsMore a more
  next-comes more live e none marks are_live =
      let on = goes-on Host its-run (host-follows old.image old.host.limits) before (host_with s hart r more live) a tells.tells e in (
        record {
          told = record { going = none; as_many = tells.as_many ∙ sym results; marks = marks; live = live; are_live = are_live; tells = on.told };
          less = on.less;
        },
        tells-more Host its-run (host-follows old.image old.host.limits) (host_with s hart r more live) a on.told,
      )

  -- a step ends
  ended-comes : (how : End) (live : List ℕ) → host_step old.image old.host.limits before ≡ Ended how (host_with s hart r printed live)
      → EndsSo (image_stand new) printed a how
  ended-comes how live e = ends-so Host its-run (host-follows old.image old.host.limits) before (host_with s hart r printed live) how a tells.tells e

  -- what was printed before
  printed-before : TellsMore a printed
  printed-before = tells-more Host its-run (host-follows old.image old.host.limits) before a tells.tells

  -- what comes of a poll
  outcome-comes : (result : Result Step StopRv)
      → IsStep old.image old.host.limits old.host.state s old.hart hart q r printed tells.live result
      → ended ≡ ended_by result → ImageCame old new r printed a result
  outcome-comes (Ok Ran) h none = next-comes printed h.made.live h.made.is none h.marks h.made.are_live
  outcome-comes (Ok Delivered) h none = next-comes printed h.made.live h.made.is none h.marks h.made.are_live
  outcome-comes (Ok (Printed k w)) h none = next-comes (printed ++ (k, w) ∷ []) h.made.live h.made.is none h.marks h.made.are_live
  outcome-comes (Ok Step_quiet) h some = (ended-comes Quiet h.made.live h.made.is, printed-before)
  outcome-comes (Err (Stops stop)) h some =
      (λ how e. ended-comes how h.made.live (stop-comes _ _ (host_with s hart r printed h.made.live) stop how e h.made.is), printed-before)
  outcome-comes (Err (Goes_wild what n)) h some = (
    subst (λ c. EndsSo (image_stand new) printed a (Wild c n)) (sym (cause-same what)) (ended-comes (Wild (cause_of what) n) h.made.live h.made.is),
    printed-before,
  )
  outcome-comes (Err (Traps pc cause)) h some = (ended-comes (Trap pc (trap_text cause)) h.made.live h.made.is, printed-before)

module _ (old new : MachineRun) (q r : List Item) (result : Result Step StopRv) (is : IsHostEvent old new q r result) where
  -- what comes of an event
  pub image-came : (printed : List (ℕ × ℕ)) (a : Account) → ImageTells old q printed a → ImageCame old new r printed a result
  image-came printed a tells =
      subst (λ n. ImageCame old n r printed a result) (sym same)
      (outcome-comes old new.host.state new.host.instructions new.host.ended new.hart q r printed a tells is.results result
      (poll.0 old.image printed tells.live tells.as_many tells.marks tells.are_live) poll.1)
    where
      same : new ≡ in_state old new.host.state new.host.instructions new.host.ended new.hart
      same = ap₂ (λ (i : Image) (l : Limits).
          record {
            image = i;
            host = record { limits = l; state = new.host.state; instructions = new.host.instructions; ended = new.host.ended };
            hart = new.hart;
          }) is.image is.limits

      poll : IsPoll old.host new.host old.hart new.hart q r result None
      poll = subst (IsPoll old.host new.host old.hart new.hart q r result) tells.going is.poll

-- a run at its opening is told whole
pub image-opened : (image : Image) (args : List ℕ) (order : List Item) (limits : Limits) (host : HostRun) (hart : Hart)
    → IsOpening args limits image.results host → hart ≡ hart_opening image limits.frames
    → ImageTells (record { image = image; host = host; hart = hart }) order [] (image_account image args order limits)
image-opened image args order limits host hart is at = record {
  going = is.goes;
  as_many = sym is.as_many;
  marks = is.are_marked;
  live = 0 ∷ [];
  are_live = is.are_live;
  tells = subst (λ (l : Limits). Tells (image_run image l) (host_with host.state hart order [] (0 ∷ [])) (image_account image args order limits))
      (sym is.limited)
      (subst (λ (s : Host). Tells (image_run image limits) s (image_account image args order limits)) (sym same)
      (tells-whole Host (image_run image limits) (host_opening image args order limits) refl));
}
  where
    same : host_with host.state hart order [] (0 ∷ []) ≡ host_opening image args order limits
    same = ap (λ (h : Hart). host_with host.state h order [] (0 ∷ [])) at ∙ is.opening image order
