-- Each step of a run of an image follows the state before it.
use Rattle.std.proofs.Common.{◌≡◌, ◌≢◌, ℕ, zero, suc, ◌+◌, Bool, true, false, not, ◌==◌, nat_lt, List, [], ◌∷◌, ◌++◌, refl, sym, subst, ap, ◌∙◌, length}
use Rattle.std.proofs.Common.{Some, None, slice_get}
use Rattle.std.specs.Prelude.{Option}
use Rattle.std.proofs.lemmas.List.{append-nil}
use Rattle.tam_word.proofs.Tests.{number-differs}
use Rattle.tam_word.specs.Lists.{has, any_of, without_place}
use Rattle.tam_msgs.specs.declared.limits.Limits.{Limits}
use Rattle.tam_msgs.specs.declared.item.Item.{Item}
use Rattle.tam_msgs.specs.declared.message.Message.{Message}
use Rattle.tam_msgs.specs.declared.message.Message.TheVariants.{Word as Carry, Frame as Begin, Cells as Make, Fetch as Ask_cell, Store as Put_cell}
use Rattle.tam_msgs.specs.declared.choice.Choice.{Choice}
use Rattle.tam_msgs.specs.declared.choice.Choice.TheVariants.{Quiet as Choose_quiet, Run as Choose_run, Deliver as Choose_delivery}
use Rattle.tam_msgs.specs.Messages.{outside}
use Rattle.tam_msgs.specs.Runs.{End, Ended, Next, Budget_spent, Wild, Wild_place, Wild_frame, Frames_full, Cells_full, choice}
use Rattle.tam_istr.specs.Cells.{Access, Now, Deferred, Stored, Twice, NotBelow, NoArray, fetched_from, stored_into, cells_used}
use Rattle.rv_inst.specs.Harts.{Hart, Step, Done, Called, Trapped, reg}
use Rattle.rv_inst.specs.Images.{Image}
use Rattle.rv_inst.specs.Execution.{hart_step}
use Rattle.rv_keep.specs.Hosts.{Host, Reached, At_poll, Stopped, with_hart, with_given, sent_by, silent, to_poll}
use Rattle.rv_keep.specs.HostRuns.{with_regs, done_here, printed_outside, accessed, delivered, delivered_at, counted, chosen, at_poll, host_step}
use Rattle.rv_host.proofs.Ways.{with_sent, step-done, step-traps, step-polls, step-sends}
use Rattle.tam_run.specs.ImageTelling.{image_run}
use Rattle.tam_run.proofs.RunSteps.{Follows}

-- ---- the way to the poll

-- what a state tells of itself as a run goes on
abbrev tells : Host → List (ℕ × ℕ) × ℕ
tells s = (s.printed, s.events)

-- where the way leads the same is told
abbrev Keeps : Host → Reached → Type 0
Keeps s (At_poll t) = tells t ≡ tells s
Keeps s (Stopped how t) = tells t ≡ tells s

module _ (n : ℕ) (s : Host) (rest : (t : Host) → Keeps t (to_poll n t)) where
  -- behind one step, where the same is told
  later-keeps : (t : Host) → tells t ≡ tells s → Keeps s (to_poll n t)
  later-keeps t same = go (to_poll n t) (rest t)
    where
      go : (r : Reached) → Keeps t r → Keeps s r
      go (At_poll u) k = k ∙ same
      go (Stopped how u) k = k ∙ same

  -- behind a call that sends nothing
  silent-keeps : (g : Hart) (call : ℕ) → hart_step s.hart ≡ Called g → reg g 17 ≡ suc call → sent_by (suc call) g ≡ [] → Keeps s (to_poll (suc n) s)
  silent-keeps g call e r m = go (suc call == 6) refl (has s.live (reg g 10)) refl
    where
      go : (t : Bool) → (suc call == 6) ≡ t → (b : Bool) → has s.live (reg g 10) ≡ b → Keeps s (to_poll (suc n) s)
      go false q b l = rw (to_poll, e) (rw (r, m) (rw (silent, q) refl))
      go true q false l = rw (to_poll, e) (rw (r, m) (rw (silent, q, l) refl))
      go true q true l = rw (to_poll, e) (rw (r, m) (rw (silent, q, l) (later-keeps (with_given s g (reg g 10)) refl)))

  -- behind a call
  called-keeps : (g : Hart) → hart_step s.hart ≡ Called g → (call : ℕ) → reg g 17 ≡ call → (ms : List Message) → sent_by call g ≡ ms
      → Keeps s (to_poll (suc n) s)
  called-keeps g e zero r ms m = subst (Keeps s) (sym (step-polls n s g e r)) refl
  called-keeps g e (suc call) r [] m = silent-keeps g call e r m
  called-keeps g e (suc call) r (x ∷ xs) m =
      subst (Keeps s) (sym (step-sends n s g e (suc call) x xs r (λ z. absurd cc) m)) (later-keeps (with_sent s g x) refl)

  -- behind a step
  step-keeps : (x : Step) → hart_step s.hart ≡ x → Keeps s (to_poll (suc n) s)
  step-keeps (Done g) e = subst (Keeps s) (sym (step-done n s g e)) (later-keeps (with_hart s g) refl)
  step-keeps (Called g) e = called-keeps g e (reg g 17) refl (sent_by (reg g 17) g) refl
  step-keeps (Trapped pc cause) e = subst (Keeps s) (sym (step-traps n s pc cause e)) refl

-- and so on the whole way
way-keeps : (n : ℕ) (s : Host) → Keeps s (to_poll n s)
way-keeps zero s = refl
way-keeps (suc n) s = step-keeps n s (λ t. way-keeps n t) (hart_step s.hart) refl

-- ---- the event

-- an event was begun: it is counted, and nothing is printed yet
record Begun (s t : Host) : Type 0 where
  pub printed : t.printed ≡ s.printed
  pub counted : t.events ≡ s.events + 1

module _ (image : Image) (limits : Limits) (s : Host) (room : s.events ≢ limits.budget) where
  module _ (t : Host) (begun : Begun s t) where
    -- behind it nothing is printed
    unprinted : (u : Host) → tells u ≡ tells t → Follows (image_run image limits) s (Next u)
    unprinted u same = record {
      more = [];
      printed = ap (λ (x : List (ℕ × ℕ) × ℕ). x.0) same ∙ begun.printed ∙ sym (append-nil s.printed);
      counted = ap (λ (x : List (ℕ × ℕ) × ℕ). x.1) same ∙ begun.counted;
      room = room;
    }

    -- a word goes outside
    outside-follows : (k w : ℕ) → Follows (image_run image limits) s (printed_outside image t k w)
    outside-follows k w = go (nat_lt k image.results) (any_of (λ kw. kw.0 == k) t.printed)
      where
        go : (a b : Bool)
            → Follows (image_run image limits) s (elim a [
              | false ↦ Ended (Wild Wild_place k) t
              | true ↦ elim b [ true ↦ Ended (Wild Wild_place k) t | false ↦ done_here (record t { printed = t.printed ++ (k, w) ∷ [] }) ]
            ])
        go false b = begun.printed
        go true true = begun.printed
        go true false = record { more = (k, w) ∷ []; printed = ap (λ l. l ++ (k, w) ∷ []) begun.printed; counted = begun.counted; room = room }

    -- an access is made
    access-follows : (site a i : ℕ) (reader : ℕ × ℕ) (w : ℕ) (access : Access) → Follows (image_run image limits) s (accessed t site a i reader w access)
    access-follows site a i reader w (Now u) = unprinted _ refl
    access-follows site a i reader w (Deferred arrays) = unprinted _ refl
    access-follows site a i reader w (Stored arrays readers) = unprinted _ refl
    access-follows site a i reader w (Twice first) = begun.printed
    access-follows site a i reader w (NotBelow n) = begun.printed
    access-follows site a i reader w NoArray = begun.printed

    -- whatever a test says
    either : (b : Bool) (y : Host) (how : End) → tells y ≡ tells t
        → Follows (image_run image limits) s (elim b [ true ↦ Ended how t | false ↦ Next y ])
    either true y how same = begun.printed
    either false y how same = unprinted y same

    -- a message is delivered
    delivered-follows : (m : Message) → Follows (image_run image limits) s (delivered image limits t m)
    delivered-follows (Carry f i w) = go (f == outside) (has t.live f)
      where
        go : (a b : Bool)
            → Follows (image_run image limits) s (elim a [
              | true ↦ printed_outside image t i w
              | false ↦ elim b [
                | true ↦ Next (with_hart t (with_regs t.hart ((10, 2) ∷ (11, f) ∷ (12, i) ∷ (13, w) ∷ [])))
                | false ↦ Ended (Wild Wild_frame f) t
              ]
            ])
        go true b = outside-follows i w
        go false true = unprinted _ refl
        go false false = begun.printed
    delivered-follows (Begin c f i) = either (length t.live == limits.frames) _ (Frames_full limits.frames) refl
    delivered-follows (Make n f i) = either (nat_lt limits.cells (cells_used t.arrays + n)) _ (Cells_full (cells_used t.arrays) n) refl
    delivered-follows (Ask_cell a i f x site) = access-follows site a i (f, x) 0 (fetched_from t.arrays a i (f, x))
    delivered-follows (Put_cell a i w site) = access-follows site a i (0, 0) w (stored_into t.arrays a i w site)

  -- the message at a place
  at-follows : (t : Host) → Begun s t → (k : ℕ) (x : Option Message) → Follows (image_run image limits) s (delivered_at image limits t k x)
  at-follows t begun k None = begun.printed
  at-follows t begun k (Some x) =
      delivered-follows (record t { pending = without_place k t.pending }) (record { printed = begun.printed; counted = begun.counted }) x

-- what was chosen at a poll is done, where the way to it told the same as the state before it
chosen-follows : (image : Image) (limits : Limits) (s t : Host) → tells t ≡ tells s → (c : Choice × List Item)
    → Follows (image_run image limits) s (chosen image limits t c)
chosen-follows image limits s t same (Choose_quiet, rest) = ap (λ (x : List (ℕ × ℕ) × ℕ). x.0) same
chosen-follows image limits s t same (Choose_run, rest) = go (t.events == limits.budget) refl
  where
    go : (b : Bool) → (t.events == limits.budget) ≡ b
        → Follows (image_run image limits) s (elim b [
          | true ↦ Ended (Budget_spent t.events) t
          | false ↦ Next (let u = counted t rest in with_hart u (with_regs u.hart ((10, 1) ∷ [])))
        ])
    go true e = ap (λ (x : List (ℕ × ℕ) × ℕ). x.0) same
    go false e =
        let events : t.events ≡ s.events = ap (λ (x : List (ℕ × ℕ) × ℕ). x.1) same in
        let printed : t.printed ≡ s.printed = ap (λ (x : List (ℕ × ℕ) × ℕ). x.0) same in
        unprinted image limits s (λ q. number-differs t.events limits.budget e (events ∙ q)) (counted t rest)
        (record { printed = printed; counted = ap (λ n. n + 1) events }) _ refl
chosen-follows image limits s t same (Choose_delivery k, rest) = go (t.events == limits.budget) refl
  where
    go : (b : Bool) → (t.events == limits.budget) ≡ b
        → Follows (image_run image limits) s (elim b [
          | true ↦ Ended (Budget_spent t.events) t
          | false ↦ delivered_at image limits (counted t rest) k (slice_get t.pending k)
        ])
    go true e = ap (λ (x : List (ℕ × ℕ) × ℕ). x.0) same
    go false e =
        let events : t.events ≡ s.events = ap (λ (x : List (ℕ × ℕ) × ℕ). x.1) same in
        let printed : t.printed ≡ s.printed = ap (λ (x : List (ℕ × ℕ) × ℕ). x.0) same in
        at-follows image limits s (λ q. number-differs t.events limits.budget e (events ∙ q)) (counted t rest)
        (record { printed = printed; counted = ap (λ n. n + 1) events }) k (slice_get t.pending k)

-- each step follows the state before it
pub host-follows : (image : Image) (limits : Limits) (s : Host) → Follows (image_run image limits) s (host_step image limits s)
host-follows image limits s = go (to_poll 16777216 s) (way-keeps 16777216 s)
  where
    go : (r : Reached) → Keeps s r → Follows (image_run image limits) s (at_poll image limits r)
    go (At_poll t) same = chosen-follows image limits s t same (choice t.order (not (reg t.hart 10 == 0)) (length t.pending))
    go (Stopped how t) same = ap (λ (x : List (ℕ × ℕ) × ℕ). x.0) same
