-- One step on the way to the poll, by what it comes to.
use Rattle.std.proofs.Common.{◌≡◌, ◌≢◌, ℕ, zero, suc, ◌<◌, ◌≤◌, ◌==◌, Bool, true, false, List, [], ◌∷◌, ◌++◌, length, refl, sym, subst, arith}
use Rattle.std.proofs.lemmas.List.{length_push}
use Rattle.tam_word.specs.Lists.{has}
use Rattle.tam_word.proofs.Tests.{differs-number}
use Rattle.tam_msgs.specs.declared.message.Message.{Message}
use Rattle.tam_msgs.specs.Runs.{Wild_frame, Wild_ecall, Wild, Trap}
use Rattle.rv_inst.specs.declared.trap_cause.TrapCause.{TrapCause}
use Rattle.rv_inst.specs.Traps.{trap_text}
use Rattle.rv_inst.specs.Harts.{Hart, Step, Done, Called, Trapped, reg}
use Rattle.rv_inst.specs.Execution.{hart_step}
use Rattle.rv_keep.specs.Hosts.{Host, Reached, At_poll, Stopped, with_hart, with_given, sent_by, silent, to_poll}
use Rattle.rv_host.specs.HostEvents.{pending_at}

-- the host's state with the machine's, and a message more on its way
abbrev pub with_sent : Host → Hart → Message → Host
with_sent s g x = record s { hart = g; pending = s.pending ++ x ∷ [] }

module _ (n : ℕ) (s : Host) where
  -- a step that is done
  pub step-done : (g : Hart) → hart_step s.hart ≡ Done g → to_poll (suc n) s ≡ to_poll n (with_hart s g)
  step-done g e = rw (to_poll, e) refl

  -- a trap
  pub step-traps : (pc : ℕ) (cause : TrapCause) → hart_step s.hart ≡ Trapped pc cause → to_poll (suc n) s ≡ Stopped (Trap pc (trap_text cause)) s
  step-traps pc cause e = rw (to_poll, e) refl

  module _ (g : Hart) (called : hart_step s.hart ≡ Called g) where
    -- a poll
    pub step-polls : reg g 17 ≡ 0 → to_poll (suc n) s ≡ At_poll (with_hart s g)
    step-polls r = rw (to_poll, called) (rw (r) refl)

    -- a call that sends
    pub step-sends : (call : ℕ) (x : Message) (xs : List Message) → reg g 17 ≡ call → call ≢ 0 → sent_by call g ≡ x ∷ xs
        → to_poll (suc n) s ≡ to_poll n (with_sent s g x)
    step-sends zero x xs r d e = absurd (d refl)
    step-sends (suc call) x xs r d e = rw (to_poll, called) (rw (r, e) refl)

    -- one that is none
    pub step-unknown : (call : ℕ) → reg g 17 ≡ call → call ≢ 0 → sent_by call g ≡ [] → call ≢ 6
        → to_poll (suc n) s ≡ Stopped (Wild Wild_ecall call) (with_hart s g)
    step-unknown zero r d e u = absurd (d refl)
    step-unknown (suc call) r d e u = rw (to_poll, called) (rw (r, e) (rw (silent, differs-number (suc call) 6 u) refl))

    -- one that gives a number back
    pub step-gives : reg g 17 ≡ 6 → has s.live (reg g 10) ≡ true → to_poll (suc n) s ≡ to_poll n (with_given s g (reg g 10))
    step-gives r l = rw (to_poll, called) (rw r (rw (silent, l) refl))

    -- where it isn't live
    pub step-gives_none : reg g 17 ≡ 6 → has s.live (reg g 10) ≡ false → to_poll (suc n) s ≡ Stopped (Wild Wild_frame (reg g 10)) (with_hart s g)
    step-gives_none r l = rw (to_poll, called) (rw r (rw (silent, l) refl))

-- ---- no message is lost on the way

-- at least as many are pending
abbrev AtLeast : Host → Reached → Type 0
AtLeast s r = length s.pending ≤ length (pending_at r)

module _ (n : ℕ) (s : Host) (rest : (t : Host) → AtLeast t (to_poll n t)) where
  -- behind a call that sends nothing
  silent-grows : (g : Hart) (call : ℕ) → hart_step s.hart ≡ Called g → reg g 17 ≡ suc call → sent_by (suc call) g ≡ [] → AtLeast s (to_poll (suc n) s)
  silent-grows g call e r m = go (suc call == 6) refl (has s.live (reg g 10)) refl
    where
      go : (t : Bool) → (suc call == 6) ≡ t → (b : Bool) → has s.live (reg g 10) ≡ b → AtLeast s (to_poll (suc n) s)
      go false q b l = rw (to_poll, e) (rw (r, m) (rw (silent, q) (omega arith)))
      go true q false l = rw (to_poll, e) (rw (r, m) (rw (silent, q, l) (omega arith)))
      go true q true l = rw (to_poll, e) (rw (r, m) (rw (silent, q, l) (rest (with_given s g (reg g 10)))))

  -- behind a call
  called-grows : (g : Hart) → hart_step s.hart ≡ Called g → (call : ℕ) → reg g 17 ≡ call → (ms : List Message) → sent_by call g ≡ ms
      → AtLeast s (to_poll (suc n) s)
  called-grows g e zero r ms m = subst (AtLeast s) (sym (step-polls n s g e r)) (omega arith)
  called-grows g e (suc call) r [] m = silent-grows g call e r m
  called-grows g e (suc call) r (x ∷ xs) m =
      let k = length_push s.pending x in
      let l = rest (with_sent s g x) in
      subst (AtLeast s) (sym (step-sends n s g e (suc call) x xs r (λ z. absurd cc) m)) (omega (arith, k, l))

  -- behind a step
  step-grows : (x : Step) → hart_step s.hart ≡ x → AtLeast s (to_poll (suc n) s)
  step-grows (Done g) e = subst (AtLeast s) (sym (step-done n s g e)) (rest (with_hart s g))
  step-grows (Called g) e = called-grows g e (reg g 17) refl (sent_by (reg g 17) g) refl
  step-grows (Trapped pc cause) e = subst (AtLeast s) (sym (step-traps n s pc cause e)) (omega arith)

-- and so on the whole way
pub way-grows : (n : ℕ) (s : Host) → length s.pending ≤ length (pending_at (to_poll n s))
way-grows zero s = omega arith
way-grows (suc n) s = step-grows n s (λ t. way-grows n t) (hart_step s.hart) refl

-- a call that sends makes them more
pub sends-more : (n : ℕ) (s : Host) (g : Hart) → hart_step s.hart ≡ Called g → (call : ℕ) (x : Message) (xs : List Message) → reg g 17 ≡ call → call ≢ 0
    → sent_by call g ≡ x ∷ xs → length s.pending < length (pending_at (to_poll (suc n) s))
sends-more n s g called call x xs r d e =
    let k = length_push s.pending x in
    let l = way-grows n (with_sent s g x) in
    subst (λ (p : Reached). length s.pending < length (pending_at p)) (sym (step-sends n s g called call x xs r d e)) (omega (arith, k, l))
