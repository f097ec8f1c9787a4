-- When an event may come, test by test.
use Rattle.std.proofs.Common.{◌≡◌, ℕ, ◌<◌, ◌≤◌, Bool, true, false, not, None, is_none, length, nat_lt, refl, sym, ap, ◌∙◌, arith, true≢false}
use Rattle.tam_word.specs.Lists.{has}
use Rattle.tam_word.proofs.Tests.{true-both, and-left, and-right, below-test, test-below, not-true}
use Rattle.tam_graph.specs.Graphs.{Graph}
use Rattle.tam_split.specs.GraphPartitions.{Partitions}
use Rattle.tam_flow.specs.Journals.{State, Run, Deliver, parts_of_act, may_run, may_arrive, may_follow}
use Rattle.tam_flow.proofs.SoundStates.{IsRunnable, runnable}

-- what isn't true is false
pub not-so : (b : Bool) → (b ≡ true → ⊥) → b ≡ false
not-so true h = absurd (h refl)
not-so false h = refl

module _ (g : Graph) (all : Partitions) (s : State) where
  module _ (i b c : ℕ) where
    -- a class may run where all tests hold
    pub follows-run : s.fault ≡ None → IsRunnable g all s i b c → may_follow g all s (Run i b c) ≡ true
    follows-run whole r =
        true-both _ _ (ap is_none whole) (true-both _ _ (below-test i (length s.world.activations) r.there)
        (true-both _ _ (below-test c (length (parts_of_act g all s i b)) r.class) (true-both _ _ (ap not r.once)
        (true-both _ _ r.open_block (true-both _ _ r.inlets r.before)))))

    -- and doesn't where one fails
    pub no-run : (IsRunnable g all s i b c → ⊥) → may_follow g all s (Run i b c) ≡ false
    no-run none = not-so (may_follow g all s (Run i b c)) (λ h. none (runnable g all s i b c (and-right (is_none s.fault) (may_run g all s i b c) h)))

    -- nor behind a fault
    pub no-run_more : is_none s.fault ≡ false → may_follow g all s (Run i b c) ≡ false
    no-run_more over = not-so (may_follow g all s (Run i b c)) (λ h. true≢false (sym (and-left (is_none s.fault) (may_run g all s i b c) h) ∙ over))

  module _ (m : ℕ) where
    -- a message may arrive where it was sent and hasn't arrived
    pub follows-delivery : is_none s.fault ≡ true → m < length s.sent → has s.arrived m ≡ false → may_follow g all s (Deliver m) ≡ true
    follows-delivery whole sent new = true-both _ _ whole (true-both _ _ (below-test m (length s.sent) sent) (ap not new))

    -- and doesn't behind a fault
    pub no-delivery_more : is_none s.fault ≡ false → may_follow g all s (Deliver m) ≡ false
    no-delivery_more over = not-so (may_follow g all s (Deliver m)) (λ h. true≢false (sym (and-left (is_none s.fault) (may_arrive s m) h) ∙ over))

    -- nor before it was sent
    pub no-delivery_sent : length s.sent ≤ m → may_follow g all s (Deliver m) ≡ false
    no-delivery_sent past =
        not-so (may_follow g all s (Deliver m)) (λ h. absurd (omega (
          arith,
          past,
          test-below m (length s.sent) (and-left (nat_lt m (length s.sent)) (not (has s.arrived m))
              (and-right (is_none s.fault) (may_arrive s m) h)),
        )))

    -- nor twice
    pub no-delivery_twice : has s.arrived m ≡ true → may_follow g all s (Deliver m) ≡ false
    no-delivery_twice twice =
        not-so (may_follow g all s (Deliver m)) (λ h. true≢false (sym twice ∙ not-true (has s.arrived m)
        (and-right (nat_lt m (length s.sent)) (not (has s.arrived m)) (and-right (is_none s.fault) (may_arrive s m) h))))
