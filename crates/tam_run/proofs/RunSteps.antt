-- A run followed event by event, whatever its states: what is printed only grows, and each event is counted, until the end.
use Rattle.std.proofs.Common.{◌≡◌, ◌≢◌, ◌+◌, ◌-◌, ℕ, zero, suc, List, [], ◌++◌, refl, sym, ◌∙◌, ap, subst, append_assoc, arith}
use Rattle.std.proofs.lemmas.List.{append-nil}
use Rattle.std.specs.Prelude.{Result, Ok, Err, IsErrAnd}
use Rattle.tam_msgs.specs.Runs.{End, Outcome, Next, Ended, run_from}
use Rattle.tam_run.specs.Accounts.{Account, account_of}
use Rattle.tam_run.specs.Telling.{Run, room_of, end_account, account_from, Tells, stand_in, GoesOn, EndsSo, TellsMore}

-- the event printed further words behind those before, and was one more, which the budget had room for
pub record WentOn {S : Type 0} (run : Run S) (s t : S) : Type 0 where
  pub more : List (ℕ × ℕ)
  pub printed : run.printed t ≡ run.printed s ++ more
  pub counted : (run.counts t).events ≡ (run.counts s).events + 1
  pub room : (run.counts s).events ≢ run.budget

-- what an outcome is to the state before it
abbrev pub Follows : {S : Type 0} → Run S → S → Outcome S → Type 0
Follows run s (Next t) = WentOn run s t
Follows run s (Ended how t) = run.printed t ≡ run.printed s

-- further words behind further words
more-behind : (a b c xs ys : List (ℕ × ℕ)) → b ≡ a ++ xs → c ≡ b ++ ys → c ≡ a ++ (xs ++ ys)
more-behind a b c xs ys p q = q ∙ ap (λ l. l ++ ys) p ∙ append_assoc a xs ys

module _ (S : Type 0) (run : Run S) (follows : (s : S) → Follows run s (run.step s)) where
  -- a step that goes on
  next-follows : (s t : S) → run.step s ≡ Next t → WentOn run s t
  next-follows s t e = subst (Follows run s) e (follows s)

  -- a step that ends
  ended-follows : (s t : S) (how : End) → run.step s ≡ Ended how t → run.printed t ≡ run.printed s
  ended-follows s t how e = subst (Follows run s) e (follows s)

  -- a run goes on with the state behind a step
  run-next : (n : ℕ) (s t : S) → run.step s ≡ Next t → run_from run.step (suc n) s ≡ run_from run.step n t
  run-next n s t e = rw (run_from, e) refl

  -- and ends where a step ends
  run-ended : (n : ℕ) (s t : S) (how : End) → run.step s ≡ Ended how t → run_from run.step n s ≡ (how, t)
  run-ended n s t how e = rw (run_from, e) refl

  -- a run without a further event keeps what a step that goes on is made from
  run-spent : (s t : S) → run.step s ≡ Next t → run.printed (run_from run.step zero s).1 ≡ run.printed t
  run-spent s t e = rw (run_from, e) refl

  -- what a run printed at its end begins with what it printed before
  run-prints : (n : ℕ) (s : S) → (more : List (ℕ × ℕ)) × (run.printed (run_from run.step n s).1 ≡ run.printed s ++ more)
  run-prints zero s = go (run.step s) refl
    where
      go : (o : Outcome S) → run.step s ≡ o → (more : List (ℕ × ℕ)) × (run.printed (run_from run.step zero s).1 ≡ run.printed s ++ more)
      go (Ended how t) e = (
        [],
        ap (λ (r : End × S). run.printed r.1) (run-ended zero s t how e) ∙ ended-follows s t how e ∙ sym (append-nil (run.printed s)),
      )
      go (Next t) e = let on = next-follows s t e in (on.more, run-spent s t e ∙ on.printed)
  run-prints (suc n) s = go (run.step s) refl (run-prints n)
    where
      go : (o : Outcome S) → run.step s ≡ o
          → ((t : S) → (more : List (ℕ × ℕ)) × (run.printed (run_from run.step n t).1 ≡ run.printed t ++ more))
          → (more : List (ℕ × ℕ)) × (run.printed (run_from run.step (suc n) s).1 ≡ run.printed s ++ more)
      go (Ended how t) e later = (
        [],
        ap (λ (r : End × S). run.printed r.1) (run-ended (suc n) s t how e) ∙ ended-follows s t how e ∙ sym (append-nil (run.printed s)),
      )
      go (Next t) e later =
          let on = next-follows s t e in
          let l = later t in (
            on.more ++ l.0,
            ap (λ (r : End × S). run.printed r.1) (run-next n s t e) ∙ more-behind (run.printed s) (run.printed t) _ on.more l.0 on.printed l.1,
          )

  -- what was printed is a prefix of what is told
  pub tells-more : (s : S) (a : Account) → Tells run s a → TellsMore a (run.printed s)
  tells-more s a t =
      let p = run-prints (room_of run s) s in
      (p.0, ap (λ (b : Account). b.report.printed) t.told ∙ p.1)

  -- a step goes on with the run: it tells the same, within the budget, and has room for one event less
  pub goes-on : (s t : S) (a : Account) → Tells run s a → run.step s ≡ Next t → GoesOn (Tells run t a) (stand_in run s) (stand_in run t)
  goes-on s t a tells e =
      let on = next-follows s t e in
      let few = tells.few in
      let same : run.budget - (run.counts s).events ≡ suc (run.budget - (run.counts t).events) = omega (arith, on.counted, on.room, few) in
      let told : account_from run s ≡ account_from run t =
      ap (λ n. end_account run (run_from run.step n s)) same ∙ ap (end_account run) (run-next (room_of run t) s t e) in
      record {
        told = record { few = omega (arith, on.counted, on.room, few); told = tells.told ∙ told };
        less = omega (arith, on.counted, on.room, few);
      }

  -- and where a step ends, the run ended so
  pub ends-so : (s t : S) (how : End) (a : Account) → Tells run s a → run.step s ≡ Ended how t → EndsSo (stand_in run t) (run.printed t) a how
  ends-so s t how a tells e = is ∙ ap (λ n. account_of (run.printed t) how n (run.counts t) (run.machine t)) (sym (ap (λ (b : Account). b.report.results) is))
    where
      is : a ≡ account_of (run.printed t) how run.results (run.counts t) (run.machine t)
      is = tells.told ∙ ap (end_account run) (run-ended (room_of run s) s t how e)

-- what a whole run tells, whose first state has counted no event, is told from there on
pub tells-whole : (S : Type 0) (run : Run S) (s : S) → (run.counts s).events ≡ 0 → Tells run s (end_account run (run_from run.step run.budget s))
tells-whole S run s none =
    let all : run.budget - (run.counts s).events ≡ run.budget = omega (arith, none) in record {
      few = omega (arith, none);
      told = ap (λ n. end_account run (run_from run.step n s)) (sym all);
    }

-- `main` has as many results in what is told
pub told-results : {S : Type 0} (run : Run S) (s : S) (a : Account) → Tells run s a → a.report.results ≡ run.results
told-results run s a tells = ap (λ (b : Account). b.report.results) tells.told

-- an answer that is known to be an error of this kind
pub error-is : {T E : Type 0} (r : Result T E) (e : E) → IsErrAnd r (λ x. x ≡ e) → r ≡ Err e
error-is (Ok x) e h = absurd h
error-is (Err x) e h = ap (λ y. Err y) h
