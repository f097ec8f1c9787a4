-- Parts of the invariant that each state behind a legal journal has.
use Rattle.std.proofs.Common.{◌≡◌, ℕ, zero, suc, ◌+◌, ◌<◌, Bool, true, false, ◌==◌, List, [], ◌∷◌, ◌++◌, Option, Some, None, length, slice_get, refl, sym, ap}
use Rattle.std.proofs.Common.{◌∙◌, arith, subst, inl, inr, ⊎_elim}
use Rattle.std.proofs.lemmas.List.{length-append}
use Rattle.tam_msgs.specs.declared.message.Message.TheVariants.{Frame as Begin}
use Rattle.tam_msgs.specs.Messages.{outside}
use Rattle.tam_graph.specs.declared.kind.Kind.TheVariants.{Call}
use Rattle.tam_graph.specs.Graphs.{Graph, code_of, kind_at, callee_of_kind}
use Rattle.tam_split.specs.GraphPartitions.{Partitions}
use Rattle.tam_fire.specs.FiringRules.{Path, code_at, node_of}
use Rattle.tam_world.specs.Worlds.{World, ActivationState, or_activation, activation_at}
use Rattle.tam_flow.specs.Journals.{State}
use Rattle.tam_flow.specs.Told.{path_of, paths_behind, or_path}
use Rattle.tam_flow.specs.Reached.{IsThere, kind_of, ActivationsStand}
use Rattle.tam_word.proofs.Each.{get-left, get-last, all-at_place}
use Rattle.tam_flow.proofs.Growing.{path_behind}
use Rattle.tam_flow.proofs.Justified.{IsMessage}
use Rattle.tam_flow.proofs.CellChanges.{none-some, some-eq}
use Rattle.tam_flow.proofs.Deliveries.{there-some}
use Rattle.tam_flow.proofs.SoundStates.{IsSoundState}
use Rattle.tam_flow.proofs.SentOnce.{IsOnceState, IsBegunBy, cons-tail, nil-cons}
use Rattle.tam_word.proofs.Tests.{number-eq}

-- paths that are known stay in front
paths-prefix : (known : List Path) (xs : List ActivationState) (n : ℕ) → n < length known → slice_get (paths_behind known xs) n ≡ slice_get known n
paths-prefix known [] n l = refl
paths-prefix known (x ∷ xs) n l =
    paths-prefix (known ++ path_behind known x ∷ []) xs n (omega (arith, length-append known (path_behind known x ∷ []), l))
    ∙ get-left known (path_behind known x ∷ []) n l

-- the path of an activation whose caller is the outside is empty
outside-path : (known : List Path) (xs : List ActivationState) (j : ℕ) (a : ActivationState) → slice_get xs j ≡ Some a → (a.caller == outside) ≡ true
    → or_path (slice_get (paths_behind known xs) (length known + j)) ≡ []
outside-path known [] j a e o = absurd (none-some e)
outside-path known (x ∷ xs) zero a e o =
    let here : length known + 0 ≡ length known = omega arith in
    let same : x ≡ a = some-eq e in
    let less : length known < length (known ++ path_behind known x ∷ []) = omega (arith, length-append known (path_behind known x ∷ [])) in
    subst (λ n. or_path (slice_get (paths_behind (known ++ path_behind known x ∷ []) xs) n) ≡ []) (sym here)
    (ap or_path (paths-prefix (known ++ path_behind known x ∷ []) xs (length known) less ∙ get-last known (path_behind known x))
    ∙ empty known x (subst (λ b. (b.caller == outside) ≡ true) (sym same) o))
  where
    empty : (known : List Path) (b : ActivationState) → (b.caller == outside) ≡ true → path_behind known b ≡ []
    empty known b k = rw (path_behind, k) refl
outside-path known (x ∷ xs) (suc j) a e o =
    let n : length (known ++ path_behind known x ∷ []) + j ≡ length known + suc j = omega (arith, length-append known (path_behind known x ∷ [])) in
    subst (λ m. or_path (slice_get (paths_behind (known ++ path_behind known x ∷ []) xs) m) ≡ []) n
    (outside-path (known ++ path_behind known x ∷ []) xs j a e o)

-- what the outside began has the root's path
outside-root : (w : World) (j : ℕ) → IsThere w j → ((activation_at w j).caller == outside) ≡ true → path_of w j ≡ []
outside-root w j t o = go (slice_get w.activations j) refl
  where
    go : (a : Option ActivationState) → slice_get w.activations j ≡ a → path_of w j ≡ []
    go None e = absurd (there-some w.activations j t e)
    go (Some a) e =
        let n : 0 + j ≡ j = omega arith in
        subst (λ m. or_path (slice_get (paths_behind [] w.activations) m) ≡ []) n
        (outside-path [] w.activations j a e (subst (λ b. ((or_activation b).caller == outside) ≡ true) e o))

module _ (g : Graph) (args : List ℕ) (all : Partitions) (s : State) (sound : IsSoundState g args s) (once : IsOnceState g args all s) where
  -- the root's path is empty
  pub root-path : path_of s.world 0 ≡ []
  root-path = ⊎_elim (λ e. e) (λ h. absurd (omega (arith, h.6))) (once.begun_by 0 once.some)

  -- a caller that isn't the outside is told by the path
  pub caller-path : (j f x : ℕ) → IsThere s.world j → IsThere s.world f → path_of s.world j ≡ x ∷ path_of s.world f
      → ((activation_at s.world j).caller ≡ f) × ((activation_at s.world j).call ≡ x)
  caller-path j f x t u e = go ((activation_at s.world j).caller == outside) refl
    where
      go : (b : Bool) → ((activation_at s.world j).caller == outside) ≡ b → ((activation_at s.world j).caller ≡ f) × ((activation_at s.world j).call ≡ x)
      go true o = absurd (nil-cons (sym (outside-root s.world j t o) ∙ e))
      go false o =
          let r = sound.world.callers j t o in
          let both = cons-tail (sym r.1 ∙ e) in
          (once.paths_differ (activation_at s.world j).caller f r.0 u both.1, both.0)

  -- an activation but the root was begun by a call of an earlier one
  record_of : (j : ℕ) → 0 < j → IsThere s.world j
      → ((activation_at s.world j).caller < j) ×
      (kind_of g s.world (activation_at s.world j).caller (activation_at s.world j).call ≡ Call (activation_at s.world j).code)
      × (path_of s.world j ≡ (activation_at s.world j).call ∷ path_of s.world (activation_at s.world j).caller)
  record_of j l t = go (once.begun_by j t)
    where
      go : IsBegunBy s j → ((activation_at s.world j).caller < j) ×
          (kind_of g s.world (activation_at s.world j).caller (activation_at s.world j).call ≡ Call (activation_at s.world j).code)
          × (path_of s.world j ≡ (activation_at s.world j).call ∷ path_of s.world (activation_at s.world j).caller)
      go (inl e) = absurd (zero-less (once.paths_differ j 0 t once.some (e ∙ sym root-path)))
        where
          zero-less : j ≡ 0 → ⊥
          zero-less k = absurd (omega (arith, k, l))
      go (inr h) =
          let there : IsThere s.world h.2 = omega (arith, h.6, t) in
          let by = caller-path j h.2 h.3 t there h.7 in
          let reason = all-at_place (IsMessage g args s.world) s.sent h.0 (Begin h.1 h.2 h.3) sound.sent h.4 in
          let calls : node_of g (path_of s.world h.2) h.3 ≡ Call h.1 = subst (λ q. node_of g q h.3 ≡ Call h.1) (sym reason.1.1) reason.2 in
          let kind : kind_of g s.world h.2 h.3 ≡ Call h.1 = sym (ap (λ n. kind_at (code_of g n) h.3) (sound.world.path_codes h.2 there)) ∙ calls in
          let code : h.1 ≡ (activation_at s.world j).code = sym (ap callee_of_kind calls) ∙ sym (ap (code_at g) h.7) ∙ sound.world.path_codes j t in
          rw (by.0, by.1) (h.6, kind ∙ ap Call code, h.7)

  -- the activations stand as the invariant says
  pub activations-stand : ActivationsStand g s.world
  activations-stand = record {
    root = once.some;
    root_outside = root ((activation_at s.world 0).caller == outside) refl;
    root_code = sym (sound.world.path_codes 0 once.some) ∙ ap (code_at g) root-path;
    root_path = root-path;
    callers = λ j l t. (record_of j l t).0;
    calls = λ j l t. (record_of j l t).1;
    paths = λ j l t. (record_of j l t).2;
    codes = sound.world.codes;
    path_codes = sound.world.path_codes;
    paths_differ = once.paths_differ;
    bodies = once.bodies;
    blocks = λ j b t h. subst (λ n. b < length (code_of g n).owners) (sound.world.path_codes j t) (sound.world.blocks j b t h).1;
  }
    where
      root : (b : Bool) → ((activation_at s.world 0).caller == outside) ≡ b → (activation_at s.world 0).caller ≡ outside
      root true o = number-eq _ _ o
      root false o = absurd (nil-cons (sym root-path ∙ (sound.world.callers 0 once.some o).1))
