-- A cond that fires enters a branch; a switch gives a word to a branch, and a leave gives one back: each has its reason.
use Rattle.std.proofs.Common.{◌≡◌, ℕ, zero, suc, ◌<◌, true, ◌==◌, ◌&&◌, List, [], ◌∷◌, Option, Some, None, length}
use Rattle.std.proofs.Common.{slice_get, nat_lt, refl, sym, ap, ◌∙◌, subst}
use Rattle.std.specs.List.{AllByRecursion}
use Rattle.tam_graph.specs.Written.{is_operand, is_cond_node}
use Rattle.tam_graph.specs.declared.kind.Kind.TheVariants.{Cond, Switch, Merge}
use Rattle.tam_graph.specs.declared.kind.Kind.TheVariants.{Enter, Leave}
use Rattle.tam_graph.specs.Graphs.{Graph, code_of, kind_at, block_at, depth_at, chosen_branch, branch_of_kind, test_of}
use Rattle.tam_graph.specs.Graphs.{test_of_kind, owner_of, node_where, node_in, is_merge, is_enter}
use Rattle.tam_graph.specs.Accepted.{all_depths, both_enter_depth, enters_depth}
use Rattle.tam_fire.specs.FiringRules.{Value, Word, Val, Fired, Holds, the_code}
use Rattle.tam_fire.specs.FiringRules.{cond_enters, switch_comes, out_comes}
use Rattle.tam_fire.proofs.Following.{holds-by}
use Rattle.tam_world.specs.Worlds.{World, changes, entered, all_got, activation_at, its_code, word_of, merges_of}
use Rattle.tam_flow.specs.Told.{path_of}
use Rattle.tam_word.proofs.Tests.{and-left, and-right, number-eq, below-test}
use Rattle.tam_word.proofs.Each.{all-of_each, all-more, all-flat}
use Rattle.tam_flow.proofs.Growing.{grows-entered}
use Rattle.tam_flow.proofs.Justified.{StandsFor, IsValue}
use Rattle.tam_flow.proofs.Changes.{BlockHolds, sound-entered}
use Rattle.tam_flow.proofs.Deliveries.{IsSoundEffect}
use Rattle.tam_flow.proofs.Nodes.{operand, cond-operand, where-each, in-each, all-depths, enters-depth, line}
use Rattle.tam_flow.proofs.Nodes.{is-merge, is-enter}
use Rattle.tam_graph.proofs.BranchBlocks.{branches-below}
use Rattle.tam_flow.proofs.FiringReasons.{HaveThese, MayFire, sound-all_got, path-code, node, right, any-operand}
use Rattle.tam_flow.proofs.FiringReasons.{word-operand, a-value, fires, its_line}

module _ {g : Graph} {args : List ℕ} {w : World} {i x : ℕ} (firer : MayFire g args w i x) where
  -- a cond enters the branch that its word chooses
  pub fire-cond : (p y n v : ℕ) → kind_at (its_code g w i) x ≡ Cond p y n → HaveThese w i (p ∷ []) (v ∷ [])
      → IsSoundEffect g args w (changes (entered w i (chosen_branch (its_code g w i) x v)))
  fire-cond p y n v e h = record {
    world = sound-entered g args w i (chosen_branch (its_code g w i) x v) firer.stands.sound
        (subst (λ m. BlockHolds g args (path_of w i) (chosen_branch (code_of g m) x v)) (path-code firer.stands) opens);
    grows = grows-entered w i (chosen_branch (its_code g w i) x v);
    sends = tt;
  }
    where
      test : Holds g args (Val (path_of w i) p (Word v))
      test = word-operand firer.stands p v
          (operand (its_code g w i) p (all-of_each (is_operand (its_code g w i)) (p ∷ []) (its_line firer (Cond p y n) e)).0).no_call
          (number-eq (depth_at (its_code g w i) p) 0 (right firer.stands x (Cond p y n) firer.inside e)) h.0

      both : (y < length (its_code g w i).owners) × (n < length (its_code g w i).owners)
      both = branches-below (length g.codes) (its_code g w i)
          (firer.stands.accepted.written (activation_at w i).code (below-test _ _ (firer.stands.sound.codes i firer.stands.there))) x p y n firer.inside e

      below-branch : (u : ℕ) → branch_of_kind (Cond p y n) u < length (its_code g w i).owners
      below-branch zero = both.1
      below-branch (suc u) = both.0

      small : chosen_branch (its_code g w i) x v < length (its_code g w i).owners
      small = subst (λ k. branch_of_kind k v < length (its_code g w i).owners) (sym e) (below-branch v)

      opens : BlockHolds g args (path_of w i) (chosen_branch (the_code g (path_of w i)) x v)
      opens = (
        holds-by g args (cond_enters (node firer.stands x ∙ e)) (fires firer (Cond p y n) (Word v ∷ []) e refl refl (test, tt), tt),
        subst (λ m. chosen_branch (code_of g m) x v < length (code_of g m).owners) (sym (path-code firer.stands)) small,
      )

  -- a switch sends its word to the enter of its place in the branch chosen
  pub fire-switch : (d k a u v : ℕ) → kind_at (its_code g w i) x ≡ Switch d k a → HaveThese w i (test_of (its_code g w i) d ∷ a ∷ []) (u ∷ v ∷ [])
      → IsSoundEffect g args w (changes (all_got w i (node_in (its_code g w i) (chosen_branch (its_code g w i) d u) (is_enter k)) v))
  fire-switch d k a u v e h =
      sound-all_got w i (node_in (its_code g w i) (chosen_branch (its_code g w i) d u) (is_enter k)) v firer.stands.sound firer.stands.there
      (all-more (λ y. ((y < length (its_code g w i).nodes) × ((block_at (its_code g w i) y == chosen_branch (its_code g w i) d u) ≡ true)) ×
      (is_enter k (kind_at (its_code g w i) y) ≡ true))
      (λ y. IsValue g args w (path_of w i) y v) each (node_in (its_code g w i) (chosen_branch (its_code g w i) d u) (is_enter k))
      (in-each (its_code g w i) (chosen_branch (its_code g w i) d u) (is_enter k)))
    where
      cond : (d < length (its_code g w i).nodes) × ((p y n : ℕ) × (kind_at (its_code g w i) d ≡ Cond p y n))
      cond = cond-operand (its_code g w i) d
          (and-left (is_cond_node (its_code g w i) d) (is_operand (its_code g w i) a && nat_lt k 64) (its_line firer (Switch d k a) e))

      value : (y : Value) × StandsFor g w (depth_at (its_code g w i) a) v y × Holds g args (Val (path_of w i) a y)
      value = any-operand firer.stands a v (operand (its_code g w i) a (and-left (is_operand (its_code g w i) a) (nat_lt k 64)
          (and-right (is_cond_node (its_code g w i) d) (is_operand (its_code g w i) a && nat_lt k 64) (its_line firer (Switch d k a) e)))).no_call h.1.0

      tested : test_of (its_code g w i) d ≡ cond.1.0
      tested = ap test_of_kind cond.1.3

      test : Holds g args (Val (path_of w i) (test_of (its_code g w i) d) (Word u))
      test = subst (λ p. word_of w i p ≡ u ∷ [] → Holds g args (Val (path_of w i) p (Word u))) (sym tested)
          (λ q. word-operand firer.stands cond.1.0 u (operand (its_code g w i) cond.1.0 (all-of_each (is_operand (its_code g w i)) (cond.1.0 ∷ [])
          (line g firer.stands.accepted (activation_at w i).code (firer.stands.sound.codes i firer.stands.there) d
          (Cond cond.1.0 cond.1.1 cond.1.2) cond.0 cond.1.3)).0).no_call
          (number-eq (depth_at (its_code g w i) cond.1.0) 0 (right firer.stands d (Cond cond.1.0 cond.1.1 cond.1.2) cond.0 cond.1.3)) q) h.0

      sent : Holds g args (Fired (path_of w i) x (Word u ∷ value.0 ∷ []))
      sent = fires firer (Switch d k a) (Word u ∷ value.0 ∷ []) e refl refl (test, (value.2, tt))

      both : (enters_depth (its_code g w i) k (depth_at (its_code g w i) a) cond.1.1 && enters_depth (its_code g w i) k
          (depth_at (its_code g w i) a) cond.1.2) ≡ true
      both = subst (λ c. both_enter_depth (its_code g w i) k (depth_at (its_code g w i) a) c ≡ true) cond.1.3
          (right firer.stands x (Switch d k a) firer.inside e)

      branch-depth : (n : ℕ) → enters_depth (its_code g w i) k (depth_at (its_code g w i) a) (branch_of_kind (Cond cond.1.0 cond.1.1 cond.1.2) n) ≡ true
      branch-depth zero = and-right (enters_depth (its_code g w i) k (depth_at (its_code g w i) a) cond.1.1)
          (enters_depth (its_code g w i) k (depth_at (its_code g w i) a) cond.1.2) both
      branch-depth (suc n) = and-left (enters_depth (its_code g w i) k (depth_at (its_code g w i) a) cond.1.1)
          (enters_depth (its_code g w i) k (depth_at (its_code g w i) a) cond.1.2) both

      deep : enters_depth (its_code g w i) k (depth_at (its_code g w i) a) (chosen_branch (its_code g w i) d u) ≡ true
      deep = subst (λ c. enters_depth (its_code g w i) k (depth_at (its_code g w i) a) (branch_of_kind c u) ≡ true) (sym cond.1.3) (branch-depth u)

      each : (y : ℕ) → ((y < length (its_code g w i).nodes) × ((block_at (its_code g w i) y == chosen_branch (its_code g w i) d u) ≡ true))
          × (is_enter k (kind_at (its_code g w i) y) ≡ true) → IsValue g args w (path_of w i) y v
      each y m =
          let kind : kind_at (its_code g w i) y ≡ Enter k = is-enter k _ m.1 in
          let block : block_at (its_code g w i) y ≡ chosen_branch (its_code g w i) d u = number-eq _ _ m.0.1 in
          let same : depth_at (its_code g w i) y ≡ depth_at (its_code g w i) a =
          enters-depth (its_code g w i) k (depth_at (its_code g w i) a) (chosen_branch (its_code g w i) d u) y deep m.0.0 m.0.1 m.1 in
          a-value firer.stands y v value.0 (Enter k) kind refl (subst (λ n. StandsFor g w n v value.0) (sym same) value.1)
          (holds-by g args (switch_comes {w = u} {v = value.0} (node firer.stands x ∙ e) (node firer.stands y ∙ kind)
          (subst (λ m. block_at (code_of g m) y ≡ chosen_branch (code_of g m) d u) (sym (path-code firer.stands)) block)) (sent, tt))

  -- a leave sends its word to the merge of its place
  pub fire-leave : (k a v : ℕ) → kind_at (its_code g w i) x ≡ Leave k a → HaveThese w i (a ∷ []) (v ∷ [])
      → IsSoundEffect g args w (changes (all_got w i (merges_of (its_code g w i) k (owner_of (its_code g w i) (block_at (its_code g w i) x))) v))
  fire-leave k a v e h =
      sound-all_got w i (merges_of (its_code g w i) k (owner_of (its_code g w i) (block_at (its_code g w i) x))) v firer.stands.sound firer.stands.there
      (all-flat (λ y. IsValue g args w (path_of w i) y v) (λ d. node_where (its_code g w i) (is_merge d k))
      (owner_of (its_code g w i) (block_at (its_code g w i) x))
      (owners (slice_get (its_code g w i).owners (block_at (its_code g w i) x)) refl
      (all-of_each (λ d. all_depths (its_code g w i) (is_merge d k) (depth_at (its_code g w i) a))
      (owner_of (its_code g w i) (block_at (its_code g w i) x)) (right firer.stands x (Leave k a) firer.inside e))))
    where
      value : (y : Value) × StandsFor g w (depth_at (its_code g w i) a) v y × Holds g args (Val (path_of w i) a y)
      value = any-operand firer.stands a v
          (operand (its_code g w i) a (and-left (is_operand (its_code g w i) a) (nat_lt k 64) (its_line firer (Leave k a) e))).no_call h.0

      sent : Holds g args (Fired (path_of w i) x (value.0 ∷ []))
      sent = fires firer (Leave k a) (value.0 ∷ []) e refl refl (value.2, tt)

      each : (d : ℕ) → slice_get (its_code g w i).owners (block_at (its_code g w i) x) ≡ Some (Some d)
          → all_depths (its_code g w i) (is_merge d k) (depth_at (its_code g w i) a) ≡ true
          → (y : ℕ) → (y < length (its_code g w i).nodes) × (is_merge d k (kind_at (its_code g w i) y) ≡ true) → IsValue g args w (path_of w i) y v
      each d o l y m =
          let kind : kind_at (its_code g w i) y ≡ Merge d k = is-merge d k _ m.1 in
          a-value firer.stands y v value.0 (Merge d k) kind refl
          (subst (λ n. StandsFor g w n v value.0) (sym (all-depths (its_code g w i) (is_merge d k) (depth_at (its_code g w i) a) y l m.0 m.1)) value.1)
          (holds-by g args (out_comes {v = value.0} (node firer.stands x ∙ e)
          (subst (λ m. slice_get (code_of g m).owners (block_at (code_of g m) x) ≡ Some (Some d)) (sym (path-code firer.stands)) o)
          (node firer.stands y ∙ kind)) (sent, tt))

      owners : (o : Option (Option ℕ)) → slice_get (its_code g w i).owners (block_at (its_code g w i) x) ≡ o
          → AllByRecursion (λ d. all_depths (its_code g w i) (is_merge d k) (depth_at (its_code g w i) a) ≡ true)
          (owner_of (its_code g w i) (block_at (its_code g w i) x))
          → AllByRecursion (λ d. AllByRecursion (λ y. IsValue g args w (path_of w i) y v) (node_where (its_code g w i) (is_merge d k)))
          (owner_of (its_code g w i) (block_at (its_code g w i) x))
      owners None o l = rw (owner_of, o) tt
      owners (Some None) o l = rw (owner_of, o) tt
      owners (Some (Some d)) o l =
          let r = rw (owner_of, o) at l in
          rw (owner_of, o) (
            all-more (λ y. (y < length (its_code g w i).nodes) × (is_merge d k (kind_at (its_code g w i) y) ≡ true))
                (λ y. IsValue g args w (path_of w i) y v) (each d o r.0)
                (node_where (its_code g w i) (is_merge d k)) (where-each (its_code g w i) (is_merge d k)),
            tt,
          )
