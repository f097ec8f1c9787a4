-- A graph whose `main` has no nodes has room in limits of one activation and sixteen events: the premise of the law of room can be met.
use Rattle.std.proofs.Common.{◌≡◌, ℕ, ◌+◌, ◌*◌, ◌≤◌, List, [], ◌∷◌, length, refl, sym, ap, ◌∙◌, arith, subst, true≢false}
use Rattle.std.specs.List.{AllByRecursion}
use Rattle.tam_graph.specs.declared.kind.Kind.TheVariants.{Enter}
use Rattle.tam_graph.specs.ExampleGraphs.{nothing_graph}
use Rattle.tam_graph.specs.Graphs.{is_outlet}
use Rattle.tam_fire.specs.FiringRules.{Path, Fact, Begun, Entered, Val, Fired, Rule, body_is_entered, const_gives, op_gives, seq_gives, outlet_fires}
use Rattle.tam_fire.specs.FiringRules.{call_begins, call_answers, arg_comes, result_comes, alloc_answers, fetch_answers, cond_enters, switch_comes, out_comes}
use Rattle.tam_fire.specs.FiringRules.{Given, root_has_begun, param_has, Known, Holds, node_of, Instance, Giver, Firer, IsActive, Instances, Activations}
use Rattle.tam_fire.specs.FiringRules.{Asked, Allocs, cells_of}
use Rattle.tam_fire.proofs.Following.{holds-induction}
use Rattle.tam_msgs.specs.declared.limits.Limits.{Limits}
use Rattle.tam_run.specs.RightRuns.{HasRoom}

-- the root alone begins, and nothing has a value or fires
abbrev IsOfRoot : Fact → Type 0
IsOfRoot (Begun q) = q ≡ []
IsOfRoot (Entered q b) = q ≡ []
IsOfRoot (Val q x v) = ⊥
IsOfRoot (Fired q x vs) = ⊥

-- a node that isn't there is no other
no-node : (q : Path) (x : ℕ) → q ≡ [] → node_of nothing_graph q x ≡ Enter 0
no-node q x e = subst (λ p. node_of nothing_graph p x ≡ Enter 0) (sym e) refl

-- what is given is of the root
given-root : (fact : Fact) → Given nothing_graph [] fact → IsOfRoot fact
given-root fact root_has_begun = refl
given-root fact (param_has {x = x} e a) = absurd (cc)

-- and so is what a rule gives
rule-root : (from : List Fact) (fact : Fact) → Rule nothing_graph from fact → AllByRecursion (Holds nothing_graph []) from
    → AllByRecursion IsOfRoot from → IsOfRoot fact
rule-root from fact body_is_entered k h = h.0
rule-root from fact (const_gives {q = q} {x = x} e) k h = let n = no-node q x h.0 in absurd (cc)
rule-root from fact (op_gives e) k h = absurd (h.1.0)
rule-root from fact (seq_gives e) k h = absurd (h.1.0)
rule-root from fact (outlet_fires {q = q} {x = x} o l) k h = absurd (true≢false (sym o ∙ ap is_outlet (no-node q x h.0)))
rule-root from fact (call_begins e) k h = absurd (h.0)
rule-root from fact (call_answers e) k h = absurd (h.0)
rule-root from fact (arg_comes e d) k h = absurd (h.0)
rule-root from fact (result_comes e d) k h = absurd (h.0)
rule-root from fact (alloc_answers e) k h = absurd (h.0)
rule-root from fact (fetch_answers e d l) k h = absurd (h.0)
rule-root from fact (cond_enters e) k h = absurd (h.0)
rule-root from fact (switch_comes e d b) k h = absurd (h.0)
rule-root from fact (out_comes e d b) k h = absurd (h.0)

-- so is all that is known
known-root : (n : ℕ) (fact : Fact) → Known nothing_graph [] n fact → IsOfRoot fact
known-root = holds-induction nothing_graph [] IsOfRoot given-root rule-root

-- no instance is active
none-active : (n : ℕ) (x : Instance) → IsActive (Known nothing_graph [] n) x → ⊥
none-active n (Giver q x) h = known-root n (Val q x h.0) h.1
none-active n (Firer q x) h = known-root n (Fired q x h.0) h.1

-- one activation at most has begun
one-begun : (n : ℕ) (qs : List Path) → Activations (Known nothing_graph [] n) qs → length qs ≤ 1
one-begun n [] h = omega arith
one-begun n (p ∷ []) h = omega arith
one-begun n (p ∷ q ∷ qs) h =
    let first : p ≡ [] = known-root n (Begun p) (h.begun 0 p (omega arith)) in
    let second : q ≡ [] = known-root n (Begun q) (h.begun 1 p (omega arith)) in
    absurd (h.different 0 1 p (omega arith) (omega arith) (first ∙ sym second))

-- THE EXAMPLE
pub nothing-has_room : (limits : Limits) → 1 ≤ limits.frames → 16 ≤ limits.budget → HasRoom nothing_graph [] limits
nothing-has_room limits one enough = record {
  activations = λ n qs h. omega (arith, one-begun n qs h, one);
  aside = record {
    instances = instances;
    cells = cells;
    no_double = λ s t d. known-root d.first.0 _ d.first.1;
    no_outside = λ s i l d. known-root d.made.0 _ d.made.1;
  };
}
  where
    instances : (n : ℕ) (xs : List Instance) → Instances (Known nothing_graph [] n) xs → 4 * length xs + 16 ≤ limits.budget
    instances n [] h = omega (arith, enough)
    instances n (x ∷ xs) h = absurd (none-active n x (h.active 0 x (omega arith)))

    cells : (n : ℕ) (asks : List Asked) → Allocs nothing_graph (Known nothing_graph [] n) asks → cells_of asks ≤ limits.cells
    cells n [] h = omega arith
    cells n (a ∷ asks) h = absurd (known-root n _ (h.fired 0 a (omega arith)))
