-- A state at rest tells each firing that holds, and then no cell is stored twice and no access is outside: so a quiet journal is complete.
use Rattle.std.proofs.Common.{◌≡◌, ℕ, List, [], ◌∷◌, true, refl, sym, ◌∙◌, arith}
use Rattle.std.specs.List.{AllByRecursion}
use Rattle.tam_graph.specs.declared.kind.Kind.TheVariants.{Param}
use Rattle.tam_graph.specs.Graphs.{Graph, is_inlet}
use Rattle.tam_graph.specs.Accepted.{IsAccepted}
use Rattle.tam_graph.proofs.Depths.{main-param-depth}
use Rattle.tam_split.specs.GraphPartitions.{Partitions, are_valid}
use Rattle.tam_fire.specs.FiringRules.{Path, Value, Val, node_of, Word, Array, Fact, Fired, Rule, body_is_entered, const_gives, op_gives, seq_gives}
use Rattle.tam_fire.specs.FiringRules.{outlet_fires, call_begins}
use Rattle.tam_fire.specs.FiringRules.{call_answers, arg_comes, result_comes, alloc_answers, fetch_answers, cond_enters, switch_comes, out_comes, Given}
use Rattle.tam_fire.specs.FiringRules.{root_has_begun, param_has, Holds, DoubleWrite, OutsideAccess}
use Rattle.tam_fire.proofs.Following.{holds-induction}
use Rattle.tam_world.specs.Worlds.{activation_at}
use Rattle.tam_flow.specs.Journals.{State, Event, state_after, IsQuiet}
use Rattle.tam_flow.specs.Told.{IsNumber}
use Rattle.tam_flow.specs.JournalLaws.{IsJournal, IsComplete, Complete}
use Rattle.tam_flow.specs.Reached.{kind_of, depth_of, IsReached}
use Rattle.tam_flow.proofs.Quiet.{IsAtRest}
use Rattle.tam_flow.proofs.Claims.{Claim, word-meaning, kind-here, claim-inlet, carry-has}
use Rattle.tam_flow.proofs.RuleClaims.{claim-const, claim-op, claim-seq, told-fired, claim-begun, claim-call, claim-arg, claim-result, claim-cond}
use Rattle.tam_flow.proofs.RuleClaims.{claim-switch, claim-leave}
use Rattle.tam_flow.proofs.ArrayClaims.{claim-alloc, claim-fetch, one-store, access-inside}

module _ (g : Graph) (all : Partitions) (args : List ℕ) (s : State) (acc : IsAccepted g) (reached : IsReached g all args s) (rest : IsAtRest g all s)
    (valid : are_valid g all ≡ true) where
  -- the root has number 0
  root-number : IsNumber s.world [] 0
  root-number = (reached.activations.root, reached.activations.root_path)

  -- what is given is told
  claim-given : (fact : Fact) → Given g args fact → Claim g all s fact
  claim-given fact root_has_begun = (0, root-number)
  claim-given fact (param_has {x = x} {k = k} {w = w} e a) =
      let here = kind-here g all args s reached [] 0 x (Param k) root-number e in
      claim-inlet g all args s reached [] x (Word w) 0 w (rw e refl) root-number
      (carry-has g all args s reached rest valid 0 x w reached.activations.root (reached.messages.arguments x k w e a))
      (sym (word-meaning s.world (kind_of g s.world 0 x) (depth_of g s.world 0 x) w (λ c p. cc)
      (main-param-depth g acc (activation_at s.world 0).code
      (reached.activations.codes 0 reached.activations.root) x k reached.activations.root_code here)))

  -- and each rule carries it on
  claim-by : (from : List Fact) (fact : Fact) → Rule g from fact → AllByRecursion (Claim g all s) from → Claim g all s fact
  claim-by from fact body_is_entered h = (h.0.0, h.0.1, reached.activations.bodies h.0.0 h.0.1.0)
  claim-by from fact (const_gives {q = q} {x = x} {w = w} e) h = claim-const g all args s acc reached rest valid q x w e
  claim-by from fact (op_gives {q = q} {x = x} {l = l} {r = r} {a = a} {b = b} {o = o} e) h =
      claim-op g all args s acc reached rest valid q x l r a b o e h.1.0 h.1.1.0
  claim-by from fact (seq_gives {q = q} {x = x} {l = l} {r = r} {a = a} {b = b} e) h = claim-seq g all args s acc reached rest valid q x l r a b e h.1.0 h.1.1.0
  claim-by from fact (outlet_fires {q = q} {x = x} {vs = vs} o l) h = told-fired g all args s acc reached rest valid q x vs o l h.0 h.1
  claim-by from fact (call_begins {q = q} {f = f} {c = c} e) h = claim-begun g all args s acc reached rest valid q f c e h.0
  claim-by from fact (call_answers {q = q} {f = f} {c = c} e) h = claim-call g all args s acc reached rest valid q f c e h.0
  claim-by from fact (arg_comes {p = p} {q = q} {x = x} {y = y} {f = f} {k = k} {a = a} {v = v} e d) h =
      claim-arg g all args s acc reached rest valid p q x y f k a v e d h.0
  claim-by from fact (result_comes {p = p} {x = x} {y = y} {f = f} {k = k} {a = a} {v = v} e d) h =
      claim-result g all args s acc reached rest valid p x y f k a v e d h.0
  claim-by from fact (alloc_answers {q = q} {x = x} {a = a} {n = n} e) h = claim-alloc g all args s acc reached rest valid q x a n e h.0
  claim-by from fact (fetch_answers {q = q} {r = r} {p = p} {x = x} {y = y} {z = z} {a = a} {b = b} {i = i} {c = c} {d = d} {e = e} {v = v} at st l) h =
      claim-fetch g all args s acc reached rest valid q r p x y z a b i c d e v at st h.0 h.1.0
  claim-by from fact (cond_enters {q = q} {c = c} {a = a} {y = y} {n = n} {w = w} e) h = claim-cond g all args s acc reached rest valid q c a y n w e h.0
  claim-by from fact (switch_comes {q = q} {x = x} {y = y} {c = c} {k = k} {a = a} {w = w} {v = v} e d b) h =
      claim-switch g all args s acc reached rest valid q x y c k a w v e d b h.0
  claim-by from fact (out_comes {q = q} {x = x} {y = y} {c = c} {k = k} {a = a} {v = v} e o d) h =
      claim-leave g all args s acc reached rest valid q x y c k a v e o d h.0

  -- a state at rest tells what it claims of each fact that holds
  pub claim-of : (fact : Fact) → Holds g args fact → Claim g all s fact
  claim-of fact h = holds-induction g args (Claim g all s) claim-given (λ from fact rule known claims. claim-by from fact rule claims) h.0 fact h.1

  -- two known values of an inlet are equal: both are what its word means
  pub one-value : (q : Path) (x : ℕ) (v w : Value) → is_inlet (node_of g q x) ≡ true → Holds g args (Val q x v) → Holds g args (Val q x w) → v ≡ w
  one-value q x v w inlet h k =
      let t = (claim-of (Val q x v) h).told inlet in t.2.2 ∙ sym ((claim-of (Val q x w) k).means t.0 t.2.0 t.1 t.2.1)

  -- no cell is stored twice
  no-double : (a b : ℕ × ℕ) → ¬ DoubleWrite g args a b
  no-double a b d =
      d.different (one-store g all args s acc reached rest valid d.p d.q d.x d.y d.array d.index d.v d.w d.first_stores d.second_stores
      (claim-of (Fired d.p d.x (d.array ∷ d.index ∷ d.v ∷ [])) d.first) (claim-of (Fired d.q d.y (d.array ∷ d.index ∷ d.w ∷ [])) d.second))

  -- no access is outside
  no-outside : (a : ℕ × ℕ) (i l : ℕ) → ¬ OutsideAccess g args a i l
  no-outside a i l d =
      let inside = access-inside g all args s acc reached rest valid d.q d.p d.x d.y i l d.more d.accesses
      (claim-of (Fired d.q d.x (Array d.p d.y ∷ Word i ∷ d.more)) d.at_array) (claim-of (Fired d.p d.y (Word l ∷ [])) d.made) in
      let far = d.outside in omega arith

-- a quiet journal is complete, where its state has what every reached state has
pub complete-where : (g : Graph) (all : Partitions) (args : List ℕ) (events : List Event) → IsReached g all args (state_after g all args events)
    → IsJournal g all args events → IsQuiet g all args events → IsComplete g all args events
complete-where g all args events reached j quiet = record {
  firings = λ q x vs h. claim-of g all args (state_after g all args events) j.accepted reached rest j.valid (Fired q x vs) h;
  no_double = no-double g all args (state_after g all args events) j.accepted reached rest j.valid;
  no_outside = no-outside g all args (state_after g all args events) j.accepted reached rest j.valid;
}
  where
    rest : IsAtRest g all (state_after g all args events)
    rest = record { whole = quiet.whole; ended = quiet.ended }

-- THE LAW, where each legal journal leaves such a state
pub complete : ((g : Graph) (all : Partitions) (args : List ℕ) (events : List Event) → IsJournal g all args events
    → IsReached g all args (state_after g all args events)) → Complete
complete reached g all args events j quiet = complete-where g all args events (reached g all args events j) j quiet
