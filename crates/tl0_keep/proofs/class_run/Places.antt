-- Places of an accepted code are in range; and spending, as it was proved.
use Rattle.std.proofs.Common.{◌≡◌, ℕ, ◌<◌, ◌&&◌, nat_lt, List, length, sym, ap, ◌∙◌, subst, arith}
use Rattle.tam_word.proofs.Tests.{and-left, and-right, test-below}
use Rattle.tam_graph.specs.declared.kind.Kind.TheVariants.{Call, Arg, Give, Enter}
use Rattle.tam_graph.specs.Graphs.{Graph, code_of, kind_at, params_of, results_of, callee_of, callee_of_kind}
use Rattle.tam_graph.specs.Accepted.{IsAccepted}
use Rattle.tam_graph.specs.Written.{is_operand, is_call_node}
use Rattle.tam_graph.proofs.AcceptedFacts.{node-there}
use Rattle.tam_split.specs.GraphPartitions.{Partitions}
use Rattle.tam_flow.proofs.Nodes.{line, call-operand}
use Rattle.tl0_keep.proofs.code.ThreadKinds.{ThreadKind}
use Rattle.tl0_keep.proofs.code.PlacesFound.{in-range, not-beyond}
use Rattle.tl0_keep.proofs.code.CodeFacts.{CodeFacts}
use Rattle.tl0_keep.proofs.runs.Spending
use Rattle.tl0_keep.proofs.runs.Later
use Rattle.tl0_keep.proofs.class_run.Step.{HasPlaces}
use Rattle.tl0_keep.proofs.class_run.Branching.{CanSpend}

-- what was proved of spending
pub can-spend : (g : Graph) (all : Partitions) (others : List (ℕ × ThreadKind)) → CodeFacts g all → CanSpend g all others
can-spend g all others facts = record {
  spends = λ m s due i n t keeps word. (
    Spending.spent-state g all facts m s others due i n t keeps word,
    Spending.spends g all facts m s others due i n t keeps word,
    Spending.spend-due g all facts m s others due i n t keeps word,
  );
  puts = λ m s due i x w there inside inlet owed keeps. (
    Later.put-due g all facts m s others due keeps i x w there inside inlet owed,
    Later.put-there g all facts m s others due keeps i x w there inside inlet owed,
  );
}

module _ (g : Graph) (accepted : IsAccepted g) (n : ℕ) (there : n < length g.codes) where
  give-enter : {k a : ℕ} → Give k a ≡ Enter 0 → ⊥
  give-enter e = cc

  arg-enter : {f k a : ℕ} → Arg f k a ≡ Enter 0 → ⊥
  arg-enter e = cc

  call-enter : {d : ℕ} → Call d ≡ Enter 0 → ⊥
  call-enter e = cc

  -- the places of a code
  pub has-places : HasPlaces g (code_of g n)
  has-places = record {
    gives = λ x k a e. let l = node-there (code_of g n) x (λ q. give-enter (sym e ∙ q)) in (
      not-beyond k (results_of (code_of g n)) (in-range g accepted n there x (Give k a) l e),
      (let small = test-below k 64 (and-right (is_operand (code_of g n) a) (nat_lt k 64) (line g accepted n there x (Give k a) l e)) in omega arith),
    );
    args = λ x f k a e. arg x f k a e;
  }
    where
      arg : (x f k a : ℕ) → kind_at (code_of g n) x ≡ Arg f k a
          → (d : ℕ) × (kind_at (code_of g n) f ≡ Call d) × (d < length g.codes) × (k < params_of (code_of g d))
      arg x f k a e =
          let l = node-there (code_of g n) x (λ q. arg-enter (sym e ∙ q)) in
          let c = call-operand (code_of g n) f (and-left (is_call_node (code_of g n) f) (is_operand (code_of g n) a && nat_lt k 64)
          (line g accepted n there x (Arg f k a) l e)) in
          let lf = node-there (code_of g n) f (λ q. call-enter (sym c.1 ∙ q)) in
          let range = not-beyond k (params_of (code_of g (callee_of (code_of g n) f))) (in-range g accepted n there x (Arg f k a) l e) in (
            c.0,
            c.1,
            test-below c.0 (length g.codes) (line g accepted n there f (Call c.0) lf c.1),
            subst (λ q. k < params_of (code_of g q)) (ap callee_of_kind c.1) range,
          )
