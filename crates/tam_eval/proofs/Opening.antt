-- The opening of the graph's run follows the opening of the journal.
use Rattle.std.proofs.Common.{◌≡◌, ℕ, zero, suc, ◌<◌, true, List, [], refl, sym, subst, ap, inr, ◌∙◌, true≢false}
use Rattle.std.proofs.Common.{length, Some, None, arith, zip}
use Rattle.tam_word.specs.Lists.{below}
use Rattle.tam_word.proofs.Members.{In, in-flat_map, in-map}
use Rattle.tam_graph.specs.Graphs.{Graph, code_of, node_where, is_param}
use Rattle.tam_msgs.specs.declared.message.Message.{Message}
use Rattle.tam_msgs.specs.declared.message.Message.TheVariants.{Word as Carry}
use Rattle.tam_msgs.specs.declared.item.Item.{Item}
use Rattle.tam_istr.specs.Cells.{Empty, Reader}
use Rattle.tam_world.specs.Worlds.{has_word, opening, argument_message}
use Rattle.tam_flow.specs.Journals.{State, initial, has_run, on_their_way}
use Rattle.tam_flow.specs.Reached.{IsThere, cell_at}
use Rattle.tam_flow.proofs.OnTheWay.{way-is, way-all}
use Rattle.tam_flow.proofs.Moves.{JustNone, Fits, param-where}
use Rattle.tam_eval.specs.GraphRuns.{joins, nothing_begun, graph_opening}
use Rattle.tam_eval.proofs.Follows.{RunsStand, Follows, graph_of}
use Rattle.tam_eval.proofs.KeptBySteps.{Steps, ready-later}
use Rattle.tam_eval.proofs.FiringSteps.{same-state}
use Rattle.tam_eval.proofs.WorldSizes.{Few}
use Rattle.tam_eval.proofs.DeliverySends.{Answered}
use Rattle.tam_eval.proofs.Charges.{Charge, asks, asks-none}

module _ (g : Graph) (args : List ℕ) where
  -- no node has a word
  no-word : (i x : ℕ) → has_word (opening g) i x ≡ true → ⊥
  no-word zero x h = true≢false (sym h)
  no-word (suc i) x h = true≢false (sym h)

  -- nothing has run
  no-run : (i b k : ℕ) → has_run (initial g args) i b k ≡ true → ⊥
  no-run i b k h = true≢false (sym h)

  -- the state before the root
  abbrev nothing : State
  nothing = record { world = nothing_begun; sent = []; arrived = []; ran = []; printed = []; fault = None }

  -- where nothing is there
  none-there : (i : ℕ) → IsThere nothing_begun i → ⊥
  none-there i h = let l : i < 0 = h in omega arith

  -- at the opening nothing has run
  nothing-runs : RunsStand g nothing
  nothing-runs = record {
    ran_there = λ i b k h. absurd (true≢false (sym h));
    firer_ran = λ i b k x l f h. absurd (none-there i l);
    inner_ran = λ i b k x l f n h. absurd (none-there i l);
    inner_word = λ i b k x l f n h. absurd (none-there i l);
    inlet_ran = λ i b k x l f h. absurd (none-there i l);
    inlet_word = λ i b k x l f e h. absurd (none-there i l);
    words_there = λ i x h. absurd (true≢false (sym h));
    words_values = λ i x h. absurd (true≢false (sym h));
  }

  -- the root's beginning, as a step
  opening-steps : Steps g JustNone nothing (initial g args)
  opening-steps = record {
    moves = record {
      there = λ j h. absurd (none-there j h);
      codes = λ j h. absurd (none-there j h);
      words_stay = λ j y h. absurd (true≢false (sym h));
      entered_stay = λ j b h. absurd (true≢false (sym h));
      words_new = λ j y h. absurd (no-word j y h);
    };
    began = λ j x h. absurd (true≢false (sym h));
    old = λ i b k h. h;
    ran_there = λ i b k h. absurd (no-run i b k h);
    firer_new = λ i b k x f h. absurd (no-run i b k h);
    just_ran = λ i b k x f h. absurd h;
    just_enabled = λ i x h. absurd h;
    just_gave = λ i x h. absurd h;
    inlet_ran = λ i b k x l f h. absurd (no-run i b k h);
    inlet_word = λ i b k x l f e h. absurd (no-word i x h);
  }

  -- the arguments are on their way
  opening-way : on_their_way (initial g args) ≡ (initial g args).sent
  opening-way = way-is (initial g args) ∙ way-all [] 0 (initial g args).sent (λ k l. refl)

  -- and are for params of the root
  opening-fits : (m : Message) → In m (initial g args).sent → Fits g (opening g) m
  opening-fits m h =
      let r = in-flat_map (argument_message g) m (zip (below (length args)) args) h in
      let q = in-map (λ (x : ℕ). Carry 0 x r.0.1) m (node_where (code_of g g.main) (is_param r.0.0)) r.2 in
      let l : 0 < 1 = omega arith in
      subst (Fits g (opening g)) q.2 (inr (l, param-where (code_of g g.main) r.0.0 q.0 q.1))

  -- no array is there
  no-cell : (a j : ℕ) (rs : List Reader) → cell_at (opening g) a j ≡ Some (Empty rs) → ⊥
  no-cell a j rs h = cc

  -- the opening follows
  pub opening-follows : Follows g (joins g nothing_begun (opening g)) (initial g args)
  opening-follows = record {
    whole = refl;
    runs = record {
      ran_there = λ i b k h. absurd (no-run i b k h);
      firer_ran = λ i b k x l f h. absurd (no-run i b k h);
      inner_ran = λ i b k x l f n h. absurd (no-run i b k h);
      inner_word = λ i b k x l f n h. absurd (no-word i x h);
      inlet_ran = λ i b k x l f h. absurd (no-run i b k h);
      inlet_word = λ i b k x l f e h. absurd (no-word i x h);
      words_there = λ i x h. absurd (no-word i x h);
      words_values = λ i x h. absurd (no-word i x h);
    };
    stands = ready-later g JustNone nothing (initial g args) nothing-runs opening-steps [] [] (record {
      ready_enabled = λ i x h. absurd h;
      ready_unrun = λ i x b k h f. absurd h;
      enabled_ready = λ i x b k l e f h. absurd (none-there i l);
      once = tt;
    }) (λ i x h. absurd h) (λ i x h. absurd h) tt;
    messages = record {
      fit = λ m h. opening-fits m (subst (In m) opening-way h);
      readers = λ a j rs r e h. absurd (no-cell a j rs e);
      arrived_sent = λ n h. absurd (true≢false (sym h));
    };
  }

  -- and the graph's state is the one that goes with it
  pub opening-same : (order : List Item) → graph_opening g args order ≡ graph_of (initial g args) (joins g nothing_begun (opening g)) order 0
  opening-same order =
      same-state (joins g nothing_begun (opening g)) order 0 (opening g) (opening g) (initial g args).sent (on_their_way (initial g args)) [] [] refl
      (sym opening-way) refl

  -- nothing is charged yet
  pub opening-charge : Charge g (initial g args) 0
  opening-charge = record {
    fired = [];
    received = [];
    asked = 0;
    count = refl;
    paid = let e = ap asks opening-way ∙ asks-none g (opening g) few (initial g args).sent answered in omega arith;
    fired_once = tt;
    all_fired = λ i x m. absurd m;
    received_once = tt;
    all_received = λ i x m. absurd m;
  }
    where
      few : Few (opening g)
      few = record { activations = omega arith; arrays = omega arith }

      answered : (m : Message) → In m (initial g args).sent → Answered g (opening g) m
      answered m h =
          let r = in-flat_map (argument_message g) m (zip (below (length args)) args) h in
          let q = in-map (λ (x : ℕ). Carry 0 x r.0.1) m (node_where (code_of g g.main) (is_param r.0.0)) r.2 in
          let l : 0 < 1 = omega arith in
          subst (Answered g (opening g)) q.2 (l, param-where (code_of g g.main) r.0.0 q.0 q.1)
