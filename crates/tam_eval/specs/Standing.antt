-- How one activation stands: what the evaluator reads of a graph and a world to say which of its vertices may fire.
use Rattle.std.specs.Prelude.{ℕ, ◌≡◌}
use Rattle.tam_graph.specs.Graphs.{Graph}
use Rattle.tam_world.specs.Worlds.{World, activation_at, its_code}
use Rattle.tam_world.specs.Needs.{AreNeedsOf}
use Rattle.tam_eval.specs.declared.standing.Standing.{Standing}

-- this is activation i's code, these are what its nodes wait for, its words and its blocks
pub record IsStanding (g : Graph) (w : World) (i : ℕ) (standing : Standing) : Type 0 where
  pub code : standing.code ≡ (activation_at w i).code
  pub needs : AreNeedsOf (its_code g w i) standing.needs.now
  pub words : standing.words.now ≡ (activation_at w i).words
  pub entered : standing.entered.now ≡ (activation_at w i).entered
