use Rattle.tam_graph.proofs.Walks.{reaches-walk, walk-reaches}
use Rattle.tam_graph.proofs.laws.law_walks.Goals as goal

pub returns : goal.returns
returns c = record { reach = λ edges x y. (reaches-walk edges x y, walk-reaches) }
