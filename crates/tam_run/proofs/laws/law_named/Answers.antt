use Rattle.tam_run.proofs.GraphNames.{graph_names-are_live}
use Rattle.tam_run.proofs.GraphEndNames.{graph_end-names_are_live}
use Rattle.tam_run.proofs.laws.law_named.Goals as goal

pub returns : goal.returns
returns c = record { named = graph_names-are_live; at_ends = graph_end-names_are_live graph_names-are_live }
