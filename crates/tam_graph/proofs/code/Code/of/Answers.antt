use Rattle.tam_graph.proofs.FewNodes.{few-nodes}
use Rattle.tam_graph.proofs.code.Code.of.Goals as goal

pub count_params-param_count-requires : goal.count_params-param_count-requires
count_params-param_count-requires c = record { few = rw c.deref.ensures.value (few-nodes _ _ (c.requires.of_text.2).written) }

pub count_results-result_count-requires : goal.count_results-result_count-requires
count_results-result_count-requires c = record { few = rw c.deref-2.ensures.value (few-nodes _ _ (c.requires.of_text.2).written) }

pub of-index-requires : goal.of-index-requires
of-index-requires c = record { few = rw c.deref-3.ensures.value (few-nodes _ _ (c.requires.of_text.2).written) }
