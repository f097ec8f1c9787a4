use Rattle.tam_flow.proofs.JournalsReached.{journals-reached}
use Rattle.tam_eval.proofs.Journal.{graph_runs-journals}
use Rattle.tam_eval.proofs.Permanence.{given_back-stays, live_are-few}
use Rattle.tam_eval.proofs.Enough.{enough-is_not_refused}
use Rattle.tam_eval.proofs.laws.law_graph.Goals as goal

pub returns : goal.returns
returns c = record {
  journals = graph_runs-journals journals-reached;
  stays = given_back-stays;
  few = live_are-few;
  enough = enough-is_not_refused;
}
