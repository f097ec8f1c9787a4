use Rattle.std.proofs.Common.{◌∙◌, sym}
use Rattle.tam_graph.specs.Graphs.{is_any_param}
use Rattle.tam_graph.specs.KeptCodes.{kept_code}
use Rattle.tam_graph.proofs.Counting.{counted}
use Rattle.tam_graph.proofs.code.Code.params.Goals as goal

pub returns : goal.returns
returns c = rw (← c.self.view_is) (record { value = c.self.invariant.params ∙ sym (counted (kept_code c.self.inside) is_any_param) })
