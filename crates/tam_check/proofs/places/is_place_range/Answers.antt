use Rattle.std.proofs.Common.{◌∙◌, ap}
use Rattle.tam_word.specs.Lists.{beyond}
use Rattle.tam_graph.specs.Graphs.{code_of, params_of, results_of}
use Rattle.tam_check.proofs.places.is_place_range.Goals as goal

pub returns-in-Arg : goal.returns-in-Arg
returns-in-Arg c = record {
  value = rw c.in-Arg.is (c.is_beyond-in-Arg.ensures.value ∙ ap (beyond c.in-Arg.place)
      (c.params_of.ensures.value ∙ ap (λ d. params_of (code_of c.args.graph.now d)) c.callee_of.ensures.value));
}

pub returns-in-Ret : goal.returns-in-Ret
returns-in-Ret c = record {
  value = rw c.in-Ret.is (c.is_beyond-in-Ret.ensures.value ∙ ap (beyond c.in-Ret.place)
      (c.results_of.ensures.value ∙ ap (λ d. results_of (code_of c.args.graph.now d)) c.callee_of-in-Ret.ensures.value));
}
