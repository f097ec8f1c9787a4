use Rattle.std.proofs.Common.{◌∙◌, sym, ap}
use Rattle.tam_word.specs.Lists.{all_of}
use Rattle.tam_graph.specs.Graphs.{is_merge}
use Rattle.tam_graph.specs.Accepted.{all_depths}
use Rattle.tam_check.proofs.Scanning.{all-of_one}
use Rattle.tam_check.proofs.InterfaceTests.{merges-agree}
use Rattle.tam_check.proofs.depths.merges_agree.Goals as goal

pub returns-in-Some : goal.returns-in-Some
returns-in-Some c = record {
  value = rw (← c.block_at.ensures.value) (c.all_agree.ensures.value ∙ (sym (merges-agree c.args.tables.now.code.now c.in-Some.cond c.args.place c.args.depth)
      ∙ (sym (all-of_one (λ d. all_depths c.args.tables.now.code.now (is_merge d c.args.place) c.args.depth) c.in-Some.cond)
      ∙ ap (all_of (λ d. all_depths c.args.tables.now.code.now (is_merge d c.args.place) c.args.depth)) c.in-Some.ensures.value)));
}
