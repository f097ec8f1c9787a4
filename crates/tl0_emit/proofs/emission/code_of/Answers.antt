use Rattle.std.proofs.Common.{sym, ap, subst, ◌∙◌}
use Rattle.tam_graph.specs.Graphs.{params_of, results_of}
use Rattle.tl0_code.specs.ThreadCode.{CodeText, HasCodeLimits}
use Rattle.tl0_keep.specs.Compiled.{compiled_code}
use Rattle.tl0_emit.specs.CodeParts.{CodeParts, its_code}
use Rattle.tl0_emit.proofs.CodeLimits.{IsCompiled, compiled-is, code-limits}
use Rattle.tl0_emit.proofs.emission.code_of.Goals as goal

pub of-requires-2 : goal.of-requires-2
of-requires-2 c =
    let t = c.in_ok-tables.tables in
    let text : CodeText = record {
      params = c.params.result;
      results = c.results.result;
      slots = c.slots.result;
      inlets = c.in_ok-inlets.inlets.items;
      threads = c.in_ok-threads.threads.items;
    } in
    let made : IsCompiled t.graph (its_code t) t.parts text = record {
      params = c.params.ensures.value ∙ ap params_of c.code-own.ensures.value;
      results = c.results.ensures.value ∙ ap results_of c.code-own.ensures.value;
      slots = c.slots.ensures.value;
      inlets = c.in_ok-inlets.ensures.value;
      threads = c.in_ok-threads.ensures.value;
    } in
    record { limits = subst HasCodeLimits (sym (compiled-is t.graph (its_code t) t.parts text made)) (code-limits t c.code-own.ensures.code) }

pub returns-clause-value : goal.returns-clause-value
returns-clause-value c =
    let t = c.in_ok-tables.tables in
    let text : CodeText = record {
      params = c.params.result;
      results = c.results.result;
      slots = c.slots.result;
      inlets = c.in_ok-inlets.inlets.items;
      threads = c.in_ok-threads.threads.items;
    } in
    let made : IsCompiled t.graph (its_code t) t.parts text = record {
      params = c.params.ensures.value ∙ ap params_of c.code-own.ensures.value;
      results = c.results.ensures.value ∙ ap results_of c.code-own.ensures.value;
      slots = c.slots.ensures.value;
      inlets = c.in_ok-inlets.ensures.value;
      threads = c.in_ok-threads.ensures.value;
    } in
    c.of-2.ensures.value
    ∙ (compiled-is t.graph (its_code t) t.parts text made ∙ ap (λ (p : CodeParts). compiled_code p.graph (its_code p, p.parts)) c.in_ok-tables.ensures.value)
