use Rattle.std.proofs.Common.{◌≡◌, map, sym, ap, subst, ◌∙◌}
use Rattle.tam_graph.specs.Graphs.{graph_of}
use Rattle.tam_graph.specs.Reading.{Reads}
use Rattle.tam_read.specs.Parts.{parts_in}
use Rattle.tam_read.specs.PartView.{part, code_of_part, lines_of_part}
use Rattle.tam_read.proofs.Assembled.{parts-read, lines-are, only-memory, only-graph}
use Rattle.tam_read.proofs.reading.read.Goals as goal

pub graph_of-requires : goal.graph_of-requires
graph_of-requires c =
    let text = c.args.text.now in
    let is : map part c.deref.result.now ≡ parts_in text = ap (map part) c.deref.ensures.value ∙ c.in-Ok.ensures.ok in
    record { of_text = (parts-read text c.deref.result.now is c.in-Ok.ensures.faultless).text }

pub returns-in_ok-lines-in-Ok-clause-reads : goal.returns-in_ok-lines-in-Ok-clause-reads
returns-in_ok-lines-in-Ok-clause-reads c =
    let text = c.args.text.now in
    let is : map part c.deref.result.now ≡ parts_in text = ap (map part) c.deref.ensures.value ∙ c.in-Ok.ensures.ok in
    subst (λ g. Reads text g) (sym c.in_ok-graph-in-Ok.ensures.value) (parts-read text c.deref.result.now is c.in-Ok.ensures.faultless)

pub returns-in_ok-lines-in-Ok-clause-lines : goal.returns-in_ok-lines-in-Ok-clause-lines
returns-in_ok-lines-in-Ok-clause-lines c =
    let text = c.args.text.now in
    let is : map part c.deref-in-Ok.result.now ≡ parts_in text = ap (map part) c.deref-in-Ok.ensures.value ∙ c.in-Ok.ensures.ok in
    c.in_ok-lines-in-Ok.ensures.value ∙ lines-are text c.deref-in-Ok.result.now is

pub returns-in_ok-lines-in-Ok-clause-complete : goal.returns-in_ok-lines-in-Ok-clause-complete
returns-in_ok-lines-in-Ok-clause-complete c =
    let text = c.args.text.now in
    let is : map part c.deref.result.now ≡ parts_in text = ap (map part) c.deref.ensures.value ∙ c.in-Ok.ensures.ok in
    λ g r. c.in_ok-graph-in-Ok.ensures.value ∙ only-graph text c.deref.result.now is g r

pub returns-in-Err-clause-complete : goal.returns-in-Err-clause-complete
returns-in-Err-clause-complete c = λ g r. only-memory c.args.text.now g r c.in-Err.refused c.in-Err.ensures.refused
