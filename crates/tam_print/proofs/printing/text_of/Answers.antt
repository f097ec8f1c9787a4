use Rattle.std.proofs.Common.{◌≡◌, ◌∙◌, ◌++◌, ◌<◌, ◌≤◌, ℕ, List, length, sym, ap, subst, arith, get_or, flat_map}
use Rattle.std.specs.Prelude.{codes}
use Rattle.std.proofs.lemmas.Option.{slice_get-get_or}
use Rattle.tam_graph.specs.Graphs.{Code, or_code, no_code}
use Rattle.tam_graph.specs.Texts.{canonical}
use Rattle.tam_graph.specs.Reading.{Reads}
use Rattle.tam_print.specs.PrintedLines.{code_text}
use Rattle.tam_print.proofs.ListLemmas.{grows-next, grows-end}
use Rattle.tam_print.proofs.Texts.{canonical-is}
use Rattle.tam_print.proofs.printing.text_of.Goals as goal

pub loop-n-preserved : goal.loop-n-preserved
loop-n-preserved c =
    let g = c.args.g.now in
    let n = c.loop-n.n in
    let inside : n < length g.codes = omega (arith, c.loop-n-test.true, c.codes-n-end.ensures.value) in
    let code : c.code.result.now ≡ get_or g.codes n no_code = c.code.ensures.value ∙ ap or_code (slice_get-get_or g.codes n no_code inside) in
    grows-next (code_text g) g.codes n (codes "dg 1\n" ++ flat_map (code_text g) g.codes) no_code c.loop-n.text.items c.push_code.new.text.items inside
    (c.in_ok-push_code.ensures.ok ∙ ap (λ (k : Code). c.loop-n.text.items ++ code_text g k) code) c.loop-n.invariant

pub returns : goal.returns
returns c =
    let g = c.args.g.now in
    let past : length g.codes ≤ c.loop-n.n = omega (arith, c.loop-n-test.false, c.codes-n-end.ensures.value) in
    let whole : c.loop-n.text.items ≡ canonical g =
    grows-end (code_text g) g.codes c.loop-n.n (codes "dg 1\n" ++ flat_map (code_text g) g.codes) c.loop-n.text.items past c.loop-n.invariant
    ∙ sym (canonical-is g) in
    record {
      value = whole;
      reads = λ short. subst (λ (t : List ℕ). Reads t g) (sym whole) (c.law_canonical.ensures.reads g c.codes-n-end.ensures.of_text short);
    }
