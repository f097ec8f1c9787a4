use Rattle.std.proofs.Common.{◌≡◌, ◌∙◌, ◌++◌, ℕ, List, Some, length, refl, sym, ap, append_assoc, arith}
use Rattle.std.specs.Prelude.{slice_get}
use Rattle.std.proofs.lemmas.Option.{slice_get_read}
use Rattle.tam_graph.specs.Texts.{line_text, tokens, node_line}
use Rattle.tam_print.specs.PrintedLines.{prefix_text}
use Rattle.tam_print.proofs.Texts.{right-line, node-text}
use Rattle.tam_print.proofs.node.push_node.Goals as goal

pub push_tokens-requires : goal.push_tokens-requires
push_tokens-requires c =
    let n = c.index-nodes-x.result in
    let there : slice_get c.args.code.now.nodes c.args.x ≡ Some n =
    rw c.nodes-nodes.ensures.value at (slice_get_read c.nodes-nodes.result.now (length c.nodes-nodes.result.now) c.args.x n refl
    (omega (arith, c.requires.in_range, ap length c.nodes-nodes.ensures.value)) c.index-nodes-x.is) in
    record { line = right-line c.args.g.now (length c.args.g.now.codes) c.args.code.now c.requires.of_text c.args.x n there }

pub returns : goal.returns
returns c =
    let n = c.index-nodes-x.result in
    let there : slice_get c.args.code.now.nodes c.args.x ≡ Some n =
    rw c.nodes-nodes.ensures.value at (slice_get_read c.nodes-nodes.result.now (length c.nodes-nodes.result.now) c.args.x n refl
    (omega (arith, c.requires.in_range, ap length c.nodes-nodes.ensures.value)) c.index-nodes-x.is) in
    let whole : c.push_prefix.new.text.items ++ line_text (tokens c.args.g.now c.args.code.now n.kind) ≡
    c.args.text.now.items ++ line_text (node_line c.args.g.now c.args.code.now c.args.x) =
    ap (λ (l : List ℕ). l ++ line_text (tokens c.args.g.now c.args.code.now n.kind)) c.in_ok-push_prefix.ensures.ok
    ∙ append_assoc c.args.text.now.items (prefix_text n.name n.depth) (line_text (tokens c.args.g.now c.args.code.now n.kind))
    ∙ ap (λ (l : List ℕ). c.args.text.now.items ++ l)
    (sym (node-text c.args.g.now (length c.args.g.now.codes) c.args.code.now c.requires.of_text c.args.x n there)) in
    record { ok = rw whole at c.push_tokens.ensures.ok }
