use Rattle.std.proofs.Common.{List, ◌≡◌, ◌<◌, ◌+◌, length, slice_set, get_or, sym, ap, subst, ◌∙◌, arith}
use Rattle.std.proofs.lemmas.List.{length-set}
use Rattle.tam_graph.specs.declared.node.Node.{Node}
use Rattle.tam_graph.specs.Accepted.{is_switch_of}
use Rattle.tl0_emit.specs.CodeParts.{its_code}
use Rattle.tl0_emit.proofs.SwitchNodes.{AreNamed, switch-read}
use Rattle.tl0_emit.proofs.SwitchCounts.{Counted, switch-counted, other-counted, no-switch, count-few, switches-last}
use Rattle.tl0_emit.proofs.StandingCounts.{number-read}
use Rattle.tl0_emit.proofs.code_tables.CodeTables.switches.Goals as goal
use Rattle.tl0_emit.proofs.code_tables.CodeTables.switches.Goals.{in-Switch, in_default}

pub index_mut-requires : goal.index_mut-requires
index_mut-requires c =
    let i = c.loop-node.node-index in
    let n = c.node-item.result in
    let same = c.nodes-nodes.ensures.value ∙ ap (λ d. d.nodes) c.code.ensures.value in
    let many = ap (λ (ns : List Node). length ns) same in
    let names = subst (AreNamed (its_code c.args.self.now)) c.in-Switch.is
    (switch-read c.args.self.now c.code.ensures.code i n (omega (arith, many)) (c.node-item.is ∙ ap (λ ns. get_or ns i n) same)) in
    omega (arith, names.0, many, c.loop-node.invariant.long)

pub overflow_add-index_mut : goal.overflow_add-index_mut
overflow_add-index_mut c =
    let i = c.loop-node.node-index in
    let n = c.node-item.result in
    let same = c.nodes-nodes.ensures.value ∙ ap (λ d. d.nodes) c.code.ensures.value in
    let many = ap (λ (ns : List Node). length ns) same in
    let names = subst (AreNamed (its_code c.args.self.now)) c.in-Switch.is
    (switch-read c.args.self.now c.code.ensures.code i n (omega (arith, many)) (c.node-item.is ∙ ap (λ ns. get_or ns i n) same)) in
    let v = number-read c.loop-node.counts.items c.in-Switch.cond c.index_mut.result.now (omega (arith, names.0, many, c.loop-node.invariant.long))
    c.index_mut.ensures.value in
    let f = count-few c.nodes-nodes.result.now c.loop-node.counts.items i c.in-Switch.cond c.loop-node.invariant.counted (omega (arith, names.0, many)) in
    omega (arith, v, f, c.nodes-nodes.ensures.few, ap (λ (ns : List Node). length ns) c.nodes-nodes.ensures.value)

pub loop-node-preserved : goal.loop-node-preserved
loop-node-preserved c =
    let i = c.loop-node.node-index in
    let n = c.node-item.result in
    let nodes = c.nodes-nodes.result.now in
    let counts = c.loop-node.counts.items in
    elim c.match-node.branch [
      | in-Switch w ↦
          let same = c.nodes-nodes.ensures.value ∙ ap (λ d. d.nodes) c.code.ensures.value in
          let many = ap (λ (ns : List Node). length ns) same in
          let names = subst (AreNamed (its_code c.args.self.now)) w.in-Switch.is
          (switch-read c.args.self.now c.code.ensures.code i n (omega (arith, many)) (c.node-item.is ∙ ap (λ ns. get_or ns i n) same)) in
          let low : w.in-Switch.cond < length counts = omega (arith, names.0, many, c.loop-node.invariant.long) in
          let v = number-read counts w.in-Switch.cond w.index_mut.result.now low w.index_mut.ensures.value in
          let items : c.match-node.counts.items ≡ slice_set counts w.in-Switch.cond (w.index_mut.result.now + 1) = ap (λ v. v.items) w.counts-is in
          let m = switch-counted nodes counts i n w.in-Switch.cond (record {
            next = record { there = omega arith; is = c.node-item.is; before = c.loop-node.invariant.counted };
            of = λ d. ap (is_switch_of d) w.in-Switch.is;
            low = low;
          }) in
          record {
            long = ap (λ xs. length xs) items ∙ (length-set counts w.in-Switch.cond (w.index_mut.result.now + 1) ∙ c.loop-node.invariant.long);
            counted = subst (λ xs. Counted nodes xs (i + 1)) (sym (items ∙ ap (λ n. slice_set counts w.in-Switch.cond (n + 1)) v)) m;
          }
      | in_default w ↦
          let items : c.match-node.counts.items ≡ counts = ap (λ v. v.items) w.counts-is in
          let m = other-counted nodes counts i n (record { there = omega arith; is = c.node-item.is; before = c.loop-node.invariant.counted })
          (no-switch n.kind w.in_default.not-Switch) in
          record {
            long = ap (λ xs. length xs) items ∙ c.loop-node.invariant.long;
            counted = subst (λ xs. Counted nodes xs (i + 1)) (sym items) m;
          }
    ]

pub returns : goal.returns
returns c =
    let same = c.nodes-nodes.ensures.value ∙ ap (λ d. d.nodes) c.code.ensures.value in
    record {
      value = switches-last (its_code c.args.self.now) c.nodes-nodes.result.now c.loop-node.counts.items c.loop-node.node-index (record {
        same = same;
        all = omega arith;
        long = c.loop-node.invariant.long;
        counted = c.loop-node.invariant.counted;
      });
    }
