use Rattle.std.proofs.Common.{ℕ, ◌≡◌, ◌<◌, ◌++◌, List, [], ◌∷◌, inl, inr, map, length, slice_get, sym, ap, ap₂, subst, ◌∙◌, arith}
use Rattle.std.proofs.lemmas.List.{length-map}
use Rattle.std.specs.declared.vec.Vec.{Vec}
use Rattle.std.specs.declared.alloc.Global.{Global}
use Rattle.tam_word.specs.Lists.{below}
use Rattle.tam_word.proofs.Each.{last-or_before}
use Rattle.tam_graph.specs.Graphs.{code_of}
use Rattle.tam_split.specs.Partitions.{Parts}
use Rattle.tam_split.specs.GraphPartitions.{or_none}
use Rattle.tl0_code.specs.ThreadCode.{CodeText, HasProgramLimits}
use Rattle.tl0_keep.specs.Compiled.{compiled_code, compiled_with}
use Rattle.tl0_emit.specs.CodeParts.{ArePartsOf, AreKept}
use Rattle.tl0_emit.specs.Emitting.{partitions_of}
use Rattle.tl0_emit.proofs.ClassFlows.{map-more}
use Rattle.tl0_emit.proofs.CodeLimits.{program-limits}
use Rattle.tl0_emit.proofs.CodesMade.{made-at, codes-made, list-read}
use Rattle.tl0_emit.proofs.emission.emit.Goals as goal

pub code_of-requires-clause-whole : goal.code_of-requires-clause-whole
code_of-requires-clause-whole c =
    let all = partitions_of c.args.parts.now in
    let n = c.loop-code.code in
    let there : n < length c.args.parts.now = omega arith in
    let many = length-map c.args.parts.now (λ (v : Vec Parts Global). v.items) in
    let same : c.deref.result.now ≡ or_none (slice_get all n) =
    c.deref.ensures.value ∙ list-read c.args.parts.now n c.index-parts-code.result there c.index-parts-code.is in
    subst (ArePartsOf (code_of c.args.g.now n)) (sym same) (c.requires.whole.each n (omega (arith, there, many, c.requires.whole.codes)))

pub loop-code-preserved : goal.loop-code-preserved
loop-code-preserved c =
    let g = c.args.g.now in
    let all = partitions_of c.args.parts.now in
    let n = c.loop-code.code in
    let there : n < length c.args.parts.now = omega arith in
    let many = length-map c.args.parts.now (λ (v : Vec Parts Global). v.items) in
    let same : c.deref.result.now ≡ or_none (slice_get all n) =
    c.deref.ensures.value ∙ list-read c.args.parts.now n c.index-parts-code.result there c.index-parts-code.is in
    let code = c.in_ok-code_of.ensures.value ∙ ap (λ (ps : List Parts). compiled_code g (code_of g n, ps)) same in
    let kept : AreKept (or_none (slice_get all n)) = subst AreKept same c.in_ok-code_of.ensures.kept in
    record {
      made = c.in_ok-push.ensures.items
          ∙ (ap₂ (λ (cs : List CodeText) (d : CodeText). cs ++ d ∷ []) c.loop-code.invariant.made code
          ∙ sym (map-more (λ m. compiled_code g (code_of g m, or_none (slice_get all m))) n));
      classes = λ m l. elim (last-or_before m n (omega (arith, l))) [
        | inl less ↦ c.loop-code.invariant.classes m less
        | inr e ↦ subst (λ k. AreKept (or_none (slice_get all k))) (sym e) kept
      ];
    }

pub of-requires : goal.of-requires
of-requires c =
    let g = c.args.g.now in
    let all = partitions_of c.args.parts.now in
    let many = length-map c.args.parts.now (λ (v : Vec Parts Global). v.items) in
    let last : c.loop-code.code ≡ length all = omega (arith, many) in
    let codes : c.loop-code.codes.items ≡ (compiled_with g all).codes =
    c.loop-code.invariant.made ∙ (ap (λ n. map (made-at g all c.requires.whole.codes) (below n)) last ∙ codes-made g all c.requires.whole.codes) in
    let same : record { main = c.main.result; codes = c.loop-code.codes.items } ≡ compiled_with g all =
    ap₂ (λ (m : ℕ) (cs : List CodeText). record { main = m; codes = cs }) c.main.ensures.value codes in
    record {
      limits = subst HasProgramLimits (sym same)
          (program-limits g c.graph.ensures.accepted all c.requires.whole
          (λ n l. c.loop-code.invariant.classes n (omega (arith, l, last, c.requires.whole.codes))));
    }

pub returns : goal.returns
returns c =
    let g = c.args.g.now in
    let all = partitions_of c.args.parts.now in
    let many = length-map c.args.parts.now (λ (v : Vec Parts Global). v.items) in
    let last : c.loop-code.code ≡ length all = omega (arith, many) in
    let codes : c.loop-code.codes.items ≡ (compiled_with g all).codes =
    c.loop-code.invariant.made ∙ (ap (λ n. map (made-at g all c.requires.whole.codes) (below n)) last ∙ codes-made g all c.requires.whole.codes) in
    record { value = c.of.ensures.value ∙ ap₂ (λ (m : ℕ) (cs : List CodeText). record { main = m; codes = cs }) c.main.ensures.value codes }
