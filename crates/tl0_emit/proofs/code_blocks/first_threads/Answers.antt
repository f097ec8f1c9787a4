use Rattle.std.proofs.Common.{◌≡◌, ◌<◌, ◌∙◌, ◌+◌, ◌++◌, ◌∷◌, [], inl, inr, length, sym, ap, ap₂, subst, arith}
use Rattle.tam_word.proofs.Each.{last-or_before}
use Rattle.tam_split.specs.Partitions.{Parts}
use Rattle.tam_split.specs.KeptParts.{AreClasses}
use Rattle.tam_split.specs.PartitionLaws.{IsPartition}
use Rattle.tl0_keep.specs.Compiled.{parts_at}
use Rattle.tl0_emit.specs.BlockTables.{first_thread, graph_in}
use Rattle.tl0_emit.proofs.NodeSteps.{map-more}
use Rattle.tl0_emit.proofs.BlockSteps.{first-begins, first-next, parts-read, threads-within, threads-few}
use Rattle.tl0_emit.proofs.code_blocks.first_threads.Goals as goal

pub loop-block-init : goal.loop-block-init
loop-block-init c =
    let ps = c.args.parts.now in
    let f = first-begins ps in (
      c.new-starts.ensures.items,
      sym f,
      omega arith,
      λ b l. let s : first_thread ps b ≡ first_thread ps 0 = ap (first_thread ps) (let e : b ≡ 0 = omega (arith, l) in e) in omega (arith, s, f),
      λ b l. absurd (omega (arith, l)),
    )

pub overflow_add-next : goal.overflow_add-next
overflow_add-next c =
    let ps = c.args.parts.now in
    let b = c.loop-block.block in
    let p = c.index-parts-block.result in
    let there : b < length c.args.graphs.now = omega (arith, c.loop-block-test.true) in
    let at : parts_at ps b ≡ p = parts-read ps b p (omega (arith, there, c.requires.each)) c.index-parts-block.is in
    let whole = subst (IsPartition (graph_in c.args.graphs.now b)) at (c.requires.whole b there) in
    let few = threads-few c.args.graphs.now p b there c.classes-next.ensures.kept whole c.loop-block.next c.classes-next.result c.requires.few
    c.classes-next.ensures.value c.loop-block.invariant.2 in
    omega (arith, few)

pub loop-block-preserved : goal.loop-block-preserved
loop-block-preserved c =
    let ps = c.args.parts.now in
    let b = c.loop-block.block in
    let p = c.index-parts-block.result in
    let there : b < length c.args.graphs.now = omega (arith, c.loop-block-test.true) in
    let at : parts_at ps b ≡ p = parts-read ps b p (omega (arith, there, c.requires.each)) c.index-parts-block.is in
    let whole = subst (IsPartition (graph_in c.args.graphs.now b)) at (c.requires.whole b there) in
    let kept = c.classes-next.ensures.kept in
    let count = c.classes-next.ensures.value in
    let next : c.loop-block.next + c.classes-next.result ≡ first_thread ps (b + 1) =
    let n = first-next ps b in let l = ap (λ (q : Parts). length q) at in omega (arith, n, l, count, c.loop-block.invariant.1) in
    let few = threads-few c.args.graphs.now p b there kept whole c.loop-block.next c.classes-next.result c.requires.few count c.loop-block.invariant.2 in (
      c.in_ok-push.ensures.items ∙ (ap₂ (λ l v. l ++ v ∷ []) c.loop-block.invariant.0 c.loop-block.invariant.1 ∙ sym (map-more (first_thread ps) b)),
      next,
      threads-within c.args.graphs.now p b there kept whole c.loop-block.next c.classes-next.result count c.loop-block.invariant.2,
      λ d l. elim (last-or_before d (b + 1) (omega (arith, l))) [
        | inl less ↦ c.loop-block.invariant.3 d (omega (arith, less))
        | inr same ↦ let s : first_thread ps d ≡ first_thread ps (b + 1) = ap (first_thread ps) same in omega (arith, s, next, few)
      ],
      λ d l. elim (last-or_before d b (omega (arith, l))) [
        | inl less ↦ c.loop-block.invariant.4 d less
        | inr same ↦ subst (λ e. AreClasses (parts_at ps e)) (sym same) (subst AreClasses (sym at) kept)
      ],
    )
