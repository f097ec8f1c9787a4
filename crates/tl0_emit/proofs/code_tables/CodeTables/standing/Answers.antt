use Rattle.std.proofs.Common.{ℕ, ◌≡◌, ◌<◌, ◌+◌, ◌-◌, length, slice_index, slice_set, sym, ap, ap₂, subst, ◌∙◌, arith}
use Rattle.std.specs.List.{sum_by}
use Rattle.tam_split.specs.Blocks.{vertices_in}
use Rattle.tl0_keep.proofs.code.Standing.{standing-small}
use Rattle.tl0_emit.specs.CodeParts.{its_code}
use Rattle.tl0_emit.specs.Branches.{at_vertex, HaveBranches}
use Rattle.tl0_emit.proofs.KnownParts.{few-of}
use Rattle.tl0_emit.proofs.StandingCounts.{IsFilled, filled-first, filled-last, filled-more, inside-counted, branches-counted, number-read}
use Rattle.tl0_emit.proofs.code_tables.CodeTables.standing.Goals as goal

pub loop-block-init : goal.loop-block-init
loop-block-init c =
    let t = c.args.self.now in
    subst (λ n. IsFilled (its_code t) t.parts c.in_ok-counts.counts.items n) (sym c.blocks-block.ensures.value)
    (filled-first (its_code t) t.parts c.in_ok-counts.counts.items c.in_ok-counts.ensures.value)

pub standing_inside-inside-requires-clause-branches : goal.standing_inside-inside-requires-clause-branches
standing_inside-inside-requires-clause-branches c =
    let t = c.args.self.now in
    let k = c.loop-block.block - 1 in
    let next : c.loop-block.block ≡ k + 1 = omega arith in
    let filled = subst (IsFilled (its_code t) t.parts c.loop-block.counts.items) next c.loop-block.invariant in
    subst (HaveBranches (its_code t)) (sym c.deref.ensures.value)
    (branches-counted t c.blocks-block.ensures.code c.loop-block.counts.items k filled (omega (arith, c.blocks-block.ensures.value)))

pub standing_inside-inside-requires-clause-few : goal.standing_inside-inside-requires-clause-few
standing_inside-inside-requires-clause-few c =
    let t = c.args.self.now in
    let code = c.blocks-block.ensures.code in
    let k = c.loop-block.block - 1 in
    let low : k < length (its_code t).owners = omega (arith, c.blocks-block.ensures.value) in
    let next : c.loop-block.block ≡ k + 1 = omega arith in
    let filled = subst (IsFilled (its_code t) t.parts c.loop-block.counts.items) next c.loop-block.invariant in
    let e = inside-counted t code c.loop-block.counts.items k filled low in
    let s = standing-small t.graph code.accepted t.code code.there t.parts (few-of t code) (length (its_code t).owners) k low in
    let r = ap (λ xs. sum_by (at_vertex (its_code t) (slice_index xs)) (vertices_in (its_code t) k)) c.deref.ensures.value in
    omega (arith, e, s, r)

pub overflow_add-index_mut : goal.overflow_add-index_mut
overflow_add-index_mut c =
    let t = c.args.self.now in
    let code = c.blocks-block.ensures.code in
    let k = c.loop-block.block - 1 in
    let low : k < length (its_code t).owners = omega (arith, c.blocks-block.ensures.value) in
    let next : c.loop-block.block ≡ k + 1 = omega arith in
    let filled = subst (IsFilled (its_code t) t.parts c.loop-block.counts.items) next c.loop-block.invariant in
    let e = inside-counted t code c.loop-block.counts.items k filled low in
    let s = standing-small t.graph code.accepted t.code code.there t.parts (few-of t code) (length (its_code t).owners) k low in
    let r = ap (λ xs. sum_by (at_vertex (its_code t) (slice_index xs)) (vertices_in (its_code t) k)) c.deref.ensures.value in
    let b = c.loop-block.invariant.before k (omega arith) in
    let v = number-read c.loop-block.counts.items k c.index_mut.result.now (omega (arith, low, c.loop-block.invariant.long)) c.index_mut.ensures.value in
    omega (arith, e, s, r, b, v, c.standing_inside-inside.ensures.value)

pub loop-block-preserved : goal.loop-block-preserved
loop-block-preserved c =
    let t = c.args.self.now in
    let k = c.loop-block.block - 1 in
    let low : k < length (its_code t).owners = omega (arith, c.blocks-block.ensures.value) in
    let next : c.loop-block.block ≡ k + 1 = omega arith in
    let filled = subst (IsFilled (its_code t) t.parts c.loop-block.counts.items) next c.loop-block.invariant in
    let r = ap (λ xs. sum_by (at_vertex (its_code t) (slice_index xs)) (vertices_in (its_code t) k)) c.deref.ensures.value in
    let v = number-read c.loop-block.counts.items k c.index_mut.result.now (omega (arith, low, c.loop-block.invariant.long)) c.index_mut.ensures.value in
    subst (λ (n : ℕ). IsFilled (its_code t) t.parts (slice_set c.loop-block.counts.items k n) k)
    (sym (ap₂ (λ (m n : ℕ). m + n) v (c.standing_inside-inside.ensures.value ∙ r)))
    (filled-more t c.blocks-block.ensures.code c.loop-block.counts.items k filled low)

pub returns : goal.returns
returns c =
    let t = c.args.self.now in
    let zero : c.loop-block.block ≡ 0 = omega arith in
    let filled = subst (IsFilled (its_code t) t.parts c.loop-block.counts.items) zero c.loop-block.invariant in
    record { value = filled-last (its_code t) t.parts c.loop-block.counts.items filled }
