use Rattle.std.proofs.Common.{◌≡◌, ◌++◌, List, [], ◌∷◌, map, append_assoc, length, sym, ap, ap₂, subst, ◌∙◌, arith}
use Rattle.std.specs.Result.{IfOk}
use Rattle.tam_word.specs.Lists.{below}
use Rattle.tam_split.specs.Blocks.{block_graph}
use Rattle.tl0_code.specs.ThreadCode.{Thread}
use Rattle.tam_order.proofs.ClassNumbers.{length-numbers}
use Rattle.tl0_keep.specs.Compiled.{waits_for, entry_classes, block_entry, class_thread, parts_at}
use Rattle.tl0_emit.specs.CodeParts.{its_code}
use Rattle.tl0_emit.specs.BlockTables.{first_thread}
use Rattle.tl0_emit.specs.BlockFlows.{forks_from, waiting_for_none}
use Rattle.tl0_emit.proofs.ClassFlows.{waiting-entry, map-more}
use Rattle.tl0_emit.proofs.code_tables.CodeTables.push_classes.Goals as goal

pub loop-k-preserved : goal.loop-k-preserved
loop-k-preserved c =
    let t = c.args.self.now in
    let b = c.args.block in
    let thread = class_thread t.graph (its_code t) t.parts b (block_graph (its_code t) b) (parts_at t.parts b) in
    c.in_ok-push.ensures.items
    ∙ (ap₂ (λ (ts : List Thread) (u : Thread). ts ++ u ∷ []) c.loop-k.invariant c.in_ok-class_thread.ensures.value
    ∙ (append_assoc c.args.threads.now.items (map thread (below c.loop-k.k)) (thread c.loop-k.k ∷ [])
    ∙ ap (λ l. c.args.threads.now.items ++ l) (sym (map-more thread c.loop-k.k))))

pub forks_of_entry-requires : goal.forks_of_entry-requires
forks_of_entry-requires c =
    let n = length-numbers (waits_for c.block.result.now c.parts-parts.result.now) (length c.parts-parts.result.now) in
    let e = ap (λ xs. length xs) (c.deref.ensures.value ∙ c.in_ok-flow.ensures.value.waits) in
    let p = ap (λ ps. length ps) c.parts-parts.ensures.value in
    record { few = omega (arith, n, e, p, c.first_thread.ensures.few) }

pub returns-clause-entry : goal.returns-clause-entry
returns-clause-entry c =
    let t = c.args.self.now in
    let b = c.args.block in
    let waits = c.deref.ensures.value ∙ c.in_ok-flow.ensures.value.waits in
    let same : forks_from c.first_thread.result (waiting_for_none c.deref.result.now) ≡ block_entry (its_code t) t.parts b =
    ap (λ f. forks_from f (waiting_for_none c.deref.result.now)) c.first_thread.ensures.value
    ∙ ap (forks_from (first_thread t.parts b)) (waiting-entry c.block.result.now c.parts-parts.result.now c.deref.result.now waits
    ∙ ap₂ entry_classes c.block.ensures.value c.parts-parts.ensures.value) in
    subst (λ l. IfOk c.forks_of_entry.result (λ forks. forks.items ≡ l)) same c.forks_of_entry.ensures.value
