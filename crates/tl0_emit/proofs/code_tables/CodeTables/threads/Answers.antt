use Rattle.std.proofs.Common.{ℕ, ◌≡◌, ◌<◌, ◌++◌, List, [], ◌∷◌, flat_map, append_assoc, length, sym, ap, ap₂, ◌∙◌}
use Rattle.std.proofs.lemmas.List.{append-nil}
use Rattle.tam_word.specs.Lists.{below}
use Rattle.tam_word.proofs.Tests.{below-test}
use Rattle.tam_graph.specs.Graphs.{blocks_of, kind_at}
use Rattle.tam_graph.proofs.BranchBlocks.{has-body}
use Rattle.tl0_code.specs.ThreadCode.{Thread}
use Rattle.tl0_keep.specs.Compiled.{once, block_entry, block_threads, connectors_at}
use Rattle.tl0_emit.specs.CodeParts.{its_code}
use Rattle.tl0_emit.proofs.ClassFlows.{flat-below_more}
use Rattle.tl0_emit.proofs.EntryLists.{entry-read}
use Rattle.tl0_emit.proofs.code_tables.CodeTables.threads.Goals as goal

pub loop-node-init : goal.loop-node-init
loop-node-init c =
    let t = c.args.self.now in
    let cd = its_code t in
    let code = c.code.ensures.code in
    let body : 0 < length cd.owners = has-body (length t.graph.codes) cd (code.accepted.written t.code (below-test t.code (length t.graph.codes) code.there)) in
    let classes = flat_map (block_threads t.graph cd t.parts) (blocks_of cd) in
    let entry : c.in_ok-from_slice.field-0.items ≡ block_entry cd t.parts 0 =
    c.in_ok-from_slice.ensures.items
    ∙ (c.deref.ensures.value ∙ entry-read t c.in_ok-entries.entries.items c.in_ok-entries.ensures.entries 0 body c.index.result.now c.index.ensures) in
    let first : c.push.new.self.items ≡ once (block_entry cd t.parts 0) ∷ [] =
    c.in_ok-push.ensures.items ∙ ap₂ (λ (ts : List Thread) (u : Thread). ts ++ u ∷ []) c.new-threads.ensures.items (c.of.ensures.value ∙ ap once entry) in
    let made : c.push_blocks.new.threads.items ≡ classes =
    c.in_ok-entries.ensures.ok ∙ ap (λ (ts : List Thread). ts ++ classes) c.new-classes.ensures.items in
    c.in_ok-append.ensures.items
    ∙ (ap₂ (λ (ts us : List Thread). ts ++ us) first made ∙ ap (λ (ts : List Thread). once (block_entry cd t.parts 0) ∷ ts) (sym (append-nil classes)))

pub loop-node-preserved : goal.loop-node-preserved
loop-node-preserved c =
    let t = c.args.self.now in
    let cd = its_code t in
    let n = c.loop-node.node in
    let classes = flat_map (block_threads t.graph cd t.parts) (blocks_of cd) in
    let connectors = λ (x : ℕ). connectors_at cd t.parts x (kind_at cd x) in
    c.in_ok-push_connectors.ensures.ok
    ∙ (ap (λ (ts : List Thread). ts ++ connectors n) c.loop-node.invariant
    ∙ ap (λ (ts : List Thread). once (block_entry cd t.parts 0) ∷ ts) (append_assoc classes (flat_map connectors (below n)) (connectors n)
    ∙ ap (λ (ts : List Thread). classes ++ ts) (sym (flat-below_more connectors n))))
