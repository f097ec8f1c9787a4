use Rattle.std.proofs.Common.{◌++◌, List, [], ◌∷◌, flat_map, append_assoc, sym, ap, ap₂, ◌∙◌}
use Rattle.std.proofs.lemmas.List.{map-append}
use Rattle.std.specs.declared.vec.Vec.{Vec}
use Rattle.std.specs.declared.alloc.Global.{Global}
use Rattle.tam_word.specs.Lists.{below}
use Rattle.tl0_code.specs.declared.instr.Instr.{Instr}
use Rattle.tl0_code.specs.ThreadCode.{Thread}
use Rattle.tl0_keep.specs.Compiled.{block_threads, block_entry}
use Rattle.tl0_emit.specs.CodeParts.{its_code}
use Rattle.tl0_emit.specs.Branches.{lists_of}
use Rattle.tl0_emit.proofs.ClassFlows.{map-more, flat-below_more}
use Rattle.tl0_emit.proofs.code_tables.CodeTables.push_blocks.Goals as goal

pub loop-block-preserved : goal.loop-block-preserved
loop-block-preserved c =
    let t = c.args.self.now in
    let b = c.loop-block.block in
    let old = c.args.threads.now.items in
    let threads = block_threads t.graph (its_code t) t.parts in
    let entry = block_entry (its_code t) t.parts in
    record {
      threads = c.in_ok-push_classes.ensures.ok
          ∙ (ap (λ (ts : List Thread). ts ++ threads b) c.loop-block.invariant.threads
          ∙ (append_assoc old (flat_map threads (below b)) (threads b) ∙ ap (λ (ts : List Thread). old ++ ts) (sym (flat-below_more threads b))));
      entries = ap lists_of c.in_ok-push.ensures.items
          ∙ (map-append (λ (v : Vec Instr Global). v.items) c.loop-block.entries.items (c.in_ok-push_classes.field-0 ∷ [])
          ∙ (ap₂ (λ (ls : List (List Instr)) (l : List Instr). ls ++ l ∷ []) c.loop-block.invariant.entries c.in_ok-push_classes.ensures.entry
          ∙ sym (map-more entry b)));
    }
