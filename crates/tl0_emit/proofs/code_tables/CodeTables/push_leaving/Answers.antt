use Rattle.std.proofs.Common.{◌≡◌, ◌∙◌, ◌++◌, ap, ap₂, sym, subst, option_to_list, OnOk}
use Rattle.tam_graph.specs.Graphs.{code_of, block_at, owner_of}
use Rattle.tl0_keep.proofs.code.ClassInstrs.{gifts_to, leave-gifts}
use Rattle.tl0_keep.proofs.code.ThreadKinds.{merges_of}
use Rattle.tl0_emit.specs.CodeParts.{its_code}
use Rattle.tl0_emit.proofs.InstrFacts.{merge-there}
use Rattle.tl0_emit.proofs.code_tables.CodeTables.push_leaving.Goals as goal

-- what was found are the merges to which the `out` leads
merges-found : (c : goal.After-push_gift-arg-1) → option_to_list c.find_merge-merge.result ≡ merges_of (its_code c.args.self.now) c.args.place
    (owner_of (its_code c.args.self.now) (block_at (its_code c.args.self.now) c.args.node))
merges-found c =
    let code = its_code c.args.self.now in
    let block = c.block_at-block.ensures.value ∙ ap₂ (λ g n. block_at (code_of g n) c.args.node) c.graph.ensures.value c.number.ensures.value in
    c.find_merge-merge.ensures.value
    ∙ (ap₂ (λ g n. merges_of (code_of g n) c.args.place (owner_of (code_of g n) c.block_at-block.result)) c.program.ensures.value c.number-2.ensures.value
    ∙ ap (λ b. merges_of code c.args.place (owner_of code b)) block)

pub push_gift-requires-clause-inlet : goal.push_gift-requires-clause-inlet
push_gift-requires-clause-inlet c =
    let code = its_code c.args.self.now in
    merge-there code c.args.place (owner_of code (block_at code c.args.node)) c.find_merge-merge.result (merges-found c)

pub returns : goal.returns
returns c =
    let code = its_code c.args.self.now in
    let ps = c.args.self.now.parts in
    let owners = owner_of code (block_at code c.args.node) in
    let block = c.block_at-block.ensures.value ∙ ap₂ (λ g n. block_at (code_of g n) c.args.node) c.graph.ensures.value c.number.ensures.value in
    let merges = c.find_merge-merge.ensures.value
    ∙ (ap₂ (λ g n. merges_of (code_of g n) c.args.place (owner_of (code_of g n) c.block_at-block.result)) c.program.ensures.value c.number-2.ensures.value
    ∙ ap (λ b. merges_of code c.args.place (owner_of code b)) block) in
    record {
      ok = subst (λ is. OnOk c.push_gift.result (c.push_gift.new.instrs.items ≡ c.args.instrs.now.items ++ is))
          (ap (gifts_to code ps c.args.a) merges ∙ sym (leave-gifts code ps c.args.place c.args.a owners)) c.push_gift.ensures.ok;
    }
