use Rattle.std.proofs.Common.{ℕ, ◌≡◌, ◌<◌, ◌+◌, ◌++◌, [], ◌∷◌, List, length, slice_index, ap, ap₂, ◌∙◌, arith}
use Rattle.tl0_code.specs.declared.instr.Instr.{Instr}
use Rattle.tl0_code.specs.declared.instr.Instr.TheVariants.{Skip}
use Rattle.tam_order.proofs.ClassNumbers.{length-numbers, numbers-at}
use Rattle.tl0_keep.specs.Compiled.{block_entry, switches_of, skipped_at, once}
use Rattle.tl0_keep.proofs.code.Standing.{skipped-small}
use Rattle.tl0_emit.specs.CodeParts.{CodeParts, its_code}
use Rattle.tl0_emit.specs.Branches.{AreBranchesOf, standing_at}
use Rattle.tl0_emit.specs.declared.connectors.Branches.{Branches}
use Rattle.tl0_emit.proofs.KnownParts.{few-of}
use Rattle.tl0_emit.proofs.StandingCounts.{number-read}
use Rattle.tl0_emit.proofs.EntryLists.{length-entries, entry-read}
use Rattle.tl0_emit.proofs.code_tables.CodeTables.cond_connector.Goals as goal

-- what is read of the switches
switches-read : (t : CodeParts) (b : Branches) → AreBranchesOf t b → (d : ℕ) → d < length (its_code t).nodes
    → (d < length b.switches.items) × (slice_index b.switches.items d ≡ switches_of (its_code t) d)
switches-read t b h d l =
    let many = ap (λ xs. length xs) h.switches in
    let n = length-numbers (switches_of (its_code t)) (length (its_code t).nodes) in
    (omega (arith, many, n, l), ap (λ xs. slice_index xs d) h.switches ∙ numbers-at (switches_of (its_code t)) (length (its_code t).nodes) d l)

-- and of what stands for a block
standing-read : (t : CodeParts) (b : Branches) → AreBranchesOf t b → (d : ℕ) → d < length (its_code t).owners
    → (d < length b.standing.items) × (slice_index b.standing.items d ≡ standing_at (its_code t) t.parts d)
standing-read t b h d l =
    let many = ap (λ xs. length xs) h.standing in
    let n = length-numbers (standing_at (its_code t) t.parts) (length (its_code t).owners) in
    (omega (arith, many, n, l), ap (λ xs. slice_index xs d) h.standing ∙ numbers-at (standing_at (its_code t) t.parts) (length (its_code t).owners) d l)

pub index-requires : goal.index-requires
index-requires c = let r = (switches-read c.args.self.now c.args.branches.now c.requires.branches c.args.cond c.requires.in_range).0 in omega (arith, r)

pub overflow_add-n : goal.overflow_add-n
overflow_add-n c =
    let t = c.args.self.now in
    let r = switches-read t c.args.branches.now c.requires.branches c.args.cond c.requires.in_range in
    let v = number-read c.args.branches.now.switches.items c.args.cond c.index.result.now r.0 c.index.ensures in
    let s = skipped-small t.graph c.requires.code.accepted t.code c.requires.code.there t.parts (few-of t c.requires.code) c.args.cond c.args.other
    c.requires.other in
    omega (arith, v, r.1, s)

pub index-requires-2 : goal.index-requires-2
index-requires-2 c = let r = (standing-read c.args.self.now c.args.branches.now c.requires.branches c.args.other c.requires.other).0 in omega (arith, r)

pub overflow_add-n-2 : goal.overflow_add-n-2
overflow_add-n-2 c =
    let t = c.args.self.now in
    let r = switches-read t c.args.branches.now c.requires.branches c.args.cond c.requires.in_range in
    let q = standing-read t c.args.branches.now c.requires.branches c.args.other c.requires.other in
    let v = number-read c.args.branches.now.switches.items c.args.cond c.index.result.now r.0 c.index.ensures in
    let w = number-read c.args.branches.now.standing.items c.args.other c.index-2.result.now q.0 c.index-2.ensures in
    let s = skipped-small t.graph c.requires.code.accepted t.code c.requires.code.there t.parts (few-of t c.requires.code) c.args.cond c.args.other
    c.requires.other in
    omega (arith, v, r.1, w, q.1, s)

pub index-requires-3 : goal.index-requires-3
index-requires-3 c =
    let t = c.args.self.now in
    let n = length-entries t c.args.branches.now.entries.items c.requires.branches.entries in
    omega (arith, n, c.requires.into)

pub returns : goal.returns
returns c =
    let t = c.args.self.now in
    let r = switches-read t c.args.branches.now c.requires.branches c.args.cond c.requires.in_range in
    let q = standing-read t c.args.branches.now c.requires.branches c.args.other c.requires.other in
    let v = number-read c.args.branches.now.switches.items c.args.cond c.index.result.now r.0 c.index.ensures in
    let w = number-read c.args.branches.now.standing.items c.args.other c.index-2.result.now q.0 c.index-2.ensures in
    let n : 1 + c.index.result.now + c.index-2.result.now ≡ skipped_at (its_code t) t.parts c.args.cond c.args.other = omega (arith, v, r.1, w, q.1) in
    let entry : c.deref.result.now ≡ block_entry (its_code t) t.parts c.args.into =
    c.deref.ensures.value
    ∙ entry-read t c.args.branches.now.entries.items c.requires.branches.entries c.args.into c.requires.into c.index-3.result.now c.index-3.ensures in
    let first : c.push.new.self.items ≡ Skip (1 + c.index.result.now + c.index-2.result.now) ∷ [] =
    c.in_ok-push.ensures.items ∙ ap (λ xs. xs ++ Skip (1 + c.index.result.now + c.index-2.result.now) ∷ []) c.new-instrs.ensures.items in
    let all : c.extend_from_slice.new.self.items ≡ Skip (skipped_at (its_code t) t.parts c.args.cond c.args.other) ∷ block_entry (its_code t) t.parts
    c.args.into =
    c.in_ok-extend_from_slice.ensures.items ∙ (ap₂ (λ (xs ys : List Instr). xs ++ ys) first entry ∙ ap (λ m. Skip m ∷ block_entry (its_code t) t.parts
    c.args.into) n) in
    record { value = c.of.ensures.value ∙ ap once all }
