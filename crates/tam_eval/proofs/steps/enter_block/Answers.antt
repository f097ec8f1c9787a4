use Rattle.std.proofs.Common.{◌≡◌, ◌∙◌, ◌+◌, ◌≤◌, sym, ap, ap₂, ℕ, length, true, false, not, arith}
use Rattle.std.specs.Prelude.{count_by}
use Rattle.std.proofs.lemmas.List.{length-map}
use Rattle.tam_graph.specs.Graphs.{code_of}
use Rattle.tam_world.specs.Worlds.{its_code, has_word, has_entered, entered, changes}
use Rattle.tam_world.specs.Kept.{pair_of, pairs_of}
use Rattle.tam_world.specs.Takers.{firers_in, inlets_in, firers_now}
use Rattle.tam_eval.specs.Machines.{EvalState, state_of}
use Rattle.tam_eval.specs.Effects.{effected}
use Rattle.tam_eval.proofs.Stepping.{state-entered, ready-in, firers-first}
use Rattle.tam_eval.proofs.KeepingCounts.{keeps-entered_again, keeps-more, left-most, same-empty}
use Rattle.tam_eval.proofs.steps.enter_block.Goals as goal

pub returns-then-had-clause-value : goal.returns-then-had-clause-value
returns-then-had-clause-value c =
    let s = state_of c.args.machine.now in
    let had : has_entered s.world c.args.i c.args.block ≡ true = sym c.has_entered-had.ensures.value ∙ c.if-had.true in
    state-entered c.args.program.now s c.args.i c.args.block c.enter.new.self s.ready c.in_ok-enter.ensures.ok
    (ready-in c.args.program.now s c.args.i c.args.block _ had)

pub returns-then-had-clause-counts : goal.returns-then-had-clause-counts
returns-then-had-clause-counts c =
    let s = state_of c.args.machine.now in
    let had : has_entered s.world c.args.i c.args.block ≡ true = sym c.has_entered-had.ensures.value ∙ c.if-had.true in
    keeps-entered_again c.args.program.now s (record s { world = c.enter.new.self }) c.args.i c.args.block
    (state-entered c.args.program.now s c.args.i c.args.block c.enter.new.self s.ready c.in_ok-enter.ensures.ok
    (ready-in c.args.program.now s c.args.i c.args.block _ had)) c.args.machine.now.left had

pub more-requires : goal.more-requires
more-requires c =
    let s = state_of c.args.machine.now in
    let g = c.args.program.now in
    let most = left-most g s.world s.ready c.args.i in
    let few : length (its_code g s.world c.args.i).nodes ≤ 1024 = rw c.code_at-code.ensures.value at c.block_inlets.ensures.few in
    let ready : length s.ready ≡ length c.args.machine.now.ready.items = length-map c.args.machine.now.ready.items pair_of in
    record {
      room = omega (
        arith,
        c.requires.covered.most c.args.i,
        most,
        few,
        ready,
        c.args.machine.now.ready.ok.0,
        c.args.machine.now.ready.small.0,
        c.args.machine.now.ready.small.1,
        c.empty_among-empty.ensures.few,
        c.block_inlets.type_inv.1,
        c.firers-firers.type_inv.1,
      );
    }

pub returns-clause-value : goal.returns-clause-value
returns-clause-value c =
    let s = state_of c.args.machine.now in
    let g = c.args.program.now in
    let had : has_entered s.world c.args.i c.args.block ≡ false = sym c.has_entered-had.ensures.value ∙ c.if-had.false in
    let list_is : c.firers-firers.result.now ≡ firers_now g s.world c.args.i c.args.block =
    (c.firers-firers.ensures.value ∙ ap (λ (k : ℕ). firers_in (code_of c.args.program.now k) c.args.block) c.code_at-code.ensures.value)
    ∙ sym (firers-first g s c.args.i c.args.block had) in
    state-entered g s c.args.i c.args.block c.enter.new.self (pairs_of c.ready_at.new.ready.items) c.in_ok-enter.ensures.ok
    (rw list_is at c.in_ok-ready_at.ensures.ok)

pub returns-clause-counts : goal.returns-clause-counts
returns-clause-counts c =
    let s = state_of c.args.machine.now in
    let g = c.args.program.now in
    let i = c.args.i in
    let b = c.args.block in
    let had : has_entered s.world i b ≡ false = sym c.has_entered-had.ensures.value ∙ c.if-had.false in
    let firers : c.firers-firers.result.now ≡ firers_in (its_code g s.world i) b =
    (c.firers-firers.ensures.value ∙ ap (λ (k : ℕ). firers_in (code_of c.args.program.now k) b) c.code_at-code.ensures.value) in
    let inlets : c.block_inlets.result.now ≡ inlets_in (its_code g s.world i) b = rw c.code_at-code.ensures.value at c.block_inlets.ensures.value in
    let t : EvalState = record s { world = c.enter.new.self; ready = pairs_of c.ready_at.new.ready.items } in
    let is : t ≡ effected g s (changes (entered s.world i b)) =
    state-entered g s i b c.enter.new.self (pairs_of c.ready_at.new.ready.items) c.in_ok-enter.ensures.ok
    (rw (firers ∙ sym (firers-first g s i b had)) at c.in_ok-ready_at.ensures.ok) in
    let empty : c.empty_among-empty.result ≡ count_by (λ x. not (has_word s.world i x)) (inlets_in (its_code g s.world i) b) =
    rw (inlets, c.in_ok-enter.ensures.ok) at c.empty_among-empty.ensures.value ∙ same-empty g s t i b is c.args.machine.now.left in
    rw c.more.ensures.value (keeps-more g s t i b is c.args.machine.now.left had c.requires.covered.one_each
    (length c.firers-firers.result.now + c.empty_among-empty.result) (ap₂ (λ m n. m + n) (ap length firers) empty))
