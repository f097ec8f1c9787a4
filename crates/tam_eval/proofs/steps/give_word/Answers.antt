use Rattle.std.proofs.Common.{◌≡◌, ◌∙◌, sym, ap, ℕ, List, true, false}
use Rattle.tam_graph.specs.Graphs.{Graph, Code, code_of}
use Rattle.tam_world.specs.Worlds.{World, activation_at, its_code, has_word, got, changes}
use Rattle.tam_world.specs.Kept.{pairs_of}
use Rattle.tam_world.specs.Takers.{takers_of, takers_now}
use Rattle.tam_eval.specs.Machines.{EvalState, state_of}
use Rattle.tam_eval.specs.Effects.{effected}
use Rattle.tam_eval.specs.Waiting.{is_awaited}
use Rattle.tam_eval.proofs.Stepping.{state-got, ready-had, takers-first}
use Rattle.tam_eval.proofs.Accessors.{code-got}
use Rattle.tam_eval.proofs.VerticesLeft.{awaited-got}
use Rattle.tam_eval.proofs.KeepingCounts.{keeps-again, keeps-got, keeps-less, some-awaited}
use Rattle.tam_eval.proofs.steps.give_word.Goals as goal

-- the list that the code takes, in the world in which the node got its word, is that of the takers
takers-are : (g : Graph) (s : EvalState) (v : World) (i y u k : ℕ) (takers : List ℕ) → has_word s.world i y ≡ false → v ≡ got s.world i y u
    → k ≡ (activation_at v i).code → takers ≡ takers_of (code_of g k) y → takers ≡ takers_now g s.world i y
takers-are g s v i y u k takers none given code is =
    is ∙ ap (λ (n : ℕ). takers_of (code_of g n) y) code ∙ ap (λ (z : World). takers_of (its_code g z i) y) given
    ∙ ap (λ (c : Code). takers_of c y) (code-got s.world i y u g i) ∙ sym (takers-first g s i y none)

-- whether a node is awaited in the world in which it got its word
awaited-then : (g : Graph) (w v : World) (i y u : ℕ) → v ≡ got w i y u → is_awaited g v i y ≡ is_awaited g w i y
awaited-then g w v i y u is = ap (λ (z : World). is_awaited g z i y) is ∙ awaited-got g w i y u

pub returns-then-had-clause-value : goal.returns-then-had-clause-value
returns-then-had-clause-value c =
    let s = state_of c.args.machine.now in
    let had : has_word s.world c.args.at.activation c.args.at.node ≡ true = sym c.has_word-had.ensures.value ∙ c.if-had.true in
    state-got c.args.program.now s c.args.at.activation c.args.at.node c.args.word c.give.new.self s.ready c.in_ok-give.ensures.ok
    (ready-had c.args.program.now s c.args.at.activation c.args.at.node _ had)

pub returns-then-had-clause-counts : goal.returns-then-had-clause-counts
returns-then-had-clause-counts c =
    let s = state_of c.args.machine.now in
    let t : EvalState = record s { world = c.give.new.self } in
    let had : has_word s.world c.args.at.activation c.args.at.node ≡ true = sym c.has_word-had.ensures.value ∙ c.if-had.true in
    keeps-again c.args.program.now s t c.args.at.activation c.args.at.node c.args.word
    (state-got c.args.program.now s c.args.at.activation c.args.at.node c.args.word c.give.new.self s.ready c.in_ok-give.ensures.ok
    (ready-had c.args.program.now s c.args.at.activation c.args.at.node _ had)) c.args.machine.now.left had

pub less-requires : goal.less-requires
less-requires c =
    let g = c.args.program.now in
    let s = state_of c.args.machine.now in
    let i = c.args.at.activation in
    let y = c.args.at.node in
    let none : has_word s.world i y ≡ false = sym c.has_word-had.ensures.value ∙ c.if-had.false in
    let takers = takers-are g s c.give.new.self i y c.args.word c.of-standing.result.code c.takers-takers.result.now none
    c.in_ok-give.ensures.ok c.of-standing.ensures.value.code c.takers-takers.ensures.value in
    let awaited : is_awaited g s.world i y ≡ true = sym (awaited-then g s.world c.give.new.self i y c.args.word c.in_ok-give.ensures.ok) ∙ sym
    (c.is_awaited-awaited.ensures.value c.give.new.self i c.of-standing.ensures.value) ∙ c.if-awaited.true in
    let is : record s { world = c.give.new.self; ready = pairs_of c.ready_among.new.ready.items } ≡ effected g s (changes (got s.world i y c.args.word)) =
    state-got g s i y c.args.word c.give.new.self (pairs_of c.ready_among.new.ready.items) c.in_ok-give.ensures.ok
    (rw takers at (c.in_ok-ready_among.ensures.ok c.args.program.now c.give.new.self c.of-standing.ensures.value)) in
    record {
      some = some-awaited g s (record s { world = c.give.new.self; ready = pairs_of c.ready_among.new.ready.items }) i y c.args.word is
          c.args.machine.now.left none awaited (c.requires.covered.least i);
    }

pub returns-then-awaited-clause-value : goal.returns-then-awaited-clause-value
returns-then-awaited-clause-value c =
    let g = c.args.program.now in
    let s = state_of c.args.machine.now in
    let i = c.args.at.activation in
    let y = c.args.at.node in
    let none : has_word s.world i y ≡ false = sym c.has_word-had.ensures.value ∙ c.if-had.false in
    let takers = takers-are g s c.give.new.self i y c.args.word c.of-standing.result.code c.takers-takers.result.now none
    c.in_ok-give.ensures.ok c.of-standing.ensures.value.code c.takers-takers.ensures.value in
    state-got g s i y c.args.word c.give.new.self (pairs_of c.ready_among.new.ready.items) c.in_ok-give.ensures.ok
    (rw takers at (c.in_ok-ready_among.ensures.ok c.args.program.now c.give.new.self c.of-standing.ensures.value))

pub returns-else-awaited-clause-value : goal.returns-else-awaited-clause-value
returns-else-awaited-clause-value c =
    let g = c.args.program.now in
    let s = state_of c.args.machine.now in
    let i = c.args.at.activation in
    let y = c.args.at.node in
    let none : has_word s.world i y ≡ false = sym c.has_word-had.ensures.value ∙ c.if-had.false in
    let takers = takers-are g s c.give.new.self i y c.args.word c.of-standing.result.code c.takers-takers.result.now none
    c.in_ok-give.ensures.ok c.of-standing.ensures.value.code c.takers-takers.ensures.value in
    state-got g s i y c.args.word c.give.new.self (pairs_of c.ready_among.new.ready.items) c.in_ok-give.ensures.ok
    (rw takers at (c.in_ok-ready_among.ensures.ok c.args.program.now c.give.new.self c.of-standing.ensures.value))

pub returns-then-awaited-clause-counts : goal.returns-then-awaited-clause-counts
returns-then-awaited-clause-counts c =
    let g = c.args.program.now in
    let s = state_of c.args.machine.now in
    let i = c.args.at.activation in
    let y = c.args.at.node in
    let none : has_word s.world i y ≡ false = sym c.has_word-had.ensures.value ∙ c.if-had.false in
    let takers = takers-are g s c.give.new.self i y c.args.word c.of-standing.result.code c.takers-takers.result.now none
    c.in_ok-give.ensures.ok c.of-standing.ensures.value.code c.takers-takers.ensures.value in
    let awaited : is_awaited g s.world i y ≡ true = sym (awaited-then g s.world c.give.new.self i y c.args.word c.in_ok-give.ensures.ok) ∙ sym
    (c.is_awaited-awaited.ensures.value c.give.new.self i c.of-standing.ensures.value) ∙ c.if-awaited.true in
    let t : EvalState = record s { world = c.give.new.self; ready = pairs_of c.ready_among.new.ready.items } in
    let is : t ≡ effected g s (changes (got s.world i y c.args.word)) =
    state-got g s i y c.args.word c.give.new.self (pairs_of c.ready_among.new.ready.items) c.in_ok-give.ensures.ok
    (rw takers at (c.in_ok-ready_among.ensures.ok c.args.program.now c.give.new.self c.of-standing.ensures.value)) in
    let l = c.args.machine.now.left in
    rw c.less.ensures.value (keeps-less g s t i y c.args.word is l none awaited
    (some-awaited g s t i y c.args.word is l none awaited (c.requires.covered.least i)))

pub returns-else-awaited-clause-counts : goal.returns-else-awaited-clause-counts
returns-else-awaited-clause-counts c =
    let g = c.args.program.now in
    let s = state_of c.args.machine.now in
    let i = c.args.at.activation in
    let y = c.args.at.node in
    let none : has_word s.world i y ≡ false = sym c.has_word-had.ensures.value ∙ c.if-had.false in
    let takers = takers-are g s c.give.new.self i y c.args.word c.of-standing.result.code c.takers-takers.result.now none
    c.in_ok-give.ensures.ok c.of-standing.ensures.value.code c.takers-takers.ensures.value in
    let unawaited : is_awaited g s.world i y ≡ false = sym (awaited-then g s.world c.give.new.self i y c.args.word c.in_ok-give.ensures.ok) ∙ sym
    (c.is_awaited-awaited.ensures.value c.give.new.self i c.of-standing.ensures.value) ∙ c.if-awaited.false in
    let t : EvalState = record s { world = c.give.new.self; ready = pairs_of c.ready_among.new.ready.items } in
    let is : t ≡ effected g s (changes (got s.world i y c.args.word)) =
    state-got g s i y c.args.word c.give.new.self (pairs_of c.ready_among.new.ready.items) c.in_ok-give.ensures.ok
    (rw takers at (c.in_ok-ready_among.ensures.ok c.args.program.now c.give.new.self c.of-standing.ensures.value)) in
    keeps-got g s t i y c.args.word is c.args.machine.now.left none unawaited
