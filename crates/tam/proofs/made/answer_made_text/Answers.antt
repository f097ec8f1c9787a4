use Rattle.std.proofs.Common.{refl, ◌≡◌, ◌≤◌, ◌∙◌, ℕ, length, sym, subst, arith}
use Rattle.tam_graph.specs.Graphs.{code_of, params_of}
use Rattle.tam_graph.specs.Reading.{Reads}
use Rattle.tam_graph.specs.Accepted.{IsAccepted}
use Rattle.tam_make.specs.MadeTexts.{made_text}
use Rattle.tam_read.specs.declared.cause.ReadCause.{ReadCause}
use Rattle.tam_read.specs.declared.refused.Refused.TheVariants as read
use Rattle.tam_input.specs.declared.ending.Ending.TheVariants.{NoMemory}
use Rattle.tam_input.specs.Refusing.{no_memory_line}
use Rattle.tam.specs.MadeRuns.{SaysMade, no_graph}
use Rattle.tam.proofs.Saying.{said-done}
use Rattle.tam.proofs.MadeShort.{made-short}
use Rattle.tam.proofs.Running.{said-unanswered}
use Rattle.tam.proofs.Handing.{unanswered-made}
use Rattle.tam.proofs.made.answer_made_text.Goals as goal

-- a fault is no want of memory
fault-wanting : (line : ℕ) (cause : ReadCause) → read.At line cause ≡ read.NoMemory → ⊥
fault-wanting line cause e = cc

pub read-requires : goal.read-requires
read-requires g c = record { short = subst (λ t. length t ≤ 1048576) (sym c.requires.made) (made-short c.args.shape c.args.n c.requires.in_range) }

pub overflow_cast-text : goal.overflow_cast-text
overflow_cast-text g c =
    let short = subst (λ t. length t ≤ 1048576) (sym c.requires.made) (made-short c.args.shape c.args.n c.requires.in_range) in
    omega (arith, short)

pub answer_made_graph-requires-clause-accepted : goal.answer_made_graph-requires-clause-accepted
answer_made_graph-requires-clause-accepted g c =
    let m = c.law_made.ensures.accepted c.args.shape c.args.n c.requires.in_range in
    subst IsAccepted (sym (c.in-Ok.ensures.complete m.0 (subst (λ t. Reads t m.0) (sym c.requires.made) m.1))) m.2

pub answer_made_graph-requires-clause-one_param : goal.answer_made_graph-requires-clause-one_param
answer_made_graph-requires-clause-one_param g c =
    let m = c.law_made.ensures.accepted c.args.shape c.args.n c.requires.in_range in
    subst (λ k. params_of (code_of k k.main) ≡ 1) (sym (c.in-Ok.ensures.complete m.0 (subst (λ t. Reads t m.0) (sym c.requires.made) m.1))) m.3

pub unreachable-requires : goal.unreachable-requires
unreachable-requires g c =
    let m = c.law_made.ensures.accepted c.args.shape c.args.n c.requires.in_range in
    fault-wanting c.in-Err-At.field-0-0 c.in-Err-At.field-0-1
    (sym c.in-Err-At.field-0-is ∙ c.in-Err-At.ensures.complete m.0 (subst (λ t. Reads t m.0) (sym c.requires.made) m.1))

pub returns-in-Err-NoMemory : goal.returns-in-Err-NoMemory
returns-in-Err-NoMemory g c = record {
  done = said-done _ _ _ _ (SaysMade c.args.shape c.args.n) NoMemory c.say_no_memory.result _ no_graph c.say_no_memory.ensures.said;
  machine = unanswered-made c.law_made.ensures.accepted c.args.shape c.args.n c.requires.in_range c.say_no_memory.result c.args.machine.now
      (said-unanswered NoMemory c.say_no_memory.result no_memory_line _ _ _ _ c.say_no_memory.ensures.said refl);
}

pub returns-in-Ok-clause-machine : goal.returns-in-Ok-clause-machine
returns-in-Ok-clause-machine g c =
    let m = c.law_made.ensures.accepted c.args.shape c.args.n c.requires.in_range in
    let same : c.in-Ok.found.graph ≡ m.0 = c.in-Ok.ensures.complete m.0 (subst (λ t. Reads t m.0) (sym c.requires.made) m.1) in (
      c.in-Ok.found.graph,
      record { reads = subst (λ k. Reads (made_text c.args.shape c.args.n) k) (sym same) m.1; accepted = subst IsAccepted (sym same) m.2 },
      c.answer_made_graph.ensures.machine,
    )
