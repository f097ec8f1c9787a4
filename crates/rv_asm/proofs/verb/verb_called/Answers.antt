-- A verb that the token doesn't write is passed.
use Rattle.std.proofs.Common.{◌≡◌, get_or, sym}
use Rattle.rv_asm.specs.declared.verb.TheConstants.{VERBS}
use Rattle.rv_asm.specs.declared.verb.Verb.TheVariants.{Register}
use Rattle.rv_inst.specs.declared.r_name.RName.TheVariants.{Add}
use Rattle.rv_asm.specs.InstNames.{verb_text}
use Rattle.rv_asm.proofs.Called.{another_verb, this_verb}
use Rattle.rv_asm.proofs.verb.verb_called.Goals as goal

pub loop-verb-preserved : goal.loop-verb-preserved
loop-verb-preserved c =
    let is : c.verb_text.result.now ≡ verb_text (get_or VERBS c.loop-verb.verb-index (Register Add)) = c.verb_text.ensures.value in
    another_verb c.args.token.now c.verb_text.result.now c.loop-verb.verb-index (Register Add) c.loop-verb-test.true is (sym c.if-is_same.ensures.value)
    c.loop-verb.invariant

pub returns-then-is_same : goal.returns-then-is_same
returns-then-is_same c =
    let is : c.verb_text.result.now ≡ verb_text (get_or VERBS c.loop-verb.verb-index (Register Add)) = c.verb_text.ensures.value in
    record {
      value = this_verb c.args.token.now c.verb_text.result.now c.loop-verb.verb-index (Register Add) c.loop-verb-test.true is (sym c.if-is_same.ensures.value)
          c.loop-verb.invariant;
    }
