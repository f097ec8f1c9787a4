-- What the first tokens of the line say is what the line says.
use Rattle.std.proofs.Common.{◌≡◌, take, ap, ◌∙◌}
use Rattle.rv_asm.specs.Tokens.{tokens_of}
use Rattle.rv_asm.specs.PassView.{said}
use Rattle.rv_asm.specs.StatementView.{texts}
use Rattle.rv_asm.proofs.FirstTokens.{line_told, line_added}
use Rattle.rv_asm.proofs.pass.line_cause.Goals as goal

pub returns : goal.returns
returns c =
    let first : texts c.deref.result.now ≡ take 7 (tokens_of c.args.line.now) = ap texts c.deref.ensures.value ∙ c.in_ok-tokens.ensures.value in
    record {
      cause = line_told c.tokens_cause.result (said c.args.pass.now) c.args.line.now (texts c.deref.result.now) first c.tokens_cause.ensures.cause;
      said = line_added c.tokens_cause.result (said c.tokens_cause.new.pass) (said c.args.pass.now) c.args.number c.args.line.now (texts c.deref.result.now)
          first c.tokens_cause.ensures.said;
    }
